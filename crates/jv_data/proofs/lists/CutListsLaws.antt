-- A file whose lists are cut to a length: each window shows what the cut leaves of it, and counts have followed.
use Rattle.std.proofs.Common.{◌≡◌, ◌≢◌, ℕ, ◌+◌, ◌-◌, ◌*◌, ◌/◌, ◌%◌, ◌<◌, ◌≤◌, ◌^◌, ◌⊎◌, inl, inr, Bool, true, false, cond, List, [], ◌∷◌, ◌++◌, length, None, Some, Ok, refl, sym, ap, subst, ◌∙◌, arith}
use Rattle.std.specs.Prelude.{◌==◌, ◌&&◌, ◌||◌, not, nat_le, nat_lt, if◌then◌else◌, IsTrue}
use Rattle.std.specs.List.{AllByRecursion}
use Rattle.std.proofs.lemmas.Bool.{cases_eq, cases_lt, cond-true, cond-false, lt-leb, le-leb, eq-eqb, ne_eqb}
use Rattle.std.proofs.lemmas.List.{length-append}
use Rattle.jv_model.specs.declared.tables.TheConstants.{TABLE_OF_LISTS, TABLE_OF_SLICES, TABLE_OF_DEAD}
use Rattle.jv_model.specs.declared.limits.TheConstants.{WINDOW}
use Rattle.jv_model.specs.declared.row.RowKey.{RowKey}
use Rattle.jv_model.specs.declared.row.Row.TheVariants.{OfList}
use Rattle.jv_model.specs.declared.slice.Rec.{Rec}
use Rattle.jv_model.specs.promise.FiniteMap.{get}
use Rattle.jv_model.specs.FiniteMap.{alter}
use Rattle.jv_model.specs.promise.blocks.Slices.{IsRecord}
use Rattle.jv_model.specs.promise.rows.RowKeys.{row_key}
use Rattle.jv_model.specs.promise.rows.RowPlaces.{list_key}
use Rattle.jv_model.specs.promise.Lists.{is_nil}
use Rattle.jv_rows.specs.Counts.{is_named, Recounted, Adjusted}
use Rattle.jv_volume.specs.promise.TypedRows.{Rows}
use Rattle.jv_volume.specs.promise.Views.{row_in, records_in, lists_of}
use Rattle.jv_volume.specs.promise.Slices.{listed, records_naming}
use Rattle.jv_volume.proofs.maps.MapLaws.{get-alter-apart}
use Rattle.jv_volume_bytes.specs.Counts.{HadSize}
use Rattle.jv_volume_bytes.specs.Places.{Lists, with_list, zero_record, cut_list}
use Rattle.jv_volume_bytes.proofs.BehindLaws.{naming-append, behind-as}
use Rattle.jv_volume_bytes.proofs.CountLaws.{ListsMove, move-list}
use Rattle.jv_volume_bytes.proofs.CutLaws.{zero-is, all-push, cut_list-inside}
use Rattle.jv_volume_bytes.proofs.PlaceLaws.{cut_list-below, cut_list-past}
use Rattle.jv_data.specs.Truncating.{rows_ended}
use Rattle.jv_data.proofs.files.BesideLaws.{Beside, beside-none, beside-alter, list_is_row}
use Rattle.jv_data.proofs.lists.ListRowLaws.{get-other, list_is, lists_of-list}

-- ---- the list that a length lies inside of

abbrev pub list_ended : ℕ → List Rec → List Rec
list_ended pos [] = []
list_ended pos (r ∷ rs) = (if pos == 0 then r ∷ rs else (r ∷ rs) ++ zero_record pos ∷ [])

-- the record that came
abbrev pub came : ℕ → List Rec → List Rec
came pos [] = []
came pos (r ∷ rs) = (if pos == 0 then [] else zero_record pos ∷ [])

pub came-naming : (pos : ℕ) (l : List Rec) (id : ℕ) → 0 < id → records_naming id (came pos l) ≡ 0
came-naming pos [] id some = refl
came-naming pos (r ∷ rs) id some = by_pos (pos == 0)
  where
    by_pos : (b : Bool) → records_naming id (if b then [] else zero_record pos ∷ []) ≡ 0
    by_pos true = refl
    by_pos false = ap (λ b. 0 + cond b 1 0) (ne_eqb 0 id (λ e. absurd (omega (arith, e, some))))

pub came-few : (pos : ℕ) (l : List Rec) → length (came pos l) ≤ 1
came-few pos [] = omega arith
came-few pos (r ∷ rs) = by_pos (pos == 0)
  where
    by_pos : (b : Bool) → length (if b then [] else zero_record pos ∷ []) ≤ 1
    by_pos true = omega arith
    by_pos false = omega arith

module _ (inode window pos : ℕ) (middle : Rows) where
  abbrev key : RowKey
  key = list_key inode window

  abbrev ended : List Rec → Rows
  ended l = rows_ended inode window pos l middle

  pub get-ended : (l : List Rec) (k : RowKey) → (k.tab == TABLE_OF_LISTS) ≡ false → get (ended l) k ≡ get middle k
  get-ended [] k other = refl
  get-ended (r ∷ rs) k other = by_pos (pos == 0)
    where
      by_pos : (b : Bool) → get (if b then middle else alter middle key (Some (Ok (OfList ((r ∷ rs) ++ zero_record pos ∷ []))))) k ≡ get middle k
      by_pos true = refl
      by_pos false = get-other middle key (Some (Ok (OfList ((r ∷ rs) ++ zero_record pos ∷ [])))) k other

  pub get-ended-file : (l : List Rec) (k : RowKey) → k.a ≢ inode → get (ended l) k ≡ get middle k
  get-ended-file [] k apart = refl
  get-ended-file (r ∷ rs) k apart = by_pos (pos == 0)
    where
      by_pos : (b : Bool) → get (if b then middle else alter middle key (Some (Ok (OfList ((r ∷ rs) ++ zero_record pos ∷ []))))) k ≡ get middle k
      by_pos true = refl
      by_pos false = get-alter-apart row_key middle key (Some (Ok (OfList ((r ∷ rs) ++ zero_record pos ∷ [])))) k (λ same. apart (ap (λ (k : RowKey). k.a) same))

  pub beside-ended : (l : List Rec) → Beside middle (ended l)
  beside-ended [] = beside-none middle
  beside-ended (r ∷ rs) = by_pos (pos == 0)
    where
      by_pos : (b : Bool) → Beside middle (if b then middle else alter middle key (Some (Ok (OfList ((r ∷ rs) ++ zero_record pos ∷ [])))))
      by_pos true = beside-none middle
      by_pos false = beside-alter middle key (Some (Ok (OfList ((r ∷ rs) ++ zero_record pos ∷ [])))) refl (list_is_row inode window ((r ∷ rs) ++ zero_record pos ∷ []))

  pub lists_of-ended-file : (l : List Rec) (other u : ℕ) → other ≢ inode → lists_of (ended l) other u ≡ lists_of middle other u
  unfolding lists_of
  lists_of-ended-file l other u apart = ap (λ c. if nat_lt u (2 ^ 32) then records_in (row_in c) else []) (get-ended-file l (list_key other u) apart)

  module _ (low : window < 2 ^ 32) where
    pub shows-ended : (l : List Rec) → l ≡ lists_of middle inode window → (u : ℕ)
        → lists_of (ended l) inode u ≡ with_list window (list_ended pos l) (lists_of middle inode) u
    shows-ended [] is u = same (cases_eq u window)
      where
        same : (u ≡ window) ⊎ (u ≢ window) → lists_of middle inode u ≡ with_list window [] (lists_of middle inode) u
        same (inl here) = ap (lists_of middle inode) here ∙ sym is ∙ sym (cond-true _ _ _ (eq-eqb u window here))
        same (inr apart) = sym (cond-false _ _ _ (ne_eqb u window apart))
    shows-ended (r ∷ rs) is u = by_pos (pos == 0)
      where
        same : (u ≡ window) ⊎ (u ≢ window) → lists_of middle inode u ≡ with_list window (r ∷ rs) (lists_of middle inode) u
        same (inl here) = ap (lists_of middle inode) here ∙ sym is ∙ sym (cond-true _ _ _ (eq-eqb u window here))
        same (inr apart) = sym (cond-false _ _ _ (ne_eqb u window apart))

        by_pos : (b : Bool) → lists_of (if b then middle else alter middle key (Some (Ok (OfList ((r ∷ rs) ++ zero_record pos ∷ []))))) inode u
            ≡ with_list window (if b then r ∷ rs else (r ∷ rs) ++ zero_record pos ∷ []) (lists_of middle inode) u
        by_pos true = same (cases_eq u window)
        by_pos false = lists_of-list middle inode window low (Some (Ok (OfList ((r ∷ rs) ++ zero_record pos ∷ [])))) u

    -- counts lag behind by the record that came, which names no slice
    pub move-ended : (start : Rows) → ListsMove start middle [] [] → pos < WINDOW → (l : List Rec) → l ≡ lists_of middle inode window
        → ListsMove start (ended l) [] (came pos l)
    move-ended start m inside [] is = m
    move-ended start m inside (r ∷ rs) is = by_pos (pos == 0)
      where
        l : List Rec
        l = r ∷ rs

        stood : listed key (get middle key) ≡ l
        stood = sym (list_is middle inode window low None) ∙ sym is

        moved : ListsMove start (alter middle key (Some (Ok (OfList (l ++ zero_record pos ∷ []))))) (listed key (get middle key)) (l ++ zero_record pos ∷ [])
        moved = move-list start middle [] [] key (Some (Ok (OfList (l ++ zero_record pos ∷ [])))) refl m
            (all-push IsRecord l (zero_record pos) (subst (AllByRecursion IsRecord) stood (m.records key)) (zero-is pos inside))
            (all-push (λ r. r.id ≢ 0 → HadSize start r.id r.size) l (zero_record pos)
            (subst (AllByRecursion (λ r. r.id ≢ 0 → HadSize start r.id r.size)) stood (m.names key)) (λ named. absurd (named refl)))

        by_pos : (b : Bool) → ListsMove start (if b then middle else alter middle key (Some (Ok (OfList (l ++ zero_record pos ∷ []))))) [] (if b then [] else zero_record pos ∷ [])
        by_pos true = m
        by_pos false =
            let old = listed key (get middle key) in
            record {
              next = moved.next;
              slices = moved.slices;
              deads = moved.deads;
              records = moved.records;
              names = moved.names;
              behind = behind-as _ old (l ++ zero_record pos ∷ []) [] (zero_record pos ∷ []) moved.behind (λ id some.
                  (let same = ap (records_naming id) stood in let more = naming-append id l (zero_record pos ∷ []) in omega (arith, same, more)));
              count =
                  (let was = moved.count in
                  let same = ap (λ (x : List Rec). length x) stood in
                  let more = length-append l (zero_record pos ∷ []) in
                  omega (arith, was, same, more));
            }

-- ---- what is shown

-- the lists of a file whose last windows are dropped, and one of which is ended, are cut
pub cut-is : (len u : ℕ) (lists : Lists)
    → (if nat_le len (u * WINDOW) then [] else with_list (len / WINDOW) (list_ended (len % WINDOW) (lists (len / WINDOW))) lists u) ≡ cut_list len u (lists u)
cut-is len u lists = elim (cases_lt (u * WINDOW) len) [
  | inr past ↦ cond-true _ _ _ (le-leb len (u * WINDOW) past) ∙ sym (cut_list-past len u (lists u) past)
  | inl begun ↦ cond-false _ _ _ (lt-leb len (u * WINDOW) begun) ∙ here begun (cases_eq u (len / WINDOW))
]
  where
    inside : u * WINDOW < len → u ≡ len / WINDOW → (l : List Rec) → list_ended (len % WINDOW) l ≡ cut_list len u l
    inside begun is [] = refl
    inside begun is (r ∷ rs) =
        let pos : len % WINDOW ≡ len - u * WINDOW = grind (arith, is, begun) in
        let some : len % WINDOW ≢ 0 = (λ e. absurd (omega (arith, pos, e, begun))) in
        let end : len < u * WINDOW + WINDOW = grind (arith, is) in
        cond-false _ _ _ (ne_eqb (len % WINDOW) 0 some) ∙ ap (λ n. (r ∷ rs) ++ zero_record n ∷ []) pos ∙ sym (cut_list-inside len u r rs begun end)

    here : u * WINDOW < len → (u ≡ len / WINDOW) ⊎ (u ≢ len / WINDOW) → with_list (len / WINDOW) (list_ended (len % WINDOW) (lists (len / WINDOW))) lists u ≡ cut_list len u (lists u)
    here begun (inl is) = cond-true _ _ _ (eq-eqb u (len / WINDOW) is) ∙ ap (λ w. list_ended (len % WINDOW) (lists w)) (sym is) ∙ inside begun is (lists u)
    here begun (inr apart) = cond-false _ _ _ (ne_eqb u (len / WINDOW) apart)
        ∙ sym (cut_list-below len u (lists u) (let whole : u * WINDOW + WINDOW ≤ len = grind (arith, apart, begun) in whole))

-- ---- counts

-- records that name no slice change nothing
pub adjusted-came : (gone came : List Rec) (due : ℕ) (rows after : Rows) → ((id : ℕ) → 0 < id → records_naming id came ≡ 0)
    → Adjusted gone [] due rows after → Adjusted gone came due rows after
adjusted-came gone came due rows after none a = record {
  named = λ id is. by_zero id (cases_eq id 0) is;
  others = λ key other. a.others key (sym (ap (λ b. ((key.tab == TABLE_OF_SLICES) || (key.tab == TABLE_OF_DEAD)) && is_nil key.b && b) (same key.a (cases_eq key.a 0))) ∙ other);
}
  where
    same : (id : ℕ) → (id ≡ 0) ⊎ (id ≢ 0) → is_named gone came id ≡ is_named gone [] id
    same id (inl zero) = ap (λ b. not b && not (records_naming id gone + records_naming id came == 0)) (eq-eqb id 0 zero)
        ∙ sym (ap (λ b. not b && not (records_naming id gone + 0 == 0)) (eq-eqb id 0 zero))
    same id (inr some) = ap (λ n. not (id == 0) && not (records_naming id gone + n == 0)) (none id (omega (arith, some)))

    by_zero : (id : ℕ) → (id ≡ 0) ⊎ (id ≢ 0) → IsTrue (is_named gone came id) → Recounted id (records_naming id gone) (records_naming id came) due rows after
    by_zero id (inl zero) is = (let both : true ≡ false = sym is ∙ ap (λ b. not b && not (records_naming id gone + records_naming id came == 0)) (eq-eqb id 0 zero) in absurd (cc))
    by_zero id (inr some) is = subst (λ n. Recounted id (records_naming id gone) n due rows after) (sym (none id (omega (arith, some))))
        (a.named id (sym (same id (inr some)) ∙ is))
