-- Parts of a copy: what the target's lists show with them, what is as before, and how far counts lag behind.
use Rattle.std.proofs.Common.{◌≡◌, ◌≢◌, ℕ, ◌+◌, ◌-◌, ◌*◌, ◌%◌, ◌<◌, ◌≤◌, ◌^◌, ◌⊎◌, inl, inr, true, false, List, [], ◌∷◌, ◌++◌, length, Option, Some, Ok, refl, sym, ap, subst, ◌∙◌, arith}
use Rattle.std.specs.Prelude.{◌==◌, nat_lt, if◌then◌else◌}
use Rattle.std.specs.List.{AllByRecursion}
use Rattle.std.proofs.lemmas.Bool.{cases_eq, cases_lt, cond-true, cond-false, eq-eqb, ne_eqb}
use Rattle.std.proofs.lemmas.List.{length-append, append-nil}
use Rattle.jv_model.specs.declared.tables.TheConstants.{TABLE_OF_LISTS}
use Rattle.jv_model.specs.declared.limits.TheConstants.{FILE_END, WINDOW}
use Rattle.jv_model.specs.declared.row.RowKey.{RowKey}
use Rattle.jv_model.specs.declared.row.Row.TheVariants.{OfList}
use Rattle.jv_model.specs.declared.slice.Rec.{Rec}
use Rattle.jv_model.specs.declared.slice.Spot.{Spot}
use Rattle.jv_model.specs.declared.slice.Spot.TheVariants.{Slice}
use Rattle.jv_model.specs.promise.FiniteMap.{get}
use Rattle.jv_model.specs.FiniteMap.{alter}
use Rattle.jv_model.specs.promise.blocks.Slices.{IsRecord}
use Rattle.jv_model.specs.promise.rows.RowKeys.{row_key}
use Rattle.jv_model.specs.promise.rows.RowPlaces.{list_key}
use Rattle.jv_volume.specs.promise.TypedRows.{Cell, Rows}
use Rattle.jv_volume.specs.promise.Views.{row_in, records_in, lists_of}
use Rattle.jv_volume.specs.promise.Slices.{listed, place_in, records_naming}
use Rattle.jv_volume.proofs.maps.MapLaws.{get-alter-apart}
use Rattle.jv_volume_bytes.specs.Counts.{HadSize}
use Rattle.jv_volume_bytes.specs.Places.{with_list, put_over}
use Rattle.jv_volume_bytes.proofs.BehindLaws.{naming-append, behind-as}
use Rattle.jv_volume_bytes.proofs.CopyLaws.{copy-step}
use Rattle.jv_volume_bytes.proofs.CountLaws.{ListsMove, move-list}
use Rattle.jv_volume_bytes.proofs.CutLaws.{all-append}
use Rattle.jv_volume_bytes.proofs.FillLaws.{over-none, fills-are, fills-few, fills-name}
use Rattle.jv_volume_bytes.proofs.PlaceLaws.{place_in-same}
use Rattle.jv_data.specs.declared.copying.CopyCourse.{CopyCourse}
use Rattle.jv_data.specs.Copying.{ArePieces, part_len, window_at, AreParts, rows_copied, bytes_before, bytes_in, GetsPieces}
use Rattle.jv_data.specs.Truncating.{HaveSlices, records_of}
use Rattle.jv_data.proofs.files.BesideLaws.{Beside, beside-none, beside-then, beside-alter, list_is_row}
use Rattle.jv_data.proofs.lists.ListRowLaws.{get-other, list_is, lists_of-list}
use Rattle.jv_data.proofs.lists.ShownLaws.{pieces-none}

-- ---- numbers

-- a part that leaves more to do ends where its window does
pub part-ends : (c : CopyCourse) (before done : ℕ) → done ≡ before + part_len c before → done < c.len → c.to + done ≡ window_at c before * WINDOW + WINDOW
part-ends c before done is less = omega (arith, is, less)

-- a part has a byte, and lies in one window
pub part-some : (c : CopyCourse) (done : ℕ) → done < c.len → 0 < part_len c done
part-some c done less = omega (arith, less)

pub part-within : (c : CopyCourse) (done : ℕ) → done < c.len → done + part_len c done ≤ c.len
part-within c done less = omega (arith, less)

pub window-low : (c : CopyCourse) (done : ℕ) → done < c.len → c.to + c.len ≤ FILE_END → window_at c done < 2 ^ 32
window-low c done less small = omega (arith, less, small)

-- what is before a part, and in it, by its window
part-before : (c : CopyCourse) (done u : ℕ) → u ≡ window_at c done → (done ≡ 0) ⊎ (c.to + done ≤ window_at c done * WINDOW) → done ≡ bytes_before c.to u
part-before c done u here (inl none) = omega (arith, here, none)
part-before c done u here (inr high) = omega (arith, here, high)

part-in : (c : CopyCourse) (before done u : ℕ) → before < c.len → done ≡ before + part_len c before → u ≡ window_at c before → before ≡ bytes_before c.to u
    → part_len c before ≡ bytes_in c.to done u
part-in c before done u less is here low = omega (arith, less, is, here, low)

-- other windows have no more with it
part-beside : (c : CopyCourse) (before done u : ℕ) → before < c.len → done ≡ before + part_len c before → u ≢ window_at c before
    → bytes_in c.to before u ≡ bytes_in c.to done u
part-beside c before done u less is apart = elim (cases_lt u (window_at c before)) [
  | inl low ↦ omega (arith, less, is, low)
  | inr high ↦ omega (arith, less, is, high, apart)
]

-- a list that gets no piece
pub gets-none : (rows : Rows) (src from dst to len u : ℕ) → len ≡ 0 → GetsPieces rows src from dst to len u (lists_of rows dst u)
gets-none rows src from dst to len u none = record {
  added = [];
  pieces = subst (λ n. ArePieces (lists_of rows src) (from + bytes_before to u) ((to + bytes_before to u) % WINDOW) n []) (omega (arith, none))
      (pieces-none (lists_of rows src) (from + bytes_before to u) ((to + bytes_before to u) % WINDOW));
  is = sym (append-nil (lists_of rows dst u));
}

-- ---- records that are added to a list

-- counts lag behind by them
pub move-append : (start middle : Rows) (added : List Rec) (key : RowKey) (old new : List Rec) → key.tab ≡ TABLE_OF_LISTS → ListsMove start middle [] added
    → listed key (get middle key) ≡ old → (four : (key.tab == TABLE_OF_LISTS) ≡ true)
    → AllByRecursion IsRecord new → AllByRecursion (λ r. r.id ≢ 0 → HadSize start r.id r.size) new
    → ListsMove start (alter middle key (Some (Ok (OfList (old ++ new))))) [] (added ++ new)
move-append start middle added key old new tab m stood four are names = record {
  next = moved.next;
  slices = moved.slices;
  deads = moved.deads;
  records = moved.records;
  names = moved.names;
  behind = behind-as _ (listed key (get middle key)) (added ++ listed key cell) [] (added ++ new) moved.behind (λ id some.
      (let was = ap (records_naming id) stood in
      let is = ap (records_naming id) new_is in
      let parts = naming-append id old new in
      let more = naming-append id added new in
      let all = naming-append id added (listed key cell) in
      omega (arith, was, is, parts, more, all)));
  count =
      (let count = moved.count in
      let was = ap (λ (x : List Rec). length x) stood in
      let is = ap (λ (x : List Rec). length x) new_is in
      let parts = length-append old new in
      let more = length-append added new in
      let all = length-append added (listed key cell) in
      omega (arith, count, was, is, parts, more, all));
}
  where
    cell : Option Cell
    cell = Some (Ok (OfList (old ++ new)))

    new_is : listed key cell ≡ old ++ new
    new_is = ap (λ b. if b then old ++ new else []) four

    all : (P : Rec → Type 0) → AllByRecursion P (listed key (get middle key)) → AllByRecursion P new → AllByRecursion P (listed key cell)
    all P have come = subst (AllByRecursion P) (sym new_is) (all-append P old new (subst (AllByRecursion P) stood have) come)

    moved : ListsMove start (alter middle key cell) (listed key (get middle key)) (added ++ listed key cell)
    moved = move-list start middle [] added key cell tab m (all IsRecord (m.records key) are)
        (all (λ r. r.id ≢ 0 → HadSize start r.id r.size) (m.names key) names)

-- ---- parts

module _ (rows : Rows) (c : CopyCourse) (middle : Rows) where
  abbrev copied : List (ℕ × List Rec) → Rows
  copied parts = rows_copied rows c parts middle

  abbrev key : ℕ → RowKey
  key done = list_key c.target (window_at c done)

  abbrev cell : ℕ → List Rec → Option Cell
  cell done shown = Some (Ok (OfList (lists_of rows c.target (window_at c done) ++ shown)))

  pub get-copied : (parts : List (ℕ × List Rec)) (k : RowKey) → (k.tab == TABLE_OF_LISTS) ≡ false → get (copied parts) k ≡ get middle k
  get-copied [] k other = refl
  get-copied (d ∷ ds) k other = get-other (copied ds) (key d.0) (cell d.0 d.1) k other ∙ get-copied ds k other

  pub get-copied-file : (parts : List (ℕ × List Rec)) (k : RowKey) → k.a ≢ c.target → get (copied parts) k ≡ get middle k
  get-copied-file [] k apart = refl
  get-copied-file (d ∷ ds) k apart =
      get-alter-apart row_key (copied ds) (key d.0) (cell d.0 d.1) k (λ same. apart (ap (λ (k : RowKey). k.a) same)) ∙ get-copied-file ds k apart

  pub beside-copied : (parts : List (ℕ × List Rec)) → Beside middle (copied parts)
  beside-copied [] = beside-none middle
  beside-copied (d ∷ ds) = beside-then middle (copied ds) (copied (d ∷ ds)) (beside-copied ds)
      (beside-alter (copied ds) (key d.0) (cell d.0 d.1) refl (list_is_row c.target (window_at c d.0) (lists_of rows c.target (window_at c d.0) ++ d.1)))

  pub lists_of-copied-file : (parts : List (ℕ × List Rec)) (other u : ℕ) → other ≢ c.target → lists_of (copied parts) other u ≡ lists_of middle other u
  unfolding lists_of
  lists_of-copied-file parts other u apart = ap (λ o. if nat_lt u (2 ^ 32) then records_in (row_in o) else []) (get-copied-file parts (list_key other u) apart)

  module _ (small : c.to + c.len ≤ FILE_END) (same : (u : ℕ) → lists_of middle c.target u ≡ lists_of rows c.target u) where
    -- windows that no part has reached
    ahead : (parts : List (ℕ × List Rec)) (done u : ℕ) → AreParts rows c parts done → (done ≡ 0) ⊎ (c.to + done ≤ u * WINDOW)
        → lists_of (copied parts) c.target u ≡ lists_of rows c.target u
    ahead [] done u f past = same u
    ahead (d ∷ ds) done u (less, is, shows, rest) past =
        let some = part-some c d.0 less in
        let high : c.to + done ≤ u * WINDOW = elim past [
          | inl none ↦ absurd (omega (arith, none, is, some))
          | inr high ↦ high
        ] in
        let apart : u ≢ window_at c d.0 = omega (arith, high, is, some) in
        lists_of-list (copied ds) c.target (window_at c d.0) (window-low c d.0 less small) (cell d.0 d.1) u
        ∙ cond-false _ _ _ (ne_eqb u (window_at c d.0) apart)
        ∙ ahead ds d.0 u rest (inr (omega (arith, high, is)))

    begins : (parts : List (ℕ × List Rec)) (done : ℕ) → AreParts rows c parts done → done < c.len → (done ≡ 0) ⊎ (c.to + done ≤ window_at c done * WINDOW)
    begins [] done none less = inl none
    begins (d ∷ ds) done (before, is, shows, rest) less = inr (let end = part-ends c d.0 done is less in omega (arith, end))

    -- the next part begins the list of its window anew
    pub stood : (parts : List (ℕ × List Rec)) (done : ℕ) → AreParts rows c parts done → done < c.len
        → lists_of (copied parts) c.target (window_at c done) ≡ lists_of rows c.target (window_at c done)
    stood parts done f less = ahead parts done (window_at c done) f (begins parts done f less)

    -- ---- the pieces that lists get

    abbrev Added : (before pos len : ℕ) → List Rec → Type 0
    Added before pos len added = ArePieces (lists_of rows c.source) (c.from + before) pos len added

    pub pieces-copied : (parts : List (ℕ × List Rec)) (done : ℕ) → AreParts rows c parts done
        → (u : ℕ) → GetsPieces rows c.source c.from c.target c.to done u (lists_of (copied parts) c.target u)
    pieces-copied [] done none u =
        subst (λ (l : List Rec). GetsPieces rows c.source c.from c.target c.to done u l) (sym (same u))
        (gets-none rows c.source c.from c.target c.to done u none)
    pieces-copied (d ∷ ds) done (less, is, shows, rest) u = by_window (pieces-copied ds d.0 rest u) (cases_eq u w)
      where
        w : ℕ
        w = window_at c d.0

        list_of : lists_of (copied (d ∷ ds)) c.target u ≡ (if u == w then lists_of rows c.target w ++ d.1 else lists_of (copied ds) c.target u)
        list_of = lists_of-list (copied ds) c.target w (window-low c d.0 less small) (cell d.0 d.1) u

        by_window : GetsPieces rows c.source c.from c.target c.to d.0 u (lists_of (copied ds) c.target u) → (u ≡ w) ⊎ (u ≢ w)
            → GetsPieces rows c.source c.from c.target c.to done u (lists_of (copied (d ∷ ds)) c.target u)
        by_window was (inl here) =
            let before : d.0 ≡ bytes_before c.to u = part-before c d.0 u here (begins ds d.0 rest less) in
            record {
              added = d.1;
              pieces = subst (λ n. Added n ((c.to + n) % WINDOW) (bytes_in c.to done u) d.1) before
                  (subst (λ n. Added d.0 ((c.to + d.0) % WINDOW) n d.1) (part-in c d.0 done u less is here before) shows.pieces);
              is = list_of ∙ cond-true _ _ _ (eq-eqb u w here) ∙ ap (λ n. lists_of rows c.target n ++ d.1) (sym here);
            }
        by_window was (inr apart) = record {
          added = was.added;
          pieces = subst (λ n. Added (bytes_before c.to u) ((c.to + bytes_before c.to u) % WINDOW) n was.added) (part-beside c d.0 done u less is apart) was.pieces;
          is = list_of ∙ cond-false _ _ _ (ne_eqb u w apart) ∙ was.is;
        }

    -- ---- what the target shows

    abbrev new : ℕ → Spot
    new k = place_in (lists_of rows c.source) (c.from + k)

    pub shows-copied : (parts : List (ℕ × List Rec)) (done : ℕ) → AreParts rows c parts done
        → (p : ℕ) → place_in (lists_of (copied parts) c.target) p ≡ put_over (place_in (lists_of rows c.target)) c.to done new p
    shows-copied [] done none p =
        place_in-same (lists_of middle c.target) (lists_of rows c.target) same p
        ∙ sym (over-none (place_in (lists_of rows c.target)) c.to new p)
        ∙ ap (λ n. put_over (place_in (lists_of rows c.target)) c.to n new p) (sym none)
    shows-copied (d ∷ ds) done (less, is, shows, rest) p =
        let old = place_in (lists_of rows c.target) in
        let w = window_at c d.0 in
        let pos = (c.to + d.0) % WINDOW in
        let l = lists_of rows c.target w in
        place_in-same (lists_of (copied (d ∷ ds)) c.target) (with_list w (l ++ d.1) (lists_of (copied ds) c.target))
        (lists_of-list (copied ds) c.target w (window-low c d.0 less small) (cell d.0 d.1)) p
        ∙ copy-step old (lists_of (copied ds) c.target) c.to d.0 new w l d.1 (λ q. place_in (lists_of rows c.source) (c.from + d.0 + (q - pos))) pos (pos + part_len c d.0)
        (shows-copied ds d.0 rest) (sym (stood ds d.0 rest less)) (omega arith) (omega arith) shows.fills
        (λ k low. ap (place_in (lists_of rows c.source)) (omega arith)) p
        ∙ ap (λ n. put_over old c.to n new p) (omega (arith, is))

    -- ---- counts

    module _ (start : Rows) (has : (p id size at : ℕ) → place_in (lists_of rows c.source) p ≡ Slice id size at → HadSize start id size) where
      pub move-copied : ListsMove start middle [] [] → (parts : List (ℕ × List Rec)) (done : ℕ) → AreParts rows c parts done
          → ListsMove start (copied parts) [] (records_of parts)
      move-copied m [] done f = m
      move-copied m (d ∷ ds) done (less, is, shows, rest) =
          let pos = (c.to + d.0) % WINDOW in
          let places : ℕ → Spot = (λ q. place_in (lists_of rows c.source) (c.from + d.0 + (q - pos))) in
          move-append start (copied ds) (records_of ds) (key d.0) (lists_of rows c.target (window_at c d.0)) d.1 refl (move-copied m ds d.0 rest)
          (sym (list_is (copied ds) c.target (window_at c d.0) (window-low c d.0 less small) (cell d.0 d.1)) ∙ stood ds d.0 rest less) refl
          (fills-are places pos (pos + part_len c d.0) d.1 shows.fills)
          (fills-name (HadSize start) places pos (pos + part_len c d.0) d.1 shows.fills (λ k id size at low high e. has (c.from + d.0 + (k - pos)) id size at e))

-- a record is of a byte at least
pub few-copied : (rows : Rows) (c : CopyCourse) (parts : List (ℕ × List Rec)) (done : ℕ) → AreParts rows c parts done → length (records_of parts) ≤ done
few-copied rows c [] done none = omega arith
few-copied rows c (d ∷ ds) done (less, is, shows, rest) =
    let before = few-copied rows c ds d.0 rest in
    let pos = (c.to + d.0) % WINDOW in
    let these = fills-few (λ q. place_in (lists_of rows c.source) (c.from + d.0 + (q - pos))) pos (pos + part_len c d.0) d.1 shows.fills in
    let all = length-append (records_of ds) d.1 in
    omega (arith, before, these, all, is)

-- and its slice has a row
pub have-copied : (rows : Rows) (c : CopyCourse) (parts : List (ℕ × List Rec)) (done : ℕ) → AreParts rows c parts done → HaveSlices rows (records_of parts)
have-copied rows c [] done none = tt
have-copied rows c (d ∷ ds) done (less, is, shows, rest) = all-append _ (records_of ds) d.1 (have-copied rows c ds d.0 rest) shows.slices
