-- Lists of a file that are ended or dropped: what its windows show then, and what is as before.
use Rattle.std.proofs.Common.{◌≡◌, ◌≢◌, ℕ, ◌<◌, ◌≤◌, ◌^◌, ◌⊎◌, inl, inr, Bool, true, false, List, [], ◌∷◌, ◌++◌, Option, None, Some, refl, sym, ap, subst, ◌∙◌, arith}
use Rattle.std.specs.Prelude.{◌==◌, nat_lt, if◌then◌else◌}
use Rattle.std.proofs.lemmas.Bool.{cases_eq, cases_lt, cond-true, cond-false, lt-ltb, le-ltb, ltb-false, eq-eqb, ne_eqb}
use Rattle.std.proofs.lemmas.List.{append-nil}
use Rattle.jv_model.specs.declared.tables.TheConstants.{TABLE_OF_LISTS}
use Rattle.jv_model.specs.declared.row.RowKey.{RowKey}
use Rattle.jv_model.specs.declared.slice.Rec.{Rec}
use Rattle.jv_model.specs.promise.FiniteMap.{get}
use Rattle.jv_model.specs.promise.rows.RowKeys.{row_key}
use Rattle.jv_model.specs.promise.rows.RowPlaces.{list_key}
use Rattle.jv_rows.specs.Lists.{is_past, HasNoList, HaveWindows}
use Rattle.jv_volume.specs.promise.TypedRows.{Rows}
use Rattle.jv_volume.specs.promise.Views.{row_in, records_in, lists_of}
use Rattle.jv_volume.specs.promise.Slices.{listed}
use Rattle.jv_volume.proofs.maps.MapLaws.{get-alter-apart}
use Rattle.jv_volume_bytes.proofs.CountLaws.{ListsMove, move-list}
use Rattle.jv_data.specs.Truncating.{rows_without, records_of, latest, Follow}
use Rattle.jv_data.proofs.files.BesideLaws.{Beside, beside-none, beside-then, beside-alter}
use Rattle.jv_data.proofs.lists.ListRowLaws.{get-other, list_is, lists_of-list}

-- ---- windows in order

is_past-then : (last : Option ℕ) (middle window : ℕ) → is_past last middle ≡ true → is_past (Some middle) window ≡ true → is_past last window ≡ true
is_past-then None middle window p q = refl
is_past-then (Some w) middle window p q = lt-ltb w window (let low : nat_lt w middle ≡ true = p in let high : nat_lt middle window ≡ true = q in grind (arith, low, high))

-- a window after the latest is after the first
past-first : (rows : Rows) (inode : ℕ) (last : Option ℕ) (ds : List (ℕ × List Rec)) → Follow rows inode last ds → (window : ℕ)
    → is_past (latest last ds) window ≡ true → is_past last window ≡ true
past-first rows inode last [] f window p = p
past-first rows inode last (d ∷ ds) f window p = past-first rows inode last ds f.1 window (is_past-then (latest last ds) d.0 window f.0.past p)

-- ---- lists that are dropped

-- rows of other tables, and of other files
pub get-without : (inode : ℕ) (ds : List (ℕ × List Rec)) (rows : Rows) (key : RowKey) → (key.tab == TABLE_OF_LISTS) ≡ false → get (rows_without inode ds rows) key ≡ get rows key
get-without inode [] rows key other = refl
get-without inode (d ∷ ds) rows key other = get-other (rows_without inode ds rows) (list_key inode d.0) None key other ∙ get-without inode ds rows key other

pub get-without-file : (inode : ℕ) (ds : List (ℕ × List Rec)) (rows : Rows) (key : RowKey) → key.a ≢ inode → get (rows_without inode ds rows) key ≡ get rows key
get-without-file inode [] rows key apart = refl
get-without-file inode (d ∷ ds) rows key apart =
    get-alter-apart row_key (rows_without inode ds rows) (list_key inode d.0) None key (λ same. apart (ap (λ (k : RowKey). k.a) same))
    ∙ get-without-file inode ds rows key apart

pub beside-without : (inode : ℕ) (ds : List (ℕ × List Rec)) (rows : Rows) → Beside rows (rows_without inode ds rows)
beside-without inode [] rows = beside-none rows
beside-without inode (d ∷ ds) rows =
    beside-then rows (rows_without inode ds rows) (rows_without inode (d ∷ ds) rows) (beside-without inode ds rows)
    (beside-alter (rows_without inode ds rows) (list_key inode d.0) None refl (λ x e. absurd (cc)))

pub lists_of-without-file : (inode : ℕ) (ds : List (ℕ × List Rec)) (rows : Rows) (other u : ℕ) → other ≢ inode
    → lists_of (rows_without inode ds rows) other u ≡ lists_of rows other u
unfolding lists_of
lists_of-without-file inode ds rows other u apart =
    ap (λ c. if nat_lt u (2 ^ 32) then records_in (row_in c) else []) (get-without-file inode ds rows (list_key other u) apart)

no_list : (rows : Rows) (inode u : ℕ) → (u < 2 ^ 32 → get rows (list_key inode u) ≡ None) → lists_of rows inode u ≡ []
unfolding lists_of
no_list rows inode u none = elim (cases_lt u (2 ^ 32)) [
  | inl low ↦ cond-true _ _ _ (lt-ltb u (2 ^ 32) low) ∙ ap (λ c. records_in (row_in c)) (none low)
  | inr high ↦ cond-false _ _ _ (le-ltb u (2 ^ 32) high)
]

module _ (rows : Rows) (inode : ℕ) (last : Option ℕ) (wide : HaveWindows rows) (middle : Rows)
    (same : (u : ℕ) → is_past last u ≡ true → lists_of middle inode u ≡ lists_of rows inode u) where
  -- windows that aren't between the first and the latest show what they did
  kept : (ds : List (ℕ × List Rec)) → Follow rows inode last ds → (u : ℕ) → (is_past last u ≡ false) ⊎ (is_past (latest last ds) u ≡ true)
      → lists_of (rows_without inode ds middle) inode u ≡ lists_of middle inode u
  kept [] f u where_is = refl
  kept (d ∷ ds) f u where_is =
      lists_of-list (rows_without inode ds middle) inode d.0 f.0.small None u ∙ cond-false _ _ _ (ne_eqb u d.0 (apart where_is)) ∙ kept ds f.1 u (before where_is)
    where
      apart : (is_past last u ≡ false) ⊎ (is_past (Some d.0) u ≡ true) → u ≢ d.0
      apart (inl early) e = (let p = ap (is_past last) e ∙ past-first rows inode last ds f.1 d.0 f.0.past in let both : true ≡ false = sym p ∙ early in absurd (cc))
      apart (inr late) e = (let p : nat_lt d.0 u ≡ true = late in absurd (grind (arith, p, e)))

      before : (is_past last u ≡ false) ⊎ (is_past (Some d.0) u ≡ true) → (is_past last u ≡ false) ⊎ (is_past (latest last ds) u ≡ true)
      before (inl early) = inl early
      before (inr late) = inr (is_past-then (latest last ds) d.0 u f.0.past late)

  -- those between show nothing
  gone : (ds : List (ℕ × List Rec)) → Follow rows inode last ds → (u : ℕ) → is_past last u ≡ true → is_past (latest last ds) u ≡ false
      → lists_of (rows_without inode ds middle) inode u ≡ []
  gone [] f u past here = (let both : true ≡ false = sym past ∙ here in absurd (cc))
  gone (d ∷ ds) f u past here = lists_of-list (rows_without inode ds middle) inode d.0 f.0.small None u ∙ elim (cases_eq u d.0) [
    | inl is ↦ cond-true _ _ _ (eq-eqb u d.0 is)
    | inr apart ↦ cond-false _ _ _ (ne_eqb u d.0 apart) ∙ below apart (gone ds f.1 u past) (is_past (latest last ds) u) refl
  ]
    where
      below : u ≢ d.0 → (is_past (latest last ds) u ≡ false → lists_of (rows_without inode ds middle) inode u ≡ []) → (b : Bool) → is_past (latest last ds) u ≡ b
          → lists_of (rows_without inode ds middle) inode u ≡ []
      below apart so_far false e = so_far e
      below apart so_far true e =
          kept ds f.1 u (inr e) ∙ same u past
          ∙ no_list rows inode u (λ low. f.0.least wide u low e (lt-ltb u d.0 (let high : u ≤ d.0 = ltb-false d.0 u here in omega (arith, high, apart))))

  -- each list that was dropped stood there
  stood : (ds : List (ℕ × List Rec)) (d : ℕ × List Rec) → Follow rows inode last (d ∷ ds)
      → listed (list_key inode d.0) (get (rows_without inode ds middle) (list_key inode d.0)) ≡ d.1
  stood ds d f =
      sym (list_is (rows_without inode ds middle) inode d.0 f.0.small None)
      ∙ kept ds f.1 d.0 (inr f.0.past)
      ∙ same d.0 (past-first rows inode last ds f.1 d.0 f.0.past)
      ∙ list_is rows inode d.0 f.0.small None
      ∙ ap (λ c. records_in (row_in c)) f.0.there

  -- counts lag behind by their records
  pub move-without : (start : Rows) (added : List Rec) → ListsMove start middle [] added → (ds : List (ℕ × List Rec)) → Follow rows inode last ds
      → ListsMove start (rows_without inode ds middle) (records_of ds) added
  move-without start added m [] f = m
  move-without start added m (d ∷ ds) f =
      subst (λ (l : List Rec). ListsMove start (rows_without inode (d ∷ ds) middle) (records_of ds ++ l) added) (stood ds d f)
      (subst (ListsMove start (rows_without inode (d ∷ ds) middle) (records_of ds ++ listed (list_key inode d.0) (get (rows_without inode ds middle) (list_key inode d.0))))
      (append-nil added)
      (move-list start (rows_without inode ds middle) (records_of ds) added (list_key inode d.0) None refl (move-without start added m ds f.1) tt tt))

  -- all lists after the first window
  pub shows-without : (ds : List (ℕ × List Rec)) → Follow rows inode last ds → HasNoList rows inode (latest last ds) None
      → (u : ℕ) → lists_of (rows_without inode ds middle) inode u ≡ (if is_past last u then [] else lists_of middle inode u)
  shows-without ds f none u = by_window (is_past last u) (is_past (latest last ds) u) refl refl
    where
      by_window : (a b : Bool) → is_past last u ≡ a → is_past (latest last ds) u ≡ b
          → lists_of (rows_without inode ds middle) inode u ≡ (if is_past last u then [] else lists_of middle inode u)
      by_window false b e g = kept ds f u (inl e) ∙ sym (cond-false _ _ _ e)
      by_window true false e g = gone ds f u e g ∙ sym (cond-true _ _ _ e)
      by_window true true e g = kept ds f u (inr g) ∙ same u e ∙ no_list rows inode u (λ low. none u low g refl) ∙ sym (cond-true _ _ _ e)
