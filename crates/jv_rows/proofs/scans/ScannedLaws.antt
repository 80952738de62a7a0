-- Rows that a scan reads in their order: a scan that failed reached a malformed row, and numbers rise in a table.
use Rattle.std.proofs.Common.{◌≡◌, ◌≢◌, ℕ, zero, suc, ◌≤◌, Bool, true, cond, T, List, [], ◌∷◌, take, Option, None, Some, Result, Ok, Err, refl, sym, ap, subst, ◌∙◌, true≢false}
use Rattle.std.specs.Prelude.{is_ok, is_some, filter, ok_or}
use Rattle.std.specs.Option.{option_map}
use Rattle.std.specs.List.{AllByRecursion}
use Rattle.std.specs.declared.cmp.Ordering.{Ordering}
use Rattle.std.specs.declared.cmp.Ordering.TheVariants.{Less, Equal, Greater}
use Rattle.std.specs.Ordering.{is_lt, is_le, nat_cmp, ordering_then}
use Rattle.std.specs.Cmp.{nat_cmp_total, tied_itself}
use Rattle.std.specs.Cmp.Lexicographic.{slice_cmp}
use Rattle.std.specs.FinMap.Entries.{find, below_all, is_sorted}
use Rattle.std.proofs.lemmas.Map.Keys.{le_from_is_le}
use Rattle.jv_model.specs.declared.fault.RowFault.{RowFault}
use Rattle.jv_model.specs.declared.fault.RowFault.TheVariants.{Bad, Failed, Memory}
use Rattle.jv_model.specs.declared.fault.TxFault.TheVariants.{Rows as OfRows}
use Rattle.jv_model.specs.declared.row.Row.{Row}
use Rattle.jv_model.specs.declared.row.RowKey.{RowKey}
use Rattle.jv_model.specs.promise.FiniteMap.{KeyOrder, Map, get}
use Rattle.jv_model.specs.promise.rows.RowGrammar.{row_of}
use Rattle.jv_model.specs.promise.rows.RowKeys.{RowMap, row_key, row_cmp}
use Rattle.jv_model.proofs.TestLaws.{first_of_both, second_of_both, of_known, same_Err}
use Rattle.jv_model.proofs.FiniteMapLaws.{find-below_all, found_here}
use Rattle.jv_outside.specs.Rows.{is_after, rows_after}
use Rattle.jv_outside.specs.promise.Store.{Store}
use Rattle.jv_volume.specs.promise.TypedRows.{cell_of, typed}
use Rattle.jv_volume.proofs.shapes.ShapeMapLaws.{tied_apart}
use Rattle.jv_volume.proofs.stored.StoredLaws.{whole-typed}
use Rattle.jv_volume.proofs.maps.TypedLaws.{get-typed}
use Rattle.jv_rows.specs.Scans.{row_then, rows_read, RefusesScan, ScansRows}
use Rattle.jv_rows.specs.promise.Transactions.{Malformed}
use Rattle.jv_rows.proofs.transactions.TransactionLaws.{Fails, FailsBy}
use Rattle.jv_model.proofs.ListLaws.{all_filter}

-- ---- keys in their order

at_most : (o p : Ordering) → ordering_then o p ≡ Less → is_le o ≡ true
at_most Less p e = refl
at_most Equal p e = refl
at_most Greater p e = absurd (true≢false (sym (ap is_lt e)))

-- a later key of a table has no lower number
pub number-rises : (x y : RowKey) → x.tab ≡ y.tab → row_cmp x y ≡ Less → x.a ≤ y.a
number-rises x y table less =
    let tabs : nat_cmp x.tab y.tab ≡ Equal = ap (λ (n : ℕ). nat_cmp n y.tab) table ∙ tied_itself nat_cmp_total y.tab in
    le_from_is_le x.a y.a (at_most (nat_cmp x.a y.a) (slice_cmp nat_cmp x.b y.b)
    (sym (ap (λ o. ordering_then o (ordering_then (nat_cmp x.a y.a) (slice_cmp nat_cmp x.b y.b))) tabs) ∙ less))

-- ---- the entries of a map

module _ {K X : Type 0} (order : KeyOrder K) where
  apart_from : (e : K × X) (es : List (K × X)) (k : K) (x : X) → T (below_all order.cmp e.0 es) → find order.cmp k es ≡ Some x → k ≢ e.0
  apart_from e es k x below there same =
      let none : find order.cmp k es ≡ None = ap (λ q. find order.cmp q es) same ∙ find-below_all order e.0 es below in
      true≢false (sym (ap is_some (sym none ∙ there)))

  found_later : (e : K × X) (es : List (K × X)) (k : K) (x : X) → T (below_all order.cmp e.0 es) → find order.cmp k es ≡ Some x
      → find order.cmp k (e ∷ es) ≡ Some x
  found_later e es k x below there =
      ap (λ (b : Bool). cond b (Some e.1) (find order.cmp k es)) (tied_apart order e.0 k (apart_from e es k x below there)) ∙ there

  all_found : (P : K → X → Type 0) (es : List (K × X)) → T (is_sorted order.cmp es) → ((k : K) (x : X) → find order.cmp k es ≡ Some x → P k x)
      → AllByRecursion (λ (e : K × X). P e.0 e.1) es
  all_found P [] sorted has = tt
  all_found P (e ∷ es) sorted has = (
    has e.0 e.1 (found_here order e es),
    all_found P es (second_of_both _ _ sorted) (λ k x there. has k x (found_later e es k x (first_of_both _ _ sorted) there)),
  )

  -- each entry of a map stands at its key
  pub all-stored : (m : Map order X) → AllByRecursion (λ (e : K × X). get m e.0 ≡ Some e.1) m.list
  unfolding get
  all-stored m = all_found (λ k x. find order.cmp k m.list ≡ Some x) m.list m.sorted (λ k x there. there)

-- ---- a scan that failed

module _ {A : Type 0} (P : A → Type 0) where
  all_take : (n : ℕ) (xs : List A) → AllByRecursion P xs → AllByRecursion P (take n xs)
  all_take zero xs all = tt
  all_take (suc n) [] all = tt
  all_take (suc n) (x ∷ xs) all = (all.0, all_take n xs all.1)

module _ (P : RowKey × List ℕ → Type 0) (off : RowKey × List ℕ) where
  off_at : (r : RowKey × List ℕ) (o : Option Row) (others : Result (List (RowKey × Row)) (RowKey × List ℕ)) → P r → (others ≡ Err off → P off)
      → row_then r.0 r.1 o others ≡ Err off → P off
  off_at r None others p later e = subst P (same_Err (r.0, r.1) off e) p
  off_at r (Some found) (Ok rest) p later e = absurd (true≢false (ap is_ok e))
  off_at r (Some found) (Err x) p later e = later e

  read_off : (rows : List (RowKey × List ℕ)) → AllByRecursion P rows → rows_read rows ≡ Err off → P off
  read_off [] all e = absurd (true≢false (ap is_ok e))
  read_off (r ∷ rows) all e = off_at r (row_of r.0.tab r.1) (rows_read rows) all.0 (read_off rows all.1) e

abbrev pub IsStored : RowMap → RowKey × List ℕ → Type 0
IsStored known e = get known e.0 ≡ Some e.1

module _ (tab : ℕ) (last : Option RowKey) (n : ℕ) (before after : Store) where
  -- a row that was malformed stands there
  pub off-scan : (at : RowKey) (bytes : List ℕ) → RefusesScan before.rows tab last n (Bad at bytes) → (known : RowMap) → before.rows ≡ Some known
      → get (typed known) at ≡ Some (Err bytes)
  off-scan at bytes h known is =
      let read = of_known (λ known. rows_read (rows_after known tab last n) ≡ Err (at, bytes)) before.rows known is h.1 in
      let there : get known at ≡ Some bytes = read_off (IsStored known) (at, bytes) (rows_after known tab last n)
      (all_take (IsStored known) n (filter (λ (r : RowKey × List ℕ). is_after tab last r.0) known.list)
      (all_filter (IsStored known) (λ (r : RowKey × List ℕ). is_after tab last r.0) known.list (all-stored row_key known))) read in
      get-typed known at ∙ ap (option_map (cell_of at)) there ∙ ap (λ (r : Option Row). Some (ok_or r bytes)) h.0

  why_unscanned : (fault : RowFault) → RefusesScan before.rows tab last n fault → FailsBy before.rows (OfRows fault)
  why_unscanned (Bad at bytes) h = λ known is.
      let bad : get (typed known) at ≡ Some (Err bytes) = off-scan at bytes h known is in
      (Malformed bad, λ whole. whole-typed (typed known) at bytes whole bad)
  why_unscanned Failed h = tt
  why_unscanned Memory h = tt

  -- it changed nothing, and what it found no row was malformed
  pub fails-scan : (fault : RowFault) → ScansRows tab last n before after (Err fault) → Fails before after (OfRows fault)
  fails-scan fault s = record { rows_are = s.rows_are; opened_at = s.opened_at; cause = s.counts; why = why_unscanned fault s.refused }
