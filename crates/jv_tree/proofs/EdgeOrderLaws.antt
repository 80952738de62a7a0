-- Stored edges in the order of their keys: what comes behind a key, page by page.
use Rattle.std.proofs.Common.{◌≡◌, ℕ, zero, suc, ◌≤◌, Bool, true, false, cond, T, List, [], ◌∷◌, take, drop, Some, refl, sym, ap, ◌∙◌, true≢false, eq-eqb, eqb-true}
use Rattle.std.specs.Prelude.{◌==◌, ◌&&◌, filter}
use Rattle.std.specs.List.{AllByRecursion}
use Rattle.std.specs.declared.cmp.Ordering.TheVariants.{Less}
use Rattle.std.specs.Ordering.{is_lt, is_le, nat_cmp, ordering_then, ordering_reverse}
use Rattle.std.specs.Cmp.{nat_cmp_total, tied_itself}
use Rattle.std.specs.Cmp.Lexicographic.{slice_cmp}
use Rattle.std.specs.FinMap.Entries.{below_all, is_sorted}
use Rattle.std.proofs.lemmas.Map.Keys.{le_from_is_le}
use Rattle.std.proofs.lemmas.Bool.{and_parts}
use Rattle.jv_model.specs.declared.tables.TheConstants.{TABLE_OF_EDGES}
use Rattle.jv_model.specs.declared.row.RowKey.{RowKey}
use Rattle.jv_model.specs.promise.rows.RowKeys.{row_cmp, row_cmp_total}
use Rattle.jv_model.proofs.TestLaws.{first_of_both, second_of_both, less_is, lt_is}
use Rattle.jv_outside.specs.Rows.{is_after}

-- whether a row is an edge's behind a key
abbrev pub behind : RowKey → RowKey × List ℕ → Bool
behind k r = is_after 3 (Some k) r.0

-- a row is an edge's, behind a key
pub record Follows (k : RowKey) (r : RowKey × List ℕ) : Type 0 where
  pub table : r.0.tab ≡ TABLE_OF_EDGES
  pub above : row_cmp k r.0 ≡ Less

-- rows of edges that rise from a key on
abbrev pub Chain : RowKey → List (RowKey × List ℕ) → Type 0
Chain k [] = Unit {0}
Chain k (r ∷ rows) = Follows k r × Chain r.0 rows

-- the key of the last row, or a key where there is none
abbrev pub last_or : {X : Type 0} → RowKey → List (RowKey × X) → RowKey
last_or k [] = k
last_or k (r ∷ rows) = last_or r.0 rows

-- a key is another one, or below it
pub data IsAtMost (i k : RowKey) : Type 0 where
  Same : i ≡ k → IsAtMost i k
  Below : row_cmp i k ≡ Less → IsAtMost i k

then_below : (i k x : RowKey) → IsAtMost i k → row_cmp k x ≡ Less → row_cmp i x ≡ Less
then_below i k x (Same e) p = ap (λ (q : RowKey). row_cmp q x) e ∙ p
then_below i k x (Below b) p = row_cmp_total.trans i k x b p

-- ---- rows behind a key, in a sorted list

abbrev IsAbove : RowKey → RowKey → RowKey × List ℕ → Type 0
IsAbove k j e = row_cmp k e.0 ≡ Less → row_cmp j e.0 ≡ Less

above_all : (k j : RowKey) (es : List (RowKey × List ℕ)) → T (below_all row_cmp j es) → AllByRecursion (IsAbove k j) es
above_all k j [] below = tt
above_all k j (e ∷ es) below = ((λ p. less_is (row_cmp j e.0) (first_of_both _ _ below)), above_all k j es (second_of_both _ _ below))

above_itself : (k : RowKey) (es : List (RowKey × List ℕ)) → AllByRecursion (IsAbove k k) es
above_itself k [] = tt
above_itself k (e ∷ es) = ((λ p. p), above_itself k es)

chain_at : (k j : RowKey) (e : RowKey × List ℕ) (es : List (RowKey × List ℕ)) (b : Bool) → behind k e ≡ b → IsAbove k j e → Chain e.0 (filter (behind k) es)
    → Chain j (filter (behind k) es)
    → Chain j (cond b (e ∷ filter (behind k) es) (filter (behind k) es))
chain_at k j e es true is above here others =
    let both = and_parts (e.0.tab == TABLE_OF_EDGES) (is_lt (row_cmp k e.0)) is in
    (record { table = eqb-true e.0.tab TABLE_OF_EDGES both.0; above = above (lt_is (row_cmp k e.0) both.1) }, here)
chain_at k j e es false is above here others = others

chain_of : (k j : RowKey) (es : List (RowKey × List ℕ)) → T (is_sorted row_cmp es) → AllByRecursion (IsAbove k j) es → Chain j (filter (behind k) es)
chain_of k j [] sorted all = tt
chain_of k j (e ∷ es) sorted all =
    chain_at k j e es (behind k e) refl all.0 (chain_of k e.0 es (second_of_both _ _ sorted) (above_all k e.0 es (first_of_both _ _ sorted)))
    (chain_of k j es (second_of_both _ _ sorted) all.1)

pub chain-behind : (k : RowKey) (es : List (RowKey × List ℕ)) → T (is_sorted row_cmp es) → Chain k (filter (behind k) es)
chain-behind k es sorted = chain_of k k es sorted (above_itself k es)

-- ---- the last row of a page

above_by : (k r q : RowKey) → row_cmp k r ≡ Less → IsAtMost r q → IsAtMost k q
above_by k r q p (Same e) = Below (ap (row_cmp k) (sym e) ∙ p)
above_by k r q p (Below b) = Below (row_cmp_total.trans k r q p b)

pub last-above : (k : RowKey) (rows : List (RowKey × List ℕ)) (n : ℕ) → Chain k rows → IsAtMost k (last_or k (take n rows))
last-above k rows zero c = Same refl
last-above k [] (suc n) c = Same refl
last-above k (r ∷ rows) (suc n) c = above_by k r.0 (last_or r.0 (take n rows)) c.0.above (last-above r.0 rows n c.1)

pub chain-table : (k : RowKey) (rows : List (RowKey × List ℕ)) (n : ℕ) → k.tab ≡ TABLE_OF_EDGES → Chain k rows → (last_or k (take n rows)).tab ≡ TABLE_OF_EDGES
chain-table k rows zero tab c = tab
chain-table k [] (suc n) tab c = tab
chain-table k (r ∷ rows) (suc n) tab c = chain-table r.0 rows n c.0.table c.1

not_behind : (i q : RowKey) → IsAtMost i q → is_lt (row_cmp q i) ≡ false
not_behind i q (Same e) = ap (λ (k : RowKey). is_lt (row_cmp q k)) e ∙ ap is_lt (tied_itself row_cmp_total q)
not_behind i q (Below b) = ap is_lt (row_cmp_total.antisymm q i ∙ ap ordering_reverse b)

-- ---- what comes behind a page

passes : (k : RowKey) (r : RowKey × List ℕ) → r.0.tab ≡ TABLE_OF_EDGES → row_cmp k r.0 ≡ Less → behind k r ≡ true
passes k r tab less = ap (λ (b : Bool). b && is_lt (row_cmp k r.0)) (eq-eqb r.0.tab TABLE_OF_EDGES tab) ∙ ap is_lt less

pass_at : (i : RowKey) (r : RowKey × List ℕ) (rows : List (RowKey × List ℕ)) → r.0.tab ≡ TABLE_OF_EDGES → row_cmp i r.0 ≡ Less → filter (behind i) rows ≡ rows
    → filter (behind i) (r ∷ rows) ≡ r ∷ rows
pass_at i r rows tab less rest =
    ap (λ (b : Bool). cond b (r ∷ filter (behind i) rows) (filter (behind i) rows)) (passes i r tab less) ∙ ap (λ (l : List (RowKey × List ℕ)). r ∷ l) rest

pass_all : (i k : RowKey) (rows : List (RowKey × List ℕ)) → IsAtMost i k → Chain k rows → filter (behind i) rows ≡ rows
pass_all i k [] low c = refl
pass_all i k (r ∷ rows) low c =
    let first : row_cmp i r.0 ≡ Less = then_below i k r.0 low c.0.above in
    pass_at i r rows c.0.table first (pass_all i r.0 rows (Below first) c.1)

-- behind the last row of a page come the rows that it leaves
pub suffix : (k : RowKey) (rows : List (RowKey × List ℕ)) (n : ℕ) → Chain k rows → filter (behind (last_or k (take n rows))) rows ≡ drop n rows
suffix k rows zero c = pass_all k k rows (Same refl) c
suffix k [] (suc n) c = refl
suffix k (r ∷ rows) (suc n) c =
    let q : RowKey = last_or r.0 (take n rows) in
    ap (λ (a : Bool). cond (a && is_lt (row_cmp q r.0)) (r ∷ filter (behind q) rows) (filter (behind q) rows)) (eq-eqb r.0.tab TABLE_OF_EDGES c.0.table)
    ∙ ap (λ (b : Bool). cond b (r ∷ filter (behind q) rows) (filter (behind q) rows)) (not_behind r.0 q (last-above r.0 rows n c.1))
    ∙ suffix r.0 rows n c.1

sooner : (k q : RowKey) → IsAtMost k q → (e : RowKey × List ℕ) → behind q e ≡ true → behind k e ≡ true
sooner k q low e later =
    let both = and_parts (e.0.tab == TABLE_OF_EDGES) (is_lt (row_cmp q e.0)) later in
    passes k e (eqb-true e.0.tab TABLE_OF_EDGES both.0) (then_below k q e.0 low (lt_is (row_cmp q e.0) both.1))

not_later : (k q : RowKey) → IsAtMost k q → (e : RowKey × List ℕ) → behind k e ≡ false → behind q e ≡ false
not_later k q low e is = by_test (behind q e) refl
  where
    by_test : (b : Bool) → behind q e ≡ b → b ≡ false
    by_test true later = absurd (true≢false (sym (sooner k q low e later) ∙ is))
    by_test false later = refl

again_at : (k q : RowKey) → IsAtMost k q → (e : RowKey × List ℕ) (es : List (RowKey × List ℕ)) (b : Bool) → behind k e ≡ b
    → filter (behind q) (filter (behind k) es) ≡ filter (behind q) es
    → filter (behind q) (cond b (e ∷ filter (behind k) es) (filter (behind k) es)) ≡ filter (behind q) (e ∷ es)
again_at k q low e es true is rest = ap (λ (l : List (RowKey × List ℕ)). cond (behind q e) (e ∷ l) l) rest
again_at k q low e es false is rest = rest ∙ sym (ap (λ (b : Bool). cond b (e ∷ filter (behind q) es) (filter (behind q) es)) (not_later k q low e is))

-- what is behind a key is found among the rows behind a lower one
pub behind-again : (k q : RowKey) → IsAtMost k q → (es : List (RowKey × List ℕ)) → filter (behind q) (filter (behind k) es) ≡ filter (behind q) es
behind-again k q low [] = refl
behind-again k q low (e ∷ es) = again_at k q low e es (behind k e) refl (behind-again k q low es)
