-- Reading rows one after the other, as a loop does.
use Rattle.std.proofs.Common.{◌≡◌, ℕ, ◌+◌, ◌<◌, List, [], ◌∷◌, ◌++◌, length, get_or, drop, Option, Some, None, Result, Ok, Err, refl, sym, ap, subst, ◌∙◌, append_assoc, arith}
use Rattle.std.specs.Prelude.{IsTrue}
use Rattle.std.proofs.lemmas.List.{append-nil, at_drop_more, at_drop_all}
use Rattle.jv_model.specs.declared.row.RowKey.{RowKey}
use Rattle.jv_model.specs.declared.row.Row.{Row}
use Rattle.jv_model.specs.promise.rows.RowGrammar.{row_of}
use Rattle.jv_model.specs.rows.RowGrammar.{is_row}
use Rattle.jv_model.specs.declared.fault.RowFault.{RowFault}
use Rattle.jv_model.specs.declared.fault.RowFault.TheVariants.{Bad, Failed, Memory}
use Rattle.jv_rows.specs.Scans.{row_then, rows_read, AreAllowed, RefusesBytes, RefusesRows}

-- rows that were read before, and those behind them
abbrev pub behind : List (RowKey × Row) → Result (List (RowKey × Row)) (RowKey × List ℕ) → Result (List (RowKey × Row)) (RowKey × List ℕ)
behind front (Ok rows) = Ok (front ++ rows)
behind front (Err off) = Err off

regroup : (front : List (RowKey × Row)) (key : RowKey) (bytes : List ℕ) (row : Row) (rest : Result (List (RowKey × Row)) (RowKey × List ℕ)) → behind front (row_then key bytes (Some row) rest) ≡ behind (front ++ (key, row) ∷ []) rest
regroup front key bytes row (Ok rows) = ap (λ (l : List (RowKey × Row)). Ok l) (simp append_assoc)
regroup front key bytes row (Err off) = refl

pub row_goes_on : (rows : List (RowKey × List ℕ)) (i : ℕ) (front : List (RowKey × Row)) (r : RowKey × List ℕ) (row : RowKey × Row) → i < length rows → r ≡ get_or rows i r → row.0 ≡ r.0 → row_of r.0.tab r.1 ≡ Some row.1
    → rows_read rows ≡ behind front (rows_read (drop i rows)) → rows_read rows ≡ behind (front ++ row ∷ []) (rows_read (drop (i + 1) rows))
row_goes_on rows i front r row lt here key found so_far =
    so_far
    ∙ ap (behind front) (at_drop_more rows_read rows i r lt ∙ ap (λ (x : RowKey × List ℕ). row_then x.0 x.1 (row_of x.0.tab x.1) (rows_read (drop (i + 1) rows))) (sym here)
    ∙ ap (λ (o : Option Row). row_then r.0 r.1 o (rows_read (drop (i + 1) rows))) found
    ∙ ap (λ (k : RowKey). row_then k r.1 (Some row.1) (rows_read (drop (i + 1) rows))) (sym key))
    ∙ regroup front row.0 r.1 row.1 (rows_read (drop (i + 1) rows))

pub row_ends : (rows : List (RowKey × List ℕ)) (i : ℕ) (front : List (RowKey × Row)) (r : RowKey × List ℕ) → i < length rows → r ≡ get_or rows i r → row_of r.0.tab r.1 ≡ None
    → rows_read rows ≡ behind front (rows_read (drop i rows)) → rows_read rows ≡ Err (r.0, r.1)
row_ends rows i front r lt here off so_far =
    so_far
    ∙ ap (behind front) (at_drop_more rows_read rows i r lt ∙ ap (λ (x : RowKey × List ℕ). row_then x.0 x.1 (row_of x.0.tab x.1) (rows_read (drop (i + 1) rows))) (sym here)
    ∙ ap (λ (o : Option Row). row_then r.0 r.1 o (rows_read (drop (i + 1) rows))) off)

pub rows_done : (rows : List (RowKey × List ℕ)) (i : ℕ) (front : List (RowKey × Row)) → i ≡ length rows → rows_read rows ≡ behind front (rows_read (drop i rows)) → rows_read rows ≡ Ok front
rows_done rows i front all so_far = so_far ∙ ap (behind front) (at_drop_all rows_read rows i (omega (arith, all))) ∙ ap (λ (l : List (RowKey × Row)). Ok l) (append-nil front)

pub AreAllowed-push : (front : List (RowKey × Row)) (row : RowKey × Row) → AreAllowed front → IsTrue (is_row row.1) → AreAllowed (front ++ row ∷ [])
AreAllowed-push [] row h p = (p, tt)
AreAllowed-push (x ∷ front) row h p = (h.0, AreAllowed-push front row h.1 p)

-- how far a loop over rows has come
pub record IsReadSoFar (rows : List (RowKey × List ℕ)) (count : ℕ) (list : List (RowKey × Row)) : Type 0 where
  pub read : rows_read rows ≡ behind list (rows_read (drop count rows))
  pub allowed : AreAllowed list

pub row_refused : (rows : List (RowKey × List ℕ)) (i : ℕ) (front : List (RowKey × Row)) (r : RowKey × List ℕ) (e : RowFault) → i < length rows → r ≡ get_or rows i r → RefusesBytes r.0 r.1 e
    → rows_read rows ≡ behind front (rows_read (drop i rows)) → RefusesRows rows e
row_refused rows i front r (Bad at off) lt here h so_far =
    subst (λ (x : RowKey × List ℕ). (row_of x.0.tab x.1 ≡ None) × (rows_read rows ≡ Err x)) (λ j. (sym h.0 j, sym h.1 j)) (h.2, row_ends rows i front r lt here h.2 so_far)
row_refused rows i front r Failed lt here h so_far = absurd h
row_refused rows i front r Memory lt here h so_far = tt

nothing_before : (read : Result (List (RowKey × Row)) (RowKey × List ℕ)) → read ≡ behind [] read
nothing_before (Ok rows) = refl
nothing_before (Err off) = refl

pub start : (rows : List (RowKey × List ℕ)) → IsReadSoFar rows 0 []
start rows = record { read = nothing_before (rows_read rows); allowed = tt }
