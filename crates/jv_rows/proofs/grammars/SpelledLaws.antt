-- What is spelled is a row of its table.
use Rattle.std.proofs.Common.{◌≡◌, ℕ, Bool, List, Option, Some, Result, Ok, Err, option_map, ap, ◌∙◌}
use Rattle.std.specs.Prelude.{IfOk, IsTrue}
use Rattle.jv_model.specs.declared.row.Row.{Row}
use Rattle.jv_model.specs.promise.rows.RowGrammar.{row_of}
use Rattle.jv_rows.specs.RoundTrips.{IsExact}

-- the bytes of an allowed value, whose numbers have the widths of its row, spell its row
pub spelled_row : {A E : Type 0} {HasWidths : A → Type 0} {is_allowed : A → Bool} {spelled : A → List ℕ} {read : List ℕ → Option A} → IsExact HasWidths is_allowed spelled read
    → (row : A → Row) (tab : ℕ) → ((bytes : List ℕ) → row_of tab bytes ≡ option_map row (read bytes)) → (x : A) → HasWidths x → IsTrue (is_allowed x)
    → (r : Result (List ℕ) E) → IfOk r (λ bytes. bytes ≡ spelled x) → IfOk r (λ bytes. row_of tab bytes ≡ Some (row x))
spelled_row exact row tab reads x widths allowed (Ok bytes) is = ap (row_of tab) is ∙ reads _ ∙ ap (option_map row) (exact.again x widths allowed)
spelled_row exact row tab reads x widths allowed (Err e) is = tt
