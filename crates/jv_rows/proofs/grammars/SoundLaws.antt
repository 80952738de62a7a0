-- What is read by an exact grammar is spelled so.
use Rattle.std.proofs.Common.{ℕ, Bool, List, Option, Result, Ok, Err, sym, ap, ◌∙◌}
use Rattle.std.specs.Prelude.{IfOk}
use Rattle.jv_rows.specs.declared.misread.Misread.{Misread}
use Rattle.jv_rows.specs.Reads.{ReadsAs, IsSpelled}
use Rattle.jv_model.specs.Lists.{AreBytes}
use Rattle.jv_rows.specs.RoundTrips.{IsExact}

pub sound : {A : Type 0} {HasWidths : A → Type 0} {is_allowed : A → Bool} {spelled : A → List ℕ} {read : List ℕ → Option A} → IsExact HasWidths is_allowed spelled read
    → (bytes : List ℕ) (r : Result A Misread) → AreBytes bytes → ReadsAs r (read bytes) → IfOk r (IsSpelled read spelled is_allowed bytes)
sound {read = read} exact bytes (Ok x) h g = record { allowed = exact.allowed bytes x h g; same = exact.same bytes x h g; again = ap read (sym (exact.same bytes x h g)) ∙ g }
sound exact bytes (Err e) h g = tt
