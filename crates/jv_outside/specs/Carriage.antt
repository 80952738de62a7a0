-- What only inner contracts cite: of `promise/Carriage`.
use Rattle.std.specs.Prelude.{ℕ, List, Result, Ok, Err}
use Rattle.jv_model.specs.declared.fault.Down.{Down}
use Rattle.jv_outside.specs.declared.parcel.Parcel.{Parcel}
use Rattle.jv_outside.specs.Parcels.{StandsFor}
use Rattle.jv_outside.specs.promise.Carriage.{Carriage, IsAt, FailsToCarry}

-- sending bytes under a name, at a moment, by the result
abbrev pub Sends : Carriage → Carriage → Result Parcel Down → List ℕ → List ℕ → ℕ → Type 0
Sends before after (Ok parcel) name bytes now =
    IsAt before after before.opened × StandsFor parcel name bytes now
Sends before after (Err down) name bytes now = FailsToCarry before after down
