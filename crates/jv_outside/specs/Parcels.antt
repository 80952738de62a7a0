-- What a parcel stands for.
use Rattle.std.specs.Prelude.{◌≡◌, ℕ, List, Bool, true, false}
use Rattle.jv_outside.specs.declared.object.Object.{Object}
use Rattle.jv_outside.specs.declared.parcel.Load.{Load}
use Rattle.jv_outside.specs.declared.parcel.Load.TheVariants.{Held, Placed}
use Rattle.jv_outside.specs.declared.parcel.Parcel.{Parcel}

-- A load that holds bytes carries those alone. What a file has isn't known: a load that names one
-- may carry any.
abbrev pub Carries : Load → List ℕ → Type 0
Carries (Held held) bytes = held ≡ bytes
Carries (Placed place) bytes = Unit {0}

-- a parcel for these bytes, under this name and moment
pub record StandsFor (parcel : Parcel) (name bytes : List ℕ) (at : ℕ) : Type 0 where
  pub named : parcel.name ≡ name
  pub dated : parcel.at ≡ at
  pub carries : Carries parcel.load bytes

-- whether a load names the place of its bytes
abbrev pub is_placed : Load → Bool
is_placed (Held held) = false
is_placed (Placed place) = true

-- the parcel that holds an object's bytes
abbrev pub parcel_of : Object → Parcel
parcel_of object = record { name = object.name; at = object.at; load = Held object.bytes }
