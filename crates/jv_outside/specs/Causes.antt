-- What only inner contracts cite: of `promise/Causes`.
use Rattle.std.specs.Prelude.{◌≡◌, ℕ}
use Rattle.jv_model.specs.declared.fault.Down.{Down}
use Rattle.jv_model.specs.declared.fault.Down.TheVariants.{Failed}
use Rattle.jv_outside.specs.promise.Causes.{Rose}

-- the error is Failed, never Memory, and the count rose
pub record HasFailed (before now : ℕ) (down : Down) : Type 0 where
  pub failed : down ≡ Failed
  pub rose : Rose before now
