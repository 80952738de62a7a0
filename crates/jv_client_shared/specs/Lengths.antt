-- How long the blocks of a volume may be.
use Rattle.std.specs.Prelude.{ℕ, ◌≤◌}
use Rattle.jv_model.specs.declared.limits.TheConstants.{MIN_BLOCK, MAX_BLOCK}

-- a length in bytes that blocks of a volume may have
pub record IsLength (block : ℕ) : Type 0 where
  pub least : MIN_BLOCK ≤ block
  pub most : block ≤ MAX_BLOCK
