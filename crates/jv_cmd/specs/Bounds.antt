-- What only inner contracts cite: of `promise/Bounds`.
use Rattle.std.specs.Prelude.{◌≤◌}
use Rattle.jv_model.specs.declared.options.TheConstants.{MAX_CACHE, MIN_BUFFER, MAX_BUFFER}
use Rattle.jv_cmd.specs.declared.words.request.SessionOptions.{SessionOptions}

-- the sizes are in their ranges
pub record AreAllowed (options : SessionOptions) : Type 0 where
  pub cache : options.cache ≤ MAX_CACHE
  pub least : MIN_BUFFER ≤ options.buffer
  pub most : options.buffer ≤ MAX_BUFFER
