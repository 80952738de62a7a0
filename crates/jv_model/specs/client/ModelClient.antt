-- What only inner contracts cite: of `promise/client/ModelClient`.
use Rattle.std.specs.Prelude.{Bool, true, false}
use Rattle.jv_model.specs.promise.client.ModelClient.{Stage, Replying}

-- the answer is decided, and comes in the same step
abbrev pub is_replying : Stage → Bool
is_replying (Replying reply) = true
is_replying _ = false
