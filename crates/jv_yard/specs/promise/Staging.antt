-- The blocks that clients have staged, each with the moment of its staging.
use Rattle.std.specs.Prelude.{ℕ, List, Option}
use Rattle.jv_model.specs.promise.FiniteMap.{Map, text_key, get}

-- the moments at which a client staged its blocks, by the blocks' names
abbrev pub ClientStaging : Type 0
ClientStaging = Map text_key ℕ

-- the same for each client
abbrev pub Staging : Type 0
Staging = ℕ → ClientStaging

-- the moment at which a client staged the block of a name, if it is staged
abbrev pub staged_since : ℕ → List ℕ → Staging → Option ℕ
staged_since client name staging = get (staging client) name
