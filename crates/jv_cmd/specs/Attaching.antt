-- What only inner contracts cite: of `promise/Attaching`.
use Rattle.std.specs.Prelude.{ℕ, List, Result, Ok, Err}
use Rattle.jv_cmd.specs.declared.ended.Ended.{Ended}
use Rattle.jv_cmd.specs.promise.Worlds.{BlockDevices}
use Rattle.jv_cmd.specs.promise.Attaching.{AreAttached, CannotAttach}

-- opening the three, by the result
abbrev pub AttachesAll : List ℕ → List ℕ → BlockDevices → BlockDevices → Result (Unit {0}) Ended
    → Type 0
AttachesAll bucket folder before after (Ok unit) = AreAttached bucket folder before after
AttachesAll bucket folder before after (Err ended) = CannotAttach bucket folder before after ended
