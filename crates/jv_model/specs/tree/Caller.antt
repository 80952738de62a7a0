-- What only inner contracts cite: of `promise/tree/Caller`.
use Rattle.std.specs.Prelude.{ℕ, ◌||◌, ◌==◌, is_some, Result}
use Rattle.jv_model.specs.declared.fault.Fault.{Fault}
use Rattle.jv_model.specs.declared.fault.Fault.TheVariants.{Stale}
use Rattle.jv_model.specs.declared.fault.Gone.TheVariants.{Session}
use Rattle.jv_model.specs.promise.tree.Attempt.{require}
use Rattle.jv_model.specs.promise.FiniteMap.{get}
use Rattle.jv_model.specs.promise.tree.Tree.{Tree}

-- The same of a session that a command may go without: it cleans, collects and compacts as session
-- 0, which is none and is never gone.
abbrev pub session_if_any : Tree → ℕ → Result (Unit {0}) Fault
session_if_any t sid = require ((sid == 0) || is_some (get t.sessions sid)) (Stale (Session sid))
