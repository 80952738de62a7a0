-- For whom a transaction is made, and what comes of it.
use Rattle.std.specs.Prelude.{ℕ, List, is_some, Result, Ok, Err}
use Rattle.jv_model.specs.declared.fault.Fault.{Fault}
use Rattle.jv_model.specs.declared.fault.Fault.TheVariants.{Stale}
use Rattle.jv_model.specs.declared.fault.Gone.TheVariants.{Session}
use Rattle.jv_model.specs.declared.op.Reply.{Reply}
use Rattle.jv_model.specs.declared.op.Reply.TheVariants.{Refused, Done}
use Rattle.jv_model.specs.promise.tree.Attempt.{require}
use Rattle.jv_model.specs.promise.FiniteMap.{get}
use Rattle.jv_model.specs.promise.tree.Tree.{Tree}

-- for whom, and when, a transaction is made
pub record Caller : Type 0 where
  pub client : ℕ
  pub sid : ℕ
  pub now : ℕ
  pub free_handle : ℕ  -- the least number that isn't in use as a handle of the client
  pub held : List ℕ  -- the inodes that the client has open
  pub inode : ℕ  -- what the operation's handle names, the first where it has two; 0 where it has none
  pub other : ℕ  -- what its second handle names

-- a tree with what the transaction is answered
pub record Outcome : Type 0 where
  pub tree : Tree
  pub reply : Reply

abbrev pub outcome : Tree → Result Outcome Fault → Outcome
outcome t (Ok done) = done
outcome t (Err fault) = record { tree = t; reply = Refused fault }

abbrev pub answered : Tree → Reply → Result Outcome Fault
answered t reply = Ok (record { tree = t; reply = reply })

-- the tree after an operation whose answer has no more to say than that it is done
abbrev pub done : Tree → Result Outcome Fault
done t = answered t Done

-- a session is there
abbrev pub session_there : Tree → ℕ → Result (Unit {0}) Fault
session_there t sid = require (is_some (get t.sessions sid)) (Stale (Session sid))

-- the caller's session is there
abbrev pub in_session : Tree → Caller → Result (Unit {0}) Fault
in_session t who = session_there t who.sid
