-- The operations that are one transaction on metadata, and what is answered of them.
use Rattle.std.specs.Prelude.{◌≡◌, ℕ, false, Option, None, Some, Result, Ok, Err, IfOk, MatchBool}
use Rattle.jv_model.specs.declared.fault.TxFault.{TxFault}
use Rattle.jv_model.specs.declared.op.Op.{Op}
use Rattle.jv_model.specs.declared.op.Reply.{Reply}
use Rattle.jv_model.specs.promise.journal.State.{is_refused}
use Rattle.jv_model.specs.promise.rows.RowKeys.{RowMap}
use Rattle.jv_model.specs.promise.tree.Caller.{Caller, outcome}
pub use Rattle.jv_model.specs.promise.tree.TreeAct.{attempt}
use Rattle.jv_model.specs.client.OpForms.{takes_entries}
use Rattle.jv_outside.specs.promise.Store.{Store}
use Rattle.jv_volume.specs.promise.TypedRows.{typed}
use Rattle.jv_volume.specs.promise.TreeOf.{tree_of}
use Rattle.jv_volume.specs.promise.Whole.{Whole}
use Rattle.jv_links.specs.Removals.{HoldsFiles, KeepsAnew}
use Rattle.jv_client_metadata.specs.declared.answers.Answer.{Answer}

-- an answer that keeps no file
abbrev pub plain : Reply → Answer
plain reply = record { reply = reply; kept = None }

-- an answer that was given is none
abbrev pub AnswersPlainly : Result Answer TxFault → Type 0
AnswersPlainly result = IfOk result (λ answer. is_refused answer.reply ≡ false)

-- what an operation's handles are
pub record Asks (caller : Caller) (handle inode : ℕ) : Type 0 where
  pub gets : caller.free_handle ≡ handle
  pub names : caller.inode ≡ inode

-- the file that the session keeps from then on, by whole rows whose caller has files open, is the
-- one that is answered
abbrev pub KeepsOne : Caller → Op → Store → Option ℕ → Type 0
KeepsOne who o before kept = (known : RowMap) → before.rows ≡ Some known → Whole (typed known)
    → (bytes : ℕ → ℕ → ℕ) → HoldsFiles who.held (tree_of bytes (typed known))
    → KeepsAnew who.sid (tree_of bytes (typed known))
    (outcome (tree_of bytes (typed known)) (attempt (tree_of bytes (typed known)) who o)).tree
    kept

abbrev pub SaysKept : Caller → Op → Store → Result Answer TxFault → Type 0
SaysKept who o before result =
    IfOk result (λ answer.
    MatchBool (takes_entries o) (KeepsOne who o before answer.kept) (answer.kept ≡ None))
