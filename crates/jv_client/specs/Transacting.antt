-- What the transaction of an operation promises, without a journal, and what its answer makes of
-- the client.
use Rattle.std.specs.Prelude.{◌≡◌, ℕ, List, ◌∷◌, [], ◌++◌, Option, None, Some, Result, IfSome}
use Rattle.jv_model.specs.declared.act.ActKind.{ActKind}
use Rattle.jv_model.specs.declared.act.Told.TheVariants.{Refused as ToldRefused}
use Rattle.jv_model.specs.declared.fault.Busy.TheVariants.{Lists}
use Rattle.jv_model.specs.declared.fault.Device.TheVariants.{Keeper}
use Rattle.jv_model.specs.declared.fault.Fault.{Fault}
use Rattle.jv_model.specs.declared.fault.Fault.TheVariants.{Contended, DeviceFailed, Invalid, NoMemory}
use Rattle.jv_model.specs.declared.fault.RowFault.TheVariants.{Bad, Failed, Memory}
use Rattle.jv_model.specs.declared.fault.TxFault.{TxFault}
use Rattle.jv_model.specs.declared.fault.TxFault.TheVariants.{Refused, Moved, Rows as OfRows}
use Rattle.jv_model.specs.declared.op.Op.{Op}
use Rattle.jv_model.specs.declared.op.Reply.TheVariants.{Refused as RefusedReply}
use Rattle.jv_model.specs.promise.tree.Caller.{Caller}
use Rattle.jv_model.specs.promise.client.ModelClient.{free_handle, with_file}
use Rattle.jv_model.specs.promise.client.Profile.{handle_of}
use Rattle.jv_model.specs.promise.journal.State.{Gift, NewSession, NewHandle, Nothing, gift_of}
use Rattle.jv_model.specs.promise.journal.Steps.{told_of}
use Rattle.jv_outside.specs.promise.Store.{Store}
use Rattle.jv_rows.specs.Transactions.{Transacts, FaultCause, BadFault}
use Rattle.jv_volume.specs.promise.TypedRows.{typed}
use Rattle.jv_links.specs.Removals.{HoldsFiles}
use Rattle.jv_client_metadata.specs.declared.answers.Answer.{Answer}
use Rattle.jv_client_metadata.specs.Attempts.{AnswersPlainly, SaysKept}
use Rattle.jv_model.specs.promise.tree.TreeAct.{attempt}
use Rattle.jv_client_handles.specs.declared.handle.Handle.{Handle}
use Rattle.jv_client_handles.specs.Handles.{held_here, inode_here, new_handle}
use Rattle.jv_client.specs.declared.made.Made.{Made}
use Rattle.jv_client.specs.declared.made.Made.TheVariants as made
use Rattle.jv_client.specs.ClientValue.{ClientValue, session_here}
use Rattle.jv_client.specs.Ending.{ended, refused_here, told_here}

-- in whose name the transaction of a client's operation is made
pub record IsCaller (h : ClientValue) (o : Op) (now : ℕ) (who : Caller) : Type 0 where
  pub client : who.client ≡ h.id
  pub sid : who.sid ≡ session_here h
  pub now_is : who.now ≡ now
  pub held : who.held ≡ held_here h.handles
  pub free : who.free_handle ≡ free_handle h.handles
  pub inode : who.inode ≡ inode_here h.handles (handle_of o)

-- the transaction of an operation was tried
pub record Attempts (h : ClientValue) (o : Op) (now : ℕ) (before after : Store)
    (result : Result Answer TxFault) : Type 0 where
  pub does : (who : Caller) → IsCaller h o now who
      → Transacts (HoldsFiles who.held) before after result (λ answer. answer.reply)
      (λ t. attempt t who o)
  pub says : (who : Caller) → IsCaller h o now who → SaysKept who o before result
  pub answers : AnswersPlainly result

-- a client's session and its handles with what a reply hands to it, by the entry with this number
abbrev pub session_given : Gift → Option ℕ → Option ℕ
session_given (NewSession sid) session = Some sid
session_given (NewHandle handle inode) session = session
session_given Nothing session = session

abbrev pub handles_given : ℕ → Gift → List (Option Handle) → List (Option Handle)
handles_given entry (NewSession sid) handles = handles
handles_given entry (NewHandle handle inode) handles =
    with_file (free_handle handles) (Some (new_handle inode entry)) handles
handles_given entry Nothing handles = handles

-- with the file that its session keeps from then on
abbrev pub sustained_with : Option ℕ → List ℕ → List ℕ
sustained_with None sustained = sustained
sustained_with (Some inode) sustained = sustained ++ inode ∷ []

abbrev pub given_here : ℕ → Answer → ClientValue → ClientValue
given_here entry answer h = record h {
  session = session_given (gift_of answer.reply) h.session;
  handles = handles_given entry (gift_of answer.reply) h.handles;
  sustained = sustained_with answer.kept h.sustained;
}

-- the client once its transaction is answered
abbrev pub answered_here : ℕ → Op → Answer → ClientValue → ClientValue
answered_here entry o answer h = told_here o (told_of answer.reply) (given_here entry answer h)

-- no row is Bad, and no list moved: so it is over whole rows
abbrev pub IsPlain : TxFault → Type 0
IsPlain (Refused fault) = Unit {0}
IsPlain (Moved list) = ⊥
IsPlain (OfRows (Bad at bytes)) = ⊥
IsPlain (OfRows Failed) = Unit {0}
IsPlain (OfRows Memory) = Unit {0}

-- A transaction wasn't made: rows and place are as before, the keeper's count rose where it failed,
-- and where the rows are known, a row that is called Bad is so.
pub record NotMade (fault : TxFault) (before after : Store) : Type 0 where
  pub rows_are : after.rows ≡ before.rows
  pub opened_at : after.opened ≡ before.opened
  pub counts : FaultCause before.faults after.faults fault
  pub bad : IfSome before.rows (λ known. BadFault (typed known) fault)

-- what a refusal leaves of the client, and how the step ends: with the request that was refused,
-- or, where the keeper failed or memory ran out, without one
pub record Refuses (kind : ActKind) (fault : Fault) (h after : ClientValue)
    (done : Made) : Type 0 where
  pub after_is : after ≡ refused_here fault h
  pub made_is : done ≡ made.Both kind (ToldRefused fault) (RefusedReply fault)

pub record Fails (fault : Fault) (h after : ClientValue) (done : Made) : Type 0 where
  pub after_is : after ≡ ended h
  pub made_is : done ≡ made.Answer (ToldRefused fault) (RefusedReply fault)

-- What an operation is refused with whose transaction was refused. A device that failed is never
-- the reason: its count of faults didn't rise. No transaction over a volume's rows is refused so.
abbrev pub refusal_of : Fault → Fault
refusal_of (DeviceFailed device) = Invalid
refusal_of fault = fault

abbrev pub EndsUnmade : ActKind → TxFault → ClientValue → ClientValue → Made → Type 0
EndsUnmade kind (Refused fault) h after done = Refuses kind (refusal_of fault) h after done
EndsUnmade kind (Moved list) h after done =
    (count : ℕ) × Refuses kind (Contended (Lists count count)) h after done
EndsUnmade kind (OfRows (Bad at bytes)) h after done = (after ≡ h) × (done ≡ made.Broken at bytes)
EndsUnmade kind (OfRows Failed) h after done = Fails (DeviceFailed Keeper) h after done
EndsUnmade kind (OfRows Memory) h after done = Fails NoMemory h after done
