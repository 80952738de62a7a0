-- What only inner contracts cite: of `promise/Transactions`.
use Rattle.std.specs.Prelude.{◌≡◌, ℕ, Option, Some, Result, Ok, Err, IfErr, IfSome, OnErr}
use Rattle.jv_model.specs.declared.basics.Who.{Who}
use Rattle.jv_model.specs.declared.fault.Fault.{Fault}
use Rattle.jv_model.specs.declared.fault.RowFault.TheVariants.{Bad, Failed, Memory}
use Rattle.jv_model.specs.declared.fault.TxFault.{TxFault}
use Rattle.jv_model.specs.declared.fault.TxFault.TheVariants.{Refused, Moved, Rows as OfRows}
use Rattle.jv_model.specs.declared.op.Reply.{Reply}
use Rattle.jv_model.specs.promise.rows.RowKeys.{RowMap}
use Rattle.jv_model.specs.promise.tree.Tree.{Tree}
use Rattle.jv_model.specs.promise.tree.Caller.{Caller, Outcome}
use Rattle.jv_outside.specs.promise.Store.{Store}
use Rattle.jv_rows.specs.Readings.{RowCause}
use Rattle.jv_volume.specs.promise.TypedRows.{Rows, typed}
use Rattle.jv_volume.specs.promise.TreeOf.{tree_of}
use Rattle.jv_volume.specs.promise.Whole.{Whole}
use Rattle.jv_volume.specs.Whole.{Quiet}
use Rattle.jv_model.specs.Optional.{mapped}
use Rattle.jv_rows.specs.promise.Transactions.{IsBad}

-- whether there was an answer
abbrev pub without_answer : {A : Type 0} → Result A TxFault → Result (Unit {0}) TxFault
without_answer result = mapped (λ x. tt) result

-- in whose name the model's transaction is made: the session, the moment, and the open files of one
-- who asks
pub record IsFor (who : Who) (caller : Caller) : Type 0 where
  pub sid : caller.sid ≡ who.sid
  pub now : caller.now ≡ who.now
  pub held : caller.held ≡ who.held

-- the keeper's count of faults rose where it failed, and is the same otherwise
abbrev pub FaultCause : ℕ → ℕ → TxFault → Type 0
FaultCause before now (Refused fault) = now ≡ before
FaultCause before now (Moved list) = now ≡ before
FaultCause before now (OfRows fault) = RowCause before now fault

abbrev pub TransactionCounts : {A : Type 0} → ℕ → ℕ → Result A TxFault → Type 0
TransactionCounts before now (Ok x) = now ≡ before
TransactionCounts before now (Err fault) = FaultCause before now fault

abbrev pub BadFault : Rows → TxFault → Type 0
BadFault rows (OfRows (Bad at bytes)) = IsBad rows at bytes
BadFault rows _ = Unit {0}

-- A result is the model's: the same answer or the same refusal. No row is Bad, and no list has
-- moved.
abbrev pub Agrees : {A : Type 0} → Result A TxFault → Result A Fault → Type 0
Agrees (Ok x) model = model ≡ Ok x
Agrees (Err (Refused fault)) model = model ≡ Err fault
Agrees (Err (Moved list)) model = ⊥
Agrees (Err (OfRows (Bad at bytes))) model = ⊥
Agrees (Err (OfRows Failed)) model = Unit {0}
Agrees (Err (OfRows Memory)) model = Unit {0}

-- A part of a transaction that reads: nothing changes, and over whole rows it finds what the model
-- finds in their tree.
pub record Looks {A : Type 0} (before after : Store) (result : Result A TxFault)
    (finds : Tree → Result A Fault) : Type 0 where
  pub rows_are : after.rows ≡ before.rows
  pub opened_at : after.opened ≡ before.opened
  pub counts : TransactionCounts before.faults after.faults result
  pub agrees : (known : RowMap) → before.rows ≡ Some known → Whole (typed known)
      → (bytes : ℕ → ℕ → ℕ) → Agrees result (finds (tree_of bytes (typed known)))
  pub bad : IfErr result (λ fault. IfSome before.rows (λ known. BadFault (typed known) fault))

-- A transaction that was made: the rows left are whole, their tree is the model's after it, lists
-- and slices are as before, and files that went left dropped rows with their lengths.
pub record Landed (known : RowMap) (after : Option RowMap) (bytes : ℕ → ℕ → ℕ) (reply : Reply)
    (act : Tree → Result Outcome Fault) : Type 0 where
  pub left : RowMap
  pub is : after ≡ Some left
  pub whole : Whole (typed left)
  pub quiet : Quiet (typed known) (typed left)
  pub model : act (tree_of bytes (typed known)) ≡ Ok
      (record { tree = tree_of bytes (typed left); reply = reply })

abbrev pub Lands : {A : Type 0} → RowMap → Option RowMap → (ℕ → ℕ → ℕ) → (A → Reply)
    → (Tree → Result Outcome Fault) → Result A TxFault → Type 0
Lands known after bytes reply act (Ok x) = Landed known after bytes (reply x) act
Lands known after bytes reply act (Err (Refused fault)) =
    act (tree_of bytes (typed known)) ≡ Err fault
Lands known after bytes reply act (Err (Moved list)) = ⊥
Lands known after bytes reply act (Err (OfRows (Bad at bad))) = ⊥
Lands known after bytes reply act (Err (OfRows Failed)) = Unit {0}
Lands known after bytes reply act (Err (OfRows Memory)) = Unit {0}

-- A transaction: after an error the rows are as before, and over whole rows, whose tree is ready
-- for it, it does what the model's does to their tree.
pub record Transacts {A : Type 0} (ready : Tree → Type 0) (before after : Store)
    (result : Result A TxFault) (reply : A → Reply)
    (act : Tree → Result Outcome Fault) : Type 0 where
  pub opened_at : after.opened ≡ before.opened
  pub counts : TransactionCounts before.faults after.faults result
  pub undone : OnErr result (after.rows ≡ before.rows)
  pub lands : (known : RowMap) → before.rows ≡ Some known → Whole (typed known)
      → (bytes : ℕ → ℕ → ℕ) → ready (tree_of bytes (typed known))
      → Lands known after.rows bytes reply act result
  pub bad : IfErr result (λ fault. IfSome before.rows (λ known. BadFault (typed known) fault))

abbrev pub Always : Tree → Type 0
Always t = Unit {0}
