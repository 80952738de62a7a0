-- A transaction of an operation is that of the call which makes it, and its answer says what that returned.
use Rattle.std.proofs.Common.{◌≡◌, ℕ, false, List, Option, Some, Result, Ok, Err, sym, subst}
use Rattle.jv_model.specs.declared.basics.How.{How}
use Rattle.jv_model.specs.declared.fault.Fault.{Fault}
use Rattle.jv_model.specs.declared.fault.RowFault.TheVariants.{Bad, Failed, Memory}
use Rattle.jv_model.specs.declared.fault.TxFault.{TxFault}
use Rattle.jv_model.specs.declared.fault.TxFault.TheVariants.{Refused, Moved, Rows as OfRows}
use Rattle.jv_model.specs.declared.op.Op.{Op}
use Rattle.jv_model.specs.declared.op.Op.TheVariants as op
use Rattle.jv_model.specs.declared.op.Reply.{Reply}
use Rattle.jv_model.specs.declared.op.Reply.TheVariants.{Done}
use Rattle.jv_model.specs.promise.rows.RowKeys.{RowMap}
use Rattle.jv_model.specs.promise.tree.Tree.{Tree}
use Rattle.jv_model.specs.promise.tree.Caller.{Caller, Outcome}
use Rattle.jv_model.specs.promise.tree.Removing.{unlink}
use Rattle.jv_model.specs.promise.tree.Renaming.{rename}
use Rattle.jv_outside.specs.promise.Store.{Store}
use Rattle.jv_model.specs.promise.journal.State.{is_refused}
use Rattle.jv_rows.specs.Transactions.{Landed, Lands, Transacts, Always}
use Rattle.jv_volume.specs.promise.TypedRows.{typed}
use Rattle.jv_volume.specs.promise.TreeOf.{tree_of}
use Rattle.jv_links.specs.declared.fates.Removed.{Removed}
use Rattle.jv_links.specs.Removals.{HoldsFiles, SaysSustained, kept_of, removed_in, renamed_in}
use Rattle.jv_client_metadata.specs.declared.answers.Answer.{Answer}
use Rattle.jv_client_metadata.specs.Attempts.{AnswersPlainly, SaysKept}
use Rattle.jv_model.specs.Optional.{mapped}

-- ---- a call's transaction, with another answer

module _ {A : Type 0} (ready loose : Tree → Type 0) (before after : Store) (reply : A → Reply) (act : Tree → Result Outcome Fault) (f : A → Answer)
    (readies : (t : Tree) → loose t → ready t) (same : (x : A) → (f x).reply ≡ reply x) where
  lands_as : (fault : TxFault) (known : RowMap) (bytes : ℕ → ℕ → ℕ) → Lands {A = A} known after.rows bytes reply act (Err fault)
      → Lands {A = Answer} known after.rows bytes (λ answer. answer.reply) act (Err fault)
  lands_as (Refused fault) known bytes h = h
  lands_as (Moved list) known bytes h = h
  lands_as (OfRows (Bad at bad)) known bytes h = h
  lands_as (OfRows Failed) known bytes h = tt
  lands_as (OfRows Memory) known bytes h = tt

  answers_as : (made : Result A TxFault) → Transacts ready before after made reply act → Transacts loose before after (mapped f made) (λ answer. answer.reply) act
  answers_as (Ok x) t = record {
    opened_at = t.opened_at;
    counts = t.counts;
    undone = tt;
    lands = λ known is whole bytes l. subst (λ r. Landed known after.rows bytes r act) (sym (same x)) (t.lands known is whole bytes (readies (tree_of bytes (typed known)) l));
    bad = tt;
  }
  answers_as (Err fault) t = record {
    opened_at = t.opened_at;
    counts = t.counts;
    undone = t.undone;
    lands = λ known is whole bytes l. lands_as fault known bytes (t.lands known is whole bytes (readies (tree_of bytes (typed known)) l));
    bad = t.bad;
  }

  pub transacts-mapped : (made : Result A TxFault) → Transacts ready before after made reply act → (result : Result Answer TxFault) → result ≡ mapped f made
      → (next : Tree → Result Outcome Fault) → ((t : Tree) → next t ≡ act t) → Transacts loose before after result (λ answer. answer.reply) next
  transacts-mapped made t result is next acts =
      subst (λ a. Transacts loose before after result (λ answer. answer.reply) a) (λ i u. sym (acts u) i)
      (subst (λ r. Transacts loose before after r (λ answer. answer.reply) act) (sym is) (answers_as made t))

-- the same of a call that is ready for every tree
module _ {A : Type 0} (held : List ℕ) (before after : Store) (reply : A → Reply) (act : Tree → Result Outcome Fault) (f : A → Answer) (same : (x : A) → (f x).reply ≡ reply x) where
  pub transacts-always : (made : Result A TxFault) → Transacts Always before after made reply act → (result : Result Answer TxFault) → result ≡ mapped f made
      → (next : Tree → Result Outcome Fault) → ((t : Tree) → next t ≡ act t) → Transacts (HoldsFiles held) before after result (λ answer. answer.reply) next
  transacts-always made t result is next acts = transacts-mapped Always (HoldsFiles held) before after reply act f (λ u l. tt) same made t result is next acts

-- its answer is no refusal
pub answers-mapped : {A : Type 0} (f : A → Answer) → ((x : A) → is_refused (f x).reply ≡ false) → (made : Result A TxFault)
    (result : Result Answer TxFault) → result ≡ mapped f made → AnswersPlainly result
answers-mapped f none (Ok x) result is = subst AnswersPlainly (sym is) (none x)
answers-mapped f none (Err fault) result is = subst AnswersPlainly (sym is) tt

-- ---- the file that is kept

-- an unlink answers the file that is kept
pub says-unlinked : (who : Caller) (before : Store) (path : List ℕ) (o : Op) → o ≡ op.Unlink path → (made : Result Removed TxFault)
    → SaysSustained who.sid (HoldsFiles who.held) before (removed_in made) (λ t. unlink t who path)
    → (result : Result Answer TxFault) → result ≡ mapped (λ removed. record { reply = Done; kept = kept_of (Some removed) }) made → SaysKept who o before result
says-unlinked who before path o is made says result same =
    subst (λ x. SaysKept who x before result) (sym is) (subst (λ r. SaysKept who (op.Unlink path) before r) (sym same) (by_result made says))
  where
    by_result : (m : Result Removed TxFault) → SaysSustained who.sid (HoldsFiles who.held) before (removed_in m) (λ t. unlink t who path)
        → SaysKept who (op.Unlink path) before (mapped (λ removed. record { reply = Done; kept = kept_of (Some removed) }) m)
    by_result (Ok removed) h = λ known at whole bytes holds inode. h known at whole bytes holds inode
    by_result (Err fault) h = tt

-- and so does a rename
pub says-renamed : (who : Caller) (before : Store) (path to : List ℕ) (how : How) (o : Op) → o ≡ op.Rename path to how → (made : Result (Option Removed) TxFault)
    → SaysSustained who.sid (HoldsFiles who.held) before (renamed_in made) (λ t. rename t who path to how)
    → (result : Result Answer TxFault) → result ≡ mapped (λ removed. record { reply = Done; kept = kept_of removed }) made → SaysKept who o before result
says-renamed who before path to how o is made says result same =
    subst (λ x. SaysKept who x before result) (sym is) (subst (λ r. SaysKept who (op.Rename path to how) before r) (sym same) (by_result made says))
  where
    by_result : (m : Result (Option Removed) TxFault) → SaysSustained who.sid (HoldsFiles who.held) before (renamed_in m) (λ t. rename t who path to how)
        → SaysKept who (op.Rename path to how) before (mapped (λ removed. record { reply = Done; kept = kept_of removed }) m)
    by_result (Ok removed) h = λ known at whole bytes holds inode. h known at whole bytes holds inode
    by_result (Err fault) h = tt
