-- What the transaction of a truncate or a copy promises, without a journal.
use Rattle.std.specs.Prelude.{◌≡◌, ℕ, List, Option, Result}
use Rattle.jv_model.specs.declared.act.ActKind.TheVariants.{Truncated, Copied}
use Rattle.jv_model.specs.declared.basics.Who.{Who}
use Rattle.jv_model.specs.declared.fault.TxFault.{TxFault}
use Rattle.jv_model.specs.declared.limits.TheConstants.{FILE_END}
use Rattle.jv_model.specs.declared.op.Op.{Op}
use Rattle.jv_model.specs.declared.op.Op.TheVariants as op
use Rattle.jv_model.specs.declared.op.Reply.TheVariants.{Done, Count}
use Rattle.jv_model.specs.promise.tree.Caller.{Caller}
use Rattle.jv_model.specs.promise.tree.FileBytes as model
use Rattle.jv_model.specs.tree.Trash.{due_after}
use Rattle.jv_outside.specs.promise.Store.{Store}
use Rattle.jv_rows.specs.Transactions.{IsFor}
use Rattle.jv_data.specs.Changing.{Changes, AnyBytes, IsCrowded, Never, count_in}
use Rattle.jv_client_handles.specs.declared.handle.Handle.{Handle}
use Rattle.jv_client_handles.specs.Handles.{inode_here}
use Rattle.jv_client.specs.declared.changes.Changed.{Changed}
use Rattle.jv_model.specs.Optional.{mapped}

-- a file that was made `len` bytes long
abbrev pub cut_to : ℕ → ℕ → Changed
cut_to inode len = record { kind = Truncated inode len; reply = Done; inode = inode }

-- a file that got `count` bytes of another one, or of its own
abbrev pub copied_to : (source from target to : ℕ) → ℕ → Changed
copied_to source from target to count =
    record { kind = Copied source from target to count; reply = Count count; inode = target }

-- A truncate was tried. What nothing names any more may go once the trash's days are over.
pub record TriesTruncate (inode len : ℕ) (who : Who) (before after : Store)
    (result : Result Changed TxFault) : Type 0 where
  pub made : Result (Unit {0}) TxFault
  pub result_is : result ≡ mapped (λ unit. cut_to inode len) made
  pub changes : (caller : Caller) → IsFor who caller → caller.inode ≡ inode
      → Changes (record {
        own = 0;
        size = 0;
        more = 1;
        due = due_after who.now;
      }) AnyBytes Never before after made
      (λ unit. Done) (λ t. model.truncate t caller len)

-- A copy was tried, which answers how many bytes it copied, and adds at most as many records.
pub record TriesCopy (source from target to len : ℕ) (who : Who) (before after : Store)
    (result : Result Changed TxFault) : Type 0 where
  pub made : Result ℕ TxFault
  pub result_is : result ≡ mapped (copied_to source from target to) made
  pub changes : (caller : Caller) → IsFor who caller → caller.inode ≡ source → caller.other ≡ target
      → Changes (record {
        own = 0;
        size = 0;
        more = count_in made;
        due = due_after who.now;
      }) AnyBytes (IsCrowded FILE_END)
      before after made (λ n. Count n) (λ t. model.copy t caller from to len)

-- the transaction of such an operation, on the files of its handles
abbrev pub TriesChange : List (Option Handle) → Op → Who → Store → Store → Result Changed TxFault
    → Type 0
TriesChange handles (op.Truncate handle len) who before after result =
    TriesTruncate (inode_here handles handle) len who before after result
TriesChange handles (op.Copy source from target to len) who before after result =
    TriesCopy (inode_here handles source) from
    (inode_here handles target) to len who before after result
TriesChange handles o who before after result = ⊥
