-- What an answer leaves of a client.
use Rattle.std.specs.Prelude.{◌≡◌, ℕ, Bool, true, false, ◌==◌, not, if◌then◌else◌, List, filter, Option, None, Some}
use Rattle.jv_model.specs.declared.act.Told.{Told}
use Rattle.jv_model.specs.declared.act.Told.TheVariants.{Fine, Looks, Refused as ToldRefused}
use Rattle.jv_model.specs.declared.fault.Fault.{Fault}
use Rattle.jv_model.specs.declared.fault.Fault.TheVariants.{Stale}
use Rattle.jv_model.specs.declared.fault.Gone.TheVariants.{Session, Node}
use Rattle.jv_model.specs.declared.op.Op.{Op}
use Rattle.jv_model.specs.declared.op.Op.TheVariants as op
use Rattle.jv_model.specs.promise.client.Pending.{pending_of_others}
use Rattle.jv_model.specs.promise.client.ModelClient.{with_file}
use Rattle.jv_client.specs.ClientValue.{ClientValue, crashed}
use Rattle.jv_client_handles.specs.Handles.{inode_here}
use Rattle.jv_client.specs.Held.{is_last_here}

-- without an operation
abbrev pub ended : ClientValue → ClientValue
ended h = record h { doing = None }

-- inodes without one of them
abbrev pub without : ℕ → List ℕ → List ℕ
without gone inodes = filter (λ inode. not (inode == gone)) inodes

-- without a handle; where it was the last one on a file that this client removed, the file isn't
-- kept any more
abbrev pub closed : ℕ → ClientValue → ClientValue
closed handle h = record h {
  handles = with_file handle None h.handles;
  sustained =
      (if is_last_here h handle then without (inode_here h.handles handle) h.sustained
      else h.sustained);
  doing = None;
}

-- an operation is done; a write's bytes are kept elsewhere
abbrev pub finished_here : Op → ClientValue → ClientValue
finished_here op.Umount h = crashed h
finished_here (op.Close handle) h = closed handle h
finished_here o h = ended h

-- a client whose session is gone is as before any mount; what is pending of an inode that is gone
-- is dropped
abbrev pub refused_here : Fault → ClientValue → ClientValue
refused_here (Stale (Session sid)) h = crashed h
refused_here (Stale (Node inode)) h =
    record h { pending = pending_of_others inode h.pending; doing = None }
refused_here fault h = ended h

-- after an answer
abbrev pub told_here : Op → Told → ClientValue → ClientValue
told_here o (Fine a b c d) h = finished_here o h
told_here o (Looks first second len) h = finished_here o h
told_here o (ToldRefused fault) h = refused_here fault h

abbrev pub finished_by : Option ℕ → ClientValue → ClientValue
finished_by None h = ended h
finished_by (Some handle) h = closed handle h

-- whether an operation ends the mount, and which handle it closes
abbrev pub Finishes : Op → Bool × Option ℕ → Type 0
Finishes o ends = (h : ClientValue) → finished_here o h ≡ elim ends.0 [
  | true ↦ crashed h
  | false ↦ finished_by ends.1 h
]
