-- What an answer leaves of a client in memory stands for what it leaves of the model's, and what is held of it is of files.
use Rattle.std.proofs.Common.{◌≡◌, ℕ, zero, suc, ◌-◌, Bool, true, false, ◌&&◌, not, ◌⊎◌, inl, inr, List, [], ◌∷◌, ◌++◌, length, slice_set, Option, None, Some, refl, sym, ap, ◌∙◌}
use Rattle.std.specs.Prelude.{◌==◌, nat_le, if◌then◌else◌}
use Rattle.std.specs.List.{AllByRecursion}
use Rattle.std.proofs.lemmas.Bool.{eqb-true, or_cases, or_left, or_right}
use Rattle.std.proofs.lemmas.Map.Views.{any-filter_same}
use Rattle.jv_model.specs.declared.act.Told.{Told}
use Rattle.jv_model.specs.declared.act.Told.TheVariants.{Fine, Looks, Refused as ToldRefused}
use Rattle.jv_model.specs.declared.fault.Fault.{Fault}
use Rattle.jv_model.specs.declared.fault.Fault.TheVariants.{Stale}
use Rattle.jv_model.specs.declared.fault.Gone.TheVariants.{Session, Node}
use Rattle.jv_model.specs.declared.op.Op.{Op}
use Rattle.jv_model.specs.declared.op.Op.TheVariants as op
use Rattle.jv_model.specs.promise.tree.Tree.{Tree}
use Rattle.jv_model.specs.promise.client.Pending.{PendingByte, pending_of_others}
use Rattle.jv_model.specs.promise.client.ModelClient.{ModelClient, OpenFile, unmounted, with_file, inode_at, held_inodes}
use Rattle.jv_model.specs.promise.journal.State.{after_told, finished, refused_as}
use Rattle.jv_model.specs.promise.Lists.{is_among}
use Rattle.jv_model.specs.client.OpForms.{is_write}
use Rattle.jv_volume.specs.Holding.{IsHoldable}
use Rattle.jv_client_shared.specs.promise.Shared.{Known, Shared, depot_in}
use Rattle.jv_client_handles.specs.Handles.{inode_here}
use Rattle.jv_client_handles.proofs.HandleLaws.{handles-close}
use Rattle.jv_client.specs.ClientValue.{ClientValue, crashed}
use Rattle.jv_client.specs.Held.{IsHeld, Holds, is_last_here}
use Rattle.jv_client.specs.Ending.{closed, ended, finished_here, refused_here, told_here, without}
use Rattle.jv_client.proofs.held.DirectLaws.{direct-with_file}
use Rattle.jv_client.proofs.held.LastHandleLaws.{inode-same, is_last-same}
use Rattle.jv_client.proofs.held.HeldLaws.{held-doing, holds-doing, holds-unmounted}
use Rattle.jv_model.proofs.ListLaws.{all_filter}

-- a write that is done keeps its bytes
abbrev pub keeps_bytes : Op → Told → Bool
keeps_bytes o (Fine a b c d) = is_write o
keeps_bytes o (Looks first second len) = is_write o
keeps_bytes o (ToldRefused fault) = false

-- an operation that is done

among-others : (gone inode : ℕ) (inodes : List ℕ) → is_among inode (without gone inodes) ≡ (not (inode == gone) && is_among inode inodes)
among-others gone inode inodes =
    any-filter_same (λ i. i == inode) (λ i. not (i == gone)) (not (inode == gone)) (λ i same. ap (λ n. not (n == gone)) (eqb-true i inode same)) inodes

among-unless : (b : Bool) (gone inode : ℕ) (xs ys : List ℕ) → is_among inode xs ≡ is_among inode ys
    → is_among inode (if b then without gone xs else xs) ≡ is_among inode (if b then without gone ys else ys)
among-unless true gone inode xs ys same =
    among-others gone inode xs ∙ ap (λ b. not (inode == gone) && b) same ∙ sym (among-others gone inode ys)
among-unless false gone inode xs ys same = same

module _ (g : Known) (v : Shared) (count : ℕ) where
  module _ (m : ModelClient) (h : ClientValue) (held : IsHeld g v m count h) where
    held-ended : IsHeld g v (record m { doing = None }) count (ended h)
    held-ended = held-doing g v m count h None None held

    held-closed : (handle : ℕ) → IsHeld g v (record (finished (op.Close handle) m) { doing = None }) count (closed handle h)
    held-closed handle = record {
      session = held.session;
      removed = λ inode.
          ap (λ b. is_among inode (if b then without (inode_at m handle) m.sustained else m.sustained)) (is_last-same g v m count h held handle)
          ∙ ap (λ gone. is_among inode (if is_last_here h handle then without gone m.sustained else m.sustained)) (inode-same g v m count h held handle)
          ∙ among-unless (is_last_here h handle) (inode_here h.handles handle) inode m.sustained h.sustained (held.removed inode);
      handles = handles-close g v m.views count handle m.handles h.handles held.handles;
      views = held.views;
      pending = held.pending;
      direct = direct-with_file v.yard.setting.block (depot_in v) m.writeback h.handles held.direct handle None tt;
    }

  pub held-unmounted : (h : ClientValue) → IsHeld g v unmounted count (crashed h)
  held-unmounted h = record {
    session = refl;
    removed = λ inode. refl;
    handles = tt;
    views = tt;
    pending = refl;
    direct = record { mode = refl; seen = tt };
  }

  held-finished : (o : Op) (m : ModelClient) (h : ClientValue) → is_write o ≡ false → IsHeld g v m count h
      → IsHeld g v (record (finished o m) { doing = None }) count (finished_here o h)
  held-finished (op.Mount writeback) m h e held = held-ended m h held
  held-finished op.Umount m h e held = held-unmounted h
  held-finished op.Beat m h e held = held-ended m h held
  held-finished (op.Lookup path) m h e held = held-ended m h held
  held-finished (op.Stat path) m h e held = held-ended m h held
  held-finished (op.Lstat path) m h e held = held-ended m h held
  held-finished (op.Fstat handle) m h e held = held-ended m h held
  held-finished (op.Mkdir path mode) m h e held = held-ended m h held
  held-finished (op.Create path mode) m h e held = held-ended m h held
  held-finished (op.Open path) m h e held = held-ended m h held
  held-finished (op.Close handle) m h e held = held-closed m h held handle
  held-finished (op.Flush handle) m h e held = held-ended m h held
  held-finished (op.Read handle offset len) m h e held = held-ended m h held
  held-finished (op.Write handle offset bytes) m h e held = absurd (cc)
  held-finished (op.Truncate handle len) m h e held = held-ended m h held
  held-finished (op.Copy source from target to len) m h e held = held-ended m h held
  held-finished (op.Readdir path) m h e held = held-ended m h held
  held-finished (op.Chmod path mode) m h e held = held-ended m h held
  held-finished (op.Chown path uid gid) m h e held = held-ended m h held
  held-finished (op.Utimes path mtime) m h e held = held-ended m h held
  held-finished op.Statfs m h e held = held-ended m h held
  held-finished (op.Symlink target path) m h e held = held-ended m h held
  held-finished (op.Readlink path) m h e held = held-ended m h held
  held-finished (op.Unlink path) m h e held = held-ended m h held
  held-finished (op.Rmdir path) m h e held = held-ended m h held
  held-finished (op.Link path to) m h e held = held-ended m h held
  held-finished (op.Rename path to how) m h e held = held-ended m h held
  held-finished (op.Compact path window) m h e held = held-ended m h held
  held-finished op.Clean m h e held = held-ended m h held
  held-finished (op.Gc delete) m h e held = held-ended m h held
  held-finished op.Upload m h e held = held-ended m h held
  held-finished op.Stats m h e held = held-ended m h held

  -- a refusal

  held-others : (inode : ℕ) (m : ModelClient) (h : ClientValue) → IsHeld g v m count h
      → IsHeld g v (record m { pending = pending_of_others inode m.pending; doing = None }) count
      (record h { pending = pending_of_others inode h.pending; doing = None })
  held-others inode m h held = record {
    session = held.session;
    removed = held.removed;
    handles = held.handles;
    views = held.views;
    pending = ap (pending_of_others inode) held.pending;
    direct = held.direct;
  }

  held-refused : (fault : Fault) (m : ModelClient) (h : ClientValue) → IsHeld g v m count h
      → IsHeld g v (record (refused_as fault m) { doing = None }) count (refused_here fault h)
  held-refused (Stale (Session sid)) m h held = held-unmounted h
  held-refused (Stale (Node inode)) m h held = held-others inode m h held
  held-refused fault m h held = held-ended m h held

  -- an answer, but that of a write that is done
  pub held-told : (o : Op) (told : Told) (m : ModelClient) (h : ClientValue) → keeps_bytes o told ≡ false
      → IsHeld g v m count h → IsHeld g v (after_told o told m) count (told_here o told h)
  held-told o (Fine a b c d) m h none held = held-finished o m h none held
  held-told o (Looks first second len) m h none held = held-finished o m h none held
  held-told o (ToldRefused fault) m h none held = held-refused fault m h held

-- what is held is of files

abbrev pub is_open : ℕ → List (Option OpenFile) → Bool
is_open inode files = is_among inode (held_inodes files)

open-cons : (inode : ℕ) (file : Option OpenFile) (files : List (Option OpenFile)) → is_open inode (file ∷ files) ≡ true
    → (is_open inode (file ∷ []) ≡ true) ⊎ (is_open inode files ≡ true)
open-cons inode None files e = inr e
open-cons inode (Some file) files e = elim (or_cases (file.inode == inode) (is_open inode files) e) [ inl own ↦ inl (or_left (file.inode == inode) false own) | inr other ↦ inr other ]

open-first : (inode : ℕ) (file : Option OpenFile) (files : List (Option OpenFile)) → is_open inode (file ∷ []) ≡ true
    → is_open inode (file ∷ files) ≡ true
open-first inode None files e = absurd (cc)
open-first inode (Some file) files e =
    elim (or_cases (file.inode == inode) false e) [ inl own ↦ or_left (file.inode == inode) (is_open inode files) own | inr none ↦ absurd (cc) ]

open-rest : (inode : ℕ) (file : Option OpenFile) (files : List (Option OpenFile)) → is_open inode files ≡ true → is_open inode (file ∷ files) ≡ true
open-rest inode None files e = e
open-rest inode (Some file) files e = or_right (file.inode == inode) (is_open inode files) e

-- what a handle is given is open, and what was open before
module _ (inode : ℕ) (new : Option OpenFile) where
  abbrev IsOld : List (Option OpenFile) → Type 0
  IsOld files = (is_open inode (new ∷ []) ≡ true) ⊎ (is_open inode files ≡ true)

  old-rest : (file : Option OpenFile) (files : List (Option OpenFile)) → IsOld files → IsOld (file ∷ files)
  old-rest file files old = elim old [ inl e ↦ inl e | inr e ↦ inr (open-rest inode file files e) ]

  open-set : (place : ℕ) (files : List (Option OpenFile)) → is_open inode (slice_set files place new) ≡ true → IsOld files
  open-set place [] e = inr e
  open-set zero (file ∷ files) e = elim (open-cons inode new files e) [ inl own ↦ inl own | inr other ↦ inr (open-rest inode file files other) ]
  open-set (suc place) (file ∷ files) e = elim (open-cons inode file (slice_set files place new) e) [
    | inl first ↦ inr (open-first inode file files first)
    | inr other ↦ old-rest file files (open-set place files other)
  ]

  open-longer : (files : List (Option OpenFile)) → is_open inode (files ++ new ∷ []) ≡ true → IsOld files
  open-longer [] e = inl e
  open-longer (file ∷ files) e = elim (open-cons inode file (files ++ new ∷ []) e) [
    | inl first ↦ inr (open-first inode file files first)
    | inr other ↦ old-rest file files (open-longer files other)
  ]

  open-by : (b : Bool) (place : ℕ) (files : List (Option OpenFile)) → is_open inode (if b then slice_set files place new else files ++ new ∷ []) ≡ true → IsOld files
  open-by true place files e = open-set place files e
  open-by false place files e = open-longer files e

  pub open-with_file : (handle : ℕ) (files : List (Option OpenFile)) → is_open inode (with_file handle new files) ≡ true → IsOld files
  open-with_file handle files e = open-by (nat_le handle (length files)) (handle - 1) files e

module _ (t : Tree) (m : ModelClient) (holds : Holds t m) where
  holds-closed : (handle : ℕ) → Holds t (record (finished (op.Close handle) m) { doing = None })
  holds-closed handle = record {
    opened = λ inode among. elim (open-with_file inode None handle m.handles among) [ inl none ↦ absurd (cc) | inr old ↦ holds.opened inode old ];
    pending = holds.pending;
  }

  abbrev IsOfFile : PendingByte → Type 0
  IsOfFile b = IsHoldable t b.inode

  others-held : (inode : ℕ) (bytes : List PendingByte) → AllByRecursion IsOfFile bytes → AllByRecursion IsOfFile (pending_of_others inode bytes)
  others-held inode bytes h = all_filter (λ (b : PendingByte). IsHoldable t b.inode) (λ b. not (b.inode == inode)) bytes h

holds-finished : (o : Op) (t : Tree) (m : ModelClient) → is_write o ≡ false → Holds t m → Holds t (record (finished o m) { doing = None })
holds-finished op.Umount t m e holds = holds-unmounted t
holds-finished (op.Close handle) t m e holds = holds-closed t m holds handle
holds-finished (op.Write handle offset bytes) t m e holds = absurd (cc)
holds-finished o t m e holds = holds-doing t m None holds

holds-refused : (fault : Fault) (t : Tree) (m : ModelClient) → Holds t m → Holds t (record (refused_as fault m) { doing = None })
holds-refused (Stale (Session sid)) t m holds = holds-unmounted t
holds-refused (Stale (Node inode)) t m holds = record { opened = holds.opened; pending = others-held t m holds inode m.pending holds.pending }
holds-refused fault t m holds = holds-doing t m None holds

pub holds-told : (o : Op) (told : Told) (t : Tree) (m : ModelClient) → keeps_bytes o told ≡ false → Holds t m → Holds t (after_told o told m)
holds-told o (Fine a b c d) t m none holds = holds-finished o t m none holds
holds-told o (Looks first second len) t m none holds = holds-finished o t m none holds
holds-told o (ToldRefused fault) t m none holds = holds-refused fault t m holds
