-- A write's bytes are pending, which are of an open file.
use Rattle.std.proofs.Common.{◌≡◌, ℕ, zero, suc, ◌+◌, Bool, true, false, List, [], ◌∷◌, slice_get, Option, None, Some, refl, ap, ◌∙◌}
use Rattle.std.specs.Prelude.{◌==◌, ◌||◌, if◌then◌else◌}
use Rattle.std.specs.List.{AllByRecursion}
use Rattle.std.proofs.lemmas.Bool.{eq-eqb, or_right}
use Rattle.jv_model.specs.promise.tree.Tree.{Tree}
use Rattle.jv_model.specs.promise.client.Pending.{PendingByte, byte_set, comes_before, stands_at, written}
use Rattle.jv_model.specs.promise.client.ModelClient.{ModelClient, OpenFile, file_in, file_of, held_inodes, inode_at, inode_in}
use Rattle.jv_model.specs.promise.Lists.{is_among}
use Rattle.jv_volume.specs.Holding.{IsHoldable}
use Rattle.jv_client_shared.specs.promise.Shared.{Known, Shared}
use Rattle.jv_client_handles.specs.declared.handle.Handle.{Handle}
use Rattle.jv_client_handles.specs.Handles.{inode_here}
use Rattle.jv_client_handles.proofs.HandleLaws.{handles-there}
use Rattle.jv_client_handles.proofs.TableLaws.{open_at}
use Rattle.jv_client.specs.ClientValue.{ClientValue}
use Rattle.jv_client.specs.Held.{Holds, IsClient, IsHeld}
use Rattle.jv_client.proofs.held.OthersStepLaws.{IsCached, client-idle}
use Rattle.jv_client.proofs.held.LastHandleLaws.{inode-same}

-- what holds of the inodes of pending bytes, and of that of a write, holds once its bytes are pending

module _ (Q : ℕ → Type 0) where
  abbrev AllOf : List PendingByte → Type 0
  AllOf pending = AllByRecursion (λ (b : PendingByte). Q b.inode) pending

  all-if : (b : Bool) (xs ys : List PendingByte) → AllOf xs → AllOf ys → AllOf (if b then xs else ys)
  all-if true xs ys x y = x
  all-if false xs ys x y = y

  all-set : (inode position byte : ℕ) (pending : List PendingByte) → Q inode → AllOf pending
      → AllOf (byte_set inode position byte pending)
  all-set inode position byte [] q h = (q, tt)
  all-set inode position byte (b ∷ bs) q h =
      let new : PendingByte = record { inode = inode; position = position; byte = byte } in
      let before : List PendingByte = new ∷ b ∷ bs in
      let later : List PendingByte = b ∷ byte_set inode position byte bs in
      all-if (stands_at inode position b) (new ∷ bs) (if comes_before inode position b then before else later)
      (q, h.1)
      (all-if (comes_before inode position b) before later (q, h) (h.0, all-set inode position byte bs q h.1))

  pub all-written : (inode from : ℕ) (bytes : List ℕ) (pending : List PendingByte) → Q inode → AllOf pending
      → AllOf (written inode from bytes pending)
  all-written inode from [] pending q h = h
  all-written inode from (byte ∷ bytes) pending q h = all-set inode from byte (written inode (from + 1) bytes pending)
      q (all-written inode (from + 1) bytes pending q h)

-- the inode of an open file is among those that are held

among-first : (inode : ℕ) (inodes : List ℕ) → is_among inode (inode ∷ inodes) ≡ true
among-first inode inodes = ap (λ b. b || is_among inode inodes) (eq-eqb inode inode refl)

place-among : (files : List (Option OpenFile)) (k : ℕ) (file : OpenFile) → file_in (slice_get files k) ≡ Some file
    → is_among file.inode (held_inodes files) ≡ true
place-among [] k file e = absurd (cc e)
place-among (None ∷ files) zero file e = absurd (cc e)
place-among (Some other ∷ files) zero file e =
    let same : other ≡ file = cc e in
    ap (λ (other : OpenFile). is_among file.inode (other.inode ∷ held_inodes files)) same
    ∙ among-first file.inode (held_inodes files)
place-among (None ∷ files) (suc k) file e = place-among files k file e
place-among (Some other ∷ files) (suc k) file e = or_right (other.inode == file.inode)
    (is_among file.inode (held_inodes files)) (place-among files k file e)

pub open-among : (files : List (Option OpenFile)) (handle : ℕ) (file : OpenFile) → file_of files handle ≡ Some file
    → is_among file.inode (held_inodes files) ≡ true
open-among files handle file e = let at = open_at files handle file e in place-among files at.place file at.is

-- so that of a handle that is open is
pub names-held : (g : Known) (v : Shared) (m : ModelClient) (count : ℕ) (h : ClientValue) (handle : ℕ) (file : Handle)
    → IsHeld g v m count h → file_of h.handles handle ≡ Some file
    → is_among (inode_at m handle) (held_inodes m.handles) ≡ true
names-held g v m count h handle file held opened =
    let there = handles-there g v m.views count m.handles h.handles held.handles handle file opened in
    ap (λ o. is_among (inode_in o) (held_inodes m.handles)) there.1 ∙ open-among m.handles handle there.0 there.1

-- ---- once its bytes are pending, beside what was pending of a client

-- the model's client then, and the one in memory
abbrev pub model_wrote : ℕ → ℕ → List ℕ → ModelClient → ModelClient
model_wrote handle offset bytes m =
    record m { pending = written (inode_at m handle) offset bytes m.pending; doing = None }

abbrev pub wrote : ℕ → ℕ → List ℕ → ClientValue → ClientValue
wrote handle offset bytes h =
    record h { pending = written (inode_here h.handles handle) offset bytes h.pending; doing = None }

module _ (m : ModelClient) (h : ClientValue) (handle offset : ℕ) (bytes : List ℕ) where
  pub wrote-client : (g : Known) (v : Shared) (count : ℕ) → IsHeld g v m count h → IsCached g v h.cache
      → IsClient g v (model_wrote handle offset bytes m) count (wrote handle offset bytes h)
  wrote-client g v count held cached =
      client-idle g v count (model_wrote handle offset bytes m) (wrote handle offset bytes h) refl refl
      (record {
        session = held.session;
        removed = held.removed;
        handles = held.handles;
        views = held.views;
        pending =
            ap (λ inode. written inode offset bytes m.pending) (inode-same g v m count h held handle)
            ∙ ap (written (inode_here h.handles handle) offset bytes) held.pending;
        direct = held.direct;
      })
      cached

  pub wrote-holds : (t : Tree) (g : Known) (v : Shared) (count : ℕ) (file : Handle) → IsHeld g v m count h
      → file_of h.handles handle ≡ Some file → Holds t m
      → Holds t (model_wrote handle offset bytes m)
  wrote-holds t g v count file held opened holds = record {
    opened = holds.opened;
    pending = all-written (IsHoldable t) (inode_at m handle) offset bytes m.pending
        (holds.opened (inode_at m handle) (names-held g v m count h handle file held opened)) holds.pending;
  }
