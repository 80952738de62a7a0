-- A handle is the last one on a file in the model's client, if and only if it is in the one in memory.
use Rattle.std.proofs.Common.{◌≡◌, ℕ, ◌&&◌, not, None, ap, ◌∙◌}
use Rattle.jv_model.specs.promise.client.ModelClient.{ModelClient, held_inodes, inode_at, is_last_of_removed, with_file}
use Rattle.jv_model.specs.promise.Lists.{is_among}
use Rattle.jv_client_shared.specs.promise.Shared.{Known, Shared}
use Rattle.jv_client_handles.specs.Handles.{inode_here}
use Rattle.jv_client_handles.proofs.HandleLaws.{handles-elsewhere, handles-inode}
use Rattle.jv_client.specs.ClientValue.{ClientValue}
use Rattle.jv_client.specs.Held.{IsHeld, is_last_here}

module _ (g : Known) (v : Shared) (m : ModelClient) (count : ℕ) (h : ClientValue) (held : IsHeld g v m count h) where
  pub inode-same : (handle : ℕ) → inode_at m handle ≡ inode_here h.handles handle
  inode-same handle = handles-inode g v m.views count m.handles h.handles held.handles handle

  pub is_last-same : (handle : ℕ) → is_last_of_removed m handle ≡ is_last_here h handle
  is_last-same handle =
      ap (λ i. is_among i m.sustained && not (is_among i (held_inodes (with_file handle None m.handles)))) (inode-same handle)
      ∙ ap (λ b. b && not (is_among (inode_here h.handles handle) (held_inodes (with_file handle None m.handles))))
      (held.removed (inode_here h.handles handle))
      ∙ ap (λ b. is_among (inode_here h.handles handle) h.sustained && not b)
      (handles-elsewhere g v m.views count handle (inode_here h.handles handle) m.handles h.handles held.handles)
