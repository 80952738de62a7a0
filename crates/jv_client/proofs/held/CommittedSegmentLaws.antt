-- A client without a segment that it committed stands for the model's without it.
use Rattle.std.proofs.Common.{◌≡◌, ℕ, ◌+◌, ◌≤◌, Bool, List, not, map, length, refl, ap, ◌∙◌}
use Rattle.std.specs.List.{filter}
use Rattle.std.proofs.lemmas.List.Filters.{length-filter_both}
use Rattle.std.proofs.lemmas.List.{length-map}
use Rattle.jv_model.specs.promise.tree.Tree.{Tree}
use Rattle.jv_model.specs.promise.client.Pending.{PendingByte, Segment, is_in_range, without_range}
use Rattle.jv_model.specs.promise.client.ModelClient.{ModelClient, views_without}
use Rattle.jv_model.specs.promise.journal.State.{without_committed}
use Rattle.jv_volume.specs.Holding.{IsHoldable, Stays}
use Rattle.jv_client_shared.specs.Keeping.{KeepsShared}
use Rattle.jv_client_shared.specs.promise.Shared.{HasStore, Known, Shared, depot_in}
use Rattle.jv_client_handles.specs.Handles.{unseen}
use Rattle.jv_client_handles.proofs.HandleLaws.{handles-forgotten, handles-stay}
use Rattle.jv_client_handles.proofs.SeenLaws.{views-later, views-left}
use Rattle.jv_client.specs.ClientValue.{ClientValue}
use Rattle.jv_client.specs.Held.{IsHeld, Holds}
use Rattle.jv_client.specs.Flushing.{bytes_of, without_segment}
use Rattle.jv_client.proofs.held.DirectLaws.{direct-goes, direct-unseen}
use Rattle.jv_client.proofs.held.HeldLaws.{holds-later}
use Rattle.jv_model.proofs.ListLaws.{all_filter}

-- The segment's bytes and the others are all that was pending.
pub length-parted : (segment : Segment) (pending : List PendingByte)
    → length (bytes_of segment pending) + length (without_range segment.inode segment.from segment.len pending)
    ≡ length pending
length-parted segment pending =
    let own : PendingByte → Bool = is_in_range segment.inode segment.from segment.len in
    ap (λ n. n + length (filter (λ b. not (own b)) pending)) (length-map (filter own pending) (λ (b : PendingByte). b.byte))
    ∙ length-filter_both own (λ b. not (own b)) (λ b. refl) pending

module _ (segment : Segment) where
  -- the model's client without it
  abbrev pub left_of_model : ModelClient → ModelClient
  left_of_model m = without_committed segment.inode segment.from segment.len m

  module _ (t : Tree) (g : Known) (v : Shared) (store : HasStore t g v) (own : ℕ) (g' : Known) (v' : Shared)
      (k : KeepsShared own g g' v v') where
    pub held-without : (m : ModelClient) (count later : ℕ) (h : ClientValue) → count ≤ later → IsHeld g v m count h
        → IsHeld g' v' (left_of_model m) later (without_segment segment h)
    held-without m count later h le held = record {
      session = held.session;
      removed = held.removed;
      handles =
          handles-stay t g v store own g' v' k (views_without segment.inode m.views) count later le m.handles
          (map (unseen segment.inode) h.handles)
          (handles-forgotten g v m.views count segment.inode m.handles h.handles held.handles);
      views =
          views-later count later (views_without segment.inode m.views) le
          (views-left segment.inode count m.views held.views);
      pending = ap (without_range segment.inode segment.from segment.len) held.pending;
      direct =
          direct-goes v v' k.setting k.direct m.writeback (map (unseen segment.inode) h.handles)
          (direct-unseen v.yard.setting.block (depot_in v) m.writeback h.handles held.direct segment.inode);
    }

  pub holds-without : (t after : Tree) (m : ModelClient) → Stays t after → Holds t m → Holds after (left_of_model m)
  holds-without t after m stays holds =
      holds-later t after (left_of_model m) stays (record {
        opened = holds.opened;
        pending =
            all_filter (λ (b : PendingByte). IsHoldable t b.inode) (λ b. not (is_in_range segment.inode segment.from segment.len b)) m.pending
            holds.pending;
      })
