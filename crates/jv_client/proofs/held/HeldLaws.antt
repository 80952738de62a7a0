-- What a client in memory stands for, whatever it is doing; and what is held of it stays holdable.
use Rattle.std.proofs.Common.{◌≡◌, ℕ, List, [], ◌∷◌, Option, Some, refl, ap, ◌∙◌}
use Rattle.std.specs.List.{AllByRecursion}
use Rattle.std.specs.Prelude.{is_some, IsTrue}
use Rattle.jv_model.specs.declared.op.Op.{Op}
use Rattle.jv_model.specs.promise.tree.Tree.{Tree}
use Rattle.jv_model.specs.promise.client.Pending.{PendingByte}
use Rattle.jv_model.specs.promise.client.ModelClient.{ModelClient, Doing as ModelDoing, unmounted}
use Rattle.jv_volume.specs.Holding.{IsHoldable, Stays}
use Rattle.jv_client_shared.specs.promise.Shared.{Known, Shared}
use Rattle.jv_client.specs.declared.doing.Doing.{Doing}
use Rattle.jv_client.specs.ClientValue.{ClientValue}
use Rattle.jv_client.specs.Held.{Holds, IsClient, IsDoing, IsHeld, flush_of_code, stage_of}
use Rattle.jv_client_handles.proofs.TableLaws.{there_in}

-- a mounted client stands for one of the model that is mounted
pub mounted-model : (h : ClientValue) (m : ModelClient) → m.session ≡ h.session → IsTrue (is_some h.session)
    → IsTrue (is_some m.session)
mounted-model h m same mounted = ap is_some same ∙ mounted

-- ---- what the model's client is doing

-- the operation of the model that one in memory stands for
abbrev pub doing_of : Doing → ModelDoing
doing_of d = record { op = d.op; does = d.does; flush = flush_of_code d.flush; stage = stage_of d.progress; moved = d.has_moved }

pub is_doing_of : (d : Doing) → IsDoing (doing_of d) d
is_doing_of d = record { op = refl; does = refl; flush = refl; stage = refl; moved = refl }

doing-is : (m : ModelDoing) (d : Doing) → IsDoing m d → m ≡ doing_of d
doing-is m d h =
    ap (λ (o : Op). record m { op = o }) h.op
    ∙ ap (λ does. record m { op = d.op; does = does }) h.does
    ∙ ap (λ flush. record m { op = d.op; does = d.does; flush = flush }) h.flush
    ∙ ap (λ stage. record m { op = d.op; does = d.does; flush = flush_of_code d.flush; stage = stage }) h.stage
    ∙ ap (λ moved. record m { op = d.op; does = d.does; flush = flush_of_code d.flush; stage = stage_of d.progress; moved = moved }) h.moved

-- a client that does this stands for one of the model that does the same
pub client-doing : (g : Known) (v : Shared) (m : ModelClient) (count : ℕ) (h : ClientValue) (d : Doing) → h.doing ≡ Some d
    → IsClient g v m count h → m.doing ≡ Some (doing_of d)
client-doing g v m count h d busy is =
    let there = there_in IsDoing m.doing h.doing d busy is.doing in
    there.1 ∙ ap Some (doing-is there.0 d there.2)

-- ---- whatever a client is doing

pub held-doing : (g : Known) (v : Shared) (m : ModelClient) (count : ℕ) (c : ClientValue) (doing : Option ModelDoing)
    (mine : Option Doing) → IsHeld g v m count c
    → IsHeld g v (record m { doing = doing }) count (record c { doing = mine })
held-doing g v m count c doing mine h = record {
  session = h.session;
  removed = h.removed;
  handles = h.handles;
  views = h.views;
  pending = h.pending;
  direct = h.direct;
}

-- ---- what is held stays holdable

pending-later : (t after : Tree) (pending : List PendingByte) → Stays t after
    → AllByRecursion (λ (b : PendingByte). IsHoldable t b.inode) pending
    → AllByRecursion (λ (b : PendingByte). IsHoldable after b.inode) pending
pending-later t after [] stays h = tt
pending-later t after (b ∷ bytes) stays h = (stays.holdable b.inode h.0, pending-later t after bytes stays h.1)

pub holds-later : (t after : Tree) (m : ModelClient) → Stays t after → Holds t m → Holds after m
holds-later t after m stays h = record {
  opened = λ inode among. stays.holdable inode (h.opened inode among);
  pending = pending-later t after m.pending stays h.pending;
}

pub holds-doing : (t : Tree) (m : ModelClient) (doing : Option ModelDoing) → Holds t m
    → Holds t (record m { doing = doing })
holds-doing t m doing h = record { opened = h.opened; pending = h.pending }

pub holds-unmounted : (t : Tree) → Holds t unmounted
holds-unmounted t = record { opened = λ inode among. absurd (cc among); pending = tt }
