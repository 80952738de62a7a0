-- The small changes of a tree where the node is known: each is one put, which rows have too.
use Rattle.std.proofs.Common.{◌≡◌, ◌≢◌, ℕ, Option, None, Some, refl, ap, ◌∙◌}
use Rattle.std.specs.Option.{option_map}
use Rattle.jv_model.specs.promise.FiniteMap.{number_key, insert, remove}
use Rattle.jv_model.specs.promise.tree.Tree.{Tree, Node, EntryKey, node_at}
use Rattle.jv_model.specs.promise.tree.Changes.{touched, put_node, set_node, change_node, put_entry, take_entry, with_node}
use Rattle.jv_model.specs.promise.tree.Renaming.{moved_node, move_in}
use Rattle.jv_volume.proofs.shapes.ShapeMapLaws.{get-inserted, get-insert_apart}

-- a change of a node that is there is a put
pub change_node-there : (t : Tree) (inode : ℕ) (change : Node → Node) (node : Node) → node_at t inode ≡ Some node
    → change_node t inode change ≡ put_node t inode (change node)
change_node-there t inode change node there = ap (λ o. set_node t inode (option_map change o)) there

pub put_entry-there : (t : Tree) (now : ℕ) (place : EntryKey) (inode : ℕ) (dir : Node) → node_at t place.dir ≡ Some dir
    → put_entry t now place inode ≡ record t { nodes = insert t.nodes place.dir (touched now dir); entries = insert t.entries place inode }
put_entry-there t now place inode dir there = ap (λ (u : Tree). record u { entries = insert t.entries place inode })
    (change_node-there t place.dir (touched now) dir there)

pub take_entry-there : (t : Tree) (now : ℕ) (place : EntryKey) (dir : Node) → node_at t place.dir ≡ Some dir
    → take_entry t now place ≡ record t { nodes = insert t.nodes place.dir (touched now dir); entries = remove t.entries place }
take_entry-there t now place dir there = ap (λ (u : Tree). record u { entries = remove t.entries place })
    (change_node-there t place.dir (touched now) dir there)

-- a new node under a new entry of a directory that is there
pub with_node-there : (t : Tree) (now : ℕ) (place : EntryKey) (inode : ℕ) (node dir : Node) → node_at t place.dir ≡ Some dir → place.dir ≢ inode
    → with_node t now place inode node ≡ record t {
      nodes = insert (insert t.nodes inode node) place.dir (touched now dir);
      entries = insert t.entries place inode;
    }
with_node-there t now place inode node dir there apart =
    put_entry-there (put_node t inode node) now place inode dir (get-insert_apart number_key t.nodes inode node place.dir apart ∙ there)

-- what a change of a node leaves alone
module _ (t : Tree) (inode : ℕ) (change : Node → Node) where
  pub change_node-entries : (change_node t inode change).entries ≡ t.entries
  change_node-entries = by_node (node_at t inode)
    where
      by_node : (o : Option Node) → (set_node t inode (option_map change o)).entries ≡ t.entries
      by_node None = refl
      by_node (Some node) = refl

  pub change_node-sessions : (change_node t inode change).sessions ≡ t.sessions
  change_node-sessions = by_node (node_at t inode)
    where
      by_node : (o : Option Node) → (set_node t inode (option_map change o)).sessions ≡ t.sessions
      by_node None = refl
      by_node (Some node) = refl

  pub change_node-sustained : (change_node t inode change).sustained ≡ t.sustained
  change_node-sustained = by_node (node_at t inode)
    where
      by_node : (o : Option Node) → (set_node t inode (option_map change o)).sustained ≡ t.sustained
      by_node None = refl
      by_node (Some node) = refl

  pub change_node-setting : (change_node t inode change).setting ≡ t.setting
  change_node-setting = by_node (node_at t inode)
    where
      by_node : (o : Option Node) → (set_node t inode (option_map change o)).setting ≡ t.setting
      by_node None = refl
      by_node (Some node) = refl

  pub change_node-next_inode : (change_node t inode change).next_inode ≡ t.next_inode
  change_node-next_inode = by_node (node_at t inode)
    where
      by_node : (o : Option Node) → (set_node t inode (option_map change o)).next_inode ≡ t.next_inode
      by_node None = refl
      by_node (Some node) = refl

  pub change_node-next_session : (change_node t inode change).next_session ≡ t.next_session
  change_node-next_session = by_node (node_at t inode)
    where
      by_node : (o : Option Node) → (set_node t inode (option_map change o)).next_session ≡ t.next_session
      by_node None = refl
      by_node (Some node) = refl

  -- the other nodes
  pub change_node-apart : (other : ℕ) → other ≢ inode → node_at (change_node t inode change) other ≡ node_at t other
  change_node-apart other apart = by_node (node_at t inode)
    where
      by_node : (o : Option Node) → node_at (set_node t inode (option_map change o)) other ≡ node_at t other
      by_node None = refl
      by_node (Some node) = get-insert_apart number_key t.nodes inode (change node) other apart

  -- the node itself
  pub change_node-here : node_at (change_node t inode change) inode ≡ option_map change (node_at t inode)
  change_node-here = by_node (node_at t inode) refl
    where
      by_node : (o : Option Node) → node_at t inode ≡ o → node_at (set_node t inode (option_map change o)) inode ≡ option_map change o
      by_node None e = e
      by_node (Some node) e = get-inserted number_key t.nodes inode (change node)

-- the entries after an inode came in from elsewhere
pub move_in-entries : (t : Tree) (now : ℕ) (place : EntryKey) (inode : ℕ) → (move_in t now place inode).entries ≡ insert t.entries place inode
move_in-entries t now place inode = change_node-entries (put_entry t now place inode) inode (moved_node now place.dir)
