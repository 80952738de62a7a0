-- A node whose row is changed, and keeps its kind, its space and its links.
use Rattle.std.proofs.Common.{◌≡◌, ℕ, Bool, true, false, List, Some, Ok, refl, sym, ap, subst, ◌∙◌, eqb-true}
use Rattle.std.specs.Prelude.{◌==◌}
use Rattle.std.specs.Option.{option_map}
use Rattle.jv_model.specs.declared.row.Node.{Node as NodeRow}
use Rattle.jv_model.specs.declared.row.Row.TheVariants.{OfNode}
use Rattle.jv_model.specs.promise.FiniteMap.{insert}
use Rattle.jv_model.specs.promise.rows.RowKeys.{RowMap}
use Rattle.jv_model.specs.promise.rows.RowPlaces.{node_key}
use Rattle.jv_model.specs.promise.tree.Tree.{Tree, Node, Kind, File, Directory, Symlink, kind_space}
use Rattle.jv_model.specs.promise.tree.Changes.{status_changed, put_node, set_node, change_node}
use Rattle.jv_model.specs.promise.tree.Renaming.{kind_under, moved_node}
use Rattle.jv_outside.specs.declared.batch.Change.{Change}
use Rattle.jv_outside.specs.promise.Store.{Store}
use Rattle.jv_rows.specs.Drafts.{drafted}
use Rattle.jv_volume.specs.promise.TypedRows.{Rows, typed}
use Rattle.jv_volume.specs.promise.Views.{node_row_at}
use Rattle.jv_volume.specs.promise.TreeOf.{node_of_row, tree_of}
use Rattle.jv_volume.specs.promise.Whole.{is_read_only}
use Rattle.jv_volume.proofs.stored.NodeRowLaws.{IsNodeRow, moved_row, node_of-moved, IsNodeRow-moved_dir, IsNodeRow-moved_leaf}
use Rattle.jv_volume.proofs.stored.StoredLaws.{HasNode, found_node}
use Rattle.jv_volume.proofs.stored.StoredStepLaws.{stored-change_node}
use Rattle.jv_volume.proofs.stored.TreeOfLaws.{tree_of-put_node}
use Rattle.jv_rows_drafts.specs.Drafting.{Minds, Drafting}
use Rattle.jv_rows_drafts.specs.Present.{Presents}
use Rattle.jv_rows_drafts.specs.Ready.{IsThere}
use Rattle.jv_rows_drafts.proofs.DraftedLaws.{Drafted, are_rows-put, drafting-made}
use Rattle.jv_rows_drafts.proofs.PresentLaws.{stays-present, present-stands, sound-minds, minds-sound, sound-node}

-- a node's row that is the changed node's
pub record IsRowChanged (change : Node → Node) (row new : NodeRow) : Type 0 where
  pub kind : new.kind ≡ row.kind
  pub length : new.length ≡ row.length
  pub mode : is_read_only new ≡ is_read_only row
  pub row_is : (byte : ℕ → ℕ) → IsNodeRow row.nlink byte row → IsNodeRow row.nlink byte new
  pub node : (byte : ℕ → ℕ) → node_of_row byte new ≡ change (node_of_row byte row)
  pub space : (node : Node) → kind_space (change node).kind ≡ kind_space node.kind

module _ (known : RowMap) (was now : List Change) (bytes : ℕ → ℕ → ℕ) (t : Tree) (m : Minds known was bytes t)
    (inode : ℕ) (change : Node → Node)
    (row new : NodeRow) (is : IsRowChanged change row new) (there : node_row_at (drafted was known) inode ≡ Some row)
    (one : Drafted (node_key inode) (Some (Ok (OfNode new))) was now) where
  abbrev before : Rows
  before = drafted was known

  has : HasNode (tree_of bytes before) inode row (bytes inode)
  has = found_node bytes before m.stored inode row there

  as_changed : put_node (tree_of bytes before) inode (node_of_row (bytes inode) new) ≡ change_node t inode change
  as_changed =
      ap (put_node (tree_of bytes before) inode) (is.node (bytes inode))
      ∙ ap (λ o. set_node (tree_of bytes before) inode (option_map change o)) (sym has.there)
      ∙ ap (λ (u : Tree). change_node u inode change) m.tree

  pub minds-changed_row : Minds known now bytes (change_node t inode change)
  minds-changed_row = minds-sound known now bytes (change_node t inode change)
      (insert before (node_key inode) (Ok (OfNode new)))
      (sound-node (typed known) before (sound-minds known was bytes t m) inode row new there is.kind is.length is.mode)
      (one known)
      (tree_of-put_node bytes before inode new ∙ as_changed)
      (stored-change_node bytes before inode row new m.stored there
      (is.row_is (bytes inode) (subst (λ l. IsNodeRow l (bytes inode) row) (sym has.links) has.row_is)) is.kind
      (ap (λ (n : Node). kind_space n.kind) (is.node (bytes inode)) ∙ is.space (node_of_row (bytes inode) row)))

-- the small change that puts such a row
pub change-made : (inode : ℕ) (was now : List Change) (before after : Store) (change : Node → Node) (row new : NodeRow)
    → Presents inode was before after (Ok row) → IsRowChanged change row new
    → Drafted (node_key inode) (Some (Ok (OfNode new))) was now
    → Drafting (IsThere inode) was now before after (Ok (tt {0})) (λ t. Ok (change_node t inode change))
change-made inode was now before after change row new p is one =
    drafting-made (IsThere inode) was now before after (stays-present inode was before after row p)
    (λ t. Ok (change_node t inode change)) (tt {0})
    (are_rows-put (node_key inode) was now (OfNode new) one)
    (λ known here bytes t m is_ready. record {
      left = change_node t inode change;
      is = refl;
      minds = minds-changed_row known was now bytes t m inode change row new is
          (present-stands inode was before after row p known here) one;
    })

-- ---- the changes

pub is_row-status_changed : (now : ℕ) (row : NodeRow)
    → IsRowChanged (status_changed now) row (record row { ctime = now })
is_row-status_changed now row = record {
  kind = refl;
  length = refl;
  mode = refl;
  row_is = λ byte is. ap (λ (r : NodeRow). record r { ctime = now }) is;
  node = λ byte. refl;
  space = λ node. refl;
}

pub is_row-moved : (now dir : ℕ) (row : NodeRow) → IsRowChanged (moved_node now dir) row (moved_row now dir row)
is_row-moved now dir row = record {
  kind = refl;
  length = refl;
  mode = refl;
  row_is = λ byte. by_kind byte (row.kind == 2) refl;
  node = λ byte. node_of-moved byte row now dir;
  space = λ node. same_space node.kind;
}
  where
    by_kind : (byte : ℕ → ℕ) (b : Bool) → (row.kind == 2) ≡ b → IsNodeRow row.nlink byte row
        → IsNodeRow row.nlink byte (moved_row now dir row)
    by_kind byte true two is = IsNodeRow-moved_dir byte row now dir row.nlink row.nlink (eqb-true row.kind 2 two) is
    by_kind byte false leaf is = IsNodeRow-moved_leaf byte row now dir row.nlink row.nlink leaf is

    same_space : (kind : Kind) → kind_space (kind_under dir kind) ≡ kind_space kind
    same_space (File content) = refl
    same_space (Directory parent) = refl
    same_space (Symlink target) = refl
