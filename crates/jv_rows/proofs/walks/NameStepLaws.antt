-- One name of a walk: what it finds in whole rows, case by case.
use Rattle.std.proofs.Common.{◌≡◌, ℕ, Bool, List, [], length, Option, None, Some, Result, Ok, Err, option_map, refl, sym, ap, subst, ◌∙◌, ◌≢◌, ◌<◌, ◌≤◌, eq-eqb, ne_eqb}
use Rattle.std.proofs.lemmas.Bool.{le-leb, lt-leb}
use Rattle.std.specs.Prelude.{if◌then◌else◌, nat_le, IsTrue}
use Rattle.jv_model.specs.declared.limits.TheConstants.{MAX_NAME, TRASH_ROOT}
use Rattle.jv_model.specs.declared.row.Row.TheVariants.{OfEdge}
use Rattle.jv_model.specs.declared.row.Node.{Node as NodeRow}
use Rattle.jv_model.specs.declared.row.Edge.{Edge}
use Rattle.jv_model.specs.declared.fault.Fault.{Fault}
use Rattle.jv_model.specs.declared.fault.Fault.TheVariants.{NotFound, NotADirectory, NameTooLong}
use Rattle.jv_model.specs.declared.fault.RowFault.{RowFault}
use Rattle.jv_model.specs.declared.fault.TxFault.{TxFault}
use Rattle.jv_model.specs.declared.fault.TxFault.TheVariants.{Refused, Rows as OfRows}
use Rattle.jv_model.specs.promise.FiniteMap.{get}
use Rattle.jv_model.specs.promise.rows.RowGrammar.{is_node, is_edge}
use Rattle.jv_model.specs.promise.rows.RowKeys.{RowMap}
use Rattle.jv_model.specs.promise.rows.RowPlaces.{edge_key}
use Rattle.jv_model.specs.promise.tree.Attempt.{◌>>=◌, some_or, require}
use Rattle.jv_model.specs.promise.tree.Tree.{Tree}
use Rattle.jv_model.specs.promise.tree.Walk.{stepped, named_from, is_dot, is_dot_dot, is_trash}
use Rattle.jv_outside.specs.promise.Store.{Store}
use Rattle.jv_volume.specs.promise.TypedRows.{typed}
use Rattle.jv_volume.specs.promise.Views.{row_in, edge_in}
use Rattle.jv_volume.specs.promise.TreeOf.{tree_of}
use Rattle.jv_volume.specs.promise.Whole.{Whole}
use Rattle.jv_volume.proofs.stored.TreeOfLaws.{get-entries}
use Rattle.jv_volume.proofs.stored.StoredLaws.{no_entry, HasNode}
use Rattle.jv_rows.specs.Drafts.{Sees}
use Rattle.jv_rows.specs.Walks.{HasNodeRow, Comes}
use Rattle.jv_rows.specs.declared.walking.Place.{Place}
use Rattle.jv_rows.proofs.transactions.TransactionLaws.{Past, past-start}
use Rattle.jv_rows.proofs.walks.ArrivalLaws.{has-node}
use Rattle.jv_rows.proofs.transactions.ReadingPartLaws.{in_other_words, answered, refused, not_read, was_read, stands_there}
use Rattle.jv_rows.proofs.walks.WalkLaws.{last_come, failed_to_come}

-- ---- an entry

abbrev entry_named : ℕ → List ℕ → Tree → Result ℕ Fault
entry_named dir name t = some_or (get t.entries (record { dir = dir; name = name })) NotFound

module _ {before after : Store} (dir : ℕ) (name : List ℕ) where
  pub entry_not_read : (fault : RowFault) → Sees OfEdge is_edge (edge_key dir name) [] before after (Err fault) → Comes before after (Err (OfRows fault)) (entry_named dir name)
  entry_not_read fault r = failed_to_come (not_read OfEdge is_edge (edge_key dir name) before after fault (entry_named dir name) r)

  -- the entry is there
  pub entry_is : {end : Store} {result : Result Place TxFault} (edge : Edge) → Sees OfEdge is_edge (edge_key dir name) [] before after (Ok (Some edge))
      → Comes after end result (λ t. Ok edge.inode) → Comes before end result (entry_named dir name)
  entry_is edge r comes =
      last_come (in_other_words (was_read OfEdge is_edge (edge_key dir name) before after (Some edge) (entry_named dir name) r) (λ known is whole bytes.
      ap (λ o. some_or o NotFound) (get-entries bytes (typed known) (record { dir = dir; name = name })
      ∙ ap (λ c. option_map (λ e. e.inode) (edge_in (row_in c))) (stands_there OfEdge is_edge (edge_key dir name) before after (Some edge) r known is)))) comes

  -- it isn't
  pub no_entry_is : Sees OfEdge is_edge (edge_key dir name) [] before after (Ok None) → Comes before after (Err (Refused NotFound)) (entry_named dir name)
  no_entry_is r =
      failed_to_come (refused NotFound (in_other_words (was_read OfEdge is_edge (edge_key dir name) before after None (entry_named dir name) r) (λ known is whole bytes.
      ap (λ o. some_or o NotFound) (no_entry bytes (typed known) (record { dir = dir; name = name }) (ap (λ c. edge_in (row_in c)) (stands_there OfEdge is_edge (edge_key dir name) before after None r known is))))))

-- ---- what a node's row says

-- the node of a row that stands at an inode
pub node_is : (store : Store) {inode : ℕ} {node : NodeRow} → HasNodeRow store inode node → (known : RowMap) → store.rows ≡ Some known → Whole (typed known) → (bytes : ℕ → ℕ → ℕ)
    → HasNode (tree_of bytes (typed known)) inode node (bytes inode)
node_is store {inode = inode} {node = node} there = has-node store store inode node refl there

-- ---- one name

-- what a name leads to, by what it is
abbrev named_by : Bool → Bool → Bool → Tree → ℕ → ℕ → List ℕ → Result ℕ Fault
named_by dot dot_dot trash t dir parent name = (if dot then Ok dir else if dot_dot then Ok parent else if trash then Ok TRASH_ROOT else entry_named dir name t)

-- one name from what is a directory or not, by its parent
abbrev stepped_by : Option ℕ → Bool → Tree → ℕ → List ℕ → Result ℕ Fault
stepped_by found short t inode name = (some_or found NotADirectory >>= λ parent. require short NameTooLong >>= λ unit. named_from t inode parent name)

module _ {store : Store} (inode : ℕ) (node : NodeRow) (name : List ℕ) (there : HasNodeRow store inode node) where
  -- the walk is at no directory
  pub no_directory : node.kind ≢ 2 → Comes store store (Err (Refused NotADirectory)) (λ t. stepped t inode name)
  no_directory other =
      failed_to_come (refused NotADirectory (in_other_words (past-start store (λ t. stepped t inode name)) (λ known is whole bytes.
      ap (λ found. stepped_by found (nat_le (length name) MAX_NAME) (tree_of bytes (typed known)) inode name)
      ((node_is store there known is whole bytes).parent ∙ ap (λ b. if b then Some node.parent else None) (ne_eqb node.kind 2 other)))))

  directory_is : node.kind ≡ 2 → Past store store (λ t. stepped t inode name) (λ t. stepped_by (Some node.parent) (nat_le (length name) MAX_NAME) t inode name)
  directory_is directory =
      in_other_words (past-start store (λ t. stepped t inode name)) (λ known is whole bytes.
      ap (λ found. stepped_by found (nat_le (length name) MAX_NAME) (tree_of bytes (typed known)) inode name)
      ((node_is store there known is whole bytes).parent ∙ ap (λ b. if b then Some node.parent else None) (eq-eqb node.kind 2 directory)))

  -- the name is too long
  pub long_name : node.kind ≡ 2 → MAX_NAME < length name → Comes store store (Err (Refused NameTooLong)) (λ t. stepped t inode name)
  long_name directory long =
      failed_to_come (refused NameTooLong (in_other_words (directory_is directory) (λ known is whole bytes.
      ap (λ short. stepped_by (Some node.parent) short (tree_of bytes (typed known)) inode name) (lt-leb (length name) MAX_NAME long))))

  -- a name in a directory, by what it is
  pub one_of_names : (dot dot_dot trash : Bool) → node.kind ≡ 2 → length name ≤ MAX_NAME → is_dot name ≡ dot → is_dot_dot name ≡ dot_dot → is_trash inode name ≡ trash
      → Past store store (λ t. stepped t inode name) (λ t. named_by dot dot_dot trash t inode node.parent name)
  one_of_names dot dot_dot trash directory short e f g =
      in_other_words (directory_is directory) (λ known is whole bytes.
      ap (λ fits. stepped_by (Some node.parent) fits (tree_of bytes (typed known)) inode name) (le-leb (length name) MAX_NAME short)
      ∙ (λ i. named_by (e i) (f i) (g i) (tree_of bytes (typed known)) inode node.parent name))

  -- the place itself
  pub stays : {place : Place} → IsTrue (is_node node) → place ≡ record { inode = inode; node = node } → Comes store store (Ok place) (λ t. Ok inode)
  stays {place = place} fits same =
      subst (λ (p : Place). Comes store store (Ok p) (λ t. Ok inode)) (sym same) (record { looks = answered inode (past-start store (λ t. Ok inode)); stands = there; allowed = fits })
