-- How a walk goes through a volume's rows: from node to node, and from one symlink to the next.
use Rattle.std.specs.Prelude.{◌≡◌, ℕ, Bool, if◌then◌else◌, List, [], ◌∷◌, ◌++◌, None, Some, Result, Ok, Err, IfOk, IfSome, IsTrue}
use Rattle.jv_model.specs.declared.limits.TheConstants.{ROOT}
use Rattle.jv_model.specs.declared.fault.Fault.{Fault}
use Rattle.jv_model.specs.declared.fault.TxFault.{TxFault}
use Rattle.jv_model.specs.declared.row.Row.TheVariants.{OfNode, OfEdge}
use Rattle.jv_model.specs.declared.row.Node.{Node}
use Rattle.jv_model.specs.declared.row.Edge.{Edge}
use Rattle.jv_model.specs.promise.FiniteMap.{get}
use Rattle.jv_model.specs.promise.rows.RowGrammar.{is_node}
use Rattle.jv_model.specs.promise.rows.RowPlaces.{node_key, edge_key}
use Rattle.jv_model.specs.promise.tree.Attempt.{◌>>=◌}
use Rattle.jv_model.specs.promise.tree.Tree.{Tree, EntryKey}
use Rattle.jv_model.specs.promise.tree.Walk.{names_of, is_absolute, stepped, way_on, entry_of, only_names}
use Rattle.jv_outside.specs.promise.Store.{Store}
use Rattle.jv_rows.specs.Transactions.{Looks}
use Rattle.jv_rows.specs.declared.walking.Place.{Place}
use Rattle.jv_rows.specs.declared.walking.EntryPlace.{EntryPlace}
use Rattle.jv_rows.specs.declared.walking.Leg.{Leg}
use Rattle.jv_rows.specs.declared.walking.Leg.TheVariants.{Ends, Follows}
use Rattle.jv_volume.specs.promise.TypedRows.{typed}
use Rattle.jv_model.specs.Optional.{mapped}

-- where the rows are known, the row of a node stands at its inode
abbrev pub HasNodeRow : Store → ℕ → Node → Type 0
HasNodeRow store inode node =
    IfSome store.rows (λ known. get (typed known) (node_key inode) ≡ Some (Ok (OfNode node)))

-- and the row of an entry at its place
abbrev pub HasEdgeRow : Store → ℕ → List ℕ → Edge → Type 0
HasEdgeRow store dir name edge =
    IfSome store.rows (λ known. get (typed known) (edge_key dir name) ≡ Some (Ok (OfEdge edge)))

-- A part of a walk that reaches a node: over whole rows it is the model's, and its row, one that
-- the grammar allows, stands there.
pub record Comes (before after : Store) (result : Result Place TxFault)
    (finds : Tree → Result ℕ Fault) : Type 0 where
  pub looks : Looks before after (mapped (λ (place : Place). place.inode) result) finds
  pub stands : IfOk result (λ place. HasNodeRow after place.inode place.node)
  pub allowed : IfOk result (λ place. IsTrue (is_node place.node))

-- Where a walk comes without following a symlink: to its end, or to a symlink, from whose directory
-- or the root it goes on by other names.
pub data Course : Type 0 where
  Ended : (inode : ℕ) → Course
  Onward : (inode : ℕ) (names : List (List ℕ)) → Course

-- the names that a walk goes on by at a symlink, and from where
abbrev pub onward : ℕ → List ℕ → List (List ℕ) → Course
onward dir target names =
    Onward (if is_absolute target then ROOT else dir) (names_of target ++ names)

-- a walk from a directory up to the first symlink that it follows
abbrev pub course : Tree → Bool → ℕ → List (List ℕ) → Result Course Fault
course t follow inode [] = Ok (Ended inode)
course t follow inode (name ∷ names) = do
  next ← stepped t inode name
  elim (way_on t follow names next) [
    | None ↦ course t follow next names
    | Some target ↦ Ok (onward inode target names)
  ]

abbrev pub course_in : Result Leg TxFault → Result Course TxFault
course_in (Ok (Ends place)) = Ok (Ended place.inode)
course_in (Ok (Follows place names)) = Ok (Onward place.inode names)
course_in (Err fault) = Err fault

abbrev pub place_in : Leg → Place
place_in (Ends place) = place
place_in (Follows place names) = place

-- a part of a walk up to the first symlink that it follows
pub record Goes (before after : Store) (result : Result Leg TxFault)
    (finds : Tree → Result Course Fault) : Type 0 where
  pub looks : Looks before after (course_in result) finds
  pub stands : IfOk result (λ leg. HasNodeRow after (place_in leg).inode (place_in leg).node)
  pub allowed : IfOk result (λ leg. IsTrue (is_node (place_in leg).node))

-- a name, if it is one
abbrev pub one_name : List ℕ → List (List ℕ)
one_name name = only_names (name ∷ [])

-- the entry that a path names, as a pair
abbrev pub pair_in : EntryKey → ℕ × List ℕ
pair_in at = (at.dir, at.name)

abbrev pub entry_pair : Tree → List ℕ → Result (ℕ × List ℕ) Fault
entry_pair t path = do
  at ← entry_of t path
  Ok (pair_in at)

-- the directory's inode, and the entry's name
abbrev pub pair_found : EntryPlace → ℕ × List ℕ
pair_found entry = (entry.dir.inode, entry.name)

-- A walk to an entry, whether that is there or not: over whole rows it is the model's, and its
-- directory's row, one that the grammar allows, stands there.
pub record ComesToEntry (before after : Store) (result : Result EntryPlace TxFault)
    (finds : Tree → Result (ℕ × List ℕ) Fault) : Type 0 where
  pub looks : Looks before after (mapped pair_found result) finds
  pub stands : IfOk result (λ entry. HasNodeRow after entry.dir.inode entry.dir.node)
  pub allowed : IfOk result (λ entry. IsTrue (is_node entry.dir.node))
  pub directory : IfOk result (λ entry. entry.dir.node.kind ≡ 2)
