-- What a session reads of a file's row, and how a commit of bytes begins.
use Rattle.std.specs.Prelude.{◌≡◌, ℕ, ◌+◌, max, List, length, Some, Result, Ok, IfOk, OnOk, IsTrue}
use Rattle.jv_model.specs.declared.fault.TxFault.{TxFault}
use Rattle.jv_model.specs.declared.row.Node.{Node}
use Rattle.jv_model.specs.declared.row.Row.TheVariants.{OfNode}
use Rattle.jv_model.specs.promise.FiniteMap.{get}
use Rattle.jv_model.specs.promise.rows.RowGrammar.{is_node}
use Rattle.jv_model.specs.promise.rows.RowKeys.{RowMap}
use Rattle.jv_model.specs.promise.rows.RowPlaces.{node_key}
use Rattle.jv_model.specs.promise.tree.Attempt.{◌>>=◌}
use Rattle.jv_model.specs.tree.FileBytes.{length_seen, commit_of}
use Rattle.jv_outside.specs.declared.batch.Change.{Change}
use Rattle.jv_outside.specs.promise.Store.{Store}
use Rattle.jv_rows.specs.Drafts.{drafted}
use Rattle.jv_rows.specs.Transactions.{Looks}
use Rattle.jv_rows.specs.Walks.{HasNodeRow}
use Rattle.jv_volume.specs.promise.TypedRows.{Rows, typed}
use Rattle.jv_volume.specs.promise.Whole.{Whole}
use Rattle.jv_data.specs.Resizing.{AreSized}
use Rattle.jv_data.specs.Truncating.{LeaveSlices}
use Rattle.jv_model.specs.Optional.{mapped}

-- A reading of a file's row: over whole rows it is the model's look, and the row, one that the
-- grammar allows, stands there.
pub record HasFile (sid inode : ℕ) (before after : Store)
    (result : Result Node TxFault) : Type 0 where
  pub looks : Looks before after (mapped (λ (node : Node). node.length) result)
      (length_seen sid inode)
  pub stands : IfOk result (λ node. HasNodeRow after inode node)
  pub file : IfOk result (λ node. node.kind ≡ 1)
  pub allowed : IfOk result (λ node. IsTrue (is_node node))

-- rows of a file that reaches at least to a position
pub record Begun (rows after : Rows) (inode end now : ℕ) : Type 0 where
  pub was : Node
  pub there : get rows (node_key inode) ≡ Some (Ok (OfNode was))
  pub file : was.kind ≡ 1
  pub sized : AreSized rows after inode was (max was.length end) now

-- The beginning of a commit of bytes that end at a position: over whole rows it is refused where
-- the model's commit is, whatever the bytes are. The changes leave lists and slices alone, and over
-- whole rows they are that the file reaches there.
pub record BeginsCommit (sid now inode end started : ℕ) (before after : Store)
    (changes : List Change) (result : Result (Unit {0}) TxFault) : Type 0 where
  pub looks : (from : ℕ) (patch : List ℕ) → from + length patch ≡ end
      → Looks before after result (λ t. commit_of sid inode from patch started now t
      >>= (λ left. Ok tt))
  pub leaves : OnOk result (LeaveSlices before.rows changes)
  pub begun : OnOk result ((known : RowMap) → before.rows ≡ Some known → Whole (typed known)
      → Begun (typed known) (drafted changes known) inode end now)
