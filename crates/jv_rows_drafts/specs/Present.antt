-- What small changes read, and what they make of the rows that they read.
use Rattle.std.specs.Prelude.{◌≡◌, ℕ, ◌+◌, ◌==◌, ◌<◌, ◌≤◌, if◌then◌else◌, List, None, Option, Some, Result, Ok, Err, IfOk, IfErr, IfSome, IsTrue}
use Rattle.jv_model.specs.declared.limits.TheConstants.{MAX_LINKS}
use Rattle.jv_model.specs.declared.fault.Fault.{Fault}
use Rattle.jv_model.specs.declared.fault.Fault.TheVariants.{Stale, NoSpace}
use Rattle.jv_model.specs.declared.fault.Gone.TheVariants.{Node as GoneNode}
use Rattle.jv_model.specs.declared.fault.TxFault.{TxFault}
use Rattle.jv_model.specs.declared.fault.TxFault.TheVariants.{Refused, Moved, Rows as OfRows}
use Rattle.jv_model.specs.declared.row.Node.{Node}
use Rattle.jv_model.specs.declared.row.Row.TheVariants.{OfNode}
use Rattle.jv_model.specs.promise.FiniteMap.{get}
use Rattle.jv_model.specs.promise.rows.RowGrammar.{is_node}
use Rattle.jv_model.specs.promise.rows.RowKeys.{RowMap}
use Rattle.jv_model.specs.promise.rows.RowPlaces.{node_key}
use Rattle.jv_outside.specs.declared.batch.Change.{Change}
use Rattle.jv_outside.specs.promise.Store.{Store}
use Rattle.jv_rows.specs.Drafts.{drafted, RefusesCell}
use Rattle.jv_rows.specs.Transactions.{TransactionCounts}

-- why a node wasn't read: it isn't there, its bytes are malformed, the keeper failed, or out of
-- memory
abbrev pub RefusesNode : ℕ → List Change → Option RowMap → TxFault → Type 0
RefusesNode inode changes rows (Refused fault) = (fault ≡ Stale (GoneNode inode)) × IfSome rows
    (λ known. get (drafted changes known) (node_key inode) ≡ None)
RefusesNode inode changes rows (Moved list) = ⊥
RefusesNode inode changes rows (OfRows fault) = RefusesCell (node_key inode) changes rows fault

-- A reading of an inode's node, over changes: rows and place are the same.
pub record Presents (inode : ℕ) (changes : List Change) (before after : Store)
    (result : Result Node TxFault) : Type 0
  where
    pub rows_are : after.rows ≡ before.rows
    pub opened_at : after.opened ≡ before.opened
    pub counts : TransactionCounts before.faults after.faults result
    pub found : IfOk result (λ node. IfSome before.rows
        (λ known. get (drafted changes known) (node_key inode) ≡ Some (Ok (OfNode node))))
    pub allowed : IfOk result (λ node. IsTrue (is_node node))
    pub refused : IfErr result (RefusesNode inode changes before.rows)

-- what an entry of an inode of this kind adds to the link count of that inode
abbrev pub links_to_node : ℕ → ℕ
links_to_node kind = (if kind == 2 then 0 else 1)

-- a node with its links since then
abbrev pub linked_row : ℕ → Node → Node
linked_row links row = record row { nlink = links }

-- a node with `more` links more, which is refused where so high a count can't be stored
abbrev pub Rises : Node → ℕ → (ℕ → Node) → Result Node Fault → Type 0
Rises row more with_links (Ok after) =
    (after ≡ with_links (row.nlink + more)) × (row.nlink + more ≤ MAX_LINKS)
Rises row more with_links (Err fault) = (fault ≡ NoSpace) × (MAX_LINKS < row.nlink + more)
