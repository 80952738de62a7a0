-- What drafted changes make of a volume's rows, and what one more step of a transaction adds to
-- them.
use Rattle.std.specs.Prelude.{◌≡◌, ℕ, List, None, Some, Result, Ok, Err, IfErr, IfSome, IsTrue, OnOk}
use Rattle.jv_model.specs.declared.fault.Fault.{Fault}
use Rattle.jv_model.specs.declared.fault.RowFault.TheVariants.{Bad, Failed, Memory}
use Rattle.jv_model.specs.declared.fault.TxFault.{TxFault}
use Rattle.jv_model.specs.declared.fault.TxFault.TheVariants.{Refused, Moved, Rows as OfRows}
use Rattle.jv_model.specs.declared.row.Node.{Node}
use Rattle.jv_model.specs.declared.row.RowKey.{RowKey}
use Rattle.jv_model.specs.promise.FiniteMap.{get}
use Rattle.jv_model.specs.promise.rows.RowKeys.{RowMap}
use Rattle.jv_model.specs.promise.tree.Tree.{Tree}
use Rattle.jv_outside.specs.declared.batch.Change.{Change}
use Rattle.jv_outside.specs.promise.Store.{Store}
use Rattle.jv_rows.specs.Drafts.{drafted}
use Rattle.jv_rows.specs.Transactions.{TransactionCounts, BadFault}
use Rattle.jv_rows.specs.promise.Transactions.{is_needed}
use Rattle.jv_volume.specs.promise.TypedRows.{Cell, Rows, typed}
use Rattle.jv_volume.specs.promise.TreeOf.{tree_of}
use Rattle.jv_volume.specs.promise.Views.{node_row_at}
use Rattle.jv_volume.specs.promise.Stored.{Stored}
use Rattle.jv_volume.specs.promise.Slices.{WholeFiles}
use Rattle.jv_volume.specs.promise.Whole.{IsRowAt}
use Rattle.jv_volume.specs.Whole.{Quiet, file_length}

-- each file is as long as at the start, and no file came
abbrev pub KeepsLengths : Rows → Rows → Type 0
KeepsLengths rows after = (inode : ℕ) (row : Node) → node_row_at after inode ≡ Some row
    → file_length (Some row) ≡ file_length (node_row_at rows inode)

-- With drafted changes, rows are those of a tree, though not yet of a whole one: lists and slices
-- are as before, and files that went left their lengths.
pub record Minds (known : RowMap) (changes : List Change) (bytes : ℕ → ℕ → ℕ)
    (t : Tree) : Type 0 where
  pub tree : tree_of bytes (drafted changes known) ≡ t
  pub cells : (key : RowKey) (cell : Cell) → get (drafted changes known) key ≡ Some cell
      → IsRowAt key cell
  pub stored : Stored (drafted changes known) (tree_of bytes (drafted changes known))
  pub files : WholeFiles (drafted changes known)
  pub quiet : Quiet (typed known) (drafted changes known)
  pub lengths : KeepsLengths (typed known) (drafted changes known)

-- no change leaves bytes that are malformed, or takes a row away that each volume has
pub record AreRows (changes : List Change) : Type 0 where
  pub spelled : (known : RowMap) (key : RowKey) (bytes : List ℕ)
      → get (drafted changes known) key ≡ Some (Err bytes)
      → get (typed known) key ≡ Some (Err bytes)
  pub needed : (known : RowMap) (key : RowKey) → IsTrue (is_needed key)
      → get (drafted changes known) key ≡ None
      → get (typed known) key ≡ None

-- a step that the model makes too, and the tree of the rows after it
pub record Led (known : RowMap) (changes : List Change) (bytes : ℕ → ℕ → ℕ)
    (model : Result Tree Fault) : Type 0 where
  pub left : Tree
  pub is : model ≡ Ok left
  pub minds : Minds known changes bytes left

abbrev pub LeadsTo : {A : Type 0} → RowMap → List Change → (ℕ → ℕ → ℕ) → Result A TxFault
    → Result Tree Fault → Type 0
LeadsTo known changes bytes (Ok x) model = Led known changes bytes model
LeadsTo known changes bytes (Err (Refused fault)) model = model ≡ Err fault
LeadsTo known changes bytes (Err (Moved list)) model = ⊥
LeadsTo known changes bytes (Err (OfRows (Bad at bad))) model = ⊥
LeadsTo known changes bytes (Err (OfRows Failed)) model = Unit {0}
LeadsTo known changes bytes (Err (OfRows Memory)) model = Unit {0}

-- A step of a transaction: it adds changes to those drafted, and the keeper's rows stay. Where the
-- rows are known, and the drafted ones are a tree's that is ready for it, it does what the model does
-- to that tree.
pub record Drafting {A : Type 0} (ready : Tree → Type 0) (was now : List Change)
    (before after : Store)
    (result : Result A TxFault) (step : Tree → Result Tree Fault) : Type 0 where
  pub rows_are : after.rows ≡ before.rows
  pub opened_at : after.opened ≡ before.opened
  pub counts : TransactionCounts before.faults after.faults result
  pub formed : AreRows was → OnOk result (AreRows now)
  pub leads : (known : RowMap) → before.rows ≡ Some known → (bytes : ℕ → ℕ → ℕ) (t : Tree)
      → Minds known was bytes t
      → ready t
      → LeadsTo known now bytes result (step t)
  pub bad : AreRows was → IfErr result (λ fault.
      IfSome before.rows (λ known. BadFault (typed known) fault))
