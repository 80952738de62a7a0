-- Parts of a transaction that read, one after another, with their stores and what was asked inferred; and rows that were read.
use Rattle.std.proofs.Common.{◌≡◌, ℕ, Bool, List, [], Option, Some, Result, Ok, Err, refl}
use Rattle.std.specs.Prelude.{IfSome}
use Rattle.jv_model.specs.declared.row.RowKey.{RowKey}
use Rattle.jv_model.specs.declared.row.Row.{Row}
use Rattle.jv_model.specs.declared.row.Row.TheVariants.{OfNode, OfEdge}
use Rattle.jv_model.specs.declared.row.Node.{Node as NodeRow}
use Rattle.jv_model.specs.declared.row.Edge.{Edge}
use Rattle.jv_model.specs.declared.fault.Fault.{Fault}
use Rattle.jv_model.specs.declared.fault.RowFault.{RowFault}
use Rattle.jv_model.specs.declared.fault.RowFault.TheVariants.{Bad}
use Rattle.jv_model.specs.declared.fault.TxFault.{TxFault}
use Rattle.jv_model.specs.declared.fault.TxFault.TheVariants.{Refused, Rows as OfRows}
use Rattle.jv_model.specs.promise.FiniteMap.{get}
use Rattle.jv_model.specs.promise.rows.RowGrammar.{node_of, node_bytes, is_node, edge_of, edge_bytes, is_edge}
use Rattle.jv_model.specs.promise.rows.RowKeys.{RowMap}
use Rattle.jv_model.specs.promise.rows.RowPlaces.{node_key, edge_key}
use Rattle.jv_model.specs.promise.tree.Attempt.{◌>>=◌}
use Rattle.jv_model.specs.promise.tree.Tree.{Tree}
use Rattle.jv_outside.specs.promise.Store.{Store}
use Rattle.jv_volume.specs.promise.TypedRows.{typed}
use Rattle.jv_volume.specs.promise.TreeOf.{tree_of}
use Rattle.jv_volume.specs.promise.Whole.{Whole}
use Rattle.jv_rows.specs.Tables.{node_row, edge_row}
use Rattle.jv_rows.specs.Readings.{ReadsRow}
use Rattle.jv_rows.specs.Drafts.{cell, Sees}
use Rattle.jv_rows.specs.promise.Transactions.{IsBad}
use Rattle.jv_rows.specs.Transactions.{Looks}
use Rattle.jv_rows.proofs.transactions.DraftLaws.{sees_stored}
use Rattle.jv_rows.proofs.transactions.TransactionLaws.{Past, past-start, past-as, past-calm, past-ends, past-looks, past-stops, past-gives, past-refuses, fails-looks, fails-sees, stands-sees, as_stored}

-- ---- one part after another

module _ {A : Type 0} where
  -- what is left, in other words
  pub in_other_words : {before after : Store} {asked left other : Tree → Result A Fault} → Past before after asked left
      → ((known : RowMap) → before.rows ≡ Some known → Whole (typed known) → (bytes : ℕ → ℕ → ℕ) → left (tree_of bytes (typed known)) ≡ other (tree_of bytes (typed known)))
      → Past before after asked other
  in_other_words {before = before} {after = after} {asked = asked} {left = left} {other = other} l same = past-as before after after asked left l other same

  -- the last part
  pub last_part : {before now after : Store} {asked left : Tree → Result A Fault} {result : Result A TxFault} → Past before now asked left → Looks now after result left → Looks before after result asked
  last_part {before = before} {now = now} {after = after} {asked = asked} {left = left} {result = result} l r = past-ends before now after asked left l result r

  -- the answer is there
  pub answered : {before after : Store} {asked : Tree → Result A Fault} (x : A) → Past before after asked (λ t. Ok x) → Looks before after (Ok x) asked
  answered {before = before} {after = after} {asked = asked} x l = past-gives before after asked x l

  -- a refusal
  pub refused : {before after : Store} {asked : Tree → Result A Fault} (fault : Fault) → Past before after asked (λ t. Err fault) → Looks before after (Err (Refused fault)) asked
  refused {before = before} {after = after} {asked = asked} fault l = past-refuses before after asked fault l

  -- a row that is Bad, which whole rows have none of
  pub finds_bad : {before after : Store} {asked left : Tree → Result A Fault} (at : RowKey) (malformed : List ℕ) → Past before after asked left
      → IfSome before.rows (λ known. IsBad (typed known) at malformed)
      → ((known : RowMap) → before.rows ≡ Some known → Whole (typed known) → ⊥)
      → Looks before after (Err (OfRows (Bad at malformed))) asked
  finds_bad at malformed l bad never = record {
    rows_are = l.rows_are;
    opened_at = l.opened_at;
    counts = l.calm;
    agrees = λ known is whole bytes. never known is whole;
    bad = bad;
  }

-- a part that goes on with what it found
pub found_part : {A B : Type 0} {before now after : Store} {asked : Tree → Result B Fault} {part : Tree → Result A Fault} (next : A → Tree → Result B Fault) (x : A)
    → Past before now asked (λ t. part t >>= λ y. next y t) → Looks now after (Ok x) part → Past before after asked (λ t. next x t)
found_part {before = before} {now = now} {after = after} {asked = asked} {part = part} next x l r = past-looks before now after asked part (λ t y. next y t) l x r

-- a part that failed
pub failed_part : {A B : Type 0} {before now after : Store} {asked : Tree → Result B Fault} {part : Tree → Result A Fault} (next : A → Tree → Result B Fault) (fault : TxFault)
    → Past before now asked (λ t. part t >>= λ y. next y t) → Looks now after (Err fault) part → Looks before after (Err fault) asked
failed_part {before = before} {now = now} {after = after} {asked = asked} {part = part} next fault l r = past-stops before now after asked part (λ t y. next y t) l fault r

-- ---- a row that was read

pub seen_node : {inode : ℕ} {before after : Store} {result : Result (Option NodeRow) RowFault} → ReadsRow node_of node_bytes is_node (node_key inode) before after result
    → Sees OfNode is_node (node_key inode) [] before after result
seen_node {inode = inode} {before = before} {after = after} {result = result} r = sees_stored OfNode node_of 2 node_row (node_key inode) refl node_bytes is_node [] before after result refl r

pub seen_edge : {dir : ℕ} {name : List ℕ} {before after : Store} {result : Result (Option Edge) RowFault} → ReadsRow edge_of edge_bytes is_edge (edge_key dir name) before after result
    → Sees OfEdge is_edge (edge_key dir name) [] before after result
seen_edge {dir = dir} {name = name} {before = before} {after = after} {result = result} r = sees_stored OfEdge edge_of 3 edge_row (edge_key dir name) refl edge_bytes is_edge [] before after result refl r

module _ {A : Type 0} (row : A → Row) (is_allowed : A → Bool) (key : RowKey) (before after : Store) where
  -- a reading that failed
  pub not_read : {B : Type 0} (fault : RowFault) (asked : Tree → Result B Fault) → Sees row is_allowed key [] before after (Err fault) → Looks before after (Err (OfRows fault)) asked
  not_read fault asked r = fails-looks before after asked (OfRows fault) (fails-sees row is_allowed key [] before after (as_stored key before) fault r)

  -- a reading, and then what is asked is still asked
  pub was_read : {B : Type 0} (found : Option A) (asked : Tree → Result B Fault) → Sees row is_allowed key [] before after (Ok found) → Past before after asked asked
  was_read found asked r = past-calm before before after asked asked (past-start before asked) r.rows_are r.opened_at r.counts

  -- what stands at the key
  pub stands_there : (found : Option A) → Sees row is_allowed key [] before after (Ok found) → (known : RowMap) → before.rows ≡ Some known → get (typed known) key ≡ cell row found
  stands_there found r known is = stands-sees row is_allowed key [] before after (as_stored key before) found r known is
