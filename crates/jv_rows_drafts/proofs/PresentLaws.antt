-- A node that a small change reads, and what becomes of drafted rows by one change of a node's row or of an entry.
use Rattle.std.proofs.Common.{◌≡◌, ℕ, List, Option, None, Some, Result, Ok, Err, refl, sym, ap, subst, ◌∙◌, true≢false}
use Rattle.std.specs.Prelude.{is_some}
use Rattle.jv_model.specs.declared.fault.Fault.{Fault}
use Rattle.jv_model.specs.declared.fault.TxFault.{TxFault}
use Rattle.jv_model.specs.declared.fault.TxFault.TheVariants.{Refused, Moved, Rows as OfRows}
use Rattle.jv_model.specs.declared.row.Node.{Node as NodeRow}
use Rattle.jv_model.specs.declared.row.Row.TheVariants.{OfNode}
use Rattle.jv_model.specs.declared.row.RowKey.{RowKey}
use Rattle.jv_model.specs.promise.FiniteMap.{get, insert}
use Rattle.jv_model.specs.FiniteMap.{alter}
use Rattle.jv_model.specs.promise.rows.RowKeys.{RowMap}
use Rattle.jv_model.specs.promise.rows.RowPlaces.{node_key, edge_key}
use Rattle.jv_model.specs.promise.tree.Tree.{Tree, node_at}
use Rattle.jv_model.proofs.TestLaws.{if_some-by, of_known}
use Rattle.jv_outside.specs.declared.batch.Change.{Change}
use Rattle.jv_outside.specs.promise.Store.{Store}
use Rattle.jv_rows.specs.Drafts.{drafted, Drafts}
use Rattle.jv_rows.specs.Transactions.{FaultCause, BadFault}
use Rattle.jv_volume.specs.promise.TypedRows.{Cell, Rows, typed}
use Rattle.jv_volume.specs.promise.Views.{row_in, node_in, node_row_at}
use Rattle.jv_volume.specs.promise.TreeOf.{tree_of}
use Rattle.jv_volume.specs.promise.Stored.{Stored}
use Rattle.jv_volume.specs.promise.Slices.{WholeFiles}
use Rattle.jv_volume.specs.promise.Whole.{IsRowAt, is_read_only}
use Rattle.jv_volume.specs.Whole.{Quiet}
use Rattle.jv_volume.proofs.stored.FileStepLaws.{files-other, files-same_length}
use Rattle.jv_volume.proofs.stored.QuietLaws.{quiet-alter, quiet-put_node}
use Rattle.jv_volume.proofs.maps.SeenLaws.{row-put, rows-alter}
use Rattle.jv_volume.proofs.stored.StoredLaws.{no_node}
use Rattle.jv_volume.proofs.whole.WholeLaws.{again-row}
use Rattle.jv_rows_drafts.specs.Drafting.{KeepsLengths, Minds, AreRows, LeadsTo, Drafting}
use Rattle.jv_rows_drafts.specs.Present.{Presents, RefusesNode}
use Rattle.jv_rows_drafts.specs.Ready.{IsThere}
use Rattle.jv_rows_drafts.proofs.DraftedLaws.{Drafted, was_drafted, Stays, bad-cell, leads-cell}
use Rattle.jv_rows_drafts.proofs.LengthLaws.{lengths-alter, lengths-put_node}

-- ---- a node that was read

module _ (inode : ℕ) (changes : List Change) (before after : Store) where
  pub stays-present : (row : NodeRow) → Presents inode changes before after (Ok row) → Stays before after
  stays-present row p = record { rows_are = p.rows_are; opened_at = p.opened_at; calm = p.counts }

  pub present-stands : (row : NodeRow) → Presents inode changes before after (Ok row) → (known : RowMap)
      → before.rows ≡ Some known
      → node_row_at (drafted changes known) inode ≡ Some row
  present-stands row p known is =
      ap (λ c. node_in (row_in c)) (of_known
      (λ known. get (drafted changes known) (node_key inode) ≡ Some (Ok (OfNode row))) before.rows known is p.found)

module _ (inode : ℕ) (was : List Change) (middle after : Store) where
  -- a node that is there in the tree has a row
  not_absent : (known : RowMap) (bytes : ℕ → ℕ → ℕ) (t : Tree) → Minds known was bytes t → IsThere inode t
      → get (drafted was known) (node_key inode) ≡ None → ⊥
  not_absent known bytes t m there none =
      let absent : node_at t inode ≡ None = subst (λ (u : Tree). node_at u inode ≡ None) m.tree
      (no_node bytes (drafted was known) inode (ap (λ c. node_in (row_in c)) none)) in
      absurd (true≢false (sym there ∙ ap is_some absent))

  absent_leads : (A : Type 0) (fault : TxFault) → RefusesNode inode was middle.rows fault → (known : RowMap)
      → middle.rows ≡ Some known
      → (bytes : ℕ → ℕ → ℕ) (t : Tree) → Minds known was bytes t → IsThere inode t
      → (now : List Change) (step : Tree → Result Tree Fault) → LeadsTo {A = A} known now bytes (Err fault) (step t)
  absent_leads A (Refused fault) h known is bytes t m there now step =
      absurd (not_absent known bytes t m there
      (of_known (λ known. get (drafted was known) (node_key inode) ≡ None) middle.rows known is h.1))
  absent_leads A (Moved list) h known is bytes t m there now step = h
  absent_leads A (OfRows fault) h known is bytes t m there now step =
      leads-cell (node_key inode) was A middle.rows fault h known is bytes t m now (step t)

  absent_bad : (fault : TxFault) → RefusesNode inode was middle.rows fault → AreRows was → (known : RowMap)
      → middle.rows ≡ Some known
      → BadFault (typed known) fault
  absent_bad (Refused fault) h are known is = tt
  absent_bad (Moved list) h are known is = tt
  absent_bad (OfRows fault) h are known is = bad-cell (node_key inode) was middle.rows fault h are known is

  -- a node that was not read ends a small change of a tree that has it
  pub drafting-absent : {A : Type 0} (ready : Tree → Type 0) (now : List Change) (before : Store) → Stays before middle
      → (step : Tree → Result Tree Fault)
      → ((t : Tree) → ready t → IsThere inode t) → (fault : TxFault) → Presents inode was middle after (Err fault)
      → Drafting {A = A} ready was now before after (Err fault) step
  drafting-absent {A} ready now before p step there fault s = record {
    rows_are = s.rows_are ∙ p.rows_are;
    opened_at = s.opened_at ∙ p.opened_at;
    counts = subst (λ n. FaultCause n after.faults fault) p.calm s.counts;
    formed = λ are. tt;
    leads = λ known is bytes t m is_ready. absent_leads A fault s.refused known (p.rows_are ∙ is) bytes t m
        (there t is_ready) now step;
    bad = λ are. if_some-by (λ known. BadFault (typed known) fault) before.rows
        (λ known is. absent_bad fault s.refused are known (p.rows_are ∙ is));
  }

-- a node's row that a small change puts, by another name
pub put_drafted : {E : Type 0} (inode : ℕ) (row other : NodeRow) → row ≡ other
    → (was now : List Change) (result : Result (Unit {0}) E) → result ≡ Ok tt
    → Drafts (node_key inode) (Some (Ok (OfNode row))) was now result
    → Drafted (node_key inode) (Some (Ok (OfNode other))) was now
put_drafted inode row other same was now result done d =
    subst (λ (r : NodeRow). Drafted (node_key inode) (Some (Ok (OfNode r))) was now) same
    (was_drafted (node_key inode) (Some (Ok (OfNode row))) was now result done d)

-- ---- drafted rows

-- rows that leave lists, slices and the lengths of files of those at the start alone, whatever their tree
pub record Sound (start rows : Rows) : Type 0 where
  pub cells : (key : RowKey) (cell : Cell) → get rows key ≡ Some cell → IsRowAt key cell
  pub files : WholeFiles rows
  pub quiet : Quiet start rows
  pub lengths : KeepsLengths start rows

pub sound-minds : (known : RowMap) (changes : List Change) (bytes : ℕ → ℕ → ℕ) (t : Tree) → Minds known changes bytes t
    → Sound (typed known) (drafted changes known)
sound-minds known changes bytes t m = record { cells = m.cells; files = m.files; quiet = m.quiet; lengths = m.lengths }

pub minds-sound : (known : RowMap) (changes : List Change) (bytes : ℕ → ℕ → ℕ) (t : Tree) (rows : Rows)
    → Sound (typed known) rows → drafted changes known ≡ rows
    → tree_of bytes rows ≡ t → Stored rows (tree_of bytes rows) → Minds known changes bytes t
minds-sound known changes bytes t rows sound is tree stored = record {
  tree = ap (tree_of bytes) is ∙ tree;
  cells = subst (λ (r : Rows). (key : RowKey) (cell : Cell) → get r key ≡ Some cell → IsRowAt key cell)
      (sym is) sound.cells;
  stored = subst (λ (r : Rows). Stored r (tree_of bytes r)) (sym is) stored;
  files = subst WholeFiles (sym is) sound.files;
  quiet = subst (Quiet (typed known)) (sym is) sound.quiet;
  lengths = subst (KeepsLengths (typed known)) (sym is) sound.lengths;
}

module _ (start rows : Rows) (sound : Sound start rows) where
  -- a node's row that keeps its kind, its length, and its mode and owner if it's an hour's
  pub sound-node : (inode : ℕ) (was row : NodeRow) → node_row_at rows inode ≡ Some was → row.kind ≡ was.kind
      → row.length ≡ was.length → is_read_only row ≡ is_read_only was
      → Sound start (insert rows (node_key inode) (Ok (OfNode row)))
  sound-node inode was row there kind length mode = record {
    cells = rows-alter rows (node_key inode) (Some (Ok (OfNode row))) sound.cells
        (λ x. row-put (node_key inode) (Ok (OfNode row)) x (again-row rows inode was row sound.cells there mode));
    files = files-same_length rows inode was row sound.files there kind length;
    quiet = quiet-put_node start rows sound.quiet inode was row there;
    lengths = lengths-put_node start rows sound.lengths inode was row there kind length;
  }

  -- an entry that comes or goes
  pub sound-edge : (dir : ℕ) (name : List ℕ) (cell : Option Cell)
      → ((x : Cell) → cell ≡ Some x → IsRowAt (edge_key dir name) x)
      → Sound start (alter rows (edge_key dir name) cell)
  sound-edge dir name cell new = record {
    cells = rows-alter rows (edge_key dir name) cell sound.cells new;
    files = files-other rows (edge_key dir name) cell sound.files refl refl refl refl;
    quiet = quiet-alter start rows sound.quiet (edge_key dir name) cell refl refl refl refl;
    lengths = lengths-alter start rows sound.lengths (edge_key dir name) cell refl;
  }
