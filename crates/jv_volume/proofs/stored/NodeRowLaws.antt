-- Nodes and their rows: the row of a node has that node again, and a changed row has the changed node.
use Rattle.std.proofs.Common.{◌≡◌, ℕ, Bool, true, false, refl, sym, ap, subst, arith, le-ltb}
use Rattle.std.specs.Prelude.{◌==◌, if◌then◌else◌}
use Rattle.jv_model.specs.declared.row.Node.{Node as NodeRow}
use Rattle.jv_model.specs.promise.tree.Tree.{File, Directory, Symlink, new_node}
use Rattle.jv_model.specs.promise.tree.Changes.{empty_content, content_of}
use Rattle.jv_model.specs.promise.tree.Renaming.{kind_under, moved_node}
use Rattle.jv_volume.specs.promise.TreeOf.{node_of_row}
use Rattle.jv_volume.specs.promise.Stored.{node_row}

-- A row that is written as rows of nodes are: what its kind doesn't have is empty.
abbrev pub IsNodeRow : ℕ → (ℕ → ℕ) → NodeRow → Type 0
IsNodeRow links byte row = row ≡ node_row links (node_of_row byte row)

pub content_of-empty : (byte : ℕ → ℕ) → content_of 0 byte ≡ empty_content
content_of-empty byte = λ i. record { length = 0; byte = λ position. ap (λ b. if b then byte position else 0) (le-ltb position 0 (omega arith)) i }

-- the node of a directory's row, of a symlink's, and of an empty file's

pub node_of-empty_file : (byte : ℕ → ℕ) (links mode now : ℕ)
    → node_of_row byte (node_row links (new_node (File empty_content) mode now)) ≡ new_node (File empty_content) mode now
node_of-empty_file byte links mode now = ap (λ content. new_node (File content) mode now) (content_of-empty byte)

-- the node of a row with other times, links and attributes

pub IsNodeRow-touched : (byte : ℕ → ℕ) (row : NodeRow) (now before links : ℕ) → IsNodeRow before byte row
    → IsNodeRow links byte (record row { mtime = now; ctime = now; nlink = links })
IsNodeRow-touched byte row now before links is = ap (λ (r : NodeRow). record r { mtime = now; ctime = now; nlink = links }) is

-- the row of a file with another length
pub IsNodeRow-length : (byte : ℕ → ℕ) (row : NodeRow) (now before links length : ℕ) → row.kind ≡ 1 → IsNodeRow before byte row
    → IsNodeRow links byte (record row { length = length; mtime = now; ctime = now; nlink = links })
IsNodeRow-length byte row now before links length file is =
    subst (λ k. IsNodeRow before byte (record row { kind = k })
    → IsNodeRow links byte (record row { kind = k; length = length; mtime = now; ctime = now; nlink = links })) (sym file)
    (λ as_file. ap (λ (r : NodeRow). record r { length = length; mtime = now; ctime = now; nlink = links }) as_file) is

-- the row of what moved to another directory: a directory has another parent now
abbrev pub moved_row : ℕ → ℕ → NodeRow → NodeRow
moved_row now dir row = record row { ctime = now; parent = if row.kind == 2 then dir else row.parent }

pub node_of-moved : (byte : ℕ → ℕ) (row : NodeRow) (now dir : ℕ) → node_of_row byte (moved_row now dir row) ≡ moved_node now dir (node_of_row byte row)
node_of-moved byte row now dir = by_kind (row.kind == 1) (row.kind == 2)
  where
    by_kind : (file is_dir : Bool)
        → record (node_of_row byte row) {
          ctime = now;
          kind = if file then File (content_of row.length byte) else if is_dir then Directory
              (if is_dir then dir else row.parent) else Symlink row.target;
        }
        ≡ record (node_of_row byte row) {
          ctime = now;
          kind = kind_under dir
              (if file then File (content_of row.length byte) else if is_dir then Directory row.parent else Symlink row.target);
        }
    by_kind true is_dir = refl
    by_kind false true = refl
    by_kind false false = refl

pub IsNodeRow-moved_dir : (byte : ℕ → ℕ) (row : NodeRow) (now dir before links : ℕ) → row.kind ≡ 2 → IsNodeRow before byte row
    → IsNodeRow links byte (record (moved_row now dir row) { nlink = links })
IsNodeRow-moved_dir byte row now dir before links is_dir is =
    subst (λ k. IsNodeRow before byte (record row { kind = k })
    → IsNodeRow links byte (record (moved_row now dir (record row { kind = k })) { nlink = links })) (sym is_dir)
    (λ as_dir. ap (λ (r : NodeRow). record r { ctime = now; parent = dir; nlink = links }) as_dir) is

pub IsNodeRow-moved_leaf : (byte : ℕ → ℕ) (row : NodeRow) (now dir before links : ℕ) → (row.kind == 2) ≡ false → IsNodeRow before byte row
    → IsNodeRow links byte (record (moved_row now dir row) { nlink = links })
IsNodeRow-moved_leaf byte row now dir before links leaf is =
    subst (λ (b : Bool). IsNodeRow links byte (record row { ctime = now; parent = if b then dir else row.parent; nlink = links })) (sym leaf)
    (ap (λ (r : NodeRow). record r { ctime = now; nlink = links }) is)
