-- What is read of a tree by its rows: the entries of a directory, attributes, and how much is used.
use Rattle.std.proofs.Common.{◌≡◌, ℕ, Bool, true, false, List, Option, None, Some, refl, sym, ap, ◌∙◌, true≢false, eqb-true, eq-eqb}
use Rattle.std.specs.Prelude.{◌==◌, is_some, filter, map}
use Rattle.std.specs.Option.{option_map}
use Rattle.jv_model.specs.declared.row.Node.{Node as NodeRow}
use Rattle.jv_model.specs.declared.row.Edge.{Edge}
use Rattle.jv_model.specs.declared.row.Counters.{Counters}
use Rattle.jv_model.specs.promise.FiniteMap.{get, first_where, first_passing, entries_where}
use Rattle.jv_model.specs.promise.tree.Tree.{Tree, EntryKey, entry_key, has_entries}
use Rattle.jv_model.specs.promise.tree.Reading.{file_kind, attr_of, entries_of, usage_of}
use Rattle.jv_model.proofs.FiniteMapLaws.{IsFound, first_where-found}
use Rattle.jv_volume.specs.promise.TypedRows.{Rows}
use Rattle.jv_volume.specs.promise.Views.{edge_in}
use Rattle.jv_volume.specs.Views.{edge_at}
use Rattle.jv_volume.specs.promise.TreeOf.{node_of_row, entries_selected, entry_of_key, tree_of}
use Rattle.jv_volume.specs.promise.TreeOf.{entries_of_rows as entry_map}
use Rattle.jv_volume.proofs.maps.SelectOrderLaws.{selected-list, entry_rises}
use Rattle.jv_volume.proofs.shapes.ShapeMapLaws.{first_where-none}
use Rattle.jv_volume.proofs.stored.StoredLaws.{HasNode, HasCounters, no_entry}
use Rattle.jv_volume.proofs.stored.TreeOfLaws.{get-entries}

-- ---- the entries of a directory

-- the entries of rows, in their order
abbrev pub edges_of : Rows → List (EntryKey × ℕ)
edges_of rows = entries_selected entry_of_key (λ at row. option_map (λ (edge : Edge). edge.inode) (edge_in row)) rows.list

pub entries-list : (bytes : ℕ → ℕ → ℕ) (rows : Rows) → (tree_of bytes rows).entries.list ≡ edges_of rows
unfolding tree_of entry_map
entries-list bytes rows = selected-list entry_key entry_of_key (λ at row. option_map (λ (edge : Edge). edge.inode) (edge_in row)) entry_rises rows

-- the entries of a directory are those of its edges, in the order of rows
pub entries_of-rows : (bytes : ℕ → ℕ → ℕ) (rows : Rows) (dir : ℕ)
    → entries_of (tree_of bytes rows) dir ≡ map (λ e. (e.0.name, e.1)) (filter (λ e. e.0.dir == dir) (edges_of rows))
unfolding entries_where
entries_of-rows bytes rows dir = ap (λ es. map (λ (e : EntryKey × ℕ). (e.0.name, e.1)) (filter (λ e. e.0.dir == dir) es)) (entries-list bytes rows)

-- the first entry that passes a test is that of the first edge
pub first_entry-rows : (bytes : ℕ → ℕ → ℕ) (rows : Rows) (test : EntryKey → ℕ → Bool)
    → first_where test (tree_of bytes rows).entries ≡ first_passing test (edges_of rows)
unfolding first_where
first_entry-rows bytes rows test = ap (first_passing test) (entries-list bytes rows)

module _ (bytes : ℕ → ℕ → ℕ) (rows : Rows) (dir : ℕ) where
  abbrev in_dir : EntryKey → ℕ → Bool
  in_dir key named = key.dir == dir

  no_first : (o : Option (EntryKey × ℕ)) → first_where in_dir (tree_of bytes rows).entries ≡ o → is_some o ≡ false → (name : List ℕ) (edge : Edge)
      → edge_at rows dir name ≡ Some edge → ⊥
  no_first None first e name edge there =
      let named : get (tree_of bytes rows).entries (record { dir = dir; name = name }) ≡ Some edge.inode =
      get-entries bytes rows (record { dir = dir; name = name }) ∙ ap (option_map (λ (x : Edge). x.inode)) there in
      first_where-none entry_key in_dir (tree_of bytes rows).entries (record { dir = dir; name = name }) edge.inode first named (eq-eqb dir dir refl)
  no_first (Some found) first e name edge there = absurd (true≢false e)

  -- a directory without entries has no edge
  pub no_entries-rows : has_entries (tree_of bytes rows) dir ≡ false → (name : List ℕ) (edge : Edge) → edge_at rows dir name ≡ Some edge → ⊥
  no_entries-rows none = no_first (first_where in_dir (tree_of bytes rows).entries) refl none

  has_first : (o : Option (EntryKey × ℕ)) → first_where in_dir (tree_of bytes rows).entries ≡ o → ((name : List ℕ) → edge_at rows dir name ≡ None)
      → is_some o ≡ false
  has_first None first none = refl
  has_first (Some found) first none =
      let is : IsFound in_dir (tree_of bytes rows).entries found.0 found.1 = first_where-found entry_key in_dir (tree_of bytes rows).entries found first in
      let here : edge_at rows found.0.dir found.0.name ≡ None = ap (λ d. edge_at rows d found.0.name) (eqb-true found.0.dir dir is.passes)
      ∙ none found.0.name in
      let gone : get (tree_of bytes rows).entries found.0 ≡ None = no_entry bytes rows found.0 here in
      (let both : Some found.1 ≡ None = sym is.there ∙ gone in absurd (cc))

  -- a directory without edges has no entries
  pub no_edges-rows : ((name : List ℕ) → edge_at rows dir name ≡ None) → has_entries (tree_of bytes rows) dir ≡ false
  no_edges-rows none = has_first (first_where in_dir (tree_of bytes rows).entries) refl none

  -- an edge makes a directory one with entries
  pub has_entries-rows : (name : List ℕ) (edge : Edge) → edge_at rows dir name ≡ Some edge → has_entries (tree_of bytes rows) dir ≡ true
  has_entries-rows name edge there = by_test (has_entries (tree_of bytes rows) dir) refl
    where
      by_test : (b : Bool) → has_entries (tree_of bytes rows) dir ≡ b → b ≡ true
      by_test true e = refl
      by_test false e = absurd (no_entries-rows e name edge there)

-- ---- attributes

-- the attributes of a node are those of its row
pub attr_of-row : (t : Tree) (inode : ℕ) (row : NodeRow) (byte : ℕ → ℕ) → HasNode t inode row byte → attr_of t inode (node_of_row byte row) ≡ record {
  inode = inode;
  kind = file_kind (node_of_row byte row).kind;
  mode = row.mode;
  nlink = row.nlink;
  uid = row.uid;
  gid = row.gid;
  size = row.length;
  mtime = row.mtime;
  ctime = row.ctime;
}
attr_of-row t inode row byte has = λ i. record {
  inode = inode;
  kind = file_kind (node_of_row byte row).kind;
  mode = row.mode;
  nlink = sym has.links i;
  uid = row.uid;
  gid = row.gid;
  size = sym (ap (λ (r : NodeRow). r.length) has.row_is) i;
  mtime = row.mtime;
  ctime = row.ctime;
}

-- what is used is what the counters say
pub usage_of-rows : (t : Tree) (c : Counters) → HasCounters t c
    → usage_of t ≡ record { used = c.used_space; capacity = t.setting.capacity; inodes = c.used_inodes; limit = t.setting.inodes }
usage_of-rows t c has = λ i. record { used = has.space i; capacity = t.setting.capacity; inodes = has.inodes i; limit = t.setting.inodes }
