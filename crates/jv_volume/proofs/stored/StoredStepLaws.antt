-- Rows stay those of their tree with each small change of it: a node that is put, changed or dropped, an entry that comes or
-- goes, the counters, a session, a sustained file. Operations are made of these.
use Rattle.std.proofs.Common.{◌≡◌, ◌≢◌, ℕ, ◌+◌, ◌-◌, ◌<◌, ◌^◌, false, cond, inl, inr, Option, None, Some, Ok, refl, sym, ap, subst, ◌∙◌, arith}
use Rattle.std.specs.Prelude.{◌==◌, if◌then◌else◌}
use Rattle.std.specs.Option.{option_map}
use Rattle.std.specs.Ordering.{eq_by_cmp}
use Rattle.std.proofs.lemmas.Bool.{cases_eq}
use Rattle.jv_model.specs.declared.row.RowKey.{RowKey}
use Rattle.jv_model.specs.declared.row.Counters.{Counters}
use Rattle.jv_model.specs.declared.row.Node.{Node as NodeRow}
use Rattle.jv_model.specs.declared.row.Edge.{Edge}
use Rattle.jv_model.specs.declared.row.Row.TheVariants.{OfSetting, OfCounters, OfNode, OfEdge, OfSustained}
use Rattle.jv_model.specs.promise.FiniteMap.{number_key, get, insert, remove}
use Rattle.jv_model.specs.FiniteMap.{alter}
use Rattle.jv_model.specs.promise.rows.RowKeys.{row_key, row_cmp}
use Rattle.jv_model.specs.promise.rows.RowPlaces.{setting_key, counters_key, node_key, edge_key, session_key, sustained_key}
use Rattle.jv_model.specs.promise.tree.Tree.{Tree, Node, EntryKey, node_at, is_directory, link_count, used_space, used_inodes, kind_space, node_space, node_count}
use Rattle.jv_model.specs.promise.tree.Changes.{touched, put_node, drop_node, change_node, put_entry, take_entry}
use Rattle.jv_model.proofs.FiniteMapLaws.{get-alter}
use Rattle.jv_volume.specs.promise.TypedRows.{Cell, Rows}
use Rattle.jv_volume.specs.promise.Views.{row_in, edge_in, counters_at, node_row_at}
use Rattle.jv_volume.specs.promise.TreeOf.{node_of_row, tree_of}
use Rattle.jv_volume.specs.promise.Shape.{form_of, is_dir}
use Rattle.jv_volume.specs.promise.Stored.{Stored, number_of_node, counters_row}
use Rattle.jv_volume.proofs.shapes.ShapeMapLaws.{get-inserted, get-insert_apart, get-removed, get-remove_apart}
use Rattle.jv_volume.proofs.stored.NodeRowLaws.{IsNodeRow}
use Rattle.jv_volume.proofs.stored.StoredLaws.{HasNode, HasCounters, directory_number, found_node, found_counters, of_counters}
use Rattle.jv_volume.proofs.stored.StoringLaws.{AreStored, IsNodeCell, IsEdgeCell, IsSessionCell, are_stored, stored-by}
use Rattle.jv_volume.proofs.stored.TreeOfLaws.{get-entries, tree_of-put_node, tree_of-drop_node, tree_of-put_counters}
use Rattle.jv_volume.proofs.operations.ChangeLaws.{change_node-here, change_node-apart}
use Rattle.jv_volume.proofs.sums.LinkLaws.{IsFree, link_count-agree, link_count-put_alone, link_count-put_unnamed, link_count-drop_unnamed}
use Rattle.jv_volume.proofs.sums.SumLaws.{space_by_kind, used_space-put_new, used_space-put_over, used_space-drop_node, used_inodes-put_new, used_inodes-put_over, used_inodes-drop_node}

-- ---- what becomes of rows

-- of an inode's row: it stays with its link count, is another one, or is gone
pub data NodeGoes (rows after : Rows) (t u : Tree) (bytes : ℕ → ℕ → ℕ) (inode : ℕ) : Type 0 where
  NodeKept : get after (node_key inode) ≡ get rows (node_key inode) → link_count u inode ≡ link_count t inode → NodeGoes rows after t u bytes inode
  NodePut : (row : NodeRow) → get after (node_key inode) ≡ Some (Ok (OfNode row)) → IsNodeRow (link_count u inode) (bytes inode) row
      → NodeGoes rows after t u bytes inode
  NodeGone : get after (node_key inode) ≡ None → NodeGoes rows after t u bytes inode

-- of an edge: it stays with the kind of its inode, is another one, or is gone
pub data EdgeGoes (rows after : Rows) (t u : Tree) (at : EntryKey) : Type 0 where
  EdgeKept : get after (edge_key at.dir at.name) ≡ get rows (edge_key at.dir at.name)
      → ((inode : ℕ) → get t.entries at ≡ Some inode → number_of_node (node_at u inode) ≡ number_of_node (node_at t inode)) → EdgeGoes rows after t u at
  EdgePut : (edge : Edge) → get after (edge_key at.dir at.name) ≡ Some (Ok (OfEdge edge)) → edge.kind ≡ number_of_node (node_at u edge.inode)
      → EdgeGoes rows after t u at
  EdgeGone : get after (edge_key at.dir at.name) ≡ None → EdgeGoes rows after t u at

-- of a row of another table: it stays, is another one, or is gone
pub data CellGoes (rows after : Rows) (q : RowKey) (Is : Cell → Type 0) : Type 0 where
  CellKept : get after q ≡ get rows q → CellGoes rows after q Is
  CellPut : (cell : Cell) → get after q ≡ Some cell → Is cell → CellGoes rows after q Is
  CellGone : get after q ≡ None → CellGoes rows after q Is

abbrev pub IsSustainedCell : Cell → Type 0
IsSustainedCell cell = cell ≡ Ok OfSustained

-- what becomes of all rows, where the tree after is this one
pub record Goes (bytes : ℕ → ℕ → ℕ) (rows after : Rows) (u : Tree) (slice : ℕ) : Type 0 where
  pub tree : tree_of bytes after ≡ u
  pub setting : get after setting_key ≡ get rows setting_key
  pub same_setting : u.setting ≡ (tree_of bytes rows).setting
  pub counters : get after counters_key ≡ Some (Ok (OfCounters (counters_row u slice)))
  pub node : (inode : ℕ) → NodeGoes rows after (tree_of bytes rows) u bytes inode
  pub edge : (at : EntryKey) → EdgeGoes rows after (tree_of bytes rows) u at
  pub session : (sid : ℕ) → CellGoes rows after (session_key sid) IsSessionCell
  pub sustained : (sid inode : ℕ) → inode < 2 ^ 64 → CellGoes rows after (sustained_key sid inode) IsSustainedCell

module _ (bytes : ℕ → ℕ → ℕ) (rows after : Rows) (u : Tree) (slice : ℕ) (s : Stored rows (tree_of bytes rows)) (g : Goes bytes rows after u slice) where
  abbrev t : Tree
  t = tree_of bytes rows

  old : AreStored bytes rows
  old = are_stored bytes rows s

  links_are : (inode : ℕ) → link_count (tree_of bytes after) inode ≡ link_count u inode
  links_are inode = ap (λ (x : Tree). link_count x inode) g.tree

  number_is : (inode : ℕ) → number_of_node (node_at (tree_of bytes after) inode) ≡ number_of_node (node_at u inode)
  number_is inode = ap (λ (x : Tree). number_of_node (node_at x inode)) g.tree

  node_after : (inode : ℕ) (cell : Cell) → get after (node_key inode) ≡ Some cell → NodeGoes rows after t u bytes inode
      → IsNodeCell (link_count (tree_of bytes after) inode) (bytes inode) cell
  node_after inode cell e (NodeKept same links) = subst (λ l. IsNodeCell l (bytes inode) cell) (sym (links_are inode
      ∙ links)) (old.node inode cell (sym same ∙ e))
  node_after inode cell e (NodePut row is row_is) = record {
    row = row;
    is = cc;
    row_is = subst (λ l. IsNodeRow l (bytes inode) row)
        (sym (links_are inode)) row_is;
  }
  node_after inode cell e (NodeGone gone) = absurd (cc)

  edge_after : (at : EntryKey) (cell : Cell) → get after (edge_key at.dir at.name) ≡ Some cell → EdgeGoes rows after t u at
      → IsEdgeCell (tree_of bytes after) cell
  edge_after at cell e (EdgeKept same numbers) =
      let was : get rows (edge_key at.dir at.name) ≡ Some cell = sym same ∙ e in
      let before = old.edge at cell was in
      let named : get t.entries at ≡ Some before.edge.inode = get-entries bytes rows at
      ∙ ap (λ o. option_map (λ (edge : Edge). edge.inode) (edge_in (row_in o))) (was ∙ ap (λ x. Some x) before.is) in
      record { edge = before.edge; is = before.is; kind = before.kind ∙ sym (number_is before.edge.inode ∙ numbers before.edge.inode named) }
  edge_after at cell e (EdgePut edge is kind) = record { edge = edge; is = cc; kind = kind ∙ sym (number_is edge.inode) }
  edge_after at cell e (EdgeGone gone) = absurd (cc)

  cell_after : (q : RowKey) (Is : Cell → Type 0) (cell : Cell) → get after q ≡ Some cell → (get rows q ≡ Some cell → Is cell) → CellGoes rows after q Is
      → Is cell
  cell_after q Is cell e before (CellKept same) = before (sym same ∙ e)
  cell_after q Is cell e before (CellPut x is has) = subst Is (let same : x ≡ cell = cc in same) has
  cell_after q Is cell e before (CellGone gone) = absurd (cc)

  -- rows that so become others are those of their tree after
  pub stored-goes : Stored after (tree_of bytes after)
  stored-goes = stored-by bytes after (record {
    slice = slice;
    setting = g.setting ∙ s.setting ∙ ap (λ x. Some (Ok (OfSetting x))) (sym (ap (λ (x : Tree). x.setting) g.tree ∙ g.same_setting));
    counters = g.counters ∙ ap (λ (x : Tree). Some (Ok (OfCounters (counters_row x slice)))) (sym g.tree);
    node = λ inode cell e. node_after inode cell e (g.node inode);
    edge = λ at cell e. edge_after at cell e (g.edge at);
    session = λ sid cell e. cell_after (session_key sid) IsSessionCell cell e (old.session sid cell) (g.session sid);
    sustained = λ sid inode less cell e. cell_after (sustained_key sid inode) IsSustainedCell cell e (old.sustained sid inode less cell)
        (g.sustained sid inode less);
  })

-- ---- what trees keep

-- a node that is changed and keeps its number
pub number-change_node : (t : Tree) (inode : ℕ) (change : Node → Node) → ((node : Node) → number_of_node (Some (change node)) ≡ number_of_node (Some node))
    → (k : ℕ) → number_of_node (node_at (change_node t inode change) k) ≡ number_of_node (node_at t k)
number-change_node t inode change keeps k = elim (cases_eq k inode) [
  | inl same ↦ ap number_of_node (ap (node_at (change_node t inode change)) same ∙ change_node-here t inode change) ∙ changed (node_at t inode)
      ∙ sym (ap number_of_node (ap (node_at t) same))
  | inr apart ↦ ap number_of_node (change_node-apart t inode change k apart)
]
  where
    changed : (o : Option Node) → number_of_node (option_map change o) ≡ number_of_node o
    changed None = refl
    changed (Some node) = keeps node

-- a node that is put over one of its number
pub number-put_over : (t : Tree) (inode : ℕ) (was node : Node) → node_at t inode ≡ Some was → number_of_node (Some node) ≡ number_of_node (Some was)
    → (k : ℕ) → number_of_node (node_at (put_node t inode node) k) ≡ number_of_node (node_at t k)
number-put_over t inode was node there same_number k = elim (cases_eq k inode) [
  | inl same ↦ ap number_of_node (ap (node_at (put_node t inode node)) same ∙ get-inserted number_key t.nodes inode node) ∙ same_number
      ∙ sym (ap number_of_node (ap (node_at t) same ∙ there))
  | inr apart ↦ ap number_of_node (get-insert_apart number_key t.nodes inode node k apart)
]

-- trees of the same numbers and entries have the same link counts
pub links-number : (t u : Tree) → u.entries ≡ t.entries → ((k : ℕ) → number_of_node (node_at u k) ≡ number_of_node (node_at t k)) → (j : ℕ)
    → link_count u j ≡ link_count t j
links-number t u entries same j = link_count-agree t u j entries (dir j) (λ at inode e. dir inode)
  where
    dir : (k : ℕ) → is_directory u k ≡ is_directory t k
    dir k = directory_number (node_at u k) ∙ ap (λ n. n == 2) (same k) ∙ sym (directory_number (node_at t k))

pub number-put_entry : (t : Tree) (now : ℕ) (at : EntryKey) (inode k : ℕ) → number_of_node (node_at (put_entry t now at inode) k) ≡ number_of_node (node_at t k)
number-put_entry t now at inode k = number-change_node t at.dir (touched now) (λ node. refl) k

pub number-take_entry : (t : Tree) (now : ℕ) (at : EntryKey) (k : ℕ) → number_of_node (node_at (take_entry t now at) k) ≡ number_of_node (node_at t k)
number-take_entry t now at k = number-change_node t at.dir (touched now) (λ node. refl) k

pub row_number : (links : ℕ) (byte : ℕ → ℕ) (row : NodeRow) → IsNodeRow links byte row → number_of_node (Some (node_of_row byte row)) ≡ row.kind
row_number links byte row is = sym (ap (λ (r : NodeRow). r.kind) is)

-- ---- changes of one row, and of the counters

-- the row of counters that were read
pub counters_as : (u : Tree) (c : Counters) → HasCounters u c → c ≡ counters_row u c.slice
counters_as u c h = λ i. record { inode = sym h.next_inode i; slice = c.slice; session = sym h.next_session i; used_space = sym h.space i; used_inodes = sym h.inodes i }

-- what stands at a key after another was changed
pub alter_kept : (rows : Rows) (q : RowKey) (cell : Option Cell) (k : RowKey) → eq_by_cmp row_cmp k q ≡ false → get (alter rows q cell) k ≡ get rows k
alter_kept rows q cell k apart = get-alter rows q cell k ∙ ap (λ b. cond b cell (get rows k)) apart

module _ (rows : Rows) (q : RowKey) (cell : Cell) where
  -- a row that was put leaves the others
  pub put_kept : (k : RowKey) → eq_by_cmp row_cmp k q ≡ false → get (insert rows q cell) k ≡ get rows k
  put_kept k apart = alter_kept rows q (Some cell) k apart

pub drop_kept : (rows : Rows) (q k : RowKey) → eq_by_cmp row_cmp k q ≡ false → get (remove rows q) k ≡ get rows k
drop_kept rows q k apart = alter_kept rows q None k apart

pub node_apart : (rows : Rows) (i : ℕ) (cell : Cell) (k : ℕ) → k ≢ i → get (insert rows (node_key i) cell) (node_key k) ≡ get rows (node_key k)
node_apart rows i cell k apart = get-insert_apart row_key rows (node_key i) cell (node_key k) (λ same. apart (ap (λ (q : RowKey). q.a) same))

-- a node's row changed: its kind, its space and the links stay
pub stored-change_node : (bytes : ℕ → ℕ → ℕ) (rows : Rows) (inode : ℕ) (row new : NodeRow) → Stored rows (tree_of bytes rows)
    → node_row_at rows inode ≡ Some row
    → IsNodeRow row.nlink (bytes inode) new → new.kind ≡ row.kind → kind_space (node_of_row (bytes inode) new).kind ≡ kind_space (node_of_row (bytes inode) row).kind
    → Stored (insert rows (node_key inode) (Ok (OfNode new))) (tree_of bytes (insert rows (node_key inode) (Ok (OfNode new))))
stored-change_node bytes rows inode row new s here new_row same_kind same_space =
    let t = tree_of bytes rows in
    let node = node_of_row (bytes inode) new in
    let u : Tree = put_node t inode node in
    let q = node_key inode in
    let cell : Cell = Ok (OfNode new) in
    let is : HasNode t inode row (bytes inode) = found_node bytes rows s inode row here in
    let numbers : (k : ℕ) → number_of_node (node_at u k) ≡ number_of_node (node_at t k) =
    number-put_over t inode (node_of_row (bytes inode) row) node is.there (row_number row.nlink (bytes inode) new new_row ∙ same_kind
    ∙ sym (row_number (link_count t inode) (bytes inode) row is.row_is)) in
    let links : (j : ℕ) → link_count u j ≡ link_count t j = links-number t u refl numbers in
    let space_over = used_space-put_over t inode (node_of_row (bytes inode) row) node is.there in
    let one : node_space inode node ≡ node_space inode (node_of_row (bytes inode) row) = space_by_kind inode (node_of_row (bytes inode) row) node same_space in
    let space : used_space u ≡ used_space t = omega (arith, space_over, one) in
    let inodes : used_inodes u ≡ used_inodes t = used_inodes-put_over t inode (node_of_row (bytes inode) row) node is.there in
    stored-goes bytes rows (insert rows q cell) u s.slice s (record {
      tree = tree_of-put_node bytes rows inode new;
      setting = put_kept rows q cell setting_key refl;
      same_setting = refl;
      counters = put_kept rows q cell counters_key refl ∙ s.counters
          ∙ (λ i. Some (Ok (OfCounters (record (counters_row t s.slice) { used_space = sym space i; used_inodes = sym inodes i }))));
      node = λ k. elim (cases_eq k inode) [
        | inl same ↦ NodePut new (ap (λ i. get (insert rows q cell) (node_key i)) same ∙ get-inserted row_key rows q cell)
            (subst (λ i. IsNodeRow (link_count u i) (bytes i) new) (sym same) (subst (λ l. IsNodeRow l (bytes inode) new) (is.links
            ∙ sym (links inode)) new_row))
        | inr apart ↦ NodeKept (node_apart rows inode cell k apart) (links k)
      ];
      edge = λ at. EdgeKept (put_kept rows q cell (edge_key at.dir at.name) refl) (λ i e. numbers i);
      session = λ sid. CellKept (put_kept rows q cell (session_key sid) refl);
      sustained = λ sid i less. CellKept (put_kept rows q cell (sustained_key sid i) refl);
    })

-- what is put at an inode's key
pub node_here : (rows : Rows) (i : ℕ) (cell : Cell) (k : ℕ) → k ≡ i → get (insert rows (node_key i) cell) (node_key k) ≡ Some cell
node_here rows i cell k same = ap (λ j. get (insert rows (node_key i) cell) (node_key j)) same ∙ get-inserted row_key rows (node_key i) cell

-- the counters with another next inode, where the sums stay
pub stored-put_counters : (bytes : ℕ → ℕ → ℕ) (rows : Rows) (c : Counters) → Stored rows (tree_of bytes rows)
    → used_space (tree_of bytes rows) ≡ c.used_space → used_inodes (tree_of bytes rows) ≡ c.used_inodes
    → Stored (insert rows counters_key (of_counters c)) (tree_of bytes (insert rows counters_key (of_counters c)))
stored-put_counters bytes rows c s space inodes =
    let t = tree_of bytes rows in
    let u : Tree = record t { next_inode = c.inode; next_session = c.session } in
    let counts : HasCounters u c = record { next_inode = refl; next_session = refl; space = space; inodes = inodes } in
    stored-goes bytes rows (insert rows counters_key (of_counters c)) u c.slice s (record {
      tree = tree_of-put_counters bytes rows c;
      setting = put_kept rows counters_key (of_counters c) setting_key refl;
      same_setting = refl;
      counters = get-inserted row_key rows counters_key (of_counters c) ∙ ap (λ x. Some (Ok (OfCounters x))) (counters_as u c counts);
      node = λ k. NodeKept (put_kept rows counters_key (of_counters c) (node_key k) refl) refl;
      edge = λ at. EdgeKept (put_kept rows counters_key (of_counters c) (edge_key at.dir at.name) refl) (λ i e. refl);
      session = λ sid. CellKept (put_kept rows counters_key (of_counters c) (session_key sid) refl);
      sustained = λ sid i less. CellKept (put_kept rows counters_key (of_counters c) (sustained_key sid i) refl);
    })

-- ---- a node that comes, and one that goes

module _ (bytes : ℕ → ℕ → ℕ) (rows : Rows) (inode : ℕ) (row : NodeRow) (c : Counters) (next : ℕ) (s : Stored rows (tree_of bytes rows))
    (counters : counters_at rows ≡ Some c)
    (free : IsFree (tree_of bytes rows) inode) (new_row : IsNodeRow (if is_dir (form_of (Some (node_of_row (bytes inode) row))) then 2 else 0)
    (bytes inode) row) where
  abbrev new : Node
  new = node_of_row (bytes inode) row

  abbrev node_cell : Cell
  node_cell = Ok (OfNode row)

  abbrev pub counters_with_node : Counters
  counters_with_node = record c { inode = next; used_space = c.used_space + node_space inode new; used_inodes = c.used_inodes + node_count inode new }

  abbrev pub rows_with_node : Rows
  rows_with_node = insert (insert rows (node_key inode) node_cell) counters_key (of_counters counters_with_node)

  abbrev pub tree_with_node : Tree
  tree_with_node = record (put_node (tree_of bytes rows) inode new) { next_inode = next }

  c_is : HasCounters (tree_of bytes rows) c
  c_is = found_counters bytes rows s c counters

  pub tree_of-new_node : tree_of bytes rows_with_node ≡ tree_with_node
  tree_of-new_node =
      tree_of-put_counters bytes (insert rows (node_key inode) node_cell) counters_with_node
      ∙ ap (λ (x : Tree). record x { next_inode = next; next_session = c.session }) (tree_of-put_node bytes rows inode row)
      ∙ (λ i. record (put_node (tree_of bytes rows) inode new) { next_inode = next; next_session = sym c_is.next_session i })

  counts : HasCounters tree_with_node counters_with_node
  counts = record {
    next_inode = refl;
    next_session = c_is.next_session;
    space = used_space-put_new (tree_of bytes rows) inode new free.absent ∙ ap (λ n. n + node_space inode new) c_is.space;
    inodes = used_inodes-put_new (tree_of bytes rows) inode new free.absent ∙ ap (λ n. n + node_count inode new) c_is.inodes;
  }

  last_kept : (q : RowKey) → eq_by_cmp row_cmp q counters_key ≡ false → get rows_with_node q ≡ get (insert rows (node_key inode) node_cell) q
  last_kept q apart = put_kept (insert rows (node_key inode) node_cell) counters_key (of_counters counters_with_node) q apart

  both_kept : (q : RowKey) → eq_by_cmp row_cmp q counters_key ≡ false → eq_by_cmp row_cmp q (node_key inode) ≡ false → get rows_with_node q ≡ get rows q
  both_kept q apart other = last_kept q apart ∙ put_kept rows (node_key inode) node_cell q other

  -- a node that no entry names yet
  pub stored-new_node : Stored rows_with_node (tree_of bytes rows_with_node)
  stored-new_node = stored-goes bytes rows rows_with_node tree_with_node c.slice s (record {
    tree = tree_of-new_node;
    setting = both_kept setting_key refl refl;
    same_setting = refl;
    counters = get-inserted row_key (insert rows (node_key inode) node_cell) counters_key (of_counters counters_with_node)
        ∙ ap (λ x. Some (Ok (OfCounters x))) (counters_as tree_with_node counters_with_node counts);
    node = λ k. elim (cases_eq k inode) [
      | inl same ↦ NodePut row (last_kept (node_key k) refl ∙ node_here rows inode node_cell k same)
          (subst (λ i. IsNodeRow (link_count tree_with_node i) (bytes i) row) (sym same)
          (subst (λ l. IsNodeRow l (bytes inode) row) (sym (link_count-put_alone (tree_of bytes rows) inode new free)) new_row))
      | inr apart ↦ NodeKept (last_kept (node_key k) refl
          ∙ node_apart rows inode node_cell k apart) (link_count-put_unnamed (tree_of bytes rows) inode new k free.unnamed apart)
    ];
    edge = λ at. EdgeKept (both_kept (edge_key at.dir at.name) refl refl)
        (λ i e. ap number_of_node (get-insert_apart number_key (tree_of bytes rows).nodes inode new i (λ same. free.unnamed at (e ∙ ap (λ j. Some j) same))));
    session = λ sid. CellKept (both_kept (session_key sid) refl refl);
    sustained = λ sid i less. CellKept (both_kept (sustained_key sid i) refl refl);
  })

module _ (bytes : ℕ → ℕ → ℕ) (rows : Rows) (inode : ℕ) (row : NodeRow) (c : Counters) (s : Stored rows (tree_of bytes rows))
    (counters : counters_at rows ≡ Some c)
    (here : node_row_at rows inode ≡ Some row) (unnamed : (at : EntryKey) → get (tree_of bytes rows).entries at ≢ Some inode) where
  abbrev gone : Node
  gone = node_of_row (bytes inode) row

  abbrev pub counters_without_node : Counters
  counters_without_node = record c { used_space = c.used_space - node_space inode gone; used_inodes = c.used_inodes - node_count inode gone }

  abbrev pub rows_without_node : Rows
  rows_without_node = insert (remove rows (node_key inode)) counters_key (of_counters counters_without_node)

  abbrev pub tree_without_node : Tree
  tree_without_node = drop_node (tree_of bytes rows) inode

  has : HasCounters (tree_of bytes rows) c
  has = found_counters bytes rows s c counters

  pub tree_of-old_node : tree_of bytes rows_without_node ≡ tree_without_node
  tree_of-old_node =
      tree_of-put_counters bytes (remove rows (node_key inode)) counters_without_node
      ∙ ap (λ (x : Tree). record x { next_inode = c.inode; next_session = c.session }) (tree_of-drop_node bytes rows inode)
      ∙ (λ i. record (drop_node (tree_of bytes rows) inode) { next_inode = sym has.next_inode i; next_session = sym has.next_session i })

  gone_is : HasNode (tree_of bytes rows) inode row (bytes inode)
  gone_is = found_node bytes rows s inode row here

  counts_without_node : HasCounters tree_without_node counters_without_node
  counts_without_node =
      let space = used_space-drop_node (tree_of bytes rows) inode gone gone_is.there in
      let inodes = used_inodes-drop_node (tree_of bytes rows) inode gone gone_is.there in
      record { next_inode = has.next_inode; next_session = has.next_session; space = omega (arith, space, has.space); inodes = omega (arith, inodes, has.inodes) }

  put_last : (q : RowKey) → eq_by_cmp row_cmp q counters_key ≡ false → get rows_without_node q ≡ get (remove rows (node_key inode)) q
  put_last q apart = put_kept (remove rows (node_key inode)) counters_key (of_counters counters_without_node) q apart

  other_kept : (q : RowKey) → eq_by_cmp row_cmp q counters_key ≡ false → eq_by_cmp row_cmp q (node_key inode) ≡ false → get rows_without_node q ≡ get rows q
  other_kept q apart other = put_last q apart ∙ drop_kept rows (node_key inode) q other

  -- a node that no entry names any counters_with_node
  pub stored-old_node : Stored rows_without_node (tree_of bytes rows_without_node)
  stored-old_node = stored-goes bytes rows rows_without_node tree_without_node c.slice s (record {
    tree = tree_of-old_node;
    setting = other_kept setting_key refl refl;
    same_setting = refl;
    counters = get-inserted row_key (remove rows (node_key inode)) counters_key (of_counters counters_without_node)
        ∙ ap (λ x. Some (Ok (OfCounters x))) (counters_as tree_without_node counters_without_node counts_without_node);
    node = λ k. elim (cases_eq k inode) [
      | inl same ↦ NodeGone (put_last (node_key k) refl ∙ ap (λ i. get (remove rows (node_key inode)) (node_key i)) same
          ∙ get-removed row_key rows (node_key inode))
      | inr apart ↦ NodeKept (put_last (node_key k) refl ∙ get-remove_apart row_key rows (node_key inode) (node_key k)
          (λ same. apart (ap (λ (q : RowKey). q.a) same)))
          (link_count-drop_unnamed (tree_of bytes rows) inode k unnamed apart)
    ];
    edge = λ at. EdgeKept (other_kept (edge_key at.dir at.name) refl refl)
        (λ i e. ap number_of_node (get-remove_apart number_key (tree_of bytes rows).nodes inode i (λ same. unnamed at (e ∙ ap (λ j. Some j) same))));
    session = λ sid. CellKept (other_kept (session_key sid) refl refl);
    sustained = λ sid i small. CellKept (other_kept (sustained_key sid i) refl refl);
  })

-- ---- a node that takes another space, as a file of another length

module _ (bytes : ℕ → ℕ → ℕ) (rows : Rows) (inode : ℕ) (row new_row : NodeRow) (c : Counters) (space : ℕ) (s : Stored rows (tree_of bytes rows))
    (counters : counters_at rows ≡ Some c)
    (here : node_row_at rows inode ≡ Some row) (is_row : IsNodeRow row.nlink (bytes inode) new_row) (same_kind : new_row.kind ≡ row.kind)
    (space_is : space + node_space inode (node_of_row (bytes inode) row) ≡ c.used_space + node_space inode (node_of_row (bytes inode) new_row)) where
  abbrev then_node : Node
  then_node = node_of_row (bytes inode) new_row

  abbrev then_cell : Cell
  then_cell = Ok (OfNode new_row)

  abbrev pub rows_with_length : Rows
  rows_with_length = insert (insert rows (node_key inode) then_cell) counters_key (of_counters (record c { used_space = space }))

  abbrev tree_then : Tree
  tree_then = put_node (tree_of bytes rows) inode then_node

  c_has : HasCounters (tree_of bytes rows) c
  c_has = found_counters bytes rows s c counters

  row_is : HasNode (tree_of bytes rows) inode row (bytes inode)
  row_is = found_node bytes rows s inode row here

  pub tree_of-length : tree_of bytes rows_with_length ≡ put_node (tree_of bytes rows) inode then_node
  tree_of-length =
      tree_of-put_counters bytes (insert rows (node_key inode) then_cell) (record c { used_space = space })
      ∙ ap (λ (x : Tree). record x { next_inode = c.inode; next_session = c.session }) (tree_of-put_node bytes rows inode new_row)
      ∙ (λ i. record (put_node (tree_of bytes rows) inode then_node) { next_inode = sym c_has.next_inode i; next_session = sym c_has.next_session i })

  numbers_then : (k : ℕ) → number_of_node (node_at tree_then k) ≡ number_of_node (node_at (tree_of bytes rows) k)
  numbers_then =
      number-put_over (tree_of bytes rows) inode (node_of_row (bytes inode) row) then_node row_is.there
      (row_number row.nlink (bytes inode) new_row is_row ∙ same_kind ∙ sym (row_number (link_count (tree_of bytes rows) inode) (bytes inode) row row_is.row_is))

  links_then : (j : ℕ) → link_count tree_then j ≡ link_count (tree_of bytes rows) j
  links_then = links-number (tree_of bytes rows) tree_then refl numbers_then

  counts_then : HasCounters tree_then (record c { used_space = space })
  counts_then =
      let all = used_space-put_over (tree_of bytes rows) inode (node_of_row (bytes inode) row) then_node row_is.there in
      record {
        next_inode = c_has.next_inode;
        next_session = c_has.next_session;
        space = omega (arith, all, c_has.space, space_is);
        inodes = used_inodes-put_over (tree_of bytes rows) inode (node_of_row (bytes inode) row) then_node row_is.there ∙ c_has.inodes;
      }

  then_last : (q : RowKey) → eq_by_cmp row_cmp q counters_key ≡ false → get rows_with_length q ≡ get (insert rows (node_key inode) then_cell) q
  then_last q apart = put_kept (insert rows (node_key inode) then_cell) counters_key (of_counters (record c { used_space = space })) q apart

  then_kept : (q : RowKey) → eq_by_cmp row_cmp q counters_key ≡ false → eq_by_cmp row_cmp q (node_key inode) ≡ false → get rows_with_length q ≡ get rows q
  then_kept q apart other = then_last q apart ∙ put_kept rows (node_key inode) then_cell q other

  pub stored-length : Stored rows_with_length (tree_of bytes rows_with_length)
  stored-length = stored-goes bytes rows rows_with_length tree_then c.slice s (record {
    tree = tree_of-length;
    setting = then_kept setting_key refl refl;
    same_setting = refl;
    counters = get-inserted row_key (insert rows (node_key inode) then_cell) counters_key (of_counters (record c { used_space = space }))
        ∙ ap (λ x. Some (Ok (OfCounters x))) (counters_as tree_then (record c { used_space = space }) counts_then);
    node = λ k. elim (cases_eq k inode) [
      | inl same ↦ NodePut new_row (then_last (node_key k) refl ∙ node_here rows inode then_cell k same)
          (subst (λ i. IsNodeRow (link_count tree_then i) (bytes i) new_row) (sym same) (subst (λ l. IsNodeRow l (bytes inode) new_row) (row_is.links
          ∙ sym (links_then inode)) is_row))
      | inr apart ↦ NodeKept (then_last (node_key k) refl ∙ node_apart rows inode then_cell k apart) (links_then k)
    ];
    edge = λ at. EdgeKept (then_kept (edge_key at.dir at.name) refl refl) (λ i e. numbers_then i);
    session = λ sid. CellKept (then_kept (session_key sid) refl refl);
    sustained = λ sid i small. CellKept (then_kept (sustained_key sid i) refl refl);
  })
