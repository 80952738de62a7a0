-- The tree of rows: what it has at each key, and what a put or a delete of a row changes in it.
use Rattle.std.proofs.Common.{◌≡◌, ℕ, ◌<◌, ◌≤◌, ◌^◌, Bool, true, false, cond, ◌||◌, List, Option, None, Some, Ok, refl, sym, ap, subst, ◌∙◌, eqb-true}
use Rattle.std.specs.Prelude.{◌==◌, is_some, IsTrue, if◌then◌else◌}
use Rattle.std.specs.Option.{option_map}
use Rattle.std.specs.Ordering.{eq_by_cmp}
use Rattle.std.proofs.lemmas.Bool.{le-ltb}
use Rattle.jv_model.specs.declared.tables.TheConstants.{TABLE_OF_LISTS, TABLE_OF_SLICES, TABLE_OF_DROPPED, TABLE_OF_DEAD, TABLE_OF_NODES, TABLE_OF_SESSIONS}
use Rattle.jv_model.specs.declared.row.RowKey.{RowKey}
use Rattle.jv_model.specs.declared.row.Counters.{Counters}
use Rattle.jv_model.specs.declared.row.Node.{Node as NodeRow}
use Rattle.jv_model.specs.declared.row.Edge.{Edge}
use Rattle.jv_model.specs.declared.row.Session.{Session}
use Rattle.jv_model.specs.declared.row.Row.TheVariants.{OfSetting, OfCounters, OfNode, OfEdge, OfSession, OfSustained}
use Rattle.jv_model.specs.declared.setting.Setting.{Setting}
use Rattle.jv_model.specs.promise.FiniteMap.{number_key, get, insert, remove}
use Rattle.jv_model.specs.FiniteMap.{alter}
use Rattle.jv_model.specs.promise.rows.RowKeys.{row_key, row_cmp}
use Rattle.jv_model.specs.promise.rows.RowPlaces.{setting_key, counters_key, node_key, edge_key, session_key, sustained_key}
use Rattle.jv_model.specs.promise.tree.Tree.{Node, EntryKey, entry_key, SessionEntry, pair_key, node_at, is_sustained}
use Rattle.jv_model.specs.promise.tree.Changes.{put_node, drop_node}
use Rattle.jv_model.proofs.FiniteMapLaws.{get-alter}
use Rattle.jv_volume.specs.promise.TypedRows.{Cell, Rows}
use Rattle.jv_volume.specs.promise.Views.{row_in, row_at, setting_in, setting_at, counters_in, node_in, node_row_at, edge_in, session_in, sustained_in}
use Rattle.jv_volume.specs.Views.{edge_at, session_at, sustained_at}
use Rattle.jv_volume.specs.promise.TreeOf.{number_of_key, entry_of_key, pair_of_key, node_of_row, session_of_row, nodes_of, entries_of_rows, sessions_of, sustained_of_rows, or_no_setting, or_no_counters, counters_of_rows, tree_of}
use Rattle.jv_volume.proofs.maps.MapLaws.{get-alter-here}
use Rattle.jv_volume.proofs.maps.SelectLaws.{get-selected, selected-alter, selected-alter-other, value_at}
use Rattle.jv_volume.proofs.maps.TableLaws.{number_place, number_table, entry_place, entry_table, pair_place, pair_table, pair_of_key-here, pair_place-here}

-- ---- what the maps answer

abbrev unit_if : Bool → Option (Unit {0})
unit_if b = (if b then Some tt else None)

is_some-unit_if : (b : Bool) → is_some (unit_if b) ≡ b
is_some-unit_if true = refl
is_some-unit_if false = refl

-- the node at an inode is that of its row
pub node_at-tree_of : (bytes : ℕ → ℕ → ℕ) (rows : Rows) (inode : ℕ)
    → node_at (tree_of bytes rows) inode ≡ option_map (node_of_row (bytes inode)) (node_row_at rows inode)
unfolding tree_of nodes_of
node_at-tree_of bytes rows inode =
    get-selected number_key (number_of_key TABLE_OF_NODES) (number_place TABLE_OF_NODES) (number_table TABLE_OF_NODES) (λ i row. option_map (node_of_row (bytes i)) (node_in row)) (λ i. refl) rows inode

-- the inode that an entry names is that of its edge
pub get-entries : (bytes : ℕ → ℕ → ℕ) (rows : Rows) (at : EntryKey)
    → get (tree_of bytes rows).entries at ≡ option_map (λ edge. edge.inode) (edge_at rows at.dir at.name)
unfolding tree_of entries_of_rows
get-entries bytes rows at =
    get-selected entry_key entry_of_key entry_place entry_table (λ at row. option_map (λ edge. edge.inode) (edge_in row)) (λ at. refl) rows at

pub get-sessions : (bytes : ℕ → ℕ → ℕ) (rows : Rows) (sid : ℕ) → get (tree_of bytes rows).sessions sid ≡ option_map session_of_row (session_at rows sid)
unfolding tree_of sessions_of
get-sessions bytes rows sid =
    get-selected number_key (number_of_key TABLE_OF_SESSIONS) (number_place TABLE_OF_SESSIONS) (number_table TABLE_OF_SESSIONS) (λ sid row. option_map session_of_row (session_in row)) (λ sid. refl) rows sid

-- a pair is there by its row
pub get-sustained : (bytes : ℕ → ℕ → ℕ) (rows : Rows) (sid inode : ℕ) → inode < 2 ^ 64
    → get (tree_of bytes rows).sustained (record { sid = sid; inode = inode }) ≡ (if sustained_at rows sid inode then Some tt else None)
unfolding tree_of sustained_of_rows
get-sustained bytes rows sid inode less =
    get-selected pair_key pair_of_key pair_place pair_table (λ pair row. unit_if (sustained_in row)) (λ pair. refl) rows (record { sid = sid; inode = inode })
    ∙ ap (value_at pair_key pair_of_key pair_place pair_table (λ pair row. unit_if (sustained_in row)) (λ pair. refl) rows
    (record { sid = sid; inode = inode })) (pair_place-here sid inode less)

-- a pair with an inode of more than 64 bits is never there
pub get-sustained-none : (bytes : ℕ → ℕ → ℕ) (rows : Rows) (sid inode : ℕ) → 2 ^ 64 ≤ inode
    → get (tree_of bytes rows).sustained (record { sid = sid; inode = inode }) ≡ None
unfolding tree_of sustained_of_rows
get-sustained-none bytes rows sid inode more =
    get-selected pair_key pair_of_key pair_place pair_table (λ pair row. unit_if (sustained_in row)) (λ pair. refl) rows (record { sid = sid; inode = inode })
    ∙ ap (λ b. value_at pair_key pair_of_key pair_place pair_table (λ pair row. unit_if (sustained_in row)) (λ pair. refl) rows
    (record { sid = sid; inode = inode }) (cond b (Some (sustained_key sid inode)) None)) (le-ltb inode (2 ^ 64) more)

pub is_sustained-tree_of : (bytes : ℕ → ℕ → ℕ) (rows : Rows) (sid inode : ℕ) → inode < 2 ^ 64
    → is_sustained (tree_of bytes rows) sid inode ≡ sustained_at rows sid inode
is_sustained-tree_of bytes rows sid inode less = ap is_some (get-sustained bytes rows sid inode less) ∙ is_some-unit_if (sustained_at rows sid inode)

pub setting-tree_of : (bytes : ℕ → ℕ → ℕ) (rows : Rows) → (tree_of bytes rows).setting ≡ or_no_setting (setting_at rows)
unfolding tree_of
setting-tree_of bytes rows = refl

pub next_inode-tree_of : (bytes : ℕ → ℕ → ℕ) (rows : Rows) → (tree_of bytes rows).next_inode ≡ (counters_of_rows rows).inode
unfolding tree_of
next_inode-tree_of bytes rows = refl

pub next_session-tree_of : (bytes : ℕ → ℕ → ℕ) (rows : Rows) → (tree_of bytes rows).next_session ≡ (counters_of_rows rows).session
unfolding tree_of
next_session-tree_of bytes rows = refl

-- ---- what a change of a row changes

-- a key whose row the tree doesn't have
pub record IsUnseen (q : RowKey) : Type 0 where
  pub setting : eq_by_cmp row_cmp setting_key q ≡ false
  pub counters : eq_by_cmp row_cmp counters_key q ≡ false
  pub node : number_of_key TABLE_OF_NODES q ≡ None
  pub entry : entry_of_key q ≡ None
  pub session : number_of_key TABLE_OF_SESSIONS q ≡ None
  pub pair : pair_of_key q ≡ None

module _ (rows : Rows) (q : RowKey) (cell : Option Cell) where
  row_kept : (key : RowKey) → eq_by_cmp row_cmp key q ≡ false → row_at (alter rows q cell) key ≡ row_at rows key
  row_kept key apart = ap row_in (get-alter rows q cell key ∙ ap (λ b. cond b cell (get rows key)) apart)

  setting_kept : eq_by_cmp row_cmp setting_key q ≡ false → or_no_setting (setting_at (alter rows q cell)) ≡ or_no_setting (setting_at rows)
  setting_kept apart = ap (λ row. or_no_setting (setting_in row)) (row_kept setting_key apart)

  counters_kept : eq_by_cmp row_cmp counters_key q ≡ false → counters_of_rows (alter rows q cell) ≡ counters_of_rows rows
  counters_kept apart = ap (λ row. or_no_counters (counters_in row)) (row_kept counters_key apart)

  nodes_kept : (bytes : ℕ → ℕ → ℕ) → number_of_key TABLE_OF_NODES q ≡ None → nodes_of bytes (alter rows q cell) ≡ nodes_of bytes rows
  unfolding nodes_of
  nodes_kept bytes other =
      selected-alter-other number_key (number_of_key TABLE_OF_NODES) (number_place TABLE_OF_NODES) (number_table TABLE_OF_NODES) (λ i row. option_map (node_of_row (bytes i)) (node_in row))
      (λ i. refl) rows q cell other

  entries_kept : entry_of_key q ≡ None → entries_of_rows (alter rows q cell) ≡ entries_of_rows rows
  unfolding entries_of_rows
  entries_kept other =
      selected-alter-other entry_key entry_of_key entry_place entry_table (λ at row. option_map (λ edge. edge.inode) (edge_in row))
      (λ at. refl) rows q cell other

  sessions_kept : number_of_key TABLE_OF_SESSIONS q ≡ None → sessions_of (alter rows q cell) ≡ sessions_of rows
  unfolding sessions_of
  sessions_kept other =
      selected-alter-other number_key (number_of_key TABLE_OF_SESSIONS) (number_place TABLE_OF_SESSIONS) (number_table TABLE_OF_SESSIONS) (λ sid row. option_map session_of_row (session_in row))
      (λ sid. refl) rows q cell other

  sustained_kept : pair_of_key q ≡ None → sustained_of_rows (alter rows q cell) ≡ sustained_of_rows rows
  unfolding sustained_of_rows
  sustained_kept other =
      selected-alter-other pair_key pair_of_key pair_place pair_table (λ pair row. unit_if (sustained_in row)) (λ pair. refl) rows q cell other

  -- a change at a key that the tree doesn't see leaves it
  pub tree_of-unseen : (bytes : ℕ → ℕ → ℕ) → IsUnseen q → tree_of bytes (alter rows q cell) ≡ tree_of bytes rows
  unfolding tree_of
  tree_of-unseen bytes apart = λ i. record {
    setting = setting_kept apart.setting i;
    nodes = nodes_kept bytes apart.node i;
    entries = entries_kept apart.entry i;
    sessions = sessions_kept apart.session i;
    sustained = sustained_kept apart.pair i;
    next_inode = (counters_kept apart.counters i).inode;
    next_session = (counters_kept apart.counters i).session;
  }

unseen_tab : (q : RowKey) (tab : ℕ) → q.tab ≡ tab → ((a : ℕ) (b : List ℕ) → IsUnseen (record { tab = tab; a = a; b = b })) → IsUnseen q
unseen_tab q tab is h = subst (λ (n : ℕ). IsUnseen (record { tab = n; a = q.a; b = q.b })) (sym is) (h q.a q.b)

-- the tables of lists, slices, dropped files and dead slices
abbrev pub is_unseen : ℕ → Bool
is_unseen tab = (tab == TABLE_OF_LISTS) || ((tab == TABLE_OF_SLICES) || ((tab == TABLE_OF_DROPPED) || (tab == TABLE_OF_DEAD)))

or_then : (a b : Bool) (P : Type 0) → (a || b) ≡ true → (a ≡ true → P) → (b ≡ true → P) → P
or_then true b P e f g = f refl
or_then false b P e f g = g e

pub unseen : (q : RowKey) → IsTrue (is_unseen q.tab) → IsUnseen q
unseen q is =
    let t = q.tab in
    or_then (t == 4) ((t == 5) || ((t == 8) || (t == 9))) (IsUnseen q) is
    (λ e. unseen_tab q 4 (eqb-true t 4 e) (λ a b. record {
      setting = refl;
      counters = refl;
      node = refl;
      entry = refl;
      session = refl;
      pair = refl;
    })) λ is5.
    or_then (t == 5) ((t == 8) || (t == 9)) (IsUnseen q) is5 (λ e. unseen_tab q 5 (eqb-true t 5 e)
    (λ a b. record { setting = refl; counters = refl; node = refl; entry = refl; session = refl; pair = refl })) λ is8.
    or_then (t == 8) (t == 9) (IsUnseen q) is8 (λ e. unseen_tab q 8 (eqb-true t 8 e)
    (λ a b. record { setting = refl; counters = refl; node = refl; entry = refl; session = refl; pair = refl })) λ is9.
    unseen_tab q 9 (eqb-true t 9 is9) (λ a b. record { setting = refl; counters = refl; node = refl; entry = refl; session = refl; pair = refl })

-- a put or a delete in the tables of lists, slices, dropped files and dead slices
pub tree_of-insert-unseen : (bytes : ℕ → ℕ → ℕ) (rows : Rows) (q : RowKey) (cell : Cell) → IsTrue (is_unseen q.tab)
    → tree_of bytes (insert rows q cell) ≡ tree_of bytes rows
tree_of-insert-unseen bytes rows q cell is = tree_of-unseen rows q (Some cell) bytes (unseen q is)

-- ---- one law for each table that the tree has

-- a node of the row of an inode
abbrev pub node_in_cell : (ℕ → ℕ) → Option Cell → Option Node
node_in_cell byte cell = option_map (node_of_row byte) (node_in (row_in cell))

pub tree_of-alter-node : (bytes : ℕ → ℕ → ℕ) (rows : Rows) (inode : ℕ) (cell : Option Cell)
    → tree_of bytes (alter rows (node_key inode) cell) ≡ record (tree_of bytes rows) {
      nodes = alter (tree_of bytes rows).nodes inode
          (node_in_cell (bytes inode) cell);
    }
unfolding tree_of nodes_of
tree_of-alter-node bytes rows inode cell =
    let q = node_key inode in
    let nodes = selected-alter number_key (number_of_key TABLE_OF_NODES) (number_place TABLE_OF_NODES) (number_table TABLE_OF_NODES) (λ i row. option_map (node_of_row (bytes i)) (node_in row))
    (λ i. refl) rows q cell inode refl in
    λ i. record {
      setting = setting_kept rows q cell refl i;
      nodes = nodes i;
      entries = entries_kept rows q cell refl i;
      sessions = sessions_kept rows q cell refl i;
      sustained = sustained_kept rows q cell refl i;
      next_inode = (counters_kept rows q cell refl i).inode;
      next_session = (counters_kept rows q cell refl i).session;
    }

pub tree_of-put_node : (bytes : ℕ → ℕ → ℕ) (rows : Rows) (inode : ℕ) (n : NodeRow)
    → tree_of bytes (insert rows (node_key inode) (Ok (OfNode n))) ≡ put_node (tree_of bytes rows) inode (node_of_row (bytes inode) n)
tree_of-put_node bytes rows inode n = tree_of-alter-node bytes rows inode (Some (Ok (OfNode n)))

pub tree_of-drop_node : (bytes : ℕ → ℕ → ℕ) (rows : Rows) (inode : ℕ) → tree_of bytes (remove rows (node_key inode)) ≡ drop_node (tree_of bytes rows) inode
tree_of-drop_node bytes rows inode = tree_of-alter-node bytes rows inode None

-- the inode of an edge
abbrev pub inode_in_cell : Option Cell → Option ℕ
inode_in_cell cell = option_map (λ edge. edge.inode) (edge_in (row_in cell))

pub tree_of-alter-edge : (bytes : ℕ → ℕ → ℕ) (rows : Rows) (dir : ℕ) (name : List ℕ) (cell : Option Cell)
    → tree_of bytes (alter rows (edge_key dir name) cell)
    ≡ record (tree_of bytes rows) { entries = alter (tree_of bytes rows).entries (record { dir = dir; name = name }) (inode_in_cell cell) }
unfolding tree_of entries_of_rows
tree_of-alter-edge bytes rows dir name cell =
    let q = edge_key dir name in
    let entries = selected-alter entry_key entry_of_key entry_place entry_table (λ at row. option_map (λ edge. edge.inode) (edge_in row))
    (λ at. refl) rows q cell (record { dir = dir; name = name }) refl in
    λ i. record {
      setting = setting_kept rows q cell refl i;
      nodes = nodes_kept rows q cell bytes refl i;
      entries = entries i;
      sessions = sessions_kept rows q cell refl i;
      sustained = sustained_kept rows q cell refl i;
      next_inode = (counters_kept rows q cell refl i).inode;
      next_session = (counters_kept rows q cell refl i).session;
    }

pub tree_of-put_edge : (bytes : ℕ → ℕ → ℕ) (rows : Rows) (dir : ℕ) (name : List ℕ) (edge : Edge)
    → tree_of bytes (insert rows (edge_key dir name) (Ok (OfEdge edge)))
    ≡ record (tree_of bytes rows) { entries = insert (tree_of bytes rows).entries (record { dir = dir; name = name }) edge.inode }
tree_of-put_edge bytes rows dir name edge = tree_of-alter-edge bytes rows dir name (Some (Ok (OfEdge edge)))

pub tree_of-drop_edge : (bytes : ℕ → ℕ → ℕ) (rows : Rows) (dir : ℕ) (name : List ℕ)
    → tree_of bytes (remove rows (edge_key dir name)) ≡ record (tree_of bytes rows) {
      entries = remove (tree_of bytes rows).entries
          (record { dir = dir; name = name });
    }
tree_of-drop_edge bytes rows dir name = tree_of-alter-edge bytes rows dir name None

-- the session of a row
abbrev pub session_in_cell : Option Cell → Option SessionEntry
session_in_cell cell = option_map session_of_row (session_in (row_in cell))

pub tree_of-alter-session : (bytes : ℕ → ℕ → ℕ) (rows : Rows) (sid : ℕ) (cell : Option Cell)
    → tree_of bytes (alter rows (session_key sid) cell)
    ≡ record (tree_of bytes rows) { sessions = alter (tree_of bytes rows).sessions sid (session_in_cell cell) }
unfolding tree_of sessions_of
tree_of-alter-session bytes rows sid cell =
    let q = session_key sid in
    let sessions = selected-alter number_key (number_of_key TABLE_OF_SESSIONS) (number_place TABLE_OF_SESSIONS) (number_table TABLE_OF_SESSIONS) (λ sid row. option_map session_of_row (session_in row))
    (λ sid. refl) rows q cell sid refl in
    λ i. record {
      setting = setting_kept rows q cell refl i;
      nodes = nodes_kept rows q cell bytes refl i;
      entries = entries_kept rows q cell refl i;
      sessions = sessions i;
      sustained = sustained_kept rows q cell refl i;
      next_inode = (counters_kept rows q cell refl i).inode;
      next_session = (counters_kept rows q cell refl i).session;
    }

pub tree_of-put_session : (bytes : ℕ → ℕ → ℕ) (rows : Rows) (sid : ℕ) (session : Session)
    → tree_of bytes (insert rows (session_key sid) (Ok (OfSession session)))
    ≡ record (tree_of bytes rows) { sessions = insert (tree_of bytes rows).sessions sid (session_of_row session) }
tree_of-put_session bytes rows sid session = tree_of-alter-session bytes rows sid (Some (Ok (OfSession session)))

pub tree_of-drop_session : (bytes : ℕ → ℕ → ℕ) (rows : Rows) (sid : ℕ)
    → tree_of bytes (remove rows (session_key sid)) ≡ record (tree_of bytes rows) { sessions = remove (tree_of bytes rows).sessions sid }
tree_of-drop_session bytes rows sid = tree_of-alter-session bytes rows sid None

-- whether a row says that a file is sustained
abbrev pub pair_in_cell : Option Cell → Option (Unit {0})
pair_in_cell cell = (if sustained_in (row_in cell) then Some tt else None)

pub tree_of-alter-sustained : (bytes : ℕ → ℕ → ℕ) (rows : Rows) (sid inode : ℕ) (cell : Option Cell) → inode < 2 ^ 64
    → tree_of bytes (alter rows (sustained_key sid inode) cell)
    ≡ record (tree_of bytes rows) { sustained = alter (tree_of bytes rows).sustained (record { sid = sid; inode = inode }) (pair_in_cell cell) }
unfolding tree_of sustained_of_rows
tree_of-alter-sustained bytes rows sid inode cell less =
    let q = sustained_key sid inode in
    let sustained = selected-alter pair_key pair_of_key pair_place pair_table (λ pair row. unit_if (sustained_in row)) (λ pair. refl) rows q cell
    (record { sid = sid; inode = inode }) (pair_of_key-here sid inode less) in
    λ i. record {
      setting = setting_kept rows q cell refl i;
      nodes = nodes_kept rows q cell bytes refl i;
      entries = entries_kept rows q cell refl i;
      sessions = sessions_kept rows q cell refl i;
      sustained = sustained i;
      next_inode = (counters_kept rows q cell refl i).inode;
      next_session = (counters_kept rows q cell refl i).session;
    }

pub tree_of-put_sustained : (bytes : ℕ → ℕ → ℕ) (rows : Rows) (sid inode : ℕ) → inode < 2 ^ 64
    → tree_of bytes (insert rows (sustained_key sid inode) (Ok OfSustained))
    ≡ record (tree_of bytes rows) { sustained = insert (tree_of bytes rows).sustained (record { sid = sid; inode = inode }) tt }
tree_of-put_sustained bytes rows sid inode less = tree_of-alter-sustained bytes rows sid inode (Some (Ok OfSustained)) less

pub tree_of-drop_sustained : (bytes : ℕ → ℕ → ℕ) (rows : Rows) (sid inode : ℕ) → inode < 2 ^ 64
    → tree_of bytes (remove rows (sustained_key sid inode))
    ≡ record (tree_of bytes rows) { sustained = remove (tree_of bytes rows).sustained (record { sid = sid; inode = inode }) }
tree_of-drop_sustained bytes rows sid inode less = tree_of-alter-sustained bytes rows sid inode None less

-- the counters have the next inode and the next session
pub tree_of-put_counters : (bytes : ℕ → ℕ → ℕ) (rows : Rows) (counters : Counters)
    → tree_of bytes (insert rows counters_key (Ok (OfCounters counters)))
    ≡ record (tree_of bytes rows) { next_inode = counters.inode; next_session = counters.session }
unfolding tree_of
tree_of-put_counters bytes rows counters =
    let q = counters_key in
    let cell : Option Cell = Some (Ok (OfCounters counters)) in
    let new : counters_of_rows (insert rows q (Ok (OfCounters counters)))
    ≡ counters = ap (λ c. or_no_counters (counters_in (row_in c))) (get-alter-here row_key rows q cell) in
    λ i. record {
      setting = setting_kept rows q cell refl i;
      nodes = nodes_kept rows q cell bytes refl i;
      entries = entries_kept rows q cell refl i;
      sessions = sessions_kept rows q cell refl i;
      sustained = sustained_kept rows q cell refl i;
      next_inode = (new i).inode;
      next_session = (new i).session;
    }

pub tree_of-put_setting : (bytes : ℕ → ℕ → ℕ) (rows : Rows) (setting : Setting)
    → tree_of bytes (insert rows setting_key (Ok (OfSetting setting))) ≡ record (tree_of bytes rows) { setting = setting }
unfolding tree_of
tree_of-put_setting bytes rows setting =
    let q = setting_key in
    let cell : Option Cell = Some (Ok (OfSetting setting)) in
    let new : or_no_setting (setting_at (insert rows q (Ok (OfSetting setting))))
    ≡ setting = ap (λ c. or_no_setting (setting_in (row_in c))) (get-alter-here row_key rows q cell) in
    λ i. record {
      setting = new i;
      nodes = nodes_kept rows q cell bytes refl i;
      entries = entries_kept rows q cell refl i;
      sessions = sessions_kept rows q cell refl i;
      sustained = sustained_kept rows q cell refl i;
      next_inode = (counters_kept rows q cell refl i).inode;
      next_session = (counters_kept rows q cell refl i).session;
    }
