-- What stored rows say of their tree, and that the bytes of files say nothing of its counts, its sums and its shape.
use Rattle.std.proofs.Common.{◌≡◌, ℕ, ◌+◌, ◌<◌, ◌≤◌, ◌^◌, Bool, true, false, ◌&&◌, List, Option, None, Some, Ok, Err, refl, sym, ap, subst, ◌∙◌, arith, true≢false}
use Rattle.std.proofs.lemmas.Option.{same_Some}
use Rattle.std.specs.Prelude.{◌==◌, is_some, if◌then◌else◌}
use Rattle.std.specs.Option.{option_map}
use Rattle.jv_model.specs.declared.row.RowKey.{RowKey}
use Rattle.jv_model.specs.declared.row.Counters.{Counters}
use Rattle.jv_model.specs.declared.row.Node.{Node as NodeRow}
use Rattle.jv_model.specs.declared.row.Edge.{Edge}
use Rattle.jv_model.specs.declared.row.Session.{Session}
use Rattle.jv_model.specs.declared.setting.Setting.{Setting}
use Rattle.jv_model.specs.declared.row.Row.TheVariants.{OfSetting, OfCounters, OfNode, OfEdge, OfSession, OfSustained}
use Rattle.jv_model.specs.promise.FiniteMap.{Map, number_key, get, sum_over}
use Rattle.jv_model.specs.promise.rows.RowPlaces.{node_key, edge_key, session_key, sustained_key}
use Rattle.jv_model.specs.promise.tree.Tree.{Tree, Node, Kind, File, Directory, Symlink, EntryKey, entry_key, SessionEntry, node_at, node_space, node_count, used_space, used_inodes, link_count, parent_of, parent_at, target_at, content_in, content_at, is_directory, is_sustained, target_in}
use Rattle.jv_model.specs.promise.tree.Changes.{content_of}
use Rattle.jv_volume.specs.promise.TypedRows.{Cell, Rows}
use Rattle.jv_volume.specs.promise.Views.{row_in, setting_in, setting_at, counters_in, counters_at, node_in, node_row_at, edge_in, session_in, sustained_in}
use Rattle.jv_volume.specs.Views.{edge_at, session_at, sustained_at}
use Rattle.jv_volume.specs.promise.TreeOf.{node_of_row, session_of_row, tree_of}
use Rattle.jv_volume.specs.promise.Shape.{form_of, shape_of, WholeShape}
use Rattle.jv_volume.specs.promise.Stored.{Stored, kind_number, node_row, number_of_node, edge_row, session_row, counters_row}
use Rattle.jv_volume.specs.promise.Whole.{Whole, no_bytes}
use Rattle.jv_volume.proofs.maps.MapLaws.{sum-alike}
use Rattle.jv_volume.proofs.stored.TreeOfLaws.{node_at-tree_of, get-entries, get-sessions}

-- ---- the bytes of files

-- a node by the tests of its row's kind
abbrev kind_by : Bool → Bool → (ℕ → ℕ) → NodeRow → Kind
kind_by file dir byte row = (if file then File (content_of row.length byte) else if dir then Directory row.parent else Symlink row.target)

abbrev node_by : Bool → Bool → (ℕ → ℕ) → NodeRow → Node
node_by file dir byte row = record { kind = kind_by file dir byte row; mode = row.mode; uid = row.uid; gid = row.gid; mtime = row.mtime; ctime = row.ctime }

-- what stands at the key of a node
abbrev stored_node : ℕ → Node → Cell
stored_node links node = Ok (OfNode (node_row links node))

-- something that is seen of a node without the bytes of a file
abbrev pub SeesNoBytes : {A : Type 0} → (Option Node → A) → Type 0
SeesNoBytes seen = (file dir : Bool) (byte other : ℕ → ℕ) (row : NodeRow) → seen (Some (node_by file dir byte row)) ≡ seen (Some (node_by file dir other row))

seen_alike : {A : Type 0} (seen : Option Node → A) → SeesNoBytes seen → (row : Option NodeRow) (byte other : ℕ → ℕ)
    → seen (option_map (node_of_row byte) row) ≡ seen (option_map (node_of_row other) row)
seen_alike seen alike None byte other = refl
seen_alike seen alike (Some row) byte other = alike (row.kind == 1) (row.kind == 2) byte other row

module _ (bytes others : ℕ → ℕ → ℕ) (rows : Rows) where
  -- what is seen without bytes is the same whatever the bytes are
  pub same_seen : {A : Type 0} (seen : Option Node → A) → SeesNoBytes seen → (inode : ℕ)
      → seen (node_at (tree_of bytes rows) inode) ≡ seen (node_at (tree_of others rows) inode)
  same_seen seen alike inode =
      ap seen (node_at-tree_of bytes rows inode) ∙ seen_alike seen alike (node_row_at rows inode) (bytes inode) (others inode)
      ∙ sym (ap seen (node_at-tree_of others rows inode))

parent_seen : SeesNoBytes parent_of
parent_seen true dir byte other row = refl
parent_seen false true byte other row = refl
parent_seen false false byte other row = refl

form_seen : SeesNoBytes form_of
form_seen true dir byte other row = refl
form_seen false true byte other row = refl
form_seen false false byte other row = refl

number_seen : SeesNoBytes number_of_node
number_seen true dir byte other row = refl
number_seen false true byte other row = refl
number_seen false false byte other row = refl

cell_seen : (links : ℕ) → SeesNoBytes (option_map (λ node. stored_node links node))
cell_seen links true dir byte other row = refl
cell_seen links false true byte other row = refl
cell_seen links false false byte other row = refl

space_seen : (inode : ℕ) → SeesNoBytes (option_map (node_space inode))
space_seen inode true dir byte other row = refl
space_seen inode false true byte other row = refl
space_seen inode false false byte other row = refl

-- the link count of an inode by the parents of directories
abbrev links_by : (ℕ → Option ℕ) → Map entry_key ℕ → ℕ → ℕ
links_by parents entries inode = (if is_some (parents inode) then 2 + sum_over
    (λ (key : EntryKey) named. if key.dir == inode && is_some (parents named) then 1 else 0) entries
    else sum_over (λ key named. if named == inode then 1 else 0) entries)

module _ (bytes others : ℕ → ℕ → ℕ) (rows : Rows) where
  same_entries : (tree_of bytes rows).entries ≡ (tree_of others rows).entries
  unfolding tree_of
  same_entries = refl

  same_setting : (tree_of bytes rows).setting ≡ (tree_of others rows).setting
  unfolding tree_of
  same_setting = refl

  same_sessions : (tree_of bytes rows).sessions ≡ (tree_of others rows).sessions
  unfolding tree_of
  same_sessions = refl

  same_in_session : (sid : ℕ) → is_some (get (tree_of bytes rows).sessions sid) ≡ is_some (get (tree_of others rows).sessions sid)
  same_in_session sid = ap (λ m. is_some (get m sid)) same_sessions

  same_sustained : (tree_of bytes rows).sustained ≡ (tree_of others rows).sustained
  unfolding tree_of
  same_sustained = refl

  same_next_inode : (tree_of bytes rows).next_inode ≡ (tree_of others rows).next_inode
  unfolding tree_of
  same_next_inode = refl

  same_next_session : (tree_of bytes rows).next_session ≡ (tree_of others rows).next_session
  unfolding tree_of
  same_next_session = refl

  pub same_parents : (inode : ℕ) → parent_at (tree_of bytes rows) inode ≡ parent_at (tree_of others rows) inode
  same_parents inode = same_seen bytes others rows parent_of parent_seen inode

  pub same_link_count : (inode : ℕ) → link_count (tree_of bytes rows) inode ≡ link_count (tree_of others rows) inode
  same_link_count inode = λ i. links_by (λ k. same_parents k i) (same_entries i) inode

  pub same_used_space : used_space (tree_of bytes rows) ≡ used_space (tree_of others rows)
  same_used_space =
      sum-alike number_key node_space node_space (tree_of bytes rows).nodes (tree_of others rows).nodes
      (λ k. same_seen bytes others rows (option_map (node_space k)) (space_seen k) k)

  pub same_used_inodes : used_inodes (tree_of bytes rows) ≡ used_inodes (tree_of others rows)
  same_used_inodes =
      sum-alike number_key node_count node_count (tree_of bytes rows).nodes (tree_of others rows).nodes
      (λ k. same_seen bytes others rows (option_map (node_count k)) (λ file dir byte other row. refl) k)

  pub same_shape : shape_of (tree_of bytes rows) ≡ shape_of (tree_of others rows)
  same_shape = λ i. record {
    form = λ inode. same_seen bytes others rows form_of form_seen inode i;
    entries = same_entries i;
    in_session = λ sid. same_in_session sid i;
    sustained = same_sustained i;
    next_inode = same_next_inode i;
    next_session = same_next_session i;
  }

  -- rows are those of their tree whatever the bytes are
  pub stored-again : Stored rows (tree_of bytes rows) → Stored rows (tree_of others rows)
  stored-again s = record {
    slice = s.slice;
    setting = s.setting ∙ ap (λ x. Some (Ok (OfSetting x))) same_setting;
    counters = s.counters ∙ (λ i. Some (Ok (OfCounters (record {
      inode = same_next_inode i;
      slice = s.slice;
      session = same_next_session i;
      used_space = same_used_space i;
      used_inodes = same_used_inodes i;
    }))));
    node = λ inode. s.node inode ∙ ap (λ links. option_map (λ node. stored_node links node) (node_at (tree_of bytes rows) inode)) (same_link_count inode)
        ∙ same_seen bytes others rows (option_map (stored_node (link_count (tree_of others rows) inode)))
        (cell_seen (link_count (tree_of others rows) inode)) inode;
    edge = λ at. s.edge at ∙ (λ i. option_map (λ inode. Ok (OfEdge
        (record { kind = same_seen bytes others rows number_of_node number_seen inode i; inode = inode }))) (get (same_entries i) at));
    session = λ sid. s.session sid ∙ ap (λ m. option_map (λ entry. Ok (OfSession (session_row entry))) (get m sid)) same_sessions;
    sustained = λ sid inode less. s.sustained sid inode less
        ∙ ap (λ m. option_map (λ unit. Ok OfSustained) (get m (record { sid = sid; inode = inode }))) same_sustained;
  }

-- ---- whole rows

-- whole rows are those of their tree, whatever the bytes are
pub whole-stored : (bytes : ℕ → ℕ → ℕ) (rows : Rows) → Whole rows → Stored rows (tree_of bytes rows)
whole-stored bytes rows whole = stored-again no_bytes bytes rows whole.stored

-- and their tree is whole
pub whole-shape : (bytes : ℕ → ℕ → ℕ) (rows : Rows) → Whole rows → WholeShape (shape_of (tree_of bytes rows))
whole-shape bytes rows whole = subst WholeShape (same_shape no_bytes bytes rows) whole.tree

-- nothing in whole rows is malformed
pub whole-typed : (rows : Rows) (key : RowKey) (bytes : List ℕ) → Whole rows → get rows key ≡ Some (Err bytes) → ⊥
whole-typed rows key bytes whole there = absurd (true≢false (sym (whole.cells key (Err bytes) there).cell_is))

-- ---- rows of the tree

-- cells of rows

abbrev pub of_node : NodeRow → Cell
of_node row = Ok (OfNode row)

abbrev pub of_edge : Edge → Cell
of_edge edge = Ok (OfEdge edge)

abbrev pub of_session : Session → Cell
of_session session = Ok (OfSession session)

abbrev pub of_counters : Counters → Cell
of_counters counters = Ok (OfCounters counters)

abbrev kept_cell : Bool → Option Cell
kept_cell kept = (if kept then Some (Ok OfSustained) else None)

kept_is : (unit : Option (Unit {0})) → option_map (λ u. (let kept : Cell = Ok OfSustained in kept)) unit ≡ kept_cell (is_some unit)
kept_is None = refl
kept_is (Some unit) = refl

then_map : {A B C : Type 0} (f : A → B) (g : B → C) (o : Option A) → option_map (λ x. g (f x)) o ≡ option_map g (option_map f o)
then_map f g None = refl
then_map f g (Some x) = refl

module _ (rows : Rows) (t : Tree) (s : Stored rows t) where
  -- the row of an inode is that of its node
  pub stored_node_row : (inode : ℕ) → node_row_at rows inode ≡ option_map (node_row (link_count t inode)) (node_at t inode)
  stored_node_row inode = ap (λ cell. node_in (row_in cell)) (s.node inode) ∙ read (node_at t inode)
    where
      read : (node : Option Node) → node_in (row_in (option_map (λ x. Ok (OfNode (node_row (link_count t inode) x))) node))
          ≡ option_map (node_row (link_count t inode)) node
      read None = refl
      read (Some node) = refl

  -- the row of an entry is that of its inode
  pub stored_edge : (at : EntryKey) → edge_at rows at.dir at.name ≡ option_map (edge_row t) (get t.entries at)
  stored_edge at = ap (λ cell. edge_in (row_in cell)) (s.edge at) ∙ read (get t.entries at)
    where
      read : (inode : Option ℕ) → edge_in (row_in (option_map (λ x. Ok (OfEdge (edge_row t x))) inode)) ≡ option_map (edge_row t) inode
      read None = refl
      read (Some inode) = refl

  pub stored_session : (sid : ℕ) → session_at rows sid ≡ option_map session_row (get t.sessions sid)
  stored_session sid = ap (λ cell. session_in (row_in cell)) (s.session sid) ∙ read (get t.sessions sid)
    where
      read : (entry : Option SessionEntry) → session_in (row_in (option_map (λ x. Ok (OfSession (session_row x))) entry)) ≡ option_map session_row entry
      read None = refl
      read (Some entry) = refl

  pub stored_sustained : (sid inode : ℕ) → inode < 2 ^ 64 → sustained_at rows sid inode ≡ is_sustained t sid inode
  stored_sustained sid inode less = ap (λ cell. sustained_in (row_in cell)) (s.sustained sid inode less)
      ∙ read (get t.sustained (record { sid = sid; inode = inode }))
    where
      read : (unit : Option (Unit {0})) → sustained_in (row_in (option_map (λ x. Ok OfSustained) unit)) ≡ is_some unit
      read None = refl
      read (Some unit) = refl

  pub stored_setting : setting_at rows ≡ Some t.setting
  stored_setting = ap (λ cell. setting_in (row_in cell)) s.setting

  pub stored_counters : counters_at rows ≡ Some (counters_row t s.slice)
  stored_counters = ap (λ cell. counters_in (row_in cell)) s.counters

  -- what stands at a node's key is a node's row or nothing, and so for the other tables
  pub node_stands : (inode : ℕ) → get rows (node_key inode) ≡ option_map of_node (node_row_at rows inode)
  node_stands inode = s.node inode ∙ then_map (node_row (link_count t inode)) of_node (node_at t inode) ∙ ap (option_map of_node) (sym (stored_node_row inode))

  pub edge_stands : (at : EntryKey) → get rows (edge_key at.dir at.name) ≡ option_map of_edge (edge_at rows at.dir at.name)
  edge_stands at = s.edge at ∙ then_map (edge_row t) of_edge (get t.entries at) ∙ ap (option_map of_edge) (sym (stored_edge at))

  pub session_stands : (sid : ℕ) → get rows (session_key sid) ≡ option_map of_session (session_at rows sid)
  session_stands sid = s.session sid ∙ then_map session_row of_session (get t.sessions sid) ∙ ap (option_map of_session) (sym (stored_session sid))

  pub sustained_stands : (sid inode : ℕ) → inode < 2 ^ 64
      → get rows (sustained_key sid inode) ≡ (if sustained_at rows sid inode then Some (Ok OfSustained) else None)
  sustained_stands sid inode less = s.sustained sid inode less ∙ kept_is (get t.sustained (record { sid = sid; inode = inode }))
      ∙ ap kept_cell (sym (stored_sustained sid inode less))

-- ---- what was read

-- The kind of a node of a row, by the row's number.
pub record HasKind (node : Option Node) (row : NodeRow) (byte : ℕ → ℕ) : Type 0 where
  pub low : 1 ≤ row.kind
  pub high : row.kind ≤ 3
  pub directory : is_some (parent_of node) ≡ (row.kind == 2)
  pub parent : parent_of node ≡ (if row.kind == 2 then Some row.parent else None)
  pub target : target_in node ≡ (if row.kind == 3 then Some row.target else None)
  pub content : content_in node ≡ (if row.kind == 1 then Some (content_of row.length byte) else None)

has_kind : (file dir : Bool) (row : NodeRow) (byte : ℕ → ℕ) → row.kind ≡ kind_number (kind_by file dir byte row)
    → HasKind (Some (node_by file dir byte row)) row byte
has_kind true dir row byte e = record {
  low = omega (arith, e);
  high = omega (arith, e);
  directory = ap (λ k. k == 2) (sym e);
  parent = ap (λ k. if k == 2 then Some row.parent else None) (sym e);
  target = ap (λ k. if k == 3 then Some row.target else None) (sym e);
  content = ap (λ k. if k == 1 then Some (content_of row.length byte) else None) (sym e);
}
has_kind false true row byte e = record {
  low = omega (arith, e);
  high = omega (arith, e);
  directory = ap (λ k. k == 2) (sym e);
  parent = ap (λ k. if k == 2 then Some row.parent else None) (sym e);
  target = ap (λ k. if k == 3 then Some row.target else None) (sym e);
  content = ap (λ k. if k == 1 then Some (content_of row.length byte) else None) (sym e);
}
has_kind false false row byte e = record {
  low = omega (arith, e);
  high = omega (arith, e);
  directory = ap (λ k. k == 2) (sym e);
  parent = ap (λ k. if k == 2 then Some row.parent else None) (sym e);
  target = ap (λ k. if k == 3 then Some row.target else None) (sym e);
  content = ap (λ k. if k == 1 then Some (content_of row.length byte) else None) (sym e);
}

-- The node of a row that was read at an inode.
pub record HasNode (t : Tree) (inode : ℕ) (row : NodeRow) (byte : ℕ → ℕ) : Type 0 where
  pub there : node_at t inode ≡ Some (node_of_row byte row)
  pub row_is : row ≡ node_row (link_count t inode) (node_of_row byte row)
  pub links : row.nlink ≡ link_count t inode
  pub low : 1 ≤ row.kind
  pub high : row.kind ≤ 3
  pub directory : is_directory t inode ≡ (row.kind == 2)
  pub parent : parent_at t inode ≡ (if row.kind == 2 then Some row.parent else None)
  pub target : target_at t inode ≡ (if row.kind == 3 then Some row.target else None)
  pub content : content_at t inode ≡ (if row.kind == 1 then Some (content_of row.length byte) else None)

-- The inode of an edge that was read at an entry's place.
pub record HasEntry (t : Tree) (at : EntryKey) (edge : Edge) : Type 0 where
  pub there : get t.entries at ≡ Some edge.inode
  pub kind : edge.kind ≡ number_of_node (node_at t edge.inode)
  pub directory : is_directory t edge.inode ≡ (edge.kind == 2)

-- Counters that were read.
pub record HasCounters (t : Tree) (counters : Counters) : Type 0 where
  pub next_inode : t.next_inode ≡ counters.inode
  pub next_session : t.next_session ≡ counters.session
  pub space : used_space t ≡ counters.used_space
  pub inodes : used_inodes t ≡ counters.used_inodes

-- directories have the number 2
pub directory_number : (node : Option Node) → is_some (parent_of node) ≡ (number_of_node node == 2)
directory_number None = refl
directory_number (Some node) = by_kind node.kind
  where
    by_kind : (kind : Kind) → is_some (elim kind [ File content ↦ None | Directory parent ↦ Some parent | Symlink target ↦ None ]) ≡ (kind_number kind == 2)
    by_kind (File content) = refl
    by_kind (Directory parent) = refl
    by_kind (Symlink target) = refl

module _ (bytes : ℕ → ℕ → ℕ) (rows : Rows) (s : Stored rows (tree_of bytes rows)) where
  pub found_node : (inode : ℕ) (row : NodeRow) → node_row_at rows inode ≡ Some row → HasNode (tree_of bytes rows) inode row (bytes inode)
  found_node inode row e =
      let t = tree_of bytes rows in
      let node = node_of_row (bytes inode) row in
      let there : node_at t inode ≡ Some node = node_at-tree_of bytes rows inode ∙ ap (option_map (node_of_row (bytes inode))) e in
      let row_is : row ≡ node_row (link_count t inode) node = same_Some _ _ (sym e ∙ stored_node_row rows t s inode
      ∙ ap (option_map (node_row (link_count t inode))) there) in
      let kind : HasKind (node_at t inode) row (bytes inode) =
      subst (λ o. HasKind o row (bytes inode)) (sym there) (has_kind (row.kind == 1) (row.kind == 2) row (bytes inode) (ap (λ r. r.kind) row_is)) in
      record {
        there = there;
        row_is = row_is;
        links = ap (λ r. r.nlink) row_is;
        low = kind.low;
        high = kind.high;
        directory = kind.directory;
        parent = kind.parent;
        target = kind.target;
        content = kind.content;
      }

  pub found_entry : (at : EntryKey) (edge : Edge) → edge_at rows at.dir at.name ≡ Some edge → HasEntry (tree_of bytes rows) at edge
  found_entry at edge e =
      let t = tree_of bytes rows in
      let there : get t.entries at ≡ Some edge.inode = get-entries bytes rows at ∙ ap (option_map (λ edge. edge.inode)) e in
      let edge_is : edge ≡ edge_row t edge.inode = same_Some _ _ (sym e ∙ stored_edge rows t s at ∙ ap (option_map (edge_row t)) there) in
      let kind : edge.kind ≡ number_of_node (node_at t edge.inode) = ap (λ x. x.kind) edge_is in
      record { there = there; kind = kind; directory = directory_number (node_at t edge.inode) ∙ ap (λ k. k == 2) (sym kind) }

  pub found_counters : (counters : Counters) → counters_at rows ≡ Some counters → HasCounters (tree_of bytes rows) counters
  found_counters counters e =
      let is = same_Some _ _ (sym (stored_counters rows (tree_of bytes rows) s) ∙ e) in
      record {
        next_inode = ap (λ c. c.inode) is;
        next_session = ap (λ c. c.session) is;
        space = ap (λ c. c.used_space) is;
        inodes = ap
            (λ c. c.used_inodes) is;
      }

  pub found_setting : (setting : Setting) → setting_at rows ≡ Some setting → (tree_of bytes rows).setting ≡ setting
  found_setting setting e = same_Some _ _ (sym (stored_setting rows (tree_of bytes rows) s) ∙ e)

-- rows that were not read

pub no_node : (bytes : ℕ → ℕ → ℕ) (rows : Rows) (inode : ℕ) → node_row_at rows inode ≡ None → node_at (tree_of bytes rows) inode ≡ None
no_node bytes rows inode e = node_at-tree_of bytes rows inode ∙ ap (option_map (node_of_row (bytes inode))) e

pub no_entry : (bytes : ℕ → ℕ → ℕ) (rows : Rows) (at : EntryKey) → edge_at rows at.dir at.name ≡ None → get (tree_of bytes rows).entries at ≡ None
no_entry bytes rows at e = get-entries bytes rows at ∙ ap (option_map (λ edge. edge.inode)) e

pub found_session : (bytes : ℕ → ℕ → ℕ) (rows : Rows) (sid : ℕ) (session : Session) → session_at rows sid ≡ Some session
    → get (tree_of bytes rows).sessions sid ≡ Some (session_of_row session)
found_session bytes rows sid session e = get-sessions bytes rows sid ∙ ap (option_map session_of_row) e

pub no_session : (bytes : ℕ → ℕ → ℕ) (rows : Rows) (sid : ℕ) → session_at rows sid ≡ None → get (tree_of bytes rows).sessions sid ≡ None
no_session bytes rows sid e = get-sessions bytes rows sid ∙ ap (option_map session_of_row) e
