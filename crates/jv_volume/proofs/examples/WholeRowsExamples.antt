-- The rows of a volume with one file of ten bytes, written out, are whole.
use Rattle.std.specs.Prelude.{⊤, codes}
use Rattle.std.proofs.Common.{◌≡◌, ◌≢◌, ℕ, ◌/◌, ◌%◌, ◌^◌, ◌≤◌, ◌<◌, ◌==◌, cond, inl, inr, List, [], ◌∷◌, get_or, None, Some, Ok, refl, sym, ap, subst, ◌∙◌, arith}
use Rattle.std.specs.Prelude.{nat_le, nat_lt}
use Rattle.std.specs.Option.{option_map}
use Rattle.std.specs.List.{AllByRecursion}
use Rattle.std.proofs.lemmas.Option.{none-some, same_Some}
use Rattle.std.proofs.lemmas.Bool.{and_right, cond-true, cond-false, eq-eqb, ne_eqb, cases_eq, cases_lt, le-ltb, lt-ltb}
use Rattle.jv_model.specs.declared.limits.TheConstants.{WINDOW, FULL_MODE, READ_ONLY_MODE, ROOT, TRASH_ROOT}
use Rattle.jv_model.specs.declared.row.RowKey.{RowKey}
use Rattle.jv_model.specs.declared.row.Counters.{Counters}
use Rattle.jv_model.specs.declared.row.Node.{Node as NodeRow}
use Rattle.jv_model.specs.declared.row.Row.TheVariants.{OfSetting, OfCounters, OfNode, OfEdge, OfList, OfSlice, OfSession, OfSustained}
use Rattle.jv_model.specs.declared.row.SliceRow.{SliceRow}
use Rattle.jv_model.specs.declared.slice.Rec.{Rec}
use Rattle.jv_model.specs.declared.slice.Spot.TheVariants.{Zero}
use Rattle.jv_model.specs.promise.FiniteMap.{number_key, empty_map, get, insert, map_of}
use Rattle.jv_model.specs.promise.rows.RowKeys.{row_key}
use Rattle.jv_model.specs.promise.rows.RowPlaces.{setting_key, counters_key, node_key, edge_key, list_key, slice_key, session_key, sustained_key, dropped_key, dead_key}
use Rattle.jv_model.specs.promise.blocks.Slices.{IsRecord, place_by, stored_place}
use Rattle.jv_model.specs.promise.tree.Tree.{Tree, File, Directory, EntryKey, entry_key, pair_key, new_node, node_at, link_count}
use Rattle.jv_model.specs.tree.Tree.{fresh_tree}
use Rattle.jv_model.specs.promise.tree.Making.{with_next}
use Rattle.jv_model.proofs.FiniteMapLaws.{get-empty_map}
use Rattle.jv_model.proofs.TreeComputeLaws.{maps_compute}
use Rattle.jv_model.specs.promise.tree.Changes.{content_of}
use Rattle.jv_volume.specs.promise.TypedRows.{Cell, Rows}
use Rattle.jv_volume.specs.promise.Views.{row_in, node_in, records_in, slice_in, dropped_in, dead_in, lists_of, node_row_at, slice_row_at, dropped_at, dead_at}
use Rattle.jv_volume.specs.promise.TreeOf.{tree_of, selected, nodes_of, entries_of_rows, sessions_of, sustained_of_rows}
use Rattle.jv_volume.specs.promise.Shape.{WholeShape, shape_of}
use Rattle.jv_volume.specs.promise.Stored.{Stored, node_row, edge_row, session_row, counters_row}
use Rattle.jv_volume.specs.promise.Slices.{count_in, listed, ListsHave, HasLists, OfFile, named_by, place_in, slice_count, next_slice, WholeSlices, WholeFiles}
use Rattle.jv_volume.specs.promise.Whole.{IsRowAt, no_bytes, Whole}
use Rattle.jv_volume.proofs.shapes.ShapeMapLaws.{same_or_apart, get-insert_apart}
use Rattle.jv_volume.proofs.shapes.EnteredShapeLaws.{whole-with_next_file}
use Rattle.jv_volume.proofs.shapes.FreshShapeLaws.{whole-fresh_tree}
use Rattle.jv_volume.specs.promise.Fresh.{fresh_directory}
use Rattle.jv_volume.proofs.maps.WrittenRowsLaws.{none_at, rows_at}
use Rattle.jv_volume.proofs.examples.BrokenExamples.{plain}
use Rattle.jv_volume.proofs.stored.FilesLaws.{nothing_shows}

-- computes the tree of rows that are written out, and what their lists say
unfoldable pub rows_compute : ⊤
unfolding maps_compute tree_of selected nodes_of entries_of_rows sessions_of sustained_of_rows named_by place_in lists_of stored_place
rows_compute = tt

-- a volume with these counters and this root, and more rows
abbrev pub volume : Counters → NodeRow → List (RowKey × Cell) → Rows
volume counters top more = map_of (
    (setting_key, Ok (OfSetting plain))
    ∷ (counters_key, Ok (OfCounters counters))
    ∷ (node_key ROOT, Ok (OfNode top))
    ∷ (node_key TRASH_ROOT, Ok (OfNode (fresh_directory READ_ONLY_MODE 0)))
    ∷ more
    )

-- its root
abbrev pub top : NodeRow
top = fresh_directory FULL_MODE 0

-- the counters of a volume with one file of at most a unit of space, and one slice
abbrev pub one_file : Counters
one_file = record { inode = 3; slice = 2; session = 1; used_space = 4096; used_inodes = 1 }

-- a file of a length
abbrev pub file : ℕ → NodeRow
file length = record { kind = 1; mode = FULL_MODE; uid = 0; gid = 0; nlink = 1; mtime = 0; ctime = 0; length = length; parent = 0; target = [] }

-- the file's name
abbrev pub name : List ℕ
name = codes "a"

-- ten bytes of slice 1 at the start of a window
abbrev pub ten : Rec
ten = record { pos = 0; id = 1; size = 10; off = 0; len = 10 }

-- a file of a length, with ten bytes, and with how many records are said to name its slice
abbrev pub with_file : ℕ → ℕ → List (RowKey × Cell)
with_file length count =
    (node_key 2, Ok (OfNode (file length)))
    ∷ (edge_key ROOT name, Ok (OfEdge (record { kind = 1; inode = 2 })))
    ∷ (list_key 2 0, Ok (OfList (ten ∷ [])))
    ∷ (slice_key 1, Ok (OfSlice (record { size = 10; count = count })))
    ∷ []

-- the volume
abbrev rows : Rows
rows = volume one_file top (with_file 10 1)

abbrev place : EntryKey
place = record { dir = ROOT; name = name }

-- its tree
abbrev tree : Tree
tree = with_next (fresh_tree plain 0) 0 place (new_node (File (content_of 10 (no_bytes 2))) FULL_MODE 0)

tree_is : tree_of no_bytes rows ≡ tree
unfolding rows_compute
tree_is = refl

tree_whole : WholeShape (shape_of tree)
unfolding maps_compute
tree_whole = whole-with_next_file (fresh_tree plain 0) 0 place (whole-fresh_tree plain 0) refl refl refl (omega arith) (content_of 10 (no_bytes 2)) FULL_MODE

number : {j k : RowKey} → j ≡ k → j.a ≡ k.a
number e = ap (λ (k : RowKey). k.a) e

abbrev written : List (RowKey × Cell)
written =
    (setting_key, Ok (OfSetting plain))
    ∷ (counters_key, Ok (OfCounters one_file))
    ∷ (node_key ROOT, Ok (OfNode top))
    ∷ (node_key TRASH_ROOT, Ok (OfNode (fresh_directory READ_ONLY_MODE 0)))
    ∷ with_file 10 1

all_rows : (key : RowKey) (cell : Cell) → get rows key ≡ Some cell → IsRowAt key cell
all_rows key cell is = rows_at written refl key cell is

-- each table

no_node : (inode : ℕ) → inode ≢ ROOT → inode ≢ TRASH_ROOT → inode ≢ 2 → get rows (node_key inode) ≡ None
no_node inode a b c = none_at 2 (node_key inode) written refl ((λ e. a (number e)), ((λ e. b (number e)), ((λ e. c (number e)), tt)))

no_edge : (at : EntryKey) → at ≢ place → get rows (edge_key at.dir at.name) ≡ None
no_edge at apart = none_at 3 (edge_key at.dir at.name) written refl ((λ e. apart (ap (λ (k : RowKey). record { dir = k.a; name = k.b }) e)), tt)

no_list : (key : RowKey) → key.tab ≡ 4 → key ≢ list_key 2 0 → get rows key ≡ None
no_list key is apart = none_at 4 key written is (apart, tt)

no_slice : (id : ℕ) → id ≢ 1 → get rows (slice_key id) ≡ None
no_slice id apart = none_at 5 (slice_key id) written refl ((λ e. apart (number e)), tt)

no_dropped : (inode : ℕ) → dropped_at rows inode ≡ None
no_dropped inode = ap (λ o. dropped_in (row_in o)) (none_at 8 (dropped_key inode) written refl tt)

no_dead : (id : ℕ) → dead_at rows id ≡ None
no_dead id = ap (λ o. dead_in (row_in o)) (none_at 9 (dead_key id) written refl tt)

-- the rows are those of the tree

nodes_are : tree.nodes ≡ map_of ((TRASH_ROOT, new_node (Directory ROOT) READ_ONLY_MODE 0) ∷ (2, new_node (File (content_of 10 (no_bytes 2))) FULL_MODE 0) ∷
    (ROOT, new_node (Directory ROOT) FULL_MODE 0) ∷ [])
unfolding maps_compute
nodes_are = refl

no_tree_node : (inode : ℕ) → inode ≢ ROOT → inode ≢ TRASH_ROOT → inode ≢ 2 → node_at tree inode ≡ None
no_tree_node inode a b c = ap (λ m. get m inode) nodes_are ∙ get-insert_apart number_key _ TRASH_ROOT _ inode b ∙ get-insert_apart number_key _ 2 _ inode c
    ∙ get-insert_apart number_key empty_map ROOT _ inode a ∙ get-empty_map number_key inode

abbrev NodeIs : ℕ → Type 0
NodeIs inode = get rows (node_key inode) ≡ option_map (λ node. Ok (OfNode (node_row (link_count tree inode) node))) (node_at tree inode)

root_is : NodeIs ROOT
unfolding rows_compute
root_is = refl

trash_is : NodeIs TRASH_ROOT
unfolding rows_compute
trash_is = refl

file_is : NodeIs 2
unfolding rows_compute
file_is = refl

node_is : (inode : ℕ) → NodeIs inode
node_is inode = elim (cases_eq inode ROOT) [
  | inl e ↦ subst NodeIs (sym e) root_is
  | inr a ↦ elim (cases_eq inode TRASH_ROOT) [
    | inl e ↦ subst NodeIs (sym e) trash_is
    | inr b ↦ elim (cases_eq inode 2) [
      | inl e ↦ subst NodeIs (sym e) file_is
      | inr c ↦ no_node inode a b c ∙ sym (ap (option_map (λ node. Ok (OfNode (node_row (link_count tree inode) node)))) (no_tree_node inode a b c))
    ]
  ]
]

entries_are : tree.entries ≡ insert empty_map place 2
unfolding maps_compute
entries_are = refl

abbrev EdgeIs : EntryKey → Type 0
EdgeIs at = get rows (edge_key at.dir at.name) ≡ option_map (λ inode. Ok (OfEdge (edge_row tree inode))) (get tree.entries at)

place_is : EdgeIs place
unfolding rows_compute
place_is = refl

edge_is : (at : EntryKey) → EdgeIs at
edge_is at = elim (same_or_apart entry_key at place) [
  | inl e ↦ subst EdgeIs (sym e) place_is
  | inr apart ↦ no_edge at apart ∙ sym (ap (option_map (λ inode. Ok (OfEdge (edge_row tree inode))))
      (ap (λ m. get m at) entries_are ∙ get-insert_apart entry_key empty_map place 2 at apart ∙ get-empty_map entry_key at))
]

sessions_are : tree.sessions ≡ empty_map
unfolding maps_compute
sessions_are = refl

pairs_are : tree.sustained ≡ empty_map
unfolding maps_compute
pairs_are = refl

setting_is : get rows setting_key ≡ Some (Ok (OfSetting tree.setting))
unfolding rows_compute
setting_is = refl

counters_are : get rows counters_key ≡ Some (Ok (OfCounters (counters_row tree 2)))
unfolding rows_compute
counters_are = refl

stored : Stored rows tree
stored = record {
  slice = 2;
  setting = setting_is;
  counters = counters_are;
  node = node_is;
  edge = edge_is;
  session = λ sid. none_at 6 (session_key sid) written refl tt
      ∙ sym (ap (option_map (λ entry. Ok (OfSession (session_row entry)))) (ap (λ m. get m sid) sessions_are ∙ get-empty_map number_key sid));
  sustained = λ sid inode small. none_at 7 (sustained_key sid inode) written refl tt
      ∙ sym (ap (option_map (λ unit. Ok OfSustained)) (ap (λ m. get m (record { sid = sid; inode = inode })) pairs_are
      ∙ get-empty_map pair_key (record { sid = sid; inode = inode })));
}

-- its list and its slice

list_at : get rows (list_key 2 0) ≡ Some (Ok (OfList (ten ∷ [])))
unfolding rows_compute
list_at = refl

slice_at : slice_row_at rows 1 ≡ Some (record { size = 10; count = 1 })
unfolding rows_compute
slice_at = refl

next_is : next_slice rows ≡ 2
unfolding rows_compute
next_is = refl

nothing_listed : (key : RowKey) → key ≢ list_key 2 0 → listed key (get rows key) ≡ []
nothing_listed key apart = elim (cases_eq key.tab 4) [
  | inl e ↦ cond-true _ _ _ (eq-eqb key.tab 4 e) ∙ ap (λ o. records_in (row_in o)) (no_list key e apart)
  | inr other ↦ cond-false _ _ _ (ne_eqb key.tab 4 other)
]

ten_listed : listed (list_key 2 0) (get rows (list_key 2 0)) ≡ ten ∷ []
ten_listed = ap (λ o. records_in (row_in o)) list_at

lists_have : (P : Rec → Type 0) → P ten → ListsHave P rows
lists_have P is key = elim (same_or_apart row_key key (list_key 2 0)) [
  | inl e ↦ subst (λ k. AllByRecursion P (listed k (get rows k))) (sym e) (subst (AllByRecursion P) (sym ten_listed) (is, tt))
  | inr apart ↦ subst (AllByRecursion P) (sym (nothing_listed key apart)) tt
]

no_slice_row : (id : ℕ) → id ≢ 1 → slice_row_at rows id ≡ None
no_slice_row id apart = ap (λ o. slice_in (row_in o)) (no_slice id apart)

slice_is : (id : ℕ) (slice : SliceRow) → slice_row_at rows id ≡ Some slice → slice ≡ record { size = 10; count = 1 }
slice_is id slice is = elim (cases_eq id 1) [
  | inl e ↦ same_Some slice _ (sym is ∙ ap (slice_row_at rows) e ∙ slice_at)
  | inr apart ↦ absurd (none-some slice (sym (no_slice_row id apart) ∙ is))
]

named_none : (id : ℕ) → id ≢ 1 → named_by rows id ≡ 0
unfolding rows_compute
named_none id apart = let none : cond {A = ℕ} (1 == id) 1 0 ≡ 0 = cond-false _ _ _ (ne_eqb 1 id (λ e. apart (sym e))) in omega (arith, none)

named_one : named_by rows 1 ≡ 1
unfolding rows_compute
named_one = refl

slices : WholeSlices rows
slices = record {
  sizes = λ id. 10;
  records = lists_have IsRecord refl;
  sized = lists_have (λ r. r.id ≢ 0 → r.size ≡ 10) (λ some. refl);
  slice_size = λ id slice is.
      let size = ap (λ (x : SliceRow). x.size) (slice_is id slice is) in
      (size, omega (arith, size), omega (arith, size));
  exact = λ id some. elim (cases_eq id 1) [
    | inl e ↦ ap (slice_count rows) e ∙ ap count_in slice_at ∙ sym named_one ∙ ap (named_by rows) (sym e)
    | inr apart ↦ ap count_in (no_slice_row id apart) ∙ sym (named_none id apart)
  ];
  dead_size = λ id dead some is. absurd (none-some dead (sym (no_dead id) ∙ is));
  apart = λ id some is. absurd (is (no_dead id));
  below = λ id past.
      let apart : id ≢ 1 = λ e. omega (arith, e, past, next_is) in
      record { unnamed = named_none id apart; no_row = no_slice_row id apart; not_dead = no_dead id };
  none = no_slice_row 0 (λ e. omega (arith, e));
  slices_end = omega (arith, next_is);
}

-- its file

ten_shows : (p : ℕ) → 10 ≤ p → stored_place (ten ∷ []) p ≡ Zero
unfolding stored_place
ten_shows p past = ap (λ b. place_by (cond b (Some ten) None) p) (and_right (nat_le 0 p) (nat_lt p 10) (le-ltb p 10 past))

first_window : lists_of rows 2 0 ≡ ten ∷ []
unfolding rows_compute
first_window = refl

-- keys of other windows are others
word_apart : (window : ℕ) → window < 2 ^ 32 → window ≢ 0 → list_key 2 window ≢ list_key 2 0
word_apart window small apart e =
    let byte = λ (k : ℕ). ap (λ (x : RowKey). get_or x.b k 0) e in
    let a = byte 0 in
    let b = byte 1 in
    let c = byte 2 in
    let d = byte 3 in
    apart (omega (arith, a, b, c, d, small))

later_window : (window : ℕ) → window ≢ 0 → lists_of rows 2 window ≡ []
unfolding lists_of
later_window window apart = elim (cases_lt window (2 ^ 32)) [
  | inl small ↦ cond-true _ _ _ (lt-ltb window (2 ^ 32) small)
      ∙ ap (λ o. records_in (row_in o)) (no_list (list_key 2 window) refl (word_apart window small apart))
  | inr large ↦ cond-false _ _ _ (le-ltb window (2 ^ 32) large)
]

shows_zero : (position : ℕ) → 10 ≤ position → place_in (lists_of rows 2) position ≡ Zero
unfolding place_in
shows_zero position past = elim (cases_eq (position / WINDOW) 0) [
  | inl e ↦ ap (λ w. stored_place (lists_of rows 2 w) (position % WINDOW)) e ∙ ap (λ list. stored_place list (position % WINDOW)) first_window
      ∙ ten_shows (position % WINDOW) (omega (arith, e, past))
  | inr apart ↦ ap (λ list. stored_place list (position % WINDOW)) (later_window (position / WINDOW) apart) ∙ nothing_shows (position % WINDOW)
]

file_at : node_row_at rows 2 ≡ Some (file 10)
unfolding rows_compute
file_at = refl

root_at : node_row_at rows ROOT ≡ Some top
unfolding rows_compute
root_at = refl

trash_at : node_row_at rows TRASH_ROOT ≡ Some (fresh_directory READ_ONLY_MODE 0)
unfolding rows_compute
trash_at = refl

kind_of : (given node : NodeRow) (inode at : ℕ) → inode ≡ at → node_row_at rows at ≡ Some given → node_row_at rows inode ≡ Some node → node ≡ given
kind_of given node inode at e there is = same_Some node given (sym is ∙ ap (node_row_at rows) e ∙ there)

-- which it is
only_file : (inode : ℕ) (node : NodeRow) → node_row_at rows inode ≡ Some node → node.kind ≡ 1 → (inode ≡ 2) × (node ≡ file 10)
only_file inode node is kind = elim (cases_eq inode 2) [
  | inl e ↦ (e, kind_of (file 10) node inode 2 e file_at is)
  | inr c ↦ elim (cases_eq inode ROOT) [
    | inl e ↦ let two = ap (λ (n : NodeRow). n.kind) (kind_of top node inode ROOT e root_at is) in absurd (omega (arith, two, kind))
    | inr a ↦ elim (cases_eq inode TRASH_ROOT) [
      | inl e ↦ let two = ap (λ (n : NodeRow). n.kind) (kind_of (fresh_directory READ_ONLY_MODE 0) node inode TRASH_ROOT e trash_at is) in absurd
          (omega (arith, two, kind))
      | inr b ↦ absurd (none-some node (sym (ap (λ o. node_in (row_in o)) (no_node inode a b c)) ∙ is))
    ]
  ]
]

owner_at : (key : RowKey) → key ≡ list_key 2 0 → HasLists rows key.a
owner_at key e = OfFile (file 10) (ap (λ (k : RowKey). node_row_at rows k.a) e ∙ file_at) refl

files : WholeFiles rows
files = record {
  small = λ inode node is kind. let length = ap (λ (n : NodeRow). n.length) (only_file inode node is kind).1 in omega (arith, length);
  past = λ inode node is kind position past.
      let one = only_file inode node is kind in
      let length = ap (λ (n : NodeRow). n.length) one.1 in
      ap (λ i. place_in (lists_of rows i) position) one.0 ∙ shows_zero position (omega (arith, length, past));
  owned = λ key tab is. elim (same_or_apart row_key key (list_key 2 0)) [
    | inl e ↦ owner_at key e
    | inr apart ↦ absurd (is (no_list key tab apart))
  ];
  gone = λ inode is. absurd (is (no_dropped inode));
}

-- these rows are whole
pub whole-rows : Whole rows
whole-rows = record {
  cells = all_rows;
  stored = subst (Stored rows) (sym tree_is) stored;
  tree = subst (λ (t : Tree). WholeShape (shape_of t)) (sym tree_is) tree_whole;
  slices = slices;
  files = files;
}
