-- A new node under a new entry: what is done to whole rows is what the model does to their tree.
use Rattle.std.proofs.Common.{◌≡◌, ℕ, ◌+◌, ◌≤◌, ◌<◌, Bool, true, false, ◌&&◌, List, None, Some, Result, Ok, Err, refl, sym, ap, ◌∙◌, arith}
use Rattle.std.specs.Prelude.{◌==◌, nat_le, nat_lt, length, if◌then◌else◌}
use Rattle.std.proofs.lemmas.Bool.{and_parts, false≢true, leb-true, le-leb, lt-leb, ltb-true, eqb-true}
use Rattle.jv_model.specs.declared.limits.TheConstants.{FILE_END, FULL_COUNT, MAX_LINKS, MAX_MODE, MAX_PATH, SPACE_UNIT}
use Rattle.jv_model.specs.declared.fault.Fault.{Fault}
use Rattle.jv_model.specs.declared.fault.Fault.TheVariants.{NoSpace}
use Rattle.jv_model.specs.declared.op.Reply.{Reply}
use Rattle.jv_model.specs.declared.row.Counters.{Counters}
use Rattle.jv_model.specs.declared.row.Node.{Node as NodeRow}
use Rattle.jv_model.specs.declared.setting.Setting.{Setting}
use Rattle.jv_model.specs.promise.rows.RowGrammar.{is_node, is_target, is_symlink}
use Rattle.jv_model.specs.promise.tree.Attempt.{◌>>=◌, require}
use Rattle.jv_model.specs.promise.tree.Caller.{answered}
use Rattle.jv_model.specs.promise.tree.Making.{with_next, entered}
use Rattle.jv_model.specs.promise.tree.Tree.{Tree, Node, Kind, File, Directory, Symlink, EntryKey, new_node, node_at, kind_space, link_count, space_limit, inode_limit, links_fit}
use Rattle.jv_volume.specs.promise.TypedRows.{Rows}
use Rattle.jv_volume.specs.promise.Views.{counters_at, node_row_at, setting_at}
use Rattle.jv_volume.specs.promise.TreeOf.{node_of_row, tree_of}
use Rattle.jv_volume.specs.promise.Shape.{Dir, WholeShape, form_of, is_dir, shape_of}
use Rattle.jv_volume.specs.promise.Stored.{Stored}
use Rattle.jv_volume.specs.Stored.{links_by}
use Rattle.jv_volume.specs.promise.Whole.{Whole}
use Rattle.jv_volume.specs.Whole.{Quiet}
use Rattle.jv_volume.proofs.sums.LinkLaws.{free_inode, next_absent, link_count-beside_dir, standing_here}
use Rattle.jv_volume.proofs.whole.MadeRowsLaws.{made_rows, IsMade}
use Rattle.jv_volume.proofs.whole.MadeWholeLaws.{MayBeMade, tree-made, quiet-made, whole-made}
use Rattle.jv_volume.proofs.stored.NodeRowLaws.{IsNodeRow, node_of-empty_file}
use Rattle.jv_volume.proofs.sums.RoomLaws.{entered-by}
use Rattle.jv_volume.proofs.stored.StoredLaws.{HasCounters, HasNode, found_counters, found_node, found_setting, whole-shape, whole-stored}
use Rattle.jv_tree.specs.Entering.{IsFreePlace, IsNewKind, EmptyFile, DirectoryIn, LinkTo, is_new_directory, new_row, enter, has_room}

-- What the row of a new node is.
record IsNewNode (byte : ℕ → ℕ) (dir : ℕ) (kind : Kind) (mode now : ℕ) : Type 0 where
  node_is : node_of_row byte (new_row kind mode now) ≡ new_node kind mode now
  row_is : IsNodeRow (if is_dir (form_of (Some (node_of_row byte (new_row kind mode now)))) then 2 else 1) byte (new_row kind mode now)
  adds : links_by (new_row kind mode now).kind ≡ (if is_dir (form_of (Some (node_of_row byte (new_row kind mode now)))) then 1 else 0)
  space : SPACE_UNIT ≡ kind_space (node_of_row byte (new_row kind mode now)).kind
  small : (new_row kind mode now).length ≤ FILE_END
  parent : (parent : ℕ) → form_of (Some (node_of_row byte (new_row kind mode now))) ≡ Dir parent → parent ≡ dir
  is_directory : is_dir (form_of (Some (new_node kind mode now))) ≡ is_new_directory kind
  number : ((new_row kind mode now).kind == 2) ≡ is_new_directory kind
  unit : kind_space kind ≡ SPACE_UNIT

short_target : (mode now : ℕ) (target : List ℕ) → is_node (new_row (Symlink target) mode now) ≡ true → length target ≤ FILE_END
short_target mode now target h =
    let row = new_row (Symlink target) mode now in
    let kind = and_parts (nat_le mode MAX_MODE) (is_symlink row) h in
    let parts = and_parts (length target == length target) (is_target target) kind.1 in
    let bytes = and_parts (nat_le 1 (length target) && nat_le (length target) MAX_PATH) _ parts.1 in
    let less = leb-true (length target) MAX_PATH (and_parts (nat_le 1 (length target)) (nat_le (length target) MAX_PATH) bytes.0).1 in
    omega (arith, less)

is_new_node : (byte : ℕ → ℕ) (dir : ℕ) (kind : Kind) (mode now : ℕ) → IsNewKind dir kind → is_node (new_row kind mode now) ≡ true → IsNewNode byte dir kind mode now
is_new_node byte dir (File content) mode now EmptyFile allowed = record {
  node_is = node_of-empty_file byte 1 mode now;
  row_is = refl;
  adds = refl;
  space = refl;
  small = omega arith;
  parent = λ parent e. absurd (cc);
  is_directory = refl;
  number = refl;
  unit = refl;
}
is_new_node byte dir (Directory parent) mode now DirectoryIn allowed = record {
  node_is = refl;
  row_is = refl;
  adds = refl;
  space = refl;
  small = omega arith;
  parent = λ parent e. (let same : Dir dir ≡ Dir parent = e in cc);
  is_directory = refl;
  number = refl;
  unit = refl;
}
is_new_node byte dir (Symlink target) mode now (LinkTo _) allowed = record {
  node_is = refl;
  row_is = refl;
  adds = refl;
  space = refl;
  small = short_target mode now target allowed;
  parent = λ parent e. absurd (cc);
  is_directory = refl;
  number = refl;
  unit = refl;
}

room_left : {A : Type 0} (x : A) (a b d : Bool) → (a && b && d) ≡ true
    → ◌≡◌ {A = Result A Fault} (require a NoSpace >>= (λ _. require (b && d) NoSpace >>= (λ _. Ok x))) (Ok x)
room_left x true true true e = refl
room_left x true true false e = absurd (false≢true e)
room_left x true false d e = absurd (false≢true e)
room_left x false b d e = absurd (false≢true e)

room_gone : {A : Type 0} (x : A) (a b d : Bool) → (a && b && d) ≡ false
    → ◌≡◌ {A = Result A Fault} (require a NoSpace >>= (λ _. require (b && d) NoSpace >>= (λ _. Ok x))) (Err NoSpace)
room_gone x true true true e = absurd (false≢true (sym e))
room_gone x true true false e = refl
room_gone x true false d e = refl
room_gone x false b d e = refl

module _ (bytes : ℕ → ℕ → ℕ) (rows : Rows) (now mode : ℕ) (place : EntryKey) (kind : Kind) (dir : NodeRow) (c : Counters) (setting : Setting) (reply : ℕ → Reply)
    (whole : Whole rows) (new : IsNewKind place.dir kind) (allowed : is_node (new_row kind mode now) ≡ true) (there : node_row_at rows place.dir ≡ Some dir)
    (counters : counters_at rows ≡ Some c) (set : setting_at rows ≡ Some setting) (ready : IsFreePlace (tree_of bytes rows) place) where
  abbrev t : Tree
  t = tree_of bytes rows

  abbrev row : NodeRow
  row = new_row kind mode now

  abbrev node : Node
  node = new_node kind mode now

  abbrev after : Tree
  after = with_next t now place node

  stored : Stored rows t
  stored = whole-stored bytes rows whole

  shape : WholeShape (shape_of t)
  shape = whole-shape bytes rows whole

  facts : IsNewNode (bytes c.inode) place.dir kind mode now
  facts = is_new_node (bytes c.inode) place.dir kind mode now new allowed

  c_is : HasCounters t c
  c_is = found_counters bytes rows stored c counters

  dir_is : HasNode t place.dir dir (bytes place.dir)
  dir_is = found_node bytes rows stored place.dir dir there

  room_is : has_room setting c ≡ has_room t.setting c
  room_is = ap (λ s. has_room s c) (sym (found_setting bytes rows stored setting set))

  abbrev numbers : Bool
  numbers = nat_lt c.inode FULL_COUNT

  abbrev space : Bool
  space = nat_le (c.used_space + SPACE_UNIT) (space_limit t.setting)

  abbrev inodes : Bool
  inodes = nat_lt c.used_inodes (inode_limit t.setting)

  by_tests : entered t now place node ≡ (require numbers NoSpace >>= (λ _. require (space && inodes) NoSpace >>= (λ _. Ok after)))
  by_tests = entered-by t now place node c shape c_is facts.unit numbers space inodes refl refl refl

  -- no room is left
  pub enter-full : has_room setting c ≡ false → enter kind mode now place reply t ≡ Err NoSpace
  enter-full none = ap (λ r. r >>= (λ u. require (if is_new_directory kind then links_fit u place.dir else true) NoSpace >>= (λ _. answered u (reply t.next_inode))))
      (by_tests ∙ room_gone after numbers space inodes (sym room_is ∙ none))

  module _ (room : has_room setting c ≡ true) where
    entered_is : entered t now place node ≡ Ok after
    entered_is = by_tests ∙ room_left after numbers space inodes (sym room_is ∙ room)

    enter_is : enter kind mode now place reply t ≡ (require (if is_new_directory kind then links_fit after place.dir else true) NoSpace >>= (λ _. answered after (reply t.next_inode)))
    enter_is = ap (λ r. r >>= (λ u. require (if is_new_directory kind then links_fit u place.dir else true) NoSpace >>= (λ _. answered u (reply t.next_inode)))) entered_is

    dir_apart : place.dir ≡ t.next_inode → ⊥
    dir_apart same = (let both : Some (node_of_row (bytes place.dir) dir) ≡ None = sym dir_is.there ∙ ap (node_at t) same ∙ next_absent t shape in absurd (cc))

    links_after : is_new_directory kind ≡ true → link_count after place.dir ≡ dir.nlink + 1
    links_after is =
        link_count-beside_dir t now place t.next_inode node (free_inode t t.next_inode shape (next_absent t shape)) ready.free (facts.is_directory ∙ is) ready.within place.dir dir_apart
        ∙ (λ i. sym dir_is.links i + standing_here place.dir place refl i)

    -- no link is left in the directory
    pub enter-linked_full : row.kind ≡ 2 → dir.nlink ≡ MAX_LINKS → enter kind mode now place reply t ≡ Err NoSpace
    enter-linked_full two full =
        let is : is_new_directory kind ≡ true = sym facts.number ∙ ap (λ n. n == 2) two in
        let links = links_after is in
        let over : nat_le (link_count after place.dir) MAX_LINKS ≡ false = lt-leb (link_count after place.dir) MAX_LINKS (omega (arith, links, full)) in
        enter_is ∙ ap (λ b. require (if b then links_fit after place.dir else true) NoSpace >>= (λ _. answered after (reply t.next_inode))) is
        ∙ ap (λ b. require b NoSpace >>= (λ _. answered after (reply t.next_inode))) over

    links_left : (b : Bool) → is_new_directory kind ≡ b → (row.kind ≡ 2 → dir.nlink < MAX_LINKS) → (if b then links_fit after place.dir else true) ≡ true
    links_left true e left =
        let links = links_after e in
        let less = left (eqb-true row.kind 2 (facts.number ∙ e)) in
        le-leb (link_count after place.dir) MAX_LINKS (omega (arith, links, less))
    links_left false e left = refl

    abbrev links : ℕ
    links = dir.nlink + links_by row.kind

    made : IsMade t place row dir (bytes c.inode) links SPACE_UNIT
    made = record {
      free = ready.free;
      within = ready.within;
      new_row = facts.row_is;
      dir_links = ap (λ n. dir.nlink + n) facts.adds;
      space_is = facts.space;
    }

    may : MayBeMade place row (bytes c.inode) c
    may = record {
      may = ready.may;
      name = ready.name;
      room = numbers_left (sym room_is ∙ room);
      small = facts.small;
      parent = facts.parent;
    }
      where
        numbers_left : has_room t.setting c ≡ true → c.inode < FULL_COUNT
        numbers_left h = ltb-true c.inode FULL_COUNT (and_parts numbers space (and_parts (numbers && space) inodes h).0).0

    -- the rows after it
    abbrev pub rows_after : Rows
    rows_after = made_rows rows now place row dir links c SPACE_UNIT

    pub whole-entered : Whole rows_after
    whole-entered = whole-made bytes rows now place row dir links c SPACE_UNIT whole there counters made may

    pub quiet-entered : Quiet rows rows_after
    quiet-entered = quiet-made bytes rows now place row dir links c SPACE_UNIT whole there counters made

    pub enter-done : (row.kind ≡ 2 → dir.nlink < MAX_LINKS) → enter kind mode now place reply t ≡ Ok (record { tree = tree_of bytes rows_after; reply = reply c.inode })
    enter-done left =
        enter_is ∙ ap (λ b. require b NoSpace >>= (λ _. answered after (reply t.next_inode))) (links_left (is_new_directory kind) refl left)
        ∙ (λ i. Ok (record {
          tree = (ap (with_next t now place) (sym facts.node_is) ∙ sym (tree-made bytes rows now place row dir links c SPACE_UNIT whole there counters made)) i;
          reply = reply (c_is.next_inode i);
        }))
