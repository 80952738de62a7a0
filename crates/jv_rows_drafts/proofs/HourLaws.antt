-- Drafted rows are those of the model's tree again once the directory of an hour has come.
use Rattle.std.proofs.Common.{◌≡◌, ◌≢◌, ℕ, ◌+◌, ◌<◌, ◌≤◌, true, false, [], ◌∷◌, ◌++◌, ◌/◌, ◌%◌, Option, None, Some, Ok, refl, sym, ap, subst, ◌∙◌, arith}
use Rattle.std.specs.Prelude.{◌==◌, ◌&&◌, ◌||◌, not, if◌then◌else◌, is_some, IsTrue}
use Rattle.std.specs.Option.{option_map}
use Rattle.std.proofs.lemmas.Bool.{le-ltb, le-leb}
use Rattle.jv_model.specs.declared.fault.Fault.TheVariants.{NoSpace}
use Rattle.jv_model.specs.declared.limits.TheConstants.{MAX_LINKS, READ_ONLY_MODE, TRASH_ROOT, ROOT}
use Rattle.jv_model.specs.declared.row.Counters.{Counters}
use Rattle.jv_model.specs.declared.row.Dropped.{Dropped}
use Rattle.jv_model.specs.declared.row.Node.{Node as NodeRow}
use Rattle.jv_model.specs.promise.FiniteMap.{number_key, insert}
use Rattle.jv_model.specs.promise.rows.RowKeys.{row_key}
use Rattle.jv_model.specs.promise.rows.RowPlaces.{counters_key, node_key}
use Rattle.jv_model.specs.promise.tree.Attempt.{◌>>=◌, require}
use Rattle.jv_model.specs.promise.tree.Changes.{put_node, put_entry, with_node}
use Rattle.jv_model.specs.promise.tree.HourNames.{Date, date_of, date_text, day_hours, hour_name, two_digits}
use Rattle.jv_model.specs.promise.tree.Trash.{hour_inode, hour_place, with_hour}
use Rattle.jv_model.specs.promise.tree.Tree.{Tree, Node, Directory, new_node, node_at, is_directory, is_counted, node_space, node_count, link_count, links_fit}
use Rattle.jv_model.proofs.TestLaws.{and_false}
use Rattle.jv_volume.specs.promise.TypedRows.{Cell, Rows, is_entry_name}
use Rattle.jv_volume.specs.promise.Views.{counters_at, node_row_at, dropped_at}
use Rattle.jv_volume.specs.promise.TreeOf.{node_of_row, tree_of}
use Rattle.jv_volume.specs.promise.Stored.{Stored, counters_row}
use Rattle.jv_volume.proofs.stored.FileStepLaws.{files-node}
use Rattle.jv_volume.proofs.names.HourNameLaws.{last_hour}
use Rattle.jv_volume.proofs.shapes.HourShapeLaws.{hour_inode_high}
use Rattle.jv_volume.proofs.sums.LinkLaws.{IsFree, standing_apart, standing_here, dirs-shape, is_directory-put_here, is_directory-put_apart, link_count-put_alone, link_count-put_unnamed, link_count-put_entry-dir}
use Rattle.jv_volume.proofs.maps.MapLaws.{alter-same}
use Rattle.jv_volume.proofs.stored.QuietLaws.{no_file-left, quiet-new_node}
use Rattle.jv_volume.proofs.maps.SeenLaws.{row-put, rows-alter, counters-seen}
use Rattle.jv_volume.proofs.shapes.ShapeMapLaws.{get-inserted}
use Rattle.jv_volume.proofs.stored.StoredLaws.{of_node, of_counters}
use Rattle.jv_volume.proofs.stored.StoredStepLaws.{rows_with_node, counters_with_node, stored-new_node, put_kept}
use Rattle.jv_volume.proofs.stored.TreeOfLaws.{next_inode-tree_of, node_at-tree_of, tree_of-put_node}
use Rattle.jv_volume.proofs.whole.WholeLaws.{read_only-row}
use Rattle.jv_rows_drafts.specs.Ready.{MayHaveHour, MayStandAt, hour_row, entry_put}
use Rattle.jv_rows_drafts.proofs.GoingLaws.{OfTree}
use Rattle.jv_rows_drafts.proofs.HourLinkLaws.{trash_links}
use Rattle.jv_rows_drafts.proofs.LengthLaws.{lengths-new_node}

-- ---- the tree

-- the directory of an hour, as it comes
abbrev pub hour_dir : ℕ → Node
hour_dir now = new_node (Directory TRASH_ROOT) READ_ONLY_MODE now

pub with_hour-there : (t : Tree) (now hour : ℕ) (node : Node) → node_at t (hour_inode hour) ≡ Some node
    → with_hour t now hour ≡ t
unfolding with_hour
with_hour-there t now hour node there = ap (λ (o : Option Node). elim o as (λ _. Tree) [
  | None ↦ with_node t now (hour_place hour) (hour_inode hour) (hour_dir now)
  | Some node ↦ t
]) there

pub with_hour-comes : (t : Tree) (now hour : ℕ) → node_at t (hour_inode hour) ≡ None
    → with_hour t now hour ≡ put_entry (put_node t (hour_inode hour) (hour_dir now)) now (hour_place hour)
    (hour_inode hour)
unfolding with_hour
with_hour-comes t now hour none = ap (λ (o : Option Node). elim o as (λ _. Tree) [
  | None ↦ with_node t now (hour_place hour) (hour_inode hour) (hour_dir now)
  | Some node ↦ t
]) none

uncounted : (inode : ℕ) → TRASH_ROOT < inode → is_counted inode ≡ false
uncounted inode high = ap (λ b. not (inode == ROOT) && b) (le-ltb inode TRASH_ROOT (omega arith))
    ∙ and_false (not (inode == ROOT))

-- names of hours are those of entries
digit_is_text : (n : ℕ) → not ((48 + n == 47) || (48 + n == 0)) ≡ true
digit_is_text n = grind arith

digits_are_name : (a b c d e f g h j k : ℕ)
    → IsTrue (is_entry_name ((48 + a) ∷ (48 + b) ∷ (48 + c) ∷ (48 + d) ∷ 45 ∷ (48 + e) ∷ (48 + f) ∷ 45
    ∷ (48 + g) ∷ (48 + h) ∷ 45 ∷ (48 + j) ∷ (48 + k) ∷ []))
digits_are_name a b c d e f g h j k =
    λ i. digit_is_text a i && (digit_is_text b i &&
    (digit_is_text c i && (digit_is_text d i && (digit_is_text e i && (digit_is_text f i
    && (digit_is_text g i && (digit_is_text h i && (digit_is_text j i && (digit_is_text k i && true)))))))))

date_is_name : (date : Date) (rest : ℕ) → IsTrue (is_entry_name (date_text date ++ 45 ∷ two_digits rest))
date_is_name date rest =
    digits_are_name (date.year / 100 / 10 % 10) (date.year / 100 % 10) (date.year / 10 % 10) (date.year % 10)
    (date.month / 10 % 10) (date.month % 10)
    (date.day / 10 % 10) (date.day % 10) (rest / 10 % 10) (rest % 10)

pub hour_is_name : (hour : ℕ) → IsTrue (is_entry_name (hour_name hour))
unfolding hour_name
hour_is_name hour = date_is_name (date_of (hour / day_hours)) (hour % day_hours)

module _ (t : Tree) (now hour : ℕ) (may : MayHaveHour t hour) (low : hour ≤ last_hour)
    (none : node_at t (hour_inode hour) ≡ None) where
  abbrev dir : ℕ
  dir = hour_inode hour

  abbrev pub with_dir : Tree
  with_dir = put_node t (hour_inode hour) (hour_dir now)

  high : TRASH_ROOT < hour_inode hour
  high = hour_inode_high hour low

  pub hour_free : IsFree t (hour_inode hour)
  hour_free = record { absent = none; unnamed = may.unnamed none; empty = may.empty none }

  trash_stays : is_directory (put_node t (hour_inode hour) (hour_dir now)) TRASH_ROOT ≡ true
  trash_stays = is_directory-put_apart t dir (hour_dir now) TRASH_ROOT (λ same. absurd (ends same)) ∙ may.trash
    where
      ends : TRASH_ROOT ≡ hour_inode hour → ⊥
      ends same = (let more = high in omega (arith, more, same))

  dir_there : is_directory (put_node t (hour_inode hour) (hour_dir now)) (hour_inode hour) ≡ true
  dir_there = is_directory-put_here t dir (hour_dir now)

  pub hour_may_stand : MayStandAt (put_node t (hour_inode hour) (hour_dir now)) (hour_place hour) (hour_inode hour)
  hour_may_stand = record {
    free = may.free none;
    name = hour_is_name hour;
    within = trash_stays;
    there = ap is_some (get-inserted number_key t.nodes dir (hour_dir now));
    apart = λ same. absurd (let more = high in omega (arith, more, same));
  }

  trash_fits : links_fit (put_entry with_dir now (hour_place hour) dir) TRASH_ROOT ≡ true
  trash_fits =
      let one = link_count-put_entry-dir with_dir now (hour_place hour) dir TRASH_ROOT (may.free none) dir_there
      trash_stays in
      let same = link_count-put_unnamed t dir (hour_dir now) TRASH_ROOT (may.unnamed none)
      (λ same. absurd (let more = high in omega (arith, more, same))) in
      let few = trash_links t may.hours (sym (dirs-shape t TRASH_ROOT) ∙ may.trash) in
      le-leb (link_count (put_entry with_dir now (hour_place hour) dir) TRASH_ROOT) MAX_LINKS
      (omega (arith, one, same, few, standing_here TRASH_ROOT (hour_place hour) refl))

  dir_fits : links_fit (put_entry with_dir now (hour_place hour) dir) dir ≡ true
  dir_fits =
      let none_more = link_count-put_entry-dir with_dir now (hour_place hour) dir dir (may.free none) dir_there
      trash_stays in
      let two = link_count-put_alone t dir (hour_dir now) hour_free in
      le-leb (link_count (put_entry with_dir now (hour_place hour) dir) dir) MAX_LINKS
      (omega (
        arith,
        none_more,
        two,
        standing_apart dir (hour_place hour)
            (λ same. absurd (let more = high in omega (arith, more, same))),
      ))

  -- the entry is put, and the tree has the hour
  pub hour_entered : entry_put now (hour_place hour) (hour_inode hour)
      (put_node t (hour_inode hour) (hour_dir now)) ≡ Ok (with_hour t now hour)
  hour_entered =
      ap (λ b. require (b && links_fit (put_entry with_dir now (hour_place hour) dir) dir) NoSpace >>=
      (λ _. Ok (put_entry with_dir now (hour_place hour) dir)))
      trash_fits
      ∙ ap (λ b. require b NoSpace >>= (λ _. Ok (put_entry with_dir now (hour_place hour) dir))) dir_fits
      ∙ ap (λ (u : Tree). Ok u) (sym (with_hour-comes t now hour none))

-- ---- the rows

module _ (start rows : Rows) (bytes : ℕ → ℕ → ℕ) (now hour : ℕ) (m : OfTree start rows bytes (tree_of bytes rows))
    (may : MayHaveHour (tree_of bytes rows) hour)
    (low : hour ≤ last_hour) (absent : node_row_at rows (hour_inode hour) ≡ None) where
  abbrev inode : ℕ
  inode = hour_inode hour

  abbrev cell : Cell
  cell = of_node (hour_row now)

  abbrev c : Counters
  c = counters_row (tree_of bytes rows) m.stored.slice

  abbrev with_row : Rows
  with_row = insert rows (node_key (hour_inode hour)) (of_node (hour_row now))

  no_node : node_at (tree_of bytes rows) (hour_inode hour) ≡ None
  no_node = node_at-tree_of bytes rows inode ∙ ap (option_map (node_of_row (bytes inode))) absent

  free : IsFree (tree_of bytes rows) (hour_inode hour)
  free = hour_free (tree_of bytes rows) now hour may low no_node

  counters_are : counters_at rows ≡ Some c
  counters_are = counters-seen rows (Some c) m.stored.counters

  same_counters : counters_with_node bytes rows inode (hour_row now) c c.inode m.stored counters_are free refl ≡ c
  same_counters =
      let none = uncounted inode (hour_inode_high hour low) in
      λ i. record c {
        used_space = same_space none i;
        used_inodes = same_inodes none i;
      }
    where
      same_space : is_counted inode ≡ false
          → c.used_space + node_space inode (node_of_row (bytes inode) (hour_row now)) ≡ c.used_space
      same_space none = ap (λ b. c.used_space + (if b then 4096 else 0)) none ∙ omega arith

      same_inodes : is_counted inode ≡ false
          → c.used_inodes + node_count inode (node_of_row (bytes inode) (hour_row now)) ≡ c.used_inodes
      same_inodes none = ap (λ b. c.used_inodes + (if b then 1 else 0)) none ∙ omega arith

  same_rows : rows_with_node bytes rows inode (hour_row now) c c.inode m.stored counters_are free refl ≡ with_row
  same_rows =
      ap (λ (x : Counters). insert with_row counters_key (of_counters x)) same_counters
      ∙ alter-same row_key with_row counters_key (Some (of_counters c))
      (put_kept rows (node_key inode) cell counters_key refl ∙ m.stored.counters)

  not_dropped : dropped_at rows (hour_inode hour) ≢ None → ⊥
  not_dropped there =
      let given = (m.sound.files.gone inode there).1 in
      let more = hour_inode_high hour low in
      omega (arith, given, more, may.below, next_inode-tree_of bytes rows)

  none_dropped : dropped_at rows (hour_inode hour) ≡ None
  none_dropped = by_dropped (dropped_at rows (hour_inode hour)) refl
    where
      by_dropped : (o : Option Dropped) → dropped_at rows (hour_inode hour) ≡ o → o ≡ None
      by_dropped None e = refl
      by_dropped (Some dropped) e = absurd (not_dropped (λ none. absurd (cc)))

  pub rows-hour : OfTree start (insert rows (node_key (hour_inode hour)) (of_node (hour_row now))) bytes
      (put_node (tree_of bytes rows) (hour_inode hour) (hour_dir now))
  rows-hour = record {
    tree = tree_of-put_node bytes rows inode (hour_row now);
    stored = subst (λ (r : Rows). Stored r (tree_of bytes r)) same_rows
        (stored-new_node bytes rows inode (hour_row now) c c.inode m.stored counters_are free refl);
    sound = record {
      cells = rows-alter rows (node_key inode) (Some cell) m.sound.cells
          (λ x. row-put (node_key inode) cell x (read_only-row inode (hour_row now) refl));
      files = files-node rows inode (Some cell) m.sound.files (λ node is file. absurd (a_directory node is file))
          (λ was there file. absurd (cc)) (λ there. absurd (not_dropped there));
      quiet = quiet-new_node start rows m.sound.quiet inode (hour_row now) absent none_dropped;
      lengths = lengths-new_node start rows m.sound.lengths inode (hour_row now) refl
          (no_file-left start rows inode m.sound.quiet.dropped absent none_dropped);
    };
  }
    where
      a_directory : (node : NodeRow) → ◌≡◌ {A = Option NodeRow} (Some (hour_row now)) (Some node) → node.kind ≡ 1 → ⊥
      a_directory node is file = (let same : hour_row now ≡ node = cc in
          let two : 2 ≡ 1 = ap (λ (r : NodeRow). r.kind) same ∙ file in omega (arith, two))
