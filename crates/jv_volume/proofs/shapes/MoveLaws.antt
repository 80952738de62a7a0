-- A tree stays whole where an entry is renamed to a free place, over another one, or exchanged with one.
use Rattle.std.proofs.Common.{◌≡◌, ◌≢◌, ℕ, ◌+◌, ◌≤◌, ◌<◌, Bool, true, false, ◌&&◌, ◌||◌, ◌==◌, inl, inr, List, [], ◌∷◌, get_or, Option, None, Some, is_some, refl, sym, ap, subst, ◌∙◌, arith}
use Rattle.std.specs.Prelude.{IsTrue}
use Rattle.std.specs.Option.{option_map}
use Rattle.std.proofs.lemmas.Bool.{false≢true, cases_eq, cases_Bool, not-true, or_parts, eq-eqb}
use Rattle.std.proofs.lemmas.Option.{same_Some, none-some}
use Rattle.jv_model.specs.declared.limits.TheConstants.{LAST_MOMENT, ROOT, TRASH_ROOT}
use Rattle.jv_model.specs.promise.FiniteMap.{get, insert, remove, sum_over}
use Rattle.jv_model.specs.promise.tree.Tree.{Tree, Node, Kind, File, Directory, Symlink, EntryKey, entry_key, is_directory, has_entries, node_at}
use Rattle.jv_model.specs.promise.tree.Changes.{change_node, set_node, put_entry, take_entry}
use Rattle.jv_model.specs.promise.tree.Caller.{Caller}
use Rattle.jv_model.specs.promise.tree.Making.{may_be_new}
use Rattle.jv_model.specs.promise.tree.Removing.{may_go, remove_directory, remove_entry}
use Rattle.jv_model.specs.promise.tree.Renaming.{is_inside, moved_node, move_in, moved, exchanged, without_target}
use Rattle.jv_model.proofs.FiniteMapLaws.{same_maps, share, sum-remove}
use Rattle.jv_volume.specs.promise.Shape.{Form, Absent, Regular, Link, Dir, Shape, WholeShape, Names, is_dir, form_of, shape_of, named, is_top, is_hour}
use Rattle.jv_volume.proofs.shapes.ShapeMapLaws.{Entries, same_or_apart, get-inserted, get-insert_apart, get-removed, get-remove_apart, with_form, with_form-here, with_form-apart, with_form-same, with_forms, parent_of_dir, is_dir-form, shape-put_entry, shape-take_entry, shape-change_node}
use Rattle.jv_volume.proofs.shapes.EnteredShapeLaws.{new_below, not_hour_below}
use Rattle.jv_volume.proofs.shapes.ClimbLaws.{Avoids, avoids_outside, avoids_leaf, reaches_dir, above_avoids, avoids_beside, avoids_without}
use Rattle.jv_volume.proofs.shapes.ShapeLossLaws.{Without, parent_apart}
use Rattle.jv_volume.proofs.shapes.RemovalLaws.{HoldsFiles, MayRemove, directory_may_go, leaf_empty, whole-remove_directory, without-remove_directory, whole-remove_entry, without-remove_entry}
use Rattle.jv_volume.proofs.shapes.ShapeMoveLaws.{form_under, moved_shape, MayMove, dir_same, whole-moved}

-- the shape after a move

-- an inode that an entry names from elsewhere
abbrev pub moved_in : Shape → EntryKey → ℕ → Shape
moved_in s place inode = record s { form = with_form s.form inode (form_under place.dir (s.form inode)); entries = insert s.entries place inode }

form-moved_node : (now dir : ℕ) (node : Node) (kind : Kind)
    → form_of (Some (moved_node now dir (record node { kind = kind }))) ≡ form_under dir (form_of (Some (record node { kind = kind })))
form-moved_node now dir node (File content) = refl
form-moved_node now dir node (Directory parent) = refl
form-moved_node now dir node (Symlink target) = refl

moved_node_at : (t : Tree) (inode now dir : ℕ) (o : Option Node) → node_at t inode ≡ o
    → shape_of (change_node t inode (moved_node now dir)) ≡ with_forms (shape_of t) (with_form (shape_of t).form inode (form_under dir (form_of o)))
moved_node_at t inode now dir None e =
    ap (λ o. shape_of (set_node t inode (option_map (moved_node now dir) o))) e
    ∙ sym (ap (λ f. with_forms (shape_of t) (with_form (shape_of t).form inode f)) (sym (ap form_of e))
    ∙ (λ i. record (shape_of t) { form = λ other. with_form-same (shape_of t).form inode other i }))
moved_node_at t inode now dir (Some node) e =
    shape-change_node t inode (moved_node now dir) node e
    ∙ ap (λ f. with_forms (shape_of t) (with_form (shape_of t).form inode f)) (form-moved_node now dir node node.kind)

shape-moved_node : (t : Tree) (inode now dir : ℕ)
    → shape_of (change_node t inode (moved_node now dir)) ≡ with_forms (shape_of t)
    (with_form (shape_of t).form inode (form_under dir ((shape_of t).form inode)))
shape-moved_node t inode now dir = moved_node_at t inode now dir (node_at t inode) refl

-- the shape of each move
pub shape-move_in : (t : Tree) (now : ℕ) (place : EntryKey) (inode : ℕ) → shape_of (move_in t now place inode) ≡ moved_in (shape_of t) place inode
shape-move_in t now place inode =
    shape-moved_node (put_entry t now place inode) inode now place.dir
    ∙ ap (λ (q : Shape). with_forms q (with_form q.form inode (form_under place.dir (q.form inode)))) (shape-put_entry t now place inode)

-- from one entry to another
pub shape-moved : (t : Tree) (now : ℕ) (from : EntryKey) (inode : ℕ) (to : EntryKey)
    → shape_of (moved t now from inode to) ≡ moved_shape (shape_of t) from inode to
shape-moved t now from inode to =
    shape-move_in (take_entry t now from) now to inode ∙ ap (λ (q : Shape). moved_in q to inode) (shape-take_entry t now from)

-- and back
pub shape-exchanged : (t : Tree) (now : ℕ) (from : EntryKey) (source : ℕ) (to : EntryKey) (other : ℕ)
    → shape_of (exchanged t now from source to other) ≡ moved_in (moved_in (shape_of t) to source) from other
shape-exchanged t now from source to other =
    shape-move_in (move_in t now to source) now from other ∙ ap (λ (q : Shape). moved_in q from other) (shape-move_in t now to source)

-- to a free place

-- what may go is none of the trash's own entries
pub not_trash_root : (place : EntryKey) → may_go place ≡ true → place.dir ≢ TRASH_ROOT
not_trash_root place may e = false≢true (sym (or_parts (place.dir == TRASH_ROOT) _ (not-true _ may)).0 ∙ eq-eqb place.dir TRASH_ROOT e)

-- An entry that may be renamed to a place: it isn't an hour of the trash, the place may have a new entry, and stands in a
-- directory that isn't inside the inode.
pub record MayRename (t : Tree) (from : EntryKey) (inode : ℕ) (to : EntryKey) : Type 0 where
  pub is : named (shape_of t) from ≡ Some inode
  pub leaves : may_go from ≡ true
  pub enters : may_be_new to ≡ true
  pub within : is_directory t to.dir ≡ true
  pub outside : is_inside t to.dir inode ≡ false

dir_within : (t : Tree) (dir : ℕ) → is_directory t dir ≡ true → IsTrue (is_dir ((shape_of t).form dir))
dir_within t dir is = is_dir-form (node_at t dir) ∙ is

no_trash : (dir : ℕ) → dir < TRASH_ROOT → dir ≢ TRASH_ROOT
no_trash dir low e = absurd (omega (arith, low, e))

no_hour : (dir : ℕ) → dir < TRASH_ROOT → IsTrue (is_hour dir) → ⊥
no_hour dir low hour = false≢true (sym (not_hour_below dir low) ∙ hour)

-- a tree stays whole where an entry is renamed to a free place
pub whole-moved_free : (t : Tree) (now : ℕ) (from : EntryKey) (inode : ℕ) (to : EntryKey) → WholeShape (shape_of t) → MayRename t from inode to
    → named (shape_of t) to ≡ None
    → WholeShape (shape_of (moved t now from inode to))
whole-moved_free t now from inode to whole may free =
    let up = avoids_outside t to.dir inode whole (dir_within t to.dir may.within) may.outside in
    subst WholeShape (sym (shape-moved t now from inode to)) (whole-moved (shape_of t) from inode to whole (record {
      is = may.is;
      free = free;
      within = dir_within t to.dir may.within;
      leaves = not_trash_root from may.leaves;
      enters = no_trash to.dir (new_below to may.enters);
      trashed = λ hour. absurd (no_hour to.dir (new_below to may.enters) hour);
      steps = up.0;
      avoids = up.1;
    }))

-- over another entry

-- An entry that may be replaced: it names a file, a symlink or an empty directory. The caller's session is there, what it
-- has open are files, and the clock has the moment.
pub record MayReplace (t : Tree) (who : Caller) (to : EntryKey) (other : ℕ) : Type 0 where
  pub is : named (shape_of t) to ≡ Some other
  pub vacant : (is_directory t other && has_entries t other) ≡ false
  pub session : IsTrue (is_some (get t.sessions who.sid))
  pub held : HoldsFiles (shape_of t) who.held
  pub clock : who.now ≤ LAST_MOMENT

module _ (t : Tree) (who : Caller) (to : EntryKey) (other : ℕ) (whole : WholeShape (shape_of t)) (may : MayReplace t who to other) where
  may_remove : is_directory t other ≡ false → MayRemove t who to other
  may_remove leaf = record { is = may.is; leaf = leaf; session = may.session; held = may.held; clock = may.clock }

  -- a directory that may be replaced has no entries
  pub no_entries : is_directory t other ≡ true → has_entries t other ≡ false
  no_entries dir = sym (ap (λ b. b && has_entries t other) dir) ∙ may.vacant

  abbrev survivor : Bool → Tree
  survivor dir = elim dir [ true ↦ remove_directory t who.now to other | false ↦ remove_entry t who to other ]

  survives : (b : Bool) → is_directory t other ≡ b → WholeShape (shape_of (survivor b)) × Without (shape_of t) (shape_of (survivor b)) to other
  survives true dir = (whole-remove_directory t who.now to other whole may.is dir (no_entries dir), without-remove_directory t who.now to other)
  survives false leaf = (whole-remove_entry t who to other whole (may_remove leaf), without-remove_entry t who to other whole (may_remove leaf))

  -- a tree stays whole without the target of a rename
  pub whole-without_target : WholeShape (shape_of (without_target t who to other))
  whole-without_target = (survives (is_directory t other) refl).0

  -- and keeps other entries and its directories
  pub beside-without_target : Without (shape_of t) (shape_of (without_target t who to other)) to other
  beside-without_target = (survives (is_directory t other) refl).1

  -- no entry stands in the target
  pub target_empty : (at : EntryKey) (i : ℕ) → named (shape_of t) at ≡ Some i → at.dir ≢ other
  target_empty = elim (cases_Bool (is_directory t other)) [
    | inl dir ↦ (directory_may_go t to other whole may.is dir (no_entries dir)).empty
    | inr leaf ↦ leaf_empty (shape_of t) other whole (is_dir-form (node_at t other) ∙ leaf)
  ]

  -- a tree stays whole where an entry is renamed over another one
  pub whole-replaced : (from : EntryKey) (source : ℕ) → MayRename t from source to → source ≢ other
      → WholeShape (shape_of (moved (without_target t who to other) who.now from source to))
  whole-replaced from source rename apart =
      let s = shape_of t in
      let after = shape_of (without_target t who to other) in
      let beside = beside-without_target in
      let dir = dir_within t to.dir rename.within in
      let parent = parent_of_dir (s.form to.dir) dir in
      let off = not_trash_root from rename.leaves in
      let up = avoids_outside t to.dir source whole dir rename.outside in
      let away : to.dir ≢ other = target_empty to other may.is in
      subst WholeShape (sym (shape-moved (without_target t who to other) who.now from source to))
      (whole-moved after from source to whole-without_target (record {
        is = beside.still from source (λ e. apart (same_Some _ _ (sym rename.is ∙ ap (named s) e ∙ may.is))) off rename.is;
        free = beside.gone;
        within = ap is_dir (beside.dirs to.dir parent.0 parent.1 away);
        leaves = off;
        enters = no_trash to.dir (new_below to rename.enters);
        trashed = λ hour. absurd (no_hour to.dir (new_below to rename.enters) hour);
        steps = up.0;
        avoids = avoids_without s.form (after).form other source (λ q p is not_it. beside.dirs q p is not_it)
            (parent_apart s other whole (whole.entry to other may.is).free target_empty) up.0 to.dir away up.1;
      }))

-- exchanged

-- The places of two entries change by three moves, of which the first is to a free place of the root.

abbrev first_byte : EntryKey → ℕ → ℕ
first_byte at inode = get_or at.name 0 0

first_share : (m : Entries) (at : EntryKey) (o : Option ℕ) → get m at ≡ o → sum_over first_byte m < get_or at.name 0 0 → o ≡ None
first_share m at None e more = refl
first_share m at (Some i) e more =
    let all : sum_over first_byte (remove m at) + share first_byte at (get m at) ≡ sum_over first_byte m = sum-remove entry_key first_byte m at in
    let part : share first_byte at (get m at) ≡ get_or at.name 0 0 = ap (share first_byte at) e in
    absurd (omega (arith, all, part, more))

-- a place of the root that is free
free_place : Entries → EntryKey
free_place m = record { dir = ROOT; name = (sum_over first_byte m + 1) ∷ [] }

free_place-free : (m : Entries) → get m (free_place m) ≡ None
unfolding free_place
free_place-free m = first_share m (free_place m) (get m (free_place m)) refl (omega arith)

-- the way up from the directory of an entry avoids what the entry names
entry_avoids : (s : Shape) (place : EntryKey) (inode : ℕ) → WholeShape s → named s place ≡ Some inode → (n : ℕ) × Avoids s.form inode n place.dir
entry_avoids s place inode whole is = elim (cases_Bool (is_dir (s.form inode))) [
  | inl dir ↦
      let parent = parent_of_dir (s.form inode) dir in
      let low = (whole.entry place inode is).free in
      let up = whole.rooted inode parent.0 parent.1 in
      let same : place.dir ≡ parent.0 = ap (λ (at : EntryKey). at.dir) ((whole.entered inode parent.0 parent.1 low).only place is) in
      let above = above_avoids s.form inode parent.0 up.0 low parent.1 up.1 in
      (above.0, subst (Avoids s.form inode above.0) (sym same) above.1)
  | inr leaf ↦
      let up = reaches_dir s place.dir whole (whole.entry place inode is).within in
      (up.0, avoids_leaf s inode up.0 place.dir whole leaf up.1)
]

under_again : (dir other : ℕ) (f : Form) → form_under dir (form_under other f) ≡ form_under dir f
under_again dir other Absent = refl
under_again dir other Regular = refl
under_again dir other Link = refl
under_again dir other (Dir parent) = refl

-- Two entries that may change places: none is of the trash, and no directory comes into itself.
pub record MayExchange (s : Shape) (from : EntryKey) (source : ℕ) (to : EntryKey) (other : ℕ) : Type 0 where
  pub is : named s from ≡ Some source
  pub also : named s to ≡ Some other
  pub apart : source ≢ other
  pub from_out : from.dir < TRASH_ROOT
  pub to_out : to.dir < TRASH_ROOT
  pub steps : ℕ
  pub up : Avoids s.form source steps to.dir
  pub others : ℕ
  pub down : Avoids s.form other others from.dir

module _ (s : Shape) (from : EntryKey) (source : ℕ) (to : EntryKey) (other : ℕ) (name : List ℕ) (whole : WholeShape s)
    (may : MayExchange s from source to other)
    (vacant : named s (record { dir = ROOT; name = name }) ≡ None) where
  abbrev between : EntryKey
  between = record { dir = ROOT; name = name }

  abbrev first : Shape
  first = moved_shape s to other between

  abbrev second : Shape
  second = moved_shape first from source to

  abbrev third : Shape
  third = moved_shape second between other from

  from_to : from ≢ to
  from_to e = may.apart (same_Some _ _ (sym may.is ∙ ap (named s) e ∙ may.also))

  from_between : from ≢ between
  from_between e = none-some _ (sym vacant ∙ ap (named s) (sym e) ∙ may.is)

  to_between : to ≢ between
  to_between e = none-some _ (sym vacant ∙ ap (named s) (sym e) ∙ may.also)

  own_source : Names s from source
  own_source = whole.entry from source may.is

  own_other : Names s to other
  own_other = whole.entry to other may.also

  may_first : MayMove s to other between
  may_first = record {
    is = may.also;
    free = vacant;
    within = ap is_dir whole.root_there;
    leaves = no_trash to.dir may.to_out;
    enters = no_trash ROOT (omega arith);
    trashed = λ hour. absurd (no_hour ROOT (omega arith) hour);
    steps = 0;
    avoids = ((λ e. false≢true (sym own_other.free ∙ ap is_top (sym e))), refl);
  }

  first_whole : WholeShape first
  first_whole = whole-moved s to other between whole may_first

  first_dirs : (q parent : ℕ) → q ≢ source → q ≢ other → s.form q ≡ Dir parent → first.form q ≡ Dir parent
  first_dirs q parent off away is = with_form-apart s.form other (form_under ROOT (s.form other)) q away ∙ is

  may_second : MayMove first from source to
  may_second =
      let beside = entry_avoids s to other whole may.also in
      let up = avoids_beside s.form first.form source other first_dirs may.steps beside.0 to.dir may.up beside.1 in record {
        is = get-insert_apart entry_key (remove s.entries to) between other from from_between ∙ get-remove_apart entry_key s.entries to from from_to ∙ may.is;
        free = get-insert_apart entry_key (remove s.entries to) between other to to_between ∙ get-removed entry_key s.entries to;
        within = dir_same s to other between whole may_first to.dir ∙ own_other.within;
        leaves = no_trash from.dir may.from_out;
        enters = no_trash to.dir may.to_out;
        trashed = λ hour. absurd (no_hour to.dir may.to_out hour);
        steps = up.0;
        avoids = up.1;
      }

  second_whole : WholeShape second
  second_whole = whole-moved first from source to first_whole may_second

  second_dirs : (q parent : ℕ) → q ≢ other → q ≢ source → s.form q ≡ Dir parent → second.form q ≡ Dir parent
  second_dirs q parent away off is = with_form-apart first.form source (form_under to.dir (first.form source)) q off ∙ first_dirs q parent off away is

  may_third : MayMove second between other from
  may_third =
      let beside = entry_avoids s from source whole may.is in
      let up = avoids_beside s.form second.form other source second_dirs may.others beside.0 from.dir may.down beside.1 in record {
        is = get-insert_apart entry_key (remove first.entries from) to source between (λ e. to_between (sym e))
            ∙ get-remove_apart entry_key first.entries from between (λ e. from_between (sym e)) ∙ get-inserted entry_key (remove s.entries to) between other;
        free = get-insert_apart entry_key (remove first.entries from) to source from from_to ∙ get-removed entry_key first.entries from;
        within = dir_same first from source to first_whole may_second from.dir ∙ dir_same s to other between whole may_first from.dir ∙ own_source.within;
        leaves = no_trash ROOT (omega arith);
        enters = no_trash from.dir may.from_out;
        trashed = λ hour. absurd (no_hour from.dir may.from_out hour);
        steps = up.0;
        avoids = up.1;
      }

  -- the last move leaves what the exchange does
  abbrev final : Shape
  final = moved_in (moved_in s to source) from other

  entries_elsewhere : (q : EntryKey) → q ≢ from → q ≢ to → get third.entries q ≡ get final.entries q
  entries_elsewhere q off away =
      get-insert_apart entry_key (remove second.entries between) from other q off ∙ rest
      ∙ sym (get-insert_apart entry_key (insert s.entries to source) from other q off ∙ get-insert_apart entry_key s.entries to source q away)
    where
      rest : get (remove second.entries between) q ≡ get s.entries q
      rest = elim (same_or_apart entry_key q between) [
        | inl e ↦ ap (get (remove second.entries between)) e ∙ get-removed entry_key second.entries between ∙ sym (ap (named s) e ∙ vacant)
        | inr beside ↦
            get-remove_apart entry_key second.entries between q beside
            ∙ get-insert_apart entry_key (remove first.entries from) to source q away ∙ get-remove_apart entry_key first.entries from q off
            ∙ get-insert_apart entry_key (remove s.entries to) between other q beside ∙ get-remove_apart entry_key s.entries to q away
      ]

  entries_at : (q : EntryKey) → get third.entries q ≡ get final.entries q
  entries_at q = elim (same_or_apart entry_key q from) [
    | inl e ↦
        ap (get third.entries) e ∙ get-inserted entry_key (remove second.entries between) from other
        ∙ sym (ap (get final.entries) e ∙ get-inserted entry_key (insert s.entries to source) from other)
    | inr off ↦ elim (same_or_apart entry_key q to) [
      | inl e ↦
          get-insert_apart entry_key (remove second.entries between) from other q off
          ∙ ap (get (remove second.entries between)) e ∙ get-remove_apart entry_key second.entries between to to_between
          ∙ get-inserted entry_key (remove first.entries from) to source
          ∙ sym (get-insert_apart entry_key (insert s.entries to source) from other q off ∙ ap (get (insert s.entries to source)) e
          ∙ get-inserted entry_key s.entries to source)
      | inr away ↦ entries_elsewhere q off away
    ]
  ]

  first_source : first.form source ≡ s.form source
  first_source = with_form-apart s.form other (form_under ROOT (s.form other)) source may.apart

  other_source : other ≢ source
  other_source e = may.apart (sym e)

  second_other : second.form other ≡ form_under ROOT (s.form other)
  second_other = with_form-apart first.form source (form_under to.dir (first.form source)) other other_source
      ∙ with_form-here s.form other (form_under ROOT (s.form other))

  forms_at : (j : ℕ) → third.form j ≡ final.form j
  forms_at j = elim (cases_eq j other) [
    | inl e ↦
        ap third.form e ∙ with_form-here second.form other (form_under from.dir (second.form other))
        ∙ ap (form_under from.dir) second_other ∙ under_again from.dir ROOT (s.form other)
        ∙ sym (ap final.form e ∙ with_form-here (moved_in s to source).form other (form_under from.dir ((moved_in s to source).form other))
        ∙ ap (form_under from.dir) (with_form-apart s.form source (form_under to.dir (s.form source)) other other_source))
    | inr away ↦
        with_form-apart second.form other (form_under from.dir (second.form other)) j away ∙ rest j away
        ∙ sym (with_form-apart (moved_in s to source).form other (form_under from.dir ((moved_in s to source).form other)) j away)
  ]
    where
      rest : (q : ℕ) → q ≢ other → second.form q ≡ (moved_in s to source).form q
      rest q away = elim (cases_eq q source) [
        | inl e ↦
            ap second.form e ∙ with_form-here first.form source (form_under to.dir (first.form source)) ∙ ap (form_under to.dir) first_source
            ∙ sym (ap (moved_in s to source).form e ∙ with_form-here s.form source (form_under to.dir (s.form source)))
        | inr off ↦
            with_form-apart first.form source (form_under to.dir (first.form source)) q off
            ∙ with_form-apart s.form other (form_under ROOT (s.form other)) q away
            ∙ sym (with_form-apart s.form source (form_under to.dir (s.form source)) q off)
      ]

  third_is : third ≡ final
  third_is =
      let entries : third.entries ≡ final.entries = same_maps third.entries final.entries entries_at in
      λ i. record s { form = λ j. forms_at j i; entries = entries i }

  whole-exchanged_by : WholeShape final
  whole-exchanged_by = subst WholeShape third_is (whole-moved second between other from second_whole may_third)

-- a shape stays whole where two entries change places
whole-exchanged_shape : (s : Shape) (from : EntryKey) (source : ℕ) (to : EntryKey) (other : ℕ) → WholeShape s → MayExchange s from source to other
    → WholeShape (moved_in (moved_in s to source) from other)
unfolding free_place
whole-exchanged_shape s from source to other whole may = whole-exchanged_by s from source to other (free_place s.entries).name whole may
    (free_place-free s.entries)

-- a tree stays whole where two entries change places, of which none is in the trash
pub whole-exchanged : (t : Tree) (now : ℕ) (from : EntryKey) (source : ℕ) (to : EntryKey) (other : ℕ) → WholeShape (shape_of t)
    → named (shape_of t) from ≡ Some source → named (shape_of t) to ≡ Some other
    → source ≢ other → may_be_new from ≡ true → may_be_new to ≡ true → (is_inside t to.dir source || is_inside t from.dir other) ≡ false
    → WholeShape (shape_of (exchanged t now from source to other))
whole-exchanged t now from source to other whole is also apart leaves enters outside =
    let s = shape_of t in
    let tests = or_parts (is_inside t to.dir source) _ outside in
    let up = avoids_outside t to.dir source whole (whole.entry to other also).within tests.0 in
    let down = avoids_outside t from.dir other whole (whole.entry from source is).within tests.1 in
    subst WholeShape (sym (shape-exchanged t now from source to other)) (whole-exchanged_shape s from source to other whole (record {
      is = is;
      also = also;
      apart = apart;
      from_out = new_below from leaves;
      to_out = new_below to enters;
      steps = up.0;
      up = up.1;
      others = down.0;
      down = down.1;
    }))
