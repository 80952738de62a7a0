-- The link counts of a tree after each of its small changes. They are a function of the tree's shape.
use Rattle.std.proofs.Common.{◌≡◌, ◌≢◌, ℕ, ◌+◌, ◌<◌, Bool, true, false, cond, ◌&&◌, inl, inr, Option, None, Some, refl, sym, ap, ◌∙◌, arith, ne_eqb, eq-eqb, eqb-true}
use Rattle.std.specs.Prelude.{◌==◌, is_some, if◌then◌else◌}
use Rattle.std.specs.Option.{option_map}
use Rattle.std.proofs.lemmas.Bool.{cases_eq, false≢true}
use Rattle.jv_model.specs.declared.limits.TheConstants.{ROOT, TRASH_ROOT}
use Rattle.jv_model.specs.promise.FiniteMap.{number_key, get, insert, remove, sum_over}
use Rattle.jv_model.specs.promise.tree.Tree.{Tree, Node, Kind, File, Directory, Symlink, EntryKey, entry_key, node_at, is_directory, link_count, parent_of, naming, name_count}
use Rattle.jv_model.specs.promise.tree.Changes.{put_node, drop_node, change_node, put_entry, take_entry, with_node}
use Rattle.jv_model.specs.promise.tree.Renaming.{kind_under, moved_node, move_in, moved}
use Rattle.jv_volume.specs.promise.Shape.{Regular, Link, Dir, Shape, form_of, is_there, is_dir, WholeShape, shape_of}
use Rattle.jv_volume.proofs.operations.ChangeLaws.{change_node-entries, change_node-here, change_node-apart}
use Rattle.jv_volume.proofs.maps.MapLaws.{sum-new, sum-over, sum-gone, sum-nothing, sum-agree}
use Rattle.jv_volume.proofs.shapes.ShapeMapLaws.{naming_same, naming_apart, was_kept, get-inserted, get-insert_apart, get-remove_apart, Entries, count-insert, count-remove, count_none, shape-put_entry, shape-take_entry, is_dir-form}
-- a tree's directories are its shape's
pub use Rattle.jv_volume.proofs.shapes.ShapeMapLaws.{is_directory-form as dirs-shape}
pub use Rattle.jv_volume.proofs.shapes.EnteredShapeLaws.{next_absent}

-- whether an entry is of a directory in this one
abbrev pub within_of : (ℕ → Bool) → ℕ → EntryKey → ℕ → ℕ
within_of dirs dir at inode = (if at.dir == dir && dirs inode then 1 else 0)

-- the link count by which inodes are directories, and by entries
abbrev pub links_in : (ℕ → Bool) → Entries → ℕ → ℕ
links_in dirs m inode = (if dirs inode then 2 + sum_over (within_of dirs inode) m else name_count m inode)

abbrev pub dirs_of : Shape → ℕ → Bool
dirs_of s inode = is_dir (s.form inode)

-- the link count of an inode of a shape
abbrev pub links : Shape → ℕ → ℕ
links s inode = links_in (dirs_of s) s.entries inode

-- a tree's link counts are its shape's
pub link_count-shape : (t : Tree) (inode : ℕ) → link_count t inode ≡ links (shape_of t) inode
link_count-shape t inode = λ i. links_in (λ k. dirs-shape t k i) t.entries inode

-- trees of one shape have the same link counts
pub same_links : (t after : Tree) → shape_of after ≡ shape_of t → (inode : ℕ) → link_count after inode ≡ link_count t inode
same_links t after same inode = link_count-shape after inode ∙ ap (λ s. links s inode) same ∙ sym (link_count-shape t inode)

-- ---- what an entry adds

-- what an entry adds to the link count of an inode
abbrev pub link_share : (ℕ → Bool) → EntryKey → ℕ → ℕ → ℕ
link_share dirs at inode j = (if dirs j then within_of dirs j at inode else if inode == j then 1 else 0)

module _ (dirs : ℕ → Bool) (m : Entries) (at : EntryKey) (inode j : ℕ) where
  insert_by : (b : Bool) → get m at ≡ None
      → cond b (2 + sum_over (within_of dirs j) (insert m at inode)) (name_count (insert m at inode) j)
      ≡ cond b (2 + sum_over (within_of dirs j) m) (name_count m j) + cond b (within_of dirs j at inode) (if inode == j then 1 else 0)
  insert_by true free = let all = sum-new entry_key (within_of dirs j) m at inode free in omega (arith, all)
  insert_by false free = count-insert m at inode j free

  -- link counts with an entry at a free place
  pub links-insert : get m at ≡ None → links_in dirs (insert m at inode) j ≡ links_in dirs m j + link_share dirs at inode j
  links-insert free = insert_by (dirs j) free

  over_by : (b : Bool) (old : ℕ) → get m at ≡ Some old
      → cond b (2 + sum_over (within_of dirs j) (insert m at inode)) (name_count (insert m at inode) j) + cond b (within_of dirs j at old)
      (if old == j then 1 else 0)
      ≡ cond b (2 + sum_over (within_of dirs j) m) (name_count m j) + cond b (within_of dirs j at inode) (if inode == j then 1 else 0)
  over_by true old there = let all = sum-over entry_key (within_of dirs j) m at old inode there in omega (arith, all)
  over_by false old there = sum-over entry_key (naming j) m at old inode there

  -- link counts with another inode under an entry
  pub links-over : (old : ℕ) → get m at ≡ Some old → links_in dirs (insert m at inode) j + link_share dirs at old j
      ≡ links_in dirs m j + link_share dirs at inode j
  links-over old there = over_by (dirs j) old there

  remove_by : (b : Bool) → get m at ≡ Some inode
      → cond b (2 + sum_over (within_of dirs j) (remove m at)) (name_count (remove m at) j) + cond b (within_of dirs j at inode) (if inode == j then 1 else 0)
      ≡ cond b (2 + sum_over (within_of dirs j) m) (name_count m j)
  remove_by true there = let all = sum-gone entry_key (within_of dirs j) m at inode there in omega (arith, all)
  remove_by false there = count-remove m at inode j there

  -- link counts without an entry
  pub links-remove : get m at ≡ Some inode → links_in dirs (remove m at) j + link_share dirs at inode j ≡ links_in dirs m j
  links-remove there = remove_by (dirs j) there

-- link counts where all that entries name are directories as before
pub links-agree : (dirs after : ℕ → Bool) (m : Entries) (j : ℕ) → after j ≡ dirs j
    → ((at : EntryKey) (inode : ℕ) → get m at ≡ Some inode → after inode ≡ dirs inode)
    → links_in after m j ≡ links_in dirs m j
links-agree dirs after m j here same =
    ap (λ b. if b then 2 + sum_over (within_of after j) m else name_count m j) here
    ∙ ap (λ n. if dirs j then 2 + n else name_count m j)
    (sum-agree entry_key (within_of after j) (within_of dirs j) m (λ at inode e. ap (λ b. if at.dir == j && b then 1 else 0) (same at inode e)))

-- the link count of an inode that no entry names, and that has no entries
pub links-alone : (dirs : ℕ → Bool) (m : Entries) (j : ℕ) → ((at : EntryKey) (inode : ℕ) → get m at ≡ Some inode → (inode ≢ j) × (at.dir ≢ j))
    → links_in dirs m j ≡ (if dirs j then 2 else 0)
links-alone dirs m j apart =
    let none : name_count m j ≡ 0 = count_none m j (λ at e. (apart at j e).0 refl) in
    let empty : sum_over (within_of dirs j) m ≡ 0 =
    sum-nothing entry_key (within_of dirs j) m (λ at inode e. ap (λ b. if b && dirs inode then 1 else 0) (ne_eqb at.dir j (apart at inode e).1)) in
    λ i. if dirs j then 2 + empty i else none i

leaf_by : (dir here leaf same : Bool) → leaf ≡ false → (same ≡ true → dir ≡ false)
    → cond dir (cond (here && leaf) 1 0) (cond same 1 0) ≡ (let n : ℕ = cond same 1 0 in n)
leaf_by false here leaf same e apart = refl
leaf_by true here true same e apart = absurd (false≢true (sym e))
leaf_by true here false true e apart = absurd (false≢true (sym (apart refl)))
leaf_by true true false false e apart = refl
leaf_by true false false false e apart = refl

-- what a file's or a symlink's entry adds: one to itself
pub share-leaf : (dirs : ℕ → Bool) (at : EntryKey) (inode j : ℕ) → dirs inode ≡ false → link_share dirs at inode j ≡ naming j at inode
share-leaf dirs at inode j leaf =
    leaf_by (dirs j) (at.dir == j) (dirs inode) (inode == j) leaf (λ same. ap dirs (sym (eqb-true inode j same)) ∙ leaf)

dir_by : (dir here is same : Bool) → is ≡ true → (here ≡ true → dir ≡ true) → (same ≡ true → dir ≡ true)
    → cond dir (cond (here && is) 1 0) (cond same 1 0) ≡ (let n : ℕ = cond here 1 0 in n)
dir_by true true true same e within itself = refl
dir_by true false true same e within itself = refl
dir_by dir here false same e within itself = absurd (false≢true e)
dir_by false true is same e within itself = absurd (false≢true (within refl))
dir_by false false is true e within itself = absurd (false≢true (itself refl))
dir_by false false is false e within itself = refl

-- one for each entry in a directory
abbrev pub standing : ℕ → EntryKey → ℕ
standing dir at = (if at.dir == dir then 1 else 0)

pub standing_apart : (dir : ℕ) (at : EntryKey) → at.dir ≢ dir → standing dir at ≡ 0
standing_apart dir at apart = ap (λ b. if b then 1 else 0) (ne_eqb at.dir dir apart)

pub standing_here : (dir : ℕ) (at : EntryKey) → at.dir ≡ dir → standing dir at ≡ 1
standing_here dir at same = ap (λ b. if b then 1 else 0) (eq-eqb at.dir dir same)

-- a link that a test counts is none where there is none
pub none_within : (b : Bool) (n : ℕ) → n ≡ 0 → (if b then n else 0) ≡ 0
none_within true n e = e
none_within false n e = refl

-- what a directory's entry adds: one to the directory that it stands in
pub share-dir : (dirs : ℕ → Bool) (at : EntryKey) (inode j : ℕ) → dirs inode ≡ true → dirs at.dir ≡ true → link_share dirs at inode j ≡ standing j at
share-dir dirs at inode j is within =
    dir_by (dirs j) (at.dir == j) (dirs inode) (inode == j) is (λ here. ap dirs (sym (eqb-true at.dir j here))
    ∙ within) (λ same. ap dirs (sym (eqb-true inode j same)) ∙ is)

-- ---- the link counts of a tree after a small change

module _ (t : Tree) (now : ℕ) (at : EntryKey) (inode j : ℕ) where
  pub link_count-put_entry : get t.entries at ≡ None → link_count (put_entry t now at inode) j ≡ link_count t j + link_share (dirs_of (shape_of t)) at inode j
  link_count-put_entry free =
      link_count-shape (put_entry t now at inode) j ∙ ap (λ s. links s j) (shape-put_entry t now at inode)
      ∙ links-insert (dirs_of (shape_of t)) t.entries at inode j free ∙ ap (λ n. n + link_share (dirs_of (shape_of t)) at inode j) (sym (link_count-shape t j))

  pub link_count-put_over : (old : ℕ) → get t.entries at ≡ Some old
      → link_count (put_entry t now at inode) j + link_share (dirs_of (shape_of t)) at old j ≡ link_count t j + link_share (dirs_of (shape_of t)) at inode j
  link_count-put_over old there =
      ap (λ n. n + link_share (dirs_of (shape_of t)) at old j) (link_count-shape (put_entry t now at inode) j
      ∙ ap (λ s. links s j) (shape-put_entry t now at inode))
      ∙ links-over (dirs_of (shape_of t)) t.entries at inode j old there
      ∙ ap (λ n. n + link_share (dirs_of (shape_of t)) at inode j) (sym (link_count-shape t j))

  pub link_count-take_entry : get t.entries at ≡ Some inode → link_count (take_entry t now at) j + link_share (dirs_of (shape_of t)) at inode j ≡ link_count t j
  link_count-take_entry there =
      ap (λ n. n + link_share (dirs_of (shape_of t)) at inode j) (link_count-shape (take_entry t now at) j ∙ ap (λ s. links s j) (shape-take_entry t now at))
      ∙ links-remove (dirs_of (shape_of t)) t.entries at inode j there ∙ sym (link_count-shape t j)

  -- an entry of a file or a symlink
  pub link_count-put_entry-leaf : get t.entries at ≡ None → is_directory t inode ≡ false
      → link_count (put_entry t now at inode) j ≡ link_count t j + naming j at inode
  link_count-put_entry-leaf free leaf =
      link_count-put_entry free ∙ ap (λ n. link_count t j + n) (share-leaf (dirs_of (shape_of t)) at inode j (sym (dirs-shape t inode) ∙ leaf))

  pub link_count-take_entry-leaf : get t.entries at ≡ Some inode → is_directory t inode ≡ false
      → link_count (take_entry t now at) j + naming j at inode ≡ link_count t j
  link_count-take_entry-leaf there leaf =
      ap (λ n. link_count (take_entry t now at) j + n) (sym (share-leaf (dirs_of (shape_of t)) at inode j (sym (dirs-shape t inode) ∙ leaf)))
      ∙ link_count-take_entry there

  -- an entry of a directory
  pub link_count-put_entry-dir : get t.entries at ≡ None → is_directory t inode ≡ true → is_directory t at.dir ≡ true
      → link_count (put_entry t now at inode) j ≡ link_count t j + standing j at
  link_count-put_entry-dir free is within =
      link_count-put_entry free
      ∙ ap (λ n. link_count t j + n) (share-dir (dirs_of (shape_of t)) at inode j (sym (dirs-shape t inode) ∙ is) (sym (dirs-shape t at.dir) ∙ within))

  pub link_count-take_entry-dir : get t.entries at ≡ Some inode → is_directory t inode ≡ true → is_directory t at.dir ≡ true
      → link_count (take_entry t now at) j + standing j at ≡ link_count t j
  link_count-take_entry-dir there is within =
      ap (λ n. link_count (take_entry t now at) j + n) (sym (share-dir (dirs_of (shape_of t)) at inode j (sym (dirs-shape t inode)
      ∙ is) (sym (dirs-shape t at.dir) ∙ within)))
      ∙ link_count-take_entry there

-- trees whose nodes are directories as before, but for those that no entry names
pub link_count-agree : (t after : Tree) (j : ℕ) → after.entries ≡ t.entries → is_directory after j ≡ is_directory t j
    → ((at : EntryKey) (inode : ℕ) → get t.entries at ≡ Some inode → is_directory after inode ≡ is_directory t inode) → link_count after j ≡ link_count t j
link_count-agree t after j entries here same =
    link_count-shape after j ∙ ap (λ m. links_in (dirs_of (shape_of after)) m j) entries
    ∙ links-agree (dirs_of (shape_of t)) (dirs_of (shape_of after)) t.entries j (as_dirs j here) (λ at inode e. as_dirs inode (same at inode e))
    ∙ sym (link_count-shape t j)
  where
    as_dirs : (inode : ℕ) → is_directory after inode ≡ is_directory t inode → dirs_of (shape_of after) inode ≡ dirs_of (shape_of t) inode
    as_dirs inode e = sym (dirs-shape after inode) ∙ e ∙ dirs-shape t inode

-- a node put at an inode that no entry names
pub link_count-put_unnamed : (t : Tree) (inode : ℕ) (node : Node) (j : ℕ) → ((at : EntryKey) → get t.entries at ≢ Some inode) → j ≢ inode
    → link_count (put_node t inode node) j ≡ link_count t j
link_count-put_unnamed t inode node j unnamed apart =
    link_count-agree t (put_node t inode node) j refl (kept j apart) (λ at other e. kept other (λ same. unnamed at (e ∙ ap (λ i. Some i) same)))
  where
    kept : (k : ℕ) → k ≢ inode → is_directory (put_node t inode node) k ≡ is_directory t k
    kept k other = ap (λ o. is_some (parent_of o)) (get-insert_apart number_key t.nodes inode node k other)

-- a node dropped that no entry names
pub link_count-drop_unnamed : (t : Tree) (inode j : ℕ) → ((at : EntryKey) → get t.entries at ≢ Some inode) → j ≢ inode
    → link_count (drop_node t inode) j ≡ link_count t j
link_count-drop_unnamed t inode j unnamed apart =
    link_count-agree t (drop_node t inode) j refl (kept j apart) (λ at other e. kept other (λ same. unnamed at (e ∙ ap (λ i. Some i) same)))
  where
    kept : (k : ℕ) → k ≢ inode → is_directory (drop_node t inode) k ≡ is_directory t k
    kept k other = ap (λ o. is_some (parent_of o)) (get-remove_apart number_key t.nodes inode k other)

-- a node changed that stays a directory, or stays none
module _ (t : Tree) (inode : ℕ) (change : Node → Node) (keeps : (node : Node) → is_dir (form_of (Some (change node))) ≡ is_dir (form_of (Some node))) where
  changed_dir : (o : Option Node) → is_some (parent_of (option_map change o)) ≡ is_some (parent_of o)
  changed_dir None = refl
  changed_dir (Some node) = sym (is_dir-form (Some (change node))) ∙ keeps node ∙ is_dir-form (Some node)

  pub is_directory-change_node : (k : ℕ) → is_directory (change_node t inode change) k ≡ is_directory t k
  is_directory-change_node k = elim (cases_eq k inode) [
    | inl same ↦ ap (is_directory (change_node t inode change)) same ∙ ap (λ o. is_some (parent_of o)) (change_node-here t inode change)
        ∙ changed_dir (node_at t inode) ∙ sym (ap (is_directory t) same)
    | inr apart ↦ ap (λ o. is_some (parent_of o)) (change_node-apart t inode change k apart)
  ]

  pub link_count-change_node : (j : ℕ) → link_count (change_node t inode change) j ≡ link_count t j
  link_count-change_node j = link_count-agree t (change_node t inode change) j (change_node-entries t inode change) (is_directory-change_node j)
      (λ at other e. is_directory-change_node other)

-- ---- which inodes are directories after a small change

pub is_directory-put_entry : (t : Tree) (now : ℕ) (at : EntryKey) (inode k : ℕ) → is_directory (put_entry t now at inode) k ≡ is_directory t k
is_directory-put_entry t now at inode k = dirs-shape (put_entry t now at inode) k ∙ ap (λ s. dirs_of s k) (shape-put_entry t now at inode)
    ∙ sym (dirs-shape t k)

pub is_directory-take_entry : (t : Tree) (now : ℕ) (at : EntryKey) (k : ℕ) → is_directory (take_entry t now at) k ≡ is_directory t k
is_directory-take_entry t now at k = dirs-shape (take_entry t now at) k ∙ ap (λ s. dirs_of s k) (shape-take_entry t now at) ∙ sym (dirs-shape t k)

pub is_directory-put_here : (t : Tree) (inode : ℕ) (node : Node) → is_directory (put_node t inode node) inode ≡ is_dir (form_of (Some node))
is_directory-put_here t inode node = ap (λ o. is_some (parent_of o)) (get-inserted number_key t.nodes inode node) ∙ sym (is_dir-form (Some node))

pub is_directory-put_apart : (t : Tree) (inode : ℕ) (node : Node) (k : ℕ) → k ≢ inode → is_directory (put_node t inode node) k ≡ is_directory t k
is_directory-put_apart t inode node k apart = ap (λ o. is_some (parent_of o)) (get-insert_apart number_key t.nodes inode node k apart)

pub is_directory-none : (t : Tree) (inode : ℕ) → node_at t inode ≡ None → is_directory t inode ≡ false
is_directory-none t inode none = ap (λ o. is_some (parent_of o)) none

-- ---- a new node under a new entry

-- an inode that isn't there: no entry names it, and it has none
pub record IsFree (t : Tree) (inode : ℕ) : Type 0 where
  pub absent : node_at t inode ≡ None
  pub unnamed : (at : EntryKey) → get t.entries at ≢ Some inode
  pub empty : (at : EntryKey) (other : ℕ) → get t.entries at ≡ Some other → at.dir ≢ inode

-- in a whole tree every inode that isn't there is free
pub free_inode : (t : Tree) (inode : ℕ) → WholeShape (shape_of t) → node_at t inode ≡ None → IsFree t inode
free_inode t inode whole none = record {
  absent = none;
  unnamed = λ at e. absurd (false≢true (sym (ap (λ o. is_there (form_of o)) none) ∙ (whole.entry at inode e).there));
  empty = λ at other e same. absurd (false≢true (sym (ap (λ o. is_dir (form_of o)) (ap (node_at t) same ∙ none)) ∙ (whole.entry at other e).within));
}

-- the next inode counts for used space
pub next_low : (t : Tree) → WholeShape (shape_of t) → (ROOT < t.next_inode) × (t.next_inode < TRASH_ROOT)
next_low t whole = (whole.below ROOT (ap is_there whole.root_there) refl, omega (arith, whole.inodes_end))

-- a new node has no link before its entry comes, or those of an empty directory
pub link_count-put_alone : (t : Tree) (inode : ℕ) (node : Node) → IsFree t inode
    → link_count (put_node t inode node) inode ≡ (if is_dir (form_of (Some node)) then 2 else 0)
link_count-put_alone t inode node free =
    link_count-shape (put_node t inode node) inode
    ∙ links-alone (dirs_of (shape_of (put_node t inode node))) t.entries inode (λ at other e. (
      λ same. free.unnamed at (e
          ∙ ap (λ i. Some i) same),
      free.empty at other e,
    ))
    ∙ ap (λ b. if b then 2 else 0) (sym (dirs-shape (put_node t inode node) inode) ∙ is_directory-put_here t inode node)

module _ (t : Tree) (now : ℕ) (place : EntryKey) (inode : ℕ) (node : Node) (free : IsFree t inode) (vacant : get t.entries place ≡ None) where
  abbrev with_it : Tree
  with_it = put_node t inode node

  apart_of : (k : ℕ) → is_directory t k ≡ true → k ≢ inode
  apart_of k is same = absurd (false≢true (sym (is_directory-none t inode free.absent) ∙ ap (is_directory t) (sym same) ∙ is))

  -- a new file or symlink has one link, and no other link count changes
  pub link_count-new_leaf : is_dir (form_of (Some node)) ≡ false → link_count (with_node t now place inode node) inode ≡ 1
  link_count-new_leaf leaf =
      link_count-put_entry-leaf with_it now place inode inode vacant (is_directory-put_here t inode node ∙ leaf)
      ∙ (λ i. (link_count-put_alone t inode node free ∙ ap (λ b. if b then 2 else 0) leaf) i + naming_same inode place i)

  pub link_count-beside_leaf : is_dir (form_of (Some node)) ≡ false → (j : ℕ) → j ≢ inode → link_count (with_node t now place inode node) j ≡ link_count t j
  link_count-beside_leaf leaf j other =
      let all = link_count-put_entry-leaf with_it now place inode j vacant (is_directory-put_here t inode node ∙ leaf) in
      let nothing = naming_apart j place inode (λ same. other (sym same)) in
      let before = link_count-put_unnamed t inode node j free.unnamed other in
      omega (arith, all, nothing, before)

  -- a new directory has two, and its parent one more
  pub link_count-new_dir : is_dir (form_of (Some node)) ≡ true → is_directory t place.dir ≡ true → link_count (with_node t now place inode node) inode ≡ 2
  link_count-new_dir is within =
      link_count-put_entry-dir with_it now place inode inode vacant (is_directory-put_here t inode node
      ∙ is) (is_directory-put_apart t inode node place.dir (apart_of place.dir within) ∙ within)
      ∙ (λ i. (link_count-put_alone t inode node free ∙ ap (λ b. if b then 2 else 0) is) i + standing_apart inode place (apart_of place.dir within) i)

  pub link_count-beside_dir : is_dir (form_of (Some node)) ≡ true → is_directory t place.dir ≡ true → (j : ℕ) → j ≢ inode
      → link_count (with_node t now place inode node) j ≡ link_count t j + standing j place
  link_count-beside_dir is within j other =
      link_count-put_entry-dir with_it now place inode j vacant (is_directory-put_here t inode node
      ∙ is) (is_directory-put_apart t inode node place.dir (apart_of place.dir within) ∙ within)
      ∙ ap (λ n. n + standing j place) (link_count-put_unnamed t inode node j free.unnamed other)

-- ---- an inode without its only entry

module _ (t : Tree) (now : ℕ) (place : EntryKey) (inode : ℕ) (there : get t.entries place ≡ Some inode) (only : (at : EntryKey)
    → get t.entries at ≡ Some inode → at ≡ place) (j : ℕ) (other : j ≢ inode) where
  dropped : link_count (drop_node (take_entry t now place) inode) j ≡ link_count (take_entry t now place) j
  dropped = link_count-drop_unnamed (take_entry t now place) inode j
      (λ at e. let kept = was_kept entry_key t.entries place at inode e in kept.0 (only at kept.1)) other

  -- no other link count changes by a file or a symlink that goes
  pub link_count-without_leaf : is_directory t inode ≡ false → link_count (drop_node (take_entry t now place) inode) j ≡ link_count t j
  link_count-without_leaf leaf =
      let all = link_count-take_entry-leaf t now place inode j there leaf in
      let nothing = naming_apart j place inode (λ same. other (sym same)) in
      let same = dropped in
      omega (arith, all, nothing, same)

  -- a directory that goes takes one from its parent's
  pub link_count-without_dir : is_directory t inode ≡ true → is_directory t place.dir ≡ true
      → link_count (drop_node (take_entry t now place) inode) j + standing j place ≡ link_count t j
  link_count-without_dir is within = ap (λ n. n + standing j place) dropped ∙ link_count-take_entry-dir t now place inode j there is within

-- ---- an inode that moves

moved_form : (dir now : ℕ) (node : Node) → is_dir (form_of (Some (moved_node now dir node))) ≡ is_dir (form_of (Some node))
moved_form dir now node = by_kind node.kind
  where
    by_kind : (kind : Kind) → is_dir (elim (kind_under dir kind) [ File content ↦ Regular | Directory parent ↦ Dir parent | Symlink target ↦ Link ])
        ≡ is_dir (elim kind [ File content ↦ Regular | Directory parent ↦ Dir parent | Symlink target ↦ Link ])
    by_kind (File content) = refl
    by_kind (Directory parent) = refl
    by_kind (Symlink target) = refl

pub is_directory-move_in : (t : Tree) (now : ℕ) (place : EntryKey) (inode k : ℕ) → is_directory (move_in t now place inode) k ≡ is_directory t k
is_directory-move_in t now place inode k =
    is_directory-change_node (put_entry t now place inode) inode (moved_node now place.dir) (moved_form place.dir now) k
    ∙ is_directory-put_entry t now place inode k

pub link_count-move_in : (t : Tree) (now : ℕ) (place : EntryKey) (inode j : ℕ)
    → link_count (move_in t now place inode) j ≡ link_count (put_entry t now place inode) j
link_count-move_in t now place inode j = link_count-change_node (put_entry t now place inode) inode (moved_node now place.dir) (moved_form place.dir now) j

module _ (t : Tree) (now : ℕ) (from : EntryKey) (inode : ℕ) (to : EntryKey) (there : get t.entries from ≡ Some inode) (vacant : get t.entries to
    ≡ None) (j : ℕ) where
  still_vacant : get (take_entry t now from).entries to ≡ None
  still_vacant = get-remove_apart entry_key t.entries from to (λ same. let here : get t.entries to ≡ Some inode = ap (get t.entries) same
      ∙ there in absurd (cc)) ∙ vacant

  -- a file or a symlink that moves changes no link count
  pub link_count-moved_leaf : is_directory t inode ≡ false → link_count (moved t now from inode to) j ≡ link_count t j
  link_count-moved_leaf leaf =
      link_count-move_in (take_entry t now from) now to inode j
      ∙ link_count-put_entry-leaf (take_entry t now from) now to inode j still_vacant (is_directory-take_entry t now from inode ∙ leaf)
      ∙ link_count-take_entry-leaf t now from inode j there leaf

  -- a directory that moves is one less for the parent that it had, and one more for the parent that it gets
  pub link_count-moved_dir : is_directory t inode ≡ true → is_directory t from.dir ≡ true → is_directory t to.dir ≡ true
      → link_count (moved t now from inode to) j + standing j from ≡ link_count t j + standing j to
  link_count-moved_dir is before after =
      let put = link_count-move_in (take_entry t now from) now to inode j
      ∙ link_count-put_entry-dir (take_entry t now from) now to inode j still_vacant (is_directory-take_entry t now from inode
      ∙ is) (is_directory-take_entry t now from to.dir ∙ after) in
      let taken = link_count-take_entry-dir t now from inode j there is before in
      omega (arith, put, taken)
