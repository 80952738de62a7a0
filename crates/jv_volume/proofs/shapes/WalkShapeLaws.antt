-- Where paths lead in a whole tree, and what the tests of a new entry say of its place.
use Rattle.std.proofs.Common.{◌≡◌, ℕ, zero, suc, Bool, true, false, not, ◌||◌, if◌then◌else◌, inl, inr, List, [], ◌∷◌, ◌++◌, length, Option, None, Some, is_some, Result, Ok, Err, refl, sym, ap, subst, ◌∙◌}
use Rattle.std.specs.Prelude.{nat_le}
use Rattle.std.proofs.lemmas.Bool.{cases_Bool, cases_cond, false≢true, not-true}
use Rattle.jv_model.specs.declared.limits.TheConstants.{MAX_NAME, MAX_PATH, MAX_SYMLINKS, ROOT, TRASH_ROOT}
use Rattle.jv_model.specs.declared.fault.Fault.{Fault}
use Rattle.jv_model.specs.declared.fault.Fault.TheVariants.{NotFound, NotADirectory, Invalid, NameTooLong, AlreadyExists, NotPermitted, SymlinkLoop}
use Rattle.jv_model.specs.promise.FiniteMap.{get}
use Rattle.jv_model.specs.promise.tree.Attempt.{◌>>=◌, require, some_or}
use Rattle.jv_model.specs.promise.tree.Tree.{Tree, EntryKey, node_at, parent_at, is_directory}
use Rattle.jv_model.specs.promise.tree.Walk.{is_absolute, names_of, is_dot, is_dot_dot, is_trash, named_from, stepped, way_on, walk_names, walk, inode_by, all_but_last, entry_of}
use Rattle.jv_model.specs.promise.tree.Making.{may_be_new, new_place}
use Rattle.jv_model.proofs.TestLaws.{none_if, same_Ok}
use Rattle.jv_model.specs.promise.Lists.{last_item}
use Rattle.jv_volume.specs.promise.Shape.{Dir, is_dir, shape_of, is_top, WholeShape}
use Rattle.jv_volume.proofs.shapes.ShapeMapLaws.{IsNamed, form-parent, is_directory-form}
use Rattle.jv_volume.proofs.shapes.ClimbLaws.{top_parent}

-- steps of an attempt that was made

-- a step that was made, and the attempt after it
pub went_on : {A B : Type 0} (x : Result A Fault) (next : A → Result B Fault) (y : B) → (x >>= next) ≡ Ok y → (a : A) × (x ≡ Ok a) × (next a ≡ Ok y)
went_on (Ok a) next y h = (a, refl, h)
went_on (Err fault) next y h = absurd (cc)

-- a test that was required passed
pub required : (b : Bool) (fault : Fault) (u : Unit {0}) → require b fault ≡ Ok u → b ≡ true
required true fault u h = refl
required false fault u h = absurd (cc)

-- a value that was required was there
pub was_some : {A : Type 0} (o : Option A) (fault : Fault) (x : A) → some_or o fault ≡ Ok x → o ≡ Some x
was_some None fault x h = absurd (cc)
was_some (Some a) fault x h = (let same : a ≡ x = cc in ap Some same)

-- where walks lead

-- a directory, or what an entry names
pub data IsReached (t : Tree) (inode : ℕ) : Type 0 where
  Directory : is_directory t inode ≡ true → IsReached t inode
  Entry : IsNamed t.entries inode → IsReached t inode

-- how a walk goes on behind a name, by the target of a symlink
abbrev pub onwards : Tree → Bool → (ℕ → List (List ℕ) → Result ℕ Fault) → ℕ → List (List ℕ) → ℕ → Option (List ℕ) → Result ℕ Fault
onwards t follow again inode names next None = walk_names again t follow next names
onwards t follow again inode names next (Some target) = again (if is_absolute target then ROOT else inode) (names_of target ++ names)

module _ (t : Tree) (w : WholeShape (shape_of t)) where
  directory_by_form : (inode parent : ℕ) → (shape_of t).form inode ≡ Dir parent → is_directory t inode ≡ true
  directory_by_form inode parent is = is_directory-form t inode ∙ ap is_dir is

  -- the root is a directory
  pub root_directory : is_directory t ROOT ≡ true
  root_directory = directory_by_form ROOT ROOT w.root_there

  -- and so is the trash
  pub trash_directory : is_directory t TRASH_ROOT ≡ true
  trash_directory = directory_by_form TRASH_ROOT ROOT w.trash_there

  -- a directory's parent is one
  pub parent_directory : (inode parent : ℕ) → parent_at t inode ≡ Some parent → is_directory t parent ≡ true
  parent_directory inode parent is =
      let form = form-parent (node_at t inode) parent is in
      elim (cases_Bool (is_top inode)) [
        | inl top ↦ ap (is_directory t) (top_parent (shape_of t) inode parent w top form) ∙ root_directory
        | inr below ↦
            let entered = w.entered inode parent form below in
            is_directory-form t parent ∙ (w.entry (record { dir = parent; name = entered.name }) inode entered.is).within
      ]

  named_reached : (inode parent : ℕ) (name : List ℕ) (next : ℕ) → parent_at t inode ≡ Some parent → named_from t inode parent name ≡ Ok next
      → IsReached t next
  named_reached inode parent name next is h = elim (cases_cond (is_dot name) _ _ (Ok next) (sym h)) [
    | inl e ↦ Directory (ap (is_directory t) (same_Ok next inode e) ∙ ap is_some is)
    | inr e ↦ elim (cases_cond (is_dot_dot name) _ _ (Ok next) e) [
      | inl e ↦ Directory (ap (is_directory t) (same_Ok next parent e) ∙ parent_directory inode parent is)
      | inr e ↦ elim (cases_cond (is_trash inode name) _ _ (Ok next) e) [
        | inl e ↦ Directory (ap (is_directory t) (same_Ok next TRASH_ROOT e) ∙ trash_directory)
        | inr e ↦ Entry (record { at = record { dir = inode; name = name }; is = was_some _ NotFound next (sym e) })
      ]
    ]
  ]

  stepped_reached : (inode : ℕ) (name : List ℕ) (next : ℕ) → stepped t inode name ≡ Ok next → IsReached t next
  stepped_reached inode name next h =
      let from = λ (parent : ℕ). require (nat_le (length name) MAX_NAME) NameTooLong >>= (λ _. named_from t inode parent name) in
      let parent = went_on (some_or (parent_at t inode) NotADirectory) from next h in
      let short = went_on (require (nat_le (length name) MAX_NAME) NameTooLong) (λ _. named_from t inode parent.0 name) next parent.2 in
      named_reached inode parent.0 name next (was_some _ NotADirectory parent.0 parent.1) short.2

  -- what a walk goes on by leads from what it reached to what it reaches
  abbrev GoesOn : (ℕ → List (List ℕ) → Result ℕ Fault) → Type 0
  GoesOn again = (dir : ℕ) (names : List (List ℕ)) (result : ℕ) → IsReached t dir → again dir names ≡ Ok result → IsReached t result

  from_reached : (inode : ℕ) (b : Bool) → IsReached t inode → IsReached t (if b then ROOT else inode)
  from_reached inode true r = Directory root_directory
  from_reached inode false r = r

  onwards_reached : (again : ℕ → List (List ℕ) → Result ℕ Fault) (follow : Bool) (inode : ℕ) (names : List (List ℕ)) (next : ℕ)
      (o : Option (List ℕ)) (result : ℕ) → GoesOn again
      → (walk_names again t follow next names ≡ Ok result → IsReached t result) → IsReached t inode → onwards t follow again inode names next o ≡ Ok result
      → IsReached t result
  onwards_reached again follow inode names next None result goes rest r h = rest h
  onwards_reached again follow inode names next (Some target) result goes rest r h =
      goes (if is_absolute target then ROOT else inode) (names_of target ++ names) result (from_reached inode (is_absolute target) r) h

  names_reached : (again : ℕ → List (List ℕ) → Result ℕ Fault) (follow : Bool) (inode : ℕ) (names : List (List ℕ)) (result : ℕ) → GoesOn again
      → IsReached t inode → walk_names again t follow inode names ≡ Ok result → IsReached t result
  unfolding walk_names
  names_reached again follow inode [] result goes r h = subst (IsReached t) (same_Ok inode result h) r
  names_reached again follow inode (name ∷ names) result goes r h =
      let next = went_on (stepped t inode name) (λ next. onwards t follow again inode names next (way_on t follow names next)) result h in
      onwards_reached again follow inode names next.0 (way_on t follow names next.0) result goes
      (λ g. names_reached again follow next.0 names result goes (stepped_reached inode name next.0 next.1) g) r next.2

  walk_reached : (left : ℕ) (follow : Bool) (inode : ℕ) (names : List (List ℕ)) (result : ℕ) → IsReached t inode → walk left t follow inode names ≡ Ok result
      → IsReached t result
  unfolding walk
  walk_reached zero follow inode names result r h =
      names_reached (λ at rest. Err SymlinkLoop) follow inode names result (λ dir rest end from e. absurd (cc)) r h
  walk_reached (suc left) follow inode names result r h =
      names_reached (λ at rest. walk left t follow at rest) follow inode names result
      (λ dir rest end from e. walk_reached left follow dir rest end from e) r h

  -- a path leads to a directory, or to what an entry names
  pub path_reached : (follow : Bool) (path : List ℕ) (inode : ℕ) → inode_by follow t path ≡ Ok inode → IsReached t inode
  path_reached follow path inode h =
      let short = went_on (require (nat_le (length path) MAX_PATH) NameTooLong) (λ _. walk MAX_SYMLINKS t follow ROOT (names_of path)) inode h in
      walk_reached MAX_SYMLINKS follow ROOT (names_of path) inode (Directory root_directory) short.2

  named_if_leaf : (inode : ℕ) → is_directory t inode ≡ false → IsReached t inode → IsNamed t.entries inode
  named_if_leaf inode leaf (Directory is) = absurd (false≢true (sym leaf ∙ is))
  named_if_leaf inode leaf (Entry is) = is

  -- so a file or a symlink that a path leads to has an entry
  pub path_named : (follow : Bool) (path : List ℕ) (inode : ℕ) → inode_by follow t path ≡ Ok inode → is_directory t inode ≡ false → IsNamed t.entries inode
  path_named follow path inode h leaf = named_if_leaf inode leaf (path_reached follow path inode h)

-- the places of entries

module _ (t : Tree) (path : List ℕ) where
  abbrev pub of_length : List ℕ → ℕ → Result EntryKey Fault
  of_length name dir = require (nat_le (length name) MAX_NAME) NameTooLong >>= (λ _. Ok (record { dir = dir; name = name }))

  abbrev pub of_dir : List ℕ → ℕ → Result EntryKey Fault
  of_dir name dir = require (is_directory t dir) NotADirectory >>= (λ _. of_length name dir)

  abbrev pub above : Result ℕ Fault
  above = walk MAX_SYMLINKS t true ROOT (all_but_last (names_of path))

  abbrev pub of_name : List ℕ → Result EntryKey Fault
  of_name name = require (not (is_dot name || is_dot_dot name)) Invalid >>= (λ _. above >>= of_dir name)

  -- the entry of a path stands in a directory
  pub entry_within : (place : EntryKey) → entry_of t path ≡ Ok place → is_directory t place.dir ≡ true
  entry_within place h =
      let short = went_on (require (nat_le (length path) MAX_PATH) NameTooLong) (λ _. some_or (last_item (names_of path)) Invalid >>= of_name) place h in
      let name = went_on (some_or (last_item (names_of path)) Invalid) of_name place short.2 in
      let plain = went_on (require (not (is_dot name.0 || is_dot_dot name.0)) Invalid) (λ _. above >>= of_dir name.0) place name.2 in
      let dir = went_on above (of_dir name.0) place plain.2 in
      let within = went_on (require (is_directory t dir.0) NotADirectory) (λ _. of_length name.0 dir.0) place dir.2 in
      let fits = went_on (require (nat_le (length name.0) MAX_NAME) NameTooLong) (λ _. Ok (record { dir = dir.0; name = name.0 })) place within.2 in
      let same : record { dir = dir.0; name = name.0 } ≡ place = same_Ok _ place fits.2 in
      ap (λ (p : EntryKey). is_directory t p.dir) (sym same) ∙ required _ NotADirectory within.0 within.1

-- where a new entry may stand
pub record IsNewPlace (t : Tree) (place : EntryKey) : Type 0 where
  pub free : get t.entries place ≡ None
  pub within : is_directory t place.dir ≡ true
  pub may : may_be_new place ≡ true

-- what the tests of a new place say
pub is_new_place : (t : Tree) (path : List ℕ) (place : EntryKey) → new_place t path ≡ Ok place → IsNewPlace t place
is_new_place t path place h =
    let free_at = λ (p : EntryKey). require (not (is_some (get t.entries p))) AlreadyExists >>= (λ _. Ok p) in
    let at = went_on (entry_of t path) (λ p. require (may_be_new p) NotPermitted >>= (λ _. free_at p)) place h in
    let may = went_on (require (may_be_new at.0) NotPermitted) (λ _. free_at at.0) place at.2 in
    let free = went_on (require (not (is_some (get t.entries at.0))) AlreadyExists) (λ _. Ok at.0) place may.2 in
    subst (IsNewPlace t) (same_Ok at.0 place free.2) (record {
      free = none_if _ (not-true _ (required _ AlreadyExists free.0 free.1));
      within = entry_within t path at.0 at.1;
      may = required _ NotPermitted may.0 may.1;
    })
