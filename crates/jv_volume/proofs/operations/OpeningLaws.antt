-- What an operation opens is a file, under the client's free handle.
use Rattle.std.proofs.Common.{◌≡◌, ℕ, zero, suc, ◌<◌, Bool, true, false, not, inl, inr, ◌⊎◌, List, [], ◌∷◌, ◌++◌}
use Rattle.std.proofs.Common.{length, Option, None, Some, is_some, Result, Ok, Err, refl, sym, ap, subst, ◌∙◌, arith}
use Rattle.std.proofs.Common.{if◌then◌else◌}
use Rattle.std.specs.Prelude.{IsTrue, nat_le}
use Rattle.std.proofs.lemmas.Bool.{false≢true, not-true, cases_order, lt-ltb}
use Rattle.jv_model.specs.declared.limits.TheConstants.{MAX_PATH, MAX_SYMLINKS, ROOT, TRASH_ROOT}
use Rattle.jv_model.specs.declared.fault.Fault.{Fault}
use Rattle.jv_model.specs.declared.fault.Fault.TheVariants.{IsADirectory, NameTooLong, SymlinkLoop}
use Rattle.jv_model.specs.declared.op.Op.{Op}
use Rattle.jv_model.specs.declared.op.Op.TheVariants as op
use Rattle.jv_model.specs.declared.op.Reply.TheVariants.{FileOpened}
use Rattle.jv_model.specs.promise.FiniteMap.{number_key}
use Rattle.jv_model.specs.promise.tree.Attempt.{◌>>=◌, require}
use Rattle.jv_model.specs.promise.tree.Tree.{Tree, Node, File, Directory, Symlink, EntryKey, new_node}
use Rattle.jv_model.specs.promise.tree.Tree.{node_at, parent_of, target_at, is_directory, target_in}
use Rattle.jv_model.specs.promise.tree.Changes.{empty_content, put_node}
use Rattle.jv_model.specs.promise.tree.Caller.{Caller, Outcome, outcome, in_session}
use Rattle.jv_model.specs.promise.tree.Walk.{is_absolute, names_of, stepped, walk_names, walk, inode_of}
use Rattle.jv_model.specs.promise.tree.Making.{with_next, entered, create}
use Rattle.jv_model.specs.promise.tree.Reading.{file_inode, open_file}
use Rattle.jv_model.specs.promise.tree.TreeAct.{tree_act}
use Rattle.jv_model.specs.client.OpForms.{opens_file}
use Rattle.jv_volume.specs.promise.Shape.{Regular, Shape, WholeShape, form_of, is_there, is_dir, shape_of}
use Rattle.jv_volume.specs.Holding.{IsHoldable}
use Rattle.jv_volume.proofs.shapes.ShapeMapLaws.{get-inserted, shape-put_entry, is_directory-form}
use Rattle.jv_volume.proofs.shapes.WalkShapeLaws.{went_on, required, onwards, root_directory, path_named}
use Rattle.jv_volume.proofs.shapes.OperationShapeLaws.{is_entered}
use Rattle.jv_volume.proofs.operations.ReplyLaws.{opens_none}
use Rattle.jv_model.proofs.TestLaws.{same_Ok}

-- where a followed walk leads

-- a directory is no symlink
dir_no_link : (o : Option Node) → is_some (parent_of o) ≡ true → target_in o ≡ None
dir_no_link None e = refl
dir_no_link (Some node) e =
    elim node.kind as (λ kind. is_some (parent_of (Some (record node { kind = kind }))) ≡ true
    → target_in (Some (record node { kind = kind })) ≡ None) [
      | File content ↦ λ e. refl
      | Directory parent ↦ λ e. refl
      | Symlink target ↦ λ e. absurd (false≢true e)
    ] e

-- what is neither a directory nor a symlink is a file
file_form : (o : Option Node) → is_some (parent_of o) ≡ false → target_in o ≡ None → IsTrue (is_there (form_of o))
    → form_of o ≡ Regular
file_form None leaf plain there = absurd (false≢true there)
file_form (Some node) leaf plain there =
    elim node.kind as (λ kind. is_some (parent_of (Some (record node { kind = kind }))) ≡ false
    → target_in (Some (record node { kind = kind })) ≡ None → form_of (Some (record node { kind = kind })) ≡ Regular) [
      | File content ↦ λ leaf plain. refl
      | Directory parent ↦ λ leaf plain. absurd (false≢true (sym leaf))
      | Symlink target ↦ λ leaf plain. absurd (cc)
    ] leaf plain

module _ (t : Tree) (is_root : is_directory t ROOT ≡ true) where
  abbrev Plain : ℕ → Type 0
  Plain inode = target_at t inode ≡ None

  abbrev GoesOn : (ℕ → List (List ℕ) → Result ℕ Fault) → Type 0
  GoesOn again = (dir : ℕ) (names : List (List ℕ)) (result : ℕ) → Plain dir → again dir names ≡ Ok result → Plain result

  plain_root : Plain ROOT
  plain_root = dir_no_link (node_at t ROOT) is_root

  from_plain : (inode : ℕ) (b : Bool) → Plain inode → Plain (if b then ROOT else inode)
  from_plain inode true p = plain_root
  from_plain inode false p = p

  plain_onwards : (again : ℕ → List (List ℕ) → Result ℕ Fault) (inode : ℕ) (names : List (List ℕ)) (next : ℕ)
      (o : Option (List ℕ)) (result : ℕ)
      → target_at t next ≡ o → GoesOn again
      → (Plain next → walk_names again t true next names ≡ Ok result → Plain result) → Plain inode
      → onwards t true again inode names next o ≡ Ok result → Plain result
  plain_onwards again inode names next None result e goes rest p h = rest e h
  plain_onwards again inode names next (Some target) result e goes rest p h =
      goes (if is_absolute target then ROOT else inode) (names_of target ++ names) result
      (from_plain inode (is_absolute target) p) h

  plain_names : (again : ℕ → List (List ℕ) → Result ℕ Fault) (inode : ℕ) (names : List (List ℕ)) (result : ℕ)
      → GoesOn again → Plain inode
      → walk_names again t true inode names ≡ Ok result → Plain result
  unfolding walk_names
  plain_names again inode [] result goes p h = subst Plain (same_Ok inode result h) p
  plain_names again inode (name ∷ names) result goes p h =
      let on = λ (next : ℕ). onwards t true again inode names next (target_at t next) in
      let next = went_on (stepped t inode name) on result h in
      plain_onwards again inode names next.0 (target_at t next.0) result refl goes
      (λ q g. plain_names again next.0 names result goes q g) p next.2

  plain_walk : (left inode : ℕ) (names : List (List ℕ)) (result : ℕ) → Plain inode
      → walk left t true inode names ≡ Ok result → Plain result
  unfolding walk
  plain_walk zero inode names result p h =
      plain_names (λ at rest. Err SymlinkLoop) inode names result (λ dir rest end q e. absurd (cc)) p h
  plain_walk (suc left) inode names result p h =
      plain_names (λ at rest. walk left t true at rest) inode names result
      (λ dir rest end q e. plain_walk left dir rest end q e) p h

  -- a path whose last symlink is followed leads to none
  plain_path : (path : List ℕ) (inode : ℕ) → inode_of t path ≡ Ok inode → Plain inode
  plain_path path inode h =
      let all = walk MAX_SYMLINKS t true ROOT (names_of path) in
      let short = went_on (require (nat_le (length path) MAX_PATH) NameTooLong) (λ _. all) inode h in
      plain_walk MAX_SYMLINKS ROOT (names_of path) inode plain_root short.2

-- what is opened

module _ (t : Tree) (w : WholeShape (shape_of t)) where
  -- a file or a symlink that has an entry is below the next inode
  named_below : (inode : ℕ) → IsTrue (is_there ((shape_of t).form inode)) → is_dir ((shape_of t).form inode) ≡ false
      → inode < t.next_inode
  named_below inode there leaf = elim (cases_order inode TRASH_ROOT) [
    | inl same ↦ absurd (false≢true (sym leaf ∙ ap (λ i. is_dir ((shape_of t).form i)) same ∙ ap is_dir w.trash_there))
    | inr apart ↦ elim apart [
      | inl less ↦ w.below inode there (lt-ltb inode TRASH_ROOT less)
      | inr more ↦ absurd (false≢true (sym leaf ∙ ap is_dir (w.hours inode there (lt-ltb TRASH_ROOT inode more)).1))
    ]
  ]

  holdable_path : (who : Caller) (path : List ℕ) (inode : ℕ) → file_inode t who path ≡ Ok inode → IsHoldable t inode
  holdable_path who path inode h =
      let leaf_at = λ (i : ℕ). require (not (is_directory t i)) IsADirectory >>= (λ _. Ok i) in
      let inside = went_on (in_session t who) (λ _. inode_of t path >>= leaf_at) inode h in
      let at = went_on (inode_of t path) leaf_at inode inside.2 in
      let leaf = went_on (require (not (is_directory t at.0)) IsADirectory) (λ _. Ok at.0) inode at.2 in
      let is_leaf = not-true (is_directory t at.0) (required _ IsADirectory leaf.0 leaf.1) in
      subst (IsHoldable t) (same_Ok at.0 inode leaf.2) (holdable_leaf path at.0 at.1 is_leaf)
    where
      holdable_leaf : (path : List ℕ) (inode : ℕ) → inode_of t path ≡ Ok inode → is_directory t inode ≡ false
          → IsHoldable t inode
      holdable_leaf path inode leads leaf =
          let named = path_named t w true path inode leads leaf in
          let there = (w.entry named.at inode named.is).there in
          record {
            below = named_below inode there (sym (is_directory-form t inode) ∙ leaf);
            file = λ there. file_form (node_at t inode) leaf (plain_path t (root_directory t w) path inode leads) there;
          }

-- a new file
holdable_new : (t : Tree) (now : ℕ) (place : EntryKey) (mode : ℕ) (moment : ℕ)
    → IsHoldable (with_next t now place (new_node (File empty_content) mode moment)) t.next_inode
holdable_new t now place mode moment =
    let node = new_node (File empty_content) mode moment in
    record {
      below = omega arith;
      file = λ there. ap (λ (s : Shape). s.form t.next_inode)
          (shape-put_entry (put_node t t.next_inode node) now place t.next_inode)
          ∙ ap form_of (get-inserted number_key t.nodes t.next_inode node);
    }

module _ (t : Tree) (who : Caller) where
  -- an attempt that opens only a file, under the free handle
  record OpensFile (o : Outcome) : Type 0 where
    file : (handle inode : ℕ) → o.reply ≡ FileOpened handle inode → (handle ≡ who.free_handle) × IsHoldable o.tree inode

  opens_past : {A : Type 0} (x : Result A Fault) (next : A → Result Outcome Fault)
      → ((a : A) → x ≡ Ok a → OpensFile (outcome t (next a)))
      → OpensFile (outcome t (x >>= next))
  opens_past (Ok a) next h = h a refl
  opens_past (Err fault) next h = record { file = λ handle inode e. absurd (cc) }

  opens_this : (after : Tree) (inode : ℕ) → IsHoldable after inode
      → OpensFile (record { tree = after; reply = FileOpened who.free_handle inode })
  opens_this after inode h = record {
    file = λ handle other e.
        let one : who.free_handle ≡ handle = cc in
        let same : inode ≡ other = cc in
        (sym one, subst (IsHoldable after) same h);
  }

  opens-create : (path : List ℕ) (mode : ℕ) → OpensFile (outcome t (create t who path mode))
  unfolding create
  opens-create path mode =
      let node = new_node (File empty_content) mode who.now in
      let new : (place : EntryKey) (after : Tree) → entered t who.now place node ≡ Ok after
      → IsHoldable after t.next_inode =
      λ place after h. subst (λ (u : Tree). IsHoldable u t.next_inode) (is_entered t who.now place node after h).is
      (holdable_new t who.now place mode who.now) in
      search (opens_past, opens_this, new) depth 8

  opens-open_file : WholeShape (shape_of t) → (path : List ℕ) → OpensFile (outcome t (open_file t who path))
  unfolding open_file
  opens-open_file w path =
      let holdable : (inode : ℕ) → file_inode t who path ≡ Ok inode → IsHoldable t inode = holdable_path t w who path in
      search (opens_past, opens_this, holdable) depth 8

  opened_by : WholeShape (shape_of t) → (o : Op) → (opens_file o ≡ false) ⊎ OpensFile (tree_act t who o)
  opened_by w (op.Create path mode) = inr (opens-create path mode)
  opened_by w (op.Open path) = inr (opens-open_file w path)
  opened_by w o = inl refl

-- What an operation opens is a file, under the client's free handle.
pub opened_file : (t : Tree) (who : Caller) → WholeShape (shape_of t) → (o : Op) (handle inode : ℕ)
    → (tree_act t who o).reply ≡ FileOpened handle inode
    → (handle ≡ who.free_handle) × IsHoldable (tree_act t who o).tree inode
opened_file t who w o handle inode e = elim (opened_by t who w o) [
  | inl none ↦ absurd (opens_none t who o handle inode none e)
  | inr opens ↦ opens.file handle inode e
]
