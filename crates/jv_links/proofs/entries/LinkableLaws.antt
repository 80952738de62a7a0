-- The file or the symlink that gets one more entry: the path's own entry names it, and shows whether it has one in the
-- trash.
use Rattle.std.proofs.Common.{◌≡◌, ℕ, zero, suc, ◌≤◌, ◌<◌, ◌≢◌, Bool, true, false, not, ◌&&◌, ◌||◌, ◌==◌, if◌then◌else◌, inl, inr, List, [], ◌∷◌, ◌++◌, length, Option, None, Some, is_some, Result, Ok, Err, refl, sym, ap, ◌∙◌, arith}
use Rattle.std.specs.Prelude.{nat_le, nat_lt, IsTrue}
use Rattle.std.proofs.lemmas.Bool.{false≢true, and_from, and_parts, eq-eqb, eqb-true, leb-true, lt-ltb, ltb-true, ltb-false, cases_eq}
use Rattle.jv_model.specs.declared.limits.TheConstants.{MAX_NAME, MAX_PATH, MAX_SYMLINKS, ROOT, TRASH_ROOT}
use Rattle.jv_model.specs.declared.fault.Fault.{Fault}
use Rattle.jv_model.specs.declared.fault.Fault.TheVariants.{NotFound, NotADirectory, Invalid, NameTooLong, NotPermitted, SymlinkLoop}
use Rattle.jv_model.specs.promise.FiniteMap.{get}
use Rattle.jv_model.specs.declared.fault.TxFault.{TxFault}
use Rattle.jv_model.specs.declared.fault.TxFault.TheVariants.{Refused}
use Rattle.jv_model.specs.promise.rows.RowKeys.{RowMap}
use Rattle.jv_model.specs.promise.tree.Attempt.{◌>>=◌, require, some_or}
use Rattle.jv_model.specs.promise.tree.Making.{is_trashed}
use Rattle.jv_model.specs.promise.tree.Tree.{Tree, EntryKey, entry_key, in_trash, parent_at, is_directory, trash_entry}
use Rattle.jv_model.specs.promise.tree.Walk.{is_absolute, names_of, is_dot, is_dot_dot, is_trash, named_from, stepped, way_on, walk_names, walk, inode_by, all_but_last, entry_of}
use Rattle.jv_model.proofs.FiniteMapLaws.{IsFound, first_where-found}
use Rattle.jv_model.specs.promise.Lists.{is_nil, last_item}
use Rattle.jv_outside.specs.promise.Store.{Store}
use Rattle.jv_rows.specs.declared.walking.EntryPlace.{EntryPlace}
use Rattle.jv_rows.specs.declared.walking.Place.{Place}
use Rattle.jv_rows.specs.Transactions.{Looks}
use Rattle.jv_rows.specs.Walks.{pair_in, entry_pair, Comes, ComesToEntry}
use Rattle.jv_rows.proofs.walks.ArrivalLaws.{has-node}
use Rattle.jv_rows.proofs.transactions.NeedingLaws.{session_is}
use Rattle.jv_rows.proofs.transactions.TransactionLaws.{Past, past-start, past-as, past-looks, past-stops, past-gives, past-refuses}
use Rattle.jv_volume.specs.promise.Shape.{WholeShape, shape_of, is_dir, is_there, is_hour}
use Rattle.jv_volume.specs.promise.TypedRows.{typed}
use Rattle.jv_volume.specs.promise.TreeOf.{tree_of}
use Rattle.jv_volume.specs.promise.Whole.{Whole}
use Rattle.jv_volume.proofs.shapes.ShapeMapLaws.{first_where-none, only_one, is_directory-form, there_of_dir}
use Rattle.jv_volume.proofs.stored.StoredLaws.{whole-shape}
use Rattle.jv_volume.proofs.shapes.WalkShapeLaws.{went_on, required, was_some, root_directory, trash_directory, parent_directory, of_length, of_dir, above, of_name}
use Rattle.jv_links.specs.Linkable.{linkable}
use Rattle.jv_model.proofs.TestLaws.{same_Ok}

-- ---- the last step of a walk

-- a walk to a name's directory, and then the name
abbrev then_last : Tree → List ℕ → Result ℕ Fault → Result ℕ Fault
then_last t last r = r >>= (λ dir. stepped t dir last)

abbrev goes_by : (ℕ → List (List ℕ) → Result ℕ Fault) → Tree → Bool → ℕ → List (List ℕ) → ℕ → Option (List ℕ)
    → Result ℕ Fault
goes_by again t follow inode names next None = walk_names again t follow next names
goes_by again t follow inode names next (Some target) = again (if is_absolute target then ROOT else inode)
    (names_of target ++ names)

append_more : (xs ys : List (List ℕ)) (z : List ℕ) → xs ++ (ys ++ (z ∷ [])) ≡ (xs ++ ys) ++ (z ∷ [])
append_more [] ys z = refl
append_more (x ∷ xs) ys z = ap (λ r. x ∷ r) (append_more xs ys z)

not_last : (names : List (List ℕ)) (last : List ℕ) → is_nil (names ++ (last ∷ [])) ≡ false
not_last [] last = refl
not_last (name ∷ names) last = refl

abbrev Splits : Tree → List ℕ → (ℕ → List (List ℕ) → Result ℕ Fault) → (ℕ → List (List ℕ) → Result ℕ Fault) → Type 0
Splits t last again onto = (dir : ℕ) (names : List (List ℕ))
    → again dir (names ++ (last ∷ [])) ≡ then_last t last (onto dir names)

goes_split : (t : Tree) (last : List ℕ) (again onto : ℕ → List (List ℕ) → Result ℕ Fault) (inode : ℕ)
    (names : List (List ℕ)) (next : ℕ) (o : Option (List ℕ))
    → Splits t last again onto → walk_names again t false next (names ++ (last ∷ [])) ≡ then_last t last
    (walk_names onto t true next names)
    → goes_by again t false inode (names ++ (last ∷ [])) next o ≡ then_last t last
    (goes_by onto t true inode names next o)
goes_split t last again onto inode names next None splits rest = rest
goes_split t last again onto inode names next (Some target) splits rest =
    ap (again (if is_absolute target then ROOT else inode)) (append_more (names_of target) names last)
    ∙ splits (if is_absolute target then ROOT else inode) (names_of target ++ names)

-- the step of a name, and the rest by its outcome
bind_then : (r : Result ℕ Fault) (t : Tree) (last : List ℕ) (f g : ℕ → Result ℕ Fault)
    → ((next : ℕ) → f next ≡ then_last t last (g next))
    → (r >>= f) ≡ then_last t last (r >>= g)
bind_then (Ok next) t last f g same = same next
bind_then (Err fault) t last f g same = refl

ends_at : (r : Result ℕ Fault) → (r >>= (λ next. Ok next)) ≡ r
ends_at (Ok next) = refl
ends_at (Err fault) = refl

names_split : (t : Tree) (last : List ℕ) (again onto : ℕ → List (List ℕ) → Result ℕ Fault) → Splits t last again onto
    → (names : List (List ℕ)) (inode : ℕ)
    → walk_names again t false inode (names ++ (last ∷ [])) ≡ then_last t last (walk_names onto t true inode names)
unfolding walk_names
names_split t last again onto splits [] inode = ends_at (stepped t inode last)
names_split t last again onto splits (name ∷ names) inode =
    bind_then (stepped t inode name) t last
    (λ next. goes_by again t false inode (names ++ (last ∷ [])) next (way_on t false (names ++ (last ∷ [])) next))
    (λ next. goes_by onto t true inode names next (way_on t true names next))
    (λ next. ap (λ b. goes_by again t false inode (names ++ (last ∷ [])) next (if not b then target_of next else None))
    (not_last names last)
    ∙ goes_split t last again onto inode names next (target_of next) splits
    (names_split t last again onto splits names next))
  where
    target_of : ℕ → Option (List ℕ)
    target_of next = way_on t true [] next

-- A walk that doesn't follow its last name is one to that name's directory, and then the name.
walk_split : (t : Tree) (last : List ℕ) (left : ℕ) (inode : ℕ) (names : List (List ℕ))
    → walk left t false inode (names ++ (last ∷ [])) ≡ then_last t last (walk left t true inode names)
unfolding walk
walk_split t last zero inode names = names_split t last (λ at rest. Err SymlinkLoop) (λ at rest. Err SymlinkLoop)
    (λ dir rest. refl) names inode
walk_split t last (suc left) inode names =
    names_split t last (λ at rest. walk left t false at rest) (λ at rest. walk left t true at rest)
    (λ dir rest. walk_split t last left dir rest) names inode

-- ---- the entry of the path

-- names without any, or with a last one
data Lasts (names : List (List ℕ)) : Type 0 where
  Nameless : names ≡ [] → Lasts names
  Last : (last : List ℕ) → last_item names ≡ Some last → names ≡ all_but_last names ++ (last ∷ []) → Lasts names

lasts : (names : List (List ℕ)) → Lasts names
lasts [] = Nameless refl
lasts (name ∷ []) = Last name refl refl
lasts (name ∷ other ∷ names) = more (lasts (other ∷ names))
  where
    more : Lasts (other ∷ names) → Lasts (name ∷ other ∷ names)
    more (Nameless none) = absurd (cc)
    more (Last last is split) = Last last is (ap (λ r. name ∷ r) split)

-- the entry of a path, and the inode that it names
record IsOwn (t : Tree) (path : List ℕ) (inode : ℕ) : Type 0 where
  place : EntryKey
  is : entry_of t path ≡ Ok place
  names_it : get t.entries place ≡ Some inode

record IsStep (t : Tree) (dir : ℕ) (last : List ℕ) (inode : ℕ) : Type 0 where
  within : is_directory t dir ≡ true
  short : nat_le (length last) MAX_NAME ≡ true
  plain : not (is_dot last || is_dot_dot last) ≡ true
  names_it : get t.entries (record { dir = dir; name = last }) ≡ Some inode

module _ (t : Tree) (w : WholeShape (shape_of t)) (inode : ℕ) (leaf : is_directory t inode ≡ false) where
  no_directory : {A : Type 0} (other : ℕ) → inode ≡ other → is_directory t other ≡ true → A
  no_directory other e is = absurd (false≢true (sym leaf ∙ ap (is_directory t) e ∙ is))

  step_by : (dir parent : ℕ) (last : List ℕ) (dot dots trash : Bool) → is_dot last ≡ dot → is_dot_dot last ≡ dots
      → is_trash dir last ≡ trash
      → parent_at t dir ≡ Some parent → nat_le (length last) MAX_NAME ≡ true
      → (if dot then Ok dir else if dots then Ok parent else if trash then Ok TRASH_ROOT else some_or
      (get t.entries (record { dir = dir; name = last })) NotFound) ≡ Ok inode
      → IsStep t dir last inode
  step_by dir parent last true dots trash e f g is short h = no_directory dir (sym (same_Ok dir inode h))
      (ap is_some is)
  step_by dir parent last false true trash e f g is short h = no_directory parent (sym (same_Ok parent inode h))
      (parent_directory t w dir parent is)
  step_by dir parent last false false true e f g is short h = no_directory TRASH_ROOT (sym (same_Ok TRASH_ROOT inode h))
      (trash_directory t w)
  step_by dir parent last false false false e f g is short h = record {
    within = ap is_some is;
    short = short;
    plain = λ i. not (e i || f i);
    names_it = was_some _ NotFound inode h;
  }

  is_step : (dir : ℕ) (last : List ℕ) → stepped t dir last ≡ Ok inode → IsStep t dir last inode
  is_step dir last h =
      let from = λ (parent : ℕ). require (nat_le (length last) MAX_NAME) NameTooLong >>=
      (λ _. named_from t dir parent last) in
      let parent = went_on (some_or (parent_at t dir) NotADirectory) from inode h in
      let short = went_on (require (nat_le (length last) MAX_NAME) NameTooLong) (λ _. named_from t dir parent.0 last)
      inode parent.2 in
      step_by dir parent.0 last (is_dot last) (is_dot_dot last) (is_trash dir last) refl refl refl
      (was_some _ NotADirectory parent.0 parent.1)
      (required _ NameTooLong short.0 short.1) short.2

  module _ (path : List ℕ) (h : inode_by false t path ≡ Ok inode) where
    abbrev entry_at : List ℕ → ℕ → Result EntryKey Fault
    entry_at name dir = Ok (record { dir = dir; name = name })

    own_by : nat_le (length path) MAX_PATH ≡ true → walk MAX_SYMLINKS t false ROOT (names_of path) ≡ Ok inode
        → Lasts (names_of path) → IsOwn t path inode
    unfolding walk walk_names
    own_by fits walked (Nameless none) =
        no_directory ROOT (same_Ok inode ROOT (sym walked ∙ ap (walk MAX_SYMLINKS t false ROOT) none))
        (root_directory t w)
    own_by fits walked (Last last is split) =
        let by_last = sym (walk_split t last MAX_SYMLINKS ROOT (all_but_last (names_of path)))
        ∙ ap (walk MAX_SYMLINKS t false ROOT) (sym split) ∙ walked in
        let dir = went_on (walk MAX_SYMLINKS t true ROOT (all_but_last (names_of path))) (λ dir. stepped t dir last)
        inode by_last in
        let step = is_step dir.0 last dir.2 in
        record {
          place = record { dir = dir.0; name = last };
          is = ends fits last is step.plain dir.0 dir.1 step.within step.short;
          names_it = step.names_it;
        }
      where
        ends : nat_le (length path) MAX_PATH ≡ true → (last : List ℕ) → last_item (names_of path) ≡ Some last
            → not (is_dot last || is_dot_dot last) ≡ true
            → (dir : ℕ) → walk MAX_SYMLINKS t true ROOT (all_but_last (names_of path)) ≡ Ok dir
            → is_directory t dir ≡ true → nat_le (length last) MAX_NAME ≡ true
            → entry_of t path ≡ Ok (record { dir = dir; name = last })
        ends fits last is plain dir walked within short =
            ap (λ b. require b NameTooLong >>= (λ _. some_or (last_item (names_of path)) Invalid >>= of_name t path)) fits
            ∙ ap (λ o. some_or o Invalid >>= of_name t path) is
            ∙ ap (λ b. require b Invalid >>= (λ _. above t path >>= of_dir t path last)) plain
            ∙ ap (λ r. r >>= of_dir t path last) walked
            ∙ ap (λ b. require b NotADirectory >>= (λ _. of_length t path last dir)) within
            ∙ ap (λ b. require b NameTooLong >>= (λ _. entry_at last dir)) short

    -- the path's own entry names what it leads to
    own : IsOwn t path inode
    own =
        let short = went_on (require (nat_le (length path) MAX_PATH) NameTooLong)
        (λ _. walk MAX_SYMLINKS t false ROOT (names_of path)) inode h in
        own_by (required _ NameTooLong short.0 short.1) short.2 (lasts (names_of path))

    -- ---- the trash

    high_hour : (dir : ℕ) → IsTrue (is_dir ((shape_of t).form dir)) → TRASH_ROOT < dir → IsTrue (is_hour dir)
    high_hour dir is high = (w.hours dir (there_of_dir ((shape_of t).form dir) is) (lt-ltb TRASH_ROOT dir high)).0

    no_hour : {A : Type 0} → IsTrue (is_there ((shape_of t).form inode)) → IsTrue (is_hour inode) → A
    no_hour there hour =
        no_directory inode refl (is_directory-form t inode ∙ ap is_dir (w.hours inode there (and_parts _ _ hour).0).1)

    -- an entry in the trash is the only one
    only_there : (at place : EntryKey) → get t.entries at ≡ Some inode → in_trash at.dir ≡ true
        → get t.entries place ≡ Some inode → place ≡ at
    only_there at place is high names_it = elim (cases_eq at.dir TRASH_ROOT) [
      | inl e ↦ no_hour (w.entry at inode is).there ((w.entry at inode is).hour e).hour
      | inr apart ↦
          let low = leb-true TRASH_ROOT at.dir high in
          only_one t.entries at place inode
          ((w.entry at inode is).trashed
          (high_hour at.dir (w.entry at inode is).within (strictly at.dir low apart))).only is names_it
    ]
      where
        strictly : (d : ℕ) → TRASH_ROOT ≤ d → d ≢ TRASH_ROOT → TRASH_ROOT < d
        strictly d low apart = by_test (nat_lt TRASH_ROOT d) refl
          where
            by_test : (b : Bool) → nat_lt TRASH_ROOT d ≡ b → TRASH_ROOT < d
            by_test true is = ltb-true TRASH_ROOT d is
            by_test false is = (let high = ltb-false TRASH_ROOT d is in absurd (apart (omega (arith, low, high))))

    -- so any entry shows whether there is one in the trash
    trashed_by : (place : EntryKey) → get t.entries place ≡ Some inode → (b : Bool) → in_trash place.dir ≡ b
        → (o : Option (EntryKey × ℕ)) → trash_entry t inode ≡ o
        → is_some o ≡ b
    trashed_by place names_it true high (Some e) found = refl
    trashed_by place names_it true high None none =
        absurd (first_where-none entry_key (λ key i. (i == inode) && in_trash key.dir) t.entries place inode none
        names_it (and_from _ _ (eq-eqb inode inode refl) high))
    trashed_by place names_it false low None none = refl
    trashed_by place names_it false low (Some e) found =
        let first : IsFound (λ key named. (named == inode) && in_trash key.dir) t.entries e.0 e.1 =
        first_where-found entry_key (λ key named. (named == inode) && in_trash key.dir) t.entries e found in
        let both = and_parts _ _ first.passes in
        let is : get t.entries e.0 ≡ Some inode = first.there ∙ ap Some (eqb-true e.1 inode both.0) in
        let same : place ≡ e.0 = only_there e.0 place is both.1 names_it in
        absurd (false≢true (sym low ∙ ap (λ (p : EntryKey). in_trash p.dir) same ∙ both.1))

    -- the test of the path's own entry is the test of all of them
    pub linkable_by_entry :
        (entry_pair t path >>= (λ pair. require (not (in_trash pair.0)) NotPermitted >>= (λ _. Ok inode)))
        ≡ (require (not (is_trashed t inode)) NotPermitted >>= (λ _. Ok inode))
    linkable_by_entry =
        ap (λ (r : Result EntryKey Fault). (r >>= (λ at. Ok (pair_in at))) >>=
        (λ pair. require (not (in_trash pair.0)) NotPermitted >>= (λ _. Ok inode))) own.is
        ∙ ap (λ b. require (not b) NotPermitted >>= (λ _. Ok inode))
        (sym (trashed_by own.place own.names_it (in_trash own.place.dir) refl (trash_entry t inode) refl))

-- ---- the search

abbrev untrashed : Tree → ℕ → Result ℕ Fault
untrashed t inode = require (not (is_trashed t inode)) NotPermitted >>= (λ _. Ok inode)

abbrev outside : Tree → ℕ → ℕ × List ℕ → Result ℕ Fault
outside t inode pair = require (not (in_trash pair.0)) NotPermitted >>= (λ _. Ok inode)

abbrev tested : Tree → ℕ → Result ℕ Fault
tested t inode = require (not (is_directory t inode || is_trashed t inode)) NotPermitted >>= (λ _. Ok inode)

module _ (sid : ℕ) (path : List ℕ) (before middle : Store) where
  abbrev act : Tree → Result ℕ Fault
  act t = linkable t sid path

  -- the session is gone, or wasn't read
  pub linkable-no_session : (fault : TxFault) → Looks before middle (Err fault) (session_is sid)
      → Looks before middle (Err fault) (λ t. linkable t sid path)
  linkable-no_session fault l = past-stops before before middle act (session_is sid)
      (λ t _. inode_by false t path >>= tested t) (past-start before act) fault l

  module _ (session : Looks before middle (Ok tt) (session_is sid)) (walked : Store) where
    inside : Past before middle act (λ t. inode_by false t path >>= tested t)
    inside = past-looks before before middle act (session_is sid) (λ t _. inode_by false t path >>= tested t)
        (past-start before act) tt session

    -- the path leads nowhere
    pub linkable-no_node : (fault : TxFault) → Comes middle walked (Err fault) (λ t. inode_by false t path)
        → Looks before walked (Err fault) (λ t. linkable t sid path)
    linkable-no_node fault c = past-stops before middle walked act (λ t. inode_by false t path) tested inside fault
        c.looks

    module _ (node : Place) (c : Comes middle walked (Ok node) (λ t. inode_by false t path)) where
      arrived : Past before walked act (λ t. tested t node.inode)
      arrived = past-looks before middle walked act (λ t. inode_by false t path) tested inside node.inode c.looks

      kind_is : (b : Bool) → (node.node.kind == 2) ≡ b → (known : RowMap) → before.rows ≡ Some known
          → Whole (typed known) → (bytes : ℕ → ℕ → ℕ)
          → is_directory (tree_of bytes (typed known)) node.inode ≡ b
      kind_is b is known at whole bytes =
          (has-node before walked node.inode node.node (c.looks.rows_are ∙ session.rows_are) c.stands known at whole
          bytes).directory ∙ is

      -- to a directory
      pub linkable-directory : (node.node.kind == 2) ≡ true
          → Looks before walked (Err (Refused NotPermitted)) (λ t. linkable t sid path)
      linkable-directory two = past-refuses before walked act NotPermitted
          (past-as before walked walked act (λ t. tested t node.inode) arrived (λ t. Err NotPermitted)
          (λ known at whole bytes. (let t = tree_of bytes (typed known) in
          ap (λ b. require (not (b || is_trashed t node.inode)) NotPermitted >>= (λ _. Ok node.inode))
          (kind_is true two known at whole bytes))))

      module _ (leaf : (node.node.kind == 2) ≡ false) (entered : Store) where
        by_entry : Past before walked act (λ t. entry_pair t path >>= outside t node.inode)
        by_entry = past-as before walked walked act (λ t. tested t node.inode) arrived
            (λ t. entry_pair t path >>= outside t node.inode)
            (λ known at whole bytes. (let t = tree_of bytes (typed known) in
            let none = kind_is false leaf known at whole bytes in
            ap (λ b. require (not (b || is_trashed t node.inode)) NotPermitted >>= (λ _. Ok node.inode)) none
            ∙ sym (linkable_by_entry t (whole-shape bytes (typed known) whole) node.inode none path
            (c.looks.agrees known (session.rows_are ∙ at) whole bytes))))

        -- its entry wasn't read
        pub linkable-no_entry : (fault : TxFault) → ComesToEntry walked entered (Err fault) (λ t. entry_pair t path)
            → Looks before entered (Err fault) (λ t. linkable t sid path)
        linkable-no_entry fault e = past-stops before walked entered act (λ t. entry_pair t path)
            (λ t. outside t node.inode) by_entry fault e.looks

        module _ (entry : EntryPlace) (e : ComesToEntry walked entered (Ok entry) (λ t. entry_pair t path)) where
          shown : Past before entered act (λ t. outside t node.inode (entry.dir.inode, entry.name))
          shown = past-looks before walked entered act (λ t. entry_pair t path) (λ t. outside t node.inode) by_entry
              (entry.dir.inode, entry.name) e.looks

          -- it is in the trash
          pub linkable-trashed : in_trash entry.dir.inode ≡ true
              → Looks before entered (Err (Refused NotPermitted)) (λ t. linkable t sid path)
          linkable-trashed high = past-refuses before entered act NotPermitted
              (past-as before entered entered act (λ t. outside t node.inode (entry.dir.inode, entry.name)) shown
              (λ t. Err NotPermitted) (λ known at whole bytes. ap
              (λ b. require (not b) NotPermitted >>= (λ _. Ok node.inode)) high))

          -- it isn't
          pub linkable-found : in_trash entry.dir.inode ≡ false
              → Looks before entered (Ok node.inode) (λ t. linkable t sid path)
          linkable-found low = past-gives before entered act node.inode
              (past-as before entered entered act (λ t. outside t node.inode (entry.dir.inode, entry.name)) shown
              (λ t. Ok node.inode) (λ known at whole bytes. ap
              (λ b. require (not b) NotPermitted >>= (λ _. Ok node.inode)) low))
