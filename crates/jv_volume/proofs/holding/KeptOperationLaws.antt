-- What the operations that write no bytes leave to clients that have files open.
use Rattle.std.proofs.Common.{◌≡◌, ℕ, ◌+◌, ◌≤◌, Bool, true, false, cond, not, ◌&&◌, ◌==◌, inl, inr, List, Option, None}
use Rattle.std.proofs.Common.{Some, is_some, Result, Ok, Err, refl, sym, ap, subst, ◌∙◌, arith}
use Rattle.std.specs.Prelude.{IsTrue, nat_lt}
use Rattle.std.proofs.lemmas.Bool.{false≢true, cond_both}
use Rattle.jv_model.specs.declared.limits.TheConstants.{FULL_MODE, READ_ONLY_MODE, FULL_COUNT, TRASH_ROOT}
use Rattle.jv_model.specs.declared.lifetimes.TheConstants.{FIRST_HOUR}
use Rattle.jv_model.specs.declared.basics.How.{How}
use Rattle.jv_model.specs.declared.basics.How.TheVariants.{Plain, NoReplace, Exchange}
use Rattle.jv_model.specs.declared.fault.Fault.{Fault}
use Rattle.jv_model.specs.declared.fault.Fault.TheVariants.{NotFound, AlreadyExists}
use Rattle.jv_model.specs.promise.FiniteMap.{Map, get, insert, remove}
use Rattle.jv_model.specs.promise.tree.Attempt.{◌>>=◌, require, some_or}
use Rattle.jv_model.specs.promise.tree.Tree.{Tree, Node, File, Directory, Symlink, Content, EntryKey, SustainedFile}
use Rattle.jv_model.specs.promise.tree.Tree.{SessionEntry, pair_key, new_node}
use Rattle.jv_model.specs.promise.tree.Tree.{in_trash, node_at, content_in, is_directory, entry_count, is_sustained}
use Rattle.jv_model.specs.promise.tree.Changes.{empty_content, touched, status_changed, put_node, drop_node, change_node}
use Rattle.jv_model.specs.promise.tree.Changes.{put_entry, take_entry, with_node}
use Rattle.jv_model.specs.promise.tree.Caller.{Caller, Outcome, outcome, done}
use Rattle.jv_model.specs.promise.tree.HourNames.{hour_at}
use Rattle.jv_model.specs.promise.tree.Trash.{hour_inode, hour_place, with_hour, trash_place, trashed}
use Rattle.jv_model.specs.promise.tree.Making.{with_next, entered, mkdir, create, symlink, linked, link}
use Rattle.jv_model.specs.promise.tree.Reading.{with_attributes, chmod, chown, utimes}
use Rattle.jv_model.specs.promise.tree.Removing.{Fate, Linked, Trashed, Sustained, Dropped, fate_of, sustained_by, with_fate}
use Rattle.jv_model.specs.promise.tree.Removing.{remove_entry, remove_directory, unlink, rmdir}
use Rattle.jv_model.specs.promise.tree.Renaming.{moved_node, move_in, moved, exchanged, without_target, within_links, renamed}
use Rattle.jv_model.specs.promise.tree.Renaming.{replacing, exchanging, unless_same, renamed_over, renamed_by, rename}
use Rattle.jv_model.specs.promise.tree.Sessions.{with_session, kept_alive, without_session, released, mount, beat, umount}
use Rattle.jv_model.specs.promise.tree.Sessions.{release}
use Rattle.jv_model.proofs.FiniteMapLaws.{get-retain_keys}
use Rattle.jv_model.specs.promise.Lists.{is_among}
use Rattle.jv_volume.proofs.shapes.ShapeMapLaws.{same_or_apart, pair_of, get-insert_apart, get-removed, get-remove_apart}
use Rattle.jv_volume.proofs.operations.ChangeLaws.{change_node-next_inode, change_node-sustained}
use Rattle.jv_volume.proofs.shapes.WalkShapeLaws.{was_some}
use Rattle.jv_volume.proofs.shapes.SessionShapeLaws.{if_some}
use Rattle.jv_volume.proofs.shapes.OperationShapeLaws.{is_entered}
use Rattle.jv_volume.proofs.holding.KeptFilesLaws.{KeepsFiles, NodeKept, Gone, Same, keeps-none, keeps-then, keeps-others}
use Rattle.jv_volume.proofs.holding.KeptFilesLaws.{keeps-change_node, keeps-put_same, keeps-drop_node, keeps-status_changed}
use Rattle.jv_volume.proofs.holding.KeptFilesLaws.{keeps-put_entry, keeps-take_entry, keeps-with_node, keeps-sustained}

-- no more files are kept than before
abbrev pub none_more : ℕ → Bool
none_more inode = false

-- those that a caller has open
abbrev pub those_held : Caller → ℕ → Bool
those_held who inode = is_among inode who.held

-- new nodes

-- a directory of another parent has no bytes either
content-moved : (now dir : ℕ) (node : Node) → content_in (Some (moved_node now dir node)) ≡ content_in (Some node)
content-moved now dir node =
    elim node.kind as (λ kind. content_in (Some (moved_node now dir (record node { kind = kind })))
    ≡ content_in (Some (record node { kind = kind }))) [
      | File content ↦ refl
      | Directory parent ↦ refl
      | Symlink target ↦ refl
    ]

-- nodes of one kind have the same bytes
content-kind : (after node : Node) → after.kind ≡ node.kind → content_in (Some after) ≡ content_in (Some node)
content-kind after node same = ap (λ kind. content_in (Some (record node { kind = kind }))) same

-- an inode is kept only where the caller has it open
held_where_sustained : (t : Tree) (who : Caller) (place : EntryKey) (inode : ℕ) → fate_of t who place inode ≡ Sustained
    → IsTrue (those_held who inode)
held_where_sustained t who place inode =
    let Says = λ (fate : Fate). fate ≡ Sustained → IsTrue (those_held who inode) in
    cond_both (nat_lt 1 (entry_count t inode)) _ _ Says (λ several e. absurd (cc)) (λ few.
    cond_both (nat_lt 0 t.setting.trash_days && not (in_trash place.dir)) _ _ Says (λ days e. absurd (cc)) (λ stays.
    cond_both (is_among inode who.held) _ _ Says (λ used e. used) (λ closed e. absurd (cc))))

-- the inodes of hours lie past those that are given to new nodes
high_hour : (hour : ℕ) → FULL_COUNT ≤ hour_inode hour
high_hour hour =
    cond_both (hour == 0) FIRST_HOUR (TRASH_ROOT + hour) (λ inode. FULL_COUNT ≤ inode) (λ e. omega arith)
    (λ e. omega arith)

module _ {low : Type 0} {more : ℕ → Bool} where
  -- the next inode under a new entry
  pub keeps-with_next : (t : Tree) (now : ℕ) (place : EntryKey) (node : Node)
      → ((content : Content) → content_in (Some node) ≡ Some content → content ≡ empty_content)
      → KeepsFiles low more t (with_next t now place node)
  keeps-with_next t now place node empty =
      let made = with_node t now place t.next_inode node in
      keeps-then t made (with_next t now place node)
      (keeps-with_node t now place t.next_inode node (λ _. omega arith) empty)
      (keeps-others made (with_next t now place node) refl
      (let e = change_node-next_inode (put_node t t.next_inode node) place.dir (touched now) in omega (arith, e))
      refl refl)

  -- the directory of an hour
  keeps-with_hour : (t : Tree) (now hour : ℕ) → (low → t.next_inode ≤ FULL_COUNT)
      → KeepsFiles low more t (with_hour t now hour)
  unfolding with_hour
  keeps-with_hour t now hour is_low = by_node (node_at t (hour_inode hour))
    where
      by_node : (o : Option Node) → KeepsFiles low more t (elim o as (λ _. Tree) [
        | None ↦ with_node t now (hour_place hour) (hour_inode hour)
            (new_node (Directory TRASH_ROOT) READ_ONLY_MODE now)
        | Some node ↦ t
      ])
      by_node None =
          let high = high_hour hour in
          keeps-with_node t now (hour_place hour) (hour_inode hour) (new_node (Directory TRASH_ROOT) READ_ONLY_MODE now)
          (λ l. let next = is_low l in omega (arith, next, high))
          (λ content is. absurd (cc))
      by_node (Some node) = keeps-none t

  -- an inode in the trash
  pub keeps-trashed : (t : Tree) (now : ℕ) (place : EntryKey) (inode : ℕ) → (low → t.next_inode ≤ FULL_COUNT)
      → KeepsFiles low more t (trashed t now place inode)
  keeps-trashed t now place inode is_low =
      let made = with_hour t now (hour_at now) in
      let at = trash_place (hour_at now) place inode in
      let entered = put_entry made now at inode in
      keeps-then t made (trashed t now place inode) (keeps-with_hour t now (hour_at now) is_low)
      (keeps-then made entered (trashed t now place inode) (keeps-put_entry made now at inode)
      (keeps-status_changed entered now inode))

  -- an entry of a file or a symlink gone, whatever becomes of the inode
  keeps-with_fate : (t : Tree) (who : Caller) (place : EntryKey) (inode : ℕ) → (low → t.next_inode ≤ FULL_COUNT)
      → (fate : Fate)
      → (fate ≡ Sustained → IsTrue (more inode)) → KeepsFiles low more t (with_fate fate t who place inode)
  keeps-with_fate t who place inode is_low Linked may = keeps-status_changed t who.now inode
  keeps-with_fate t who place inode is_low Trashed may = keeps-trashed t who.now place inode is_low
  keeps-with_fate t who place inode is_low Dropped may = keeps-drop_node t inode
  keeps-with_fate t who place inode is_low Sustained may =
      let changed = change_node t inode (status_changed who.now) in
      let pairs = insert t.sustained (pair_of who.sid inode) tt in
      keeps-then t changed (sustained_by t who inode) (keeps-status_changed t who.now inode)
      (keeps-sustained changed pairs
      (λ sid file is. elim (same_or_apart pair_key (pair_of sid file) (pair_of who.sid inode)) [
        | inl same ↦ inr (ap more (ap (λ (p : SustainedFile). p.inode) same) ∙ may refl)
        | inr apart ↦ inl (ap (λ (m : Map pair_key (Unit {0})). is_some (get m (pair_of sid file)))
            (change_node-sustained t inode (status_changed who.now))
            ∙ ap is_some (sym (get-insert_apart pair_key t.sustained (pair_of who.sid inode) tt
            (pair_of sid file) apart)) ∙ is)
      ]))

  -- an empty directory gone
  pub keeps-remove_directory : (t : Tree) (now : ℕ) (place : EntryKey) (inode : ℕ)
      → KeepsFiles low more t (remove_directory t now place inode)
  keeps-remove_directory t now place inode =
      keeps-then t (take_entry t now place) (remove_directory t now place inode) (keeps-take_entry t now place)
      (keeps-drop_node (take_entry t now place) inode)

  -- an inode under an entry elsewhere
  keeps-move_in : (t : Tree) (now : ℕ) (place : EntryKey) (inode : ℕ)
      → KeepsFiles low more t (move_in t now place inode)
  keeps-move_in t now place inode =
      let entered = put_entry t now place inode in
      keeps-then t entered (move_in t now place inode) (keeps-put_entry t now place inode)
      (keeps-change_node entered inode (moved_node now place.dir) (content-moved now place.dir))

  pub keeps-moved : (t : Tree) (now : ℕ) (from : EntryKey) (inode : ℕ) (to : EntryKey)
      → KeepsFiles low more t (moved t now from inode to)
  keeps-moved t now from inode to =
      keeps-then t (take_entry t now from) (moved t now from inode to) (keeps-take_entry t now from)
      (keeps-move_in (take_entry t now from) now to inode)

  pub keeps-exchanged : (t : Tree) (now : ℕ) (from : EntryKey) (source : ℕ) (to : EntryKey) (other : ℕ)
      → KeepsFiles low more t (exchanged t now from source to other)
  keeps-exchanged t now from source to other =
      keeps-then t (move_in t now to source) (exchanged t now from source to other) (keeps-move_in t now to source)
      (keeps-move_in (move_in t now to source) now from other)

  -- a session gone with the files that it kept
  pub keeps-without_session : (t : Tree) (sid : ℕ) → KeepsFiles low more t (without_session t sid)
  keeps-without_session t sid = record {
    setting = refl;
    next = omega arith;
    node = λ _ inode. by_test (is_sustained t sid inode) inode
        (get-retain_keys t.nodes (λ i. not (is_sustained t sid i)) inode);
    sustained = λ other inode is.
        inl (if_some _ _ (ap is_some
        (sym (get-retain_keys t.sustained (λ pair. not (pair.sid == sid)) (pair_of other inode))) ∙ is)).1;
  }
    where
      by_test : (b : Bool) (inode : ℕ) → node_at (without_session t sid) inode ≡ cond (not b) (node_at t inode) None
          → NodeKept t (without_session t sid) inode
      by_test true inode e = Gone e
      by_test false inode e = Same (ap is_some e) (ap content_in e)

  -- a file gone that a session kept
  pub keeps-released : (t : Tree) (sid inode : ℕ) → KeepsFiles low more t (released t sid inode)
  keeps-released t sid inode = by_test (is_sustained t sid inode)
    where
      by_test : (b : Bool) → KeepsFiles low more t (elim b as (λ _. Tree) [
        | true ↦ record (drop_node t inode) { sustained = remove t.sustained (pair_of sid inode) }
        | false ↦ t
      ])
      by_test false = keeps-none t
      by_test true =
          let less = drop_node t inode in
          let pairs = remove t.sustained (pair_of sid inode) in
          keeps-then t less (record less { sustained = pairs }) (keeps-drop_node t inode) (keeps-sustained less pairs
          (λ other file is. elim (same_or_apart pair_key (pair_of other file) (pair_of sid inode)) [
            | inl same ↦ absurd (false≢true (sym (ap is_some (ap (get (remove t.sustained (pair_of sid inode))) same
                ∙ get-removed pair_key t.sustained (pair_of sid inode))) ∙ is))
            | inr apart ↦ inl (ap is_some
                (sym (get-remove_apart pair_key t.sustained (pair_of sid inode) (pair_of other file) apart)) ∙ is)
          ]))

-- what operations leave, whatever they answer

module _ (low : Type 0) (more : ℕ → Bool) (t : Tree) where
  abbrev pub Keeps : Result Outcome Fault → Type 0
  Keeps r = KeepsFiles low more t (outcome t r).tree

  pub keeps_past : {A : Type 0} (x : Result A Fault) (next : A → Result Outcome Fault)
      → ((a : A) → x ≡ Ok a → Keeps (next a)) → Keeps (x >>= next)
  keeps_past (Ok a) next h = h a refl
  keeps_past (Err fault) next h = keeps-none t

module _ {low : Type 0} {more : ℕ → Bool} (t : Tree) (who : Caller) where
  keeps-entered : (place : EntryKey) (node : Node) (after : Tree)
      → ((content : Content) → content_in (Some node) ≡ Some content → content ≡ empty_content)
      → entered t who.now place node ≡ Ok after → KeepsFiles low more t after
  keeps-entered place node after empty h =
      subst (KeepsFiles low more t) (is_entered t who.now place node after h).is
      (keeps-with_next t who.now place node empty)

  pub keeps-create : (path : List ℕ) (mode : ℕ) → Keeps low more t (create t who path mode)
  unfolding create
  keeps-create path mode =
      let node = new_node (File empty_content) mode who.now in
      let new : (place : EntryKey) (after : Tree) → entered t who.now place node ≡ Ok after
      → KeepsFiles low more t after =
      λ place after h. keeps-entered place node after (λ content is. cc) h in
      search (keeps_past, new) depth 8

  pub keeps-mkdir : (path : List ℕ) (mode : ℕ) → Keeps low more t (mkdir t who path mode)
  unfolding mkdir
  keeps-mkdir path mode =
      let node = λ (place : EntryKey). new_node (Directory place.dir) mode who.now in
      let new : (place : EntryKey) (after : Tree) → entered t who.now place (node place) ≡ Ok after
      → KeepsFiles low more t after =
      λ place after h. keeps-entered place (node place) after (λ content is. absurd (cc)) h in
      search (keeps_past, new) depth 8

  pub keeps-symlink : (target path : List ℕ) → Keeps low more t (symlink t who target path)
  unfolding symlink
  keeps-symlink target path =
      let node = new_node (Symlink target) FULL_MODE who.now in
      let new : (place : EntryKey) (after : Tree) → entered t who.now place node ≡ Ok after
      → KeepsFiles low more t after =
      λ place after h. keeps-entered place node after (λ content is. absurd (cc)) h in
      search (keeps_past, new) depth 8

  keeps-linked : (now : ℕ) (place : EntryKey) (inode : ℕ) → KeepsFiles low more t (linked t now place inode)
  keeps-linked now place inode =
      keeps-then t (put_entry t now place inode) (linked t now place inode) (keeps-put_entry t now place inode)
      (keeps-status_changed (put_entry t now place inode) now inode)

  pub keeps-link : (path to : List ℕ) → Keeps low more t (link t who path to)
  unfolding link
  keeps-link path to = search (keeps_past, keeps-linked) depth 10

  keeps-with_attributes : (path : List ℕ) (change : Node → Node) → ((node : Node) → (change node).kind ≡ node.kind)
      → Keeps low more t (with_attributes t who path change)
  keeps-with_attributes path change same =
      let after = λ (inode : ℕ) (node : Node). put_node t inode (status_changed who.now (change node)) in
      let put : (inode : ℕ) (node : Node) → some_or (node_at t inode) NotFound ≡ Ok node
      → KeepsFiles low more t (after inode node) =
      λ inode node is. keeps-put_same t inode node (status_changed who.now (change node)) (was_some _ NotFound node is)
      (content-kind (status_changed who.now (change node)) node (same node)) in
      search (keeps_past, put) depth 8

  pub keeps-chmod : (path : List ℕ) (mode : ℕ) → Keeps low more t (chmod t who path mode)
  unfolding chmod
  keeps-chmod path mode = keeps-with_attributes path (λ (node : Node). record node { mode = mode }) (λ node. refl)

  pub keeps-chown : (path : List ℕ) (uid gid : ℕ) → Keeps low more t (chown t who path uid gid)
  unfolding chown
  keeps-chown path uid gid =
      keeps-with_attributes path (λ (node : Node). record node { uid = uid; gid = gid }) (λ node. refl)

  pub keeps-utimes : (path : List ℕ) (mtime : ℕ) → Keeps low more t (utimes t who path mtime)
  unfolding utimes
  keeps-utimes path mtime = keeps-with_attributes path (λ (node : Node). record node { mtime = mtime }) (λ node. refl)

  pub keeps-rmdir : (path : List ℕ) → Keeps low more t (rmdir t who path)
  unfolding rmdir
  keeps-rmdir path = search (keeps_past, keeps-remove_directory) depth 10

  -- sessions

  pub keeps-mount : Keeps low more t (mount t who)
  unfolding mount
  keeps-mount =
      let made : KeepsFiles low more t (with_session t who) =
      keeps-others t (with_session t who) refl (omega arith) refl refl in
      search (keeps_past, made)

  pub keeps-beat : Keeps low more t (beat t who)
  unfolding beat
  keeps-beat =
      let alive : (session : SessionEntry) → KeepsFiles low more t (kept_alive t who session) =
      λ session. keeps-others t (kept_alive t who session) refl (omega arith) refl refl in
      search (keeps_past, alive)

  pub keeps-umount : Keeps low more t (umount t who)
  unfolding umount
  keeps-umount = search (keeps_past, keeps-without_session)

  pub keeps-release : Keeps low more t (release t who)
  unfolding release
  keeps-release = search (keeps_past, keeps-released)

-- the operations that may take a file's last entry: what the caller has open is kept

module _ {low : Type 0} (t : Tree) (who : Caller) (is_low : low → t.next_inode ≤ FULL_COUNT) where
  keeps-remove_entry : (place : EntryKey) (inode : ℕ)
      → KeepsFiles low (those_held who) t (remove_entry t who place inode)
  unfolding remove_entry
  keeps-remove_entry place inode =
      let less = take_entry t who.now place in
      keeps-then t less (remove_entry t who place inode) (keeps-take_entry t who.now place)
      (keeps-with_fate less who place inode
      (λ l. let e = change_node-next_inode t place.dir (touched who.now) in let next = is_low l in
      omega (arith, e, next))
      (fate_of t who place inode)
      (held_where_sustained t who place inode))

  pub keeps-unlink : (path : List ℕ) → Keeps low (those_held who) t (unlink t who path)
  unfolding unlink
  keeps-unlink path = search (keeps_past, keeps-remove_entry) depth 10

  keeps-without_target : (place : EntryKey) (inode : ℕ)
      → KeepsFiles low (those_held who) t (without_target t who place inode)
  keeps-without_target place inode = by_test (is_directory t inode)
    where
      by_test : (b : Bool) → KeepsFiles low (those_held who) t (elim b as (λ _. Tree) [
        | true ↦ remove_directory t who.now place inode
        | false ↦ remove_entry t who place inode
      ])
      by_test true = keeps-remove_directory t who.now place inode
      by_test false = keeps-remove_entry place inode

  keeps-within_links : (from to : EntryKey) (after : Tree) → KeepsFiles low (those_held who) t after
      → Keeps low (those_held who) t (within_links from to after)
  keeps-within_links from to after h = search (keeps_past, h)

  keeps-renamed : (from : EntryKey) (source : ℕ) (to : EntryKey)
      → Keeps low (those_held who) t (renamed t who from source to)
  keeps-renamed from source to = search (keeps_past, keeps-within_links, keeps-moved)

  keeps-replacing : (from : EntryKey) (source : ℕ) (to : EntryKey) (other : ℕ)
      → Keeps low (those_held who) t (replacing t who from source to other)
  keeps-replacing from source to other =
      let less = without_target t who to other in
      let last : KeepsFiles low (those_held who) t (moved less who.now from source to) =
      keeps-then t less (moved less who.now from source to)
      (keeps-without_target to other) (keeps-moved less who.now from source to) in
      search (keeps_past, last) depth 8

  keeps-exchanging : (from : EntryKey) (source : ℕ) (to : EntryKey) (other : ℕ)
      → Keeps low (those_held who) t (exchanging t who from source to other)
  keeps-exchanging from source to other = search (keeps_past, keeps-exchanged)

  keeps-unless_same : (source other : ℕ) (otherwise : Unit {0} → Result Outcome Fault)
      → Keeps low (those_held who) t (otherwise tt)
      → Keeps low (those_held who) t (unless_same t source other otherwise)
  keeps-unless_same source other otherwise h = by_test (source == other)
    where
      by_test : (b : Bool) → Keeps low (those_held who) t (elim b as (λ _. Result Outcome Fault) [
        | true ↦ done t
        | false ↦ otherwise tt
      ])
      by_test true = keeps-none t
      by_test false = h

  keeps-renamed_over : (from : EntryKey) (source : ℕ) (to : EntryKey) (o : Option ℕ)
      → Keeps low (those_held who) t (renamed_over t who from source to o)
  keeps-renamed_over from source to None = keeps-renamed from source to
  keeps-renamed_over from source to (Some other) =
      keeps-unless_same source other (λ _. replacing t who from source to other) (keeps-replacing from source to other)

  keeps-renamed_by : (how : How) (from : EntryKey) (source : ℕ) (to : EntryKey)
      → Keeps low (those_held who) t (renamed_by how t who from source to)
  keeps-renamed_by Plain from source to = keeps-renamed_over from source to (get t.entries to)
  keeps-renamed_by NoReplace from source to =
      keeps_past low (those_held who) t (require (not (is_some (get t.entries to))) AlreadyExists)
      (λ _. renamed t who from source to)
      (λ _ _. keeps-renamed from source to)
  keeps-renamed_by Exchange from source to =
      let over = λ (other : ℕ). unless_same t source other (λ _. exchanging t who from source to other) in
      keeps_past low (those_held who) t (some_or (get t.entries to) NotFound) over (λ other _.
      keeps-unless_same source other (λ _. exchanging t who from source to other)
      (keeps-exchanging from source to other))

  pub keeps-rename : (path to : List ℕ) (how : How) → Keeps low (those_held who) t (rename t who path to how)
  unfolding rename
  keeps-rename path to how = search (keeps_past, keeps-renamed_by) depth 8
