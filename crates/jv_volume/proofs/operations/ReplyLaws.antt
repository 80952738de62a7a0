-- What operations on the tree answer: by which refusals, and which of them make a session or open a file.
use Rattle.std.proofs.Common.{◌≡◌, ℕ, ◌≤◌, Bool, true, false, ◌==◌, if◌then◌else◌, List, [], ◌∷◌, ◌++◌, Option, None}
use Rattle.std.proofs.Common.{Some, Result, Ok, Err, refl, sym, ap, subst, ◌∙◌}
use Rattle.std.specs.Prelude.{IsTrue, zero, suc, nat_lt}
use Rattle.std.proofs.lemmas.Bool.{cond_both, eqb-true, eq-eqb, false≢true}
use Rattle.jv_model.specs.declared.limits.TheConstants.{FULL_COUNT, ROOT, TRASH_ROOT}
use Rattle.jv_model.specs.declared.basics.How.{How}
use Rattle.jv_model.specs.declared.basics.How.TheVariants.{Plain, NoReplace, Exchange}
use Rattle.jv_model.specs.declared.fault.Fault.{Fault}
use Rattle.jv_model.specs.declared.fault.Fault.TheVariants.{NotFound, NoSpace, SymlinkLoop, BadHandle, TooManyHandles}
use Rattle.jv_model.specs.declared.fault.Fault.TheVariants.{TryAgain, Stale, TimedOut, Contended, DeviceFailed}
use Rattle.jv_model.specs.declared.fault.Fault.TheVariants.{NotConnected, InProgress, NoMemory}
use Rattle.jv_model.specs.declared.fault.Gone.TheVariants.{Session}
use Rattle.jv_model.specs.declared.op.Op.{Op}
use Rattle.jv_model.specs.declared.op.Op.TheVariants as op
use Rattle.jv_model.specs.declared.op.Reply.{Reply}
use Rattle.jv_model.specs.declared.op.Reply.TheVariants.{Refused, SessionMade, FileOpened}
use Rattle.jv_model.specs.promise.FiniteMap.{get}
use Rattle.jv_model.specs.promise.tree.Attempt.{◌>>=◌, require, some_or}
use Rattle.jv_model.specs.promise.tree.Tree.{Tree, Node, EntryKey}
use Rattle.jv_model.specs.promise.tree.Caller.{Caller, Outcome, outcome, answered, done, in_session}
use Rattle.jv_model.specs.promise.tree.Walk.{is_absolute, names_of, is_dot, is_dot_dot, is_trash, named_from, stepped, way_on}
use Rattle.jv_model.specs.promise.tree.Walk.{walk_names, walk, inode_by, entry_of}
use Rattle.jv_model.specs.promise.tree.Making.{new_place, entered, mkdir, create, symlink, link}
use Rattle.jv_model.specs.promise.tree.Reading.{described, lookup, stat, lstat, fstat, file_inode, compact, open_file, readdir}
use Rattle.jv_model.specs.promise.tree.Reading.{readlink, statfs, with_attributes, chmod, chown, utimes}
use Rattle.jv_model.specs.promise.tree.Removing.{unlink, rmdir}
use Rattle.jv_model.specs.promise.tree.Renaming.{renamed, replacing, exchanging, unless_same, renamed_over, renamed_by, rename}
use Rattle.jv_model.specs.promise.tree.Sessions.{with_session, mount, beat, umount, release}
use Rattle.jv_model.specs.promise.tree.FileBytes.{truncate, copy_bytes, copy}
use Rattle.jv_model.specs.promise.tree.TreeAct.{tree_act}
use Rattle.jv_model.specs.promise.journal.Steps.{is_device_or_memory}
use Rattle.jv_model.specs.client.OpForms.{is_mount_op, opens_file}
use Rattle.jv_volume.proofs.shapes.WalkShapeLaws.{onwards}
use Rattle.jv_model.proofs.TestLaws.{same_Err}

-- The refusals of operations on the tree. One by a session that is gone is by the caller's.
abbrev pub is_of_tree : Caller → Fault → Bool
is_of_tree who BadHandle = false
is_of_tree who TooManyHandles = false
is_of_tree who (TryAgain commit) = false
is_of_tree who (Stale (Session sid)) = sid == who.sid
is_of_tree who (TimedOut started now) = false
is_of_tree who (Contended busy) = false
is_of_tree who (DeviceFailed device) = false
is_of_tree who NotConnected = false
is_of_tree who InProgress = false
is_of_tree who NoMemory = false
is_of_tree who _ = true

-- a step that is refused by these alone
record Refuses (who : Caller) {A : Type 0} (x : Result A Fault) : Type 0 where
  by : (fault : Fault) → x ≡ Err fault → IsTrue (is_of_tree who fault)

module _ {who : Caller} where
  refuses-ok : {A : Type 0} (a : A) → Refuses who (Ok a)
  refuses-ok a = record { by = λ fault e. absurd (cc) }

  refuses-err : {A : Type 0} (fault : Fault) → IsTrue (is_of_tree who fault) → Refuses who {A = A} (Err fault)
  refuses-err {A = A} fault may =
      record { by = λ other e. ap (is_of_tree who) (sym (same_Err {A = A} fault other e)) ∙ may }

  refuses-require : (b : Bool) (fault : Fault) → IsTrue (is_of_tree who fault) → Refuses who (require b fault)
  refuses-require true fault may = refuses-ok tt
  refuses-require false fault may = refuses-err fault may

  refuses-some_or : {A : Type 0} (o : Option A) (fault : Fault) → IsTrue (is_of_tree who fault)
      → Refuses who (some_or o fault)
  refuses-some_or None fault may = refuses-err fault may
  refuses-some_or (Some x) fault may = refuses-ok x

  refuses_then : {A B : Type 0} (x : Result A Fault) (next : A → Result B Fault) → Refuses who x
      → ((a : A) → x ≡ Ok a → Refuses who (next a))
      → Refuses who (x >>= next)
  refuses_then (Ok a) next first rest = rest a refl
  refuses_then {B = B} (Err fault) next first rest = refuses-err fault (first.by fault refl)

  -- walks

  refuses-named_from : (t : Tree) (dir parent : ℕ) (name : List ℕ) → Refuses who (named_from t dir parent name)
  refuses-named_from t dir parent name =
      cond_both (is_dot name) _ _ (Refuses who) (λ e. refuses-ok dir) (λ e.
      cond_both (is_dot_dot name) _ _ (Refuses who) (λ e. refuses-ok parent) (λ e.
      cond_both (is_trash dir name) _ _ (Refuses who) (λ e. refuses-ok TRASH_ROOT)
      (λ e. refuses-some_or _ NotFound refl)))

  refuses-stepped : (t : Tree) (inode : ℕ) (name : List ℕ) → Refuses who (stepped t inode name)
  refuses-stepped t inode name = search (refuses_then, refuses-some_or, refuses-require, refuses-named_from)

  module _ (t : Tree) (follow : Bool) where
    refuses-onwards : (again : ℕ → List (List ℕ) → Result ℕ Fault) (inode : ℕ) (names : List (List ℕ)) (next : ℕ)
        (o : Option (List ℕ))
        → ((at : ℕ) (rest : List (List ℕ)) → Refuses who (again at rest))
        → Refuses who (walk_names again t follow next names)
        → Refuses who (onwards t follow again inode names next o)
    refuses-onwards again inode names next None goes rest = rest
    refuses-onwards again inode names next (Some target) goes rest =
        goes (if is_absolute target then ROOT else inode) (names_of target ++ names)

    refuses-walk_names : (again : ℕ → List (List ℕ) → Result ℕ Fault) (inode : ℕ) (names : List (List ℕ))
        → ((at : ℕ) (rest : List (List ℕ)) → Refuses who (again at rest))
        → Refuses who (walk_names again t follow inode names)
    unfolding walk_names
    refuses-walk_names again inode [] goes = refuses-ok inode
    refuses-walk_names again inode (name ∷ names) goes =
        let on = λ (next : ℕ). onwards t follow again inode names next (way_on t follow names next) in
        refuses_then (stepped t inode name) on (refuses-stepped t inode name) (λ next _.
        refuses-onwards again inode names next (way_on t follow names next) goes
        (refuses-walk_names again next names goes))

    refuses-walk : (left inode : ℕ) (names : List (List ℕ)) → Refuses who (walk left t follow inode names)
    unfolding walk
    refuses-walk zero inode names =
        refuses-walk_names (λ at rest. Err SymlinkLoop) inode names (λ at rest. refuses-err SymlinkLoop refl)
    refuses-walk (suc left) inode names =
        refuses-walk_names (λ at rest. walk left t follow at rest) inode names (λ at rest. refuses-walk left at rest)

  refuses-inode_by : (t : Tree) (follow : Bool) (path : List ℕ) → Refuses who (inode_by follow t path)
  refuses-inode_by t follow path = search (refuses_then, refuses-require, refuses-walk)

  refuses-entry_of : (t : Tree) (path : List ℕ) → Refuses who (entry_of t path)
  refuses-entry_of t path = search (refuses_then, refuses-some_or, refuses-require, refuses-walk, refuses-ok) depth 12

  refuses-new_place : (t : Tree) (path : List ℕ) → Refuses who (new_place t path)
  refuses-new_place t path = search (refuses_then, refuses-entry_of, refuses-require, refuses-ok) depth 8

  refuses-entered : (t : Tree) (now : ℕ) (place : EntryKey) (node : Node) → Refuses who (entered t now place node)
  refuses-entered t now place node = search (refuses_then, refuses-require, refuses-ok)

  refuses-in_session : (t : Tree) → Refuses who (in_session t who)
  refuses-in_session t = refuses-require _ (Stale (Session who.sid)) (eq-eqb who.sid who.sid refl)

  refuses-file_inode : (t : Tree) (path : List ℕ) → Refuses who (file_inode t who path)
  refuses-file_inode t path =
      search (refuses_then, refuses-in_session, refuses-inode_by, refuses-require, refuses-ok) depth 8

-- A reply by its kind: whether it may be a session that was made, or an open file.
abbrev reply_fits : Caller → Bool → Bool → Reply → Bool
reply_fits who mounts opens (Refused fault) = is_of_tree who fault
reply_fits who mounts opens (SessionMade sid) = mounts
reply_fits who mounts opens (FileOpened handle inode) = opens
reply_fits who mounts opens _ = true

record Says (who : Caller) (mounts opens : Bool) (reply : Reply) : Type 0 where
  fits : IsTrue (reply_fits who mounts opens reply)

module _ {who : Caller} {mounts opens : Bool} where
  says : (reply : Reply) → IsTrue (reply_fits who mounts opens reply) → Says who mounts opens reply
  says reply e = record { fits = e }

  says_then : {A : Type 0} (t : Tree) (x : Result A Fault) (next : A → Result Outcome Fault) → Refuses who x
      → ((a : A) → Says who mounts opens (outcome t (next a)).reply)
      → Says who mounts opens (outcome t (x >>= next)).reply
  says_then t (Ok a) next first rest = rest a
  says_then t (Err fault) next first rest = record { fits = first.by fault refl }

-- what is answered by each operation

module _ (t : Tree) (who : Caller) where
  abbrev Answers : Result Outcome Fault → Type 0
  Answers r = Says who false false (outcome t r).reply

  answers-mount : Says who true false (outcome t (mount t who)).reply
  unfolding mount
  answers-mount = search (says_then, refuses-require, says)

  answers-beat : Answers (beat t who)
  unfolding beat
  answers-beat =
      let gone : IsTrue (is_of_tree who (Stale (Session who.sid))) = eq-eqb who.sid who.sid refl in
      search (says_then, refuses-some_or, gone, says)

  answers-umount : Answers (umount t who)
  unfolding umount
  answers-umount = search (says_then, refuses-in_session, says)

  answers-release : Answers (release t who)
  unfolding release
  answers-release = search (says_then, refuses-in_session, says)

  answers-lookup : (path : List ℕ) → Answers (lookup t who path)
  unfolding lookup
  answers-lookup path = search (says_then, refuses-in_session, refuses-inode_by, says)

  answers-described : (inode : ℕ) → Answers (described t inode)
  answers-described inode = search (says_then, refuses-some_or, says)

  answers-stat : (path : List ℕ) → Answers (stat t who path)
  unfolding stat
  answers-stat path = search (says_then, refuses-in_session, refuses-inode_by, answers-described)

  answers-lstat : (path : List ℕ) → Answers (lstat t who path)
  unfolding lstat
  answers-lstat path = search (says_then, refuses-in_session, refuses-inode_by, answers-described)

  answers-fstat : Answers (fstat t who)
  unfolding fstat
  answers-fstat = search (says_then, refuses-in_session, refuses-some_or, says)

  answers-compact : (path : List ℕ) → Answers (compact t who path)
  unfolding compact
  answers-compact path = search (says_then, refuses-file_inode, says)

  answers-open_file : (path : List ℕ) → Says who false true (outcome t (open_file t who path)).reply
  unfolding open_file
  answers-open_file path = search (says_then, refuses-file_inode, says)

  answers-readdir : (path : List ℕ) → Answers (readdir t who path)
  unfolding readdir
  answers-readdir path = search (says_then, refuses-in_session, refuses-inode_by, refuses-require, says)

  answers-readlink : (path : List ℕ) → Answers (readlink t who path)
  unfolding readlink
  answers-readlink path = search (says_then, refuses-in_session, refuses-inode_by, refuses-some_or, says)

  answers-statfs : Answers (statfs t who)
  unfolding statfs
  answers-statfs = search (says_then, refuses-in_session, says)

  answers-with_attributes : (path : List ℕ) (change : Node → Node) → Answers (with_attributes t who path change)
  answers-with_attributes path change =
      search (says_then, refuses-in_session, refuses-inode_by, refuses-some_or, refuses-require, says) depth 8

  answers-chmod : (path : List ℕ) (mode : ℕ) → Answers (chmod t who path mode)
  unfolding chmod
  answers-chmod path mode = answers-with_attributes path (λ (node : Node). record node { mode = mode })

  answers-chown : (path : List ℕ) (uid gid : ℕ) → Answers (chown t who path uid gid)
  unfolding chown
  answers-chown path uid gid = answers-with_attributes path (λ (node : Node). record node { uid = uid; gid = gid })

  answers-utimes : (path : List ℕ) (mtime : ℕ) → Answers (utimes t who path mtime)
  unfolding utimes
  answers-utimes path mtime = answers-with_attributes path (λ (node : Node). record node { mtime = mtime })

  answers-mkdir : (path : List ℕ) (mode : ℕ) → Answers (mkdir t who path mode)
  unfolding mkdir
  answers-mkdir path mode =
      search (says_then, refuses-in_session, refuses-new_place, refuses-entered, refuses-require, says) depth 8

  answers-create : (path : List ℕ) (mode : ℕ) → Says who false true (outcome t (create t who path mode)).reply
  unfolding create
  answers-create path mode = search (says_then, refuses-in_session, refuses-new_place, refuses-entered, says) depth 8

  answers-symlink : (target path : List ℕ) → Answers (symlink t who target path)
  unfolding symlink
  answers-symlink target path =
      search (says_then, refuses-in_session, refuses-require, refuses-new_place, refuses-entered, says) depth 8

  answers-link : (path to : List ℕ) → Answers (link t who path to)
  unfolding link
  answers-link path to =
      search (says_then, refuses-in_session, refuses-inode_by, refuses-new_place, refuses-require, says) depth 8

  answers-truncate : (len : ℕ) → Answers (truncate t who len)
  unfolding truncate
  answers-truncate len = search (says_then, refuses-in_session, refuses-some_or, refuses-require, says) depth 8

  answers-copy_bytes : (from to len : ℕ) → Answers (copy_bytes t who from to len)
  answers-copy_bytes from to len = search (says_then, refuses-require, says) depth 8

  answers-copy : (from to len : ℕ) → Answers (copy t who from to len)
  unfolding copy
  answers-copy from to len = search (says_then, refuses-in_session, refuses-some_or, answers-copy_bytes) depth 8

  answers-unlink : (path : List ℕ) → Answers (unlink t who path)
  unfolding unlink
  answers-unlink path =
      search (says_then, refuses-in_session, refuses-entry_of, refuses-require, refuses-some_or, says) depth 8

  answers-rmdir : (path : List ℕ) → Answers (rmdir t who path)
  unfolding rmdir
  answers-rmdir path =
      search (says_then, refuses-in_session, refuses-entry_of, refuses-require, refuses-some_or, says) depth 9

  -- renames

  answers-renamed : (from : EntryKey) (source : ℕ) (to : EntryKey) → Answers (renamed t who from source to)
  answers-renamed from source to = search (says_then, refuses-require, says)

  answers-replacing : (from : EntryKey) (source : ℕ) (to : EntryKey) (other : ℕ)
      → Answers (replacing t who from source to other)
  answers-replacing from source to other = search (says_then, refuses-require, says) depth 8

  answers-exchanging : (from : EntryKey) (source : ℕ) (to : EntryKey) (other : ℕ)
      → Answers (exchanging t who from source to other)
  answers-exchanging from source to other = search (says_then, refuses-require, says)

  answers-unless_same : (source other : ℕ) (otherwise : Unit {0} → Result Outcome Fault) → Answers (otherwise tt)
      → Answers (unless_same t source other otherwise)
  answers-unless_same source other otherwise h = by_test (source == other)
    where
      by_test : (b : Bool) → Answers (elim b as (λ _. Result Outcome Fault) [ true ↦ done t | false ↦ otherwise tt ])
      by_test true = record { fits = refl }
      by_test false = h

  answers-renamed_over : (from : EntryKey) (source : ℕ) (to : EntryKey) (o : Option ℕ)
      → Answers (renamed_over t who from source to o)
  answers-renamed_over from source to None = answers-renamed from source to
  answers-renamed_over from source to (Some other) =
      answers-unless_same source other (λ _. replacing t who from source to other)
      (answers-replacing from source to other)

  answers-renamed_by : (how : How) (from : EntryKey) (source : ℕ) (to : EntryKey)
      → Answers (renamed_by how t who from source to)
  answers-renamed_by Plain from source to = answers-renamed_over from source to (get t.entries to)
  answers-renamed_by NoReplace from source to = search (says_then, refuses-require, answers-renamed)
  answers-renamed_by Exchange from source to =
      let over = λ (other : ℕ). unless_same t source other (λ _. exchanging t who from source to other) in
      says_then t (some_or (get t.entries to) NotFound) over (refuses-some_or _ NotFound refl) (λ other.
      answers-unless_same source other (λ _. exchanging t who from source to other)
      (answers-exchanging from source to other))

  answers-rename : (path to : List ℕ) (how : How) → Answers (rename t who path to how)
  unfolding rename
  answers-rename path to how =
      let by = answers-renamed_by in
      search (says_then, refuses-in_session, refuses-entry_of, refuses-require, refuses-some_or, by) depth 9

  says-tree_act : (o : Op) → Says who (is_mount_op o) (opens_file o) (tree_act t who o).reply
  says-tree_act (op.Mount writeback) = answers-mount
  says-tree_act op.Umount = answers-umount
  says-tree_act op.Beat = answers-beat
  says-tree_act (op.Lookup path) = answers-lookup path
  says-tree_act (op.Stat path) = answers-stat path
  says-tree_act (op.Lstat path) = answers-lstat path
  says-tree_act (op.Fstat handle) = answers-fstat
  says-tree_act (op.Mkdir path mode) = answers-mkdir path mode
  says-tree_act (op.Create path mode) = answers-create path mode
  says-tree_act (op.Open path) = answers-open_file path
  says-tree_act (op.Close handle) = answers-release
  says-tree_act (op.Truncate handle len) = answers-truncate len
  says-tree_act (op.Copy source from target to len) = answers-copy from to len
  says-tree_act (op.Readdir path) = answers-readdir path
  says-tree_act (op.Chmod path mode) = answers-chmod path mode
  says-tree_act (op.Chown path uid gid) = answers-chown path uid gid
  says-tree_act (op.Utimes path mtime) = answers-utimes path mtime
  says-tree_act op.Statfs = answers-statfs
  says-tree_act (op.Symlink target path) = answers-symlink target path
  says-tree_act (op.Readlink path) = answers-readlink path
  says-tree_act (op.Unlink path) = answers-unlink path
  says-tree_act (op.Rmdir path) = answers-rmdir path
  says-tree_act (op.Link path to) = answers-link path to
  says-tree_act (op.Rename path to how) = answers-rename path to how
  says-tree_act (op.Compact path window) = answers-compact path
  says-tree_act (op.Flush handle) = record { fits = refl }
  says-tree_act (op.Read handle offset len) = record { fits = refl }
  says-tree_act (op.Write handle offset bytes) = record { fits = refl }
  says-tree_act op.Clean = record { fits = refl }
  says-tree_act (op.Gc delete) = record { fits = refl }
  says-tree_act op.Upload = record { fits = refl }
  says-tree_act op.Stats = record { fits = refl }

  fits_as : (o : Op) (reply : Reply) → (tree_act t who o).reply ≡ reply
      → IsTrue (reply_fits who (is_mount_op o) (opens_file o) reply)
  fits_as o reply e =
      subst (λ (r : Reply). IsTrue (reply_fits who (is_mount_op o) (opens_file o) r)) e (says-tree_act o).fits

  -- the refusals of an operation on the tree
  pub refused_by_tree : (o : Op) (fault : Fault) → (tree_act t who o).reply ≡ Refused fault
      → IsTrue (is_of_tree who fault)
  refused_by_tree o fault e = fits_as o (Refused fault) e

  -- none is by a device or by memory
  pub no_device_or_memory : (o : Op) (fault : Fault) → (tree_act t who o).reply ≡ Refused fault
      → is_device_or_memory fault ≡ false
  no_device_or_memory o fault e = none_such fault (refused_by_tree o fault e)
    where
      none_such : (fault : Fault) → IsTrue (is_of_tree who fault) → is_device_or_memory fault ≡ false
      none_such (DeviceFailed device) h = absurd (false≢true h)
      none_such NoMemory h = absurd (false≢true h)
      none_such _ h = refl

  -- one by a session that is gone is by the caller's
  pub stale_session : (o : Op) (sid : ℕ) → (tree_act t who o).reply ≡ Refused (Stale (Session sid)) → sid ≡ who.sid
  stale_session o sid e = eqb-true sid who.sid (refused_by_tree o (Stale (Session sid)) e)

  -- only a mount makes a session
  pub no_session_made : (o : Op) (sid : ℕ) → is_mount_op o ≡ false → (tree_act t who o).reply ≡ SessionMade sid → ⊥
  no_session_made o sid other e = false≢true (sym other ∙ fits_as o (SessionMade sid) e)

  -- and only a create or an open opens a file
  pub opens_none : (o : Op) (handle inode : ℕ) → opens_file o ≡ false
      → (tree_act t who o).reply ≡ FileOpened handle inode → ⊥
  opens_none o handle inode other e = false≢true (sym other ∙ fits_as o (FileOpened handle inode) e)

  -- a session's number is the next one, and so 1 or more
  pub session_number : (writeback : Bool) (sid : ℕ) → 1 ≤ t.next_session
      → (tree_act t who (op.Mount writeback)).reply ≡ SessionMade sid → 1 ≤ sid
  unfolding mount
  session_number writeback sid first = by_test (nat_lt t.next_session FULL_COUNT)
    where
      said : Result Outcome Fault
      said = answered (with_session t who) (SessionMade t.next_session)

      by_test : (b : Bool) → (outcome t (require b NoSpace >>= (λ _. said))).reply ≡ SessionMade sid → 1 ≤ sid
      by_test false e = absurd (cc)
      by_test true e = (let same : t.next_session ≡ sid = cc in subst (λ n. 1 ≤ n) same first)
