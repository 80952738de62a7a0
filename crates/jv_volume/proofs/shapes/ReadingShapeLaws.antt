-- The operations that read leave the tree, and so its shape.
use Rattle.std.proofs.Common.{◌≡◌, ℕ, List, Result, Ok, Err, refl}
use Rattle.jv_model.specs.declared.fault.Fault.{Fault}
use Rattle.jv_model.specs.declared.fault.Fault.TheVariants.{NotFound, NotADirectory, Invalid, Stale}
use Rattle.jv_model.specs.declared.fault.Gone.TheVariants.{Node as GoneNode}
use Rattle.jv_model.specs.declared.op.Reply.TheVariants.{Found, Described, FileOpened, Entries, Usage, Target}
use Rattle.jv_model.specs.promise.tree.Attempt.{◌>>=◌, require, some_or}
use Rattle.jv_model.specs.promise.tree.Tree.{Tree, Node, node_at, is_directory, target_at}
use Rattle.jv_model.specs.promise.tree.Caller.{Caller, Outcome, outcome, answered, done, in_session}
use Rattle.jv_model.specs.promise.tree.Walk.{inode_of, unfollowed_inode_of}
use Rattle.jv_model.specs.promise.tree.Reading.{attr_of, entries_of, usage_of, lookup, described, stat, lstat, fstat, file_inode, compact, open_file, readdir, readlink, statfs}

-- an attempt that changes no tree, whatever it answers
abbrev Reads : Tree → Result Outcome Fault → Type 0
Reads t r = (outcome t r).tree ≡ t

reads_then : {A : Type 0} (t : Tree) (x : Result A Fault) (next : A → Result Outcome Fault) → ((a : A) → Reads t (next a)) → Reads t (x >>= next)
reads_then t (Ok a) next h = h a
reads_then t (Err fault) next h = refl

-- one after a test of the session
reads_in : (t : Tree) (who : Caller) (next : Result Outcome Fault) → Reads t next → Reads t (in_session t who >>= (λ _. next))
reads_in t who next h = reads_then t (in_session t who) (λ _. next) (λ _. h)

module _ (t : Tree) (who : Caller) where
  -- an inode looked up
  pub reads-lookup : (path : List ℕ) → (outcome t (lookup t who path)).tree ≡ t
  unfolding lookup
  reads-lookup path =
      let said = λ (inode : ℕ). answered t (Found inode) in
      reads_in t who (unfollowed_inode_of t path >>= said) (reads_then t (unfollowed_inode_of t path) said (λ inode. refl))

  reads_described : (inode : ℕ) → Reads t (described t inode)
  reads_described inode = reads_then t (some_or (node_at t inode) NotFound) (λ node. answered t (Described (attr_of t inode node))) (λ node. refl)

  -- attributes behind symlinks
  pub reads-stat : (path : List ℕ) → (outcome t (stat t who path)).tree ≡ t
  unfolding stat
  reads-stat path = reads_in t who (inode_of t path >>= described t) (reads_then t (inode_of t path) (described t) reads_described)

  -- attributes of a symlink itself
  pub reads-lstat : (path : List ℕ) → (outcome t (lstat t who path)).tree ≡ t
  unfolding lstat
  reads-lstat path = reads_in t who (unfollowed_inode_of t path >>= described t) (reads_then t (unfollowed_inode_of t path) (described t) reads_described)

  -- attributes of an open file
  pub reads-fstat : (outcome t (fstat t who)).tree ≡ t
  unfolding fstat
  reads-fstat =
      let next = λ (node : Node). answered t (Described (attr_of t who.inode node)) in
      let node = some_or (node_at t who.inode) (Stale (GoneNode who.inode)) in
      reads_in t who (node >>= next) (reads_then t node next (λ node. refl))

  -- a compaction
  pub reads-compact : (path : List ℕ) → (outcome t (compact t who path)).tree ≡ t
  unfolding compact
  reads-compact path = reads_then t (file_inode t who path) (λ inode. done t) (λ inode. refl)

  -- a file opened
  pub reads-open_file : (path : List ℕ) → (outcome t (open_file t who path)).tree ≡ t
  unfolding open_file
  reads-open_file path = reads_then t (file_inode t who path) (λ inode. answered t (FileOpened who.free_handle inode)) (λ inode. refl)

  -- a directory listed
  pub reads-readdir : (path : List ℕ) → (outcome t (readdir t who path)).tree ≡ t
  unfolding readdir
  reads-readdir path =
      let said = λ (dir : ℕ). answered t (Entries (entries_of t dir)) in
      let next = λ (dir : ℕ). require (is_directory t dir) NotADirectory >>= (λ _. said dir) in
      reads_in t who (inode_of t path >>= next) (reads_then t (inode_of t path) next (λ dir.
      reads_then t (require (is_directory t dir) NotADirectory) (λ _. said dir) (λ _. refl)))

  -- the target of a symlink
  pub reads-readlink : (path : List ℕ) → (outcome t (readlink t who path)).tree ≡ t
  unfolding readlink
  reads-readlink path =
      let said = λ (target : List ℕ). answered t (Target target) in
      let next = λ (inode : ℕ). some_or (target_at t inode) Invalid >>= said in
      reads_in t who (unfollowed_inode_of t path >>= next) (reads_then t (unfollowed_inode_of t path) next (λ inode.
      reads_then t (some_or (target_at t inode) Invalid) said (λ target. refl)))

  -- the usage of a volume
  pub reads-statfs : (outcome t (statfs t who)).tree ≡ t
  unfolding statfs
  reads-statfs = reads_in t who (answered t (Usage (usage_of t))) refl
