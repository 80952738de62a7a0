-- What a client that has files open may rely on across each operation, whatever it answers.
use Rattle.std.proofs.Common.{◌≡◌, ℕ, ◌≤◌, Bool, true, false, not, ◌&&◌, ◌==◌, inl, inr, List, Option, None, Some}
use Rattle.std.proofs.Common.{is_some, Result, Ok, Err, refl, sym, ap, subst, ◌∙◌, arith}
use Rattle.std.specs.Prelude.{IsTrue}
use Rattle.std.proofs.lemmas.Bool.{false≢true, and_parts, not-true, false_from_ne_true}
use Rattle.jv_model.specs.declared.limits.TheConstants.{FULL_COUNT}
use Rattle.jv_model.specs.declared.op.Op.{Op}
use Rattle.jv_model.specs.declared.op.Op.TheVariants as op
use Rattle.jv_model.specs.declared.fault.Fault.{Fault}
use Rattle.jv_model.specs.promise.FiniteMap.{get}
use Rattle.jv_model.specs.promise.tree.Attempt.{◌>>=◌}
use Rattle.jv_model.specs.promise.tree.Tree.{Tree, Node, File, Directory, Symlink, Content, node_at, content_in}
use Rattle.jv_model.specs.promise.tree.Tree.{content_at, is_sustained}
use Rattle.jv_model.specs.promise.tree.Changes.{touched, with_content, overwritten, resized, copied_over}
use Rattle.jv_model.specs.promise.tree.Caller.{Caller, Outcome, outcome}
use Rattle.jv_model.specs.promise.tree.FileBytes.{committed, truncated, copied, truncate, copy, copied_between}
use Rattle.jv_model.specs.promise.tree.TreeAct.{tree_act}
use Rattle.jv_model.specs.promise.Lists.{is_among}
use Rattle.jv_model.specs.client.OpForms.{changes_bytes, takes_entries}
use Rattle.jv_volume.specs.promise.Shape.{Regular, Shape, WholeShape, form_of, is_there, shape_of}
use Rattle.jv_volume.specs.Holding.{IsHoldable, HasBytes, Kept, New as NewFile, Stays}
use Rattle.jv_volume.proofs.shapes.ShapeMapLaws.{pair_of, is_there-form, form-content}
use Rattle.jv_volume.proofs.operations.ChangeLaws.{change_node-setting}
use Rattle.jv_volume.proofs.shapes.SameShapeLaws.{shape-committed, shape-truncated, shape-copied}
use Rattle.jv_volume.proofs.holding.KeptFilesLaws.{KeepsFiles, NodeKept, Gone, Same, New, keeps-none}
use Rattle.jv_volume.proofs.holding.KeptOperationLaws.{none_more, those_held, keeps-create, keeps-mkdir, keeps-symlink}
use Rattle.jv_volume.proofs.holding.KeptOperationLaws.{keeps-link, keeps-chmod, keeps-chown, keeps-utimes, keeps-rmdir}
use Rattle.jv_volume.proofs.holding.KeptOperationLaws.{keeps-mount, keeps-beat, keeps-umount, keeps-release, keeps-unlink}
use Rattle.jv_volume.proofs.holding.KeptOperationLaws.{keeps-rename}
use Rattle.jv_volume.proofs.shapes.ReadingShapeLaws.{reads-lookup, reads-stat, reads-lstat, reads-fstat, reads-compact}
use Rattle.jv_volume.proofs.shapes.ReadingShapeLaws.{reads-open_file, reads-readdir, reads-readlink, reads-statfs}

-- a file has bytes
file_content : (o : Option Node) → form_of o ≡ Regular → is_some (content_in o) ≡ true
file_content None e = absurd (cc)
file_content (Some node) e =
    elim node.kind as (λ kind. form_of (Some (record node { kind = kind })) ≡ Regular
    → is_some (content_in (Some (record node { kind = kind }))) ≡ true) [
      | File content ↦ λ e. refl
      | Directory parent ↦ λ e. absurd (cc)
      | Symlink target ↦ λ e. absurd (cc)
    ] e

-- and what has bytes is one
file_form : (o : Option Node) → is_some (content_in o) ≡ true → form_of o ≡ Regular
file_form o e = by_content (content_in o) refl e
  where
    by_content : (c : Option Content) → content_in o ≡ c → is_some c ≡ true → form_of o ≡ Regular
    by_content None is e = absurd (false≢true e)
    by_content (Some content) is e = form-content o content is

module _ (low : Type 0) (more : ℕ → Bool) (t after : Tree) (is_low : low) (k : KeepsFiles low more t after) where
  holdable_at : (inode : ℕ) → IsHoldable t inode → NodeKept t after inode
      → IsTrue (is_there ((shape_of after).form inode)) → (shape_of after).form inode ≡ Regular
  holdable_at inode h (Gone none) there = absurd (false≢true (sym (ap is_there (ap form_of none)) ∙ there))
  holdable_at inode h (New high empty) there = absurd (let low = h.below in omega (arith, high, low))
  holdable_at inode h (Same same bytes) there =
      let was : IsTrue (is_there ((shape_of t).form inode)) =
      is_there-form (node_at t inode) ∙ sym same ∙ sym (is_there-form (node_at after inode)) ∙ there in
      file_form (node_at after inode) (ap is_some bytes ∙ file_content (node_at t inode) (h.file was))

  stays_kept : Stays t after
  stays_kept = record {
    setting = k.setting;
    next = k.next;
    holdable = λ inode h. record {
      below = (let low = h.below in let next = k.next in omega (arith, low, next));
      file = holdable_at inode h (k.node is_low inode);
    };
  }

  bytes_at : (inode : ℕ) (content : Content) → content_at after inode ≡ Some content → NodeKept t after inode
      → HasBytes t inode content
  bytes_at inode content is (Gone none) = absurd (let absent : content_at after inode ≡ None = ap content_in none in cc)
  bytes_at inode content is (Same same bytes) = Kept (sym bytes ∙ is)
  bytes_at inode content is (New high empty) = NewFile high (empty content is)

  has_bytes_kept : (inode : ℕ) (content : Content) → content_at after inode ≡ Some content → HasBytes t inode content
  has_bytes_kept inode content is = bytes_at inode content is (k.node is_low inode)

-- the files that an operation may leave to sessions without entries
abbrev kept_by : Op → Caller → ℕ → Bool
kept_by (op.Unlink path) who = those_held who
kept_by (op.Rename path to how) who = those_held who
kept_by _ who = none_more

-- the trees in which inodes of hours lie past those that are given to new nodes
abbrev IsLow : Tree → Type 0
IsLow t = t.next_inode ≤ FULL_COUNT

module _ (t : Tree) (who : Caller) where
  same : (more : ℕ → Bool) (after : Tree) → after ≡ t → KeepsFiles (IsLow t) more t after
  same more after e = subst (KeepsFiles (IsLow t) more t) (sym e) (keeps-none t)

  keeps-tree_act : (o : Op) → changes_bytes o ≡ false → KeepsFiles (IsLow t) (kept_by o who) t (tree_act t who o).tree
  keeps-tree_act (op.Mount writeback) e = keeps-mount t who
  keeps-tree_act op.Umount e = keeps-umount t who
  keeps-tree_act op.Beat e = keeps-beat t who
  keeps-tree_act (op.Lookup path) e = same none_more _ (reads-lookup t who path)
  keeps-tree_act (op.Stat path) e = same none_more _ (reads-stat t who path)
  keeps-tree_act (op.Lstat path) e = same none_more _ (reads-lstat t who path)
  keeps-tree_act (op.Fstat handle) e = same none_more _ (reads-fstat t who)
  keeps-tree_act (op.Mkdir path mode) e = keeps-mkdir t who path mode
  keeps-tree_act (op.Create path mode) e = keeps-create t who path mode
  keeps-tree_act (op.Open path) e = same none_more _ (reads-open_file t who path)
  keeps-tree_act (op.Close handle) e = keeps-release t who
  keeps-tree_act (op.Truncate handle len) e = absurd (false≢true (sym e))
  keeps-tree_act (op.Copy source from target to len) e = absurd (false≢true (sym e))
  keeps-tree_act (op.Readdir path) e = same none_more _ (reads-readdir t who path)
  keeps-tree_act (op.Chmod path mode) e = keeps-chmod t who path mode
  keeps-tree_act (op.Chown path uid gid) e = keeps-chown t who path uid gid
  keeps-tree_act (op.Utimes path mtime) e = keeps-utimes t who path mtime
  keeps-tree_act op.Statfs e = same none_more _ (reads-statfs t who)
  keeps-tree_act (op.Symlink target path) e = keeps-symlink t who target path
  keeps-tree_act (op.Readlink path) e = same none_more _ (reads-readlink t who path)
  keeps-tree_act (op.Unlink path) e = keeps-unlink t who (λ low. low) path
  keeps-tree_act (op.Rmdir path) e = keeps-rmdir t who path
  keeps-tree_act (op.Link path to) e = keeps-link t who path to
  keeps-tree_act (op.Rename path to how) e = keeps-rename t who (λ low. low) path to how
  keeps-tree_act (op.Compact path window) e = same none_more _ (reads-compact t who path)
  keeps-tree_act (op.Flush handle) e = keeps-none t
  keeps-tree_act (op.Read handle offset len) e = keeps-none t
  keeps-tree_act (op.Write handle offset bytes) e = keeps-none t
  keeps-tree_act op.Clean e = keeps-none t
  keeps-tree_act (op.Gc delete) e = keeps-none t
  keeps-tree_act op.Upload e = keeps-none t
  keeps-tree_act op.Stats e = keeps-none t

-- bytes that change

-- a tree of the same shape
record IsAlike (t after : Tree) : Type 0 where
  shape : shape_of after ≡ shape_of t
  setting : after.setting ≡ t.setting

module _ (t : Tree) where
  -- clients hold what they held
  stays_alike : (after : Tree) → IsAlike t after → Stays t after
  stays_alike after a = record {
    setting = a.setting;
    next = (let e = ap (λ (s : Shape). s.next_inode) a.shape in omega (arith, e));
    holdable = λ inode h. record {
      below = (let low = h.below in let e = ap (λ (s : Shape). s.next_inode) a.shape in omega (arith, low, e));
      file = λ there. ap (λ (s : Shape). s.form inode) a.shape ∙ h.file
          (ap (λ (s : Shape). is_there (s.form inode)) (sym a.shape) ∙ there);
    };
  }

  setting-with_content : (now inode : ℕ) (content : Content) → (with_content t now inode content).setting ≡ t.setting
  setting-with_content now inode content =
      change_node-setting t inode (λ (node : Node). record (touched now node) { kind = File content })

  alike-committed : (now inode from : ℕ) (bytes : List ℕ) → IsAlike t (committed t now inode from bytes)
  alike-committed now inode from bytes =
      record { shape = shape-committed t now inode from bytes; setting = by_content (content_at t inode) }
    where
      by_content : (o : Option Content) → (elim o as (λ _. Tree) [
        | None ↦ t
        | Some content ↦ with_content t now inode (overwritten content from bytes)
      ]).setting ≡ t.setting
      by_content None = refl
      by_content (Some content) = setting-with_content now inode (overwritten content from bytes)

  alike-truncated : (now inode len : ℕ) → IsAlike t (truncated t now inode len)
  alike-truncated now inode len =
      record { shape = shape-truncated t now inode len; setting = by_content (content_at t inode) }
    where
      by_content : (o : Option Content) → (elim o as (λ _. Tree) [
        | None ↦ t
        | Some content ↦ with_content t now inode (resized content len)
      ]).setting ≡ t.setting
      by_content None = refl
      by_content (Some content) = setting-with_content now inode (resized content len)

  alike-copied : (now source from target to len : ℕ) → IsAlike t (copied t now source from target to len)
  alike-copied now source from target to len =
      record { shape = shape-copied t now source from target to len; setting = by_test (len == 0) }
    where
      by_contents : (a b : Option Content) → (copied_between t now a from target b to len).setting ≡ t.setting
      by_contents None b = refl
      by_contents (Some content) None = refl
      by_contents (Some content) (Some other) = setting-with_content now target (copied_over content from other to len)

      by_test : (b : Bool) → (elim b as (λ _. Tree) [
        | true ↦ t
        | false ↦ copied_between t now (content_at t source) from target (content_at t target) to len
      ]).setting ≡ t.setting
      by_test true = refl
      by_test false = by_contents (content_at t source) (content_at t target)

  -- an attempt that leaves the shape, whatever it answers
  abbrev LeavesShape : Result Outcome Fault → Type 0
  LeavesShape r = IsAlike t (outcome t r).tree

  alike_past : {A : Type 0} (x : Result A Fault) (next : A → Result Outcome Fault)
      → ((a : A) → x ≡ Ok a → LeavesShape (next a)) → LeavesShape (x >>= next)
  alike_past (Ok a) next h = h a refl
  alike_past (Err fault) next h = record { shape = refl; setting = refl }

  alike-truncate : (who : Caller) (len : ℕ) → LeavesShape (truncate t who len)
  unfolding truncate
  alike-truncate who len = search (alike_past, alike-truncated) depth 8

  alike-copy : (who : Caller) (from to len : ℕ) → LeavesShape (copy t who from to len)
  unfolding copy
  alike-copy who from to len = search (alike_past, alike-copied) depth 10

-- bytes committed to a file
pub stays-committed : (t : Tree) (now inode from : ℕ) (bytes : List ℕ) → Stays t (committed t now inode from bytes)
stays-committed t now inode from bytes =
    stays_alike t (committed t now inode from bytes) (alike-committed t now inode from bytes)

-- what holds of each operation

-- an operation that changes bytes, or not
data ByBytes (t : Tree) (who : Caller) (o : Op) : Type 0 where
  Leaves : changes_bytes o ≡ false → ByBytes t who o
  Changes : takes_entries o ≡ false → IsAlike t (tree_act t who o).tree → ByBytes t who o

by_bytes : (t : Tree) (who : Caller) (o : Op) → ByBytes t who o
by_bytes t who (op.Truncate handle len) = Changes refl (alike-truncate t who len)
by_bytes t who (op.Copy source from target to len) = Changes refl (alike-copy t who from to len)
by_bytes t who o = Leaves refl

module _ (t : Tree) (who : Caller) (w : WholeShape (shape_of t)) where
  -- An inode that was given to a file stays that file or is gone.
  pub stays-tree_act : (o : Op) → Stays t (tree_act t who o).tree
  stays-tree_act o = elim (by_bytes t who o) [
    | Leaves e ↦ stays_kept (IsLow t) (kept_by o who) t (tree_act t who o).tree w.inodes_end (keeps-tree_act t who o e)
    | Changes e alike ↦ stays_alike t (tree_act t who o).tree alike
  ]

  -- The bytes of each file stay, or it is new.
  pub has_bytes-tree_act : (o : Op) → changes_bytes o ≡ false → (inode : ℕ) (content : Content)
      → content_at (tree_act t who o).tree inode ≡ Some content
      → HasBytes t inode content
  has_bytes-tree_act o e =
      has_bytes_kept (IsLow t) (kept_by o who) t (tree_act t who o).tree w.inodes_end (keeps-tree_act t who o e)

-- files that a session keeps from then on

-- a file that a session keeps and didn't
comes : (was is : Bool) → (is && not was) ≡ true → (is ≡ true) × (was ≡ false)
comes was is h = let both = and_parts is (not was) h in (both.0, not-true was both.1)

module _ (t : Tree) (who : Caller) where
  -- where an operation makes no session keep more files than those that pass a test
  sustains_more : (low : Type 0) (more : ℕ → Bool) (after : Tree) (inode : ℕ) → KeepsFiles low more t after
      → (is_sustained after who.sid inode && not (is_sustained t who.sid inode)) ≡ true → IsTrue (more inode)
  sustains_more low more after inode k h =
      let both = comes (is_sustained t who.sid inode) (is_sustained after who.sid inode) h in
      elim (k.sustained who.sid inode both.0) [
        | inl was ↦ absurd (false≢true (sym both.1 ∙ was))
        | inr may ↦ may
      ]

  sustains_alike : (after : Tree) (inode : ℕ) → IsAlike t after
      → (is_sustained after who.sid inode && not (is_sustained t who.sid inode)) ≡ true → ⊥
  sustains_alike after inode a h =
      let both = comes (is_sustained t who.sid inode) (is_sustained after who.sid inode) h in
      false≢true (sym both.1 ∙ ap (λ (s : Shape). is_some (get s.sustained (pair_of who.sid inode))) (sym a.shape)
      ∙ both.0)

  none_kept : (o : Op) → takes_entries o ≡ false → (inode : ℕ) → IsTrue (kept_by o who inode) → ⊥
  none_kept (op.Unlink path) e inode h = absurd (false≢true (sym e))
  none_kept (op.Rename path to how) e inode h = absurd (false≢true (sym e))
  none_kept o e inode h = absurd (false≢true h)

  -- Only an operation that takes entries makes the caller's session keep a file.
  pub sustains_none : (o : Op) → takes_entries o ≡ false → (inode : ℕ)
      → (is_sustained (tree_act t who o).tree who.sid inode && not (is_sustained t who.sid inode)) ≡ false
  sustains_none o e inode = false_from_ne_true _ (elim (by_bytes t who o) [
    | Leaves leaves ↦ λ h. none_kept o e inode
        (sustains_more (IsLow t) (kept_by o who) (tree_act t who o).tree inode (keeps-tree_act t who o leaves) h)
    | Changes _ alike ↦ λ h. sustains_alike (tree_act t who o).tree inode alike h
  ])

  kept_held : (o : Op) (inode : ℕ) → IsTrue (kept_by o who inode) → IsTrue (is_among inode who.held)
  kept_held (op.Unlink path) inode h = h
  kept_held (op.Rename path to how) inode h = h
  kept_held o inode h = absurd (false≢true h)

  -- and only one that the caller has open
  pub sustains_held : (o : Op) (inode : ℕ)
      → (is_sustained (tree_act t who o).tree who.sid inode && not (is_sustained t who.sid inode)) ≡ true
      → IsTrue (is_among inode who.held)
  sustains_held o inode = elim (by_bytes t who o) [
    | Leaves leaves ↦ λ h. kept_held o inode
        (sustains_more (IsLow t) (kept_by o who) (tree_act t who o).tree inode (keeps-tree_act t who o leaves) h)
    | Changes _ alike ↦ λ h. absurd (sustains_alike (tree_act t who o).tree inode alike h)
  ]
