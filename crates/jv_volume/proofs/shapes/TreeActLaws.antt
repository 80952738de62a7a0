-- Each operation leaves a whole tree whole, whatever it answers.
use Rattle.std.proofs.Common.{◌≡◌, ◌≤◌, ap}
use Rattle.jv_model.specs.declared.limits.TheConstants.{LAST_MOMENT}
use Rattle.jv_model.specs.declared.op.Op.{Op}
use Rattle.jv_model.specs.declared.op.Op.TheVariants as op
use Rattle.jv_model.specs.promise.tree.Tree.{Tree}
use Rattle.jv_model.specs.promise.tree.Caller.{Caller}
use Rattle.jv_model.specs.promise.tree.TreeAct.{tree_act}
use Rattle.jv_volume.specs.promise.Shape.{WholeShape, shape_of}
use Rattle.jv_volume.proofs.shapes.RemovalLaws.{HoldsFiles}
use Rattle.jv_volume.proofs.shapes.SameShapeLaws.{whole_as}
use Rattle.jv_volume.proofs.shapes.OperationShapeLaws.{whole-create, whole-mkdir, whole-symlink, whole-link, whole-chmod, whole-chown, whole-utimes, whole-truncate, whole-copy, whole-mount, whole-beat, whole-umount, whole-release}
use Rattle.jv_volume.proofs.shapes.ReadingShapeLaws.{reads-lookup, reads-stat, reads-lstat, reads-fstat, reads-compact, reads-open_file, reads-readdir, reads-readlink, reads-statfs}
use Rattle.jv_volume.proofs.shapes.RenamingOperationLaws.{whole-unlink, whole-rmdir, whole-rename}

module _ (t : Tree) (who : Caller) (w : WholeShape (shape_of t)) (first : 1 ≤ t.next_session) (held : HoldsFiles (shape_of t) who.held)
    (clock : who.now ≤ LAST_MOMENT) where
  same : (after : Tree) → after ≡ t → WholeShape (shape_of after)
  same after e = whole_as (shape_of t) (shape_of after) (ap shape_of e) w

  -- the tree after an operation, of a caller who has only files open, at a moment of the clock
  pub whole-tree_act : (o : Op) → WholeShape (shape_of (tree_act t who o).tree)
  whole-tree_act (op.Mount writeback) = whole-mount t who w first
  whole-tree_act op.Umount = whole-umount t who w
  whole-tree_act op.Beat = whole-beat t who w
  whole-tree_act (op.Lookup path) = same _ (reads-lookup t who path)
  whole-tree_act (op.Stat path) = same _ (reads-stat t who path)
  whole-tree_act (op.Lstat path) = same _ (reads-lstat t who path)
  whole-tree_act (op.Fstat handle) = same _ (reads-fstat t who)
  whole-tree_act (op.Mkdir path mode) = whole-mkdir t who w path mode
  whole-tree_act (op.Create path mode) = whole-create t who w path mode
  whole-tree_act (op.Open path) = same _ (reads-open_file t who path)
  whole-tree_act (op.Close handle) = whole-release t who w
  whole-tree_act (op.Truncate handle len) = whole-truncate t who w len
  whole-tree_act (op.Copy source from target to len) = whole-copy t who w from to len
  whole-tree_act (op.Readdir path) = same _ (reads-readdir t who path)
  whole-tree_act (op.Chmod path mode) = whole-chmod t who w path mode
  whole-tree_act (op.Chown path uid gid) = whole-chown t who w path uid gid
  whole-tree_act (op.Utimes path mtime) = whole-utimes t who w path mtime
  whole-tree_act op.Statfs = same _ (reads-statfs t who)
  whole-tree_act (op.Symlink target path) = whole-symlink t who w target path
  whole-tree_act (op.Readlink path) = same _ (reads-readlink t who path)
  whole-tree_act (op.Unlink path) = whole-unlink t who w held clock path
  whole-tree_act (op.Rmdir path) = whole-rmdir t who w held clock path
  whole-tree_act (op.Link path to) = whole-link t who w path to
  whole-tree_act (op.Rename path to how) = whole-rename t who w held clock path to how
  whole-tree_act (op.Compact path window) = same _ (reads-compact t who path)
  whole-tree_act (op.Flush handle) = w
  whole-tree_act (op.Read handle offset len) = w
  whole-tree_act (op.Write handle offset bytes) = w
  whole-tree_act op.Clean = w
  whole-tree_act (op.Gc delete) = w
  whole-tree_act op.Upload = w
  whole-tree_act op.Stats = w
