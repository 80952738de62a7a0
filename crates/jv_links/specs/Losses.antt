-- Trees in which a file or a symlink has just lost its last entry.
use Rattle.std.specs.Prelude.{◌≡◌, ℕ, ◌≤◌, false, Some, IsTrue}
use Rattle.jv_model.specs.declared.limits.TheConstants.{LAST_MOMENT}
use Rattle.jv_model.specs.promise.FiniteMap.{get}
use Rattle.jv_model.specs.promise.tree.Changes.{take_entry}
use Rattle.jv_model.specs.promise.tree.Tree.{Tree, EntryKey, in_trash, is_directory, entry_count}
use Rattle.jv_volume.specs.promise.Shape.{WholeShape, shape_of}
use Rattle.jv_volume.specs.promise.TypedRows.{is_entry_name}

-- a tree without the last entry of a file or a symlink, which stood outside the trash of a whole
-- tree
pub record IsToTrash (t : Tree) (now : ℕ) (place : EntryKey) (inode : ℕ) : Type 0 where
  pub before : Tree
  pub is : t ≡ take_entry before now place
  pub whole : WholeShape (shape_of before)
  pub named : get before.entries place ≡ Some inode
  pub leaf : is_directory before inode ≡ false
  pub one : entry_count before inode ≡ 1
  pub outside : in_trash place.dir ≡ false
  pub clock : now ≤ LAST_MOMENT
  pub name : IsTrue (is_entry_name place.name)
