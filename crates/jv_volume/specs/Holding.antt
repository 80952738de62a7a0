-- What a client that has files open relies on while a tree changes.
use Rattle.std.specs.Prelude.{◌≡◌, ℕ, ◌≤◌, ◌<◌, Some, IsTrue}
use Rattle.jv_model.specs.promise.tree.Tree.{Tree, Content, content_at}
use Rattle.jv_model.specs.promise.tree.Changes.{empty_content}
use Rattle.jv_volume.specs.promise.Shape.{Regular, is_there, shape_of}

-- An inode that was given to a file: the file is there or gone, and no other node comes in its
-- place.
pub record IsHoldable (t : Tree) (inode : ℕ) : Type 0 where
  pub below : inode < t.next_inode
  pub file : IsTrue (is_there ((shape_of t).form inode)) → (shape_of t).form inode ≡ Regular

-- the bytes of a file are those that it had, or it is new and has none
pub data HasBytes (t : Tree) (inode : ℕ) (content : Content) : Type 0 where
  Kept : content_at t inode ≡ Some content → HasBytes t inode content
  New : t.next_inode ≤ inode → content ≡ empty_content → HasBytes t inode content

-- another tree of the same volume, on which what clients hold may still be held
pub record Stays (t after : Tree) : Type 0 where
  pub setting : after.setting ≡ t.setting
  pub next : t.next_inode ≤ after.next_inode
  pub holdable : (inode : ℕ) → IsHoldable t inode → IsHoldable after inode
