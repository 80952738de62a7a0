-- What a tree has to be for two of its entries to change places, and the changes that this is made
-- of.
use Rattle.std.specs.Prelude.{◌≡◌, ◌≢◌, ℕ, true, false, ◌&&◌, Some, Result, Ok, IsTrue}
use Rattle.jv_model.specs.declared.fault.Fault.{Fault}
use Rattle.jv_model.specs.declared.fault.Fault.TheVariants.{NoSpace}
use Rattle.jv_model.specs.promise.FiniteMap.{get}
use Rattle.jv_model.specs.promise.tree.Attempt.{◌>>=◌, require}
use Rattle.jv_model.specs.promise.tree.Changes.{put_entry}
use Rattle.jv_model.specs.promise.tree.Renaming.{is_inside, move_in, exchanged}
use Rattle.jv_model.specs.promise.tree.Tree.{Tree, EntryKey, links_fit}
use Rattle.jv_volume.specs.promise.Shape.{WholeShape, shape_of}
use Rattle.jv_volume.specs.promise.TypedRows.{is_entry_name}

-- Two entries of a whole tree that may change places. The links of what they name can be stored.
pub record MayExchange (t : Tree) (from : EntryKey) (source : ℕ) (to : EntryKey)
    (other : ℕ) : Type 0 where
  pub whole : WholeShape (shape_of t)
  pub is : get t.entries from ≡ Some source
  pub also : get t.entries to ≡ Some other
  pub apart : source ≢ other
  pub from_name : IsTrue (is_entry_name from.name)
  pub to_name : IsTrue (is_entry_name to.name)
  pub outside : is_inside t to.dir source ≡ false
  pub beside : is_inside t from.dir other ≡ false
  pub links_source : links_fit t source ≡ true
  pub links_other : links_fit t other ≡ true

-- an inode moved in from elsewhere, where the link counts of its new directory and its own can be
-- stored
abbrev pub entry_moved : ℕ → EntryKey → ℕ → Tree → Result Tree Fault
entry_moved now place inode t = do
  _ ← require (links_fit (put_entry t now place inode) place.dir
      && links_fit (put_entry t now place inode) inode)
      NoSpace
  Ok (move_in t now place inode)

-- the inodes of two entries exchanged, where the links of both directories can be stored
abbrev pub exchanged_within : ℕ → EntryKey → ℕ → EntryKey → ℕ → Tree → Result Tree Fault
exchanged_within now from source to other t = do
  _ ← require (links_fit (exchanged t now from source to other) from.dir && links_fit
      (exchanged t now from source to other) to.dir) NoSpace
  Ok (exchanged t now from source to other)
