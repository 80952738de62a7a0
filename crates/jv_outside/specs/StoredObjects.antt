-- What contracts see of objects in memory.
use Rattle.std.specs.Prelude.{ℕ, List, Option, None, Some}
use Rattle.std.specs.declared.ops.Bound.{Bound}
use Rattle.std.specs.declared.ops.Bound.TheVariants.{Excluded, Unbounded}
use Rattle.jv_model.specs.promise.FiniteMap.{map_of}
use Rattle.jv_outside.specs.declared.object_store.ObjectStore.{ObjectStore}
use Rattle.jv_outside.specs.LazyTrees.{entries_in}
use Rattle.jv_outside.specs.promise.Objects.{ObjectMap}
use Rattle.jv_outside.specs.Objects.{name_of, value_of}
use Rattle.jv_outside.specs.Overlaid.{overlaid}

-- the objects: those in the tree, and over them those that aren't there yet
abbrev pub objects_in : ObjectStore → ObjectMap
objects_in store = overlaid name_of value_of store.listed.items (map_of (entries_in store.tree))

-- where a listing begins: after a name, or at the first
abbrev pub list_start : Option (List ℕ) → Bound (List ℕ)
list_start None = Unbounded
list_start (Some last) = Excluded last
