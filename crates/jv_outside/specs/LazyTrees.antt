-- What contracts see of values that are sorted when their order is asked for.
use Rattle.std.specs.Prelude.{◌≡◌, cond, List, ◌++◌, Option}
use Rattle.std.specs.BTreeMap.{is_at}
use Rattle.std.specs.Map.{lookup}
use Rattle.std.specs.declared.cmp.Ordering.{Ordering}
use Rattle.jv_outside.specs.declared.lazy_tree.LazyTree.{LazyTree}

module _ {K V : Type 0} where
  -- the entries, of which the first of one key stands
  abbrev pub entries_in : LazyTree K V → List (K × V)
  entries_in tree = tree.recent.entries ++ tree.sorted.entries

  -- with this value at a key, or with none there, and at other keys as before
  abbrev pub Alters : (K → K → Ordering) → K → Option V → List (K × V) → List (K × V) → Type 0
  Alters cmp key value before after = (other : K)
      → lookup (is_at (cmp other)) after ≡ cond (is_at (cmp key) other) value
      (lookup (is_at (cmp other)) before)

  -- at each key as before
  abbrev pub IsLike : (K → K → Ordering) → List (K × V) → List (K × V) → Type 0
  IsLike cmp before after =
      (key : K) → lookup (is_at (cmp key)) after ≡ lookup (is_at (cmp key)) before
