-- Things in a list over a finite map, of which the first of one key stands.
use Rattle.std.specs.Prelude.{List, [], ◌∷◌}
use Rattle.jv_model.specs.promise.FiniteMap.{KeyOrder, Map, insert}

-- the map with the values of these things at their keys
abbrev pub overlaid : {E K X : Type 0} {order : KeyOrder K} → (E → K) → (E → X) → List E
    → Map order X → Map order X
overlaid key value [] m = m
overlaid key value (e ∷ es) m = insert (overlaid key value es m) (key e) (value e)
