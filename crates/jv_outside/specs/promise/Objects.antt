-- What a depot holds, and what its calls do to that.
use Rattle.std.specs.Prelude.{ℕ, List, Option}
use Rattle.std.specs.Option.{option_map}
use Rattle.jv_model.specs.promise.FiniteMap.{Map, text_key, get}

-- objects: the bytes and the moment at each name, in the order of the names' bytes
abbrev pub ObjectMap : Type 0
ObjectMap = Map text_key (List ℕ × ℕ)

-- the bytes at a name
abbrev pub bytes_at : List ℕ → ObjectMap → Option (List ℕ)
bytes_at name objects = option_map (λ object. object.0) (get objects name)
