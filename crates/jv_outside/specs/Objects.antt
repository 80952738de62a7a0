-- What only inner contracts cite: of `promise/Objects`.
use Rattle.std.specs.Prelude.{◌≡◌, ℕ, List, length, filter, map, take, Bool, true, Option, None, Some, Result, Ok, Err}
use Rattle.std.specs.Coded.{Coded, coded×, coded_list, coded_ℕ}
use Rattle.std.specs.Option.{option_map}
use Rattle.std.specs.Ordering.{nat_cmp, is_lt}
use Rattle.std.specs.Cmp.Lexicographic.{slice_cmp}
use Rattle.jv_model.specs.declared.fault.Down.{Down}
use Rattle.jv_model.specs.declared.slice.Seen.{Seen}
use Rattle.jv_model.specs.promise.FiniteMap.{empty_map, insert, remove}
use Rattle.jv_model.specs.FiniteMap.{map_code}
use Rattle.jv_outside.specs.declared.object.Object.{Object}
use Rattle.jv_outside.specs.declared.parcel.Parcel.{Parcel}
use Rattle.jv_outside.specs.promise.Holding.{Holding, FailsToHold}
use Rattle.jv_outside.specs.Overlaid.{overlaid}
use Rattle.jv_outside.specs.Parcels.{Carries}
use Rattle.jv_outside.specs.promise.Objects.{ObjectMap}

abbrev pub object_map_code : Coded ObjectMap
object_map_code = map_code (coded_list coded_ℕ) (coded× (coded_list coded_ℕ) coded_ℕ)

abbrev pub name_of : Object → List ℕ
name_of object = object.name

abbrev pub value_of : Object → List ℕ × ℕ
value_of object = (object.bytes, object.at)

-- objects in any order as a map, where the first of one name stands
abbrev pub object_map : List Object → ObjectMap
object_map objects = overlaid name_of value_of objects empty_map

-- with these bytes and this moment at a name
abbrev pub with_object : List ℕ → List ℕ → ℕ → ObjectMap → ObjectMap
with_object name bytes at objects = insert objects name (bytes, at)

-- without an object of a name
abbrev pub without : List ℕ → ObjectMap → ObjectMap
without name objects = remove objects name

-- whether a name is after another, where there is one
abbrev pub is_later : Option (List ℕ) → List ℕ → Bool
is_later None name = true
is_later (Some last) name = is_lt (slice_cmp nat_cmp last name)

-- an object as a listing shows it
abbrev pub as_seen : List ℕ × (List ℕ × ℕ) → Seen
as_seen object = record { name = object.0; size = length object.1.0; at = object.1.1 }

-- the first `count` objects after a name, or from the first on, in the order of their names
abbrev pub seen_after : Option (List ℕ) → ℕ → ObjectMap → List Seen
seen_after last count objects =
    take count (map as_seen (filter (λ object. is_later last object.0) objects.list))

-- The parcel's bytes and moment are at its name, and no call failed since. A depot whose objects
-- are known knows the bytes, so it publishes no parcel that may stand for any.
pub record IsPublished (before after : Holding ObjectMap) (parcel : Parcel) : Type 0 where
  pub content_is : (bytes : List ℕ) → Carries parcel.load bytes
      → after.content ≡ option_map (with_object parcel.name bytes parcel.at) before.content
  pub opened_at : after.opened ≡ before.opened
  pub calm : after.faults ≡ before.faults

-- publishing a parcel, by the result
abbrev pub Publishes : Holding ObjectMap → Holding ObjectMap → Result (Unit {0}) (Parcel × Down)
    → Parcel → Type 0
Publishes before after (Ok unit) parcel = IsPublished before after parcel
Publishes before after (Err refused) parcel =
    (refused.0 ≡ parcel) × FailsToHold before after refused.1
