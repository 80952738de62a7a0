-- What a piece of a plan shows.
use Rattle.std.specs.Prelude.{◌≡◌, ℕ, ◌+◌, ◌<◌, ◌≤◌, List, Contains}
use Rattle.jv_model.specs.declared.slice.Rec.{Rec}
use Rattle.jv_model.specs.declared.slice.Piece.{Piece}
use Rattle.jv_model.specs.declared.slice.Spot.{Spot}
use Rattle.jv_model.specs.declared.slice.Spot.TheVariants.{Zero, Slice}

-- the slice of these bytes, if they are of one, is that of a record of the list
abbrev pub NamesRecord : List Rec → Spot → Type 0
NamesRecord list Zero = Unit {0}
NamesRecord list (Slice id size at) =
    (0 < id) × ((r : Rec) × Contains list r × (r.id ≡ id) × (r.size ≡ size))

abbrev pub IsOfRecord : List Rec → Piece → Type 0
IsOfRecord list piece = NamesRecord list piece.spot

abbrev pub EndsBy : ℕ → Piece → Type 0
EndsBy to piece = piece.from + piece.len ≤ to
