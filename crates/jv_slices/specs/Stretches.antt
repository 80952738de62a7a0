-- Stretches: positions in a row that one record shows, or none.
use Rattle.std.specs.Prelude.{◌≡◌, ◌≢◌, ℕ, ◌+◌, ◌-◌, ◌<◌, ◌≤◌, Bool, nat_lt, ◌&&◌, List, [], ◌∷◌, Option}
use Rattle.jv_model.specs.declared.slice.Rec.{Rec}
use Rattle.jv_model.specs.declared.slice.Piece.{Piece}
use Rattle.jv_model.specs.promise.blocks.Slices.{place_by}
use Rattle.jv_slices.specs.declared.layout.Stretch.{Stretch}

-- a record begins before `to` and ends behind `from`
abbrev pub touches : ℕ → ℕ → Rec → Bool
touches from to r = nat_lt r.pos to && nat_lt from (r.pos + r.len)

-- what is seen is the same at all positions from one to another
abbrev pub IsSeen : (ℕ → Option Rec) → ℕ → ℕ → Option Rec → Type 0
IsSeen seen from to r = (position : ℕ) → from ≤ position → position < to → seen position ≡ r

-- the same is seen at each position from one to another
abbrev pub IsAlike : (ℕ → Option Rec) → (ℕ → Option Rec) → ℕ → ℕ → Type 0
IsAlike seen other from to =
    (position : ℕ) → from ≤ position → position < to → seen position ≡ other position

-- stretches that say what is seen from one position to another, one after the other
abbrev pub Shows : (ℕ → Option Rec) → ℕ → ℕ → List Stretch → Type 0
Shows seen from to [] = from ≡ to
Shows seen from to (stretch ∷ stretches) = (from < stretch.end)
    × IsSeen seen from stretch.end stretch.seen × Shows seen stretch.end to stretches

-- the first of the stretches sees something else
abbrev pub Turns : Option Rec → List Stretch → Type 0
Turns r [] = Unit {0}
Turns r (stretch ∷ _) = r ≢ stretch.seen

-- neighbours see different records
abbrev pub Differ : List Stretch → Type 0
Differ [] = Unit {0}
Differ (stretch ∷ stretches) = Turns stretch.seen stretches × Differ stretches

-- the stretches of what is seen, as few as there can be
pub record IsLayout (seen : ℕ → Option Rec) (from to : ℕ) (stretches : List Stretch) : Type 0 where
  pub shows : Shows seen from to stretches
  pub differ : Differ stretches

-- the piece of a stretch that begins at a position
abbrev pub piece_of : ℕ → Stretch → Piece
piece_of from stretch =
    record { from = from; len = stretch.end - from; spot = place_by stretch.seen from }
