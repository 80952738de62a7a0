-- Where the bytes of a file lie: each position has a place, by the lists of the file's windows
-- (JuiceFS, Internals: chunks, slices and blocks). Laws on bytes are equations between functions
-- from position to place.
use Rattle.std.specs.Prelude.{ℕ, ◌+◌, ◌-◌, ◌*◌, ◌==◌, nat_le, nat_lt, if◌then◌else◌, List, [], ◌∷◌, ◌++◌}
use Rattle.jv_model.specs.declared.limits.TheConstants.{WINDOW}
use Rattle.jv_model.specs.declared.slice.Rec.{Rec}
use Rattle.jv_model.specs.declared.slice.Spot.{Spot}
use Rattle.jv_model.specs.declared.slice.Spot.TheVariants.{Zero}
use Rattle.jv_model.specs.promise.Ranges.{in_range}

-- the lists of a file, by window
abbrev pub Lists : Type 0
Lists = ℕ → List Rec

-- with another list in one window
abbrev pub with_list : ℕ → List Rec → Lists → Lists
with_list window records lists w = (if w == window then records else lists w)

-- places with others over a range, each by its distance from there
abbrev pub put_over : (ℕ → Spot) → ℕ → ℕ → (ℕ → Spot) → ℕ → Spot
put_over places from len new position =
    (if in_range from len position then new (position - from) else places position)

-- places up to a length
abbrev pub cut_at : (ℕ → Spot) → ℕ → ℕ → Spot
cut_at places len position = (if nat_lt position len then places position else Zero)

-- the record that shows nothing from a position to the end of its window
abbrev pub zero_record : ℕ → Rec
zero_record pos = record { pos = pos; id = 0; size = 0; off = 0; len = WINDOW - pos }

-- The list of a window once its file has a shorter length: none from there on, and where the length
-- lies inside of the window, one more record, which shows nothing. A window without a list stays
-- so.
abbrev pub cut_list : ℕ → ℕ → List Rec → List Rec
cut_list len window [] = []
cut_list len window (r ∷ rs) = (if nat_le len (window * WINDOW) then []
    else if nat_lt len (window * WINDOW + WINDOW)
    then (r ∷ rs) ++ zero_record (len - window * WINDOW) ∷ [] else r ∷ rs)
