-- What a range of a file reads as, by what its handle saw.
use Rattle.std.specs.Prelude.{◌≡◌, ◌⊎◌, ℕ, ◌-◌, ◌<◌, ◌≤◌, min, nat_le, if◌then◌else◌, List, [], ◌∷◌, ◌++◌, Option, None}
use Rattle.std.specs.Prelude.{Some}
use Rattle.jv_model.specs.promise.journal.Reading.{Asked, bytes_from, window_start}
use Rattle.jv_volume_bytes.specs.promise.Bytes.{KnownBytes}
use Rattle.jv_client_handles.specs.declared.views.View.{View}
use Rattle.jv_client_handles.specs.Views.{SeenViews, view_at}
use Rattle.jv_slices_reading.specs.Parts.{window_byte}

-- where in its window a part begins
abbrev pub place_of : Asked → ℕ
place_of asked = asked.from - window_start asked.window

-- how many positions of a part the file had
abbrev pub shown_len : View → Asked → ℕ
shown_len view asked = min asked.to view.length - asked.from

-- the bytes that a view shows of a part, as far as the file went, by what is known of slices
abbrev pub shown_bytes : KnownBytes → View → Asked → List ℕ
shown_bytes known_bytes view asked =
    bytes_from (window_byte known_bytes view.list) (place_of asked) (shown_len view asked)

-- What is read of these parts: the entries of the views, and their bytes. The part after one that
-- the file doesn't fill isn't read, and cites none.
pub data IsReadBy (known_bytes : KnownBytes) (views : SeenViews) (parts : List Asked)
    (read : ℕ × ℕ × List ℕ) : Type 0 where
  One : (asked : Asked) → (others : List Asked) → (view : View) → parts ≡ asked ∷ others
      → view_at views asked.window ≡ Some view → (others ≡ []) ⊎ (view.length < asked.to)
      → read ≡ (view.entry, 0, shown_bytes known_bytes view asked)
      → IsReadBy known_bytes views parts read
  Two : (asked other : Asked) → (view next : View) → parts ≡ asked ∷ other ∷ []
      → view_at views asked.window ≡ Some view
      → asked.to ≤ view.length → view_at views other.window ≡ Some next
      → read ≡ (
        view.entry,
        next.entry,
        shown_bytes known_bytes view asked
            ++ shown_bytes known_bytes next other,
      )
      → IsReadBy known_bytes views parts read

-- the first window without a view, where the views of all parts before it show all that is asked of
-- them
abbrev pub window_needed : SeenViews → List Asked → Option ℕ
window_needed views [] = None
window_needed views (asked ∷ others) = elim (view_at views asked.window) [
  | None ↦ Some asked.window
  | Some view ↦ (if nat_le asked.to view.length then window_needed views others else None)
]
