-- The lines of a script as bytes.
use Rattle.std.specs.Prelude.{ℕ, Bool, ◌==◌, if◌then◌else◌, List, [], ◌∷◌}
use Rattle.std.specs.List.{onto_first}

abbrev pub is_feed : ℕ → Bool
is_feed byte = byte == 10

-- The texts of the lines of bytes. A line is ended by a line feed, which isn't part of its text and
-- which the last line may lack; nothing after the last line feed is no line.
abbrev pub texts_of : List ℕ → List (List ℕ)
texts_of [] = []
texts_of (byte ∷ bytes) =
    if is_feed byte then [] ∷ texts_of bytes else onto_first byte (texts_of bytes)
