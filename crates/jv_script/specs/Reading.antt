-- What the parts of the reader answer, against the grammar.
use Rattle.std.specs.Prelude.{◌≡◌, ◌==◌, ◌<◌, ◌≤◌, Bool, true, false, ℕ, ◌+◌, nat_le, List, [], ◌∷◌, ◌++◌, length, Option, None, Some, option_map, IsSome, IfSome, Result, Ok, Err}
use Rattle.std.specs.Borrow.{Bor}
use Rattle.std.specs.List.{flat_map}
use Rattle.std.specs.Option.{option_copied}
use Rattle.jv_model.specs.declared.limits.TheConstants.{MAX_DATA}
use Rattle.jv_model.specs.promise.Optional.{◌>>=◌}
use Rattle.jv_model.specs.promise.script.Spelling.{bytes_of_digits}
use Rattle.jv_model.specs.promise.script.Printed.{DataPart, Plain}
use Rattle.jv_model.specs.promise.script.Grammar.{is_pairs, part_of, part_length, part_bytes, all_parts_of}
use Rattle.jv_model.specs.promise.Lists.{parted}
use Rattle.jv_model.specs.Lists.{first_item}
use Rattle.jv_model.specs.promise.Optional.{provided}
use Rattle.jv_script.specs.declared.bad_line.BadLine.{BadLine}
use Rattle.jv_script.specs.declared.bad_line.BadLine.TheVariants.{Off, Memory}

-- the parts of the text after a separator, if there was a separator
abbrev pub parts_after : ℕ → Option (List ℕ) → List (List ℕ)
parts_after separator None = []
parts_after separator (Some text) = parted separator text

-- the words of the text that is left, and the escapes of a text after its first `%`
abbrev pub words_left : Option (Bor (List ℕ)) → List (List ℕ)
words_left rest = parts_after 32 (option_copied rest)

abbrev pub escapes_left : Option (Bor (List ℕ)) → List (List ℕ)
escapes_left rest = parts_after 37 (option_copied rest)

-- the value of the grammar: `Off` where there is none, and out of memory only where there is one
abbrev pub Reads : {T : Type 0} → Result T BadLine → Option T → Type 0
Reads (Ok value) grammar = grammar ≡ Some value
Reads (Err Off) grammar = grammar ≡ None
Reads (Err Memory) grammar = IsSome grammar

abbrev pub first_of : Option (List ℕ) → Option ℕ
first_of None = None
first_of (Some bytes) = first_item bytes

-- bytes, if not too many
abbrev pub limited_bytes : List ℕ → Option (List ℕ)
limited_bytes bytes = provided (nat_le (length bytes) MAX_DATA) bytes

-- bytes and those of parts after them, if not too many
unfoldable pub bytes_after : List ℕ → List (List ℕ) → Option (List ℕ)
bytes_after before texts = do
  parts ← all_parts_of texts
  limited_bytes (before ++ flat_map part_bytes parts)

-- the part that pairs of digits are
abbrev pub pairs_of : List ℕ → Option DataPart
pairs_of text = provided (is_pairs text) (Plain (bytes_of_digits text))

-- a part's third byte is an `x`
abbrev pub has_x : List ℕ → Bool
has_x (_ ∷ _ ∷ x ∷ _) = x == 120
has_x _ = false

-- bytes with those of a part after them; or there is no part, or it makes them too many
abbrev pub Appends : Bool → List ℕ → Option DataPart → List ℕ → Type 0
Appends true before part after = option_map (λ p. before ++ part_bytes p) part ≡ Some after
Appends false before part after = IfSome part (λ p. MAX_DATA < length before + part_length p)

-- bytes with those of a text's parts are other bytes with those of a rest's parts, which are no
-- more
abbrev pub Leaves : List ℕ → List ℕ → List ℕ → List ℕ → Type 0
Leaves before text after rest = record {
  whole : bytes_after before (parted 43 text) ≡ bytes_after after (parted 43 rest);
  no_more : length (parted 43 rest) ≤ length (parted 43 text);
}

-- the bytes that the first part of a text spells, and the text after it
pub record IsFirstPart (text spelled rest : List ℕ) : Type 0 where
  pub part : List ℕ
  pub bytes : option_map part_bytes (part_of part) ≡ Some spelled
  pub parts : parted 43 text ≡ part ∷ parted 43 rest
