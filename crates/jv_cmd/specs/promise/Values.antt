-- The values of a command line, each as what its text stands for. A text is bytes.
use Rattle.std.specs.Prelude.{ℕ, ◌-◌, ◌*◌, Bool, false, ◌&&◌, ◌||◌, ◌==◌, nat_lt, nat_le, if◌then◌else◌, List, length, take, drop, slice_get, Option, None, Some, option_and_then, codes, bytes_eq}
use Rattle.std.specs.Option.{option_map_or}
use Rattle.jv_model.specs.declared.options.TheConstants.{MAX_DIGITS}
use Rattle.jv_model.specs.declared.limits.TheConstants.{KIB, MIB}
use Rattle.jv_model.specs.promise.rows.RowGrammar.{is_block_length}
use Rattle.jv_model.specs.promise.script.Spelling.{is_numeral, value_of}

-- a number: decimal digits without a leading zero, at most MAX_DIGITS of them
unfoldable pub number_of_digits : List ℕ → Option ℕ
number_of_digits text =
    (if is_numeral text && nat_le (length text) MAX_DIGITS then Some (value_of 10 text) else None)

-- the number, where it lies in a range
abbrev pub within : ℕ → ℕ → ℕ → Option ℕ
within least most n = (if nat_le least n && nat_le n most then Some n else None)

unfoldable pub number_within : ℕ → ℕ → List ℕ → Option ℕ
number_within least most text = option_and_then (within least most) (number_of_digits text)

-- the last byte is this
abbrev pub ends_with : ℕ → List ℕ → Bool
ends_with byte text = option_map_or (λ last. last == byte) (slice_get text (length text - 1)) false

-- the digits of a length, without the suffix K or M
unfoldable pub digits_of : List ℕ → List ℕ
digits_of text =
    (if ends_with 75 text || ends_with 77 text then take (length text - 1) text else text)

-- the bytes that its digits count: MiB by the suffix M, else KiB
unfoldable pub unit_of : List ℕ → ℕ
unit_of text = (if ends_with 77 text then MIB else KIB)

abbrev pub as_block_size : ℕ → Option ℕ
as_block_size bytes = (if is_block_length bytes then Some bytes else None)

-- the length of a block, in bytes
unfoldable pub block_size_of : List ℕ → Option ℕ
block_size_of text =
    option_and_then (λ n. as_block_size (n * unit_of text)) (number_of_digits (digits_of text))

-- the place of a volume, which follows `sqlite3://` in its URL and isn't empty
unfoldable pub place_of : List ℕ → Option (List ℕ)
place_of url =
    (if nat_lt 10 (length url) && bytes_eq (take 10 url) (codes "sqlite3://")
    then Some (drop 10 url) else None)
