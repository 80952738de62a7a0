-- How the fields of a script's line are spelled: words, numbers, modes, digits and letters.
use Rattle.std.specs.Prelude.{ℕ, ◌+◌, ◌-◌, ◌*◌, Bool, true, false, ◌&&◌, ◌||◌, not, ◌==◌, nat_le, if◌then◌else◌, List, [], ◌∷◌, length, Option, None, Some, fold}
use Rattle.std.specs.List.{list_all}
use Rattle.jv_model.specs.declared.limits.TheConstants.{MAX_DATA, LAST_CLIENT}
use Rattle.jv_model.specs.declared.options.TheConstants.{MAX_NUMBER}
pub use Rattle.jv_model.specs.promise.Optional.{◌>>=◌}
use Rattle.jv_model.specs.promise.Lists.{parted}

-- the words of a text, parted at each space: two spaces in a row part an empty word off
abbrev pub words : List ℕ → List (List ℕ)
words text = parted 32 text

-- the value, where it is at most the limit
abbrev pub at_most : ℕ → ℕ → Option ℕ
at_most limit n = (if nat_le n limit then Some n else None)

-- the number that digits stand for in a base of at most ten
abbrev pub value_of : ℕ → List ℕ → ℕ
value_of base digits = fold (λ n digit. n * base + (digit - 48)) 0 digits

abbrev pub is_decimal_digit : ℕ → Bool
is_decimal_digit c = nat_le 48 c && nat_le c 57

-- decimal digits, of which the first is no zero unless it stands alone
abbrev pub is_numeral : List ℕ → Bool
is_numeral [] = false
is_numeral (digit ∷ []) = is_decimal_digit digit
is_numeral (digit ∷ more ∷ digits) =
    not (digit == 48) && list_all is_decimal_digit (digit ∷ more ∷ digits)

-- a number, at most the greatest of 64 bits
unfoldable pub number_of : List ℕ → Option ℕ
number_of text = (if is_numeral text then at_most MAX_NUMBER (value_of 10 text) else None)

-- the length of a read
unfoldable pub length_of : List ℕ → Option ℕ
length_of text = do
  n ← number_of text
  at_most MAX_DATA n

abbrev pub is_octal_digit : ℕ → Bool
is_octal_digit c = nat_le 48 c && nat_le c 55

-- a mode: four octal digits
unfoldable pub mode_of : List ℕ → Option ℕ
mode_of text =
    (if length text == 4 && list_all is_octal_digit text then Some (value_of 8 text) else None)

abbrev pub is_letter_or_digit : ℕ → Bool
is_letter_or_digit c =
    is_decimal_digit c || (nat_le 65 c && nat_le c 90) || (nat_le 97 c && nat_le c 122)

-- hexadecimal digits of either case
abbrev pub is_hex_digit : ℕ → Bool
is_hex_digit c = is_decimal_digit c || (nat_le 65 c && nat_le c 70) || (nat_le 97 c && nat_le c 102)

-- what a hexadecimal digit stands for
abbrev pub hex_value : ℕ → ℕ
hex_value c = (if nat_le c 57 then c - 48 else if nat_le c 70 then c - 55 else c - 87)

-- the byte of two hexadecimal digits
abbrev pub byte_of : ℕ → ℕ → ℕ
byte_of high low = hex_value high * 16 + hex_value low

-- the bytes of pairs of hexadecimal digits, the high one first
abbrev pub bytes_of_digits : List ℕ → List ℕ
bytes_of_digits [] = []
bytes_of_digits (_ ∷ []) = []
bytes_of_digits (high ∷ low ∷ digits) = byte_of high low ∷ bytes_of_digits digits

-- a client's letter, A to H
unfoldable pub client_of : List ℕ → Option ℕ
client_of (letter ∷ []) =
    (if nat_le 65 letter && nat_le letter (65 + LAST_CLIENT) then Some (letter - 65) else None)
client_of _ = None

-- an empty text or a comment
abbrev pub is_silent : List ℕ → Bool
is_silent [] = true
is_silent (first ∷ _) = first == 35
