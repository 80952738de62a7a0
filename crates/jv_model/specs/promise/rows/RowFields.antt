-- The fields of rows: how each is spelled, and how it is read from the first bytes. Numbers are
-- big-endian.
use Rattle.std.specs.Prelude.{ℕ, Bool, ◌&&◌, nat_lt, if◌then◌else◌, List, [], ◌∷◌, length, take, drop, Option, None, Some}
use Rattle.std.specs.Int.{w16, w32, w64, Width, byte_len, from_be_bytes, to_be_bytes}
pub use Rattle.jv_model.specs.promise.Optional.{◌>>=◌}
use Rattle.jv_model.specs.promise.Lists.{is_nil}

-- a number of 8 bits, of 16, of 32 and of 64
abbrev pub byte : ℕ → List ℕ
byte n = n ∷ []

abbrev pub half : ℕ → List ℕ
half n = to_be_bytes w16 n

abbrev pub word : ℕ → List ℕ
word n = to_be_bytes w32 n

abbrev pub long : ℕ → List ℕ
long n = to_be_bytes w64 n

-- a field at the front is its value with the bytes after it
abbrev pub byte_at : List ℕ → Option (ℕ × List ℕ)
byte_at [] = None
byte_at (b ∷ rest) = Some (b, rest)

-- a number of bytes
abbrev pub front_at : ℕ → List ℕ → Option (List ℕ × List ℕ)
front_at n bytes = if nat_lt (length bytes) n then None else Some (take n bytes, drop n bytes)

abbrev pub number_at : Width → List ℕ → Option (ℕ × List ℕ)
number_at w bytes = if nat_lt (length bytes) (byte_len w) then None
    else Some (from_be_bytes w (take (byte_len w) bytes), drop (byte_len w) bytes)

abbrev pub half_at : List ℕ → Option (ℕ × List ℕ)
half_at bytes = number_at w16 bytes

abbrev pub word_at : List ℕ → Option (ℕ × List ℕ)
word_at bytes = number_at w32 bytes

abbrev pub long_at : List ℕ → Option (ℕ × List ℕ)
long_at bytes = number_at w64 bytes

-- the value, where it is allowed and no bytes are left over
abbrev pub whole : {A : Type 0} → (A → Bool) → A → List ℕ → Option A
whole is_allowed x rest = if is_nil rest && is_allowed x then Some x else None
