-- How bytes are cut into the parts that are printed, and which answers are numbers.
use Rattle.std.specs.Prelude.{Bool, true, false, ◌&&◌, ◌==◌, ◌≡◌, ◌≢◌, ℕ, ◌<◌, ◌≤◌, List, [], ◌∷◌, ◌++◌, length, map, take, drop, replicate, slice_index}
use Rattle.std.specs.List.{join_with_byte}
use Rattle.jv_model.specs.declared.op.Reply.{Reply}
use Rattle.jv_model.specs.declared.op.Reply.TheVariants as reply
use Rattle.jv_model.specs.promise.script.Printed.{DataPart, Plain, repeats_of, parts_of, part_text}

-- the first n bytes are equal, and the next one, if any, is another
pub record IsFirstRepeat (bytes : List ℕ) (n : ℕ) : Type 0 where
  pub some : 0 < n
  pub within : n ≤ length bytes
  pub same : take n bytes ≡ replicate n (slice_index bytes 0)
  pub repeats : repeats_of bytes ≡ record { byte = slice_index bytes 0; count = n } ∷ repeats_of
      (drop n bytes)

-- the first n bytes are this one, and the next one, if any, is another
pub record IsFrontCount (byte : ℕ) (bytes : List ℕ) (n : ℕ) : Type 0 where
  pub within : n ≤ length bytes
  pub same : (k : ℕ) → k < n → slice_index bytes k ≡ byte
  pub other : n < length bytes → slice_index bytes n ≢ byte

-- the first four bytes are equal: a long repeat begins there
abbrev pub begins_long : List ℕ → Bool
begins_long (a ∷ b ∷ c ∷ d ∷ _) = a == b && (b == c && c == d)
begins_long _ = false

-- no long repeat begins at the first n bytes
abbrev pub HasNoLongBefore : ℕ → List ℕ → Type 0
HasNoLongBefore n bytes = (k : ℕ) → k < n → begins_long (drop k bytes) ≡ false

-- the first n bytes are the first part
pub record IsPlainFront (bytes : List ℕ) (n : ℕ) : Type 0 where
  pub some : 0 < n
  pub within : n ≤ length bytes
  pub parts : parts_of (repeats_of bytes)
      ≡ Plain (take n bytes) ∷ parts_of (repeats_of (drop n bytes))

-- a `+`, where one is needed
abbrev pub joint : Bool → List ℕ
joint true = 43 ∷ []
joint false = []

abbrev pub joined : List DataPart → List ℕ
joined parts = join_with_byte 43 (map part_text parts)

-- the text of the bytes to come
abbrev pub rest_text : List ℕ → List ℕ
rest_text bytes = joined (parts_of (repeats_of bytes))

-- the bytes before the rest were appended to what is printed, which is between parts
pub record PrintsTo (old bytes new rest : List ℕ) : Type 0 where
  pub text : new ++ rest_text rest ≡ old ++ rest_text bytes
  pub fewer : length rest < length bytes

-- an answer of numbers alone, or of none
abbrev pub is_counts : Reply → Bool
is_counts (reply.Refused _) = false
is_counts (reply.Described _) = false
is_counts (reply.Data _) = false
is_counts (reply.Entries _) = false
is_counts (reply.Target _) = false
is_counts (reply.Uploaded _) = false
is_counts _ = true
