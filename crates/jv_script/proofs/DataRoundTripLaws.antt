-- Bytes as they are printed are read as the same bytes.
use Rattle.std.proofs.Common.{◌≡◌, ℕ, zero, suc, ◌+◌, ◌/◌, ◌%◌, ◌^◌, ◌<◌, ◌≤◌, ◌&&◌, ◌==◌, nat_lt, nat_le, Bool, true, false, not, cond, List, [], ◌∷◌, ◌++◌, length, get_or, map, replicate, Some, codes, bytes_eq, refl, sym, ap, ◌∙◌, arith}
use Rattle.std.specs.Prelude.{All}
use Rattle.std.specs.List.{list_all, flat_map, join_with_byte}
use Rattle.std.specs.Fmt.{decimal}
use Rattle.std.proofs.lemmas.Bool.{eqb-true, le-leb, lt-ltb, false≢true, false_from_ne_true, and_parts}
use Rattle.std.proofs.Math.Bool.{and-false}
use Rattle.std.proofs.lemmas.List.{append_assoc, length-append, length-replicate}
use Rattle.std.proofs.lemmas.List.Splits.{slice_split_at, slice_split_none}
use Rattle.std.proofs.lemmas.List.Sums.{AllPass-from_list_all}
use Rattle.jv_model.specs.declared.limits.TheConstants.{MAX_DATA}
use Rattle.jv_model.specs.promise.script.Spelling.{is_decimal_digit, is_hex_digit, bytes_of_digits}
use Rattle.jv_model.specs.promise.script.Printed.{hex_digit, hex_pair, ByteRepeat, with_byte, repeats_of, DataPart, Plain, Repeated, with_short, parts_of, part_text, data_text}
use Rattle.jv_model.specs.promise.script.Grammar.{is_pairs, repeated_of, part_of, part_bytes, all_parts_of, data_of}
use Rattle.jv_model.specs.promise.Lists.{parted}
use Rattle.jv_script.specs.Reading.{bytes_after}
use Rattle.jv_script.specs.RoundTrips.{IsByte, DataIsReadAgain}
use Rattle.jv_script.proofs.PrintedDigitLaws.{high_is_hex, low_is_hex, pair_value, decimal_digits, decimal_read}
use Rattle.jv_script.proofs.PartLaws.{part_of_pairs, part_of_other, some_bytes, bytes_of_parts-after}
use Rattle.jv_script.proofs.RepeatLaws.{text_of, more_text, joined-cons}
use Rattle.jv_script.proofs.HexTextLaws.{pairs_len}

-- plain digits

rest_bytes : (c : ℕ) (bytes : List ℕ) → All IsByte (c ∷ bytes) → All IsByte bytes
rest_bytes c bytes all k d below = all (suc k) d (omega arith)

digits_are_hex : (bytes : List ℕ) → All IsByte bytes → list_all is_hex_digit (flat_map hex_pair bytes) ≡ true
digits_are_hex [] all = refl
digits_are_hex (c ∷ bytes) all = rw (high_is_hex c (all 0 0 (omega arith)), low_is_hex c) (digits_are_hex bytes (rest_bytes c bytes all))

digits_read : (bytes : List ℕ) → All IsByte bytes → bytes_of_digits (flat_map hex_pair bytes) ≡ bytes
digits_read [] all = refl
digits_read (c ∷ bytes) all =
    ap (λ (c : ℕ). c ∷ bytes_of_digits (flat_map hex_pair bytes)) (pair_value c (all 0 0 (omega arith))) ∙ ap (λ (bytes : List ℕ). c ∷ bytes) (digits_read bytes (rest_bytes c bytes all))

-- parts as they are printed

unfoldable IsSoundPart : DataPart → Type 0
IsSoundPart (Plain bytes) = All IsByte bytes × (0 < length bytes)
IsSoundPart (Repeated run) = IsByte run.byte × (0 < run.count) × (run.count < 2 ^ 64)

unfoldable AreSoundParts : List DataPart → Type 0
AreSoundParts [] = Unit {0}
AreSoundParts (part ∷ parts) = IsSoundPart part × AreSoundParts parts

no_pairs : (high low : ℕ) (digits : List ℕ) → is_pairs (high ∷ low ∷ 120 ∷ digits) ≡ false
no_pairs high low digits = by_digits (is_hex_digit high) (is_hex_digit low)
  where
    by_digits : (u v : Bool) → nat_lt 0 (length (high ∷ low ∷ 120 ∷ digits)) && (length (high ∷ low ∷ 120 ∷ digits) % 2 == 0) && (u && (v && false)) ≡ false
    by_digits true true = and-false (nat_lt 0 (length (high ∷ low ∷ 120 ∷ digits)) && (length (high ∷ low ∷ 120 ∷ digits) % 2 == 0))
    by_digits true false = and-false (nat_lt 0 (length (high ∷ low ∷ 120 ∷ digits)) && (length (high ∷ low ∷ 120 ∷ digits) % 2 == 0))
    by_digits false v = and-false (nat_lt 0 (length (high ∷ low ∷ 120 ∷ digits)) && (length (high ∷ low ∷ 120 ∷ digits) % 2 == 0))

part_read : (part : DataPart) → IsSoundPart part → part_of (part_text part) ≡ Some part
unfolding IsSoundPart repeated_of
part_read (Plain bytes) (all, some) =
    let size = pairs_len bytes in
    let even : length (flat_map hex_pair bytes) % 2 ≡ 0 = omega (arith, size) in
    let pairs : is_pairs (flat_map hex_pair bytes) ≡ true = rw (lt-ltb 0 (length (flat_map hex_pair bytes)) (omega (arith, size)), even) (digits_are_hex bytes all) in
    part_of_pairs (flat_map hex_pair bytes) pairs ∙ ap (λ (bytes : List ℕ). Some (Plain bytes)) (digits_read bytes all)
part_read (Repeated run) (byte, some, small) =
    part_of_other (hex_pair run.byte ++ 120 ∷ decimal run.count) (no_pairs (hex_digit (run.byte / 16)) (hex_digit (run.byte % 16)) (decimal run.count))
    ∙ rw (decimal_read run.count small, high_is_hex run.byte byte, low_is_hex run.byte, lt-ltb 0 run.count some, pair_value run.byte byte) refl

-- no part has a `+` in it

pub weaker : (p q : ℕ → Bool) (xs : List ℕ) → ((c : ℕ) → p c ≡ true → q c ≡ true) → list_all p xs ≡ true → list_all q xs ≡ true
weaker p q [] imply all = refl
weaker p q (x ∷ xs) imply all =
    let (first, others) = and_parts (p x) (list_all p xs) all in
    rw (imply x first) (weaker p q xs imply others)

abbrev is_no_plus : ℕ → Bool
is_no_plus c = not (c == 43)

hex_no_plus : (c : ℕ) → is_hex_digit c ≡ true → is_no_plus c ≡ true
hex_no_plus c hex = ap not (false_from_ne_true (c == 43) (λ plus. false≢true (ap is_hex_digit (sym (eqb-true c 43 plus)) ∙ hex)))

decimal_no_plus : (c : ℕ) → is_decimal_digit c ≡ true → is_no_plus c ≡ true
decimal_no_plus c digit = ap not (false_from_ne_true (c == 43) (λ plus. false≢true (ap is_decimal_digit (sym (eqb-true c 43 plus)) ∙ digit)))

part_no_plus : (part : DataPart) → IsSoundPart part → list_all is_no_plus (part_text part) ≡ true
unfolding IsSoundPart
part_no_plus (Plain bytes) (all, some) = weaker is_hex_digit is_no_plus (flat_map hex_pair bytes) hex_no_plus (digits_are_hex bytes all)
part_no_plus (Repeated run) (byte, some, small) =
    rw (hex_no_plus (hex_digit (run.byte / 16)) (high_is_hex run.byte byte), hex_no_plus (hex_digit (run.byte % 16)) (low_is_hex run.byte))
    (weaker is_decimal_digit is_no_plus (decimal run.count) decimal_no_plus (decimal_digits run.count small))

nowhere_plus : (text : List ℕ) → list_all is_no_plus text ≡ true → All (λ c. (c == 43) ≡ false) text
nowhere_plus text all k d below = by_test (get_or text k d == 43) (AllPass-from_list_all is_no_plus text all k d below)
  where
    by_test : (v : Bool) → not v ≡ true → v ≡ false
    by_test true e = cc
    by_test false e = refl

-- joined parts are read one by one
parts_read : (part : DataPart) (parts : List DataPart) → AreSoundParts (part ∷ parts) → all_parts_of (parted 43 (join_with_byte 43 (map part_text (part ∷ parts)))) ≡ Some (part ∷ parts)
unfolding AreSoundParts
parts_read part [] (sound, none) =
    ap all_parts_of (slice_split_none (λ c. c == 43) (part_text part) (nowhere_plus (part_text part) (part_no_plus part sound))) ∙ rw (part_read part sound) refl
parts_read part (next ∷ parts) (sound, others) =
    let text = join_with_byte 43 (map part_text (next ∷ parts)) in
    ap all_parts_of (slice_split_at (λ c. c == 43) (part_text part) 43 text (nowhere_plus (part_text part) (part_no_plus part sound)) refl)
    ∙ rw (part_read part sound, parts_read next parts others) refl

-- bytes are those of their parts

abbrev run_bytes : List ByteRepeat → List ℕ
run_bytes runs = flat_map (λ run. replicate run.count run.byte) runs

with_byte-bytes : (byte : ℕ) (runs : List ByteRepeat) → run_bytes (with_byte byte runs) ≡ byte ∷ run_bytes runs
with_byte-bytes byte [] = refl
with_byte-bytes byte (run ∷ runs) = by_test (byte == run.byte) refl
  where
    by_test : (v : Bool) → byte == run.byte ≡ v → run_bytes (cond v (record { byte = byte; count = run.count + 1 } ∷ runs) (record { byte = byte; count = 1 } ∷ run ∷ runs)) ≡ byte ∷ run_bytes (run ∷ runs)
    by_test true same =
        let counted : run.count + 1 ≡ suc run.count = omega arith in
        ap (λ (n : ℕ). replicate n byte ++ run_bytes runs) counted ∙ ap (λ (b : ℕ). byte ∷ replicate run.count b ++ run_bytes runs) (eqb-true byte run.byte same)
    by_test false other = refl

repeats_of-bytes : (bytes : List ℕ) → run_bytes (repeats_of bytes) ≡ bytes
repeats_of-bytes [] = refl
repeats_of-bytes (byte ∷ bytes) = with_byte-bytes byte (repeats_of bytes) ∙ ap (λ (bytes : List ℕ). byte ∷ bytes) (repeats_of-bytes bytes)

with_short-bytes : (bytes : List ℕ) (parts : List DataPart) → flat_map part_bytes (with_short bytes parts) ≡ bytes ++ flat_map part_bytes parts
with_short-bytes bytes [] = refl
with_short-bytes bytes (Plain more ∷ parts) = append_assoc bytes more (flat_map part_bytes parts)
with_short-bytes bytes (Repeated run ∷ parts) = refl

parts_of-bytes : (runs : List ByteRepeat) → flat_map part_bytes (parts_of runs) ≡ run_bytes runs
parts_of-bytes [] = refl
parts_of-bytes (run ∷ runs) = by_test (nat_le 4 run.count) ∙ ap (λ (bytes : List ℕ). replicate run.count run.byte ++ bytes) (parts_of-bytes runs)
  where
    by_test : (v : Bool) → flat_map part_bytes (cond v (Repeated run ∷ parts_of runs) (with_short (replicate run.count run.byte) (parts_of runs))) ≡ replicate run.count run.byte ++ flat_map part_bytes (parts_of runs)
    by_test true = refl
    by_test false = with_short-bytes (replicate run.count run.byte) (parts_of runs)

-- and the parts are sound

unfoldable AreSoundRuns : ℕ → List ByteRepeat → Type 0
AreSoundRuns most [] = Unit {0}
AreSoundRuns most (run ∷ runs) = (IsByte run.byte × (0 < run.count) × (run.count ≤ most)) × AreSoundRuns most runs

longer : (most : ℕ) (runs : List ByteRepeat) → AreSoundRuns most runs → AreSoundRuns (suc most) runs
unfolding AreSoundRuns
longer most [] sound = tt
longer most (run ∷ runs) ((byte, some, few), others) = ((byte, some, omega arith), longer most runs others)

with_byte-sound : (most byte : ℕ) (runs : List ByteRepeat) → IsByte byte → AreSoundRuns most runs → AreSoundRuns (suc most) (with_byte byte runs)
unfolding AreSoundRuns
with_byte-sound most byte [] is sound = ((is, omega arith, omega arith), tt)
with_byte-sound most byte (run ∷ runs) is ((first, some, few), others) = by_test (byte == run.byte)
  where
    by_test : (v : Bool) → AreSoundRuns (suc most) (cond v (record { byte = byte; count = run.count + 1 } ∷ runs) (record { byte = byte; count = 1 } ∷ run ∷ runs))
    by_test true = ((is, omega arith, omega arith), longer most runs others)
    by_test false = ((is, omega arith, omega arith), ((first, some, omega arith), longer most runs others))

runs_sound : (bytes : List ℕ) → All IsByte bytes → AreSoundRuns (length bytes) (repeats_of bytes)
unfolding AreSoundRuns
runs_sound [] all = tt
runs_sound (byte ∷ bytes) all = with_byte-sound (length bytes) byte (repeats_of bytes) (all 0 0 (omega arith)) (runs_sound bytes (rest_bytes byte bytes all))

all_replicated : (n byte : ℕ) → IsByte byte → All IsByte (replicate n byte)
all_replicated zero byte is k d below = absurd (omega arith)
all_replicated (suc n) byte is zero d below = is
all_replicated (suc n) byte is (suc k) d below = all_replicated n byte is k d (omega arith)

all_appended : (xs ys : List ℕ) → All IsByte xs → All IsByte ys → All IsByte (xs ++ ys)
all_appended [] ys all others k d below = others k d below
all_appended (x ∷ xs) ys all others zero d below = all 0 d (omega arith)
all_appended (x ∷ xs) ys all others (suc k) d below = all_appended xs ys (rest_bytes x xs all) others k d (omega arith)

with_short-sound : (bytes : List ℕ) (parts : List DataPart) → All IsByte bytes → 0 < length bytes → AreSoundParts parts → AreSoundParts (with_short bytes parts)
unfolding AreSoundParts IsSoundPart
with_short-sound bytes [] all some sound = ((all, some), tt)
with_short-sound bytes (Plain more ∷ parts) all some ((more_all, more_some), others) = ((all_appended bytes more all more_all, omega (arith, length-append bytes more)), others)
with_short-sound bytes (Repeated run ∷ parts) all some sound = ((all, some), sound)

parts_sound : (most : ℕ) (runs : List ByteRepeat) → most < 2 ^ 64 → AreSoundRuns most runs → AreSoundParts (parts_of runs)
unfolding AreSoundParts IsSoundPart AreSoundRuns
parts_sound most [] small sound = tt
parts_sound most (run ∷ runs) small ((byte, some, few), others) = by_test (nat_le 4 run.count) (parts_sound most runs small others)
  where
    by_test : (v : Bool) → AreSoundParts (parts_of runs) → AreSoundParts (cond v (Repeated run ∷ parts_of runs) (with_short (replicate run.count run.byte) (parts_of runs)))
    by_test true sound = ((byte, some, omega arith), sound)
    by_test false sound = with_short-sound (replicate run.count run.byte) (parts_of runs) (all_replicated run.count run.byte byte) (omega (arith, length-replicate run.count run.byte)) sound

-- the whole text

not_dash : (text : List ℕ) → 2 ≤ length text → bytes_eq text (codes "-") ≡ false
not_dash [] long = absurd (omega arith)
not_dash (a ∷ []) long = absurd (omega arith)
not_dash (a ∷ b ∷ text) long = and-false (a == 45)

part_long : (part : DataPart) → IsSoundPart part → 2 ≤ length (part_text part)
unfolding IsSoundPart
part_long (Plain bytes) (all, some) = omega (arith, pairs_len bytes)
part_long (Repeated run) sound = omega arith

joined_read : (parts : List DataPart) (bytes : List ℕ) → AreSoundParts parts → flat_map part_bytes parts ≡ bytes → 0 < length bytes → length bytes ≤ MAX_DATA → data_of (join_with_byte 43 (map part_text parts)) ≡ Some bytes
unfolding AreSoundParts bytes_after
joined_read [] bytes sound same some few = absurd (omega (arith, ap length same))
joined_read (part ∷ parts) bytes (sound, others) same some few =
    let text = join_with_byte 43 (map part_text (part ∷ parts)) in
    let shape = joined-cons part parts in
    let long : 2 ≤ length text = omega (arith, ap length shape, length-append (part_text part) (more_text parts), part_long part sound) in
    some_bytes text (not_dash text long) ∙ bytes_of_parts-after (parted 43 text)
    ∙ rw (parts_read part parts (sound, others), same, le-leb (length bytes) MAX_DATA few) refl

pub data_read_again : DataIsReadAgain
unfolding data_text data_of
data_read_again [] all few = refl
data_read_again (byte ∷ bytes) all few =
    let whole = byte ∷ bytes in
    ap data_of (text_of whole (omega arith))
    ∙ joined_read (parts_of (repeats_of whole)) whole (parts_sound (length whole) (repeats_of whole) (omega arith) (runs_sound whole all)) (parts_of-bytes (repeats_of whole) ∙ repeats_of-bytes whole) (omega arith) few
