-- Parts of the bytes of a write, one after another.
use Rattle.std.proofs.Common.{subst, ◌≡◌, ◌==◌, ◌&&◌, ◌%◌, ℕ, ◌+◌, ◌/◌, ◌<◌, ◌≤◌, Bool, true, false, List, [], ◌∷◌, ◌++◌, length, get_or, Option, Some, None, IfSome, option_map, is_some, sum_by, refl, sym, ap, ◌∙◌, arith, cond, codes, bytes_eq, eqb-true, nat_lt, nat_le}
use Rattle.std.specs.List.{flat_map, list_all}
use Rattle.std.proofs.lemmas.List.{append_assoc, append-nil, length-append, length-replicate}
use Rattle.std.proofs.lemmas.Bool.{le-leb, lt-leb, lt-ltb, and_parts, false≢true, false_from_ne_true}
use Rattle.std.proofs.Math.Bool.{and-false}
use Rattle.std.proofs.lemmas.List.Sums.{sum_by-cons}
use Rattle.std.proofs.lemmas.List.Folds.{list_all_at}
use Rattle.jv_model.specs.declared.limits.TheConstants.{MAX_DATA}
use Rattle.jv_model.specs.promise.script.Spelling.{is_hex_digit, number_of, at_most, bytes_of_digits, byte_of}
use Rattle.jv_model.specs.promise.Optional.{◌>>=◌}
use Rattle.jv_model.specs.promise.script.Printed.{DataPart, Plain, Repeated}
use Rattle.jv_model.specs.promise.script.Grammar.{is_pairs, repeated_of, part_of, part_length, part_bytes, all_parts_of, bytes_of_parts, data_of}
use Rattle.jv_model.specs.promise.Lists.{parted}
use Rattle.jv_model.specs.promise.Optional.{provided}
use Rattle.jv_script.proofs.CutLaws.{parted_none}
use Rattle.jv_script.specs.Reading.{has_x, pairs_of, limited_bytes, bytes_after, Appends, Leaves, IsFirstPart}

-- lengths

-- how many bytes parts have together with some before them, if not too many
unfoldable pub length_with : ℕ → List (List ℕ) → Option ℕ
length_with before texts = do
  parts ← all_parts_of texts
  at_most MAX_DATA (before + sum_by part_length parts)

limited : ℕ → Option (List DataPart) → Option ℕ
limited before parts = parts >>= (λ all. at_most MAX_DATA (before + sum_by part_length all))

length_with-limited : (before : ℕ) (texts : List (List ℕ)) → length_with before texts ≡ limited before (all_parts_of texts)
unfolding length_with limited
length_with-limited before texts = refl

pub length_with_none : (before : ℕ) → before ≤ MAX_DATA → length_with before [] ≡ Some before
unfolding length_with
length_with_none before small =
    let sum : before + 0 ≡ before = omega arith in
    rw (sum, le-leb before MAX_DATA small) refl

pub length_with_off : (before : ℕ) (text : List ℕ) (texts : List (List ℕ)) → option_map part_length (part_of text) ≡ None → length_with before (text ∷ texts) ≡ None
unfolding length_with
length_with_off before text texts off = by_part (part_of text) off
  where
    by_part : (o : Option DataPart) → option_map part_length o ≡ None → ((o >>= (λ part. all_parts_of texts >>= (λ parts. Some (part ∷ parts)))) >>= (λ all. at_most MAX_DATA (before + sum_by part_length all))) ≡ None
    by_part None off = refl
    by_part (Some part) off = cc

-- one part more
more_parts : (before n : ℕ) (part : DataPart) (o : Option (List DataPart)) → part_length part ≡ n → limited before (o >>= (λ parts. Some (part ∷ parts))) ≡ limited (before + n) o
unfolding limited
more_parts before n part None e = refl
more_parts before n part (Some parts) e =
    let sum : before + sum_by part_length (part ∷ parts) ≡ before + n + sum_by part_length parts = omega (arith, sum_by-cons part_length part parts) in
    ap (λ (v : ℕ). at_most MAX_DATA v) sum

pub length_with_more : (before n : ℕ) (text : List ℕ) (texts : List (List ℕ)) → option_map part_length (part_of text) ≡ Some n → length_with before (text ∷ texts) ≡ length_with (before + n) texts
length_with_more before n text texts e = length_with-limited before (text ∷ texts) ∙ by_part (part_of text) e ∙ sym (length_with-limited (before + n) texts)
  where
    by_part : (o : Option DataPart) → option_map part_length o ≡ Some n → limited before (o >>= (λ part. all_parts_of texts >>= (λ parts. Some (part ∷ parts)))) ≡ limited (before + n) (all_parts_of texts)
    by_part None e = cc
    by_part (Some part) e = let same : part_length part ≡ n = cc in more_parts before n part (all_parts_of texts) same

over : (before : ℕ) (o : Option (List DataPart)) → MAX_DATA < before → limited before o ≡ None
unfolding limited
over before None large = refl
over before (Some parts) large = rw (lt-leb (before + sum_by part_length parts) MAX_DATA (omega arith)) refl

pub length_with_over : (before n : ℕ) (text : List ℕ) (texts : List (List ℕ)) → option_map part_length (part_of text) ≡ Some n → MAX_DATA < before + n → length_with before (text ∷ texts) ≡ None
length_with_over before n text texts e large = length_with_more before n text texts e ∙ length_with-limited (before + n) texts ∙ over (before + n) (all_parts_of texts) large

-- single parts

pub length-bytes_of_digits : (digits : List ℕ) → length (bytes_of_digits digits) ≡ length digits / 2
length-bytes_of_digits [] = refl
length-bytes_of_digits (x ∷ []) = refl
length-bytes_of_digits (x ∷ y ∷ digits) =
    let rest = length-bytes_of_digits digits in
    omega arith

pub part_of_pairs : (text : List ℕ) → is_pairs text ≡ true → part_of text ≡ Some (Plain (bytes_of_digits text))
unfolding part_of
part_of_pairs text pairs = rw pairs refl

pub part_of_other : (text : List ℕ) → is_pairs text ≡ false → part_of text ≡ repeated_of text
unfolding part_of
part_of_other text other = rw other refl

pub no_bytes : (text : List ℕ) → bytes_eq text (codes "-") ≡ true → data_of text ≡ Some []
unfolding data_of
no_bytes text dash = rw dash refl

pub some_bytes : (text : List ℕ) → bytes_eq text (codes "-") ≡ false → data_of text ≡ bytes_of_parts (parted 43 text)
unfolding data_of
some_bytes text other = rw other refl

-- the two kinds of parts, distinguished by an `x`
no_pairs_with_x : (part : List ℕ) → has_x part ≡ true → is_pairs part ≡ false
no_pairs_with_x [] h = refl
no_pairs_with_x (a ∷ []) h = absurd (false≢true h)
no_pairs_with_x (a ∷ b ∷ []) h = absurd (false≢true h)
no_pairs_with_x (a ∷ b ∷ x ∷ digits) h = false_from_ne_true (is_pairs (a ∷ b ∷ x ∷ digits)) (λ pairs.
    let all = (and_parts (nat_lt 0 (length (a ∷ b ∷ x ∷ digits)) && (length (a ∷ b ∷ x ∷ digits) % 2 == 0)) (list_all is_hex_digit (a ∷ b ∷ x ∷ digits)) pairs).1 in
    let later = (and_parts (is_hex_digit a) (list_all is_hex_digit (b ∷ x ∷ digits)) all).1 in
    let latest = (and_parts (is_hex_digit b) (list_all is_hex_digit (x ∷ digits)) later).1 in
    let hex = (and_parts (is_hex_digit x) (list_all is_hex_digit digits) latest).0 in
    false≢true (ap is_hex_digit (sym (eqb-true x 120 h)) ∙ hex))

no_x_no_run : (part : List ℕ) → has_x part ≡ false → repeated_of part ≡ None
unfolding repeated_of
no_x_no_run [] h = refl
no_x_no_run (a ∷ []) h = refl
no_x_no_run (a ∷ b ∷ []) h = refl
no_x_no_run (a ∷ b ∷ x ∷ digits) h = by_count (number_of digits)
  where
    by_count : (o : Option ℕ) → (o >>= (λ count. provided (is_hex_digit a && is_hex_digit b && (x == 120) && nat_lt 0 count) (Repeated (record { byte = byte_of a b; count = count })))) ≡ None
    by_count None = refl
    by_count (Some count) = rw (h, and-false (is_hex_digit a && is_hex_digit b)) refl

pub part_of_with_x : (part : List ℕ) → has_x part ≡ true → part_of part ≡ repeated_of part
part_of_with_x part h = part_of_other part (no_pairs_with_x part h)

pub part_of_without_x : (part : List ℕ) → has_x part ≡ false → part_of part ≡ pairs_of part
unfolding part_of
part_of_without_x part h = either (is_pairs part)
  where
    either : (v : Bool) → cond v (Some (Plain (bytes_of_digits part))) (repeated_of part) ≡ provided v (Plain (bytes_of_digits part))
    either true = refl
    either false = no_x_no_run part h

pub no_pair_given : (high low : ℕ) → None ≡ provided (is_hex_digit high && is_hex_digit low) (byte_of high low) → is_hex_digit high && is_hex_digit low ≡ false
no_pair_given high low refused = by_digits (is_hex_digit high && is_hex_digit low) refused
  where
    by_digits : (v : Bool) → None ≡ provided v (byte_of high low) → v ≡ false
    by_digits true e = cc
    by_digits false e = refl

-- pairs, from their first digits on
abbrev pub all_paired : List ℕ → Bool
all_paired [] = true
all_paired (_ ∷ []) = false
all_paired (high ∷ low ∷ digits) = is_hex_digit high && is_hex_digit low && all_paired digits

last_and : (a x y b : Bool) → a && (x && (y && b)) ≡ x && y && (a && b)
last_and true true y b = refl
last_and true false y b = refl
last_and false x y b = sym (and-false (x && y))

pub is_pairs-all_paired : (text : List ℕ) → is_pairs text ≡ nat_lt 0 (length text) && all_paired text
is_pairs-all_paired text = by_length (nat_lt 0 (length text))
  where
    by_rest : (text : List ℕ) → (length text % 2 == 0) && list_all is_hex_digit text ≡ all_paired text
    by_rest [] = refl
    by_rest (x ∷ []) = refl
    by_rest (x ∷ y ∷ digits) =
        let parity : length (x ∷ y ∷ digits) % 2 ≡ length digits % 2 = omega arith in
        ap (λ (n : ℕ). (n == 0) && list_all is_hex_digit (x ∷ y ∷ digits)) parity
        ∙ last_and (length digits % 2 == 0) (is_hex_digit x) (is_hex_digit y) (list_all is_hex_digit digits)
        ∙ ap (λ (v : Bool). is_hex_digit x && is_hex_digit y && v) (by_rest digits)

    by_length : (some : Bool) → some && (length text % 2 == 0) && list_all is_hex_digit text ≡ some && all_paired text
    by_length true = by_rest text
    by_length false = refl

no_pairs : (digits rest : List ℕ) → all_paired digits ≡ all_paired rest → all_paired rest ≡ false → pairs_of digits ≡ None
no_pairs digits rest same off =
    ap (λ (v : Bool). provided v (Plain (bytes_of_digits digits))) (is_pairs-all_paired digits ∙ ap (λ (v : Bool). nat_lt 0 (length digits) && v) (same ∙ off) ∙ and-false (nat_lt 0 (length digits)))

-- a pair of which one is no digit
not_paired : (text : List ℕ) → 2 ≤ length text → is_hex_digit (get_or text 0 0) && is_hex_digit (get_or text 1 0) ≡ false → all_paired text ≡ false
not_paired [] long off = absurd (omega arith)
not_paired (high ∷ []) long off = absurd (omega arith)
not_paired (high ∷ low ∷ digits) long off = rw off refl

pub pairs_off : (digits rest : List ℕ) → all_paired digits ≡ all_paired rest → 2 ≤ length rest → is_hex_digit (get_or rest 0 0) && is_hex_digit (get_or rest 1 0) ≡ false → pairs_of digits ≡ None
pairs_off digits rest same long off = no_pairs digits rest same (not_paired rest long off)

-- no pair is left
pub pairs_end : (before after digits rest : List ℕ) → 0 < length digits → length rest < 2 → before ++ bytes_of_digits digits ≡ after ++ bytes_of_digits rest → all_paired digits ≡ all_paired rest
    → Appends (length rest == 0) before (pairs_of digits) after
pairs_end before after digits [] some short whole paired =
    let pairs : is_pairs digits ≡ true = is_pairs-all_paired digits ∙ rw (paired, lt-ltb 0 (length digits) some) refl in
    rw pairs (ap (λ (bytes : List ℕ). Some bytes) (whole ∙ append-nil after))
pairs_end before after digits (x ∷ []) some short whole paired = subst (λ (o : Option DataPart). IfSome o (λ p. MAX_DATA < length before + part_length p)) (sym (no_pairs digits (x ∷ []) paired refl)) tt
pairs_end before after digits (x ∷ y ∷ rest) some short whole paired = absurd (omega arith)

-- bytes

length-part_bytes : (part : DataPart) → length (part_bytes part) ≡ part_length part
length-part_bytes (Plain bytes) = refl
length-part_bytes (Repeated run) = length-replicate run.count run.byte

length-flat_map_bytes : (parts : List DataPart) → length (flat_map part_bytes parts) ≡ sum_by part_length parts
length-flat_map_bytes [] = refl
length-flat_map_bytes (part ∷ parts) =
    length-append (part_bytes part) (flat_map part_bytes parts)
    ∙ ap (λ (n : ℕ). n + length (flat_map part_bytes parts)) (length-part_bytes part)
    ∙ ap (λ (n : ℕ). part_length part + n) (length-flat_map_bytes parts)
    ∙ sym (sum_by-cons part_length part parts)

pub bytes_of_parts-after : (texts : List (List ℕ)) → bytes_of_parts texts ≡ bytes_after [] texts
unfolding bytes_of_parts bytes_after
bytes_of_parts-after texts = by_parts (all_parts_of texts)
  where
    by_limit : (v : Bool) (n : ℕ) (bytes : List ℕ) → (cond v (Some n) None >>= (λ _. Some bytes)) ≡ provided v bytes
    by_limit true n bytes = refl
    by_limit false n bytes = refl

    by_parts : (o : Option (List DataPart)) → (o >>= (λ parts. at_most MAX_DATA (sum_by part_length parts) >>= (λ _. Some (flat_map part_bytes parts)))) ≡ (o >>= (λ parts. limited_bytes ([] ++ flat_map part_bytes parts)))
    by_parts None = refl
    by_parts (Some parts) = rw (length-flat_map_bytes parts) (by_limit (nat_le (sum_by part_length parts) MAX_DATA) (sum_by part_length parts) (flat_map part_bytes parts))

pub bytes_after-none : (bytes : List ℕ) → bytes_after bytes [] ≡ limited_bytes bytes
unfolding bytes_after
bytes_after-none bytes = rw (append-nil bytes) refl

-- one part more
pub bytes_after-more : (before after text : List ℕ) (texts : List (List ℕ)) → Appends true before (part_of text) after → bytes_after before (text ∷ texts) ≡ bytes_after after texts
unfolding bytes_after
bytes_after-more before after text texts e = by_part (part_of text) (all_parts_of texts) e
  where
    by_part : (o : Option DataPart) (all : Option (List DataPart)) → option_map (λ p. before ++ part_bytes p) o ≡ Some after
        → ((o >>= (λ part. all >>= (λ parts. Some (part ∷ parts)))) >>= (λ parts. limited_bytes (before ++ flat_map part_bytes parts))) ≡ (all >>= (λ parts. limited_bytes (after ++ flat_map part_bytes parts)))
    by_part None all e = cc
    by_part (Some part) None e = refl
    by_part (Some part) (Some parts) e =
        let here : before ++ part_bytes part ≡ after = cc in
        ap (λ (bytes : List ℕ). limited_bytes bytes) (sym (append_assoc before (part_bytes part) (flat_map part_bytes parts)) ∙ ap (λ (f : List ℕ). f ++ flat_map part_bytes parts) here)

pub bytes_after-off : (before after text : List ℕ) (texts : List (List ℕ)) → Appends false before (part_of text) after → bytes_after before (text ∷ texts) ≡ None
unfolding bytes_after
bytes_after-off before after text texts large = by_part (part_of text) (all_parts_of texts) large
  where
    by_part : (o : Option DataPart) (all : Option (List DataPart)) → IfSome o (λ p. MAX_DATA < length before + part_length p)
        → ((o >>= (λ part. all >>= (λ parts. Some (part ∷ parts)))) >>= (λ parts. limited_bytes (before ++ flat_map part_bytes parts))) ≡ None
    by_part None all large = refl
    by_part (Some part) None large = refl
    by_part (Some part) (Some parts) large =
        let size = length-append before (flat_map part_bytes (part ∷ parts)) in
        let more = length-flat_map_bytes (part ∷ parts) in
        let first = sum_by-cons part_length part parts in
        rw (lt-leb (length (before ++ flat_map part_bytes (part ∷ parts))) MAX_DATA (omega arith)) refl

-- the whole

-- whether parts have not too many bytes, by their length
pub are_parts_by_length : (texts : List (List ℕ)) → is_some (length_with 0 texts) ≡ is_some (bytes_of_parts texts)
unfolding length_with bytes_of_parts
are_parts_by_length texts = by_parts (all_parts_of texts)
  where
    by_limit : (v : Bool) (n : ℕ) (bytes : List ℕ) → is_some (cond v (Some n) None) ≡ is_some (cond v (Some n) None >>= (λ _. Some bytes))
    by_limit true n bytes = refl
    by_limit false n bytes = refl

    by_parts : (o : Option (List DataPart)) → is_some (o >>= (λ parts. at_most MAX_DATA (0 + sum_by part_length parts)))
        ≡ is_some (o >>= (λ parts. at_most MAX_DATA (sum_by part_length parts) >>= (λ _. Some (flat_map part_bytes parts))))
    by_parts None = refl
    by_parts (Some parts) =
        let sum : 0 + sum_by part_length parts ≡ sum_by part_length parts = omega arith in
        rw sum (by_limit (nat_le (sum_by part_length parts) MAX_DATA) (sum_by part_length parts) (flat_map part_bytes parts))

pub no_parts : (texts : List (List ℕ)) → length_with 0 texts ≡ None → false ≡ is_some (bytes_of_parts texts)
no_parts texts none = sym (sym (are_parts_by_length texts) ∙ ap is_some none)

pub all_parts : (texts : List (List ℕ)) (n : ℕ) → length_with 0 texts ≡ Some n → true ≡ is_some (bytes_of_parts texts)
all_parts texts n some = sym (sym (are_parts_by_length texts) ∙ ap is_some some)

-- a short part more
onto : (before bytes : List ℕ) (part : Option DataPart) → option_map part_bytes part ≡ Some bytes → Appends true before part (before ++ bytes)
onto before bytes None e = cc
onto before bytes (Some part) e = let same : part_bytes part ≡ bytes = cc in ap (λ (bytes : List ℕ). Some (before ++ bytes)) same

pub leaves_first : (before text bytes rest after new spelled : List ℕ) → Leaves before text bytes rest → IsFirstPart rest spelled after → new ≡ bytes ++ spelled → Leaves before text new after
leaves_first before text bytes rest after new spelled left first joined = record {
  whole = left.whole ∙ ap (bytes_after bytes) first.parts
      ∙ bytes_after-more bytes (bytes ++ spelled) first.part (parted 43 after) (onto bytes spelled (part_of first.part) first.bytes)
      ∙ ap (λ (bytes : List ℕ). bytes_after bytes (parted 43 after)) (sym joined);
  no_more = omega (arith, left.no_more, ap length first.parts);
}

-- no digit is a `+`, so that pairs of digits are one part
pub plain_whole : (digits : List ℕ) → is_pairs digits ≡ true → bytes_of_parts (parted 43 digits) ≡ limited_bytes (bytes_of_digits digits)
plain_whole digits pairs =
    ap bytes_of_parts (parted_none 43 digits nowhere)
    ∙ bytes_of_parts-after (digits ∷ [])
    ∙ bytes_after-more [] (bytes_of_digits digits) digits [] (ap (option_map (λ p. [] ++ part_bytes p)) (part_of_pairs digits pairs))
    ∙ bytes_after-none (bytes_of_digits digits)
  where
    all : list_all is_hex_digit digits ≡ true
    all = (and_parts (nat_lt 0 (length digits) && (length digits % 2 == 0)) (list_all is_hex_digit digits) pairs).1

    nowhere : (k : ℕ) → 0 ≤ k → k < length digits → (get_or digits k 0 == 43) ≡ true → ⊥
    nowhere k low high is =
        false≢true (sym (list_all_at is_hex_digit digits k 0 high (ap is_hex_digit (eqb-true (get_or digits k 0) 43 is))) ∙ all)
