-- What is printed is read again.
use Rattle.std.proofs.Common.{◌≡◌, ℕ, zero, suc, ◌+◌, ◌/◌, ◌%◌, ◌<◌, ◌&&◌, ◌==◌, Bool, true, false, List, [], ◌∷◌, ◌++◌, length, get_or, map, Option, Some, None, option_map, codes, refl, sym, ap, ◌∙◌, arith}
use Rattle.std.specs.Prelude.{All}
use Rattle.std.specs.List.{list_all, flat_map, onto_first}
use Rattle.std.proofs.lemmas.Bool.{eqb-true, lt-ltb, false≢true, false_from_ne_true, and_parts}
use Rattle.std.proofs.lemmas.Bool.Decides.{nat_tests}
use Rattle.std.proofs.lemmas.List.{append_assoc, append-nil}
use Rattle.std.proofs.lemmas.List.Splits.{slice_split-cons_no, slice_split-cons_yes, length-slice_split}
use Rattle.jv_model.specs.promise.blocks.BlockNames.{upper_digit}
use Rattle.jv_model.specs.promise.script.Spelling.{is_hex_digit, hex_value, byte_of}
use Rattle.jv_model.specs.promise.script.ReplyText.{is_kept_in_name, is_kept_in_path, escaped_byte, name_text, path_text}
use Rattle.jv_model.specs.promise.script.Grammar.{is_plain, is_escape, escape_bytes, bytes_of_escapes, unescaped, path_of, target_of}
use Rattle.jv_model.specs.promise.Lists.{parted}
use Rattle.jv_model.specs.promise.tree.Walk.{is_absolute}
use Rattle.jv_model.specs.promise.Optional.{provided}
use Rattle.jv_script.specs.RoundTrips.{IsNameByte, PathsAreReadAgain, TargetsAreReadAgain, NamesAreReadAgain}

-- the numbers from one on
unfoldable pub counted_from : ℕ → ℕ → List ℕ
counted_from start zero = []
counted_from start (suc n) = start ∷ counted_from (suc start) n

pub counted_at : (start n k : ℕ) → k < n → get_or (counted_from start n) k 0 ≡ start + k
unfolding counted_from
counted_at start zero k below = absurd (omega arith)
counted_at start (suc n) zero below = omega arith
counted_at start (suc n) (suc k) below = counted_at (suc start) n k (omega arith) ∙ omega arith

-- hexadecimal digits stand for their places
pub map_at : (f : ℕ → ℕ) (xs : List ℕ) (k : ℕ) → k < length xs → get_or (map f xs) k 0 ≡ f (get_or xs k 0)
map_at f [] k below = absurd (omega arith)
map_at f (x ∷ xs) zero below = refl
map_at f (x ∷ xs) (suc k) below = map_at f xs k (omega arith)

pub all_at : (p : ℕ → Bool) (xs : List ℕ) (k : ℕ) → list_all p xs ≡ true → k < length xs → p (get_or xs k 0) ≡ true
all_at p [] k all below = absurd (omega arith)
all_at p (x ∷ xs) zero all below = (and_parts (p x) (list_all p xs) all).0
all_at p (x ∷ xs) (suc k) all below = all_at p xs k (and_parts (p x) (list_all p xs) all).1 (omega arith)

pub upper_is_hex : (n : ℕ) → n < 16 → is_hex_digit (upper_digit n) ≡ true
upper_is_hex n small = all_at is_hex_digit (codes "0123456789ABCDEF") n refl small

pub upper_value : (n : ℕ) → n < 16 → hex_value (upper_digit n) ≡ n
unfolding counted_from
upper_value n small =
    let values : map hex_value (codes "0123456789ABCDEF") ≡ counted_from 0 16 = refl in
    sym (map_at hex_value (codes "0123456789ABCDEF") n small) ∙ ap (λ (xs : List ℕ). get_or xs n 0) values ∙ counted_at 0 16 n small ∙ omega arith

-- one byte more before the others
onto_value : (c : ℕ) (v : Bool) (bytes : List ℕ) → provided v (c ∷ bytes) ≡ option_map (λ bytes. c ∷ bytes) (provided v bytes)
onto_value c true bytes = refl
onto_value c false bytes = refl

some_part : (text : List ℕ) → 0 < length (parted 37 text)
some_part text = omega (arith, length-slice_split (λ c. c == 37) text)

-- a byte that is written as itself
plain_in_front : (c : ℕ) (text : List ℕ) → is_plain c ≡ true → (c == 37) ≡ false → unescaped (c ∷ text) ≡ option_map (λ bytes. c ∷ bytes) (unescaped text)
unfolding unescaped
plain_in_front c text plain other = ap bytes_of_escapes (slice_split-cons_no (λ c. c == 37) c text other) ∙ by_parts (parted 37 text) (some_part text)
  where
    by_parts : (parts : List (List ℕ)) → 0 < length parts → bytes_of_escapes (onto_first c parts) ≡ option_map (λ bytes. c ∷ bytes) (bytes_of_escapes parts)
    by_parts [] some = absurd (omega arith)
    by_parts (first ∷ escapes) some =
        rw plain (onto_value c (list_all is_plain first && list_all is_escape escapes) (first ++ flat_map escape_bytes escapes))

hex_is_no_percent : (c : ℕ) → is_hex_digit c ≡ true → (c == 37) ≡ false
hex_is_no_percent c hex = false_from_ne_true (c == 37) (λ percent. false≢true (ap is_hex_digit (sym (eqb-true c 37 percent)) ∙ hex))

-- a byte that is written as `%` and two digits
escape_in_front : (high low : ℕ) (text : List ℕ) → is_hex_digit high ≡ true → is_hex_digit low ≡ true → 0 < byte_of high low
    → unescaped (37 ∷ high ∷ low ∷ text) ≡ option_map (λ bytes. byte_of high low ∷ bytes) (unescaped text)
unfolding unescaped
escape_in_front high low text is_high is_low some =
    ap bytes_of_escapes (slice_split-cons_yes (λ c. c == 37) 37 (high ∷ low ∷ text) refl ∙ ap (λ (parts : List (List ℕ)). [] ∷ parts) (slice_split-cons_no (λ c. c == 37) high (low ∷ text) (hex_is_no_percent high is_high) ∙ ap (onto_first high) (slice_split-cons_no (λ c. c == 37) low text (hex_is_no_percent low is_low))))
    ∙ by_parts (parted 37 text) (some_part text)
  where
    by_parts : (parts : List (List ℕ)) → 0 < length parts → bytes_of_escapes ([] ∷ onto_first high (onto_first low parts)) ≡ option_map (λ bytes. byte_of high low ∷ bytes) (bytes_of_escapes parts)
    by_parts [] none = absurd (omega arith)
    by_parts (first ∷ escapes) more =
        rw (is_high, is_low, lt-ltb 0 (byte_of high low) some) (onto_value (byte_of high low) (list_all is_plain first && list_all is_escape escapes) (first ++ flat_map escape_bytes escapes))

-- a byte as it is printed, kept or not
escaped_in_front : (kept : Bool) (c : ℕ) (text : List ℕ) → IsNameByte c → (kept ≡ true → (is_plain c ≡ true) × ((c == 37) ≡ false)) → unescaped (escaped_byte kept c ++ text) ≡ option_map (λ bytes. c ∷ bytes) (unescaped text)
escaped_in_front true c text byte plain = let (is, other) = plain refl in plain_in_front c text is other
escaped_in_front false c text (some, small) plain =
    let high : c / 16 < 16 = omega arith in
    let low : c % 16 < 16 = omega arith in
    let value : byte_of (upper_digit (c / 16)) (upper_digit (c % 16)) ≡ c = rw (upper_value (c / 16) high, upper_value (c % 16) low) (omega arith) in
    escape_in_front (upper_digit (c / 16)) (upper_digit (c % 16)) text (upper_is_hex (c / 16) high) (upper_is_hex (c % 16) low) (omega (arith, value))
    ∙ ap (λ (c : ℕ). option_map (λ bytes. c ∷ bytes) (unescaped text)) value

abbrev pub with_front : List ℕ → Option (List ℕ) → Option (List ℕ)
with_front front spelled = option_map (λ bytes. front ++ bytes) spelled

front_more : (c : ℕ) (front : List ℕ) (spelled : Option (List ℕ)) → option_map (λ bytes. c ∷ bytes) (with_front front spelled) ≡ with_front (c ∷ front) spelled
front_more c front None = refl
front_more c front (Some bytes) = refl

-- what is kept is written as itself
abbrev IsKept : (ℕ → Bool) → Type 0
IsKept kept = (c : ℕ) → kept c ≡ true → (is_plain c ≡ true) × ((c == 37) ≡ false)

escaped_spelled : (kept : ℕ → Bool) (front text : List ℕ) → IsKept kept → All IsNameByte front → unescaped (flat_map (λ c. escaped_byte (kept c) c) front ++ text) ≡ with_front front (unescaped text)
escaped_spelled kept [] text is_kept bytes = none (unescaped text)
  where
    none : (spelled : Option (List ℕ)) → spelled ≡ with_front [] spelled
    none None = refl
    none (Some bytes) = refl
escaped_spelled kept (c ∷ front) text is_kept bytes =
    let others = flat_map (λ c. escaped_byte (kept c) c) front in
    ap unescaped (append_assoc (escaped_byte (kept c) c) others text)
    ∙ escaped_in_front (kept c) c (others ++ text) (bytes 0 0 (omega arith)) (is_kept c)
    ∙ ap (option_map (λ bytes. c ∷ bytes)) (escaped_spelled kept front text is_kept (λ k d below. bytes (suc k) d (omega arith)))
    ∙ front_more c front (unescaped text)

name_kept : IsKept is_kept_in_name
name_kept c kept = (grind (arith, nat_tests), grind (arith, nat_tests))

path_kept : IsKept is_kept_in_path
path_kept c kept = (grind (arith, nat_tests), grind (arith, nat_tests))

unescaped-none : unescaped [] ≡ Some []
unfolding unescaped
unescaped-none = refl

path_spelled : (path : List ℕ) → All IsNameByte path → unescaped (path_text path) ≡ Some path
unfolding path_text
path_spelled path bytes =
    let text = flat_map (λ c. escaped_byte (is_kept_in_path c) c) path in
    ap unescaped (sym (append-nil text)) ∙ escaped_spelled is_kept_in_path path [] path_kept bytes ∙ ap (with_front path) unescaped-none ∙ ap (λ (path : List ℕ). Some path) (append-nil path)

name_spelled : (name : List ℕ) → All IsNameByte name → unescaped (name_text name) ≡ Some name
unfolding name_text
name_spelled name bytes =
    let text = flat_map (λ c. escaped_byte (is_kept_in_name c) c) name in
    ap unescaped (sym (append-nil text)) ∙ escaped_spelled is_kept_in_name name [] name_kept bytes ∙ ap (with_front name) unescaped-none ∙ ap (λ (name : List ℕ). Some name) (append-nil name)

entry_spelled : (directory name : List ℕ) → All IsNameByte directory → All IsNameByte name → unescaped (path_text directory ++ 47 ∷ name_text name) ≡ Some (directory ++ 47 ∷ name)
unfolding path_text
entry_spelled directory name bytes name_bytes =
    escaped_spelled is_kept_in_path directory (47 ∷ name_text name) path_kept bytes
    ∙ ap (with_front directory) (plain_in_front 47 (name_text name) refl refl ∙ ap (option_map (λ bytes. 47 ∷ bytes)) (name_spelled name name_bytes))

path_from_spelled : (text path : List ℕ) → unescaped text ≡ Some path → is_absolute path ≡ true → path_of text ≡ Some path
unfolding path_of
path_from_spelled text path spelled slash = rw spelled (rw slash refl)

pub paths_read_again : PathsAreReadAgain
paths_read_again path bytes slash = path_from_spelled (path_text path) path (path_spelled path bytes) slash

pub targets_read_again : TargetsAreReadAgain
unfolding target_of
targets_read_again target bytes some = rw (path_spelled target bytes) (rw (lt-ltb 0 (length target) some) refl)

pub names_read_again : NamesAreReadAgain
names_read_again directory name bytes name_bytes slash =
    path_from_spelled (path_text directory ++ 47 ∷ name_text name) (directory ++ 47 ∷ name) (entry_spelled directory name bytes name_bytes) slash
