-- Repeats of bytes, and the parts that they are printed as.
use Rattle.std.proofs.Common.{◌≡◌, ◌≢◌, ℕ, zero, suc, ◌+◌, ◌-◌, add-zero, ◌<◌, ◌≤◌, ◌&&◌, ◌==◌, inl, inr, Bool, true, false, cond, eqb, List, [], ◌∷◌, ◌++◌, length, get_or, take, drop, replicate, map, refl, sym, ap, ◌∙◌, arith}
use Rattle.std.specs.List.{flat_map, join_with_byte}
use Rattle.std.proofs.lemmas.Bool.{eq-eqb, eqb-true, ne_eqb, le-leb, lt-leb, cases_lt, false≢true}
use Rattle.std.proofs.lemmas.List.{append-nil, append_assoc, take-append-drop, length-take, length-take-le, length-drop, length-replicate, get_or-take, get_or-drop, get_or-replicate, drop-drop}
use Rattle.std.proofs.lemmas.Grind.{same_number_lists}
use Rattle.jv_model.specs.promise.script.Printed.{ByteRepeat, with_byte, repeats_of, DataPart, Plain, Repeated, with_short, parts_of, part_text, data_text}
use Rattle.jv_script.specs.Printing.{IsFirstRepeat, IsFrontCount, begins_long, HasNoLongBefore}

-- one more byte in front makes a repeat of that byte the first
pub with_byte-first : (byte : ℕ) (runs : List ByteRepeat) → (count : ℕ) × (more : List ByteRepeat) × (1 ≤ count) × (with_byte byte runs ≡ record { byte = byte; count = count } ∷ more)
with_byte-first byte [] = (1, [], omega arith, refl)
with_byte-first byte (run ∷ runs) = either (eqb byte run.byte)
  where
    either : (v : Bool) → (count : ℕ) × (more : List ByteRepeat) × (1 ≤ count) × (cond v (record { byte = byte; count = run.count + 1 } ∷ runs) (record { byte = byte; count = 1 } ∷ run ∷ runs) ≡ record { byte = byte; count = count } ∷ more)
    either true = (run.count + 1, runs, omega arith, refl)
    either false = (1, run ∷ runs, omega arith, refl)

-- a byte before another one is a repeat of its own
repeats_of_next : (b : ℕ) (ys : List ℕ) → (0 < length ys → get_or ys 0 0 ≢ b) → repeats_of (b ∷ ys) ≡ record { byte = b; count = 1 } ∷ repeats_of ys
repeats_of_next b [] other = refl
repeats_of_next b (y ∷ ys) other =
    let first = with_byte-first y (repeats_of ys) in
    let apart : with_byte b (record { byte = y; count = first.0 } ∷ first.1) ≡ record { byte = b; count = 1 } ∷ record { byte = y; count = first.0 } ∷ first.1 =
    rw (ne_eqb b y (λ e. other (omega arith) (sym e))) refl in
    ap (with_byte b) first.3 ∙ apart ∙ ap (λ (rs : List ByteRepeat). record { byte = b; count = 1 } ∷ rs) (sym first.3)

-- equal bytes before another one are one repeat
repeats_of_same : (b n : ℕ) (ys : List ℕ) → (0 < length ys → get_or ys 0 0 ≢ b) → repeats_of (replicate (suc n) b ++ ys) ≡ record { byte = b; count = suc n } ∷ repeats_of ys
repeats_of_same b zero ys other = repeats_of_next b ys other
repeats_of_same b (suc n) ys other =
    let one_more : with_byte b (record { byte = b; count = suc n } ∷ repeats_of ys) ≡ record { byte = b; count = suc n + 1 } ∷ repeats_of ys = rw (eq-eqb b b refl) refl in
    let counted : suc n + 1 ≡ suc (suc n) = omega arith in
    ap (with_byte b) (repeats_of_same b n ys other) ∙ one_more ∙ ap (λ (count : ℕ). record { byte = b; count = count } ∷ repeats_of ys) counted

-- the same for the first of a list
repeats_of_front : (b n : ℕ) (bytes : List ℕ) → 0 < n → take n bytes ≡ replicate n b → (n < length bytes → get_or bytes n 0 ≢ b) → repeats_of bytes ≡ record { byte = b; count = n } ∷ repeats_of (drop n bytes)
repeats_of_front b zero bytes some same other = absurd (omega arith)
repeats_of_front b (suc n) bytes some same other =
    let cut : bytes ≡ replicate (suc n) b ++ drop (suc n) bytes = sym (take-append-drop (suc n) bytes) ∙ ap (λ front. front ++ drop (suc n) bytes) same in
    let place : suc n + 0 ≡ suc n = omega arith in
    let moved : get_or (drop (suc n) bytes) 0 0 ≡ get_or bytes (suc n) 0 = get_or-drop (suc n) bytes 0 0 ∙ ap (λ (i : ℕ). get_or bytes i 0) place in
    ap repeats_of cut ∙ repeats_of_same b n (drop (suc n) bytes) (λ left e. other (omega (arith, length-drop (suc n) bytes)) (sym moved ∙ e))

-- equal bytes from the first on, and another byte after them
pub first_repeat : (bytes : List ℕ) (n : ℕ) → 0 < length bytes → n ≤ length bytes → ((k : ℕ) → k < n → get_or bytes k 0 ≡ get_or bytes 0 0) → (n < length bytes → get_or bytes n 0 ≢ get_or bytes 0 0) → IsFirstRepeat bytes n
first_repeat bytes zero nonempty within each other = absurd (other nonempty refl)
first_repeat bytes (suc n) nonempty within each other =
    let b = get_or bytes 0 0 in
    let lengths : length (take (suc n) bytes) ≡ length (replicate (suc n) b) = omega (arith, length-take (suc n) bytes, length-replicate (suc n) b) in
    let same : take (suc n) bytes ≡ replicate (suc n) b =
    same_number_lists (take (suc n) bytes) (replicate (suc n) b) lengths (λ k below.
    let in_run : k < suc n = omega (arith, length-take (suc n) bytes) in
    get_or-take (suc n) bytes k 0 in_run ∙ each k in_run ∙ sym (get_or-replicate (suc n) k b 0 in_run)) in
    record { some = omega arith; within = within; same = same; repeats = repeats_of_front b (suc n) bytes (omega arith) same other }

-- a long repeat is the first part
pub long_part : (bytes : List ℕ) (n : ℕ) → IsFirstRepeat bytes n → 4 ≤ n → parts_of (repeats_of bytes) ≡ Repeated (record { byte = get_or bytes 0 0; count = n }) ∷ parts_of (repeats_of (drop n bytes))
long_part bytes n first long = ap parts_of first.repeats ∙ rw (le-leb 4 n long) refl

with_byte-same : (a n : ℕ) (more : List ByteRepeat) → with_byte a (record { byte = a; count = n } ∷ more) ≡ record { byte = a; count = n + 1 } ∷ more
with_byte-same a n more = rw (eq-eqb a a refl) refl

abbrev first_count : List ByteRepeat → ℕ
first_count [] = 0
first_count (run ∷ _) = run.count

abbrev first_byte : List ByteRepeat → ℕ
first_byte [] = 0
first_byte (run ∷ _) = run.byte

-- four equal bytes begin a repeat of four or more
four_counted : (a : ℕ) (ys : List ℕ) → 4 ≤ first_count (repeats_of (a ∷ a ∷ a ∷ a ∷ ys))
four_counted a ys =
    let (n, more, some, first) = with_byte-first a (repeats_of ys) in
    let second = ap (with_byte a) first ∙ with_byte-same a n more in
    let third = ap (with_byte a) second ∙ with_byte-same a (n + 1) more in
    let fourth : repeats_of (a ∷ a ∷ a ∷ a ∷ ys) ≡ record { byte = a; count = n + 1 + 1 + 1 } ∷ more = ap (with_byte a) third ∙ with_byte-same a (n + 1 + 1) more in
    omega (arith, ap first_count fourth)

-- bytes that are equal by the test
all_equal : (a b c d : ℕ) → a == b && (b == c && c == d) ≡ true → (b ≡ a) × (c ≡ a) × (d ≡ a)
all_equal a b c d same = by_tests (a == b) (b == c) (c == d) refl refl refl same
  where
    by_tests : (u v w : Bool) → a == b ≡ u → b == c ≡ v → c == d ≡ w → u && (v && w) ≡ true → (b ≡ a) × (c ≡ a) × (d ≡ a)
    by_tests true true true first second third same =
        let b_a = sym (eqb-true a b first) in
        let c_a = sym (eqb-true b c second) ∙ b_a in
        (b_a, c_a, sym (eqb-true c d third) ∙ c_a)
    by_tests true true false first second third same = absurd (false≢true same)
    by_tests true false w first second third same = absurd (false≢true same)
    by_tests false v w first second third same = absurd (false≢true same)

long_counted : (bytes : List ℕ) → begins_long bytes ≡ true → 4 ≤ first_count (repeats_of bytes)
long_counted [] long = absurd (false≢true long)
long_counted (a ∷ []) long = absurd (false≢true long)
long_counted (a ∷ b ∷ []) long = absurd (false≢true long)
long_counted (a ∷ b ∷ c ∷ []) long = absurd (false≢true long)
long_counted (a ∷ b ∷ c ∷ d ∷ ys) long = let (second, third, fourth) = all_equal a b c d long in rw (second, third, fourth) (four_counted a ys)

-- the first repeat is long where the first four bytes are equal
pub long_first : (bytes : List ℕ) (n : ℕ) → begins_long bytes ≡ true → IsFirstRepeat bytes n → 4 ≤ n
long_first bytes n long first = omega (arith, long_counted bytes long, ap first_count first.repeats)

-- the bytes of the first repeat are equal
run_equal : (bytes : List ℕ) (byte n : ℕ) (more : List ByteRepeat) → repeats_of bytes ≡ record { byte = byte; count = n } ∷ more → (k : ℕ) → k < n → (k < length bytes) × (get_or bytes k 0 ≡ byte)
run_equal [] byte n more e k below = absurd (omega (arith, ap (λ (runs : List ByteRepeat). length runs) e))
run_equal (x ∷ xs) byte n more e k below = by_runs (λ run runs whole k below. run_equal xs run.byte run.count runs whole k below) (repeats_of xs) refl e
  where
    alone : (rest : List ByteRepeat) → record { byte = x; count = 1 } ∷ rest ≡ record { byte = byte; count = n } ∷ more → (k < length (x ∷ xs)) × (get_or (x ∷ xs) k 0 ≡ byte)
    alone rest e =
        let zero_th : k ≡ 0 = omega (arith, ap first_count e) in
        (omega arith, ap (λ (k : ℕ). get_or (x ∷ xs) k 0) zero_th ∙ ap first_byte e)

    joined : (run : ByteRepeat) (runs : List ByteRepeat) → ((k : ℕ) → k < run.count → (k < length xs) × (get_or xs k 0 ≡ run.byte)) → x ≡ run.byte → record { byte = x; count = run.count + 1 } ∷ runs ≡ record { byte = byte; count = n } ∷ more → (k : ℕ) → k < n
        → (k < length (x ∷ xs)) × (get_or (x ∷ xs) k 0 ≡ byte)
    joined run runs each same e zero below = (omega arith, ap first_byte e)
    joined run runs each same e (suc k) below =
        let (within, is) = each k (omega (arith, ap first_count e)) in
        (omega arith, is ∙ sym same ∙ ap first_byte e)

    by_test : (v : Bool) (run : ByteRepeat) (runs : List ByteRepeat) → ((k : ℕ) → k < run.count → (k < length xs) × (get_or xs k 0 ≡ run.byte)) → x == run.byte ≡ v
        → cond v (record { byte = x; count = run.count + 1 } ∷ runs) (record { byte = x; count = 1 } ∷ run ∷ runs) ≡ record { byte = byte; count = n } ∷ more → (k < length (x ∷ xs)) × (get_or (x ∷ xs) k 0 ≡ byte)
    by_test true run runs each same e = joined run runs each (eqb-true x run.byte same) e k below
    by_test false run runs each same e = alone (run ∷ runs) e

    by_runs : ((run : ByteRepeat) (runs : List ByteRepeat) → repeats_of xs ≡ run ∷ runs → (k : ℕ) → k < run.count → (k < length xs) × (get_or xs k 0 ≡ run.byte)) → (runs : List ByteRepeat) → repeats_of xs ≡ runs → with_byte x runs ≡ record { byte = byte; count = n } ∷ more
        → (k < length (x ∷ xs)) × (get_or (x ∷ xs) k 0 ≡ byte)
    by_runs again [] whole e = alone [] e
    by_runs again (run ∷ runs) whole e = by_test (x == run.byte) run runs (again run runs whole) refl e

three_equal : (b : ℕ) (ys : List ℕ) → ((k : ℕ) → k < 3 → (k < length ys) × (get_or ys k 0 ≡ b)) → begins_long (b ∷ ys) ≡ true
three_equal b [] each = absurd (omega (arith, (each 2 (omega arith)).0))
three_equal b (c ∷ []) each = absurd (omega (arith, (each 2 (omega arith)).0))
three_equal b (c ∷ d ∷ []) each = absurd (omega (arith, (each 2 (omega arith)).0))
three_equal b (c ∷ d ∷ e ∷ ys) each =
    let second : c ≡ b = (each 0 (omega arith)).1 in
    let third : d ≡ b = (each 1 (omega arith)).1 in
    let fourth : e ≡ b = (each 2 (omega arith)).1 in
    rw (second, third, fourth, eq-eqb b b refl) refl

with_short-append : (xs ys : List ℕ) (parts : List DataPart) → with_short xs (with_short ys parts) ≡ with_short (xs ++ ys) parts
with_short-append xs ys [] = refl
with_short-append xs ys (Plain more ∷ parts) = ap (λ (bytes : List ℕ). Plain bytes ∷ parts) (sym (append_assoc xs ys more))
with_short-append xs ys (Repeated run ∷ parts) = refl

-- one more byte before a repeat that stays short goes into the part after it
short_more : (b y n : ℕ) (more : List ByteRepeat) → (b ≡ y → n < 3) → parts_of (with_byte b (record { byte = y; count = n } ∷ more)) ≡ with_short (b ∷ []) (parts_of (record { byte = y; count = n } ∷ more))
short_more b y n more short = by_test (b == y) refl
  where
    by_test : (v : Bool) → b == y ≡ v → parts_of (cond v (record { byte = b; count = n + 1 } ∷ more) (record { byte = b; count = 1 } ∷ record { byte = y; count = n } ∷ more)) ≡ with_short (b ∷ []) (parts_of (record { byte = y; count = n } ∷ more))
    by_test true same =
        let b_y = eqb-true b y same in
        let counted : n + 1 ≡ suc n = omega arith in
        rw (lt-leb 4 (n + 1) (omega (arith, short b_y)), lt-leb 4 n (omega (arith, short b_y)))
        (ap (λ (count : ℕ). with_short (replicate count b) (parts_of more)) counted ∙ sym (with_short-append (b ∷ []) (replicate n y) (parts_of more) ∙ ap (λ (y : ℕ). with_short (b ∷ replicate n y) (parts_of more)) (sym b_y)))
    by_test false other = refl

-- a byte that begins no long repeat goes into the part after it
pub short_first : (b : ℕ) (ys : List ℕ) → begins_long (b ∷ ys) ≡ false → parts_of (repeats_of (b ∷ ys)) ≡ with_short (b ∷ []) (parts_of (repeats_of ys))
short_first b [] short = refl
short_first b (y ∷ ys) short =
    let (n, more, some, first) = with_byte-first y (repeats_of ys) in
    let fewer : b ≡ y → n < 3 = λ same. elim (cases_lt n 3) [
      | inl less ↦ less
      | inr ge ↦ absurd (false≢true (sym short ∙ three_equal b (y ∷ ys) (λ k below. let (within, is) = run_equal (y ∷ ys) y n more first k (omega arith) in (within, is ∙ sym same))))
    ] in
    ap (λ (runs : List ByteRepeat). parts_of (with_byte b runs)) first ∙ short_more b y n more fewer ∙ ap (λ (runs : List ByteRepeat). with_short (b ∷ []) (parts_of runs)) (sym first)

-- bytes that begin no long repeat, before one or the end, are the first part
pub plain_part : (n : ℕ) (bytes : List ℕ) → 0 < n → n ≤ length bytes → HasNoLongBefore n bytes → (n < length bytes → begins_long (drop n bytes) ≡ true)
    → parts_of (repeats_of bytes) ≡ Plain (take n bytes) ∷ parts_of (repeats_of (drop n bytes))
plain_part zero bytes some within short ends = absurd (omega arith)
plain_part (suc n) [] some within short ends = absurd (omega arith)
plain_part (suc zero) (b ∷ []) some within short ends = refl
plain_part (suc zero) (b ∷ y ∷ ys) some within short ends =
    short_first b (y ∷ ys) (short 0 (omega arith)) ∙ before_long (repeats_of (y ∷ ys)) (long_counted (y ∷ ys) (ends (omega arith)))
  where
    before_long : (runs : List ByteRepeat) → 4 ≤ first_count runs → with_short (b ∷ []) (parts_of runs) ≡ Plain (b ∷ []) ∷ parts_of runs
    before_long [] long = absurd (omega arith)
    before_long (run ∷ runs) long = rw (le-leb 4 run.count long) refl
plain_part (suc (suc n)) (b ∷ ys) some within short ends =
    let later = plain_part (suc n) ys (omega arith) (omega arith) (λ k below. short (suc k) (omega arith)) (λ more. ends (omega arith)) in
    short_first b ys (short 0 (omega arith)) ∙ ap (with_short (b ∷ [])) later

-- bytes of which some were there, by their parts
pub text_of : (bytes : List ℕ) → 0 < length bytes → data_text bytes ≡ join_with_byte 43 (map part_text (parts_of (repeats_of bytes)))
unfolding data_text
text_of [] some = absurd (omega arith)
text_of (byte ∷ bytes) some = refl

-- the parts after the first, each with the `+` before it
abbrev pub more_text : List DataPart → List ℕ
more_text parts = flat_map (λ part. 43 ∷ part_text part) parts

pub joined-cons : (part : DataPart) (parts : List DataPart) → join_with_byte 43 (map part_text (part ∷ parts)) ≡ part_text part ++ more_text parts
joined-cons part [] = sym (append-nil (part_text part))
joined-cons part (next ∷ parts) = ap (λ (text : List ℕ). part_text part ++ 43 ∷ text) (joined-cons next parts)

-- a place where a long repeat begins, if none begins at the first byte
pub not_first : (bytes : List ℕ) (n : ℕ) → begins_long bytes ≡ false → begins_long (drop n bytes) ≡ true → 0 < n
not_first bytes zero short long = absurd (false≢true (sym short ∙ long))
not_first bytes (suc n) short long = omega arith

pub begins_long_at : (bytes : List ℕ) → 4 ≤ length bytes → begins_long bytes ≡ (get_or bytes 0 0 == get_or bytes 1 0 && (get_or bytes 1 0 == get_or bytes 2 0 && get_or bytes 2 0 == get_or bytes 3 0))
begins_long_at [] long = absurd (omega arith)
begins_long_at (a ∷ []) long = absurd (omega arith)
begins_long_at (a ∷ b ∷ []) long = absurd (omega arith)
begins_long_at (a ∷ b ∷ c ∷ []) long = absurd (omega arith)
begins_long_at (a ∷ b ∷ c ∷ d ∷ ys) long = refl

-- whether a repeat begins at a place, by the four bytes from there on
pub begins_long_from : (bytes : List ℕ) (k : ℕ) → k + 3 < length bytes → begins_long (drop k bytes) ≡ (get_or bytes k 0 == get_or bytes (k + 1) 0 && (get_or bytes (k + 1) 0 == get_or bytes (k + 2) 0 && get_or bytes (k + 2) 0 == get_or bytes (k + 3) 0))
begins_long_from bytes k within =
    let first : get_or (drop k bytes) 0 0 ≡ get_or bytes k 0 = get_or-drop k bytes 0 0 ∙ rw add-zero refl in
    begins_long_at (drop k bytes) (omega (arith, length-drop k bytes)) ∙ rw (first, get_or-drop k bytes 1 0, get_or-drop k bytes 2 0, get_or-drop k bytes 3 0) refl

-- bytes that begin no repeat in a prefix that is longer by three
pub no_long_in_front : (bytes : List ℕ) (n : ℕ) → n + 3 ≤ length bytes → HasNoLongBefore n (take (n + 3) bytes) → HasNoLongBefore n bytes
no_long_in_front bytes n within none k below =
    let front = take (n + 3) bytes in
    let size = length-take-le (n + 3) bytes within in
    begins_long_from bytes k (omega arith)
    ∙ rw (sym (get_or-take (n + 3) bytes k 0 (omega arith)), sym (get_or-take (n + 3) bytes (k + 1) 0 (omega arith)), sym (get_or-take (n + 3) bytes (k + 2) 0 (omega arith)), sym (get_or-take (n + 3) bytes (k + 3) 0 (omega arith)))
    (sym (begins_long_from front k (omega (arith, size))) ∙ none k below)

-- no long repeat begins before a place, nor at the first places from there on
pub none_after : (n m : ℕ) (bytes : List ℕ) → HasNoLongBefore n bytes → HasNoLongBefore m (drop n bytes) → HasNoLongBefore (n + m) bytes
none_after n m bytes none after k below = elim (cases_lt k n) [
  | inl less ↦ none k less
  | inr ge ↦
      let place : n + (k - n) ≡ k = omega arith in
      sym (ap begins_long (drop-drop (k - n) n bytes) ∙ ap (λ (k : ℕ). begins_long (drop k bytes)) place) ∙ after (k - n) (omega arith)
]

-- the first four bytes of a long repeat
long_same : (bytes : List ℕ) → begins_long bytes ≡ true → (k : ℕ) → k < 4 → (k < length bytes) × (get_or bytes k 0 ≡ get_or bytes 0 0)
long_same [] long k below = absurd (false≢true long)
long_same (a ∷ []) long k below = absurd (false≢true long)
long_same (a ∷ b ∷ []) long k below = absurd (false≢true long)
long_same (a ∷ b ∷ c ∷ []) long k below = absurd (false≢true long)
long_same (a ∷ b ∷ c ∷ d ∷ ys) long zero below = (omega arith, refl)
long_same (a ∷ b ∷ c ∷ d ∷ ys) long (suc zero) below = (omega arith, (all_equal a b c d long).0)
long_same (a ∷ b ∷ c ∷ d ∷ ys) long (suc (suc zero)) below = (omega arith, (all_equal a b c d long).1)
long_same (a ∷ b ∷ c ∷ d ∷ ys) long (suc (suc (suc zero))) below = (omega arith, (all_equal a b c d long).2)
long_same (a ∷ b ∷ c ∷ d ∷ ys) long (suc (suc (suc (suc k)))) below = absurd (omega arith)

-- a long repeat that ends among the bytes after its first four
pub long_count : (bytes few : List ℕ) (n : ℕ) → begins_long bytes ≡ true → IsFrontCount (get_or bytes 0 0) few n → n < length few → ((k : ℕ) → k < length few → (4 + k < length bytes) × (get_or few k 0 ≡ get_or bytes (4 + k) 0)) → IsFirstRepeat bytes (4 + n)
long_count bytes few n long count ends at =
    first_repeat bytes (4 + n) (omega (arith, (long_same bytes long 0 (omega arith)).0)) (omega (arith, (at n ends).0)) each (λ more e. count.other ends ((at n ends).1 ∙ e))
  where
    each : (k : ℕ) → k < 4 + n → get_or bytes k 0 ≡ get_or bytes 0 0
    each k below = elim (cases_lt k 4) [
      | inl less ↦ (long_same bytes long k less).1
      | inr ge ↦
          let place : 4 + (k - 4) ≡ k = omega arith in
          ap (λ (k : ℕ). get_or bytes k 0) (sym place) ∙ sym (at (k - 4) (omega arith)).1 ∙ count.same (k - 4) (omega arith)
    ]
