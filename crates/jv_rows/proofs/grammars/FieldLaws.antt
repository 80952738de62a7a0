-- A field that is read is the field that was spelled, and what was spelled is read again.
use Rattle.std.proofs.Common.{◌≡◌, ℕ, suc, ◌+◌, ◌^◌, ◌<◌, ◌≤◌, Bool, true, false, cond, ltb, List, [], ◌∷◌, ◌++◌, length, take, drop, Option, Some, None, refl, sym, ap, subst, arith, inl, inr}
use Rattle.std.specs.Int.{Width, w16, w32, w64, byte_len, from_be_bytes, to_be_bytes}
use Rattle.std.proofs.lemmas.Bool.{cases_lt, ltb-false, le-ltb}
use Rattle.std.proofs.lemmas.List.{take_at, drop_at, take-append-drop, length-append, length-take, get_or-drop, get_or-take, get_or_past}
use Rattle.std.proofs.lemmas.Nat.{be_bytes_2, be_bytes_4, be_bytes_8, from_be_bytes-to_be_bytes_2, from_be_bytes-to_be_bytes_4, from_be_bytes-to_be_bytes_8}
use Rattle.jv_model.specs.Lists.{AreBytes}
use Rattle.jv_model.specs.promise.Optional.{◌>>=◌}
use Rattle.jv_model.specs.promise.rows.RowFields.{byte, byte_at, front_at, number_at}

pub AreBytes-drop : (n : ℕ) (bytes : List ℕ) → AreBytes bytes → AreBytes (drop n bytes)
AreBytes-drop n bytes h i = rw get_or-drop (h (n + i))

pub AreBytes-take : (n : ℕ) (bytes : List ℕ) → AreBytes bytes → AreBytes (take n bytes)
AreBytes-take n bytes h i =
    elim (cases_lt i n) [
      | inl lt ↦ rw (get_or-take n bytes i 0 lt) (h i)
      | inr le ↦ rw (get_or_past (take n bytes) i 0 (omega (arith, length-take n bytes))) (omega arith)
    ]

-- what stands behind other bytes
pub AreBytes-back : (front back : List ℕ) → AreBytes (front ++ back) → AreBytes back
AreBytes-back front back h = subst AreBytes (drop_at front back (length front) refl) (AreBytes-drop (length front) (front ++ back) h)

-- the value of a step that gave one
pub bind_some : {A B : Type 0} (o : Option A) (f : A → Option B) (y : B) → (o >>= f) ≡ Some y → (x : A) × (o ≡ Some x) × (f x ≡ Some y)
bind_some (Some x) f y e = (x, refl, e)
bind_some None f y e = absurd cc

-- a test that let the value through
pub guard_some : {A : Type 0} (b : Bool) (x y : A) → cond b None (Some x) ≡ Some y → (b ≡ false) × (x ≡ y)
guard_some true x y e = absurd cc
guard_some false x y e = (refl, cc)

-- a field: its reader takes just its spelling from the front
pub record IsField {A : Type 0} (at : List ℕ → Option (A × List ℕ)) (spelled : A → List ℕ) (Fits : A → Type 0) : Type 0 where
  pub parts : (bytes : List ℕ) (x : A × List ℕ) → AreBytes bytes → at bytes ≡ Some x → bytes ≡ spelled x.0 ++ x.1
  pub fits : (bytes : List ℕ) (x : A × List ℕ) → AreBytes bytes → at bytes ≡ Some x → Fits x.0
  pub rest : (bytes : List ℕ) (x : A × List ℕ) → AreBytes bytes → at bytes ≡ Some x → AreBytes x.1
  pub again : (x : A) (rest : List ℕ) → Fits x → at (spelled x ++ rest) ≡ Some (x, rest)

-- ---- numbers

byte_parts : (bytes : List ℕ) (x : ℕ × List ℕ) → byte_at bytes ≡ Some x → bytes ≡ byte x.0 ++ x.1
byte_parts [] x e = absurd cc
byte_parts (b ∷ bytes) x e = ap (λ (p : ℕ × List ℕ). p.0 ∷ p.1) (let some_is : (b, bytes) ≡ x = cc in some_is)

byte_fits : (bytes : List ℕ) (x : ℕ × List ℕ) → AreBytes bytes → byte_at bytes ≡ Some x → x.0 < 2 ^ 8
byte_fits [] x h e = absurd cc
byte_fits (b ∷ bytes) x h e =
    let same : (b, bytes) ≡ x = cc in
    subst (λ (p : ℕ × List ℕ). p.0 < 2 ^ 8) same (h 0)

byte_rest : (bytes : List ℕ) (x : ℕ × List ℕ) → AreBytes bytes → byte_at bytes ≡ Some x → AreBytes x.1
byte_rest [] x h e = absurd cc
byte_rest (b ∷ bytes) x h e =
    let same : (b, bytes) ≡ x = cc in
    subst (λ (p : ℕ × List ℕ). AreBytes p.1) same (λ i. h (suc i))

pub byte_field : IsField byte_at byte (λ n. n < 2 ^ 8)
byte_field = record { parts = λ bytes x _ e. byte_parts bytes x e; fits = byte_fits; rest = byte_rest; again = λ x rest _. refl }

-- a width: what it needs of the two functions on bytes
pub record IsWide (w : Width) (limit : ℕ) : Type 0 where
  pub len : (n : ℕ) → length (to_be_bytes w n) ≡ byte_len w
  pub back : (bytes : List ℕ) → length bytes ≡ byte_len w → AreBytes bytes → to_be_bytes w (from_be_bytes w bytes) ≡ bytes
  pub again : (n : ℕ) → n < limit → from_be_bytes w (to_be_bytes w n) ≡ n
  pub below : (bytes : List ℕ) → AreBytes bytes → from_be_bytes w bytes < limit

wide16 : IsWide w16 (2 ^ 16)
wide16 = record {
  len = λ n. refl;
  back = λ bytes len fits. be_bytes_2 bytes _ len fits refl;
  again = λ n lt. from_be_bytes-to_be_bytes_2 n lt;
  below = λ bytes fits. omega (arith, fits 0, fits 1);
}

wide32 : IsWide w32 (2 ^ 32)
wide32 = record {
  len = λ n. refl;
  back = λ bytes len fits. be_bytes_4 bytes _ len fits refl;
  again = λ n lt. from_be_bytes-to_be_bytes_4 n lt;
  below = λ bytes fits. omega (arith, fits 0, fits 1, fits 2, fits 3);
}

wide64 : IsWide w64 (2 ^ 64)
wide64 = record {
  len = λ n. refl;
  back = λ bytes len fits. be_bytes_8 bytes _ len fits refl;
  again = λ n lt. from_be_bytes-to_be_bytes_8 n lt;
  below = λ bytes fits. omega (arith, fits 0, fits 1, fits 2, fits 3, fits 4, fits 5, fits 6, fits 7);
}

pub number_is : (w : Width) (bytes : List ℕ) (x : ℕ × List ℕ) → number_at w bytes ≡ Some x → (byte_len w ≤ length bytes) × ((from_be_bytes w (take (byte_len w) bytes), drop (byte_len w) bytes) ≡ x)
number_is w bytes x e =
    let g = guard_some (ltb (length bytes) (byte_len w)) (from_be_bytes w (take (byte_len w) bytes), drop (byte_len w) bytes) x e in
    (ltb-false _ _ g.0, g.1)

number_parts : (w : Width) (limit : ℕ) → IsWide w limit → (bytes : List ℕ) (x : ℕ × List ℕ) → AreBytes bytes → number_at w bytes ≡ Some x → bytes ≡ to_be_bytes w x.0 ++ x.1
number_parts w limit wide bytes x h e =
    let g = number_is w bytes x e in
    let back : to_be_bytes w (from_be_bytes w (take (byte_len w) bytes)) ≡ take (byte_len w) bytes = wide.back (take (byte_len w) bytes) (omega (arith, length-take (byte_len w) bytes, g.0)) (AreBytes-take (byte_len w) bytes h) in
    subst (λ (p : ℕ × List ℕ). bytes ≡ to_be_bytes w p.0 ++ p.1) g.1 (rw back (sym (take-append-drop (byte_len w) bytes)))

number_again : (w : Width) (limit : ℕ) → IsWide w limit → (n : ℕ) (rest : List ℕ) → n < limit → number_at w (to_be_bytes w n ++ rest) ≡ Some (n, rest)
number_again w limit wide n rest lt =
    let len = wide.len n in
    let long : ltb (length (to_be_bytes w n ++ rest)) (byte_len w) ≡ false = le-ltb _ _ (omega (arith, length-append (to_be_bytes w n) rest)) in
    rw (long, take_at (to_be_bytes w n) rest (byte_len w) len, drop_at (to_be_bytes w n) rest (byte_len w) len, wide.again n lt) refl

number_field : (w : Width) (limit : ℕ) → IsWide w limit → IsField (number_at w) (to_be_bytes w) (λ n. n < limit)
number_field w limit wide = record {
  parts = number_parts w limit wide;
  fits = λ bytes x h e. subst (λ (p : ℕ × List ℕ). p.0 < limit) (number_is w bytes x e).1 (wide.below (take (byte_len w) bytes) (AreBytes-take (byte_len w) bytes h));
  rest = λ bytes x h e. subst (λ (p : ℕ × List ℕ). AreBytes p.1) (number_is w bytes x e).1 (AreBytes-drop (byte_len w) bytes h);
  again = number_again w limit wide;
}

pub half_field : IsField (number_at w16) (to_be_bytes w16) (λ n. n < 2 ^ 16)
half_field = number_field w16 (2 ^ 16) wide16

pub word_field : IsField (number_at w32) (to_be_bytes w32) (λ n. n < 2 ^ 32)
word_field = number_field w32 (2 ^ 32) wide32

pub long_field : IsField (number_at w64) (to_be_bytes w64) (λ n. n < 2 ^ 64)
long_field = number_field w64 (2 ^ 64) wide64

-- ---- a number of bytes

front_is : (n : ℕ) (bytes : List ℕ) (x : List ℕ × List ℕ) → front_at n bytes ≡ Some x → (n ≤ length bytes) × ((take n bytes, drop n bytes) ≡ x)
front_is n bytes x e =
    let g = guard_some (ltb (length bytes) n) (take n bytes, drop n bytes) x e in
    (ltb-false _ _ g.0, g.1)

-- bytes of that number
pub record IsFront (n : ℕ) (text : List ℕ) : Type 0 where
  pub len : length text ≡ n
  pub bytes : AreBytes text

front_fits : (n : ℕ) (bytes : List ℕ) (x : List ℕ × List ℕ) → AreBytes bytes → front_at n bytes ≡ Some x → IsFront n x.0
front_fits n bytes x h e =
    let g = front_is n bytes x e in
    subst (λ (p : List ℕ × List ℕ). IsFront n p.0) g.1 (record { len = omega (arith, length-take n bytes, g.0); bytes = AreBytes-take n bytes h })

front_again : (n : ℕ) (text rest : List ℕ) → length text ≡ n → front_at n (text ++ rest) ≡ Some (text, rest)
front_again n text rest len =
    let long : ltb (length (text ++ rest)) n ≡ false = le-ltb _ _ (omega (arith, length-append text rest)) in
    rw (long, take_at text rest n len, drop_at text rest n len) refl

pub front_field : (n : ℕ) → IsField (front_at n) (λ text. text) (IsFront n)
front_field n = record {
  parts = λ bytes x h e. subst (λ (p : List ℕ × List ℕ). bytes ≡ p.0 ++ p.1) (front_is n bytes x e).1 (sym (take-append-drop n bytes));
  fits = front_fits n;
  rest = λ bytes x h e. subst (λ (p : List ℕ × List ℕ). AreBytes p.1) (front_is n bytes x e).1 (AreBytes-drop n bytes h);
  again = λ text rest fits. front_again n text rest fits.len;
}
