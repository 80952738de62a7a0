-- Readers of whole rows, field after field.
use Rattle.std.proofs.Common.{◌≡◌, ℕ, Bool, true, false, cond, List, [], ◌∷◌, ◌++◌, length, Option, Some, None, refl, sym, ap, subst, ◌∙◌}
use Rattle.std.specs.Prelude.{IsTrue}
use Rattle.jv_model.specs.promise.Optional.{◌>>=◌}
use Rattle.jv_model.specs.promise.rows.RowFields.{front_at, whole}
use Rattle.jv_model.specs.Lists.{AreBytes}
use Rattle.jv_rows.specs.RoundTrips.{IsExact}
use Rattle.jv_rows.proofs.grammars.FieldLaws.{bind_some, IsField, IsFront, front_field}

-- a reader of all the bytes that are left: of the values that fit it and have the parts that are known from before
pub record IsReader {R : Type 0} (read : List ℕ → Option R) (spelled : R → List ℕ) (Fits Known : R → Type 0) : Type 0 where
  pub again : (y : R) → Fits y → Known y → read (spelled y) ≡ Some y
  pub fits : (bytes : List ℕ) (y : R) → AreBytes bytes → read bytes ≡ Some y → Fits y
  pub known : (bytes : List ℕ) (y : R) → AreBytes bytes → read bytes ≡ Some y → Known y
  pub same : (bytes : List ℕ) (y : R) → AreBytes bytes → read bytes ≡ Some y → bytes ≡ spelled y

-- a part of the value is a field, and then come the others
pub field_then : {A R : Type 0} {at : List ℕ → Option (A × List ℕ)} {spelled : A → List ℕ} {Fits : A → Type 0} → IsField at spelled Fits
    → (part : R → A) (next : A × List ℕ → Option R) (others : R → List ℕ) (Others Known : R → Type 0)
    → ((x : A) → IsReader (λ rest. next (x, rest)) others Others (λ y. Known y × (part y ≡ x)))
    → IsReader (λ bytes. at bytes >>= next) (λ y. spelled (part y) ++ others y) (λ y. Fits (part y) × Others y) Known
field_then {A} {R} {at} {spelled} {Fits} field part next others Others Known tail =
    let read : List ℕ → Option R = λ bytes. at bytes >>= next in
    let opened : (bytes : List ℕ) (y : R) (e : read bytes ≡ Some y) → (x : A × List ℕ) × (at bytes ≡ Some x) × (next x ≡ Some y) = λ bytes y e. bind_some (at bytes) next y e in
    let part_is : (bytes : List ℕ) (y : R) (h : AreBytes bytes) (e : read bytes ≡ Some y) → Known y × (part y ≡ (opened bytes y e).0.0) = λ bytes y h e. (let o = opened bytes y e in (tail o.0.0).known o.0.1 y (field.rest bytes o.0 h o.1) o.2) in
    record {
      again = λ y f k. ap (λ (o : Option (A × List ℕ)). o >>= next) (field.again (part y) (others y) f.0) ∙ (tail (part y)).again y f.1 (k, refl);
      fits = λ bytes y h e. (let o = opened bytes y e in
          (subst Fits (sym (part_is bytes y h e).1) (field.fits bytes o.0 h o.1), (tail o.0.0).fits o.0.1 y (field.rest bytes o.0 h o.1) o.2));
      known = λ bytes y h e. (part_is bytes y h e).0;
      same = λ bytes y h e. (let o = opened bytes y e in
          field.parts bytes o.0 h o.1
          ∙ ap (λ (t : List ℕ). spelled o.0.0 ++ t) ((tail o.0.0).same o.0.1 y (field.rest bytes o.0 h o.1) o.2)
          ∙ ap (λ (x : A). spelled x ++ others y) (sym (part_is bytes y h e).1));
    }

-- a part of the value is a field of its length and then its bytes, and then come the others
pub text_then : {R : Type 0} {at : List ℕ → Option (ℕ × List ℕ)} {spelled : ℕ → List ℕ} {Fits : ℕ → Type 0} → IsField at spelled Fits
    → (part : R → List ℕ) (next : List ℕ × List ℕ → Option R) (others : R → List ℕ) (Others Known : R → Type 0)
    → ((t : List ℕ) → IsReader (λ rest. next (t, rest)) others Others (λ y. Known y × (part y ≡ t)))
    → IsReader (λ bytes. at bytes >>= λ n. front_at n.0 n.1 >>= next) (λ y. spelled (length (part y)) ++ (part y ++ others y)) (λ y. (Fits (length (part y)) × AreBytes (part y)) × Others y) Known
text_then {R} {at} {spelled} {Fits} field part next others Others Known tail =
    let read : List ℕ → Option R = λ bytes. at bytes >>= λ n. front_at n.0 n.1 >>= next in
    let first : (bytes : List ℕ) (y : R) (e : read bytes ≡ Some y) → (n : ℕ × List ℕ) × (at bytes ≡ Some n) × ((front_at n.0 n.1 >>= next) ≡ Some y) = λ bytes y e. bind_some (at bytes) (λ n. front_at n.0 n.1 >>= next) y e in
    let second : (bytes : List ℕ) (y : R) (e : read bytes ≡ Some y) → (t : List ℕ × List ℕ) × (front_at (first bytes y e).0.0 (first bytes y e).0.1 ≡ Some t) × (next t ≡ Some y) = λ bytes y e. (let n = first bytes y e in bind_some (front_at n.0.0 n.0.1) next y n.2) in
    let rest_is : (bytes : List ℕ) (y : R) (h : AreBytes bytes) (e : read bytes ≡ Some y) → AreBytes (second bytes y e).0.1 = λ bytes y h e. (let n = first bytes y e in let t = second bytes y e in (front_field n.0.0).rest n.0.1 t.0 (field.rest bytes n.0 h n.1) t.1) in
    let text_is : (bytes : List ℕ) (y : R) (h : AreBytes bytes) (e : read bytes ≡ Some y) → IsFront (first bytes y e).0.0 (second bytes y e).0.0 = λ bytes y h e. (let n = first bytes y e in let t = second bytes y e in (front_field n.0.0).fits n.0.1 t.0 (field.rest bytes n.0 h n.1) t.1) in
    let part_is : (bytes : List ℕ) (y : R) (h : AreBytes bytes) (e : read bytes ≡ Some y) → Known y × (part y ≡ (second bytes y e).0.0) = λ bytes y h e. (let t = second bytes y e in (tail t.0.0).known t.0.1 y (rest_is bytes y h e) t.2) in
    record {
      again = λ y f k.
          ap (λ (o : Option (ℕ × List ℕ)). o >>= λ n. front_at n.0 n.1 >>= next) (field.again (length (part y)) (part y ++ others y) f.0.0)
          ∙ ap (λ (o : Option (List ℕ × List ℕ)). o >>= next) ((front_field (length (part y))).again (part y) (others y) (record { len = refl; bytes = f.0.1 }))
          ∙ (tail (part y)).again y f.1 (k, refl);
      fits = λ bytes y h e. (let n = first bytes y e in let t = second bytes y e in (
        subst (λ (x : List ℕ). Fits (length x) × AreBytes x) (sym (part_is bytes y h e).1) (subst Fits (sym (text_is bytes y h e).len) (field.fits bytes n.0 h n.1), (text_is bytes y h e).bytes),
        (tail t.0.0).fits t.0.1 y (rest_is bytes y h e) t.2,
      ));
      known = λ bytes y h e. (part_is bytes y h e).0;
      same = λ bytes y h e. (let n = first bytes y e in let t = second bytes y e in
          field.parts bytes n.0 h n.1
          ∙ ap (λ (x : List ℕ). spelled n.0.0 ++ x) ((front_field n.0.0).parts n.0.1 t.0 (field.rest bytes n.0 h n.1) t.1)
          ∙ ap (λ (x : List ℕ). spelled n.0.0 ++ (t.0.0 ++ x)) ((tail t.0.0).same t.0.1 y (rest_is bytes y h e) t.2)
          ∙ ap (λ (k : ℕ). spelled k ++ (t.0.0 ++ others y)) (sym (text_is bytes y h e).len)
          ∙ ap (λ (x : List ℕ). spelled (length x) ++ (x ++ others y)) (sym (part_is bytes y h e).1));
    }

-- a test that let a value through
let_through : {R : Type 0} (b : Bool) (x y : R) → cond b (Some x) None ≡ Some y → IsTrue b × (x ≡ y)
let_through true x y e = (refl, cc)
let_through false x y e = absurd cc

-- a value that was let through, with nothing left over
pub whole_is : {R : Type 0} (is_allowed : R → Bool) (x y : R) (rest : List ℕ) → whole is_allowed x rest ≡ Some y → (rest ≡ []) × (IsTrue (is_allowed x) × (x ≡ y))
whole_is is_allowed x y [] e = (refl, let_through (is_allowed x) x y e)
whole_is is_allowed x y (b ∷ rest) e = absurd cc

pub lets_through : {R : Type 0} (b : Bool) (x : R) → IsTrue b → cond b (Some x) None ≡ Some x
lets_through true x h = refl
lets_through false x h = absurd cc

-- the end: the value has been made of its parts
pub finish : {R : Type 0} (is_allowed : R → Bool) (x : R) (Known : R → Type 0) → Known x → ((y : R) → Known y → y ≡ x)
    → IsReader (λ rest. whole is_allowed x rest) (λ _. []) (λ y. IsTrue (is_allowed y)) Known
finish {R} is_allowed x Known made only = record {
  again = λ y f k. subst (λ (z : R). whole is_allowed z [] ≡ Some y) (only y k) (lets_through (is_allowed y) y f);
  fits = λ bytes y h e. (let w = whole_is is_allowed x y bytes e in subst (λ (z : R). IsTrue (is_allowed z)) w.1.1 w.1.0);
  known = λ bytes y h e. subst Known (whole_is is_allowed x y bytes e).1.1 made;
  same = λ bytes y h e. (whole_is is_allowed x y bytes e).0;
}

-- the end where the last part is all that is left
pub finish_with : {R : Type 0} (is_allowed : R → Bool) (make : List ℕ → R) (part : R → List ℕ) (Known : R → Type 0) → ((t : List ℕ) → Known (make t)) → ((t : List ℕ) → part (make t) ≡ t)
    → ((y : R) → Known y → y ≡ make (part y))
    → IsReader (λ rest. whole is_allowed (make rest) []) part (λ y. AreBytes (part y) × IsTrue (is_allowed y)) Known
finish_with {R} is_allowed make part Known made parted only = record {
  again = λ y f k. subst (λ (z : R). whole is_allowed z [] ≡ Some y) (only y k) (lets_through (is_allowed y) y f.1);
  fits = λ bytes y h e. (let w = whole_is is_allowed (make bytes) y [] e in
      subst (λ (z : R). AreBytes (part z) × IsTrue (is_allowed z)) w.1.1 (subst AreBytes (sym (parted bytes)) h, w.1.0));
  known = λ bytes y h e. subst Known (whole_is is_allowed (make bytes) y [] e).1.1 (made bytes);
  same = λ bytes y h e. sym (parted bytes) ∙ ap part (whole_is is_allowed (make bytes) y [] e).1.1;
}

abbrev some : {A : Type 0} → A → Option A
some x = Some x

abbrev some_front : {A : Type 0} → A → List ℕ → Option (A × List ℕ)
some_front x rest = Some (x, rest)

pub some_is : {A : Type 0} (x y : A) → some x ≡ some y → x ≡ y
some_is x y e = cc

-- the end of a field that is made of fields: the value comes with the bytes after it
pub finish_front : {A : Type 0} (x : A) (Known : A × List ℕ → Type 0) → ((rest : List ℕ) → Known (x, rest)) → ((y : A × List ℕ) → Known y → y.0 ≡ x)
    → IsReader (λ rest. Some (x, rest)) (λ y. y.1) (λ y. Unit {0}) Known
finish_front {A} x Known made only =
    let is : (rest : List ℕ) (y : A × List ℕ) → some_front x rest ≡ Some y → (x, rest) ≡ y = λ rest y e. some_is (x, rest) y e in
    record {
      again = λ y f k. ap (λ (z : A). some_front z y.1) (sym (only y k));
      fits = λ bytes y h e. tt;
      known = λ bytes y h e. subst Known (is bytes y e) (made bytes);
      same = λ bytes y h e. ap (λ (z : A × List ℕ). z.1) (is bytes y e);
    }

-- a reader of a whole row is exact
pub exact : {R : Type 0} {read : List ℕ → Option R} {spelled : R → List ℕ} {Fits Known : R → Type 0} (is_allowed : R → Bool) (HasWidths : R → Type 0) (bytes_of : R → List ℕ) → IsReader read spelled Fits Known
    → ((y : R) → bytes_of y ≡ spelled y) → ((y : R) → Known y) → ((y : R) → Fits y → HasWidths y × IsTrue (is_allowed y)) → ((y : R) → HasWidths y → IsTrue (is_allowed y) → Fits y)
    → IsExact HasWidths is_allowed bytes_of read
exact {R} {read} {spelled} {Fits} {Known} is_allowed HasWidths bytes_of reader spelling known split join = record {
  again = λ y w a. ap read (spelling y) ∙ reader.again y (join y w a) (known y);
  widths = λ bytes y h e. (split y (reader.fits bytes y h e)).0;
  allowed = λ bytes y h e. (split y (reader.fits bytes y h e)).1;
  same = λ bytes y h e. reader.same bytes y h e ∙ sym (spelling y);
}
