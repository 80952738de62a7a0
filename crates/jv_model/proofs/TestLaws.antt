-- What follows from a test, an order, an option or an answer whose value is known.
use Rattle.std.proofs.Common.{◌≡◌, ℕ, ◌<◌, ◌≤◌, Bool, true, false, T, ◌&&◌, ◌||◌, IsTrue, if◌then◌else◌, List, [], ◌∷◌, Option, None, Some, Ok, Err, refl, sym, subst, arith}
use Rattle.std.specs.Prelude.{IfSome, IsSome, is_some, option_and_then, OnErr, Result}
use Rattle.std.specs.declared.cmp.Ordering.{Ordering}
use Rattle.std.specs.declared.cmp.Ordering.TheVariants.{Less, Equal, Greater}
use Rattle.std.specs.Ordering.{is_eq, is_lt, nat_cmp}
use Rattle.std.proofs.lemmas.Bool.{lt-ltb}
use Rattle.jv_model.specs.promise.Lists.{is_nil}
use Rattle.jv_model.specs.declared.fault.Fault.{Fault}
use Rattle.jv_model.specs.promise.tree.Attempt.{◌>>=◌}

-- ---- tests

pub first_of_both : (a b : Bool) → T (a && b) → T a
first_of_both true b p = tt
first_of_both false b p = p

pub second_of_both : (a b : Bool) → T (a && b) → T b
second_of_both true b p = p
second_of_both false b p = absurd p

pub and_true : (b : Bool) → (b && true) ≡ b
and_true true = refl
and_true false = refl

pub and_false : (b : Bool) → (b && false) ≡ false
and_false true = refl
and_false false = refl

pub either_kept : (a b c d : Bool) → (IsTrue a → IsTrue c) → (IsTrue b → IsTrue d) → IsTrue (a || b) → IsTrue (c || d)
either_kept true b c d f g h = subst (λ yes. IsTrue (yes || d)) (sym (f refl)) refl
either_kept false b true d f g h = refl
either_kept false b false d f g h = g h

pub at_most_one : (b : Bool) → (if b then 1 else 0) ≤ 1
at_most_one true = omega arith
at_most_one false = omega arith

pub nil_is : (bytes : List ℕ) → is_nil bytes ≡ true → bytes ≡ []
nil_is [] e = refl
nil_is (x ∷ xs) e = absurd (cc)

-- ---- orders

pub less_is : (o : Ordering) → T (is_lt o) → o ≡ Less
less_is Less p = refl
less_is Equal p = absurd p
less_is Greater p = absurd p

pub lt_is : (o : Ordering) → is_lt o ≡ true → o ≡ Less
lt_is Less h = refl
lt_is Equal h = absurd (cc)
lt_is Greater h = absurd (cc)

pub tie_is : (o : Ordering) → is_eq o ≡ true → o ≡ Equal
tie_is Less h = absurd (cc)
tie_is Equal h = refl
tie_is Greater h = absurd (cc)

pub nat_less : (a b : ℕ) → a < b → nat_cmp a b ≡ Less
nat_less a b less = rw (lt-ltb a b less) refl

-- ---- options

pub some_of : {A : Type 0} (o : Option A) → IsSome o → (x : A) × (o ≡ Some x)
some_of None h = absurd (cc)
some_of (Some x) h = (x, refl)

pub none_if : {A : Type 0} (o : Option A) → is_some o ≡ false → o ≡ None
none_if None e = refl
none_if (Some x) e = absurd (cc)

pub none_unless : {A : Type 0} (o : Option A) → ((x : A) → o ≡ Some x → ⊥) → o ≡ None
none_unless None none = refl
none_unless (Some x) none = absurd (none x refl)

pub of_known : {A : Type 0} (P : A → Type 0) (o : Option A) (x : A) → o ≡ Some x → IfSome o P → P x
of_known P o x is h = subst (λ o. IfSome o P) is h

pub then_all : {A B : Type 0} (o : Option A) (f : A → Option B) (P : B → Type 0) → ((a : A) → IfSome (f a) P)
    → IfSome (option_and_then f o) P
then_all None f P h = tt
then_all (Some a) f P h = h a

pub if_some-by : {A : Type 0} (P : A → Type 0) (o : Option A) → ((x : A) → o ≡ Some x → P x) → IfSome o P
if_some-by P None h = tt
if_some-by P (Some x) h = h x refl

-- ---- answers

pub on_err : {A E : Type 0} (result : Result A E) (P : Type 0) → P → OnErr result P
on_err (Ok x) P p = tt
on_err (Err fault) P p = p

pub same_Ok : {A E : Type 0} (x y : A) → ◌≡◌ {A = Result A E} (Ok x) (Ok y) → x ≡ y
same_Ok x y e = cc

pub same_Err : {A E : Type 0} (x y : E) → ◌≡◌ {A = Result A E} (Err x) (Err y) → x ≡ y
same_Err x y e = cc

-- a fault is the same one where other answers are awaited
pub same_fault : {A B E : Type 0} (x y : E) → ◌≡◌ {A = Result A E} (Err x) (Err y) → ◌≡◌ {A = Result B E} (Err x) (Err y)
same_fault x y e = cc

-- one step after two is two steps after one
pub bound : {A B C : Type 0} (r : Result A Fault) (f : A → Result B Fault) (g : B → Result C Fault) → (r >>= f) >>= g ≡ r >>= (λ x. f x >>= g)
bound (Ok x) f g = refl
bound (Err fault) f g = refl
