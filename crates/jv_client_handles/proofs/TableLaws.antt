-- Tables of handles: what stands at a handle, and after a change there; and two tables with the same places in use.
use Rattle.std.proofs.Common.{◌≡◌, ℕ, zero, suc, ◌+◌, ◌-◌, ◌<◌, Bool, true, false, cond, List, [], ◌∷◌, ◌++◌, length}
use Rattle.std.proofs.Common.{map, slice_get, slice_set, Option, None, Some, refl, sym, ap, subst, ◌∙◌, arith}
use Rattle.std.specs.Prelude.{nat_le, is_some, ◌==◌, if◌then◌else◌}
use Rattle.std.proofs.lemmas.Bool.{le-leb}
use Rattle.std.proofs.lemmas.Bool.Decides.{nat_tests}
use Rattle.jv_model.specs.promise.client.ModelClient.{file_in, file_of, free_from, open_count, with_file}
use Rattle.jv_client_handles.specs.Held.{SamePlace, SameTable}

-- one table

-- what stands at a place that is given something
slice_get-set : {X : Type 0} (xs : List X) (k : ℕ) (x : X) → k < length xs → slice_get (slice_set xs k x) k ≡ Some x
slice_get-set [] k x h = absurd (omega (arith, h))
slice_get-set (y ∷ ys) zero x h = refl
slice_get-set (y ∷ ys) (suc k) x h = slice_get-set ys k x (omega (arith, h))

-- an open handle: its place
pub record IsOpenAt {X : Type 0} (files : List (Option X)) (handle : ℕ) (file : X) : Type 0 where
  pub place : ℕ
  pub number : handle ≡ 1 + place
  pub is : file_in (slice_get files place) ≡ Some file
  pub inside : place < length files

in_list : {X : Type 0} (files : List (Option X)) (k : ℕ) (file : X) → file_in (slice_get files k) ≡ Some file
    → k < length files
in_list [] k file e = absurd (cc e)
in_list (x ∷ xs) zero file e = omega arith
in_list (x ∷ xs) (suc k) file e = let less = in_list xs k file e in omega (arith, less)

file_of-place : {X : Type 0} (files : List (Option X)) (k : ℕ) → file_of files (suc k) ≡ file_in (slice_get files k)
file_of-place files k =
    let some : (suc k == 0) ≡ false = grind (arith, nat_tests) in
    let index : suc k - 1 ≡ k = omega arith in
    ap (λ b. if b then None else file_in (slice_get files (suc k - 1))) some
    ∙ ap (λ i. file_in (slice_get files i)) index

pub open_at : {X : Type 0} (files : List (Option X)) (handle : ℕ) (file : X) → file_of files handle ≡ Some file
    → IsOpenAt files handle file
open_at files zero file e = absurd (cc e)
open_at files (suc k) file e =
    let is = sym (file_of-place files k) ∙ e in
    record { place = k; number = omega arith; is = is; inside = in_list files k file is }

-- it stays in its place
pub with_file-open : {X : Type 0} (files : List (Option X)) (handle : ℕ) (file : X) (new : Option X)
    (o : IsOpenAt files handle file) → with_file handle new files ≡ slice_set files o.place new
with_file-open files handle file new o =
    let number = o.number in
    let inside = o.inside in
    let low : nat_le handle (length files) ≡ true = le-leb _ _ (omega (arith, number, inside)) in
    let index : handle - 1 ≡ o.place = omega (arith, number) in
    ap (λ b. if b then slice_set files (handle - 1) new else files ++ new ∷ []) low
    ∙ ap (λ k. slice_set files k new) index

-- and names what it is given
pub file_of-with_file : {X : Type 0} (files : List (Option X)) (handle : ℕ) (file : X) (new : Option X)
    → file_of files handle ≡ Some file → file_of (with_file handle new files) handle ≡ new
file_of-with_file files handle file new e =
    let o = open_at files handle file e in
    let next : 1 + o.place ≡ suc o.place = omega arith in
    ap (λ files. file_of files handle) (with_file-open files handle file new o)
    ∙ ap (λ n. file_of (slice_set files o.place new) n) o.number
    ∙ ap (λ n. file_of (slice_set files o.place new) n) next
    ∙ file_of-place (slice_set files o.place new) o.place ∙ ap file_in (slice_get-set files o.place new o.inside)

-- what is put back where it stood
set-back : {X : Type 0} (files : List (Option X)) (k : ℕ) (file : X) (new : Option X)
    → file_in (slice_get files k) ≡ Some file → slice_set (slice_set files k new) k (Some file) ≡ files
set-back [] k file new e = refl
set-back (x ∷ xs) zero file new e = ap (λ o. o ∷ xs) (sym e)
set-back (x ∷ xs) (suc k) file new e = ap (λ ys. x ∷ ys) (set-back xs k file new e)

pub with_file-back : {X : Type 0} (files : List (Option X)) (handle : ℕ) (file new : X)
    → file_of files handle ≡ Some file → with_file handle (Some file) (with_file handle (Some new) files) ≡ files
with_file-back files handle file new e =
    let o = open_at files handle file e in
    let later = with_file handle (Some new) files in
    let given = open_at later handle new (file_of-with_file files handle file (Some new) e) in
    let number = o.number in
    let numbers = given.number in
    let place : given.place ≡ o.place = omega (arith, number, numbers) in
    with_file-open later handle new (Some file) given
    ∙ ap (λ k. slice_set later k (Some file)) place
    ∙ ap (λ files. slice_set files o.place (Some file)) (with_file-open files handle file (Some new) o)
    ∙ set-back files o.place file (Some new) o.is

-- a table whose files all changed
module _ {X : Type 0} (change : Option X → Option X) (none : change None ≡ None) where
  place-changed : (files : List (Option X)) (n : ℕ)
      → file_in (slice_get (map change files) n) ≡ change (file_in (slice_get files n))
  place-changed [] n = sym none
  place-changed (file ∷ files) zero = refl
  place-changed (file ∷ files) (suc n) = place-changed files n

  none-changed : (b : Bool) (file : Option X) → (if b then None else change file) ≡ change (if b then None else file)
  none-changed true file = sym none
  none-changed false file = refl

  pub file_of-changed : (files : List (Option X)) (handle : ℕ)
      → file_of (map change files) handle ≡ change (file_of files handle)
  file_of-changed files handle =
      ap (λ o. if handle == 0 then None else o) (place-changed files (handle - 1))
      ∙ none-changed (handle == 0) (file_in (slice_get files (handle - 1)))

-- one place

pub the_some : {X : Type 0} (o : Option X) → is_some o ≡ true → (x : X) × (o ≡ Some x)
the_some None some = absurd (cc some)
the_some (Some x) some = (x, refl)

-- two places

module _ {X Y : Type 0} (P : X → Y → Type 0) where
  pub some-same : (x : Option X) (y : Option Y) → SamePlace P x y → is_some x ≡ is_some y
  some-same None None h = refl
  some-same None (Some y) h = absurd h
  some-same (Some x) None h = absurd h
  some-same (Some x) (Some y) h = refl

  -- where one is in use, the other is
  pub there_in : (x : Option X) (y : Option Y) (b : Y) → y ≡ Some b → SamePlace P x y → (a : X) × (x ≡ Some a) × P a b
  there_in None None b e h = absurd (cc e)
  there_in None (Some y) b e h = absurd h
  there_in (Some a) None b e h = absurd h
  there_in (Some a) (Some y) b e h = (a, refl, subst (P a) (let same : y ≡ b = cc e in same) h)

  pub none_in : (x : Option X) (y : Option Y) → y ≡ None → SamePlace P x y → x ≡ None
  none_in None y e h = refl
  none_in (Some a) None e h = absurd h
  none_in (Some a) (Some y) e h = absurd (cc e)

module _ {X Y : Type 0} where
  pub same_place-by : (P Q : X → Y → Type 0) (x : Option X) (y : Option Y)
      → ((a : X) (b : Y) → P a b → Q a b) → SamePlace P x y → SamePlace Q x y
  same_place-by P Q None None f h = tt
  same_place-by P Q None (Some y) f h = absurd h
  same_place-by P Q (Some x) None f h = absurd h
  same_place-by P Q (Some x) (Some y) f h = f x y h

  -- two tables, of which one changed or neither
  pub same_table-by : (P Q : ℕ → X → Y → Type 0) (n : ℕ) (xs : List (Option X)) (ys : List (Option Y))
      → ((k : ℕ) (a : X) (b : Y) → P k a b → Q k a b)
      → SameTable P n xs ys → SameTable Q n xs ys
  same_table-by P Q n [] [] f h = tt
  same_table-by P Q n [] (y ∷ ys) f h = absurd h
  same_table-by P Q n (x ∷ xs) [] f h = absurd h
  same_table-by P Q n (x ∷ xs) (y ∷ ys) f h =
      (same_place-by (P n) (Q n) x y (f n) h.0, same_table-by P Q (n + 1) xs ys f h.1)

  same-above : (P Q : ℕ → X → Y → Type 0) (low n : ℕ) (xs : List (Option X)) (ys : List (Option Y)) → low < n
      → ((m : ℕ) (a : X) (b : Y) → (m ≡ low → ⊥) → P m a b → Q m a b)
      → SameTable P n xs ys → SameTable Q n xs ys
  same-above P Q low n [] [] less f h = tt
  same-above P Q low n [] (y ∷ ys) less f h = absurd h
  same-above P Q low n (x ∷ xs) [] less f h = absurd h
  same-above P Q low n (x ∷ xs) (y ∷ ys) less f h =
      let here = same_place-by (P n) (Q n) x y (λ a b. f n a b (λ e. omega (arith, less, e))) h.0 in
      (here, same-above P Q low (n + 1) xs ys (omega (arith, less)) f h.1)

  same-given : (P Q : ℕ → X → Y → Type 0) (at n k : ℕ) (xs : List (Option X)) (ys : List (Option Y)) (x : X) (new : Y)
      → at ≡ n + k
      → ((m : ℕ) (a : X) (b : Y) → (m ≡ at → ⊥) → P m a b → Q m a b)
      → file_in (slice_get xs k) ≡ Some x → Q at x new → SameTable P n xs ys
      → SameTable Q n xs (slice_set ys k (Some new))
  same-given P Q at n k [] [] x new number f e q h = tt
  same-given P Q at n k [] (y ∷ ys) x new number f e q h = absurd h
  same-given P Q at n k (x' ∷ xs) [] x new number f e q h = absurd h
  same-given P Q at n zero (x' ∷ xs) (y ∷ ys) x new number f e q h =
      let here : at ≡ n = omega (arith, number) in
      let is : x' ≡ Some x = e in
      let place = subst (λ o. SamePlace (Q at) o (Some new)) (sym is) q in
      let others = same-above P Q at (n + 1) xs ys (omega (arith, here)) f h.1 in
      (subst (λ m. SamePlace (Q m) x' (Some new)) here place, others)
  same-given P Q at n (suc k) (x' ∷ xs) (y ∷ ys) x new number f e q h =
      let place = same_place-by (P n) (Q n) x' y (λ a b. f n a b (λ e. omega (arith, number, e))) h.0 in
      (place, same-given P Q at (n + 1) k xs ys x new (omega (arith, number)) f e q h.1)

  -- a handle is given something that its file is related to, and all others stay related
  pub same-with_file : (P Q : ℕ → X → Y → Type 0) (handle : ℕ) (xs : List (Option X)) (ys : List (Option Y)) (x : X)
      (old new : Y) → file_of xs handle ≡ Some x → file_of ys handle ≡ Some old
      → ((m : ℕ) (a : X) (b : Y) → (m ≡ handle → ⊥) → P m a b → Q m a b) → Q handle x new → SameTable P 1 xs ys
      → SameTable Q 1 xs (with_file handle (Some new) ys)
  same-with_file P Q handle xs ys x old new e opened f q h =
      let o = open_at ys handle old opened in
      let number = o.number in
      let index : handle - 1 ≡ o.place = omega (arith, number) in
      let mine = open_at xs handle x e in
      let numbers = mine.number in
      let place : mine.place ≡ o.place = omega (arith, number, numbers) in
      subst (λ ys. SameTable Q 1 xs ys) (sym (with_file-open ys handle old (Some new) o))
      (same-given P Q handle 1 o.place xs ys x new number f
      (subst (λ k. file_in (slice_get xs k) ≡ Some x) place mine.is) q h)

-- two tables with the same places in use

not_zero : (n : ℕ) → (n == 0) ≡ false → 1 + (n - 1) ≡ n
not_zero zero e = absurd (cc e)
not_zero (suc n) e = omega arith

module _ {X Y : Type 0} (P : ℕ → X → Y → Type 0) where
  pub count-same : (number : ℕ) (xs : List (Option X)) (ys : List (Option Y)) → SameTable P number xs ys
      → open_count xs ≡ open_count ys
  count-same number [] [] h = refl
  count-same number [] (y ∷ ys) h = absurd h
  count-same number (x ∷ xs) [] h = absurd h
  count-same number (None ∷ xs) (None ∷ ys) h = count-same (number + 1) xs ys h.1
  count-same number (None ∷ xs) (Some y ∷ ys) h = absurd h.0
  count-same number (Some x ∷ xs) (None ∷ ys) h = absurd h.0
  count-same number (Some x ∷ xs) (Some y ∷ ys) h = ap (λ n. 1 + n) (count-same (number + 1) xs ys h.1)

  -- what stands at an index
  pub place-same : (number : ℕ) (xs : List (Option X)) (ys : List (Option Y)) → SameTable P number xs ys → (n : ℕ)
      → SamePlace (P (number + n)) (file_in (slice_get xs n)) (file_in (slice_get ys n))
  place-same number [] [] h n = tt
  place-same number [] (y ∷ ys) h n = absurd h
  place-same number (x ∷ xs) [] h n = absurd h
  place-same number (x ∷ xs) (y ∷ ys) h zero = subst (λ k. SamePlace (P k) x y) (omega arith) h.0
  place-same number (x ∷ xs) (y ∷ ys) h (suc n) =
      subst (λ k. SamePlace (P k) (file_in (slice_get xs n)) (file_in (slice_get ys n))) (omega arith)
      (place-same (number + 1) xs ys h.1 n)

  pub free-same : (number n : ℕ) (xs : List (Option X)) (ys : List (Option Y)) → SameTable P number xs ys
      → free_from n xs ≡ free_from n ys
  free-same number n [] [] h = refl
  free-same number n [] (y ∷ ys) h = absurd h
  free-same number n (x ∷ xs) [] h = absurd h
  free-same number n (None ∷ xs) (None ∷ ys) h = refl
  free-same number n (None ∷ xs) (Some y ∷ ys) h = absurd h.0
  free-same number n (Some x ∷ xs) (None ∷ ys) h = absurd h.0
  free-same number n (Some x ∷ xs) (Some y ∷ ys) h = free-same (number + 1) (n + 1) xs ys h.1

  none-unless : (b : Bool) (m n : ℕ) (x : Option X) (y : Option Y) → (b ≡ false → m ≡ n)
      → SamePlace (P m) x y → SamePlace (P n) (cond b None x) (cond b None y)
  none-unless true m n x y same h = tt
  none-unless false m n x y same h = subst (λ k. SamePlace (P k) x y) (same refl) h

  -- what a handle names
  pub file-same : (xs : List (Option X)) (ys : List (Option Y)) → SameTable P 1 xs ys → (handle : ℕ)
      → SamePlace (P handle) (file_of xs handle) (file_of ys handle)
  file-same xs ys h handle =
      none-unless (handle == 0) (1 + (handle - 1)) handle _ _ (λ some. not_zero handle some)
      (place-same 1 xs ys h (handle - 1))

  -- a change at the same handle of both

  length-same : (number : ℕ) (xs : List (Option X)) (ys : List (Option Y)) → SameTable P number xs ys
      → length xs ≡ length ys
  length-same number [] [] h = refl
  length-same number [] (y ∷ ys) h = absurd h
  length-same number (x ∷ xs) [] h = absurd h
  length-same number (x ∷ xs) (y ∷ ys) h = ap suc (length-same (number + 1) xs ys h.1)

  module _ (x : Option X) (y : Option Y) (same : (n : ℕ) → SamePlace (P n) x y) where
    same-set : (number k : ℕ) (xs : List (Option X)) (ys : List (Option Y)) → SameTable P number xs ys
        → SameTable P number (slice_set xs k x) (slice_set ys k y)
    same-set number k [] [] h = tt
    same-set number k [] (b ∷ ys) h = absurd h
    same-set number k (a ∷ xs) [] h = absurd h
    same-set number zero (a ∷ xs) (b ∷ ys) h = (same number, h.1)
    same-set number (suc k) (a ∷ xs) (b ∷ ys) h = (h.0, same-set (number + 1) k xs ys h.1)

    same-longer : (number : ℕ) (xs : List (Option X)) (ys : List (Option Y)) → SameTable P number xs ys
        → SameTable P number (xs ++ x ∷ []) (ys ++ y ∷ [])
    same-longer number [] [] h = (same number, tt)
    same-longer number [] (b ∷ ys) h = absurd h
    same-longer number (a ∷ xs) [] h = absurd h
    same-longer number (a ∷ xs) (b ∷ ys) h = (h.0, same-longer (number + 1) xs ys h.1)

    set-by : (b : Bool) (k : ℕ) (xs : List (Option X)) (ys : List (Option Y)) → SameTable P 1 xs ys
        → SameTable P 1 (if b then slice_set xs k x else xs ++ x ∷ []) (if b then slice_set ys k y else ys ++ y ∷ [])
    set-by true k xs ys h = same-set 1 k xs ys h
    set-by false k xs ys h = same-longer 1 xs ys h

    pub same-with_files : (handle : ℕ) (xs : List (Option X)) (ys : List (Option Y)) → SameTable P 1 xs ys
        → SameTable P 1 (with_file handle x xs) (with_file handle y ys)
    same-with_files handle xs ys h =
        subst (λ n. SameTable P 1 (with_file handle x xs)
        (if nat_le handle n then slice_set ys (handle - 1) y else ys ++ y ∷ [])) (length-same 1 xs ys h)
        (set-by (nat_le handle (length xs)) (handle - 1) xs ys h)
