-- Lists of any items, and the parts of a text.
use Rattle.std.specs.Prelude.{ℕ, Bool, true, false, not, ◌==◌, List, [], ◌∷◌, Option, None, Some}
use Rattle.std.specs.List.{list_all, list_any, slice_split}

-- a list without items
abbrev pub is_nil : {A : Type 0} → List A → Bool
is_nil [] = true
is_nil (x ∷ xs) = false

-- the parts of a text between the places of one byte, which are words at a space
abbrev pub parted : ℕ → List ℕ → List (List ℕ)
parted separator text = slice_split (λ c. c == separator) text

-- no byte is 0
abbrev pub has_no_zero : List ℕ → Bool
has_no_zero bytes = list_all (λ b. not (b == 0)) bytes

-- whether a number is among numbers
abbrev pub is_among : ℕ → List ℕ → Bool
is_among n numbers = list_any (λ i. i == n) numbers

-- the first of numbers, 0 where there is none
abbrev pub first_number : List ℕ → ℕ
first_number [] = 0
first_number (n ∷ ns) = n

abbrev pub last_item : {A : Type 0} → List A → Option A
last_item [] = None
last_item (x ∷ []) = Some x
last_item (_ ∷ x ∷ xs) = last_item (x ∷ xs)

-- a number of each item that is there
abbrev pub numbers_of : {A : Type 0} → (A → ℕ) → List (Option A) → List ℕ
numbers_of number [] = []
numbers_of number (None ∷ items) = numbers_of number items
numbers_of number (Some item ∷ items) = number item ∷ numbers_of number items
