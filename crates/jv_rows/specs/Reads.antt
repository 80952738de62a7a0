-- What a reader of bytes returns, against the grammar.
use Rattle.std.specs.Prelude.{◌≡◌, ℕ, Bool, List, Option, None, Some, Result, Ok, Err, IsTrue}
use Rattle.jv_rows.specs.declared.misread.Misread.{Misread}
use Rattle.jv_rows.specs.declared.misread.Misread.TheVariants.{Malformed, Memory}

-- where nothing was read the grammar has nothing there, unless memory ran out
abbrev pub Misses : {Y : Type 0} → Misread → Option Y → Type 0
Misses Memory read = Unit {0}
Misses Malformed read = read ≡ None

-- what was read, seen by a function, is what the grammar has there
abbrev pub Takes : {X Y : Type 0} → (X → Y) → Result X Misread → Option Y → Type 0
Takes view (Ok x) read = read ≡ Some (view x)
Takes view (Err e) read = Misses e read

-- what was read is the value that the bytes spell
abbrev pub ReadsAs : {X : Type 0} → Result X Misread → Option X → Type 0
ReadsAs result read = Takes (λ x. x) result read

-- a value that was read is allowed, the bytes are its spelling, and they are read as that value
pub record IsSpelled {A : Type 0} (read : List ℕ → Option A) (spelled : A → List ℕ)
    (is_allowed : A → Bool) (bytes : List ℕ) (x : A) : Type 0 where
  pub allowed : IsTrue (is_allowed x)
  pub same : bytes ≡ spelled x
  pub again : read (spelled x) ≡ Some x
