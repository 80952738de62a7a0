-- What a reader of lines finds.
use Rattle.std.specs.Prelude.{◌≡◌, ℕ, ◌+◌, ◌≤◌, ◌<◌, List, [], ◌∷◌, ◌++◌, length, take, drop, Option, IfSome, IsSomeAnd, Result, Ok, Err}
use Rattle.std.specs.Io.KnownBytes.{prepend_known, Consumes, IsAtEnd}
use Rattle.jv_model.specs.declared.fault.Down.{Down}
use Rattle.jv_outside.specs.promise.Causes.{Rose}
use Rattle.jv_cmd.specs.declared.reader.Next.{Next}
use Rattle.jv_cmd.specs.declared.reader.Next.TheVariants.{Text, TooLong, End}
use Rattle.jv_model.specs.declared.limits.TheConstants.{MAX_LINE}
use Rattle.jv_cmd.specs.promise.Texts.{texts_of}

-- a source returned bytes, which are held after the others, and none only at its end
pub record Fills (before after : Option (List ℕ)) (old new : List ℕ) (count : ℕ) : Type 0 where
  pub bytes : List ℕ
  pub size : length bytes ≡ count
  pub held : new ≡ old ++ bytes
  pub taken : Consumes before after bytes
  pub at_end : count ≡ 0 → IsAtEnd after

-- the bytes to come begin with this text
pub record BeginsWith (before : Option (List ℕ)) (next : List ℕ) : Type 0 where
  pub known : IfSome before (λ bytes. (more : List (List ℕ)) × (texts_of bytes ≡ next ∷ more))

-- the first text is a prefix of what is held, and the later texts are those of what follows it
pub record CutsText (before left : Option (List ℕ)) (held : List ℕ) (count : ℕ) : Type 0 where
  pub within : count ≤ length held
  pub short : count ≤ MAX_LINE
  pub known : IfSome before (λ bytes. IsSomeAnd (prepend_known (drop (count + 1) held) left)
      (λ rest. texts_of bytes ≡ take count held ∷ texts_of rest))

-- the next text is longer than a text may be
pub record IsOverlong (before : Option (List ℕ)) : Type 0 where
  pub next : List ℕ
  pub long : MAX_LINE < length next
  pub begins : BeginsWith before next

-- what comes next, of the bytes that were held or left before, where they were known
abbrev pub Finds : Option (List ℕ) → Option (List ℕ) → List ℕ → Result Next Down → Type 0
Finds before left held (Ok (Text count)) = CutsText before left held count
Finds before left held (Ok TooLong) = IsOverlong before
Finds before left held (Ok End) = IfSome before (λ bytes. texts_of bytes ≡ [])
Finds before left held (Err down) = Unit {0}

-- the source's count of faults is the same, and rose where it failed
abbrev pub CountsRead : {T : Type 0} → ℕ → ℕ → Result T Down → Type 0
CountsRead before now (Ok value) = now ≡ before
CountsRead before now (Err down) = Rose before now
