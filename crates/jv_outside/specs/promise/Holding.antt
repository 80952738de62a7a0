-- What is seen of a device that holds a map, as a keeper its rows, a depot its objects and a shelf
-- its staged blocks, and what a call does to it.
use Rattle.std.specs.Prelude.{◌≡◌, ◌≢◌, ℕ, List, Option, None, Some, Result, Ok, Err, codes}
use Rattle.jv_model.specs.declared.fault.Down.{Down}
use Rattle.jv_outside.specs.promise.Causes.{IsCaused}

-- the content, where it is known; the place where the device was opened last, if it was; and how
-- many calls failed
pub record Holding (M : Type 0) : Type 0 where
  pub content : Option M
  pub opened : Option (List ℕ)
  pub faults : ℕ

-- a call failed, or memory ran out for it, and content and place are the same
pub record FailsToHold {M : Type 0} (before after : Holding M) (down : Down) : Type 0 where
  pub content_is : after.content ≡ before.content
  pub opened_at : after.opened ≡ before.opened
  pub cause : IsCaused before.faults after.faults down

-- the place of what is in memory, which no file has
abbrev pub memory_place : List ℕ
memory_place = codes ":memory:"

-- What opening a device at a place does to its content: it is as before, or, where the device is open
-- there and that isn't in memory, no longer known.
pub data IsAttached {M : Type 0} (place : List ℕ) (before after : Holding M) : Type 0 where
  AsBefore : after.content ≡ before.content → IsAttached place before after
  Unknown : place ≢ memory_place → after.content ≡ None → after.opened ≡ Some place
      → IsAttached place before after

-- the device is open at a place, and no call failed since
pub record IsOpenAt {M : Type 0} (place : List ℕ) (before after : Holding M) : Type 0 where
  pub content : IsAttached place before after
  pub opened_at : after.opened ≡ Some place
  pub calm : after.faults ≡ before.faults

-- opening the device at a place, by the result
abbrev pub Attaches : {M : Type 0} → Holding M → Holding M → Result (Unit {0}) Down → List ℕ
    → Type 0
Attaches before after (Ok unit) place = IsOpenAt place before after
Attaches before after (Err down) place = FailsToHold before after down
