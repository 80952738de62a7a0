-- What only inner contracts cite: of `promise/Stream`.
use Rattle.std.specs.Prelude.{◌≡◌, ℕ, ◌<◌, ◌≤◌, List, length, take, Result, Ok, Err}
use Rattle.std.specs.Io.KnownBytes.{Consumes, IsAtEnd, Keeps}
use Rattle.jv_model.specs.declared.fault.Down.{Down}
use Rattle.jv_model.specs.declared.fault.Down.TheVariants.{Failed}
use Rattle.jv_outside.specs.Causes.{HasFailed}
use Rattle.jv_outside.specs.promise.Stream.{Stream, Gains, HasAll, IsCut}

-- `count` bytes were read from the first of those left, and none only at the end or where there was
-- no room
pub record HasRead (before after : Stream) (count : ℕ) (into : List ℕ) : Type 0 where
  pub within : count ≤ length into
  pub bytes : Consumes before.content after.content (take count into)
  pub at_end : count ≡ 0 → 0 < length into → IsAtEnd after.content
  pub calm : after.faults ≡ before.faults

-- no byte was read, and the count of faults rose
pub record FailsToRead (before after : Stream) (down : Down) : Type 0 where
  pub content : Keeps before.content after.content
  pub cause : HasFailed before.faults after.faults down

-- a call of a source, by its result
abbrev pub Reads : Stream → Stream → Result ℕ Down → List ℕ → Type 0
Reads before after (Ok count) into = HasRead before after count into
Reads before after (Err down) into = FailsToRead before after down

-- the first `count` bytes of a piece were written, and none only of an empty piece
pub record HasWritten (before after : Stream) (count : ℕ) (piece : List ℕ) : Type 0 where
  pub within : count ≤ length piece
  pub some : 0 < length piece → 0 < count
  pub gains : Gains before.content after.content (take count piece)
  pub calm : after.faults ≡ before.faults

-- no byte was written, and the count of faults rose
pub record FailsToWrite (before after : Stream) (down : Down) : Type 0 where
  pub content : after.content ≡ before.content
  pub cause : HasFailed before.faults after.faults down

-- a call of a sink, by its result
abbrev pub Writes : Stream → Stream → Result ℕ Down → List ℕ → Type 0
Writes before after (Ok count) piece = HasWritten before after count piece
Writes before after (Err down) piece = FailsToWrite before after down

-- a call failed before all these bytes were written: the error is Failed, never Memory
pub record FailsToWriteAll (before after : Stream) (down : Down) (bytes : List ℕ) : Type 0 where
  pub cut : IsCut before after bytes
  pub failed : down ≡ Failed

-- a write of all bytes, by its result
abbrev pub WritesAll : Stream → Stream → Result (Unit {0}) Down → List ℕ → Type 0
WritesAll before after (Ok unit) bytes = HasAll before after bytes
WritesAll before after (Err down) bytes = FailsToWriteAll before after down bytes
