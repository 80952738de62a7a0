-- What is seen of a source or a sink, and what a call does to it.
use Rattle.std.specs.Prelude.{◌≡◌, ℕ, ◌<◌, List, ◌++◌, length, take, Option, IfSome, IsSomeAnd}
use Rattle.jv_outside.specs.promise.Causes.{Rose}

-- The bytes left of a source, or taken by a sink, where they are known; and how many calls failed.
-- A sink's bytes may become unknown, and then stay so.
pub record Stream : Type 0 where
  pub content : Option (List ℕ)
  pub faults : ℕ

-- where the bytes are known after, they were known before, and are now followed by these
pub record Gains (before after : Option (List ℕ)) (gained : List ℕ) : Type 0 where
  pub known : IfSome after (λ new. IsSomeAnd before (λ old. new ≡ old ++ gained))

-- all these bytes were written, by calls that succeeded
pub record HasAll (before after : Stream) (bytes : List ℕ) : Type 0 where
  pub gains : Gains before.content after.content bytes
  pub calm : after.faults ≡ before.faults

-- a proper prefix of these bytes was written, and then a call failed
pub record IsCut (before after : Stream) (bytes : List ℕ) : Type 0 where
  pub count : ℕ
  pub proper : count < length bytes
  pub gains : Gains before.content after.content (take count bytes)
  pub rose : Rose before.faults after.faults
