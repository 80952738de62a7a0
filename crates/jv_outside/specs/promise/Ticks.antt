-- What is seen of a clock, and what a call does to it.
use Rattle.std.specs.Prelude.{◌≡◌, ℕ, ◌+◌, Option, IfSome, IsSomeAnd}

-- The answers to come, by their number from 0, where they are known; and how many calls failed. The
-- answers may become unknown, and then stay so.
pub record Ticks : Type 0 where
  pub answers : Option (ℕ → ℕ)
  pub faults : ℕ

-- where the answers to come are known after, they were known before, and `count` of those have
-- passed
pub record Passes (before after : Option (ℕ → ℕ)) (count : ℕ) : Type 0 where
  pub known : IfSome after (λ rest.
      IsSomeAnd before (λ answers. (n : ℕ) → rest n ≡ answers (n + count)))
