-- What only inner contracts cite: of `promise/Script`.
use Rattle.std.specs.Prelude.{ℕ}

-- what contracts see of a script that is drawn: its seed, and how many of its lines were returned
pub record Drawn : Type 0 where
  pub seed : ℕ
  pub given : ℕ
