-- Positions in a row.
use Rattle.std.specs.Prelude.{ℕ, ◌+◌, Bool, ◌&&◌, nat_lt, nat_le}

-- whether a position is one of these from a first one on
abbrev pub in_range : ℕ → ℕ → ℕ → Bool
in_range from len position = nat_le from position && nat_lt position (from + len)
