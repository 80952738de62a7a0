-- What contracts see of a journal.
use Rattle.std.specs.Prelude.{ℕ, List}
use Rattle.jv_model.specs.declared.act.Act.{Act}

-- the entries in order, and how many more there is room for
pub record JournalValue : Type 0 where
  pub acts : List Act
  pub spare : ℕ
