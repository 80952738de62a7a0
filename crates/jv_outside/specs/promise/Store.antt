-- What is seen of a keeper, and what a call does to it: a keeper is a device that holds rows.
use Rattle.std.specs.Prelude.{ℕ, List, Option}
use Rattle.jv_model.specs.promise.rows.RowKeys.{RowMap}
use Rattle.jv_outside.specs.promise.Holding.{Holding}

-- the rows, where they are known; the place where the keeper was opened last, if it was; and how
-- many calls failed
pub record Store : Type 0 where
  pub rows : Option RowMap
  pub opened : Option (List ℕ)
  pub faults : ℕ

-- the same, as of any device that holds a map
abbrev pub held : Store → Holding RowMap
held store = record { content = store.rows; opened = store.opened; faults = store.faults }
