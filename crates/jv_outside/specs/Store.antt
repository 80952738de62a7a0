-- What only inner contracts cite: of `promise/Store`.
use Rattle.std.specs.Prelude.{ℕ, List, Option, Result}
use Rattle.jv_model.specs.declared.fault.Down.{Down}
use Rattle.jv_model.specs.declared.row.RowKey.{RowKey}
use Rattle.jv_model.specs.promise.FiniteMap.{get}
use Rattle.jv_outside.specs.declared.batch.Change.{Change}
use Rattle.jv_outside.specs.promise.Holding.{Attaches}
use Rattle.jv_outside.specs.Holding.{Answers, Changes}
use Rattle.jv_outside.specs.promise.Rows.{applied}
use Rattle.jv_outside.specs.Rows.{rows_after}
use Rattle.jv_outside.specs.promise.Store.{Store, held}

-- opening the keeper at a place, by the result
abbrev pub Opens : Store → Store → Result (Unit {0}) Down → List ℕ → Type 0
Opens before after result place = Attaches (held before) (held after) result place

-- looking for the bytes at a key, by the result
abbrev pub Finds : Store → Store → Result (Option (List ℕ)) Down → RowKey → Type 0
Finds before after result key = Answers (held before) (held after) result (λ rows. get rows key)

-- looking for the first `count` rows of a table after a key, by the result
abbrev pub Scans : Store → Store → Result (List (RowKey × List ℕ)) Down → ℕ → Option RowKey → ℕ
    → Type 0
Scans before after result tab last count =
    Answers (held before) (held after) result (λ rows. rows_after rows tab last count)

-- making changes, by the result
abbrev pub Commits : Store → Store → Result (Unit {0}) Down → List Change → Type 0
Commits before after result changes =
    Changes (held before) (held after) result (applied changes)
