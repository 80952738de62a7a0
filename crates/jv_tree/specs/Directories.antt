-- The entries of a directory among rows that were read.
use Rattle.std.specs.Prelude.{ℕ, ◌==◌, ◌&&◌, Bool, true, false, if◌then◌else◌, List, [], ◌∷◌, Option, option_map}
use Rattle.jv_model.specs.declared.row.Row.{Row}
use Rattle.jv_model.specs.declared.row.Row.TheVariants.{OfEdge}
use Rattle.jv_model.specs.declared.row.RowKey.{RowKey}
use Rattle.jv_model.specs.promise.Lists.{last_item}

-- the key of the last row
abbrev pub last_of : List (RowKey × Row) → Option RowKey
last_of rows = option_map (λ r. r.0) (last_item rows)

-- whether a row is an entry
abbrev pub is_entry : Row → Bool
is_entry (OfEdge edge) = true
is_entry _ = false

-- an entry before others; what is none ends them
abbrev pub entry_then : List ℕ → Row → List (List ℕ × ℕ) → List (List ℕ × ℕ)
entry_then name (OfEdge edge) others = (name, edge.inode) ∷ others
entry_then name _ others = []

-- the entries of a directory up to the first row that is none
abbrev pub entries_within : ℕ → List (RowKey × Row) → List (List ℕ × ℕ)
entries_within dir [] = []
entries_within dir (r ∷ rows) =
    (if r.0.a == dir then entry_then r.0.b r.1 (entries_within dir rows) else [])

-- whether all rows are entries of a directory
abbrev pub all_within : ℕ → List (RowKey × Row) → Bool
all_within dir [] = true
all_within dir (r ∷ rows) = is_entry r.1 && (r.0.a == dir) && all_within dir rows
