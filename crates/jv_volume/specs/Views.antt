-- What only inner contracts cite: of `promise/Views`.
use Rattle.std.specs.Prelude.{ℕ, Bool, List, Option}
use Rattle.jv_model.specs.declared.row.Edge.{Edge}
use Rattle.jv_model.specs.declared.row.Session.{Session}
use Rattle.jv_model.specs.promise.rows.RowPlaces.{edge_key, session_key, sustained_key}
use Rattle.jv_volume.specs.promise.TypedRows.{Rows}
use Rattle.jv_volume.specs.promise.Views.{row_at, edge_in, session_in, sustained_in}

abbrev pub edge_at : Rows → ℕ → List ℕ → Option Edge
edge_at rows dir name = edge_in (row_at rows (edge_key dir name))

abbrev pub session_at : Rows → ℕ → Option Session
session_at rows sid = session_in (row_at rows (session_key sid))

-- whether a session keeps a file
abbrev pub sustained_at : Rows → ℕ → ℕ → Bool
sustained_at rows sid inode = sustained_in (row_at rows (sustained_key sid inode))
