-- What only inner contracts cite: of `promise/rows/RowKeys`.
use Rattle.std.specs.Prelude.{ℕ, List}
use Rattle.std.proofs.Common.{refl}
use Rattle.std.specs.Coded.{Coded, code_by, coded×, coded_list, coded_ℕ}
use Rattle.jv_model.specs.declared.row.RowKey.{RowKey}
use Rattle.jv_model.specs.promise.FiniteMap.{map_of}
use Rattle.jv_model.specs.FiniteMap.{map_code}
use Rattle.jv_model.specs.promise.rows.RowKeys.{RowMap}

-- rows in any order as a map, where the first of one key stands
abbrev pub row_map : List (RowKey × List ℕ) → RowMap
row_map rows = map_of rows

-- a key is stored as its parts
abbrev pub row_key_code : Coded RowKey
row_key_code =
    code_by ((ℕ × ℕ) × List ℕ) (coded× (coded× coded_ℕ coded_ℕ) (coded_list coded_ℕ))
    (λ k. ((k.tab, k.a), k.b)) (λ p. record { tab = p.0.0; a = p.0.1; b = p.1 }) (λ _. refl)

abbrev pub row_map_code : Coded RowMap
row_map_code = map_code row_key_code (coded_list coded_ℕ)
