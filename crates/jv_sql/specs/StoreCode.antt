-- How a store is stored.
use Rattle.std.specs.Prelude.{ℕ, List, Option, refl}
use Rattle.std.specs.Coded.{Coded, code_by, coded×, coded_option, coded_ℕ}
use Rattle.jv_model.specs.promise.rows.RowKeys.{RowMap}
use Rattle.jv_model.specs.rows.RowKeys.{row_map_code}
use Rattle.jv_outside.specs.InMemory.{place_code}
use Rattle.jv_outside.specs.promise.Store.{Store}

abbrev pub store_code : Coded Store
store_code =
    code_by ((Option RowMap × Option (List ℕ)) × ℕ)
    (coded× (coded× (coded_option row_map_code) place_code) coded_ℕ)
    (λ s. ((s.rows, s.opened), s.faults))
    (λ p. record { rows = p.0.0; opened = p.0.1; faults = p.1 }) (λ _. refl)
