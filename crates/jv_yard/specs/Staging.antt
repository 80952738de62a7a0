-- What only inner contracts cite: of `promise/Staging`.
use Rattle.std.specs.Prelude.{List, slice_get, unwrap_or}
use Rattle.std.specs.Coded.{Coded, coded_list, coded_ℕ}
use Rattle.jv_model.specs.promise.FiniteMap.{empty_map}
use Rattle.jv_model.specs.FiniteMap.{map_code}
use Rattle.jv_yard.specs.promise.Staging.{ClientStaging, Staging}

abbrev pub client_staging_code : Coded ClientStaging
client_staging_code = map_code (coded_list coded_ℕ) coded_ℕ

-- by the clients in a row, from the first on
abbrev pub by_client : List ClientStaging → Staging
by_client clients client = unwrap_or (slice_get clients client) empty_map
