-- What only inner contracts cite: of `promise/FiniteMap`.
use Rattle.std.specs.Prelude.{◌≡◌, List, Option, None, Some}
use Rattle.std.proofs.Common.{T}
use Rattle.std.specs.Coded.{Coded, coded×, coded_list}
use base.Stored.{coded_via}
use mathlib.Core.HLevel.{Σ_prop_path}
use lib.Dec.{T_prop}
use Rattle.std.specs.FinMap.Entries.{is_sorted}
use Rattle.jv_model.specs.promise.FiniteMap.{KeyOrder, Map, insert, remove}

module _ {K X : Type 0} {order : KeyOrder K} where
  -- with this value at the key, or without an entry there
  abbrev pub alter : Map order X → K → Option X → Map order X
  alter m k None = remove m k
  alter m k (Some v) = insert m k v

  -- maps with the same entries are the same
  pub maps_of_entries : (m n : Map order X) → m.list ≡ n.list → m ≡ n
  maps_of_entries m n e =
      let pairs : ◌≡◌ {A = (es : List (K × X)) × T (is_sorted order.cmp es)} (m.list, m.sorted)
      (n.list, n.sorted) =
      Σ_prop_path (λ es. T_prop _) e in
      λ i. record { list = (pairs i).0; sorted = (pairs i).1 }

  -- a map is stored as its entries
  abbrev pub map_code : Coded K → Coded X → Coded (Map order X)
  map_code key value = coded_via (coded_list (coded× key value)) (λ m. m.list) maps_of_entries
