-- Finite maps that compute in closed proofs: a list of entries whose keys strictly rise.
use Rattle.std.specs.Prelude.{◌≡◌, ℕ, ◌+◌, Bool, true, false, not, List, [], ◌∷◌, length, filter, Option, None, Some}
use Rattle.std.proofs.Common.{T}
use Rattle.std.specs.declared.cmp.Ordering.{Ordering}
use Rattle.std.specs.declared.cmp.Ordering.TheVariants.{Equal}
use Rattle.std.specs.Ordering.{nat_cmp, eq_by_cmp}
use Rattle.std.specs.Cmp.{IsTotalOrder, nat_cmp_total}
use Rattle.std.specs.Cmp.Lexicographic.{slice_cmp, nat_list_cmp_total}
use Rattle.std.specs.FinMap.{nat_cmp-IsAntisymmetric, slice_cmp-IsAntisymmetric}
use Rattle.std.specs.FinMap.Entries.{put, find, where_key, is_sorted, is_sorted-put, is_sorted-where_key}

-- an order of keys, in which only equal keys tie
pub record KeyOrder (K : Type 0) : Type 0 where
  pub cmp : K → K → Ordering
  pub total : IsTotalOrder cmp
  pub same : (x y : K) → cmp x y ≡ Equal → x ≡ y

abbrev pub number_key : KeyOrder ℕ
number_key = record { cmp = nat_cmp; total = nat_cmp_total; same = nat_cmp-IsAntisymmetric }

abbrev pub text_key : KeyOrder (List ℕ)
text_key =
    record {
      cmp = slice_cmp nat_cmp;
      total = nat_list_cmp_total;
      same = slice_cmp-IsAntisymmetric nat_cmp-IsAntisymmetric;
    }

pub record Map {K : Type 0} (order : KeyOrder K) (X : Type 0) : Type 0 where
  pub list : List (K × X)
  pub sorted : T (is_sorted order.cmp list)

-- a function of key and value added up over entries
abbrev pub total_over : {K X : Type 0} → (K → X → ℕ) → List (K × X) → ℕ
total_over f [] = 0
total_over f (e ∷ es) = f e.0 e.1 + total_over f es

-- the first entry that passes a test
abbrev pub first_passing : {K X : Type 0} → (K → X → Bool) → List (K × X) → Option (K × X)
first_passing test [] = None
first_passing test (e ∷ es) = elim (test e.0 e.1) [ true ↦ Some e | false ↦ first_passing test es ]

module _ {K X : Type 0} {order : KeyOrder K} where
  -- the map without entries
  abbrev pub empty_map : Map order X
  empty_map = record { list = []; sorted = tt }

  -- the value at a key
  unfoldable pub get : Map order X → K → Option X
  get m q = find order.cmp q m.list

  -- with this value at the key
  unfoldable pub insert : Map order X → K → X → Map order X
  insert m k v =
      record {
        list = put order.cmp k v m.list;
        sorted = is_sorted-put order.cmp order.total k v m.list m.sorted;
      }

  -- without an entry at the key
  unfoldable pub remove : Map order X → K → Map order X
  remove m k = record {
    list = where_key order.cmp (λ q. not (eq_by_cmp order.cmp k q)) m.list;
    sorted = is_sorted-where_key order.cmp (λ q. not (eq_by_cmp order.cmp k q)) m.list m.sorted;
  }

  -- the number of entries
  unfoldable pub key_count : Map order X → ℕ
  key_count m = length m.list

  -- the entries whose keys pass a test
  unfoldable pub retain_keys : (K → Bool) → Map order X → Map order X
  retain_keys test m = record {
    list = where_key order.cmp test m.list;
    sorted = is_sorted-where_key order.cmp test m.list m.sorted;
  }

  -- the first entry, in the order of keys, that passes a test
  unfoldable pub first_where : (K → X → Bool) → Map order X → Option (K × X)
  first_where test m = first_passing test m.list

  -- the entries that pass a test, in the order of keys
  unfoldable pub entries_where : (K → X → Bool) → Map order X → List (K × X)
  entries_where test m = filter (λ e. test e.0 e.1) m.list

  -- the entries as a map, where the first of one key stands
  abbrev pub map_of : List (K × X) → Map order X
  map_of [] = empty_map
  map_of (e ∷ es) = insert (map_of es) e.0 e.1

  -- the values added up by a function of key and value
  unfoldable pub sum_over : (K → X → ℕ) → Map order X → ℕ
  sum_over f m = total_over f m.list
