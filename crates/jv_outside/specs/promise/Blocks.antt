-- What a shelf holds, and what its calls do to that.
use Rattle.std.specs.Prelude.{◌≡◌, ℕ, List, Option}
use Rattle.std.specs.declared.cmp.Ordering.{Ordering}
use Rattle.std.specs.declared.cmp.Ordering.TheVariants.{Equal}
use Rattle.std.specs.Ordering.{nat_cmp, ordering_then}
use Rattle.std.specs.Cmp.{IsTotalOrder, nat_cmp_total, on_total, then_total}
use Rattle.std.specs.Cmp.Lexicographic.{slice_cmp, nat_list_cmp_total}
use Rattle.jv_model.specs.promise.FiniteMap.{KeyOrder, Map, number_key, text_key, get}
use Rattle.jv_model.specs.promise.rows.RowKeys.{both_tie}

-- client and name go by client, then by the name's bytes
abbrev pub staged_cmp : ℕ × List ℕ → ℕ × List ℕ → Ordering
staged_cmp x y = ordering_then (nat_cmp x.0 y.0) (slice_cmp nat_cmp x.1 y.1)

pub staged_cmp_total : IsTotalOrder staged_cmp
staged_cmp_total =
    then_total (on_total (λ (k : ℕ × List ℕ). k.0) nat_cmp_total)
    (on_total (λ (k : ℕ × List ℕ). k.1) nat_list_cmp_total)

-- only equal keys tie
pub staged_cmp_same : (x y : ℕ × List ℕ) → staged_cmp x y ≡ Equal → x ≡ y
staged_cmp_same x y h =
    let ties = both_tie _ _ h in
    let client = number_key.same x.0 y.0 ties.0 in
    let name = text_key.same x.1 y.1 ties.1 in
    λ i. (client i, name i)

abbrev pub staged_key : KeyOrder (ℕ × List ℕ)
staged_key = record { cmp = staged_cmp; total = staged_cmp_total; same = staged_cmp_same }

-- staged blocks: the bytes at each client and name, in the order of the clients, and then of the
-- names' bytes
abbrev pub StagedMap : Type 0
StagedMap = Map staged_key (List ℕ)

-- the bytes that a client has at a name
abbrev pub staged_at : ℕ → List ℕ → StagedMap → Option (List ℕ)
staged_at client name blocks = get blocks (client, name)
