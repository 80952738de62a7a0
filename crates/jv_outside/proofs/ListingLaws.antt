-- What a listing finds in a tree.
use Rattle.std.proofs.Common.{◌≡◌, ◌≢◌, ℕ, ◌≤◌, Bool, true, false, ◌&&◌, ◌==◌, List, [], filter, take_while, Option, None, Some, refl, sym, ap, ◌∙◌, eqb-true, ne_eqb, arith}
use Rattle.std.proofs.lemmas.Bool.{eqb-false}
use Rattle.std.specs.declared.cmp.Ordering.{Ordering}
use Rattle.std.specs.declared.cmp.Ordering.TheVariants.{Less, Equal}
use Rattle.std.specs.declared.ops.Bound.TheVariants.{Included, Excluded, Unbounded}
use Rattle.std.specs.Ordering.{is_lt, is_le, nat_cmp, ordering_then}
use Rattle.std.specs.Cmp.{nat_cmp_is}
use Rattle.std.specs.List.Sorted.{IsStrictlySortedBy}
use Rattle.std.specs.Map.{keys_of}
use Rattle.std.specs.Cmp.Lexicographic.{slice_cmp}
use Rattle.std.specs.BTreeMap.Range.{entries_between, range_contains}
use Rattle.std.specs.Prelude.{unwrap_or}
use Rattle.jv_model.proofs.TestLaws.{lt_is, and_true}
use Rattle.jv_outside.specs.promise.Blocks.{staged_cmp}
use Rattle.jv_outside.specs.Objects.{is_later}
use Rattle.jv_outside.specs.StoredBlocks.{key_start}
use Rattle.jv_outside.specs.StoredObjects.{list_start}
use Rattle.jv_outside.proofs.ScanLaws.{front, least_bytes, table_rises}

-- ---- objects after a name

is_from : (last : Option (List ℕ)) (q : List ℕ) → range_contains (slice_cmp nat_cmp) (list_start last) Unbounded q ≡ is_later last q
is_from None q = refl
is_from (Some last) q = and_true _

pub objects-from : {X : Type 0} (last : Option (List ℕ)) (es : List (List ℕ × X))
    → entries_between (slice_cmp nat_cmp) (list_start last) Unbounded es ≡ filter (λ e. is_later last e.0) es
objects-from last es = λ i. filter (λ e. is_from last e.0 i) es

-- ---- blocks of a client after a name

and_where : (a b c : Bool) → (a ≡ true → b ≡ c) → (a && b) ≡ (a && (c && true))
and_where true b c h = h refl ∙ sym (and_true c)
and_where false b c h = refl

lt_le : (o : Ordering) → is_lt o ≡ true → is_le o ≡ true
lt_le o h = ap is_le (lt_is o h)

-- of a client the names decide
of_client : (client : ℕ) (name : List ℕ) (q : ℕ × List ℕ) → (q.0 == client) ≡ true → staged_cmp (client, name) q ≡ slice_cmp nat_cmp name q.1
of_client client name q is =
    let tie : Equal ≡ nat_cmp client q.0 = nat_cmp_is client q.0 Equal (sym (eqb-true q.0 client is)) in
    ap (λ o. ordering_then o (slice_cmp nat_cmp name q.1)) (sym tie)

-- after a key of another client that isn't before the client's, there is none of the client's
client_ends : (client : ℕ) (name : List ℕ) (q y : ℕ × List ℕ) → is_le (staged_cmp (client, name) q) ≡ true → (q.0 == client) ≡ false → staged_cmp q y ≡ Less → (y.0 == client) ≡ false
client_ends client name q y from other less =
    let at_least : client ≤ q.0 = table_rises client q.0 (nat_cmp client q.0) _ refl from in
    let apart : q.0 ≢ client = eqb-false q.0 client other in
    let rises : q.0 ≤ y.0 = table_rises q.0 y.0 (nat_cmp q.0 y.0) _ refl (ap is_le less) in
    let later : y.0 ≢ client = omega arith in
    ne_eqb y.0 client later

pub blocks-from : {X : Type 0} (client : ℕ) (last : Option (List ℕ)) (es : List ((ℕ × List ℕ) × X)) → IsStrictlySortedBy staged_cmp (keys_of es)
    → take_while (λ e. e.0.0 == client)
    (entries_between staged_cmp (key_start (client, unwrap_or last []) last) Unbounded es)
    ≡ filter (λ e. (e.0.0 == client) && is_later last e.0.1) es
blocks-from client None es h =
    front staged_cmp (range_contains staged_cmp (Included (client, [])) Unbounded) (λ q. q.0 == client) (λ q. (q.0 == client) && is_later None q.1)
    (λ q. and_where _ _ _ (λ is. sym (ap is_le (of_client client [] q is) ∙ least_bytes q.1)))
    (λ q y from other less. client_ends client [] q y (sym (and_true _) ∙ from) other less) es h
blocks-from client (Some last) es h =
    front staged_cmp (range_contains staged_cmp (Excluded (client, last)) Unbounded) (λ q. q.0 == client) (λ q. (q.0 == client) && is_later (Some last) q.1)
    (λ q. and_where _ _ _ (λ is. sym (ap is_lt (of_client client last q is))))
    (λ q y from other less. client_ends client last q y (lt_le _ (sym (and_true _) ∙ from)) other less) es h
