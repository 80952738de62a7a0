-- The counters of whole rows: they stand there, and so they do once a row of a file with as many pages is put.
use Rattle.std.proofs.Common.{Bool, true, false, ◌≡◌, inl, inr, ℕ, ◌+◌, ◌-◌, ◌<◌, List, Option, None, Some, refl, sym, ap, ◌∙◌, arith, le-leb}
use Rattle.std.specs.Prelude.{◌&&◌, if◌then◌else◌, nat_le, IfSome, ok_or}
use Rattle.std.specs.Option.{option_map}
use Rattle.std.proofs.lemmas.Bool.{and_parts, leb-true, or_right}
use Rattle.jv_model.specs.declared.row.Counters.{Counters}
use Rattle.jv_model.specs.declared.row.Row.{Row}
use Rattle.jv_model.specs.declared.row.Row.TheVariants.{OfCounters}
use Rattle.jv_model.specs.promise.FiniteMap.{KeyOrder, Map, get, insert}
use Rattle.jv_model.specs.promise.rows.RowFields.{long_at, whole}
use Rattle.jv_model.specs.promise.rows.RowGrammar.{is_counters, counters_of, row_of}
use Rattle.jv_model.specs.promise.rows.RowKeys.{RowMap}
use Rattle.jv_model.specs.promise.rows.RowPlaces.{counters_key}
use Rattle.jv_model.specs.promise.tree.Tree.{paged, sum_fits}
use Rattle.jv_model.proofs.FiniteMapLaws.{same_maps}
use Rattle.jv_model.proofs.TestLaws.{then_all}
use Rattle.jv_model.specs.promise.Lists.{is_nil}
use Rattle.jv_volume.specs.promise.TypedRows.{cell_of, typed}
use Rattle.jv_volume.specs.promise.TreeOf.{or_no_counters}
use Rattle.jv_volume.specs.promise.Slices.{next_slice}
use Rattle.jv_volume.specs.promise.Views.{row_in, counters_in, counters_at}
use Rattle.jv_volume.proofs.shapes.ShapeMapLaws.{same_or_apart, get-inserted, get-insert_apart}
use Rattle.jv_volume.proofs.maps.TypedLaws.{get-typed}
use Rattle.jv_data.specs.Resizing.{used_after}

-- a map is the same once what stands at a key is put there
pub put_again : {K X : Type 0} (order : KeyOrder K) (m : Map order X) (k : K) (x : X) → get m k ≡ Some x → insert m k x ≡ m
put_again order m k x there = same_maps (insert m k x) m (λ q. elim (same_or_apart order q k) [
  | inl here ↦ ap (get (insert m k x)) here ∙ get-inserted order m k x ∙ sym (ap (get m) here ∙ there)
  | inr apart ↦ get-insert_apart order m k x q apart
])

-- ---- as many pages

-- used space is the same
pub used-same : (c : Counters) (before after : ℕ) → paged before ≡ paged after → used_after c before after ≡ c.used_space
used-same c before after pages = less_same c.used_space (paged after) (paged before) pages
  where
    less_same : (a b d : ℕ) → d ≡ b → (a + b) - d ≡ a
    less_same a b d e = omega (arith, e)

-- and so are the counters
pub counters-same : (c : Counters) (before after : ℕ) → paged before ≡ paged after → record c { used_space = used_after c before after } ≡ c
counters-same c before after pages = ap (λ (n : ℕ). record c { used_space = n }) (used-same c before after pages)

-- what was there has room
pub fits-same : (limit used : ℕ) → sum_fits limit used used ≡ true
fits-same limit used = or_right (nat_le used limit) (nat_le used used) (le-leb used used (omega arith))

-- ---- the next slice

allowed_next : (c : Counters) → is_counters c ≡ true → 0 < c.slice
allowed_next c h =
    let low = leb-true 1 c.slice (and_parts (nat_le 1 c.inode) (nat_le 1 c.slice) (and_parts (nat_le 1 c.inode && nat_le 1 c.slice) (nat_le 1 c.session) h).0).1 in
    omega (arith, low)

whole_next : (c : Counters) (rest : List ℕ) → IfSome (whole is_counters c rest) (λ c. 0 < c.slice)
whole_next c rest = by_test (is_nil rest && is_counters c) refl
  where
    by_test : (b : Bool) → (is_nil rest && is_counters c) ≡ b → IfSome (if b then Some c else None) (λ c. 0 < c.slice)
    by_test true e = allowed_next c (and_parts (is_nil rest) (is_counters c) e).1
    by_test false e = tt

read_next : (bytes : List ℕ) → IfSome (counters_of bytes) (λ c. 0 < c.slice)
unfolding counters_of
read_next bytes =
    then_all (long_at bytes) _ _ (λ inode. then_all (long_at inode.1) _ _ (λ slice. then_all (long_at slice.1) _ _ (λ session.
    then_all (long_at session.1) _ _ (λ used_space. then_all (long_at used_space.1) _ _ (λ used_inodes. whole_next
    (record { inode = inode.0; slice = slice.0; session = session.0; used_space = used_space.0; used_inodes = used_inodes.0 })
    used_inodes.1)))))

row_next : (bytes : List ℕ) (c : Counters) → row_of counters_key.tab bytes ≡ Some (OfCounters c) → 0 < c.slice
unfolding row_of
row_next bytes c e = by_counters (counters_of bytes) (read_next bytes) e
  where
    by_counters : (o : Option Counters) → IfSome o (λ c. 0 < c.slice) → option_map OfCounters o ≡ Some (OfCounters c) → 0 < c.slice
    by_counters None h e = absurd (cc)
    by_counters (Some read) h e = (let same : read.slice ≡ c.slice = cc in omega (arith, h, same))

-- counters that stand somewhere have a next slice
pub next-given : (rows : RowMap) (c : Counters) → counters_at (typed rows) ≡ Some c → 0 < next_slice (typed rows)
next-given rows c is =
    let low = by_bytes (get rows counters_key) (sym (ap (λ o. counters_in (row_in o)) (get-typed rows counters_key)) ∙ is) in
    let next : next_slice (typed rows) ≡ c.slice = ap (λ o. (or_no_counters o).slice) is in
    omega (arith, low, next)
  where
    by_row : (bytes : List ℕ) (o : Option Row) → row_of counters_key.tab bytes ≡ o → counters_in (row_in (Some (ok_or o bytes))) ≡ Some c → 0 < c.slice
    by_row bytes None e h = absurd (cc)
    by_row bytes (Some (OfCounters read)) e h = row_next bytes c (e ∙ (let same : read ≡ c = cc in ap (λ s. Some (OfCounters s)) same))
    by_row bytes (Some _) e h = absurd (cc)

    by_bytes : (o : Option (List ℕ)) → counters_in (row_in (option_map (cell_of counters_key) o)) ≡ Some c → 0 < c.slice
    by_bytes None h = absurd (cc)
    by_bytes (Some bytes) h = by_row bytes (row_of counters_key.tab bytes) refl h
