-- Laws of blocks: their bytes stay when others are put, each place that a file shows has its block, and what holds of all blocks of
-- slices with rows goes on holding.
use Rattle.std.proofs.Common.{◌≡◌, ◌≢◌, ℕ, ◌+◌, ◌-◌, ◌/◌, ◌%◌, ◌<◌, ◌≤◌, ◌^◌, Bool, true, false, cond, inl, inr, List, [], reverse, Option, None, Some, refl, sym, ap, subst, ◌∙◌, arith}
use Rattle.std.specs.Prelude.{◌==◌, nat_lt, slice_index, unwrap_or, Contains, if◌then◌else◌}
use Rattle.std.proofs.lemmas.Bool.{cases_eq, eq-eqb, eqb-false}
use Rattle.std.proofs.lemmas.List.Elements.{All-from_recursion, All-contains, All-contains_itself}
use Rattle.std.proofs.lemmas.List.Sums.{count_by_more_yes, sum_by-take-le}
use Rattle.jv_model.specs.declared.tables.TheConstants.{TABLE_OF_LISTS}
use Rattle.jv_model.specs.declared.limits.TheConstants.{WINDOW}
use Rattle.jv_model.specs.declared.row.RowKey.{RowKey}
use Rattle.jv_model.specs.declared.row.SliceRow.{SliceRow}
use Rattle.jv_model.specs.declared.slice.Rec.{Rec}
use Rattle.jv_model.specs.declared.slice.Spot.{Spot}
use Rattle.jv_model.specs.declared.slice.Spot.TheVariants.{Zero, Slice}
use Rattle.jv_model.specs.declared.slice.BlockId.{BlockId}
use Rattle.jv_model.specs.promise.FiniteMap.{get, remove, sum_over}
use Rattle.jv_model.specs.promise.rows.RowPlaces.{list_key}
use Rattle.jv_model.specs.promise.blocks.Slices.{IsRecord, covers, visible, place_by, stored_place, block_at}
use Rattle.jv_model.proofs.FiniteMapLaws.{share, sum-remove}
use Rattle.jv_slices.proofs.BlockLaws.{index_below}
use Rattle.jv_slices.proofs.PlanLaws.{found_All, All-reverse, visible_covers, visible_is_record}
use Rattle.jv_volume.specs.promise.TypedRows.{Cell, Rows}
use Rattle.jv_volume.specs.promise.Views.{row_in, records_in, lists_of, slice_row_at}
use Rattle.jv_volume.specs.promise.TreeOf.{tree_of}
use Rattle.jv_volume.specs.promise.Slices.{listed, records_naming, named_by, count_in, slice_count, next_slice, place_in, WholeSlices}
use Rattle.jv_volume_bytes.specs.promise.Bytes.{spot_byte, bytes_of, tree_with}
use Rattle.jv_volume_bytes.specs.promise.Blocks.{Blocks, Grows, IsThere, EachOfSlice, EachBlock, HasBlocks, AreBelow, known_by}
use Rattle.jv_volume_bytes.specs.Blocks.{Carries}
use Rattle.jv_volume_bytes.specs.Counts.{HadSize, KeepsOthers}
use Rattle.jv_volume_bytes.proofs.PlaceLaws.{record_inside}
use Rattle.jv_volume.proofs.stored.FilesLaws.{nothing_shows}

-- ---- blocks that grow

pub grows-none : (blocks : Blocks) → Grows blocks blocks
grows-none blocks b bytes is = is

pub grows-then : (before middle after : Blocks) → Grows before middle → Grows middle after → Grows before after
grows-then before middle after first second b bytes is = second b bytes (first b bytes is)

pub there-grows : (before after : Blocks) (b : BlockId) → Grows before after → IsThere before b → IsThere after b
there-grows before after b grows there = record { bytes = there.bytes; is = grows b there.bytes there.is; long = there.long }

-- the bytes of a block that is there stay
pub known-grows : (block : ℕ) (before after : Blocks) → Grows before after → (id size at : ℕ) → IsThere before (block_at id size block (at / block))
    → known_by block after id size at ≡ known_by block before id size at
known-grows block before after grows id size at there =
    ap (λ o. slice_index (unwrap_or o []) (at % block)) (grows (block_at id size block (at / block)) there.bytes there.is ∙ sym there.is)

-- ---- the places that files show

-- a record that is seen is one of the list
pub seen_contained : (l : List Rec) (q : ℕ) (r : Rec) → visible l q ≡ Some r → Contains l r
seen_contained l q r e = found_All (Contains l) (covers q) (reverse l) r (All-reverse (Contains l) l (All-contains_itself l)) e

-- a list's records name their slices
pub naming_some : (l : List Rec) (r : Rec) → Contains l r → 0 < records_naming r.id l
naming_some l r (k, low, is) =
    let one = count_by_more_yes (λ (x : Rec). x.id == r.id) l k r low (eq-eqb _ _ (ap (λ (x : Rec). x.id) is)) in
    let rest = sum_by-take-le (λ (x : Rec). cond (x.id == r.id) 1 0) l (k + 1) in
    omega (arith, one, rest)

-- and count to what all lists have
pub naming-le : (rows : Rows) (id : ℕ) (key : RowKey) → records_naming id (listed key (get rows key)) ≤ named_by rows id
unfolding named_by
naming-le rows id key = below (get rows key) (sum-remove _ names rows key)
  where
    names : RowKey → Cell → ℕ
    names key cell = records_naming id (listed key (Some cell))

    nothing : (b : Bool) → records_naming id (if b then [] else []) ≡ 0
    nothing true = refl
    nothing false = refl

    below : (o : Option Cell) → sum_over names (remove rows key) + share names key o ≡ sum_over names rows
        → records_naming id (listed key o) ≤ sum_over names rows
    below None e = omega (arith, nothing (key.tab == TABLE_OF_LISTS))
    below (Some cell) e = omega (arith, e)

module _ (rows : Rows) (w : WholeSlices rows) where
  -- a record names a slice with a row, of its size
  pub named_has_row : (key : RowKey) (r : Rec) → Contains (listed key (get rows key)) r → r.id ≢ 0 → HadSize rows r.id r.size
  named_has_row key r has named = by_row (slice_row_at rows r.id) refl
    where
      counted : 0 < slice_count rows r.id
      counted = (let some = naming_some (listed key (get rows key)) r has in let all = naming-le rows r.id key in
          let exact = w.exact r.id (omega (arith, named)) in omega (arith, some, all, exact))

      size_is : r.size ≡ w.sizes r.id
      size_is = All-contains (λ (x : Rec). x.id ≢ 0 → x.size ≡ w.sizes x.id) (listed key (get rows key)) r
          (All-from_recursion (λ (x : Rec). x.id ≢ 0 → x.size ≡ w.sizes x.id) (listed key (get rows key)) (w.sized key)) has named

      by_row : (o : Option SliceRow) → slice_row_at rows r.id ≡ o → HadSize rows r.id r.size
      by_row None e = (let none = ap count_in e in absurd (omega (arith, counted, none)))
      by_row (Some slice) e = record { slice = slice; is = e; size_is = (w.slice_size r.id slice e).0 ∙ sym size_is }

  -- a place that a list shows lies in a slice with a row
  pub shown_has_row : (key : RowKey) (q id size at : ℕ) → stored_place (listed key (get rows key)) q ≡ Slice id size at
      → HadSize rows id size × (at < size)
  unfolding stored_place
  shown_has_row key q id size at e = by_record (visible (listed key (get rows key)) q) refl e
    where
      by_id : (r : Rec) → visible (listed key (get rows key)) q ≡ Some r → (zero : Bool) → (r.id == 0) ≡ zero
          → cond zero Zero (Slice r.id r.size (r.off + (q - r.pos))) ≡ Slice id size at → HadSize rows id size × (at < size)
      by_id r seen true z f = absurd (cc)
      by_id r seen false z f =
          let named : r.id ≢ 0 = eqb-false r.id 0 z in
          let had = named_has_row key r (seen_contained (listed key (get rows key)) q r seen) named in
          let is = visible_is_record (listed key (get rows key)) q r (All-from_recursion IsRecord (listed key (get rows key)) (w.records key)) seen in
          let within = record_inside r is named in
          let covered = visible_covers (listed key (get rows key)) q r seen in
          let same : r.id ≡ id = cc in
          let same_size : r.size ≡ size = cc in
          let same_at : r.off + (q - r.pos) ≡ at = cc in (
            record { slice = had.slice; is = ap (slice_row_at rows) (sym same) ∙ had.is; size_is = had.size_is ∙ same_size },
            omega (arith, within, covered, same_size, same_at),
          )

      by_record : (o : Option Rec) → visible (listed key (get rows key)) q ≡ o → place_by o q ≡ Slice id size at → HadSize rows id size × (at < size)
      by_record None seen f = absurd (cc)
      by_record (Some r) seen f = by_id r seen (r.id == 0) refl f

  -- and so does one that a file shows
  pub place_has_row : (inode p id size at : ℕ) → place_in (lists_of rows inode) p ≡ Slice id size at → HadSize rows id size × (at < size)
  unfolding place_in lists_of
  place_has_row inode p id size at e = by_test (nat_lt (p / WINDOW) (2 ^ 32)) e
    where
      by_test : (b : Bool) → stored_place (if b then records_in (row_in (get rows (list_key inode (p / WINDOW)))) else []) (p % WINDOW) ≡ Slice id size at
          → HadSize rows id size × (at < size)
      by_test true f = shown_has_row (list_key inode (p / WINDOW)) (p % WINDOW) id size at f
      by_test false f = let never : Zero ≡ Slice id size at = sym (nothing_shows (p % WINDOW)) ∙ f in absurd (cc)

  -- the bytes of files stay when blocks are put
  pub bytes-grow : (block : ℕ) (before after : Blocks) → 0 < block → HasBlocks block rows before → Grows before after
      → (inode p : ℕ) → bytes_of (known_by block after) rows inode p ≡ bytes_of (known_by block before) rows inode p
  bytes-grow block before after some has grows inode p = by_spot (place_in (lists_of rows inode) p) refl
    where
      by_spot : (spot : Spot) → place_in (lists_of rows inode) p ≡ spot → spot_byte (known_by block after) spot ≡ spot_byte (known_by block before) spot
      by_spot Zero e = refl
      by_spot (Slice id size at) e =
          let row = place_has_row inode p id size at e in
          known-grows block before after grows id size at (subst (λ n. IsThere before (block_at id n block (at / block))) row.0.size_is
          (has id row.0.slice row.0.is (at / block) (index_below row.0.slice.size block at (at / block) some
          (subst (λ n. at < n) (sym row.0.size_is) row.1) (omega arith))))

  -- and so does the tree
  pub tree-grows : (block : ℕ) (before after : Blocks) → 0 < block → HasBlocks block rows before → Grows before after
      → tree_with (known_by block after) rows ≡ tree_with (known_by block before) rows
  tree-grows block before after some has grows =
      ap (λ (bytes : ℕ → ℕ → ℕ). tree_of bytes rows) (λ i inode p. bytes-grow block before after some has grows inode p i)

  -- the bytes of files stay when blocks of slices without rows come or go
  pub bytes-apart : (block : ℕ) (before after : Blocks) → ((b : BlockId) → slice_row_at rows b.id ≢ None → after b ≡ before b)
      → (inode p : ℕ) → bytes_of (known_by block after) rows inode p ≡ bytes_of (known_by block before) rows inode p
  bytes-apart block before after same inode p = by_spot (place_in (lists_of rows inode) p) refl
    where
      by_spot : (spot : Spot) → place_in (lists_of rows inode) p ≡ spot → spot_byte (known_by block after) spot ≡ spot_byte (known_by block before) spot
      by_spot Zero e = refl
      by_spot (Slice id size at) e =
          let row = place_has_row inode p id size at e in
          ap (λ o. slice_index (unwrap_or o []) (at % block))
          (same (block_at id size block (at / block)) (λ none. (let is = row.0.is in absurd (cc))))

-- ---- what holds of all blocks of slices with rows

module _ (P Q : BlockId → Type 0) (block : ℕ) (rows after : Rows) (carries : Carries P Q after) where
  -- slices stay as they are
  pub each_block-still : ((id : ℕ) → slice_row_at after id ≡ slice_row_at rows id) → EachBlock P block rows → EachBlock Q block after
  each_block-still same each id slice there index low =
      carries (block_at id slice.size block index) (λ none. absurd (cc)) (each id slice (sym (same id) ∙ there) index low)

  -- a transaction on lists, after which it holds of the blocks of its own slice
  pub each_block-on : (own more : ℕ) → KeepsOthers own more rows after
      → ((slice : SliceRow) → slice_row_at after own ≡ Some slice → EachOfSlice Q block own slice.size) → EachBlock P block rows → EachBlock Q block after
  each_block-on own more keeps those each id slice there = elim (cases_eq id own) [
    | inl same ↦ subst (λ n. EachOfSlice Q block n slice.size) (sym same) (those slice (ap (slice_row_at after) (sym same) ∙ there))
    | inr apart ↦
        let had = keeps.had id slice apart there in
        λ index low. carries (block_at id slice.size block index) (λ none. absurd (cc))
        (subst (λ n. EachOfSlice P block id n) had.size_is (each id had.slice had.is) index low)
  ]

-- ---- no block has a number that is still to be given

pub below-rows : (rows after : Rows) (blocks : Blocks) → next_slice rows ≤ next_slice after → AreBelow rows blocks → AreBelow after blocks
below-rows rows after blocks more below b bytes there = (let low = below b bytes there in omega (arith, low, more))
