-- What changes that leave lists and slices alone keep: counts of records, unknown slices, blocks. So do changes on metadata, and the
-- giving of a number.
use Rattle.std.proofs.Common.{◌≡◌, ℕ, ◌+◌, ◌≤◌, ◌<◌, ◌⊎◌, inl, inr, true, false, true≢false, List, [], length, Option, None, Some, refl, sym, ap, ◌∙◌, arith}
use Rattle.jv_model.specs.declared.tables.TheConstants.{TABLE_OF_LISTS, TABLE_OF_SLICES, TABLE_OF_DEAD}
use Rattle.jv_model.specs.declared.row.RowKey.{RowKey}
use Rattle.jv_model.specs.declared.row.SliceRow.{SliceRow}
use Rattle.jv_model.specs.declared.slice.BlockId.{BlockId}
use Rattle.jv_model.specs.promise.FiniteMap.{get}
use Rattle.jv_model.specs.promise.rows.RowPlaces.{counters_key}
use Rattle.jv_volume.specs.promise.TypedRows.{Rows}
use Rattle.jv_volume.specs.promise.Views.{lists_of, slice_row_at}
use Rattle.jv_volume.specs.promise.Slices.{IsUnknown, next_slice}
use Rattle.jv_volume.specs.Whole.{is_of_slices, Quiet, SlicesStay}
use Rattle.jv_volume.proofs.stored.QuietLaws.{sum-stay, named_by-stay, slice_row-stay, dead-stay, lists_of-stay}
use Rattle.jv_volume_bytes.specs.promise.Bytes.{KnownBytes, spot_byte, bytes_of}
use Rattle.jv_volume_bytes.specs.promise.Blocks.{Blocks, Grows, AreBelow}
use Rattle.jv_volume_bytes.specs.Flights.{Flight, InFlight}
use Rattle.jv_volume_bytes.specs.Counts.{HasDied, KeepsOthers}
use Rattle.jv_volume_bytes.specs.promise.Counts.{record_count}
use Rattle.jv_volume_bytes.proofs.PlaceLaws.{place_in-same}
use Rattle.jv_volume_bytes.proofs.FlightLaws.{flies-still}
use Rattle.jv_volume_bytes.proofs.BlockLaws.{below-rows}

-- ---- changes that leave lists and slices

-- the counters' row alone
pub stay-counters : (rows after : Rows) → ((key : RowKey) → (get after key ≡ get rows key) ⊎ (key ≡ counters_key)) → SlicesStay rows after
stay-counters rows after others key is = elim (others key) [
  | inl same ↦ same
  | inr at ↦ absurd (true≢false (sym is ∙ ap (λ (k : RowKey). is_of_slices k.tab) at))
]

-- ---- what they keep

module _ (rows after : Rows) (stay : SlicesStay rows after) where
  pub record_count-stay : record_count after ≡ record_count rows
  unfolding record_count
  record_count-stay = sum-stay rows after stay length refl

  pub unknown-stay : (id : ℕ) → IsUnknown rows id → IsUnknown after id
  unknown-stay id u = record {
    unnamed = named_by-stay rows after stay id ∙ u.unnamed;
    no_row = slice_row-stay rows after stay id ∙ u.no_row;
    not_dead = dead-stay rows after stay id ∙ u.not_dead;
  }

  -- what lists show stays
  pub bytes-stay : (known_bytes : KnownBytes) (inode p : ℕ) → bytes_of known_bytes after inode p ≡ bytes_of known_bytes rows inode p
  bytes-stay known_bytes inode p = ap (spot_byte known_bytes) (place_in-same (lists_of after inode) (lists_of rows inode) (λ w. lists_of-stay rows after stay inode w) p)

  -- and so do flights, also where the next number is a greater one
  pub flies-stay : (block : ℕ) (blocks blocks' : Blocks) (f : Flight) → InFlight block rows blocks f → next_slice rows ≤ next_slice after
      → Grows blocks blocks' → ((b : BlockId) (bytes : List ℕ) → b.id ≡ f.id → blocks' b ≡ Some bytes → blocks b ≡ Some bytes)
      → InFlight block after blocks' f
  flies-stay block blocks blocks' f flies more grows alone =
      flies-still block rows blocks f flies after blocks' (let low = flies.below in omega (arith, low, more)) (unknown-stay f.id flies.unknown) grows alone

  pub keeps-stay : (own more : ℕ) → next_slice after ≡ next_slice rows → KeepsOthers own more rows after
  keeps-stay own more next = record {
    next = next;
    unknown = λ id some apart u. unknown-stay id u;
    had = λ id slice apart there. record { slice = slice; is = sym (slice_row-stay rows after stay id) ∙ there; size_is = refl };
    dies = λ id slice some there gone. (let same = slice_row-stay rows after stay id in absurd (cc));
    dead = λ id dead some there. dead-stay rows after stay id ∙ there;
    records = (let same = record_count-stay in omega (arith, same));
  }

-- the same of a transaction that keeps the next number
pub below-keeps : (own more : ℕ) (rows after : Rows) (blocks : Blocks) → KeepsOthers own more rows after → AreBelow rows blocks → AreBelow after blocks
below-keeps own more rows after blocks keeps below = below-rows rows after blocks (let same = keeps.next in omega (arith, same)) below

-- a change on metadata
pub keeps-quiet : (rows after : Rows) → Quiet rows after → KeepsOthers 0 0 rows after
keeps-quiet rows after q = keeps-stay rows after (λ key is. q.apart key is) 0 0 q.next

pub keeps-stay_then : (own more : ℕ) (rows middle after : Rows) → SlicesStay rows middle → next_slice middle ≡ next_slice rows
    → KeepsOthers own more middle after → KeepsOthers own more rows after
keeps-stay_then own more rows middle after stay next k = record {
  next = k.next ∙ next;
  unknown = λ id some apart u. k.unknown id some apart (unknown-stay rows middle stay id u);
  had = λ id slice apart there.
      (let had = k.had id slice apart there in
      record { slice = had.slice; is = sym (slice_row-stay rows middle stay id) ∙ had.is; size_is = had.size_is });
  dies = λ id slice some there gone. k.dies id slice some (slice_row-stay rows middle stay id ∙ there) gone;
  dead = λ id dead some there. k.dead id dead some (dead-stay rows middle stay id ∙ there);
  records = (let same = record_count-stay rows middle stay in let few = k.records in omega (arith, same, few));
}

-- A transaction on lists, and another one of the same slice or of none, where that slice had no row at first.
pub keeps-then : (own first second : ℕ) (rows middle after : Rows) → slice_row_at rows own ≡ None → KeepsOthers own first rows middle
    → KeepsOthers own second middle after → KeepsOthers own (first + second) rows after
keeps-then own first second rows middle after fresh k l = record {
  next = l.next ∙ k.next;
  unknown = λ id some apart u. l.unknown id some apart (k.unknown id some apart u);
  had = λ id slice apart there.
      (let late = l.had id slice apart there in
      let early = k.had id late.slice apart late.is in
      record { slice = early.slice; is = early.is; size_is = early.size_is ∙ late.size_is });
  dies = λ id slice some there gone. dies id slice some there gone (slice_row_at middle id) refl;
  dead = λ id dead some there. l.dead id dead some (k.dead id dead some there);
  records = (let few = k.records in let more = l.records in omega (arith, few, more));
}
  where
    dies : (id : ℕ) (slice : SliceRow) → 0 < id → slice_row_at rows id ≡ Some slice → slice_row_at after id ≡ None
        → (o : Option SliceRow) → slice_row_at middle id ≡ o → HasDied after id slice.size
    dies id slice some there gone None e =
        let died = k.dies id slice some there e in
        record { dead = died.dead; is = l.dead id died.dead some died.is; size_is = died.size_is }
    dies id slice some there gone (Some kept) e =
        let died = l.dies id kept some e gone in
        let had = k.had id kept (λ same. (let none = ap (slice_row_at rows) same ∙ fresh in absurd (cc))) e in
        let one : had.slice ≡ slice = (let is = had.is in cc) in
        record { dead = died.dead; is = died.is; size_is = died.size_is ∙ sym had.size_is ∙ ap (λ s. s.size) one }
