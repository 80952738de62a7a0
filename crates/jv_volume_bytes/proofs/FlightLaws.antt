-- Laws of slices in flight, and the bytes that the blocks of a whole one have.
use Rattle.std.proofs.Common.{◌≡◌, ◌≢◌, ℕ, ◌+◌, ◌*◌, ◌/◌, ◌%◌, ◌<◌, ◌≤◌, ◌⊎◌, inl, inr, List, [], length, take, drop, Option, None, Some, refl, sym, ap, subst, ◌∙◌, arith}
use Rattle.std.specs.Prelude.{slice_index, unwrap_or}
use Rattle.std.proofs.lemmas.List.{get_or-take, get_or-drop}
use Rattle.std.proofs.lemmas.Bool.{cases_eq, cases_lt}
use Rattle.std.proofs.lemmas.Nat.{div-add-mod', mod_below}
use Rattle.jv_model.specs.declared.slice.Rec.{Rec}
use Rattle.jv_model.specs.declared.slice.BlockId.{BlockId}
use Rattle.jv_model.specs.promise.blocks.Slices.{shown}
use Rattle.jv_slices.proofs.BlockLaws.{index_below}
use Rattle.jv_volume.specs.promise.TypedRows.{Rows}
use Rattle.jv_volume.specs.promise.Slices.{IsUnknown, next_slice}
use Rattle.jv_volume_bytes.specs.promise.Bytes.{spot_byte}
use Rattle.jv_volume_bytes.specs.Counts.{KeepsOthers}
use Rattle.jv_volume_bytes.specs.promise.Blocks.{Blocks, Grows, EachOfSlice, AreBelow, known_by}
use Rattle.jv_volume_bytes.specs.Blocks.{IsPut}
use Rattle.jv_volume_bytes.specs.Flights.{Flight, EachPut, InFlight, IsComplete, flight_block, flight_bytes}
use Rattle.jv_volume_bytes.proofs.ByteLaws.{shown-slice}

-- the byte of a part
part_byte : (bytes : List ℕ) (block index place : ℕ) → place < block
    → slice_index (take block (drop (index * block) bytes)) place ≡ slice_index bytes (index * block + place)
part_byte bytes block index place low = get_or-take block (drop (index * block) bytes) place 0 low ∙ get_or-drop (index * block) bytes place 0

module _ (P : BlockId → Type 0) (block : ℕ) (f : Flight) (each : EachPut P block f) where
  -- what holds of the blocks that were put holds of one more
  pub put-more : P (flight_block block f f.put) → EachPut P block (record f { put = f.put + 1 })
  put-more next index low = elim (cases_lt index f.put) [
    | inl early ↦ each index early
    | inr late ↦ subst (λ n. P (flight_block block f n)) (omega (arith, low, late)) next
  ]

  -- and of all blocks of a complete flight
  pub put-complete : IsComplete block f → EachOfSlice P block f.id (length f.bytes)
  put-complete complete index low = each index (omega (arith, complete, low))

module _ (block : ℕ) (rows : Rows) (blocks : Blocks) (f : Flight) (flies : InFlight block rows blocks f) where
  module _ (complete : IsComplete block f) (some : 0 < block) where
    -- all blocks of a complete flight have its bytes
    pub complete-known : (k : ℕ) → k < length f.bytes → known_by block blocks f.id (length f.bytes) k ≡ slice_index f.bytes k
    complete-known k low =
        ap (λ o. slice_index (unwrap_or o []) (k % block)) (flies.those (k / block) put)
        ∙ part_byte f.bytes block (k / block) (k % block) (mod_below k block some) ∙ ap (slice_index f.bytes) (div-add-mod' k block)
      where
        put : k / block < f.put
        put = subst (λ n. k / block < n) (sym complete) (index_below (length f.bytes) block k (k / block) some low (omega arith))

    -- so a record of a part of it shows those
    pub complete-shows : (r : Rec) → r.id ≡ f.id → r.size ≡ length f.bytes → r.off + r.len ≤ length f.bytes
        → (n : ℕ) → n < r.len → spot_byte (known_by block blocks) (shown r n) ≡ slice_index f.bytes (r.off + n)
    complete-shows r own long inside n low =
        ap (spot_byte (known_by block blocks)) (shown-slice r n (λ none. (let some = flies.some in absurd (omega (arith, some, own, none)))))
        ∙ (λ i. known_by block blocks (own i) (long i) (r.off + n)) ∙ complete-known (r.off + n) (omega (arith, low, inside))

    -- and a record of the whole shows all of them
    pub complete-shown : (r : Rec) → r.id ≡ f.id → r.size ≡ length f.bytes → r.off ≡ 0 → r.len ≡ length f.bytes
        → (n : ℕ) → n < r.len → spot_byte (known_by block blocks) (shown r n) ≡ slice_index f.bytes n
    complete-shown r own long first whole n low =
        complete-shows r own long (omega (arith, first, whole)) n low ∙ ap (slice_index f.bytes) (omega (arith, first))

  -- ---- what keeps it in flight

  -- the rows change, and blocks of other slices are put
  pub flies-still : (after : Rows) (blocks' : Blocks) → f.id < next_slice after → IsUnknown after f.id → Grows blocks blocks'
      → ((b : BlockId) (bytes : List ℕ) → b.id ≡ f.id → blocks' b ≡ Some bytes → blocks b ≡ Some bytes) → InFlight block after blocks' f
  flies-still after blocks' below unknown grows alone = record {
    some = flies.some;
    below = below;
    unknown = unknown;
    those = λ index low. grows (flight_block block f index) (flight_bytes block f index) (flies.those index low);
    only = λ b bytes own there. flies.only b bytes own (alone b bytes own there);
  }

  -- a transaction on lists that isn't its own
  pub flies-on : (own more : ℕ) (after : Rows) (blocks' : Blocks) → KeepsOthers own more rows after → f.id ≢ own → Grows blocks blocks'
      → ((b : BlockId) (bytes : List ℕ) → b.id ≡ f.id → blocks' b ≡ Some bytes → blocks b ≡ Some bytes) → InFlight block after blocks' f
  flies-on own more after blocks' keeps apart grows alone =
      flies-still after blocks' (subst (λ n. f.id < n) (sym keeps.next) flies.below) (keeps.unknown f.id flies.some apart flies.unknown) grows alone

  -- its next block is put
  pub flies-put : (blocks' : Blocks) → Grows blocks blocks' → blocks' (flight_block block f f.put) ≡ Some (flight_bytes block f f.put)
      → ((b : BlockId) (bytes : List ℕ) → b.id ≡ f.id → blocks' b ≡ Some bytes → (blocks b ≡ Some bytes) ⊎ (b ≡ flight_block block f f.put))
      → InFlight block rows blocks' (record f { put = f.put + 1 })
  flies-put blocks' grows there alone = record {
    some = flies.some;
    below = flies.below;
    unknown = flies.unknown;
    those = λ index low. elim (cases_lt index f.put) [
      | inl early ↦ grows (flight_block block f index) (flight_bytes block f index) (flies.those index early)
      | inr late ↦ subst (λ n. blocks' (flight_block block f n) ≡ Some (flight_bytes block f n)) (omega (arith, low, late)) there
    ];
    only = λ b bytes own here. elim (alone b bytes own here) [
      | inl was ↦ let old = flies.only b bytes own was in (old.0, omega (arith, old.1), old.2)
      | inr is ↦ (f.put, omega arith, is)
    ];
  }

-- a slice with a new number, of which nothing is put yet
pub flies-new : (block : ℕ) (rows after : Rows) (blocks : Blocks) (bytes : List ℕ) (id : ℕ) → 0 < id → next_slice rows ≤ id → AreBelow rows blocks
    → id < next_slice after → IsUnknown after id → InFlight block after blocks (record { id = id; bytes = bytes; put = 0 })
flies-new block rows after blocks bytes id some fresh below low unknown = record {
  some = some;
  below = low;
  unknown = unknown;
  those = λ index none. absurd (omega (arith, none));
  only = λ b bytes own there. let less = below b bytes there in absurd (omega (arith, less, own, fresh));
}

-- ---- the put of one block

-- two blocks are one, or apart
pub same_block : (a b : BlockId) → (a ≡ b) ⊎ (a ≢ b)
same_block a b = elim (cases_eq a.id b.id) [
  | inr apart ↦ inr (λ e. apart (ap (λ (x : BlockId). x.id) e))
  | inl ids ↦ elim (cases_eq a.index b.index) [
    | inr apart ↦ inr (λ e. apart (ap (λ (x : BlockId). x.index) e))
    | inl indexes ↦ elim (cases_eq a.size b.size) [
      | inr apart ↦ inr (λ e. apart (ap (λ (x : BlockId). x.size) e))
      | inl sizes ↦ inl (λ i. record { id = ids i; index = indexes i; size = sizes i })
    ]
  ]
]

module _ (b : BlockId) (bytes : List ℕ) (blocks blocks' : Blocks) (put : IsPut b bytes blocks blocks') where
  -- what is there after it was put, or was there
  pub put_or_was : (other : BlockId) (its : List ℕ) → blocks' other ≡ Some its → (blocks other ≡ Some its) ⊎ (other ≡ b)
  put_or_was other its there = elim (same_block other b) [
    | inl same ↦ inr same
    | inr apart ↦ inl (sym (put.others other apart) ∙ there)
  ]

  -- blocks grow by one that wasn't there
  pub put-grows : blocks b ≡ None → Grows blocks blocks'
  put-grows fresh other its there = put.others other (λ same. (let none = ap blocks same ∙ fresh in absurd (cc))) ∙ there

  -- a flight of another slice goes on
  pub put-flies : (block : ℕ) (rows : Rows) (f : Flight) → InFlight block rows blocks f → blocks b ≡ None → f.id ≢ b.id → InFlight block rows blocks' f
  put-flies block rows f flies fresh apart =
      flies-still block rows blocks f flies rows blocks' flies.below flies.unknown (put-grows fresh)
      (λ other its own there. elim (put_or_was other its there) [
        | inl was ↦ was
        | inr same ↦ absurd (apart (sym own ∙ ap (λ (x : BlockId). x.id) same))
      ])

  -- no block of a number that is still to be given is there
  pub put-below : (rows : Rows) → b.id < next_slice rows → AreBelow rows blocks → AreBelow rows blocks'
  put-below rows low below other its there = elim (put_or_was other its there) [
    | inl was ↦ below other its was
    | inr same ↦ subst (λ (x : BlockId). x.id < next_slice rows) (sym same) low
  ]

module _ (block : ℕ) (rows : Rows) (blocks : Blocks) (f : Flight) (flies : InFlight block rows blocks f) where
  -- the next block of a flight isn't there yet
  pub next_block-free : blocks (flight_block block f f.put) ≡ None
  next_block-free = by_bytes (blocks (flight_block block f f.put)) refl
    where
      by_bytes : (o : Option (List ℕ)) → blocks (flight_block block f f.put) ≡ o → blocks (flight_block block f f.put) ≡ None
      by_bytes None e = e
      by_bytes (Some bytes) e =
          let old = flies.only (flight_block block f f.put) bytes refl e in
          let same : f.put ≡ old.0 = ap (λ (x : BlockId). x.index) old.2 in
          absurd (omega (arith, same, old.1))

  -- its put
  pub put-next : (blocks' : Blocks) → IsPut (flight_block block f f.put) (flight_bytes block f f.put) blocks blocks'
      → InFlight block rows blocks' (record f { put = f.put + 1 })
  put-next blocks' put =
      flies-put block rows blocks f flies blocks'
      (put-grows (flight_block block f f.put) (flight_bytes block f f.put) blocks blocks' put next_block-free) put.here
      (λ b bytes own there. put_or_was (flight_block block f f.put) (flight_bytes block f f.put) blocks blocks' put b bytes there)
