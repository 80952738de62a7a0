-- Laws of steps that leave alone what other clients hold: they follow one another, and views and flights stay.
use Rattle.std.proofs.Common.{◌≡◌, ◌≢◌, ℕ, ◌+◌, ◌/◌, ◌<◌, ◌≤◌, Bool, true, false, cond, List, length, Option, None, Some, refl, sym, subst, ◌∙◌, arith}
use Rattle.std.specs.Prelude.{◌==◌, ◌-◌}
use Rattle.std.specs.List.{AllByRecursion}
use Rattle.std.proofs.lemmas.Bool.{eqb-false}
use Rattle.std.proofs.lemmas.List.Elements.{All-contains, All-from_recursion}
use Rattle.jv_model.specs.declared.setting.Setting.{Setting}
use Rattle.jv_model.specs.declared.slice.Rec.{Rec}
use Rattle.jv_model.specs.declared.slice.Spot.TheVariants.{Zero, Slice}
use Rattle.jv_model.specs.promise.blocks.Slices.{block_at, place_by, stored_place, visible}
use Rattle.jv_model.specs.promise.tree.Tree.{Content, Tree}
use Rattle.jv_slices.proofs.BlockLaws.{index_below}
use Rattle.jv_slices.proofs.PlanLaws.{visible_covers}
use Rattle.jv_volume.specs.promise.TypedRows.{Rows}
use Rattle.jv_volume.specs.promise.Slices.{IsUnknown, next_slice}
use Rattle.jv_volume_bytes.specs.promise.Blocks.{known_by}
use Rattle.jv_volume_bytes.specs.promise.Bytes.{spot_byte}
use Rattle.jv_volume_bytes.specs.Flights.{Flight}
use Rattle.jv_volume_bytes.proofs.BlockLaws.{grows-none, grows-then, there-grows, known-grows, seen_contained}
use Rattle.jv_volume_bytes.proofs.FlightLaws.{flies-still}
use Rattle.jv_volume_bytes.proofs.PlaceLaws.{record_inside}
use Rattle.jv_volume_bytes.proofs.WholeLaws.{all-mapped}
use Rattle.jv_client_shared.specs.promise.Shared.{Known, Shared, depot_in}
use Rattle.jv_client_shared.specs.Shared.{rows_in}
use Rattle.jv_client_shared.specs.Seen.{IsFound, ShowsWindow}
use Rattle.jv_client_shared.specs.Flying.{Flies, IsFlying}
use Rattle.jv_client_shared.specs.Keeping.{Keeps, KeepsShared, Leads}

-- ---- steps

-- nothing has changed
pub keeps-none : (own : ℕ) (rows : Rows) (g : Known) → Keeps own rows rows g g
keeps-none own rows g = record {
  learns = record { blocks = grows-none g.blocks; only = λ b bytes apart there. there; sizes = λ id low. refl };
  numbers = record { next = omega arith; unknown = λ id some apart u. u };
}

-- one step after another, of the same slice
pub keeps-then : (own : ℕ) (rows rows' rows'' : Rows) (g g' g'' : Known)
    → Keeps own rows rows' g g' → Keeps own rows' rows'' g' g'' → Keeps own rows rows'' g g''
keeps-then own rows rows' rows'' g g' g'' k l = record {
  learns = record {
    blocks = grows-then g.blocks g'.blocks g''.blocks k.learns.blocks l.learns.blocks;
    only = λ b bytes apart there. k.learns.only b bytes apart (l.learns.only b bytes apart there);
    sizes = λ id low. l.learns.sizes id (let more = k.numbers.next in omega (arith, low, more)) ∙ k.learns.sizes id low;
  };
  numbers = record {
    next = (let first = k.numbers.next in let second = l.numbers.next in omega (arith, first, second));
    unknown = λ id some apart u. l.numbers.unknown id some apart (k.numbers.unknown id some apart u);
  };
}

module _ (own : ℕ) (rows rows' : Rows) (g g' : Known) (k : Keeps own rows rows' g g') where
  -- ---- views

  pub found-keeps : (block : ℕ) (r : Rec) → IsFound block rows g r → IsFound block rows' g' r
  found-keeps block r found = record {
    record_is = found.record_is;
    numbered = λ named. (let low = found.numbered named in let more = k.numbers.next in omega (arith, low, more));
    sized = λ named. found.sized named ∙ sym (k.learns.sizes r.id (found.numbered named));
    there = λ named index low. there-grows g.blocks g'.blocks (block_at r.id r.size block index) k.learns.blocks (found.there named index low);
  }

  -- what is known of the places of a list stays
  known_keeps : (block : ℕ) → 0 < block → (list : List Rec) → AllByRecursion (IsFound block rows g) list → (place : ℕ)
      → spot_byte (known_by block g'.blocks) (stored_place list place) ≡ spot_byte (known_by block g.blocks) (stored_place list place)
  unfolding stored_place
  known_keeps block some list found place = by_record (visible list place) refl
    where
      of_record : (r : Rec) → IsFound block rows g r → (r.pos ≤ place) × (place < r.pos + r.len) → (zero : Bool) → (r.id == 0) ≡ zero
          → spot_byte (known_by block g'.blocks) (cond zero Zero (Slice r.id r.size (r.off + (place - r.pos))))
          ≡ spot_byte (known_by block g.blocks) (cond zero Zero (Slice r.id r.size (r.off + (place - r.pos))))
      of_record r is covered true z = refl
      of_record r is covered false z =
          let named : r.id ≢ 0 = eqb-false r.id 0 z in
          let within = record_inside r is.record_is named in
          let at : ℕ = r.off + (place - r.pos) in
          let inside : at < r.size = omega (arith, within, covered) in
          known-grows block g.blocks g'.blocks k.learns.blocks r.id r.size at
          (is.there named (at / block) (index_below r.size block at (at / block) some inside (omega arith)))

      by_record : (o : Option Rec) → visible list place ≡ o
          → spot_byte (known_by block g'.blocks) (place_by o place) ≡ spot_byte (known_by block g.blocks) (place_by o place)
      by_record None seen = refl
      by_record (Some r) seen =
          of_record r (All-contains (IsFound block rows g) list r (All-from_recursion (IsFound block rows g) list found) (seen_contained list place r seen))
          (visible_covers list place r seen) (r.id == 0) refl

  -- What a window shows stays.
  pub shows-keeps : (block : ℕ) → 0 < block → (window length : ℕ) (list : List Rec) (content : Content)
      → ShowsWindow block rows g window length list content → ShowsWindow block rows' g' window length list content
  shows-keeps block some window length list content shows = record {
    long = shows.long;
    records = all-mapped (IsFound block rows g) (IsFound block rows' g') (found-keeps block) list shows.records;
    bytes = λ place small low. shows.bytes place small low ∙ sym (known_keeps block some list shows.records place);
  }

  -- ---- flights

  -- a flight of another slice goes on
  pub flying-keeps : (block : ℕ) (f : Flight) → f.id ≢ own → IsFlying block rows g f → IsFlying block rows' g' f
  flying-keeps block f apart flying = record {
    ever = flies-still block rows g.blocks f flying.ever rows' g'.blocks low unknown k.learns.blocks
        (λ b bytes its there. k.learns.only b bytes (λ same. apart (sym its ∙ same)) there);
    size = k.learns.sizes f.id flying.ever.below ∙ flying.size;
  }
    where
      low : f.id < next_slice rows'
      low = (let was = flying.ever.below in let more = k.numbers.next in omega (arith, was, more))

      unknown : IsUnknown rows' f.id
      unknown = k.numbers.unknown f.id flying.ever.some apart flying.ever.unknown

-- ---- what clients share

pub stays-none : (own : ℕ) (g : Known) (v : Shared) → KeepsShared own g g v v
stays-none own g v = record { setting = refl; keeps = keeps-none own (rows_in v) g; direct = grows-none (depot_in v) }

pub stays-then : (own : ℕ) (g g' g'' : Known) (v v' v'' : Shared) → KeepsShared own g g' v v' → KeepsShared own g' g'' v' v'' → KeepsShared own g g'' v v''
stays-then own g g' g'' v v' v'' k l = record {
  setting = l.setting ∙ k.setting;
  keeps = keeps-then own (rows_in v) (rows_in v') (rows_in v'') g g' g'' k.keeps l.keeps;
  direct = grows-then (depot_in v) (depot_in v') (depot_in v'') k.direct l.direct;
}

-- a flight of another slice goes on
pub flies-stay : (own : ℕ) (g g' : Known) (v v' : Shared) → KeepsShared own g g' v v' → (f : Flight) → f.id ≢ own → Flies g v f → Flies g' v' f
flies-stay own g g' v v' k f apart flying =
    subst (λ (x : Setting). IsFlying x.block (rows_in v') g' f) (sym k.setting)
    (flying-keeps own (rows_in v) (rows_in v') g g' k.keeps v.yard.setting.block f apart flying)

-- also where the step is about no slice
pub flies-stay_none : (g g' : Known) (v v' : Shared) → KeepsShared 0 g g' v v' → (f : Flight) → Flies g v f → Flies g' v' f
flies-stay_none g g' v v' k f flying = flies-stay 0 g g' v v' k f (λ none. (let some = flying.ever.some in absurd (omega (arith, some, none)))) flying

-- one step after another
pub leads-then : (own : ℕ) (t' t'' : Tree) (g g' g'' : Known) (v v' v'' : Shared) → Leads own t' g g' v v' → Leads own t'' g' g'' v' v'' → Leads own t'' g g'' v v''
leads-then own t' t'' g g' g'' v v' v'' first second =
    record { store = second.store; kept = stays-then own g g' g'' v v' v'' first.kept second.kept }
