-- Steps on a keeper's rows: they lead to the tree of the rows left, and leave alone what other clients hold.
use Rattle.std.proofs.Common.{◌≡◌, ◌≢◌, ℕ, ◌+◌, ◌<◌, ◌⊎◌, Bool, true, false, inl, inr, List, length, Some, refl, sym, ap, subst, ◌∙◌, arith}
use Rattle.std.specs.Prelude.{◌==◌, if◌then◌else◌, Contains}
use Rattle.std.proofs.lemmas.Bool.{cases_eq, eq-eqb, eqb-true}
use Rattle.std.proofs.lemmas.List.Elements.{All-contains_itself, recursion_from_All}
use Rattle.jv_model.specs.declared.row.RowKey.{RowKey}
use Rattle.jv_model.specs.declared.row.SliceRow.{SliceRow}
use Rattle.jv_model.specs.declared.slice.BlockId.{BlockId}
use Rattle.jv_model.specs.declared.slice.Rec.{Rec}
use Rattle.jv_model.specs.promise.FiniteMap.{get}
use Rattle.jv_model.specs.promise.rows.RowKeys.{RowMap}
use Rattle.jv_model.specs.promise.rows.RowPlaces.{counters_key}
use Rattle.jv_model.specs.promise.tree.Tree.{Tree}
use Rattle.jv_outside.specs.promise.Carriage.{Carriage}
use Rattle.jv_outside.specs.promise.Store.{Store}
use Rattle.jv_volume.specs.promise.TypedRows.{Rows, typed}
use Rattle.jv_volume.specs.promise.Views.{row_in, setting_in, setting_at, slice_row_at}
use Rattle.jv_volume.specs.promise.TreeOf.{tree_of}
use Rattle.jv_volume.specs.promise.Slices.{IsUnknown, WholeSlices, listed, next_slice}
use Rattle.jv_volume.specs.Whole.{Quiet, SlicesStay}
use Rattle.jv_volume.specs.promise.Whole.{Whole, no_bytes}
use Rattle.jv_volume.proofs.stored.TreeOfLaws.{setting-tree_of}
use Rattle.jv_volume.proofs.stored.QuietLaws.{slice_row-stay}
use Rattle.jv_volume_bytes.specs.promise.Blocks.{AreBelow, EachBlock, EachOfSlice, HasBlocks, IsThere, known_by}
use Rattle.jv_volume_bytes.specs.promise.Bytes.{KnownBytes, bytes_of, tree_with}
use Rattle.jv_volume_bytes.specs.Counts.{KeepsOthers}
use Rattle.jv_volume_bytes.specs.Flights.{EachPut, Flight, IsComplete}
use Rattle.jv_volume_bytes.proofs.BlockLaws.{below-rows, each_block-on, each_block-still, grows-none, named_has_row}
use Rattle.jv_volume_bytes.proofs.FlightLaws.{flies-new, put-complete}
use Rattle.jv_volume_bytes.proofs.KeepLaws.{below-keeps, bytes-stay, keeps-quiet, stay-counters, unknown-stay}
use Rattle.jv_volume_bytes.proofs.WholeLaws.{all-mapped}
use Rattle.jv_yard.specs.promise.Contents.{blocks_in}
use Rattle.jv_client_shared.specs.promise.Shared.{AreSized, AreStored, HasStore, IsStored, Known, Shared, depot_in, staged_in}
use Rattle.jv_client_shared.specs.Shared.{InStore, typed_in, with_size}
use Rattle.jv_client_shared.specs.Flying.{Flies, IsFlying}
use Rattle.jv_client_shared.specs.Direct.{HasPut}
use Rattle.jv_client_shared.specs.Keeping.{Keeps, KeepsNumbers, KeepsShared, Leads}
use Rattle.jv_client_shared.proofs.StoreLaws.{depot_are, rows_are, stored_are}

-- ---- sizes

-- where slices have the sizes that are known, so do records
pub sized-slices : (sizes : ℕ → ℕ) (rows : Rows) → WholeSlices rows
    → ((id : ℕ) (slice : SliceRow) → slice_row_at rows id ≡ Some slice → slice.size ≡ sizes id) → AreSized sizes rows
sized-slices sizes rows w slices = record {
  records = λ key. all-mapped (Contains (listed key (get rows key))) (λ (r : Rec). r.id ≢ 0 → r.size ≡ sizes r.id)
      (λ r among named. (let row = named_has_row rows w key r among named in sym row.size_is ∙ slices r.id row.slice row.is))
      (listed key (get rows key)) (recursion_from_All (Contains (listed key (get rows key))) (listed key (get rows key)) (All-contains_itself (listed key (get rows key))));
  slices = slices;
}

-- a transaction on lists keeps the sizes of other slices
pub sized-keeps : (sizes : ℕ → ℕ) (own more : ℕ) (rows after : Rows) → WholeSlices after → KeepsOthers own more rows after
    → ((slice : SliceRow) → slice_row_at after own ≡ Some slice → slice.size ≡ sizes own) → AreSized sizes rows → AreSized sizes after
sized-keeps sizes own more rows after w keeps its sized = sized-slices sizes after w (λ id slice there. elim (cases_eq id own) [
  | inl same ↦ its slice (ap (slice_row_at after) (sym same) ∙ there) ∙ ap sizes (sym same)
  | inr apart ↦ (let had = keeps.had id slice apart there in sym had.size_is ∙ sized.slices id had.slice had.is)
])

-- ---- the setting

pub setting_stored : (known_bytes : KnownBytes) (rows : Rows) → Whole rows → setting_at rows ≡ Some (tree_with known_bytes rows).setting
setting_stored known_bytes rows w =
    ap (λ c. setting_in (row_in c)) w.stored.setting
    ∙ ap Some (setting-tree_of no_bytes rows ∙ sym (setting-tree_of (bytes_of known_bytes rows) rows))

module _ (t : Tree) (g : Known) (v : Shared) (s : HasStore t g v) where
  -- rows that are left, with the volume's setting and all blocks
  store_left : (keeper : Store) (carrier : Carriage) (left : RowMap) (sizes : ℕ → ℕ) → keeper.rows ≡ Some left → Whole (typed left) → AreSized sizes (typed left)
      → (tree_with (known_by v.yard.setting.block g.blocks) (typed left)).setting ≡ t.setting
      → AreStored v.yard.setting.block (typed left) (blocks_in v.yard.setting s.objects) (staged_in v.yard s.staged)
      → HasBlocks v.yard.setting.block (typed left) (blocks_in v.yard.setting s.objects) → AreBelow (typed left) g.blocks
      → HasStore (tree_with (known_by v.yard.setting.block g.blocks) (typed left)) (record g { sizes = sizes }) (record v { keeper = keeper; carrier = carrier })
  store_left keeper carrier left sizes is whole sized setting stored has below = record {
    rows = left;
    rows_are = is;
    whole = whole;
    sized = sized;
    setting = setting_stored (known_by v.yard.setting.block g.blocks) (typed left) whole
        ∙ ap Some (setting ∙ ap (λ (x : Tree). x.setting) s.tree)
        ∙ sym (setting_stored (known_by v.yard.setting.block g.blocks) (typed s.rows) s.whole) ∙ s.setting;
    objects = s.objects;
    objects_are = s.objects_are;
    staged = s.staged;
    staged_are = s.staged_are;
    there = stored;
    copies = s.copies;
    staged_copies = s.staged_copies;
    kept = s.kept;
    below = below;
    tree = refl;
    direct = has;
  }

  keeps_left : (keeper : Store) (carrier : Carriage) (left : RowMap) (sizes : ℕ → ℕ) (own : ℕ) → keeper.rows ≡ Some left → KeepsNumbers own (typed s.rows) (typed left)
      → ((id : ℕ) → id < next_slice (typed s.rows) → sizes id ≡ g.sizes id)
      → KeepsShared own g (record g { sizes = sizes }) v (record v { keeper = keeper; carrier = carrier })
  keeps_left keeper carrier left sizes own is numbers same = record {
    setting = refl;
    keeps = subst (λ (rows : Rows). Keeps own rows (typed_in keeper.rows) g (record g { sizes = sizes })) (sym (rows_are t g v s))
        (subst (λ (rows : Rows). Keeps own (typed s.rows) rows g (record g { sizes = sizes })) (sym (ap typed_in is))
        (record {
          learns = record { blocks = grows-none g.blocks; only = λ b bytes apart there. there; sizes = same };
          numbers = numbers;
        }));
    direct = grows-none (depot_in v);
  }

  -- ---- transactions

  -- A transaction on lists leads to the tree of the rows left, where its own slice has its size, and its blocks are stored and in
  -- the depot.
  pub lists-lead : (keeper : Store) (carrier : Carriage) (left : RowMap) (own more : ℕ) → keeper.rows ≡ Some left → Whole (typed left)
      → KeepsOthers own more (typed s.rows) (typed left)
      → ((slice : SliceRow) → slice_row_at (typed left) own ≡ Some slice → (slice.size ≡ g.sizes own)
      × EachOfSlice (InStore v) v.yard.setting.block own slice.size × EachOfSlice (IsThere (depot_in v)) v.yard.setting.block own slice.size)
      → (tree_with (known_by v.yard.setting.block g.blocks) (typed left)).setting ≡ t.setting
      → Leads own (tree_with (known_by v.yard.setting.block g.blocks) (typed left)) g g v (record v { keeper = keeper; carrier = carrier })
  lists-lead keeper carrier left own more is whole keeps its setting = record {
    store = store_left keeper carrier left g.sizes is whole
        (sized-keeps g.sizes own more (typed s.rows) (typed left) whole.slices keeps (λ slice there. (its slice there).0) s.sized)
        setting
        (on (InStore v) (IsStored (blocks_in v.yard.setting s.objects) (staged_in v.yard s.staged)) (stored_are t g v s)
        (λ slice there. (its slice there).1) s.there)
        (on (IsThere (depot_in v)) (IsThere (blocks_in v.yard.setting s.objects)) (ap IsThere (depot_are t g v s))
        (λ slice there. (its slice there).2) s.direct)
        (below-keeps own more (typed s.rows) (typed left) g.blocks keeps s.below);
    kept = keeps_left keeper carrier left g.sizes own is
        (record { next = (let same = keeps.next in omega (arith, same)); unknown = keeps.unknown })
        (λ id low. refl);
  }
    where
      -- what holds of the blocks of its own slice holds of all, as before
      on : (P Q : BlockId → Type 0) → P ≡ Q
          → ((slice : SliceRow) → slice_row_at (typed left) own ≡ Some slice → EachOfSlice P v.yard.setting.block own slice.size)
          → EachBlock Q v.yard.setting.block (typed s.rows) → EachBlock Q v.yard.setting.block (typed left)
      on P Q same those =
          each_block-on Q Q v.yard.setting.block (typed s.rows) (typed left) (λ b row held. held) own more keeps
          (λ slice there. subst (λ (P : BlockId → Type 0). EachOfSlice P v.yard.setting.block own slice.size) same (those slice there))

  -- one that makes no slice
  pub others-lead : (keeper : Store) (carrier : Carriage) (left : RowMap) (more : ℕ) → keeper.rows ≡ Some left → Whole (typed left)
      → KeepsOthers 0 more (typed s.rows) (typed left)
      → (tree_with (known_by v.yard.setting.block g.blocks) (typed left)).setting ≡ t.setting
      → Leads 0 (tree_with (known_by v.yard.setting.block g.blocks) (typed left)) g g v (record v { keeper = keeper; carrier = carrier })
  others-lead keeper carrier left more is whole keeps setting =
      lists-lead keeper carrier left 0 more is whole keeps (λ slice there. (let none = whole.slices.none in absurd (cc))) setting

  -- one on metadata
  pub quiet-leads : (keeper : Store) (carrier : Carriage) (left : RowMap) (own : ℕ) → keeper.rows ≡ Some left → Whole (typed left)
      → Quiet (typed s.rows) (typed left) → (tree_with (known_by v.yard.setting.block g.blocks) (typed left)).setting ≡ t.setting
      → Leads own (tree_with (known_by v.yard.setting.block g.blocks) (typed left)) g g v (record v { keeper = keeper; carrier = carrier })
  quiet-leads keeper carrier left own is whole quiet setting = record {
    store = (others-lead keeper carrier left 0 is whole (keeps-quiet (typed s.rows) (typed left) quiet) setting).store;
    kept = keeps_left keeper carrier left g.sizes own is
        (record {
          next = (let same = quiet.next in omega (arith, same));
          unknown = λ id some apart u. unknown-stay (typed s.rows) (typed left) quiet.apart id u;
        })
        (λ id low. refl);
  }

  -- the commit of a flight whose blocks were all put, and are stored and in the depot
  pub commit-leads : (keeper : Store) (carrier : Carriage) (left : RowMap) (f : Flight) (more : ℕ) → Flies g v f
      → EachPut (InStore v) v.yard.setting.block f → HasPut v.yard.setting.block (depot_in v) f → IsComplete v.yard.setting.block f
      → keeper.rows ≡ Some left → Whole (typed left) → KeepsOthers f.id more (typed s.rows) (typed left)
      → ((slice : SliceRow) → slice_row_at (typed left) f.id ≡ Some slice → slice.size ≡ length f.bytes)
      → (tree_with (known_by v.yard.setting.block g.blocks) (typed left)).setting ≡ t.setting
      → Leads f.id (tree_with (known_by v.yard.setting.block g.blocks) (typed left)) g g v (record v { keeper = keeper; carrier = carrier })
  commit-leads keeper carrier left f more flies stored has complete is whole keeps long setting =
      lists-lead keeper carrier left f.id more is whole keeps
      (λ slice there. (
        long slice there ∙ sym flies.size,
        all (InStore v) stored slice.size (long slice there),
        all (IsThere (depot_in v)) has slice.size (long slice there),
      ))
      setting
    where
      all : (P : BlockId → Type 0) → EachPut P v.yard.setting.block f → (size : ℕ) → size ≡ length f.bytes → EachOfSlice P v.yard.setting.block f.id size
      all P each size long =
          subst (λ n. EachOfSlice P v.yard.setting.block f.id n) (sym long) (put-complete P v.yard.setting.block f each complete)

  -- ---- numbers

  module _ (keeper : Store) (carrier : Carriage) (left : RowMap) (id : ℕ) (is : keeper.rows ≡ Some left) (whole : Whole (typed left)) (some : 0 < id)
      (given : id ≡ next_slice (typed s.rows)) (next : next_slice (typed left) ≡ id + 1) (unknown : IsUnknown (typed left) id)
      (same : (bytes : ℕ → ℕ → ℕ) → tree_of bytes (typed left) ≡ tree_of bytes (typed s.rows))
      (others : (key : RowKey) → (get (typed left) key ≡ get (typed s.rows) key) ⊎ (key ≡ counters_key)) where
    numbered_stay : SlicesStay (typed s.rows) (typed left)
    numbered_stay = stay-counters (typed s.rows) (typed left) others

    numbered_tree : tree_with (known_by v.yard.setting.block g.blocks) (typed left) ≡ t
    numbered_tree =
        same (bytes_of (known_by v.yard.setting.block g.blocks) (typed left))
        ∙ ap (λ (bytes : ℕ → ℕ → ℕ). tree_of bytes (typed s.rows))
        (λ i inode p. bytes-stay (typed s.rows) (typed left) numbered_stay (known_by v.yard.setting.block g.blocks) inode p i)
        ∙ sym s.tree

    -- the sizes of slices that have numbers stay
    numbered_size : (size other : ℕ) → other ≢ id → (with_size id size g).sizes other ≡ g.sizes other
    numbered_size size other apart = by_test (id == other) refl
      where
        by_test : (b : Bool) → (id == other) ≡ b → (if b then size else g.sizes other) ≡ g.sizes other
        by_test true e = absurd (apart (sym (eqb-true id other e)))
        by_test false e = refl

    -- what holds of all blocks of slices with rows
    still : (P : BlockId → Type 0) → EachBlock P v.yard.setting.block (typed s.rows) → EachBlock P v.yard.setting.block (typed left)
    still P =
        each_block-still P P v.yard.setting.block (typed s.rows) (typed left) (λ b row held. held) (slice_row-stay (typed s.rows) (typed left) numbered_stay)

    -- slices that were in flight have other numbers
    pub number-apart : (f : Flight) → Flies g v f → f.id ≢ id
    number-apart f flies own =
        let low = subst (λ (rows : Rows). f.id < next_slice rows) (rows_are t g v s) flies.ever.below in
        absurd (omega (arith, low, own, given))

    -- The giving of a number leads to the same tree, where the slice's size is known.
    pub number-leads : (size own : ℕ) → Leads own t g (with_size id size g) v (record v { keeper = keeper; carrier = carrier })
    number-leads size own = record {
      store = subst (λ (x : Tree). HasStore x (with_size id size g) (record v { keeper = keeper; carrier = carrier })) numbered_tree
          (store_left keeper carrier left (with_size id size g).sizes is whole
          (sized-slices (with_size id size g).sizes (typed left) whole.slices (λ other slice there.
          s.sized.slices other slice (sym (slice_row-stay (typed s.rows) (typed left) numbered_stay other) ∙ there)
          ∙ sym (numbered_size size other (λ new. (let none = unknown.no_row in let row = ap (slice_row_at (typed left)) (sym new) ∙ there in absurd (cc))))))
          (ap (λ (x : Tree). x.setting) numbered_tree)
          (still (IsStored (blocks_in v.yard.setting s.objects) (staged_in v.yard s.staged)) s.there)
          (still (IsThere (blocks_in v.yard.setting s.objects)) s.direct)
          (below-rows (typed s.rows) (typed left) g.blocks (omega (arith, given, next)) s.below));
      kept = keeps_left keeper carrier left (with_size id size g).sizes own is
          (record {
            next = omega (arith, given, next);
            unknown = λ other some apart u. unknown-stay (typed s.rows) (typed left) numbered_stay other u;
          })
          (λ other low. numbered_size size other (λ new. absurd (omega (arith, new, low, given))));
    }

    -- and a slice with this number is in flight, of which nothing is put yet
    pub number-flies : (bytes : List ℕ) → Flies (with_size id (length bytes) g) (record v { keeper = keeper; carrier = carrier }) (record { id = id; bytes = bytes; put = 0 })
    number-flies bytes =
        subst (λ (rows : Rows). IsFlying v.yard.setting.block rows (with_size id (length bytes) g) (record { id = id; bytes = bytes; put = 0 }))
        (sym (ap typed_in is))
        (record {
          ever = flies-new v.yard.setting.block (typed s.rows) (typed left) g.blocks bytes id some (omega (arith, given)) s.below (omega (arith, next)) unknown;
          size = ap (λ b. if b then length bytes else g.sizes id) (eq-eqb id id refl);
        })
