-- What is known of a whole volume: the blocks of the depot and of all clients that staged some, and the sizes of slices with
-- rows. With that it is the volume of its tree, and the volume of a tree is whole.
use Rattle.std.proofs.Common.{◌≡◌, ℕ, ◌<◌, Bool, true, false, inl, inr, List, Option, None, Some, refl, sym, ap, ◌∙◌}
use Rattle.std.specs.Prelude.{◌&&◌, if◌then◌else◌, is_some}
use Rattle.std.specs.Ordering.{eq_by_cmp}
use Rattle.std.specs.Cmp.{eq_by_cmp_equiv}
use Rattle.std.proofs.lemmas.Bool.{and_parts}
use Rattle.jv_model.specs.promise.FiniteMap.{first_where, text_key}
use Rattle.jv_model.proofs.FiniteMapLaws.{IsFound, first_where-found}
use Rattle.jv_model.specs.promise.blocks.BlockNames.{name_in}
use Rattle.jv_outside.specs.promise.Blocks.{staged_at, staged_key}
use Rattle.jv_outside.specs.promise.Objects.{bytes_at}
use Rattle.jv_volume.specs.promise.TypedRows.{typed}
use Rattle.jv_volume.specs.promise.Slices.{next_slice}
use Rattle.jv_volume.proofs.shapes.ShapeMapLaws.{first_where-none, tied_same}
use Rattle.jv_volume_bytes.specs.promise.Blocks.{AreBelow, Blocks, Grows, HasBlocks, known_by}
use Rattle.jv_volume_bytes.specs.promise.Bytes.{tree_with}
use Rattle.jv_model.specs.declared.slice.BlockId.{BlockId}
use Rattle.jv_model.specs.promise.tree.Tree.{Tree}
use Rattle.std.proofs.lemmas.Option.{same_Some}
use Rattle.jv_yard.specs.promise.Contents.{blocks_in}
use Rattle.jv_model.specs.promise.blocks.BlockNames.{is_block}
use Rattle.jv_yard.specs.promise.Staging.{staged_since}
use Rattle.jv_client_shared.specs.promise.Shared.{HasStore, Known, Shared, staged_in}
use Rattle.jv_client_shared.specs.promise.WholeVolume.{IsCopy, WholeVolume}
use Rattle.jv_client_shared.proofs.RowStepLaws.{sized-slices}

module _ (v : Shared) (s : WholeVolume v) where
  -- a client has staged it under this name
  abbrev is_copy : List ℕ → ℕ × List ℕ → List ℕ → Bool
  is_copy name at bytes = eq_by_cmp text_key.cmp at.1 name && is_some (staged_since at.0 at.1 v.yard.staged)

  abbrev bytes_found : Option ((ℕ × List ℕ) × List ℕ) → Option (List ℕ)
  bytes_found None = None
  bytes_found (Some found) = Some found.1

  abbrev either : Option (List ℕ) → Option (List ℕ) → Option (List ℕ)
  either None other = other
  either (Some bytes) other = Some bytes

  -- the depot's, else the first that is staged
  abbrev copy : List ℕ → Option (List ℕ)
  copy name = either (bytes_at name s.objects) (bytes_found (first_where (is_copy name) s.staged))

  abbrev all_blocks : Blocks
  all_blocks b = (if is_block v.yard.setting.block b then copy (name_in v.yard.setting b) else None)

  staged_copy : (name : List ℕ) (found : (ℕ × List ℕ) × List ℕ) → first_where (is_copy name) s.staged ≡ Some found
      → (staged_at found.0.0 name s.staged ≡ Some found.1) × (is_some (staged_since found.0.0 name v.yard.staged) ≡ true)
  staged_copy name found first =
      let is : IsFound (is_copy name) s.staged found.0 found.1 = first_where-found staged_key (is_copy name) s.staged found first in
      let passes = and_parts (eq_by_cmp text_key.cmp found.0.1 name) (is_some (staged_since found.0.0 found.0.1 v.yard.staged)) is.passes in
      let named : found.0.1 ≡ name = tied_same text_key name found.0.1 passes.0 in (
        ap (λ n. staged_at found.0.0 n s.staged) (sym named) ∙ is.there,
        ap (λ n. is_some (staged_since found.0.0 n v.yard.staged)) (sym named) ∙ passes.1,
      )

  -- what the depot has is that
  depot_copies : Grows (blocks_in v.yard.setting s.objects) all_blocks
  depot_copies b bytes there = by_test (is_block v.yard.setting.block b) there
    where
      by_test : (test : Bool) → (if test then bytes_at (name_in v.yard.setting b) s.objects else None) ≡ Some bytes
          → (if test then copy (name_in v.yard.setting b) else None) ≡ Some bytes
      by_test true e = ap (λ o. either o (bytes_found (first_where (is_copy (name_in v.yard.setting b)) s.staged))) e
      by_test false e = absurd (cc)

  -- so is what a client has staged
  client_copies : (client : ℕ) → Grows (staged_in v.yard s.staged client) all_blocks
  client_copies client b bytes there =
      by_tests (is_block v.yard.setting.block b) (is_some (staged_since client (name_in v.yard.setting b) v.yard.staged)) refl refl there
    where
      name : List ℕ
      name = name_in v.yard.setting b

      -- a block's staged copies are those under its name
      as_copy : (at : ℕ) (found : List ℕ) → is_block v.yard.setting.block b ≡ true
          → is_some (staged_since at name v.yard.staged) ≡ true → staged_at at name s.staged ≡ Some found
          → IsCopy (blocks_in v.yard.setting s.objects) (staged_in v.yard s.staged) b found
      as_copy at found passes staged e =
          inr (at, ap (λ test. if test then staged_at at name s.staged else None) (λ i. passes i && staged i) ∙ e)

      by_first : is_block v.yard.setting.block b ≡ true → is_some (staged_since client name v.yard.staged) ≡ true
          → staged_at client name s.staged ≡ Some bytes → (o : Option ((ℕ × List ℕ) × List ℕ)) → first_where (is_copy name) s.staged ≡ o → bytes_found o ≡ Some bytes
      by_first passes staged e None first =
          absurd (first_where-none staged_key (is_copy name) s.staged (client, name) bytes first e
          (λ i. (eq_by_cmp_equiv text_key.total).refl name i && staged i))
      by_first passes staged e (Some found) first =
          let is = staged_copy name found first in
          ap Some (s.alike b found.1 bytes (as_copy found.0.0 found.1 passes is.1 is.0) (as_copy client bytes passes staged e))

      by_object : is_block v.yard.setting.block b ≡ true → is_some (staged_since client name v.yard.staged) ≡ true
          → staged_at client name s.staged ≡ Some bytes → (o : Option (List ℕ)) → bytes_at name s.objects ≡ o → either o (bytes_found (first_where (is_copy name) s.staged)) ≡ Some bytes
      by_object passes staged e None object = by_first passes staged e (first_where (is_copy name) s.staged) refl
      by_object passes staged e (Some other) object =
          ap Some (s.alike b other bytes (inl (ap (λ test. if test then bytes_at name s.objects else None) passes ∙ object))
          (as_copy client bytes passes staged e))

      by_tests : (test staged : Bool) → is_block v.yard.setting.block b ≡ test → is_some (staged_since client name v.yard.staged) ≡ staged
          → (if test && staged then staged_at client name s.staged else None) ≡ Some bytes → (if test then copy name else None) ≡ Some bytes
      by_tests true true passes staged e = by_object passes staged e (bytes_at name s.objects) refl
      by_tests true false passes staged e = absurd (cc)
      by_tests false staged passes is e = absurd (cc)

  -- and no such block is of a slice that is still to get its number
  all_below : AreBelow (typed s.rows) all_blocks
  all_below b bytes there = by_test (is_block v.yard.setting.block b) refl there
    where
      name : List ℕ
      name = name_in v.yard.setting b

      by_first : is_block v.yard.setting.block b ≡ true → (o : Option ((ℕ × List ℕ) × List ℕ)) → first_where (is_copy name) s.staged ≡ o → bytes_found o ≡ Some bytes
          → b.id < next_slice (typed s.rows)
      by_first passes None first e = absurd (cc)
      by_first passes (Some found) first e =
          let is = staged_copy name found first in
          s.staged_below found.0.0 b found.1
          (ap (λ test. if test then staged_at found.0.0 name s.staged else None) (λ i. passes i && is.1 i) ∙ is.0)

      by_object : is_block v.yard.setting.block b ≡ true → (o : Option (List ℕ)) → bytes_at name s.objects ≡ o
          → either o (bytes_found (first_where (is_copy name) s.staged)) ≡ Some bytes → b.id < next_slice (typed s.rows)
      by_object passes None object e = by_first passes (first_where (is_copy name) s.staged) refl e
      by_object passes (Some other) object e =
          s.below b other (ap (λ test. if test then bytes_at name s.objects else None) passes ∙ object)

      by_test : (test : Bool) → is_block v.yard.setting.block b ≡ test → (if test then copy name else None) ≡ Some bytes → b.id < next_slice (typed s.rows)
      by_test true passes e = by_object passes (bytes_at name s.objects) refl e
      by_test false passes e = absurd (cc)

  -- Something is known with which the tree is that of the rows, as long as the depot has each block.
  pub whole-store : HasBlocks v.yard.setting.block (typed s.rows) (blocks_in v.yard.setting s.objects)
      → (g : Known) × HasStore (tree_with (known_by v.yard.setting.block g.blocks) (typed s.rows)) g v
  whole-store direct = (
    record { blocks = all_blocks; sizes = s.whole.slices.sizes },
    record {
      rows = s.rows;
      rows_are = s.rows_are;
      whole = s.whole;
      sized = sized-slices s.whole.slices.sizes (typed s.rows) s.whole.slices (λ id slice there. (s.whole.slices.slice_size id slice there).0);
      setting = s.setting;
      objects = s.objects;
      objects_are = s.objects_are;
      staged = s.staged;
      staged_are = s.staged_are;
      there = s.there;
      copies = depot_copies;
      staged_copies = client_copies;
      kept = s.kept;
      below = all_below;
      tree = refl;
      direct = direct;
    },
  )

-- the volume of a tree is whole
pub store-whole : (t : Tree) (g : Known) (v : Shared) → HasStore t g v → WholeVolume v
store-whole t g v store = record {
  rows = store.rows;
  rows_are = store.rows_are;
  whole = store.whole;
  setting = store.setting;
  objects = store.objects;
  objects_are = store.objects_are;
  staged = store.staged;
  staged_are = store.staged_are;
  there = store.there;
  kept = store.kept;
  alike = λ b first second one two. same_Some first second (sym (known_copy b first one) ∙ known_copy b second two);
  below = λ b bytes is. store.below b bytes (store.copies b bytes is);
  staged_below = λ client b bytes is. store.below b bytes (store.staged_copies client b bytes is);
}
  where
    known_copy : (b : BlockId) (bytes : List ℕ)
        → IsCopy (blocks_in v.yard.setting store.objects) (staged_in v.yard store.staged) b bytes → g.blocks b ≡ Some bytes
    known_copy b bytes (inl object) = store.copies b bytes object
    known_copy b bytes (inr staged) = store.staged_copies staged.0 b bytes staged.1
