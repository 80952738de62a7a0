-- Laws of what clients share: what a client sees of a store that is a tree's, and what keeps it one.
use Rattle.std.proofs.Common.{◌≡◌, ℕ, ◌<◌, ◌≤◌, Bool, true, false, List, length, Option, None, Some, refl, sym, ap, subst, ◌∙◌, arith}
use Rattle.std.specs.Prelude.{◌&&◌, Contains, if◌then◌else◌, is_some, IsSome}
use Rattle.jv_model.specs.declared.limits.TheConstants.{LAST_CLIENT}
use Rattle.jv_model.specs.declared.setting.Setting.{Setting}
use Rattle.jv_model.specs.declared.slice.BlockId.{BlockId}
use Rattle.jv_model.specs.declared.slice.Rec.{Rec}
use Rattle.jv_model.specs.promise.rows.RowKeys.{RowMap}
use Rattle.jv_model.specs.promise.blocks.Slices.{block_at, block_count}
use Rattle.jv_model.specs.promise.tree.Tree.{Content, Tree, content_at}
use Rattle.jv_model.specs.promise.blocks.BlockNames.{name_in}
use Rattle.jv_outside.specs.promise.Blocks.{staged_at}
use Rattle.jv_outside.specs.promise.Objects.{ObjectMap, bytes_at}
use Rattle.jv_volume.specs.promise.TypedRows.{Rows, typed}
use Rattle.jv_volume.specs.promise.Views.{lists_of}
use Rattle.jv_volume_bytes.specs.promise.Blocks.{Blocks, Grows, HasBlocks, IsThere}
use Rattle.jv_volume_bytes.proofs.BlockLaws.{each_block-still, there-grows}
use Rattle.jv_yard.specs.BlockCalls.{IsBlockBy, IsBlockOf}
use Rattle.jv_yard.specs.promise.Contents.{blocks_in}
use Rattle.jv_model.specs.promise.blocks.BlockNames.{is_block}
use Rattle.jv_yard.specs.promise.Staging.{staged_since}
use Rattle.jv_yard.proofs.ContentsLaws.{is_block-says, read-depot}
use Rattle.jv_client_shared.specs.promise.Shared.{HasStore, InDepot, IsStored, Known, OnShelf, Shared, depot_blocks, depot_in, staged_in}
use Rattle.jv_client_shared.specs.Shared.{InStore, rows_in, staged_blocks, typed_in}
use Rattle.jv_client_shared.specs.Lengths.{IsLength}
use Rattle.jv_client_shared.specs.Seen.{IsView, ShowsWindow}
use Rattle.jv_client_shared.specs.Direct.{HasNamed}
use Rattle.jv_client_shared.specs.Keeping.{KeepsShared}
use Rattle.jv_client_shared.proofs.DirectLaws.{has_named-there, looked_has}
use Rattle.jv_client_shared.proofs.SeenLaws.{looked_shows, named_there}
use Rattle.jv_client_shared.proofs.SettingLaws.{setting_length}
use Rattle.jv_client_shared.proofs.KeepingLaws.{shows-keeps}
use Rattle.jv_model.proofs.TestLaws.{of_known}

-- a block of a depot has the numbers of one
pub present_block : (setting : Setting) (objects : ObjectMap) (b : BlockId) (bytes : List ℕ) → blocks_in setting objects b ≡ Some bytes
    → is_block setting.block b ≡ true
present_block setting objects b bytes is = by_test (is_block setting.block b) refl is
  where
    by_test : (test : Bool) → is_block setting.block b ≡ test → (if test then bytes_at (name_in setting b) objects else None) ≡ Some bytes
        → is_block setting.block b ≡ true
    by_test true e h = e
    by_test false e h = absurd (cc)

-- what is stored stays so where the depot and each client's blocks on the shelf grow
pub stored-grows : (depot depot' : Blocks) (staged staged' : ℕ → Blocks) → Grows depot depot' → ((client : ℕ) → Grows (staged client) (staged' client))
    → (b : BlockId) → IsStored depot staged b → IsStored depot' staged' b
stored-grows depot depot' staged staged' grows more b (InDepot there) = InDepot (there-grows depot depot' b grows there)
stored-grows depot depot' staged staged' grows more b (OnShelf client there) =
    OnShelf client (there-grows (staged client) (staged' client) b (more client) there)

module _ (t : Tree) (g : Known) (v : Shared) (s : HasStore t g v) where
  -- ---- rows, blocks and bytes

  pub rows_are : rows_in v ≡ typed s.rows
  rows_are = ap typed_in s.rows_are

  pub depot_are : depot_in v ≡ blocks_in v.yard.setting s.objects
  depot_are = ap (depot_blocks v.yard.setting) s.objects_are

  pub stored_are : InStore v ≡ IsStored (blocks_in v.yard.setting s.objects) (staged_in v.yard s.staged)
  stored_are i = IsStored (depot_are i) (staged_blocks v.yard (s.staged_are i))

  -- rows that are known are these
  pub rows_known : (rows : RowMap) → v.keeper.rows ≡ Some rows → rows_in v ≡ typed rows
  rows_known rows is = ap typed_in is

  pub block_length : IsLength v.yard.setting.block
  block_length = setting_length s.rows v.yard.setting s.setting

  pub block_some : 0 < v.yard.setting.block
  block_some = (let least = block_length.least in omega (arith, least))

  -- all blocks that are stored are known
  stored_known : (b : BlockId) → IsStored (blocks_in v.yard.setting s.objects) (staged_in v.yard s.staged) b → IsThere g.blocks b
  stored_known b (InDepot there) = there-grows (blocks_in v.yard.setting s.objects) g.blocks b s.copies there
  stored_known b (OnShelf client there) = there-grows (staged_in v.yard s.staged client) g.blocks b (s.staged_copies client) there

  -- so all blocks of slices with rows are
  pub known_has : HasBlocks v.yard.setting.block (typed s.rows) g.blocks
  known_has =
      each_block-still (IsStored (blocks_in v.yard.setting s.objects) (staged_in v.yard s.staged)) (IsThere g.blocks) v.yard.setting.block
      (typed s.rows) (typed s.rows) (λ b row. stored_known b) (λ id. refl) s.there

  -- ---- looks and reads

  -- A look at a window of a file shows its bytes.
  pub look-view : (inode window length : ℕ) (list : List Rec) (content : Content) → content_at t inode ≡ Some content → content.length ≡ length
      → list ≡ lists_of (typed s.rows) inode window → IsView g v window length list content
  look-view inode window length list content is long same =
      subst (λ (rows : Rows). ShowsWindow v.yard.setting.block rows g window length list content) (sym rows_are)
      (subst (λ n. ShowsWindow v.yard.setting.block (typed s.rows) g window n list content) long
      (subst (λ (rs : List Rec). ShowsWindow v.yard.setting.block (typed s.rows) g window content.length rs content) (sym same)
      (looked_shows v.yard.setting.block (typed s.rows) g s.whole.slices s.sized known_has inode window content
      (subst (λ (x : Tree). content_at x inode ≡ Some content) s.tree is))))

  -- and the depot has the blocks that it names
  pub look-has : (inode window : ℕ) (list : List Rec) → list ≡ lists_of (typed s.rows) inode window
      → HasNamed v.yard.setting.block (depot_in v) list
  look-has inode window list same =
      subst (λ (depot : Blocks). HasNamed v.yard.setting.block depot list) (sym depot_are)
      (subst (λ (rs : List Rec). HasNamed v.yard.setting.block (blocks_in v.yard.setting s.objects) rs) (sym same)
      (looked_has (typed s.rows) v.yard.setting.block (blocks_in v.yard.setting s.objects) s.whole.slices s.direct inode window))

  -- What a client reads of a block that is there is known of it: its own staged copy, or the depot's.
  pub block_read : (client : ℕ) (b : BlockId) (value : Option (List ℕ)) → client ≤ LAST_CLIENT → IsThere (depot_in v) b
      → IsBlockOf v.yard client (name_in v.yard.setting b) value → value ≡ g.blocks b
  block_read client b value low there read = by_since (staged_since client (name_in v.yard.setting b) v.yard.staged) refl
    where
      here : blocks_in v.yard.setting s.objects b ≡ Some there.bytes
      here = ap (λ (blocks : Blocks). blocks b) (sym depot_are) ∙ there.is

      passes : is_block v.yard.setting.block b ≡ true
      passes = present_block v.yard.setting s.objects b there.bytes here

      by_copy : IsSome (staged_since client (name_in v.yard.setting b) v.yard.staged) → (o : Option (List ℕ)) → staged_at client (name_in v.yard.setting b) s.staged ≡ o
          → IsSome o → g.blocks b ≡ o
      by_copy staged None e some = absurd (cc)
      by_copy staged (Some bytes) e some =
          s.staged_copies client b bytes
          (ap (λ test. if test then staged_at client (name_in v.yard.setting b) s.staged else None) (λ i. passes i && staged i) ∙ e)

      by_since : (o : Option ℕ) → staged_since client (name_in v.yard.setting b) v.yard.staged ≡ o → value ≡ g.blocks b
      by_since None e =
          read-depot v.yard s.objects client b value s.objects_are (is_block-says v.yard.setting.block b passes) e read
          ∙ here ∙ sym (s.copies b there.bytes here)
      by_since (Some since) e =
          let staged : IsSome (staged_since client (name_in v.yard.setting b) v.yard.staged) = ap is_some e in
          let found : value ≡ staged_at client (name_in v.yard.setting b) s.staged =
          of_known (λ some. value ≡ staged_at client (name_in v.yard.setting b) some) v.yard.shelf.content s.staged s.staged_are
          (subst (λ o. IsBlockBy o v.yard client (name_in v.yard.setting b) value) e read) in
          found ∙ sym (by_copy staged (staged_at client (name_in v.yard.setting b) s.staged) refl
          (s.kept.there s.staged s.staged_are client (name_in v.yard.setting b) low staged))

  -- Of each block that a view's records name, where the depot has them, a client reads the bytes that are known of it, which
  -- have the length that its name says.
  pub named_read : (window length : ℕ) (list : List Rec) (content : Content) → IsView g v window length list content
      → HasNamed v.yard.setting.block (depot_in v) list → (b : BlockId) (r : Rec) → Contains list r → 0 < r.id → b.index < block_count r.size v.yard.setting.block
      → b ≡ block_at r.id r.size v.yard.setting.block b.index
      → (client : ℕ) (value : Option (List ℕ)) → client ≤ LAST_CLIENT → IsBlockOf v.yard client (name_in v.yard.setting b) value
      → (value ≡ g.blocks b) × IsThere g.blocks b
  named_read window length list content view has b r among some below is client value low read =
      let there = has_named-there v.yard.setting.block (depot_in v) list has b r among some is below in (
        block_read client b value low there read,
        named_there v.yard.setting.block (rows_in v) g window length list content view b r among some below is,
      )

  -- ---- what others hold

  module _ (own : ℕ) (g' : Known) (v' : Shared) (k : KeepsShared own g g' v v') where
    -- a view stays
    pub view-stays : (window length : ℕ) (list : List Rec) (content : Content) → IsView g v window length list content → IsView g' v' window length list content
    view-stays window length list content shows =
        subst (λ (x : Setting). ShowsWindow x.block (rows_in v') g' window length list content) (sym k.setting)
        (shows-keeps own (rows_in v) (rows_in v') g g' k.keeps v.yard.setting.block block_some window length list content shows)
