-- The blocks of a volume that a depot has after a put, and what is read of them.
use Rattle.std.proofs.Common.{◌≡◌, ◌≢◌, ℕ, ◌^◌, ◌<◌, Bool, true, false, cond, ◌&&◌, if◌then◌else◌, List, Option, None, Some, refl, sym, ap, subst, ◌∙◌, arith}
use Rattle.std.proofs.lemmas.Bool.{ltb-true, leb-true, lt-ltb, le-leb, and_parts}
use Rattle.std.specs.Ordering.{eq_by_cmp}
use Rattle.std.specs.Cmp.{eq_by_cmp_equiv}
use Rattle.std.specs.Option.{option_map}
use Rattle.jv_model.specs.declared.limits.TheConstants.{MAX_BLOCKS}
use Rattle.jv_model.specs.declared.setting.Setting.{Setting}
use Rattle.jv_model.specs.declared.slice.BlockId.{BlockId}
use Rattle.jv_model.specs.promise.blocks.BlockNames.{IsBlock, name_in}
use Rattle.jv_model.specs.blocks.Slices.{is_same_block}
use Rattle.jv_model.specs.promise.FiniteMap.{text_key, get}
use Rattle.jv_model.proofs.FiniteMapLaws.{get-insert}
use Rattle.jv_model.proofs.TestLaws.{tie_is, of_known}
use Rattle.jv_outside.specs.declared.parcel.Parcel.{Parcel}
use Rattle.jv_outside.specs.promise.Objects.{ObjectMap, bytes_at}
use Rattle.jv_outside.specs.Objects.{with_object}
use Rattle.jv_outside.specs.Parcels.{StandsFor}
use Rattle.jv_volume_bytes.specs.promise.Blocks.{Grows}
use Rattle.jv_slices.specs.Laws.{HasWidths}
use Rattle.jv_slices.proofs.NameLaws.{names_are_distinct}
use Rattle.jv_slices.proofs.NeedLaws.{equal_if_same, same_self}
use Rattle.jv_yard.specs.BlockCalls.{IsBlockOf, IsBlockBy, IsPut}
use Rattle.jv_model.specs.promise.blocks.BlockNames.{is_block}
use Rattle.jv_yard.specs.promise.Contents.{blocks_in}
use Rattle.jv_yard.specs.promise.Staging.{staged_since}
use Rattle.jv_yard.specs.promise.YardValue.{YardValue}

-- the test passes exactly for blocks
pub is_block-passes : (size : ℕ) (b : BlockId) → IsBlock size b → is_block size b ≡ true
is_block-passes size b h =
    let id = le-leb 1 b.id h.id in
    let range = lt-ltb b.id (2 ^ 64) h.id_in_range in
    let index = lt-ltb b.index MAX_BLOCKS h.index in
    let some = le-leb 1 b.size h.some in
    let within = le-leb b.size size h.size in
    λ i. id i && range i && index i && some i && within i

pub is_block-says : (size : ℕ) (b : BlockId) → is_block size b ≡ true → IsBlock size b
is_block-says size b h =
    let last = and_parts _ _ h in
    let fourth = and_parts _ _ last.0 in
    let third = and_parts _ _ fourth.0 in
    let second = and_parts _ _ third.0 in
    record {
      id = leb-true 1 b.id second.0;
      id_in_range = ltb-true b.id (2 ^ 64) second.1;
      index = ltb-true b.index MAX_BLOCKS third.1;
      some = leb-true 1 b.size fourth.1;
      size = leb-true b.size size last.1;
    }

widths : (size : ℕ) (b : BlockId) → size < 2 ^ 32 → IsBlock size b → HasWidths b
widths size b small h =
    let low = h.index in
    let within = h.size in
    let index : b.index < 2 ^ 32 = omega arith in
    let long : b.size < 2 ^ 32 = omega arith in
    record { id = h.id_in_range; index = index; size = long }

module _ (setting : Setting) (small : setting.block < 2 ^ 32) where
  -- two blocks of a volume have two names
  pub names-apart : (q b : BlockId) → IsBlock setting.block q → IsBlock setting.block b → q ≢ b → eq_by_cmp text_key.cmp (name_in setting q) (name_in setting b) ≡ false
  names-apart q b is_q is_b apart =
      elim (eq_by_cmp text_key.cmp (name_in setting q) (name_in setting b)) as (λ t. eq_by_cmp text_key.cmp (name_in setting q) (name_in setting b) ≡ t → t ≡ false) [
        | true ↦ λ tied.
            let named : name_in setting q ≡ name_in setting b = text_key.same (name_in setting q) (name_in setting b) (tie_is _ tied) in
            absurd (apart (names_are_distinct setting q b (widths setting.block q small is_q) (widths setting.block b small is_b) named))
        | false ↦ λ _. refl
      ] refl

  module _ (objects : ObjectMap) (b : BlockId) (bytes : List ℕ) (at : ℕ) (is : IsBlock setting.block b) where
    -- the block that was put has its bytes
    pub put-same : blocks_in setting (with_object (name_in setting b) bytes at objects) b ≡ Some bytes
    put-same =
        ap (λ t. if t then bytes_at (name_in setting b) (with_object (name_in setting b) bytes at objects) else None) (is_block-passes setting.block b is)
        ∙ ap (option_map (λ (object : List ℕ × ℕ). object.0)) (get-insert objects (name_in setting b) (bytes, at) (name_in setting b))
        ∙ ap (λ t. option_map (λ (object : List ℕ × ℕ). object.0) (cond t (Some (bytes, at)) (get objects (name_in setting b)))) ((eq_by_cmp_equiv text_key.total).refl (name_in setting b))

    other_by : (q : BlockId) (passes : Bool) → is_block setting.block q ≡ passes → q ≢ b
        → (if passes then bytes_at (name_in setting q) (with_object (name_in setting b) bytes at objects) else None) ≡ (if passes then bytes_at (name_in setting q) objects else None)
    other_by q false passed apart = refl
    other_by q true passed apart =
        ap (option_map (λ (object : List ℕ × ℕ). object.0)) (get-insert objects (name_in setting b) (bytes, at) (name_in setting q))
        ∙ ap (λ t. option_map (λ (object : List ℕ × ℕ). object.0) (cond t (Some (bytes, at)) (get objects (name_in setting q))))
        (names-apart q b (is_block-says setting.block q passed) is apart)

    -- and all others are as before
    pub put-other : (q : BlockId) → q ≢ b → blocks_in setting (with_object (name_in setting b) bytes at objects) q ≡ blocks_in setting objects q
    put-other q apart = other_by q _ refl apart

    grows_at : (q : BlockId) (other : List ℕ) (same : Bool) → is_same_block q b ≡ same → (blocks_in setting objects b ≡ Some other → other ≡ bytes)
        → blocks_in setting objects q ≡ Some other → blocks_in setting (with_object (name_in setting b) bytes at objects) q ≡ Some other
    grows_at q other true same alike there =
        let one : q ≡ b = equal_if_same q b same in
        let own : other ≡ bytes = alike (ap (blocks_in setting objects) (sym one) ∙ there) in
        ap (blocks_in setting (with_object (name_in setting b) bytes at objects)) one ∙ put-same ∙ ap Some (sym own)
    grows_at q other false same alike there =
        let apart : q ≢ b = λ one. let itself : is_same_block q b ≡ true = ap (λ (x : BlockId). is_same_block x b) one ∙ same_self b in absurd (cc) in
        put-other q apart ∙ there

    -- a put of a new block, or of one with the bytes that it has
    pub put-grows : ((other : List ℕ) → blocks_in setting objects b ≡ Some other → other ≡ bytes)
        → Grows (blocks_in setting objects) (blocks_in setting (with_object (name_in setting b) bytes at objects))
    put-grows alike q other there = grows_at q other _ refl (alike other) there

    pub put-grows_new : blocks_in setting objects b ≡ None → Grows (blocks_in setting objects) (blocks_in setting (with_object (name_in setting b) bytes at objects))
    put-grows_new none = put-grows (λ other there. absurd (cc))

-- what a depot has after a put of a parcel that stands for bytes
pub put-objects : (client : ℕ) (parcel : Parcel) (before after : YardValue) (name bytes : List ℕ) (at : ℕ) (objects : ObjectMap)
    → IsPut client parcel before after → StandsFor parcel name bytes at → before.depot.content ≡ Some objects
    → after.depot.content ≡ Some (with_object name bytes at objects)
put-objects client parcel before after name bytes at objects put stands known =
    put.published.content_is bytes stands.carries
    ∙ ap (option_map (with_object parcel.name bytes parcel.at)) known
    ∙ (λ i. Some (with_object (stands.named i) bytes (stands.dated i) objects))

-- what is read of a block that its client hasn't staged
pub read-depot : (yard : YardValue) (objects : ObjectMap) (client : ℕ) (b : BlockId) (value : Option (List ℕ))
    → yard.depot.content ≡ Some objects → IsBlock yard.setting.block b → staged_since client (name_in yard.setting b) yard.staged ≡ None
    → IsBlockOf yard client (name_in yard.setting b) value → value ≡ blocks_in yard.setting objects b
read-depot yard objects client b value known is unstaged read =
    let name = name_in yard.setting b in
    let found = subst (λ since. IsBlockBy since yard client name value) unstaged read in
    of_known (λ some. value ≡ bytes_at name some) yard.depot.content objects known found
    ∙ ap (λ t. if t then bytes_at name objects else None) (sym (is_block-passes yard.setting.block b is))
