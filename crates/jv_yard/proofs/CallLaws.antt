-- What a yard's calls keep, and what is read of one whose staged blocks are on its shelf.
use Rattle.std.proofs.Common.{◌≡◌, ◌↔◌, ℕ, ◌≤◌, List, length, Option, None, Some, IsSome, is_some, true, false, refl, sym, ap, subst, ◌∙◌}
use Rattle.jv_model.specs.declared.limits.TheConstants.{LAST_CLIENT}
use Rattle.jv_model.specs.declared.setting.Setting.{Setting}
use Rattle.jv_model.specs.declared.slice.BlockId.{BlockId}
use Rattle.jv_model.specs.promise.blocks.BlockNames.{IsBlock, name_in}
use Rattle.jv_outside.specs.declared.parcel.Parcel.{Parcel}
use Rattle.jv_outside.specs.promise.Holding.{Holding}
use Rattle.jv_outside.specs.promise.Objects.{ObjectMap, bytes_at}
use Rattle.jv_outside.specs.promise.Blocks.{StagedMap, staged_at}
use Rattle.jv_outside.specs.Parcels.{StandsFor}
use Rattle.jv_yard.specs.BlockCalls.{IsBlockOf, IsBlockBy, IsBlockParcel, IsPut}
use Rattle.jv_yard.specs.promise.Staging.{staged_since}
use Rattle.jv_yard.specs.promise.Starting.{IsStarted}
use Rattle.jv_yard.specs.promise.YardValue.{YardValue, KeepsStaged, NamesBlock}
use Rattle.jv_model.proofs.TestLaws.{of_known}

-- a yard that was started
pub KeepsStaged-started : (setting : Setting) (depot : Holding ObjectMap) (shelf : Holding StagedMap) (yard : YardValue) → IsStarted setting depot shelf yard → KeepsStaged yard
KeepsStaged-started setting depot shelf yard h = record {
  names = λ client name low staged. subst (λ (s : Setting). NamesBlock s name) (sym h.setting_is) ((h.staged_are client low).names name staged);
  there = λ blocks known client name low staged.
      of_known _ shelf.content blocks (sym (ap (λ (s : Holding StagedMap). s.content) h.shelf_same) ∙ known) (h.staged_are client low).only name staged;
}

-- a yard with the same setting, shelf and staged blocks
pub KeepsStaged-same : (before after : YardValue) → after.setting ≡ before.setting → after.shelf.content ≡ before.shelf.content → after.staged ≡ before.staged
    → KeepsStaged before → KeepsStaged after
KeepsStaged-same before after setting shelf staged h = record {
  names = λ client name low is.
      subst (λ (s : Setting). NamesBlock s name) (sym setting)
      (h.names client name low (ap (λ all. is_some (staged_since client name all)) (sym staged) ∙ is));
  there = λ blocks known client name low is.
      h.there blocks (sym shelf ∙ known) client name low (ap (λ all. is_some (staged_since client name all)) (sym staged) ∙ is);
}

-- a block that was put
pub KeepsStaged-put : (client : ℕ) (parcel : Parcel) (before after : YardValue) → IsPut client parcel before after → KeepsStaged before → KeepsStaged after
KeepsStaged-put client parcel before after put h =
    KeepsStaged-same before after (ap (λ (y : YardValue). y.setting) put.others) (ap (λ (y : YardValue). y.shelf.content) put.others)
    (ap (λ (y : YardValue). y.staged) put.others) h

module _ (yard : YardValue) (objects : ObjectMap) (blocks : StagedMap) (client : ℕ) (name : List ℕ) (value : Option (List ℕ))
    (depot : yard.depot.content ≡ Some objects) (shelf : yard.shelf.content ≡ Some blocks) where
  none_by : (since : Option ℕ) → staged_since client name yard.staged ≡ since → (IsSome since → IsSome (staged_at client name blocks)) → IsBlockBy since yard client name value
      → (value ≡ None) ↔ ((since ≡ None) × (bytes_at name objects ≡ None))
  none_by None is there read =
      let found : value ≡ bytes_at name objects = of_known (λ some. value ≡ bytes_at name some) yard.depot.content objects depot read in
      ((λ none. (refl, sym found ∙ none)), (λ both. found ∙ both.1))
  none_by (Some at) is there read =
      let found : value ≡ staged_at client name blocks = of_known (λ some. value ≡ staged_at client name some) yard.shelf.content blocks shelf read in
      let some : is_some (staged_at client name blocks) ≡ true = there refl in
      ((λ none. let gone : is_some (staged_at client name blocks) ≡ false = ap is_some (sym found ∙ none) in absurd (cc)), (λ both. absurd (let h = both.0 in cc)))

  -- nothing is read if and only if the block is in neither place
  pub none_in_neither : KeepsStaged yard → client ≤ LAST_CLIENT → IsBlockOf yard client name value → (value ≡ None) ↔ ((staged_since client name yard.staged ≡ None) × (bytes_at name objects ≡ None))
  none_in_neither kept low read = none_by _ refl (λ is. kept.there blocks shelf client name low is) read

-- a parcel that stands for a block and its bytes may be put
pub block_parcel : (setting : Setting) (block : BlockId) (parcel : Parcel) (bytes : List ℕ) (at : ℕ) → IsBlock setting.block block
    → StandsFor parcel (name_in setting block) bytes at → length bytes ≡ block.size → IsBlockParcel setting parcel
block_parcel setting block parcel bytes at is stands long = record {
  block = block;
  named = record { is_block = is; spelled = stands.named };
  bytes = bytes;
  carries = stands.carries;
  long = long;
}
