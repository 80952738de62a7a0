-- Laws of the names of blocks.
use Rattle.std.proofs.Common.{◌≡◌, ℕ, List, [], ◌∷◌, ◌++◌, Option, Some, None, refl, sym, ap, ◌∙◌, arith, codes, append_assoc}
use Rattle.std.specs.Prelude.{◌↔◌}
use Rattle.std.specs.Fmt.{decimal}
use Rattle.std.proofs.lemmas.List.{append_cancel_right}
use Rattle.jv_model.specs.declared.setting.Setting.{Setting}
use Rattle.jv_model.specs.declared.slice.BlockId.{BlockId}
use Rattle.jv_model.specs.promise.blocks.BlockNames.{block_name_of, slice_folder, IsBlockName}
use Rattle.jv_slices.specs.NameParts.{numbers_of}
use Rattle.jv_slices.specs.Laws.{NamesAreDistinct}
use Rattle.jv_slices.proofs.NameEndLaws.{number_ends_once, numbers_end, numbers_mid, same_block}

-- where the slice lies in a volume, without the last slash
abbrev pub folder_of : Setting → ℕ → List ℕ
folder_of setting id = setting.name ++ codes "/chunks/" ++ slice_folder setting.hash id

pub name_is : (setting : Setting) (block : BlockId) → block_name_of setting block.id block.index block.size ≡ folder_of setting block.id ++ codes "/" ++ numbers_of block
unfolding block_name_of
name_is setting block = simp append_assoc

-- the text, if it ends in these parts one after the other
pub spelled_from : (setting : Setting) (block : BlockId) (text front folder volume name : List ℕ) → text ≡ front ++ numbers_of block → front ≡ folder ++ codes "/" → folder ≡ volume ++ slice_folder setting.hash block.id → volume ≡ name ++ codes "/chunks/" → name ≡ setting.name → text ≡ block_name_of setting block.id block.index block.size
spelled_from setting block text front folder volume name a b c d e =
    let whole : folder ≡ folder_of setting block.id = c ∙ ap (λ x. x ++ slice_folder setting.hash block.id) (d ∙ ap (λ x. x ++ codes "/chunks/") e) in
    a ∙ ap (λ x. x ++ numbers_of block) (b ∙ ap (λ x. x ++ codes "/") whole) ∙ sym (name_is setting block)

-- the parts of a text that is a name
pub folder_is : (setting : Setting) (block : BlockId) (front folder : List ℕ) → front ≡ folder_of setting block.id ++ codes "/" → front ≡ folder ++ codes "/" → folder ≡ folder_of setting block.id
folder_is setting block front folder a b = append_cancel_right folder (folder_of setting block.id) (codes "/") (sym b ∙ a)

pub volume_is : (setting : Setting) (id : ℕ) (folder volume : List ℕ) → folder ≡ folder_of setting id → folder ≡ volume ++ slice_folder setting.hash id → volume ≡ setting.name ++ codes "/chunks/"
volume_is setting id folder volume a b = append_cancel_right volume (setting.name ++ codes "/chunks/") (slice_folder setting.hash id) (sym b ∙ a)

pub volume_name_is : (setting : Setting) (volume name : List ℕ) → volume ≡ setting.name ++ codes "/chunks/" → volume ≡ name ++ codes "/chunks/" → name ≡ setting.name
volume_name_is setting volume name a b = append_cancel_right name setting.name (codes "/chunks/") (sym b ∙ a)

-- no block, where the text is no name
pub none_exactly : (r : Option BlockId) (block : BlockId) (P : Type 0) → r ≡ None → (P → ⊥) → (r ≡ Some block) ↔ P
none_exactly r block P e never = ((λ some. let contrary : ⊥ = cc in absurd contrary), (λ p. absurd (never p)))

-- the numbers that a name ends in
pub name_numbers : (setting : Setting) (block : BlockId) (text : List ℕ) → IsBlockName setting block text → text ≡ folder_of setting block.id ++ 47 ∷ [] ++ numbers_of block
name_numbers setting block text h = h.spelled ∙ name_is setting block

-- two blocks have two names
pub names_are_distinct : NamesAreDistinct
names_are_distinct setting a b wa wb e =
    let whole : List ℕ = folder_of setting a.id ++ codes "/" in
    let other : List ℕ = folder_of setting b.id ++ codes "/" in
    let front : List ℕ = decimal a.id ++ codes "_" ++ decimal a.index in
    let other_front : List ℕ = decimal b.id ++ codes "_" ++ decimal b.index in
    let same : whole ++ numbers_of a ≡ other ++ numbers_of b = sym (name_is setting a) ∙ e ∙ name_is setting b in
    let ends = numbers_end (whole ++ numbers_of a) whole a refl in
    let other_ends = numbers_end (whole ++ numbers_of a) other b same in
    let sizes = number_ends_once (whole ++ front) (other ++ other_front) 95 95 a.size b.size refl refl (omega (arith, wa.size)) (omega (arith, wb.size)) (sym ends ∙ other_ends) in
    let mids : whole ++ front ≡ other ++ other_front = append_cancel_right (whole ++ front) (other ++ other_front) (95 ∷ []) sizes.0 in
    let mid = numbers_mid (whole ++ front) whole a refl in
    let other_mid = numbers_mid (whole ++ front) other b mids in
    let indexes = number_ends_once (whole ++ decimal a.id) (other ++ decimal b.id) 95 95 a.index b.index refl refl (omega (arith, wa.index)) (omega (arith, wb.index)) (sym mid ∙ other_mid) in
    let heads : whole ++ decimal a.id ≡ other ++ decimal b.id = append_cancel_right (whole ++ decimal a.id) (other ++ decimal b.id) (95 ∷ []) indexes.0 in
    let ids = number_ends_once (folder_of setting a.id) (folder_of setting b.id) 47 47 a.id b.id refl refl wa.id wb.id heads in
    same_block a.id a.index a.size b ids.1 indexes.1 sizes.1
