use Rattle.std.proofs.Common.{◌≡◌, ◌++◌, ◌∙◌, Some, None, sym, ap, codes, arith, refl, subst}
use Rattle.std.proofs.lemmas.Bool.{false≢true}
use Rattle.jv_model.specs.declared.slice.BlockId.{BlockId}
use Rattle.jv_model.specs.promise.blocks.BlockNames.{IsBlock, IsBlockName}
use Rattle.jv_slices.proofs.NameLaws.{folder_of, name_numbers, none_exactly, folder_is, volume_is, volume_name_is, spelled_from}
use Rattle.jv_slices.proofs.name_parsing.parse_block_name.Goals as goal
use Rattle.jv_slices.proofs.name_parsing.parse_block_name.Goals.{else-is_same-via-then-is_same+else-is_block, else-is_same-via-else-is_same}

pub returns-in_err-front : goal.returns-in_err-front
returns-in_err-front c = λ block.
    let setting = c.args.setting.now in
    let no : IsBlockName setting block c.args.text.now → ⊥ = λ h.
    c.in_err-front.ensures.each (folder_of setting block.id) 47 block refl h.is_block.id_in_range (omega (arith, h.is_block.index)) (omega (arith, h.is_block.size)) (name_numbers setting block c.args.text.now h) in
    none_exactly c.from_residual.result block _ c.from_residual.ensures no

pub returns-in_err-folder : goal.returns-in_err-folder
returns-in_err-folder c = λ block.
    let setting = c.args.setting.now in
    let no : IsBlockName setting block c.args.text.now → ⊥ = λ h.
    let read = c.in_ok-front.ensures.each (folder_of setting block.id) 47 block refl h.is_block.id_in_range (omega (arith, h.is_block.index)) (omega (arith, h.is_block.size)) (name_numbers setting block c.args.text.now h) in
    c.in_err-folder.ensures (folder_of setting block.id) read.0 in
    none_exactly c.from_residual-in_err-folder.result block _ c.from_residual-in_err-folder.ensures no

pub returns-in_err-volume : goal.returns-in_err-volume
returns-in_err-volume c = λ block.
    let setting = c.args.setting.now in
    let no : IsBlockName setting block c.args.text.now → ⊥ = λ h.
    let read = c.in_ok-front.ensures.each (folder_of setting block.id) 47 block refl h.is_block.id_in_range (omega (arith, h.is_block.index)) (omega (arith, h.is_block.size)) (name_numbers setting block c.args.text.now h) in
    let folder = folder_is setting block c.in_ok-front.front.now c.in_ok-folder.folder.now read.0 c.in_ok-folder.ensures in
    c.in_err-volume.ensures (setting.name ++ codes "/chunks/") (folder ∙ ap (λ (b : BlockId). folder_of setting b.id) (sym read.1)) in
    none_exactly c.from_residual-in_err-volume.result block _ c.from_residual-in_err-volume.ensures no

pub returns-in_err-name : goal.returns-in_err-name
returns-in_err-name c = λ block.
    let setting = c.args.setting.now in
    let no : IsBlockName setting block c.args.text.now → ⊥ = λ h.
    let read = c.in_ok-front.ensures.each (folder_of setting block.id) 47 block refl h.is_block.id_in_range (omega (arith, h.is_block.index)) (omega (arith, h.is_block.size)) (name_numbers setting block c.args.text.now h) in
    let folder = folder_is setting block c.in_ok-front.front.now c.in_ok-folder.folder.now read.0 c.in_ok-folder.ensures in
    let own = folder ∙ ap (λ (b : BlockId). folder_of setting b.id) (sym read.1) in
    c.in_err-name.ensures setting.name (volume_is setting c.in_ok-front.block.id c.in_ok-folder.folder.now c.in_ok-volume.volume.now own c.in_ok-volume.ensures) in
    none_exactly c.from_residual-in_err-name.result block _ c.from_residual-in_err-name.ensures no

pub returns-then-is_block : goal.returns-then-is_block
returns-then-is_block c = λ block.
    let setting = c.args.setting.now in
    let found = c.in_ok-front.block in
    let name : c.in_ok-name.name.now ≡ setting.name = c.if-is_same.ensures.0 refl ∙ c.as_slice.ensures in
    let spelled = spelled_from setting found c.args.text.now c.in_ok-front.front.now c.in_ok-folder.folder.now c.in_ok-volume.volume.now c.in_ok-name.name.now c.in_ok-front.ensures.found c.in_ok-folder.ensures c.in_ok-volume.ensures c.in_ok-name.ensures name in
    let is_name : IsBlockName setting found c.args.text.now = record { is_block = c.if-is_block.ensures.0 refl; spelled = spelled } in (
      (λ same. let e : found ≡ block = cc in subst (λ (b : BlockId). IsBlockName setting b c.args.text.now) e is_name),
      (λ h.
          let read = c.in_ok-front.ensures.each (folder_of setting block.id) 47 block refl h.is_block.id_in_range (omega (arith, h.is_block.index)) (omega (arith, h.is_block.size)) (name_numbers setting block c.args.text.now h) in
          ap (λ (b : BlockId). Some b) read.1),
    )

pub returns-else-is_same : goal.returns-else-is_same
returns-else-is_same c = λ block.
    let setting = c.args.setting.now in
    let no : IsBlockName setting block c.args.text.now → ⊥ = λ h.
    let read = c.in_ok-front.ensures.each (folder_of setting block.id) 47 block refl h.is_block.id_in_range (omega (arith, h.is_block.index)) (omega (arith, h.is_block.size)) (name_numbers setting block c.args.text.now h) in
    let folder = folder_is setting block c.in_ok-front.front.now c.in_ok-folder.folder.now read.0 c.in_ok-folder.ensures in
    let own = folder ∙ ap (λ (b : BlockId). folder_of setting b.id) (sym read.1) in
    let volume = volume_is setting c.in_ok-front.block.id c.in_ok-folder.folder.now c.in_ok-volume.volume.now own c.in_ok-volume.ensures in
    let name = volume_name_is setting c.in_ok-volume.volume.now c.in_ok-name.name.now volume c.in_ok-name.ensures in
    elim c.else-is_same.branch [
      | else-is_same-via-then-is_same+else-is_block w ↦
          false≢true (sym w.if-is_block.false ∙ w.is_block.ensures.1 (subst (λ (b : BlockId). IsBlock setting.block b) (sym read.1) h.is_block))
      | else-is_same-via-else-is_same w ↦
          false≢true (sym w.if-is_same.false ∙ c.is_same.ensures.1 (name ∙ sym c.as_slice.ensures))
    ] in
    none_exactly None block _ refl no
