use Rattle.std.proofs.Common.{refl, sym, ◌∙◌}
use Rattle.std.specs.Option.{option_copied}
use Rattle.jv_script.specs.Reading.{parts_after}
use Rattle.jv_script.proofs.EscapeLaws.{unescaped_parts}
use Rattle.jv_script.proofs.escapes.first_byte.Goals as goal

pub returns-then-not-is_sound : goal.returns-then-not-is_sound
returns-then-not-is_sound c =
    let parts = unescaped_parts c.args.text.now c.cut.result.0.now (parts_after 37 (option_copied c.cut.result.1)) c.cut.ensures in
    rw (parts, sym c.is_sound.ensures ∙ c.if-not-is_sound.true) refl

pub returns : goal.returns
returns c =
    let parts = unescaped_parts c.args.text.now c.cut.result.0.now (parts_after 37 (option_copied c.cut.result.1)) c.cut.ensures in
    rw (parts, sym c.is_sound.ensures ∙ c.if-not-is_sound.false) c.first_spelled.ensures
