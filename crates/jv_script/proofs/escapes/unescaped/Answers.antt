use Rattle.std.proofs.Common.{arith, ap, ◌∙◌, sym, ◌≡◌, ◌++◌, Some, List, ℕ}
use Rattle.std.specs.List.{flat_map}
use Rattle.std.specs.Option.{option_copied}
use Rattle.std.proofs.lemmas.Grind.{common_steps}
use Rattle.jv_model.specs.promise.script.Grammar.{escape_bytes}
use Rattle.jv_script.specs.Reading.{parts_after}
use Rattle.jv_script.proofs.EscapeLaws.{sound_parts}
use Rattle.jv_script.proofs.escapes.unescaped.Goals as goal

pub loop-rest-init : goal.loop-rest-init
loop-rest-init c =
    let sound = sound_parts c.args.text.now c.cut.result.0.now (parts_after 37 (option_copied c.cut.result.1)) c.cut.ensures c.requires in
    let kept : c.in_ok-bytes.bytes.items ≡ c.cut.result.0.now = grind (arith, common_steps) in
    record { sound = sound.0; whole = sound.1 ∙ ap (λ (front : List ℕ). Some (front ++ flat_map escape_bytes (parts_after 37 (option_copied c.cut.result.1)))) (sym kept) }
