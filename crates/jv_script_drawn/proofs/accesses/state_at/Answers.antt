use Rattle.std.proofs.Common.{◌≡◌, ℕ, ◌-◌, suc, ap, ◌∙◌, arith}
use Rattle.jv_script_drawn.specs.declared.accesses.TheConstants.{FILES}
use Rattle.jv_script_drawn.specs.promise.Script.{state}
use Rattle.jv_script_drawn.proofs.ScriptLaws.{state_next}
use Rattle.jv_script_drawn.proofs.accesses.state_at.Goals as goal

pub returns-else-index-le-FILES : goal.returns-else-index-le-FILES
returns-else-index-le-FILES c = λ seed h.
    let step : suc (c.args.index - FILES - 1) ≡ c.args.index - FILES = omega arith in
    c.next_state.ensures ∙ state_next seed (c.args.index - FILES - 1) c.args.before h ∙ ap (λ (k : ℕ). state seed k) step
