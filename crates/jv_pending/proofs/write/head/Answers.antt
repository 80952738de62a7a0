use Rattle.std.proofs.Common.{◌-◌, ◌∙◌, ℕ, List, [], take, Option, unwrap_or, ap, sym}
use Rattle.std.proofs.lemmas.List.{take_min}
use Rattle.jv_pending.proofs.TouchedLaws.{take_none}
use Rattle.jv_pending.proofs.write.head.Goals as goal

pub returns : goal.returns
returns c =
    let s = c.as_slice-bytes.result.now in
    let n = c.args.from - c.args.first.from in
    ap (λ m. take m s) c.min.ensures
    ∙ take_min c.saturating_sub-count.result s
    ∙ ap (λ m. take m s) c.saturating_sub-count.ensures
    ∙ ap (take n) c.as_slice-bytes.ensures
    ∙ ap (λ (o : Option (List ℕ)). take n (unwrap_or o [])) c.in-Some.ensures.value

pub returns-in_default : goal.returns-in_default
returns-in_default c =
    let n = c.args.from - c.args.first.from in
    sym (take_none n) ∙ ap (λ (o : Option (List ℕ)). take n (unwrap_or o [])) c.in_default.ensures.value
