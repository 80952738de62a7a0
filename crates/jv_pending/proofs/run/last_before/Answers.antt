use Rattle.std.proofs.Common.{◌∙◌, ap, sym}
use Rattle.std.specs.Option.{option_map}
use Rattle.jv_pending.proofs.EntryLaws.{between_before}
use Rattle.jv_pending.proofs.run.last_before.Goals as goal
use Rattle.jv_model.specs.promise.Lists.{last_item}
use Rattle.jv_model.proofs.ListLaws.{last_end}

pub returns-in_err-start : goal.returns-in_err-start
returns-in_err-start c =
    let range = c.range.ensures.between tt ∙ between_before c.args.end 0 c.args.runs.now.entries c.requires.file c.requires.rise in
    ap (option_map (λ r. (r.0, r.1.now))) c.from_residual.ensures ∙ ap last_item (sym c.in_err-start.ensures.steps.0 ∙ range)

pub returns : goal.returns
returns c =
    let range = c.range.ensures.between tt ∙ between_before c.args.end 0 c.args.runs.now.entries c.requires.file c.requires.rise in
    sym (last_end c.next_back.new.self (c.in_ok-start.start.now, c.in_ok-start.bytes.now)) ∙ ap last_item (sym c.in_ok-start.ensures.steps ∙ range)
