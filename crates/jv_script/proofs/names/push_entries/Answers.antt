use Rattle.std.proofs.Common.{arith, ap, ◌∙◌}
use Rattle.std.proofs.lemmas.Grind.{common_steps}
use Rattle.jv_model.specs.promise.script.ReplyText.{entries_text}
use Rattle.jv_script.proofs.EntryLaws.{entries_text_cons, entries_text_empty}
use Rattle.jv_script.proofs.names.push_entries.Goals as goal

pub returns-in_default : goal.returns-in_default
returns-in_default c =
    let dash = entries_text_empty c.args.entries.now c.in_default.ensures.cases in
    rw dash (grind (arith, common_steps))

pub returns : goal.returns
returns c =
    let cut = ap entries_text c.in-Some.ensures.cases.0 ∙ entries_text_cons c.in-Some.first.now c.in-Some.others.now in
    rw cut (grind (arith, common_steps))
