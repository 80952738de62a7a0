use Rattle.std.proofs.Common.{sym, ◌∙◌}
use Rattle.jv_cmd.proofs.runs.ReachedLaws.{TextEnds-from_reads, TextEnds-from_line, TextEnds-silent}
use Rattle.jv_cmd.proofs.lines.run_text.Goals as goal

pub returns-in-Err-clause-ends : goal.returns-in-Err-clause-ends
returns-in-Err-clause-ends g c = TextEnds-from_reads c.args.number c.args.text.now _ c.args.schedule.now
    c.in-Err.ended c.in-Err.ensures

pub returns-in-Ok-clause-ends : goal.returns-in-Ok-clause-ends
returns-in-Ok-clause-ends g c = TextEnds-from_line c.args.number c.args.text.now c.in-Ok.line _ _ c.args.schedule.now
    c.run_line.new.schedule c.run_line.result c.in-Ok.ensures c.run_line.ensures.ends

pub returns-then-is_silent-clause-ends : goal.returns-then-is_silent-clause-ends
returns-then-is_silent-clause-ends g c = TextEnds-silent c.args.number c.args.text.now _ c.args.schedule.now
    (sym c.is_silent.ensures ∙ c.if-is_silent.true)
