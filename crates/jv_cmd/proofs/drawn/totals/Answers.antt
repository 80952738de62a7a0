use Rattle.std.proofs.Common.{◌∙◌, ap, sym}
use Rattle.jv_model.proofs.TestLaws.{none_unless}
use Rattle.jv_script_drawn.specs.promise.Summary.{TotalsValue}
use Rattle.jv_cmd.proofs.drawn_scripts.DrawnLaws.{next_line, totals_answered, totals_from, totals_more, totals_whole}
use Rattle.jv_cmd.proofs.drawn.totals.Goals as goal

pub lines-preserved : goal.lines-preserved
lines-preserved c =
    let inv = c.lines.invariant in
    let next = next_line c.args.seed c.lines.drawn c.next.new.self c.in_ok-line.field-0 c.in-Some.line inv.seed c.in_ok-line.ensures.line
    c.in_ok-line.ensures.given c.in-Some.is in
    record {
      seed = next.0;
      within = c.in_ok-line.ensures.within;
      counts = inv.counts ∙ totals_more c.lines.totals c.args.seed c.lines.drawn.given c.next.new.self.given c.in-Some.line c.lines.rest.now
          c.in-Some-next_answer.answer.now c.in-Some-next_answer.after.now
          next.2 next.1 c.in-Some-next_answer.ensures
          ∙ ap (λ (t : TotalsValue). totals_from t c.args.seed c.next.new.self.given c.in-Some-next_answer.after.now) (sym c.in_ok-count_answer.ensures);
    }

pub returns-in_default-next_answer : goal.returns-in_default-next_answer
returns-in_default-next_answer c =
    sym (c.lines.invariant.counts ∙ totals_answered c.lines.totals c.args.seed c.lines.drawn.given c.lines.rest.now c.in_default-next_answer.ensures)

pub returns : goal.returns
returns c =
    let none = none_unless c.in_ok-line.field-0 c.in_default.not-Some in
    sym (c.lines.invariant.counts
    ∙ totals_whole c.lines.totals c.args.seed c.lines.drawn.given c.lines.rest.now (c.in_ok-line.ensures.end.0 none))
