use Rattle.std.proofs.Common.{◌∙◌}
use Rattle.jv_model.proofs.TestLaws.{none_unless}
use Rattle.jv_script_drawn.specs.promise.Script.{script}
use Rattle.jv_cmd.proofs.drawn_scripts.DrawnLaws.{next_line, text_more, text_whole}
use Rattle.jv_cmd.proofs.drawn.script_text.Goals as goal

pub lines-preserved : goal.lines-preserved
lines-preserved c =
    let inv = c.lines.invariant in
    let next = next_line c.args.seed c.lines.drawn c.next.new.self c.in_ok-line.field-0 c.in-Some.line inv.seed c.in_ok-line.ensures.line
    c.in_ok-line.ensures.given c.in-Some.is in
    record {
      seed = next.0;
      within = c.in_ok-line.ensures.within;
      text_is = text_more c.lines.text.items c.push_last.new.text.items (script c.args.seed) c.lines.drawn.given c.next.new.self.given
          c.in-Some.line next.2 next.1 inv.text_is c.in_ok-push_last.ensures;
    }

pub returns : goal.returns
returns c =
    let none = none_unless c.in_ok-line.field-0 c.in_default.not-Some in
    c.from_vec.ensures
    ∙ text_whole c.args.seed c.lines.text.items c.lines.drawn.given (c.in_ok-line.ensures.end.0 none) c.lines.invariant.text_is
