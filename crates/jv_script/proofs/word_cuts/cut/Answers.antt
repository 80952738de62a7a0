use Rattle.jv_script.proofs.CutLaws.{parted_found, parted_none}
use Rattle.jv_script.proofs.word_cuts.cut.Goals as goal

pub returns-in-Some : goal.returns-in-Some
returns-in-Some c =
    let first = c.in-Some.ensures.0 in
    parted_found c.args.separator c.args.text.now c.in-Some.end first.high first.before c.in-Some.ensures.1

pub returns-in-None : goal.returns-in-None
returns-in-None c = parted_none c.args.separator c.args.text.now c.in-None.ensures
