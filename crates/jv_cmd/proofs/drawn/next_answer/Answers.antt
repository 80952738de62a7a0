use Rattle.std.proofs.Common.{sym, arith}
use Rattle.jv_cmd.proofs.drawn_scripts.DrawnLaws.{first_rest, only_answer}
use Rattle.jv_cmd.proofs.drawn.next_answer.Goals as goal

pub returns-in-Some : goal.returns-in-Some
returns-in-Some c = first_rest c.args.said.now c.in-Some.at (sym c.in-Some.ensures)

pub returns-in-None : goal.returns-in-None
returns-in-None c = only_answer c.args.said.now (sym c.in-None.ensures) (omega arith)
