use Rattle.std.proofs.Common.{arith}
use Rattle.std.proofs.lemmas.Grind.{common_steps}
use Rattle.clap.specs.Words.{found_of}
use Rattle.clap.proofs.WalkLemmas.{first_value-rows}
use Rattle.jv_cmd.proofs.words.read.text_in.Goals as goal

pub returns-in_err-get_str : goal.returns-in_err-get_str
returns-in_err-get_str c = grind (arith, common_steps, first_value-rows (found_of c.args.values.now) c.args.id.now)

pub returns : goal.returns
returns c = grind (arith, common_steps, first_value-rows (found_of c.args.values.now) c.args.id.now)
