use Rattle.jv_cmd.proofs.streams.SayingLaws.{Says-written}
use Rattle.jv_cmd.proofs.ended.say.Goals as goal

pub returns : goal.returns
returns g c = Says-written c.write_whole.result _ _ c.args.text.now c.write_whole.ensures
