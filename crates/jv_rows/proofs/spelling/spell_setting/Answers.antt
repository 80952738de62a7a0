use Rattle.std.proofs.Common.{arith}
use Rattle.jv_rows.proofs.grammars.BoundLaws.{bucket_bound}
use Rattle.jv_rows.proofs.spelling.spell_setting.Goals as goal

pub overflow_cast-len-2 : goal.overflow_cast-len-2
overflow_cast-len-2 c = omega (arith, bucket_bound c.args.s.now c.requires)
