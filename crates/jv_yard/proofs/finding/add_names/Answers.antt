-- A name that is a block's is added, and another one is left.
use Rattle.std.proofs.Common.{IsTrue}
use Rattle.jv_yard.proofs.PageLaws.{adds-one, adds-other}
use Rattle.jv_yard.proofs.finding.add_names.Goals as goal

pub loop-name-preserved-then-not-is_block_name : goal.loop-name-preserved-then-not-is_block_name
loop-name-preserved-then-not-is_block_name c =
    adds-other c.args.setting.now c.loop-name.yielded c.in-Some.name c.args.found.now c.loop-name.found c.loop-name.found c.loop-name.invariant
    (λ named. let true_too : IsTrue c.is_block_name.result = c.is_block_name.ensures.1 named in let false_too = c.if-not-is_block_name.true in absurd (cc))

pub loop-name-preserved : goal.loop-name-preserved
loop-name-preserved c =
    adds-one c.args.setting.now c.loop-name.yielded c.in-Some.name c.args.found.now c.loop-name.found c.add.new.self c.loop-name.invariant
    (c.is_block_name.ensures.0 c.if-not-is_block_name.false) c.in_ok-add.ensures.ok
