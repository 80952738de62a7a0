use Rattle.std.proofs.Common.{sym, subst, IsTrue, is_some, ◌↔◌}
use Rattle.jv_yard.specs.promise.YardValue.{NamesBlock}
use Rattle.jv_yard.proofs.StagingLaws.{named_exactly}
use Rattle.jv_yard.proofs.finding.is_block_name.Goals as goal

pub returns : goal.returns
returns c =
    let named = named_exactly c.args.setting.now c.as_slice.result.now c.parse_block_name.result c.parse_block_name.ensures in
    let by_name = subst (λ name. IsTrue (is_some c.parse_block_name.result) ↔ NamesBlock c.args.setting.now name) c.as_slice.ensures named in
    subst (λ b. IsTrue b ↔ NamesBlock c.args.setting.now c.args.name.now) (sym c.is_some.ensures) by_name
