use Rattle.std.proofs.Common.{Option, subst}
use Rattle.jv_model.specs.declared.slice.BlockId.{BlockId}
use Rattle.jv_client_reads.specs.Inside.{FillsFrom}
use Rattle.jv_client_reads.proofs.GoingLaws.{ends_on, waits_on}
use Rattle.jv_client_reads.proofs.fetch.Fetch.go_on.Goals as goal

pub returns-in-Some : goal.returns-in-Some
returns-in-Some c =
    let from = subst (λ (o : Option BlockId). FillsFrom c.args.cache.now c.fill_from.new.cache c.args.self.now c.fill_from.new.self o)
    c.in-Some.is c.fill_from.ensures in
    waits_on c.args.cache.now c.fill_from.new.cache c.args.self.now c.fill_from.new.self c.in-Some.block from

pub returns : goal.returns
returns c =
    let from = subst (λ (o : Option BlockId). FillsFrom c.args.cache.now c.fill_from.new.cache c.args.self.now c.fill_from.new.self o)
    c.in_default.is c.fill_from.ensures in
    ends_on c.args.cache.now c.fill_from.new.cache c.args.self.now c.fill_from.new.self c.end_part.new.self from c.end_part.ensures
