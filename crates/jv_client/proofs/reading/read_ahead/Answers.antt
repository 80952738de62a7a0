-- What is needed isn't in the cache, and what was read is what the views show.
use Rattle.std.proofs.Common.{subst}
use Rattle.jv_client_reads.specs.Ahead.{blocks_ahead}
use Rattle.jv_client_reads.specs.Calls.{Asks}
use Rattle.jv_client.proofs.reads.ReadingLaws.{asks-all, asks-lacks, reads-all}
use Rattle.jv_client.proofs.reads.LookedUpLaws.{err-looks, none-ahead}
use Rattle.jv_client.proofs.reading.read_ahead.Goals as goal

pub returns-in_ok-first-in-Nothing-clause-comes : goal.returns-in_ok-first-in-Nothing-clause-comes
returns-in_ok-first-in-Nothing-clause-comes c =
    let read = c.in_ok-first-in-Nothing in
    let went = c.in_ok-need.ensures in
    reads-all c.args.views.now c.args.cache.now c.args.fetch c.advance.new.self c.in_ok-need.need
    (record { first = read.first; second = read.second; bytes = read.bytes })
    went.block c.in-Nothing.is went.wants went.reads read.ensures.parts

pub returns-in_default-clause-comes : goal.returns-in_default-clause-comes
returns-in_default-clause-comes c =
    let went = c.in_ok-need.ensures in (
      record { block = went.block; can = went.can; few = went.falls; fewer = went.begins_part; reads = went.reads },
      went.wants,
      c.in_default.not-Nothing,
      asks-lacks _ _ c.in_ok-need.need c.args.cache.now c.advance.new.cache went.asks,
    )

pub returns-in_ok-first-in-Nothing-clause-looks : goal.returns-in_ok-first-in-Nothing-clause-looks
returns-in_ok-first-in-Nothing-clause-looks c =
    asks-all _ _ c.in_ok-need.need c.args.cache.now c.advance.new.cache c.in-Nothing.is
    (none-ahead c.args.views.now c.advance.new.self c.in_ok-need.need c.in-Nothing.is c.in_ok-need.ensures.wants)
    c.in_ok-need.ensures.asks

pub returns-in_default-clause-looks : goal.returns-in_default-clause-looks
returns-in_default-clause-looks c = c.in_ok-need.ensures.asks

pub returns-in_err-need-clause-looks : goal.returns-in_err-need-clause-looks
returns-in_err-need-clause-looks c =
    err-looks c.args.views.now c.args.fetch c.from_residual.result c.args.cache.now c.advance.new.cache c.from_residual.ensures.0
    c.in_err-need.ensures.cache

pub returns-in_err-first-in-Nothing-clause-looks : goal.returns-in_err-first-in-Nothing-clause-looks
returns-in_err-first-in-Nothing-clause-looks c =
    err-looks c.args.views.now c.args.fetch c.from_residual-in_err-first-in-Nothing.result c.args.cache.now
    c.advance.new.cache c.from_residual-in_err-first-in-Nothing.ensures.0 (
      blocks_ahead c.args.views.now c.advance.new.self,
      subst (λ n. Asks (blocks_ahead c.args.views.now c.args.fetch) (blocks_ahead c.args.views.now c.advance.new.self) n
          c.args.cache.now c.advance.new.cache) c.in-Nothing.is c.in_ok-need.ensures.asks,
    )
