use Rattle.std.proofs.Common.{Option, Some, None, subst, sym}
use Rattle.jv_client_reads.specs.declared.need.Need.{Need}
use Rattle.jv_client_reads.specs.Inside.{GoesTo, Stops}
use Rattle.jv_client_reads.specs.Ahead.{blocks_ahead}
use Rattle.jv_client_reads.specs.Calls.{AsksSome}
use Rattle.jv_client_reads.proofs.GoingLaws.{asks_none, asks_nothing, asks_to, goes_twice, nothing_left}
use Rattle.jv_client_reads.proofs.fetch.Fetch.advance.Goals as goal
use Rattle.jv_model.proofs.TestLaws.{on_err}

pub returns-in-Some-clause-asks : goal.returns-in-Some-clause-asks
returns-in-Some-clause-asks c =
    let to = subst (λ (o : Option Need). GoesTo c.args.views.now c.args.cache.now c.read_part.new.cache c.args.self.now
    c.read_part.new.self o) c.in-Some.is c.in_ok-need.ensures.goes in
    asks_to c.args.views.now c.args.cache.now c.read_part.new.cache c.args.self.now c.read_part.new.self c.in-Some.need
    to

pub returns-in_err-need-clause-cache : goal.returns-in_err-need-clause-cache
returns-in_err-need-clause-cache c =
    on_err c.from_residual.result _
    (subst (AsksSome (blocks_ahead c.args.views.now c.args.self.now) c.args.cache.now) (sym c.in_err-need.ensures.cache)
    (blocks_ahead c.args.views.now c.args.self.now, asks_none (blocks_ahead c.args.views.now c.args.self.now) c.args.cache.now))

pub returns-in_err-need-2-clause-cache : goal.returns-in_err-need-2-clause-cache
returns-in_err-need-2-clause-cache c =
    let views = c.args.views.now in
    let middle = c.read_part.new.cache in
    let first = subst (λ (o : Option Need). GoesTo views c.args.cache.now middle c.args.self.now c.read_part.new.self o)
    c.in_default.is c.in_ok-need.ensures.goes in
    on_err c.from_residual-in_err-need-2.result _
    (subst (AsksSome (blocks_ahead views c.args.self.now) c.args.cache.now) (sym c.in_err-need-2.ensures.cache)
    (blocks_ahead views c.read_part.new.self, asks_nothing views c.args.cache.now middle c.args.self.now c.read_part.new.self first))

pub returns-in-Some-2 : goal.returns-in-Some-2
returns-in-Some-2 c =
    let views = c.args.views.now in
    let middle = c.read_part.new.cache in
    let later = c.read_part-2.new.cache in
    let first = subst (λ (o : Option Need). GoesTo views c.args.cache.now middle c.args.self.now c.read_part.new.self o)
    c.in_default.is c.in_ok-need.ensures.goes in
    let second = subst (λ (o : Option Need). GoesTo views middle later c.read_part.new.self c.read_part-2.new.self o)
    c.in-Some-2.is c.in_ok-need-2.ensures.goes in
    let to = goes_twice views c.args.cache.now middle later c.args.self.now c.read_part.new.self c.read_part-2.new.self
    (Some c.in-Some-2.need) first second in
    record {
      block = to.goes.block;
      wants = subst (λ (o : Option Need). Stops views c.read_part.new.self c.read_part-2.new.self o) c.in-Some-2.is
          c.in_ok-need-2.ensures.stops;
      can = to.goes.can;
      falls = to.goes.falls;
      begins_part = to.goes.begins;
      cache = tt;
      asks = asks_to views c.args.cache.now later c.args.self.now c.read_part-2.new.self c.in-Some-2.need to;
      reads = to.goes.reads;
    }

pub returns : goal.returns
returns c =
    let views = c.args.views.now in
    let middle = c.read_part.new.cache in
    let later = c.read_part-2.new.cache in
    let stop = subst (λ (o : Option Need). Stops views c.args.self.now c.read_part.new.self o) c.in_default.is
    c.in_ok-need.ensures.stops in
    let stop' = subst (λ (o : Option Need). Stops views c.read_part.new.self c.read_part-2.new.self o) c.in_default-2.is
    c.in_ok-need-2.ensures.stops in
    let first = subst (λ (o : Option Need). GoesTo views c.args.cache.now middle c.args.self.now c.read_part.new.self o)
    c.in_default.is c.in_ok-need.ensures.goes in
    let second = subst (λ (o : Option Need). GoesTo views middle later c.read_part.new.self c.read_part-2.new.self o)
    c.in_default-2.is c.in_ok-need-2.ensures.goes in
    let to = goes_twice views c.args.cache.now middle later c.args.self.now c.read_part.new.self c.read_part-2.new.self
    None first second in
    record {
      block = to.goes.block;
      wants = (
        stop'.0,
        nothing_left c.args.self.now.parts c.read_part.new.self.parts c.read_part-2.new.self.parts
            c.read_part.ensures.few stop.1 stop'.1,
      );
      can = to.goes.can;
      falls = to.goes.falls;
      begins_part = to.goes.begins;
      cache = tt;
      asks = asks_nothing views c.args.cache.now later c.args.self.now c.read_part-2.new.self to;
      reads = to.goes.reads;
    }
