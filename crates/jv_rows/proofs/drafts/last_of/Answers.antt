use Rattle.std.proofs.Common.{arith}
use Rattle.jv_rows.proofs.transactions.DraftLaws.{search_ends, search_goes_on}
use Rattle.jv_rows.proofs.drafts.last_of.Goals as goal

pub returns-then-is_of : goal.returns-then-is_of
returns-then-is_of c =
    search_ends c.args.key.now c.args.changes.now c.loop-rest.rest c.index-changes-rest.result (omega arith) c.loop-rest.invariant.within c.index-changes-rest.is c.loop-rest.invariant.last
    cc

pub loop-rest-preserved : goal.loop-rest-preserved
loop-rest-preserved c = record {
  within = omega (arith, c.loop-rest.invariant.within);
  last = search_goes_on c.args.key.now c.args.changes.now c.loop-rest.rest c.index-changes-rest.result (omega arith) c.loop-rest.invariant.within c.index-changes-rest.is c.loop-rest.invariant.last
      cc;
}
