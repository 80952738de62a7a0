-- The line runs over the yard where it stands in its door.
use Rattle.std.proofs.Common.{refl, ap}
use Rattle.std.specs.Option.{option_map}
use Rattle.jv_session.proofs.SeenLaws.{seen_yard}
use Rattle.jv_session.proofs.schedule.Schedule.line.Goals as goal

pub returns-clause-runs : goal.returns-clause-runs
returns-clause-runs g c =
    let seen = seen_yard g.D.Depot.seen g.H.Shelf.seen in
    record {
      taken = seen c.in-Some.yard;
      taken_is = ap (option_map seen) c.in-Some.is;
      left = seen c.run_line.new.yard;
      left_is = refl;
      does = c.run_line.ensures.runs;
    }
