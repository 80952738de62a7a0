use Rattle.std.proofs.Common.{◌≤◌, ◌-◌, ◌+◌}
use Rattle.std.specs.Prelude.{IsSomeAnd}
use Rattle.std.specs.Io.KnownBytes.{prepend_known}
use Rattle.jv_model.specs.declared.limits.TheConstants.{MAX_LINES}
use Rattle.jv_yard.specs.Staging.{by_client}
use Rattle.jv_yard.specs.YardValue.{yard_value}
use Rattle.jv_client.specs.promise.Shared.{shared}
use Rattle.jv_session.specs.Stands.{IsYardOf}
use Rattle.jv_cmd.specs.Steps.{Going}
use Rattle.jv_cmd.specs.promise.Stages.{StageValue, stage_value}
use Rattle.jv_cmd.specs.Stages.{given_by, yard_at}
use Rattle.jv_cmd.proofs.lines.run_lines.Given as goal

-- `done` lines are run, where none was at first
abbrev pub invariant-lines : goal.invariant-lines
invariant-lines g l =
    let at = l.initial.stage in
    let now = l.stage in
    let given_at = given_by at.door.yard (λ y. yard_value (g.D.Depot.seen y.depot) (g.H.Shelf.seen y.shelf) y.setting
    (by_client y.staged) y.last y.log.items) in
    let given = given_by now.door.yard (λ y. yard_value (g.D.Depot.seen y.depot) (g.H.Shelf.seen y.shelf) y.setting
    (by_client y.staged) y.last y.log.items) in
    record {
      few : l.done ≤ MAX_LINES;
      goes : (before : StageValue)
          → Going (prepend_known l.initial.reader (g.S.Source.seen at.source).content) before
          (stage_value at.limits (g.S.Source.seen at.source) (g.O.Sink.seen at.out)
          (shared (g.K.Keeper.seen at.keeper) (yard_at given_at)
          ((goal.Carrier-dyn g (at.carrier.vtable, at.carrier.value)).seen at.carrier.value))
          (g.C.Clock.seen at.clock) at.journal.acts)
          0 l.initial.schedule
          → Going (prepend_known l.reader (g.S.Source.seen now.source).content) before
          (stage_value now.limits (g.S.Source.seen now.source) (g.O.Sink.seen now.out)
          (shared (g.K.Keeper.seen now.keeper) (yard_at given)
          ((goal.Carrier-dyn g (now.carrier.vtable, now.carrier.value)).seen now.carrier.value))
          (g.C.Clock.seen now.clock) now.journal.acts)
          l.done l.schedule;
      yard : IsSomeAnd given (IsYardOf l.schedule);
    }

abbrev pub decreases-lines : goal.decreases-lines
decreases-lines g l = MAX_LINES + 1 - l.done
