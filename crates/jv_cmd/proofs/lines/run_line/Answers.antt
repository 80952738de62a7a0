use Rattle.std.proofs.Common.{List, [], ℕ, refl, sym, ap, subst}
use Rattle.jv_outside.specs.promise.Stream.{HasAll, IsCut, Stream}
use Rattle.jv_outside.specs.promise.Ticks.{Ticks}
use Rattle.jv_outside.proofs.StreamLaws.{Gains-nil}
use Rattle.jv_cmd.proofs.runs.StepLaws.{Advances-said, Advances-quiet}
use Rattle.jv_cmd.proofs.lines.run_line.Goals as goal

pub returns-in-Ok-clause-ends : goal.returns-in-Ok-clause-ends
returns-in-Ok-clause-ends g c = record {
  printed = c.in-Said.answer;
  runs = Advances-said c.args.line c.args.number _ _ c.args.schedule.now c.make_line.new.schedule c.in-Said.answer
      c.in-Said.ensures.runs;
  writes = subst (λ (out : Stream). HasAll out (g.O.Sink.seen c.write_whole.new.sink) c.in-Said.answer)
      (ap g.O.Sink.seen c.make_line.ensures.out)
      (subst (λ (bytes : List ℕ). HasAll (g.O.Sink.seen c.make_line.new.stage.out)
      (g.O.Sink.seen c.write_whole.new.sink) bytes) c.as_slice.ensures c.in-Ok.ensures);
  clock = c.in-Said.ensures.runs.calm;
}

pub returns-in-Said-clause-ends : goal.returns-in-Said-clause-ends
returns-in-Said-clause-ends g c = record {
  printed = c.in-Said.answer;
  runs = Advances-said c.args.line c.args.number _ _ c.args.schedule.now c.make_line.new.schedule c.in-Said.answer
      c.in-Said.ensures.runs;
  cut = subst (λ (out : Stream). IsCut out (g.O.Sink.seen c.write_whole.new.sink) c.in-Said.answer)
      (ap g.O.Sink.seen c.make_line.ensures.out)
      (subst (λ (bytes : List ℕ). IsCut (g.O.Sink.seen c.make_line.new.stage.out)
      (g.O.Sink.seen c.write_whole.new.sink) bytes) c.as_slice.ensures c.in-Err.ensures.cut);
  clock = c.in-Said.ensures.runs.calm;
}

pub returns-in-Quiet-clause-ends : goal.returns-in-Quiet-clause-ends
returns-in-Quiet-clause-ends g c = record {
  printed = [];
  runs = Advances-quiet c.args.line c.args.number _ _ c.args.schedule.now c.make_line.new.schedule
      (c.make_line.ensures.quiet.0 c.in-Quiet.is) c.in-Quiet.ensures.runs;
  writes = subst (λ (out : Stream). HasAll (g.O.Sink.seen c.args.stage.now.out) out [])
      (sym (ap g.O.Sink.seen c.make_line.ensures.out))
      (record { gains = Gains-nil (g.O.Sink.seen c.args.stage.now.out).content; calm = refl });
  clock = ap (λ (ticks : Ticks). ticks.faults) c.in-Quiet.ensures.runs.clock;
}
