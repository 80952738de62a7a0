use Rattle.std.proofs.Common.{◌+◌, ◌-◌, sym, ◌∙◌, arith}
use Rattle.std.proofs.lemmas.Result.{err_from_is_err_and}
use Rattle.jv_links.proofs.entries.ClimbingLaws.{climb-met, climb-top, climb-not_up, climb-up, climb-nearer}
use Rattle.jv_links.proofs.climbing.climb.Goals as goal

pub returns-then-place-source : goal.returns-then-place-source
returns-then-place-source g c =
    climb-met (g.K.Keeper.seen c.args.k.now) (g.K.Keeper.seen c.loop-step.k) c.args.start.inode c.args.source
    c.loop-step.place c.requires.low
    c.loop-step.invariant.left c.loop-step.invariant.stands c.if-place-source.true

pub returns-then-is_top : goal.returns-then-is_top
returns-then-is_top g c =
    climb-top (g.K.Keeper.seen c.args.k.now) (g.K.Keeper.seen c.loop-step.k) c.args.start.inode c.args.source
    c.loop-step.place c.requires.low
    c.loop-step.invariant.left c.loop-step.invariant.stands c.if-place-source.false
    (sym c.is_top.ensures ∙ c.if-is_top.true)

pub returns-in_err-place : goal.returns-in_err-place
returns-in_err-place g c =
    let p = err_from_is_err_and c.from_residual.result c.from_residual.ensures.1 in
    rw (p.1, p.2)
    (climb-not_up (g.K.Keeper.seen c.args.k.now) (g.K.Keeper.seen c.loop-step.k) c.args.start.inode c.args.source
    c.loop-step.place c.requires.low
    c.loop-step.invariant.left c.loop-step.invariant.stands c.if-place-source.false
    (sym c.is_top.ensures ∙ c.if-is_top.false)
    (g.K.Keeper.seen c.parent.new.k) c.in_err-place.field-0.0 c.in_err-place.ensures.comes)

pub loop-step-preserved : goal.loop-step-preserved
loop-step-preserved g c =
    let seen = g.K.Keeper.seen in
    let apart = c.if-place-source.false in
    let below = sym c.is_top.ensures ∙ c.if-is_top.false in
    let h = c.loop-step.invariant in
    let above = c.in_ok-place.place in
    let w = c.in_ok-place.ensures in
    record {
      left = climb-up (seen c.args.k.now) (seen c.loop-step.k) c.args.start.inode c.args.source c.loop-step.place
          c.requires.low h.left h.stands apart below
          (seen c.parent.new.k) above w.comes;
      stands = record { row = w.comes.stands; allowed = w.comes.allowed; directory = w.directory };
      near = climb-nearer (seen c.args.k.now) (seen c.loop-step.k) c.args.start.inode c.args.source c.loop-step.place
          c.requires.low h.left h.stands apart below
          (seen c.parent.new.k) above w.comes (c.args.steps - c.loop-step._step)
          (c.args.steps - (c.loop-step._step + 1)) (omega arith) h.near;
    }
