-- The entries of a step are appended.
use Rattle.std.proofs.Common.{ap, ◌∙◌, arith}
use Rattle.jv_client.specs.ClientValue.{ClientValue}
use Rattle.jv_client.proofs.steps.StepOfLaws.{steps-of}
use Rattle.jv_client.proofs.client.Client.step.Goals as goal

pub returns : goal.returns
returns g c =
    let m = c.make-made.ensures.made in
    let long = c.len.ensures.length in
    steps-of c.args.line c.args.now _ c.self.inside.id c.args.self.now c.make-made.new.self _ _ c.args.journal.now.acts
    c.append.new.journal.acts c.make-made.result c.into_step.result m c.make-made.ensures.stats (omega (arith, long)) c.into_step.ensures
    c.append.ensures (ap (λ (h : ClientValue). h.id) c.self.view_is ∙ m.id)
