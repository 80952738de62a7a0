use Rattle.std.proofs.Common.{ap, is_some, ◌∙◌}
use Rattle.jv_model.specs.promise.FiniteMap.{get}
use Rattle.jv_yard.proofs.StagingLaws.{has-entries}
use Rattle.jv_yard.proofs.staging.ClientBlocks.has.Goals as goal

pub returns : goal.returns
returns c = c.contains_key.ensures ∙ has-entries c.args.name.now c.self.inside.moments.entries ∙ ap (λ m. is_some (get m c.args.name.now)) c.self.view_is
