use Rattle.std.proofs.Common.{ap, ◌∙◌}
use Rattle.jv_model.specs.promise.FiniteMap.{key_count}
use Rattle.jv_yard.proofs.StagingLaws.{count-entries}
use Rattle.jv_yard.proofs.staging.ClientBlocks.len.Goals as goal

pub returns : goal.returns
returns c = c.len.ensures.len ∙ count-entries c.self.inside.moments.entries c.len.ensures.ordered ∙ ap key_count c.self.view_is
