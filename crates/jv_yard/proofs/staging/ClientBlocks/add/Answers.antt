use Rattle.std.proofs.Common.{Some, ap, ◌∙◌}
use Rattle.jv_model.specs.promise.FiniteMap.{text_key, insert}
use Rattle.jv_outside.proofs.StoredLaws.{map_of-updated}
use Rattle.jv_yard.proofs.staging.ClientBlocks.add.Goals as goal

pub returns-clause-ok : goal.returns-clause-ok
returns-clause-ok c =
    map_of-updated text_key c.self.inside.moments.entries c.insert.new.self.entries c.args.name (Some c.args.since) c.in_ok-insert.ensures.updates.0
    ∙ ap (λ m. insert m c.args.name c.args.since) c.self.view_is
