use Rattle.std.proofs.Common.{ℕ, ap, ◌∙◌}
use Rattle.jv_model.specs.promise.FiniteMap.{insert, map_of}
use Rattle.jv_outside.specs.promise.Blocks.{staged_key}
use Rattle.jv_outside.proofs.StoredLaws.{map_of-updated}
use Rattle.jv_outside.proofs.block_store.insert.Goals as goal

pub returns-in-Ok-clause-ok : goal.returns-in-Ok-clause-ok
returns-in-Ok-clause-ok c =
    map_of-updated staged_key _ _ _ _ c.in-Ok.ensures.updates.0
    ∙ ap (λ (client : ℕ). insert (map_of {order = staged_key} c.args.sorted.now.entries) (client, c.args.block.name) c.args.block.bytes) c.number.ensures.number
