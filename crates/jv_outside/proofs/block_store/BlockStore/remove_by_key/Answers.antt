-- A block that is taken out of the tree is gone from the blocks.
use Rattle.std.proofs.Common.{ℕ, None, ap, sym, ◌∙◌}
use Rattle.jv_model.specs.promise.FiniteMap.{map_of, remove}
use Rattle.jv_outside.specs.Blocks.{key_of, bytes_of, unstaged}
use Rattle.jv_outside.specs.promise.Blocks.{staged_key}
use Rattle.jv_outside.specs.Overlaid.{overlaid}
use Rattle.jv_outside.specs.StoredBlocks.{blocks_in}
use Rattle.jv_outside.proofs.OverlaidLaws.{blocks-settled}
use Rattle.jv_outside.proofs.StoredLaws.{map_of-updated}
use Rattle.jv_outside.proofs.block_store.BlockStore.remove_by_key.Goals as goal

pub returns-clause-ok : goal.returns-clause-ok
returns-clause-ok c =
    ap (λ blocks. overlaid key_of bytes_of blocks (map_of {order = staged_key} c.remove.new.self.entries)) c.in_ok-settle.ensures.settled
    ∙ map_of-updated staged_key _ _ _ None c.remove.ensures.updates.0
    ∙ ap (remove (map_of {order = staged_key} c.settle.new.self.sorted.entries)) c.in_ok-key.ensures
    ∙ ap (λ m. remove m (c.number.result, c.args.name.now)) (sym (blocks-settled c.settle.new.self c.in_ok-settle.ensures.settled) ∙ c.in_ok-settle.ensures.same)
    ∙ ap (λ (client : ℕ). unstaged client c.args.name.now (blocks_in c.args.self.now)) c.number.ensures.number
