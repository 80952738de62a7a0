-- A block that is brought into order stays what the shelf has at its key.
use Rattle.std.proofs.Common.{sym, ap, ◌∙◌}
use Rattle.jv_model.specs.promise.FiniteMap.{map_of}
use Rattle.jv_outside.specs.Blocks.{key_of, bytes_of}
use Rattle.jv_outside.specs.promise.Blocks.{staged_key}
use Rattle.jv_outside.specs.Overlaid.{overlaid}
use Rattle.jv_outside.proofs.OverlaidLaws.{overlaid-moved}
use Rattle.jv_outside.proofs.block_store.BlockStore.settle.Goals as goal

pub loop-block-preserved : goal.loop-block-preserved
loop-block-preserved c =
    overlaid-moved staged_key key_of bytes_of _ _ _ _ c.in_default-insert.ensures.ok
    ∙ ap (λ blocks. overlaid key_of bytes_of blocks (map_of c.loop-block.self.sorted.entries)) (sym c.in-Some.ensures.items)
    ∙ c.loop-block.invariant
