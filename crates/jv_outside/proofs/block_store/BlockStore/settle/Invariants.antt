use Rattle.std.proofs.Common.{◌≡◌, length}
use Rattle.jv_outside.specs.StoredBlocks.{blocks_in}
use Rattle.jv_outside.proofs.block_store.BlockStore.settle.Given as goal

abbrev pub invariant-loop-block : goal.invariant-loop-block
invariant-loop-block l = blocks_in l.self ≡ blocks_in l.initial.self

abbrev pub decreases-loop-block : goal.decreases-loop-block
decreases-loop-block l = length l.self.listed.items
