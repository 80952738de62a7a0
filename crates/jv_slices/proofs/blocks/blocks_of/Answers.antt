use Rattle.jv_slices.proofs.BlockLaws.{lengths_add_up}
use Rattle.jv_slices.proofs.blocks.blocks_of.Goals as goal

pub returns-clause-lengths : goal.returns-clause-lengths
returns-clause-lengths c = lengths_add_up c.args.size c.args.block c.requires
