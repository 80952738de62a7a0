use Rattle.std.proofs.Common.{◌≡◌, [], take, fold}
use Rattle.std.specs.List.{flat_map}
use Rattle.jv_model.specs.blocks.Slices.{with_block, blocks_of_piece}
use Rattle.jv_slices.specs.Listing.{ListsIn}
use Rattle.jv_slices.proofs.blocks.needs.Given as goal

abbrev pub invariant-loop-piece : goal.invariant-loop-piece
invariant-loop-piece l = record {
  listed : ListsIn l.keys.items l.listed;
  keys : l.keys.items ≡ fold with_block [] (flat_map (blocks_of_piece l.block) (take l.piece-index l.piece-items));
}
