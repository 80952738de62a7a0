use Rattle.std.proofs.Common.{◌≡◌, ◌-◌, map, fold}
use Rattle.std.specs.List.{range_with_len}
use Rattle.jv_model.specs.blocks.Slices.{with_block}
use Rattle.jv_model.specs.promise.blocks.Slices.{block_at}
use Rattle.jv_slices.specs.Listing.{ListsIn}
use Rattle.jv_slices.proofs.blocks.add_piece.Given as goal

abbrev pub invariant-loop-index : goal.invariant-loop-index
invariant-loop-index l = record {
  listed : ListsIn l.keys.items l.listed;
  keys : l.keys.items ≡ fold with_block l.initial.keys.items (map (block_at l.id l.size l.block) (range_with_len l.first (l.index - l.first)));
}
