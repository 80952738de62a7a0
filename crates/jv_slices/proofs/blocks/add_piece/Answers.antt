use Rattle.std.proofs.Common.{◌≡◌, ℕ, ◌+◌, ◌-◌, ◌/◌, List, [], ◌∷◌, ◌++◌, ◌∙◌, sym, ap, arith, map, fold}
use Rattle.std.specs.List.{range_with_len}
use Rattle.std.proofs.lemmas.List.FromFn.{map-range_with_len_more}
use Rattle.std.proofs.lemmas.List.Sums.{fold_push}
use Rattle.jv_model.specs.declared.slice.BlockId.{BlockId}
use Rattle.jv_model.specs.blocks.Slices.{with_block}
use Rattle.jv_model.specs.promise.blocks.Slices.{block_at}
use Rattle.jv_slices.proofs.blocks.add_piece.Goals as goal

pub loop-index-preserved : goal.loop-index-preserved
loop-index-preserved c =
    let block = c.args.block in
    let index = c.loop-index.index in
    let first = c.in-Slice.at / block in
    let n = index - first in
    let f : ℕ → BlockId = block_at c.in-Slice.id c.in-Slice.size block in
    let before = map f (range_with_len first n) in
    let place : first + n ≡ index = omega arith in
    let longer : n + 1 ≡ index + 1 - first = omega arith in
    let more : before ++ f index ∷ [] ≡ map f (range_with_len first (index + 1 - first)) = sym (map-range_with_len_more f first n index place) ∙ ap (λ (m : ℕ). map f (range_with_len first m)) longer in
    let start = c.args.keys.now.items in
    record {
      listed = c.in_ok-add_block.ensures.listed;
      keys = c.in_ok-add_block.ensures.keys
          ∙ ap (λ (ks : List BlockId). with_block ks (record { id = c.in-Slice.id; index = index; size = c.block_len-size.result })) c.loop-index.invariant.keys
          ∙ ap (λ (size : ℕ). with_block (fold with_block start before) (record { id = c.in-Slice.id; index = index; size = size })) c.block_len-size.ensures.length
          ∙ sym (fold_push with_block start before (f index))
          ∙ ap (λ (bs : List BlockId). fold with_block start bs) more;
    }
