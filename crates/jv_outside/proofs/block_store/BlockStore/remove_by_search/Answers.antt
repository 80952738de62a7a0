-- What is kept is all but the block.
use Rattle.std.proofs.Common.{ℕ, not, List, ap, ◌∙◌, rules}
use Rattle.std.proofs.lemmas.Fn.{filter_same}
use Rattle.std.proofs.lemmas.Map.Made.{filter_same_pairs}
use Rattle.std.specs.Ordering.{eq_by_cmp}
use Rattle.jv_model.specs.promise.FiniteMap.{map_of}
use Rattle.jv_outside.specs.declared.object.Staged.{Staged}
use Rattle.jv_outside.specs.Blocks.{key_of, bytes_of, unstaged}
use Rattle.jv_outside.specs.promise.Blocks.{staged_cmp, staged_key}
use Rattle.jv_outside.specs.Overlaid.{overlaid}
use Rattle.jv_outside.specs.StoredBlocks.{blocks_in}
use Rattle.jv_outside.proofs.OverlaidLaws.{overlaid-without, map_of-without}
use Rattle.jv_outside.proofs.block_store.BlockStore.remove_by_search.Goals as goal

pub returns : goal.returns
returns c =
    let client = c.number-client.result in
    let name = c.args.name.now in
    let listed = filter_same _ (λ (block : Staged). not (eq_by_cmp staged_cmp (client, name) (key_of block))) _ (λ x b f' k. search rules) _ _ c.retain.ensures.filtered in
    let sorted = filter_same_pairs _ (λ (entry : (ℕ × List ℕ) × List ℕ). not (eq_by_cmp staged_cmp (client, name) entry.0)) _ (λ k v b w f' t. search rules) _ _ c.retain-2.ensures.filtered in
    ap (λ blocks. overlaid key_of bytes_of blocks (map_of {order = staged_key} c.retain-2.new.self.entries)) listed
    ∙ overlaid-without staged_key key_of bytes_of (client, name) c.args.self.now.listed.items (map_of c.args.self.now.sorted.entries) (map_of c.retain-2.new.self.entries)
    (ap (λ entries. map_of {order = staged_key} entries) sorted ∙ map_of-without staged_key (client, name) c.args.self.now.sorted.entries)
    ∙ ap (λ (n : ℕ). unstaged n name (blocks_in c.args.self.now)) c.number-client.ensures.number
