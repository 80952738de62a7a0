-- The blocks of the tree from the start on, up to another client's, are the client's after the name.
use Rattle.std.proofs.Common.{ℕ, ◌==◌, ◌&&◌, List, filter, map, take, take_while, sym, ap, ◌∙◌}
use Rattle.std.specs.declared.ops.Bound.TheVariants.{Unbounded}
use Rattle.std.specs.BTreeMap.Range.{entries_between}
use Rattle.std.specs.Option.{option_copied}
use Rattle.jv_outside.specs.Blocks.{names_after}
use Rattle.jv_outside.specs.promise.Blocks.{staged_cmp, staged_key}
use Rattle.jv_outside.specs.Objects.{is_later}
use Rattle.jv_outside.specs.StoredBlocks.{blocks_in, key_start}
use Rattle.jv_outside.proofs.ListingLaws.{blocks-from}
use Rattle.jv_outside.proofs.OverlaidLaws.{blocks-settled}
use Rattle.jv_outside.proofs.ScanLaws.{list-map_of, if_ok_along}
use Rattle.jv_outside.proofs.block_store.BlockStore.list.Goals as goal

pub returns-clause-found : goal.returns-clause-found
returns-clause-found c =
    let last = option_copied c.args.after in
    let client = c.number-client.result in
    let entries = c.settle.new.self.sorted.entries in
    let start = c.start.ensures ∙ ap (λ key. key_start key last) c.in_ok-first.ensures in
    let range = c.range-blocks.ensures.between tt ∙ ap (λ s. entries_between staged_cmp s Unbounded entries) start in
    let own = ap (take_while (λ (block : (ℕ × List ℕ) × List ℕ). block.0.0 == client)) range ∙ blocks-from client last entries c.range-blocks.ensures.ordered in
    let listed = ap (filter (λ (block : (ℕ × List ℕ) × List ℕ). (block.0.0 == client) && is_later last block.0.1)) (sym (list-map_of staged_key entries c.range-blocks.ensures.ordered)) in
    let known = ap (λ m. names_after client last c.args.n m) (sym (blocks-settled c.settle.new.self c.in_ok-settle.ensures.settled) ∙ c.in_ok-settle.ensures.same) in
    let number = ap (λ (n : ℕ). names_after n last c.args.n (blocks_in c.args.self.now)) c.number-client.ensures.number in
    if_ok_along c.names_of.result _ _ (ap (λ blocks. take c.args.n (map (λ (block : (ℕ × List ℕ) × List ℕ). block.0.1) blocks)) (own ∙ listed) ∙ known ∙ number) c.names_of.ensures
