-- What the tree finds is what the blocks have.
use Rattle.std.proofs.Common.{ℕ, Some, ap, sym, ◌∙◌}
use Rattle.jv_model.specs.promise.FiniteMap.{get, map_of}
use Rattle.jv_outside.specs.promise.Blocks.{staged_at, staged_key}
use Rattle.jv_outside.specs.StoredBlocks.{blocks_in}
use Rattle.jv_outside.proofs.OverlaidLaws.{blocks-settled}
use Rattle.jv_outside.proofs.StoredLaws.{get-lookup}
use Rattle.jv_outside.proofs.block_store.BlockStore.get.Goals as goal

pub returns-in-Some-clause-value : goal.returns-in-Some-clause-value
returns-in-Some-clause-value c =
    ap Some (c.in_ok-copied-in-Some.ensures ∙ c.as_slice.ensures) ∙ c.in-Some.ensures.value ∙ sym (get-lookup staged_key _ _)
    ∙ ap (get (map_of {order = staged_key} c.settle.new.self.sorted.entries)) c.in_ok-key.ensures
    ∙ ap (λ m. get m (c.number.result, c.args.name.now)) (sym (blocks-settled c.settle.new.self c.in_ok-settle.ensures.settled) ∙ c.in_ok-settle.ensures.same)
    ∙ ap (λ (client : ℕ). staged_at client c.args.name.now (blocks_in c.args.self.now)) c.number.ensures.number

pub returns-clause-value : goal.returns-clause-value
returns-clause-value c =
    c.in-None.ensures.value ∙ sym (get-lookup staged_key _ _) ∙ ap (get (map_of {order = staged_key} c.settle.new.self.sorted.entries)) c.in_ok-key.ensures
    ∙ ap (λ m. get m (c.number.result, c.args.name.now)) (sym (blocks-settled c.settle.new.self c.in_ok-settle.ensures.settled) ∙ c.in_ok-settle.ensures.same)
    ∙ ap (λ (client : ℕ). staged_at client c.args.name.now (blocks_in c.args.self.now)) c.number.ensures.number
