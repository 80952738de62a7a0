-- What the tree finds is what the objects have.
use Rattle.std.proofs.Common.{ℕ, List, Some, ap, sym, ◌∙◌}
use Rattle.std.specs.Option.{option_map}
use Rattle.jv_model.specs.promise.FiniteMap.{get, text_key}
use Rattle.jv_outside.proofs.OverlaidLaws.{objects-settled}
use Rattle.jv_outside.proofs.StoredLaws.{get-lookup}
use Rattle.jv_outside.proofs.object_store.ObjectStore.get.Goals as goal

pub returns-in_ok-copied-in-Some-clause-value : goal.returns-in_ok-copied-in-Some-clause-value
returns-in_ok-copied-in-Some-clause-value c =
    ap Some (c.in_ok-copied-in-Some.ensures ∙ c.as_slice.ensures)
    ∙ ap (option_map (λ (object : List ℕ × ℕ). object.0)) (c.in-Some.ensures ∙ sym (get-lookup text_key _ _)
    ∙ ap (λ m. get m c.args.name.now) (sym (objects-settled c.settle.new.self c.in_ok-settle.ensures.settled) ∙ c.in_ok-settle.ensures.same))

pub returns-in-None-clause-value : goal.returns-in-None-clause-value
returns-in-None-clause-value c =
    ap (option_map (λ (object : List ℕ × ℕ). object.0)) (c.in-None.ensures ∙ sym (get-lookup text_key _ _)
    ∙ ap (λ m. get m c.args.name.now) (sym (objects-settled c.settle.new.self c.in_ok-settle.ensures.settled) ∙ c.in_ok-settle.ensures.same))
