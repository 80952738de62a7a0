-- The objects of the tree from the start on are those after the name.
use Rattle.std.proofs.Common.{ℕ, List, filter, map, take, sym, ap, ◌∙◌}
use Rattle.std.specs.declared.ops.Bound.TheVariants.{Unbounded}
use Rattle.std.specs.BTreeMap.Range.{entries_between}
use Rattle.std.specs.Cmp.Lexicographic.{slice_cmp}
use Rattle.std.specs.Option.{option_copied}
use Rattle.std.specs.Ordering.{nat_cmp}
use Rattle.jv_model.specs.promise.FiniteMap.{map_of, text_key}
use Rattle.jv_outside.specs.Objects.{as_seen, is_later, seen_after}
use Rattle.jv_outside.proofs.ListingLaws.{objects-from}
use Rattle.jv_outside.proofs.OverlaidLaws.{objects-settled}
use Rattle.jv_outside.proofs.StoredLaws.{map_of-alike, objects-sorted}
use Rattle.jv_outside.proofs.ScanLaws.{list-map_of, if_ok_along}
use Rattle.jv_outside.proofs.object_store.ObjectStore.list.Goals as goal

pub returns-clause-found : goal.returns-clause-found
returns-clause-found c =
    let last = option_copied c.args.after in
    let entries = c.sort.new.self.sorted.entries in
    let range = c.range-objects.ensures.between tt ∙ ap (λ s. entries_between (slice_cmp nat_cmp) s Unbounded entries) c.start.ensures in
    let listed = ap (filter (λ (object : List ℕ × (List ℕ × ℕ)). is_later last object.0)) (sym (list-map_of text_key entries c.range-objects.ensures.ordered)) in
    let known = ap (λ m. seen_after last c.args.n m) (ap map_of (sym c.in_ok-sort.ensures.sorted) ∙ map_of-alike text_key _ _ c.in_ok-sort.ensures.same ∙ sym (objects-settled c.settle.new.self c.in_ok-settle.ensures.settled) ∙ c.in_ok-settle.ensures.same) in
    if_ok_along c.seen_of.result _ _ (ap (λ objects. take c.args.n (map as_seen objects)) (range ∙ objects-from last entries ∙ listed) ∙ known) c.seen_of.ensures

pub returns-clause-same : goal.returns-clause-same
returns-clause-same c = objects-sorted c.settle.new.self c.sort.new.self c.in_ok-sort.ensures.same ∙ c.in_ok-settle.ensures.same

pub returns-in_err-sort-clause-same : goal.returns-in_err-sort-clause-same
returns-in_err-sort-clause-same c = objects-sorted c.settle.new.self c.sort.new.self c.in_err-sort.ensures.same ∙ c.in_ok-settle.ensures.same
