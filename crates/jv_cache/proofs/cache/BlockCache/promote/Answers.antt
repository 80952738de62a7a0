use Rattle.std.proofs.Common.{rules, ◌≡◌, ◌∙◌, sym, ap}
use Rattle.std.specs.Prelude.{is_some}
use Rattle.jv_cache.specs.Cached.{found_in, promoted_in}
use Rattle.jv_cache.specs.contracts.cache.BlockCache.{the_view}
use Rattle.jv_cache.specs.declared.cache.BlockCache.TheInside.{Inside}
use Rattle.jv_cache.proofs.CachedLaws.{missed, held_bounded, promoted_bounded}
use Rattle.jv_cache.proofs.cache.BlockCache.promote.Goals as goal
use Rattle.jv_cache.proofs.cache.BlockCache.promote.Goals.{in-None, in-Some}

pub returns-clause-absent : goal.returns-clause-absent
returns-clause-absent c = λ miss.
    let there : c.match-self.result ≡ is_some (found_in c.args.self.now c.args.key) = search rules in
    let first : the_view c.match-self.self-inside ≡ promoted_in c.args.self.now c.args.key = search rules in
    first ∙ missed c.args.self.now c.args.key (sym there ∙ miss)

pub invariant_of-self : goal.invariant_of-self
invariant_of-self c = elim c.match-self.branch [
  | in-None w ↦ held_bounded c.self.inside.blocks c.match-self.self-inside.blocks (ap (λ (x : Inside). x.blocks) w.self-inside-is) c.self.invariant
  | in-Some w ↦ promoted_bounded c.self.inside.blocks c.match-self.self-inside.blocks w.in-Some.blocks w.promote.new.self c.args.key w.in-Some.is (ap (λ (x : Inside). x.blocks) w.self-inside-is) w.promote.ensures.entries c.self.invariant
]
