use Rattle.std.proofs.Common.{sym}
use Rattle.jv_cache.proofs.CachedLaws.{put_bounded, put_stands_first, is_there}
use Rattle.jv_cache.proofs.cache.BlockCache.keep.Goals as goal

pub invariant_of-self-in-Ok : goal.invariant_of-self-in-Ok
invariant_of-self-in-Ok c =
    put_bounded c.self.inside.blocks c.in-Some.blocks c.put.new.self c.args.key c.args.bytes c.in-Some.is c.in-Ok.ensures.entries c.self.invariant

pub returns-in-Ok-clause-first : goal.returns-in-Ok-clause-first
returns-in-Ok-clause-first c =
    λ some. put_stands_first c.in-Some.blocks c.put.new.self c.self.inside.hits c.self.inside.misses c.args.key c.args.bytes c.in-Ok.ensures.entries

pub returns-in-Ok-clause-bounded : goal.returns-in-Ok-clause-bounded
returns-in-Ok-clause-bounded c =
    let bounded = put_bounded c.self.inside.blocks c.in-Some.blocks c.put.new.self c.args.key c.args.bytes c.in-Some.is c.in-Ok.ensures.entries c.self.invariant in bounded.within

pub returns-clause-succeeds : goal.returns-clause-succeeds
returns-clause-succeeds c =
    λ h. c.in-Err.ensures.succeeds (is_there c.args.self.now c.self.inside.blocks c.in-Some.blocks c.self.inside.hits c.self.inside.misses c.args.key (sym c.self.view_is) c.in-Some.is c.self.invariant h)
