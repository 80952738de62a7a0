use Rattle.std.proofs.Common.{◌∙◌, refl, ap}
use Rattle.jv_cache.specs.Cached.{Cached, found_in}
use Rattle.jv_cache.proofs.CachedLaws.{found-noted}
use Rattle.jv_cache.proofs.cache.BlockCache.find.Goals as goal

pub returns : goal.returns
returns c = (
  (refl, λ _. tt, c.note.ensures),
  record {
    notes = tt;
    found = c.peek.ensures ∙ ap (λ (cache : Cached). found_in cache c.args.key) c.note.ensures ∙ found-noted c.args.self.now c.args.key;
  },
)
