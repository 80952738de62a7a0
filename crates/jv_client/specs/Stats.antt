-- What a client answers of its cache.
use Rattle.std.specs.Prelude.{◌≡◌, ℕ, length, IfSome, IsTrue, Option, None, Some}
use Rattle.jv_model.specs.declared.act.Told.TheVariants.{Fine}
use Rattle.jv_model.specs.declared.op.Reply.TheVariants.{CacheStats}
use Rattle.jv_cache.specs.Cached.{Cached}
use Rattle.jv_client.specs.declared.doing.Doing.{Doing}
use Rattle.jv_client.specs.declared.made.Made.{Made}
use Rattle.jv_client.specs.declared.made.Made.TheVariants as made
use Rattle.jv_client.specs.ClientValue.{ClientValue}
use Rattle.jv_client.specs.UnderWay.{says_stats}

-- hits, misses and blocks kept, all 0 before the first read
pub record Numbers : Type 0 where
  pub hits : ℕ
  pub misses : ℕ
  pub cached : ℕ

abbrev pub numbers_in : Option Cached → Numbers
numbers_in None = record { hits = 0; misses = 0; cached = 0 }
numbers_in (Some cache) =
    record { hits = cache.hits; misses = cache.misses; cached = length cache.blocks }

-- the numbers of the cache, and of the pending bytes
abbrev pub IsStatsOf : ClientValue → Made → Type 0
IsStatsOf h done = let n = numbers_in h.cache in
    done ≡ made.Answer (Fine n.hits n.misses n.cached (length h.pending))
    (CacheStats n.hits n.misses n.cached (length h.pending))

-- a step of an operation that asks for them is answered with them
abbrev pub AnswersStats : ClientValue → Made → Type 0
AnswersStats h done = IfSome h.doing (λ (d : Doing). IsTrue (says_stats d.does) → IsStatsOf h done)

-- an answer with such numbers has those
abbrev pub AnswersNumbers : ClientValue → Made → Type 0
AnswersNumbers h (made.Answer told (CacheStats hits misses cached pending)) =
    IsStatsOf h (made.Answer told (CacheStats hits misses cached pending))
AnswersNumbers h _ = Unit {0}
