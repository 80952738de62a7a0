-- The numbers are those of the cache, and the model takes them as they are.
use Rattle.std.proofs.Common.{length, ap, subst, refl, ◌∙◌}
use Rattle.std.specs.Prelude.{IfSome, IsTrue}
use Rattle.jv_model.specs.declared.act.Told.TheVariants.{Fine}
use Rattle.jv_model.specs.declared.op.Reply.TheVariants.{CacheStats}
use Rattle.jv_client_handles.proofs.TableLaws.{the_some}
use Rattle.jv_client.specs.declared.doing.Doing.{Doing}
use Rattle.jv_client.specs.declared.made.Made.TheVariants.{Answer}
use Rattle.jv_client.specs.ClientValue.{ClientValue}
use Rattle.jv_client.specs.Ending.{ended}
use Rattle.jv_client.specs.Stats.{numbers_in}
use Rattle.jv_client.specs.UnderWay.{says_stats}
use Rattle.jv_client.proofs.steps.AnswerLaws.{makes-as}
use Rattle.jv_client.proofs.steps.AnsweredAtOnceLaws.{stats_told}
use Rattle.jv_client.proofs.client.Client.say_stats.Goals as goal

pub returns-clause-made : goal.returns-clause-made
returns-clause-made c now entry v =
    let h : ClientValue = c.args.self.now in
    let seen = c.self.view_is in
    let doing = the_some h.doing c.requires.busy in
    let hits = c.cache_numbers-hits.result.0 in
    let misses = c.cache_numbers-hits.result.1 in
    let cached = c.cache_numbers-hits.result.2 in
    let after = ap (λ (v : ClientValue). record v { doing = c.forget.new.doing }) seen
    ∙ ap (λ doing. record h { doing = doing }) c.forget.ensures in
    let pending = c.bytes-pending.ensures.count ∙ ap (λ (v : ClientValue). length v.pending) seen in
    let same_hits = c.cache_numbers-hits.ensures.hits ∙ ap (λ (v : ClientValue). (numbers_in v.cache).hits) seen in
    let same_misses = c.cache_numbers-hits.ensures.misses ∙ ap (λ (v : ClientValue). (numbers_in v.cache).misses) seen in
    let same_cached = c.cache_numbers-hits.ensures.cached ∙ ap (λ (v : ClientValue). (numbers_in v.cache).cached) seen in
    let m = numbers_in h.cache in
    let n = length h.pending in
    makes-as now entry h _ (ended h) v v v _
    (Answer (Fine hits misses cached (length h.pending)) (CacheStats hits misses cached (length h.pending))) after refl
    (ap (λ n. Answer (Fine hits misses cached n) (CacheStats hits misses cached n)) pending)
    (stats_told now entry h v doing.0 doing.1 c.requires.ready c.requires.flushed
    (subst (λ o. IfSome o (λ (d : Doing). IsTrue (says_stats d.does))) doing.1 c.requires.says) hits misses cached
    (ap (λ a. Answer (Fine a misses cached n) (CacheStats a misses cached n)) same_hits
    ∙ ap (λ a. Answer (Fine m.hits a cached n) (CacheStats m.hits a cached n)) same_misses
    ∙ ap (λ a. Answer (Fine m.hits m.misses a n) (CacheStats m.hits m.misses a n)) same_cached))

pub returns-clause-numbers : goal.returns-clause-numbers
returns-clause-numbers c =
    let seen = c.self.view_is in
    let n = c.cache_numbers-hits.result in
    let hits = c.cache_numbers-hits.ensures.hits ∙ ap (λ (v : ClientValue). (numbers_in v.cache).hits) seen in
    let misses = c.cache_numbers-hits.ensures.misses ∙ ap (λ (v : ClientValue). (numbers_in v.cache).misses) seen in
    let cached = c.cache_numbers-hits.ensures.cached ∙ ap (λ (v : ClientValue). (numbers_in v.cache).cached) seen in
    let pending = c.bytes-pending.ensures.count ∙ ap (λ (v : ClientValue). length v.pending) seen in
    let m = numbers_in c.args.self.now.cache in
    let bytes = c.bytes-pending.result in
    ap (λ a. Answer (Fine a n.1 n.2 bytes) (CacheStats a n.1 n.2 bytes)) hits
    ∙ ap (λ a. Answer (Fine m.hits a n.2 bytes) (CacheStats m.hits a n.2 bytes)) misses
    ∙ ap (λ a. Answer (Fine m.hits m.misses a bytes) (CacheStats m.hits m.misses a bytes)) cached
    ∙ ap (λ a. Answer (Fine m.hits m.misses m.cached a) (CacheStats m.hits m.misses m.cached a)) pending
