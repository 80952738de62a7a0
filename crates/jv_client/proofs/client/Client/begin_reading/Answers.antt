-- A reading begins, and goes ahead as far as it needs no request.
use Rattle.std.proofs.Common.{◌≡◌, Option, None, Some, refl, sym, ap, subst, ◌∙◌}
use Rattle.std.specs.Option.{option_map}
use Rattle.jv_cache.specs.Cached.{Cached}
use Rattle.jv_client.specs.declared.doing.Progress.TheVariants.{Reading}
use Rattle.jv_client.specs.ClientValue.{ClientValue}
use Rattle.jv_client.specs.Reading.{IsCachedAs, IsMade, put_at}
use Rattle.jv_client.proofs.reads.ReadingLaws.{ahead-cached, begins-none, begins-some, same-cached}
use Rattle.jv_client.proofs.client.Client.begin_reading.Goals as goal
use Rattle.jv_model.proofs.TestLaws.{on_err}

pub returns-in_err-fetch-clause-err : goal.returns-in_err-fetch-clause-err
returns-in_err-fetch-clause-err c = on_err c.from_residual.result _ (same-cached c.args.offset c.args.len c.args.block c.args.self.now)

pub returns-in_err-make_cache-clause-err : goal.returns-in_err-make_cache-clause-err
returns-in_err-make_cache-clause-err c =
    let h : ClientValue = c.args.self.now in
    let none = c.in_err-make_cache.ensures.err in
    let is : record h { cache = c.make_cache.new.cache } ≡ h =
    ap (λ (cache : Option Cached). record h { cache = cache }) (none ∙ ap (λ (h : ClientValue). h.cache) c.self.view_is) in
    on_err c.from_residual-in_err-make_cache.result _
    (subst (λ (after : ClientValue). IsCachedAs c.args.offset c.args.len c.args.block h after)
    (sym (ap (λ (h : ClientValue). record h { cache = c.make_cache.new.cache }) c.self.view_is ∙ is))
    (same-cached c.args.offset c.args.len c.args.block h))

pub returns-in_err-found-clause-err : goal.returns-in_err-found-clause-err
returns-in_err-found-clause-err c =
    let made = c.make_cache.new.cache in
    let entries = c.self.inside.limits.entries in
    on_err c.from_residual-in_err-found.result _
    (ahead-cached entries c.args.self.now _ c.ahead.new.self made
    (ap (λ (h : ClientValue). h.limits.entries) c.self.view_is)
    (subst (λ (o : Option Cached). IsMade entries o made) (ap (λ (h : ClientValue). h.cache) c.self.view_is)
    c.in_ok-make_cache.ensures.made)
    (ap (λ (h : ClientValue). record h { cache = made }) c.self.view_is) c.in_ok-fetch.fetch None c.in_err-found.ensures.looks
    c.args.offset c.args.len c.args.block c.in_ok-fetch.ensures refl)

pub returns-in-Read-clause-ok : goal.returns-in-Read-clause-ok
returns-in-Read-clause-ok c =
    let made = c.make_cache.new.cache in
    let entries = c.self.inside.limits.entries in
    begins-some entries c.args.self.now _ c.ahead.new.self made
    (ap (λ (h : ClientValue). h.limits.entries) c.self.view_is)
    (subst (λ (o : Option Cached). IsMade entries o made) (ap (λ (h : ClientValue). h.cache) c.self.view_is)
    c.in_ok-make_cache.ensures.made)
    (ap (λ (h : ClientValue). record h { cache = made }) c.self.view_is) c.in_ok-fetch.fetch (Some c.in_ok-found.field-0)
    c.in_ok-found.ensures.looks
    c.args.offset c.args.len c.args.block c.requires.reads c.requires.ready c.requires.flushed c.requires.first
    c.in_ok-found.field-0 c.in-Read.found refl c.in_ok-fetch.ensures c.in-Read.is c.in_ok-found.ensures.comes

pub returns-in-Needs-clause-ok : goal.returns-in-Needs-clause-ok
returns-in-Needs-clause-ok c =
    let made = c.make_cache.new.cache in
    let entries = c.self.inside.limits.entries in
    begins-none entries c.args.self.now _ c.ahead.new.self made
    (ap (λ (h : ClientValue). h.limits.entries) c.self.view_is)
    (subst (λ (o : Option Cached). IsMade entries o made) (ap (λ (h : ClientValue). h.cache) c.self.view_is)
    c.in_ok-make_cache.ensures.made)
    (ap (λ (h : ClientValue). record h { cache = made }) c.self.view_is) c.in_ok-fetch.fetch (Some c.in_ok-found.field-0)
    c.in_ok-found.ensures.looks
    c.args.offset c.args.len c.args.block c.requires.reads c.requires.ready c.requires.flushed c.requires.first
    c.in_ok-found.field-0 c.in-Needs.fetch c.in-Needs.need refl c.in_ok-fetch.ensures c.in-Needs.is
    c.in_ok-found.ensures.comes c.read_from.new.doing _
    (c.read_from.ensures
    ∙ ap (λ (h : ClientValue). option_map (put_at (Reading c.in-Needs.fetch c.in-Needs.need)) h.doing) c.self-2.view_is)
    (ap (λ (h : ClientValue). record h { doing = c.read_from.new.doing }) c.self-2.view_is)
