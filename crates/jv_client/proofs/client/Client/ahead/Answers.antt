-- What is looked up is what the views of the operation's handle show, and the cache has the entries that it had.
use Rattle.std.proofs.Common.{◌≡◌, ◌∙◌, List, Option, Some, ap, subst, sym}
use Rattle.std.specs.Option.{option_copied}
use Rattle.jv_model.specs.promise.client.ModelClient.{file_of}
use Rattle.jv_client_handles.specs.declared.handle.Handle.{Handle}
use Rattle.jv_client.specs.ClientValue.{ClientValue}
use Rattle.jv_client.specs.Reading.{OnlyLooksUp, came}
use Rattle.jv_client.proofs.held.LimitsLaws.{limits-looked}
use Rattle.jv_client.proofs.reads.LookedUpLaws.{only-looks}
use Rattle.jv_client.proofs.client.Client.ahead.Goals as goal

pub invariant_of-self : goal.invariant_of-self
invariant_of-self c =
    limits-looked _ c.args.fetch (came c.read_ahead.result) c.self.inside.limits c.self.inside.pending
    c.self.inside.cache c.in-Some-Some.cache c.read_ahead.new.cache c.in-Some-Some.is-1 c.read_ahead.ensures.looks
    c.self.invariant

pub returns-clause-looks : goal.returns-clause-looks
returns-clause-looks c =
    let h : ClientValue = c.args.self.now in
    let handle = c.handle_in_use-handle.result in
    let later = c.read_ahead.new.cache in
    let handles : c.deref.result.now ≡ h.handles =
    c.deref.ensures.value ∙ ap (λ (v : ClientValue). v.handles) c.self.view_is in
    let opened : file_of h.handles handle ≡ Some c.in-Some-Some.open.now =
    sym (ap (λ (hs : List (Option Handle)). file_of hs handle) handles) ∙ sym c.named.ensures
    ∙ ap option_copied c.in-Some-Some.is-0 in
    subst (λ (v : ClientValue). OnlyLooksUp c.args.fetch (came c.read_ahead.result) h (record v { cache = Some later }))
    (sym c.self.view_is)
    (only-looks c.args.fetch (came c.read_ahead.result) h handle c.in-Some-Some.open.now c.in-Some-Some.cache later
    c.requires.busy c.handle_in_use-handle.ensures opened
    (sym (ap (λ (v : ClientValue). v.cache) c.self.view_is) ∙ c.in-Some-Some.is-1) c.read_ahead.ensures.looks)
