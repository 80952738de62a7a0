-- The bytes are pending, or memory ran out.
use Rattle.std.proofs.Common.{◌≡◌, None, Some, ap, sym, subst, ◌∙◌}
use Rattle.std.specs.Prelude.{IfSome, IsTrue}
use Rattle.jv_pending.specs.Held.{PendingValue}
use Rattle.jv_client.specs.declared.doing.Doing.{Doing}
use Rattle.jv_client.specs.ClientValue.{ClientValue}
use Rattle.jv_client.specs.Ending.{ended}
use Rattle.jv_client.specs.UnderWay.{keeps}
use Rattle.jv_client.specs.contracts.client.Client.{the_view}
use Rattle.jv_client.proofs.steps.AnswerLaws.{no_memory-makes}
use Rattle.jv_client.proofs.writes.WriteLaws.{may_keep, write_kept}
use Rattle.jv_client.proofs.client.Client.write.Goals as goal

pub keep-kept-requires : goal.keep-kept-requires
keep-kept-requires c =
    let h = c.args.self.now in
    let seen = c.self.view_is in
    let d = c.in-Some.doing in
    let busy : h.doing ≡ Some d = ap (λ (v : ClientValue). v.doing) (sym seen) ∙ c.in-Some.is in
    may_keep h d busy c.requires.ready (subst (λ o. IfSome o (λ (d : Doing). IsTrue (keeps d.does))) busy c.requires.writes)
    c.requires.flushed c.deref.result.now
    c.self.inside.pending (c.deref.ensures.value ∙ ap (λ (v : ClientValue). v.handles) seen)
    (ap (λ (v : ClientValue). v.pending) seen)
    (c.self.invariant.buffer ∙ ap (λ (v : ClientValue). v.limits.buffer) seen)

pub returns-in_default : goal.returns-in_default
returns-in_default c now entry v =
    let h = c.args.self.now in
    let before = the_view c.self.inside in
    let busy = ap (λ (v : ClientValue). v.doing) (sym c.self.view_is) ∙ c.in-Some.is in
    let same = ap (λ (p : PendingValue). let v : ClientValue = record before { pending = p.bytes; doing = None } in v)
    c.in_default.ensures.err in
    no_memory-makes now entry h c.fail.new.self c.in-Some.doing v c.fail.result busy c.requires.ready
    (record { after_is = c.fail.ensures.after_is ∙ same ∙ ap ended c.self.view_is; made_is = c.fail.ensures.made_is })

pub returns : goal.returns
returns c now entry v =
    let h = c.args.self.now in
    let d = c.in-Some.doing in
    let seen = c.self.view_is in
    let busy : h.doing ≡ Some d = ap (λ (v : ClientValue). v.doing) (sym seen) ∙ c.in-Some.is in
    let handles = c.deref.ensures.value ∙ ap (λ (v : ClientValue). v.handles) seen in
    let pending = ap (λ (v : ClientValue). v.pending) seen in
    let after = ap (λ (v : ClientValue). record v {
      pending = c.keep-kept.new.pending.bytes;
      doing = c.forget.new.doing;
    }) seen
    ∙ ap (λ doing. record h { pending = c.keep-kept.new.pending.bytes; doing = doing }) c.forget.ensures in
    write_kept h d busy c.requires.ready
    (subst (λ o. IfSome o (λ (d : Doing). IsTrue (keeps d.does))) busy c.requires.writes)
    c.requires.flushed now entry _ v c.in-Ok.count
    c.deref.result.now c.self.inside.pending c.keep-kept.new.pending handles pending c.in-Ok.ensures.ok after
