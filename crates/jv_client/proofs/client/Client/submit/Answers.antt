-- The client in memory and the model's are refused alike, and begin alike.
use Rattle.std.proofs.Common.{◌≡◌, ◌<◌, is_some, sym, ap, subst, ◌∙◌, Option, Some}
use Rattle.jv_model.specs.promise.client.Profile.{profile}
use Rattle.jv_model.specs.declared.profile.Profile.{Profile}
use Rattle.jv_model.specs.promise.client.ModelClient.{open_count}
use Rattle.jv_model.specs.promise.client.Submission.{submitted, submission_of, names_closed, by_limits}
use Rattle.jv_client.specs.declared.doing.Doing.{Doing}
use Rattle.jv_client.specs.ClientValue.{ClientValue}
use Rattle.jv_client.specs.Held.{IsClient, begun, flush_here}
use Rattle.jv_client.specs.UnderWay.{IsReady, most_steps, steps_left}
use Rattle.jv_client.proofs.begun.ReadyLaws.{begun-ready, steps-bounded}
use Rattle.jv_client.proofs.begun.SubmissionLaws.{refusal-by, refusal-calm, begun-stands}
use Rattle.jv_client.proofs.client.Client.submit.Goals as goal

pub returns-in-Some-clause-refusal : goal.returns-in-Some-clause-refusal
returns-in-Some-clause-refusal c g all m count h = sym c.in-Some.is
    ∙ refusal-by g all m count c.args.self.now c.args.op c.profile-row.result c.refusal.result h c.profile-row.ensures
    c.refusal.ensures

pub returns-in-Some-clause-calm : goal.returns-in-Some-clause-calm
returns-in-Some-clause-calm c =
    let value : ClientValue = c.args.self.now in
    let row = c.profile-row.result in
    refusal-calm (is_some value.doing) (is_some value.session) (names_closed value.handles row.handles)
    (open_count value.handles) row c.in-Some.fault (sym c.refusal.ensures ∙ c.in-Some.is)

pub returns-clause-refusal : goal.returns-clause-refusal
returns-clause-refusal c g all m count h = sym c.in_default.is
    ∙ refusal-by g all m count c.args.self.now c.args.op c.profile-row.result c.refusal.result h c.profile-row.ensures
    c.refusal.ensures

pub returns-clause-begun : goal.returns-clause-begun
returns-clause-begun c g all m count h =
    let value : ClientValue = c.args.self.now in
    let o = c.args.op in
    let row : c.profile-row.result ≡ profile o = c.profile-row.ensures in
    let seen = c.self.view_is in
    let does = c.by_limits-does.ensures ∙ ap (λ (r : Profile). by_limits c.self.inside.limits r.does) row
    ∙ ap (λ (v : ClientValue). by_limits v.limits (profile o).does) seen in
    let flush = c.flush_of-flush.ensures ∙ ap (λ (r : Profile). flush_here value r) row in
    let doing = c.begun.ensures ∙ ap (λ does. begun o does c.flush_of-flush.result) does
    ∙ ap (begun o (by_limits value.limits (profile o).does)) flush in
    let stands = subst (λ (d : Doing). IsClient g all (submitted value.limits o m) count
    (record value { doing = Some d })) (sym doing) (begun-stands g all m count value o h) in
    let placed = subst (λ (d : Option Doing). IsClient g all (submitted value.limits o m) count
    (record value { doing = d })) (sym c.begin.ensures) stands in
    subst (λ (v : ClientValue). IsClient g all (submitted value.limits o m) count
    (record v { doing = c.begin.new.doing })) (sym seen) placed

pub returns-clause-ready : goal.returns-clause-ready
returns-clause-ready c ready built =
    let value : ClientValue = c.args.self.now in
    let o = c.args.op in
    let row : c.profile-row.result ≡ profile o = c.profile-row.ensures in
    let seen = c.self.view_is in
    let does = c.by_limits-does.ensures ∙ ap (λ (r : Profile). by_limits c.self.inside.limits r.does) row
    ∙ ap (λ (v : ClientValue). by_limits v.limits (profile o).does) seen in
    let flush = c.flush_of-flush.ensures ∙ ap (λ r. flush_here value r) row in
    let doing = c.begun.ensures ∙ ap (λ does. begun o does c.flush_of-flush.result) does
    ∙ ap (begun o (by_limits value.limits (profile o).does)) flush in
    let none = sym (c.refusal.ensures ∙ ap (λ (r : Profile). submission_of (is_some value.doing)
    (is_some value.session) (names_closed value.handles r.handles) (open_count value.handles) r) row)
    ∙ c.in_default.is in
    let stands = begun-ready value o c.begun.result ready built none doing in
    let placed = subst (λ (d : Option Doing). IsReady (record value { doing = d })) (sym c.begin.ensures) stands in
    subst (λ (v : ClientValue). IsReady (record v { doing = c.begin.new.doing })) (sym seen) placed

pub returns-clause-bounded : goal.returns-clause-bounded
returns-clause-bounded c =
    let value : ClientValue = c.args.self.now in
    let o = c.args.op in
    let row : c.profile-row.result ≡ profile o = c.profile-row.ensures in
    let seen = c.self.view_is in
    let does = c.by_limits-does.ensures ∙ ap (λ (r : Profile). by_limits c.self.inside.limits r.does) row
    ∙ ap (λ (v : ClientValue). by_limits v.limits (profile o).does) seen in
    let flush = c.flush_of-flush.ensures ∙ ap (λ r. flush_here value r) row in
    let doing = c.begun.ensures ∙ ap (λ does. begun o does c.flush_of-flush.result) does
    ∙ ap (begun o (by_limits value.limits (profile o).does)) flush in
    let few = steps-bounded value o c.begun.result doing in
    let placed = subst (λ (d : Option Doing). steps_left (record value { doing = d }) < most_steps value o)
    (sym c.begin.ensures) few in
    subst (λ (v : ClientValue). steps_left (record v { doing = c.begin.new.doing }) < most_steps value o) (sym seen) placed
