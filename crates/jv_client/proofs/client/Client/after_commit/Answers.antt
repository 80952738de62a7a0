-- Another segment is asked for; a write that had to wait is done; or the operation is answered with its last commit, or goes on.
use Rattle.std.proofs.Common.{subst}
use Rattle.std.specs.Prelude.{IfSome}
use Rattle.jv_client.specs.Flushing.{NextOf}
use Rattle.jv_client.proofs.flushes.AfterFlushLaws.{follows-answer, follows-request, follows-segment, follows-write, none_left}
use Rattle.jv_client.proofs.flushes.AfterFlushLaws.{some_left}
use Rattle.jv_client.proofs.client.Client.after_commit.Goals as goal
use Rattle.std.proofs.Common.{refl}

pub returns-then-is_some : goal.returns-then-is_some
returns-then-is_some c =
    let h = c.args.self.now in
    follows-segment h.doing c.args.commit h c.request.new.self c.request.result refl
    (some_left c.segment_left.result _ c.segment_left.ensures.least c.if-is_some.ensures) c.request.ensures.asked
    c.request.ensures.made

pub returns-in-Some : goal.returns-in-Some
returns-in-Some c =
    let h = c.args.self.now in
    follows-write h.doing c.args.commit h c.written-told.new.self c.in-Some.pending c.written-told.result
    (none_left c.segment_left.result _ c.segment_left.ensures.least c.if-is_some.ensures)
    (subst (λ next. IfSome h.doing (λ d. NextOf d 0 h next)) c.in-Some.is c.requires.next) c.written-told.ensures.kept
    c.written-told.ensures.told

pub returns-in-Some-end : goal.returns-in-Some-end
returns-in-Some-end c =
    let h = c.args.self.now in
    follows-answer h.doing c.args.commit h c.end.new.self c.in-Some-end.told c.in-Some-end.reply
    (none_left c.segment_left.result _ c.segment_left.ensures.least c.if-is_some.ensures)
    (subst (λ next. IfSome h.doing (λ d. NextOf d 0 h next)) c.in_default.is c.requires.next) c.in-Some-end.ensures

pub returns-in-None : goal.returns-in-None
returns-in-None c =
    let h = c.args.self.now in
    follows-request h.doing c.args.commit h c.end.new.self c.request-in-None.new.self c.request-in-None.result refl
    c.in-None.ensures c.request-in-None.ensures.asked c.request-in-None.ensures.made
