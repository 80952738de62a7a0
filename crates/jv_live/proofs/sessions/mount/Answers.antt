use Rattle.std.proofs.Common.{◌+◌, sym, ◌∙◌}
use Rattle.std.proofs.lemmas.Result.{err_from_is_err_and}
use Rattle.jv_rows_drafts.proofs.DraftedLaws.{was_drafted}
use Rattle.jv_live.proofs.SessionLaws.{mount-uncounted, mount-full, mount-fell, mount-commits}
use Rattle.jv_live.proofs.sessions.mount.Goals as goal

pub returns-in_err-counters : goal.returns-in_err-counters
returns-in_err-counters g c caller client_is now_is =
    let p = err_from_is_err_and c.from_residual.result c.from_residual.ensures.1 in
    rw (p.1, p.2)
    (mount-uncounted caller (g.K.Keeper.seen c.args.k.now) (g.K.Keeper.seen c.needed_counters.new.k) c.new-draft.result c.new-draft.ensures
    c.in_err-counters.field-0.0 c.in_err-counters.ensures)

pub returns-then-sid-ge-FULL_COUNT : goal.returns-then-sid-ge-FULL_COUNT
returns-then-sid-ge-FULL_COUNT g c caller client_is now_is =
    mount-full caller (g.K.Keeper.seen c.args.k.now) (g.K.Keeper.seen c.needed_counters.new.k) c.new-draft.result c.new-draft.ensures
    c.in_ok-counters.counters c.in_ok-counters.ensures c.if-sid-ge-FULL_COUNT.true

pub returns-in_err-keep_session : goal.returns-in_err-keep_session
returns-in_err-keep_session g c caller client_is now_is =
    let p = err_from_is_err_and c.from_residual-in_err-keep_session.result c.from_residual-in_err-keep_session.ensures.1 in
    rw (p.1, p.2)
    (mount-fell caller (g.K.Keeper.seen c.args.k.now) (g.K.Keeper.seen c.needed_counters.new.k) c.new-draft.result c.new-draft.ensures
    c.in_ok-counters.counters c.in_ok-counters.ensures c.if-sid-ge-FULL_COUNT.false c.put_counters.new.self c.keep_session.new.draft
    (was_drafted _ _ c.new-draft.result c.put_counters.new.self c.put_counters.result c.in_ok-put_counters.was c.put_counters.ensures)
    (record { client = c.number.result; expiry = c.seconds.result + 60 })
    (λ i. record { client = (c.number.ensures.number ∙ sym client_is) i; expiry = (c.seconds.ensures.seconds ∙ sym now_is) i + 60 })
    c.in_err-keep_session.field-0.0 (c.in_err-keep_session.ensures (g.K.Keeper.seen c.needed_counters.new.k)))

pub returns-in-Ok : goal.returns-in-Ok
returns-in-Ok g c caller client_is now_is =
    mount-commits caller (g.K.Keeper.seen c.args.k.now) (g.K.Keeper.seen c.needed_counters.new.k) c.new-draft.result c.new-draft.ensures
    c.in_ok-counters.counters c.in_ok-counters.ensures c.if-sid-ge-FULL_COUNT.false c.put_counters.new.self c.keep_session.new.draft
    (was_drafted _ _ c.new-draft.result c.put_counters.new.self c.put_counters.result c.in_ok-put_counters.was c.put_counters.ensures)
    (record { client = c.number.result; expiry = c.seconds.result + 60 })
    (λ i. record { client = (c.number.ensures.number ∙ sym client_is) i; expiry = (c.seconds.ensures.seconds ∙ sym now_is) i + 60 })
    (g.K.Keeper.seen c.commit.new.k) (c.in_ok-keep_session.ensures (g.K.Keeper.seen c.needed_counters.new.k)) c.in-Ok.ensures
