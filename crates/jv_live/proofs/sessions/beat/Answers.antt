use Rattle.std.proofs.Common.{ℕ, ◌+◌, Option, Ok, sym, ap, subst, ◌∙◌}
use Rattle.std.proofs.lemmas.Result.{err_from_is_err_and}
use Rattle.jv_model.proofs.TestLaws.{none_unless}
use Rattle.jv_model.specs.declared.row.Row.TheVariants.{OfSession}
use Rattle.jv_model.specs.declared.row.Session.{Session}
use Rattle.jv_model.specs.promise.rows.RowGrammar.{is_session}
use Rattle.jv_model.specs.promise.rows.RowPlaces.{session_key}
use Rattle.jv_rows.specs.Drafts.{Sees}
use Rattle.jv_live.proofs.SessionLaws.{beat-unread, beat-gone, beat-fell, beat-commits}
use Rattle.jv_live.proofs.sessions.beat.Goals as goal

pub returns-in_err-session : goal.returns-in_err-session
returns-in_err-session g c caller asks =
    let p = err_from_is_err_and c.from_residual.result c.from_residual.ensures.1 in
    rw (p.1, p.2)
    (beat-unread c.args.who.now caller asks (g.K.Keeper.seen c.args.k.now) (g.K.Keeper.seen c.session.new.k) c.new-draft.result c.new-draft.ensures
    c.in_err-session.field-0.0 c.in_err-session.ensures)

pub returns-in_default : goal.returns-in_default
returns-in_default g c caller asks =
    beat-gone c.args.who.now caller asks (g.K.Keeper.seen c.args.k.now) (g.K.Keeper.seen c.session.new.k) c.new-draft.result c.new-draft.ensures
    (subst (λ (found : Option Session). Sees OfSession is_session (session_key c.args.who.now.sid) c.new-draft.result (g.K.Keeper.seen c.args.k.now)
    (g.K.Keeper.seen c.session.new.k) (Ok found)) (none_unless c.in_ok-session.field-0 c.in_default.not-Some) c.in_ok-session.ensures)

pub returns-in_err-keep_session : goal.returns-in_err-keep_session
returns-in_err-keep_session g c caller asks =
    let p = err_from_is_err_and c.from_residual-in_err-keep_session.result c.from_residual-in_err-keep_session.ensures.1 in
    rw (p.1, p.2)
    (beat-fell c.args.who.now caller asks (g.K.Keeper.seen c.args.k.now) (g.K.Keeper.seen c.session.new.k) c.new-draft.result c.new-draft.ensures
    c.in-Some.session (record { client = c.in-Some.session.client; expiry = c.seconds.result + 60 })
    (subst (λ (found : Option Session). Sees OfSession is_session (session_key c.args.who.now.sid) c.new-draft.result (g.K.Keeper.seen c.args.k.now)
    (g.K.Keeper.seen c.session.new.k) (Ok found)) c.in-Some.is c.in_ok-session.ensures)
    (ap (λ (now : ℕ). record { client = c.in-Some.session.client; expiry = now + 60 }) (c.seconds.ensures.seconds ∙ sym asks.now))
    c.keep_session.new.draft c.in_err-keep_session.field-0.0 (c.in_err-keep_session.ensures (g.K.Keeper.seen c.session.new.k)))

pub returns-in-Ok : goal.returns-in-Ok
returns-in-Ok g c caller asks =
    beat-commits c.args.who.now caller asks (g.K.Keeper.seen c.args.k.now) (g.K.Keeper.seen c.session.new.k) c.new-draft.result c.new-draft.ensures
    c.in-Some.session (record { client = c.in-Some.session.client; expiry = c.seconds.result + 60 })
    (subst (λ (found : Option Session). Sees OfSession is_session (session_key c.args.who.now.sid) c.new-draft.result (g.K.Keeper.seen c.args.k.now)
    (g.K.Keeper.seen c.session.new.k) (Ok found)) c.in-Some.is c.in_ok-session.ensures)
    (ap (λ (now : ℕ). record { client = c.in-Some.session.client; expiry = now + 60 }) (c.seconds.ensures.seconds ∙ sym asks.now))
    c.keep_session.new.draft (g.K.Keeper.seen c.commit.new.k) (c.in_ok-keep_session.ensures (g.K.Keeper.seen c.session.new.k)) c.in-Ok.ensures
