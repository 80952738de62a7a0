use Rattle.std.proofs.Common.{None, Some, Ok, Err, refl, ap}
use Rattle.std.proofs.lemmas.Result.{err_from_is_err_and}
use Rattle.jv_rows.proofs.transactions.NeedingLaws.{session_is, session-seen, session-unread, session-there, session-gone}
use Rattle.jv_rows.proofs.needing.in_session.Goals as goal

pub returns-in_err-read_session : goal.returns-in_err-read_session
returns-in_err-read_session g c =
    let before = g.K.Keeper.seen c.args.k.now in
    let after = g.K.Keeper.seen c.read_session.new.k in
    let fault = c.in_err-read_session.field-0.0 in
    let p = err_from_is_err_and c.from_residual.result c.from_residual.ensures.1 in
    rw (p.1, p.2)
    (session-unread c.args.sid before after (session_is c.args.sid) fault (session-seen c.args.sid before after (Err fault) (Err fault) refl c.in_err-read_session.ensures))

pub returns-in-Some : goal.returns-in-Some
returns-in-Some g c =
    let before = g.K.Keeper.seen c.args.k.now in
    let after = g.K.Keeper.seen c.read_session.new.k in
    let session = c.in-Some.field-0 in
    session-there c.args.sid before after session
    (session-seen c.args.sid before after (Ok c.in_ok-read_session.field-0) (Ok (Some session)) (ap (λ o. Ok o) c.in-Some.is) c.in_ok-read_session.ensures)

pub returns-in-None : goal.returns-in-None
returns-in-None g c =
    let before = g.K.Keeper.seen c.args.k.now in
    let after = g.K.Keeper.seen c.read_session.new.k in
    session-gone c.args.sid before after
    (session-seen c.args.sid before after (Ok c.in_ok-read_session.field-0) (Ok None) (ap (λ o. Ok o) c.in-None.is) c.in_ok-read_session.ensures)
