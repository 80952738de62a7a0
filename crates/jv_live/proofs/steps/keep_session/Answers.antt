use Rattle.jv_rows_drafts.proofs.DraftedLaws.{was_drafted}
use Rattle.jv_live.proofs.DraftLaws.{drafting-keep_session}
use Rattle.jv_live.proofs.steps.keep_session.Goals as goal

pub returns : goal.returns
returns c store =
    drafting-keep_session c.args.draft.now c.put_session.new.self store c.args.sid c.args.session.now
    (was_drafted _ _ c.args.draft.now c.put_session.new.self c.put_session.result c.in_ok-put_session.was c.put_session.ensures)
