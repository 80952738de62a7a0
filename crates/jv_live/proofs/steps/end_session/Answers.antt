use Rattle.jv_rows_drafts.proofs.DraftedLaws.{was_drafted}
use Rattle.jv_live.proofs.DraftLaws.{drafting-end_session}
use Rattle.jv_live.proofs.steps.end_session.Goals as goal

pub returns : goal.returns
returns c store =
    drafting-end_session c.args.draft.now c.drop_session.new.self store c.args.sid
    (was_drafted _ _ c.args.draft.now c.drop_session.new.self c.drop_session.result c.in_ok-drop_session.was c.drop_session.ensures)
