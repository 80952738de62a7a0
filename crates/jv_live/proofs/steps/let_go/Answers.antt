use Rattle.jv_rows_drafts.proofs.DraftedLaws.{was_drafted}
use Rattle.jv_live.proofs.DraftLaws.{drafting-let_go}
use Rattle.jv_live.proofs.steps.let_go.Goals as goal

pub returns : goal.returns
returns c store =
    drafting-let_go c.args.draft.now c.drop_sustained.new.self store c.args.sid c.args.inode c.ranges.inode.fits
    (was_drafted _ _ c.args.draft.now c.drop_sustained.new.self c.drop_sustained.result c.in_ok-drop_sustained.was c.drop_sustained.ensures)
