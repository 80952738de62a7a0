use Rattle.jv_rows_drafts.proofs.DraftedLaws.{was_drafted}
use Rattle.jv_rows_drafts.proofs.GoingLaws.{sustain-made}
use Rattle.jv_rows_drafts.proofs.nodes.sustain.Goals as goal

pub returns : goal.returns
returns g c =
    sustain-made (g.K.Keeper.seen c.args.k.now) c.args.draft.now c.put_sustained.new.self c.args.sid c.args.inode
    c.ranges.inode.fits
    (was_drafted _ _ _ _ c.put_sustained.result c.in_ok-put_sustained.was c.put_sustained.ensures)
