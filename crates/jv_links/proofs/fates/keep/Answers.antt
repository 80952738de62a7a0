use Rattle.jv_links.proofs.losses.TrashingLaws.{keep-no_status, keep-ends}
use Rattle.jv_links.proofs.fates.keep.Goals as goal

pub returns-in_err-change_status : goal.returns-in_err-change_status
returns-in_err-change_status g c caller is_for =
    keep-no_status c.args.who.now caller is_for c.args.inode c.args.draft.now c.change_status.new.draft
    (g.K.Keeper.seen c.args.k.now) (g.K.Keeper.seen c.change_status.new.k)
    c.from_residual.result c.in_err-change_status.field-0.0 c.from_residual.ensures.1 c.in_err-change_status.ensures

pub returns : goal.returns
returns g c caller is_for =
    keep-ends c.args.who.now caller is_for c.args.inode c.args.draft.now c.change_status.new.draft
    (g.K.Keeper.seen c.args.k.now) (g.K.Keeper.seen c.change_status.new.k)
    c.sustain.result c.sustain.new.draft (g.K.Keeper.seen c.sustain.new.k) c.in_ok-change_status.ensures
    c.sustain.ensures
