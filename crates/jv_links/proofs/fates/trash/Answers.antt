use Rattle.jv_links.proofs.losses.TrashingLaws.{trash-no_hour, trash-no_entry, trash-ends}
use Rattle.jv_links.proofs.fates.trash.Goals as goal

pub returns-in_err-hour : goal.returns-in_err-hour
returns-in_err-hour g c =
    trash-no_hour c.args.now (record { dir = c.args.dir; name = c.args.name.now }) c.args.inode c.args.draft.now
    c.enter_hour.new.draft
    (g.K.Keeper.seen c.args.k.now) (g.K.Keeper.seen c.enter_hour.new.k)
    c.from_residual.result c.in_err-hour.field-0.0 c.from_residual.ensures.1 c.in_err-hour.ensures.step

pub returns-in_err-put_entry : goal.returns-in_err-put_entry
returns-in_err-put_entry g c =
    trash-no_entry c.args.now (record { dir = c.args.dir; name = c.args.name.now }) c.args.inode c.args.draft.now
    c.enter_hour.new.draft
    (g.K.Keeper.seen c.args.k.now) (g.K.Keeper.seen c.enter_hour.new.k) c.in_ok-hour.hour c.in_ok-hour.ensures.inode
    c.in_ok-hour.ensures.step
    c.in_ok-name.name c.in_ok-name.ensures c.put_entry.new.draft (g.K.Keeper.seen c.put_entry.new.k)
    c.from_residual-in_err-put_entry.result c.in_err-put_entry.field-0.0 c.from_residual-in_err-put_entry.ensures.1
    c.in_err-put_entry.ensures

pub returns : goal.returns
returns g c =
    trash-ends c.args.now (record { dir = c.args.dir; name = c.args.name.now }) c.args.inode c.args.draft.now
    c.enter_hour.new.draft
    (g.K.Keeper.seen c.args.k.now) (g.K.Keeper.seen c.enter_hour.new.k) c.in_ok-hour.hour c.in_ok-hour.ensures.inode
    c.in_ok-hour.ensures.step
    c.in_ok-name.name c.in_ok-name.ensures c.put_entry.new.draft (g.K.Keeper.seen c.put_entry.new.k)
    c.change_status.result c.change_status.new.draft (g.K.Keeper.seen c.change_status.new.k) c.in_ok-put_entry.ensures
    c.change_status.ensures
