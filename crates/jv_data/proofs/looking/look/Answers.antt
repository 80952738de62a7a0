use Rattle.std.proofs.lemmas.Result.{err_from_is_err_and}
use Rattle.jv_data.proofs.lists.RecordsLaws.{look-unread}
use Rattle.jv_data.proofs.looking.look.Goals as goal

pub returns-in_err-list : goal.returns-in_err-list
returns-in_err-list g c =
    let p = err_from_is_err_and c.from_residual-in_err-list.result c.from_residual-in_err-list.ensures.1 in
    rw (p.1, p.2)
    (look-unread c.args.who.now.sid c.args.inode c.args.window (g.K.Keeper.seen c.args.k.now) (g.K.Keeper.seen c.file.new.k)
    (g.K.Keeper.seen c.records.new.k) c.in_ok-file.file c.in_err-list.field-0.0 c.in_ok-file.ensures c.in_err-list.ensures)
