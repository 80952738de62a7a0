use Rattle.std.proofs.Common.{Ok, Err, arith}
use Rattle.std.proofs.lemmas.Result.{err_from_is_err_and}
use Rattle.jv_model.specs.declared.fault.Fault.TheVariants.{FileTooLarge}
use Rattle.jv_model.specs.declared.fault.TxFault.TheVariants.{Refused, Rows as OfRows}
use Rattle.jv_model.specs.rows.RowFaults.{row_fault}
use Rattle.jv_data.proofs.truncates.TruncateEndsLaws.{ends-as, leave-sized, truncate-unread, truncate-too_long, truncate-no_room, truncate-unread_lists, truncate-down, truncate-done, truncate-lists, truncate-rest}
use Rattle.jv_data.proofs.truncating.truncate.Goals as goal

pub returns-in_err-was-clause-changes : goal.returns-in_err-was-clause-changes
returns-in_err-was-clause-changes g c caller for of =
    let p = err_from_is_err_and c.from_residual.result c.from_residual.ensures.1 in
    rw (p.1, p.2)
    (ends-as c.args.who.now c.args.inode c.args.len c.seconds-now.result (g.K.Keeper.seen c.args.k.now) (g.K.Keeper.seen c.file.new.k)
    (Err c.in_err-was.field-0.0) c.seconds-now.ensures.seconds
    (truncate-unread c.args.who.now.sid c.seconds-now.result c.args.inode c.args.len (g.K.Keeper.seen c.args.k.now) (g.K.Keeper.seen c.file.new.k) c.in_err-was.field-0.0 c.in_err-was.ensures) caller for of)

pub returns-then-len-gt-FILE_END-clause-changes : goal.returns-then-len-gt-FILE_END-clause-changes
returns-then-len-gt-FILE_END-clause-changes g c caller for of =
    ends-as c.args.who.now c.args.inode c.args.len c.seconds-now.result (g.K.Keeper.seen c.args.k.now) (g.K.Keeper.seen c.file.new.k)
    (Err (Refused FileTooLarge)) c.seconds-now.ensures.seconds
    (truncate-too_long c.args.who.now.sid c.seconds-now.result c.args.inode c.args.len (g.K.Keeper.seen c.args.k.now) (g.K.Keeper.seen c.file.new.k) c.in_ok-was.was' c.in_ok-was.ensures c.if-len-gt-FILE_END.true) caller for of

pub returns-in_err-resize-clause-changes : goal.returns-in_err-resize-clause-changes
returns-in_err-resize-clause-changes g c caller for of =
    let p = err_from_is_err_and c.from_residual-in_err-resize.result c.from_residual-in_err-resize.ensures.1 in
    rw (p.1, p.2)
    (ends-as c.args.who.now c.args.inode c.args.len c.seconds-now.result (g.K.Keeper.seen c.args.k.now) (g.K.Keeper.seen c.resize.new.k)
    (Err c.in_err-resize.field-0.0) c.seconds-now.ensures.seconds
    (truncate-no_room c.args.who.now.sid c.seconds-now.result c.args.inode c.args.len (g.K.Keeper.seen c.args.k.now) (g.K.Keeper.seen c.file.new.k) c.in_ok-was.was' c.in_ok-was.ensures
    (let low = c.if-len-gt-FILE_END.false in omega (arith, low)) (g.K.Keeper.seen c.resize.new.k) c.resize.new.draft c.in_err-resize.field-0.0 c.in_err-resize.ensures) caller for of)

pub shorten-requires-clause-leave : goal.shorten-requires-clause-leave
shorten-requires-clause-leave g c =
    leave-sized c.args.who.now.sid c.seconds-now.result c.args.inode c.args.len (g.K.Keeper.seen c.args.k.now) (g.K.Keeper.seen c.file.new.k) c.in_ok-was.was' c.in_ok-was.ensures
    (let low = c.if-len-gt-FILE_END.false in omega (arith, low)) (g.K.Keeper.seen c.resize.new.k) c.resize.new.draft c.in_ok-resize.ensures

pub returns-in_err-shorten-clause-changes : goal.returns-in_err-shorten-clause-changes
returns-in_err-shorten-clause-changes g c caller for of =
    let p = err_from_is_err_and c.from_residual-in_err-shorten.result c.from_residual-in_err-shorten.ensures.1 in
    rw (p.1, p.2)
    (ends-as c.args.who.now c.args.inode c.args.len c.seconds-now.result (g.K.Keeper.seen c.args.k.now) (g.K.Keeper.seen c.shorten.new.k)
    (Err c.in_err-shorten.field-0.0) c.seconds-now.ensures.seconds
    (truncate-unread_lists c.args.who.now.sid c.seconds-now.result c.args.inode c.args.len (g.K.Keeper.seen c.args.k.now) (g.K.Keeper.seen c.file.new.k) c.in_ok-was.was' c.in_ok-was.ensures
    (let low = c.if-len-gt-FILE_END.false in omega (arith, low)) (g.K.Keeper.seen c.resize.new.k) c.resize.new.draft c.in_ok-resize.ensures
    (g.K.Keeper.seen c.shorten.new.k) c.shorten.new.draft c.in_err-shorten.field-0.0 c.in_err-shorten.ensures) caller for of)

pub returns-in-Ok-clause-changes : goal.returns-in-Ok-clause-changes
returns-in-Ok-clause-changes g c caller for of =
    ends-as c.args.who.now c.args.inode c.args.len c.seconds-now.result (g.K.Keeper.seen c.args.k.now) (g.K.Keeper.seen c.commit.new.k)
    (Ok tt) c.seconds-now.ensures.seconds
    (truncate-done c.args.who.now.sid c.seconds-now.result c.args.inode c.args.len (g.K.Keeper.seen c.args.k.now) (g.K.Keeper.seen c.file.new.k) c.in_ok-was.was' c.in_ok-was.ensures
    (let low = c.if-len-gt-FILE_END.false in omega (arith, low)) (g.K.Keeper.seen c.resize.new.k) c.resize.new.draft c.in_ok-resize.ensures
    (g.K.Keeper.seen c.shorten.new.k) c.shorten.new.draft c.in_ok-shorten.ensures (g.K.Keeper.seen c.commit.new.k) c.in-Ok.ensures) caller for of

pub returns-in-Ok-clause-lists : goal.returns-in-Ok-clause-lists
returns-in-Ok-clause-lists g c =
    truncate-lists c.args.who.now.sid c.seconds-now.result c.args.inode c.args.len (g.K.Keeper.seen c.args.k.now) (g.K.Keeper.seen c.file.new.k) c.in_ok-was.was' c.in_ok-was.ensures
    (let low = c.if-len-gt-FILE_END.false in omega (arith, low)) (g.K.Keeper.seen c.resize.new.k) c.resize.new.draft c.in_ok-resize.ensures
    (g.K.Keeper.seen c.shorten.new.k) c.shorten.new.draft c.in_ok-shorten.ensures (g.K.Keeper.seen c.commit.new.k) c.in-Ok.ensures

pub returns-in-Ok-clause-rest : goal.returns-in-Ok-clause-rest
returns-in-Ok-clause-rest g c =
    truncate-rest c.args.who.now.sid c.seconds-now.result c.args.inode c.args.len (g.K.Keeper.seen c.args.k.now) (g.K.Keeper.seen c.file.new.k) c.in_ok-was.was' c.in_ok-was.ensures
    (let low = c.if-len-gt-FILE_END.false in omega (arith, low)) (g.K.Keeper.seen c.resize.new.k) c.resize.new.draft c.in_ok-resize.ensures
    (g.K.Keeper.seen c.shorten.new.k) c.shorten.new.draft c.in_ok-shorten.ensures (g.K.Keeper.seen c.commit.new.k) c.in-Ok.ensures

pub returns-clause-changes : goal.returns-clause-changes
returns-clause-changes g c caller for of =
    rw c.from.ensures
    (ends-as c.args.who.now c.args.inode c.args.len c.seconds-now.result (g.K.Keeper.seen c.args.k.now) (g.K.Keeper.seen c.commit.new.k)
    (Err (OfRows (row_fault c.in-Err.down))) c.seconds-now.ensures.seconds
    (truncate-down c.args.who.now.sid c.seconds-now.result c.args.inode c.args.len (g.K.Keeper.seen c.args.k.now) (g.K.Keeper.seen c.file.new.k) c.in_ok-was.was' c.in_ok-was.ensures
    (let low = c.if-len-gt-FILE_END.false in omega (arith, low)) (g.K.Keeper.seen c.resize.new.k) c.resize.new.draft c.in_ok-resize.ensures
    (g.K.Keeper.seen c.shorten.new.k) c.shorten.new.draft c.in_ok-shorten.ensures (g.K.Keeper.seen c.commit.new.k) c.in-Err.down c.in-Err.ensures) caller for of)
