use Rattle.std.proofs.Common.{[], None, Some, Ok, Err, refl, ap}
use Rattle.std.proofs.lemmas.Result.{err_from_is_err_and}
use Rattle.jv_data.proofs.lists.RecordsLaws.{records-seen, unchanged, records-unread, records-seen_in}
use Rattle.jv_data.proofs.lists.ShownLaws.{named-there, named-read}
use Rattle.jv_data.proofs.copying.named_records.Goals as goal

pub returns-in_err-list-clause-read : goal.returns-in_err-list-clause-read
returns-in_err-list-clause-read g c =
    let p = err_from_is_err_and c.from_residual.result c.from_residual.ensures.1 in
    rw (p.1, p.2)
    (records-unread c.args.inode c.args.window c.ranges.window.fits (g.K.Keeper.seen c.args.k.now) (g.K.Keeper.seen c.read_list.new.k)
    [] (unchanged c.args.inode c.args.window c.ranges.window.fits (g.K.Keeper.seen c.args.k.now) (g.K.Keeper.seen c.read_list.new.k))
    c.in_err-list.field-0.0
    (records-seen c.args.inode c.args.window c.ranges.window.fits (g.K.Keeper.seen c.args.k.now) (g.K.Keeper.seen c.read_list.new.k)
    (Err c.in_err-list.field-0.0) (Err c.in_err-list.field-0.0) refl c.in_err-list.ensures))

pub check_slices-requires : goal.check_slices-requires
check_slices-requires g c =
    named-there c.args.inode c.args.window c.ranges.window.fits (g.K.Keeper.seen c.args.k.now) (g.K.Keeper.seen c.read_list.new.k) c.in-Some.list
    (records-seen c.args.inode c.args.window c.ranges.window.fits (g.K.Keeper.seen c.args.k.now) (g.K.Keeper.seen c.read_list.new.k)
    (Ok c.in_ok-list.field-0) (Ok (Some c.in-Some.list)) (ap (λ o. Ok o) c.in-Some.is) c.in_ok-list.ensures)

pub returns-in_ok-check_slices-in-Some-clause-read : goal.returns-in_ok-check_slices-in-Some-clause-read
returns-in_ok-check_slices-in-Some-clause-read g c =
    let s = records-seen c.args.inode c.args.window c.ranges.window.fits (g.K.Keeper.seen c.args.k.now) (g.K.Keeper.seen c.read_list.new.k)
    (Ok c.in_ok-list.field-0) (Ok (Some c.in-Some.list)) (ap (λ o. Ok o) c.in-Some.is) c.in_ok-list.ensures in
    named-read c.args.inode c.args.window c.ranges.window.fits (g.K.Keeper.seen c.args.k.now) (g.K.Keeper.seen c.read_list.new.k) c.in-Some.list s
    (records-seen_in c.args.inode c.args.window c.ranges.window.fits (g.K.Keeper.seen c.args.k.now) (g.K.Keeper.seen c.read_list.new.k)
    [] (unchanged c.args.inode c.args.window c.ranges.window.fits (g.K.Keeper.seen c.args.k.now) (g.K.Keeper.seen c.read_list.new.k)) (Some c.in-Some.list) s)
    (g.K.Keeper.seen c.check_slices.new.k) c.in_ok-check_slices-in-Some.ensures

pub returns-in-None-clause-read : goal.returns-in-None-clause-read
returns-in-None-clause-read g c =
    rw c.new.ensures
    (records-seen_in c.args.inode c.args.window c.ranges.window.fits (g.K.Keeper.seen c.args.k.now) (g.K.Keeper.seen c.read_list.new.k)
    [] (unchanged c.args.inode c.args.window c.ranges.window.fits (g.K.Keeper.seen c.args.k.now) (g.K.Keeper.seen c.read_list.new.k)) None
    (records-seen c.args.inode c.args.window c.ranges.window.fits (g.K.Keeper.seen c.args.k.now) (g.K.Keeper.seen c.read_list.new.k)
    (Ok c.in_ok-list.field-0) (Ok None) (ap (λ o. Ok o) c.in-None.is) c.in_ok-list.ensures))
