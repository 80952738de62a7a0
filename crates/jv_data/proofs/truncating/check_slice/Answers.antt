use Rattle.std.proofs.Common.{None, Some, Ok, Err, refl, ap}
use Rattle.std.proofs.lemmas.Result.{err_from_is_err_and}
use Rattle.jv_data.proofs.truncates.TruncateLaws.{slice-seen, check-unread, check-found, check-none}
use Rattle.jv_data.proofs.truncating.check_slice.Goals as goal

pub returns-in_err-read_slice : goal.returns-in_err-read_slice
returns-in_err-read_slice g c =
    let p = err_from_is_err_and c.from_residual.result c.from_residual.ensures.1 in
    rw (p.1, p.2)
    (check-unread c.args.inode c.args.window c.args.id c.args.list.now (g.K.Keeper.seen c.args.k.now) (g.K.Keeper.seen c.read_slice.new.k) c.in_err-read_slice.field-0.0
    (slice-seen c.args.inode c.args.window c.args.id c.args.list.now (g.K.Keeper.seen c.args.k.now) (g.K.Keeper.seen c.read_slice.new.k)
    (Err c.in_err-read_slice.field-0.0) (Err c.in_err-read_slice.field-0.0) refl c.in_err-read_slice.ensures))

pub returns-in-Some : goal.returns-in-Some
returns-in-Some g c =
    check-found c.args.inode c.args.window c.args.id c.args.list.now (g.K.Keeper.seen c.args.k.now) (g.K.Keeper.seen c.read_slice.new.k) c.in-Some.field-0
    (slice-seen c.args.inode c.args.window c.args.id c.args.list.now (g.K.Keeper.seen c.args.k.now) (g.K.Keeper.seen c.read_slice.new.k)
    (Ok c.in_ok-read_slice.field-0) (Ok (Some c.in-Some.field-0)) (ap (λ o. Ok o) c.in-Some.is) c.in_ok-read_slice.ensures)

pub returns-in_ok-spell_list-in-None : goal.returns-in_ok-spell_list-in-None
returns-in_ok-spell_list-in-None g c =
    check-none c.args.inode c.args.window c.args.id c.args.list.now (g.K.Keeper.seen c.args.k.now) (g.K.Keeper.seen c.read_slice.new.k)
    c.in_ok-key_of_list-in-None.field-0 c.in_ok-spell_list-in-None.field-0 c.in_ok-key_of_list-in-None.ensures c.in_ok-spell_list-in-None.ensures
    c.requires.there c.requires.named c.if-id-eq0.false
    (slice-seen c.args.inode c.args.window c.args.id c.args.list.now (g.K.Keeper.seen c.args.k.now) (g.K.Keeper.seen c.read_slice.new.k)
    (Ok c.in_ok-read_slice.field-0) (Ok None) (ap (λ o. Ok o) c.in-None.is) c.in_ok-read_slice.ensures)
