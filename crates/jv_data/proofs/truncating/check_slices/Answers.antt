use Rattle.std.proofs.Common.{◌<◌, List, length, get_or, ap, subst, arith}
use Rattle.std.proofs.lemmas.Result.{err_from_is_err_and}
use Rattle.std.proofs.lemmas.List.{take_all}
use Rattle.jv_model.specs.declared.slice.Rec.{Rec}
use Rattle.jv_rows.proofs.counts.CountsLaws.{none}
use Rattle.jv_data.proofs.truncates.TruncateLaws.{checking-none, checking-more, checking-fails, checking-all, has_list-then}
use Rattle.jv_data.proofs.truncating.check_slices.Goals as goal

pub loop-record-init : goal.loop-record-init
loop-record-init g c = checking-none c.args.list.now (g.K.Keeper.seen c.args.k.now)

pub check_slice-requires-clause-there : goal.check_slice-requires-clause-there
check_slice-requires-clause-there g c =
    has_list-then (g.K.Keeper.seen c.args.k.now) (g.K.Keeper.seen c.loop-record.k) c.args.inode (c.args.window, c.args.list.now) c.loop-record.invariant.looks.rows_are c.requires

pub returns-in_err-check_slice : goal.returns-in_err-check_slice
returns-in_err-check_slice g c =
    let p = err_from_is_err_and c.from_residual.result c.from_residual.ensures.1 in
    rw (p.1, p.2)
    (checking-fails c.args.list.now (g.K.Keeper.seen c.args.k.now) (g.K.Keeper.seen c.loop-record.k) (g.K.Keeper.seen c.check_slice.new.k) c.loop-record.record-index
    (get_or c.as_slice-record-items.result.now c.loop-record.record-index none).id c.in_err-check_slice.field-0.0 c.loop-record.invariant c.in_err-check_slice.ensures)

pub loop-record-preserved : goal.loop-record-preserved
loop-record-preserved g c =
    checking-more c.args.list.now (g.K.Keeper.seen c.args.k.now) (g.K.Keeper.seen c.loop-record.k) (g.K.Keeper.seen c.check_slice.new.k) c.loop-record.record-index
    (get_or c.as_slice-record-items.result.now c.loop-record.record-index none) none c.loop-record.invariant
    (subst (λ (l : List Rec). c.loop-record.record-index < length l) c.as_slice-record-items.ensures c.loop-record-test.true)
    (ap (λ (l : List Rec). get_or l c.loop-record.record-index none) c.as_slice-record-items.ensures) c.in_ok-check_slice.ensures

pub returns : goal.returns
returns g c =
    checking-all c.args.list.now (g.K.Keeper.seen c.args.k.now) (g.K.Keeper.seen c.loop-record.k) c.loop-record.record-index c.loop-record.invariant
    (take_all c.loop-record.record-index c.args.list.now
    (let high = c.loop-record-test.false in let same = ap (λ (l : List Rec). length l) c.as_slice-record-items.ensures in omega (arith, high, same)))
