use Rattle.std.proofs.Common.{Some, Ok, ap, subst, ◌∙◌}
use Rattle.std.proofs.lemmas.Result.{err_from_is_err_and}
use Rattle.jv_model.specs.declared.row.RowKey.{RowKey}
use Rattle.jv_rows.specs.Scans.{ScansRows}
use Rattle.jv_live.specs.Steps.{first_kept, IsSpelled}
use Rattle.jv_live.proofs.FindingLaws.{finds-unread, finds-read}
use Rattle.jv_live.proofs.scanning.next_kept.Goals as goal

pub returns-in_err-rows : goal.returns-in_err-rows
returns-in_err-rows g c =
    let p = err_from_is_err_and c.from_residual-in_err-rows.result c.from_residual-in_err-rows.ensures.1 in
    rw (p.1, p.2)
    (finds-unread c.args.sid c.args.after c.in_ok-last.last (g.K.Keeper.seen c.args.k.now) (g.K.Keeper.seen c.scan_rows.new.k) c.in_err-rows.field-0.0
    c.in_err-rows.ensures)

pub returns : goal.returns
returns g c =
    finds-read c.args.sid c.args.after (g.K.Keeper.seen c.args.k.now) (g.K.Keeper.seen c.scan_rows.new.k) c.in_ok-rows.rows
    (subst (λ (last : RowKey). ScansRows 7 (Some last) 1 (g.K.Keeper.seen c.args.k.now) (g.K.Keeper.seen c.scan_rows.new.k) (Ok c.in_ok-rows.rows))
    c.in_ok-last.ensures
    c.in_ok-rows.ensures)
    (subst IsSpelled c.as_slice.ensures c.first_in.ensures.spelled) c.first_in.result
    (c.first_in.ensures.found ∙ ap (first_kept c.args.sid c.args.after) c.as_slice.ensures)
