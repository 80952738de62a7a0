use Rattle.std.proofs.Common.{length, ap, ◌∙◌}
use Rattle.std.proofs.lemmas.List.{length_push}
use Rattle.std.proofs.lemmas.Iterator.Adapters.{YieldsList-from_vec}
use Rattle.std.proofs.lemmas.Iterator.Consumers.{YieldsList-turn, YieldsList-end}
use Rattle.std.proofs.lemmas.Result.{err_from_is_err_and}
use Rattle.jv_rows.proofs.scans.ScanLaws.{start, row_goes_on, row_refused, rows_done, AreAllowed-push}
use Rattle.jv_rows.proofs.scanning.typed_rows.Goals as goal

pub loop-key-init : goal.loop-key-init
loop-key-init c = rw c.new-list.ensures (start c.args.rows)

pub loop-key-preserved : goal.loop-key-preserved
loop-key-preserved c =
    let b = c.into_iter-key-iterator.ensures.into_iter_gives in
    let items = YieldsList-from_vec {s = c.into_iter-key-iterator.result} c.args.rows (b.0 ∙ c.into_vec-key-items.ensures) (b.1 ∙ c.into_vec-key-items.result.ok.0 ∙ ap length c.into_vec-key-items.ensures) in
    let t = YieldsList-turn items c.loop-key.yielded c.loop-key.key-iterator c.loop-key.yielded_by c.next.result c.next.new.self (c.in-Some.key, c.in-Some.bytes) c.in-Some.is c.next.ensures.steps in
    let row = c.in_ok-typed_row.field-0 in
    rw (length_push, c.in_ok-push.ensures.ok) (record {
      read = row_goes_on c.args.rows (length c.loop-key.yielded) c.loop-key.list (c.in-Some.key, c.in-Some.bytes) row t.0 t.1 c.in_ok-typed_row.ensures.key c.in_ok-typed_row.ensures.found c.loop-key.invariant.read;
      allowed = AreAllowed-push c.loop-key.list row c.loop-key.invariant.allowed c.in_ok-typed_row.ensures.allowed;
    })

pub returns-in_err-typed_row-clause-refused : goal.returns-in_err-typed_row-clause-refused
returns-in_err-typed_row-clause-refused c =
    let b = c.into_iter-key-iterator.ensures.into_iter_gives in
    let items = YieldsList-from_vec {s = c.into_iter-key-iterator.result} c.args.rows (b.0 ∙ c.into_vec-key-items.ensures) (b.1 ∙ c.into_vec-key-items.result.ok.0 ∙ ap length c.into_vec-key-items.ensures) in
    let t = YieldsList-turn items c.loop-key.yielded c.loop-key.key-iterator c.loop-key.yielded_by c.next.result c.next.new.self (c.in-Some.key, c.in-Some.bytes) c.in-Some.is c.next.ensures.steps in
    let p = err_from_is_err_and c.from_residual.result c.from_residual.ensures.1 in
    rw (p.1, p.2) (row_refused c.args.rows (length c.loop-key.yielded) c.loop-key.list (c.in-Some.key, c.in-Some.bytes) c.in_err-typed_row.field-0.0 t.0 t.1 c.in_err-typed_row.ensures.refused c.loop-key.invariant.read)

pub returns-clause-found : goal.returns-clause-found
returns-clause-found c =
    let b = c.into_iter-key-iterator.ensures.into_iter_gives in
    let items = YieldsList-from_vec {s = c.into_iter-key-iterator.result} c.args.rows (b.0 ∙ c.into_vec-key-items.ensures) (b.1 ∙ c.into_vec-key-items.result.ok.0 ∙ ap length c.into_vec-key-items.ensures) in
    let t = YieldsList-end items c.loop-key.yielded c.loop-key.key-iterator c.loop-key.yielded_by c.next.result c.next.new.self c.in-None.is c.next.ensures.steps in
    rows_done c.args.rows (length c.loop-key.yielded) c.loop-key.list t.1 c.loop-key.invariant.read
