use Rattle.std.proofs.lemmas.Result.{err_from_is_err_and}
use Rattle.jv_model.specs.promise.rows.RowGrammar.{records_at}
use Rattle.jv_rows.proofs.grammars.RecordLaws.{goes_on, ends, is_done}
use Rattle.jv_rows.proofs.parsing.take_records.Goals as goal

pub returns-in_err-record : goal.returns-in_err-record
returns-in_err-record c =
    let p = err_from_is_err_and c.from_residual-in_err-record.result c.from_residual-in_err-record.ensures.1 in
    rw (p.1, p.2) (ends c.in_err-record.field-0.0 c.loop.records.items c.args.count c.loop.counter c.loop.rest.now (records_at c.args.count c.args.bytes.now) c.loop-test.true c.in_err-record.ensures c.loop.invariant)

pub loop-preserved : goal.loop-preserved
loop-preserved c =
    rw c.in_ok-push.ensures.items (goes_on c.loop.records.items c.args.count c.loop.counter c.loop.rest.now c.in_ok-record.record c.in_ok-record.after.now (records_at c.args.count c.args.bytes.now) c.loop-test.true c.in_ok-record.ensures c.loop.invariant)

pub returns : goal.returns
returns c = is_done c.loop.records.items c.args.count c.loop.counter c.loop.rest.now (records_at c.args.count c.args.bytes.now) c.loop-test.false c.loop.invariant
