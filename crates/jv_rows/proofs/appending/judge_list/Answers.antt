use Rattle.std.proofs.Common.{◌/◌, length, refl, sym}
use Rattle.std.proofs.lemmas.Result.{err_from_is_err_and}
use Rattle.jv_rows.proofs.counts.AppendingLaws.{too_short, goes_over, spoils, stops, left_over, all_over}
use Rattle.jv_rows.proofs.appending.judge_list.Goals as goal
use Rattle.jv_model.specs.declared.tables.TheConstants.{RECORD_LENGTH}

pub returns-then-count-eq0 : goal.returns-then-count-eq0
returns-then-count-eq0 c = too_short c.args.bytes.now (length c.args.bytes.now / RECORD_LENGTH) refl c.if-count-eq0.true

pub returns-in_err-record : goal.returns-in_err-record
returns-in_err-record c =
    let p = err_from_is_err_and c.from_residual.result c.from_residual.ensures.1 in
    rw (p.1, p.2)
    (stops c.args.bytes.now (length c.args.bytes.now / RECORD_LENGTH) refl c.loop.counter c.loop.rest.now c.loop.invariant
    c.in_err-record.field-0.0 c.loop-test.true c.in_err-record.ensures)

pub returns-then-not-allowed : goal.returns-then-not-allowed
returns-then-not-allowed c =
    spoils c.args.bytes.now (length c.args.bytes.now / RECORD_LENGTH) refl c.loop.counter c.loop.rest.now c.loop.invariant
    c.in_ok-record.record c.in_ok-record.after.now c.loop-test.true c.in_ok-record.ensures (sym c.if-not-allowed.ensures)

pub loop-preserved : goal.loop-preserved
loop-preserved c =
    goes_over c.args.bytes.now (length c.args.bytes.now / RECORD_LENGTH) refl c.loop.counter c.loop.rest.now c.loop.invariant
    c.in_ok-record.record c.in_ok-record.after.now c.loop-test.true c.in_ok-record.ensures (sym c.if-not-allowed.ensures)

pub returns-then-over : goal.returns-then-over
returns-then-over c =
    all_over c.args.bytes.now (length c.args.bytes.now / RECORD_LENGTH) refl c.loop.counter c.loop.rest.now c.loop.invariant
    c.loop-test.false c.if-count-eq0.false c.if-over.ensures

pub returns-else-over : goal.returns-else-over
returns-else-over c =
    left_over c.args.bytes.now (length c.args.bytes.now / RECORD_LENGTH) refl c.loop.counter c.loop.rest.now c.loop.invariant
    c.loop-test.false c.if-over.ensures
