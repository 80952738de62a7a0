use Rattle.std.proofs.Common.{◌<◌, arith}
use Rattle.std.proofs.lemmas.Result.{err_from_is_err_and}
use Rattle.jv_model.specs.declared.limits.TheConstants.{MAX_SYMLINKS}
use Rattle.jv_rows.proofs.walks.CourseLaws.{walk_begins_nowhere, walk_fails, walk_ends, too_many, one_more}
use Rattle.jv_rows.proofs.walking.walk_names.Goals as goal

pub returns-in_err-place : goal.returns-in_err-place
returns-in_err-place g c =
    let p = err_from_is_err_and c.from_residual.result c.from_residual.ensures.1 in
    rw (p.1, p.2) (walk_begins_nowhere MAX_SYMLINKS c.args.follow c.args.names c.in_err-place.field-0.0 c.in_err-place.ensures)

pub returns-in_err-end : goal.returns-in_err-end
returns-in_err-end g c =
    let p = err_from_is_err_and c.from_residual-in_err-end.result c.from_residual-in_err-end.ensures.1 in
    let goes = rw c.as_slice.ensures at c.in_err-end.ensures in
    rw (p.1, p.2) (walk_fails c.loop-names.left c.args.follow c.loop-names.place c.loop-names.names c.loop-names.invariant.left c.in_err-end.field-0.0 goes)

pub returns-in-Ends : goal.returns-in-Ends
returns-in-Ends g c =
    let found = rw c.in-Ends.is at c.in_ok-end.ensures in
    let goes = rw c.as_slice.ensures at found in
    walk_ends c.loop-names.left c.args.follow c.loop-names.place c.loop-names.names c.loop-names.invariant.left c.in-Ends.end goes

pub returns-then-left-eq0 : goal.returns-then-left-eq0
returns-then-left-eq0 g c =
    let found = rw c.in-Follows.is at c.in_ok-end.ensures in
    let goes = rw c.as_slice.ensures at found in
    too_many c.loop-names.left c.args.follow c.loop-names.place c.loop-names.names c.loop-names.invariant.left c.in-Follows.from c.in-Follows.rest c.if-left-eq0.true goes

pub loop-names-preserved : goal.loop-names-preserved
loop-names-preserved g c =
    let found = rw c.in-Follows.is at c.in_ok-end.ensures in
    let goes = rw c.as_slice.ensures at found in
    let some : 0 < c.loop-names.left = omega (arith, c.if-left-eq0.false) in
    record {
      left = one_more c.loop-names.left c.args.follow c.loop-names.place c.loop-names.names c.loop-names.invariant.left c.in-Follows.from c.in-Follows.rest some goes;
      stands = found.stands;
      allowed = found.allowed;
    }
