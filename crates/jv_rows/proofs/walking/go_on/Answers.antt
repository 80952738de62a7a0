use Rattle.std.proofs.Common.{◌+◌, ◌<◌, length, drop, ap, sym, ◌∙◌, arith}
use Rattle.std.specs.Prelude.{◌&&◌, ◌||◌, ◌==◌, not}
use Rattle.std.proofs.lemmas.Result.{err_from_is_err_and}
use Rattle.jv_rows.proofs.walks.CourseLaws.{last_goes, name_fails, to_symlink, to_node, is_last, next_name}
use Rattle.jv_rows.proofs.walking.go_on.Goals as goal

pub returns-in_err-next : goal.returns-in_err-next
returns-in_err-next g c =
    let names = c.args.names.now in
    let index = c.loop-index.index in
    let within : index < length names = omega arith in
    let p = err_from_is_err_and c.from_residual.result c.from_residual.ensures.1 in
    rw (p.1, p.2) (name_fails c.args.follow c.loop-index.place c.index-names-index.result (drop index names) (drop (index + 1) names) c.in_err-next.field-0.0
    (next_name names index c.index-names-index.result within c.index-names-index.is) c.loop-index.invariant.left c.in_err-next.ensures)

pub returns-then-is_followed : goal.returns-then-is_followed
returns-then-is_followed g c =
    let names = c.args.names.now in
    let index = c.loop-index.index in
    let within : index < length names = omega arith in
    let next = c.in_ok-next.next in
    last_goes (to_symlink c.args.follow c.loop-index.place next c.index-names-index.result (drop index names) (drop (index + 1) names) (next_name names index c.index-names-index.result within c.index-names-index.is)
    c.loop-index.invariant.left c.in_ok-next.ensures
    (ap (λ last. (c.args.follow || not last) && (next.node.kind == 3)) (is_last names index within) ∙ sym c.is_followed.ensures ∙ c.if-is_followed.true))
    c.by_target.ensures

pub loop-index-preserved : goal.loop-index-preserved
loop-index-preserved g c =
    let names = c.args.names.now in
    let index = c.loop-index.index in
    let within : index < length names = omega arith in
    let next = c.in_ok-next.next in
    record {
      left = to_node c.args.follow c.loop-index.place next c.index-names-index.result (drop index names) (drop (index + 1) names) (next_name names index c.index-names-index.result within c.index-names-index.is)
          c.loop-index.invariant.left c.in_ok-next.ensures
          (ap (λ last. (c.args.follow || not last) && (next.node.kind == 3)) (is_last names index within) ∙ sym c.is_followed.ensures ∙ c.if-is_followed.false);
      stands = c.in_ok-next.ensures.stands;
      allowed = c.in_ok-next.ensures.allowed;
    }
