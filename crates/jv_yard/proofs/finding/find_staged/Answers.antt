-- One more client's blocks are found.
use Rattle.std.proofs.Common.{◌+◌, ◌∙◌, ap, subst, arith}
use Rattle.std.specs.Prelude.{unwrap_or}
use Rattle.std.proofs.lemmas.List.{length_push}
use Rattle.std.proofs.lemmas.Option.{slice_get_past}
use Rattle.jv_model.specs.promise.FiniteMap.{empty_map}
use Rattle.jv_yard.specs.promise.Starting.{IsFound}
use Rattle.jv_yard.proofs.PageLaws.{clients-more}
use Rattle.jv_yard.proofs.finding.find_staged.Goals as goal

pub loop-c-preserved : goal.loop-c-preserved
loop-c-preserved g c =
    let setting = c.args.setting.now in
    let content = (g.H.Shelf.seen c.args.shelf.now).content in
    let one = c.in_ok-find_staged_by.field-0 in
    let found = subst (λ known. IsFound setting known c.loop-c.c one) (ap (λ seen. seen.content) c.loop-c.invariant.same) c.in_ok-find_staged_by.ensures.1 in
    rw (c.in_ok-push.ensures.ok, length_push) (record {
      same = c.in_ok-find_staged_by.ensures.0 ∙ c.loop-c.invariant.same;
      long = ap (λ n. n + 1) c.loop-c.invariant.long;
      found = clients-more setting content c.loop-c.clients one c.loop-c.c c.loop-c.invariant.long found c.loop-c.invariant.found;
    })

pub returns : goal.returns
returns g c = (
  c.loop-c.invariant.same,
  λ client low. c.loop-c.invariant.found client (omega arith),
  λ client high. ap (λ found. unwrap_or found empty_map) (slice_get_past c.loop-c.clients client (omega arith)),
)
