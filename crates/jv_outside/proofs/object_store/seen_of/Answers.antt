-- An object that is shown is the next one of the rest.
use Rattle.std.proofs.Common.{◌<◌, length, map, ap, ◌∙◌, arith}
use Rattle.jv_outside.specs.Objects.{as_seen}
use Rattle.jv_outside.proofs.ScanLaws.{glimpse-next}
use Rattle.jv_outside.proofs.object_store.seen_of.Goals as goal

pub loop-name-preserved : goal.loop-name-preserved
loop-name-preserved c =
    let few : length c.loop-name.found < c.args.n = omega (arith, c.len.ensures.length, c.if-len-n.false) in
    record {
      found = glimpse-next _ c.loop-name.found _ _ _ _ _ _ (ap (map as_seen) c.in-Some.ensures.steps) c.in_ok-push.ensures.ok
          (λ i. record { name = (c.in_ok-copied.ensures ∙ c.as_slice.ensures) i; size = c.len-in-loop-name.ensures.length i; at = c.in-Some.object.now.1 })
          few c.loop-name.invariant.found;
    }
