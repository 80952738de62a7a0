-- A name that is found is the next one of the rest.
use Rattle.std.proofs.Common.{ℕ, ◌<◌, ◌==◌, List, length, map, take_while, eq-eqb, ap, ◌∙◌, arith}
use Rattle.jv_outside.proofs.ScanLaws.{glimpse-next, take_while-passes}
use Rattle.jv_outside.proofs.block_store.names_of.Goals as goal

pub loop-key-preserved : goal.loop-key-preserved
loop-key-preserved c =
    let few : length c.loop-key.found < c.args.n = omega (arith, c.len.ensures.length, c.if-len-n.false) in
    let name = λ (block : (ℕ × List ℕ) × List ℕ). block.0.1 in
    let own = λ (block : (ℕ × List ℕ) × List ℕ). block.0.0 == c.args.client in
    let step = ap (λ (blocks : List ((ℕ × List ℕ) × List ℕ)). map name (take_while own blocks)) c.in-Some.ensures.steps
    ∙ ap (map name) (take_while-passes own (c.in-Some.key.now, c.in-Some.field-0-1.now) c.next.new.self (eq-eqb _ _ c.if-key-client.false)) in
    record {
      found = glimpse-next _ c.loop-key.found _ _ _ _ _ _ step c.in_ok-push.ensures.ok
          (c.in_ok-copied.ensures ∙ c.as_slice.ensures) few c.loop-key.invariant.found;
    }
