use Rattle.std.proofs.Common.{◌≡◌, ◌<◌, ℕ, length}
use Rattle.jv_yard.specs.Staging.{by_client}
use Rattle.jv_yard.specs.promise.Starting.{IsFound}
use Rattle.jv_yard.proofs.finding.find_staged.Given as goal

abbrev pub invariant-loop-c : goal.invariant-loop-c
invariant-loop-c g l = record {
  same : g.H.Shelf.seen l.shelf ≡ g.H.Shelf.seen l.initial.shelf;
  long : length l.clients ≡ l.c;
  found : (client : ℕ) → client < l.c → IsFound l.setting (g.H.Shelf.seen l.initial.shelf).content client (by_client l.clients client);
}
