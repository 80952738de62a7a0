use Rattle.std.proofs.Common.{◌≡◌}
use Rattle.jv_yard.proofs.PageLaws.{IsFoundSoFar}
use Rattle.jv_yard.proofs.finding.find_staged_by.Given as goal

abbrev pub invariant-pages : goal.invariant-pages
invariant-pages g l = record {
  same : g.H.Shelf.seen l.shelf ≡ g.H.Shelf.seen l.initial.shelf;
  found : IsFoundSoFar l.setting (g.H.Shelf.seen l.initial.shelf).content l.c l.last l.found;
}
