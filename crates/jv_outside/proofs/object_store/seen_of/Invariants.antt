use Rattle.std.proofs.Common.{◌≡◌, map, take}
use Rattle.jv_outside.specs.Objects.{as_seen}
use Rattle.jv_outside.proofs.ScanLaws.{glimpse}
use Rattle.jv_outside.proofs.object_store.seen_of.Given as goal

abbrev pub invariant-loop-name : goal.invariant-loop-name
invariant-loop-name l = record {
  found : glimpse l.n l.found (map as_seen l.name-iterator) ≡ take l.n (map as_seen l.fn.objects);
}
