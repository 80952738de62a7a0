use Rattle.std.proofs.Common.{◌≡◌, ◌==◌, map, take, take_while}
use Rattle.jv_outside.proofs.ScanLaws.{glimpse}
use Rattle.jv_outside.proofs.block_store.names_of.Given as goal

abbrev pub invariant-loop-key : goal.invariant-loop-key
invariant-loop-key l = record {
  found : glimpse l.n l.found (map (λ block. block.0.1) (take_while (λ block. block.0.0 == l.client) l.key-iterator))
      ≡ take l.n (map (λ block. block.0.1) (take_while (λ block. block.0.0 == l.client) l.fn.blocks));
}
