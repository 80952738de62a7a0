use Rattle.std.proofs.Common.{◌≡◌, ◌==◌, take, take_while}
use Rattle.jv_outside.proofs.ScanLaws.{glimpse}
use Rattle.jv_outside.proofs.store.copied_rows.Given as goal

abbrev pub invariant-loop-key : goal.invariant-loop-key
invariant-loop-key l = record {
  found : glimpse l.n l.found (take_while (λ row. row.0.tab == l.tab) l.key-iterator) ≡ take l.n (take_while (λ row. row.0.tab == l.tab) l.fn.rows);
}
