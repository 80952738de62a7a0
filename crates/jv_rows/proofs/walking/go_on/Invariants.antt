use Rattle.std.proofs.Common.{drop}
use Rattle.std.specs.Prelude.{IsTrue}
use Rattle.jv_model.specs.promise.rows.RowGrammar.{is_node}
use Rattle.jv_rows.specs.Walks.{HasNodeRow, course}
use Rattle.jv_rows.proofs.transactions.TransactionLaws.{Past}
use Rattle.jv_rows.proofs.walking.go_on.Given as goal

abbrev pub invariant-loop-index : goal.invariant-loop-index
invariant-loop-index g l = record {
  left : Past (g.K.Keeper.seen l.fn.k) (g.K.Keeper.seen l.k) (λ t. course t l.follow l.fn.start.inode l.names) (λ t. course t l.follow l.place.inode (drop l.index l.names));
  stands : HasNodeRow (g.K.Keeper.seen l.k) l.place.inode l.place.node;
  allowed : IsTrue (is_node l.place.node);
}
