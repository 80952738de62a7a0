use Rattle.std.specs.Prelude.{IsTrue}
use Rattle.jv_model.specs.declared.limits.TheConstants.{MAX_SYMLINKS, ROOT}
use Rattle.jv_model.specs.promise.rows.RowGrammar.{is_node}
use Rattle.jv_model.specs.promise.tree.Walk.{walk}
use Rattle.jv_rows.specs.Walks.{HasNodeRow}
use Rattle.jv_rows.proofs.transactions.TransactionLaws.{Past}
use Rattle.jv_rows.proofs.walking.walk_names.Given as goal

abbrev pub decreases-loop-names : goal.decreases-loop-names
decreases-loop-names g l = l.left

abbrev pub invariant-loop-names : goal.invariant-loop-names
invariant-loop-names g l = record {
  left : Past (g.K.Keeper.seen l.fn.k) (g.K.Keeper.seen l.k) (λ t. walk MAX_SYMLINKS t l.follow ROOT l.fn.names) (λ t. walk l.left t l.follow l.place.inode l.names);
  stands : HasNodeRow (g.K.Keeper.seen l.k) l.place.inode l.place.node;
  allowed : IsTrue (is_node l.place.node);
}
