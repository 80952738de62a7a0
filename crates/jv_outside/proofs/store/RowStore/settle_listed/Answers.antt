-- A row that is brought into the tree stays what the rows have at its key.
use Rattle.std.proofs.Common.{◌++◌, sym, ap, ◌∙◌}
use Rattle.jv_model.specs.rows.RowKeys.{row_map}
use Rattle.jv_model.specs.promise.rows.RowKeys.{row_key}
use Rattle.jv_outside.specs.LazyTrees.{entries_in}
use Rattle.jv_outside.specs.promise.Rows.{applied}
use Rattle.jv_outside.proofs.StoredLaws.{map_of-moved, map_of-updated}
use Rattle.jv_outside.proofs.store.RowStore.settle_listed.Goals as goal

pub loop-key-preserved : goal.loop-key-preserved
loop-key-preserved c =
    ap (applied c.loop-key.self.waiting.items) (map_of-moved row_key _ _ _ _ _ (map_of-updated row_key _ _ _ _ c.in_default-insert.ensures.ok))
    ∙ ap (λ rows. applied c.loop-key.self.waiting.items (row_map (rows ++ entries_in c.loop-key.self.tree))) (sym c.in-Some.ensures.items)
    ∙ c.loop-key.invariant
