-- The rows of the table from the start on are those after the key.
use Rattle.std.proofs.Common.{◌==◌, filter, take, take_while, sym, ap, ◌∙◌}
use Rattle.std.specs.declared.ops.Bound.TheVariants.{Unbounded}
use Rattle.std.specs.BTreeMap.Range.{entries_between}
use Rattle.std.specs.Option.{option_copied}
use Rattle.jv_model.specs.promise.FiniteMap.{map_of}
use Rattle.jv_model.specs.promise.rows.RowKeys.{row_cmp, row_key}
use Rattle.jv_outside.specs.Rows.{is_after, rows_after}
use Rattle.jv_outside.specs.Stored.{scan_start}
use Rattle.jv_outside.proofs.ScanLaws.{rows-from, list-map_of, if_ok_along}
use Rattle.jv_outside.proofs.StoredLaws.{map_of-alike, stored-settled, stored-sorted}
use Rattle.jv_outside.proofs.store.RowStore.scan.Goals as goal

pub returns-clause-found : goal.returns-clause-found
returns-clause-found c =
    let last = option_copied c.args.after in
    let entries = c.sort.new.self.sorted.entries in
    let start = c.start.ensures ∙ ap (λ b. scan_start (record { tab = c.args.tab; a = 0; b = b }) last) c.new.ensures in
    let range = c.range-rows.ensures.between tt ∙ ap (λ s. entries_between row_cmp s Unbounded entries) start in
    let rows = ap (take_while (λ row. row.0.tab == c.args.tab)) range ∙ rows-from c.args.tab last entries c.range-rows.ensures.ordered in
    let listed = ap (filter (λ row. is_after c.args.tab last row.0)) (sym (list-map_of row_key entries c.range-rows.ensures.ordered)) in
    let known = ap (λ m. rows_after m c.args.tab last c.args.n) (ap map_of (sym c.in_ok-sort.ensures.sorted) ∙ map_of-alike row_key _ _ c.in_ok-sort.ensures.same ∙ sym (stored-settled _ c.in_ok-settle.ensures.settled) ∙ c.in_ok-settle.ensures.same) in
    if_ok_along c.copied_rows.result _ _ (ap (take c.args.n) (rows ∙ listed) ∙ known) c.copied_rows.ensures

pub returns-clause-same : goal.returns-clause-same
returns-clause-same c = stored-sorted c.settle.new.self c.sort.new.self c.in_ok-settle.ensures.settled c.in_ok-sort.ensures.same ∙ c.in_ok-settle.ensures.same

pub returns-in_err-sort-clause-same : goal.returns-in_err-sort-clause-same
returns-in_err-sort-clause-same c = stored-sorted c.settle.new.self c.sort.new.self c.in_ok-settle.ensures.settled c.in_err-sort.ensures.same ∙ c.in_ok-settle.ensures.same
