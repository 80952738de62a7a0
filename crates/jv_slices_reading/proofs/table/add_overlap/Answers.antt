use Rattle.std.proofs.Common.{◌∙◌, List, sym, ap}
use Rattle.jv_slices_reading.specs.declared.copying.Shown.{Shown}
use Rattle.jv_slices_reading.specs.declared.table.Table.{Table}
use Rattle.jv_slices_reading.specs.Overlaps.{overlaps_at, overlaps_in, with_overlap}
use Rattle.jv_slices_reading.proofs.FewLaws.{few_more}
use Rattle.jv_slices_reading.proofs.table.add_overlap.Goals as goal

pub returns-in_ok-push-in-Few : goal.returns-in_ok-push-in-Few
returns-in_ok-push-in-Few c = λ b.
    let few = c.in-Few.few.items in
    let shown : Shown = record { block = c.args.block; overlap = c.args.overlap } in
    ap (λ (xs : List Shown). overlaps_in xs b) c.in_ok-push-in-Few.ensures.items ∙ few_more few shown b
    ∙ ap (λ (t : Table). with_overlap (overlaps_at t) c.args.block c.args.overlap b) (sym c.in-Few.is)
