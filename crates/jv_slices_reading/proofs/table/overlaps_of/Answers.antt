use Rattle.std.proofs.Common.{◌∙◌, ap}
use Rattle.std.specs.BTreeMap.{is_at}
use Rattle.std.specs.Map.{lookup}
use Rattle.jv_slices_reading.specs.Overlaps.{or_none}
use Rattle.jv_slices_reading.proofs.table.overlaps_of.Goals as goal
use Rattle.jv_slices.specs.Listing.{ordered_cmp}
use Rattle.jv_slices.specs.declared.blocks.OrderedBlock.{OrderedBlock}

pub returns-in-Some : goal.returns-in-Some
returns-in-Some c =
    c.as_slice.ensures.value ∙ ap or_none c.in-Some.ensures.value
    ∙ ap (λ (key : OrderedBlock). or_none (lookup (is_at (ordered_cmp key)) c.args.many.now.entries)) c.key_of.ensures

pub returns-in-None : goal.returns-in-None
returns-in-None c =
    ap or_none c.in-None.ensures.value
    ∙ ap (λ (key : OrderedBlock). or_none (lookup (is_at (ordered_cmp key)) c.args.many.now.entries)) c.key_of.ensures
