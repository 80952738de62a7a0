use Rattle.std.proofs.Common.{◌<◌, ap, ◌∙◌, get_or, length, arith}
use Rattle.std.specs.Prelude.{slice_set}
use Rattle.std.proofs.lemmas.List.{get_or_default}
use Rattle.std.proofs.lemmas.List.Edits.{map_over_more}
use Rattle.jv_client_handles.specs.Handles.{unseen}
use Rattle.jv_client_handles.proofs.table.forget_views.Goals as goal

pub loop-open-preserved : goal.loop-open-preserved
loop-open-preserved c =
    let i = c.loop-open.open-index in
    let seen = c.loop-open.handles in
    let inside : i < length seen = omega arith in
    ap (slice_set seen i) c.forget_slot.ensures
    ∙ map_over_more (unseen c.args.inode) c.args.handles.now seen i (get_or seen i c.open-item.result)
    c.loop-open-test.true c.loop-open.invariant (get_or_default seen i c.open-item.result _ inside)
