use Rattle.std.proofs.Common.{◌≡◌, List, ap, ◌∙◌, sym}
use Rattle.jv_model.specs.declared.slice.Rec.{Rec}
use Rattle.jv_model.specs.promise.blocks.Slices.{visible}
use Rattle.jv_slices.proofs.PlanLaws.{seen_fits}
use Rattle.jv_slices.proofs.plans.byte_at.Goals as goal

pub place_by-requires : goal.place_by-requires
place_by-requires c =
    let same : c.visible.result ≡ visible c.args.list.now c.args.position = c.visible.ensures ∙ ap (λ (rs : List Rec). visible rs c.args.position) c.as_slice.ensures in
    seen_fits c.args.list.now c.args.position c.visible.result c.requires (sym same)
