use Rattle.std.proofs.Common.{◌≡◌, List, filter, subst, sym, ap, ◌∙◌}
use Rattle.std.specs.Prelude.{All}
use Rattle.std.proofs.lemmas.List.Elements.{All-filter}
use Rattle.std.proofs.lemmas.Result.{IfOk-weaker}
use Rattle.jv_model.specs.declared.slice.Rec.{Rec}
use Rattle.jv_model.specs.promise.blocks.Slices.{IsRecord, visible}
use Rattle.jv_slices.specs.Stretches.{IsLayout, touches}
use Rattle.jv_slices.proofs.StretchLaws.{layout_in, visible-touching}
use Rattle.jv_slices.proofs.layout.show_range.Goals as goal

pub layout-requires-clause-records : goal.layout-requires-clause-records
layout-requires-clause-records c =
    subst (λ (rs : List Rec). All IsRecord rs) (sym (c.deref.ensures.value ∙ c.in_ok-near.ensures))
    (All-filter (touches c.args.from c.args.to) IsRecord c.args.records.now c.requires.records)

pub returns : goal.returns
returns c =
    let records = c.args.records.now in
    let from = c.args.from in
    let to = c.args.to in
    let near = c.deref.result.now in
    let same : near ≡ filter (touches from to) records = c.deref.ensures.value ∙ c.in_ok-near.ensures in
    IfOk-weaker c.layout.result
    (λ stretches. IsLayout (visible near) from to stretches.items)
    (λ stretches. IsLayout (visible records) from to stretches.items)
    (λ stretches h. layout_in (visible near) (visible records) from to stretches.items
    (λ q low high. ap (λ (rs : List Rec). visible rs q) same ∙ visible-touching from to q records low high) h)
    c.layout.ensures
