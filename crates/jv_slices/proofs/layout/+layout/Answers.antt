use Rattle.std.proofs.Common.{◌≡◌, ◌++◌, ◌/◌, ℕ, List, Option, take, length, subst, sym, ap, ◌∙◌}
use Rattle.std.specs.Option.{option_or}
use Rattle.std.proofs.lemmas.List.{take-append-drop}
use Rattle.std.proofs.lemmas.Result.{IfOk-weaker}
use Rattle.jv_model.specs.declared.slice.Rec.{Rec}
use Rattle.jv_model.specs.promise.blocks.Slices.{visible}
use Rattle.jv_slices.specs.declared.layout.Stretch.{Stretch}
use Rattle.jv_slices.specs.Stretches.{Shows, IsLayout}
use Rattle.jv_slices.proofs.StretchLaws.{layout_same, visible-append}
use Rattle.jv_slices.proofs.layout.+layout.Goals as goal

pub returns : goal.returns
returns t c =
    let records = c.args.records.now in
    let from = c.args.from in
    let to = c.args.to in
    let front = c.split_at.result.0.now in
    let back = c.split_at.result.1.now in
    let over : ℕ → Option Rec = λ position. option_or (visible back position) (visible front position) in
    let split : front ++ back ≡ records = ap (λ (xs : List Rec). xs ++ back) c.split_at.ensures.front ∙ ap (λ (ys : List Rec). take (length records / 2) records ++ ys) c.split_at.ensures.back ∙ take-append-drop (length records / 2) records in
    let same : (q : ℕ) → over q ≡ visible records q = λ q. sym (visible-append front back q) ∙ ap (λ (rs : List Rec). visible rs q) split in
    let lower = subst (λ (rs : List Stretch). Shows (visible front) from to rs) (sym c.deref.ensures.value) c.in_ok-lower.ensures.shows in
    let upper = subst (λ (rs : List Stretch). Shows (visible back) from to rs) (sym c.deref-2.ensures.value) c.in_ok-upper.ensures.shows in
    IfOk-weaker c.lay_over.result
    (λ stretches. (below above : ℕ → Option Rec) (to : ℕ) → Shows below from to c.deref.result.now → Shows above from to c.deref-2.result.now → IsLayout (λ position. option_or (above position) (below position)) from to stretches.items)
    (λ stretches. IsLayout (visible records) from to stretches.items)
    (λ stretches h. layout_same over (visible records) same from to stretches.items (h (visible front) (visible back) to lower upper))
    c.lay_over.ensures
