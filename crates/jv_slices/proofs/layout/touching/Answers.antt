use Rattle.std.proofs.Common.{◌++◌, ◌∷◌, [], List, Bool, cond, filter, get_or, sym, ap, ◌∙◌}
use Rattle.jv_model.specs.declared.slice.Rec.{Rec}
use Rattle.jv_slices.specs.Stretches.{touches}
use Rattle.jv_slices.proofs.StretchLaws.{kept-more, kept-all}
use Rattle.jv_slices.proofs.layout.touching.Goals as goal
use Rattle.jv_slices.proofs.layout.touching.Goals.{then-touches+in_ok-push, else-touches}

pub loop-record-init : goal.loop-record-init
loop-record-init c = record { left = sym (ap (λ (xs : List Rec). xs ++ filter (touches c.args.from c.args.to) c.args.records.now) c.new-near.ensures.items) }

pub loop-record-preserved : goal.loop-record-preserved
loop-record-preserved c =
    let all = c.args.records.now in
    let k = c.loop-record.record-index in
    let p : Rec → Bool = touches c.args.from c.args.to in
    let near = c.loop-record.near.items in
    let d : Rec = record { pos = 0; id = 0; size = 0; off = 0; len = 0 } in
    let pick : Bool → List Rec = λ v. cond v (near ++ get_or all k d ∷ []) near in
    record {
      left = elim c.if-touches.branch [
        | then-touches+in_ok-push w ↦ kept-more p all near c.if-touches.near.items k d c.loop-record-test.true c.loop-record.invariant.left
            (ap (λ v. v.items) w.near-is ∙ w.in_ok-push.ensures.items ∙ sym (ap pick (sym c.touches.ensures ∙ w.if-touches.true)))
        | else-touches w ↦ kept-more p all near c.if-touches.near.items k d c.loop-record-test.true c.loop-record.invariant.left
            (ap (λ v. v.items) w.near-is ∙ sym (ap pick (sym c.touches.ensures ∙ w.if-touches.false)))
      ];
    }

pub returns : goal.returns
returns c = kept-all (touches c.args.from c.args.to) c.args.records.now c.loop-record.near.items c.loop-record.record-index
    c.loop-record-test.false c.loop-record.invariant.left
