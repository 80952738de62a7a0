use Rattle.std.proofs.Common.{◌≡◌, ◌∙◌, length, List, subst}
use Rattle.std.proofs.lemmas.List.{take_all}
use Rattle.jv_slices_reading.specs.declared.copying.Overlap.{Overlap}
use Rattle.jv_slices_reading.specs.Copies.{IsCopied}
use Rattle.jv_slices_reading.proofs.CopyLaws.{copied_more}
use Rattle.jv_slices_reading.proofs.copying.copy_overlaps.Goals as goal

pub loop-overlap-preserved : goal.loop-overlap-preserved
loop-overlap-preserved c =
    let overlaps = c.args.overlaps.now in
    let i = c.loop-overlap.overlap-index in
    let d : Overlap = record { start = 0; place = 0; len = 0 } in
    let long : length c.loop-overlap.bytes ≡ length c.args.bytes.now = c.loop-overlap.invariant.long in
    record {
      long = c.copy_overlap.auto.bytes ∙ long;
      copied = λ byte has. copied_more byte overlaps i d c.args.bytes.now c.loop-overlap.bytes c.copy_overlap.new.bytes c.loop-overlap-test.true
          long (c.loop-overlap.invariant.copied byte has) (c.copy_overlap.ensures byte (has i d c.loop-overlap-test.true));
    }

pub returns : goal.returns
returns c = λ byte has.
    let whole = take_all c.loop-overlap.overlap-index c.args.overlaps.now c.loop-overlap-test.false in
    subst (λ (os : List Overlap). IsCopied byte os c.args.bytes.now c.loop-overlap.bytes) whole (c.loop-overlap.invariant.copied byte has)
