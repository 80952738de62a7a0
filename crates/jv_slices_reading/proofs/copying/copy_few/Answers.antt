use Rattle.std.proofs.Common.{◌≡◌, ℕ, ◌+◌, ◌∙◌, length, take, get_or, List, ap, sym, subst}
use Rattle.std.proofs.lemmas.List.{take_all}
use Rattle.jv_model.specs.blocks.Slices.{is_same_block}
use Rattle.jv_slices_reading.specs.declared.copying.Shown.{Shown}
use Rattle.jv_slices_reading.specs.Copies.{Fits, HasBytes, IsCopied}
use Rattle.jv_slices_reading.specs.Overlaps.{overlaps_in}
use Rattle.jv_slices_reading.proofs.FewLaws.{copied_other, copied_own, own_has, same_if_equal}
use Rattle.jv_slices_reading.proofs.copying.copy_few.Goals as goal
use Rattle.jv_slices_reading.proofs.copying.copy_few.Goals.{then-eq, else-eq}

abbrev none : Shown
none = record { block = record { id = 0; index = 0; size = 0 }; overlap = record { start = 0; place = 0; len = 0 } }

pub copy_overlap-requires : goal.copy_overlap-requires
copy_overlap-requires c =
    let few = c.args.few.now in
    let own : Fits (length c.args.block.now) (length c.args.bytes.now) (get_or few c.loop-shown.shown-index none).overlap =
    own_has (λ o. Fits (length c.args.block.now) (length c.args.bytes.now) o) few c.loop-shown.shown-index none c.args.id c.loop-shown-test.true
    (sym (same_if_equal (get_or few c.loop-shown.shown-index none).block c.args.id) ∙ sym c.eq.ensures ∙ c.if-eq.true) c.requires in
    subst (λ (n : ℕ). Fits (length c.args.block.now) n (get_or few c.loop-shown.shown-index none).overlap) (sym c.loop-shown.invariant.long) own

pub loop-shown-preserved : goal.loop-shown-preserved
loop-shown-preserved c =
    let few = c.args.few.now in
    let i = c.loop-shown.shown-index in
    let id = c.args.id in
    let block = c.args.block.now in
    let before = c.args.bytes.now in
    let long : length c.loop-shown.bytes ≡ length before = c.loop-shown.invariant.long in
    let same : c.eq.result ≡ is_same_block (get_or few i none).block id = c.eq.ensures ∙ same_if_equal (get_or few i none).block id in
    elim c.if-eq.branch [
      | then-eq w ↦ record {
        long = ap (length {A = ℕ}) w.bytes-is ∙ w.copy_overlap.auto.bytes ∙ long;
        copied = λ byte has. subst (λ (bytes : List ℕ). IsCopied byte (overlaps_in (take (i + 1) few) id) before bytes) (sym w.bytes-is)
            (copied_own few i none id c.loop-shown-test.true byte before c.loop-shown.bytes w.copy_overlap.new.bytes (sym same ∙ w.if-eq.true) long
            (c.loop-shown.invariant.copied byte has)
            (w.copy_overlap.ensures byte (own_has (HasBytes byte block) few i none id c.loop-shown-test.true (sym same ∙ w.if-eq.true) has)));
      }
      | else-eq w ↦ record {
        long = ap (length {A = ℕ}) w.bytes-is ∙ long;
        copied = λ byte has. subst (λ (bytes : List ℕ). IsCopied byte (overlaps_in (take (i + 1) few) id) before bytes) (sym w.bytes-is)
            (copied_other few i none id c.loop-shown-test.true byte before c.loop-shown.bytes (sym same ∙ w.if-eq.false) (c.loop-shown.invariant.copied byte has));
      }
    ]

pub returns : goal.returns
returns c = λ byte has.
    let whole = take_all c.loop-shown.shown-index c.args.few.now c.loop-shown-test.false in
    subst (λ (few : List Shown). IsCopied byte (overlaps_in few c.args.id) c.args.bytes.now c.loop-shown.bytes) whole (c.loop-shown.invariant.copied byte has)
