use Rattle.std.proofs.Common.{◌≡◌, ℕ, ◌+◌, ◌-◌, ◌/◌, ◌%◌, ◌≤◌, ap, ◌∙◌, refl, subst, arith}
use Rattle.std.proofs.lemmas.Nat.{div-add-mod', mod_below}
use Rattle.jv_model.specs.declared.slice.BlockId.{BlockId}
use Rattle.jv_model.specs.declared.slice.Spot.{Spot}
use Rattle.jv_model.specs.blocks.Slices.{LiesIn, place_after}
use Rattle.jv_model.specs.promise.blocks.Slices.{block_at, block_length}
use Rattle.jv_slices_reading.specs.declared.copying.Overlap.{Overlap}
use Rattle.jv_slices_reading.specs.Overlaps.{HasOverlaps, overlaps_at}
use Rattle.jv_slices_reading.proofs.OverlapLaws.{has_more, has_zeros, slice_overlap}
use Rattle.jv_slices_reading.proofs.table.add_piece.Goals as goal

pub returns-in_default : goal.returns-in_default
returns-in_default c = λ places len shows fits h.
    has_zeros c.args.block places len (overlaps_at c.args.table.now) c.args.start (c.args.start + c.args.piece.len) h
    (λ n low high.
    let k : ℕ = n - c.args.start in
    let place : n ≡ c.args.start + k = omega (arith, low) in
    ap places place ∙ shows k (omega (arith, low, high)) ∙ ap (λ (s : Spot). place_after s k) c.in_default.is)

pub loop-done-preserved : goal.loop-done-preserved
loop-done-preserved c =
    let block = c.args.block in
    let id = c.in-Slice.id in
    let size = c.in-Slice.size in
    let at = c.in-Slice.at in
    let done = c.loop-done.done in
    let count = c.min-len.result in
    let index : ℕ = (at + done) / block in
    let place : ℕ = (at + done) % block in
    let b : BlockId = record { id = id; index = index; size = c.block_len-size.result } in
    let o : Overlap = record { start = c.args.start + done; place = place; len = count } in
    let long : c.block_len-size.result ≡ block_length size block index = c.block_len-size.ensures.length in
    let is : b ≡ block_at id size block index = ap (λ (s : ℕ). let q : BlockId = record { id = id; index = index; size = s } in q) long in
    let inside : at + c.args.piece.len ≤ size = subst (λ (s : Spot). LiesIn c.args.piece.len s) c.in-Slice.is c.requires.part.inside in
    let part : done + count ≤ c.args.piece.len = omega arith in
    let small : place + count ≤ block_length size block index = omega (arith, div-add-mod' (at + done) block, mod_below (at + done) block c.requires.some) in
    record {
      within = part;
      has = λ places len shows fits h.
          has_more block places len (overlaps_at c.loop-done.table) (overlaps_at c.add_overlap.new.table) b o c.in_ok-add_overlap.ensures
          (c.args.start + done) (c.args.start + (done + count)) (c.loop-done.invariant.has places len shows fits h)
          (slice_overlap block places len c.args.start c.args.piece id size at done count b c.in-Slice.is inside is shows fits part small)
          refl (omega arith);
    }

pub returns : goal.returns
returns c = λ places len shows fits h.
    let all : c.loop-done.done ≡ c.args.piece.len = omega (arith, c.loop-done.invariant.within) in
    subst (λ (n : ℕ). HasOverlaps c.args.block places len (c.args.start + n) (overlaps_at c.loop-done.table)) all (c.loop-done.invariant.has places len shows fits h)
