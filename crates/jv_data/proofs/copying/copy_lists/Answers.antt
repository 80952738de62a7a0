use Rattle.std.proofs.Common.{ℕ, ◌+◌, ◌++◌, List, ap, ◌∙◌, arith}
use Rattle.std.proofs.lemmas.Result.{err_from_is_err_and}
use Rattle.jv_model.specs.declared.slice.Rec.{Rec}
use Rattle.jv_data.proofs.copies.CopyingLaws.{copying-fails, copying-more}
use Rattle.jv_data.proofs.lists.PartsLaws.{part-within}
use Rattle.jv_data.proofs.copying.copy_lists.Goals as goal

pub returns-in_err-new : goal.returns-in_err-new
returns-in_err-new g c =
    let p = err_from_is_err_and c.from_residual.result c.from_residual.ensures.1 in
    rw (p.1, p.2)
    (copying-fails c.args.course (g.K.Keeper.seen c.args.k.now) (g.K.Keeper.seen c.loop-done.k) c.args.draft.now c.loop-done.draft c.loop-done.done c.loop-done.added.items
    c.loop-done.invariant.so_far (g.K.Keeper.seen c.copy_part.new.k) c.copy_part.new.draft c.in_err-new.field-0.0 c.in_err-new.ensures)

pub loop-done-preserved : goal.loop-done-preserved
loop-done-preserved g c =
    let less = c.loop-done-test.true in
    let within = part-within c.args.course c.loop-done.done less in
    let long = c.part_len.ensures in
    let same = c.from-done.ensures in
    record {
      within = omega (arith, within, long, same);
      so_far =
          copying-more c.args.course (g.K.Keeper.seen c.args.k.now) (g.K.Keeper.seen c.loop-done.k) c.args.draft.now c.loop-done.draft c.loop-done.done c.loop-done.added.items
          c.loop-done.invariant.so_far (g.K.Keeper.seen c.copy_part.new.k) c.copy_part.new.draft c.in_ok-new.new c.in_ok-new.ensures less
          (c.loop-done.done + c.from-done.result) (ap (λ (n : ℕ). c.loop-done.done + n) (same ∙ long))
          c.extend_from_slice.new.self.items
          (c.in_ok-extend_from_slice.ensures.items ∙ ap (λ (l : List Rec). c.loop-done.added.items ++ l) c.as_slice.ensures);
    }
