use Rattle.std.proofs.Common.{◌-◌, ◌≤◌}
use Rattle.jv_data.proofs.copies.CopyingLaws.{IsCopying}
use Rattle.jv_data.proofs.copying.copy_lists.Given as goal

abbrev pub invariant-loop-done : goal.invariant-loop-done
invariant-loop-done g l = record {
  within : l.done ≤ l.course.len;
  so_far : IsCopying l.course (g.K.Keeper.seen l.fn.k) (g.K.Keeper.seen l.k) l.fn.draft l.draft l.done l.added.items;
}

abbrev pub decreases-loop-done : goal.decreases-loop-done
decreases-loop-done g l = l.course.len - l.done
