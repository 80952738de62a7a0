use Rattle.std.proofs.Common.{◌≡◌, ◌+◌, ◌-◌, ◌%◌, ◌<◌, ◌≤◌}
use Rattle.jv_model.specs.declared.limits.TheConstants.{WINDOW}
use Rattle.jv_data.proofs.lists.ShownLaws.{IsShowing}
use Rattle.jv_data.proofs.copying.shown.Given as goal

abbrev pub invariant-loop-done : goal.invariant-loop-done
invariant-loop-done g l = record {
  within : l.done ≤ l.len;
  cut : 0 < l.done → l.done < l.len → l.from % WINDOW + l.done ≡ WINDOW;
  so_far : IsShowing l.inode l.from l.pos (g.K.Keeper.seen l.fn.k) (g.K.Keeper.seen l.k) l.done l.shown;
}

abbrev pub decreases-loop-done : goal.decreases-loop-done
decreases-loop-done g l = l.len - l.done
