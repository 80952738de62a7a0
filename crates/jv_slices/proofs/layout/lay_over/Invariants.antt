use Rattle.std.proofs.Common.{ℕ, ◌+◌, ◌-◌, ◌≤◌, length, drop, Option}
use Rattle.std.specs.Option.{option_or}
use Rattle.jv_model.specs.declared.slice.Rec.{Rec}
use Rattle.jv_slices.specs.Stretches.{Shows, IsLayout}
use Rattle.jv_slices.proofs.layout.lay_over.Given as goal

abbrev pub invariant-loop-i : goal.invariant-loop-i
invariant-loop-i l = record {
  lower_within : l.i ≤ length l.lower;
  upper_within : l.j ≤ length l.upper;
  over : (below above : ℕ → Option Rec) (to : ℕ) → Shows below l.from to l.lower → Shows above l.from to l.upper →
      record {
        done : IsLayout (λ position. option_or (above position) (below position)) l.from l.at l.stretches.items;
        lower_left : Shows below l.at to (drop l.i l.lower);
        upper_left : Shows above l.at to (drop l.j l.upper);
      };
}

abbrev pub decreases-loop-i : goal.decreases-loop-i
decreases-loop-i l = (length l.initial.lower - l.i) + (length l.initial.upper - l.j)
