use Rattle.std.proofs.Common.{◌≡◌, ℕ, ◌+◌, ◌<◌, ◌≤◌, Option, None, get_or, drop, arith, subst, sym}
use Rattle.std.specs.Option.{option_or}
use Rattle.jv_model.specs.declared.slice.Rec.{Rec}
use Rattle.jv_slices.specs.declared.layout.Stretch.{Stretch}
use Rattle.jv_slices.specs.Stretches.{IsSeen, Shows, IsLayout}
use Rattle.jv_slices.proofs.StretchLaws.{shows_drop, seen_over, shows_end}
use Rattle.jv_slices.proofs.layout.lay_over.Goals as goal
use Rattle.jv_slices.proofs.layout.lay_over.Goals.{then-loop-i-test+else-j-upper, else-loop-i-test}

pub loop-i-preserved : goal.loop-i-preserved
loop-i-preserved c = record {
  lower_within = c.next_index-i.ensures.within;
  upper_within = c.next_index-j.ensures.within;
  over = λ below above to first second.
      let known = c.loop-i.invariant.over below above to first second in
      let lower = c.args.lower.now in
      let upper = c.args.upper.now in
      let at = c.loop-i.at in
      let end = c.min-end.result in
      let over : ℕ → Option Rec = λ position. option_or (above position) (below position) in
      let d : Stretch = record { end = 0; seen = None } in
      let low : Stretch = get_or lower c.loop-i.i d in
      let high : Stretch = get_or upper c.loop-i.j d in
      let lows : (at < low.end) × IsSeen below at low.end low.seen × Shows below low.end to (drop (c.loop-i.i + 1) lower) = shows_drop below at to lower c.loop-i.i d (omega arith) known.lower_left in
      let highs : (at < high.end) × IsSeen above at high.end high.seen × Shows above high.end to (drop (c.loop-i.j + 1) upper) = shows_drop above at to upper c.loop-i.j d (omega arith) known.upper_left in
      let up : at < end = omega (arith, lows.0, highs.0) in
      let within_low : end ≤ low.end = omega arith in
      let within_high : end ≤ high.end = omega arith in
      let seen = subst (λ (r : Option Rec). IsSeen over at end r) (sym c.or.ensures) (seen_over below above at end low.end high.end low.seen high.seen lows.1 highs.1 within_low within_high) in
      record {
        done = c.in_ok-show.ensures over c.args.from known.done (omega arith) seen;
        lower_left = c.next_index-i.ensures.rest below at to d (omega arith) within_low known.lower_left;
        upper_left = c.next_index-j.ensures.rest above at to d (omega arith) within_high known.upper_left;
      };
}

pub returns : goal.returns
returns c = λ below above to first second.
    let known = c.loop-i.invariant.over below above to first second in
    let over_end = λ (at end : ℕ) (h : IsLayout (λ position. option_or (above position) (below position)) c.args.from at c.loop-i.stretches.items) (e : at ≡ end). subst (λ (n : ℕ). IsLayout (λ position. option_or (above position) (below position)) c.args.from n c.loop-i.stretches.items) e h in
    elim c.loop-i-test.branch [
      | then-loop-i-test+else-j-upper w ↦ over_end c.loop-i.at to (known.done) (shows_end above c.loop-i.at to c.args.upper.now c.loop-i.j w.if-j-upper.false known.upper_left)
      | else-loop-i-test w ↦ over_end c.loop-i.at to (known.done) (shows_end below c.loop-i.at to c.args.lower.now c.loop-i.i w.loop-i-test.false known.lower_left)
    ]
