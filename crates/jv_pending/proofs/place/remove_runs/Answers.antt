use Rattle.std.proofs.Common.{◌≡◌, ℕ, ◌+◌, ◌<◌, ◌≤◌, ◌∙◌, ◌++◌, if◌then◌else◌, List, length, Option, Some, ap, sym, subst, arith}
use Rattle.std.specs.Option.{is_some}
use Rattle.std.specs.Ordering.{is_le}
use Rattle.std.proofs.lemmas.Bool.{leb-true, leb-false}
use Rattle.jv_pending.specs.Runs.{Run, place_of, bytes_at, Rise, runs_before, runs_from}
use Rattle.jv_pending.proofs.PartLaws.{first_split, first_nothing, first_at, none_between, none_behind, cut_before, cut_from, cut_rise}
use Rattle.jv_pending.proofs.EntryLaws.{starts_le, there, removed}
use Rattle.jv_pending.proofs.place.remove_runs.Goals as goal

pub loop-start-preserved-else-is_le : goal.loop-start-preserved-else-is_le
loop-start-preserved-else-is_le c =
    let es = c.loop-start.runs.entries in
    let s = c.in-Some.start in
    let i = c.loop-start.invariant in
    let f = first_split _ _ c.in-Some.ensures in
    let at = first_at (place_of c.args.first) 0 es _ f.0 i.rise f.1 in
    let early : place_of s < place_of c.args.end = leb-false _ _ (sym (starts_le c.args.end s c.requires.end at.0) ∙ sym (ap is_le c.cmp.ensures) ∙ sym c.if-is_le.ensures) in
    let new = c.remove.ensures.entries ∙ removed s at.0 0 es i.rise in
    record {
      rise = subst (Rise 0) (sym new) (cut_rise (place_of s) (place_of s + 1) 0 es (omega arith) i.rise);
      before = ap (runs_before (place_of c.args.first)) new ∙ cut_before (place_of s) (place_of s + 1) 0 es (omega arith) i.rise (place_of c.args.first) at.1 ∙ i.before;
      after = ap (runs_from (place_of c.args.end)) new ∙ cut_from (place_of s) (place_of s + 1) 0 es (omega arith) i.rise (place_of c.args.end) (omega arith) ∙ i.after;
    }

smaller : (m n : ℕ) (o : Option (List ℕ)) (v : List ℕ) → o ≡ Some v → m + (if is_some o then 1 else 0) ≡ n → m < n
smaller m n o v e h = let k = ap (λ (p : Option (List ℕ)). m + (if is_some p then 1 else 0)) e in omega arith

pub loop-start-smaller : goal.loop-start-smaller
loop-start-smaller c =
    let es = c.loop-start.runs.entries in
    let s = c.in-Some.start in
    let i = c.loop-start.invariant in
    let f = first_split _ _ c.in-Some.ensures in
    let at = first_at (place_of c.args.first) 0 es _ f.0 i.rise f.1 in
    let found : bytes_at s es ≡ Some c.in-Some.field-0-1.now = there s at.0 0 es f.0 c.in-Some.field-0-1.now i.rise at.2 in
    smaller (length c.remove.new.self.entries) (length es) c.remove.result c.in-Some.field-0-1.now (c.remove.ensures.value ∙ found) c.remove.ensures.len

pub returns-then-is_le : goal.returns-then-is_le
returns-then-is_le c =
    let es = c.loop-start.runs.entries in
    let s = c.in-Some.start in
    let i = c.loop-start.invariant in
    let f = first_split _ _ c.in-Some.ensures in
    let at = first_at (place_of c.args.first) 0 es _ f.0 i.rise f.1 in
    let late : place_of c.args.end ≤ place_of s = leb-true _ _ (sym (starts_le c.args.end s c.requires.end at.0) ∙ sym (ap is_le c.cmp.ensures) ∙ sym c.if-is_le.ensures) in
    none_between (place_of c.args.first) (place_of c.args.end) 0 es _ f.0 c.requires.forward i.rise f.1 late
    ∙ ap (λ (t : List Run). t ++ runs_from (place_of c.args.end) es) i.before
    ∙ ap (λ (t : List Run). runs_before (place_of c.args.first) c.args.runs.now.entries ++ t) i.after

pub returns-in_default : goal.returns-in_default
returns-in_default c =
    let es = c.loop-start.runs.entries in
    let i = c.loop-start.invariant in
    none_behind (place_of c.args.first) (place_of c.args.end) 0 es c.requires.forward i.rise (first_nothing _ c.in_default.ensures)
    ∙ ap (λ (t : List Run). t ++ runs_from (place_of c.args.end) es) i.before
    ∙ ap (λ (t : List Run). runs_before (place_of c.args.first) c.args.runs.now.entries ++ t) i.after
