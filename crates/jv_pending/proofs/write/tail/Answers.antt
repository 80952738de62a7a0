use Rattle.std.proofs.Common.{◌≤◌, ◌<◌, ◌-◌, ◌∙◌, drop, ap, sym}
use Rattle.std.proofs.lemmas.Bool.{leb-true, leb-false}
use Rattle.std.proofs.lemmas.List.{take_rest, drop_min}
use Rattle.std.specs.Ordering.{is_le}
use Rattle.jv_pending.specs.Runs.{Run, place_of}
use Rattle.jv_pending.proofs.TouchedLaws.{last_file, tail_there, tail_early, tail_none}
use Rattle.jv_pending.proofs.EntryLaws.{starts_le}
use Rattle.jv_pending.proofs.write.tail.Goals as goal
use Rattle.jv_pending.proofs.write.tail.Goals.{in_default-via-in-Some+else-is_le, in_default-via-in_default}

pub returns-in-Some : goal.returns-in-Some
returns-in-Some c =
    let s = c.as_slice-bytes.result.now in
    let r : Run = (c.in-Some.start, c.in-Some.bytes.now) in
    let rs = c.args.runs.now.entries in
    let f = last_file (place_of c.args.end) rs r c.requires.rise c.in-Some.ensures in
    let late : place_of c.args.first ≤ place_of c.in-Some.start =
    leb-true (place_of c.args.first) (place_of c.in-Some.start) (sym (starts_le c.args.first c.in-Some.start c.requires.first f.0) ∙ sym (ap is_le c.cmp.ensures) ∙ sym c.if-is_le.ensures) in
    take_rest s c.min.result
    ∙ ap (λ n. drop n s) c.min.ensures
    ∙ drop_min c.saturating_sub-count.result s
    ∙ ap (λ n. drop n s) c.saturating_sub-count.ensures
    ∙ ap (drop (c.args.to - c.in-Some.start.from)) c.as_slice-bytes.ensures
    ∙ sym (tail_there (place_of c.args.first) (place_of c.args.end) c.args.to rs r c.requires.rise c.in-Some.ensures late)

pub returns-in_default : goal.returns-in_default
returns-in_default c =
    let rs = c.args.runs.now.entries in
    elim c.in_default.branch [
      | in_default-via-in-Some+else-is_le w ↦
          let r : Run = (w.in-Some.start, w.in-Some.bytes.now) in
          let f = last_file (place_of c.args.end) rs r c.requires.rise w.in-Some.ensures in
          let early : place_of w.in-Some.start < place_of c.args.first =
          leb-false (place_of c.args.first) (place_of w.in-Some.start) (sym (starts_le c.args.first w.in-Some.start c.requires.first f.0) ∙ sym (ap is_le w.cmp.ensures) ∙ sym w.if-is_le.ensures) in
          sym (tail_early (place_of c.args.first) (place_of c.args.end) c.args.to rs r c.requires.rise w.in-Some.ensures early)
      | in_default-via-in_default w ↦ sym (tail_none (place_of c.args.first) (place_of c.args.end) c.args.to rs w.in_default.ensures)
    ]
