use Rattle.std.proofs.Common.{◌≡◌, ◌+◌, ◌-◌, ◌≤◌, ◌∙◌, List, ℕ, [], ◌∷◌, take, length, ap, sym, subst, arith}
use Rattle.std.proofs.lemmas.List.{take_all}
use Rattle.jv_pending.specs.Runs.{Run, place_of, Rise, runs_within, with_runs, tail_of, joined_behind}
use Rattle.jv_pending.proofs.PartLaws.{with_rise}
use Rattle.jv_pending.proofs.EntryLaws.{one_rises}
use Rattle.jv_pending.proofs.WrittenLaws.{first_file, is_forward, reaches_here, window_written, within_same, put_same}
use Rattle.jv_pending.proofs.write.write_window.Goals as goal

whole : (len : ℕ) (run v : List ℕ) → take len run ≡ v → length run ≤ len → run ≡ v
whole len run v e l = sym (take_all len run l) ∙ e

pub join_runs-requires-clause-reaches : goal.join_runs-requires-clause-reaches
join_runs-requires-clause-reaches c =
    let taken = c.in_ok-taken.ensures in
    let l = taken.long in
    let end = c.end_touched-end in
    reaches_here c.args.from c.args.bytes.now c.args.first c.args.runs.now.entries c.requires.rise c.requires.starts c.requires.some c.requires.file end.result end.ensures.inode end.ensures.from
    c.in_ok-taken.taken.run (whole c.in_ok-taken.taken.len c.in_ok-taken.taken.run _ taken.run (omega arith))

pub returns-in-Ok-clause-rise : goal.returns-in-Ok-clause-rise
returns-in-Ok-clause-rise c =
    let end = c.end_touched-end in
    let mid = c.take_run.new.runs.entries in
    let rise = c.in_ok-taken.ensures.rise in
    let file = first_file c.args.from c.args.bytes.now c.args.first c.args.runs.now.entries c.requires.rise c.requires.starts c.requires.some c.requires.file in
    let up = is_forward c.args.from c.args.bytes.now c.args.first c.args.runs.now.entries c.requires.rise c.requires.starts c.requires.some c.requires.file end.result end.ensures.inode end.ensures.from in
    let put : List ℕ = joined_behind (c.args.from - c.args.first.from) c.in_ok-taken.taken.run c.args.bytes.now (tail_of (c.args.from + length c.args.bytes.now) (runs_within (place_of c.args.first + 1) (place_of end.result) mid)) in
    subst (Rise 0) (sym c.in-Ok.ensures.ok)
    (with_rise ((c.args.first, put) ∷ []) (place_of end.result) 0 mid (one_rises c.args.first file mid rise put) (up, tt) rise)

pub returns-in-Ok-clause-ok : goal.returns-in-Ok-clause-ok
returns-in-Ok-clause-ok c =
    let taken = c.in_ok-taken.ensures in
    let l = taken.long in
    let end = c.end_touched-end in
    let rs = c.args.runs.now.entries in
    let mid = c.take_run.new.runs.entries in
    let run = c.in_ok-taken.taken.run in
    let high = place_of end.result in
    let to : ℕ = c.args.from + length c.args.bytes.now in
    let up = is_forward c.args.from c.args.bytes.now c.args.first rs c.requires.rise c.requires.starts c.requires.some c.requires.file end.result end.ensures.inode end.ensures.from in
    window_written c.args.from c.args.bytes.now c.args.first rs c.requires.rise c.requires.starts c.requires.some c.requires.file end.result end.ensures.inode end.ensures.from
    c.join_runs.new.runs.entries run (whole c.in_ok-taken.taken.len run _ taken.run (omega arith)) c.requires.window
    (c.in-Ok.ensures.ok
    ∙ ap (λ (t : List Run). with_runs ((c.args.first, joined_behind (c.args.from - c.args.first.from) run c.args.bytes.now (tail_of to t)) ∷ []) high mid) (within_same c.args.first high rs mid taken.after)
    ∙ put_same c.args.first high rs mid (joined_behind (c.args.from - c.args.first.from) run c.args.bytes.now (tail_of to (runs_within (place_of c.args.first + 1) high rs))) up taken.before taken.after)
