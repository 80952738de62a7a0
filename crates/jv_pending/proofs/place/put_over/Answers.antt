use Rattle.std.proofs.Common.{◌≡◌, ◌+◌, ◌∙◌, ◌++◌, ℕ, List, [], ◌∷◌, is_some, ap, sym, subst, arith}
use Rattle.jv_pending.specs.Runs.{Run, place_of, bytes_at, Rise, runs_before, runs_from, with_runs}
use Rattle.jv_pending.proofs.PartLaws.{cut_rise}
use Rattle.jv_model.proofs.TestLaws.{some_of}
use Rattle.jv_pending.proofs.EntryLaws.{left_there, settled}
use Rattle.jv_pending.proofs.place.put_over.Goals as goal

left : (first high after : ℕ) (es new : List Run) → after ≡ first + 1 → new ≡ runs_before after es ++ runs_from high es → new ≡ runs_before (first + 1) es ++ runs_from high es
left first high after es new e h = h ∙ ap (λ n. runs_before n es ++ runs_from high es) e

pub swap_bytes-requires-clause-rise : goal.swap_bytes-requires-clause-rise
swap_bytes-requires-clause-rise c =
    let h = c.requires.forward in
    subst (Rise 0) (sym (left (place_of c.args.start) (place_of c.args.end) (place_of c.next.result) c.args.runs.now.entries c.remove_runs.new.runs.entries c.next.ensures.place c.remove_runs.ensures)) (cut_rise (place_of c.args.start + 1) (place_of c.args.end) 0 c.args.runs.now.entries (omega arith) c.requires.rise)

pub swap_bytes-requires-clause-there : goal.swap_bytes-requires-clause-there
swap_bytes-requires-clause-there c =
    let v = some_of _ c.requires.there in
    ap is_some (ap (bytes_at c.args.start) (left (place_of c.args.start) (place_of c.args.end) (place_of c.next.result) c.args.runs.now.entries c.remove_runs.new.runs.entries c.next.ensures.place c.remove_runs.ensures) ∙ left_there c.args.start c.requires.start c.args.runs.now.entries c.requires.rise v.0 (place_of c.args.end) c.requires.forward v.1)

pub returns : goal.returns
returns c =
    c.swap_bytes.ensures.runs
    ∙ ap (with_runs ((c.args.start, c.args.bytes) ∷ []) (place_of c.args.start + 1)) (left (place_of c.args.start) (place_of c.args.end) (place_of c.next.result) c.args.runs.now.entries c.remove_runs.new.runs.entries c.next.ensures.place c.remove_runs.ensures)
    ∙ settled c.args.start c.requires.start c.args.runs.now.entries c.requires.rise c.args.bytes (place_of c.args.end) c.requires.forward
