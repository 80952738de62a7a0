use Rattle.std.proofs.Common.{◌+◌, ◌∙◌, List, ℕ, [], ◌∷◌, ap, sym}
use Rattle.std.specs.Option.{option_copied_mut}
use Rattle.jv_pending.specs.Runs.{place_of, with_runs}
use Rattle.jv_pending.proofs.EntryLaws.{swapped}
use Rattle.jv_pending.proofs.place.swap_bytes.Goals as goal

pub returns-clause-runs : goal.returns-clause-runs
returns-clause-runs c =
    let old = c.args.runs.now.entries in
    (c.get_mut.follows.holds c.replace.new.dest).0
    ∙ swapped c.args.start c.requires.file old c.requires.rise c.unwrap.result.now c.replace.new.dest (sym c.get_mut.ensures.value ∙ ap option_copied_mut c.unwrap.ensures)
    ∙ ap (λ (v : List ℕ). with_runs ((c.args.start, v) ∷ []) (place_of c.args.start + 1) old) c.replace.ensures.after
