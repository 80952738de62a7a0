use Rattle.std.proofs.Common.{◌∙◌, take, Bool, ap, sym}
use Rattle.jv_pending.specs.Runs.{given_back}
use Rattle.jv_pending.proofs.EntryLaws.{removed}
use Rattle.jv_pending.proofs.place.give_back.Goals as goal

pub returns-then-taken : goal.returns-then-taken
returns-then-taken c =
    let es = c.args.runs.now.entries in
    c.remove.ensures.entries ∙ removed c.args.start c.requires.file 0 es c.requires.rise
    ∙ ap (λ (b : Bool). given_back c.args.start b (take c.args.taken.len c.args.taken.run) es) (sym c.if-taken.true)
