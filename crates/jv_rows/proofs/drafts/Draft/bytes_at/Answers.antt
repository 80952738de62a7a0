use Rattle.std.proofs.Common.{ℕ, List, None, Some, refl, sym, ap, ◌∙◌}
use Rattle.std.proofs.lemmas.Result.{err_from_is_err_and}
use Rattle.jv_outside.specs.declared.batch.Change.TheVariants.{Put, Del}
use Rattle.jv_rows.specs.Drafts.{last_change}
use Rattle.jv_rows.proofs.counts.AppendingLaws.{finds-stored, finds-changed}
use Rattle.jv_rows.proofs.drafts.Draft.bytes_at.Goals as goal

pub returns-in_err-shared-in-Some-Put : goal.returns-in_err-shared-in-Some-Put
returns-in_err-shared-in-Some-Put g c =
    let p = err_from_is_err_and c.from_residual.result c.from_residual.ensures.1 in
    rw (p.1, p.2) (record { content_is = refl; opened_at = refl; cause = refl })

pub returns-in-None : goal.returns-in-None
returns-in-None g c =
    finds-stored c.args.self.now c.args.key.now (g.K.Keeper.seen c.args.k.now) (g.K.Keeper.seen c.get.new.self) c.get.result
    (c.in-None.ensures ∙ ap (last_change c.args.key.now) (c.as_slice.ensures ∙ c.self.view_is)) c.get.ensures

pub returns-in_ok-shared-in-Some-Put : goal.returns-in_ok-shared-in-Some-Put
returns-in_ok-shared-in-Some-Put g c =
    finds-changed c.args.self.now c.args.key.now (g.K.Keeper.seen c.args.k.now) (Put c.in-Some-Put.field-0-0 c.in-Some-Put.bytes)
    (Some c.in_ok-shared-in-Some-Put.field-0)
    (sym (sym (c.in-Some-Put.ensures ∙ ap (last_change c.args.key.now) (c.as_slice.ensures ∙ c.self.view_is))
    ∙ ap (λ change. Some change) c.in-Some-Put.field-0-is))
    (ap (λ (bytes : List ℕ). Some bytes) c.in_ok-shared-in-Some-Put.ensures)

pub returns-in-Some-Del : goal.returns-in-Some-Del
returns-in-Some-Del g c =
    finds-changed c.args.self.now c.args.key.now (g.K.Keeper.seen c.args.k.now) (Del c.in-Some-Del.field-0-0) None
    (sym (sym (c.in-Some-Del.ensures ∙ ap (last_change c.args.key.now) (c.as_slice.ensures ∙ c.self.view_is)) ∙ ap (λ change. Some change) c.in-Some-Del.field-0-is))
    refl
