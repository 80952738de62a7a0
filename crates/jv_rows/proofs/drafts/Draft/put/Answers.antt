use Rattle.std.proofs.Common.{ℕ, Some, Ok, List, ap, subst, ◌∙◌}
use Rattle.jv_model.specs.promise.rows.RowGrammar.{row_of}
use Rattle.jv_outside.specs.declared.batch.Change.{Change}
use Rattle.jv_rows.specs.Drafts.{Drafts}
use Rattle.jv_rows.proofs.transactions.DraftLaws.{drafts_put}
use Rattle.jv_rows.proofs.drafts.Draft.put.Goals as goal

pub returns : goal.returns
returns g c =
    subst (λ (before : List Change). Drafts c.args.key (Some (Ok (g.R.Grammar.row_as c.args.row.now))) before c.put.new.self c.put.result) c.self.view_is
    (drafts_put c.args.key c.in_ok-from_bytes.field-0 (g.R.Grammar.row_as c.args.row.now) c.self.inside.batch c.put.new.self c.put.result (ap (row_of c.args.key.tab) c.in_ok-from_bytes.ensures ∙ ap (λ (t : ℕ). row_of t c.in_ok-bytes.bytes) c.requires.tab ∙ c.in_ok-bytes.ensures) c.put.ensures.ok c.put.ensures.err)
