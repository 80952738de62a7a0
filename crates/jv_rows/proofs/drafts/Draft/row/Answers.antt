use Rattle.std.proofs.Common.{Some, ap, sym, ◌∙◌}
use Rattle.jv_rows.specs.Drafts.{last_change}
use Rattle.jv_rows.proofs.transactions.DraftLaws.{sees_stored, sees_deleted, sees_put}
use Rattle.jv_rows.proofs.drafts.Draft.row.Goals as goal

pub returns-in-None : goal.returns-in-None
returns-in-None g c =
    sees_stored g.R.Grammar.row_as g.R.Grammar.read_as g.R.Grammar.tab g.met.R.Grammar.reads_row c.args.key c.requires g.R.Grammar.spelled_as g.R.Grammar.is_allowed c.args.self.now
    (g.K.Keeper.seen c.args.k.now) (g.K.Keeper.seen c.read_row.new.k) c.read_row.result
    (sym (c.in-None.ensures ∙ ap (last_change c.args.key) (c.as_slice.ensures ∙ c.self.view_is))) c.read_row.ensures

pub returns-in-Some-Put : goal.returns-in-Some-Put
returns-in-Some-Put g c =
    sees_put g.R.Grammar.row_as g.R.Grammar.read_as g.R.Grammar.tab g.met.R.Grammar.reads_row c.args.key c.requires g.R.Grammar.spelled_as g.R.Grammar.is_allowed c.args.self.now
    c.in-Some-Put.field-0-0 c.in-Some-Put.bytes (g.K.Keeper.seen c.args.k.now) c.read_put.result
    (sym (c.in-Some-Put.ensures ∙ ap (last_change c.args.key) (c.as_slice.ensures ∙ c.self.view_is))
    ∙ ap (λ change. Some change) c.in-Some-Put.field-0-is) c.read_put.ensures

pub returns-in-Some-Del : goal.returns-in-Some-Del
returns-in-Some-Del g c =
    sees_deleted g.R.Grammar.row_as g.R.Grammar.read_as g.R.Grammar.tab g.met.R.Grammar.reads_row c.args.key c.requires g.R.Grammar.spelled_as g.R.Grammar.is_allowed c.args.self.now
    c.in-Some-Del.field-0-0 (g.K.Keeper.seen c.args.k.now)
    (sym (c.in-Some-Del.ensures ∙ ap (last_change c.args.key) (c.as_slice.ensures ∙ c.self.view_is)) ∙ ap (λ change. Some change) c.in-Some-Del.field-0-is)
