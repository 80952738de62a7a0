use Rattle.std.proofs.Common.{None, List, subst}
use Rattle.jv_outside.specs.declared.batch.Change.{Change}
use Rattle.jv_rows.specs.Drafts.{Drafts}
use Rattle.jv_rows.proofs.transactions.DraftLaws.{drafts_del}
use Rattle.jv_rows.proofs.drafts.Draft.drop_row.Goals as goal

pub returns : goal.returns
returns c =
    subst (λ (before : List Change). Drafts c.args.key None before c.del.new.self c.del.result) c.self.view_is
    (drafts_del c.args.key c.self.inside.batch c.del.new.self c.del.result c.del.ensures.ok c.del.ensures.err)
