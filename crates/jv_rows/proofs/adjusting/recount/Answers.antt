use Rattle.jv_rows.proofs.counts.AdjustLaws.{recounts}
use Rattle.jv_rows.proofs.adjusting.recount.Goals as goal

pub returns : goal.returns
returns g c =
    recounts c.args.turnover.now.id c.args.turnover.now.gone c.args.turnover.now.added c.args.due (g.K.Keeper.seen c.args.k.now) (g.K.Keeper.seen c.needed_slice.new.k) c.args.draft.now c.put_count.new.draft
    c.in_ok-slice.slice c.in-Some.count c.in_ok-slice.ensures c.in-Some.ensures c.in_ok-put_count.ensures
