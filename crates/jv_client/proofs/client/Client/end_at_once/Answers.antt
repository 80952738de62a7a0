-- It is answered alone.
use Rattle.std.proofs.Common.{refl}
use Rattle.jv_client.proofs.steps.AnsweredAtOnceLaws.{end_at_once}
use Rattle.jv_client.proofs.held.StatsLaws.{stats-other}
use Rattle.jv_client.proofs.client.Client.end_at_once.Goals as goal

pub returns-clause-made : goal.returns-clause-made
returns-clause-made c now entry v =
    let h = c.args.self.now in
    end_at_once now entry h c.end.new.self v c.in-Some.told c.in-Some.reply h.doing refl c.requires.busy
    c.requires.ready c.requires.flushed c.requires.not_write c.requires.not_stats c.requires.ends c.in-Some.ensures

pub returns-clause-stats : goal.returns-clause-stats
returns-clause-stats c = stats-other c.args.self.now _ c.requires.not_stats
