-- Each way is a step, with whatever it doesn't touch as it was.
use Rattle.std.proofs.Common.{Some, refl, sym, ap, ◌∙◌}
use Rattle.std.specs.Option.{option_map}
use Rattle.jv_model.specs.declared.profile.Does.TheVariants.{Reads, Releases}
use Rattle.jv_pending.specs.At.{segment_at}
use Rattle.jv_client.proofs.reads.ReadingLaws.{ahead-already}
use Rattle.jv_client.proofs.held.StatsLaws.{stats-does, stats-flushing, stats-reading, stats-told}
use Rattle.jv_client.proofs.client.Client.make.Goals as goal

pub returns-in-Some-segment_left-clause-made : goal.returns-in-Some-segment_left-clause-made
returns-in-Some-segment_left-clause-made g c = c.flush_on.ensures c.args.entry

pub returns-in-Mounts-clause-made : goal.returns-in-Mounts-clause-made
returns-in-Mounts-clause-made g c = c.transact.ensures _ _

pub returns-in-Releases-clause-made : goal.returns-in-Releases-clause-made
returns-in-Releases-clause-made g c = c.close.ensures _ _

pub returns-in-Reads-clause-made : goal.returns-in-Reads-clause-made
returns-in-Reads-clause-made g c = c.read.ensures c.args.now _

pub returns-in-Truncates-clause-made : goal.returns-in-Truncates-clause-made
returns-in-Truncates-clause-made g c = c.change.ensures c.args.entry _ _

pub returns-in-Answers-Count-clause-made : goal.returns-in-Answers-Count-clause-made
returns-in-Answers-Count-clause-made g c = c.write.ensures c.args.now c.args.entry _

pub returns-in-Answers-CacheStats-clause-made : goal.returns-in-Answers-CacheStats-clause-made
returns-in-Answers-CacheStats-clause-made g c = c.say_stats.ensures.made c.args.now c.args.entry _

pub returns-in_default-does-clause-made : goal.returns-in_default-does-clause-made
returns-in_default-does-clause-made g c = c.end_at_once.ensures.made c.args.now c.args.entry _

pub returns-in-Some-clause-made : goal.returns-in-Some-clause-made
returns-in-Some-clause-made g c =
    c.ask.ensures c.args.now _ c.args.self.now
    (ahead-already c.args.self.now c.args.yard.now.setting.block c.in-Some.need c.requires.ready
    (sym c.need.ensures ∙ c.in-Some.is)) c.requires.ready

pub returns-in-Some-clause-stats : goal.returns-in-Some-clause-stats
returns-in-Some-clause-stats g c =
    stats-reading c.args.self.now _ c.in-Some.need c.requires.ready (sym c.need.ensures ∙ c.in-Some.is)

pub returns-in-Some-segment_left-clause-stats : goal.returns-in-Some-segment_left-clause-stats
returns-in-Some-segment_left-clause-stats g c =
    stats-flushing c.args.self.now _ (segment_at c.in-Some-segment_left.at) c.requires.ready
    (sym c.segment_left.ensures.least ∙ ap (option_map segment_at) c.in-Some-segment_left.is)

pub returns-in-Releases-clause-stats : goal.returns-in-Releases-clause-stats
returns-in-Releases-clause-stats g c =
    stats-does c.args.self.now _ Releases (c.does.ensures ∙ ap Some c.in-Releases.is) refl

pub returns-in-Reads-clause-stats : goal.returns-in-Reads-clause-stats
returns-in-Reads-clause-stats g c =
    stats-does c.args.self.now _ (Reads c.in-Reads.offset c.in-Reads.len) (c.does.ensures ∙ ap Some c.in-Reads.is) refl

pub returns-in-Answers-CacheStats-clause-stats : goal.returns-in-Answers-CacheStats-clause-stats
returns-in-Answers-CacheStats-clause-stats g c = stats-told c.args.self.now _ c.say_stats.ensures.numbers

pub returns-in_default-does-clause-stats : goal.returns-in_default-does-clause-stats
returns-in_default-does-clause-stats g c = c.end_at_once.ensures.stats
