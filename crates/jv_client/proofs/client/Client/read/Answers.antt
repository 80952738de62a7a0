-- The next request of a reading, or its answer where it needs none.
use Rattle.std.proofs.Common.{ap}
use Rattle.jv_model.specs.declared.setting.Setting.{Setting}
use Rattle.jv_client.proofs.reads.ShowLaws.{begun-ahead, begun-fails, begun-shows}
use Rattle.jv_client.proofs.client.Client.read.Goals as goal

pub returns-in-Ok-Some : goal.returns-in-Ok-Some
returns-in-Ok-Some g c = λ now carrier.
    begun-shows c.args.offset c.args.len c.setting.result.now.block c.args.self.now c.begin_reading.new.self
    c.in-Ok-Some.field-0 c.in-Ok-Some.ensures.ok now c.args.entry c.show.new.self _ c.show.result c.in-Ok-Some.found
    c.requires.reads c.requires.ready c.requires.flushed c.requires.first
    (ap (λ (setting : Setting). setting.block) c.setting.ensures) c.in-Ok-Some.field-0-is c.show.ensures

pub returns-in-Some : goal.returns-in-Some
returns-in-Some g c = λ now carrier.
    c.ask.ensures now carrier c.args.self.now
    (begun-ahead c.args.offset c.args.len c.setting.result.now.block c.args.self.now c.begin_reading.new.self
    c.in-Ok-None.field-0 c.in-Ok-None.ensures.ok c.args.yard.now.setting.block
    (ap (λ (setting : Setting). setting.block) c.setting.ensures) c.in-Ok-None.field-0-is) c.requires.ready

pub returns-in-Err : goal.returns-in-Err
returns-in-Err g c = λ now carrier.
    begun-fails now c.args.entry c.args.offset c.args.len c.setting.result.now.block c.args.self.now
    c.begin_reading.new.self c.fail.new.self _ c.fail.result c.requires.reads c.requires.ready c.requires.flushed
    c.requires.first (ap (λ (setting : Setting). setting.block) c.setting.ensures) c.in-Err.ensures.err c.fail.ensures
