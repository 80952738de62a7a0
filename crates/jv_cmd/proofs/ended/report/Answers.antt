use Rattle.jv_cmd.proofs.streams.SayingLaws.{Says-ended}
use Rattle.jv_cmd.proofs.ended.report.Goals as goal

pub returns-in-LineNotRun : goal.returns-in-LineNotRun
returns-in-LineNotRun g c = Says-ended c.in-LineNotRun.is c.say_number.ensures

pub returns-in-NoVolume : goal.returns-in-NoVolume
returns-in-NoVolume g c = Says-ended c.in-NoVolume.is c.say.ensures

pub returns-in-VolumeExists : goal.returns-in-VolumeExists
returns-in-VolumeExists g c = Says-ended c.in-VolumeExists.is c.say-in-VolumeExists.ensures

pub returns-in-NewerVersion : goal.returns-in-NewerVersion
returns-in-NewerVersion g c = Says-ended c.in-NewerVersion.is c.say_number-in-NewerVersion.ensures

pub returns-in-MalformedSetting : goal.returns-in-MalformedSetting
returns-in-MalformedSetting g c = Says-ended c.in-MalformedSetting.is c.say-in-MalformedSetting.ensures

pub returns-in-BadRow : goal.returns-in-BadRow
returns-in-BadRow g c = Says-ended c.in-BadRow.is c.say_key.ensures

pub returns-in-SourceFailed : goal.returns-in-SourceFailed
returns-in-SourceFailed g c = Says-ended c.in-SourceFailed.is c.say-in-SourceFailed.ensures

pub returns-in-OutFailed : goal.returns-in-OutFailed
returns-in-OutFailed g c = Says-ended c.in-OutFailed.is c.say-in-OutFailed.ensures

pub returns-in-ClockFailed : goal.returns-in-ClockFailed
returns-in-ClockFailed g c = Says-ended c.in-ClockFailed.is c.say-in-ClockFailed.ensures

pub returns-in-KeeperFailed : goal.returns-in-KeeperFailed
returns-in-KeeperFailed g c = Says-ended c.in-KeeperFailed.is c.say-in-KeeperFailed.ensures

pub returns-in-DepotFailed : goal.returns-in-DepotFailed
returns-in-DepotFailed g c = Says-ended c.in-DepotFailed.is c.say-in-DepotFailed.ensures

pub returns-in-CarrierFailed : goal.returns-in-CarrierFailed
returns-in-CarrierFailed g c = Says-ended c.in-CarrierFailed.is c.say-in-CarrierFailed.ensures

pub returns-in-ShelfFailed : goal.returns-in-ShelfFailed
returns-in-ShelfFailed g c = Says-ended c.in-ShelfFailed.is c.say-in-ShelfFailed.ensures

pub returns-in-OutOfMemory : goal.returns-in-OutOfMemory
returns-in-OutOfMemory g c = Says-ended c.in-OutOfMemory.is c.say-in-OutOfMemory.ensures
