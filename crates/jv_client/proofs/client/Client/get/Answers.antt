-- The block didn't come, or memory ran out after it, or the reading goes on with its bytes or is answered.
use Rattle.jv_client.specs.promise.Shared.{shared}
use Rattle.jv_client.specs.contracts.client.Client.{the_view}
use Rattle.jv_client.proofs.reads.AskCallLaws.{gets-came, gets-lost, gets-missed, gets-none, open_then}
use Rattle.jv_client.proofs.client.Client.get.Goals as goal

pub returns-in-Err : goal.returns-in-Err
returns-in-Err g c now entry keeper carrier h ahead ready =
    let a = c.args in
    let r = c.requires in
    gets-none now entry h a.self.now a.block (shared keeper _ carrier) ahead ready r.ready r.flushed r.needs
    (the_view c.self.inside) c.self.view_is c.read_block.ensures.low _ c.in-Err.fault c.fail.new.self c.fail.result
    c.in-Err.ensures.read c.fail.ensures

pub returns-in-Ok-None : goal.returns-in-Ok-None
returns-in-Ok-None g c now entry keeper carrier h ahead ready =
    let a = c.args in
    let r = c.requires in
    gets-missed now entry h a.self.now a.block (shared keeper _ carrier) ahead ready r.ready r.flushed r.needs
    (the_view c.self.inside) c.self.view_is c.read_block.ensures.low _ c.in-Ok-None.field-0 c.miss.new.self
    c.miss.result c.in-Ok-None.field-0-is c.in-Ok-None.ensures.read c.miss.ensures

pub ahead-requires-clause-opened : goal.ahead-requires-clause-opened
ahead-requires-clause-opened g c =
    open_then c.args.self.now (the_view c.self.inside) _ c.requires.ready c.requires.needs c.self.view_is
    c.take_fetch-fetch.new.doing c.take_fetch-fetch.ensures.left c.fill.new.cache

pub returns-in-Ok : goal.returns-in-Ok
returns-in-Ok g c now entry keeper carrier h ahead ready =
    let a = c.args in
    let r = c.requires in
    gets-came now entry h a.self.now a.block (shared keeper _ carrier) ahead ready r.ready r.flushed r.needs
    (the_view c.self.inside) c.self.view_is c.read_block.ensures.low _ c.in-Ok-Some.bytes c.in-Ok-Some.field-0
    c.in-Ok-Some.field-0-is c.in-Ok-Some.ensures.read
    c.take_fetch-fetch.result c.fill.new.fetch c.take_fetch-fetch.ensures.taken c.fill.new.cache c.fill.ensures
    c.take_fetch-fetch.new.doing c.take_fetch-fetch.ensures.left c.ahead.new.self
    c.in-Ok.ahead c.go_on_reading.new.self c.go_on_reading.result c.in-Ok.ensures.looks c.in-Ok.ensures.comes
    c.go_on_reading.ensures

pub returns-in-Err-ahead : goal.returns-in-Err-ahead
returns-in-Err-ahead g c now entry keeper carrier h ahead ready =
    let a = c.args in
    let r = c.requires in
    gets-lost now entry h a.self.now a.block (shared keeper _ carrier) ahead ready r.ready r.flushed r.needs
    (the_view c.self.inside) c.self.view_is c.read_block.ensures.low _ c.in-Ok-Some.bytes c.in-Ok-Some.field-0
    c.in-Ok-Some.field-0-is c.in-Ok-Some.ensures.read
    c.take_fetch-fetch.result c.fill.new.fetch c.take_fetch-fetch.ensures.taken c.fill.new.cache c.fill.ensures
    c.take_fetch-fetch.new.doing c.take_fetch-fetch.ensures.left c.ahead.new.self
    c.fail-in-Err-ahead.new.self c.fail-in-Err-ahead.result c.in-Err-ahead.ensures.looks c.fail-in-Err-ahead.ensures
