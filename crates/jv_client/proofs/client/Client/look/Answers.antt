-- The look wasn't made, or memory ran out after it, or the reading goes on with its view or is answered.
use Rattle.std.proofs.Common.{Ok, Err, sym, ap, subst, ◌∙◌, ◌≡◌, length}
use Rattle.std.proofs.lemmas.List.{with_items_is}
use Rattle.jv_data.specs.declared.looking.View.{View as Looked}
use Rattle.jv_data.specs.Records.{LooksAt}
use Rattle.jv_client_handles.specs.Handles.{inode_here}
use Rattle.jv_client.specs.ClientValue.{ClientValue}
use Rattle.jv_client.specs.promise.Shared.{shared}
use Rattle.jv_client.specs.Reading.{came, fetch_in}
use Rattle.jv_client.specs.contracts.client.Client.{the_view}
use Rattle.jv_client.proofs.reads.AskCallLaws.{back_as, if_err, if_ok, looks-came, looks-full, looks-lost, looks-unmade}
use Rattle.jv_client.proofs.reads.AskCallLaws.{mid_looked, open_after, open_looked}
use Rattle.jv_client.proofs.reads.LookLaws.{view_of}
use Rattle.jv_client.proofs.client.Client.look.Goals as goal

pub returns-in-Err : goal.returns-in-Err
returns-in-Err g c now yard carrier h ahead ready =
    let a = c.args in
    let r = c.requires in
    let before = g.K.Keeper.seen a.k.now in
    let after = g.K.Keeper.seen c.look.new.k in
    let sid = ap (λ who. who.sid) c.who-who.ensures in
    let handles = c.deref.ensures.value ∙ ap (λ (v : ClientValue). v.handles) c.self.view_is in
    looks-unmade now a.entry h a.self.now a.window (shared before yard carrier) ahead ready r.ready r.flushed r.needs after
    c.handle_in_use-handle.result c.inode_at-inode.result c.handle_in_use-handle.ensures
    (c.inode_at-inode.ensures ∙ ap (λ hs. inode_here hs c.handle_in_use-handle.result) handles) c.in-Err.fault
    c.unmade.new.self c.unmade.result
    (subst (λ sid. LooksAt sid c.inode_at-inode.result a.window before after (Err c.in-Err.fault)) sid c.in-Err.ensures)
    c.unmade.ensures

pub returns-then-is_err : goal.returns-then-is_err
returns-then-is_err g c now yard carrier h ahead ready =
    let a = c.args in
    let r = c.requires in
    let i = c.self.inside in
    let before = g.K.Keeper.seen a.k.now in
    let after = g.K.Keeper.seen c.look.new.k in
    let looked : Looked = record { length = c.in-Ok.seen.length; list = c.in-Ok.seen.list } in
    let sid = ap (λ who. who.sid) c.who-who.ensures in
    let handles = c.deref.ensures.value ∙ ap (λ (v : ClientValue). v.handles) c.self.view_is in
    let long : length c.set_view.new.handles ≡ i.handles.len = c.set_view.auto.handles ∙ c.deref_mut.ensures.len in
    let stored = with_items_is i.handles c.set_view.new.handles long in
    let same = stored ∙ if_err _ c.set_view.result (sym c.is_err.ensures.value ∙ c.if-is_err.true) c.set_view.ensures.err
    ∙ c.deref_mut.ensures.value in
    looks-full now a.entry h a.self.now a.window (shared before yard carrier) ahead ready r.ready r.flushed r.needs after
    c.handle_in_use-handle.result c.inode_at-inode.result c.handle_in_use-handle.ensures
    (c.inode_at-inode.ensures ∙ ap (λ hs. inode_here hs c.handle_in_use-handle.result) handles) looked
    (subst (λ sid. LooksAt sid c.inode_at-inode.result a.window before after (Ok looked)) sid c.in-Ok.ensures)
    _ c.fail.new.self c.fail.result
    (ap (λ hs. record (the_view i) { handles = hs }) same ∙ c.self.view_is) c.fail.ensures

pub ahead-requires-clause-opened : goal.ahead-requires-clause-opened
ahead-requires-clause-opened g c =
    let a = c.args in
    let r = c.requires in
    let i = c.self.inside in
    let looked : Looked = record { length = c.in-Ok.seen.length; list = c.in-Ok.seen.list } in
    let long : length c.set_view.new.handles ≡ i.handles.len = c.set_view.auto.handles ∙ c.deref_mut.ensures.len in
    let set = if_ok _ c.set_view.result (sym c.is_err.ensures.value ∙ c.if-is_err.false) c.set_view.ensures.set in
    open_looked a.self.now (the_view i) _ r.ready r.needs c.self.view_is c.take_fetch-fetch.new.doing
    c.take_fetch-fetch.ensures.left c.handle_in_use-handle.result a.window (view_of a.entry looked)
    c.handle_in_use-handle.ensures c.deref_mut.result.now c.set_view.new.handles _ c.deref_mut.ensures.value
    (with_items_is i.handles c.set_view.new.handles long) set

pub returns-in-Ok-ahead : goal.returns-in-Ok-ahead
returns-in-Ok-ahead g c now yard carrier h ahead ready =
    let a = c.args in
    let r = c.requires in
    let i = c.self.inside in
    let before = g.K.Keeper.seen a.k.now in
    let after = g.K.Keeper.seen c.look.new.k in
    let handle = c.handle_in_use-handle.result in
    let looked : Looked = record { length = c.in-Ok.seen.length; list = c.in-Ok.seen.list } in
    let sid = ap (λ who. who.sid) c.who-who.ensures in
    let handles = c.deref.ensures.value ∙ ap (λ (v : ClientValue). v.handles) c.self.view_is in
    let long : length c.set_view.new.handles ≡ i.handles.len = c.set_view.auto.handles ∙ c.deref_mut.ensures.len in
    let set = if_ok _ c.set_view.result (sym c.is_err.ensures.value ∙ c.if-is_err.false) c.set_view.ensures.set in
    let mid = mid_looked a.self.now (the_view i) handle a.window (view_of a.entry looked) c.deref_mut.result.now
    c.set_view.new.handles _ c.take_fetch-fetch.new.doing c.self.view_is c.deref_mut.ensures.value
    (with_items_is i.handles c.set_view.new.handles long) set c.take_fetch-fetch.ensures.left in
    looks-came now a.entry h a.self.now a.window (shared before yard carrier) ahead ready r.ready r.flushed r.needs after
    handle c.inode_at-inode.result c.handle_in_use-handle.ensures
    (c.inode_at-inode.ensures ∙ ap (λ hs. inode_here hs handle) handles) looked
    (subst (λ sid. LooksAt sid c.inode_at-inode.result a.window before after (Ok looked)) sid c.in-Ok.ensures)
    _ c.ahead.new.self mid c.take_fetch-fetch.result c.in-Ok-ahead.ahead c.go_on_reading.new.self
    c.go_on_reading.result
    (ap (λ (v : ClientValue). fetch_in v.doing) (sym c.self.view_is) ∙ c.take_fetch-fetch.ensures.taken)
    c.in-Ok-ahead.ensures.looks c.in-Ok-ahead.ensures.comes c.go_on_reading.ensures

pub drop_view-requires : goal.drop_view-requires
drop_view-requires g c =
    let a = c.args in
    let r = c.requires in
    let i = c.self.inside in
    let looked : Looked = record { length = c.in-Ok.seen.length; list = c.in-Ok.seen.list } in
    let long : length c.set_view.new.handles ≡ i.handles.len = c.set_view.auto.handles ∙ c.deref_mut.ensures.len in
    let set = if_ok _ c.set_view.result (sym c.is_err.ensures.value ∙ c.if-is_err.false) c.set_view.ensures.set in
    open_after a.self.now (the_view i) _ r.ready r.needs c.self.view_is c.take_fetch-fetch.new.doing
    c.take_fetch-fetch.ensures.left c.handle_in_use-handle.result a.window (view_of a.entry looked)
    c.handle_in_use-handle.ensures c.deref_mut.result.now c.set_view.new.handles _ c.deref_mut.ensures.value
    (with_items_is i.handles c.set_view.new.handles long) set c.take_fetch-fetch.result (came c.ahead.result) c.ahead.new.self
    c.ahead.ensures.looks
    c.deref_mut-in-Err-ahead.result.now
    (c.deref_mut-in-Err-ahead.ensures.value ∙ ap (λ (v : ClientValue). v.handles) c.self-in-Err-ahead.view_is)

pub returns : goal.returns
returns g c now yard carrier h ahead ready =
    let a = c.args in
    let r = c.requires in
    let i = c.self.inside in
    let then = c.self-in-Err-ahead.inside in
    let before = g.K.Keeper.seen a.k.now in
    let after = g.K.Keeper.seen c.look.new.k in
    let handle = c.handle_in_use-handle.result in
    let looked : Looked = record { length = c.in-Ok.seen.length; list = c.in-Ok.seen.list } in
    let sid = ap (λ who. who.sid) c.who-who.ensures in
    let handles = c.deref.ensures.value ∙ ap (λ (v : ClientValue). v.handles) c.self.view_is in
    let long : length c.set_view.new.handles ≡ i.handles.len = c.set_view.auto.handles ∙ c.deref_mut.ensures.len in
    let set = if_ok _ c.set_view.result (sym c.is_err.ensures.value ∙ c.if-is_err.false) c.set_view.ensures.set in
    let mid = mid_looked a.self.now (the_view i) handle a.window (view_of a.entry looked) c.deref_mut.result.now
    c.set_view.new.handles _ c.take_fetch-fetch.new.doing c.self.view_is c.deref_mut.ensures.value
    (with_items_is i.handles c.set_view.new.handles long) set c.take_fetch-fetch.ensures.left in
    let dropped : length c.drop_view.new.handles ≡ then.handles.len =
    c.drop_view.auto.handles ∙ c.deref_mut-in-Err-ahead.ensures.len in
    looks-lost now a.entry h a.self.now a.window (shared before yard carrier) ahead ready r.ready r.flushed r.needs after
    handle c.inode_at-inode.result c.handle_in_use-handle.ensures
    (c.inode_at-inode.ensures ∙ ap (λ hs. inode_here hs handle) handles) looked
    (subst (λ sid. LooksAt sid c.inode_at-inode.result a.window before after (Ok looked)) sid c.in-Ok.ensures)
    _ c.ahead.new.self mid c.take_fetch-fetch.result _ c.fail-in-Err-ahead.new.self c.fail-in-Err-ahead.result
    (ap (λ (v : ClientValue). fetch_in v.doing) (sym c.self.view_is) ∙ c.take_fetch-fetch.ensures.taken)
    c.in-Err-ahead.ensures.looks
    (back_as (the_view then) c.ahead.new.self handle a.window c.deref_mut-in-Err-ahead.result.now c.drop_view.new.handles
    _ c.self-in-Err-ahead.view_is c.deref_mut-in-Err-ahead.ensures.value
    (with_items_is then.handles c.drop_view.new.handles dropped) c.drop_view.ensures)
    c.fail-in-Err-ahead.ensures
