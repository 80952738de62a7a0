-- A transaction is made in one step, and where memory runs out before it nothing but the operation's end has changed.
use Rattle.std.proofs.Common.{◌≡◌, IsTrue, Some, refl, sym, ap, subst, ◌∙◌}
use Rattle.std.specs.Prelude.{IfSome}
use Rattle.jv_model.specs.declared.act.ActKind.{ActKind}
use Rattle.jv_model.specs.declared.act.ActKind.TheVariants.{Meta}
use Rattle.jv_model.specs.declared.act.Told.{Told}
use Rattle.jv_model.specs.promise.journal.State.{gift_of}
use Rattle.jv_model.specs.promise.journal.Steps.{entry_of_gift, told_of}
use Rattle.jv_client_shared.specs.promise.Shared.{Shared}
use Rattle.jv_client_handles.proofs.TableLaws.{the_some}
use Rattle.jv_client.specs.declared.doing.Doing.{Doing}
use Rattle.jv_client.specs.declared.made.Made.TheVariants.{Both}
use Rattle.jv_client.specs.ClientValue.{ClientValue}
use Rattle.jv_client.specs.promise.Shared.{shared}
use Rattle.jv_client.specs.Ending.{ended, told_here}
use Rattle.jv_client.specs.UnderWay.{ClosesOpen, asks_more, makes_transaction}
use Rattle.jv_client.specs.Transacting.{EndsUnmade, answered_here, given_here, handles_given, session_given}
use Rattle.jv_client.specs.Transacting.{sustained_with}
use Rattle.jv_client.specs.contracts.client.Client.{the_view}
use Rattle.jv_client.proofs.steps.AnswerLaws.{makes-as, no_memory-makes}
use Rattle.jv_client.proofs.begun.FirstRequestLaws.{makes-one, one-tried}
use Rattle.jv_client.proofs.steps.TransactionLaws.{given-open, transaction-made, transaction-unmade}
use Rattle.jv_client.proofs.client.Client.transact.Goals as goal

-- a client whose tables are those of another
with_tables : (v h : ClientValue) → v ≡ h → (handles : _) → handles ≡ v.handles → (sustained : _) → sustained ≡ v.sustained
    → (let w : ClientValue = record v { handles = handles; sustained = sustained } in w) ≡ h
with_tables v h is handles same_handles sustained same_sustained =
    ap (λ hs. let w : ClientValue = record v { handles = hs; sustained = sustained } in w) same_handles
    ∙ ap (λ ss. let w : ClientValue = record v { sustained = ss } in w) same_sustained ∙ is

pub returns-then-is_err : goal.returns-then-is_err
returns-then-is_err g c yard carrier =
    let h = c.args.self.now in
    let both : Shared = shared (g.K.Keeper.seen c.args.k.now) yard carrier in
    let doing = the_some h.doing c.requires.busy in
    let same = with_tables (the_view c.self.inside) h c.self.view_is c.make_room.new.handles.items c.make_room.ensures.handles
    c.make_room.new.sustained.items c.make_room.ensures.sustained in
    no_memory-makes c.args.now c.args.entry h c.fail.new.self doing.0 both c.fail.result doing.1 c.requires.ready
    (record { after_is = c.fail.ensures.after_is ∙ ap ended same; made_is = c.fail.ensures.made_is })

pub attempt-tried-requires : goal.attempt-tried-requires
attempt-tried-requires g c =
    let h = c.args.self.now in
    let d = c.in-Some.doing in
    let busy : h.doing ≡ Some d = ap (λ (v : ClientValue). v.doing) (sym c.self.view_is) ∙ c.in-Some.is in
    let makes : IsTrue (makes_transaction d.does) =
    subst (λ o. IfSome o (λ (d : Doing). IsTrue (makes_transaction d.does))) busy c.requires.transacts in
    one-tried d (makes-one d makes h busy c.requires.ready).0

pub end_as-requires-clause-closes : goal.end_as-requires-clause-closes
end_as-requires-clause-closes g c =
    let v = the_view c.self.inside in
    let h = c.args.self.now in
    let d = c.in-Some.doing in
    let busy : h.doing ≡ Some d = ap (λ (v : ClientValue). v.doing) (sym c.self.view_is) ∙ c.in-Some.is in
    let gift = gift_of c.in-Ok.answer.reply in
    let handles : c.give-kind.new.handles.items ≡ handles_given c.args.entry gift h.handles =
    c.give-kind.ensures.handles ∙ ap (handles_given c.args.entry gift) (c.make_room.ensures.handles ∙ ap (λ (v : ClientValue). v.handles) c.self.view_is) in
    subst (λ o. IfSome o (λ (d : Doing). ClosesOpen d.op c.give-kind.new.handles.items)) (sym c.in-Some.is)
    (subst (ClosesOpen d.op) (sym handles) (given-open h d c.args.entry gift busy c.requires.ready))

pub returns-in-Err : goal.returns-in-Err
returns-in-Err g c yard carrier =
    let v = the_view c.self.inside in
    let h = c.args.self.now in
    let d = c.in-Some.doing in
    let busy : h.doing ≡ Some d = ap (λ (v : ClientValue). v.doing) (sym c.self.view_is) ∙ c.in-Some.is in
    let makes : IsTrue (makes_transaction d.does) =
    subst (λ o. IfSome o (λ (d : Doing). IsTrue (makes_transaction d.does))) busy c.requires.transacts in
    let asks : IsTrue (asks_more h d) = subst (λ o. IfSome o (λ (d : Doing). IsTrue (asks_more h d))) busy c.requires.asks in
    let handles = sym (ap (λ (v : ClientValue). v.handles) c.self.view_is) ∙ sym (c.deref.ensures.value ∙ c.make_room.ensures.handles) in
    let tried = c.in-Err.ensures h (sym (ap (λ (v : ClientValue). v.id) c.self.view_is))
    (sym (ap (λ (v : ClientValue). v.session) c.self.view_is)) handles in
    let same = with_tables v h c.self.view_is c.make_room.new.handles.items c.make_room.ensures.handles
    c.make_room.new.sustained.items c.make_room.ensures.sustained in
    transaction-unmade c.args.now h d busy c.requires.ready c.requires.flushed makes asks
    (shared (g.K.Keeper.seen c.args.k.now) yard carrier) (g.K.Keeper.seen c.attempt-tried.new.k) c.args.entry
    c.in-Err.fault c.unmade.new.self c.unmade.result tried
    (subst (λ w. EndsUnmade Meta c.in-Err.fault w c.unmade.new.self c.unmade.result) same c.unmade.ensures)

pub returns-in-Ok : goal.returns-in-Ok
returns-in-Ok g c yard carrier =
    let v = the_view c.self.inside in
    let h = c.args.self.now in
    let d = c.in-Some.doing in
    let entry = c.args.entry in
    let answer = c.in-Ok.answer in
    let gift = gift_of answer.reply in
    let before : Shared = shared (g.K.Keeper.seen c.args.k.now) yard carrier in
    let keeper = g.K.Keeper.seen c.attempt-tried.new.k in
    let after_step : Shared = record before { keeper = keeper } in
    let busy : h.doing ≡ Some d = ap (λ (v : ClientValue). v.doing) (sym c.self.view_is) ∙ c.in-Some.is in
    let makes : IsTrue (makes_transaction d.does) =
    subst (λ o. IfSome o (λ (d : Doing). IsTrue (makes_transaction d.does))) busy c.requires.transacts in
    let asks : IsTrue (asks_more h d) = subst (λ o. IfSome o (λ (d : Doing). IsTrue (asks_more h d))) busy c.requires.asks in
    let handles = sym (ap (λ (v : ClientValue). v.handles) c.self.view_is) ∙ sym (c.deref.ensures.value ∙ c.make_room.ensures.handles) in
    let tried = c.in-Ok.ensures h (sym (ap (λ (v : ClientValue). v.id) c.self.view_is))
    (sym (ap (λ (v : ClientValue). v.session) c.self.view_is)) handles in
    let given : ClientValue = record v {
      session = c.give-kind.new.session;
      handles = c.give-kind.new.handles.items;
      sustained = c.keep.new.sustained.items;
    } in
    let given_is : given ≡ given_here entry answer h =
    ap (λ s. let w : ClientValue = record v { session = s; handles = c.give-kind.new.handles.items; sustained = c.keep.new.sustained.items } in w)
    c.give-kind.ensures.session
    ∙ ap (λ hs. let w : ClientValue = record v { session = session_given gift v.session; handles = hs; sustained = c.keep.new.sustained.items } in w)
    (c.give-kind.ensures.handles ∙ ap (handles_given entry gift) c.make_room.ensures.handles)
    ∙ ap (λ ss. let w : ClientValue = record v { session = session_given gift v.session; handles = handles_given entry gift v.handles; sustained = ss } in w)
    (c.keep.ensures ∙ ap (sustained_with answer.kept) c.make_room.ensures.sustained)
    ∙ ap (given_here entry answer) c.self.view_is in
    let told : Told = c.told_of-told.result in
    let after_is : c.end_as.new.self ≡ told_here d.op told given =
    subst (λ o. IfSome o (λ (d : Doing). c.end_as.new.self ≡ told_here d.op told given)) c.in-Some.is c.end_as.ensures in
    makes-as c.args.now entry h c.end_as.new.self (answered_here entry d.op answer h) before after_step after_step
    (Both c.give-kind.result told answer.reply)
    (Both (entry_of_gift (gift_of answer.reply)) (told_of answer.reply) answer.reply)
    (after_is ∙ ap (told_here d.op told) given_is
    ∙ ap (λ t. told_here d.op t (given_here entry answer h)) c.told_of-told.ensures)
    refl
    (ap (λ (k : ActKind). Both k told answer.reply) c.give-kind.ensures.kind
    ∙ ap (λ (t : Told). Both (entry_of_gift (gift_of answer.reply)) t answer.reply) c.told_of-told.ensures)
    (transaction-made c.args.now h d busy c.requires.ready c.requires.flushed makes asks before keeper answer tried entry)
