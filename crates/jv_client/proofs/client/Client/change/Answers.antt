-- A truncate or a copy is made in one step.
use Rattle.std.proofs.Common.{◌≡◌, IsTrue, Some, Ok, Err, sym, ap, subst, ◌∙◌}
use Rattle.std.specs.Prelude.{IfSome}
use Rattle.jv_client.specs.declared.doing.Doing.{Doing}
use Rattle.jv_client.specs.ClientValue.{ClientValue}
use Rattle.jv_client.specs.Changing.{TriesChange}
use Rattle.jv_client.specs.promise.Shared.{shared}
use Rattle.jv_client.specs.Ending.{told_here}
use Rattle.jv_model_steps.specs.Stages.{changes_files}
use Rattle.jv_client.specs.UnderWay.{ClosesOpen}
use Rattle.jv_client.proofs.steps.FileChangeLaws.{blind}
use Rattle.jv_client.proofs.steps.ChangeCallLaws.{change-made, change-unmade, closes-blind, may-try}
use Rattle.jv_client.proofs.client.Client.change.Goals as goal

pub try_change-tried-requires : goal.try_change-tried-requires
try_change-tried-requires g c =
    let h = c.args.self.now in
    let d = c.in-Some.doing in
    let busy : h.doing ≡ Some d = ap (λ (v : ClientValue). v.doing) (sym c.self.view_is) ∙ c.in-Some.is in
    let changes : IsTrue (changes_files d.does) =
    subst (λ o. IfSome o (λ (d : Doing). IsTrue (changes_files d.does))) busy c.requires.changes in
    may-try h d busy c.requires.ready changes

pub end_as-requires-clause-closes : goal.end_as-requires-clause-closes
end_as-requires-clause-closes g c =
    let h = c.args.self.now in
    let inode = c.in-Ok.field-0.inode in
    let same : c.drop_views.new.self ≡ blind inode h = c.drop_views.ensures in
    subst (λ (w : ClientValue). IfSome w.doing (λ (d : Doing). ClosesOpen d.op w.handles)) (sym same)
    (closes-blind h inode c.requires.busy c.requires.ready)

pub returns-in-Ok : goal.returns-in-Ok
returns-in-Ok g c entry yard carrier =
    let h = c.args.self.now in
    let d = c.in-Some.doing in
    let now = c.args.now in
    let changed = c.in-Ok.field-0 in
    let told = c.told_of-told.result in
    let before = g.K.Keeper.seen c.args.k.now in
    let keeper = g.K.Keeper.seen c.try_change-tried.new.k in
    let busy : h.doing ≡ Some d = ap (λ (v : ClientValue). v.doing) (sym c.self.view_is) ∙ c.in-Some.is in
    let changes : IsTrue (changes_files d.does) =
    subst (λ o. IfSome o (λ (d : Doing). IsTrue (changes_files d.does))) busy c.requires.changes in
    let same : c.drop_views.new.self ≡ blind changed.inode h = c.drop_views.ensures in
    let handles = c.deref.ensures.value ∙ ap (λ (v : ClientValue). v.handles) c.self.view_is in
    let tried = subst (λ who. TriesChange h.handles d.op who before keeper (Ok changed)) c.who-who.ensures
    (subst (λ hs. TriesChange hs d.op c.who-who.result before keeper (Ok changed)) handles c.in-Ok.ensures) in
    let after_is : c.end_as.new.self ≡ told_here d.op told c.drop_views.new.self =
    subst (λ o. IfSome o (λ (d : Doing). c.end_as.new.self ≡ told_here d.op told c.drop_views.new.self))
    (ap (λ (v : ClientValue). v.doing) same ∙ busy) c.end_as.ensures in
    change-made now entry h d busy c.requires.ready c.requires.flushed changes (shared before yard carrier) keeper changed
    c.end_as.new.self told (after_is ∙ ap (told_here d.op told) same) c.told_of-told.ensures tried

pub returns : goal.returns
returns g c entry yard carrier =
    let h = c.args.self.now in
    let d = c.in-Some.doing in
    let now = c.args.now in
    let fault = c.in-Err.fault in
    let before = g.K.Keeper.seen c.args.k.now in
    let keeper = g.K.Keeper.seen c.try_change-tried.new.k in
    let busy : h.doing ≡ Some d = ap (λ (v : ClientValue). v.doing) (sym c.self.view_is) ∙ c.in-Some.is in
    let changes : IsTrue (changes_files d.does) =
    subst (λ o. IfSome o (λ (d : Doing). IsTrue (changes_files d.does))) busy c.requires.changes in
    let handles = c.deref.ensures.value ∙ ap (λ (v : ClientValue). v.handles) c.self.view_is in
    let tried = subst (λ who. TriesChange h.handles d.op who before keeper (Err fault)) c.who-who.ensures
    (subst (λ hs. TriesChange hs d.op c.who-who.result before keeper (Err fault)) handles c.in-Err.ensures) in
    change-unmade now entry h d busy c.requires.ready c.requires.flushed changes (shared before yard carrier) keeper fault
    c.unmade.new.self c.unmade.result tried
    c.unmade.ensures
