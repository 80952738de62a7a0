use Rattle.std.proofs.Common.{Option, Ok, ap, subst, ◌∙◌}
use Rattle.std.specs.Prelude.{not, true}
use Rattle.std.proofs.lemmas.Result.{err_from_is_err_and}
use Rattle.jv_model.specs.declared.row.Row.TheVariants.{OfSustained}
use Rattle.jv_model.specs.promise.rows.RowPlaces.{sustained_key}
use Rattle.jv_model.proofs.TestLaws.{none_if}
use Rattle.jv_rows.specs.Drafts.{Sees}
use Rattle.jv_live.proofs.KeptLaws.{unit-there, release-no_session, release-unread, release-other, has-pair, release-lost, release-fell, release-stays, release-commits}
use Rattle.jv_live.proofs.kept.release.Goals as goal

pub returns-in_err-in_session : goal.returns-in_err-in_session
returns-in_err-in_session g c caller asks inode_is =
    let p = err_from_is_err_and c.from_residual.result c.from_residual.ensures.1 in
    rw (p.1, p.2)
    (release-no_session c.args.who.now caller asks c.args.inode c.ranges.inode.fits inode_is (g.K.Keeper.seen c.args.k.now)
    (g.K.Keeper.seen c.in_session.new.k)
    c.in_err-in_session.field-0.0 c.in_err-in_session.ensures)

pub returns-in_err-sustained : goal.returns-in_err-sustained
returns-in_err-sustained g c caller asks inode_is =
    let p = err_from_is_err_and c.from_residual-in_err-sustained.result c.from_residual-in_err-sustained.ensures.1 in
    rw (p.1, p.2)
    (release-unread c.args.who.now caller asks c.args.inode c.ranges.inode.fits inode_is (g.K.Keeper.seen c.args.k.now) (g.K.Keeper.seen c.in_session.new.k)
    c.in_ok-in_session.ensures c.new-draft.result c.new-draft.ensures (g.K.Keeper.seen c.sustained.new.k) c.in_err-sustained.field-0.0
    c.in_err-sustained.ensures)

pub returns-then-is_none : goal.returns-then-is_none
returns-then-is_none g c caller asks inode_is =
    release-other c.args.who.now caller asks c.args.inode c.ranges.inode.fits inode_is (g.K.Keeper.seen c.args.k.now) (g.K.Keeper.seen c.in_session.new.k)
    c.in_ok-in_session.ensures c.new-draft.result c.new-draft.ensures (g.K.Keeper.seen c.sustained.new.k)
    (subst (λ (found : Option (Unit {0})). Sees (λ unit. OfSustained) (λ unit. true) (sustained_key c.args.who.now.sid c.args.inode) c.new-draft.result
    (g.K.Keeper.seen c.in_session.new.k) (g.K.Keeper.seen c.sustained.new.k) (Ok found))
    (none_if c.in_ok-sustained.field-0 (c.is_none.ensures ∙ ap not c.if-is_none.true))
    c.in_ok-sustained.ensures)

pub kept_node-requires : goal.kept_node-requires
kept_node-requires g c =
    has-pair c.args.who.now.sid c.args.inode c.new-draft.result c.new-draft.ensures (g.K.Keeper.seen c.in_session.new.k) (g.K.Keeper.seen c.sustained.new.k) tt
    (subst (λ (found : Option (Unit {0})). Sees (λ unit. OfSustained) (λ unit. true) (sustained_key c.args.who.now.sid c.args.inode) c.new-draft.result
    (g.K.Keeper.seen c.in_session.new.k) (g.K.Keeper.seen c.sustained.new.k) (Ok found))
    (unit-there c.in_ok-sustained.field-0 (c.is_none.ensures ∙ ap not c.if-is_none.false))
    c.in_ok-sustained.ensures)

pub returns-in_err-kept_node : goal.returns-in_err-kept_node
returns-in_err-kept_node g c caller asks inode_is =
    let p = err_from_is_err_and c.from_residual-in_err-kept_node.result c.from_residual-in_err-kept_node.ensures.1 in
    let pair = subst (λ (found : Option (Unit {0})). Sees (λ unit. OfSustained) (λ unit. true) (sustained_key c.args.who.now.sid c.args.inode)
    c.new-draft.result
    (g.K.Keeper.seen c.in_session.new.k) (g.K.Keeper.seen c.sustained.new.k) (Ok found))
    (unit-there c.in_ok-sustained.field-0 (c.is_none.ensures ∙ ap not c.if-is_none.false))
    c.in_ok-sustained.ensures in
    rw (p.1, p.2)
    (release-lost c.args.who.now caller asks c.args.inode c.ranges.inode.fits inode_is (g.K.Keeper.seen c.args.k.now) (g.K.Keeper.seen c.in_session.new.k)
    c.in_ok-in_session.ensures c.new-draft.result c.new-draft.ensures (g.K.Keeper.seen c.sustained.new.k) tt pair
    (g.K.Keeper.seen c.kept_node.new.k) c.in_err-kept_node.field-0.0 c.in_err-kept_node.ensures)

pub returns-in_err-let_go : goal.returns-in_err-let_go
returns-in_err-let_go g c caller asks inode_is =
    let p = err_from_is_err_and c.from_residual-in_err-let_go.result c.from_residual-in_err-let_go.ensures.1 in
    let pair = subst (λ (found : Option (Unit {0})). Sees (λ unit. OfSustained) (λ unit. true) (sustained_key c.args.who.now.sid c.args.inode)
    c.new-draft.result
    (g.K.Keeper.seen c.in_session.new.k) (g.K.Keeper.seen c.sustained.new.k) (Ok found))
    (unit-there c.in_ok-sustained.field-0 (c.is_none.ensures ∙ ap not c.if-is_none.false))
    c.in_ok-sustained.ensures in
    rw (p.1, p.2)
    (release-fell c.args.who.now caller asks c.args.inode c.ranges.inode.fits inode_is (g.K.Keeper.seen c.args.k.now) (g.K.Keeper.seen c.in_session.new.k)
    c.in_ok-in_session.ensures c.new-draft.result c.new-draft.ensures (g.K.Keeper.seen c.sustained.new.k) tt pair
    (g.K.Keeper.seen c.kept_node.new.k) c.in_ok-kept_node.ensures c.let_go.new.draft
    c.in_err-let_go.field-0.0 (c.in_err-let_go.ensures (g.K.Keeper.seen c.kept_node.new.k)))

pub returns-in_err-drop_node : goal.returns-in_err-drop_node
returns-in_err-drop_node g c caller asks inode_is =
    let p = err_from_is_err_and c.from_residual-in_err-drop_node.result c.from_residual-in_err-drop_node.ensures.1 in
    let pair = subst (λ (found : Option (Unit {0})). Sees (λ unit. OfSustained) (λ unit. true) (sustained_key c.args.who.now.sid c.args.inode)
    c.new-draft.result
    (g.K.Keeper.seen c.in_session.new.k) (g.K.Keeper.seen c.sustained.new.k) (Ok found))
    (unit-there c.in_ok-sustained.field-0 (c.is_none.ensures ∙ ap not c.if-is_none.false))
    c.in_ok-sustained.ensures in
    rw (p.1, p.2)
    (release-stays c.args.who.now caller asks c.args.inode c.ranges.inode.fits inode_is (g.K.Keeper.seen c.args.k.now) (g.K.Keeper.seen c.in_session.new.k)
    c.in_ok-in_session.ensures c.new-draft.result c.new-draft.ensures (g.K.Keeper.seen c.sustained.new.k) tt pair
    (g.K.Keeper.seen c.kept_node.new.k) c.in_ok-kept_node.ensures c.let_go.new.draft (c.in_ok-let_go.ensures (g.K.Keeper.seen c.kept_node.new.k))
    (g.K.Keeper.seen c.drop_node.new.k) c.drop_node.new.draft c.in_err-drop_node.field-0.0 c.in_err-drop_node.ensures)

pub returns-in-Ok : goal.returns-in-Ok
returns-in-Ok g c caller asks inode_is =
    let pair = subst (λ (found : Option (Unit {0})). Sees (λ unit. OfSustained) (λ unit. true) (sustained_key c.args.who.now.sid c.args.inode)
    c.new-draft.result
    (g.K.Keeper.seen c.in_session.new.k) (g.K.Keeper.seen c.sustained.new.k) (Ok found))
    (unit-there c.in_ok-sustained.field-0 (c.is_none.ensures ∙ ap not c.if-is_none.false))
    c.in_ok-sustained.ensures in
    release-commits c.args.who.now caller asks c.args.inode c.ranges.inode.fits inode_is (g.K.Keeper.seen c.args.k.now) (g.K.Keeper.seen c.in_session.new.k)
    c.in_ok-in_session.ensures c.new-draft.result c.new-draft.ensures (g.K.Keeper.seen c.sustained.new.k) tt pair
    (g.K.Keeper.seen c.kept_node.new.k) c.in_ok-kept_node.ensures c.let_go.new.draft (c.in_ok-let_go.ensures (g.K.Keeper.seen c.kept_node.new.k))
    (g.K.Keeper.seen c.drop_node.new.k) c.drop_node.new.draft c.in_ok-drop_node.ensures (g.K.Keeper.seen c.commit.new.k) c.in-Ok.ensures
