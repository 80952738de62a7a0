use Rattle.std.proofs.Common.{ℕ, ap, sym, subst, ◌∙◌}
use Rattle.jv_model.specs.declared.row.Node.{Node as NodeRow}
use Rattle.jv_model.specs.promise.tree.Reading.{chown}
use Rattle.jv_model.specs.promise.tree.Tree.{Node}
use Rattle.jv_tree.proofs.AttributeLaws.{IsChanged, changed-owner, chown-is, attributes-exit, attributes-done}
use Rattle.jv_tree.proofs.attributes.chown.Goals as goal

pub returns-in_err-place : goal.returns-in_err-place
returns-in_err-place g c caller is_for =
    attributes-exit (g.K.Keeper.seen c.args.k.now) (g.K.Keeper.seen c.changeable.new.k)
    (g.K.Keeper.seen c.changeable.new.k) c.args.who.now caller is_for c.args.path.now (λ (node : Node). record node { uid = c.args.uid; gid = c.args.gid })
    (λ t. chown t caller c.args.path.now c.args.uid c.args.gid) (chown-is caller c.args.path.now c.args.uid c.args.gid)
    c.from_residual.result c.in_err-place.field-0.0 c.from_residual.ensures.1 c.in_err-place.ensures

pub returns : goal.returns
returns g c caller is_for =
    let row = c.in_ok-place.place.node in
    let now_is = is_for.now ∙ sym c.seconds-ctime.ensures.seconds in
    attributes-done (g.K.Keeper.seen c.args.k.now) (g.K.Keeper.seen c.changeable.new.k)
    (g.K.Keeper.seen c.store.new.k) c.args.who.now caller is_for c.args.path.now (λ (node : Node). record node { uid = c.args.uid; gid = c.args.gid })
    (λ t. chown t caller c.args.path.now c.args.uid c.args.gid) (chown-is caller c.args.path.now c.args.uid c.args.gid)
    c.in_ok-place.place (record row { uid = c.args.uid; gid = c.args.gid; ctime = c.seconds-ctime.result }) c.in_ok-place.ensures
    (subst (λ (now : ℕ). IsChanged caller.now (λ (node : Node). record node { uid = c.args.uid; gid = c.args.gid }) row
    (record row { uid = c.args.uid; gid = c.args.gid; ctime = now })) now_is (changed-owner caller.now c.args.uid c.args.gid row))
    c.store.result c.store.ensures
