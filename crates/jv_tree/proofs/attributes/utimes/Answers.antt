use Rattle.std.proofs.Common.{ℕ, ap, sym, subst, ◌∙◌}
use Rattle.jv_model.specs.declared.row.Node.{Node as NodeRow}
use Rattle.jv_model.specs.promise.tree.Reading.{utimes}
use Rattle.jv_model.specs.promise.tree.Tree.{Node}
use Rattle.jv_tree.proofs.AttributeLaws.{IsChanged, changed-mtime, utimes-is, attributes-exit, attributes-done}
use Rattle.jv_tree.proofs.attributes.utimes.Goals as goal

pub returns-in_err-place : goal.returns-in_err-place
returns-in_err-place g c caller is_for =
    attributes-exit (g.K.Keeper.seen c.args.k.now) (g.K.Keeper.seen c.changeable.new.k)
    (g.K.Keeper.seen c.changeable.new.k) c.args.who.now caller is_for c.args.path.now (λ (node : Node). record node { mtime = c.args.mtime })
    (λ t. utimes t caller c.args.path.now c.args.mtime) (utimes-is caller c.args.path.now c.args.mtime)
    c.from_residual.result c.in_err-place.field-0.0 c.from_residual.ensures.1 c.in_err-place.ensures

pub returns : goal.returns
returns g c caller is_for =
    let row = c.in_ok-place.place.node in
    let now_is = is_for.now ∙ sym c.seconds-ctime.ensures.seconds in
    attributes-done (g.K.Keeper.seen c.args.k.now) (g.K.Keeper.seen c.changeable.new.k)
    (g.K.Keeper.seen c.store.new.k) c.args.who.now caller is_for c.args.path.now (λ (node : Node). record node { mtime = c.args.mtime })
    (λ t. utimes t caller c.args.path.now c.args.mtime) (utimes-is caller c.args.path.now c.args.mtime)
    c.in_ok-place.place (record row { mtime = c.args.mtime; ctime = c.seconds-ctime.result }) c.in_ok-place.ensures
    (subst (λ (now : ℕ). IsChanged caller.now (λ (node : Node). record node { mtime = c.args.mtime }) row (record row { mtime = c.args.mtime; ctime = now }))
    now_is (changed-mtime caller.now c.args.mtime row))
    c.store.result c.store.ensures
