use Rattle.jv_tree.proofs.AttributeLaws.{puts-node}
use Rattle.jv_tree.proofs.attributes.store.Goals as goal

pub returns : goal.returns
returns g c =
    puts-node c.args.inode c.args.node.now (g.K.Keeper.seen c.args.k.now)
    (g.K.Keeper.seen c.commit.new.k) c.new-draft.result c.put_node.new.self c.commit.result c.in_ok-put_node.field-0
    c.new-draft.ensures c.in_ok-put_node.ensures c.in_ok-map_err.ensures.variant c.commit.ensures
