use Rattle.std.proofs.Common.{List, None, Some, Result, Ok, Err, Option, ap, refl, subst, ◌∙◌}
use Rattle.jv_model.specs.declared.fault.RowFault.{RowFault}
use Rattle.jv_model.specs.declared.row.Node.{Node}
use Rattle.jv_model.specs.declared.row.Row.TheVariants.{OfNode}
use Rattle.jv_model.specs.promise.rows.RowGrammar.{is_node}
use Rattle.jv_model.specs.promise.rows.RowPlaces.{node_key}
use Rattle.jv_outside.specs.declared.batch.Change.{Change}
use Rattle.jv_rows.specs.Drafts.{Sees}
use Rattle.jv_rows.proofs.transactions.TransactionLaws.{seen-fresh}
use Rattle.jv_tree.proofs.ReadingLaws.{fstat-exit, fstat-unread, fstat-there, fstat-gone}
use Rattle.jv_tree.proofs.reading.fstat.Goals as goal

pub returns-in_err-in_session : goal.returns-in_err-in_session
returns-in_err-in_session g c caller is_for is_inode =
    fstat-exit (g.K.Keeper.seen c.args.k.now) (g.K.Keeper.seen c.in_session.new.k)
    (g.K.Keeper.seen c.in_session.new.k) c.args.who.now caller is_for c.args.inode is_inode
    c.from_residual.result c.in_err-in_session.field-0.0 c.from_residual.ensures.1 c.in_err-in_session.ensures

pub returns-in_err-node : goal.returns-in_err-node
returns-in_err-node g c caller is_for is_inode =
    fstat-unread (g.K.Keeper.seen c.args.k.now) (g.K.Keeper.seen c.in_session.new.k)
    (g.K.Keeper.seen c.node-2.new.k) c.args.who.now caller is_for c.args.inode is_inode c.in_ok-in_session.ensures
    c.from_residual-in_err-node.result c.in_err-node.field-0.0 c.from_residual-in_err-node.ensures.1
    (seen-fresh OfNode is_node (node_key c.args.inode) c.new.result (g.K.Keeper.seen c.in_session.new.k) (g.K.Keeper.seen c.node-2.new.k)
    (Err c.in_err-node.field-0.0) (Err c.in_err-node.field-0.0) c.new.ensures refl c.in_err-node.ensures)

pub returns-in-Some : goal.returns-in-Some
returns-in-Some g c caller is_for is_inode =
    fstat-there (g.K.Keeper.seen c.args.k.now) (g.K.Keeper.seen c.in_session.new.k)
    (g.K.Keeper.seen c.node-2.new.k) c.args.who.now caller is_for c.args.inode is_inode c.in_ok-in_session.ensures c.in-Some.node c.attr_of.result
    (seen-fresh OfNode is_node (node_key c.args.inode) c.new.result (g.K.Keeper.seen c.in_session.new.k) (g.K.Keeper.seen c.node-2.new.k)
    (Ok c.in_ok-node.field-0) (Ok (Some c.in-Some.node)) c.new.ensures (ap (λ o. Ok o) c.in-Some.is) c.in_ok-node.ensures)
    c.attr_of.ensures

pub returns : goal.returns
returns g c caller is_for is_inode =
    fstat-gone (g.K.Keeper.seen c.args.k.now) (g.K.Keeper.seen c.in_session.new.k)
    (g.K.Keeper.seen c.node-2.new.k) c.args.who.now caller is_for c.args.inode is_inode c.in_ok-in_session.ensures
    (seen-fresh OfNode is_node (node_key c.args.inode) c.new.result (g.K.Keeper.seen c.in_session.new.k) (g.K.Keeper.seen c.node-2.new.k)
    (Ok c.in_ok-node.field-0) (Ok None) c.new.ensures (ap (λ o. Ok o) c.in-None.is) c.in_ok-node.ensures)
