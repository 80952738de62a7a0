use Rattle.std.proofs.Common.{None, Some, Ok, Err, ap, refl, arith}
use Rattle.std.proofs.lemmas.Result.{err_from_is_err_and}
use Rattle.jv_model.specs.declared.row.Row.TheVariants.{OfNode}
use Rattle.jv_model.specs.promise.rows.RowGrammar.{is_node}
use Rattle.jv_model.specs.promise.rows.RowPlaces.{node_key}
use Rattle.jv_rows.proofs.transactions.TransactionLaws.{seen-fresh}
use Rattle.jv_data.proofs.files.LookingLaws.{file-unread, file-gone, file-other, file-there}
use Rattle.jv_data.proofs.looking.file.Goals as goal

pub returns-in_err-node : goal.returns-in_err-node
returns-in_err-node g c =
    let p = err_from_is_err_and c.from_residual-in_err-node.result c.from_residual-in_err-node.ensures.1 in
    rw (p.1, p.2)
    (file-unread (g.K.Keeper.seen c.args.k.now) (g.K.Keeper.seen c.in_session.new.k) c.args.sid c.args.inode
    (g.K.Keeper.seen c.node-2.new.k) c.in_ok-in_session.ensures c.in_err-node.field-0.0
    (seen-fresh OfNode is_node (node_key c.args.inode) c.new.result (g.K.Keeper.seen c.in_session.new.k) (g.K.Keeper.seen c.node-2.new.k)
    (Err c.in_err-node.field-0.0) (Err c.in_err-node.field-0.0) c.new.ensures refl c.in_err-node.ensures))

pub returns-in_default : goal.returns-in_default
returns-in_default g c =
    file-gone (g.K.Keeper.seen c.args.k.now) (g.K.Keeper.seen c.in_session.new.k) c.args.sid c.args.inode
    (g.K.Keeper.seen c.node-2.new.k) c.in_ok-in_session.ensures
    (seen-fresh OfNode is_node (node_key c.args.inode) c.new.result (g.K.Keeper.seen c.in_session.new.k) (g.K.Keeper.seen c.node-2.new.k)
    (Ok c.in_ok-node.field-0) (Ok None) c.new.ensures (ap (λ o. Ok o) c.in_default.is) c.in_ok-node.ensures)

pub returns-then-node-ne1 : goal.returns-then-node-ne1
returns-then-node-ne1 g c =
    file-other (g.K.Keeper.seen c.args.k.now) (g.K.Keeper.seen c.in_session.new.k) c.args.sid c.args.inode
    (g.K.Keeper.seen c.node-2.new.k) c.in_ok-in_session.ensures c.in-Some.node
    (seen-fresh OfNode is_node (node_key c.args.inode) c.new.result (g.K.Keeper.seen c.in_session.new.k) (g.K.Keeper.seen c.node-2.new.k)
    (Ok c.in_ok-node.field-0) (Ok (Some c.in-Some.node)) c.new.ensures (ap (λ o. Ok o) c.in-Some.is) c.in_ok-node.ensures)
    (let other = c.if-node-ne1.true in grind (arith, other))

pub returns : goal.returns
returns g c =
    file-there (g.K.Keeper.seen c.args.k.now) (g.K.Keeper.seen c.in_session.new.k) c.args.sid c.args.inode
    (g.K.Keeper.seen c.node-2.new.k) c.in_ok-in_session.ensures c.in-Some.node
    (seen-fresh OfNode is_node (node_key c.args.inode) c.new.result (g.K.Keeper.seen c.in_session.new.k) (g.K.Keeper.seen c.node-2.new.k)
    (Ok c.in_ok-node.field-0) (Ok (Some c.in-Some.node)) c.new.ensures (ap (λ o. Ok o) c.in-Some.is) c.in_ok-node.ensures)
    (let same = c.if-node-ne1.false in grind (arith, same))
