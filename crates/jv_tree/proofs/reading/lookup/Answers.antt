use Rattle.std.proofs.Common.{ℕ, false}
use Rattle.jv_model.specs.declared.op.Reply.TheVariants.{Found}
use Rattle.jv_model.specs.promise.tree.Caller.{answered}
use Rattle.jv_model.specs.promise.tree.Reading.{lookup}
use Rattle.jv_model.specs.promise.tree.Tree.{Tree}
use Rattle.jv_rows.specs.Transactions.{Always}
use Rattle.jv_rows.proofs.transactions.TransactionLaws.{transacts-answers}
use Rattle.jv_rows.proofs.walks.ArrivalLaws.{arrives, exit-session, exit-walk}
use Rattle.jv_tree.proofs.ReadingLaws.{begins-lookup}
use Rattle.jv_tree.proofs.reading.lookup.Goals as goal

pub returns-in_err-in_session : goal.returns-in_err-in_session
returns-in_err-in_session g c caller is_for =
    exit-session Always (g.K.Keeper.seen c.args.k.now) (g.K.Keeper.seen c.in_session.new.k)
    (g.K.Keeper.seen c.in_session.new.k) c.args.who.now caller is_for false c.args.path.now
    (λ inode. Found inode) (λ t. lookup t caller c.args.path.now) (λ t inode. answered t (Found inode)) (begins-lookup caller c.args.path.now)
    c.from_residual.result c.in_err-in_session.field-0.0 c.from_residual.ensures.1 c.in_err-in_session.ensures

pub returns-in_err-walk_to : goal.returns-in_err-walk_to
returns-in_err-walk_to g c caller is_for =
    exit-walk Always (g.K.Keeper.seen c.args.k.now) (g.K.Keeper.seen c.in_session.new.k)
    (g.K.Keeper.seen c.walk_to.new.k) c.args.who.now caller is_for false c.args.path.now
    (λ inode. Found inode) (λ t. lookup t caller c.args.path.now) (λ t inode. answered t (Found inode)) (begins-lookup caller c.args.path.now)
    c.from_residual-in_err-walk_to.result c.in_err-walk_to.field-0.0 c.from_residual-in_err-walk_to.ensures.1 c.in_ok-in_session.ensures
    c.in_err-walk_to.ensures

pub returns : goal.returns
returns g c caller is_for =
    transacts-answers Always (g.K.Keeper.seen c.args.k.now) (g.K.Keeper.seen c.walk_to.new.k) (λ inode. Found inode)
    (λ t. lookup t caller c.args.path.now) c.in_ok-walk_to.field-0.inode
    (arrives (g.K.Keeper.seen c.args.k.now) (g.K.Keeper.seen c.in_session.new.k)
    (g.K.Keeper.seen c.walk_to.new.k) c.args.who.now caller is_for false c.args.path.now
    (λ t. lookup t caller c.args.path.now) (λ t inode. answered t (Found inode))
    (begins-lookup caller c.args.path.now) c.in_ok-walk_to.field-0 c.in_ok-in_session.ensures c.in_ok-walk_to.ensures)
