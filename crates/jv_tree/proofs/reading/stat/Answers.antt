use Rattle.jv_model.specs.declared.op.Reply.TheVariants.{Described}
use Rattle.jv_model.specs.promise.tree.Reading.{stat, lstat, described}
use Rattle.jv_rows.specs.Transactions.{Always}
use Rattle.jv_rows.proofs.walks.ArrivalLaws.{exit-session, exit-walk}
use Rattle.jv_tree.proofs.ReadingLaws.{begins-stat_by, begins-lstat_by, describes}
use Rattle.jv_tree.proofs.reading.stat.Goals as goal

pub returns-in_err-in_session-clause-followed : goal.returns-in_err-in_session-clause-followed
returns-in_err-in_session-clause-followed g c follows caller is_for =
    exit-session Always (g.K.Keeper.seen c.args.k.now) (g.K.Keeper.seen c.in_session.new.k)
    (g.K.Keeper.seen c.in_session.new.k) c.args.who.now caller is_for c.args.follow c.args.path.now
    (λ attr. Described attr) (λ t. stat t caller c.args.path.now) described (λ t. begins-stat_by caller c.args.path.now t c.args.follow follows)
    c.from_residual.result c.in_err-in_session.field-0.0 c.from_residual.ensures.1 c.in_err-in_session.ensures

pub returns-in_err-place-clause-followed : goal.returns-in_err-place-clause-followed
returns-in_err-place-clause-followed g c follows caller is_for =
    exit-walk Always (g.K.Keeper.seen c.args.k.now) (g.K.Keeper.seen c.in_session.new.k)
    (g.K.Keeper.seen c.walk_to.new.k) c.args.who.now caller is_for c.args.follow c.args.path.now
    (λ attr. Described attr) (λ t. stat t caller c.args.path.now) described (λ t. begins-stat_by caller c.args.path.now t c.args.follow follows)
    c.from_residual-in_err-place.result c.in_err-place.field-0.0 c.from_residual-in_err-place.ensures.1 c.in_ok-in_session.ensures c.in_err-place.ensures

pub returns-clause-followed : goal.returns-clause-followed
returns-clause-followed g c follows caller is_for =
    describes (g.K.Keeper.seen c.args.k.now) (g.K.Keeper.seen c.in_session.new.k)
    (g.K.Keeper.seen c.walk_to.new.k) c.args.who.now caller is_for c.args.follow c.args.path.now (λ t. stat t caller c.args.path.now)
    c.in_ok-place.place c.in_ok-in_session.ensures c.in_ok-place.ensures
    (λ t. begins-stat_by caller c.args.path.now t c.args.follow follows) c.attr_of.result c.attr_of.ensures

pub returns-in_err-in_session-clause-unfollowed : goal.returns-in_err-in_session-clause-unfollowed
returns-in_err-in_session-clause-unfollowed g c follows caller is_for =
    exit-session Always (g.K.Keeper.seen c.args.k.now) (g.K.Keeper.seen c.in_session.new.k)
    (g.K.Keeper.seen c.in_session.new.k) c.args.who.now caller is_for c.args.follow c.args.path.now
    (λ attr. Described attr) (λ t. lstat t caller c.args.path.now) described (λ t. begins-lstat_by caller c.args.path.now t c.args.follow follows)
    c.from_residual.result c.in_err-in_session.field-0.0 c.from_residual.ensures.1 c.in_err-in_session.ensures

pub returns-in_err-place-clause-unfollowed : goal.returns-in_err-place-clause-unfollowed
returns-in_err-place-clause-unfollowed g c follows caller is_for =
    exit-walk Always (g.K.Keeper.seen c.args.k.now) (g.K.Keeper.seen c.in_session.new.k)
    (g.K.Keeper.seen c.walk_to.new.k) c.args.who.now caller is_for c.args.follow c.args.path.now
    (λ attr. Described attr) (λ t. lstat t caller c.args.path.now) described (λ t. begins-lstat_by caller c.args.path.now t c.args.follow follows)
    c.from_residual-in_err-place.result c.in_err-place.field-0.0 c.from_residual-in_err-place.ensures.1 c.in_ok-in_session.ensures c.in_err-place.ensures

pub returns-clause-unfollowed : goal.returns-clause-unfollowed
returns-clause-unfollowed g c follows caller is_for =
    describes (g.K.Keeper.seen c.args.k.now) (g.K.Keeper.seen c.in_session.new.k)
    (g.K.Keeper.seen c.walk_to.new.k) c.args.who.now caller is_for c.args.follow c.args.path.now (λ t. lstat t caller c.args.path.now)
    c.in_ok-place.place c.in_ok-in_session.ensures c.in_ok-place.ensures
    (λ t. begins-lstat_by caller c.args.path.now t c.args.follow follows) c.attr_of.result c.attr_of.ensures
