use Rattle.std.proofs.Common.{true, sym, ◌∙◌}
use Rattle.jv_model.specs.declared.op.Reply.TheVariants.{FileOpened}
use Rattle.jv_model.specs.promise.tree.Reading.{open_file}
use Rattle.jv_rows.specs.Transactions.{Always}
use Rattle.jv_rows.proofs.walks.ArrivalLaws.{exit-session, exit-walk}
use Rattle.jv_tree.specs.Attributes.{kind_in}
use Rattle.jv_tree.proofs.ReadingLaws.{opened_at, begins-open, opens, opens-directory, other-directory}
use Rattle.jv_tree.proofs.reading.open_node.Goals as goal

pub returns-in_err-in_session : goal.returns-in_err-in_session
returns-in_err-in_session g c caller is_for =
    exit-session Always (g.K.Keeper.seen c.args.k.now) (g.K.Keeper.seen c.in_session.new.k)
    (g.K.Keeper.seen c.in_session.new.k) c.args.who.now caller is_for true c.args.path.now
    (λ inode. FileOpened caller.free_handle inode) (λ t. open_file t caller c.args.path.now) (opened_at caller) (begins-open caller c.args.path.now)
    c.from_residual.result c.in_err-in_session.field-0.0 c.from_residual.ensures.1 c.in_err-in_session.ensures

pub returns-in_err-place : goal.returns-in_err-place
returns-in_err-place g c caller is_for =
    exit-walk Always (g.K.Keeper.seen c.args.k.now) (g.K.Keeper.seen c.in_session.new.k)
    (g.K.Keeper.seen c.walk_to.new.k) c.args.who.now caller is_for true c.args.path.now
    (λ inode. FileOpened caller.free_handle inode) (λ t. open_file t caller c.args.path.now) (opened_at caller) (begins-open caller c.args.path.now)
    c.from_residual-in_err-place.result c.in_err-place.field-0.0 c.from_residual-in_err-place.ensures.1 c.in_ok-in_session.ensures c.in_err-place.ensures

pub returns-in-Directory : goal.returns-in-Directory
returns-in-Directory g c caller is_for =
    opens-directory (g.K.Keeper.seen c.args.k.now) (g.K.Keeper.seen c.in_session.new.k)
    (g.K.Keeper.seen c.walk_to.new.k) c.args.who.now caller is_for true c.args.path.now (λ t. open_file t caller c.args.path.now)
    c.in_ok-place.place c.in_ok-in_session.ensures c.in_ok-place.ensures (begins-open caller c.args.path.now) (sym c.kind_of.ensures ∙ c.in-Directory.is)

pub returns : goal.returns
returns g c caller is_for =
    opens (g.K.Keeper.seen c.args.k.now) (g.K.Keeper.seen c.in_session.new.k)
    (g.K.Keeper.seen c.walk_to.new.k) c.args.who.now caller is_for true c.args.path.now (λ t. open_file t caller c.args.path.now)
    c.in_ok-place.place c.in_ok-in_session.ensures c.in_ok-place.ensures (begins-open caller c.args.path.now)
    (other-directory c.kind_of.result (kind_in c.in_ok-place.place.node.kind) c.kind_of.ensures c.in-File.is)
