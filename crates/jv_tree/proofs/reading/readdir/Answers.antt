use Rattle.std.proofs.Common.{true, sym, ◌∙◌}
use Rattle.jv_model.specs.declared.op.Reply.TheVariants.{Entries}
use Rattle.jv_model.specs.promise.tree.Reading.{readdir}
use Rattle.jv_rows.specs.Transactions.{Always}
use Rattle.jv_rows.proofs.walks.ArrivalLaws.{exit-session, exit-walk}
use Rattle.jv_tree.specs.Attributes.{kind_in}
use Rattle.jv_tree.proofs.ReadingLaws.{begins-readdir, listed, lists, lists-no_directory, other-directory}
use Rattle.jv_tree.proofs.reading.readdir.Goals as goal

pub returns-in_err-in_session : goal.returns-in_err-in_session
returns-in_err-in_session g c caller is_for =
    exit-session Always (g.K.Keeper.seen c.args.k.now) (g.K.Keeper.seen c.in_session.new.k)
    (g.K.Keeper.seen c.in_session.new.k) c.args.who.now caller is_for true c.args.path.now
    (λ entries. Entries entries) (λ t. readdir t caller c.args.path.now) listed (begins-readdir caller c.args.path.now)
    c.from_residual.result c.in_err-in_session.field-0.0 c.from_residual.ensures.1 c.in_err-in_session.ensures

pub returns-in_err-place : goal.returns-in_err-place
returns-in_err-place g c caller is_for =
    exit-walk Always (g.K.Keeper.seen c.args.k.now) (g.K.Keeper.seen c.in_session.new.k)
    (g.K.Keeper.seen c.walk_to.new.k) c.args.who.now caller is_for true c.args.path.now
    (λ entries. Entries entries) (λ t. readdir t caller c.args.path.now) listed (begins-readdir caller c.args.path.now)
    c.from_residual-in_err-place.result c.in_err-place.field-0.0 c.from_residual-in_err-place.ensures.1 c.in_ok-in_session.ensures c.in_err-place.ensures

pub returns-in-Directory : goal.returns-in-Directory
returns-in-Directory g c caller is_for =
    lists (g.K.Keeper.seen c.args.k.now) (g.K.Keeper.seen c.in_session.new.k) (g.K.Keeper.seen c.walk_to.new.k)
    (g.K.Keeper.seen c.entries_in.new.k) c.args.who.now caller is_for c.args.path.now c.in_ok-place.place c.in_ok-in_session.ensures c.in_ok-place.ensures
    (sym c.kind_of.ensures ∙ c.in-Directory.is) c.entries_in.result c.entries_in.ensures

pub returns : goal.returns
returns g c caller is_for =
    lists-no_directory (g.K.Keeper.seen c.args.k.now) (g.K.Keeper.seen c.in_session.new.k) (g.K.Keeper.seen c.walk_to.new.k)
    (g.K.Keeper.seen c.walk_to.new.k) c.args.who.now caller is_for c.args.path.now c.in_ok-place.place c.in_ok-in_session.ensures c.in_ok-place.ensures
    (other-directory c.kind_of.result (kind_in c.in_ok-place.place.node.kind) c.kind_of.ensures c.in-File.is)
