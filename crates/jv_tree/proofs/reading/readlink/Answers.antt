use Rattle.std.proofs.Common.{false, sym, ◌∙◌}
use Rattle.jv_model.specs.declared.op.Reply.TheVariants.{Target}
use Rattle.jv_model.specs.promise.tree.Reading.{readlink}
use Rattle.jv_rows.specs.Transactions.{Always}
use Rattle.jv_rows.proofs.walks.ArrivalLaws.{exit-session, exit-walk}
use Rattle.jv_tree.specs.Attributes.{kind_in}
use Rattle.jv_tree.proofs.ReadingLaws.{target_answered, begins-readlink, reads-target, reads-no-target, other-symlink}
use Rattle.jv_tree.proofs.reading.readlink.Goals as goal

pub returns-in_err-in_session : goal.returns-in_err-in_session
returns-in_err-in_session g c caller is_for =
    exit-session Always (g.K.Keeper.seen c.args.k.now) (g.K.Keeper.seen c.in_session.new.k)
    (g.K.Keeper.seen c.in_session.new.k) c.args.who.now caller is_for false c.args.path.now
    (λ target. Target target) (λ t. readlink t caller c.args.path.now) target_answered (begins-readlink caller c.args.path.now)
    c.from_residual.result c.in_err-in_session.field-0.0 c.from_residual.ensures.1 c.in_err-in_session.ensures

pub returns-in_err-place : goal.returns-in_err-place
returns-in_err-place g c caller is_for =
    exit-walk Always (g.K.Keeper.seen c.args.k.now) (g.K.Keeper.seen c.in_session.new.k)
    (g.K.Keeper.seen c.walk_to.new.k) c.args.who.now caller is_for false c.args.path.now
    (λ target. Target target) (λ t. readlink t caller c.args.path.now) target_answered (begins-readlink caller c.args.path.now)
    c.from_residual-in_err-place.result c.in_err-place.field-0.0 c.from_residual-in_err-place.ensures.1 c.in_ok-in_session.ensures c.in_err-place.ensures

pub returns-in-Symlink : goal.returns-in-Symlink
returns-in-Symlink g c caller is_for =
    reads-target (g.K.Keeper.seen c.args.k.now) (g.K.Keeper.seen c.in_session.new.k)
    (g.K.Keeper.seen c.walk_to.new.k) c.args.who.now caller is_for false c.args.path.now (λ t. readlink t caller c.args.path.now)
    c.in_ok-place.place c.in_ok-in_session.ensures c.in_ok-place.ensures (begins-readlink caller c.args.path.now) (sym c.kind_of.ensures ∙ c.in-Symlink.is)

pub returns-in-File : goal.returns-in-File
returns-in-File g c caller is_for =
    reads-no-target (g.K.Keeper.seen c.args.k.now) (g.K.Keeper.seen c.in_session.new.k)
    (g.K.Keeper.seen c.walk_to.new.k) c.args.who.now caller is_for false c.args.path.now (λ t. readlink t caller c.args.path.now)
    c.in_ok-place.place c.in_ok-in_session.ensures c.in_ok-place.ensures (begins-readlink caller c.args.path.now)
    (other-symlink c.kind_of.result (kind_in c.in_ok-place.place.node.kind) c.kind_of.ensures c.in-File.is)
