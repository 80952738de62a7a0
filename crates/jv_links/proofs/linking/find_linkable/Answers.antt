use Rattle.std.proofs.Common.{eq-eqb, ne_eqb, le-leb}
use Rattle.std.proofs.lemmas.Bool.{lt-leb}
use Rattle.jv_model.specs.declared.limits.TheConstants.{TRASH_ROOT}
use Rattle.jv_rows.proofs.transactions.TransactionLaws.{looks-exit}
use Rattle.jv_links.specs.Linkable.{linkable}
use Rattle.jv_links.proofs.entries.LinkableLaws.{linkable-directory, linkable-no_entry, linkable-trashed, linkable-found}
use Rattle.jv_links.proofs.linking.find_linkable.Goals as goal

pub returns-then-node-eq2 : goal.returns-then-node-eq2
returns-then-node-eq2 g c =
    linkable-directory c.args.sid c.args.path.now (g.K.Keeper.seen c.args.k.now) (g.K.Keeper.seen c.in_session.new.k)
    c.in_ok-in_session.ensures
    (g.K.Keeper.seen c.walk_to.new.k) c.in_ok-node.node c.in_ok-node.ensures
    (eq-eqb c.in_ok-node.node.node.kind 2 c.if-node-eq2.true)

pub returns-in_err-entry : goal.returns-in_err-entry
returns-in_err-entry g c =
    looks-exit (g.K.Keeper.seen c.args.k.now) (g.K.Keeper.seen c.walk_to_entry.new.k)
    (λ t. linkable t c.args.sid c.args.path.now)
    c.from_residual-in_err-entry.result c.in_err-entry.field-0.0 c.from_residual-in_err-entry.ensures.1
    (linkable-no_entry c.args.sid c.args.path.now (g.K.Keeper.seen c.args.k.now) (g.K.Keeper.seen c.in_session.new.k)
    c.in_ok-in_session.ensures
    (g.K.Keeper.seen c.walk_to.new.k) c.in_ok-node.node c.in_ok-node.ensures
    (ne_eqb c.in_ok-node.node.node.kind 2 c.if-node-eq2.false)
    (g.K.Keeper.seen c.walk_to_entry.new.k) c.in_err-entry.field-0.0 c.in_err-entry.ensures)

pub returns-then-entry-ge-TRASH_ROOT : goal.returns-then-entry-ge-TRASH_ROOT
returns-then-entry-ge-TRASH_ROOT g c =
    linkable-trashed c.args.sid c.args.path.now (g.K.Keeper.seen c.args.k.now) (g.K.Keeper.seen c.in_session.new.k)
    c.in_ok-in_session.ensures
    (g.K.Keeper.seen c.walk_to.new.k) c.in_ok-node.node c.in_ok-node.ensures
    (ne_eqb c.in_ok-node.node.node.kind 2 c.if-node-eq2.false)
    (g.K.Keeper.seen c.walk_to_entry.new.k) c.in_ok-entry.entry c.in_ok-entry.ensures
    (le-leb TRASH_ROOT c.in_ok-entry.entry.dir.inode c.if-entry-ge-TRASH_ROOT.true)

pub returns : goal.returns
returns g c =
    linkable-found c.args.sid c.args.path.now (g.K.Keeper.seen c.args.k.now) (g.K.Keeper.seen c.in_session.new.k)
    c.in_ok-in_session.ensures
    (g.K.Keeper.seen c.walk_to.new.k) c.in_ok-node.node c.in_ok-node.ensures
    (ne_eqb c.in_ok-node.node.node.kind 2 c.if-node-eq2.false)
    (g.K.Keeper.seen c.walk_to_entry.new.k) c.in_ok-entry.entry c.in_ok-entry.ensures
    (lt-leb TRASH_ROOT c.in_ok-entry.entry.dir.inode c.if-entry-ge-TRASH_ROOT.false)
