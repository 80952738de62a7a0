use Rattle.std.proofs.Common.{eq-eqb, ne_eqb}
use Rattle.jv_model.specs.declared.op.Reply.TheVariants.{Done}
use Rattle.jv_model.specs.promise.tree.Removing.{unlink}
use Rattle.jv_links.specs.Removals.{HoldsFiles}
use Rattle.jv_links.proofs.losses.RemovingLaws.{unlink_at, unlink-is, removing-stops}
use Rattle.jv_links.proofs.losses.UnlinkLaws.{unlink-directory, unlink-not_lost, unlink-fails, unlink-answers, unlink-done, unlink-says}
use Rattle.jv_links.proofs.removing.unlink.Goals as goal

pub returns-in_err-entry-clause-does : goal.returns-in_err-entry-clause-does
returns-in_err-entry-clause-does g c caller is_for =
    removing-stops c.args.who.now caller is_for c.args.path.now (g.K.Keeper.seen c.args.k.now)
    (g.K.Keeper.seen c.find_removable.new.k)
    (λ t. unlink t caller c.args.path.now) (unlink_at caller) (unlink-is caller c.args.path.now)
    (HoldsFiles caller.held) (λ removed. Done)
    c.from_residual.result c.in_err-entry.field-0.0 c.from_residual.ensures.1 c.in_err-entry.ensures

pub returns-then-entry-eq2-clause-does : goal.returns-then-entry-eq2-clause-does
returns-then-entry-eq2-clause-does g c caller is_for =
    unlink-directory c.args.who.now caller is_for c.args.path.now (g.K.Keeper.seen c.args.k.now)
    (g.K.Keeper.seen c.find_removable.new.k)
    c.in_ok-entry.entry c.in_ok-entry.ensures (eq-eqb c.in_ok-entry.entry.node.node.kind 2 c.if-entry-eq2.true)

pub returns-in_err-fate-clause-does : goal.returns-in_err-fate-clause-does
returns-in_err-fate-clause-does g c caller is_for =
    unlink-not_lost c.args.who.now caller is_for c.args.path.now (g.K.Keeper.seen c.args.k.now)
    (g.K.Keeper.seen c.find_removable.new.k)
    c.in_ok-entry.entry c.in_ok-entry.ensures (ne_eqb c.in_ok-entry.entry.node.node.kind 2 c.if-entry-eq2.false)
    c.seconds.result c.seconds.ensures.seconds c.seconds.ensures.limit c.new-draft.result c.new-draft.ensures
    (g.K.Keeper.seen c.remove_entry.new.k) c.remove_entry.new.draft
    c.from_residual-in_err-fate.result c.in_err-fate.field-0.0 c.from_residual-in_err-fate.ensures.1
    (c.in_err-fate.ensures.does caller is_for)

pub returns-in-Ok-clause-does : goal.returns-in-Ok-clause-does
returns-in-Ok-clause-does g c caller is_for =
    unlink-done c.args.who.now caller is_for c.args.path.now (g.K.Keeper.seen c.args.k.now)
    (g.K.Keeper.seen c.find_removable.new.k)
    c.in_ok-entry.entry c.in_ok-entry.ensures (ne_eqb c.in_ok-entry.entry.node.node.kind 2 c.if-entry-eq2.false)
    c.seconds.result c.seconds.ensures.seconds c.seconds.ensures.limit c.new-draft.result c.new-draft.ensures
    (g.K.Keeper.seen c.remove_entry.new.k) c.remove_entry.new.draft c.in_ok-fate.fate
    (c.in_ok-fate.ensures.does caller is_for)
    (g.K.Keeper.seen c.commit.new.k) (record { inode = c.in_ok-entry.entry.node.inode; fate = c.in_ok-fate.fate })
    c.in-Ok.ensures

pub returns-in-Ok-clause-says : goal.returns-in-Ok-clause-says
returns-in-Ok-clause-says g c caller is_for =
    unlink-says c.args.who.now caller is_for c.args.path.now (g.K.Keeper.seen c.args.k.now)
    (g.K.Keeper.seen c.find_removable.new.k)
    c.in_ok-entry.entry c.in_ok-entry.ensures (ne_eqb c.in_ok-entry.entry.node.node.kind 2 c.if-entry-eq2.false)
    c.seconds.result c.seconds.ensures.seconds c.seconds.ensures.limit c.new-draft.result c.new-draft.ensures
    c.in_ok-fate.fate (c.in_ok-fate.ensures.says caller is_for)

pub returns-in-Ok-clause-answers : goal.returns-in-Ok-clause-answers
returns-in-Ok-clause-answers g c caller is_for =
    unlink-answers c.args.who.now caller is_for c.args.path.now (g.K.Keeper.seen c.args.k.now)
    (g.K.Keeper.seen c.find_removable.new.k)
    c.in_ok-entry.entry c.in_ok-entry.ensures (ne_eqb c.in_ok-entry.entry.node.node.kind 2 c.if-entry-eq2.false)
    c.seconds.result c.seconds.ensures.seconds c.seconds.ensures.limit c.new-draft.result c.new-draft.ensures
    c.in_ok-fate.fate (c.in_ok-fate.ensures.says caller is_for)

pub returns-clause-does : goal.returns-clause-does
returns-clause-does g c caller is_for =
    rw c.from.ensures
    (unlink-fails c.args.who.now caller is_for c.args.path.now (g.K.Keeper.seen c.args.k.now)
    (g.K.Keeper.seen c.find_removable.new.k)
    c.in_ok-entry.entry c.in_ok-entry.ensures (ne_eqb c.in_ok-entry.entry.node.node.kind 2 c.if-entry-eq2.false)
    c.seconds.result c.seconds.ensures.seconds c.seconds.ensures.limit c.new-draft.result c.new-draft.ensures
    (g.K.Keeper.seen c.remove_entry.new.k) c.remove_entry.new.draft c.in_ok-fate.fate
    (c.in_ok-fate.ensures.does caller is_for)
    (g.K.Keeper.seen c.commit.new.k) c.in-Err.down c.in-Err.ensures)
