use Rattle.std.proofs.Common.{Some, eq-eqb, ne_eqb}
use Rattle.jv_tree.specs.Entering.{place_of}
use Rattle.jv_links.proofs.losses.ClearingLaws.{clear-not_taken, clear-not_dropped, clear-dropped, clear-not_lost, clear-lost, clear-says}
use Rattle.jv_links.proofs.replacing.remove_target.Goals as goal

pub returns-in_err-take_entry-clause-does : goal.returns-in_err-take_entry-clause-does
returns-in_err-take_entry-clause-does g c caller is_for =
    rw (eq-eqb c.args.other.now.node.kind 2 c.if-other-eq2.true)
    (clear-not_taken caller (place_of c.args.to.now) c.args.other.now.inode c.args.draft.now
    (g.K.Keeper.seen c.args.k.now) c.args.who.now.now is_for.now
    c.take_entry.new.draft (g.K.Keeper.seen c.take_entry.new.k) c.from_residual.result c.in_err-take_entry.field-0.0
    c.from_residual.ensures.1 c.in_err-take_entry.ensures)

pub returns-in_err-drop_node-clause-does : goal.returns-in_err-drop_node-clause-does
returns-in_err-drop_node-clause-does g c caller is_for =
    rw (eq-eqb c.args.other.now.node.kind 2 c.if-other-eq2.true)
    (clear-not_dropped caller (place_of c.args.to.now) c.args.other.now.inode c.args.draft.now
    (g.K.Keeper.seen c.args.k.now) c.args.who.now.now is_for.now
    c.take_entry.new.draft (g.K.Keeper.seen c.take_entry.new.k) c.in_ok-take_entry.ensures c.drop_node.new.draft
    (g.K.Keeper.seen c.drop_node.new.k)
    c.from_residual-in_err-drop_node.result c.in_err-drop_node.field-0.0 c.from_residual-in_err-drop_node.ensures.1
    c.in_err-drop_node.ensures)

pub returns-then-other-eq2-clause-does : goal.returns-then-other-eq2-clause-does
returns-then-other-eq2-clause-does g c caller is_for =
    rw (eq-eqb c.args.other.now.node.kind 2 c.if-other-eq2.true)
    (clear-dropped caller (place_of c.args.to.now) c.args.other.now.inode c.args.draft.now
    (g.K.Keeper.seen c.args.k.now) c.args.who.now.now is_for.now
    c.take_entry.new.draft (g.K.Keeper.seen c.take_entry.new.k) c.in_ok-take_entry.ensures c.drop_node.new.draft
    (g.K.Keeper.seen c.drop_node.new.k) c.in_ok-drop_node.ensures)

pub returns-in_err-fate-clause-does : goal.returns-in_err-fate-clause-does
returns-in_err-fate-clause-does g c caller is_for =
    rw (ne_eqb c.args.other.now.node.kind 2 c.if-other-eq2.false)
    (clear-not_lost caller (place_of c.args.to.now) c.args.other.now.inode c.args.draft.now
    (g.K.Keeper.seen c.args.k.now) c.remove_entry.new.draft (g.K.Keeper.seen c.remove_entry.new.k)
    c.from_residual-in_err-fate.result c.in_err-fate.field-0.0 c.from_residual-in_err-fate.ensures.1
    (c.in_err-fate.ensures.does caller is_for))

pub returns-clause-does : goal.returns-clause-does
returns-clause-does g c caller is_for =
    rw (ne_eqb c.args.other.now.node.kind 2 c.if-other-eq2.false)
    (clear-lost caller (place_of c.args.to.now) c.args.other.now.inode c.args.draft.now (g.K.Keeper.seen c.args.k.now)
    c.remove_entry.new.draft (g.K.Keeper.seen c.remove_entry.new.k)
    c.in_ok-fate.fate (Some (record { inode = c.args.other.now.inode; fate = c.in_ok-fate.fate }))
    (c.in_ok-fate.ensures.does caller is_for))

pub returns-clause-says : goal.returns-clause-says
returns-clause-says g c caller is_for =
    rw (ne_eqb c.args.other.now.node.kind 2 c.if-other-eq2.false)
    (clear-says caller (place_of c.args.to.now) c.args.other.now.inode c.args.draft.now (g.K.Keeper.seen c.args.k.now)
    c.in_ok-fate.fate (c.in_ok-fate.ensures.says caller is_for))
