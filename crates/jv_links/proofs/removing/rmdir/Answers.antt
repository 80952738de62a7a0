use Rattle.std.proofs.Common.{Bool, Ok, subst, eq-eqb, ne_eqb}
use Rattle.jv_model.specs.declared.op.Reply.TheVariants.{Done}
use Rattle.jv_model.specs.promise.tree.Removing.{rmdir}
use Rattle.jv_model.specs.promise.tree.Tree.{has_entries}
use Rattle.jv_rows.specs.Transactions.{Looks, Always}
use Rattle.jv_links.proofs.losses.RemovingLaws.{rmdir_at, rmdir-is, removing-stops, rmdir-no_directory, rmdir-not_empty, rmdir-not_taken, rmdir-not_dropped, rmdir-done}
use Rattle.jv_links.proofs.removing.rmdir.Goals as goal

pub returns-in_err-entry : goal.returns-in_err-entry
returns-in_err-entry g c caller is_for =
    removing-stops c.args.who.now caller is_for c.args.path.now (g.K.Keeper.seen c.args.k.now)
    (g.K.Keeper.seen c.find_removable.new.k)
    (λ t. rmdir t caller c.args.path.now) (rmdir_at caller) (rmdir-is caller c.args.path.now) Always (λ unit. Done)
    c.from_residual.result c.in_err-entry.field-0.0 c.from_residual.ensures.1 c.in_err-entry.ensures

pub returns-then-entry-ne2 : goal.returns-then-entry-ne2
returns-then-entry-ne2 g c caller is_for =
    rmdir-no_directory c.args.who.now caller is_for c.args.path.now (g.K.Keeper.seen c.args.k.now)
    (g.K.Keeper.seen c.find_removable.new.k) c.in_ok-entry.entry c.in_ok-entry.ensures
    (ne_eqb c.in_ok-entry.entry.node.node.kind 2 c.if-entry-ne2.true)

pub returns-then-branch : goal.returns-then-branch
returns-then-branch g c caller is_for =
    rmdir-not_empty c.args.who.now caller is_for c.args.path.now (g.K.Keeper.seen c.args.k.now)
    (g.K.Keeper.seen c.find_removable.new.k) c.in_ok-entry.entry c.in_ok-entry.ensures
    (eq-eqb c.in_ok-entry.entry.node.node.kind 2 c.if-entry-ne2.false) (g.K.Keeper.seen c.has_entries.new.k)
    (subst (λ (b : Bool). Looks (g.K.Keeper.seen c.find_removable.new.k) (g.K.Keeper.seen c.has_entries.new.k) (Ok b)
    (λ t. Ok (has_entries t c.in_ok-entry.entry.node.inode))) c.if-branch.true c.in_ok-has_entries.ensures)

pub returns-in_err-take_entry : goal.returns-in_err-take_entry
returns-in_err-take_entry g c caller is_for =
    rmdir-not_taken c.args.who.now caller is_for c.args.path.now (g.K.Keeper.seen c.args.k.now)
    (g.K.Keeper.seen c.find_removable.new.k) c.in_ok-entry.entry c.in_ok-entry.ensures
    (eq-eqb c.in_ok-entry.entry.node.node.kind 2 c.if-entry-ne2.false) (g.K.Keeper.seen c.has_entries.new.k)
    (subst (λ (b : Bool). Looks (g.K.Keeper.seen c.find_removable.new.k) (g.K.Keeper.seen c.has_entries.new.k) (Ok b)
    (λ t. Ok (has_entries t c.in_ok-entry.entry.node.inode))) c.if-branch.false c.in_ok-has_entries.ensures)
    c.new-draft.result c.new-draft.ensures c.args.who.now.now is_for.now (g.K.Keeper.seen c.take_entry.new.k)
    c.take_entry.new.draft
    c.from_residual-in_err-take_entry.result c.in_err-take_entry.field-0.0 c.from_residual-in_err-take_entry.ensures.1
    c.in_err-take_entry.ensures

pub returns-in_err-drop_node : goal.returns-in_err-drop_node
returns-in_err-drop_node g c caller is_for =
    rmdir-not_dropped c.args.who.now caller is_for c.args.path.now (g.K.Keeper.seen c.args.k.now)
    (g.K.Keeper.seen c.find_removable.new.k) c.in_ok-entry.entry c.in_ok-entry.ensures
    (eq-eqb c.in_ok-entry.entry.node.node.kind 2 c.if-entry-ne2.false) (g.K.Keeper.seen c.has_entries.new.k)
    (subst (λ (b : Bool). Looks (g.K.Keeper.seen c.find_removable.new.k) (g.K.Keeper.seen c.has_entries.new.k) (Ok b)
    (λ t. Ok (has_entries t c.in_ok-entry.entry.node.inode))) c.if-branch.false c.in_ok-has_entries.ensures)
    c.new-draft.result c.new-draft.ensures c.args.who.now.now is_for.now (g.K.Keeper.seen c.take_entry.new.k)
    c.take_entry.new.draft
    c.in_ok-take_entry.ensures (g.K.Keeper.seen c.drop_node.new.k) c.drop_node.new.draft
    c.from_residual-in_err-drop_node.result c.in_err-drop_node.field-0.0 c.from_residual-in_err-drop_node.ensures.1
    c.in_err-drop_node.ensures

pub returns-in-Ok : goal.returns-in-Ok
returns-in-Ok g c caller is_for =
    rmdir-done c.args.who.now caller is_for c.args.path.now (g.K.Keeper.seen c.args.k.now)
    (g.K.Keeper.seen c.find_removable.new.k) c.in_ok-entry.entry c.in_ok-entry.ensures
    (eq-eqb c.in_ok-entry.entry.node.node.kind 2 c.if-entry-ne2.false) (g.K.Keeper.seen c.has_entries.new.k)
    (subst (λ (b : Bool). Looks (g.K.Keeper.seen c.find_removable.new.k) (g.K.Keeper.seen c.has_entries.new.k) (Ok b)
    (λ t. Ok (has_entries t c.in_ok-entry.entry.node.inode))) c.if-branch.false c.in_ok-has_entries.ensures)
    c.new-draft.result c.new-draft.ensures c.args.who.now.now is_for.now (g.K.Keeper.seen c.take_entry.new.k)
    c.take_entry.new.draft
    c.in_ok-take_entry.ensures (g.K.Keeper.seen c.drop_node.new.k) c.drop_node.new.draft c.in_ok-drop_node.ensures
    (g.K.Keeper.seen c.commit.new.k) c.in-Ok.ensures
