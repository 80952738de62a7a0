use Rattle.std.proofs.Common.{Ok}
use Rattle.std.proofs.lemmas.Result.{err_from_is_err_and}
use Rattle.jv_rows.proofs.transactions.ReadingPartLaws.{seen_node}
use Rattle.jv_rows.proofs.walks.WalkLaws.{not_come, comes_to, lacks_parent, no_parent}
use Rattle.jv_rows.proofs.walking.parent.Goals as goal

pub returns-in_err-read_node-clause-comes : goal.returns-in_err-read_node-clause-comes
returns-in_err-read_node-clause-comes g c =
    let p = err_from_is_err_and c.from_residual.result c.from_residual.ensures.1 in
    rw (p.1, p.2) (not_come c.args.dir.now.node.parent c.in_err-read_node.field-0.0 (λ t. Ok c.args.dir.now.node.parent) (seen_node c.in_err-read_node.ensures))

pub returns-then-node-ne2-clause-comes : goal.returns-then-node-ne2-clause-comes
returns-then-node-ne2-clause-comes g c =
    let r = rw c.in-Some.is at c.in_ok-read_node.ensures in
    no_parent c.args.dir.now.inode c.args.dir.now.node c.in-Some.node c.requires.stands c.requires.is_directory (seen_node r) c.if-node-ne2.true

pub returns-else-node-ne2-clause-comes : goal.returns-else-node-ne2-clause-comes
returns-else-node-ne2-clause-comes g c =
    let r = rw c.in-Some.is at c.in_ok-read_node.ensures in
    comes_to c.args.dir.now.node.parent c.in-Some.node (seen_node r)

pub returns-in_ok-spell_node-in-None-clause-comes : goal.returns-in_ok-spell_node-in-None-clause-comes
returns-in_ok-spell_node-in-None-clause-comes g c =
    let r = rw c.in-None.is at c.in_ok-read_node.ensures in
    rw (c.bad.ensures, c.key_of_node.ensures, c.in_ok-spell_node-in-None.ensures)
    (lacks_parent c.args.dir.now.inode c.args.dir.now.node c.requires.stands c.requires.is_directory (seen_node r))
