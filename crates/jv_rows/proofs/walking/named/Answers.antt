use Rattle.std.proofs.Common.{Ok}
use Rattle.std.proofs.lemmas.Result.{err_from_is_err_and}
use Rattle.jv_rows.proofs.transactions.ReadingPartLaws.{seen_node}
use Rattle.jv_rows.proofs.walks.WalkLaws.{not_come, comes_to, names_none}
use Rattle.jv_rows.proofs.walking.named.Goals as goal

pub returns-in_err-node : goal.returns-in_err-node
returns-in_err-node g c =
    let p = err_from_is_err_and c.from_residual.result c.from_residual.ensures.1 in
    rw (p.1, p.2) (not_come c.args.edge.now.inode c.in_err-node.field-0.0 (λ t. Ok c.args.edge.now.inode) (seen_node c.in_err-node.ensures))

pub returns-in-Some : goal.returns-in-Some
returns-in-Some g c =
    let r = rw c.in-Some.is at c.in_ok-node.ensures in
    comes_to c.args.edge.now.inode c.in-Some.node (seen_node r)

pub returns-in_ok-spell_edge-in-None : goal.returns-in_ok-spell_edge-in-None
returns-in_ok-spell_edge-in-None g c =
    let r = rw c.in-None.is at c.in_ok-node.ensures in
    rw (c.bad.ensures, c.in_ok-key_of_edge-in-None.ensures, c.in_ok-spell_edge-in-None.ensures)
    (names_none c.args.dir c.args.name.now c.args.edge.now c.requires (seen_node r))
