use Rattle.std.proofs.Common.{Ok}
use Rattle.std.proofs.lemmas.Result.{err_from_is_err_and}
use Rattle.jv_rows.proofs.transactions.ReadingPartLaws.{seen_node}
use Rattle.jv_rows.proofs.walks.WalkLaws.{not_come, comes_to, lacks_top}
use Rattle.jv_rows.proofs.walking.top.Goals as goal

pub returns-in_err-node : goal.returns-in_err-node
returns-in_err-node g c =
    let p = err_from_is_err_and c.from_residual.result c.from_residual.ensures.1 in
    rw (p.1, p.2) (not_come c.args.inode c.in_err-node.field-0.0 (λ t. Ok c.args.inode) (seen_node c.in_err-node.ensures))

pub returns-in-Some : goal.returns-in-Some
returns-in-Some g c =
    let r = rw c.in-Some.is at c.in_ok-node.ensures in
    comes_to c.args.inode c.in-Some.node (seen_node r)

pub returns-in-None : goal.returns-in-None
returns-in-None g c =
    let r = rw c.in-None.is at c.in_ok-node.ensures in
    rw (c.bad.ensures, c.key_of_node.ensures, c.new.ensures) (lacks_top c.args.inode c.requires (seen_node r))
