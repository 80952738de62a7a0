use Rattle.std.proofs.Common.{ap, ◌∙◌}
use Rattle.std.specs.Prelude.{not}
use Rattle.std.proofs.lemmas.Result.{err_from_is_err_and}
use Rattle.jv_live.proofs.KeptLaws.{node-unread, node-gone}
use Rattle.jv_live.proofs.kept.kept_node.Goals as goal

pub returns-in_err-read_node : goal.returns-in_err-read_node
returns-in_err-read_node g c =
    let p = err_from_is_err_and c.from_residual.result c.from_residual.ensures.1 in
    rw (p.1, p.2)
    (node-unread c.args.sid c.args.inode c.ranges.inode.fits (g.K.Keeper.seen c.args.k.now) (g.K.Keeper.seen c.read_node.new.k) c.requires
    c.in_err-read_node.field-0.0 c.in_err-read_node.ensures)

pub returns-then-is_none : goal.returns-then-is_none
returns-then-is_none g c =
    node-gone c.args.sid c.args.inode c.ranges.inode.fits (g.K.Keeper.seen c.args.k.now) (g.K.Keeper.seen c.read_node.new.k) c.requires
    c.in_ok-key.key c.new.result c.in_ok-key.ensures c.new.ensures c.in_ok-read_node.field-0 (c.is_none.ensures ∙ ap not c.if-is_none.true)
    c.in_ok-read_node.ensures
