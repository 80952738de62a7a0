use Rattle.std.proofs.Common.{◌≡◌}
use Rattle.jv_model.specs.promise.tree.Renaming.{moved_node}
use Rattle.jv_volume.proofs.stored.NodeRowLaws.{moved_row}
use Rattle.jv_rows_drafts.proofs.NodeChangeLaws.{change-made, is_row-moved}
use Rattle.jv_rows_drafts.proofs.PresentLaws.{put_drafted}
use Rattle.jv_rows_drafts.proofs.nodes.move_under.Goals as goal

pub returns : goal.returns
returns g c =
    let row = c.in_ok-node.node in
    let new = record row { ctime = c.seconds.result; parent = c.parent_under.result } in
    let as_moved : new ≡ moved_row c.args.now c.args.dir row =
    (λ i. record row { ctime = c.seconds.ensures.seconds i; parent = c.parent_under.ensures i }) in
    change-made c.args.inode c.args.draft.now c.put_node.new.self (g.K.Keeper.seen c.args.k.now)
    (g.K.Keeper.seen c.present.new.k)
    (moved_node c.args.now c.args.dir) row (moved_row c.args.now c.args.dir row) c.in_ok-node.ensures
    (is_row-moved c.args.now c.args.dir row)
    (put_drafted c.args.inode new (moved_row c.args.now c.args.dir row) as_moved c.args.draft.now c.put_node.new.self
    c.put_node.result c.in_ok-put_node.was c.put_node.ensures)
