use Rattle.std.proofs.Common.{ℕ, refl, subst}
use Rattle.jv_model.specs.promise.tree.Changes.{status_changed}
use Rattle.jv_rows_drafts.proofs.NodeChangeLaws.{IsRowChanged, change-made, is_row-status_changed}
use Rattle.jv_rows_drafts.proofs.PresentLaws.{put_drafted}
use Rattle.jv_rows_drafts.proofs.nodes.change_status.Goals as goal

pub returns : goal.returns
returns g c =
    let row = c.in_ok-node.node in
    let new = record row { ctime = c.seconds.result } in
    change-made c.args.inode c.args.draft.now c.put_node.new.self (g.K.Keeper.seen c.args.k.now)
    (g.K.Keeper.seen c.present.new.k)
    (status_changed c.args.now) row new c.in_ok-node.ensures
    (subst (λ (now : ℕ). IsRowChanged (status_changed now) row new) c.seconds.ensures.seconds
    (is_row-status_changed c.seconds.result row))
    (put_drafted c.args.inode new new refl c.args.draft.now c.put_node.new.self c.put_node.result c.in_ok-put_node.was
    c.put_node.ensures)
