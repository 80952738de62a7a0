use Rattle.std.proofs.Common.{◌-◌, None, Ok}
use Rattle.std.proofs.lemmas.Result.{err_from_is_err_and}
use Rattle.jv_model.specs.promise.rows.RowPlaces.{edge_key}
use Rattle.jv_model.specs.promise.tree.Changes as model
use Rattle.jv_model.specs.promise.tree.Tree.{EntryKey}
use Rattle.jv_rows_drafts.specs.Present.{links_to_node, linked_row}
use Rattle.jv_rows_drafts.proofs.DraftedLaws.{was_drafted}
use Rattle.jv_rows_drafts.proofs.EntryChangeLaws.{take-no_dir, take-made}
use Rattle.jv_rows_drafts.proofs.PresentLaws.{put_drafted}
use Rattle.jv_rows_drafts.proofs.entries.take_entry.Goals as goal
use Rattle.jv_volume.specs.Stored.{links_by, directory_touched}

pub returns-in_err-parent : goal.returns-in_err-parent
returns-in_err-parent g c =
    let at : EntryKey = record { dir = c.args.dir; name = c.args.name.now } in
    let p = err_from_is_err_and c.from_residual-in_err-parent.result c.from_residual-in_err-parent.ensures.1 in
    rw (p.1, p.2)
    (take-no_dir c.args.draft.now (g.K.Keeper.seen c.args.k.now) (g.K.Keeper.seen c.present.new.k)
    (g.K.Keeper.seen c.present-2.new.k) at c.args.inode
    c.in_ok-node.node c.in_ok-node.ensures c.in_err-parent.field-0.0 c.in_err-parent.ensures
    (λ t. Ok (model.take_entry t c.args.now at)))

pub returns : goal.returns
returns g c =
    let at : EntryKey = record { dir = c.args.dir; name = c.args.name.now } in
    let one = c.drop_edge.new.self in
    let two = c.put_node.new.self in
    let three = c.put_node-2.new.self in
    take-made c.args.draft.now (g.K.Keeper.seen c.args.k.now) (g.K.Keeper.seen c.present.new.k)
    (g.K.Keeper.seen c.present-2.new.k) c.args.now at c.args.inode
    c.in_ok-node.node c.in_ok-parent.parent c.in_ok-node.ensures c.in_ok-parent.ensures one two three
    (was_drafted (edge_key c.args.dir c.args.name.now) None c.args.draft.now one c.drop_edge.result
    c.in_ok-drop_edge.was c.drop_edge.ensures)
    (put_drafted c.args.dir c.without_entry-parent.result
    (directory_touched c.args.now (c.in_ok-parent.parent.nlink - links_by c.in_ok-node.node.kind)
    c.in_ok-parent.parent)
    c.without_entry-parent.ensures one two c.put_node.result c.in_ok-put_node.was c.put_node.ensures)
    (put_drafted c.args.inode c.unlinked-node.result
    (linked_row (c.in_ok-node.node.nlink - links_to_node c.in_ok-node.node.kind) c.in_ok-node.node)
    c.unlinked-node.ensures two three c.put_node-2.result c.in_ok-put_node-2.was c.put_node-2.ensures)
