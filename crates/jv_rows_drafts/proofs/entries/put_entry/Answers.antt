use Rattle.std.proofs.Common.{◌+◌, Some, Ok}
use Rattle.std.proofs.lemmas.Result.{err_from_is_err_and}
use Rattle.jv_model.specs.declared.row.Edge.{Edge}
use Rattle.jv_model.specs.declared.row.Row.TheVariants.{OfEdge}
use Rattle.jv_model.specs.promise.rows.RowPlaces.{edge_key}
use Rattle.jv_model.specs.promise.tree.Tree.{EntryKey}
use Rattle.jv_rows_drafts.specs.Present.{links_to_node, linked_row}
use Rattle.jv_rows_drafts.specs.Ready.{entry_put}
use Rattle.jv_rows_drafts.proofs.DraftedLaws.{was_drafted}
use Rattle.jv_rows_drafts.proofs.EntryChangeLaws.{put-no_dir, put-full_dir, put-full_node, put-made}
use Rattle.jv_rows_drafts.proofs.PresentLaws.{put_drafted}
use Rattle.jv_rows_drafts.proofs.entries.put_entry.Goals as goal
use Rattle.jv_volume.specs.Stored.{links_by, directory_touched}

pub returns-in_err-parent : goal.returns-in_err-parent
returns-in_err-parent g c =
    let at : EntryKey = record { dir = c.args.dir; name = c.args.name.now } in
    let p = err_from_is_err_and c.from_residual-in_err-parent.result c.from_residual-in_err-parent.ensures.1 in
    rw (p.1, p.2)
    (put-no_dir c.args.draft.now (g.K.Keeper.seen c.args.k.now) (g.K.Keeper.seen c.present.new.k)
    (g.K.Keeper.seen c.present-2.new.k) at c.args.inode
    c.in_ok-node.node c.in_ok-node.ensures c.in_err-parent.field-0.0 c.in_err-parent.ensures
    (entry_put c.args.now at c.args.inode))

pub returns-in_err-parent-2 : goal.returns-in_err-parent-2
returns-in_err-parent-2 g c =
    let at : EntryKey = record { dir = c.args.dir; name = c.args.name.now } in
    let p = err_from_is_err_and c.from_residual-in_err-parent-2.result c.from_residual-in_err-parent-2.ensures.1 in
    rw (p.1, p.2, c.in_err-parent-2.ensures.0)
    (put-full_dir c.args.draft.now (g.K.Keeper.seen c.args.k.now) (g.K.Keeper.seen c.present.new.k)
    (g.K.Keeper.seen c.present-2.new.k)
    c.args.now at c.args.inode
    c.in_ok-node.node c.in_ok-parent.parent c.in_ok-node.ensures c.in_ok-parent.ensures c.args.draft.now
    c.in_err-parent-2.ensures.1)

pub returns-in_err-node-2 : goal.returns-in_err-node-2
returns-in_err-node-2 g c =
    let at : EntryKey = record { dir = c.args.dir; name = c.args.name.now } in
    let p = err_from_is_err_and c.from_residual-in_err-node-2.result c.from_residual-in_err-node-2.ensures.1 in
    rw (p.1, p.2, c.in_err-node-2.ensures.0)
    (put-full_node c.args.draft.now (g.K.Keeper.seen c.args.k.now) (g.K.Keeper.seen c.present.new.k)
    (g.K.Keeper.seen c.present-2.new.k)
    c.args.now at c.args.inode
    c.in_ok-node.node c.in_ok-parent.parent c.in_ok-node.ensures c.in_ok-parent.ensures c.args.draft.now
    c.in_err-node-2.ensures.1)

pub returns : goal.returns
returns g c =
    let at : EntryKey = record { dir = c.args.dir; name = c.args.name.now } in
    let edge : Edge = record { kind = c.in_ok-node.node.kind; inode = c.args.inode } in
    let one = c.put_edge.new.self in
    let two = c.put_node.new.self in
    let three = c.put_node-2.new.self in
    put-made c.args.draft.now (g.K.Keeper.seen c.args.k.now) (g.K.Keeper.seen c.present.new.k)
    (g.K.Keeper.seen c.present-2.new.k) c.args.now at c.args.inode
    c.in_ok-node.node c.in_ok-parent.parent c.in_ok-node.ensures c.in_ok-parent.ensures one two three
    c.in_ok-parent-2.ensures.1 c.in_ok-node-2.ensures.1
    (was_drafted (edge_key c.args.dir c.args.name.now) (Some (Ok (OfEdge edge))) c.args.draft.now one c.put_edge.result
    c.in_ok-put_edge.was c.put_edge.ensures)
    (put_drafted c.args.dir c.in_ok-parent-2.parent
    (directory_touched c.args.now (c.in_ok-parent.parent.nlink + links_by c.in_ok-node.node.kind)
    c.in_ok-parent.parent)
    c.in_ok-parent-2.ensures.0 one two c.put_node.result c.in_ok-put_node.was c.put_node.ensures)
    (put_drafted c.args.inode c.in_ok-node-2.node
    (linked_row (c.in_ok-node.node.nlink + links_to_node c.in_ok-node.node.kind) c.in_ok-node.node)
    c.in_ok-node-2.ensures.0 two three c.put_node-2.result c.in_ok-put_node-2.was c.put_node-2.ensures)
