use Rattle.std.proofs.Common.{refl}
use Rattle.jv_links.proofs.losses.LossLaws.{loss-no_fate, loss-not_taken, loss-linked-exit, loss-trashed-exit, loss-sustained-exit, loss-dropped-exit, loss-linked-made, loss-trashed-made, loss-sustained-made, loss-dropped-made}
use Rattle.jv_links.proofs.fates.remove_entry.Goals as goal
use Rattle.jv_links.proofs.fates.remove_entry.Goals.{in-Linked+in_ok-change_status-in-Linked, in-Trashed+in_ok-trash-in-Trashed, in-Sustained+in_ok-keep-in-Sustained, in-Dropped+in_ok-drop_node-in-Dropped}

pub returns-in_err-fate-clause-does : goal.returns-in_err-fate-clause-does
returns-in_err-fate-clause-does g c caller is_for =
    loss-no_fate c.args.who.now caller is_for (record { dir = c.args.dir; name = c.args.name.now }) c.args.inode
    c.args.draft.now (g.K.Keeper.seen c.args.k.now) (g.K.Keeper.seen c.fate_of.new.k)
    c.from_residual.result c.in_err-fate.field-0.0 c.from_residual.ensures.1
    (c.in_err-fate.ensures.does caller (record { dir = c.args.dir; name = c.args.name.now }) refl is_for)

pub returns-in_err-take_entry-clause-does : goal.returns-in_err-take_entry-clause-does
returns-in_err-take_entry-clause-does g c caller is_for =
    loss-not_taken c.args.who.now caller is_for (record { dir = c.args.dir; name = c.args.name.now }) c.args.inode
    c.args.draft.now (g.K.Keeper.seen c.args.k.now) (g.K.Keeper.seen c.fate_of.new.k)
    c.in_ok-fate.fate (c.in_ok-fate.ensures.does caller (record { dir = c.args.dir; name = c.args.name.now }) refl
    is_for) (c.in_ok-fate.ensures.says caller (record { dir = c.args.dir; name = c.args.name.now }) refl is_for)
    c.take_entry.new.draft (g.K.Keeper.seen c.take_entry.new.k)
    c.from_residual-in_err-take_entry.result c.in_err-take_entry.field-0.0 c.from_residual-in_err-take_entry.ensures.1
    c.in_err-take_entry.ensures

pub returns-in_err-change_status-in-Linked-clause-does : goal.returns-in_err-change_status-in-Linked-clause-does
returns-in_err-change_status-in-Linked-clause-does g c caller is_for =
    loss-linked-exit c.args.who.now caller is_for (record { dir = c.args.dir; name = c.args.name.now }) c.args.inode
    c.args.draft.now (g.K.Keeper.seen c.args.k.now) (g.K.Keeper.seen c.fate_of.new.k)
    c.in_ok-fate.fate (c.in_ok-fate.ensures.does caller (record { dir = c.args.dir; name = c.args.name.now }) refl
    is_for) (c.in_ok-fate.ensures.says caller (record { dir = c.args.dir; name = c.args.name.now }) refl is_for)
    c.take_entry.new.draft (g.K.Keeper.seen c.take_entry.new.k)
    c.in_ok-take_entry.ensures c.change_status.new.draft (g.K.Keeper.seen c.change_status.new.k) c.in-Linked.is
    c.from_residual-in_err-change_status-in-Linked.result c.in_err-change_status-in-Linked.field-0.0
    c.from_residual-in_err-change_status-in-Linked.ensures.1 (c.in_err-change_status-in-Linked.ensures)

pub returns-in_err-trash-in-Trashed-clause-does : goal.returns-in_err-trash-in-Trashed-clause-does
returns-in_err-trash-in-Trashed-clause-does g c caller is_for =
    loss-trashed-exit c.args.who.now caller is_for (record { dir = c.args.dir; name = c.args.name.now }) c.args.inode
    c.args.draft.now (g.K.Keeper.seen c.args.k.now) (g.K.Keeper.seen c.fate_of.new.k)
    c.in_ok-fate.fate (c.in_ok-fate.ensures.does caller (record { dir = c.args.dir; name = c.args.name.now }) refl
    is_for) (c.in_ok-fate.ensures.says caller (record { dir = c.args.dir; name = c.args.name.now }) refl is_for)
    c.take_entry.new.draft (g.K.Keeper.seen c.take_entry.new.k)
    c.in_ok-take_entry.ensures c.trash.new.draft (g.K.Keeper.seen c.trash.new.k) c.in-Trashed.is
    c.from_residual-in_err-trash-in-Trashed.result c.in_err-trash-in-Trashed.field-0.0
    c.from_residual-in_err-trash-in-Trashed.ensures.1 (c.in_err-trash-in-Trashed.ensures)

pub returns-in_err-keep-in-Sustained-clause-does : goal.returns-in_err-keep-in-Sustained-clause-does
returns-in_err-keep-in-Sustained-clause-does g c caller is_for =
    loss-sustained-exit c.args.who.now caller is_for (record { dir = c.args.dir; name = c.args.name.now }) c.args.inode
    c.args.draft.now (g.K.Keeper.seen c.args.k.now) (g.K.Keeper.seen c.fate_of.new.k)
    c.in_ok-fate.fate (c.in_ok-fate.ensures.does caller (record { dir = c.args.dir; name = c.args.name.now }) refl
    is_for) (c.in_ok-fate.ensures.says caller (record { dir = c.args.dir; name = c.args.name.now }) refl is_for)
    c.take_entry.new.draft (g.K.Keeper.seen c.take_entry.new.k)
    c.in_ok-take_entry.ensures c.keep.new.draft (g.K.Keeper.seen c.keep.new.k) c.in-Sustained.is
    c.from_residual-in_err-keep-in-Sustained.result c.in_err-keep-in-Sustained.field-0.0
    c.from_residual-in_err-keep-in-Sustained.ensures.1 (c.in_err-keep-in-Sustained.ensures caller is_for)

pub returns-in_err-drop_node-in-Dropped-clause-does : goal.returns-in_err-drop_node-in-Dropped-clause-does
returns-in_err-drop_node-in-Dropped-clause-does g c caller is_for =
    loss-dropped-exit c.args.who.now caller is_for (record { dir = c.args.dir; name = c.args.name.now }) c.args.inode
    c.args.draft.now (g.K.Keeper.seen c.args.k.now) (g.K.Keeper.seen c.fate_of.new.k)
    c.in_ok-fate.fate (c.in_ok-fate.ensures.does caller (record { dir = c.args.dir; name = c.args.name.now }) refl
    is_for) (c.in_ok-fate.ensures.says caller (record { dir = c.args.dir; name = c.args.name.now }) refl is_for)
    c.take_entry.new.draft (g.K.Keeper.seen c.take_entry.new.k)
    c.in_ok-take_entry.ensures c.drop_node.new.draft (g.K.Keeper.seen c.drop_node.new.k) c.in-Dropped.is
    c.from_residual-in_err-drop_node-in-Dropped.result c.in_err-drop_node-in-Dropped.field-0.0
    c.from_residual-in_err-drop_node-in-Dropped.ensures.1 (c.in_err-drop_node-in-Dropped.ensures)

pub returns-clause-does : goal.returns-clause-does
returns-clause-does g c caller is_for = elim c.match-fate.branch [
  | in-Linked+in_ok-change_status-in-Linked w ↦
      rw (w.draft-is, w.k-is) (loss-linked-made c.args.who.now caller is_for
      (record { dir = c.args.dir; name = c.args.name.now }) c.args.inode c.args.draft.now (g.K.Keeper.seen c.args.k.now)
      (g.K.Keeper.seen c.fate_of.new.k)
      c.in_ok-fate.fate (c.in_ok-fate.ensures.does caller (record { dir = c.args.dir; name = c.args.name.now }) refl
      is_for) (c.in_ok-fate.ensures.says caller (record { dir = c.args.dir; name = c.args.name.now }) refl is_for)
      c.take_entry.new.draft (g.K.Keeper.seen c.take_entry.new.k) c.in_ok-take_entry.ensures w.change_status.new.draft
      (g.K.Keeper.seen w.change_status.new.k) w.in-Linked.is (w.in_ok-change_status-in-Linked.ensures))
  | in-Trashed+in_ok-trash-in-Trashed w ↦
      rw (w.draft-is, w.k-is) (loss-trashed-made c.args.who.now caller is_for
      (record { dir = c.args.dir; name = c.args.name.now }) c.args.inode c.args.draft.now (g.K.Keeper.seen c.args.k.now)
      (g.K.Keeper.seen c.fate_of.new.k)
      c.in_ok-fate.fate (c.in_ok-fate.ensures.does caller (record { dir = c.args.dir; name = c.args.name.now }) refl
      is_for) (c.in_ok-fate.ensures.says caller (record { dir = c.args.dir; name = c.args.name.now }) refl is_for)
      c.take_entry.new.draft (g.K.Keeper.seen c.take_entry.new.k) c.in_ok-take_entry.ensures w.trash.new.draft
      (g.K.Keeper.seen w.trash.new.k) w.in-Trashed.is (w.in_ok-trash-in-Trashed.ensures))
  | in-Sustained+in_ok-keep-in-Sustained w ↦
      rw (w.draft-is, w.k-is) (loss-sustained-made c.args.who.now caller is_for
      (record { dir = c.args.dir; name = c.args.name.now }) c.args.inode c.args.draft.now (g.K.Keeper.seen c.args.k.now)
      (g.K.Keeper.seen c.fate_of.new.k)
      c.in_ok-fate.fate (c.in_ok-fate.ensures.does caller (record { dir = c.args.dir; name = c.args.name.now }) refl
      is_for) (c.in_ok-fate.ensures.says caller (record { dir = c.args.dir; name = c.args.name.now }) refl is_for)
      c.take_entry.new.draft (g.K.Keeper.seen c.take_entry.new.k) c.in_ok-take_entry.ensures w.keep.new.draft
      (g.K.Keeper.seen w.keep.new.k) w.in-Sustained.is (w.in_ok-keep-in-Sustained.ensures caller is_for))
  | in-Dropped+in_ok-drop_node-in-Dropped w ↦
      rw (w.draft-is, w.k-is) (loss-dropped-made c.args.who.now caller is_for
      (record { dir = c.args.dir; name = c.args.name.now }) c.args.inode c.args.draft.now (g.K.Keeper.seen c.args.k.now)
      (g.K.Keeper.seen c.fate_of.new.k)
      c.in_ok-fate.fate (c.in_ok-fate.ensures.does caller (record { dir = c.args.dir; name = c.args.name.now }) refl
      is_for) (c.in_ok-fate.ensures.says caller (record { dir = c.args.dir; name = c.args.name.now }) refl is_for)
      c.take_entry.new.draft (g.K.Keeper.seen c.take_entry.new.k) c.in_ok-take_entry.ensures w.drop_node.new.draft
      (g.K.Keeper.seen w.drop_node.new.k) w.in-Dropped.is (w.in_ok-drop_node-in-Dropped.ensures))
]

pub returns-clause-says : goal.returns-clause-says
returns-clause-says g c caller is_for = c.in_ok-fate.ensures.says caller
    (record { dir = c.args.dir; name = c.args.name.now }) refl is_for
