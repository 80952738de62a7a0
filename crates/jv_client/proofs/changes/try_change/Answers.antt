-- A truncate or a copy of the files of the operation's handles runs.
use Rattle.std.proofs.Common.{sym, ap, subst, ◌∙◌}
use Rattle.jv_model.specs.tree.Trash.{due_after}
use Rattle.jv_client_handles.specs.Handles.{inode_here}
use Rattle.jv_client.specs.Changing.{TriesChange, copied_to, cut_to}
use Rattle.jv_client.proofs.changes.try_change.Goals as goal
use Rattle.jv_model.specs.Optional.{mapped}

pub returns-in-Truncate : goal.returns-in-Truncate
returns-in-Truncate g c =
    let a = c.args in
    let before = g.K.Keeper.seen a.k.now in
    let after = g.K.Keeper.seen c.truncate-made.new.k in
    let inode = c.inode_at-inode.ensures in
    subst (λ o. TriesChange a.handles.now o a.who.now before after c.cut.result) (sym c.in-Truncate.is) (record {
      made = c.truncate-made.result;
      result_is = c.cut.ensures ∙ ap (λ i. mapped (λ unit. cut_to i c.in-Truncate.len) c.truncate-made.result) inode;
      changes = λ caller for own. c.truncate-made.ensures.changes caller for (own ∙ sym inode);
    })

pub returns-in-Copy : goal.returns-in-Copy
returns-in-Copy g c =
    let a = c.args in
    let i = c.in-Copy in
    let before = g.K.Keeper.seen a.k.now in
    let after = g.K.Keeper.seen c.copy_range-made.new.k in
    let source = c.inode_at-source.ensures in
    let target = c.inode_at-target.ensures in
    subst (λ o. TriesChange a.handles.now o a.who.now before after c.copied.result) (sym i.is) (record {
      made = c.copy_range-made.result;
      result_is = c.copied.ensures
          ∙ ap (λ inode. mapped (copied_to inode i.from c.inode_at-target.result i.to) c.copy_range-made.result) source
          ∙ ap (λ inode. mapped (copied_to (inode_here a.handles.now i.source) i.from inode i.to) c.copy_range-made.result) target;
      changes = λ caller for own other. c.copy_range-made.ensures.changes caller (due_after a.who.now.now) for (own ∙ sym source) (other ∙ sym target);
    })
