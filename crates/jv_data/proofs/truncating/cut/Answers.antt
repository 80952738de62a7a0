use Rattle.std.proofs.Common.{List, Ok, sym, subst, ◌∙◌}
use Rattle.jv_model.specs.declared.slice.Rec.{Rec}
use Rattle.jv_data.specs.Truncating.{DropsLists}
use Rattle.jv_data.proofs.truncates.TruncateLaws.{cut-ends}
use Rattle.jv_data.proofs.truncating.cut.Goals as goal

pub returns : goal.returns
returns g c =
    cut-ends c.args.inode c.args.len c.args.now c.in_ok-due.due c.last_before.result (g.K.Keeper.seen c.args.k.now) (g.K.Keeper.seen c.due_after.new.k)
    (g.K.Keeper.seen c.end_list.new.k) (g.K.Keeper.seen c.drop_lists.new.k) (g.K.Keeper.seen c.adjust.new.k) c.args.draft.now c.end_list.new.draft
    c.drop_lists.new.draft c.adjust.new.draft c.as_slice.result.now c.as_slice-2.result.now c.requires.leave c.last_before.ensures c.in_ok-due.ensures c.in_ok-end_list.ensures
    (subst (λ (l : List Rec). DropsLists c.args.inode c.last_before.result (g.K.Keeper.seen c.end_list.new.k) (g.K.Keeper.seen c.drop_lists.new.k) c.end_list.new.draft
    c.drop_lists.new.draft (Ok l)) (sym c.as_slice.ensures) c.in_ok-gone.ensures)
    (c.as_slice-2.ensures ∙ c.new-none.ensures) c.adjust.result c.adjust.ensures
