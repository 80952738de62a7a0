use Rattle.std.proofs.Common.{◌++◌, ℕ, List, Option, Some, Ok, ap, subst, ◌∙◌}
use Rattle.std.proofs.lemmas.Result.{err_from_is_err_and}
use Rattle.jv_model.specs.declared.slice.Rec.{Rec}
use Rattle.jv_rows.specs.Lists.{FindsList}
use Rattle.jv_data.proofs.truncates.TruncateLaws.{dropping-none, dropping-unread, dropping-ends, dropping-fails, dropping-memory, dropping-more, fewer-left}
use Rattle.jv_data.proofs.truncating.drop_lists.Goals as goal

pub loop-gone-init : goal.loop-gone-init
loop-gone-init g c = dropping-none c.args.inode c.args.start (g.K.Keeper.seen c.args.k.now) c.args.draft.now c.new-gone.result.items c.new-gone.ensures.items

pub returns-in_err-window : goal.returns-in_err-window
returns-in_err-window g c =
    let p = err_from_is_err_and c.from_residual.result c.from_residual.ensures.1 in
    rw (p.1, p.2)
    (dropping-unread c.args.inode c.args.start c.loop-gone.last (g.K.Keeper.seen c.args.k.now) (g.K.Keeper.seen c.loop-gone.k) (g.K.Keeper.seen c.next_list.new.k)
    c.args.draft.now c.loop-gone.draft c.loop-gone.gone.items c.loop-gone.invariant c.in_err-window.field-0.0 c.in_err-window.ensures)

pub returns-in_err-check_slices : goal.returns-in_err-check_slices
returns-in_err-check_slices g c =
    let p = err_from_is_err_and c.from_residual-in_err-check_slices.result c.from_residual-in_err-check_slices.ensures.1 in
    rw (p.1, p.2)
    (dropping-fails c.args.inode c.args.start c.loop-gone.last (g.K.Keeper.seen c.args.k.now) (g.K.Keeper.seen c.loop-gone.k) (g.K.Keeper.seen c.next_list.new.k)
    c.args.draft.now c.loop-gone.draft c.loop-gone.gone.items c.loop-gone.invariant c.in-Some.window c.in-Some.list
    (subst (λ (o : Option (ℕ × List Rec)). FindsList c.args.inode c.loop-gone.last (g.K.Keeper.seen c.loop-gone.k) (g.K.Keeper.seen c.next_list.new.k) (Ok o)) c.in-Some.is c.in_ok-window.ensures)
    (g.K.Keeper.seen c.check_slices.new.k) c.loop-gone.draft c.in_err-check_slices.field-0.0 c.in_err-check_slices.ensures)

pub returns-in_err-drop_list : goal.returns-in_err-drop_list
returns-in_err-drop_list g c =
    let p = err_from_is_err_and c.from_residual-in_err-drop_list.result c.from_residual-in_err-drop_list.ensures.1 in
    rw (p.1, p.2)
    (dropping-memory c.args.inode c.args.start c.loop-gone.last (g.K.Keeper.seen c.args.k.now) (g.K.Keeper.seen c.loop-gone.k) (g.K.Keeper.seen c.next_list.new.k)
    c.args.draft.now c.loop-gone.draft c.loop-gone.gone.items c.loop-gone.invariant c.in-Some.window c.in-Some.list
    (subst (λ (o : Option (ℕ × List Rec)). FindsList c.args.inode c.loop-gone.last (g.K.Keeper.seen c.loop-gone.k) (g.K.Keeper.seen c.next_list.new.k) (Ok o)) c.in-Some.is c.in_ok-window.ensures)
    (g.K.Keeper.seen c.check_slices.new.k) c.in_ok-check_slices.ensures c.drop_list.new.self)

pub returns-in_err-extend_from_slice : goal.returns-in_err-extend_from_slice
returns-in_err-extend_from_slice g c =
    let p = err_from_is_err_and c.from_residual-in_err-extend_from_slice.result c.from_residual-in_err-extend_from_slice.ensures.1 in
    rw (p.1, p.2)
    (dropping-memory c.args.inode c.args.start c.loop-gone.last (g.K.Keeper.seen c.args.k.now) (g.K.Keeper.seen c.loop-gone.k) (g.K.Keeper.seen c.next_list.new.k)
    c.args.draft.now c.loop-gone.draft c.loop-gone.gone.items c.loop-gone.invariant c.in-Some.window c.in-Some.list
    (subst (λ (o : Option (ℕ × List Rec)). FindsList c.args.inode c.loop-gone.last (g.K.Keeper.seen c.loop-gone.k) (g.K.Keeper.seen c.next_list.new.k) (Ok o)) c.in-Some.is c.in_ok-window.ensures)
    (g.K.Keeper.seen c.check_slices.new.k) c.in_ok-check_slices.ensures c.drop_list.new.self)

pub loop-gone-smaller : goal.loop-gone-smaller
loop-gone-smaller g c =
    let f : FindsList c.args.inode c.loop-gone.last (g.K.Keeper.seen c.loop-gone.k) (g.K.Keeper.seen c.next_list.new.k) (Ok (Some (c.in-Some.window, c.in-Some.list))) =
    subst (λ (o : Option (ℕ × List Rec)). FindsList c.args.inode c.loop-gone.last (g.K.Keeper.seen c.loop-gone.k) (g.K.Keeper.seen c.next_list.new.k) (Ok o)) c.in-Some.is c.in_ok-window.ensures in
    fewer-left c.loop-gone.last c.in-Some.window f.past f.small

pub loop-gone-preserved : goal.loop-gone-preserved
loop-gone-preserved g c =
    dropping-more c.args.inode c.args.start c.loop-gone.last (g.K.Keeper.seen c.args.k.now) (g.K.Keeper.seen c.loop-gone.k) (g.K.Keeper.seen c.next_list.new.k)
    c.args.draft.now c.loop-gone.draft c.loop-gone.gone.items c.loop-gone.invariant c.in-Some.window c.in-Some.list
    (subst (λ (o : Option (ℕ × List Rec)). FindsList c.args.inode c.loop-gone.last (g.K.Keeper.seen c.loop-gone.k) (g.K.Keeper.seen c.next_list.new.k) (Ok o)) c.in-Some.is c.in_ok-window.ensures)
    (g.K.Keeper.seen c.check_slices.new.k) c.in_ok-check_slices.ensures c.drop_list.new.self c.extend_from_slice.new.self.items c.in_ok-drop_list.ensures.done
    (c.in_ok-extend_from_slice.ensures.items ∙ ap (λ (l : List Rec). c.loop-gone.gone.items ++ l) c.as_slice.ensures)

pub returns : goal.returns
returns g c =
    dropping-ends c.args.inode c.args.start c.loop-gone.last (g.K.Keeper.seen c.args.k.now) (g.K.Keeper.seen c.loop-gone.k) (g.K.Keeper.seen c.next_list.new.k)
    c.args.draft.now c.loop-gone.draft c.loop-gone.gone.items c.loop-gone.invariant
    (subst (λ (o : Option (ℕ × List Rec)). FindsList c.args.inode c.loop-gone.last (g.K.Keeper.seen c.loop-gone.k) (g.K.Keeper.seen c.next_list.new.k) (Ok o)) c.in_default.is c.in_ok-window.ensures)
    c.from_vec.result c.from_vec.ensures
