use Rattle.std.proofs.Common.{ℕ, ◌+◌, ◌%◌, ◌++◌, List, Some, Ok, sym, ap, subst, ◌∙◌, arith}
use Rattle.std.specs.Prelude.{IsTrue}
use Rattle.std.proofs.lemmas.Result.{err_from_is_err_and}
use Rattle.jv_model.specs.declared.limits.TheConstants.{WINDOW}
use Rattle.jv_model.specs.declared.row.Row.TheVariants.{OfList}
use Rattle.jv_model.specs.declared.slice.Rec.{Rec}
use Rattle.jv_model.specs.FiniteMap.{alter}
use Rattle.jv_model.specs.promise.rows.RowGrammar.{is_list}
use Rattle.jv_model.specs.promise.rows.RowPlaces.{list_key}
use Rattle.jv_rows.specs.Drafts.{cell, drafted}
use Rattle.jv_data.specs.Copying.{ShowsRange, window_at}
use Rattle.jv_data.proofs.copies.CopyingLaws.{is_list-append, part-unread, part-added}
use Rattle.jv_data.proofs.lists.PartsLaws.{part-some}
use Rattle.jv_data.proofs.copying.copy_part.Goals as goal

pub returns-in_err-records : goal.returns-in_err-records
returns-in_err-records g c =
    let p = err_from_is_err_and c.from_residual-in_err-records.result c.from_residual-in_err-records.ensures.1 in
    rw (p.1, p.2)
    (part-unread c.args.course c.args.done (g.K.Keeper.seen c.args.k.now) c.args.draft.now (g.K.Keeper.seen c.shown.new.k) c.in_ok-new.new
    (subst (λ (n : ℕ). ShowsRange c.args.course.source (c.args.course.from + c.args.done) ((c.args.course.to + c.args.done) % WINDOW) n (g.K.Keeper.seen c.args.k.now)
    (g.K.Keeper.seen c.shown.new.k) (Ok c.in_ok-new.new)) c.part_len-len.ensures c.in_ok-new.ensures)
    (g.K.Keeper.seen c.records.new.k) c.in_err-records.field-0.0 c.in_err-records.ensures)

pub put_list-requires : goal.put_list-requires
put_list-requires g c =
    let some = part-some c.args.course c.args.done c.requires.more in
    let long = c.part_len-len.ensures in
    subst (λ (l : List Rec). IsTrue (is_list l))
    (sym (c.from_vec.ensures ∙ c.in_ok-extend_from_slice.ensures.items ∙ (λ i. c.into_vec-list.ensures i ++ c.as_slice.ensures i)))
    (is_list-append c.in_ok-records.field-0 c.in_ok-new.new c.in_ok-records.ensures.records c.in_ok-new.ensures.records
    (c.in_ok-new.ensures.some (omega (arith, some, long))))

pub returns : goal.returns
returns g c =
    part-added c.args.course c.args.done (g.K.Keeper.seen c.args.k.now) c.args.draft.now (g.K.Keeper.seen c.shown.new.k) c.in_ok-new.new
    (subst (λ (n : ℕ). ShowsRange c.args.course.source (c.args.course.from + c.args.done) ((c.args.course.to + c.args.done) % WINDOW) n (g.K.Keeper.seen c.args.k.now)
    (g.K.Keeper.seen c.shown.new.k) (Ok c.in_ok-new.new)) c.part_len-len.ensures c.in_ok-new.ensures)
    (g.K.Keeper.seen c.records.new.k) c.in_ok-records.field-0 c.in_ok-records.ensures c.put_list-2.new.self
    (λ known. c.in_ok-put_list.ensures.done known
    ∙ ap (λ (l : List Rec). alter (drafted c.args.draft.now known) (list_key c.args.course.target (window_at c.args.course c.args.done)) (cell OfList (Some l)))
    (c.from_vec.ensures ∙ c.in_ok-extend_from_slice.ensures.items ∙ (λ i. c.into_vec-list.ensures i ++ c.as_slice.ensures i)))
