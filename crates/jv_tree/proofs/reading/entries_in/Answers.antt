use Rattle.std.proofs.Common.{ℕ, ◌<◌, ◌^◌, sym, ap, subst, ◌∙◌, arith}
use Rattle.jv_model.proofs.TestLaws.{none_unless}
use Rattle.jv_tree.specs.Directories.{last_of}
use Rattle.jv_tree.proofs.PageLaws.{read-start, read-more, fewer-left, IsEnd, Other, NoMore}
use Rattle.jv_tree.proofs.EntryReadLaws.{page-unread, pages-read}
use Rattle.jv_tree.proofs.reading.entries_in.Goals as goal
use Rattle.jv_tree.proofs.reading.entries_in.Goals.{in_default-via-in-Some+else-all, in_default-via-in_default}

pub loop-last-init : goal.loop-last-init
loop-last-init g c = read-start c.args.dir c.new.result c.new-entries.result (g.K.Keeper.seen c.args.k.now) c.new.ensures c.new-entries.ensures

pub returns-in_err-page : goal.returns-in_err-page
returns-in_err-page g c =
    page-unread c.args.dir 128 (g.K.Keeper.seen c.args.k.now) (g.K.Keeper.seen c.loop-last.k)
    (g.K.Keeper.seen c.scan_rows.new.k) c.loop-last.last c.loop-last.entries c.loop-last.invariant
    c.from_residual.result c.in_err-page.field-0.0 c.from_residual.ensures.1 c.in_err-page.ensures

pub loop-last-smaller : goal.loop-last-smaller
loop-last-smaller g c =
    fewer-left (2 ^ 63) c.args.dir c.in_ok-page.page c.in-Some.key c.loop-last.entries c.take_entries.new.entries
    (ap last_of (sym c.as_slice.ensures) ∙ sym c.in_ok-next.ensures ∙ c.in-Some.is) (sym c.in_ok-all.ensures.1 ∙ c.if-all.true) c.in_ok-all.ensures.0
    (subst (λ (n : ℕ). n < 2 ^ 63) c.len-count.ensures.length c.len-count.ensures.small)

pub loop-last-preserved : goal.loop-last-preserved
loop-last-preserved g c =
    read-more c.args.dir 128 (g.K.Keeper.seen c.args.k.now) (g.K.Keeper.seen c.loop-last.k)
    (g.K.Keeper.seen c.scan_rows.new.k) c.loop-last.last c.loop-last.entries c.take_entries.new.entries c.in_ok-page.page c.loop-last.invariant
    c.in_ok-page.ensures c.in_ok-all.ensures.0
    c.in-Some.key (ap last_of (sym c.as_slice.ensures) ∙ sym c.in_ok-next.ensures ∙ c.in-Some.is) (sym c.in_ok-all.ensures.1 ∙ c.if-all.true)

pub returns-in_default : goal.returns-in_default
returns-in_default g c =
    pages-read c.args.dir 128 (g.K.Keeper.seen c.args.k.now) (g.K.Keeper.seen c.loop-last.k)
    (g.K.Keeper.seen c.scan_rows.new.k) c.loop-last.last c.loop-last.entries c.loop-last.invariant c.in_ok-page.page c.take_entries.new.entries
    c.in_ok-page.ensures c.in_ok-all.ensures.0 (omega arith)
    (elim c.in_default.branch [
      | in_default-via-in-Some+else-all w ↦ Other (sym c.in_ok-all.ensures.1 ∙ w.if-all.false)
      | in_default-via-in_default w ↦ NoMore (none_unless (last_of c.in_ok-page.page) (λ key is. w.in_default.not-Some key (c.in_ok-next.ensures ∙ ap last_of c.as_slice.ensures ∙ is)))
    ])
