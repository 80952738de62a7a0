use Rattle.std.proofs.Common.{ℕ, List, ap, ◌<◌, ◌≤◌, length, subst}
use Rattle.jv_model.specs.declared.tables.TheConstants.{TABLE_OF_EDGES}
use Rattle.jv_model.specs.declared.row.Row.{Row}
use Rattle.jv_model.specs.declared.row.RowKey.{RowKey}
use Rattle.jv_links.proofs.entries.EmptinessLaws.{emptiness-unread, emptiness-none, emptiness-first}
use Rattle.jv_links.proofs.emptiness.has_entries.Goals as goal

pub returns-in_err-page : goal.returns-in_err-page
returns-in_err-page g c =
    emptiness-unread c.args.dir (g.K.Keeper.seen c.args.k.now) (g.K.Keeper.seen c.scan_rows.new.k)
    (record { tab = TABLE_OF_EDGES; a = c.args.dir; b = c.new.result })
    c.from_residual.result c.in_err-page.field-0.0 c.from_residual.ensures.1 c.in_err-page.ensures

pub returns-in-empty : goal.returns-in-empty
returns-in-empty g c =
    emptiness-none c.args.dir (g.K.Keeper.seen c.args.k.now) (g.K.Keeper.seen c.scan_rows.new.k)
    (record { tab = TABLE_OF_EDGES; a = c.args.dir; b = c.new.result })
    c.in_ok-page.page (ap (λ (b : List ℕ). (let key : RowKey = record { tab = TABLE_OF_EDGES; a = c.args.dir; b = b } in key))
    c.new.ensures) c.in_ok-page.ensures
    (subst (λ (l : List (RowKey × Row)). length l < 1) c.as_slice.ensures c.in-empty.len_below)

pub returns : goal.returns
returns g c =
    rw c.as_slice.ensures
    (emptiness-first c.args.dir (g.K.Keeper.seen c.args.k.now) (g.K.Keeper.seen c.scan_rows.new.k)
    (record { tab = TABLE_OF_EDGES; a = c.args.dir; b = c.new.result })
    c.in_ok-page.page (ap (λ (b : List ℕ). (let key : RowKey = record { tab = TABLE_OF_EDGES; a = c.args.dir; b = b } in key))
    c.new.ensures) c.in_ok-page.ensures
    c.index-key-0.result (subst (λ (l : List (RowKey × Row)). 1 ≤ length l) c.as_slice.ensures
    c.in-len1-up.len_at_least))
