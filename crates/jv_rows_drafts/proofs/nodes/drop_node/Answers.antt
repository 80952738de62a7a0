use Rattle.std.proofs.Common.{Some, sym, subst, ◌∙◌}
use Rattle.std.proofs.lemmas.Result.{err_from_is_err_and}
use Rattle.jv_model.specs.declared.row.Counters.{Counters}
use Rattle.jv_model.specs.promise.rows.RowPlaces.{counters_key}
use Rattle.jv_volume.proofs.stored.StoredLaws.{of_counters}
use Rattle.jv_rows_drafts.proofs.DraftedLaws.{Drafted, was_drafted}
use Rattle.jv_rows_drafts.proofs.GoingLaws.{drop-absent, drop-unread, drop-made}
use Rattle.jv_rows_drafts.proofs.nodes.drop_node.Goals as goal

pub returns-in_err-node : goal.returns-in_err-node
returns-in_err-node g c =
    let p = err_from_is_err_and c.from_residual.result c.from_residual.ensures.1 in
    rw (p.1, p.2)
    (drop-absent (g.K.Keeper.seen c.args.k.now) (g.K.Keeper.seen c.present.new.k) c.args.draft.now c.args.inode
    c.in_err-node.field-0.0 c.in_err-node.ensures)

pub returns-in_err-counters : goal.returns-in_err-counters
returns-in_err-counters g c =
    let p = err_from_is_err_and c.from_residual-in_err-counters.result c.from_residual-in_err-counters.ensures.1 in
    rw (p.1, p.2)
    (drop-unread (g.K.Keeper.seen c.args.k.now) (g.K.Keeper.seen c.present.new.k) c.args.draft.now c.args.inode
    c.in_ok-node.node c.in_ok-node.ensures
    (g.K.Keeper.seen c.needed_counters.new.k) c.in_err-counters.field-0.0 c.in_err-counters.ensures)

pub returns : goal.returns
returns g c =
    drop-made (g.K.Keeper.seen c.args.k.now) (g.K.Keeper.seen c.present.new.k) c.args.draft.now c.args.inode
    c.in_ok-node.node c.in_ok-node.ensures
    (sym c.is_top.ensures ∙ c.if-is_top.false)
    (g.K.Keeper.seen c.needed_counters.new.k) c.drop_node.new.self c.leave_lists.new.draft c.put_counters.new.self
    c.in_ok-counters.counters c.in_ok-counters.ensures
    (was_drafted _ _ _ _ c.drop_node.result c.in_ok-drop_node.was c.drop_node.ensures) c.in_ok-leave_lists.ensures
    (subst (λ (x : Counters). Drafted counters_key (Some (of_counters x)) c.leave_lists.new.draft
    c.put_counters.new.self) c.without.ensures
    (was_drafted _ _ _ _ c.put_counters.result c.in_ok-put_counters.was c.put_counters.ensures))
