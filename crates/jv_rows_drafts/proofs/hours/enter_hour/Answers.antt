use Rattle.std.proofs.Common.{◌/◌, ◌∙◌, ap, sym}
use Rattle.std.proofs.lemmas.Result.{err_from_is_err_and}
use Rattle.jv_model.specs.declared.lifetimes.TheConstants.{HOUR}
use Rattle.jv_model.specs.promise.tree.HourNames.{hour_at}
use Rattle.jv_model.specs.promise.tree.Trash.{hour_inode}
use Rattle.jv_rows_drafts.proofs.DraftedLaws.{was_drafted}
use Rattle.jv_rows_drafts.proofs.HourStepLaws.{hour_low, enter_hour-there, enter_hour-lacking, enter_hour-fails, enter_hour-comes}
use Rattle.jv_rows_drafts.proofs.hours.enter_hour.Goals as goal

pub returns-then-is_some-clause-step : goal.returns-then-is_some-clause-step
returns-then-is_some-clause-step g c =
    let low = hour_low c.args.now c.seconds.result c.seconds.ensures.seconds c.seconds.ensures.limit in
    enter_hour-there (g.K.Keeper.seen c.args.k.now) (g.K.Keeper.seen c.node.new.k) c.args.draft.now c.args.now
    (hour_at c.args.now) low c.in_ok-node.field-0
    c.hour_inode-inode.result (c.hour_inode-inode.ensures ∙ ap (λ n. hour_inode (n / HOUR)) c.seconds.ensures.seconds)
    c.in_ok-node.ensures
    (sym c.is_some.ensures ∙ c.if-is_some.true)

pub returns-in_err-needed_node-clause-step : goal.returns-in_err-needed_node-clause-step
returns-in_err-needed_node-clause-step g c =
    let low = hour_low c.args.now c.seconds.result c.seconds.ensures.seconds c.seconds.ensures.limit in
    let p = err_from_is_err_and c.from_residual-in_err-needed_node.result
    c.from_residual-in_err-needed_node.ensures.1 in
    rw (p.1, p.2)
    (enter_hour-lacking (g.K.Keeper.seen c.args.k.now) (g.K.Keeper.seen c.node.new.k) c.args.draft.now c.args.now
    (hour_at c.args.now) low c.in_ok-node.field-0
    c.hour_inode-inode.result (c.hour_inode-inode.ensures ∙ ap (λ n. hour_inode (n / HOUR)) c.seconds.ensures.seconds)
    c.in_ok-node.ensures (g.K.Keeper.seen c.needed_node.new.k) c.in_err-needed_node.field-0.0
    c.in_err-needed_node.ensures)

pub returns-in_err-put_entry-clause-step : goal.returns-in_err-put_entry-clause-step
returns-in_err-put_entry-clause-step g c =
    let low = hour_low c.args.now c.seconds.result c.seconds.ensures.seconds c.seconds.ensures.limit in
    let p = err_from_is_err_and c.from_residual-in_err-put_entry.result c.from_residual-in_err-put_entry.ensures.1 in
    rw (p.1, p.2)
    (enter_hour-fails (g.K.Keeper.seen c.args.k.now) (g.K.Keeper.seen c.node.new.k) c.args.draft.now c.args.now
    (hour_at c.args.now) low c.in_ok-node.field-0
    c.hour_inode-inode.result (c.hour_inode-inode.ensures ∙ ap (λ n. hour_inode (n / HOUR)) c.seconds.ensures.seconds)
    c.in_ok-node.ensures
    (sym c.is_some.ensures ∙ c.if-is_some.false) (g.K.Keeper.seen c.needed_node.new.k) c.in_ok-needed_node.field-0
    c.in_ok-needed_node.ensures c.put_node.new.self c.new_directory-hour.result c.new_directory-hour.ensures
    (was_drafted _ _ _ _ c.put_node.result c.in_ok-put_node.was c.put_node.ensures) c.in_ok-name.name
    (c.in_ok-name.ensures ∙ c.as_slice.ensures
    ∙ c.hour_name.ensures) (g.K.Keeper.seen c.put_entry.new.k) c.put_entry.new.draft c.in_err-put_entry.field-0.0
    c.in_err-put_entry.ensures)

pub returns-clause-step : goal.returns-clause-step
returns-clause-step g c =
    let low = hour_low c.args.now c.seconds.result c.seconds.ensures.seconds c.seconds.ensures.limit in
    enter_hour-comes (g.K.Keeper.seen c.args.k.now) (g.K.Keeper.seen c.node.new.k) c.args.draft.now c.args.now
    (hour_at c.args.now) low c.in_ok-node.field-0
    c.hour_inode-inode.result (c.hour_inode-inode.ensures ∙ ap (λ n. hour_inode (n / HOUR)) c.seconds.ensures.seconds)
    c.in_ok-node.ensures
    (sym c.is_some.ensures ∙ c.if-is_some.false) (g.K.Keeper.seen c.needed_node.new.k) c.in_ok-needed_node.field-0
    c.in_ok-needed_node.ensures c.put_node.new.self c.new_directory-hour.result c.new_directory-hour.ensures
    (was_drafted _ _ _ _ c.put_node.result c.in_ok-put_node.was c.put_node.ensures) c.in_ok-name.name
    (c.in_ok-name.ensures ∙ c.as_slice.ensures
    ∙ c.hour_name.ensures) (g.K.Keeper.seen c.put_entry.new.k) c.put_entry.new.draft c.in_ok-put_entry.ensures
