use Rattle.std.proofs.Common.{sym, ap, subst, ◌∙◌}
use Rattle.std.specs.Prelude.{IsTrue}
use Rattle.std.proofs.lemmas.Result.{err_from_is_err_and}
use Rattle.jv_model.specs.declared.row.Node.{Node}
use Rattle.jv_model.specs.promise.rows.RowGrammar.{is_node}
use Rattle.jv_tree.proofs.EnterLaws.{was_drafted, enter-no_setting, enter-no_counters, enter-no_room, enter-no_link, enter-commits}
use Rattle.jv_tree.proofs.making.enter.Goals as goal

pub returns-in_err-setting : goal.returns-in_err-setting
returns-in_err-setting g c kind reply new is =
    let p = err_from_is_err_and c.from_residual.result c.from_residual.ensures.1 in
    rw (p.1, p.2)
    (enter-no_setting (g.K.Keeper.seen c.args.k.now) c.new-draft.result c.new-draft.ensures c.args.now c.args.node.now.mode c.args.place.now kind reply
    (g.K.Keeper.seen c.needed_setting.new.k) c.in_err-setting.field-0.0 c.in_err-setting.ensures)

pub returns-in_err-counters : goal.returns-in_err-counters
returns-in_err-counters g c kind reply new is =
    let p = err_from_is_err_and c.from_residual-in_err-counters.result c.from_residual-in_err-counters.ensures.1 in
    rw (p.1, p.2)
    (enter-no_counters (g.K.Keeper.seen c.args.k.now) c.new-draft.result c.new-draft.ensures c.args.now c.args.node.now.mode c.args.place.now kind reply
    (g.K.Keeper.seen c.needed_setting.new.k) c.in_ok-setting.setting c.in_ok-setting.ensures
    (g.K.Keeper.seen c.needed_counters.new.k) c.in_err-counters.field-0.0 c.in_err-counters.ensures)

pub returns-in_err-after : goal.returns-in_err-after
returns-in_err-after g c kind reply new is =
    let p = err_from_is_err_and c.from_residual-in_err-after.result c.from_residual-in_err-after.ensures.1 in
    let allowed = subst (λ (row : Node). IsTrue (is_node row)) is c.requires.node in
    rw (p.1, p.2, c.in_err-after.ensures.1)
    (enter-no_room (g.K.Keeper.seen c.args.k.now) c.new-draft.result c.new-draft.ensures c.args.now c.args.node.now.mode c.args.place.now kind reply
    (g.K.Keeper.seen c.needed_setting.new.k) c.in_ok-setting.setting c.in_ok-setting.ensures
    (g.K.Keeper.seen c.needed_counters.new.k) c.in_ok-counters.counters c.in_ok-counters.ensures new allowed c.requires.stands c.in_err-after.ensures.0)

pub returns-in_err-with_entry : goal.returns-in_err-with_entry
returns-in_err-with_entry g c kind reply new is =
    let p = err_from_is_err_and c.from_residual-in_err-with_entry.result c.from_residual-in_err-with_entry.ensures.1 in
    let allowed = subst (λ (row : Node). IsTrue (is_node row)) is c.requires.node in
    rw (p.1, p.2, c.in_err-with_entry.ensures.2)
    (enter-no_link (g.K.Keeper.seen c.args.k.now) c.new-draft.result c.new-draft.ensures c.args.now c.args.node.now.mode c.args.place.now kind reply
    (g.K.Keeper.seen c.needed_setting.new.k) c.in_ok-setting.setting c.in_ok-setting.ensures
    (g.K.Keeper.seen c.needed_counters.new.k) c.in_ok-counters.counters c.in_ok-counters.ensures new allowed c.requires.stands c.in_ok-after.ensures.0
    (ap (λ (row : Node). row.kind) (sym is) ∙ c.in_err-with_entry.ensures.0) c.in_err-with_entry.ensures.1)

pub returns-in-Ok : goal.returns-in-Ok
returns-in-Ok g c kind reply new is =
    let allowed = subst (λ (row : Node). IsTrue (is_node row)) is c.requires.node in
    enter-commits (g.K.Keeper.seen c.args.k.now) c.new-draft.result c.new-draft.ensures c.args.now c.args.node.now.mode c.args.place.now kind reply
    (g.K.Keeper.seen c.needed_setting.new.k) c.in_ok-setting.setting c.in_ok-setting.ensures
    (g.K.Keeper.seen c.needed_counters.new.k) c.in_ok-counters.counters c.in_ok-counters.ensures new allowed c.requires.stands c.in_ok-after.ensures.0
    c.args.node.now c.with_entry.new.parent c.in_ok-after.after c.put_node.new.self c.put_edge.new.self c.put_node-2.new.self c.put_counters.new.self is
    c.in_ok-with_entry.ensures.0 c.in_ok-after.ensures.1
    (was_drafted _ _ _ _ c.put_node.result c.in_ok-put_node.was c.put_node.ensures)
    (was_drafted _ _ _ _ c.put_edge.result c.in_ok-put_edge.was c.put_edge.ensures)
    (was_drafted _ _ _ _ c.put_node-2.result c.in_ok-put_node-2.was c.put_node-2.ensures)
    (was_drafted _ _ _ _ c.put_counters.result c.in_ok-put_counters.was c.put_counters.ensures)
    (g.K.Keeper.seen c.commit.new.k) c.in_ok-with_entry.ensures.1 c.in-Ok.ensures
