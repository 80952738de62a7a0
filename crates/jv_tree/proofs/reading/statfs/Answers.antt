use Rattle.std.proofs.Common.{Ok, Err, refl}
use Rattle.jv_model.specs.declared.row.Row.TheVariants.{OfSetting, OfCounters}
use Rattle.jv_model.specs.promise.rows.RowGrammar.{is_setting, is_counters}
use Rattle.jv_model.specs.promise.rows.RowPlaces.{setting_key, counters_key}
use Rattle.jv_rows.proofs.transactions.NeedingLaws.{needs-fresh}
use Rattle.jv_tree.proofs.ReadingLaws.{statfs-exit, statfs-no_setting, statfs-no_counters, statfs-answers}
use Rattle.jv_tree.proofs.reading.statfs.Goals as goal

pub returns-in_err-in_session : goal.returns-in_err-in_session
returns-in_err-in_session g c caller is_for =
    statfs-exit (g.K.Keeper.seen c.args.k.now) (g.K.Keeper.seen c.in_session.new.k) (g.K.Keeper.seen c.in_session.new.k)
    (g.K.Keeper.seen c.in_session.new.k) c.args.who.now caller is_for
    c.from_residual.result c.in_err-in_session.field-0.0 c.from_residual.ensures.1 c.in_err-in_session.ensures

pub returns-in_err-setting : goal.returns-in_err-setting
returns-in_err-setting g c caller is_for =
    statfs-no_setting (g.K.Keeper.seen c.args.k.now) (g.K.Keeper.seen c.in_session.new.k) (g.K.Keeper.seen c.needed_setting.new.k)
    (g.K.Keeper.seen c.needed_setting.new.k) c.args.who.now caller is_for c.in_ok-in_session.ensures
    c.from_residual-in_err-setting.result c.in_err-setting.field-0.0 c.from_residual-in_err-setting.ensures.1
    (needs-fresh OfSetting is_setting setting_key c.new-draft.result (g.K.Keeper.seen c.in_session.new.k) (g.K.Keeper.seen c.needed_setting.new.k)
    (Err c.in_err-setting.field-0.0) c.new-draft.ensures c.in_err-setting.ensures)

pub returns-in_err-counters : goal.returns-in_err-counters
returns-in_err-counters g c caller is_for =
    statfs-no_counters (g.K.Keeper.seen c.args.k.now) (g.K.Keeper.seen c.in_session.new.k) (g.K.Keeper.seen c.needed_setting.new.k)
    (g.K.Keeper.seen c.needed_counters.new.k) c.args.who.now caller is_for c.in_ok-in_session.ensures c.in_ok-setting.setting
    (needs-fresh OfSetting is_setting setting_key c.new-draft.result (g.K.Keeper.seen c.in_session.new.k) (g.K.Keeper.seen c.needed_setting.new.k)
    (Ok c.in_ok-setting.setting) c.new-draft.ensures c.in_ok-setting.ensures)
    c.from_residual-in_err-counters.result c.in_err-counters.field-0.0 c.from_residual-in_err-counters.ensures.1
    (needs-fresh OfCounters is_counters counters_key c.new-draft.result (g.K.Keeper.seen c.needed_setting.new.k) (g.K.Keeper.seen c.needed_counters.new.k)
    (Err c.in_err-counters.field-0.0) c.new-draft.ensures c.in_err-counters.ensures)

pub returns : goal.returns
returns g c caller is_for =
    statfs-answers (g.K.Keeper.seen c.args.k.now) (g.K.Keeper.seen c.in_session.new.k) (g.K.Keeper.seen c.needed_setting.new.k)
    (g.K.Keeper.seen c.needed_counters.new.k) c.args.who.now caller is_for c.in_ok-in_session.ensures c.in_ok-setting.setting
    (needs-fresh OfSetting is_setting setting_key c.new-draft.result (g.K.Keeper.seen c.in_session.new.k) (g.K.Keeper.seen c.needed_setting.new.k)
    (Ok c.in_ok-setting.setting) c.new-draft.ensures c.in_ok-setting.ensures)
    c.in_ok-counters.counters
    (needs-fresh OfCounters is_counters counters_key c.new-draft.result (g.K.Keeper.seen c.needed_setting.new.k) (g.K.Keeper.seen c.needed_counters.new.k)
    (Ok c.in_ok-counters.counters) c.new-draft.ensures c.in_ok-counters.ensures)
