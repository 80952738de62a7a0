use Rattle.std.proofs.lemmas.Result.{err_from_is_err_and}
use Rattle.jv_data.proofs.files.ResizingLaws.{resize-no_setting, resize-no_counters, resize-no_room, resize-done}
use Rattle.jv_data.proofs.resizing.resize_counted.Goals as goal

pub returns-in_err-setting : goal.returns-in_err-setting
returns-in_err-setting g c =
    let p = err_from_is_err_and c.from_residual.result c.from_residual.ensures.1 in
    rw (p.1, p.2)
    (resize-no_setting c.args.inode c.args.was c.args.length c.args.now (g.K.Keeper.seen c.args.k.now) c.requires.there c.requires.file
    c.args.draft.now c.requires.new (g.K.Keeper.seen c.needed_setting.new.k) c.args.draft.now c.in_err-setting.field-0.0 c.in_err-setting.ensures)

pub returns-in_err-counters : goal.returns-in_err-counters
returns-in_err-counters g c =
    let p = err_from_is_err_and c.from_residual-in_err-counters.result c.from_residual-in_err-counters.ensures.1 in
    rw (p.1, p.2)
    (resize-no_counters c.args.inode c.args.was c.args.length c.args.now (g.K.Keeper.seen c.args.k.now) c.requires.there c.requires.file
    c.args.draft.now c.requires.new (g.K.Keeper.seen c.needed_setting.new.k) c.in_ok-setting.setting c.in_ok-setting.ensures
    (g.K.Keeper.seen c.needed_counters.new.k) c.args.draft.now c.in_err-counters.field-0.0 c.in_err-counters.ensures)

pub returns-in_default : goal.returns-in_default
returns-in_default g c =
    resize-no_room c.args.inode c.args.was c.args.length c.args.now (g.K.Keeper.seen c.args.k.now) c.requires.there c.requires.file
    c.args.draft.now c.requires.new (g.K.Keeper.seen c.needed_setting.new.k) c.in_ok-setting.setting c.in_ok-setting.ensures
    (g.K.Keeper.seen c.needed_counters.new.k) c.in_ok-counters.counters c.in_ok-counters.ensures c.args.draft.now c.in_default.ensures

pub returns : goal.returns
returns g c =
    resize-done c.args.inode c.args.was c.args.length c.args.now (g.K.Keeper.seen c.args.k.now) c.requires.there c.requires.file
    c.args.draft.now c.requires.new (g.K.Keeper.seen c.needed_setting.new.k) c.in_ok-setting.setting c.in_ok-setting.ensures
    (g.K.Keeper.seen c.needed_counters.new.k) c.in_ok-counters.counters c.in_ok-counters.ensures
    c.sized.result c.in-Some.after
    c.put_node.new.self c.put_counters.new.self c.sized.ensures c.in-Some.ensures c.in_ok-put_node.ensures.done c.in_ok-put_counters.ensures.done
