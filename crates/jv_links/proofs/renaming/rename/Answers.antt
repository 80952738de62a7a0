use Rattle.std.proofs.lemmas.Result.{err_from_is_err_and}
use Rattle.jv_links.proofs.moves.RenameLaws.{rename-no_ends, rename-no_target, rename-free, rename-there}
use Rattle.jv_links.proofs.renaming.rename.Goals as goal

pub returns-in_err-ends-clause-does : goal.returns-in_err-ends-clause-does
returns-in_err-ends-clause-does g c caller asks =
    let p = err_from_is_err_and c.from_residual.result c.from_residual.ensures.1 in
    rw (p.1, p.2)
    (rename-no_ends caller c.args.path.now c.args.to.now c.args.how c.requires c.args.who.now.sid asks.sid
    (g.K.Keeper.seen c.args.k.now) (g.K.Keeper.seen c.find_ends.new.k)
    c.in_err-ends.field-0.0 c.in_err-ends.ensures)

pub returns-in_err-entry_at-clause-does : goal.returns-in_err-entry_at-clause-does
returns-in_err-entry_at-clause-does g c caller asks =
    let p = err_from_is_err_and c.from_residual-in_err-entry_at.result c.from_residual-in_err-entry_at.ensures.1 in
    rw (p.1, p.2)
    (rename-no_target caller c.args.path.now c.args.to.now c.args.how c.requires c.args.who.now.sid asks.sid
    (g.K.Keeper.seen c.args.k.now) (g.K.Keeper.seen c.find_ends.new.k)
    c.in_ok-ends.ends c.in_ok-ends.ensures (g.K.Keeper.seen c.entry_at.new.k) c.in_err-entry_at.field-0.0
    c.in_err-entry_at.ensures)

pub returns-in-None-clause-does : goal.returns-in-None-clause-does
returns-in-None-clause-does g c caller asks =
    let e = rw c.in-None.is at c.in_ok-entry_at.ensures in
    (rename-free caller c.args.path.now c.args.to.now c.args.how c.requires c.args.who.now.sid asks.sid
    (g.K.Keeper.seen c.args.k.now) (g.K.Keeper.seen c.find_ends.new.k)
    c.in_ok-ends.ends c.in_ok-ends.ensures (g.K.Keeper.seen c.entry_at.new.k) (g.K.Keeper.seen c.rename_to_none.new.k)
    c.rename_to_none.result e
    (c.rename_to_none.ensures caller asks)).does

pub returns-in-None-clause-says : goal.returns-in-None-clause-says
returns-in-None-clause-says g c caller asks =
    let e = rw c.in-None.is at c.in_ok-entry_at.ensures in
    (rename-free caller c.args.path.now c.args.to.now c.args.how c.requires c.args.who.now.sid asks.sid
    (g.K.Keeper.seen c.args.k.now) (g.K.Keeper.seen c.find_ends.new.k)
    c.in_ok-ends.ends c.in_ok-ends.ensures (g.K.Keeper.seen c.entry_at.new.k) (g.K.Keeper.seen c.rename_to_none.new.k)
    c.rename_to_none.result e
    (c.rename_to_none.ensures caller asks)).says

pub returns-clause-does : goal.returns-clause-does
returns-clause-does g c caller asks =
    let e = rw c.in-Some.is at c.in_ok-entry_at.ensures in
    (rename-there caller c.args.path.now c.args.to.now c.args.how c.requires c.args.who.now.sid asks.sid
    (g.K.Keeper.seen c.args.k.now) (g.K.Keeper.seen c.find_ends.new.k)
    c.in_ok-ends.ends c.in_ok-ends.ensures (g.K.Keeper.seen c.entry_at.new.k) (g.K.Keeper.seen c.rename_over.new.k)
    c.in-Some.other c.rename_over.result e
    (c.rename_over.ensures caller asks)).does

pub returns-clause-says : goal.returns-clause-says
returns-clause-says g c caller asks =
    let e = rw c.in-Some.is at c.in_ok-entry_at.ensures in
    (rename-there caller c.args.path.now c.args.to.now c.args.how c.requires c.args.who.now.sid asks.sid
    (g.K.Keeper.seen c.args.k.now) (g.K.Keeper.seen c.find_ends.new.k)
    c.in_ok-ends.ends c.in_ok-ends.ensures (g.K.Keeper.seen c.entry_at.new.k) (g.K.Keeper.seen c.rename_over.new.k)
    c.in-Some.other c.rename_over.result e
    (c.rename_over.ensures caller asks)).says

pub returns-in-None-clause-answers : goal.returns-in-None-clause-answers
returns-in-None-clause-answers g c caller asks =
    let e = rw c.in-None.is at c.in_ok-entry_at.ensures in
    (rename-free caller c.args.path.now c.args.to.now c.args.how c.requires c.args.who.now.sid asks.sid
    (g.K.Keeper.seen c.args.k.now) (g.K.Keeper.seen c.find_ends.new.k)
    c.in_ok-ends.ends c.in_ok-ends.ensures (g.K.Keeper.seen c.entry_at.new.k) (g.K.Keeper.seen c.rename_to_none.new.k)
    c.rename_to_none.result e
    (c.rename_to_none.ensures caller asks)).answers

pub returns-clause-answers : goal.returns-clause-answers
returns-clause-answers g c caller asks =
    let e = rw c.in-Some.is at c.in_ok-entry_at.ensures in
    (rename-there caller c.args.path.now c.args.to.now c.args.how c.requires c.args.who.now.sid asks.sid
    (g.K.Keeper.seen c.args.k.now) (g.K.Keeper.seen c.find_ends.new.k)
    c.in_ok-ends.ends c.in_ok-ends.ensures (g.K.Keeper.seen c.entry_at.new.k) (g.K.Keeper.seen c.rename_over.new.k)
    c.in-Some.other c.rename_over.result e
    (c.rename_over.ensures caller asks)).answers
