use Rattle.std.proofs.Common.{◌+◌, refl, arith, leb-true}
use Rattle.std.specs.Prelude.{◌&&◌, nat_le}
use Rattle.std.proofs.lemmas.Bool.{and_parts}
use Rattle.std.proofs.lemmas.Result.{err_from_is_err_and}
use Rattle.jv_data.proofs.files.NumberLaws.{number-uncounted, number-full, number-done}
use Rattle.jv_data.proofs.numbering.next_id.Goals as goal

pub returns-in_err-counters-clause-taken : goal.returns-in_err-counters-clause-taken
returns-in_err-counters-clause-taken g c =
    let p = err_from_is_err_and c.from_residual-in_err-counters.result c.from_residual-in_err-counters.ensures.1 in
    rw (p.1, p.2)
    (number-uncounted c.args.who.now.sid (g.K.Keeper.seen c.args.k.now) (g.K.Keeper.seen c.in_session.new.k) c.in_ok-in_session.ensures
    c.new-draft.result c.new-draft.ensures (g.K.Keeper.seen c.needed_counters.new.k) c.in_err-counters.field-0.0 c.in_err-counters.ensures)

pub returns-then-id-ge-FULL_COUNT-clause-taken : goal.returns-then-id-ge-FULL_COUNT-clause-taken
returns-then-id-ge-FULL_COUNT-clause-taken g c =
    number-full c.args.who.now.sid (g.K.Keeper.seen c.args.k.now) (g.K.Keeper.seen c.in_session.new.k) c.in_ok-in_session.ensures
    c.new-draft.result c.new-draft.ensures (g.K.Keeper.seen c.needed_counters.new.k) c.in_ok-counters.counters c.in_ok-counters.ensures
    c.if-id-ge-FULL_COUNT.true

pub returns-in-Ok-clause-taken : goal.returns-in-Ok-clause-taken
returns-in-Ok-clause-taken g c =
    number-done c.args.who.now.sid (g.K.Keeper.seen c.args.k.now) (g.K.Keeper.seen c.in_session.new.k) c.in_ok-in_session.ensures
    c.new-draft.result c.new-draft.ensures (g.K.Keeper.seen c.needed_counters.new.k) c.in_ok-counters.counters c.in_ok-counters.ensures
    (g.K.Keeper.seen c.commit.new.k) c.put_counters.new.self (record c.in_ok-counters.counters { slice = c.in_ok-counters.counters.slice + 1 }) refl
    (let low = c.if-id-ge-FULL_COUNT.false in omega (arith, low)) c.in_ok-put_counters.ensures.done c.in-Ok.ensures

-- Counters that are read have a positive number for the next slice, by their grammar.
pub returns-in-Ok-clause-positive : goal.returns-in-Ok-clause-positive
returns-in-Ok-clause-positive g c =
    let n = c.in_ok-counters.counters in
    leb-true 1 n.slice (and_parts (nat_le 1 n.inode) (nat_le 1 n.slice)
    (and_parts (nat_le 1 n.inode && nat_le 1 n.slice) (nat_le 1 n.session) c.in_ok-counters.ensures.allowed).0).1
