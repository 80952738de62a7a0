use Rattle.std.proofs.Common.{[], Ok, Err, refl}
use Rattle.std.specs.Option.{unwrap_or}
use Rattle.std.proofs.lemmas.Result.{err_from_is_err_and}
use Rattle.jv_data.proofs.commits.RecordCommitLaws.{at_end, record-unbegun, record-unread, record-read, record-memory, record-down, record-done, record-lists, record-rest}
use Rattle.jv_data.proofs.committing.commit.Goals as goal

pub returns-in_err-begin_commit-clause-commits : goal.returns-in_err-begin_commit-clause-commits
returns-in_err-begin_commit-clause-commits g c bytes due =
    let p = err_from_is_err_and c.from_residual.result c.from_residual.ensures.1 in
    rw (p.1, p.2)
    (record-unbegun c.args.who.now.sid c.args.who.now.now c.args.inode c.args.window c.args.rec c.args.started
    (g.K.Keeper.seen c.args.k.now) (g.K.Keeper.seen c.begin_commit.new.k) c.begin_commit.new.draft c.in_err-begin_commit.field-0.0
    (at_end c.args.who.now.sid c.args.who.now.now c.args.inode c.args.window c.args.rec c.args.started
    (g.K.Keeper.seen c.args.k.now) (g.K.Keeper.seen c.begin_commit.new.k) c.begin_commit.new.draft (Err c.in_err-begin_commit.field-0.0)
    c.from.result c.from-2.result c.from-3.result c.from.ensures c.from-2.ensures c.from-3.ensures c.in_err-begin_commit.ensures) bytes due)

pub returns-in_err-append_record-clause-commits : goal.returns-in_err-append_record-clause-commits
returns-in_err-append_record-clause-commits g c bytes due =
    let p = err_from_is_err_and c.from_residual-in_err-append_record.result c.from_residual-in_err-append_record.ensures.1 in
    rw (p.1, p.2)
    (record-unread c.args.who.now.sid c.args.who.now.now c.args.inode c.args.window c.args.rec c.args.started
    (g.K.Keeper.seen c.args.k.now) (g.K.Keeper.seen c.begin_commit.new.k) c.begin_commit.new.draft
    (at_end c.args.who.now.sid c.args.who.now.now c.args.inode c.args.window c.args.rec c.args.started
    (g.K.Keeper.seen c.args.k.now) (g.K.Keeper.seen c.begin_commit.new.k) c.begin_commit.new.draft (Ok tt)
    c.from.result c.from-2.result c.from-3.result c.from.ensures c.from-2.ensures c.from-3.ensures c.in_ok-begin_commit.ensures)
    c.ranges.window.fits c.append_record.new.self (g.K.Keeper.seen c.append_record.new.k) c.in_err-append_record.field-0.0 c.in_err-append_record.ensures bytes due)

pub returns-in_err-put_slice-clause-commits : goal.returns-in_err-put_slice-clause-commits
returns-in_err-put_slice-clause-commits g c bytes due =
    let p = err_from_is_err_and c.from_residual-in_err-put_slice.result c.from_residual-in_err-put_slice.ensures.1 in
    rw (p.1, p.2)
    (record-memory c.args.who.now.sid c.args.who.now.now c.args.inode c.args.window c.args.rec c.args.started
    (g.K.Keeper.seen c.args.k.now) (g.K.Keeper.seen c.begin_commit.new.k) c.begin_commit.new.draft
    (at_end c.args.who.now.sid c.args.who.now.now c.args.inode c.args.window c.args.rec c.args.started
    (g.K.Keeper.seen c.args.k.now) (g.K.Keeper.seen c.begin_commit.new.k) c.begin_commit.new.draft (Ok tt)
    c.from.result c.from-2.result c.from-3.result c.from.ensures c.from-2.ensures c.from-3.ensures c.in_ok-begin_commit.ensures)
    (g.K.Keeper.seen c.append_record.new.k) (unwrap_or c.in_ok-append_record.ensures.found [])
    (record-read c.args.who.now.sid c.args.who.now.now c.args.inode c.args.window c.args.rec c.args.started
    (g.K.Keeper.seen c.args.k.now) (g.K.Keeper.seen c.begin_commit.new.k) c.begin_commit.new.draft
    (at_end c.args.who.now.sid c.args.who.now.now c.args.inode c.args.window c.args.rec c.args.started
    (g.K.Keeper.seen c.args.k.now) (g.K.Keeper.seen c.begin_commit.new.k) c.begin_commit.new.draft (Ok tt)
    c.from.result c.from-2.result c.from-3.result c.from.ensures c.from-2.ensures c.from-3.ensures c.in_ok-begin_commit.ensures)
    c.ranges.window.fits c.append_record.new.self (g.K.Keeper.seen c.append_record.new.k) c.in_ok-append_record.ensures) bytes due)

pub returns-in-Ok-clause-commits : goal.returns-in-Ok-clause-commits
returns-in-Ok-clause-commits g c bytes due =
    record-done c.args.who.now.sid c.args.who.now.now c.args.inode c.args.window c.args.rec c.args.started
    c.ranges.window.fits c.requires.part c.requires.named c.requires.size c.requires.within (g.K.Keeper.seen c.args.k.now) (g.K.Keeper.seen c.begin_commit.new.k) (g.K.Keeper.seen c.append_record.new.k) c.begin_commit.new.draft
    (at_end c.args.who.now.sid c.args.who.now.now c.args.inode c.args.window c.args.rec c.args.started
    (g.K.Keeper.seen c.args.k.now) (g.K.Keeper.seen c.begin_commit.new.k) c.begin_commit.new.draft (Ok tt)
    c.from.result c.from-2.result c.from-3.result c.from.ensures c.from-2.ensures c.from-3.ensures c.in_ok-begin_commit.ensures)
    (unwrap_or c.in_ok-append_record.ensures.found [])
    (record-read c.args.who.now.sid c.args.who.now.now c.args.inode c.args.window c.args.rec c.args.started
    (g.K.Keeper.seen c.args.k.now) (g.K.Keeper.seen c.begin_commit.new.k) c.begin_commit.new.draft
    (at_end c.args.who.now.sid c.args.who.now.now c.args.inode c.args.window c.args.rec c.args.started
    (g.K.Keeper.seen c.args.k.now) (g.K.Keeper.seen c.begin_commit.new.k) c.begin_commit.new.draft (Ok tt)
    c.from.result c.from-2.result c.from-3.result c.from.ensures c.from-2.ensures c.from-3.ensures c.in_ok-begin_commit.ensures)
    c.ranges.window.fits c.append_record.new.self (g.K.Keeper.seen c.append_record.new.k) c.in_ok-append_record.ensures)
    (record { size = c.args.rec.size; count = 1 }) c.append_record.new.self c.put_slice.new.self
    refl c.in_ok-append_record.ensures.drafts.done c.in_ok-put_slice.ensures.done (g.K.Keeper.seen c.commit.new.k) c.in-Ok.ensures bytes due

pub returns-in-Ok-clause-lists : goal.returns-in-Ok-clause-lists
returns-in-Ok-clause-lists g c =
    record-lists c.args.who.now.sid c.args.who.now.now c.args.inode c.args.window c.args.rec c.args.started
    c.ranges.window.fits c.requires.part c.requires.named c.requires.size c.requires.within (g.K.Keeper.seen c.args.k.now) (g.K.Keeper.seen c.begin_commit.new.k) (g.K.Keeper.seen c.append_record.new.k) c.begin_commit.new.draft
    (at_end c.args.who.now.sid c.args.who.now.now c.args.inode c.args.window c.args.rec c.args.started
    (g.K.Keeper.seen c.args.k.now) (g.K.Keeper.seen c.begin_commit.new.k) c.begin_commit.new.draft (Ok tt)
    c.from.result c.from-2.result c.from-3.result c.from.ensures c.from-2.ensures c.from-3.ensures c.in_ok-begin_commit.ensures)
    (unwrap_or c.in_ok-append_record.ensures.found [])
    (record-read c.args.who.now.sid c.args.who.now.now c.args.inode c.args.window c.args.rec c.args.started
    (g.K.Keeper.seen c.args.k.now) (g.K.Keeper.seen c.begin_commit.new.k) c.begin_commit.new.draft
    (at_end c.args.who.now.sid c.args.who.now.now c.args.inode c.args.window c.args.rec c.args.started
    (g.K.Keeper.seen c.args.k.now) (g.K.Keeper.seen c.begin_commit.new.k) c.begin_commit.new.draft (Ok tt)
    c.from.result c.from-2.result c.from-3.result c.from.ensures c.from-2.ensures c.from-3.ensures c.in_ok-begin_commit.ensures)
    c.ranges.window.fits c.append_record.new.self (g.K.Keeper.seen c.append_record.new.k) c.in_ok-append_record.ensures)
    (record { size = c.args.rec.size; count = 1 }) c.append_record.new.self c.put_slice.new.self
    refl c.in_ok-append_record.ensures.drafts.done c.in_ok-put_slice.ensures.done (g.K.Keeper.seen c.commit.new.k) c.in-Ok.ensures

pub returns-in-Ok-clause-rest : goal.returns-in-Ok-clause-rest
returns-in-Ok-clause-rest g c =
    record-rest c.args.who.now.sid c.args.who.now.now c.args.inode c.args.window c.args.rec c.args.started
    c.ranges.window.fits c.requires.part c.requires.named c.requires.size c.requires.within (g.K.Keeper.seen c.args.k.now) (g.K.Keeper.seen c.begin_commit.new.k) (g.K.Keeper.seen c.append_record.new.k) c.begin_commit.new.draft
    (at_end c.args.who.now.sid c.args.who.now.now c.args.inode c.args.window c.args.rec c.args.started
    (g.K.Keeper.seen c.args.k.now) (g.K.Keeper.seen c.begin_commit.new.k) c.begin_commit.new.draft (Ok tt)
    c.from.result c.from-2.result c.from-3.result c.from.ensures c.from-2.ensures c.from-3.ensures c.in_ok-begin_commit.ensures)
    (unwrap_or c.in_ok-append_record.ensures.found [])
    (record-read c.args.who.now.sid c.args.who.now.now c.args.inode c.args.window c.args.rec c.args.started
    (g.K.Keeper.seen c.args.k.now) (g.K.Keeper.seen c.begin_commit.new.k) c.begin_commit.new.draft
    (at_end c.args.who.now.sid c.args.who.now.now c.args.inode c.args.window c.args.rec c.args.started
    (g.K.Keeper.seen c.args.k.now) (g.K.Keeper.seen c.begin_commit.new.k) c.begin_commit.new.draft (Ok tt)
    c.from.result c.from-2.result c.from-3.result c.from.ensures c.from-2.ensures c.from-3.ensures c.in_ok-begin_commit.ensures)
    c.ranges.window.fits c.append_record.new.self (g.K.Keeper.seen c.append_record.new.k) c.in_ok-append_record.ensures)
    (record { size = c.args.rec.size; count = 1 }) c.append_record.new.self c.put_slice.new.self
    refl c.in_ok-append_record.ensures.drafts.done c.in_ok-put_slice.ensures.done (g.K.Keeper.seen c.commit.new.k) c.in-Ok.ensures

pub returns-clause-commits : goal.returns-clause-commits
returns-clause-commits g c bytes due =
    rw c.from-in-Err.ensures
    (record-down c.args.who.now.sid c.args.who.now.now c.args.inode c.args.window c.args.rec c.args.started
    (g.K.Keeper.seen c.args.k.now) (g.K.Keeper.seen c.begin_commit.new.k) c.begin_commit.new.draft
    (at_end c.args.who.now.sid c.args.who.now.now c.args.inode c.args.window c.args.rec c.args.started
    (g.K.Keeper.seen c.args.k.now) (g.K.Keeper.seen c.begin_commit.new.k) c.begin_commit.new.draft (Ok tt)
    c.from.result c.from-2.result c.from-3.result c.from.ensures c.from-2.ensures c.from-3.ensures c.in_ok-begin_commit.ensures)
    (g.K.Keeper.seen c.append_record.new.k) (g.K.Keeper.seen c.commit.new.k) (unwrap_or c.in_ok-append_record.ensures.found []) c.in-Err.down c.put_slice.new.self
    (record-read c.args.who.now.sid c.args.who.now.now c.args.inode c.args.window c.args.rec c.args.started
    (g.K.Keeper.seen c.args.k.now) (g.K.Keeper.seen c.begin_commit.new.k) c.begin_commit.new.draft
    (at_end c.args.who.now.sid c.args.who.now.now c.args.inode c.args.window c.args.rec c.args.started
    (g.K.Keeper.seen c.args.k.now) (g.K.Keeper.seen c.begin_commit.new.k) c.begin_commit.new.draft (Ok tt)
    c.from.result c.from-2.result c.from-3.result c.from.ensures c.from-2.ensures c.from-3.ensures c.in_ok-begin_commit.ensures)
    c.ranges.window.fits c.append_record.new.self (g.K.Keeper.seen c.append_record.new.k) c.in_ok-append_record.ensures) c.in-Err.ensures bytes due)
