use Rattle.std.proofs.Common.{refl, subst}
use Rattle.std.proofs.lemmas.Result.{err_from_is_err_and}
use Rattle.jv_model.specs.promise.rows.RowGrammar.{list_of}
use Rattle.jv_rows.specs.Reads.{Misses}
use Rattle.jv_rows.proofs.counts.AppendingLaws.{longer-found, appends_to-done, appends_to-malformed, appends_to-memory}
use Rattle.jv_rows.proofs.drafts.Draft.put_behind.Goals as goal

pub returns-in_err-put_longer-in-Ok : goal.returns-in_err-put_longer-in-Ok
returns-in_err-put_longer-in-Ok c =
    let p = err_from_is_err_and c.from_residual.result c.from_residual.ensures.1 in
    rw (p.1, p.2) (appends_to-memory c.args.key c.args.bytes c.args.rec.now c.args.self.now c.put_longer.new.self c.in_err-put_longer-in-Ok.ensures.err)

pub returns-in_ok-put_longer-in-Ok : goal.returns-in_ok-put_longer-in-Ok
returns-in_ok-put_longer-in-Ok c =
    appends_to-done c.args.key c.requires.tab c.args.rec.now c.has_record_widths.ensures c.requires.record c.args.self.now c.args.bytes c.put_longer.new.self
    c.are_bytes.ensures c.in-Ok.ensures c.in_ok-put_longer-in-Ok.ensures.ok

pub put_longer-requires : goal.put_longer-requires
put_longer-requires c = longer-found c.args.bytes c.args.rec.now c.are_bytes.ensures c.in-Ok.ensures c.has_record_widths.ensures c.requires.record

pub returns-in_err-copied-in-Err-Malformed : goal.returns-in_err-copied-in-Err-Malformed
returns-in_err-copied-in-Err-Malformed c =
    let p = err_from_is_err_and c.from_residual-in_err-copied-in-Err-Malformed.result c.from_residual-in_err-copied-in-Err-Malformed.ensures.1 in
    rw (p.1, p.2) (appends_to-memory c.args.key c.args.bytes c.args.rec.now c.args.self.now c.args.self.now refl)

pub returns-in_ok-copied-in-Err-Malformed : goal.returns-in_ok-copied-in-Err-Malformed
returns-in_ok-copied-in-Err-Malformed c =
    rw (c.in_ok-copied-in-Err-Malformed.ensures)
    (appends_to-malformed c.args.key c.args.bytes c.args.rec.now c.args.self.now
    (subst (λ e. Misses e (list_of c.args.bytes)) c.in-Err-Malformed.field-0-is c.in-Err-Malformed.ensures))

pub returns-in-Err-Memory : goal.returns-in-Err-Memory
returns-in-Err-Memory c = appends_to-memory c.args.key c.args.bytes c.args.rec.now c.args.self.now c.args.self.now refl
