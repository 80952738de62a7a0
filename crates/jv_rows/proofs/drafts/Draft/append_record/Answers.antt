use Rattle.std.proofs.Common.{◌≡◌, ℕ, List, [], ◌∷◌, ◌++◌, Option, None, Ok, Err, IsSome, ap, subst, sym}
use Rattle.std.proofs.lemmas.Result.{err_from_is_err_and}
use Rattle.jv_model.specs.declared.row.RowKey.{RowKey}
use Rattle.jv_model.specs.promise.rows.RowGrammar.{record_bytes, list_of}
use Rattle.jv_model.specs.promise.rows.RowPlaces.{list_key}
use Rattle.jv_outside.specs.declared.batch.Change.TheVariants.{Put}
use Rattle.jv_rows.specs.Appending.{FindsLeft, AppendsTo}
use Rattle.jv_rows.proofs.counts.AppendingLaws.{longer-first, appends-found, appends-first, appends-memory, appends-none, appends-down}
use Rattle.jv_rows.proofs.drafts.Draft.append_record.Goals as goal

pub returns-in_err-key : goal.returns-in_err-key
returns-in_err-key g c =
    let p = err_from_is_err_and c.from_residual.result c.from_residual.ensures.1 in
    rw (p.1, p.2) (appends-none c.args.inode c.args.window c.args.rec.now c.args.self.now (g.K.Keeper.seen c.args.k.now))

pub returns-in_err-bytes : goal.returns-in_err-bytes
returns-in_err-bytes g c =
    let p = err_from_is_err_and c.from_residual-in_err-bytes.result c.from_residual-in_err-bytes.ensures.1 in
    rw (p.1, p.2)
    (appends-down c.args.inode c.args.window c.args.rec.now c.args.self.now (g.K.Keeper.seen c.args.k.now) (g.K.Keeper.seen c.bytes_at.new.k) c.in_err-bytes.field-0.0
    (subst (λ (key : RowKey). FindsLeft c.args.self.now key (g.K.Keeper.seen c.args.k.now) (g.K.Keeper.seen c.bytes_at.new.k) (Err c.in_err-bytes.field-0.0)) c.in_ok-key.ensures c.in_err-bytes.ensures))

pub put_behind-requires-clause-tab : goal.put_behind-requires-clause-tab
put_behind-requires-clause-tab g c = ap (λ (key : RowKey). key.tab) c.in_ok-key.ensures

pub returns-in-Some : goal.returns-in-Some
returns-in-Some g c =
    appends-found c.args.inode c.args.window c.args.rec.now c.args.self.now (g.K.Keeper.seen c.args.k.now) (g.K.Keeper.seen c.bytes_at.new.k) c.in-Some.bytes c.put_behind.new.self c.put_behind.result
    (subst (λ (found : Option (List ℕ)). FindsLeft c.args.self.now (list_key c.args.inode c.args.window) (g.K.Keeper.seen c.args.k.now) (g.K.Keeper.seen c.bytes_at.new.k) (Ok found)) c.in-Some.is
    (subst (λ (key : RowKey). FindsLeft c.args.self.now key (g.K.Keeper.seen c.args.k.now) (g.K.Keeper.seen c.bytes_at.new.k) (Ok c.in_ok-bytes.field-0)) c.in_ok-key.ensures c.in_ok-bytes.ensures))
    (subst (λ (key : RowKey). AppendsTo key c.in-Some.bytes c.args.rec.now c.args.self.now c.put_behind.new.self c.put_behind.result) c.in_ok-key.ensures c.put_behind.ensures)

pub returns-in_err-put_longer-in-None : goal.returns-in_err-put_longer-in-None
returns-in_err-put_longer-in-None g c =
    let p = err_from_is_err_and c.from_residual-in_err-put_longer-in-None.result c.from_residual-in_err-put_longer-in-None.ensures.1 in
    rw (p.1, p.2)
    (appends-memory c.args.inode c.args.window c.args.rec.now c.args.self.now (g.K.Keeper.seen c.args.k.now) (g.K.Keeper.seen c.bytes_at.new.k) None c.put_longer-in-None.new.self
    (subst (λ (found : Option (List ℕ)). FindsLeft c.args.self.now (list_key c.args.inode c.args.window) (g.K.Keeper.seen c.args.k.now) (g.K.Keeper.seen c.bytes_at.new.k) (Ok found)) c.in-None.is
    (subst (λ (key : RowKey). FindsLeft c.args.self.now key (g.K.Keeper.seen c.args.k.now) (g.K.Keeper.seen c.bytes_at.new.k) (Ok c.in_ok-bytes.field-0)) c.in_ok-key.ensures c.in_ok-bytes.ensures))
    c.in_err-put_longer-in-None.ensures.err)

pub returns-in_ok-put_longer-in-None : goal.returns-in_ok-put_longer-in-None
returns-in_ok-put_longer-in-None g c =
    appends-first c.args.inode c.args.window c.args.rec.now c.args.self.now c.has_record_widths.ensures c.requires (g.K.Keeper.seen c.args.k.now) (g.K.Keeper.seen c.bytes_at.new.k) c.put_longer-in-None.new.self
    (subst (λ (found : Option (List ℕ)). FindsLeft c.args.self.now (list_key c.args.inode c.args.window) (g.K.Keeper.seen c.args.k.now) (g.K.Keeper.seen c.bytes_at.new.k) (Ok found)) c.in-None.is
    (subst (λ (key : RowKey). FindsLeft c.args.self.now key (g.K.Keeper.seen c.args.k.now) (g.K.Keeper.seen c.bytes_at.new.k) (Ok c.in_ok-bytes.field-0)) c.in_ok-key.ensures c.in_ok-bytes.ensures))
    (subst (λ (key : RowKey). c.put_longer-in-None.new.self ≡ c.args.self.now ++ Put key ([] ++ record_bytes c.args.rec.now) ∷ []) c.in_ok-key.ensures
    (subst (λ (none : List ℕ). c.put_longer-in-None.new.self ≡ c.args.self.now ++ Put c.in_ok-key.key (none ++ record_bytes c.args.rec.now) ∷ []) c.new.ensures
    c.in_ok-put_longer-in-None.ensures.ok))

pub put_longer-requires : goal.put_longer-requires
put_longer-requires g c = subst (λ (none : List ℕ). IsSome (list_of (none ++ record_bytes c.args.rec.now))) (sym c.new.ensures) (longer-first c.args.rec.now c.has_record_widths.ensures c.requires)
