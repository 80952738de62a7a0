use Rattle.std.proofs.Common.{◌≡◌, ℕ, List, [], ◌∷◌, ◌++◌, subst}
use Rattle.std.specs.Prelude.{OnOk}
use Rattle.jv_model.specs.declared.row.RowKey.{RowKey}
use Rattle.jv_model.specs.promise.rows.RowPlaces.{sustained_key}
use Rattle.jv_outside.specs.declared.batch.Change.TheVariants.{Put}
use Rattle.jv_rows.proofs.writing.put_sustained.Goals as goal

pub returns-clause-ok : goal.returns-clause-ok
returns-clause-ok c =
    let old = c.args.batch.now in
    subst (λ (b : List ℕ). OnOk c.put.result (c.put.new.self ≡ old ++ Put (sustained_key c.args.sid c.args.inode) b ∷ [])) c.new.ensures
    (subst (λ (k : RowKey). OnOk c.put.result (c.put.new.self ≡ old ++ Put k c.new.result ∷ [])) c.in_ok-key.ensures c.put.ensures.ok)
