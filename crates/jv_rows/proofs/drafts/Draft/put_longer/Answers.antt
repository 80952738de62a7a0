use Rattle.std.proofs.Common.{◌≡◌, ℕ, List, [], ◌∷◌, ◌++◌, subst}
use Rattle.std.specs.Prelude.{OnOk, OnErr}
use Rattle.jv_outside.specs.declared.batch.Change.{Change}
use Rattle.jv_outside.specs.declared.batch.Change.TheVariants.{Put}
use Rattle.jv_model.specs.promise.rows.RowGrammar.{record_bytes}
use Rattle.jv_rows.proofs.drafts.Draft.put_longer.Goals as goal

pub returns-clause-ok : goal.returns-clause-ok
returns-clause-ok c =
    subst (λ (before : List Change). OnOk c.put.result (c.put.new.self ≡ before ++ Put c.args.key (c.args.bytes.now ++ record_bytes c.args.rec.now) ∷ [])) c.self.view_is
    (subst (λ (longer : List ℕ). OnOk c.put.result (c.put.new.self ≡ c.self.inside.batch ++ Put c.args.key longer ∷ [])) c.in_ok-longer.ensures c.put.ensures.ok)

pub returns-clause-err : goal.returns-clause-err
returns-clause-err c =
    subst (λ (before : List Change). OnErr c.put.result (c.put.new.self ≡ before)) c.self.view_is c.put.ensures.err
