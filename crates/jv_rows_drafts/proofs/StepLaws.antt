-- How one change of a draft is made of several.
use Rattle.std.proofs.Common.{◌≡◌, ℕ, List, Result, Ok, Err, sym, ap, subst, ◌∙◌}
use Rattle.std.specs.Prelude.{IfSome, IfErr}
use Rattle.jv_model.specs.declared.fault.Fault.{Fault}
use Rattle.jv_model.specs.declared.fault.RowFault.TheVariants.{Bad, Failed, Memory}
use Rattle.jv_model.specs.declared.fault.TxFault.{TxFault}
use Rattle.jv_model.specs.declared.fault.TxFault.TheVariants.{Refused, Moved, Rows as OfRows}
use Rattle.jv_model.specs.promise.rows.RowKeys.{RowMap}
use Rattle.jv_model.specs.promise.tree.Attempt.{◌>>=◌}
use Rattle.jv_model.specs.promise.tree.Tree.{Tree}
use Rattle.jv_outside.specs.declared.batch.Change.{Change}
use Rattle.jv_outside.specs.promise.Store.{Store}
use Rattle.jv_rows.specs.Transactions.{BadFault, TransactionCounts}
use Rattle.jv_volume.specs.promise.TypedRows.{typed}
use Rattle.jv_rows_drafts.specs.Drafting.{LeadsTo, Drafting}

-- the same change by another name
pub drafting-as : {A : Type 0} (ready : Tree → Type 0) (was now : List Change) (before after : Store)
    (result : Result A TxFault) (step other : Tree → Result Tree Fault)
    → ((t : Tree) → ready t → step t ≡ other t) → Drafting ready was now before after result step
    → Drafting ready was now before after result other
drafting-as ready was now before after result step other same d = record {
  rows_are = d.rows_are;
  opened_at = d.opened_at;
  counts = d.counts;
  formed = d.formed;
  leads = λ known is bytes t m is_ready. subst (LeadsTo known now bytes result) (same t is_ready)
      (d.leads known is bytes t m is_ready);
  bad = d.bad;
}

-- a change of a tree that is ready for more is one of a tree that is ready
pub drafting-ready : {A : Type 0} (ready more : Tree → Type 0) (was now : List Change) (before after : Store)
    (result : Result A TxFault) (step : Tree → Result Tree Fault)
    → ((t : Tree) → more t → ready t) → Drafting ready was now before after result step
    → Drafting more was now before after result step
drafting-ready ready more was now before after result step from d = record {
  rows_are = d.rows_are;
  opened_at = d.opened_at;
  counts = d.counts;
  formed = d.formed;
  leads = λ known is bytes t m is_ready. d.leads known is bytes t m (from t is_ready);
  bad = d.bad;
}

stopped : (A B : Type 0) (next : Tree → Result Tree Fault) (now : List Change) (known : RowMap) (bytes : ℕ → ℕ → ℕ)
    (model : Result Tree Fault) (fault : TxFault)
    → LeadsTo {A = A} known now bytes (Err fault) model → LeadsTo {A = B} known now bytes (Err fault) (model >>= next)
stopped A B next now known bytes model (Refused fault) h = ap (λ r. r >>= next) h
stopped A B next now known bytes model (Moved list) h = h
stopped A B next now known bytes model (OfRows (Bad at bad)) h = h
stopped A B next now known bytes model (OfRows Failed) h = tt
stopped A B next now known bytes model (OfRows Memory) h = tt

module _ {A B : Type 0} (ready : Tree → Type 0) (was : List Change) (before : Store) (step next : Tree
    → Result Tree Fault) where
  -- where the first change stops, so do both
  pub then-stops : (now : List Change) (after : Store) (fault : TxFault)
      → Drafting {A = A} ready was now before after (Err fault) step
      → Drafting {A = B} ready was now before after (Err fault) (λ t. step t >>= next)
  then-stops now after fault d = record {
    rows_are = d.rows_are;
    opened_at = d.opened_at;
    counts = d.counts;
    formed = λ was_formed. tt;
    leads = λ known is bytes t m is_ready. stopped A B next now known bytes (step t) fault
        (d.leads known is bytes t m is_ready);
    bad = d.bad;
  }

  -- one change after another
  pub then-on : (x : A) (made : List Change) (middle : Store) (next_ready : Tree → Type 0)
      → Drafting ready was made before middle (Ok x) step
      → ((t left : Tree) → ready t → step t ≡ Ok left → next_ready left)
      → (now : List Change) (after : Store) (result : Result B TxFault)
      → Drafting next_ready made now middle after result next
      → Drafting ready was now before after result (λ t. step t >>= next)
  then-on x made middle next_ready d may now after result e = record {
    rows_are = e.rows_are ∙ d.rows_are;
    opened_at = e.opened_at ∙ d.opened_at;
    counts = subst (λ n. TransactionCounts n after.faults result) d.counts e.counts;
    formed = λ was_formed. e.formed (d.formed was_formed);
    leads = λ known is bytes t m is_ready. (let led = d.leads known is bytes t m is_ready in
        subst (LeadsTo known now bytes result) (sym (ap (λ r. r >>= next) led.is))
        (e.leads known (d.rows_are ∙ is) bytes led.left led.minds (may t led.left is_ready led.is)));
    bad = λ was_formed. subst (λ o. IfErr result (λ fault. IfSome o (λ known. BadFault (typed known) fault))) d.rows_are
        (e.bad (d.formed was_formed));
  }
