-- Small changes of a draft, one after another, as one change of it.
use Rattle.std.proofs.Common.{◌≡◌, ℕ, List, Some, Result, Ok, Err, sym, subst, ◌∙◌}
use Rattle.std.specs.Prelude.{IfSome, IfErr, IsErrAnd}
use Rattle.jv_model.specs.declared.fault.Fault.{Fault}
use Rattle.jv_model.specs.declared.fault.RowFault.TheVariants.{Bad, Failed, Memory}
use Rattle.jv_model.specs.declared.fault.TxFault.{TxFault}
use Rattle.jv_model.specs.declared.fault.TxFault.TheVariants.{Refused, Moved, Rows as OfRows}
use Rattle.jv_model.specs.promise.rows.RowKeys.{RowMap}
use Rattle.jv_model.specs.promise.tree.Tree.{Tree}
use Rattle.jv_outside.specs.declared.batch.Change.{Change}
use Rattle.jv_outside.specs.promise.Store.{Store}
use Rattle.jv_rows.specs.Transactions.{TransactionCounts, FaultCause, BadFault}
use Rattle.jv_volume.specs.promise.TypedRows.{typed}
use Rattle.jv_rows_drafts.specs.Drafting.{Minds, Led, LeadsTo, Drafting}
use Rattle.jv_model.proofs.TestLaws.{same_Ok}

-- what holds of the tree of any drafted rows that a step begins with
abbrev pub OfMinds : (Tree → Type 0) → List Change → Store → (Tree → Type 0) → Type 0
OfMinds ready was before Holds = (known : RowMap) → before.rows ≡ Some known → (bytes : ℕ → ℕ → ℕ) (t : Tree)
    → Minds known was bytes t → ready t → Holds t

-- a step that the model makes, and the tree after it
pub led_minds : (known : RowMap) (changes : List Change) (bytes : ℕ → ℕ → ℕ) (model : Result Tree Fault) (t : Tree)
    → model ≡ Ok t → Led known changes bytes model
    → Minds known changes bytes t
led_minds known changes bytes model t is led = subst (Minds known changes bytes)
    (same_Ok led.left t (sym led.is ∙ is)) led.minds

module _ {A B : Type 0} (ready : Tree → Type 0) (was middle now : List Change) (before between after : Store) (x : A)
    (first : Tree → Result Tree Fault) (next : Tree → Tree)
    (d : Drafting ready was middle before between (Ok x) first)
    (makes : OfMinds ready was before (λ t. first t ≡ Ok (next t)))
    (then_ready : Tree → Type 0) (second step : Tree → Result Tree Fault) (result : Result B TxFault)
    (e : Drafting then_ready middle now between after result second) where
  counts_on : (r : Result B TxFault) → TransactionCounts between.faults after.faults r
      → TransactionCounts before.faults after.faults r
  counts_on r h = subst (λ n. TransactionCounts n after.faults r) d.counts h

  -- a second step after one that was made
  pub steps-then : OfMinds ready was before (λ t. then_ready (next t))
      → OfMinds ready was before (λ t. second (next t) ≡ step t)
      → Drafting ready was now before after result step
  steps-then may same = record {
    rows_are = e.rows_are ∙ d.rows_are;
    opened_at = e.opened_at ∙ d.opened_at;
    counts = counts_on result e.counts;
    formed = λ a. e.formed (d.formed a);
    leads = λ known is bytes t m r. subst (LeadsTo known now bytes result) (same known is bytes t m r)
        (e.leads known (d.rows_are ∙ is) bytes (next t)
        (led_minds known middle bytes (first t) (next t) (makes known is bytes t m r) (d.leads known is bytes t m r))
        (may known is bytes t m r));
    bad = λ a. subst (λ o. IfErr result (λ fault. IfSome o (λ known. BadFault (typed known) fault))) d.rows_are
        (e.bad (d.formed a));
  }

-- a fault that leads a step on that the model makes is none of the model's
err_leads : (B C : Type 0) (fault : TxFault) (known : RowMap) (now : List Change) (bytes : ℕ → ℕ → ℕ) (t : Tree)
    (model : Result Tree Fault)
    → LeadsTo {A = B} known now bytes (Err fault) (Ok t) → LeadsTo {A = C} known now bytes (Err fault) model
err_leads B C (Refused fault) known now bytes t model h = absurd (cc)
err_leads B C (Moved list) known now bytes t model h = h
err_leads B C (OfRows (Bad at bad)) known now bytes t model h = h
err_leads B C (OfRows Failed) known now bytes t model h = tt
err_leads B C (OfRows Memory) known now bytes t model h = tt

-- A second step that fails, though the model makes it.
module _ {A B C : Type 0} (ready : Tree → Type 0) (was middle now : List Change) (before between after : Store) (x : A)
    (first : Tree → Result Tree Fault) (next : Tree → Tree)
    (d : Drafting ready was middle before between (Ok x) first)
    (makes : OfMinds ready was before (λ t. first t ≡ Ok (next t)))
    (then_ready : Tree → Type 0) (second step : Tree → Result Tree Fault) (other : Tree → Tree) (fault : TxFault)
    (e : Drafting {A = B} then_ready middle now between after (Err fault) second) where
  pub steps-ended : OfMinds ready was before (λ t. then_ready (next t))
      → OfMinds ready was before (λ t. second (next t) ≡ Ok (other t))
      → Drafting {A = C} ready was now before after (Err fault) step
  steps-ended may same = record {
    rows_are = e.rows_are ∙ d.rows_are;
    opened_at = e.opened_at ∙ d.opened_at;
    counts = subst (λ n. FaultCause n after.faults fault) d.counts e.counts;
    formed = λ a. tt;
    leads = λ known is bytes t m r.
        let there = e.leads known (d.rows_are ∙ is) bytes (next t)
        (led_minds known middle bytes (first t) (next t) (makes known is bytes t m r) (d.leads known is bytes t m r))
        (may known is bytes t m r) in
        err_leads B C fault known now bytes (other t) (step t)
        (subst (LeadsTo {A = B} known now bytes (Err fault)) (same known is bytes t m r) there);
    bad = λ a. subst (λ o. IfSome o (λ known. BadFault (typed known) fault)) d.rows_are (e.bad (d.formed a));
  }

-- a step by another name and for fewer trees
pub step-as : {A : Type 0} (ready fewer : Tree → Type 0) (was now : List Change) (before after : Store)
    (result : Result A TxFault) (step other : Tree → Result Tree Fault)
    → ((t : Tree) → fewer t → ready t) → ((t : Tree) → fewer t → step t ≡ other t)
    → Drafting ready was now before after result step → Drafting fewer was now before after result other
step-as ready fewer was now before after result step other all same d = record {
  rows_are = d.rows_are;
  opened_at = d.opened_at;
  counts = d.counts;
  formed = d.formed;
  leads = λ known is bytes t m r. subst (LeadsTo known now bytes result) (same t r)
      (d.leads known is bytes t m (all t r));
  bad = d.bad;
}

-- a step that fails at an exit by `?`
pub drafting-exit : {A : Type 0} (ready : Tree → Type 0) (was now : List Change) (before after : Store) (step : Tree
    → Result Tree Fault) (result : Result A TxFault) (fault : TxFault)
    → IsErrAnd result (λ e. e ≡ fault) → Drafting {A = A} ready was now before after (Err fault) step
    → Drafting ready was now before after result step
drafting-exit ready was now before after step (Ok x) fault h d = absurd h
drafting-exit {A} ready was now before after step (Err e) fault h d =
    subst (λ f. Drafting {A = A} ready was now before after (Err f) step) (sym h) d

-- the value of a step that was made
pub step-value : {A B : Type 0} (ready : Tree → Type 0) (was now : List Change) (before after : Store) (x : A) (y : B)
    (step : Tree → Result Tree Fault)
    → Drafting ready was now before after (Ok x) step → Drafting ready was now before after (Ok y) step
step-value ready was now before after x y step d = record {
  rows_are = d.rows_are;
  opened_at = d.opened_at;
  counts = d.counts;
  formed = d.formed;
  leads = d.leads;
  bad = λ a. tt;
}

-- a step that fails, though the model makes it
pub step-fails : {A B : Type 0} (ready fewer : Tree → Type 0) (was now : List Change) (before after : Store)
    (fault : TxFault) (step other : Tree → Result Tree Fault) (made : Tree → Tree)
    → ((t : Tree) → fewer t → ready t) → ((t : Tree) → fewer t → step t ≡ Ok (made t))
    → Drafting {A = A} ready was now before after (Err fault) step
    → Drafting {A = B} fewer was now before after (Err fault) other
step-fails {A} {B} ready fewer was now before after fault step other made all same d = record {
  rows_are = d.rows_are;
  opened_at = d.opened_at;
  counts = d.counts;
  formed = λ a. tt;
  leads = λ known is bytes t m r. err_leads A B fault known now bytes (made t) (other t)
      (subst (LeadsTo {A = A} known now bytes (Err fault)) (same t r) (d.leads known is bytes t m (all t r)));
  bad = d.bad;
}

-- a step that fails says nothing of its value
pub drafting-err : {A B : Type 0} (ready : Tree → Type 0) (was now : List Change) (before after : Store) (step : Tree
    → Result Tree Fault) (fault : TxFault)
    → Drafting {A = A} ready was now before after (Err fault) step
    → Drafting {A = B} ready was now before after (Err fault) step
drafting-err {A} {B} ready was now before after step fault d = record {
  rows_are = d.rows_are;
  opened_at = d.opened_at;
  counts = d.counts;
  formed = λ a. tt;
  leads = λ known is bytes t m r. same_led fault known bytes (step t) (d.leads known is bytes t m r);
  bad = d.bad;
}
  where
    same_led : (f : TxFault) (known : RowMap) (bytes : ℕ → ℕ → ℕ) (model : Result Tree Fault)
        → LeadsTo {A = A} known now bytes (Err f) model → LeadsTo {A = B} known now bytes (Err f) model
    same_led (Refused f) known bytes model h = h
    same_led (Moved list) known bytes model h = h
    same_led (OfRows (Bad at bad)) known bytes model h = h
    same_led (OfRows Failed) known bytes model h = tt
    same_led (OfRows Memory) known bytes model h = tt
