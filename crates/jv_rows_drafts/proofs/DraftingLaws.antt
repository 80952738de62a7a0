-- How transactions are made of small changes: one step after another, a refusal, and the commit.
use Rattle.std.proofs.Common.{◌≡◌, ℕ, List, [], Some, Result, Ok, Err, refl, sym, ap, subst, ◌∙◌}
use Rattle.std.specs.Prelude.{IsErrAnd}
use Rattle.jv_model.specs.declared.fault.Fault.{Fault}
use Rattle.jv_model.specs.declared.fault.RowFault.TheVariants.{Bad, Failed, Memory}
use Rattle.jv_model.specs.declared.fault.TxFault.{TxFault}
use Rattle.jv_model.specs.declared.fault.TxFault.TheVariants.{Refused, Moved, Rows as OfRows}
use Rattle.jv_model.specs.declared.op.Reply.{Reply}
use Rattle.jv_model.specs.promise.rows.RowKeys.{RowMap}
use Rattle.jv_model.specs.promise.tree.Tree.{Tree}
use Rattle.jv_model.specs.promise.tree.Caller.{Outcome, answered}
use Rattle.jv_outside.specs.declared.batch.Change.{Change}
use Rattle.jv_outside.specs.promise.Rows.{applied}
use Rattle.jv_outside.specs.promise.Store.{Store}
use Rattle.jv_outside.specs.Store.{Commits}
use Rattle.std.specs.Option.{option_map}
use Rattle.jv_rows.specs.Drafts.{drafted}
use Rattle.jv_rows.specs.Transactions.{FaultCause, BadFault, Landed, Lands, Transacts}
use Rattle.jv_rows.proofs.transactions.TransactionLaws.{Past, Fails, FailsBy}
use Rattle.jv_volume.specs.promise.TypedRows.{typed}
use Rattle.jv_volume.specs.promise.TreeOf.{tree_of}
use Rattle.jv_volume.specs.promise.Shape.{WholeShape, shape_of}
use Rattle.jv_volume.specs.promise.Whole.{Whole, no_bytes}
use Rattle.jv_volume.proofs.stored.QuietLaws.{quiet-none, quiet-slices}
use Rattle.jv_volume.proofs.stored.StoredLaws.{same_shape, stored-again, whole-stored}
use Rattle.jv_rows_drafts.specs.Drafting.{Minds, AreRows, Led, LeadsTo, Drafting}
use Rattle.jv_rows_drafts.proofs.LengthLaws.{lengths-none}
use Rattle.jv_model.proofs.TestLaws.{if_some-by, of_known, same_Ok}

-- ---- drafted rows

-- whole rows, with nothing drafted
pub minds-none : (known : RowMap) (bytes : ℕ → ℕ → ℕ) → Whole (typed known)
    → Minds known [] bytes (tree_of bytes (typed known))
unfolding drafted
minds-none known bytes whole = record {
  tree = refl;
  cells = whole.cells;
  stored = whole-stored bytes (typed known) whole;
  files = whole.files;
  quiet = quiet-none (typed known);
  lengths = lengths-none (typed known);
}

pub are_rows-none : AreRows []
unfolding drafted
are_rows-none = record { spelled = λ known key bytes is. is; needed = λ known key need is. is }

-- drafted rows are whole again, where their tree is
pub minds-whole : (known : RowMap) (changes : List Change) (bytes : ℕ → ℕ → ℕ) (t : Tree) → Whole (typed known)
    → Minds known changes bytes t
    → WholeShape (shape_of t) → Whole (drafted changes known)
minds-whole known changes bytes t whole m shape = record {
  cells = m.cells;
  stored = stored-again bytes no_bytes (drafted changes known) m.stored;
  tree = subst WholeShape (same_shape bytes no_bytes (drafted changes known))
      (subst (λ (u : Tree). WholeShape (shape_of u)) (sym m.tree) shape);
  slices = quiet-slices (typed known) (drafted changes known) m.quiet whole.slices;
  files = m.files;
}

-- ---- one step after another

-- Steps without a refusal: the keeper's rows are as before, and over whole rows, whose tree was ready, those drafted
-- are of
-- the tree `now`, while the model goes on with `rest`, both by the tree at the start.
pub record PastSteps (ready : Tree → Type 0) (before after : Store) (changes : List Change) (now : Tree → Tree)
    (act rest : Tree → Result Outcome Fault) : Type 0 where
  pub rows_are : after.rows ≡ before.rows
  pub opened_at : after.opened ≡ before.opened
  pub calm : after.faults ≡ before.faults
  pub formed : AreRows changes
  pub minds : (known : RowMap) → before.rows ≡ Some known → Whole (typed known) → (bytes : ℕ → ℕ → ℕ)
      → ready (tree_of bytes (typed known))
      → Minds known changes bytes (now (tree_of bytes (typed known)))
  pub goes_on : (known : RowMap) → before.rows ≡ Some known → Whole (typed known) → (bytes : ℕ → ℕ → ℕ)
      → ready (tree_of bytes (typed known))
      → act (tree_of bytes (typed known)) ≡ rest (tree_of bytes (typed known))

-- what holds of the tree of each whole volume that the steps began with
abbrev pub OfWhole : (Tree → Type 0) → Store → (Tree → Type 0) → Type 0
OfWhole ready before Holds = (known : RowMap) → before.rows ≡ Some known → Whole (typed known) → (bytes : ℕ → ℕ → ℕ)
    → ready (tree_of bytes (typed known))
    → Holds (tree_of bytes (typed known))

-- nothing is drafted yet, after readings
pub steps-start : (ready : Tree → Type 0) (before after : Store) (act rest : Tree → Result Outcome Fault)
    → Past before after act rest
    → PastSteps ready before after [] (λ t. t) act rest
steps-start ready before after act rest p = record {
  rows_are = p.rows_are;
  opened_at = p.opened_at;
  calm = p.calm;
  formed = are_rows-none;
  minds = λ known is whole bytes is_ready. minds-none known bytes whole;
  goes_on = λ known is whole bytes is_ready. p.goes_on known is whole bytes;
}

module _ (ready : Tree → Type 0) (before middle after : Store) (was changes : List Change) (now : Tree → Tree)
    (act rest : Tree → Result Outcome Fault)
    (p : PastSteps ready before middle was now act rest) where
  -- the rest by another name
  pub steps-as : (next : Tree → Result Outcome Fault) → OfWhole ready before (λ t. rest t ≡ next t)
      → PastSteps ready before middle was now act next
  steps-as next same = record {
    rows_are = p.rows_are;
    opened_at = p.opened_at;
    calm = p.calm;
    formed = p.formed;
    minds = p.minds;
    goes_on = λ known is whole bytes is_ready. p.goes_on known is whole bytes is_ready
        ∙ same known is whole bytes is_ready;
  }

  led_tree : (known : RowMap) (bytes : ℕ → ℕ → ℕ) (model : Result Tree Fault) (t : Tree) → model ≡ Ok t
      → Led known changes bytes model → Minds known changes bytes t
  led_tree known bytes model t is led = subst (Minds known changes bytes) (same_Ok led.left t (sym led.is ∙ is))
      led.minds

  -- one more step, which the model makes
  pub steps-on : {A : Type 0} (x : A) (step_ready : Tree → Type 0) (step : Tree → Result Tree Fault) (next : Tree
      → Tree)
      → Drafting step_ready was changes middle after (Ok x) step → OfWhole ready before (λ t. step_ready (now t))
      → OfWhole ready before (λ t. step (now t) ≡ Ok (next t))
      → PastSteps ready before after changes next act rest
  steps-on x step_ready step next d may model = record {
    rows_are = d.rows_are ∙ p.rows_are;
    opened_at = d.opened_at ∙ p.opened_at;
    calm = d.counts ∙ p.calm;
    formed = d.formed p.formed;
    minds = λ known is whole bytes is_ready. (let t = tree_of bytes (typed known) in
        led_tree known bytes (step (now t)) (next t) (model known is whole bytes is_ready)
        (d.leads known (p.rows_are ∙ is) bytes (now t) (p.minds known is whole bytes is_ready)
        (may known is whole bytes is_ready)));
    goes_on = p.goes_on;
  }

  -- what the model made, of a step that was made
  pub steps-made : {A : Type 0} (x : A) (step_ready : Tree → Type 0) (step : Tree → Result Tree Fault)
      → Drafting step_ready was changes middle after (Ok x) step → OfWhole ready before (λ t. step_ready (now t))
      → OfWhole ready before (λ t. (left : Tree) × (step (now t) ≡ Ok left))
  steps-made x step_ready step d may known is whole bytes is_ready =
      let t = tree_of bytes (typed known) in
      let led = d.leads known (p.rows_are ∙ is) bytes (now t) (p.minds known is whole bytes is_ready)
      (may known is whole bytes is_ready) in
      (led.left, led.is)

module _ {A : Type 0} (ready : Tree → Type 0) (before middle after : Store) (was changes : List Change) (now : Tree
    → Tree) (reply : A → Reply) (act rest : Tree → Result Outcome Fault)
    (p : PastSteps ready before middle was now act rest) where
  stopped : (B : Type 0) (fault : TxFault) (known : RowMap) (bytes : ℕ → ℕ → ℕ) (step : Result Tree Fault) (t : Tree)
      → act t ≡ rest t
      → ((refused : Fault) → step ≡ Err refused → rest t ≡ Err refused)
      → LeadsTo {A = B} known changes bytes (Err fault) step
      → (t ≡ tree_of bytes (typed known)) → Lands {A = A} known after.rows bytes reply act (Err fault)
  stopped B (Refused fault) known bytes step t goes same led is = subst (λ (u : Tree). act u ≡ Err fault) is
      (goes ∙ same fault led)
  stopped B (Moved list) known bytes step t goes same led is = led
  stopped B (OfRows (Bad at bad)) known bytes step t goes same led is = led
  stopped B (OfRows Failed) known bytes step t goes same led is = tt
  stopped B (OfRows Memory) known bytes step t goes same led is = tt

  counted : (fault : TxFault) → middle.faults ≡ before.faults → FaultCause middle.faults after.faults fault
      → FaultCause before.faults after.faults fault
  counted fault calm h = subst (λ n. FaultCause n after.faults fault) calm h

  -- a step that is refused, and so is the transaction
  pub steps-stop : {B : Type 0} (fault : TxFault) (step_ready : Tree → Type 0) (step : Tree → Result Tree Fault)
      → Drafting {A = B} step_ready was changes middle after (Err fault) step
      → OfWhole ready before (λ t. step_ready (now t))
      → OfWhole ready before (λ t. (refused : Fault) → step (now t) ≡ Err refused → rest t ≡ Err refused)
      → Transacts {A = A} ready before after (Err fault) reply act
  steps-stop {B} fault step_ready step d may refuses = record {
    opened_at = d.opened_at ∙ p.opened_at;
    counts = counted fault p.calm d.counts;
    undone = d.rows_are ∙ p.rows_are;
    lands = λ known is whole bytes is_ready. (let t = tree_of bytes (typed known) in
        stopped B fault known bytes (step (now t)) t (p.goes_on known is whole bytes is_ready)
        (refuses known is whole bytes is_ready)
        (d.leads known (p.rows_are ∙ is) bytes (now t) (p.minds known is whole bytes is_ready)
        (may known is whole bytes is_ready)) refl);
    bad = if_some-by (λ known. BadFault (typed known) fault) before.rows (λ known is.
        of_known (λ known. BadFault (typed known) fault) middle.rows known (p.rows_are ∙ is) (d.bad p.formed));
  }

  failed : (fault : TxFault) (known : RowMap) (bytes : ℕ → ℕ → ℕ) → before.rows ≡ Some known → Whole (typed known)
      → FailsBy middle.rows fault
      → Lands {A = A} known after.rows bytes reply act (Err fault)
  failed (Refused fault) known bytes is whole why = absurd why
  failed (Moved list) known bytes is whole why = why
  failed (OfRows (Bad at bad)) known bytes is whole why = (why known (p.rows_are ∙ is)).1 whole
  failed (OfRows Failed) known bytes is whole why = tt
  failed (OfRows Memory) known bytes is whole why = tt

  bad_of : (fault : TxFault) → FailsBy middle.rows fault → (known : RowMap) → before.rows ≡ Some known
      → BadFault (typed known) fault
  bad_of (Refused fault) why known is = tt
  bad_of (Moved list) why known is = tt
  bad_of (OfRows (Bad at bytes)) why known is = (why known (p.rows_are ∙ is)).0
  bad_of (OfRows Failed) why known is = tt
  bad_of (OfRows Memory) why known is = tt

  -- anything that fails, whatever the model would do
  pub steps-fail : (fault : TxFault) → Fails middle after fault
      → Transacts {A = A} ready before after (Err fault) reply act
  steps-fail fault f = record {
    opened_at = f.opened_at ∙ p.opened_at;
    counts = counted fault p.calm f.cause;
    undone = f.rows_are ∙ p.rows_are;
    lands = λ known is whole bytes is_ready. failed fault known bytes is whole f.why;
    bad = if_some-by (λ known. BadFault (typed known) fault) before.rows (bad_of fault f.why);
  }

  landed : (known : RowMap) (bytes : ℕ → ℕ → ℕ) (answer : Reply) (t : Tree) → Commits middle after (Ok tt) was
      → before.rows ≡ Some known
      → Minds known was bytes t → Whole (drafted was known)
      → act (tree_of bytes (typed known)) ≡ answered t answer → Landed known after.rows bytes answer act
  unfolding drafted
  landed known bytes answer t c is m whole ends = record {
    left = applied was known;
    is = c.content_is ∙ ap (option_map (applied was)) (p.rows_are ∙ is);
    whole = whole;
    quiet = m.quiet;
    model = ends ∙ ap (λ u. answered u answer) (sym m.tree);
  }

  -- the commit of a draft, where the model ends with its tree, which is whole
  pub steps-commit : (x : A) → Commits middle after (Ok tt) was
      → OfWhole ready before (λ t. rest t ≡ answered (now t) (reply x))
      → OfWhole ready before (λ t. WholeShape (shape_of (now t)))
      → Transacts ready before after (Ok x) reply act
  steps-commit x c ends shape = record {
    opened_at = c.opened_at ∙ p.opened_at;
    counts = c.calm ∙ p.calm;
    undone = tt;
    lands = λ known is whole bytes is_ready. (let t = tree_of bytes (typed known) in
        let m : Minds known was bytes (now t) = p.minds known is whole bytes is_ready in
        landed known bytes (reply x) (now t) c is m
        (minds-whole known was bytes (now t) whole m (shape known is whole bytes is_ready))
        (p.goes_on known is whole bytes is_ready ∙ ends known is whole bytes is_ready));
    bad = tt;
  }

-- a step that fails at an exit by `?`
pub transacts-error : {A : Type 0} (ready : Tree → Type 0) (before after : Store) (reply : A → Reply) (act : Tree
    → Result Outcome Fault) (result : Result A TxFault) (fault : TxFault)
    → IsErrAnd result (λ e. e ≡ fault) → Transacts {A = A} ready before after (Err fault) reply act
    → Transacts ready before after result reply act
transacts-error ready before after reply act (Ok x) fault h t = absurd h
transacts-error {A} ready before after reply act (Err e) fault h t =
    subst (λ f. Transacts {A = A} ready before after (Err f) reply act) (sym h) t
