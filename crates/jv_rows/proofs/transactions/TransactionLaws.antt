-- How transactions are made of their parts: readings one after another, a refusal, an answer, and a commit.
use Rattle.std.proofs.Common.{◌≡◌, ℕ, List, [], Option, Some, Result, Ok, Err, refl, sym, ap, subst, ◌∙◌}
use Rattle.std.specs.Prelude.{Bool, IfSome, IfErr, IsErrAnd}
use Rattle.std.specs.Option.{option_map}
use Rattle.jv_model.specs.declared.fault.Down.{Down}
use Rattle.jv_model.specs.declared.fault.Down.TheVariants.{Failed as DeviceFailed, Memory as DeviceMemory}
use Rattle.jv_model.specs.declared.fault.Fault.{Fault}
use Rattle.jv_model.specs.declared.fault.RowFault.{RowFault}
use Rattle.jv_model.specs.declared.fault.RowFault.TheVariants.{Bad, Failed, Memory}
use Rattle.jv_model.specs.declared.fault.TxFault.{TxFault}
use Rattle.jv_model.specs.declared.fault.TxFault.TheVariants.{Refused, Moved, Rows as OfRows}
use Rattle.jv_model.specs.declared.op.Reply.{Reply}
use Rattle.jv_model.specs.declared.row.Node.{Node as NodeRow}
use Rattle.jv_model.specs.declared.row.Row.{Row}
use Rattle.jv_model.specs.declared.row.Row.TheVariants.{OfNode}
use Rattle.jv_model.specs.declared.row.RowKey.{RowKey}
use Rattle.jv_model.specs.promise.FiniteMap.{get}
use Rattle.jv_model.specs.rows.RowFaults.{row_fault}
use Rattle.jv_model.specs.promise.rows.RowGrammar.{is_node}
use Rattle.jv_model.specs.promise.rows.RowPlaces.{node_key}
use Rattle.jv_model.specs.promise.rows.RowKeys.{RowMap}
use Rattle.jv_model.specs.promise.tree.Attempt.{◌>>=◌}
use Rattle.jv_model.specs.promise.tree.Caller.{Outcome, answered}
use Rattle.jv_model.specs.promise.tree.Tree.{Tree}
use Rattle.jv_outside.specs.declared.batch.Change.{Change}
use Rattle.jv_outside.specs.promise.Rows.{applied}
use Rattle.jv_outside.specs.promise.Store.{Store}
use Rattle.jv_outside.specs.Store.{Commits}
use Rattle.jv_volume.specs.promise.TypedRows.{typed}
use Rattle.jv_volume.specs.promise.Views.{node_in, node_row_at, row_in}
use Rattle.jv_volume.specs.promise.TreeOf.{tree_of}
use Rattle.jv_volume.specs.promise.Whole.{Whole}
use Rattle.jv_volume.specs.Whole.{Quiet}
use Rattle.jv_volume.proofs.stored.StoredLaws.{whole-typed}
use Rattle.jv_volume.proofs.stored.QuietLaws.{quiet-none}
use Rattle.jv_rows.specs.Drafts.{drafted, cell, Sees, RefusesCell}
use Rattle.jv_rows.specs.Transactions.{FaultCause, TransactionCounts, BadFault, Agrees, Looks, Landed, Lands, Transacts}
use Rattle.jv_rows.specs.promise.Transactions.{IsBad, Malformed}
use Rattle.jv_model.proofs.TestLaws.{of_known, if_some-by}

-- ---- known rows

-- rows without changes
pub drafted-none : (known : RowMap) → drafted [] known ≡ typed known
unfolding drafted
drafted-none known = refl

-- without changes there stands at a key what is stored there
pub as_stored : (key : RowKey) (before : Store) (known : RowMap) → before.rows ≡ Some known → get (drafted [] known) key ≡ get (typed known) key
as_stored key before known is = ap (λ rows. get rows key) (drafted-none known)

-- no changes leave what a key has
pub none_kept : (changes : List Change) (key : RowKey) → changes ≡ [] → (known : RowMap)
    → get (drafted changes known) key ≡ get (typed known) key
none_kept changes key none known = ap (λ ch. get (drafted ch known) key) none ∙ ap (λ rows. get rows key) (drafted-none known)

-- ---- what was looked at so far

-- Readings without a refusal: nothing has changed, and over whole rows the model goes on with `rest`.
pub record Past {A : Type 0} (before after : Store) (act rest : Tree → Result A Fault) : Type 0 where
  pub rows_are : after.rows ≡ before.rows
  pub opened_at : after.opened ≡ before.opened
  pub calm : after.faults ≡ before.faults
  pub goes_on : (known : RowMap) → before.rows ≡ Some known → Whole (typed known) → (bytes : ℕ → ℕ → ℕ) → act (tree_of bytes (typed known)) ≡ rest (tree_of bytes (typed known))

pub past-start : {A : Type 0} (store : Store) (act : Tree → Result A Fault) → Past store store act act
past-start store act = record { rows_are = refl; opened_at = refl; calm = refl; goes_on = λ known is whole bytes. refl }

-- A reading that no refusal of the model's came of: memory ran out, the keeper failed, or a row is Bad, which no whole rows have.
abbrev pub FailsBy : Option RowMap → TxFault → Type 0
FailsBy rows (Refused fault) = ⊥
FailsBy rows (Moved list) = ⊥
FailsBy rows (OfRows (Bad at bytes)) = (known : RowMap) → rows ≡ Some known → IsBad (typed known) at bytes × (Whole (typed known) → ⊥)
FailsBy rows (OfRows Failed) = Unit {0}
FailsBy rows (OfRows Memory) = Unit {0}

pub record Fails (before after : Store) (fault : TxFault) : Type 0 where
  pub rows_are : after.rows ≡ before.rows
  pub opened_at : after.opened ≡ before.opened
  pub cause : FaultCause before.faults after.faults fault
  pub why : FailsBy before.rows fault

module _ {A : Type 0} (before middle after : Store) (act rest : Tree → Result A Fault) (p : Past before middle act rest) where
  -- the rest by another name over whole rows
  pub past-as : (next : Tree → Result A Fault)
      → ((known : RowMap) → before.rows ≡ Some known → Whole (typed known) → (bytes : ℕ → ℕ → ℕ) → rest (tree_of bytes (typed known)) ≡ next (tree_of bytes (typed known)))
      → Past before middle act next
  past-as next same = record {
    rows_are = p.rows_are;
    opened_at = p.opened_at;
    calm = p.calm;
    goes_on = λ known is whole bytes. p.goes_on known is whole bytes ∙ same known is whole bytes;
  }

  -- one more reading, of which the model sees nothing
  pub past-calm : after.rows ≡ middle.rows → after.opened ≡ middle.opened → after.faults ≡ middle.faults → Past before after act rest
  past-calm rows_are opened_at calm = record { rows_are = rows_are ∙ p.rows_are; opened_at = opened_at ∙ p.opened_at; calm = calm ∙ p.calm; goes_on = p.goes_on }

  agrees_past : (result : Result A TxFault) (r model : Result A Fault) → model ≡ r → Agrees result r → Agrees result model
  agrees_past (Ok x) r model is h = is ∙ h
  agrees_past (Err (Refused fault)) r model is h = is ∙ h
  agrees_past (Err (Moved list)) r model is h = h
  agrees_past (Err (OfRows (Bad at bytes))) r model is h = h
  agrees_past (Err (OfRows Failed)) r model is h = tt
  agrees_past (Err (OfRows Memory)) r model is h = tt

  -- a last reading
  pub past-ends : (result : Result A TxFault) → Looks middle after result rest → Looks before after result act
  past-ends result l = record {
    rows_are = l.rows_are ∙ p.rows_are;
    opened_at = l.opened_at ∙ p.opened_at;
    counts = subst (λ n. TransactionCounts n after.faults result) p.calm l.counts;
    agrees = λ known is whole bytes. agrees_past result (rest (tree_of bytes (typed known))) (act (tree_of bytes (typed known))) (p.goes_on known is whole bytes)
        (l.agrees known (p.rows_are ∙ is) whole bytes);
    bad = subst (λ o. IfErr result (λ fault. IfSome o (λ known. BadFault (typed known) fault))) p.rows_are l.bad;
  }

-- Any reading that fails, whatever the model would find.
module _ {A : Type 0} (before after : Store) (act : Tree → Result A Fault) where
  agrees_failed : (fault : TxFault) → FailsBy before.rows fault → (known : RowMap) → before.rows ≡ Some known → Whole (typed known) → (model : Result A Fault) → Agrees (Err fault) model
  agrees_failed (Refused fault) why known is whole model = absurd why
  agrees_failed (Moved list) why known is whole model = why
  agrees_failed (OfRows (Bad at bytes)) why known is whole model = (why known is).1 whole
  agrees_failed (OfRows Failed) why known is whole model = tt
  agrees_failed (OfRows Memory) why known is whole model = tt

  bad_failed : (fault : TxFault) → FailsBy before.rows fault → (known : RowMap) → before.rows ≡ Some known → BadFault (typed known) fault
  bad_failed (Refused fault) why known is = tt
  bad_failed (Moved list) why known is = tt
  bad_failed (OfRows (Bad at bytes)) why known is = (why known is).0
  bad_failed (OfRows Failed) why known is = tt
  bad_failed (OfRows Memory) why known is = tt

  pub fails-looks : (fault : TxFault) → Fails before after fault → Looks before after (Err fault) act
  fails-looks fault f = record {
    rows_are = f.rows_are;
    opened_at = f.opened_at;
    counts = f.cause;
    agrees = λ known is whole bytes. agrees_failed fault f.why known is whole (act (tree_of bytes (typed known)));
    bad = if_some-by (λ known. BadFault (typed known) fault) before.rows (bad_failed fault f.why);
  }

module _ {A : Type 0} (before middle after : Store) (act rest : Tree → Result A Fault) (p : Past before middle act rest) where
  -- a reading that fails ends all
  pub past-fails : (fault : TxFault) → Fails middle after fault → Looks before after (Err fault) act
  past-fails fault f = past-ends before middle after act rest p (Err fault) (fails-looks middle after rest fault f)

-- Readings that the model's next step is one of.
module _ {A B : Type 0} (before middle after : Store) (act : Tree → Result B Fault) (finds : Tree → Result A Fault) (next : Tree → A → Result B Fault)
    (p : Past before middle act (λ t. finds t >>= next t)) where
  -- it finds something
  pub past-looks : (x : A) → Looks middle after (Ok x) finds → Past before after act (λ t. next t x)
  past-looks x l = record {
    rows_are = l.rows_are ∙ p.rows_are;
    opened_at = l.opened_at ∙ p.opened_at;
    calm = l.counts ∙ p.calm;
    goes_on = λ known is whole bytes. p.goes_on known is whole bytes
        ∙ ap (λ r. r >>= next (tree_of bytes (typed known))) (l.agrees known (p.rows_are ∙ is) whole bytes);
  }

  stops : (t : Tree) (fault : TxFault) → Agrees {A = A} (Err fault) (finds t) → Agrees {A = B} (Err fault) (finds t >>= next t)
  stops t (Refused fault) h = ap (λ r. r >>= next t) h
  stops t (Moved list) h = h
  stops t (OfRows (Bad at bytes)) h = h
  stops t (OfRows Failed) h = tt
  stops t (OfRows Memory) h = tt

  -- it is refused, and so is all
  pub past-stops : (fault : TxFault) → Looks {A = A} middle after (Err fault) finds → Looks {A = B} before after (Err fault) act
  past-stops fault l = past-ends before middle after act (λ t. finds t >>= next t) p (Err fault) (record {
    rows_are = l.rows_are;
    opened_at = l.opened_at;
    counts = l.counts;
    agrees = λ known is whole bytes. stops (tree_of bytes (typed known)) fault (l.agrees known is whole bytes);
    bad = l.bad;
  })

module _ {A : Type 0} (before after : Store) (act : Tree → Result A Fault) where
  -- the answer
  pub past-gives : (x : A) → Past before after act (λ t. Ok x) → Looks before after (Ok x) act
  past-gives x p = record { rows_are = p.rows_are; opened_at = p.opened_at; counts = p.calm; agrees = λ known is whole bytes. p.goes_on known is whole bytes; bad = tt }

  -- a refusal
  pub past-refuses : (fault : Fault) → Past before after act (λ t. Err fault) → Looks before after (Err (Refused fault)) act
  past-refuses fault p = record {
    rows_are = p.rows_are;
    opened_at = p.opened_at;
    counts = p.calm;
    agrees = λ known is whole bytes. p.goes_on known is whole bytes;
    bad = if_some-by (λ known. BadFault (typed known) (Refused fault)) before.rows (λ known is. tt);
  }

-- a reading that fails at an exit by `?`
pub looks-exit : {A : Type 0} (before after : Store) (act : Tree → Result A Fault) (result : Result A TxFault) (fault : TxFault) → IsErrAnd result (λ e. e ≡ fault)
    → Looks {A = A} before after (Err fault) act → Looks before after result act
looks-exit before after act (Ok x) fault h l = absurd h
looks-exit {A} before after act (Err e) fault h l = subst (λ f. Looks {A = A} before after (Err f) act) (sym h) l

-- ---- transactions

module _ {A : Type 0} (ready : Tree → Type 0) (before after : Store) (reply : A → Reply) (act : Tree → Result Outcome Fault) where
  lands_refused : (fault : TxFault) (known : RowMap) (bytes : ℕ → ℕ → ℕ) → Agrees {A = Outcome} (Err fault) (act (tree_of bytes (typed known)))
      → Lands known after.rows bytes reply act (Err fault)
  lands_refused (Refused fault) known bytes h = h
  lands_refused (Moved list) known bytes h = h
  lands_refused (OfRows (Bad at bad)) known bytes h = h
  lands_refused (OfRows Failed) known bytes h = tt
  lands_refused (OfRows Memory) known bytes h = tt

  -- a transaction that is refused reads alone
  pub transacts-refused : (fault : TxFault) → Looks {A = Outcome} before after (Err fault) act → Transacts {A = A} ready before after (Err fault) reply act
  transacts-refused fault l = record {
    opened_at = l.opened_at;
    counts = l.counts;
    undone = l.rows_are;
    lands = λ known is whole bytes is_ready. lands_refused fault known bytes (l.agrees known is whole bytes);
    bad = l.bad;
  }

  -- the same at an exit by `?`
  pub transacts-exit : (result : Result A TxFault) (fault : TxFault) → IsErrAnd result (λ e. e ≡ fault) → Looks {A = Outcome} before after (Err fault) act → Transacts ready before after result reply act
  transacts-exit (Ok x) fault h l = absurd h
  transacts-exit (Err e) fault h l = subst (λ f. Transacts {A = A} ready before after (Err f) reply act) (sym h) (transacts-refused fault l)

  -- a transaction that only reads has its answer, and the rows stay
  pub transacts-answers : (x : A) → Past before after act (λ t. answered t (reply x)) → Transacts ready before after (Ok x) reply act
  transacts-answers x p = record {
    opened_at = p.opened_at;
    counts = p.calm;
    undone = tt;
    lands = λ known is whole bytes is_ready. record {
      left = known;
      is = p.rows_are ∙ is;
      whole = whole;
      quiet = quiet-none (typed known);
      model = p.goes_on known is whole bytes;
    };
    bad = tt;
  }

-- Changes that do to whole rows what the model does to their tree, and leave them whole.
pub record Makes (known : RowMap) (changes : List Change) (bytes : ℕ → ℕ → ℕ) (reply : Reply) (act : Tree → Result Outcome Fault) : Type 0 where
  pub whole : Whole (drafted changes known)
  pub quiet : Quiet (typed known) (drafted changes known)
  pub model : act (tree_of bytes (typed known)) ≡ Ok (record { tree = tree_of bytes (drafted changes known); reply = reply })

landed-makes : (known : RowMap) (changes : List Change) (after : Option RowMap) (bytes : ℕ → ℕ → ℕ) (reply : Reply) (act : Tree → Result Outcome Fault)
    → after ≡ Some (applied changes known) → Makes known changes bytes reply act → Landed known after bytes reply act
unfolding drafted
landed-makes known changes after bytes reply act is m = record { left = applied changes known; is = is; whole = m.whole; quiet = m.quiet; model = m.model }

module _ {A : Type 0} (ready : Tree → Type 0) (before middle after : Store) (reply : A → Reply) (act rest : Tree → Result Outcome Fault) (p : Past before middle act rest) where
  -- a transaction that commits its changes
  pub transacts-commits : (x : A) (changes : List Change) → Commits middle after (Ok tt) changes
      → ((known : RowMap) → before.rows ≡ Some known → Whole (typed known) → (bytes : ℕ → ℕ → ℕ) → ready (tree_of bytes (typed known)) → Makes known changes bytes (reply x) rest)
      → Transacts ready before after (Ok x) reply act
  transacts-commits x changes c makes = record {
    opened_at = c.opened_at ∙ p.opened_at;
    counts = c.calm ∙ p.calm;
    undone = tt;
    lands = λ known is whole bytes is_ready. let made = makes known is whole bytes is_ready in
        landed-makes known changes after.rows bytes (reply x) act (c.content_is ∙ ap (option_map (applied changes)) (p.rows_are ∙ is)) (record {
          whole = made.whole;
          quiet = made.quiet;
          model = p.goes_on known is whole bytes ∙ made.model;
        });
    bad = tt;
  }

-- ---- what fails

pub fails-memory : (store : Store) → Fails store store (OfRows Memory)
fails-memory store = record { rows_are = refl; opened_at = refl; cause = refl; why = tt }

-- a commit that wasn't made
pub fails-commit : (before after : Store) (down : Down) (changes : List Change) → Commits before after (Err down) changes → Fails before after (OfRows (row_fault down))
fails-commit before after DeviceFailed changes c = record { rows_are = c.content_is; opened_at = c.opened_at; cause = c.cause; why = tt }
fails-commit before after DeviceMemory changes c = record { rows_are = c.content_is; opened_at = c.opened_at; cause = c.cause; why = tt }

-- A reading of a row that stands as it did before the changes.
module _ {A : Type 0} (row : A → Row) (is_allowed : A → Bool) (key : RowKey) (changes : List Change) (before after : Store)
    (kept : (known : RowMap) → before.rows ≡ Some known → get (drafted changes known) key ≡ get (typed known) key) where
  why_unread : (fault : RowFault) → RefusesCell key changes before.rows fault → FailsBy before.rows (OfRows fault)
  why_unread (Bad at bytes) h = λ known is.
      let there : get (typed known) key ≡ Some (Err bytes) = sym (kept known is) ∙ of_known (λ known. get (drafted changes known) key ≡ Some (Err bytes)) before.rows known is h.1 in
      (subst (λ k. IsBad (typed known) k bytes) (sym h.0) (Malformed there), λ whole. whole-typed (typed known) key bytes whole there)
  why_unread Failed h = tt
  why_unread Memory h = tt

  pub fails-sees : (fault : RowFault) → Sees row is_allowed key changes before after (Err fault) → Fails before after (OfRows fault)
  fails-sees fault s = record { rows_are = s.rows_are; opened_at = s.opened_at; cause = s.counts; why = why_unread fault s.refused }

  pub stands-sees : (found : Option A) → Sees row is_allowed key changes before after (Ok found) → (known : RowMap) → before.rows ≡ Some known → get (typed known) key ≡ cell row found
  stands-sees found s known is = sym (kept known is) ∙ of_known (λ known. get (drafted changes known) key ≡ cell row found) before.rows known is s.found

-- a node that was read, over no changes, is the one that the rows have
pub node-seen : (inode : ℕ) (before after : Store) (found : Option NodeRow)
    → Sees OfNode is_node (node_key inode) [] before after (Ok found) → (known : RowMap) → before.rows ≡ Some known
    → node_row_at (typed known) inode ≡ node_in (row_in (cell OfNode found))
node-seen inode before after found s known is =
    ap (λ c. node_in (row_in c)) (stands-sees OfNode is_node (node_key inode) [] before after (as_stored (node_key inode) before) found s known is)

-- a reading over a new draft is one over no changes
pub seen-fresh : {A : Type 0} (row : A → Row) (is_allowed : A → Bool) (key : RowKey) (changes : List Change) (before after : Store) (result seen : Result (Option A) RowFault)
    → changes ≡ [] → result ≡ seen → Sees row is_allowed key changes before after result → Sees row is_allowed key [] before after seen
seen-fresh row is_allowed key changes before after result seen none is s =
    subst (Sees row is_allowed key [] before after) is (subst (λ (c : List Change). Sees row is_allowed key c before after result) none s)
