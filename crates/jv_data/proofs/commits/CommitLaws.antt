-- How a commit of bytes ends: each of its exits, by how it began.
use Rattle.std.proofs.Common.{Bool, ◌≡◌, ℕ, ◌+◌, true, false, List, length, Result, Ok, Err, refl, ap}
use Rattle.std.specs.Prelude.{nat_lt}
use Rattle.jv_model.specs.declared.fault.Fault.{Fault}
use Rattle.jv_model.specs.declared.fault.Fault.TheVariants.{NoSpace, TimedOut}
use Rattle.jv_model.specs.declared.fault.RowFault.TheVariants.{Bad, Failed, Memory}
use Rattle.jv_model.specs.declared.fault.TxFault.{TxFault}
use Rattle.jv_model.specs.declared.fault.TxFault.TheVariants.{Refused, Moved, Rows as OfRows}
use Rattle.jv_model.specs.declared.lifetimes.TheConstants.{UPLOAD_LIFE}
use Rattle.jv_model.specs.promise.tree.Attempt.{◌>>=◌, require}
use Rattle.jv_model.specs.promise.tree.FileBytes.{committed}
use Rattle.jv_model.specs.tree.FileBytes.{length_seen, commit_of}
use Rattle.jv_model.specs.promise.tree.Tree.{Tree, fits}
use Rattle.jv_outside.specs.declared.batch.Change.{Change}
use Rattle.jv_outside.specs.promise.Store.{Store}
use Rattle.jv_rows.specs.Transactions.{Agrees, Looks}
use Rattle.jv_rows.proofs.transactions.TransactionLaws.{Past, Fails, past-ends, past-fails}
use Rattle.jv_volume.specs.promise.TypedRows.{typed}
use Rattle.jv_volume.specs.promise.TreeOf.{tree_of}
use Rattle.jv_data.specs.Committing.{BeginsCommit}

-- ---- a commit that began

goes_through : {A : Type 0} (r : Result ℕ Fault) (a b : Bool) (late full : Fault) (x : A)
    → ◌≡◌ {A = Result (Unit {0}) Fault} ((r >>= (λ length. require a late >>= (λ unit. require b full >>= (λ unit. Ok x)))) >>= (λ left. Ok tt)) (Ok tt)
    → r >>= (λ length. require a late >>= (λ unit. require b full >>= (λ unit. Ok x))) ≡ Ok x
goes_through (Err fault) a b late full x e = absurd (cc)
goes_through (Ok n) false b late full x e = absurd (cc)
goes_through (Ok n) true false late full x e = absurd (cc)
goes_through (Ok n) true true late full x e = refl

-- a reading of which the model sees nothing can't be refused
any_model : {A : Type 0} (fault : TxFault) (model : Result A Fault) → Agrees {A = Unit {0}} (Err fault) (Ok tt) → Agrees {A = A} (Err fault) model
any_model (Refused fault) model h = absurd (cc)
any_model (Moved list) model h = h
any_model (OfRows (Bad at bytes)) model h = h
any_model (OfRows Failed) model h = tt
any_model (OfRows Memory) model h = tt

pub looks-any : {A : Type 0} (before after : Store) (fault : TxFault) (act : Tree → Result A Fault)
    → Looks {A = Unit {0}} before after (Err fault) (λ t. Ok tt) → Looks {A = A} before after (Err fault) act
looks-any before after fault act l = record {
  rows_are = l.rows_are;
  opened_at = l.opened_at;
  counts = l.counts;
  agrees = λ known is whole bytes. any_model fault (act (tree_of bytes (typed known))) (l.agrees known is whole bytes);
  bad = l.bad;
}

module _ (sid now inode end started : ℕ) where
  -- the model's commit of bytes that end there
  abbrev pub act : ℕ → List ℕ → Tree → Result Tree Fault
  act from patch = commit_of sid inode from patch started now

  -- whatever bytes end there
  abbrev pub Each : (ℕ → List ℕ → Type 0) → Type 0
  Each P = (from : ℕ) (patch : List ℕ) → from + length patch ≡ end → P from patch

  -- the model's commit is refused
  abbrev pub RefusedBy : Store → Store → TxFault → Type 0
  RefusedBy before after fault = Each (λ from patch. Looks {A = Tree} before after (Err fault) (act from patch))

  pub commit-unbegun : (before after : Store) (changes : List Change) (fault : TxFault)
      → BeginsCommit sid now inode end started before after changes (Err fault) → RefusedBy before after fault
  commit-unbegun before after changes fault b from patch reaches = record {
    rows_are = l.rows_are;
    opened_at = l.opened_at;
    counts = l.counts;
    agrees = λ known is whole bytes. same fault (act from patch (tree_of bytes (typed known))) (l.agrees known is whole bytes);
    bad = l.bad;
  }
    where
      l : Looks {A = Unit {0}} before after (Err fault) (λ t. act from patch t >>= (λ left. Ok tt))
      l = b.looks from patch reaches

      stays : (r : Result Tree Fault) (fault : Fault) → ◌≡◌ {A = Result (Unit {0}) Fault} (r >>= (λ left. Ok tt)) (Err fault) → r ≡ Err fault
      stays (Ok x) fault e = absurd (cc)
      stays (Err other) fault e = (let one : other ≡ fault = cc in ap (λ f. Err f) one)

      same : (fault : TxFault) (r : Result Tree Fault) → Agrees {A = Unit {0}} (Err fault) (r >>= (λ left. Ok tt)) → Agrees {A = Tree} (Err fault) r
      same (Refused fault) r h = stays r fault h
      same (Moved list) r h = h
      same (OfRows (Bad at bytes)) r h = h
      same (OfRows Failed) r h = tt
      same (OfRows Memory) r h = tt

  module _ (before middle : Store) (changes : List Change) (b : BeginsCommit sid now inode end started before middle changes (Ok tt)) where
    pub began : (from : ℕ) (patch : List ℕ) → from + length patch ≡ end → Past before middle (act from patch) (λ t. Ok (committed t now inode from patch))
    began from patch reaches =
        let l = b.looks from patch reaches in
        record {
          rows_are = l.rows_are;
          opened_at = l.opened_at;
          calm = l.counts;
          goes_on = λ known is whole bytes.
              let t = tree_of bytes (typed known) in
              goes_through (length_seen sid inode t) (nat_lt now (started + UPLOAD_LIFE)) (fits t (committed t now inode from patch)) (TimedOut started now) NoSpace
              (committed t now inode from patch) (l.agrees known is whole bytes);
        }

    -- what comes after it fails
    pub commit-fails : (after : Store) (fault : TxFault) → Fails middle after fault → RefusedBy before after fault
    commit-fails after fault f from patch reaches =
        past-fails before middle after (act from patch) (λ t. Ok (committed t now inode from patch)) (began from patch reaches) fault f

    pub commit-reads : (after : Store) (fault : TxFault) → Looks {A = Unit {0}} middle after (Err fault) (λ t. Ok tt) → RefusedBy before after fault
    commit-reads after fault l from patch reaches =
        past-ends before middle after (act from patch) (λ t. Ok (committed t now inode from patch)) (began from patch reaches) (Err fault)
        (looks-any middle after fault (λ t. Ok (committed t now inode from patch)) l)
