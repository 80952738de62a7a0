-- How a file or a symlink that lost its last entry goes to the trash, and how a session keeps it: each exit.
use Rattle.std.proofs.Common.{◌≡◌, ℕ, List, Result, Ok, Err, refl, sym, ap, subst, ◌∙◌}
use Rattle.std.specs.Prelude.{IsErrAnd}
use Rattle.jv_model.specs.declared.basics.Who.{Who}
use Rattle.jv_model.specs.declared.fault.Fault.{Fault}
use Rattle.jv_model.specs.declared.fault.TxFault.{TxFault}
use Rattle.jv_model.specs.promise.FiniteMap.{insert}
use Rattle.jv_model.specs.promise.tree.Caller.{Caller}
use Rattle.jv_model.specs.promise.tree.Changes.{status_changed, change_node, put_entry}
use Rattle.jv_model.specs.promise.tree.HourNames.{hour_at}
use Rattle.jv_model.specs.promise.tree.Removing.{sustained_by}
use Rattle.jv_model.specs.promise.tree.Trash.{hour_inode, with_hour, trash_place, trash_name, trashed}
use Rattle.jv_model.specs.promise.tree.Tree.{Tree, EntryKey}
use Rattle.jv_outside.specs.declared.batch.Change.{Change}
use Rattle.jv_outside.specs.promise.Store.{Store}
use Rattle.jv_rows.specs.Transactions.{IsFor, Always}
use Rattle.jv_volume.proofs.operations.ChangeLaws.{change_node-sustained}
use Rattle.jv_rows_drafts.specs.Drafting.{Drafting}
use Rattle.jv_rows_drafts.specs.Ready.{MayHaveHour, MayStandAt, IsThere, entry_put, sustaining}
use Rattle.jv_links.specs.Losses.{IsToTrash}
use Rattle.jv_rows_drafts.proofs.DraftStepLaws.{steps-then, steps-ended, step-as, step-fails, drafting-exit}
use Rattle.jv_links.proofs.entries.TrashEntryLaws.{trash_name-entry}
use Rattle.jv_links.proofs.losses.TrashStepLaws.{trash_hour, trash_stands, trash_enters, trash_there}

-- ---- the trash

module _ (now : ℕ) (place : EntryKey) (inode : ℕ) (start one : List Change) (before entered : Store) where
  abbrev ready : Tree → Type 0
  ready t = IsToTrash t now place inode

  abbrev ends : Tree → Result Tree Fault
  ends t = Ok (trashed t now place inode)

  abbrev hours : Tree → Result Tree Fault
  hours t = Ok (with_hour t now (hour_at now))

  -- the hour's directory wasn't entered
  pub trash-no_hour : (result : Result (Unit {0}) TxFault) (fault : TxFault) → IsErrAnd result (λ e. e ≡ fault)
      → Drafting {A = ℕ} (λ t. MayHaveHour t (hour_at now)) start one before entered (Err fault)
      (λ t. Ok (with_hour t now (hour_at now)))
      → Drafting ready start one before entered result ends
  trash-no_hour result fault is d = drafting-exit ready start one before entered ends result fault is
      (step-fails (λ t. MayHaveHour t (hour_at now)) ready start one before entered fault hours ends
      (λ t. with_hour t now (hour_at now)) (λ t r. trash_hour t now place inode r) (λ t r. refl) d)

  module _ (hour : ℕ) (hour_is : hour ≡ hour_inode (hour_at now))
      (d : Drafting (λ t. MayHaveHour t (hour_at now)) start one before entered (Ok hour)
      (λ t. Ok (with_hour t now (hour_at now))))
      (name : List ℕ) (name_is : name ≡ trash_name place inode) (two : List Change) (put : Store) where
    abbrev at : EntryKey
    at = trash_place (hour_at now) place inode

    abbrev given : EntryKey
    given = record { dir = hour; name = name }

    at_is : given ≡ trash_place (hour_at now) place inode
    at_is = λ i. record { dir = hour_is i; name = name_is i }

    hour_there : Drafting ready start one before entered (Ok hour) hours
    hour_there = step-as (λ t. MayHaveHour t (hour_at now)) ready start one before entered (Ok hour) hours hours
        (λ t r. trash_hour t now place inode r) (λ t r. refl) d

    putting : (r : Result (Unit {0}) TxFault)
        → Drafting (λ t. MayStandAt t given inode) one two entered put r (entry_put now given inode)
        → Drafting (λ t. MayStandAt t (trash_place (hour_at now) place inode) inode) one two entered put r
        (entry_put now (trash_place (hour_at now) place inode) inode)
    putting r e = subst (λ q. Drafting (λ t. MayStandAt t q inode) one two entered put r (entry_put now q inode)) at_is
        e

    -- its entry wasn't added
    pub trash-no_entry : (result : Result (Unit {0}) TxFault) (fault : TxFault) → IsErrAnd result (λ e. e ≡ fault)
        → Drafting {A = Unit {0}} (λ t. MayStandAt t (record { dir = hour; name = name }) inode) one two entered put
        (Err fault) (entry_put now (record { dir = hour; name = name }) inode)
        → Drafting ready start two before put result ends
    trash-no_entry result fault is e = drafting-exit ready start two before put ends result fault is
        (steps-ended ready start one two before entered put hour hours (λ t. with_hour t now (hour_at now)) hour_there
        (λ known at bytes t m r. refl)
        (λ t. MayStandAt t (trash_place (hour_at now) place inode) inode)
        (entry_put now (trash_place (hour_at now) place inode) inode) ends
        (λ t. put_entry (with_hour t now (hour_at now)) now (trash_place (hour_at now) place inode) inode) fault
        (putting (Err fault) e)
        (λ known at bytes t m r. trash_stands t now place inode r (trash_name-entry place inode r.name))
        (λ known at bytes t m r. trash_enters t now place inode r))

    -- it was, and its status changes or doesn't
    pub trash-ends : (result : Result (Unit {0}) TxFault) (all : List Change) (last : Store)
        → Drafting {A = Unit {0}} (λ t. MayStandAt t (record { dir = hour; name = name }) inode) one two entered put
        (Ok tt) (entry_put now (record { dir = hour; name = name }) inode)
        → Drafting (IsThere inode) two all put last result (λ t. Ok (change_node t inode (status_changed now)))
        → Drafting ready start all before last result ends
    trash-ends result all last e f =
        let puts = λ (t : Tree). entry_put now (trash_place (hour_at now) place inode) inode
        (with_hour t now (hour_at now)) in
        let both : Drafting {A = Unit {0}} ready start two before put (Ok tt) puts =
        steps-then ready start one two before entered put hour hours (λ t. with_hour t now (hour_at now)) hour_there
        (λ known at bytes t m r. refl)
        (λ t. MayStandAt t (trash_place (hour_at now) place inode) inode)
        (entry_put now (trash_place (hour_at now) place inode) inode) puts (Ok tt) (putting (Ok tt) e)
        (λ known at bytes t m r. trash_stands t now place inode r (trash_name-entry place inode r.name))
        (λ known at bytes t m r. refl) in
        steps-then ready start two all before put last tt puts
        (λ t. put_entry (with_hour t now (hour_at now)) now (trash_place (hour_at now) place inode) inode) both
        (λ known at bytes t m r. trash_enters t now place inode r)
        (IsThere inode) (λ t. Ok (change_node t inode (status_changed now))) ends result f
        (λ known at bytes t m r. trash_there t now place inode r) (λ known at bytes t m r. refl)

-- ---- a file that a session keeps

module _ (who : Who) (caller : Caller) (is_for : IsFor who caller) (inode : ℕ) (start one : List Change)
    (before changed : Store) where
  abbrev kept : Tree → Result Tree Fault
  kept t = Ok (sustained_by t caller inode)

  abbrev statused : Tree → Tree
  statused t = change_node t inode (status_changed who.now)

  -- its status wasn't changed
  pub keep-no_status : (result : Result (Unit {0}) TxFault) (fault : TxFault) → IsErrAnd result (λ e. e ≡ fault)
      → Drafting {A = Unit {0}} (IsThere inode) start one before changed (Err fault)
      (λ t. Ok (change_node t inode (status_changed who.now)))
      → Drafting (IsThere inode) start one before changed result (λ t. Ok (sustained_by t caller inode))
  keep-no_status result fault is d = drafting-exit (IsThere inode) start one before changed kept result fault is
      (step-fails (IsThere inode) (IsThere inode) start one before changed fault
      (λ t. Ok (change_node t inode (status_changed who.now))) kept statused (λ t r. r) (λ t r. refl) d)

  kept_is : (t : Tree) → sustaining who.sid inode (change_node t inode (status_changed who.now)) ≡ sustained_by t caller
      inode
  kept_is t =
      ap (λ m. record (statused t) { sustained = insert m (record { sid = who.sid; inode = inode }) tt })
      (change_node-sustained t inode (status_changed who.now))
      ∙ (λ i. record (change_node t inode (status_changed (sym is_for.now i)))
      { sustained = insert t.sustained (record { sid = sym is_for.sid i; inode = inode }) tt })

  -- it was, and the session keeps it or doesn't
  pub keep-ends : (result : Result (Unit {0}) TxFault) (all : List Change) (last : Store)
      → Drafting {A = Unit {0}} (IsThere inode) start one before changed (Ok tt)
      (λ t. Ok (change_node t inode (status_changed who.now)))
      → Drafting Always one all changed last result (λ t. Ok (sustaining who.sid inode t))
      → Drafting (IsThere inode) start all before last result (λ t. Ok (sustained_by t caller inode))
  keep-ends result all last d e =
      steps-then (IsThere inode) start one all before changed last tt
      (λ t. Ok (change_node t inode (status_changed who.now))) statused d (λ known at bytes t m r. refl)
      Always (λ t. Ok (sustaining who.sid inode t)) kept result e (λ known at bytes t m r. tt)
      (λ known at bytes t m r. ap (λ (x : Tree). (let left : Result Tree Fault = Ok x in left)) (kept_is t))
