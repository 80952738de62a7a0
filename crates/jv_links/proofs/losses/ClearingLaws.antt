-- How what a rename replaces is removed: each exit, and what it answers of the file that the session keeps.
use Rattle.std.proofs.Common.{◌≡◌, ℕ, Bool, true, false, not, ◌&&◌, List, Option, None, Some, is_some, Result, Ok, Err, refl, sym, ap, ◌∙◌}
use Rattle.std.specs.Prelude.{IsErrAnd, if◌then◌else◌}
use Rattle.std.proofs.Math.Bool.{and-not_self}
use Rattle.jv_model.specs.declared.fault.Fault.{Fault}
use Rattle.jv_model.specs.declared.fault.TxFault.{TxFault}
use Rattle.jv_model.specs.promise.FiniteMap.{get}
use Rattle.jv_model.specs.promise.tree.Caller.{Caller}
use Rattle.jv_model.specs.promise.tree.Changes.{touched, drop_node, take_entry}
use Rattle.jv_model.specs.promise.tree.Removing.{remove_entry, remove_directory}
use Rattle.jv_model.specs.promise.tree.Renaming.{without_target}
use Rattle.jv_model.specs.promise.tree.Tree.{Tree, EntryKey, is_directory, is_sustained, has_entries}
use Rattle.jv_outside.specs.declared.batch.Change.{Change}
use Rattle.jv_outside.specs.promise.Store.{Store}
use Rattle.jv_volume.proofs.operations.ChangeLaws.{change_node-sustained}
use Rattle.jv_rows_drafts.specs.Drafting.{Drafting}
use Rattle.jv_rows_drafts.specs.Ready.{StandsAt, MayGo}
use Rattle.jv_links.specs.declared.fates.Fate.{Fate}
use Rattle.jv_links.specs.declared.fates.Removed.{Removed}
use Rattle.jv_links.specs.Removals.{MayLose, SaysFate, is_inode, kept_by, lost_at}
use Rattle.jv_links.specs.Replacements.{MayClear, SaysCleared}
use Rattle.jv_rows_drafts.proofs.DraftStepLaws.{steps-then, steps-ended, step-as, step-fails, step-value, drafting-err, drafting-exit}
use Rattle.jv_links.proofs.losses.RemovalStepLaws.{drops, stands_at, empty_apart, empty_goes}
use Rattle.jv_links.proofs.losses.UnlinkLaws.{kept-remove_entry}

module _ (t : Tree) (who : Caller) (place : EntryKey) (inode : ℕ) where
  abbrev by_kind : Bool → Tree
  by_kind b = elim b as (λ _. Tree) [
    | true ↦ remove_directory t who.now place inode
    | false ↦
        remove_entry t who place inode
  ]

  target_dir : is_directory t inode ≡ true → without_target t who place inode ≡ remove_directory t who.now place inode
  target_dir e = ap by_kind e

  target_leaf : is_directory t inode ≡ false → without_target t who place inode ≡ remove_entry t who place inode
  target_leaf e = ap by_kind e

  may_lose : MayClear t who place inode false → MayLose t who place inode
  may_lose m = record { whole = m.whole; is = m.is; leaf = m.kind; session = m.session; held = m.held; clock = m.clock }

  vacant_dir : MayClear t who place inode true → has_entries t inode ≡ false
  vacant_dir m = sym (ap (λ b. b && has_entries t inode) m.kind) ∙ m.vacant

  stands : MayClear t who place inode true → StandsAt t place inode
  stands m = stands_at t place inode m.whole m.is (empty_apart t place inode m.whole m.is m.kind (vacant_dir m))

module _ (who : Caller) (place : EntryKey) (inode : ℕ) (was : List Change) (before : Store) where
  abbrev step : Tree → Result Tree Fault
  step t = Ok (without_target t who place inode)

  -- ---- a directory

  module _ (now : ℕ) (same : who.now ≡ now) (taken : List Change) (middle : Store) where
    abbrev is_empty : Tree → Type 0
    is_empty t = MayClear t who place inode true

    abbrev takes : Tree → Result Tree Fault
    takes t = Ok (take_entry t now place)

    -- its entry wasn't taken
    pub clear-not_taken : (result : Result (Option Removed) TxFault) (fault : TxFault)
        → IsErrAnd result (λ e. e ≡ fault)
        → Drafting {A = Unit {0}} (λ t. StandsAt t place inode) was taken before middle (Err fault) takes
        → Drafting is_empty was taken before middle result step
    clear-not_taken result fault is d = drafting-exit is_empty was taken before middle step result fault is
        (step-fails (λ t. StandsAt t place inode) is_empty was taken before middle fault takes step
        (λ t. take_entry t now place)
        (λ t m. stands t who place inode m) (λ t m. refl) d)

    module _ (d : Drafting {A = Unit {0}} (λ t. StandsAt t place inode) was taken before middle (Ok tt) takes)
        (changes : List Change) (after : Store) where
      took : Drafting {A = Unit {0}} is_empty was taken before middle (Ok tt) takes
      took = step-as {A = Unit {0}} (λ t. StandsAt t place inode) is_empty was taken before middle
          (Ok (tt {0})) takes takes (λ t m. stands t who place inode m) (λ t m. refl) d

      goes : (t : Tree) → is_empty t → MayGo (take_entry t now place) inode
      goes t m = empty_goes t place inode m.whole m.is now m.kind (vacant_dir t who place inode m) m.goes

      -- its node wasn't dropped
      pub clear-not_dropped : (result : Result (Option Removed) TxFault) (fault : TxFault)
          → IsErrAnd result (λ e. e ≡ fault)
          → Drafting {A = Unit {0}} (λ t. MayGo t inode) taken changes middle after (Err fault) (drops inode)
          → Drafting is_empty was changes before after result step
      clear-not_dropped result fault is e = drafting-exit is_empty was changes before after step result fault is
          (steps-ended is_empty was taken changes before middle after (tt {0}) takes (λ t. take_entry t now place) took
          (λ known at bytes t m r. refl)
          (λ t. MayGo t inode) (drops inode) step (λ t. drop_node (take_entry t now place) inode) fault e
          (λ known at bytes t m r. goes t r) (λ known at bytes t m r. refl))

      -- it is gone
      pub clear-dropped : Drafting {A = Unit {0}} (λ t. MayGo t inode) taken changes middle after (Ok tt) (drops inode)
          → Drafting {A = Option Removed} is_empty was changes before after (Ok None) step
      clear-dropped e = step-value is_empty was changes before after (tt {0}) None step
          (steps-then is_empty was taken changes before middle after (tt {0}) takes (λ t. take_entry t now place) took
          (λ known at bytes t m r. refl)
          (λ t. MayGo t inode) (drops inode) step (Ok (tt {0})) e
          (λ known at bytes t m r. goes t r)
          (λ known at bytes t m r. ap (λ n. Ok (remove_directory t n place inode)) (sym same) ∙ ap Ok
          (sym (target_dir t who place inode r.kind))))

  -- no session keeps it
  pub clear-says_none : SaysCleared who place inode true was before (Ok None)
  clear-says_none known at bytes t m r = (
    λ i.
        ap (λ (u : Tree). is_sustained u who.sid i && not (is_sustained t who.sid i))
        (target_dir t who place inode r.kind)
        ∙ ap (λ p. is_some (get p (record { sid = who.sid; inode = i })) && not (is_sustained t who.sid i))
        (change_node-sustained t place.dir (touched who.now))
        ∙ and-not_self (is_sustained t who.sid i),
    ap (λ b. if b then None else Some (lost_at t who place inode)) r.kind,
  )

  -- ---- a file or a symlink

  abbrev is_leaf : Tree → Type 0
  is_leaf t = MayClear t who place inode false

  abbrev loses : Tree → Result Tree Fault
  loses t = Ok (remove_entry t who place inode)

  as_target : {A : Type 0} (changes : List Change) (after : Store) (result : Result A TxFault)
      → Drafting (λ t. MayLose t who place inode) was changes before after result loses
      → Drafting is_leaf was changes before after result step
  as_target changes after result d = step-as (λ t. MayLose t who place inode) is_leaf was changes before after result
      loses step
      (λ t m. may_lose t who place inode m) (λ t m. ap Ok (sym (target_leaf t who place inode m.kind))) d

  -- it didn't lose its entry
  pub clear-not_lost : (changes : List Change) (after : Store) (result : Result (Option Removed) TxFault)
      (fault : TxFault) → IsErrAnd result (λ e. e ≡ fault)
      → Drafting {A = Fate} (λ t. MayLose t who place inode) was changes before after (Err fault) loses
      → Drafting is_leaf was changes before after result step
  clear-not_lost changes after result fault is d = drafting-exit is_leaf was changes before after step result fault is
      (drafting-err is_leaf was changes before after step fault (as_target changes after (Err fault) d))

  -- it did
  pub clear-lost : (changes : List Change) (after : Store) (fate : Fate) (removed : Option Removed)
      → Drafting (λ t. MayLose t who place inode) was changes before after (Ok fate) loses
      → Drafting is_leaf was changes before after (Ok removed) step
  clear-lost changes after fate removed d = step-value is_leaf was changes before after fate removed step
      (as_target changes after (Ok fate) d)

  -- the session keeps it where that is its fate
  pub clear-says : (fate : Fate) → SaysFate who place inode was before (Ok fate)
      → SaysCleared who place inode false was before (Ok (Some (record { inode = inode; fate = fate })))
  clear-says fate says known at bytes t m r = (
    λ i.
        ap (λ (u : Tree). is_sustained u who.sid i && not (is_sustained t who.sid i))
        (target_leaf t who place inode r.kind)
        ∙ kept-remove_entry t who place inode (may_lose t who place inode r) i
        ∙ ap (λ f. is_inode (kept_by f inode) i) (sym (says known at bytes t m (may_lose t who place inode r))),
    ap (λ b. if b then None else Some (lost_at t who place inode)) r.kind
        ∙ ap (λ f. Some (record { inode = inode; fate = f })) (sym (says known at bytes t m (may_lose t who place inode r))),
  )
