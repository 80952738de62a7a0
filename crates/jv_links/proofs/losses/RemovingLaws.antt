-- How the removal of an entry goes on once the entry is found, and how it ends.
use Rattle.std.proofs.Common.{◌≡◌, ℕ, Bool, true, false, not, List, [], Option, None, Some, Result, Ok, Err, refl, sym, ap, subst, ◌∙◌}
use Rattle.std.specs.Prelude.{◌==◌, IsErrAnd}
use Rattle.jv_model.specs.declared.basics.Who.{Who}
use Rattle.jv_model.specs.declared.fault.Down.{Down}
use Rattle.jv_model.specs.declared.fault.Fault.{Fault}
use Rattle.jv_model.specs.declared.fault.Fault.TheVariants.{NotFound, NotADirectory, DirectoryNotEmpty, NotPermitted}
use Rattle.jv_model.specs.declared.fault.TxFault.{TxFault}
use Rattle.jv_model.specs.declared.fault.TxFault.TheVariants.{Refused, Rows as OfRows}
use Rattle.jv_model.specs.declared.op.Reply.{Reply}
use Rattle.jv_model.specs.declared.op.Reply.TheVariants.{Done}
use Rattle.jv_model.specs.promise.FiniteMap.{get}
use Rattle.jv_model.specs.rows.RowFaults.{row_fault}
use Rattle.jv_model.specs.promise.tree.Attempt.{◌>>=◌, require, some_or}
use Rattle.jv_model.specs.promise.tree.Caller.{Caller, Outcome, done, in_session}
use Rattle.jv_model.specs.promise.tree.Changes.{take_entry, drop_node}
use Rattle.jv_model.specs.promise.tree.Removing.{may_go, remove_entry, remove_directory, unlink, rmdir}
use Rattle.jv_model.specs.promise.tree.Tree.{Tree, EntryKey, is_directory, has_entries}
use Rattle.jv_model.specs.promise.tree.Walk.{entry_of}
use Rattle.jv_outside.specs.declared.batch.Change.{Change}
use Rattle.jv_outside.specs.promise.Store.{Store}
use Rattle.jv_outside.specs.Store.{Commits}
use Rattle.jv_rows.specs.Transactions.{IsFor, Looks, Transacts, Always}
use Rattle.jv_rows.proofs.walks.ArrivalLaws.{has-node}
use Rattle.jv_rows.proofs.transactions.TransactionLaws.{Past, past-start, past-as, past-looks, past-stops, past-refuses, fails-commit, transacts-exit, transacts-refused}
use Rattle.jv_volume.specs.promise.TypedRows.{typed}
use Rattle.jv_volume.specs.promise.TreeOf.{tree_of}
use Rattle.jv_volume.proofs.shapes.RemovalLaws.{whole-remove_directory}
use Rattle.jv_volume.proofs.stored.StoredLaws.{whole-shape}
use Rattle.jv_rows_drafts.specs.Drafting.{Drafting}
use Rattle.jv_rows_drafts.specs.Ready.{StandsAt, MayGo}
use Rattle.jv_rows_drafts.proofs.DraftingLaws.{PastSteps, OfWhole, steps-start, steps-on, steps-stop, steps-fail, steps-commit, transacts-error}
use Rattle.jv_links.specs.declared.removing.Removable.{Removable}
use Rattle.jv_links.specs.Removable.{removable_at, removable_place, ComesToRemovable}
use Rattle.jv_links.proofs.entries.RemovableLaws.{IsRemovable, is_removable}
use Rattle.jv_links.proofs.losses.RemovalStepLaws.{drops, stands_at, empty_apart, empty_goes}

-- ---- the operations by their parts

abbrev pair_at : EntryKey → ℕ → Result (EntryKey × ℕ) Fault
pair_at place inode = Ok (place, inode)

by_parts : {B : Type 0} (session : Result (Unit {0}) Fault) (entry : Result EntryKey Fault) (may : EntryKey → Bool)
    (named : EntryKey → Option ℕ) (next : EntryKey → ℕ → Result B Fault)
    → (session >>= (λ _. entry >>=
    (λ place. require (may place) NotPermitted >>= (λ _. some_or (named place) NotFound >>= next place))))
    ≡ ((session >>= (λ _. entry >>=
    (λ place. require (may place) NotPermitted >>= (λ _. some_or (named place) NotFound >>= pair_at place)))) >>=
    (λ e. next e.0 e.1))
by_parts (Err fault) entry may named next = refl
by_parts (Ok unit) (Err fault) may named next = refl
by_parts (Ok unit) (Ok place) may named next = by_test (may place) (named place)
  where
    by_test : (b : Bool) (o : Option ℕ) → (require b NotPermitted >>= (λ _. some_or o NotFound >>= next place))
        ≡ ((require b NotPermitted >>= (λ _. some_or o NotFound >>= pair_at place)) >>= (λ e. next e.0 e.1))
    by_test false o = refl
    by_test true None = refl
    by_test true (Some inode) = refl

-- what an unlink does with the entry
abbrev pub unlink_at : Caller → Tree → EntryKey → ℕ → Result Outcome Fault
unlink_at caller t place inode = require (not (is_directory t inode)) NotPermitted >>=
    (λ _. done (remove_entry t caller place inode))

-- what the removal of a directory does with it
abbrev pub vacant_at : Caller → Tree → EntryKey → ℕ → Result Outcome Fault
vacant_at caller t place inode = require (not (has_entries t inode)) DirectoryNotEmpty >>=
    (λ _. done (remove_directory t caller.now place inode))

abbrev pub rmdir_at : Caller → Tree → EntryKey → ℕ → Result Outcome Fault
rmdir_at caller t place inode = require (is_directory t inode) NotADirectory >>= (λ _. vacant_at caller t place inode)

pub unlink-is : (caller : Caller) (path : List ℕ) (t : Tree)
    → unlink t caller path ≡ (removable_at t caller.sid path >>= (λ e. unlink_at caller t e.0 e.1))
unfolding unlink
unlink-is caller path t = by_parts (in_session t caller) (entry_of t path) may_go (get t.entries) (unlink_at caller t)

pub rmdir-is : (caller : Caller) (path : List ℕ) (t : Tree)
    → rmdir t caller path ≡ (removable_at t caller.sid path >>= (λ e. rmdir_at caller t e.0 e.1))
unfolding rmdir
rmdir-is caller path t = by_parts (in_session t caller) (entry_of t path) may_go (get t.entries) (rmdir_at caller t)

-- ---- a test of what was read

module _ (before middle : Store) (act rest : Tree → Result Outcome Fault) (test : Tree → Bool) (fault : Fault)
    (p : Past before middle act (λ t. require (test t) fault >>= (λ _. rest t))) where
  pub past-passes : OfWhole Always before (λ t. test t ≡ true) → Past before middle act rest
  past-passes is = past-as before middle middle act (λ t. require (test t) fault >>= (λ _. rest t)) p rest
      (λ known at whole bytes. (let t = tree_of bytes (typed known) in
      ap (λ b. require b fault >>= (λ _. rest t)) (is known at whole bytes tt)))

  pub past-refused : OfWhole Always before (λ t. test t ≡ false)
      → Looks {A = Outcome} before middle (Err (Refused fault)) act
  past-refused is = past-refuses before middle act fault
      (past-as before middle middle act (λ t. require (test t) fault >>= (λ _. rest t)) p (λ t. Err fault)
      (λ known at whole bytes. (let t = tree_of bytes (typed known) in
      ap (λ b. require b fault >>= (λ _. rest t)) (is known at whole bytes tt))))

-- ---- the entry

module _ (who : Who) (caller : Caller) (is_for : IsFor who caller) (path : List ℕ) (before middle : Store) (act : Tree
    → Result Outcome Fault)
    (next : Tree → EntryKey → ℕ → Result Outcome Fault) (begins : (t : Tree)
    → act t ≡ (removable_at t caller.sid path >>= (λ e. next t e.0 e.1))) where
  abbrev finds : Tree → Result (EntryKey × ℕ) Fault
  finds t = removable_at t who.sid path

  starts : Past before before act (λ t. finds t >>= (λ e. next t e.0 e.1))
  starts = past-as before before before act act (past-start before act) (λ t. finds t >>= (λ e. next t e.0 e.1))
      (λ known at whole bytes. (let t = tree_of bytes (typed known) in
      begins t ∙ ap (λ sid. removable_at t sid path >>= (λ e. next t e.0 e.1)) is_for.sid))

  -- it wasn't found
  pub removing-stops : {A : Type 0} (ready : Tree → Type 0) (reply : A → Reply) (result : Result A TxFault)
      (fault : TxFault) → IsErrAnd result (λ e. e ≡ fault)
      → ComesToRemovable before middle (Err fault) (λ t. removable_at t who.sid path)
      → Transacts ready before middle result reply act
  removing-stops ready reply result fault is c =
      transacts-exit ready before middle reply act result fault is
      (past-stops before before middle act finds (λ t e. next t e.0 e.1) starts fault c.looks)

  module _ (entry : Removable) (c : ComesToRemovable before middle (Ok entry) (λ t. removable_at t who.sid path)) where
    -- it was found
    pub removing-comes : Past before middle act (λ t. next t (removable_place entry) entry.node.inode)
    removing-comes = past-looks before before middle act finds (λ t e. next t e.0 e.1) starts
        (removable_place entry, entry.node.inode) c.looks

    pub removing-at : OfWhole Always before (λ t. IsRemovable t who.sid (removable_place entry) entry.node.inode)
    removing-at known is whole bytes unit = is_removable (tree_of bytes (typed known)) who.sid path
        (removable_place entry) entry.node.inode (c.looks.agrees known is whole bytes)

    pub removing-kind : (b : Bool) → (entry.node.node.kind == 2) ≡ b
        → OfWhole Always before (λ t. is_directory t entry.node.inode ≡ b)
    removing-kind b is known at whole bytes unit =
        (has-node before middle entry.node.inode entry.node.node c.looks.rows_are c.stands known at whole
        bytes).directory ∙ is

-- ---- the removal of a directory

module _ (who : Who) (caller : Caller) (is_for : IsFor who caller) (path : List ℕ) (before middle : Store)
    (entry : Removable)
    (c : ComesToRemovable before middle (Ok entry) (λ t. removable_at t who.sid path)) where
  abbrev removes : Tree → Result Outcome Fault
  removes t = rmdir t caller path

  abbrev says : Unit {0} → Reply
  says unit = Done

  abbrev inode : ℕ
  inode = entry.node.inode

  came : Past before middle removes (λ t. rmdir_at caller t (removable_place entry) inode)
  came = removing-comes who caller is_for path before middle removes (rmdir_at caller) (rmdir-is caller path) entry c

  -- it is none
  pub rmdir-no_directory : (entry.node.node.kind == 2) ≡ false
      → Transacts Always before middle (Err (Refused NotADirectory)) says removes
  rmdir-no_directory is = transacts-refused Always before middle says removes (Refused NotADirectory)
      (past-refused before middle removes (λ t. vacant_at caller t (removable_place entry) inode) (λ t. is_directory t inode)
      NotADirectory came
      (removing-kind who caller is_for path before middle removes (rmdir_at caller) (rmdir-is caller path) entry c false
      is))

  module _ (two : (entry.node.node.kind == 2) ≡ true) (looked : Store) where
    directory : OfWhole Always before (λ t. is_directory t inode ≡ true)
    directory = removing-kind who caller is_for path before middle removes (rmdir_at caller)
        (rmdir-is caller path) entry c true two

    abbrev emptied : Tree → Bool → Result Outcome Fault
    emptied t some = require (not some) DirectoryNotEmpty >>=
        (λ _. done (remove_directory t caller.now (removable_place entry) inode))

    is_one : Past before middle removes (λ t. (let found : Result Bool Fault = Ok (has_entries t inode) in
        found) >>= emptied t)
    is_one = past-passes before middle removes (λ t. vacant_at caller t (removable_place entry) inode)
        (λ t. is_directory t inode) NotADirectory came directory

    -- whether it has entries wasn't read
    pub rmdir-unread : (result : Result (Unit {0}) TxFault) (fault : TxFault) → IsErrAnd result (λ e. e ≡ fault)
        → Looks {A = Bool} middle looked (Err fault) (λ t. Ok (has_entries t inode))
        → Transacts Always before looked result says removes
    rmdir-unread result fault is l = transacts-exit Always before looked says removes result fault is
        (past-stops before middle looked removes (λ t. Ok (has_entries t inode)) emptied is_one fault l)

    -- it has some
    pub rmdir-not_empty : Looks middle looked (Ok true) (λ t. Ok (has_entries t inode))
        → Transacts Always before looked (Err (Refused DirectoryNotEmpty)) says removes
    rmdir-not_empty l = transacts-refused Always before looked says removes (Refused DirectoryNotEmpty)
        (past-refuses before looked removes DirectoryNotEmpty
        (past-looks before middle looked removes (λ t. Ok (has_entries t inode)) emptied is_one true l))

    module _ (l : Looks middle looked (Ok false) (λ t. Ok (has_entries t inode))) (draft : List Change)
        (none : draft ≡ []) where
      vacant : OfWhole Always before (λ t. has_entries t inode ≡ false)
      vacant known is whole bytes unit = same_answer _ _ (l.agrees known (c.looks.rows_are ∙ is) whole bytes)
        where
          same_answer : (x y : Bool) → ◌≡◌ {A = Result Bool Fault} (Ok x) (Ok y) → x ≡ y
          same_answer x y e = cc

      abbrev rest : Tree → Result Outcome Fault
      rest t = done (remove_directory t caller.now (removable_place entry) inode)

      begun : PastSteps Always before looked draft (λ t. t) removes rest
      begun = subst (λ ch. PastSteps Always before looked ch (λ t. t) removes rest) (sym none)
          (steps-start Always before looked removes rest
          (past-looks before middle looked removes (λ t. Ok (has_entries t inode)) emptied is_one false l))

      stands : OfWhole Always before (λ t. StandsAt t (removable_place entry) inode)
      stands known is whole bytes unit =
          let t = tree_of bytes (typed known) in
          let shape = whole-shape bytes (typed known) whole in
          let there = (removing-at who caller is_for path before middle removes (rmdir_at caller)
          (rmdir-is caller path) entry c known is whole bytes unit).is in
          stands_at t (removable_place entry) inode shape there
          (empty_apart t (removable_place entry) inode shape there (directory known is whole bytes unit)
          (vacant known is whole bytes unit))

      module _ (now : ℕ) (same : caller.now ≡ now) (taken : Store) (less : List Change) where
        abbrev takes : Tree → Result Tree Fault
        takes t = Ok (take_entry t now (removable_place entry))

        -- its entry wasn't taken
        pub rmdir-not_taken : (result : Result (Unit {0}) TxFault) (fault : TxFault) → IsErrAnd result (λ e. e ≡ fault)
            → Drafting {A = Unit {0}} (λ t. StandsAt t (removable_place entry) inode) draft less looked taken (Err fault) takes
            → Transacts Always before taken result says removes
        rmdir-not_taken result fault is d = transacts-error Always before taken says removes result fault is
            (steps-stop Always before looked taken draft less (λ t. t) says removes rest begun fault
            (λ t. StandsAt t (removable_place entry) inode) takes d stands
            (λ known at whole bytes unit refused e. absurd (cc)))

        module _ (d : Drafting {A = Unit {0}} (λ t. StandsAt t (removable_place entry) inode) draft less looked taken
            (Ok tt) takes) (gone : Store) (all : List Change) where
          abbrev without : Tree → Tree
          without t = take_entry t now (removable_place entry)

          took : PastSteps Always before taken less without removes rest
          took = steps-on Always before looked taken draft less (λ t. t) removes rest begun tt
              (λ t. StandsAt t (removable_place entry) inode) takes without d stands
              (λ known at whole bytes unit. refl)

          goes : OfWhole Always before (λ t. MayGo (without t) inode)
          goes known is whole bytes unit =
              let t = tree_of bytes (typed known) in
              let at = removing-at who caller is_for path before middle removes (rmdir_at caller)
              (rmdir-is caller path) entry c known is whole bytes unit in
              empty_goes t (removable_place entry) inode (whole-shape bytes (typed known) whole) at.is now
              (directory known is whole bytes unit) (vacant known is whole bytes unit) at.may

          -- its node wasn't dropped
          pub rmdir-not_dropped : (result : Result (Unit {0}) TxFault) (fault : TxFault)
              → IsErrAnd result (λ e. e ≡ fault)
              → Drafting {A = Unit {0}} (λ t. MayGo t inode) less all taken gone (Err fault) (drops inode)
              → Transacts Always before gone result says removes
          rmdir-not_dropped result fault is e = transacts-error Always before gone says removes result fault is
              (steps-stop Always before taken gone less all without says removes rest took fault
              (λ t. MayGo t inode) (drops inode) e goes
              (λ known at whole bytes unit refused e. absurd (cc)))

          module _ (e : Drafting {A = Unit {0}} (λ t. MayGo t inode) less all taken gone (Ok tt) (drops inode))
              (last : Store) where
            dropped : PastSteps Always before gone all (λ t. drop_node (without t) inode) removes rest
            dropped = steps-on Always before taken gone less all without removes rest took tt (λ t. MayGo t inode) (drops inode)
                (λ t. drop_node (without t) inode) e goes
                (λ known at whole bytes unit. refl)

            -- the commit failed
            pub rmdir-fails : (down : Down) → Commits gone last (Err down) all
                → Transacts Always before last (Err (OfRows (row_fault down))) says removes
            rmdir-fails down commits = steps-fail Always before gone last all all (λ t. drop_node (without t) inode)
                says removes rest dropped (OfRows (row_fault down))
                (fails-commit gone last down all commits)

            -- it is gone
            pub rmdir-done : Commits gone last (Ok tt) all → Transacts Always before last (Ok tt) says removes
            rmdir-done commits = steps-commit Always before gone last all all (λ t. drop_node (without t) inode) says
                removes rest dropped tt commits
                (λ known is whole bytes unit. (let t = tree_of bytes (typed known) in
                ap (λ n. done (remove_directory t n (removable_place entry) inode)) same))
                (λ known is whole bytes unit.
                let t = tree_of bytes (typed known) in
                let there = (removing-at who caller is_for path before middle removes (rmdir_at caller)
                (rmdir-is caller path) entry c known is whole bytes unit).is in
                whole-remove_directory t now (removable_place entry) inode (whole-shape bytes (typed known) whole) there
                (directory known is whole bytes unit) (vacant known is whole bytes unit))
