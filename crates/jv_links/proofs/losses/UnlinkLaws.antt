-- How an unlink goes on once its entry is found, how it ends, and what it answers of the file that the session keeps.
use Rattle.std.proofs.Common.{◌≡◌, ℕ, ◌≤◌, Bool, true, false, not, ◌&&◌, ◌==◌, inl, inr, List, [], Option, None, Some, is_some, Result, Ok, Err}
use Rattle.std.proofs.Common.{refl, sym, ap, subst, ◌∙◌, arith, ne_eqb, eq-eqb}
use Rattle.std.specs.Prelude.{IsErrAnd}
use Rattle.std.proofs.Math.Bool.{and-not_self}
use Rattle.std.proofs.lemmas.Bool.{cases_eq, false_from_ne_true}
use Rattle.jv_model.specs.declared.basics.Who.{Who}
use Rattle.jv_model.specs.declared.fault.Down.{Down}
use Rattle.jv_model.specs.declared.fault.Fault.{Fault}
use Rattle.jv_model.specs.declared.fault.Fault.TheVariants.{NotPermitted}
use Rattle.jv_model.specs.declared.fault.TxFault.{TxFault}
use Rattle.jv_model.specs.declared.fault.TxFault.TheVariants.{Refused, Rows as OfRows}
use Rattle.jv_model.specs.declared.limits.TheConstants.{LAST_MOMENT, READ_ONLY_MODE, TRASH_ROOT}
use Rattle.jv_model.specs.declared.op.Reply.{Reply}
use Rattle.jv_model.specs.declared.op.Reply.TheVariants.{Done}
use Rattle.jv_model.specs.promise.FiniteMap.{Map, get, insert}
use Rattle.jv_model.specs.rows.RowFaults.{row_fault}
use Rattle.jv_model.specs.promise.tree.Caller.{Caller, Outcome, outcome, done}
use Rattle.jv_model.specs.promise.tree.Attempt.{◌>>=◌}
use Rattle.jv_model.specs.promise.tree.Changes.{touched, status_changed, put_node, put_entry, take_entry, with_node}
use Rattle.jv_model.specs.promise.tree.HourNames.{hour_at}
use Rattle.jv_model.specs.promise.tree.Removing.{Fate, Linked, Trashed, Sustained, Dropped, fate_of, with_fate, remove_entry, unlink}
use Rattle.jv_model.specs.promise.tree.Trash.{hour_inode, hour_place, trash_place, with_hour}
use Rattle.jv_model.specs.promise.tree.Tree.{Tree, Node, Directory, EntryKey, pair_key, new_node, node_at, is_directory, is_sustained}
use Rattle.jv_outside.specs.declared.batch.Change.{Change}
use Rattle.jv_outside.specs.promise.Store.{Store}
use Rattle.jv_outside.specs.Store.{Commits}
use Rattle.jv_rows.specs.Transactions.{IsFor, Transacts, Always}
use Rattle.jv_rows.proofs.transactions.TransactionLaws.{Past, fails-commit, transacts-refused}
use Rattle.jv_volume.specs.promise.TreeOf.{tree_of}
use Rattle.jv_volume.specs.promise.TypedRows.{typed}
use Rattle.jv_volume.proofs.operations.ChangeLaws.{change_node-sustained}
use Rattle.jv_volume.proofs.shapes.RemovalLaws.{whole-remove_entry}
use Rattle.jv_volume.proofs.shapes.ShapeMapLaws.{get-inserted, get-insert_apart, pair_of, counted_once}
use Rattle.jv_volume.proofs.stored.StoredLaws.{whole-shape}
use Rattle.jv_rows_drafts.specs.Drafting.{Drafting}
use Rattle.jv_rows_drafts.proofs.DraftingLaws.{PastSteps, OfWhole, steps-start, steps-on, steps-stop, steps-fail, steps-commit, transacts-error}
use Rattle.jv_links.specs.declared.fates.Fate.{Fate as Told}
use Rattle.jv_links.specs.declared.removing.Removable.{Removable}
use Rattle.jv_links.specs.Removable.{removable_at, removable_place, unlinked, ComesToRemovable}
use Rattle.jv_links.specs.Removals.{HoldsFiles, MayLose, SaysFate, SaysRemoved, SaysSustained, fate_in, is_inode, kept_by, lost_at}
use Rattle.jv_links.proofs.losses.RemovingLaws.{unlink_at, unlink-is, removing-comes, removing-at, removing-kind, past-refused, past-passes}

-- ---- what the session keeps after a removal, and didn't before

-- an hour's directory is no sustained file
with_hour-sustained : (t : Tree) (now hour : ℕ) → (with_hour t now hour).sustained ≡ t.sustained
unfolding with_hour
with_hour-sustained t now hour = by_node (node_at t (hour_inode hour))
  where
    hour_node : Node
    hour_node = new_node (Directory TRASH_ROOT) READ_ONLY_MODE now

    by_node : (o : Option Node) → (elim o as (λ _. Tree) [
      | None ↦ with_node t now (hour_place hour) (hour_inode hour) hour_node
      | Some node ↦ t
    ]).sustained ≡ t.sustained
    by_node None = change_node-sustained (put_node t (hour_inode hour) hour_node) TRASH_ROOT (touched now)
    by_node (Some node) = refl

module _ (t : Tree) (who : Caller) (place : EntryKey) (inode : ℕ) (may : MayLose t who place inode) (i : ℕ) where
  abbrev less : Tree
  less = take_entry t who.now place

  -- whether the session keeps an inode then, and not before
  abbrev newly : Tree → Bool
  newly after = is_sustained after who.sid i && not (is_sustained t who.sid i)

  less_pairs : less.sustained ≡ t.sustained
  less_pairs = change_node-sustained t place.dir (touched who.now)

  none_new : (after : Tree) → after.sustained ≡ t.sustained → newly after ≡ false
  none_new after same =
      ap (λ (m : Map pair_key (Unit {0})). is_some (get m (pair_of who.sid i)) && not (is_sustained t who.sid i)) same
      ∙ and-not_self (is_sustained t who.sid i)

  trashed_pairs : (with_fate Trashed less who place inode).sustained ≡ t.sustained
  trashed_pairs =
      let hour = hour_at who.now in
      let at = trash_place hour place inode in
      change_node-sustained (put_entry (with_hour less who.now hour) who.now at inode) inode (status_changed who.now)
      ∙ change_node-sustained (with_hour less who.now hour) at.dir (touched who.now)
      ∙ with_hour-sustained less who.now hour
      ∙ less_pairs

  -- what has an entry isn't kept
  not_kept : is_sustained t who.sid inode ≡ false
  not_kept = false_from_ne_true _ (λ kept.
      let none = (may.whole.sustains who.sid inode kept).unnamed in
      let one = counted_once t.entries place inode may.is in
      absurd (omega (arith, none, one)))

  -- the pair that a kept inode adds
  abbrev added : ℕ → Bool
  added j = is_some (get (insert less.sustained (pair_of who.sid inode) tt) (pair_of who.sid j)) && not
      (is_sustained t who.sid j)

  kept_new : added i ≡ (inode == i)
  kept_new = elim (cases_eq i inode) [
    | inl same ↦ subst (λ (j : ℕ). added j ≡ (inode == j)) (sym same)
        (ap (λ (o : Option (Unit {0})). is_some o && not (is_sustained t who.sid inode))
        (get-inserted pair_key less.sustained (pair_of who.sid inode) tt)
        ∙ ap not not_kept ∙ sym (eq-eqb inode inode refl))
    | inr apart ↦
        ap (λ (o : Option (Unit {0})). is_some o && not (is_sustained t who.sid i))
        (get-insert_apart pair_key less.sustained (pair_of who.sid inode) tt (pair_of who.sid i)
        (λ e. apart (same_inode e)))
        ∙ none_new less less_pairs ∙ sym (ne_eqb inode i (λ e. apart (sym e)))
  ]
    where
      same_inode : pair_of who.sid i ≡ pair_of who.sid inode → i ≡ inode
      same_inode e = ap (λ p. p.inode) e

  kept_with : (f : Fate) → newly (with_fate f less who place inode) ≡ is_inode (kept_by (fate_in f) inode) i
  kept_with Linked = none_new (with_fate Linked less who place inode)
      (change_node-sustained less inode (status_changed who.now) ∙ less_pairs)
  kept_with Trashed = none_new (with_fate Trashed less who place inode) trashed_pairs
  kept_with Sustained = kept_new
  kept_with Dropped = none_new (with_fate Dropped less who place inode) less_pairs

  -- the session keeps what lost its entry where that is its fate, and nothing else is new
  pub kept-remove_entry : newly (remove_entry t who place inode) ≡
      is_inode (kept_by (fate_in (fate_of t who place inode)) inode) i
  unfolding remove_entry
  kept-remove_entry = kept_with (fate_of t who place inode)

-- ---- an unlink

module _ (who : Who) (caller : Caller) (is_for : IsFor who caller) (path : List ℕ) (before middle : Store)
    (entry : Removable)
    (c : ComesToRemovable before middle (Ok entry) (λ t. removable_at t who.sid path)) where
  abbrev removes : Tree → Result Outcome Fault
  removes t = unlink t caller path

  abbrev ready : Tree → Type 0
  ready t = HoldsFiles caller.held t

  abbrev says : {A : Type 0} → A → Reply
  says removed = Done

  abbrev place : EntryKey
  place = removable_place entry

  abbrev inode : ℕ
  inode = entry.node.inode

  abbrev rest : Tree → Result Outcome Fault
  rest t = done (remove_entry t caller place inode)

  came : Past before middle removes (λ t. unlink_at caller t place inode)
  came = removing-comes who caller is_for path before middle removes (unlink_at caller) (unlink-is caller path) entry c

  kind_is : (b : Bool) → (entry.node.node.kind == 2) ≡ b → OfWhole Always before (λ t. is_directory t inode ≡ b)
  kind_is b is = removing-kind who caller is_for path before middle removes (unlink_at caller) (unlink-is caller path)
      entry c b is

  -- it is a directory
  pub unlink-directory : {A : Type 0} → (entry.node.node.kind == 2) ≡ true
      → Transacts {A = A} ready before middle (Err (Refused NotPermitted)) says removes
  unlink-directory is = transacts-refused ready before middle says removes (Refused NotPermitted)
      (past-refused before middle removes rest (λ t. not (is_directory t inode)) NotPermitted came
      (λ known at whole bytes unit. ap not (kind_is true is known at whole bytes unit)))

  module _ (leaf : (entry.node.node.kind == 2) ≡ false) (seconds : ℕ) (now_is : seconds ≡ who.now)
      (clock : seconds ≤ LAST_MOMENT)
      (draft : List Change) (none : draft ≡ []) where
    begun : PastSteps ready before middle draft (λ t. t) removes rest
    begun = subst (λ ch. PastSteps ready before middle ch (λ t. t) removes rest) (sym none)
        (steps-start ready before middle removes rest
        (past-passes before middle removes rest (λ t. not (is_directory t inode)) NotPermitted came
        (λ known at whole bytes unit. ap not (kind_is false leaf known at whole bytes unit))))

    may : OfWhole ready before (λ t. MayLose t caller place inode)
    may known is whole bytes held =
        let t = tree_of bytes (typed known) in
        let at = removing-at who caller is_for path before middle removes (unlink_at caller) (unlink-is caller path)
        entry c known is whole bytes tt in
        record {
          whole = whole-shape bytes (typed known) whole;
          is = at.is;
          leaf = kind_is false leaf known is whole bytes tt;
          session = ap (λ sid. is_some (get t.sessions sid)) is_for.sid ∙ at.session;
          held = held;
          clock = subst (λ (n : ℕ). n ≤ LAST_MOMENT) (now_is ∙ sym is_for.now) clock;
        }

    module _ (lost : Store) (all : List Change) where
      abbrev loses : Tree → Result Tree Fault
      loses t = Ok (remove_entry t caller place inode)

      -- it didn't lose its entry
      pub unlink-not_lost : {A : Type 0} (result : Result A TxFault) (fault : TxFault)
          → IsErrAnd result (λ e. e ≡ fault)
          → Drafting {A = Told} (λ t. MayLose t caller place inode) draft all middle lost (Err fault) loses
          → Transacts ready before lost result says removes
      unlink-not_lost result fault is d = transacts-error ready before lost says removes result fault is
          (steps-stop ready before middle lost draft all (λ t. t) says removes rest begun fault
          (λ t. MayLose t caller place inode) loses d may
          (λ known at whole bytes held refused e. absurd (cc)))

      module _ (fate : Told) (d : Drafting (λ t. MayLose t caller place inode) draft all middle lost (Ok fate) loses)
          (last : Store) where
        abbrev left : Tree → Tree
        left t = remove_entry t caller place inode

        made : PastSteps ready before lost all left removes rest
        made = steps-on ready before middle lost draft all (λ t. t) removes rest begun fate
            (λ t. MayLose t caller place inode) loses left d may
            (λ known at whole bytes held. refl)

        -- the commit failed
        pub unlink-fails : {A : Type 0} (down : Down) → Commits lost last (Err down) all
            → Transacts {A = A} ready before last (Err (OfRows (row_fault down))) says removes
        unlink-fails down commits = steps-fail ready before lost last all all left says removes rest made
            (OfRows (row_fault down))
            (fails-commit lost last down all commits)

        -- it lost its entry
        pub unlink-done : {A : Type 0} (removed : A) → Commits lost last (Ok tt) all
            → Transacts ready before last (Ok removed) says removes
        unlink-done removed commits = steps-commit ready before lost last all all left says removes rest made removed
            commits
            (λ known is whole bytes held. refl)
            (λ known is whole bytes held.
            let m = may known is whole bytes held in
            whole-remove_entry (tree_of bytes (typed known)) caller place inode m.whole
            (record { is = m.is; leaf = m.leaf; session = m.session; held = m.held; clock = m.clock }))

    -- what it answers of what the session keeps
    pub unlink-says : (fate : Told) → SaysFate caller place inode draft middle (Ok fate)
        → SaysSustained caller.sid ready before (Some (Some (record { inode = inode; fate = fate }))) removes
    unlink-says fate fate_says known is whole bytes held i =
        let t = tree_of bytes (typed known) in
        let m = may known is whole bytes held in
        ap (λ r. is_sustained (outcome t r).tree caller.sid i && not (is_sustained t caller.sid i))
        (begun.goes_on known is whole bytes held)
        ∙ kept-remove_entry t caller place inode m i
        ∙ ap (λ f. is_inode (kept_by f inode) i)
        (sym (fate_says known (c.looks.rows_are ∙ is) bytes t (begun.minds known is whole bytes held) m))

    -- and of what lost its entry
    pub unlink-answers : (fate : Told) → SaysFate caller place inode draft middle (Ok fate)
        → SaysRemoved ready before (Some (Some (record { inode = inode; fate = fate }))) (λ t. unlinked t caller path)
    unlink-answers fate fate_says known is whole bytes held =
        let t = tree_of bytes (typed known) in
        let m = may known is whole bytes held in
        ap (λ sid. removable_at t sid path >>= (λ found. Ok (Some (lost_at t caller found.0 found.1)))) is_for.sid
        ∙ ap (λ r. r >>= (λ found. Ok (Some (lost_at t caller found.0 found.1)))) (c.looks.agrees known is whole bytes)
        ∙ ap (λ f. Ok (Some (record { inode = inode; fate = f })))
        (sym (fate_says known (c.looks.rows_are ∙ is) bytes t (begun.minds known is whole bytes held) m))
