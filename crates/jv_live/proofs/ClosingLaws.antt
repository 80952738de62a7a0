-- A session that ends: its files are dropped one after another, and then it is gone.
use Rattle.std.proofs.Common.{◌≡◌, ◌≢◌, ℕ, ◌+◌, ◌-◌, ◌<◌, ◌≤◌, ◌^◌, Bool, true, false, List, [], inl, inr, Option, None, Some, Result, Ok, Err, refl, sym, ap, subst, ◌∙◌, arith, true≢false}
use Rattle.std.specs.Prelude.{is_some, nat_lt}
use Rattle.std.proofs.lemmas.Bool.{cases_order, lt-ltb, ltb-true, ltb-false}
use Rattle.jv_model.specs.declared.basics.Who.{Who}
use Rattle.jv_model.specs.declared.fault.Down.{Down}
use Rattle.jv_model.specs.declared.fault.Fault.{Fault}
use Rattle.jv_model.specs.declared.fault.TxFault.{TxFault}
use Rattle.jv_model.specs.declared.fault.TxFault.TheVariants.{Rows as OfRows}
use Rattle.jv_model.specs.declared.op.Reply.{Reply}
use Rattle.jv_model.specs.declared.op.Reply.TheVariants.{Done}
use Rattle.jv_model.specs.declared.row.Row.TheVariants.{OfSustained}
use Rattle.jv_model.specs.promise.FiniteMap.{get}
use Rattle.jv_model.specs.rows.RowFaults.{row_fault}
use Rattle.jv_model.specs.promise.rows.RowKeys.{RowMap}
use Rattle.jv_model.specs.promise.rows.RowPlaces.{sustained_key}
use Rattle.jv_model.specs.promise.tree.Attempt.{◌>>=◌}
use Rattle.jv_model.specs.promise.tree.Caller.{Caller, Outcome, done}
use Rattle.jv_model.specs.promise.tree.Changes.{drop_node}
use Rattle.jv_model.specs.promise.tree.Sessions.{umount, without_session}
use Rattle.jv_model.specs.promise.tree.Tree.{Tree, SustainedFile, pair_key, is_sustained}
use Rattle.jv_outside.specs.declared.batch.Change.{Change}
use Rattle.jv_outside.specs.promise.Store.{Store}
use Rattle.jv_outside.specs.Store.{Commits}
use Rattle.jv_rows.specs.Transactions.{IsFor, Looks, Transacts, Always}
use Rattle.jv_rows.proofs.transactions.NeedingLaws.{session_is}
use Rattle.jv_rows.proofs.transactions.TransactionLaws.{Past, past-start, past-as, past-calm, past-looks, past-stops, transacts-refused, fails-commit}
use Rattle.jv_volume.specs.promise.TypedRows.{Rows, typed}
use Rattle.jv_volume.specs.promise.TreeOf.{tree_of}
use Rattle.jv_volume.specs.promise.Shape.{WholeShape, shape_of}
use Rattle.jv_volume.specs.promise.Whole.{Whole}
use Rattle.jv_volume.proofs.operations.ReleaseLaws.{released_tree, released-kept, without_session-released, without_session-alone}
use Rattle.jv_volume.proofs.shapes.SessionShapeLaws.{whole-released, whole-without_session}
use Rattle.jv_volume.proofs.shapes.ShapeMapLaws.{get-removed, get-remove_apart, pair_of}
use Rattle.jv_volume.proofs.stored.StoredLaws.{whole-shape}
use Rattle.jv_volume.proofs.stored.TreeOfLaws.{is_sustained-tree_of, get-sustained-none}
use Rattle.jv_rows_drafts.specs.Drafting.{Drafting}
use Rattle.jv_rows_drafts.specs.Ready.{MayGo}
use Rattle.jv_rows_drafts.proofs.DraftingLaws.{PastSteps, steps-on, steps-stop, steps-fail, steps-commit}
use Rattle.jv_live.specs.Steps.{letting_go, ending_session, KeepsNone, FindsKept}
use Rattle.jv_rows.specs.Lists.{is_past, is_ahead}
use Rattle.jv_live.proofs.SessionLaws.{fresh-steps, not_made, steps-fell}
use Rattle.jv_live.proofs.KeptLaws.{kept-may_go, pair-kept}
use Rattle.jv_model.proofs.TestLaws.{of_known}

-- ---- the tree

-- a tree without the files of a session up to one
pub record Left (sid : ℕ) (after : Option ℕ) (t u : Tree) : Type 0 where
  pub same : without_session u sid ≡ without_session t sid
  pub shape : WholeShape (shape_of u)
  pub kept : (inode : ℕ) → is_past after inode ≡ true → is_sustained u sid inode ≡ is_sustained t sid inode
  pub gone : (inode : ℕ) → is_past after inode ≡ false → is_sustained u sid inode ≡ false

left-start : (sid : ℕ) (t : Tree) → WholeShape (shape_of t) → Left sid None t t
left-start sid t w = record { same = refl; shape = w; kept = λ j past. refl; gone = λ j past. absurd (true≢false past) }

past-on : (after : Option ℕ) (i j : ℕ) → is_past after i ≡ true → i < j → is_past after j ≡ true
past-on None i j past less = refl
past-on (Some a) i j past less = (let low = ltb-true a i past in lt-ltb a j (omega (arith, low, less)))

module _ (sid : ℕ) (after : Option ℕ) (t u : Tree) (l : Left sid after t u) where
  -- one file more
  module _ (i : ℕ) (past : is_past after i ≡ true) (is : is_sustained t sid i ≡ true)
      (between : (j : ℕ) → is_past after j ≡ true → nat_lt j i ≡ true → is_sustained t sid j ≡ false) where
    here : is_sustained u sid i ≡ true
    here = l.kept i past ∙ is

    abbrev v : Tree
    v = released_tree u sid i

    still : (j : ℕ) → j ≢ i → is_sustained v sid j ≡ is_sustained u sid j
    still j apart = ap is_some (get-remove_apart pair_key u.sustained (pair_of sid i) (pair_of sid j)
        (λ same. apart (ap (λ (p : SustainedFile). p.inode) same)))

    before_it : (j : ℕ) → j < i → (b : Bool) → is_past after j ≡ b → is_sustained u sid j ≡ false
    before_it j less true p = l.kept j p ∙ between j p (lt-ltb j i less)
    before_it j less false p = l.gone j p

    left-next : Left sid (Some i) t v
    left-next = record {
      same = ap (λ (w : Tree). without_session w sid) (sym (released-kept u sid i here)) ∙ without_session-released u sid i here ∙ l.same;
      shape = subst (λ (w : Tree). WholeShape (shape_of w)) (released-kept u sid i here) (whole-released u sid i l.shape);
      kept = λ j later. (let less = ltb-true i j later in
          still j (λ same. absurd (omega (arith, same, less))) ∙ l.kept j (past-on after i j past less));
      gone = λ j earlier. (let low : j ≤ i = ltb-false i j earlier in elim (cases_order j i) [
        | inl same ↦ ap (is_sustained v sid) same ∙ ap is_some (get-removed pair_key u.sustained (pair_of sid i))
        | inr other ↦ elim other [
          | inl less ↦ still j (λ same. absurd (omega (arith, same, less))) ∙ before_it j less (is_past after j) refl
          | inr more ↦ absurd (omega (arith, low, more))
        ]
      ]);
    }

  -- no file is left
  left-end : ((j : ℕ) → is_past after j ≡ true → is_sustained t sid j ≡ false) → ending_session sid u ≡ without_session t sid
  left-end none = sym (without_session-alone u sid (λ j. by_past j (is_past after j) refl)) ∙ l.same
    where
      by_past : (j : ℕ) (b : Bool) → is_past after j ≡ b → is_sustained u sid j ≡ false
      by_past j true p = l.kept j p ∙ none j p
      by_past j false p = l.gone j p

-- files that no row says to be kept
none-kept : (bytes : ℕ → ℕ → ℕ) (rows : Rows) (sid : ℕ) (after next : Option ℕ) → KeepsNone rows sid after next → (j : ℕ) → is_past after j ≡ true
    → is_ahead next j ≡ true
    → is_sustained (tree_of bytes rows) sid j ≡ false
none-kept bytes rows sid after next none j past ahead = by_size (nat_lt j (2 ^ 64)) refl
  where
    by_size : (b : Bool) → nat_lt j (2 ^ 64) ≡ b → is_sustained (tree_of bytes rows) sid j ≡ false
    by_size true small = (let less = ltb-true j (2 ^ 64) small in is_sustained-tree_of bytes rows sid j less ∙ none j less past ahead)
    by_size false large = ap is_some (get-sustained-none bytes rows sid j (ltb-false j (2 ^ 64) large))

-- ---- readings between steps

module _ (start s s2 : Store) (changes : List Change) (now : Tree → Tree) (act rest : Tree → Result Outcome Fault)
    (p : PastSteps Always start s changes now act rest) where
  pub steps-read : Looks s s2 (Ok (tt {0})) (λ t. Ok tt) → PastSteps Always start s2 changes now act rest
  steps-read l = record {
    rows_are = l.rows_are ∙ p.rows_are;
    opened_at = l.opened_at ∙ p.opened_at;
    calm = l.counts ∙ p.calm;
    formed = p.formed;
    minds = p.minds;
    goes_on = p.goes_on;
  }

  as_past : Past start s act rest
  as_past = record { rows_are = p.rows_are; opened_at = p.opened_at; calm = p.calm; goes_on = λ known is whole bytes. p.goes_on known is whole bytes tt }

  -- a reading that fails
  pub steps-lost : {A : Type 0} (reply : A → Reply) (fault : TxFault) → Looks {A = Unit {0}} s s2 (Err fault) (λ t. Ok tt)
      → Transacts {A = A} Always start s2 (Err fault) reply act
  steps-lost reply fault l = transacts-refused Always start s2 reply act fault (past-stops start s s2 act (λ t. Ok (tt {0})) (λ t _. rest t) as_past fault l)

-- ---- files that are dropped

pub record Dropping (sid : ℕ) (start s : Store) (changes : List Change) (after : Option ℕ) : Type 0 where
  pub now : Tree → Tree
  pub steps : PastSteps Always start s changes now done done
  pub left : (known : RowMap) → start.rows ≡ Some known → Whole (typed known) → (bytes : ℕ → ℕ → ℕ) → Left sid after (tree_of bytes (typed known))
      (now (tree_of bytes (typed known)))

pub dropping-start : (sid : ℕ) (start s : Store) (changes : List Change) → changes ≡ [] → Looks start s (Ok (tt {0})) (session_is sid)
    → Dropping sid start s changes None
dropping-start sid start s changes none l = record {
  now = λ t. t;
  steps = fresh-steps start s changes none done done (past-calm start start s done done (past-start start done) l.rows_are l.opened_at l.counts);
  left = λ known is whole bytes. left-start sid (tree_of bytes (typed known)) (whole-shape bytes (typed known) whole);
}

module _ (sid : ℕ) (start s : Store) (changes : List Change) (after : Option ℕ) (d : Dropping sid start s changes after) (s2 : Store) (inode : ℕ)
    (small : inode < 2 ^ 64)
    (f : FindsKept sid after s s2 (Ok (Some inode))) where
  pub dropping-found : PastSteps Always start s2 changes d.now done done
  dropping-found = steps-read start s s2 changes d.now done done d.steps f.looks

  kept_in : (known : RowMap) → start.rows ≡ Some known → (bytes : ℕ → ℕ → ℕ) → is_sustained (tree_of bytes (typed known)) sid inode ≡ true
  kept_in known is bytes = pair-kept bytes (typed known) sid inode small
      (of_known (λ known. get (typed known) (sustained_key sid inode) ≡ Some (Ok OfSustained)) s.rows known (d.steps.rows_are ∙ is) f.there)

  module _ (s3 : Store) (n : Looks s2 s3 (Ok (tt {0})) (λ t. Ok tt)) where
    pub dropping-there : PastSteps Always start s3 changes d.now done done
    dropping-there = steps-read start s2 s3 changes d.now done done dropping-found n

    module _ (d1 : List Change) (g : Drafting Always changes d1 s3 s3 (Ok (tt {0})) (λ t. Ok (letting_go sid inode t))) where
      abbrev let_go : Tree → Tree
      let_go t = letting_go sid inode (d.now t)

      pub dropping-let_go : PastSteps Always start s3 d1 let_go done done
      dropping-let_go = steps-on Always start s3 s3 changes d1 d.now done done dropping-there (tt {0}) Always (λ t. Ok (letting_go sid inode t)) let_go g
          (λ known is whole bytes ready. tt) (λ known is whole bytes ready. refl)

      pub dropping-may_go : (known : RowMap) → start.rows ≡ Some known → Whole (typed known) → (bytes : ℕ → ℕ → ℕ)
          → MayGo (let_go (tree_of bytes (typed known))) inode
      dropping-may_go known is whole bytes = (let l = d.left known is whole bytes in
          kept-may_go (d.now (tree_of bytes (typed known))) sid inode l.shape (l.kept inode f.past ∙ kept_in known is bytes))

      pub dropping-next : (s4 : Store) (d2 : List Change) → Drafting (λ t. MayGo t inode) d1 d2 s3 s4 (Ok (tt {0})) (λ t. Ok (drop_node t inode))
          → Dropping sid start s4 d2 (Some inode)
      dropping-next s4 d2 e = record {
        now = λ t. released_tree (d.now t) sid inode;
        steps = steps-on Always start s3 s4 d1 d2 let_go done done dropping-let_go (tt {0}) (λ t. MayGo t inode) (λ t. Ok (drop_node t inode))
            (λ t. released_tree (d.now t) sid inode) e
            (λ known is whole bytes ready. dropping-may_go known is whole bytes) (λ known is whole bytes ready. refl);
        left = λ known is whole bytes. (let t = tree_of bytes (typed known) in
            left-next sid after t (d.now t) (d.left known is whole bytes) inode f.past (kept_in known is bytes)
            (λ j past ahead. none-kept bytes (typed known) sid after (Some inode) (f.least known (d.steps.rows_are ∙ is) whole) j past ahead));
      }

-- how far there is to go
abbrev pub room_after : Option ℕ → ℕ
room_after None = 2 ^ 64
room_after (Some inode) = 2 ^ 64 - (inode + 1)

pub room-falls : (after : Option ℕ) (inode : ℕ) → inode < 2 ^ 64 → is_past after inode ≡ true → room_after (Some inode) < room_after after
room-falls None inode small past = omega (arith, small)
room-falls (Some last) inode small past = (let less = ltb-true last inode past in omega (arith, small, less))

-- ---- the exits

umount-is : (t : Tree) (who : Caller) → umount t who ≡ (session_is who.sid t >>= (λ _. done (without_session t who.sid)))
unfolding umount
umount-is t who = refl

module _ (who : Who) (caller : Caller) (asks : IsFor who caller) (start s1 : Store) where
  abbrev umounts : Tree → Result Outcome Fault
  umounts t = umount t caller

  abbrev reply : Unit {0} → Reply
  reply unit = Done

  abbrev ends : Tree → Result Outcome Fault
  ends t = done (without_session t who.sid)

  asked : Past start start umounts (λ t. session_is who.sid t >>= (λ _. ends t))
  asked = past-as start start start umounts umounts (past-start start umounts) (λ t. session_is who.sid t >>= (λ _. ends t)) (λ known is whole bytes.
      let t = tree_of bytes (typed known) in
      umount-is t caller ∙ ap (λ sid. session_is sid t >>= (λ _. done (without_session t sid))) asks.sid)

  -- the session is gone
  pub close-no_session : (fault : TxFault) → Looks {A = Unit {0}} start s1 (Err fault) (session_is who.sid) → Transacts {A = Unit {0}} Always start s1
      (Err fault) reply umounts
  close-no_session fault l = transacts-refused Always start s1 reply umounts fault
      (past-stops start start s1 umounts (session_is who.sid) (λ t _. ends t) asked fault l)

  module _ (l : Looks start s1 (Ok (tt {0})) (session_is who.sid)) (s : Store) (changes : List Change) (now : Tree → Tree)
      (idle : PastSteps Always start s changes now done done) where
    inside : Past start s1 umounts ends
    inside = past-looks start start s1 umounts (session_is who.sid) (λ t _. ends t) asked tt l

    closing : PastSteps Always start s changes now umounts ends
    closing = record {
      rows_are = idle.rows_are;
      opened_at = idle.opened_at;
      calm = idle.calm;
      formed = idle.formed;
      minds = idle.minds;
      goes_on = λ known is whole bytes ready. inside.goes_on known is whole bytes;
    }

    -- a reading fails
    pub close-lost : (s2 : Store) (fault : TxFault) → Looks {A = Unit {0}} s s2 (Err fault) (λ t. Ok tt) → Transacts {A = Unit {0}} Always start s2
        (Err fault) reply umounts
    close-lost s2 fault f = steps-lost start s s2 changes now umounts ends closing reply fault f

    -- memory runs out
    pub close-fell : (d1 : List Change) (step : Tree → Tree) (fault : TxFault) → Drafting {A = Unit {0}} Always changes d1 s s (Err fault) (λ t. Ok (step t))
        → Transacts {A = Unit {0}} Always start s (Err fault) reply umounts
    close-fell d1 step fault d = steps-fell start s s changes d1 now step reply umounts ends closing fault d

    -- a node isn't dropped
    pub close-stays : (s2 : Store) (d2 : List Change) (inode : ℕ) (fault : TxFault) → Drafting {A = Unit {0}} (λ t. MayGo t inode) changes d2 s s2
        (Err fault) (λ t. Ok (drop_node t inode))
        → ((known : RowMap) → start.rows ≡ Some known → Whole (typed known) → (bytes : ℕ → ℕ → ℕ) → MayGo (now (tree_of bytes (typed known))) inode)
        → Transacts {A = Unit {0}} Always start s2 (Err fault) reply umounts
    close-stays s2 d2 inode fault d may = steps-stop Always start s s2 changes d2 now reply umounts ends closing fault (λ t. MayGo t inode)
        (λ t. Ok (drop_node t inode)) d
        (λ known is whole bytes ready. may known is whole bytes)
        (λ known is whole bytes ready refused h. not_made (drop_node (now (tree_of bytes (typed known))) inode) refused h)

  -- no file is left
  module _ (l : Looks start s1 (Ok (tt {0})) (session_is who.sid)) (s : Store) (changes : List Change) (after : Option ℕ)
      (d : Dropping who.sid start s changes after)
      (s2 : Store) (f : FindsKept who.sid after s s2 (Ok None)) (d1 : List Change)
      (g : Drafting Always changes d1 s2 s2 (Ok (tt {0})) (λ t. Ok (ending_session who.sid t))) where
    abbrev last : Tree → Tree
    last t = ending_session who.sid (d.now t)

    ended : PastSteps Always start s2 d1 last umounts ends
    ended = steps-on Always start s2 s2 changes d1 d.now umounts ends
        (closing l s2 changes d.now (steps-read start s s2 changes d.now done done d.steps f.looks)) (tt {0}) Always
        (λ t. Ok (ending_session who.sid t)) last g (λ known is whole bytes ready. tt) (λ known is whole bytes ready. refl)

    last_is : (known : RowMap) → start.rows ≡ Some known → Whole (typed known) → (bytes : ℕ → ℕ → ℕ)
        → last (tree_of bytes (typed known)) ≡ without_session (tree_of bytes (typed known)) who.sid
    last_is known is whole bytes = (let t = tree_of bytes (typed known) in
        left-end who.sid after t (d.now t) (d.left known is whole bytes)
        (λ j past. none-kept bytes (typed known) who.sid after None (f.least known (d.steps.rows_are ∙ is) whole) j past refl))

    -- it is committed
    pub close-commits : (end : Store) → Commits s2 end (Ok tt) d1 → Transacts Always start end (Ok (tt {0})) reply umounts
    close-commits end commits = steps-commit Always start s2 end d1 d1 last reply umounts ends ended (tt {0}) commits
        (λ known is whole bytes ready. ap done (sym (last_is known is whole bytes)))
        (λ known is whole bytes ready. subst (λ (u : Tree). WholeShape (shape_of u)) (sym (last_is known is whole bytes))
        (whole-without_session (tree_of bytes (typed known)) who.sid (whole-shape bytes (typed known) whole)))

    -- it isn't committed
    pub close-uncommitted : (end : Store) (down : Down) → Commits s2 end (Err down) d1 → Transacts {A = Unit {0}} Always start end
        (Err (OfRows (row_fault down))) reply umounts
    close-uncommitted end down commits = steps-fail Always start s2 end d1 d1 last reply umounts ends ended (OfRows (row_fault down))
        (fails-commit s2 end down d1 commits)
