-- How a release ends: each of its exits, by what was read and what was changed; and that a file that a session keeps may go.
use Rattle.std.proofs.Common.{◌≡◌, ◌≢◌, ℕ, ◌<◌, ◌^◌, true, false, List, [], Option, None, Some, Result, Ok, Err, refl, sym, ap, subst, ◌∙◌, true≢false, inl, inr}
use Rattle.std.specs.Prelude.{IsTrue, is_some, not, ◌&&◌}
use Rattle.std.specs.Int.{w64, from_be_bytes}
use Rattle.std.proofs.lemmas.Bool.{cases_order, lt-ltb, ne_eqb}
use Rattle.std.proofs.lemmas.Nat.{from_be_bytes-to_be_bytes_8}
use Rattle.jv_model.specs.declared.limits.TheConstants.{ROOT, TRASH_ROOT}
use Rattle.jv_model.specs.declared.basics.Who.{Who}
use Rattle.jv_model.specs.declared.fault.Fault.{Fault}
use Rattle.jv_model.specs.declared.fault.RowFault.{RowFault}
use Rattle.jv_model.specs.declared.fault.RowFault.TheVariants.{Bad}
use Rattle.jv_model.specs.declared.fault.TxFault.{TxFault}
use Rattle.jv_model.specs.declared.fault.TxFault.TheVariants.{Rows as OfRows}
use Rattle.jv_model.specs.declared.op.Reply.{Reply}
use Rattle.jv_model.specs.declared.op.Reply.TheVariants.{Done}
use Rattle.jv_model.specs.declared.row.Node.{Node as NodeRow}
use Rattle.jv_model.specs.declared.row.RowKey.{RowKey}
use Rattle.jv_model.specs.declared.row.Row.TheVariants.{OfNode, OfSustained}
use Rattle.jv_model.specs.promise.FiniteMap.{get}
use Rattle.jv_model.specs.promise.rows.RowGrammar.{is_node, node_bytes, node_of}
use Rattle.jv_model.specs.promise.rows.RowKeys.{RowMap, row_key, is_key_of}
use Rattle.jv_model.specs.promise.rows.RowPlaces.{node_key, sustained_key}
use Rattle.jv_model.specs.promise.tree.Attempt.{◌>>=◌}
use Rattle.jv_model.specs.promise.tree.Caller.{Caller, Outcome, done}
use Rattle.jv_model.specs.promise.tree.Changes.{drop_node}
use Rattle.jv_model.specs.promise.tree.Sessions.{release, released}
use Rattle.jv_model.specs.promise.tree.Tree.{Tree, node_at, is_counted, is_sustained}
use Rattle.jv_model.proofs.TestLaws.{none_if, if_some-by, of_known}
use Rattle.jv_outside.specs.declared.batch.Change.{Change}
use Rattle.jv_outside.specs.promise.Store.{Store}
use Rattle.jv_outside.specs.Store.{Commits}
use Rattle.jv_rows.specs.Drafts.{drafted, cell, Sees}
use Rattle.jv_rows.specs.Readings.{ReadsRow}
use Rattle.jv_rows.specs.Tables.{node_row}
use Rattle.jv_rows.specs.Transactions.{IsFor, Looks, Transacts, Always}
use Rattle.jv_rows.specs.promise.Transactions.{IsBad, NamesNone}
use Rattle.jv_rows.proofs.transactions.DraftLaws.{sees_stored}
use Rattle.jv_rows.proofs.transactions.NeedingLaws.{session_is}
use Rattle.jv_rows.proofs.transactions.TransactionLaws.{Past, past-start, past-as, past-calm, past-looks, past-stops, past-fails, fails-looks, fails-sees, stands-sees, transacts-refused, transacts-answers, none_kept}
use Rattle.jv_volume.specs.promise.TypedRows.{Rows, typed}
use Rattle.jv_volume.specs.promise.TreeOf.{tree_of}
use Rattle.jv_volume.specs.promise.Shape.{Form, Regular, Dir, WholeShape, Keeps, form_of, is_there, shape_of}
use Rattle.jv_volume.specs.promise.Views.{row_in, node_in, sustained_in}
use Rattle.jv_volume.specs.promise.Whole.{Whole, no_bytes}
use Rattle.jv_volume.proofs.operations.ReleaseLaws.{released_tree, released-kept, released-other}
use Rattle.jv_volume.proofs.shapes.SessionShapeLaws.{whole-released}
use Rattle.jv_volume.proofs.shapes.ShapeMapLaws.{tied_here, is_there-form, uncounted}
use Rattle.jv_volume.proofs.stored.StoredLaws.{whole-shape, no_node}
use Rattle.jv_volume.proofs.stored.TreeOfLaws.{is_sustained-tree_of}
use Rattle.jv_rows_drafts.specs.Drafting.{Drafting}
use Rattle.jv_rows_drafts.specs.Ready.{MayGo}
use Rattle.jv_rows_drafts.proofs.DraftingLaws.{PastSteps, steps-on, steps-stop, steps-commit}
use Rattle.jv_live.specs.Steps.{letting_go, HasPair}
use Rattle.jv_live.proofs.FindingLaws.{finds}
use Rattle.jv_live.proofs.SessionLaws.{fresh-steps, not_made, steps-fell}

-- ---- a file that a session keeps

not_dir : {A : Type 0} (f : Form) (parent : ℕ) → f ≡ Regular → f ≡ Dir parent → A
not_dir f parent e d = (let both = sym e ∙ d in absurd (cc))

module _ (t : Tree) (sid inode : ℕ) (w : WholeShape (shape_of t)) (is : is_sustained t sid inode ≡ true) where
  abbrev form : Form
  form = form_of (node_at t inode)

  keeps_it : Keeps (shape_of t) sid inode
  keeps_it = w.sustains sid inode is

  there_is : is_there form ≡ true
  there_is = ap is_there keeps_it.file

  pub kept-there : is_some (node_at t inode) ≡ true
  kept-there = sym (is_there-form (node_at t inode)) ∙ there_is

  apart_from : (top parent : ℕ) → (shape_of t).form top ≡ Dir parent → inode ≢ top
  apart_from top parent d same = not_dir form parent keeps_it.file (ap (shape_of t).form same ∙ d)

  -- a file's inode is below the trash, whose hours are directories
  kept_below : inode < TRASH_ROOT
  kept_below = elim (cases_order inode TRASH_ROOT) [
    | inl same ↦ absurd (apart_from TRASH_ROOT ROOT w.trash_there same)
    | inr other ↦ elim other [
      | inl low ↦ low
      | inr high ↦ not_dir form TRASH_ROOT keeps_it.file (w.hours inode there_is (lt-ltb TRASH_ROOT inode high)).1
    ]
  ]

  kept_counted : is_counted inode ≡ true
  kept_counted = (λ i. not (ne_eqb inode ROOT (apart_from ROOT ROOT w.root_there) i) && lt-ltb inode TRASH_ROOT kept_below i)

  -- the model lets it go, and then its node may go
  pub kept-may_go : MayGo (letting_go sid inode t) inode
  kept-may_go = record {
    there = kept-there;
    unnamed = λ at. uncounted t.entries at inode keeps_it.unnamed;
    counted = kept_counted;
    given = w.below inode there_is (lt-ltb inode TRASH_ROOT kept_below);
  }

-- the row of a pair is a file that the session keeps
pub pair-kept : (bytes : ℕ → ℕ → ℕ) (rows : Rows) (sid inode : ℕ) → inode < 2 ^ 64 → get rows (sustained_key sid inode) ≡ Some (Ok OfSustained)
    → is_sustained (tree_of bytes rows) sid inode ≡ true
pair-kept bytes rows sid inode small there = is_sustained-tree_of bytes rows sid inode small ∙ ap (λ o. sustained_in (row_in o)) there

pub pair-other : (bytes : ℕ → ℕ → ℕ) (rows : Rows) (sid inode : ℕ) → inode < 2 ^ 64 → get rows (sustained_key sid inode) ≡ None
    → is_sustained (tree_of bytes rows) sid inode ≡ false
pair-other bytes rows sid inode small there = is_sustained-tree_of bytes rows sid inode small ∙ ap (λ o. sustained_in (row_in o)) there

-- what there is of a unit
pub unit-there : (found : Option (Unit {0})) → is_some found ≡ true → found ≡ Some tt
unit-there None is = absurd (true≢false (sym is))
unit-there (Some unit) is = refl

-- ---- its node

module _ (sid inode : ℕ) (small : inode < 2 ^ 64) (before after : Store) (pair : HasPair before sid inode) where
  abbrev ReadsNode : Result (Option NodeRow) RowFault → Type 0
  ReadsNode result = ReadsRow node_of node_bytes is_node (node_key inode) before after result

  seen_node : (result : Result (Option NodeRow) RowFault) → ReadsNode result → Sees OfNode is_node (node_key inode) [] before after result
  seen_node result r = sees_stored OfNode node_of 2 node_row (node_key inode) refl node_bytes is_node [] before after result refl r

  -- it wasn't read
  pub node-unread : (fault : RowFault) → ReadsNode (Err fault) → Looks {A = Unit {0}} before after (Err (OfRows fault)) finds
  node-unread fault r = fails-looks before after finds (OfRows fault)
      (fails-sees OfNode is_node (node_key inode) [] before after (λ known is. none_kept [] (node_key inode) refl known) fault (seen_node (Err fault) r))

  -- it is there
  pub node-there : (found : Option NodeRow) → ReadsNode (Ok found) → Looks before after (Ok tt) finds
  node-there found r = record { rows_are = r.rows_are; opened_at = r.opened_at; counts = r.counts; agrees = λ known is whole bytes. refl; bad = tt }

  pair_there : (known : RowMap) → before.rows ≡ Some known → get (typed known) (sustained_key sid inode) ≡ Some (Ok OfSustained)
  pair_there known is = of_known (λ known. get (typed known) (sustained_key sid inode) ≡ Some (Ok OfSustained)) before.rows known is pair

  named_is : IsTrue (is_key_of (node_key (from_be_bytes w64 (sustained_key sid inode).b)) (node_key inode))
  named_is = ap (λ n. is_key_of (node_key n) (node_key inode)) (from_be_bytes-to_be_bytes_8 inode small) ∙ tied_here row_key (node_key inode)

  no_whole : (known : RowMap) → before.rows ≡ Some known → get (typed known) (node_key inode) ≡ None → Whole (typed known) → ⊥
  no_whole known is none whole =
      let rows = typed known in
      let there = kept-there (tree_of no_bytes rows) sid inode whole.tree (pair-kept no_bytes rows sid inode small (pair_there known is)) in
      absurd (true≢false (sym there ∙ ap is_some (no_node no_bytes rows inode (ap (λ o. node_in (row_in o)) none))))

  -- it isn't there, and so the pair's row is Bad
  pub node-gone : (key : RowKey) (bytes : List ℕ) → key ≡ sustained_key sid inode → bytes ≡ [] → (found : Option NodeRow) → is_some found ≡ false
      → ReadsNode (Ok found)
      → Looks {A = Unit {0}} before after (Err (OfRows (Bad key bytes))) finds
  node-gone key bytes key_is none found lost r = fails-looks before after finds (OfRows (Bad key bytes)) (record {
    rows_are = r.rows_are;
    opened_at = r.opened_at;
    cause = r.counts;
    why = λ known is. (let gone : get (typed known) (node_key inode) ≡ None = stands-sees OfNode is_node (node_key inode) [] before after
        (λ known is. none_kept [] (node_key inode) refl known) found (seen_node (Ok found) r) known is ∙ ap (cell OfNode) (none_if found lost) in (
          subst (λ k. IsBad (typed known) k bytes) (sym key_is) (NamesNone OfSustained (node_key inode) (pair_there known is) none named_is gone),
          no_whole known is gone,
        ));
  })

-- a pair that was read
pub has-pair : (sid inode : ℕ) (changes : List Change) → changes ≡ [] → (before after : Store) (unit : Unit {0})
    → Sees (λ unit. OfSustained) (λ unit. true) (sustained_key sid inode) changes before after (Ok (Some unit)) → HasPair after sid inode
has-pair sid inode changes none before after unit s = if_some-by (λ known. get (typed known) (sustained_key sid inode) ≡ Some (Ok OfSustained)) after.rows
    (λ known is. stands-sees (λ unit. OfSustained) (λ unit. true) (sustained_key sid inode) changes before after
    (λ known is. none_kept changes (sustained_key sid inode) none known) (Some unit) s known (sym s.rows_are ∙ is))

-- ---- release

release-is : (t : Tree) (who : Caller) → release t who ≡ (session_is who.sid t >>= (λ _. done (released t who.sid who.inode)))
unfolding release
release-is t who = refl

module _ (who : Who) (caller : Caller) (asks : IsFor who caller) (inode : ℕ) (small : inode < 2 ^ 64) (inode_is : caller.inode ≡ inode)
    (before s1 : Store) where
  abbrev releases : Tree → Result Outcome Fault
  releases t = release t caller

  abbrev reply : Unit {0} → Reply
  reply unit = Done

  abbrev ends : Tree → Result Outcome Fault
  ends t = done (released t who.sid inode)

  asked : Past before before releases (λ t. session_is who.sid t >>= (λ _. ends t))
  asked = past-as before before before releases releases (past-start before releases) (λ t. session_is who.sid t >>= (λ _. ends t)) (λ known is whole bytes.
      let t = tree_of bytes (typed known) in
      release-is t caller ∙ (λ i. session_is (asks.sid i) t >>= (λ _. done (released t (asks.sid i) (inode_is i)))))

  -- the session is gone
  pub release-no_session : (fault : TxFault) → Looks {A = Unit {0}} before s1 (Err fault) (session_is who.sid)
      → Transacts {A = Unit {0}} Always before s1 (Err fault) reply releases
  release-no_session fault l = transacts-refused Always before s1 reply releases fault
      (past-stops before before s1 releases (session_is who.sid) (λ t _. ends t) asked fault l)

  module _ (l : Looks before s1 (Ok (tt {0})) (session_is who.sid)) (changes : List Change) (none : changes ≡ []) (s2 : Store) where
    inside : Past before s1 releases ends
    inside = past-looks before before s1 releases (session_is who.sid) (λ t _. ends t) asked tt l

    abbrev SeesPair : Result (Option (Unit {0})) RowFault → Type 0
    SeesPair result = Sees (λ unit. OfSustained) (λ unit. true) (sustained_key who.sid inode) changes s1 s2 result

    pair_kept : (known : RowMap) → get (drafted changes known) (sustained_key who.sid inode) ≡ get (typed known) (sustained_key who.sid inode)
    pair_kept known = none_kept changes (sustained_key who.sid inode) none known

    -- the pair wasn't read
    pub release-unread : (fault : RowFault) → SeesPair (Err fault) → Transacts {A = Unit {0}} Always before s2 (Err (OfRows fault)) reply releases
    release-unread fault s = transacts-refused Always before s2 reply releases (OfRows fault) (past-fails before s1 s2 releases ends inside (OfRows fault)
        (fails-sees (λ unit. OfSustained) (λ unit. true) (sustained_key who.sid inode) changes s1 s2 (λ known is. pair_kept known) fault s))

    pair_read : (found : Option (Unit {0})) → SeesPair (Ok found) → Past before s2 releases ends
    pair_read found s = past-calm before s1 s2 releases ends inside s.rows_are s.opened_at s.counts

    pair_stands : (found : Option (Unit {0})) → SeesPair (Ok found) → (known : RowMap) → s1.rows ≡ Some known
        → get (typed known) (sustained_key who.sid inode) ≡ cell (λ unit. OfSustained) found
    pair_stands found s known is = stands-sees (λ unit. OfSustained) (λ unit. true) (sustained_key who.sid inode) changes s1 s2
        (λ known is. pair_kept known) found s known is

    -- the session doesn't keep the file
    pub release-other : SeesPair (Ok None) → Transacts Always before s2 (Ok (tt {0})) reply releases
    release-other s = transacts-answers Always before s2 reply releases (tt {0})
        (past-as before s2 s2 releases ends (pair_read None s) done (λ known is whole bytes.
        ap done (released-other (tree_of bytes (typed known)) who.sid inode
        (pair-other bytes (typed known) who.sid inode small (pair_stands None s known (l.rows_are ∙ is))))))

    module _ (unit : Unit {0}) (s : SeesPair (Ok (Some unit))) where
      past_pair : Past before s2 releases ends
      past_pair = pair_read (Some unit) s

      kept : (known : RowMap) → before.rows ≡ Some known → (bytes : ℕ → ℕ → ℕ) → is_sustained (tree_of bytes (typed known)) who.sid inode ≡ true
      kept known is bytes = pair-kept bytes (typed known) who.sid inode small (pair_stands (Some unit) s known (l.rows_are ∙ is))

      -- its node isn't there, or wasn't read
      pub release-lost : (s3 : Store) (fault : TxFault) → Looks {A = Unit {0}} s2 s3 (Err fault) (λ t. Ok tt)
          → Transacts {A = Unit {0}} Always before s3 (Err fault) reply releases
      release-lost s3 fault n = transacts-refused Always before s3 reply releases fault
          (past-stops before s2 s3 releases (λ t. Ok (tt {0})) (λ t _. ends t) past_pair fault n)

      module _ (s3 : Store) (n : Looks s2 s3 (Ok (tt {0})) (λ t. Ok tt)) (d1 : List Change) where
        begun : PastSteps Always before s3 changes (λ t. t) releases ends
        begun = fresh-steps before s3 changes none releases ends (past-looks before s2 s3 releases (λ t. Ok (tt {0})) (λ t _. ends t) past_pair tt n)

        -- memory ran out
        pub release-fell : (fault : TxFault) → Drafting {A = Unit {0}} Always changes d1 s3 s3 (Err fault) (λ t. Ok (letting_go who.sid inode t))
            → Transacts {A = Unit {0}} Always before s3 (Err fault) reply releases
        release-fell fault d = steps-fell before s3 s3 changes d1 (λ t. t) (letting_go who.sid inode) reply releases ends begun fault d

        module _ (d : Drafting Always changes d1 s3 s3 (Ok (tt {0})) (λ t. Ok (letting_go who.sid inode t))) (s4 : Store) (d2 : List Change) where
          let_go_steps : PastSteps Always before s3 d1 (letting_go who.sid inode) releases ends
          let_go_steps = steps-on Always before s3 s3 changes d1 (λ t. t) releases ends begun (tt {0}) Always (λ t. Ok (letting_go who.sid inode t))
              (letting_go who.sid inode) d
              (λ known is whole bytes ready. tt) (λ known is whole bytes ready. refl)

          may_go : (known : RowMap) → before.rows ≡ Some known → Whole (typed known) → (bytes : ℕ → ℕ → ℕ)
              → MayGo (letting_go who.sid inode (tree_of bytes (typed known))) inode
          may_go known is whole bytes = kept-may_go (tree_of bytes (typed known)) who.sid inode (whole-shape bytes (typed known) whole) (kept known is bytes)

          -- the node wasn't dropped
          pub release-stays : (fault : TxFault) → Drafting {A = Unit {0}} (λ t. MayGo t inode) d1 d2 s3 s4 (Err fault) (λ t. Ok (drop_node t inode))
              → Transacts {A = Unit {0}} Always before s4 (Err fault) reply releases
          release-stays fault e = steps-stop Always before s3 s4 d1 d2 (letting_go who.sid inode) reply releases ends let_go_steps fault
              (λ t. MayGo t inode) (λ t. Ok (drop_node t inode)) e
              (λ known is whole bytes ready. may_go known is whole bytes)
              (λ known is whole bytes ready refused h. not_made (drop_node (letting_go who.sid inode (tree_of bytes (typed known))) inode) refused h)

          -- it is committed
          pub release-commits : Drafting (λ t. MayGo t inode) d1 d2 s3 s4 (Ok (tt {0})) (λ t. Ok (drop_node t inode)) → (after : Store)
              → Commits s4 after (Ok tt) d2
              → Transacts Always before after (Ok (tt {0})) reply releases
          release-commits e after commits =
              let last = λ (t : Tree). released_tree t who.sid inode in
              steps-commit Always before s4 after d2 d2 last reply releases ends
              (steps-on Always before s3 s4 d1 d2 (letting_go who.sid inode) releases ends let_go_steps (tt {0}) (λ t. MayGo t inode)
              (λ t. Ok (drop_node t inode)) last e
              (λ known is whole bytes ready. may_go known is whole bytes) (λ known is whole bytes ready. refl))
              (tt {0}) commits
              (λ known is whole bytes ready. ap done (released-kept (tree_of bytes (typed known)) who.sid inode (kept known is bytes)))
              (λ known is whole bytes ready. subst (λ (u : Tree). WholeShape (shape_of u))
              (released-kept (tree_of bytes (typed known)) who.sid inode (kept known is bytes))
              (whole-released (tree_of bytes (typed known)) who.sid inode (whole-shape bytes (typed known) whole)))
