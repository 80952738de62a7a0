-- How one more entry comes, once file or symlink and place are found, and how it ends.
use Rattle.std.proofs.Common.{◌≡◌, ◌≢◌, ℕ, ◌≤◌, Bool, true, false, not, ◌&&◌, ◌||◌, List, [], Some, is_some, Result, Ok, Err, refl, sym, ap, subst, ◌∙◌, arith, le-leb}
use Rattle.std.specs.Prelude.{IsErrAnd, IsTrue, nat_le}
use Rattle.std.proofs.lemmas.Bool.{false≢true, not-true, or_parts}
use Rattle.jv_model.specs.declared.basics.Who.{Who}
use Rattle.jv_model.specs.declared.fault.Down.{Down}
use Rattle.jv_model.specs.declared.fault.Fault.{Fault}
use Rattle.jv_model.specs.declared.fault.Fault.TheVariants.{NoSpace, NotPermitted}
use Rattle.jv_model.specs.declared.fault.TxFault.{TxFault}
use Rattle.jv_model.specs.declared.fault.TxFault.TheVariants.{Rows as OfRows}
use Rattle.jv_model.specs.declared.limits.TheConstants.{MAX_LINKS}
use Rattle.jv_model.specs.declared.op.Reply.{Reply}
use Rattle.jv_model.specs.declared.op.Reply.TheVariants.{Done}
use Rattle.jv_model.specs.promise.FiniteMap.{get}
use Rattle.jv_model.specs.rows.RowFaults.{row_fault}
use Rattle.jv_model.specs.promise.tree.Attempt.{◌>>=◌, require}
use Rattle.jv_model.specs.promise.tree.Caller.{Caller, Outcome, done, in_session, session_there}
use Rattle.jv_model.specs.promise.tree.Changes.{status_changed, change_node, put_entry}
use Rattle.jv_model.specs.promise.tree.Making.{new_place, is_trashed, linked, link}
use Rattle.jv_model.specs.promise.tree.Tree.{Tree, EntryKey, is_directory, link_count, links_fit, node_at}
use Rattle.jv_model.specs.promise.tree.Walk.{inode_by}
use Rattle.jv_outside.specs.declared.batch.Change.{Change}
use Rattle.jv_outside.specs.promise.Store.{Store}
use Rattle.jv_outside.specs.Store.{Commits}
use Rattle.jv_rows.specs.declared.walking.EntryPlace.{EntryPlace}
use Rattle.jv_rows.specs.Transactions.{IsFor, Looks, Transacts, Always}
use Rattle.jv_rows.specs.Walks.{ComesToEntry}
use Rattle.jv_rows.proofs.walks.ArrivalLaws.{has-node}
use Rattle.jv_rows.proofs.transactions.TransactionLaws.{Past, past-start, past-as, past-looks, past-stops, fails-commit, transacts-exit}
use Rattle.jv_volume.specs.promise.Shape.{WholeShape, Shape, shape_of, is_there}
use Rattle.jv_volume.specs.promise.TypedRows.{typed}
use Rattle.jv_volume.specs.promise.TreeOf.{tree_of}
use Rattle.jv_volume.proofs.shapes.LinkedShapeLaws.{whole-linked}
use Rattle.jv_volume.proofs.sums.LinkLaws.{link_count-put_entry-leaf, same_links}
use Rattle.jv_volume.proofs.shapes.SameShapeLaws.{shape-status_changed}
use Rattle.jv_volume.proofs.shapes.ShapeMapLaws.{naming_apart, is_there-form, shape-put_entry}
use Rattle.jv_volume.proofs.stored.StoredLaws.{whole-shape}
use Rattle.jv_volume.proofs.shapes.WalkShapeLaws.{went_on, required, path_named}
use Rattle.jv_rows_drafts.specs.Drafting.{Drafting}
use Rattle.jv_rows_drafts.specs.Ready.{MayStandAt, IsThere, entry_put}
use Rattle.jv_rows_drafts.proofs.DraftingLaws.{PastSteps, OfWhole, steps-start, steps-on, steps-made, steps-stop, steps-fail, steps-commit, transacts-error}
use Rattle.jv_tree.specs.Entering.{new_pair, place_of, IsFreePlace}
use Rattle.jv_tree.proofs.MakeLaws.{by_pair, free_place}
use Rattle.jv_links.specs.Linkable.{linkable}
use Rattle.jv_model.specs.promise.Lists.{has_no_zero}
use Rattle.jv_model.proofs.TestLaws.{same_Ok, same_fault}

-- ---- the operation by its parts

-- the entry comes, where the link count isn't full
abbrev pub enters_at : ℕ → Tree → ℕ → EntryKey → Result Outcome Fault
enters_at now t inode place = require (links_fit (linked t now place inode) inode) NoSpace >>=
    (λ _. done (linked t now place inode))

abbrev pub links_at : Caller → List ℕ → Tree → ℕ → Result Outcome Fault
links_at caller to t inode = new_place t to >>= enters_at caller.now t inode

by_parts : {B : Type 0} (session : Result (Unit {0}) Fault) (node : Result ℕ Fault) (may : ℕ → Bool) (next : ℕ
    → Result B Fault)
    → (session >>= (λ _. node >>= (λ inode. require (may inode) NotPermitted >>= (λ _. next inode))))
    ≡ ((session >>= (λ _. node >>=
    (λ inode. require (may inode) NotPermitted >>= (λ _. (let found : Result ℕ Fault = Ok inode in found))))) >>=
    next)
by_parts (Err fault) node may next = refl
by_parts (Ok unit) (Err fault) may next = refl
by_parts (Ok unit) (Ok inode) may next = by_test (may inode)
  where
    by_test : (b : Bool) → (require b NotPermitted >>= (λ _. next inode)) ≡
        ((require b NotPermitted >>= (λ _. (let found : Result ℕ Fault = Ok inode in found))) >>= next)
    by_test false = refl
    by_test true = refl

link-is : (caller : Caller) (path to : List ℕ) (t : Tree)
    → link t caller path to ≡ (linkable t caller.sid path >>= links_at caller to t)
unfolding link
link-is caller path to t = by_parts (in_session t caller) (inode_by false t path)
    (λ inode. not (is_directory t inode || is_trashed t inode)) (links_at caller to t)

-- ---- what was found

record IsLinkable (t : Tree) (inode : ℕ) : Type 0 where
  leaf : is_directory t inode ≡ false
  untrashed : is_trashed t inode ≡ false
  at : EntryKey
  is : get t.entries at ≡ Some inode

is_linkable : (t : Tree) (w : WholeShape (shape_of t)) (sid : ℕ) (path : List ℕ) (inode : ℕ)
    → linkable t sid path ≡ Ok inode → IsLinkable t inode
is_linkable t w sid path inode h =
    let given = λ (i : ℕ). (let found : Result ℕ Fault = Ok i in found) in
    let test = λ (i : ℕ). require (not (is_directory t i || is_trashed t i)) NotPermitted >>= (λ _. given i) in
    let in_it = went_on (session_there t sid)
    (λ _. inode_by false t path >>= test) inode h in
    let walked = went_on (inode_by false t path) test inode in_it.2 in
    let may = went_on (require (not (is_directory t walked.0 || is_trashed t walked.0)) NotPermitted)
    (λ _. given walked.0) inode walked.2 in
    let both = or_parts (is_directory t walked.0) (is_trashed t walked.0)
    (not-true _ (required _ NotPermitted may.0 may.1)) in
    let same : walked.0 ≡ inode = same_Ok walked.0 inode may.2 in
    let entry = path_named t w false path walked.0 walked.1 both.0 in
    record {
      leaf = ap (is_directory t) (sym same) ∙ both.0;
      untrashed = ap (is_trashed t) (sym same) ∙ both.1;
      at = entry.at;
      is = entry.is ∙ ap Some same;
    }

-- ---- one more entry

module _ (t : Tree) (w : WholeShape (shape_of t)) (now : ℕ) (place : EntryKey) (inode : ℕ) (l : IsLinkable t inode)
    (f : IsFreePlace t place) where
  apart : place.dir ≢ inode
  apart e = false≢true (sym l.leaf ∙ ap (is_directory t) (sym e) ∙ f.within)

  node_there : is_some (node_at t inode) ≡ true
  node_there = sym (is_there-form (node_at t inode)) ∙ (w.entry l.at inode l.is).there

  may_stand : MayStandAt t place inode
  may_stand = record { free = f.free; name = f.name; within = f.within; there = node_there; apart = apart }

  still_there : IsThere inode (put_entry t now place inode)
  still_there =
      sym (is_there-form (node_at (put_entry t now place inode) inode))
      ∙ ap (λ (x : Shape). is_there (x.form inode)) (shape-put_entry t now place inode)
      ∙ is_there-form (node_at t inode) ∙ node_there

  -- the directory's link count stays
  dir_fits : link_count t place.dir ≤ MAX_LINKS → links_fit (put_entry t now place inode) place.dir ≡ true
  dir_fits low =
      let all = link_count-put_entry-leaf t now place inode place.dir f.free l.leaf in
      let none = naming_apart place.dir place inode (λ e. apart (sym e)) in
      le-leb (link_count (put_entry t now place inode) place.dir) MAX_LINKS (omega (arith, all, none, low))

  -- the change of status changes no link count
  node_fits : links_fit (put_entry t now place inode) inode ≡ links_fit (linked t now place inode) inode
  node_fits = ap (λ n. nat_le n MAX_LINKS)
      (sym (same_links (put_entry t now place inode) (linked t now place inode)
      (shape-status_changed (put_entry t now place inode) now inode) inode))

  -- a refusal of the entry
  refused_by : (fit : Bool) → links_fit (put_entry t now place inode) inode ≡ fit → link_count t place.dir ≤ MAX_LINKS
      → (refused : Fault)
      → entry_put now place inode t ≡ Err refused → enters_at now t inode place ≡ Err refused
  refused_by fit is low refused h =
      by_test fit is (sym (ap (λ b. require (b && links_fit (put_entry t now place inode) inode) NoSpace >>=
      (λ _. left)) (dir_fits low)
      ∙ ap (λ b. require b NoSpace >>= (λ _. left)) is) ∙ h)
    where
      left : Result Tree Fault
      left = Ok (put_entry t now place inode)

      by_test : (b : Bool) → links_fit (put_entry t now place inode) inode ≡ b
          → (require b NoSpace >>= (λ _. left)) ≡ Err refused → enters_at now t inode place ≡ Err refused
      by_test true e h = absurd (cc)
      by_test false e h =
          ap (λ b. require b NoSpace >>= (λ _. done (linked t now place inode))) (sym node_fits ∙ e)
          ∙ same_fault NoSpace refused h

  -- an entry that came
  put_made : (left : Tree) → entry_put now place inode t ≡ Ok left
      → (entry_put now place inode t ≡ Ok (put_entry t now place inode)) ×
      (links_fit (linked t now place inode) inode ≡ true)
  put_made left h = by_tests (links_fit (put_entry t now place inode) place.dir)
      (links_fit (put_entry t now place inode) inode) refl refl h
    where
      put : Result Tree Fault
      put = Ok (put_entry t now place inode)

      by_tests : (a b : Bool) → links_fit (put_entry t now place inode) place.dir ≡ a
          → links_fit (put_entry t now place inode) inode ≡ b
          → (require (a && b) NoSpace >>= (λ _. put)) ≡ Ok left
          → (entry_put now place inode t ≡ Ok (put_entry t now place inode)) ×
          (links_fit (linked t now place inode) inode ≡ true)
      by_tests true true e f h = ((λ i. require (e i && f i) NoSpace >>= (λ _. put)), sym node_fits ∙ f)
      by_tests true false e f h = absurd (cc)
      by_tests false b e f h = absurd (cc)

-- ---- the operation

abbrev says : Unit {0} → Reply
says unit = Done

module _ (who : Who) (caller : Caller) (is_for : IsFor who caller) (path to : List ℕ) (before middle : Store) where
  abbrev links : Tree → Result Outcome Fault
  links t = link t caller path to

  abbrev finds : Tree → Result ℕ Fault
  finds t = linkable t who.sid path

  starts : Past before before links (λ t. finds t >>= links_at caller to t)
  starts = past-as before before before links links (past-start before links) (λ t. finds t >>= links_at caller to t)
      (λ known is whole bytes. (let t = tree_of bytes (typed known) in
      link-is caller path to t ∙ ap (λ sid. linkable t sid path >>= links_at caller to t) is_for.sid))

  -- nothing was found that may have one more entry
  pub link-not_found : (result : Result (Unit {0}) TxFault) (fault : TxFault) → IsErrAnd result (λ e. e ≡ fault)
      → Looks {A = ℕ} before middle (Err fault) (λ t. linkable t who.sid path)
      → Transacts Always before middle result (λ unit. Done) (λ t. link t caller path to)
  link-not_found result fault is l = transacts-exit Always before middle says links result fault is
      (past-stops before before middle links finds (λ t. links_at caller to t) starts fault l)

  module _ (inode : ℕ) (l : Looks before middle (Ok inode) (λ t. linkable t who.sid path)) (placed : Store) where
    abbrev at_pair : Tree → ℕ × List ℕ → Result Outcome Fault
    at_pair t pair = enters_at caller.now t inode (record { dir = pair.0; name = pair.1 })

    found : Past before middle links (λ t. new_pair t to >>= at_pair t)
    found = past-as before middle middle links (λ t. links_at caller to t inode)
        (past-looks before before middle links finds (λ t. links_at caller to t) starts inode l)
        (λ t. new_pair t to >>= at_pair t) (λ known is whole bytes. (let t = tree_of bytes (typed known) in
        by_pair (new_place t to) (enters_at caller.now t inode)))

    -- no place was found
    pub link-no_place : (result : Result (Unit {0}) TxFault) (fault : TxFault) → IsErrAnd result (λ e. e ≡ fault)
        → ComesToEntry middle placed (Err fault) (λ t. new_pair t to)
        → Transacts Always before placed result (λ unit. Done) (λ t. link t caller path to)
    link-no_place result fault is c = transacts-exit Always before placed says links result fault is
        (past-stops before middle placed links (λ t. new_pair t to) at_pair found fault c.looks)

    module _ (place : EntryPlace) (c : ComesToEntry middle placed (Ok place) (λ t. new_pair t to))
        (plain : IsTrue (has_no_zero to))
        (draft : List Change) (none : draft ≡ []) (now : ℕ) (same : caller.now ≡ now) (put : Store)
        (more : List Change) where
      abbrev rest : Tree → Result Outcome Fault
      rest t = enters_at caller.now t inode (place_of place)

      begun : PastSteps Always before placed draft (λ t. t) links rest
      begun = subst (λ ch. PastSteps Always before placed ch (λ t. t) links rest) (sym none)
          (steps-start Always before placed links rest
          (past-looks before middle placed links (λ t. new_pair t to) at_pair found (place.dir.inode, place.name)
          c.looks))

      source : OfWhole Always before (λ t. IsLinkable t inode)
      source known is whole bytes unit = is_linkable (tree_of bytes (typed known))
          (whole-shape bytes (typed known) whole) who.sid path inode (l.agrees known is whole bytes)

      free : OfWhole Always before (λ t. IsFreePlace t (place_of place))
      free known is whole bytes unit = free_place (tree_of bytes (typed known)) to place.dir.inode place.name plain
          (c.looks.agrees known (l.rows_are ∙ is) whole bytes)

      stands : OfWhole Always before (λ t. MayStandAt t (place_of place) inode)
      stands known is whole bytes unit = may_stand (tree_of bytes (typed known)) (whole-shape bytes (typed known) whole)
          now (place_of place) inode
          (source known is whole bytes unit) (free known is whole bytes unit)

      few_links : place.dir.node.nlink ≤ MAX_LINKS
          → OfWhole Always before (λ t. link_count t place.dir.inode ≤ MAX_LINKS)
      few_links low known is whole bytes unit =
          let links_are = (has-node before placed place.dir.inode place.dir.node (c.looks.rows_are ∙ l.rows_are)
          c.stands known is whole bytes).links in
          omega (arith, links_are, low)

      -- its entry wasn't put
      pub link-not_put : place.dir.node.nlink ≤ MAX_LINKS → (result : Result (Unit {0}) TxFault) (fault : TxFault)
          → IsErrAnd result (λ e. e ≡ fault)
          → Drafting {A = Unit {0}} (λ t. MayStandAt t (place_of place) inode) draft more placed put (Err fault)
          (entry_put now (place_of place) inode)
          → Transacts Always before put result (λ unit. Done) (λ t. link t caller path to)
      link-not_put low result fault is d = transacts-error Always before put says links result fault is
          (steps-stop Always before placed put draft more (λ t. t) says links rest begun fault
          (λ t. MayStandAt t (place_of place) inode) (entry_put now (place_of place) inode) d stands
          (λ known at whole bytes unit refused e. (let t = tree_of bytes (typed known) in
          ap (λ n. enters_at n t inode (place_of place)) same
          ∙ refused_by t (whole-shape bytes (typed known) whole) now (place_of place) inode
          (source known at whole bytes unit) (free known at whole bytes unit)
          (links_fit (put_entry t now (place_of place) inode) inode) refl (few_links low known at whole bytes unit)
          refused e)))

      module _ (d : Drafting {A = Unit {0}} (λ t. MayStandAt t (place_of place) inode) draft more placed put (Ok tt)
          (entry_put now (place_of place) inode))
          (changed : Store) (all : List Change) where
        abbrev with_it : Tree → Tree
        with_it t = put_entry t now (place_of place) inode

        made : OfWhole Always before (λ t.
            (entry_put now (place_of place) inode t ≡ Ok (put_entry t now (place_of place) inode)) ×
            (links_fit (linked t now (place_of place) inode) inode ≡ true))
        made known is whole bytes unit =
            let t = tree_of bytes (typed known) in
            let left = steps-made Always before placed put draft more (λ t. t) links rest begun tt
            (λ t. MayStandAt t (place_of place) inode) (entry_put now (place_of place) inode) d stands
            known is whole bytes unit in
            put_made t (whole-shape bytes (typed known) whole) now (place_of place) inode
            (source known is whole bytes unit) (free known is whole bytes unit) left.0 left.1

        entered : PastSteps Always before put more with_it links rest
        entered = steps-on Always before placed put draft more (λ t. t) links rest begun tt
            (λ t. MayStandAt t (place_of place) inode) (entry_put now (place_of place) inode) with_it d stands
            (λ known is whole bytes unit. (made known is whole bytes unit).0)

        abbrev changes : Tree → Result Tree Fault
        changes t = Ok (change_node t inode (status_changed now))

        there : OfWhole Always before (λ t. IsThere inode (put_entry t now (place_of place) inode))
        there known is whole bytes unit = still_there (tree_of bytes (typed known))
            (whole-shape bytes (typed known) whole) now (place_of place) inode
            (source known is whole bytes unit) (free known is whole bytes unit)

        -- the status wasn't changed
        pub link-no_status : (result : Result (Unit {0}) TxFault) (fault : TxFault) → IsErrAnd result (λ e. e ≡ fault)
            → Drafting {A = Unit {0}} (IsThere inode) more all put changed (Err fault)
            (λ t. Ok (change_node t inode (status_changed now)))
            → Transacts Always before changed result (λ unit. Done) (λ t. link t caller path to)
        link-no_status result fault is e = transacts-error Always before changed says links result fault is
            (steps-stop Always before put changed more all with_it says links rest entered fault (IsThere inode) changes
            e there
            (λ known at whole bytes unit refused e. absurd (cc)))

        module _ (e : Drafting {A = Unit {0}} (IsThere inode) more all put changed (Ok tt)
            (λ t. Ok (change_node t inode (status_changed now)))) (last : Store) where
          abbrev with_status : Tree → Tree
          with_status t = linked t now (place_of place) inode

          complete : PastSteps Always before changed all with_status links rest
          complete = steps-on Always before put changed more all with_it links rest entered tt (IsThere inode) changes
              with_status e there
              (λ known is whole bytes unit. refl)

          -- the commit failed
          pub link-fails : (down : Down) → Commits changed last (Err down) all
              → Transacts {A = Unit {0}} Always before last (Err (OfRows (row_fault down))) (λ unit. Done)
              (λ t. link t caller path to)
          link-fails down commits = steps-fail Always before changed last all all with_status says links rest complete
              (OfRows (row_fault down))
              (fails-commit changed last down all commits)

          -- it has one more entry
          pub link-done : Commits changed last (Ok tt) all
              → Transacts {A = Unit {0}} Always before last (Ok tt) (λ unit. Done) (λ t. link t caller path to)
          link-done commits = steps-commit Always before changed last all all with_status says links rest complete tt
              commits
              (λ known is whole bytes unit. (let t = tree_of bytes (typed known) in
              ap (λ n. enters_at n t inode (place_of place)) same
              ∙ ap (λ b. require b NoSpace >>= (λ _. done (linked t now (place_of place) inode)))
              (made known is whole bytes unit).1))
              (λ known is whole bytes unit.
              let t = tree_of bytes (typed known) in
              let it = source known is whole bytes unit in
              let new = free known is whole bytes unit in
              whole-linked t now (place_of place) it.at inode (whole-shape bytes (typed known) whole) new.free
              new.within new.may it.leaf it.untrashed it.is)
