-- How a rename over another entry ends: each of its exits, by what was read, removed and moved.
use Rattle.std.proofs.Common.{◌≡◌, ◌≢◌, ℕ, ◌≤◌, true, false, not, ◌&&◌, ◌||◌, ◌==◌, List, [], Option, is_some, Result, Ok, Err, refl, sym, ap, subst, ◌∙◌, arith, ne_eqb}
use Rattle.std.proofs.lemmas.Bool.{not-true, or_parts}
use Rattle.jv_model.specs.declared.basics.How.{How}
use Rattle.jv_model.specs.declared.limits.TheConstants.{MAX_LINKS, LAST_MOMENT, TRASH_ROOT}
use Rattle.jv_model.specs.declared.fault.Down.{Down}
use Rattle.jv_model.specs.declared.fault.Fault.{Fault}
use Rattle.jv_model.specs.declared.fault.Fault.TheVariants.{Invalid, NotADirectory, IsADirectory, DirectoryNotEmpty, NoSpace}
use Rattle.jv_model.specs.declared.fault.TxFault.{TxFault}
use Rattle.jv_model.specs.declared.fault.TxFault.TheVariants.{Rows as OfRows}
use Rattle.jv_model.specs.declared.op.Reply.{Reply}
use Rattle.jv_model.specs.declared.op.Reply.TheVariants.{Done}
use Rattle.jv_model.specs.promise.FiniteMap.{get}
use Rattle.jv_model.specs.rows.RowFaults.{row_fault}
use Rattle.jv_model.specs.promise.tree.Attempt.{◌>>=◌, require}
use Rattle.jv_model.specs.promise.tree.Caller.{Caller, Outcome, outcome, done}
use Rattle.jv_model.specs.promise.tree.Making.{may_be_new}
use Rattle.jv_model.specs.promise.tree.Removing.{may_go}
use Rattle.jv_model.specs.promise.tree.Renaming.{is_inside, moved, within_links, without_target, replacing}
use Rattle.jv_model.specs.promise.tree.Tree.{Tree, EntryKey, in_trash, is_directory, has_entries, is_sustained, links_fit}
use Rattle.jv_model.specs.promise.tree.Walk.{is_trash}
use Rattle.jv_outside.specs.declared.batch.Change.{Change}
use Rattle.jv_outside.specs.promise.Store.{Store}
use Rattle.jv_outside.specs.Store.{Commits}
use Rattle.jv_rows.specs.declared.walking.Place.{Place}
use Rattle.jv_rows.specs.Transactions.{Looks}
use Rattle.jv_rows.proofs.transactions.TransactionLaws.{Past, past-start, past-as, past-looks, past-stops, fails-commit}
use Rattle.jv_rows_drafts.specs.Drafting.{Drafting}
use Rattle.jv_rows_drafts.proofs.DraftingLaws.{PastSteps, OfWhole, steps-start, steps-on, steps-made, steps-stop, steps-fail, steps-commit}
use Rattle.jv_volume.specs.promise.TypedRows.{typed}
use Rattle.jv_volume.specs.promise.TreeOf.{tree_of}
use Rattle.jv_volume.proofs.shapes.EnteredShapeLaws.{new_below}
use Rattle.jv_volume.proofs.shapes.MoveLaws.{MayRename, MayReplace, whole-replaced}
use Rattle.jv_volume.proofs.stored.StoredLaws.{whole-shape}
use Rattle.jv_volume.proofs.shapes.WalkShapeLaws.{went_on, required}
use Rattle.jv_links.specs.declared.ends.Ends.{Ends}
use Rattle.jv_links.specs.declared.fates.Removed.{Removed}
use Rattle.jv_links.specs.Removals.{KeepsAnew, kept_of}
use Rattle.jv_links.specs.Moves.{EndsStand, IsOverMove, MayMove, Renames, Stands, moved_within}
use Rattle.jv_tree.specs.Entering.{place_of}
use Rattle.jv_links.specs.Replacements.{cleared as cleared_at, MayClear, SaysCleared, may_replace}
use Rattle.jv_links.proofs.moves.FreeMoveLaws.{leaves_by, moved-sustained, renames-refused, tested_by, refused_by}
use Rattle.jv_links.proofs.losses.TargetLaws.{may_move-without_target}
use Rattle.jv_links.proofs.moves.RenameAnswerLaws.{has_node, links_low}

-- where a new entry may come, an entry may go
goes_by : (place : EntryKey) → may_be_new place ≡ true → may_go place ≡ true
goes_by place may =
    let low = new_below place may in
    let off : (place.dir == TRASH_ROOT) ≡ false = ne_eqb place.dir TRASH_ROOT (λ e. absurd (omega (arith, low, e))) in
    let plain : is_trash place.dir place.name ≡ false =
    (or_parts (in_trash place.dir) (is_trash place.dir place.name) (not-true _ may)).1 in
    ap (λ b. not (b || is_trash place.dir place.name)) off ∙ ap (λ b. not b) plain

-- the tests before the change
by_tests : (a b c d : Result (Unit {0}) Fault) (r : Result Outcome Fault)
    → (a >>= (λ _. b >>= (λ _. c >>= (λ _. d >>= (λ _. r))))) ≡
    ((a >>= (λ _. b >>= (λ _. c >>= (λ _. d)))) >>= (λ _. r))
by_tests (Err fault) b c d r = refl
by_tests (Ok u) (Err fault) c d r = refl
by_tests (Ok u) (Ok v) (Err fault) d r = refl
by_tests (Ok u) (Ok v) (Ok w) d r = refl

-- what was found where they pass
allowed : (t : Tree) (dir source other : ℕ) → may_replace t dir source other ≡ Ok tt
    → (is_inside t dir source ≡ false) × ((is_directory t other && has_entries t other) ≡ false)
allowed t dir source other h =
    let last = require (not (is_directory t other && has_entries t other)) DirectoryNotEmpty in
    let third = λ (u : Unit {0}). require (not (not (is_directory t source) && is_directory t other)) IsADirectory >>=
    (λ _. last) in
    let second = λ (u : Unit {0}). require (not (is_directory t source && not (is_directory t other))) NotADirectory >>=
    third in
    let a = went_on (require (not (is_inside t dir source)) Invalid) second tt h in
    let b = went_on (require (not (is_directory t source && not (is_directory t other))) NotADirectory) third tt a.2 in
    let c = went_on (require (not (not (is_directory t source) && is_directory t other)) IsADirectory)
    (λ _. last) tt b.2 in
    (not-true _ (required _ Invalid a.0 a.1), not-true _ (required _ DirectoryNotEmpty tt c.2))

module _ (who : Caller) (how : How) (ends : Ends) (place : Place) (before : Store) (stand : EndsStand before ends)
    (there : Stands before place)
    (apart : ends.source.inode ≢ place.inode) where
  abbrev from : EntryKey
  from = place_of ends.from

  abbrev to : EntryKey
  to = place_of ends.to

  abbrev source : ℕ
  source = ends.source.inode

  abbrev other : ℕ
  other = place.inode

  abbrev ready : Tree → Type 0
  ready t = IsOverMove t who how from source to other

  abbrev act : Tree → Result Outcome Fault
  act t = replacing t who from source to other

  abbrev asks : Tree → Result (Unit {0}) Fault
  asks t = may_replace t ends.to.dir.inode source other

  abbrev left : Tree → Tree
  left t = without_target t who to other

  abbrev rest : Tree → Result Outcome Fault
  rest t = within_links from to (moved (left t) who.now from source to)

  abbrev goes : Tree → Result (Option Removed) Fault
  goes t = Ok (cleared_at t who to other)

  abbrev reply : Option Removed → Reply
  reply removed = Done

  started : Past before before act (λ t. asks t >>= (λ _. rest t))
  started = past-as before before before act act (past-start before act) (λ t. asks t >>= (λ _. rest t))
      (λ known is whole bytes. (let t = tree_of bytes (typed known) in
      by_tests (require (not (is_inside t to.dir source)) Invalid)
      (require (not (is_directory t source && not (is_directory t other))) NotADirectory)
      (require (not (not (is_directory t source) && is_directory t other)) IsADirectory)
      (require (not (is_directory t other && has_entries t other)) DirectoryNotEmpty) (rest t)))

  -- it may not be replaced, or that wasn't read
  pub replace-refused : (after : Store) (fault : TxFault) → Looks {A = Unit {0}} before after (Err fault) asks
      → Renames who.sid ready before after (Err fault) act goes
  replace-refused after fault l = renames-refused who.sid ready before after act goes fault
      (past-stops before before after act asks (λ t _. rest t) started fault l)

  module _ (middle : Store) (l : Looks before middle (Ok tt) asks) (low_from : ends.from.dir.node.nlink ≤ MAX_LINKS)
      (low_source : ends.source.node.nlink ≤ MAX_LINKS)
      (seconds : ℕ) (now_is : seconds ≡ who.now) (clock : seconds ≤ LAST_MOMENT) where
    started_steps : PastSteps ready before middle [] (λ t. t) act rest
    started_steps = steps-start ready before middle act rest
        (past-looks before before middle act asks (λ t _. rest t) started tt l)

    may_by : OfWhole ready before (λ t. (is_inside t to.dir source ≡ false) ×
        ((is_directory t other && has_entries t other) ≡ false))
    may_by known is whole bytes r = allowed (tree_of bytes (typed known)) to.dir source other
        (l.agrees known is whole bytes)

    in_time : who.now ≤ LAST_MOMENT
    in_time = subst (λ (n : ℕ). n ≤ LAST_MOMENT) now_is clock

    may_clear : OfWhole ready before (λ t. MayClear t who to other (place.node.kind == 2))
    may_clear known is whole bytes r = record {
      whole = whole-shape bytes (typed known) whole;
      is = r.there;
      kind = (has_node before other place known there.row is whole bytes).directory;
      vacant = (may_by known is whole bytes r).1;
      goes = goes_by to r.move.enters;
      session = r.move.session;
      held = r.held;
      clock = in_time;
    }

    may_replaced : OfWhole ready before (λ t. MayReplace t who to other)
    may_replaced known is whole bytes r = record {
      is = r.there;
      vacant = (may_by known is whole bytes r).1;
      session = r.move.session;
      held = r.held;
      clock = in_time;
    }

    may_rename : OfWhole ready before (λ t. MayRename t from source to)
    may_rename known is whole bytes r = record {
      is = r.move.is;
      leaves = leaves_by how from r.move.leaves;
      enters = r.move.enters;
      within = r.move.within;
      outside = (may_by known is whole bytes r).0;
    }

    may_move : OfWhole ready before (λ t. MayMove (without_target t who to other) from source to)
    may_move known is whole bytes r = (let t = tree_of bytes (typed known) in
        may_move-without_target t who from source to other (whole-shape bytes (typed known) whole)
        (may_replaced known is whole bytes r) (may_rename known is whole bytes r)
        r.move.name apart
        (links_low t from.dir ends.from.dir (bytes from.dir)
        (has_node before from.dir ends.from.dir known stand.from.row is whole bytes) low_from)
        (links_low t source ends.source (bytes source)
        (has_node before source ends.source known stand.source.row is whole bytes) low_source))

    module _ (was : List Change) (none : was ≡ []) (cleared : List Change) (next : Store) where
      abbrev clears : Tree → Result Tree Fault
      clears t = Ok (left t)

      abbrev Clears : Result (Option Removed) TxFault → Type 0
      Clears result = Drafting (λ t. MayClear t who to other (place.node.kind == 2)) was cleared middle next result
          clears

      from_none : (result : Result (Option Removed) TxFault) → Clears result
          → Drafting (λ t. MayClear t who to other (place.node.kind == 2)) [] cleared middle next result clears
      from_none result d = subst (λ (w : List Change). Drafting (λ t. MayClear t who to other (place.node.kind == 2)) w
          cleared middle next result clears) none d

      -- what is there wasn't removed
      pub replace-not_cleared : (fault : TxFault) → Clears (Err fault)
          → Renames who.sid ready before next (Err fault) act goes
      replace-not_cleared fault d = record {
        does = steps-stop ready before middle next [] cleared (λ t. t) reply act rest started_steps fault
            (λ t. MayClear t who to other (place.node.kind == 2)) clears (from_none (Err fault) d)
            may_clear (λ known is whole bytes r refused h. absurd (cc));
        says = tt;
        answers = tt;
      }

      module _ (removed : Option Removed) (d : Clears (Ok removed)) (now : ℕ) (same_now : who.now ≡ now)
          (changes : List Change) (last : Store) where
        stepped : PastSteps ready before next cleared left act rest
        stepped = steps-on ready before middle next [] cleared (λ t. t) act rest started_steps removed
            (λ t. MayClear t who to other (place.node.kind == 2)) clears left (from_none (Ok removed) d)
            may_clear (λ known is whole bytes r. refl)

        abbrev moves : Tree → Result Tree Fault
        moves = moved_within who.now from source to

        abbrev Moving : Result (Unit {0}) TxFault → Type 0
        Moving result = Drafting (λ t. MayMove t from source to) cleared changes next last result
            (moved_within now from source to)

        as_model : (result : Result (Unit {0}) TxFault) → Moving result
            → Drafting (λ t. MayMove t from source to) cleared changes next last result moves
        as_model result m = subst (λ n. Drafting (λ t. MayMove t from source to) cleared changes next last result
            (moved_within n from source to)) (sym same_now) m

        -- the entry wasn't moved
        pub replace-not_moved : (fault : TxFault) → Moving (Err fault)
            → Renames who.sid ready before last (Err fault) act goes
        replace-not_moved fault m = record {
          does = steps-stop ready before next last cleared changes left reply act rest stepped fault
              (λ t. MayMove t from source to) moves (as_model (Err fault) m)
              may_move
              (λ known is whole bytes r refused h.
              (let after = moved (left (tree_of bytes (typed known))) who.now from source to in
              refused_by (links_fit after from.dir && links_fit after to.dir) after refused h));
          says = tt;
          answers = tt;
        }

        module _ (m : Moving (Ok tt)) where
          abbrev final : Tree → Tree
          final t = moved (left t) who.now from source to

          fits : OfWhole ready before (λ t. (links_fit (final t) from.dir && links_fit (final t) to.dir) ≡ true)
          fits known is whole bytes r =
              let made = steps-made ready before next last cleared changes left act rest stepped tt
              (λ t. MayMove t from source to) moves (as_model (Ok tt) m) may_move known is whole bytes r in
              let after = final (tree_of bytes (typed known)) in
              (tested_by (links_fit after from.dir && links_fit after to.dir) after made.0 made.1).0

          went : PastSteps ready before last changes final act rest
          went = steps-on ready before next last cleared changes left act rest stepped tt
              (λ t. MayMove t from source to) moves final (as_model (Ok tt) m) may_move
              (λ known is whole bytes r. (let after = final (tree_of bytes (typed known)) in
              ap (λ b. require b NoSpace >>= (λ _. Ok after)) (fits known is whole bytes r)))

          -- the changes weren't committed
          pub replace-not_committed : (after : Store) (down : Down) → Commits last after (Err down) changes
              → Renames who.sid ready before after (Err (OfRows (row_fault down))) act goes
          replace-not_committed after down c = record {
            does = steps-fail ready before last after changes changes final reply act rest went
                (OfRows (row_fault down)) (fails-commit last after down changes c);
            says = tt;
            answers = tt;
          }

          ends_done : OfWhole ready before (λ t. rest t ≡ done (final t))
          ends_done known is whole bytes r = (let after = final (tree_of bytes (typed known)) in
              ap (λ b. require b NoSpace >>= (λ _. done after)) (fits known is whole bytes r))

          -- they were
          pub replace-made : SaysCleared who to other (place.node.kind == 2) was middle (Ok removed) → (after : Store)
              → Commits last after (Ok tt) changes
              → Renames who.sid ready before after (Ok removed) act goes
          replace-made says after c = record {
            does = steps-commit ready before last after changes changes final reply act rest went removed c ends_done
                (λ known is whole bytes r. whole-replaced (tree_of bytes (typed known)) who to other
                (whole-shape bytes (typed known) whole) (may_replaced known is whole bytes r) from source
                (may_rename known is whole bytes r) apart);
            says = λ known is whole bytes r inode.
                let t = tree_of bytes (typed known) in
                ap (λ o. is_sustained (outcome t o).tree who.sid inode && not (is_sustained t who.sid inode))
                (went.goes_on known is whole bytes r ∙ ends_done known is whole bytes r)
                ∙ ap (λ p. is_some (get p (record { sid = who.sid; inode = inode })) && not
                (is_sustained t who.sid inode)) (moved-sustained (left t) who.now from source to)
                ∙ (cleared_is known is whole bytes r).0 inode;
            answers = λ known is whole bytes r. ap Ok (cleared_is known is whole bytes r).1;
          }
            where
              cleared_is : OfWhole ready before (λ t. KeepsAnew who.sid t (left t) (kept_of removed) × (cleared_at t who to other ≡ removed))
              cleared_is known is whole bytes r =
                  subst (λ (w : List Change). SaysCleared who to other (place.node.kind == 2) w middle (Ok removed))
                  none says known (l.rows_are ∙ is) bytes (tree_of bytes (typed known))
                  (started_steps.minds known is whole bytes r) (may_clear known is whole bytes r)
