-- How a rename that exchanges two entries ends: each of its exits, by what was read and what was changed.
use Rattle.std.proofs.Common.{◌≡◌, ◌≢◌, ℕ, ◌≤◌, Bool, true, false, not, ◌&&◌, ◌||◌, List, [], Option, None, Result, Ok, Err, refl, sym, ap, subst, ◌∙◌}
use Rattle.std.specs.Prelude.{IsTrue}
use Rattle.std.specs.Option.{option_map}
use Rattle.std.proofs.lemmas.Bool.{and_parts, or_from}
use Rattle.jv_model.specs.declared.basics.How.TheVariants.{Exchange}
use Rattle.jv_model.specs.declared.limits.TheConstants.{MAX_LINKS}
use Rattle.jv_model.specs.declared.fault.Down.{Down}
use Rattle.jv_model.specs.declared.fault.Fault.{Fault}
use Rattle.jv_model.specs.declared.fault.Fault.TheVariants.{Invalid, NoSpace}
use Rattle.jv_model.specs.declared.fault.TxFault.{TxFault}
use Rattle.jv_model.specs.declared.fault.TxFault.TheVariants.{Refused, Rows as OfRows}
use Rattle.jv_model.specs.declared.op.Reply.{Reply}
use Rattle.jv_model.specs.declared.op.Reply.TheVariants.{Done}
use Rattle.jv_model.specs.declared.row.Row.TheVariants.{OfEdge}
use Rattle.jv_model.specs.rows.RowFaults.{row_fault}
use Rattle.jv_model.specs.promise.rows.RowPlaces.{edge_key}
use Rattle.jv_model.specs.promise.tree.Attempt.{◌>>=◌, require}
use Rattle.jv_model.specs.promise.tree.Caller.{Caller, Outcome, done}
use Rattle.jv_model.specs.promise.tree.Making.{may_be_new}
use Rattle.jv_model.specs.promise.tree.Removing.{may_go}
use Rattle.jv_model.specs.promise.tree.Renaming.{is_inside, move_in, exchanged, within_links, exchanging}
use Rattle.jv_model.specs.promise.tree.Tree.{Tree, EntryKey, links_fit}
use Rattle.jv_outside.specs.declared.batch.Change.{Change}
use Rattle.jv_outside.specs.promise.Store.{Store}
use Rattle.jv_outside.specs.Store.{Commits}
use Rattle.jv_rows.specs.declared.walking.Place.{Place}
use Rattle.jv_rows.specs.Transactions.{Looks}
use Rattle.jv_rows.proofs.transactions.TransactionLaws.{Past, past-start, past-looks, past-stops, past-refuses, fails-commit}
use Rattle.jv_rows_drafts.specs.Drafting.{Drafting}
use Rattle.jv_rows_drafts.proofs.DraftingLaws.{PastSteps, OfWhole, steps-start, steps-on, steps-made, steps-stop, steps-fail, steps-commit}
use Rattle.jv_volume.specs.promise.Stored.{edge_row}
use Rattle.jv_volume.specs.promise.TypedRows.{typed, is_entry_name}
use Rattle.jv_volume.specs.promise.TreeOf.{tree_of}
use Rattle.jv_volume.proofs.shapes.MoveLaws.{whole-exchanged}
use Rattle.jv_volume.proofs.stored.StoredLaws.{whole-shape, whole-stored}
use Rattle.jv_volume.proofs.shapes.WalkShapeLaws.{went_on}
use Rattle.jv_links.specs.declared.ends.Ends.{Ends}
use Rattle.jv_links.specs.declared.fates.Removed.{Removed}
use Rattle.jv_links.specs.Exchanges.{MayExchange, exchanged_within}
use Rattle.jv_links.specs.Moves.{EndsStand, IsOverMove, Renames, Stands}
use Rattle.jv_tree.specs.Entering.{place_of}
use Rattle.jv_links.proofs.moves.FreeMoveLaws.{move_in-sustained, renames-refused, tested_by, refused_by, within-sustained}
use Rattle.jv_links.proofs.moves.RenameAnswerLaws.{has_node, links_low, says_none}
use Rattle.jv_model.proofs.TestLaws.{same_Ok}

-- an exchange keeps what sessions keep
exchanged-sustained : (t : Tree) (now : ℕ) (from : EntryKey) (source : ℕ) (to : EntryKey) (other : ℕ)
    → (exchanged t now from source to other).sustained
    ≡ t.sustained
exchanged-sustained t now from source to other = move_in-sustained (move_in t now to source) now from other
    ∙ move_in-sustained t now to source

module _ (who : Caller) (ends : Ends) (place : Place) (before : Store) (stand : EndsStand before ends)
    (stands : Stands before place)
    (apart : ends.source.inode ≢ place.inode)
    (low_source : ends.source.node.nlink ≤ MAX_LINKS) (low_other : place.node.nlink ≤ MAX_LINKS) where
  abbrev from : EntryKey
  from = place_of ends.from

  abbrev to : EntryKey
  to = place_of ends.to

  abbrev source : ℕ
  source = ends.source.inode

  abbrev other : ℕ
  other = place.inode

  abbrev ready : Tree → Type 0
  ready t = IsOverMove t who Exchange from source to other

  abbrev act : Tree → Result Outcome Fault
  act t = exchanging t who from source to other

  abbrev swapped : Tree → Tree
  swapped t = exchanged t who.now from source to other

  abbrev climbs : Tree → Result Bool Fault
  climbs t = Ok (is_inside t to.dir source)

  abbrev climbs_back : Tree → Result Bool Fault
  climbs_back t = Ok (is_inside t from.dir other)

  abbrev climbed : Tree → Bool → Result Outcome Fault
  climbed t inside = climbs_back t >>=
      (λ beside. require (not (inside || beside)) Invalid >>= (λ _. within_links from to (swapped t)))

  abbrev climbed_back : Tree → Bool → Result Outcome Fault
  climbed_back t beside = require (not beside) Invalid >>= (λ _. within_links from to (swapped t))

  abbrev goes : Tree → Result (Option Removed) Fault
  goes t = Ok None

  abbrev reply : Option Removed → Reply
  reply removed = Done

  started : Past before before act (λ t. climbs t >>= climbed t)
  started = past-start before act

  -- the first way up wasn't climbed
  pub exchange-not_climbed : (after : Store) (fault : TxFault) → Looks {A = Bool} before after (Err fault) climbs
      → Renames who.sid ready before after (Err fault) act goes
  exchange-not_climbed after fault l = renames-refused who.sid ready before after act goes fault
      (past-stops before before after act climbs climbed started fault l)

  -- the source would come into itself
  pub exchange-inside : (after : Store) → Looks before after (Ok true) climbs
      → Renames who.sid ready before after (Err (Refused Invalid)) act goes
  exchange-inside after l = renames-refused who.sid ready before after act goes (Refused Invalid)
      (past-refuses before after act Invalid (past-looks before before after act climbs climbed started true l))

  module _ (between : Store) (first : Looks before between (Ok false) climbs) where
    halfway : Past before between act (λ t. climbs_back t >>= climbed_back t)
    halfway = past-looks before before between act climbs climbed started false first

    -- the second way up wasn't climbed
    pub exchange-not_back : (after : Store) (fault : TxFault) → Looks {A = Bool} between after (Err fault) climbs_back
        → Renames who.sid ready before after (Err fault) act goes
    exchange-not_back after fault l = renames-refused who.sid ready before after act goes fault
        (past-stops before between after act climbs_back climbed_back halfway fault l)

    -- the other one would come into itself
    pub exchange-beside : (after : Store) → Looks between after (Ok true) climbs_back
        → Renames who.sid ready before after (Err (Refused Invalid)) act goes
    exchange-beside after l = renames-refused who.sid ready before after act goes (Refused Invalid)
        (past-refuses before after act Invalid
        (past-looks before between after act climbs_back climbed_back halfway true l))

    module _ (middle : Store) (second : Looks between middle (Ok false) climbs_back) where
      abbrev rest : Tree → Result Outcome Fault
      rest t = within_links from to (swapped t)

      started_steps : PastSteps ready before middle [] (λ t. t) act rest
      started_steps = steps-start ready before middle act rest
          (past-looks before between middle act climbs_back climbed_back halfway false second)

      outside : OfWhole ready before (λ t. is_inside t to.dir source ≡ false)
      outside known is whole bytes r = same_Ok (is_inside (tree_of bytes (typed known)) to.dir source) false
          (first.agrees known is whole bytes)

      beside : OfWhole ready before (λ t. is_inside t from.dir other ≡ false)
      beside known is whole bytes r = same_Ok (is_inside (tree_of bytes (typed known)) from.dir other) false
          (second.agrees known (first.rows_are ∙ is) whole bytes)

      -- an entry that is there has a name of an entry
      from_name : OfWhole ready before (λ t. IsTrue (is_entry_name from.name))
      from_name known is whole bytes r =
          let t = tree_of bytes (typed known) in
          let stored = whole-stored bytes (typed known) whole in
          let cell = stored.edge from ∙ ap (option_map (λ i. Ok (OfEdge (edge_row t i)))) r.move.is in
          (whole.cells (edge_key from.dir from.name) (Ok (OfEdge (edge_row t source))) cell).key_is

      may_exchange : OfWhole ready before (λ t. MayExchange t from source to other)
      may_exchange known is whole bytes r = record {
        whole = whole-shape bytes (typed known) whole;
        is = r.move.is;
        also = r.there;
        apart = apart;
        from_name = from_name known is whole bytes r;
        to_name = r.move.name;
        outside = outside known is whole bytes r;
        beside = beside known is whole bytes r;
        links_source = links_low (tree_of bytes (typed known)) source ends.source (bytes source)
            (has_node before source ends.source known stand.source.row is whole bytes) low_source;
        links_other = links_low (tree_of bytes (typed known)) other place (bytes other)
            (has_node before other place known stands.row is whole bytes) low_other;
      }

      module _ (now : ℕ) (same_now : who.now ≡ now) (was : List Change) (none : was ≡ []) (changes : List Change)
          (next : Store) where
        abbrev step_ready : Tree → Type 0
        step_ready t = MayExchange t from source to other

        abbrev step : Tree → Result Tree Fault
        step = exchanged_within who.now from source to other

        abbrev Exchanging : Result (Unit {0}) TxFault → Type 0
        Exchanging result = Drafting step_ready was changes middle next result
            (exchanged_within now from source to other)

        as_model : (result : Result (Unit {0}) TxFault) → Exchanging result
            → Drafting step_ready [] changes middle next result step
        as_model result d = subst (λ n. Drafting step_ready [] changes middle next result
            (exchanged_within n from source to other)) (sym same_now)
            (subst (λ (w : List Change). Drafting step_ready w changes middle next result
            (exchanged_within now from source to other)) none d)

        -- the entries weren't exchanged
        pub exchange-not_made : (fault : TxFault) → Exchanging (Err fault)
            → Renames who.sid ready before next (Err fault) act goes
        exchange-not_made fault d = record {
          does = steps-stop ready before middle next [] changes (λ t. t) reply act rest started_steps fault step_ready
              step (as_model (Err fault) d)
              may_exchange
              (λ known is whole bytes r refused h. (let after = swapped (tree_of bytes (typed known)) in
              refused_by (links_fit after from.dir && links_fit after to.dir) after refused h));
          says = tt;
          answers = tt;
        }

        module _ (d : Exchanging (Ok tt)) where
          made : OfWhole ready before (λ t. (left : Tree) × (step t ≡ Ok left))
          made = steps-made ready before middle next [] changes (λ t. t) act rest started_steps tt step_ready step
              (as_model (Ok tt) d) may_exchange

          fits : OfWhole ready before (λ t. (let after = swapped t in
              (links_fit after from.dir && links_fit after to.dir) ≡ true))
          fits known is whole bytes r =
              (let after = swapped (tree_of bytes (typed known)) in let m = made known is whole bytes r in
              (tested_by (links_fit after from.dir && links_fit after to.dir) after m.0 m.1).0)

          stepped : PastSteps ready before next changes swapped act rest
          stepped = steps-on ready before middle next [] changes (λ t. t) act rest started_steps tt step_ready step
              swapped (as_model (Ok tt) d) may_exchange
              (λ known is whole bytes r. (let after = swapped (tree_of bytes (typed known)) in
              ap (λ b. require b NoSpace >>= (λ _. Ok after)) (fits known is whole bytes r)))

          -- the changes weren't committed
          pub exchange-not_committed : (after : Store) (down : Down) → Commits next after (Err down) changes
              → Renames who.sid ready before after (Err (OfRows (row_fault down))) act goes
          exchange-not_committed after down c = record {
            does = steps-fail ready before next after changes changes swapped reply act rest stepped
                (OfRows (row_fault down))
                (fails-commit next after down changes c);
            says = tt;
            answers = tt;
          }

          told : (t : Tree) (o : Outcome) → act t ≡ Ok o → o.tree.sustained ≡ t.sustained
          told t o h =
              let on = went_on (require (not (is_inside t to.dir source || is_inside t from.dir other)) Invalid)
              (λ _. within_links from to (swapped t)) o h in
              within-sustained from to t (swapped t) o (exchanged-sustained t who.now from source to other) on.2

          -- they were
          pub exchange-made : (after : Store) → Commits next after (Ok tt) changes
              → Renames who.sid ready before after (Ok None) act goes
          exchange-made after c = record {
            does = steps-commit ready before next after changes changes swapped reply act rest stepped None c
                (λ known is whole bytes r. (let left = swapped (tree_of bytes (typed known)) in
                ap (λ b. require b NoSpace >>= (λ _. done left)) (fits known is whole bytes r)))
                (λ known is whole bytes r. (let t = tree_of bytes (typed known) in
                whole-exchanged t who.now from source to other (whole-shape bytes (typed known) whole) r.move.is r.there
                apart
                (and_parts (may_go from) (may_be_new from) r.move.leaves).1 r.move.enters
                (or_from (is_inside t to.dir source) (is_inside t from.dir other) (outside known is whole bytes r)
                (beside known is whole bytes r))));
            says = λ known is whole bytes r inode. says_none (tree_of bytes (typed known)) who.sid
                (act (tree_of bytes (typed known)))
                (told (tree_of bytes (typed known))) inode;
            answers = λ known is whole bytes r. refl;
          }
