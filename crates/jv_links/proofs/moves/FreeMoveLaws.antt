-- How a rename to a free place ends: each of its exits, by what was read and what was changed.
use Rattle.std.proofs.Common.{◌≡◌, ℕ, ◌≤◌, Bool, true, false, not, ◌&&◌, List, [], Option, None, Result, Ok, Err, refl, sym, ap, subst, ◌∙◌}
use Rattle.std.proofs.lemmas.Bool.{and_parts}
use Rattle.jv_model.specs.declared.basics.How.{How}
use Rattle.jv_model.specs.declared.basics.How.TheVariants.{Plain, NoReplace, Exchange}
use Rattle.jv_model.specs.declared.limits.TheConstants.{MAX_LINKS}
use Rattle.jv_model.specs.declared.fault.Down.{Down}
use Rattle.jv_model.specs.declared.fault.Fault.{Fault}
use Rattle.jv_model.specs.declared.fault.Fault.TheVariants.{Invalid, NoSpace}
use Rattle.jv_model.specs.declared.fault.TxFault.{TxFault}
use Rattle.jv_model.specs.declared.fault.TxFault.TheVariants.{Refused, Rows as OfRows}
use Rattle.jv_model.specs.declared.op.Reply.{Reply}
use Rattle.jv_model.specs.declared.op.Reply.TheVariants.{Done}
use Rattle.jv_model.specs.rows.RowFaults.{row_fault}
use Rattle.jv_model.specs.promise.tree.Attempt.{◌>>=◌, require}
use Rattle.jv_model.specs.promise.tree.Caller.{Caller, Outcome, done}
use Rattle.jv_model.specs.promise.tree.Changes.{put_entry, take_entry, touched}
use Rattle.jv_model.specs.promise.tree.Making.{may_be_new}
use Rattle.jv_model.specs.promise.tree.Removing.{may_go}
use Rattle.jv_model.specs.promise.tree.Renaming.{may_leave, is_inside, move_in, moved, moved_node, within_links, renamed}
use Rattle.jv_model.specs.promise.tree.Tree.{Tree, EntryKey, links_fit}
use Rattle.jv_outside.specs.declared.batch.Change.{Change}
use Rattle.jv_outside.specs.promise.Store.{Store}
use Rattle.jv_outside.specs.Store.{Commits}
use Rattle.jv_rows.specs.Transactions.{Looks}
use Rattle.jv_rows.proofs.transactions.TransactionLaws.{Past, past-start, past-looks, past-stops, past-refuses, transacts-refused, fails-commit}
use Rattle.jv_rows_drafts.specs.Drafting.{Drafting}
use Rattle.jv_rows_drafts.proofs.DraftingLaws.{PastSteps, OfWhole, steps-start, steps-on, steps-made, steps-stop, steps-fail, steps-commit}
use Rattle.jv_volume.specs.promise.TypedRows.{typed}
use Rattle.jv_volume.specs.promise.TreeOf.{tree_of}
use Rattle.jv_volume.proofs.operations.ChangeLaws.{change_node-sustained}
use Rattle.jv_volume.proofs.shapes.MoveLaws.{whole-moved_free}
use Rattle.jv_volume.proofs.stored.StoredLaws.{whole-shape}
use Rattle.jv_volume.proofs.shapes.WalkShapeLaws.{went_on}
use Rattle.jv_links.specs.declared.ends.Ends.{Ends}
use Rattle.jv_links.specs.declared.fates.Removed.{Removed}
use Rattle.jv_links.specs.Moves.{EndsStand, IsFreeMove, MayMove, Renames, moved_within}
use Rattle.jv_tree.specs.Entering.{place_of}
use Rattle.jv_links.proofs.moves.RenameAnswerLaws.{has_node, links_low, says_none}
use Rattle.jv_model.proofs.TestLaws.{same_Ok, same_fault}

-- what may be renamed by any kind may go
pub leaves_by : (how : How) (place : EntryKey) → may_leave how place ≡ true → may_go place ≡ true
leaves_by Plain place h = h
leaves_by NoReplace place h = h
leaves_by Exchange place h = (and_parts (may_go place) (may_be_new place) h).0

-- an entry that comes from elsewhere keeps what sessions keep
pub move_in-sustained : (t : Tree) (now : ℕ) (place : EntryKey) (inode : ℕ)
    → (move_in t now place inode).sustained ≡ t.sustained
move_in-sustained t now place inode =
    change_node-sustained (put_entry t now place inode) inode (moved_node now place.dir)
    ∙ change_node-sustained t place.dir (touched now)

-- and so does a move
pub moved-sustained : (t : Tree) (now : ℕ) (from : EntryKey) (source : ℕ) (to : EntryKey)
    → (moved t now from source to).sustained ≡ t.sustained
moved-sustained t now from source to = move_in-sustained (take_entry t now from) now to source
    ∙ change_node-sustained t from.dir (touched now)

-- a rename that ends at a reading
pub renames-refused : (sid : ℕ) (ready : Tree → Type 0) (before after : Store) (act : Tree → Result Outcome Fault)
    (goes : Tree → Result (Option Removed) Fault)
    (fault : TxFault) → Looks {A = Outcome} before after (Err fault) act
    → Renames sid ready before after (Err fault) act goes
renames-refused sid ready before after act goes fault l = record {
  does = transacts-refused ready before after (λ (removed : Option Removed). Done) act fault l;
  says = tt;
  answers = tt;
}

-- the test of links, before or after the tree is answered
pub tested_by : (b : Bool) (left after : Tree) → (require b NoSpace >>= (λ _. Ok left)) ≡ Ok after
    → (b ≡ true) × (left ≡ after)
tested_by true left after h = (refl, same_Ok left after h)
tested_by false left after h = absurd cc

pub refused_by : (b : Bool) (left : Tree) (fault : Fault) → (require b NoSpace >>= (λ _. Ok left)) ≡ Err fault
    → (require b NoSpace >>= (λ _. done left)) ≡ Err fault
refused_by true left fault h = absurd cc
refused_by false left fault h = same_fault NoSpace fault h

-- an answer within links keeps what its tree keeps
pub within-sustained : (from to : EntryKey) (t after : Tree) (d : Outcome) → after.sustained ≡ t.sustained
    → within_links from to after ≡ Ok d → d.tree.sustained ≡ t.sustained
within-sustained from to t after d same h =
    let fit = went_on (require (links_fit after from.dir && links_fit after to.dir) NoSpace) (λ _. done after) d h in
    ap (λ (o : Outcome). o.tree.sustained) (sym (same_Ok (record { tree = after; reply = Done }) d fit.2)) ∙ same

module _ (who : Caller) (how : How) (ends : Ends) (before : Store) (stand : EndsStand before ends)
    (low_from : ends.from.dir.node.nlink ≤ MAX_LINKS) (low_source : ends.source.node.nlink ≤ MAX_LINKS) where
  abbrev from : EntryKey
  from = place_of ends.from

  abbrev to : EntryKey
  to = place_of ends.to

  abbrev source : ℕ
  source = ends.source.inode

  abbrev ready : Tree → Type 0
  ready t = IsFreeMove t who.sid how from source to

  abbrev act : Tree → Result Outcome Fault
  act t = renamed t who from source to

  abbrev climbs : Tree → Result Bool Fault
  climbs t = Ok (is_inside t to.dir source)

  abbrev climbed : Tree → Bool → Result Outcome Fault
  climbed t inside = require (not inside) Invalid >>= (λ _. within_links from to (moved t who.now from source to))

  abbrev goes : Tree → Result (Option Removed) Fault
  goes t = Ok None

  abbrev reply : Option Removed → Reply
  reply removed = Done

  started : Past before before act (λ t. climbs t >>= climbed t)
  started = past-start before act

  -- the way up wasn't climbed
  pub free-not_climbed : (after : Store) (fault : TxFault) → Looks {A = Bool} before after (Err fault) climbs
      → Renames who.sid ready before after (Err fault) act goes
  free-not_climbed after fault l = renames-refused who.sid ready before after act goes fault
      (past-stops before before after act climbs climbed started fault l)

  -- the directory would move into itself
  pub free-inside : (after : Store) → Looks before after (Ok true) climbs
      → Renames who.sid ready before after (Err (Refused Invalid)) act goes
  free-inside after l = renames-refused who.sid ready before after act goes (Refused Invalid)
      (past-refuses before after act Invalid (past-looks before before after act climbs climbed started true l))

  module _ (middle : Store) (l : Looks before middle (Ok false) climbs) where
    abbrev rest : Tree → Result Outcome Fault
    rest t = within_links from to (moved t who.now from source to)

    started_steps : PastSteps ready before middle [] (λ t. t) act rest
    started_steps = steps-start ready before middle act rest
        (past-looks before before middle act climbs climbed started false l)

    outside : OfWhole ready before (λ t. is_inside t to.dir source ≡ false)
    outside known is whole bytes r = same_Ok (is_inside (tree_of bytes (typed known)) to.dir source) false
        (l.agrees known is whole bytes)

    may_move : OfWhole ready before (λ t. MayMove t from source to)
    may_move known is whole bytes r = record {
      whole = whole-shape bytes (typed known) whole;
      is = r.move.is;
      free = r.free;
      name = r.move.name;
      within = r.move.within;
      outside = outside known is whole bytes r;
      links_from = links_low (tree_of bytes (typed known)) from.dir ends.from.dir (bytes from.dir)
          (has_node before from.dir ends.from.dir known stand.from.row is whole bytes) low_from;
      links_source = links_low (tree_of bytes (typed known)) source ends.source (bytes source)
          (has_node before source ends.source known stand.source.row is whole bytes) low_source;
    }

    module _ (now : ℕ) (same_now : who.now ≡ now) (was : List Change) (none : was ≡ []) (changes : List Change)
        (next : Store) where
      abbrev Moving : Result (Unit {0}) TxFault → Type 0
      Moving result = Drafting (λ t. MayMove t from source to) was changes middle next result
          (moved_within now from source to)

      as_model : (result : Result (Unit {0}) TxFault) → Moving result
          → Drafting (λ t. MayMove t from source to) [] changes middle next result (moved_within who.now from source to)
      as_model result d = subst (λ n. Drafting (λ t. MayMove t from source to) [] changes middle next result
          (moved_within n from source to)) (sym same_now)
          (subst (λ (w : List Change). Drafting (λ t. MayMove t from source to) w changes middle next result
          (moved_within now from source to)) none d)

      -- the entry wasn't moved
      pub free-not_moved : (fault : TxFault) → Moving (Err fault) → Renames who.sid ready before next (Err fault) act goes
      free-not_moved fault d = record {
        does = steps-stop ready before middle next [] changes (λ t. t) reply act rest started_steps fault
            (λ t. MayMove t from source to) (moved_within who.now from source to) (as_model (Err fault) d)
            may_move
            (λ known is whole bytes r refused h.
            (let after = moved (tree_of bytes (typed known)) who.now from source to in
            refused_by (links_fit after from.dir && links_fit after to.dir) after refused h));
        says = tt;
        answers = tt;
      }

      module _ (d : Moving (Ok tt)) where
        made : OfWhole ready before (λ t. (left : Tree) × (moved_within who.now from source to t ≡ Ok left))
        made = steps-made ready before middle next [] changes (λ t. t) act rest started_steps tt
            (λ t. MayMove t from source to) (moved_within who.now from source to) (as_model (Ok tt) d) may_move

        fits : OfWhole ready before (λ t. (let after = moved t who.now from source to in
            (links_fit after from.dir && links_fit after to.dir) ≡ true))
        fits known is whole bytes r =
            (let after = moved (tree_of bytes (typed known)) who.now from source to in
            let m = made known is whole bytes r in
            (tested_by (links_fit after from.dir && links_fit after to.dir) after m.0 m.1).0)

        stepped : PastSteps ready before next changes (λ t. moved t who.now from source to) act rest
        stepped = steps-on ready before middle next [] changes (λ t. t) act rest started_steps tt
            (λ t. MayMove t from source to) (moved_within who.now from source to)
            (λ t. moved t who.now from source to) (as_model (Ok tt) d) may_move
            (λ known is whole bytes r. (let after = moved (tree_of bytes (typed known)) who.now from source to in
            ap (λ b. require b NoSpace >>= (λ _. Ok after)) (fits known is whole bytes r)))

        -- the changes weren't committed
        pub free-not_committed : (after : Store) (down : Down) → Commits next after (Err down) changes
            → Renames who.sid ready before after (Err (OfRows (row_fault down))) act goes
        free-not_committed after down c = record {
          does = steps-fail ready before next after changes changes (λ t. moved t who.now from source to) reply act rest
              stepped (OfRows (row_fault down)) (fails-commit next after down changes c);
          says = tt;
          answers = tt;
        }

        told : (t : Tree) (d : Outcome) → act t ≡ Ok d → d.tree.sustained ≡ t.sustained
        told t d h =
            let after = moved t who.now from source to in
            let on = went_on (require (not (is_inside t to.dir source)) Invalid) (λ _. within_links from to after) d h
            in
            within-sustained from to t after d (moved-sustained t who.now from source to) on.2

        -- they were
        pub free-made : (after : Store) → Commits next after (Ok tt) changes
            → Renames who.sid ready before after (Ok None) act goes
        free-made after c = record {
          does = steps-commit ready before next after changes changes (λ t. moved t who.now from source to) reply act
              rest stepped None c
              (λ known is whole bytes r. (let left = moved (tree_of bytes (typed known)) who.now from source to in
              ap (λ b. require b NoSpace >>= (λ _. done left)) (fits known is whole bytes r)))
              (λ known is whole bytes r. whole-moved_free (tree_of bytes (typed known)) who.now from source to
              (whole-shape bytes (typed known) whole) (record {
                is = r.move.is;
                leaves = leaves_by how from r.move.leaves;
                enters = r.move.enters;
                within = r.move.within;
                outside = outside known is whole bytes r;
              }) r.free);
          says = λ known is whole bytes r inode. says_none (tree_of bytes (typed known)) who.sid
              (act (tree_of bytes (typed known))) (told (tree_of bytes (typed known))) inode;
          answers = λ known is whole bytes r. refl;
        }
