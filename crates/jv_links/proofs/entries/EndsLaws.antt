-- How the ends of a rename are found: the session, both entries, whether they may go and come, and what the first one
-- names.
use Rattle.std.proofs.Common.{◌≡◌, ℕ, true, false, true≢false, ◌&&◌, List, Option, None, Some, Result, Ok, Err, refl, sym, ap, subst, ◌∙◌}
use Rattle.std.specs.Prelude.{IsTrue, IfSome}
use Rattle.std.proofs.lemmas.Bool.{and_parts}
use Rattle.jv_model.specs.declared.basics.How.{How}
use Rattle.jv_model.specs.declared.fault.Fault.{Fault}
use Rattle.jv_model.specs.declared.fault.Fault.TheVariants.{Invalid, NotFound, NotPermitted, Stale}
use Rattle.jv_model.specs.declared.fault.Gone.TheVariants.{Session}
use Rattle.jv_model.specs.declared.fault.TxFault.{TxFault}
use Rattle.jv_model.specs.declared.fault.TxFault.TheVariants.{Refused}
use Rattle.jv_model.specs.declared.row.Node.{Node}
use Rattle.jv_model.specs.declared.row.Row.TheVariants.{OfNode}
use Rattle.jv_model.specs.promise.FiniteMap.{get}
use Rattle.jv_model.specs.promise.rows.RowKeys.{RowMap}
use Rattle.jv_model.specs.promise.rows.RowPlaces.{node_key}
use Rattle.jv_model.specs.promise.tree.Attempt.{◌>>=◌, require, some_or}
use Rattle.jv_model.specs.promise.tree.Caller.{Caller}
use Rattle.jv_model.specs.promise.tree.Making.{may_be_new}
use Rattle.jv_model.specs.promise.tree.Renaming.{may_leave, renamed_by, rename}
use Rattle.jv_model.specs.promise.tree.Tree.{Tree, EntryKey}
use Rattle.jv_model.specs.promise.tree.Walk.{entry_of}
use Rattle.jv_outside.specs.promise.Store.{Store}
use Rattle.jv_rows.specs.declared.walking.EntryPlace.{EntryPlace}
use Rattle.jv_rows.specs.declared.walking.Place.{Place}
use Rattle.jv_rows.specs.Transactions.{Looks}
use Rattle.jv_rows.specs.Walks.{HasNodeRow, entry_pair, Comes, ComesToEntry}
use Rattle.jv_tree.proofs.MakeLaws.{by_pair}
use Rattle.jv_rows.proofs.transactions.TransactionLaws.{Past, past-start, past-as, past-calm, past-looks, past-stops, past-gives, past-refuses}
use Rattle.jv_volume.specs.promise.TypedRows.{typed}
use Rattle.jv_volume.specs.promise.TreeOf.{tree_of}
use Rattle.jv_volume.specs.promise.Shape.{WholeShape, is_top, shape_of}
use Rattle.jv_volume.specs.promise.Whole.{Whole}
use Rattle.jv_volume.proofs.stored.StoredLaws.{whole-shape}
use Rattle.jv_volume.proofs.shapes.WalkShapeLaws.{went_on, required, was_some, entry_within}
use Rattle.jv_volume.proofs.names.EntryNameLaws.{entry_of-name}
use Rattle.jv_model.specs.promise.Lists.{has_no_zero}
use Rattle.jv_links.specs.Moves.{Move, IsMove, move_asked, FindsEnds}
use Rattle.jv_tree.specs.Entering.{place_of}
use Rattle.jv_rows.proofs.transactions.NeedingLaws.{session_is}
use Rattle.jv_model.proofs.TestLaws.{same_Ok}

-- ---- rows that stay

pub has_row-on : (before after : Store) (inode : ℕ) (node : Node) → after.rows ≡ before.rows
    → HasNodeRow before inode node → HasNodeRow after inode node
has_row-on before after inode node same h =
    subst (λ o. IfSome o (λ known. get (typed known) (node_key inode) ≡ Some (Ok (OfNode node)))) (sym same) h

-- ---- what an entry names

module _ (before after : Store) (at : EntryKey) (place : Place) where
  abbrev asked : Tree → Result ℕ Fault
  asked t = some_or (get t.entries at) NotFound

  never : Looks before after (Ok place.inode) asked → is_top place.inode ≡ true → (known : RowMap)
      → before.rows ≡ Some known → Whole (typed known)
      → (bytes : ℕ → ℕ → ℕ) → asked (tree_of bytes (typed known)) ≡ Err Invalid
  never l top known is whole bytes =
      let named = was_some (get (tree_of bytes (typed known)).entries at) NotFound place.inode
      (l.agrees known is whole bytes) in
      absurd (true≢false (sym top ∙ ((whole-shape bytes (typed known) whole).entry at place.inode named).free))

  -- an entry that names the root or the trash is in no whole volume
  pub names-top : Comes before after (Ok place) asked → is_top place.inode ≡ true
      → Comes before after (Err (Refused Invalid)) asked
  names-top c top = record {
    looks = past-refuses before after asked Invalid (past-as before after after asked asked
        (past-calm before before after asked asked (past-start before asked) c.looks.rows_are c.looks.opened_at
        c.looks.counts) (λ t. Err Invalid)
        (never c.looks top));
    stands = tt;
    allowed = tt;
  }

-- ---- by pairs

abbrev key_of : ℕ × List ℕ → EntryKey
key_of pair = record { dir = pair.0; name = pair.1 }

abbrev at_last : Tree → EntryKey → EntryKey → Result Move Fault
at_last t from to = some_or (get t.entries from) NotFound >>=
    (λ source. Ok (record { from = from; source = source; to = to }))

abbrev at_both : How → Tree → EntryKey → EntryKey → Result Move Fault
at_both how t from to = require (may_leave how from && may_be_new to) NotPermitted >>= (λ _. at_last t from to)

abbrev at_from : How → List ℕ → Tree → EntryKey → Result Move Fault
at_from how to t from = entry_pair t to >>= (λ q. at_both how t from (key_of q))

abbrev at_session : How → List ℕ → List ℕ → Tree → Result Move Fault
at_session how path to t = entry_pair t path >>= (λ p. at_from how to t (key_of p))

asked-is : (t : Tree) (sid : ℕ) (path to : List ℕ) (how : How)
    → move_asked t sid path to how ≡ (session_is sid t >>= (λ _. at_session how path to t))
asked-is t sid path to how =
    let inner = λ (from : EntryKey). by_pair (entry_of t to) (λ target. at_both how t from target) in
    let outer = by_pair (entry_of t path) (λ from. entry_of t to >>= (λ target. at_both how t from target)) in
    (λ i. session_is sid t >>= (λ _. outer i))
    ∙ (λ i. session_is sid t >>= (λ _. entry_pair t path >>= (λ p. inner (key_of p) i)))

-- ---- the ends are found

module _ (before middle : Store) (sid : ℕ) (path to : List ℕ) (how : How)
    (l : Looks before middle (Ok tt) (session_is sid)) where
  abbrev act : Tree → Result Move Fault
  act t = move_asked t sid path to how

  started : Past before before act (λ t. session_is sid t >>= (λ _. at_session how path to t))
  started = past-as before before before act act (past-start before act)
      (λ t. session_is sid t >>= (λ _. at_session how path to t))
      (λ known is whole bytes. asked-is (tree_of bytes (typed known)) sid path to how)

  in_it : Past before middle act (at_session how path to)
  in_it = past-looks before before middle act (session_is sid) (λ t _. at_session how path to t) started tt l

  -- the first entry wasn't walked to
  pub ends-no_from : (after : Store) (fault : TxFault) → ComesToEntry middle after (Err fault) (λ t. entry_pair t path)
      → FindsEnds before after (Err fault) act
  ends-no_from after fault w = record {
    looks = past-stops before middle after act (λ t. entry_pair t path) (λ t p. at_from how to t (key_of p)) in_it fault
        w.looks;
    stand = tt;
  }

  module _ (next : Store) (from : EntryPlace) (w : ComesToEntry middle next (Ok from) (λ t. entry_pair t path)) where
    at_first : Past before next act (λ t. at_from how to t (place_of from))
    at_first = past-looks before middle next act (λ t. entry_pair t path) (λ t p. at_from how to t (key_of p)) in_it
        (from.dir.inode, from.name) w.looks

    -- nor was the other one
    pub ends-no_to : (after : Store) (fault : TxFault) → ComesToEntry next after (Err fault) (λ t. entry_pair t to)
        → FindsEnds before after (Err fault) act
    ends-no_to after fault u = record {
      looks = past-stops before next after act (λ t. entry_pair t to) (λ t q. at_both how t (place_of from) (key_of q))
          at_first fault u.looks;
      stand = tt;
    }

    module _ (last : Store) (target : EntryPlace) (u : ComesToEntry next last (Ok target) (λ t. entry_pair t to)) where
      at_second : Past before last act (λ t. at_both how t (place_of from) (place_of target))
      at_second = past-looks before next last act (λ t. entry_pair t to)
          (λ t q. at_both how t (place_of from) (key_of q)) at_first (target.dir.inode, target.name) u.looks

      -- they may not go or come
      pub ends-not_permitted : (may_leave how (place_of from) && may_be_new (place_of target)) ≡ false
          → FindsEnds before last (Err (Refused NotPermitted)) act
      ends-not_permitted is = record {
        looks = past-refuses before last act NotPermitted
            (past-as before last last act (λ t. at_both how t (place_of from) (place_of target)) at_second
            (λ t. Err NotPermitted) (λ known known_is whole bytes.
            ap (λ b. require b NotPermitted >>=
            (λ _. at_last (tree_of bytes (typed known)) (place_of from) (place_of target))) is));
        stand = tt;
      }

      module _ (may : (may_leave how (place_of from) && may_be_new (place_of target)) ≡ true) where
        permitted : Past before last act
            (λ t. some_or (get t.entries (place_of from)) NotFound >>=
            (λ source. Ok (record { from = place_of from; source = source; to = place_of target })))
        permitted = past-as before last last act (λ t. at_both how t (place_of from) (place_of target)) at_second
            (λ t. at_last t (place_of from) (place_of target)) (λ known known_is whole bytes.
            ap (λ b. require b NotPermitted >>=
            (λ _. at_last (tree_of bytes (typed known)) (place_of from) (place_of target))) may)

        -- the first one isn't there
        pub ends-no_source : (after : Store) (fault : TxFault)
            → Comes last after (Err fault) (λ t. some_or (get t.entries (place_of from)) NotFound)
            → FindsEnds before after (Err fault) act
        ends-no_source after fault s = record {
          looks = past-stops before last after act (λ t. some_or (get t.entries (place_of from)) NotFound)
              (λ t source. Ok (record { from = place_of from; source = source; to = place_of target })) permitted fault
              s.looks;
          stand = tt;
        }

        -- all is there
        pub ends-found : (after : Store) (source : Place)
            → Comes last after (Ok source) (λ t. some_or (get t.entries (place_of from)) NotFound)
            → is_top source.inode ≡ false → FindsEnds before after
            (Ok (record { from = from; source = source; to = target })) act
        ends-found after source s low = record {
          looks = past-gives before after act
              (record { from = place_of from; source = source.inode; to = place_of target })
              (past-looks before last after act (λ t. some_or (get t.entries (place_of from)) NotFound)
              (λ t source. Ok (record { from = place_of from; source = source; to = place_of target })) permitted
              source.inode s.looks);
          stand = record {
            from = record {
              row = has_row-on next after from.dir.inode from.dir.node
                  (s.looks.rows_are ∙ u.looks.rows_are) w.stands;
              allowed = w.allowed;
              directory = w.directory;
            };
            to = record {
              row = has_row-on last after target.dir.inode target.dir.node s.looks.rows_are u.stands;
              allowed = u.allowed;
              directory = u.directory;
            };
            source = record { row = s.stands; allowed = s.allowed; low = low };
          };
        }

-- ---- what was found

-- the model's rename goes on with the ends
pub rename-is : (t : Tree) (who : Caller) (path to : List ℕ) (how : How)
    → rename t who path to how ≡ (move_asked t who.sid path to how >>= (λ m. renamed_by how t who m.from m.source m.to))
unfolding rename
rename-is t who path to how = by_parts (session_is who.sid t) (entry_of t path) (entry_of t to)
  where
    by_source : (from target : EntryKey) (o : Option ℕ)
        → (some_or o NotFound >>= (λ source. renamed_by how t who from source target))
        ≡ ((some_or o NotFound >>= (λ source. Ok (record { from = from; source = source; to = target }))) >>=
        (λ (m : Move). renamed_by how t who m.from m.source m.to))
    by_source from target None = refl
    by_source from target (Some source) = refl

    by_test : (from target : EntryKey) (r : Result (Unit {0}) Fault)
        → (r >>= (λ _. some_or (get t.entries from) NotFound >>= (λ source. renamed_by how t who from source target)))
        ≡ ((r >>= (λ _. at_last t from target)) >>= (λ (m : Move). renamed_by how t who m.from m.source m.to))
    by_test from target (Ok u) = by_source from target (get t.entries from)
    by_test from target (Err fault) = refl

    by_parts : (s : Result (Unit {0}) Fault) (p q : Result EntryKey Fault)
        → (s >>= (λ _. p >>= (λ from. q >>=
        (λ target. require (may_leave how from && may_be_new target) NotPermitted >>=
        (λ _. some_or (get t.entries from) NotFound >>= (λ source. renamed_by how t who from source target))))))
        ≡ ((s >>= (λ _. p >>= (λ from. q >>= (λ target. at_both how t from target)))) >>=
        (λ (m : Move). renamed_by how t who m.from m.source m.to))
    by_parts (Err fault) p q = refl
    by_parts (Ok u) (Err fault) q = refl
    by_parts (Ok u) (Ok from) (Err fault) = refl
    by_parts (Ok u) (Ok from) (Ok target) =
        by_test from target (require (may_leave how from && may_be_new target) NotPermitted)

-- what the tree is, where they were found
pub is_move : (t : Tree) (sid : ℕ) (path to : List ℕ) (how : How) (m : Move) → WholeShape (shape_of t)
    → IsTrue (has_no_zero to) → move_asked t sid path to how ≡ Ok m → IsMove t sid how m
is_move t sid path to how m whole plain h =
    let next = λ (from : EntryKey). entry_of t to >>= (λ target. at_both how t from target) in
    let inside = went_on (session_is sid t) (λ _. entry_of t path >>= next) m h in
    let from = went_on (entry_of t path) next m inside.2 in
    let target = went_on (entry_of t to) (λ target. at_both how t from.0 target) m from.2 in
    let tests = went_on (require (may_leave how from.0 && may_be_new target.0) NotPermitted)
    (λ _. at_last t from.0 target.0) m target.2 in
    let source = went_on (some_or (get t.entries from.0) NotFound)
    (λ source. Ok (record { from = from.0; source = source; to = target.0 })) m tests.2 in
    let same : record { from = from.0; source = source.0; to = target.0 } ≡ m = same_Ok _ m source.2 in
    let both = and_parts (may_leave how from.0) (may_be_new target.0)
    (required (may_leave how from.0 && may_be_new target.0) NotPermitted tests.0 tests.1) in
    subst (IsMove t sid how) same (record {
      session = required _ (Stale (Session sid)) inside.0 inside.1;
      is = was_some _ NotFound source.0 source.1;
      leaves = both.0;
      enters = both.1;
      within = entry_within t to target.0 target.1;
      name = entry_of-name t to plain target.0 target.1;
    })
