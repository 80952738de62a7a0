-- How an entry that may be removed is found: each exit, and what holds of it over a whole tree.
use Rattle.std.proofs.Common.{◌≡◌, ℕ, true, false, List, Some, Result, Ok, Err, sym, ap, subst, ◌∙◌}
use Rattle.std.specs.Prelude.{is_some, IsTrue}
use Rattle.jv_model.specs.declared.fault.Fault.{Fault}
use Rattle.jv_model.specs.declared.fault.Fault.TheVariants.{NotFound, NotPermitted, Stale}
use Rattle.jv_model.specs.declared.fault.Gone.TheVariants.{Session}
use Rattle.jv_model.specs.declared.fault.TxFault.{TxFault}
use Rattle.jv_model.specs.declared.fault.TxFault.TheVariants.{Refused}
use Rattle.jv_model.specs.promise.FiniteMap.{get}
use Rattle.jv_model.specs.promise.tree.Attempt.{◌>>=◌, require, some_or}
use Rattle.jv_model.specs.promise.tree.Removing.{may_go}
use Rattle.jv_model.specs.promise.tree.Tree.{Tree, EntryKey, is_directory}
use Rattle.jv_model.specs.promise.tree.Walk.{entry_of}
use Rattle.jv_outside.specs.promise.Store.{Store}
use Rattle.jv_rows.specs.declared.walking.EntryPlace.{EntryPlace}
use Rattle.jv_rows.specs.declared.walking.Place.{Place}
use Rattle.jv_rows.specs.Transactions.{Looks}
use Rattle.jv_rows.specs.Walks.{entry_pair, Comes, ComesToEntry}
use Rattle.jv_rows.proofs.transactions.NeedingLaws.{session_is}
use Rattle.jv_rows.proofs.transactions.TransactionLaws.{Past, past-start, past-as, past-looks, past-stops, past-gives, past-refuses}
use Rattle.jv_tree.proofs.MakeLaws.{by_pair}
use Rattle.jv_volume.specs.promise.TypedRows.{typed}
use Rattle.jv_volume.specs.promise.TreeOf.{tree_of}
use Rattle.jv_volume.proofs.shapes.WalkShapeLaws.{went_on, required, was_some, entry_within}
use Rattle.jv_links.specs.Removable.{removable_at, ComesToRemovable}
use Rattle.jv_model.specs.promise.tree.Caller.{session_there}
use Rattle.jv_model.proofs.TestLaws.{same_Ok}

-- the entry of a place, with its inode
abbrev named_at : Tree → EntryKey → Result (EntryKey × ℕ) Fault
named_at t place = some_or (get t.entries place) NotFound >>= (λ inode. Ok (place, inode))

-- the tests of a place
abbrev tested : Tree → EntryKey → Result (EntryKey × ℕ) Fault
tested t place = require (may_go place) NotPermitted >>= (λ _. named_at t place)

abbrev at_pair : Tree → ℕ × List ℕ → Result (EntryKey × ℕ) Fault
at_pair t pair = tested t (record { dir = pair.0; name = pair.1 })

module _ (sid : ℕ) (path : List ℕ) (before middle : Store) where
  abbrev act : Tree → Result (EntryKey × ℕ) Fault
  act t = removable_at t sid path

  -- the session is gone, or wasn't read
  pub removable-no_session : (fault : TxFault) → Looks before middle (Err fault) (session_is sid)
      → ComesToRemovable before middle (Err fault) act
  removable-no_session fault l = record {
    looks = past-stops before before middle act (session_is sid) (λ t _. entry_of t path >>= tested t)
        (past-start before act) fault l;
    stands = tt;
  }

  module _ (session : Looks before middle (Ok tt) (session_is sid)) (walked : Store) where
    inside : Past before middle act (λ t. entry_pair t path >>= at_pair t)
    inside = past-as before middle middle act (λ t. entry_of t path >>= tested t)
        (past-looks before before middle act (session_is sid) (λ t _. entry_of t path >>= tested t)
        (past-start before act) tt session)
        (λ t. entry_pair t path >>= at_pair t) (λ known is whole bytes. (let t = tree_of bytes (typed known) in
        by_pair (entry_of t path) (tested t)))

    -- no entry was walked to
    pub removable-no_place : (fault : TxFault) → ComesToEntry middle walked (Err fault) (λ t. entry_pair t path)
        → ComesToRemovable before walked (Err fault) act
    removable-no_place fault w = record {
      looks = past-stops before middle walked act (λ t. entry_pair t path) at_pair inside fault w.looks;
      stands =
          tt;
    }

    module _ (place : EntryPlace) (w : ComesToEntry middle walked (Ok place) (λ t. entry_pair t path)) where
      abbrev here : EntryKey
      here = record { dir = place.dir.inode; name = place.name }

      arrived : Past before walked act (λ t. tested t here)
      arrived = past-looks before middle walked act (λ t. entry_pair t path) at_pair inside
          (place.dir.inode, place.name) w.looks

      -- it is `.trash` or one of its hours
      pub removable-not_permitted : may_go here ≡ false
          → ComesToRemovable before walked (Err (Refused NotPermitted)) act
      removable-not_permitted is = record {
        looks = past-refuses before walked act NotPermitted
            (past-as before walked walked act (λ t. tested t here) arrived (λ t. Err NotPermitted)
            (λ known at whole bytes. (let t = tree_of bytes (typed known) in
            ap (λ b. require b NotPermitted >>= (λ _. named_at t here)) is)));
        stands = tt;
      }

      module _ (may : may_go here ≡ true) (after : Store) where
        allowed : Past before walked act (λ t. named_at t here)
        allowed = past-as before walked walked act (λ t. tested t here) arrived (λ t. named_at t here)
            (λ known at whole bytes. (let t = tree_of bytes (typed known) in
            ap (λ b. require b NotPermitted >>= (λ _. named_at t here)) may))

        -- it isn't there, or wasn't read
        pub removable-none : (fault : TxFault)
            → Comes walked after (Err fault) (λ t. some_or (get t.entries here) NotFound)
            → ComesToRemovable before after (Err fault) act
        removable-none fault c = record {
          looks = past-stops before walked after act (λ t. some_or (get t.entries here) NotFound)
              (λ t inode. Ok (here, inode)) allowed fault c.looks;
          stands = tt;
        }

        -- it is there
        pub removable-found : (node : Place) → Comes walked after (Ok node) (λ t. some_or (get t.entries here) NotFound)
            → ComesToRemovable before after (Ok (record { dir = place.dir.inode; name = place.name; node = node })) act
        removable-found node c = record {
          looks = past-gives before after act (here, node.inode)
              (past-looks before walked after act (λ t. some_or (get t.entries here) NotFound)
              (λ t inode. Ok (here, inode)) allowed node.inode c.looks);
          stands = c.stands;
        }

-- ---- what holds of it

pub record IsRemovable (t : Tree) (sid : ℕ) (place : EntryKey) (inode : ℕ) : Type 0 where
  pub session : IsTrue (is_some (get t.sessions sid))
  pub within : is_directory t place.dir ≡ true
  pub may : may_go place ≡ true
  pub is : get t.entries place ≡ Some inode

same_pair : (x y : EntryKey × ℕ) → x ≡ y → (x.0 ≡ y.0) × (x.1 ≡ y.1)
same_pair x y e = (ap (λ p. p.0) e, ap (λ p. p.1) e)

pub is_removable : (t : Tree) (sid : ℕ) (path : List ℕ) (place : EntryKey) (inode : ℕ)
    → removable_at t sid path ≡ Ok (place, inode)
    → IsRemovable t sid place inode
is_removable t sid path place inode h =
    let in_it = went_on (session_there t sid)
    (λ _. entry_of t path >>= tested t) (place, inode) h in
    let entry = went_on (entry_of t path) (tested t) (place, inode) in_it.2 in
    let test = went_on (require (may_go entry.0) NotPermitted) (λ _. named_at t entry.0) (place, inode) entry.2 in
    let there = went_on (some_or (get t.entries entry.0) NotFound) (λ i. Ok (entry.0, i)) (place, inode) test.2 in
    let same = same_pair (entry.0, there.0) (place, inode) (same_Ok (entry.0, there.0) (place, inode) there.2) in
    record {
      session = required _ (Stale (Session sid)) in_it.0 in_it.1;
      within = subst (λ (q : EntryKey). is_directory t q.dir ≡ true) same.0 (entry_within t path entry.0 entry.1);
      may = subst (λ (q : EntryKey). may_go q ≡ true) same.0 (required (may_go entry.0) NotPermitted test.0 test.1);
      is = ap (get t.entries) (sym same.0) ∙ was_some _ NotFound there.0 there.1 ∙ ap Some same.1;
    }
