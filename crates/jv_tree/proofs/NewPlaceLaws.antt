-- Where a new entry may stand: each exit of the search for its place.
use Rattle.std.proofs.Common.{◌≡◌, ℕ, Bool, true, false, not, List, [], Option, None, Some, is_some, Result, Ok, Err, refl, sym, ap, subst, ◌∙◌}
use Rattle.std.specs.Option.{option_map}
use Rattle.jv_model.specs.declared.fault.Fault.{Fault}
use Rattle.jv_model.specs.declared.fault.Fault.TheVariants.{AlreadyExists, NotPermitted}
use Rattle.jv_model.specs.declared.fault.RowFault.{RowFault}
use Rattle.jv_model.specs.declared.fault.TxFault.{TxFault}
use Rattle.jv_model.specs.declared.fault.TxFault.TheVariants.{Refused, Rows as OfRows}
use Rattle.jv_model.specs.declared.row.Edge.{Edge}
use Rattle.jv_model.specs.declared.row.Row.TheVariants.{OfEdge}
use Rattle.jv_model.specs.promise.FiniteMap.{get}
use Rattle.jv_model.specs.promise.rows.RowGrammar.{is_edge, edge_bytes, edge_of}
use Rattle.jv_model.specs.promise.rows.RowKeys.{RowMap}
use Rattle.jv_model.specs.promise.rows.RowPlaces.{edge_key}
use Rattle.jv_model.specs.promise.tree.Attempt.{◌>>=◌, require}
use Rattle.jv_model.specs.promise.tree.Making.{may_be_new}
use Rattle.jv_model.specs.promise.tree.Tree.{Tree, EntryKey}
use Rattle.jv_model.specs.promise.tree.Walk.{entry_of}
use Rattle.jv_outside.specs.promise.Store.{Store}
use Rattle.jv_rows.specs.declared.walking.EntryPlace.{EntryPlace}
use Rattle.jv_rows.specs.Drafts.{Sees}
use Rattle.jv_rows.specs.Readings.{ReadsRow}
use Rattle.jv_rows.specs.Tables.{edge_row}
use Rattle.jv_rows.specs.Walks.{HasNodeRow, pair_in, entry_pair, ComesToEntry}
use Rattle.jv_rows.proofs.transactions.DraftLaws.{sees_stored}
use Rattle.jv_rows.proofs.transactions.TransactionLaws.{Past, past-start, past-as, past-calm, past-looks, past-stops, past-fails, past-gives, past-refuses, fails-sees, stands-sees, as_stored}
use Rattle.jv_volume.specs.promise.TypedRows.{typed}
use Rattle.jv_volume.specs.promise.Views.{row_in, edge_in}
use Rattle.jv_volume.specs.promise.TreeOf.{tree_of}
use Rattle.jv_volume.proofs.stored.TreeOfLaws.{get-entries}
use Rattle.jv_tree.specs.Entering.{new_pair, place_of}

-- the tests of a place, as a pair
abbrev tested : Tree → ℕ × List ℕ → Result (ℕ × List ℕ) Fault
tested t pair = require (may_be_new (record { dir = pair.0; name = pair.1 })) NotPermitted
    >>= (λ _. require (not (is_some (get t.entries (record { dir = pair.0; name = pair.1 })))) AlreadyExists >>= (λ _. Ok pair))

by_tests : (place : EntryKey) (may free : Bool)
    → ((require may NotPermitted >>= (λ _. require free AlreadyExists >>= (λ _. Ok place))) >>= (λ at. Ok (pair_in at)))
    ≡ (require may NotPermitted >>= (λ _. require free AlreadyExists >>= (λ _. Ok (pair_in place))))
by_tests place true true = refl
by_tests place true false = refl
by_tests place false free = refl

by_entry : (t : Tree) (r : Result EntryKey Fault)
    → ((r >>= (λ place. require (may_be_new place) NotPermitted >>= (λ _. require (not (is_some (get t.entries place))) AlreadyExists >>= (λ _. Ok place)))) >>= (λ at. Ok (pair_in at)))
    ≡ ((r >>= (λ at. Ok (pair_in at))) >>= tested t)
by_entry t (Ok place) = by_tests place (may_be_new place) (not (is_some (get t.entries place)))
by_entry t (Err fault) = refl

-- a new place is an entry's that passes the tests
new_pair-is : (t : Tree) (path : List ℕ) → new_pair t path ≡ (entry_pair t path >>= tested t)
new_pair-is t path = by_entry t (entry_of t path)

module _ (before middle : Store) (path : List ℕ) where
  abbrev act : Tree → Result (ℕ × List ℕ) Fault
  act t = new_pair t path

  started : Past before before act (λ t. entry_pair t path >>= tested t)
  started = past-as before before before act act (past-start before act) (λ t. entry_pair t path >>= tested t) (λ known is whole bytes. new_pair-is (tree_of bytes (typed known)) path)

  -- no entry was walked to
  pub new_place-stops : (fault : TxFault) → ComesToEntry before middle (Err fault) (λ t. entry_pair t path) → ComesToEntry before middle (Err fault) act
  new_place-stops fault w = record {
    looks = past-stops before before middle act (λ t. entry_pair t path) (λ t. tested t) started fault w.looks;
    stands = tt;
    allowed = tt;
    directory = tt;
  }

  module _ (place : EntryPlace) (w : ComesToEntry before middle (Ok place) (λ t. entry_pair t path)) where
    walked : Past before middle act (λ t. tested t (place.dir.inode, place.name))
    walked = past-looks before before middle act (λ t. entry_pair t path) (λ t. tested t) started (place.dir.inode, place.name) w.looks

    -- no new entry may stand there
    pub new_place-not_permitted : may_be_new (place_of place) ≡ false → ComesToEntry before middle (Err (Refused NotPermitted)) act
    new_place-not_permitted is = record {
      looks = past-refuses before middle act NotPermitted
          (past-as before middle middle act (λ t. tested t (place.dir.inode, place.name)) walked (λ t. Err NotPermitted) (λ known known_is whole bytes.
          ap (λ b. require b NotPermitted >>= (λ _. require (not (is_some (get (tree_of bytes (typed known)).entries (place_of place)))) AlreadyExists >>= (λ _. Ok (place.dir.inode, place.name)))) is));
      stands = tt;
      allowed = tt;
      directory = tt;
    }

    module _ (may : may_be_new (place_of place) ≡ true) where
      abbrev unless_there : Tree → Result (ℕ × List ℕ) Fault
      unless_there t = require (not (is_some (get t.entries (place_of place)))) AlreadyExists >>= (λ _. Ok (place.dir.inode, place.name))

      permitted : Past before middle act unless_there
      permitted = past-as before middle middle act (λ t. tested t (place.dir.inode, place.name)) walked unless_there (λ known is whole bytes.
          ap (λ b. require b NotPermitted >>= (λ _. unless_there (tree_of bytes (typed known)))) may)

      module _ (after : Store) where
        edge_seen : (result : Result (Option Edge) RowFault) → ReadsRow edge_of edge_bytes is_edge (edge_key place.dir.inode place.name) middle after result
            → Sees OfEdge is_edge (edge_key place.dir.inode place.name) [] middle after result
        edge_seen result r = sees_stored OfEdge edge_of 3 edge_row (edge_key place.dir.inode place.name) refl edge_bytes is_edge [] middle after result refl r

        -- its edge wasn't read
        pub new_place-unread : (fault : RowFault) → ReadsRow edge_of edge_bytes is_edge (edge_key place.dir.inode place.name) middle after (Err fault) → ComesToEntry before after (Err (OfRows fault)) act
        new_place-unread fault r = record {
          looks = past-fails before middle after act unless_there permitted (OfRows fault)
              (fails-sees OfEdge is_edge (edge_key place.dir.inode place.name) [] middle after (as_stored (edge_key place.dir.inode place.name) middle) fault (edge_seen (Err fault) r));
          stands = tt;
          allowed = tt;
          directory = tt;
        }

        module _ (found : Option Edge) (r : ReadsRow edge_of edge_bytes is_edge (edge_key place.dir.inode place.name) middle after (Ok found)) where
          seen : Sees OfEdge is_edge (edge_key place.dir.inode place.name) [] middle after (Ok found)
          seen = edge_seen (Ok found) r

          named_by : (o : Option Edge) → found ≡ o → (known : RowMap) → before.rows ≡ Some known → (bytes : ℕ → ℕ → ℕ)
              → get (tree_of bytes (typed known)).entries (place_of place) ≡ option_map (λ (edge : Edge). edge.inode) o
          named_by o e known is bytes =
              get-entries bytes (typed known) (place_of place)
              ∙ ap (λ c. option_map (λ (edge : Edge). edge.inode) (edge_in (row_in c)))
              (stands-sees OfEdge is_edge (edge_key place.dir.inode place.name) [] middle after (as_stored (edge_key place.dir.inode place.name) middle) found seen known (w.looks.rows_are ∙ is)
              ∙ ap (λ x. option_map (λ (edge : Edge). Ok (OfEdge edge)) x) e)
              ∙ ap (option_map (λ (edge : Edge). edge.inode)) (back o)
            where
              back : (o : Option Edge) → edge_in (row_in (option_map (λ (edge : Edge). Ok (OfEdge edge)) o)) ≡ o
              back None = refl
              back (Some edge) = refl

          read_on : Past before after act unless_there
          read_on = past-calm before middle after act unless_there permitted seen.rows_are seen.opened_at seen.counts

          by_name : (o : Option ℕ) (known : RowMap) (bytes : ℕ → ℕ → ℕ) → get (tree_of bytes (typed known)).entries (place_of place) ≡ o
              → unless_there (tree_of bytes (typed known)) ≡ (require (not (is_some o)) AlreadyExists >>= (λ _. Ok (place.dir.inode, place.name)))
          by_name o known bytes e = ap (λ x. require (not (is_some x)) AlreadyExists >>= (λ _. Ok (place.dir.inode, place.name))) e

          -- an entry is there
          pub new_place-taken : (edge : Edge) → found ≡ Some edge → ComesToEntry before after (Err (Refused AlreadyExists)) act
          new_place-taken edge e = record {
            looks = past-refuses before after act AlreadyExists
                (past-as before after after act unless_there read_on (λ t. Err AlreadyExists) (λ known is whole bytes. by_name (Some edge.inode) known bytes (named_by (Some edge) e known is bytes)));
            stands = tt;
            allowed = tt;
            directory = tt;
          }

          -- no entry is there
          pub new_place-free : found ≡ None → ComesToEntry before after (Ok place) act
          new_place-free e = record {
            looks = past-gives before after act (place.dir.inode, place.name)
                (past-as before after after act unless_there read_on (λ t. Ok (place.dir.inode, place.name)) (λ known is whole bytes. by_name None known bytes (named_by None e known is bytes)));
            stands = subst (λ rows. HasNodeRow (record middle { rows = rows }) place.dir.inode place.dir.node) (sym seen.rows_are) w.stands;
            allowed = w.allowed;
            directory = w.directory;
          }
