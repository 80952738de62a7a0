-- How a number is given: each exit, by what was read and what was changed.
use Rattle.std.proofs.Common.{◌≡◌, ℕ, ◌+◌, ◌<◌, ◌≤◌, inl, inr, false, List, [], Option, None, Some, Result, Ok, Err, refl, sym, ap, subst, ◌∙◌, arith, lt-ltb, le-ltb, leb-true}
use Rattle.std.proofs.lemmas.Bool.{and_parts}
use Rattle.std.proofs.lemmas.Option.{same_Some}
use Rattle.std.specs.Prelude.{◌==◌, ◌&&◌, IsTrue, nat_le, nat_lt}
use Rattle.std.specs.Option.{option_map}
use Rattle.jv_model.specs.declared.tables.TheConstants.{TABLE_OF_COUNTERS}
use Rattle.jv_model.specs.declared.fault.Fault.{Fault}
use Rattle.jv_model.specs.declared.fault.Fault.TheVariants.{NoSpace}
use Rattle.jv_model.specs.declared.fault.RowFault.TheVariants.{Bad, Failed, Memory}
use Rattle.jv_model.specs.declared.fault.TxFault.{TxFault}
use Rattle.jv_model.specs.declared.fault.TxFault.TheVariants.{Refused, Moved, Rows as OfRows}
use Rattle.jv_model.specs.declared.limits.TheConstants.{FULL_COUNT}
use Rattle.jv_model.specs.declared.row.Counters.{Counters}
use Rattle.jv_model.specs.declared.row.Row.TheVariants.{OfCounters}
use Rattle.jv_model.specs.declared.row.RowKey.{RowKey}
use Rattle.jv_model.specs.promise.FiniteMap.{get, empty_map}
use Rattle.jv_model.specs.FiniteMap.{alter}
use Rattle.jv_model.specs.promise.rows.RowGrammar.{is_counters}
use Rattle.jv_model.specs.promise.rows.RowKeys.{row_key, RowMap}
use Rattle.jv_model.specs.promise.rows.RowPlaces.{counters_key, node_key, dropped_key, slice_key, dead_key}
use Rattle.jv_model.specs.promise.tree.Attempt.{◌>>=◌, require}
use Rattle.jv_model.specs.promise.tree.Tree.{Tree}
use Rattle.jv_outside.specs.declared.batch.Change.{Change}
use Rattle.jv_outside.specs.promise.Rows.{applied}
use Rattle.jv_outside.specs.promise.Store.{Store}
use Rattle.jv_outside.specs.Store.{Commits}
use Rattle.jv_rows.specs.Drafts.{drafted, cell, Needs}
use Rattle.jv_rows.specs.Transactions.{Agrees, Looks}
use Rattle.jv_rows.proofs.transactions.NeedingLaws.{session_is, CountersNeeded, fails-needed, stands-needs}
use Rattle.jv_rows.proofs.transactions.TransactionLaws.{Past, past-start, past-as, past-calm, past-looks, past-fails, past-refuses, drafted-none}
use Rattle.jv_volume.specs.promise.TypedRows.{Cell, Rows, typed}
use Rattle.jv_volume.specs.promise.Shape.{WholeShape, shape_of}
use Rattle.jv_volume.specs.promise.Views.{row_in, counters_in, counters_at, node_in, node_row_at, dropped_in, dropped_at, slice_in, slice_row_at, dead_in, dead_at, lists_of}
use Rattle.jv_volume.specs.promise.TreeOf.{or_no_counters, counters_of_rows, tree_of}
use Rattle.jv_volume.specs.promise.Slices.{IsUnknown, named_by, count_in, next_slice, WholeSlices, WholeFiles, HasLists, OfFile, OfDropped}
use Rattle.jv_volume.specs.promise.Whole.{Whole, no_bytes}
use Rattle.jv_volume.proofs.maps.MapLaws.{get-alter-here, get-alter-apart}
use Rattle.jv_volume.proofs.shapes.ShapeMapLaws.{same_or_apart}
use Rattle.jv_volume.proofs.stored.StoredLaws.{HasCounters, of_counters, found_counters, whole-stored}
use Rattle.jv_volume.proofs.stored.StoredStepLaws.{stored-put_counters}
use Rattle.jv_volume.proofs.stored.TreeOfLaws.{tree_of-put_counters}
use Rattle.jv_volume.proofs.maps.SeenLaws.{row-put, rows-alter}
use Rattle.jv_volume_bytes.proofs.PlaceLaws.{place_in-same}
use Rattle.jv_data.proofs.lists.ListRowLaws.{get-other, named_by-other, lists_of-other, listed-other}
use Rattle.jv_data.specs.Records.{TakesNumber, LandsNumber, Numbered, number_given}

-- ---- rows with one more number given

module _ (rows : Rows) (c : Counters) (whole : Whole rows) (there : counters_at rows ≡ Some c) (positive : 1 ≤ c.slice) (room : c.slice < FULL_COUNT) where
  abbrev next : Counters
  next = record c { slice = c.slice + 1 }

  abbrev put : Option Cell
  put = Some (of_counters next)

  abbrev pub numbered_rows : Rows
  numbered_rows = alter rows counters_key put

  same_row : (key : RowKey) → (key.tab == TABLE_OF_COUNTERS) ≡ false → get numbered_rows key ≡ get rows key
  same_row key other = get-other rows counters_key put key other

  counters_then : counters_of_rows numbered_rows ≡ next
  counters_then = ap (λ c. or_no_counters (counters_in (row_in c))) (get-alter-here row_key rows counters_key put)

  counters_was : counters_of_rows rows ≡ c
  counters_was = ap or_no_counters there

  has : (bytes : ℕ → ℕ → ℕ) → HasCounters (tree_of bytes rows) c
  has bytes = found_counters bytes rows (whole-stored bytes rows whole) c there

  pub tree-numbered : (bytes : ℕ → ℕ → ℕ) → tree_of bytes numbered_rows ≡ tree_of bytes rows
  tree-numbered bytes = tree_of-put_counters bytes rows next
      ∙ (λ i. record (tree_of bytes rows) { next_inode = sym (has bytes).next_inode i; next_session = sym (has bytes).next_session i })

  same_node : (i : ℕ) → node_row_at numbered_rows i ≡ node_row_at rows i
  same_node i = ap (λ c. node_in (row_in c)) (same_row (node_key i) refl)

  same_dropped : (i : ℕ) → dropped_at numbered_rows i ≡ dropped_at rows i
  same_dropped i = ap (λ c. dropped_in (row_in c)) (same_row (dropped_key i) refl)

  same_slice : (id : ℕ) → slice_row_at numbered_rows id ≡ slice_row_at rows id
  same_slice id = ap (λ c. slice_in (row_in c)) (same_row (slice_key id) refl)

  same_dead : (id : ℕ) → dead_at numbered_rows id ≡ dead_at rows id
  same_dead id = ap (λ c. dead_in (row_in c)) (same_row (dead_key id) refl)

  same_named : (id : ℕ) → named_by numbered_rows id ≡ named_by rows id
  same_named id = named_by-other rows counters_key put refl id

  pub unknown-numbered : (id : ℕ) → IsUnknown rows id → IsUnknown numbered_rows id
  unknown-numbered id old = record {
    unnamed = same_named id ∙ old.unnamed;
    no_row = same_slice id ∙ old.no_row;
    not_dead = same_dead id ∙ old.not_dead;
  }

  slices-numbered : WholeSlices numbered_rows
  slices-numbered = (let w = whole.slices in record {
    sizes = w.sizes;
    records = listed-other _ rows counters_key put refl w.records;
    sized = listed-other _ rows counters_key put refl w.sized;
    slice_size = λ id slice here. w.slice_size id slice (sym (same_slice id) ∙ here);
    exact = λ id low. ap count_in (same_slice id) ∙ w.exact id low ∙ sym (same_named id);
    dead_size = λ id dead some here. w.dead_size id dead some (sym (same_dead id) ∙ here);
    apart = λ id some here. same_slice id ∙ w.apart id some (λ none. here (same_dead id ∙ none));
    below = λ id high. unknown-numbered id (w.below id (subst (λ c. c.slice ≤ id) (sym counters_was) (less (subst (λ c. c.slice ≤ id) counters_then high))));
    none = same_slice 0 ∙ w.none;
    slices_end = subst (λ c. c.slice ≤ FULL_COUNT) (sym counters_then) (omega (arith, room));
  })
    where
      less : {id : ℕ} → c.slice + 1 ≤ id → c.slice ≤ id
      less high = omega (arith, high)

  lists_kept : (i : ℕ) → HasLists rows i → HasLists numbered_rows i
  lists_kept i (OfFile was here kind) = OfFile was (same_node i ∙ here) kind
  lists_kept i (OfDropped here) = OfDropped (λ none. here (sym (same_dropped i) ∙ none))

  files-numbered : WholeFiles numbered_rows
  files-numbered = (let w = whole.files in record {
    small = λ i n here kind. w.small i n (sym (same_node i) ∙ here) kind;
    past = λ i n here kind p high. place_in-same (lists_of numbered_rows i) (lists_of rows i) (λ u. lists_of-other rows counters_key put refl i u) p
        ∙ w.past i n (sym (same_node i) ∙ here) kind p high;
    owned = λ key tab here. lists_kept key.a (w.owned key tab (λ none. here (same_row key (ap (λ n. n == 1) tab) ∙ none)));
    gone = λ i here. (let old = w.gone i (λ none. here (same_dropped i ∙ none)) in
        (same_node i ∙ old.0, subst (λ c. i < c.inode) (sym counters_then) (subst (λ c. i < c.inode) counters_was old.1)));
  })

  pub whole-numbered : Whole numbered_rows
  whole-numbered = record {
    cells = rows-alter rows counters_key put whole.cells
        (λ x. row-put counters_key (of_counters next) x (record { key_is = refl; cell_is = refl; hour = refl }));
    stored = stored-put_counters no_bytes rows next whole.stored (has no_bytes).space (has no_bytes).inodes;
    tree = subst (λ t. WholeShape (shape_of t)) (sym (tree-numbered no_bytes)) whole.tree;
    slices = slices-numbered;
    files = files-numbered;
  }

  numbered_as : (known after : RowMap) → typed known ≡ rows → typed after ≡ numbered_rows → Numbered known (Some after) c.slice
  numbered_as known after known_is after_is = record {
    left = after;
    is = refl;
    whole = subst Whole (sym after_is) whole-numbered;
    low = positive;
    given = sym (ap (λ (r : Rows). next_slice r) known_is ∙ ap (λ (c : Counters). c.slice) counters_was);
    next = ap (λ (r : Rows). next_slice r) after_is ∙ ap (λ (c : Counters). c.slice) counters_then;
    unknown = subst (λ (r : Rows). IsUnknown r c.slice) (sym after_is) (unknown-numbered c.slice
        (whole.slices.below c.slice (subst (λ (d : Counters). d.slice ≤ c.slice) (sym counters_was) (omega arith))));
    same = λ bytes. ap (tree_of bytes) after_is ∙ tree-numbered bytes ∙ ap (tree_of bytes) (sym known_is);
    others = λ key. elim (same_or_apart row_key key counters_key) [
      | inl at ↦ inr at
      | inr apart ↦ inl (ap (λ (r : Rows). get r key) after_is ∙ get-alter-apart row_key rows counters_key put key apart ∙ ap (λ (r : Rows). get r key) (sym known_is))
    ];
  }

-- ---- the call

module _ (sid : ℕ) (before middle : Store) where
  -- what the number is, by the rows at the start
  abbrev rest : Rows → Tree → Result ℕ Fault
  rest rows t = require (nat_lt (next_slice rows) FULL_COUNT) NoSpace >>= (λ unit. Ok (next_slice rows))

  numbers_refused : (fault : TxFault) (known : RowMap) (after : Option RowMap)
      → Agrees {A = ℕ} (Err fault) (number_given sid (typed known) (tree_of no_bytes (typed known))) → LandsNumber sid known after (Err fault)
  numbers_refused (Refused fault) known after h = h
  numbers_refused (Moved list) known after h = h
  numbers_refused (OfRows (Bad at bytes)) known after h = h
  numbers_refused (OfRows Failed) known after h = tt
  numbers_refused (OfRows Memory) known after h = tt

  -- whatever rows are numbered, since the tree doesn't have the number
  pub number-refused : (after : Store) (fault : TxFault) → ((rows : Rows) → ((known : RowMap) → before.rows ≡ Some known → rows ≡ typed known)
      → Looks {A = ℕ} before after (Err fault) (number_given sid rows)) → TakesNumber sid before after (Err fault)
  number-refused after fault looks = from_rows before.rows refl
    where
      from_rows : (o : Option RowMap) → before.rows ≡ o → TakesNumber sid before after (Err fault)
      from_rows None is = (let l = looks empty_map (λ known here. absurd (let both = sym is ∙ here in cc)) in record {
        opened_at = l.opened_at;
        counts = l.counts;
        undone = l.rows_are;
        bad = l.bad;
        lands = λ known here whole. absurd (let both = sym is ∙ here in cc);
      })
      from_rows (Some known) is = (let l = looks (typed known) (λ other here. ap typed (same_Some known other (sym is ∙ here))) in record {
        opened_at = l.opened_at;
        counts = l.counts;
        undone = l.rows_are;
        bad = l.bad;
        lands = λ other here whole. numbers_refused fault other after.rows
            (subst (λ (k : RowMap). Agrees {A = ℕ} (Err fault) (number_given sid (typed k) (tree_of no_bytes (typed other)))) (same_Some known other (sym is ∙ here))
            (l.agrees other here whole no_bytes));
      })

  module _ (session : Looks before middle (Ok tt) (session_is sid)) (none : List Change) (is_none : none ≡ []) where
    asked : (rows : Rows) → Past before middle (number_given sid rows) (rest rows)
    asked rows = past-looks before before middle (number_given sid rows) (session_is sid) (λ t unit. rest rows t)
        (past-start before (number_given sid rows)) tt session

    kept : (known : RowMap) → middle.rows ≡ Some known → get (drafted none known) counters_key ≡ get (typed known) counters_key
    kept known is = ap (λ ch. get (drafted ch known) counters_key) is_none ∙ ap (λ (rows : Rows). get rows counters_key) (drafted-none known)

    pub number-uncounted : (after : Store) (fault : TxFault) → Needs OfCounters is_counters counters_key none middle after (Err fault)
        → TakesNumber sid before after (Err fault)
    number-uncounted after fault n = number-refused after fault (λ rows is.
        past-fails before middle after (number_given sid rows) (rest rows) (asked rows) fault
        (fails-needed OfCounters is_counters counters_key none middle after kept (CountersNeeded refl) fault n))

    module _ (counted : Store) (c : Counters) (n : Needs OfCounters is_counters counters_key none middle counted (Ok c)) where
      seen : (rows : Rows) → Past before counted (number_given sid rows) (rest rows)
      seen rows = past-calm before middle counted (number_given sid rows) (rest rows) (asked rows) n.rows_are n.opened_at n.counts

      there : (known : RowMap) → before.rows ≡ Some known → counters_at (typed known) ≡ Some c
      there known is = ap (λ o. counters_in (row_in o))
          (stands-needs OfCounters is_counters counters_key none middle counted kept c n known (session.rows_are ∙ is))

      next_is : (known : RowMap) → before.rows ≡ Some known → next_slice (typed known) ≡ c.slice
      next_is known is = ap (λ o. (or_no_counters o).slice) (there known is)

      pub number-full : FULL_COUNT ≤ c.slice → TakesNumber sid before counted (Err (Refused NoSpace))
      number-full full = number-refused counted (Refused NoSpace) (λ rows rows_are.
          past-refuses before counted (number_given sid rows) NoSpace
          (past-as before counted counted (number_given sid rows) (rest rows) (seen rows) (λ t. Err NoSpace) (λ known is whole bytes.
          ap (λ b. require b NoSpace >>= (λ unit. Ok (next_slice rows)))
          (ap (λ n. nat_lt n FULL_COUNT) (ap (λ (r : Rows). next_slice r) (rows_are known is) ∙ next_is known is)
          ∙ le-ltb c.slice FULL_COUNT full))))

      pub number-done : (last : Store) (changes : List Change) (put : Counters) → put ≡ record c { slice = c.slice + 1 } → c.slice < FULL_COUNT
          → ((known : RowMap) → drafted changes known ≡ alter (drafted none known) counters_key (cell OfCounters (Some put)))
          → Commits counted last (Ok tt) changes → TakesNumber sid before last (Ok c.slice)
      unfolding drafted
      number-done last changes put put_is room one commits = record {
        opened_at = commits.opened_at ∙ (seen empty_map).opened_at;
        counts = commits.calm ∙ (seen empty_map).calm;
        undone = tt;
        lands = λ known is whole. (
          (seen (typed known)).goes_on known is whole no_bytes ∙ ap (λ b. require b NoSpace >>= (λ unit. Ok (next_slice (typed known))))
              (ap (λ n. nat_lt n FULL_COUNT) (next_is known is) ∙ lt-ltb c.slice FULL_COUNT room) ∙ ap (λ n. Ok n) (next_is known is),
          subst (λ o. Numbered known o c.slice) (sym (commits.content_is ∙ ap (option_map (applied changes)) ((seen (typed known)).rows_are ∙ is)))
              (numbered_as (typed known) c whole (there known is) (leb-true 1 c.slice low) room known (applied changes known) refl (rows_are known)),
        );
        bad = tt;
      }
        where
          low : IsTrue (nat_le 1 c.slice)
          low = (and_parts (nat_le 1 c.inode) (nat_le 1 c.slice) (and_parts (nat_le 1 c.inode && nat_le 1 c.slice) (nat_le 1 c.session) n.allowed).0).1

          rows_are : (known : RowMap) → drafted changes known ≡ alter (typed known) counters_key (Some (of_counters (record c { slice = c.slice + 1 })))
          rows_are known = one known ∙ ap (λ (rows : Rows). alter rows counters_key (cell OfCounters (Some put)))
              (ap (λ ch. drafted ch known) is_none ∙ drafted-none known)
              ∙ ap (λ (x : Counters). alter (typed known) counters_key (cell OfCounters (Some x))) put_is
