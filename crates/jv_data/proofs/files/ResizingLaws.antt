-- How a file gets another length: each exit, by what was read and what was changed.
use Rattle.std.proofs.Common.{◌≡◌, ◌≢◌, ℕ, true, false, List, [], None, Some, Result, Ok, Err, refl, sym, ap, ◌∙◌}
use Rattle.std.specs.Prelude.{◌||◌, ◌==◌, IsTrue}
use Rattle.jv_model.specs.declared.tables.TheConstants.{TABLE_OF_SETTING}
use Rattle.jv_model.specs.declared.fault.Fault.{Fault}
use Rattle.jv_model.specs.declared.fault.Fault.TheVariants.{NoSpace}
use Rattle.jv_model.specs.declared.fault.TxFault.{TxFault}
use Rattle.jv_model.specs.declared.fault.TxFault.TheVariants.{Refused}
use Rattle.jv_model.specs.declared.row.Counters.{Counters}
use Rattle.jv_model.specs.declared.row.Node.{Node as NodeRow}
use Rattle.jv_model.specs.declared.row.Row.TheVariants.{OfSetting, OfCounters, OfNode}
use Rattle.jv_model.specs.declared.row.RowKey.{RowKey}
use Rattle.jv_model.specs.declared.setting.Setting.{Setting}
use Rattle.jv_model.specs.promise.FiniteMap.{get, insert}
use Rattle.jv_model.specs.FiniteMap.{alter}
use Rattle.jv_model.specs.promise.rows.RowGrammar.{is_setting, is_counters}
use Rattle.jv_model.specs.promise.rows.RowKeys.{RowMap, row_key}
use Rattle.jv_model.specs.promise.rows.RowPlaces.{setting_key, counters_key, node_key}
use Rattle.jv_model.specs.promise.tree.Attempt.{require}
use Rattle.jv_model.specs.promise.tree.Tree.{Tree, Content, fits, paged, sum_fits, space_limit}
use Rattle.jv_model.specs.promise.tree.Changes.{with_content}
use Rattle.jv_outside.specs.declared.batch.Change.{Change}
use Rattle.jv_outside.specs.promise.Store.{Store}
use Rattle.jv_rows.specs.Drafts.{drafted, cell, Needs}
use Rattle.jv_rows.specs.Walks.{HasNodeRow}
use Rattle.jv_rows.proofs.transactions.NeedingLaws.{SettingNeeded, CountersNeeded, fails-needed, stands-needs}
use Rattle.jv_rows.proofs.transactions.TransactionLaws.{Past, past-start, past-as, past-calm, past-fails, past-gives, past-refuses, fails-looks, drafted-none}
use Rattle.jv_volume.specs.promise.TypedRows.{Rows, typed}
use Rattle.jv_volume.specs.promise.Views.{row_in, setting_in, setting_at, counters_in, counters_at, node_in, node_row_at}
use Rattle.jv_volume.specs.promise.Stored.{counters_row}
use Rattle.jv_volume.specs.promise.TreeOf.{tree_of}
use Rattle.jv_volume.specs.promise.Whole.{Whole, no_bytes}
use Rattle.jv_volume.specs.Whole.{is_of_slices}
use Rattle.jv_volume.proofs.maps.MapLaws.{get-alter-apart}
use Rattle.jv_volume.proofs.stored.StoredLaws.{stored_counters, stored_setting}
use Rattle.jv_data.specs.Resizing.{Resizes, ResizesFile, used_after, row_sized, rows_sized}
use Rattle.jv_data.proofs.files.CountersLaws.{put_again, used-same, counters-same, fits-same, next-given}
use Rattle.jv_data.proofs.files.SizedLaws.{fits-sized}
use Rattle.jv_model.proofs.TestLaws.{of_known}

-- setting, lists, slices and dead slices stay as they are where a file's row is put
leave-node : (rows : Rows) (inode : ℕ) (node : NodeRow) (key : RowKey) → IsTrue ((key.tab == TABLE_OF_SETTING) || is_of_slices key.tab)
    → get (insert rows (node_key inode) (Ok (OfNode node))) key ≡ get rows key
leave-node rows inode node key of =
    get-alter-apart row_key rows (node_key inode) (Some (Ok (OfNode node))) key (λ same. absurd (apart (ap (λ (k : RowKey). k.tab) same) of))
  where
    apart : {n : ℕ} → n ≡ 2 → IsTrue ((n == 0) || is_of_slices n) → ⊥
    apart {n} is h = (let no : false ≡ true = ap (λ m. (m == 0) || is_of_slices m) (sym is) ∙ h in absurd (cc))

-- the counters do too
keep-counters : (rows : Rows) (inode : ℕ) (node : NodeRow) → get (insert rows (node_key inode) (Ok (OfNode node))) counters_key ≡ get rows counters_key
keep-counters rows inode node = get-alter-apart row_key rows (node_key inode) (Some (Ok (OfNode node))) counters_key apart
  where
    apart : counters_key ≢ node_key inode
    apart same = (let tabs : counters_key.tab ≡ (node_key inode).tab = ap (λ (k : RowKey). k.tab) same in absurd (cc))

-- setting, lists, slices and dead slices stay as they are where the counters are put
leave-counters : (rows : Rows) (counters : Counters) (key : RowKey) → IsTrue ((key.tab == TABLE_OF_SETTING) || is_of_slices key.tab)
    → get (insert rows counters_key (Ok (OfCounters counters))) key ≡ get rows key
leave-counters rows counters key of =
    get-alter-apart row_key rows counters_key (Some (Ok (OfCounters counters))) key (λ same. absurd (apart (ap (λ (k : RowKey). k.tab) same) of))
  where
    apart : {n : ℕ} → n ≡ 1 → IsTrue ((n == 0) || is_of_slices n) → ⊥
    apart {n} is h = (let no : false ≡ true = ap (λ m. (m == 0) || is_of_slices m) (sym is) ∙ h in absurd (cc))

module _ (inode : ℕ) (was : NodeRow) (length now : ℕ) (before : Store) (there : HasNodeRow before inode was) (file : was.kind ≡ 1)
    (none : List Change) (is_none : none ≡ []) where
  -- the model's refusal, by the content that is put there
  abbrev act : (Tree → Content) → Tree → Result (Unit {0}) Fault
  act content t = require (fits t (with_content t now inode (content t))) NoSpace

  kept : (key : RowKey) (known : RowMap) → get (drafted none known) key ≡ get (typed known) key
  kept key known = ap (λ ch. get (drafted ch known) key) is_none ∙ ap (λ (rows : Rows). get rows key) (drafted-none known)

  was_at : (known : RowMap) → before.rows ≡ Some known → node_row_at (typed known) inode ≡ Some was
  was_at known is = ap (λ o. node_in (row_in o)) (of_known (λ known. get (typed known) (node_key inode) ≡ Some (Ok (OfNode was))) before.rows known is there)

  pub resize-no_setting : (after : Store) (changes : List Change) (fault : TxFault) → Needs OfSetting is_setting setting_key none before after (Err fault)
      → ResizesFile inode was length now before after changes (Err fault)
  resize-no_setting after changes fault n = record {
    looks = λ content long. fails-looks before after (act content) fault
        (fails-needed OfSetting is_setting setting_key none before after (λ known is. kept setting_key known) (SettingNeeded refl) fault n);
    leaves = tt;
    sized = tt;
  }

  -- ---- as much space as before

  -- the row that is put
  abbrev node_put : RowMap → Rows
  node_put known = insert (typed known) (node_key inode) (Ok (OfNode (row_sized was length now)))

  node_is : (new : NodeRow) (changes : List Change) → new ≡ row_sized was length now
      → ((known : RowMap) → drafted changes known ≡ alter (drafted none known) (node_key inode) (cell OfNode (Some new)))
      → (known : RowMap) → drafted changes known ≡ node_put known
  node_is new changes new_is one known =
      one known ∙ ap (λ (rows : Rows). alter rows (node_key inode) (cell OfNode (Some new))) (ap (λ ch. drafted ch known) is_none ∙ drafted-none known)
      ∙ (λ i. alter (typed known) (node_key inode) (cell OfNode (Some (new_is i))))

  module _ (pages : paged was.length ≡ paged length) where
    module _ (known : RowMap) (is : before.rows ≡ Some known) (whole : Whole (typed known)) where
      abbrev c : Counters
      c = counters_row (tree_of no_bytes (typed known)) whole.stored.slice

      stand : counters_at (typed known) ≡ Some c
      stand = stored_counters (typed known) (tree_of no_bytes (typed known)) whole.stored

      -- the counters that stand there are those that the file's length makes
      put_is : node_put known ≡ rows_sized (typed known) inode was c length now
      put_is = sym (ap (λ (left : Counters). insert (node_put known) counters_key (Ok (OfCounters left))) (counters-same c was.length length pages)
          ∙ put_again row_key (node_put known) counters_key (Ok (OfCounters c))
          (keep-counters (typed known) inode (row_sized was length now) ∙ whole.stored.counters))

      fits_as : (content : Tree → Content) → ((t : Tree) → (content t).length ≡ length) → (bytes : ℕ → ℕ → ℕ)
          → (let t = tree_of bytes (typed known) in fits t (with_content t now inode (content t)) ≡ true)
      fits_as content long bytes =
          let t = tree_of bytes (typed known) in
          let setting = (tree_of no_bytes (typed known)).setting in
          fits-sized (typed known) inode was c now length whole (was_at known is) file stand bytes (content t) (long t)
          setting (stored_setting (typed known) (tree_of no_bytes (typed known)) whole.stored)
          ∙ ap (sum_fits (space_limit setting) c.used_space) (used-same c was.length length pages)
          ∙ fits-same (space_limit setting) c.used_space

    -- the file's row is put, and nothing else
    pub resize-same : (new : NodeRow) (changes : List Change) → new ≡ row_sized was length now
        → ((known : RowMap) → drafted changes known ≡ alter (drafted none known) (node_key inode) (cell OfNode (Some new)))
        → ResizesFile inode was length now before before changes (Ok tt)
    resize-same new changes new_is one = record {
      looks = λ content long. past-gives before before (act content) tt
          (past-as before before before (act content) (act content) (past-start before (act content)) (λ t. Ok tt)
          (λ known is whole bytes. ap (λ b. require b NoSpace) (fits_as known is whole content long bytes)));
      leaves = λ known is key of. ap (λ (rows : Rows). get rows key) (node_is new changes new_is one known)
          ∙ leave-node (typed known) inode (row_sized was length now) key of;
      sized = λ known is whole. record {
        counters = c known is whole;
        there = stand known is whole;
        is = node_is new changes new_is one known ∙ put_is known is whole;
        given = next-given known (c known is whole) (stand known is whole);
      };
    }

  module _ (set : Store) (setting : Setting) (s : Needs OfSetting is_setting setting_key none before set (Ok setting)) where
    with_setting : (content : Tree → Content) → Past before set (act content) (act content)
    with_setting content = past-calm before before set (act content) (act content) (past-start before (act content)) s.rows_are s.opened_at s.counts

    set_at : (known : RowMap) → before.rows ≡ Some known → setting_at (typed known) ≡ Some setting
    set_at known is = ap (λ o. setting_in (row_in o))
        (stands-needs OfSetting is_setting setting_key none before set (λ known is. kept setting_key known) setting s known is)

    pub resize-no_counters : (after : Store) (changes : List Change) (fault : TxFault) → Needs OfCounters is_counters counters_key none set after (Err fault)
        → ResizesFile inode was length now before after changes (Err fault)
    resize-no_counters after changes fault n = record {
      looks = λ content long. past-fails before set after (act content) (act content) (with_setting content) fault
          (fails-needed OfCounters is_counters counters_key none set after (λ known is. kept counters_key known) (CountersNeeded refl) fault n);
      leaves = tt;
      sized = tt;
    }

    module _ (counted : Store) (c : Counters) (n : Needs OfCounters is_counters counters_key none set counted (Ok c)) where
      with_counters : (content : Tree → Content) → Past before counted (act content) (act content)
      with_counters content = past-calm before set counted (act content) (act content) (with_setting content) n.rows_are n.opened_at n.counts

      counted_at : (known : RowMap) → before.rows ≡ Some known → counters_at (typed known) ≡ Some c
      counted_at known is = ap (λ o. counters_in (row_in o))
          (stands-needs OfCounters is_counters counters_key none set counted (λ known is. kept counters_key known) c n known (s.rows_are ∙ is))

      fits_is : (content : Tree → Content) → ((t : Tree) → (content t).length ≡ length) → (known : RowMap) → before.rows ≡ Some known → Whole (typed known)
          → (bytes : ℕ → ℕ → ℕ) → (let t = tree_of bytes (typed known) in
          fits t (with_content t now inode (content t)) ≡ sum_fits (space_limit setting) c.used_space (used_after c was.length length))
      fits_is content long known is whole bytes =
          fits-sized (typed known) inode was c now length whole (was_at known is) file (counted_at known is) bytes (content (tree_of bytes (typed known)))
          (long (tree_of bytes (typed known))) setting (set_at known is)

      -- no room is left
      pub resize-no_room : (changes : List Change) → Resizes setting c was.length length None
          → ResizesFile inode was length now before counted changes (Err (Refused NoSpace))
      resize-no_room changes full = record {
        looks = λ content long. past-refuses before counted (act content) NoSpace
            (past-as before counted counted (act content) (act content) (with_counters content) (λ t. Err NoSpace)
            (λ known is whole bytes. ap (λ b. require b NoSpace) (fits_is content long known is whole bytes ∙ full)));
        leaves = tt;
        sized = tt;
      }

      -- there is room
      pub resize-done : (new : NodeRow) (left : Counters) (d1 d2 : List Change) → new ≡ row_sized was length now
          → Resizes setting c was.length length (Some left)
          → ((known : RowMap) → drafted d1 known ≡ alter (drafted none known) (node_key inode) (cell OfNode (Some new)))
          → ((known : RowMap) → drafted d2 known ≡ alter (drafted d1 known) counters_key (cell OfCounters (Some left)))
          → ResizesFile inode was length now before counted d2 (Ok tt)
      resize-done new left d1 d2 new_is room one two = record {
        looks = λ content long. past-gives before counted (act content) tt
            (past-as before counted counted (act content) (act content) (with_counters content) (λ t. Ok tt)
            (λ known is whole bytes. ap (λ b. require b NoSpace) (fits_is content long known is whole bytes ∙ room.0)));
        leaves = λ known is key of. ap (λ (rows : Rows). get rows key) (rows_are known)
            ∙ leave-counters (node_put known) (record c { used_space = used_after c was.length length }) key of
            ∙ leave-node (typed known) inode (row_sized was length now) key of;
        sized = λ known is whole. record {
          counters = c;
          there = counted_at known is;
          is = rows_are known;
          given = next-given known c (counted_at known is);
        };
      }
        where
          rows_are : (known : RowMap) → drafted d2 known ≡ rows_sized (typed known) inode was c length now
          rows_are known =
              two known
              ∙ ap (λ (rows : Rows). alter rows counters_key (cell OfCounters (Some left))) (node_is new d1 new_is one known)
              ∙ (λ i. alter (node_put known) counters_key (cell OfCounters (Some (room.1 i))))
