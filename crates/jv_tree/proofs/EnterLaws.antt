-- How a transaction that makes a node ends: each of its exits, by what was read and what was changed.
use Rattle.std.proofs.Common.{◌≡◌, ℕ, ◌+◌, ◌<◌, true, false, List, [], Option, Some, Result, Ok, Err, refl, sym, ap, subst, ◌∙◌}
use Rattle.std.specs.Prelude.{IsTrue, OnOk}
use Rattle.jv_model.specs.declared.limits.TheConstants.{MAX_LINKS, SPACE_UNIT}
use Rattle.jv_model.specs.declared.fault.Fault.{Fault}
use Rattle.jv_model.specs.declared.fault.Fault.TheVariants.{NoSpace}
use Rattle.jv_model.specs.declared.fault.TxFault.{TxFault}
use Rattle.jv_model.specs.declared.fault.TxFault.TheVariants.{Refused}
use Rattle.jv_model.specs.declared.op.Reply.{Reply}
use Rattle.jv_model.specs.declared.row.Counters.{Counters}
use Rattle.jv_model.specs.declared.row.Node.{Node as NodeRow}
use Rattle.jv_model.specs.declared.row.RowKey.{RowKey}
use Rattle.jv_model.specs.declared.row.Row.TheVariants.{OfSetting, OfCounters, OfNode, OfEdge}
use Rattle.jv_model.specs.declared.setting.Setting.{Setting}
use Rattle.jv_model.specs.promise.FiniteMap.{get}
use Rattle.jv_model.specs.FiniteMap.{alter}
use Rattle.jv_model.specs.promise.rows.RowGrammar.{is_setting, is_counters, is_node}
use Rattle.jv_model.specs.promise.rows.RowKeys.{RowMap}
use Rattle.jv_model.specs.promise.rows.RowPlaces.{setting_key, counters_key, node_key, edge_key}
use Rattle.jv_model.specs.promise.tree.Caller.{Outcome}
use Rattle.jv_model.specs.promise.tree.Tree.{Tree, Kind}
use Rattle.jv_outside.specs.declared.batch.Change.{Change}
use Rattle.jv_outside.specs.promise.Store.{Store}
use Rattle.jv_outside.specs.Store.{Commits}
use Rattle.jv_rows.specs.declared.walking.EntryPlace.{EntryPlace}
use Rattle.jv_rows.specs.Drafts.{drafted, cell, Drafts, Needs}
use Rattle.jv_rows.specs.Transactions.{BadFault, Transacts}
use Rattle.jv_rows.specs.Walks.{HasNodeRow}
use Rattle.jv_rows.proofs.transactions.NeedingLaws.{SettingNeeded, CountersNeeded, fails-needed, stands-needs}
use Rattle.jv_rows.proofs.transactions.TransactionLaws.{Past, Fails, past-start, past-calm, past-fails, fails-looks, transacts-refused, transacts-commits, drafted-none, none_kept}
use Rattle.jv_volume.specs.promise.TypedRows.{Cell, Rows, typed}
use Rattle.jv_volume.specs.promise.Views.{row_in, setting_in, setting_at, counters_in, counters_at, node_in, node_row_at}
use Rattle.jv_volume.specs.promise.TreeOf.{tree_of}
use Rattle.jv_volume.specs.promise.Whole.{Whole}
use Rattle.jv_volume.specs.Whole.{Quiet}
use Rattle.jv_volume.proofs.whole.MadeRowsLaws.{made_rows}
use Rattle.jv_tree.specs.Entering.{IsFreePlace, IsNewKind, place_of, new_row, enter, has_room, one_more}
use Rattle.jv_tree.proofs.EnteringLaws.{enter-full, enter-linked_full, enter-done, whole-entered, quiet-entered}
use Rattle.jv_volume.specs.Stored.{links_by, directory_touched}
use Rattle.jv_model.proofs.TestLaws.{if_some-by, of_known}

-- one more change that was made
pub was_drafted : {E : Type 0} (key : RowKey) (stands : Option Cell) (before after : List Change) (result : Result (Unit {0}) E) → result ≡ Ok tt
    → Drafts key stands before after result → (known : RowMap) → drafted after known ≡ alter (drafted before known) key stands
was_drafted key stands before after result is d known =
    (subst (λ r. OnOk r ((k : RowMap) → drafted after k ≡ alter (drafted before k) key stands)) is d.done) known

-- a refusal by what was read, where the tree is ready
pub refused-ready : {A : Type 0} (ready : Tree → Type 0) (before after : Store) (reply : A → Reply) (act rest : Tree → Result Outcome Fault) → Past before after act rest → (fault : Fault)
    → ((known : RowMap) → before.rows ≡ Some known → Whole (typed known) → (bytes : ℕ → ℕ → ℕ) → ready (tree_of bytes (typed known)) → act (tree_of bytes (typed known)) ≡ Err fault)
    → Transacts ready before after (Err (Refused fault)) reply act
refused-ready ready before after reply act rest p fault h = record {
  opened_at = p.opened_at;
  counts = p.calm;
  undone = p.rows_are;
  lands = h;
  bad = if_some-by (λ known. BadFault (typed known) (Refused fault)) before.rows (λ known is. tt);
}

module _ (before : Store) (changes : List Change) (none : changes ≡ []) (now mode : ℕ) (place : EntryPlace) (kind : Kind) (reply : ℕ → Reply) where
  abbrev act : Tree → Result Outcome Fault
  act = enter kind mode now (place_of place) reply

  abbrev ready : Tree → Type 0
  ready t = IsFreePlace t (place_of place)

  -- the setting wasn't read
  pub enter-no_setting : (middle : Store) (fault : TxFault) → Needs OfSetting is_setting setting_key changes before middle (Err fault) → Transacts ready before middle (Err fault) reply act
  enter-no_setting middle fault n =
      transacts-refused ready before middle reply act fault
      (fails-looks before middle act fault
      (fails-needed OfSetting is_setting setting_key changes before middle (λ known is. none_kept changes setting_key none known) (SettingNeeded refl) fault n))

  module _ (middle : Store) (setting : Setting) (s : Needs OfSetting is_setting setting_key changes before middle (Ok setting)) where
    with_setting : Past before middle act act
    with_setting = past-calm before before middle act act (past-start before act) s.rows_are s.opened_at s.counts

    -- the counters weren't read
    pub enter-no_counters : (after : Store) (fault : TxFault) → Needs OfCounters is_counters counters_key changes middle after (Err fault) → Transacts ready before after (Err fault) reply act
    enter-no_counters after fault n =
        transacts-refused ready before after reply act fault
        (past-fails before middle after act act with_setting fault
        (fails-needed OfCounters is_counters counters_key changes middle after (λ known is. none_kept changes counters_key none known) (CountersNeeded refl) fault n))

    module _ (after : Store) (c : Counters) (n : Needs OfCounters is_counters counters_key changes middle after (Ok c)) (new : IsNewKind place.dir.inode kind)
        (allowed : IsTrue (is_node (new_row kind mode now))) (stands : HasNodeRow before place.dir.inode place.dir.node) where
      with_counters : Past before after act act
      with_counters = past-calm before middle after act act with_setting n.rows_are n.opened_at n.counts

      set_at : (known : RowMap) → before.rows ≡ Some known → setting_at (typed known) ≡ Some setting
      set_at known is = ap (λ o. setting_in (row_in o)) (stands-needs OfSetting is_setting setting_key changes before middle (λ known is. none_kept changes setting_key none known) setting s known is)

      counted_at : (known : RowMap) → before.rows ≡ Some known → counters_at (typed known) ≡ Some c
      counted_at known is = ap (λ o. counters_in (row_in o))
          (stands-needs OfCounters is_counters counters_key changes middle after (λ known is. none_kept changes counters_key none known) c n known (s.rows_are ∙ is))

      dir_at : (known : RowMap) → before.rows ≡ Some known → node_row_at (typed known) place.dir.inode ≡ Some place.dir.node
      dir_at known is = ap (λ o. node_in (row_in o)) (of_known (λ known. get (typed known) (node_key place.dir.inode) ≡ Some (Ok (OfNode place.dir.node))) before.rows known is stands)

      -- no room is left
      pub enter-no_room : has_room setting c ≡ false → Transacts ready before after (Err (Refused NoSpace)) reply act
      enter-no_room full = refused-ready ready before after reply act act with_counters NoSpace (λ known is whole bytes free.
          enter-full bytes (typed known) now mode (place_of place) kind place.dir.node c setting reply whole new allowed (dir_at known is) (counted_at known is) (set_at known is) free full)

      module _ (room : has_room setting c ≡ true) where
        -- no link is left
        pub enter-no_link : (new_row kind mode now).kind ≡ 2 → place.dir.node.nlink ≡ MAX_LINKS → Transacts ready before after (Err (Refused NoSpace)) reply act
        enter-no_link two full = refused-ready ready before after reply act act with_counters NoSpace (λ known is whole bytes free.
            enter-linked_full bytes (typed known) now mode (place_of place) kind place.dir.node c setting reply whole new allowed (dir_at known is) (counted_at known is) (set_at known is) free room two full)

        -- a failure of memory or of the keeper
        pub enter-fails : (last : Store) (fault : TxFault) → Fails after last fault → Transacts ready before last (Err fault) reply act
        enter-fails last fault f = transacts-refused ready before last reply act fault (past-fails before after last act act with_counters fault f)

        module _ (node dir_after : NodeRow) (more : Counters) (d1 d2 d3 d4 : List Change) (node_is : node ≡ new_row kind mode now)
            (dir_is : dir_after ≡ directory_touched now (place.dir.node.nlink + links_by node.kind) place.dir.node) (more_is : more ≡ one_more c)
            (one : (known : RowMap) → drafted d1 known ≡ alter (drafted changes known) (node_key c.inode) (cell OfNode (Some node)))
            (two : (known : RowMap) → drafted d2 known ≡ alter (drafted d1 known) (edge_key place.dir.inode place.name) (cell OfEdge (Some (record { kind = node.kind; inode = c.inode }))))
            (three : (known : RowMap) → drafted d3 known ≡ alter (drafted d2 known) (node_key place.dir.inode) (cell OfNode (Some dir_after)))
            (four : (known : RowMap) → drafted d4 known ≡ alter (drafted d3 known) counters_key (cell OfCounters (Some more))) where
          abbrev rows_by : NodeRow → Rows → Rows
          rows_by row rows = made_rows rows now (place_of place) row place.dir.node (place.dir.node.nlink + links_by row.kind) c SPACE_UNIT

          rows_are : (known : RowMap) → drafted d4 known ≡ rows_by (new_row kind mode now) (typed known)
          rows_are known =
              four known ∙ ap (λ (m : Counters). alter (drafted d3 known) counters_key (cell OfCounters (Some m))) more_is
              ∙ ap (λ (rows : Rows). alter rows counters_key (cell OfCounters (Some (one_more c))))
              (three known ∙ ap (λ (d : NodeRow). alter (drafted d2 known) (node_key place.dir.inode) (cell OfNode (Some d))) dir_is
              ∙ ap (λ (rows : Rows). alter rows (node_key place.dir.inode) (cell OfNode (Some (directory_touched now (place.dir.node.nlink + links_by node.kind) place.dir.node))))
              (two known ∙ ap (λ (rows : Rows). alter rows (edge_key place.dir.inode place.name) (cell OfEdge (Some (record { kind = node.kind; inode = c.inode }))))
              (one known ∙ ap (λ (rows : Rows). alter rows (node_key c.inode) (cell OfNode (Some node))) (ap (λ ch. drafted ch known) none ∙ drafted-none known))))
              ∙ ap (λ (row : NodeRow). rows_by row (typed known)) node_is

          -- all is committed
          pub enter-commits : (last : Store) → (node.kind ≡ 2 → place.dir.node.nlink < MAX_LINKS) → Commits after last (Ok tt) d4 → Transacts ready before last (Ok c.inode) reply act
          enter-commits last left commits = transacts-commits ready before after last reply act act with_counters c.inode d4 commits (λ known is whole bytes free.
              let whole_after = whole-entered bytes (typed known) now mode (place_of place) kind place.dir.node c setting reply whole new allowed (dir_at known is) (counted_at known is) (set_at known is) free room in
              let quiet_after = quiet-entered bytes (typed known) now mode (place_of place) kind place.dir.node c setting reply whole new allowed (dir_at known is) (counted_at known is) (set_at known is) free room in
              let done = enter-done bytes (typed known) now mode (place_of place) kind place.dir.node c setting reply whole new allowed (dir_at known is) (counted_at known is) (set_at known is) free room
              (λ is_dir. left (ap (λ (r : NodeRow). r.kind) node_is ∙ is_dir)) in
              record {
                whole = subst Whole (sym (rows_are known)) whole_after;
                quiet = subst (Quiet (typed known)) (sym (rows_are known)) quiet_after;
                model = done ∙ ap (λ rows. Ok (record { tree = tree_of bytes rows; reply = reply c.inode })) (sym (rows_are known));
              })
