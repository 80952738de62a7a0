-- How a commit of a record ends: each of its exits, by how it began, what was read and what was changed.
use Rattle.std.proofs.Common.{◌≡◌, ℕ, ◌+◌, ◌*◌, ◌<◌, ◌≤◌, ◌^◌, inl, false, List, [], ◌∷◌, ◌++◌, Option, Some, Result, Ok, Err, refl, sym, ap, subst, ◌∙◌, arith}
use Rattle.std.specs.Prelude.{◌==◌, ◌&&◌, if◌then◌else◌}
use Rattle.std.proofs.lemmas.Bool.{or_right}
use Rattle.std.specs.Option.{option_map, unwrap_or}
use Rattle.jv_model.specs.declared.fault.Down.{Down}
use Rattle.jv_model.specs.declared.fault.Fault.{Fault}
use Rattle.jv_model.specs.declared.fault.RowFault.{RowFault}
use Rattle.jv_model.specs.declared.fault.RowFault.TheVariants.{Bad, Failed, Memory}
use Rattle.jv_model.specs.declared.fault.TxFault.{TxFault}
use Rattle.jv_model.specs.declared.fault.TxFault.TheVariants.{Refused, Moved, Rows as OfRows}
use Rattle.jv_model.specs.declared.limits.TheConstants.{FILE_END, WINDOW}
use Rattle.jv_model.specs.declared.op.Reply.TheVariants.{Done}
use Rattle.jv_model.specs.declared.row.Row.TheVariants.{OfList, OfSlice}
use Rattle.jv_model.specs.declared.row.RowKey.{RowKey}
use Rattle.jv_model.specs.declared.row.SliceRow.{SliceRow}
use Rattle.jv_model.specs.declared.setting.Setting.{Setting}
use Rattle.jv_model.specs.declared.tables.TheConstants.{TABLE_OF_SETTING}
use Rattle.jv_model.specs.declared.slice.Rec.{Rec}
use Rattle.jv_model.specs.FiniteMap.{alter}
use Rattle.jv_model.specs.promise.FiniteMap.{get}
use Rattle.jv_model.specs.promise.blocks.Slices.{IsRecord}
use Rattle.jv_model.specs.rows.RowFaults.{row_fault}
use Rattle.jv_model.specs.promise.rows.RowKeys.{RowMap}
use Rattle.jv_model.specs.promise.rows.RowPlaces.{list_key, slice_key}
use Rattle.jv_model.specs.promise.tree.Attempt.{◌>>=◌}
use Rattle.jv_model.specs.promise.tree.Caller.{done}
use Rattle.jv_model.specs.promise.tree.Tree.{Tree}
use Rattle.jv_model.specs.tree.FileBytes.{commit_of}
use Rattle.jv_outside.specs.declared.batch.Change.{Change}
use Rattle.jv_outside.specs.promise.Rows.{applied}
use Rattle.jv_outside.specs.promise.Store.{Store}
use Rattle.jv_outside.specs.Store.{Commits}
use Rattle.jv_rows.specs.Appending.{Appends}
use Rattle.jv_rows.specs.Drafts.{drafted, cell}
use Rattle.jv_rows.specs.Transactions.{FaultCause, Agrees, Looks}
use Rattle.jv_rows.proofs.transactions.TransactionLaws.{Fails, FailsBy, fails-memory, fails-commit}
use Rattle.jv_volume.specs.promise.TypedRows.{Rows, typed}
use Rattle.jv_volume.specs.promise.Views.{row_in, node_in, node_row_at, slice_row_at, lists_of}
use Rattle.jv_volume.specs.promise.Whole.{Whole}
use Rattle.jv_volume.specs.Whole.{is_of_slices}
use Rattle.jv_volume.proofs.stored.QuietLaws.{lists_of-stay}
use Rattle.jv_volume_bytes.specs.promise.Bytes.{KnownBytes, bytes_of, tree_with}
use Rattle.jv_volume_bytes.specs.Counts.{KeepsOthers}
use Rattle.jv_data.specs.Changing.{Makes, Never, Changed, LandsChanged, may_change, KeepsRest}
use Rattle.jv_data.specs.Committing.{BeginsCommit, Begun}
use Rattle.jv_data.specs.Records.{HasRecords, IsNew, CommitsRecord, AppendsRecord, committing}
use Rattle.jv_data.proofs.commits.CommitLaws.{RefusedBy, began, commit-unbegun, commit-reads, commit-fails}
use Rattle.jv_data.proofs.lists.NewRecordLaws.{recorded_rows, lists-recorded}
use Rattle.jv_data.proofs.lists.RecordsLaws.{records-unread, records-seen_in}
use Rattle.jv_data.proofs.commits.RecordedLaws.{last, lives-last, node-last, rest-last, whole-last, others-last, size-last, tree-last}
use Rattle.jv_data.proofs.files.RestLaws.{drops-rest, of_left}
use Rattle.jv_model.proofs.TestLaws.{of_known}

-- a reading, and then something that fails
pub fails-after : {A : Type 0} (before middle after : Store) (x : A) (fault : TxFault) → (act : Tree → Result A Fault) → Looks before middle (Ok x) act
    → Fails middle after fault → Fails before after fault
fails-after before middle after x fault act l f = record {
  rows_are = f.rows_are ∙ l.rows_are;
  opened_at = f.opened_at ∙ l.opened_at;
  cause = subst (λ n. FaultCause n after.faults fault) l.counts f.cause;
  why = subst (λ o. FailsBy o fault) l.rows_are f.why;
}

module _ (sid now inode window : ℕ) (rec : Rec) (started : ℕ) where
  abbrev from : ℕ
  from = window * WINDOW + rec.pos

  abbrev end : ℕ
  end = from + rec.len

  abbrev makes : (Setting → ℕ) → Makes
  makes due = record { own = rec.id; size = rec.size; more = 1; due = due }

  -- a beginning by the numbers of the arguments
  pub at_end : (before middle : Store) (changes : List Change) (result : Result (Unit {0}) TxFault) (w p l : ℕ) → w ≡ window → p ≡ rec.pos → l ≡ rec.len
      → BeginsCommit sid now inode (w * WINDOW + p + l) started before middle changes result
      → BeginsCommit sid now inode end started before middle changes result
  at_end before middle changes result w p l w_is p_is l_is b =
      subst (λ (n : ℕ). BeginsCommit sid now inode n started before middle changes result) (λ i. w_is i * WINDOW + p_is i + l_is i) b

  -- ---- one that is refused

  lands_refused : (fault : TxFault) (known : RowMap) (after : Option RowMap) (known_bytes : KnownBytes) (bytes : List ℕ) (due : Setting → ℕ)
      → Agrees {A = Tree} (Err fault) (commit_of sid inode from bytes started now (tree_with known_bytes (typed known)))
      → LandsChanged {A = Unit {0}} (makes due) Never known after known_bytes (λ unit. Done) (committing sid inode from bytes started now) (Err fault)
  lands_refused (Refused fault) known after known_bytes bytes due h = inl (ap (λ r. r >>= (λ left. done left)) h)
  lands_refused (Moved list) known after known_bytes bytes due h = h
  lands_refused (OfRows (Bad at bad)) known after known_bytes bytes due h = h
  lands_refused (OfRows Failed) known after known_bytes bytes due h = tt
  lands_refused (OfRows Memory) known after known_bytes bytes due h = tt

  pub record-refused : (before after : Store) (fault : TxFault) → RefusedBy sid now inode end started before after fault
      → CommitsRecord sid now inode window rec started before after (Err fault)
  record-refused before after fault looks bytes due =
      let any = looks end [] (omega arith) in
      record {
        opened_at = any.opened_at;
        counts = any.counts;
        undone = any.rows_are;
        lands = λ known is whole known_bytes new. lands_refused fault known after.rows known_bytes bytes due
            ((looks from bytes (ap (λ n. from + n) new.shows.long)).agrees known is whole (bytes_of known_bytes (typed known)));
        bad = any.bad;
      }

  pub record-unbegun : (before after : Store) (changes : List Change) (fault : TxFault)
      → BeginsCommit sid now inode end started before after changes (Err fault) → CommitsRecord sid now inode window rec started before after (Err fault)
  record-unbegun before after changes fault b = record-refused before after fault (commit-unbegun sid now inode end started before after changes fault b)

  module _ (before middle : Store) (begun_by : List Change) (b : BeginsCommit sid now inode end started before middle begun_by (Ok tt)) where
    -- the changes so far leave the list as it was
    unchanged : (known : RowMap) → middle.rows ≡ Some known → get (drafted begun_by known) (list_key inode window) ≡ get (typed known) (list_key inode window)
    unchanged known here =
        b.leaves known (sym (b.looks end [] (omega arith)).rows_are ∙ here) (list_key inode window) refl

    module _ (low : window < 2 ^ 32) (left : List Change) (after : Store) where
      -- the list wasn't read, or the record didn't get behind it
      pub record-unread : (fault : RowFault) → Appends inode window rec begun_by left middle after (Err fault)
          → CommitsRecord sid now inode window rec started before after (Err (OfRows fault))
      record-unread fault a = record-refused before after (OfRows fault) (commit-reads sid now inode end started before middle begun_by b after (OfRows fault)
          (records-unread inode window low middle after begun_by unchanged fault a.sees).looks)

      -- the records that were there
      pub record-read : (a : Appends inode window rec begun_by left middle after (Ok tt)) → HasRecords inode window middle after (Ok (unwrap_or a.found []))
      record-read a = records-seen_in inode window low middle after begun_by unchanged a.found a.sees

    -- what comes after the list was read fails
    pub record-fails : (read after : Store) (list : List Rec) (fault : TxFault) → HasRecords inode window middle read (Ok list) → Fails read after fault
        → CommitsRecord sid now inode window rec started before after (Err fault)
    record-fails read after list fault r f = record-refused before after fault
        (commit-fails sid now inode end started before middle begun_by b after fault (fails-after middle read after tt fault (λ t. Ok tt) r.looks f))

    pub record-memory : (read : Store) (list : List Rec) → HasRecords inode window middle read (Ok list)
        → CommitsRecord sid now inode window rec started before read (Err (OfRows Memory))
    record-memory read list r = record-fails read read list (OfRows Memory) r (fails-memory read)

    pub record-down : (read after : Store) (list : List Rec) (down : Down) (changes : List Change) → HasRecords inode window middle read (Ok list)
        → Commits read after (Err down) changes → CommitsRecord sid now inode window rec started before after (Err (OfRows (row_fault down)))
    record-down read after list down changes r commits = record-fails read after list (OfRows (row_fault down)) r (fails-commit read after down changes commits)

  -- ---- one that is made

  module _ (low : window < 2 ^ 32) (is_rec : IsRecord rec) (some : 0 < rec.id) (small : rec.size ≤ WINDOW) (within : end ≤ FILE_END)
      (before middle read : Store) (begun_by : List Change) (b : BeginsCommit sid now inode end started before middle begun_by (Ok tt))
      (list : List Rec) (r : HasRecords inode window middle read (Ok list)) where
    module _ (slice : SliceRow) (d1 d2 : List Change) (slice_is : slice ≡ record { size = rec.size; count = 1 })
        (one : (known : RowMap) → drafted d1 known ≡ alter (drafted begun_by known) (list_key inode window) (cell OfList (Some (list ++ rec ∷ []))))
        (two : (known : RowMap) → drafted d2 known ≡ alter (drafted d1 known) (slice_key rec.id) (cell OfSlice (Some slice))) where
      module _ (known : RowMap) (is : before.rows ≡ Some known) where
        list_is : list ≡ lists_of (typed known) inode window
        list_is = of_known (λ known. list ≡ lists_of (typed known) inode window) middle.rows known ((b.looks end [] (omega arith)).rows_are ∙ is) r.list

        lists_begun : (file at : ℕ) → lists_of (drafted begun_by known) file at ≡ lists_of (typed known) file at
        lists_begun = lists_of-stay (typed known) (drafted begun_by known)
            (λ key of. b.leaves known is key (or_right (key.tab == TABLE_OF_SETTING) (is_of_slices key.tab) of))

        same_list : list ≡ lists_of (drafted begun_by known) inode window
        same_list = list_is ∙ sym (lists_begun inode window)

        rows_recorded : drafted d2 known ≡ recorded_rows (drafted begun_by known) inode window low rec list same_list is_rec some small
        rows_recorded = two known
            ∙ ap (λ (rows : Rows). alter rows (slice_key rec.id) (cell OfSlice (Some slice))) (one known)
            ∙ (λ i. alter (alter (drafted begun_by known) (list_key inode window) (cell OfList (Some (list ++ rec ∷ [])))) (slice_key rec.id)
            (cell OfSlice (Some (slice_is i))))

        lists : (file at : ℕ) → lists_of (drafted d2 known) file at
            ≡ (if (file == inode) && (at == window) then lists_of (typed known) inode window ++ rec ∷ [] else lists_of (typed known) file at)
        lists file at = ap (λ (rows : Rows). lists_of rows file at) rows_recorded
            ∙ lists-recorded (drafted begun_by known) inode window low rec list same_list is_rec some small file at
            ∙ (λ i. if (file == inode) && (at == window) then list_is i ++ rec ∷ [] else lists_begun file at i)

        stands : (last_store : Store) → Commits read last_store (Ok tt) d2 → last_store.rows ≡ Some (applied d2 known)
        stands last_store commits = commits.content_is
            ∙ ap (option_map (applied d2)) (r.looks.rows_are ∙ (b.looks end [] (omega arith)).rows_are ∙ is)

      module _ (known : RowMap) (is : before.rows ≡ Some known) (whole : Whole (typed known)) where
        abbrev begun : Begun (typed known) (drafted begun_by known) inode end now
        begun = b.begun known is whole

        there : node_row_at (typed known) inode ≡ Some begun.was
        there = ap (λ o. node_in (row_in o)) begun.there

        abbrev list_here : list ≡ lists_of (typed known) inode window
        list_here = list_is known is

        abbrev left : Rows
        left = last (typed known) inode window low begun.was begun.sized.counters now rec list whole there begun.file begun.sized.there list_here is_rec some small within

        rows_are : drafted d2 known ≡ left
        rows_are = rows_recorded known is
            ∙ ap (λ (rows : Rows). alter (alter rows (list_key inode window) (cell OfList (Some (list ++ rec ∷ [])))) (slice_key rec.id)
            (cell OfSlice (Some (record { size = rec.size; count = 1 })))) begun.sized.is

        rest : (key : RowKey) → may_change inode key ≡ false → get (drafted d2 known) key ≡ get (typed known) key
        rest key other = ap (λ (rows : Rows). get rows key) rows_are
            ∙ rest-last (typed known) inode window low begun.was begun.sized.counters now rec list whole there begun.file begun.sized.there list_here is_rec some small within
            key other

        changed : (known_bytes : KnownBytes) (bytes : List ℕ) (due : Setting → ℕ) → IsNew rec bytes (typed known) known_bytes → (last_rows : Option RowMap) → last_rows ≡ Some (applied d2 known)
            → Changed (makes due) known last_rows known_bytes Done (committing sid inode from bytes started now)
        unfolding drafted
        changed known_bytes bytes due new last_rows stands = record {
          left = applied d2 known;
          is = stands;
          whole = subst Whole (sym rows_are) (whole-last (typed known) inode window low begun.was begun.sized.counters now rec list whole there begun.file
              begun.sized.there list_here is_rec some small within new.unknown new.below);
          others = subst (KeepsOthers rec.id 1 (typed known)) (sym rows_are) (others-last (typed known) inode window low begun.was begun.sized.counters now rec list
              whole there begun.file begun.sized.there list_here is_rec some small within new.unknown new.below);
          size = λ slice here. size-last (typed known) inode window low begun.was begun.sized.counters now rec list whole there begun.file
              begun.sized.there list_here is_rec some small within slice (ap (λ (rows : Rows). slice_row_at rows rec.id) (sym rows_are) ∙ here);
          dropped = drops-rest (typed known) (drafted d2 known) inode _ rest (ap (λ (rows : Rows). node_row_at rows inode) rows_are
              ∙ node-last (typed known) inode window low begun.was begun.sized.counters now rec list whole there begun.file begun.sized.there list_here is_rec some small within);
          dies = λ setting set id old here none. absurd (lives-last (typed known) inode window low begun.was begun.sized.counters now rec list whole there begun.file
              begun.sized.there list_here is_rec some small within id old here (ap (λ (rows : Rows). slice_row_at rows id) (sym rows_are) ∙ none));
          model = ap (λ r. r >>= (λ left. done left)) ((began sid now inode end started before middle begun_by b from bytes (ap (λ n. from + n) new.shows.long)).goes_on
              known is whole (bytes_of known_bytes (typed known)))
              ∙ ap done (sym (tree-last (typed known) inode window low begun.was begun.sized.counters now rec list whole there begun.file
              begun.sized.there list_here is_rec some small within known_bytes bytes new.shows.long new.shows.each) ∙ ap (tree_with known_bytes) (sym rows_are));
        }

      -- all is committed
      pub record-done : (last_store : Store) → Commits read last_store (Ok tt) d2 → CommitsRecord sid now inode window rec started before last_store (Ok tt)
      record-done last_store commits bytes due =
          let so_far = began sid now inode end started before middle begun_by b end [] (omega arith) in
          record {
            opened_at = commits.opened_at ∙ r.looks.opened_at ∙ so_far.opened_at;
            counts = commits.calm ∙ r.looks.counts ∙ so_far.calm;
            undone = tt;
            lands = λ known is whole known_bytes new. changed known is whole known_bytes bytes due new last_store.rows (stands known is last_store commits);
            bad = tt;
          }

      -- and all other rows are as before
      pub record-rest : (last_store : Store) → Commits read last_store (Ok tt) d2 → KeepsRest {A = Unit {0}} inode before last_store (Ok tt)
      record-rest last_store commits known left is whole here key other =
          of_left (λ rows. get rows key ≡ get (typed known) key) d2 known left last_store.rows (stands known is last_store commits) here
          (rest known is whole key other)

      -- and the record stands behind the list of its window, and behind no other
      pub record-lists : (last_store : Store) → Commits read last_store (Ok tt) d2 → AppendsRecord inode window rec before last_store (Ok tt)
      record-lists last_store commits known left is here file at =
          of_left (λ rows. lists_of rows file at
          ≡ (if (file == inode) && (at == window) then lists_of (typed known) inode window ++ rec ∷ [] else lists_of (typed known) file at))
          d2 known left last_store.rows (stands known is last_store commits) here (lists known is file at)
