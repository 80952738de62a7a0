-- Changes on metadata that are quiet: lists, slices, dead slices and the next slice stay, by which slices stay whole, and of each file
-- that goes its length is left.
use Rattle.std.proofs.Common.{◌≡◌, ◌≢◌, ℕ, ◌≤◌, ◌^◌, true, false, cond, List, [], inl, inr, Option, None, Some, Ok, refl, sym, ap, subst, ◌∙◌, true≢false, eq-eqb}
use Rattle.std.specs.Prelude.{◌==◌, ◌||◌, nat_lt, IsTrue, if◌then◌else◌}
use Rattle.std.specs.List.{AllByRecursion}
use Rattle.std.proofs.lemmas.Bool.{cases_eq}
use Rattle.jv_model.specs.declared.tables.TheConstants.{TABLE_OF_SLICES, TABLE_OF_DEAD}
use Rattle.jv_model.specs.declared.limits.TheConstants.{FULL_COUNT}
use Rattle.jv_model.specs.declared.row.RowKey.{RowKey}
use Rattle.jv_model.specs.declared.row.Counters.{Counters}
use Rattle.jv_model.specs.declared.row.Dropped.{Dropped}
use Rattle.jv_model.specs.declared.row.Node.{Node as NodeRow}
use Rattle.jv_model.specs.declared.row.Row.TheVariants.{OfCounters, OfNode, OfDropped as DroppedRow}
use Rattle.jv_model.specs.promise.FiniteMap.{get, insert, remove}
use Rattle.jv_model.specs.FiniteMap.{alter}
use Rattle.jv_model.specs.promise.rows.RowKeys.{row_key}
use Rattle.jv_model.specs.promise.rows.RowPlaces.{counters_key, node_key, list_key, slice_key, dropped_key, dead_key}
use Rattle.jv_model.proofs.FiniteMapLaws.{get-alter}
use Rattle.jv_model.specs.declared.slice.Rec.{Rec}
use Rattle.jv_volume.specs.promise.TypedRows.{Cell, Rows}
use Rattle.jv_volume.specs.promise.Views.{row_in, counters_in, counters_at, node_in, node_row_at, records_in, lists_of, slice_in, slice_row_at, dropped_in, dropped_at, dead_in, dead_at}
use Rattle.jv_volume.specs.promise.TreeOf.{or_no_counters}
use Rattle.jv_volume.specs.promise.Slices.{listed, named_by, count_in, next_slice, WholeSlices}
use Rattle.jv_volume.specs.Whole.{is_of_slices, file_length, with_length, left_by, FilesDrop, Quiet, SlicesStay}
use Rattle.jv_volume.proofs.maps.MapLaws.{get-alter-here, get-alter-apart}
use Rattle.jv_volume.proofs.shapes.ShapeMapLaws.{tied_apart}
use Rattle.jv_volume.proofs.sums.ListSumLaws.{is_list_key, sum_of, sum-lists, named-lists, listed-lists}

-- ---- lists and slices beside a change of another row

pub slices-alter : (rows : Rows) (q : RowKey) (cell : Option Cell) → is_of_slices q.tab ≡ false → SlicesStay rows (alter rows q cell)
slices-alter rows q cell other key is = get-alter rows q cell key ∙ ap (λ b. cond b cell (get rows key)) (tied_apart row_key q key (λ same. absurd (true≢false (sym is
    ∙ ap (λ (k : RowKey). is_of_slices k.tab) same ∙ other))))

pub slices-then : (rows middle after : Rows) → SlicesStay rows middle → SlicesStay middle after → SlicesStay rows after
slices-then rows middle after p q key is = q key is ∙ p key is

next-alter : (rows : Rows) (q : RowKey) (cell : Option Cell) → counters_key ≢ q → next_slice (alter rows q cell) ≡ next_slice rows
next-alter rows q cell apart = ap (λ c. (or_no_counters (counters_in (row_in c))).slice) (get-alter-apart row_key rows q cell counters_key apart)

-- keys of other tables
pub other_tab : (k q : RowKey) → (k.tab == q.tab) ≡ false → k ≢ q
other_tab k q other same = absurd (true≢false (sym (eq-eqb k.tab q.tab (ap (λ (x : RowKey). x.tab) same)) ∙ other))

-- ---- the rows of removed files

-- of a file that went its length is left
pub no_file-left : (start rows : Rows) (inode : ℕ) → FilesDrop start rows → node_row_at rows inode ≡ None → dropped_at rows inode ≡ None
    → file_length (node_row_at start inode) ≡ None
no_file-left start rows inode d gone none = by_length (file_length (node_row_at start inode)) refl
  where
    by_length : (o : Option ℕ) → file_length (node_row_at start inode) ≡ o → o ≡ None
    by_length None e = refl
    by_length (Some length) e =
        let left : get rows (dropped_key inode) ≡ Some (Ok (DroppedRow (record { length = length }))) = d inode
        ∙ ap (λ n. left_by (node_row_at start inode) n (get start (dropped_key inode))) gone
        ∙ ap (λ o. with_length o (get start (dropped_key inode))) e in
        let both : ◌≡◌ {A = Option Dropped} (Some (record { length = length })) None = sym (ap (λ c. dropped_in (row_in c)) left) ∙ none in
        absurd (cc)

pub drop-none : (rows : Rows) → FilesDrop rows rows
drop-none rows inode = by_node (node_row_at rows inode)
  where
    by_node : (o : Option NodeRow) → get rows (dropped_key inode) ≡ left_by o o (get rows (dropped_key inode))
    by_node None = refl
    by_node (Some row) = refl

module _ (start rows after : Rows) (d : FilesDrop start rows) where
  abbrev DropsAt : ℕ → Type 0
  DropsAt inode = get after (dropped_key inode) ≡ left_by (node_row_at start inode) (node_row_at after inode) (get start (dropped_key inode))

  -- an inode whose node and dropped row are as before
  pub drop-beside : (inode : ℕ) → node_row_at after inode ≡ node_row_at rows inode → get after (dropped_key inode) ≡ get rows (dropped_key inode) → DropsAt inode
  drop-beside inode node drop =
      drop ∙ d inode ∙ ap (λ n. left_by (node_row_at start inode) n (get start (dropped_key inode))) (sym node)

  -- a node that was there and still is
  drop-there : (inode : ℕ) (was row : NodeRow) → node_row_at rows inode ≡ Some was → node_row_at after inode ≡ Some row
      → get after (dropped_key inode) ≡ get rows (dropped_key inode)
      → DropsAt inode
  drop-there inode was row there node drop =
      drop ∙ d inode ∙ ap (λ n. left_by (node_row_at start inode) n (get start (dropped_key inode))) there
      ∙ ap (λ n. left_by (node_row_at start inode) n (get start (dropped_key inode))) (sym node)

  -- a node that comes where nothing was removed
  drop-new : (inode : ℕ) (row : NodeRow) → node_row_at rows inode ≡ None → dropped_at rows inode ≡ None → node_row_at after inode ≡ Some row
      → get after (dropped_key inode) ≡ get rows (dropped_key inode)
      → DropsAt inode
  drop-new inode row none not_dropped node drop =
      drop ∙ d inode ∙ ap (λ n. left_by (node_row_at start inode) n (get start (dropped_key inode))) none
      ∙ ap (λ o. with_length o (get start (dropped_key inode))) (no_file-left start rows inode d none not_dropped)
      ∙ ap (λ n. left_by (node_row_at start inode) n (get start (dropped_key inode))) (sym node)

  -- a node that goes, and was as long at the start if it is a file
  drop-gone : (inode : ℕ) (was : NodeRow) → node_row_at rows inode ≡ Some was → file_length (Some was) ≡ file_length (node_row_at start inode)
      → node_row_at after inode ≡ None
      → get after (dropped_key inode) ≡ with_length (file_length (Some was)) (get rows (dropped_key inode))
      → DropsAt inode
  drop-gone inode was there length none drop =
      drop ∙ ap (with_length (file_length (Some was))) (d inode ∙ ap (λ n. left_by (node_row_at start inode) n (get start (dropped_key inode))) there)
      ∙ ap (λ o. with_length o (get start (dropped_key inode))) length
      ∙ ap (λ n. left_by (node_row_at start inode) n (get start (dropped_key inode))) (sym none)

-- ---- changes that are quiet

pub quiet-none : (rows : Rows) → Quiet rows rows
quiet-none rows = record { apart = λ key is. refl; next = refl; dropped = drop-none rows }

module _ (start rows : Rows) (quiet : Quiet start rows) where
  drops-alter : (q : RowKey) (cell : Option Cell) → (2 == q.tab) ≡ false → (8 == q.tab) ≡ false → FilesDrop start (alter rows q cell)
  drops-alter q cell node dropped inode =
      drop-beside start rows (alter rows q cell) quiet.dropped inode
      (ap (λ c. node_in (row_in c)) (get-alter-apart row_key rows q cell (node_key inode) (other_tab (node_key inode) q node)))
      (get-alter-apart row_key rows q cell (dropped_key inode) (other_tab (dropped_key inode) q dropped))

  -- a row that is none of slices, and neither the counters, nor a node's, nor a dropped file's
  pub quiet-alter : (q : RowKey) (cell : Option Cell) → is_of_slices q.tab ≡ false → (1 == q.tab) ≡ false → (2 == q.tab) ≡ false
      → (8 == q.tab) ≡ false
      → Quiet start (alter rows q cell)
  quiet-alter q cell slices counters node dropped = record {
    apart = slices-then start rows (alter rows q cell) quiet.apart (slices-alter rows q cell slices);
    next = next-alter rows q cell (other_tab counters_key q counters) ∙ quiet.next;
    dropped = drops-alter q cell node dropped;
  }

  -- counters with the same next slice
  pub quiet-put_counters : (before c : Counters) → counters_at rows ≡ Some before → c.slice ≡ before.slice
      → Quiet start (insert rows counters_key (Ok (OfCounters c)))
  quiet-put_counters before c there same = record {
    apart = slices-then start rows (insert rows counters_key (Ok (OfCounters c))) quiet.apart (slices-alter rows counters_key (Some (Ok (OfCounters c))) refl);
    next = ap (λ o. (or_no_counters (counters_in (row_in o))).slice) (get-alter-here row_key rows counters_key (Some (Ok (OfCounters c)))) ∙ same
        ∙ sym (ap (λ o. (or_no_counters o).slice) there) ∙ quiet.next;
    dropped = drops-alter counters_key (Some (Ok (OfCounters c))) refl refl;
  }

  module _ (inode : ℕ) where
    node_beside : (cell : Option Cell) (i : ℕ) → i ≢ inode → node_row_at (alter rows (node_key inode) cell) i ≡ node_row_at rows i
    node_beside cell i apart =
        ap (λ c. node_in (row_in c)) (get-alter-apart row_key rows (node_key inode) cell (node_key i) (λ same. apart (ap (λ (q : RowKey). q.a) same)))

    dropped_beside : (cell : Option Cell) (i : ℕ) → get (alter rows (node_key inode) cell) (dropped_key i) ≡ get rows (dropped_key i)
    dropped_beside cell i = get-alter-apart row_key rows (node_key inode) cell (dropped_key i) (other_tab (dropped_key i) (node_key inode) refl)

    node_here : (cell : Option Cell) → node_row_at (alter rows (node_key inode) cell) inode ≡ node_in (row_in cell)
    node_here cell = ap (λ c. node_in (row_in c)) (get-alter-here row_key rows (node_key inode) cell)

    -- a change at a node's key, by what becomes of what is left there
    by_node : (cell : Option Cell) → DropsAt start rows (alter rows (node_key inode) cell) quiet.dropped inode → Quiet start (alter rows (node_key inode) cell)
    by_node cell here = record {
      apart = slices-then start rows (alter rows (node_key inode) cell) quiet.apart (slices-alter rows (node_key inode) cell refl);
      next = next-alter rows (node_key inode) cell (other_tab counters_key (node_key inode) refl) ∙ quiet.next;
      dropped = λ i. elim (cases_eq i inode) [
        | inl same ↦ subst (DropsAt start rows (alter rows (node_key inode) cell) quiet.dropped) (sym same) here
        | inr apart ↦ drop-beside start rows (alter rows (node_key inode) cell) quiet.dropped i (node_beside cell i apart) (dropped_beside cell i)
      ];
    }

    -- another row of a node that is there
    pub quiet-put_node : (was row : NodeRow) → node_row_at rows inode ≡ Some was → Quiet start (insert rows (node_key inode) (Ok (OfNode row)))
    quiet-put_node was row there =
        by_node (Some (Ok (OfNode row))) (drop-there start rows (alter rows (node_key inode) (Some (Ok (OfNode row)))) quiet.dropped inode was row there
        (node_here (Some (Ok (OfNode row)))) (dropped_beside (Some (Ok (OfNode row))) inode))

    -- the row of a node that comes where nothing was removed
    pub quiet-new_node : (row : NodeRow) → node_row_at rows inode ≡ None → dropped_at rows inode ≡ None
        → Quiet start (insert rows (node_key inode) (Ok (OfNode row)))
    quiet-new_node row none not_dropped =
        by_node (Some (Ok (OfNode row))) (drop-new start rows (alter rows (node_key inode) (Some (Ok (OfNode row)))) quiet.dropped inode row none not_dropped
        (node_here (Some (Ok (OfNode row)))) (dropped_beside (Some (Ok (OfNode row))) inode))

    module _ (was : NodeRow) (there : node_row_at rows inode ≡ Some was) (length : file_length (Some was) ≡ file_length (node_row_at start inode)) where
      -- a directory or a symlink goes
      pub quiet-drop_other : (was.kind == 1) ≡ false → Quiet start (remove rows (node_key inode))
      quiet-drop_other other =
          by_node None (drop-gone start rows (remove rows (node_key inode)) quiet.dropped inode was there length (node_here None)
          (dropped_beside None inode ∙ sym (ap (λ b. with_length (if b then Some was.length else None) (get rows (dropped_key inode))) other)))

      abbrev length_cell : Cell
      length_cell = Ok (DroppedRow (record { length = was.length }))

      abbrev dropped_rows : Rows
      dropped_rows = insert (remove rows (node_key inode)) (dropped_key inode) length_cell

      node_again : (i : ℕ) → node_row_at dropped_rows i ≡ node_row_at (remove rows (node_key inode)) i
      node_again i =
          ap (λ c. node_in (row_in c)) (get-alter-apart row_key (remove rows (node_key inode)) (dropped_key inode) (Some length_cell) (node_key i)
          (other_tab (node_key i) (dropped_key inode) refl))

      -- a file goes, and leaves its length
      pub quiet-drop_file : (was.kind == 1) ≡ true → Quiet start dropped_rows
      quiet-drop_file file = record {
        apart = slices-then start rows dropped_rows quiet.apart (slices-then rows (remove rows (node_key inode)) dropped_rows
            (slices-alter rows (node_key inode) None refl) (slices-alter (remove rows (node_key inode)) (dropped_key inode) (Some length_cell) refl));
        next = next-alter (remove rows (node_key inode)) (dropped_key inode) (Some length_cell) (other_tab counters_key (dropped_key inode) refl)
            ∙ next-alter rows (node_key inode) None (other_tab counters_key (node_key inode) refl) ∙ quiet.next;
        dropped = λ i. elim (cases_eq i inode) [
          | inl same ↦ subst (DropsAt start rows dropped_rows quiet.dropped) (sym same)
              (drop-gone start rows dropped_rows quiet.dropped inode was there length (node_again inode ∙ node_here None)
              (get-alter-here row_key (remove rows (node_key inode)) (dropped_key inode) (Some length_cell)
              ∙ sym (ap (λ b. with_length (if b then Some was.length else None) (get rows (dropped_key inode))) file)))
          | inr apart ↦ drop-beside start rows dropped_rows quiet.dropped i (node_again i ∙ node_beside None i apart)
              (get-alter-apart row_key (remove rows (node_key inode)) (dropped_key inode) (Some length_cell) (dropped_key i)
              (λ same. apart (ap (λ (q : RowKey). q.a) same)) ∙ dropped_beside None i)
        ];
      }

-- ---- what quiet changes keep

of_lists : (key : RowKey) → is_list_key key ≡ true → IsTrue (is_of_slices key.tab)
of_lists key is = ap (λ b. b || (key.tab == TABLE_OF_SLICES) || (key.tab == TABLE_OF_DEAD)) is

module _ (rows after : Rows) (stay : SlicesStay rows after) where
  same_lists : (key : RowKey) → is_list_key key ≡ true → get after key ≡ get rows key
  same_lists key is = stay key (of_lists key is)

  -- a sum over lists stays
  pub sum-stay : (f : List Rec → ℕ) → f [] ≡ 0 → sum_of f after ≡ sum_of f rows
  sum-stay f none = sum-lists rows after same_lists f none

  pub named_by-stay : (id : ℕ) → named_by after id ≡ named_by rows id
  named_by-stay id = named-lists rows after same_lists id

  pub slice_row-stay : (id : ℕ) → slice_row_at after id ≡ slice_row_at rows id
  slice_row-stay id = ap (λ c. slice_in (row_in c)) (stay (slice_key id) refl)

  pub dead-stay : (id : ℕ) → dead_at after id ≡ dead_at rows id
  dead-stay id = ap (λ c. dead_in (row_in c)) (stay (dead_key id) refl)

  -- what lists show stays
  pub lists_of-stay : (inode window : ℕ) → lists_of after inode window ≡ lists_of rows inode window
  unfolding lists_of
  lists_of-stay inode window = ap (λ c. if nat_lt window (2 ^ 32) then records_in (row_in c) else []) (stay (list_key inode window) refl)

  listed-stay : (key : RowKey) → listed key (get after key) ≡ listed key (get rows key)
  listed-stay key = listed-lists rows after same_lists key

module _ (rows after : Rows) (q : Quiet rows after) where
  -- slices stay whole
  pub quiet-slices : WholeSlices rows → WholeSlices after
  quiet-slices w = record {
    sizes = w.sizes;
    records = λ key. subst (AllByRecursion _) (sym (listed-stay rows after q.apart key)) (w.records key);
    sized = λ key. subst (AllByRecursion _) (sym (listed-stay rows after q.apart key)) (w.sized key);
    slice_size = λ id slice there. w.slice_size id slice (sym (slice_row-stay rows after q.apart id) ∙ there);
    exact = λ id low. ap count_in (slice_row-stay rows after q.apart id) ∙ w.exact id low ∙ sym (named_by-stay rows after q.apart id);
    dead_size = λ id dead some there. w.dead_size id dead some (sym (dead-stay rows after q.apart id) ∙ there);
    apart = λ id some there. slice_row-stay rows after q.apart id ∙ w.apart id some (λ none. there (dead-stay rows after q.apart id ∙ none));
    below = λ id low. let old = w.below id (subst (λ n. n ≤ id) q.next low) in record {
      unnamed = named_by-stay rows after q.apart id ∙ old.unnamed;
      no_row = slice_row-stay rows after q.apart id ∙ old.no_row;
      not_dead = dead-stay rows after q.apart id ∙ old.not_dead;
    };
    none = slice_row-stay rows after q.apart 0 ∙ w.none;
    slices_end = subst (λ n. n ≤ FULL_COUNT) (sym q.next) w.slices_end;
  }
