-- A file that a range was copied to: its lists show it, rows are whole again, and the tree is that of the model's copy.
use Rattle.std.proofs.Common.{◌≡◌, ◌≢◌, ℕ, ◌+◌, ◌<◌, ◌≤◌, ◌^◌, ◌⊎◌, inl, inr, true, false, List, [], length, None, Some, refl, sym, ap, subst, ◌∙◌, arith}
use Rattle.std.specs.Prelude.{◌==◌, ◌||◌, max, nat_lt, if◌then◌else◌}
use Rattle.std.proofs.lemmas.Bool.{cases_eq, eq-eqb, ne_eqb, eqb-true, or_parts}
use Rattle.jv_model.specs.declared.tables.TheConstants.{TABLE_OF_LISTS, TABLE_OF_SLICES, TABLE_OF_DEAD}
use Rattle.jv_model.specs.declared.limits.TheConstants.{FILE_END, FULL_COUNT}
use Rattle.jv_model.specs.declared.row.Counters.{Counters}
use Rattle.jv_model.specs.declared.row.Node.{Node as NodeRow}
use Rattle.jv_model.specs.declared.row.RowKey.{RowKey}
use Rattle.jv_model.specs.declared.row.SliceRow.{SliceRow}
use Rattle.jv_model.specs.declared.slice.Rec.{Rec}
use Rattle.jv_model.specs.declared.slice.Spot.{Spot}
use Rattle.jv_model.specs.declared.slice.Spot.TheVariants.{Zero, Slice}
use Rattle.jv_model.specs.promise.FiniteMap.{get}
use Rattle.jv_model.specs.promise.rows.RowPlaces.{list_key}
use Rattle.jv_model.specs.promise.tree.Changes.{copied_over, with_content, content_of}
use Rattle.jv_rows.specs.Counts.{IsFull, Adjusted}
use Rattle.jv_volume.specs.promise.TypedRows.{Rows}
use Rattle.jv_volume.specs.promise.Views.{row_in, records_in, node_row_at, counters_at, lists_of, slice_row_at}
use Rattle.jv_volume.specs.promise.Slices.{records_naming, place_in, next_slice, WholeSlices}
use Rattle.jv_volume.specs.Whole.{Quiet, is_of_slices}
use Rattle.jv_volume.specs.promise.Whole.{Whole}
use Rattle.jv_volume.proofs.stored.QuietLaws.{quiet-slices, lists_of-stay, slice_row-stay}
use Rattle.jv_volume_bytes.specs.promise.Bytes.{KnownBytes, bytes_of, tree_with}
use Rattle.jv_volume_bytes.specs.Counts.{HadSize, KeepsOthers}
use Rattle.jv_volume_bytes.specs.promise.Counts.{record_count}
use Rattle.jv_volume_bytes.specs.Places.{put_over}
use Rattle.jv_volume_bytes.proofs.BlockLaws.{place_has_row}
use Rattle.jv_volume_bytes.proofs.ByteLaws.{past-put_over}
use Rattle.jv_volume_bytes.proofs.CountLaws.{ListsMove, move-none, others-adjusted, go-adjusted, lives-added, full-many}
use Rattle.jv_volume_bytes.proofs.KeepLaws.{record_count-stay}
use Rattle.jv_volume_bytes.proofs.PlaceLaws.{place_in-same}
use Rattle.jv_volume_bytes.proofs.WholeLaws.{SlicesGo}
use Rattle.jv_data.specs.declared.copying.CopyCourse.{CopyCourse}
use Rattle.jv_data.specs.Changing.{may_change}
use Rattle.jv_data.specs.Copying.{rows_copied, Copying, GetsPieces}
use Rattle.jv_data.proofs.files.BesideLaws.{Beside, beside-then}
use Rattle.jv_data.proofs.lists.ListChangeLaws.{node-changed, ListsChange, whole-changed, others-changed, tree-copied}
use Rattle.jv_data.proofs.lists.PartsLaws.{get-copied, get-copied-file, beside-copied, lists_of-copied-file, pieces-copied, shows-copied, move-copied, few-copied}
use Rattle.jv_data.proofs.files.RestLaws.{rest-then}
use Rattle.jv_data.proofs.files.SameTreeLaws.{beside-adjusted}
use Rattle.jv_data.proofs.files.SizedLaws.{sized_rows, sized, quiet-sized}

module _ (rows : Rows) (course : CopyCourse) (was : NodeRow) (c : Counters) (now end : ℕ) (whole : Whole rows)
    (there : node_row_at rows course.target ≡ Some was) (file : was.kind ≡ 1) (counters : counters_at rows ≡ Some c)
    (small : end ≤ FILE_END) (long : max was.length (course.to + course.len) ≡ end)
    (with_parts : Rows) (added : List Rec) (copying : Copying course course.len rows (sized_rows rows course.target was c now end whole there file counters) with_parts added) where
  abbrev middle : Rows
  middle = sized_rows rows course.target was c now end whole there file counters

  abbrev parts : List (ℕ × List Rec)
  parts = copying.parts

  quiet : Quiet rows middle
  quiet = quiet-sized rows course.target was c now end whole there file counters

  list_same : (i u : ℕ) → lists_of middle i u ≡ lists_of rows i u
  list_same i u = lists_of-stay rows middle quiet.apart i u

  within : course.to + course.len ≤ FILE_END
  within = omega (arith, long, small)

  slices_middle : WholeSlices middle
  slices_middle = quiet-slices rows middle quiet whole.slices

  had : (p id size at : ℕ) → place_in (lists_of rows course.source) p ≡ Slice id size at → HadSize middle id size
  had p id size at e = (place_has_row middle slices_middle course.source p id size at
      (place_in-same (lists_of middle course.source) (lists_of rows course.source) (list_same course.source) p ∙ e)).0

  move : ListsMove middle with_parts [] added
  move =
      subst (λ (x : Rows). ListsMove middle x [] added) (sym copying.is)
      (subst (λ (l : List Rec). ListsMove middle (rows_copied rows course parts middle) [] l) (sym copying.added_is)
      (move-copied rows course middle within (list_same course.target) middle had (move-none middle slices_middle) parts course.len copying.follow))

  few : length added ≤ course.len
  few = (let few = few-copied rows course parts course.len copying.follow in let same = ap (λ (l : List Rec). length l) copying.added_is in omega (arith, few, same))

  -- a count that can't follow is one of too many records
  pub crowded-copied : (id : ℕ) → 0 < id → IsFull id 0 (records_naming id added) with_parts → FULL_COUNT < record_count rows + course.len
  crowded-copied id some full =
      let many = full-many with_parts [] added id move.behind some full in
      let count = move.count in
      let stay = record_count-stay rows middle quiet.apart in
      let less = few in
      omega (arith, many, count, stay, less)

  module _ (more due : ℕ) (enough : course.len ≤ more) (last : Rows) (adjusted : Adjusted [] added due with_parts last) where
    -- no slice dies
    pub lives-copied : (id : ℕ) (slice : SliceRow) → slice_row_at rows id ≡ Some slice → slice_row_at last id ≡ None → ⊥
    lives-copied id slice here none = lives-added added due with_parts last adjusted id slice (move.slices id ∙ slice_row-stay rows middle quiet.apart id ∙ here) none

    get_last : (key : RowKey) → (key.tab == TABLE_OF_LISTS) ≡ true → get last key ≡ get (rows_copied rows course parts middle) key
    get_last key four =
        let tab = eqb-true key.tab TABLE_OF_LISTS four in
        others-adjusted [] added due with_parts last adjusted key (ne_eqb key.tab TABLE_OF_SLICES (λ e. omega (arith, tab, e))) (ne_eqb key.tab TABLE_OF_DEAD (λ e. omega (arith, tab, e)))
        ∙ ap (λ (x : Rows). get x key) copying.is

    lists_last : (i u : ℕ) → lists_of last i u ≡ lists_of (rows_copied rows course parts middle) i u
    unfolding lists_of
    lists_last i u = ap (λ o. if nat_lt u (2 ^ 32) then records_in (row_in o) else []) (get_last (list_key i u) refl)

    -- one record for each piece
    pub pieces-last : (u : ℕ) → GetsPieces rows course.source course.from course.target course.to course.len u (lists_of last course.target u)
    pieces-last u =
        subst (λ (l : List Rec). GetsPieces rows course.source course.from course.target course.to course.len u l) (sym (lists_last course.target u))
        (pieces-copied rows course middle within (list_same course.target) parts course.len copying.follow u)

    abbrev new : ℕ → Spot
    new k = place_in (lists_of rows course.source) (course.from + k)

    shows : (p : ℕ) → place_in (lists_of last course.target) p ≡ put_over (place_in (lists_of rows course.target)) course.to course.len new p
    shows p =
        place_in-same (lists_of last course.target) (lists_of (rows_copied rows course parts middle) course.target) (lists_last course.target) p
        ∙ shows-copied rows course middle within (list_same course.target) parts course.len copying.follow p

    others : (i : ℕ) → i ≢ course.target → (p : ℕ) → place_in (lists_of last i) p ≡ place_in (lists_of rows i) p
    others i apart p = place_in-same (lists_of last i) (lists_of rows i) (λ u.
        lists_last i u ∙ lists_of-copied-file rows course middle parts i u apart ∙ list_same i u) p

    go : SlicesGo more middle last
    go = go-adjusted more middle with_parts last [] added due slices_middle move adjusted (let less = few in omega (arith, less, enough))

    beside : Beside middle last
    beside = beside-then middle with_parts last (subst (Beside middle) (sym copying.is) (beside-copied rows course middle parts))
        (beside-adjusted [] added due with_parts last adjusted)

    rest : (key : RowKey) → is_of_slices key.tab ≡ false → get last key ≡ get middle key
    rest key other =
        let t = key.tab in
        let p = or_parts ((t == 4) || (t == 5)) (t == 9) other in
        let q = or_parts (t == 4) (t == 5) p.0 in
        others-adjusted [] added due with_parts last adjusted key q.1 p.1 ∙ ap (λ (x : Rows). get x key) copying.is
        ∙ get-copied rows course middle parts key q.0

    -- all rows that it may not change are as before
    pub rest-copied : (key : RowKey) → may_change course.target key ≡ false → get last key ≡ get rows key
    rest-copied = rest-then rows course.target was c now end whole there file counters last rest
        (λ key four apart. get_last key (eq-eqb key.tab TABLE_OF_LISTS four) ∙ get-copied-file rows course middle parts key apart)

    owners : (key : RowKey) → key.tab ≡ TABLE_OF_LISTS → get last key ≢ None → (get rows key ≢ None) ⊎ (key.a ≡ course.target)
    owners key four is = elim (cases_eq key.a course.target) [
      | inl same ↦ inr same
      | inr apart ↦ inl (λ none. is (get_last key (eq-eqb key.tab TABLE_OF_LISTS four) ∙ get-copied-file rows course middle parts key apart
          ∙ quiet.apart key (ap is_of_slices four) ∙ none))
    ]

    past_was : (p : ℕ) → was.length ≤ p → place_in (lists_of rows course.target) p ≡ Zero
    past_was = whole.files.past course.target was there file

    change : ListsChange rows course.target was c now end whole there file counters more last
    change = record {
      beside = beside;
      rest = rest;
      go = go;
      others = others;
      past = λ p high. shows p ∙ past-put_over was.length (place_in (lists_of rows course.target)) past_was course.to course.len new end
          (omega (arith, long)) (omega (arith, long)) p high;
      lists = owners;
    }

    module _ (given : 0 < next_slice rows) where
      pub whole-copied : Whole last
      whole-copied = whole-changed rows course.target was c now end whole there file counters small given more last change

      -- the file's node is there
      pub node-copied : node_row_at last course.target ≡ Some (sized rows course.target was c now end whole there file counters)
      node-copied = node-changed rows course.target was c now end whole there file counters small given more last change

      pub others-copied : KeepsOthers 0 more rows last
      others-copied = others-changed rows course.target was c now end whole there file counters small given more last change

    -- the tree, where the source is a file
    pub tree-copied_lists : (known_bytes : KnownBytes) (source : NodeRow) → node_row_at rows course.source ≡ Some source → source.kind ≡ 1
        → tree_with known_bytes last ≡ with_content (tree_with known_bytes rows) now course.target (copied_over (content_of source.length (bytes_of known_bytes rows course.source)) course.from
        (content_of was.length (bytes_of known_bytes rows course.target)) course.to course.len)
    tree-copied_lists known_bytes source source_there source_file =
        tree-copied rows course.target was c now end whole there file counters more last change known_bytes source.length (place_in (lists_of rows course.source))
        (whole.files.past course.source source source_there source_file) course.from course.to course.len long shows
