-- A file that is cut: its lists show what the cut leaves of it, rows are whole again, and the tree is that of the model's truncate.
use Rattle.std.proofs.Common.{◌≡◌, ◌≢◌, ℕ, ◌*◌, ◌/◌, ◌%◌, ◌<◌, ◌≤◌, ◌^◌, ◌⊎◌, inl, inr, true, false, List, [], ◌∷◌, length, Option, None, Some, refl, sym, ap, subst, ◌∙◌, arith}
use Rattle.std.specs.Prelude.{◌==◌, ◌||◌, nat_le, nat_lt, if◌then◌else◌}
use Rattle.std.proofs.lemmas.Bool.{cases_eq, cond-true, cond-false, eq-eqb, ne_eqb, eqb-true, leb-true, or_parts}
use Rattle.jv_model.specs.declared.tables.TheConstants.{TABLE_OF_LISTS, TABLE_OF_SLICES, TABLE_OF_DEAD}
use Rattle.jv_model.specs.declared.limits.TheConstants.{FILE_END, WINDOW}
use Rattle.jv_model.specs.declared.row.Counters.{Counters}
use Rattle.jv_model.specs.declared.row.Node.{Node as NodeRow}
use Rattle.jv_model.specs.declared.row.RowKey.{RowKey}
use Rattle.jv_model.specs.declared.row.SliceRow.{SliceRow}
use Rattle.jv_model.specs.declared.slice.Rec.{Rec}
use Rattle.jv_model.specs.promise.FiniteMap.{get}
use Rattle.jv_model.specs.promise.rows.RowPlaces.{list_key}
use Rattle.jv_model.specs.promise.tree.FileBytes.{truncated}
use Rattle.jv_rows.specs.Lists.{is_past, HasNoList, HaveWindows}
use Rattle.jv_volume.specs.promise.TypedRows.{Cell, Rows, is_key}
use Rattle.jv_volume.specs.promise.Views.{row_in, records_in, node_row_at, counters_at, lists_of, slice_row_at, dead_at}
use Rattle.jv_volume.specs.promise.Slices.{place_in, next_slice, WholeSlices}
use Rattle.jv_volume.specs.Whole.{Quiet, is_of_slices}
use Rattle.jv_volume.specs.promise.Whole.{Whole}
use Rattle.jv_volume.proofs.stored.QuietLaws.{quiet-slices, lists_of-stay, slice_row-stay}
use Rattle.jv_volume_bytes.specs.promise.Bytes.{KnownBytes, tree_with}
use Rattle.jv_volume_bytes.specs.Counts.{KeepsOthers}
use Rattle.jv_volume_bytes.specs.Places.{with_list, cut_list, cut_at}
use Rattle.jv_volume_bytes.proofs.ByteLaws.{past-cut}
use Rattle.jv_volume_bytes.proofs.CountLaws.{ListsMove, move-none, others-adjusted, dead_after, go-adjusted}
use Rattle.jv_volume_bytes.proofs.PlaceLaws.{place_in-same, place_in-cut}
use Rattle.jv_volume_bytes.proofs.WholeLaws.{SlicesGo}
use Rattle.jv_data.specs.Changing.{may_change}
use Rattle.jv_data.specs.Truncating.{rows_ended, rows_without, latest, Follow, ListsCut}
use Rattle.jv_data.proofs.files.BesideLaws.{Beside, beside-then}
use Rattle.jv_data.proofs.lists.CutListsLaws.{list_ended, came, came-naming, came-few, get-ended, get-ended-file, beside-ended, lists_of-ended-file, shows-ended, move-ended, cut-is, adjusted-came}
use Rattle.jv_data.proofs.lists.DroppedLaws.{get-without, get-without-file, beside-without, lists_of-without-file, move-without, shows-without}
use Rattle.jv_data.proofs.lists.ListChangeLaws.{node-changed, ListsChange, whole-changed, others-changed, tree-cut}
use Rattle.jv_data.proofs.files.RestLaws.{rest-then}
use Rattle.jv_data.proofs.files.SameTreeLaws.{beside-adjusted}
use Rattle.jv_data.proofs.files.SizedLaws.{sized_rows, sized, quiet-sized}

-- each key of a list of whole rows has a window
pub whole-windows : (rows : Rows) → Whole rows → HaveWindows rows
whole-windows rows whole key four there = by_cell (get rows key) refl
  where
    long : (tab a : ℕ) (b : List ℕ) → tab ≡ TABLE_OF_LISTS → is_key (record { tab = tab; a = a; b = b }) ≡ true → length b ≡ 4
    long tab a b is k = eqb-true (length b) 4 (sym (ap (λ n. is_key (record { tab = n; a = a; b = b })) is) ∙ k)

    by_cell : (o : Option Cell) → get rows key ≡ o → length key.b ≡ 4
    by_cell None e = absurd (there e)
    by_cell (Some cell) e = long key.tab key.a key.b four (whole.cells key cell e).key_is

ended_start : (pos : ℕ) (l : List Rec) → pos ≡ 0 → list_ended pos l ≡ l
ended_start pos [] zero = refl
ended_start pos (r ∷ rs) zero = cond-true _ _ _ (eq-eqb pos 0 zero)

module _ (rows : Rows) (inode : ℕ) (was : NodeRow) (c : Counters) (now len : ℕ) (whole : Whole rows)
    (there : node_row_at rows inode ≡ Some was) (file : was.kind ≡ 1) (counters : counters_at rows ≡ Some c) (small : len ≤ FILE_END)
    (last : Rows) (cut : ListsCut inode len now rows (sized_rows rows inode was c now len whole there file counters) last) where
  abbrev middle : Rows
  middle = sized_rows rows inode was c now len whole there file counters

  abbrev window : ℕ
  window = len / WINDOW

  abbrev pos : ℕ
  pos = len % WINDOW

  abbrev inner : List Rec
  inner = lists_of rows inode window

  abbrev ended : Rows
  ended = rows_ended inode window pos inner middle

  abbrev lists : List (ℕ × List Rec)
  lists = cut.dropped.so_far.lists

  quiet : Quiet rows middle
  quiet = quiet-sized rows inode was c now len whole there file counters

  list_same : (i u : ℕ) → lists_of middle i u ≡ lists_of rows i u
  list_same i u = lists_of-stay rows middle quiet.apart i u

  low : window < 2 ^ 32
  low = grind (arith, small)

  wide : HaveWindows rows
  wide = whole-windows rows whole

  follow : Follow rows inode cut.last lists
  follow = cut.dropped.so_far.follow

  ends : HasNoList rows inode (latest cut.last lists) None
  ends = subst (λ (o : Option ℕ). HasNoList rows inode o None) cut.dropped.so_far.now_is (cut.dropped.ends wide)

  show_ended : (u : ℕ) → lists_of ended inode u ≡ with_list window (list_ended pos inner) (lists_of rows inode) u
  show_ended u = shows-ended inode window pos middle low inner (sym (list_same inode window)) u
      ∙ ap (λ (x : List Rec). if u == window then list_ended pos inner else x) (list_same inode u)

  past_same : (u : ℕ) → is_past cut.last u ≡ true → lists_of ended inode u ≡ lists_of rows inode u
  past_same u past = show_ended u ∙ by_window (cases_eq u window)
    where
      by_window : (u ≡ window) ⊎ (u ≢ window) → with_list window (list_ended pos inner) (lists_of rows inode) u ≡ lists_of rows inode u
      by_window (inl here) =
          let high : len ≤ u * WINDOW = leb-true len (u * WINDOW) (sym (cut.last_is u) ∙ past) in
          let zero : pos ≡ 0 = grind (arith, high, here) in
          cond-true _ _ _ (eq-eqb u window here) ∙ ended_start pos inner zero ∙ ap (lists_of rows inode) (sym here)
      by_window (inr apart) = cond-false _ _ _ (ne_eqb u window apart)

  -- ---- what is shown

  get_last : (key : RowKey) → (key.tab == TABLE_OF_LISTS) ≡ true → get last key ≡ get (rows_without inode lists ended) key
  get_last key four =
      let tab = eqb-true key.tab TABLE_OF_LISTS four in
      others-adjusted cut.gone [] _ cut.without last cut.adjusted key (ne_eqb key.tab TABLE_OF_SLICES (λ e. omega (arith, tab, e))) (ne_eqb key.tab TABLE_OF_DEAD (λ e. omega (arith, tab, e)))
      ∙ ap (λ (x : Rows). get x key) cut.dropped.so_far.is

  lists_last : (i u : ℕ) → lists_of last i u ≡ lists_of (rows_without inode lists ended) i u
  unfolding lists_of
  lists_last i u = ap (λ o. if nat_lt u (2 ^ 32) then records_in (row_in o) else []) (get_last (list_key i u) refl)

  pub show_last : (u : ℕ) → lists_of last inode u ≡ cut_list len u (lists_of rows inode u)
  show_last u = lists_last inode u ∙ shows-without rows inode cut.last wide ended past_same lists follow ends u
      ∙ ap (λ b. if b then [] else lists_of ended inode u) (cut.last_is u)
      ∙ ap (λ (x : List Rec). if nat_le len (u * WINDOW) then [] else x) (show_ended u)
      ∙ cut-is len u (lists_of rows inode)

  shows : (p : ℕ) → place_in (lists_of last inode) p ≡ cut_at (place_in (lists_of rows inode)) len p
  shows p = place_in-same (lists_of last inode) (λ u. cut_list len u (lists_of rows inode u)) show_last p ∙ place_in-cut (lists_of rows inode) len p

  others : (i : ℕ) → i ≢ inode → (p : ℕ) → place_in (lists_of last i) p ≡ place_in (lists_of rows i) p
  others i apart p = place_in-same (lists_of last i) (lists_of rows i) (λ u.
      lists_last i u ∙ lists_of-without-file inode lists ended i u apart ∙ lists_of-ended-file inode window pos middle inner i u apart ∙ list_same i u) p

  -- ---- slices

  slices_middle : WholeSlices middle
  slices_middle = quiet-slices rows middle quiet whole.slices

  move : ListsMove middle cut.without cut.gone (came pos inner)
  move =
      subst (λ (x : Rows). ListsMove middle x cut.gone (came pos inner)) (sym cut.dropped.so_far.is)
      (subst (λ (l : List Rec). ListsMove middle (rows_without inode lists ended) l (came pos inner)) (sym cut.dropped.so_far.gone_is)
      (move-without rows inode cut.last wide ended past_same middle (came pos inner)
      (move-ended inode window pos middle low middle (move-none middle slices_middle) (let inside : pos < WINDOW = grind arith in inside) inner (sym (list_same inode window)))
      lists follow))

  go : SlicesGo 1 middle last
  go = go-adjusted 1 middle cut.without last cut.gone (came pos inner) _ slices_middle move
      (adjusted-came cut.gone (came pos inner) _ cut.without last (came-naming pos inner) cut.adjusted) (let few = came-few pos inner in omega (arith, few))

  -- a slice whose row has gone is dead until it is due
  pub dies-cut : (id : ℕ) (slice : SliceRow) → slice_row_at rows id ≡ Some slice → slice_row_at last id ≡ None
      → dead_at last id ≡ Some (record { size = slice.size; due = cut.due })
  dies-cut id slice here none = dead_after 1 middle cut.without last cut.gone (came pos inner) _ slices_middle move
      (adjusted-came cut.gone (came pos inner) _ cut.without last (came-naming pos inner) cut.adjusted) (let few = came-few pos inner in omega (arith, few))
      id slice (slice_row-stay rows middle quiet.apart id ∙ here) none

  -- ---- all rows

  beside : Beside middle last
  beside = beside-then middle cut.without last
      (subst (Beside middle) (sym cut.dropped.so_far.is)
      (beside-then middle ended (rows_without inode lists ended) (beside-ended inode window pos middle inner) (beside-without inode lists ended)))
      (beside-adjusted cut.gone [] _ cut.without last cut.adjusted)

  rest : (key : RowKey) → is_of_slices key.tab ≡ false → get last key ≡ get middle key
  rest key other =
      let t = key.tab in
      let p = or_parts ((t == 4) || (t == 5)) (t == 9) other in
      let q = or_parts (t == 4) (t == 5) p.0 in
      others-adjusted cut.gone [] _ cut.without last cut.adjusted key q.1 p.1 ∙ ap (λ (x : Rows). get x key) cut.dropped.so_far.is
      ∙ get-without inode lists ended key q.0 ∙ get-ended inode window pos middle inner key q.0

  -- all rows that it may not change are as before
  pub rest-cut : (key : RowKey) → may_change inode key ≡ false → get last key ≡ get rows key
  rest-cut = rest-then rows inode was c now len whole there file counters last rest
      (λ key four apart. get_last key (eq-eqb key.tab TABLE_OF_LISTS four) ∙ get-without-file inode lists ended key apart ∙ get-ended-file inode window pos middle inner key apart)

  owners : (key : RowKey) → key.tab ≡ TABLE_OF_LISTS → get last key ≢ None → (get rows key ≢ None) ⊎ (key.a ≡ inode)
  owners key four is = elim (cases_eq key.a inode) [
    | inl same ↦ inr same
    | inr apart ↦ inl (λ none. is (get_last key (eq-eqb key.tab TABLE_OF_LISTS four) ∙ get-without-file inode lists ended key apart
        ∙ get-ended-file inode window pos middle inner key apart ∙ quiet.apart key (ap is_of_slices four) ∙ none))
  ]

  pub change : ListsChange rows inode was c now len whole there file counters 1 last
  change = record {
    beside = beside;
    rest = rest;
    go = go;
    others = others;
    past = λ p high. shows p ∙ past-cut (place_in (lists_of rows inode)) len p high;
    lists = owners;
  }

  module _ (given : 0 < next_slice rows) where
    pub whole-cut : Whole last
    whole-cut = whole-changed rows inode was c now len whole there file counters small given 1 last change

    -- the file's node is there
    pub node-cut : node_row_at last inode ≡ Some (sized rows inode was c now len whole there file counters)
    node-cut = node-changed rows inode was c now len whole there file counters small given 1 last change

    pub others-cut : KeepsOthers 0 1 rows last
    others-cut = others-changed rows inode was c now len whole there file counters small given 1 last change

  pub tree-cut_lists : (known_bytes : KnownBytes) → tree_with known_bytes last ≡ truncated (tree_with known_bytes rows) now inode len
  tree-cut_lists known_bytes = tree-cut rows inode was c now len whole there file counters 1 last change known_bytes shows
