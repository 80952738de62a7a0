-- A commit of a record of a new slice over whole rows: they are whole again, and their tree is the model's after it.
use Rattle.std.proofs.Common.{◌≡◌, ◌≢◌, ℕ, ◌+◌, ◌*◌, ◌<◌, ◌≤◌, ◌^◌, false, List, length, ◌++◌, ◌∷◌, [], None, Some, Ok, refl, sym, ap, subst, ◌∙◌, arith}
use Rattle.std.proofs.lemmas.Option.{same_Some}
use Rattle.std.specs.Prelude.{◌==◌, ◌||◌, max, slice_index}
use Rattle.std.proofs.lemmas.Bool.{or_parts}
use Rattle.jv_model.specs.declared.limits.TheConstants.{FILE_END, WINDOW}
use Rattle.jv_model.specs.declared.row.Counters.{Counters}
use Rattle.jv_model.specs.declared.row.Node.{Node as NodeRow}
use Rattle.jv_model.specs.declared.row.Row.TheVariants.{OfList, OfSlice}
use Rattle.jv_model.specs.declared.row.RowKey.{RowKey}
use Rattle.jv_model.specs.declared.row.SliceRow.{SliceRow}
use Rattle.jv_model.specs.declared.slice.Rec.{Rec}
use Rattle.jv_model.specs.declared.slice.Spot.TheVariants.{Zero}
use Rattle.jv_model.specs.promise.FiniteMap.{get}
use Rattle.jv_model.specs.promise.blocks.Slices.{IsRecord, shown}
use Rattle.jv_model.specs.promise.rows.RowPlaces.{list_key, node_key, slice_key}
use Rattle.jv_model.specs.promise.tree.Tree.{Tree, Content}
use Rattle.jv_model.specs.promise.tree.Changes.{overwritten, with_content, content_of}
use Rattle.jv_model.specs.promise.tree.FileBytes.{committed}
use Rattle.jv_volume.specs.promise.TypedRows.{Cell, Rows}
use Rattle.jv_volume.specs.promise.Views.{row_in, node_in, lists_of, node_row_at, slice_row_at, counters_at}
use Rattle.jv_volume.specs.promise.Slices.{IsUnknown, next_slice, place_in}
use Rattle.jv_volume.specs.promise.Whole.{IsRowAt, Whole}
use Rattle.jv_volume.specs.Whole.{Quiet}
use Rattle.jv_volume.proofs.stored.QuietLaws.{lists_of-stay, slice_row-stay}
use Rattle.jv_volume.proofs.maps.SeenLaws.{row-put}
use Rattle.jv_volume_bytes.specs.Places.{put_over}
use Rattle.jv_volume_bytes.specs.promise.Bytes.{KnownBytes, spot_byte, bytes_of, tree_with}
use Rattle.jv_volume_bytes.specs.Counts.{KeepsOthers}
use Rattle.jv_volume_bytes.proofs.ByteLaws.{byte-committed, past-put_over}
use Rattle.jv_volume_bytes.proofs.KeepLaws.{unknown-stay, keeps-stay_then}
use Rattle.jv_volume_bytes.proofs.PlaceLaws.{place_in-same}
use Rattle.jv_data.specs.Changing.{may_change}
use Rattle.jv_data.proofs.files.BesideLaws.{Beside, beside-alter, beside-then, formed-beside, list_is_row, whole-formed}
use Rattle.jv_data.proofs.files.ChangedFileLaws.{tree-changed}
use Rattle.jv_data.proofs.lists.NewRecordLaws.{recorded_rows, other_same, list_beside, slice_there, slices-recorded, others-recorded, files-recorded, places-recorded, places-beside, lives-recorded}
use Rattle.jv_data.proofs.files.RestLaws.{rest-then}
use Rattle.jv_data.proofs.files.SizedLaws.{sized_rows, sized, formed-sized, quiet-sized, whole-sized, node-sized, content_was}

-- a slice's row may stand where it is put
slice_is_row : (id : ℕ) (slice : SliceRow) (x : Cell) → Some (Ok (OfSlice slice)) ≡ Some x → IsRowAt (slice_key id) x
slice_is_row id slice x = row-put (slice_key id) (Ok (OfSlice slice)) x (record { key_is = refl; cell_is = refl; hour = refl })

module _ (rows : Rows) (inode window : ℕ) (low : window < 2 ^ 32) (was : NodeRow) (c : Counters) (now : ℕ) (rec : Rec) (list : List Rec)
    (whole : Whole rows) (there : node_row_at rows inode ≡ Some was) (file : was.kind ≡ 1) (counters : counters_at rows ≡ Some c)
    (list_is : list ≡ lists_of rows inode window) (is : IsRecord rec) (some : 0 < rec.id) (small : rec.size ≤ WINDOW)
    (within : window * WINDOW + rec.pos + rec.len ≤ FILE_END) where
  abbrev from : ℕ
  from = window * WINDOW + rec.pos

  abbrev end : ℕ
  end = max was.length (from + rec.len)

  abbrev middle : Rows
  middle = sized_rows rows inode was c now end whole there file counters

  quiet : Quiet rows middle
  quiet = quiet-sized rows inode was c now end whole there file counters

  pub same_list : list ≡ lists_of middle inode window
  same_list = list_is ∙ sym (lists_of-stay rows middle quiet.apart inode window)

  abbrev pub last : Rows
  last = recorded_rows middle inode window low rec list same_list is some small

  beside-last : Beside middle last
  beside-last = beside-then middle _ last
      (beside-alter middle (list_key inode window) (Some (Ok (OfList (list ++ rec ∷ [])))) refl (list_is_row inode window (list ++ rec ∷ [])))
      (beside-alter _ (slice_key rec.id) (Some (Ok (OfSlice (record { size = rec.size; count = 1 })))) refl (slice_is_row rec.id (record { size = rec.size; count = 1 })))

  longer : was.length ≤ end
  longer = omega arith

  end_within : end ≤ FILE_END
  end_within = (let least = whole.files.small inode was there file in omega (arith, least, within))

  whole_middle : Whole middle
  whole_middle = whole-sized rows inode was c now end whole there file counters longer end_within

  module _ (unknown : IsUnknown rows rec.id) (below : rec.id < next_slice rows) where
    unknown_middle : IsUnknown middle rec.id
    unknown_middle = unknown-stay rows middle quiet.apart rec.id unknown

    below_middle : rec.id < next_slice middle
    below_middle = subst (λ n. rec.id < n) (sym quiet.next) below

    pub whole-last : Whole last
    whole-last = whole-formed last
        (formed-beside middle last (formed-sized rows inode was c now end whole there file counters) beside-last)
        (slices-recorded middle inode window low rec list same_list is some small whole_middle.slices unknown_middle below_middle)
        (files-recorded middle inode window low rec list same_list is some small whole_middle.files (sized rows inode was c now end whole there file counters)
        (node-sized rows inode was c now end whole there file counters) file (omega arith))

    pub others-last : KeepsOthers rec.id 1 rows last
    others-last = keeps-stay_then rec.id 1 rows middle last quiet.apart quiet.next
        (others-recorded middle inode window low rec list same_list is some small whole_middle.slices unknown_middle below_middle)

  -- all rows that it may not change are as before
  pub rest-last : (key : RowKey) → may_change inode key ≡ false → get last key ≡ get rows key
  rest-last = rest-then rows inode was c now end whole there file counters last
      (λ key other.
      (let t = key.tab in
      let p = or_parts ((t == 4) || (t == 5)) (t == 9) other in
      let q = or_parts (t == 4) (t == 5) p.0 in
      other_same middle inode window low rec list same_list is some small key q.0 q.1))
      (list_beside middle inode window low rec list same_list is some small)

  -- and the file's node is there
  pub node-last : node_row_at last inode ≡ Some (sized rows inode was c now end whole there file counters)
  node-last = ap (λ o. node_in (row_in o)) (other_same middle inode window low rec list same_list is some small (node_key inode) refl refl)
      ∙ node-sized rows inode was c now end whole there file counters

  pub lives-last : (id : ℕ) (slice : SliceRow) → slice_row_at rows id ≡ Some slice → slice_row_at last id ≡ None → ⊥
  lives-last id slice here none =
      lives-recorded middle inode window low rec list same_list is some small id slice (slice_row-stay rows middle quiet.apart id ∙ here) none

  pub size-last : (slice : SliceRow) → slice_row_at last rec.id ≡ Some slice → slice.size ≡ rec.size
  size-last slice here =
      let one = same_Some _ slice (sym (slice_there middle inode window low rec list same_list is some small) ∙ here) in
      sym (ap (λ (s : SliceRow). s.size) one)

  -- what lists show
  lists_middle : (i p : ℕ) → place_in (lists_of middle i) p ≡ place_in (lists_of rows i) p
  lists_middle i p = place_in-same (lists_of middle i) (lists_of rows i) (λ u. lists_of-stay rows middle quiet.apart i u) p

  own_places : (p : ℕ) → place_in (lists_of last inode) p ≡ put_over (place_in (lists_of rows inode)) from rec.len (shown rec) p
  own_places p = places-recorded middle inode window low rec list same_list is some small p
      ∙ (λ i. put_over (λ q. lists_middle inode q i) from rec.len (shown rec) p)

  other_places : (i : ℕ) → i ≢ inode → (p : ℕ) → place_in (lists_of last i) p ≡ place_in (lists_of rows i) p
  other_places i apart p = places-beside middle inode window low rec list same_list is some small i apart p ∙ lists_middle i p

  module _ (known_bytes : KnownBytes) (bytes : List ℕ) (long : length bytes ≡ rec.len) (shows : (n : ℕ) → n < rec.len → spot_byte known_bytes (shown rec n) ≡ slice_index bytes n) where
    abbrev content : Content
    content = content_of was.length (bytes_of known_bytes rows inode)

    abbrev t : Tree
    t = tree_with known_bytes rows

    past_was : (p : ℕ) → was.length ≤ p → place_in (lists_of rows inode) p ≡ Zero
    past_was = whole.files.past inode was there file

    pub committed_is : committed t now inode from bytes ≡ with_content t now inode (overwritten content from bytes)
    committed_is = ap (λ o. elim o as (λ _. Tree) [ None ↦ t | Some old ↦ with_content t now inode (overwritten old from bytes) ])
        (content_was rows inode was c now end whole there file counters (bytes_of known_bytes rows))

    pub tree-last : tree_with known_bytes last ≡ committed t now inode from bytes
    tree-last = tree-changed rows inode was c now end whole there file counters last beside-last known_bytes (overwritten content from bytes)
        (ap (λ n. max was.length (from + n)) long) other_places
        (λ p high. own_places p ∙ past-put_over was.length (place_in (lists_of rows inode)) past_was from rec.len (shown rec) end longer (omega arith) p high)
        (λ p. ap (spot_byte known_bytes) (own_places p ∙ ap (λ n. put_over (place_in (lists_of rows inode)) from n (shown rec) p) (sym long))
        ∙ byte-committed known_bytes was.length (place_in (lists_of rows inode)) past_was from bytes (shown rec) (λ k low. shows k (subst (λ n. k < n) long low)) p)
        ∙ sym committed_is
