-- A file of another length whose lists have changed, with slices that are counted anew: rows are whole again, other slices are kept, and
-- the tree is that of the model's truncate or copy.
use Rattle.std.proofs.Common.{◌≡◌, ◌≢◌, ℕ, ◌+◌, ◌<◌, ◌≤◌, ◌⊎◌, false, None, Some, refl, sym, ap, subst, ◌∙◌}
use Rattle.std.specs.Prelude.{max}
use Rattle.jv_model.specs.declared.tables.TheConstants.{TABLE_OF_LISTS}
use Rattle.jv_model.specs.declared.limits.TheConstants.{FILE_END}
use Rattle.jv_model.specs.declared.row.Counters.{Counters}
use Rattle.jv_model.specs.declared.row.Node.{Node as NodeRow}
use Rattle.jv_model.specs.declared.row.RowKey.{RowKey}
use Rattle.jv_model.specs.declared.slice.Spot.{Spot}
use Rattle.jv_model.specs.declared.slice.Spot.TheVariants.{Zero}
use Rattle.jv_model.specs.promise.FiniteMap.{get}
use Rattle.jv_model.specs.promise.rows.RowPlaces.{counters_key, node_key, dropped_key}
use Rattle.jv_model.specs.promise.tree.Tree.{Tree, Content}
use Rattle.jv_model.specs.promise.tree.Changes.{resized, copied_over, with_content, content_of}
use Rattle.jv_model.specs.promise.tree.FileBytes.{truncated}
use Rattle.jv_volume.specs.promise.TypedRows.{Rows}
use Rattle.jv_volume.specs.promise.Views.{row_in, counters_in, counters_at, node_in, node_row_at, dropped_in, dropped_at, lists_of}
use Rattle.jv_volume.specs.promise.TreeOf.{counters_of_rows, or_no_counters}
use Rattle.jv_volume.specs.promise.Slices.{next_slice, place_in, WholeSlices}
use Rattle.jv_volume.specs.Whole.{Quiet, is_of_slices}
use Rattle.jv_volume.specs.promise.Whole.{Whole}
use Rattle.jv_volume.proofs.stored.QuietLaws.{other_tab, quiet-slices}
use Rattle.jv_volume_bytes.specs.Places.{put_over, cut_at}
use Rattle.jv_volume_bytes.specs.promise.Bytes.{KnownBytes, spot_byte, bytes_of, tree_with}
use Rattle.jv_volume_bytes.specs.Counts.{KeepsOthers}
use Rattle.jv_volume_bytes.proofs.ByteLaws.{byte-cut, byte-copied}
use Rattle.jv_volume_bytes.proofs.KeepLaws.{keeps-stay_then}
use Rattle.jv_volume_bytes.proofs.WholeLaws.{SlicesGo, keeps-go, slices-go, FileGoes, files-go}
use Rattle.jv_data.proofs.files.BesideLaws.{Beside, formed-beside, whole-formed}
use Rattle.jv_data.proofs.files.ChangedFileLaws.{tree-changed}
use Rattle.jv_data.proofs.files.SizedLaws.{sized_rows, sized, formed-sized, quiet-sized, node-sized, kept-sized, counters-sized, content_was}

module _ (rows : Rows) (inode : ℕ) (was : NodeRow) (c : Counters) (now length : ℕ) (whole : Whole rows)
    (there : node_row_at rows inode ≡ Some was) (file : was.kind ≡ 1) (counters : counters_at rows ≡ Some c) where
  abbrev middle : Rows
  middle = sized_rows rows inode was c now length whole there file counters

  quiet : Quiet rows middle
  quiet = quiet-sized rows inode was c now length whole there file counters

  -- Lists, slices and dead slices have changed after it: other files show what they showed, this one nothing from its length on.
  pub record ListsChange (more : ℕ) (last : Rows) : Type 0 where
    pub beside : Beside middle last
    pub rest : (key : RowKey) → is_of_slices key.tab ≡ false → get last key ≡ get middle key
    pub go : SlicesGo more middle last
    pub others : (i : ℕ) → i ≢ inode → (p : ℕ) → place_in (lists_of last i) p ≡ place_in (lists_of rows i) p
    pub past : (p : ℕ) → length ≤ p → place_in (lists_of last inode) p ≡ Zero
    pub lists : (key : RowKey) → key.tab ≡ TABLE_OF_LISTS → get last key ≢ None → (get rows key ≢ None) ⊎ (key.a ≡ inode)

  module _ (small : length ≤ FILE_END) (given : 0 < next_slice rows) (more : ℕ) (last : Rows) (l : ListsChange more last) where
    node_then : (i : ℕ) → node_row_at last i ≡ node_row_at middle i
    node_then i = ap (λ o. node_in (row_in o)) (l.rest (node_key i) refl)

    node_beside : (i : ℕ) → i ≢ inode → node_row_at last i ≡ node_row_at rows i
    node_beside i apart = node_then i ∙ ap (λ o. node_in (row_in o)) (kept-sized rows inode was c now length whole there file counters (node_key i)
        (λ same. apart (ap (λ (k : RowKey). k.a) same)) (other_tab (node_key i) counters_key refl))

    dropped_then : (i : ℕ) → dropped_at last i ≡ dropped_at rows i
    dropped_then i = ap (λ o. dropped_in (row_in o)) (l.rest (dropped_key i) refl ∙ kept-sized rows inode was c now length whole there file counters (dropped_key i)
        (other_tab (dropped_key i) (node_key inode) refl) (other_tab (dropped_key i) counters_key refl))

    next_then : (counters_of_rows last).inode ≡ (counters_of_rows rows).inode
    next_then = ap (λ o. (or_no_counters (counters_in (row_in o))).inode) (l.rest counters_key refl)
        ∙ ap (λ o. (or_no_counters o).inode) (counters-sized rows inode was c now length whole there file counters)
        ∙ sym (ap (λ o. (or_no_counters o).inode) counters)

    file_goes : FileGoes inode rows last
    file_goes = record {
      was = was;
      before = there;
      file = file;
      node = sized rows inode was c now length whole there file counters;
      is = node_then inode ∙ node-sized rows inode was c now length whole there file counters;
      stays = file;
      small = small;
      own = l.past;
      others = node_beside;
      places = l.others;
      lists = l.lists;
      dropped = dropped_then;
      next = next_then;
    }

    slices_middle : WholeSlices middle
    slices_middle = quiet-slices rows middle quiet whole.slices

    pub node-changed : node_row_at last inode ≡ Some (sized rows inode was c now length whole there file counters)
    node-changed = node_then inode ∙ node-sized rows inode was c now length whole there file counters

    pub whole-changed : Whole last
    whole-changed = whole-formed last
        (formed-beside middle last (formed-sized rows inode was c now length whole there file counters) l.beside)
        (slices-go more middle last l.go slices_middle (subst (λ n. 0 < n) (sym quiet.next) given))
        (files-go inode rows last file_goes whole.files)

    pub others-changed : KeepsOthers 0 more rows last
    others-changed = keeps-stay_then 0 more rows middle last quiet.apart quiet.next (keeps-go more middle last l.go)

  -- ---- what is shown

  module _ (more : ℕ) (last : Rows) (l : ListsChange more last) (known_bytes : KnownBytes) where
    abbrev t : Tree
    t = tree_with known_bytes rows

    abbrev places : ℕ → Spot
    places = place_in (lists_of rows inode)

    abbrev content : Content
    content = content_of was.length (bytes_of known_bytes rows inode)

    past_was : (p : ℕ) → was.length ≤ p → places p ≡ Zero
    past_was = whole.files.past inode was there file

    truncated_is : truncated t now inode length ≡ with_content t now inode (resized content length)
    truncated_is = ap (λ o. elim o as (λ _. Tree) [ None ↦ t | Some old ↦ with_content t now inode (resized old length) ])
        (content_was rows inode was c now length whole there file counters (bytes_of known_bytes rows))

    -- a file that is cut
    pub tree-cut : ((p : ℕ) → place_in (lists_of last inode) p ≡ cut_at places length p) → tree_with known_bytes last ≡ truncated t now inode length
    tree-cut shows = tree-changed rows inode was c now length whole there file counters last l.beside known_bytes (resized content length) refl l.others l.past
        (λ p. ap (spot_byte known_bytes) (shows p) ∙ byte-cut known_bytes was.length places past_was length p) ∙ sym truncated_is

    -- a file with a range of a file, as that was
    pub tree-copied : (other : ℕ) (source : ℕ → Spot) → ((p : ℕ) → other ≤ p → source p ≡ Zero) → (from to len : ℕ) → max was.length (to + len) ≡ length
        → ((p : ℕ) → place_in (lists_of last inode) p ≡ put_over places to len (λ k. source (from + k)) p)
        → tree_with known_bytes last ≡ with_content t now inode (copied_over (content_of other (λ p. spot_byte known_bytes (source p))) from content to len)
    tree-copied other source ends from to len long shows =
        tree-changed rows inode was c now length whole there file counters last l.beside known_bytes
        (copied_over (content_of other (λ p. spot_byte known_bytes (source p))) from content to len) long l.others l.past
        (λ p. ap (spot_byte known_bytes) (shows p) ∙ byte-copied known_bytes was.length places past_was other source ends from to len p)
