-- A volume that was just formatted, over a keeper without rows, is one that a session may start on.
use Rattle.std.proofs.Common.{◌≡◌, ℕ, ◌^◌, ◌<◌, Bool, true, false, List, [], ◌∷◌, None, Some, Ok, inl, inr, refl, sym, ap, subst, ◌∙◌, arith}
use Rattle.std.specs.Prelude.{◌&&◌, if◌then◌else◌, is_some, IsTrue}
use Rattle.std.specs.Option.{option_map}
use Rattle.jv_model.specs.declared.limits.TheConstants.{ROOT, TRASH_ROOT, FULL_MODE, READ_ONLY_MODE}
use Rattle.jv_model.specs.declared.row.RowKey.{RowKey}
use Rattle.jv_model.specs.declared.row.Row.TheVariants.{OfSetting, OfCounters, OfNode}
use Rattle.jv_model.specs.declared.setting.Setting.{Setting}
use Rattle.jv_model.specs.declared.slice.BlockId.{BlockId}
use Rattle.jv_model.specs.promise.FiniteMap.{empty_map, get, insert, map_of, text_key}
use Rattle.jv_model.specs.promise.rows.RowGrammar.{is_node, is_setting, setting_bytes, counters_bytes, node_bytes, row_of}
use Rattle.jv_model.specs.promise.rows.RowKeys.{row_key, RowMap}
use Rattle.jv_model.specs.promise.rows.RowPlaces.{setting_key, counters_key, node_key, slice_key}
use Rattle.jv_model.proofs.FiniteMapLaws.{get-empty_map, same_maps}
use Rattle.jv_model.proofs.TreeComputeLaws.{maps_compute}
use Rattle.jv_model.specs.promise.blocks.BlockNames.{name_in}
use Rattle.jv_outside.specs.promise.Blocks.{StagedMap, staged_at, staged_key}
use Rattle.jv_outside.specs.promise.Holding.{Holding}
use Rattle.jv_outside.specs.promise.Objects.{ObjectMap, bytes_at}
use Rattle.jv_outside.specs.promise.Rows.{applied}
use Rattle.jv_volume.specs.promise.TypedRows.{Cell, Rows, typed}
use Rattle.jv_volume.specs.promise.Views.{row_in, setting_at, setting_in, slice_in, slice_row_at}
use Rattle.jv_volume.specs.promise.Whole.{Whole}
use Rattle.jv_volume.proofs.whole.FreshWholeLaws.{first_rows, whole-first_rows}
use Rattle.jv_volume.proofs.maps.TypedLaws.{typed-insert-row}
use Rattle.jv_volume.proofs.maps.WrittenRowsLaws.{none_at}
use Rattle.jv_volume.specs.promise.Fresh.{fresh_counters, fresh_directory}
use Rattle.jv_rows.specs.promise.FreshRows.{fresh_rows}
use Rattle.jv_rows.specs.RoundTrips.{SettingWidths}
use Rattle.jv_rows.proofs.grammars.ExactRowLaws.{setting_exact, counters_exact, node_exact}
use Rattle.jv_volume_bytes.specs.promise.Blocks.{HasBlocks}
use Rattle.jv_yard.specs.promise.Contents.{blocks_in}
use Rattle.jv_model.specs.promise.blocks.BlockNames.{is_block}
use Rattle.jv_yard.specs.promise.Staging.{staged_since}
use Rattle.jv_yard.specs.promise.Starting.{IsStarted}
use Rattle.jv_yard.proofs.CallLaws.{KeepsStaged-started}
use Rattle.jv_client_shared.specs.promise.Shared.{Shared, staged_in}
use Rattle.jv_client_shared.specs.promise.WholeVolume.{IsCopy, WholeVolume}

-- the rows that `format` puts, over none
abbrev pub formatted : Setting → ℕ → RowMap
formatted setting at = applied (fresh_rows setting at) empty_map

none_object : (name : List ℕ) → bytes_at name empty_map ≡ None
none_object name = ap (λ object. option_map (λ (o : List ℕ × ℕ). o.0) object) (get-empty_map text_key name)

none_staged : (client : ℕ) (name : List ℕ) → staged_at client name empty_map ≡ None
none_staged client name = get-empty_map staged_key (client, name)

-- four rows, the first put first
abbrev four : Cell → Cell → Cell → Cell → Rows
four setting counters root trash = insert (insert (insert
    (insert empty_map setting_key setting) counters_key counters) (node_key ROOT) root) (node_key TRASH_ROOT) trash

-- in whichever order they are put
four_rows : (setting counters root trash : Cell) → four setting counters root trash
    ≡ map_of {order = row_key} ((setting_key, setting) ∷ (counters_key, counters) ∷ (node_key ROOT, root) ∷
    (node_key TRASH_ROOT, trash) ∷ [])
unfolding insert get
four_rows setting counters root trash = same_maps _ _ (λ q. refl)

typed_none : typed empty_map ≡ empty_map
unfolding typed
typed_none = refl

module _ (setting : Setting) (at : ℕ) (widths : SettingWidths setting) (allowed : IsTrue (is_setting setting))
    (less : at < 2 ^ 64) where
  setting_read : row_of setting_key.tab (setting_bytes setting) ≡ Some (OfSetting setting)
  unfolding row_of
  setting_read = ap (λ o. option_map OfSetting o) (setting_exact.again setting widths allowed)

  counters_read : row_of counters_key.tab (counters_bytes fresh_counters) ≡ Some (OfCounters fresh_counters)
  unfolding row_of
  counters_read = ap (λ o. option_map OfCounters o) (counters_exact.again fresh_counters (record {
    inode = omega arith;
    slice = omega arith;
    session = omega arith;
    used_space = omega arith;
    used_inodes = omega arith;
  }) refl)

  directory_read : (inode mode : ℕ) → mode < 2 ^ 16 → IsTrue (is_node (fresh_directory mode at))
      → row_of (node_key inode).tab (node_bytes (fresh_directory mode at)) ≡ Some (OfNode (fresh_directory mode at))
  unfolding row_of
  directory_read inode mode few is = ap (λ o. option_map OfNode o) (node_exact.again (fresh_directory mode at) (record {
    kind = omega arith;
    mode = few;
    uid = omega arith;
    gid = omega arith;
    nlink = omega arith;
    mtime = less;
    ctime = less;
    length = omega arith;
    parent = omega arith;
    target = λ i. omega arith;
  }) is)

  abbrev entries : List (RowKey × Cell)
  entries = (setting_key, Ok (OfSetting setting)) ∷ (counters_key, Ok (OfCounters fresh_counters))
      ∷ (node_key ROOT, Ok (OfNode (fresh_directory FULL_MODE at))) ∷
      (node_key TRASH_ROOT, Ok (OfNode (fresh_directory READ_ONLY_MODE at))) ∷ []

  -- after each put
  abbrev first : RowMap
  first = insert empty_map setting_key (setting_bytes setting)

  abbrev second : RowMap
  second = insert first counters_key (counters_bytes fresh_counters)

  abbrev third : RowMap
  third = insert second (node_key ROOT) (node_bytes (fresh_directory FULL_MODE at))

  typed_first : typed first ≡ insert empty_map setting_key (Ok (OfSetting setting))
  typed_first = typed-insert-row empty_map setting_key (setting_bytes setting) (OfSetting setting) setting_read
      ∙ ap (λ m. insert m setting_key (Ok (OfSetting setting))) typed_none

  typed_second : typed second ≡ insert (insert empty_map setting_key (Ok (OfSetting setting))) counters_key
      (Ok (OfCounters fresh_counters))
  typed_second = typed-insert-row first counters_key (counters_bytes fresh_counters)
      (OfCounters fresh_counters) counters_read
      ∙ ap (λ m. insert m counters_key (Ok (OfCounters fresh_counters))) typed_first

  typed_third : typed third ≡ insert (insert (insert empty_map setting_key (Ok (OfSetting setting))) counters_key
      (Ok (OfCounters fresh_counters)))
      (node_key ROOT) (Ok (OfNode (fresh_directory FULL_MODE at)))
  typed_third =
      typed-insert-row second (node_key ROOT) (node_bytes (fresh_directory FULL_MODE at))
      (OfNode (fresh_directory FULL_MODE at)) (directory_read ROOT FULL_MODE (omega arith) refl)
      ∙ ap (λ m. insert m (node_key ROOT) (Ok (OfNode (fresh_directory FULL_MODE at)))) typed_second

  typed_formatted : typed (formatted setting at) ≡ first_rows setting at
  typed_formatted =
      typed-insert-row third (node_key TRASH_ROOT) (node_bytes (fresh_directory READ_ONLY_MODE at))
      (OfNode (fresh_directory READ_ONLY_MODE at)) (directory_read TRASH_ROOT READ_ONLY_MODE (omega arith) refl)
      ∙ ap (λ m. insert m (node_key TRASH_ROOT) (Ok (OfNode (fresh_directory READ_ONLY_MODE at)))) typed_third
      ∙ four_rows (Ok (OfSetting setting)) (Ok (OfCounters fresh_counters))
      (Ok (OfNode (fresh_directory FULL_MODE at))) (Ok (OfNode (fresh_directory READ_ONLY_MODE at)))

  setting_first : get (first_rows setting at) setting_key ≡ Some (Ok (OfSetting setting))
  unfolding maps_compute
  setting_first = refl

  setting_formatted : setting_at (typed (formatted setting at)) ≡ Some setting
  setting_formatted = ap (λ (rows : Rows). setting_in (row_in (get rows setting_key))) typed_formatted
      ∙ ap (λ cell. setting_in (row_in cell)) setting_first

  -- no slice has a row
  no_slices : (id : ℕ) → slice_row_at (typed (formatted setting at)) id ≡ None
  no_slices id = ap (λ (rows : Rows). slice_row_at rows id) typed_formatted
      ∙ ap (λ cell. slice_in (row_in cell)) (none_at 5 (slice_key id) entries refl tt)

  -- over an object store and a local disk without content
  module _ (v : Shared) (depot : Holding ObjectMap) (shelf : Holding StagedMap) (started : IsStarted setting depot shelf v.yard)
      (rows : v.keeper.rows ≡ Some (formatted setting at)) (objects : depot.content ≡ Some empty_map)
      (staged : shelf.content ≡ Some empty_map) where
    no_block : (block : Setting) (b : BlockId) (bytes : List ℕ) → blocks_in block empty_map b ≡ Some bytes → ⊥
    no_block block b bytes is = by_test (is_block block.block b) is
      where
        by_test : (test : Bool) → (if test then bytes_at (name_in block b) empty_map else None) ≡ Some bytes → ⊥
        by_test true e = absurd (let none = none_object (name_in block b) in cc)
        by_test false e = absurd (cc)

    no_staged : (client : ℕ) (b : BlockId) (bytes : List ℕ) → staged_in v.yard empty_map client b ≡ Some bytes → ⊥
    no_staged client b bytes is = by_test (is_block v.yard.setting.block b && is_some (staged_since client (name_in v.yard.setting b) v.yard.staged)) is
      where
        by_test : (test : Bool) → (if test then staged_at client (name_in v.yard.setting b) empty_map else None) ≡ Some bytes → ⊥
        by_test true e = absurd (let none = none_staged client (name_in v.yard.setting b) in cc)
        by_test false e = absurd (cc)

    no_copy : (b : BlockId) (bytes : List ℕ) → IsCopy (blocks_in v.yard.setting empty_map) (staged_in v.yard empty_map) b bytes → ⊥
    no_copy b bytes (inl object) = no_block v.yard.setting b bytes object
    no_copy b bytes (inr staged) = no_staged staged.0 b bytes staged.1

    -- the depot has all of no blocks
    all_there : HasBlocks v.yard.setting.block (typed (formatted setting at)) (blocks_in v.yard.setting empty_map)
    all_there id slice is index low = absurd (let none = no_slices id in cc)

    whole : WholeVolume v
    whole = record {
      rows = formatted setting at;
      rows_are = rows;
      whole = subst Whole (sym typed_formatted) (whole-first_rows setting at);
      setting = setting_formatted ∙ ap Some (sym started.setting_is);
      objects = empty_map;
      objects_are = ap (λ (d : Holding ObjectMap). d.content) started.depot_same ∙ objects;
      staged = empty_map;
      staged_are = ap (λ (h : Holding StagedMap). h.content) started.shelf_same ∙ staged;
      there = λ id slice is index low. absurd (let none = no_slices id in cc);
      kept = KeepsStaged-started setting depot shelf v.yard started;
      alike = λ b one other first second. absurd (no_copy b one first);
      below = λ b bytes is. absurd (no_block v.yard.setting b bytes is);
      staged_below = λ client b bytes is. absurd (no_staged client b bytes is);
    }

    pub WholeVolume-formatted : (volume : WholeVolume v)
        × HasBlocks v.yard.setting.block (typed volume.rows) (blocks_in v.yard.setting volume.objects)
    unfolding whole insert
    WholeVolume-formatted = (whole, all_there)
