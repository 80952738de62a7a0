-- Rows that differ in lists, slices and dead slices alone have the same tree; so have those whose counts have followed.
use Rattle.std.proofs.Common.{◌≡◌, ℕ, ◌^◌, Bool, true, false, inl, inr, List, [], Option, None, Some, Ok, option_map, refl, sym, ap, subst, ◌∙◌}
use Rattle.std.specs.Prelude.{◌==◌, ◌&&◌, ◌||◌, if◌then◌else◌}
use Rattle.std.proofs.lemmas.Bool.{cases_lt, or_parts, eqb-true, and_parts}
use Rattle.jv_model.specs.declared.tables.TheConstants.{TABLE_OF_SLICES, TABLE_OF_DEAD}
use Rattle.jv_model.specs.declared.row.RowKey.{RowKey}
use Rattle.jv_model.specs.declared.row.Row.TheVariants.{OfSlice, OfDead}
use Rattle.jv_model.specs.declared.slice.Rec.{Rec}
use Rattle.jv_model.specs.promise.FiniteMap.{get}
use Rattle.jv_model.specs.promise.rows.RowPlaces.{setting_key, counters_key, node_key, edge_key, session_key, sustained_key, slice_key, dead_key}
use Rattle.jv_model.specs.promise.tree.Tree.{SustainedFile}
use Rattle.jv_model.proofs.FiniteMapLaws.{same_maps}
use Rattle.jv_model.proofs.TestLaws.{nil_is}
use Rattle.jv_model.specs.promise.Lists.{is_nil}
use Rattle.jv_rows.specs.Counts.{is_named, recounted, Recounted, is_of_slice, Adjusted}
use Rattle.jv_volume.specs.promise.TypedRows.{Cell, Rows}
use Rattle.jv_volume.specs.promise.Views.{row_in, setting_in, counters_in, node_in, edge_in, session_in, sustained_in}
use Rattle.jv_volume.specs.promise.TreeOf.{tree_of, node_of_row, session_of_row, or_no_setting, or_no_counters}
use Rattle.jv_volume.specs.promise.Slices.{records_naming}
use Rattle.jv_volume.specs.promise.Stored.{Stored}
use Rattle.jv_volume.specs.promise.Whole.{IsRowAt}
use Rattle.jv_volume.proofs.maps.SeenLaws.{AreRows, row-put}
use Rattle.jv_volume.proofs.stored.StoredStepLaws.{NodeKept, EdgeKept, CellKept, stored-goes}
use Rattle.jv_volume.proofs.stored.TreeOfLaws.{is_unseen, node_at-tree_of, get-entries, get-sessions, get-sustained, get-sustained-none}
use Rattle.jv_volume_bytes.proofs.CountLaws.{others-adjusted}
use Rattle.jv_data.proofs.files.BesideLaws.{Beside}

module _ (rows after : Rows) (same : (key : RowKey) → is_unseen key.tab ≡ false → get after key ≡ get rows key) (bytes : ℕ → ℕ → ℕ) where
  sustained_same : (q : SustainedFile) → get (tree_of bytes after).sustained q ≡ get (tree_of bytes rows).sustained q
  sustained_same q = elim (cases_lt q.inode (2 ^ 64)) [
    | inl less ↦ get-sustained bytes after q.sid q.inode less ∙ ap (λ c. if sustained_in (row_in c) then Some tt else None) (same (sustained_key q.sid q.inode) refl)
        ∙ sym (get-sustained bytes rows q.sid q.inode less)
    | inr more ↦ get-sustained-none bytes after q.sid q.inode more ∙ sym (get-sustained-none bytes rows q.sid q.inode more)
  ]

  pub tree_of-same : tree_of bytes after ≡ tree_of bytes rows
  unfolding tree_of
  tree_of-same = λ i. record {
    setting = or_no_setting (setting_in (row_in (same setting_key refl i)));
    nodes = same_maps (tree_of bytes after).nodes (tree_of bytes rows).nodes (λ q. node_at-tree_of bytes after q
        ∙ ap (λ c. option_map (node_of_row (bytes q)) (node_in (row_in c))) (same (node_key q) refl) ∙ sym (node_at-tree_of bytes rows q)) i;
    entries = same_maps (tree_of bytes after).entries (tree_of bytes rows).entries (λ q. get-entries bytes after q
        ∙ ap (λ c. option_map (λ edge. edge.inode) (edge_in (row_in c))) (same (edge_key q.dir q.name) refl) ∙ sym (get-entries bytes rows q)) i;
    sessions = same_maps (tree_of bytes after).sessions (tree_of bytes rows).sessions (λ q. get-sessions bytes after q
        ∙ ap (λ c. option_map session_of_row (session_in (row_in c))) (same (session_key q) refl) ∙ sym (get-sessions bytes rows q)) i;
    sustained = same_maps (tree_of bytes after).sustained (tree_of bytes rows).sustained sustained_same i;
    next_inode = (or_no_counters (counters_in (row_in (same counters_key refl i)))).inode;
    next_session = (or_no_counters (counters_in (row_in (same counters_key refl i)))).session;
  }

  pub stored-same : Stored rows (tree_of bytes rows) → Stored after (tree_of bytes after)
  stored-same s = stored-goes bytes rows after (tree_of bytes rows) s.slice s (record {
    tree = tree_of-same;
    setting = same setting_key refl;
    same_setting = refl;
    counters = same counters_key refl ∙ s.counters;
    node = λ k. NodeKept (same (node_key k) refl) refl;
    edge = λ at. EdgeKept (same (edge_key at.dir at.name) refl) (λ i e. refl);
    session = λ k. CellKept (same (session_key k) refl);
    sustained = λ k i less. CellKept (same (sustained_key k i) refl);
  })

-- ---- counts have followed

module _ (gone added : List Rec) (due : ℕ) (rows after : Rows) (a : Adjusted gone added due rows after) where
  seen_same : (key : RowKey) → is_unseen key.tab ≡ false → get after key ≡ get rows key
  seen_same key seen =
      let t = key.tab in
      let p = or_parts (t == 4) ((t == 5) || ((t == 8) || (t == 9))) seen in
      let q = or_parts (t == 5) ((t == 8) || (t == 9)) p.1 in
      let r = or_parts (t == 8) (t == 9) q.1 in
      others-adjusted gone added due rows after a key q.0 r.1

  row_cell : (id size n : ℕ) (x : Cell) (b : Bool) → (if b then None else Some (Ok (OfSlice (record { size = size; count = n })))) ≡ Some x → IsRowAt (slice_key id) x
  row_cell id size n x true = λ e. absurd (cc)
  row_cell id size n x false = row-put (slice_key id) (Ok (OfSlice (record { size = size; count = n }))) x (record { key_is = refl; cell_is = refl; hour = refl })

  died_cell : (id size : ℕ) (before : Option Cell) (x : Cell) (b : Bool) → (before ≡ Some x → IsRowAt (dead_key id) x)
      → (if b then Some (Ok (OfDead (record { size = size; due = due }))) else before) ≡ Some x → IsRowAt (dead_key id) x
  died_cell id size before x true was = row-put (dead_key id) (Ok (OfDead (record { size = size; due = due }))) x (record { key_is = refl; cell_is = refl; hour = refl })
  died_cell id size before x false was = was

  named_cell : AreRows rows → (tab id : ℕ) (b : List ℕ) (x : Cell) → get after (record { tab = tab; a = id; b = b }) ≡ Some x
      → ((tab == TABLE_OF_SLICES) || (tab == TABLE_OF_DEAD)) ≡ true → b ≡ [] → Recounted id (records_naming id gone) (records_naming id added) due rows after
      → IsRowAt (record { tab = tab; a = id; b = b }) x
  named_cell all tab id b x e tabs none r = by_tab (tab == TABLE_OF_SLICES) refl
    where
      count : ℕ
      count = recounted r.slice.count (records_naming id gone) (records_naming id added)

      as_slice : tab ≡ TABLE_OF_SLICES → IsRowAt (record { tab = tab; a = id; b = b }) x
      as_slice is =
          let key : ◌≡◌ {A = RowKey} (record { tab = tab; a = id; b = b }) (slice_key id) = (λ i. record { tab = is i; a = id; b = none i }) in
          subst (λ (k : RowKey). IsRowAt k x) (sym key) (row_cell id r.slice.size count x (count == 0) (sym r.row ∙ ap (get after) (sym key) ∙ e))

      as_dead : tab ≡ TABLE_OF_DEAD → IsRowAt (record { tab = tab; a = id; b = b }) x
      as_dead is =
          let key : ◌≡◌ {A = RowKey} (record { tab = tab; a = id; b = b }) (dead_key id) = (λ i. record { tab = is i; a = id; b = none i }) in
          subst (λ (k : RowKey). IsRowAt k x) (sym key)
          (died_cell id r.slice.size (get rows (dead_key id)) x (count == 0) (all (dead_key id) x) (sym r.dead ∙ ap (get after) (sym key) ∙ e))

      by_tab : (c : Bool) → (tab == TABLE_OF_SLICES) ≡ c → IsRowAt (record { tab = tab; a = id; b = b }) x
      by_tab true is = as_slice (eqb-true tab TABLE_OF_SLICES is)
      by_tab false is = as_dead (eqb-true tab TABLE_OF_DEAD (sym (ap (λ c. c || (tab == TABLE_OF_DEAD)) is) ∙ tabs))

  cells-adjusted : AreRows rows → AreRows after
  cells-adjusted all key x e = by_named (is_of_slice (is_named gone added) key) refl
    where
      by_named : (c : Bool) → is_of_slice (is_named gone added) key ≡ c → IsRowAt key x
      by_named false n = all key x (sym (a.others key n) ∙ e)
      by_named true n =
          let p = and_parts (((key.tab == TABLE_OF_SLICES) || (key.tab == TABLE_OF_DEAD)) && is_nil key.b) (is_named gone added key.a) n in
          let q = and_parts ((key.tab == TABLE_OF_SLICES) || (key.tab == TABLE_OF_DEAD)) (is_nil key.b) p.0 in
          named_cell all key.tab key.a key.b x e q.0 (nil_is key.b q.1) (a.named key.a p.1)

  pub beside-adjusted : Beside rows after
  beside-adjusted = record { tree = tree_of-same rows after seen_same; stored = stored-same rows after seen_same; cells = cells-adjusted }
