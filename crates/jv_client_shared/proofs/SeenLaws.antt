-- Laws of what a look at a window keeps: it shows the file's bytes, stays while others go on, and reads as the file did.
use Rattle.std.proofs.Common.{◌≡◌, ◌≢◌, ℕ, zero, suc, ◌+◌, ◌*◌, ◌<◌, ◌≤◌, ◌^◌, Bool, true, false, inl, inr, List, [], ◌∷◌, Option, None, Some, refl, sym, ap, subst, ◌∙◌, arith}
use Rattle.std.specs.Prelude.{nat_lt, ◌==◌, if◌then◌else◌, Contains}
use Rattle.std.specs.List.{AllByRecursion}
use Rattle.std.specs.Option.{option_map}
use Rattle.std.proofs.lemmas.Bool.{cases_lt, lt-ltb}
use Rattle.std.proofs.lemmas.List.Elements.{All-contains, All-contains_itself, All-from_recursion, recursion_from_All}
use Rattle.jv_model.specs.declared.limits.TheConstants.{WINDOW}
use Rattle.jv_model.specs.declared.row.RowKey.{RowKey}
use Rattle.jv_model.specs.declared.row.Node.{Node as NodeRow}
use Rattle.jv_model.specs.declared.slice.Rec.{Rec}
use Rattle.jv_model.specs.declared.slice.BlockId.{BlockId}
use Rattle.jv_model.specs.promise.FiniteMap.{get}
use Rattle.jv_model.specs.promise.rows.RowPlaces.{list_key}
use Rattle.jv_model.specs.promise.blocks.Slices.{IsRecord, block_at, block_count, stored_place}
use Rattle.jv_model.specs.promise.journal.Reading.{bytes_from}
use Rattle.jv_model.specs.promise.tree.Tree.{Content, Kind, File, Directory, Symlink, content_at}
use Rattle.jv_model.specs.promise.tree.Tree.{content_in}
use Rattle.jv_model.specs.promise.tree.Changes.{content_of}
use Rattle.jv_volume.specs.promise.TypedRows.{Rows}
use Rattle.jv_volume.specs.promise.Views.{row_in, records_in, lists_of, node_row_at}
use Rattle.jv_volume.specs.promise.TreeOf.{node_of_row}
use Rattle.jv_volume.specs.promise.Slices.{listed, next_slice, WholeSlices}
use Rattle.jv_volume.proofs.stored.TreeOfLaws.{node_at-tree_of}
use Rattle.jv_volume_bytes.specs.promise.Blocks.{EachBlock, EachOfSlice, HasBlocks, IsThere, known_by}
use Rattle.jv_volume_bytes.specs.promise.Bytes.{KnownBytes, spot_byte, bytes_of, tree_with}
use Rattle.jv_volume_bytes.proofs.BlockLaws.{named_has_row}
use Rattle.jv_volume_bytes.proofs.PlaceLaws.{place_in-window}
use Rattle.jv_volume_bytes.proofs.WholeLaws.{all-mapped}
use Rattle.jv_client_shared.specs.promise.Shared.{AreSized, Known}
use Rattle.jv_client_shared.specs.Seen.{IsFound, ShowsWindow}

-- ---- a look

-- a file of a tree of rows has the bytes that are known of it
pub byte_looked : (known_bytes : KnownBytes) (rows : Rows) (inode : ℕ) (content : Content) → content_at (tree_with known_bytes rows) inode ≡ Some content
    → (p : ℕ) → p < content.length → content.byte p ≡ bytes_of known_bytes rows inode p
byte_looked known_bytes rows inode content is p low =
    by_row (node_row_at rows inode) (sym (ap content_in (node_at-tree_of (bytes_of known_bytes rows) rows inode)) ∙ is)
  where
    in_kind : Kind → Option Content
    in_kind kind = elim kind as (λ _. Option Content) [ File c ↦ Some c | Directory parent ↦ None | Symlink target ↦ None ]

    by_kind : (row : NodeRow) (file directory : Bool)
        → in_kind (if file then File (content_of row.length (bytes_of known_bytes rows inode)) else if directory then Directory row.parent else Symlink row.target) ≡ Some content
        → content.byte p ≡ bytes_of known_bytes rows inode p
    by_kind row true directory e =
        let same : content_of row.length (bytes_of known_bytes rows inode) ≡ content = cc in
        let long : row.length ≡ content.length = ap (λ (c : Content). c.length) same in
        sym (ap (λ (c : Content). c.byte p) same) ∙ ap (λ b. if b then bytes_of known_bytes rows inode p else 0) (lt-ltb p row.length (omega (arith, low, long)))
    by_kind row false true e = absurd (cc)
    by_kind row false false e = absurd (cc)

    by_row : (o : Option NodeRow) → content_in (option_map (node_of_row (bytes_of known_bytes rows inode)) o) ≡ Some content → content.byte p ≡ bytes_of known_bytes rows inode p
    by_row None e = absurd (cc)
    by_row (Some row) e = by_kind row (row.kind == 1) (row.kind == 2) e

module _ (rows : Rows) where
  -- what holds of the records of each list holds of those of a file's window
  pub each_listed : (P : Rec → Type 0) → ((key : RowKey) (r : Rec) → Contains (listed key (get rows key)) r → P r) → (inode window : ℕ)
      → AllByRecursion P (lists_of rows inode window)
  unfolding lists_of
  each_listed P each inode window = by_test (nat_lt window (2 ^ 32))
    where
      list : List Rec
      list = listed (list_key inode window) (get rows (list_key inode window))

      by_test : (b : Bool) → AllByRecursion P (if b then records_in (row_in (get rows (list_key inode window))) else [])
      by_test true =
          all-mapped (Contains list) P (each (list_key inode window)) list (recursion_from_All (Contains list) list (All-contains_itself list))
      by_test false = tt

  -- what holds of all blocks of slices with rows holds of those that a list's records name
  pub listed_each : (P : BlockId → Type 0) (block : ℕ) → WholeSlices rows → EachBlock P block rows
      → (key : RowKey) (r : Rec) → Contains (listed key (get rows key)) r → r.id ≢ 0 → EachOfSlice P block r.id r.size
  listed_each P block w each key r among named =
      let row = named_has_row rows w key r among named in
      subst (λ n. EachOfSlice P block r.id n) row.size_is (each r.id row.slice row.is)

module _ (block : ℕ) (rows : Rows) (g : Known) (w : WholeSlices rows) (sized : AreSized g.sizes rows) (has : HasBlocks block rows g.blocks) where
  -- what the records of a list name is found
  found : (key : RowKey) (r : Rec) → Contains (listed key (get rows key)) r → IsFound block rows g r
  found key r among = record {
    record_is = All-contains IsRecord list r (All-from_recursion IsRecord list (w.records key)) among;
    numbered = λ named. (let row = named_has_row rows w key r among named in elim (cases_lt r.id (next_slice rows)) [
      | inl low ↦ low
      | inr high ↦ (let none = (w.below r.id high).no_row in let is = row.is in absurd (cc))
    ]);
    sized = All-contains HasSize list r (All-from_recursion HasSize list (sized.records key)) among;
    there = listed_each rows (IsThere g.blocks) block w has key r among;
  }
    where
      list : List Rec
      list = listed key (get rows key)

      HasSize : Rec → Type 0
      HasSize r = r.id ≢ 0 → r.size ≡ g.sizes r.id

  -- a look at a window of a file: its records show the file's bytes
  pub looked_shows : (inode window : ℕ) (content : Content) → content_at (tree_with (known_by block g.blocks) rows) inode ≡ Some content
      → ShowsWindow block rows g window content.length (lists_of rows inode window) content
  looked_shows inode window content is = record {
    long = refl;
    records = each_listed rows (IsFound block rows g) found inode window;
    bytes = λ place small low. byte_looked known_bytes rows inode content is (window * WINDOW + place) low
        ∙ ap (spot_byte known_bytes) (place_in-window (lists_of rows inode) window place small);
  }
    where
      known_bytes : KnownBytes
      known_bytes = known_by block g.blocks

-- ---- reading

-- bytes from two positions on that are the same
pub bytes_from-same : (f g : ℕ → ℕ) (a b n : ℕ) → ((k : ℕ) → k < n → f (a + k) ≡ g (b + k)) → bytes_from f a n ≡ bytes_from g b n
bytes_from-same f g a b zero same = refl
bytes_from-same f g a b (suc n) same =
    let first : f a ≡ g b = ap f (omega arith) ∙ same 0 (omega arith) ∙ ap g (omega arith) in
    let others : bytes_from f (a + 1) n ≡ bytes_from g (b + 1) n = bytes_from-same f g (a + 1) (b + 1) n (λ k low.
    ap f (omega arith) ∙ same (k + 1) (omega (arith, low)) ∙ ap g (omega arith)) in
    λ i. first i ∷ others i

module _ (block : ℕ) (rows : Rows) (g : Known) (window length : ℕ) (list : List Rec) (content : Content)
    (shows : ShowsWindow block rows g window length list content) where
  -- a part of the window reads as the file did
  pub window_reads : (from n : ℕ) → from + n ≤ WINDOW → window * WINDOW + from + n ≤ length
      → bytes_from (λ q. spot_byte (known_by block g.blocks) (stored_place list q)) from n ≡ bytes_from content.byte (window * WINDOW + from) n
  window_reads from n inside within =
      bytes_from-same (λ q. spot_byte (known_by block g.blocks) (stored_place list q)) content.byte from (window * WINDOW + from) n
      (λ k low. sym (shows.bytes (from + k) (omega (arith, low, inside)) (omega (arith, low, within))) ∙ ap content.byte (omega arith))

  -- what a record names is found
  pub record_found : (r : Rec) → Contains list r → IsFound block rows g r
  record_found r among = All-contains (IsFound block rows g) list r (All-from_recursion (IsFound block rows g) list shows.records) among

  -- a block of a slice that a record names is known
  pub named_there : (b : BlockId) (r : Rec) → Contains list r → 0 < r.id → b.index < block_count r.size block → b ≡ block_at r.id r.size block b.index
      → IsThere g.blocks b
  named_there b r among some low is = subst (IsThere g.blocks) (sym is) ((record_found r among).there (λ none. absurd (omega (arith, none, some))) b.index low)
