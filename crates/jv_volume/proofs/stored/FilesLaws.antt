-- Files stay whole with a change on metadata: which of their rows may change, and how.
use Rattle.std.proofs.Common.{◌≡◌, ◌≢◌, ℕ, ◌<◌, ◌≤◌, ◌^◌, ◌/◌, ◌%◌, Bool, true, false, List, [], Option, None, Some, refl, sym, ap, subst, ◌∙◌, arith}
use Rattle.std.specs.Prelude.{◌==◌, ◌||◌, nat_lt, if◌then◌else◌}
use Rattle.jv_model.specs.declared.limits.TheConstants.{FILE_END, WINDOW}
use Rattle.jv_model.specs.declared.row.Node.{Node as NodeRow}
use Rattle.jv_model.specs.declared.slice.Rec.{Rec}
use Rattle.jv_model.specs.declared.slice.Spot.TheVariants.{Zero}
use Rattle.jv_model.specs.promise.FiniteMap.{get}
use Rattle.jv_model.specs.promise.rows.RowPlaces.{list_key}
use Rattle.jv_model.specs.promise.blocks.Slices.{stored_place}
use Rattle.jv_volume.specs.promise.TypedRows.{Cell, Rows}
use Rattle.jv_volume.specs.promise.Views.{row_in, records_in, lists_of, node_row_at, dropped_at}
use Rattle.jv_volume.specs.promise.TreeOf.{counters_of_rows}
use Rattle.jv_volume.specs.promise.Slices.{place_in, HasLists, OfFile, OfDropped, WholeFiles}
use Rattle.jv_volume.specs.Whole.{SlicesStay}
use Rattle.jv_volume.proofs.stored.QuietLaws.{lists_of-stay}

-- a list without records shows no slice anywhere
pub nothing_shows : (p : ℕ) → stored_place [] p ≡ Zero
unfolding stored_place
nothing_shows p = refl

-- an inode that was never given has no lists
pub fresh_lists : (rows : Rows) (inode window : ℕ) → WholeFiles rows → node_row_at rows inode ≡ None → (counters_of_rows rows).inode ≤ inode
    → lists_of rows inode window ≡ []
unfolding lists_of
fresh_lists rows inode window w none high = ap (λ b. if nat_lt window (2 ^ 32) then b else []) (by_cell (get rows (list_key inode window)) refl)
    ∙ either (nat_lt window (2 ^ 32))
  where
    none_has : HasLists rows inode → ⊥
    none_has (OfFile node there file) = absurd (cc)
    none_has (OfDropped there) = (let gone = w.gone inode there in absurd (omega (arith, gone.1, high)))

    by_cell : (o : Option Cell) → get rows (list_key inode window) ≡ o → records_in (row_in o) ≡ []
    by_cell None e = refl
    by_cell (Some cell) e = absurd (none_has (w.owned (list_key inode window) refl (λ gone. absurd (cc))))

    either : (b : Bool) → (let l : List Rec = (if b then [] else []) in l) ≡ []
    either true = refl
    either false = refl

-- a file after a change has the length that it had, or a greater one, or is new and has no lists
pub data FileIs (rows : Rows) (inode : ℕ) (node : NodeRow) : Type 0 where
  AsBefore : (was : NodeRow) → node_row_at rows inode ≡ Some was → was.kind ≡ 1 → node.length ≡ was.length → FileIs rows inode node
  Longer : (was : NodeRow) → node_row_at rows inode ≡ Some was → was.kind ≡ 1 → was.length ≤ node.length → node.length ≤ FILE_END → FileIs rows inode node
  IsNew : node.length ≤ FILE_END → ((window : ℕ) → lists_of rows inode window ≡ []) → FileIs rows inode node

pub record FilesGo (rows after : Rows) : Type 0 where
  pub file : (inode : ℕ) (node : NodeRow) → node_row_at after inode ≡ Some node → node.kind ≡ 1 → FileIs rows inode node
  pub owner : (inode : ℕ) (was : NodeRow) → node_row_at rows inode ≡ Some was → was.kind ≡ 1 → HasLists after inode  -- a file stays one, or is dropped
  pub dropped : (inode : ℕ) → dropped_at rows inode ≢ None → dropped_at after inode ≢ None
  pub gone : (inode : ℕ) → dropped_at after inode ≢ None → (node_row_at after inode ≡ None) × (inode < (counters_of_rows after).inode)

nothing_shown : (lists : ℕ → List Rec) (position : ℕ) → ((window : ℕ) → lists window ≡ []) → place_in lists position ≡ Zero
unfolding place_in stored_place
nothing_shown lists position none = ap (λ l. stored_place l (position % WINDOW)) (none (position / WINDOW))

module _ (rows after : Rows) (stay : SlicesStay rows after) (w : WholeFiles rows) (g : FilesGo rows after) where
  same_lists : (inode : ℕ) → lists_of after inode ≡ lists_of rows inode
  same_lists inode = λ i window. lists_of-stay rows after stay inode window i

  small_after : (inode : ℕ) (node : NodeRow) → FileIs rows inode node → node.length ≤ FILE_END
  small_after inode node (AsBefore was there file same) = subst (λ n. n ≤ FILE_END) (sym same) (w.small inode was there file)
  small_after inode node (Longer was there file longer small) = small
  small_after inode node (IsNew small none) = small

  past_after : (inode : ℕ) (node : NodeRow) (position : ℕ) → node.length ≤ position → FileIs rows inode node → place_in (lists_of after inode) position ≡ Zero
  past_after inode node position past (AsBefore was there file same) =
      ap (λ lists. place_in lists position) (same_lists inode) ∙ w.past inode was there file position (subst (λ n. n ≤ position) same past)
  past_after inode node position past (Longer was there file longer small) =
      ap (λ lists. place_in lists position) (same_lists inode) ∙ w.past inode was there file position (omega (arith, past, longer))
  past_after inode node position past (IsNew small none) = ap (λ lists. place_in lists position) (same_lists inode)
      ∙ nothing_shown (lists_of rows inode) position none

  has_lists : (inode : ℕ) → HasLists rows inode → HasLists after inode
  has_lists inode (OfFile was there file) = g.owner inode was there file
  has_lists inode (OfDropped there) = OfDropped (g.dropped inode there)

  -- files stay whole
  pub files-kept : WholeFiles after
  files-kept = record {
    small = λ inode node there file. small_after inode node (g.file inode node there file);
    past = λ inode node there file position past. past_after inode node position past (g.file inode node there file);
    owned = λ key is there. has_lists key.a (w.owned key is (λ none. there (stay key (ap (λ n. (n == 4) || (n == 5) || (n == 9)) is) ∙ none)));
    gone = g.gone;
  }
