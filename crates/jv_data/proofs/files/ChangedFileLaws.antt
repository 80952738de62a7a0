-- A file of another length whose lists have changed: the tree that is left is the model's, with the content that its lists show.
use Rattle.std.proofs.Common.{◌≡◌, ◌≢◌, ℕ, ◌≤◌, inl, inr, Some, sym, ap, ◌∙◌}
use Rattle.std.specs.Prelude.{nat_lt, if◌then◌else◌}
use Rattle.std.proofs.lemmas.Bool.{cases_lt, cond-true, cond-false, lt-ltb, le-ltb}
use Rattle.jv_model.specs.declared.row.Counters.{Counters}
use Rattle.jv_model.specs.declared.row.Node.{Node as NodeRow}
use Rattle.jv_model.specs.declared.slice.Spot.TheVariants.{Zero}
use Rattle.jv_model.specs.promise.tree.Tree.{Content}
use Rattle.jv_model.specs.promise.tree.Changes.{with_content}
use Rattle.jv_volume.specs.promise.TypedRows.{Rows}
use Rattle.jv_volume.specs.promise.Views.{lists_of, node_row_at, counters_at}
use Rattle.jv_volume.specs.promise.Slices.{place_in}
use Rattle.jv_volume.specs.promise.Whole.{Whole}
use Rattle.jv_volume_bytes.specs.promise.Bytes.{KnownBytes, spot_byte, bytes_of, tree_with}
use Rattle.jv_data.proofs.files.BesideLaws.{Beside}
use Rattle.jv_data.proofs.files.SizedLaws.{sized_rows, tree-content}

module _ (rows : Rows) (inode : ℕ) (was : NodeRow) (c : Counters) (now length : ℕ) (whole : Whole rows)
    (there : node_row_at rows inode ≡ Some was) (file : was.kind ≡ 1) (counters : counters_at rows ≡ Some c)
    (last : Rows) (beside : Beside (sized_rows rows inode was c now length whole there file counters) last) (known_bytes : KnownBytes) where
  pub tree-changed : (content : Content) → content.length ≡ length
      → ((i : ℕ) → i ≢ inode → (p : ℕ) → place_in (lists_of last i) p ≡ place_in (lists_of rows i) p)
      → ((p : ℕ) → length ≤ p → place_in (lists_of last inode) p ≡ Zero)
      → ((p : ℕ) → spot_byte known_bytes (place_in (lists_of last inode) p) ≡ content.byte p)
      → tree_with known_bytes last ≡ with_content (tree_with known_bytes rows) now inode content
  tree-changed content long others past own =
      beside.tree (bytes_of known_bytes last)
      ∙ tree-content rows inode was c now length whole there file counters (bytes_of known_bytes rows) content long (bytes_of known_bytes last)
      (λ i apart. λ j p. spot_byte known_bytes (others i apart p j)) own_below
    where
      own_below : (p : ℕ) → (if nat_lt p length then spot_byte known_bytes (place_in (lists_of last inode) p) else 0) ≡ content.byte p
      own_below p = elim (cases_lt p length) [
        | inl low ↦ cond-true _ _ _ (lt-ltb p length low) ∙ own p
        | inr high ↦ cond-false _ _ _ (le-ltb p length high) ∙ sym (ap (spot_byte known_bytes) (past p high)) ∙ own p
      ]
