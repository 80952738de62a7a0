-- The bytes of a file after a commit, a truncate and a copy are those that the model has.
use Rattle.std.proofs.Common.{◌≡◌, ◌≢◌, ℕ, ◌+◌, ◌-◌, ◌<◌, ◌≤◌, Bool, true, false, cond, List, length, inl, inr, refl, sym, ap, ◌∙◌, arith}
use Rattle.std.specs.Prelude.{nat_le, nat_lt, ◌&&◌, slice_index}
use Rattle.std.proofs.lemmas.Bool.{and_parts, and_right, leb-true, ltb-true, cases_lt, cond-true, cond-false, lt-ltb, le-ltb, ne_eqb}
use Rattle.jv_model.specs.declared.slice.Rec.{Rec}
use Rattle.jv_model.specs.declared.slice.Spot.{Spot}
use Rattle.jv_model.specs.declared.slice.Spot.TheVariants.{Zero, Slice}
use Rattle.jv_model.specs.promise.tree.Tree.{Content}
use Rattle.jv_model.specs.promise.tree.Changes.{byte_within, resized, patched, overwritten, copied_over, content_of}
use Rattle.jv_model.specs.promise.blocks.Slices.{shown}
use Rattle.jv_volume_bytes.specs.Places.{put_over, cut_at}
use Rattle.jv_volume_bytes.specs.promise.Bytes.{KnownBytes, spot_byte}

-- what a record of a slice shows
pub shown-slice : (r : Rec) (k : ℕ) → r.id ≢ 0 → shown r k ≡ Slice r.id r.size (r.off + k)
shown-slice r k named = cond-false _ _ _ (ne_eqb r.id 0 named)

-- and what it shows that begins with its slice
pub shown-whole : (r : Rec) (k : ℕ) → r.id ≢ 0 → r.off ≡ 0 → shown r k ≡ Slice r.id r.size k
shown-whole r k named first = shown-slice r k named ∙ ap (Slice r.id r.size) (omega (arith, first))

module _ (known_bytes : KnownBytes) where
  -- the content of a file of a length with bytes at these places
  abbrev pub content_at_places : ℕ → (ℕ → Spot) → Content
  content_at_places length places = content_of length (λ p. spot_byte known_bytes (places p))

  -- A file with other bytes at a range, which lie at these places. It shows nothing past its length.
  pub byte-at_place : (size : ℕ) (places : ℕ → Spot) → ((p : ℕ) → size ≤ p → places p ≡ Zero)
      → (p : ℕ) → byte_within (content_at_places size places) p ≡ spot_byte known_bytes (places p)
  byte-at_place size places past p = elim (cases_lt p size) [
    | inl low ↦ cond-true _ _ _ (lt-ltb p size low) ∙ cond-true _ _ _ (lt-ltb p size low)
    | inr high ↦ cond-false _ _ _ (le-ltb p size high) ∙ ap (spot_byte known_bytes) (sym (past p high))
  ]

  module _ (size : ℕ) (places : ℕ → Spot) (past : (p : ℕ) → size ≤ p → places p ≡ Zero) where
    -- bytes known of other places over a range are the bytes that are put there
    pub byte-patched : (from len : ℕ) (new : ℕ → Spot) (byte : ℕ → ℕ) → ((k : ℕ) → k < len → spot_byte known_bytes (new k) ≡ byte k)
        → (p : ℕ) → spot_byte known_bytes (put_over places from len new p) ≡ (patched (content_at_places size places) from len byte).byte p
    byte-patched from len new byte is p = go (nat_le from p && nat_lt p (from + len)) refl
      where
        go : (b : Bool) → (nat_le from p && nat_lt p (from + len)) ≡ b
            → spot_byte known_bytes (cond b (new (p - from)) (places p)) ≡ cond b (byte (p - from)) (byte_within (content_at_places size places) p)
        go true e =
            let both = and_parts (nat_le from p) (nat_lt p (from + len)) e in
            is (p - from) (omega (arith, leb-true from p both.0, ltb-true p (from + len) both.1))
        go false e = sym (byte-at_place size places past p)

    -- a commit
    pub byte-committed : (from : ℕ) (bytes : List ℕ) (new : ℕ → Spot)
        → ((k : ℕ) → k < length bytes → spot_byte known_bytes (new k) ≡ slice_index bytes k)
        → (p : ℕ) → spot_byte known_bytes (put_over places from (length bytes) new p) ≡ (overwritten (content_at_places size places) from bytes).byte p
    byte-committed from bytes new is p = byte-patched from (length bytes) new (slice_index bytes) is p

    -- the commit of a record that begins with its slice, of which the bytes are known
    pub byte-committed_record : (from : ℕ) (bytes : List ℕ) (r : Rec) → r.id ≢ 0 → r.off ≡ 0 → r.len ≡ length bytes
        → ((k : ℕ) → k < length bytes → known_bytes r.id r.size k ≡ slice_index bytes k)
        → (p : ℕ) → spot_byte known_bytes (put_over places from r.len (shown r) p) ≡ (overwritten (content_at_places size places) from bytes).byte p
    byte-committed_record from bytes r named first long is p =
        ap (λ n. spot_byte known_bytes (put_over places from n (shown r) p)) long
        ∙ byte-committed from bytes (shown r) (λ k low. ap (spot_byte known_bytes) (shown-whole r k named first) ∙ is k low) p

    -- a truncate
    pub byte-cut : (len p : ℕ) → spot_byte known_bytes (cut_at places len p) ≡ (resized (content_at_places size places) len).byte p
    byte-cut len p = go (nat_lt p len)
      where
        go : (b : Bool) → spot_byte known_bytes (cond b (places p) Zero) ≡ cond b (byte_within (content_at_places size places) p) 0
        go true = sym (byte-at_place size places past p)
        go false = refl

    -- a truncate to a greater length, or the same, leaves the places
    pub byte-grown : (len : ℕ) → size ≤ len → (p : ℕ) → spot_byte known_bytes (places p) ≡ (resized (content_at_places size places) len).byte p
    byte-grown len longer p = elim (cases_lt p len) [
      | inl low ↦ sym (cond-true _ _ _ (lt-ltb p len low) ∙ byte-at_place size places past p)
      | inr high ↦ ap (spot_byte known_bytes) (past p (omega (arith, high, longer))) ∙ sym (cond-false _ _ _ (le-ltb p len high))
    ]

    -- a copy of places of a file, or of the same
    pub byte-copied : (other : ℕ) (source : ℕ → Spot) → ((p : ℕ) → other ≤ p → source p ≡ Zero) → (from to len p : ℕ)
        → spot_byte known_bytes (put_over places to len (λ k. source (from + k)) p)
        ≡ (copied_over (content_at_places other source) from (content_at_places size places) to len).byte p
    byte-copied other source ends from to len p =
        byte-patched to len (λ k. source (from + k)) (λ k. byte_within (content_at_places other source) (from + k))
        (λ k low. sym (byte-at_place other source ends (from + k))) p

-- ---- nothing shows past a file's new length

module _ (size : ℕ) (places : ℕ → Spot) (past : (p : ℕ) → size ≤ p → places p ≡ Zero) where
  pub past-put_over : (from len : ℕ) (new : ℕ → Spot) (end : ℕ) → size ≤ end → from + len ≤ end
      → (p : ℕ) → end ≤ p → put_over places from len new p ≡ Zero
  past-put_over from len new end longer within p high = cond-false _ _ _ (outside p high) ∙ past p (omega (arith, high, longer))
    where
      outside : (p : ℕ) → end ≤ p → (nat_le from p && nat_lt p (from + len)) ≡ false
      outside p high = and_right _ _ (le-ltb p (from + len) (omega (arith, high, within)))

pub past-cut : (places : ℕ → Spot) (len p : ℕ) → len ≤ p → cut_at places len p ≡ Zero
past-cut places len p high = cond-false _ _ _ (le-ltb p len high)
