-- Laws of a few overlaps and of those among them that are of one block.
use Rattle.std.proofs.Common.{◌≡◌, ℕ, zero, suc, ◌+◌, ◌<◌, Bool, true, false, cond, List, [], ◌∷◌, ◌++◌, length, take, get_or, Option, None, Some, refl, sym, ap, ◌∙◌, subst, arith}
use Rattle.std.specs.Prelude.{◌&&◌, ◌==◌, All}
use Rattle.std.specs.List.{cons_option}
use Rattle.std.proofs.lemmas.List.{append-nil, take_more}
use Rattle.std.proofs.lemmas.List.Elements.{All-head, All-tail, filter_map-append}
use Rattle.jv_model.specs.declared.slice.BlockId.{BlockId}
use Rattle.jv_model.specs.blocks.Slices.{is_same_block}
use Rattle.jv_slices.proofs.ListingLaws.{and_assoc}
use Rattle.jv_slices_reading.specs.declared.copying.Overlap.{Overlap}
use Rattle.jv_slices_reading.specs.declared.copying.Shown.{Shown}
use Rattle.jv_slices_reading.specs.Copies.{IsCopied}
use Rattle.jv_slices_reading.specs.Overlaps.{overlaps_in, shown_of, with_overlap}
use Rattle.jv_slices_reading.proofs.CopyLaws.{copied_push}

-- blocks are equal in each field if and only if they are the same
pub same_if_equal : (a b : BlockId) → ((a.id == b.id) && ((a.index == b.index) && (a.size == b.size))) ≡ is_same_block a b
same_if_equal a b = and_assoc (a.id == b.id) (a.index == b.index) (a.size == b.size)

-- one more, at the end
pub few_more : (few : List Shown) (shown : Shown) (b : BlockId) → overlaps_in (few ++ shown ∷ []) b ≡ with_overlap (overlaps_in few) shown.block shown.overlap b
few_more few shown b = filter_map-append (shown_of b) few (shown ∷ []) ∙ go (is_same_block shown.block b)
  where
    go : (same : Bool) → overlaps_in few b ++ cons_option (cond same (Some shown.overlap) None) [] ≡ cond same (overlaps_in few b ++ shown.overlap ∷ []) (overlaps_in few b)
    go true = refl
    go false = append-nil (overlaps_in few b)

-- what each overlap of a block has, one of them has
pub own_has : (P : Overlap → Type 0) (few : List Shown) (i : ℕ) (d : Shown) (b : BlockId) → i < length few → is_same_block (get_or few i d).block b ≡ true → All P (overlaps_in few b) → P (get_or few i d).overlap
own_has P [] i d b below same all = absurd (omega (arith, below))
own_has P (x ∷ xs) zero d b below same all =
    All-head P x.overlap (overlaps_in xs b)
    (subst (λ (o : Option Overlap). All P (cons_option o (overlaps_in xs b))) (ap (λ (s : Bool). let o : Option Overlap = cond s (Some x.overlap) None in o) same) all)
own_has P (x ∷ xs) (suc i) d b below same all = own_has P xs i d b (omega (arith, below)) same (later (shown_of b x) all)
  where
    later : (o : Option Overlap) → All P (cons_option o (overlaps_in xs b)) → All P (overlaps_in xs b)
    later None h = h
    later (Some o) h = All-tail P o (overlaps_in xs b) h

module _ (few : List Shown) (i : ℕ) (d : Shown) (b : BlockId) (inside : i < length few) where
  next_is : (same : Bool) → is_same_block (get_or few i d).block b ≡ same
      → overlaps_in (take (i + 1) few) b ≡ cond same (overlaps_in (take i few) b ++ (get_or few i d).overlap ∷ []) (overlaps_in (take i few) b)
  next_is same e =
      ap (λ (xs : List Shown). overlaps_in xs b) (take_more few i d inside) ∙ few_more (take i few) (get_or few i d) b
      ∙ ap (λ (s : Bool). cond s (overlaps_in (take i few) b ++ (get_or few i d).overlap ∷ []) (overlaps_in (take i few) b)) e

  -- the next one is copied, if it is of the block
  pub copied_own : (byte : ℕ → ℕ) (before now after : List ℕ) → is_same_block (get_or few i d).block b ≡ true → length now ≡ length before
      → IsCopied byte (overlaps_in (take i few) b) before now → IsCopied byte ((get_or few i d).overlap ∷ []) now after → IsCopied byte (overlaps_in (take (i + 1) few) b) before after
  copied_own byte before now after same long first more =
      subst (λ (os : List Overlap). IsCopied byte os before after) (sym (next_is true same))
      (copied_push byte (overlaps_in (take i few) b) (get_or few i d).overlap before now after long first more)

  pub copied_other : (byte : ℕ → ℕ) (before now : List ℕ) → is_same_block (get_or few i d).block b ≡ false
      → IsCopied byte (overlaps_in (take i few) b) before now → IsCopied byte (overlaps_in (take (i + 1) few) b) before now
  copied_other byte before now other first =
      subst (λ (os : List Overlap). IsCopied byte os before now) (sym (next_is false other)) first
