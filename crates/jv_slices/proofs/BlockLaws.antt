-- Laws of blocks.
use Rattle.std.proofs.Common.{◌≡◌, ℕ, suc, zero, ◌+◌, ◌-◌, ◌*◌, ◌/◌, ◌<◌, ◌≤◌, min, sym, ap, ◌∙◌, arith, sum, map, fold, add-zero, ⊎_elim}
use Rattle.std.specs.List.{range_with_len}
use Rattle.std.proofs.lemmas.Nat.{div-add-mod', mod_below, le-div, mul-le}
use Rattle.std.proofs.lemmas.Bool.{cases_lt}
use Rattle.std.proofs.Math.Nat.{add-mul-div_right}
use Rattle.jv_model.specs.declared.limits.TheConstants.{WINDOW, MIN_BLOCK, MAX_BLOCKS}
use Rattle.jv_model.specs.promise.blocks.Slices.{block_count, block_length}
use Rattle.jv_model.specs.blocks.Slices.{block_lengths}

-- the index of a place's block is below the number of blocks
pub index_below : (size block place index : ℕ) → 0 < block → place < size → index ≤ place / block → index < block_count size block
index_below size block place index some inside low =
    let whole : (place / block + 1) * block ≤ size + (block - 1) = omega (arith, div-add-mod' place block) in
    omega (arith, low, le-div (place / block + 1) (size + (block - 1)) block some whole)

-- a block that there is begins in the slice
pub block_begins : (size block index : ℕ) → 0 < block → index < block_count size block → index * block < size
block_begins size block index some below =
    let n = size + (block - 1) in
    omega (arith, div-add-mod' n block, mul-le (index + 1) block (n / block) block (omega arith) (omega arith))

-- what blocks in a row reach, after those before them
pub sum_from : (size block n k before : ℕ) → before ≡ min size (k * block) → fold (λ (a x : ℕ). a + x) before (map (block_length size block) (range_with_len k n)) ≡ min size ((k + n) * block)
sum_from size block zero k before e = e ∙ ap (λ x. min size (x * block)) (sym (add-zero k))
sum_from size block (suc n) k before e =
    sum_from size block n (k + 1) (before + block_length size block k) (omega (arith, e)) ∙ ap (λ x. min size (x * block)) (omega arith)

pub lengths_add_up : (size block : ℕ) → 0 < block → sum (block_lengths size block) ≡ size
lengths_add_up size block some =
    let n = size + (block - 1) in
    let whole : min size ((0 + n / block) * block) ≡ size = omega (arith, div-add-mod' n block, mod_below n block some) in
    sum_from size block (block_count size block) 0 0 (omega arith) ∙ whole

-- of two places the later one isn't in an earlier block
pub div_rises : (a b block : ℕ) → 0 < block → a ≤ b → a / block ≤ b / block
div_rises a b block some low = le-div (a / block) b block some (omega (arith, low, div-add-mod' a block))

-- `n` places further on are at most `n` blocks
pub div_few : (a n block : ℕ) → 0 < block → (a + n) / block ≤ a / block + n
div_few a n block some =
    let more : a + n ≤ a + n * block = omega (arith, mul-le n 1 n block (omega arith) some) in
    omega (arith, div_rises (a + n) (a + n * block) block some more, add-mul-div_right a n some)

-- a place of a window is in one of its blocks
pub index_low : (place index block : ℕ) → MIN_BLOCK ≤ block → place < WINDOW → index ≤ place / block → index < MAX_BLOCKS
index_low place index block wide inside low =
    ⊎_elim (λ (below : place / block < MAX_BLOCKS). omega (arith, low, below))
    (λ (above : MAX_BLOCKS ≤ place / block). absurd (omega (arith, inside, div-add-mod' place block, mul-le MAX_BLOCKS MIN_BLOCK (place / block) block above wide))) (cases_lt (place / block) MAX_BLOCKS)
