-- Places as numbers, and what the tests on a pending byte say of them.
use Rattle.std.proofs.Common.{◌≡◌, ℕ, ◌<◌, true, false, ◌⊎◌, inl, inr, ⊎_elim, arith}
use Rattle.std.proofs.lemmas.Bool.{cases_order}
use Rattle.std.proofs.lemmas.Bool.Decides.{nat_tests}
use Rattle.jv_model.specs.declared.limits.TheConstants.{FILE_END}
use Rattle.jv_model.specs.promise.client.Pending.{PendingByte, stands_at, comes_before}
use Rattle.jv_pending.specs.Runs.{place}

abbrev pub byte_place : PendingByte → ℕ
byte_place b = place b.inode b.position

pub same_place : (i f j q : ℕ) → f < FILE_END → q < FILE_END → place j q ≡ place i f → (j ≡ i) × (q ≡ f)
same_place i f j q hf hq e = (omega arith, omega arith)

pub later_place : (i f j q : ℕ) → q < FILE_END → place i f < place j q → (i < j) ⊎ ((i ≡ j) × (f < q))
later_place i f j q hq h = ⊎_elim (λ e. inr (e, omega arith)) (λ s. ⊎_elim (λ l. inl l) (λ g. absurd (omega arith)) s) (cases_order i j)

pub stands_here : (i f : ℕ) (b : PendingByte) → b.position < FILE_END → f < FILE_END → byte_place b ≡ place i f → stands_at i f b ≡ true
stands_here i f b hq hf e = let s : (b.inode ≡ i) × (b.position ≡ f) = same_place i f b.inode b.position hf hq e in grind (arith, nat_tests)

pub stands_apart : (i f : ℕ) (b : PendingByte) → (byte_place b ≡ place i f → ⊥) → stands_at i f b ≡ false
stands_apart i f b n = grind (arith, nat_tests)

pub after_true : (i f : ℕ) (b : PendingByte) → b.position < FILE_END → place i f < byte_place b → comes_before i f b ≡ true
after_true i f b hq h = let s : (i < b.inode) ⊎ ((i ≡ b.inode) × (f < b.position)) = later_place i f b.inode b.position hq h in grind (arith, nat_tests)

pub after_false : (i f : ℕ) (b : PendingByte) → f < FILE_END → byte_place b < place i f → comes_before i f b ≡ false
after_false i f b hf h = let n : i < b.inode → ⊥ = λ l. omega arith in let m : i ≡ b.inode → b.position < f = λ e. omega arith in grind (arith, nat_tests)
