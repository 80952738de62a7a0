use Rattle.std.proofs.Common.{◌≡◌, ◌==◌, ◌<◌, ℕ, true, get_or}
use Rattle.jv_script.proofs.word_cuts.place_of.Given as goal

-- the byte was not met
abbrev pub invariant-loop-i : goal.invariant-loop-i
invariant-loop-i l = (k : ℕ) → k < l.i → (get_or l.text k 0 == l.byte) ≡ true → ⊥
