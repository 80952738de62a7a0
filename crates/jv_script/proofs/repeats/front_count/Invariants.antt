use Rattle.std.proofs.Common.{◌≡◌, ◌≢◌, ℕ, ◌<◌, ◌≤◌, true, false, get_or}
use Rattle.jv_script.proofs.repeats.front_count.Given as goal

abbrev pub invariant-loop-next : goal.invariant-loop-next
invariant-loop-next l = record {
  within : l.count ≤ l.next-index;
  each : (k : ℕ) → k < l.count → get_or l.bytes k 0 ≡ l.byte;
  all : l.same ≡ true → l.count ≡ l.next-index;
  ended : l.same ≡ false → l.count < l.next-index;
  other : l.same ≡ false → get_or l.bytes l.count 0 ≢ l.byte;
}
