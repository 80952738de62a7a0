use Rattle.std.proofs.Common.{◌≡◌, ℕ, length, take}
use Rattle.std.specs.Prelude.{All}
use Rattle.jv_slices_reading.specs.Copies.{HasBytes, IsCopied}
use Rattle.jv_slices_reading.specs.Overlaps.{overlaps_in}
use Rattle.jv_slices_reading.proofs.copying.copy_few.Given as goal

abbrev pub invariant-loop-shown : goal.invariant-loop-shown
invariant-loop-shown l = record {
  long : length l.bytes ≡ length l.initial.bytes;
  copied : (byte : ℕ → ℕ) → All (HasBytes byte l.block) (overlaps_in l.few l.id) → IsCopied byte (overlaps_in (take l.shown-index l.few) l.id) l.initial.bytes l.bytes;
}
