use Rattle.std.proofs.Common.{◌≡◌, ℕ, length, take}
use Rattle.std.specs.Prelude.{All}
use Rattle.jv_slices_reading.specs.Copies.{HasBytes, IsCopied}
use Rattle.jv_slices_reading.proofs.copying.copy_overlaps.Given as goal

abbrev pub invariant-loop-overlap : goal.invariant-loop-overlap
invariant-loop-overlap l = record {
  long : length l.bytes ≡ length l.initial.bytes;
  copied : (byte : ℕ → ℕ) → All (HasBytes byte l.block) l.overlaps → IsCopied byte (take l.overlap-index l.overlaps) l.initial.bytes l.bytes;
}
