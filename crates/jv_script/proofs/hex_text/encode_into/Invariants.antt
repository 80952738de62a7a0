use Rattle.std.proofs.Common.{◌<◌, ℕ}
use Rattle.jv_script.proofs.HexTextLaws.{HasPair}
use Rattle.jv_script.proofs.hex_text.encode_into.Given as goal

-- the digits written so far are those of their bytes
abbrev pub invariant-loop-i : goal.invariant-loop-i
invariant-loop-i l = (k : ℕ) → k < l.i → HasPair l.bytes l.digits k
