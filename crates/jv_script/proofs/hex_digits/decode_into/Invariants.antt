use Rattle.std.proofs.Common.{◌≡◌, ℕ, ◌<◌, get_or}
use Rattle.jv_script.proofs.DigitLaws.{byte_at}
use Rattle.jv_script.proofs.hex_digits.decode_into.Given as goal

-- the bytes written so far are those of their digits
abbrev pub invariant-loop-i : goal.invariant-loop-i
invariant-loop-i l = (k : ℕ) → k < l.i → get_or l.bytes k 0 ≡ byte_at l.digits k
