-- What holds of scripts and of totals.
use Rattle.std.specs.Prelude.{◌≡◌, ℕ, ◌^◌, ◌<◌, ◌≤◌, List, length, count_by, sum_by, sum, not}
use Rattle.jv_model.specs.declared.op.Op.{Op}
use Rattle.jv_model.specs.declared.op.Op.TheVariants.{Read, Write}
use Rattle.jv_model.specs.declared.op.Reply.{Reply}
use Rattle.jv_model.specs.promise.journal.State.{is_refused}
use Rattle.jv_model.specs.promise.Counts.{saturated}
use Rattle.jv_script_drawn.specs.declared.accesses.TheConstants.{FILES, LINES, MAX_LENGTH, POSITIONS}
use Rattle.jv_script_drawn.specs.promise.Script.{access, script}
use Rattle.jv_script_drawn.specs.promise.Summary.{TotalsValue, read_bytes, totals_of}

-- how many lines a script has
abbrev pub ScriptsHaveLines : Type 0
ScriptsHaveLines = (seed : ℕ) → length (script seed) ≡ LINES

-- reads and writes at least one byte of one of the files, from a position below POSITIONS on
pub record IsAccess (handle position size : ℕ) : Type 0 where
  pub opened : 0 < handle
  pub file : handle ≤ FILES
  pub begins : position < POSITIONS
  pub some : 0 < size
  pub short : size ≤ MAX_LENGTH

abbrev pub IsAccessOp : Op → Type 0
IsAccessOp (Read handle position size) = IsAccess handle position size
IsAccessOp (Write handle position bytes) = IsAccess handle position (length bytes)
IsAccessOp _ = ⊥

abbrev pub AccessesFit : Type 0
AccessesFit = (number x : ℕ) → x < 2 ^ 64 → IsAccessOp (access number x)

-- each total is a sum over all answers, which saturates
pub record AreSums (t : TotalsValue) (replies : List Reply) : Type 0 where
  pub lines : t.lines ≡ saturated (length replies)
  pub ok : t.ok ≡ saturated (count_by (λ r. not (is_refused r)) replies)
  pub err : t.err ≡ saturated (count_by is_refused replies)
  pub bytes : t.bytes ≡ saturated (sum_by (λ r. length (read_bytes r)) replies)
  pub values : t.values ≡ saturated (sum_by (λ r. sum (read_bytes r)) replies)

abbrev pub TotalsAreSums : Type 0
TotalsAreSums = (replies : List Reply) → AreSums (totals_of replies) replies
