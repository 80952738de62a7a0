-- What a session is whose script is drawn from a seed: one that reads the script's text, but that
-- prints a summary in place of answers.
use Rattle.std.specs.Prelude.{◌≡◌, ◌≢◌, ℕ, Bool, false, ◌==◌, if◌then◌else◌, List, [], ◌∷◌, ◌++◌, length, drop, Option, None, Some, unwrap_or, IsSomeAnd, codes, decimal}
use Rattle.std.specs.List.{flat_map}
use Rattle.jv_model.specs.declared.fault.Device.{Device}
use Rattle.jv_model.specs.declared.fault.Fault.TheVariants.{NotFound}
use Rattle.jv_model.specs.declared.op.Op.{Op}
use Rattle.jv_model.specs.declared.op.Op.TheVariants.{Mount, Create, Read, Write, Flush}
use Rattle.jv_model.specs.declared.op.Line.{Line}
use Rattle.jv_model.specs.declared.op.Line.TheVariants.{Do}
use Rattle.jv_model.specs.declared.op.Reply.{Reply}
use Rattle.jv_model.specs.declared.op.Reply.TheVariants.{Refused, Data, Done}
use Rattle.jv_model.specs.promise.script.Grammar.{data_of}
use Rattle.jv_model.specs.promise.script.Printed.{hex_pair, number_word}
use Rattle.jv_model.specs.promise.script.ReplyText.{mode_digits}
use Rattle.jv_model.specs.promise.client.OpForms.{is_read}
use Rattle.jv_outside.specs.promise.Stream.{Stream, HasAll, IsCut}
use Rattle.jv_script_drawn.specs.promise.Script.{script}
use Rattle.jv_script_drawn.specs.promise.Summary.{summary_line, totals_of}
use Rattle.jv_cmd.specs.declared.ended.Ended.{Ended}
use Rattle.jv_cmd.specs.declared.ended.Ended.TheVariants.{Succeeded, OutFailed, OutOfMemory}
use Rattle.jv_cmd.specs.promise.Ends.{status_of}
use Rattle.jv_cmd.specs.promise.Run.{RunsLines}
use Rattle.jv_cmd.specs.promise.Stages.{StageValue}
use Rattle.jv_cmd.specs.promise.Texts.{texts_of}
use Rattle.jv_outside.specs.promise.InMemory.{never_failing}

-- the script as text

-- the bytes of a write, all of which are the first one: `HHxN`
abbrev pub repeated_text : List ℕ → List ℕ
repeated_text [] = codes "-"
repeated_text (byte ∷ bytes) = hex_pair byte ++ 120 ∷ decimal (length (byte ∷ bytes))

abbrev pub words_of_create : List ℕ → ℕ → List ℕ
words_of_create path mode = codes "create " ++ path ++ 32 ∷ mode_digits mode

abbrev pub words_of_read : ℕ → ℕ → ℕ → List ℕ
words_of_read handle position size =
    codes "read" ++ number_word handle ++ number_word position ++ number_word size

abbrev pub words_of_write : ℕ → ℕ → List ℕ → List ℕ
words_of_write handle position bytes =
    codes "write" ++ number_word handle ++ number_word position ++ 32 ∷ repeated_text bytes

-- an operation of a kind that a drawn script has
unfoldable pub operation_text : Op → List ℕ
operation_text (Mount writeback) = codes "mount"
operation_text (Create path mode) = words_of_create path mode
operation_text (Read handle position size) = words_of_read handle position size
operation_text (Write handle position bytes) = words_of_write handle position bytes
operation_text (Flush handle) = codes "flush" ++ number_word handle
operation_text _ = []

-- a line of client A, with its line feed
unfoldable pub line_text : Line → List ℕ
line_text (Do client operation) = codes "A " ++ operation_text operation ++ 10 ∷ []
line_text _ = []

unfoldable pub script_text : ℕ → List ℕ
script_text seed = flat_map line_text (script seed)

-- the summary of answers
-- the bytes that the DATA of an answer spells
abbrev pub spelled_bytes : List ℕ → List ℕ
spelled_bytes digits = unwrap_or (data_of digits) []

abbrev pub is_read_line : Line → Bool
is_read_line (Do client operation) = is_read operation
is_read_line _ = false

-- an answer begins with `ok` or with `err`
abbrev pub begins_with_o : List ℕ → Bool
begins_with_o [] = false
begins_with_o (first ∷ _) = first == 111

-- what totals count of a line's answer: a refusal, whichever it is, the bytes of a read, or that
-- the line was done
unfoldable pub reply_said : Line → List ℕ → Reply
reply_said line answer = (if begins_with_o answer
    then (if is_read_line line then Data (spelled_bytes (drop 3 answer)) else Done)
    else Refused NotFound)

-- the answers to lines, one each
abbrev pub replies_said : List Line → List (List ℕ) → List Reply
replies_said [] answers = []
replies_said (line ∷ lines) [] = []
replies_said (line ∷ lines) (answer ∷ answers) = reply_said line answer ∷ replies_said lines answers

-- the summary of what the script of a seed prints
unfoldable pub summary_of : ℕ → List ℕ → List ℕ
summary_of seed said = summary_line (totals_of (replies_said (script seed) (texts_of said)))

-- the run
-- a stage whose source has these bytes left, and whose out has taken those
abbrev pub with_streams : Option (List ℕ) → Option (List ℕ) → StageValue → StageValue
with_streams left taken stage =
    record stage { source = never_failing left; out = never_failing taken }

-- The summary of a whole run was printed, or out failed after a proper prefix of it, or there was
-- no memory for what the lines print or for the summary, and nothing was printed.
abbrev pub SumsUp : ℕ → Option (List ℕ) → Stream → Stream → Ended → Type 0
SumsUp seed said before after Succeeded =
    IsSomeAnd said (λ text. HasAll before after (summary_of seed text))
SumsUp seed said before after OutFailed =
    IsSomeAnd said (λ text. IsCut before after (summary_of seed text))
SumsUp seed said before after OutOfMemory = after ≡ before
SumsUp seed said before after _ = ⊥

-- A run that ended before its last line prints nothing.
abbrev pub PrintsSummary : ℕ → Option (List ℕ) → Stream → Stream → Ended → Ended → Type 0
PrintsSummary seed said before after Succeeded ended = SumsUp seed said before after ended
PrintsSummary seed said before after ran ended = (ended ≡ ran) × (after ≡ before)

-- The lines ran as those of a source with the script's text, and printed `said` where out would
-- keep it. The source wasn't used. Outside writeback mode none of the lines ends the run.
pub record RunsDrawn (seed : ℕ) (answers : Device → ℕ) (before after : StageValue)
    (ended : Ended) : Type 0 where
  pub ran : Ended
  pub left : Option (List ℕ)
  pub said : Option (List ℕ)
  pub runs : RunsLines answers (with_streams (Some (script_text seed)) (Some []) before)
      (with_streams left said after) ran
  pub prints : PrintsSummary seed said before.out after.out ran ended
  pub source : after.source ≡ before.source
  pub none_off : before.limits.writeback ≡ false → status_of ended ≢ 3

-- the script of a seed, or else of the source
abbrev pub RunsScript : Option ℕ → (Device → ℕ) → StageValue → StageValue → Ended → Type 0
RunsScript None answers before after ended = RunsLines answers before after ended
RunsScript (Some seed) answers before after ended = RunsDrawn seed answers before after ended
