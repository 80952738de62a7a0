-- A run of a drawn script isn't ended by one of its lines, outside writeback mode.
use Rattle.std.proofs.Common.{◌≡◌, ◌≢◌, ℕ, ◌+◌, ◌≤◌, false, List, [], ◌∷◌, ◌++◌, length, map, Option, Some, ap, sym, ◌∙◌, arith}
use Rattle.std.proofs.lemmas.Bool.{false≢true}
use Rattle.std.proofs.lemmas.List.{length-append, length-map}
use Rattle.jv_model.specs.declared.basics.Limits.{Limits}
use Rattle.jv_model.specs.declared.fault.Device.{Device}
use Rattle.jv_model.specs.declared.limits.TheConstants.{MAX_LINES}
use Rattle.jv_model.specs.declared.op.Op.{Op}
use Rattle.jv_model.specs.declared.op.Line.{Line}
use Rattle.jv_model.specs.promise.script.Grammar.{line_of}
use Rattle.jv_script_drawn.specs.declared.accesses.TheConstants.{ACCESSES, FILES}
use Rattle.jv_script_drawn.specs.promise.Script.{on_client, operations, script}
use Rattle.jv_script_drawn.proofs.ScriptLaws.{script_length}
use Rattle.jv_outside.specs.promise.Stream.{Stream}
use Rattle.jv_client.specs.promise.Built.{is_built_line}
use Rattle.jv_cmd.specs.declared.ended.Ended.{Ended}
use Rattle.jv_cmd.specs.declared.ended.Ended.TheVariants.{LineNotRun, Succeeded}
use Rattle.jv_cmd.specs.promise.Ends.{status_of}
use Rattle.jv_cmd.specs.promise.Generating.{PrintsSummary, SumsUp, script_text, with_streams}
use Rattle.jv_cmd.specs.promise.Run.{BeginWith, IsNotRun, LineUnbuilt, NoLine, Off, OneTooMany, RunsLines, TooLong}
use Rattle.jv_cmd.specs.promise.Stages.{StageValue}
use Rattle.jv_cmd.specs.promise.Texts.{texts_of}
use Rattle.jv_cmd.proofs.drawn_scripts.DrawnLineLaws.{IsRunnable, bare}
use Rattle.jv_cmd.proofs.drawn_scripts.DrawnScriptLaws.{each_read, script_runs, text_runs, texts_of_script}

same_length : (texts : List (List ℕ)) (lines : List Line) → map line_of texts ≡ map Some lines
    → length texts ≡ length lines
same_length texts lines each = sym (length-map texts line_of) ∙ ap length each ∙ length-map lines Some

-- a text of a script and those before it are few
few_texts : (seed : ℕ) (earlier more : List (List ℕ)) (text : List ℕ) (lines : List Line)
    → texts_of (script_text seed) ≡ (earlier ++ text ∷ []) ++ more → map line_of earlier ≡ map Some lines
    → length lines + 1 ≤ MAX_LINES
few_texts seed earlier more text lines e each =
    omega (
      arith,
      ap length e,
      same_length (texts_of (script_text seed)) (script seed) (each_read seed),
      script_length seed,
      same_length earlier lines each,
      length-append (earlier ++ text ∷ []) more,
      length-append earlier (text ∷ []),
    )

-- the text of an operation that runs is no reason to stop
runs_on : (limits : Limits) (number : ℕ) (op : Op) (text : List ℕ) → IsRunnable op → bare op ≡ text
    → limits.writeback ≡ false → number ≤ MAX_LINES → IsNotRun limits number text → ⊥
runs_on limits number op text runs same direct few (OneTooMany past) = omega (arith, few, past)
runs_on limits number op text runs same direct few (TooLong long) = omega (arith, long, runs.short, ap length same)
runs_on limits number op text runs same direct few (Off (NoLine none)) = (let read = runs.read in cc)
runs_on limits number op text runs same direct few (Off (LineUnbuilt line read off)) =
    let is : Some line ≡ Some (on_client op) = sym read ∙ ap line_of (sym same) ∙ runs.read in
    let line_is : line ≡ on_client op = cc in
    false≢true (sym off ∙ ap (is_built_line limits) line_is ∙ runs.built limits direct)

pub never_off : (limits : Limits) (seed number : ℕ) (earlier : List (List ℕ)) (text : List ℕ) (lines : List Line)
    → limits.writeback ≡ false → map line_of earlier ≡ map Some lines → number ≡ length lines + 1
    → BeginWith (Some (script_text seed)) (earlier ++ text ∷ []) → IsNotRun limits number text → ⊥
never_off limits seed number earlier text lines direct each after next off =
    let (more, e) = next.known in
    let ops = operations FILES ACCESSES seed in
    let (op, runs, same) = text_runs ops earlier more text (script_runs seed) (sym (texts_of_script seed) ∙ e) in
    let few : number ≤ MAX_LINES = omega (arith, after, few_texts seed earlier more text lines e each) in
    runs_on limits number op text runs same direct few off

-- how the lines of a drawn script ended
lines_run : (seed : ℕ) (answers : Device → ℕ) (before after : StageValue) (taken : Option (List ℕ)) (ran : Ended)
    → RunsLines answers (with_streams (Some (script_text seed)) taken before) after ran
    → before.limits.writeback ≡ false → status_of ran ≢ 3
lines_run seed answers before after taken (LineNotRun number) runs direct =
    let stops = runs.cause in
    absurd (never_off before.limits seed number runs.texts stops.text runs.lines direct runs.read.each stops.after_lines
    stops.next stops.off)
lines_run seed answers before after taken ran runs direct = λ same. absurd (omega (arith, same))

summed_up : (seed : ℕ) (said : Option (List ℕ)) (before after : Stream) (ended : Ended)
    → SumsUp seed said before after ended → status_of ended ≢ 3
summed_up seed said before after (LineNotRun number) sums = absurd sums
summed_up seed said before after ended sums = λ same. absurd (omega (arith, same))

-- how the run ended
pub drawn_runs : (seed : ℕ) (answers : Device → ℕ) (before after : StageValue) (left said : Option (List ℕ))
    (ran ended : Ended)
    → RunsLines answers (with_streams (Some (script_text seed)) (Some []) before) (with_streams left said after) ran
    → PrintsSummary seed said before.out after.out ran ended → before.limits.writeback ≡ false → status_of ended ≢ 3
drawn_runs seed answers before after left said Succeeded ended runs prints direct =
    summed_up seed said before.out after.out ended prints
drawn_runs seed answers before after left said ran ended runs prints direct =
    let stays = lines_run seed answers before (with_streams left said after) (Some []) ran runs direct in
    λ same. stays (sym (ap status_of prints.0) ∙ same)
