-- The text of a drawn script is read as its lines, all of which are built outside writeback mode.
use Rattle.std.proofs.Common.{◌≡◌, ℕ, zero, suc, ◌+◌, ◌<◌, ◌≤◌, ◌^◌, false, List, [], ◌∷◌, ◌++◌, length, map, Some, Option, refl, ap, sym, ◌∙◌, arith}
use Rattle.std.specs.Prelude.{All}
use Rattle.std.specs.List.{flat_map, range_with_len}
use Rattle.std.proofs.lemmas.List.{append_assoc, append-nil}
use Rattle.std.proofs.lemmas.List.Elements.{All-append, All-cons, All-head, All-map, All-same, All-tail, All-weaker, All-nil}
use Rattle.jv_model.specs.declared.basics.Limits.{Limits}
use Rattle.jv_model.specs.declared.limits.TheConstants.{MAX_LINE, MAX_LINES}
use Rattle.jv_model.specs.declared.op.Op.{Op}
use Rattle.jv_model.specs.declared.op.Op.TheVariants.{Mount, Flush}
use Rattle.jv_model.specs.declared.op.Line.{Line}
use Rattle.jv_model.specs.promise.script.Grammar.{line_of}
use Rattle.jv_script_drawn.specs.declared.accesses.TheConstants.{ACCESSES, FILES}
use Rattle.jv_script_drawn.specs.promise.Script.{access, create_line, on_client, operations, script, state}
use Rattle.jv_script_drawn.proofs.ScriptLaws.{script_length}
use Rattle.jv_cmd.specs.DrawnScript.{DrawnScriptsAreReadBack}
use Rattle.jv_cmd.specs.promise.Generating.{line_text, script_text}
use Rattle.jv_cmd.specs.promise.Run.{IsBuilt}
use Rattle.jv_cmd.specs.promise.Texts.{texts_of}
use Rattle.jv_cmd.proofs.asked.TextLaws.{texts_of-feed}
use Rattle.jv_cmd.proofs.drawn_scripts.DrawnLineLaws.{IsRunnable, access_runs, bare, create_runs, flush_runs, mount_runs}

-- operations one after another

text_of_line : (op : Op) → line_text (on_client op) ≡ bare op ++ 10 ∷ []
unfolding line_text
text_of_line op = refl

texts_read : (ops : List Op) → All IsRunnable ops
    → texts_of (flat_map line_text (map on_client ops)) ≡ map bare ops
texts_read [] all = refl
texts_read (op ∷ ops) all =
    let rest = flat_map line_text (map on_client ops) in
    ap (λ (text : List ℕ). texts_of (text ++ rest)) (text_of_line op)
    ∙ ap texts_of (append_assoc (bare op) (10 ∷ []) rest)
    ∙ texts_of-feed (bare op) rest (All-head IsRunnable op ops all).whole
    ∙ ap (λ (texts : List (List ℕ)). bare op ∷ texts) (texts_read ops (All-tail IsRunnable op ops all))

lines_read : (ops : List Op) → All IsRunnable ops → map line_of (map bare ops) ≡ map Some (map on_client ops)
lines_read [] all = refl
lines_read (op ∷ ops) all =
    let later = lines_read ops (All-tail IsRunnable op ops all) in
    rw ((All-head IsRunnable op ops all).read)
    (ap (λ (lines : List (Option Line)). Some (on_client op) ∷ lines) later)

-- the text after some others is that of an operation
pub text_runs : (ops : List Op) (earlier more : List (List ℕ)) (text : List ℕ) → All IsRunnable ops
    → map bare ops ≡ (earlier ++ text ∷ []) ++ more → (op : Op) × IsRunnable op × (bare op ≡ text)
text_runs [] [] more text all e = cc
text_runs [] (first ∷ earlier) more text all e = cc
text_runs (op ∷ ops) [] more text all e = (op, All-head IsRunnable op ops all, cc)
text_runs (op ∷ ops) (first ∷ earlier) more text all e =
    text_runs ops earlier more text (All-tail IsRunnable op ops all) (cc)

-- the operations of a script

state_small : (seed k : ℕ) → 0 < k → state seed k < 2 ^ 64
unfolding state
state_small seed zero some = absurd (omega arith)
state_small seed (suc k) some = omega arith

-- the operations of numbers in a row
in_range : (f : ℕ → Op) (from n : ℕ) → ((k : ℕ) → from ≤ k → k < from + n → IsRunnable (f k))
    → All IsRunnable (map f (range_with_len from n))
in_range f from zero each = All-nil IsRunnable
in_range f from (suc n) each =
    All-cons IsRunnable (f from) (map f (range_with_len (from + 1) n)) (each from (omega arith) (omega arith))
    (in_range f (from + 1) n (λ k low high. each k (omega arith) (omega arith)))

operations_run : (files accesses seed : ℕ) → files < 2 ^ 63 → All IsRunnable (operations files accesses seed)
unfolding operations
operations_run files accesses seed few =
    let creates = map create_line (range_with_len 0 files) in
    let touch : ℕ → Op = λ k. access k (state seed k) in
    let touches = map touch (range_with_len 1 accesses) in
    let flushes = map (λ handle. Flush handle) (range_with_len 1 files) in
    All-append IsRunnable ((Mount false ∷ creates) ++ touches) flushes
    (All-append IsRunnable (Mount false ∷ creates) touches
    (All-cons IsRunnable (Mount false) creates mount_runs
    (in_range create_line 0 files (λ i low high. create_runs i (omega (arith, few, high)))))
    (in_range touch 1 accesses (λ k low high. access_runs k (state seed k) (state_small seed k (omega arith)))))
    (in_range (λ handle. Flush handle) 1 files (λ handle low high. flush_runs handle (omega (arith, few, high))))

pub script_runs : (seed : ℕ) → All IsRunnable (operations FILES ACCESSES seed)
script_runs seed = operations_run FILES ACCESSES seed (omega arith)

-- the texts of a script

pub texts_of_script : (seed : ℕ) → texts_of (script_text seed) ≡ map bare (operations FILES ACCESSES seed)
unfolding script_text script
texts_of_script seed = texts_read (operations FILES ACCESSES seed) (script_runs seed)

pub each_read : (seed : ℕ) → map line_of (texts_of (script_text seed)) ≡ map Some (script seed)
unfolding script
each_read seed =
    ap (map line_of) (texts_of_script seed) ∙ lines_read (operations FILES ACCESSES seed) (script_runs seed)

pub each_built : (limits : Limits) (seed : ℕ) → limits.writeback ≡ false → All (IsBuilt limits) (script seed)
unfolding script
each_built limits seed direct =
    let ops = operations FILES ACCESSES seed in
    All-map (IsBuilt limits) on_client ops
    (All-weaker IsRunnable (λ op. IsBuilt limits (on_client op)) (λ op runs. runs.built limits direct) ops
    (script_runs seed))

pub each_short : (seed : ℕ) → All (λ text. length text ≤ MAX_LINE) (texts_of (script_text seed))
each_short seed =
    let ops = operations FILES ACCESSES seed in
    All-same (λ text. length text ≤ MAX_LINE) (texts_of (script_text seed)) (map bare ops) (texts_of_script seed)
    (All-map (λ text. length text ≤ MAX_LINE) bare ops
    (All-weaker IsRunnable (λ op. length (bare op) ≤ MAX_LINE) (λ op runs. runs.short) ops (script_runs seed)))

pub few_lines : (seed : ℕ) → length (script seed) ≤ MAX_LINES
few_lines seed = omega (arith, script_length seed)

pub drawn_scripts_are_read_back : DrawnScriptsAreReadBack
drawn_scripts_are_read_back limits seed direct = record {
  lines = record {
    first = record { known = ([], sym (append-nil (texts_of (script_text seed)))) };
    each = each_read seed;
    few = few_lines seed;
    short = each_short seed;
  };
  built = each_built limits seed direct;
}
