-- The next line, begun, where the line before has all its entries: what the line may have, by its form.
use Rattle.std.proofs.Common.{◌≡◌, ℕ, ◌+◌, Bool, true, false, if◌then◌else◌, List, [], ◌∷◌, ◌++◌, None, Some, refl, sym, ap, subst, ◌∙◌, codes}
use Rattle.std.proofs.lemmas.Bool.{and_from}
use Rattle.jv_model.specs.declared.fault.Fault.{Fault}
use Rattle.jv_model.specs.declared.op.Op.{Op}
use Rattle.jv_model.specs.declared.op.Line.{Line}
use Rattle.jv_model.specs.declared.op.Line.TheVariants.{Do, Begin, Step, Run, Crash, Tick}
use Rattle.jv_model.specs.promise.client.Submission.{submission, submitted}
use Rattle.jv_model.specs.promise.journal.State.{State, set_client}
use Rattle.jv_model.specs.promise.journal.Past.{Past, Due, NoMore, Refusal, MayLack, ToAnswer, OneStep, CrashEntry, TickEntry, begun, begun_by_due, begun_to, begin_next, begin_from, after_line, is_busy, is_over, idle_text}
use Rattle.jv_model.specs.promise.script.ReplyText.{with_feed}
use Rattle.jv_model_laws.proofs.JournalGrowthLaws.{begun_to-next}

-- between two lines, of which the next one is this
pub record IsNext (p : Past) (line : Line) (more : List Line) : Type 0 where
  pub complete : p.complete ≡ true
  pub over : is_over p ≡ true
  pub rest : p.rest ≡ line ∷ more

-- that line was begun: what it may have, what it prints if it ends there, and the state
pub record IsBegun (p : Past) (more : List Line) (due : Due) (said : List ℕ) (state : State) (q : Past) : Type 0 where
  pub line : q.line ≡ p.line + 1
  pub run : q.run ≡ p.run
  pub rest : q.rest ≡ more
  pub printed : q.printed ≡ p.printed ++ p.said
  pub complete : q.complete ≡ true
  pub at : q.at ≡ p.at
  pub ticks : q.ticks ≡ p.ticks
  pub asked : q.asked ≡ p.asked
  pub due_is : q.due ≡ due
  pub said_is : q.said ≡ said
  pub state_is : q.state ≡ state

-- the past in which it was begun
abbrev begins : Past → List Line → Due → List ℕ → State → Past
begins p more due said state = record (after_line p more) { due = due; said = said; state = state }

begun_line : (p : Past) (number : ℕ) (line : Line) (more : List Line) → p.line + 1 ≡ number → p.rest ≡ line ∷ more → begun_to number p ≡ begun (after_line p more) line
unfolding begin_next
begun_line p number line more next rest = begun_to-next number p next ∙ ap (λ r. begin_from r p) rest

begun_as : (p : Past) (number : ℕ) (line : Line) (more : List Line) (due : Due) (said : List ℕ) (state : State) → p.line + 1 ≡ number → IsNext p line more → begun (after_line p more) line ≡ begins p more due said state
    → IsBegun p more due said state (begun_to number p)
begun_as p number line more due said state next h e = subst (IsBegun p more due said state) (sym (begun_line p number line more next h.rest ∙ e)) (record {
  line = refl;
  run = refl;
  rest = refl;
  printed = refl;
  complete = and_from p.complete (is_over p) h.complete h.over;
  at = refl;
  ticks = refl;
  asked = refl;
  due_is = refl;
  said_is = refl;
  state_is = refl;
})

-- the state where an operation was submitted, and not refused
abbrev pub submitted_in : Past → ℕ → Op → State
submitted_in p client o = set_client p.state client (submitted p.run.limits o (p.state.clients client))

-- each form of a line

pub do_begun : (p : Past) (number client : ℕ) (o : Op) (more : List Line) → p.line + 1 ≡ number → IsNext p (Do client o) more → submission (p.state.clients client) o ≡ None
    → IsBegun p more (ToAnswer client) [] (submitted_in p client o) (begun_to number p)
do_begun p number client o more next h accepts = begun_as p number (Do client o) more (ToAnswer client) [] (submitted_in p client o) next h (ap (begun_by_due (ToAnswer client) (after_line p more) client o) accepts)

pub do_refused : (p : Past) (number client : ℕ) (o : Op) (fault : Fault) (more : List Line) → p.line + 1 ≡ number → IsNext p (Do client o) more → submission (p.state.clients client) o ≡ Some fault
    → IsBegun p more (Refusal client fault) [] p.state (begun_to number p)
do_refused p number client o fault more next h refuses = begun_as p number (Do client o) more (Refusal client fault) [] p.state next h (ap (begun_by_due (ToAnswer client) (after_line p more) client o) refuses)

pub begin_begun : (p : Past) (number client : ℕ) (o : Op) (more : List Line) → p.line + 1 ≡ number → IsNext p (Begin client o) more → submission (p.state.clients client) o ≡ None
    → IsBegun p more (MayLack client) (with_feed (codes "begun")) (submitted_in p client o) (begun_to number p)
begin_begun p number client o more next h accepts = begun_as p number (Begin client o) more (MayLack client) (with_feed (codes "begun")) (submitted_in p client o) next h
    (ap (begun_by_due (MayLack client) (record (after_line p more) { said = with_feed (codes "begun") }) client o) accepts)

pub begin_refused : (p : Past) (number client : ℕ) (o : Op) (fault : Fault) (more : List Line) → p.line + 1 ≡ number → IsNext p (Begin client o) more → submission (p.state.clients client) o ≡ Some fault
    → IsBegun p more (Refusal client fault) [] p.state (begun_to number p)
begin_refused p number client o fault more next h refuses = begun_as p number (Begin client o) more (Refusal client fault) [] p.state next h
    (ap (begun_by_due (MayLack client) (record (after_line p more) { said = with_feed (codes "begun") }) client o) refuses)

-- a line that runs the client's operation, by whether there is one
abbrev by_busy : Past → Due → Bool → Past
by_busy q due busy = (if busy then record q { due = due } else record q { due = NoMore; said = idle_text })

pub step_begun : (p : Past) (number client : ℕ) (more : List Line) → p.line + 1 ≡ number → IsNext p (Step client) more → is_busy p client ≡ true → IsBegun p more (OneStep client) [] p.state (begun_to number p)
step_begun p number client more next h busy = begun_as p number (Step client) more (OneStep client) [] p.state next h (ap (by_busy (after_line p more) (OneStep client)) busy)

pub run_begun : (p : Past) (number client : ℕ) (more : List Line) → p.line + 1 ≡ number → IsNext p (Run client) more → is_busy p client ≡ true → IsBegun p more (ToAnswer client) [] p.state (begun_to number p)
run_begun p number client more next h busy = begun_as p number (Run client) more (ToAnswer client) [] p.state next h (ap (by_busy (after_line p more) (ToAnswer client)) busy)

pub step_idle : (p : Past) (number client : ℕ) (more : List Line) → p.line + 1 ≡ number → IsNext p (Step client) more → is_busy p client ≡ false → IsBegun p more NoMore idle_text p.state (begun_to number p)
step_idle p number client more next h idle = begun_as p number (Step client) more NoMore idle_text p.state next h (ap (by_busy (after_line p more) (OneStep client)) idle)

pub run_idle : (p : Past) (number client : ℕ) (more : List Line) → p.line + 1 ≡ number → IsNext p (Run client) more → is_busy p client ≡ false → IsBegun p more NoMore idle_text p.state (begun_to number p)
run_idle p number client more next h idle = begun_as p number (Run client) more NoMore idle_text p.state next h (ap (by_busy (after_line p more) (ToAnswer client)) idle)

pub crash_begun : (p : Past) (number client : ℕ) (more : List Line) → p.line + 1 ≡ number → IsNext p (Crash client) more → IsBegun p more (CrashEntry client) [] p.state (begun_to number p)
crash_begun p number client more next h = begun_as p number (Crash client) more (CrashEntry client) [] p.state next h refl

pub tick_begun : (p : Past) (number by : ℕ) (more : List Line) → p.line + 1 ≡ number → IsNext p (Tick by) more → IsBegun p more (TickEntry by) [] p.state (begun_to number p)
tick_begun p number by more next h = begun_as p number (Tick by) more (TickEntry by) [] p.state next h refl
