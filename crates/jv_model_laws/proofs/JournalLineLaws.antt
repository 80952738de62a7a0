-- Each line of the script has its entries.
use Rattle.std.proofs.Common.{◌≡◌, ℕ, zero, suc, ◌+◌, ◌-◌, ◌≤◌, ◌<◌, Bool, true, false, ◌&&◌, ◌||◌, not, ◌==◌, if◌then◌else◌, IsTrue, IfSome, ◌⊎◌, MatchBool, inl, inr, List, [], ◌∷◌, ◌++◌, length, slice_get, Option, None, Some, refl, sym, ap, subst, ◌∙◌, arith, append_assoc, length-append}
use Rattle.std.proofs.Math.Bool.{and-false}
use Rattle.std.proofs.lemmas.Bool.{cases_Bool, and_parts}
use Rattle.std.specs.List.{AllByRecursion}
use Rattle.std.proofs.lemmas.List.{append-nil}
use Rattle.std.proofs.lemmas.Option.{slice_get_past}
use Rattle.std.proofs.lemmas.Bool.Decides.{leb_tells, eqb_tells}
use Rattle.jv_model.specs.declared.act.Act.{Act}
use Rattle.jv_model.specs.declared.act.ActKind.{ActKind}
use Rattle.jv_model.specs.declared.act.ActKind.TheVariants.{Settled, Quiet, Crashed, Ticked, Answered}
use Rattle.jv_model.specs.declared.act.Told.{Told}
use Rattle.jv_model.specs.declared.act.Told.TheVariants.{Refused as ToldRefused}
use Rattle.jv_model.specs.declared.fault.Fault.{Fault}
use Rattle.jv_model.specs.declared.fault.Fault.TheVariants.{NoMemory}
use Rattle.jv_model.specs.declared.op.Op.{Op}
use Rattle.jv_model.specs.declared.op.Line.{Line}
use Rattle.jv_model.specs.declared.op.Line.TheVariants.{Empty, Do, Begin, Step, Run, Crash, Drain, Tick}
use Rattle.jv_model.specs.promise.client.ModelClient.{ModelClient, Doing}
use Rattle.jv_model.specs.promise.client.Submission.{submission}
use Rattle.jv_model.specs.promise.journal.State.{State}
use Rattle.jv_model.specs.promise.journal.Steps.{Start, MayStep, begins_step}
use Rattle.jv_model.specs.promise.journal.Past.{Setup, Past, Due, NoMore, Refusal, MayLack, ToAnswer, OneStep, StepMade, CrashEntry, TickEntry, DrainEntries, at_start, at_end, begun, begun_by, begun_by_due, begun_to, begin_from, begin_next, after_line, is_busy, is_over, is_workers, lined, requested, after, advance, past, reached}
use Rattle.jv_model.specs.promise.journal.Legal.{IsRefusal, Allowed, AllAllowed, Refuses, LacksMemory, IsPublish, Drains, Sends, Ends, Fails, OfClient, OfLine, OfWorker, may_be_cut, may_stop}
use Rattle.jv_model.specs.journal.Stepping.{is_answer}
use Rattle.jv_model.specs.Lists.{numbered}
use Rattle.jv_model_laws.specs.Laws.{LinesHaveEntries, EndedLinesHaveEntries, RefusedLinesHaveOneEntry, FitsLine, EndsAnswered, IsOneStep, Idle, OneEntry, AndAnswer, kinds_on}
use Rattle.jv_model_laws.proofs.JournalGrowthLaws.{AllAllowed-parts, past-append, frame_begun, line-begun_to, begun_to-begun, line_allowed, entered, line_of_advance, if_some_of}
use Rattle.jv_model_laws.proofs.JournalStateLaws.{publish_of}

-- entries so far of a line, by what it may still have

abbrev is_submission : Line → Bool
is_submission (Do client o) = true
is_submission (Begin client o) = true
is_submission _ = false

abbrev is_begin : Line → Bool
is_begin (Begin client o) = true
is_begin _ = false

abbrev runs_on : Line → Bool
runs_on (Do client o) = true
runs_on (Run client) = true
runs_on _ = false

abbrev is_step : Line → Bool
is_step (Step client) = true
is_step _ = false

abbrev is_crash : Line → Bool
is_crash (Crash client) = true
is_crash _ = false

abbrev is_drain : Line → Bool
is_drain (Drain client) = true
is_drain _ = false

abbrev Unanswered : List ActKind → Type 0
Unanswered kinds = AllByRecursion (λ k. is_answer k ≡ false) kinds

record IsOne (kinds : List ActKind) : Type 0 where
  kind : ActKind
  same : kinds ≡ kind ∷ []
  open_yet : is_answer kind ≡ false

abbrev SoFar : Line → Due → List ActKind → Type 0
SoFar line NoMore kinds = FitsLine line kinds
SoFar line (Refusal client fault) kinds = IsTrue (is_submission line) × (kinds ≡ [])
SoFar line (MayLack client) kinds = IsTrue (is_begin line) × (kinds ≡ [])
SoFar line (ToAnswer client) kinds = IsTrue (runs_on line) × Unanswered kinds
SoFar line (OneStep client) kinds = IsTrue (is_step line) × (kinds ≡ [])
SoFar line (StepMade client) kinds = IsTrue (is_step line) × IsOne kinds
SoFar line (CrashEntry client) kinds = IsTrue (is_crash line) × (kinds ≡ [])
SoFar line (TickEntry by) kinds = (line ≡ Tick by) × (kinds ≡ [])
SoFar line (DrainEntries client) kinds = IsTrue (is_drain line) × Unanswered kinds

-- a line that begins

sofar_due : (due : Due) (line : Line) (q : Past) (client : ℕ) (o : Op) (fault : Option Fault) → IsTrue (is_submission line) → SoFar line due [] → SoFar line (begun_by_due due q client o fault).due []
sofar_due due line q client o None s h = h
sofar_due due line q client o (Some fault) s h = (s, refl)

sofar_idle : (line : Line) (q : Past) (due : Due) (said : List ℕ) (busy : Bool) → SoFar line due [] → SoFar line NoMore [] → SoFar line (if busy then record q { due = due } else record q { due = NoMore; said = said }).due []
sofar_idle line q due said true h g = h
sofar_idle line q due said false h g = g

sofar_begun : (q : Past) (line : Line) → SoFar line (begun q line).due []
sofar_begun q Empty = refl
sofar_begun q (Do client o) = sofar_due (ToAnswer client) (Do client o) q client o (submission (q.state.clients client) o) refl (refl, tt)
sofar_begun q (Begin client o) = sofar_due (MayLack client) (Begin client o) (record q { said = _ }) client o (submission (q.state.clients client) o) refl (refl, refl)
sofar_begun q (Step client) = sofar_idle (Step client) q (OneStep client) _ (is_busy q client) (refl, refl) (Idle refl)
sofar_begun q (Run client) = sofar_idle (Run client) q (ToAnswer client) _ (is_busy q client) (refl, tt) (inl refl)
sofar_begun q (Crash client) = (refl, refl)
sofar_begun q (Drain client) = (refl, tt)
sofar_begun q (Tick by) = (refl, refl)

-- a line that is over

fits_step : (line : Line) (kinds : List ActKind) → IsTrue (is_step line) → IsOneStep kinds → FitsLine line kinds
fits_step (Step client) kinds s h = h
fits_step _ kinds s h = absurd (cc)

fits_none : (line : Line) (kinds : List ActKind) → IsTrue (is_begin line) → kinds ≡ [] → FitsLine line kinds
fits_none (Begin client o) kinds s h = inl h
fits_none _ kinds s h = absurd (cc)

fits_over : (p : Past) (line : Line) (kinds : List ActKind) (due : Due) → SoFar line due kinds → is_over (record p { due = due }) ≡ true → FitsLine line kinds
fits_over p line kinds NoMore h over = h
fits_over p line kinds (Refusal client fault) h over = absurd (cc)
fits_over p line kinds (MayLack client) h over = fits_none line kinds h.0 h.1
fits_over p line kinds (ToAnswer client) h over = absurd (cc)
fits_over p line kinds (OneStep client) h over = absurd (cc)
fits_over p line kinds (StepMade client) h over = fits_step line kinds h.0 (OneEntry h.1.kind h.1.same)
fits_over p line kinds (CrashEntry client) h over = absurd (cc)
fits_over p line kinds (TickEntry by) h over = absurd (cc)
fits_over p line kinds (DrainEntries client) h over = absurd (cc)

-- one more entry of the line

fits_refused : (line : Line) (kinds : List ActKind) (fault : Fault) → IsTrue (is_submission line) → kinds ≡ Answered (ToldRefused fault) ∷ [] → FitsLine line kinds
fits_refused (Do client o) kinds fault s e = record { before = []; told = ToldRefused fault; whole = e; only = tt }
fits_refused (Begin client o) kinds fault s e = inr (record { fault = fault; same = e })
fits_refused _ kinds fault s e = absurd (cc)

begin_submits : (line : Line) → IsTrue (is_begin line) → IsTrue (is_submission line)
begin_submits (Begin client o) s = refl
begin_submits _ s = absurd (cc)

fits_answered : (line : Line) (kinds : List ActKind) → IsTrue (runs_on line) → EndsAnswered kinds → FitsLine line kinds
fits_answered (Do client o) kinds s h = h
fits_answered (Run client) kinds s h = inr h
fits_answered _ kinds s h = absurd (cc)

fits_drained : (line : Line) (kinds : List ActKind) → IsTrue (is_drain line) → EndsAnswered kinds → FitsLine line kinds
fits_drained (Drain client) kinds s h = h
fits_drained _ kinds s h = absurd (cc)

fits_crashed : (line : Line) (kinds : List ActKind) → IsTrue (is_crash line) → kinds ≡ Crashed ∷ [] → FitsLine line kinds
fits_crashed (Crash client) kinds s h = h
fits_crashed _ kinds s h = absurd (cc)

fits_ticked : (line : Line) (by : ℕ) (kinds : List ActKind) → line ≡ Tick by → kinds ≡ Ticked by ∷ [] → FitsLine line kinds
fits_ticked line by kinds e h = subst (λ l. FitsLine l kinds) (sym e) h

unanswered_more : (kinds : List ActKind) (kind : ActKind) → Unanswered kinds → is_answer kind ≡ false → Unanswered (kinds ++ kind ∷ [])
unanswered_more [] kind h e = (e, tt)
unanswered_more (k ∷ kinds) kind h e = (h.0, unanswered_more kinds kind h.1 e)

first_only : (kinds : List ActKind) (kind : ActKind) → kinds ≡ [] → kinds ++ kind ∷ [] ≡ kind ∷ []
first_only kinds kind e = ap (λ l. l ++ kind ∷ []) e

-- an operation's entry is no crash and no tick
abbrev pub is_aside : ActKind → Bool
is_aside Crashed = true
is_aside (Ticked by) = true
is_aside _ = false

due_of_request : (p : Past) (act : Act) (kind : ActKind) → is_answer kind ≡ false → is_aside kind ≡ false → (lined p act kind).due ≡ requested p.due
due_of_request p act (Answered told) a b = absurd (cc)
due_of_request p act Crashed a b = absurd (cc)
due_of_request p act (Ticked by) a b = absurd (cc)
due_of_request p act _ a b = refl

due_of_answer : (p : Past) (act : Act) (kind : ActKind) → is_answer kind ≡ true → (lined p act kind).due ≡ NoMore
due_of_answer p act (Answered told) a = refl
due_of_answer p act _ a = absurd (cc)

record IsAnswer (kind : ActKind) : Type 0 where
  told : Told
  same : kind ≡ Answered told

answer_of : (kind : ActKind) → is_answer kind ≡ true → IsAnswer kind
answer_of (Answered told) e = record { told = told; same = refl }
answer_of _ e = absurd (cc)

ends_with : (kinds : List ActKind) (kind : ActKind) → Unanswered kinds → is_answer kind ≡ true → EndsAnswered (kinds ++ kind ∷ [])
ends_with kinds kind h e = let a = answer_of kind e in record { before = kinds; told = a.told; whole = ap (λ k. kinds ++ k ∷ []) a.same; only = h }

pub not_aside : (start : Start) (alone : Bool) (s : State) (client now : ℕ) (c : ModelClient) (d : Doing) (kind : ActKind) → MayStep start alone s client now c d kind → is_aside kind ≡ false
not_aside start alone s client now c d Crashed may = absurd may
not_aside start alone s client now c d (Ticked by) may = absurd may
not_aside start alone s client now c d _ may = refl

client_aside : (p : Past) (act : Act) (client : ℕ) (begins : Bool) → OfClient p act client begins → is_aside act.kind ≡ false
client_aside p act client begins h = not_aside p.run.start (p.run.uploads == 0) p.state client act.at (p.state.clients client) h.may.doing act.kind h.may.may

step_ends : (d : Doing) (kind : ActKind) → begins_step d kind ≡ false → is_answer kind ≡ true
step_ends d (Answered told) e = refl
step_ends d _ e = absurd (cc)

publish_open : (s : State) (kind : ActKind) → IsPublish s kind → (is_answer kind ≡ false) × (is_aside kind ≡ false)
publish_open s (Settled commit) h = (refl, refl)
publish_open s Quiet h = (refl, refl)
publish_open s _ h = absurd h

due_of_crash : (p : Past) (act : Act) (kind : ActKind) → kind ≡ Crashed → (lined p act kind).due ≡ NoMore
due_of_crash p act kind e = ap (λ k. (lined p act k).due) e

due_of_tick : (p : Past) (act : Act) (by : ℕ) (kind : ActKind) → kind ≡ Ticked by → (lined p act kind).due ≡ NoMore
due_of_tick p act by kind e = ap (λ k. (lined p act k).due) e

module _ (p : Past) (act : Act) (line : Line) (kinds : List ActKind) where
  abbrev Next : Type 0
  Next = SoFar line (lined p act act.kind).due (kinds ++ act.kind ∷ [])

  to_end : (lined p act act.kind).due ≡ NoMore → FitsLine line (kinds ++ act.kind ∷ []) → Next
  to_end e h = subst (λ due. SoFar line due (kinds ++ act.kind ∷ [])) (sym e) h

  to_due : (due : Due) → (lined p act act.kind).due ≡ due → SoFar line due (kinds ++ act.kind ∷ []) → Next
  to_due due e h = subst (λ x. SoFar line x (kinds ++ act.kind ∷ [])) (sym e) h

  refused_next : (fault : Fault) → IsTrue (is_submission line) → kinds ≡ [] → act.kind ≡ Answered (ToldRefused fault) → Next
  refused_next fault s none k = to_end (due_of_answer p act act.kind (ap is_answer k)) (fits_refused line (kinds ++ act.kind ∷ []) fault s (first_only kinds act.kind none ∙ ap (λ x. x ∷ []) k))

  drained_next : (client : ℕ) → p.due ≡ DrainEntries client → IsTrue (is_drain line) → Unanswered kinds → Drains p.state client act.kind → Next
  drained_next client e s h (Sends x) = let o = publish_open p.state act.kind (publish_of p.state client act.kind x) in to_due (DrainEntries client) (due_of_request p act act.kind o.0 o.1 ∙ ap requested e) (s, unanswered_more kinds act.kind h o.0)
  drained_next client e s h (Ends x k) = let a = ap is_answer k in to_end (due_of_answer p act act.kind a) (fits_drained line (kinds ++ act.kind ∷ []) s (ends_with kinds act.kind h a))
  drained_next client e s h (Fails told x k) = let a = ap is_answer k in to_end (due_of_answer p act act.kind a) (fits_drained line (kinds ++ act.kind ∷ []) s (ends_with kinds act.kind h a))

  two_steps : IsOne kinds → is_answer act.kind ≡ true → IsOneStep (kinds ++ act.kind ∷ [])
  two_steps one a = let x = answer_of act.kind a in AndAnswer one.kind x.told (ap (λ l. l ++ act.kind ∷ []) one.same ∙ ap (λ k. one.kind ∷ k ∷ []) x.same)

  next : (due : Due) → p.due ≡ due → SoFar line due kinds → OfLine p act due → Next
  next NoMore e s h = absurd h
  next (Refusal client fault) e s (own, Refuses k) = refused_next fault s.0 s.1 k
  next (Refusal client fault) e s (own, LacksMemory b k) = refused_next NoMemory s.0 s.1 k
  next (MayLack client) e s h = refused_next NoMemory (begin_submits line s.0) s.1 h.1
  next (ToAnswer client) e s h = elim (cases_Bool (is_answer act.kind)) [
    | inl a ↦ to_end (due_of_answer p act act.kind a) (fits_answered line (kinds ++ act.kind ∷ []) s.0 (ends_with kinds act.kind s.1 a))
    | inr o ↦ to_due (ToAnswer client) (due_of_request p act act.kind o (client_aside p act client _ h) ∙ ap requested e) (s.0, unanswered_more kinds act.kind s.1 o)
  ]
  next (OneStep client) e s h = elim (cases_Bool (is_answer act.kind)) [
    | inl a ↦ to_end (due_of_answer p act act.kind a) (fits_step line (kinds ++ act.kind ∷ []) s.0 (OneEntry act.kind (first_only kinds act.kind s.1)))
    | inr o ↦ to_due (StepMade client) (due_of_request p act act.kind o (client_aside p act client true h) ∙ ap requested e) (s.0, record { kind = act.kind; same = first_only kinds act.kind s.1; open_yet = o })
  ]
  next (StepMade client) e s h = let a = step_ends h.may.doing act.kind h.may.begins_is in to_end (due_of_answer p act act.kind a) (fits_step line (kinds ++ act.kind ∷ []) s.0 (two_steps s.1 a))
  next (CrashEntry client) e s h = to_end (due_of_crash p act act.kind h.1) (fits_crashed line (kinds ++ act.kind ∷ []) s.0 (first_only kinds act.kind s.1 ∙ ap (λ x. x ∷ []) h.1))
  next (TickEntry by) e s h = to_end (due_of_tick p act by act.kind h.1) (fits_ticked line by (kinds ++ act.kind ∷ []) s.0 (first_only kinds act.kind s.1 ∙ ap (λ x. x ∷ []) h.1))
  next (DrainEntries client) e s h = drained_next client e s.0 s.1 h.1

-- the entries of a line, after one more entry

module _ (by_worker : ℕ → Bool) (line : ℕ) where
  abbrev added : Bool → Act → List ActKind
  added own act = (if own then act.kind ∷ [] else [])

  abbrev is_own : ℕ → Act → Bool
  is_own number act = (act.line == line) && not (by_worker number)

  chosen : (b : Bool) (kind : ActKind) (xs ys more : List ActKind) → ys ≡ xs ++ more → (if b then kind ∷ ys else ys) ≡ (if b then kind ∷ xs else xs) ++ more
  chosen true kind xs ys more e = ap (λ l. kind ∷ l) e
  chosen false kind xs ys more e = e

  kinds_last : (xs : List Act) (y : Act) (number last : ℕ) → number + length xs ≡ last → kinds_on by_worker line number (xs ++ y ∷ []) ≡ kinds_on by_worker line number xs ++ added (is_own last y) y
  kinds_last [] y number last e = let same : number ≡ last = omega (arith, e) in ap (λ n. added (is_own n y) y) same
  kinds_last (x ∷ xs) y number last e = chosen (is_own number x) x.kind (kinds_on by_worker line (number + 1) xs) (kinds_on by_worker line (number + 1) (xs ++ y ∷ [])) (added (is_own last y) y) (kinds_last xs y (number + 1) last (omega (arith, e)))

  kinds_more : (xs : List Act) (y : Act) → is_own (1 + length xs) y ≡ true → kinds_on by_worker line 1 (xs ++ y ∷ []) ≡ kinds_on by_worker line 1 xs ++ y.kind ∷ []
  kinds_more xs y e = kinds_last xs y 1 (1 + length xs) refl ∙ ap (λ b. kinds_on by_worker line 1 xs ++ added b y) e

  kinds_same : (xs : List Act) (y : Act) → is_own (1 + length xs) y ≡ false → kinds_on by_worker line 1 (xs ++ y ∷ []) ≡ kinds_on by_worker line 1 xs
  kinds_same xs y e = kinds_last xs y 1 (1 + length xs) refl ∙ ap (λ b. kinds_on by_worker line 1 xs ++ added b y) e ∙ append-nil (kinds_on by_worker line 1 xs)

-- the script from a line on

abbrev rest_from : ℕ → List Line → List Line
rest_from zero lines = lines
rest_from (suc n) [] = []
rest_from (suc n) (line ∷ lines) = rest_from n lines

record IsNext (n : ℕ) (lines : List Line) (line : Line) (rest_lines : List Line) : Type 0 where
  line_there : slice_get lines n ≡ Some line
  after_it : rest_from (suc n) lines ≡ rest_lines

rest_some : (n : ℕ) (lines : List Line) (line : Line) (rest_lines : List Line) → rest_from n lines ≡ line ∷ rest_lines → IsNext n lines line rest_lines
rest_some zero [] line rest_lines e = absurd (cc)
rest_some zero (x ∷ lines) line rest_lines e = record { line_there = cc; after_it = cc }
rest_some (suc n) [] line rest_lines e = absurd (cc)
rest_some (suc n) (x ∷ lines) line rest_lines e = let r = rest_some n lines line rest_lines e in record { line_there = r.line_there; after_it = r.after_it }

record IsEnd (n : ℕ) (lines : List Line) : Type 0 where
  none_there : slice_get lines n ≡ None
  after_it : rest_from (suc n) lines ≡ []

rest_none : (n : ℕ) (lines : List Line) → rest_from n lines ≡ [] → IsEnd n lines
rest_none zero [] e = record { none_there = refl; after_it = refl }
rest_none zero (x ∷ lines) e = absurd (cc)
rest_none (suc n) [] e = record { none_there = refl; after_it = refl }
rest_none (suc n) (x ∷ lines) e = let r = rest_none n lines e in record { none_there = r.none_there; after_it = r.after_it }

line_next : (script : List Line) (n : ℕ) (o : Option Line) → slice_get script n ≡ o → numbered script (n + 1) ≡ o
line_next script n o e = let s : n + 1 ≡ suc n = omega arith in ap (numbered script) s ∙ e

rest_next : (script : List Line) (n : ℕ) (lines : List Line) → rest_from (suc n) script ≡ lines → lines ≡ rest_from (n + 1) script
rest_next script n lines e = let s : suc n ≡ n + 1 = omega arith in sym e ∙ ap (λ k. rest_from k script) s

no_line : (P : Line → Type 0) (o : Option Line) → o ≡ None → IfSome o P
no_line P o e = subst (λ x. IfSome x P) (sym e) tt

off_line : (line n : ℕ) (b : Bool) → (line ≡ n → ⊥) → ((line == n) && b) ≡ false
off_line line n b apart = elim (eqb_tells line n) [
  | inl same ↦ absurd (apart same.1)
  | inr other ↦ ap (λ t. t && b) other.0
]

not_own : (line n : ℕ) (b : Bool) → b ≡ true → ((line == n) && not b) ≡ false
not_own line n b e = ap (λ t. (line == n) && not t) e ∙ and-false (line == n)

own_line : (line n : ℕ) (b : Bool) → line ≡ n → b ≡ false → ((line == n) && not b) ≡ true
own_line line n b at e = elim (eqb_tells line n) [
  | inl same ↦ ap (λ t. t && not b) same.0 ∙ ap not e
  | inr other ↦ absurd (other.1 at)
]

due_of : (worker : Bool) (p q : Past) (asked : ℕ) → (if worker then p else record q { asked = asked }).due ≡ (if worker then p.due else q.due)
due_of true p q asked = refl
due_of false p q asked = refl

-- what is due after an entry: what was due, where an uploading thread made it
pub due_after : (p : Past) (act : Act) (worker : Bool) → is_workers p ≡ worker → (after p act).due ≡ (if worker then p.due else (lined p act act.kind).due)
unfolding after
due_after p act worker e = due_of (is_workers p) p (lined p act act.kind) _ ∙ ap (λ b. if b then p.due else (lined p act act.kind).due) e

-- all lines so far

module _ (run : Setup) where
  abbrev K : ℕ → List Act → List ActKind
  K line pre = kinds_on run.by_worker line 1 pre

  abbrev Fits : ℕ → List Act → Type 0
  Fits line pre = IfSome (numbered run.script line) (λ l. FitsLine l (K line pre))

  record Lined (pre : List Act) (p : Past) : Type 0 where
    run_is : p.run ≡ run
    count : p.state.count ≡ length pre
    lines : p.rest ≡ rest_from p.line run.script
    later : (n : ℕ) → p.line < n → K n pre ≡ []
    earlier : IsTrue p.complete → (n : ℕ) → n < p.line → Fits n pre
    present : IfSome (numbered run.script p.line) (λ l. SoFar l p.due (K p.line pre))

  present_over : (pre : List Act) (p : Past) → Lined pre p → is_over p ≡ true → Fits p.line pre
  present_over pre p h over = if_some_of (λ l. SoFar l p.due (K p.line pre)) (λ l. FitsLine l (K p.line pre)) (numbered run.script p.line) (λ l s. fits_over p l (K p.line pre) p.due s over) h.present

  up_to : (pre : List Act) (p : Past) → Lined pre p → IsTrue (p.complete && is_over p) → (n : ℕ) → n ≤ p.line → Fits n pre
  up_to pre p h c n low =
      let both = and_parts p.complete (is_over p) c in
      elim (leb_tells p.line n) [
        | inl high ↦ (let same : p.line ≡ n = omega (arith, low, high.1) in subst (λ m. Fits m pre) same (present_over pre p h both.1))
        | inr below ↦ h.earlier both.0 n below.1
      ]

  lined_from : (pre : List Act) (p : Past) (lines : List Line) → p.rest ≡ lines → Lined pre p → Lined pre (begin_from lines p)
  lined_from pre p [] e h =
      let r = rest_none p.line run.script (sym h.lines ∙ e) in
      record {
        run_is = h.run_is;
        count = h.count;
        lines = rest_next run.script p.line [] r.after_it;
        later = λ n high. h.later n (omega arith);
        earlier = λ c n low. up_to pre p h c n (omega arith);
        present = no_line _ _ (line_next run.script p.line None r.none_there);
      }
  lined_from pre p (line ∷ lines) e h =
      let r = rest_some p.line run.script line lines (sym h.lines ∙ e) in
      let q = after_line p lines in
      let f = frame_begun q line in
      let at = f.line in
      record {
        run_is = f.run ∙ h.run_is;
        count = f.count ∙ h.count;
        lines = f.lines ∙ rest_next run.script p.line lines r.after_it ∙ ap (λ n. rest_from n run.script) (sym at);
        later = λ n high. h.later n (omega (arith, at, high));
        earlier = λ c n low. up_to pre p h (subst IsTrue f.complete c) n (omega (arith, at, low));
        present = subst (λ n. IfSome (numbered run.script n) (λ l. SoFar l (begun q line).due (K n pre))) (sym at)
            (subst (λ o. IfSome o (λ l. SoFar l (begun q line).due (K (p.line + 1) pre))) (sym (line_next run.script p.line (Some line) r.line_there))
            (subst (SoFar line (begun q line).due) (sym (h.later (p.line + 1) (omega arith))) (sofar_begun q line)));
      }

  lined_next : (pre : List Act) (p : Past) → Lined pre p → Lined pre (begin_next p)
  unfolding begin_next
  lined_next pre p h = lined_from pre p p.rest refl h

  lined_by : (pre : List Act) (n : ℕ) (p : Past) → Lined pre p → Lined pre (begun_by n p)
  lined_by pre zero p h = h
  lined_by pre (suc n) p h = lined_next pre (begun_by n p) (lined_by pre n p h)

  lined_to : (pre : List Act) (n : ℕ) (p : Past) → Lined pre p → Lined pre (begun_to n p)
  unfolding begun_to
  lined_to pre n p h = lined_by pre (n - p.line) p h

  -- one more entry

  is_by_worker : (pre : List Act) (p : Past) → Lined pre p → is_workers p ≡ run.by_worker (1 + length pre)
  is_by_worker pre p h = ap (λ (r : Setup). r.by_worker (p.state.count + 1)) h.run_is ∙ ap run.by_worker (let c = h.count in omega (arith, c))

  other_line : (pre : List Act) (act : Act) (n : ℕ) → (act.line ≡ n → ⊥) → K n (pre ++ act ∷ []) ≡ K n pre
  other_line pre act n apart = kinds_same run.by_worker n pre act (off_line act.line n _ apart)

  present_after : (pre : List Act) (p : Past) (act : Act) (worker : Bool) → is_workers p ≡ worker → Lined pre p → act.line ≡ p.line → MatchBool worker (OfWorker p act) (OfLine p act p.due)
      → IfSome (numbered run.script p.line) (λ l. SoFar l (if worker then p.due else (lined p act act.kind).due) (K p.line (pre ++ act ∷ [])))
  present_after pre p act true e h at may = if_some_of (λ l. SoFar l p.due (K p.line pre)) _ (numbered run.script p.line)
      (λ l s. subst (SoFar l p.due) (sym (kinds_same run.by_worker p.line pre act (not_own act.line p.line (run.by_worker (1 + length pre)) (sym (is_by_worker pre p h) ∙ e)))) s) h.present
  present_after pre p act false e h at may = if_some_of (λ l. SoFar l p.due (K p.line pre)) _ (numbered run.script p.line)
      (λ l s. subst (SoFar l (lined p act act.kind).due) (sym (kinds_more run.by_worker p.line pre act (own_line act.line p.line (run.by_worker (1 + length pre)) at (sym (is_by_worker pre p h) ∙ e)))) (next p act l (K p.line pre) p.due refl s may)) h.present

  lined_after : (pre : List Act) (p : Past) (act : Act) → Lined pre p → Allowed p act → Lined (pre ++ act ∷ []) (after p act)
  lined_after pre p act h may =
      let f = entered p act in
      let at = f.line in
      let here : act.line ≡ p.line = sym may.line in
      record {
        run_is = f.run ∙ h.run_is;
        count = ap (λ (s : State). s.count) f.state ∙ ap (λ n. n + 1) h.count ∙ sym (length-append pre (act ∷ []));
        lines = f.lines ∙ h.lines ∙ ap (λ n. rest_from n run.script) (sym at);
        later = λ n high. other_line pre act n (λ e. absurd (omega (arith, at, high, here, e))) ∙ h.later n (omega (arith, at, high));
        earlier = λ c n low. subst (λ ks. IfSome (numbered run.script n) (λ l. FitsLine l ks)) (sym (other_line pre act n (λ e. absurd (omega (arith, at, low, here, e))))) (h.earlier (subst IsTrue f.complete c) n (omega (arith, at, low)));
        present = subst (λ n. IfSome (numbered run.script n) (λ l. SoFar l (after p act).due (K n (pre ++ act ∷ [])))) (sym at)
            (subst (λ due. IfSome (numbered run.script p.line) (λ l. SoFar l due (K p.line (pre ++ act ∷ [])))) (sym (due_after p act (is_workers p) refl)) (present_after pre p act (is_workers p) refl h here may.stands));
      }

  lined_advance : (pre : List Act) (p : Past) (act : Act) → Lined pre p → Allowed (begun_to act.line p) act → Lined (pre ++ act ∷ []) (advance p act)
  unfolding advance
  lined_advance pre p act h may = lined_after pre (begun_to act.line p) act (lined_to pre act.line p h) may

  lined_past : (pre : List Act) (p : Past) (acts : List Act) → Lined pre p → AllAllowed p acts → Lined (pre ++ acts) (past p acts)
  lined_past pre p [] h may = subst (λ l. Lined l p) (sym (append-nil pre)) h
  lined_past pre p (act ∷ acts) h may = subst (λ l. Lined l (past (advance p act) acts)) (append_assoc pre (act ∷ []) acts) (lined_past (pre ++ act ∷ []) (advance p act) acts (lined_advance pre p act h may.0) may.1)

  lined_start : Lined [] (at_start run)
  lined_start = record { run_is = refl; count = refl; lines = refl; later = λ n high. refl; earlier = λ c n low. absurd (omega arith); present = tt }

  all_lined : (journal : List Act) → AllAllowed (at_start run) journal → Lined journal (reached run journal)
  all_lined journal may = lined_past [] (at_start run) journal lined_start may

pub lines_have_entries : LinesHaveEntries
lines_have_entries run journal act may line low =
    let parts = AllAllowed-parts (at_start run) journal (act ∷ []) may in
    let a = parts.1.0 in
    let h = lined_to run journal act.line (reached run journal) (all_lined run journal parts.0) in
    let at = a.line in
    h.earlier a.complete line (omega (arith, at, low))

-- the end of the run

over_uncut : (complete over cut stop : Bool) → IsTrue (complete && (over || cut && stop)) → cut ≡ false → IsTrue (complete && over)
over_uncut true true cut stop h e = refl
over_uncut true false true stop h e = absurd (cc)
over_uncut true false false stop h e = absurd (cc)
over_uncut false over cut stop h e = absurd (cc)

line_reaches : (n : ℕ) (p : Past) → n ≤ (begun_to n p).line
line_reaches n p = elim (leb_tells p.line n) [
  | inl low ↦ (let e = line-begun_to n p low.1 in omega (arith, e))
  | inr high ↦ (let e = ap (λ (q : Past). q.line) (begun_to-begun n p (omega (arith, high.1))) in omega (arith, e, high.1))
]

line_past_end : (script : List Line) (n : ℕ) → length script < n → numbered script n ≡ None
line_past_end script zero h = refl
line_past_end script (suc i) h = slice_get_past script i (omega arith)

pub ended_lines : EndedLinesHaveEntries
ended_lines run journal legal uncut line =
    let p = at_end run journal in
    let h = lined_to run journal (length run.script) (reached run journal) (all_lined run journal legal.allowed) in
    elim (leb_tells line p.line) [
      | inl low ↦ up_to run journal p h (over_uncut p.complete (is_over p) (may_be_cut run.status) (may_stop p) legal.ends uncut) line low.1
      | inr high ↦ no_line _ _ (line_past_end run.script line (let r = line_reaches (length run.script) (reached run journal) in omega (arith, r, high.1)))
    ]

-- a submission that is refused has one entry

data IsDone (line : ℕ) (p : Past) : Type 0 where
  AtEnd : p.due ≡ NoMore → p.line ≡ line → IsDone line p
  Later : line < p.line → IsDone line p

worker_where_done : (p : Past) (act : Act) (worker : Bool) → p.due ≡ NoMore → MatchBool worker (OfWorker p act) (OfLine p act p.due) → worker ≡ true
worker_where_done p act true e h = refl
worker_where_done p act false e h = absurd (subst (OfLine p act) e h)

done_here : (p : Past) (act : Act) → p.due ≡ NoMore → p.line ≡ act.line → Allowed p act → IsDone p.line (advance p act)
unfolding advance
done_here p act e at may =
    let same : begun_to act.line p ≡ p = begun_to-begun act.line p (omega (arith, at)) in
    subst (λ q. IsDone p.line (after q act)) (sym same) (AtEnd (due_after p act true (worker_where_done p act (is_workers p) e may.stands) ∙ e) (entered p act).line)

done_next : (line : ℕ) (p : Past) (act : Act) → IsDone line p → Allowed (begun_to act.line p) act → IsDone line (advance p act)
done_next line p act (Later high) may = let l = line_allowed p act may in let e = line_of_advance p act may in Later (omega (arith, l, e, high))
done_next line p act (AtEnd e at) may =
    let l = line_allowed p act may in
    elim (leb_tells act.line p.line) [
      | inl low ↦ (
          let here : p.line ≡ act.line = omega (arith, l, low.1) in
          let same : begun_to act.line p ≡ p = begun_to-begun act.line p low.1 in
          subst (λ n. IsDone n (advance p act)) at (done_here p act e here (subst (λ q. Allowed q act) same may)))
      | inr high ↦ (let to = line_of_advance p act may in Later (omega (arith, at, to, high.1)))
    ]

done_past : (line : ℕ) (p : Past) (acts : List Act) → IsDone line p → AllAllowed p acts → IsDone line (past p acts)
done_past line p [] h may = h
done_past line p (act ∷ acts) h may = done_past line (advance p act) acts (done_next line p act h may.0) may.1

done_then : (line : ℕ) (p : Past) (act : Act) → IsDone line p → Allowed (begun_to act.line p) act → is_workers (begun_to act.line p) ≡ false → line < act.line
done_then line p act (Later high) may own = let l = line_allowed p act may in omega (arith, l, high)
done_then line p act (AtEnd e at) may own =
    let l = line_allowed p act may in
    elim (leb_tells act.line p.line) [
      | inl low ↦ (
          let same : begun_to act.line p ≡ p = begun_to-begun act.line p low.1 in
          let here : Allowed p act = subst (λ q. Allowed q act) same may in
          let worker = worker_where_done p act (is_workers p) e here.stands in
          let not_worker : is_workers p ≡ false = subst (λ q. is_workers q ≡ false) same own in
          absurd (cc))
      | inr high ↦ omega (arith, at, high.1)
    ]

refusal_told : (busy : Bool) (fault : Fault) (kind : ActKind) → IsRefusal busy fault kind → is_answer kind ≡ true
refusal_told busy fault kind (Refuses k) = ap is_answer k
refusal_told busy fault kind (LacksMemory b k) = ap is_answer k

refusal_kind : (busy : Bool) (fault : Fault) (kind : ActKind) → IsRefusal busy fault kind → (kind ≡ Answered (ToldRefused fault)) ⊎ (kind ≡ Answered (ToldRefused NoMemory))
refusal_kind busy fault kind (Refuses k) = inl k
refusal_kind busy fault kind (LacksMemory b k) = inr k

own_of_refusal : (p : Past) (act : Act) (client : ℕ) (fault : Fault) (worker : Bool) → worker ≡ false → p.due ≡ Refusal client fault → MatchBool worker (OfWorker p act) (OfLine p act p.due) → (act.client ≡ client) × IsRefusal (is_busy p client) fault act.kind
own_of_refusal p act client fault true w e h = absurd (cc)
own_of_refusal p act client fault false w e h = subst (OfLine p act) e h

refusal_ends : (p : Past) (act : Act) (client : ℕ) (fault : Fault) → is_workers p ≡ false → p.due ≡ Refusal client fault → Allowed p act → IsDone act.line (after p act)
refusal_ends p act client fault own e may =
    let r = own_of_refusal p act client fault (is_workers p) own e may.stands in
    AtEnd (due_after p act false own ∙ due_of_answer p act act.kind (refusal_told _ fault act.kind r.1)) ((entered p act).line ∙ may.line)

done_advance : (line : ℕ) (p : Past) (act : Act) → IsDone line (after (begun_to act.line p) act) → IsDone line (advance p act)
unfolding advance
done_advance line p act h = h

pub workers_at : (run : Setup) (pre : List Act) (line : ℕ) → AllAllowed (at_start run) pre → is_workers (begun_to line (reached run pre)) ≡ run.by_worker (1 + length pre)
workers_at run pre line may = is_by_worker run pre (begun_to line (reached run pre)) (lined_to run pre line (reached run pre) (all_lined run pre may))

pub refused_once : RefusedLinesHaveOneEntry
refused_once run before acts act later h client fault due own own_later =
    let whole = AllAllowed-parts (at_start run) (before ++ act ∷ acts) (later ∷ []) h in
    let parts = AllAllowed-parts (at_start run) before (act ∷ acts) whole.0 in
    let p = begun_to act.line (reached run before) in
    let r = own_of_refusal p act client fault (is_workers p) (workers_at run before act.line parts.0 ∙ own) due parts.1.0.stands in
    let first = done_advance act.line (reached run before) act (refusal_ends p act client fault (workers_at run before act.line parts.0 ∙ own) due parts.1.0) in
    let end = subst (IsDone act.line) (sym (past-append (at_start run) before (act ∷ acts))) (done_past act.line (advance (reached run before) act) acts first parts.1.1) in
    record {
      own = r.0;
      refused = refusal_kind _ fault act.kind r.1;
      alone = done_then act.line (reached run (before ++ act ∷ acts)) later end whole.1.0 (workers_at run (before ++ act ∷ acts) later.line whole.0 ∙ own_later);
    }
