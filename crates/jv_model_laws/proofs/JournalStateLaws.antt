-- What stays true of a journal's state, by what its entries may be.
use Rattle.std.proofs.Common.{◌≡◌, ℕ, zero, suc, ◌+◌, ◌-◌, ◌≤◌, ◌<◌, Bool, true, false, ◌&&◌, ◌||◌, ◌==◌, if◌then◌else◌, IsTrue, IsSomeAnd, MatchBool, List, [], ◌∷◌, ◌++◌, length, slice_get, Option, None, Some, refl, sym, ap, subst, ◌∙◌, arith, append_assoc}
use Rattle.std.specs.List.{list_any}
use Rattle.std.proofs.lemmas.List.{append-nil}
use Rattle.std.proofs.lemmas.Option.{slice_get_past}
use Rattle.jv_model.specs.declared.act.TheConstants.{NO_CLIENT}
use Rattle.jv_model.specs.declared.act.Act.{Act}
use Rattle.jv_model.specs.declared.act.ActKind.{ActKind}
use Rattle.jv_model.specs.declared.act.ActKind.TheVariants.{Settled, Quiet, Crashed, Ticked, Answered}
use Rattle.jv_model.specs.declared.act.Told.TheVariants.{Refused as ToldRefused}
use Rattle.jv_model.specs.declared.fault.Fault.{Fault}
use Rattle.jv_model.specs.declared.fault.Fault.TheVariants.{NoMemory}
use Rattle.jv_model.specs.declared.op.Op.{Op}
use Rattle.jv_model.specs.declared.op.Line.{Line}
use Rattle.jv_model.specs.declared.op.Line.TheVariants.{Empty, Do, Begin, Step, Run, Crash, Drain, Tick}
use Rattle.jv_model.specs.promise.client.Origins.{Owed}
use Rattle.jv_model.specs.promise.client.ModelClient.{Doing}
use Rattle.jv_model.specs.promise.client.Submission.{submission, submitted}
use Rattle.jv_model.specs.promise.journal.State.{State, state_at_start, set_client, effect}
use Rattle.jv_model.specs.promise.journal.Steps.{MayStep, IsEntry}
use Rattle.jv_model.specs.promise.journal.Past.{Setup, Past, Due, NoMore, Refusal, MayLack, ToAnswer, OneStep, StepMade, CrashEntry, TickEntry, DrainEntries, at_start, begun, begun_by, begun_by_due, begun_to, begin_from, begin_next, after_line, is_busy, is_workers, advance, past, reached}
use Rattle.jv_model.specs.promise.journal.Legal.{Allowed, AllAllowed, IsRefusal, IsPublish, IsPublishOf, Drains, OfClient, OfLine, OfWorker}
use Rattle.jv_model.specs.journal.Looks.{entry_at}
use Rattle.jv_model_laws.proofs.JournalGrowthLaws.{past-append, advanced, begun_frame, after_line_begin_next}
use Rattle.jv_model.proofs.ListLaws.{get_front, get_end}

-- entries by their numbers

get_within : (xs : List Act) (i : ℕ) (P : Act → Type 0) → IsSomeAnd (slice_get xs i) P → i < length xs
get_within [] i P h = absurd h
get_within (x ∷ xs) zero P h = omega arith
get_within (x ∷ xs) (suc i) P h = let rest = get_within xs i P h in omega (arith, rest)

pub entry_before : (xs : List Act) (y : Act) (n : ℕ) → n ≤ length xs → entry_at (xs ++ y ∷ []) n ≡ entry_at xs n
entry_before xs y zero h = refl
entry_before xs y (suc i) h = get_front xs (y ∷ []) i (omega arith)

pub entry_last : (xs : List Act) (y : Act) → entry_at (xs ++ y ∷ []) (length xs + 1) ≡ Some y
entry_last xs y = let e : length xs + 1 ≡ suc (length xs) = omega arith in ap (entry_at (xs ++ y ∷ [])) e ∙ get_end xs y

pub entry_past : (xs : List Act) (n : ℕ) → length xs < n → entry_at xs n ≡ None
entry_past xs zero h = refl
entry_past xs (suc i) h = slice_get_past xs i (omega arith)

pub entry_within : (xs : List Act) (n : ℕ) (P : Act → Type 0) → IsSomeAnd (entry_at xs n) P → n ≤ length xs
entry_within xs zero P h = absurd h
entry_within xs (suc i) P h = let rest = get_within xs i P h in omega (arith, rest)

pub none_entered : (n : ℕ) (P : Act → Type 0) → IsSomeAnd (entry_at [] n) P → ⊥
none_entered zero P h = h
none_entered (suc n) P h = h

-- publishes

either_kept : (a b x y : Bool) → (IsTrue x → IsTrue y) → IsTrue (a && b || x) → IsTrue (a || y)
either_kept true b x y f h = refl
either_kept false b x y f h = f h

pub owed_of : (os : List Owed) (client commit : ℕ) → IsTrue (list_any (λ (o : Owed). (o.commit == commit) && (o.client == client)) os) → IsTrue (list_any (λ (o : Owed). o.commit == commit) os)
owed_of [] client commit h = absurd (cc)
owed_of (o ∷ os) client commit h = either_kept (o.commit == commit) (o.client == client) _ _ (owed_of os client commit) h

-- a publish of a client's block is one of a block
pub publish_of : (s : State) (client : ℕ) (kind : ActKind) → IsPublishOf s client kind → IsPublish s kind
publish_of s client (Settled commit) h = owed_of s.owed client commit h
publish_of s client Quiet h = tt
publish_of s client _ h = absurd h

-- what an entry is

pub data Entry (p : Past) (act : Act) : Type 0 where
  Steps : (d : Doing) → (p.state.clients act.client).doing ≡ Some d → MayStep p.run.start (p.run.uploads == 0) p.state act.client act.at (p.state.clients act.client) d act.kind → Entry p act
  RefusedSubmission : (fault : Fault) → p.due ≡ Refusal act.client fault → IsRefusal (is_busy p act.client) fault act.kind → Entry p act
  LacksMemory : p.due ≡ MayLack act.client → act.kind ≡ Answered (ToldRefused NoMemory) → Entry p act
  Crashes : p.due ≡ CrashEntry act.client → act.kind ≡ Crashed → Entry p act
  Publishes : act.client ≡ NO_CLIENT → IsPublish p.state act.kind → Entry p act
  OfDrain : (client : ℕ) → act.client ≡ NO_CLIENT → p.due ≡ DrainEntries client → Drains p.state client act.kind → Entry p act
  Ticks : (by : ℕ) → act.client ≡ NO_CLIENT → act.kind ≡ Ticked by → Entry p act

abbrev StepsAt : Past → Act → ℕ → Bool → Type 0
StepsAt p act client begins = IsEntry p.run.start (p.run.uploads == 0) p.state client act.at act.kind begins

of_client : (p : Past) (act : Act) (client : ℕ) (begins : Bool) → OfClient p act client begins → Entry p act
of_client p act client begins h = let may : StepsAt p act act.client begins = subst (λ c. StepsAt p act c begins) (sym h.own) h.may in Steps may.doing may.busy may.may

refused_of : (p : Past) (act : Act) (client : ℕ) (fault : Fault) → p.due ≡ Refusal client fault → act.client ≡ client → IsRefusal (is_busy p client) fault act.kind → Entry p act
refused_of p act client fault e own h = RefusedSubmission fault (e ∙ ap (λ c. Refusal c fault) (sym own)) (subst (λ c. IsRefusal (is_busy p c) fault act.kind) (sym own) h)

of_line : (p : Past) (act : Act) (due : Due) → p.due ≡ due → OfLine p act due → Entry p act
of_line p act NoMore e h = absurd h
of_line p act (Refusal client fault) e h = refused_of p act client fault e h.0 h.1
of_line p act (MayLack client) e h = LacksMemory (e ∙ ap MayLack (sym h.0)) h.1
of_line p act (ToAnswer client) e h = of_client p act client _ h
of_line p act (OneStep client) e h = of_client p act client true h
of_line p act (StepMade client) e h = of_client p act client false h
of_line p act (CrashEntry client) e h = Crashes (e ∙ ap CrashEntry (sym h.0)) h.1
of_line p act (TickEntry by) e h = Ticks by h.0 h.1
of_line p act (DrainEntries client) e h = OfDrain client h.0 e h.1

of_stands : (p : Past) (act : Act) (worker : Bool) → MatchBool worker (OfWorker p act) (OfLine p act p.due) → Entry p act
of_stands p act true h = Publishes h.1 h.2
of_stands p act false h = of_line p act p.due refl h

pub entry_of : (p : Past) (act : Act) → Allowed p act → Entry p act
entry_of p act h = of_stands p act (is_workers p) h.stands

-- an entry's twin of another kind
abbrev pub of_kind : Act → ActKind → Act
of_kind act kind = record act { kind = kind }

-- the journal and one more entry

pub reached-more : (run : Setup) (pre : List Act) (e : Act) → reached run (pre ++ e ∷ []) ≡ advance (reached run pre) e
reached-more run pre e = past-append (at_start run) pre (e ∷ [])

run_past : (p : Past) (acts : List Act) → (past p acts).run ≡ p.run
run_past p [] = refl
run_past p (act ∷ acts) = run_past (advance p act) acts ∙ (advanced p act).run ∙ (begun_frame act.line p).run

pub run_reached : (run : Setup) (acts : List Act) → (reached run acts).run ≡ run
run_reached run acts = run_past (at_start run) acts

pub state-more : (run : Setup) (pre : List Act) (e : Act) → (reached run (pre ++ e ∷ [])).state ≡ effect (begun_to e.line (reached run pre)).state e
state-more run pre e = ap (λ (p : Past). p.state) (reached-more run pre e) ∙ (advanced (reached run pre) e).state

-- what begun lines and further entries keep

module _ (run : Setup) (P : List Act → State → Type 0)
    (submits : (pre : List Act) (s : State) (client : ℕ) (o : Op) → submission (s.clients client) o ≡ None → P pre s → P pre (set_client s client (submitted run.limits o (s.clients client)))) where
  submits_at : (pre : List Act) (setup : Setup) (s : State) (client : ℕ) (o : Op) → setup ≡ run → submission (s.clients client) o ≡ None → P pre s → P pre (set_client s client (submitted setup.limits o (s.clients client)))
  submits_at pre setup s client o e none h = subst (λ (r : Setup). P pre (set_client s client (submitted r.limits o (s.clients client)))) (sym e) (submits pre s client o none h)

  keeps_due : (pre : List Act) (due : Due) (p : Past) (client : ℕ) (o : Op) (fault : Option Fault) → p.run ≡ run → submission (p.state.clients client) o ≡ fault → P pre p.state → P pre (begun_by_due due p client o fault).state
  keeps_due pre due p client o None e none h = submits_at pre p.run p.state client o e none h
  keeps_due pre due p client o (Some fault) e none h = h

  keeps_idle : (pre : List Act) (p : Past) (due idle : Due) (said : List ℕ) (busy : Bool) → P pre p.state → P pre (if busy then record p { due = due } else record p { due = idle; said = said }).state
  keeps_idle pre p due idle said true h = h
  keeps_idle pre p due idle said false h = h

  keeps_begun : (pre : List Act) (p : Past) (line : Line) → p.run ≡ run → P pre p.state → P pre (begun p line).state
  keeps_begun pre p Empty e h = h
  keeps_begun pre p (Do client o) e h = keeps_due pre (ToAnswer client) p client o _ e refl h
  keeps_begun pre p (Begin client o) e h = keeps_due pre (MayLack client) (record p { said = _ }) client o _ e refl h
  keeps_begun pre p (Step client) e h = keeps_idle pre p (OneStep client) NoMore _ (is_busy p client) h
  keeps_begun pre p (Run client) e h = keeps_idle pre p (ToAnswer client) NoMore _ (is_busy p client) h
  keeps_begun pre p (Crash client) e h = h
  keeps_begun pre p (Drain client) e h = h
  keeps_begun pre p (Tick by) e h = h

  keeps_begin_from : (pre : List Act) (rest : List Line) (p : Past) → p.run ≡ run → P pre p.state → P pre (begin_from rest p).state
  keeps_begin_from pre [] p e h = h
  keeps_begin_from pre (line ∷ rest) p e h = keeps_begun pre (after_line p rest) line e h

  keeps_begin_next : (pre : List Act) (p : Past) → p.run ≡ run → P pre p.state → P pre (begin_next p).state
  unfolding begin_next
  keeps_begin_next pre p e h = keeps_begin_from pre p.rest p e h

  run_by : (n : ℕ) (p : Past) → (begun_by n p).run ≡ p.run
  run_by zero p = refl
  run_by (suc n) p = (after_line_begin_next (begun_by n p)).run ∙ run_by n p

  keeps_begun_by : (pre : List Act) (n : ℕ) (p : Past) → p.run ≡ run → P pre p.state → P pre (begun_by n p).state
  keeps_begun_by pre zero p e h = h
  keeps_begun_by pre (suc n) p e h = keeps_begin_next pre (begun_by n p) (run_by n p ∙ e) (keeps_begun_by pre n p e h)

  pub keeps_begun_to : (pre : List Act) (n : ℕ) (p : Past) → p.run ≡ run → P pre p.state → P pre (begun_to n p).state
  unfolding begun_to
  keeps_begun_to pre n p e h = keeps_begun_by pre (n - p.line) p e h

  module _ (enters : (pre : List Act) (act : Act) → Allowed (begun_to act.line (reached run pre)) act → P pre (begun_to act.line (reached run pre)).state → P (pre ++ act ∷ []) (effect (begun_to act.line (reached run pre)).state act)) where
    pub holds_entry : (pre : List Act) (act : Act) → Allowed (begun_to act.line (reached run pre)) act → P pre (reached run pre).state → P (pre ++ act ∷ []) (reached run (pre ++ act ∷ [])).state
    holds_entry pre act may h = subst (P (pre ++ act ∷ [])) (sym (state-more run pre act)) (enters pre act may (keeps_begun_to pre act.line (reached run pre) (run_reached run pre) h))

    holds_more : (pre acts : List Act) → P pre (reached run pre).state → AllAllowed (reached run pre) acts → P (pre ++ acts) (reached run (pre ++ acts)).state
    holds_more pre [] h may = subst (λ l. P l (reached run l).state) (sym (append-nil pre)) h
    holds_more pre (act ∷ acts) h may =
        subst (λ l. P l (reached run l).state) (append_assoc pre (act ∷ []) acts)
        (holds_more (pre ++ act ∷ []) acts (holds_entry pre act may.0 h) (subst (λ p. AllAllowed p acts) (sym (reached-more run pre act)) may.1))

    pub holds : P [] (state_at_start run.start.tree) → (journal : List Act) → AllAllowed (at_start run) journal → P journal (reached run journal).state
    holds h journal may = holds_more [] journal h may

    -- where the lines up to a number are begun
    pub holds_on : P [] (state_at_start run.start.tree) → (journal : List Act) → AllAllowed (at_start run) journal → (line : ℕ) → P journal (begun_to line (reached run journal)).state
    holds_on h journal may line = keeps_begun_to journal line (reached run journal) (run_reached run journal) (holds h journal may)
