-- Where a line may end, and where the run may stop on it; a line's entries, after those of the lines before it.
use Rattle.std.proofs.Common.{◌≡◌, ℕ, ◌+◌, ◌≤◌, true, false, ◌||◌, not, List, [], ◌∷◌, ◌++◌, length, refl, sym, ap, subst, ◌∙◌, arith}
use Rattle.std.proofs.lemmas.Bool.{or_right}
use Rattle.jv_model.specs.declared.act.Act.{Act}
use Rattle.jv_model.specs.declared.op.Line.{Line}
use Rattle.jv_model.specs.promise.journal.State.{State}
use Rattle.jv_model.specs.promise.journal.Past.{Past, Due, NoMore, Refusal, MayLack, ToAnswer, OneStep, StepMade, CrashEntry, TickEntry, DrainEntries, begun_to, past, is_over, ends_in_step}
use Rattle.jv_model.specs.promise.journal.Legal.{AllAllowed, may_stop}
use Rattle.jv_model_laws.proofs.JournalGrowthLaws.{begun_to-begun, begun_frame, line_allowed, past-begun_to, AllAllowed-begun_to, count_past}
use Rattle.jv_model_laws.specs.OnLines.{Leads, SameLine}
use Rattle.jv_model_laws.proofs.BegunLineLaws.{IsBegun}

-- when a line with this due has all its entries
abbrev pub MayEnd : Due → Past → Type 0
MayEnd NoMore q = Unit {0}
MayEnd (Refusal client fault) q = ⊥
MayEnd (MayLack client) q = Unit {0}
MayEnd (ToAnswer client) q = ⊥
MayEnd (OneStep client) q = ⊥
MayEnd (StepMade client) q = ends_in_step (q.state.clients client) ≡ false
MayEnd (CrashEntry client) q = ⊥
MayEnd (TickEntry by) q = ⊥
MayEnd (DrainEntries client) q = ⊥

over_at : (q : Past) (due : Due) → MayEnd due q → is_over (record q { due = due }) ≡ true
over_at q NoMore h = refl
over_at q (Refusal client fault) h = absurd h
over_at q (MayLack client) h = refl
over_at q (ToAnswer client) h = absurd h
over_at q (OneStep client) h = absurd h
over_at q (StepMade client) h = ap not h
over_at q (CrashEntry client) h = absurd h
over_at q (TickEntry by) h = absurd h
over_at q (DrainEntries client) h = absurd h

pub is_over_at : (q : Past) (due : Due) → q.due ≡ due → MayEnd due q → is_over q ≡ true
is_over_at q due e h = ap (λ d. is_over (record q { due = d })) e ∙ over_at q due h

-- when the run may stop on a line with this due: before a step, or where the last one doesn't end the operation
abbrev pub MayStop : Due → Past → Type 0
MayStop NoMore q = Unit {0}
MayStop (Refusal client fault) q = Unit {0}
MayStop (MayLack client) q = Unit {0}
MayStop (ToAnswer client) q = ends_in_step (q.state.clients client) ≡ false
MayStop (OneStep client) q = Unit {0}
MayStop (StepMade client) q = ends_in_step (q.state.clients client) ≡ false
MayStop (CrashEntry client) q = Unit {0}
MayStop (TickEntry by) q = Unit {0}
MayStop (DrainEntries client) q = Unit {0}

stop_at : (q : Past) (due : Due) → MayStop due q → may_stop (record q { due = due }) ≡ true
stop_at q NoMore h = refl
stop_at q (Refusal client fault) h = refl
stop_at q (MayLack client) h = refl
stop_at q (ToAnswer client) h = ap not h
stop_at q (OneStep client) h = refl
stop_at q (StepMade client) h = ap not h
stop_at q (CrashEntry client) h = refl
stop_at q (TickEntry by) h = refl
stop_at q (DrainEntries client) h = refl

pub stops : (q : Past) (due : Due) → q.due ≡ due → MayStop due q → may_stop q ≡ true
stops q due e h = ap (λ d. may_stop (record q { due = d })) e ∙ stop_at q due h

pub may_be_cut_at : (q : Past) (due : Due) → q.due ≡ due → MayStop due q → (is_over q || may_stop q) ≡ true
may_be_cut_at q due e h = or_right (is_over q) (may_stop q) (stops q due e h)

-- entries of the next line, on the past before it was begun

low_of : (p : Past) (number : ℕ) → p.line + 1 ≡ number → p.line ≤ number
low_of p number next = omega (arith, next)

-- the first entry of the line is of no earlier one
high_of : (q : Past) (act : Act) (acts : List Act) (number : ℕ) → q.line ≡ number → AllAllowed q (act ∷ acts) → number ≤ act.line
high_of q act acts number at h = subst (λ n. n ≤ act.line) at (line_allowed q act h.0)

pub allowed_before : (p q : Past) (number : ℕ) (acts : List Act) → p.line + 1 ≡ number → begun_to number p ≡ q → q.line ≡ number → AllAllowed q acts → AllAllowed p acts
allowed_before p q number [] next begins at h = tt
allowed_before p q number (act ∷ acts) next begins at h = AllAllowed-begun_to number p act acts (low_of p number next) (high_of q act acts number at h) (subst (λ x. AllAllowed x (act ∷ acts)) (sym begins) h)

pub reaches_before : (p q r : Past) (number : ℕ) (acts : List Act) → p.line + 1 ≡ number → begun_to number p ≡ q → q.line ≡ number → r.line ≡ number → Leads q acts r → begun_to number (past p acts) ≡ r
reaches_before p q r number [] next begins at end h = begins ∙ h.reaches
reaches_before p q r number (act ∷ acts) next begins at end h =
    let reached : past p (act ∷ acts) ≡ r = sym (past-begun_to number p act acts (low_of p number next) (high_of q act acts number at h.allowed)) ∙ ap (λ x. past x (act ∷ acts)) begins ∙ h.reaches in
    ap (begun_to number) reached ∙ begun_to-begun number r (omega (arith, end))

pub count_before : (p r : Past) (number : ℕ) (acts : List Act) → begun_to number (past p acts) ≡ r → r.state.count ≡ p.state.count + length acts
count_before p r number acts reaches = ap (λ (x : Past). x.state.count) (sym reaches) ∙ (begun_frame number (past p acts)).count ∙ count_past p acts

-- The entries of the next line, from the past between the lines on: where the run is then.
pub record Joins (p : Past) (more : List Line) (number : ℕ) (acts : List Act) (r : Past) : Type 0 where
  pub allowed : AllAllowed p acts
  pub reaches : begun_to number (past p acts) ≡ r
  pub line : r.line ≡ number
  pub run : r.run ≡ p.run
  pub rest : r.rest ≡ more
  pub printed : r.printed ≡ p.printed ++ p.said
  pub complete : r.complete ≡ true
  pub count : r.state.count ≡ p.state.count + length acts

pub joins : (p q r : Past) (more : List Line) (number : ℕ) (due : Due) (said : List ℕ) (state : State) (acts : List Act) → p.line + 1 ≡ number → begun_to number p ≡ q → IsBegun p more due said state q
    → Leads q acts r → SameLine q r → Joins p more number acts r
joins p q r more number due said state acts next begins b h same =
    let at : q.line ≡ number = b.line ∙ next in
    let end : r.line ≡ number = same.line ∙ at in
    let reaches = reaches_before p q r number acts next begins at end h in
    record {
      allowed = allowed_before p q number acts next begins at h.allowed;
      reaches = reaches;
      line = end;
      run = same.run ∙ b.run;
      rest = same.rest ∙ b.rest;
      printed = same.printed ∙ b.printed;
      complete = same.complete ∙ b.complete;
      count = count_before p r number acts reaches;
    }
