-- The entries of one line after those of the lines before it.
use Rattle.std.proofs.Common.{◌≡◌, ℕ, ◌+◌, ◌≤◌, List, [], ◌∷◌, ◌++◌, Option, None, refl, sym, ap, subst, ◌∙◌, arith}
use Rattle.jv_model.specs.declared.act.Act.{Act}
use Rattle.jv_model.specs.declared.fault.Device.{Device}
use Rattle.jv_model.specs.declared.op.Line.{Line}
use Rattle.jv_model.specs.promise.journal.Legal.{AllAllowed}
use Rattle.jv_model.specs.promise.journal.Past.{Past, Setup, NoMore, begun_to, past, reached}
use Rattle.jv_outside.specs.promise.Ticks.{Passes}
use Rattle.jv_client_shared.specs.promise.Shared.{Shared}
use Rattle.jv_session.specs.Lines.{AnswersSo, Cut, FromThere}
use Rattle.jv_session.specs.promise.Lines.{AreFailures}
use Rattle.jv_session.specs.Stands.{ClockFor, ScheduleValue, Stands}
use Rattle.jv_session.proofs.UsesLaws.{both_failures, failures_both}
use Rattle.jv_cmd.specs.promise.Run.{Beginning, IsKnownClock, StartsWhole, session_run, up_to}
use Rattle.jv_cmd.specs.promise.Stages.{StageValue}
use Rattle.jv_cmd.specs.Steps.{AreBetween, Done, Goes, used}
use Rattle.jv_cmd.proofs.runs.ActLaws.{AreBetween-own, up_to-all, up_to-front}
use Rattle.jv_cmd.proofs.streams.ReadingLaws.{ClockFor-now, IsKnownClock-earlier}
use Rattle.jv_cmd.proofs.runs.StepLaws.{Stands-settled}

-- where `n` lines are done in a run of any lines to come
abbrev pub there : Beginning → Option (ℕ → ℕ) → List Line → ℕ → ℕ → List Act → Past
there start known lines status n journal = begun_to n (reached (session_run start known lines status) journal)

-- the outcome of the next line there, where the run began on a whole volume
module _ (left : Option (List ℕ)) (before now after : StageValue) (n : ℕ) (text : List ℕ) (line : Line)
    (s s' : ScheduleValue) (d : Done left before now n text s)
    (asks : ℕ) (passes : Passes now.clock.answers after.clock.answers asks) (start : Beginning)
    (w : StartsWhole before start) where
  pub clock_there : (known : Option (ℕ → ℕ)) (more : List Line) (status : ℕ) → IsKnownClock known before.clock after.clock
      → let p = there start known (d.lines ++ line ∷ more) status n now.journal in ClockFor p.run.clock p.asked
      now.clock.answers after.clock.answers
  clock_there known more status t =
      let here = ((d.whole start w).reaches known (line ∷ more) status
      (IsKnownClock-earlier known before now after asks passes t)).at in
      let p = there start known (d.lines ++ line ∷ more) status n now.journal in
      subst (λ asked. ClockFor p.run.clock asked now.clock.answers after.clock.answers) (sym here.asked)
      (subst (λ (setup : Setup). ClockFor setup.clock d.asked now.clock.answers after.clock.answers)
      (sym here.same_run) (ClockFor-now known before now after d.asked t d.uses.passes))

  pub comes : (Comes : Past → List Line → Type 0) → FromThere line (n + 1) (used now s) (used after s') Comes
      → (known : Option (ℕ → ℕ)) (more : List Line) (status : ℕ) → IsKnownClock known before.clock after.clock
      → Comes (there start known (d.lines ++ line ∷ more) status n now.journal) more
  comes Comes from known more status t =
      let here = ((d.whole start w).reaches known (line ∷ more) status
      (IsKnownClock-earlier known before now after asks passes t)).at in
      from (there start known (d.lines ++ line ∷ more) status n now.journal) more here.stands
      (ap (λ k. k + 1) here.line) here.rest here.count (clock_there known more status t)

  -- also where nothing more is due of the line before
  pub comes_settled : (Comes : Past → List Line → Type 0) → FromThere line (n + 1) (used now s) (used after s') Comes
      → Comes (record (there start None (d.lines ++ line ∷ []) 0 n now.journal) { due = NoMore }) []
  comes_settled Comes from =
      let here = ((d.whole start w).reaches None (line ∷ []) 0 tt).at in
      let p = there start None (d.lines ++ line ∷ []) 0 n now.journal in
      from (record p { due = NoMore }) [] (Stands-settled p s now.devices here.stands)
      (ap (λ k. k + 1) here.line) here.rest here.count (clock_there None [] 0 tt)

-- entries after a journal take a past to a line
pub record Enters (p : Past) (number : ℕ) (before after : List Act) : Type 0 where
  pub acts : List Act
  pub grows : after ≡ before ++ acts
  pub allowed : AllAllowed p acts
  pub line : (begun_to number (past p acts)).line ≡ number

-- entries of the next line alone were appended
pub record OfNext (n : ℕ) (before after : List Act) : Type 0 where
  pub acts : List Act
  pub grows : after ≡ before ++ acts
  pub own : AreBetween (n + 1) (n + 1) acts

pub OfNext-from : (n : ℕ) (p : Past) (before after : List Act) (s : ScheduleValue) (k : Shared) → p.line ≡ n
    → p.due ≡ NoMore → Stands p s k → Enters p (n + 1) before after → OfNext n before after
OfNext-from n p before after s k here none stands e =
    record {
      acts = e.acts;
      grows = e.grows;
      own = AreBetween-own n p e.acts here none
          (stands.in_line.alone (p.state.count + 1)) e.allowed e.line;
    }

pub OfNext-settled : (left : Option (List ℕ)) (before now after : StageValue) (n : ℕ) (text : List ℕ) (line : Line)
    (s : ScheduleValue) (d : Done left before now n text s)
    (start : Beginning) → StartsWhole before start
    → Enters (record (there start None (d.lines ++ line ∷ []) 0 n now.journal) { due = NoMore })
    (n + 1) now.journal after.journal → OfNext n now.journal after.journal
OfNext-settled left before now after n text line s d start w e =
    let here = ((d.whole start w).reaches None (line ∷ []) 0 tt).at in
    let p = there start None (d.lines ++ line ∷ []) 0 n now.journal in
    OfNext-from n (record p { due = NoMore }) now.journal after.journal s now.devices here.line refl
    (Stands-settled p s now.devices here.stands) e

pub Enters-goes : (p : Past) (more : List Line) (number asks : ℕ) (before after : List Act) (text : List ℕ)
    (s : ScheduleValue) (k : Shared) → Goes p more number asks before after text s k
    → Enters p number before after
Enters-goes p more number asks before after text s k g =
    record { acts = g.acts; grows = g.grows; allowed = g.allowed; line = g.at.line }

pub Enters-cut : (p : Past) (more : List Line) (number asks : ℕ) (before after : StageValue) (s s' : ScheduleValue)
    → Cut p more number asks (used before s) (used after s') → Enters p number before.journal after.journal
Enters-cut p more number asks before after s s' c =
    record {
      acts = c.acts;
      grows = c.appends.grows;
      allowed = c.appends.allowed;
      line = ap
          (λ (q : Past). q.line) c.appends.reaches ∙ c.appends.line;
    }

-- the entries of the lines before stay
pub up_to-before : (n k : ℕ) (before after : List Act) → OfNext n before after → k ≤ n → up_to k before ≡ up_to k after
up_to-before n k before after o small = sym (ap (up_to k) o.grows ∙ up_to-front n k before o.acts small o.own)

pub up_to-now : (n : ℕ) (before after : List Act) → OfNext n before after → AreBetween 0 n before → before ≡ up_to n after
up_to-now n before after o own = sym (up_to-all 0 n n before (omega arith) own)
    ∙ up_to-before n n before after o (omega arith)

-- entries that were appended answer of each device as often as `more` says that it failed
pub failures_more : (journal after : List Act) (failed more : Device → ℕ) → AreFailures journal failed
    → AnswersSo journal after more → AreFailures after (both_failures failed more)
failures_more journal after failed more first last =
    subst (λ entries. AreFailures entries (both_failures failed more)) (sym last.grows)
    (failures_both journal last.acts failed more first last.failures)
