-- How a run gets from line to line.
use Rattle.std.proofs.Common.{◌≡◌, ℕ, ◌+◌, ◌-◌, ◌≤◌, ◌&&◌, ◌||◌, true, List, [], ◌∷◌, ◌++◌, length, inl, inr, refl, sym, ap, subst, ◌∙◌, arith}
use Rattle.std.proofs.lemmas.Bool.{cases_lt, and_from, or_left}
use Rattle.std.proofs.lemmas.List.{append-nil}
use Rattle.jv_model.specs.declared.act.Act.{Act}
use Rattle.jv_model.specs.declared.op.Line.{Line}
use Rattle.jv_model.specs.declared.op.Line.TheVariants.{Empty}
use Rattle.jv_model.specs.promise.journal.Legal.{Legal, AllAllowed, may_be_cut, may_stop}
use Rattle.jv_model.specs.promise.journal.Past.{Past, Setup, NoMore, is_over, at_start, begun, after_line, begin_from, begin_next, begun_by, begun_to, past, reached, at_end, text_of}
use Rattle.jv_model_laws.proofs.JournalGrowthLaws.{begun_to-twice, begun_to-next, past-append, AllAllowed-append, past-begun_to, AllAllowed-begun_to}
use Rattle.jv_client_shared.specs.promise.Shared.{Shared}
use Rattle.jv_outside.specs.promise.Ticks.{Ticks}
use Rattle.jv_outside.proofs.StreamLaws.{Gains-nil}
use Rattle.jv_session.specs.Lines.{LineState, LeavesAll, SaysLine, Cut}
use Rattle.jv_session.specs.Stands.{InLine, ScheduleValue, Stands}
use Rattle.jv_session.proofs.UsesLaws.{blocks_stay, no_failures, uses_nothing}
use Rattle.jv_cmd.specs.Steps.{IsAt, Reaches, Goes, Advances, PrintsLine, used}
use Rattle.jv_cmd.specs.promise.Stages.{StageValue}

-- a past that reaches a line wasn't past it
pub low : (n : ℕ) (p : Past) → (begun_to n p).line ≡ n → p.line ≤ n
unfolding begun_to
low n p e = elim (cases_lt n p.line) [
  | inl above ↦
      let none : n - p.line ≡ 0 = omega (arith, above) in
      let same : (begun_by (n - p.line) p).line ≡ p.line = ap (λ k. (begun_by k p).line) none in
      omega (arith, same, e)
  | inr below ↦ below
]

-- the entries of a line after those of the lines before it
joined : (n : ℕ) (p : Past) (journal acts : List Act) → (begun_to n (past p journal)).line ≡ n → AllAllowed p journal
    → AllAllowed (begun_to n (past p journal)) acts
    → AllAllowed p (journal ++ acts) × (begun_to (n + 1) (past (begun_to n (past p journal)) acts) ≡ begun_to (n + 1)
    (past p (journal ++ acts)))
joined n p journal [] e before allowed = (
  subst (λ acts. AllAllowed p acts) (sym (append-nil journal)) before,
  begun_to-twice (n + 1) n (past p journal) (low n (past p journal) e) (omega arith)
      ∙ ap (λ acts. begun_to (n + 1) (past p acts)) (sym (append-nil journal)),
)
joined n p journal (act ∷ acts) e before allowed =
    let here = low n (past p journal) e in
    let later = low act.line (begun_to n (past p journal)) allowed.0.line in
    let own : n ≤ act.line = omega (arith, later, e) in (
      AllAllowed-append p journal (act ∷ acts) before (AllAllowed-begun_to n
          (past p journal) act acts here own allowed),
      ap (begun_to (n + 1)) (past-begun_to n (past p journal) act acts here own
          ∙ sym (past-append p journal (act ∷ acts))),
    )

-- one line more
pub Reaches-more : (run : Setup) (line : Line) (more : List Line) (n asked asks : ℕ) (text printed : List ℕ)
    (journal journal' : List Act) (s s' : ScheduleValue) (k k' : Shared)
    → Reaches run (line ∷ more) n asked text journal s k
    → Goes (begun_to n (reached run journal)) more (n + 1) asks journal journal' printed s' k'
    → Reaches run more (n + 1) (asked + asks) (text ++ printed) journal' s' k'
Reaches-more run line more n asked asks text printed journal journal' s s' k k' r g =
    let both = joined n (at_start run) journal g.acts r.at.line r.allowed g.allowed in
    let there : begun_to (n + 1) (past (begun_to n (reached run journal)) g.acts) ≡ begun_to (n + 1)
    (reached run journal') =
    both.1 ∙ ap (λ acts. begun_to (n + 1) (reached run acts)) (sym g.grows) in
    record {
      allowed = subst (λ acts. AllAllowed (at_start run) acts) (sym g.grows) both.0;
      at = subst (λ q. IsAt q run more (n + 1) (asked + asks) (length journal') (text ++ printed) s' k') there (record {
        line = g.at.line;
        stands = g.at.stands;
        same_run = g.at.same_run ∙ r.at.same_run;
        rest = g.at.rest;
        count = g.at.count;
        asked = g.at.asked ∙ ap (λ k. k + asks) r.at.asked;
        text = g.at.text ∙ ap (λ before. before ++ printed) r.at.text;
      });
    }

-- a line that was run
pub Advances-said : (line : Line) (number : ℕ) (before after : StageValue) (s s' : ScheduleValue) (text : List ℕ)
    → SaysLine line number (used before s) (used after s') text → Advances line number before after s s' text
Advances-said line number before after s s' text says = record {
  asks = says.asks;
  failed = says.failed;
  uses = says.uses;
  goes = λ p more stands next rest count clock.
      let ran = says.runs p more stands next rest count clock in
      let a = ran.appends in
      record {
        acts = ran.acts;
        grows = a.grows;
        allowed = a.allowed;
        at = subst (λ q. IsAt q p.run more number (p.asked + says.asks) (length after.journal)
            (p.printed ++ p.said ++ text) s' after.devices) (sym a.reaches) (record {
              line = a.line;
              stands = ran.stands;
              same_run = a.same_run;
              rest = a.rest;
              count = a.count;
              asked = a.asked;
              text = ap (λ printed. printed ++ ran.end.said) a.printed ∙ ap (λ said. p.printed ++ p.said ++ said) ran.said;
            });
      };
  direct = λ p more stands next rest count clock. (says.runs p more stands next rest count clock).direct;
}

-- where nothing more is due of the present line, the schedule stands too
pub Stands-settled : (p : Past) (s : ScheduleValue) (k : Shared) → Stands p s k → Stands (record p { due = NoMore }) s k
Stands-settled p s k st = record {
  in_line = record {
    complete = st.in_line.complete;
    at = st.in_line.at;
    last = st.in_line.last;
    ticks = st.in_line.ticks;
    alone = st.in_line.alone;
    limits = st.in_line.limits;
    setting = st.in_line.setting;
    known = st.in_line.known;
    state = st.in_line.state;
  };
  over = refl;
}

-- an empty line does nothing
Stands-after_line : (p : Past) (more : List Line) (s : ScheduleValue) (k : Shared) → Stands p s k
    → Stands (begun (after_line p more) Empty) s k
Stands-after_line p more s k st = record {
  in_line = record {
    complete = and_from p.complete (is_over p) st.in_line.complete st.over;
    at = st.in_line.at;
    last = st.in_line.last;
    ticks = st.in_line.ticks;
    alone = st.in_line.alone;
    limits = st.in_line.limits;
    setting = st.in_line.setting;
    known = st.in_line.known;
    state = st.in_line.state;
  };
  over = refl;
}

next_is : (p : Past) (more : List Line) → p.rest ≡ Empty ∷ more → begin_next p ≡ begun (after_line p more) Empty
unfolding begin_next
next_is p more e = ap (λ rest. begin_from rest p) e

pub Advances-quiet : (line : Line) (number : ℕ) (before after : StageValue) (s s' : ScheduleValue)
    → line ≡ Empty → LeavesAll (used before s) (used after s') → Advances line number before after s s' []
Advances-quiet line number before after s s' empty leaves = record {
  asks = 0;
  failed = no_failures;
  uses = uses_nothing (used before s) (used after s') (ap (λ (ticks : Ticks). ticks.answers) leaves.clock) leaves.devices leaves.journal
      leaves.schedule;
  goes = λ p more stands next rest count clock.
      let is : begun (after_line p more) Empty ≡ begun_to number p =
      sym (begun_to-next number p next ∙ next_is p more (rest ∙ ap (λ (l : Line). l ∷ more) empty)) in
      record {
        acts = [];
        grows = leaves.journal ∙ sym (append-nil before.journal);
        allowed = tt;
        at = subst (λ q. IsAt q p.run more number (p.asked + 0) (length after.journal)
            (p.printed ++ p.said ++ []) s' after.devices) is (record {
              line = next;
              stands = subst (λ v. Stands (begun (after_line p more) Empty) v after.devices) (sym leaves.schedule)
                  (subst (λ k. Stands (begun (after_line p more) Empty) s k) (sym leaves.devices)
                  (Stands-after_line p more s before.devices stands));
              same_run = refl;
              rest = refl;
              count = count ∙ ap length (sym leaves.journal);
              asked = omega arith;
              text = refl;
            });
      };
  direct = λ p more stands next rest count clock. blocks_stay before.devices after.devices leaves.devices;
}

-- a line that does nothing prints nothing
pub PrintsLine-empty : (number : ℕ) (world : StageValue) (s : ScheduleValue) → PrintsLine Empty number world world s s
PrintsLine-empty number world s = record {
  printed = [];
  runs = Advances-quiet Empty number world world s s refl
      (record { clock = refl; devices = refl; journal = refl; schedule = refl });
  writes = record { gains = Gains-nil world.out.content; calm = refl };
  clock = refl;
}

-- the end of a run all of whose lines were run
at_the_end : (run : Setup) (n asked : ℕ) (text : List ℕ) (journal : List Act) (s : ScheduleValue) (k : Shared)
    → length run.script ≡ n → Reaches run [] n asked text journal s k
    → IsAt (at_end run journal) run [] n asked (length journal) text s k
at_the_end run n asked text journal s k size r = subst
    (λ m. IsAt (begun_to m (reached run journal)) run [] n asked (length journal) text s k) (sym size) r.at

pub Legal-reached : (run : Setup) (n asked : ℕ) (text : List ℕ) (journal : List Act) (s : ScheduleValue) (k : Shared)
    → length run.script ≡ n → Reaches run [] n asked text journal s k → Legal run journal
Legal-reached run n asked text journal s k size r =
    let end = at_the_end run n asked text journal s k size r in
    record {
      allowed = r.allowed;
      ends = and_from (at_end run journal).complete (is_over (at_end run journal) || may_be_cut run.status && may_stop
          (at_end run journal)) end.stands.in_line.complete
          (or_left (is_over (at_end run journal)) (may_be_cut run.status && may_stop (at_end run journal))
          end.stands.over);
    }

pub text_of-reached : (run : Setup) (n asked : ℕ) (text : List ℕ) (journal : List Act) (s : ScheduleValue) (k : Shared)
    → length run.script ≡ n → Reaches run [] n asked text journal s k → text_of run journal ≡ text
text_of-reached run n asked text journal s k size r = (at_the_end run n asked text journal s k size r).text

pub Stands-reached : (run : Setup) (n asked : ℕ) (text : List ℕ) (journal : List Act) (s : ScheduleValue) (k : Shared)
    → length run.script ≡ n → Reaches run [] n asked text journal s k → Stands (at_end run journal) s k
Stands-reached run n asked text journal s k size r = (at_the_end run n asked text journal s k size r).stands

-- the end of a run whose last line was cut off
module _ (run : Setup) (line : Line) (n asked asks : ℕ) (text : List ℕ) (now later : LineState)
    (size : length run.script ≡ n + 1) (r : Reaches run (line ∷ []) n asked text now.journal now.schedule now.devices)
    (c : Cut (begun_to n (reached run now.journal)) [] (n + 1) asks now later) where
  both : AllAllowed (at_start run) (now.journal ++ c.acts) ×
      (begun_to (n + 1) (past (begun_to n (reached run now.journal)) c.acts) ≡ begun_to (n + 1)
      (reached run (now.journal ++ c.acts)))
  both = joined n (at_start run) now.journal c.acts r.at.line r.allowed c.appends.allowed

  cut_end : c.end ≡ at_end run later.journal
  cut_end = sym c.appends.reaches ∙ both.1 ∙ ap (λ acts. begun_to (n + 1) (reached run acts)) (sym c.appends.grows)
      ∙ ap (λ k. begun_to k (reached run later.journal)) (sym size)

  pub Legal-cut : may_be_cut run.status ≡ true → Legal run later.journal
  Legal-cut cuts = record {
    allowed = subst (λ acts. AllAllowed (at_start run) acts) (sym c.appends.grows) both.0;
    ends = subst (λ q. (q.complete && (is_over q || may_be_cut run.status && may_stop q)) ≡ true) cut_end
        (and_from c.end.complete (is_over c.end || may_be_cut run.status && may_stop c.end) c.stands.complete
        (subst (λ cut. (is_over c.end || cut && may_stop c.end) ≡ true) (sym cuts) c.stops));
  }

  pub printed-cut : (at_end run later.journal).printed ≡ text
  printed-cut = ap (λ (q : Past). q.printed) (sym cut_end) ∙ c.appends.printed ∙ r.at.text

  pub InLine-cut : InLine (at_end run later.journal) later.schedule later.devices
  InLine-cut = subst (λ (q : Past). InLine q later.schedule later.devices) cut_end c.stands
