-- A client's operation is run to its end, step by step.
use Rattle.std.proofs.Common.{◌≡◌, ℕ, ◌+◌, ◌<◌, true, List, [], ◌++◌, length, map, slice_get, slice_set, Option, None, Some, Result, Ok, Err, refl, sym, ap, subst, ◌∙◌, arith}
use Rattle.std.specs.Prelude.{is_some, IfOk}
use Rattle.std.specs.declared.alloc.AllocError.{AllocError}
use Rattle.std.proofs.lemmas.List.{append_assoc}
use Rattle.jv_model.specs.declared.act.Act.{Act}
use Rattle.jv_model.specs.declared.fault.Device.{Device}
use Rattle.jv_model.specs.declared.op.Reply.{Reply}
use Rattle.jv_model.specs.declared.op.Step.{Step}
use Rattle.jv_model.specs.declared.op.Step.TheVariants.{More, Done, Broken}
use Rattle.jv_model.specs.declared.row.RowKey.{RowKey}
use Rattle.jv_model.specs.declared.setting.Setting.{Setting}
use Rattle.jv_model.specs.promise.journal.Past.{Past, Setup, NoMore, ToAnswer}
use Rattle.jv_model.specs.journal.Stepping.{entry_of}
use Rattle.jv_model.specs.promise.script.ReplyText.{printed_line}
use Rattle.jv_model_laws.proofs.LineEntryLaws.{leads_more, same_line-then}
use Rattle.jv_model_laws.proofs.EndedLineLaws.{is_over_at, may_be_cut_at}
use Rattle.jv_model_laws.proofs.LineStepLaws.{ToItsEnd}
use Rattle.jv_outside.specs.promise.Causes.{Rose}
use Rattle.jv_outside.specs.promise.Ticks.{Ticks, Passes}
use Rattle.jv_outside.proofs.TicksLaws.{Passes-trans}
use Rattle.jv_volume_bytes.proofs.BlockLaws.{grows-then}
use Rattle.jv_client_shared.specs.promise.Shared.{depot_in}
use Rattle.jv_client.specs.ClientValue.{ClientValue}
use Rattle.jv_client.specs.UnderWay.{steps_left}
use Rattle.jv_client.proofs.steps.StepOfLaws.{falls-of}
use Rattle.jv_session.specs.declared.line_end.LineEnd.{LineEnd}
use Rattle.jv_session.specs.declared.line_end.LineEnd.TheVariants.{Broken as LineBroken}
use Rattle.jv_session.specs.declared.line_end.Stopped.{Stopped}
use Rattle.jv_session.specs.declared.line_end.Stopped.TheVariants as stopped
use Rattle.jv_session.specs.Stands.{ScheduleValue, ClockFor, InLine, IsYardOf, busy_in, client_is_busy}
use Rattle.jv_session.specs.promise.Direct.{BlocksStay}
use Rattle.jv_session.specs.Lines.{LineState, LineUses}
use Rattle.jv_session.specs.InLine.{Goes, Finish, Break, Breaks, FromLine, LineGoes, LineSays, StopsBefore, RunsToEnd, at_moment, end_of}
use Rattle.jv_session.proofs.MemberLaws.{slice_get-set}
use Rattle.jv_session.proofs.UsesLaws.{blocks_stay, both_failures, no_failures, stopped_bad, uses_none, uses_nothing, uses_still, uses_then}
use Rattle.jv_session.proofs.InLineLaws.{LeavesRest, StepMade, Stepped, Stepping, clock_later, failed_in, goes_none, in_line-left, line_goes_on, says, step_made, stepped_uses}

-- entries one after another
goes_then : (q r t : Past) (m n : ℕ) (before mid after xs ys : List Act) → Goes q m before mid xs r
    → Goes r n mid after ys t → Goes q (m + n) before after (xs ++ ys) t
goes_then q r t m n before mid after xs ys h g = record {
  grows = g.grows ∙ ap (λ all. all ++ ys) h.grows ∙ append_assoc before xs ys;
  leads = leads_more q r t xs ys h.leads g.leads;
  same = same_line-then q r t h.same g.same;
  count = g.count;
  asked = g.asked ∙ ap (λ k. k + n) h.asked ∙ (let e : q.asked + m + n ≡ q.asked + (m + n) = omega arith in e);
}

-- a client's operation that is run to its end, so far

pub record SoFar (q : Past) (client asks : ℕ) (start now : LineState) : Type 0 where
  pub acts : List Act
  pub there : Past
  pub goes : Goes q asks start.journal now.journal acts there
  pub in_line : InLine there now.schedule now.devices
  pub direct : BlocksStay start.devices now.devices
  pub due : there.due ≡ ToAnswer client

-- from each past where the line may stand, when the clock's answers from here on are those of the run's clock
abbrev pub LeadsSoFar : (client number asks : ℕ) → LineState → LineState → Type 0
LeadsSoFar client number asks start now = (final : Option (ℕ → ℕ)) (n : ℕ) (q : Past) → RunsToEnd client q
    → InLine q start.schedule start.devices → q.line ≡ number
    → q.state.count ≡ length start.journal → ClockFor q.run.clock q.asked start.clock.answers final
    → Passes now.clock.answers final n → SoFar q client asks start now

pub record Reached (client number : ℕ) (start now : LineState) : Type 0 where
  pub asks : ℕ
  pub failed : Device → ℕ
  pub uses : LineUses start now asks failed
  pub calm : now.clock.faults ≡ start.clock.faults
  pub busy : client_is_busy now.schedule client ≡ true
  pub yard : IsYardOf now.schedule now.devices.yard
  pub leads : LeadsSoFar client number asks start now

pub reached_none : (client number : ℕ) (start : LineState) → client_is_busy start.schedule client ≡ true
    → IsYardOf start.schedule start.devices.yard → Reached client number start start
reached_none client number start busy yard = record {
  asks = 0;
  failed = no_failures;
  uses = uses_none start;
  calm = refl;
  busy = busy;
  yard = yard;
  leads = λ final n q due h line count clock passes.
      record {
        acts = [];
        there = q;
        goes = goes_none q start.journal count;
        in_line = h;
        direct = blocks_stay start.devices start.devices refl;
        due = due;
      };
}

-- the steps that the client's operation still makes before its last one
abbrev steps_in : Option ClientValue → ℕ
steps_in None = 0
steps_in (Some c) = steps_left c

abbrev pub steps_at : ScheduleValue → ℕ → ℕ
steps_at s client = steps_in (slice_get s.clients client)

some_busy : (o : Option ClientValue) → busy_in o ≡ true → (c : ClientValue) × (o ≡ Some c)
some_busy None busy = absurd (cc busy)
some_busy (Some c) busy = (c, refl)

busy_set : (clients : List ClientValue) (k : ℕ) (old new : ClientValue) → slice_get clients k ≡ Some old
    → is_some new.doing ≡ true
    → busy_in (slice_get (slice_set clients k new) k) ≡ true
busy_set clients k old new found busy = ap busy_in (slice_get-set clients k new old found) ∙ busy

module _ (client number : ℕ) (start now later : LineState) (h : Reached client number start now) where
  -- a step more, of those so far
  module _ (step : Step) (m : Stepped number client now later step) where
    abbrev failed_then : Device → ℕ
    failed_then = both_failures h.failed (failed_in number client now later step m)

    uses_more : LineUses start later (h.asks + 1) failed_then
    uses_more = uses_then start now later h.asks 1 h.failed (failed_in number client now later step m) h.uses
        (stepped_uses number client now later step m)

    calm_more : later.clock.faults ≡ start.clock.faults
    calm_more = m.moment.answered.calm ∙ h.calm

    step_more : (final : Option (ℕ → ℕ)) (n : ℕ) (q : Past) → q.line ≡ number
        → ClockFor q.run.clock q.asked start.clock.answers final → Passes now.clock.answers final n
        → (f : SoFar q client h.asks start now) → StepMade (ToAnswer client) f.there client now later step
    step_more final n q line clock passes f =
        let there = f.there in
        let told : ClockFor q.run.clock (q.asked + h.asks) now.clock.answers final =
        clock_later q.asked h.asks q.run.clock start.clock.answers now.clock.answers final h.uses.passes clock in
        let told_there : ClockFor there.run.clock there.asked now.clock.answers final =
        subst (λ k. ClockFor there.run.clock k now.clock.answers final) (sym f.goes.asked)
        (subst (λ (run : Setup). ClockFor run.clock (q.asked + h.asks) now.clock.answers final) (sym f.goes.same.run)
        told) in
        step_made number client now later step m (ToAnswer client) there f.in_line f.goes.count n final
        (ToItsEnd refl) f.due (f.goes.same.line ∙ line) passes told_there

    module _ (q : Past) (f : SoFar q client h.asks start now)
        (made : StepMade (ToAnswer client) f.there client now later step) where
      abbrev acts_then : List Act
      acts_then = map (entry_of f.there.line made.now client) made.kinds

      goes_more : Goes q (h.asks + 1) start.journal later.journal (f.acts ++ acts_then) made.end
      goes_more = goes_then q f.there made.end h.asks 1 start.journal now.journal later.journal f.acts acts_then
          f.goes made.goes

      direct_more : BlocksStay start.devices later.devices
      direct_more = grows-then (depot_in start.devices) (depot_in now.devices) (depot_in later.devices) f.direct made.direct

  leads_more_steps : (m : Stepped number client now later More)
      → LeadsSoFar client number (h.asks + 1) start later
  leads_more_steps m final n q due line_at line count clock passes =
      let all = Passes-trans now.clock.answers later.clock.answers final 1 n m.moment.answered.passes passes in
      let f = h.leads final (1 + n) q due line_at line count clock all in
      let made = step_more More m final (1 + n) q line clock all f in
      record {
        acts = f.acts ++ acts_then More m q f made;
        there = made.end;
        goes = goes_more More m q f made;
        in_line = made.in_line;
        direct = direct_more More m q f made;
        due = made.on.after.due_is;
      }

  reached_more : Stepped number client now later More → Reached client number start later
  reached_more m = record {
    asks = h.asks + 1;
    failed = failed_then More m;
    uses = uses_more More m;
    calm = calm_more More m;
    busy = ap (λ (v : ScheduleValue). client_is_busy v client) m.same
        ∙ busy_set now.schedule.clients client m.old m.new m.found (falls-of m.steps).1;
    yard = (stepped_uses number client now later More m).yard h.yard;
    leads = leads_more_steps m;
  }

  -- its last step
  reached_done : (reply : Reply) (m : Stepped number client now later (Done reply))
      → FromLine (RunsToEnd client) number start later
      (λ q. Finish q (h.asks + 1) start later (printed_line later.schedule.setting reply))
  reached_done reply m q due line_at line count clock =
      let passes = m.moment.answered.passes in
      let f = h.leads later.clock.answers 1 q due line_at line count clock passes in
      let made = step_more (Done reply) m later.clock.answers 1 q line clock passes f in
      record {
        acts = f.acts ++ acts_then (Done reply) m q f made;
        end = made.end;
        goes = goes_more (Done reply) m q f made;
        in_line = made.in_line;
        direct = direct_more (Done reply) m q f made;
        over = is_over_at made.end NoMore made.on.after.due_is tt;
        said = made.on.after.said_is ∙ ap (λ (setting : Setting). printed_line setting reply) made.in_line.setting;
      }

  -- it never reaches a row that is Bad
  never_bad : (key : RowKey) (bytes : List ℕ) → Stepped number client now later (Broken key bytes)
      → FromLine (RunsToEnd client) number start later (λ q. ⊥)
  never_bad key bytes m q due line_at line count clock =
      let passes = m.moment.answered.passes in
      let f = h.leads later.clock.answers 1 q due line_at line count clock passes in
      (step_more (Broken key bytes) m later.clock.answers 1 q line clock passes f).on.after

  -- it stopped before a step

  break_there : (c : ClientValue) → slice_get now.schedule.clients client ≡ Some c
      → Passes now.clock.answers later.clock.answers 0 → LeavesRest now later
      → FromLine (RunsToEnd client) number start later (λ q. Break q h.asks start later)
  break_there c found none left q due line_at line count clock =
      let f = h.leads later.clock.answers 0 q due line_at line count clock none in
      record {
        acts = f.acts;
        end = f.there;
        goes = subst (λ more. Goes q h.asks start.journal more f.acts f.there) (sym left.journal) f.goes;
        in_line = in_line-left f.there now later left f.in_line;
        direct = grows-then (depot_in start.devices) (depot_in now.devices) (depot_in later.devices) f.direct
            (blocks_stay now.devices later.devices left.devices);
        stops = may_be_cut_at f.there (ToAnswer client) f.due
            (line_goes_on f.there now.schedule now.devices client c f.in_line found);
      }

  breaks_there : (c : ClientValue) → slice_get now.schedule.clients client ≡ Some c
      → later.clock.answers ≡ now.clock.answers → LeavesRest now later
      → Breaks (RunsToEnd client) number start later
  breaks_there c found answers left =
      let still = uses_nothing now later answers left.devices left.journal left.schedule in
      record {
        asks = h.asks;
        failed = h.failed;
        uses = uses_still start now later h.asks h.failed h.uses still left.journal;
        goes = break_there c found still.passes left;
      }

  reached_stops : (why : Stopped) (c : ClientValue) → slice_get now.schedule.clients client ≡ Some c
      → StopsBefore now.clock later.clock why → LeavesRest now later
      → LineGoes (RunsToEnd client) number start later (end_of why)
  reached_stops stopped.Clock c found stops left = (
    breaks_there c found stops.0 left,
    subst
        (λ k. Rose k later.clock.faults) h.calm stops.1,
  )
  reached_stops stopped.Memory c found stops left =
      (breaks_there c found (ap (λ (t : Ticks). t.answers) stops) left, ap (λ (t : Ticks). t.faults) stops ∙ h.calm)

  -- by the outcome of the call for a step
  module _ (made : Result Step Stopped) (call : Stepping number client now later made) where
    pub reached_step : made ≡ Ok More → Reached client number start later
    reached_step is = reached_more (subst (Stepping number client now later) is call)

    pub run_says : (reply : Reply) (printed : Result (List ℕ) AllocError) (end : LineEnd) → made ≡ Ok (Done reply)
        → IfOk printed (λ t. t ≡ printed_line later.schedule.setting reply) → LineSays printed end
        → LineGoes (RunsToEnd client) number start later end
    run_says reply printed end is text said =
        let m = subst (Stepping number client now later) is call in
        says (RunsToEnd client) number (h.asks + 1) (failed_then (Done reply) m) start later
        (printed_line later.schedule.setting reply) printed end
        (uses_more (Done reply) m) (calm_more (Done reply) m) (reached_done reply m) text said

    pub run_breaks : (key : RowKey) (bytes : List ℕ) → made ≡ Ok (Broken key bytes)
        → LineGoes (RunsToEnd client) number start later (LineBroken key bytes)
    run_breaks key bytes is =
        let m = subst (Stepping number client now later) is call in
        record {
          asks = h.asks + 1;
          failed = failed_then (Broken key bytes) m;
          uses = uses_more (Broken key bytes) m;
          calm = calm_more (Broken key bytes) m;
          bad = stopped_bad m.steps.made (at_moment m.now now.devices) later.devices key bytes
              (sym m.steps.step_is) m.steps.makes.devices;
          never = never_bad key bytes m;
        }

    pub run_stops : (why : Stopped) (end : LineEnd) → made ≡ Err why → end ≡ end_of why
        → LineGoes (RunsToEnd client) number start later end
    run_stops why end is ends =
        let m = subst (Stepping number client now later) is call in
        let c = some_busy (slice_get now.schedule.clients client) h.busy in
        subst (LineGoes (RunsToEnd client) number start later) (sym ends)
        (reached_stops why c.0 c.1 m.0.stops (record { journal = m.0.acts; schedule = m.0.same; devices = m.1 }))

-- fewer steps are left

falls_at : (client number : ℕ) (now later : LineState) → Stepped number client now later More
    → steps_at later.schedule client < steps_at now.schedule client
falls_at client number now later m =
    let was : steps_at now.schedule client ≡ steps_left m.old = ap steps_in m.found in
    let is : steps_at later.schedule client ≡ steps_left m.new =
    ap (λ (v : ScheduleValue). steps_at v client) m.same
    ∙ ap steps_in (slice_get-set now.schedule.clients client m.new m.old m.found) in
    let falls = (falls-of m.steps).0 in
    omega (arith, was, is, falls)

pub falls_step : (client number : ℕ) (now later : LineState) (made : Result Step Stopped)
    → Stepping number client now later made → made ≡ Ok More
    → steps_at later.schedule client < steps_at now.schedule client
falls_step client number now later made call is = falls_at client number now later
    (subst (Stepping number client now later) is call)
