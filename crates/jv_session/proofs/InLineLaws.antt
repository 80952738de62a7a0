-- A line in progress goes on: a step of its client, and where it stops.
use Rattle.std.proofs.Common.{◌≡◌, ℕ, ◌+◌, ◌≤◌, min, max, true, false, ◌||◌, List, [], ◌++◌, length, map, slice_get, slice_set, Option, None, Some, Result, Ok, Err, refl, sym, ap, subst, ◌∙◌, arith, length-append}
use Rattle.std.specs.Prelude.{IfSome, IsSome, MatchOption, IfOk}
use Rattle.std.specs.declared.alloc.AllocError.{AllocError}
use Rattle.std.proofs.lemmas.List.{append-nil, length-map}
use Rattle.std.proofs.lemmas.Bool.{or_left}
use Rattle.jv_model.specs.declared.limits.TheConstants.{LAST_MOMENT}
use Rattle.jv_model.specs.declared.act.Act.{Act}
use Rattle.jv_model.specs.declared.act.ActKind.{ActKind}
use Rattle.jv_model.specs.declared.fault.Device.{Device}
use Rattle.jv_model.specs.declared.op.Reply.{Reply}
use Rattle.jv_model.specs.declared.op.Step.{Step}
use Rattle.jv_model.specs.declared.op.Step.TheVariants.{More, Done, Broken}
use Rattle.jv_model.specs.declared.row.RowKey.{RowKey}
use Rattle.jv_model.specs.declared.setting.Setting.{Setting}
use Rattle.jv_model.specs.promise.client.ModelClient.{ModelClient}
use Rattle.jv_model.specs.promise.tree.Tree.{Tree}
use Rattle.jv_model.specs.promise.journal.State.{State}
use Rattle.jv_model.specs.promise.journal.Steps.{Start}
use Rattle.jv_model.specs.promise.journal.Past.{Past, Setup, Due, NoMore, OneStep, StepMade as StepTaken, is_over, ends_in_step, more_text}
use Rattle.jv_model.specs.promise.script.ReplyText.{printed_line}
use Rattle.jv_model.specs.promise.journal.Legal.{may_stop}
use Rattle.jv_model.specs.journal.Stepping.{stepped_by, entry_of}
use Rattle.jv_model.specs.promise.journal.Legal.{IsNow}
use Rattle.jv_model_laws.proofs.LineEntryLaws.{leads_none}
use Rattle.jv_model_laws.proofs.EndedLineLaws.{is_over_at, may_be_cut_at}
use Rattle.jv_model_laws.proofs.LineStepLaws.{RunsClient, OneStepOnly, StepsOn, step_ran, others_stepped}
use Rattle.jv_outside.specs.promise.Ticks.{Ticks, Passes}
use Rattle.jv_client_shared.specs.promise.Shared.{Known, Shared}
use Rattle.jv_client_requests.specs.Request.{Request}
use Rattle.jv_client.specs.ClientValue.{ClientValue}
use Rattle.jv_client.specs.Held.{IsClient, Holds, in_flight}
use Rattle.jv_client.specs.Makes.{StepsTo, entries_of, kinds_of}
use Rattle.jv_client.proofs.steps.StepOfLaws.{leads-of}
use Rattle.jv_session.specs.declared.line_end.LineEnd.{LineEnd}
use Rattle.jv_session.specs.declared.line_end.LineEnd.TheVariants.{Broken as LineBroken}
use Rattle.jv_session.specs.declared.line_end.Stopped.{Stopped}
use Rattle.jv_session.specs.declared.line_end.Stopped.TheVariants as stopped
use Rattle.jv_session.specs.Stands.{ScheduleValue, IsState, IsClientAt, ClockFor, InLine}
use Rattle.jv_session.specs.promise.Direct.{BlocksStay}
use Rattle.jv_session.specs.Lines.{LineState, LineUses}
use Rattle.jv_session.specs.InLine.{Goes, Finish, Break, FromLine, LineGoes, LineSays, IsMomentOf, StopsBefore, HasStepped, MakesStep, StepsOnce, at_moment, end_of}
use Rattle.jv_session.proofs.BeginLaws.{not_ending}
use Rattle.jv_session.proofs.StateLaws.{client_at, state_moment, state_stepped}
use Rattle.jv_session.proofs.UsesLaws.{blocks_stay, made_failures, no_failures, stopped_bad, uses_nothing, uses_step}

-- the clock

-- answers that are known were known before
unanswered : {n : ℕ} (final : Option (ℕ → ℕ)) → IsSome final → Passes None final n → ⊥
unanswered None some passes = cc some
unanswered (Some rest) some passes = passes.known

-- what the clock shows after some answers, by the run's clock
module _ (asked n : ℕ) where
  pub clock_later : (clock before now final : Option (ℕ → ℕ)) → Passes before now n → ClockFor clock asked before final
      → ClockFor clock (asked + n) now final
  clock_later None before now final p h = tt
  clock_later (Some answers) before None final p h = (h.0, tt)
  clock_later (Some answers) None (Some rest) final p h = absurd p.known
  clock_later (Some answers) (Some first) (Some rest) final p h =
      (h.0, λ k. p.known k ∙ h.1 (k + n) ∙ ap answers (let e : k + n + asked ≡ k + (asked + n) = omega arith in e))

-- the moment of the clock's answer is the run's
module _ (asked qat qticks sat sticks by now answer n : ℕ) (final : Option (ℕ → ℕ)) where
  moment_is : (clock told : Option (ℕ → ℕ)) → ClockFor clock asked told final → Passes told final n
      → IfSome told (λ answers. answer ≡ answers 0)
      → qat ≡ sat → qat ≤ LAST_MOMENT → min LAST_MOMENT qticks ≡ sticks
      → now ≡ min LAST_MOMENT (max sat (answer + (sticks + by)))
      → MatchOption clock ((qat ≤ now) × (now ≤ LAST_MOMENT))
      (λ answers. now ≡ min LAST_MOMENT (max qat (answers asked + (qticks + by))))
  moment_is None told for passes gives at last ticks is = (omega (arith, at, last, is), omega (arith, is))
  moment_is (Some answers) None for passes gives at last ticks is = absurd (unanswered final for.0 passes)
  moment_is (Some answers) (Some told) for passes gives at last ticks is =
      let here : answer ≡ answers asked =
      gives ∙ for.1 0 ∙ ap answers (let e : 0 + asked ≡ asked = omega arith in e) in
      omega (arith, here, at, last, ticks, is)

pub is_now : (q : Past) (s : ScheduleValue) (by now n : ℕ) (before mid : Ticks) (final : Option (ℕ → ℕ)) → q.at ≡ s.at
    → q.at ≤ LAST_MOMENT → min LAST_MOMENT q.ticks ≡ s.ticks → IsMomentOf s by now before mid
    → Passes before.answers final n → ClockFor q.run.clock q.asked before.answers final → IsNow q (q.ticks + by) now
is_now q s by now n before mid final at last ticks m passes for =
    moment_is q.asked q.at q.ticks s.at s.ticks by now m.answer n final q.run.clock before.answers for passes
    m.answered.answer at last ticks m.is

-- no operation waits for its answer alone
pub goes_on : (start : Start) (g : Known) (q : State) (clients : List ClientValue) (v : Shared) (k : ℕ)
    (c : ClientValue) → IsState start g q clients v → slice_get clients k ≡ Some c → ends_in_step (q.clients k) ≡ false
goes_on start g q clients v k c h found =
    not_ending (q.clients k) c.doing (client_at start g q clients v k c h found).is_client.doing

-- in a line
pub line_goes_on : (q : Past) (s : ScheduleValue) (v : Shared) (k : ℕ) (c : ClientValue) → InLine q s v
    → slice_get s.clients k ≡ Some c → ends_in_step (q.state.clients k) ≡ false
line_goes_on q s v k c h found = goes_on q.run.start h.known q.state s.clients v k c h.state found

-- a step of a client of the line

abbrev pub Stepped : ℕ → ℕ → LineState → LineState → Step → Type 0
Stepped number client before after step =
    HasStepped before.schedule after.schedule number client before.clock after.clock before.devices after.devices
    before.journal after.journal step

-- the call for a step
abbrev pub Stepping : ℕ → ℕ → LineState → LineState → Result Step Stopped → Type 0
Stepping number client before after made =
    MakesStep before.schedule after.schedule number client before.clock after.clock before.devices after.devices
    before.journal after.journal made

pub record StepMade (due : Due) (q : Past) (client : ℕ) (before after : LineState) (step : Step) : Type 0 where
  pub now : ℕ
  pub kinds : List ActKind
  pub end : Past
  pub on : StepsOn due q client now kinds step end
  pub goes : Goes q 1 before.journal after.journal (map (entry_of q.line now client) kinds) end
  pub in_line : InLine end after.schedule after.devices
  pub direct : BlocksStay before.devices after.devices

module _ (number client : ℕ) (before after : LineState) (step : Step) (m : Stepped number client before after step)
  where
    -- how often each device failed in it
    abbrev pub failed_in : Device → ℕ
    failed_in = made_failures m.steps.made

    abbrev kinds_in : List ActKind
    kinds_in = kinds_of m.steps.made

    pub stepped_uses : LineUses before after 1 failed_in
    stepped_uses = uses_step before after number m.now m.old m.steps.made m.steps.appends m.steps.makes.alone
        m.moment.answered.passes m.steps.makes.devices m.steps.makes.yard
        (ap (λ (s : ScheduleValue). s.at) m.same) (ap (λ (s : ScheduleValue). s.limits) m.same)

    -- from the past where the line stands
    module _ (due : Due) (q : Past) (at : InLine q before.schedule before.devices)
        (count : q.state.count ≡ length before.journal) where
      abbrev told : Shared
      told = at_moment m.now before.devices

      abbrev stepped_to : State
      stepped_to = stepped_by q.state client m.now kinds_in

      -- the yard knows of the moment
      state_told : IsState q.run.start at.known q.state before.schedule.clients told
      state_told = state_moment q.run.start at.known q.state before.schedule.clients before.devices at.state m.now

      leads_own : StepsTo q.state at.known told m.old m.now kinds_in step m.new after.devices
      leads_own =
          let own = client_at q.run.start at.known q.state before.schedule.clients told client m.old state_told m.found
          in
          leads-of m.steps q.state at.known count state_told.has_store
          (subst (λ k. Holds q.state.tree (q.state.clients k)) (sym m.id) own.holds)
          (subst (λ k. IsClient at.known told (q.state.clients k) q.state.count m.old) (sym m.id) own.is_client)

      abbrev learned : Known
      learned = leads_own.learned

      leads_to : Request q.state at.known learned told after.devices client m.now (in_flight m.old) (in_flight m.new)
          kinds_in step leads_own.tree leads_own.model leads_own.copied
      leads_to = subst (λ k. Request q.state at.known learned told after.devices k m.now (in_flight m.old)
          (in_flight m.new) kinds_in step leads_own.tree leads_own.model leads_own.copied) m.id leads_own.request

      appended : q.line ≡ number → after.journal ≡ before.journal ++ map (entry_of q.line m.now client) kinds_in
      appended line =
          m.steps.appends ∙ ap (λ k. before.journal ++ entries_of number m.now k kinds_in) m.id
          ∙ ap (λ l. before.journal ++ entries_of l m.now client kinds_in) (sym line)

      goes_to : (r : Past) → q.line ≡ number → StepsOn due q client m.now kinds_in step r
          → Goes q 1 before.journal after.journal (map (entry_of q.line m.now client) kinds_in) r
      goes_to r line on =
          let entries = map (entry_of q.line m.now client) kinds_in in
          let grows = appended line in
          let long : length after.journal ≡ length before.journal + length kinds_in =
          ap length grows ∙ length-append before.journal entries
          ∙ ap (λ k. length before.journal + k) (length-map kinds_in (entry_of q.line m.now client)) in
          let counted : r.state.count ≡ q.state.count + length kinds_in = ap (λ (t : State). t.count) on.state
          ∙ leads_to.leaves.count in
          record {
            grows = grows;
            leads = on.leads;
            same = on.same;
            count = omega (arith, long, counted, count);
            asked = on.asked;
          }

      -- the client that made the step
      own_after : IsClientAt learned stepped_to after.devices client m.new
      own_after =
          let l = leads_to.leaves in
          record {
            is_client = subst (λ (x : ModelClient). IsClient learned after.devices x stepped_to.count m.new) (sym l.own)
                (subst (λ n. IsClient learned after.devices leads_own.model n m.new) (sym l.count) leads_own.is_client);
            holds = subst (λ (x : ModelClient). Holds stepped_to.tree x) (sym l.own)
                (subst (λ (t : Tree). Holds t leads_own.model) (sym l.tree) leads_own.holds);
          }

      state_after : IsState q.run.start learned stepped_to (slice_set before.schedule.clients client m.new)
          after.devices
      state_after =
          let counted = leads_to.leaves.count in
          state_stepped at.known learned told after.devices q.state stepped_to leads_to.own state_told.has_store
          leads_to.leads.kept leads_to.stays (omega (arith, counted)) q.run.start before.schedule.clients state_told
          client m.old m.new m.found leads_to.apart leads_to.leads.store
          (leads_to.within q.run.start state_told.within)
          (λ c apart. others_stepped q.state client m.now kinds_in c apart) own_after

      in_line_after : (r : Past) → StepsOn due q client m.now kinds_in step r → InLine r after.schedule after.devices
      in_line_after r on =
          let last : m.now ≤ LAST_MOMENT = omega (arith, m.moment.is) in
          let clients = slice_set before.schedule.clients client m.new in
          subst (λ s. InLine r s after.devices) (sym m.same) (record {
            complete = on.same.complete ∙ at.complete;
            at = on.at;
            last = subst (λ k. k ≤ LAST_MOMENT) (sym on.at) last;
            ticks = ap (min LAST_MOMENT) on.ticks ∙ at.ticks;
            alone = λ k. ap (λ (run : Setup). run.by_worker k) on.same.run ∙ at.alone k;
            limits = ap (λ (run : Setup). run.limits) on.same.run ∙ at.limits;
            setting = ap (λ (t : State). t.tree.setting) on.state ∙ leads_to.stays.setting ∙ at.setting;
            known = learned;
            state = subst (λ (run : Setup). IsState run.start learned r.state clients after.devices) (sym on.same.run)
                (subst (λ t. IsState q.run.start learned t clients after.devices) (sym on.state) state_after);
          })

      pub step_made : (n : ℕ) (final : Option (ℕ → ℕ)) → RunsClient client due → q.due ≡ due → q.line ≡ number
          → Passes before.clock.answers final n
          → ClockFor q.run.clock q.asked before.clock.answers final → StepMade due q client before after step
      step_made n final runs is line passes for =
          let now = is_now q before.schedule 0 m.now n before.clock after.clock final at.at at.last at.ticks m.moment
          passes for in
          let ran = step_ran q client m.now kinds_in step due at.alone at.complete runs is
          (subst (λ t. IsNow q t m.now) (let e : q.ticks + 0 ≡ q.ticks = omega arith in e) now)
          (leads_to.allows q.run.start _ state_told.within) in
          record {
            now = m.now;
            kinds = kinds_in;
            end = ran.0;
            on = ran.1;
            goes = goes_to ran.0 line ran.1;
            in_line = in_line_after ran.0 ran.1;
            direct = leads_to.leads.kept.direct;
          }

-- a line that is done, and whose text there was memory for or not

module _ (q : Past) (asks : ℕ) (before after : LineState) (text : List ℕ) where
  breaks_after : Finish q asks before after text → Break q asks before after
  breaks_after f = record {
    acts = f.acts;
    end = f.end;
    goes = f.goes;
    in_line = f.in_line;
    direct = f.direct;
    stops = or_left (is_over f.end) (may_stop f.end) f.over;
  }

  finish_says : (said : List ℕ) → said ≡ text → Finish q asks before after text → Finish q asks before after said
  finish_says said e f = record {
    acts = f.acts;
    end = f.end;
    goes = f.goes;
    in_line = f.in_line;
    direct = f.direct;
    over = f.over;
    said = f.said ∙ sym e;
  }

pub says : (Where : Past → Type 0) (number asks : ℕ) (failed : Device → ℕ) (before after : LineState)
    (text : List ℕ) (printed : Result (List ℕ) AllocError) (end : LineEnd)
    → LineUses before after asks failed → after.clock.faults ≡ before.clock.faults
    → FromLine Where number before after (λ q. Finish q asks before after text)
    → IfOk printed (λ t. t ≡ text) → LineSays printed end → LineGoes Where number before after end
says Where number asks failed before after text (Ok t) end uses calm goes is said = subst
    (LineGoes Where number before after) (sym said) (record {
      asks = asks;
      failed = failed;
      uses = uses;
      calm = calm;
      goes = λ q there line at count clock. finish_says q asks before after text t is
          (goes q there line at count clock);
    })
says Where number asks failed before after text (Err e) end uses calm goes is said = subst
    (LineGoes Where number before after) (sym said) (
      record {
        asks = asks;
        failed = failed;
        uses = uses;
        goes = λ q there line at count clock. breaks_after q asks before after text
            (goes q there line at count clock);
      },
      calm,
    )

-- a line that stops before a step

abbrev pub MayBreak : (Past → Type 0) → LineState → Type 0
MayBreak Where before = (q : Past) → Where q → InLine q before.schedule before.devices
    → (is_over q || may_stop q) ≡ true

pub goes_none : (q : Past) (journal : List Act) → q.state.count ≡ length journal → Goes q 0 journal journal [] q
goes_none q journal count = record {
  grows = sym (append-nil journal);
  leads = leads_none q;
  same = record { line = refl; run = refl; rest = refl; printed = refl; complete = refl };
  count = count;
  asked = omega arith;
}

-- nothing has changed but the clock
pub record LeavesRest (before after : LineState) : Type 0 where
  pub journal : after.journal ≡ before.journal
  pub schedule : after.schedule ≡ before.schedule
  pub devices : after.devices ≡ before.devices

pub in_line-left : (q : Past) (before after : LineState) → LeavesRest before after
    → InLine q before.schedule before.devices → InLine q after.schedule after.devices
in_line-left q before after left h = subst (λ v. InLine q after.schedule v) (sym left.devices)
    (subst (λ s. InLine q s before.devices) (sym left.schedule) h)

breaks_none : (q : Past) (before after : LineState) → q.state.count ≡ length before.journal
    → InLine q before.schedule before.devices → (is_over q || may_stop q) ≡ true
    → LeavesRest before after → Break q 0 before after
breaks_none q before after count line stops left = record {
  acts = [];
  end = q;
  goes = subst (λ more. Goes q 0 before.journal more [] q) (sym left.journal) (goes_none q before.journal count);
  in_line = in_line-left q before after left line;
  direct = blocks_stay before.devices after.devices left.devices;
  stops = stops;
}

pub stops_at : (Where : Past → Type 0) (number : ℕ) (before after : LineState) (why : Stopped) → MayBreak Where before
    → StopsBefore before.clock after.clock why
    → LeavesRest before after → LineGoes Where number before after (end_of why)
stops_at Where number before after stopped.Clock may h left = (
  record {
    asks = 0;
    failed = no_failures;
    uses = uses_nothing before after h.0 left.devices left.journal left.schedule;
    goes = λ q there line at count clock. breaks_none q before after count line (may q there line) left;
  },
  h.1,
)
stops_at Where number before after stopped.Memory may h left = (
  record {
    asks = 0;
    failed = no_failures;
    uses = uses_nothing before after (ap (λ (t : Ticks). t.answers) h) left.devices left.journal left.schedule;
    goes = λ q there line at count clock. breaks_none q before after count line (may q there line) left;
  },
  ap (λ (t : Ticks). t.faults) h,
)

-- one step of a line that makes one

module _ (client number : ℕ) (before after : LineState) where
  once : (step : Step) (m : Stepped number client before after step) (q : Past) → StepsOnce client q
      → InLine q before.schedule before.devices → q.line ≡ number
      → q.state.count ≡ length before.journal → ClockFor q.run.clock q.asked before.clock.answers after.clock.answers
      → StepMade (OneStep client) q client before after step
  once step m q due h line count clock =
      step_made number client before after step m (OneStep client) q h count 1 after.clock.answers (OneStepOnly refl)
      due line m.moment.answered.passes clock

  once_more : (m : Stepped number client before after More)
      → FromLine (StepsOnce client) number before after
      (λ q. Finish q 1 before after more_text)
  once_more m q due h line count clock =
      let made = once More m q due h line count clock in
      record {
        acts = map (entry_of q.line made.now client) made.kinds;
        end = made.end;
        goes = made.goes;
        in_line = made.in_line;
        direct = made.direct;
        over = is_over_at made.end (StepTaken client) made.on.after.due_is made.on.after.goes_on;
        said = made.on.after.said_is;
      }

  once_done : (reply : Reply) (m : Stepped number client before after (Done reply))
      → FromLine (StepsOnce client) number before after
      (λ q. Finish q 1 before after (printed_line after.schedule.setting reply))
  once_done reply m q due h line count clock =
      let made = once (Done reply) m q due h line count clock in
      record {
        acts = map (entry_of q.line made.now client) made.kinds;
        end = made.end;
        goes = made.goes;
        in_line = made.in_line;
        direct = made.direct;
        over = is_over_at made.end NoMore made.on.after.due_is tt;
        said = made.on.after.said_is ∙ ap (λ (setting : Setting). printed_line setting reply) made.in_line.setting;
      }

  module _ (made : Result Step Stopped) (h : Stepping number client before after made) where
    pub once_says_more : (printed : Result (List ℕ) AllocError) (end : LineEnd) → made ≡ Ok More
        → IfOk printed (λ t. t ≡ more_text) → LineSays printed end
        → LineGoes (StepsOnce client) number before after end
    once_says_more printed end is text said =
        let m = subst (Stepping number client before after) is h in
        says (StepsOnce client) number 1 _ before after more_text printed end
        (stepped_uses number client before after More m) m.moment.answered.calm (once_more m) text said

    pub once_says_done : (reply : Reply) (printed : Result (List ℕ) AllocError) (end : LineEnd)
        → made ≡ Ok (Done reply)
        → IfOk printed (λ t. t ≡ printed_line after.schedule.setting reply) → LineSays printed end
        → LineGoes (StepsOnce client) number before after end
    once_says_done reply printed end is text said =
        let m = subst (Stepping number client before after) is h in
        says (StepsOnce client) number 1 _ before after (printed_line after.schedule.setting reply) printed end
        (stepped_uses number client before after (Done reply) m)
        m.moment.answered.calm (once_done reply m) text said

    pub once_breaks : (key : RowKey) (bytes : List ℕ) → made ≡ Ok (Broken key bytes)
        → LineGoes (StepsOnce client) number before after (LineBroken key bytes)
    once_breaks key bytes is =
        let m = subst (Stepping number client before after) is h in
        record {
          asks = 1;
          failed = failed_in number client before after (Broken key bytes) m;
          uses = stepped_uses number client before after (Broken key bytes) m;
          calm = m.moment.answered.calm;
          bad = stopped_bad m.steps.made (at_moment m.now before.devices) after.devices key bytes
              (sym m.steps.step_is) m.steps.makes.devices;
          never = λ q due line at count clock. (once (Broken key bytes) m q due line at count clock).on.after;
        }

    pub once_stops : (why : Stopped) (end : LineEnd) → made ≡ Err why → end ≡ end_of why
        → LineGoes (StepsOnce client) number before after end
    once_stops why end is ends =
        let m = subst (Stepping number client before after) is h in
        subst (LineGoes (StepsOnce client) number before after) (sym ends)
        (stops_at (StepsOnce client) number before after why (λ q due h. may_be_cut_at q (OneStep client) due tt)
        m.0.stops (record { journal = m.0.acts; schedule = m.0.same; devices = m.1 }))
