-- From a line in progress to a whole line: where the line begun stands, and the outcome of its call from there.
use Rattle.std.proofs.Common.{◌≡◌, ℕ, ◌+◌, ◌≤◌, ◌<◌, min, true, false, List, [], ◌∷◌, length, slice_get, slice_set, Option, None, Some, Result, Ok, Err, refl, sym, ap, subst, ◌∙◌}
use Rattle.std.specs.Prelude.{is_some, IfSome, IfOk, codes}
use Rattle.std.specs.declared.alloc.AllocError.{AllocError}
use Rattle.std.proofs.lemmas.Bool.{or_left}
use Rattle.jv_model.specs.declared.limits.TheConstants.{LAST_MOMENT}
use Rattle.jv_model.specs.declared.basics.Limits.{Limits}
use Rattle.jv_model.specs.declared.act.Act.{Act}
use Rattle.jv_model.specs.declared.fault.Device.{Device}
use Rattle.jv_model.specs.declared.fault.Fault.{Fault}
use Rattle.jv_model.specs.declared.op.Op.{Op}
use Rattle.jv_model.specs.declared.op.Line.{Line}
use Rattle.jv_model.specs.declared.op.Line.TheVariants.{Do, Begin, Step, Run, Crash, Tick}
use Rattle.jv_model.specs.declared.row.RowKey.{RowKey}
use Rattle.jv_model.specs.promise.client.Submission.{submission, submitted}
use Rattle.jv_model.specs.promise.tree.Tree.{Tree}
use Rattle.jv_model.specs.promise.journal.State.{State}
use Rattle.jv_model.specs.promise.journal.Past.{Setup, Past, Due, NoMore, Refusal, MayLack, ToAnswer, OneStep, CrashEntry, TickEntry, begun_to, is_busy, is_over, idle_text}
use Rattle.jv_model.specs.promise.journal.Legal.{may_stop}
use Rattle.jv_model.specs.promise.script.ReplyText.{with_feed}
use Rattle.jv_model_laws.proofs.JournalGrowthLaws.{begun_frame}
use Rattle.jv_model_laws.proofs.LineEntryLaws.{alone_at}
use Rattle.jv_model_laws.proofs.BegunLineLaws.{IsNext, IsBegun, submitted_in, do_begun, do_refused, begin_begun, begin_refused, step_begun, run_begun, step_idle, run_idle, crash_begun, tick_begun}
use Rattle.jv_model_laws.proofs.EndedLineLaws.{is_over_at, joins}
use Rattle.jv_outside.specs.promise.Ticks.{Ticks}
use Rattle.jv_client_shared.specs.promise.Shared.{Known, Shared}
use Rattle.jv_client_handles.proofs.TableLaws.{some-same}
use Rattle.jv_client.specs.ClientValue.{ClientValue}
use Rattle.jv_client.specs.Held.{IsClient, IsDoing}
use Rattle.jv_client.proofs.held.HeldLaws.{holds-doing}
use Rattle.jv_session.specs.declared.line_end.LineEnd.{LineEnd}
use Rattle.jv_session.specs.declared.line_end.LineEnd.TheVariants.{Said, Quiet, ClockFailed, Broken, Memory}
use Rattle.jv_session.specs.Stands.{ScheduleValue, Stands, IsState, IsYardOf, IsClientAt, ClockFor, busy_in, client_is_busy, InLine}
use Rattle.jv_session.specs.Lines.{LineState, LineUses, line_state, Appends, Ran, Cut, SaysLine, CutsLine, BreaksAt, LineRuns}
use Rattle.jv_session.specs.InLine.{Goes, Finish, Break, FromLine, Finishes, Breaks, FindsBad, LineGoes, LineSays, RunsToEnd, StepsOnce, IsRefused, Crashes, Passing, HasBegun, HasRefused}
use Rattle.jv_session.proofs.MemberLaws.{slice_get_inside}
use Rattle.jv_session.proofs.StateLaws.{client_at, set_state}
use Rattle.jv_session.proofs.UsesLaws.{blocks_stay, no_failures, uses_none}
use Rattle.jv_session.proofs.InLineLaws.{goes_none}

-- where the line begun stands for the call that goes on with it
pub record StandsIn (p : Past) (more : List Line) (Where : Past → Type 0) (s : ScheduleValue) (v : Shared)
    (q : Past) : Type 0 where
  pub due : Due
  pub said : List ℕ
  pub state : State
  pub begun : IsBegun p more due said state q
  pub place : Where q
  pub in_line : InLine q s v

-- Wherever one schedule stands before the line, another one stands in it with the line begun.
pub record Enters (line : Line) (number : ℕ) (s : ScheduleValue) (Where : Past → Type 0) (s1 : ScheduleValue) : Type 0
  where
    pub at : s1.at ≡ s.at
    pub limits : s1.limits ≡ s.limits
    pub enters : (v : Shared) (p : Past) (more : List Line) → Stands p s v → p.line + 1 ≡ number
        → p.rest ≡ line ∷ more
        → StandsIn p more Where s1 v (begun_to number p)

next_of : (p : Past) (s : ScheduleValue) (v : Shared) (line : Line) (more : List Line) → Stands p s v
    → p.rest ≡ line ∷ more → IsNext p line more
next_of p s v line more st rest = record { complete = st.in_line.complete; over = st.over; rest = rest }

-- with the line begun, a schedule stands in it that has the line's clients
in_line : (p q : Past) (s : ScheduleValue) (v : Shared) (more : List Line) (due : Due) (said : List ℕ)
    (state : State) (clients : List ClientValue) (g : Known) → Stands p s v
    → IsBegun p more due said state q → state.tree ≡ p.state.tree → IsState p.run.start g state clients v
    → InLine q (record s { clients = clients }) v
in_line p q s v more due said state clients g st b tree is_state = record {
  complete = b.complete;
  at = b.at ∙ st.in_line.at;
  last = subst (λ at. at ≤ LAST_MOMENT) (sym b.at) st.in_line.last;
  ticks = ap (min LAST_MOMENT) b.ticks ∙ st.in_line.ticks;
  alone = alone_at p q b.run st.in_line.alone;
  limits = ap (λ (run : Setup). run.limits) b.run ∙ st.in_line.limits;
  setting = ap (λ (x : State). x.tree.setting) b.state_is ∙ ap (λ (t : Tree). t.setting) tree ∙ st.in_line.setting;
  known = g;
  state = subst (λ (run : Setup). IsState run.start g q.state clients v) (sym b.run)
      (subst (λ (x : State). IsState p.run.start g x clients v) (sym b.state_is) is_state);
}

-- the model's client accepts the operation, and goes on with it as the schedule's
record Accepts (p : Past) (s s1 : ScheduleValue) (v : Shared) (client : ℕ) (o : Op) : Type 0 where
  pub accepts : submission (p.state.clients client) o ≡ None
  pub known : Known
  pub clients : List ClientValue
  pub same : s1 ≡ record s { clients = clients }
  pub state : IsState p.run.start known (submitted_in p client o) clients v

accepted : (p : Past) (s s1 : ScheduleValue) (v : Shared) (client : ℕ) (o : Op) → Stands p s v
    → HasBegun s s1 client o → Accepts p s s1 v client o
accepted p s s1 v client o st h =
    let m = p.state.clients client in
    let old = client_at p.run.start st.in_line.known p.state s.clients v client h.old st.in_line.state h.found in
    let both = h.is_new st.in_line.known v m p.state.count old.is_client in
    record {
      accepts = both.0;
      known = st.in_line.known;
      clients = slice_set s.clients client h.new;
      same = h.same;
      state = set_state p.run.start st.in_line.known p.state s.clients v st.in_line.state client (submitted p.run.limits o m) h.old
          h.new h.found h.no_flight
          (subst (λ (l : Limits). IsClient st.in_line.known v (submitted l o m) p.state.count h.new) (sym st.in_line.limits) both.1)
          (holds-doing p.state.tree m _ old.holds);
    }

refuses : (p : Past) (s s1 : ScheduleValue) (v : Shared) (client : ℕ) (o : Op) (fault : Fault) → Stands p s v
    → HasRefused s s1 client o fault
    → submission (p.state.clients client) o ≡ Some fault
refuses p s s1 v client o fault st h =
    h.refused st.in_line.known v (p.state.clients client) p.state.count
    (client_at p.run.start st.in_line.known p.state s.clients v client h.old st.in_line.state h.found).is_client

-- whether an operation of the client is in progress is the same of both

busy_of : (g : Known) (q : State) (v : Shared) (client : ℕ) (o : Option ClientValue) → is_some o ≡ true
    → IfSome o (IsClientAt g q v client)
    → is_some (q.clients client).doing ≡ busy_in o
busy_of g q v client None some h = absurd (cc some)
busy_of g q v client (Some c) some h = some-same IsDoing (q.clients client).doing c.doing h.is_client.doing

busy_same : (p : Past) (s : ScheduleValue) (v : Shared) (client : ℕ) → client < length s.clients
    → Stands p s v → is_busy p client ≡ client_is_busy s client
busy_same p s v client inside st =
    busy_of st.in_line.known p.state v client (slice_get s.clients client)
    (ap is_some (slice_get_inside s.clients client inside).1) (st.in_line.state.clients_are client)

-- a line that has all its entries when it is begun, and says this
pub record SaysAlone (text : List ℕ) (q : Past) : Type 0 where
  pub over : is_over q ≡ true
  pub said : q.said ≡ text

-- each form of a line, begun

-- with a schedule that has begun the line's operation
submitted_line : (p q : Past) (s s1 : ScheduleValue) (v : Shared) (client : ℕ) (o : Op) (more : List Line)
    (due : Due) (said : List ℕ) (Where : Past → Type 0)
    → Stands p s v → Accepts p s s1 v client o → IsBegun p more due said (submitted_in p client o) q
    → Where q → StandsIn p more Where s1 v q
submitted_line p q s s1 v client o more due said Where st h b at = record {
  due = due;
  said = said;
  state = submitted_in p client o;
  begun = b;
  place = at;
  in_line = subst (λ x. InLine q x v) (sym h.same)
      (in_line p q s v more due said (submitted_in p client o) h.clients h.known st b refl h.state);
}

-- with a schedule that is the same
same_line : (p q : Past) (s : ScheduleValue) (v : Shared) (more : List Line) (due : Due) (said : List ℕ)
    (Where : Past → Type 0) → Stands p s v
    → IsBegun p more due said p.state q → Where q → StandsIn p more Where s v q
same_line p q s v more due said Where st b at = record {
  due = due;
  said = said;
  state = p.state;
  begun = b;
  place = at;
  in_line = in_line p q s v more due said p.state s.clients st.in_line.known st b refl st.in_line.state;
}

refused_line : (p q : Past) (s s1 : ScheduleValue) (v : Shared) (client : ℕ) (o : Op) (fault : Fault)
    (more : List Line) (said : List ℕ) → Stands p s v
    → s1 ≡ s → submission (p.state.clients client) o ≡ Some fault
    → IsBegun p more (Refusal client fault) said p.state q
    → StandsIn p more (IsRefused client fault) s1 v q
refused_line p q s s1 v client o fault more said st same refused b =
    subst (λ x. StandsIn p more (IsRefused client fault) x v q) (sym same)
    (same_line p q s v more (Refusal client fault) said (IsRefused client fault) st b (record {
      due = b.due_is;
      op = o;
      refused = subst (λ (x : State). submission (x.clients client) o ≡ Some fault) (sym b.state_is) refused;
    }))

module _ (number : ℕ) (s s1 : ScheduleValue) (client : ℕ) where
  pub do_enters : (o : Op) → HasBegun s s1 client o → Enters (Do client o) number s (RunsToEnd client) s1
  do_enters o h = record {
    at = ap (λ (x : ScheduleValue). x.at) h.same;
    limits = ap (λ (x : ScheduleValue). x.limits) h.same;
    enters = λ v p more st next rest.
        let a = accepted p s s1 v client o st h in
        let b = do_begun p number client o more next (next_of p s v (Do client o) more st rest) a.accepts in
        submitted_line p (begun_to number p) s s1 v client o more (ToAnswer client) [] (RunsToEnd client) st a b
        b.due_is;
  }

  pub do_refused_enters : (o : Op) (fault : Fault) → HasRefused s s1 client o fault
      → Enters (Do client o) number s (IsRefused client fault) s1
  do_refused_enters o fault h = record {
    at = ap (λ (x : ScheduleValue). x.at) h.same;
    limits = ap (λ (x : ScheduleValue). x.limits) h.same;
    enters = λ v p more st next rest.
        let r = refuses p s s1 v client o fault st h in
        refused_line p (begun_to number p) s s1 v client o fault more [] st h.same r
        (do_refused p number client o fault more next (next_of p s v (Do client o) more st rest) r);
  }

  pub begin_enters : (o : Op) → HasBegun s s1 client o
      → Enters (Begin client o) number s (SaysAlone (with_feed (codes "begun"))) s1
  begin_enters o h = record {
    at = ap (λ (x : ScheduleValue). x.at) h.same;
    limits = ap (λ (x : ScheduleValue). x.limits) h.same;
    enters = λ v p more st next rest.
        let a = accepted p s s1 v client o st h in
        let q = begun_to number p in
        let b = begin_begun p number client o more next (next_of p s v (Begin client o) more st rest) a.accepts
        in
        submitted_line p q s s1 v client o more (MayLack client) (with_feed (codes "begun"))
        (SaysAlone (with_feed (codes "begun"))) st a b
        (record { over = is_over_at q (MayLack client) b.due_is tt; said = b.said_is });
  }

  pub begin_refused_enters : (o : Op) (fault : Fault) → HasRefused s s1 client o fault
      → Enters (Begin client o) number s (IsRefused client fault) s1
  begin_refused_enters o fault h = record {
    at = ap (λ (x : ScheduleValue). x.at) h.same;
    limits = ap (λ (x : ScheduleValue). x.limits) h.same;
    enters = λ v p more st next rest.
        let r = refuses p s s1 v client o fault st h in
        refused_line p (begun_to number p) s s1 v client o fault more [] st h.same r
        (begin_refused p number client o fault more next (next_of p s v (Begin client o) more st rest) r);
  }

module _ (number : ℕ) (s : ScheduleValue) (client : ℕ) where
  pub step_enters : client < length s.clients → client_is_busy s client ≡ true
      → Enters (Step client) number s (StepsOnce client) s
  step_enters inside busy = record {
    at = refl;
    limits = refl;
    enters = λ v p more st next rest.
        let b = step_begun p number client more next (next_of p s v (Step client) more st rest)
        (busy_same p s v client inside st ∙ busy) in
        same_line p (begun_to number p) s v more (OneStep client) [] (StepsOnce client) st b b.due_is;
  }

  pub run_enters : client < length s.clients → client_is_busy s client ≡ true
      → Enters (Run client) number s (RunsToEnd client) s
  run_enters inside busy = record {
    at = refl;
    limits = refl;
    enters = λ v p more st next rest.
        let b = run_begun p number client more next (next_of p s v (Run client) more st rest)
        (busy_same p s v client inside st ∙ busy) in
        same_line p (begun_to number p) s v more (ToAnswer client) [] (RunsToEnd client) st b b.due_is;
  }

  pub step_idle_enters : client < length s.clients → client_is_busy s client ≡ false
      → Enters (Step client) number s (SaysAlone idle_text) s
  step_idle_enters inside idle = record {
    at = refl;
    limits = refl;
    enters = λ v p more st next rest.
        let q = begun_to number p in
        let b = step_idle p number client more next (next_of p s v (Step client) more st rest)
        (busy_same p s v client inside st ∙ idle) in
        same_line p q s v more NoMore idle_text (SaysAlone idle_text) st b
        (record { over = is_over_at q NoMore b.due_is tt; said = b.said_is });
  }

  pub run_idle_enters : client < length s.clients → client_is_busy s client ≡ false
      → Enters (Run client) number s (SaysAlone idle_text) s
  run_idle_enters inside idle = record {
    at = refl;
    limits = refl;
    enters = λ v p more st next rest.
        let q = begun_to number p in
        let b = run_idle p number client more next (next_of p s v (Run client) more st rest)
        (busy_same p s v client inside st ∙ idle) in
        same_line p q s v more NoMore idle_text (SaysAlone idle_text) st b
        (record { over = is_over_at q NoMore b.due_is tt; said = b.said_is });
  }

  pub crash_enters : Enters (Crash client) number s (Crashes client) s
  crash_enters = record {
    at = refl;
    limits = refl;
    enters = λ v p more st next rest.
        let b = crash_begun p number client more next (next_of p s v (Crash client) more st rest) in
        same_line p (begun_to number p) s v more (CrashEntry client) [] (Crashes client) st b b.due_is;
  }

pub tick_enters : (number : ℕ) (s : ScheduleValue) (by : ℕ) → Enters (Tick by) number s (Passing by) s
tick_enters number s by = record {
  at = refl;
  limits = refl;
  enters = λ v p more st next rest.
      let b = tick_begun p number by more next (next_of p s v (Tick by) more st rest) in
      same_line p (begun_to number p) s v more (TickEntry by) [] (Passing by) st b b.due_is;
}

-- a line that was entered, at its end

module _ (p q : Past) (more : List Line) (number : ℕ) (due : Due) (said : List ℕ) (state : State) (asks : ℕ)
    (before after : LineState) where
  appends : (acts : List Act) (r : Past) → p.line + 1 ≡ number → begun_to number p ≡ q
      → IsBegun p more due said state q
      → Goes q asks before.journal after.journal acts r
      → Appends p more number asks before.journal after.journal acts r
  appends acts r next begins b g =
      let j = joins p q r more number due said state acts next begins b g.leads g.same in
      record {
        grows = g.grows;
        allowed = j.allowed;
        reaches = j.reaches;
        line = j.line;
        same_run = j.run;
        rest = j.rest;
        count = g.count;
        asked = g.asked ∙ ap (λ n. n + asks) b.asked;
        printed = j.printed;
      }

  ran : (text : List ℕ) → p.line + 1 ≡ number → begun_to number p ≡ q → IsBegun p more due said state q
      → Finish q asks before after text → Ran p more number asks before after text
  ran text next begins b f = record {
    acts = f.acts;
    end = f.end;
    appends = appends f.acts f.end next begins b f.goes;
    stands = record { in_line = f.in_line; over = f.over };
    direct = f.direct;
    said = f.said;
  }

  cut : p.line + 1 ≡ number → begun_to number p ≡ q → IsBegun p more due said state q
      → Break q asks before after → Cut p more number asks before after
  cut next begins b f = record {
    acts = f.acts;
    end = f.end;
    appends = appends f.acts f.end next begins b f.goes;
    stands = f.in_line;
    direct = f.direct;
    stops = f.stops;
  }

clock_at : (p q : Past) (before after : Option (ℕ → ℕ)) → q.run ≡ p.run → q.asked ≡ p.asked
    → ClockFor p.run.clock p.asked before after → ClockFor q.run.clock q.asked before after
clock_at p q before after run asked h = subst (λ (x : Setup). ClockFor x.clock q.asked before after) (sym run)
    (subst (λ n. ClockFor p.run.clock n before after) (sym asked) h)

-- The schedule entered the line with another schedule, and the rest is the same.
module _ (line : Line) (number : ℕ) (before after : LineState) (s1 : ScheduleValue) (Where : Past → Type 0)
    (i : Enters line number before.schedule Where s1) where
  abbrev entered : LineState
  entered = record before { schedule = s1 }

  -- from each past where the line may stand, so from the line begun
  from_begun : (Comes : Past → Type 0) (p : Past) (more : List Line) → FromLine Where number entered after Comes
      → StandsIn p more Where s1 before.devices (begun_to number p)
      → p.line + 1 ≡ number → p.state.count ≡ length before.journal
      → ClockFor p.run.clock p.asked before.clock.answers after.clock.answers → Comes (begun_to number p)
  from_begun Comes p more h i next count clock =
      let q = begun_to number p in
      h q i.place i.in_line (i.begun.line ∙ next) ((begun_frame number p).count ∙ count)
      (clock_at p q before.clock.answers after.clock.answers i.begun.run i.begun.asked clock)

  uses_entered : (asks : ℕ) (failed : Device → ℕ) → LineUses entered after asks failed
      → LineUses before after asks failed
  uses_entered asks failed u = record {
    passes = u.passes;
    stays = u.stays;
    counts = u.counts;
    answers = u.answers;
    yard = λ h. u.yard (record { block = h.block; last = subst (λ n. before.devices.yard.last ≤ n) (sym i.at) h.last });
    limits = u.limits ∙ i.limits;
  }

  finish_entered : (q : Past) (asks : ℕ) (text : List ℕ) → Finish q asks entered after text
      → Finish q asks before after text
  finish_entered q asks text f = record {
    acts = f.acts;
    end = f.end;
    goes = f.goes;
    in_line = f.in_line;
    direct = f.direct;
    over = f.over;
    said = f.said;
  }

  break_entered : (q : Past) (asks : ℕ) → Break q asks entered after → Break q asks before after
  break_entered q asks f = record {
    acts = f.acts;
    end = f.end;
    goes = f.goes;
    in_line = f.in_line;
    direct = f.direct;
    stops = f.stops;
  }

  says : (text : List ℕ) → Finishes Where number entered after text → SaysLine line number before after text
  says text h = record {
    asks = h.asks;
    failed = h.failed;
    uses = uses_entered h.asks h.failed h.uses;
    calm = h.calm;
    runs = λ p more st next rest count clock.
        let e = i.enters before.devices p more st next rest in
        let q = begun_to number p in
        ran p q more number e.due e.said e.state h.asks before after text next refl e.begun
        (finish_entered q h.asks text (from_begun (λ q. Finish q h.asks entered after text) p more h.goes e next count
        clock));
  }

  cuts : Breaks Where number entered after → CutsLine line number before after
  cuts h = record {
    asks = h.asks;
    failed = h.failed;
    uses = uses_entered h.asks h.failed h.uses;
    stops = λ p more st next rest count clock.
        let e = i.enters before.devices p more st next rest in
        let q = begun_to number p in
        cut p q more number e.due e.said e.state h.asks before after next refl e.begun
        (break_entered q h.asks (from_begun (λ q. Break q h.asks entered after) p more h.goes e next count clock));
  }

  finds_bad : (key : RowKey) (bytes : List ℕ) → FindsBad Where number entered after key bytes
      → BreaksAt line number before after key bytes
  finds_bad key bytes h = record {
    asks = h.asks;
    failed = h.failed;
    uses = uses_entered h.asks h.failed h.uses;
    calm = h.calm;
    bad = h.bad;
    never = λ p more st next rest count clock. from_begun (λ q. ⊥) p more h.never
        (i.enters before.devices p more st next rest) next count clock;
  }

  -- a line that was entered has the outcome of the call that goes on with it
  pub whole_line : (end : LineEnd) → LineGoes Where number entered after end → LineRuns line number before after end
  whole_line (Said text) h = says text h
  whole_line Quiet h = absurd h
  whole_line ClockFailed h = (cuts h.0, h.1)
  whole_line (Broken key bytes) h = finds_bad key bytes h
  whole_line Memory h = (cuts h.0, h.1)

-- the schedule may go on with the yard that a line leaves
pub yard_after : (line : Line) (number : ℕ) (before after : LineState) (end : LineEnd)
    → LineRuns line number before after end → IsYardOf before.schedule before.devices.yard
    → IsYardOf after.schedule after.devices.yard
yard_after line number before after (Said text) h yard = h.uses.yard yard
yard_after line number before after Quiet h yard =
    subst (λ (s : ScheduleValue). IsYardOf s after.devices.yard) (sym h.schedule)
    (subst (λ (v : Shared). IsYardOf before.schedule v.yard) (sym h.devices) yard)
yard_after line number before after ClockFailed h yard = h.0.uses.yard yard
yard_after line number before after (Broken key bytes) h yard = h.uses.yard yard
yard_after line number before after Memory h yard = h.0.uses.yard yard

-- a line without an entry, which says a text
module _ (text : List ℕ) (number : ℕ) (clock : Ticks) (v : Shared) (journal : List Act) (s : ScheduleValue) where
  abbrev at_line : LineState
  at_line = line_state clock v journal s

  says_text : LineGoes (SaysAlone text) number at_line at_line (Said text)
  says_text = record {
    asks = 0;
    failed = no_failures;
    uses = uses_none at_line;
    calm = refl;
    goes = λ q alone i at count tells.
        record {
          acts = [];
          end = q;
          goes = goes_none q journal count;
          in_line = i;
          direct = blocks_stay v v refl;
          over = alone.over;
          said = alone.said;
        };
  }

  lacks_text : LineGoes (SaysAlone text) number at_line at_line Memory
  lacks_text = (
    record {
      asks = 0;
      failed = no_failures;
      uses = uses_none at_line;
      goes = λ q alone i at count tells.
          record {
            acts = [];
            end = q;
            goes = goes_none q journal count;
            in_line = i;
            direct = blocks_stay v v refl;
            stops = or_left
                (is_over q) (may_stop q) alone.over;
          };
    },
    refl,
  )

  pub says_goes : (made : Result (List ℕ) AllocError) (end : LineEnd) → IfOk made (λ bytes. bytes ≡ text)
      → LineSays made end
      → LineGoes (SaysAlone text) number at_line at_line end
  says_goes (Ok bytes) end is says = subst (LineGoes (SaysAlone text) number at_line at_line)
      (sym (says ∙ ap Said is)) says_text
  says_goes (Err error) end is says = subst (LineGoes (SaysAlone text) number at_line at_line) (sym says) lacks_text
