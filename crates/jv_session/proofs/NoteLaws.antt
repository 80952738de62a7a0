-- Lines of one entry: a refused submission, a crash and a tick. None uses a device.
use Rattle.std.proofs.Common.{◌≡◌, ℕ, ◌+◌, ◌≤◌, min, false, List, [], ◌∷◌, ◌++◌, length, slice_get, slice_set, Option, None, Some, Result, Ok, Err, refl, sym, ap, subst, ◌∙◌, arith}
use Rattle.std.specs.Prelude.{codes, decimal, IfOk}
use Rattle.std.specs.declared.alloc.AllocError.{AllocError}
use Rattle.std.proofs.lemmas.List.{length_push}
use Rattle.jv_model.specs.declared.limits.TheConstants.{LAST_MOMENT, LAST_CLIENT, CLIENTS}
use Rattle.jv_model.specs.declared.act.TheConstants.{NO_CLIENT}
use Rattle.jv_model.specs.declared.act.Act.{Act}
use Rattle.jv_model.specs.declared.act.ActKind.{ActKind}
use Rattle.jv_model.specs.declared.act.ActKind.TheVariants.{Crashed, Ticked, Answered}
use Rattle.jv_model.specs.declared.act.Told.TheVariants.{Refused as ToldRefused}
use Rattle.jv_model.specs.declared.fault.Device.{Device}
use Rattle.jv_model.specs.declared.fault.Fault.{Fault}
use Rattle.jv_model.specs.declared.op.Reply.TheVariants.{Refused}
use Rattle.jv_model.specs.declared.setting.Setting.{Setting}
use Rattle.jv_model.specs.promise.script.ReplyText.{printed_line, with_feed}
use Rattle.jv_model.specs.promise.tree.Tree.{Tree}
use Rattle.jv_model.specs.promise.client.ModelClient.{Doing, ModelClient, unmounted}
use Rattle.jv_model.specs.promise.journal.State.{State, effect, of_doing}
use Rattle.jv_model.specs.promise.journal.Past.{Past, Setup, NoMore, CrashEntry, TickEntry, Refusal}
use Rattle.jv_model.specs.journal.Stepping.{entry_of}
use Rattle.jv_model.specs.promise.journal.Legal.{IsNow}
use Rattle.jv_model_laws.specs.OnLines.{Leads}
use Rattle.jv_model_laws.proofs.JournalGrowthLaws.{advanced, begun_to-begun}
use Rattle.jv_model_laws.proofs.EndedLineLaws.{is_over_at, may_be_cut_at}
use Rattle.jv_model_laws.proofs.NotedLineLaws.{Notes as NotesEntry, refused_ran, crash_ran, tick_ran}
use Rattle.jv_outside.specs.promise.Ticks.{Ticks}
use Rattle.jv_client_shared.specs.promise.Shared.{Known, Shared}
use Rattle.jv_client.specs.ClientValue.{ClientValue, crashed, fresh_client}
use Rattle.jv_client.specs.Held.{IsClient, Holds}
use Rattle.jv_client.specs.Makes.{IsCalm}
use Rattle.jv_client.specs.promise.Makes.{is_failure_entry}
use Rattle.jv_client.proofs.held.HeldLaws.{holds-unmounted}
use Rattle.jv_session.specs.declared.line_end.LineEnd.{LineEnd}
use Rattle.jv_session.specs.declared.line_end.Stopped.{Stopped}
use Rattle.jv_session.specs.Stands.{ScheduleValue, IsState, ClockFor, InLine}
use Rattle.jv_session.specs.Lines.{LineState, LineUses, line_state}
use Rattle.jv_session.specs.InLine.{Goes, Finish, FromLine, LineGoes, LineSays, IsMomentOf, HasNoted, Notes, IsRefused, Crashes, Passing, end_of}
use Rattle.jv_session.proofs.MemberLaws.{slice_get_inside}
use Rattle.jv_session.proofs.StateLaws.{state_noted, state_with}
use Rattle.jv_session.proofs.UsesLaws.{blocks_stay, failures_none, no_failures, uses_clock}
use Rattle.jv_session.proofs.InLineLaws.{MayBreak, is_now, line_goes_on, says, stops_at}
use Rattle.jv_model.specs.declared.basics.Limits.{Limits}

-- the moment, where no further second passes
plain_now : (q : Past) (s : ScheduleValue) (v : Shared) (now : ℕ) (before after : Ticks) → InLine q s v
    → IsMomentOf s 0 now before after
    → ClockFor q.run.clock q.asked before.answers after.answers → IsNow q q.ticks now
plain_now q s v now before after h m clock = subst (λ t. IsNow q t now)
    (let e : q.ticks + 0 ≡ q.ticks = omega arith in e)
    (is_now q s 0 now 1 before after after.answers h.at h.last h.ticks m m.answered.passes clock)

-- the entry of the line
goes_one : (q r : Past) (number now client : ℕ) (kind : ActKind) (text : List ℕ) (journal more : List Act)
    → q.line ≡ number → q.state.count ≡ length journal
    → more ≡ journal ++ entry_of number now client kind ∷ [] → NotesEntry q (entry_of q.line now client kind) text r
    → Goes q 1 journal more (entry_of q.line now client kind ∷ []) r
goes_one q r number now client kind text journal more line count appends n =
    let grows : more ≡ journal ++ entry_of q.line now client kind ∷ [] = appends
    ∙ ap (λ l. journal ++ entry_of l now client kind ∷ []) (sym line) in
    record {
      grows = grows;
      leads = n.leads;
      same = n.same;
      count = n.count ∙ ap (λ k. k + 1) count ∙ sym (ap length grows
          ∙ length_push journal (entry_of q.line now client kind));
      asked = n.asked;
    }

-- such an entry copies nothing

ticked_copies : (s : State) (line now client by : ℕ) (o : Option Doing)
    → (of_doing s (entry_of line now client (Ticked by)) o).copied ≡ s.copied
ticked_copies s line now client by None = refl
ticked_copies s line now client by (Some d) = refl

copied_noted : (q r : Past) (act : Act) → Leads q (act ∷ []) r → act.line ≡ q.line
    → (effect q.state act).copied ≡ q.state.copied → r.state.copied ≡ q.state.copied
copied_noted q r act leads line same =
    ap (λ (p : Past). p.state.copied) (sym leads.reaches) ∙ ap (λ (s : State). s.copied) (advanced q act).state
    ∙ ap (λ (p : Past). (effect p.state act).copied) (begun_to-begun act.line q (omega (arith, line))) ∙ same

-- the line goes on after its entry
in_line_after : (q r : Past) (s s' : ScheduleValue) (v : Shared) (now client : ℕ) (kind : ActKind) (text : List ℕ)
    (h : InLine q s v)
    → NotesEntry q (entry_of q.line now client kind) text r → s'.at ≡ now → now ≤ LAST_MOMENT
    → min LAST_MOMENT r.ticks ≡ s'.ticks → s'.limits ≡ s.limits
    → s'.setting ≡ s.setting → IsState q.run.start h.known r.state s'.clients v → InLine r s' v
in_line_after q r s s' v now client kind text h n at last ticks limits setting state = record {
  complete = n.same.complete ∙ h.complete;
  at = n.at ∙ sym at;
  last = subst (λ k. k ≤ LAST_MOMENT) (sym n.at) last;
  ticks = ticks;
  alone = λ k. ap (λ (run : Setup). run.by_worker k) n.same.run ∙ h.alone k;
  limits = ap (λ (run : Setup). run.limits) n.same.run ∙ h.limits ∙ sym limits;
  setting = ap (λ (t : Tree). t.setting) n.tree ∙ h.setting ∙ sym setting;
  known = h.known;
  state = subst (λ (run : Setup). IsState run.start h.known r.state s'.clients v) (sym n.same.run) state;
}

low_now : (s : ScheduleValue) (by now : ℕ) (before after : Ticks) → IsMomentOf s by now before after
    → now ≤ LAST_MOMENT
low_now s by now before after m = omega (arith, m.is)

-- a client that was just made, or crashed, stands for one that isn't mounted
pub fresh_stands : (g : Known) (v : Shared) (count id : ℕ) (limits : Limits) → IsClient g v unmounted count (fresh_client id limits)
fresh_stands g v count id limits = record {
  held = record {
    session = refl;
    removed = λ inode. refl;
    handles = tt;
    views = tt;
    pending = refl;
    direct = record { mode = refl; seen = tt };
  };
  doing = tt;
  flight = tt;
  reading = tt;
  cache = tt;
  put = tt;
}

-- The call notes one entry, and no device is used.
module _ (v : Shared) (number : ℕ) (clock ticked : Ticks) (journal more : List Act) (s : ScheduleValue) where
  abbrev before : LineState
  before = line_state clock v journal s

  abbrev after : ScheduleValue → LineState
  after s' = line_state ticked v more s'

  -- the entry was noted with this schedule left
  abbrev Noted : ScheduleValue → ℕ → ActKind → ℕ → ℕ → Type 0
  Noted noted client kind by now = HasNoted s noted number client kind by now clock ticked journal more

  refused_finish : (client now : ℕ) (fault : Fault) (c : ClientValue) (s' : ScheduleValue)
      → slice_get s.clients client ≡ Some c
      → Noted s' client (Answered (ToldRefused fault)) 0 now
      → FromLine (IsRefused client fault) number before (after s')
      (λ q. Finish q 1 before (after s') (printed_line s'.setting (Refused fault)))
  refused_finish client now fault c s' found m q there h line count clock_for =
      let ran = refused_ran q client now fault there.op h.alone h.complete there.due there.refused
      (line_goes_on q s v client c h found)
      (plain_now q s v now clock ticked h m.moment clock_for) in
      let r = ran.0 in
      let n = ran.1.notes in
      let kind = Answered (ToldRefused fault) in
      subst (λ (x : ScheduleValue). Finish q 1 before (after x) (printed_line x.setting (Refused fault)))
      (sym m.same) (record {
        acts = entry_of q.line now client kind ∷ [];
        end = r;
        goes = goes_one q r number now client kind _ journal more line count m.appends n;
        in_line = in_line_after q r s (record s { at = now }) v now client kind _ h n refl
            (low_now s 0 now clock ticked m.moment) (ap (min LAST_MOMENT) ran.1.ticks ∙ h.ticks) refl refl
            (state_noted q.run.start h.known q.state s.clients v h.state r.state n.tree
            (let e = n.count in omega (arith, e))
            (copied_noted q r (entry_of q.line now client kind) n.leads refl refl) ran.1.clients);
        direct = blocks_stay v v refl;
        over = is_over_at r NoMore n.done.due_is tt;
        said = n.done.said_is ∙ ap (λ (setting : Setting). printed_line setting (Refused fault)) h.setting;
      })

  crash_finish : (client now : ℕ) (c : ClientValue) (noted s' : ScheduleValue) → slice_get s.clients client ≡ Some c
      → Noted noted client Crashed 0 now
      → s' ≡ record noted { clients = slice_set noted.clients client (crashed c) }
      → FromLine (Crashes client) number before (after s')
      (λ q. Finish q 1 before (after s') (with_feed (codes "crashed")))
  crash_finish client now c noted s' found m same q there h line count clock_for =
      let ran = crash_ran q client now h.alone h.complete there
      (plain_now q s v now clock ticked h m.moment clock_for) in
      let r = ran.0 in
      let n = ran.1.notes in
      let last = record s { at = now; clients = slice_set s.clients client (crashed c) } in
      let is : s' ≡ last = same ∙ ap (λ (x : ScheduleValue). record x
      { clients = slice_set x.clients client (crashed c) }) m.same in
      let grew : q.state.count ≤ r.state.count = (let e = n.count in omega (arith, e)) in
      subst (λ (x : ScheduleValue). Finish q 1 before (after x) (with_feed (codes "crashed"))) (sym is)
      (record {
        acts = entry_of q.line now client Crashed ∷ [];
        end = r;
        goes = goes_one q r number now client Crashed _ journal more line count m.appends n;
        in_line = in_line_after q r s last v now client Crashed _ h n refl
            (low_now s 0 now clock ticked m.moment) (ap (min LAST_MOMENT) ran.1.ticks ∙ h.ticks) refl refl
            (state_with q.run.start h.known q.state s.clients v h.state r.state client c (crashed c) found refl n.tree
            grew (copied_noted q r (entry_of q.line now client Crashed) n.leads refl refl) ran.1.others (record {
              is_client = subst (λ (x : ModelClient). IsClient h.known v x r.state.count (crashed c)) (sym ran.1.own)
                  (fresh_stands h.known v r.state.count c.id c.limits);
              holds = subst (λ (x : ModelClient). Holds r.state.tree x) (sym ran.1.own)
                  (holds-unmounted r.state.tree);
            }));
        direct = blocks_stay v v refl;
        over = is_over_at r NoMore n.done.due_is tt;
        said = n.done.said_is;
      })

  tick_finish : (by now ticks : ℕ) (noted s' : ScheduleValue) → Noted noted NO_CLIENT (Ticked by) by now
      → s' ≡ record noted { ticks = ticks }
      → ticks ≡ min LAST_MOMENT (s.ticks + by)
      → FromLine (Passing by) number before (after s')
      (λ q. Finish q 1 before (after s') (with_feed (codes "now " ++ decimal now)))
  tick_finish by now ticks noted s' m same passed q there h line count clock_for =
      let ran = tick_ran q now by h.alone h.complete there
      (is_now q s by now 1 clock ticked ticked.answers h.at h.last h.ticks m.moment m.moment.answered.passes
      clock_for) in
      let r = ran.0 in
      let n = ran.1.notes in
      let last = record s { at = now; ticks = ticks } in
      let is : s' ≡ last = same ∙ ap (λ (x : ScheduleValue). record x { ticks = ticks }) m.same in
      let total = ran.1.ticks in
      let told = h.ticks in
      subst (λ (x : ScheduleValue). Finish q 1 before (after x) (with_feed (codes "now " ++ decimal now))) (sym is)
      (record {
        acts = entry_of q.line now NO_CLIENT (Ticked by) ∷ [];
        end = r;
        goes = goes_one q r number now NO_CLIENT (Ticked by) _ journal more line count m.appends n;
        in_line = in_line_after q r s last v now NO_CLIENT (Ticked by) _ h n refl
            (low_now s by now clock ticked m.moment) (omega (arith, total, told, passed)) refl refl
            (state_noted q.run.start h.known q.state s.clients v h.state r.state n.tree
            (let e = n.count in omega (arith, e))
            (copied_noted q r (entry_of q.line now NO_CLIENT (Ticked by)) n.leads refl
            (ticked_copies q.state q.line now NO_CLIENT by (q.state.clients NO_CLIENT).doing)) ran.1.clients);
        direct = blocks_stay v v refl;
        over = is_over_at r NoMore n.done.due_is tt;
        said = n.done.said_is;
      })

  uses_entry : (client by now : ℕ) (kind : ActKind) (noted s' : ScheduleValue) → Noted noted client kind by now
      → ((device : Device) → is_failure_entry device kind ≡ false)
      → s'.at ≡ noted.at → s'.limits ≡ noted.limits → LineUses before (after s') 1 no_failures
  uses_entry client by now kind noted s' m other at limits =
      let is : noted.at ≡ now = ap (λ (x : ScheduleValue). x.at) m.same in
      let later = m.later in
      uses_clock before (after s') 1 m.moment.answered.passes refl
      (record {
        acts = entry_of number now client kind ∷ [];
        grows = m.appends;
        failures = failures_none number now client kind other;
      })
      (omega (arith, later, at, is))
      (limits ∙ ap (λ (x : ScheduleValue). x.limits) m.same)

  abbrev Noting : ScheduleValue → ℕ → ActKind → ℕ → Result ℕ Stopped → Type 0
  Noting noted client kind by made = Notes s noted number client kind by clock ticked journal more made

  -- the client at a place, of eight
  the_client : (k : ℕ) → length s.clients ≡ CLIENTS → k ≤ LAST_CLIENT → (c : ClientValue) × (slice_get s.clients k ≡ Some c)
  the_client k eight low = slice_get_inside s.clients k (omega (arith, eight, low))

  pub refuse_says : (client : ℕ) (fault : Fault) (s' : ScheduleValue) (made : Result ℕ Stopped) (now : ℕ)
      (printed : Result (List ℕ) AllocError) (end : LineEnd) → client ≤ LAST_CLIENT → IsCalm (ToldRefused fault)
      → Noting s' client (Answered (ToldRefused fault)) 0 made → made ≡ Ok now
      → IfOk printed (λ t. t ≡ printed_line s'.setting (Refused fault)) → LineSays printed end
      → LineGoes (IsRefused client fault) number before (after s') end
  refuse_says client fault s' made now printed end low calm notes is text said =
      let m = subst (Noting s' client (Answered (ToldRefused fault)) 0) is notes in
      let c = the_client client m.eight low in
      says (IsRefused client fault) number 1 no_failures before (after s') (printed_line s'.setting (Refused fault)) printed end
      (uses_entry client 0 now (Answered (ToldRefused fault)) s' s' m calm refl refl) m.moment.answered.calm
      (refused_finish client now fault c.0 s' c.1 m) text said

  pub tick_says : (by : ℕ) (noted s' : ScheduleValue) (ticks now : ℕ) (made : Result ℕ Stopped)
      (printed : Result (List ℕ) AllocError) (end : LineEnd)
      → Noting noted NO_CLIENT (Ticked by) by made → made ≡ Ok now → s' ≡ record noted { ticks = ticks }
      → ticks ≡ min LAST_MOMENT (noted.ticks + by)
      → IfOk printed (λ t. t ≡ with_feed (codes "now " ++ decimal now)) → LineSays printed end
      → LineGoes (Passing by) number before (after s') end
  tick_says by noted s' ticks now made printed end notes is same passed text said =
      let m = subst (Noting noted NO_CLIENT (Ticked by) by) is notes in
      let before_ticks : ticks ≡ min LAST_MOMENT (s.ticks + by) = passed
      ∙ ap (λ (v : ScheduleValue). min LAST_MOMENT (v.ticks + by)) m.same in
      says (Passing by) number 1 no_failures before (after s') (with_feed (codes "now " ++ decimal now)) printed end
      (uses_entry NO_CLIENT by now (Ticked by) noted s' m (λ device. refl) (ap (λ (x : ScheduleValue). x.at) same)
      (ap (λ (x : ScheduleValue). x.limits) same)) m.moment.answered.calm
      (tick_finish by now ticks noted s' m same before_ticks) text said

  pub crash_says : (client : ℕ) (noted s' : ScheduleValue) (c : ClientValue) (now : ℕ) (made : Result ℕ Stopped)
      (printed : Result (List ℕ) AllocError) (end : LineEnd)
      → Noting noted client Crashed 0 made → made ≡ Ok now → slice_get noted.clients client ≡ Some c
      → s' ≡ record noted { clients = slice_set noted.clients client (crashed c) }
      → IfOk printed (λ t. t ≡ with_feed (codes "crashed")) → LineSays printed end
      → LineGoes (Crashes client) number before (after s') end
  crash_says client noted s' c now made printed end notes is found same text said =
      let m = subst (Noting noted client Crashed 0) is notes in
      let here : slice_get s.clients client ≡ Some c = ap (λ (v : ScheduleValue). slice_get v.clients client)
      (sym m.same) ∙ found in
      says (Crashes client) number 1 no_failures before (after s') (with_feed (codes "crashed")) printed end
      (uses_entry client 0 now Crashed noted s' m (λ device. refl) (ap (λ (x : ScheduleValue). x.at) same)
      (ap (λ (x : ScheduleValue). x.limits) same)) m.moment.answered.calm
      (crash_finish client now c noted s' here m same) text said

  -- no entry was made
  pub stops_noted : (Where : Past → Type 0) (client by : ℕ) (kind : ActKind) (s' : ScheduleValue)
      (made : Result ℕ Stopped) (why : Stopped) (end : LineEnd)
      → MayBreak Where before → Noting s' client kind by made → made ≡ Err why → end ≡ end_of why
      → LineGoes Where number before (after s') end
  stops_noted Where client by kind s' made why end may notes is ends =
      let m = subst (Noting s' client kind by) is notes in
      subst (LineGoes Where number before (after s')) (sym ends)
      (stops_at Where number before (after s') why may m.stops
      (record { journal = m.acts; schedule = m.same; devices = refl }))

-- each of these lines may stop before its entry

pub refusal_breaks : (client : ℕ) (fault : Fault) (start : LineState) → MayBreak (IsRefused client fault) start
refusal_breaks client fault start q there h = may_be_cut_at q (Refusal client fault) there.due tt

pub crash_breaks : (client : ℕ) (start : LineState) → MayBreak (Crashes client) start
crash_breaks client start q there h = may_be_cut_at q (CrashEntry client) there tt

pub tick_breaks : (by : ℕ) (start : LineState) → MayBreak (Passing by) start
tick_breaks by start q there h = may_be_cut_at q (TickEntry by) there tt
