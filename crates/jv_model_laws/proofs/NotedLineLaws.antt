-- Lines of one entry: the refusal of a submission, a crash, a tick.
use Rattle.std.proofs.Common.{◌≡◌, ℕ, ◌+◌, true, false, if◌then◌else◌, List, [], ◌∷◌, ◌++◌, Option, None, Some, refl, sym, ap, subst, ◌∙◌, inl, inr, add-zero, codes, decimal}
use Rattle.std.proofs.lemmas.Bool.Decides.{eqb_tells}
use Rattle.jv_model.specs.declared.act.TheConstants.{NO_CLIENT}
use Rattle.jv_model.specs.declared.act.Act.{Act}
use Rattle.jv_model.specs.declared.act.ActKind.TheVariants.{Crashed, Ticked, Answered}
use Rattle.jv_model.specs.declared.act.Told.TheVariants.{Refused as ToldRefused}
use Rattle.jv_model.specs.declared.fault.Fault.{Fault}
use Rattle.jv_model.specs.declared.fault.Fault.TheVariants.{InProgress}
use Rattle.jv_model.specs.declared.op.Op.{Op}
use Rattle.jv_model.specs.declared.op.Reply.TheVariants.{Refused}
use Rattle.jv_model.specs.promise.client.ModelClient.{ModelClient, Doing, Stage, Working, Reading, Missing, LookedAgain, Compacting, Cleans, Listed, Judged, Removing, Published, Replying, unmounted}
use Rattle.jv_model.specs.promise.client.Submission.{submission}
use Rattle.jv_model.specs.promise.journal.State.{State, answered_client, with_client, is_of_another, of_doing, effect}
use Rattle.jv_model.specs.promise.journal.Steps.{must_answer}
use Rattle.jv_model.specs.promise.journal.Past.{Past, Due, Refusal, CrashEntry, TickEntry, asks_clock, ends_in_step, line_reply}
use Rattle.jv_model.specs.promise.journal.Legal.{OfLine, Refuses, tick_of}
use Rattle.jv_model.specs.journal.Stepping.{entry_of}
use Rattle.jv_model.specs.promise.script.ReplyText.{printed_line, with_feed}
use Rattle.jv_model_laws.proofs.JournalGrowthLaws.{own_client, other_client}
use Rattle.jv_model_laws.specs.OnLines.{IsAlone, Leads, SameLine}
use Rattle.jv_model.specs.promise.journal.Legal.{IsNow}
use Rattle.jv_model_laws.proofs.LineEntryLaws.{moment_asked, stands_on, entered, after_asking, leads_one}
use Rattle.jv_model_laws.proofs.LineStepLaws.{IsDone}

-- the one entry of a line is allowed, and leads there; the line prints this
pub record Notes (q : Past) (act : Act) (text : List ℕ) (r : Past) : Type 0 where
  pub leads : Leads q (act ∷ []) r
  pub same : SameLine q r
  pub at : r.at ≡ act.at
  pub asked : r.asked ≡ q.asked + 1
  pub tree : r.state.tree ≡ q.state.tree
  pub count : r.state.count ≡ q.state.count + 1
  pub done : IsDone r text

-- an entry that the line may have, at the moment that the clock answers
noted : (q : Past) (act : Act) (due : Due) → IsAlone q → q.complete ≡ true → q.line ≡ act.line → q.due ≡ due → OfLine q act due → asks_clock q act ≡ true → IsNow q (q.ticks + tick_of act.kind) act.at
    → Leads q (act ∷ []) (entered q act (q.asked + 1))
noted q act due alone complete line at may asks moment = leads_one q act (entered q act (q.asked + 1))
    (record { line = line; complete = complete; moment = moment_asked q act alone asks moment; stands = stands_on q act due alone at may })
    (after_asking q act alone asks)

no_more : (q : Past) (now : ℕ) → IsNow q q.ticks now → IsNow q (q.ticks + 0) now
no_more q now h = subst (λ t. IsNow q t now) (sym (add-zero q.ticks)) h

-- a client that is answered with the refusal of its submission stays as it was

of_another : (d : Doing) (stage : Stage) → must_answer (record d { stage = stage }) ≡ false → is_of_another stage (ToldRefused InProgress) ≡ true
of_another d (Working quiets started) e = refl
of_another d (Reading misses) e = refl
of_another d (Missing misses window owed) e = refl
of_another d (LookedAgain misses window owed) e = refl
of_another d (Compacting k) e = refl
of_another d (Cleans k) e = refl
of_another d Listed e = refl
of_another d Judged e = refl
of_another d (Removing requests) e = refl
of_another d Published e = refl
of_another d (Replying answer) e = absurd (cc)

refused_stays : (c : ModelClient) (o : Op) (fault : Fault) (doing : Option Doing) → submission (record c { doing = doing }) o ≡ Some fault → ends_in_step (record c { doing = doing }) ≡ false
    → answered_client (ToldRefused fault) (record c { doing = doing }) ≡ record c { doing = doing }
refused_stays c o fault None refuses left = refl
refused_stays c o fault (Some d) refuses left =
    let busy : InProgress ≡ fault = cc in
    subst (λ f. answered_client (ToldRefused f) (record c { doing = Some d }) ≡ record c { doing = Some d }) busy
    (ap (λ b. if b then record c { doing = Some d } else record c { doing = None }) (of_another d d.stage left))

client_kept : (clients : ℕ → ModelClient) (client : ℕ) (c : ModelClient) (k : ℕ) → c ≡ clients client → with_client clients client c k ≡ clients k
client_kept clients client c k e = elim (eqb_tells k client) [
  | inl same ↦ ap (λ b. if b then c else clients k) same.0 ∙ e ∙ ap clients (sym same.1)
  | inr other ↦ other_client clients client c k other.1
]

-- a refused submission

pub record NotesRefusal (q : Past) (client now : ℕ) (fault : Fault) (r : Past) : Type 0 where
  pub notes : Notes q (entry_of q.line now client (Answered (ToldRefused fault))) (printed_line q.state.tree.setting (Refused fault)) r
  pub ticks : r.ticks ≡ q.ticks
  pub clients : (c : ℕ) → r.state.clients c ≡ q.state.clients c

-- An operation that is in progress doesn't have to answer now: the entry would end one that does.
pub refused_ran : (q : Past) (client now : ℕ) (fault : Fault) (o : Op) → IsAlone q → q.complete ≡ true → q.due ≡ Refusal client fault → submission (q.state.clients client) o ≡ Some fault
    → ends_in_step (q.state.clients client) ≡ false → IsNow q q.ticks now → (r : Past) × NotesRefusal q client now fault r
refused_ran q client now fault o alone complete due refuses left moment =
    let act = entry_of q.line now client (Answered (ToldRefused fault)) in
    let asks : asks_clock q act ≡ true = ap (λ d. asks_clock (record q { due = d }) act) due in
    let says : line_reply q (ToldRefused fault) ≡ Refused fault = ap (λ d. line_reply (record q { due = d }) (ToldRefused fault)) due in (
      entered q act (q.asked + 1),
      record {
        notes = record {
          leads = noted q act (Refusal client fault) alone complete refl due (refl, Refuses refl) asks (no_more q now moment);
          same = record { line = refl; run = refl; rest = refl; printed = refl; complete = refl };
          at = refl;
          asked = refl;
          tree = refl;
          count = refl;
          done = record { due_is = refl; said_is = ap (printed_line q.state.tree.setting) says };
        };
        ticks = refl;
        clients = λ k. client_kept q.state.clients client (answered_client (ToldRefused fault) (q.state.clients client)) k (refused_stays (q.state.clients client) o fault (q.state.clients client).doing refuses left);
      },
    )

-- a crash

pub record NotesCrash (q : Past) (client now : ℕ) (r : Past) : Type 0 where
  pub notes : Notes q (entry_of q.line now client Crashed) (with_feed (codes "crashed")) r
  pub ticks : r.ticks ≡ q.ticks
  pub own : r.state.clients client ≡ unmounted
  pub others : (c : ℕ) → (c ≡ client → ⊥) → r.state.clients c ≡ q.state.clients c

pub crash_ran : (q : Past) (client now : ℕ) → IsAlone q → q.complete ≡ true → q.due ≡ CrashEntry client → IsNow q q.ticks now → (r : Past) × NotesCrash q client now r
crash_ran q client now alone complete due moment =
    let act = entry_of q.line now client Crashed in
    let asks : asks_clock q act ≡ true = ap (λ d. asks_clock (record q { due = d }) act) due in (
      entered q act (q.asked + 1),
      record {
        notes = record {
          leads = noted q act (CrashEntry client) alone complete refl due (refl, refl) asks (no_more q now moment);
          same = record { line = refl; run = refl; rest = refl; printed = refl; complete = refl };
          at = refl;
          asked = refl;
          tree = refl;
          count = refl;
          done = record { due_is = refl; said_is = refl };
        };
        ticks = refl;
        own = own_client q.state.clients client unmounted;
        others = λ c apart. other_client q.state.clients client unmounted c apart;
      },
    )

-- a tick

-- the entry of a tick
abbrev pub tick_entry : ℕ → ℕ → ℕ → Act
tick_entry line now by = record { line = line; at = now; client = NO_CLIENT; kind = Ticked by }

tick_leaves : (s : State) (line now by : ℕ) (o : Option Doing) → of_doing s (tick_entry line now by) o ≡ s
tick_leaves s line now by None = refl
tick_leaves s line now by (Some d) = refl

tick_effect : (s : State) (line now by : ℕ) → effect s (tick_entry line now by) ≡ record s { count = s.count + 1 }
tick_effect s line now by = ap (λ (t : State). record t { count = s.count + 1 }) (tick_leaves s line now by (s.clients NO_CLIENT).doing)

pub record NotesTick (q : Past) (now by : ℕ) (r : Past) : Type 0 where
  pub notes : Notes q (tick_entry q.line now by) (with_feed (codes "now " ++ decimal now)) r
  pub ticks : r.ticks ≡ q.ticks + by
  pub clients : (c : ℕ) → r.state.clients c ≡ q.state.clients c

pub tick_ran : (q : Past) (now by : ℕ) → IsAlone q → q.complete ≡ true → q.due ≡ TickEntry by → IsNow q (q.ticks + by) now → (r : Past) × NotesTick q now by r
tick_ran q now by alone complete due moment =
    let act = tick_entry q.line now by in
    let asks : asks_clock q act ≡ true = ap (λ d. asks_clock (record q { due = d }) act) due in
    let leaves = tick_effect q.state q.line now by in (
      entered q act (q.asked + 1),
      record {
        notes = record {
          leads = noted q act (TickEntry by) alone complete refl due (refl, refl) asks moment;
          same = record { line = refl; run = refl; rest = refl; printed = refl; complete = refl };
          at = refl;
          asked = refl;
          tree = ap (λ (s : State). s.tree) leaves;
          count = refl;
          done = record { due_is = refl; said_is = refl };
        };
        ticks = refl;
        clients = λ c. ap (λ (s : State). s.clients c) leaves;
      },
    )
