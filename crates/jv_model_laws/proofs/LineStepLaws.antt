-- A step of a client's operation, on a line that runs it: its entries are allowed, and what they leave of the line.
use Rattle.std.proofs.Common.{◌≡◌, ℕ, ◌+◌, ◌==◌, Bool, true, false, not, ◌||◌, IsTrue, List, [], ◌∷◌, map, Option, None, Some, refl, sym, ap, subst, subst₂, ◌∙◌, add-zero}
use Rattle.jv_model.specs.declared.act.Act.{Act}
use Rattle.jv_model.specs.declared.act.ActKind.{ActKind}
use Rattle.jv_model.specs.declared.act.ActKind.TheVariants.{Mounted, Crashed, Ticked, Answered}
use Rattle.jv_model.specs.declared.act.Told.{Told}
use Rattle.jv_model.specs.declared.op.Reply.{Reply}
use Rattle.jv_model.specs.declared.op.Step.{Step}
use Rattle.jv_model.specs.declared.op.Step.TheVariants.{More, Done, Broken}
use Rattle.jv_model.specs.promise.client.ModelClient.{ModelClient, Doing}
use Rattle.jv_model.specs.promise.journal.State.{State, of_doing, changed, effect}
use Rattle.jv_model.specs.promise.journal.Steps.{Start, IsEntry}
use Rattle.jv_model.specs.promise.journal.Past.{Past, Due, NoMore, ToAnswer, OneStep, lined, line_reply, reply_of, refusal_reply, requested, asks_clock, begins_in, ends_in_step, says_more}
use Rattle.jv_model.specs.promise.journal.Legal.{Allowed, OfLine, is_behind_worker, tick_of}
use Rattle.jv_model.specs.journal.Stepping.{entry_of, stepped, stepped_by, is_answer, answer_of, AllowsStep, GoesOn, AnswersAlone, AnswersAfter}
use Rattle.jv_model.specs.promise.script.ReplyText.{printed_line}
use Rattle.jv_model_laws.proofs.JournalGrowthLaws.{others_kept}
use Rattle.jv_model_laws.proofs.JournalLineLaws.{is_aside, not_aside}
use Rattle.jv_model_laws.specs.OnLines.{IsAlone, Leads, SameLine}
use Rattle.jv_model.specs.promise.journal.Legal.{IsNow}
use Rattle.jv_model_laws.proofs.LineEntryLaws.{leads_more, moment_asked, moment_kept, stands_on, entered, after_asking, after_kept, leads_one}

-- what an entry does, on any line

of_doing-line : (s : State) (line now client : ℕ) (kind : ActKind) (o : Option Doing) → of_doing s (entry_of line now client kind) o ≡ of_doing s (entry_of 0 now client kind) o
of_doing-line s line now client kind None = refl
of_doing-line s line now client (Mounted sid) (Some d) = refl
of_doing-line s line now client _ (Some d) = refl

changed-line : (s : State) (line now client : ℕ) (kind : ActKind) → changed s (entry_of line now client kind) kind ≡ changed s (entry_of 0 now client kind) kind
changed-line s line now client Crashed = refl
changed-line s line now client (Answered told) = refl
changed-line s line now client kind = of_doing-line s line now client kind (s.clients client).doing

pub effect-line : (s : State) (line now client : ℕ) (kind : ActKind) → effect s (entry_of line now client kind) ≡ stepped s client now kind
effect-line s line now client kind = ap (λ (t : State). record t { count = s.count + 1 }) (changed-line s line now client kind)

pub others_stepped : (s : State) (client now : ℕ) (kinds : List ActKind) (c : ℕ) → (c ≡ client → ⊥) → (stepped_by s client now kinds).clients c ≡ s.clients c
others_stepped s client now [] c apart = refl
others_stepped s client now (kind ∷ kinds) c apart = others_stepped (stepped s client now kind) client now kinds c apart ∙ others_kept s (entry_of 0 now client kind) c apart

-- what an entry makes of the line

no_ticks : (kind : ActKind) → is_aside kind ≡ false → tick_of kind ≡ 0
no_ticks (Ticked by) e = absurd (cc)
no_ticks _ e = refl

lined_request : (q : Past) (act : Act) (kind : ActKind) → is_answer kind ≡ false → is_aside kind ≡ false → lined q act kind ≡ record q { due = requested q.due; said = says_more q.due q.said }
lined_request q act (Answered told) a b = absurd (cc)
lined_request q act Crashed a b = absurd (cc)
lined_request q act (Ticked by) a b = absurd (cc)
lined_request q act _ a b = refl

-- where the line's entries lead
abbrev pub moved : Past → Due → List ℕ → ℕ → ℕ → State → Past
moved q due said now asked state = record q { due = due; said = said; at = now; asked = asked; state = state }

request_leaves : (q : Past) (now client : ℕ) (kind : ActKind) (before : Due) (asked : ℕ) → q.due ≡ before → is_answer kind ≡ false → is_aside kind ≡ false
    → entered q (entry_of q.line now client kind) asked ≡ moved q (requested before) (says_more before q.said) now asked (stepped q.state client now kind)
request_leaves q now client kind before asked due a b =
    let act = entry_of q.line now client kind in
    ap (λ (p : Past). record p { asked = asked; at = now; state = effect q.state act }) (lined_request q act kind a b)
    ∙ ap (λ d. moved q (requested d) (says_more d q.said) now asked (effect q.state act)) due
    ∙ ap (moved q (requested before) (says_more before q.said) now asked) (effect-line q.state q.line now client kind)

answer_leaves : (q : Past) (now client : ℕ) (told : Told) (reply : Reply) (asked : ℕ) → line_reply q told ≡ reply
    → entered q (entry_of q.line now client (Answered told)) asked ≡ moved q NoMore (printed_line q.state.tree.setting reply) now asked (stepped q.state client now (Answered told))
answer_leaves q now client told reply asked e = ap (λ r. moved q NoMore (printed_line q.state.tree.setting r) now asked (stepped q.state client now (Answered told))) e

-- a line that runs the client's operation, to its end or for one step

pub data RunsClient (client : ℕ) (due : Due) : Type 0 where
  ToItsEnd : due ≡ ToAnswer client → RunsClient client due
  OneStepOnly : due ≡ OneStep client → RunsClient client due

begins : (start : Start) (alone : Bool) (s : State) (client now : ℕ) (kind : ActKind) (b : Bool) → IsEntry start alone s client now kind b → begins_in (s.clients client) kind ≡ b
begins start alone s client now kind b h = ap (λ o. begins_in (record (s.clients client) { doing = o }) kind) h.busy ∙ h.begins_is

abbrev IsEntryOf : Past → ℕ → ℕ → ActKind → Bool → Type 0
IsEntryOf q client now kind b = IsEntry q.run.start (q.run.uploads == 0) q.state client now kind b

begins_on : (q : Past) (client now : ℕ) (kind : ActKind) (b : Bool) → IsEntryOf q client now kind b → begins_in (q.state.clients client) kind ≡ b
begins_on q client now kind b h = begins q.run.start (q.run.uploads == 0) q.state client now kind b h

-- no entry so far is an uploading thread's
not_behind : (q : Past) (b : Bool) → IsAlone q → IsTrue (not (is_behind_worker q) || b)
not_behind q b alone = subst (λ w. IsTrue (not w || b)) (sym (alone q.state.count)) refl

may_run : (q : Past) (client now : ℕ) (kind : ActKind) (b : Bool) → IsAlone q → IsEntryOf q client now kind b → OfLine q (entry_of q.line now client kind) (ToAnswer client)
may_run q client now kind b alone h = record { own = refl; behind = not_behind q _ alone; may = subst (IsEntryOf q client now kind) (sym (begins_on q client now kind b h)) h }

may_begin : (q : Past) (client now : ℕ) (kind : ActKind) (due : Due) → IsAlone q → RunsClient client due → IsEntryOf q client now kind true → OfLine q (entry_of q.line now client kind) due
may_begin q client now kind due alone (ToItsEnd e) h = subst (OfLine q (entry_of q.line now client kind)) (sym e) (may_run q client now kind true alone h)
may_begin q client now kind due alone (OneStepOnly e) h = subst (OfLine q (entry_of q.line now client kind)) (sym e) (record { own = refl; behind = not_behind q _ alone; may = h })

may_end : (q : Past) (client now : ℕ) (kind : ActKind) (due : Due) → IsAlone q → RunsClient client due → IsEntryOf q client now kind false → OfLine q (entry_of q.line now client kind) (requested due)
may_end q client now kind due alone (ToItsEnd e) h = subst (λ d. OfLine q (entry_of q.line now client kind) (requested d)) (sym e) (may_run q client now kind false alone h)
may_end q client now kind due alone (OneStepOnly e) h = subst (λ d. OfLine q (entry_of q.line now client kind) (requested d)) (sym e) (record { own = refl; behind = not_behind q _ alone; may = h })

asks_first : (q : Past) (client now : ℕ) (kind : ActKind) (due : Due) → RunsClient client due → q.due ≡ due → IsEntryOf q client now kind true → asks_clock q (entry_of q.line now client kind) ≡ true
asks_first q client now kind due (ToItsEnd e) at h = ap (λ d. asks_clock (record q { due = d }) (entry_of q.line now client kind)) (at ∙ e) ∙ begins_on q client now kind true h
asks_first q client now kind due (OneStepOnly e) at h = ap (λ d. asks_clock (record q { due = d }) (entry_of q.line now client kind)) (at ∙ e)

asks_no_more : (q : Past) (client now : ℕ) (kind : ActKind) (due : Due) → RunsClient client due → q.due ≡ requested due → IsEntryOf q client now kind false → asks_clock q (entry_of q.line now client kind) ≡ false
asks_no_more q client now kind due (ToItsEnd e) at h = ap (λ d. asks_clock (record q { due = d }) (entry_of q.line now client kind)) (at ∙ ap requested e) ∙ begins_on q client now kind false h
asks_no_more q client now kind due (OneStepOnly e) at h = ap (λ d. asks_clock (record q { due = d }) (entry_of q.line now client kind)) (at ∙ ap requested e)

reply_in : (c : ModelClient) (told : Told) (reply : Reply) (o : Option Doing) → answer_of (record c { doing = o }) told ≡ Some reply
    → (elim o as (λ _. Reply) [ None ↦ refusal_reply told | Some d ↦ reply_of (record c { doing = o }) d told ]) ≡ reply
reply_in c told reply None e = absurd (cc)
reply_in c told reply (Some d) e = cc

reply_on : (q : Past) (client : ℕ) (told : Told) (reply : Reply) (due : Due) → RunsClient client due → q.due ≡ due → answer_of (q.state.clients client) told ≡ Some reply → line_reply q told ≡ reply
reply_on q client told reply due (ToItsEnd e) at h = ap (λ d. line_reply (record q { due = d }) told) (at ∙ e) ∙ reply_in (q.state.clients client) told reply (q.state.clients client).doing h
reply_on q client told reply due (OneStepOnly e) at h = ap (λ d. line_reply (record q { due = d }) told) (at ∙ e) ∙ reply_in (q.state.clients client) told reply (q.state.clients client).doing h

reply_after : (q : Past) (client : ℕ) (told : Told) (reply : Reply) (due : Due) → RunsClient client due → q.due ≡ requested due → answer_of (q.state.clients client) told ≡ Some reply → line_reply q told ≡ reply
reply_after q client told reply due (ToItsEnd e) at h = ap (λ d. line_reply (record q { due = d }) told) (at ∙ ap requested e) ∙ reply_in (q.state.clients client) told reply (q.state.clients client).doing h
reply_after q client told reply due (OneStepOnly e) at h = ap (λ d. line_reply (record q { due = d }) told) (at ∙ ap requested e) ∙ reply_in (q.state.clients client) told reply (q.state.clients client).doing h

-- one entry of a step

now_of : (q : Past) (now : ℕ) (kind : ActKind) → is_aside kind ≡ false → IsNow q q.ticks now → IsNow q (q.ticks + tick_of kind) now
now_of q now kind b h = subst (λ t. IsNow q (q.ticks + t) now) (sym (no_ticks kind b)) (subst (λ t. IsNow q t now) (sym (add-zero q.ticks)) h)

aside_not : (q : Past) (client now : ℕ) (kind : ActKind) (b : Bool) → IsEntryOf q client now kind b → is_aside kind ≡ false
aside_not q client now kind b h = not_aside q.run.start (q.run.uploads == 0) q.state client now (q.state.clients client) h.doing kind h.may

begin_allowed : (q : Past) (client now : ℕ) (kind : ActKind) (due : Due) → IsAlone q → q.complete ≡ true → RunsClient client due → q.due ≡ due → IsNow q q.ticks now → IsEntryOf q client now kind true
    → Allowed q (entry_of q.line now client kind)
begin_allowed q client now kind due alone complete runs at moment h = record {
  line = refl;
  complete = complete;
  moment = moment_asked q (entry_of q.line now client kind) alone (asks_first q client now kind due runs at h) (now_of q now kind (aside_not q client now kind true h) moment);
  stands = stands_on q (entry_of q.line now client kind) due alone at (may_begin q client now kind due alone runs h);
}

end_allowed : (q : Past) (client now : ℕ) (kind : ActKind) (due : Due) → IsAlone q → q.complete ≡ true → RunsClient client due → q.due ≡ requested due → now ≡ q.at → IsEntryOf q client now kind false
    → Allowed q (entry_of q.line now client kind)
end_allowed q client now kind due alone complete runs at moment h = record {
  line = refl;
  complete = complete;
  moment = moment_kept q (entry_of q.line now client kind) alone (asks_no_more q client now kind due runs at h) moment;
  stands = stands_on q (entry_of q.line now client kind) (requested due) alone at (may_end q client now kind due alone runs h);
}

request_ran : (q : Past) (client now : ℕ) (kind : ActKind) (due : Due) → IsAlone q → q.complete ≡ true → RunsClient client due → q.due ≡ due → IsNow q q.ticks now → IsEntryOf q client now kind true → is_answer kind ≡ false
    → Leads q (entry_of q.line now client kind ∷ []) (moved q (requested due) (says_more due q.said) now (q.asked + 1) (stepped q.state client now kind))
request_ran q client now kind due alone complete runs at moment h a = leads_one q (entry_of q.line now client kind) (moved q (requested due) (says_more due q.said) now (q.asked + 1) (stepped q.state client now kind))
    (begin_allowed q client now kind due alone complete runs at moment h)
    (after_asking q (entry_of q.line now client kind) alone (asks_first q client now kind due runs at h) ∙ request_leaves q now client kind due (q.asked + 1) at a (aside_not q client now kind true h))

answer_ran : (q : Past) (client now : ℕ) (told : Told) (reply : Reply) (due : Due) → IsAlone q → q.complete ≡ true → RunsClient client due → q.due ≡ due → IsNow q q.ticks now → IsEntryOf q client now (Answered told) true
    → answer_of (q.state.clients client) told ≡ Some reply
    → Leads q (entry_of q.line now client (Answered told) ∷ []) (moved q NoMore (printed_line q.state.tree.setting reply) now (q.asked + 1) (stepped q.state client now (Answered told)))
answer_ran q client now told reply due alone complete runs at moment h says = leads_one q (entry_of q.line now client (Answered told)) (moved q NoMore (printed_line q.state.tree.setting reply) now (q.asked + 1) (stepped q.state client now (Answered told)))
    (begin_allowed q client now (Answered told) due alone complete runs at moment h)
    (after_asking q (entry_of q.line now client (Answered told)) alone (asks_first q client now (Answered told) due runs at h) ∙ answer_leaves q now client told reply (q.asked + 1) (reply_on q client told reply due runs at says))

answer_after_ran : (q : Past) (client now : ℕ) (told : Told) (reply : Reply) (due : Due) → IsAlone q → q.complete ≡ true → RunsClient client due → q.due ≡ requested due → now ≡ q.at → IsEntryOf q client now (Answered told) false
    → answer_of (q.state.clients client) told ≡ Some reply
    → Leads q (entry_of q.line now client (Answered told) ∷ []) (moved q NoMore (printed_line q.state.tree.setting reply) now q.asked (stepped q.state client now (Answered told)))
answer_after_ran q client now told reply due alone complete runs at moment h says = leads_one q (entry_of q.line now client (Answered told)) (moved q NoMore (printed_line q.state.tree.setting reply) now q.asked (stepped q.state client now (Answered told)))
    (end_allowed q client now (Answered told) due alone complete runs at moment h)
    (after_kept q (entry_of q.line now client (Answered told)) alone (asks_no_more q client now (Answered told) due runs at h) ∙ answer_leaves q now client told reply q.asked (reply_after q client told reply due runs at says))

-- the step

-- the operation goes on after it
pub record IsLeft (due : Due) (client : ℕ) (said : List ℕ) (r : Past) : Type 0 where
  pub due_is : r.due ≡ requested due
  pub said_is : r.said ≡ says_more due said
  pub goes_on : ends_in_step (r.state.clients client) ≡ false

-- the line is done, and prints its reply
pub record IsDone (r : Past) (text : List ℕ) : Type 0 where
  pub due_is : r.due ≡ NoMore
  pub said_is : r.said ≡ text

-- what the step leaves of a line that had this due and said this
abbrev pub AfterStep : Due → ℕ → List ℕ → Step → Past → Type 0
AfterStep due client said More r = IsLeft due client said r
AfterStep due client said (Done reply) r = IsDone r (printed_line r.state.tree.setting reply)
AfterStep due client said (Broken key bytes) r = ⊥

-- the entries of a step are allowed on a line with this due, and lead there
pub record StepsOn (due : Due) (q : Past) (client now : ℕ) (kinds : List ActKind) (step : Step) (r : Past) : Type 0 where
  pub leads : Leads q (map (entry_of q.line now client) kinds) r
  pub same : SameLine q r
  pub state : r.state ≡ stepped_by q.state client now kinds
  pub at : r.at ≡ now
  pub ticks : r.ticks ≡ q.ticks
  pub asked : r.asked ≡ q.asked + 1
  pub after : AfterStep due client q.said step r

abbrev HasRun : Due → Past → ℕ → ℕ → List ActKind → Step → Type 0
HasRun due q client now kinds step = (r : Past) × StepsOn due q client now kinds step r

went_on : (q : Past) (client now : ℕ) (kind : ActKind) (due : Due) → IsAlone q → q.complete ≡ true → RunsClient client due → q.due ≡ due → IsNow q q.ticks now → IsEntryOf q client now kind true → is_answer kind ≡ false
    → ends_in_step ((stepped q.state client now kind).clients client) ≡ false → HasRun due q client now (kind ∷ []) More
went_on q client now kind due alone complete runs at moment h a open_yet = (
  moved q (requested due) (says_more due q.said) now (q.asked + 1) (stepped q.state client now kind),
  record {
    leads = request_ran q client now kind due alone complete runs at moment h a;
    same = record { line = refl; run = refl; rest = refl; printed = refl; complete = refl };
    state = refl;
    at = refl;
    ticks = refl;
    asked = refl;
    after = record { due_is = refl; said_is = refl; goes_on = open_yet };
  },
)

answered_alone : (q : Past) (client now : ℕ) (told : Told) (reply : Reply) (due : Due) → IsAlone q → q.complete ≡ true → RunsClient client due → q.due ≡ due → IsNow q q.ticks now → IsEntryOf q client now (Answered told) true
    → answer_of (q.state.clients client) told ≡ Some reply → HasRun due q client now (Answered told ∷ []) (Done reply)
answered_alone q client now told reply due alone complete runs at moment h says = (
  moved q NoMore (printed_line q.state.tree.setting reply) now (q.asked + 1) (stepped q.state client now (Answered told)),
  record {
    leads = answer_ran q client now told reply due alone complete runs at moment h says;
    same = record { line = refl; run = refl; rest = refl; printed = refl; complete = refl };
    state = refl;
    at = refl;
    ticks = refl;
    asked = refl;
    after = record { due_is = refl; said_is = refl };
  },
)

answered_after : (q : Past) (client now : ℕ) (kind : ActKind) (told : Told) (reply : Reply) (due : Due) → IsAlone q → q.complete ≡ true → RunsClient client due → q.due ≡ due → IsNow q q.ticks now
    → IsEntryOf q client now kind true → is_answer kind ≡ false → IsEntry q.run.start (q.run.uploads == 0) (stepped q.state client now kind) client now (Answered told) false
    → answer_of ((stepped q.state client now kind).clients client) told ≡ Some reply → HasRun due q client now (kind ∷ Answered told ∷ []) (Done reply)
answered_after q client now kind told reply due alone complete runs at moment h a g says =
    let m = moved q (requested due) (says_more due q.said) now (q.asked + 1) (stepped q.state client now kind) in
    let r = moved m NoMore (printed_line m.state.tree.setting reply) now m.asked (stepped m.state client now (Answered told)) in (
      r,
      record {
        leads = leads_more q m r (entry_of q.line now client kind ∷ []) (entry_of q.line now client (Answered told) ∷ []) (request_ran q client now kind due alone complete runs at moment h a)
            (answer_after_ran m client now told reply due alone complete runs refl refl g says);
        same = record { line = refl; run = refl; rest = refl; printed = refl; complete = refl };
        state = refl;
        at = refl;
        ticks = refl;
        asked = refl;
        after = record { due_is = refl; said_is = refl };
      },
    )

-- A step that the model allows, at the moment that the clock answers.
pub step_ran : (q : Past) (client now : ℕ) (kinds : List ActKind) (step : Step) (due : Due) → IsAlone q → q.complete ≡ true → RunsClient client due → q.due ≡ due → IsNow q q.ticks now
    → AllowsStep q.run.start (q.run.uploads == 0) q.state client now kinds step → (r : Past) × StepsOn due q client now kinds step r
step_ran q client now kinds step due alone complete runs at moment (GoesOn kind k s h a open_yet) = subst₂ (HasRun due q client now) (sym k) (sym s) (went_on q client now kind due alone complete runs at moment h a open_yet)
step_ran q client now kinds step due alone complete runs at moment (AnswersAlone told reply k s h says) = subst₂ (HasRun due q client now) (sym k) (sym s) (answered_alone q client now told reply due alone complete runs at moment h says)
step_ran q client now kinds step due alone complete runs at moment (AnswersAfter kind told reply k s h a g says) = subst₂ (HasRun due q client now) (sym k) (sym s) (answered_after q client now kind told reply due alone complete runs at moment h a g says)
