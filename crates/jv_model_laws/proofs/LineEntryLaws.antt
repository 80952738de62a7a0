-- Entries of the line that is present, where no uploading thread makes one: what they lead to.
use Rattle.std.proofs.Common.{◌≡◌, ℕ, ◌+◌, ◌≤◌, Bool, true, false, if◌then◌else◌, MatchBool, List, [], ◌∷◌, ◌++◌, refl, sym, ap, subst, ◌∙◌, arith}
use Rattle.jv_model.specs.declared.limits.TheConstants.{LAST_MOMENT}
use Rattle.jv_model.specs.declared.act.Act.{Act}
use Rattle.jv_model.specs.promise.journal.State.{effect}
use Rattle.jv_model.specs.promise.journal.Past.{Setup, Past, Due, is_workers, lined, asks_clock, after, past}
use Rattle.jv_model.specs.promise.journal.Legal.{Allowed, AllAllowed, IsMoment, OfLine, OfWorker, tick_of}
use Rattle.jv_model_laws.proofs.JournalGrowthLaws.{begun_to-begun, advance-present, past-append, AllAllowed-append}
use Rattle.jv_model_laws.specs.OnLines.{IsAlone, Leads, SameLine}
use Rattle.jv_model.specs.promise.journal.Legal.{IsNow}

pub leads_none : (q : Past) → Leads q [] q
leads_none q = record { allowed = tt; reaches = refl }

pub leads_more : (q r s : Past) (xs ys : List Act) → Leads q xs r → Leads r ys s → Leads q (xs ++ ys) s
leads_more q r s xs ys h g = record {
  allowed = AllAllowed-append q xs ys h.allowed (subst (λ x. AllAllowed x ys) (sym h.reaches) g.allowed);
  reaches = past-append q xs ys ∙ ap (λ x. past x ys) h.reaches ∙ g.reaches;
}

pub same_line-then : (q r s : Past) → SameLine q r → SameLine r s → SameLine q s
same_line-then q r s a b = record { line = b.line ∙ a.line; run = b.run ∙ a.run; rest = b.rest ∙ a.rest; printed = b.printed ∙ a.printed; complete = b.complete ∙ a.complete }

-- what holds of a past that has the same run, moment and answers of the clock

pub alone_at : (p q : Past) → q.run ≡ p.run → IsAlone p → IsAlone q
alone_at p q run alone = subst (λ (s : Setup). (n : ℕ) → s.by_worker n ≡ false) (sym run) alone

-- one entry

pub moment_asked : (q : Past) (act : Act) → IsAlone q → asks_clock q act ≡ true → IsNow q (q.ticks + tick_of act.kind) act.at → IsMoment q act
moment_asked q act alone asks h = subst (λ w. MatchBool w ((q.at ≤ act.at) × (act.at ≤ LAST_MOMENT)) (MatchBool (asks_clock q act) (IsNow q (q.ticks + tick_of act.kind) act.at) (act.at ≡ q.at))) (sym (alone (q.state.count + 1)))
    (subst (λ b. MatchBool b (IsNow q (q.ticks + tick_of act.kind) act.at) (act.at ≡ q.at)) (sym asks) h)

pub moment_kept : (q : Past) (act : Act) → IsAlone q → asks_clock q act ≡ false → act.at ≡ q.at → IsMoment q act
moment_kept q act alone asks h = subst (λ w. MatchBool w ((q.at ≤ act.at) × (act.at ≤ LAST_MOMENT)) (MatchBool (asks_clock q act) (IsNow q (q.ticks + tick_of act.kind) act.at) (act.at ≡ q.at))) (sym (alone (q.state.count + 1)))
    (subst (λ b. MatchBool b (IsNow q (q.ticks + tick_of act.kind) act.at) (act.at ≡ q.at)) (sym asks) h)

pub stands_on : (q : Past) (act : Act) (due : Due) → IsAlone q → q.due ≡ due → OfLine q act due → MatchBool (is_workers q) (OfWorker q act) (OfLine q act q.due)
stands_on q act due alone e h = subst (λ w. MatchBool w (OfWorker q act) (OfLine q act q.due)) (sym (alone (q.state.count + 1))) (subst (OfLine q act) (sym e) h)

-- where an entry leads that asks the clock, and one that doesn't
abbrev pub entered : Past → Act → ℕ → Past
entered q act asked = record (lined q act act.kind) { asked = asked; at = act.at; state = effect q.state act }

abbrev entered_by : Past → Act → Bool → Bool → Past
entered_by q act worker asks = record (if worker then q else record (lined q act act.kind) { asked = (if asks then q.asked + 1 else q.asked) }) { at = act.at; state = effect q.state act }

after_by : (q : Past) (act : Act) (asks : Bool) → IsAlone q → asks_clock q act ≡ asks → after q act ≡ entered_by q act false asks
unfolding after
after_by q act asks alone e = ap (λ w. entered_by q act w (asks_clock q act)) (alone (q.state.count + 1)) ∙ ap (entered_by q act false) e

pub after_asking : (q : Past) (act : Act) → IsAlone q → asks_clock q act ≡ true → after q act ≡ entered q act (q.asked + 1)
after_asking q act alone e = after_by q act true alone e

pub after_kept : (q : Past) (act : Act) → IsAlone q → asks_clock q act ≡ false → after q act ≡ entered q act q.asked
after_kept q act alone e = after_by q act false alone e

-- an entry that may stand leads on
pub leads_one : (q : Past) (act : Act) (r : Past) → Allowed q act → after q act ≡ r → Leads q (act ∷ []) r
leads_one q act r allowed e =
    let line = allowed.line in
    record {
      allowed = (subst (λ x. Allowed x act) (sym (begun_to-begun act.line q (omega (arith, line)))) allowed, tt);
      reaches = advance-present q act allowed.line ∙ e;
    }
