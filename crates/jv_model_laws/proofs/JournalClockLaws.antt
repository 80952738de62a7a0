-- The moments of entries are those of the clock's answers, where these are known.
use Rattle.std.proofs.Common.{◌≡◌, ℕ, ◌+◌, ◌≤◌, Bool, true, false, IsTrue, MatchBool, MatchOption, [], ◌∷◌, Some, ap, subst, ◌∙◌}
use Rattle.jv_model.specs.declared.limits.TheConstants.{LAST_MOMENT}
use Rattle.jv_model.specs.declared.act.Act.{Act}
use Rattle.jv_model.specs.promise.journal.Past.{Setup, Past, at_start, begun_to, reached, is_workers, asks_clock}
use Rattle.jv_model.specs.promise.journal.Legal.{IsMoment, clock_moment, tick_of}
use Rattle.jv_model_laws.specs.Laws.{MomentsAreTheClocks, HasMoment}
use Rattle.jv_model_laws.proofs.JournalGrowthLaws.{AllAllowed-parts, begun_frame}
use Rattle.jv_model_laws.proofs.JournalStateLaws.{run_reached}
use Rattle.jv_model_laws.proofs.JournalLineLaws.{workers_at}

abbrev IsWithin : Past → Act → Type 0
IsWithin p act = (p.at ≤ act.at) × (act.at ≤ LAST_MOMENT)

-- an entry of a line, and what it has where it asks the clock
of_line : (p : Past) (act : Act) (P : Type 0) (worker : Bool) → worker ≡ false → MatchBool worker (IsWithin p act) P → P
of_line p act P true e h = absurd (cc)
of_line p act P false e h = h

of_asked : (p : Past) (act : Act) (P : Type 0) (asks : Bool) → IsTrue asks → MatchBool asks P (act.at ≡ p.at) → P
of_asked p act P true e h = h
of_asked p act P false e h = absurd (cc)

of_unasked : (p : Past) (act : Act) (P : Type 0) (asks : Bool) → asks ≡ false → MatchBool asks P (act.at ≡ p.at) → act.at ≡ p.at
of_unasked p act P true e h = absurd (cc)
of_unasked p act P false e h = h

moment_known : (answers : ℕ → ℕ) (p : Past) (act : Act) → p.run.clock ≡ Some answers → is_workers p ≡ false → IsMoment p act → HasMoment answers p act
moment_known answers p act clock own h =
    let m = of_line p act _ (is_workers p) own h in
    record {
      asked = λ asks. subst (λ c. MatchOption c (IsWithin p act) (λ known. act.at ≡ clock_moment p (p.ticks + tick_of act.kind) known)) clock (of_asked p act _ (asks_clock p act) asks m);
      unasked = λ quiet. of_unasked p act _ (asks_clock p act) quiet m;
    }

pub moments_known : MomentsAreTheClocks
moments_known run journal act may own answers clock =
    let parts = AllAllowed-parts (at_start run) journal (act ∷ []) may in
    let p = begun_to act.line (reached run journal) in
    let same = (begun_frame act.line (reached run journal)).run ∙ run_reached run journal in
    moment_known answers p act (ap (λ (r : Setup). r.clock) same ∙ clock) (workers_at run journal act.line parts.0 ∙ own) parts.1.0.moment
