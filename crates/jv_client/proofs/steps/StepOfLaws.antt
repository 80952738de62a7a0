-- A step that was made, with its entries appended to a journal.
use Rattle.std.proofs.Common.{◌≡◌, ℕ, ◌+◌, List, ◌++◌, length, sym, ap, subst, ◌∙◌}
use Rattle.jv_model.specs.declared.act.Act.{Act}
use Rattle.jv_model.specs.declared.op.Step.{Step}
use Rattle.jv_model.specs.promise.journal.State.{State}
use Rattle.jv_client_shared.specs.promise.Shared.{Shared, Known, HasStore}
use Rattle.jv_client.specs.declared.made.Made.{Made}
use Rattle.jv_client.specs.ClientValue.{ClientValue}
use Rattle.jv_client.specs.Held.{Holds, IsClient}
use Rattle.jv_client.specs.Stats.{AnswersStats}
use Rattle.jv_client.specs.Makes.{Falls, Makes, Steps, StepsTo, entries_of, kinds_of, step_of}

pub steps-of : (line now entry id : ℕ) (h after : ClientValue) (before used : Shared) (journal more : List Act)
    (made : Made) (step : Step) → Makes now entry h after before used made → AnswersStats h made → length journal + 1 ≡ entry
    → step ≡ step_of made → more ≡ journal ++ entries_of line now id (kinds_of made) → id ≡ h.id
    → Steps line now h after before used journal more step
steps-of line now entry id h after before used journal more made step m stats long is appends same = record {
  made = made;
  makes = subst (λ n. Makes now n h after before used made) (sym long) m;
  stats = stats;
  step_is = is;
  appends = appends ∙ ap (λ k. journal ++ entries_of line now k (kinds_of made)) same;
}

module _ {line now : ℕ} {h after : ClientValue} {before used : Shared} {journal more : List Act} {step : Step}
    (done : Steps line now h after before used journal more step) where
  pub falls-of : Falls step h after
  falls-of = subst (λ x. Falls x h after) (sym done.step_is) done.makes.falls

  pub leads-of : (s : State) (g : Known) → s.count ≡ length journal → HasStore s.tree g before → Holds s.tree (s.clients h.id)
      → IsClient g before (s.clients h.id) s.count h
      → StepsTo s g before h now (kinds_of done.made) step after used
  leads-of s g count has holds client = subst (λ x. StepsTo s g before h now (kinds_of done.made) x after used) (sym done.step_is)
      (done.makes.leads s g (ap (λ n. n + 1) count) has holds client)
