-- What a client in memory is to the lines: it has no decided answer between two steps.
use Rattle.std.proofs.Common.{◌≡◌, false, Option, None, Some, refl, ap, ◌∙◌}
use Rattle.jv_model.specs.promise.client.ModelClient.{ModelClient, Doing}
use Rattle.jv_model.specs.promise.journal.Past.{ends_in_step}
use Rattle.jv_model.specs.promise.journal.Steps.{must_answer}
use Rattle.jv_client_handles.specs.Held.{SamePlace}
use Rattle.jv_client.specs.declared.doing.Doing.{Doing as ClientDoing}
use Rattle.jv_client.specs.declared.doing.Progress.{Progress}
use Rattle.jv_client.specs.declared.doing.Progress.TheVariants.{Working, Reading}
use Rattle.jv_client.specs.Held.{IsDoing, stage_of}

-- an operation that stands for one in memory hasn't decided its answer

own_answer : (m : Doing) (p : Progress) → m.stage ≡ stage_of p → must_answer m ≡ false
own_answer m (Working quiets started id) e = ap (λ stage. must_answer (record m { stage = stage })) e
own_answer m (Reading fetch need) e = ap (λ stage. must_answer (record m { stage = stage })) e

by_doing : (c : ModelClient) (o : Option Doing) (mine : Option ClientDoing) → c.doing ≡ o → SamePlace IsDoing o mine
    → ends_in_step c ≡ false
by_doing c None None e h = ap (λ doing. ends_in_step (record c { doing = doing })) e
by_doing c None (Some d) e h = absurd h
by_doing c (Some m) None e h = absurd h
by_doing c (Some m) (Some d) e h = ap (λ doing. ends_in_step (record c { doing = doing })) e
    ∙ own_answer m d.progress h.stage

pub not_ending : (c : ModelClient) (mine : Option ClientDoing) → SamePlace IsDoing c.doing mine
    → ends_in_step c ≡ false
not_ending c mine h = by_doing c c.doing mine refl h
