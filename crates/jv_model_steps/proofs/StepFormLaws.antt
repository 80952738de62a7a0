-- The three forms of a step: a request, after which the operation goes on; an answer; and a request with its answer.
use Rattle.std.proofs.Common.{◌≡◌, ℕ, ◌+◌, Bool, true, false, [], ◌∷◌, Option, None, Some}
use Rattle.std.proofs.Common.{refl, sym, ap, subst, ◌∙◌, arith}
use Rattle.std.specs.Prelude.{if◌then◌else◌}
use Rattle.jv_model.specs.declared.act.ActKind.{ActKind}
use Rattle.jv_model.specs.declared.act.ActKind.TheVariants.{Crashed, Ticked, Answered}
use Rattle.jv_model.specs.declared.act.Told.{Told}
use Rattle.jv_model.specs.declared.op.Reply.{Reply}
use Rattle.jv_model.specs.declared.op.Step.TheVariants.{More, Done}
use Rattle.jv_model.specs.promise.tree.Tree.{Tree}
use Rattle.jv_model.specs.promise.client.ModelClient.{ModelClient, Doing, Stage, with_stage}
use Rattle.jv_model.specs.promise.journal.State.{State, after_step, after_told, answered_client, is_of_another, of_doing}
use Rattle.jv_model.specs.promise.journal.State.{with_client}
use Rattle.jv_model.specs.promise.journal.Steps.{Start, IsEntry, MayAnswer, MayStep, begins_step}
use Rattle.jv_model.specs.promise.journal.Past.{ends_in_step, reply_of}
use Rattle.jv_model.specs.journal.Stepping.{GoesOn, AnswersAlone, AnswersAfter, entry_of, stepped, is_answer, answer_of}
use Rattle.jv_model.proofs.ClientsLaws.{own_client, other_client}
use Rattle.jv_model_steps.specs.Leaves.{Leaves}
use Rattle.jv_model_steps.specs.IsStep.{IsStep}

-- the client at another stage of its operation
pub with_stage-doing : (stage : Stage) (c : ModelClient) (d : Doing) → c.doing ≡ Some d
    → with_stage stage c ≡ record c { doing = Some (record d { stage = stage; moved = true }) }
with_stage-doing stage c d e =
    ap (λ o. elim o as (λ _. ModelClient) [
      | None ↦ c
      | Some doing ↦ record c { doing = Some (record doing { stage = stage; moved = true }) }
    ]) e

-- the client after the answer of its operation, which isn't that of another one
pub answered_client-doing : (told : Told) (c : ModelClient) (d : Doing) → c.doing ≡ Some d
    → is_of_another d.stage told ≡ false → answered_client told c ≡ after_told d.op told c
answered_client-doing told c d e own =
    ap (λ o. elim o as (λ _. ModelClient) [
      | None ↦ c
      | Some doing ↦ (if is_of_another doing.stage told then c else after_told doing.op told c)
    ]) e
    ∙ ap (λ b. if b then c else after_told d.op told c) own

answer_of-doing : (told : Told) (c : ModelClient) (d : Doing) (reply : Reply) → c.doing ≡ Some d
    → reply_of c d told ≡ reply → answer_of c told ≡ Some reply
answer_of-doing told c d reply busy says =
    ap (λ (o : Option Doing). elim o as (λ _. Option Reply) [ None ↦ None | Some d ↦ Some (reply_of c d told) ]) busy
    ∙ ap Some says

-- what entries leave

-- one entry, whose state is known up to its number
pub leaves-one : (s made : State) (client : ℕ) (t : Tree) (c : ModelClient) (copied : ℕ) → made.tree ≡ t
    → made.clients ≡ with_client s.clients client c → made.copied ≡ copied
    → Leaves s (record made { count = s.count + 1 }) client 1 t c copied
leaves-one s made client t c copied tree clients same = record {
  tree = tree;
  own = ap (λ (clients : ℕ → ModelClient). clients client) clients ∙ own_client s.clients client c;
  others =
      λ other apart. ap (λ (clients : ℕ → ModelClient). clients other) clients
      ∙ other_client s.clients client c other apart;
  count = refl;
  copied_is = same;
}

-- what an answer leaves
leaves-answered : (s : State) (client now : ℕ) (d : Doing) → (s.clients client).doing ≡ Some d → (told : Told)
    → is_of_another d.stage told ≡ false
    → Leaves s (stepped s client now (Answered told)) client 1 s.tree (after_told d.op told (s.clients client)) s.copied
leaves-answered s client now d busy told own =
    leaves-one s (record s {
      clients = with_client s.clients client (answered_client told (s.clients client));
    }) client s.tree (after_told d.op told (s.clients client)) s.copied refl
    (ap (with_client s.clients client) (answered_client-doing told (s.clients client) d busy own)) refl

-- and what it leaves after a request
leaves-then : (s between : State) (client now : ℕ) (t : Tree) (c : ModelClient) (copied : ℕ) (d : Doing) (told : Told)
    → Leaves s between client 1 t c copied
    → Leaves between (stepped between client now (Answered told)) client 1 between.tree
    (after_told d.op told (between.clients client)) between.copied
    → Leaves s (stepped between client now (Answered told)) client 2 t (after_told d.op told c) copied
leaves-then s between client now t c copied d told first second = record {
  tree = first.tree;
  own = second.own ∙ ap (after_told d.op told) first.own;
  others = λ other apart. second.others other apart ∙ first.others other apart;
  count = let one = first.count in let two = second.count in omega (arith, one, two);
  copied_is = first.copied_is;
}

-- an operation in progress

module _ (s : State) (client now : ℕ) (d : Doing) (busy : (s.clients client).doing ≡ Some d) where
  -- the state after a request of the operation
  abbrev pub requested : ActKind → State
  requested kind = record (after_step s (entry_of 0 now client kind) d kind) { count = s.count + 1 }

  by_doing : ActKind → Option Doing → State
  by_doing kind o = record (of_doing s (entry_of 0 now client kind) o) { count = s.count + 1 }

  pub stepped-requested : (start : Start) (alone : Bool) (kind : ActKind) → is_answer kind ≡ false
      → MayStep start alone s client now (s.clients client) d kind
      → stepped s client now kind ≡ requested kind
  unfolding by_doing
  stepped-requested start alone Crashed asks may = absurd may
  stepped-requested start alone (Ticked by) asks may = absurd may
  stepped-requested start alone (Answered told) asks may = absurd (cc asks)
  stepped-requested start alone kind asks may = ap (by_doing kind) busy

  pub begins-asked : (kind : ActKind) → is_answer kind ≡ false → begins_step d kind ≡ true
  begins-asked (Answered told) asks = absurd (cc asks)
  begins-asked kind asks = refl

  -- an answer alone
  pub step-alone : (start : Start) (alone : Bool) (told : Told) (reply : Reply) → is_of_another d.stage told ≡ false
      → begins_step d (Answered told) ≡ true → reply_of (s.clients client) d told ≡ reply
      → MayAnswer start alone s client now (s.clients client) d told
      → IsStep start alone s client now (Answered told ∷ []) (Done reply) s.tree
      (after_told d.op told (s.clients client)) s.copied
  step-alone start alone told reply own begins says may = record {
    allows =
        AnswersAlone told reply refl refl (record { doing = d; busy = busy; begins_is = begins; may = may })
        (answer_of-doing told (s.clients client) d reply busy says);
    leaves = leaves-answered s client now d busy told own;
  }

  module _ (start : Start) (alone : Bool) (kind : ActKind) (asks : is_answer kind ≡ false)
      (may : MayStep start alone s client now (s.clients client) d kind) (t : Tree) (c : ModelClient) (copied : ℕ)
      (leaves : Leaves s (requested kind) client 1 t c copied) where
    is_entry : IsEntry start alone s client now kind true
    is_entry = record { doing = d; busy = busy; begins_is = begins-asked kind asks; may = may }

    leaves-stepped : Leaves s (stepped s client now kind) client 1 t c copied
    leaves-stepped =
        subst (λ after. Leaves s after client 1 t c copied) (sym (stepped-requested start alone kind asks may)) leaves

    -- a request, after which the operation goes on
    pub step-on : ends_in_step c ≡ false → IsStep start alone s client now (kind ∷ []) More t c copied
    step-on goes = record {
      allows = GoesOn kind refl refl is_entry asks (ap ends_in_step leaves-stepped.own ∙ goes);
      leaves = leaves-stepped;
    }

    -- a request, and the answer of the operation as it is after that
    pub step-answered : (after : Doing) (told : Told) (reply : Reply) → c.doing ≡ Some after
        → is_of_another after.stage told ≡ false → begins_step after (Answered told) ≡ false
        → reply_of c after told ≡ reply → MayAnswer start alone (requested kind) client now c after told
        → IsStep start alone s client now (kind ∷ Answered told ∷ []) (Done reply) t (after_told after.op told c) copied
    step-answered after told reply busy_after own begins says answers =
        let between = stepped s client now kind in
        let same = leaves-stepped.own in
        let there : (between.clients client).doing ≡ Some after =
        ap (λ (c : ModelClient). c.doing) same ∙ busy_after in
        let here : MayAnswer start alone between client now (between.clients client) after told =
        subst (λ c. MayAnswer start alone between client now c after told) (sym same)
        (subst (λ s. MayAnswer start alone s client now c after told)
        (sym (stepped-requested start alone kind asks may)) answers) in
        record {
          allows =
              AnswersAfter kind told reply refl refl is_entry asks
              (record { doing = after; busy = there; begins_is = begins; may = here })
              (ap (λ c. answer_of c told) same ∙ answer_of-doing told c after reply busy_after says);
          leaves =
              leaves-then s between client now t c copied after told leaves-stepped
              (leaves-answered between client now after there told own);
        }
