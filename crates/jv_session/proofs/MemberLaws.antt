-- Eight clients, of which one changes.
use Rattle.std.proofs.Common.{◌≡◌, ◌≢◌, ℕ, zero, suc, ◌<◌, ◌≤◌, IsTrue, List, [], ◌∷◌, length, slice_get, slice_set, Option, None, Some, Result, Ok, Err, refl, sym, ap, subst, ◌∙◌, inl, inr, arith, length-set}
use Rattle.std.specs.Prelude.{IfErr, IfSome, IsSome, OnOk, OnErr}
use Rattle.std.proofs.lemmas.Bool.Decides.{eqb_tells}
use Rattle.std.proofs.lemmas.Option.{same_Some}
use Rattle.jv_model.specs.declared.limits.TheConstants.{LAST_MOMENT}
use Rattle.jv_model.specs.declared.basics.Limits.{Limits}
use Rattle.jv_model.specs.declared.act.Told.TheVariants.{Refused as ToldRefused}
use Rattle.jv_model.specs.declared.fault.Fault.{Fault}
use Rattle.jv_model.specs.declared.op.Op.{Op}
use Rattle.jv_model.specs.promise.client.ModelClient.{ModelClient}
use Rattle.jv_model.specs.promise.client.Submission.{submission, submitted}
use Rattle.jv_yard.specs.promise.YardValue.{YardValue}
use Rattle.jv_client_shared.specs.promise.Shared.{Known, Shared}
use Rattle.jv_client.specs.promise.Built.{is_built_op}
use Rattle.jv_client.specs.ClientValue.{ClientValue, crashed}
use Rattle.jv_client.specs.Held.{IsClient, in_flight, refused_with}
use Rattle.jv_client.specs.Makes.{IsCalm}
use Rattle.jv_client.specs.UnderWay.{IsReady}
use Rattle.jv_session.specs.Stands.{ScheduleValue, IsMember, IsSchedule, IsYardOf, AreApart}
use Rattle.jv_session.specs.InLine.{HasBegun, Submits}

module _ {X : Type 0} where
  -- what holds of each element at its place holds after a change
  pub each-set : (P : ℕ → X → Type 0) (xs : List X) (i : ℕ) (x : X)
      → ((k : ℕ) → (k ≡ i → ⊥) → IfSome (slice_get xs k) (P k)) → P i x
      → (k : ℕ) → IfSome (slice_get (slice_set xs i x) k) (P k)
  each-set P [] i x h p k = tt
  each-set P (y ∷ ys) zero x h p zero = p
  each-set P (y ∷ ys) zero x h p (suc k) = h (suc k) (λ e. absurd (omega (arith, e)))
  each-set P (y ∷ ys) (suc i) x h p zero = h zero (λ e. absurd (omega (arith, e)))
  each-set P (y ∷ ys) (suc i) x h p (suc k) = each-set (λ n. P (suc n)) ys i x
      (λ n apart. h (suc n) (λ e. apart (omega (arith, e)))) p k

  pub slice_get_inside : (xs : List X) (k : ℕ) → k < length xs → (x : X) × (slice_get xs k ≡ Some x)
  slice_get_inside [] k h = absurd (omega (arith, h))
  slice_get_inside (x ∷ xs) zero h = (x, refl)
  slice_get_inside (x ∷ xs) (suc k) h = slice_get_inside xs k (omega (arith, h))

  -- what stands at a place that is given something
  pub slice_get-set : (xs : List X) (k : ℕ) (x old : X) → slice_get xs k ≡ Some old
      → slice_get (slice_set xs k x) k ≡ Some x
  slice_get-set [] k x old h = absurd (cc h)
  slice_get-set (y ∷ ys) zero x old h = refl
  slice_get-set (y ∷ ys) (suc k) x old h = slice_get-set ys k x old h

  set_found : (xs : List X) (k : ℕ) (x : X) → slice_get xs k ≡ Some x → slice_set xs k x ≡ xs
  set_found [] k x e = refl
  set_found (y ∷ ys) zero x e = ap (λ z. z ∷ ys) (sym (same_Some y x e))
  set_found (y ∷ ys) (suc k) x e = ap (λ zs. y ∷ zs) (set_found ys k x e)

  -- what stands at another place
  slice_get-other : (xs : List X) (i k : ℕ) (x : X) → (k ≡ i → ⊥) → slice_get (slice_set xs i x) k ≡ slice_get xs k
  slice_get-other [] i k x apart = refl
  slice_get-other (y ∷ ys) zero zero x apart = absurd (apart refl)
  slice_get-other (y ∷ ys) zero (suc k) x apart = refl
  slice_get-other (y ∷ ys) (suc i) zero x apart = refl
  slice_get-other (y ∷ ys) (suc i) (suc k) x apart = slice_get-other ys i k x (λ e. apart (ap suc e))

  -- what stands where something was put is that
  set_own : (xs : List X) (i : ℕ) (x y : X) → slice_get (slice_set xs i x) i ≡ Some y → x ≡ y
  set_own [] i x y e = absurd (cc e)
  set_own (z ∷ zs) zero x y e = same_Some x y e
  set_own (z ∷ zs) (suc i) x y e = set_own zs i x y e

-- slices in flight still have numbers of their own where the one that changed has another number than the rest
module _ (clients : List ClientValue) (i : ℕ) (new : ClientValue) (h : AreApart clients)
    (rest : (k : ℕ) (c : ClientValue) → (k ≡ i → ⊥) → slice_get clients k ≡ Some c → 0 < in_flight c
    → in_flight c ≢ in_flight new) where
  -- the one that changed and another one
  apart_from : (k : ℕ) (c other : ClientValue) → i ≢ k → slice_get (slice_set clients i new) i ≡ Some c
      → slice_get (slice_set clients i new) k ≡ Some other → 0 < in_flight c → in_flight c ≢ in_flight other
  apart_from k c other apart own there some same =
      let is : in_flight new ≡ in_flight c = ap in_flight (set_own clients i new c own) in
      let elsewhere : k ≡ i → ⊥ = λ e. apart (sym e) in
      rest k other elsewhere (sym (slice_get-other clients i k new elsewhere) ∙ there)
      (let e = same in omega (arith, some, e)) (sym same ∙ sym is)

  -- another one and the one that changed
  apart_to : (j : ℕ) (c other : ClientValue) → (j ≡ i → ⊥) → slice_get (slice_set clients i new) j ≡ Some c
      → slice_get (slice_set clients i new) i ≡ Some other → 0 < in_flight c → in_flight c ≢ in_flight other
  apart_to j c other apart there own some same =
      let is : in_flight new ≡ in_flight other = ap in_flight (set_own clients i new other own) in
      rest j c apart (sym (slice_get-other clients i j new apart) ∙ there) some (same ∙ sym is)

  pub apart_set : AreApart (slice_set clients i new)
  apart_set j k c other apart at_j at_k some =
      elim (eqb_tells j i) [
        | inl own ↦ apart_from k c other (λ e. apart (own.1 ∙ e))
            (subst (λ n. slice_get (slice_set clients i new) n ≡ Some c) own.1 at_j) at_k some
        | inr j_other ↦ elim (eqb_tells k i) [
          | inl own ↦ apart_to j c other j_other.1 at_j
              (subst (λ n. slice_get (slice_set clients i new) n ≡ Some other) own.1 at_k) some
          | inr k_other ↦ h j k c other apart (sym (slice_get-other clients i j new j_other.1) ∙ at_j)
              (sym (slice_get-other clients i k new k_other.1) ∙ at_k) some
        ]
      ]

pub schedule_with : (limits : Limits) (at ticks : ℕ) (clients : List ClientValue) (k : ℕ) (new : ClientValue)
    → IsSchedule limits at ticks clients
    → IsMember limits k new → IsSchedule limits at ticks (slice_set clients k new)
schedule_with limits at ticks clients k new h m = record {
  last = h.last;
  passed = h.passed;
  eight = length-set clients k new ∙ h.eight;
  members = each-set (λ i. IsMember limits i) clients k new (λ i apart. h.members i) m;
}

-- the member at a place
pub member_at : (limits : Limits) (at ticks : ℕ) (clients : List ClientValue) (k : ℕ) (c : ClientValue)
    → IsSchedule limits at ticks clients
    → slice_get clients k ≡ Some c → IsMember limits k c
member_at limits at ticks clients k c h found = subst (λ o. IfSome o (IsMember limits k)) found (h.members k)

-- a member that made a step, at a moment
pub stepped_schedule : (limits : Limits) (at ticks now : ℕ) (clients : List ClientValue) (k : ℕ)
    (old new : ClientValue) → IsSchedule limits at ticks clients → now ≤ LAST_MOMENT → IsMember limits k old
    → new.id ≡ old.id → new.limits ≡ old.limits → IsReady new
    → IsSchedule limits now ticks (slice_set clients k new)
stepped_schedule limits at ticks now clients k old new h last m id same ready =
    schedule_with limits now ticks clients k new
    (record { last = last; passed = h.passed; eight = h.eight; members = h.members })
    (record { id = id ∙ m.id; limits_are = same ∙ m.limits_are; ready = ready })

-- a member that crashed
pub crashed_schedule : (limits : Limits) (at ticks : ℕ) (clients : List ClientValue) (k : ℕ) (old new : ClientValue)
    → IsSchedule limits at ticks clients → IsMember limits k old → new ≡ crashed old
    → IsSchedule limits at ticks (slice_set clients k new)
crashed_schedule limits at ticks clients k old new h m is =
    schedule_with limits at ticks clients k new h
    (subst (IsMember limits k) (sym is)
    (record { id = m.id; limits_are = m.limits_are; ready = record { buffer = m.ready.buffer; doing = tt } }))

-- a submission leaves a member
pub submitted_member : (limits : Limits) (k : ℕ) (old new : ClientValue) (o : Op)
    (result : Result (Unit {0}) (Op × Fault)) → IsMember limits k old
    → IsTrue (is_built_op limits o) → new ≡ record old { doing = new.doing }
    → (IsReady old → IsTrue (is_built_op old.limits o) → OnOk result (IsReady new))
    → OnErr result (new ≡ old) → IsMember limits k new
submitted_member limits k old new o (Ok unit) m built still ready err = record {
  id = ap (λ (c : ClientValue). c.id) still ∙ m.id;
  limits_are = ap (λ (c : ClientValue). c.limits) still ∙ m.limits_are;
  ready = ready m.ready (subst (λ (l : Limits). IsTrue (is_built_op l o)) (sym m.limits_are) built);
}
submitted_member limits k old new o (Err refused) m built still ready err = subst (IsMember limits k) (sym err) m

-- what the call at the client is for the schedule

pub begins_at : (s s' : ScheduleValue) (k : ℕ) (o : Op) (old new : ClientValue)
    (called : Result (Unit {0}) (Op × Fault)) (unit : Unit {0})
    → slice_get s.clients k ≡ Some old → old.limits ≡ s.limits → called ≡ Ok unit
    → ((g : Known) (v : Shared) (m : ModelClient) (count : ℕ) → IsClient g v m count old
    → refused_with called ≡ submission m o)
    → ((g : Known) (v : Shared) (m : ModelClient) (count : ℕ) → IsClient g v m count old
    → OnOk called (IsClient g v (submitted old.limits o m) count new))
    → OnOk called (in_flight new ≡ 0) → OnOk called (IsSome new.doing)
    → s' ≡ record s { clients = slice_set s.clients k new }
    → Submits s s' k o (Ok unit)
begins_at s s' k o old new called unit found limits is refusal begun none busy same = record {
  old = old;
  found = found;
  new = new;
  is_new = λ g v m count h. (
    sym (refusal g v m count h) ∙ ap refused_with is,
    subst (λ (l : Limits). IsClient g v (submitted l o m) count new) limits
        (subst (λ r. OnOk r (IsClient g v (submitted old.limits o m) count new)) is (begun g v m count h)),
  );
  no_flight = subst (λ r. OnOk r (in_flight new ≡ 0)) is none;
  same = same;
  busy = subst (λ r. OnOk r (IsSome new.doing)) is busy;
}

pub refuses_at : (s s' : ScheduleValue) (k : ℕ) (o : Op) (old new : ClientValue)
    (called : Result (Unit {0}) (Op × Fault)) (refused : Op × Fault)
    → slice_get s.clients k ≡ Some old → called ≡ Err refused
    → ((g : Known) (v : Shared) (m : ModelClient) (count : ℕ) → IsClient g v m count old
    → refused_with called ≡ submission m o)
    → IfErr called (λ refused. IsCalm (ToldRefused refused.1)) → OnErr called (new ≡ old)
    → s' ≡ record s { clients = slice_set s.clients k new } → Submits s s' k o (Err refused.1)
refuses_at s s' k o old new called refused found is refusal calm err same = record {
  old = old;
  found = found;
  refused = λ g v m count h. sym (refusal g v m count h) ∙ ap refused_with is;
  calm = subst (λ r. IfErr r (λ refused. IsCalm (ToldRefused refused.1))) is calm;
  same = same ∙ ap (λ (cs : List ClientValue). record s { clients = cs })
      (ap (slice_set s.clients k) (subst (λ r. OnErr r (new ≡ old)) is err) ∙ set_found s.clients k old found);
}

-- the schedule may still go on with a yard
pub yard_begun : (s s' : ScheduleValue) (k : ℕ) (o : Op) (yard : YardValue) → HasBegun s s' k o → IsYardOf s yard
    → IsYardOf s' yard
yard_begun s s' k o yard h y = record {
  block = y.block;
  last = subst (λ (x : ScheduleValue). yard.last ≤ x.at) (sym h.same) y.last;
}
