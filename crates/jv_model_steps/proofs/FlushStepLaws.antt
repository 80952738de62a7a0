-- The requests of a flush before its commit: for the number of a segment's slice, and for each of its blocks.
use Rattle.std.proofs.Common.{◌≡◌, ℕ, ◌+◌, ◌≤◌, ◌<◌, Bool, true, false, ◌||◌, not, ◌==◌, [], ◌∷◌, Option, None, Some}
use Rattle.std.proofs.Common.{refl, ap, subst, ◌∙◌, arith, ne_eqb}
use Rattle.std.specs.Prelude.{if◌then◌else◌, is_some, nat_le, IsTrue}
use Rattle.std.proofs.lemmas.Bool.{eqb-true, le-leb, leb-true, or_left, or_right}
use Rattle.jv_model.specs.declared.limits.TheConstants.{FULL_COUNT, FILE_END}
use Rattle.jv_model.specs.declared.act.ActKind.TheVariants.{Quiet, Answered}
use Rattle.jv_model.specs.declared.act.Told.TheVariants.{Refused as ToldRefused}
use Rattle.jv_model.specs.declared.fault.Fault.{Fault}
use Rattle.jv_model.specs.declared.fault.Fault.TheVariants.{NoSpace, Stale}
use Rattle.jv_model.specs.declared.fault.Gone.TheVariants.{Session, Node}
use Rattle.jv_model.specs.declared.op.Reply.TheVariants.{Refused}
use Rattle.jv_model.specs.declared.op.Step.TheVariants.{More, Done}
use Rattle.jv_model.specs.promise.client.Pending.{Segment}
use Rattle.jv_model.specs.promise.client.Submission.{next_segment}
use Rattle.jv_model.specs.promise.client.ModelClient.{ModelClient, Doing, Stage, Working, Replying, unmounted, session_of}
use Rattle.jv_model.specs.promise.journal.State.{State, after_told, begun_quietly, flushing_on, has_session, is_of_another}
use Rattle.jv_model.specs.promise.journal.State.{quieted, refused_as, session_gone, with_client}
use Rattle.jv_model.specs.promise.journal.Steps.{Start, MayAnswer, NumberRefused, Refuses, Decided, is_crowded, is_failure}
use Rattle.jv_model.specs.promise.journal.Steps.{may_be_quiet}
use Rattle.jv_model.specs.promise.journal.Past.{reply_of}
use Rattle.jv_model_steps.specs.Leaves.{Leaves}
use Rattle.jv_model_steps.specs.IsStep.{IsStep, at_stage}
use Rattle.jv_model_steps.proofs.StepFormLaws.{leaves-one, requested, step-answered, step-on, with_stage-doing}

-- what a refusal leaves of a client doesn't depend on how far its operation is
pub refused-doing : (fault : Fault) (c : ModelClient) (doing : Option Doing)
    → record (refused_as fault (record c { doing = doing })) { doing = None }
    ≡ record (refused_as fault c) { doing = None }
refused-doing (Stale (Session sid)) c doing = refl
refused-doing (Stale (Node inode)) c doing = refl
refused-doing _ c doing = refl

unflushed : (o : Option Segment) (segment : Segment) (b : Bool) → o ≡ Some segment
    → (if not (is_some o) then b else true) ≡ true
unflushed o segment b e = ap (λ (o : Option Segment). if not (is_some o) then b else true) e

-- an operation that has a segment to commit

module _ (start : Start) (alone : Bool) (s : State) (client now : ℕ) (d : Doing)
    (busy : (s.clients client).doing ≡ Some d) (segment : Segment)
    (next : next_segment d.flush (s.clients client).pending ≡ Some segment)
    (quiets started : ℕ) (at : d.stage ≡ Working quiets started) where
  abbrev c : ModelClient
  c = s.clients client

  -- the state after the request
  abbrev quiet : State
  quiet = requested s client now d busy Quiet

  quiet-may : may_be_quiet start s client now c d d.stage ≡ true
  quiet-may =
      ap (may_be_quiet start s client now c d) at
      ∙ unflushed (next_segment d.flush c.pending) segment _ next

  quiet-stage : quieted s client c now d d.stage ≡ flushing_on s c now quiets started
  quiet-stage =
      ap (quieted s client c now d) at
      ∙ ap (λ (o : Option Segment). if not (is_some o) then begun_quietly s client c now d d.does
      else flushing_on s c now quiets started) next

  module _ (stage : Stage) (leads : flushing_on s c now quiets started ≡ stage) where
    quiet-leaves : Leaves s quiet client 1 s.tree (at_stage stage d c) s.copied
    quiet-leaves =
        leaves-one s quiet client s.tree (at_stage stage d c) s.copied refl
        (ap (with_client s.clients client)
        (with_stage-doing (quieted s client c now d d.stage) c d busy
        ∙ ap (λ stage. at_stage stage d c) (quiet-stage ∙ leads))) refl

    abbrev asked : Doing
    asked = record d { stage = stage; moved = true }

    -- a request that is refused
    pub flush-refused : (fault : Fault) → is_of_another stage (ToldRefused fault) ≡ false
        → is_failure (ToldRefused fault) ≡ false
        → reply_of (at_stage stage d c) asked (ToldRefused fault) ≡ Refused fault
        → MayAnswer start alone quiet client now (at_stage stage d c) asked (ToldRefused fault)
        → IsStep start alone s client now (Quiet ∷ Answered (ToldRefused fault) ∷ []) (Done (Refused fault)) s.tree
        (after_told d.op (ToldRefused fault) c) s.copied
    flush-refused fault own fails says may =
        subst (λ c. IsStep start alone s client now (Quiet ∷ Answered (ToldRefused fault) ∷ []) (Done (Refused fault))
        s.tree c s.copied) (refused-doing fault c (Some asked))
        (step-answered s client now d busy start alone Quiet refl quiet-may s.tree (at_stage stage d c) s.copied
        quiet-leaves asked (ToldRefused fault) (Refused fault) refl own fails says may)

  -- a request, after which the operation goes on
  flush-on : (more moment : ℕ) → flushing_on s c now quiets started ≡ Working more moment
      → IsStep start alone s client now (Quiet ∷ []) More s.tree (at_stage (Working more moment) d c) s.copied
  flush-on more moment leads =
      step-on s client now d busy start alone Quiet refl quiet-may s.tree (at_stage (Working more moment) d c) s.copied
      (quiet-leaves (Working more moment) leads) refl

-- a stored number that is near its end is so after more entries

later : (end n more : ℕ) → n ≤ more → nat_le end n ≡ true → nat_le end more ≡ true
later end n more less e = le-leb end more (let past = leb-true end n e in omega (arith, past, less))

-- a weaker test of two
pub either : (a b more others : Bool) → (a ≡ true → more ≡ true) → (b ≡ true → others ≡ true) → (a || b) ≡ true
    → (more || others) ≡ true
either true b more others first second e = or_left more others (first refl)
either false b more others first second e = or_right more others (second e)

pub crowded-later : (start : Start) (s after : State) → after.count ≡ s.count + 1 → after.copied ≡ s.copied
    → is_crowded start s ≡ true → is_crowded start after ≡ true
crowded-later start s after count copied =
    let slices = start.next_slice + s.count in
    let records = start.records + s.count + FILE_END + s.copied in
    let more_slices = start.next_slice + after.count in
    let more_records = start.records + after.count + FILE_END + after.copied in
    either (nat_le FULL_COUNT slices) (nat_le FULL_COUNT records)
    (nat_le FULL_COUNT more_slices) (nat_le FULL_COUNT more_records)
    (later FULL_COUNT slices more_slices (omega (arith, count)))
    (later FULL_COUNT records more_records (omega (arith, count, copied)))

-- the request for the number of the segment's slice

module _ (start : Start) (alone : Bool) (s : State) (client now : ℕ) (d : Doing)
    (busy : (s.clients client).doing ≡ Some d) (segment : Segment)
    (next : next_segment d.flush (s.clients client).pending ≡ Some segment)
    (started : ℕ) (at : d.stage ≡ Working 0 started) where
  asks_by : Bool → Stage
  asks_by there = (if there then Working 1 0 else Replying (session_gone (s.clients client)))

  pub number-step : IsTrue (has_session s.tree (s.clients client))
      → IsStep start alone s client now (Quiet ∷ []) More s.tree (at_stage (Working 1 0) d (s.clients client)) s.copied
  unfolding asks_by
  number-step session = flush-on start alone s client now d busy segment next 0 started at 1 0 (ap asks_by session)

  -- the session is gone
  pub number-gone : has_session s.tree (s.clients client) ≡ false
      → IsStep start alone s client now
      (Quiet ∷ Answered (ToldRefused (Stale (Session (session_of (s.clients client))))) ∷ [])
      (Done (Refused (Stale (Session (session_of (s.clients client)))))) s.tree unmounted s.copied
  unfolding asks_by
  number-gone gone =
      flush-refused start alone s client now d busy segment next 0 started at
      (Replying (session_gone (s.clients client))) (ap asks_by gone)
      (Stale (Session (session_of (s.clients client)))) refl refl refl
      (Decided (session_gone (s.clients client)) refl refl)

  -- there are no more numbers, or no more records
  pub number-crowded : IsTrue (has_session s.tree (s.clients client)) → IsTrue (is_crowded start s)
      → IsStep start alone s client now (Quiet ∷ Answered (ToldRefused NoSpace) ∷ []) (Done (Refused NoSpace)) s.tree
      (record (s.clients client) { doing = None }) s.copied
  unfolding asks_by
  number-crowded session crowded =
      flush-refused start alone s client now d busy segment next 0 started at (Working 1 0) (ap asks_by session) NoSpace
      refl refl refl
      (Refuses NoSpace refl (NumberRefused refl
      (crowded-later start s (requested s client now d busy Quiet) refl refl crowded) refl) refl)

-- the request for a block of it: the second one of a segment, whose moment is kept, or a later one

module _ (quiets now started : ℕ) where
  blocks-first : (b : Bool) → (b ≡ true → quiets ≡ 1)
      → (if b then Working 2 now else Working (quiets + 1) started)
      ≡ Working (quiets + 1) (if b then now else started)
  blocks-first true one = ap (λ n. Working n now) (let same = one refl in omega (arith, same))
  blocks-first false one = refl

  pub blocks-on : (s : State) (c : ModelClient) → 0 < quiets
      → flushing_on s c now quiets started ≡ Working (quiets + 1) (if quiets == 1 then now else started)
  blocks-on s c asked =
      ap (λ b. if b then (if has_session s.tree c then Working 1 0 else Replying (session_gone c))
      else if quiets == 1 then Working 2 now else Working (quiets + 1) started)
      (ne_eqb quiets 0 (λ e. omega (arith, e, asked)))
      ∙ blocks-first (quiets == 1) (eqb-true quiets 1)

module _ (start : Start) (alone : Bool) (s : State) (client now : ℕ) (d : Doing)
    (busy : (s.clients client).doing ≡ Some d) (segment : Segment)
    (next : next_segment d.flush (s.clients client).pending ≡ Some segment)
    (quiets started : ℕ) (at : d.stage ≡ Working quiets started) (asked : 0 < quiets) where
  pub put-step : IsStep start alone s client now (Quiet ∷ []) More s.tree
      (at_stage (Working (quiets + 1) (if quiets == 1 then now else started)) d (s.clients client)) s.copied
  put-step =
      flush-on start alone s client now d busy segment next quiets started at (quiets + 1)
      (if quiets == 1 then now else started) (blocks-on quiets now started s (s.clients client) asked)
