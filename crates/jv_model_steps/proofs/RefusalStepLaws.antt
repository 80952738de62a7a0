-- What refuses a commit, and the failure that ends an operation at any step.
use Rattle.std.proofs.Common.{◌≡◌, ℕ, ◌+◌, ◌≤◌, ◌<◌, Bool, true, false, ◌||◌, not, [], ◌∷◌}
use Rattle.std.proofs.Common.{Option, None, Some, refl, sym, ap, subst, ◌∙◌, arith, ne_eqb}
use Rattle.std.specs.Prelude.{if◌then◌else◌, is_some, nat_le, IsTrue}
use Rattle.std.specs.Option.{option_map}
use Rattle.std.proofs.lemmas.Bool.{le-leb, or_right}
use Rattle.jv_model.specs.declared.lifetimes.TheConstants.{UPLOAD_LIFE}
use Rattle.jv_model.specs.declared.act.ActKind.TheVariants.{Answered, Quiet}
use Rattle.jv_model.specs.declared.act.Told.TheVariants.{Refused as ToldRefused}
use Rattle.jv_model.specs.declared.fault.Fault.{Fault}
use Rattle.jv_model.specs.declared.fault.Fault.TheVariants.{DeviceFailed, NoMemory, NoSpace, Stale, TimedOut}
use Rattle.jv_model.specs.declared.fault.Gone.TheVariants.{Session, Node}
use Rattle.jv_model.specs.declared.op.Reply.{Reply}
use Rattle.jv_model.specs.declared.op.Reply.TheVariants.{Refused}
use Rattle.jv_model.specs.declared.op.Step.TheVariants.{Done}
use Rattle.jv_model.specs.promise.tree.Tree.{fits, node_at}
use Rattle.jv_model.specs.promise.tree.FileBytes.{committed}
use Rattle.jv_model.specs.promise.client.Pending.{Segment, bytes_in_range, pending_of_others}
use Rattle.jv_model.specs.promise.client.Submission.{next_segment}
use Rattle.jv_model.specs.promise.client.ModelClient.{ModelClient, Doing, Stage, Working, Reading, Replying, session_of}
use Rattle.jv_model.specs.promise.client.ModelClient.{unmounted}
use Rattle.jv_model.specs.promise.journal.State.{State, after_told, flushing_on, has_session, is_of_another, refused_as}
use Rattle.jv_model.specs.promise.journal.Steps.{Start, CommitAsked, CommitLate, CommitTooLarge, Fails, InodeGone, IsRefusedIn}
use Rattle.jv_model.specs.promise.journal.Steps.{Refuses, SessionGone, is_crowded, is_failure, must_answer}
use Rattle.jv_model.specs.promise.journal.Past.{decided_reply, told_reply}
use Rattle.jv_model_steps.specs.IsStep.{IsStep, at_stage}
use Rattle.jv_model_steps.specs.RefusesCommit.{RefusesCommit, Late, NoFile, NoRoom, NoSession}
use Rattle.jv_model_steps.proofs.StepFormLaws.{requested, step-alone}
use Rattle.jv_model_steps.proofs.FlushStepLaws.{blocks-on, crowded-later, either, flush-refused}

-- a commit that is refused

module _ (start : Start) (alone : Bool) (s : State) (client now : ℕ) (d : Doing)
    (busy : (s.clients client).doing ≡ Some d) (segment : Segment)
    (next : next_segment d.flush (s.clients client).pending ≡ Some segment)
    (quiets started : ℕ) (at : d.stage ≡ Working quiets started) (asked : 2 ≤ quiets) where
  abbrev c : ModelClient
  c = s.clients client

  abbrev stage : Stage
  stage = Working (quiets + 1) started

  -- the state, the operation and its client after the request
  abbrev quiet : State
  quiet = requested s client now d busy Quiet

  abbrev after : Doing
  after = record d { stage = stage; moved = true }

  abbrev client_after : ModelClient
  client_after = at_stage stage d c

  leads : flushing_on s c now quiets started ≡ stage
  leads =
      blocks-on quiets now started s c (omega (arith, asked))
      ∙ ap (λ b. Working (quiets + 1) (if b then now else started)) (ne_eqb quiets 1 (λ e. omega (arith, e, asked)))

  asks : nat_le 3 (quiets + 1) ≡ true
  asks = le-leb 3 (quiets + 1) (omega (arith, asked))

  commit-asked : IsTrue (has_session s.tree c) → IsTrue (is_some (node_at s.tree segment.inode))
      → CommitAsked quiet client_after after segment
  commit-asked session there =
      record { requests = omega (arith, asked); next = next; session = session; there = there }

  abbrev Ends : Fault → ModelClient → Type 0
  Ends fault c =
      IsStep start alone s client now (Quiet ∷ Answered (ToldRefused fault) ∷ []) (Done (Refused fault)) s.tree c
      s.copied

  refused-by : (fault : Fault) → is_of_another stage (ToldRefused fault) ≡ false
      → is_failure (ToldRefused fault) ≡ false
      → IsRefusedIn start quiet client now client_after after fault → Ends fault (after_told d.op (ToldRefused fault) c)
  refused-by fault own fails why =
      flush-refused start alone s client now d busy segment next quiets started at stage leads fault own fails refl
      (Refuses fault refl why refl)

  -- the session is gone
  pub commit-gone : has_session s.tree c ≡ false → Ends (Stale (Session (session_of c))) unmounted
  commit-gone gone = refused-by (Stale (Session (session_of c))) refl refl (SessionGone asks gone refl)

  -- the file is gone
  pub commit-no_file : IsTrue (has_session s.tree c) → node_at s.tree segment.inode ≡ None
      → Ends (Stale (Node segment.inode))
      (record c { pending = pending_of_others segment.inode c.pending; doing = None })
  commit-no_file session none =
      refused-by (Stale (Node segment.inode)) refl refl
      (InodeGone segment.inode asks session (ap (option_map (λ (segment : Segment). segment.inode)) next) none refl)

  -- its first block was put too long ago
  pub commit-late : IsTrue (has_session s.tree c) → IsTrue (is_some (node_at s.tree segment.inode))
      → started + UPLOAD_LIFE ≤ now → Ends (TimedOut started now) (record c { doing = None })
  commit-late session there late =
      refused-by (TimedOut started now) refl refl (CommitLate segment (commit-asked session there) late refl)

  -- the volume has no room, or stored numbers are near their end
  pub commit-no_room : IsTrue (has_session s.tree c) → IsTrue (is_some (node_at s.tree segment.inode))
      → now < started + UPLOAD_LIFE
      → IsTrue (is_crowded start s || not (fits s.tree (committed s.tree now segment.inode segment.from
      (bytes_in_range segment.inode segment.from segment.len c.pending))))
      → Ends NoSpace (record c { doing = None })
  commit-no_room session there in_time full =
      let large = not (fits s.tree (committed s.tree now segment.inode segment.from
      (bytes_in_range segment.inode segment.from segment.len c.pending))) in
      refused-by NoSpace refl refl
      (CommitTooLarge segment (commit-asked session there) in_time
      (either (is_crowded start s) large (is_crowded start quiet) large (crowded-later start s quiet refl refl) (λ e. e)
      full) refl)

  -- any of these
  pub commit-refused : (fault : Fault) → RefusesCommit start s now c segment started fault
      → Ends fault (after_told d.op (ToldRefused fault) c)
  commit-refused fault (NoSession gone same) =
      subst (λ f. Ends f (after_told d.op (ToldRefused f) c)) (sym same) (commit-gone gone)
  commit-refused fault (NoFile session none same) =
      subst (λ f. Ends f (after_told d.op (ToldRefused f) c)) (sym same) (commit-no_file session none)
  commit-refused fault (Late session there late same) =
      subst (λ f. Ends f (after_told d.op (ToldRefused f) c)) (sym same) (commit-late session there late)
  commit-refused fault (NoRoom session there in_time full same) =
      subst (λ f. Ends f (after_told d.op (ToldRefused f) c)) (sym same) (commit-no_room session there in_time full)

-- out of memory, or a device that failed

failed-as : (fault : Fault) (c : ModelClient) → is_failure (ToldRefused fault) ≡ true → refused_as fault c ≡ c
failed-as NoMemory c e = refl
failed-as (DeviceFailed device) c e = refl
failed-as _ c e = absurd (cc e)

failed-own : (fault : Fault) (stage : Stage) → is_failure (ToldRefused fault) ≡ true
    → is_of_another stage (ToldRefused fault) ≡ false
failed-own fault (Replying answer) e = refl
failed-own NoMemory stage e = refl
failed-own (DeviceFailed device) stage e = refl
failed-own _ stage e = absurd (cc e)

unsettled : (d : Doing) (stage : Stage) → must_answer (record d { stage = stage }) ≡ false → decided_reply stage ≡ None
unsettled d (Replying answer) e = absurd (cc e)
unsettled d _ e = refl

-- an operation that flushes or reads may go on
pub goes-working : (d : Doing) (quiets started : ℕ) → d.stage ≡ Working quiets started → must_answer d ≡ false
goes-working d quiets started at = ap (λ stage. must_answer (record d { stage = stage })) at

pub goes-reading : (d : Doing) (misses : ℕ) → d.stage ≡ Reading misses → must_answer d ≡ false
goes-reading d misses at = ap (λ stage. must_answer (record d { stage = stage })) at

module _ (start : Start) (alone : Bool) (s : State) (client now : ℕ) (d : Doing)
    (busy : (s.clients client).doing ≡ Some d) (goes : must_answer d ≡ false) where
  pub failure-step : (fault : Fault) → is_failure (ToldRefused fault) ≡ true
      → IsStep start alone s client now (Answered (ToldRefused fault) ∷ []) (Done (Refused fault)) s.tree
      (record (s.clients client) { doing = None }) s.copied
  failure-step fault fails =
      let c = s.clients client in
      subst (λ c. IsStep start alone s client now (Answered (ToldRefused fault) ∷ []) (Done (Refused fault)) s.tree c
      s.copied) (ap (λ (c : ModelClient). record c { doing = None }) (failed-as fault c fails))
      (step-alone s client now d busy start alone (ToldRefused fault) (Refused fault) (failed-own fault d.stage fails)
      (or_right (not d.moved) (is_failure (ToldRefused fault)) fails)
      (ap (λ (o : Option Reply). elim o as (λ _. Reply) [
        | None ↦ told_reply c d (ToldRefused fault)
        | Some settled ↦ settled
      ]) (unsettled d d.stage goes))
      (Fails goes fails))
