-- An operation that has committed all that it flushes, before its first request.
use Rattle.std.proofs.Common.{◌≡◌, ℕ, Bool, true, ap, ◌∙◌}
use Rattle.std.specs.Prelude.{◌||◌, if◌then◌else◌, is_some}
use Rattle.jv_model.specs.declared.profile.Does.{Does}
use Rattle.jv_model.specs.declared.profile.Does.TheVariants.{Reads, Truncates, Copies}
use Rattle.jv_model.specs.promise.client.ModelClient.{ModelClient, Doing, Working, Reading, Replying, inode_at}
use Rattle.jv_model.specs.promise.client.Profile.{handle_of}
use Rattle.jv_model.specs.promise.client.Submission.{is_flushed}
use Rattle.jv_model.specs.promise.journal.State.{State, begun_quietly, flushing_on, look_refusal, quieted, refused_look}
use Rattle.jv_model.specs.promise.journal.State.{sees_first, is_refused, refusal_in, transacted}
use Rattle.jv_model.specs.promise.journal.Steps.{Start, is_crowded, is_ready, may_be_quiet}
use Rattle.jv_model.specs.promise.journal.Reading.{asked_parts}
use Rattle.jv_model_steps.specs.Stages.{changes_files}

module _ (s : State) (client now : ℕ) (c : ModelClient) (d : Doing) (started : ℕ) (at : d.stage ≡ Working 0 started)
    (flushed : is_flushed d.flush c.pending ≡ true) where
  pub ready-at : is_ready c d ≡ true
  ready-at = ap (λ stage. is_ready c (record d { stage = stage })) at ∙ flushed

  -- its first request
  pub quieted-at : quieted s client c now d d.stage ≡ begun_quietly s client c now d d.does
  quieted-at = ap (quieted s client c now d) at
      ∙ ap (λ b. if b then begun_quietly s client c now d d.does else flushing_on s c now 0 started) flushed

  pub quieted-does : (does : Does) → d.does ≡ does
      → quieted s client c now d d.stage ≡ begun_quietly s client c now d does
  quieted-does does e = quieted-at ∙ ap (begun_quietly s client c now d) e

  pub quieted-reads : (offset len : ℕ) → d.does ≡ Reads offset len → (sees : Bool)
      → sees_first c d (asked_parts offset len) ≡ sees
      → quieted s client c now d d.stage ≡ (if sees then Reading 0 else refused_look s c
      (inode_at c (handle_of d.op)) d.stage)
  quieted-reads offset len e sees at_first = quieted-does (Reads offset len) e
      ∙ ap (λ b. if b then Reading 0 else refused_look s c (inode_at c (handle_of d.op)) d.stage) at_first

  -- whether its first request may change nothing
  quiet-does : (start : Start) (does : Does) → d.does ≡ does
      → may_be_quiet start s client now c d d.stage ≡ may_be_quiet start s client now c (record d { does = does })
      (Working 0 started)
  quiet-does start does e = ap (may_be_quiet start s client now c d) at
      ∙ ap (λ does. may_be_quiet start s client now c (record d { does = does }) (Working 0 started)) e

  pub quiet-reads : (start : Start) (offset len : ℕ) → d.does ≡ Reads offset len → (sees : Bool)
      → sees_first c d (asked_parts offset len) ≡ sees
      → may_be_quiet start s client now c d d.stage ≡ (sees || is_some
      (look_refusal s.tree c (inode_at c (handle_of d.op))))
  quiet-reads start offset len e sees at_first =
      let refused = is_some (look_refusal s.tree c (inode_at c (handle_of d.op))) in
      quiet-does start (Reads offset len) e
      ∙ ap (λ b. if b then (sees_first c d (asked_parts offset len) || refused) else true) flushed
      ∙ ap (λ b. b || refused) at_first

  -- a change of files that is refused
  module _ (start : Start) where
    abbrev quiet_changes : Bool
    quiet_changes = is_refused (transacted s client now d.op).reply || is_crowded start s

    pub quiet-changes : (does : Does) → changes_files does ≡ true → d.does ≡ does
        → may_be_quiet start s client now c d d.stage ≡ quiet_changes
    quiet-changes Truncates changes e = quiet-does start Truncates e
        ∙ ap (λ b. if b then quiet_changes else true) flushed
    quiet-changes Copies changes e = quiet-does start Copies e ∙ ap (λ b. if b then quiet_changes else true) flushed
    quiet-changes _ changes e = absurd (cc changes)

  pub quieted-changes : (does : Does) → changes_files does ≡ true → d.does ≡ does
      → quieted s client c now d d.stage ≡ Replying (refusal_in (transacted s client now d.op).reply)
  quieted-changes Truncates changes e = quieted-does Truncates e
  quieted-changes Copies changes e = quieted-does Copies e
  quieted-changes _ changes e = absurd (cc changes)
