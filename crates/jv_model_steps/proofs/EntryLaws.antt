-- What one entry of a client's operation leaves.
use Rattle.std.proofs.Common.{◌≡◌, ℕ, ◌+◌, false, Option, refl, ap, ◌∙◌}
use Rattle.std.specs.Prelude.{if◌then◌else◌, Some}
use Rattle.jv_model.specs.declared.act.Told.{Told}
use Rattle.jv_model.specs.declared.act.Told.TheVariants.{Fine, Looks, Refused as ToldRefused}
use Rattle.jv_model.specs.declared.op.Op.{Op}
use Rattle.jv_model.specs.declared.op.Reply.TheVariants as reply
use Rattle.jv_model.specs.promise.tree.FileBytes.{truncated, copied}
use Rattle.jv_model.specs.promise.client.ModelClient.{ModelClient, Doing, Stage, Replying, with_stage}
use Rattle.jv_model.specs.promise.journal.State.{State, after_quiet, after_look, after_truncation, after_copy, after_told}
use Rattle.jv_model.specs.promise.journal.State.{quieted, view_now, looked, compaction_looked}
use Rattle.jv_model.specs.promise.journal.State.{is_compaction, with_client, with_look, without_views}
use Rattle.jv_model_steps.specs.Leaves.{Leaves}
use Rattle.jv_model_steps.specs.IsStep.{at_stage}
use Rattle.jv_model_steps.proofs.CommitStepLaws.{finished-doing}
use Rattle.jv_model_steps.proofs.FlushStepLaws.{refused-doing}
use Rattle.jv_model_steps.proofs.StepFormLaws.{with_stage-doing, leaves-one}

-- ---- answers

-- what an answer leaves doesn't depend on how far the operation was
pub told-staged : (o : Op) (told : Told) (c : ModelClient) (doing : Option Doing)
    → after_told o told (record c { doing = doing }) ≡ after_told o told c
told-staged o (Fine a b d e) c doing = finished-doing o c doing
told-staged o (Looks first second len) c doing = finished-doing o c doing
told-staged o (ToldRefused fault) c doing = refused-doing fault c doing

-- ---- requests

module _ (s : State) (client now : ℕ) (d : Doing) (busy : (s.clients client).doing ≡ Some d) where
  abbrev mine : ModelClient
  mine = s.clients client

  -- a request that changed nothing of the tree
  pub leaves-quiet : (stage : Stage) → quieted s client mine now d d.stage ≡ stage
      → Leaves s (record (after_quiet s client now d) { count = s.count + 1 }) client 1 s.tree
      (at_stage stage d mine) s.copied
  leaves-quiet stage at = leaves-one s (after_quiet s client now d) client s.tree (at_stage stage d mine) s.copied refl
      (ap (with_client s.clients client)
      (with_stage-doing (quieted s client mine now d d.stage) mine d busy ∙ ap (λ stage. at_stage stage d mine) at))
      refl

  -- a look of a reading
  pub leaves-look : (inode window : ℕ) (stage : Stage) → is_compaction d.does ≡ false → looked d.stage ≡ stage
      → Leaves s (record (after_look s client inode window d) { count = s.count + 1 }) client 1 s.tree
      (at_stage stage d (with_look s d inode window mine)) s.copied
  leaves-look inode window stage reads at =
      let seen = with_look s d inode window mine in
      let compacted = with_stage (compaction_looked (view_now s 0 inode window) d.stage) mine in
      leaves-one s (after_look s client inode window d) client s.tree (at_stage stage d seen) s.copied refl
      (ap (with_client s.clients client)
      (ap (λ b. if b then compacted else with_stage (looked d.stage) seen) reads
      ∙ with_stage-doing (looked d.stage) seen d busy ∙ ap (λ stage. at_stage stage d seen) at))
      refl

  -- a file was cut, or lengthened
  pub leaves-truncated : (inode len : ℕ)
      → Leaves s (record (after_truncation s client now inode len d) { count = s.count + 1 }) client 1
      (truncated s.tree now inode len)
      (at_stage (Replying reply.Done) d (without_views inode mine)) s.copied
  leaves-truncated inode len =
      leaves-one s (after_truncation s client now inode len d) client (truncated s.tree now inode len)
      (at_stage (Replying reply.Done) d (without_views inode mine)) s.copied refl
      (ap (with_client s.clients client) (with_stage-doing (Replying reply.Done) (without_views inode mine) d busy))
      refl

  -- bytes were copied into a file
  pub leaves-copied : (source from target to len : ℕ)
      → Leaves s (record (after_copy s client now source from target to len d) { count = s.count + 1 }) client 1
      (copied s.tree now source from target to len)
      (at_stage (Replying (reply.Count len)) d (without_views target mine))
      (s.copied + len)
  leaves-copied source from target to len =
      leaves-one s (after_copy s client now source from target to len d) client
      (copied s.tree now source from target to len)
      (at_stage (Replying (reply.Count len)) d (without_views target mine)) (s.copied + len) refl
      (ap (with_client s.clients client) (with_stage-doing (Replying (reply.Count len)) (without_views target mine) d
      busy)) refl
