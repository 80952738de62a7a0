-- Answers of operations that have nothing to ask for, as their only step.
use Rattle.std.proofs.Common.{◌≡◌, ℕ, Bool, true, false, List, [], ◌∷◌, length, Option, None, Some, refl, ap, subst}
use Rattle.std.proofs.Common.{◌∙◌}
use Rattle.std.specs.Option.{option_map}
use Rattle.std.specs.Prelude.{◌||◌, if◌then◌else◌, filter, not, ◌==◌, unwrap_or}
use Rattle.jv_model.specs.declared.act.ActKind.TheVariants.{Answered}
use Rattle.jv_model.specs.declared.act.Told.{Told}
use Rattle.jv_model.specs.declared.act.Told.TheVariants.{Fine, Looks}
use Rattle.jv_model.specs.declared.op.Op.{Op}
use Rattle.jv_model.specs.declared.op.Op.TheVariants as op
use Rattle.jv_model.specs.declared.op.Reply.{Reply}
use Rattle.jv_model.specs.declared.op.Reply.TheVariants as reply
use Rattle.jv_model.specs.declared.op.Step.TheVariants.{Done}
use Rattle.jv_model.specs.declared.profile.Answer.TheVariants as answer
use Rattle.jv_model.specs.declared.profile.Does.TheVariants.{Answers, Releases}
use Rattle.jv_model.specs.promise.client.ModelClient.{ModelClient, OpenFile, Doing, Working, inode_at, is_last_of_removed}
use Rattle.jv_model.specs.promise.client.ModelClient.{with_file}
use Rattle.jv_model.specs.promise.client.Pending.{written}
use Rattle.jv_model.specs.promise.client.Profile.{handle_of}
use Rattle.jv_model.specs.promise.client.Submission.{is_flushed}
use Rattle.jv_model.specs.promise.journal.State.{State, after_told, answer_then, is_of_another}
use Rattle.jv_model.specs.promise.journal.Steps.{Start, AtOnce, CountsCache, MayAnswer, file_in_use, is_failure, told_of}
use Rattle.jv_model.specs.promise.journal.Past.{reply_of, told_reply}
use Rattle.jv_model.specs.promise.journal.Reading.{reading}
use Rattle.jv_model_steps.specs.IsStep.{IsStep}
use Rattle.jv_model_steps.proofs.ReadyLaws.{ready-at}
use Rattle.jv_model_steps.proofs.StepFormLaws.{step-alone}

module _ (start : Start) (alone : Bool) (s : State) (client now : ℕ) (d : Doing)
    (busy : (s.clients client).doing ≡ Some d)
    (started : ℕ) (at : d.stage ≡ Working 0 started) (flushed : is_flushed d.flush (s.clients client).pending ≡ true)
    (still : d.moved ≡ false) where
  abbrev mine : ModelClient
  mine = s.clients client

  -- an answer alone, which leaves a client
  abbrev IsAlone : Told → Reply → ModelClient → Type 0
  IsAlone told said c = IsStep start alone s client now (Answered told ∷ []) (Done said) s.tree c s.copied

  answered : (told : Told) (said : Reply) (o : Op) → d.op ≡ o → is_of_another (Working 0 started) told ≡ false
      → told_reply mine d told ≡ said
      → MayAnswer start alone s client now mine d told → IsAlone told said (after_told o told mine)
  answered told said o of_op own says may =
      subst (IsAlone told said) (ap (λ o. after_told o told mine) of_op)
      (step-alone s client now d busy start alone told said (ap (λ stage. is_of_another stage told) at ∙ own)
      (ap (λ b. not b || is_failure told) still)
      (ap (λ stage. reply_of mine (record d { stage = stage }) told) at ∙ says) may)

  at-once : (told : Told) (said : Reply) (o : Op) → d.op ≡ o → is_of_another (Working 0 started) told ≡ false
      → told_reply mine d told ≡ said
      → option_map told_of (answer_then mine d) ≡ Some told → IsAlone told said (after_told o told mine)
  at-once told said o of_op own says same =
      answered told said o of_op own says
      (AtOnce (record { ready = ready-at s client now mine d started at flushed; first = still; same = same }))

  -- the numbers of the cache, whatever they are
  pub stats-answered : d.op ≡ op.Stats → d.does ≡ Answers answer.CacheStats → (hits misses cached : ℕ)
      → IsAlone (Fine hits misses cached (length mine.pending))
      (reply.CacheStats hits misses cached (length mine.pending)) (record mine { doing = None })
  stats-answered of_op does hits misses cached =
      let told = Fine hits misses cached (length mine.pending) in
      answered told (reply.CacheStats hits misses cached (length mine.pending)) op.Stats of_op refl
      (ap (λ does. told_reply mine (record d { does = does }) told) does)
      (CountsCache hits misses cached (ready-at s client now mine d started at flushed) still does refl)

  -- a write is pending
  pub written-at_once : (handle offset : ℕ) (bytes : List ℕ) → d.op ≡ op.Write handle offset bytes
      → (count : ℕ) → d.does ≡ Answers (answer.Count count)
      → IsAlone (Fine count 0 0 0) (reply.Count count)
      (record mine { pending = written (inode_at mine handle) offset bytes mine.pending; doing = None })
  written-at_once handle offset bytes of_op count does =
      at-once (Fine count 0 0 0) (reply.Count count) (op.Write handle offset bytes) of_op refl
      (ap (λ does. told_reply mine (record d { does = does }) (Fine count 0 0 0)) does)
      (ap (λ does. option_map told_of (answer_then mine (record d { does = does }))) does)

  -- a flush with nothing to commit
  pub flushed-at_once : (handle : ℕ) → d.op ≡ op.Flush handle → d.does ≡ Answers answer.Done
      → IsAlone (Fine 0 0 0 0) reply.Done (record mine { doing = None })
  flushed-at_once handle of_op does =
      at-once (Fine 0 0 0 0) reply.Done (op.Flush handle) of_op refl
      (ap (λ does. told_reply mine (record d { does = does }) (Fine 0 0 0 0)) does)
      (ap (λ does. option_map told_of (answer_then mine (record d { does = does }))) does)

  -- a read of no byte
  nothing_in : Option OpenFile → List ℕ
  nothing_in o = elim o as (λ _. List ℕ) [
    | None ↦ []
    | Some file ↦ unwrap_or
        (reading mine.views (handle_of d.op) file [] 0 0) []
  ]

  nothing-read : (o : Option OpenFile)
      → elim o as (λ _. List ℕ) [
        | None ↦ []
        | Some file ↦ unwrap_or
            (reading mine.views (handle_of d.op) file [] 0 0) []
      ] ≡ []
  nothing-read None = refl
  nothing-read (Some file) = refl

  pub read-at_once : (handle offset len : ℕ) → d.op ≡ op.Read handle offset len → d.does ≡ Answers answer.NoData
      → IsAlone (Looks 0 0 0) (reply.Data []) (record mine { doing = None })
  read-at_once handle offset len of_op does =
      at-once (Looks 0 0 0) (reply.Data []) (op.Read handle offset len) of_op refl
      (ap (λ does. told_reply mine (record d { does = does }) (Looks 0 0 0)) does
      ∙ ap reply.Data (nothing-read (file_in_use mine d)))
      (ap (λ does. option_map told_of (answer_then mine (record d { does = does }))) does)

  -- a close of a handle that isn't the client's last one on a file that it removed
  pub closed-at_once : (handle : ℕ) → d.op ≡ op.Close handle → d.does ≡ Releases
      → is_last_of_removed mine handle ≡ false
      → IsAlone (Fine 0 0 0 0) reply.Done (record mine { handles = with_file handle None mine.handles; doing = None })
  closed-at_once handle of_op does last =
      subst (IsAlone (Fine 0 0 0 0) reply.Done)
      (ap (λ b. record mine {
        handles = with_file handle None mine.handles;
        sustained = (if b then filter (λ inode. not (inode == inode_at mine handle)) mine.sustained else
            mine.sustained);
        doing = None;
      }) last)
      (at-once (Fine 0 0 0 0) reply.Done (op.Close handle) of_op refl
      (ap (λ does. told_reply mine (record d { does = does }) (Fine 0 0 0 0)) does)
      (ap (λ does. option_map told_of (answer_then mine (record d { does = does }))) does
      ∙ ap (λ o. option_map told_of (if is_last_of_removed mine (handle_of o) then None else Some reply.Done)) of_op
      ∙ ap (λ b. option_map told_of (if b then None else Some reply.Done)) last))
