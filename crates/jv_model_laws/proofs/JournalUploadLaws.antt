-- What an upload that found no block says of what is owed.
use Rattle.std.proofs.Common.{◌≡◌, ℕ, Bool, true, ◌==◌, IsTrue, [], ◌∷◌, Some, refl, ap, subst, ◌∙◌}
use Rattle.jv_model.specs.declared.act.TheConstants.{NO_CLIENT}
use Rattle.jv_model.specs.declared.act.Act.{Act}
use Rattle.jv_model.specs.declared.act.ActKind.TheVariants.{Answered}
use Rattle.jv_model.specs.declared.act.Told.TheVariants.{Fine}
use Rattle.jv_model.specs.declared.basics.Limits.{Limits}
use Rattle.jv_model.specs.declared.op.Op.TheVariants as op
use Rattle.jv_model.specs.declared.op.Reply.{Reply}
use Rattle.jv_model.specs.declared.profile.Does.TheVariants.{Uploads}
use Rattle.jv_model.specs.promise.client.Profile.{profile}
use Rattle.jv_model.specs.promise.client.ModelClient.{ModelClient, Doing, Stage, Compacting, Cleans, Judged, Removing}
use Rattle.jv_model.specs.promise.client.Submission.{by_limits, is_flushed}
use Rattle.jv_model.specs.promise.journal.State.{State}
use Rattle.jv_model.specs.promise.journal.Steps.{Start, MayStep, MayAnswer, Fails, Decided, AtOnce, CountsCache, ReadsViews, CleanedUp, HasCompacted, HasCollected, HasUploaded, Refuses, TooShort, HasReplaced, EndsUpload, Sent, FoundNone, has_judged, owes_none, told_of}
use Rattle.jv_model.specs.promise.journal.Past.{Setup, Past, at_start, begun_to, reached}
use Rattle.jv_model.specs.promise.journal.Legal.{Refuses as RefusesSubmission, LacksMemory as RefusalLacks}
use Rattle.jv_model_laws.specs.Laws.{UploadsFindAll}
use Rattle.jv_model_laws.proofs.JournalGrowthLaws.{AllAllowed-parts, begun_frame}
use Rattle.jv_model_laws.proofs.JournalStateLaws.{Entry, Steps, RefusedSubmission, LacksMemory, Crashes, Publishes, OfDrain, Ticks, entry_of, run_reached}
use Rattle.jv_model_laws.proofs.JournalDoingLaws.{Sound, SoundIf, MayReply, IsRefusedReply, IsDoneReply, StageOk, sound, fine_not_refused}
use Rattle.jv_model_laws.proofs.JournalStageLaws.{stage_fits, FitsIf, all_fit}
use Rattle.jv_model_laws.proofs.JournalOwedLaws.{none_is_owed}

judges_none : (stage : Stage) → IsTrue (has_judged Uploads stage) → ⊥
judges_none Judged h = cc
judges_none (Removing requests) h = cc
judges_none _ h = cc

-- what is known of an upload in progress
record Uploading (s : State) (client : ℕ) (c : ModelClient) (d : Doing) : Type 0 where
  does : d.does ≡ Uploads
  fits : IsTrue (stage_fits Uploads d.stage)
  settled : StageOk Uploads (is_flushed d.flush c.pending) d.stage

module _ (start : Start) (s : State) (client now : ℕ) (c : ModelClient) (d : Doing) (u : Uploading s client c d) where
  none_sent : EndsUpload true s client c d (Fine 0 0 0 0) → IsTrue (owes_none s client)
  none_sent (Sent id index size e same) = absurd (cc)
  none_sent (FoundNone ready first none same) = none

  none_settled : (flushed : Bool) (r : Reply) → Fine 0 0 0 0 ≡ told_of r → MayReply Uploads flushed r → ⊥
  none_settled flushed r e (IsRefusedReply h) = fine_not_refused (Fine 0 0 0 0) r refl e h
  none_settled flushed r e (IsDoneReply f never) = never

  fits_stage : (stage : Stage) → d.stage ≡ stage → IsTrue (stage_fits Uploads stage)
  fits_stage stage e = subst (λ x. IsTrue (stage_fits Uploads x)) e u.fits

  finds_none : MayAnswer start true s client now c d (Fine 0 0 0 0) → IsTrue (owes_none s client)
  finds_none (Fails m f) = absurd (cc)
  finds_none (Decided r e same) = absurd (none_settled (is_flushed d.flush c.pending) r same (subst (StageOk Uploads (is_flushed d.flush c.pending)) e u.settled))
  finds_none (AtOnce a) = let does = u.does in let no = a.same in absurd (cc)
  finds_none (CountsCache hits misses cached ready first e same) = let no = u.does in absurd (cc)
  finds_none (ReadsViews r) = let no = r.same in absurd (cc)
  finds_none (CleanedUp h) = let no = fits_stage (Cleans h.k) h.stage in absurd (cc)
  finds_none (HasCompacted (TooShort k records e q m few same)) = let no = fits_stage (Compacting k) e in absurd (cc)
  finds_none (HasCompacted (HasReplaced k before after e m few same)) = let no = fits_stage (Compacting k) e in absurd (cc)
  finds_none (HasCollected count bytes j same) = absurd (judges_none d.stage (subst (λ does. IsTrue (has_judged does d.stage)) u.does j))
  finds_none (HasUploaded e h) = none_sent h
  finds_none (Refuses fault m h same) = absurd (cc)

entry_finds : (p : Past) (act : Act) → Entry p act → p.run.uploads ≡ 0 → (act.client ≡ NO_CLIENT → ⊥) → (d : Doing)
    → (p.state.clients act.client).doing ≡ Some d → Uploading p.state act.client (p.state.clients act.client) d
    → act.kind ≡ Answered (Fine 0 0 0 0) → IsTrue (owes_none p.state act.client)
entry_finds p act (Steps x e may) none some d busy u k =
    let same : x ≡ d = cc in
    let alone : (p.run.uploads == 0) ≡ true = ap (λ n. n == 0) none in
    let step = subst (λ y. MayStep p.run.start (p.run.uploads == 0) p.state act.client act.at (p.state.clients act.client) y act.kind) same may in
    let answer : MayAnswer p.run.start (p.run.uploads == 0) p.state act.client act.at (p.state.clients act.client) d (Fine 0 0 0 0)
    = subst (MayStep p.run.start (p.run.uploads == 0) p.state act.client act.at (p.state.clients act.client) d) k step in
    finds_none p.run.start p.state act.client act.at (p.state.clients act.client) d u
    (subst (λ b. MayAnswer p.run.start b p.state act.client act.at (p.state.clients act.client) d (Fine 0 0 0 0)) alone answer)
entry_finds p act (RefusedSubmission fault e (RefusesSubmission k')) none some d busy u k = absurd (cc)
entry_finds p act (RefusedSubmission fault e (RefusalLacks b k')) none some d busy u k = absurd (cc)
entry_finds p act (LacksMemory e k') none some d busy u k = absurd (cc)
entry_finds p act (Crashes e k') none some d busy u k = absurd (cc)
entry_finds p act (Publishes e h) none some d busy u k = absurd (some e)
entry_finds p act (OfDrain client e due h) none some d busy u k = absurd (some e)
entry_finds p act (Ticks by e k') none some d busy u k = absurd (some e)

uploading : (limits : Limits) (s : State) (client : ℕ) (c : ModelClient) (d : Doing) → d.op ≡ op.Upload → Sound limits c.handles c.pending d
    → IsTrue (stage_fits d.does d.stage) → Uploading s client c d
uploading limits s client c d e h fits =
    let does : d.does ≡ Uploads = h.does ∙ ap (λ o. by_limits limits (profile o).does) e in
    record {
      does = does;
      fits = subst (λ x. IsTrue (stage_fits x d.stage)) does fits;
      settled = subst (λ x. StageOk x (is_flushed d.flush c.pending) d.stage) does h.stage;
    }

pub uploads_find : UploadsFindAll
uploads_find run journal act may none some d busy e k commit owed =
    let parts = AllAllowed-parts (at_start run) journal (act ∷ []) may in
    let p = begun_to act.line (reached run journal) in
    let c = p.state.clients act.client in
    let same = (begun_frame act.line (reached run journal)).run ∙ run_reached run journal in
    let h : Sound run.limits c.handles c.pending d = subst (SoundIf run.limits c.handles c.pending) busy (sound run journal parts.0 act.line act.client some) in
    let fits : IsTrue (stage_fits d.does d.stage) = subst FitsIf busy (all_fit run journal parts.0 act.line act.client some) in
    let off = entry_finds p act (entry_of p act parts.1.0) (ap (λ (r : Setup). r.uploads) same ∙ none) some d busy (uploading run.limits p.state act.client c d e h fits) k in
    none_is_owed run journal parts.0 act.line act.client commit off owed
