-- An operation is answered that has nothing to ask for: a close, a flush, a read of no bytes, a look at the cache's numbers, and a
-- write that there is room for.
use Rattle.std.proofs.Common.{◌≡◌, ℕ, ◌+◌, Bool, true, false, not, [], ◌∷◌, length, Option, None, Some, refl, sym, ap, subst, ◌∙◌, arith}
use Rattle.std.specs.Prelude.{◌==◌, IfSome, if◌then◌else◌, filter, is_some, unwrap_or}
use Rattle.std.proofs.lemmas.Bool.{not-true}
use Rattle.jv_model.specs.declared.act.ActKind.TheVariants.{Answered as IsAnswered}
use Rattle.jv_model.specs.declared.act.Told.{Told}
use Rattle.jv_model.specs.declared.act.Told.TheVariants.{Fine, Looks}
use Rattle.jv_model.specs.declared.fault.Device.{Device}
use Rattle.jv_model.specs.declared.op.Op.TheVariants as op
use Rattle.jv_model.specs.declared.op.Reply.{Reply}
use Rattle.jv_model.specs.declared.op.Reply.TheVariants as reply
use Rattle.jv_model.specs.declared.op.Step.TheVariants.{Done}
use Rattle.jv_model.specs.declared.profile.Answer.TheVariants as answer
use Rattle.jv_model.specs.declared.profile.Does.{Does}
use Rattle.jv_model.specs.declared.profile.Does.TheVariants as does
use Rattle.jv_model.specs.promise.client.Profile.{handle_of}
use Rattle.jv_model.specs.promise.client.Submission.{is_flushed}
use Rattle.jv_model.specs.promise.client.ModelClient.{ModelClient, Working as AtWork, inode_at, with_file}
use Rattle.jv_model.specs.promise.journal.State.{State, after_told}
use Rattle.jv_model.specs.promise.journal.Steps.{Start, asked_of}
use Rattle.jv_model.specs.promise.client.OpForms.{is_read}
use Rattle.jv_model.specs.client.OpForms.{is_umount}
use Rattle.jv_model_steps.specs.IsStep.{IsStep}
use Rattle.jv_model_steps.proofs.AnswerStepLaws.{closed-at_once, flushed-at_once, read-at_once, stats-answered}
use Rattle.jv_client_shared.specs.promise.Shared.{HasStore, Known, Shared}
use Rattle.jv_client_shared.proofs.KeepingLaws.{stays-none}
use Rattle.jv_client_shared.proofs.SameLaws.{same-none}
use Rattle.jv_client_requests.specs.Request.{Request}
use Rattle.jv_client_requests.proofs.StillLaws.{still-request}
use Rattle.jv_client_reads.specs.Ahead.{blocks_ahead}
use Rattle.jv_client_reads.specs.Fetching.{Fetching, begins}
use Rattle.jv_client.specs.declared.doing.Doing.{Doing}
use Rattle.jv_client.specs.declared.doing.Progress.{Progress}
use Rattle.jv_client.specs.declared.doing.Progress.TheVariants.{Working, Reading}
use Rattle.jv_client.specs.declared.made.Made.TheVariants as made
use Rattle.jv_client.specs.ClientValue.{ClientValue}
use Rattle.jv_client.specs.Ending.{ended, told_here}
use Rattle.jv_client.specs.Held.{Holds, IsClient, in_flight, is_last_here, stage_of}
use Rattle.jv_client.specs.Reading.{ahead_from, fetch_at, views_here}
use Rattle.jv_client.specs.promise.Failures.{is_failure_of}
use Rattle.jv_client.specs.Makes.{Makes}
use Rattle.jv_client.specs.UnderWay.{Answered, Closes, Copies, Describes, Ends, Flushes, FlushesFor, GoesOn, IsForm, IsReady, IsUnderWay, Leaves, Mounts, Reads, ReadsNothing, Syncs, SaysStats, Transacts, Truncates, Writes, answer_here, ends_itself, has_segment, keeps, left, says_stats}
use Rattle.jv_client.proofs.held.HeldLaws.{client-doing, doing_of, holds-doing}
use Rattle.jv_client.proofs.held.LastHandleLaws.{is_last-same}
use Rattle.jv_client.proofs.held.EndingLaws.{holds-told, keeps_bytes}
use Rattle.jv_client.proofs.held.OthersStepLaws.{client-ended, client-told}
use Rattle.jv_client.proofs.steps.AnswerLaws.{Rests, ended-rests, makes-as, makes-ended, request-lands, rests-flight, same-yard}
use Rattle.jv_client.proofs.steps.AnswerLaws.{told-rests, uses-none}
use Rattle.jv_client.specs.CacheUse.{CacheUse}
use Rattle.jv_client.specs.Stats.{IsStatsOf, AnswersNumbers}
use Rattle.jv_client.proofs.held.CacheUseLaws.{Alone, NoRead, RestsBy, cache-ended, cache-stays}
use Rattle.jv_client.proofs.begun.FormLaws.{flushed-same, none_left, nothing_asked, under_way}

-- ---- an answer alone, while devices are as they were

-- the model allows it, and it leaves a client of the model that the one in memory stands for
pub record AnswersWell (s : State) (g : Known) (v : Shared) (now : ℕ) (h after : ClientValue) (told : Told)
    (said : Reply) : Type 0 where
  pub model : ModelClient
  pub steps : (start : Start) (alone : Bool)
      → IsStep start alone s h.id now (IsAnswered told ∷ []) (Done said) s.tree model s.copied
  pub is_client : IsClient g v model (s.count + 1) after
  pub holds : Holds s.tree model

module _ (now entry : ℕ) (h after : ClientValue) (v : Shared) (told : Told) (said : Reply) where
  pub answers-makes : IsReady h → Rests h after → CacheUse h after (made.Answer told said) v.yard v.yard
      → ((device : Device) → is_failure_of device told ≡ false)
      → ((s : State) (g : Known) → HasStore s.tree g v → Holds s.tree (s.clients h.id)
      → IsClient g v (s.clients h.id) s.count h → AnswersWell s g v now h after told said)
      → Makes now entry h after v v (made.Answer told said)
  answers-makes ready rests cache calm well =
      makes-ended now entry h after v v (made.Answer told said) said refl ready rests
      (uses-none (made.Answer told said) v calm tt) (same-yard now h (made.Answer told said) v.yard) cache tt
      (λ s g count store holds is.
      let w = well s g store holds is in
      let mine = in_flight h in
      let kinds = IsAnswered told ∷ [] in
      record {
        learned = g;
        tree = s.tree;
        model = w.model;
        copied = s.copied;
        request = subst (λ n. Request s g g v v h.id now mine n kinds (Done said) s.tree w.model s.copied)
            (sym (rests-flight h after rests))
            (request-lands s g g v v h.id now mine mine kinds (Done said) s.tree w.model s.copied
            (still-request s g v v store (same-none v) h.id now mine kinds (Done said) w.model w.steps));
        is_client = w.is_client;
        holds = w.holds;
      })

-- ---- of an operation that is at its first step after its flush

-- where it is, as the model has it
pub record IsDone (h : ClientValue) (d : Doing) : Type 0 where
  pub started : ℕ
  pub stage : stage_of d.progress ≡ AtWork 0 started
  pub first : d.has_moved ≡ false
  pub none : has_segment h d ≡ false

pub is_done : (h : ClientValue) (d : Doing) → IsUnderWay h d → has_segment h d ≡ false → ends_itself h d ≡ true
    → IsDone h d
is_done h d under none ends =
    let asked = nothing_asked h d under none ends in
    record { started = asked.started; stage = ap stage_of asked.progress; first = asked.first; none = none }

-- its answer leaves what it leaves of the client
module _ (h : ClientValue) (d : Doing) (v : Shared) (told : Told) (said : Reply) (other : keeps_bytes d.op told ≡ false)
    (s : State) (g : Known) (store : HasStore s.tree g v) (holds : Holds s.tree (s.clients h.id))
    (is : IsClient g v (s.clients h.id) s.count h) (now : ℕ) where
  told-well : (c : ModelClient) → after_told d.op told (s.clients h.id) ≡ c
      → ((start : Start) (alone : Bool)
      → IsStep start alone s h.id now (IsAnswered told ∷ []) (Done said) s.tree c s.copied)
      → AnswersWell s g v now h (told_here d.op told h) told said
  told-well c same steps = record {
    model = after_told d.op told (s.clients h.id);
    steps = λ start alone.
        subst (λ (c : ModelClient). IsStep start alone s h.id now (IsAnswered told ∷ []) (Done said) s.tree c s.copied)
        (sym same) (steps start alone);
    is_client = client-told s.tree g v store 0 g v (stays-none 0 g v) (s.clients h.id) s.count (s.count + 1) h
        (omega arith) is d.op told other;
    holds = holds-told d.op told s.tree (s.clients h.id) other holds;
  }

-- the answers of those that flush the file of their handle
module _ (now entry : ℕ) (h : ClientValue) (v : Shared) (d : Doing) (busy : h.doing ≡ Some d) (ready : IsReady h)
    (done : IsDone h d) where
  abbrev IsAnsweredBy : Told → Reply → Type 0
  IsAnsweredBy told said = Makes now entry h (told_here d.op told h) v v (made.Answer told said)

  -- what the answer leaves of the cache
  leaves_cache : (told : Told) (said : Reply) → RestsBy v.yard.setting.block h d (made.Answer told said)
      → AnswersNumbers h (made.Answer told said)
      → CacheUse h (told_here d.op told h) (made.Answer told said) v.yard v.yard
  leaves_cache told said by numbers =
      cache-ended h d busy (told_here d.op told h) (made.Answer told said) v.yard v.yard h told by refl refl refl numbers

  -- the model has all committed that it flushes
  flushed : (s : State) (g : Known) → IsClient g v (s.clients h.id) s.count h
      → is_flushed (doing_of d).flush (s.clients h.id).pending ≡ true
  flushed s g is = flushed-same h d (s.clients h.id).pending done.none is.held.pending

  -- a close of a handle that isn't the last one on a file that this client removed
  closed_by-handle : (handle : ℕ) → d.op ≡ op.Close handle → d.does ≡ does.Releases → is_last_here h handle ≡ false
      → IsAnsweredBy (Fine 0 0 0 0) reply.Done
  closed_by-handle handle of_op of_does last =
      let told = Fine 0 0 0 0 in
      answers-makes now entry h (told_here d.op told h) v told reply.Done ready (told-rests d.op told h)
      (leaves_cache told reply.Done (NoRead (ap is_read of_op) refl refl) tt) (λ device. refl)
      (λ s g store holds is.
      let c = s.clients h.id in
      let last_too = is_last-same g v c s.count h is.held handle ∙ last in
      let left : ModelClient = record c { handles = with_file handle None c.handles; doing = None } in
      told-well h d v told reply.Done (ap (λ o. keeps_bytes o told) of_op) s g store holds is now left
      (ap (λ o. after_told o told c) of_op
      ∙ ap (λ b. record c {
        handles = with_file handle None c.handles;
        sustained = (if b then filter (λ inode. not (inode == inode_at c handle)) c.sustained else c.sustained);
        doing = None;
      }) last_too)
      (λ start alone. closed-at_once start alone s h.id now (doing_of d)
      (client-doing g v c s.count h d busy is) done.started done.stage (flushed s g is) done.first handle of_op
      of_does last_too))

  -- a flush with nothing to commit
  flushed_by-handle : (handle : ℕ) → d.op ≡ op.Flush handle → d.does ≡ does.Answers answer.Done
      → IsAnsweredBy (Fine 0 0 0 0) reply.Done
  flushed_by-handle handle of_op of_does =
      let told = Fine 0 0 0 0 in
      answers-makes now entry h (told_here d.op told h) v told reply.Done ready (told-rests d.op told h)
      (leaves_cache told reply.Done (NoRead (ap is_read of_op) refl refl) tt) (λ device. refl)
      (λ s g store holds is.
      let c = s.clients h.id in
      told-well h d v told reply.Done (ap (λ o. keeps_bytes o told) of_op) s g store holds is now
      (record c { doing = None }) (ap (λ o. after_told o told c) of_op)
      (λ start alone. flushed-at_once start alone s h.id now (doing_of d)
      (client-doing g v c s.count h d busy is) done.started done.stage (flushed s g is) done.first handle of_op
      of_does))

  -- no block is ahead of an operation that has nothing to read
  none_ahead : d.does ≡ does.Answers answer.NoData → (block : ℕ) → ahead_from block h d ≡ []
  none_ahead of_does block =
      ap (λ (o : Option Fetching). blocks_ahead (views_here h.handles d.op) (unwrap_or o (begins block (asked_of d.does))))
      (at_work d.progress done.stage)
      ∙ ap (λ (x : Does). blocks_ahead (views_here h.handles d.op) (begins block (asked_of x))) of_does
    where
      at_work : (p : Progress) → stage_of p ≡ AtWork 0 done.started → fetch_at p ≡ None
      at_work (Working quiets started id) e = refl
      at_work (Reading fetch next) e = absurd (cc e)

  -- a read of no byte
  nothing-read : (handle offset len : ℕ) → d.op ≡ op.Read handle offset len → d.does ≡ does.Answers answer.NoData
      → IsAnsweredBy (Looks 0 0 0) (reply.Data [])
  nothing-read handle offset len of_op of_does =
      let told = Looks 0 0 0 in
      answers-makes now entry h (told_here d.op told h) v told (reply.Data []) ready (told-rests d.op told h)
      (leaves_cache told (reply.Data []) (Alone (none_ahead of_does v.yard.setting.block)) tt)
      (λ device. refl)
      (λ s g store holds is.
      let c = s.clients h.id in
      told-well h d v told (reply.Data []) (ap (λ o. keeps_bytes o told) of_op) s g store holds is now
      (record c { doing = None }) (ap (λ o. after_told o told c) of_op)
      (λ start alone. read-at_once start alone s h.id now (doing_of d)
      (client-doing g v c s.count h d busy is) done.started done.stage (flushed s g is) done.first handle offset len
      of_op of_does))

  -- the numbers of the cache
  pub stats-told : d.op ≡ op.Stats → d.does ≡ does.Answers answer.CacheStats → (hits misses cached : ℕ)
      → IsStatsOf h (made.Answer (Fine hits misses cached (length h.pending))
      (reply.CacheStats hits misses cached (length h.pending)))
      → Makes now entry h (ended h) v v (made.Answer (Fine hits misses cached (length h.pending))
      (reply.CacheStats hits misses cached (length h.pending)))
  stats-told of_op of_does hits misses cached numbers =
      let told = Fine hits misses cached (length h.pending) in
      let said = reply.CacheStats hits misses cached (length h.pending) in
      answers-makes now entry h (ended h) v told said ready (ended-rests h)
      (cache-stays h d busy (ended h) (made.Answer told said) v.yard v.yard (NoRead (ap is_read of_op) refl refl)
      (ap is_umount of_op) refl numbers)
      (λ device. refl)
      (λ s g store holds is.
      let c = s.clients h.id in
      let long : length c.pending ≡ length h.pending = ap length is.held.pending in
      record {
        model = record c { doing = None };
        steps = λ start alone.
            subst (λ n. IsStep start alone s h.id now (IsAnswered (Fine hits misses cached n) ∷ [])
            (Done (reply.CacheStats hits misses cached n)) s.tree (record c { doing = None }) s.copied) long
            (stats-answered start alone s h.id now (doing_of d) (client-doing g v c s.count h d busy is)
            done.started done.stage (flushed s g is) done.first of_op of_does hits misses cached);
        is_client = client-ended s.tree g v store 0 g v (stays-none 0 g v) c s.count (s.count + 1) h (omega arith) is;
        holds = holds-doing s.tree c None holds;
      })

  -- these are all that have nothing to ask for, but writes

  abbrev IsAnsweredHere : Type 0
  IsAnsweredHere = IsAnsweredBy (answer_here d.does).0 (answer_here d.does).1

  answered-as : (does : Does) (told : Told) (said : Reply) → d.does ≡ does → answer_here does ≡ (told, said)
      → IsAnsweredBy told said → IsAnsweredHere
  answered-as does told said of_does same makes =
      subst (λ (p : Told × Reply). IsAnsweredBy p.0 p.1) (sym (ap answer_here of_does ∙ same)) makes

  not_ends : (does : Does) → d.does ≡ does → ends_itself h (record d { does = does }) ≡ false
      → ends_itself h d ≡ true → IsAnsweredHere
  not_ends does of_does goes ends =
      absurd (let same = ap (λ does. ends_itself h (record d { does = does })) of_does in cc (sym ends ∙ same ∙ goes))

  flushed-answered : (handle : ℕ) → FlushesFor d handle → ends_itself h d ≡ true → IsAnsweredHere
  flushed-answered handle (Closes of_op of_does) ends =
      answered-as does.Releases (Fine 0 0 0 0) reply.Done of_does refl
      (closed_by-handle handle of_op of_does
      (sym (ap (λ o. is_last_here h (handle_of o)) of_op)
      ∙ not-true _ (sym (ap (λ does. ends_itself h (record d { does = does })) of_does) ∙ ends)))
  flushed-answered handle (Syncs of_op of_does) ends =
      answered-as (does.Answers answer.Done) (Fine 0 0 0 0) reply.Done of_does refl
      (flushed_by-handle handle of_op of_does)
  flushed-answered handle (Describes of_op of_does) ends = not_ends does.Transacts of_does refl ends
  flushed-answered handle (ReadsNothing offset len of_op of_does) ends =
      answered-as (does.Answers answer.NoData) (Looks 0 0 0) (reply.Data []) of_does refl
      (nothing-read handle offset len of_op of_does)
  flushed-answered handle (Reads offset len of_op of_does some few low) ends =
      not_ends (does.Reads offset len) of_does refl ends
  flushed-answered handle (Truncates len of_op of_does) ends = not_ends does.Truncates of_does refl ends

  form-answered : IsForm h d → ends_itself h d ≡ true → keeps d.does ≡ false → says_stats d.does ≡ false
      → IsAnsweredHere
  form-answered (Mounts of_op of_does first) ends kept told = not_ends (does.Mounts false) of_does refl ends
  form-answered (Transacts one spelled of_does first session) ends kept told = not_ends does.Transacts of_does refl ends
  form-answered (Leaves of_op of_does first session) ends kept told = not_ends does.Transacts of_does refl ends
  form-answered (Writes handle offset bytes file of_op of_does opened short room session) ends kept told =
      absurd (let same = ap keeps of_does in cc (sym same ∙ kept))
  form-answered (Flushes handle file for first opened session) ends kept told = flushed-answered handle for ends
  form-answered (Copies source from target to len file other of_op of_does first opened there session) ends kept told =
      not_ends does.Copies of_does refl ends
  form-answered (SaysStats of_op of_does first session) ends kept told =
      absurd (let same = ap says_stats of_does in cc (sym same ∙ told))

  pub ends_alone : IsForm h d → ends_itself h d ≡ true → keeps d.does ≡ false → says_stats d.does ≡ false
      → (after : ClientValue) (told : Told) (said : Reply) → Ends d h after (Some (told, said))
      → Makes now entry h after v v (made.Answer told said)
  ends_alone form ends kept stats after told said (Answered itself of_answer of_after) =
      let same : ◌≡◌ {A = Told × Reply} (told, said) (answer_here d.does) = cc of_answer in
      makes-as now entry h after (told_here d.op (answer_here d.does).0 h) v v v (made.Answer told said)
      (made.Answer (answer_here d.does).0 (answer_here d.does).1) of_after refl
      (ap (λ (p : Told × Reply). made.Answer p.0 p.1) same) (form-answered form ends kept stats)
  ends_alone form ends kept stats after told said (GoesOn more of_answer of_after) = absurd (cc (sym ends ∙ more))

-- as the function has it
pub end_at_once : (now entry : ℕ) (h after : ClientValue) (v : Shared) (told : Told) (said : Reply) (o : Option Doing)
    → h.doing ≡ o → is_some o ≡ true → IsReady h → left h ≡ None → IfSome o (λ d. keeps d.does ≡ false)
    → IfSome o (λ d. says_stats d.does ≡ false) → IfSome o (λ d. ends_itself h d ≡ true)
    → IfSome o (λ d. Ends d h after (Some (told, said)))
    → Makes now entry h after v v (made.Answer told said)
end_at_once now entry h after v told said None busy some ready none kept stats itself ends = absurd (cc some)
end_at_once now entry h after v told said (Some d) busy some ready none kept stats itself ends =
    let under = under_way h d busy ready in
    ends_alone now entry h v d busy ready (is_done h d under (none_left h d busy none) itself) under.form itself kept
    stats after told said ends

pub stats_told : (now entry : ℕ) (h : ClientValue) (v : Shared) (d : Doing) → h.doing ≡ Some d → IsReady h
    → left h ≡ None → says_stats d.does ≡ true → (hits misses cached : ℕ)
    → IsStatsOf h (made.Answer (Fine hits misses cached (length h.pending))
    (reply.CacheStats hits misses cached (length h.pending)))
    → Makes now entry h (ended h) v v (made.Answer (Fine hits misses cached (length h.pending))
    (reply.CacheStats hits misses cached (length h.pending)))
stats_told now entry h v d busy ready none says hits misses cached numbers = by_form under.form
  where
    under : IsUnderWay h d
    under = under_way h d busy ready

    other : (does : Does) → d.does ≡ does → says_stats does ≡ false
        → Makes now entry h (ended h) v v (made.Answer (Fine hits misses cached (length h.pending))
        (reply.CacheStats hits misses cached (length h.pending)))
    other does of_does not = absurd (cc (sym says ∙ ap says_stats of_does ∙ not))

    by_flush : (handle : ℕ) → FlushesFor d handle
        → Makes now entry h (ended h) v v (made.Answer (Fine hits misses cached (length h.pending))
        (reply.CacheStats hits misses cached (length h.pending)))
    by_flush handle (Closes of_op of_does) = other does.Releases of_does refl
    by_flush handle (Syncs of_op of_does) = other (does.Answers answer.Done) of_does refl
    by_flush handle (Describes of_op of_does) = other does.Transacts of_does refl
    by_flush handle (ReadsNothing offset len of_op of_does) = other (does.Answers answer.NoData) of_does refl
    by_flush handle (Reads offset len of_op of_does some few low) = other (does.Reads offset len) of_does refl
    by_flush handle (Truncates len of_op of_does) = other does.Truncates of_does refl

    by_form : IsForm h d → Makes now entry h (ended h) v v (made.Answer (Fine hits misses cached (length h.pending))
        (reply.CacheStats hits misses cached (length h.pending)))
    by_form (Mounts of_op of_does first) = other (does.Mounts false) of_does refl
    by_form (Transacts one spelled of_does first session) = other does.Transacts of_does refl
    by_form (Leaves of_op of_does first session) = other does.Transacts of_does refl
    by_form (Writes handle offset bytes file of_op of_does opened short room session) =
        other (does.Answers (answer.Count (length bytes))) of_does refl
    by_form (Flushes handle file for first opened session) = by_flush handle for
    by_form (Copies source from target to len file there of_op of_does first opened open_too session) =
        other does.Copies of_does refl
    by_form (SaysStats of_op of_does first session) =
        stats-told now entry h v d busy ready
        (is_done h d under (none_left h d busy none) (ap (λ does. ends_itself h (record d { does = does })) of_does))
        of_op of_does hits misses cached numbers
