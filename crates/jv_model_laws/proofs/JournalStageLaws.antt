-- What an operation's stage says of the operation.
use Rattle.std.proofs.Common.{◌≡◌, ℕ, ◌+◌, Bool, true, false, ◌&&◌, ◌==◌, if◌then◌else◌, IsTrue, IsSomeAnd, MatchBool, inl, inr, List, [], ◌∷◌, ◌++◌, is_some, Option, None, Some, refl, sym, ap, subst, ◌∙◌, ◌||◌}
use Rattle.std.proofs.lemmas.Bool.Decides.{eqb_tells}
use Rattle.jv_model.specs.declared.tables.TheConstants.{TABLE_OF_DEAD, TABLE_OF_DROPPED}
use Rattle.jv_model.specs.declared.act.TheConstants.{NO_CLIENT}
use Rattle.jv_model.specs.declared.act.Act.{Act}
use Rattle.jv_model.specs.declared.act.ActKind.{ActKind}
use Rattle.jv_model.specs.declared.act.ActKind.TheVariants.{Mounted, Meta, Opened, Look, Commit, Truncated, Copied, Compacted, Settled, Expired, Purged, Cleaned, Quiet, Miss, Crashed, Ticked, Answered}
use Rattle.jv_model.specs.declared.act.Told.{Told}
use Rattle.jv_model.specs.declared.act.Told.TheVariants.{Fine, Looks, Refused as ToldRefused}
use Rattle.jv_model.specs.declared.basics.Limits.{Limits}
use Rattle.jv_model.specs.declared.op.Op.{Op}
use Rattle.jv_model.specs.declared.op.Op.TheVariants as op
use Rattle.jv_model.specs.declared.op.Reply.{Reply}
use Rattle.jv_model.specs.declared.op.Reply.TheVariants as reply
use Rattle.jv_model.specs.declared.profile.Answer.TheVariants as answer
use Rattle.jv_model.specs.declared.profile.Does.{Does}
use Rattle.jv_model.specs.declared.profile.Does.TheVariants.{Answers, Mounts, Transacts, Releases, Reads, Truncates, Copies, Compacts, Cleans as DoesClean, Collects, Uploads}
use Rattle.jv_model.specs.promise.client.Pending.{without_range}
use Rattle.jv_model.specs.promise.client.Origins.{Owed}
use Rattle.jv_model.specs.promise.client.Profile.{profile, handle_of}
use Rattle.jv_model.specs.promise.client.ModelClient.{ModelClient, OpenFile, View, Doing, Stage, Cleaning, Files, Working, Reading, Missing, LookedAgain, Compacting, Cleans, Listed, Judged, Removing, Published, Replying, unmounted, with_stage, views_without, Sessions}
use Rattle.jv_model.specs.promise.client.Submission.{submission, submitted, by_limits, is_flushed}
use Rattle.jv_model.specs.promise.journal.State.{removes_block, after_judging, is_collecting, State, with_client, set_client, given, replied, transacted, newly_sustained, next_entry, gift_of, after_transaction, has_session, quieted, begun_quietly, flushing_on, looked, compaction_looked, missed, committed_stage, answer_then, replaced, after_told, answered_client, is_of_another, after_step, of_doing, changed, effect, view_now, is_compaction, is_cleaning, sees_first, first_cleaning}
use Rattle.jv_model.specs.promise.journal.Reading.{Asked, asked_parts}
use Rattle.jv_model.specs.promise.journal.Steps.{Start, asked_of, file_in_use, window_to_look, part_in_use, LooksAt, CompactionLooks, CompactionMisses, MissesBlock, cleaning_in, CleansItem, DropsFile, ForgetsSlice, OfOneBlock, OfBlocks, MayStep}
use Rattle.jv_model.specs.promise.journal.Past.{Setup, Past, at_start, begun_to, reached}
use Rattle.jv_model.specs.promise.journal.Legal.{Allowed, AllAllowed, Refuses as RefusesSubmission, LacksMemory as RefusalLacks}
use Rattle.jv_model_laws.specs.Laws.{CleansOnlyInClean, cleans}
use Rattle.jv_model_laws.proofs.JournalGrowthLaws.{AllAllowed-parts, own_client, others_kept}
use Rattle.jv_model_laws.proofs.JournalDoingLaws.{doing_given, Sound, SoundIf, sound, cleaning_branch}
use Rattle.jv_model_laws.proofs.JournalStateLaws.{Entry, Steps, RefusedSubmission, LacksMemory, Crashes, Publishes, OfDrain, Ticks, entry_of, holds_on, of_kind}

abbrev pub is_reading : Does → Bool
is_reading (Reads offset len) = true
is_reading _ = false

abbrev pub is_uploading : Does → Bool
is_uploading Uploads = true
is_uploading _ = false

abbrev pub stage_fits : Does → Stage → Bool
stage_fits does (Working quiets started) = true
stage_fits does (Reading misses) = is_reading does
stage_fits does (Missing misses window owed) = is_reading does
stage_fits does (LookedAgain misses window owed) = is_reading does
stage_fits does (Compacting k) = is_compaction does
stage_fits does (Cleans k) = is_cleaning does
stage_fits does Listed = is_collecting does
stage_fits does Judged = is_collecting does
stage_fits does (Removing requests) = is_collecting does
stage_fits does Published = is_uploading does
stage_fits does (Replying r) = true

abbrev pub FitsIf : Option Doing → Type 0
FitsIf None = Unit {0}
FitsIf (Some d) = IsTrue (stage_fits d.does d.stage)

abbrev pub FitsClient : ModelClient → Type 0
FitsClient c = FitsIf c.doing

fit_staged : (stage : Stage) (c : ModelClient) (d : Doing) (o : Option Doing) → o ≡ Some d → IsTrue (stage_fits d.does stage)
    → FitsClient (elim o as (λ _. ModelClient) [ None ↦ c | Some x ↦ record c { doing = Some (record x { stage = stage; moved = true }) } ])
fit_staged stage c d None e h = absurd (cc)
fit_staged stage c d (Some x) e h = let same : d ≡ x = cc in subst (λ (y : Doing). IsTrue (stage_fits y.does stage)) same h

fit_stage : (stage : Stage) (c : ModelClient) (d : Doing) → c.doing ≡ Some d → IsTrue (stage_fits d.does stage) → FitsClient (with_stage stage c)
fit_stage stage c d e h = fit_staged stage c d c.doing e h

own_fit : (clients : ℕ → ModelClient) (at : ℕ) (c : ModelClient) → FitsClient c → FitsClient (with_client clients at c at)
own_fit clients at c h = subst FitsClient (sym (own_client clients at c)) h

-- stages that follow

module _ (does : Does) where
  abbrev Fit : Stage → Type 0
  Fit stage = IsTrue (stage_fits does stage)

  fit_if : (b : Bool) (x y : Stage) → Fit x → Fit y → Fit (if b then x else y)
  fit_if true x y h g = h
  fit_if false x y h g = g

  fit_refused : (stage : Stage) (o : Option Reply) → Fit stage → Fit (elim o [ None ↦ stage | Some answer ↦ Replying answer ])
  fit_refused stage None h = h
  fit_refused stage (Some r) h = refl

  fit_replaced : (stage : Stage) → Fit stage → Fit (replaced stage)
  fit_replaced (Compacting k) h = h
  fit_replaced (Working quiets started) h = h
  fit_replaced (Reading misses) h = h
  fit_replaced (Missing misses at before) h = h
  fit_replaced (LookedAgain misses at before) h = h
  fit_replaced (Cleans k) h = h
  fit_replaced Listed h = h
  fit_replaced Judged h = h
  fit_replaced (Removing requests) h = h
  fit_replaced Published h = h
  fit_replaced (Replying r) h = h

  fit_answer : (b : Bool) (o : Option Reply) → Fit (if b then elim o [ None ↦ Working 0 0 | Some answer ↦ Replying answer ] else Working 0 0)
  fit_answer true None = refl
  fit_answer true (Some r) = refl
  fit_answer false o = refl

  fit_compaction : (view : View) (stage : Stage) → IsTrue (is_compaction does) → Fit (compaction_looked view stage)
  fit_compaction view (Compacting k) h = h
  fit_compaction view _ h = h

  fit_looked : (stage : Stage) → Fit stage → ((quiets started : ℕ) → stage ≡ Working quiets started → IsTrue (is_reading does)) → Fit (looked stage)
  fit_looked (Working quiets started) h g = g quiets started refl
  fit_looked (Reading misses) h g = h
  fit_looked (Missing misses window owed) h g = h
  fit_looked (LookedAgain misses window owed) h g = h
  fit_looked (Compacting k) h g = h
  fit_looked (Cleans k) h g = h
  fit_looked Listed h g = h
  fit_looked Judged h g = h
  fit_looked (Removing requests) h g = h
  fit_looked Published h g = h
  fit_looked (Replying r) h g = refl

  fit_missed : (window : ℕ) (owed : List Owed) (stage : Stage) → Fit stage → ((quiets started : ℕ) → stage ≡ Working quiets started → IsTrue (is_reading does)) → Fit (missed window owed stage)
  fit_missed window owed (Working quiets started) h g = g quiets started refl
  fit_missed window owed (Reading misses) h g = h
  fit_missed window owed (Missing misses at before) h g = h
  fit_missed window owed (LookedAgain misses at before) h g = h
  fit_missed window owed (Compacting k) h g = h
  fit_missed window owed (Cleans k) h g = h
  fit_missed window owed Listed h g = h
  fit_missed window owed Judged h g = h
  fit_missed window owed (Removing requests) h g = h
  fit_missed window owed Published h g = h
  fit_missed window owed (Replying r) h g = refl

module _ (s : State) (client : ℕ) (c : ModelClient) (now : ℕ) (d : Doing) (h : IsTrue (stage_fits d.does d.stage)) where
  fit_begun : (does : Does) → d.does ≡ does → IsTrue (stage_fits d.does (begun_quietly s client c now d does))
  fit_begun (Answers told) e = h
  fit_begun (Mounts writeback) e = h
  fit_begun Transacts e = h
  fit_begun Releases e = h
  fit_begun (Reads offset len) e = fit_if d.does (sees_first c d (asked_parts offset len)) _ _ (ap is_reading e) (fit_refused d.does d.stage _ h)
  fit_begun Truncates e = refl
  fit_begun Copies e = refl
  fit_begun (Compacts None) e = refl
  fit_begun (Compacts (Some inode)) e = fit_refused d.does d.stage _ h
  fit_begun DoesClean e = fit_if d.does (has_session s.tree c || removes_block Sessions) _ _ (ap is_cleaning e) refl
  fit_begun (Collects delete) e = ap is_collecting e
  fit_begun Uploads e = ap is_uploading e

  fit_judging : (does : Does) → IsTrue (is_collecting does) → IsTrue (stage_fits does (after_judging does))
  fit_judging (Collects true) g = refl
  fit_judging (Collects false) g = refl
  fit_judging _ g = absurd (cc)

  fit_flushing : (quiets started : ℕ) → IsTrue (stage_fits d.does (flushing_on s c now quiets started))
  fit_flushing quiets started = fit_if d.does (quiets == 0) _ _ (fit_if d.does (has_session s.tree c) (Working 1 0) _ refl refl) (fit_if d.does (quiets == 1) (Working 2 now) (Working (quiets + 1) started) refl refl)

  fit_quieted : (stage : Stage) → IsTrue (stage_fits d.does stage) → IsTrue (stage_fits d.does (quieted s client c now d stage))
  fit_quieted (Working quiets started) g = fit_if d.does (is_flushed d.flush c.pending) _ _ (fit_begun d.does refl) (fit_flushing quiets started)
  fit_quieted (Reading misses) g = g
  fit_quieted (Missing misses window owed) g = fit_refused d.does (Missing misses window owed) _ g
  fit_quieted (LookedAgain misses window owed) g = g
  fit_quieted (Compacting k) g = fit_if d.does (is_some k.missed) _ _ (fit_refused d.does (Compacting k) _ g) g
  fit_quieted (Cleans k) g = fit_if d.does (has_session s.tree c || removes_block k.part) _ _ g refl
  fit_quieted Listed g = fit_if d.does (has_session s.tree c) _ _ g refl
  fit_quieted Judged g = fit_judging d.does g
  fit_quieted (Removing requests) g = g
  fit_quieted Published g = g
  fit_quieted (Replying answer) g = refl

-- what an entry says of its operation

looks_reading : (c : ModelClient) (d : Doing) (quiets started : ℕ) (does : Does) (file : OpenFile) (window : ℕ) → window_to_look c (record d { does = does; stage = Working quiets started }) file ≡ Some window → IsTrue (is_reading does)
looks_reading c d quiets started (Reads offset len) file window e = refl
looks_reading c d quiets started _ file window e = absurd (cc)

looks_in : (c : ModelClient) (d : Doing) (inode window quiets started : ℕ) (o : Option OpenFile) → d.stage ≡ Working quiets started → IsSomeAnd o (λ file. (inode ≡ file.inode) × (window_to_look c d file ≡ Some window)) → IsTrue (is_reading d.does)
looks_in c d inode window quiets started None e h = absurd h
looks_in c d inode window quiets started (Some file) e h = looks_reading c d quiets started d.does file window (subst (λ st. window_to_look c (record d { stage = st }) file ≡ Some window) e h.1)

part_reading : (c : ModelClient) (handle : ℕ) (file : OpenFile) (does : Does) (window : ℕ) (asked : Asked) → part_in_use c handle file (asked_of does) window ≡ Some asked → IsTrue (is_reading does)
part_reading c handle file (Reads offset len) window asked e = refl
part_reading c handle file _ window asked e = absurd (cc)

cleaning_if : (does : Does) (b : Bool) (k : Cleaning) → ◌≡◌ {A = Option Cleaning} (if b && is_cleaning does then Some first_cleaning else None) (Some k) → IsTrue (is_cleaning does)
cleaning_if does true k e = cleaning_branch (is_cleaning does) k e
cleaning_if does false k e = absurd (cc)

cleaning_fits : (c : ModelClient) (d : Doing) (stage : Stage) (k : Cleaning) → IsTrue (stage_fits d.does stage) → cleaning_in c (record d { stage = stage }) ≡ Some k → IsTrue (is_cleaning d.does)
cleaning_fits c d (Working quiets started) k h e = cleaning_if d.does _ k e
cleaning_fits c d (Cleans k') k h e = h
cleaning_fits c d _ k h e = absurd (cc)

forget_cleans : (s : State) (c : ModelClient) (d : Doing) → IsTrue (stage_fits d.does d.stage) → ForgetsSlice s c d → IsTrue (is_cleaning d.does)
forget_cleans s c d h (OfOneBlock item) = cleaning_fits c d d.stage item.k h item.stage
forget_cleans s c d h (OfBlocks item) = cleaning_fits c d d.stage item.k h item.stage

row_cleans : (s : State) (c : ModelClient) (d : Doing) (table key : ℕ) (b : Bool) → IsTrue (stage_fits d.does d.stage) → MatchBool b (CleansItem s c d Files × DropsFile s key) ((table ≡ TABLE_OF_DEAD) × ForgetsSlice s c d) → IsTrue (is_cleaning d.does)
row_cleans s c d table key true h may = cleaning_fits c d d.stage may.0.k h may.0.stage
row_cleans s c d table key false h may = forget_cleans s c d h may.1

look_reads : (s : State) (client now : ℕ) (c : ModelClient) (d : Doing) (inode window : ℕ) (b : Bool) → MatchBool b (CompactionLooks s client now c d inode window) (LooksAt s c d inode window) → b ≡ false → (quiets started : ℕ) → d.stage ≡ Working quiets started → IsTrue (is_reading d.does)
look_reads s client now c d inode window true may no_look quiets started e = absurd (cc)
look_reads s client now c d inode window false may no_look quiets started e = looks_in c d inode window quiets started (file_in_use c d) e may.file

miss_reads : (start : Start) (s : State) (client : ℕ) (c : ModelClient) (d : Doing) (inode window : ℕ) (b : Bool) → MatchBool b (CompactionMisses start s client d inode window) (MissesBlock start s client c d inode window) → (quiets started : ℕ) → d.stage ≡ Working quiets started → IsTrue (is_reading d.does)
miss_reads start s client c d inode window true may quiets started e = let k = may.stage in absurd (cc)
miss_reads start s client c d inode window false may quiets started e = part_reading c (handle_of d.op) may.file d.does window may.asked may.at

module _ (start : Start) (alone : Bool) (s : State) (act : Act) (d : Doing) (busy : (s.clients act.client).doing ≡ Some d) (h : IsTrue (stage_fits d.does d.stage)) where
  abbrev c : ModelClient
  c = s.clients act.client

  own_stage : (stage : Stage) → IsTrue (stage_fits d.does stage) → FitsClient (with_client s.clients act.client (with_stage stage c) act.client)
  own_stage stage ok = own_fit s.clients act.client (with_stage stage c) (fit_stage stage c d busy ok)

  own_viewed : (stage : Stage) (views : List View) → IsTrue (stage_fits d.does stage) → FitsClient (with_client s.clients act.client (with_stage stage (record c { views = views })) act.client)
  own_viewed stage views ok = own_fit s.clients act.client (with_stage stage (record c { views = views })) (fit_stage stage (record c { views = views }) d busy ok)

  own_transaction : FitsClient ((after_transaction s act.client act.at d).clients act.client)
  own_transaction =
      let done = transacted s act.client act.at d.op in
      let sustained : List ℕ = newly_sustained s.tree done.tree c ++ c.sustained in
      let old : ModelClient = record c { sustained = sustained } in
      own_fit s.clients act.client (replied (next_entry s) d.does done.reply old) (fit_stage (Replying done.reply) (given (next_entry s) d.does (gift_of done.reply) old) d (doing_given (next_entry s) d.does (gift_of done.reply) old ∙ busy) refl)

  own_look : (inode window : ℕ) (compacts : Bool) → is_compaction d.does ≡ compacts → (compacts ≡ false → (quiets started : ℕ) → d.stage ≡ Working quiets started → IsTrue (is_reading d.does)) → FitsClient (with_client s.clients act.client (if compacts
      then with_stage (compaction_looked (view_now s 0 inode window) d.stage) c
      else with_stage (looked d.stage) (record c { views = view_now s (handle_of d.op) inode window ∷ c.views })) act.client)
  own_look inode window true e reads = own_stage _ (fit_compaction d.does _ d.stage e)
  own_look inode window false e reads = own_viewed _ _ (fit_looked d.does d.stage h (reads refl))

  own_commit : (inode from len : ℕ) → FitsClient (with_client s.clients act.client (with_stage (committed_stage (record c { pending = without_range inode from len c.pending; views = views_without inode c.views }) d) (record c { pending = without_range inode from len c.pending; views = views_without inode c.views })) act.client)
  own_commit inode from len =
      let rest : ModelClient = record c { pending = without_range inode from len c.pending; views = views_without inode c.views } in
      own_fit s.clients act.client (with_stage (committed_stage rest d) rest) (fit_stage (committed_stage rest d) rest d busy (fit_answer d.does (is_flushed d.flush rest.pending) (answer_then rest d)))

  own_step : (kind : ActKind) → MayStep start alone s act.client act.at c d kind → FitsClient ((after_step s act d kind).clients act.client)
  own_step (Mounted sid) may = own_transaction
  own_step Meta may = own_transaction
  own_step (Opened handle inode) may = own_transaction
  own_step (Look inode window) may = own_look inode window (is_compaction d.does) refl (look_reads s act.client act.at c d inode window (is_compaction d.does) may)
  own_step (Commit inode from len left) may = own_commit inode from len
  own_step (Truncated inode len) may = own_viewed (Replying reply.Done) _ refl
  own_step (Copied source from target to len) may = own_viewed (Replying (reply.Count len)) _ refl
  own_step (Compacted inode window from to) may = own_stage _ (fit_replaced d.does d.stage h)
  own_step (Settled commit) may = own_stage _ (fit_quieted s act.client c act.at d h d.stage h)
  own_step (Expired sid) may = own_stage (Cleans _) (cleaning_fits c d d.stage may.0.k h may.0.stage)
  own_step (Purged inode) may = own_stage (Cleans _) (cleaning_fits c d d.stage may.0.k h may.0.stage)
  own_step (Cleaned table key) may = own_stage (Cleans _) (row_cleans s c d table key (table == TABLE_OF_DROPPED) h may)
  own_step Quiet may = own_stage _ (fit_quieted s act.client c act.at d h d.stage h)
  own_step (Miss inode window) may = own_stage _ (fit_missed d.does window s.owed d.stage h (miss_reads start s act.client c d inode window (is_compaction d.does) may))
  own_step Crashed may = absurd may
  own_step (Ticked by) may = absurd may
  own_step (Answered told) may = subst FitsIf (sym busy) h

-- answers

abbrev pub AllFit : (ℕ → ModelClient) → Type 0
AllFit clients = (c : ℕ) → (c ≡ NO_CLIENT → ⊥) → FitsClient (clients c)

fit_of_told : (o : Op) (told : Told) (c : ModelClient) → FitsClient (after_told o told c)
fit_of_told o (Fine a b e f) c = tt
fit_of_told o (Looks first second len) c = tt
fit_of_told o (ToldRefused fault) c = tt

fit_of_either : (b : Bool) (c d : ModelClient) → FitsClient c → FitsClient d → FitsClient (if b then c else d)
fit_of_either true c d h g = h
fit_of_either false c d h g = g

fit_of_answered_if : (c : ModelClient) (told : Told) (o : Option Doing) → FitsClient c → FitsClient (elim o as (λ _. ModelClient) [ None ↦ c | Some d ↦ (if is_of_another d.stage told then c else after_told d.op told c) ])
fit_of_answered_if c told None h = h
fit_of_answered_if c told (Some d) h = fit_of_either (is_of_another d.stage told) c (after_told d.op told c) h (fit_of_told d.op told c)

fit_of_answered : (c : ModelClient) (told : Told) → FitsClient c → FitsClient (answered_client told c)
fit_of_answered c told h = fit_of_answered_if c told c.doing h

-- an entry of a client

fit_of_doing : (start : Start) (alone : Bool) (s : State) (act : Act) (o : Option Doing) → (s.clients act.client).doing ≡ o → FitsClient (s.clients act.client) → (d : Doing) → o ≡ Some d
    → MayStep start alone s act.client act.at (s.clients act.client) d act.kind → FitsClient ((of_doing s act o).clients act.client)
fit_of_doing start alone s act None e h d is may = absurd (cc)
fit_of_doing start alone s act (Some x) e h d is may =
    let same : d ≡ x = cc in
    own_step start alone s act x e (subst FitsIf e h) act.kind
    (subst (λ y. MayStep start alone s act.client act.at (s.clients act.client) y act.kind) same may)

fit_of_changed : (start : Start) (alone : Bool) (s : State) (act : Act) (kind : ActKind) (d : Doing) → FitsClient (s.clients act.client) → (s.clients act.client).doing ≡ Some d
    → MayStep start alone s act.client act.at (s.clients act.client) d kind → FitsClient ((changed s (of_kind act kind) kind).clients act.client)
fit_of_changed start alone s act Crashed d h e may = absurd may
fit_of_changed start alone s act (Answered told) d h e may = own_fit s.clients act.client _ (fit_of_answered (s.clients act.client) told h)
fit_of_changed start alone s act kind d h e may = fit_of_doing start alone s (of_kind act kind) (s.clients act.client).doing refl h d e may

fit_of_told_entry : (s : State) (act : Act) (told : Told) (kind : ActKind) → kind ≡ Answered told → FitsClient (s.clients act.client) → FitsClient ((effect s (of_kind act kind)).clients act.client)
fit_of_told_entry s act told kind e h = subst (λ k. FitsClient ((effect s (of_kind act k)).clients act.client)) (sym e) (own_fit s.clients act.client (answered_client told (s.clients act.client)) (fit_of_answered (s.clients act.client) told h))

fit_of_crash : (s : State) (act : Act) (kind : ActKind) → kind ≡ Crashed → FitsClient ((effect s (of_kind act kind)).clients act.client)
fit_of_crash s act kind e = subst (λ k. FitsClient ((effect s (of_kind act k)).clients act.client)) (sym e) (own_fit s.clients act.client unmounted tt)

fit_of_own : (p : Past) (act : Act) → Entry p act → (act.client ≡ NO_CLIENT → ⊥) → FitsClient (p.state.clients act.client) → FitsClient ((effect p.state act).clients act.client)
fit_of_own p act (Steps d e may) some h = fit_of_changed p.run.start (p.run.uploads == 0) p.state act act.kind d h e may
fit_of_own p act (RefusedSubmission fault e (RefusesSubmission k)) some h = fit_of_told_entry p.state act _ act.kind k h
fit_of_own p act (RefusedSubmission fault e (RefusalLacks b k)) some h = fit_of_told_entry p.state act _ act.kind k h
fit_of_own p act (LacksMemory e k) some h = fit_of_told_entry p.state act _ act.kind k h
fit_of_own p act (Crashes e k) some h = fit_of_crash p.state act act.kind k
fit_of_own p act (Publishes e k) some h = absurd (some e)
fit_of_own p act (OfDrain client e due k) some h = absurd (some e)
fit_of_own p act (Ticks by e k) some h = absurd (some e)

fit_of_enters : (run : Setup) (pre : List Act) (act : Act) → Allowed (begun_to act.line (reached run pre)) act → AllFit (begun_to act.line (reached run pre)).state.clients → AllFit (effect (begun_to act.line (reached run pre)).state act).clients
fit_of_enters run pre act may all c some =
    let p = begun_to act.line (reached run pre) in
    elim (eqb_tells c act.client) [
      | inl own ↦ subst (λ q. FitsClient ((effect p.state act).clients q)) (sym own.1) (fit_of_own p act (entry_of p act may) (λ e. some (own.1 ∙ e)) (all act.client (λ e. some (own.1 ∙ e))))
      | inr other ↦ subst (FitsClient) (sym (others_kept p.state act c other.1)) (all c some)
    ]

fit_submits : (run : Setup) (pre : List Act) (s : State) (client : ℕ) (o : Op) → submission (s.clients client) o ≡ None → AllFit s.clients → AllFit (set_client s client (submitted run.limits o (s.clients client))).clients
fit_submits run pre s client o none all c some = elim (eqb_tells c client) [
  | inl same ↦ subst (λ b. FitsClient (if b then submitted run.limits o (s.clients client) else s.clients c)) (sym same.0) refl
  | inr other ↦ subst (λ b. FitsClient (if b then submitted run.limits o (s.clients client) else s.clients c)) (sym other.0) (all c some)
]

pub all_fit : (run : Setup) (journal : List Act) → AllAllowed (at_start run) journal → (line : ℕ) → AllFit (begun_to line (reached run journal)).state.clients
all_fit run journal may line = holds_on run (λ pre s. AllFit s.clients) (fit_submits run) (fit_of_enters run) (λ c some. tt) journal may line

-- an entry that cleans is of a cleaning

read_no_clean : (limits : Limits) (b : Bool) (offset len : ℕ) → IsTrue (is_cleaning (by_limits limits (if b then Answers answer.NoData else Reads offset len))) → ⊥
read_no_clean limits true offset len h = cc
read_no_clean limits false offset len h = cc

pub clean_op : (limits : Limits) (o : Op) → IsTrue (is_cleaning (by_limits limits (profile o).does)) → o ≡ op.Clean
clean_op limits op.Clean h = refl
clean_op limits (op.Read handle offset len) h = absurd (read_no_clean limits _ offset len h)
clean_op limits _ h = absurd (cc)

cleans_step : (start : Start) (alone : Bool) (s : State) (client now : ℕ) (c : ModelClient) (d : Doing) (kind : ActKind) → IsTrue (stage_fits d.does d.stage) → IsTrue (cleans kind) → MayStep start alone s client now c d kind → IsTrue (is_cleaning d.does)
cleans_step start alone s client now c d (Expired sid) h t may = cleaning_fits c d d.stage may.0.k h may.0.stage
cleans_step start alone s client now c d (Purged inode) h t may = cleaning_fits c d d.stage may.0.k h may.0.stage
cleans_step start alone s client now c d (Cleaned table key) h t may = row_cleans s c d table key (table == TABLE_OF_DROPPED) h may
cleans_step start alone s client now c d _ h t may = absurd (cc)

cleans_entry : (run : Setup) (p : Past) (act : Act) → Entry p act → (act.client ≡ NO_CLIENT → ⊥) → (d : Doing) → (p.state.clients act.client).doing ≡ Some d → IsTrue (cleans act.kind) → FitsClient (p.state.clients act.client) → Sound run.limits (p.state.clients act.client).handles (p.state.clients act.client).pending d → d.op ≡ op.Clean
cleans_entry run p act (Steps x e may) some d busy t h ok =
    let same : x ≡ d = cc in
    let fits = subst FitsIf busy h in
    clean_op run.limits d.op (subst (λ does. IsTrue (is_cleaning does)) ok.does (cleans_step p.run.start (p.run.uploads == 0) p.state act.client act.at (p.state.clients act.client) d act.kind fits t
    (subst (λ y. MayStep p.run.start (p.run.uploads == 0) p.state act.client act.at (p.state.clients act.client) y act.kind) same may)))
cleans_entry run p act (RefusedSubmission fault e (RefusesSubmission k)) some d busy t h ok = let off = ap cleans k in absurd (cc)
cleans_entry run p act (RefusedSubmission fault e (RefusalLacks b k)) some d busy t h ok = let off = ap cleans k in absurd (cc)
cleans_entry run p act (LacksMemory e k) some d busy t h ok = let off = ap cleans k in absurd (cc)
cleans_entry run p act (Crashes e k) some d busy t h ok = let off = ap cleans k in absurd (cc)
cleans_entry run p act (Publishes e k) some d busy t h ok = absurd (some e)
cleans_entry run p act (OfDrain client e due k) some d busy t h ok = absurd (some e)
cleans_entry run p act (Ticks by e k) some d busy t h ok = absurd (some e)

pub clean_only : CleansOnlyInClean
clean_only run journal act may some t d busy =
    let parts = AllAllowed-parts (at_start run) journal (act ∷ []) may in
    let b = begun_to act.line (reached run journal) in
    let ok = sound run journal parts.0 act.line act.client some in
    cleans_entry run b act (entry_of b act parts.1.0) some d busy t (all_fit run journal parts.0 act.line act.client some) (subst (SoundIf run.limits (b.state.clients act.client).handles (b.state.clients act.client).pending) busy ok)
