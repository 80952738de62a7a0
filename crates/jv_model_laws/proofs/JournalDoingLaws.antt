-- What an operation in progress has committed, and what is pending where it is answered.
use Rattle.std.proofs.Common.{◌≡◌, ℕ, ◌+◌, ◌-◌, Bool, true, false, ◌&&◌, ◌||◌, not, ◌==◌, nat_le, if◌then◌else◌, IsTrue, MatchBool, inl, inr, List, [], ◌∷◌, ◌++◌, map, is_some, min, Option, None, Some, Result, Ok, Err, refl, sym, ap, subst, ◌∙◌}
use Rattle.std.proofs.Math.Bool.{or-false}
use Rattle.std.proofs.lemmas.Bool.{and_parts, or_left}
use Rattle.std.specs.List.{AllByRecursion}
use Rattle.std.proofs.lemmas.Bool.Decides.{eqb_tells}
use Rattle.jv_model.specs.declared.tables.TheConstants.{TABLE_OF_DEAD, TABLE_OF_DROPPED}
use Rattle.jv_model.specs.declared.act.TheConstants.{NO_CLIENT}
use Rattle.jv_model.specs.declared.act.Act.{Act}
use Rattle.jv_model.specs.declared.act.ActKind.{ActKind}
use Rattle.jv_model.specs.declared.act.ActKind.TheVariants.{Mounted, Meta, Opened, Look, Commit, Truncated, Copied, Compacted, Settled, Expired, Purged, Cleaned, Quiet, Miss, Crashed, Ticked, Answered}
use Rattle.jv_model.specs.declared.act.Told.{Told}
use Rattle.jv_model.specs.declared.act.Told.TheVariants.{Fine, Looks, Refused as ToldRefused}
use Rattle.jv_model.specs.declared.basics.Limits.{Limits}
use Rattle.jv_model.specs.declared.fault.Fault.{Fault}
use Rattle.jv_model.specs.declared.fault.Fault.TheVariants.{NoSpace, Invalid, FileTooLarge, Stale}
use Rattle.jv_model.specs.declared.fault.Gone.TheVariants.{Node}
use Rattle.jv_model.specs.declared.limits.TheConstants.{FILE_END}
use Rattle.jv_model.specs.declared.op.Op.{Op}
use Rattle.jv_model.specs.declared.op.Op.TheVariants as op
use Rattle.jv_model.specs.declared.op.Reply.{Reply}
use Rattle.jv_model.specs.declared.op.Reply.TheVariants as reply
use Rattle.jv_model.specs.declared.profile.Profile.{Profile}
use Rattle.jv_model.specs.declared.profile.Does.{Does}
use Rattle.jv_model.specs.declared.profile.Does.TheVariants.{Answers, Mounts, Transacts, Releases, Reads, Truncates, Copies, Compacts, Cleans as DoesClean, Collects, Uploads}
use Rattle.jv_model.specs.declared.profile.Flushes.TheVariants.{ItsFiles, Everything}
use Rattle.jv_model.specs.promise.tree.Tree.{Tree, Node as TreeNode, Content, node_at, fits}
use Rattle.jv_model.specs.promise.tree.Caller.{Caller, Outcome, outcome, answered, done, in_session}
use Rattle.jv_model.specs.promise.tree.Attempt.{◌>>=◌, require, some_or}
use Rattle.jv_model.specs.promise.tree.TreeAct.{tree_act}
use Rattle.jv_model.specs.promise.tree.Reading.{fstat, attr_of}
use Rattle.jv_model.specs.promise.tree.Sessions.{release, released}
use Rattle.jv_model.specs.promise.tree.FileBytes.{truncate, truncated, copy, copied, copy_bytes, open_content, overlap}
use Rattle.jv_model.specs.promise.client.Pending.{PendingByte, Segment, first_segment, pending_of, without_range}
use Rattle.jv_model.specs.promise.client.Origins.{Owed}
use Rattle.jv_model.specs.promise.client.Profile.{profile, handle_list, handle_of}
use Rattle.jv_model.specs.promise.client.ModelClient.{ModelClient, OpenFile, View, Doing, OfFiles, OfAll, Stage, Cleaning, Sessions, Trash, Files, OneBlock, BlockRemoved, CleaningPart, Working, Reading, Missing, LookedAgain, Compacting, Cleans, Listed, Judged, Removing, Published, Replying, unmounted, with_stage, file_of, inode_in, inode_at, views_without}
use Rattle.jv_model.specs.promise.client.Submission.{submission, submitted, flush_of, by_limits, segment_of_files, is_flushed}
use Rattle.jv_model.specs.promise.journal.State.{removes_block, after_judging, State, Gift, NewSession, NewHandle, Nothing, with_client, set_client, given, replied, transacted, newly_sustained, next_entry, gift_of, after_transaction, is_refused, refusal_in, look_refusal, has_session, quieted, begun_quietly, flushing_on, cleaning_on, looked, compaction_looked, missed, committed_stage, answer_then, reply_of_answer, replaced, after_told, answered_client, is_of_another, after_step, of_doing, changed, effect, view_now, is_compaction, sees_first, first_cleaning}
use Rattle.jv_model.specs.promise.journal.Reading.{asked_parts}
use Rattle.jv_model.specs.promise.journal.Steps.{Start, is_ready, transacts, Transaction, LooksAt, may_read_on, is_missing, CompactionLooks, First, Again, CompactionMisses, MissesBlock, change_entry, cleaning_in, CleansItem, DropsFile, ForgetsSlice, OfOneBlock, OfBlocks, MayStep, MayAnswer, Fails, Decided, AtOnce, CountsCache, ReadsViews, CleanedUp, HasCompacted, HasCollected, HasUploaded, Refuses, EndsCompaction, TooShort, HasReplaced, EndsUpload, Sent, FoundNone, told_of, is_failure, has_judged}
use Rattle.jv_model.specs.promise.journal.Past.{Setup, Past, at_start, begun_to, reached}
use Rattle.jv_model.specs.promise.journal.Legal.{Allowed, AllAllowed, Refuses as RefusesSubmission, LacksMemory as RefusalLacks}
use Rattle.jv_model_laws.specs.Laws.{NothingPending, HasCommitted, flushed_handles, is_fine_answer}
use Rattle.jv_model_laws.proofs.JournalGrowthLaws.{AllAllowed-parts, own_client, others_kept}
use Rattle.jv_model_laws.proofs.JournalStateLaws.{Entry, Steps, RefusedSubmission, LacksMemory, Crashes, Publishes, OfDrain, Ticks, entry_of, holds_on, of_kind}
pub use Rattle.jv_model.proofs.ClientsLaws.{doing_given}
use Rattle.jv_model.proofs.PendingLaws.{no_first_segment}

-- tests

-- a stage, with what its operation does, and whether all that had to be committed is

abbrev pub IsFineReply : Does → Reply → Type 0
IsFineReply (Answers told) r = reply_of_answer told ≡ Some r
IsFineReply (Reads offset len) r = ⊥
IsFineReply DoesClean r = ⊥
IsFineReply Uploads r = ⊥
IsFineReply _ r = Unit {0}

pub data MayReply (does : Does) (flushed : Bool) (r : Reply) : Type 0 where
  IsRefusedReply : IsTrue (is_refused r) → MayReply does flushed r
  IsDoneReply : IsTrue flushed → IsFineReply does r → MayReply does flushed r

abbrev pub StageOk : Does → Bool → Stage → Type 0
StageOk does flushed (Working quiets started) = Unit {0}
StageOk does flushed (Replying r) = MayReply does flushed r
StageOk does flushed _ = IsTrue flushed

-- an operation in progress, with its client's handles and pending bytes
pub record Sound (limits : Limits) (handles : List (Option OpenFile)) (pending : List PendingByte) (d : Doing) : Type 0 where
  pub does : d.does ≡ by_limits limits (profile d.op).does
  pub files : (profile d.op).flushes ≡ ItsFiles → d.flush ≡ OfFiles (map (λ handle. inode_in (file_of handles handle)) (handle_list (profile d.op).handles))
  pub all : (profile d.op).flushes ≡ Everything → d.flush ≡ OfAll
  pub stage : StageOk d.does (is_flushed d.flush pending) d.stage

abbrev pub SoundIf : Limits → List (Option OpenFile) → List PendingByte → Option Doing → Type 0
SoundIf limits handles pending None = Unit {0}
SoundIf limits handles pending (Some d) = Sound limits handles pending d

abbrev pub SoundClient : Limits → ModelClient → Type 0
SoundClient limits c = SoundIf limits c.handles c.pending c.doing

abbrev staged : Stage → Doing → Doing
staged stage d = record d { stage = stage; moved = true }

sound_staged : (limits : Limits) (stage : Stage) (c : ModelClient) (d : Doing) (o : Option Doing) → o ≡ Some d → Sound limits c.handles c.pending (staged stage d)
    → SoundClient limits (elim o as (λ _. ModelClient) [ None ↦ c | Some x ↦ record c { doing = Some (record x { stage = stage; moved = true }) } ])
sound_staged limits stage c d None e h = absurd (cc)
sound_staged limits stage c d (Some x) e h = let same : d ≡ x = cc in subst (λ (y : Doing). Sound limits c.handles c.pending (staged stage y)) same h

sound_stage : (limits : Limits) (stage : Stage) (c : ModelClient) (d : Doing) → c.doing ≡ Some d → Sound limits c.handles c.pending (staged stage d) → SoundClient limits (with_stage stage c)
sound_stage limits stage c d e h = sound_staged limits stage c d c.doing e h

-- the same handles, and another stage
restaged : (limits : Limits) (handles : List (Option OpenFile)) (pending more : List PendingByte) (d : Doing) (stage : Stage) → Sound limits handles pending d → StageOk d.does (is_flushed d.flush more) stage → Sound limits handles more (staged stage d)
restaged limits handles pending more d stage h ok = record { does = h.does; files = h.files; all = h.all; stage = ok }

-- stages that follow

refused_if : (a b : Bool) (f g : Fault) (r : Reply) → ◌≡◌ {A = Option Reply} (if a then Some (reply.Refused f) else if b then None else Some (reply.Refused g)) (Some r) → IsTrue (is_refused r)
refused_if true b f g r e = let same : reply.Refused f ≡ r = cc in subst (λ x. IsTrue (is_refused x)) same refl
refused_if false true f g r e = absurd (cc)
refused_if false false f g r e = let same : reply.Refused g ≡ r = cc in subst (λ x. IsTrue (is_refused x)) same refl

look_refused : (t : Tree) (c : ModelClient) (inode : ℕ) (r : Reply) → look_refusal t c inode ≡ Some r → IsTrue (is_refused r)
look_refused t c inode r e = refused_if _ _ _ _ r e

module _ (does : Does) (flushed : Bool) where
  abbrev Good : Stage → Type 0
  Good stage = StageOk does flushed stage

  ok_refused : (stage : Stage) (o : Option Reply) → ((r : Reply) → o ≡ Some r → IsTrue (is_refused r)) → Good stage → Good (elim o [ None ↦ stage | Some answer ↦ Replying answer ])
  ok_refused stage None f h = h
  ok_refused stage (Some r) f h = IsRefusedReply (f r refl)

  ok_if : (b : Bool) (x y : Stage) → Good x → Good y → Good (if b then x else y)
  ok_if true x y h g = h
  ok_if false x y h g = g

  ok_looked : (stage : Stage) → (IsTrue flushed) → Good stage → Good (looked stage)
  ok_looked (Working quiets started) f h = f
  ok_looked (Reading misses) f h = f
  ok_looked (Missing misses window owed) f h = f
  ok_looked (LookedAgain misses window owed) f h = f
  ok_looked (Compacting k) f h = f
  ok_looked (Cleans k) f h = f
  ok_looked Listed f h = f
  ok_looked Judged f h = f
  ok_looked (Removing requests) f h = f
  ok_looked Published f h = f
  ok_looked (Replying r) f h = h

  ok_compaction : (view : View) (stage : Stage) → IsTrue flushed → Good (compaction_looked view stage)
  ok_compaction view (Compacting k) f = f
  ok_compaction view _ f = f

  ok_missed : (window : ℕ) (owed : List Owed) (stage : Stage) → IsTrue flushed → Good stage → Good (missed window owed stage)
  ok_missed window owed (Working quiets started) f h = f
  ok_missed window owed (Reading misses) f h = f
  ok_missed window owed (Missing misses at before) f h = f
  ok_missed window owed (LookedAgain misses at before) f h = f
  ok_missed window owed (Compacting k) f h = f
  ok_missed window owed (Cleans k) f h = f
  ok_missed window owed Listed f h = f
  ok_missed window owed Judged f h = f
  ok_missed window owed (Removing requests) f h = f
  ok_missed window owed Published f h = f
  ok_missed window owed (Replying r) f h = h

  ok_replaced : (stage : Stage) → Good stage → Good (replaced stage)
  ok_replaced (Compacting k) h = h
  ok_replaced (Working quiets started) h = h
  ok_replaced (Reading misses) h = h
  ok_replaced (Missing misses at before) h = h
  ok_replaced (LookedAgain misses at before) h = h
  ok_replaced (Cleans k) h = h
  ok_replaced Listed h = h
  ok_replaced Judged h = h
  ok_replaced (Removing requests) h = h
  ok_replaced Published h = h
  ok_replaced (Replying r) h = h

refusal_refused : (r : Reply) (b : Bool) → is_refused r ≡ b → IsTrue (is_refused (elim b [ true ↦ r | false ↦ reply.Refused NoSpace ]))
refusal_refused r true e = e
refusal_refused r false e = refl

module _ (s : State) (client : ℕ) (c : ModelClient) (now : ℕ) (d : Doing) where
  abbrev F : Bool
  F = is_flushed d.flush c.pending

  ok_cleaning : (k : Cleaning) → IsTrue F → StageOk d.does F (cleaning_on s c k)
  ok_cleaning k f = ok_if d.does F (has_session s.tree c || removes_block k.part) _ _ f (IsRefusedReply refl)

  ok_tree_refusal : StageOk d.does F (Replying (refusal_in (transacted s client now d.op).reply))
  ok_tree_refusal = IsRefusedReply (refusal_refused (transacted s client now d.op).reply (is_refused (transacted s client now d.op).reply) refl)

  ok_begun : (does : Does) → IsTrue F → StageOk d.does F d.stage → StageOk d.does F (begun_quietly s client c now d does)
  ok_begun (Answers told) f h = h
  ok_begun (Mounts writeback) f h = h
  ok_begun Transacts f h = h
  ok_begun Releases f h = h
  ok_begun (Reads offset len) f h = ok_if d.does F (sees_first c d (asked_parts offset len)) _ _ f (ok_refused d.does F d.stage _ (look_refused s.tree c _) h)
  ok_begun Truncates f h = ok_tree_refusal
  ok_begun Copies f h = ok_tree_refusal
  ok_begun (Compacts None) f h = ok_tree_refusal
  ok_begun (Compacts (Some inode)) f h = ok_refused d.does F d.stage _ (look_refused s.tree c _) h
  ok_begun DoesClean f h = ok_cleaning first_cleaning f
  ok_begun (Collects delete) f h = f
  ok_begun Uploads f h = f

  ok_flushing : (quiets started : ℕ) → StageOk d.does F (flushing_on s c now quiets started)
  ok_flushing quiets started = ok_if d.does F (quiets == 0) _ _ (ok_if d.does F (has_session s.tree c) _ _ tt (IsRefusedReply refl)) (ok_if d.does F (quiets == 1) (Working 2 now) (Working (quiets + 1) started) tt tt)

  ok_working : (b : Bool) (x y : Stage) → F ≡ b → (IsTrue F → StageOk d.does F x) → StageOk d.does F y → StageOk d.does F (if b then x else y)
  ok_working true x y e h g = h e
  ok_working false x y e h g = g

  ok_judging : (does : Does) → IsTrue F → StageOk d.does F (after_judging does)
  ok_judging (Collects true) f = f
  ok_judging _ f = f

  ok_quieted : (stage : Stage) → StageOk d.does F d.stage → StageOk d.does F stage → StageOk d.does F (quieted s client c now d stage)
  ok_quieted (Working quiets started) all h = ok_working F _ _ refl (λ f. ok_begun d.does f all) (ok_flushing quiets started)
  ok_quieted (Reading misses) all h = h
  ok_quieted (Missing misses window owed) all h = ok_refused d.does F (Missing misses window owed) _ (look_refused s.tree c _) h
  ok_quieted (LookedAgain misses window owed) all h = h
  ok_quieted (Compacting k) all h = ok_if d.does F (is_some k.missed) _ _ (ok_refused d.does F (Compacting k) _ (look_refused s.tree c _) h) h
  ok_quieted (Cleans k) all h = ok_cleaning k h
  ok_quieted Listed all h = ok_if d.does F (has_session s.tree c) _ _ h (IsRefusedReply refl)
  ok_quieted Judged all h = ok_judging d.does h
  ok_quieted (Removing requests) all h = h
  ok_quieted Published all h = h
  ok_quieted (Replying answer) all h = h

-- what an entry of an operation needs committed

abbrev with_doing_stage : Doing → Stage → Doing
with_doing_stage d stage = record d { stage = stage }

ready_flushed : (c : ModelClient) (d : Doing) → IsTrue (is_ready c d) → IsTrue (is_flushed d.flush c.pending)
ready_flushed c d h = (and_parts _ _ h).1

reading_flushed : (c : ModelClient) (d : Doing) (stage : Stage) → StageOk d.does (is_flushed d.flush c.pending) stage → IsTrue (may_read_on c (with_doing_stage d stage) || is_missing stage) → IsTrue (is_flushed d.flush c.pending)
reading_flushed c d (Working quiets started) ok h = ready_flushed c (with_doing_stage d (Working quiets started)) (sym (or-false _) ∙ h)
reading_flushed c d (Reading misses) ok h = ok
reading_flushed c d (Missing misses window owed) ok h = ok
reading_flushed c d (LookedAgain misses window owed) ok h = ok
reading_flushed c d (Compacting k) ok h = ok
reading_flushed c d (Cleans k) ok h = ok
reading_flushed c d Listed ok h = ok
reading_flushed c d Judged ok h = ok
reading_flushed c d (Removing requests) ok h = ok
reading_flushed c d Published ok h = ok
reading_flushed c d (Replying r) ok h = absurd (cc)

pub cleaning_branch : (b : Bool) (k : Cleaning) → ◌≡◌ {A = Option Cleaning} (if b then Some first_cleaning else None) (Some k) → IsTrue b
cleaning_branch true k e = refl
cleaning_branch false k e = absurd (cc)

cleaning_flushed : (c : ModelClient) (d : Doing) (stage : Stage) (k : Cleaning) → StageOk d.does (is_flushed d.flush c.pending) stage → cleaning_in c (with_doing_stage d stage) ≡ Some k → IsTrue (is_flushed d.flush c.pending)
cleaning_flushed c d (Working quiets started) k ok e = ready_flushed c (with_doing_stage d (Working quiets started)) (and_parts _ _ (cleaning_branch _ k e)).0
cleaning_flushed c d (Reading misses) k ok e = ok
cleaning_flushed c d (Missing misses window owed) k ok e = ok
cleaning_flushed c d (LookedAgain misses window owed) k ok e = ok
cleaning_flushed c d (Compacting k') k ok e = ok
cleaning_flushed c d (Cleans k') k ok e = ok
cleaning_flushed c d Listed k ok e = ok
cleaning_flushed c d Judged k ok e = ok
cleaning_flushed c d (Removing requests) k ok e = ok
cleaning_flushed c d Published k ok e = ok
cleaning_flushed c d (Replying r) k ok e = absurd (cc)

pub stage_flushed : (c : ModelClient) (d : Doing) (stage : Stage) → StageOk d.does (is_flushed d.flush c.pending) d.stage → d.stage ≡ stage → StageOk d.does (is_flushed d.flush c.pending) stage
stage_flushed c d stage ok e = subst (StageOk d.does (is_flushed d.flush c.pending)) e ok

module _ (s : State) (client now : ℕ) (start : Start) (c : ModelClient) (d : Doing) (ok : StageOk d.does (is_flushed d.flush c.pending) d.stage) where
  compaction_flushed : (inode window : ℕ) → CompactionLooks s client now c d inode window → IsTrue (is_flushed d.flush c.pending)
  compaction_flushed inode window (First ready e) = ready_flushed c d ready
  compaction_flushed inode window (Again k e a b g h i) = stage_flushed c d (Compacting k) ok e

  look_flushed : (inode window : ℕ) (compacts : Bool) → MatchBool compacts (CompactionLooks s client now c d inode window) (LooksAt s c d inode window) → IsTrue (is_flushed d.flush c.pending)
  look_flushed inode window true h = compaction_flushed inode window h
  look_flushed inode window false h = reading_flushed c d d.stage ok h.goes_on

  miss_flushed : (inode window : ℕ) (compacts : Bool) → MatchBool compacts (CompactionMisses start s client d inode window) (MissesBlock start s client c d inode window) → IsTrue (is_flushed d.flush c.pending)
  miss_flushed inode window true h = stage_flushed c d (Compacting h.k) ok h.stage
  miss_flushed inode window false h = reading_flushed c d d.stage ok (or_left _ _ h.goes_on)

  item_flushed : (part : CleaningPart) → CleansItem s c d part → IsTrue (is_flushed d.flush c.pending)
  item_flushed part h = cleaning_flushed c d d.stage h.k ok h.stage

  forget_flushed : ForgetsSlice s c d → IsTrue (is_flushed d.flush c.pending)
  forget_flushed (OfOneBlock item) = item_flushed OneBlock item
  forget_flushed (OfBlocks item) = item_flushed BlockRemoved item

  row_flushed : (table key : ℕ) (b : Bool) → MatchBool b (CleansItem s c d Files × DropsFile s key) ((table ≡ TABLE_OF_DEAD) × ForgetsSlice s c d) → IsTrue (is_flushed d.flush c.pending)
  row_flushed table key true h = item_flushed Files h.0
  row_flushed table key false h = forget_flushed h.1

-- transactions

fine_transacts : (c : ModelClient) (d : Doing) (does : Does) (r : Reply) → IsTrue (transacts c (record d { does = does })) → IsFineReply does r
fine_transacts c d (Answers told) r h = absurd (cc)
fine_transacts c d (Reads offset len) r h = absurd (cc)
fine_transacts c d (Mounts writeback) r h = tt
fine_transacts c d Transacts r h = tt
fine_transacts c d Releases r h = tt
fine_transacts c d Truncates r h = tt
fine_transacts c d Copies r h = tt
fine_transacts c d (Compacts inode) r h = tt
fine_transacts c d DoesClean r h = absurd (cc)
fine_transacts c d (Collects delete) r h = tt
fine_transacts c d Uploads r h = absurd (cc)

abbrev IsGiftless : Tree → Result Outcome Fault → Type 0
IsGiftless t r = gift_of (outcome t r).reply ≡ Nothing

giftless_then : {A : Type 0} (t : Tree) (r : Result A Fault) (next : A → Result Outcome Fault) → ((x : A) → IsGiftless t (next x)) → IsGiftless t (r >>= next)
giftless_then t (Ok x) next h = h x
giftless_then t (Err fault) next h = refl

giftless_fstat : (t : Tree) (who : Caller) → IsGiftless t (fstat t who)
unfolding fstat
giftless_fstat t who = giftless_then {A = Unit {0}} t (in_session t who) (λ _. some_or (node_at t who.inode) (Stale (Node who.inode)) >>= (λ node. answered t (reply.Described (attr_of t who.inode node))))
    (λ _. giftless_then {A = TreeNode} t (some_or (node_at t who.inode) (Stale (Node who.inode))) (λ node. answered t (reply.Described (attr_of t who.inode node))) (λ node. refl))

giftless_release : (t : Tree) (who : Caller) → IsGiftless t (release t who)
unfolding release
giftless_release t who = giftless_then {A = Unit {0}} t (in_session t who) (λ _. done (released t who.sid who.inode)) (λ _. refl)

giftless_truncate : (t : Tree) (who : Caller) (len : ℕ) → IsGiftless t (truncate t who len)
unfolding truncate
giftless_truncate t who len =
    let tree = truncated t who.now who.inode len in
    let last : Unit {0} → Result Outcome Fault = λ _. done tree in
    let third : Unit {0} → Result Outcome Fault = λ _. require (fits t tree) NoSpace >>= last in
    let second : Content → Result Outcome Fault = λ _. require (nat_le len FILE_END) FileTooLarge >>= third in
    let first : Unit {0} → Result Outcome Fault = λ _. open_content t who.inode >>= second in
    giftless_then {A = Unit {0}} t (in_session t who) first (λ _. giftless_then {A = Content} t (open_content t who.inode) second (λ _. giftless_then {A = Unit {0}} t (require (nat_le len FILE_END) FileTooLarge) third
    (λ _. giftless_then {A = Unit {0}} t (require (fits t tree) NoSpace) last (λ _. refl))))

giftless_copy_bytes : (t : Tree) (who : Caller) (from to len : ℕ) → IsGiftless t (copy_bytes t who from to len)
giftless_copy_bytes t who from to len =
    let tree = copied t who.now who.inode from who.other to len in
    let last : Unit {0} → Result Outcome Fault = λ _. answered tree (reply.Count len) in
    let third : Unit {0} → Result Outcome Fault = λ _. require (fits t tree) NoSpace >>= last in
    let second : Unit {0} → Result Outcome Fault = λ _. require (nat_le (to + len) FILE_END) FileTooLarge >>= third in
    giftless_then {A = Unit {0}} t (require (not ((who.inode == who.other) && overlap from to len)) Invalid) second (λ _. giftless_then {A = Unit {0}} t (require (nat_le (to + len) FILE_END) FileTooLarge) third
    (λ _. giftless_then {A = Unit {0}} t (require (fits t tree) NoSpace) last (λ _. refl)))

giftless_copy : (t : Tree) (who : Caller) (from to len : ℕ) → IsGiftless t (copy t who from to len)
unfolding copy
giftless_copy t who from to len =
    let third : Content → Content → Result Outcome Fault = λ source _. copy_bytes t who from to (min len (source.length - from)) in
    let second : Content → Result Outcome Fault = λ source. open_content t who.other >>= third source in
    let first : Unit {0} → Result Outcome Fault = λ _. open_content t who.inode >>= second in
    giftless_then {A = Unit {0}} t (in_session t who) first (λ _. giftless_then {A = Content} t (open_content t who.inode) second (λ source. giftless_then {A = Content} t (open_content t who.other) (third source)
    (λ _. giftless_copy_bytes t who from to (min len (source.length - from)))))

-- an operation that commits the files of its handles opens none
giftless : (t : Tree) (who : Caller) (o : Op) → (profile o).flushes ≡ ItsFiles → gift_of (tree_act t who o).reply ≡ Nothing
giftless t who (op.Fstat handle) e = giftless_fstat t who
giftless t who (op.Close handle) e = giftless_release t who
giftless t who (op.Flush handle) e = refl
giftless t who (op.Read handle offset len) e = refl
giftless t who (op.Truncate handle len) e = giftless_truncate t who len
giftless t who (op.Copy source from target to len) e = giftless_copy t who from to len
giftless t who _ e = absurd (cc)

abbrev files_of : List (Option OpenFile) → Doing → Type 0
files_of handles d = (profile d.op).flushes ≡ ItsFiles → d.flush ≡ OfFiles (map (λ handle. inode_in (file_of handles handle)) (handle_list (profile d.op).handles))

handles_given : (entry : ℕ) (does : Does) (gift : Gift) (c : ModelClient) → gift ≡ Nothing → (given entry does gift c).handles ≡ c.handles
handles_given entry does gift c e = ap (λ g. (given entry does g c).handles) e

pending_given : (entry : ℕ) (does : Does) (gift : Gift) (c : ModelClient) → (given entry does gift c).pending ≡ c.pending
pending_given entry does (NewSession sid) c = refl
pending_given entry does (NewHandle handle inode) c = refl
pending_given entry does Nothing c = refl

sound_given : (limits : Limits) (entry : ℕ) (c : ModelClient) (d : Doing) (r : Reply) → c.doing ≡ Some d → Sound limits c.handles c.pending d → IsTrue (is_flushed d.flush c.pending) → IsFineReply d.does r → ((profile d.op).flushes ≡ ItsFiles → gift_of r ≡ Nothing)
    → SoundClient limits (with_stage (Replying r) (given entry d.does (gift_of r) c))
sound_given limits entry c d r e h flushed fine none =
    let g = given entry d.does (gift_of r) c in
    sound_stage limits (Replying r) g d (doing_given entry d.does (gift_of r) c ∙ e) (record {
      does = h.does;
      files = λ its. h.files its ∙ ap (λ hs. OfFiles (map (λ handle. inode_in (file_of hs handle)) (handle_list (profile d.op).handles))) (sym (handles_given entry d.does (gift_of r) c (none its)));
      all = h.all;
      stage = IsDoneReply (subst (λ bs. IsTrue (is_flushed d.flush bs)) (sym (pending_given entry d.does (gift_of r) c)) flushed) fine;
    })

-- commits

answer_branch : (does : Does) (flushed : Bool) (o : Option Reply) → ((r : Reply) → o ≡ Some r → IsFineReply does r) → StageOk does flushed (if flushed then elim o [ None ↦ Working 0 0 | Some answer ↦ Replying answer ] else Working 0 0)
answer_branch does true None f = tt
answer_branch does true (Some r) f = IsDoneReply refl (f r refl)
answer_branch does false o f = tt

answer_fine : (c : ModelClient) (d : Doing) (does : Does) (r : Reply) → answer_then c (record d { does = does }) ≡ Some r → IsFineReply does r
answer_fine c d (Answers told) r e = e
answer_fine c d (Reads offset len) r e = absurd (cc)
answer_fine c d (Mounts writeback) r e = tt
answer_fine c d Transacts r e = tt
answer_fine c d Releases r e = tt
answer_fine c d Truncates r e = tt
answer_fine c d Copies r e = tt
answer_fine c d (Compacts inode) r e = tt
answer_fine c d DoesClean r e = absurd (cc)
answer_fine c d (Collects delete) r e = tt
answer_fine c d Uploads r e = absurd (cc)

-- changes of a file

fine_change : (limits : Limits) (c : ModelClient) (o : Op) (tree_reply : Reply) (kind : ActKind) (r : Reply) (does : Does) → does ≡ by_limits limits (profile o).does → change_entry c o tree_reply ≡ Some kind → IsFineReply does r
fine_change limits c (op.Truncate handle len) tree_reply kind r does e h = subst (λ x. IsFineReply x r) (sym e) tt
fine_change limits c (op.Copy source from target to len) tree_reply kind r does e h = subst (λ x. IsFineReply x r) (sym e) tt
fine_change limits c _ tree_reply kind r does e h = absurd (cc)

-- entries

abbrev AllSound : Limits → (ℕ → ModelClient) → Type 0
AllSound limits clients = (c : ℕ) → (c ≡ NO_CLIENT → ⊥) → SoundClient limits (clients c)

own_sound : (limits : Limits) (clients : ℕ → ModelClient) (at : ℕ) (c : ModelClient) → SoundClient limits c → SoundClient limits (with_client clients at c at)
own_sound limits clients at c h = subst (SoundClient limits) (sym (own_client clients at c)) h

module _ (limits : Limits) (start : Start) (alone : Bool) (s : State) (act : Act) (d : Doing) (busy : (s.clients act.client).doing ≡ Some d) (h : Sound limits (s.clients act.client).handles (s.clients act.client).pending d) where
  abbrev c : ModelClient
  c = s.clients act.client

  abbrev Next : ActKind → Type 0
  Next kind = MayStep start alone s act.client act.at c d kind → SoundClient limits ((after_step s act d kind).clients act.client)

  own_stage : (stage : Stage) → StageOk d.does (is_flushed d.flush c.pending) stage → SoundClient limits (with_client s.clients act.client (with_stage stage c) act.client)
  own_stage stage ok = own_sound limits s.clients act.client (with_stage stage c) (sound_stage limits stage c d busy (restaged limits c.handles c.pending c.pending d stage h ok))

  own_viewed : (stage : Stage) (views : List View) → StageOk d.does (is_flushed d.flush c.pending) stage → SoundClient limits (with_client s.clients act.client (with_stage stage (record c { views = views })) act.client)
  own_viewed stage views ok = own_sound limits s.clients act.client (with_stage stage (record c { views = views })) (sound_stage limits stage (record c { views = views }) d busy (restaged limits c.handles c.pending c.pending d stage h ok))

  own_transaction : (kind : ActKind) → Transaction s act.client act.at c d kind → SoundClient limits ((after_transaction s act.client act.at d).clients act.client)
  own_transaction kind may =
      let done = transacted s act.client act.at d.op in
      let sustained : List ℕ = newly_sustained s.tree done.tree c ++ c.sustained in
      own_sound limits s.clients act.client (replied (next_entry s) d.does done.reply (record c { sustained = sustained }))
      (sound_given limits (next_entry s) (record c { sustained = sustained }) d done.reply busy h (ready_flushed c d may.ready) (fine_transacts c d d.does done.reply may.transacts) (giftless s.tree _ d.op))

  own_look : (inode window : ℕ) (compacts : Bool) → IsTrue (is_flushed d.flush c.pending) → SoundClient limits (with_client s.clients act.client (if compacts
      then with_stage (compaction_looked (view_now s 0 inode window) d.stage) c
      else with_stage (looked d.stage) (record c { views = view_now s (handle_of d.op) inode window ∷ c.views })) act.client)
  own_look inode window true f = own_stage _ (ok_compaction d.does (is_flushed d.flush c.pending) _ d.stage f)
  own_look inode window false f = own_viewed _ _ (ok_looked d.does (is_flushed d.flush c.pending) d.stage f h.stage)

  own_commit : (inode from len : ℕ) → SoundClient limits (with_client s.clients act.client (with_stage (committed_stage (record c { pending = without_range inode from len c.pending; views = views_without inode c.views }) d) (record c { pending = without_range inode from len c.pending; views = views_without inode c.views })) act.client)
  own_commit inode from len =
      let rest : ModelClient = record c { pending = without_range inode from len c.pending; views = views_without inode c.views } in
      own_sound limits s.clients act.client (with_stage (committed_stage rest d) rest)
      (sound_stage limits (committed_stage rest d) rest d busy (restaged limits c.handles c.pending rest.pending d (committed_stage rest d) h
      (answer_branch d.does (is_flushed d.flush rest.pending) (answer_then rest d) (λ r. answer_fine rest d d.does r))))

  own_step : (kind : ActKind) → Next kind
  own_step (Mounted sid) may = own_transaction (Mounted sid) may
  own_step Meta may = own_transaction Meta may
  own_step (Opened handle inode) may = own_transaction (Opened handle inode) may
  own_step (Look inode window) may = own_look inode window (is_compaction d.does) (look_flushed s act.client act.at start c d h.stage inode window (is_compaction d.does) may)
  own_step (Commit inode from len left) may = own_commit inode from len
  own_step (Truncated inode len) may = own_viewed (Replying reply.Done) _ (IsDoneReply (ready_flushed c d may.ready) (fine_change limits c d.op _ _ reply.Done d.does h.does may.same))
  own_step (Copied source from target to len) may = own_viewed (Replying (reply.Count len)) _ (IsDoneReply (ready_flushed c d may.ready) (fine_change limits c d.op _ _ (reply.Count len) d.does h.does may.same))
  own_step (Compacted inode window from to) may = own_stage _ (ok_replaced d.does (is_flushed d.flush c.pending) d.stage h.stage)
  own_step (Settled commit) may = own_stage _ (ok_quieted s act.client c act.at d d.stage h.stage h.stage)
  own_step (Expired sid) may = own_stage (Cleans _) (item_flushed s act.client act.at start c d h.stage Sessions may.0)
  own_step (Purged inode) may = own_stage (Cleans _) (item_flushed s act.client act.at start c d h.stage Trash may.0)
  own_step (Cleaned table key) may = own_stage (Cleans _) (row_flushed s act.client act.at start c d h.stage table key (table == TABLE_OF_DROPPED) may)
  own_step Quiet may = own_stage _ (ok_quieted s act.client c act.at d d.stage h.stage h.stage)
  own_step (Miss inode window) may = own_stage _ (ok_missed d.does (is_flushed d.flush c.pending) window s.owed d.stage (miss_flushed s act.client act.at start c d h.stage inode window (is_compaction d.does) may) h.stage)
  own_step Crashed may = absurd may
  own_step (Ticked by) may = absurd may
  own_step (Answered told) may = subst (SoundIf limits c.handles c.pending) (sym busy) h

-- answers

sound_told : (limits : Limits) (o : Op) (told : Told) (c : ModelClient) → SoundClient limits (after_told o told c)
sound_told limits o (Fine a b e f) c = tt
sound_told limits o (Looks first second len) c = tt
sound_told limits o (ToldRefused fault) c = tt

sound_either : (limits : Limits) (b : Bool) (c d : ModelClient) → SoundClient limits c → SoundClient limits d → SoundClient limits (if b then c else d)
sound_either limits true c d h g = h
sound_either limits false c d h g = g

sound_answered_if : (limits : Limits) (c : ModelClient) (told : Told) (o : Option Doing) → SoundClient limits c → SoundClient limits (elim o as (λ _. ModelClient) [ None ↦ c | Some d ↦ (if is_of_another d.stage told then c else after_told d.op told c) ])
sound_answered_if limits c told None h = h
sound_answered_if limits c told (Some d) h = sound_either limits (is_of_another d.stage told) c (after_told d.op told c) h (sound_told limits d.op told c)

sound_answered : (limits : Limits) (c : ModelClient) (told : Told) → SoundClient limits c → SoundClient limits (answered_client told c)
sound_answered limits c told h = sound_answered_if limits c told c.doing h

-- an entry of a client

sound_doing : (limits : Limits) (start : Start) (alone : Bool) (s : State) (act : Act) (o : Option Doing) → (s.clients act.client).doing ≡ o → SoundClient limits (s.clients act.client) → (d : Doing) → o ≡ Some d
    → MayStep start alone s act.client act.at (s.clients act.client) d act.kind → SoundClient limits ((of_doing s act o).clients act.client)
sound_doing limits start alone s act None e h d is may = absurd (cc)
sound_doing limits start alone s act (Some x) e h d is may =
    let same : d ≡ x = cc in
    own_step limits start alone s act x e (subst (SoundIf limits (s.clients act.client).handles (s.clients act.client).pending) e h) act.kind
    (subst (λ y. MayStep start alone s act.client act.at (s.clients act.client) y act.kind) same may)

sound_changed : (limits : Limits) (start : Start) (alone : Bool) (s : State) (act : Act) (kind : ActKind) (d : Doing) → SoundClient limits (s.clients act.client) → (s.clients act.client).doing ≡ Some d
    → MayStep start alone s act.client act.at (s.clients act.client) d kind → SoundClient limits ((changed s (of_kind act kind) kind).clients act.client)
sound_changed limits start alone s act Crashed d h e may = absurd may
sound_changed limits start alone s act (Answered told) d h e may = own_sound limits s.clients act.client _ (sound_answered limits (s.clients act.client) told h)
sound_changed limits start alone s act kind d h e may = sound_doing limits start alone s (of_kind act kind) (s.clients act.client).doing refl h d e may

sound_told_entry : (limits : Limits) (s : State) (act : Act) (told : Told) (kind : ActKind) → kind ≡ Answered told → SoundClient limits (s.clients act.client) → SoundClient limits ((effect s (of_kind act kind)).clients act.client)
sound_told_entry limits s act told kind e h = subst (λ k. SoundClient limits ((effect s (of_kind act k)).clients act.client)) (sym e) (own_sound limits s.clients act.client (answered_client told (s.clients act.client)) (sound_answered limits (s.clients act.client) told h))

sound_crash : (limits : Limits) (s : State) (act : Act) (kind : ActKind) → kind ≡ Crashed → SoundClient limits ((effect s (of_kind act kind)).clients act.client)
sound_crash limits s act kind e = subst (λ k. SoundClient limits ((effect s (of_kind act k)).clients act.client)) (sym e) (own_sound limits s.clients act.client unmounted tt)

sound_own : (limits : Limits) (p : Past) (act : Act) → Entry p act → (act.client ≡ NO_CLIENT → ⊥) → SoundClient limits (p.state.clients act.client) → SoundClient limits ((effect p.state act).clients act.client)
sound_own limits p act (Steps d e may) some h = sound_changed limits p.run.start (p.run.uploads == 0) p.state act act.kind d h e may
sound_own limits p act (RefusedSubmission fault e (RefusesSubmission k)) some h = sound_told_entry limits p.state act _ act.kind k h
sound_own limits p act (RefusedSubmission fault e (RefusalLacks b k)) some h = sound_told_entry limits p.state act _ act.kind k h
sound_own limits p act (LacksMemory e k) some h = sound_told_entry limits p.state act _ act.kind k h
sound_own limits p act (Crashes e k) some h = sound_crash limits p.state act act.kind k
sound_own limits p act (Publishes e k) some h = absurd (some e)
sound_own limits p act (OfDrain client e due k) some h = absurd (some e)
sound_own limits p act (Ticks by e k) some h = absurd (some e)

sound_enters : (run : Setup) (pre : List Act) (act : Act) → Allowed (begun_to act.line (reached run pre)) act → AllSound run.limits (begun_to act.line (reached run pre)).state.clients → AllSound run.limits (effect (begun_to act.line (reached run pre)).state act).clients
sound_enters run pre act may all c some =
    let p = begun_to act.line (reached run pre) in
    elim (eqb_tells c act.client) [
      | inl own ↦ subst (λ q. SoundClient run.limits ((effect p.state act).clients q)) (sym own.1) (sound_own run.limits p act (entry_of p act may) (λ e. some (own.1 ∙ e)) (all act.client (λ e. some (own.1 ∙ e))))
      | inr other ↦ subst (SoundClient run.limits) (sym (others_kept p.state act c other.1)) (all c some)
    ]

-- lines

flushes_files : (buffer : ℕ) (c : ModelClient) (row : Profile) → row.flushes ≡ ItsFiles → flush_of buffer c row ≡ OfFiles (map (inode_at c) (handle_list row.handles))
flushes_files buffer c row e = ap (λ f. flush_of buffer c (record row { flushes = f })) e

flushes_all : (buffer : ℕ) (c : ModelClient) (row : Profile) → row.flushes ≡ Everything → flush_of buffer c row ≡ OfAll
flushes_all buffer c row e = ap (λ f. flush_of buffer c (record row { flushes = f })) e

sound_submitted : (limits : Limits) (o : Op) (c : ModelClient) → SoundClient limits (submitted limits o c)
sound_submitted limits o c = record {
  does = refl;
  files = λ e. flushes_files limits.buffer c (profile o) e;
  all = λ e. flushes_all limits.buffer c (profile o) e;
  stage = tt;
}

sound_submits : (run : Setup) (pre : List Act) (s : State) (client : ℕ) (o : Op) → submission (s.clients client) o ≡ None → AllSound run.limits s.clients → AllSound run.limits (set_client s client (submitted run.limits o (s.clients client))).clients
sound_submits run pre s client o none all c some = elim (eqb_tells c client) [
  | inl same ↦ subst (λ b. SoundClient run.limits (if b then submitted run.limits o (s.clients client) else s.clients c)) (sym same.0) (sound_submitted run.limits o (s.clients client))
  | inr other ↦ subst (λ b. SoundClient run.limits (if b then submitted run.limits o (s.clients client) else s.clients c)) (sym other.0) (all c some)
]

pub sound : (run : Setup) (journal : List Act) → AllAllowed (at_start run) journal → (line : ℕ) → AllSound run.limits (begun_to line (reached run journal)).state.clients
sound run journal may line = holds_on run (λ pre s. AllSound run.limits s.clients) (sound_submits run) (sound_enters run) (λ c some. tt) journal may line

-- what is committed where an operation is done

pub fine_not_failure : (told : Told) → IsTrue (is_fine_answer (Answered told)) → IsTrue (is_failure told) → ⊥
fine_not_failure (Fine a b c d) fine h = cc
fine_not_failure (Looks first second len) fine h = cc
fine_not_failure (ToldRefused fault) fine h = cc

pub fine_not_refused : (told : Told) (r : Reply) → IsTrue (is_fine_answer (Answered told)) → told ≡ told_of r → IsTrue (is_refused r) → ⊥
fine_not_refused told (reply.Refused fault) fine e h = let no : IsTrue (is_fine_answer (Answered (ToldRefused fault))) = subst (λ t. IsTrue (is_fine_answer (Answered t))) e fine in cc
fine_not_refused told _ fine e h = cc

settled_flushed : (does : Does) (flushed : Bool) (r : Reply) (told : Told) → IsTrue (is_fine_answer (Answered told)) → told ≡ told_of r → MayReply does flushed r → IsTrue flushed
settled_flushed does flushed r told fine e (IsRefusedReply h) = absurd (fine_not_refused told r fine e h)
settled_flushed does flushed r told fine e (IsDoneReply f h) = f

judged_flushed : (does : Does) (flushed : Bool) (stage : Stage) → StageOk does flushed stage → IsTrue (has_judged does stage) → IsTrue flushed
judged_flushed does flushed Listed ok h = ok
judged_flushed does flushed Judged ok h = ok
judged_flushed does flushed (Removing requests) ok h = ok
judged_flushed does flushed Published ok h = ok
judged_flushed does flushed _ ok h = absurd (cc)

module _ (limits : Limits) (start : Start) (alone : Bool) (s : State) (client now : ℕ) (c : ModelClient) (d : Doing) (told : Told) (fine : IsTrue (is_fine_answer (Answered told))) (h : Sound limits c.handles c.pending d) where
  compacted_flushed : EndsCompaction d told → IsTrue (is_flushed d.flush c.pending)
  compacted_flushed (TooShort k records e q may few same) = stage_flushed c d (Compacting k) h.stage e
  compacted_flushed (HasReplaced k before after e r few same) = stage_flushed c d (Compacting k) h.stage e

  uploaded_flushed : EndsUpload alone s client c d told → IsTrue (is_flushed d.flush c.pending)
  uploaded_flushed (Sent id index size e same) = stage_flushed c d Published h.stage e
  uploaded_flushed (FoundNone ready m o same) = ready_flushed c d ready

  answer_flushed : MayAnswer start alone s client now c d told → IsTrue (is_flushed d.flush c.pending)
  answer_flushed (Fails m f) = absurd (fine_not_failure told fine f)
  answer_flushed (Decided r e same) = settled_flushed d.does (is_flushed d.flush c.pending) r told fine same (stage_flushed c d (Replying r) h.stage e)
  answer_flushed (AtOnce a) = ready_flushed c d a.ready
  answer_flushed (CountsCache hits misses cached ready first e same) = ready_flushed c d ready
  answer_flushed (ReadsViews r) = reading_flushed c d d.stage h.stage (or_left _ _ r.goes_on)
  answer_flushed (CleanedUp e) = stage_flushed c d (Cleans e.k) h.stage e.stage
  answer_flushed (HasCompacted e) = compacted_flushed e
  answer_flushed (HasCollected count bytes j same) = judged_flushed d.does (is_flushed d.flush c.pending) d.stage h.stage j
  answer_flushed (HasUploaded e u) = uploaded_flushed u
  answer_flushed (Refuses fault m r same) = let no : IsTrue (is_fine_answer (Answered (ToldRefused fault))) = subst (λ t. IsTrue (is_fine_answer (Answered t))) same fine in absurd (cc)

-- nothing left to commit is nothing pending

abbrev first_or : Option Segment → Option Segment → Option Segment
first_or o rest = elim o [ None ↦ rest | Some segment ↦ Some segment ]

record BothNone (o rest : Option Segment) : Type 0 where
  first : o ≡ None
  others : rest ≡ None

both_none : (o rest : Option Segment) → IsTrue (not (is_some (first_or o rest))) → BothNone o rest
both_none None None h = record { first = refl; others = refl }
both_none None (Some x) h = absurd (cc)
both_none (Some x) rest h = absurd (cc)

abbrev NonePending : List PendingByte → List ℕ → Type 0
NonePending pending inodes = AllByRecursion (λ inode. pending_of inode pending ≡ []) inodes

not_some : (o : Option Segment) → o ≡ None → IsTrue (not (is_some o))
not_some o e = subst (λ x. IsTrue (not (is_some x))) (sym e) refl

none_pending : (inodes : List ℕ) (pending : List PendingByte) → IsTrue (not (is_some (segment_of_files inodes pending))) → NonePending pending inodes
none_pending [] pending h = tt
none_pending (inode ∷ inodes) pending h =
    let b = both_none (first_segment (pending_of inode pending)) (segment_of_files inodes pending) h in
    (no_first_segment (pending_of inode pending) b.first, none_pending inodes pending (not_some (segment_of_files inodes pending) b.others))

pub none_some : {X : Type 0} (o : Option X) → IsTrue (not (is_some o)) → o ≡ None
none_some None h = refl
none_some (Some x) h = absurd (cc)

-- the files that an operation commits are those of its handles

abbrev CommittedFiles : ModelClient → List ℕ → Type 0
CommittedFiles c handles = AllByRecursion (λ handle. pending_of (inode_at c handle) c.pending ≡ []) handles

its_files : (c : ModelClient) (o : Op) → ((profile o).flushes ≡ ItsFiles → NonePending c.pending (map (inode_at c) (handle_list (profile o).handles))) → CommittedFiles c (flushed_handles o)
its_files c (op.Fstat handle) h = let all = h refl in (all.0, tt)
its_files c (op.Close handle) h = let all = h refl in (all.0, tt)
its_files c (op.Flush handle) h = let all = h refl in (all.0, tt)
its_files c (op.Read handle offset len) h = let all = h refl in (all.0, tt)
its_files c (op.Truncate handle len) h = let all = h refl in (all.0, tt)
its_files c (op.Copy source from target to len) h = let all = h refl in (all.0, (all.1.0, tt))
its_files c _ h = tt

committed_all : (limits : Limits) (c : ModelClient) (d : Doing) → Sound limits c.handles c.pending d → IsTrue (is_flushed d.flush c.pending) → HasCommitted c d.op
committed_all limits c d h f = record {
  files = its_files c d.op (λ its. none_pending (map (inode_at c) (handle_list (profile d.op).handles)) c.pending (subst (λ flush. IsTrue (is_flushed flush c.pending)) (h.files its) f));
  all = λ e. no_first_segment c.pending (none_some (first_segment c.pending) (subst (λ flush. IsTrue (is_flushed flush c.pending)) (h.all (ap (λ o. (profile o).flushes) e)) f));
}

-- the entry that says so

fine_step : (limits : Limits) (start : Start) (alone : Bool) (s : State) (client now : ℕ) (c : ModelClient) (d : Doing) (kind : ActKind) → IsTrue (is_fine_answer kind) → Sound limits c.handles c.pending d → MayStep start alone s client now c d kind → HasCommitted c d.op
fine_step limits start alone s client now c d (Answered told) fine h may = committed_all limits c d h (answer_flushed limits start alone s client now c d told fine h may)
fine_step limits start alone s client now c d _ fine h may = absurd (cc)

pub not_fine : (told : Told) (kind : ActKind) → IsTrue (is_fine_answer kind) → kind ≡ Answered told → is_fine_answer (Answered told) ≡ false → ⊥
not_fine told kind fine e off = let same = ap is_fine_answer e in cc

pub fine_committed : (limits : Limits) (p : Past) (act : Act) → Entry p act → (act.client ≡ NO_CLIENT → ⊥) → (d : Doing) → (p.state.clients act.client).doing ≡ Some d → IsTrue (is_fine_answer act.kind)
    → SoundClient limits (p.state.clients act.client) → HasCommitted (p.state.clients act.client) d.op
fine_committed limits p act (Steps x e may) some d busy fine h =
    let same : x ≡ d = cc in
    fine_step limits p.run.start (p.run.uploads == 0) p.state act.client act.at (p.state.clients act.client) d act.kind fine (subst (SoundIf limits (p.state.clients act.client).handles (p.state.clients act.client).pending) busy h)
    (subst (λ y. MayStep p.run.start (p.run.uploads == 0) p.state act.client act.at (p.state.clients act.client) y act.kind) same may)
fine_committed limits p act (RefusedSubmission fault e (RefusesSubmission k)) some d busy fine h = absurd (not_fine _ act.kind fine k refl)
fine_committed limits p act (RefusedSubmission fault e (RefusalLacks b k)) some d busy fine h = absurd (not_fine _ act.kind fine k refl)
fine_committed limits p act (LacksMemory e k) some d busy fine h = absurd (not_fine _ act.kind fine k refl)
fine_committed limits p act (Crashes e k) some d busy fine h = let no = ap is_fine_answer k in absurd (cc)
fine_committed limits p act (Publishes e k) some d busy fine h = absurd (some e)
fine_committed limits p act (OfDrain client e due k) some d busy fine h = absurd (some e)
fine_committed limits p act (Ticks by e k) some d busy fine h = absurd (some e)

pub nothing_pending : NothingPending
nothing_pending run journal act may some d busy fine =
    let parts = AllAllowed-parts (at_start run) journal (act ∷ []) may in
    let b = begun_to act.line (reached run journal) in
    fine_committed run.limits b act (entry_of b act parts.1.0) some d busy fine (sound run journal parts.0 act.line act.client some)
