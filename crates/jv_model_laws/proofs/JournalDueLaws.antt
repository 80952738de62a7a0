-- What a cleaning has found that wasn't due, by how far it is.
use Rattle.std.proofs.Common.{◌≡◌, ℕ, suc, ◌+◌, ◌≤◌, ◌<◌, Bool, true, false, ◌&&◌, ◌||◌, not, ◌==◌, nat_lt, if◌then◌else◌, IsTrue, IsSomeAnd, IfSome, MatchBool, inl, inr, List, [], ◌∷◌, ◌++◌, length, take, is_some, Option, None, Some, refl, sym, ap, subst, ◌∙◌, arith, length-append}
use Rattle.std.proofs.lemmas.Bool.{and_parts}
use Rattle.std.proofs.lemmas.List.{take-append-le, take_all}
use Rattle.std.proofs.lemmas.Bool.Decides.{nat_tests, leb_tells, eqb_tells}
use Rattle.jv_model.specs.declared.tables.TheConstants.{TABLE_OF_DEAD, TABLE_OF_DROPPED}
use Rattle.jv_model.specs.declared.limits.TheConstants.{MAX_ITEMS, TRASH_ROOT}
use Rattle.jv_model.specs.declared.act.TheConstants.{NO_CLIENT}
use Rattle.jv_model.specs.declared.act.Act.{Act}
use Rattle.jv_model.specs.declared.act.ActKind.{ActKind}
use Rattle.jv_model.specs.declared.act.ActKind.TheVariants.{Mounted, Meta, Opened, Look, Commit, Truncated, Copied, Compacted, Settled, Expired, Purged, Cleaned, Quiet, Miss, Crashed, Ticked, Answered}
use Rattle.jv_model.specs.declared.act.Told.{Told}
use Rattle.jv_model.specs.declared.act.Told.TheVariants.{Fine, Looks, Refused as ToldRefused}
use Rattle.jv_model.specs.declared.basics.Limits.{Limits}
use Rattle.jv_model.specs.declared.fault.Fault.TheVariants.{InProgress}
use Rattle.jv_model.specs.declared.op.Op.{Op}
use Rattle.jv_model.specs.declared.op.Op.TheVariants as op
use Rattle.jv_model.specs.declared.op.Reply.{Reply}
use Rattle.jv_model.specs.declared.op.Reply.TheVariants as reply
use Rattle.jv_model.specs.declared.profile.Does.{Does}
use Rattle.jv_model.specs.declared.profile.Does.TheVariants.{Answers, Mounts, Transacts, Releases, Reads, Truncates, Copies, Compacts, Cleans as DoesClean, Collects, Uploads}
use Rattle.jv_model.specs.promise.tree.Sessions.{due_session}
use Rattle.jv_model.specs.promise.tree.Trash.{due_purge}
use Rattle.jv_model.specs.promise.client.Pending.{without_range}
use Rattle.jv_model.specs.promise.client.Origins.{Owed}
use Rattle.jv_model.specs.promise.client.Profile.{profile, handle_of}
use Rattle.jv_model.specs.promise.client.ModelClient.{ModelClient, View, Doing, Stage, Cleaning, CleaningPart, Sessions, Trash, Files, Slices, SliceAsked, OneBlock, BlockRemoved, Working, Reading, Missing, LookedAgain, Compacting, Cleans, Listed, Judged, Removing, Published, Replying, unmounted, with_stage, session_of, views_without}
use Rattle.jv_model.specs.promise.client.Submission.{submission, submitted, by_limits, is_flushed}
use Rattle.jv_model.specs.promise.journal.State.{State, with_client, set_client, given, transacted, newly_sustained, next_entry, gift_of, after_transaction, has_session, quieted, begun_quietly, flushing_on, cleaning_on, after_judging, looked, compaction_looked, missed, committed_stage, answer_then, replaced, after_told, answered_client, is_of_another, after_expiry, after_purge, after_cleaning, after_step, of_doing, changed, effect, view_now, is_compaction, is_last, sees_first, first_cleaning}
use Rattle.jv_model.specs.promise.journal.Reading.{asked_parts}
use Rattle.jv_model.specs.promise.journal.Steps.{Start, is_ready, cleaning_in, CleansItem, DropsFile, ForgetsSlice, OfOneBlock, OfBlocks, MayStep, MayAnswer, Fails, Decided, AtOnce, CountsCache, ReadsViews, CleanedUp, HasCompacted, HasCollected, HasUploaded, Refuses, TooShort, HasReplaced, may_be_quiet, items, has_judged, told_of}
use Rattle.jv_model.specs.promise.journal.Past.{Setup, Past, at_start, begun_to, reached}
use Rattle.jv_model.specs.promise.journal.Legal.{Allowed, AllAllowed, Refuses as RefusesSubmission, LacksMemory as RefusalLacks}
use Rattle.jv_model.specs.journal.Looks.{entry_at}
use Rattle.jv_model.specs.journal.Stepping.{is_answer}
use Rattle.jv_model_laws.specs.Laws.{CleansWhatIsDue, MayEndCleaning, HadMost, HadFewer, FoundNoneDue, FoundNothing, NoSessionDue, NoHourDue, ends_operation}
use Rattle.jv_model_laws.proofs.JournalGrowthLaws.{AllAllowed-parts, own_client, others_kept}
use Rattle.jv_model_laws.proofs.JournalStateLaws.{Entry, Steps, RefusedSubmission, LacksMemory, Crashes, Publishes as OfPublish, OfDrain, Ticks, entry_of, entry_before, entry_last, entry_past, entry_within, holds_on}
use Rattle.jv_model_laws.proofs.JournalDoingLaws.{Sound, SoundIf, MayReply, IsRefusedReply, IsDoneReply, StageOk, sound, doing_given, fine_not_refused, none_some}
use Rattle.jv_model_laws.proofs.JournalStageLaws.{stage_fits, FitsIf, all_fit}

-- what was found, by the part

record FoundSessions (run : Setup) (journal : List Act) (client : ℕ) : Type 0 where
  before : ℕ
  sessions : FoundNothing run journal client before (NoSessionDue client)

abbrev FoundBy : Setup → List Act → ℕ → CleaningPart → Type 0
FoundBy run journal client Sessions = Unit {0}
FoundBy run journal client Trash = FoundSessions run journal client
FoundBy run journal client Files = FoundNoneDue run journal client
FoundBy run journal client Slices = FoundNoneDue run journal client
FoundBy run journal client SliceAsked = FoundNoneDue run journal client
FoundBy run journal client OneBlock = FoundNoneDue run journal client
FoundBy run journal client BlockRemoved = FoundNoneDue run journal client

abbrev FoundAt : Setup → List Act → ℕ → Stage → Type 0
FoundAt run journal client (Cleans k) = FoundBy run journal client k.part
FoundAt run journal client _ = Unit {0}

abbrev FoundIf : Setup → List Act → ℕ → Option Doing → Type 0
FoundIf run journal client None = Unit {0}
FoundIf run journal client (Some d) = FoundAt run journal client d.stage

-- one more entry

module _ (run : Setup) (pre : List Act) (e : Act) where
  abbrev more : List Act
  more = pre ++ e ∷ []

  abbrev GoesOn : ℕ → Act → Type 0
  GoesOn client act = act.client ≡ client → ends_operation act.kind ≡ false

  past_last : (k : ℕ) → length pre + 1 < k → entry_at more k ≡ None
  past_last k h = entry_past more k (let l = length-append pre (e ∷ []) in omega (arith, l, h))

  nothing_later : (client before : ℕ) (Holds : State → ℕ → Type 0) → GoesOn client e → FoundNothing run pre client before Holds
      → FoundNothing run more client before Holds
  nothing_later client before Holds on h =
      let low : suc before ≤ length pre = entry_within pre (suc before) (λ a. Unit {0}) (subst (λ o. IsSomeAnd o (λ a. Unit {0})) (sym h.there) tt) in
      record {
        act = h.act;
        there = entry_before pre e (suc before) low ∙ h.there;
        own = h.own;
        quiet = h.quiet;
        held = subst (λ acts. Holds (begun_to h.act.line (reached run acts)).state h.act.at) (sym (take-append-le before pre (e ∷ []) (omega (arith, low)))) h.held;
        goes_on = λ k later. elim (leb_tells k (length pre)) [
          | inl within ↦ subst (λ o. IfSome o (GoesOn client)) (sym (entry_before pre e k within.1)) (h.goes_on k later)
          | inr high ↦ elim (leb_tells k (length pre + 1)) [
            | inl at ↦ (let same : k ≡ length pre + 1 = omega (arith, high.1, at.1) in subst (λ o. IfSome o (GoesOn client)) (sym (ap (entry_at more) same ∙ entry_last pre e)) on)
            | inr past ↦ subst (λ o. IfSome o (GoesOn client)) (sym (past_last k past.1)) tt
          ]
        ];
      }

  nothing_now : (Holds : State → ℕ → Type 0) → e.kind ≡ Quiet → Holds (begun_to e.line (reached run pre)).state e.at
      → FoundNothing run more e.client (length pre) Holds
  nothing_now Holds quiet h =
      let last : suc (length pre) ≡ length pre + 1 = omega arith in
      let whole : take (length pre) more ≡ pre = take-append-le (length pre) pre (e ∷ []) (omega arith) ∙ take_all (length pre) pre (omega arith) in
      record {
        act = e;
        there = ap (entry_at more) last ∙ entry_last pre e;
        own = refl;
        quiet = quiet;
        held = subst (λ acts. Holds (begun_to e.line (reached run acts)).state e.at) (sym whole) h;
        goes_on = λ k later. subst (λ o. IfSome o (GoesOn e.client)) (sym (past_last k (omega (arith, later)))) tt;
      }

  sessions_later : (client : ℕ) → GoesOn client e → FoundSessions run pre client → FoundSessions run more client
  sessions_later client on h = record { before = h.before; sessions = nothing_later client h.before (NoSessionDue client) on h.sessions }

  none_later : (client : ℕ) → GoesOn client e → FoundNoneDue run pre client → FoundNoneDue run more client
  none_later client on h = record {
    first = h.first;
    second = h.second;
    later = h.later;
    sessions = nothing_later client h.first (NoSessionDue client) on h.sessions;
    hours = nothing_later client h.second NoHourDue on h.hours;
  }

  by_later : (client : ℕ) (part : CleaningPart) → GoesOn client e → FoundBy run pre client part → FoundBy run more client part
  by_later client Sessions on h = tt
  by_later client Trash on h = sessions_later client on h
  by_later client Files on h = none_later client on h
  by_later client Slices on h = none_later client on h
  by_later client SliceAsked on h = none_later client on h
  by_later client OneBlock on h = none_later client on h
  by_later client BlockRemoved on h = none_later client on h

  at_later : (client : ℕ) (stage : Stage) → GoesOn client e → FoundAt run pre client stage → FoundAt run more client stage
  at_later client (Cleans k) on h = by_later client k.part on h
  at_later client _ on h = tt

  if_later : (client : ℕ) (o : Option Doing) → GoesOn client e → FoundIf run pre client o → FoundIf run more client o
  if_later client None on h = tt
  if_later client (Some d) on h = at_later client d.stage on h

  -- the hours are looked at after the sessions
  both_now : e.kind ≡ Quiet → NoHourDue (begun_to e.line (reached run pre)).state e.at → FoundSessions run pre e.client → FoundNoneDue run more e.client
  both_now quiet none h =
      let low : suc h.before ≤ length pre = entry_within pre (suc h.before) (λ a. Unit {0}) (subst (λ o. IsSomeAnd o (λ a. Unit {0})) (sym h.sessions.there) tt) in
      record {
        first = h.before;
        second = length pre;
        later = omega (arith, low);
        sessions = nothing_later e.client h.before (NoSessionDue e.client) (λ own. ap ends_operation quiet) h.sessions;
        hours = nothing_now NoHourDue quiet none;
      }

-- tests

or_not : (a b : Bool) → IsTrue (a || not b) → (b || false) ≡ true → IsTrue a
or_not true b h e = refl
or_not false true h e = absurd (cc)
or_not false false h e = absurd (cc)

first_of : (b : Bool) (k : Cleaning) → ◌≡◌ {A = Option Cleaning} (if b then Some first_cleaning else None) (Some k) → k.part ≡ Sessions
first_of true k e = let same : first_cleaning ≡ k = cc in ap (λ (x : Cleaning). x.part) (sym same)
first_of false k e = absurd (cc)

item_part : (s : State) (c : ModelClient) (d : Doing) (k : Cleaning) (part : CleaningPart) → CleansItem s c (record d { stage = Cleans k }) part → k.part ≡ part
item_part s c d k part may = let e = may.stage in let same : k ≡ may.k = cc in ap (λ (x : Cleaning). x.part) same ∙ may.at

working_part : (s : State) (c : ModelClient) (d : Doing) (quiets started : ℕ) (part : CleaningPart)
    → CleansItem s c (record d { stage = Working quiets started }) part → Sessions ≡ part
working_part s c d quiets started part may = sym (first_of _ may.k may.stage) ∙ may.at

-- an entry of an operation

module _ (run : Setup) (pre : List Act) (act : Act) (start : Start) (alone : Bool) (s : State) (here : (begun_to act.line (reached run pre)).state ≡ s) (d : Doing) (busy : (s.clients act.client).doing ≡ Some d) where
  abbrev c : ModelClient
  c = s.clients act.client

  abbrev Then : Stage → Type 0
  Then stage = FoundAt run (pre ++ act ∷ []) act.client stage

  abbrev Before : Stage → Type 0
  Before stage = FoundAt run pre act.client stage

  abbrev Own : State → Type 0
  Own t = FoundIf run (pre ++ act ∷ []) act.client (t.clients act.client).doing

  staged : (stage : Stage) (x : ModelClient) (o : Option Doing) → o ≡ Some d → Then stage
      → FoundIf run (pre ++ act ∷ []) act.client (elim o as (λ _. ModelClient) [ None ↦ x | Some y ↦ record x { doing = Some (record y { stage = stage; moved = true }) } ]).doing
  staged stage x None e h = absurd (cc)
  staged stage x (Some y) e h = h

  own_with : (stage : Stage) (x : ModelClient) → x.doing ≡ Some d → Then stage
      → FoundIf run (pre ++ act ∷ []) act.client (with_client s.clients act.client (with_stage stage x) act.client).doing
  own_with stage x e h = subst (λ (y : ModelClient). FoundIf run (pre ++ act ∷ []) act.client y.doing) (sym (own_client s.clients act.client (with_stage stage x))) (staged stage x x.doing e h)

  own_stage : (stage : Stage) → Then stage → FoundIf run (pre ++ act ∷ []) act.client (with_client s.clients act.client (with_stage stage c) act.client).doing
  own_stage stage h = own_with stage c busy h

  then_if : (b : Bool) (x y : Stage) → (b ≡ true → Then x) → Then y → Then (if b then x else y)
  then_if true x y h g = h refl
  then_if false x y h g = g

  then_either : (b : Bool) (x y : Stage) → Then x → Then y → Then (if b then x else y)
  then_either b x y h g = then_if b x y (λ e. h) g

  then_refused : (stage : Stage) (o : Option Reply) → Then stage → Then (elim o [ None ↦ stage | Some answer ↦ Replying answer ])
  then_refused stage None h = h
  then_refused stage (Some r) h = tt

  then_answer : (b : Bool) (o : Option Reply) → Then (if b then elim o [ None ↦ Working 0 0 | Some answer ↦ Replying answer ] else Working 0 0)
  then_answer true None = tt
  then_answer true (Some r) = tt
  then_answer false o = tt

  then_compaction : (view : View) (stage : Stage) → Then (compaction_looked view stage)
  then_compaction view (Compacting k) = tt
  then_compaction view _ = tt

  then_flushing : (quiets started : ℕ) → Then (flushing_on s c act.at quiets started)
  then_flushing quiets started = then_either (quiets == 0) _ _ (then_either (has_session s.tree c) (Working 1 0) _ tt tt) (then_either (quiets == 1) (Working 2 act.at) (Working (quiets + 1) started) tt tt)

  module _ (on : ends_operation act.kind ≡ false) where
    kept : (stage : Stage) → Before stage → Then stage
    kept stage h = at_later run pre act act.client stage (λ own. on) h

    then_looked : (stage : Stage) → Before stage → Then (looked stage)
    then_looked (Working quiets started) h = tt
    then_looked (Reading misses) h = tt
    then_looked (Missing misses window owed) h = tt
    then_looked (LookedAgain misses window owed) h = tt
    then_looked (Compacting k) h = tt
    then_looked (Cleans k) h = kept (Cleans k) h
    then_looked Listed h = tt
    then_looked Judged h = tt
    then_looked (Removing requests) h = tt
    then_looked Published h = tt
    then_looked (Replying r) h = tt

    then_missed : (window : ℕ) (owed : List Owed) (stage : Stage) → Before stage → Then (missed window owed stage)
    then_missed window owed (Working quiets started) h = tt
    then_missed window owed (Reading misses) h = tt
    then_missed window owed (Missing misses at before) h = tt
    then_missed window owed (LookedAgain misses at before) h = tt
    then_missed window owed (Compacting k) h = tt
    then_missed window owed (Cleans k) h = kept (Cleans k) h
    then_missed window owed Listed h = tt
    then_missed window owed Judged h = tt
    then_missed window owed (Removing requests) h = tt
    then_missed window owed Published h = tt
    then_missed window owed (Replying r) h = tt

    then_replaced : (stage : Stage) → Before stage → Then (replaced stage)
    then_replaced (Working quiets started) h = tt
    then_replaced (Reading misses) h = tt
    then_replaced (Missing misses at before) h = tt
    then_replaced (LookedAgain misses at before) h = tt
    then_replaced (Compacting k) h = tt
    then_replaced (Cleans k) h = kept (Cleans k) h
    then_replaced Listed h = tt
    then_replaced Judged h = tt
    then_replaced (Removing requests) h = tt
    then_replaced Published h = tt
    then_replaced (Replying r) h = tt

    -- items

    expiry_found : (sid : ℕ) (stage : Stage) → CleansItem s c (record d { stage = stage }) Sessions
        → Own (after_expiry s act.client sid (record d { stage = stage }))
    expiry_found sid (Cleans k) may = own_stage (Cleans _) (subst (FoundBy run (pre ++ act ∷ []) act.client) (sym (item_part s c d k Sessions may)) tt)
    expiry_found sid (Working quiets started) may = own_stage (Cleans _) tt
    expiry_found sid _ may = let never = may.stage in absurd (cc)

    then_purged : (b : Bool) (x y : Cleaning) → x.part ≡ Trash → y.part ≡ Trash → FoundSessions run (pre ++ act ∷ []) act.client → Then (Cleans (if b then x else y))
    then_purged true x y e f h = subst (FoundBy run (pre ++ act ∷ []) act.client) (sym e) h
    then_purged false x y e f h = subst (FoundBy run (pre ++ act ∷ []) act.client) (sym f) h

    purge_found : (inode : ℕ) (stage : Stage) → Before stage → CleansItem s c (record d { stage = stage }) Trash
        → Own (after_purge s act.client inode (record d { stage = stage }))
    purge_found inode (Cleans k) h may =
        let at = item_part s c d k Trash may in
        own_stage (Cleans _) (then_purged (nat_lt inode TRASH_ROOT) _ _ refl refl (sessions_later run pre act act.client (λ own. on) (subst (FoundBy run pre act.client) at h)))
    purge_found inode (Working quiets started) h may = let never = working_part s c d quiets started Trash may in absurd (cc)
    purge_found inode _ h may = let never = may.stage in absurd (cc)

    abbrev Row : ℕ → ℕ → Stage → Bool → Type 0
    Row table key stage b = MatchBool b (CleansItem s c (record d { stage = stage }) Files × DropsFile s key) ((table ≡ TABLE_OF_DEAD) × ForgetsSlice s c (record d { stage = stage }))

    found_forgetting : (k : Cleaning) → FoundBy run pre act.client k.part → ForgetsSlice s c (record d { stage = Cleans k }) → FoundNoneDue run pre act.client
    found_forgetting k h (OfOneBlock item) = subst (FoundBy run pre act.client) (item_part s c d k OneBlock item) h
    found_forgetting k h (OfBlocks item) = subst (FoundBy run pre act.client) (item_part s c d k BlockRemoved item) h

    then_row : (table key : ℕ) (k : Cleaning) (b : Bool) (x y : Cleaning) → x.part ≡ k.part → y.part ≡ Slices → FoundBy run pre act.client k.part
        → Row table key (Cleans k) b → Then (Cleans (if b then x else y))
    then_row table key k true x y e f h may =
        let at = item_part s c d k Files may.0 in
        subst (FoundBy run (pre ++ act ∷ []) act.client) (sym (e ∙ at)) (none_later run pre act act.client (λ own. on) (subst (FoundBy run pre act.client) at h))
    then_row table key k false x y e f h may =
        subst (FoundBy run (pre ++ act ∷ []) act.client) (sym f) (none_later run pre act act.client (λ own. on) (found_forgetting k h may.1))

    never_forgetting : (quiets started : ℕ) → ForgetsSlice s c (record d { stage = Working quiets started }) → ⊥
    never_forgetting quiets started (OfOneBlock item) = let never = working_part s c d quiets started OneBlock item in cc
    never_forgetting quiets started (OfBlocks item) = let never = working_part s c d quiets started BlockRemoved item in cc

    none_forgotten : (stage : Stage) → cleaning_in c (record d { stage = stage }) ≡ None → ForgetsSlice s c (record d { stage = stage }) → ⊥
    none_forgotten stage none (OfOneBlock item) = let e = item.stage in cc
    none_forgotten stage none (OfBlocks item) = let e = item.stage in cc

    no_row : (table key quiets started : ℕ) (b : Bool) → Row table key (Working quiets started) b → ⊥
    no_row table key quiets started true may = let never = working_part s c d quiets started Files may.0 in cc
    no_row table key quiets started false may = never_forgetting quiets started may.1

    no_other_row : (table key : ℕ) (stage : Stage) (b : Bool) → cleaning_in c (record d { stage = stage }) ≡ None → Row table key stage b → ⊥
    no_other_row table key stage true none may = let e = may.0.stage in cc
    no_other_row table key stage false none may = none_forgotten stage none may.1

    row_found : (table key : ℕ) (stage : Stage) → Before stage → Row table key stage (table == TABLE_OF_DROPPED)
        → Own (after_cleaning s act.client table key (record d { stage = stage }))
    row_found table key (Cleans k) h may = own_stage (Cleans _) (then_row table key k (table == TABLE_OF_DROPPED) _ _ refl refl h may)
    row_found table key (Working quiets started) h may = absurd (no_row table key quiets started (table == TABLE_OF_DROPPED) may)
    row_found table key stage h may = absurd (no_other_row table key stage (table == TABLE_OF_DROPPED) refl may)

  -- requests that changed nothing

  module _ (quiet : act.kind ≡ Quiet) where
    on_quiet : ends_operation act.kind ≡ false
    on_quiet = ap ends_operation quiet

    sessions_now : IsTrue (not (is_some (due_session s.tree (session_of c) act.at))) → FoundSessions run (pre ++ act ∷ []) act.client
    sessions_now none = record {
      before = length pre;
      sessions = nothing_now run pre act (NoSessionDue act.client) quiet (subst (λ t. NoSessionDue act.client t act.at) (sym here) (none_some _ none));
    }

    hours_now : IsTrue (not (is_some (due_purge s.tree act.at))) → FoundSessions run pre act.client → FoundNoneDue run (pre ++ act ∷ []) act.client
    hours_now none h = both_now run pre act quiet (subst (λ t. NoHourDue t act.at) (sym here) (none_some _ none)) h

    then_cleaning : (k : Cleaning) (part : CleaningPart) → FoundBy run pre act.client part
        → IsTrue (may_be_quiet start s act.client act.at c d (Cleans (record k { part = part }))) → Then (cleaning_on s c (record k { part = part }))
    then_cleaning k Sessions h may = then_if (has_session s.tree c || false) _ _ (λ e. sessions_now (or_not _ (has_session s.tree c) (and_parts _ _ may).1 e)) tt
    then_cleaning k Trash h may = then_if (has_session s.tree c || false) _ _ (λ e. hours_now (or_not _ (has_session s.tree c) (and_parts _ _ may).1 e) h) tt
    then_cleaning k Files h may = then_either (has_session s.tree c || false) _ _ (none_later run pre act act.client (λ own. on_quiet) h) tt
    then_cleaning k Slices h may = then_either (has_session s.tree c || false) _ _ (none_later run pre act act.client (λ own. on_quiet) h) tt
    then_cleaning k SliceAsked h may = then_either (has_session s.tree c || true) _ _ (none_later run pre act act.client (λ own. on_quiet) h) tt
    then_cleaning k OneBlock h may = then_either (has_session s.tree c || true) _ _ (none_later run pre act act.client (λ own. on_quiet) h) tt
    then_cleaning k BlockRemoved h may = then_either (has_session s.tree c || true) _ _ (none_later run pre act act.client (λ own. on_quiet) h) tt

    then_judging : (does : Does) → Then (after_judging does)
    then_judging (Collects true) = tt
    then_judging _ = tt

    then_begun : (does : Does) (quiets started : ℕ) → Before d.stage → is_flushed d.flush c.pending ≡ true
        → IsTrue (may_be_quiet start s act.client act.at c (record d { does = does }) (Working quiets started))
        → Then (begun_quietly s act.client c act.at d does)
    then_begun (Answers told) quiets started h f may = kept on_quiet d.stage h
    then_begun (Mounts writeback) quiets started h f may = kept on_quiet d.stage h
    then_begun Transacts quiets started h f may = kept on_quiet d.stage h
    then_begun Releases quiets started h f may = kept on_quiet d.stage h
    then_begun (Reads offset len) quiets started h f may = then_either (sees_first c d (asked_parts offset len)) _ _ tt (then_refused d.stage _ (kept on_quiet d.stage h))
    then_begun Truncates quiets started h f may = tt
    then_begun Copies quiets started h f may = tt
    then_begun (Compacts None) quiets started h f may = tt
    then_begun (Compacts (Some inode)) quiets started h f may = then_refused d.stage _ (kept on_quiet d.stage h)
    then_begun DoesClean quiets started h f may =
        let first = subst (λ b. IsTrue (if b then (quiets == 0) && (not (is_some (due_session s.tree (session_of c) act.at)) || not (has_session s.tree c)) else true)) f may in
        then_if (has_session s.tree c || false) _ _ (λ e. sessions_now (or_not _ (has_session s.tree c) (and_parts _ _ first).1 e)) tt
    then_begun (Collects delete) quiets started h f may = tt
    then_begun Uploads quiets started h f may = tt

    then_quieted : (stage : Stage) → Before d.stage → Before stage → IsTrue (may_be_quiet start s act.client act.at c d stage)
        → Then (quieted s act.client c act.at d stage)
    then_quieted (Working quiets started) all h may = then_if (is_flushed d.flush c.pending) _ _ (λ f. then_begun d.does quiets started all f may) (then_flushing quiets started)
    then_quieted (Reading misses) all h may = tt
    then_quieted (Missing misses window owed) all h may = then_refused (Missing misses window owed) _ tt
    then_quieted (LookedAgain misses window owed) all h may = tt
    then_quieted (Compacting k) all h may = then_either (is_some k.missed) _ _ (then_refused (Compacting k) _ tt) tt
    then_quieted (Cleans k) all h may = then_cleaning k k.part h may
    then_quieted Listed all h may = then_either (has_session s.tree c) _ _ tt tt
    then_quieted Judged all h may = then_judging d.does
    then_quieted (Removing requests) all h may = tt
    then_quieted Published all h may = tt
    then_quieted (Replying answer) all h may = tt

  then_uploading : d.does ≡ Uploads → Then (begun_quietly s act.client c act.at d d.does)
  then_uploading e = subst (λ does. Then (begun_quietly s act.client c act.at d does)) (sym e) tt

  then_published : (stage : Stage) → d.does ≡ Uploads → IsTrue (is_ready c (record d { stage = stage })) → Then (quieted s act.client c act.at d stage)
  then_published (Working quiets started) e ready = then_either (is_flushed d.flush c.pending) _ _ (then_uploading e) (then_flushing quiets started)
  then_published _ e ready = absurd (cc)

  own_transaction : Own (after_transaction s act.client act.at d)
  own_transaction =
      let done = transacted s act.client act.at d.op in
      let sustained : List ℕ = newly_sustained s.tree done.tree c ++ c.sustained in
      let old : ModelClient = record c { sustained = sustained } in
      own_with (Replying done.reply) (given (next_entry s) d.does (gift_of done.reply) old) (doing_given (next_entry s) d.does (gift_of done.reply) old ∙ busy) tt

  own_look : (inode window : ℕ) (compacts : Bool) → ends_operation act.kind ≡ false → Before d.stage
      → FoundIf run (pre ++ act ∷ []) act.client (with_client s.clients act.client (if compacts
      then with_stage (compaction_looked (view_now s 0 inode window) d.stage) c
      else with_stage (looked d.stage) (record c { views = view_now s (handle_of d.op) inode window ∷ c.views })) act.client).doing
  own_look inode window true on h = own_stage _ (then_compaction (view_now s 0 inode window) d.stage)
  own_look inode window false on h = own_with _ (record c { views = view_now s (handle_of d.op) inode window ∷ c.views }) busy (then_looked on d.stage h)

  own_commit : (inode from len : ℕ)
      → FoundIf run (pre ++ act ∷ []) act.client (with_client s.clients act.client (with_stage (committed_stage (record c { pending = without_range inode from len c.pending; views = views_without inode c.views }) d) (record c { pending = without_range inode from len c.pending; views = views_without inode c.views })) act.client).doing
  own_commit inode from len =
      let rest : ModelClient = record c { pending = without_range inode from len c.pending; views = views_without inode c.views } in
      own_with (committed_stage rest d) rest busy (then_answer (is_flushed d.flush rest.pending) (answer_then rest d))

  own_step : (kind : ActKind) → act.kind ≡ kind → is_answer kind ≡ false → Before d.stage → MayStep start alone s act.client act.at c d kind
      → Own (after_step s act d kind)
  own_step (Mounted sid) e open_yet h may = own_transaction
  own_step Meta e open_yet h may = own_transaction
  own_step (Opened handle inode) e open_yet h may = own_transaction
  own_step (Look inode window) e open_yet h may = own_look inode window (is_compaction d.does) (ap ends_operation e) h
  own_step (Commit inode from len left) e open_yet h may = own_commit inode from len
  own_step (Truncated inode len) e open_yet h may = own_with (Replying reply.Done) (record c { views = views_without inode c.views }) busy tt
  own_step (Copied source from target to len) e open_yet h may = own_with (Replying (reply.Count len)) (record c { views = views_without target c.views }) busy tt
  own_step (Compacted inode window from to) e open_yet h may = own_stage _ (then_replaced (ap ends_operation e) d.stage h)
  own_step (Settled commit) e open_yet h may = own_stage _ (then_published d.stage may.uploads may.ready)
  own_step (Expired sid) e open_yet h may = expiry_found (ap ends_operation e) sid d.stage may.0
  own_step (Purged inode) e open_yet h may = purge_found (ap ends_operation e) inode d.stage h may.0
  own_step (Cleaned table key) e open_yet h may = row_found (ap ends_operation e) table key d.stage h may
  own_step Quiet e open_yet h may = own_stage _ (then_quieted e d.stage h h may)
  own_step (Miss inode window) e open_yet h may = own_stage _ (then_missed (ap ends_operation e) window s.owed d.stage h)
  own_step Crashed e open_yet h may = absurd may
  own_step (Ticked by) e open_yet h may = absurd may
  own_step (Answered told) e open_yet h may = absurd (cc)

-- answers

of_another : (stage : Stage) (told : Told) → is_of_another stage told ≡ true → ends_operation (Answered told) ≡ false
of_another (Replying r) told e = absurd (cc)
of_another stage (ToldRefused InProgress) e = refl
of_another stage _ e = absurd (cc)

module _ (run : Setup) (pre : List Act) (act : Act) where
  abbrev Later : ModelClient → Type 0
  Later x = FoundIf run (pre ++ act ∷ []) act.client x.doing

  found_told : (o : Op) (told : Told) (x : ModelClient) → Later (after_told o told x)
  found_told o (Fine a b e f) x = tt
  found_told o (Looks first second len) x = tt
  found_told o (ToldRefused fault) x = tt

  found_either : (other : Bool) (x y : ModelClient) → (other ≡ true → Later x) → Later y → Later (if other then x else y)
  found_either true x y h g = h refl
  found_either false x y h g = g

  found_answered_if : (told : Told) (x : ModelClient) (o : Option Doing) → act.kind ≡ Answered told → x.doing ≡ o → FoundIf run pre act.client o
      → Later (elim o as (λ _. ModelClient) [ None ↦ x | Some d ↦ (if is_of_another d.stage told then x else after_told d.op told x) ])
  found_answered_if told x None k e h = subst (FoundIf run (pre ++ act ∷ []) act.client) (sym e) tt
  found_answered_if told x (Some d) k e h =
      found_either (is_of_another d.stage told) x (after_told d.op told x)
      (λ other. subst (FoundIf run (pre ++ act ∷ []) act.client) (sym e) (at_later run pre act act.client d.stage (λ own. ap ends_operation k ∙ of_another d.stage told other) h))
      (found_told d.op told x)

  found_answered : (s : State) (told : Told) → act.kind ≡ Answered told → FoundIf run pre act.client (s.clients act.client).doing
      → Later (with_client s.clients act.client (answered_client told (s.clients act.client)) act.client)
  found_answered s told k h = subst Later (sym (own_client s.clients act.client (answered_client told (s.clients act.client)))) (found_answered_if told (s.clients act.client) (s.clients act.client).doing k refl h)

  abbrev of_kind : ActKind → Act
  of_kind kind = record act { kind = kind }

  found_doing : (start : Start) (alone : Bool) (s : State) → (begun_to act.line (reached run pre)).state ≡ s → (kind : ActKind) → act.kind ≡ kind
      → is_answer kind ≡ false → (o : Option Doing) → (s.clients act.client).doing ≡ o
      → FoundIf run pre act.client o → (d : Doing) → o ≡ Some d → MayStep start alone s act.client act.at (s.clients act.client) d kind
      → Later ((of_doing s (of_kind kind) o).clients act.client)
  found_doing start alone s here kind k open_yet None e h d is may = absurd (cc)
  found_doing start alone s here kind k open_yet (Some x) e h d is may =
      let same : d ≡ x = cc in
      own_step run pre act start alone s here x e kind k open_yet h (subst (λ y. MayStep start alone s act.client act.at (s.clients act.client) y kind) same may)

  found_changed : (start : Start) (alone : Bool) (s : State) → (begun_to act.line (reached run pre)).state ≡ s → (kind : ActKind) → act.kind ≡ kind
      → FoundIf run pre act.client (s.clients act.client).doing
      → (d : Doing) → (s.clients act.client).doing ≡ Some d → MayStep start alone s act.client act.at (s.clients act.client) d kind
      → Later ((changed s (of_kind kind) kind).clients act.client)
  found_changed start alone s here Crashed k h d e may = absurd may
  found_changed start alone s here (Answered told) k h d e may = found_answered s told k h
  found_changed start alone s here kind k h d e may = found_doing start alone s here kind k refl (s.clients act.client).doing refl h d e may

  found_told_entry : (s : State) (told : Told) (kind : ActKind) → act.kind ≡ kind → kind ≡ Answered told
      → FoundIf run pre act.client (s.clients act.client).doing → Later ((effect s (of_kind kind)).clients act.client)
  found_told_entry s told kind k e h = subst (λ x. Later ((effect s (of_kind x)).clients act.client)) (sym e) (found_answered s told (k ∙ e) h)

  found_crash : (s : State) (kind : ActKind) → kind ≡ Crashed → Later ((effect s (of_kind kind)).clients act.client)
  found_crash s kind e = subst (λ x. Later ((effect s (of_kind x)).clients act.client)) (sym e) (subst Later (sym (own_client s.clients act.client unmounted)) tt)

  found_own : (p : Past) → (begun_to act.line (reached run pre)).state ≡ p.state → Entry p act → (act.client ≡ NO_CLIENT → ⊥)
      → FoundIf run pre act.client (p.state.clients act.client).doing → Later ((effect p.state act).clients act.client)
  found_own p here (Steps d e may) some h = found_changed p.run.start (p.run.uploads == 0) p.state here act.kind refl h d e may
  found_own p here (RefusedSubmission fault e (RefusesSubmission k)) some h = found_told_entry p.state _ act.kind refl k h
  found_own p here (RefusedSubmission fault e (RefusalLacks b k)) some h = found_told_entry p.state _ act.kind refl k h
  found_own p here (LacksMemory e k) some h = found_told_entry p.state _ act.kind refl k h
  found_own p here (Crashes e k) some h = found_crash p.state act.kind k
  found_own p here (OfPublish e k) some h = absurd (some e)
  found_own p here (OfDrain client e due k) some h = absurd (some e)
  found_own p here (Ticks by e k) some h = absurd (some e)

-- all clients

abbrev AllFound : Setup → List Act → State → Type 0
AllFound run pre s = (client : ℕ) → (client ≡ NO_CLIENT → ⊥) → FoundIf run pre client (s.clients client).doing

found_enters : (run : Setup) (pre : List Act) (act : Act) → Allowed (begun_to act.line (reached run pre)) act
    → AllFound run pre (begun_to act.line (reached run pre)).state
    → AllFound run (pre ++ act ∷ []) (effect (begun_to act.line (reached run pre)).state act)
found_enters run pre act may all client some =
    let p = begun_to act.line (reached run pre) in
    elim (eqb_tells client act.client) [
      | inl own ↦ subst (λ q. FoundIf run (pre ++ act ∷ []) q ((effect p.state act).clients q).doing) (sym own.1)
          (found_own run pre act p refl (entry_of p act may) (λ e. some (own.1 ∙ e)) (all act.client (λ e. some (own.1 ∙ e))))
      | inr other ↦ subst (λ (x : ModelClient). FoundIf run (pre ++ act ∷ []) client x.doing) (sym (others_kept p.state act client other.1))
          (if_later run pre act client (p.state.clients client).doing (λ same. absurd (other.1 (sym same))) (all client some))
    ]

found_submits : (run : Setup) (pre : List Act) (s : State) (client : ℕ) (o : Op) → submission (s.clients client) o ≡ None → AllFound run pre s
    → AllFound run pre (set_client s client (submitted run.limits o (s.clients client)))
found_submits run pre s client o none all other some = elim (eqb_tells other client) [
  | inl same ↦ subst (λ b. FoundIf run pre other (if b then submitted run.limits o (s.clients client) else s.clients other).doing) (sym same.0) tt
  | inr apart ↦ subst (λ b. FoundIf run pre other (if b then submitted run.limits o (s.clients client) else s.clients other).doing) (sym apart.0) (all other some)
]

all_found : (run : Setup) (journal : List Act) → AllAllowed (at_start run) journal → (line : ℕ) → AllFound run journal (begun_to line (reached run journal)).state
all_found run journal may line = holds_on run (AllFound run) (found_submits run) (found_enters run) (λ client some. tt) journal may line

-- the end of a cleaning

judges_none : (stage : Stage) → IsTrue (has_judged DoesClean stage) → ⊥
judges_none Judged h = cc
judges_none (Removing requests) h = cc
judges_none _ h = cc

last_found : (run : Setup) (journal : List Act) (client : ℕ) (part : CleaningPart) → IsTrue (is_last part) → FoundBy run journal client part
    → FoundNoneDue run journal client
last_found run journal client SliceAsked last h = h
last_found run journal client _ last h = absurd (cc)

data OneHolds (a b : Bool) : Type 0 where
  First : IsTrue a → OneHolds a b
  Second : IsTrue b → OneHolds a b

one_holds : (a b : Bool) → IsTrue (a || b) → OneHolds a b
one_holds true b h = First refl
one_holds false b h = Second h

module _ (run : Setup) (journal : List Act) (start : Start) (alone : Bool) (s : State) (client now : ℕ) (c : ModelClient) (d : Doing) (does : d.does ≡ DoesClean) (fits : IsTrue (stage_fits DoesClean d.stage)) (ok : StageOk DoesClean (is_flushed d.flush c.pending) d.stage)
    (found : FoundAt run journal client d.stage) (sessions trash files slices : ℕ) where
  abbrev Ends : Type 0
  Ends = MayEndCleaning run journal client d.stage

  none_settled : (flushed : Bool) (r : Reply) → Fine sessions trash files slices ≡ told_of r → MayReply DoesClean flushed r → ⊥
  none_settled flushed r e (IsRefusedReply h) = fine_not_refused (Fine sessions trash files slices) r refl e h
  none_settled flushed r e (IsDoneReply f never) = never

  ended : (k : Cleaning) → d.stage ≡ Cleans k → OneHolds (is_last k.part) (items k == MAX_ITEMS) → Ends
  ended k e (First last) = HadFewer (last_found run journal client k.part last (subst (FoundAt run journal client) e found))
  ended k e (Second most) = HadMost k e (grind (arith, nat_tests))

  answer_ends : MayAnswer start alone s client now c d (Fine sessions trash files slices) → Ends
  answer_ends (Fails m f) = absurd (cc)
  answer_ends (Decided r e same) = absurd (none_settled (is_flushed d.flush c.pending) r same (subst (StageOk DoesClean (is_flushed d.flush c.pending)) e ok))
  answer_ends (AtOnce a) = let is = does in let never = a.same in absurd (cc)
  answer_ends (CountsCache hits misses cached ready first e same) = let is = does in absurd (cc)
  answer_ends (ReadsViews r) = let never = r.same in absurd (cc)
  answer_ends (CleanedUp h) = ended h.k h.stage (one_holds _ _ h.over)
  answer_ends (HasCompacted (TooShort k records e q m few same)) = let never = subst (λ x. IsTrue (stage_fits DoesClean x)) e fits in absurd (cc)
  answer_ends (HasCompacted (HasReplaced k before after e m few same)) = let never = subst (λ x. IsTrue (stage_fits DoesClean x)) e fits in absurd (cc)
  answer_ends (HasCollected count bytes j same) = absurd (judges_none d.stage (subst (λ x. IsTrue (has_judged x d.stage)) does j))
  answer_ends (HasUploaded e h) = let is = does in absurd (cc)
  answer_ends (Refuses fault m h same) = absurd (cc)

  entry_ends : (kind : ActKind) → kind ≡ Answered (Fine sessions trash files slices) → MayStep start alone s client now c d kind → Ends
  entry_ends kind k may = answer_ends (subst (MayStep start alone s client now c d) k may)

ended_by : (run : Setup) (journal : List Act) (p : Past) (act : Act) → Entry p act → (act.client ≡ NO_CLIENT → ⊥) → (d : Doing)
    → (p.state.clients act.client).doing ≡ Some d → d.does ≡ DoesClean → IsTrue (stage_fits DoesClean d.stage)
    → StageOk DoesClean (is_flushed d.flush (p.state.clients act.client).pending) d.stage → FoundAt run journal act.client d.stage
    → (sessions trash files slices : ℕ) → act.kind ≡ Answered (Fine sessions trash files slices) → MayEndCleaning run journal act.client d.stage
ended_by run journal p act (Steps x e may) some d busy does fits ok found sessions trash files slices k =
    let same : x ≡ d = cc in
    entry_ends run journal p.run.start (p.run.uploads == 0) p.state act.client act.at (p.state.clients act.client) d does fits ok found sessions trash files slices act.kind k
    (subst (λ y. MayStep p.run.start (p.run.uploads == 0) p.state act.client act.at (p.state.clients act.client) y act.kind) same may)
ended_by run journal p act (RefusedSubmission fault e (RefusesSubmission k')) some d busy does fits ok found sessions trash files slices k = absurd (cc)
ended_by run journal p act (RefusedSubmission fault e (RefusalLacks b k')) some d busy does fits ok found sessions trash files slices k = absurd (cc)
ended_by run journal p act (LacksMemory e k') some d busy does fits ok found sessions trash files slices k = absurd (cc)
ended_by run journal p act (Crashes e k') some d busy does fits ok found sessions trash files slices k = absurd (cc)
ended_by run journal p act (OfPublish e h) some d busy does fits ok found sessions trash files slices k = absurd (some e)
ended_by run journal p act (OfDrain client e due h) some d busy does fits ok found sessions trash files slices k = absurd (some e)
ended_by run journal p act (Ticks by e k') some d busy does fits ok found sessions trash files slices k = absurd (some e)

does_clean : (limits : Limits) (o : Op) (does : Does) → o ≡ op.Clean → does ≡ by_limits limits (profile o).does → does ≡ DoesClean
does_clean limits o does e is = is ∙ ap (λ x. by_limits limits (profile x).does) e

pub cleans_due : CleansWhatIsDue
cleans_due run journal act may some d busy e sessions trash files slices k =
    let parts = AllAllowed-parts (at_start run) journal (act ∷ []) may in
    let p = begun_to act.line (reached run journal) in
    let c = p.state.clients act.client in
    let h : Sound run.limits c.handles c.pending d = subst (SoundIf run.limits c.handles c.pending) busy (sound run journal parts.0 act.line act.client some) in
    let does = does_clean run.limits d.op d.does e h.does in
    let fits : IsTrue (stage_fits d.does d.stage) = subst FitsIf busy (all_fit run journal parts.0 act.line act.client some) in
    let found : FoundAt run journal act.client d.stage = subst (FoundIf run journal act.client) busy (all_found run journal parts.0 act.line act.client some) in
    ended_by run journal p act (entry_of p act parts.1.0) some d busy does (subst (λ x. IsTrue (stage_fits x d.stage)) does fits)
    (subst (λ x. StageOk x (is_flushed d.flush c.pending) d.stage) does h.stage) found sessions trash files slices k
