-- What a compaction has looked at.
use Rattle.std.proofs.Common.{◌≡◌, ℕ, ◌+◌, ◌<◌, Bool, true, false, ◌||◌, ◌==◌, if◌then◌else◌, IsSomeAnd, IfSome, MatchBool, inl, inr, List, [], ◌∷◌, ◌++◌, length, is_some, Option, None, Some, Result, Ok, Err, refl, sym, ap, subst, ◌∙◌, arith, length-append}
use Rattle.std.proofs.lemmas.Bool.Decides.{leb_tells, eqb_tells}
use Rattle.jv_model.specs.declared.act.TheConstants.{NO_CLIENT}
use Rattle.jv_model.specs.declared.act.Act.{Act}
use Rattle.jv_model.specs.declared.act.ActKind.{ActKind}
use Rattle.jv_model.specs.declared.act.ActKind.TheVariants.{Mounted, Meta, Opened, Look, Commit, Truncated, Copied, Compacted, Settled, Expired, Purged, Cleaned, Quiet, Miss, Crashed, Ticked, Answered}
use Rattle.jv_model.specs.declared.act.Told.{Told}
use Rattle.jv_model.specs.declared.act.Told.TheVariants.{Fine, Looks, Refused as ToldRefused}
use Rattle.jv_model.specs.declared.fault.Fault.{Fault}
use Rattle.jv_model.specs.declared.fault.Fault.TheVariants.{InProgress}
use Rattle.jv_model.specs.declared.op.Op.{Op}
use Rattle.jv_model.specs.declared.op.Op.TheVariants as op
use Rattle.jv_model.specs.declared.op.Reply.{Reply}
use Rattle.jv_model.specs.declared.op.Reply.TheVariants as reply
use Rattle.jv_model.specs.declared.profile.Does.{Does}
use Rattle.jv_model.specs.declared.profile.Does.TheVariants.{Answers, Mounts, Transacts, Releases, Reads, Truncates, Copies, Compacts, Cleans as DoesClean, Collects, Uploads}
use Rattle.jv_model.specs.promise.tree.Attempt.{◌>>=◌}
use Rattle.jv_model.specs.promise.client.Pending.{without_range}
use Rattle.jv_model.specs.promise.client.Origins.{Owed, Marks}
use Rattle.jv_model.specs.promise.client.Profile.{handle_of}
use Rattle.jv_model.specs.promise.client.ModelClient.{ModelClient, View, Doing, Stage, Cleaning, Compaction, Working, Reading, Missing, LookedAgain, Compacting, Cleans, Listed, Judged, Removing, Published, Replying, unmounted, with_stage, views_without}
use Rattle.jv_model.specs.promise.client.Submission.{submission, submitted, is_flushed}
use Rattle.jv_model.specs.promise.journal.State.{State, with_client, set_client, given, transacted, newly_sustained, next_entry, gift_of, after_transaction, has_session, removes_block, quieted, begun_quietly, flushing_on, cleaning_on, after_judging, looked, compaction_looked, missed, committed_stage, answer_then, replaced, after_told, answered_client, is_of_another, after_step, of_doing, changed, effect, view_now, is_compaction, sees_first, first_cleaning}
use Rattle.jv_model.specs.promise.journal.Reading.{asked_parts}
use Rattle.jv_model.specs.promise.journal.Steps.{Start, LooksAt, CompactionLooks, First, Again, MayStep}
use Rattle.jv_model.specs.promise.journal.Past.{Setup, Past, at_start, begun_to, reached}
use Rattle.jv_model.specs.promise.journal.Legal.{Allowed, AllAllowed, Refuses as RefusesSubmission, LacksMemory as RefusalLacks}
use Rattle.jv_model.specs.journal.Looks.{entry_at}
use Rattle.jv_model.specs.journal.Stepping.{is_answer}
use Rattle.jv_model_laws.specs.Laws.{ends_operation}
use Rattle.jv_model_laws.proofs.JournalGrowthLaws.{own_client, others_kept}
use Rattle.jv_model_laws.proofs.JournalStateLaws.{Entry, Steps, RefusedSubmission, LacksMemory, Crashes, Publishes as OfPublish, OfDrain, Ticks, entry_of, entry_before, entry_last, entry_past, entry_within, holds_on, state-more, of_kind}
use Rattle.jv_model_laws.proofs.JournalLooksLaws.{IsLook, state_after, states_same, state_last, origins_in, look_marks}
use Rattle.jv_model_laws.proofs.JournalDoingLaws.{doing_given}

-- the view of a compaction

-- it is of a look that the operation in progress took at its own window
pub record IsOwnLook (run : Setup) (pre : List Act) (client : ℕ) (o : Op) (view : View) : Type 0 where
  pub path : List ℕ
  pub compacts : o ≡ op.Compact path view.window
  pub looked : IsSomeAnd (entry_at pre view.entry) (IsLook client view.inode view.window)
  pub goes_on : (later : ℕ) → view.entry < later → IfSome (entry_at pre later) (λ act. act.client ≡ client → ends_operation act.kind ≡ false)
  pub origin : view.origin ≡ origins_in (state_after run pre view.entry) view.inode

abbrev pub LookedAt : Setup → List Act → ℕ → Op → Stage → Type 0
LookedAt run pre client o (Compacting k) = IsOwnLook run pre client o k.view
LookedAt run pre client o _ = Unit {0}

abbrev pub LookedIf : Setup → List Act → ℕ → Option Doing → Type 0
LookedIf run pre client None = Unit {0}
LookedIf run pre client (Some d) = LookedAt run pre client d.op d.stage

-- the window that a compaction looks at

abbrev window_in : Result (ℕ × ℕ) Fault → ℕ
window_in (Ok target) = target.1
window_in (Err fault) = 0

bound_window : (found : Result ℕ Fault) (inode own window : ℕ) → ◌>>=◌ {B = ℕ × ℕ} found (λ file. Ok (file, own)) ≡ Ok (inode, window) → own ≡ window
bound_window (Ok file) inode own window e = ap window_in e
bound_window (Err fault) inode own window e = absurd (cc)

record IsCompactAt (o : Op) (window : ℕ) : Type 0 where
  path : List ℕ
  compacts : o ≡ op.Compact path window

first_window : (s : State) (client now : ℕ) (c : ModelClient) (d : Doing) (does : Does) (o : Op) (inode window : ℕ) → CompactionLooks s client now c (record d { op = o; does = does }) inode window
    → ((k : Compaction) → d.stage ≡ Compacting k → IsCompactAt o k.view.window) → IsCompactAt o window
first_window s client now c d (Compacts None) (op.Compact path own) inode window (First ready e) before = record { path = path; compacts = ap (op.Compact path) (bound_window _ inode own window e) }
first_window s client now c d (Compacts (Some given)) (op.Compact path own) inode window (First ready e) before = record { path = path; compacts = ap (op.Compact path) (bound_window _ inode own window e) }
first_window s client now c d does o inode window (Again k stage again file at session there) before = subst (IsCompactAt o) (sym at) (before k stage)
first_window s client now c d does o inode window (First ready e) before = absurd (cc)

-- one more entry

module _ (run : Setup) (pre : List Act) (e : Act) where
  abbrev more : List Act
  more = pre ++ e ∷ []

  abbrev GoesOn : ℕ → Act → Type 0
  GoesOn client act = act.client ≡ client → ends_operation act.kind ≡ false

  past_last : (k : ℕ) → length pre + 1 < k → entry_at more k ≡ None
  past_last k h = entry_past more k (let l = length-append pre (e ∷ []) in omega (arith, l, h))

  look_later : (client : ℕ) (o : Op) (view : View) → GoesOn client e → IsOwnLook run pre client o view → IsOwnLook run more client o view
  look_later client o view on h =
      let low = entry_within pre view.entry (IsLook client view.inode view.window) h.looked in
      record {
        path = h.path;
        compacts = h.compacts;
        looked = subst (λ x. IsSomeAnd x (IsLook client view.inode view.window)) (sym (entry_before pre e view.entry low)) h.looked;
        goes_on = λ k later. elim (leb_tells k (length pre)) [
          | inl within ↦ subst (λ x. IfSome x (GoesOn client)) (sym (entry_before pre e k within.1)) (h.goes_on k later)
          | inr high ↦ elim (leb_tells k (length pre + 1)) [
            | inl at ↦ (let same : k ≡ length pre + 1 = omega (arith, high.1, at.1) in subst (λ x. IfSome x (GoesOn client)) (sym (ap (entry_at more) same ∙ entry_last pre e)) on)
            | inr past ↦ subst (λ x. IfSome x (GoesOn client)) (sym (past_last k past.1)) tt
          ]
        ];
        origin = h.origin ∙ sym (ap (λ s. origins_in s view.inode) (states_same run pre e view.entry low));
      }

  at_later : (client : ℕ) (o : Op) (stage : Stage) → GoesOn client e → LookedAt run pre client o stage → LookedAt run more client o stage
  at_later client o (Compacting k) on h = look_later client o k.view on h
  at_later client o _ on h = tt

  if_later : (client : ℕ) (o : Option Doing) → GoesOn client e → LookedIf run pre client o → LookedIf run more client o
  if_later client None on h = tt
  if_later client (Some d) on h = at_later client d.op d.stage on h

-- an entry of an operation

module _ (run : Setup) (pre : List Act) (act : Act) (start : Start) (alone : Bool) (s : State) (here : (begun_to act.line (reached run pre)).state ≡ s) (count : s.count ≡ length pre) (d : Doing) (busy : (s.clients act.client).doing ≡ Some d) where
  abbrev c : ModelClient
  c = s.clients act.client

  abbrev Then : Stage → Type 0
  Then stage = LookedAt run (pre ++ act ∷ []) act.client d.op stage

  abbrev Before : Stage → Type 0
  Before stage = LookedAt run pre act.client d.op stage

  staged : (stage : Stage) (x : ModelClient) (o : Option Doing) → o ≡ Some d → Then stage
      → LookedIf run (pre ++ act ∷ []) act.client (elim o as (λ _. ModelClient) [ None ↦ x | Some y ↦ record x { doing = Some (record y { stage = stage; moved = true }) } ]).doing
  staged stage x None e h = absurd (cc)
  staged stage x (Some y) e h = let same : d ≡ y = cc in subst (λ (z : Doing). LookedAt run (pre ++ act ∷ []) act.client z.op stage) same h

  own_with : (stage : Stage) (x : ModelClient) → x.doing ≡ Some d → Then stage
      → LookedIf run (pre ++ act ∷ []) act.client (with_client s.clients act.client (with_stage stage x) act.client).doing
  own_with stage x e h = subst (λ (y : ModelClient). LookedIf run (pre ++ act ∷ []) act.client y.doing) (sym (own_client s.clients act.client (with_stage stage x))) (staged stage x x.doing e h)

  own_stage : (stage : Stage) → Then stage → LookedIf run (pre ++ act ∷ []) act.client (with_client s.clients act.client (with_stage stage c) act.client).doing
  own_stage stage h = own_with stage c busy h

  then_either : (b : Bool) (x y : Stage) → Then x → Then y → Then (if b then x else y)
  then_either true x y h g = h
  then_either false x y h g = g

  then_refused : (stage : Stage) (o : Option Reply) → Then stage → Then (elim o [ None ↦ stage | Some answer ↦ Replying answer ])
  then_refused stage None h = h
  then_refused stage (Some r) h = tt

  then_answer : (b : Bool) (o : Option Reply) → Then (if b then elim o [ None ↦ Working 0 0 | Some answer ↦ Replying answer ] else Working 0 0)
  then_answer true None = tt
  then_answer true (Some r) = tt
  then_answer false o = tt

  then_flushing : (quiets started : ℕ) → Then (flushing_on s c act.at quiets started)
  then_flushing quiets started = then_either (quiets == 0) _ _ (then_either (has_session s.tree c) (Working 1 0) _ tt tt) (then_either (quiets == 1) (Working 2 act.at) (Working (quiets + 1) started) tt tt)

  then_cleaning : (k : Cleaning) → Then (cleaning_on s c k)
  then_cleaning k = then_either (has_session s.tree c || removes_block k.part) _ _ tt tt

  then_judging : (does : Does) → Then (after_judging does)
  then_judging (Collects true) = tt
  then_judging _ = tt

  -- a look of a compaction

  last_state : state_after run (pre ++ act ∷ []) (next_entry s) ≡ (reached run (pre ++ act ∷ [])).state
  last_state = ap (λ n. state_after run (pre ++ act ∷ []) (n + 1)) count ∙ state_last run pre act

  module _ (inode window : ℕ) (k : act.kind ≡ Look inode window) where
    marks_now : (reached run (pre ++ act ∷ [])).state.marks ≡ s.marks
    marks_now = ap (λ (t : State). t.marks) (state-more run pre act ∙ ap (λ t. effect t act) here) ∙ look_marks s act inode window act.kind k

    own_now : IsCompactAt d.op window → IsOwnLook run (pre ++ act ∷ []) act.client d.op (view_now s 0 inode window)
    own_now at = record {
      path = at.path;
      compacts = at.compacts;
      looked = subst (λ x. IsSomeAnd x (IsLook act.client inode window)) (sym (ap (λ n. entry_at (pre ++ act ∷ []) (n + 1)) count ∙ entry_last pre act)) (refl, k);
      goes_on = λ later h. subst (λ x. IfSome x (GoesOn run pre act act.client)) (sym (past_last run pre act later (omega (arith, h, count)))) tt;
      origin = ap (λ (marks : Marks). λ position. (marks inode position).origin) (sym (ap (λ (t : State). t.marks) last_state ∙ marks_now));
    }

    then_compaction : (stage : Stage) → IsCompactAt d.op window → Then (compaction_looked (view_now s 0 inode window) stage)
    then_compaction (Compacting x) at = own_now at
    then_compaction _ at = own_now at

  before_window : Before d.stage → (k : Compaction) → d.stage ≡ Compacting k → IsCompactAt d.op k.view.window
  before_window h k e = let own : IsOwnLook run pre act.client d.op k.view = subst Before e h in record { path = own.path; compacts = own.compacts }

  module _ (on : ends_operation act.kind ≡ false) where
    kept : (stage : Stage) → Before stage → Then stage
    kept stage h = at_later run pre act act.client d.op stage (λ own. on) h

    then_looked : (stage : Stage) → Before stage → Then (looked stage)
    then_looked (Compacting k) h = kept (Compacting k) h
    then_looked (Working quiets started) h = tt
    then_looked (Reading misses) h = tt
    then_looked (Missing misses window owed) h = tt
    then_looked (LookedAgain misses window owed) h = tt
    then_looked (Cleans k) h = tt
    then_looked Listed h = tt
    then_looked Judged h = tt
    then_looked (Removing requests) h = tt
    then_looked Published h = tt
    then_looked (Replying r) h = tt

    then_missed : (window : ℕ) (owed : List Owed) (stage : Stage) → Before stage → Then (missed window owed stage)
    then_missed window owed (Compacting k) h = kept (Compacting k) h
    then_missed window owed (Working quiets started) h = tt
    then_missed window owed (Reading misses) h = tt
    then_missed window owed (Missing misses at before) h = tt
    then_missed window owed (LookedAgain misses at before) h = tt
    then_missed window owed (Cleans k) h = tt
    then_missed window owed Listed h = tt
    then_missed window owed Judged h = tt
    then_missed window owed (Removing requests) h = tt
    then_missed window owed Published h = tt
    then_missed window owed (Replying r) h = tt

    then_replaced : (stage : Stage) → Before stage → Then (replaced stage)
    then_replaced (Compacting k) h = kept (Compacting k) h
    then_replaced _ h = tt

    then_begun : (does : Does) → Before d.stage → Then (begun_quietly s act.client c act.at d does)
    then_begun (Answers told) h = kept d.stage h
    then_begun (Mounts writeback) h = kept d.stage h
    then_begun Transacts h = kept d.stage h
    then_begun Releases h = kept d.stage h
    then_begun (Reads offset len) h = then_either (sees_first c d (asked_parts offset len)) _ _ tt (then_refused d.stage _ (kept d.stage h))
    then_begun Truncates h = tt
    then_begun Copies h = tt
    then_begun (Compacts None) h = tt
    then_begun (Compacts (Some inode)) h = then_refused d.stage _ (kept d.stage h)
    then_begun DoesClean h = then_cleaning first_cleaning
    then_begun (Collects delete) h = tt
    then_begun Uploads h = tt

    then_quieted : (stage : Stage) → Before d.stage → Before stage → Then (quieted s act.client c act.at d stage)
    then_quieted (Working quiets started) all h = then_either (is_flushed d.flush c.pending) _ _ (then_begun d.does all) (then_flushing quiets started)
    then_quieted (Reading misses) all h = tt
    then_quieted (Missing misses window owed) all h = then_refused (Missing misses window owed) _ tt
    then_quieted (LookedAgain misses window owed) all h = tt
    then_quieted (Compacting k) all h = then_either (is_some k.missed) _ _ (then_refused (Compacting k) _ (kept (Compacting k) h)) (kept (Compacting k) h)
    then_quieted (Cleans k) all h = then_cleaning k
    then_quieted Listed all h = then_either (has_session s.tree c) _ _ tt tt
    then_quieted Judged all h = then_judging d.does
    then_quieted (Removing requests) all h = tt
    then_quieted Published all h = tt
    then_quieted (Replying answer) all h = tt

    own_look : (inode window : ℕ) → act.kind ≡ Look inode window → (compacts : Bool) → Before d.stage
        → MatchBool compacts (CompactionLooks s act.client act.at c d inode window) (LooksAt s c d inode window)
        → LookedIf run (pre ++ act ∷ []) act.client (with_client s.clients act.client (if compacts
        then with_stage (compaction_looked (view_now s 0 inode window) d.stage) c
        else with_stage (looked d.stage) (record c { views = view_now s (handle_of d.op) inode window ∷ c.views })) act.client).doing
    own_look inode window k true h may = own_stage _ (then_compaction inode window k d.stage (first_window s act.client act.at c d d.does d.op inode window may (before_window h)))
    own_look inode window k false h may = own_with _ (record c { views = view_now s (handle_of d.op) inode window ∷ c.views }) busy (then_looked d.stage h)

  own_transaction : LookedIf run (pre ++ act ∷ []) act.client ((after_transaction s act.client act.at d).clients act.client).doing
  own_transaction =
      let done = transacted s act.client act.at d.op in
      let sustained : List ℕ = newly_sustained s.tree done.tree c ++ c.sustained in
      let old : ModelClient = record c { sustained = sustained } in
      own_with (Replying done.reply) (given (next_entry s) d.does (gift_of done.reply) old) (doing_given (next_entry s) d.does (gift_of done.reply) old ∙ busy) tt

  own_commit : (inode from len : ℕ)
      → LookedIf run (pre ++ act ∷ []) act.client (with_client s.clients act.client (with_stage (committed_stage (record c { pending = without_range inode from len c.pending; views = views_without inode c.views }) d) (record c { pending = without_range inode from len c.pending; views = views_without inode c.views })) act.client).doing
  own_commit inode from len =
      let rest : ModelClient = record c { pending = without_range inode from len c.pending; views = views_without inode c.views } in
      own_with (committed_stage rest d) rest busy (then_answer (is_flushed d.flush rest.pending) (answer_then rest d))

  own_step : (kind : ActKind) → act.kind ≡ kind → is_answer kind ≡ false → Before d.stage → MayStep start alone s act.client act.at c d kind
      → LookedIf run (pre ++ act ∷ []) act.client ((after_step s act d kind).clients act.client).doing
  own_step (Mounted sid) e open_yet h may = own_transaction
  own_step Meta e open_yet h may = own_transaction
  own_step (Opened handle inode) e open_yet h may = own_transaction
  own_step (Look inode window) e open_yet h may = own_look (ap ends_operation e) inode window e (is_compaction d.does) h may
  own_step (Commit inode from len left) e open_yet h may = own_commit inode from len
  own_step (Truncated inode len) e open_yet h may = own_with (Replying reply.Done) (record c { views = views_without inode c.views }) busy tt
  own_step (Copied source from target to len) e open_yet h may = own_with (Replying (reply.Count len)) (record c { views = views_without target c.views }) busy tt
  own_step (Compacted inode window from to) e open_yet h may = own_stage _ (then_replaced (ap ends_operation e) d.stage h)
  own_step (Settled commit) e open_yet h may = own_stage _ (then_quieted (ap ends_operation e) d.stage h h)
  own_step (Expired sid) e open_yet h may = own_stage (Cleans _) tt
  own_step (Purged inode) e open_yet h may = own_stage (Cleans _) tt
  own_step (Cleaned table key) e open_yet h may = own_stage (Cleans _) tt
  own_step Quiet e open_yet h may = own_stage _ (then_quieted (ap ends_operation e) d.stage h h)
  own_step (Miss inode window) e open_yet h may = own_stage _ (then_missed (ap ends_operation e) window s.owed d.stage h)
  own_step Crashed e open_yet h may = absurd may
  own_step (Ticked by) e open_yet h may = absurd may
  own_step (Answered told) e open_yet h may = absurd (cc)

-- answers

of_another : (stage : Stage) (told : Told) → is_of_another stage told ≡ true → ends_operation (Answered told) ≡ false
of_another (Replying r) told e = absurd (cc)
of_another stage (ToldRefused InProgress) e = refl
of_another stage _ e = absurd (cc)

module _ (run : Setup) (pre : List Act) (act : Act) where
  abbrev Later : ModelClient → Type 0
  Later x = LookedIf run (pre ++ act ∷ []) act.client x.doing

  after_told_looks : (o : Op) (told : Told) (x : ModelClient) → Later (after_told o told x)
  after_told_looks o (Fine a b e f) x = tt
  after_told_looks o (Looks first second len) x = tt
  after_told_looks o (ToldRefused fault) x = tt

  either_looks : (other : Bool) (x y : ModelClient) → (other ≡ true → Later x) → Later y → Later (if other then x else y)
  either_looks true x y h g = h refl
  either_looks false x y h g = g

  answered_if : (told : Told) (x : ModelClient) (o : Option Doing) → act.kind ≡ Answered told → x.doing ≡ o → LookedIf run pre act.client o
      → Later (elim o as (λ _. ModelClient) [ None ↦ x | Some d ↦ (if is_of_another d.stage told then x else after_told d.op told x) ])
  answered_if told x None k e h = subst (LookedIf run (pre ++ act ∷ []) act.client) (sym e) tt
  answered_if told x (Some d) k e h =
      either_looks (is_of_another d.stage told) x (after_told d.op told x)
      (λ other. subst (LookedIf run (pre ++ act ∷ []) act.client) (sym e) (at_later run pre act act.client d.op d.stage (λ own. ap ends_operation k ∙ of_another d.stage told other) h))
      (after_told_looks d.op told x)

  answered_looks : (s : State) (told : Told) → act.kind ≡ Answered told → LookedIf run pre act.client (s.clients act.client).doing
      → Later (with_client s.clients act.client (answered_client told (s.clients act.client)) act.client)
  answered_looks s told k h = subst Later (sym (own_client s.clients act.client (answered_client told (s.clients act.client)))) (answered_if told (s.clients act.client) (s.clients act.client).doing k refl h)

  doing_looks : (start : Start) (alone : Bool) (s : State) → (begun_to act.line (reached run pre)).state ≡ s → s.count ≡ length pre → (kind : ActKind) → act.kind ≡ kind
      → is_answer kind ≡ false → (o : Option Doing) → (s.clients act.client).doing ≡ o
      → LookedIf run pre act.client o → (d : Doing) → o ≡ Some d → MayStep start alone s act.client act.at (s.clients act.client) d kind
      → Later ((of_doing s (of_kind act kind) o).clients act.client)
  doing_looks start alone s here count kind k open_yet None e h d is may = absurd (cc)
  doing_looks start alone s here count kind k open_yet (Some x) e h d is may =
      let same : d ≡ x = cc in
      own_step run pre act start alone s here count x e kind k open_yet h (subst (λ y. MayStep start alone s act.client act.at (s.clients act.client) y kind) same may)

  changed_looks : (start : Start) (alone : Bool) (s : State) → (begun_to act.line (reached run pre)).state ≡ s → s.count ≡ length pre → (kind : ActKind) → act.kind ≡ kind
      → LookedIf run pre act.client (s.clients act.client).doing
      → (d : Doing) → (s.clients act.client).doing ≡ Some d → MayStep start alone s act.client act.at (s.clients act.client) d kind
      → Later ((changed s (of_kind act kind) kind).clients act.client)
  changed_looks start alone s here count Crashed k h d e may = absurd may
  changed_looks start alone s here count (Answered told) k h d e may = answered_looks s told k h
  changed_looks start alone s here count kind k h d e may = doing_looks start alone s here count kind k refl (s.clients act.client).doing refl h d e may

  told_entry_looks : (s : State) (told : Told) (kind : ActKind) → act.kind ≡ kind → kind ≡ Answered told
      → LookedIf run pre act.client (s.clients act.client).doing → Later ((effect s (of_kind act kind)).clients act.client)
  told_entry_looks s told kind k e h = subst (λ x. Later ((effect s (of_kind act x)).clients act.client)) (sym e) (answered_looks s told (k ∙ e) h)

  crash_looks : (s : State) (kind : ActKind) → kind ≡ Crashed → Later ((effect s (of_kind act kind)).clients act.client)
  crash_looks s kind e = subst (λ x. Later ((effect s (of_kind act x)).clients act.client)) (sym e) (subst Later (sym (own_client s.clients act.client unmounted)) tt)

  own_looks : (p : Past) → (begun_to act.line (reached run pre)).state ≡ p.state → p.state.count ≡ length pre → Entry p act → (act.client ≡ NO_CLIENT → ⊥)
      → LookedIf run pre act.client (p.state.clients act.client).doing → Later ((effect p.state act).clients act.client)
  own_looks p here count (Steps d e may) some h = changed_looks p.run.start (p.run.uploads == 0) p.state here count act.kind refl h d e may
  own_looks p here count (RefusedSubmission fault e (RefusesSubmission k)) some h = told_entry_looks p.state _ act.kind refl k h
  own_looks p here count (RefusedSubmission fault e (RefusalLacks b k)) some h = told_entry_looks p.state _ act.kind refl k h
  own_looks p here count (LacksMemory e k) some h = told_entry_looks p.state _ act.kind refl k h
  own_looks p here count (Crashes e k) some h = crash_looks p.state act.kind k
  own_looks p here count (OfPublish e k) some h = absurd (some e)
  own_looks p here count (OfDrain client e due k) some h = absurd (some e)
  own_looks p here count (Ticks by e k) some h = absurd (some e)

-- all clients

pub record Looked (run : Setup) (pre : List Act) (s : State) : Type 0 where
  pub count : s.count ≡ length pre
  pub clients : (client : ℕ) → (client ≡ NO_CLIENT → ⊥) → LookedIf run pre client (s.clients client).doing

looked_enters : (run : Setup) (pre : List Act) (act : Act) → Allowed (begun_to act.line (reached run pre)) act
    → Looked run pre (begun_to act.line (reached run pre)).state
    → Looked run (pre ++ act ∷ []) (effect (begun_to act.line (reached run pre)).state act)
looked_enters run pre act may all =
    let p = begun_to act.line (reached run pre) in
    record {
      count = ap (λ n. n + 1) all.count ∙ sym (length-append pre (act ∷ []));
      clients = λ client some. elim (eqb_tells client act.client) [
        | inl own ↦ subst (λ q. LookedIf run (pre ++ act ∷ []) q ((effect p.state act).clients q).doing) (sym own.1)
            (own_looks run pre act p refl all.count (entry_of p act may) (λ e. some (own.1 ∙ e)) (all.clients act.client (λ e. some (own.1 ∙ e))))
        | inr other ↦ subst (λ (x : ModelClient). LookedIf run (pre ++ act ∷ []) client x.doing) (sym (others_kept p.state act client other.1))
            (if_later run pre act client (p.state.clients client).doing (λ same. absurd (other.1 (sym same))) (all.clients client some))
      ];
    }

looked_submits : (run : Setup) (pre : List Act) (s : State) (client : ℕ) (o : Op) → submission (s.clients client) o ≡ None → Looked run pre s
    → Looked run pre (set_client s client (submitted run.limits o (s.clients client)))
looked_submits run pre s client o none all = record {
  count = all.count;
  clients = λ other some. elim (eqb_tells other client) [
    | inl same ↦ subst (λ b. LookedIf run pre other (if b then submitted run.limits o (s.clients client) else s.clients other).doing) (sym same.0) tt
    | inr apart ↦ subst (λ b. LookedIf run pre other (if b then submitted run.limits o (s.clients client) else s.clients other).doing) (sym apart.0) (all.clients other some)
  ];
}

pub all_looked : (run : Setup) (journal : List Act) → AllAllowed (at_start run) journal → (line : ℕ) → Looked run journal (begun_to line (reached run journal)).state
all_looked run journal may line = holds_on run (Looked run) (looked_submits run) (looked_enters run) (record { count = refl; clients = λ client some. tt }) journal may line
