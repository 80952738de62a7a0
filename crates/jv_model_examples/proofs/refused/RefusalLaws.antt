-- What an entry needs, in the form in which closed examples of journals that may not be use it.
use Rattle.std.proofs.Common.{◌≡◌, ◌≤◌, ◌<◌, ◌+◌, ℕ, Bool, true, false, ◌&&◌, ◌==◌, nat_lt, IsTrue, Option, None, Some, List, [], ◌∷◌, ◌++◌, length, refl, sym, arith, ap, ◌∙◌, subst}
use Rattle.std.specs.List.{list_any}
use Rattle.std.specs.Option.{option_map}
use Rattle.jv_model.specs.declared.lifetimes.TheConstants.{UPLOAD_LIFE}
use Rattle.jv_model.specs.declared.act.Act.{Act}
use Rattle.jv_model.specs.declared.act.ActKind.{ActKind}
use Rattle.jv_model.specs.declared.act.Told.{Told}
use Rattle.jv_model.specs.declared.act.Told.TheVariants.{Fine, Looks, Refused as ToldRefused}
use Rattle.jv_model.specs.declared.fault.Fault.{Fault}
use Rattle.jv_model.specs.declared.fault.Fault.TheVariants.{TryAgain, TimedOut, NoMemory, Contended}
use Rattle.jv_model.specs.declared.fault.Busy.TheVariants.{Lists}
use Rattle.jv_model.specs.declared.op.Op.{Op}
use Rattle.jv_model.specs.declared.op.Reply.{Reply}
use Rattle.jv_model.specs.declared.profile.Answer.TheVariants.{CacheStats}
use Rattle.jv_model.specs.declared.profile.Does.{Does}
use Rattle.jv_model.specs.declared.profile.Does.TheVariants.{Answers, Compacts, Collects, Uploads}
use Rattle.jv_model.specs.promise.client.ModelClient.{ModelClient, Compaction, Doing, OpenFile, View, Flush, Stage, Working, LookedAgain, Compacting, Judged, Removing, Replying, Cleans}
use Rattle.jv_model.specs.client.ModelClient.{is_replying}
use Rattle.jv_model.specs.promise.client.Origins.{Origin, Start as AtStart, Zero, Committed, Made, missing_owner}
use Rattle.jv_model.specs.promise.client.Profile.{handle_of}
use Rattle.jv_model.specs.promise.journal.Reading.{fresh_view, reading}
use Rattle.jv_model.specs.promise.journal.State.{State, FileChange, answer_then}
use Rattle.jv_model.specs.promise.journal.Steps.{Start, IsEntry, MayStep, MayAnswer, Fails, Decided, AtOnce, CountsCache, ReadsViews, CleanedUp, HasCompacted, TooShort, HasReplaced, HasCollected, HasUploaded, Sent, FoundNone, Refuses}
use Rattle.jv_model.specs.promise.journal.Steps.{IsRefusedIn, SessionGone, InodeGone, CommitLate, CommitTooLarge, NumberRefused, CompactionCrowded, CompactionLate, AnotherList, BlockOwed, MissedTooOften, InReading, InCompaction}
use Rattle.jv_model.specs.promise.journal.Steps.{AnswersAtOnce, ReadsFresh, MayBeGone, Owes, MayBeCleaned, MissesBlock, may_be_cleaned, asked_of, file_in_use, begins_step, told_of, is_failure, has_judged, is_working}
use Rattle.jv_model.specs.promise.journal.Past.{Past, begun_to, advance, past}
use Rattle.jv_model.specs.promise.journal.Legal.{Allowed, AllAllowed}
use Rattle.jv_model.proofs.TestLaws.{either_kept}

pub never : false ≡ true → ⊥
never e = absurd (cc)

-- each entry of a journal may stand where it stands
pub entry_is_allowed : (p : Past) (acts : List Act) (act : Act) (more : List Act) → AllAllowed p (acts ++ act ∷ more) → Allowed (begun_to act.line (past p acts)) act
entry_is_allowed p [] act more all = all.0
entry_is_allowed p (before ∷ acts) act more all = entry_is_allowed (advance p before) acts act more all.1

abbrev or_else : {X : Type 0} → X → Option X → X
or_else other None = other
or_else other (Some x) = x

pub same_some : {X : Type 0} {x y : X} → ◌≡◌ {A = Option X} (Some x) (Some y) → x ≡ y
same_some {x = x} e = ap (or_else x) e

-- an entry of the operation that is known to be in progress
pub own_step : {start : Start} {alone : Bool} {s : State} {client now : ℕ} {kind : ActKind} {begins : Bool} {d : Doing}
    → IsEntry start alone s client now kind begins → (s.clients client).doing ≡ Some d → MayStep start alone s client now (s.clients client) d kind
own_step {start} {alone} {s} {client} {now} {kind} h busy = subst (λ x. MayStep start alone s client now (s.clients client) x kind) (same_some (sym h.busy ∙ busy)) h.may

pub own_begins : {start : Start} {alone : Bool} {s : State} {client now : ℕ} {kind : ActKind} {begins : Bool} {d : Doing}
    → IsEntry start alone s client now kind begins → (s.clients client).doing ≡ Some d → begins_step d kind ≡ begins
own_begins {kind = kind} h busy = ap (λ x. begins_step x kind) (same_some (sym busy ∙ h.busy)) ∙ h.begins_is

abbrev pub first_number : Told → ℕ
first_number (Fine a b c d) = a
first_number _ = 0

judged_is_over : (does : Does) (stage : Stage) → IsTrue (has_judged does stage) → is_working stage ≡ false
judged_is_over does Judged judged = refl
judged_is_over does (Removing requests) judged = refl
judged_is_over does _ judged = absurd (cc)

-- operations that are answered in numbers which aren't those of the tree
abbrev has_own_numbers : Does → Bool
has_own_numbers (Answers CacheStats) = true
has_own_numbers (Collects delete) = true
has_own_numbers Uploads = true
has_own_numbers _ = false

-- an operation at work that is done is answered by what it answers at once
pub fine_at_once : {start : Start} {alone : Bool} {s : State} {client now : ℕ} {c : ModelClient} {d : Doing} {m n k l : ℕ}
    → is_working d.stage ≡ true → has_own_numbers d.does ≡ false → MayAnswer start alone s client now c d (Fine m n k l) → AnswersAtOnce c d (Fine m n k l)
fine_at_once work own (Fails must fails) = absurd (cc)
fine_at_once work own (Decided answer stage e) = let no = sym work ∙ ap is_working stage in absurd (cc)
fine_at_once work own (AtOnce h) = h
fine_at_once work own (CountsCache hits misses cached ready first does e) = let no = sym own ∙ ap has_own_numbers does in absurd (cc)
fine_at_once work own (ReadsViews h) = let no = h.same in absurd (cc)
fine_at_once work own (CleanedUp h) = let no = sym work ∙ ap is_working h.stage in absurd (cc)
fine_at_once work own (HasCompacted (TooShort k records stage quiets on few e)) = let no = sym work ∙ ap is_working stage in absurd (cc)
fine_at_once work own (HasCompacted (HasReplaced k before after stage replaced two e)) = let no = sym work ∙ ap is_working stage in absurd (cc)
fine_at_once {d = d} work own (HasCollected count bytes judged e) = let no = sym work ∙ judged_is_over d.does d.stage judged in absurd (cc)
fine_at_once work own (HasUploaded does h) = let no = sym own ∙ ap has_own_numbers does in absurd (cc)
fine_at_once work own (Refuses fault moved h e) = absurd (cc)

-- a read that isn't refused is answered by fresh views
pub looks_are_read : {start : Start} {alone : Bool} {s : State} {client now : ℕ} {c : ModelClient} {d : Doing} {first second len : ℕ}
    → is_replying d.stage ≡ false → answer_then c d ≡ None → MayAnswer start alone s client now c d (Looks first second len) → ReadsFresh c d (Looks first second len)
looks_are_read unsettled none (Fails must fails) = absurd (cc)
looks_are_read unsettled none (Decided answer stage e) = let no = sym unsettled ∙ ap is_replying stage in absurd (cc)
looks_are_read unsettled none (AtOnce h) = let no = sym (ap (option_map told_of) none) ∙ h.same in absurd (cc)
looks_are_read unsettled none (CountsCache hits misses cached ready first does e) = absurd (cc)
looks_are_read unsettled none (ReadsViews h) = h
looks_are_read unsettled none (CleanedUp h) = let no = h.same in absurd (cc)
looks_are_read unsettled none (HasCompacted (TooShort k records stage quiets on few e)) = absurd (cc)
looks_are_read unsettled none (HasCompacted (HasReplaced k before after stage replaced two e)) = absurd (cc)
looks_are_read unsettled none (HasCollected count bytes judged e) = absurd (cc)
looks_are_read unsettled none (HasUploaded does (Sent id index size stage e)) = absurd (cc)
looks_are_read unsettled none (HasUploaded does (FoundNone ready first none_owed e)) = absurd (cc)
looks_are_read unsettled none (Refuses fault moved h e) = absurd (cc)

abbrev is_refusal : Option Told → Bool
is_refusal (Some (ToldRefused fault)) = true
is_refusal _ = false

abbrev fault_of : Told → Fault
fault_of (ToldRefused fault) = fault
fault_of _ = NoMemory

-- a refusal that isn't decided yet has its cause in the request that was just made
pub refused_by_cause : {start : Start} {alone : Bool} {s : State} {client now : ℕ} {c : ModelClient} {d : Doing} {fault : Fault}
    → is_failure (ToldRefused fault) ≡ false → is_replying d.stage ≡ false → is_refusal (option_map told_of (answer_then c d)) ≡ false
    → MayAnswer start alone s client now c d (ToldRefused fault) → IsRefusedIn start s client now c d fault
refused_by_cause plain unsettled done (Fails must fails) = let no = sym plain ∙ fails in absurd (cc)
refused_by_cause plain unsettled done (Decided answer stage e) = let no = sym unsettled ∙ ap is_replying stage in absurd (cc)
refused_by_cause plain unsettled done (AtOnce h) = let no = sym done ∙ ap is_refusal h.same in absurd (cc)
refused_by_cause plain unsettled done (CountsCache hits misses cached ready first does e) = absurd (cc)
refused_by_cause plain unsettled done (ReadsViews h) = let no = h.same in absurd (cc)
refused_by_cause plain unsettled done (CleanedUp h) = let no = h.same in absurd (cc)
refused_by_cause plain unsettled done (HasCompacted (TooShort k records stage quiets on few e)) = absurd (cc)
refused_by_cause plain unsettled done (HasCompacted (HasReplaced k before after stage replaced two e)) = absurd (cc)
refused_by_cause plain unsettled done (HasCollected count bytes judged e) = absurd (cc)
refused_by_cause plain unsettled done (HasUploaded does (Sent id index size stage e)) = absurd (cc)
refused_by_cause plain unsettled done (HasUploaded does (FoundNone ready first none_owed e)) = absurd (cc)
refused_by_cause {start} {alone} {s} {client} {now} {c} {d} plain unsettled done (Refuses fault moved h e) = subst (λ x. IsRefusedIn start s client now c d x) (sym (ap fault_of e)) h

abbrev may_have_looked : Stage → Bool
may_have_looked (LookedAgain misses window owed) = true
may_have_looked (Compacting k) = true
may_have_looked _ = false

-- a block that is still to come is known after another look alone
pub try_again_after_look : {start : Start} {s : State} {client now : ℕ} {c : ModelClient} {d : Doing} {commit : ℕ}
    → may_have_looked d.stage ≡ false → IsRefusedIn start s client now c d (TryAgain commit) → ⊥
try_again_after_look unlooked (SessionGone asks gone e) = absurd (cc)
try_again_after_look unlooked (InodeGone inode asks here given gone e) = absurd (cc)
try_again_after_look unlooked (CommitLate segment asked late e) = absurd (cc)
try_again_after_look unlooked (CommitTooLarge segment asked early large e) = absurd (cc)
try_again_after_look unlooked (NumberRefused first crowded e) = absurd (cc)
try_again_after_look unlooked (CompactionCrowded k stage on here crowded e) = absurd (cc)
try_again_after_look unlooked (CompactionLate k started stage on here there late e) = absurd (cc)
try_again_after_look unlooked (AnotherList k looked found stage unchanged here there other again e) = absurd (cc)
try_again_after_look unlooked (BlockOwed position owner from to view owed (InReading missed) begins ends owes e) = let yes = sym unlooked ∙ ap may_have_looked missed.stage in absurd (cc)
try_again_after_look unlooked (BlockOwed position owner from to view owed (InCompaction missed) begins ends owes e) = let yes = sym unlooked ∙ ap may_have_looked missed.stage in absurd (cc)
try_again_after_look unlooked (MissedTooOften window owed stage e) = absurd (cc)

abbrev pub is_cleans : Stage → Bool
is_cleans (Cleans k) = true
is_cleans _ = false

abbrev pub is_compacting : Stage → Bool
is_compacting (Compacting k) = true
is_compacting _ = false

-- a flush is refused for the time that it took only after that time
pub timed_out_late : {start : Start} {s : State} {client now : ℕ} {c : ModelClient} {o : Op} {does : Does} {flush : Flush} {moved : Bool} {quiets started m n : ℕ}
    → IsRefusedIn start s client now c (record { op = o; does = does; flush = flush; stage = Working quiets started; moved = moved }) (TimedOut m n) → started + UPLOAD_LIFE ≤ now
timed_out_late (SessionGone asks gone e) = absurd (cc)
timed_out_late (InodeGone inode asks here given gone e) = absurd (cc)
timed_out_late (CommitLate segment asked late e) = late
timed_out_late (CommitTooLarge segment asked early large e) = absurd (cc)
timed_out_late (NumberRefused first crowded e) = absurd (cc)
timed_out_late (CompactionCrowded k stage on here crowded e) = absurd (cc)
timed_out_late (CompactionLate k first stage on here there late e) = let no = ap is_compacting stage in absurd (cc)
timed_out_late (AnotherList k looked found stage unchanged here there other again e) = absurd (cc)
timed_out_late (BlockOwed position owner from to view owed missed begins ends owes e) = absurd (cc)
timed_out_late (MissedTooOften window owed stage e) = absurd (cc)

abbrev compaction_in : Compaction → Stage → Compaction
compaction_in other (Compacting k) = k
compaction_in other _ = other

any_implied : (p q : FileChange → Bool) → ((change : FileChange) → IsTrue (p change) → IsTrue (q change)) → (changes : List FileChange) → IsTrue (list_any p changes) → IsTrue (list_any q changes)
any_implied p q f [] h = h
any_implied p q f (change ∷ changes) h = either_kept (p change) _ (q change) _ (f change) (any_implied p q f changes) h

and_middle : (a b x : Bool) → IsTrue (a && b && x) → IsTrue b
and_middle true true x h = refl
and_middle true false x h = h
and_middle false b x h = absurd (cc)

-- a file was changed after the entry of this number
abbrev pub any_changed_after : State → ℕ → Bool
any_changed_after s entry = list_any (λ change. nat_lt entry change.entry) s.changes

-- a compaction is refused for another list only where something was changed after its first look
pub refused_for_a_change : {start : Start} {s : State} {client now : ℕ} {c : ModelClient} {o : Op} {does : Does} {flush : Flush} {moved : Bool} {k : Compaction} {m n : ℕ}
    → IsRefusedIn start s client now c (record { op = o; does = does; flush = flush; stage = Compacting k; moved = moved }) (Contended (Lists m n)) → IsTrue (any_changed_after s k.first)
refused_for_a_change (SessionGone asks gone e) = absurd (cc)
refused_for_a_change (InodeGone inode asks here given gone e) = absurd (cc)
refused_for_a_change (CommitLate segment asked late e) = absurd (cc)
refused_for_a_change (CommitTooLarge segment asked early large e) = absurd (cc)
refused_for_a_change (NumberRefused first crowded e) = absurd (cc)
refused_for_a_change (CompactionCrowded j stage on here crowded e) = absurd (cc)
refused_for_a_change (CompactionLate j started stage on here there late e) = absurd (cc)
refused_for_a_change {s = s} {k = k} (AnotherList j looked found stage unchanged here there other again e) =
    subst (λ (x : Compaction). IsTrue (any_changed_after s x.first)) (sym (ap (compaction_in k) stage)) (any_implied _ _ (λ change. and_middle (change.inode == j.view.inode) (nat_lt j.first change.entry) _) s.changes other)
refused_for_a_change (BlockOwed position owner from to view owed missed begins ends owes e) = absurd (cc)
refused_for_a_change (MissedTooOften window owed stage e) = absurd (cc)

-- a compaction that replaced nothing is done only where the list had fewer than two records
pub compaction_is_short : {start : Start} {alone : Bool} {s : State} {client now : ℕ} {c : ModelClient} {o : Op} {given : Option ℕ} {flush : Flush} {moved : Bool} {k : Compaction} {m n p q : ℕ}
    → k.has_replaced ≡ false → MayAnswer start alone s client now c (record { op = o; does = Compacts given; flush = flush; stage = Compacting k; moved = moved }) (Fine m n p q) → m < 2
compaction_is_short same (Fails must fails) = absurd (cc)
compaction_is_short same (Decided answer stage e) = let never = ap is_replying stage in absurd (cc)
compaction_is_short same (AtOnce h) = let never = h.same in absurd (cc)
compaction_is_short same (CountsCache hits misses cached ready first does e) = absurd (cc)
compaction_is_short same (ReadsViews h) = let never = h.same in absurd (cc)
compaction_is_short same (CleanedUp h) = let never = ap is_compacting h.stage in absurd (cc)
compaction_is_short same (HasCompacted (TooShort j records stage quiets on few e)) = subst (λ number. number < 2) (sym (ap first_number e)) few
compaction_is_short {k = k} same (HasCompacted (HasReplaced j before after stage replaced two e)) = let no = sym same ∙ ap (λ at. (compaction_in k at).has_replaced) stage ∙ replaced in absurd (cc)
compaction_is_short same (HasCollected count bytes judged e) = absurd (cc)
compaction_is_short same (HasUploaded does h) = absurd (cc)
compaction_is_short same (Refuses fault moved h e) = absurd (cc)

abbrev reading_of : ModelClient → Doing → Option OpenFile → ℕ → ℕ → Option (List ℕ)
reading_of c d None first second = None
reading_of c d (Some file) first second = reading c.views (handle_of d.op) file (asked_of d.does) first second

-- what a read returns that cites these looks
pub record Returns (c : ModelClient) (d : Doing) (first second len : ℕ) : Type 0 where
  pub bytes : List ℕ
  pub gives : reading_of c d (file_in_use c d) first second ≡ Some bytes
  pub counts : len ≡ length bytes

abbrev first_look : Told → ℕ
first_look (Looks first second len) = first
first_look _ = 0

abbrev second_look : Told → ℕ
second_look (Looks first second len) = second
second_look _ = 0

abbrev byte_count : Told → ℕ
byte_count (Looks first second len) = len
byte_count _ = 0

pub read_returns : {start : Start} {alone : Bool} {s : State} {client now : ℕ} {c : ModelClient} {d : Doing} {first second len : ℕ}
    → is_replying d.stage ≡ false → answer_then c d ≡ None → MayAnswer start alone s client now c d (Looks first second len) → Returns c d first second len
read_returns {c = c} {d = d} {first} {second} unsettled none answer =
    let h = looks_are_read unsettled none answer in
    record {
      bytes = h.bytes;
      gives = ap (λ file. reading_of c d file first second) h.opened
          ∙ ap (λ told. reading c.views (handle_of d.op) h.file (asked_of d.does) (first_look told) (second_look told)) h.same
          ∙ h.reads;
      counts = ap byte_count h.same;
    }

-- where nothing was owed, a block is missing only because it was cleaned away
no_bytes_missing : (client : ℕ) (origin : Origin) → missing_owner (λ inode position. []) [] client origin ≡ None
no_bytes_missing client (AtStart inode position) = refl
no_bytes_missing client Zero = refl
no_bytes_missing client (Committed entry) = refl
no_bytes_missing client Made = refl

pub gone_by_cleaning : {start : Start} {s : State} {client : ℕ} {view : View} {from to : ℕ} → start.shelved ≡ (λ inode position. []) → s.owed ≡ []
    → MayBeGone start s client view from to → IsTrue (may_be_cleaned s view)
gone_by_cleaning {start} {s} {client} {view} shelved owed (Owes position owner begins ends missing) =
    let none : missing_owner start.shelved s.owed client (view.origin position) ≡ None
    = ap (λ shelves. missing_owner shelves s.owed client (view.origin position)) shelved
    ∙ ap (λ others. missing_owner (λ inode at. []) others client (view.origin position)) owed
    ∙ no_bytes_missing client (view.origin position) in
    let never = sym none ∙ missing in
    absurd (cc)
gone_by_cleaning shelved owed (MayBeCleaned cleaned) = cleaned

abbrev view_of : ModelClient → Doing → ℕ → Option OpenFile → Option View
view_of c d window None = None
view_of c d window (Some file) = fresh_view c.views (handle_of d.op) file window

-- a missed block is one that the view in use shows
pub missed_by_view : {start : Start} {s : State} {client : ℕ} {c : ModelClient} {d : Doing} {inode window : ℕ} {view : View}
    → (h : MissesBlock start s client c d inode window) → view_of c d window (file_in_use c d) ≡ Some view → MayBeGone start s client view h.asked.from h.asked.to
missed_by_view {start} {s} {client} {c} {d} {inode} {window} h e =
    subst (λ view. MayBeGone start s client view h.asked.from h.asked.to) (same_some (sym h.fresh ∙ sym (ap (view_of c d window) h.opened) ∙ e)) h.gone

abbrev is_stats : Does → Bool
is_stats (Answers CacheStats) = true
is_stats _ = false

-- once the answer is decided, no request was made that might be refused
pub settled_not_refused : {start : Start} {s : State} {client now : ℕ} {c : ModelClient} {o : Op} {does : Does} {flush : Flush} {moved : Bool} {answer : Reply} {fault : Fault}
    → IsRefusedIn start s client now c (record { op = o; does = does; flush = flush; stage = Replying answer; moved = moved }) fault → ⊥
settled_not_refused (SessionGone asks gone e) = absurd (cc)
settled_not_refused (InodeGone inode asks here given gone e) = absurd (cc)
settled_not_refused (CommitLate segment asked late e) = let few = asked.requests in absurd (omega (arith, few))
settled_not_refused (CommitTooLarge segment asked early large e) = let few = asked.requests in absurd (omega (arith, few))
settled_not_refused (NumberRefused first crowded e) = absurd (omega (arith, first))
settled_not_refused (CompactionCrowded k stage on here crowded e) = let never = ap is_replying stage in absurd (cc)
settled_not_refused (CompactionLate k first stage on here there late e) = let never = ap is_replying stage in absurd (cc)
settled_not_refused (AnotherList k looked found stage unchanged here there other again e) = let never = ap is_replying stage in absurd (cc)
settled_not_refused (BlockOwed position owner from to view owed (InReading missed) begins ends owes e) = let never = ap is_replying missed.stage in absurd (cc)
settled_not_refused (BlockOwed position owner from to view owed (InCompaction missed) begins ends owes e) = let never = ap is_replying missed.stage in absurd (cc)
settled_not_refused (MissedTooOften window owed stage e) = let never = ap is_replying stage in absurd (cc)

abbrev reply_in : Reply → Stage → Reply
reply_in other (Replying answer) = answer
reply_in other _ = other

-- a decided answer is the one that is answered
pub settled_is_told : {start : Start} {alone : Bool} {s : State} {client now : ℕ} {c : ModelClient} {o : Op} {does : Does} {flush : Flush} {moved : Bool} {answer : Reply} {told : Told}
    → is_stats does ≡ false → MayAnswer start alone s client now c (record { op = o; does = does; flush = flush; stage = Replying answer; moved = moved }) told → told ≡ told_of answer
settled_is_told other (Fails must fails) = absurd (cc)
settled_is_told {answer = answer} other (Decided reply stage e) = e ∙ ap told_of (ap (reply_in answer) (sym stage))
settled_is_told other (AtOnce h) = let never = h.ready in absurd (cc)
settled_is_told other (CountsCache hits misses cached ready first does e) = let never = sym other ∙ ap is_stats does in absurd (cc)
settled_is_told other (ReadsViews h) = let never = h.goes_on in absurd (cc)
settled_is_told other (CleanedUp h) = let never = ap is_replying h.stage in absurd (cc)
settled_is_told other (HasCompacted (TooShort k records stage quiets on few e)) = let never = ap is_replying stage in absurd (cc)
settled_is_told other (HasCompacted (HasReplaced k before after stage replaced two e)) = let never = ap is_replying stage in absurd (cc)
settled_is_told other (HasCollected count bytes judged e) = absurd (cc)
settled_is_told other (HasUploaded does (Sent id index size stage e)) = let never = ap is_replying stage in absurd (cc)
settled_is_told other (HasUploaded does (FoundNone ready first none_owed e)) = absurd (cc)
settled_is_told other (Refuses fault moved h e) = absurd (settled_not_refused h)
