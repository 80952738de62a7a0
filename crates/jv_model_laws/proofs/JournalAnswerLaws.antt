-- An operation is answered as the tree answers its transaction.
use Rattle.std.proofs.Common.{◌≡◌, ℕ, zero, suc, ◌-◌, ◌<◌, Bool, true, false, not, ◌==◌, IsTrue, MatchBool, inl, inr, List, [], ◌∷◌, ◌++◌, Option, None, Some, refl, sym, ap, subst, ◌∙◌, arith}
use Rattle.std.proofs.lemmas.Bool.{and_left, and_right}
use Rattle.std.specs.List.{AllByRecursion}
use Rattle.std.proofs.lemmas.Bool.Decides.{leb_tells}
use Rattle.jv_model.specs.declared.tables.TheConstants.{TABLE_OF_DEAD, TABLE_OF_DROPPED}
use Rattle.jv_model.specs.declared.act.TheConstants.{NO_CLIENT}
use Rattle.jv_model.specs.declared.act.Act.{Act}
use Rattle.jv_model.specs.declared.act.ActKind.{ActKind}
use Rattle.jv_model.specs.declared.act.ActKind.TheVariants.{Mounted, Meta, Opened, Look, Commit, Truncated, Copied, Compacted, Settled, Expired, Purged, Cleaned, Quiet, Miss, Crashed, Ticked, Answered}
use Rattle.jv_model.specs.declared.act.Told.{Told}
use Rattle.jv_model.specs.declared.fault.Fault.{Fault}
use Rattle.jv_model.specs.declared.op.Reply.{Reply}
use Rattle.jv_model.specs.declared.profile.Answer.{Answer}
use Rattle.jv_model.specs.declared.profile.Does.TheVariants.{Answers}
use Rattle.jv_model.specs.promise.client.ModelClient.{ModelClient, Doing, Stage, Replying, Files, OneBlock, BlockRemoved, CleaningPart}
use Rattle.jv_model.specs.promise.journal.State.{State, given, replied, transacted, newly_sustained, next_entry, gift_of, after_transaction, after_step, of_doing, effect, is_compaction}
use Rattle.jv_model.specs.promise.journal.Steps.{Start, transacts, Transaction, LooksAt, CompactionLooks, First, Again, CompactionMisses, MissesBlock, CleansItem, DropsFile, ForgetsSlice, OfOneBlock, OfBlocks, MayStep, MayAnswer, Fails, Decided, AtOnce, CountsCache, ReadsViews, CleanedUp, HasCompacted, HasCollected, HasUploaded, Refuses, TooShort, HasReplaced, Sent, FoundNone, IsRefusedIn, SessionGone, InodeGone, CommitLate, CommitTooLarge, NumberRefused, CompactionCrowded, CompactionLate, AnotherList, BlockOwed, MissedTooOften, InReading, InCompaction, begins_step, must_answer, told_of}
use Rattle.jv_model.specs.promise.journal.Past.{Past, Due, NoMore, Refusal, MayLack, ToAnswer, OneStep, StepMade, CrashEntry, TickEntry, DrainEntries, at_start, begun_by, begun_to, is_over, requested, lined, is_workers, after, advance, past, reached, line_reply, reply_of, refusal_reply}
use Rattle.jv_model.specs.promise.journal.Legal.{Allowed, AllAllowed, Refuses as RefusesSubmission, LacksMemory as RefusalLacks, OfClient, OfLine, OfWorker}
use Rattle.jv_model_laws.specs.Laws.{AnswersModel, AnswersAsTree, is_transaction_entry}
use Rattle.jv_model_laws.proofs.JournalGrowthLaws.{AllAllowed-parts, past-append, own_client, others_kept, after_line_begin_next, begun_to-begun}
use Rattle.jv_model_laws.proofs.JournalStateLaws.{of_kind}
use Rattle.jv_model_laws.proofs.JournalDoingLaws.{doing_given}
use Rattle.jv_model_laws.proofs.JournalLineLaws.{due_after}

-- an operation whose answer is decided

abbrev settled_doing : Doing → Reply → Doing
settled_doing d r = record d { stage = Replying r; moved = true }

staged_doing : (stage : Stage) (c : ModelClient) (d : Doing) (o : Option Doing) → c.doing ≡ o → o ≡ Some d → (elim o as (λ _. ModelClient) [ None ↦ c | Some x ↦ record c { doing = Some (record x { stage = stage; moved = true }) } ]).doing ≡ Some (record d { stage = stage; moved = true })
staged_doing stage c d None e is = absurd (cc)
staged_doing stage c d (Some x) e is = let same : x ≡ d = cc in ap (λ (y : Doing). Some (record y { stage = stage; moved = true })) same

transaction_doing : (s : State) (client now : ℕ) (d : Doing) → (s.clients client).doing ≡ Some d → ((after_transaction s client now d).clients client).doing ≡ Some (settled_doing d (transacted s client now d.op).reply)
transaction_doing s client now d e =
    let done = transacted s client now d.op in
    let sustained : List ℕ = newly_sustained s.tree done.tree (s.clients client) ++ (s.clients client).sustained in
    let old : ModelClient = record (s.clients client) { sustained = sustained } in
    let c = given (next_entry s) d.does (gift_of done.reply) old in
    ap (λ (x : ModelClient). x.doing) (own_client s.clients client (replied (next_entry s) d.does done.reply old)) ∙ staged_doing (Replying done.reply) c d c.doing refl (doing_given (next_entry s) d.does (gift_of done.reply) old ∙ e)

-- the only entry that may follow is its answer

none_asked : (s : State) (client now : ℕ) (c : ModelClient) (d : Doing) (r : Reply) (inode window : ℕ) (compacts : Bool) → MatchBool compacts (CompactionLooks s client now c (settled_doing d r) inode window) (LooksAt s c (settled_doing d r) inode window) → ⊥
none_asked s client now c d r inode window true (First ready e) = cc
none_asked s client now c d r inode window true (Again k e a b g h i) = cc
none_asked s client now c d r inode window false h = let g = h.goes_on in cc

none_missed : (start : Start) (s : State) (client : ℕ) (c : ModelClient) (d : Doing) (r : Reply) (inode window : ℕ) (compacts : Bool) → MatchBool compacts (CompactionMisses start s client (settled_doing d r) inode window) (MissesBlock start s client c (settled_doing d r) inode window) → ⊥
none_missed start s client c d r inode window true h = let e = h.stage in cc
none_missed start s client c d r inode window false h = let g = h.goes_on in cc

none_cleaned : (s : State) (c : ModelClient) (d : Doing) (r : Reply) (part : CleaningPart) → CleansItem s c (settled_doing d r) part → ⊥
none_cleaned s c d r part h = let e = h.stage in cc

none_forgotten : (s : State) (c : ModelClient) (d : Doing) (r : Reply) → ForgetsSlice s c (settled_doing d r) → ⊥
none_forgotten s c d r (OfOneBlock item) = none_cleaned s c d r OneBlock item
none_forgotten s c d r (OfBlocks item) = none_cleaned s c d r BlockRemoved item

none_row : (s : State) (c : ModelClient) (d : Doing) (r : Reply) (table key : ℕ) (b : Bool) → MatchBool b (CleansItem s c (settled_doing d r) Files × DropsFile s key) ((table ≡ TABLE_OF_DEAD) × ForgetsSlice s c (settled_doing d r)) → ⊥
none_row s c d r table key true h = none_cleaned s c d r Files h.0
none_row s c d r table key false h = none_forgotten s c d r h.1

module _ (start : Start) (alone : Bool) (s : State) (client now : ℕ) (c : ModelClient) (d : Doing) (r : Reply) (no_answer : (told : Answer) → d.does ≡ Answers told → ⊥) where
  none_refused : (fault : Fault) → IsRefusedIn start s client now c (settled_doing d r) fault → ⊥
  none_refused fault (SessionGone a b e) = cc
  none_refused fault (InodeGone inode a b g n e) = cc
  none_refused fault (CommitLate segment a b e) = let q = a.requests in omega arith
  none_refused fault (CommitTooLarge segment a b g e) = let q = a.requests in omega arith
  none_refused fault (NumberRefused q b e) = omega arith
  none_refused fault (CompactionCrowded k e m a b g) = cc
  none_refused fault (CompactionLate k started e m b a g h) = cc
  none_refused fault (AnotherList k looked found e a i j b g h) = cc
  none_refused fault (BlockOwed position owner from to view owed (InReading missed) l m n o) = let e = missed.stage in cc
  none_refused fault (BlockOwed position owner from to view owed (InCompaction missed) l m n o) = let e = missed.stage in cc
  none_refused fault (MissedTooOften window owed e g) = cc

  settled_answer : (told : Told) → MayAnswer start alone s client now c (settled_doing d r) told → told ≡ told_of r
  settled_answer told (Fails m f) = absurd (cc)
  settled_answer told (Decided answer e same) = let a : answer ≡ r = cc in same ∙ ap told_of a
  settled_answer told (AtOnce a) = let ready = a.ready in absurd (cc)
  settled_answer told (CountsCache hits misses cached ready first e same) = absurd (no_answer _ e)
  settled_answer told (ReadsViews h) = let g = h.goes_on in absurd (cc)
  settled_answer told (CleanedUp h) = let e = h.stage in absurd (cc)
  settled_answer told (HasCompacted (TooShort k records e q m few same)) = absurd (cc)
  settled_answer told (HasCompacted (HasReplaced k before after e m few same)) = absurd (cc)
  settled_answer told (HasCollected count bytes j same) = absurd (cc)
  settled_answer told (HasUploaded e (Sent id index size g same)) = absurd (cc)
  settled_answer told (HasUploaded e (FoundNone ready m o same)) = absurd (cc)
  settled_answer told (Refuses fault m h same) = absurd (none_refused fault h)

  settled_step : (kind : ActKind) → MayStep start alone s client now c (settled_doing d r) kind → kind ≡ Answered (told_of r)
  settled_step (Mounted sid) may = let ready = may.ready in absurd (cc)
  settled_step Meta may = let ready = may.ready in absurd (cc)
  settled_step (Opened handle inode) may = let ready = may.ready in absurd (cc)
  settled_step (Look inode window) may = absurd (none_asked s client now c d r inode window (is_compaction d.does) may)
  settled_step (Commit inode from len staged) may = let q = may.requests in absurd (omega arith)
  settled_step (Truncated inode len) may = let ready = may.ready in absurd (cc)
  settled_step (Copied source from target to len) may = let ready = may.ready in absurd (cc)
  settled_step (Compacted inode window from to) may = let e = may.stage in absurd (cc)
  settled_step (Settled commit) may = let ready = may.ready in absurd (cc)
  settled_step (Expired sid) may = absurd (none_cleaned s c d r _ may.0)
  settled_step (Purged inode) may = absurd (none_cleaned s c d r _ may.0)
  settled_step (Cleaned table key) may = absurd (none_row s c d r table key (table == TABLE_OF_DROPPED) may)
  settled_step Quiet may = absurd (cc)
  settled_step (Miss inode window) may = absurd (none_missed start s client c d r inode window (is_compaction d.does) may)
  settled_step Crashed may = absurd may
  settled_step (Ticked by) may = absurd may
  settled_step (Answered told) may = ap Answered (settled_answer told may)

-- a client whose answer is decided, and has to come on the present line

data IsOnLine (client : ℕ) (due : Due) : Type 0 where
  Answering : due ≡ ToAnswer client → IsOnLine client due
  Stepping : due ≡ StepMade client → IsOnLine client due

record Waits (p : Past) (client : ℕ) (d : Doing) (r : Reply) : Type 0 where
  on_line : IsOnLine client p.due
  busy : (p.state.clients client).doing ≡ Some (settled_doing d r)

not_over_if : (p : Past) (client : ℕ) (d : Doing) (r : Reply) (o : Option Doing) → o ≡ Some (settled_doing d r) → not (elim o as (λ _. Bool) [ None ↦ false | Some x ↦ must_answer x ]) ≡ false
not_over_if p client d r None e = absurd (cc)
not_over_if p client d r (Some x) e = let same : settled_doing d r ≡ x = cc in ap (λ y. not (must_answer y)) (sym same)

not_over : (p : Past) (client : ℕ) (d : Doing) (r : Reply) (due : Due) → IsOnLine client due → (p.state.clients client).doing ≡ Some (settled_doing d r) → is_over (record p { due = due }) ≡ false
not_over p client d r due (Answering e) busy = ap (λ x. is_over (record p { due = x })) e
not_over p client d r due (Stepping e) busy = ap (λ x. is_over (record p { due = x })) e ∙ not_over_if p client d r (p.state.clients client).doing busy

incomplete_by : (n : ℕ) (p : Past) → is_over p ≡ false → (begun_by (suc n) p).complete ≡ false
incomplete_by zero p e = (after_line_begin_next p).complete ∙ and_right p.complete (is_over p) e
incomplete_by (suc n) p e = (after_line_begin_next (begun_by (suc n) p)).complete ∙ and_left (begun_by (suc n) p).complete (is_over (begun_by (suc n) p)) (incomplete_by n p e)

incomplete_next : (k : ℕ) (p : Past) → 0 < k → is_over p ≡ false → (begun_by k p).complete ≡ false
incomplete_next zero p h e = absurd (omega arith)
incomplete_next (suc n) p h e = incomplete_by n p e

incomplete_to : (n : ℕ) (p : Past) → p.line < n → is_over p ≡ false → (begun_to n p).complete ≡ false
unfolding begun_to
incomplete_to n p h e = incomplete_next (n - p.line) p (omega arith) e

-- an entry that may stand then is one of the present line
stays_on_line : (p : Past) (client : ℕ) (d : Doing) (r : Reply) (act : Act) → Waits p client d r → Allowed (begun_to act.line p) act → begun_to act.line p ≡ p
stays_on_line p client d r act w may = elim (leb_tells act.line p.line) [
  | inl low ↦ begun_to-begun act.line p low.1
  | inr high ↦ (let no = incomplete_to act.line p high.1 (not_over p client d r p.due w.on_line w.busy) in let yes = may.complete in absurd (cc))
]

-- an entry of nobody's, by an uploading thread

due_transaction : (p : Past) (act : Act) (kind : ActKind) → IsTrue (is_transaction_entry kind) → (lined p act kind).due ≡ requested p.due
due_transaction p act (Mounted sid) h = refl
due_transaction p act Meta h = refl
due_transaction p act (Opened handle inode) h = refl
due_transaction p act _ h = absurd (cc)

due_after_transaction : (p : Past) (act : Act) → is_workers p ≡ false → IsTrue (is_transaction_entry act.kind) → (after p act).due ≡ requested p.due
due_after_transaction p act e h = due_after p act false e ∙ due_transaction p act act.kind h

-- whose an entry of the present line is
line_client : (p : Past) (act : Act) (client : ℕ) (due : Due) → IsOnLine client due → OfLine p act due → (begins : Bool) × OfClient p act client begins
line_client p act client due (Answering e) h = let t : OfLine p act (ToAnswer client) = subst (OfLine p act) e h in (_, t)
line_client p act client due (Stepping e) h = let t : OfLine p act (StepMade client) = subst (OfLine p act) e h in (false, t)

worker_only : (p : Past) (act : Act) (client : ℕ) (worker : Bool) → IsOnLine client p.due → (act.client ≡ client → ⊥) → MatchBool worker (OfWorker p act) (OfLine p act p.due) → worker ≡ true
worker_only p act client true on other h = refl
worker_only p act client false on other h = absurd (other (line_client p act client p.due on h).1.own)

waits_here : (p : Past) (client : ℕ) (d : Doing) (r : Reply) (act : Act) → Waits p client d r → (act.client ≡ client → ⊥) → is_workers p ≡ true → Waits (after p act) client d r
unfolding after
waits_here p client d r act w other worker = record {
  on_line = subst (IsOnLine client) (sym (due_after p act true worker)) w.on_line;
  busy = ap (λ (c : ModelClient). c.doing) (others_kept p.state act client (λ e. other (sym e))) ∙ w.busy;
}

waits_after : (p : Past) (client : ℕ) (d : Doing) (r : Reply) (act : Act) → Waits p client d r → (act.client ≡ client → ⊥) → Allowed (begun_to act.line p) act → Waits (advance p act) client d r
unfolding advance
waits_after p client d r act w other may =
    let same = stays_on_line p client d r act w may in
    let here : Allowed p act = subst (λ q. Allowed q act) same may in
    let worker = worker_only p act client (is_workers p) w.on_line other here.stands in
    subst (λ q. Waits (after q act) client d r) (sym same) (waits_here p client d r act w other worker)

waits_past : (p : Past) (client : ℕ) (d : Doing) (r : Reply) (acts : List Act) → Waits p client d r → AllByRecursion (λ e. e.client ≡ client → ⊥) acts → AllAllowed p acts → Waits (past p acts) client d r
waits_past p client d r [] w others may = w
waits_past p client d r (act ∷ acts) w others may = waits_past (advance p act) client d r acts (waits_after p client d r act w others.0 may.0) others.1 may.1

-- the transaction

begins_transaction : (d : Doing) (kind : ActKind) → IsTrue (is_transaction_entry kind) → begins_step d kind ≡ true
begins_transaction d (Answered told) h = absurd (cc)
begins_transaction d _ h = refl

transacts_on : (p : Past) (act : Act) (client : ℕ) (begins : Bool) → OfClient p act client begins → IsTrue (is_transaction_entry act.kind) → begins ≡ true
transacts_on p act client begins h t = sym h.may.begins_is ∙ begins_transaction h.may.doing act.kind t

record Begins (p : Past) (act : Act) : Type 0 where
  on_line : IsOnLine act.client (requested p.due)
  begins : Bool
  of_client : OfClient p act act.client begins

own_begins : (p : Past) (act : Act) (client : ℕ) (begins : Bool) → IsOnLine client (requested p.due) → OfClient p act client begins → Begins p act
own_begins p act client begins on h = record { on_line = subst (λ c. IsOnLine c (requested p.due)) (sym h.own) on; begins = begins; of_client = subst (λ c. OfClient p act c begins) (sym h.own) h }

transaction_line : (p : Past) (act : Act) (due : Due) → p.due ≡ due → (act.client ≡ NO_CLIENT → ⊥) → IsTrue (is_transaction_entry act.kind) → OfLine p act due → Begins p act
transaction_line p act NoMore e some t h = absurd h
transaction_line p act (Refusal client fault) e some t (own, RefusesSubmission k) = let no = ap is_transaction_entry k in absurd (cc)
transaction_line p act (Refusal client fault) e some t (own, RefusalLacks b k) = let no = ap is_transaction_entry k in absurd (cc)
transaction_line p act (MayLack client) e some t h = let no = ap is_transaction_entry h.1 in absurd (cc)
transaction_line p act (ToAnswer client) e some t h = own_begins p act client _ (Answering (ap requested e)) h
transaction_line p act (OneStep client) e some t h = own_begins p act client true (Stepping (ap requested e)) h
transaction_line p act (StepMade client) e some t h = let b = transacts_on p act client false h t in absurd (cc)
transaction_line p act (CrashEntry client) e some t h = let no = ap is_transaction_entry h.1 in absurd (cc)
transaction_line p act (TickEntry by) e some t h = absurd (some h.0)
transaction_line p act (DrainEntries client) e some t h = absurd (some h.0)

no_worker : (p : Past) (act : Act) (worker : Bool) → (act.client ≡ NO_CLIENT → ⊥) → MatchBool worker (OfWorker p act) (OfLine p act p.due) → (worker ≡ false) × OfLine p act p.due
no_worker p act true some h = absurd (some h.1)
no_worker p act false some h = (refl, h)

of_transaction : (start : Start) (alone : Bool) (s : State) (client now : ℕ) (c : ModelClient) (d : Doing) (kind : ActKind) → IsTrue (is_transaction_entry kind) → MayStep start alone s client now c d kind → Transaction s client now c d kind
of_transaction start alone s client now c d (Mounted sid) t may = may
of_transaction start alone s client now c d Meta t may = may
of_transaction start alone s client now c d (Opened handle inode) t may = may
of_transaction start alone s client now c d _ t may = absurd (cc)

transacts_no_answer : (c : ModelClient) (d : Doing) → IsTrue (transacts c d) → (told : Answer) → d.does ≡ Answers told → ⊥
transacts_no_answer c d h told e = let no : IsTrue false = subst (λ does. IsTrue (transacts c (record d { does = does }))) e h in cc

transaction_step : (s : State) (act : Act) (d : Doing) (kind : ActKind) → IsTrue (is_transaction_entry kind) → (s.clients act.client).doing ≡ Some d → ((after_step s act d kind).clients act.client).doing ≡ Some (settled_doing d (transacted s act.client act.at d.op).reply)
transaction_step s act d (Mounted sid) t e = transaction_doing s act.client act.at d e
transaction_step s act d Meta t e = transaction_doing s act.client act.at d e
transaction_step s act d (Opened handle inode) t e = transaction_doing s act.client act.at d e
transaction_step s act d _ t e = absurd (cc)

transaction_of : (s : State) (act : Act) (o : Option Doing) (d : Doing) → (s.clients act.client).doing ≡ Some d → o ≡ Some d → IsTrue (is_transaction_entry act.kind) → ((of_doing s act o).clients act.client).doing ≡ Some (settled_doing d (transacted s act.client act.at d.op).reply)
transaction_of s act None d e is t = absurd (cc)
transaction_of s act (Some x) d e is t = let same : x ≡ d = cc in subst (λ y. ((after_step s act y act.kind).clients act.client).doing ≡ Some (settled_doing d (transacted s act.client act.at d.op).reply)) (sym same) (transaction_step s act d act.kind t e)

transaction_effect : (s : State) (act : Act) (kind : ActKind) (d : Doing) → (s.clients act.client).doing ≡ Some d → IsTrue (is_transaction_entry kind) → ((effect s (of_kind act kind)).clients act.client).doing ≡ Some (settled_doing d (transacted s act.client act.at d.op).reply)
transaction_effect s act (Mounted sid) d e t = transaction_of s (of_kind act (Mounted sid)) (s.clients act.client).doing d e e t
transaction_effect s act Meta d e t = transaction_of s (of_kind act Meta) (s.clients act.client).doing d e e t
transaction_effect s act (Opened handle inode) d e t = transaction_of s (of_kind act (Opened handle inode)) (s.clients act.client).doing d e e t
transaction_effect s act _ d e t = absurd (cc)

record Transacted (p : Past) (act : Act) (d : Doing) : Type 0 where
  waits : Waits (after p act) act.client d (transacted p.state act.client act.at d.op).reply
  no_answer : (told : Answer) → d.does ≡ Answers told → ⊥

transaction_waits : (p : Past) (act : Act) (d : Doing) → (act.client ≡ NO_CLIENT → ⊥) → IsTrue (is_transaction_entry act.kind) → (p.state.clients act.client).doing ≡ Some d → Allowed p act → Transacted p act d
unfolding after
transaction_waits p act d some t busy may =
    let w = no_worker p act (is_workers p) some may.stands in
    let b = transaction_line p act p.due refl some t w.1 in
    let e = b.of_client.may in
    let same : e.doing ≡ d = cc in
    let tr = of_transaction p.run.start (p.run.uploads == 0) p.state act.client act.at (p.state.clients act.client) e.doing act.kind t e.may in
    record {
      waits = record {
        on_line = subst (IsOnLine act.client) (sym (due_after_transaction p act w.0 t)) b.on_line;
        busy = transaction_effect p.state act act.kind d busy t;
      };
      no_answer = transacts_no_answer (p.state.clients act.client) d (subst (λ y. IsTrue (transacts (p.state.clients act.client) y)) same tr.transacts);
    }

-- the answer

reply_of_client : (c : ModelClient) (d : Doing) (r : Reply) (told : Told) (o : Option Doing) → o ≡ Some (settled_doing d r) → (elim o as (λ _. Reply) [ None ↦ refusal_reply told | Some x ↦ reply_of c x told ]) ≡ r
reply_of_client c d r told None e = absurd (cc)
reply_of_client c d r told (Some x) e = let same : x ≡ settled_doing d r = cc in ap (λ y. reply_of c y told) same

transaction_advances : (p : Past) (act : Act) (d : Doing) (r : Reply) → Waits (after (begun_to act.line p) act) act.client d r → Waits (advance p act) act.client d r
unfolding advance
transaction_advances p act d r w = w

reply_on_line : (p : Past) (client : ℕ) (d : Doing) (r : Reply) (told : Told) (due : Due) → IsOnLine client due → (p.state.clients client).doing ≡ Some (settled_doing d r) → line_reply (record p { due = due }) told ≡ r
reply_on_line p client d r told due (Answering e) busy = ap (λ x. line_reply (record p { due = x }) told) e ∙ reply_of_client (p.state.clients client) d r told (p.state.clients client).doing busy
reply_on_line p client d r told due (Stepping e) busy = ap (λ x. line_reply (record p { due = x }) told) e ∙ reply_of_client (p.state.clients client) d r told (p.state.clients client).doing busy

answer_here : (p : Past) (act : Act) (client : ℕ) (d : Doing) (r : Reply) → Waits p client d r → (act.client ≡ NO_CLIENT → ⊥) → ((told : Answer) → d.does ≡ Answers told → ⊥) → Allowed p act → AnswersAsTree p act r
answer_here p act client d r w some none may =
    let o = line_client p act client p.due w.on_line (no_worker p act (is_workers p) some may.stands).1 in
    let e = o.1.may in
    let same : e.doing ≡ settled_doing d r = cc in
    record {
      kind = settled_step p.run.start (p.run.uploads == 0) p.state client act.at (p.state.clients client) d r none act.kind (subst (λ y. MayStep p.run.start (p.run.uploads == 0) p.state client act.at (p.state.clients client) y act.kind) same e.may);
      reply = reply_on_line p client d r (told_of r) p.due w.on_line w.busy;
    }

pub answers_model : AnswersModel
answers_model run before acts act answer h some t others own d busy =
    let whole = AllAllowed-parts (at_start run) (before ++ act ∷ acts) (answer ∷ []) h in
    let parts = AllAllowed-parts (at_start run) before (act ∷ acts) whole.0 in
    let p = begun_to act.line (reached run before) in
    let r = (transacted p.state act.client act.at d.op).reply in
    let made = transaction_waits p act d some t busy parts.1.0 in
    let w = waits_past (advance (reached run before) act) act.client d r acts (transaction_advances (reached run before) act d r made.waits) others parts.1.1 in
    let end = reached run (before ++ act ∷ acts) in
    let w_end : Waits end act.client d r = subst (λ q. Waits q act.client d r) (sym (past-append (at_start run) before (act ∷ acts))) w in
    let same = stays_on_line end act.client d r answer w_end whole.1.0 in
    subst (λ q. AnswersAsTree q answer r) (sym same) (answer_here end answer act.client d r w_end (λ e. some (sym own ∙ e)) made.no_answer (subst (λ q. Allowed q answer) same whole.1.0))
