-- What holds of every journal that is legal so far, in terms of its entries' numbers and lines.
use Rattle.std.specs.Prelude.{◌≡◌, ℕ, suc, ◌+◌, ◌-◌, ◌≤◌, ◌<◌, Bool, true, false, ◌&&◌, not, ◌==◌, nat_lt, nat_le, if◌then◌else◌, IsTrue, IsSomeAnd, IfSome, ◌↔◌, ◌⊎◌, List, [], ◌∷◌, ◌++◌, length, take, is_some, Option, None, Some, find}
use Rattle.std.specs.List.{AllByRecursion}
use Rattle.jv_model.specs.declared.tables.TheConstants.{TABLE_OF_DROPPED}
use Rattle.jv_model.specs.declared.limits.TheConstants.{LAST_MOMENT, MAX_ITEMS}
use Rattle.jv_model.specs.declared.act.Act.{Act}
use Rattle.jv_model.specs.declared.act.ActKind.{ActKind}
use Rattle.jv_model.specs.declared.act.ActKind.TheVariants.{Mounted, Meta, Opened, Look, Commit, Truncated, Compacted, Settled, Expired, Purged, Cleaned, Quiet, Miss, Crashed, Ticked, Answered}
use Rattle.jv_model.specs.promise.tree.Tree.{Tree, content_at, node_at}
use Rattle.jv_model.specs.promise.FiniteMap.{get}
use Rattle.jv_model.specs.promise.tree.Trash.{due_purge}
use Rattle.jv_model.specs.promise.tree.Sessions.{due_session}
use Rattle.jv_model.specs.declared.act.TheConstants.{NO_CLIENT}
use Rattle.jv_model.specs.declared.act.Told.TheVariants.{Fine, Looks, Refused as ToldRefused}
use Rattle.jv_model.specs.declared.fault.Fault.TheVariants.{Stale, NoMemory, InProgress}
use Rattle.jv_model.specs.declared.fault.Gone.TheVariants.{Session, Node}
use Rattle.jv_model.specs.declared.op.Op.{Op}
use Rattle.jv_model.specs.declared.op.Op.TheVariants as op
use Rattle.jv_model.specs.promise.client.Pending.{pending_of}
use Rattle.jv_model.specs.promise.client.Origins.{Origin, Start, Committed}
use Rattle.jv_model.specs.promise.client.ModelClient.{ModelClient, OpenFile, View, Doing, Stage, Cleaning, Cleans, file_of, inode_at, session_of}
use Rattle.jv_model.specs.promise.journal.State.{State, effect, or_empty, transacted}
use Rattle.jv_model.specs.promise.journal.Steps.{told_of, items, is_owed_by}
use Rattle.jv_model.specs.declared.op.Reply.{Reply}
use Rattle.jv_model.specs.promise.journal.Reading.{Asked, window_start, asked_parts, bytes_between, fresh_view, is_full}
use Rattle.jv_model.specs.declared.op.Reply.TheVariants.{Data}
use Rattle.jv_model.specs.promise.journal.Past.{Setup, Past, Refusal, at_start, begun_to, reached, line_reply, reply_of, DrainEntries, asks_clock}
use Rattle.jv_model.specs.promise.journal.Legal.{AllAllowed, Legal, may_be_cut, clock_moment, tick_of}
use Rattle.jv_model.specs.declared.act.Told.{Told}
use Rattle.jv_model.specs.declared.fault.Fault.{Fault}
use Rattle.jv_model.specs.declared.op.Line.{Line}
use Rattle.jv_model.specs.declared.op.Line.TheVariants.{Empty, Do, Begin, Step, Run, Crash, Drain, Tick}
use Rattle.jv_model.specs.journal.Looks.{entry_at, IsFreshLook}
use Rattle.jv_model.specs.journal.Stepping.{is_answer}
use Rattle.jv_model.specs.promise.Lists.{is_among}
use Rattle.jv_model.specs.Lists.{numbered}

-- growth

-- a longer journal is legal so far if and only if its first part is, and the rest may follow it
abbrev pub JournalsGrow : Type 0
JournalsGrow = (run : Setup) (journal more : List Act)
    → AllAllowed (at_start run) (journal ++ more) ↔
    (AllAllowed (at_start run) journal × AllAllowed (reached run journal) more)

-- what the lines up to this number print, by a journal so far
abbrev pub text_to : ℕ → Past → List ℕ
text_to line p = (begun_to line p).printed ++ (begun_to line p).said

-- entries of later lines change nothing of what the lines up to a number print
abbrev pub EarlierTextStays : Type 0
EarlierTextStays = (run : Setup) (journal more : List Act) (line last : ℕ)
    → AllByRecursion (λ act. act.line ≤ line) journal → AllByRecursion (λ act. line < act.line) more
    → line ≤ last
    → (rest : List ℕ) × (text_to line (reached run journal)
    ++ rest ≡ text_to last (reached run (journal ++ more)))

-- from an entry on, lines and moments don't fall, and no moment is past the last one
pub record Follows (earlier later : Act) : Type 0 where
  pub line : earlier.line ≤ later.line
  pub moment : earlier.at ≤ later.at
  pub last : later.at ≤ LAST_MOMENT

-- lines and moments never fall
abbrev pub FollowsClock : Type 0
FollowsClock = (run : Setup) (journal : List Act) → AllAllowed (at_start run) journal
    → (earlier later : ℕ) → earlier ≤ later
    → IfSome (entry_at journal earlier) (λ a. IfSome (entry_at journal later) (λ b. Follows a b))

-- An entry that asks the clock has the moment of the clock's next answer, and another one that of
-- the entry before it.
pub record HasMoment (answers : ℕ → ℕ) (p : Past) (act : Act) : Type 0 where
  pub asked : IsTrue (asks_clock p act)
      → act.at ≡ clock_moment p (p.ticks + tick_of act.kind) answers
  pub unasked : asks_clock p act ≡ false → act.at ≡ p.at

-- Where the clock's answers are known, they and the ticks determine the moments. Entries of
-- uploading threads are left out.
abbrev pub MomentsAreTheClocks : Type 0
MomentsAreTheClocks = (run : Setup) (journal : List Act) (act : Act)
    → AllAllowed (at_start run) (journal ++ act ∷ []) → run.by_worker (1 + length journal) ≡ false
    → (answers : ℕ → ℕ) → run.clock ≡ Some answers
    → HasMoment answers (begun_to act.line (reached run journal)) act

-- an entry of one client changes nothing of another
abbrev pub OthersStay : Type 0
OthersStay = (s : State) (act : Act) (client : ℕ) → (client ≡ act.client → ⊥)
    → (effect s act).clients client ≡ s.clients client

-- entries are counted
abbrev pub EntriesAreCounted : Type 0
EntriesAreCounted =
    (run : Setup) (journal : List Act) → (reached run journal).state.count ≡ length journal

-- owed commits

-- whether an entry is a commit that left blocks staged
abbrev pub leaves_staged : ActKind → Bool
leaves_staged (Commit inode from len staged) = not (staged == 0)
leaves_staged _ = false

-- whether an entry says that the last staged block of a commit was published
abbrev pub settles : ℕ → ActKind → Bool
settles commit (Settled settled) = settled == commit
settles commit _ = false

-- A client owes a commit at the end of a journal: it left blocks staged, and nothing settled it
-- since.
pub record IsOwed (journal : List Act) (client commit : ℕ) : Type 0 where
  pub made : IsSomeAnd (entry_at journal commit)
      (λ act. (act.client ≡ client) × IsTrue (leaves_staged act.kind))
  pub unsettled : (later : ℕ) → commit < later
      → IfSome (entry_at journal later) (λ act. settles commit act.kind ≡ false)

-- what counts as owed is what the entries say
abbrev pub OwedCommits : Type 0
OwedCommits = (run : Setup) (journal : List Act) → AllAllowed (at_start run) journal
    → (client commit : ℕ)
    → IsTrue (is_owed_by (reached run journal).state client commit) ↔ IsOwed journal client commit

-- a commit that some client owes
pub record IsOwedBySome (journal : List Act) (commit : ℕ) : Type 0 where
  pub client : ℕ
  pub owed : IsOwed journal client commit

-- A settled commit is owed by some client: by the one whose upload settles it, or whose line of the
-- script waits for that.
pub record SettlesOf (run : Setup) (journal : List Act) (act : Act) (commit : ℕ) : Type 0 where
  pub by_some : IsOwedBySome journal commit
  pub by_own : (act.client ≡ NO_CLIENT → ⊥) → IsOwed journal act.client commit
  pub by_line : (client : ℕ) → (begun_to act.line (reached run journal)).due ≡ DrainEntries client
      → run.by_worker (1 + length journal) ≡ false → IsOwed journal client commit

-- only what is owed is settled, and so at most once
abbrev pub SettlesOwed : Type 0
SettlesOwed =
    (run : Setup) (journal : List Act) (act : Act) → AllAllowed (at_start run) (journal ++ act ∷ [])
    → (commit : ℕ) → act.kind ≡ Settled commit → SettlesOf run journal act commit

-- a `drain` is done only where the client owes no commit
abbrev pub DrainsSettleAll : Type 0
DrainsSettleAll =
    (run : Setup) (journal : List Act) (act : Act) → AllAllowed (at_start run) (journal ++ act ∷ [])
    → (client : ℕ) → (begun_to act.line (reached run journal)).due ≡ DrainEntries client
    → (a b c d : ℕ) → act.kind ≡ Answered (Fine a b c d)
    → (commit : ℕ) → IsOwed journal client commit → ⊥

-- where no threads upload, an `upload` finds no block only where its client owes no commit
abbrev pub UploadsFindAll : Type 0
UploadsFindAll = (run : Setup) (journal : List Act) (act : Act)
    → AllAllowed (at_start run) (journal ++ act ∷ []) → run.uploads ≡ 0
    → (act.client ≡ NO_CLIENT → ⊥)
    → (d : Doing)
    → ((begun_to act.line (reached run journal)).state.clients act.client).doing ≡ Some d
    → d.op ≡ op.Upload → act.kind ≡ Answered (Fine 0 0 0 0)
    → (commit : ℕ) → IsOwed journal act.client commit → ⊥

-- fresh looks

-- A view was taken by a fresh look, and has the file's bytes as they were just after it.
pub record HasSeen (run : Setup) (journal : List Act) (client : ℕ) (file : OpenFile) (window : ℕ)
    (view : View) : Type 0 where
  pub fresh : IsFreshLook journal client file window view.entry
  pub bytes : view.content ≡ or_empty (content_at (reached run
      (take view.entry journal)).state.tree file.inode)

-- the views that count as fresh, on any later line too, are those of fresh looks
abbrev pub FreshViewsAreFreshLooks : Type 0
FreshViewsAreFreshLooks = (run : Setup) (journal : List Act) → AllAllowed (at_start run) journal
    → (line client handle : ℕ) (file : OpenFile) (window : ℕ) (view : View)
    → fresh_view ((begun_to line
    (reached run journal)).state.clients client).views handle file window ≡ Some view
    → HasSeen run journal client file window view

-- pending bytes

-- whether an entry answers that an operation is done
abbrev pub is_fine_answer : ActKind → Bool
is_fine_answer (Answered (Fine a b c d)) = true
is_fine_answer (Answered (Looks first second len)) = true
is_fine_answer _ = false

-- the handles whose files an operation commits before it is answered
abbrev pub flushed_handles : Op → List ℕ
flushed_handles (op.Fstat handle) = handle ∷ []
flushed_handles (op.Close handle) = handle ∷ []
flushed_handles (op.Flush handle) = handle ∷ []
flushed_handles (op.Read handle offset len) = handle ∷ []
flushed_handles (op.Truncate handle len) = handle ∷ []
flushed_handles (op.Copy source from target to len) = source ∷ target ∷ []
flushed_handles _ = []

-- Nothing that an operation has to commit is pending.
pub record HasCommitted (c : ModelClient) (o : Op) : Type 0 where
  pub files : AllByRecursion (λ handle. pending_of (inode_at c handle) c.pending ≡ [])
      (flushed_handles o)
  pub all : o ≡ op.Umount → c.pending ≡ []

-- An operation is done only where nothing that it has to commit is pending.
abbrev pub NothingPending : Type 0
NothingPending =
    (run : Setup) (journal : List Act) (act : Act) → AllAllowed (at_start run) (journal ++ act ∷ [])
    → (act.client ≡ NO_CLIENT → ⊥) → (d : Doing)
    → ((begun_to act.line (reached run journal)).state.clients act.client).doing ≡ Some d
    → IsTrue (is_fine_answer act.kind)
    → HasCommitted ((begun_to act.line (reached run journal)).state.clients act.client) d.op

-- close-to-open

-- an entry answers that a client's write is done, which wrote to a position of a file
pub record AnswersWrite (p : Past) (act : Act) (inode position : ℕ) : Type 0 where
  pub doing : Doing
  pub in_progress : (p.state.clients act.client).doing ≡ Some doing
  pub handle : ℕ
  pub offset : ℕ
  pub bytes : List ℕ
  pub writes : doing.op ≡ op.Write handle offset bytes
  pub of_file : inode_at (p.state.clients act.client) handle ≡ inode
  pub low : offset ≤ position
  pub high : position < offset + length bytes
  pub done : IsTrue (is_fine_answer act.kind)

-- an entry answers that a client's close of a handle is done
pub record AnswersClose (p : Past) (act : Act) (handle : ℕ) : Type 0 where
  pub doing : Doing
  pub in_progress : (p.state.clients act.client).doing ≡ Some doing
  pub closes : doing.op ≡ op.Close handle
  pub done : IsTrue (is_fine_answer act.kind)

abbrev pub commits_position : ℕ → ℕ → ActKind → Bool
commits_position inode position (Commit file from len staged) =
    (file == inode) && nat_le from position && nat_lt position (from + len)
commits_position inode position _ = false

-- A client crashes, or is answered that its session or the file is gone.
abbrev pub loses_pending : ℕ → ActKind → Bool
loses_pending inode Crashed = true
loses_pending inode (Answered (ToldRefused (Stale (Session sid)))) = true
loses_pending inode (Answered (ToldRefused (Stale (Node gone)))) = gone == inode
loses_pending inode _ = false

-- the client's commit to a position of a file, or what loses its pending bytes of the file
pub record ResolvesWrite (client inode position : ℕ) (act : Act) : Type 0 where
  pub own : act.client ≡ client
  pub resolves : IsTrue (commits_position inode position act.kind)
      ⊎ IsTrue (loses_pending inode act.kind)

-- Between a write that is done and a close of the file that is done, by one client, stands its
-- commit to each position that was written, unless the client crashed meanwhile, or was answered
-- that its session or the file is gone.
abbrev pub ClosesCommitWrites : Type 0
ClosesCommitWrites = (run : Setup) (before between : List Act) (write close : Act)
    → AllAllowed (at_start run) ((before ++ write ∷ between) ++ close ∷ [])
    → close.client ≡ write.client → (write.client ≡ NO_CLIENT → ⊥)
    → (handle inode position : ℕ)
    → AnswersWrite (begun_to write.line (reached run before)) write inode position
    → AnswersClose (begun_to close.line (reached run (before ++ write ∷ between))) close handle
    → inode_at ((begun_to close.line (reached run (before
    ++ write ∷ between))).state.clients close.client) handle ≡ inode
    → (number : ℕ) × IsSomeAnd (entry_at between number) (ResolvesWrite write.client inode position)

-- answers

-- whether an entry is an operation's metadata transaction
abbrev pub is_transaction_entry : ActKind → Bool
is_transaction_entry (Mounted sid) = true
is_transaction_entry Meta = true
is_transaction_entry (Opened handle inode) = true
is_transaction_entry _ = false

-- an entry answers with a reply's numbers, and the line prints that reply
pub record AnswersAsTree (p : Past) (act : Act) (tree_reply : Reply) : Type 0 where
  pub kind : act.kind ≡ Answered (told_of tree_reply)
  pub reply : line_reply p (told_of tree_reply) ≡ tree_reply

-- The next entry of the client after its operation's transaction answers it, with the tree's reply
-- to the operation on the state before the transaction.
abbrev pub AnswersModel : Type 0
AnswersModel = (run : Setup) (before between : List Act) (act answer : Act)
    → AllAllowed (at_start run) ((before ++ act ∷ between) ++ answer ∷ [])
    → (act.client ≡ NO_CLIENT → ⊥) → IsTrue (is_transaction_entry act.kind)
    → AllByRecursion (λ e. e.client ≡ act.client → ⊥) between → answer.client ≡ act.client
    → (d : Doing)
    → ((begun_to act.line (reached run before)).state.clients act.client).doing ≡ Some d
    → AnswersAsTree (begun_to answer.line (reached run (before ++ act ∷ between))) answer
    (transacted (begun_to act.line (reached run before)).state act.client act.at d.op).reply

-- reads

-- bytes of a part of a file are those that it had just after a fresh look at its window
pub record AreSeen (run : Setup) (journal : List Act) (client : ℕ) (file : OpenFile) (look : ℕ)
    (asked : Asked) (bytes : List ℕ) : Type 0 where
  pub fresh : IsFreshLook journal client file asked.window look
  pub same : bytes ≡ bytes_between (or_empty (content_at (reached run
      (take look journal)).state.tree file.inode)) asked.from asked.to

-- Bytes of the parts of a range, one part for each window, by the looks cited for them, 0 for a
-- window that wasn't read: the second window is read where the first one has all that was asked of
-- it.
pub data AreRead (run : Setup) (journal : List Act) (client : ℕ) (opened : Option OpenFile)
    (parts : List Asked) (first second : ℕ) (bytes : List ℕ) : Type 0 where
  NoPart : parts ≡ [] → first ≡ 0 → second ≡ 0 → bytes ≡ []
      → AreRead run journal client opened parts first second bytes
  OnePart : (file : OpenFile) (asked : Asked) (others : List Asked) → opened ≡ Some file
      → parts ≡ asked ∷ others → AreSeen run journal client file first asked bytes → second ≡ 0
      → (others ≡ []) ⊎ (is_full asked bytes ≡ false)
      → AreRead run journal client opened parts first second bytes
  TwoParts : (file : OpenFile) (asked other : Asked) (others : List Asked) (some more : List ℕ)
      → opened ≡ Some file → parts ≡ asked ∷ other ∷ others
      → AreSeen run journal client file first asked some → length some ≡ asked.to - asked.from
      → AreSeen run journal client file second other more → bytes ≡ some ++ more
      → AreRead run journal client opened parts first second bytes

-- a read that is answered with two looks and a number returns that many bytes, which are those of
-- the looks
pub record Returns (run : Setup) (journal : List Act) (client : ℕ) (c : ModelClient) (d : Doing)
    (handle offset len first second number : ℕ) : Type 0 where
  pub bytes : List ℕ
  pub reply : reply_of c d (Looks first second number) ≡ Data bytes
  pub count : number ≡ length bytes
  pub read : AreRead run journal client (file_of c.handles handle)
      (asked_parts offset len) first second bytes

-- a read returns the file's bytes as they were just after the fresh looks that it cites
abbrev pub ReadsAreOfFreshLooks : Type 0
ReadsAreOfFreshLooks = (run : Setup) (journal : List Act) (act : Act)
    → AllAllowed (at_start run) (journal ++ act ∷ []) → (act.client ≡ NO_CLIENT → ⊥)
    → (d : Doing)
    → ((begun_to act.line (reached run journal)).state.clients act.client).doing ≡ Some d
    → (handle offset len : ℕ) → d.op ≡ op.Read handle offset len → (first second number : ℕ)
    → act.kind ≡ Answered (Looks first second number)
    → Returns run journal act.client ((begun_to act.line
    (reached run journal)).state.clients act.client) d handle offset len first second number

-- an entry answers with two looks and a number
pub record CitesLooks (answer : ActKind) : Type 0 where
  pub first : ℕ
  pub second : ℕ
  pub number : ℕ
  pub kind : answer ≡ Answered (Looks first second number)

-- a read that is done is answered with its looks
abbrev pub ReadsCiteLooks : Type 0
ReadsCiteLooks = (run : Setup) (journal : List Act) (act : Act)
    → AllAllowed (at_start run) (journal ++ act ∷ []) → (act.client ≡ NO_CLIENT → ⊥)
    → (d : Doing)
    → ((begun_to act.line (reached run journal)).state.clients act.client).doing ≡ Some d
    → (handle offset len : ℕ) → d.op ≡ op.Read handle offset len → IsTrue (is_fine_answer act.kind)
    → CitesLooks act.kind

-- lines

-- what the entries of a line do, but for those of uploading threads, in a journal whose first entry
-- has this number
abbrev pub kinds_on : (ℕ → Bool) → ℕ → ℕ → List Act → List ActKind
kinds_on by_worker line number [] = []
kinds_on by_worker line number (act ∷ acts) =
    (if (act.line == line) && not (by_worker number)
    then act.kind ∷ kinds_on by_worker line (number + 1) acts
    else kinds_on by_worker line (number + 1) acts)

-- the last one answers, and no other
pub record EndsAnswered (kinds : List ActKind) : Type 0 where
  pub before : List ActKind
  pub told : Told
  pub whole : kinds ≡ before ++ Answered told ∷ []
  pub only : AllByRecursion (λ kind. is_answer kind ≡ false) before

pub record IsRefusedOnly (kinds : List ActKind) : Type 0 where
  pub fault : Fault
  pub same : kinds ≡ Answered (ToldRefused fault) ∷ []

-- the entries of one step, or none where nothing is in progress
pub data IsOneStep (kinds : List ActKind) : Type 0 where
  Idle : kinds ≡ [] → IsOneStep kinds
  OneEntry : (kind : ActKind) → kinds ≡ kind ∷ [] → IsOneStep kinds
  AndAnswer : (kind : ActKind) (told : Told) → kinds ≡ kind ∷ Answered told ∷ [] → IsOneStep kinds

-- The entries that a line has: a refused operation has its answer alone, and one that was begun
-- none.
abbrev pub FitsLine : Line → List ActKind → Type 0
FitsLine Empty kinds = kinds ≡ []
FitsLine (Do client o) kinds = EndsAnswered kinds
FitsLine (Begin client o) kinds = (kinds ≡ []) ⊎ IsRefusedOnly kinds
FitsLine (Step client) kinds = IsOneStep kinds
FitsLine (Run client) kinds = (kinds ≡ []) ⊎ EndsAnswered kinds
FitsLine (Crash client) kinds = kinds ≡ Crashed ∷ []
FitsLine (Drain client) kinds = EndsAnswered kinds
FitsLine (Tick by) kinds = kinds ≡ Ticked by ∷ []

-- where an entry stands on a later line, each line before has its entries
abbrev pub LinesHaveEntries : Type 0
LinesHaveEntries =
    (run : Setup) (journal : List Act) (act : Act) → AllAllowed (at_start run) (journal ++ act ∷ [])
    → (line : ℕ) → line < act.line → IfSome (numbered run.script line) (λ l.
    FitsLine l (kinds_on run.by_worker line 1 journal))

-- where no line may be cut off, each line has its entries at the end
abbrev pub EndedLinesHaveEntries : Type 0
EndedLinesHaveEntries =
    (run : Setup) (journal : List Act) → Legal run journal → may_be_cut run.status ≡ false
    → (line : ℕ) → IfSome (numbered run.script line) (λ l.
    FitsLine l (kinds_on run.by_worker line 1 journal))

-- an entry refuses an operation's submission, and a later one is on a later line
pub record RefusesAlone (client : ℕ) (fault : Fault) (act later : Act) : Type 0 where
  pub own : act.client ≡ client
  pub refused : (act.kind ≡ Answered (ToldRefused fault))
      ⊎ (act.kind ≡ Answered (ToldRefused NoMemory))
  pub alone : act.line < later.line

-- Where the line of an entry submits an operation that is refused, the entry says so, and no other
-- follows on the line. Entries of uploading threads are left out.
abbrev pub RefusedLinesHaveOneEntry : Type 0
RefusedLinesHaveOneEntry = (run : Setup) (before between : List Act) (act later : Act)
    → AllAllowed (at_start run) ((before ++ act ∷ between) ++ later ∷ [])
    → (client : ℕ) (fault : Fault)
    → (begun_to act.line (reached run before)).due ≡ Refusal client fault
    → run.by_worker (1 + length before) ≡ false
    → run.by_worker (1 + length (before ++ act ∷ between)) ≡ false
    → RefusesAlone client fault act later

-- cleaning

-- a session other than the cleaner's, whose time has come
pub record IsExpired (t : Tree) (cleaner now sid : ℕ) : Type 0 where
  pub other : sid ≡ cleaner → ⊥
  pub entry : IsSomeAnd (get t.sessions sid) (λ s. s.expiry ≤ now)

-- a cleaning ends only sessions whose time has come, and not its own
abbrev pub ExpiresOnlyGone : Type 0
ExpiresOnlyGone = (run : Setup) (journal : List Act) (act : Act)
    → AllAllowed (at_start run) (journal ++ act ∷ []) → (sid : ℕ) → act.kind ≡ Expired sid
    → IsExpired (begun_to act.line (reached run journal)).state.tree
    (session_of ((begun_to act.line (reached run journal)).state.clients act.client)) act.at sid

-- an inode that was given, is no node any more, and whose rows weren't cleaned before
pub record IsGone (journal : List Act) (t : Tree) (inode : ℕ) : Type 0 where
  pub was : inode < t.next_inode
  pub gone : node_at t inode ≡ None
  pub once : (number : ℕ) → IfSome (entry_at journal number) (λ act.
      act.kind ≡ Cleaned TABLE_OF_DROPPED inode → ⊥)

-- a cleaning drops the row of a removed file only where the file is gone, and once
abbrev pub DropsOnlyGone : Type 0
DropsOnlyGone = (run : Setup) (journal : List Act) (act : Act)
    → AllAllowed (at_start run) (journal ++ act ∷ []) → (inode : ℕ)
    → act.kind ≡ Cleaned TABLE_OF_DROPPED inode
    → IsGone journal (begun_to act.line (reached run journal)).state.tree inode

-- whether an entry is a cleaning's
abbrev pub cleans : ActKind → Bool
cleans (Expired sid) = true
cleans (Purged inode) = true
cleans (Cleaned table key) = true
cleans _ = false

-- only a cleaning cleans
abbrev pub CleansOnlyInClean : Type 0
CleansOnlyInClean = (run : Setup) (journal : List Act) (act : Act)
    → AllAllowed (at_start run) (journal ++ act ∷ []) → (act.client ≡ NO_CLIENT → ⊥)
    → IsTrue (cleans act.kind)
    → (d : Doing)
    → ((begun_to act.line (reached run journal)).state.clients act.client).doing ≡ Some d
    → d.op ≡ op.Clean

-- whether an entry ends its client's operation: a crash and an answer do, but for the refusal of
-- another operation meanwhile
abbrev pub ends_operation : ActKind → Bool
ends_operation Crashed = true
ends_operation (Answered (ToldRefused InProgress)) = false
ends_operation (Answered told) = true
ends_operation _ = false

-- A request of the client's operation in progress changed nothing, and this held in the state
-- before it, at its moment; `before` entries stand before it.
pub record FoundNothing (run : Setup) (journal : List Act) (client before : ℕ)
    (Holds : State → ℕ → Type 0) : Type 0 where
  pub act : Act
  pub there : entry_at journal (suc before) ≡ Some act
  pub own : act.client ≡ client
  pub quiet : act.kind ≡ Quiet
  pub held : Holds (begun_to act.line (reached run (take before journal))).state act.at
  pub goes_on : (later : ℕ) → suc before < later
      → IfSome (entry_at journal later) (λ e. e.client ≡ client → ends_operation e.kind ≡ false)

-- no session but the client's own is due for expiry
abbrev pub NoSessionDue : ℕ → State → ℕ → Type 0
NoSessionDue client s now = due_session s.tree (session_of (s.clients client)) now ≡ None

-- no directory of an hour is due for its purge
abbrev pub NoHourDue : State → ℕ → Type 0
NoHourDue s now = due_purge s.tree now ≡ None

-- The operation in progress found no session that was due, and later no directory of an hour that
-- was.
pub record FoundNoneDue (run : Setup) (journal : List Act) (client : ℕ) : Type 0 where
  pub first : ℕ
  pub second : ℕ
  pub later : first < second
  pub sessions : FoundNothing run journal client first (NoSessionDue client)
  pub hours : FoundNothing run journal client second NoHourDue

-- a cleaning had as many items as one may have, or found none due
pub data MayEndCleaning (run : Setup) (journal : List Act) (client : ℕ)
    (stage : Stage) : Type 0 where
  HadMost : (k : Cleaning) → stage ≡ Cleans k → items k ≡ MAX_ITEMS
      → MayEndCleaning run journal client stage
  HadFewer : FoundNoneDue run journal client → MayEndCleaning run journal client stage

-- a `clean` that is done had as many items as one may have, or found no session and then no hour
-- that was due
abbrev pub CleansWhatIsDue : Type 0
CleansWhatIsDue = (run : Setup) (journal : List Act) (act : Act)
    → AllAllowed (at_start run) (journal ++ act ∷ []) → (act.client ≡ NO_CLIENT → ⊥)
    → (d : Doing)
    → ((begun_to act.line (reached run journal)).state.clients act.client).doing ≡ Some d
    → d.op ≡ op.Clean
    → (sessions trash files slices : ℕ) → act.kind ≡ Answered (Fine sessions trash files slices)
    → MayEndCleaning run journal act.client d.stage

-- misses

-- the part of a range that lies in a window
abbrev pub part_at : ℕ → List Asked → Option Asked
part_at window parts = find (λ (asked : Asked). asked.window == window) parts

-- A read asks for a file's positions in a window from one up to another, and has a fresh look there.
pub record IsReadBy (journal : List Act) (client : ℕ) (c : ModelClient) (o : Op)
    (inode window look from to : ℕ) : Type 0 where
  pub handle : ℕ
  pub offset : ℕ
  pub len : ℕ
  pub reads : o ≡ op.Read handle offset len
  pub part : part_at window (asked_parts offset len) ≡ Some
      (record { window = window; from = from; to = to })
  pub file : OpenFile
  pub opened : file_of c.handles handle ≡ Some file
  pub own : inode ≡ file.inode
  pub fresh : IsFreshLook journal client file window look

-- A compaction, which asks for a whole window of a file, has looked at it.
pub record IsCompactedBy (journal : List Act) (client : ℕ) (o : Op)
    (inode window look from to : ℕ) : Type 0 where
  pub path : List ℕ
  pub compacts : o ≡ op.Compact path window
  pub begins : from ≡ window_start window
  pub ends : to ≡ window_start (window + 1)
  pub looked : IsSomeAnd (entry_at journal look)
      (λ act. (act.client ≡ client) × (act.kind ≡ Look inode window))
  pub goes_on : (later : ℕ) → look < later → IfSome (entry_at journal later) (λ act.
      act.client ≡ client → ends_operation act.kind ≡ false)

-- an operation asks for positions of a window, by its look there
pub data AsksFor (journal : List Act) (client : ℕ) (c : ModelClient) (o : Op)
    (inode window look from to : ℕ) : Type 0 where
  ByRead : IsReadBy journal client c o inode window look from to
      → AsksFor journal client c o inode window look from to
  ByCompaction : IsCompactedBy journal client o inode window look from to
      → AsksFor journal client c o inode window look from to

-- A byte comes from a commit that another client owes, or it was there when the run began, and then
-- another client's shelf had its block and the depot hadn't.
pub data IsOwedByAnother (run : Setup) (journal : List Act) (client : ℕ)
    (origin : Origin) : Type 0 where
  OfCommit : (other commit : ℕ) → (other ≡ client → ⊥) → origin ≡ Committed commit
      → IsOwed journal other commit → IsOwedByAnother run journal client origin
  OfStart : (other inode position : ℕ) → (other ≡ client → ⊥) → origin ≡ Start inode position
      → IsTrue (is_among other (run.start.shelved inode position))
      → IsOwedByAnother run journal client origin

-- whether an entry replaces slices of a file: it cuts or lengthens it, or compacts it
abbrev pub replaces_slices : ℕ → ActKind → Bool
replaces_slices inode (Truncated file len) = file == inode
replaces_slices inode (Compacted file window from to) = file == inode
replaces_slices inode _ = false

-- The entry behind the first `before` ones lets slices of a file go: it replaces some, or the file
-- is gone after it.
pub data LetsGo (run : Setup) (journal : List Act) (before inode : ℕ) : Type 0 where
  ReplacesSlices : IsSomeAnd (entry_at journal (suc before))
      (λ act. IsTrue (replaces_slices inode act.kind)) → LetsGo run journal before inode
  EndsFile : IsTrue (is_some (node_at (reached run (take before journal)).state.tree inode))
      → node_at (reached run (take (suc before) journal)).state.tree inode ≡ None
      → LetsGo run journal before inode

-- the entry behind the first `before` ones is a request of a cleaning that changed nothing of the
-- tree, as those by which blocks are removed
pub record IsCleaningRequest (run : Setup) (journal : List Act) (before : ℕ) : Type 0 where
  pub act : Act
  pub there : entry_at journal (suc before) ≡ Some act
  pub quiet : act.kind ≡ Quiet
  pub doing : Doing
  pub in_progress : ((begun_to act.line
      (reached run (take before journal))).state.clients act.client).doing ≡ Some doing
  pub cleans : doing.op ≡ op.Clean

-- Why a block that an operation's look showed may be missing: another client owes a byte that is
-- asked for, as it was just after the look; or since the look slices of the file were let go, and a
-- cleaning went on after that.
pub data MayMissBlock (run : Setup) (journal : List Act) (client : ℕ)
    (inode look from to : ℕ) : Type 0 where
  OwedByAnother : (position : ℕ) → from ≤ position → position < to
      → IsOwedByAnother run journal client ((reached run
      (take look journal)).state.marks inode position).origin
      → MayMissBlock run journal client inode look from to
  CleanedAway : (let_go cleaned : ℕ) → look ≤ let_go → let_go < cleaned
      → LetsGo run journal let_go inode → IsCleaningRequest run journal cleaned
      → MayMissBlock run journal client inode look from to

-- A miss is of an operation in progress, of what it asks for by a look, and has its cause in the
-- entries before it.
pub record HasCause (run : Setup) (journal : List Act) (act : Act)
    (inode window : ℕ) : Type 0 where
  pub doing : Doing
  pub in_progress : ((begun_to act.line
      (reached run journal)).state.clients act.client).doing ≡ Some doing
  pub look : ℕ
  pub from : ℕ
  pub to : ℕ
  pub asked : AsksFor journal act.client ((begun_to act.line
      (reached run journal)).state.clients act.client) doing.op inode window look from to
  pub cause : MayMissBlock run journal act.client inode look from to

-- a block is missed only where another client owes a byte that is asked for, or it may have been
-- cleaned away since the look that showed it
abbrev pub MissesHaveCauses : Type 0
MissesHaveCauses = (run : Setup) (journal : List Act) (act : Act)
    → AllAllowed (at_start run) (journal ++ act ∷ []) → (act.client ≡ NO_CLIENT → ⊥)
    → (inode window : ℕ) → act.kind ≡ Miss inode window → HasCause run journal act inode window
