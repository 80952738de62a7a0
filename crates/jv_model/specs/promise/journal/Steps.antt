-- What an entry of a client's operation may be, by the state alone: the requests of the operation
-- in their order, each with the operation's own numbers, and the answers with their causes.
use Rattle.std.specs.Prelude.{◌≡◌, ℕ, ◌+◌, ◌≤◌, ◌<◌, Bool, true, false, ◌&&◌, ◌||◌, not, ◌==◌, nat_le, nat_lt, if◌then◌else◌, IsTrue, MatchBool, IsSomeAnd, List, [], ◌∷◌, length, is_some, Option, None, Some, Result, Ok, Err}
use Rattle.std.specs.List.{list_any}
use Rattle.std.specs.Option.{option_map}
use Rattle.jv_model.specs.declared.tables.TheConstants.{TABLE_OF_DROPPED, TABLE_OF_DEAD}
use Rattle.jv_model.specs.declared.limits.TheConstants.{FULL_COUNT, FILE_END, WINDOW}
use Rattle.jv_model.specs.declared.lifetimes.TheConstants.{UPLOAD_LIFE}
use Rattle.jv_model.specs.declared.limits.TheConstants.{MAX_MISSES, MAX_ITEMS}
use Rattle.jv_model.specs.declared.act.ActKind.{ActKind}
use Rattle.jv_model.specs.declared.act.ActKind.TheVariants.{Mounted, Meta, Opened, Look, Commit, Truncated, Copied, Compacted, Settled, Expired, Purged, Cleaned, Quiet, Miss, Crashed, Ticked, Answered}
use Rattle.jv_model.specs.declared.act.Told.{Told}
use Rattle.jv_model.specs.declared.act.Told.TheVariants.{Fine, Looks, Refused as ToldRefused}
use Rattle.jv_model.specs.declared.fault.Fault.{Fault}
use Rattle.jv_model.specs.declared.fault.Fault.TheVariants.{Invalid, NoSpace, TryAgain, Stale, TimedOut, Contended, DeviceFailed, NoMemory}
use Rattle.jv_model.specs.declared.fault.Gone.TheVariants.{Session, Node}
use Rattle.jv_model.specs.declared.fault.Busy.TheVariants.{Misses as TooManyMisses, Lists}
use Rattle.jv_model.specs.declared.op.Op.{Op}
use Rattle.jv_model.specs.declared.op.Op.TheVariants as op
use Rattle.jv_model.specs.declared.op.Reply.{Reply}
use Rattle.jv_model.specs.declared.op.Reply.TheVariants as reply
use Rattle.jv_model.specs.declared.profile.Answer.TheVariants as answer
use Rattle.jv_model.specs.declared.profile.Does.{Does}
use Rattle.jv_model.specs.declared.profile.Does.TheVariants.{Answers, Mounts, Transacts, Releases, Reads, Truncates, Copies, Compacts, Cleans as DoesClean, Collects, Uploads}
use Rattle.jv_model.specs.promise.tree.Tree.{Tree, node_at, fits}
use Rattle.jv_model.specs.promise.tree.Caller.{Caller}
use Rattle.jv_model.specs.promise.tree.Attempt.{◌>>=◌}
use Rattle.jv_model.specs.promise.tree.FileBytes.{committed}
use Rattle.jv_model.specs.promise.tree.Reading.{file_inode}
use Rattle.jv_model.specs.promise.tree.Sessions.{due_session}
use Rattle.jv_model.specs.promise.tree.Trash.{due_purge}
use Rattle.jv_model.specs.promise.client.Pending.{Segment, bytes_in_range}
use Rattle.jv_model.specs.promise.client.Origins.{Owed, Owner, missing_owner, owner_number}
use Rattle.jv_model.specs.promise.client.Profile.{handle_of}
use Rattle.jv_model.specs.promise.client.ModelClient.{ModelClient, OpenFile, View, Doing, Stage, CleaningPart, Sessions, Trash, Files, Slices, SliceAsked, OneBlock, BlockRemoved, Cleaning, Compaction, Working, Reading, Missing, LookedAgain, Compacting, Cleans, Listed, Judged, Removing, Published, Replying, session_of, file_of, inode_at}
use Rattle.jv_model.specs.promise.client.Submission.{next_segment, is_flushed}
use Rattle.jv_model.specs.promise.journal.State.{State, FileChangeKind, Written, Replaced, Ended, transacted, caller, has_session, look_refusal, sees_first, is_refused, is_cleaning, is_compaction, is_last, is_collecting, first_cleaning, answer_then, gift_of, Gift, NewSession, NewHandle, Nothing}
use Rattle.jv_model.specs.promise.journal.Reading.{Asked, window_start, asked_parts, fresh_view, part_to_look, shows_all, reading}
use Rattle.jv_model.specs.promise.Lists.{is_among}

-- what the run began with, as far as a tree doesn't say it
pub record Start : Type 0 where
  pub tree : Tree
  pub shelved : ℕ → ℕ → List ℕ  -- by inode and position, the clients whose shelves alone have the byte's block
  pub next_slice : ℕ
  pub records : ℕ  -- of all lists together

-- Stored numbers that the tree doesn't have may stand near their end: the next slice's, or how
-- often a slice is named.
abbrev pub is_crowded : Start → State → Bool
is_crowded start s = nat_le FULL_COUNT (start.next_slice + s.count)
    || nat_le FULL_COUNT (start.records + s.count + FILE_END + s.copied)

-- the requests of the next segment that an operation made which works on its requests
abbrev pub quiets_in : Stage → ℕ
quiets_in (Working quiets started) = quiets
quiets_in _ = 0

abbrev started_in : Stage → ℕ
started_in (Working quiets started) = started
started_in _ = 0

abbrev pub is_working : Stage → Bool
is_working (Working quiets started) = true
is_working _ = false

-- nothing is left to flush, and nothing else was asked for since
abbrev pub is_ready : ModelClient → Doing → Bool
is_ready c d = is_working d.stage && (quiets_in d.stage == 0) && is_flushed d.flush c.pending

-- whether the operation makes a metadata transaction of its own, with an entry for it
abbrev pub transacts : ModelClient → Doing → Bool
transacts c d = elim d.does [
  | Answers told ↦ false
  | Mounts writeback ↦ true
  | Transacts ↦ true
  | Releases ↦ not (is_some (answer_then c d))
  | Reads offset len ↦ false
  | Truncates ↦ false
  | Copies ↦ false
  | Compacts inode ↦ false
  | DoesClean ↦ false
  | Collects delete ↦ false
  | Uploads ↦ false
]

-- the entry that a transaction makes, by its reply
abbrev pub entry_of_gift : Gift → ActKind
entry_of_gift (NewSession sid) = Mounted sid
entry_of_gift (NewHandle handle inode) = Opened handle inode
entry_of_gift Nothing = Meta

-- the transaction is the tree's own
pub record Transaction (s : State) (client now : ℕ) (c : ModelClient) (d : Doing)
    (kind : ActKind) : Type 0 where
  pub ready : IsTrue (is_ready c d)
  pub transacts : IsTrue (transacts c d)
  pub same : kind ≡ entry_of_gift (gift_of (transacted s client now d.op).reply)

-- commits

abbrev may_be_staged : Bool → ℕ → ℕ → Bool
may_be_staged true quiets staged = nat_lt staged quiets
may_be_staged false quiets staged = staged == 0

-- A commit is of the least segment that is left, after a request for its slice's number and one for
-- each block. Its session and its file are there, it comes in time, and the volume has room.
pub record Commits (s : State) (now : ℕ) (c : ModelClient) (d : Doing)
    (inode from len staged : ℕ) : Type 0 where
  pub requests : 2 ≤ quiets_in d.stage
  pub segment : next_segment d.flush c.pending ≡ Some
      (record { inode = inode; from = from; len = len })
  pub behind : IsTrue (may_be_staged c.writeback (quiets_in d.stage) staged)
  pub session : IsTrue (has_session s.tree c)
  pub file : IsTrue (is_some (node_at s.tree inode))
  pub in_time : now < started_in d.stage + UPLOAD_LIFE
  pub room : IsTrue (fits s.tree (committed s.tree now inode from
      (bytes_in_range inode from len c.pending)))

-- reading

-- the parts that a read asks for
abbrev pub asked_of : Does → List Asked
asked_of (Reads offset len) = asked_parts offset len
asked_of _ = []

-- the file that the operation's handle names
abbrev pub file_in_use : ModelClient → Doing → Option OpenFile
file_in_use c d = file_of c.handles (handle_of d.op)

-- the reading may go on: it begins, or it didn't just miss a block
abbrev pub may_read_on : ModelClient → Doing → Bool
may_read_on c d = elim d.stage [
  | Working quiets started ↦ is_ready c d
  | Reading misses ↦ true
  | Missing misses window owed ↦ false
  | LookedAgain misses window owed ↦ nat_lt misses MAX_MISSES
  | Compacting k ↦ false
  | Cleans k ↦ false
  | Listed ↦ false
  | Judged ↦ false
  | Removing requests ↦ false
  | Published ↦ false
  | Replying answer ↦ false
]

abbrev window_asked : Option Asked → Option ℕ
window_asked None = None
window_asked (Some asked) = Some asked.window

-- the window that has to be looked at next: one without a view, or that of a missed block again
abbrev pub window_to_look : ModelClient → Doing → OpenFile → Option ℕ
window_to_look c d file = elim d.stage [
  | Missing misses window owed ↦ Some window
  | Working quiets started ↦ window_asked
      (part_to_look c.views (handle_of d.op) file (asked_of d.does))
  | Reading misses ↦ window_asked (part_to_look c.views (handle_of d.op) file (asked_of d.does))
  | LookedAgain misses window owed ↦ window_asked
      (part_to_look c.views (handle_of d.op) file (asked_of d.does))
  | Compacting k ↦ None
  | Cleans k ↦ None
  | Listed ↦ None
  | Judged ↦ None
  | Removing requests ↦ None
  | Published ↦ None
  | Replying answer ↦ None
]

abbrev pub is_missing : Stage → Bool
is_missing (Missing misses window owed) = true
is_missing _ = false

-- A reading looks at the window that comes next, of the file that it reads, which is there.
pub record LooksAt (s : State) (c : ModelClient) (d : Doing) (inode window : ℕ) : Type 0 where
  pub goes_on : IsTrue (may_read_on c d || is_missing d.stage)
  pub file : IsSomeAnd (file_in_use c d)
      (λ file. (inode ≡ file.inode) × (window_to_look c d file ≡ Some window))
  pub session : IsTrue (has_session s.tree c)
  pub there : IsTrue (is_some (node_at s.tree inode))

abbrev is_written : FileChangeKind → Bool
is_written Written = true
is_written Replaced = false
is_written Ended = false

abbrev is_replaced : FileChangeKind → Bool
is_replaced Written = false
is_replaced Replaced = true
is_replaced Ended = false

abbrev takes_blocks : FileChangeKind → Bool
takes_blocks Written = false
takes_blocks Replaced = true
takes_blocks Ended = true

-- since the view was taken its file was cut, compacted or removed, and a cleaning went on after
-- that
abbrev pub may_be_cleaned : State → View → Bool
may_be_cleaned s view =
    list_any (λ change. (change.inode == view.inode) && takes_blocks change.kind
    && nat_lt view.entry change.entry && nat_lt change.entry s.swept) s.changes

-- why a block that a view shows may be missing: another client owes bytes of it, or it was cleaned
-- away
pub data MayBeGone (start : Start) (s : State) (client : ℕ) (view : View)
    (from to : ℕ) : Type 0 where
  Owes : (position : ℕ) → (owner : Owner) → from ≤ position → position < to
      → missing_owner start.shelved s.owed client (view.origin position) ≡ Some owner
      → MayBeGone start s client view from to
  MayBeCleaned : IsTrue (may_be_cleaned s view) → MayBeGone start s client view from to

-- the part at a window, where the parts before it are seen in full
abbrev pub part_in_use : ModelClient → ℕ → OpenFile → List Asked → ℕ → Option Asked
part_in_use c handle file [] window = None
part_in_use c handle file (asked ∷ others) window = (if asked.window == window then Some asked
    else elim (fresh_view c.views handle file asked.window) [
      | None ↦ None
      | Some view ↦ (if shows_all asked view then part_in_use c handle file others window else None)
    ])

-- A block of a window that the reading is at wasn't found.
pub record MissesBlock (start : Start) (s : State) (client : ℕ) (c : ModelClient) (d : Doing)
    (inode window : ℕ) : Type 0 where
  pub goes_on : IsTrue (may_read_on c d)
  pub file : OpenFile
  pub opened : file_in_use c d ≡ Some file
  pub own : inode ≡ file.inode
  pub asked : Asked
  pub at : part_in_use c (handle_of d.op) file (asked_of d.does) window ≡ Some asked
  pub view : View
  pub fresh : fresh_view c.views (handle_of d.op) file window ≡ Some view
  pub gone : MayBeGone start s client view asked.from asked.to

-- a file that a compaction is given, which may have no path
abbrev given_file : Option Reply → ℕ → Result ℕ Fault
given_file None inode = Ok inode
given_file (Some refusal) inode = Err Invalid

-- the window that a compaction looks at first: that of the inode that it is given, or of the file
-- at its path
abbrev compaction_target : Tree → ModelClient → Caller → Does → Op → Result (ℕ × ℕ) Fault
compaction_target t c who (Compacts None) (op.Compact path window) =
    file_inode t who path >>= λ inode. Ok (inode, window)
compaction_target t c who (Compacts (Some inode)) (op.Compact path window) =
    given_file (look_refusal t c inode) inode >>= λ inode. Ok (inode, window)
compaction_target t c who does o = Err Invalid

-- a block was missed, and the window wasn't looked at again yet
abbrev pub has_to_look_again : Compaction → Bool
has_to_look_again k = is_some k.missed && (k.view.entry == k.first)

-- A compaction looks at its window first, and again after a block of it wasn't found.
pub data CompactionLooks (s : State) (client now : ℕ) (c : ModelClient) (d : Doing)
    (inode window : ℕ) : Type 0 where
  First : IsTrue (is_ready c d)
      → compaction_target s.tree c (caller c client now d.op) d.does d.op ≡ Ok (inode, window)
      → CompactionLooks s client now c d inode window
  Again : (k : Compaction) → d.stage ≡ Compacting k → IsTrue (has_to_look_again k)
      → inode ≡ k.view.inode → window ≡ k.view.window
      → IsTrue (has_session s.tree c) → IsTrue (is_some (node_at s.tree inode))
      → CompactionLooks s client now c d inode window

-- a compaction that missed no block and replaced nothing goes on
abbrev pub may_compact_on : Compaction → Bool
may_compact_on k = not (is_some k.missed) && not k.has_replaced

pub record CompactionMisses (start : Start) (s : State) (client : ℕ) (d : Doing)
    (inode window : ℕ) : Type 0 where
  pub k : Compaction
  pub stage : d.stage ≡ Compacting k
  pub goes_on : IsTrue (may_compact_on k)
  pub own : (inode ≡ k.view.inode) × (window ≡ k.view.window)
  pub gone : MayBeGone start s client k.view (window_start window) (window_start (window + 1))

-- a request is so recent that what it brought can't have been collected, or there was none
abbrev is_in_time : ℕ → List ℕ → Bool
is_in_time now [] = true
is_in_time now (moment ∷ moments) = list_any (λ m. nat_lt now (m + UPLOAD_LIFE)) (moment ∷ moments)

-- the list of a window is replaced over a span of it, whose positions are counted from the window's
-- start
pub record Replaces (s : State) (now : ℕ) (c : ModelClient) (d : Doing)
    (inode window from to : ℕ) : Type 0 where
  pub k : Compaction
  pub stage : d.stage ≡ Compacting k
  pub goes_on : IsTrue (may_compact_on k)
  pub own : (inode ≡ k.view.inode) × (window ≡ k.view.window)
  pub rises : from ≤ to
  pub ends : to ≤ WINDOW
  pub session : IsTrue (has_session s.tree c)
  pub there : IsTrue (is_some (node_at s.tree inode))
  pub in_time : IsTrue (is_in_time now k.quiets)

-- truncation and copy

-- the entry that an operation makes of the file that it changes, where the tree doesn't refuse it
abbrev pub change_entry : ModelClient → Op → Reply → Option ActKind
change_entry c (op.Truncate handle len) reply.Done = Some (Truncated (inode_at c handle) len)
change_entry c (op.Copy source from target to len) (reply.Count copied) =
    Some (Copied (inode_at c source) from (inode_at c target) to copied)
change_entry c o answer = None

abbrev pub changed_file : State → ℕ → ℕ → ModelClient → Doing → Option ActKind
changed_file s client now c d = change_entry c d.op (transacted s client now d.op).reply

-- the entry has the numbers of the operation, and its transaction isn't refused
pub record Changes (s : State) (client now : ℕ) (c : ModelClient) (d : Doing)
    (kind : ActKind) : Type 0 where
  pub ready : IsTrue (is_ready c d)
  pub same : changed_file s client now c d ≡ Some kind

-- cleaning

abbrev pub items : Cleaning → ℕ
items k = k.sessions + k.trash + k.hours + k.files + k.slices

-- how far a cleaning is, one that is about to begin too
abbrev pub cleaning_in : ModelClient → Doing → Option Cleaning
cleaning_in c d = elim d.stage [
  | Cleans k ↦ Some k
  | Working quiets started ↦ (if is_ready c d && is_cleaning d.does then Some first_cleaning
      else None)
  | Reading misses ↦ None
  | Missing misses window owed ↦ None
  | LookedAgain misses window owed ↦ None
  | Compacting k ↦ None
  | Listed ↦ None
  | Judged ↦ None
  | Removing requests ↦ None
  | Published ↦ None
  | Replying answer ↦ None
]

-- an item of a cleaning goes, in its part
pub record CleansItem (s : State) (c : ModelClient) (d : Doing) (part : CleaningPart) : Type 0 where
  pub k : Cleaning
  pub stage : cleaning_in c d ≡ Some k
  pub at : k.part ≡ part
  pub few : items k < MAX_ITEMS
  pub session : IsTrue (has_session s.tree c)

-- a row of a removed file, each once: the inode was given once, and is no node
pub record DropsFile (s : State) (inode : ℕ) : Type 0 where
  pub was : inode < s.tree.next_inode
  pub gone : node_at s.tree inode ≡ None
  pub once : is_among inode s.dropped ≡ false

-- the row of a dead slice, behind its blocks
pub data ForgetsSlice (s : State) (c : ModelClient) (d : Doing) : Type 0 where
  OfOneBlock : CleansItem s c d OneBlock → ForgetsSlice s c d
  OfBlocks : CleansItem s c d BlockRemoved → ForgetsSlice s c d

abbrev pub CleansRow : State → ModelClient → Doing → ℕ → ℕ → Type 0
CleansRow s c d table key =
    MatchBool (table == TABLE_OF_DROPPED) (CleansItem s c d Files × DropsFile s key)
    ((table ≡ TABLE_OF_DEAD) × ForgetsSlice s c d)

-- a request of a cleaning found nothing more in its part; blocks of slices are removed in any
-- number
abbrev finds_none : State → ModelClient → ℕ → CleaningPart → Bool
finds_none s c now Sessions = not (is_some (due_session s.tree (session_of c) now))
finds_none s c now Trash = not (is_some (due_purge s.tree now))
finds_none s c now Files = true
finds_none s c now Slices = true
finds_none s c now SliceAsked = true
finds_none s c now OneBlock = true
finds_none s c now BlockRemoved = true

-- requests that changed nothing of the tree

-- a compaction's first look is refused: by its path's walk, or as the inode that it is given is gone
abbrev is_compaction_refused : State → ℕ → ℕ → ModelClient → Doing → Option ℕ → Bool
is_compaction_refused s client now c d None = is_refused (transacted s client now d.op).reply
is_compaction_refused s client now c d (Some inode) = is_some (look_refusal s.tree c inode)

-- the first request after the flush
abbrev may_begin_quietly : Start → State → ℕ → ℕ → ModelClient → Doing → Bool
may_begin_quietly start s client now c d = elim d.does [
  | Answers told ↦ false
  | Mounts writeback ↦ false
  | Transacts ↦ false
  | Releases ↦ false
  | Reads offset len ↦ sees_first c d (asked_parts offset len)
      || is_some (look_refusal s.tree c (inode_at c (handle_of d.op)))
  | Truncates ↦ is_refused (transacted s client now d.op).reply || is_crowded start s
  | Copies ↦ is_refused (transacted s client now d.op).reply || is_crowded start s
  | Compacts given ↦ is_compaction_refused s client now c d given
  | DoesClean ↦ finds_none s c now Sessions || not (has_session s.tree c)
  | Collects delete ↦ true
  | Uploads ↦ true
]

abbrev pub may_be_quiet : Start → State → ℕ → ℕ → ModelClient → Doing → Stage → Bool
may_be_quiet start s client now c d (Working quiets started) =
    (if is_flushed d.flush c.pending then (quiets == 0) && may_begin_quietly start s client now c d
    else true)
may_be_quiet start s client now c d (Reading misses) = true
may_be_quiet start s client now c d (Missing misses window owed) =
    is_some (look_refusal s.tree c (inode_at c (handle_of d.op)))
may_be_quiet start s client now c d (LookedAgain misses window owed) = nat_lt misses MAX_MISSES
may_be_quiet start s client now c d (Compacting k) =
    may_compact_on k || has_to_look_again k && is_some (look_refusal s.tree c k.view.inode)
may_be_quiet start s client now c d (Cleans k) =
    nat_lt (items k) MAX_ITEMS && (finds_none s c now k.part || not (has_session s.tree c))
may_be_quiet start s client now c d Listed = true
may_be_quiet start s client now c d Judged = true
may_be_quiet start s client now c d (Removing requests) = true
may_be_quiet start s client now c d Published = false
may_be_quiet start s client now c d (Replying answer) = false

-- the client owes blocks of that commit
abbrev pub is_owed_by : State → ℕ → ℕ → Bool
is_owed_by s client commit = list_any (λ o. (o.commit == commit) && (o.client == client)) s.owed

-- the last staged block of a commit is published by an upload of the client that staged it
pub record Publishes (s : State) (client : ℕ) (c : ModelClient) (d : Doing)
    (commit : ℕ) : Type 0 where
  pub ready : IsTrue (is_ready c d)
  pub uploads : d.does ≡ Uploads
  pub owed : IsTrue (is_owed_by s client commit)

-- answers

-- the refusals that come from devices and from memory, and not from the tree
abbrev pub is_device_or_memory : Fault → Bool
is_device_or_memory (DeviceFailed device) = true
is_device_or_memory NoMemory = true
is_device_or_memory _ = false

-- such an answer may come before any step
abbrev pub is_failure : Told → Bool
is_failure (ToldRefused fault) = is_device_or_memory fault
is_failure _ = false

-- whether the step that was made ends the operation: its answer comes in that step, and nothing
-- else may
abbrev pub must_answer : Doing → Bool
must_answer d = elim d.stage [
  | Working quiets started ↦ false
  | Reading misses ↦ false
  | Missing misses window owed ↦ false
  | LookedAgain misses window owed ↦ nat_le MAX_MISSES misses
  | Compacting k ↦ k.has_replaced || is_some k.missed && not (has_to_look_again k)
  | Cleans k ↦ nat_le MAX_ITEMS (items k)
  | Listed ↦ false
  | Judged ↦ false
  | Removing requests ↦ false
  | Published ↦ true
  | Replying answer ↦ true
]

-- whether an entry begins a step: each does but the answer that ends a step that was made
abbrev pub begins_step : Doing → ActKind → Bool
begins_step d (Answered told) = not d.moved || is_failure told
begins_step d _ = true

-- what an operation is answered, in numbers; the numbers of a reply in their order
abbrev pub told_of : Reply → Told
told_of (reply.Refused fault) = ToldRefused fault
told_of reply.Done = Fine 0 0 0 0
told_of (reply.SessionMade sid) = Fine sid 0 0 0
told_of (reply.Found inode) = Fine inode 0 0 0
told_of (reply.Described attr) = Fine 0 0 0 0
told_of (reply.FileOpened handle inode) = Fine handle inode 0 0
told_of (reply.Data bytes) = Looks 0 0 (length bytes)
told_of (reply.Count bytes) = Fine bytes 0 0 0
told_of (reply.Entries entries) = Fine 0 0 0 0
told_of (reply.Usage space) = Fine space.used space.capacity space.inodes space.limit
told_of (reply.Target target) = Fine 0 0 0 0
told_of (reply.Compaction before after) = Fine before after 0 0
told_of (reply.Cleanup sessions trash files slices) = Fine sessions trash files slices
told_of (reply.Leaked count bytes) = Fine count bytes 0 0
told_of (reply.Uploaded None) = Fine 0 0 0 0
told_of (reply.Uploaded (Some block)) = Fine block.id block.index block.size 1
told_of (reply.CacheStats hits misses cached pending) = Fine hits misses cached pending

-- whether the request that a cleaning just made may have been one for a slice's row
abbrev may_forget : CleaningPart → Bool
may_forget BlockRemoved = true
may_forget _ = false

-- Whether the request that was just made may have been a transaction that asks for the session, and
-- for which its refusal isn't decided yet.
abbrev pub asks_rows : ModelClient → Doing → Bool
asks_rows c d = elim d.stage [
  | Working quiets started ↦ nat_le 3 quiets
  | Reading misses ↦ elim (file_in_use c d) [
    | None ↦ false
    | Some file ↦ is_some (window_to_look c d file)
  ]
  | Missing misses window owed ↦ false
  | LookedAgain misses window owed ↦ false
  | Compacting k ↦ may_compact_on k
  | Cleans k ↦ may_forget k.part
  | Listed ↦ false
  | Judged ↦ false
  | Removing requests ↦ nat_le 2 requests
  | Published ↦ false
  | Replying answer ↦ false
]

-- the inode that the refused transaction was given, where it was given one
abbrev inode_in_use : ModelClient → Doing → Option ℕ
inode_in_use c d = elim d.stage [
  | Working quiets started ↦ option_map (λ segment. segment.inode) (next_segment d.flush c.pending)
  | Reading misses ↦ option_map (λ file. file.inode) (file_in_use c d)
  | Missing misses window owed ↦ option_map (λ file. file.inode) (file_in_use c d)
  | LookedAgain misses window owed ↦ None
  | Compacting k ↦ Some k.view.inode
  | Cleans k ↦ None
  | Listed ↦ None
  | Judged ↦ None
  | Removing requests ↦ None
  | Published ↦ None
  | Replying answer ↦ None
]

abbrev has_late_request : ℕ → ℕ → List ℕ → Bool
has_late_request started now quiets = is_among started quiets && nat_le (started + UPLOAD_LIFE) now

-- since the compaction's first look others changed the list of its file
abbrev found_another : State → Compaction → Bool
found_another s k =
    list_any (λ change. (change.inode == k.view.inode) && nat_lt k.first change.entry
    && (is_replaced change.kind || is_some k.missed && is_written change.kind)) s.changes

-- the segment whose commit was asked for: it has its number and at least one block
pub record CommitAsked (s : State) (c : ModelClient) (d : Doing) (segment : Segment) : Type 0 where
  pub requests : 3 ≤ quiets_in d.stage
  pub next : next_segment d.flush c.pending ≡ Some segment
  pub session : IsTrue (has_session s.tree c)
  pub there : IsTrue (is_some (node_at s.tree segment.inode))

abbrev commit_fits : State → ℕ → ModelClient → Segment → Bool
commit_fits s now c segment =
    fits s.tree (committed s.tree now segment.inode segment.from
    (bytes_in_range segment.inode segment.from segment.len c.pending))

-- A reading missed a block of a part that it asks for, and looked at its window again just now; what
-- was owed when the block was missed.
pub record ReadingMissed (c : ModelClient) (d : Doing) (view : View) (owed : List Owed)
    (from to : ℕ) : Type 0 where
  pub misses : ℕ
  pub window : ℕ
  pub file : OpenFile
  pub asked : Asked
  pub stage : d.stage ≡ LookedAgain misses window owed
  pub opened : file_in_use c d ≡ Some file
  pub part : part_in_use c (handle_of d.op) file (asked_of d.does) window ≡ Some asked
  pub fresh : fresh_view c.views (handle_of d.op) file window ≡ Some view
  pub begins : from ≡ asked.from
  pub ends : to ≡ asked.to

-- the same of a compaction, which asks for its whole window
pub record CompactionMissed (d : Doing) (view : View) (owed : List Owed)
    (from to : ℕ) : Type 0 where
  pub k : Compaction
  pub stage : d.stage ≡ Compacting k
  pub missed : k.missed ≡ Some owed
  pub later : k.first < k.view.entry
  pub same : view ≡ k.view
  pub begins : from ≡ window_start view.window
  pub ends : to ≡ window_start (view.window + 1)

-- A block was missed, and its window was looked at again just now: the view, what was owed when the
-- block was missed, and the part of the file that is asked for.
pub data IsMissed (c : ModelClient) (d : Doing) (view : View) (owed : List Owed)
    (from to : ℕ) : Type 0 where
  InReading : ReadingMissed c d view owed from to → IsMissed c d view owed from to
  InCompaction : CompactionMissed d view owed from to → IsMissed c d view owed from to

-- The refusal of a request that was just made, in this same step.
pub data IsRefusedIn (start : Start) (s : State) (client now : ℕ) (c : ModelClient) (d : Doing)
    (fault : Fault) : Type 0 where
  SessionGone : IsTrue (asks_rows c d) → has_session s.tree c ≡ false
      → fault ≡ Stale (Session (session_of c)) → IsRefusedIn start s client now c d fault
  InodeGone : (inode : ℕ) → IsTrue (asks_rows c d) → IsTrue (has_session s.tree c)
      → inode_in_use c d ≡ Some inode → node_at s.tree inode ≡ None
      → fault ≡ Stale (Node inode) → IsRefusedIn start s client now c d fault
  CommitLate : (segment : Segment) → CommitAsked s c d segment
      → started_in d.stage + UPLOAD_LIFE ≤ now → fault ≡ TimedOut (started_in d.stage) now
      → IsRefusedIn start s client now c d fault
  CommitTooLarge : (segment : Segment) → CommitAsked s c d segment
      → now < started_in d.stage + UPLOAD_LIFE
      → IsTrue (is_crowded start s || not (commit_fits s now c segment)) → fault ≡ NoSpace
      → IsRefusedIn start s client now c d fault
  NumberRefused : quiets_in d.stage ≡ 1 → IsTrue (is_crowded start s) → fault ≡ NoSpace
      → IsRefusedIn start s client now c d fault
  CompactionCrowded : (k : Compaction) → d.stage ≡ Compacting k → IsTrue (may_compact_on k)
      → IsTrue (has_session s.tree c) → IsTrue (is_crowded start s) → fault ≡ NoSpace
      → IsRefusedIn start s client now c d fault
  CompactionLate : (k : Compaction) → (started : ℕ) → d.stage ≡ Compacting k
      → IsTrue (may_compact_on k) → IsTrue (has_session s.tree c)
      → IsTrue (is_some (node_at s.tree k.view.inode))
      → IsTrue (has_late_request started now k.quiets) → fault ≡ TimedOut started now
      → IsRefusedIn start s client now c d fault
  AnotherList : (k : Compaction) → (looked found : ℕ) → d.stage ≡ Compacting k
      → k.has_replaced ≡ false → IsTrue (has_session s.tree c)
      → IsTrue (is_some (node_at s.tree k.view.inode)) → IsTrue (found_another s k)
      → IsTrue (not (is_some k.missed) || nat_lt k.first k.view.entry)
      → fault ≡ Contended (Lists looked found) → IsRefusedIn start s client now c d fault
  BlockOwed : (position : ℕ) → (owner : Owner) → (from to : ℕ) → (view : View) → (owed : List Owed)
      → IsMissed c d view owed from to → from ≤ position → position < to
      → missing_owner start.shelved owed client (view.origin position) ≡ Some owner
      → fault ≡ TryAgain (owner_number owner) → IsRefusedIn start s client now c d fault
  MissedTooOften : (window : ℕ) → (owed : List Owed) → d.stage ≡ LookedAgain MAX_MISSES window owed
      → fault ≡ Contended (TooManyMisses MAX_MISSES)
      → IsRefusedIn start s client now c d fault

-- A collection may have judged the page that it listed last, so that it may end.
abbrev pub has_judged : Does → Stage → Bool
has_judged does Judged = is_collecting does
has_judged does (Removing requests) = is_collecting does
has_judged does _ = false

-- no Commit of the client is owed
abbrev pub owes_none : State → ℕ → Bool
owes_none s client = not (list_any (λ o. o.client == client) s.owed)

-- the answer of an operation that asks no device, or not any more
pub record AnswersAtOnce (c : ModelClient) (d : Doing) (told : Told) : Type 0 where
  pub ready : IsTrue (is_ready c d)
  pub first : d.moved ≡ false
  pub same : option_map told_of (answer_then c d) ≡ Some told

-- A read returns the bytes of the fresh views that it cites, and a view of each window that it
-- needs.
pub record ReadsFresh (c : ModelClient) (d : Doing) (told : Told) : Type 0 where
  pub goes_on : IsTrue (may_read_on c d)
  pub file : OpenFile
  pub opened : file_in_use c d ≡ Some file
  pub first : ℕ
  pub second : ℕ
  pub bytes : List ℕ
  pub reads : reading c.views (handle_of d.op) file (asked_of d.does) first second ≡ Some bytes
  pub same : told ≡ Looks first second (length bytes)

-- a cleaning ends when it found nothing more in each part, or had as many items as one may have
pub record EndsCleaning (s : State) (c : ModelClient) (d : Doing) (told : Told) : Type 0 where
  pub k : Cleaning
  pub stage : d.stage ≡ Cleans k
  pub session : IsTrue (has_session s.tree c)
  pub over : IsTrue (is_last k.part || (items k == MAX_ITEMS))
  pub same : told ≡ Fine k.sessions k.trash k.files k.slices

-- a compaction of fewer than two records ends after its look, and another one with its replacement
pub data EndsCompaction (d : Doing) (told : Told) : Type 0 where
  TooShort : (k : Compaction) → (records : ℕ) → d.stage ≡ Compacting k → k.quiets ≡ []
      → IsTrue (may_compact_on k) → records < 2
      → told ≡ Fine records records 0 0 → EndsCompaction d told
  HasReplaced : (k : Compaction) → (before after : ℕ) → d.stage ≡ Compacting k
      → k.has_replaced ≡ true → 2 ≤ before
      → told ≡ Fine before after 0 0 → EndsCompaction d told

-- an upload sent a block, or found none that is free to take; where no threads upload, none is
-- staged then
pub data EndsUpload (alone : Bool) (s : State) (client : ℕ) (c : ModelClient) (d : Doing)
    (told : Told) : Type 0 where
  Sent : (id index size : ℕ) → d.stage ≡ Published → told ≡ Fine id index size 1
      → EndsUpload alone s client c d told
  FoundNone : IsTrue (is_ready c d) → d.moved ≡ false → IsTrue (not alone || owes_none s client)
      → told ≡ Fine 0 0 0 0 → EndsUpload alone s client c d told

-- The answers of an operation, each with what it needs.
pub data MayAnswer (start : Start) (alone : Bool) (s : State) (client now : ℕ) (c : ModelClient)
    (d : Doing) (told : Told) : Type 0 where
  Fails : must_answer d ≡ false → IsTrue (is_failure told)
      → MayAnswer start alone s client now c d told
  Decided : (answer : Reply) → d.stage ≡ Replying answer → told ≡ told_of answer
      → MayAnswer start alone s client now c d told
  AtOnce : AnswersAtOnce c d told → MayAnswer start alone s client now c d told
  CountsCache : (hits misses cached : ℕ) → IsTrue (is_ready c d) → d.moved ≡ false
      → d.does ≡ Answers answer.CacheStats
      → told ≡ Fine hits misses cached (length c.pending)
      → MayAnswer start alone s client now c d told
  ReadsViews : ReadsFresh c d told → MayAnswer start alone s client now c d told
  CleanedUp : EndsCleaning s c d told → MayAnswer start alone s client now c d told
  HasCompacted : EndsCompaction d told → MayAnswer start alone s client now c d told
  HasCollected : (count bytes : ℕ) → IsTrue (has_judged d.does d.stage)
      → told ≡ Fine count bytes 0 0 → MayAnswer start alone s client now c d told
  HasUploaded : d.does ≡ Uploads → EndsUpload alone s client c d told
      → MayAnswer start alone s client now c d told
  Refuses : (fault : Fault) → d.moved ≡ true → IsRefusedIn start s client now c d fault
      → told ≡ ToldRefused fault → MayAnswer start alone s client now c d told

abbrev pub MayLook : State → ℕ → ℕ → ModelClient → Doing → ℕ → ℕ → Type 0
MayLook s client now c d inode window =
    MatchBool (is_compaction d.does) (CompactionLooks s client now c d inode window)
    (LooksAt s c d inode window)

abbrev pub MayMiss : Start → State → ℕ → ModelClient → Doing → ℕ → ℕ → Type 0
MayMiss start s client c d inode window =
    MatchBool (is_compaction d.does) (CompactionMisses start s client d inode window)
    (MissesBlock start s client c d inode window)

-- what an entry of the operation may be
abbrev pub MayStep : Start → Bool → State → ℕ → ℕ → ModelClient → Doing → ActKind → Type 0
MayStep start alone s client now c d (Mounted sid) = Transaction s client now c d (Mounted sid)
MayStep start alone s client now c d Meta = Transaction s client now c d Meta
MayStep start alone s client now c d (Opened handle inode) =
    Transaction s client now c d (Opened handle inode)
MayStep start alone s client now c d (Look inode window) = MayLook s client now c d inode window
MayStep start alone s client now c d (Commit inode from len staged) =
    Commits s now c d inode from len staged
MayStep start alone s client now c d (Truncated inode len) =
    Changes s client now c d (Truncated inode len)
MayStep start alone s client now c d (Copied source from target to len) =
    Changes s client now c d (Copied source from target to len)
MayStep start alone s client now c d (Compacted inode window from to) =
    Replaces s now c d inode window from to
MayStep start alone s client now c d (Settled commit) = Publishes s client c d commit
MayStep start alone s client now c d (Expired sid) =
    CleansItem s c d Sessions × (due_session s.tree (session_of c) now ≡ Some sid)
MayStep start alone s client now c d (Purged inode) =
    CleansItem s c d Trash × (due_purge s.tree now ≡ Some inode)
MayStep start alone s client now c d (Cleaned table key) = CleansRow s c d table key
MayStep start alone s client now c d Quiet = IsTrue (may_be_quiet start s client now c d d.stage)
MayStep start alone s client now c d (Miss inode window) = MayMiss start s client c d inode window
MayStep start alone s client now c d Crashed = ⊥
MayStep start alone s client now c d (Ticked by) = ⊥
MayStep start alone s client now c d (Answered told) = MayAnswer start alone s client now c d told

-- an entry of an operation in progress: it may stand, and begins a step or not
pub record IsEntry (start : Start) (alone : Bool) (s : State) (client now : ℕ) (kind : ActKind)
    (begins : Bool) : Type 0 where
  pub doing : Doing
  pub busy : (s.clients client).doing ≡ Some doing
  pub begins_is : begins_step doing kind ≡ begins
  pub may : MayStep start alone s client now (s.clients client) doing kind
