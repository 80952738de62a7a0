-- What holds of a client's own state before each step.
use Rattle.std.specs.Prelude.{◌≡◌, ◌≢◌, ℕ, ◌+◌, ◌-◌, ◌*◌, ◌/◌, ◌≤◌, ◌<◌, Bool, true, false, ◌||◌, not, IsTrue, IfSome, IsSomeAnd, List, [], filter, length, is_some, Option, None, Some}
use Rattle.jv_model.specs.declared.limits.TheConstants.{FILE_END, MAX_DATA, WINDOW}
use Rattle.jv_model.specs.declared.op.Op.{Op}
use Rattle.jv_model.specs.declared.op.Op.TheVariants as op
use Rattle.jv_model.specs.declared.op.Reply.{Reply}
use Rattle.jv_model.specs.declared.op.Reply.TheVariants.{Done, Data}
use Rattle.jv_model.specs.declared.act.Told.{Told}
use Rattle.jv_model.specs.declared.act.Told.TheVariants.{Fine, Looks}
use Rattle.jv_model.specs.declared.profile.Answer.TheVariants as answer
use Rattle.jv_model.specs.declared.profile.Does.{Does}
use Rattle.jv_model.specs.declared.profile.Does.TheVariants as does
use Rattle.jv_model.specs.promise.script.Spelled.{is_spelled}
use Rattle.jv_pending.specs.Held.{PendingValue}
use Rattle.jv_model.specs.promise.client.Pending.{PendingByte, Segment, written}
use Rattle.jv_model.specs.promise.client.Profile.{handle_of, profile}
use Rattle.jv_model.specs.promise.client.ModelClient.{Flush as ModelFlush, OfFiles, OfAll, file_of}
use Rattle.jv_model.specs.client.OpForms.{closed_by, is_transaction}
use Rattle.jv_model.specs.promise.Lists.{is_among}
use Rattle.jv_cache.specs.Cached.{Cached}
use Rattle.jv_client_reads.specs.declared.need.Need.{Need}
use Rattle.jv_client_reads.specs.declared.need.Need.TheVariants as need
use Rattle.jv_client_reads.specs.Fetching.{Fetching, fetch_left}
use Rattle.jv_client_reads.specs.Going.{CanFetch}
use Rattle.jv_client_reads.specs.Calls.{IsMissing, Wants}
use Rattle.jv_client_handles.specs.declared.handle.Handle.{Handle}
use Rattle.jv_client_handles.specs.Handles.{inode_here}
use Rattle.jv_client_handles.specs.Views.{view_at}
use Rattle.jv_client.specs.declared.doing.Doing.{Doing}
use Rattle.jv_client.specs.declared.doing.Flush.{Flush}
use Rattle.jv_client.specs.declared.doing.Flush.TheVariants as flush
use Rattle.jv_client.specs.declared.doing.Progress.{Progress}
use Rattle.jv_client.specs.declared.doing.Progress.TheVariants.{Working, Reading}
use Rattle.jv_client.specs.ClientValue.{ClientValue}
use Rattle.jv_client.specs.Held.{flush_here, flush_of_code, is_last_here, segment_left}
use Rattle.jv_client.specs.Ending.{told_here}

abbrev pub has_segment : ClientValue → Doing → Bool
has_segment h d = is_some (segment_left d.flush h.pending)

-- whether the handle of a reading has no view of the first window that it asks for
abbrev pub has_not_seen : ℕ → Option Handle → Bool
has_not_seen offset None = true
has_not_seen offset (Some handle) = not (is_some (view_at handle.views (offset / WINDOW)))

-- whether the operation has something to ask for once it has flushed: a look, or a transaction
abbrev pub asks_more : ClientValue → Doing → Bool
asks_more h d = elim d.does [
  | does.Answers told ↦ false
  | does.Mounts writeback ↦ true
  | does.Transacts ↦ true
  | does.Releases ↦ is_last_here h (handle_of d.op)
  | does.Reads offset len ↦ has_not_seen offset (file_of h.handles (handle_of d.op))
  | does.Truncates ↦ true
  | does.Copies ↦ true
  | does.Compacts given ↦ false
  | does.Cleans ↦ false
  | does.Collects delete ↦ false
  | does.Uploads ↦ false
]

abbrev pub ClosesOpen : Op → List (Option Handle) → Type 0
ClosesOpen o handles = IfSome (closed_by o) (λ handle. IsTrue (is_some (file_of handles handle)))

-- what comes after the flush of a handle's file
pub data FlushesFor (d : Doing) (handle : ℕ) : Type 0 where
  Closes : d.op ≡ op.Close handle → d.does ≡ does.Releases → FlushesFor d handle
  Syncs : d.op ≡ op.Flush handle → d.does ≡ does.Answers answer.Done → FlushesFor d handle
  Describes : d.op ≡ op.Fstat handle → d.does ≡ does.Transacts → FlushesFor d handle
  ReadsNothing : (offset len : ℕ) → d.op ≡ op.Read handle offset len
      → d.does ≡ does.Answers answer.NoData → FlushesFor d handle
  Reads : (offset len : ℕ) → d.op ≡ op.Read handle offset len → d.does ≡ does.Reads offset len
      → 0 < len → len ≤ WINDOW → offset < FILE_END → FlushesFor d handle
  Truncates : (len : ℕ) → d.op ≡ op.Truncate handle len → d.does ≡ does.Truncates
      → FlushesFor d handle

-- A write finds room in the buffer: beside what is pending, or once all of that was committed.
pub data HasRoom (h : ClientValue) (first : Flush) (len : ℕ) : Type 0 where
  Beside : first ≡ flush.Nothing → length h.pending + len ≤ h.limits.buffer → HasRoom h first len
  Alone : first ≡ flush.All → len ≤ h.limits.buffer → HasRoom h first len

-- the operations that are built, each as it was begun: an umount flushes all, and some others the
-- files of their handles
pub data IsForm (h : ClientValue) (d : Doing) : Type 0 where
  Mounts : d.op ≡ op.Mount false → d.does ≡ does.Mounts false → d.flush ≡ flush.Nothing → IsForm h d
  Transacts : IsTrue (is_transaction d.op) → IsTrue (is_spelled d.op) → d.does ≡ does.Transacts
      → d.flush ≡ flush.Nothing → IsTrue (is_some h.session) → IsForm h d
  Leaves : d.op ≡ op.Umount → d.does ≡ does.Transacts → d.flush ≡ flush.All
      → IsTrue (is_some h.session) → IsForm h d
  Writes : (handle offset : ℕ) (bytes : List ℕ) (file : Handle)
      → d.op ≡ op.Write handle offset bytes → d.does ≡ does.Answers (answer.Count (length bytes))
      → file_of h.handles handle ≡ Some file → offset + length bytes ≤ FILE_END
      → HasRoom h d.flush (length bytes) → IsTrue (is_some h.session) → IsForm h d
  Flushes : (handle : ℕ) (file : Handle) → FlushesFor d handle → d.flush ≡ flush.File file.inode
      → file_of h.handles handle ≡ Some file → IsTrue (is_some h.session) → IsForm h d
  Copies : (source from target to len : ℕ) (file other : Handle)
      → d.op ≡ op.Copy source from target to len → d.does ≡ does.Copies
      → d.flush ≡ flush.Files file.inode other.inode → file_of h.handles source ≡ Some file
      → file_of h.handles target ≡ Some other → IsTrue (is_some h.session) → IsForm h d
  SaysStats : d.op ≡ op.Stats → d.does ≡ does.Answers answer.CacheStats
      → d.flush ≡ flush.Nothing → IsTrue (is_some h.session) → IsForm h d

-- Requests of a segment are made while there is one: for its slice's number, and then at most one
-- for each of its bytes.
pub record IsWorking (h : ClientValue) (d : Doing) (quiets id : ℕ) : Type 0 where
  pub few : IfSome (segment_left d.flush h.pending)
      (λ (segment : Segment). quiets ≤ 1 + segment.len)
  pub segment : 0 < quiets → IsTrue (has_segment h d)
  pub numbered : 0 < quiets → 0 < id

-- a cache lacks the block that is needed, where it is one
abbrev pub LacksNeed : Need → Cached → Type 0
LacksNeed (need.Look window) cache = Unit {0}
LacksNeed (need.Block b) cache = IsMissing cache b
LacksNeed need.Nothing cache = Unit {0}

-- a reading goes on by the views of its handle, and needs a look, or a block that the cache lacks
pub record IsReading (h : ClientValue) (d : Doing) (fetch : Fetching) (next : Need) : Type 0 where
  pub read : (offset len : ℕ) × (d.does ≡ does.Reads offset len)
  pub flushed : has_segment h d ≡ false
  pub goes_on : IsSomeAnd (file_of h.handles (handle_of d.op)) (λ (handle : Handle).
      CanFetch handle.views fetch × Wants handle.views fetch next)
  pub more : next ≢ need.Nothing
  pub cache : IsTrue (is_some h.cache)
  pub lacks : IfSome h.cache (LacksNeed next)

abbrev pub IsAt : ClientValue → Doing → Progress → Type 0
IsAt h d (Working quiets started id) = IsWorking h d quiets id
IsAt h d (Reading fetch next) = IsReading h d fetch next

-- whether the operation has a further request to make
abbrev pub has_more : ClientValue → Doing → Progress → Bool
has_more h d (Working quiets started id) = has_segment h d || asks_more h d
has_more h d (Reading fetch next) = true

-- An operation that has an entry has a further request to make: its answer comes in the step of its
-- last one.
pub record IsUnderWay (h : ClientValue) (d : Doing) : Type 0 where
  pub form : IsForm h d
  pub at : IsAt h d d.progress
  pub asks : d.has_moved ≡ true → IsTrue (has_more h d d.progress)

-- its operation is under way, and its buffer takes any write
pub record IsReady (h : ClientValue) : Type 0 where
  pub buffer : MAX_DATA ≤ h.limits.buffer
  pub doing : IfSome h.doing (IsUnderWay h)

-- the most requests of a reading: a look for each of two windows at most, and a block for each byte
abbrev pub reading_steps : Does → ℕ
reading_steps (does.Reads offset len) = len + 2
reading_steps _ = 0

-- whether a flush commits what is pending of an inode
abbrev pub covers : ModelFlush → ℕ → Bool
covers (OfFiles inodes) inode = is_among inode inodes
covers OfAll inode = true

-- the pending bytes that a flush commits
abbrev pub covered : Flush → List PendingByte → List PendingByte
covered first = filter (λ b. covers (flush_of_code first) b.inode)

-- the most steps that an operation still makes before its last one
abbrev pub steps_in : List PendingByte → Doing → ℕ
steps_in pending d = elim d.progress [
  | Working quiets started id ↦
      3 * length (covered d.flush pending) + reading_steps d.does - quiets
  | Reading fetch next ↦ fetch_left fetch
]

abbrev pub steps_of : List PendingByte → Option Doing → ℕ
steps_of pending None = 0
steps_of pending (Some d) = steps_in pending d

abbrev pub steps_left : ClientValue → ℕ
steps_left h = steps_of h.pending h.doing

-- the most steps that an operation makes, its last one too: one, three for each byte that it
-- flushes, and those of its reading
abbrev pub most_steps : ClientValue → Op → ℕ
most_steps h o =
    1 + 3 * length (covered (flush_here h (profile o)) h.pending) + reading_steps (profile o).does

-- parts of the operation in progress

abbrev pub does_of : Option Doing → Option Does
does_of None = None
does_of (Some d) = Some d.does

abbrev pub progress_of : Option Doing → Option Progress
progress_of None = None
progress_of (Some d) = Some d.progress

abbrev pub left_of : List PendingByte → Option Doing → Option Segment
left_of pending None = None
left_of pending (Some d) = segment_left d.flush pending

-- the segment that the operation in progress commits next
abbrev pub left : ClientValue → Option Segment
left h = left_of h.pending h.doing

-- an operation that made a request
abbrev pub moved_to : Progress → Doing → Doing
moved_to progress d = record d { progress = progress; has_moved = true }

-- the handle of the operation is open
abbrev pub names_open : ClientValue → Doing → Type 0
names_open h d = IsTrue (is_some (file_of h.handles (handle_of d.op)))

-- whether an operation has nothing to ask for once it has flushed
abbrev pub ends_itself : ClientValue → Doing → Bool
ends_itself h d = elim d.does [
  | does.Answers told ↦ true
  | does.Mounts writeback ↦ false
  | does.Transacts ↦ false
  | does.Releases ↦ not (is_last_here h (handle_of d.op))
  | does.Reads offset len ↦ false
  | does.Truncates ↦ false
  | does.Copies ↦ false
  | does.Compacts given ↦ false
  | does.Cleans ↦ false
  | does.Collects delete ↦ false
  | does.Uploads ↦ false
]

-- the answer of such an operation: of a read of no bytes, of a write, and of a close or a flush
abbrev pub answer_here : Does → Told × Reply
answer_here (does.Answers answer.NoData) = (Looks 0 0 0, Data [])
answer_here _ = (Fine 0 0 0 0, Done)

-- how an operation ends that has nothing to ask for once it has flushed; another one goes on
pub data Ends (d : Doing) (h after : ClientValue) (answer : Option (Told × Reply)) : Type 0 where
  Answered : IsTrue (ends_itself h d) → answer ≡ Some (answer_here d.does)
      → after ≡ told_here d.op (answer_here d.does).0 h → Ends d h after answer
  GoesOn : ends_itself h d ≡ false → answer ≡ None → after ≡ h → Ends d h after answer

-- what an operation does, by its kinds

abbrev pub makes_transaction : Does → Bool
makes_transaction (does.Mounts writeback) = true
makes_transaction does.Transacts = true
makes_transaction does.Releases = true
makes_transaction _ = false

abbrev pub keeps : Does → Bool
keeps (does.Answers (answer.Count bytes)) = true
keeps _ = false

abbrev pub says_stats : Does → Bool
says_stats (does.Answers answer.CacheStats) = true
says_stats _ = false

-- a write whose handle is open, and that there is room for
abbrev pub MayKeep : Op → List (Option Handle) → PendingValue → Type 0
MayKeep (op.Write handle offset bytes) handles pending =
    IsTrue (is_some (file_of handles handle)) × (offset + length bytes ≤ FILE_END)
    × (length pending.bytes + length bytes ≤ pending.limit)
MayKeep _ handles pending = ⊥

-- its bytes are pending
abbrev pub HasKept : Op → List (Option Handle) → PendingValue → PendingValue → ℕ → Type 0
HasKept (op.Write handle offset bytes) handles before after count =
    (count ≡ length bytes)
    × (after ≡ record before {
      bytes = written (inode_here handles handle) offset bytes before.bytes;
    })
HasKept _ handles before after count = ⊥
