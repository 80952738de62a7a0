-- What a journal has reached, and what one more entry does to it: the tree, the clients, and whose
-- blocks are owed. It knows no lines, clock or text.
use Rattle.std.specs.Prelude.{ℕ, ◌+◌, Bool, true, false, ◌&&◌, ◌||◌, not, ◌==◌, nat_lt, if◌then◌else◌, List, [], ◌∷◌, ◌++◌, map, filter, is_some, Option, None, Some, unwrap_or}
use Rattle.jv_model.specs.declared.tables.TheConstants.{TABLE_OF_DROPPED}
use Rattle.jv_model.specs.declared.limits.TheConstants.{TRASH_ROOT}
use Rattle.jv_model.specs.declared.act.Act.{Act}
use Rattle.jv_model.specs.declared.act.ActKind.{ActKind}
use Rattle.jv_model.specs.declared.act.ActKind.TheVariants.{Mounted, Meta, Opened, Look, Commit, Truncated, Copied, Compacted, Settled, Expired, Purged, Cleaned, Quiet, Miss, Crashed, Ticked, Answered}
use Rattle.jv_model.specs.declared.act.Told.{Told}
use Rattle.jv_model.specs.declared.act.Told.TheVariants.{Fine, Looks, Refused as ToldRefused}
use Rattle.jv_model.specs.declared.fault.Fault.{Fault}
use Rattle.jv_model.specs.declared.fault.Fault.TheVariants.{InProgress, NoSpace, Stale}
use Rattle.jv_model.specs.declared.fault.Gone.TheVariants.{Session, Node}
use Rattle.jv_model.specs.declared.op.Op.{Op}
use Rattle.jv_model.specs.declared.op.Op.TheVariants as op
use Rattle.jv_model.specs.declared.op.Reply.{Reply}
use Rattle.jv_model.specs.declared.op.Reply.TheVariants as reply
use Rattle.jv_model.specs.declared.profile.Answer.{Answer}
use Rattle.jv_model.specs.declared.profile.Answer.TheVariants as answer
use Rattle.jv_model.specs.declared.profile.Does.{Does}
use Rattle.jv_model.specs.declared.profile.Does.TheVariants.{Answers, Mounts, Transacts, Releases, Reads, Truncates, Copies, Compacts, Cleans as DoesClean, Collects, Uploads}
use Rattle.jv_model.specs.promise.FiniteMap.{get}
use Rattle.jv_model.specs.promise.tree.Tree.{Tree, Content, content_at, node_at, is_sustained}
use Rattle.jv_model.specs.promise.tree.Caller.{Caller, Outcome}
use Rattle.jv_model.specs.promise.tree.Changes.{empty_content}
use Rattle.jv_model.specs.promise.tree.TreeAct.{tree_act}
use Rattle.jv_model.specs.promise.tree.FileBytes.{committed, truncated, copied}
use Rattle.jv_model.specs.promise.tree.Sessions.{without_session}
use Rattle.jv_model.specs.promise.tree.Trash.{purged}
use Rattle.jv_model.specs.promise.client.Pending.{written, without_range, bytes_in_range, pending_of_others}
use Rattle.jv_model.specs.promise.client.Origins.{Marks, Owed, first_marks, marks_committed, marks_truncated, marks_copied, marks_compacted}
use Rattle.jv_model.specs.promise.client.Profile.{profile, handle_list, handle_of}
use Rattle.jv_model.specs.promise.client.ModelClient.{ModelClient, OpenFile, View, Doing, Stage, CleaningPart, Sessions, Trash, Files, Slices, SliceAsked, OneBlock, BlockRemoved, Cleaning, Working, Reading, Missing, LookedAgain, Compacting, Cleans, Listed, Judged, Removing, Published, Replying, unmounted, session_of, with_stage, with_file, file_of, free_handle, inode_at, held_inodes, is_last_of_removed, views_without}
use Rattle.jv_model.specs.promise.client.Submission.{is_flushed}
use Rattle.jv_model.specs.promise.journal.Reading.{Asked, window_start, asked_parts, fresh_view}

-- what an entry did to a file, by whomever
pub data FileChangeKind : Type 0 where
  Written : FileChangeKind  -- a commit, or a copy into it
  Replaced : FileChangeKind  -- a truncation, or a compaction: blocks that it had may go
  Ended : FileChangeKind  -- its node went

pub record FileChange : Type 0 where
  pub entry : ℕ
  pub inode : ℕ
  pub kind : FileChangeKind

pub record State : Type 0 where
  pub count : ℕ  -- how many entries there are
  pub tree : Tree
  pub clients : ℕ → ModelClient
  pub marks : Marks  -- where each byte comes from
  pub owed : List Owed  -- commits of which blocks are staged
  pub changes : List FileChange  -- the latest first
  pub swept : ℕ  -- the last request of a cleaning that left the tree, 0 for none
  pub copied : ℕ  -- positions copied so far
  pub dropped : List ℕ  -- inodes whose rows were cleaned

abbrev pub state_at_start : Tree → State
state_at_start tree = record {
  count = 0;
  tree = tree;
  clients = λ _. unmounted;
  marks = first_marks;
  owed = [];
  changes = [];
  swept = 0;
  copied = 0;
  dropped = [];
}

abbrev pub with_client : {C : Type 0} → (ℕ → C) → ℕ → C → ℕ → C
with_client clients at c = λ q. if q == at then c else clients q

abbrev pub set_client : State → ℕ → ModelClient → State
set_client s client c = record s { clients = with_client s.clients client c }

-- the number of the entry that comes next
abbrev pub next_entry : State → ℕ
next_entry s = s.count + 1

-- transactions

abbrev second_handle : List ℕ → ℕ
second_handle [] = 0
second_handle (first ∷ []) = 0
second_handle (first ∷ second ∷ others) = second

-- in whose name an operation's transaction is made
abbrev pub caller : ModelClient → ℕ → ℕ → Op → Caller
caller c client now o = record {
  client = client;
  sid = session_of c;
  now = now;
  free_handle = free_handle c.handles;
  held = held_inodes c.handles;
  inode = inode_at c (handle_of o);
  other = inode_at c (second_handle (handle_list (profile o).handles));
}

-- an operation's transaction at a moment
abbrev pub transacted : State → ℕ → ℕ → Op → Outcome
transacted s client now o = tree_act s.tree (caller (s.clients client) client now o) o

-- the client's open files that its own transaction took the last entry of
abbrev pub newly_sustained : Tree → Tree → ModelClient → List ℕ
newly_sustained before after c =
    filter (λ inode. is_sustained after (session_of c) inode
    && not (is_sustained before (session_of c) inode)) (held_inodes c.handles)

-- what a reply hands to the client
pub data Gift : Type 0 where
  NewSession : (sid : ℕ) → Gift
  NewHandle : (handle inode : ℕ) → Gift
  Nothing : Gift

abbrev pub gift_of : Reply → Gift
gift_of (reply.Refused fault) = Nothing
gift_of reply.Done = Nothing
gift_of (reply.SessionMade sid) = NewSession sid
gift_of (reply.Found inode) = Nothing
gift_of (reply.Described attr) = Nothing
gift_of (reply.FileOpened handle inode) = NewHandle handle inode
gift_of (reply.Data bytes) = Nothing
gift_of (reply.Count bytes) = Nothing
gift_of (reply.Entries entries) = Nothing
gift_of (reply.Usage space) = Nothing
gift_of (reply.Target target) = Nothing
gift_of (reply.Compaction before after) = Nothing
gift_of (reply.Cleanup sessions trash files slices) = Nothing
gift_of (reply.Leaked count bytes) = Nothing
gift_of (reply.Uploaded block) = Nothing
gift_of (reply.CacheStats hits misses cached pending) = Nothing

abbrev is_writeback : Does → Bool
is_writeback (Mounts writeback) = writeback
is_writeback _ = false

-- the client with what a reply handed to it, by the entry with this number
abbrev pub given : ℕ → Does → Gift → ModelClient → ModelClient
given entry does (NewSession sid) c = record c { session = Some sid; writeback = is_writeback does }
given entry does (NewHandle handle inode) c =
    record c {
      handles = with_file handle
          (Some (record { inode = inode; opened = entry })) c.handles;
    }
given entry does Nothing c = c

-- the client after its transaction, whose reply is decided
abbrev pub replied : ℕ → Does → Reply → ModelClient → ModelClient
replied entry does answer c = with_stage (Replying answer) (given entry does (gift_of answer) c)

-- the inodes that are in one tree and not in a later one
abbrev pub gone_between : Tree → Tree → List ℕ
gone_between before after =
    map (λ node. node.0) (filter (λ node. not (is_some (node_at after node.0))) before.nodes.list)

abbrev pub changed_at : ℕ → FileChangeKind → ℕ → FileChange
changed_at entry kind inode = record { entry = entry; inode = inode; kind = kind }

-- another tree, with the ends of the files that are in it no more
abbrev pub with_tree : Tree → State → State
with_tree tree s =
    record s {
      tree = tree;
      changes = map (changed_at (next_entry s) Ended) (gone_between s.tree tree) ++ s.changes;
    }

-- the operation's transaction
abbrev pub after_transaction : State → ℕ → ℕ → Doing → State
after_transaction s client now d =
    let done = transacted s client now d.op in
    let c = s.clients client in
    set_client (with_tree done.tree s) client
    (replied (next_entry s) d.does done.reply
    (record c { sustained = newly_sustained s.tree done.tree c ++ c.sustained }))

-- requests

abbrev pub is_refused : Reply → Bool
is_refused (reply.Refused fault) = true
is_refused _ = false

-- the refusal of a transaction that its tree refuses, or that a stored number near its end does
abbrev pub refusal_in : Reply → Reply
refusal_in answer = elim (is_refused answer) [ true ↦ answer | false ↦ reply.Refused NoSpace ]

abbrev pub session_gone : ModelClient → Reply
session_gone c = reply.Refused (Stale (Session (session_of c)))

-- A client's session is there. Commands work as a client without one, which is never gone.
abbrev pub has_session : Tree → ModelClient → Bool
has_session t c = elim c.session [ None ↦ true | Some sid ↦ is_some (get t.sessions sid) ]

-- A request of the flush: the first takes a number for the slice, in a transaction that needs the
-- session; the others bring the blocks, from the moment of the second on.
abbrev pub flushing_on : State → ModelClient → ℕ → ℕ → ℕ → Stage
flushing_on s c now quiets started =
    (if quiets == 0 then if has_session s.tree c then Working 1 0 else Replying (session_gone c)
    else if quiets == 1 then Working 2 now
    else Working (quiets + 1) started)

abbrev pub next_part : CleaningPart → CleaningPart
next_part Sessions = Trash
next_part Trash = Files
next_part Files = Slices
next_part Slices = SliceAsked
next_part SliceAsked = OneBlock
next_part OneBlock = BlockRemoved
next_part BlockRemoved = BlockRemoved

-- no slice may have been left
abbrev pub is_last : CleaningPart → Bool
is_last Sessions = false
is_last Trash = false
is_last Files = false
is_last Slices = false
is_last SliceAsked = true
is_last OneBlock = false
is_last BlockRemoved = false

-- a request of this part may remove a block
abbrev pub removes_block : CleaningPart → Bool
removes_block Sessions = false
removes_block Trash = false
removes_block Files = false
removes_block Slices = false
removes_block SliceAsked = true
removes_block OneBlock = true
removes_block BlockRemoved = true

-- A request of a cleaning that found nothing more in its part, or a slice, or that removed a block,
-- which needs no session. Whether one behind the first block was the row's is seen by its answer.
abbrev pub cleaning_on : State → ModelClient → Cleaning → Stage
cleaning_on s c k =
    (if has_session s.tree c || removes_block k.part
    then Cleans (record k { part = next_part k.part }) else Replying (session_gone c))

abbrev pub is_collecting : Does → Bool
is_collecting (Collects delete) = true
is_collecting _ = false

-- the transaction that judges the names of a page, which needs the session
abbrev pub judged_on : State → ModelClient → Stage
judged_on s c = (if has_session s.tree c then Judged else Replying (session_gone c))

-- Once the names of its page are judged, a collection lists the next page; one that removes what is
-- leaked may remove first, which entries don't tell apart.
abbrev pub after_judging : Does → Stage
after_judging (Collects true) = Removing 1
after_judging _ = Listed

abbrev pub first_cleaning : Cleaning
first_cleaning =
    record { part = Sessions; sessions = 0; trash = 0; hours = 0; files = 0; slices = 0 }

-- the refusal of a look at a file: its session or its inode is gone
abbrev pub look_refusal : Tree → ModelClient → ℕ → Option Reply
look_refusal t c inode = (if not (has_session t c) then Some (session_gone c)
    else if is_some (node_at t inode) then None
    else Some (reply.Refused (Stale (Node inode))))

-- a look that is refused decides the answer
abbrev pub refused_look : State → ModelClient → ℕ → Stage → Stage
refused_look s c inode stage =
    elim (look_refusal s.tree c inode) [ None ↦ stage | Some answer ↦ Replying answer ]

abbrev pub sees : ModelClient → ℕ → Option OpenFile → List Asked → Bool
sees c handle None parts = false
sees c handle (Some file) [] = false
sees c handle (Some file) (asked ∷ others) = is_some (fresh_view c.views handle file asked.window)

-- whether the reading has a view of its first window, so that a request may be one for a block
abbrev pub sees_first : ModelClient → Doing → List Asked → Bool
sees_first c d parts = sees c (handle_of d.op) (file_of c.handles (handle_of d.op)) parts

-- the first request after the flush, where it changed nothing
abbrev pub begun_quietly : State → ℕ → ModelClient → ℕ → Doing → Does → Stage
begun_quietly s client c now d (Answers told) = d.stage
begun_quietly s client c now d (Mounts writeback) = d.stage
begun_quietly s client c now d Transacts = d.stage
begun_quietly s client c now d Releases = d.stage
begun_quietly s client c now d (Reads offset len) =
    (if sees_first c d (asked_parts offset len) then Reading 0
    else refused_look s c (inode_at c (handle_of d.op)) d.stage)
begun_quietly s client c now d Truncates =
    Replying (refusal_in (transacted s client now d.op).reply)
begun_quietly s client c now d Copies = Replying (refusal_in (transacted s client now d.op).reply)
begun_quietly s client c now d (Compacts None) =
    Replying (refusal_in (transacted s client now d.op).reply)
begun_quietly s client c now d (Compacts (Some inode)) = refused_look s c inode d.stage
begun_quietly s client c now d DoesClean = cleaning_on s c first_cleaning
begun_quietly s client c now d (Collects delete) = Listed
begun_quietly s client c now d Uploads = Published

-- a request that changed nothing of the tree
abbrev pub quieted : State → ℕ → ModelClient → ℕ → Doing → Stage → Stage
quieted s client c now d (Working quiets started) = (if is_flushed d.flush c.pending
    then begun_quietly s client c now d d.does
    else flushing_on s c now quiets started)
quieted s client c now d (Reading misses) = Reading misses
quieted s client c now d (Missing misses window owed) =
    refused_look s c (inode_at c (handle_of d.op)) (Missing misses window owed)
quieted s client c now d (LookedAgain misses window owed) = Reading misses
quieted s client c now d (Compacting k) = (if is_some k.missed
    then refused_look s c k.view.inode (Compacting k)
    else Compacting (record k { quiets = now ∷ k.quiets }))
quieted s client c now d (Cleans k) = cleaning_on s c k
quieted s client c now d Listed = judged_on s c
quieted s client c now d Judged = after_judging d.does
quieted s client c now d (Removing requests) = Removing (requests + 1)
quieted s client c now d Published = Published
quieted s client c now d (Replying answer) = Replying answer

abbrev pub is_cleaning : Does → Bool
is_cleaning DoesClean = true
is_cleaning _ = false

abbrev pub after_quiet : State → ℕ → ℕ → Doing → State
after_quiet s client now d =
    let c = s.clients client in
    set_client (record s { swept = (if is_cleaning d.does then next_entry s else s.swept) }) client
    (with_stage (quieted s client c now d d.stage) c)

-- looks

abbrev pub or_empty : Option Content → Content
or_empty content = unwrap_or content empty_content

-- the file's window as it is now
abbrev pub view_now : State → ℕ → ℕ → ℕ → View
view_now s handle inode window = record {
  entry = next_entry s;
  handle = handle;
  inode = inode;
  window = window;
  content = or_empty (content_at s.tree inode);
  origin = λ position. (s.marks inode position).origin;
}

-- a look of a reading, which goes on, or looked at the window of a missed block again
abbrev pub looked : Stage → Stage
looked (Working quiets started) = Reading 0
looked (Reading misses) = Reading misses
looked (Missing misses window owed) = LookedAgain (misses + 1) window owed
looked (LookedAgain misses window owed) = Reading misses
looked (Compacting k) = Compacting k
looked (Cleans k) = Cleans k
looked Listed = Listed
looked Judged = Judged
looked (Removing requests) = Removing requests
looked Published = Published
looked (Replying answer) = Replying answer

-- a look of a compaction, the first or the one after a missed block
abbrev pub compaction_looked : View → Stage → Stage
compaction_looked view (Compacting k) = Compacting (record k { view = view })
compaction_looked view _ =
    Compacting (record {
      first = view.entry;
      view = view;
      quiets = [];
      missed = None;
      has_replaced = false;
    })

abbrev pub is_compaction : Does → Bool
is_compaction (Compacts inode) = true
is_compaction _ = false

-- the client once its operation looked at a window of a file
abbrev pub with_look : State → Doing → (inode window : ℕ) → ModelClient → ModelClient
with_look s d inode window c =
    record c { views = view_now s (handle_of d.op) inode window ∷ c.views }

abbrev pub after_look : State → ℕ → ℕ → ℕ → Doing → State
after_look s client inode window d =
    let c = s.clients client in
    set_client s client (if is_compaction d.does
    then with_stage (compaction_looked (view_now s 0 inode window) d.stage) c
    else with_stage (looked d.stage) (with_look s d inode window c))

-- a block that a window shows wasn't found
abbrev pub missed : ℕ → List Owed → Stage → Stage
missed window owed (Working quiets started) = Missing 0 window owed
missed window owed (Reading misses) = Missing misses window owed
missed window owed (Missing misses at before) = Missing misses at before
missed window owed (LookedAgain misses at before) = Missing misses window owed
missed window owed (Compacting k) = Compacting (record k { missed = Some owed })
missed window owed (Cleans k) = Cleans k
missed window owed Listed = Listed
missed window owed Judged = Judged
missed window owed (Removing requests) = Removing requests
missed window owed Published = Published
missed window owed (Replying answer) = Replying answer

-- changes of files

abbrev pub reply_of_answer : Answer → Option Reply
reply_of_answer answer.Done = Some reply.Done
reply_of_answer (answer.Count bytes) = Some (reply.Count bytes)
reply_of_answer answer.NoData = Some (reply.Data [])
reply_of_answer answer.CacheStats = None

-- the answer of an operation that has nothing more to ask for once it has flushed
abbrev pub answer_then : ModelClient → Doing → Option Reply
answer_then c d = elim d.does [
  | Answers told ↦ reply_of_answer told
  | Releases ↦ (if is_last_of_removed c (handle_of d.op) then None else Some reply.Done)
  | Mounts writeback ↦ None
  | Transacts ↦ None
  | Reads offset len ↦ None
  | Truncates ↦ None
  | Copies ↦ None
  | Compacts inode ↦ None
  | DoesClean ↦ None
  | Collects delete ↦ None
  | Uploads ↦ None
]

-- after a commit: the next segment, what comes after the flush, or the answer
abbrev pub committed_stage : ModelClient → Doing → Stage
committed_stage c d =
    (if is_flushed d.flush c.pending then elim (answer_then c d) [
      | None ↦ Working 0 0
      | Some answer ↦ Replying answer
    ] else Working 0 0)

abbrev owed_by : ℕ → ℕ → ℕ → List Owed
owed_by entry client staged =
    (if staged == 0 then [] else record { commit = entry; client = client } ∷ [])

-- the client once it changed a file
abbrev pub without_views : ℕ → ModelClient → ModelClient
without_views inode c = record c { views = views_without inode c.views }

-- the client without the pending bytes of a range of a file, and without its views of that file
abbrev pub without_committed : (inode from len : ℕ) → ModelClient → ModelClient
without_committed inode from len c = record c {
  pending = without_range inode from len c.pending;
  views = views_without inode c.views;
}

abbrev pub after_commit : State → ℕ → ℕ → ℕ → ℕ → ℕ → ℕ → Doing → State
after_commit s client now inode from len staged d =
    let c = s.clients client in
    let rest = without_committed inode from len c in
    set_client (record s {
      tree = committed s.tree now inode from (bytes_in_range inode from len c.pending);
      marks = marks_committed (next_entry s) inode from len s.marks;
      owed = owed_by (next_entry s) client staged ++ s.owed;
      changes = changed_at (next_entry s) Written inode ∷ s.changes;
    }) client (with_stage (committed_stage rest d) rest)

abbrev pub after_truncation : State → ℕ → ℕ → ℕ → ℕ → Doing → State
after_truncation s client now inode len d =
    let c = s.clients client in
    set_client (record s {
      tree = truncated s.tree now inode len;
      marks = marks_truncated (next_entry s) inode len s.marks;
      changes = changed_at (next_entry s) Replaced inode ∷ s.changes;
    }) client (with_stage (Replying reply.Done) (without_views inode c))

abbrev pub after_copy : State → ℕ → ℕ → ℕ → ℕ → ℕ → ℕ → ℕ → Doing → State
after_copy s client now source from target to len d =
    let c = s.clients client in
    set_client (record s {
      tree = copied s.tree now source from target to len;
      marks =
          marks_copied (next_entry s) source from target to len
          (or_empty (content_at s.tree target)).length s.marks;
      copied = s.copied + len;
      changes = changed_at (next_entry s) Written target ∷ s.changes;
    }) client (with_stage (Replying (reply.Count len)) (without_views target c))

abbrev last_look : Stage → ℕ
last_look (Compacting k) = k.view.entry
last_look _ = 0

abbrev pub replaced : Stage → Stage
replaced (Compacting k) = Compacting (record k { has_replaced = true })
replaced stage = stage

abbrev pub after_compaction : State → ℕ → ℕ → ℕ → ℕ → ℕ → Doing → State
after_compaction s client inode window from to d = set_client (record s {
  marks =
      marks_compacted (next_entry s) (last_look d.stage) inode (window_start window + from)
      (window_start window + to) s.marks;
  changes = changed_at (next_entry s) Replaced inode ∷ s.changes;
}) client (with_stage (replaced d.stage) (s.clients client))

-- cleaning and settling

abbrev cleaning_of : Stage → Cleaning
cleaning_of (Cleans k) = k
cleaning_of _ = first_cleaning

abbrev pub after_item : State → ℕ → Cleaning → State
after_item s client k = set_client s client (with_stage (Cleans k) (s.clients client))

abbrev pub after_expiry : State → ℕ → ℕ → Doing → State
after_expiry s client sid d =
    let k = cleaning_of d.stage in
    after_item (with_tree (without_session s.tree sid) s) client
    (record k { sessions = k.sessions + 1 })

abbrev pub after_purge : State → ℕ → ℕ → Doing → State
after_purge s client inode d =
    let k = cleaning_of d.stage in
    after_item (with_tree (purged s.tree inode) s) client
    (if nat_lt inode TRASH_ROOT then record k { part = Trash; trash = k.trash + 1 }
    else record k { part = Trash; hours = k.hours + 1 })

-- a row of a removed file or of a dead slice went
abbrev pub after_cleaning : State → ℕ → ℕ → ℕ → Doing → State
after_cleaning s client table key d =
    let k = cleaning_of d.stage in
    after_item (record s {
      dropped = (if table == TABLE_OF_DROPPED then key ∷ s.dropped
          else s.dropped);
    }) client
    (if table == TABLE_OF_DROPPED then record k { files = k.files + 1 }
    else record k { part = Slices; slices = k.slices + 1 })

abbrev pub settled : ℕ → State → State
settled commit s = record s { owed = filter (λ o. not (o.commit == commit)) s.owed }

-- answers

-- What a done operation leaves of its client: a write is pending, a closed handle is open no more,
-- and after `umount` the client is as before any mount.
abbrev pub finished : Op → ModelClient → ModelClient
finished (op.Mount writeback) c = c
finished op.Umount c = unmounted
finished op.Beat c = c
finished (op.Lookup path) c = c
finished (op.Stat path) c = c
finished (op.Lstat path) c = c
finished (op.Fstat handle) c = c
finished (op.Mkdir path mode) c = c
finished (op.Create path mode) c = c
finished (op.Open path) c = c
finished (op.Close handle) c = record c {
  handles = with_file handle None c.handles;
  sustained =
      (if is_last_of_removed c handle then filter (λ inode.
      not (inode == inode_at c handle)) c.sustained else c.sustained);
}
finished (op.Flush handle) c = c
finished (op.Read handle offset len) c = c
finished (op.Write handle offset bytes) c =
    record c { pending = written (inode_at c handle) offset bytes c.pending }
finished (op.Truncate handle len) c = c
finished (op.Copy source from target to len) c = c
finished (op.Readdir path) c = c
finished (op.Chmod path mode) c = c
finished (op.Chown path uid gid) c = c
finished (op.Utimes path mtime) c = c
finished op.Statfs c = c
finished (op.Symlink target path) c = c
finished (op.Readlink path) c = c
finished (op.Unlink path) c = c
finished (op.Rmdir path) c = c
finished (op.Link path to) c = c
finished (op.Rename path to how) c = c
finished (op.Compact path window) c = c
finished op.Clean c = c
finished (op.Gc delete) c = c
finished op.Upload c = c
finished op.Stats c = c

-- a client whose session is gone is as before any mount; what is pending of an inode that is gone
-- is dropped
abbrev pub refused_as : Fault → ModelClient → ModelClient
refused_as (Stale (Session sid)) c = unmounted
refused_as (Stale (Node inode)) c = record c { pending = pending_of_others inode c.pending }
refused_as _ c = c

abbrev pub after_told : Op → Told → ModelClient → ModelClient
after_told o (Fine a b d e) c = record (finished o c) { doing = None }
after_told o (Looks first second len) c = record (finished o c) { doing = None }
after_told o (ToldRefused fault) c = record (refused_as fault c) { doing = None }

-- the refusal of another operation, while one is in progress, leaves the client
abbrev pub is_of_another : Stage → Told → Bool
is_of_another (Replying answer) told = false
is_of_another stage (ToldRefused InProgress) = true
is_of_another stage _ = false

abbrev pub answered_client : Told → ModelClient → ModelClient
answered_client told c = elim c.doing [
  | None ↦ c
  | Some d ↦ (if is_of_another d.stage told then c else after_told d.op told c)
]

-- an entry of a client's operation
abbrev pub after_step : State → Act → Doing → ActKind → State
after_step s act d (Mounted sid) = after_transaction s act.client act.at d
after_step s act d Meta = after_transaction s act.client act.at d
after_step s act d (Opened handle inode) = after_transaction s act.client act.at d
after_step s act d (Look inode window) = after_look s act.client inode window d
after_step s act d (Commit inode from len staged) =
    after_commit s act.client act.at inode from len staged d
after_step s act d (Truncated inode len) = after_truncation s act.client act.at inode len d
after_step s act d (Copied source from target to len) =
    after_copy s act.client act.at source from target to len d
after_step s act d (Compacted inode window from to) =
    after_compaction s act.client inode window from to d
after_step s act d (Settled commit) =
    set_client (settled commit s) act.client
    (with_stage (quieted s act.client (s.clients act.client) act.at d d.stage)
    (s.clients act.client))
after_step s act d (Expired sid) = after_expiry s act.client sid d
after_step s act d (Purged inode) = after_purge s act.client inode d
after_step s act d (Cleaned table key) = after_cleaning s act.client table key d
after_step s act d Quiet = after_quiet s act.client act.at d
after_step s act d (Miss inode window) =
    set_client s act.client (with_stage (missed window s.owed d.stage) (s.clients act.client))
after_step s act d Crashed = s
after_step s act d (Ticked by) = s
after_step s act d (Answered told) = s

-- An entry without an operation: a publish by a worker or for a `drain`.
abbrev pub after_other : State → ActKind → State
after_other s (Settled commit) = settled commit s
after_other s _ = s

abbrev pub of_doing : State → Act → Option Doing → State
of_doing s act None = after_other s act.kind
of_doing s act (Some d) = after_step s act d act.kind

abbrev pub changed : State → Act → ActKind → State
changed s act Crashed = set_client s act.client unmounted
changed s act (Answered told) =
    set_client s act.client (answered_client told (s.clients act.client))
changed s act _ = of_doing s act (s.clients act.client).doing

-- the state with one more entry
abbrev pub effect : State → Act → State
effect s act = record (changed s act act.kind) { count = s.count + 1 }
