-- When a client in memory stands for one of the model.
use Rattle.std.specs.Prelude.{◌≡◌, ℕ, Bool, true, false, ◌≤◌, ◌&&◌, ◌+◌, not, nat_lt, if◌then◌else◌, zero, suc, List, [], ◌∷◌, length, IfSome, IsSomeAnd, Option, None, Some, Result, Ok, Err}
use Rattle.std.specs.List.{AllByRecursion}
use Rattle.jv_model.specs.declared.fault.Fault.{Fault}
use Rattle.jv_model.specs.declared.op.Op.{Op}
use Rattle.jv_model.specs.declared.profile.Does.{Does}
use Rattle.jv_model.specs.declared.profile.Profile.{Profile}
use Rattle.jv_model.specs.declared.profile.Flushes.TheVariants.{Nothing, ItsFiles, IfFull, Everything}
use Rattle.jv_model.specs.declared.profile.Handles.{Handles}
use Rattle.jv_model.specs.declared.profile.Handles.TheVariants as named
use Rattle.jv_model.specs.promise.blocks.Slices.{block_count}
use Rattle.jv_model.specs.promise.tree.Tree.{Tree}
use Rattle.jv_model.specs.promise.client.Pending.{PendingByte, Segment, bytes_in_range}
use Rattle.jv_model.specs.promise.client.Profile.{handle_of}
use Rattle.jv_model.specs.promise.client.ModelClient.{ModelClient, View as ModelView, Doing as ModelDoing, Flush as ModelFlush, OfFiles, OfAll, Stage, Working, Reading, file_of, with_file, held_inodes}
use Rattle.jv_model.specs.promise.client.Submission.{next_segment}
use Rattle.jv_model.specs.promise.journal.Steps.{asked_of}
use Rattle.jv_model.specs.promise.Lists.{is_among}
use Rattle.jv_volume.specs.Holding.{IsHoldable}
use Rattle.jv_volume_bytes.specs.Flights.{Flight}
use Rattle.jv_client_reads.specs.Going.{IsFetching}
use Rattle.jv_client_reads.specs.Calls.{IsCacheOf}
use Rattle.jv_client_handles.specs.declared.handle.Handle.{Handle}
use Rattle.jv_client_handles.specs.Handles.{held_here, inode_here}
use Rattle.jv_client_handles.specs.Held.{AreHandles, SamePlace}
use Rattle.jv_client_shared.specs.Direct.{HasPut}
use Rattle.jv_client_shared.specs.Flying.{Flies}
use Rattle.jv_client_shared.specs.promise.Shared.{Known, Shared, depot_in}
use Rattle.jv_client.specs.declared.doing.Doing.{Doing}
use Rattle.jv_client.specs.declared.doing.Flush.{Flush}
use Rattle.jv_client.specs.declared.doing.Flush.TheVariants as flush
use Rattle.jv_client.specs.declared.doing.Progress.{Progress}
use Rattle.jv_client.specs.declared.doing.Progress.TheVariants as progress
use Rattle.jv_client.specs.ClientValue.{ClientValue}
use Rattle.jv_client.specs.Direct.{GoesDirect}

-- what is committed first
abbrev pub flush_of_code : Flush → ModelFlush
flush_of_code flush.Nothing = OfFiles []
flush_of_code (flush.File inode) = OfFiles (inode ∷ [])
flush_of_code (flush.Files first second) = OfFiles (first ∷ second ∷ [])
flush_of_code flush.All = OfAll

-- the segment that is committed next
abbrev pub segment_left : Flush → List PendingByte → Option Segment
segment_left first pending = next_segment (flush_of_code first) pending

-- A client without its operation, after `count` entries. `direct` holds while each block goes to
-- the depot at once and none is removed.
pub record IsHeld (g : Known) (v : Shared) (m : ModelClient) (count : ℕ)
    (c : ClientValue) : Type 0 where
  pub session : m.session ≡ c.session
  pub removed : (inode : ℕ) → is_among inode m.sustained ≡ is_among inode c.sustained
  pub handles : AreHandles g v m.views count m.handles c.handles
  pub views : AllByRecursion (λ (view : ModelView). view.entry ≤ count) m.views
  pub pending : m.pending ≡ c.pending
  pub direct : GoesDirect v.yard.setting.block (depot_in v) m.writeback c.handles

-- What a client has open, and what it wrote, is of inodes that were given to files.
pub record Holds (t : Tree) (m : ModelClient) : Type 0 where
  pub opened : (inode : ℕ) → is_among inode (held_inodes m.handles) ≡ true → IsHoldable t inode
  pub pending : AllByRecursion (λ (b : PendingByte). IsHoldable t b.inode) m.pending

-- whether a handle is the client's last one on a file that it removed itself while it had it open
abbrev pub is_last_here : ClientValue → ℕ → Bool
is_last_here c handle = is_among (inode_here c.handles handle) c.sustained
    && not (is_among (inode_here c.handles handle) (held_here (with_file handle None c.handles)))

abbrev pub files_here : List (Option Handle) → Handles → Flush
files_here handles named.None = flush.Nothing
files_here handles (named.One handle) = flush.File (inode_here handles handle)
files_here handles (named.Two first second) =
    flush.Files (inode_here handles first) (inode_here handles second)

abbrev pub full_flush : ℕ → ℕ → ℕ → Flush
full_flush buffer held len = (if nat_lt buffer (held + len) then flush.All else flush.Nothing)

-- what an operation of this row commits first
abbrev pub flush_here : ClientValue → Profile → Flush
flush_here c row = elim row.flushes [
  | Nothing ↦ flush.Nothing
  | ItsFiles ↦ files_here c.handles row.handles
  | IfFull len ↦ full_flush c.limits.buffer (length c.pending) len
  | Everything ↦ flush.All
]

-- how far an operation is
abbrev pub stage_of : Progress → Stage
stage_of (progress.Working quiets started id) = Working quiets started
stage_of (progress.Reading fetch need) = Reading 0

-- an operation before its first step
abbrev pub begun : Op → Does → Flush → Doing
begun o does flush =
    record {
      op = o;
      does = does;
      flush = flush;
      progress = progress.Working 0 0 0;
      has_moved = false;
    }

-- an operation of the model is the one in progress
pub record IsDoing (m : ModelDoing) (d : Doing) : Type 0 where
  pub op : m.op ≡ d.op
  pub does : m.does ≡ d.does
  pub flush : m.flush ≡ flush_of_code d.flush
  pub stage : m.stage ≡ stage_of d.progress
  pub moved : m.moved ≡ d.has_moved

-- the slice in flight of an operation that flushes: it has its number, and one block less than
-- requests was put
abbrev pub flight_from : ℕ → ℕ → List PendingByte → Option Segment → Option Flight
flight_from put id pending None = None
flight_from put id pending (Some segment) =
    Some (record {
      id = id;
      bytes = bytes_in_range segment.inode segment.from segment.len pending;
      put = put;
    })

abbrev pub flight_by : List PendingByte → Flush → Progress → Option Flight
flight_by pending first (progress.Working quiets started id) =
    elim quiets [ zero ↦ None | suc put ↦ flight_from put id pending (segment_left first pending) ]
flight_by pending first (progress.Reading fetch need) = None

abbrev pub flight_in : List PendingByte → Option Doing → Option Flight
flight_in pending None = None
flight_in pending (Some d) = flight_by pending d.flush d.progress

-- the slice that a client has in flight
abbrev pub flight_of : ClientValue → Option Flight
flight_of c = flight_in c.pending c.doing

-- its number, 0 where there is none
abbrev pub number_of : Option Flight → ℕ
number_of None = 0
number_of (Some f) = f.id

abbrev pub in_flight : ClientValue → ℕ
in_flight c = number_of (flight_of c)

-- a slice in flight has no more blocks than its bytes fill
abbrev pub IsOnWay : Known → Shared → Option Flight → Type 0
IsOnWay g v None = Unit {0}
IsOnWay g v (Some f) = Flies g v f × (f.put ≤ block_count (length f.bytes) v.yard.setting.block)

-- a reading has gone on well, by the blocks that are known
abbrev pub GoesOn : Known → Shared → ClientValue → Doing → Progress → Type 0
GoesOn g v c d (progress.Working quiets started id) = Unit {0}
GoesOn g v c d (progress.Reading fetch need) =
    IsSomeAnd (file_of c.handles (handle_of d.op)) (λ (handle : Handle).
    (fetch.block ≡ v.yard.setting.block) × IsFetching g.blocks handle.views (asked_of d.does) fetch)

-- A client of the model is the one in memory, after `count` entries, over what clients share. `put`
-- holds while each block goes to the depot at once and none is removed.
pub record IsClient (g : Known) (v : Shared) (m : ModelClient) (count : ℕ)
    (c : ClientValue) : Type 0 where
  pub held : IsHeld g v m count c
  pub doing : SamePlace IsDoing m.doing c.doing
  pub flight : IsOnWay g v (flight_of c)
  pub reading : IfSome c.doing (λ (d : Doing). GoesOn g v c d d.progress)
  pub cache : IfSome c.cache (IsCacheOf g.sizes v.yard.setting.block g.blocks)
  pub put : IfSome (flight_of c) (HasPut v.yard.setting.block (depot_in v))

-- the refusal of a call that begins an operation
abbrev pub refused_with : Result (Unit {0}) (Op × Fault) → Option Fault
refused_with (Ok unit) = None
refused_with (Err refused) = Some refused.1
