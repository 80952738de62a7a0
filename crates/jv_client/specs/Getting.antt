-- What a client gets of a block that it asks for.
use Rattle.std.specs.Prelude.{◌≡◌, ℕ, ◌<◌, List, ◌∷◌, length, Option, None, Some, IfSome, Result, Ok, Err}
use Rattle.jv_model.specs.declared.act.ActKind.{ActKind}
use Rattle.jv_model.specs.declared.act.ActKind.TheVariants.{Miss}
use Rattle.jv_model.specs.declared.act.Told.TheVariants.{Refused as ToldRefused}
use Rattle.jv_model.specs.declared.fault.Fault.{Fault}
use Rattle.jv_model.specs.declared.fault.Fault.TheVariants.{TryAgain}
use Rattle.jv_model.specs.declared.op.Reply.TheVariants.{Refused as RefusedReply}
use Rattle.jv_model.specs.declared.slice.BlockId.{BlockId}
use Rattle.jv_model.specs.promise.client.Profile.{handle_of}
use Rattle.jv_model.specs.promise.journal.Reading.{Asked}
use Rattle.jv_model.specs.promise.blocks.BlockNames.{name_in}
use Rattle.jv_cache.specs.Cached.{Cached}
use Rattle.jv_volume_bytes.specs.promise.Blocks.{Blocks}
use Rattle.jv_client_handles.specs.Handles.{inode_here}
use Rattle.jv_client_handles.specs.Views.{SeenViews}
use Rattle.jv_client_reads.specs.Ahead.{blocks_ahead}
use Rattle.jv_client_reads.specs.Calls.{Keeps, LacksBlock}
use Rattle.jv_client_reads.specs.Fetching.{Fetching, fetch_left, first_window}
use Rattle.jv_client_reads.specs.Going.{CanFetch, IsFetching}
use Rattle.jv_yard.specs.declared.faults.YardFault.{YardFault}
use Rattle.jv_yard.specs.BlockCalls.{GetsBlock}
use Rattle.jv_yard.specs.Refusals.{yard_fault}
use Rattle.jv_yard.specs.promise.YardValue.{YardValue}
use Rattle.jv_client.specs.declared.doing.Doing.{Doing}
use Rattle.jv_client.specs.declared.made.Made.{Made}
use Rattle.jv_client.specs.declared.made.Made.TheVariants as made
use Rattle.jv_client.specs.ClientValue.{ClientValue}
use Rattle.jv_client.specs.Transacting.{Refuses}

-- a device failed or memory ran out before a block's bytes came
pub record IsUnread (client : ℕ) (b : BlockId) (before after : YardValue)
    (fault : Fault) : Type 0 where
  pub why : YardFault
  pub gets : GetsBlock client (name_in before.setting b) before after (Err why)
  pub is : fault ≡ yard_fault why

-- the block isn't there
pub record IsMissed (client : ℕ) (b : BlockId) (before after : YardValue) : Type 0 where
  pub value : Option (List ℕ)
  pub gets : GetsBlock client (name_in before.setting b) before after (Ok value)
  pub none : LacksBlock b.size value

-- reading a block, by the result
abbrev pub ReadsBlock : ℕ → BlockId → YardValue → YardValue → Result (Option (List ℕ)) Fault
    → Type 0
ReadsBlock client b before after (Ok (Some bytes)) =
    GetsBlock client (name_in before.setting b) before after (Ok (Some bytes))
    × (length bytes ≡ b.size)
ReadsBlock client b before after (Ok None) = IsMissed client b before after
ReadsBlock client b before after (Err fault) = IsUnread client b before after fault

-- what was read at the name of a block of this size, by the result
abbrev pub IsBlockIn : ℕ → Option (List ℕ) → Option (List ℕ) → Type 0
IsBlockIn size value (Some bytes) = (value ≡ Some bytes) × (length bytes ≡ size)
IsBlockIn size value None = LacksBlock size value

-- the entry of a request for a block that isn't there: of the file and the window that are read
abbrev pub missed : ClientValue → Doing → Fetching → ActKind
missed h d fetch = Miss (inode_here h.handles (handle_of d.op)) (first_window fetch.parts)

-- the read is over, and its answer names no commit that the block waits for
abbrev pub IsMissedBy : ClientValue → Doing → Option Fetching → ClientValue → Made → Type 0
IsMissedBy h d fetch after done =
    IfSome fetch (λ fetch. Refuses (missed h d fetch) (TryAgain 0) h after done)

-- A block didn't come, and the step is answered so: a device failed or memory ran out; or the block
-- isn't there, which is a miss that names no commit.
pub data GetsNone (h : ClientValue) (d : Doing) (fetch : Fetching) (b : BlockId) (done : Made)
    (before after : YardValue) : Type 0 where
  Unread : (fault : Fault) → IsUnread h.id b before after fault
      → done ≡ made.Answer (ToldRefused fault) (RefusedReply fault)
      → GetsNone h d fetch b done before after
  NotThere : IsMissed h.id b before after
      → done
      ≡ made.Both (missed h d fetch) (ToldRefused (TryAgain 0)) (RefusedReply (TryAgain 0))
      → GetsNone h d fetch b done before after

-- A reading got the block that it needs, which the cache keeps or not.
pub record Fills (b : BlockId) (bytes : List ℕ) (before after : Fetching)
    (cache kept : Cached) : Type 0 where
  pub block : after.block ≡ before.block
  pub can : (views : SeenViews) → CanFetch views before → CanFetch views after
  pub falls : fetch_left after < fetch_left before
  pub ahead : (views : SeenViews) → blocks_ahead views before ≡ b ∷ blocks_ahead views after
  pub cache_is : Keeps b bytes cache kept
  pub reads : (blocks : Blocks) (views : SeenViews) (all : List Asked) → blocks b ≡ Some bytes
      → IsFetching blocks views all before → IsFetching blocks views all after

-- with the cache where it stands
pub record HasFilled (b : BlockId) (bytes : List ℕ) (before after : Fetching)
    (was is : Option Cached) : Type 0 where
  pub cache : Cached
  pub kept : Cached
  pub was_is : was ≡ Some cache
  pub kept_is : is ≡ Some kept
  pub fills : Fills b bytes before after cache kept
