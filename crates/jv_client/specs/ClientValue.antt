-- What contracts see of a client.
use Rattle.std.specs.Prelude.{◌≡◌, ℕ, List, [], Option, None, IfSome, unwrap_or}
use Rattle.jv_model.specs.declared.basics.Limits.{Limits}
use Rattle.jv_model.specs.promise.client.Pending.{PendingByte}
use Rattle.jv_pending.specs.Held.{PendingValue}
use Rattle.jv_cache.specs.Cached.{Cached}
use Rattle.jv_client_handles.specs.declared.handle.Handle.{Handle}
use Rattle.jv_client.specs.declared.doing.Doing.{Doing}

pub record ClientValue : Type 0 where
  pub id : ℕ
  pub limits : Limits
  pub session : Option ℕ
  pub handles : List (Option Handle)
  -- inodes that lost their last entry by this client's own hand while it had them open
  pub sustained : List ℕ
  pub pending : List PendingByte
  pub cache : Option Cached  -- None until the first read
  pub doing : Option Doing

-- the buffer may have as many bytes, and a cache that is there as many blocks, as the limits say
pub record HasLimits (limits : Limits) (pending : PendingValue)
    (cache : Option Cached) : Type 0 where
  pub buffer : pending.limit ≡ limits.buffer
  pub entries : IfSome cache (λ (cache : Cached). cache.entries ≡ limits.entries)

abbrev pub fresh_client : ℕ → Limits → ClientValue
fresh_client id limits =
    record {
      id = id;
      limits = limits;
      session = None;
      handles = [];
      sustained = [];
      pending = [];
      cache = None;
      doing = None;
    }

-- after a crash a client is as before any mount
abbrev pub crashed : ClientValue → ClientValue
crashed c = fresh_client c.id c.limits

-- the session's number, 0 where there is none
abbrev pub session_here : ClientValue → ℕ
session_here c = unwrap_or c.session 0
