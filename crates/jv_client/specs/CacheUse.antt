-- What a step does with the client's cache, and what it answers of it.
use Rattle.std.specs.Prelude.{◌≡◌, ℕ, nat_lt, length, Bool, true, false, ◌&&◌, List, [], ◌∷◌, IfSome, IsTrue, is_some, unwrap_or, Option, None, Some, Ok}
use Rattle.jv_model.specs.declared.act.ActKind.{ActKind}
use Rattle.jv_model.specs.declared.act.ActKind.TheVariants.{Look as LookEntry, Miss, Quiet}
use Rattle.jv_model.specs.declared.act.Told.{Told}
use Rattle.jv_model.specs.declared.act.Told.TheVariants.{Fine, Looks, Refused as ToldRefused}
use Rattle.jv_model.specs.declared.fault.Device.TheVariants.{Keeper}
use Rattle.jv_model.specs.declared.fault.Fault.{Fault}
use Rattle.jv_model.specs.declared.fault.Fault.TheVariants.{DeviceFailed, NoMemory, Stale}
use Rattle.jv_model.specs.declared.fault.Gone.TheVariants.{Session}
use Rattle.jv_model.specs.declared.op.Op.{Op}
use Rattle.jv_model.specs.declared.slice.BlockId.{BlockId}
use Rattle.jv_model.specs.promise.blocks.BlockNames.{name_in}
use Rattle.jv_model.specs.promise.blocks.Slices.{block_count}
use Rattle.jv_model.specs.promise.client.OpForms.{is_read}
use Rattle.jv_model.specs.client.OpForms.{is_umount}
use Rattle.jv_cache.specs.Cached.{Cached}
use Rattle.jv_volume_bytes.specs.Flights.{Flight}
use Rattle.jv_yard.specs.BlockCalls.{GetsBlock}
use Rattle.jv_yard.specs.promise.YardValue.{YardValue}
use Rattle.jv_client_handles.specs.declared.views.View.{View}
use Rattle.jv_client_handles.specs.Views.{SeenViews, with_view}
use Rattle.jv_client_reads.specs.declared.need.Need.{Need}
use Rattle.jv_client_reads.specs.declared.need.Need.TheVariants.{Look, Block, Nothing}
use Rattle.jv_client_reads.specs.Ahead.{blocks_ahead}
use Rattle.jv_client_reads.specs.Calls.{Asks, IsMissing, Keeps}
use Rattle.jv_client_reads.specs.Fetching.{Fetching, block_needed}
use Rattle.jv_client.specs.declared.doing.Doing.{Doing}
use Rattle.jv_client.specs.declared.made.Made.{Made}
use Rattle.jv_client.specs.declared.made.Made.TheVariants as made
use Rattle.jv_client.specs.ClientValue.{ClientValue}
use Rattle.jv_client.specs.Failures.{says_failure}
use Rattle.jv_client.specs.Getting.{GetsNone}
use Rattle.jv_client.specs.Held.{flight_of}
use Rattle.jv_client.specs.Reading.{LooksAhead, NeedsNext, ahead_from, ahead_in, fetch_in, need_in, views_here}
use Rattle.jv_client.specs.Stats.{AnswersNumbers}
use Rattle.jv_client.specs.UnderWay.{asks_more, left}

-- the session is gone
abbrev pub is_gone : Fault → Bool
is_gone (Stale (Session sid)) = true
is_gone _ = false

-- whether an operation's answer ends the mount: an umount was done, or the session is gone
abbrev pub ends_mount : Op → Told → Bool
ends_mount o (Fine a b c d) = is_umount o
ends_mount o (Looks first second len) = is_umount o
ends_mount o (ToldRefused fault) = is_gone fault

abbrev pub leaves : Op → Made → Bool
leaves o (made.Request kind) = false
leaves o (made.Answer told reply) = ends_mount o told
leaves o (made.Both kind told reply) = ends_mount o told
leaves o (made.Broken key bytes) = false

-- whether the bytes of a read are answered
abbrev pub has_bytes : Told → Bool
has_bytes (Looks first second len) = true
has_bytes _ = false

-- whether it is answered that memory ran out
abbrev pub is_out : Told → Bool
is_out (ToldRefused NoMemory) = true
is_out _ = false

-- and that depot, shelf or carrier failed
abbrev pub is_of_blocks : Told → Bool
is_of_blocks (ToldRefused (DeviceFailed Keeper)) = false
is_of_blocks (ToldRefused (DeviceFailed device)) = true
is_of_blocks _ = false

-- the entry of a look, of a block that came, and of one that isn't there
abbrev pub is_look : ActKind → Bool
is_look (LookEntry inode window) = true
is_look _ = false

abbrev pub is_quiet : ActKind → Bool
is_quiet Quiet = true
is_quiet _ = false

abbrev pub is_miss : ActKind → Bool
is_miss (Miss inode window) = true
is_miss _ = false

-- whether the read goes on, or its bytes are answered
abbrev pub goes_well : Made → Bool
goes_well (made.Request kind) = true
goes_well (made.Answer told reply) = has_bytes told
goes_well (made.Both kind told reply) = has_bytes told
goes_well (made.Broken key bytes) = false

-- whether a read goes well after a request of such a kind, or may have made one before memory ran
-- out
abbrev pub may_have_made : (ActKind → Bool) → Made → Bool
may_have_made such (made.Request kind) = such kind
may_have_made such (made.Answer told reply) = is_out told
may_have_made such (made.Both kind told reply) = has_bytes told && such kind
may_have_made such (made.Broken key bytes) = false

-- whether a step says that a block didn't come or wasn't put
abbrev pub fails_block : Made → Bool
fails_block (made.Request kind) = is_miss kind
fails_block (made.Answer told reply) = is_of_blocks told
fails_block (made.Both kind told reply) = is_miss kind
fails_block (made.Broken key bytes) = false

-- whether the operation is answered without a request
abbrev pub answers_alone : Made → Bool
answers_alone (made.Answer told reply) = true
answers_alone _ = false

-- A read is answered without a request: with its bytes, as nothing is left to read, or that memory
-- ran out.
abbrev pub ReadsAlone : Made → List BlockId → Type 0
ReadsAlone (made.Answer (Looks first second len) reply) rest = rest ≡ []
ReadsAlone (made.Answer (ToldRefused NoMemory) reply) rest = Unit {0}
ReadsAlone _ rest = ⊥

-- what a read needs after a step, nothing where it is over
abbrev pub need_then : ClientValue → Need
need_then after = unwrap_or (need_in after.doing) Nothing

-- the blocks that a read has ahead after a step, by what its handle saw then
pub record HasAhead (d : Doing) (after : ClientValue) (views : SeenViews)
    (rest : List BlockId) : Type 0 where
  pub seen : views_here after.handles d.op ≡ views
  pub are : rest ≡ ahead_in views (fetch_in after.doing)

-- a read, of which nothing is left to flush, needs this block next, and the cache lacks it
pub record WantsBlock (block : ℕ) (h : ClientValue) (d : Doing) (fetch : Fetching) (b : BlockId)
    (looked : Cached) : Type 0 where
  pub flushed : left h ≡ None
  pub next : NeedsNext block h d fetch (Block b) looked
  pub needed : block_needed fetch ≡ Some b
  pub lacks : IsMissing looked b

-- What a step of a read does with the cache, which `is` so then. While something is left to flush,
-- nothing. Else it looks up the blocks that the read has ahead, in their order, up to what the read
-- needs then or, where memory runs out, as far as it came: without a request by what its handle saw
-- (`LooksOnly`), and after a look by the view that this gave (`LooksThen`). A look that gave none
-- ends the read (`LooksInVain`). A step that gets a block gets the one that the read needs and the
-- client's cache lacks, keeps it in that cache unless memory is out, and goes ahead by what that
-- has then (`KeepsOne`); or the block didn't come, which ends the read (`GotNone`).
pub data MovesInRead (h : ClientValue) (d : Doing) (done : Made) (before used : YardValue)
    (after : ClientValue) (is : Option Cached) : Type 0 where
  Flushes : IsTrue (is_some (left h)) → is ≡ h.cache → MovesInRead h d done before used after is
  LooksOnly : (rest : List BlockId) → left h ≡ None → ReadsAlone done rest
      → LooksAhead (ahead_from before.setting.block h d) h.limits.entries h.cache is rest
      → MovesInRead h d done before used after is
  LooksInVain : (fetch : Fetching) (window : ℕ) (looked : Cached) → left h ≡ None
      → goes_well done ≡ false → fails_block done ≡ false
      → NeedsNext before.setting.block h d fetch (Look window) looked → is ≡ Some looked
      → MovesInRead h d done before used after is
  LooksThen : (fetch : Fetching) (window : ℕ) (view : View) (rest : List BlockId)
      (views : SeenViews) (looked later : Cached)
      → left h ≡ None → IsTrue (may_have_made is_look done)
      → NeedsNext before.setting.block h d fetch (Look window) looked
      → views ≡ with_view window view (views_here h.handles d.op)
      → Asks (blocks_ahead views fetch) rest (need_then after) looked later
      → (IsTrue (goes_well done) → HasAhead d after views rest) → is ≡ Some later
      → MovesInRead h d done before used after is
  KeepsOne : (fetch : Fetching) (b : BlockId) (bytes : List ℕ) (due rest : List BlockId)
      (looked kept later : Cached)
      → WantsBlock before.setting.block h d fetch b looked → IsTrue (may_have_made is_quiet done)
      → blocks_ahead (views_here h.handles d.op) fetch ≡ b ∷ due
      → GetsBlock h.id (name_in before.setting b) before used (Ok (Some bytes))
      → Keeps b bytes looked kept → Asks due rest (need_then after) kept later
      → (IsTrue (goes_well done) → HasAhead d after (views_here h.handles d.op) rest)
      → is ≡ Some later → MovesInRead h d done before used after is
  GotNone : (fetch : Fetching) (b : BlockId) (looked : Cached)
      → WantsBlock before.setting.block h d fetch b looked → GetsNone h d fetch b done before used
      → is ≡ Some looked → MovesInRead h d done before used after is

-- whether a block of the slice in flight is still to be put
abbrev pub is_put_due : ℕ → Option Flight → Bool
is_put_due block None = false
is_put_due block (Some f) = nat_lt f.put (block_count (length f.bytes) block)

-- Where a step may say that a block didn't come or wasn't put: where a put is due, and then only
-- that a device failed; or in a read that has nothing left to flush, as `MovesInRead` says.
pub data MayFail (block : ℕ) (h : ClientValue) (d : Doing) (done : Made) : Type 0 where
  InFlight : IsTrue (is_put_due block (flight_of h)) → IsTrue (answers_alone done)
      → MayFail block h d done
  InRead : IsTrue (is_read d.op) → left h ≡ None → leaves d.op done ≡ false
      → MayFail block h d done

-- Where a step may say that the keeper failed: while something is left to flush, where no put is
-- due, but a slice's number or a commit; and after that in a read, at a look, as `MovesInRead`
-- says, or where the operation has a transaction to make.
pub data MayFailRows (block : ℕ) (h : ClientValue) (d : Doing) : Type 0 where
  OfSegment : IsTrue (is_some (left h)) → is_put_due block (flight_of h) ≡ false
      → MayFailRows block h d
  OfLook : left h ≡ None → IsTrue (is_read d.op) → MayFailRows block h d
  OfTransaction : left h ≡ None → IsTrue (asks_more h d) → MayFailRows block h d

-- A step that ends the mount drops the cache, and no other one but a read's changes it.
pub record MovesCache (d : Doing) (h after : ClientValue) (done : Made)
    (before used : YardValue) : Type 0 where
  pub drops : IsTrue (leaves d.op done) → after.cache ≡ None
  pub stays : leaves d.op done ≡ false → is_read d.op ≡ false → after.cache ≡ h.cache
  pub reads : leaves d.op done ≡ false → IsTrue (is_read d.op)
      → MovesInRead h d done before used after after.cache
  pub fails : IsTrue (fails_block done) → MayFail before.setting.block h d done
  pub fails_rows : IsTrue (says_failure Keeper done) → MayFailRows before.setting.block h d

-- the cache moves as the operation in progress says, and the answer of its numbers has those
-- before the step
pub record CacheUse (h after : ClientValue) (done : Made) (before used : YardValue) : Type 0 where
  pub moves : IfSome h.doing (λ (d : Doing). MovesCache d h after done before used)
  pub numbers : AnswersNumbers h done
