-- A reading after its request: it goes on with what it needs next, it is answered, or it failed.
use Rattle.std.proofs.Common.{◌≡◌, ◌≢◌, ℕ, ◌≤◌, ◌<◌, false, List, length, Option, None, Some, refl, sym, ap, subst}
use Rattle.std.proofs.Common.{◌∙◌, arith}
use Rattle.std.specs.Prelude.{IsSomeAnd}
use Rattle.jv_model.specs.declared.act.Told.TheVariants.{Looks}
use Rattle.jv_model.specs.declared.op.Op.{Op}
use Rattle.jv_model.specs.declared.op.Op.TheVariants as op
use Rattle.jv_model.specs.promise.client.ModelClient.{ModelClient, Reading as ModelReading, file_of}
use Rattle.jv_model.specs.promise.client.Profile.{handle_of}
use Rattle.jv_model.specs.promise.journal.Reading.{Asked, asked_parts, reading}
use Rattle.jv_model.specs.promise.journal.State.{after_told}
use Rattle.jv_model.specs.promise.journal.Steps.{asked_of}
use Rattle.jv_cache.specs.Cached.{Cached}
use Rattle.jv_volume_bytes.specs.promise.Blocks.{Blocks, known_by}
use Rattle.jv_client_shared.specs.promise.Shared.{Known, Shared}
use Rattle.jv_client_handles.specs.declared.handle.Handle.{Handle}
use Rattle.jv_client_handles.specs.Held.{IsHandle}
use Rattle.jv_client_handles.proofs.HandleLaws.{handles-later}
use Rattle.jv_client_handles.proofs.SeenLaws.{views-later}
use Rattle.jv_client_reads.specs.declared.need.Need.{Need}
use Rattle.jv_client_reads.specs.declared.need.Need.TheVariants.{Nothing}
use Rattle.jv_client_reads.specs.Calls.{HasCached, IsCacheOf, Wants}
use Rattle.jv_client_reads.specs.Fetching.{Fetching, fetch_left}
use Rattle.jv_client_reads.specs.Going.{CanFetch, IsFetching}
use Rattle.jv_client_reads.specs.Shows.{IsReadBy}
use Rattle.jv_client_reads.proofs.CacheLaws.{LooksUp, cache_of-has, cache_of-looks}
use Rattle.jv_client_reads.proofs.SameLaws.{fetches_show}
use Rattle.jv_model_steps.specs.IsStep.{at_stage}
use Rattle.jv_client.specs.declared.doing.Doing.{Doing}
use Rattle.jv_client.specs.declared.doing.Flush.TheVariants as flush
use Rattle.jv_client.specs.declared.doing.Progress.TheVariants.{Reading}
use Rattle.jv_client.specs.declared.reading.Found.{Found}
use Rattle.jv_client.specs.ClientValue.{ClientValue}
use Rattle.jv_client.specs.Ending.{told_here}
use Rattle.jv_client.specs.Held.{IsClient, IsHeld}
use Rattle.jv_client.specs.Reading.{GoesAhead, read_of, told_read}
use Rattle.jv_client.specs.UnderWay.{Flushes, IsReady, LacksNeed, Reads, moved_to, steps_left}
use Rattle.jv_client.proofs.held.EndingLaws.{keeps_bytes}
use Rattle.jv_client.proofs.held.HeldLaws.{doing_of}
use Rattle.jv_client.proofs.held.OthersStepLaws.{moved-client, told-client}
use Rattle.jv_client.proofs.reads.ReaderLaws.{IsAsking, file_by}

-- what is held after more entries
pub held-later : (g : Known) (v : Shared) (m : ModelClient) (count later : ℕ) (c : ClientValue) → count ≤ later
    → IsHeld g v m count c → IsHeld g v m later c
held-later g v m count later c le h = record {
  session = h.session;
  removed = h.removed;
  handles = handles-later g v m.views count later le m.handles c.handles h.handles;
  views = views-later count later m.views le h.views;
  pending = h.pending;
  direct = h.direct;
}

-- an answer of a reading keeps no bytes
pub none-kept : (o : Op) (handle offset len : ℕ) → o ≡ op.Read handle offset len → (first second n : ℕ)
    → keeps_bytes o (Looks first second n) ≡ false
none-kept o handle offset len is first second n = ap (λ o. keeps_bytes o (Looks first second n)) is

-- the client with other handles and another cache, whose reading needs this next
abbrev pub going_on : List (Option Handle) → Cached → Fetching → Need → Doing → ClientValue → ClientValue
going_on handles cache f next d h = record h {
  handles = handles;
  cache = Some cache;
  doing = Some (moved_to (Reading f next) d);
}

-- or whose reading is over
abbrev pub over : List (Option Handle) → Cached → ClientValue → ClientValue
over handles cache h = record h { handles = handles; cache = Some cache; doing = None }

module _ (block : ℕ) (h : ClientValue) (d : Doing) (offset len : ℕ) (cache : Cached) (fetch : Fetching) (next : Need)
    (asks : IsAsking block h d offset len cache fetch next)
    (handles : List (Option Handle)) (file : Handle) (opened : file_of handles (handle_of d.op) ≡ Some file)
    (inode : file.inode ≡ asks.reads.file.inode) where
  -- ---- it goes on

  module _ (later : Cached) (f : Fetching) (need : Need) (can : CanFetch file.views f) (wants : Wants file.views f need)
      (more : need ≢ Nothing) where
    pub ready-on : LacksNeed need later → IsReady (going_on handles later f need d h)
    ready-on lacks =
        let reads = asks.reads in
        record {
          buffer = asks.buffer;
          doing = record {
            form = Flushes (handle_of d.op) file
                (Reads offset len reads.op_is asks.does reads.some reads.short reads.low)
                (reads.flush_is ∙ ap (λ n. flush.File n) (sym inode)) opened reads.session;
            at = record {
              read = (offset, len, asks.does);
              flushed = asks.none;
              goes_on = subst (λ o. IsSomeAnd o (λ (handle : Handle). CanFetch handle.views f
                  × Wants handle.views f need)) (sym opened) (can, wants);
              more = more;
              cache = refl;
              lacks = lacks;
            };
            asks = λ moved. refl;
          };
        }

    pub falls-on : fetch_left f < fetch_left fetch → steps_left (going_on handles later f need d h) < steps_left h
    falls-on less = let fewer = asks.fewer in omega (arith, less, fewer)

  module _ (g : Known) (v : Shared) (m : ModelClient) (count : ℕ)
      (held : IsHeld g v m count (record h { handles = handles }))
      (named : IsHandle g v m.views count (handle_of d.op) (file_by file) file)
      (before : Cached) (cached : IsCacheOf g.sizes v.yard.setting.block g.blocks before)
      (later : Cached) (looks : LooksUp before later) where
    held-cached : IsHeld g v m count (record h { handles = handles; cache = Some later })
    held-cached = record {
      session = held.session;
      removed = held.removed;
      handles = held.handles;
      views = held.views;
      pending = held.pending;
      direct = held.direct;
    }

    cached-later : IsCacheOf g.sizes v.yard.setting.block g.blocks later
    cached-later = cache_of-looks g.sizes v.yard.setting.block g.blocks before later looks cached

    -- the cache has what the views name
    pub has_cached : HasCached g.blocks file.views v.yard.setting.block before
    has_cached =
        cache_of-has g.sizes v.yard.setting.block g.blocks file.views before
        (fetches_show.sized g v m.views count (handle_of d.op) (file_by file) file named) cached

    module _ (own : Fetching) (own_block : own.block ≡ v.yard.setting.block)
        (fetching : IsFetching g.blocks file.views (asked_parts offset len) own) where
      has_own : HasCached g.blocks file.views own.block before
      has_own = subst (λ n. HasCached g.blocks file.views n before) (sym own_block) has_cached

      pub client-on : (f : Fetching) (need : Need) → GoesAhead file.views before own f
          → IsClient g v (at_stage (ModelReading 0) (doing_of d) m) count (going_on handles later f need d h)
      client-on f need goes =
          moved-client g v count m (record h { handles = handles; cache = Some later }) d (Reading f need) held-cached
          cached-later tt tt
          (subst (λ o. IsSomeAnd o (λ (handle : Handle). (f.block ≡ v.yard.setting.block)
          × IsFetching g.blocks handle.views (asked_of d.does) f)) (sym opened) (
            goes.block ∙ own_block,
            subst (λ does. IsFetching g.blocks file.views (asked_of does) f) (sym asks.does)
                (goes.reads g.blocks (asked_parts offset len) has_own fetching),
          ))

      -- ---- it is answered

      pub reading-is : (found : Found)
          → ((blocks : Blocks) (all : List Asked) → HasCached blocks file.views own.block before
          → IsFetching blocks file.views all own → IsReadBy (known_by own.block blocks) file.views all (read_of found))
          → reading m.views (handle_of d.op) (file_by file) (asked_parts offset len) found.first found.second
          ≡ Some found.bytes
      reading-is found read =
          let reads = asks.reads in
          fetches_show.same g v m.views count (handle_of d.op) offset len (file_by file) file (read_of found) reads.some
          reads.low reads.short named
          (subst (λ n. IsReadBy (known_by n g.blocks) file.views (asked_parts offset len) (read_of found)) own_block
          (read g.blocks (asked_parts offset len) has_own fetching))

    pub client-over : (count' : ℕ) → count ≤ count' → (found : Found)
        → IsClient g v (after_told d.op (told_read found) m) count' (over handles later h)
    client-over count' le found =
        let c : ClientValue = record h { handles = handles; cache = Some later } in
        let is : told_here d.op (told_read found) c ≡ over handles later h =
        ap (λ o. told_here o (told_read found) c) asks.reads.op_is in
        subst (IsClient g v (after_told d.op (told_read found) m) count') is
        (told-client g v count' d.op (told_read found) m c
        (none-kept d.op (handle_of d.op) offset len asks.reads.op_is found.first found.second (length found.bytes))
        (held-later g v m count count' c le held-cached) cached-later)
