-- A client stays stood for while what clients share goes on: another one's, and the one whose step it is, as its operation goes on
-- or ends.
use Rattle.std.proofs.Common.{◌≡◌, ◌≢◌, ℕ, ◌<◌, ◌≤◌, true, false, length, Option, None, Some, refl, sym, ap, subst, ◌∙◌}
use Rattle.std.specs.Prelude.{IfSome, IsSomeAnd}
use Rattle.jv_model.specs.declared.act.Told.{Told}
use Rattle.jv_model.specs.declared.act.Told.TheVariants.{Fine, Looks, Refused as ToldRefused}
use Rattle.jv_model.specs.declared.fault.Fault.{Fault}
use Rattle.jv_model.specs.declared.fault.Fault.TheVariants.{Stale}
use Rattle.jv_model.specs.declared.fault.Gone.TheVariants.{Session, Node}
use Rattle.jv_model.specs.declared.op.Op.{Op}
use Rattle.jv_model.specs.declared.op.Op.TheVariants as op
use Rattle.jv_model.specs.declared.setting.Setting.{Setting}
use Rattle.jv_model.specs.promise.blocks.Slices.{block_count}
use Rattle.jv_model.specs.promise.tree.Tree.{Tree}
use Rattle.jv_model.specs.promise.client.ModelClient.{ModelClient, Doing as ModelDoing, file_of}
use Rattle.jv_model.specs.promise.client.Profile.{handle_of}
use Rattle.jv_model.specs.promise.journal.State.{after_told}
use Rattle.jv_model.specs.promise.journal.Steps.{asked_of}
use Rattle.jv_volume.specs.promise.TypedRows.{Rows}
use Rattle.jv_volume.specs.promise.Slices.{next_slice}
use Rattle.jv_cache.specs.Cached.{Cached}
use Rattle.jv_volume_bytes.specs.Flights.{Flight}
use Rattle.jv_client_shared.specs.Direct.{HasPut}
use Rattle.jv_client_shared.specs.Keeping.{KeepsShared}
use Rattle.jv_client_shared.specs.promise.Shared.{HasStore, Known, Shared, depot_in}
use Rattle.jv_client_shared.proofs.KeepingLaws.{flies-stay}
use Rattle.jv_client_shared.proofs.StoreLaws.{rows_are}
use Rattle.jv_client_handles.specs.declared.handle.Handle.{Handle}
use Rattle.jv_client_handles.specs.Held.{SamePlace}
use Rattle.jv_client_handles.proofs.HandleLaws.{handles-stay}
use Rattle.jv_client_handles.proofs.SeenLaws.{views-later}
use Rattle.jv_client_reads.specs.Calls.{IsCacheOf}
use Rattle.jv_client_reads.specs.Going.{IsFetching}
use Rattle.jv_client_reads.proofs.CacheLaws.{cache_of-later}
use Rattle.jv_client_reads.proofs.FetchLaws.{come}
use Rattle.jv_model_steps.specs.IsStep.{at_stage}
use Rattle.jv_client.specs.declared.doing.Doing.{Doing}
use Rattle.jv_client.specs.declared.doing.Progress.{Progress}
use Rattle.jv_client.specs.declared.doing.Progress.TheVariants.{Reading, Working}
use Rattle.jv_client.specs.ClientValue.{ClientValue}
use Rattle.jv_client.specs.Ending.{ended, finished_here, refused_here, told_here}
use Rattle.jv_client.specs.Held.{GoesOn, IsClient, IsDoing, IsHeld, IsOnWay, flight_by, flight_of, stage_of}
use Rattle.jv_client.specs.UnderWay.{moved_to}
use Rattle.jv_client.proofs.held.DirectLaws.{direct-goes, put-goes}
use Rattle.jv_client.proofs.held.EndingLaws.{held-told, keeps_bytes}
use Rattle.jv_client.proofs.held.HeldLaws.{doing_of, held-doing, is_doing_of}

-- what a client's cache has is known
abbrev pub IsCached : Known → Shared → Option Cached → Type 0
IsCached g v cache = IfSome cache (IsCacheOf g.sizes v.yard.setting.block g.blocks)

-- ---- over what clients share, as it is

module _ (g : Known) (v : Shared) (count : ℕ) where
  -- a client that does nothing
  pub client-idle : (m : ModelClient) (c : ClientValue) → m.doing ≡ None → c.doing ≡ None → IsHeld g v m count c
      → IsCached g v c.cache → IsClient g v m count c
  client-idle m c idle none held cached = record {
    held = held;
    doing = subst (λ (o : Option Doing). SamePlace IsDoing m.doing o) (sym none)
        (subst (λ (o : Option ModelDoing). SamePlace IsDoing o None) (sym idle) tt);
    flight = subst (λ (o : Option Doing). IsOnWay g v (flight_of (record c { doing = o }))) (sym none) tt;
    reading = subst (λ (o : Option Doing). IfSome o (λ (d : Doing). GoesOn g v c d d.progress)) (sym none) tt;
    cache = cached;
    put = subst (λ (o : Option Doing). IfSome (flight_of (record c { doing = o })) (HasPut v.yard.setting.block (depot_in v)))
        (sym none) tt;
  }

  goes-moved : (h : ClientValue) (d : Doing) (p : Progress) → GoesOn g v h d p
      → GoesOn g v (record h { doing = Some (moved_to p d) }) (moved_to p d) p
  goes-moved h d (Working quiets started id) goes = tt
  goes-moved h d (Reading fetch need) goes = goes

  -- an operation that made a request, and has gone as far as this
  pub moved-client : (m : ModelClient) (h : ClientValue) (d : Doing) (p : Progress) → IsHeld g v m count h
      → IsCached g v h.cache → IsOnWay g v (flight_by h.pending d.flush p)
      → IfSome (flight_by h.pending d.flush p) (HasPut v.yard.setting.block (depot_in v)) → GoesOn g v h d p
      → IsClient g v (at_stage (stage_of p) (doing_of d) m) count (record h { doing = Some (moved_to p d) })
  moved-client m h d p held cached flight put goes = record {
    held = held-doing g v m count h (Some (record (doing_of d) { stage = stage_of p; moved = true })) (Some (moved_to p d)) held;
    doing = is_doing_of (moved_to p d);
    flight = flight;
    reading = goes-moved h d p goes;
    cache = cached;
    put = put;
  }

  -- an operation that has ended
  pub ended-client : (m : ModelClient) (h : ClientValue) → IsHeld g v m count h → IsCached g v h.cache
      → IsClient g v (record m { doing = None }) count (ended h)
  ended-client m h held cached =
      client-idle (record m { doing = None }) (ended h) refl refl (held-doing g v m count h None None held) cached

  -- an answer drops the cache or leaves it

  cached-finished : (o : Op) (h : ClientValue) → IsCached g v h.cache → IsCached g v (finished_here o h).cache
  cached-finished op.Umount h cached = tt
  cached-finished (op.Close handle) h cached = cached
  cached-finished _ h cached = cached

  cached-refused : (fault : Fault) (h : ClientValue) → IsCached g v h.cache → IsCached g v (refused_here fault h).cache
  cached-refused (Stale (Session sid)) h cached = tt
  cached-refused (Stale (Node inode)) h cached = cached
  cached-refused _ h cached = cached

  cached-told : (o : Op) (told : Told) (h : ClientValue) → IsCached g v h.cache → IsCached g v (told_here o told h).cache
  cached-told o (Fine a b c d) h cached = cached-finished o h cached
  cached-told o (Looks first second len) h cached = cached-finished o h cached
  cached-told o (ToldRefused fault) h cached = cached-refused fault h cached

  -- and the operation is over

  finished-idle : (o : Op) (h : ClientValue) → (finished_here o h).doing ≡ None
  finished-idle op.Umount h = refl
  finished-idle (op.Close handle) h = refl
  finished-idle _ h = refl

  refused-idle : (fault : Fault) (h : ClientValue) → (refused_here fault h).doing ≡ None
  refused-idle (Stale (Session sid)) h = refl
  refused-idle (Stale (Node inode)) h = refl
  refused-idle _ h = refl

  told_here-idle : (o : Op) (told : Told) (h : ClientValue) → (told_here o told h).doing ≡ None
  told_here-idle o (Fine a b c d) h = finished-idle o h
  told_here-idle o (Looks first second len) h = finished-idle o h
  told_here-idle o (ToldRefused fault) h = refused-idle fault h

  told-idle : (o : Op) (told : Told) (m : ModelClient) → (after_told o told m).doing ≡ None
  told-idle o (Fine a b c d) m = refl
  told-idle o (Looks first second len) m = refl
  told-idle o (ToldRefused fault) m = refl

  -- an operation that is answered, but a write that is done
  pub told-client : (o : Op) (told : Told) (m : ModelClient) (h : ClientValue) → keeps_bytes o told ≡ false
      → IsHeld g v m count h → IsCached g v h.cache → IsClient g v (after_told o told m) count (told_here o told h)
  told-client o told m h none held cached =
      client-idle (after_told o told m) (told_here o told h) (told-idle o told m) (told_here-idle o told h)
      (held-told g v count o told m h none held) (cached-told o told h cached)

-- ---- while it goes on

module _ (t : Tree) (g : Known) (v : Shared) (store : HasStore t g v) (own : ℕ) (g' : Known) (v' : Shared)
    (k : KeepsShared own g g' v v') where
  pub held-goes : (m : ModelClient) (count later : ℕ) (c : ClientValue) → count ≤ later → IsHeld g v m count c
      → IsHeld g' v' m later c
  held-goes m count later c le h = record {
    session = h.session;
    removed = h.removed;
    handles = handles-stay t g v store own g' v' k m.views count later le m.handles c.handles h.handles;
    views = views-later count later m.views le h.views;
    pending = h.pending;
    direct = direct-goes v v' k.setting k.direct m.writeback c.handles h.direct;
  }

  -- the size of a slice that has a block stays
  pub cache-goes : (cache : Option Cached) → IsCached g v cache → IsCached g' v' cache
  cache-goes None h = tt
  cache-goes (Some cache) h =
      subst (λ (x : Setting). IsCacheOf g'.sizes x.block g'.blocks cache) (sym k.setting)
      (cache_of-later g.sizes v.yard.setting.block g.blocks g'.sizes g'.blocks cache k.keeps.learns.blocks
      (λ b bytes there. k.keeps.learns.sizes b.id
      (subst (λ (rows : Rows). b.id < next_slice rows) (sym (rows_are t g v store)) (store.below b bytes there))) h)

  pub reading-goes : (c : ClientValue) (d : Doing) (p : Progress) → GoesOn g v c d p → GoesOn g' v' c d p
  reading-goes c d (Working quiets started id) h = tt
  reading-goes c d (Reading fetch need) h = by_handle (file_of c.handles (handle_of d.op)) h
    where
      by_handle : (o : Option Handle)
          → IsSomeAnd o (λ (handle : Handle). (fetch.block ≡ v.yard.setting.block)
          × IsFetching g.blocks handle.views (asked_of d.does) fetch)
          → IsSomeAnd o (λ (handle : Handle). (fetch.block ≡ v'.yard.setting.block)
          × IsFetching g'.blocks handle.views (asked_of d.does) fetch)
      by_handle None h = h
      by_handle (Some handle) h = (
        h.0 ∙ ap (λ (x : Setting). x.block) (sym k.setting),
        come g.blocks g'.blocks handle.views (asked_of d.does) fetch k.keeps.learns.blocks h.1,
      )

  -- a slice in flight goes on, if the step isn't about it
  pub flight-goes : (o : Option Flight) → ((f : Flight) → o ≡ Some f → f.id ≢ own) → IsOnWay g v o → IsOnWay g' v' o
  flight-goes None apart h = tt
  flight-goes (Some f) apart h = (
    flies-stay own g g' v v' k f (apart f refl) h.0,
    subst (λ (x : Setting). f.put ≤ block_count (length f.bytes) x.block) (sym k.setting) h.1,
  )

  doing-goes : (c : ClientValue) (o : Option Doing) → IfSome o (λ (d : Doing). GoesOn g v c d d.progress)
      → IfSome o (λ (d : Doing). GoesOn g' v' c d d.progress)
  doing-goes c None h = h
  doing-goes c (Some d) h = reading-goes c d d.progress h

  module _ (m : ModelClient) (count later : ℕ) (c : ClientValue) (le : count ≤ later) (is : IsClient g v m count c) where
    -- another client, whose slice in flight isn't the step's own
    pub client-stays : ((f : Flight) → flight_of c ≡ Some f → f.id ≢ own) → IsClient g' v' m later c
    client-stays apart = record {
      held = held-goes m count later c le is.held;
      doing = is.doing;
      flight = flight-goes (flight_of c) apart is.flight;
      reading = doing-goes c c.doing is.reading;
      cache = cache-goes c.cache is.cache;
      put = put-goes v v' k.setting k.direct (flight_of c) is.put;
    }

    -- the step's own client, whose operation goes on
    pub client-asks : (d : Doing) (p : Progress) → IsOnWay g' v' (flight_by c.pending d.flush p)
        → IfSome (flight_by c.pending d.flush p) (HasPut v'.yard.setting.block (depot_in v')) → GoesOn g' v' c d p
        → IsClient g' v' (at_stage (stage_of p) (doing_of d) m) later (record c { doing = Some (moved_to p d) })
    client-asks d p flight put goes =
        moved-client g' v' later m c d p (held-goes m count later c le is.held) (cache-goes c.cache is.cache) flight put goes

    -- or ends
    pub client-ended : IsClient g' v' (record m { doing = None }) later (ended c)
    client-ended = ended-client g' v' later m c (held-goes m count later c le is.held) (cache-goes c.cache is.cache)

    -- or is answered, but for a write that is done
    pub client-told : (o : Op) (told : Told) → keeps_bytes o told ≡ false
        → IsClient g' v' (after_told o told m) later (told_here o told c)
    client-told o told none =
        told-client g' v' later o told m c none (held-goes m count later c le is.held) (cache-goes c.cache is.cache)
