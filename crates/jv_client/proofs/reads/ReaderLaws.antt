-- A reading in progress: its form, the model's reading that it stands for, and that it may ask for something.
use Rattle.std.proofs.Common.{◌≡◌, ℕ, zero, suc, ◌≤◌, ◌<◌, true, false, not, List, Option, None}
use Rattle.std.proofs.Common.{Some, refl, sym, ap, subst, ◌∙◌, arith}
use Rattle.std.specs.Prelude.{is_some, IsTrue, IfSome, IsSomeAnd}
use Rattle.jv_model.specs.declared.limits.TheConstants.{FILE_END, MAX_DATA, WINDOW}
use Rattle.jv_model.specs.declared.op.Op.TheVariants as op
use Rattle.jv_model.specs.declared.profile.Does.TheVariants as does
use Rattle.jv_model.specs.promise.client.Profile.{handle_of}
use Rattle.jv_model.specs.promise.client.ModelClient.{ModelClient, OpenFile, file_of}
use Rattle.jv_model.specs.promise.client.Submission.{is_flushed}
use Rattle.jv_model.specs.promise.journal.Reading.{asked_parts}
use Rattle.jv_model.specs.promise.journal.State.{State, sees_first}
use Rattle.jv_model.specs.promise.journal.Steps.{asked_of, file_in_use}
use Rattle.jv_model.specs.promise.client.Pending.{PendingByte}
use Rattle.jv_cache.specs.Cached.{Cached}
use Rattle.jv_client_reads.specs.declared.need.Need.{Need}
use Rattle.jv_client_reads.specs.Calls.{IsCacheOf, Wants}
use Rattle.jv_client_reads.specs.Fetching.{Fetching, fetch_left}
use Rattle.jv_client_reads.specs.Going.{CanFetch, IsFetching}
use Rattle.jv_client_handles.specs.declared.handle.Handle.{Handle}
use Rattle.jv_client_handles.specs.Held.{IsHandle}
use Rattle.jv_client_handles.proofs.HandleLaws.{handles-there}
use Rattle.jv_client_shared.specs.promise.Shared.{HasStore, Known, Shared}
use Rattle.jv_model_steps.specs.Stages.{MayRead, Begins, GoesOn}
use Rattle.jv_client_requests.proofs.GetLaws.{MayGet, First, Later}
use Rattle.jv_client_handles.proofs.TableLaws.{the_some}
use Rattle.jv_client.specs.declared.doing.Doing.{Doing}
use Rattle.jv_client.specs.declared.doing.Flush.TheVariants as flush
use Rattle.jv_client.specs.declared.doing.Progress.{Progress}
use Rattle.jv_client.specs.declared.doing.Progress.TheVariants.{Working, Reading}
use Rattle.jv_client.specs.ClientValue.{ClientValue}
use Rattle.jv_client.specs.Held.{IsClient, flight_by, flight_in, flush_of_code, in_flight, number_of}
use Rattle.jv_client.specs.Held.{stage_of}
use Rattle.jv_client.specs.Reading.{IsAhead, NeedsNext, need_in, put_at}
use Rattle.jv_client.specs.UnderWay.{IsForm}
use Rattle.jv_client.specs.UnderWay.{IsAt, IsReading, IsReady, IsUnderWay, LacksNeed, has_segment, left, steps_left}
use Rattle.jv_client.specs.UnderWay.{left_of, steps_of}
use Rattle.jv_client.specs.Held.{segment_left}
use Rattle.jv_client.proofs.held.HeldLaws.{client-doing, doing_of}
use Rattle.jv_client.proofs.reads.ReadingLaws.{reads-file}
use Rattle.jv_model.proofs.TestLaws.{none_if}
use Rattle.jv_client.proofs.begun.FormLaws.{none_left}

-- ---- its form

-- the handle that it reads by is open, and it flushes that file
pub record ReadsBy (h : ClientValue) (d : Doing) (offset len : ℕ) : Type 0 where
  pub file : Handle
  pub op_is : d.op ≡ op.Read (handle_of d.op) offset len
  pub flush_is : d.flush ≡ flush.File file.inode
  pub opened : file_of h.handles (handle_of d.op) ≡ Some file
  pub session : IsTrue (is_some h.session)
  pub some : 0 < len
  pub short : len ≤ WINDOW
  pub low : offset < FILE_END

pub reads_by : (h : ClientValue) (d : Doing) (offset len : ℕ) → IsForm h d → d.does ≡ does.Reads offset len
    → ReadsBy h d offset len
reads_by h d offset len form is =
    let r = reads-file h d offset len is form in
    let named : r.handle ≡ handle_of d.op = sym (ap handle_of r.op_is) in
    record {
      file = r.file;
      op_is = r.op_is ∙ ap (λ n. op.Read n offset len) named;
      flush_is = r.first;
      opened = ap (file_of h.handles) (sym named) ∙ r.opened;
      session = r.session;
      some = r.some;
      short = r.long;
      low = r.low;
    }

-- ---- the model's reading

-- an open file of the model, as a handle has it
abbrev pub file_by : Handle → OpenFile
file_by handle = record { inode = handle.inode; opened = handle.opened }

no_quiets : (h : ClientValue) (d : Doing) (quiets started id : ℕ) → IsAt h d (Working quiets started id)
    → has_segment h d ≡ false → quiets ≡ 0
no_quiets h d zero started id at none = refl
no_quiets h d (suc n) started id at none = absurd (let some = at.segment (omega arith) in cc (sym some ∙ none))

-- it has no slice in flight
pub none_flying : (h : ClientValue) (d : Doing) → h.doing ≡ Some d → IsAt h d d.progress → has_segment h d ≡ false
    → in_flight h ≡ 0
none_flying h d busy at none =
    ap (λ o. number_of (flight_in h.pending o)) busy ∙ by_progress d.progress at
  where
    by_progress : (p : Progress) → IsAt h d p → number_of (flight_by h.pending d.flush p) ≡ 0
    by_progress (Reading fetch next) at = refl
    by_progress (Working quiets started id) at =
        ap (λ n. number_of (flight_by h.pending d.flush (Working n started id)))
        (no_quiets h d quiets started id at none)

module _ (h : ClientValue) (d : Doing) (busy : h.doing ≡ Some d) (at : IsAt h d d.progress)
    (none : has_segment h d ≡ false) (offset len : ℕ) (reads : ReadsBy h d offset len)
    (g : Known) (v : Shared) (m : ModelClient) (count : ℕ) (client : IsClient g v m count h) where
  pub busy_in : m.doing ≡ Some (doing_of d)
  busy_in = client-doing g v m count h d busy client

  flushed_in : is_flushed (flush_of_code d.flush) m.pending ≡ true
  flushed_in = ap (is_flushed (flush_of_code d.flush)) client.held.pending ∙ ap not none

  -- the file of the model's client
  file_there : (file_of m.handles (handle_of d.op) ≡ Some (file_by reads.file))
      × IsHandle g v m.views count (handle_of d.op) (file_by reads.file) reads.file
  file_there =
      let own = handles-there g v m.views count m.handles h.handles client.held.handles (handle_of d.op) reads.file
      reads.opened in
      let same : own.0 ≡ file_by reads.file =
      ap (λ n. record own.0 { inode = n }) own.2.inode
      ∙ ap (λ n. record (file_by reads.file) { opened = n }) own.2.opened in (
        own.1 ∙ ap Some same,
        subst (λ (file : OpenFile). IsHandle g v m.views count (handle_of d.op) file reads.file) same own.2,
      )

  pub opened_in : file_in_use m (doing_of d) ≡ Some (file_by reads.file)
  opened_in = file_there.0

  pub handle_in : IsHandle g v m.views count (handle_of d.op) (file_by reads.file) reads.file
  handle_in = file_there.1

  -- it may look at a window
  pub may_read : MayRead m (doing_of d) 0
  may_read = by_progress d.progress refl at
    where
      by_progress : (p : Progress) → stage_of d.progress ≡ stage_of p → IsAt h d p → MayRead m (doing_of d) 0
      by_progress (Reading fetch next) same here = GoesOn same
      by_progress (Working quiets started id) same here =
          Begins started (same ∙ ap (λ n. stage_of (Working n started id)) (no_quiets h d quiets started id here none))
          flushed_in refl

  -- and for a block, once it has a view of its first window
  pub may_get : sees_first m (doing_of d) (asked_parts offset len) ≡ true → MayGet offset len m (doing_of d) 0
  may_get sees = by_progress d.progress refl at
    where
      by_progress : (p : Progress) → stage_of d.progress ≡ stage_of p → IsAt h d p
          → MayGet offset len m (doing_of d) 0
      by_progress (Reading fetch next) same here = Later same
      by_progress (Working quiets started id) same here =
          First started (same ∙ ap (λ n. stage_of (Working n started id)) (no_quiets h d quiets started id here none))
          flushed_in sees refl

-- ---- it needs something

-- a client whose reading needs this, and that has this cache
abbrev pub asking : ClientValue → Cached → Doing → Fetching → Need → ClientValue
asking h cache d fetch next = record h { cache = Some cache; doing = Some (put_at (Reading fetch next) d) }

-- The step found the client as it was before, and its reading needs this, by the views of its handle.
pub record IsAsking (block : ℕ) (h : ClientValue) (d : Doing) (offset len : ℕ) (cache : Cached) (fetch : Fetching)
    (next : Need) : Type 0 where
  pub busy : h.doing ≡ Some d
  pub buffer : MAX_DATA ≤ h.limits.buffer
  pub at : IsAt h d d.progress
  pub does : d.does ≡ does.Reads offset len
  pub none : has_segment h d ≡ false
  pub reads : ReadsBy h d offset len
  pub needs : NeedsNext block h d fetch next cache
  pub can : CanFetch reads.file.views fetch
  pub wants : Wants reads.file.views fetch next
  pub lacks : LacksNeed next cache
  pub fewer : fetch_left fetch ≤ steps_left h
  pub goes : (g : Known) (v : Shared) (m : ModelClient) (count : ℕ) → v.yard.setting.block ≡ block
      → IsClient g v m count h
      → (fetch.block ≡ v.yard.setting.block) × IsFetching g.blocks reads.file.views (asked_parts offset len) fetch
      × IsCacheOf g.sizes v.yard.setting.block g.blocks cache

-- what its cache has is known
pub cached-known : {block : ℕ} {h : ClientValue} {d : Doing} {offset len : ℕ} {cache : Cached} {fetch : Fetching} {next : Need}
    → IsAsking block h d offset len cache fetch next → (before : Shared) → before.yard.setting.block ≡ block
    → (s : State) (g : Known) → HasStore s.tree g before → IsClient g before (s.clients h.id) s.count h
    → IsCacheOf g.sizes before.yard.setting.block g.blocks cache
cached-known {block} {h} asks before length_is s g has client = (asks.goes g before (s.clients h.id) s.count length_is client).2

-- the model's reading, by what is known
pub record IsRead (g : Known) (v : Shared) (m : ModelClient) (count : ℕ) (d : Doing) (offset len : ℕ) (file : Handle)
    (fetch : Fetching) : Type 0 where
  pub busy : m.doing ≡ Some (doing_of d)
  pub may : MayRead m (doing_of d) 0
  pub in_use : file_in_use m (doing_of d) ≡ Some (file_by file)
  pub named : IsHandle g v m.views count (handle_of d.op) (file_by file) file
  pub block : fetch.block ≡ v.yard.setting.block
  pub fetching : IsFetching g.blocks file.views (asked_parts offset len) fetch

pub is_read_in : {block : ℕ} {h : ClientValue} {d : Doing} {offset len : ℕ} {cache : Cached} {fetch : Fetching}
    {next : Need} → (asks : IsAsking block h d offset len cache fetch next) (g : Known) (v : Shared) (m : ModelClient) (count : ℕ)
    → v.yard.setting.block ≡ block → IsClient g v m count h → IsRead g v m count d offset len asks.reads.file fetch
is_read_in {block} {h} {d} {offset} {len} asks g v m count length_is client = record {
  busy = busy_in h d asks.busy asks.at asks.none offset len asks.reads g v m count client;
  may = may_read h d asks.busy asks.at asks.none offset len asks.reads g v m count client;
  in_use = opened_in h d asks.busy asks.at asks.none offset len asks.reads g v m count client;
  named = handle_in h d asks.busy asks.at asks.none offset len asks.reads g v m count client;
  block = (asks.goes g v m count length_is client).0;
  fetching = (asks.goes g v m count length_is client).1;
}

-- nothing is left to flush
pub flushed-asking : {block : ℕ} {h : ClientValue} {d : Doing} {offset len : ℕ} {cache : Cached} {fetch : Fetching} {next : Need}
    → IsAsking block h d offset len cache fetch next → left h ≡ None
flushed-asking {block} {h} {d} asks =
    ap (left_of h.pending) asks.busy ∙ none_if (segment_left d.flush h.pending) asks.none

-- and what it is then
pub record Asking (block : ℕ) (h c : ClientValue) (next : Need) : Type 0 where
  pub d : Doing
  pub offset : ℕ
  pub len : ℕ
  pub cache : Cached
  pub fetch : Fetching
  pub is : c ≡ asking h cache d fetch next
  pub asks : IsAsking block h d offset len cache fetch next

some_is : {X : Type 0} (P : X → Type 0) (o : Option X) (x : X) → o ≡ Some x → IsSomeAnd o P → P x
some_is P o x is h = subst (λ o. IsSomeAnd o P) is h

pub is_asking : (block : ℕ) (h c : ClientValue) (next : Need) → IsAhead block h c → IsReady h → IsReady c
    → left c ≡ None → need_in c.doing ≡ Some next → Asking block h c next
is_asking block h c next a ready after none need = by_cache (the_some c.cache reading.cache)
  where
    here : c.doing ≡ Some (put_at (Reading a.fetch a.next) a.d)
    here = ap (λ (x : ClientValue). x.doing) a.is

    same : a.next ≡ next
    same = let e : Some a.next ≡ Some next = sym (ap need_in here) ∙ need in cc

    reading : IsReading c (put_at (Reading a.fetch a.next) a.d) a.fetch a.next
    reading = (subst (λ o. IfSome o (IsUnderWay c)) here after.doing).at

    before : IsUnderWay h a.d
    before = subst (λ o. IfSome o (IsUnderWay h)) a.busy ready.doing

    offset : ℕ
    offset = a.reads.0

    len : ℕ
    len = a.reads.1

    reads : ReadsBy h a.d offset len
    reads = reads_by h a.d offset len before.form a.reads.2

    handles : c.handles ≡ h.handles
    handles = ap (λ (x : ClientValue). x.handles) a.is

    pending : c.pending ≡ h.pending
    pending = ap (λ (x : ClientValue). x.pending) a.is

    opened : file_of c.handles (handle_of a.d.op) ≡ Some reads.file
    opened = ap (λ (handles : List (Option Handle)). file_of handles (handle_of a.d.op)) handles ∙ reads.opened

    goes_on : CanFetch reads.file.views a.fetch × Wants reads.file.views a.fetch next
    goes_on = subst (λ n. CanFetch reads.file.views a.fetch × Wants reads.file.views a.fetch n) same
        (some_is (λ (handle : Handle). CanFetch handle.views a.fetch × Wants handle.views a.fetch a.next)
        (file_of c.handles (handle_of a.d.op)) reads.file opened reading.goes_on)

    steps : steps_left c ≡ fetch_left a.fetch
    steps = ap (steps_of c.pending) here

    by_cache : (cache : Cached) × (c.cache ≡ Some cache) → Asking block h c next
    by_cache (cache, is) = record {
      d = a.d;
      offset = offset;
      len = len;
      cache = cache;
      fetch = a.fetch;
      is = a.is ∙ ap (λ o. record h { cache = o; doing = Some (put_at (Reading a.fetch a.next) a.d) }) is
          ∙ ap (asking h cache a.d a.fetch) same;
      asks = record {
        busy = a.busy;
        buffer = ready.buffer;
        at = before.at;
        does = a.reads.2;
        none = ap (λ (pending : List PendingByte). is_some (segment_left a.d.flush pending)) (sym pending)
            ∙ none_left c (put_at (Reading a.fetch a.next) a.d) here none;
        reads = reads;
        needs = subst (λ n. NeedsNext block h a.d a.fetch n cache) same (a.needs cache is);
        can = goes_on.0;
        wants = goes_on.1;
        lacks = subst (λ n. LacksNeed n cache) same (subst (λ o. IfSome o (LacksNeed a.next)) is reading.lacks);
        fewer = subst (λ n. n ≤ steps_left h) steps a.fewer;
        goes = λ g v m count length client.
            let both = a.goes g v m count length client in
            let own = some_is (λ (handle : Handle). (a.fetch.block ≡ v.yard.setting.block)
            × IsFetching g.blocks handle.views (asked_of a.d.does) a.fetch)
            (file_of c.handles (handle_of a.d.op)) reads.file opened both.0 in (
              own.0,
              subst (λ does. IsFetching g.blocks reads.file.views (asked_of does) a.fetch) a.reads.2 own.1,
              subst (λ o. IfSome o (IsCacheOf g.sizes v.yard.setting.block g.blocks)) is both.1,
            );
      };
    }
