-- A reading that asks for nothing is answered with what its views show, or with the memory that it lacks.
use Rattle.std.proofs.Common.{◌≡◌, ℕ, ◌+◌, not, true, false, List, [], ◌∷◌, length, Option, None, Some}
use Rattle.std.proofs.Common.{refl, sym, ap, subst, ◌∙◌, arith}
use Rattle.std.specs.Prelude.{is_some, IfSome}
use Rattle.std.proofs.lemmas.Bool.{false_from_ne_true, or_from}
use Rattle.jv_model.specs.declared.act.ActKind.TheVariants.{Answered}
use Rattle.jv_model.specs.declared.act.Told.{Told}
use Rattle.jv_model.specs.declared.act.Told.TheVariants.{Refused as ToldRefused}
use Rattle.jv_model.specs.declared.fault.Device.{Device}
use Rattle.jv_model.specs.declared.fault.Fault.TheVariants.{NoMemory}
use Rattle.jv_model.specs.declared.op.Reply.{Reply}
use Rattle.jv_model.specs.declared.op.Reply.TheVariants.{Data, Refused as RefusedReply}
use Rattle.jv_model.specs.declared.op.Step.TheVariants.{Done}
use Rattle.jv_model.specs.declared.profile.Does.{Does}
use Rattle.jv_model.specs.declared.profile.Does.TheVariants as does
use Rattle.jv_model.specs.declared.slice.BlockId.{BlockId}
use Rattle.jv_model.specs.promise.client.ModelClient.{ModelClient, Doing as ModelDoing, file_of}
use Rattle.jv_model.specs.promise.client.Profile.{handle_of}
use Rattle.jv_model.specs.promise.journal.Reading.{asked_parts}
use Rattle.jv_model.specs.promise.journal.State.{State}
use Rattle.jv_model.specs.promise.client.OpForms.{is_read}
use Rattle.jv_model.specs.client.OpForms.{is_umount}
use Rattle.jv_cache.specs.Cached.{Cached}
use Rattle.jv_volume_bytes.specs.promise.Blocks.{Blocks, known_by}
use Rattle.jv_client_shared.specs.promise.Shared.{HasStore, Known, Shared}
use Rattle.jv_client_shared.proofs.SameLaws.{same-none, same-stays}
use Rattle.jv_client_handles.specs.declared.handle.Handle.{Handle}
use Rattle.jv_client_handles.specs.Views.{SeenViews}
use Rattle.jv_client_reads.specs.Ahead.{blocks_ahead}
use Rattle.jv_client_reads.specs.Calls.{IsCacheOf}
use Rattle.jv_client_reads.specs.Fetching.{begins}
use Rattle.jv_client_reads.specs.Shows.{IsReadBy}
use Rattle.jv_model_steps.specs.IsStep.{IsStep}
use Rattle.jv_model_steps.proofs.ReadStepLaws.{read-answered_alone, told-read}
use Rattle.jv_client_requests.specs.Request.{Request}
use Rattle.jv_client_requests.proofs.StillLaws.{failure-request, still-request}
use Rattle.jv_client.specs.declared.doing.Doing.{Doing}
use Rattle.jv_client.specs.declared.doing.Progress.{Progress}
use Rattle.jv_client.specs.declared.doing.Progress.TheVariants.{Working, Reading}
use Rattle.jv_client.specs.declared.made.Made.{Made}
use Rattle.jv_client.specs.declared.made.Made.TheVariants as made
use Rattle.jv_client.specs.declared.reading.Found.{Found}
use Rattle.jv_client.specs.ClientValue.{ClientValue}
use Rattle.jv_client.specs.Ending.{ended}
use Rattle.jv_client.specs.Held.{GoesOn, IsClient, IsHeld, in_flight, stage_of}
use Rattle.jv_client.specs.Failures.{says_failure}
use Rattle.jv_client.specs.Makes.{Makes}
use Rattle.jv_client.specs.Transacting.{Fails}
use Rattle.jv_client.specs.UnderWay.{IsReady, asks_more, does_of, has_more, has_not_seen, has_segment, left}
use Rattle.jv_client.specs.Reading.{Begins, IsAhead, IsCachedAs, LooksAhead, ReadsAtOnce, Shows, ahead_from, need_in}
use Rattle.jv_client.specs.Reading.{read_of, start_ahead, told_read}
use Rattle.jv_client.specs.CacheUse.{CacheUse, LooksOnly}
use Rattle.jv_client.proofs.held.CacheUseLaws.{cache-read}
use Rattle.jv_client.proofs.reads.LookedUpLaws.{from-start, views-in}
use Rattle.jv_client.proofs.begun.FormLaws.{under_way}
use Rattle.jv_client.proofs.held.HeldLaws.{client-doing, doing_of, holds-doing}
use Rattle.jv_client.proofs.held.OthersStepLaws.{client-ended}
use Rattle.jv_client.proofs.steps.AnswerLaws.{makes-as, makes-ended, not_ending, request-lands, same-yard, uses-none}
use Rattle.jv_client.proofs.reads.ReadingLaws.{NotBegun, ReadsFile, ReadsHere, flushed-here, flushed-model, not-begun, reads-as}
use Rattle.jv_client.proofs.reads.ReadingLaws.{reads-here, seen_first, seen_window, sized-here, there}

-- ---- a client with another cache

module _ (g : Known) (v : Shared) (m : ModelClient) (count : ℕ) (h : ClientValue) (cache : Option Cached) where
  abbrev recached : ClientValue
  recached = record h { cache = cache }

  pub held-cached : IsHeld g v m count h → IsHeld g v m count recached
  held-cached held = record {
    session = held.session;
    removed = held.removed;
    handles = held.handles;
    views = held.views;
    pending = held.pending;
    direct = held.direct;
  }

  goes-cached : (d : Doing) (p : Progress) → GoesOn g v h d p → GoesOn g v recached d p
  goes-cached d (Working quiets started id) goes = tt
  goes-cached d (Reading fetch next) goes = goes

  reading-cached : (o : Option Doing) → IfSome o (λ (d : Doing). GoesOn g v h d d.progress)
      → IfSome o (λ (d : Doing). GoesOn g v recached d d.progress)
  reading-cached None goes = tt
  reading-cached (Some d) goes = goes-cached d d.progress goes

  pub client-cached : IfSome cache (IsCacheOf g.sizes v.yard.setting.block g.blocks) → IsClient g v m count h
      → IsClient g v m count recached
  client-cached known is = record {
    held = held-cached is.held;
    doing = is.doing;
    flight = is.flight;
    reading = reading-cached h.doing is.reading;
    cache = known;
    put = is.put;
  }

-- ---- an answer without a request

module _ (now entry : ℕ) (h : ClientValue) (ready : IsReady h) (v : Shared) (cache : Option Cached)
    (knows : (sizes : ℕ → ℕ) (block : ℕ) (blocks : Blocks) → IfSome h.cache (IsCacheOf sizes block blocks)
    → IfSome cache (IsCacheOf sizes block blocks)) (told : Told) (reply : Reply) where
  abbrev left_by : ClientValue
  left_by = record h { cache = cache; doing = None }

  abbrev without_op : ModelClient → ModelClient
  without_op m = record m { doing = None }

  answered-alone : CacheUse h left_by (made.Answer told reply) v.yard v.yard
      → ((device : Device) → says_failure device (made.Answer told reply) ≡ false)
      → ((s : State) (g : Known) → HasStore s.tree g v → IsClient g v (s.clients h.id) s.count h
      → Request s g g v v h.id now (in_flight h) (in_flight h) (Answered told ∷ []) (Done reply) s.tree
      (without_op (s.clients h.id)) s.copied)
      → Makes now entry h left_by v v (made.Answer told reply)
  answered-alone uses calm asked =
      makes-ended now entry h left_by v v (made.Answer told reply) reply refl ready
      (record { id = refl; limits = refl; idle = refl })
      (uses-none (made.Answer told reply) v calm tt) (same-yard now h (made.Answer told reply) v.yard)
      uses tt
      (λ s g number store holds is. let mine = in_flight h in let m = s.clients h.id in record {
        learned = g;
        tree = s.tree;
        model = without_op m;
        copied = s.copied;
        request = request-lands s g g v v h.id now mine mine (Answered told ∷ []) (Done reply) s.tree (without_op m)
            s.copied (asked s g store is);
        is_client = client-ended s.tree g v store 0 g v (same-stays 0 g v v (same-none v)) m s.count (s.count + 1)
            (record h { cache = cache }) (omega arith)
            (client-cached g v m s.count h cache (knows g.sizes v.yard.setting.block g.blocks is.cache) is);
        holds = holds-doing s.tree m None holds;
      })

-- ---- memory ran out before it asked for anything

-- the blocks that it has ahead as it begins
due-here : (offset len block : ℕ) (h : ClientValue) (here : ReadsHere h offset len) → need_in h.doing ≡ None
    → start_ahead offset len block h ≡ ahead_from block h here.d
due-here offset len block h here first =
    ap (λ (views : SeenViews). blocks_ahead views (begins block (asked_parts offset len)))
    (views-in h here.d here.file.file here.busy here.opened)
    ∙ sym (from-start block h here.d offset len here.file.file (ap need_in (sym here.busy) ∙ first) here.does_is here.opened)

module _ (now entry offset len : ℕ) (h middle after : ClientValue) (here : ReadsHere h offset len) (ready : IsReady h)
    (v : Shared) (done : Made) where
  pub fails-reading : left h ≡ None → need_in h.doing ≡ None → IsCachedAs offset len v.yard.setting.block h middle
      → Fails NoMemory middle after done → Makes now entry h after v v done
  fails-reading none first same fails =
      makes-as now entry h after (record h { cache = same.cache; doing = None }) v v v done
      (made.Answer (ToldRefused NoMemory) (RefusedReply NoMemory))
      (fails.after_is ∙ ap ended same.after_is) refl fails.made_is
      (answered-alone now entry h ready v same.cache same.knows (ToldRefused NoMemory) (RefusedReply NoMemory)
      (cache-read h here.d here.busy (record h { cache = same.cache; doing = None })
      (made.Answer (ToldRefused NoMemory) (RefusedReply NoMemory)) v.yard v.yard (ap is_read here.file.op_is) none refl
      (LooksOnly same.rest none tt
      (subst (λ (due : List BlockId). LooksAhead due h.limits.entries h.cache same.cache same.rest)
      (due-here offset len v.yard.setting.block h here first) same.ahead)) tt)
      (λ device. refl)
      (λ s g store is. failure-request s g v v store (same-none v) h.id now (in_flight h) (doing_of here.d)
      (client-doing g v (s.clients h.id) s.count h here.d here.busy is) (not_ending here.d) NoMemory refl))

-- ---- it has read all

module _ (now entry offset len : ℕ) (h middle : ClientValue) (here : ReadsHere h offset len) (ready : IsReady h)
    (none : left h ≡ None) (first : need_in h.doing ≡ None) (v : Shared) (found : Found)
    (reads : ReadsAtOnce offset len v.yard.setting.block h middle found) where
  abbrev d : Doing
  d = here.d

  abbrev busy : h.doing ≡ Some d
  busy = here.busy

  abbrev is : d.does ≡ does.Reads offset len
  is = here.does_is

  abbrev on : ReadsFile h d offset len
  on = here.file

  abbrev opened : file_of h.handles (handle_of d.op) ≡ Some on.file
  opened = here.opened

  not_begun : NotBegun d
  not_begun = not-begun h d (under_way h d busy ready) (flushed-here h d busy none) (ap need_in (sym busy) ∙ first)

  module _ (s : State) (g : Known) (store : HasStore s.tree g v) (client : IsClient g v (s.clients h.id) s.count h)
    where
      abbrev mine : ModelClient
      mine = s.clients h.id

      abbrev model : ModelDoing
      model = doing_of d

      read : IsReadBy (known_by v.yard.setting.block g.blocks) on.file.views (asked_parts offset len) (read_of found)
      read = reads.read d on.file g.sizes g.blocks busy opened
          (sized-here g v mine s.count h client.held (handle_of d.op) on.file opened) client.cache

      -- it made no request: the first window was seen
      seen : asks_more h d ≡ false
      seen =
          ap (λ (x : Does). asks_more h (record d { does = x })) is
          ∙ ap (λ (o : Option Handle). has_not_seen offset o) opened
          ∙ ap not (seen_window on.file.views offset len on.some on.low
          (seen_first (known_by v.yard.setting.block g.blocks) on.file.views (asked_parts offset len) (read_of found) read))

      still : d.has_moved ≡ false
      still = false_from_ne_true d.has_moved (λ moved.
          let asks : has_more h d d.progress ≡ true = (under_way h d busy ready).asks moved in
          let nothing : has_more h d d.progress ≡ false =
          ap (λ (p : Progress). has_more h d p) not_begun.progress
          ∙ or_from (has_segment h d) (asks_more h d) (ap is_some (flushed-here h d busy none)) seen in
          absurd (cc (sym asks ∙ nothing)))

      read-request : Request s g g v v h.id now (in_flight h) (in_flight h) (Answered (told_read found) ∷ [])
          (Done (Data found.bytes)) s.tree (record mine { doing = None }) s.copied
      read-request =
          let file = there g v mine s.count h client.held (handle_of d.op) on.file opened in
          still-request s g v v store (same-none v) h.id now (in_flight h) (Answered (told_read found) ∷ [])
          (Done (Data found.bytes)) (record mine { doing = None })
          (λ start alone.
          subst (λ c. IsStep start alone s h.id now (Answered (told_read found) ∷ []) (Done (Data found.bytes)) s.tree c
          s.copied)
          (told-read d.op on.handle offset len found.first found.second (length found.bytes) mine on.op_is)
          (read-answered_alone start alone s h.id now model (client-doing g v mine s.count h d busy client) offset len is
          file.0 file.1 found.first found.second found.bytes not_begun.started (ap stage_of not_begun.progress)
          (flushed-model g v mine s.count h d client.held busy none) still
          (reads-as g v mine s.count h client.held (handle_of d.op) on.file opened offset len (read_of found) on.some
          on.low on.long read)))

  pub shows-reading : (after : ClientValue) (done : Made) → Shows None found middle after done
      → Makes now entry h after v v done
  shows-reading after done shows =
      makes-as now entry h after (record h { cache = reads.same.cache; doing = None }) v v v done
      (made.Answer (told_read found) (Data found.bytes))
      (shows.after_is ∙ ap ended reads.same.after_is) refl shows.made_is
      (answered-alone now entry h ready v reads.same.cache reads.same.knows (told_read found) (Data found.bytes)
      (cache-read h d busy (record h { cache = reads.same.cache; doing = None })
      (made.Answer (told_read found) (Data found.bytes)) v.yard v.yard (ap is_read on.op_is) none (ap is_umount on.op_is)
      (LooksOnly reads.same.rest none reads.all
      (subst (λ (due : List BlockId). LooksAhead due h.limits.entries h.cache reads.same.cache reads.same.rest)
      (due-here offset len v.yard.setting.block h here first) reads.same.ahead)) tt)
      (λ device. refl) (λ s g store is. read-request s g store is))

-- ---- from the outcome of a reading that begins

module _ (offset len block : ℕ) (h middle : ClientValue) (result : Option Found)
    (begins : Begins offset len block h middle result) where
  -- it needs something
  pub begun-ahead : (other : ℕ) → block ≡ other → result ≡ None → IsAhead other h middle
  begun-ahead other same is =
      let to : Begins offset len block h middle None = subst (Begins offset len block h middle) is begins in
      subst (λ n. IsAhead n h middle) same to.0

  -- or it is answered
  pub begun-shows : (now entry : ℕ) (after : ClientValue) (v : Shared) (done : Made) (found : Found)
      → does_of h.doing ≡ Some (does.Reads offset len) → IsReady h → left h ≡ None → need_in h.doing ≡ None
      → block ≡ v.yard.setting.block → result ≡ Some found → Shows None found middle after done
      → Makes now entry h after v v done
  begun-shows now entry after v done found does ready none first same is shows =
      let here = reads-here h offset len does ready in
      let to : ReadsAtOnce offset len block h middle found = subst (Begins offset len block h middle) is begins in
      shows-reading now entry offset len h middle here ready none first v found
      (subst (λ n. ReadsAtOnce offset len n h middle found) same to) after done shows

-- or memory ran out
pub begun-fails : (now entry offset len block : ℕ) (h middle after : ClientValue) (v : Shared) (done : Made)
    → does_of h.doing ≡ Some (does.Reads offset len) → IsReady h → left h ≡ None → need_in h.doing ≡ None
    → block ≡ v.yard.setting.block → IsCachedAs offset len block h middle
    → Fails NoMemory middle after done → Makes now entry h after v v done
begun-fails now entry offset len block h middle after v done does ready none first length_is same fails =
    let here = reads-here h offset len does ready in
    fails-reading now entry offset len h middle after here ready v done none first
    (subst (λ n. IsCachedAs offset len n h middle) length_is same) fails
