-- A commit that was made: where its step leads, and what it leaves of its client.
use Rattle.std.proofs.Common.{◌≡◌, ℕ, zero, suc, ◌+◌, ◌-◌, ◌≤◌, ◌<◌, List, [], ◌∷◌, length}
use Rattle.std.proofs.Common.{false, Option, None, Some, Ok, refl, sym, ap, subst, ◌∙◌, arith}
use Rattle.std.specs.Prelude.{IfSome, IsTrue, is_some, unwrap_or}
use Rattle.std.proofs.lemmas.Bool.{le-ltb}
use Rattle.jv_model.specs.declared.act.ActKind.{ActKind}
use Rattle.jv_model.specs.declared.act.ActKind.TheVariants.{Answered, Commit}
use Rattle.jv_model.specs.declared.op.Reply.{Reply}
use Rattle.jv_model.specs.declared.op.Step.{Step}
use Rattle.jv_model.specs.declared.op.Step.TheVariants.{More, Done}
use Rattle.jv_model.specs.declared.slice.Rec.{Rec}
use Rattle.jv_model.specs.promise.blocks.Slices.{block_count}
use Rattle.jv_model.specs.promise.tree.Tree.{Tree}
use Rattle.jv_model.specs.promise.tree.FileBytes.{committed}
use Rattle.jv_model.specs.promise.client.Pending.{PendingByte, Segment, bytes_in_range, without_range}
use Rattle.jv_model.specs.promise.client.Submission.{next_segment}
use Rattle.jv_model.specs.promise.client.ModelClient.{ModelClient, Working, session_of}
use Rattle.jv_model.specs.promise.journal.State.{State, answer_then, finished}
use Rattle.jv_model.specs.promise.journal.Steps.{told_of}
use Rattle.jv_outside.specs.promise.Store.{Store}
use Rattle.jv_pending.specs.declared.segment.SegmentAt.{SegmentAt}
use Rattle.jv_pending.specs.At.{segment_at}
use Rattle.jv_volume_bytes.specs.Flights.{EachPut, Flight, IsComplete}
use Rattle.jv_data.specs.Records.{CommitsRecord}
use Rattle.jv_slices.proofs.BlockLaws.{index_below}
use Rattle.jv_client_shared.specs.Direct.{HasPut}
use Rattle.jv_client_shared.specs.Flying.{Flies}
use Rattle.jv_client_shared.specs.promise.Shared.{HasStore, Known, Shared, depot_in}
use Rattle.jv_client_shared.specs.Shared.{InStore}
use Rattle.jv_client_shared.proofs.DirectLaws.{has_put-stored}
use Rattle.jv_client_shared.proofs.StoreLaws.{block_some}
use Rattle.jv_model_steps.specs.IsStep.{at_stage}
use Rattle.jv_client_requests.specs.Request.{Request}
use Rattle.jv_client_requests.proofs.CommitLaws.{committed-answered, committed-left, committed-then}
use Rattle.jv_client.specs.declared.doing.Doing.{Doing}
use Rattle.jv_client.specs.declared.doing.Flush.{Flush}
use Rattle.jv_client.specs.declared.doing.Progress.TheVariants as progress
use Rattle.jv_client.specs.ClientValue.{ClientValue, session_here}
use Rattle.jv_client.specs.Held.{IsClient, IsOnWay, flight_by, flight_from, flight_in, flight_of, flush_of_code}
use Rattle.jv_client.specs.Held.{in_flight, number_of, segment_left, stage_of}
use Rattle.jv_client.specs.UnderWay.{IsUnderWay}
use Rattle.jv_client.specs.CacheUse.{is_put_due}
use Rattle.jv_client.specs.Flushing.{bytes_of, without_segment}
use Rattle.jv_client.proofs.held.HeldLaws.{client-doing, doing_of}
use Rattle.jv_client.proofs.held.CommittedSegmentLaws.{left_of_model}
use Rattle.jv_client.proofs.begun.FormLaws.{segment-mounted}
use Rattle.jv_client.proofs.held.HeldLaws.{mounted-model}

-- ---- the slice in flight

flight-at : (pending : List PendingByte) (first : Flush) (quiets started id : ℕ) (segment : Segment) → 0 < quiets
    → segment_left first pending ≡ Some segment
    → flight_by pending first (progress.Working quiets started id)
    ≡ Some (record { id = id; bytes = bytes_of segment pending; put = quiets - 1 })
flight-at pending first zero started id segment asked next = absurd (omega (arith, asked))
flight-at pending first (suc put) started id segment asked next =
    let less : put ≡ suc put - 1 = omega arith in
    ap (flight_from put id pending) next
    ∙ ap (λ n. Some (let f : Flight = record { id = id; bytes = bytes_of segment pending; put = n } in f)) less

-- ---- a commit of the next segment, of which all blocks were put

pub record IsCommit (h : ClientValue) (d : Doing) (block : ℕ) (at : SegmentAt) (quiets started id : ℕ) : Type 0 where
  pub busy : h.doing ≡ Some d
  pub way : IsUnderWay h d
  pub at_is : d.progress ≡ progress.Working quiets started id
  pub asked : 0 < quiets
  pub few : quiets ≤ 1 + at.len
  pub next : segment_left d.flush h.pending ≡ Some (segment_at at)
  pub some : 0 < at.len
  pub long : length (bytes_of (segment_at at) h.pending) ≡ at.len
  pub put : block_count at.len block < quiets

-- the record of its slice
abbrev pub record_for : SegmentAt → ℕ → Rec
record_for at id = record { pos = at.pos; id = id; size = at.len; off = 0; len = at.len }

module _ (h : ClientValue) (d : Doing) (v : Shared) (keeper : Store) (at : SegmentAt) (now quiets started id : ℕ)
    (is_commit : IsCommit h d v.yard.setting.block at quiets started id) where
  abbrev pub segment : Segment
  segment = segment_at at

  abbrev pub without : ClientValue
  without = without_segment segment h

  abbrev pub used : Shared
  used = record v { keeper = keeper }

  abbrev pub flight : Flight
  flight = record { id = id; bytes = bytes_of segment h.pending; put = quiets - 1 }

  pub flight-is : flight_of h ≡ Some flight
  flight-is =
      ap (flight_in h.pending) is_commit.busy ∙ ap (flight_by h.pending d.flush) is_commit.at_is
      ∙ flight-at h.pending d.flush quiets started id segment is_commit.asked is_commit.next

  -- it has all its blocks
  pub none-due : is_put_due v.yard.setting.block (flight_of h) ≡ false
  none-due =
      let same : block_count (length flight.bytes) v.yard.setting.block ≡ block_count at.len v.yard.setting.block =
      ap (λ n. block_count n v.yard.setting.block) is_commit.long in
      let put = is_commit.put in
      ap (is_put_due v.yard.setting.block) flight-is
      ∙ le-ltb (quiets - 1) (block_count (length flight.bytes) v.yard.setting.block) (omega (arith, same, put))

  pub number-is : in_flight h ≡ id
  number-is = ap number_of flight-is

  -- ---- what the model's client has then

  module _ (s : State) (g : Known) (store : HasStore s.tree g v) (is : IsClient g v (s.clients h.id) s.count h) where
    abbrev pub mine : ModelClient
    mine = s.clients h.id

    abbrev pub rest : ModelClient
    rest = left_of_model segment mine

    abbrev pub grown : Tree
    grown = committed s.tree now at.inode segment.from (bytes_of segment mine.pending)

    pub busy-model : mine.doing ≡ Some (doing_of d)
    busy-model = client-doing g v mine s.count h d is_commit.busy is

    pub at-model : stage_of d.progress ≡ Working quiets started
    at-model = ap stage_of is_commit.at_is

    pub next-model : next_segment (flush_of_code d.flush) mine.pending ≡ Some segment
    next-model = ap (next_segment (flush_of_code d.flush)) is.held.pending ∙ is_commit.next

    on-way : IsOnWay g v (Some flight)
    on-way = subst (IsOnWay g v) flight-is is.flight

    pub flies-here : Flies g v flight
    flies-here = on-way.0

    -- the depot has the blocks that were put, so that they are stored
    put-here : HasPut v.yard.setting.block (depot_in v) flight
    put-here = subst (λ (o : Option Flight). IfSome o (HasPut v.yard.setting.block (depot_in v))) flight-is is.put

    stored-here : EachPut (InStore v) v.yard.setting.block flight
    stored-here = has_put-stored v flight put-here

    pub is-complete : IsComplete v.yard.setting.block flight
    is-complete =
        let few = on-way.1 in
        let same : block_count (length flight.bytes) v.yard.setting.block ≡ block_count at.len v.yard.setting.block =
        ap (λ n. block_count n v.yard.setting.block) is_commit.long in
        let put = is_commit.put in
        omega (arith, few, same, put)

    pub asked-model : 2 ≤ quiets
    asked-model =
        let first = index_below at.len v.yard.setting.block 0 0 (block_some s.tree g v store) is_commit.some (omega arith)
        in
        let put = is_commit.put in
        omega (arith, first, put)

    pub bytes-model : flight.bytes ≡ bytes_in_range at.inode segment.from at.len mine.pending
    bytes-model = ap (bytes_in_range at.inode segment.from at.len) (sym is.held.pending)

    pub mounted-here : IsTrue (is_some mine.session)
    mounted-here =
        mounted-model h mine is.held.session
        (segment-mounted h d is_commit.way.form (ap is_some is_commit.next))

    pub own-model : (sid : ℕ) → sid ≡ session_here h → sid ≡ session_of mine
    own-model sid own = own ∙ ap (λ (o : Option ℕ). unwrap_or o 0) (sym is.held.session)

    -- the next segment is left of both
    left-model : (o : Option Segment) → segment_left d.flush without.pending ≡ o
        → next_segment (flush_of_code d.flush) (without_range at.inode segment.from at.len mine.pending) ≡ o
    left-model o e =
        ap (λ pending. next_segment (flush_of_code d.flush) (without_range at.inode segment.from at.len pending))
        is.held.pending ∙ e

    -- ---- it was made

    module _ (sid : ℕ) (own : sid ≡ session_here h)
        (commits : CommitsRecord sid now at.inode at.window (record_for at id) started v.keeper keeper (Ok tt)) where
      abbrev pub kind : ActKind
      kind = Commit at.inode segment.from at.len 0

      commits-whole : CommitsRecord sid now at.inode at.window
          (let r : Rec = record { pos = at.pos; id = id; size = length flight.bytes; off = 0; len = length flight.bytes } in r)
          started v.keeper keeper (Ok tt)
      commits-whole =
          subst (λ n. CommitsRecord sid now at.inode at.window
          (let r : Rec = record { pos = at.pos; id = id; size = n; off = 0; len = n } in r) started v.keeper keeper (Ok tt))
          (sym is_commit.long) commits

      abbrev Leads : List ActKind → Step → ModelClient → Type 0
      Leads kinds step c = Request s g g v used h.id now id 0 kinds step grown c s.copied

      pub leads-left : (other : Segment) → segment_left d.flush without.pending ≡ Some other
          → Leads (kind ∷ []) More (at_stage (Working 0 0) (doing_of d) rest)
      leads-left other e =
          committed-left s g v store h.id now (doing_of d) busy-model segment next-model quiets started at-model
          asked-model flight flies-here is-complete bytes-model at.window at.pos refl keeper sid mounted-here (own-model sid own)
          stored-here put-here commits-whole is.held.direct.mode other (left-model (Some other) e)

      pub leads-then : segment_left d.flush without.pending ≡ None → answer_then mine (doing_of d) ≡ None
          → Leads (kind ∷ []) More (at_stage (Working 0 0) (doing_of d) rest)
      leads-then e none =
          committed-then s g v store h.id now (doing_of d) busy-model segment next-model quiets started at-model
          asked-model flight flies-here is-complete bytes-model at.window at.pos refl keeper sid mounted-here (own-model sid own)
          stored-here put-here commits-whole is.held.direct.mode (left-model None e) none

      pub leads-answered : segment_left d.flush without.pending ≡ None → (said : Reply)
          → answer_then mine (doing_of d) ≡ Some said
          → Leads (kind ∷ Answered (told_of said) ∷ []) (Done said) (record (finished d.op rest) { doing = None })
      leads-answered e said same =
          committed-answered s g v store h.id now (doing_of d) busy-model segment next-model quiets started at-model
          asked-model flight flies-here is-complete bytes-model at.window at.pos refl keeper sid mounted-here (own-model sid own)
          stored-here put-here commits-whole is.held.direct.mode (left-model None e) said same
