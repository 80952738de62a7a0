-- A flush commits a segment, whose slice's blocks were all put.
use Rattle.std.proofs.Common.{◌≡◌, ℕ, ◌+◌, ◌*◌, ◌≤◌, Bool, false, [], ◌∷◌, inl, inr, List, length, None, Some, Ok}
use Rattle.std.proofs.Common.{Err, refl, sym, ap, subst, ◌∙◌, arith}
use Rattle.std.specs.Prelude.{is_some, IsTrue}
use Rattle.jv_model.specs.declared.limits.TheConstants.{WINDOW}
use Rattle.jv_model.specs.declared.act.ActKind.{ActKind}
use Rattle.jv_model.specs.declared.act.ActKind.TheVariants.{Answered, Commit, Quiet}
use Rattle.jv_model.specs.declared.act.Told.TheVariants.{Refused as ToldRefused}
use Rattle.jv_model.specs.declared.fault.Down.{Down}
use Rattle.jv_model.specs.declared.fault.Fault.{Fault}
use Rattle.jv_model.specs.declared.fault.RowFault.TheVariants.{Bad}
use Rattle.jv_model.specs.declared.fault.TxFault.TheVariants.{Moved, Refused as TxRefused, Rows as OfRows}
use Rattle.jv_model.specs.declared.op.Reply.{Reply}
use Rattle.jv_model.specs.declared.op.Reply.TheVariants as reply
use Rattle.jv_model.specs.declared.op.Step.{Step}
use Rattle.jv_model.specs.declared.op.Step.TheVariants.{More, Done}
use Rattle.jv_model.specs.declared.row.RowKey.{RowKey}
use Rattle.jv_model.specs.declared.setting.Setting.{Setting}
use Rattle.jv_model.specs.declared.slice.Rec.{Rec}
use Rattle.jv_model.specs.rows.RowFaults.{row_fault}
use Rattle.jv_model.specs.promise.tree.Tree.{Tree, node_at}
use Rattle.jv_model.specs.tree.FileBytes.{commit_of}
use Rattle.jv_model.specs.promise.tree.FileBytes.{committed}
use Rattle.jv_model.specs.promise.client.Pending.{Segment, bytes_in_range, without_range}
use Rattle.jv_model.specs.promise.client.Submission.{next_segment}
use Rattle.jv_model.specs.promise.client.ModelClient.{ModelClient, Doing, Working, session_of}
use Rattle.jv_model.specs.promise.journal.State.{State, after_told, answer_then, finished, without_committed}
use Rattle.jv_model.specs.promise.journal.Steps.{Start, Commits, is_failure, told_of}
use Rattle.jv_outside.specs.promise.Store.{Store}
use Rattle.jv_volume.specs.promise.TypedRows.{typed}
use Rattle.jv_volume.specs.Holding.{IsHoldable}
use Rattle.jv_volume.proofs.holding.HoldingLaws.{stays-committed}
use Rattle.jv_volume_bytes.specs.promise.Blocks.{known_by}
use Rattle.jv_volume_bytes.specs.promise.Bytes.{KnownBytes, tree_with}
use Rattle.jv_volume_bytes.specs.Flights.{EachPut, Flight, IsComplete}
use Rattle.jv_volume_bytes.proofs.FlightLaws.{complete-shown}
use Rattle.jv_data.specs.Changing.{Changed}
use Rattle.jv_data.specs.Records.{CommitsRecord, IsNew, committing}
use Rattle.jv_client_shared.specs.Direct.{HasPut}
use Rattle.jv_client_shared.specs.Flying.{Flies}
use Rattle.jv_client_shared.specs.Keeping.{Leads}
use Rattle.jv_client_shared.specs.promise.Shared.{HasStore, Known, Shared, depot_in}
use Rattle.jv_client_shared.specs.Shared.{InStore, rows_in}
use Rattle.jv_client_shared.proofs.RowStepLaws.{commit-leads}
use Rattle.jv_client_shared.proofs.SameLaws.{same-rows}
use Rattle.jv_client_shared.proofs.StoreLaws.{block_some, rows_are}
use Rattle.jv_model_steps.specs.IsStep.{IsStep, at_stage}
use Rattle.jv_model_steps.specs.RefusesCommit.{RefusesCommit, Late, NoFile, NoRoom, NoSession}
use Rattle.jv_model_steps.proofs.CommitStepLaws.{commit-answered, commit-left, commit-then}
use Rattle.jv_model_steps.proofs.CommitTestLaws.{tests-allow, tests-commit, tests-done, tests-refuse}
use Rattle.jv_model_steps.proofs.CommitTestLaws.{tests-undone}
use Rattle.jv_model_steps.proofs.RefusalStepLaws.{commit-refused, goes-working}
use Rattle.jv_client_requests.specs.Request.{Request}
use Rattle.jv_client_requests.proofs.RequestLaws.{Grows, begun_with, drops-known, request-of}
use Rattle.jv_client_requests.proofs.GrowsLaws.{left-grows}
use Rattle.jv_client_requests.proofs.FlightLaws.{apart-own, flight-over}
use Rattle.jv_client_requests.proofs.StillLaws.{fault_of_rows, rows-failed, still-within}
use Rattle.jv_client_requests.proofs.LookLaws.{file-gone}

-- the record of a whole slice, from a position of a window on
abbrev pub whole_record : ℕ → Flight → Rec
whole_record pos f = record { pos = pos; id = f.id; size = length f.bytes; off = 0; len = length f.bytes }

module _ (s : State) (g : Known) (v : Shared) (store : HasStore s.tree g v) (client now : ℕ) (d : Doing)
    (busy : (s.clients client).doing ≡ Some d) (segment : Segment)
    (next : next_segment d.flush (s.clients client).pending ≡ Some segment)
    (quiets started : ℕ) (at : d.stage ≡ Working quiets started) (asked : 2 ≤ quiets)
    (f : Flight) (flies : Flies g v f) (complete : IsComplete v.yard.setting.block f)
    (bytes_are : f.bytes ≡ bytes_in_range segment.inode segment.from segment.len (s.clients client).pending)
    (window pos : ℕ) (from_is : segment.from ≡ window * WINDOW + pos)
    (keeper : Store) (sid : ℕ) (mounted : IsTrue (is_some (s.clients client).session))
    (own : sid ≡ session_of (s.clients client)) where
  abbrev c : ModelClient
  c = s.clients client

  abbrev left_shared : Shared
  left_shared = record v { keeper = keeper }

  abbrev known_bytes : KnownBytes
  known_bytes = known_by v.yard.setting.block g.blocks

  abbrev patch : List ℕ
  patch = bytes_in_range segment.inode segment.from segment.len c.pending

  abbrev grown : Tree
  grown = committed s.tree now segment.inode segment.from patch

  abbrev rest : ModelClient
  rest = without_committed segment.inode segment.from segment.len c

  abbrev rec : Rec
  rec = whole_record pos f

  -- the record's slice has a number, is no other row's, and shows the bytes
  is_new : IsNew rec f.bytes (typed store.rows) known_bytes
  is_new = subst (λ rows. IsNew rec f.bytes rows known_bytes) (rows_are s.tree g v store) (record {
    unknown = flies.ever.unknown;
    below = flies.ever.below;
    shows = record {
      long = refl;
      each = complete-shown v.yard.setting.block (rows_in v) g.blocks f flies.ever complete
          (block_some s.tree g v store) rec refl refl refl refl;
    };
  })

  -- the model's commit, of the tree that the rows have, is that of the state's tree
  committing-same : committing sid segment.inode (window * WINDOW + pos) f.bytes started now
      (tree_with known_bytes (typed store.rows))
      ≡ committing (session_of c) segment.inode segment.from patch started now s.tree
  committing-same i = committing (own i) segment.inode (sym from_is i) (bytes_are i) started now (sym store.tree i)

  -- no slice dies, so that it doesn't matter when one that does would be due
  abbrev at_once : Setting → ℕ
  at_once setting = 0

  -- ---- it was made

  module _ (stored : EachPut (InStore v) v.yard.setting.block f) (has : HasPut v.yard.setting.block (depot_in v) f)
      (commits : CommitsRecord sid now segment.inode window (whole_record pos f) started v.keeper keeper (Ok tt)) where
    abbrev Made : Type 0
    Made =
        Changed (record { own = f.id; size = length f.bytes; more = 1; due = at_once }) store.rows keeper.rows known_bytes
        reply.Done (committing sid segment.inode (window * WINDOW + pos) f.bytes started now)

    made : Made
    made = (commits f.bytes at_once).lands store.rows store.rows_are store.whole known_bytes is_new

    tested : commit_of (session_of c) segment.inode segment.from patch started now s.tree
        ≡ Ok (tree_with known_bytes (typed made.left))
    tested =
        tests-done (commit_of (session_of c) segment.inode segment.from patch started now s.tree)
        (record { tree = tree_with known_bytes (typed made.left); reply = reply.Done }) (sym committing-same ∙ made.model)

    tree-is : tree_with known_bytes (typed made.left) ≡ grown
    tree-is = (tests-allow s now c mounted segment started (tree_with known_bytes (typed made.left)) tested).1

    commit_leads : Leads f.id grown g g v left_shared
    commit_leads = subst (λ (t : Tree). Leads f.id t g g v left_shared) tree-is
        (commit-leads s.tree g v store keeper v.carrier made.left f 1 flies stored has complete made.is made.whole
        made.others made.size
        (ap (λ (t : Tree). t.setting) tree-is ∙ (stays-committed s.tree now segment.inode segment.from patch).setting))

    commit_may : c.writeback ≡ false → Commits s now c d segment.inode segment.from segment.len 0
    commit_may direct =
        tests-commit s now c mounted segment started d quiets (tree_with known_bytes (typed made.left)) tested at asked direct next

    abbrev Goes : List ActKind → Step → ModelClient → Type 0
    Goes kinds step after = Request s g g v left_shared client now f.id 0 kinds step grown after s.copied

    commit_grows : (kinds : List ActKind) (step : Step) (after : ModelClient) → 1 ≤ length kinds
        → Grows s g g v left_shared client now kinds step grown after s.copied
    commit_grows kinds step after some =
        let same = made.others.next in let few = made.others.records in
        left-grows s g g v store client now kinds step grown after s.copied keeper made.left made.is
        (omega (arith, same)) (omega (arith, few, some))

    commit_goes : (kinds : List ActKind) (step : Step) (after : ModelClient) → 1 ≤ length kinds
        → ((start : Start) (alone : Bool) → IsStep start alone s client now kinds step grown after s.copied)
        → Goes kinds step after
    commit_goes kinds step after some steps =
        flight-over g v f.id s g left_shared client now f.id kinds step grown after s.copied
        (request-of s g g v left_shared client now kinds step grown after s.copied f.id f.id f.id
        (λ start alone within. steps start alone) commit_leads (commit_grows kinds step after some) (apart-own g v f.id)
        (stays-committed s.tree now segment.inode segment.from patch)
        (drops-known v left_shared store.rows made.left store.rows_are made.is made.dropped))

    module _ (direct : (s.clients client).writeback ≡ false) where
      -- Another segment is left.
      pub committed-left : (then_segment : Segment)
          → next_segment d.flush (without_range segment.inode segment.from segment.len c.pending) ≡ Some then_segment
          → Goes (Commit segment.inode segment.from segment.len 0 ∷ []) More (at_stage (Working 0 0) d rest)
      committed-left then_segment left =
          commit_goes (Commit segment.inode segment.from segment.len 0 ∷ []) More (at_stage (Working 0 0) d rest)
          (omega arith)
          (λ start alone. commit-left start alone s client now d busy segment.inode segment.from segment.len
          (commit_may direct) then_segment left)

      module _ (over : next_segment d.flush
          (without_range segment.inode segment.from segment.len (s.clients client).pending) ≡ None) where
        -- Nothing is left, and the operation has requests of its own.
        pub committed-then : answer_then c d ≡ None
            → Goes (Commit segment.inode segment.from segment.len 0 ∷ []) More (at_stage (Working 0 0) d rest)
        committed-then none =
            commit_goes (Commit segment.inode segment.from segment.len 0 ∷ []) More (at_stage (Working 0 0) d rest)
            (omega arith)
            (λ start alone. commit-then start alone s client now d busy segment.inode segment.from segment.len
            (commit_may direct) over none)

        -- Nothing is left, and the operation is answered.
        pub committed-answered : (said : Reply) → answer_then c d ≡ Some said
            → Goes (Commit segment.inode segment.from segment.len 0 ∷ Answered (told_of said) ∷ []) (Done said)
            (record (finished d.op rest) { doing = None })
        committed-answered said same =
            commit_goes (Commit segment.inode segment.from segment.len 0 ∷ Answered (told_of said) ∷ []) (Done said)
            (record (finished d.op rest) { doing = None }) (omega arith)
            (λ start alone. commit-answered start alone s client now d busy segment.inode segment.from segment.len
            (commit_may direct) over said same)

  -- ---- it was refused

  module _ (fault : Fault)
      (commits : CommitsRecord sid now segment.inode window (whole_record pos f) started v.keeper keeper
      (Err (TxRefused fault))) where
    undone : commit_of (session_of c) segment.inode segment.from patch started now s.tree ≡ Err fault
    undone = elim ((commits f.bytes at_once).lands store.rows store.rows_are store.whole known_bytes is_new) [
      | inl refused ↦
          tests-undone (commit_of (session_of c) segment.inode segment.from patch started now s.tree) fault
          (sym committing-same ∙ refused)
      | inr full ↦ absurd full.full
    ]

    calm_by : RefusesCommit (begun_with s.tree (typed store.rows)) s now c segment started fault
        → is_failure (ToldRefused fault) ≡ false
    calm_by (NoSession gone same) = ap (λ fault. is_failure (ToldRefused fault)) same
    calm_by (NoFile there none same) = ap (λ fault. is_failure (ToldRefused fault)) same
    calm_by (Late there node late same) = ap (λ fault. is_failure (ToldRefused fault)) same
    calm_by (NoRoom there node early full same) = ap (λ fault. is_failure (ToldRefused fault)) same

    -- Its session or its file is gone, it comes too late, or the volume has no room.
    module _ (holdable : IsHoldable s.tree segment.inode) where
      why : (start : Start) → RefusesCommit start s now c segment started fault
      why start =
          tests-refuse s now c mounted segment started start fault undone
          (file-gone (node_at s.tree segment.inode) holdable.file)

      pub commit-unmade : Request s g g v left_shared client now f.id 0 (Quiet ∷ Answered (ToldRefused fault) ∷ [])
          (Done (reply.Refused fault)) s.tree (after_told d.op (ToldRefused fault) c) s.copied
      commit-unmade =
          flight-over g v f.id s g left_shared client now f.id (Quiet ∷ Answered (ToldRefused fault) ∷ [])
          (Done (reply.Refused fault)) s.tree (after_told d.op (ToldRefused fault) c) s.copied
          (still-within s g v left_shared store (same-rows v keeper v.carrier (commits f.bytes at_once).undone) client
          now f.id (Quiet ∷ Answered (ToldRefused fault) ∷ []) (Done (reply.Refused fault))
          (after_told d.op (ToldRefused fault) c)
          (λ start alone within. commit-refused start alone s client now d busy segment next quiets started at asked
          fault (why start)))

      -- No device failed.
      pub commit-calm : is_failure (ToldRefused fault) ≡ false
      commit-calm = calm_by (why (begun_with s.tree (typed store.rows)))

  -- The keeper failed, or memory ran out.
  pub commit-failed : (down : Down)
      → CommitsRecord sid now segment.inode window (whole_record pos f) started v.keeper keeper
      (Err (OfRows (row_fault down)))
      → Request s g g v left_shared client now f.id 0 (Answered (ToldRefused (fault_of_rows down)) ∷ [])
      (Done (reply.Refused (fault_of_rows down))) s.tree (record c { doing = None }) s.copied
  commit-failed down commits =
      flight-over g v f.id s g left_shared client now f.id (Answered (ToldRefused (fault_of_rows down)) ∷ [])
      (Done (reply.Refused (fault_of_rows down))) s.tree (record c { doing = None }) s.copied
      (rows-failed s g v left_shared store (same-rows v keeper v.carrier (commits f.bytes at_once).undone) client now
      f.id d busy (goes-working d quiets started at) down)

  -- Over whole rows no list has moved, and no row is Bad.
  pub commit-never_moved : (list : List Rec)
      → CommitsRecord sid now segment.inode window (whole_record pos f) started v.keeper keeper (Err (Moved list)) → ⊥
  commit-never_moved list commits = (commits f.bytes at_once).lands store.rows store.rows_are store.whole known_bytes is_new

  pub commit-never_bad : (row : RowKey) (bytes : List ℕ)
      → CommitsRecord sid now segment.inode window (whole_record pos f) started v.keeper keeper
      (Err (OfRows (Bad row bytes))) → ⊥
  commit-never_bad row bytes commits = (commits f.bytes at_once).lands store.rows store.rows_are store.whole known_bytes is_new
