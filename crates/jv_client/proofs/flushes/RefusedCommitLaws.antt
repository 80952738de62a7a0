-- A commit that wasn't made: its session or its file is gone, it comes too late, or the volume has no room; or the keeper failed, or
-- memory ran out.
use Rattle.std.proofs.Common.{◌≡◌, ℕ, [], ◌∷◌, Err, ap, refl, sym, subst}
use Rattle.std.specs.Prelude.{is_some}
use Rattle.jv_model.specs.declared.act.ActKind.TheVariants.{Answered, Quiet}
use Rattle.jv_model.specs.declared.act.Told.TheVariants.{Refused as ToldRefused}
use Rattle.jv_model.specs.declared.fault.Fault.{Fault}
use Rattle.jv_model.specs.declared.fault.RowFault.TheVariants.{Bad, Failed, Memory}
use Rattle.jv_model.specs.declared.fault.TxFault.{TxFault}
use Rattle.jv_model.specs.declared.fault.TxFault.TheVariants.{Moved, Refused, Rows as OfRows}
use Rattle.jv_model.specs.declared.op.Reply.TheVariants as reply
use Rattle.jv_model.specs.declared.op.Step.TheVariants.{Done}
use Rattle.jv_model.specs.promise.client.ModelClient.{ModelClient}
use Rattle.jv_model.specs.promise.journal.State.{State, after_told}
use Rattle.jv_outside.specs.promise.Store.{Store}
use Rattle.jv_pending.specs.declared.segment.SegmentAt.{SegmentAt}
use Rattle.jv_volume.specs.Holding.{IsHoldable}
use Rattle.jv_data.specs.Records.{CommitsRecord}
use Rattle.jv_client_shared.specs.promise.Shared.{HasStore, Known, Shared}
use Rattle.jv_client_requests.specs.Request.{Request}
use Rattle.jv_client_requests.proofs.CommitLaws.{commit-calm, commit-never_bad, commit-never_moved, commit-unmade, whole_record}
use Rattle.jv_client.specs.declared.doing.Doing.{Doing}
use Rattle.jv_client.specs.declared.made.Made.{Made}
use Rattle.jv_client.specs.ClientValue.{ClientValue, session_here}
use Rattle.jv_client.specs.Held.{IsClient, Holds, flush_of_code}
use Rattle.jv_client.specs.Makes.{Makes}
use Rattle.jv_client.specs.Transacting.{EndsUnmade, NotMade}
use Rattle.jv_client.specs.UnderWay.{IsReady}
use Rattle.jv_client.proofs.flushes.CommitLaws.{IsCommit, asked-model, at-model, busy-model, bytes-model, flies-here, flight}
use Rattle.jv_client.proofs.flushes.CommitLaws.{is-complete, next-model, mounted-here, none-due, number-is, own-model, record_for, segment}
use Rattle.jv_client.proofs.held.HeldLaws.{doing_of}
use Rattle.jv_client.proofs.begun.NextSegmentLaws.{segment-of}
use Rattle.jv_client.proofs.held.CacheUseLaws.{left-some, rests-flushing}
use Rattle.jv_client.proofs.steps.RefusedTransactionLaws.{RefusedAs, UnmadeLeads, unmade}

module _ (h : ClientValue) (d : Doing) (v : Shared) (keeper : Store) (at : SegmentAt) (now quiets started id : ℕ)
    (is_commit : IsCommit h d v.yard.setting.block at quiets started id) (ready : IsReady h) (sid : ℕ)
    (own : sid ≡ session_here h) where
  abbrev used_here : Shared
  used_here = record v { keeper = keeper }

  abbrev Commits : TxFault → Type 0
  Commits fault = CommitsRecord sid now at.inode at.window (record_for at id) started v.keeper keeper (Err fault)

  not-committed : (fault : TxFault) → Commits fault → NotMade fault v.keeper keeper
  not-committed fault commits =
      let made = commits [] (λ setting. 0) in
      record { rows_are = made.undone; opened_at = made.opened_at; counts = made.counts; bad = made.bad }

  module _ (s : State) (g : Known) (store : HasStore s.tree g v) (holds : Holds s.tree (s.clients h.id))
      (is : IsClient g v (s.clients h.id) s.count h) where
    abbrev mine : ModelClient
    mine = s.clients h.id

    -- the record has the segment's bytes
    whole : (fault : TxFault) → Commits fault
        → CommitsRecord sid now at.inode at.window
        (whole_record at.pos (flight h d v keeper at now quiets started id is_commit)) started v.keeper keeper (Err fault)
    whole fault commits =
        subst (λ n. CommitsRecord sid now at.inode at.window
        (record { pos = at.pos; id = id; size = n; off = 0; len = n }) started v.keeper keeper (Err fault))
        (sym is_commit.long) commits

    -- the segment's file is one that there was
    holdable : IsHoldable s.tree at.inode
    holdable =
        segment-of (IsHoldable s.tree) (flush_of_code d.flush) mine.pending
        (segment h d v keeper at now quiets started id is_commit)
        (next-model h d v keeper at now quiets started id is_commit s g store is) holds.pending

    refused-so : (fault : Fault) → Commits (Refused fault) → RefusedAs now h d v used_here Quiet fault s g
    refused-so fault commits =
        let busy = busy-model h d v keeper at now quiets started id is_commit s g store is in
        let next = next-model h d v keeper at now quiets started id is_commit s g store is in
        let stage = at-model h d v keeper at now quiets started id is_commit s g store is in
        let asked = asked-model h d v keeper at now quiets started id is_commit s g store is in
        let flies = flies-here h d v keeper at now quiets started id is_commit s g store is in
        let complete = is-complete h d v keeper at now quiets started id is_commit s g store is in
        let bytes = bytes-model h d v keeper at now quiets started id is_commit s g store is in
        let mounted = mounted-here h d v keeper at now quiets started id is_commit s g store is in
        let mine_is = own-model h d v keeper at now quiets started id is_commit s g store is sid own in
        let f = flight h d v keeper at now quiets started id is_commit in
        let piece = segment h d v keeper at now quiets started id is_commit in
        record {
          request =
              subst (λ n. Request s g g v used_here h.id now n 0 (Quiet ∷ Answered (ToldRefused fault) ∷ [])
              (Done (reply.Refused fault)) s.tree (after_told d.op (ToldRefused fault) mine) s.copied)
              (sym (number-is h d v keeper at now quiets started id is_commit))
              (commit-unmade s g v store h.id now (doing_of d) busy piece next quiets started stage asked f flies complete
              bytes at.window at.pos refl keeper sid mounted mine_is fault (whole (Refused fault) commits) holdable);
          calm =
              commit-calm s g v store h.id now (doing_of d) busy piece next quiets started stage asked f flies complete
              bytes at.window at.pos refl keeper sid mounted mine_is fault (whole (Refused fault) commits) holdable;
        }

    unmade-so : (fault : TxFault) → Commits fault → UnmadeLeads now h d v used_here Quiet fault s g
    unmade-so (Refused fault) commits = refused-so fault commits
    unmade-so (Moved list) commits =
        commit-never_moved s g v store h.id now (doing_of d)
        (busy-model h d v keeper at now quiets started id is_commit s g store is)
        (segment h d v keeper at now quiets started id is_commit)
        (next-model h d v keeper at now quiets started id is_commit s g store is) quiets started
        (at-model h d v keeper at now quiets started id is_commit s g store is)
        (asked-model h d v keeper at now quiets started id is_commit s g store is)
        (flight h d v keeper at now quiets started id is_commit)
        (flies-here h d v keeper at now quiets started id is_commit s g store is)
        (is-complete h d v keeper at now quiets started id is_commit s g store is)
        (bytes-model h d v keeper at now quiets started id is_commit s g store is) at.window at.pos refl keeper sid
        (mounted-here h d v keeper at now quiets started id is_commit s g store is)
        (own-model h d v keeper at now quiets started id is_commit s g store is sid own) list (whole (Moved list) commits)
    unmade-so (OfRows (Bad row bytes)) commits =
        commit-never_bad s g v store h.id now (doing_of d)
        (busy-model h d v keeper at now quiets started id is_commit s g store is)
        (segment h d v keeper at now quiets started id is_commit)
        (next-model h d v keeper at now quiets started id is_commit s g store is) quiets started
        (at-model h d v keeper at now quiets started id is_commit s g store is)
        (asked-model h d v keeper at now quiets started id is_commit s g store is)
        (flight h d v keeper at now quiets started id is_commit)
        (flies-here h d v keeper at now quiets started id is_commit s g store is)
        (is-complete h d v keeper at now quiets started id is_commit s g store is)
        (bytes-model h d v keeper at now quiets started id is_commit s g store is) at.window at.pos refl keeper sid
        (mounted-here h d v keeper at now quiets started id is_commit s g store is)
        (own-model h d v keeper at now quiets started id is_commit s g store is sid own) row bytes
        (whole (OfRows (Bad row bytes)) commits)
    unmade-so (OfRows Failed) commits = tt
    unmade-so (OfRows Memory) commits = tt

  pub refuses-commit : (entry : ℕ) (after : ClientValue) (fault : TxFault) (outcome : Made) → Commits fault
      → EndsUnmade Quiet fault h after outcome → Makes now entry h after v used_here outcome
  refuses-commit entry after fault outcome commits ends =
      unmade now entry h after d v keeper is_commit.busy ready
      (rests-flushing v.yard.setting.block h d (left-some h d is_commit.busy (ap is_some is_commit.next))
      (none-due h d v keeper at now quiets started id is_commit)) Quiet fault outcome refl refl
      (not-committed fault commits) ends
      (λ s g count store holds is. unmade-so s g store holds is fault commits)
