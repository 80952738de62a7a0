-- A commit as the code makes it: of the segment that the operation in progress commits next.
use Rattle.std.proofs.Common.{◌≡◌, ℕ, ◌+◌, ◌≤◌, ◌<◌, length, Option, None, Some, Result, Ok, Err, sym, ap, subst, ◌∙◌}
use Rattle.std.specs.Prelude.{IfSome}
use Rattle.jv_model.specs.declared.act.ActKind.TheVariants.{Commit, Quiet}
use Rattle.jv_model.specs.declared.fault.Fault.TheVariants.{NoMemory}
use Rattle.jv_model.specs.declared.fault.TxFault.{TxFault}
use Rattle.jv_model.specs.declared.slice.Rec.{Rec}
use Rattle.jv_model.specs.promise.blocks.Slices.{block_count}
use Rattle.jv_model.specs.promise.client.Pending.{Segment}
use Rattle.jv_outside.specs.promise.Carriage.{Carriage}
use Rattle.jv_outside.specs.promise.Store.{Store}
use Rattle.jv_pending.specs.declared.segment.SegmentAt.{SegmentAt}
use Rattle.jv_pending.specs.At.{segment_at}
use Rattle.jv_yard.specs.promise.YardValue.{YardValue}
use Rattle.jv_data.specs.Records.{CommitsRecord}
use Rattle.jv_client_shared.specs.promise.Shared.{Shared}
use Rattle.jv_client.specs.declared.doing.Doing.{Doing}
use Rattle.jv_client.specs.declared.doing.Progress.{Progress}
use Rattle.jv_client.specs.declared.doing.Progress.TheVariants as progress
use Rattle.jv_client.specs.declared.made.Made.{Made}
use Rattle.jv_client.specs.ClientValue.{ClientValue, session_here}
use Rattle.jv_client.specs.Held.{segment_left}
use Rattle.jv_client.specs.Makes.{Makes}
use Rattle.jv_client.specs.promise.Shared.{shared}
use Rattle.jv_client.specs.Transacting.{EndsUnmade, Fails}
use Rattle.jv_client.specs.UnderWay.{ClosesOpen, IsAt, IsReady, IsUnderWay, IsWorking, left, left_of, progress_of}
use Rattle.jv_client.specs.Flushing.{Follows, bytes_of, without_segment}
use Rattle.jv_client.proofs.flushes.AfterCommitLaws.{closes-without}
use Rattle.jv_client.proofs.steps.AnswerLaws.{no_memory-makes}
use Rattle.jv_client.proofs.flushes.CommitLaws.{IsCommit, record_for}
use Rattle.jv_client.proofs.flushes.CommittedLaws.{follows}
use Rattle.jv_client.proofs.begun.FormLaws.{closes-open, under_way}
use Rattle.jv_client.proofs.steps.RequestMadeLaws.{in_progress}
use Rattle.jv_client.proofs.flushes.RefusedCommitLaws.{refuses-commit}

module _ (h : ClientValue) (at : SegmentAt) (quiets started id block : ℕ) (ready : IsReady h)
    (busy : progress_of h.doing ≡ Some (progress.Working quiets started id)) (asked : 0 < quiets)
    (next : left h ≡ Some (segment_at at)) (some : 0 < at.len)
    (long : length (bytes_of (segment_at at) h.pending) ≡ at.len) (put : block_count at.len block < quiets) where
  few-of : (o : Option Segment) → o ≡ Some (segment_at at) → IfSome o (λ segment. quiets ≤ 1 + segment.len)
      → quiets ≤ 1 + at.len
  few-of o e few = subst (λ (o : Option Segment). IfSome o (λ segment. quiets ≤ 1 + segment.len)) e few

  commit-here : (d : Doing) → h.doing ≡ Some d → d.progress ≡ progress.Working quiets started id
      → IsCommit h d block at quiets started id
  commit-here d doing at_is =
      let way = under_way h d doing ready in
      let first : segment_left d.flush h.pending ≡ Some (segment_at at) =
      sym (ap (left_of h.pending) doing) ∙ next in
      let working : IsWorking h d quiets id = subst (IsAt h d) at_is way.at in
      record {
        busy = doing;
        way = way;
        at_is = at_is;
        asked = asked;
        few = few-of (segment_left d.flush h.pending) first working.few;
        next = first;
        some = some;
        long = long;
        put = put;
      }

module _ (h after : ClientValue) (keeper later : Store) (yard : YardValue) (carrier : Carriage) (at : SegmentAt)
    (sid now quiets started id entry : ℕ) (outcome : Made) (ready : IsReady h)
    (busy : progress_of h.doing ≡ Some (progress.Working quiets started id)) (asked : 0 < quiets)
    (next : left h ≡ Some (segment_at at)) (some : 0 < at.len)
    (long : length (bytes_of (segment_at at) h.pending) ≡ at.len)
    (put : block_count at.len yard.setting.block < quiets) (own : sid ≡ session_here h) where
  abbrev IsMade : Type 0
  IsMade = Makes now entry h after (shared keeper yard carrier) (shared later yard carrier) outcome

  -- it was made
  pub committed-call : (between : ClientValue)
      → CommitsRecord sid now at.inode at.window (record_for at id) started keeper later (Ok tt)
      → between ≡ without_segment (segment_at at) h → length between.pending + at.len ≡ length h.pending
      → IfSome between.doing (λ d. Follows d (Commit at.inode (segment_at at).from at.len 0) between after outcome)
      → IsMade
  committed-call between commits same fewer follows_it =
      let here = in_progress h.doing (progress.Working quiets started id) busy in
      let d = here.0 in
      let commit = Commit at.inode (segment_at at).from at.len 0 in
      let then_so : Follows d commit (without_segment (segment_at at) h) after outcome =
      subst (λ (o : Option Doing). IfSome o (λ d. Follows d commit (without_segment (segment_at at) h) after outcome))
      here.1
      (subst (λ (b : ClientValue). IfSome b.doing (λ d. Follows d commit b after outcome)) same follows_it) in
      follows h d (shared keeper yard carrier) later at now quiets started id
      (commit-here h at quiets started id yard.setting.block ready busy asked next some long put d here.1 here.2) ready sid
      own commits (subst (λ (b : ClientValue). length b.pending + at.len ≡ length h.pending) same fewer) entry after outcome
      then_so

  -- it wasn't
  pub unmade-call : (fault : TxFault)
      → CommitsRecord sid now at.inode at.window (record_for at id) started keeper later (Err fault)
      → EndsUnmade Quiet fault h after outcome → IsMade
  unmade-call fault commits ends =
      let here = in_progress h.doing (progress.Working quiets started id) busy in
      refuses-commit h here.0 (shared keeper yard carrier) later at now quiets started id
      (commit-here h at quiets started id yard.setting.block ready busy asked next some long put here.0 here.1 here.2) ready
      sid own entry after fault outcome commits ends

-- the same call under other names
pub commits-as : (sid now at_moment inode window : ℕ) (rec whole : Rec) (started : ℕ) (before after : Store)
    (result : Result (Unit {0}) TxFault) → at_moment ≡ now → rec ≡ whole
    → CommitsRecord sid at_moment inode window rec started before after result
    → CommitsRecord sid now inode window whole started before after result
commits-as sid now at_moment inode window rec whole started before after result same_now same commits =
    subst (λ n. CommitsRecord sid n inode window whole started before after result) same_now
    (subst (λ (r : Rec). CommitsRecord sid at_moment inode window r started before after result) same commits)

-- out of memory before it
pub unasked-call : (now entry : ℕ) (h after : ClientValue) (v : Shared) (at : Progress) (outcome : Made) → IsReady h
    → progress_of h.doing ≡ Some at → Fails NoMemory h after outcome → Makes now entry h after v v outcome
unasked-call now entry h after v at outcome ready busy failed =
    let here = in_progress h.doing at busy in
    no_memory-makes now entry h after here.0 v outcome here.1 ready failed

-- a handle that its operation closes is still open
pub closes-still : (h between : ClientValue) (segment : Segment) → IsReady h → between ≡ without_segment segment h
    → IfSome between.doing (λ d. ClosesOpen d.op between.handles)
closes-still h between segment ready same =
    subst (λ (c : ClientValue). IfSome c.doing (λ d. ClosesOpen d.op c.handles)) (sym same) (by_doing h.doing ready.doing)
  where
    by_doing : (o : Option Doing) → IfSome o (IsUnderWay h)
        → IfSome o (λ d. ClosesOpen d.op (without_segment segment h).handles)
    by_doing None way = tt
    by_doing (Some d) way = closes-without h segment d.op (closes-open h d way.form)
