-- Why a commit of a segment is refused.
use Rattle.std.specs.Prelude.{◌≡◌, ℕ, ◌+◌, ◌≤◌, ◌<◌, false, ◌||◌, not, is_some, IsTrue, None}
use Rattle.jv_model.specs.declared.lifetimes.TheConstants.{UPLOAD_LIFE}
use Rattle.jv_model.specs.declared.fault.Fault.{Fault}
use Rattle.jv_model.specs.declared.fault.Fault.TheVariants.{NoSpace, Stale, TimedOut}
use Rattle.jv_model.specs.declared.fault.Gone.TheVariants.{Session, Node}
use Rattle.jv_model.specs.promise.tree.Tree.{fits, node_at}
use Rattle.jv_model.specs.promise.tree.FileBytes.{committed}
use Rattle.jv_model.specs.promise.client.Pending.{Segment, bytes_in_range}
use Rattle.jv_model.specs.promise.client.ModelClient.{ModelClient, session_of}
use Rattle.jv_model.specs.promise.journal.State.{State, has_session}
use Rattle.jv_model.specs.promise.journal.Steps.{Start, is_crowded}

-- The first of what it needs that isn't so: its session, its file, that its first block was put
-- less than an upload's life ago, and room for its bytes, its slice and its record.
pub data RefusesCommit (start : Start) (s : State) (now : ℕ) (c : ModelClient) (segment : Segment)
    (started : ℕ)
    (fault : Fault) : Type 0 where
  NoSession : has_session s.tree c ≡ false → fault ≡ Stale (Session (session_of c))
      → RefusesCommit start s now c segment started fault
  NoFile : IsTrue (has_session s.tree c) → node_at s.tree segment.inode ≡ None
      → fault ≡ Stale (Node segment.inode)
      → RefusesCommit start s now c segment started fault
  Late : IsTrue (has_session s.tree c) → IsTrue (is_some (node_at s.tree segment.inode))
      → started + UPLOAD_LIFE ≤ now → fault ≡ TimedOut started now
      → RefusesCommit start s now c segment started fault
  NoRoom : IsTrue (has_session s.tree c) → IsTrue (is_some (node_at s.tree segment.inode))
      → now < started + UPLOAD_LIFE
      → IsTrue (is_crowded start s
      || not (fits s.tree (committed s.tree now segment.inode segment.from
      (bytes_in_range segment.inode segment.from segment.len c.pending))))
      → fault ≡ NoSpace → RefusesCommit start s now c segment started fault
