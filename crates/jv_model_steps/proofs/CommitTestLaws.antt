-- The tests of a commit in their order, as a transaction makes them: where they pass the commit may stand, and the
-- first one that fails refuses it.
use Rattle.std.proofs.Common.{◌≡◌, ℕ, ◌+◌, ◌≤◌, ◌<◌, Bool, true, false, not, List}
use Rattle.std.proofs.Common.{Option, None, Some, Result, Ok, Err, refl, sym, ap}
use Rattle.std.specs.Prelude.{is_some, nat_lt, IsTrue}
use Rattle.std.proofs.lemmas.Bool.{ltb-false, ltb-true, or_right}
use Rattle.jv_model.specs.declared.lifetimes.TheConstants.{UPLOAD_LIFE}
use Rattle.jv_model.specs.declared.fault.Fault.{Fault}
use Rattle.jv_model.specs.declared.fault.Fault.TheVariants.{NoSpace, Stale, TimedOut}
use Rattle.jv_model.specs.declared.fault.Gone.TheVariants.{Session, Node as GoneNode}
use Rattle.jv_model.specs.declared.op.Reply.TheVariants.{Done}
use Rattle.jv_model.specs.promise.FiniteMap.{get}
use Rattle.jv_model.specs.promise.tree.Attempt.{◌>>=◌, require, some_or}
use Rattle.jv_model.specs.promise.tree.Caller.{Outcome, done}
use Rattle.jv_model.specs.promise.tree.Tree.{Tree, Content, Node, content_at, content_in, fits, node_at}
use Rattle.jv_model.specs.tree.FileBytes.{commit_of}
use Rattle.jv_model.specs.promise.tree.FileBytes.{committed}
use Rattle.jv_model.specs.promise.client.Pending.{Segment, bytes_in_range}
use Rattle.jv_model.specs.promise.client.Submission.{next_segment}
use Rattle.jv_model.specs.promise.client.ModelClient.{ModelClient, Doing, Working, session_of}
use Rattle.jv_model.specs.promise.journal.State.{State, has_session}
use Rattle.jv_model.specs.promise.journal.Steps.{Start, Commits, is_crowded}
use Rattle.jv_model_steps.specs.RefusesCommit.{RefusesCommit, Late, NoFile, NoRoom, NoSession}
use Rattle.jv_model_steps.proofs.CommitStepLaws.{commits-may}
use Rattle.jv_model_steps.proofs.SessionLaws.{has_session-mounted}

-- the same as the outcome of a transaction, which has its tree or its refusal

pub tests-done : (tested : Result Tree Fault) (end : Outcome) → (tested >>= (λ after. done after)) ≡ Ok end
    → tested ≡ Ok end.tree
tests-done (Ok after) end e =
    let same : ◌≡◌ {A = Result Outcome Fault} (Ok (record { tree = after; reply = Done })) (Ok end) = e in
    let is : record { tree = after; reply = Done } ≡ end = cc same in
    ap (λ (end : Outcome). Ok end.tree) is
tests-done (Err fault) end e = absurd (cc e)

pub tests-undone : (tested : Result Tree Fault) (fault : Fault) → (tested >>= (λ after. done after)) ≡ Err fault
    → tested ≡ Err fault
tests-undone (Ok after) fault e = absurd (cc e)
tests-undone (Err said) fault e =
    let same : ◌≡◌ {A = Result Outcome Fault} (Err said) (Err fault) = e in
    let is : said ≡ fault = cc same in
    ap Err is

node-there : (o : Option Node) (content : Content) → content_in o ≡ Some content → is_some o ≡ true
node-there None content e = absurd (cc e)
node-there (Some node) content e = refl

module _ (s : State) (now : ℕ) (c : ModelClient) (mounted : IsTrue (is_some c.session)) (segment : Segment)
    (started : ℕ) where
  abbrev bytes : List ℕ
  bytes = bytes_in_range segment.inode segment.from segment.len c.pending

  abbrev left_by : Tree
  left_by = committed s.tree now segment.inode segment.from bytes

  abbrev by_tests : Bool → Option Content → Bool → Bool → Result Tree Fault
  by_tests session content in_time room =
      (require session (Stale (Session (session_of c))) >>=
      (λ _. some_or content (Stale (GoneNode segment.inode)) >>= (λ content. Ok content.length)))
      >>= (λ _. require in_time (TimedOut started now) >>= (λ _. require room NoSpace >>= (λ _. Ok left_by)))

  -- what a commit needs
  abbrev IsAllowed : Type 0
  IsAllowed =
      IsTrue (has_session s.tree c) × IsTrue (is_some (node_at s.tree segment.inode)) × (now < started + UPLOAD_LIFE)
      × IsTrue (fits s.tree left_by)

  allowed_by : (session : Bool) (content : Option Content) (in_time room : Bool) (left : Tree)
      → has_session s.tree c ≡ session → content_at s.tree segment.inode ≡ content
      → nat_lt now (started + UPLOAD_LIFE) ≡ in_time → fits s.tree left_by ≡ room
      → by_tests session content in_time room ≡ Ok left → IsAllowed × (left ≡ left_by)
  allowed_by false content in_time room left seen there early roomy e = absurd (cc e)
  allowed_by true None in_time room left seen there early roomy e = absurd (cc e)
  allowed_by true (Some content) false room left seen there early roomy e = absurd (cc e)
  allowed_by true (Some content) true false left seen there early roomy e = absurd (cc e)
  allowed_by true (Some content) true true left seen there early roomy e =
      let same : ◌≡◌ {A = Result Tree Fault} (Ok left_by) (Ok left) = e in (
        (
          seen,
          node-there (node_at s.tree segment.inode) content there,
          ltb-true now (started + UPLOAD_LIFE) early,
          roomy,
        ),
        (let is : left_by ≡ left = cc same in sym is),
      )

  pub tests-allow : (left : Tree)
      → commit_of (session_of c) segment.inode segment.from bytes started now s.tree ≡ Ok left
      → IsAllowed × (left ≡ left_by)
  tests-allow left e =
      allowed_by (is_some (get s.tree.sessions (session_of c))) (content_at s.tree segment.inode) (nat_lt now (started + UPLOAD_LIFE))
      (fits s.tree left_by) left (has_session-mounted s.tree c mounted) refl refl refl e

  -- the commit may stand
  pub tests-commit : (d : Doing) (quiets : ℕ) (left : Tree)
      → commit_of (session_of c) segment.inode segment.from bytes started now s.tree ≡ Ok left
      → d.stage ≡ Working quiets started → 2 ≤ quiets → c.writeback ≡ false
      → next_segment d.flush c.pending ≡ Some segment
      → Commits s now c d segment.inode segment.from segment.len 0
  tests-commit d quiets left e at asked direct next =
      let wants = (tests-allow left e).0 in
      commits-may s now c d segment.inode segment.from segment.len quiets started at asked direct next wants.0 wants.1
      wants.2 wants.3

  module _ (start : Start) where
    refused_by : (session : Bool) (content : Option Content) (in_time room : Bool) (fault : Fault)
        → has_session s.tree c ≡ session → content_at s.tree segment.inode ≡ content
        → nat_lt now (started + UPLOAD_LIFE) ≡ in_time → fits s.tree left_by ≡ room
        → (content_at s.tree segment.inode ≡ None → node_at s.tree segment.inode ≡ None)
        → by_tests session content in_time room ≡ Err fault
        → RefusesCommit start s now c segment started fault
    refused_by false content in_time room fault seen there early roomy file e =
        NoSession seen
        (let same : ◌≡◌ {A = Result Tree Fault} (Err (Stale (Session (session_of c)))) (Err fault) = e in cc)
    refused_by true None in_time room fault seen there early roomy file e =
        NoFile seen (file there)
        (let same : ◌≡◌ {A = Result Tree Fault} (Err (Stale (GoneNode segment.inode))) (Err fault) = e in cc)
    refused_by true (Some content) false room fault seen there early roomy file e =
        Late seen (node-there (node_at s.tree segment.inode) content there)
        (ltb-false now (started + UPLOAD_LIFE) early)
        (let same : ◌≡◌ {A = Result Tree Fault} (Err (TimedOut started now)) (Err fault) = e in cc)
    refused_by true (Some content) true false fault seen there early roomy file e =
        NoRoom seen (node-there (node_at s.tree segment.inode) content there)
        (ltb-true now (started + UPLOAD_LIFE) early)
        (or_right (is_crowded start s) (not (fits s.tree left_by)) (ap not roomy))
        (let same : ◌≡◌ {A = Result Tree Fault} (Err NoSpace) (Err fault) = e in cc)
    refused_by true (Some content) true true fault seen there early roomy file e = absurd (cc e)

    -- the first test that fails refuses it; where no file is there is no other node
    pub tests-refuse : (fault : Fault)
        → commit_of (session_of c) segment.inode segment.from bytes started now s.tree ≡ Err fault
        → (content_at s.tree segment.inode ≡ None → node_at s.tree segment.inode ≡ None)
        → RefusesCommit start s now c segment started fault
    tests-refuse fault e file =
        refused_by (is_some (get s.tree.sessions (session_of c))) (content_at s.tree segment.inode) (nat_lt now (started + UPLOAD_LIFE))
        (fits s.tree left_by) fault (has_session-mounted s.tree c mounted) refl refl refl file e
