-- A commit of a segment, by what comes after it: another segment, the operation's own requests, or its answer.
use Rattle.std.proofs.Common.{◌≡◌, ℕ, ◌+◌, ◌≤◌, ◌<◌, Bool, true, false, not, [], ◌∷◌}
use Rattle.std.proofs.Common.{Option, None, Some, refl, sym, ap, subst, ◌∙◌}
use Rattle.std.specs.Prelude.{if◌then◌else◌, is_some, IsTrue}
use Rattle.jv_model.specs.declared.lifetimes.TheConstants.{UPLOAD_LIFE}
use Rattle.jv_model.specs.declared.act.ActKind.{ActKind}
use Rattle.jv_model.specs.declared.act.ActKind.TheVariants.{Commit, Answered}
use Rattle.jv_model.specs.declared.act.Told.{Told}
use Rattle.jv_model.specs.declared.act.Told.TheVariants.{Fine, Looks}
use Rattle.jv_model.specs.declared.op.Op.{Op}
use Rattle.jv_model.specs.declared.op.Op.TheVariants as op
use Rattle.jv_model.specs.declared.op.Reply.{Reply}
use Rattle.jv_model.specs.declared.op.Reply.TheVariants as reply
use Rattle.jv_model.specs.declared.op.Step.TheVariants.{More, Done}
use Rattle.jv_model.specs.declared.profile.Answer.TheVariants as answer
use Rattle.jv_model.specs.declared.profile.Does.{Does}
use Rattle.jv_model.specs.declared.profile.Does.TheVariants.{Answers, Releases}
use Rattle.jv_model.specs.promise.tree.Tree.{Tree, fits, node_at}
use Rattle.jv_model.specs.promise.tree.FileBytes.{committed}
use Rattle.jv_model.specs.promise.client.Pending.{Segment, bytes_in_range, without_range}
use Rattle.jv_model.specs.promise.client.Profile.{handle_of}
use Rattle.jv_model.specs.promise.client.Submission.{next_segment}
use Rattle.jv_model.specs.promise.client.ModelClient.{ModelClient, Doing, Stage, Working, Replying, is_last_of_removed}
use Rattle.jv_model.specs.promise.journal.State.{State, after_told, answer_then, committed_stage, finished, has_session}
use Rattle.jv_model.specs.promise.journal.State.{with_client, without_committed}
use Rattle.jv_model.specs.promise.journal.Steps.{Start, Commits, Decided, is_failure, told_of}
use Rattle.jv_model_steps.specs.Leaves.{Leaves}
use Rattle.jv_model_steps.specs.IsStep.{IsStep, at_stage}
use Rattle.jv_model_steps.proofs.StepFormLaws.{leaves-one, requested, step-answered, step-on, with_stage-doing}

-- what an operation that is done leaves of a client doesn't depend on how far it was
pub finished-doing : (o : Op) (c : ModelClient) (doing : Option Doing)
    → record (finished o (record c { doing = doing })) { doing = None } ≡ record (finished o c) { doing = None }
finished-doing op.Umount c doing = refl
finished-doing (op.Close handle) c doing = refl
finished-doing (op.Write handle offset bytes) c doing = refl
finished-doing _ c doing = refl

-- the answer after a flush

-- that of an operation whose row is known, where it computes
pub then-does : (c : ModelClient) (d : Doing) (does : Does) → d.does ≡ does
    → answer_then c d ≡ answer_then c (record d { does = does })
then-does c d does e = ap (λ does. answer_then c (record d { does = does })) e

-- that of a close, by whether its handle is the last one on a removed file
pub then-releases : (c : ModelClient) (d : Doing) (last : Bool) → d.does ≡ Releases
    → is_last_of_removed c (handle_of d.op) ≡ last
    → answer_then c d ≡ (if last then None else Some reply.Done)
then-releases c d last e same =
    then-does c d Releases e ∙ ap (λ b. if b then None else Some reply.Done) same

abbrev is_fine : Reply → Bool
is_fine reply.Done = true
is_fine (reply.Count bytes) = true
is_fine (reply.Data bytes) = true
is_fine _ = false

abbrev IsFineIf : Option Reply → Type 0
IsFineIf None = Unit {0}
IsFineIf (Some answer) = is_fine answer ≡ true

answers-by : (c : ModelClient) (d : Doing) (does : Does) → IsFineIf (answer_then c (record d { does = does }))
answers-by c d (Answers answer.Done) = refl
answers-by c d (Answers (answer.Count bytes)) = refl
answers-by c d (Answers answer.NoData) = refl
answers-by c d (Answers answer.CacheStats) = tt
answers-by c d Releases = either (is_last_of_removed c (handle_of d.op))
  where
    either : (b : Bool) → IsFineIf (if b then None else Some reply.Done)
    either true = tt
    either false = refl
answers-by c d _ = tt

answers-finely : (c : ModelClient) (d : Doing) (said : Reply) → answer_then c d ≡ Some said → is_fine said ≡ true
answers-finely c d said e = subst IsFineIf e (answers-by c d d.does)

fine-no_failure : (said : Reply) → is_fine said ≡ true → is_failure (told_of said) ≡ false
fine-no_failure reply.Done e = refl
fine-no_failure (reply.Count bytes) e = refl
fine-no_failure (reply.Data bytes) e = refl
fine-no_failure _ e = absurd (cc e)

fine-finished : (o : Op) (c : ModelClient) (said : Reply) → is_fine said ≡ true
    → after_told o (told_of said) c ≡ record (finished o c) { doing = None }
fine-finished o c reply.Done e = refl
fine-finished o c (reply.Count bytes) e = refl
fine-finished o c (reply.Data bytes) e = refl
fine-finished o c _ e = absurd (cc e)

-- the stage after a commit

stage-left : (c : ModelClient) (d : Doing) (segment : Segment) → next_segment d.flush c.pending ≡ Some segment
    → committed_stage c d ≡ Working 0 0
stage-left c d segment left =
    ap (λ (o : Option Segment). if not (is_some o)
    then elim (answer_then c d) as (λ _. Stage) [ None ↦ Working 0 0 | Some answer ↦ Replying answer ] else Working 0 0)
    left

stage-over : (c : ModelClient) (d : Doing) (answer : Option Reply) → next_segment d.flush c.pending ≡ None
    → answer_then c d ≡ answer
    → committed_stage c d ≡ elim answer as (λ _. Stage) [ None ↦ Working 0 0 | Some answer ↦ Replying answer ]
stage-over c d answer none same =
    ap (λ (o : Option Segment). if not (is_some o)
    then elim (answer_then c d) as (λ _. Stage) [ None ↦ Working 0 0 | Some answer ↦ Replying answer ] else Working 0 0)
    none
    ∙ ap (λ (o : Option Reply). elim o as (λ _. Stage) [ None ↦ Working 0 0 | Some answer ↦ Replying answer ]) same

-- a commit that is allowed

pub commits-may : (s : State) (now : ℕ) (c : ModelClient) (d : Doing) (inode from len quiets started : ℕ)
    → d.stage ≡ Working quiets started → 2 ≤ quiets → c.writeback ≡ false
    → next_segment d.flush c.pending ≡ Some (record { inode = inode; from = from; len = len })
    → IsTrue (has_session s.tree c) → IsTrue (is_some (node_at s.tree inode)) → now < started + UPLOAD_LIFE
    → IsTrue (fits s.tree (committed s.tree now inode from (bytes_in_range inode from len c.pending)))
    → Commits s now c d inode from len 0
commits-may s now c d inode from len quiets started at asked direct next session there in_time room =
    subst (λ stage. Commits s now c (record d { stage = stage }) inode from len 0) (sym at)
    (record {
      requests = asked;
      segment = next;
      behind = rw direct refl;
      session = session;
      file = there;
      in_time = in_time;
      room = room;
    })

module _ (start : Start) (alone : Bool) (s : State) (client now : ℕ) (d : Doing)
    (busy : (s.clients client).doing ≡ Some d) (inode from len : ℕ)
    (commits : Commits s now (s.clients client) d inode from len 0) where
  abbrev c : ModelClient
  c = s.clients client

  abbrev rest : ModelClient
  rest = without_committed inode from len c

  abbrev kind : ActKind
  kind = Commit inode from len 0

  abbrev grown : Tree
  grown = committed s.tree now inode from (bytes_in_range inode from len c.pending)

  commit-leaves : (stage : Stage) → committed_stage rest d ≡ stage
      → Leaves s (requested s client now d busy kind) client 1 grown (at_stage stage d rest) s.copied
  commit-leaves stage leads =
      leaves-one s (requested s client now d busy kind) client grown (at_stage stage d rest) s.copied refl
      (ap (with_client s.clients client)
      (with_stage-doing (committed_stage rest d) rest d busy ∙ ap (λ stage. at_stage stage d rest) leads)) refl

  abbrev GoesOn : Type 0
  GoesOn = IsStep start alone s client now (kind ∷ []) More grown (at_stage (Working 0 0) d rest) s.copied

  commit-on : committed_stage rest d ≡ Working 0 0 → GoesOn
  commit-on leads =
      step-on s client now d busy start alone kind refl commits grown (at_stage (Working 0 0) d rest) s.copied
      (commit-leaves (Working 0 0) leads) refl

  -- another segment is left
  pub commit-left : (segment : Segment)
      → next_segment d.flush (without_range inode from len c.pending) ≡ Some segment → GoesOn
  commit-left segment left = commit-on (stage-left rest d segment left)

  module _ (over : next_segment d.flush (without_range inode from len c.pending) ≡ None) where
    -- nothing is left, and the operation has requests of its own
    pub commit-then : answer_then c d ≡ None → GoesOn
    commit-then none = commit-on (stage-over rest d None over none)

    -- nothing is left, and the operation is answered
    pub commit-answered : (said : Reply) → answer_then c d ≡ Some said
        → IsStep start alone s client now (kind ∷ Answered (told_of said) ∷ []) (Done said) grown
        (record (finished d.op rest) { doing = None }) s.copied
    commit-answered said same =
        let fine = answers-finely c d said same in
        let stage = Replying said in
        let after : Doing = record d { stage = stage; moved = true } in
        subst (λ c. IsStep start alone s client now (kind ∷ Answered (told_of said) ∷ []) (Done said) grown c s.copied)
        (fine-finished d.op (at_stage stage d rest) said fine ∙ finished-doing d.op rest (Some after))
        (step-answered s client now d busy start alone kind refl commits grown (at_stage stage d rest) s.copied
        (commit-leaves stage (stage-over rest d (Some said) over same))
        after (told_of said) said refl refl (fine-no_failure said fine) refl
        (Decided said refl refl))

    -- the same, for each operation that is answered then

    abbrev EndsWith : Told → Reply → Type 0
    EndsWith told said =
        IsStep start alone s client now (kind ∷ Answered told ∷ []) (Done said) grown
        (record (finished d.op rest) { doing = None }) s.copied

    pub commit-flushed : d.does ≡ Answers answer.Done → EndsWith (Fine 0 0 0 0) reply.Done
    commit-flushed e = commit-answered reply.Done (then-does c d (Answers answer.Done) e)

    pub commit-no_data : d.does ≡ Answers answer.NoData → EndsWith (Looks 0 0 0) (reply.Data [])
    commit-no_data e = commit-answered (reply.Data []) (then-does c d (Answers answer.NoData) e)

    pub commit-counted : (bytes : ℕ) → d.does ≡ Answers (answer.Count bytes)
        → EndsWith (Fine bytes 0 0 0) (reply.Count bytes)
    commit-counted bytes e = commit-answered (reply.Count bytes) (then-does c d (Answers (answer.Count bytes)) e)

    pub commit-closed : d.does ≡ Releases → is_last_of_removed c (handle_of d.op) ≡ false
        → EndsWith (Fine 0 0 0 0) reply.Done
    commit-closed e last = commit-answered reply.Done (then-releases c d false e last)
