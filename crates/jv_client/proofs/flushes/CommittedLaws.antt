-- A commit that was made, and what follows it: another request, the answer, or the end of a write that had to wait for room.
use Rattle.std.proofs.Common.{◌≡◌, ℕ, ◌+◌, ◌≤◌, true, false, List, [], ◌∷◌, length}
use Rattle.std.proofs.Common.{Option, None, Some, Ok, refl, sym, ap, subst, ◌∙◌, arith, is_some}
use Rattle.jv_model.specs.declared.act.ActKind.{ActKind}
use Rattle.jv_model.specs.declared.act.ActKind.TheVariants.{Answered, Commit}
use Rattle.jv_model.specs.declared.act.Told.{Told}
use Rattle.jv_model.specs.declared.act.Told.TheVariants.{Fine}
use Rattle.jv_model.specs.declared.fault.Device.{Device}
use Rattle.jv_model.specs.declared.fault.Device.TheVariants as device
use Rattle.jv_model.specs.declared.op.Op.{Op}
use Rattle.jv_model.specs.declared.op.Op.TheVariants as op
use Rattle.jv_model.specs.declared.op.Reply.{Reply}
use Rattle.jv_model.specs.declared.op.Reply.TheVariants as reply
use Rattle.jv_model.specs.declared.op.Step.TheVariants.{More, Done}
use Rattle.jv_model.specs.declared.profile.Answer.TheVariants as answer
use Rattle.jv_model.specs.declared.profile.Does.{Does}
use Rattle.jv_model.specs.declared.profile.Does.TheVariants as does
use Rattle.jv_model.specs.promise.tree.Tree.{Tree}
use Rattle.jv_model.specs.promise.client.Pending.{PendingByte, Segment, written}
use Rattle.jv_model.specs.promise.client.Profile.{handle_of}
use Rattle.jv_model.specs.promise.client.ModelClient.{ModelClient, Working, is_last_of_removed}
use Rattle.jv_model.specs.promise.journal.State.{State, after_told, answer_then, finished}
use Rattle.jv_model.specs.promise.journal.Steps.{told_of}
use Rattle.jv_model.specs.client.OpForms.{is_umount, is_write}
use Rattle.jv_outside.specs.promise.Causes.{RoseIf}
use Rattle.jv_outside.specs.promise.Store.{Store}
use Rattle.jv_volume.proofs.holding.HoldingLaws.{stays-committed}
use Rattle.jv_pending.specs.declared.segment.SegmentAt.{SegmentAt}
use Rattle.jv_data.specs.Records.{CommitsRecord}
use Rattle.jv_client_handles.specs.Handles.{inode_here}
use Rattle.jv_client_shared.specs.promise.Shared.{HasStore, Known, Shared}
use Rattle.jv_client_shared.proofs.KeepingLaws.{stays-none}
use Rattle.jv_model_steps.specs.IsStep.{at_stage}
use Rattle.jv_client_requests.specs.Request.{Request}
use Rattle.jv_client.specs.declared.doing.Doing.{Doing}
use Rattle.jv_client.specs.declared.doing.Progress.TheVariants as progress
use Rattle.jv_client.specs.declared.made.Made.{Made}
use Rattle.jv_client.specs.declared.made.Made.TheVariants as made
use Rattle.jv_client.specs.ClientValue.{ClientValue, session_here}
use Rattle.jv_client.specs.Ending.{told_here}
use Rattle.jv_client.specs.Held.{IsHeld, IsClient, Holds, in_flight, is_last_here, segment_left}
use Rattle.jv_client.specs.UnderWay.{IsReady, answer_here, ends_itself, left, left_of, moved_to}
use Rattle.jv_client.specs.Makes.{IsCalm, Makes, StepsTo, SaysBad, UsesDevices, asks_nothing, faults_of}
use Rattle.jv_client.specs.Makes.{step_of}
use Rattle.jv_client.specs.CacheUse.{fails_block}
use Rattle.jv_client.specs.Failures.{says_failure}
use Rattle.jv_client.specs.Flushing.{Follows, Answers, Writes, GoesOn, written_alone}
use Rattle.jv_client.proofs.held.CacheUseLaws.{RestsBy, cache-ended, cache-stays, left-some, rests-calm}
use Rattle.jv_client.proofs.flushes.AfterCommitLaws.{falls-without, way-without}
use Rattle.jv_client.proofs.steps.AnswerLaws.{Rests, makes-as, makes-ended, rests-flight, same-yard, told-rests}
use Rattle.jv_client.proofs.flushes.CommitLaws.{IsCommit, grown, leads-answered, leads-left, leads-then}
use Rattle.jv_client.proofs.flushes.CommitLaws.{number-is, record_for, rest, segment, used, without}
use Rattle.jv_client.proofs.held.EndingLaws.{holds-told, keeps_bytes}
use Rattle.jv_client.proofs.flushes.EndsAfterLaws.{answered-so, goes-on, told-same, waits-to_write}
use Rattle.jv_client.proofs.held.HeldLaws.{doing_of, holds-doing}
use Rattle.jv_client.proofs.held.OthersStepLaws.{moved-client, told-client}
use Rattle.jv_client.proofs.held.LastHandleLaws.{is_last-same}
use Rattle.jv_client.proofs.held.CommittedSegmentLaws.{held-without, holds-without}
use Rattle.jv_client.proofs.writes.WrittenLaws.{wrote-client, wrote-holds}

-- ---- what an answer after a flush is

keeps-none : (what : Does) (o : Op) → is_write o ≡ false → keeps_bytes o (answer_here what).0 ≡ false
keeps-none (does.Answers answer.NoData) o e = e
keeps-none _ o e = e

calm-answer : (what : Does) → IsCalm (answer_here what).0
calm-answer (does.Answers answer.NoData) failed = refl
calm-answer _ failed = refl

after-answer : (what : Does) (o : Op) (c : ModelClient)
    → record (finished o c) { doing = None } ≡ after_told o (answer_here what).0 c
after-answer (does.Answers answer.NoData) o c = refl
after-answer _ o c = refl

module _ (h : ClientValue) (d : Doing) (v : Shared) (keeper : Store) (at : SegmentAt) (now quiets started id : ℕ)
    (is_commit : IsCommit h d v.yard.setting.block at quiets started id) (ready : IsReady h) (sid : ℕ)
    (own : sid ≡ session_here h)
    (commits : CommitsRecord sid now at.inode at.window (record_for at id) started v.keeper keeper (Ok tt)) where
  abbrev segment_here : Segment
  segment_here = segment h d v keeper at now quiets started id is_commit

  abbrev between : ClientValue
  between = without h d v keeper at now quiets started id is_commit

  abbrev used_here : Shared
  used_here = used h d v keeper at now quiets started id is_commit

  abbrev commit : ActKind
  commit = Commit at.inode segment_here.from at.len 0

  left-between : (o : Option Segment) → left between ≡ o → segment_left d.flush between.pending ≡ o
  left-between o e = sym (ap (left_of between.pending) is_commit.busy) ∙ e

  -- what a step with a commit does to devices
  uses : (outcome : Made) → ((failed : Device) → says_failure failed outcome ≡ false) → asks_nothing outcome ≡ false
      → SaysBad v (step_of outcome) → UsesDevices outcome v used_here
  uses outcome calm asks bad = record {
    keeper_at = (commits [] (λ setting. 0)).opened_at;
    carrier_at = refl;
    depot_at = refl;
    shelf_at = refl;
    setting = refl;
    last = refl;
    counts = λ failed.
        subst (λ b. RoseIf b (faults_of failed v) (faults_of failed used_here)) (sym (calm failed)) (same_count failed);
    rows = λ none. absurd (cc (sym asks ∙ none));
    objects = λ none. absurd (cc (sym asks ∙ none));
    direct = refl;
    bad = bad;
  }
    where
      same_count : (failed : Device) → faults_of failed used_here ≡ faults_of failed v
      same_count device.Keeper = (commits [] (λ setting. 0)).counts
      same_count device.Depot = refl
      same_count device.Shelf = refl
      same_count device.Carrier = refl

  -- ---- where it leads

  module _ (s : State) (g : Known) (store : HasStore s.tree g v) (holds : Holds s.tree (s.clients h.id))
      (is : IsClient g v (s.clients h.id) s.count h) where
    abbrev model : ModelClient
    model = s.clients h.id

    abbrev left_model : ModelClient
    left_model = rest h d v keeper at now quiets started id is_commit s g store is

    abbrev tree_then : Tree
    tree_then = grown h d v keeper at now quiets started id is_commit s g store is

    abbrev Leads : List ActKind → (step : Reply) → ModelClient → Type 0
    Leads kinds said c = Request s g g v used_here h.id now id 0 kinds (Done said) tree_then c s.copied

    held-here : IsHeld g v left_model s.count between
    held-here =
        held-without segment_here s.tree g v store 0 g v (stays-none 0 g v) model s.count s.count h (omega arith) is.held

    last : is_last_of_removed model (handle_of d.op) ≡ is_last_here between (handle_of d.op)
    last = is_last-same g v left_model s.count between held-here (handle_of d.op)

    holds-here : Holds tree_then left_model
    holds-here =
        holds-without segment_here s.tree tree_then model
        (stays-committed s.tree now at.inode segment_here.from _) holds

    -- the operation goes on

    abbrev then_model : ModelClient
    then_model = at_stage (Working 0 0) (doing_of d) left_model

    module _ (goes : segment_left d.flush between.pending ≡ None → ends_itself between d ≡ false) where
      request-on : Request s g g v used_here h.id now id 0 (commit ∷ []) More tree_then then_model s.copied
      request-on = by_left (segment_left d.flush between.pending) refl
        where
          by_left : (o : Option Segment) → segment_left d.flush between.pending ≡ o
              → Request s g g v used_here h.id now id 0 (commit ∷ []) More tree_then then_model s.copied
          by_left (Some other) e =
              leads-left h d v keeper at now quiets started id is_commit s g store is sid own commits other e
          by_left None e =
              leads-then h d v keeper at now quiets started id is_commit s g store is sid own commits e
              (goes-on model between d last (goes e))

      abbrev asking : ClientValue
      asking = record between { doing = Some (moved_to (progress.Working 0 0 0) d) }

      leads-on : StepsTo s g v h now (commit ∷ []) More asking used_here
      leads-on = record {
        learned = g;
        tree = tree_then;
        model = then_model;
        copied = s.copied;
        request = subst (λ n. Request s g g v used_here h.id now n 0 (commit ∷ []) More tree_then then_model s.copied)
            (sym (number-is h d v keeper at now quiets started id is_commit)) request-on;
        is_client =
            moved-client g used_here (s.count + 1) left_model between d (progress.Working 0 0 0)
            (held-without segment_here s.tree g v store request-on.own g used_here request-on.leads.kept model s.count
            (s.count + 1) h (omega arith) is.held)
            is.cache tt tt tt;
        holds = holds-doing tree_then left_model then_model.doing holds-here;
      }

    -- or is over

    module _ (over : segment_left d.flush between.pending ≡ None) where
      -- a step that ends the operation, from its request
      ends-so : (told : Told) (said : Reply) (c : ModelClient) (after : ClientValue) → Rests between after
          → Leads (commit ∷ Answered told ∷ []) said c
          → ((later : ℕ) → IsHeld g used_here left_model later between → IsClient g used_here c later after)
          → Holds tree_then c
          → StepsTo s g v h now (commit ∷ Answered told ∷ []) (Done said) after used_here
      ends-so told said c after rests request client held = record {
        learned = g;
        tree = tree_then;
        model = c;
        copied = s.copied;
        request =
            subst (λ n. Request s g g v used_here h.id now n (in_flight after) (commit ∷ Answered told ∷ []) (Done said)
            tree_then c s.copied) (sym (number-is h d v keeper at now quiets started id is_commit))
            (subst (λ n. Request s g g v used_here h.id now id n (commit ∷ Answered told ∷ []) (Done said) tree_then c
            s.copied) (sym (rests-flight between after rests)) request);
        is_client =
            client (s.count + 2)
            (held-without segment_here s.tree g v store request.own g used_here request.leads.kept model s.count
            (s.count + 2) h (omega arith) is.held);
        holds = held;
      }

      request-over : (said : Reply) → answer_then model (doing_of d) ≡ Some said
          → Leads (commit ∷ Answered (told_of said) ∷ []) said (record (finished d.op left_model) { doing = None })
      request-over said same =
          leads-answered h d v keeper at now quiets started id is_commit s g store is sid own commits over said same

      -- it is answered
      module _ (ends : ends_itself between d ≡ true)
          (alone : length between.pending ≤ 0 → written_alone d.op between.handles ≡ None) where
        abbrev told : Told
        told = (answer_here d.does).0

        abbrev said : Reply
        said = (answer_here d.does).1

        leads-over : StepsTo s g v h now (commit ∷ Answered told ∷ []) (Done said) (told_here d.op told between) used_here
        leads-over =
            let answer =
            answered-so model between d last ends h segment_here is_commit.next over alone is_commit.way.form in
            let other = keeps-none d.does d.op answer.other in
            ends-so told said (after_told d.op told left_model) (told_here d.op told between)
            (told-rests d.op told between)
            (subst (λ told. Leads (commit ∷ Answered told ∷ []) said (after_told d.op (answer_here d.does).0 left_model))
            (sym (told-same d.does))
            (subst (λ c. Leads (commit ∷ Answered (told_of said) ∷ []) said c) (after-answer d.does d.op left_model)
            (request-over said answer.same)))
            (λ later held. told-client g used_here later d.op told left_model between other held is.cache)
            (holds-told d.op told tree_then left_model other holds-here)

      -- a write had to wait, and is pending now
      module _ (handle offset : ℕ) (bytes : List ℕ) (of_op : d.op ≡ op.Write handle offset bytes) where
        abbrev after_write : ClientValue
        after_write = record between {
          pending = written (inode_here between.handles handle) offset bytes [];
          doing = None;
        }

        abbrev told_write : Told
        told_write = Fine (length bytes) 0 0 0

        leads-write : StepsTo s g v h now (commit ∷ Answered told_write ∷ []) (Done (reply.Count (length bytes)))
            after_write used_here
        leads-write =
            let w = waits-to_write h d segment_here is_commit.next over handle offset bytes of_op is_commit.way.form in
            let done : ModelClient = record (finished (op.Write handle offset bytes) left_model) { doing = None } in
            ends-so told_write (reply.Count (length bytes)) done after_write
            (record { id = refl; limits = refl; idle = refl })
            (subst (λ o. Leads (commit ∷ Answered told_write ∷ []) (reply.Count (length bytes))
            (record (finished o left_model) { doing = None })) of_op
            (request-over (reply.Count (length bytes))
            (ap (λ what. answer_then model (doing_of (record d { does = what }))) w.does_is)))
            (λ later held. subst (λ (pending : List PendingByte). IsClient g used_here done later (record between {
              pending = written (inode_here between.handles handle) offset bytes pending;
              doing = None;
            })) w.none (wrote-client left_model between handle offset bytes g used_here later held is.cache))
            (wrote-holds left_model between handle offset bytes tree_then g v s.count w.file held-here w.opened holds-here)

  -- ---- what it makes

  module _ (fewer : length between.pending + at.len ≡ length h.pending) (entry : ℕ) where
    -- it had a segment to flush
    flushing : (done : Made) → fails_block done ≡ false → says_failure device.Keeper done ≡ false
        → RestsBy v.yard.setting.block h d done
    flushing = rests-calm v.yard.setting.block h d (left-some h d is_commit.busy (ap is_some is_commit.next))

    makes-on : (goes : segment_left d.flush between.pending ≡ None → ends_itself between d ≡ false)
        → Makes now entry h (record between { doing = Some (moved_to (progress.Working 0 0 0) d) }) v used_here
        (made.Request commit)
    makes-on goes = record {
      id = refl;
      limits = refl;
      ready = record {
        buffer = ready.buffer;
        doing = way-without h d segment_here is_commit.way.form is_commit.next fewer goes;
      };
      devices = uses (made.Request commit) (λ failed. refl) refl tt;
      yard = same-yard now h (made.Request commit) v.yard;
      cache = cache-stays h d is_commit.busy (record between { doing = Some (moved_to (progress.Working 0 0 0) d) })
          (made.Request commit) v.yard v.yard (flushing (made.Request commit) refl refl) refl refl tt;
      alone = refl;
      falls = (
        falls-without h d segment_here is_commit.way.form is_commit.next fewer goes quiets started id is_commit.at_is
            is_commit.few is_commit.some is_commit.busy,
        refl,
      );
      leads = λ s g count store holds is. leads-on s g store holds is goes;
    }

    makes-over : (over : segment_left d.flush between.pending ≡ None) (ends : ends_itself between d ≡ true)
        (alone : length between.pending ≤ 0 → written_alone d.op between.handles ≡ None)
        → Makes now entry h (told_here d.op (answer_here d.does).0 between) v used_here
        (made.Both commit (answer_here d.does).0 (answer_here d.does).1)
    makes-over over ends alone =
        let told = (answer_here d.does).0 in
        let said = (answer_here d.does).1 in
        let rests = told-rests d.op told between in
        makes-ended now entry h (told_here d.op told between) v used_here (made.Both commit told said) said refl ready
        (record { id = rests.id; limits = rests.limits; idle = rests.idle })
        (uses (made.Both commit told said) (λ failed. refl) refl tt) (same-yard now h (made.Both commit told said) v.yard)
        (cache-ended h d is_commit.busy (told_here d.op told between) (made.Both commit told said) v.yard v.yard between
        told (flushing (made.Both commit told said) refl refl) refl refl refl tt)
        (refl, calm-answer d.does)
        (λ s g count store holds is. leads-over s g store holds is over ends alone)

    makes-write : (over : segment_left d.flush between.pending ≡ None) (handle offset : ℕ) (bytes : List ℕ)
        (of_op : d.op ≡ op.Write handle offset bytes)
        → Makes now entry h (record between {
          pending = written (inode_here between.handles handle) offset bytes [];
          doing = None;
        }) v used_here (made.Both commit (Fine (length bytes) 0 0 0) (reply.Count (length bytes)))
    makes-write over handle offset bytes of_op =
        let told = Fine (length bytes) 0 0 0 in
        let said = reply.Count (length bytes) in
        makes-ended now entry h (record between {
          pending = written (inode_here between.handles handle) offset bytes [];
          doing = None;
        }) v used_here (made.Both commit told said) said refl ready
        (record { id = refl; limits = refl; idle = refl })
        (uses (made.Both commit told said) (λ failed. refl) refl tt) (same-yard now h (made.Both commit told said) v.yard)
        (cache-stays h d is_commit.busy (record between {
          pending = written (inode_here between.handles handle) offset bytes [];
          doing = None;
        }) (made.Both commit told said) v.yard v.yard (flushing (made.Both commit told said) refl refl)
        (ap is_umount of_op) refl tt)
        (refl, λ failed. refl)
        (λ s g count store holds is. leads-write s g store holds is over handle offset bytes of_op)

    -- a commit, and what follows it
    pub follows : (after : ClientValue) (outcome : Made) → Follows d commit between after outcome
        → Makes now entry h after v used_here outcome
    follows after outcome (Answers none ends alone after_is same) =
        makes-as now entry h after _ v used_here used_here outcome _ after_is refl same
        (makes-over (left-between None none) ends alone)
    follows after outcome (Writes handle offset bytes none of_op after_is same) =
        makes-as now entry h after _ v used_here used_here outcome _ after_is refl same
        (makes-write (left-between None none) handle offset bytes of_op)
    follows after outcome (GoesOn goes after_is same) =
        makes-as now entry h after _ v used_here used_here outcome _ after_is refl same
        (makes-on (λ none. goes (ap (left_of between.pending) is_commit.busy ∙ none)))
