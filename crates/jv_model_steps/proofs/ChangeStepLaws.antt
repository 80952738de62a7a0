-- Steps of truncates and copies, whose files are committed: the transaction with its answer, or its refusal.
use Rattle.std.proofs.Common.{◌≡◌, ℕ, ◌+◌, Bool, true, [], ◌∷◌, None, Some, Result, Ok, Err, refl, sym, ap}
use Rattle.std.proofs.Common.{subst, ◌∙◌}
use Rattle.std.specs.Prelude.{IfErr, ◌||◌}
use Rattle.std.proofs.lemmas.Bool.{or_right}
use Rattle.jv_model.specs.declared.act.ActKind.TheVariants.{Answered, Quiet, Truncated, Copied}
use Rattle.jv_model.specs.declared.act.Told.TheVariants.{Fine, Refused as ToldRefused}
use Rattle.jv_model.specs.declared.fault.Fault.{Fault}
use Rattle.jv_model.specs.declared.fault.Fault.TheVariants.{NoSpace}
use Rattle.jv_model.specs.declared.op.Op.TheVariants as op
use Rattle.jv_model.specs.declared.op.Reply.{Reply}
use Rattle.jv_model.specs.declared.op.Reply.TheVariants as reply
use Rattle.jv_model.specs.declared.op.Step.TheVariants.{Done}
use Rattle.jv_model.specs.declared.profile.Does.TheVariants.{Truncates, Copies}
use Rattle.jv_model.specs.promise.tree.Tree.{Tree}
use Rattle.jv_model.specs.promise.tree.Caller.{Caller, Outcome, outcome}
use Rattle.jv_model.specs.promise.tree.TreeAct.{tree_act}
use Rattle.jv_model.specs.promise.tree.FileBytes.{truncate, truncated, copy, copied}
use Rattle.jv_model.specs.promise.client.ModelClient.{ModelClient, Doing, Working, Replying, inode_at}
use Rattle.jv_model.specs.promise.client.Profile.{handle_of}
use Rattle.jv_model.specs.promise.client.Submission.{is_flushed}
use Rattle.jv_model.specs.promise.journal.State.{State, after_told, caller, is_refused, refusal_in, transacted, without_views}
use Rattle.jv_model.specs.promise.journal.Steps.{Start, Decided, change_entry, is_crowded}
use Rattle.jv_model_steps.specs.IsStep.{IsStep, at_stage}
use Rattle.jv_model_steps.specs.Stages.{changes_files}
use Rattle.jv_model_steps.proofs.ReadyLaws.{ready-at, quiet-changes, quieted-changes}
use Rattle.jv_model_steps.proofs.StepFormLaws.{step-answered}
use Rattle.jv_model_steps.proofs.TreeChangeLaws.{IsCalm, copy-calm, copy-ok, truncate-calm, truncate-ok}
use Rattle.jv_model_steps.proofs.EntryLaws.{told-staged, leaves-truncated, leaves-copied, leaves-quiet}

module _ (start : Start) (alone : Bool) (s : State) (client now : ℕ) (d : Doing)
    (busy : (s.clients client).doing ≡ Some d)
    (started : ℕ) (at : d.stage ≡ Working 0 started)
    (flushed : is_flushed d.flush (s.clients client).pending ≡ true) where
  abbrev mine : ModelClient
  mine = s.clients client

  abbrev done_reply : Reply
  done_reply = (transacted s client now d.op).reply

  -- the transaction is the tree's
  pub transacted-truncate : (handle len : ℕ) → d.op ≡ op.Truncate handle len → (result : Result Outcome Fault)
      → truncate s.tree (caller mine client now d.op) len ≡ result
      → transacted s client now d.op ≡ outcome s.tree result
  transacted-truncate handle len of_op result e =
      ap (tree_act s.tree (caller mine client now d.op)) of_op ∙ ap (outcome s.tree) e

  pub transacted-copy : (source from target to len : ℕ) → d.op ≡ op.Copy source from target to len
      → (result : Result Outcome Fault)
      → copy s.tree (caller mine client now d.op) from to len ≡ result
      → transacted s client now d.op ≡ outcome s.tree result
  transacted-copy source from target to len of_op result e =
      ap (tree_act s.tree (caller mine client now d.op)) of_op ∙ ap (outcome s.tree) e

  -- the step in which the file of a handle is cut, or lengthened
  abbrev IsTruncated : (handle len : ℕ) → Tree → Type 0
  IsTruncated handle len t = IsStep start alone s client now (Truncated (inode_at mine handle) len ∷ Answered
      (Fine 0 0 0 0) ∷ [])
      (Done reply.Done) t (record (without_views (inode_at mine handle) mine) { doing = None }) s.copied

  -- the step in which bytes are copied
  abbrev IsCopied : (source from target to count : ℕ) → Tree → Type 0
  IsCopied source from target to count t = IsStep start alone s client now
      (Copied (inode_at mine source) from (inode_at mine target) to count ∷ Answered (Fine count 0 0 0) ∷ [])
      (Done (reply.Count count)) t (record (without_views (inode_at mine target) mine) { doing = None })
      (s.copied + count)

  -- the step in which either is refused
  abbrev IsRefused : Fault → Type 0
  IsRefused fault = IsStep start alone s client now (Quiet ∷ Answered (ToldRefused fault) ∷ [])
      (Done (reply.Refused fault)) s.tree (after_told d.op (ToldRefused fault) mine) s.copied

  -- a truncate that the tree doesn't refuse
  pub truncated-step : (handle len : ℕ) → d.op ≡ op.Truncate handle len → done_reply ≡ reply.Done
      → IsTruncated handle len (truncated s.tree now (inode_at mine handle) len)
  truncated-step handle len of_op fine =
      let inode = inode_at mine handle in
      let after = truncated s.tree now inode len in
      let rest = at_stage (Replying reply.Done) d (without_views inode mine) in
      subst (λ c. IsStep start alone s client now (Truncated inode len ∷ Answered (Fine 0 0 0 0) ∷ [])
      (Done reply.Done) after c s.copied)
      (ap (λ o. after_told o (Fine 0 0 0 0) rest) of_op)
      (step-answered s client now d busy start alone (Truncated inode len) refl
      (record {
        ready = ready-at s client now mine d started at flushed;
        same = ap (λ o. change_entry mine o done_reply) of_op ∙ ap (change_entry mine (op.Truncate handle len)) fine;
      })
      after rest s.copied (leaves-truncated s client now d busy inode len)
      (record d { stage = Replying reply.Done; moved = true }) (Fine 0 0 0 0) reply.Done refl refl refl refl
      (Decided reply.Done refl refl))

  -- a copy that it doesn't refuse
  pub copied-step : (source from target to len count : ℕ) → d.op ≡ op.Copy source from target to len
      → done_reply ≡ reply.Count count
      → IsCopied source from target to count
      (copied s.tree now (inode_at mine source) from (inode_at mine target) to count)
  copied-step source from target to len count of_op fine =
      let first = inode_at mine source in
      let second = inode_at mine target in
      let after = copied s.tree now first from second to count in
      let rest = at_stage (Replying (reply.Count count)) d (without_views second mine) in
      subst (λ c. IsStep start alone s client now
      (Copied first from second to count ∷ Answered (Fine count 0 0 0) ∷ []) (Done (reply.Count count))
      after c (s.copied + count))
      (ap (λ o. after_told o (Fine count 0 0 0) rest) of_op)
      (step-answered s client now d busy start alone (Copied first from second to count) refl
      (record {
        ready = ready-at s client now mine d started at flushed;
        same = ap (λ o. change_entry mine o done_reply) of_op
            ∙ ap (change_entry mine (op.Copy source from target to len)) fine;
      })
      after rest (s.copied + count) (leaves-copied s client now d busy first from second to count)
      (record d { stage = Replying (reply.Count count); moved = true }) (Fine count 0 0 0) (reply.Count count)
      refl refl refl refl (Decided (reply.Count count) refl refl))

  -- either one is refused, by the tree or since a stored number is near its end
  module _ (changes : changes_files d.does ≡ true) where
    refused-by : (fault : Fault) → IsCalm fault → refusal_in done_reply ≡ reply.Refused fault
        → (is_refused done_reply || is_crowded start s) ≡ true → IsRefused fault
    refused-by fault calm refusal refused =
        let told = ToldRefused fault in
        let refused_stage = Replying (reply.Refused fault) in
        let settling : Doing = record d { stage = refused_stage; moved = true } in
        subst (λ c. IsStep start alone s client now (Quiet ∷ Answered told ∷ []) (Done (reply.Refused fault)) s.tree
        c s.copied)
        (told-staged d.op told mine (Some settling))
        (step-answered s client now d busy start alone Quiet refl
        (quiet-changes s client now mine d started at flushed start d.does changes refl ∙ refused)
        s.tree (at_stage refused_stage d mine) s.copied
        (leaves-quiet s client now d busy refused_stage
        (quieted-changes s client now mine d started at flushed d.does changes refl ∙ ap Replying refusal))
        settling told (reply.Refused fault) refl refl calm refl (Decided (reply.Refused fault) refl refl))

    pub change-refused : (fault : Fault) → IsCalm fault → done_reply ≡ reply.Refused fault → IsRefused fault
    change-refused fault calm refused =
        refused-by fault calm (ap refusal_in refused) (ap (λ r. is_refused r || is_crowded start s) refused)

    pub change-crowded : is_crowded start s ≡ true → refusal_in done_reply ≡ reply.Refused NoSpace → IsRefused NoSpace
    change-crowded crowded refusal =
        refused-by NoSpace refl refusal (or_right (is_refused done_reply) (is_crowded start s) crowded)

  -- by the outcome of the tree's transaction
  abbrev who : Caller
  who = caller mine client now d.op

  module _ (handle len : ℕ) (of_op : d.op ≡ op.Truncate handle len) where
    reply-truncate : (result : Result Outcome Fault) → truncate s.tree who len ≡ result
        → done_reply ≡ (outcome s.tree result).reply
    reply-truncate result e = ap (λ (done : Outcome). done.reply) (transacted-truncate handle len of_op result e)

    pub truncate-made : (t : Tree) → truncate s.tree who len ≡ Ok (record { tree = t; reply = reply.Done })
        → IsTruncated handle len t
    truncate-made t e =
        let out : Outcome = record { tree = t; reply = reply.Done } in
        let same : t ≡ truncated s.tree now (inode_at mine handle) len =
        ap (λ (done : Outcome). done.tree) (truncate-ok s.tree who len out e)
        ∙ ap (λ o. truncated s.tree now (inode_at mine (handle_of o)) len) of_op in
        subst (IsTruncated handle len) (sym same) (truncated-step handle len of_op (reply-truncate (Ok out) e))

    pub truncate-refused : d.does ≡ Truncates → (fault : Fault) → truncate s.tree who len ≡ Err fault → IsRefused fault
    truncate-refused does fault e =
        change-refused (ap changes_files does) fault (truncate-calm s.tree who len fault e)
        (reply-truncate (Err fault) e)

  module _ (source from target to len : ℕ) (of_op : d.op ≡ op.Copy source from target to len) where
    reply-copy : (result : Result Outcome Fault) → copy s.tree who from to len ≡ result
        → done_reply ≡ (outcome s.tree result).reply
    reply-copy result e =
        ap (λ (done : Outcome). done.reply) (transacted-copy source from target to len of_op result e)

    pub copy-made : (t : Tree) (count : ℕ)
        → copy s.tree who from to len ≡ Ok (record { tree = t; reply = reply.Count count })
        → IsCopied source from target to count t
    copy-made t count e =
        let out : Outcome = record { tree = t; reply = reply.Count count } in
        let found = copy-ok s.tree who from to len out e in
        let counted : reply.Count count ≡ reply.Count found.0 = ap (λ (done : Outcome). done.reply) found.1 in
        let many : count ≡ found.0 = cc counted in
        let after_copy = λ (who : Caller) (count : ℕ). copied s.tree now who.inode from who.other to count in
        let same : t ≡ copied s.tree now (inode_at mine source) from (inode_at mine target) to count =
        ap (λ (done : Outcome). done.tree) found.1
        ∙ ap (λ o. after_copy (caller mine client now o) found.0) of_op
        ∙ ap (copied s.tree now (inode_at mine source) from (inode_at mine target) to) (sym many) in
        subst (IsCopied source from target to count) (sym same)
        (copied-step source from target to len count of_op (reply-copy (Ok out) e))

    pub copy-refused : d.does ≡ Copies → (fault : Fault) → copy s.tree who from to len ≡ Err fault → IsRefused fault
    copy-refused does fault e =
        change-refused (ap changes_files does) fault (copy-calm s.tree who from to len fault e)
        (reply-copy (Err fault) e)

    -- since slices can't be named more often, where the tree doesn't refuse it otherwise
    pub copy-crowded : d.does ≡ Copies → is_crowded start s ≡ true → (result : Result Outcome Fault)
        → copy s.tree who from to len ≡ result → IfErr result (λ fault. fault ≡ NoSpace) → IsRefused NoSpace
    copy-crowded does crowded (Ok out) e only =
        let found = copy-ok s.tree who from to len out e in
        change-crowded (ap changes_files does) crowded
        (ap refusal_in (reply-copy (Ok out) e ∙ ap (λ (done : Outcome). done.reply) found.1))
    copy-crowded does crowded (Err fault) e only =
        change-crowded (ap changes_files does) crowded
        (ap refusal_in (reply-copy (Err fault) e) ∙ ap reply.Refused only)
