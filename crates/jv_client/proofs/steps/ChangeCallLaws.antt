-- A truncate or a copy, as it was tried, is a step: made, or not.
use Rattle.std.proofs.Common.{◌≡◌, ℕ, IsTrue, [], Option, None, Some, Result, Ok, Err, refl, sym, ap, subst, ◌∙◌}
use Rattle.std.specs.Prelude.{IfSome, is_some}
use Rattle.jv_model.specs.declared.act.ActKind.TheVariants.{Quiet}
use Rattle.jv_model.specs.declared.act.Told.{Told}
use Rattle.jv_model.specs.declared.act.Told.TheVariants.{Fine}
use Rattle.jv_model.specs.declared.basics.Who.{Who}
use Rattle.jv_model.specs.declared.fault.TxFault.{TxFault}
use Rattle.jv_model.specs.declared.limits.TheConstants.{FILE_END}
use Rattle.jv_model.specs.declared.op.Op.{Op}
use Rattle.jv_model.specs.declared.op.Op.TheVariants as op
use Rattle.jv_model.specs.declared.op.Reply.TheVariants as reply
use Rattle.jv_model.specs.declared.profile.Does.TheVariants as does
use Rattle.jv_model.specs.promise.tree.FileBytes.{copy, truncate}
use Rattle.jv_model.specs.promise.journal.Steps.{told_of}
use Rattle.jv_model.specs.client.OpForms.{changes_bytes}
use Rattle.jv_model.specs.tree.Trash.{due_after}
use Rattle.jv_outside.specs.promise.Store.{Store}
use Rattle.jv_data.specs.Changing.{AnyBytes, Changes, IsCrowded, Never, count_in}
use Rattle.jv_client_shared.specs.promise.Shared.{Shared}
use Rattle.jv_client_handles.specs.Handles.{inode_here}
use Rattle.jv_client_handles.proofs.TableLaws.{the_some}
use Rattle.jv_client.specs.declared.changes.Changed.{Changed}
use Rattle.jv_client.specs.declared.doing.Doing.{Doing}
use Rattle.jv_client.specs.declared.made.Made.{Made}
use Rattle.jv_client.specs.declared.made.Made.TheVariants.{Both}
use Rattle.jv_client.specs.ClientValue.{ClientValue, session_here}
use Rattle.jv_client.specs.Changing.{TriesChange, TriesCopy, TriesTruncate, copied_to, cut_to}
use Rattle.jv_client.specs.Ending.{ended, told_here}
use Rattle.jv_model_steps.specs.Stages.{changes_files}
use Rattle.jv_client.specs.UnderWay.{ClosesOpen, IsReady, left}
use Rattle.jv_client.specs.Makes.{Makes}
use Rattle.jv_client.specs.Transacting.{EndsUnmade}
use Rattle.jv_client.proofs.steps.AnswerLaws.{makes-as}
use Rattle.jv_client.proofs.steps.ClosingLaws.{closes-unseen}
use Rattle.jv_client.proofs.begun.FirstRequestLaws.{ChangesOne, OfCopy, OfTruncate, changes-one}
use Rattle.jv_client.proofs.begun.FormLaws.{ready-closes}
use Rattle.jv_client.proofs.steps.FileChangeLaws.{blind, copied-makes, copy-unmade, truncate-unmade, truncated-makes}
use Rattle.jv_model.specs.Optional.{mapped}

-- ---- a result that is another one's with its value changed

mapped-ok : {A B : Type 0} (f : A → B) (made : Result A TxFault) (y : B) → ◌≡◌ {A = Result B TxFault} (Ok y) (mapped f made)
    → (x : A) × (made ≡ Ok x) × (y ≡ f x)
mapped-ok f (Ok x) y e = (x, refl, cc e)
mapped-ok f (Err fault) y e = absurd (cc e)

mapped-err : {A B : Type 0} (f : A → B) (made : Result A TxFault) (fault : TxFault)
    → ◌≡◌ {A = Result B TxFault} (Err fault) (mapped f made) → made ≡ Err fault
mapped-err f (Ok x) fault e = absurd (cc e)
mapped-err {A} f (Err other) fault e =
    let same : other ≡ fault = cc e in ap (λ (fault : TxFault). let result : Result A TxFault = Err fault in result) same

-- ---- what is needed before it

-- it may be tried
pub may-try : (h : ClientValue) (d : Doing) → h.doing ≡ Some d → IsReady h → IsTrue (changes_files d.does)
    → IsTrue (changes_bytes d.op)
may-try h d busy ready changes = by_form (changes-one h d changes busy ready)
  where
    by_form : ChangesOne h d → IsTrue (changes_bytes d.op)
    by_form (OfTruncate handle len file of_op of_does opened) = ap changes_bytes of_op
    by_form (OfCopy source from target to len file other of_op of_does opened there) = ap changes_bytes of_op

-- the handle of a close is open once views of a file are dropped
pub closes-blind : (h : ClientValue) (inode : ℕ) → IsTrue (is_some h.doing) → IsReady h
    → IfSome (blind inode h).doing (λ (d : Doing). ClosesOpen d.op (blind inode h).handles)
closes-blind h inode busy ready =
    let doing = the_some h.doing busy in
    let d = doing.0 in
    subst (λ (o : Option Doing). IfSome o (λ (d : Doing). ClosesOpen d.op (blind inode h).handles)) (sym doing.1)
    (closes-unseen d.op inode h.handles (ready-closes h d doing.1 ready))

-- ---- the steps

module _ (now entry : ℕ) (h : ClientValue) (d : Doing) (busy : h.doing ≡ Some d) (ready : IsReady h)
    (flushed : left h ≡ None) (changes : IsTrue (changes_files d.does)) (v : Shared) (keeper : Store) where
  abbrev used : Shared
  used = record v { keeper = keeper }

  -- in whose name it runs
  abbrev pub asks_as : Who
  asks_as = record { sid = session_here h; held = []; now = now }

  -- the client and the answer of a change that was made
  module _ (changed : Changed) (after : ClientValue) (told : Told)
      (after_is : after ≡ told_here d.op told (blind changed.inode h)) (told_is : told ≡ told_of changed.reply) where
    named : (o : Op) → d.op ≡ o → (is : Changed) → changed ≡ is
        → after ≡ told_here o (told_of is.reply) (blind is.inode h)
    named o of_op is same =
        after_is ∙ ap (λ t. told_here d.op t (blind changed.inode h)) told_is
        ∙ ap (λ o. told_here o (told_of changed.reply) (blind changed.inode h)) of_op
        ∙ ap (λ (c : Changed). told_here o (told_of c.reply) (blind c.inode h)) same

    answered : (is : Changed) → changed ≡ is
        → Both changed.kind told changed.reply ≡ Both is.kind (told_of is.reply) is.reply
    answered is same =
        ap (λ t. Both changed.kind t changed.reply) told_is
        ∙ ap (λ (c : Changed). Both c.kind (told_of c.reply) c.reply) same

    made-truncate : (handle len : ℕ) → d.op ≡ op.Truncate handle len
        → TriesTruncate (inode_here h.handles handle) len asks_as v.keeper keeper (Ok changed)
        → Makes now entry h after v used (Both changed.kind told changed.reply)
    made-truncate handle len of_op tried =
        let inode = inode_here h.handles handle in
        let came = mapped-ok (λ (unit : Unit {0}). cut_to inode len) tried.made changed tried.result_is in
        makes-as now entry h after (ended (blind inode h)) v used used (Both changed.kind told changed.reply)
        (Both (cut_to inode len).kind (Fine 0 0 0 0) reply.Done)
        (named (op.Truncate handle len) of_op (cut_to inode len) came.2) refl (answered (cut_to inode len) came.2)
        (truncated-makes now h d busy ready flushed changes v keeper entry handle len of_op
        (λ caller for own. subst (λ (made : Result (Unit {0}) TxFault). Changes {A = Unit {0}}
        (record { own = 0; size = 0; more = 1; due = due_after now }) AnyBytes Never v.keeper keeper made
        (λ unit. reply.Done) (λ t. truncate t caller len)) came.1 (tried.changes caller for own)))

    made-copy : (source from target to len : ℕ) → d.op ≡ op.Copy source from target to len
        → TriesCopy (inode_here h.handles source) from (inode_here h.handles target) to len asks_as v.keeper keeper
        (Ok changed)
        → Makes now entry h after v used (Both changed.kind told changed.reply)
    made-copy source from target to len of_op tried =
        let first_inode = inode_here h.handles source in
        let inode = inode_here h.handles target in
        let came = mapped-ok (copied_to first_inode from inode to) tried.made changed tried.result_is in
        let copied = copied_to first_inode from inode to came.0 in
        makes-as now entry h after (ended (blind inode h)) v used used (Both changed.kind told changed.reply)
        (Both copied.kind (Fine came.0 0 0 0) (reply.Count came.0))
        (named (op.Copy source from target to len) of_op copied came.2) refl (answered copied came.2)
        (copied-makes now h d busy ready flushed changes v keeper entry source from target to len of_op came.0
        (λ caller for own other. subst (λ (made : Result ℕ TxFault). Changes {A = ℕ}
        (record { own = 0; size = 0; more = count_in made; due = due_after now }) AnyBytes (IsCrowded FILE_END) v.keeper
        keeper made (λ n. reply.Count n) (λ t. copy t caller from to len)) came.1 (tried.changes caller for own other)))

    pub change-made : TriesChange h.handles d.op asks_as v.keeper keeper (Ok changed)
        → Makes now entry h after v used (Both changed.kind told changed.reply)
    change-made tried = by_form (changes-one h d changes busy ready)
      where
        by_form : ChangesOne h d → Makes now entry h after v used (Both changed.kind told changed.reply)
        by_form (OfTruncate handle len file of_op of_does opened) = made-truncate handle len of_op
            (subst (λ o. TriesChange h.handles o asks_as v.keeper keeper (Ok changed)) of_op tried)
        by_form (OfCopy source from target to len file other of_op of_does opened there) =
            made-copy source from target to len of_op
            (subst (λ o. TriesChange h.handles o asks_as v.keeper keeper (Ok changed)) of_op tried)

  -- it wasn't made
  pub change-unmade : (fault : TxFault) (after : ClientValue) (done : Made)
      → TriesChange h.handles d.op asks_as v.keeper keeper (Err fault) → EndsUnmade Quiet fault h after done
      → Makes now entry h after v used done
  change-unmade fault after done tried ends = by_form (changes-one h d changes busy ready)
    where
      by_truncate : (handle len : ℕ) → d.op ≡ op.Truncate handle len → d.does ≡ does.Truncates
          → TriesTruncate (inode_here h.handles handle) len asks_as v.keeper keeper (Err fault)
          → Makes now entry h after v used done
      by_truncate handle len of_op of_does tried =
          let none = mapped-err (λ (unit : Unit {0}). cut_to (inode_here h.handles handle) len) tried.made fault
          tried.result_is in
          truncate-unmade now h d busy ready flushed changes v keeper entry after done handle len of_op of_does fault
          (λ caller for own. subst (λ (made : Result (Unit {0}) TxFault). Changes {A = Unit {0}}
          (record { own = 0; size = 0; more = 1; due = due_after now }) AnyBytes Never v.keeper keeper made
          (λ unit. reply.Done) (λ t. truncate t caller len)) none (tried.changes caller for own)) ends

      by_copy : (source from target to len : ℕ) → d.op ≡ op.Copy source from target to len → d.does ≡ does.Copies
          → TriesCopy (inode_here h.handles source) from (inode_here h.handles target) to len asks_as v.keeper keeper
          (Err fault)
          → Makes now entry h after v used done
      by_copy source from target to len of_op of_does tried =
          let none = mapped-err (copied_to (inode_here h.handles source) from (inode_here h.handles target) to)
          tried.made fault tried.result_is in
          copy-unmade now h d busy ready flushed changes v keeper entry after done source from target to len of_op
          of_does fault
          (λ caller for own other. subst (λ (made : Result ℕ TxFault). Changes {A = ℕ}
          (record { own = 0; size = 0; more = count_in made; due = due_after now }) AnyBytes (IsCrowded FILE_END) v.keeper
          keeper made (λ n. reply.Count n) (λ t. copy t caller from to len)) none (tried.changes caller for own other))
          ends

      by_form : ChangesOne h d → Makes now entry h after v used done
      by_form (OfTruncate handle len file of_op of_does opened) = by_truncate handle len of_op of_does
          (subst (λ o. TriesChange h.handles o asks_as v.keeper keeper (Err fault)) of_op tried)
      by_form (OfCopy source from target to len file other of_op of_does opened there) =
          by_copy source from target to len of_op of_does
          (subst (λ o. TriesChange h.handles o asks_as v.keeper keeper (Err fault)) of_op tried)
