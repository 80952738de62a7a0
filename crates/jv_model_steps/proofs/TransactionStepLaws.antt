-- Steps that are one metadata transaction with its answer.
use Rattle.std.proofs.Common.{◌≡◌, ℕ, ◌+◌, Bool, true, false, List, [], ◌∷◌, ◌++◌, Some, refl, sym, ap, subst}
use Rattle.std.proofs.Common.{◌∙◌}
use Rattle.std.specs.Prelude.{◌&&◌, filter, not, if◌then◌else◌}
use Rattle.std.proofs.Math.Bool.{and-not_self}
use Rattle.jv_model.specs.declared.act.ActKind.{ActKind}
use Rattle.jv_model.specs.declared.act.ActKind.TheVariants.{Answered, Meta}
use Rattle.jv_model.specs.declared.act.Told.{Told}
use Rattle.jv_model.specs.declared.act.Told.TheVariants.{Refused as ToldRefused}
use Rattle.jv_model.specs.declared.fault.Fault.{Fault}
use Rattle.jv_model.specs.declared.op.Reply.TheVariants as reply
use Rattle.jv_model.specs.declared.op.Step.TheVariants.{Done}
use Rattle.jv_model.specs.declared.profile.Does.TheVariants as does
use Rattle.jv_model.specs.promise.tree.Tree.{Tree, is_sustained}
use Rattle.jv_model.specs.promise.tree.Caller.{Outcome}
use Rattle.jv_model.specs.promise.client.ModelClient.{ModelClient, Doing, Stage, Working, Replying, with_stage, held_inodes}
use Rattle.jv_model.specs.promise.client.ModelClient.{session_of}
use Rattle.jv_model.specs.promise.client.Submission.{is_flushed}
use Rattle.jv_model.specs.promise.journal.State.{State, Gift, NewSession, NewHandle, Nothing, after_told, after_transaction}
use Rattle.jv_model.specs.promise.journal.State.{gift_of, newly_sustained, transacted, with_client}
use Rattle.jv_model.specs.promise.journal.Steps.{Start, MayStep, Decided, Transaction, entry_of_gift, is_failure, told_of}
use Rattle.jv_model.specs.promise.journal.Steps.{transacts}
use Rattle.jv_model.specs.journal.Stepping.{is_answer}
use Rattle.jv_model.proofs.ClientsLaws.{doing_given}
use Rattle.jv_model_steps.specs.Stages.{handed}
use Rattle.jv_model_steps.specs.IsStep.{IsStep, at_stage}
use Rattle.jv_model_steps.specs.Leaves.{Leaves}
use Rattle.jv_model_steps.proofs.EntryLaws.{told-staged}
use Rattle.jv_model_steps.proofs.ReadyLaws.{ready-at}
use Rattle.jv_model_steps.proofs.StepFormLaws.{leaves-one, requested, step-answered, with_stage-doing}

-- ---- operations that make a transaction

-- ---- files that the client removed while it had them open

none_passes : (test : ℕ → Bool) → ((x : ℕ) → test x ≡ false) → (xs : List ℕ) → filter test xs ≡ []
none_passes test none [] = refl
none_passes test none (x ∷ xs) = ap (λ b. if b then x ∷ filter test xs else filter test xs) (none x)
    ∙ none_passes test none xs

-- none where the tree stays
pub sustains-none : (t : Tree) (c : ModelClient) → newly_sustained t t c ≡ []
sustains-none t c = none_passes (λ inode. is_sustained t (session_of c) inode && not
    (is_sustained t (session_of c) inode))
    (λ inode. and-not_self (is_sustained t (session_of c) inode)) (held_inodes c.handles)

-- ---- the entry

module _ (s : State) (client now : ℕ) (d : Doing) (busy : (s.clients client).doing ≡ Some d) where
  requested-by_gift : (gift : Gift) → requested s client now d busy (entry_of_gift gift)
      ≡ record (after_transaction s client now d) { count = s.count + 1 }
  requested-by_gift (NewSession sid) = refl
  requested-by_gift (NewHandle handle inode) = refl
  requested-by_gift Nothing = refl

  may-by_gift : (start : Start) (alone : Bool) (c : ModelClient) (gift : Gift)
      → Transaction s client now c d (entry_of_gift gift)
      → MayStep start alone s client now c d (entry_of_gift gift)
  may-by_gift start alone c (NewSession sid) h = h
  may-by_gift start alone c (NewHandle handle inode) h = h
  may-by_gift start alone c Nothing h = h

pub asks-by_gift : (gift : Gift) → is_answer (entry_of_gift gift) ≡ false
asks-by_gift (NewSession sid) = refl
asks-by_gift (NewHandle handle inode) = refl
asks-by_gift Nothing = refl

-- ---- the step

module _ (start : Start) (alone : Bool) (s : State) (client now : ℕ) (d : Doing)
    (busy : (s.clients client).doing ≡ Some d)
    (started : ℕ) (at : d.stage ≡ Working 0 started) (flushed : is_flushed d.flush (s.clients client).pending ≡ true)
    (makes : transacts (s.clients client) d ≡ true) where
  abbrev mine : ModelClient
  mine = s.clients client

  module _ (out : Outcome) (does : transacted s client now d.op ≡ out)
      (calm : is_failure (told_of out.reply) ≡ false) where
    abbrev kind : ActKind
    kind = entry_of_gift (gift_of out.reply)

    abbrev told : Told
    told = told_of out.reply

    abbrev settling : Stage
    settling = Replying out.reply

    leaves-transaction : Leaves s (requested s client now d busy kind) client 1 out.tree
        (at_stage settling d (handed s d out mine)) s.copied
    leaves-transaction =
        let was = doing_given (s.count + 1) d.does (gift_of out.reply)
        (record mine { sustained = newly_sustained s.tree out.tree mine ++ mine.sustained }) in
        subst (λ u. Leaves s u client 1 out.tree (at_stage settling d (handed s d out mine)) s.copied)
        (sym (requested-by_gift s client now d busy (gift_of out.reply)))
        (leaves-one s (after_transaction s client now d) client out.tree
        (at_stage settling d (handed s d out mine)) s.copied
        (ap (λ (done : Outcome). done.tree) does)
        (ap (with_client s.clients client)
        (ap (λ (done : Outcome). with_stage (Replying done.reply) (handed s d done mine)) does
        ∙ with_stage-doing settling (handed s d out mine) d (was ∙ busy)))
        refl)

    -- one that the tree answers, whatever the answer is
    pub transaction-step : IsStep start alone s client now (kind ∷ Answered told ∷ []) (Done out.reply) out.tree
        (after_told d.op told (handed s d out mine)) s.copied
    transaction-step =
        let after : Doing = record d { stage = settling; moved = true } in
        let may : Transaction s client now mine d kind = record {
          ready = ready-at s client now mine d started at flushed;
          transacts = makes;
          same = ap (λ (done : Outcome). entry_of_gift (gift_of done.reply)) (sym does);
        } in
        subst (λ c. IsStep start alone s client now (kind ∷ Answered told ∷ []) (Done out.reply) out.tree c s.copied)
        (told-staged d.op told (handed s d out mine) (Some after))
        (step-answered s client now d busy start alone kind (asks-by_gift (gift_of out.reply))
        (may-by_gift s client now d busy start alone mine (gift_of out.reply) may) out.tree
        (at_stage settling d (handed s d out mine)) s.copied leaves-transaction after told out.reply
        refl refl calm refl (Decided out.reply refl refl))

  -- one that the tree refuses
  module _ (fault : Fault) where
    abbrev IsRefused : ModelClient → Type 0
    IsRefused c = IsStep start alone s client now (Meta ∷ Answered (ToldRefused fault) ∷ [])
        (Done (reply.Refused fault)) s.tree (after_told d.op (ToldRefused fault) c) s.copied

    pub transaction-refused : transacted s client now d.op ≡ record { tree = s.tree; reply = reply.Refused fault }
        → is_failure (ToldRefused fault) ≡ false → IsRefused mine
    transaction-refused does calm =
        subst (λ gone. IsRefused (record mine { sustained = gone ++ mine.sustained })) (sustains-none s.tree mine)
        (transaction-step (record { tree = s.tree; reply = reply.Refused fault }) does calm)
