-- Transactions on metadata: made and answered, refused, or failed.
use Rattle.std.proofs.Common.{◌≡◌, ℕ, true, false, ◌&&◌, not, List, [], ◌∷◌, Option, None, Some, Result, Ok, Err}
use Rattle.std.proofs.Common.{refl, sym, ap, subst, ◌∙◌, arith}
use Rattle.jv_model.specs.declared.act.ActKind.TheVariants.{Answered, Meta}
use Rattle.jv_model.specs.declared.act.Told.TheVariants.{Refused as ToldRefused}
use Rattle.jv_model.specs.declared.fault.Down.{Down}
use Rattle.jv_model.specs.declared.fault.Fault.{Fault}
use Rattle.jv_model.specs.declared.fault.Fault.TheVariants.{DeviceFailed, NoMemory}
use Rattle.jv_model.specs.declared.fault.RowFault.TheVariants.{Bad}
use Rattle.jv_model.specs.declared.fault.TxFault.{TxFault}
use Rattle.jv_model.specs.declared.fault.TxFault.TheVariants.{Refused as RefusedBy, Moved, Rows as OfRows}
use Rattle.jv_model.specs.declared.op.Op.{Op}
use Rattle.jv_model.specs.declared.op.Reply.{Reply}
use Rattle.jv_model.specs.declared.op.Reply.TheVariants as reply
use Rattle.jv_model.specs.declared.op.Step.TheVariants.{Done}
use Rattle.jv_model.specs.declared.row.RowKey.{RowKey}
use Rattle.jv_model.specs.declared.slice.Rec.{Rec}
use Rattle.jv_model.specs.rows.RowFaults.{row_fault}
use Rattle.jv_model.specs.promise.tree.Tree.{Tree, is_sustained}
use Rattle.jv_model.specs.promise.tree.Caller.{Caller, Outcome, outcome}
use Rattle.jv_model.specs.promise.tree.TreeAct.{tree_act}
use Rattle.jv_model.specs.promise.client.ModelClient.{ModelClient, Doing, Working}
use Rattle.jv_model.specs.promise.client.Submission.{is_flushed}
use Rattle.jv_model.specs.promise.journal.State.{State, after_told, caller, gift_of, transacted}
use Rattle.jv_model.specs.promise.journal.Steps.{entry_of_gift, is_failure, told_of, transacts, is_device_or_memory}
use Rattle.jv_outside.specs.promise.Store.{Store}
use Rattle.jv_rows.specs.Transactions.{Lands, Transacts}
use Rattle.jv_volume.specs.promise.TypedRows.{typed}
use Rattle.jv_volume.specs.promise.TreeOf.{tree_of}
use Rattle.jv_volume.proofs.operations.ReplyLaws.{no_device_or_memory}
use Rattle.jv_volume_bytes.specs.promise.Bytes.{bytes_of, tree_with}
use Rattle.jv_volume_bytes.proofs.KeepLaws.{bytes-stay, keeps-quiet}
use Rattle.jv_links.specs.Removals.{HoldsFiles, is_inode}
use Rattle.jv_client_metadata.specs.Attempts.{KeepsOne}
use Rattle.jv_model.specs.promise.tree.TreeAct.{attempt}
use Rattle.jv_client_shared.specs.Keeping.{HoldsSame}
use Rattle.jv_client_shared.specs.promise.Shared.{HasStore, Known, Shared}
use Rattle.jv_client_shared.proofs.SameLaws.{same-rows}
use Rattle.jv_model_steps.specs.Stages.{handed}
use Rattle.jv_model_steps.proofs.TransactionStepLaws.{transaction-step, transaction-refused}
use Rattle.jv_model_steps.proofs.RefusalStepLaws.{goes-working}
use Rattle.jv_client_requests.specs.Request.{Request}
use Rattle.jv_client_requests.proofs.LandedLaws.{acted-stays, landed-request, known_in}
use Rattle.jv_client_requests.proofs.StillLaws.{fault_of_rows, rows-failed, still-request}

-- ---- the tree answers no failure

failure-same : (fault : Fault) → is_failure (ToldRefused fault) ≡ is_device_or_memory fault
failure-same NoMemory = refl
failure-same (DeviceFailed device) = refl
failure-same _ = refl

pub replies-calm : (t : Tree) (who : Caller) (o : Op) (answer : Reply) → (tree_act t who o).reply ≡ answer
    → is_failure (told_of answer) ≡ false
replies-calm t who o (reply.Refused fault) e = failure-same fault ∙ no_device_or_memory t who o fault e
replies-calm t who o (reply.Uploaded None) e = refl
replies-calm t who o (reply.Uploaded (Some block)) e = refl
replies-calm t who o _ e = refl

-- ---- the outcome of a transaction, by the tree of the rows

module _ {A : Type 0} (t : Tree) (g : Known) (v : Shared) (has : HasStore t g v) (keeper : Store)
    (ready : Tree → Type 0) (says : A → Reply) (act : Tree → Result Outcome Fault) where
  -- the bytes of files before it
  abbrev bytes : ℕ → ℕ → ℕ
  bytes = bytes_of (known_in t g v has) (typed has.rows)

  lands-in : ready t → (result : Result A TxFault) → Transacts {A = A} ready v.keeper keeper result says act
      → Lands {A = A} has.rows keeper.rows bytes says act result
  lands-in is result tx = tx.lands has.rows has.rows_are has.whole bytes (subst ready has.tree is)

  -- a transaction that wasn't made leaves the rows
  pub transaction-still : (fault : TxFault) → Transacts {A = A} ready v.keeper keeper (Err fault) says act
      → HoldsSame v (record v { keeper = keeper })
  transaction-still fault tx = same-rows v keeper v.carrier tx.undone

  -- it meets no malformed row, and no list that has moved
  pub transaction-never_bad : ready t → (at : RowKey) (bad : List ℕ)
      → Transacts {A = A} ready v.keeper keeper (Err (OfRows (Bad at bad))) says act → ⊥
  transaction-never_bad is at bad tx = lands-in is (Err (OfRows (Bad at bad))) tx

  pub transaction-never_moved : ready t → (list : List Rec)
      → Transacts {A = A} ready v.keeper keeper (Err (Moved list)) says act → ⊥
  transaction-never_moved is list tx = lands-in is (Err (Moved list)) tx

-- ---- in a client's step

module _ (s : State) (client now : ℕ) (d : Doing) (busy : (s.clients client).doing ≡ Some d)
    (started : ℕ) (at : d.stage ≡ Working 0 started) (flushed : is_flushed d.flush (s.clients client).pending ≡ true)
    (makes : transacts (s.clients client) d ≡ true)
    (g : Known) (v : Shared) (has : HasStore s.tree g v) (flying : ℕ) (keeper : Store) where
  abbrev mine : ModelClient
  mine = s.clients client

  abbrev who : Caller
  who = caller mine client now d.op

  abbrev made : Shared
  made = record v { keeper = keeper }

  -- the transaction of the operation
  abbrev act : Tree → Result Outcome Fault
  act t = attempt t who d.op

  acted : (result : Result Outcome Fault) → act (tree_with (known_in s.tree g v has) (typed has.rows)) ≡ result
      → transacted s client now d.op ≡ outcome s.tree result
  acted result e = ap (outcome s.tree) (ap act has.tree ∙ e)

  -- what is made of the model's transaction
  abbrev IsMade : Outcome → Type 0
  IsMade out = Request s g g v made client now flying flying
      (entry_of_gift (gift_of out.reply) ∷ Answered (told_of out.reply) ∷ []) (Done out.reply) out.tree
      (after_told d.op (told_of out.reply) (handed s d out mine)) s.copied

  module _ {A : Type 0} (ready : Tree → Type 0) (is_ready : ready s.tree) (says : A → Reply) where
    -- it was made
    pub transaction-request : (x : A) → Transacts {A = A} ready v.keeper keeper (Ok x) says act
        → (t : Tree) × (transacted s client now d.op ≡ record { tree = t; reply = says x })
        × IsMade (record { tree = t; reply = says x })
    transaction-request x tx =
        let landed = lands-in s.tree g v has keeper ready says act is_ready (Ok x) tx in
        let known_bytes = known_in s.tree g v has in
        let after : Tree = tree_with known_bytes (typed landed.left) in
        let out : Outcome = record { tree = after; reply = says x } in
        let same : tree_of (bytes_of known_bytes (typed has.rows)) (typed landed.left) ≡ after =
        sym (ap (λ (bytes : ℕ → ℕ → ℕ). tree_of bytes (typed landed.left))
        (λ i inode p. bytes-stay (typed has.rows) (typed landed.left) landed.quiet.apart known_bytes inode p i)) in
        let does : transacted s client now d.op ≡ out =
        acted (Ok (record { tree = tree_of (bytes_of known_bytes (typed has.rows)) (typed landed.left); reply = says x }))
        landed.model
        ∙ ap (λ (t : Tree). record { tree = t; reply = says x }) same in (
          after,
          does,
          landed-request s g v has client now flying keeper landed.left landed.is landed.whole 0
              (keeps-quiet (typed has.rows) (typed landed.left) landed.quiet) landed.quiet.dropped
              (acted-stays s.tree g v has who d.op out does)
              (entry_of_gift (gift_of out.reply) ∷ Answered (told_of out.reply) ∷ []) (Done out.reply)
              (after_told d.op (told_of out.reply) (handed s d out mine)) s.copied (omega arith)
              (λ start alone. transaction-step start alone s client now d busy started at flushed makes out does
              (replies-calm s.tree who d.op (says x) (ap (λ (done : Outcome). done.reply) does))),
        )

    -- it is refused
    pub transaction-not_made : (fault : Fault)
        → Transacts {A = A} ready v.keeper keeper (Err (RefusedBy fault)) says act
        → Request s g g v made client now flying flying (Meta ∷ Answered (ToldRefused fault) ∷ [])
        (Done (reply.Refused fault)) s.tree (after_told d.op (ToldRefused fault) mine) s.copied
    transaction-not_made fault tx =
        let does : transacted s client now d.op ≡ record { tree = s.tree; reply = reply.Refused fault } =
        acted (Err fault) (lands-in s.tree g v has keeper ready says act is_ready (Err (RefusedBy fault)) tx) in
        still-request s g v made has (same-rows v keeper v.carrier tx.undone) client now flying
        (Meta ∷ Answered (ToldRefused fault) ∷ []) (Done (reply.Refused fault))
        (after_told d.op (ToldRefused fault) mine)
        (λ start alone. transaction-refused start alone s client now d busy started at flushed makes fault does
        (replies-calm s.tree who d.op (reply.Refused fault) (ap (λ (done : Outcome). done.reply) does)))

    -- which is no failure
    pub transaction-not_made_calm : (fault : Fault)
        → Transacts {A = A} ready v.keeper keeper (Err (RefusedBy fault)) says act
        → is_failure (ToldRefused fault) ≡ false
    transaction-not_made_calm fault tx =
        replies-calm s.tree who d.op (reply.Refused fault) (ap (λ (done : Outcome). done.reply)
        (acted (Err fault) (lands-in s.tree g v has keeper ready says act is_ready (Err (RefusedBy fault)) tx)))

    -- the keeper failed, or memory ran out
    pub transaction-failed : (down : Down)
        → Transacts {A = A} ready v.keeper keeper (Err (OfRows (row_fault down))) says act
        → Request s g g v made client now flying flying (Answered (ToldRefused (fault_of_rows down)) ∷ [])
        (Done (reply.Refused (fault_of_rows down))) s.tree (record mine { doing = None }) s.copied
    transaction-failed down tx =
        rows-failed s g v made has (same-rows v keeper v.carrier tx.undone) client now flying d busy
        (goes-working d 0 started at) down

  -- the file that the session keeps from then on is the one that is answered
  pub keeps-told : HoldsFiles who.held s.tree → (kept : Option ℕ) → KeepsOne who d.op v.keeper kept → (inode : ℕ)
      → (is_sustained (transacted s client now d.op).tree who.sid inode && not (is_sustained s.tree who.sid inode))
      ≡ is_inode kept inode
  keeps-told holds kept keeps inode =
      let rows_tree = tree_with (known_in s.tree g v has) (typed has.rows) in
      let told = keeps has.rows has.rows_are has.whole (bytes_of (known_in s.tree g v has) (typed has.rows))
      (subst (HoldsFiles who.held) has.tree holds) inode in
      ap (λ (t : Tree). is_sustained (outcome t (attempt t who d.op)).tree who.sid inode && not
      (is_sustained t who.sid inode)) has.tree
      ∙ told
