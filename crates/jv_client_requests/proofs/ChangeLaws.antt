-- Truncates and copies, each one transaction on lists of slices: made, refused, or failed.
use Rattle.std.proofs.Common.{◌≡◌, ◌⊎◌, ℕ, ◌+◌, inl, inr, Bool, true, List, [], ◌∷◌, None, Some, Result, Ok, Err, sym}
use Rattle.std.proofs.Common.{refl, ap, subst, ◌∙◌, arith}
use Rattle.std.specs.Prelude.{nat_le}
use Rattle.std.proofs.lemmas.Bool.{le-leb, or_right}
use Rattle.jv_model.specs.declared.act.ActKind.TheVariants.{Answered, Copied, Quiet, Truncated}
use Rattle.jv_model.specs.declared.act.Told.TheVariants.{Fine, Refused as ToldRefused}
use Rattle.jv_model.specs.declared.fault.Down.{Down}
use Rattle.jv_model.specs.declared.fault.Fault.{Fault}
use Rattle.jv_model.specs.declared.fault.Fault.TheVariants.{NoSpace}
use Rattle.jv_model.specs.declared.fault.RowFault.TheVariants.{Bad}
use Rattle.jv_model.specs.declared.fault.TxFault.{TxFault}
use Rattle.jv_model.specs.declared.fault.TxFault.TheVariants.{Refused as RefusedBy, Moved, Rows as OfRows}
use Rattle.jv_model.specs.declared.limits.TheConstants.{FILE_END, FULL_COUNT}
use Rattle.jv_model.specs.declared.op.Op.TheVariants as op
use Rattle.jv_model.specs.declared.op.Reply.{Reply}
use Rattle.jv_model.specs.declared.op.Reply.TheVariants as reply
use Rattle.jv_model.specs.declared.op.Step.TheVariants.{Done}
use Rattle.jv_model.specs.declared.profile.Does.TheVariants.{Truncates, Copies}
use Rattle.jv_model.specs.declared.row.RowKey.{RowKey}
use Rattle.jv_model.specs.declared.setting.Setting.{Setting}
use Rattle.jv_model.specs.declared.slice.Rec.{Rec}
use Rattle.jv_model.specs.rows.RowFaults.{row_fault}
use Rattle.jv_model.specs.promise.rows.RowKeys.{RowMap}
use Rattle.jv_model.specs.promise.tree.Tree.{Tree}
use Rattle.jv_model.specs.promise.tree.Caller.{Caller, Outcome, outcome}
use Rattle.jv_model.specs.promise.tree.FileBytes.{copy, truncate}
use Rattle.jv_model.specs.promise.client.ModelClient.{ModelClient, Doing, Working, inode_at}
use Rattle.jv_model.specs.promise.client.Submission.{is_flushed}
use Rattle.jv_model.specs.promise.journal.State.{State, after_told, caller, without_views}
use Rattle.jv_model.specs.promise.journal.Steps.{Start, is_crowded}
use Rattle.jv_outside.specs.promise.Store.{Store}
use Rattle.jv_volume.specs.promise.TypedRows.{Rows, typed}
use Rattle.jv_volume_bytes.specs.promise.Bytes.{tree_with}
use Rattle.jv_volume_bytes.specs.promise.Counts.{record_count}
use Rattle.jv_data.specs.Changing.{AnyBytes, Changes, IsCrowded, IsFull, LandsChanged, Makes, Never}
use Rattle.jv_client_shared.specs.Keeping.{HoldsSame}
use Rattle.jv_client_shared.specs.promise.Shared.{HasStore, Known, Shared}
use Rattle.jv_client_shared.specs.Shared.{rows_in, typed_in}
use Rattle.jv_client_shared.proofs.SameLaws.{same-rows}
use Rattle.jv_model_steps.specs.IsStep.{IsStep}
use Rattle.jv_model_steps.proofs.ChangeStepLaws.{truncate-made, truncate-refused, copy-made, copy-refused, copy-crowded}
use Rattle.jv_model_steps.proofs.RefusalStepLaws.{goes-working}
use Rattle.jv_model_steps.proofs.TreeChangeLaws.{IsCalm, copy-calm, truncate-calm}
use Rattle.jv_client_requests.specs.Request.{IsWithin, Request}
use Rattle.jv_client_requests.proofs.LandedLaws.{acted-stays, landed-request, known_in}
use Rattle.jv_client_requests.proofs.StillLaws.{fault_of_rows, rows-failed, still-request, still-within}

-- ---- the outcome of a change, by the tree of the rows

module _ {A : Type 0} (makes : Makes) (crowded : Rows → Type 0) (t : Tree) (g : Known) (v : Shared)
    (has : HasStore t g v)
    (keeper : Store) (reply : A → Reply) (act : Tree → Result Outcome Fault) where
  lands-in : (result : Result A TxFault) → Changes {A = A} makes AnyBytes crowded v.keeper keeper result reply act
      → LandsChanged {A = A} makes crowded has.rows keeper.rows (known_in t g v has) reply act result
  lands-in result changes = changes.lands has.rows has.rows_are has.whole (known_in t g v has) tt

  -- a change that wasn't made leaves the rows
  pub change-still : (fault : TxFault) → Changes {A = A} makes AnyBytes crowded v.keeper keeper (Err fault) reply act
      → HoldsSame v (record v { keeper = keeper })
  change-still fault changes = same-rows v keeper v.carrier changes.undone

  -- it meets no malformed row, and no list that has moved
  pub change-never_bad : (at : RowKey) (bytes : List ℕ)
      → Changes {A = A} makes AnyBytes crowded v.keeper keeper (Err (OfRows (Bad at bytes))) reply act → ⊥
  change-never_bad at bytes changes = lands-in (Err (OfRows (Bad at bytes))) changes

  pub change-never_moved : (list : List Rec)
      → Changes {A = A} makes AnyBytes crowded v.keeper keeper (Err (Moved list)) reply act → ⊥
  change-never_moved list changes = lands-in (Err (Moved list)) changes

-- ---- in a client's step

module _ (s : State) (client now : ℕ) (d : Doing) (busy : (s.clients client).doing ≡ Some d)
    (started : ℕ) (at : d.stage ≡ Working 0 started) (flushed : is_flushed d.flush (s.clients client).pending ≡ true)
    (g : Known) (v : Shared) (has : HasStore s.tree g v) (flying : ℕ) (keeper : Store) (due : Setting → ℕ) where
  abbrev mine : ModelClient
  mine = s.clients client

  abbrev who : Caller
  who = caller mine client now d.op

  abbrev changed : Shared
  changed = record v { keeper = keeper }

  -- the tree of rows that are left
  abbrev left_tree : RowMap → Tree
  left_tree left = tree_with (known_in s.tree g v has) (typed left)

  -- a change is refused
  abbrev IsRefused : Fault → Type 0
  IsRefused fault = Request s g g v changed client now flying flying (Quiet ∷ Answered (ToldRefused fault) ∷ [])
      (Done (reply.Refused fault)) s.tree (after_told d.op (ToldRefused fault) mine) s.copied

  -- the keeper failed, or memory ran out
  abbrev IsFailed : Down → Type 0
  IsFailed down = Request s g g v changed client now flying flying (Answered (ToldRefused (fault_of_rows down)) ∷ [])
      (Done (reply.Refused (fault_of_rows down))) s.tree (record mine { doing = None }) s.copied

  fails : keeper.rows ≡ v.keeper.rows → (down : Down) → IsFailed down
  fails rows down = rows-failed s g v changed has (same-rows v keeper v.carrier rows) client now flying d busy
      (goes-working d 0 started at) down

  -- ---- truncates

  module _ (handle len : ℕ) (of_op : d.op ≡ op.Truncate handle len) where
    abbrev pub Truncates_to : Result (Unit {0}) TxFault → Type 0
    Truncates_to result = Changes {A = Unit {0}} (record { own = 0; size = 0; more = 1; due = due }) AnyBytes Never
        v.keeper keeper result (λ unit. reply.Done) (λ t. truncate t who len)

    abbrev IsTruncated : Tree → Type 0
    IsTruncated t = Request s g g v changed client now flying flying
        (Truncated (inode_at mine handle) len ∷ Answered (Fine 0 0 0 0) ∷ []) (Done reply.Done) t
        (record (without_views (inode_at mine handle) mine) { doing = None }) s.copied

    pub truncate-request : Truncates_to (Ok tt) → (t : Tree) × IsTruncated t
    truncate-request changes =
        let landed = lands-in (record { own = 0; size = 0; more = 1; due = due }) Never s.tree g v has keeper
        (λ unit. reply.Done) (λ t. truncate t who len) (Ok tt) changes in
        let model : truncate s.tree who len ≡ Ok (record { tree = left_tree landed.left; reply = reply.Done }) =
        ap (λ (t : Tree). truncate t who len) has.tree ∙ landed.model in (
          left_tree landed.left,
          landed-request s g v has client now flying keeper landed.left landed.is landed.whole 1 landed.others landed.dropped
              (acted-stays s.tree g v has who (op.Truncate handle len)
              (record { tree = left_tree landed.left; reply = reply.Done })
              (ap (outcome s.tree) model))
              (Truncated (inode_at mine handle) len ∷ Answered (Fine 0 0 0 0) ∷ []) (Done reply.Done)
              (record (without_views (inode_at mine handle) mine) { doing = None }) s.copied (omega arith)
              (λ start alone. truncate-made start alone s client now d busy started at flushed handle len of_op
              (left_tree landed.left) model),
        )

    pub truncate-not_made : d.does ≡ Truncates → (fault : Fault) → Truncates_to (Err (RefusedBy fault))
        → IsRefused fault
    truncate-not_made does fault changes =
        still-request s g v changed has (same-rows v keeper v.carrier changes.undone) client now flying
        (Quiet ∷ Answered (ToldRefused fault) ∷ []) (Done (reply.Refused fault))
        (after_told d.op (ToldRefused fault) mine)
        (λ start alone. truncate-refused start alone s client now d busy started at flushed handle len of_op does
        fault (refusal (lands-in (record { own = 0; size = 0; more = 1; due = due }) Never s.tree g v has keeper
        (λ unit. reply.Done) (λ t. truncate t who len) (Err (RefusedBy fault)) changes)))
      where
        refusal : (truncate (tree_with (known_in s.tree g v has) (typed has.rows)) who len ≡ Err fault)
            ⊎ IsFull Never (typed has.rows) fault
            (truncate (tree_with (known_in s.tree g v has) (typed has.rows)) who len)
            → truncate s.tree who len ≡ Err fault
        refusal (inl e) = ap (λ (t : Tree). truncate t who len) has.tree ∙ e
        refusal (inr full) = absurd full.full

    -- and that is no failure
    pub truncate-not_made_calm : (fault : Fault) → Truncates_to (Err (RefusedBy fault)) → IsCalm fault
    truncate-not_made_calm fault changes = by_cause (lands-in (record { own = 0; size = 0; more = 1; due = due }) Never
        s.tree g v has keeper (λ unit. reply.Done) (λ t. truncate t who len) (Err (RefusedBy fault)) changes)
      where
        rows_tree : Tree
        rows_tree = tree_with (known_in s.tree g v has) (typed has.rows)

        by_cause : (truncate rows_tree who len ≡ Err fault)
            ⊎ IsFull Never (typed has.rows) fault (truncate rows_tree who len) → IsCalm fault
        by_cause (inl e) = truncate-calm rows_tree who len fault e
        by_cause (inr full) = absurd full.full

    pub truncate-failed : (down : Down) → Truncates_to (Err (OfRows (row_fault down))) → IsFailed down
    truncate-failed down changes = fails changes.undone down

  -- ---- copies

  module _ (source from target to len : ℕ) (of_op : d.op ≡ op.Copy source from target to len) where
    abbrev pub Copies_to : ℕ → Result ℕ TxFault → Type 0
    Copies_to more result = Changes {A = ℕ} (record { own = 0; size = 0; more = more; due = due }) AnyBytes
        (IsCrowded FILE_END)
        v.keeper keeper result (λ n. reply.Count n) (λ t. copy t who from to len)

    abbrev IsCopied : ℕ → Tree → Type 0
    IsCopied count t = Request s g g v changed client now flying flying
        (Copied (inode_at mine source) from (inode_at mine target) to count ∷ Answered (Fine count 0 0 0) ∷ [])
        (Done (reply.Count count)) t (record (without_views (inode_at mine target) mine) { doing = None })
        (s.copied + count)

    pub copy-request : (count : ℕ) → Copies_to count (Ok count) → (t : Tree) × IsCopied count t
    copy-request count changes =
        let landed = lands-in (record { own = 0; size = 0; more = count; due = due }) (IsCrowded FILE_END) s.tree g v
        has keeper (λ n. reply.Count n) (λ t. copy t who from to len) (Ok count) changes in
        let model : copy s.tree who from to len ≡ Ok
        (record { tree = left_tree landed.left; reply = reply.Count count }) =
        ap (λ (t : Tree). copy t who from to len) has.tree ∙ landed.model in (
          left_tree landed.left,
          landed-request s g v has client now flying keeper landed.left landed.is landed.whole count landed.others landed.dropped
              (acted-stays s.tree g v has who (op.Copy source from target to len)
              (record { tree = left_tree landed.left; reply = reply.Count count }) (ap (outcome s.tree) model))
              (Copied (inode_at mine source) from (inode_at mine target) to count ∷ Answered (Fine count 0 0 0) ∷ [])
              (Done (reply.Count count)) (record (without_views (inode_at mine target) mine) { doing = None })
              (s.copied + count) (omega arith)
              (λ start alone. copy-made start alone s client now d busy started at flushed source from target to len
              of_op (left_tree landed.left) count model),
        )

    -- rows with about as many records as there may be are crowded to the model
    crowds : (start : Start) → IsWithin start s (rows_in v) → IsCrowded FILE_END (typed has.rows)
        → is_crowded start s ≡ true
    crowds start within full =
        let records = within.records in
        let was = ap record_count (ap typed_in has.rows_are) in
        or_right (nat_le FULL_COUNT (start.next_slice + s.count))
        (nat_le FULL_COUNT (start.records + s.count + FILE_END + s.copied))
        (le-leb FULL_COUNT (start.records + s.count + FILE_END + s.copied) (omega (arith, records, was, full)))

    pub copy-not_made : d.does ≡ Copies → (more : ℕ) (fault : Fault) → Copies_to more (Err (RefusedBy fault))
        → IsRefused fault
    copy-not_made does more fault changes =
        by_cause (lands-in (record { own = 0; size = 0; more = more; due = due }) (IsCrowded FILE_END) s.tree g v has
        keeper (λ n. reply.Count n) (λ t. copy t who from to len) (Err (RefusedBy fault)) changes)
      where
        same : HoldsSame v changed
        same = same-rows v keeper v.carrier changes.undone

        rows_tree : Tree
        rows_tree = tree_with (known_in s.tree g v has) (typed has.rows)

        refused : (fault : Fault) → ((start : Start) (alone : Bool) → IsWithin start s (rows_in v)
            → IsStep start alone s client now (Quiet ∷ Answered (ToldRefused fault) ∷ []) (Done (reply.Refused fault))
            s.tree (after_told d.op (ToldRefused fault) mine) s.copied) → IsRefused fault
        refused fault = still-within s g v changed has same client now flying
            (Quiet ∷ Answered (ToldRefused fault) ∷ [])
            (Done (reply.Refused fault)) (after_told d.op (ToldRefused fault) mine)

        by_cause : (copy rows_tree who from to len ≡ Err fault)
            ⊎ IsFull (IsCrowded FILE_END) (typed has.rows) fault (copy rows_tree who from to len) → IsRefused fault
        by_cause (inl e) = refused fault (λ start alone within.
            copy-refused start alone s client now d busy started at flushed source from target to len of_op does fault
            (ap (λ (t : Tree). copy t who from to len) has.tree ∙ e))
        by_cause (inr full) = subst IsRefused (sym full.fault_is) (refused NoSpace (λ start alone within.
            copy-crowded start alone s client now d busy started at flushed source from target to len of_op does
            (crowds start within full.full) (copy rows_tree who from to len)
            (ap (λ (t : Tree). copy t who from to len) has.tree) full.otherwise))

    -- and that is no failure
    pub copy-not_made_calm : (more : ℕ) (fault : Fault) → Copies_to more (Err (RefusedBy fault)) → IsCalm fault
    copy-not_made_calm more fault changes = by_cause (lands-in (record { own = 0; size = 0; more = more; due = due })
        (IsCrowded FILE_END) s.tree g v has keeper (λ n. reply.Count n) (λ t. copy t who from to len)
        (Err (RefusedBy fault)) changes)
      where
        rows_tree : Tree
        rows_tree = tree_with (known_in s.tree g v has) (typed has.rows)

        by_cause : (copy rows_tree who from to len ≡ Err fault)
            ⊎ IsFull (IsCrowded FILE_END) (typed has.rows) fault (copy rows_tree who from to len) → IsCalm fault
        by_cause (inl e) = copy-calm rows_tree who from to len fault e
        by_cause (inr full) = subst IsCalm (sym full.fault_is) refl

    pub copy-failed : (more : ℕ) (down : Down) → Copies_to more (Err (OfRows (row_fault down))) → IsFailed down
    copy-failed more down changes = fails changes.undone down
