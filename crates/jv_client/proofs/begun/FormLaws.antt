-- What is known of an operation in progress: what its form says of it, and how far it is.
use Rattle.std.proofs.Common.{◌≡◌, ℕ, zero, suc, ◌<◌, true, false, not, List, Option, None, Some}
use Rattle.std.proofs.Common.{refl, sym, ap, subst, ◌∙◌, arith}
use Rattle.std.specs.Prelude.{◌||◌, is_some, IfSome, IsTrue}
use Rattle.std.proofs.lemmas.Bool.{false_from_ne_true, not-true, or_from}
use Rattle.jv_model.specs.declared.op.Op.{Op}
use Rattle.jv_model.specs.declared.op.Op.TheVariants as op
use Rattle.jv_model.specs.declared.profile.Does.{Does}
use Rattle.jv_model.specs.declared.profile.Does.TheVariants as does
use Rattle.jv_model.specs.promise.client.Pending.{PendingByte}
use Rattle.jv_model.specs.promise.client.ModelClient.{file_of}
use Rattle.jv_model.specs.promise.client.Profile.{handle_of}
use Rattle.jv_model.specs.promise.client.Submission.{is_flushed}
use Rattle.jv_model.specs.client.OpForms.{is_transaction}
use Rattle.jv_client_handles.specs.declared.handle.Handle.{Handle}
use Rattle.jv_client.specs.declared.doing.Doing.{Doing}
use Rattle.jv_client.specs.declared.doing.Flush.{Flush}
use Rattle.jv_client.specs.declared.doing.Flush.TheVariants as flush
use Rattle.jv_client.specs.declared.doing.Progress.{Progress}
use Rattle.jv_client.specs.declared.doing.Progress.TheVariants.{Working, Reading}
use Rattle.jv_client.specs.ClientValue.{ClientValue}
use Rattle.jv_client.specs.Held.{flush_of_code, is_last_here}
use Rattle.jv_client.specs.UnderWay.{ClosesOpen, Closes, Copies, Describes, Flushes, FlushesFor, IsAt, IsForm, IsReady}
use Rattle.jv_client.specs.UnderWay.{IsUnderWay, IsWorking, Leaves, Mounts, Reads, ReadsNothing, Syncs, SaysStats}
use Rattle.jv_client.specs.UnderWay.{Transacts, Truncates, Writes, asks_more, does_of, ends_itself, has_more, has_segment}
use Rattle.jv_client.specs.UnderWay.{left, left_of}

-- ---- the operation in progress

pub that_does : (o : Option Doing) (does : Does) → does_of o ≡ Some does → (d : Doing) × (o ≡ Some d) × (d.does ≡ does)
that_does None does e = absurd (cc e)
that_does (Some d) does e = (d, refl, cc e)

-- it is under way
pub under_way : (h : ClientValue) (d : Doing) → h.doing ≡ Some d → IsReady h → IsUnderWay h d
under_way h d busy ready = subst (λ (o : Option Doing). IfSome o (IsUnderWay h)) busy ready.doing

-- it has no segment to commit
pub none_left : (h : ClientValue) (d : Doing) → h.doing ≡ Some d → left h ≡ None → has_segment h d ≡ false
none_left h d busy flushed = ap is_some (sym (ap (left_of h.pending) busy) ∙ flushed)

pub no_segment : (h : ClientValue) (d : Doing) → d.flush ≡ flush.Nothing → has_segment h d ≡ false
no_segment h d first = ap (λ (first : Flush). has_segment h (record d { flush = first })) first

-- an operation that has a segment to commit is a mounted client's, and so is a reading
module _ (h : ClientValue) (d : Doing) where
  by_form : IsForm h d → (d.flush ≡ flush.Nothing → d.does ≡ does.Mounts false → ⊥) → IsTrue (is_some h.session)
  by_form (Mounts of_op of_does none) unlike = absurd (unlike none of_does)
  by_form (Transacts plain spelled of_does none mounted) unlike = mounted
  by_form (Leaves of_op of_does all mounted) unlike = mounted
  by_form (Writes handle offset bytes file of_op of_does opened short room mounted) unlike = mounted
  by_form (Flushes handle file for first opened mounted) unlike = mounted
  by_form (Copies source from target to len file other of_op of_does first opened opened_to mounted) unlike = mounted
  by_form (SaysStats of_op of_does none mounted) unlike = mounted

  pub segment-mounted : IsForm h d → has_segment h d ≡ true → IsTrue (is_some h.session)
  segment-mounted form some = by_form form (λ none of_does. cc (sym some ∙ no_segment h d none))

  pub reading-mounted : (offset len : ℕ) → d.does ≡ does.Reads offset len → IsForm h d → IsTrue (is_some h.session)
  reading-mounted offset len reads form = by_form form (λ none of_does. cc (sym of_does ∙ reads))

-- so the model has all committed that it flushes
pub flushed-same : (h : ClientValue) (d : Doing) (pending : List PendingByte) → has_segment h d ≡ false
    → pending ≡ h.pending → is_flushed (flush_of_code d.flush) pending ≡ true
flushed-same h d pending none same = ap (is_flushed (flush_of_code d.flush)) same ∙ ap not none

-- ---- an operation that has nothing to ask for

-- once it has flushed
pub ends-asks : (h : ClientValue) (d : Doing) → ends_itself h d ≡ true → asks_more h d ≡ false
ends-asks h d ends = by_does d.does ends
  where
    by_does : (does : Does) → ends_itself h (record d { does = does }) ≡ true
        → asks_more h (record d { does = does }) ≡ false
    by_does (does.Answers told) ends = refl
    by_does (does.Mounts writeback) ends = absurd (cc ends)
    by_does does.Transacts ends = absurd (cc ends)
    by_does does.Releases ends = not-true (is_last_here h (handle_of d.op)) ends
    by_does (does.Reads offset len) ends = absurd (cc ends)
    by_does does.Truncates ends = absurd (cc ends)
    by_does does.Copies ends = absurd (cc ends)
    by_does (does.Compacts given) ends = absurd (cc ends)
    by_does does.Cleans ends = absurd (cc ends)
    by_does (does.Collects delete) ends = absurd (cc ends)
    by_does does.Uploads ends = absurd (cc ends)

pub no_quiets : (h : ClientValue) (d : Doing) (quiets id : ℕ) → IsWorking h d quiets id → has_segment h d ≡ false
    → quiets ≡ 0
no_quiets h d zero id at none = refl
no_quiets h d (suc quiets) id at none =
    absurd (let some : 0 < suc quiets = omega arith in let segment = at.segment some in cc (sym segment ∙ none))

-- it made no request
pub record NothingAsked (d : Doing) : Type 0 where
  pub started : ℕ
  pub id : ℕ
  pub progress : d.progress ≡ Working 0 started id
  pub first : d.has_moved ≡ false

module _ (h : ClientValue) (d : Doing) (under : IsUnderWay h d) (none : has_segment h d ≡ false)
    (ends : ends_itself h d ≡ true) where
  at_first : (p : Progress) → IsAt h d p → (started : ℕ) × (id : ℕ) × (p ≡ Working 0 started id)
  at_first (Working quiets started id) at =
      (started, id, ap (λ n. Working n started id) (no_quiets h d quiets id at none))
  at_first (Reading fetch next) at =
      let reads = at.read in
      absurd (cc (sym ends ∙ ap (λ does. ends_itself h (record d { does = does })) reads.2))

  pub nothing_asked : NothingAsked d
  nothing_asked =
      let at = at_first d.progress under.at in
      record {
        started = at.0;
        id = at.1;
        progress = at.2;
        first = false_from_ne_true d.has_moved (λ moved.
            let asks = under.asks moved in
            let more : (has_segment h d || asks_more h d) ≡ true =
            sym (ap (has_more h d) at.2) ∙ asks in
            absurd (cc (sym more ∙ or_from _ _ none (ends-asks h d ends))));
      }

-- ---- a handle that is closed is open

closes-none : (o : Op) (handles : List (Option Handle)) → is_transaction o ≡ true → ClosesOpen o handles
closes-none (op.Close handle) handles e = absurd (cc e)
closes-none _ handles e = tt

module _ (h : ClientValue) (d : Doing) where
  open-as : (o : Op) → d.op ≡ o → ClosesOpen o h.handles → ClosesOpen d.op h.handles
  open-as o of_op closes = subst (λ (o : Op). ClosesOpen o h.handles) (sym of_op) closes

  flushed-open : (handle : ℕ) (file : Handle) → file_of h.handles handle ≡ Some file → FlushesFor d handle
      → ClosesOpen d.op h.handles
  flushed-open handle file opened (Closes of_op of_does) = open-as (op.Close handle) of_op (ap is_some opened)
  flushed-open handle file opened (Syncs of_op of_does) = open-as (op.Flush handle) of_op tt
  flushed-open handle file opened (Describes of_op of_does) = open-as (op.Fstat handle) of_op tt
  flushed-open handle file opened (ReadsNothing offset len of_op of_does) =
      open-as (op.Read handle offset len) of_op tt
  flushed-open handle file opened (Reads offset len of_op of_does some few low) =
      open-as (op.Read handle offset len) of_op tt
  flushed-open handle file opened (Truncates len of_op of_does) = open-as (op.Truncate handle len) of_op tt

  pub closes-open : IsForm h d → ClosesOpen d.op h.handles
  closes-open (Mounts of_op of_does first) = open-as (op.Mount false) of_op tt
  closes-open (Transacts one spelled of_does first session) = closes-none d.op h.handles one
  closes-open (Leaves of_op of_does first session) = open-as op.Umount of_op tt
  closes-open (Writes handle offset bytes file of_op of_does opened short room session) =
      open-as (op.Write handle offset bytes) of_op tt
  closes-open (Flushes handle file for first opened session) = flushed-open handle file opened for
  closes-open (Copies source from target to len file other of_op of_does first opened there session) =
      open-as (op.Copy source from target to len) of_op tt
  closes-open (SaysStats of_op of_does first session) = open-as op.Stats of_op tt

pub ready-closes : (h : ClientValue) (d : Doing) → h.doing ≡ Some d → IsReady h → ClosesOpen d.op h.handles
ready-closes h d busy ready = closes-open h d (under_way h d busy ready).form
