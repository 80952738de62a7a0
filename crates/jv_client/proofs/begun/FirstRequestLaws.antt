-- An operation that has flushed, and makes its first request after that: it is a transaction on metadata, or it changes a file.
use Rattle.std.proofs.Common.{◌≡◌, ℕ, true, false, not, IsTrue, length, None, Some}
use Rattle.std.proofs.Common.{refl, sym, ap, subst, ◌∙◌, rules}
use Rattle.std.specs.Prelude.{is_some, if◌then◌else◌}
use Rattle.jv_model.specs.declared.op.Op.{Op}
use Rattle.jv_model.specs.declared.op.Op.TheVariants as op
use Rattle.jv_model.specs.declared.op.Reply.TheVariants as reply
use Rattle.jv_model.specs.declared.profile.Answer.TheVariants as answer
use Rattle.jv_model.specs.declared.profile.Does.{Does}
use Rattle.jv_model.specs.declared.profile.Does.TheVariants as does
use Rattle.jv_model.specs.promise.script.Spelled.{is_spelled}
use Rattle.jv_model.specs.promise.client.ModelClient.{ModelClient, Doing as ModelDoing, Working, file_of}
use Rattle.jv_model.specs.promise.client.ModelClient.{is_last_of_removed}
use Rattle.jv_model.specs.promise.client.Profile.{handle_of}
use Rattle.jv_model.specs.promise.client.Submission.{is_flushed}
use Rattle.jv_model.specs.promise.journal.Steps.{transacts}
use Rattle.jv_model.specs.client.OpForms.{is_tried, is_metadata, is_transaction}
use Rattle.jv_model_steps.proofs.GiftLaws.{IsDirect}
use Rattle.jv_client_shared.specs.promise.Shared.{Known, Shared}
use Rattle.jv_client_handles.specs.declared.handle.Handle.{Handle}
use Rattle.jv_client.specs.declared.doing.Doing.{Doing}
use Rattle.jv_client.specs.declared.doing.Progress.{Progress}
use Rattle.jv_client.specs.declared.doing.Progress.TheVariants as progress
use Rattle.jv_client.specs.ClientValue.{ClientValue}
use Rattle.jv_client.specs.Held.{IsClient, flush_of_code, is_last_here, stage_of}
use Rattle.jv_model_steps.specs.Stages.{changes_files}
use Rattle.jv_client.specs.UnderWay.{FlushesFor, Closes, Syncs, Describes, ReadsNothing, Reads, Truncates, IsForm}
use Rattle.jv_client.specs.UnderWay.{Mounts, Transacts, Leaves, Writes, Flushes, Copies, SaysStats, IsAt}
use Rattle.jv_client.specs.UnderWay.{IsReady, asks_more, has_segment, left}
use Rattle.jv_client.specs.UnderWay.{left_of, makes_transaction}
use Rattle.jv_client.proofs.begun.FormLaws.{no_quiets, under_way}

-- ---- it made no request yet

-- nothing is left to commit, and nothing was asked for since
pub record IsFirst (h : ClientValue) (d : Doing) : Type 0 where
  pub none : has_segment h d ≡ false
  pub started : ℕ
  pub id : ℕ
  pub progress : d.progress ≡ progress.Working 0 started id

module _ (h : ClientValue) (d : Doing) where
  -- an operation that doesn't read is at its first request once it has flushed
  first_at : ((offset len : ℕ) → d.does ≡ does.Reads offset len → ⊥) → has_segment h d ≡ false → (p : Progress)
      → d.progress ≡ p → IsAt h d p → IsFirst h d
  first_at other none (progress.Working quiets started id) is at = record {
    none = none;
    started = started;
    id = id;
    progress = is ∙ ap (λ n. progress.Working n started id) (no_quiets h d quiets id at none);
  }
  first_at other none (progress.Reading fetch next) is at =
      let read = at.read in absurd (other read.0 read.1 read.2)

  none_left : h.doing ≡ Some d → left h ≡ None → has_segment h d ≡ false
  none_left busy flushed = ap is_some (sym (ap (left_of h.pending) busy) ∙ flushed)

  first_by : ((offset len : ℕ) → d.does ≡ does.Reads offset len → ⊥) → h.doing ≡ Some d → IsReady h → left h ≡ None
      → IsFirst h d
  first_by other busy ready flushed =
      first_at other (none_left busy flushed) d.progress refl (under_way h d busy ready).at

  pub transaction-first : IsTrue (makes_transaction d.does) → h.doing ≡ Some d → IsReady h → left h ≡ None
      → IsFirst h d
  transaction-first makes =
      first_by (λ offset len reads. absurd (cc (sym makes ∙ ap makes_transaction reads)))

  pub change-first : IsTrue (changes_files d.does) → h.doing ≡ Some d → IsReady h → left h ≡ None → IsFirst h d
  change-first changes = first_by (λ offset len reads. absurd (cc (sym changes ∙ ap changes_files reads)))

  -- what follows
  module _ (first : IsFirst h d) where
    pub first-stage : stage_of d.progress ≡ Working 0 first.started
    first-stage = ap stage_of first.progress

    -- the model's client has nothing left to commit either
    pub model-flushed : (g : Known) (v : Shared) (m : ModelClient) (count : ℕ) → IsClient g v m count h
        → is_flushed (flush_of_code d.flush) m.pending ≡ true
    model-flushed g v m count is = ap (is_flushed (flush_of_code d.flush)) is.held.pending ∙ ap not first.none

-- ---- operations that make a transaction on metadata

-- a mount that isn't in writeback mode, or an operation on metadata
pub data MakesOne (d : Doing) : Type 0 where
  OfMount : d.op ≡ op.Mount false → MakesOne d
  OfMetadata : IsTrue (is_metadata d.op) → IsTrue (is_spelled d.op) → MakesOne d

transaction-metadata : (o : Op) → is_transaction o ≡ true → is_metadata o ≡ true
transaction-metadata (op.Close handle) e = absurd (cc e)
transaction-metadata _ e = e

module _ (d : Doing) (makes : IsTrue (makes_transaction d.does)) where
  not_of : (what : Does) → d.does ≡ what → makes_transaction what ≡ false → ⊥
  not_of what is none = absurd (cc (sym makes ∙ ap makes_transaction is ∙ none))

  abbrev IsOne : Type 0
  IsOne = MakesOne d × IsDirect d.does

  metadata : (what : Op) → d.op ≡ what → is_metadata what ≡ true → is_spelled what ≡ true → IsDirect d.does → IsOne
  metadata what is of_rows spelled direct =
      (OfMetadata (ap is_metadata is ∙ of_rows) (ap is_spelled is ∙ spelled), direct)

  one_for : (handle : ℕ) → FlushesFor d handle → IsOne
  one_for handle (Closes o e) = metadata (op.Close handle) o refl refl (subst IsDirect (sym e) tt)
  one_for handle (Syncs o e) = absurd (not_of (does.Answers answer.Done) e refl)
  one_for handle (Describes o e) = metadata (op.Fstat handle) o refl refl (subst IsDirect (sym e) tt)
  one_for handle (ReadsNothing offset len o e) = absurd (not_of (does.Answers answer.NoData) e refl)
  one_for handle (Reads offset len o e some short low) = absurd (not_of (does.Reads offset len) e refl)
  one_for handle (Truncates len o e) = absurd (not_of does.Truncates e refl)

  one_by : (h : ClientValue) → IsForm h d → IsOne
  one_by h (Mounts o e first) = (OfMount o, subst IsDirect (sym e) refl)
  one_by h (Transacts o spelled e first session) =
      (OfMetadata (transaction-metadata d.op o) spelled, subst IsDirect (sym e) tt)
  one_by h (Leaves o e first session) = metadata op.Umount o refl refl (subst IsDirect (sym e) tt)
  one_by h (Writes handle offset bytes file o e opened short room session) =
      absurd (not_of (does.Answers (answer.Count (length bytes))) e refl)
  one_by h (Flushes handle file for first opened session) = one_for handle for
  one_by h (Copies source from target to len file other o e first opened there session) =
      absurd (not_of does.Copies e refl)
  one_by h (SaysStats o e first session) = absurd (not_of (does.Answers answer.CacheStats) e refl)

  pub makes-one : (h : ClientValue) → h.doing ≡ Some d → IsReady h → MakesOne d × IsDirect d.does
  makes-one h busy ready = one_by h (under_way h d busy ready).form

-- it may be tried
tried-metadata : (o : Op) → is_metadata o ≡ true → is_spelled o ≡ true → is_tried o ≡ true
tried-metadata (op.Mount writeback) is spelled = refl
tried-metadata o is spelled = search rules

pub one-tried : (d : Doing) → MakesOne d → IsTrue (is_tried d.op)
one-tried d (OfMount o) = ap is_tried o
one-tried d (OfMetadata is spelled) = tried-metadata d.op is spelled

-- the model has it make one, too
pub one-transacts : (c : ModelClient) (m : ModelDoing) (h : ClientValue) (d : Doing) → m.does ≡ d.does → m.op ≡ d.op
    → is_last_of_removed c (handle_of d.op) ≡ is_last_here h (handle_of d.op)
    → IsTrue (makes_transaction d.does) → IsTrue (asks_more h d) → transacts c m ≡ true
one-transacts c m h d does_is op_is same makes asks =
    ap (λ what. transacts c (record m { does = what })) does_is
    ∙ ap (λ o. transacts c (record m { does = d.does; op = o })) op_is ∙ by_does d.does makes asks
  where
    by_does : (what : Does) → makes_transaction what ≡ true → asks_more h (record d { does = what }) ≡ true
        → transacts c (record m { does = what; op = d.op }) ≡ true
    by_does (does.Mounts writeback) e asks = refl
    by_does does.Transacts e asks = refl
    by_does does.Releases e asks = ap (λ b. not (is_some (if b then None else Some reply.Done))) (same ∙ asks)
    by_does _ e asks = absurd (cc)

-- ---- operations that change a file

-- a truncate or a copy, each with its files
pub data ChangesOne (h : ClientValue) (d : Doing) : Type 0 where
  OfTruncate : (handle len : ℕ) (file : Handle) → d.op ≡ op.Truncate handle len → d.does ≡ does.Truncates
      → file_of h.handles handle ≡ Some file → ChangesOne h d
  OfCopy : (source from target to len : ℕ) (file other : Handle) → d.op ≡ op.Copy source from target to len
      → d.does ≡ does.Copies → file_of h.handles source ≡ Some file → file_of h.handles target ≡ Some other
      → ChangesOne h d

module _ (h : ClientValue) (d : Doing) (changes : IsTrue (changes_files d.does)) where
  changes_not : (what : Does) → d.does ≡ what → changes_files what ≡ false → ⊥
  changes_not what is none = absurd (cc (sym changes ∙ ap changes_files is ∙ none))

  change_for : (handle : ℕ) (file : Handle) → file_of h.handles handle ≡ Some file → FlushesFor d handle
      → ChangesOne h d
  change_for handle file opened (Closes o e) = absurd (changes_not does.Releases e refl)
  change_for handle file opened (Syncs o e) = absurd (changes_not (does.Answers answer.Done) e refl)
  change_for handle file opened (Describes o e) = absurd (changes_not does.Transacts e refl)
  change_for handle file opened (ReadsNothing offset len o e) =
      absurd (changes_not (does.Answers answer.NoData) e refl)
  change_for handle file opened (Reads offset len o e some short low) =
      absurd (changes_not (does.Reads offset len) e refl)
  change_for handle file opened (Truncates len o e) = OfTruncate handle len file o e opened

  change_by : IsForm h d → ChangesOne h d
  change_by (Mounts o e first) = absurd (changes_not (does.Mounts false) e refl)
  change_by (Transacts o spelled e first session) = absurd (changes_not does.Transacts e refl)
  change_by (Leaves o e first session) = absurd (changes_not does.Transacts e refl)
  change_by (Writes handle offset bytes file o e opened short room session) =
      absurd (changes_not (does.Answers (answer.Count (length bytes))) e refl)
  change_by (Flushes handle file for first opened session) = change_for handle file opened for
  change_by (Copies source from target to len file other o e first opened there session) =
      OfCopy source from target to len file other o e opened there
  change_by (SaysStats o e first session) = absurd (changes_not (does.Answers answer.CacheStats) e refl)

  pub changes-one : h.doing ≡ Some d → IsReady h → ChangesOne h d
  changes-one busy ready = change_by (under_way h d busy ready).form
