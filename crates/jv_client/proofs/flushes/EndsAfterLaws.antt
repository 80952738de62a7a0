-- The answer of an operation after its flush is the model's.
use Rattle.std.proofs.Common.{◌≡◌, ℕ, ◌≤◌, true, false, List, [], ◌∷◌, length, None, Some, refl}
use Rattle.std.proofs.Common.{sym, ap, subst, ◌∙◌, arith}
use Rattle.std.specs.Prelude.{if◌then◌else◌, is_some}
use Rattle.std.proofs.lemmas.Bool.{not-false, not-true}
use Rattle.jv_model.specs.declared.op.Op.{Op}
use Rattle.jv_model.specs.declared.op.Op.TheVariants as op
use Rattle.jv_model.specs.declared.op.Reply.TheVariants as reply
use Rattle.jv_model.specs.declared.profile.Answer.TheVariants as answer
use Rattle.jv_model.specs.declared.profile.Does.{Does}
use Rattle.jv_model.specs.declared.profile.Does.TheVariants as does
use Rattle.jv_model.specs.promise.client.Pending.{PendingByte, Segment, first_segment}
use Rattle.jv_model.specs.promise.client.Profile.{handle_of}
use Rattle.jv_model.specs.promise.client.ModelClient.{ModelClient, file_of, is_last_of_removed}
use Rattle.jv_model.specs.promise.journal.State.{answer_then}
use Rattle.jv_model.specs.promise.journal.Steps.{told_of}
use Rattle.jv_model.specs.client.OpForms.{is_write, is_transaction}
use Rattle.jv_client_handles.specs.declared.handle.Handle.{Handle}
use Rattle.jv_model.proofs.PendingLaws.{no_first_segment}
use Rattle.jv_client.specs.declared.doing.Doing.{Doing}
use Rattle.jv_client.specs.declared.doing.Flush.TheVariants as flush
use Rattle.jv_client.specs.ClientValue.{ClientValue}
use Rattle.jv_client.specs.Held.{is_last_here, segment_left}
use Rattle.jv_client.specs.UnderWay.{FlushesFor, Closes, Syncs, Describes, ReadsNothing, Reads}
use Rattle.jv_client.specs.UnderWay.{Truncates as FlushTruncates}
use Rattle.jv_client.specs.UnderWay.{HasRoom, Beside, Alone, IsForm, Mounts, Transacts, Leaves, Writes, Flushes, Copies}
use Rattle.jv_client.specs.UnderWay.{SaysStats, answer_here, ends_itself}
use Rattle.jv_client.specs.Flushing.{without_segment, written_alone}
use Rattle.jv_client.proofs.flushes.AfterCommitLaws.{still-open}
use Rattle.jv_client.proofs.held.HeldLaws.{doing_of}

-- an answer after a flush: the model's, of no write
pub record IsAnswer (m : ModelClient) (d : Doing) : Type 0 where
  pub same : answer_then m (doing_of d) ≡ Some (answer_here d.does).1
  pub other : is_write d.op ≡ false

-- what comes of it

pub told-same : (what : Does) → (answer_here what).0 ≡ told_of (answer_here what).1
told-same (does.Answers answer.NoData) = refl
told-same _ = refl

-- Where all pending bytes are committed, none are left.
none-pending : (pending : List PendingByte) → first_segment pending ≡ None → length pending ≤ 0
none-pending [] none = omega arith
none-pending (b ∷ bytes) none = absurd (cc none)

module _ (m : ModelClient) (c : ClientValue) (d : Doing)
    (last : is_last_of_removed m (handle_of d.op) ≡ is_last_here c (handle_of d.op)) where
  -- ---- it goes on

  goes-by : (what : Does) → ends_itself c (record d { does = what }) ≡ false
      → answer_then m (doing_of (record d { does = what })) ≡ None
  goes-by (does.Answers told) goes = absurd (cc goes)
  goes-by does.Releases goes =
      ap (λ b. if b then None else Some reply.Done) (last ∙ not-false (is_last_here c (handle_of d.op)) goes)
  goes-by _ goes = refl

  pub goes-on : ends_itself c d ≡ false → answer_then m (doing_of d) ≡ None
  goes-on goes = goes-by d.does goes

  -- ---- or it is answered

  module _ (ends : ends_itself c d ≡ true) where
    ending : (what : Does) → d.does ≡ what → ends_itself c (record d { does = what }) ≡ true
    ending what e = sym (ap (λ what. ends_itself c (record d { does = what })) e) ∙ ends

    never : {A : Type 0} (what : Does) → d.does ≡ what → ends_itself c (record d { does = what }) ≡ false → A
    never what e goes = absurd (let yes = ending what e in cc (sym yes ∙ goes))

    as-answer : (what : Does) (o : Op) → d.op ≡ o → d.does ≡ what → is_write o ≡ false
        → answer_then m (doing_of (record d { does = what })) ≡ Some (answer_here what).1 → IsAnswer m d
    as-answer what o of_op e other same = record {
      same = ap (λ what. answer_then m (doing_of (record d { does = what }))) e ∙ same
          ∙ ap (λ what. Some (answer_here what).1) (sym e);
      other = ap is_write of_op ∙ other;
    }

    by_reason : (handle : ℕ) → FlushesFor d handle → IsAnswer m d
    by_reason handle (Closes o e) =
        let none = not-true (is_last_here c (handle_of d.op)) (ending does.Releases e) in
        as-answer does.Releases (op.Close handle) o e refl
        (ap (λ b. if b then None else Some reply.Done) (last ∙ none))
    by_reason handle (Syncs o e) = as-answer (does.Answers answer.Done) (op.Flush handle) o e refl refl
    by_reason handle (Describes o e) = never does.Transacts e refl
    by_reason handle (ReadsNothing offset len o e) =
        as-answer (does.Answers answer.NoData) (op.Read handle offset len) o e refl refl
    by_reason handle (Reads offset len o e some short inside) = never (does.Reads offset len) e refl
    by_reason handle (FlushTruncates len o e) = never does.Truncates e refl

    -- A write that had to wait for room has committed all, and is answered otherwise.
    module _ (h : ClientValue) (segment : Segment) (next : segment_left d.flush h.pending ≡ Some segment)
        (over : segment_left d.flush c.pending ≡ None)
        (alone : length c.pending ≤ 0 → written_alone d.op c.handles ≡ None) where
      no_segment : {A : Type 0} → d.flush ≡ flush.Nothing → A
      no_segment first = absurd (let none = ap (λ f. segment_left f h.pending) first in cc (sym next ∙ none))

      no_room : (handle offset : ℕ) (bytes : List ℕ) → d.op ≡ op.Write handle offset bytes
          → HasRoom h d.flush (length bytes) → ⊥
      no_room handle offset bytes o (Beside first few) = no_segment first
      no_room handle offset bytes o (Alone first few) =
          let none = none-pending c.pending (sym (ap (λ f. segment_left f c.pending) first) ∙ over) in
          let written = sym (ap (λ o. is_some (written_alone o c.handles)) o) ∙ ap is_some (alone none) in
          absurd (cc written)

      pub answered-so : IsForm h d → IsAnswer m d
      answered-so (Mounts o e first) = never (does.Mounts false) e refl
      answered-so (Transacts one spelled e first session) = never does.Transacts e refl
      answered-so (Leaves o e first session) = never does.Transacts e refl
      answered-so (Writes handle offset bytes file o e opened inside room session) =
          absurd (no_room handle offset bytes o room)
      answered-so (Flushes handle file for first opened session) = by_reason handle for
      answered-so (Copies source from target to len file other o e first opened there session) =
          never does.Copies e refl
      answered-so (SaysStats o e first session) = no_segment first

-- ---- a write that had to wait for room

-- what it waits for is committed: nothing is pending, and its file is open
pub record WaitsToWrite (h : ClientValue) (d : Doing) (segment : Segment) (handle offset : ℕ) (bytes : List ℕ) : Type 0 where
  pub does_is : d.does ≡ does.Answers (answer.Count (length bytes))
  pub file : Handle
  pub opened : file_of (without_segment segment h).handles handle ≡ Some file
  pub none : (without_segment segment h).pending ≡ []

module _ (h : ClientValue) (d : Doing) (segment : Segment) (next : segment_left d.flush h.pending ≡ Some segment)
    (over : segment_left d.flush (without_segment segment h).pending ≡ None) (handle offset : ℕ) (bytes : List ℕ)
    (of_op : d.op ≡ op.Write handle offset bytes) where
  committed-all : HasRoom h d.flush (length bytes) → (without_segment segment h).pending ≡ []
  committed-all (Beside first few) =
      absurd (let none = ap (λ f. segment_left f h.pending) first in cc (sym next ∙ none))
  committed-all (Alone first few) =
      no_first_segment (without_segment segment h).pending
      (sym (ap (λ f. segment_left f (without_segment segment h).pending) first) ∙ over)

  other-op : {A : Type 0} (o : Op) → d.op ≡ o → is_write o ≡ false → A
  other-op o e none = absurd (let write = ap is_write (sym of_op ∙ e) in cc (write ∙ none))

  no-metadata : (o : Op) → is_transaction o ≡ true → is_write o ≡ false
  no-metadata (op.Write handle offset bytes) e = absurd (cc e)
  no-metadata _ e = refl

  not-flushing : {A : Type 0} (other : ℕ) → FlushesFor d other → A
  not-flushing other (Closes o e) = other-op (op.Close other) o refl
  not-flushing other (Syncs o e) = other-op (op.Flush other) o refl
  not-flushing other (Describes o e) = other-op (op.Fstat other) o refl
  not-flushing other (ReadsNothing from len o e) = other-op (op.Read other from len) o refl
  not-flushing other (Reads from len o e some short inside) = other-op (op.Read other from len) o refl
  not-flushing other (FlushTruncates len o e) = other-op (op.Truncate other len) o refl

  pub waits-to_write : IsForm h d → WaitsToWrite h d segment handle offset bytes
  waits-to_write (Mounts o e first) = other-op (op.Mount false) o refl
  waits-to_write (Transacts one spelled e first session) = other-op d.op refl (no-metadata d.op one)
  waits-to_write (Leaves o e first session) = other-op op.Umount o refl
  waits-to_write (Writes named from given file o e opened inside room session) =
      let same : op.Write named from given ≡ op.Write handle offset bytes = sym o ∙ of_op in
      let at : named ≡ handle = cc same in
      let are : given ≡ bytes = cc same in
      let open_yet = still-open h segment named file opened in
      record {
        does_is = e ∙ ap (λ (bytes : List ℕ). does.Answers (answer.Count (length bytes))) are;
        file = open_yet.0;
        opened = ap (file_of (without_segment segment h).handles) (sym at) ∙ open_yet.1;
        none = committed-all (subst (λ (bytes : List ℕ). HasRoom h d.flush (length bytes)) are room);
      }
  waits-to_write (Flushes other file for first opened session) = not-flushing other for
  waits-to_write (Copies source from target to len file other o e first opened there session) =
      other-op (op.Copy source from target to len) o refl
  waits-to_write (SaysStats o e first session) = other-op op.Stats o refl
