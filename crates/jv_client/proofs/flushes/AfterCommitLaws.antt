-- What a commit leaves of its client where the operation goes on: it is under way, and fewer requests are left.
use Rattle.std.proofs.Common.{◌≡◌, ℕ, ◌+◌, ◌*◌, ◌-◌, ◌≤◌, ◌<◌, true, false, ◌||◌, length}
use Rattle.std.proofs.Common.{Option, None, Some, refl, sym, ap, ◌∙◌, arith}
use Rattle.std.specs.Prelude.{is_some}
use Rattle.std.proofs.lemmas.Bool.{not-false}
use Rattle.jv_model.specs.declared.op.Op.{Op}
use Rattle.jv_model.specs.declared.op.Op.TheVariants as op
use Rattle.jv_model.specs.declared.profile.Answer.TheVariants as answer
use Rattle.jv_model.specs.declared.profile.Does.{Does}
use Rattle.jv_model.specs.declared.profile.Does.TheVariants as does
use Rattle.jv_model.specs.promise.client.Pending.{Segment}
use Rattle.jv_model.specs.promise.client.Profile.{handle_of}
use Rattle.jv_model.specs.promise.client.ModelClient.{file_of}
use Rattle.jv_client_handles.specs.declared.handle.Handle.{Handle}
use Rattle.jv_client_handles.specs.Handles.{unseen}
use Rattle.jv_client_handles.proofs.UnseenLaws.{file_of-unseen, some-unseen, unseen-open, unseen-own}
use Rattle.jv_client.specs.declared.doing.Doing.{Doing}
use Rattle.jv_client.specs.declared.doing.Flush.TheVariants as flush
use Rattle.jv_client.specs.declared.doing.Progress.TheVariants as progress
use Rattle.jv_client.specs.ClientValue.{ClientValue}
use Rattle.jv_client.specs.Held.{is_last_here, segment_left}
use Rattle.jv_client.specs.UnderWay.{FlushesFor, Closes, Syncs, Describes, ReadsNothing, Reads}
use Rattle.jv_client.specs.UnderWay.{Truncates as FlushTruncates}
use Rattle.jv_client.specs.UnderWay.{IsForm, Mounts, Transacts, Leaves, Writes, Flushes, Copies}
use Rattle.jv_client.specs.UnderWay.{SaysStats, IsUnderWay, ClosesOpen, asks_more, ends_itself}
use Rattle.jv_client.specs.UnderWay.{covered, has_not_seen, has_segment, moved_to, reading_steps, steps_in, steps_left}
use Rattle.jv_client.specs.Flushing.{without_segment}
use Rattle.jv_client.proofs.steps.RequestMadeLaws.{Continues, form-on}
use Rattle.jv_client.proofs.begun.CoveredLaws.{covered-without}
use Rattle.jv_client.proofs.begun.NextSegmentLaws.{own_file}
use Rattle.jv_client.proofs.begun.ReadyLaws.{few-none}
use Rattle.jv_client.proofs.held.CommittedSegmentLaws.{length-parted}

-- ---- what is open

module _ (h : ClientValue) (segment : Segment) where
  abbrev pub between : ClientValue
  between = without_segment segment h

  -- what is open stays so, on the same inode
  pub still-open : (handle : ℕ) (file : Handle) → file_of h.handles handle ≡ Some file
      → (later : Handle) × (file_of between.handles handle ≡ Some later) × (later.inode ≡ file.inode)
  still-open handle file opened =
      let open_yet = unseen-open segment.inode file in (
        open_yet.0,
        file_of-unseen segment.inode h.handles handle ∙ ap (unseen segment.inode) opened ∙ open_yet.1,
        open_yet.2,
      )

  pub closes-without : (o : Op) → ClosesOpen o h.handles → ClosesOpen o between.handles
  closes-without (op.Close handle) opened = some-unseen segment.inode h.handles handle ∙ opened
  closes-without _ opened = tt

  -- it has what it had, and no more bytes pending
  continues : length between.pending ≤ length h.pending → (doing : Option Doing)
      → Continues h (record between { doing = doing })
  continues fewer doing = record { session = refl; limits = refl; pending = fewer; handles = still-open }

-- ---- what the operation asks for after its last segment

names_it : (d : Doing) (handle : ℕ) → FlushesFor d handle → handle_of d.op ≡ handle
names_it d handle (Closes o e) = ap handle_of o
names_it d handle (Syncs o e) = ap handle_of o
names_it d handle (Describes o e) = ap handle_of o
names_it d handle (ReadsNothing offset len o e) = ap handle_of o
names_it d handle (Reads offset len o e some short inside) = ap handle_of o
names_it d handle (FlushTruncates len o e) = ap handle_of o

module _ (h : ClientValue) (d : Doing) where
  -- what an operation that goes on asks for, where a reading has no view of its first window
  asks-then : IsForm h d → (c : ClientValue) → ends_itself c d ≡ false
      → ((offset len : ℕ) → d.does ≡ does.Reads offset len
      → has_not_seen offset (file_of c.handles (handle_of d.op)) ≡ true)
      → asks_more c d ≡ true
  asks-then form c goes unseen = by_form form
    where
      ending : (what : Does) → d.does ≡ what → ends_itself c (record d { does = what }) ≡ false
      ending what e = sym (ap (λ what. ends_itself c (record d { does = what })) e) ∙ goes

      asking : (what : Does) → d.does ≡ what → asks_more c (record d { does = what }) ≡ true → asks_more c d ≡ true
      asking what e asks = ap (λ what. asks_more c (record d { does = what })) e ∙ asks

      by_reason : (handle : ℕ) → FlushesFor d handle → asks_more c d ≡ true
      by_reason handle (Closes o e) =
          asking does.Releases e (not-false (is_last_here c (handle_of d.op)) (ending does.Releases e))
      by_reason handle (Syncs o e) = absurd (cc (ending (does.Answers answer.Done) e))
      by_reason handle (Describes o e) = asking does.Transacts e refl
      by_reason handle (ReadsNothing offset len o e) = absurd (cc (ending (does.Answers answer.NoData) e))
      by_reason handle (Reads offset len o e some short inside) =
          asking (does.Reads offset len) e (unseen offset len e)
      by_reason handle (FlushTruncates len o e) = asking does.Truncates e refl

      by_form : IsForm h d → asks_more c d ≡ true
      by_form (Mounts o e first) = asking (does.Mounts false) e refl
      by_form (Transacts one spelled e first session) = asking does.Transacts e refl
      by_form (Leaves o e first session) = asking does.Transacts e refl
      by_form (Writes handle offset bytes file o e opened inside room session) =
          absurd (cc (ending (does.Answers (answer.Count (length bytes))) e))
      by_form (Flushes handle file for first opened session) = by_reason handle for
      by_form (Copies source from target to len file other o e first opened there session) =
          asking does.Copies e refl
      by_form (SaysStats o e first session) = absurd (cc (ending (does.Answers answer.CacheStats) e))

-- ---- it is under way

module _ (h : ClientValue) (d : Doing) (segment : Segment) (form : IsForm h d)
    (next : segment_left d.flush h.pending ≡ Some segment) where
  abbrev without_it : ClientValue
  without_it = without_segment segment h

  -- A reading has no view of its file.
  unseen-file : (handle : ℕ) (file : Handle) → file_of h.handles handle ≡ Some file → d.flush ≡ flush.File file.inode
      → FlushesFor d handle → (offset : ℕ) → has_not_seen offset (file_of without_it.handles (handle_of d.op)) ≡ true
  unseen-file handle file opened first for offset =
      let own = own_file d.flush file.inode h.pending segment first next in
      ap (λ n. has_not_seen offset (file_of without_it.handles n)) (names_it d handle for)
      ∙ ap (has_not_seen offset) (file_of-unseen segment.inode h.handles handle ∙ ap (unseen segment.inode) opened
      ∙ unseen-own segment.inode file own)

  unseen-here : (offset len : ℕ) → d.does ≡ does.Reads offset len
      → has_not_seen offset (file_of without_it.handles (handle_of d.op)) ≡ true
  unseen-here offset len reads = by_form form
    where
      other_does : {A : Type 0} (what : Does) → d.does ≡ what → (what ≡ does.Reads offset len → ⊥) → A
      other_does what e apart = absurd (apart (sym e ∙ reads))

      by_form : IsForm h d → has_not_seen offset (file_of without_it.handles (handle_of d.op)) ≡ true
      by_form (Mounts o e first) = other_does (does.Mounts false) e (λ same. cc same)
      by_form (Transacts one spelled e first session) = other_does does.Transacts e (λ same. cc same)
      by_form (Leaves o e first session) = other_does does.Transacts e (λ same. cc same)
      by_form (Writes other from bytes file o e opened inside room session) =
          other_does (does.Answers (answer.Count (length bytes))) e (λ same. cc same)
      by_form (Flushes handle file for first opened session) = unseen-file handle file opened first for offset
      by_form (Copies source from target to n file other o e first opened there session) =
          other_does does.Copies e (λ same. cc same)
      by_form (SaysStats o e first session) = other_does (does.Answers answer.CacheStats) e (λ same. cc same)

  abbrev asking : Doing
  asking = moved_to (progress.Working 0 0 0) d

  abbrev after_request : ClientValue
  after_request = record without_it { doing = Some asking }

  module _ (fewer : length without_it.pending + segment.len ≡ length h.pending)
      (goes : segment_left d.flush without_it.pending ≡ None → ends_itself without_it d ≡ false) where
    asks-here : (o : Option Segment) → segment_left d.flush without_it.pending ≡ o
        → (has_segment after_request asking || asks_more after_request asking) ≡ true
    asks-here (Some other) e = ap (λ (o : Option Segment). is_some o || asks_more after_request asking) e
    asks-here None e =
        ap (λ (o : Option Segment). is_some o || asks_more after_request asking) e
        ∙ asks-then h d form without_it (goes e) unseen-here

    pub way-without : IsUnderWay after_request asking
    way-without = record {
      form = form-on h after_request (continues h segment (omega (arith, fewer)) (Some asking)) d
          (progress.Working 0 0 0) form;
      at = record {
        few = few-none (segment_left d.flush without_it.pending);
        segment = λ less. absurd (omega (arith, less));
        numbered = λ less. absurd (omega (arith, less));
      };
      asks = λ moved. asks-here (segment_left d.flush without_it.pending) refl;
    }

    pub falls-without : (quiets started id : ℕ) → d.progress ≡ progress.Working quiets started id
        → quiets ≤ 1 + segment.len → 0 < segment.len → h.doing ≡ Some d
        → steps_left after_request < steps_left h
    falls-without quiets started id at few some busy =
        let before : steps_left h ≡ 3 * length (covered d.flush h.pending) + reading_steps d.does - quiets =
        ap (λ (o : Option Doing). steps_left (record h { doing = o })) busy
        ∙ ap (λ p. steps_in h.pending (record d { progress = p })) at in
        let left = covered-without d.flush segment h.pending next in
        let own = length-parted segment h.pending in
        omega (arith, before, left, own, fewer, few, some)
