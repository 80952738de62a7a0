-- A write that there is room for is answered in its only step; or memory ran out.
use Rattle.std.proofs.Common.{◌≡◌, ℕ, ◌+◌, ◌≤◌, true, false, List, length, Option, None, Some, refl, sym, ap, subst, ◌∙◌, arith}
use Rattle.std.specs.Prelude.{is_some}
use Rattle.jv_model.specs.declared.limits.TheConstants.{FILE_END}
use Rattle.jv_model.specs.declared.act.Told.TheVariants.{Fine}
use Rattle.jv_model.specs.declared.op.Op.{Op}
use Rattle.jv_model.specs.declared.op.Op.TheVariants as op
use Rattle.jv_model.specs.declared.op.Reply.TheVariants.{Count}
use Rattle.jv_model.specs.declared.profile.Answer.TheVariants as answer
use Rattle.jv_model.specs.declared.profile.Does.{Does}
use Rattle.jv_model.specs.declared.profile.Does.TheVariants as does
use Rattle.jv_model.specs.promise.client.Pending.{first_segment, written}
use Rattle.jv_model.specs.promise.client.ModelClient.{file_of}
use Rattle.jv_model.proofs.PendingLaws.{no_first_segment}
use Rattle.jv_model.specs.promise.client.OpForms.{is_read}
use Rattle.jv_model.specs.client.OpForms.{is_umount}
use Rattle.jv_pending.specs.Held.{PendingValue}
use Rattle.jv_model_steps.proofs.AnswerStepLaws.{written-at_once}
use Rattle.jv_client_handles.specs.declared.handle.Handle.{Handle}
use Rattle.jv_client_handles.specs.Handles.{inode_here}
use Rattle.jv_client_shared.specs.promise.Shared.{Shared}
use Rattle.jv_client_shared.proofs.KeepingLaws.{stays-none}
use Rattle.jv_client.specs.declared.doing.Doing.{Doing}
use Rattle.jv_client.specs.declared.made.Made.TheVariants as made
use Rattle.jv_client.specs.ClientValue.{ClientValue}
use Rattle.jv_client.specs.Held.{segment_left}
use Rattle.jv_client.specs.UnderWay.{Alone, Beside, Closes, Copies, Describes, Flushes, FlushesFor, HasKept, HasRoom, IsForm, IsReady, Leaves, MayKeep, Mounts, Reads, ReadsNothing, Syncs, SaysStats, Transacts, Truncates, Writes, ends_itself, keeps, left, left_of}
use Rattle.jv_client.specs.Makes.{Makes}
use Rattle.jv_client.proofs.held.HeldLaws.{client-doing, doing_of}
use Rattle.jv_client.proofs.held.OthersStepLaws.{held-goes}
use Rattle.jv_client.proofs.steps.AnswerLaws.{makes-as}
use Rattle.jv_client.proofs.begun.FormLaws.{flushed-same, none_left, under_way}
use Rattle.jv_client.proofs.held.CacheUseLaws.{NoRead, cache-stays}
use Rattle.jv_client.proofs.steps.AnsweredAtOnceLaws.{answers-makes, is_done}
use Rattle.jv_client.proofs.writes.WrittenLaws.{model_wrote, wrote, wrote-client, wrote-holds}

-- ---- from the form of the operation

pub record IsWrite (h : ClientValue) (d : Doing) : Type 0 where
  pub handle : ℕ
  pub offset : ℕ
  pub bytes : List ℕ
  pub file : Handle
  pub op_is : d.op ≡ op.Write handle offset bytes
  pub does_is : d.does ≡ does.Answers (answer.Count (length bytes))
  pub opened : file_of h.handles handle ≡ Some file
  pub short : offset + length bytes ≤ FILE_END
  pub room : HasRoom h d.flush (length bytes)

module _ (h : ClientValue) (d : Doing) (kept : keeps d.does ≡ true) where
  other_keeps : (does : Does) → d.does ≡ does → keeps does ≡ false → IsWrite h d
  other_keeps does of_does other = absurd (let same = ap keeps of_does in cc (sym kept ∙ same ∙ other))

  flushed-write : (handle : ℕ) → FlushesFor d handle → IsWrite h d
  flushed-write handle (Closes of_op of_does) = other_keeps does.Releases of_does refl
  flushed-write handle (Syncs of_op of_does) = other_keeps (does.Answers answer.Done) of_does refl
  flushed-write handle (Describes of_op of_does) = other_keeps does.Transacts of_does refl
  flushed-write handle (ReadsNothing offset len of_op of_does) = other_keeps (does.Answers answer.NoData) of_does refl
  flushed-write handle (Reads offset len of_op of_does some few low) = other_keeps (does.Reads offset len) of_does refl
  flushed-write handle (Truncates len of_op of_does) = other_keeps does.Truncates of_does refl

  pub write_of : IsForm h d → IsWrite h d
  write_of (Mounts of_op of_does first) = other_keeps (does.Mounts false) of_does refl
  write_of (Transacts one spelled of_does first session) = other_keeps does.Transacts of_does refl
  write_of (Leaves of_op of_does first session) = other_keeps does.Transacts of_does refl
  write_of (Writes handle offset bytes file of_op of_does opened short room session) = record {
    handle = handle;
    offset = offset;
    bytes = bytes;
    file = file;
    op_is = of_op;
    does_is = of_does;
    opened = opened;
    short = short;
    room = room;
  }
  write_of (Flushes handle file for first opened session) = flushed-write handle for
  write_of (Copies source from target to len file other of_op of_does first opened there session) =
      other_keeps does.Copies of_does refl
  write_of (SaysStats of_op of_does first session) = other_keeps (does.Answers answer.CacheStats) of_does refl

-- ---- a write that has nothing left to commit

module _ (h : ClientValue) (d : Doing) (busy : h.doing ≡ Some d) (ready : IsReady h) (kept : keeps d.does ≡ true)
    (flushed : left h ≡ None) where
  the_write : IsWrite h d
  the_write = write_of h d kept (under_way h d busy ready).form

  -- its bytes have room beside those that are pending; where it flushed all, none are
  beside : length h.pending + length the_write.bytes ≤ h.limits.buffer
  beside = by_room the_write.room
    where
      by_room : HasRoom h d.flush (length the_write.bytes)
          → length h.pending + length the_write.bytes ≤ h.limits.buffer
      by_room (Beside is fits) = fits
      by_room (Alone is fits) =
          let none : first_segment h.pending ≡ None =
          sym (ap (λ first. segment_left first h.pending) is) ∙ sym (ap (left_of h.pending) busy) ∙ flushed in
          let empty = ap length (no_first_segment h.pending none) in
          omega (arith, fits, empty)

  pub may_keep : (handles : List (Option Handle)) (pending : PendingValue) → handles ≡ h.handles
      → pending.bytes ≡ h.pending → pending.limit ≡ h.limits.buffer → MayKeep d.op handles pending
  may_keep handles pending same_handles same_bytes limit =
      let room = beside in
      let short = the_write.short in
      let few = ap length same_bytes in
      subst (λ (o : Op). MayKeep o handles pending) (sym the_write.op_is) (
        ap (λ handles. is_some (file_of handles the_write.handle)) same_handles ∙ ap is_some the_write.opened,
        short,
        omega (arith, room, few, limit),
      )

  write_alone : (now entry : ℕ) (v : Shared)
      → Makes now entry h (wrote the_write.handle the_write.offset the_write.bytes h) v v
      (made.Answer (Fine (length the_write.bytes) 0 0 0) (Count (length the_write.bytes)))
  write_alone now entry v =
      let w = the_write in
      let none = none_left h d busy flushed in
      let ends = ap (λ does. ends_itself h (record d { does = does })) w.does_is in
      let done = is_done h d (under_way h d busy ready) none ends in
      let count = length w.bytes in
      answers-makes now entry h (wrote w.handle w.offset w.bytes h) v (Fine count 0 0 0) (Count count) ready
      (record { id = refl; limits = refl; idle = refl })
      (cache-stays h d busy (wrote w.handle w.offset w.bytes h) (made.Answer (Fine count 0 0 0) (Count count)) v.yard v.yard
      (NoRead (ap is_read w.op_is) refl refl) (ap is_umount w.op_is) refl tt)
      (λ device. refl)
      (λ s g store holds is.
      let c = s.clients h.id in
      record {
        model = model_wrote w.handle w.offset w.bytes c;
        steps = λ start alone.
            written-at_once start alone s h.id now (doing_of d) (client-doing g v c s.count h d busy is) done.started
            done.stage (flushed-same h d c.pending none is.held.pending) done.first w.handle w.offset w.bytes w.op_is
            count w.does_is;
        is_client = wrote-client c h w.handle w.offset w.bytes g v (s.count + 1)
            (held-goes s.tree g v store 0 g v (stays-none 0 g v) c s.count (s.count + 1) h (omega arith) is.held)
            is.cache;
        holds = wrote-holds c h w.handle w.offset w.bytes s.tree g v s.count w.file is.held w.opened holds;
      })

  pub write_kept : (now entry : ℕ) (after : ClientValue) (v : Shared) (count : ℕ) (handles : List (Option Handle))
      (before pending : PendingValue) → handles ≡ h.handles → before.bytes ≡ h.pending
      → HasKept d.op handles before pending count → after ≡ record h { pending = pending.bytes; doing = None }
      → Makes now entry h after v v (made.Answer (Fine count 0 0 0) (Count count))
  write_kept now entry after v count handles before pending same_handles same_bytes has of_after =
      let w = the_write in
      let kept : HasKept (op.Write w.handle w.offset w.bytes) handles before pending count =
      subst (λ (o : Op). HasKept o handles before pending count) w.op_is has in
      let end : after ≡ wrote w.handle w.offset w.bytes h =
      of_after ∙ ap (λ (v : PendingValue). record h { pending = v.bytes; doing = None }) kept.1
      ∙ ap (λ handles. record h {
        pending = written (inode_here handles w.handle) w.offset w.bytes before.bytes;
        doing = None;
      }) same_handles
      ∙ ap (λ old. record h { pending = written (inode_here h.handles w.handle) w.offset w.bytes old; doing = None })
      same_bytes in
      makes-as now entry h after (wrote w.handle w.offset w.bytes h) v v v (made.Answer (Fine count 0 0 0) (Count count))
      (made.Answer (Fine (length w.bytes) 0 0 0) (Count (length w.bytes))) end refl
      (ap (λ n. made.Answer (Fine n 0 0 0) (Count n)) kept.0) (write_alone now entry v)
