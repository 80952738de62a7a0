-- An operation that was begun is under way.
use Rattle.std.proofs.Common.{◌≡◌, ℕ, zero, suc, ◌+◌, ◌-◌, ◌*◌, ◌≤◌, ◌<◌, Bool, true, false, ◌&&◌, ◌||◌, not, List, [], ◌∷◌, length, Option, None, Some, inl, inr, refl, sym, ap, subst, ◌∙◌, arith}
use Rattle.std.specs.Prelude.{IfSome, nat_lt, nat_le, is_some, ◌==◌, if◌then◌else◌}
use Rattle.std.proofs.lemmas.Bool.{leb-false, leb-true, ltb-false, not-false, not-true, or_parts}
use Rattle.std.proofs.lemmas.Bool.Decides.{eqb_tells}
use Rattle.jv_model.specs.declared.limits.TheConstants.{FILE_END, MAX_DATA, MAX_HANDLES}
use Rattle.jv_model.specs.declared.fault.Fault.TheVariants.{InProgress, NotConnected, BadHandle, TooManyHandles, FileTooLarge}
use Rattle.jv_model.specs.declared.basics.Limits.{Limits}
use Rattle.jv_model.specs.declared.op.Op.{Op}
use Rattle.jv_model.specs.declared.op.Op.TheVariants as op
use Rattle.jv_model.specs.declared.profile.Does.{Does}
use Rattle.jv_model.specs.declared.profile.Does.TheVariants as does
use Rattle.jv_model.specs.declared.profile.Answer.TheVariants as answer
use Rattle.jv_model.specs.declared.profile.Profile.{Profile}
use Rattle.jv_model.specs.promise.client.Pending.{Segment}
use Rattle.jv_model.specs.promise.client.Profile.{profile}
use Rattle.jv_model.specs.promise.client.ModelClient.{file_of, open_count}
use Rattle.jv_model.specs.promise.client.Submission.{first_refusal, is_closed, is_mount, submission_of, names_closed, by_limits}
use Rattle.jv_client_handles.specs.declared.handle.Handle.{Handle}
use Rattle.jv_client_handles.specs.Handles.{inode_here, inode_of_handle}
use Rattle.jv_client_handles.proofs.TableLaws.{the_some}
use Rattle.jv_client.specs.promise.Built.{is_built_op}
use Rattle.jv_client.specs.declared.doing.Doing.{Doing}
use Rattle.jv_client.specs.declared.doing.Flush.{Flush}
use Rattle.jv_client.specs.declared.doing.Flush.TheVariants as flush
use Rattle.jv_client.specs.ClientValue.{ClientValue}
use Rattle.jv_client.specs.Held.{begun, flush_here, segment_left}
use Rattle.jv_client.specs.UnderWay.{Alone, Beside, Closes, Copies, Describes, Flushes, FlushesFor, HasRoom, IsForm, IsReady, IsUnderWay, Leaves, Mounts, Reads, ReadsNothing, Syncs, SaysStats, Transacts, Truncates, Writes}
use Rattle.jv_client.specs.UnderWay.{covered, most_steps, reading_steps, steps_in}

-- a submission that isn't refused

all_pass : (a b c d f : Bool) → first_refusal ((a, InProgress) ∷ (b, NotConnected) ∷ (c, BadHandle) ∷
    (d, TooManyHandles) ∷ (f, FileTooLarge) ∷ []) ≡ None
    → (b ≡ false) × (c ≡ false) × (f ≡ false)
all_pass true b c d f e = absurd (cc e)
all_pass false true c d f e = absurd (cc e)
all_pass false false true d f e = absurd (cc e)
all_pass false false false true f e = absurd (cc e)
all_pass false false false false true e = absurd (cc e)
all_pass false false false false false e = (refl, refl, refl)

pub record IsAccepted (mounted closed : Bool) (row : Profile) : Type 0 where
  pub mounted_is : (row.needs_mount && not mounted) ≡ false
  pub opened : closed ≡ false
  pub short : nat_lt FILE_END row.end ≡ false

pub accepted : (busy mounted closed : Bool) (handles : ℕ) (row : Profile)
    → submission_of busy mounted closed handles row ≡ None → IsAccepted mounted closed row
accepted busy mounted closed handles row e =
    let all = all_pass (busy || (is_mount row.does && mounted)) (row.needs_mount && not mounted) closed
    (row.opens && nat_le MAX_HANDLES handles) (nat_lt FILE_END row.end) e in
    record { mounted_is = all.0; opened = all.1; short = all.2 }

above : (n : ℕ) → (n ≡ 0 → ⊥) → 0 < n
above zero some = absurd (some refl)
above (suc n) some = omega arith

module _ (h : ClientValue) where
  abbrev pub starts : Op → Doing
  starts o = begun o (by_limits h.limits (profile o).does) (flush_here h (profile o))

  mount_form : (writeback : Bool) → not (writeback || h.limits.writeback) ≡ true
      → IsForm h (starts (op.Mount writeback))
  mount_form writeback e =
      let none = not-true _ e in
      let both = or_parts writeback h.limits.writeback none in
      Mounts (ap op.Mount both.0) (ap does.Mounts none) refl

  -- the file of a handle that isn't closed
  opened_file : (handle : ℕ) → is_closed h.handles handle ≡ false
      → (file : Handle) × (file_of h.handles handle ≡ Some file)
  opened_file handle there = the_some (file_of h.handles handle) (not-false _ there)

  -- the file of a handle that is flushed first
  flushes_form : (o : Op) (handle : ℕ) → flush_here h (profile o) ≡ flush.File (inode_here h.handles handle)
      → FlushesFor (starts o) handle
      → names_closed h.handles (profile o).handles ≡ names_closed h.handles (profile (op.Close handle)).handles
      → is_some h.session ≡ true → names_closed h.handles (profile o).handles ≡ false → IsForm h (starts o)
  flushes_form o handle first for same session opened =
      let closed = or_parts _ _ (sym same ∙ opened) in
      let file = opened_file handle closed.0 in
      Flushes handle file.0 for (first ∙ ap (λ f. flush.File (inode_of_handle f)) file.1) file.1 session

  read_for : (handle offset len : ℕ) (none : Bool) → ((len == 0) || nat_le FILE_END offset) ≡ none
      → nat_le len MAX_DATA ≡ true
      → FlushesFor (begun (op.Read handle offset len) (by_limits h.limits
      (if none then does.Answers answer.NoData else does.Reads offset len))
      (flush.File (inode_here h.handles handle))) handle
  read_for handle offset len true e short = ReadsNothing offset len refl refl
  read_for handle offset len false e short =
      let parts = or_parts (len == 0) _ e in
      let few = leb-true len MAX_DATA short in
      let low = leb-false FILE_END offset parts.1 in
      Reads offset len refl refl
      (elim (eqb_tells len 0) [ inl same ↦ absurd (cc (sym same.0 ∙ parts.0)) | inr other ↦ above len other.1 ])
      (omega (arith, few)) (omega (arith, low))

  -- a write that there is room for, beside what is pending or once that was committed
  room_for : (len : ℕ) (full : Bool) → nat_lt h.limits.buffer (length h.pending + len) ≡ full
      → len ≤ h.limits.buffer → HasRoom h (if full then flush.All else flush.Nothing) len
  room_for len true e few = Alone refl few
  room_for len false e few =
      Beside refl (let fits = ltb-false h.limits.buffer (length h.pending + len) e in omega (arith, fits))

  write_form : (handle offset : ℕ) (bytes : List ℕ) → MAX_DATA ≤ h.limits.buffer → nat_le (length bytes) MAX_DATA ≡ true
      → is_some h.session ≡ true → names_closed h.handles (profile (op.Write handle offset bytes)).handles ≡ false
      → nat_lt FILE_END (offset + length bytes) ≡ false → IsForm h (starts (op.Write handle offset bytes))
  write_form handle offset bytes buffer few session opened short =
      let closed = or_parts _ _ opened in
      let file = opened_file handle closed.0 in
      let low = leb-true (length bytes) MAX_DATA few in
      let end = ltb-false FILE_END (offset + length bytes) short in
      Writes handle offset bytes file.0 refl refl file.1 (omega (arith, end))
      (room_for (length bytes) (nat_lt h.limits.buffer (length h.pending + length bytes)) refl (omega (arith, low, buffer)))
      session

  copy_form : (source from target to len : ℕ) → is_some h.session ≡ true
      → names_closed h.handles (profile (op.Copy source from target to len)).handles ≡ false
      → IsForm h (starts (op.Copy source from target to len))
  copy_form source from target to len session opened =
      let closed = or_parts (is_closed h.handles source) _ opened in
      let other_closed = or_parts (is_closed h.handles target) _ closed.1 in
      let file = opened_file source closed.0 in
      let other = opened_file target other_closed.0 in
      Copies source from target to len file.0 other.0 refl refl
      (ap (λ f. flush.Files (inode_of_handle f) (inode_here h.handles target)) file.1
      ∙ ap (λ f. flush.Files file.0.inode (inode_of_handle f)) other.1)
      file.1 other.1 session

  form_of : (o : Op) → MAX_DATA ≤ h.limits.buffer → is_built_op h.limits o ≡ true
      → IsAccepted (is_some h.session) (names_closed h.handles (profile o).handles) (profile o) → IsForm h (starts o)
  form_of (op.Mount writeback) buffer built a = mount_form writeback built
  form_of op.Umount buffer built a = Leaves refl refl refl (not-false _ a.mounted_is)
  form_of (op.Fstat handle) buffer built a =
      flushes_form (op.Fstat handle) handle refl (Describes refl refl) refl (not-false _ a.mounted_is) a.opened
  form_of (op.Close handle) buffer built a =
      flushes_form (op.Close handle) handle refl (Closes refl refl) refl (not-false _ a.mounted_is) a.opened
  form_of (op.Flush handle) buffer built a =
      flushes_form (op.Flush handle) handle refl (Syncs refl refl) refl (not-false _ a.mounted_is) a.opened
  form_of (op.Read handle offset len) buffer built a =
      flushes_form (op.Read handle offset len) handle refl (read_for handle offset len _ refl built) refl
      (not-false _ a.mounted_is) a.opened
  form_of (op.Write handle offset bytes) buffer built a =
      write_form handle offset bytes buffer built (not-false _ a.mounted_is) a.opened a.short
  form_of (op.Truncate handle len) buffer built a =
      flushes_form (op.Truncate handle len) handle refl (Truncates len refl refl) refl (not-false _ a.mounted_is) a.opened
  form_of (op.Copy source from target to len) buffer built a =
      copy_form source from target to len (not-false _ a.mounted_is) a.opened
  form_of (op.Compact path window) buffer built a = absurd (cc built)
  form_of op.Clean buffer built a = absurd (cc built)
  form_of (op.Gc delete) buffer built a = absurd (cc built)
  form_of op.Upload buffer built a = absurd (cc built)
  form_of op.Stats buffer built a = SaysStats refl refl refl (not-false _ a.mounted_is)
  form_of _ buffer built a = Transacts refl built refl refl (not-false _ a.mounted_is)

room-still : (h : ClientValue) (doing : Option Doing) (first : Flush) (len : ℕ) → HasRoom h first len
    → HasRoom (record h { doing = doing }) first len
room-still h doing first len (Beside is fits) = Beside is fits
room-still h doing first len (Alone is fits) = Alone is fits

still_form : (h : ClientValue) (d : Doing) (doing : Option Doing) → IsForm h d → IsForm (record h { doing = doing }) d
still_form h d doing (Mounts o does first) = Mounts o does first
still_form h d doing (Transacts o spelled does first session) = Transacts o spelled does first session
still_form h d doing (Leaves o does first session) = Leaves o does first session
still_form h d doing (Writes handle offset bytes file o does opened short room session) =
    Writes handle offset bytes file o does opened short (room-still h doing d.flush (length bytes) room) session
still_form h d doing (Flushes handle file for first opened session) = Flushes handle file for first opened session
still_form h d doing (Copies source from target to len file other o does first opened there session) =
    Copies source from target to len file other o does first opened there session
still_form h d doing (SaysStats o does first session) = SaysStats o does first session

-- no request of a segment was made
pub few-none : (o : Option Segment) → IfSome o (λ (segment : Segment). 0 ≤ 1 + segment.len)
few-none None = tt
few-none (Some segment) = omega arith

-- a built operation that is accepted is under way
pub begun-ready : (h : ClientValue) (o : Op) (d : Doing) → IsReady h → is_built_op h.limits o ≡ true
    → submission_of (is_some h.doing) (is_some h.session) (names_closed h.handles (profile o).handles)
    (open_count h.handles) (profile o) ≡ None
    → d ≡ starts h o → IsReady (record h { doing = Some d })
begun-ready h o d ready built none same =
    let form = form_of h o ready.buffer built (accepted (is_some h.doing) (is_some h.session)
    (names_closed h.handles (profile o).handles) (open_count h.handles) (profile o) none) in
    let way : IsUnderWay (record h { doing = Some d }) (starts h o) =
    record {
      form = still_form h (starts h o) (Some d) form;
      at = record {
        few = few-none (segment_left (flush_here h (profile o)) h.pending);
        segment = λ less. absurd (omega (arith, less));
        numbered = λ less. absurd (omega (arith, less));
      };
      asks = λ moved. absurd (cc moved);
    } in
    record { buffer = ready.buffer; doing = subst (IsUnderWay (record h { doing = Some d })) (sym same) way }

-- ---- how many steps it makes

reading-same : (limits : Limits) (what : Does) → reading_steps (by_limits limits what) ≡ reading_steps what
reading-same limits (does.Mounts writeback) = refl
reading-same limits _ = refl

-- At its begin fewer than its most steps are left before its last one.
pub steps-bounded : (h : ClientValue) (o : Op) (d : Doing) → d ≡ starts h o → steps_in h.pending d < most_steps h o
steps-bounded h o d same =
    let begins : steps_in h.pending d ≡ 3 * length (covered (flush_here h (profile o)) h.pending)
    + reading_steps (by_limits h.limits (profile o).does) - 0 = ap (steps_in h.pending) same in
    let reads = reading-same h.limits (profile o).does in
    omega (arith, begins, reads)
