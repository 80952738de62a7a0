-- A client in memory is refused, and flushes, as the client of the model that it stands for.
use Rattle.std.proofs.Common.{◌≡◌, ℕ, ◌+◌, Bool, true, false, not, List, [], ◌∷◌, length, map, Option, Some, refl, sym, ap, subst, ◌∙◌}
use Rattle.std.specs.Prelude.{is_some, ◌&&◌, ◌||◌, nat_le, nat_lt, if◌then◌else◌}
use Rattle.std.proofs.lemmas.Option.{same_Some}
use Rattle.jv_model.specs.declared.act.Told.TheVariants.{Refused as ToldRefused}
use Rattle.jv_model.specs.declared.fault.Fault.{Fault}
use Rattle.jv_model.specs.declared.fault.Fault.TheVariants.{InProgress, NotConnected, BadHandle, TooManyHandles, FileTooLarge}
use Rattle.jv_model.specs.declared.limits.TheConstants.{FILE_END, MAX_HANDLES}
use Rattle.jv_model.specs.declared.op.Op.{Op}
use Rattle.jv_model.specs.declared.profile.Profile.{Profile}
use Rattle.jv_model.specs.declared.profile.Flushes.{Flushes}
use Rattle.jv_model.specs.declared.profile.Flushes.TheVariants.{Nothing, ItsFiles, IfFull, Everything}
use Rattle.jv_model.specs.declared.profile.Handles.{Handles}
use Rattle.jv_model.specs.declared.profile.Handles.TheVariants as named
use Rattle.jv_model.specs.promise.client.Pending.{PendingByte}
use Rattle.jv_model.specs.promise.client.ModelClient.{ModelClient, OpenFile, OfFiles, OfAll, open_count, inode_at}
use Rattle.jv_model.specs.promise.client.Profile.{profile, handle_list}
use Rattle.jv_model.specs.promise.client.Submission.{first_refusal, is_mount, submission, submission_of, submitted, names_closed, is_closed, flush_of, by_limits}
use Rattle.jv_client_shared.specs.promise.Shared.{Known, Shared}
use Rattle.jv_client_handles.specs.declared.handle.Handle.{Handle}
use Rattle.jv_client_handles.specs.Handles.{inode_here}
use Rattle.jv_client_handles.specs.Held.{IsHandle, SameTable}
use Rattle.jv_client_handles.proofs.TableLaws.{some-same, count-same, file-same}
use Rattle.jv_client.specs.declared.doing.Flush.TheVariants as flush
use Rattle.jv_client.specs.ClientValue.{ClientValue}
use Rattle.jv_client.specs.Held.{IsDoing, IsHeld, IsClient, files_here, flush_here, begun, flush_of_code}
use Rattle.jv_client.specs.Makes.{IsCalm}
use Rattle.jv_client.proofs.held.HeldLaws.{held-doing}
use Rattle.jv_client.proofs.held.LastHandleLaws.{inode-same}

-- no refusal at a submission says that a device failed

abbrev IsOther : Fault → Type 0
IsOther fault = IsCalm (ToldRefused fault)

refused-calm : (busy mounted closed many large : Bool) (fault : Fault) → first_refusal (
    (busy, InProgress)
    ∷ (mounted, NotConnected)
    ∷ (closed, BadHandle)
    ∷ (many, TooManyHandles)
    ∷ (large, FileTooLarge)
    ∷ []) ≡ Some fault → IsOther fault
refused-calm true mounted closed many large fault is = subst IsOther (same_Some InProgress fault is) (λ device. refl)
refused-calm false true closed many large fault is = subst IsOther (same_Some NotConnected fault is) (λ device. refl)
refused-calm false false true many large fault is = subst IsOther (same_Some BadHandle fault is) (λ device. refl)
refused-calm false false false true large fault is =
    subst IsOther (same_Some TooManyHandles fault is) (λ device. refl)
refused-calm false false false false true fault is = subst IsOther (same_Some FileTooLarge fault is) (λ device. refl)
refused-calm false false false false false fault is = absurd (cc is)

pub refusal-calm : (busy mounted closed : Bool) (handles : ℕ) (row : Profile) (fault : Fault)
    → submission_of busy mounted closed handles row ≡ Some fault → IsCalm (ToldRefused fault)
refusal-calm busy mounted closed handles row fault is =
    refused-calm (busy || (is_mount row.does && mounted)) (row.needs_mount && not mounted) closed
    (row.opens && nat_le MAX_HANDLES handles) (nat_lt FILE_END row.end) fault is

module _ {X Y : Type 0} (P : ℕ → X → Y → Type 0) where
  closed-same : (xs : List (Option X)) (ys : List (Option Y)) → SameTable P 1 xs ys → (handle : ℕ)
      → is_closed xs handle ≡ is_closed ys handle
  closed-same xs ys h handle = ap not (some-same (P handle) _ _ (file-same P xs ys h handle))

  -- a handle that isn't open
  pub names_closed-same : (xs : List (Option X)) (ys : List (Option Y)) → SameTable P 1 xs ys → (handles : Handles)
      → names_closed xs handles ≡ names_closed ys handles
  names_closed-same xs ys h named.None = refl
  names_closed-same xs ys h (named.One handle) = ap (λ b. b || false) (closed-same xs ys h handle)
  names_closed-same xs ys h (named.Two first second) =
      ap (λ b. b || (is_closed xs second || false)) (closed-same xs ys h first)
      ∙ ap (λ b. is_closed ys first || (b || false)) (closed-same xs ys h second)

module _ (g : Known) (v : Shared) (m : ModelClient) (count : ℕ) (c : ClientValue) where
  abbrev Same : ℕ → OpenFile → Handle → Type 0
  Same = IsHandle g v m.views count

  -- the refusals are the same
  pub submission-same : (o : Op) → IsClient g v m count c
      → submission m o ≡ submission_of (is_some c.doing) (is_some c.session)
      (names_closed c.handles (profile o).handles) (open_count c.handles) (profile o)
  submission-same o h =
      let closed = names_closed m.handles (profile o).handles in
      let row = profile o in
      ap (λ b. submission_of b (is_some m.session) closed (open_count m.handles) row)
      (some-same IsDoing m.doing c.doing h.doing)
      ∙ ap (λ x. submission_of (is_some c.doing) (is_some x) closed (open_count m.handles) row) h.held.session
      ∙ ap (λ b. submission_of (is_some c.doing) (is_some c.session) b (open_count m.handles) row)
      (names_closed-same Same m.handles c.handles h.held.handles row.handles)
      ∙ ap (λ n. submission_of (is_some c.doing) (is_some c.session) (names_closed c.handles row.handles) n row)
      (count-same Same 1 m.handles c.handles h.held.handles)

  files-same : IsHeld g v m count c → (handles : Handles)
      → OfFiles (map (inode_at m) (handle_list handles)) ≡ flush_of_code (files_here c.handles handles)
  files-same h named.None = refl
  files-same h (named.One handle) = ap (λ i. OfFiles (i ∷ [])) (inode-same g v m count c h handle)
  files-same h (named.Two first second) =
      ap (λ i. OfFiles (i ∷ inode_at m second ∷ [])) (inode-same g v m count c h first)
      ∙ ap (λ i. OfFiles (inode_here c.handles first ∷ i ∷ [])) (inode-same g v m count c h second)

  full-same : (b : Bool) → (if b then OfAll else OfFiles []) ≡ flush_of_code (if b then flush.All else flush.Nothing)
  full-same true = refl
  full-same false = refl

  by-flushes : IsHeld g v m count c → (row : Profile) (flushes : Flushes) → row.flushes ≡ flushes
      → flush_of c.limits.buffer m row ≡ flush_of_code (flush_here c row)
  by-flushes h row Nothing e = rw e refl
  by-flushes h row ItsFiles e = rw e (files-same h row.handles)
  by-flushes h row (IfFull len) e = rw e (ap (λ (bytes : List PendingByte). if nat_lt c.limits.buffer
      (length bytes + len) then OfAll else OfFiles []) h.pending
      ∙ full-same (nat_lt c.limits.buffer (length c.pending + len)))
  by-flushes h row Everything e = rw e refl

  -- what is committed first is the same
  pub flush-same : IsHeld g v m count c → (row : Profile)
      → flush_of c.limits.buffer m row ≡ flush_of_code (flush_here c row)
  flush-same h row = by-flushes h row row.flushes refl

  -- an operation that isn't refused is in progress
  pub begun-stands : (o : Op) → IsClient g v m count c
      → IsClient g v (submitted c.limits o m) count (record c
      { doing = Some (begun o (by_limits c.limits (profile o).does) (flush_here c (profile o))) })
  begun-stands o h = record {
    held = held-doing g v m count c _ _ h.held;
    doing = record { op = refl; does = refl; flush = flush-same h.held (profile o); stage = refl; moved = refl };
    flight = tt;
    reading = tt;
    cache = h.cache;
    put = tt;
  }

  -- the refusal by a row that is the operation's
  pub refusal-by : (o : Op) (row : Profile) (refusal : Option Fault) → IsClient g v m count c → row ≡ profile o
      → refusal ≡ submission_of (is_some c.doing) (is_some c.session) (names_closed c.handles row.handles)
      (open_count c.handles) row
      → refusal ≡ submission m o
  refusal-by o row refusal h same is =
      is ∙ ap (λ (r : Profile). submission_of (is_some c.doing) (is_some c.session) (names_closed c.handles r.handles)
      (open_count c.handles) r) same ∙ sym (submission-same o h)
