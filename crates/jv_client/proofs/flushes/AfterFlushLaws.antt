-- What comes after a commit: another segment, the answer, or the operation's own requests.
use Rattle.std.proofs.Common.{◌≡◌, ℕ, ◌≤◌, false, true, List, [], length, Option, None, Some, refl, sym, ap, subst, ◌∙◌}
use Rattle.std.proofs.Common.{arith}
use Rattle.std.specs.Prelude.{is_some, IfSome}
use Rattle.std.specs.Option.{option_map}
use Rattle.jv_model.specs.declared.act.ActKind.{ActKind}
use Rattle.jv_model.specs.declared.act.Told.{Told}
use Rattle.jv_model.specs.declared.act.Told.TheVariants.{Fine}
use Rattle.jv_model.specs.declared.op.Op.{Op}
use Rattle.jv_model.specs.declared.op.Op.TheVariants as op
use Rattle.jv_model.specs.declared.op.Reply.{Reply}
use Rattle.jv_model.specs.declared.op.Reply.TheVariants.{Count}
use Rattle.jv_model.specs.promise.client.Pending.{PendingByte, Segment, written}
use Rattle.jv_client_handles.specs.declared.handle.Handle.{Handle}
use Rattle.jv_client_handles.specs.Handles.{inode_here}
use Rattle.jv_pending.specs.declared.segment.SegmentAt.{SegmentAt}
use Rattle.jv_pending.specs.At.{segment_at}
use Rattle.jv_pending.specs.Held.{PendingValue}
use Rattle.jv_client.specs.declared.doing.Doing.{Doing}
use Rattle.jv_client.specs.declared.doing.Progress.TheVariants.{Working}
use Rattle.jv_client.specs.declared.made.Made.{Made}
use Rattle.jv_client.specs.declared.made.Made.TheVariants as made
use Rattle.jv_client.specs.ClientValue.{ClientValue}
use Rattle.jv_client.specs.UnderWay.{Ends, Answered as EndsAnswered, GoesOn as EndsNot, answer_here, left}
use Rattle.jv_client.specs.UnderWay.{moved_to}
use Rattle.jv_client.specs.Flushing.{Follows, Answers, Writes, GoesOn, IsWrittenAlone, Other, Write, NextOf, Last, NotLast}
use Rattle.jv_client.specs.Flushing.{written_alone}
use Rattle.jv_client.proofs.writes.WriteAloneLaws.{length-alone}

pub none_left : (o : Option SegmentAt) (next : Option Segment) → option_map segment_at o ≡ next → false ≡ is_some o
    → next ≡ None
none_left None next e none = sym e
none_left (Some at) next e none = absurd (cc none)

pub some_left : (o : Option SegmentAt) (next : Option Segment) → option_map segment_at o ≡ next → true ≡ is_some o
    → is_some next ≡ true
some_left None next e some = absurd (cc some)
some_left (Some at) next e some = ap is_some (sym e)

-- the bytes of a write are those that it names
alone-write : (o : Op) (handles : List (Option Handle)) (bytes : List PendingByte)
    → written_alone o handles ≡ Some bytes
    → (handle : ℕ) × (offset : ℕ) × (given : List ℕ) × (o ≡ op.Write handle offset given)
    × (bytes ≡ written (inode_here handles handle) offset given [])
alone-write (op.Write handle offset given) handles bytes e = (handle, offset, given, refl, cc e)
alone-write _ handles bytes e = absurd (cc e)

-- An operation that isn't a write has no bytes that could be all that is pending.
not-alone : (o : Op) (handles : List (Option Handle)) (limit : ℕ) → IsWrittenAlone o handles limit None
    → written_alone o handles ≡ None
not-alone o handles limit (Other none same) = none
not-alone o handles limit (Write bytes some same) =
    absurd (let f : ◌≡◌ {A = Option PendingValue} None (Some (record { bytes = bytes; limit = limit })) = same in cc)

no-next : (d : Doing) (h : ClientValue) → NextOf d 0 h None → length h.pending ≤ 0 → written_alone d.op h.handles ≡ None
no-next d h (Last few alone) none = not-alone d.op h.handles h.limits.buffer alone
no-next d h (NotLast some same) none = absurd (omega (arith, some, none))

-- ---- a write that had to wait

by-alone : (d : Doing) (kind : ActKind) (h after : ClientValue) (pending : PendingValue) → left h ≡ None
    → IsWrittenAlone d.op h.handles h.limits.buffer (Some pending)
    → after ≡ record h { pending = pending.bytes; doing = None }
    → Follows d kind h after (made.Both kind (Fine (length pending.bytes) 0 0 0) (Count (length pending.bytes)))
by-alone d kind h after pending none (Other other same) after_is =
    absurd (let f : ◌≡◌ {A = Option PendingValue} (Some pending) None = same in cc)
by-alone d kind h after pending none (Write bytes some same) after_is =
    let is : pending ≡ record { bytes = bytes; limit = h.limits.buffer } =
    (let f : ◌≡◌ {A = Option PendingValue} (Some pending) (Some (record { bytes = bytes; limit = h.limits.buffer })) = same
    in cc) in
    let by = alone-write d.op h.handles bytes some in
    let given : List ℕ = by.2 in
    let bytes_are : pending.bytes ≡ written (inode_here h.handles by.0) by.1 given [] =
    ap (λ (p : PendingValue). p.bytes) is ∙ by.4 in
    let long : length pending.bytes ≡ length given =
    ap length bytes_are ∙ length-alone (inode_here h.handles by.0) by.1 given in
    Writes by.0 by.1 given none by.3
    (after_is ∙ ap (λ (bytes : List PendingByte). record h { pending = bytes; doing = None }) bytes_are)
    (ap (λ n. made.Both kind (Fine n 0 0 0) (Count n)) long)

by-next : (d : Doing) (kind : ActKind) (h after : ClientValue) (pending : PendingValue) → left h ≡ None
    → NextOf d 0 h (Some pending) → after ≡ record h { pending = pending.bytes; doing = None }
    → Follows d kind h after (made.Both kind (Fine (length pending.bytes) 0 0 0) (Count (length pending.bytes)))
by-next d kind h after pending none (Last few alone) after_is = by-alone d kind h after pending none alone after_is
by-next d kind h after pending none (NotLast some same) after_is =
    absurd (let f : ◌≡◌ {A = Option PendingValue} (Some pending) None = same in cc)

pub follows-write : (o : Option Doing) (kind : ActKind) (h after : ClientValue) (pending : PendingValue)
    (answer : Told × Reply) → left h ≡ None → IfSome o (λ d. NextOf d 0 h (Some pending))
    → after ≡ record h { pending = pending.bytes; doing = None }
    → ◌≡◌ {A = Told × Reply} answer (Fine (length pending.bytes) 0 0 0, Count (length pending.bytes))
    → IfSome o (λ d. Follows d kind h after (made.Both kind answer.0 answer.1))
follows-write None kind h after pending answer none next after_is same = tt
follows-write (Some d) kind h after pending answer none next after_is same =
    subst (λ (pair : Told × Reply). Follows d kind h after (made.Both kind pair.0 pair.1)) (sym same)
    (by-next d kind h after pending none next after_is)

-- ---- another operation

answer-follows : (d : Doing) (kind : ActKind) (h after : ClientValue) (told : Told) (said : Reply) → left h ≡ None
    → NextOf d 0 h None → Ends d h after (Some (told, said)) → Follows d kind h after (made.Both kind told said)
answer-follows d kind h after told said none next (EndsAnswered ends is after_is) =
    let same : ◌≡◌ {A = Told × Reply} (told, said) (answer_here d.does) =
    (let f : ◌≡◌ {A = Option (Told × Reply)} (Some (told, said)) (Some (answer_here d.does)) = is in cc) in
    Answers none ends (no-next d h next) after_is (ap (λ (pair : Told × Reply). made.Both kind pair.0 pair.1) same)
answer-follows d kind h after told said none next (EndsNot goes is after_is) =
    absurd (let f : ◌≡◌ {A = Option (Told × Reply)} (Some (told, said)) None = is in cc)

-- it is answered
pub follows-answer : (o : Option Doing) (kind : ActKind) (h after : ClientValue) (told : Told) (said : Reply)
    → left h ≡ None → IfSome o (λ d. NextOf d 0 h None) → IfSome o (λ d. Ends d h after (Some (told, said)))
    → IfSome o (λ d. Follows d kind h after (made.Both kind told said))
follows-answer None kind h after told said none next ends = tt
follows-answer (Some d) kind h after told said none next ends = answer-follows d kind h after told said none next ends

request-follows : (d : Doing) (kind : ActKind) (h between after : ClientValue) → h.doing ≡ Some d
    → Ends d h between None
    → after ≡ record between { doing = option_map (moved_to (Working 0 0 0)) between.doing }
    → Follows d kind h after (made.Request kind)
request-follows d kind h between after busy (EndsAnswered ends is after_is) asked =
    absurd (let f : ◌≡◌ {A = Option (Told × Reply)} None (Some (answer_here d.does)) = is in cc)
request-follows d kind h between after busy (EndsNot goes is after_is) asked =
    GoesOn (λ none. goes)
    (asked
    ∙ ap (λ (c : ClientValue). record c { doing = option_map (moved_to (Working 0 0 0)) c.doing }) after_is
    ∙ ap (λ o. record h { doing = option_map (moved_to (Working 0 0 0)) o }) busy) refl

-- it asks for more
pub follows-request : (o : Option Doing) (kind : ActKind) (h between after : ClientValue) (outcome : Made) → h.doing ≡ o
    → IfSome o (λ d. Ends d h between None)
    → after ≡ record between { doing = option_map (moved_to (Working 0 0 0)) between.doing }
    → outcome ≡ made.Request kind → IfSome o (λ d. Follows d kind h after outcome)
follows-request None kind h between after outcome busy ends asked same = tt
follows-request (Some d) kind h between after outcome busy ends asked same =
    subst (λ (outcome : Made). Follows d kind h after outcome) (sym same)
    (request-follows d kind h between after busy ends asked)

-- another segment is left
pub follows-segment : (o : Option Doing) (kind : ActKind) (h after : ClientValue) (outcome : Made) → h.doing ≡ o
    → is_some (left h) ≡ true
    → after ≡ record h { doing = option_map (moved_to (Working 0 0 0)) h.doing }
    → outcome ≡ made.Request kind → IfSome o (λ d. Follows d kind h after outcome)
follows-segment None kind h after outcome busy some asked same = tt
follows-segment (Some d) kind h after outcome busy some asked same =
    GoesOn (λ none. absurd (cc (sym some ∙ ap is_some none)))
    (asked ∙ ap (λ o. record h { doing = option_map (moved_to (Working 0 0 0)) o }) busy) same
