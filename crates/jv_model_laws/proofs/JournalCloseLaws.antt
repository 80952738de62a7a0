-- What a write that is done wrote is committed before a close of the file is done.
use Rattle.std.proofs.Common.{◌≡◌, ℕ, zero, suc, ◌+◌, ◌≤◌, ◌<◌, Bool, true, false, ◌&&◌, ◌||◌, not, ◌==◌, nat_lt, nat_le, if◌then◌else◌, IsTrue, IsSomeAnd, ◌⊎◌, inl, inr, List, [], ◌∷◌, ◌++◌, length, Option, None, Some, refl, sym, ap, subst, ◌∙◌, arith, append_assoc}
use Rattle.std.proofs.lemmas.Bool.{or_left, or_right}
use Rattle.std.proofs.lemmas.List.{append-nil}
use Rattle.std.proofs.lemmas.Bool.Decides.{nat_tests, eqb_tells}
use Rattle.jv_model.specs.declared.act.TheConstants.{NO_CLIENT}
use Rattle.jv_model.specs.declared.act.Act.{Act}
use Rattle.jv_model.specs.declared.act.ActKind.{ActKind}
use Rattle.jv_model.specs.declared.act.ActKind.TheVariants.{Mounted, Meta, Opened, Look, Commit, Truncated, Copied, Compacted, Settled, Expired, Purged, Cleaned, Quiet, Miss, Crashed, Ticked, Answered}
use Rattle.jv_model.specs.declared.act.Told.{Told}
use Rattle.jv_model.specs.declared.act.Told.TheVariants.{Fine, Looks, Refused as ToldRefused}
use Rattle.jv_model.specs.declared.fault.Fault.{Fault}
use Rattle.jv_model.specs.declared.fault.Fault.TheVariants.{Stale}
use Rattle.jv_model.specs.declared.fault.Gone.{Gone}
use Rattle.jv_model.specs.declared.fault.Gone.TheVariants.{Session, Node}
use Rattle.jv_model.specs.declared.op.Op.{Op}
use Rattle.jv_model.specs.declared.op.Op.TheVariants as op
use Rattle.jv_model.specs.declared.op.Reply.TheVariants as reply
use Rattle.jv_model.specs.promise.client.Profile.{handle_of}
use Rattle.jv_model.specs.promise.client.Pending.{PendingByte, stands_at, comes_before, byte_set, written, is_in_range, without_range, pending_of, pending_of_others}
use Rattle.jv_model.specs.promise.client.ModelClient.{ModelClient, View, Doing, Stage, Replying, with_stage, inode_at, views_without}
use Rattle.jv_model.specs.promise.client.Submission.{submission, submitted}
use Rattle.jv_model.specs.promise.journal.State.{State, with_client, set_client, committed_stage, finished, refused_as, after_told, answered_client, is_of_another, after_transaction, after_step, after_other, of_doing, changed, effect, is_compaction, looked, view_now}
use Rattle.jv_model.specs.promise.journal.Past.{Setup, Past, at_start, begun_to, reached}
use Rattle.jv_model.specs.promise.journal.Legal.{Allowed, AllAllowed}
use Rattle.jv_model.specs.journal.Looks.{entry_at}
use Rattle.jv_model.proofs.TestLaws.{either_kept}
use Rattle.jv_model_laws.specs.Laws.{AnswersWrite, ClosesCommitWrites, ResolvesWrite, commits_position, loses_pending, is_fine_answer, HasCommitted}
use Rattle.jv_model_laws.proofs.JournalGrowthLaws.{AllAllowed-append, AllAllowed-parts, own_client, others_kept}
use Rattle.jv_model_laws.proofs.JournalStateLaws.{entry_of, keeps_begun_to, reached-more, state-more, run_reached, of_kind}
use Rattle.jv_model_laws.proofs.JournalLooksLaws.{stage_files, transaction_files}
use Rattle.jv_model_laws.proofs.JournalDoingLaws.{sound, fine_committed, nothing_pending}

-- whether a byte is pending at a place
abbrev has_place : ℕ → ℕ → List PendingByte → Bool
has_place inode position [] = false
has_place inode position (b ∷ bs) = stands_at inode position b || has_place inode position bs

module _ (i q : ℕ) where
  same_place : (inode position byte : ℕ) (b : PendingByte) → IsTrue (stands_at inode position b) → IsTrue (stands_at i q b) → IsTrue (stands_at i q (record { inode = inode; position = position; byte = byte }))
  same_place inode position byte b at here = grind (arith, nat_tests)

  -- a byte that is set leaves the other places
  set_branch : (inode position byte : ℕ) (b : PendingByte) (bs more : List PendingByte) (at before : Bool) → stands_at inode position b ≡ at → (IsTrue (has_place i q bs) → IsTrue (has_place i q more))
      → IsTrue (has_place i q (b ∷ bs))
      → IsTrue (has_place i q (if at then record { inode = inode; position = position; byte = byte } ∷ bs else if before then record { inode = inode; position = position; byte = byte } ∷ b ∷ bs else b ∷ more))
  set_branch inode position byte b bs more true before e rest h = either_kept (stands_at i q b) (has_place i q bs) (stands_at i q (record { inode = inode; position = position; byte = byte })) (has_place i q bs) (same_place inode position byte b e) (λ x. x) h
  set_branch inode position byte b bs more false true e rest h = either_kept false (has_place i q (b ∷ bs)) (stands_at i q (record { inode = inode; position = position; byte = byte })) (has_place i q (b ∷ bs)) (λ x. cc) (λ x. x) h
  set_branch inode position byte b bs more false false e rest h = either_kept (stands_at i q b) (has_place i q bs) (stands_at i q b) (has_place i q more) (λ x. x) rest h

  set_keeps : (inode position byte : ℕ) (bs : List PendingByte) → IsTrue (has_place i q bs) → IsTrue (has_place i q (byte_set inode position byte bs))
  set_keeps inode position byte [] h = cc
  set_keeps inode position byte (b ∷ bs) h = set_branch inode position byte b bs (byte_set inode position byte bs) (stands_at inode position b) (comes_before inode position b) refl (set_keeps inode position byte bs) h

  stands_here : (byte : ℕ) → IsTrue (stands_at i q (record { inode = i; position = q; byte = byte }))
  stands_here byte = grind (arith, nat_tests)

  set_here_branch : (byte : ℕ) (b : PendingByte) (bs more : List PendingByte) (at before : Bool) → IsTrue (has_place i q more)
      → IsTrue (has_place i q (if at then record { inode = i; position = q; byte = byte } ∷ bs else if before then record { inode = i; position = q; byte = byte } ∷ b ∷ bs else b ∷ more))
  set_here_branch byte b bs more true before h = or_left _ (has_place i q bs) (stands_here byte)
  set_here_branch byte b bs more false true h = or_left _ (has_place i q (b ∷ bs)) (stands_here byte)
  set_here_branch byte b bs more false false h = or_right (stands_at i q b) (has_place i q more) h

  set_here : (byte : ℕ) (bs : List PendingByte) → IsTrue (has_place i q (byte_set i q byte bs))
  set_here byte [] = or_left _ false (stands_here byte)
  set_here byte (b ∷ bs) = set_here_branch byte b bs (byte_set i q byte bs) (stands_at i q b) (comes_before i q b) (set_here byte bs)

  written_keeps : (inode from : ℕ) (bytes : List ℕ) (bs : List PendingByte) → IsTrue (has_place i q bs) → IsTrue (has_place i q (written inode from bytes bs))
  written_keeps inode from [] bs h = h
  written_keeps inode from (byte ∷ bytes) bs h = set_keeps inode from byte (written inode (from + 1) bytes bs) (written_keeps inode (from + 1) bytes bs h)

  written_here : (from : ℕ) (bytes : List ℕ) (bs : List PendingByte) → from ≤ q → q < from + length bytes → IsTrue (has_place i q (written i from bytes bs))
  written_here from [] bs low high = absurd (omega arith)
  written_here from (byte ∷ bytes) bs low high = elim (eqb_tells from q) [
    | inl here ↦ subst (λ n. IsTrue (has_place i q (byte_set i n byte (written i (from + 1) bytes bs)))) (sym here.1) (set_here byte (written i (from + 1) bytes bs))
    | inr there ↦ (let apart = there.1 in let above : from + 1 ≤ q = omega arith in let below : q < (from + 1) + length bytes = omega arith in
        set_keeps i from byte (written i (from + 1) bytes bs) (written_here (from + 1) bytes bs above below))
  ]

  -- what a range takes out is in it
  abbrev in_range_of : ℕ → ℕ → ℕ → Bool
  in_range_of inode from len = (inode == i) && nat_le from q && nat_lt q (from + len)

  kept_branch : (inode from len : ℕ) (b : PendingByte) (bs more : List PendingByte) (keep : Bool) → not (is_in_range inode from len b) ≡ keep → in_range_of inode from len ≡ false
      → (IsTrue (has_place i q bs) → IsTrue (has_place i q more)) → IsTrue (has_place i q (b ∷ bs)) → IsTrue (has_place i q (if keep then b ∷ more else more))
  kept_branch inode from len b bs more true e out rest h = either_kept (stands_at i q b) (has_place i q bs) (stands_at i q b) (has_place i q more) (λ x. x) rest h
  kept_branch inode from len b bs more false e out rest h =
      let elsewhere : stands_at i q b ≡ false = grind (arith, nat_tests) in
      rest (subst (λ s. IsTrue (s || has_place i q bs)) elsewhere h)

  without_keeps : (inode from len : ℕ) (bs : List PendingByte) → in_range_of inode from len ≡ false → IsTrue (has_place i q bs) → IsTrue (has_place i q (without_range inode from len bs))
  without_keeps inode from len [] out h = h
  without_keeps inode from len (b ∷ bs) out h = kept_branch inode from len b bs (without_range inode from len bs) (not (is_in_range inode from len b)) refl out (without_keeps inode from len bs out) h

  none_branch : (b : PendingByte) (bs more : List PendingByte) (keep : Bool) → (b.inode == i) ≡ keep → (IsTrue (has_place i q bs) → more ≡ [] → ⊥) → IsTrue (has_place i q (b ∷ bs)) → (if keep then b ∷ more else more) ≡ [] → ⊥
  none_branch b bs more true e rest h none = cc
  none_branch b bs more false e rest h none =
      let elsewhere : stands_at i q b ≡ false = grind (arith, nat_tests) in
      rest (subst (λ s. IsTrue (s || has_place i q bs)) elsewhere h) none

  not_none : (bs : List PendingByte) → IsTrue (has_place i q bs) → pending_of i bs ≡ [] → ⊥
  not_none [] h none = cc
  not_none (b ∷ bs) h none = none_branch b bs (pending_of i bs) (b.inode == i) refl (not_none bs) h none

-- a client's pending byte stays through other steps

module _ (i q : ℕ) where
  off_place : (gone : ℕ) (b : PendingByte) → not (b.inode == gone) ≡ false → (gone ≡ i → ⊥) → stands_at i q b ≡ false
  off_place gone b e apart = elim (eqb_tells b.inode i) [
    | inl same ↦ absurd (apart (let n = same.1 in grind (arith, nat_tests)))
    | inr other ↦ (let n = other.0 in ap (λ t. t && (b.position == q)) n)
  ]

  others_branch : (gone : ℕ) (b : PendingByte) (bs more : List PendingByte) (keep : Bool) → not (b.inode == gone) ≡ keep → (gone ≡ i → ⊥) → (IsTrue (has_place i q bs) → IsTrue (has_place i q more)) → IsTrue (has_place i q (b ∷ bs)) → IsTrue (has_place i q (if keep then b ∷ more else more))
  others_branch gone b bs more true e apart rest h = either_kept (stands_at i q b) (has_place i q bs) (stands_at i q b) (has_place i q more) (λ x. x) rest h
  others_branch gone b bs more false e apart rest h =
      let elsewhere : stands_at i q b ≡ false = off_place gone b e apart in
      rest (subst (λ s. IsTrue (s || has_place i q bs)) elsewhere h)

  abbrev HasByte : List PendingByte → Type 0
  HasByte pending = IsTrue (has_place i q pending)

  -- an entry commits the byte or loses it, or it stays
  abbrev Kept : ActKind → ModelClient → Type 0
  Kept kind c = (IsTrue (commits_position i q kind) ⊎ IsTrue (loses_pending i kind)) ⊎ HasByte c.pending

  others_keep : (gone : ℕ) (bs : List PendingByte) → (gone ≡ i → ⊥) → HasByte bs → HasByte (pending_of_others gone bs)
  others_keep gone [] h g = g
  others_keep gone (b ∷ bs) h g = others_branch gone b bs (pending_of_others gone bs) (not (b.inode == gone)) refl h (others_keep gone bs h) g

  kept_same : (kind : ActKind) (c d : ModelClient) → d.pending ≡ c.pending → HasByte c.pending → Kept kind d
  kept_same kind c d e h = inr (subst HasByte (sym e) h)

  finished_kept : (kind : ActKind) (o : Op) (c : ModelClient) → (o ≡ op.Umount → c.pending ≡ []) → HasByte c.pending → Kept kind (finished o c)
  finished_kept kind op.Umount c none h = let no : HasByte [] = subst HasByte (none refl) h in absurd (cc)
  finished_kept kind (op.Write handle offset bytes) c none h = inr (written_keeps i q (inode_at c handle) offset bytes c.pending h)
  finished_kept kind _ c none h = inr h

  refused_gone : (gone : Gone) (c : ModelClient) → HasByte c.pending → Kept (Answered (ToldRefused (Stale gone))) (refused_as (Stale gone) c)
  refused_gone (Session sid) c h = inl (inr refl)
  refused_gone (Node inode) c h = elim (eqb_tells inode i) [
    | inl same ↦ inl (inr same.0)
    | inr other ↦ inr (others_keep inode c.pending other.1 h)
  ]

  refused_kept : (fault : Fault) (c : ModelClient) → HasByte c.pending → Kept (Answered (ToldRefused fault)) (refused_as fault c)
  refused_kept (Stale gone) c h = refused_gone gone c h
  refused_kept _ c h = inr h

  told_kept : (o : Op) (told : Told) (c : ModelClient) → (IsTrue (is_fine_answer (Answered told)) → o ≡ op.Umount → c.pending ≡ []) → HasByte c.pending → Kept (Answered told) (after_told o told c)
  told_kept o (Fine a b d e) c none h = finished_kept (Answered (Fine a b d e)) o c (none refl) h
  told_kept o (Looks first second len) c none h = finished_kept (Answered (Looks first second len)) o c (none refl) h
  told_kept o (ToldRefused fault) c none h = refused_kept fault c h

  either_kept_client : (kind : ActKind) (b : Bool) (c d : ModelClient) → Kept kind c → Kept kind d → Kept kind (if b then c else d)
  either_kept_client kind true c d h g = h
  either_kept_client kind false c d h g = g

  answered_kept_if : (told : Told) (c : ModelClient) (o : Option Doing) → ((d : Doing) → o ≡ Some d → IsTrue (is_fine_answer (Answered told)) → d.op ≡ op.Umount → c.pending ≡ []) → HasByte c.pending
      → Kept (Answered told) (elim o as (λ _. ModelClient) [ None ↦ c | Some d ↦ (if is_of_another d.stage told then c else after_told d.op told c) ])
  answered_kept_if told c None none h = inr h
  answered_kept_if told c (Some d) none h = either_kept_client (Answered told) (is_of_another d.stage told) c (after_told d.op told c) (inr h) (told_kept d.op told c (none d refl) h)

  own_kept : (kind : ActKind) (clients : ℕ → ModelClient) (at : ℕ) (c : ModelClient) → Kept kind c → Kept kind (with_client clients at c at)
  own_kept kind clients at c h = subst (Kept kind) (sym (own_client clients at c)) h

  commit_kept : (inode from len staged : ℕ) (c : ModelClient) (hit : Bool) → in_range_of i q inode from len ≡ hit → HasByte c.pending → Kept (Commit inode from len staged) (record c { pending = without_range inode from len c.pending; views = views_without inode c.views })
  commit_kept inode from len staged c true e h = inl (inl e)
  commit_kept inode from len staged c false e h = inr (without_keeps i q inode from len c.pending e h)

  staged_kept : (kind : ActKind) (stage : Stage) (c : ModelClient) → Kept kind c → Kept kind (with_stage stage c)
  staged_kept kind stage c (inl h) = inl h
  staged_kept kind stage c (inr h) = inr (subst HasByte (sym (stage_files stage c).pending) h)

  module _ (s : State) (act : Act) (d : Doing) where
    abbrev c : ModelClient
    c = s.clients act.client

    stage_kept : (kind : ActKind) (stage : Stage) → HasByte c.pending → Kept kind (with_client s.clients act.client (with_stage stage c) act.client)
    stage_kept kind stage h = own_kept kind s.clients act.client (with_stage stage c) (staged_kept kind stage c (inr h))

    viewed_kept : (kind : ActKind) (stage : Stage) (views : List View) → HasByte c.pending → Kept kind (with_client s.clients act.client (with_stage stage (record c { views = views })) act.client)
    viewed_kept kind stage views h = own_kept kind s.clients act.client (with_stage stage (record c { views = views })) (staged_kept kind stage (record c { views = views }) (inr h))

    looked_kept : (kind : ActKind) (compacts : Bool) (first second : Stage) (views : List View) → HasByte c.pending → Kept kind (with_client s.clients act.client (if compacts then with_stage first c else with_stage second (record c { views = views })) act.client)
    looked_kept kind true first second views h = stage_kept kind first h
    looked_kept kind false first second views h = viewed_kept kind second views h

    step_kept : (kind : ActKind) → HasByte c.pending → Kept kind ((after_step s act d kind).clients act.client)
    step_kept (Mounted sid) h = kept_same (Mounted sid) c ((after_transaction s act.client act.at d).clients act.client) (transaction_files s act.client act.at d).pending h
    step_kept Meta h = kept_same Meta c ((after_transaction s act.client act.at d).clients act.client) (transaction_files s act.client act.at d).pending h
    step_kept (Opened handle inode) h = kept_same (Opened handle inode) c ((after_transaction s act.client act.at d).clients act.client) (transaction_files s act.client act.at d).pending h
    step_kept (Look inode window) h = looked_kept (Look inode window) (is_compaction d.does) _ (looked d.stage) (view_now s (handle_of d.op) inode window ∷ c.views) h
    step_kept (Commit inode from len staged) h =
        let rest : ModelClient = record c { pending = without_range inode from len c.pending; views = views_without inode c.views } in
        own_kept (Commit inode from len staged) s.clients act.client (with_stage (committed_stage rest d) rest) (staged_kept (Commit inode from len staged) (committed_stage rest d) rest (commit_kept inode from len staged c (in_range_of i q inode from len) refl h))
    step_kept (Truncated inode len) h = viewed_kept (Truncated inode len) (Replying reply.Done) (views_without inode c.views) h
    step_kept (Copied source from target to len) h = viewed_kept (Copied source from target to len) (Replying (reply.Count len)) (views_without target c.views) h
    step_kept (Compacted inode window from to) h = stage_kept (Compacted inode window from to) _ h
    step_kept (Settled commit) h = stage_kept (Settled commit) _ h
    step_kept (Expired sid) h = stage_kept (Expired sid) _ h
    step_kept (Purged inode) h = stage_kept (Purged inode) _ h
    step_kept (Cleaned table key) h = stage_kept (Cleaned table key) _ h
    step_kept Quiet h = stage_kept Quiet _ h
    step_kept (Miss inode window) h = stage_kept (Miss inode window) _ h
    step_kept Crashed h = inr h
    step_kept (Ticked by) h = inr h
    step_kept (Answered told) h = inr h

  other_kept : (s : State) (client : ℕ) (kind : ActKind) → HasByte (s.clients client).pending → Kept kind ((after_other s kind).clients client)
  other_kept s client (Settled commit) h = inr h
  other_kept s client _ h = inr h

  doing_kept : (s : State) (act : Act) (o : Option Doing) → HasByte (s.clients act.client).pending → Kept act.kind ((of_doing s act o).clients act.client)
  doing_kept s act None h = other_kept s act.client act.kind h
  doing_kept s act (Some d) h = step_kept s act d act.kind h

  changed_kept : (s : State) (act : Act) (kind : ActKind) → ((d : Doing) → (s.clients act.client).doing ≡ Some d → IsTrue (is_fine_answer kind) → d.op ≡ op.Umount → (s.clients act.client).pending ≡ [])
      → HasByte (s.clients act.client).pending → Kept kind ((changed s (of_kind act kind) kind).clients act.client)
  changed_kept s act Crashed none h = inl (inr refl)
  changed_kept s act (Answered told) none h = own_kept (Answered told) s.clients act.client _ (answered_kept_if told (s.clients act.client) (s.clients act.client).doing none h)
  changed_kept s act kind none h = doing_kept s (of_kind act kind) (s.clients act.client).doing h

module _ (run : Setup) (who i q : ℕ) (some : who ≡ NO_CLIENT → ⊥) where
  abbrev Has : (ℕ → ModelClient) → Type 0
  Has clients = HasByte i q (clients who).pending

  -- one more entry
  abbrev Left : Act → (ℕ → ModelClient) → Type 0
  Left act clients = ResolvesWrite who i q act ⊎ Has clients

  own_left : (act : Act) (s : State) → act.client ≡ who → Kept i q act.kind (s.clients act.client) → Left act s.clients
  own_left act s e (inl h) = inl (record { own = e; resolves = h })
  own_left act s e (inr h) = inr (subst (λ c. HasByte i q (s.clients c).pending) e h)

  has_entry : (pre : List Act) (act : Act) → AllAllowed (at_start run) pre → Allowed (begun_to act.line (reached run pre)) act → Has (begun_to act.line (reached run pre)).state.clients → Left act (effect (begun_to act.line (reached run pre)).state act).clients
  has_entry pre act before may h =
      let b = begun_to act.line (reached run pre) in
      elim (eqb_tells act.client who) [
        | inl own ↦ (
            let other : act.client ≡ NO_CLIENT → ⊥ = λ e. some (sym own.1 ∙ e) in
            let ok = sound run pre before act.line act.client other in
            own_left act (effect b.state act) own.1 (changed_kept i q b.state act act.kind
            (λ d busy fine o. (fine_committed run.limits b act (entry_of b act may) other d busy fine ok).all o)
            (subst (λ c. HasByte i q (b.state.clients c).pending) (sym own.1) h)))
        | inr apart ↦ inr (subst (λ (c : ModelClient). HasByte i q c.pending) (sym (others_kept b.state act who (λ e. apart.1 (sym e)))) h)
      ]

  has_submits : (pre : List Act) (s : State) (client : ℕ) (o : Op) → submission (s.clients client) o ≡ None → Has s.clients → Has (set_client s client (submitted run.limits o (s.clients client))).clients
  has_submits pre s client o none h = elim (eqb_tells who client) [
    | inl same ↦ subst (λ b. HasByte i q (if b then submitted run.limits o (s.clients client) else s.clients who).pending) (sym same.0) (subst (λ c. HasByte i q (s.clients c).pending) same.1 h)
    | inr other ↦ subst (λ b. HasByte i q (if b then submitted run.limits o (s.clients client) else s.clients who).pending) (sym other.0) h
  ]

  has_begun : (line : ℕ) (p : Past) → p.run ≡ run → Has p.state.clients → Has (begun_to line p).state.clients
  has_begun line p e h = keeps_begun_to run (λ pre s. Has s.clients) has_submits [] line p e h

  abbrev ResolvedIn : List Act → Type 0
  ResolvedIn acts = (number : ℕ) × IsSomeAnd (entry_at acts number) (ResolvesWrite who i q)

  later_entry : (act : Act) (acts : List Act) (n : ℕ) → IsSomeAnd (entry_at acts n) (ResolvesWrite who i q) → IsSomeAnd (entry_at (act ∷ acts) (suc n)) (ResolvesWrite who i q)
  later_entry act acts zero h = absurd h
  later_entry act acts (suc n) h = h

  has_more : (pre acts : List Act) → AllAllowed (at_start run) pre → AllAllowed (reached run pre) acts → Has (reached run pre).state.clients → ResolvedIn acts ⊎ Has (reached run (pre ++ acts)).state.clients
  has_more pre [] before may h = inr (subst (λ l. Has (reached run l).state.clients) (sym (append-nil pre)) h)
  has_more pre (act ∷ acts) before may h = elim (has_entry pre act before may.0 (has_begun act.line (reached run pre) (run_reached run pre) h)) [
    | inl resolved ↦ inl (1, resolved)
    | inr kept ↦ elim (has_more (pre ++ act ∷ []) acts (AllAllowed-append (at_start run) pre (act ∷ []) before (may.0, tt)) (subst (λ p. AllAllowed p acts) (sym (reached-more run pre act)) may.1) (subst (λ (s : State). Has s.clients) (sym (state-more run pre act)) kept)) [
      | inl c ↦ inl (suc c.0, later_entry act acts c.0 c.1)
      | inr k ↦ inr (subst (λ l. Has (reached run l).state.clients) (append_assoc pre (act ∷ []) acts) k)
    ]
  ]

-- a write that is done is pending

not_another : (stage : Stage) (told : Told) → IsTrue (is_fine_answer (Answered told)) → is_of_another stage told ≡ false
not_another stage (ToldRefused fault) fine = absurd (cc)
not_another (Replying r) _ fine = refl
not_another _ _ fine = refl

finished_told : (o : Op) (told : Told) (c : ModelClient) → IsTrue (is_fine_answer (Answered told)) → (after_told o told c).pending ≡ (finished o c).pending
finished_told o (Fine a b d e) c fine = refl
finished_told o (Looks first second len) c fine = refl
finished_told o (ToldRefused fault) c fine = absurd (cc)

answered_pending : (told : Told) (c : ModelClient) (o : Option Doing) (d : Doing) → o ≡ Some d → IsTrue (is_fine_answer (Answered told))
    → (elim o as (λ _. ModelClient) [ None ↦ c | Some x ↦ (if is_of_another x.stage told then c else after_told x.op told c) ]).pending ≡ (finished d.op c).pending
answered_pending told c None d e fine = absurd (cc)
answered_pending told c (Some x) d e fine =
    let same : x ≡ d = cc in
    subst (λ b. (if b then c else after_told x.op told c).pending ≡ (finished d.op c).pending) (sym (not_another x.stage told fine)) (finished_told x.op told c fine ∙ ap (λ (y : Doing). (finished y.op c).pending) same)

wrote_kind : (s : State) (act : Act) (kind : ActKind) (d : Doing) (handle offset : ℕ) (bytes : List ℕ) → (s.clients act.client).doing ≡ Some d → d.op ≡ op.Write handle offset bytes → IsTrue (is_fine_answer kind)
    → ((effect s (record act { kind = kind })).clients act.client).pending ≡ written (inode_at (s.clients act.client) handle) offset bytes (s.clients act.client).pending
wrote_kind s act (Answered told) d handle offset bytes busy o fine =
    let c = s.clients act.client in
    ap (λ (x : ModelClient). x.pending) (own_client s.clients act.client (answered_client told c)) ∙ answered_pending told c c.doing d busy fine ∙ ap (λ p. (finished p c).pending) o
wrote_kind s act _ d handle offset bytes busy o fine = absurd (cc)

wrote_entry : (p : Past) (act : Act) (i q : ℕ) → AnswersWrite p act i q → HasByte i q ((effect p.state act).clients act.client).pending
wrote_entry p act i q w =
    let c = p.state.clients act.client in
    subst (HasByte i q) (sym (wrote_kind p.state act act.kind w.doing w.handle w.offset w.bytes w.in_progress w.writes w.done))
    (subst (λ n. HasByte i q (written n w.offset w.bytes c.pending)) (sym w.of_file) (written_here i q w.offset w.bytes c.pending w.low w.high))

closed_none : (c : ModelClient) (o : Op) (handle : ℕ) → o ≡ op.Close handle → HasCommitted c o → pending_of (inode_at c handle) c.pending ≡ []
closed_none c o handle e h = let t : HasCommitted c (op.Close handle) = subst (HasCommitted c) e h in t.files.0

pub closes_commit : ClosesCommitWrites
closes_commit run before acts write close h same some handle i q w a file =
    let whole = AllAllowed-parts (at_start run) (before ++ write ∷ acts) (close ∷ []) h in
    let parts = AllAllowed-parts (at_start run) before (write ∷ acts) whole.0 in
    let placed = subst (λ (s : State). Has run write.client i q some s.clients) (sym (state-more run before write)) (wrote_entry (begun_to write.line (reached run before)) write i q w) in
    elim (has_more run write.client i q some (before ++ write ∷ []) acts (AllAllowed-append (at_start run) before (write ∷ []) parts.0 (parts.1.0, tt)) (subst (λ p. AllAllowed p acts) (sym (reached-more run before write)) parts.1.1) placed) [
      | inl resolved ↦ resolved
      | inr left ↦ (
          let end = reached run (before ++ write ∷ acts) in
          let left_end : Has run write.client i q some end.state.clients = subst (λ l. Has run write.client i q some (reached run l).state.clients) (append_assoc before (write ∷ []) acts) left in
          let b = begun_to close.line end in
          let left_close : HasByte i q (b.state.clients close.client).pending = subst (λ c. HasByte i q (b.state.clients c).pending) (sym same) (has_begun run write.client i q some close.line end (run_reached run (before ++ write ∷ acts)) left_end) in
          let committed = nothing_pending run (before ++ write ∷ acts) close h (λ e. some (sym same ∙ e)) a.doing a.in_progress a.done in
          let none = closed_none (b.state.clients close.client) a.doing.op handle a.closes committed in
          let none_of : pending_of i (b.state.clients close.client).pending ≡ [] = subst (λ n. pending_of n (b.state.clients close.client).pending ≡ []) file none in
          absurd (not_none i q (b.state.clients close.client).pending left_close none_of))
    ]
