-- A block is missed only where another client owes it, or it may have been cleaned away.
use Rattle.std.proofs.Common.{◌≡◌, ℕ, suc, ◌+◌, ◌≤◌, ◌<◌, Bool, true, false, ◌&&◌, ◌||◌, not, ◌==◌, nat_lt, if◌then◌else◌, IsTrue, IsSomeAnd, MatchBool, ◌⊎◌, inl, inr, List, [], ◌∷◌, Option, None, Some, refl, sym, ap, subst, ◌∙◌, arith}
use Rattle.std.specs.List.{list_any}
use Rattle.std.proofs.lemmas.Bool.{and_parts, or_left, or_right}
use Rattle.std.proofs.lemmas.Bool.Decides.{nat_tests}
use Rattle.jv_model.specs.declared.act.Act.{Act}
use Rattle.jv_model.specs.declared.act.ActKind.TheVariants.{Miss}
use Rattle.jv_model.specs.declared.basics.Limits.{Limits}
use Rattle.jv_model.specs.declared.op.Op.{Op}
use Rattle.jv_model.specs.declared.op.Op.TheVariants as op
use Rattle.jv_model.specs.declared.profile.Answer.TheVariants as answer
use Rattle.jv_model.specs.declared.profile.Does.TheVariants.{Answers, Reads}
use Rattle.jv_model.specs.promise.Lists.{is_among}
use Rattle.jv_model.specs.promise.client.Origins.{Origin, Start as AtStart, Zero, Committed, Made, Owed, Owner, ACommit, TheStart, is_owed_by_another, missing_owner}
use Rattle.jv_model.specs.promise.client.Profile.{profile, handle_of}
use Rattle.jv_model.specs.promise.client.ModelClient.{ModelClient, OpenFile, View, Doing, file_of}
use Rattle.jv_model.specs.promise.client.Submission.{by_limits}
use Rattle.jv_model.specs.promise.journal.State.{State, FileChange, FileChangeKind, Written, Replaced, Ended, is_compaction}
use Rattle.jv_model.specs.promise.journal.Reading.{Asked, window_start, asked_parts, is_fresh, fresh_view, shows_all}
use Rattle.jv_model.specs.promise.journal.Steps.{Start, asked_of, part_in_use, MayBeGone, Owes, MayBeCleaned, may_be_cleaned, MissesBlock, CompactionMisses, MayMiss, MayStep}
use Rattle.jv_model.specs.promise.journal.Past.{Setup, Past, at_start, begun_to, reached}
use Rattle.jv_model.specs.promise.journal.Legal.{IsPublish, IsPublishOf, Refuses, LacksMemory as RefusalLacks, Sends, Ends, Fails}
use Rattle.jv_model.specs.journal.Looks.{entry_at}
use Rattle.jv_model_laws.specs.Laws.{part_at, AsksFor, ByRead, ByCompaction, IsOwedByAnother, OfCommit, OfStart, LetsGo, MayMissBlock, OwedByAnother, CleanedAway, MissesHaveCauses}
use Rattle.jv_model_laws.proofs.JournalGrowthLaws.{AllAllowed-parts, begun_frame}
use Rattle.jv_model_laws.proofs.JournalStateLaws.{Entry, Steps, RefusedSubmission, LacksMemory, Crashes, Publishes, OfDrain, Ticks, entry_of, run_reached}
use Rattle.jv_model_laws.proofs.JournalOwedLaws.{Owing, owing_on}
use Rattle.jv_model_laws.proofs.JournalLooksLaws.{IsLook, IsShown, AllShown, shown, first_found, fresh_is_of, view_seen, origins_in, state_after}
use Rattle.jv_model_laws.proofs.JournalDoingLaws.{Sound, SoundIf, sound}
use Rattle.jv_model_laws.proofs.misses.CompactionLookLaws.{IsOwnLook, LookedAt, LookedIf, all_looked}
use Rattle.jv_model_laws.proofs.misses.LetGoLaws.{IsLetGo, IsChange, AreChanges, IsSwept, Never, By, Recorded, all_recorded}

-- tests

either_holds : (a b : Bool) → IsTrue (a || b) → IsTrue a ⊎ IsTrue b
either_holds true b h = inl refl
either_holds false b h = inr h

if_some : (b : Bool) (x y : Owner) → ◌≡◌ {A = Option Owner} (if b then Some x else None) (Some y) → IsTrue b
if_some true x y e = refl
if_some false x y e = absurd (cc)

-- who owes a byte

record AnotherOwes (client commit : ℕ) (os : List Owed) : Type 0 where
  other : ℕ
  apart : other ≡ client → ⊥
  owed : IsTrue (list_any (λ (o : Owed). (o.commit == commit) && (o.client == other)) os)

both_first : (a b c : Bool) → IsTrue a → IsTrue b → IsTrue ((a && b) || c)
both_first true true c h g = refl
both_first true false c h g = absurd (cc)
both_first false b c h g = absurd (cc)

another_owes : (client commit : ℕ) (os : List Owed) → IsTrue (list_any (is_owed_by_another client commit) os) → AnotherOwes client commit os
another_owes client commit [] h = absurd (cc)
another_owes client commit (o ∷ os) h = elim (either_holds (is_owed_by_another client commit o) (list_any (is_owed_by_another client commit) os) h) [
  | inl here ↦ (
      let parts = and_parts (o.commit == commit) (not (o.client == client)) here in
      let off = parts.1 in
      record {
        other = o.client;
        apart = λ same. grind (arith, nat_tests);
        owed = both_first (o.commit == commit) (o.client == o.client) _ parts.0 (grind (arith, nat_tests));
      })
  | inr later ↦ (let rest = another_owes client commit os later in record { other = rest.other; apart = rest.apart; owed = or_right _ _ rest.owed })
]

record AnotherAmong (client : ℕ) (clients : List ℕ) : Type 0 where
  other : ℕ
  apart : other ≡ client → ⊥
  among : IsTrue (is_among other clients)

another_among : (client : ℕ) (clients : List ℕ) → IsTrue (list_any (λ q. not (q == client)) clients) → AnotherAmong client clients
another_among client [] h = absurd (cc)
another_among client (q ∷ qs) h = elim (either_holds (not (q == client)) (list_any (λ x. not (x == client)) qs) h) [
  | inl here ↦ record { other = q; apart = λ same. grind (arith, nat_tests); among = or_left (q == q) (is_among q qs) (grind (arith, nat_tests)) }
  | inr later ↦ (let rest = another_among client qs later in record { other = rest.other; apart = rest.apart; among = or_right (q == rest.other) (is_among rest.other qs) rest.among })
]

-- the cause

module _ (run : Setup) (journal : List Act) (start : Start) (started : start ≡ run.start) (s : State) (owing : Owing journal s) (recorded : Recorded run journal s) (client : ℕ) where
  owed_commit : (origin : Origin) (commit : ℕ) → origin ≡ Committed commit → AnotherOwes client commit s.owed → IsOwedByAnother run journal client origin
  owed_commit origin commit e h = OfCommit h.other commit h.apart e (owing.says h.other commit h.owed)

  owed_at_start : (origin : Origin) (inode position : ℕ) → origin ≡ AtStart inode position → AnotherAmong client (start.shelved inode position) → IsOwedByAnother run journal client origin
  owed_at_start origin inode position e h =
      OfStart h.other inode position h.apart e (subst (λ (x : Start). IsTrue (is_among h.other (x.shelved inode position))) started h.among)

  owed_origin : (origin : Origin) (owner : Owner) → missing_owner start.shelved s.owed client origin ≡ Some owner → IsOwedByAnother run journal client origin
  owed_origin (AtStart inode position) owner e = owed_at_start (AtStart inode position) inode position refl (another_among client (start.shelved inode position) (if_some _ TheStart owner e))
  owed_origin Zero owner e = absurd (cc)
  owed_origin (Committed commit) owner e = owed_commit (Committed commit) commit refl (another_owes client commit s.owed (if_some _ (ACommit commit) owner e))
  owed_origin Made owner e = absurd (cc)

  module _ (view : View) (from to : ℕ) where
    abbrev Cause : Type 0
    Cause = MayMissBlock run journal client view.inode view.entry from to

    cleaned_by : (before : ℕ) → LetsGo run journal before view.inode → view.entry ≤ before → suc before < s.swept → IsSwept run journal s.swept → Cause
    cleaned_by before go low high (Never none) = absurd (omega (arith, none, high))
    cleaned_by before go low high (By swept h) = let at = h.at in CleanedAway before swept low (omega (arith, at, high)) go h.request

    let_go : (entry inode : ℕ) → inode ≡ view.inode → view.entry < entry → entry < s.swept → IsLetGo run journal entry inode → Cause
    let_go entry inode same low high h =
        let at = h.at in
        cleaned_by h.before (subst (LetsGo run journal h.before) same h.lets_go) (omega (arith, at, low)) (omega (arith, at, high)) recorded.swept

    record Takes (takes : Bool) (entry inode : ℕ) : Type 0 where
      same : inode ≡ view.inode
      taking : IsTrue takes
      low : view.entry < entry
      high : entry < s.swept

    takes_of : (takes : Bool) (entry inode : ℕ) → IsTrue ((inode == view.inode) && takes && nat_lt view.entry entry && nat_lt entry s.swept || false) → Takes takes entry inode
    takes_of true entry inode h = record { same = grind (arith, nat_tests); taking = refl; low = grind (arith, nat_tests); high = grind (arith, nat_tests) }
    takes_of false entry inode h = absurd (grind (arith, nat_tests))

    cleaned_one : (entry inode : ℕ) (kind : FileChangeKind) → IsChange run journal entry inode kind
        → IsTrue (may_be_cleaned (record s { changes = record { entry = entry; inode = inode; kind = kind } ∷ [] }) view) → Cause
    cleaned_one entry inode Written is h = let never = (takes_of false entry inode h).taking in absurd (cc)
    cleaned_one entry inode Replaced is h = let t = takes_of true entry inode h in let_go entry inode t.same t.low t.high is
    cleaned_one entry inode Ended is h = let t = takes_of true entry inode h in let_go entry inode t.same t.low t.high is

    first_or_rest : (a b : Bool) → IsTrue (a || b) → IsTrue (a || false) ⊎ IsTrue b
    first_or_rest true b h = inl refl
    first_or_rest false b h = inr h

    cleaned_of : (changes : List FileChange) → AreChanges run journal changes → IsTrue (may_be_cleaned (record s { changes = changes }) view) → Cause
    cleaned_of [] are h = absurd (cc)
    cleaned_of (change ∷ changes) are h = elim (first_or_rest _ (may_be_cleaned (record s { changes = changes }) view) h) [
      | inl here ↦ cleaned_one change.entry change.inode change.kind are.0 here
      | inr later ↦ cleaned_of changes are.1 later
    ]

    cause_of : view.origin ≡ origins_in (state_after run journal view.entry) view.inode → MayBeGone start s client view from to → Cause
    cause_of seen (Owes position owner low high e) =
        OwedByAnother position low high (subst (λ (origins : ℕ → Origin). IsOwedByAnother run journal client (origins position)) seen (owed_origin (view.origin position) owner e))
    cause_of seen (MayBeCleaned h) = cleaned_of s.changes recorded.changes h

-- what a read asks for

record IsPart (window : ℕ) (parts : List Asked) (asked : Asked) : Type 0 where
  found : part_at window parts ≡ Some asked
  at : asked.window ≡ window

module _ (c : ModelClient) (handle : ℕ) (file : OpenFile) (window : ℕ) (asked : Asked) where
  abbrev later_part : Asked → List Asked → Option View → Option Asked
  later_part x others None = None
  later_part x others (Some view) = (if shows_all x view then part_in_use c handle file others window else None)

  part_further : (x : Asked) (others : List Asked) (o : Option View) → (part_in_use c handle file others window ≡ Some asked → IsPart window others asked)
      → later_part x others o ≡ Some asked → IsPart window others asked
  part_further x others None rest e = absurd (cc)
  part_further x others (Some view) rest e = part_shown (shows_all x view) rest e where
    part_shown : (b : Bool) → (part_in_use c handle file others window ≡ Some asked → IsPart window others asked)
        → ◌≡◌ {A = Option Asked} (if b then part_in_use c handle file others window else None) (Some asked) → IsPart window others asked
    part_shown true go h = go h
    part_shown false go h = absurd (cc)

  part_first : (x : Asked) (others : List Asked) (later : Option Asked) (b : Bool) → (x.window == window) ≡ b → (later ≡ Some asked → IsPart window others asked)
      → ◌≡◌ {A = Option Asked} (if b then Some x else later) (Some asked) → IsPart window (x ∷ others) asked
  part_first x others later true t rest e =
      let same : x ≡ asked = cc in
      let at : x.window ≡ window = grind (arith, nat_tests) in
      record { found = ap (λ q. if q then Some x else part_at window others) t ∙ ap Some same; at = ap (λ (y : Asked). y.window) (sym same) ∙ at }
  part_first x others later false t rest e =
      let r = rest e in
      record { found = ap (λ q. if q then Some x else part_at window others) t ∙ r.found; at = r.at }

  part_of : (parts : List Asked) → part_in_use c handle file parts window ≡ Some asked → IsPart window parts asked
  part_of [] e = absurd (cc)
  part_of (x ∷ others) e =
      part_first x others (later_part x others (fresh_view c.views handle file x.window)) (x.window == window) refl
      (part_further x others (fresh_view c.views handle file x.window) (part_of others)) e

record IsReadOf (o : Op) (parts : List Asked) : Type 0 where
  handle : ℕ
  offset : ℕ
  len : ℕ
  reads : o ≡ op.Read handle offset len
  parts_are : parts ≡ asked_parts offset len

abbrev has_parts : List Asked → Bool
has_parts [] = false
has_parts (asked ∷ others) = true

reads_part : (limits : Limits) (handle offset len : ℕ) (b : Bool) → IsTrue (has_parts (asked_of (by_limits limits (if b then Answers answer.NoData else Reads offset len))))
    → IsReadOf (op.Read handle offset len) (asked_of (by_limits limits (if b then Answers answer.NoData else Reads offset len)))
reads_part limits handle offset len true h = absurd (cc)
reads_part limits handle offset len false h = record { handle = handle; offset = offset; len = len; reads = refl; parts_are = refl }

read_of : (limits : Limits) (o : Op) → IsTrue (has_parts (asked_of (by_limits limits (profile o).does))) → IsReadOf o (asked_of (by_limits limits (profile o).does))
read_of limits (op.Read handle offset len) h = reads_part limits handle offset len _ h
read_of limits _ h = absurd (cc)

part_has : (window : ℕ) (parts : List Asked) (asked : Asked) → part_at window parts ≡ Some asked → IsTrue (has_parts parts)
part_has window [] asked e = absurd (cc)
part_has window (x ∷ parts) asked e = refl

-- the miss

module _ (run : Setup) (journal : List Act) (start : Start) (started : start ≡ run.start) (s : State) (owing : Owing journal s) (recorded : Recorded run journal s) (client : ℕ) (c : ModelClient) (d : Doing) (inode window : ℕ) where
  record Caused : Type 0 where
    look : ℕ
    from : ℕ
    to : ℕ
    asked : AsksFor journal client c d.op inode window look from to
    cause : MayMissBlock run journal client inode look from to

  cause_at : (view : View) (from to : ℕ) → inode ≡ view.inode → view.origin ≡ origins_in (state_after run journal view.entry) view.inode → MayBeGone start s client view from to
      → MayMissBlock run journal client inode view.entry from to
  cause_at view from to same seen gone = subst (λ i. MayMissBlock run journal client i view.entry from to) (sym same) (cause_of run journal start started s owing recorded client view from to seen gone)

  by_read : AllShown run journal client c.views → (limits : Limits) → d.does ≡ by_limits limits (profile d.op).does → MissesBlock start s client c d inode window → Caused
  by_read all limits does m =
      let part = part_of c (handle_of d.op) m.file window m.asked (asked_of d.does) m.at in
      let own_parts : asked_of d.does ≡ asked_of (by_limits limits (profile d.op).does) = ap asked_of does in
      let r = read_of limits d.op (subst (λ parts. IsTrue (has_parts parts)) own_parts (part_has window (asked_of d.does) m.asked part.found)) in
      let found = first_found (is_fresh (handle_of d.op) m.file window) c.views m.view (IsShown run journal client) all m.fresh in
      let seen = view_seen run journal client (handle_of d.op) m.file window m.view found.0 found.1 in
      let of = fresh_is_of (handle_of d.op) m.file window m.view found.1 in
      let asked : m.asked ≡ record { window = window; from = m.asked.from; to = m.asked.to } = ap (λ w. record { window = w; from = m.asked.from; to = m.asked.to }) part.at in
      record {
        look = m.view.entry;
        from = m.asked.from;
        to = m.asked.to;
        asked = ByRead (record {
          handle = r.handle;
          offset = r.offset;
          len = r.len;
          reads = r.reads;
          part = ap (part_at window) (sym (own_parts ∙ r.parts_are)) ∙ part.found ∙ ap Some asked;
          file = m.file;
          opened = ap (λ o. file_of c.handles (handle_of o)) (sym r.reads) ∙ m.opened;
          own = m.own;
          fresh = seen.fresh;
        });
        cause = cause_at m.view m.asked.from m.asked.to (m.own ∙ sym of.inode) found.0.origin m.gone;
      }

  by_compaction : LookedAt run journal client d.op d.stage → CompactionMisses start s client d inode window → Caused
  by_compaction looked m =
      let own : IsOwnLook run journal client d.op m.k.view = subst (LookedAt run journal client d.op) m.stage looked in
      record {
        look = m.k.view.entry;
        from = window_start window;
        to = window_start (window + 1);
        asked = ByCompaction (record {
          path = own.path;
          compacts = own.compacts ∙ ap (op.Compact own.path) (sym m.own.1);
          begins = refl;
          ends = refl;
          looked = subst (λ w. IsSomeAnd (entry_at journal m.k.view.entry) (IsLook client inode w)) (sym m.own.1) (subst (λ i. IsSomeAnd (entry_at journal m.k.view.entry) (IsLook client i m.k.view.window)) (sym m.own.0) own.looked);
          goes_on = own.goes_on;
        });
        cause = cause_at m.k.view (window_start window) (window_start (window + 1)) m.own.0 own.origin m.gone;
      }

  caused : AllShown run journal client c.views → (limits : Limits) → d.does ≡ by_limits limits (profile d.op).does → LookedAt run journal client d.op d.stage
      → (compacts : Bool) → MatchBool compacts (CompactionMisses start s client d inode window) (MissesBlock start s client c d inode window) → Caused
  caused all limits does looked true m = by_compaction looked m
  caused all limits does looked false m = by_read all limits does m

record IsMissStep (p : Past) (act : Act) (inode window : ℕ) : Type 0 where
  doing : Doing
  busy : (p.state.clients act.client).doing ≡ Some doing
  may : MayMiss p.run.start p.state act.client (p.state.clients act.client) doing inode window

miss_step : (p : Past) (act : Act) (inode window : ℕ) → act.kind ≡ Miss inode window → Entry p act → IsMissStep p act inode window
miss_step p act inode window k (Steps d e may) = record { doing = d; busy = e; may = subst (λ kind. MayStep p.run.start (p.run.uploads == 0) p.state act.client act.at (p.state.clients act.client) d kind) k may }
miss_step p act inode window k (RefusedSubmission fault e (Refuses k')) = absurd (cc)
miss_step p act inode window k (RefusedSubmission fault e (RefusalLacks b k')) = absurd (cc)
miss_step p act inode window k (LacksMemory e k') = absurd (cc)
miss_step p act inode window k (Crashes e k') = absurd (cc)
miss_step p act inode window k (Publishes e h) = absurd (subst (IsPublish p.state) k h)
miss_step p act inode window k (OfDrain client e due (Sends h)) = absurd (subst (IsPublishOf p.state client) k h)
miss_step p act inode window k (OfDrain client e due (Ends h k')) = absurd (cc)
miss_step p act inode window k (OfDrain client e due (Fails told h k')) = absurd (cc)
miss_step p act inode window k (Ticks by e k') = absurd (cc)

pub misses_caused : MissesHaveCauses
misses_caused run journal act may some inode window k =
    let parts = AllAllowed-parts (at_start run) journal (act ∷ []) may in
    let p = begun_to act.line (reached run journal) in
    let c = p.state.clients act.client in
    let m = miss_step p act inode window k (entry_of p act parts.1.0) in
    let d = m.doing in
    let started : p.run.start ≡ run.start = ap (λ (r : Setup). r.start) ((begun_frame act.line (reached run journal)).run ∙ run_reached run journal) in
    let h : Sound run.limits c.handles c.pending d = subst (SoundIf run.limits c.handles c.pending) m.busy (sound run journal parts.0 act.line act.client some) in
    let looked : LookedAt run journal act.client d.op d.stage = subst (LookedIf run journal act.client) m.busy ((all_looked run journal parts.0 act.line).clients act.client some) in
    let r = caused run journal p.run.start started p.state (owing_on run journal parts.0 act.line) (all_recorded run journal parts.0 act.line) act.client c d inode window
    ((shown run journal parts.0 act.line).clients act.client) run.limits h.does looked (is_compaction d.does) m.may in
    record { doing = d; in_progress = m.busy; look = r.look; from = r.from; to = r.to; asked = r.asked; cause = r.cause }
