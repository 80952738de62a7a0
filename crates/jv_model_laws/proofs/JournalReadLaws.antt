-- What a read returns, by the fresh looks that it cites.
use Rattle.std.proofs.Common.{◌≡◌, ℕ, ◌+◌, ◌-◌, ◌≤◌, min, Bool, true, false, ◌&&◌, ◌||◌, ◌==◌, nat_le, if◌then◌else◌, IsTrue, inl, inr, List, [], ◌∷◌, ◌++◌, length, take, Option, None, Some, refl, sym, ap, subst, ◌∙◌, arith}
use Rattle.std.proofs.lemmas.Bool.{and_parts, le-leb}
use Rattle.std.specs.Option.{option_map}
use Rattle.std.proofs.lemmas.Bool.Decides.{nat_tests, leb_tells, eqb_tells}
use Rattle.std.specs.Prelude.{unwrap_or}
use Rattle.jv_model.specs.declared.limits.TheConstants.{FILE_END}
use Rattle.jv_model.specs.declared.act.TheConstants.{NO_CLIENT}
use Rattle.jv_model.specs.declared.act.Act.{Act}
use Rattle.jv_model.specs.declared.act.ActKind.{ActKind}
use Rattle.jv_model.specs.declared.act.ActKind.TheVariants.{Answered}
use Rattle.jv_model.specs.declared.act.Told.{Told}
use Rattle.jv_model.specs.declared.act.Told.TheVariants.{Looks, Refused as ToldRefused}
use Rattle.jv_model.specs.declared.basics.Limits.{Limits}
use Rattle.jv_model.specs.declared.op.Op.{Op}
use Rattle.jv_model.specs.declared.op.Op.TheVariants as op
use Rattle.jv_model.specs.declared.op.Reply.{Reply}
use Rattle.jv_model.specs.declared.op.Reply.TheVariants as reply
use Rattle.jv_model.specs.declared.profile.Answer.TheVariants as answer
use Rattle.jv_model.specs.declared.profile.Does.{Does}
use Rattle.jv_model.specs.declared.profile.Does.TheVariants.{Answers, Reads, Uploads}
use Rattle.jv_model.specs.promise.tree.Tree.{content_at}
use Rattle.jv_model.specs.promise.client.Profile.{profile, handle_of}
use Rattle.jv_model.specs.promise.client.ModelClient.{ModelClient, OpenFile, View, Doing, Stage, Replying, file_of, Cleans, Compacting, Judged, Removing}
use Rattle.jv_model.specs.promise.client.Submission.{by_limits, is_flushed}
use Rattle.jv_model.specs.promise.journal.State.{State, or_empty, answer_then, reply_of_answer, is_cleaning, is_collecting, is_compaction}
use Rattle.jv_model.specs.promise.journal.Reading.{Asked, asked_parts, bytes_between, is_fresh, cited_view, part_read, is_full, joined, read_on, reading}
use Rattle.jv_model.specs.promise.journal.Steps.{Start, MayStep, MayAnswer, Fails, Decided, AtOnce, CountsCache, ReadsViews, CleanedUp, HasCompacted, HasCollected, HasUploaded, Refuses, TooShort, HasReplaced, Sent, FoundNone, asked_of, file_in_use, may_read_on, is_ready, ReadsFresh, told_of, has_judged}
use Rattle.jv_model.specs.promise.journal.Past.{Setup, Past, at_start, begun_to, reached, reply_of, decided_reply, told_reply}
use Rattle.jv_model.specs.promise.journal.Legal.{Refuses as RefusesSubmission, LacksMemory as RefusalLacks}
use Rattle.jv_model.specs.journal.Looks.{IsFreshLook}
use Rattle.jv_model.specs.promise.Optional.{provided}
use Rattle.jv_model_laws.specs.Laws.{ReadsAreOfFreshLooks, AreSeen, AreRead, NoPart, OnePart, TwoParts, Returns, ReadsCiteLooks, CitesLooks, is_fine_answer}
use Rattle.jv_model_laws.proofs.JournalStageLaws.{stage_fits, FitsIf, FitsClient, all_fit}
use Rattle.jv_model_laws.proofs.JournalGrowthLaws.{AllAllowed-parts}
use Rattle.jv_model_laws.proofs.JournalStateLaws.{Entry, Steps, RefusedSubmission, LacksMemory, Crashes, Publishes, OfDrain, Ticks, entry_of}
use Rattle.jv_model_laws.proofs.JournalLooksLaws.{IsShown, AllShown, shown, view_seen, first_found}
use Rattle.jv_model_laws.proofs.JournalDoingLaws.{Sound, SoundIf, SoundClient, MayReply, IsRefusedReply, IsDoneReply, IsFineReply, sound, fine_not_refused, fine_not_failure, not_fine, stage_flushed}

-- parts

module _ (run : Setup) (journal : List Act) (client : ℕ) (views : List View) (all : AllShown run journal client views) (handle : ℕ) (file : OpenFile) where
  part_of : (entry : ℕ) (asked : Asked) (bytes : List ℕ) (o : Option View) → cited_view views handle file asked.window entry ≡ o
      → (elim o as (λ _. Option (List ℕ)) [ None ↦ None | Some view ↦ Some (bytes_between view.content asked.from asked.to) ]) ≡ Some bytes → AreSeen run journal client file entry asked bytes
  part_of entry asked bytes None e h = absurd (cc)
  part_of entry asked bytes (Some v) e h =
      let found = first_found (λ (view : View). (view.entry == entry) && is_fresh handle file asked.window view) views v (IsShown run journal client) all e in
      let at = (and_parts (v.entry == entry) (is_fresh handle file asked.window v) found.1).0 in
      let here : v.entry ≡ entry = grind (arith, nat_tests) in
      let seen = view_seen run journal client handle file asked.window v found.0 (and_parts (v.entry == entry) (is_fresh handle file asked.window v) found.1).1 in
      let shows : bytes_between v.content asked.from asked.to ≡ bytes = cc in
      record {
        fresh = subst (λ n. IsFreshLook journal client file asked.window n) here seen.fresh;
        same = sym shows ∙ ap (λ x. bytes_between x asked.from asked.to) (subst (λ n. v.content ≡ or_empty (content_at (reached run (take n journal)).state.tree file.inode)) here seen.bytes);
      }

  part_seen : (entry : ℕ) (asked : Asked) (bytes : List ℕ) → part_read views handle file entry asked ≡ Some bytes → AreSeen run journal client file entry asked bytes
  part_seen entry asked bytes h = part_of entry asked bytes (cited_view views handle file asked.window entry) refl h

  record IsOnly (second : ℕ) (some bytes : List ℕ) : Type 0 where
    none : second ≡ 0
    same : some ≡ bytes

  only : (b : Bool) (second : ℕ) (some bytes : List ℕ) → (second == 0) ≡ b → provided b some ≡ Some bytes → IsOnly second some bytes
  only true second some bytes e h = record { none = grind (arith, nat_tests); same = cc }
  only false second some bytes e h = absurd (cc)

  abbrev Read : List Asked → ℕ → ℕ → List ℕ → Type 0
  Read parts first second bytes = AreRead run journal client (Some file) parts first second bytes

  two : (asked other : Asked) (others : List Asked) (first second : ℕ) (some bytes : List ℕ) (o : Option (List ℕ)) → part_read views handle file second other ≡ o → AreSeen run journal client file first asked some → length some ≡ asked.to - asked.from → joined some o ≡ Some bytes → Read (asked ∷ other ∷ others) first second bytes
  two asked other others first second some bytes None e seen full h = absurd (cc)
  two asked other others first second some bytes (Some more) e seen full h = let whole : some ++ more ≡ bytes = cc in TwoParts file asked other others some more refl refl seen full (part_seen second other more e) (sym whole)

  one_of_more : (b : Bool) (asked other : Asked) (others : List Asked) (first second : ℕ) (some bytes : List ℕ) → is_full asked some ≡ b → AreSeen run journal client file first asked some
      → (if b then joined some (part_read views handle file second other) else provided (second == 0) some) ≡ Some bytes → Read (asked ∷ other ∷ others) first second bytes
  one_of_more true asked other others first second some bytes e seen h = two asked other others first second some bytes (part_read views handle file second other) refl seen (let f = e in grind (arith, nat_tests)) h
  one_of_more false asked other others first second some bytes e seen h =
      let o = only (second == 0) second some bytes refl h in
      OnePart file asked (other ∷ others) refl refl (subst (AreSeen run journal client file first asked) o.same seen) o.none (inr (subst (λ x. is_full asked x ≡ false) o.same e))

  read_on_of : (asked : Asked) (others : List Asked) (first second : ℕ) (bytes : List ℕ) (o : Option (List ℕ)) → part_read views handle file first asked ≡ o → read_on views handle file second asked others o ≡ Some bytes → Read (asked ∷ others) first second bytes
  read_on_of asked others first second bytes None e h = absurd (cc)
  read_on_of asked [] first second bytes (Some some) e h =
      let o = only (second == 0) second some bytes refl h in
      OnePart file asked [] refl refl (subst (AreSeen run journal client file first asked) o.same (part_seen first asked some e)) o.none (inl refl)
  read_on_of asked (other ∷ others) first second bytes (Some some) e h = one_of_more (is_full asked some) asked other others first second some bytes refl (part_seen first asked some e) h

  no_part_at : (a b : Bool) (first second : ℕ) (bytes : List ℕ) → (first == 0) ≡ a → (second == 0) ≡ b → provided (a && b) [] ≡ Some bytes → Read [] first second bytes
  no_part_at true true first second bytes e f h = let none : [] ≡ bytes = cc in NoPart refl (grind (arith, nat_tests)) (grind (arith, nat_tests)) (sym none)
  no_part_at true false first second bytes e f h = absurd (cc)
  no_part_at false b first second bytes e f h = absurd (cc)

  read_of : (parts : List Asked) (first second : ℕ) (bytes : List ℕ) → reading views handle file parts first second ≡ Some bytes → Read parts first second bytes
  read_of [] first second bytes h = no_part_at (first == 0) (second == 0) first second bytes refl refl h
  read_of (asked ∷ others) first second bytes h = read_on_of asked others first second bytes (part_read views handle file first asked) refl h

-- a range without a position that a file may have

no_parts : (b : Bool) (more : List Asked) → b ≡ true → (if b then [] else more) ≡ []
no_parts true more e = refl
no_parts false more e = absurd (cc)

short : (offset len : ℕ) → ((len == 0) || nat_le FILE_END offset) ≡ true → min (offset + len) FILE_END ≤ offset
short offset len h = elim (eqb_tells len 0) [
  | inl none ↦ (let e = none.1 in omega (arith, e))
  | inr some ↦ elim (leb_tells FILE_END offset) [
    | inl past ↦ (let e = past.1 in omega (arith, e))
    | inr before ↦ (let a = some.0 in let b = before.0 in absurd (cc))
  ]
]

nothing_asked : (offset len : ℕ) → ((len == 0) || nat_le FILE_END offset) ≡ true → asked_parts offset len ≡ []
nothing_asked offset len h = no_parts _ _ (le-leb (min (offset + len) FILE_END) offset (short offset len h))

-- what a read does
data DoesRead (offset len : ℕ) (does : Does) : Type 0 where
  ReadsNothing : asked_parts offset len ≡ [] → does ≡ Answers answer.NoData → DoesRead offset len does
  ReadsRange : does ≡ Reads offset len → DoesRead offset len does

does_if : (limits : Limits) (offset len : ℕ) (does : Does) (b : Bool) → (b ≡ true → asked_parts offset len ≡ []) → does ≡ by_limits limits (if b then Answers answer.NoData else Reads offset len) → DoesRead offset len does
does_if limits offset len does true none e = ReadsNothing (none refl) e
does_if limits offset len does false none e = ReadsRange e

does_read : (limits : Limits) (o : Op) (handle offset len : ℕ) (does : Does) → does ≡ by_limits limits (profile o).does → o ≡ op.Read handle offset len → DoesRead offset len does
does_read limits o handle offset len does e is = does_if limits offset len does _ (nothing_asked offset len) (e ∙ ap (λ x. by_limits limits (profile x).does) is)

-- answers

module _ (run : Setup) (journal : List Act) (limits : Limits) (start : Start) (alone : Bool) (s : State) (client now : ℕ) (c : ModelClient) (d : Doing) (all : AllShown run journal client c.views) (h : Sound limits c.handles c.pending d)
    (handle offset len : ℕ) (reads : d.op ≡ op.Read handle offset len) (first second count : ℕ) where
  abbrev told : Told
  told = Looks first second count

  opened_by : file_of c.handles (handle_of d.op) ≡ file_of c.handles handle
  opened_by = ap (λ o. file_of c.handles (handle_of o)) reads

  abbrev Returned : Type 0
  Returned = Returns run journal client c d handle offset len first second count

  reply_by : (o : Option Reply) → decided_reply d.stage ≡ o → reply_of c d told ≡ (elim o as (λ _. Reply) [ None ↦ told_reply c d told | Some r ↦ r ])
  reply_by o e = ap (λ x. elim x as (λ _. Reply) [ None ↦ told_reply c d told | Some r ↦ r ]) e

  returns_nothing : asked_parts offset len ≡ [] → told ≡ Looks 0 0 0 → reply_of c d told ≡ reply.Data [] → Returned
  returns_nothing none e r =
      let a : first ≡ 0 = cc in
      let b : second ≡ 0 = cc in
      let n : count ≡ 0 = cc in
      record { bytes = []; reply = r; count = n; read = NoPart none a b refl }

  settled_read : (r : Reply) → DoesRead offset len d.does → told ≡ told_of r → d.stage ≡ Replying r → MayReply d.does (is_flushed d.flush c.pending) r → Returned
  settled_read r does e st (IsRefusedReply x) = absurd (fine_not_refused told r refl e x)
  settled_read r (ReadsRange does) e st (IsDoneReply f fine) = let never : IsFineReply (Reads offset len) r = subst (λ x. IsFineReply x r) does fine in absurd never
  settled_read r (ReadsNothing none does) e st (IsDoneReply f fine) =
      let same : reply_of_answer answer.NoData ≡ Some r = subst (λ x. IsFineReply x r) does fine in
      let data_none : r ≡ reply.Data [] = cc in
      returns_nothing none (e ∙ ap told_of data_none) (reply_by (Some r) (ap decided_reply st) ∙ data_none)

  read_in_none : (opened : Option OpenFile) (does : Does) → does ≡ Answers answer.NoData → (elim opened as (λ _. List ℕ) [ None ↦ [] | Some file ↦ unwrap_or (reading c.views (handle_of d.op) file (asked_of does) 0 0) [] ]) ≡ []
  read_in_none None does e = refl
  read_in_none (Some file) does e = ap (λ x. unwrap_or (reading c.views (handle_of d.op) file (asked_of x) 0 0) []) e

  -- a working or reading operation has no answer yet
  unsettled : (stage : Stage) → IsTrue (may_read_on c (record d { stage = stage })) → decided_reply stage ≡ None
  unsettled (Replying r) m = absurd (cc)
  unsettled _ m = refl

  unsettled_ready : (stage : Stage) → IsTrue (is_ready c (record d { stage = stage })) → decided_reply stage ≡ None
  unsettled_ready (Replying r) m = absurd (cc)
  unsettled_ready _ m = refl

  at_once : DoesRead offset len d.does → IsTrue (is_ready c d) → option_map told_of (answer_then c d) ≡ Some told → Returned
  at_once (ReadsRange does) ready same =
      let never : ◌≡◌ {A = Option Told} None (Some told) = subst (λ x. option_map told_of (answer_then c (record d { does = x })) ≡ Some told) does same in
      absurd (cc)
  at_once (ReadsNothing none does) ready same =
      let nothing : ◌≡◌ {A = Option Told} (Some (Looks 0 0 0)) (Some told) = subst (λ x. option_map told_of (answer_then c (record d { does = x })) ≡ Some told) does same in
      let e : told ≡ Looks 0 0 0 = cc in
      returns_nothing none e (reply_by None (unsettled_ready d.stage ready) ∙ ap (told_reply c d) e ∙ ap reply.Data (read_in_none (file_in_use c d) d.does does))

  asked_same : DoesRead offset len d.does → asked_of d.does ≡ asked_parts offset len
  asked_same (ReadsRange does) = ap asked_of does
  asked_same (ReadsNothing none does) = ap asked_of does ∙ sym none

  read_in_of : (opened : Option OpenFile) (file : OpenFile) (bytes : List ℕ) → opened ≡ Some file → reading c.views (handle_of d.op) file (asked_of d.does) first second ≡ Some bytes
      → (elim opened as (λ _. List ℕ) [ None ↦ [] | Some x ↦ unwrap_or (reading c.views (handle_of d.op) x (asked_of d.does) first second) [] ]) ≡ bytes
  read_in_of None file bytes e h = absurd (cc)
  read_in_of (Some x) file bytes e h = let same : x ≡ file = cc in ap (λ y. unwrap_or (reading c.views (handle_of d.op) y (asked_of d.does) first second) []) same ∙ ap (λ (found : Option (List ℕ)). unwrap_or found []) h

  views_read : DoesRead offset len d.does → ReadsFresh c d told → Returned
  views_read does r =
      let a : r.first ≡ first = (let e = r.same in cc) in
      let b : r.second ≡ second = (let e = r.same in cc) in
      let n : count ≡ length r.bytes = (let e = r.same in cc) in
      let reads_now : reading c.views (handle_of d.op) r.file (asked_of d.does) first second ≡ Some r.bytes = subst (λ x. reading c.views (handle_of d.op) r.file (asked_of d.does) first x ≡ Some r.bytes) b (subst (λ x. reading c.views (handle_of d.op) r.file (asked_of d.does) x r.second ≡ Some r.bytes) a r.reads) in
      let read = read_of run journal client c.views all (handle_of d.op) r.file (asked_of d.does) first second r.bytes reads_now in
      record {
        bytes = r.bytes;
        reply = reply_by None (unsettled d.stage r.goes_on) ∙ ap reply.Data (read_in_of (file_in_use c d) r.file r.bytes r.opened reads_now);
        count = n;
        read = subst (λ o. AreRead run journal client o (asked_parts offset len) first second r.bytes) (sym r.opened ∙ opened_by) (subst (λ parts. AreRead run journal client (Some r.file) parts first second r.bytes) (asked_same does) read);
      }

  answer_read : DoesRead offset len d.does → MayAnswer start alone s client now c d told → Returned
  answer_read does (Fails m f) = absurd (cc)
  answer_read does (Decided r e same) = settled_read r does same e (stage_flushed c d (Replying r) h.stage e)
  answer_read does (AtOnce a) = at_once does a.ready a.same
  answer_read does (CountsCache hits misses cached ready first e same) = absurd (cc)
  answer_read does (ReadsViews r) = views_read does r
  answer_read does (CleanedUp e) = let same = e.same in absurd (cc)
  answer_read does (HasCompacted (TooShort k records e q m few same)) = absurd (cc)
  answer_read does (HasCompacted (HasReplaced k before after e m few same)) = absurd (cc)
  answer_read does (HasCollected number bytes j same) = absurd (cc)
  answer_read does (HasUploaded e (Sent id index size g same)) = absurd (cc)
  answer_read does (HasUploaded e (FoundNone ready m o same)) = absurd (cc)
  answer_read does (Refuses fault m r same) = absurd (cc)

  step_read : (kind : ActKind) → kind ≡ Answered told → MayStep start alone s client now c d kind → Returned
  step_read kind e may = answer_read (does_read limits d.op handle offset len d.does h.does reads) (subst (MayStep start alone s client now c d) e may)

module _ (run : Setup) (journal : List Act) (p : Past) (act : Act) (some : act.client ≡ NO_CLIENT → ⊥) (d : Doing) (busy : (p.state.clients act.client).doing ≡ Some d) (all : AllShown run journal act.client (p.state.clients act.client).views) (h : SoundClient run.limits (p.state.clients act.client))
    (handle offset len : ℕ) (reads : d.op ≡ op.Read handle offset len) (first second count : ℕ) (k : act.kind ≡ Answered (Looks first second count)) where
  entry_read : Entry p act → Returns run journal act.client (p.state.clients act.client) d handle offset len first second count
  entry_read (Steps x e may) =
      let same : x ≡ d = cc in
      step_read run journal run.limits p.run.start (p.run.uploads == 0) p.state act.client act.at (p.state.clients act.client) d all (subst (SoundIf run.limits (p.state.clients act.client).handles (p.state.clients act.client).pending) busy h) handle offset len reads first second count act.kind k
      (subst (λ y. MayStep p.run.start (p.run.uploads == 0) p.state act.client act.at (p.state.clients act.client) y act.kind) same may)
  entry_read (RefusedSubmission fault e (RefusesSubmission k')) = absurd (cc)
  entry_read (RefusedSubmission fault e (RefusalLacks b k')) = absurd (cc)
  entry_read (LacksMemory e k') = absurd (cc)
  entry_read (Crashes e k') = absurd (cc)
  entry_read (Publishes e k') = absurd (some e)
  entry_read (OfDrain client e due k') = absurd (some e)
  entry_read (Ticks by e k') = absurd (some e)

pub reads_seen : ReadsAreOfFreshLooks
reads_seen run journal act may some d busy handle offset len reads first second count k =
    let parts = AllAllowed-parts (at_start run) journal (act ∷ []) may in
    let b = begun_to act.line (reached run journal) in
    entry_read run journal b act some d busy ((shown run journal parts.0 act.line).clients act.client) (sound run journal parts.0 act.line act.client some) handle offset len reads first second count k (entry_of b act parts.1.0)

-- a read that is done cites looks

cited : (first second number : ℕ) (t : Told) → t ≡ Looks first second number → CitesLooks (Answered t)
cited first second number t e = record { first = first; second = second; number = number; kind = ap Answered e }

module _ (limits : Limits) (start : Start) (alone : Bool) (s : State) (client now : ℕ) (c : ModelClient) (d : Doing) (h : Sound limits c.handles c.pending d) (fits : IsTrue (stage_fits d.does d.stage)) (offset len : ℕ) (told : Told) (fine : IsTrue (is_fine_answer (Answered told))) where
  no_stage : DoesRead offset len d.does → (stage : Stage) → d.stage ≡ stage → ((does : Does) → IsTrue (stage_fits does stage) → DoesRead offset len does → ⊥) → ⊥
  no_stage does stage e off = off d.does (subst (λ st. IsTrue (stage_fits d.does st)) e fits) does

  not_cleaning : (does : Does) → IsTrue (is_cleaning does) → DoesRead offset len does → ⊥
  not_cleaning does f (ReadsNothing none e) = let g = subst (λ x. IsTrue (is_cleaning x)) e f in cc
  not_cleaning does f (ReadsRange e) = let g = subst (λ x. IsTrue (is_cleaning x)) e f in cc

  not_compacting : (does : Does) → IsTrue (is_compaction does) → DoesRead offset len does → ⊥
  not_compacting does f (ReadsNothing none e) = let g = subst (λ x. IsTrue (is_compaction x)) e f in cc
  not_compacting does f (ReadsRange e) = let g = subst (λ x. IsTrue (is_compaction x)) e f in cc

  not_collecting : (does : Does) → IsTrue (is_collecting does) → DoesRead offset len does → ⊥
  not_collecting does j (ReadsNothing none f) = let g = subst (λ x. IsTrue (is_collecting x)) f j in cc
  not_collecting does j (ReadsRange f) = let g = subst (λ x. IsTrue (is_collecting x)) f j in cc

  not_judging : (does : Does) (stage : Stage) → IsTrue (has_judged does stage) → DoesRead offset len does → ⊥
  not_judging does Judged j reads = not_collecting does j reads
  not_judging does (Removing requests) j reads = not_collecting does j reads
  not_judging does _ j reads = absurd (cc)

  not_uploading : d.does ≡ Uploads → DoesRead offset len d.does → ⊥
  not_uploading e (ReadsNothing none f) = cc
  not_uploading e (ReadsRange f) = cc

  not_counting : d.does ≡ Answers answer.CacheStats → DoesRead offset len d.does → ⊥
  not_counting e (ReadsNothing none f) = cc
  not_counting e (ReadsRange f) = cc

  settled_cites : (r : Reply) → DoesRead offset len d.does → told ≡ told_of r → MayReply d.does (is_flushed d.flush c.pending) r → CitesLooks (Answered told)
  settled_cites r does e (IsRefusedReply x) = absurd (fine_not_refused told r fine e x)
  settled_cites r (ReadsRange does) e (IsDoneReply f g) = let never : IsFineReply (Reads offset len) r = subst (λ x. IsFineReply x r) does g in absurd never
  settled_cites r (ReadsNothing none does) e (IsDoneReply f g) =
      let same : reply_of_answer answer.NoData ≡ Some r = subst (λ x. IsFineReply x r) does g in
      let data_none : r ≡ reply.Data [] = cc in
      cited 0 0 0 told (e ∙ ap told_of data_none)

  at_once_cites : DoesRead offset len d.does → option_map told_of (answer_then c d) ≡ Some told → CitesLooks (Answered told)
  at_once_cites (ReadsRange does) same =
      let never : ◌≡◌ {A = Option Told} None (Some told) = subst (λ x. option_map told_of (answer_then c (record d { does = x })) ≡ Some told) does same in
      absurd (cc)
  at_once_cites (ReadsNothing none does) same =
      let nothing : ◌≡◌ {A = Option Told} (Some (Looks 0 0 0)) (Some told) = subst (λ x. option_map told_of (answer_then c (record d { does = x })) ≡ Some told) does same in
      cited 0 0 0 told (cc)

  answer_cites : DoesRead offset len d.does → MayAnswer start alone s client now c d told → CitesLooks (Answered told)
  answer_cites does (Fails m f) = absurd (fine_not_failure told fine f)
  answer_cites does (Decided r e same) = settled_cites r does same (stage_flushed c d (Replying r) h.stage e)
  answer_cites does (AtOnce a) = at_once_cites does a.same
  answer_cites does (CountsCache hits misses cached ready first e same) = absurd (not_counting e does)
  answer_cites does (ReadsViews r) = cited r.first r.second (length r.bytes) told r.same
  answer_cites does (CleanedUp e) = absurd (no_stage does (Cleans e.k) e.stage not_cleaning)
  answer_cites does (HasCompacted (TooShort k records e q m few same)) = absurd (no_stage does (Compacting k) e not_compacting)
  answer_cites does (HasCompacted (HasReplaced k before after e m few same)) = absurd (no_stage does (Compacting k) e not_compacting)
  answer_cites does (HasCollected number bytes j same) = absurd (not_judging d.does d.stage j does)
  answer_cites does (HasUploaded e u) = absurd (not_uploading e does)
  answer_cites does (Refuses fault m r same) = let off : IsTrue (is_fine_answer (Answered (ToldRefused fault))) = subst (λ t. IsTrue (is_fine_answer (Answered t))) same fine in absurd (cc)

step_cites : (limits : Limits) (start : Start) (alone : Bool) (s : State) (client now : ℕ) (c : ModelClient) (d : Doing) → Sound limits c.handles c.pending d → IsTrue (stage_fits d.does d.stage) → (offset len : ℕ) → DoesRead offset len d.does
    → (kind : ActKind) → IsTrue (is_fine_answer kind) → MayStep start alone s client now c d kind → CitesLooks kind
step_cites limits start alone s client now c d h fits offset len does (Answered told) fine may = answer_cites limits start alone s client now c d h fits offset len told fine does may
step_cites limits start alone s client now c d h fits offset len does _ fine may = absurd (cc)

entry_cites : (run : Setup) (p : Past) (act : Act) → Entry p act → (act.client ≡ NO_CLIENT → ⊥) → (d : Doing) → (p.state.clients act.client).doing ≡ Some d → (handle offset len : ℕ) → d.op ≡ op.Read handle offset len → IsTrue (is_fine_answer act.kind)
    → SoundClient run.limits (p.state.clients act.client) → FitsClient (p.state.clients act.client) → CitesLooks act.kind
entry_cites run p act (Steps x e may) some d busy handle offset len reads fine ok fits =
    let same : x ≡ d = cc in
    let h = subst (SoundIf run.limits (p.state.clients act.client).handles (p.state.clients act.client).pending) busy ok in
    step_cites run.limits p.run.start (p.run.uploads == 0) p.state act.client act.at (p.state.clients act.client) d h (subst FitsIf busy fits) offset len (does_read run.limits d.op handle offset len d.does h.does reads) act.kind fine
    (subst (λ y. MayStep p.run.start (p.run.uploads == 0) p.state act.client act.at (p.state.clients act.client) y act.kind) same may)
entry_cites run p act (RefusedSubmission fault e (RefusesSubmission k)) some d busy handle offset len reads fine ok fits = absurd (not_fine _ act.kind fine k refl)
entry_cites run p act (RefusedSubmission fault e (RefusalLacks b k)) some d busy handle offset len reads fine ok fits = absurd (not_fine _ act.kind fine k refl)
entry_cites run p act (LacksMemory e k) some d busy handle offset len reads fine ok fits = absurd (not_fine _ act.kind fine k refl)
entry_cites run p act (Crashes e k) some d busy handle offset len reads fine ok fits = let off = ap is_fine_answer k in absurd (cc)
entry_cites run p act (Publishes e k) some d busy handle offset len reads fine ok fits = absurd (some e)
entry_cites run p act (OfDrain client e due k) some d busy handle offset len reads fine ok fits = absurd (some e)
entry_cites run p act (Ticks by e k) some d busy handle offset len reads fine ok fits = absurd (some e)

pub reads_cite : ReadsCiteLooks
reads_cite run journal act may some d busy handle offset len reads fine =
    let parts = AllAllowed-parts (at_start run) journal (act ∷ []) may in
    let b = begun_to act.line (reached run journal) in
    entry_cites run b act (entry_of b act parts.1.0) some d busy handle offset len reads fine (sound run journal parts.0 act.line act.client some) (all_fit run journal parts.0 act.line act.client some)
