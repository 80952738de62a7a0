-- What a cleaning names is gone.
use Rattle.std.proofs.Common.{◌≡◌, ℕ, ◌+◌, ◌≤◌, Bool, true, false, ◌&&◌, not, ◌==◌, nat_le, if◌then◌else◌, IsTrue, IsSomeAnd, IfSome, inl, inr, List, [], ◌∷◌, ◌++◌, length, Option, None, Some, refl, sym, ap, subst, ◌∙◌, arith, length-append}
use Rattle.std.proofs.lemmas.Bool.{and_parts, or_left, or_right}
use Rattle.std.specs.Option.{option_map}
use Rattle.std.proofs.lemmas.Bool.Decides.{nat_tests, leb_tells}
use Rattle.jv_model.specs.declared.tables.TheConstants.{TABLE_OF_DROPPED}
use Rattle.jv_model.specs.declared.act.Act.{Act}
use Rattle.jv_model.specs.declared.act.ActKind.{ActKind}
use Rattle.jv_model.specs.declared.act.ActKind.TheVariants.{Settled, Expired, Cleaned, Crashed, Answered}
use Rattle.jv_model.specs.declared.op.Op.{Op}
use Rattle.jv_model.specs.promise.FiniteMap.{number_key, first_where}
use Rattle.jv_model.specs.promise.tree.Tree.{Tree, SessionEntry}
use Rattle.jv_model.specs.promise.client.ModelClient.{Doing, session_of}
use Rattle.jv_model.specs.promise.client.Submission.{submission, submitted}
use Rattle.jv_model.specs.promise.journal.State.{State, set_client, after_step, after_other, of_doing, changed, effect}
use Rattle.jv_model.specs.promise.journal.Steps.{MayStep, DropsFile}
use Rattle.jv_model.specs.promise.journal.Past.{Setup, Past, at_start, begun_to, reached}
use Rattle.jv_model.specs.promise.journal.Legal.{Allowed, AllAllowed, IsPublish, IsPublishOf, Refuses, LacksMemory as RefusalLacks, Sends, Ends, Fails}
use Rattle.jv_model.specs.journal.Looks.{entry_at}
use Rattle.jv_model_laws.specs.Laws.{ExpiresOnlyGone, IsExpired, DropsOnlyGone}
use Rattle.jv_model.proofs.FiniteMapLaws.{first_where-found}
use Rattle.jv_model.specs.promise.Lists.{is_among}
use Rattle.jv_model_laws.proofs.JournalGrowthLaws.{AllAllowed-parts}
use Rattle.jv_model_laws.proofs.JournalStateLaws.{Entry, Steps, RefusedSubmission, LacksMemory, Crashes, Publishes, OfDrain, Ticks, entry_of, entry_before, entry_last, entry_within, none_entered, holds_on, of_kind}
use Rattle.jv_model_laws.proofs.JournalOwedLaws.{is_of_operation, has_operation}

-- sessions

abbrev is_due : ℕ → ℕ → ℕ → SessionEntry → Bool
is_due cleaner now sid entry = not (sid == cleaner) && nat_le entry.expiry now

expired_of : (t : Tree) (cleaner now sid : ℕ) (o : Option (ℕ × SessionEntry)) → first_where (is_due cleaner now) t.sessions ≡ o → option_map (λ e. e.0) o ≡ Some sid → IsExpired t cleaner now sid
expired_of t cleaner now sid None e h = absurd (cc)
expired_of t cleaner now sid (Some found) e h =
    let f = first_where-found number_key (is_due cleaner now) t.sessions found e in
    let same : found.0 ≡ sid = cc in
    let other = (and_parts (not (found.0 == cleaner)) (nat_le found.1.expiry now) f.passes).0 in
    let past = (and_parts (not (found.0 == cleaner)) (nat_le found.1.expiry now) f.passes).1 in
    let late : found.1.expiry ≤ now = grind (arith, nat_tests) in
    subst (IsExpired t cleaner now) same (record { other = λ at. grind (arith, nat_tests); entry = subst (λ x. IsSomeAnd x (λ (s : SessionEntry). s.expiry ≤ now)) (sym f.there) late })

expired_step : (p : Past) (act : Act) (sid : ℕ) → act.kind ≡ Expired sid → Entry p act → IsExpired p.state.tree (session_of (p.state.clients act.client)) act.at sid
expired_step p act sid k (Steps d e may) =
    let t = subst (λ kind. MayStep p.run.start (p.run.uploads == 0) p.state act.client act.at (p.state.clients act.client) d kind) k may in
    expired_of p.state.tree (session_of (p.state.clients act.client)) act.at sid _ refl t.1
expired_step p act sid k (RefusedSubmission fault e (Refuses k')) = absurd (cc)
expired_step p act sid k (RefusedSubmission fault e (RefusalLacks b k')) = absurd (cc)
expired_step p act sid k (LacksMemory e k') = absurd (cc)
expired_step p act sid k (Crashes e k') = absurd (cc)
expired_step p act sid k (Publishes e h) = absurd (subst (IsPublish p.state) k h)
expired_step p act sid k (OfDrain client e due (Sends h)) = absurd (subst (IsPublishOf p.state client) k h)
expired_step p act sid k (OfDrain client e due (Ends h k')) = absurd (cc)
expired_step p act sid k (OfDrain client e due (Fails told h k')) = absurd (cc)
expired_step p act sid k (Ticks by e k') = absurd (cc)

pub expires_gone : ExpiresOnlyGone
expires_gone run journal act may sid k =
    let parts = AllAllowed-parts (at_start run) journal (act ∷ []) may in
    let b = begun_to act.line (reached run journal) in
    expired_step b act sid k (entry_of b act parts.1.0)

-- rows of removed files

abbrev Drops : ℕ → Act → Type 0
Drops inode act = act.kind ≡ Cleaned TABLE_OF_DROPPED inode

-- each inode whose row an entry dropped is among those that the state has as dropped
record Dropped (pre : List Act) (s : State) : Type 0 where
  keeps : (inode number : ℕ) → IsSomeAnd (entry_at pre number) (Drops inode) → IsTrue (is_among inode s.dropped)

record Grows (kind : ActKind) (before after : List ℕ) : Type 0 where
  old : (inode : ℕ) → IsTrue (is_among inode before) → IsTrue (is_among inode after)
  new : (inode : ℕ) → kind ≡ Cleaned TABLE_OF_DROPPED inode → IsTrue (is_among inode after)

same_grows : (kind : ActKind) (xs : List ℕ) → ((inode : ℕ) → kind ≡ Cleaned TABLE_OF_DROPPED inode → ⊥) → Grows kind xs xs
same_grows kind xs none = record { old = λ inode h. h; new = λ inode k. absurd (none inode k) }

cleaned_grows : (table key : ℕ) (xs : List ℕ) (b : Bool) → (table == TABLE_OF_DROPPED) ≡ b → Grows (Cleaned table key) xs (if b then key ∷ xs else xs)
cleaned_grows table key xs true e = record { old = λ inode h. or_right (key == inode) (is_among inode xs) h; new = λ inode k. (let same : key ≡ inode = cc in or_left (key == inode) (is_among inode xs) (grind (arith, nat_tests))) }
cleaned_grows table key xs false e = record { old = λ inode h. h; new = λ inode k. (let same : table ≡ TABLE_OF_DROPPED = cc in absurd (grind (arith, nat_tests))) }

grows_step : (s : State) (act : Act) (d : Doing) (kind : ActKind) → Grows kind s.dropped (after_step s act d kind).dropped
grows_step s act d (Cleaned table key) = cleaned_grows table key s.dropped (table == TABLE_OF_DROPPED) refl
grows_step s act d kind = same_grows kind s.dropped (λ inode k. cc)

grows_other : (s : State) (kind : ActKind) → is_of_operation kind ≡ false → Grows kind s.dropped (after_other s kind).dropped
grows_other s (Cleaned table key) h = absurd (cc)
grows_other s (Settled commit) h = same_grows (Settled commit) s.dropped (λ inode k. cc)
grows_other s kind h = same_grows kind s.dropped (λ inode k. cc)

grows_doing : (s : State) (act : Act) (o : Option Doing) → (o ≡ None → is_of_operation act.kind ≡ false) → Grows act.kind s.dropped (of_doing s act o).dropped
grows_doing s act None h = grows_other s act.kind (h refl)
grows_doing s act (Some d) h = grows_step s act d act.kind

grows_changed : (s : State) (act : Act) (kind : ActKind) → ((s.clients act.client).doing ≡ None → is_of_operation kind ≡ false) → Grows kind s.dropped (changed s (of_kind act kind) kind).dropped
grows_changed s act Crashed h = same_grows Crashed s.dropped (λ inode k. cc)
grows_changed s act (Answered told) h = same_grows (Answered told) s.dropped (λ inode k. cc)
grows_changed s act kind h = grows_doing s (of_kind act kind) (s.clients act.client).doing h

dropped_next : (pre : List Act) (act : Act) (before after : List ℕ) → Grows act.kind before after → ((inode number : ℕ) → IsSomeAnd (entry_at pre number) (Drops inode) → IsTrue (is_among inode before))
    → (inode number : ℕ) → IsSomeAnd (entry_at (pre ++ act ∷ []) number) (Drops inode) → IsTrue (is_among inode after)
dropped_next pre act before after g keeps inode number h = elim (leb_tells number (length pre)) [
  | inl low ↦ g.old inode (keeps inode number (subst (λ o. IsSomeAnd o (Drops inode)) (entry_before pre act number low.1) h))
  | inr high ↦ (
      let within = entry_within (pre ++ act ∷ []) number (Drops inode) h in
      let l = length-append pre (act ∷ []) in
      let at : number ≡ length pre + 1 = omega (arith, within, l, high.1) in
      let t : IsSomeAnd (Some act) (Drops inode) = subst (λ o. IsSomeAnd o (Drops inode)) (ap (entry_at (pre ++ act ∷ [])) at ∙ entry_last pre act) h in
      g.new inode t)
]

dropped_enters : (run : Setup) (pre : List Act) (act : Act) → Allowed (begun_to act.line (reached run pre)) act → Dropped pre (begun_to act.line (reached run pre)).state → Dropped (pre ++ act ∷ []) (effect (begun_to act.line (reached run pre)).state act)
dropped_enters run pre act may h =
    let p = begun_to act.line (reached run pre) in
    record { keeps = dropped_next pre act p.state.dropped (effect p.state act).dropped (grows_changed p.state act act.kind (has_operation p act (entry_of p act may))) h.keeps }

dropped_submits : (run : Setup) (pre : List Act) (s : State) (client : ℕ) (o : Op) → submission (s.clients client) o ≡ None → Dropped pre s → Dropped pre (set_client s client (submitted run.limits o (s.clients client)))
dropped_submits run pre s client o none h = record { keeps = h.keeps }

all_dropped : (run : Setup) (journal : List Act) → AllAllowed (at_start run) journal → (line : ℕ) → Dropped journal (begun_to line (reached run journal)).state
all_dropped run journal may line = holds_on run Dropped (dropped_submits run) (dropped_enters run) (record { keeps = λ inode number h. absurd (none_entered number (Drops inode) h) }) journal may line

drops_step : (p : Past) (act : Act) (inode : ℕ) → act.kind ≡ Cleaned TABLE_OF_DROPPED inode → Entry p act → DropsFile p.state inode
drops_step p act inode k (Steps d e may) =
    let t = subst (λ kind. MayStep p.run.start (p.run.uploads == 0) p.state act.client act.at (p.state.clients act.client) d kind) k may in t.1
drops_step p act inode k (RefusedSubmission fault e (Refuses k')) = absurd (cc)
drops_step p act inode k (RefusedSubmission fault e (RefusalLacks b k')) = absurd (cc)
drops_step p act inode k (LacksMemory e k') = absurd (cc)
drops_step p act inode k (Crashes e k') = absurd (cc)
drops_step p act inode k (Publishes e h) = absurd (subst (IsPublish p.state) k h)
drops_step p act inode k (OfDrain client e due (Sends h)) = absurd (subst (IsPublishOf p.state client) k h)
drops_step p act inode k (OfDrain client e due (Ends h k')) = absurd (cc)
drops_step p act inode k (OfDrain client e due (Fails told h k')) = absurd (cc)
drops_step p act inode k (Ticks by e k') = absurd (cc)

not_twice : (b : Bool) → IsTrue b → b ≡ false → ⊥
not_twice true h e = cc
not_twice false h e = cc

none_before : (journal : List Act) (s : State) (inode : ℕ) → Dropped journal s → is_among inode s.dropped ≡ false → (number : ℕ) (o : Option Act) → entry_at journal number ≡ o → IfSome o (λ act. act.kind ≡ Cleaned TABLE_OF_DROPPED inode → ⊥)
none_before journal s inode h once number None e = tt
none_before journal s inode h once number (Some act) e = λ k. not_twice (is_among inode s.dropped) (h.keeps inode number (subst (λ o. IsSomeAnd o (Drops inode)) (sym e) k)) once

pub drops_gone : DropsOnlyGone
drops_gone run journal act may inode k =
    let parts = AllAllowed-parts (at_start run) journal (act ∷ []) may in
    let b = begun_to act.line (reached run journal) in
    let f = drops_step b act inode k (entry_of b act parts.1.0) in
    record { was = f.was; gone = f.gone; once = λ number. none_before journal b.state inode (all_dropped run journal parts.0 act.line) f.once number (entry_at journal number) refl }
