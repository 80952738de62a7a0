-- Owed commits by the journal's entries, and what cleaning and settling name.
use Rattle.std.proofs.Common.{◌≡◌, ℕ, ◌+◌, ◌≤◌, Bool, true, false, ◌&&◌, ◌||◌, not, ◌==◌, if◌then◌else◌, IsTrue, IsSomeAnd, IfSome, inl, inr, List, [], ◌∷◌, ◌++◌, length, filter, Option, None, Some, refl, sym, ap, subst, ◌∙◌, arith, length-append, MatchBool}
use Rattle.std.proofs.lemmas.Bool.{cases_Bool, or_right}
use Rattle.std.specs.List.{list_any}
use Rattle.std.proofs.lemmas.Bool.Decides.{nat_tests, leb_tells, eqb_tells}
use Rattle.jv_model.specs.declared.act.TheConstants.{NO_CLIENT}
use Rattle.jv_model.specs.declared.act.Act.{Act}
use Rattle.jv_model.specs.declared.act.ActKind.{ActKind}
use Rattle.jv_model.specs.declared.act.ActKind.TheVariants.{Commit, Settled, Quiet, Crashed, Ticked, Answered}
use Rattle.jv_model.specs.declared.act.Told.TheVariants.{Fine}
use Rattle.jv_model.specs.declared.fault.Fault.{Fault}
use Rattle.jv_model.specs.declared.op.Op.{Op}
use Rattle.jv_model.specs.promise.client.ModelClient.{Doing}
use Rattle.jv_model.specs.promise.client.Origins.{Owed}
use Rattle.jv_model.specs.promise.client.Submission.{submission, submitted}
use Rattle.jv_model.specs.promise.journal.State.{State, state_at_start, set_client, after_step, after_other, of_doing, changed, effect}
use Rattle.jv_model.specs.promise.journal.Steps.{MayStep, is_failure, owes_none}
use Rattle.jv_model.specs.promise.journal.Past.{Setup, Past, DrainEntries, at_start, begun_to, is_workers, reached}
use Rattle.jv_model.specs.promise.journal.Legal.{Allowed, AllAllowed, OfLine, OfWorker, IsPublish, IsPublishOf, IsRefusal, Refuses, LacksMemory as RefusalLacks, Drains, Sends, Ends, Fails}
use Rattle.jv_model.specs.journal.Looks.{entry_at}
use Rattle.jv_model_laws.specs.Laws.{IsOwed, OwedCommits, SettlesOwed, DrainsSettleAll, leaves_staged, settles}
use Rattle.jv_model_laws.proofs.JournalGrowthLaws.{AllAllowed-parts}
use Rattle.jv_model_laws.proofs.JournalLineLaws.{workers_at}
use Rattle.jv_model_laws.proofs.JournalStateLaws.{owed_of, publish_of, Entry, Steps, RefusedSubmission, LacksMemory, Crashes, Publishes, OfDrain, Ticks, entry_of, entry_before, entry_last, entry_past, entry_within, none_entered, holds, holds_on, of_kind}

-- what an entry does to what is owed
pub data OwedAfter (s : State) (client : ℕ) (kind : ActKind) (owed : List Owed) : Type 0 where
  Spared : leaves_staged kind ≡ false → ((commit : ℕ) → settles commit kind ≡ false) → owed ≡ s.owed → OwedAfter s client kind owed
  Made : (inode from len staged : ℕ) → kind ≡ Commit inode from len staged → owed ≡ (if staged == 0 then [] else record { commit = s.count + 1; client = client } ∷ []) ++ s.owed → OwedAfter s client kind owed
  Published : (commit : ℕ) → kind ≡ Settled commit → owed ≡ filter (λ (o : Owed). not (o.commit == commit)) s.owed → OwedAfter s client kind owed

owed_step : (s : State) (act : Act) (d : Doing) (kind : ActKind) → OwedAfter s act.client kind (after_step s act d kind).owed
owed_step s act d (Commit inode from len staged) = Made inode from len staged refl refl
owed_step s act d (Settled commit) = Published commit refl refl
owed_step s act d Crashed = Spared refl (λ _. refl) refl
owed_step s act d (Ticked by) = Spared refl (λ _. refl) refl
owed_step s act d (Answered told) = Spared refl (λ _. refl) refl
owed_step s act d _ = Spared refl (λ _. refl) refl

-- an entry that needs an operation
abbrev pub is_of_operation : ActKind → Bool
is_of_operation (Settled commit) = false
is_of_operation Quiet = false
is_of_operation Crashed = false
is_of_operation (Ticked by) = false
is_of_operation (Answered told) = false
is_of_operation _ = true

owed_other : (s : State) (client : ℕ) (kind : ActKind) → is_of_operation kind ≡ false → OwedAfter s client kind (after_other s kind).owed
owed_other s client (Settled commit) h = Published commit refl refl
owed_other s client Quiet h = Spared refl (λ _. refl) refl
owed_other s client Crashed h = Spared refl (λ _. refl) refl
owed_other s client (Ticked by) h = Spared refl (λ _. refl) refl
owed_other s client (Answered told) h = Spared refl (λ _. refl) refl
owed_other s client _ h = absurd (cc)

owed_doing : (s : State) (act : Act) (o : Option Doing) → (o ≡ None → is_of_operation act.kind ≡ false) → OwedAfter s act.client act.kind (of_doing s act o).owed
owed_doing s act None h = owed_other s act.client act.kind (h refl)
owed_doing s act (Some d) h = owed_step s act d act.kind

owed_changed : (s : State) (act : Act) (kind : ActKind) → ((s.clients act.client).doing ≡ None → is_of_operation kind ≡ false) → OwedAfter s act.client kind (changed s (of_kind act kind) kind).owed
owed_changed s act Crashed h = Spared refl (λ _. refl) refl
owed_changed s act (Answered told) h = Spared refl (λ _. refl) refl
owed_changed s act kind h = owed_doing s (of_kind act kind) (s.clients act.client).doing h

-- an entry that needs an operation has one

publish_needs_none : (s : State) (kind : ActKind) → IsPublish s kind → is_of_operation kind ≡ false
publish_needs_none s (Settled commit) h = refl
publish_needs_none s Quiet h = refl
publish_needs_none s _ h = absurd h

drain_needs_none : (s : State) (client : ℕ) (kind : ActKind) → Drains s client kind → is_of_operation kind ≡ false
drain_needs_none s client kind (Sends h) = publish_needs_none s kind (publish_of s client kind h)
drain_needs_none s client kind (Ends h e) = ap is_of_operation e
drain_needs_none s client kind (Fails told h e) = ap is_of_operation e

refusal_needs_none : (busy : Bool) (kind : ActKind) (fault : Fault) → IsRefusal busy fault kind → is_of_operation kind ≡ false
refusal_needs_none busy kind fault (Refuses e) = ap is_of_operation e
refusal_needs_none busy kind fault (RefusalLacks b e) = ap is_of_operation e

pub has_operation : (p : Past) (act : Act) → Entry p act → (p.state.clients act.client).doing ≡ None → is_of_operation act.kind ≡ false
has_operation p act (Steps d e may) none = absurd (cc)
has_operation p act (RefusedSubmission fault e h) none = refusal_needs_none _ act.kind fault h
has_operation p act (LacksMemory e k) none = ap is_of_operation k
has_operation p act (Crashes e k) none = ap is_of_operation k
has_operation p act (Publishes e h) none = publish_needs_none p.state act.kind h
has_operation p act (OfDrain client e due h) none = drain_needs_none p.state client act.kind h
has_operation p act (Ticks by e k) none = ap is_of_operation k

owed_entry : (p : Past) (act : Act) → Allowed p act → OwedAfter p.state act.client act.kind (effect p.state act).owed
owed_entry p act h = owed_changed p.state act act.kind (has_operation p act (entry_of p act h))

-- membership after an entry

abbrev owes_commit : ℕ → ℕ → List Owed → Bool
owes_commit client commit owed = list_any (λ o. (o.commit == commit) && (o.client == client)) owed

owed_without : (commit client k : ℕ) (os : List Owed) → (k ≡ commit → ⊥) → owes_commit client commit (filter (λ (o : Owed). not (o.commit == k)) os) ≡ owes_commit client commit os
owed_without commit client k [] h = refl
owed_without commit client k (o ∷ os) h = elim (eqb_tells o.commit k) [
  | inl same ↦ (
      let other : (o.commit == commit) ≡ false = (let e = same.1 in grind (arith, nat_tests)) in
      let rest = owed_without commit client k os h in
      subst (λ b. owes_commit client commit (if not b then o ∷ filter (λ (x : Owed). not (x.commit == k)) os else filter (λ (x : Owed). not (x.commit == k)) os) ≡ owes_commit client commit (o ∷ os)) (sym same.0)
      (subst (λ b. owes_commit client commit (filter (λ (x : Owed). not (x.commit == k)) os) ≡ (b && (o.client == client)) || owes_commit client commit os) (sym other) rest))
  | inr apart ↦ subst (λ b. owes_commit client commit (if not b then o ∷ filter (λ (x : Owed). not (x.commit == k)) os else filter (λ (x : Owed). not (x.commit == k)) os) ≡ owes_commit client commit (o ∷ os)) (sym apart.0)
      (ap (λ r. ((o.commit == commit) && (o.client == client)) || r) (owed_without commit client k os h))
]

owed_gone : (commit client : ℕ) (os : List Owed) → owes_commit client commit (filter (λ (o : Owed). not (o.commit == commit)) os) ≡ false
owed_gone commit client [] = refl
owed_gone commit client (o ∷ os) = elim (eqb_tells o.commit commit) [
  | inl same ↦ subst (λ b. owes_commit client commit (if not b then o ∷ filter (λ (x : Owed). not (x.commit == commit)) os else filter (λ (x : Owed). not (x.commit == commit)) os) ≡ false) (sym same.0) (owed_gone commit client os)
  | inr apart ↦ subst (λ b. owes_commit client commit (if not b then o ∷ filter (λ (x : Owed). not (x.commit == commit)) os else filter (λ (x : Owed). not (x.commit == commit)) os) ≡ false) (sym apart.0)
      (subst (λ b. (b && (o.client == client)) || owes_commit client commit (filter (λ (x : Owed). not (x.commit == commit)) os) ≡ false) (sym apart.0) (owed_gone commit client os))
]

abbrev Leaves : ℕ → Act → Type 0
Leaves client act = (act.client ≡ client) × IsTrue (leaves_staged act.kind)

abbrev Unsettled : ℕ → Act → Type 0
Unsettled commit act = settles commit act.kind ≡ false

-- the journal with one more entry
module _ (pre : List Act) (e : Act) (client commit : ℕ) where
  longer : length (pre ++ e ∷ []) ≡ length pre + 1
  longer = length-append pre (e ∷ [])

  still : IsOwed pre client commit → settles commit e.kind ≡ false → IsOwed (pre ++ e ∷ []) client commit
  still r h =
      let low = entry_within pre commit (Leaves client) r.made in
      record {
        made = subst (λ o. IsSomeAnd o (Leaves client)) (sym (entry_before pre e commit low)) r.made;
        unsettled = λ n later. elim (leb_tells n (length pre)) [
          | inl within ↦ subst (λ o. IfSome o (Unsettled commit)) (sym (entry_before pre e n within.1)) (r.unsettled n later)
          | inr high ↦ elim (leb_tells n (length pre + 1)) [
            | inl at ↦ (let same : n ≡ length pre + 1 = omega (arith, high.1, at.1) in subst (λ o. IfSome o (Unsettled commit)) (sym (ap (entry_at (pre ++ e ∷ [])) same ∙ entry_last pre e)) h)
            | inr past ↦ subst (λ o. IfSome o (Unsettled commit)) (sym (entry_past (pre ++ e ∷ []) n (let l = longer in omega (arith, l, past.1)))) tt
          ]
        ];
      }

  was : IsOwed (pre ++ e ∷ []) client commit → commit ≤ length pre → IsOwed pre client commit
  was r low = record {
    made = subst (λ o. IsSomeAnd o (Leaves client)) (entry_before pre e commit low) r.made;
    unsettled = λ n later. elim (leb_tells n (length pre)) [
      | inl within ↦ subst (λ o. IfSome o (Unsettled commit)) (entry_before pre e n within.1) (r.unsettled n later)
      | inr high ↦ subst (λ o. IfSome o (Unsettled commit)) (sym (entry_past pre n high.1)) tt
    ];
  }

  not_settled : IsOwed (pre ++ e ∷ []) client commit → commit ≤ length pre → settles commit e.kind ≡ false
  not_settled r low = let t : IfSome (Some e) (Unsettled commit) = subst (λ o. IfSome o (Unsettled commit)) (entry_last pre e) (r.unsettled (length pre + 1) (omega arith)) in t

  new : commit ≡ length pre + 1 → Leaves client e → IsOwed (pre ++ e ∷ []) client commit
  new at h = record {
    made = subst (λ o. IsSomeAnd o (Leaves client)) (sym (ap (entry_at (pre ++ e ∷ [])) at ∙ entry_last pre e)) h;
    unsettled = λ n later. subst (λ o. IfSome o (Unsettled commit)) (sym (entry_past (pre ++ e ∷ []) n (let l = longer in omega (arith, l, at, later)))) tt;
  }

  newly : IsOwed (pre ++ e ∷ []) client commit → commit ≡ length pre + 1 → Leaves client e
  newly r at = let t : IsSomeAnd (Some e) (Leaves client) = subst (λ o. IsSomeAnd o (Leaves client)) (ap (entry_at (pre ++ e ∷ [])) at ∙ entry_last pre e) r.made in t

  within_longer : IsOwed (pre ++ e ∷ []) client commit → commit ≤ length pre + 1
  within_longer r = let h = entry_within (pre ++ e ∷ []) commit (Leaves client) r.made in let l = longer in omega (arith, h, l)

-- what is owed is what the entries say

pub record Owing (pre : List Act) (s : State) : Type 0 where
  pub count : s.count ≡ length pre
  pub says : (client commit : ℕ) → IsTrue (owes_commit client commit s.owed) → IsOwed pre client commit
  pub shows : (client commit : ℕ) → IsOwed pre client commit → IsTrue (owes_commit client commit s.owed)

first_of : (a b c : Bool) → IsTrue ((a && b) || c) → c ≡ false → (a ≡ true) × (b ≡ true)
first_of true true c h g = (refl, refl)
first_of true false c h g = absurd (cc)
first_of false b c h g = absurd (cc)

either_first : (a b c : Bool) → a ≡ true → b ≡ true → IsTrue ((a && b) || c)
either_first true true c h g = refl
either_first true false c h g = absurd (cc)
either_first false b c h g = absurd (cc)

not_either : (a b c : Bool) → b ≡ false → c ≡ false → ((a && b) || c) ≡ false
not_either true b c h g = cc
not_either false b c h g = g

abbrev made : Bool → ℕ → ℕ → List Owed
made none count client = (if none then [] else record { commit = count; client = client } ∷ [])

record IsNew (none : Bool) (count client other commit : ℕ) : Type 0 where
  at : commit ≡ count
  own : client ≡ other
  some : IsTrue (not none)

new_only : (none : Bool) (count client other commit : ℕ) (os : List Owed) → IsTrue (owes_commit other commit (made none count client ++ os)) → owes_commit other commit os ≡ false → IsNew none count client other commit
new_only true count client other commit os h g = absurd (cc)
new_only false count client other commit os h g =
    let both = first_of (count == commit) (client == other) (owes_commit other commit os) h g in
    let at = both.0 in let own = both.1 in
    record { at = grind (arith, nat_tests); own = grind (arith, nat_tests); some = refl }

new_there : (none : Bool) (count client other commit : ℕ) (os : List Owed) → commit ≡ count → client ≡ other → IsTrue (not none) → IsTrue (owes_commit other commit (made none count client ++ os))
new_there true count client other commit os at own h = absurd (cc)
new_there false count client other commit os at own h = either_first (count == commit) (client == other) (owes_commit other commit os) (grind (arith, nat_tests)) (grind (arith, nat_tests))

old_there : (none : Bool) (count client other commit : ℕ) (os : List Owed) → IsTrue (owes_commit other commit os) → IsTrue (owes_commit other commit (made none count client ++ os))
old_there true count client other commit os h = h
old_there false count client other commit os h = or_right _ (owes_commit other commit os) h

module _ (pre : List Act) (e : Act) (s : State) (owed : List Owed) (o : Owing pre s) where
  says_next : (client commit : ℕ) → OwedAfter s e.client e.kind owed → IsTrue (owes_commit client commit owed) → IsOwed (pre ++ e ∷ []) client commit
  says_next client commit (Spared l n same) h = still pre e client commit (o.says client commit (subst (λ os. IsTrue (owes_commit client commit os)) same h)) (n commit)
  says_next client commit (Made inode from len staged k same) h =
      let there = subst (λ os. IsTrue (owes_commit client commit os)) same h in
      elim (cases_Bool (owes_commit client commit s.owed)) [
        | inl old ↦ still pre e client commit (o.says client commit old) (ap (settles commit) k)
        | inr fresh ↦ (
            let n = new_only (staged == 0) (s.count + 1) e.client client commit s.owed there fresh in
            let at : commit ≡ length pre + 1 = n.at ∙ ap (λ c. c + 1) o.count in
            new pre e client commit at (n.own, ap leaves_staged k ∙ n.some))
      ]
  says_next client commit (Published k' k same) h = elim (eqb_tells k' commit) [
    | inl at ↦ (
        let there : IsTrue (owes_commit client commit (filter (λ (x : Owed). not (x.commit == commit)) s.owed)) = subst (λ n. IsTrue (owes_commit client commit (filter (λ (x : Owed). not (x.commit == n)) s.owed))) at.1 (subst (λ os. IsTrue (owes_commit client commit os)) same h) in
        let gone = owed_gone commit client s.owed in
        absurd (cc))
    | inr apart ↦ (
        let there = subst (λ os. IsTrue (owes_commit client commit os)) same h in
        let old : IsTrue (owes_commit client commit s.owed) = sym (owed_without commit client k' s.owed apart.1) ∙ there in
        still pre e client commit (o.says client commit old) (ap (settles commit) k ∙ apart.0))
  ]

  shows_low : (client commit : ℕ) → OwedAfter s e.client e.kind owed → IsOwed pre client commit → settles commit e.kind ≡ false → IsTrue (owes_commit client commit owed)
  shows_low client commit (Spared l n same) r u = subst (λ os. IsTrue (owes_commit client commit os)) (sym same) (o.shows client commit r)
  shows_low client commit (Made inode from len staged k same) r u = subst (λ os. IsTrue (owes_commit client commit os)) (sym same) (old_there (staged == 0) (s.count + 1) e.client client commit s.owed (o.shows client commit r))
  shows_low client commit (Published k' k same) r u = elim (eqb_tells k' commit) [
    | inl at ↦ (let yes : settles commit e.kind ≡ true = ap (settles commit) k ∙ at.0 in absurd (cc))
    | inr apart ↦ subst (λ os. IsTrue (owes_commit client commit os)) (sym same) (owed_without commit client k' s.owed apart.1 ∙ o.shows client commit r)
  ]

  shows_last : (client commit : ℕ) → OwedAfter s e.client e.kind owed → commit ≡ length pre + 1 → Leaves client e → IsTrue (owes_commit client commit owed)
  shows_last client commit (Spared l n same) at r = let yes = r.1 in absurd (cc)
  shows_last client commit (Made inode from len staged k same) at r =
      subst (λ os. IsTrue (owes_commit client commit os)) (sym same) (new_there (staged == 0) (s.count + 1) e.client client commit s.owed (at ∙ ap (λ c. c + 1) (sym o.count)) r.0 (sym (ap leaves_staged k) ∙ r.1))
  shows_last client commit (Published k' k same) at r = let yes = sym (ap leaves_staged k) ∙ r.1 in absurd (cc)

  shows_next : (client commit : ℕ) → OwedAfter s e.client e.kind owed → IsOwed (pre ++ e ∷ []) client commit → IsTrue (owes_commit client commit owed)
  shows_next client commit a r = elim (leb_tells commit (length pre)) [
    | inl low ↦ shows_low client commit a (was pre e client commit r low.1) (not_settled pre e client commit r low.1)
    | inr high ↦ (let n = within_longer pre e client commit r in let at : commit ≡ length pre + 1 = omega (arith, n, high.1) in shows_last client commit a at (newly pre e client commit r at))
  ]

owing_enters : (run : Setup) (pre : List Act) (act : Act) → Allowed (begun_to act.line (reached run pre)) act → Owing pre (begun_to act.line (reached run pre)).state → Owing (pre ++ act ∷ []) (effect (begun_to act.line (reached run pre)).state act)
owing_enters run pre act may o =
    let p = begun_to act.line (reached run pre) in
    let a = owed_entry p act may in
    record {
      count = ap (λ n. n + 1) o.count ∙ sym (length-append pre (act ∷ []));
      says = λ client commit. says_next pre act p.state (effect p.state act).owed o client commit a;
      shows = λ client commit. shows_next pre act p.state (effect p.state act).owed o client commit a;
    }

owing_submits : (run : Setup) (pre : List Act) (s : State) (client : ℕ) (o : Op) → submission (s.clients client) o ≡ None → Owing pre s → Owing pre (set_client s client (submitted run.limits o (s.clients client)))
owing_submits run pre s client o none h = record { count = h.count; says = h.says; shows = h.shows }

owing_start : (run : Setup) → Owing [] (state_at_start run.start.tree)
owing_start run = record { count = refl; says = λ client commit h. absurd (cc); shows = λ client commit r. absurd (none_entered commit (Leaves client) r.made) }

pub owing : (run : Setup) (journal : List Act) → AllAllowed (at_start run) journal → Owing journal (reached run journal).state
owing run journal may = holds run Owing (owing_submits run) (owing_enters run) (owing_start run) journal may

pub owing_on : (run : Setup) (journal : List Act) → AllAllowed (at_start run) journal → (line : ℕ) → Owing journal (begun_to line (reached run journal)).state
owing_on run journal may line = holds_on run Owing (owing_submits run) (owing_enters run) (owing_start run) journal may line

pub owed_commits : OwedCommits
owed_commits run journal may client commit = let o = owing run journal may in (o.says client commit, o.shows client commit)

-- a publish settles an owed commit

record IsNamed (commit : ℕ) (os : List Owed) : Type 0 where
  client : ℕ
  owed : IsTrue (owes_commit client commit os)

named_of : (commit : ℕ) (os : List Owed) → IsTrue (list_any (λ (o : Owed). o.commit == commit) os) → IsNamed commit os
named_of commit [] h = absurd (cc)
named_of commit (o ∷ os) h = elim (eqb_tells o.commit commit) [
  | inl same ↦ (let e = same.0 in record { client = o.client; owed = either_first (o.commit == commit) (o.client == o.client) (owes_commit o.client commit os) e (grind (arith, nat_tests)) })
  | inr apart ↦ (let rest = named_of commit os (subst (λ b. IsTrue (b || list_any (λ (x : Owed). x.commit == commit) os)) apart.0 h) in
      record { client = rest.client; owed = or_right _ (owes_commit rest.client commit os) rest.owed })
]

abbrev IsAmong : State → ℕ → Type 0
IsAmong s commit = IsTrue (list_any (λ (o : Owed). o.commit == commit) s.owed)

publish_owed : (s : State) (kind : ActKind) (commit : ℕ) → kind ≡ Settled commit → IsPublish s kind → IsAmong s commit
publish_owed s kind commit e h = let t : IsPublish s (Settled commit) = subst (IsPublish s) e h in t

settled_owed : (p : Past) (act : Act) (commit : ℕ) → act.kind ≡ Settled commit → Entry p act → IsAmong p.state commit
settled_owed p act commit k (Steps d e may) = let t = subst (λ kind. MayStep p.run.start (p.run.uploads == 0) p.state act.client act.at (p.state.clients act.client) d kind) k may in owed_of p.state.owed act.client commit t.owed
settled_owed p act commit k (RefusedSubmission fault e (Refuses k')) = absurd (cc)
settled_owed p act commit k (RefusedSubmission fault e (RefusalLacks b k')) = absurd (cc)
settled_owed p act commit k (LacksMemory e k') = absurd (cc)
settled_owed p act commit k (Crashes e k') = absurd (cc)
settled_owed p act commit k (Publishes e h) = publish_owed p.state act.kind commit k h
settled_owed p act commit k (OfDrain client e due (Sends h)) = publish_owed p.state act.kind commit k (publish_of p.state client act.kind h)
settled_owed p act commit k (OfDrain client e due (Ends h k')) = absurd (cc)
settled_owed p act commit k (OfDrain client e due (Fails told h k')) = absurd (cc)
settled_owed p act commit k (Ticks by e k') = absurd (cc)

own_settled : (p : Past) (act : Act) (commit : ℕ) → act.kind ≡ Settled commit → Entry p act → (act.client ≡ NO_CLIENT → ⊥) → IsTrue (owes_commit act.client commit p.state.owed)
own_settled p act commit k (Steps d e may) some = let t = subst (λ kind. MayStep p.run.start (p.run.uploads == 0) p.state act.client act.at (p.state.clients act.client) d kind) k may in t.owed
own_settled p act commit k (RefusedSubmission fault e (Refuses k')) some = absurd (cc)
own_settled p act commit k (RefusedSubmission fault e (RefusalLacks b k')) some = absurd (cc)
own_settled p act commit k (LacksMemory e k') some = absurd (cc)
own_settled p act commit k (Crashes e k') some = absurd (cc)
own_settled p act commit k (Publishes e h) some = absurd (some e)
own_settled p act commit k (OfDrain client e due h) some = absurd (some e)
own_settled p act commit k (Ticks by e k') some = absurd (some e)

drain_settles : (s : State) (client commit : ℕ) (kind : ActKind) → kind ≡ Settled commit → Drains s client kind → IsTrue (owes_commit client commit s.owed)
drain_settles s client commit kind k (Sends h) = let t : IsPublishOf s client (Settled commit) = subst (IsPublishOf s client) k h in t
drain_settles s client commit kind k (Ends h e) = absurd (cc)
drain_settles s client commit kind k (Fails told h e) = absurd (cc)

line_settled : (p : Past) (act : Act) (client commit : ℕ) (worker : Bool) → worker ≡ false → p.due ≡ DrainEntries client → act.kind ≡ Settled commit → MatchBool worker (OfWorker p act) (OfLine p act p.due) → IsTrue (owes_commit client commit p.state.owed)
line_settled p act client commit true own due k h = absurd (cc)
line_settled p act client commit false own due k h = let t : OfLine p act (DrainEntries client) = subst (OfLine p act) due h in drain_settles p.state client commit act.kind k t.1

pub settles_owed : SettlesOwed
settles_owed run journal act may commit k =
    let parts = AllAllowed-parts (at_start run) journal (act ∷ []) may in
    let b = begun_to act.line (reached run journal) in
    let o = owing_on run journal parts.0 act.line in
    let n = named_of commit b.state.owed (settled_owed b act commit k (entry_of b act parts.1.0)) in
    record {
      by_some = record { client = n.client; owed = o.says n.client commit n.owed };
      by_own = λ some. o.says act.client commit (own_settled b act commit k (entry_of b act parts.1.0) some);
      by_line = λ client due own. o.says client commit (line_settled b act client commit (is_workers b) (workers_at run journal act.line parts.0 ∙ own) due k parts.1.0.stands);
    }

none_owed : (client commit : ℕ) (os : List Owed) → IsTrue (not (list_any (λ (o : Owed). o.client == client) os)) → owes_commit client commit os ≡ false
none_owed client commit [] h = refl
none_owed client commit (o ∷ os) h = elim (eqb_tells o.client client) [
  | inl same ↦ (let no : IsTrue (not (true || list_any (λ (x : Owed). x.client == client) os)) = subst (λ b. IsTrue (not (b || list_any (λ (x : Owed). x.client == client) os))) same.0 h in absurd (cc))
  | inr apart ↦ (
      let rest = none_owed client commit os (subst (λ b. IsTrue (not (b || list_any (λ (x : Owed). x.client == client) os))) apart.0 h) in
      let off = apart.0 in
      not_either (o.commit == commit) (o.client == client) (owes_commit client commit os) off rest)
]

drain_ends : (s : State) (client : ℕ) (kind : ActKind) (a b c d : ℕ) → kind ≡ Answered (Fine a b c d) → Drains s client kind → IsTrue (owes_none s client)
drain_ends s client kind a b c d k (Sends h) = absurd (subst (IsPublishOf s client) k h)
drain_ends s client kind a b c d k (Ends h e) = h
drain_ends s client kind a b c d k (Fails told h e) =
    let same : Fine a b c d ≡ told = cc in
    let f : IsTrue (is_failure (Fine a b c d)) = subst (λ t. IsTrue (is_failure t)) (sym same) h in
    absurd (cc)

-- who answers that nothing is owed

drain_at : (p : Past) (act : Act) (client a b c d : ℕ) (worker : Bool) → p.due ≡ DrainEntries client → act.kind ≡ Answered (Fine a b c d) → MatchBool worker (OfWorker p act) (OfLine p act p.due) → IsTrue (owes_none p.state client)
drain_at p act client a b c d true due k h = absurd (subst (IsPublish p.state) k h.2)
drain_at p act client a b c d false due k h = let t : OfLine p act (DrainEntries client) = subst (OfLine p act) due h in drain_ends p.state client act.kind a b c d k t.1

pub none_is_owed : (run : Setup) (journal : List Act) → AllAllowed (at_start run) journal → (line client commit : ℕ) → IsTrue (owes_none (begun_to line (reached run journal)).state client) → IsOwed journal client commit → ⊥
none_is_owed run journal may line client commit none owed =
    let o = owing_on run journal may line in
    let there = o.shows client commit owed in
    let off = none_owed client commit (begun_to line (reached run journal)).state.owed none in
    cc

pub drained : DrainsSettleAll
drained run journal act may client due a b c d k commit owed =
    let parts = AllAllowed-parts (at_start run) journal (act ∷ []) may in
    let p = begun_to act.line (reached run journal) in
    none_is_owed run journal parts.0 act.line client commit (drain_at p act client a b c d (is_workers p) due k parts.1.0.stands) owed
