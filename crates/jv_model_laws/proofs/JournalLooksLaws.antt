-- What clients' views are, by the numbers of the journal's entries.
use Rattle.std.proofs.Common.{◌≡◌, ℕ, ◌+◌, ◌≤◌, ◌<◌, Bool, true, false, not, ◌==◌, if◌then◌else◌, IsTrue, IsSomeAnd, IfSome, inl, inr, List, [], ◌∷◌, ◌++◌, length, take, Option, None, Some, refl, sym, ap, subst, ◌∙◌, arith, length-append}
use Rattle.std.proofs.lemmas.Bool.{eqb-true}
use Rattle.std.specs.List.{AllByRecursion}
use Rattle.std.proofs.lemmas.List.{take-append-le, take_all}
use Rattle.std.proofs.lemmas.Bool.Decides.{nat_tests, leb_tells, eqb_tells}
use Rattle.std.specs.Prelude.{find}
use Rattle.jv_model.specs.declared.act.Act.{Act}
use Rattle.jv_model.specs.declared.act.ActKind.{ActKind}
use Rattle.jv_model.specs.declared.act.ActKind.TheVariants.{Mounted, Meta, Opened, Look, Commit, Truncated, Copied, Compacted, Settled, Expired, Purged, Cleaned, Quiet, Miss, Crashed, Ticked, Answered}
use Rattle.jv_model.specs.declared.act.Told.{Told}
use Rattle.jv_model.specs.declared.act.Told.TheVariants.{Fine, Looks, Refused as ToldRefused}
use Rattle.jv_model.specs.declared.fault.Fault.{Fault}
use Rattle.jv_model.specs.declared.fault.Fault.TheVariants.{Stale}
use Rattle.jv_model.specs.declared.fault.Gone.TheVariants.{Session, Node}
use Rattle.jv_model.specs.declared.op.Op.{Op}
use Rattle.jv_model.specs.declared.op.Op.TheVariants as op
use Rattle.jv_model.specs.declared.profile.Does.{Does}
use Rattle.jv_model.specs.promise.tree.Tree.{Tree, Content, content_at}
use Rattle.jv_model.specs.promise.client.Origins.{Origin, Marks}
use Rattle.jv_model.specs.promise.client.ModelClient.{ModelClient, OpenFile, View, Doing, Stage, Replying, unmounted, with_stage, views_without}
use Rattle.jv_model.specs.promise.client.Submission.{submission, submitted}
use Rattle.jv_model.specs.promise.journal.State.{State, transacted, newly_sustained, next_entry, gift_of, after_transaction, Gift, NewSession, NewHandle, Nothing, state_at_start, with_client, set_client, given, replied, finished, refused_as, after_told, answered_client, is_of_another, after_step, after_other, of_doing, changed, effect, view_now, or_empty, is_compaction}
use Rattle.jv_model.specs.promise.journal.Reading.{is_fresh}
use Rattle.jv_model.specs.promise.journal.Past.{Setup, Past, at_start, begun_to, reached}
use Rattle.jv_model.specs.promise.journal.Legal.{Allowed, AllAllowed}
use Rattle.jv_model.specs.journal.Looks.{entry_at, changes_file}
use Rattle.jv_model_laws.specs.Laws.{FreshViewsAreFreshLooks, HasSeen}
use Rattle.jv_model_laws.proofs.JournalGrowthLaws.{own_client, others_kept}
use Rattle.jv_model_laws.proofs.JournalStateLaws.{entry_of, entry_before, entry_last, entry_past, entry_within, holds_on, state-more, of_kind}
use Rattle.jv_model_laws.proofs.JournalOwedLaws.{is_of_operation, has_operation}

-- what a client keeps where its stage changes

pub record SameFiles (c d : ModelClient) : Type 0 where
  pub views : d.views ≡ c.views
  pub pending : d.pending ≡ c.pending

staged_files : (stage : Stage) (c : ModelClient) (o : Option Doing) → SameFiles c (elim o [ None ↦ c | Some d ↦ record c { doing = Some (record d { stage = stage; moved = true }) } ])
staged_files stage c None = record { views = refl; pending = refl }
staged_files stage c (Some d) = record { views = refl; pending = refl }

pub stage_files : (stage : Stage) (c : ModelClient) → SameFiles c (with_stage stage c)
stage_files stage c = staged_files stage c c.doing

given_files : (entry : ℕ) (does : Does) (gift : Gift) (c : ModelClient) → SameFiles c (given entry does gift c)
given_files entry does (NewSession sid) c = record { views = refl; pending = refl }
given_files entry does (NewHandle handle inode) c = record { views = refl; pending = refl }
given_files entry does Nothing c = record { views = refl; pending = refl }

pub replied_files : (entry : ℕ) (does : Does) (gift : Gift) (stage : Stage) (c : ModelClient) → SameFiles c (with_stage stage (given entry does gift c))
replied_files entry does gift stage c = let g = given_files entry does gift c in let t = stage_files stage (given entry does gift c) in record { views = t.views ∙ g.views; pending = t.pending ∙ g.pending }

-- the views of an entry's own client after it

data ViewsAfter (s : State) (client : ℕ) (kind : ActKind) (views : List View) : Type 0 where
  Spared : ((inode : ℕ) → changes_file inode kind ≡ false) → views ≡ (s.clients client).views → ViewsAfter s client kind views
  Dropped : views ≡ [] → ViewsAfter s client kind views
  Spoiled : (inode : ℕ) → ((file : ℕ) → changes_file file kind ≡ true → inode ≡ file) → views ≡ views_without inode (s.clients client).views → ViewsAfter s client kind views
  Taken : (handle inode window : ℕ) → kind ≡ Look inode window → views ≡ view_now s handle inode window ∷ (s.clients client).views → ViewsAfter s client kind views

abbrev views_of : ModelClient → List View
views_of c = c.views

own_views : (clients : ℕ → ModelClient) (at : ℕ) (c : ModelClient) (views : List View) → c.views ≡ views → views_of (with_client clients at c at) ≡ views
own_views clients at c views e = ap views_of (own_client clients at c) ∙ e

stage_views : (stage : Stage) (c : ModelClient) → (with_stage stage c).views ≡ c.views
stage_views stage c = (stage_files stage c).views

looked_after : (s : State) (client inode window handle : ℕ) (compacts : Bool) (first other : Stage) → ViewsAfter s client (Look inode window) (with_client s.clients client (if compacts
    then with_stage first (s.clients client)
    else with_stage other (record (s.clients client) { views = view_now s handle inode window ∷ (s.clients client).views })) client).views
looked_after s client inode window handle true first other = Spared (λ _. refl) (own_views s.clients client _ _ (stage_views first (s.clients client)))
looked_after s client inode window handle false first other = Taken handle inode window refl (own_views s.clients client _ _ (stage_views other _))

pub transaction_files : (s : State) (client now : ℕ) (d : Doing) → SameFiles (s.clients client) ((after_transaction s client now d).clients client)
transaction_files s client now d =
    let c = s.clients client in
    let done = transacted s client now d.op in
    let sustained : List ℕ = newly_sustained s.tree done.tree c ++ c.sustained in
    let old : ModelClient = record c { sustained = sustained } in
    let r = replied_files (next_entry s) d.does (gift_of done.reply) (Replying done.reply) old in
    let own = own_client s.clients client (replied (next_entry s) d.does done.reply old) in
    record { views = ap views_of own ∙ r.views; pending = ap (λ (x : ModelClient). x.pending) own ∙ r.pending }

views_step : (s : State) (act : Act) (d : Doing) (kind : ActKind) → is_of_operation kind ≡ true → ViewsAfter s act.client kind ((after_step s act d kind).clients act.client).views
views_step s act d (Mounted sid) h = Spared (λ _. refl) (transaction_files s act.client act.at d).views
views_step s act d Meta h = Spared (λ _. refl) (transaction_files s act.client act.at d).views
views_step s act d (Opened handle inode) h = Spared (λ _. refl) (transaction_files s act.client act.at d).views
views_step s act d (Look inode window) h = looked_after s act.client inode window _ (is_compaction d.does) _ _
views_step s act d (Commit inode from len staged) h = Spoiled inode (λ file h. eqb-true inode file h) (own_views s.clients act.client _ _ (stage_views _ _))
views_step s act d (Truncated inode len) h = Spoiled inode (λ file h. eqb-true inode file h) (own_views s.clients act.client _ _ (stage_views _ _))
views_step s act d (Copied source from target to len) h = Spoiled target (λ file h. eqb-true target file h) (own_views s.clients act.client _ _ (stage_views _ _))
views_step s act d (Compacted inode window from to) h = Spared (λ _. refl) (own_views s.clients act.client _ _ (stage_views _ (s.clients act.client)))
views_step s act d (Expired sid) h = Spared (λ _. refl) (own_views s.clients act.client _ _ (stage_views _ (s.clients act.client)))
views_step s act d (Purged inode) h = Spared (λ _. refl) (own_views s.clients act.client _ _ (stage_views _ (s.clients act.client)))
views_step s act d (Cleaned table key) h = Spared (λ _. refl) (own_views s.clients act.client _ _ (stage_views _ (s.clients act.client)))
views_step s act d (Miss inode window) h = Spared (λ _. refl) (own_views s.clients act.client _ _ (stage_views _ (s.clients act.client)))
views_step s act d (Settled commit) h = absurd (cc)
views_step s act d Quiet h = absurd (cc)
views_step s act d Crashed h = absurd (cc)
views_step s act d (Ticked by) h = absurd (cc)
views_step s act d (Answered told) h = absurd (cc)

views_other : (s : State) (client : ℕ) (kind : ActKind) → is_of_operation kind ≡ false → ViewsAfter s client kind ((after_other s kind).clients client).views
views_other s client (Settled commit) h = Spared (λ _. refl) refl
views_other s client Quiet h = Spared (λ _. refl) refl
views_other s client Crashed h = Spared (λ _. refl) refl
views_other s client (Ticked by) h = Spared (λ _. refl) refl
views_other s client (Answered told) h = Spared (λ _. refl) refl
views_other s client _ h = absurd (cc)

-- answers

finished_views : (o : Op) (c : ModelClient) (P : List View → Type 0) → P c.views → P [] → P (finished o c).views
finished_views op.Umount c P h n = n
finished_views _ c P h n = h

refused_views : (fault : Fault) (c : ModelClient) (P : List View → Type 0) → P c.views → P [] → P (refused_as fault c).views
refused_views (Stale (Session sid)) c P h n = n
refused_views (Stale (Node inode)) c P h n = h
refused_views _ c P h n = h

told_views : (o : Op) (told : Told) (c : ModelClient) (P : List View → Type 0) → P c.views → P [] → P (after_told o told c).views
told_views o (Fine a b d e) c P h n = finished_views o c P h n
told_views o (Looks first second len) c P h n = finished_views o c P h n
told_views o (ToldRefused fault) c P h n = refused_views fault c P h n

either_views : (b : Bool) (c d : ModelClient) (P : List View → Type 0) → P c.views → P d.views → P (if b then c else d).views
either_views true c d P h g = h
either_views false c d P h g = g

answered_doing : (c : ModelClient) (told : Told) (o : Option Doing) (P : List View → Type 0) → P c.views → P [] → P (elim o as (λ _. ModelClient) [ None ↦ c | Some d ↦ (if is_of_another d.stage told then c else after_told d.op told c) ]).views
answered_doing c told None P h n = h
answered_doing c told (Some d) P h n = either_views (is_of_another d.stage told) c (after_told d.op told c) P h (told_views d.op told c P h n)

answered_views : (c : ModelClient) (told : Told) (P : List View → Type 0) → P c.views → P [] → P (answered_client told c).views
answered_views c told P h n = answered_doing c told c.doing P h n

views_answered : (s : State) (client : ℕ) (told : Told) → ViewsAfter s client (Answered told) (with_client s.clients client (answered_client told (s.clients client)) client).views
views_answered s client told = subst (λ (c : ModelClient). ViewsAfter s client (Answered told) c.views) (sym (own_client s.clients client (answered_client told (s.clients client))))
    (answered_views (s.clients client) told (ViewsAfter s client (Answered told)) (Spared (λ _. refl) refl) (Dropped refl))

views_settled : (s : State) (client : ℕ) (kind : ActKind) (stage : Stage) → ((inode : ℕ) → changes_file inode kind ≡ false) → ViewsAfter s client kind (with_client s.clients client (with_stage stage (s.clients client)) client).views
views_settled s client kind stage h = Spared h (own_views s.clients client _ _ (stage_views stage (s.clients client)))

views_doing_step : (s : State) (act : Act) (d : Doing) (kind : ActKind) → ViewsAfter s act.client kind ((after_step s act d kind).clients act.client).views
views_doing_step s act d (Settled commit) = views_settled s act.client (Settled commit) _ (λ _. refl)
views_doing_step s act d Quiet = views_settled s act.client Quiet _ (λ _. refl)
views_doing_step s act d Crashed = Spared (λ _. refl) refl
views_doing_step s act d (Ticked by) = Spared (λ _. refl) refl
views_doing_step s act d (Answered told) = Spared (λ _. refl) refl
views_doing_step s act d kind = views_step s act d kind refl

views_doing : (s : State) (act : Act) (o : Option Doing) → (o ≡ None → is_of_operation act.kind ≡ false) → ViewsAfter s act.client act.kind ((of_doing s act o).clients act.client).views
views_doing s act None h = views_other s act.client act.kind (h refl)
views_doing s act (Some d) h = views_doing_step s act d act.kind

views_changed : (s : State) (act : Act) (kind : ActKind) → ((s.clients act.client).doing ≡ None → is_of_operation kind ≡ false) → ViewsAfter s act.client kind ((changed s (of_kind act kind) kind).clients act.client).views
views_changed s act Crashed h = Dropped (own_views s.clients act.client unmounted [] refl)
views_changed s act (Answered told) h = views_answered s act.client told
views_changed s act kind h = views_doing s (of_kind act kind) (s.clients act.client).doing h

views_entry : (p : Past) (act : Act) → Allowed p act → ViewsAfter p.state act.client act.kind ((effect p.state act).clients act.client).views
views_entry p act h = views_changed p.state act act.kind (has_operation p act (entry_of p act h))

-- what a view is

abbrev pub state_after : Setup → List Act → ℕ → State
state_after run journal n = (reached run (take n journal)).state

abbrev pub tree_after : Setup → List Act → ℕ → Tree
tree_after run journal n = (state_after run journal n).tree

-- where a file's bytes come from
abbrev pub origins_in : State → ℕ → ℕ → Origin
origins_in s inode = λ position. (s.marks inode position).origin

abbrev pub IsLook : ℕ → ℕ → ℕ → Act → Type 0
IsLook client inode window act = (act.client ≡ client) × (act.kind ≡ Look inode window)

abbrev pub LeavesFile : ℕ → ℕ → Act → Type 0
LeavesFile client inode act = act.client ≡ client → changes_file inode act.kind ≡ false

pub record IsShown (run : Setup) (pre : List Act) (client : ℕ) (view : View) : Type 0 where
  pub looked : IsSomeAnd (entry_at pre view.entry) (IsLook client view.inode view.window)
  pub unchanged : (later : ℕ) → view.entry < later → IfSome (entry_at pre later) (LeavesFile client view.inode)
  pub content : view.content ≡ or_empty (content_at (tree_after run pre view.entry) view.inode)
  pub origin : view.origin ≡ origins_in (state_after run pre view.entry) view.inode

pub states_same : (run : Setup) (pre : List Act) (e : Act) (n : ℕ) → n ≤ length pre → state_after run (pre ++ e ∷ []) n ≡ state_after run pre n
states_same run pre e n h = ap (λ acts. (reached run acts).state) (take-append-le n pre (e ∷ []) h)

pub state_last : (run : Setup) (pre : List Act) (e : Act) → state_after run (pre ++ e ∷ []) (length pre + 1) ≡ (reached run (pre ++ e ∷ [])).state
state_last run pre e = ap (λ acts. (reached run acts).state) (take_all (length pre + 1) (pre ++ e ∷ []) (let k = length-append pre (e ∷ []) in omega (arith, k)))

-- a view stays what it is after one more entry, where that is no change of its file by its client
shown_later : (run : Setup) (pre : List Act) (e : Act) (client : ℕ) (view : View) → IsShown run pre client view → LeavesFile client view.inode e → IsShown run (pre ++ e ∷ []) client view
shown_later run pre e client view r g =
    let low = entry_within pre view.entry (IsLook client view.inode view.window) r.looked in
    record {
      looked = subst (λ o. IsSomeAnd o (IsLook client view.inode view.window)) (sym (entry_before pre e view.entry low)) r.looked;
      unchanged = λ k later. elim (leb_tells k (length pre)) [
        | inl within ↦ subst (λ o. IfSome o (LeavesFile client view.inode)) (sym (entry_before pre e k within.1)) (r.unchanged k later)
        | inr high ↦ elim (leb_tells k (length pre + 1)) [
          | inl at ↦ (let same : k ≡ length pre + 1 = omega (arith, high.1, at.1) in subst (λ o. IfSome o (LeavesFile client view.inode)) (sym (ap (entry_at (pre ++ e ∷ [])) same ∙ entry_last pre e)) g)
          | inr past ↦ subst (λ o. IfSome o (LeavesFile client view.inode)) (sym (entry_past (pre ++ e ∷ []) k (let l = length-append pre (e ∷ []) in omega (arith, l, past.1)))) tt
        ]
      ];
      content = r.content ∙ sym (ap (λ (s : State). or_empty (content_at s.tree view.inode)) (states_same run pre e view.entry low));
      origin = r.origin ∙ sym (ap (λ s. origins_in s view.inode) (states_same run pre e view.entry low));
    }

abbrev pub AllShown : Setup → List Act → ℕ → List View → Type 0
AllShown run pre client views = AllByRecursion (IsShown run pre client) views

all_later : (run : Setup) (pre : List Act) (e : Act) (client : ℕ) (views : List View) → AllShown run pre client views → (e.client ≡ client → (inode : ℕ) → changes_file inode e.kind ≡ false) → AllShown run (pre ++ e ∷ []) client views
all_later run pre e client [] h g = tt
all_later run pre e client (view ∷ views) h g = (shown_later run pre e client view h.0 (λ same. g same view.inode), all_later run pre e client views h.1 g)

no_change : (inode file : ℕ) (changes : Bool) → not (file == inode) ≡ true → (changes ≡ true → inode ≡ file) → changes ≡ false
no_change inode file false k only = refl
no_change inode file true k only = let e = only refl in absurd (grind (arith, nat_tests))

off_branch : (run : Setup) (pre : List Act) (e : Act) (client inode : ℕ) (view : View) (more : List View) (keep : Bool) → not (view.inode == inode) ≡ keep → ((file : ℕ) → changes_file file e.kind ≡ true → inode ≡ file)
    → IsShown run pre client view → AllShown run (pre ++ e ∷ []) client more → AllShown run (pre ++ e ∷ []) client (if keep then view ∷ more else more)
off_branch run pre e client inode view more false k only h rest = rest
off_branch run pre e client inode view more true k only h rest = (shown_later run pre e client view h (λ same. no_change inode view.inode (changes_file view.inode e.kind) k (only view.inode)), rest)

all_off : (run : Setup) (pre : List Act) (e : Act) (client inode : ℕ) (views : List View) → ((file : ℕ) → changes_file file e.kind ≡ true → inode ≡ file) → AllShown run pre client views → AllShown run (pre ++ e ∷ []) client (views_without inode views)
all_off run pre e client inode [] only h = tt
all_off run pre e client inode (view ∷ views) only h = off_branch run pre e client inode view (views_without inode views) (not (view.inode == inode)) refl only h.0 (all_off run pre e client inode views only h.1)

-- all views of all clients

pub record Shown (run : Setup) (pre : List Act) (s : State) : Type 0 where
  pub count : s.count ≡ length pre
  pub clients : (c : ℕ) → AllShown run pre c (s.clients c).views

module _ (run : Setup) (pre : List Act) (s : State) (act : Act) (count : s.count ≡ length pre) (tree : (inode window : ℕ) → act.kind ≡ Look inode window → s.tree ≡ (reached run (pre ++ act ∷ [])).state.tree)
    (origins : (inode window : ℕ) → act.kind ≡ Look inode window → s.marks ≡ (reached run (pre ++ act ∷ [])).state.marks) where
  last_state : state_after run (pre ++ act ∷ []) (next_entry s) ≡ (reached run (pre ++ act ∷ [])).state
  last_state = ap (λ n. state_after run (pre ++ act ∷ []) (n + 1)) count ∙ state_last run pre act

  own_shown : (views : List View) → ViewsAfter s act.client act.kind views → AllShown run pre act.client (s.clients act.client).views → AllShown run (pre ++ act ∷ []) act.client views
  own_shown views (Spared n e) all = subst (AllShown run (pre ++ act ∷ []) act.client) (sym e) (all_later run pre act act.client (s.clients act.client).views all (λ same. n))
  own_shown views (Dropped e) all = subst (AllShown run (pre ++ act ∷ []) act.client) (sym e) tt
  own_shown views (Spoiled inode only e) all = subst (AllShown run (pre ++ act ∷ []) act.client) (sym e) (all_off run pre act act.client inode (s.clients act.client).views only all)
  own_shown views (Taken handle inode window k e) all = subst (AllShown run (pre ++ act ∷ []) act.client) (sym e) (
    record {
      looked = subst (λ o. IsSomeAnd o (IsLook act.client inode window)) (sym (ap (λ n. entry_at (pre ++ act ∷ []) (n + 1)) count ∙ entry_last pre act)) (refl, k);
      unchanged = λ later h. subst (λ o. IfSome o (LeavesFile act.client inode)) (sym (entry_past (pre ++ act ∷ []) later (let l = length-append pre (act ∷ []) in omega (arith, l, h, count)))) tt;
      content = ap (λ t. or_empty (content_at t inode)) (tree inode window k ∙ sym (ap (λ (t : State). t.tree) last_state));
      origin = ap (λ (marks : Marks). λ position. (marks inode position).origin) (origins inode window k ∙ sym (ap (λ (t : State). t.marks) last_state));
    },
    all_later run pre act act.client (s.clients act.client).views all (λ same file. ap (changes_file file) k),
  )

look_other : (s : State) (act : Act) (inode window : ℕ) (o : Option Doing) → (of_doing s (of_kind act (Look inode window)) o).tree ≡ s.tree
look_other s act inode window None = refl
look_other s act inode window (Some d) = refl

look_tree : (s : State) (act : Act) (inode window : ℕ) (kind : ActKind) → kind ≡ Look inode window → (effect s (of_kind act kind)).tree ≡ s.tree
look_tree s act inode window kind e = subst (λ k. (effect s (of_kind act k)).tree ≡ s.tree) (sym e) (look_other s act inode window (s.clients act.client).doing)

marks_other : (s : State) (act : Act) (inode window : ℕ) (o : Option Doing) → (of_doing s (of_kind act (Look inode window)) o).marks ≡ s.marks
marks_other s act inode window None = refl
marks_other s act inode window (Some d) = refl

pub look_marks : (s : State) (act : Act) (inode window : ℕ) (kind : ActKind) → kind ≡ Look inode window → (effect s (of_kind act kind)).marks ≡ s.marks
look_marks s act inode window kind e = subst (λ k. (effect s (of_kind act k)).marks ≡ s.marks) (sym e) (marks_other s act inode window (s.clients act.client).doing)

shown_enters : (run : Setup) (pre : List Act) (act : Act) → Allowed (begun_to act.line (reached run pre)) act → Shown run pre (begun_to act.line (reached run pre)).state → Shown run (pre ++ act ∷ []) (effect (begun_to act.line (reached run pre)).state act)
shown_enters run pre act may h =
    let p = begun_to act.line (reached run pre) in
    let views = views_entry p act may in
    let tree : (inode window : ℕ) → act.kind ≡ Look inode window → p.state.tree ≡ (reached run (pre ++ act ∷ [])).state.tree = λ inode window k. sym (ap (λ (s : State). s.tree) (state-more run pre act) ∙ look_tree p.state act inode window act.kind k) in
    let origins : (inode window : ℕ) → act.kind ≡ Look inode window → p.state.marks ≡ (reached run (pre ++ act ∷ [])).state.marks = λ inode window k. sym (ap (λ (s : State). s.marks) (state-more run pre act) ∙ look_marks p.state act inode window act.kind k) in
    record {
      count = ap (λ n. n + 1) h.count ∙ sym (length-append pre (act ∷ []));
      clients = λ c. elim (eqb_tells c act.client) [
        | inl own ↦ subst (λ q. AllShown run (pre ++ act ∷ []) q ((effect p.state act).clients q).views) (sym own.1)
            (own_shown run pre p.state act h.count tree origins ((effect p.state act).clients act.client).views views (h.clients act.client))
        | inr other ↦ subst (λ (d : ModelClient). AllShown run (pre ++ act ∷ []) c d.views) (sym (others_kept p.state act c other.1))
            (all_later run pre act c (p.state.clients c).views (h.clients c) (λ same. absurd (other.1 (sym same))))
      ];
    }

shown_with : (run : Setup) (pre : List Act) (clients : ℕ → ModelClient) (at : ℕ) (c : ModelClient) → c.views ≡ (clients at).views → ((q : ℕ) → AllShown run pre q (clients q).views) → (q : ℕ) → AllShown run pre q (with_client clients at c q).views
shown_with run pre clients at c e all q = elim (eqb_tells q at) [
  | inl same ↦ subst (λ b. AllShown run pre q (if b then c else clients q).views) (sym same.0) (subst (AllShown run pre q) (sym e) (subst (λ n. AllShown run pre q (clients n).views) same.1 (all q)))
  | inr other ↦ subst (λ b. AllShown run pre q (if b then c else clients q).views) (sym other.0) (all q)
]

shown_submits : (run : Setup) (pre : List Act) (s : State) (client : ℕ) (o : Op) → submission (s.clients client) o ≡ None → Shown run pre s → Shown run pre (set_client s client (submitted run.limits o (s.clients client)))
shown_submits run pre s client o none h = record { count = h.count; clients = shown_with run pre s.clients client (submitted run.limits o (s.clients client)) refl h.clients }

shown_start : (run : Setup) → Shown run [] (state_at_start run.start.tree)
shown_start run = record { count = refl; clients = λ c. tt }

pub shown : (run : Setup) (journal : List Act) → AllAllowed (at_start run) journal → (line : ℕ) → Shown run journal (begun_to line (reached run journal)).state
shown run journal may line = holds_on run (Shown run) (shown_submits run) (shown_enters run) (shown_start run) journal may line

-- what is found among the views

first_branch : (test : View → Bool) (x v : View) (rest : Option View) (b : Bool) → test x ≡ b → (P : View → Type 0) → P x → (rest ≡ Some v → P v × IsTrue (test v)) → (if b then Some x else rest) ≡ Some v → P v × IsTrue (test v)
first_branch test x v rest true t P h g e = let same : x ≡ v = cc in (subst P same h, ap test (sym same) ∙ t)
first_branch test x v rest false t P h g e = g e

pub first_found : (test : View → Bool) (views : List View) (v : View) (P : View → Type 0) → AllByRecursion P views → find test views ≡ Some v → P v × IsTrue (test v)
first_found test [] v P all e = absurd (cc)
first_found test (x ∷ xs) v P all e = first_branch test x v (find test xs) (test x) refl P all.0 (first_found test xs v P all.1) e

pub record IsOf (v : View) (file : OpenFile) (window : ℕ) : Type 0 where
  pub inode : v.inode ≡ file.inode
  pub at_window : v.window ≡ window
  pub opened : file.opened < v.entry

pub fresh_is_of : (handle : ℕ) (file : OpenFile) (window : ℕ) (v : View) → IsTrue (is_fresh handle file window v) → IsOf v file window
fresh_is_of handle file window v h = record { inode = grind (arith, nat_tests); at_window = grind (arith, nat_tests); opened = grind (arith, nat_tests) }

abbrev seen_in : Setup → List Act → ℕ → ℕ → Content
seen_in run journal look inode = or_empty (content_at (reached run (take look journal)).state.tree inode)

pub view_seen : (run : Setup) (journal : List Act) (client handle : ℕ) (file : OpenFile) (window : ℕ) (v : View) → IsShown run journal client v → IsTrue (is_fresh handle file window v) → HasSeen run journal client file window v
view_seen run journal client handle file window v r h =
    let of = fresh_is_of handle file window v h in
    record {
      fresh = record {
        looked = subst (λ w. IsSomeAnd (entry_at journal v.entry) (IsLook client file.inode w)) of.at_window (subst (λ i. IsSomeAnd (entry_at journal v.entry) (IsLook client i v.window)) of.inode r.looked);
        opened = of.opened;
        unchanged = λ later after. subst (λ i. IfSome (entry_at journal later) (LeavesFile client i)) of.inode (r.unchanged later after);
      };
      bytes = r.content ∙ ap (seen_in run journal v.entry) of.inode;
    }

pub fresh_views : FreshViewsAreFreshLooks
fresh_views run journal may line client handle file window v e =
    let found = first_found (is_fresh handle file window) ((begun_to line (reached run journal)).state.clients client).views v (IsShown run journal client) ((shown run journal may line).clients client) e in
    view_seen run journal client handle file window v found.0 found.1
