-- Which entries let slices of files go, and which are requests of cleanings.
use Rattle.std.proofs.Common.{◌≡◌, ℕ, suc, ◌+◌, ◌≤◌, Bool, true, false, not, cond, ◌==◌, if◌then◌else◌, IsTrue, IsSomeAnd, List, [], ◌∷◌, ◌++◌, map, filter, length, take, is_some, Option, None, Some, refl, sym, ap, subst, ◌∙◌, arith, length-append}
use Rattle.std.proofs.lemmas.Bool.Decides.{nat_tests}
use Rattle.std.proofs.lemmas.List.{take-append-le, take_all}
use Rattle.std.specs.List.{AllByRecursion}
use Rattle.std.specs.Ordering.{is_eq}
use Rattle.std.specs.FinMap.Entries.{find}
use Rattle.jv_model.specs.declared.act.Act.{Act}
use Rattle.jv_model.specs.declared.act.ActKind.{ActKind}
use Rattle.jv_model.specs.declared.act.ActKind.TheVariants.{Mounted, Meta, Opened, Commit, Truncated, Copied, Compacted, Settled, Expired, Purged, Quiet, Crashed, Answered}
use Rattle.jv_model.specs.declared.op.Op.{Op}
use Rattle.jv_model.specs.declared.op.Op.TheVariants as op
use Rattle.jv_model.specs.promise.FiniteMap.{KeyOrder, number_key, get}
use Rattle.jv_model.specs.promise.tree.Tree.{Tree, Node, node_at}
use Rattle.jv_model.specs.promise.client.ModelClient.{Doing}
use Rattle.jv_model.specs.promise.client.Profile.{profile}
use Rattle.jv_model.specs.promise.client.Submission.{submission, submitted, by_limits}
use Rattle.jv_model.specs.promise.journal.State.{State, FileChange, FileChangeKind, Written, Replaced, Ended, changed_at, gone_between, next_entry, set_client, is_cleaning, after_step, after_other, of_doing, changed, effect}
use Rattle.jv_model.specs.promise.journal.Past.{Setup, at_start, begun_to, reached}
use Rattle.jv_model.specs.promise.journal.Legal.{Allowed, AllAllowed}
use Rattle.jv_model.specs.journal.Looks.{entry_at}
use Rattle.jv_model_laws.specs.Laws.{replaces_slices, LetsGo, ReplacesSlices, EndsFile, IsCleaningRequest}
use Rattle.jv_model.proofs.FiniteMapLaws.{found_here}
use Rattle.jv_model_laws.proofs.JournalStateLaws.{entry_before, entry_last, holds_on, state-more, of_kind}
use Rattle.jv_model_laws.proofs.JournalStageLaws.{clean_op}
use Rattle.jv_model_laws.proofs.misses.OperationLaws.{DoesItsOwn, AllDoTheirOwn, own_after, own_submitted}
use Rattle.jv_model_laws.proofs.JournalLooksLaws.{state_after, states_same, state_last}

-- what an entry does to the list of changes

data ChangesTo (s : State) (kind : ActKind) (tree : Tree) (changes : List FileChange) : Type 0 where
  Kept : changes ≡ s.changes → ChangesTo s kind tree changes
  Writes : (inode : ℕ) → changes ≡ changed_at (next_entry s) Written inode ∷ s.changes → ChangesTo s kind tree changes
  Replaces : (inode : ℕ) → IsTrue (replaces_slices inode kind) → changes ≡ changed_at (next_entry s) Replaced inode ∷ s.changes → ChangesTo s kind tree changes
  Ends : changes ≡ map (changed_at (next_entry s) Ended) (gone_between s.tree tree) ++ s.changes → ChangesTo s kind tree changes

abbrev ChangesAfter : State → ActKind → State → Type 0
ChangesAfter s kind t = ChangesTo s kind t.tree t.changes

itself : (n : ℕ) → IsTrue (n == n)
itself n = grind (arith, nat_tests)

changes_step : (s : State) (act : Act) (d : Doing) (kind : ActKind) → ChangesAfter s kind (after_step s act d kind)
changes_step s act d (Mounted sid) = Ends refl
changes_step s act d Meta = Ends refl
changes_step s act d (Opened handle inode) = Ends refl
changes_step s act d (Commit inode from len staged) = Writes inode refl
changes_step s act d (Truncated inode len) = Replaces inode (itself inode) refl
changes_step s act d (Copied source from target to len) = Writes target refl
changes_step s act d (Compacted inode window from to) = Replaces inode (itself inode) refl
changes_step s act d (Expired sid) = Ends refl
changes_step s act d (Purged inode) = Ends refl
changes_step s act d kind = Kept refl

changes_other : (s : State) (kind : ActKind) → ChangesAfter s kind (after_other s kind)
changes_other s (Settled commit) = Kept refl
changes_other s kind = Kept refl

changes_doing : (s : State) (act : Act) (o : Option Doing) → ChangesAfter s act.kind (of_doing s act o)
changes_doing s act None = changes_other s act.kind
changes_doing s act (Some d) = changes_step s act d act.kind

changes_changed : (s : State) (act : Act) (kind : ActKind) → ChangesAfter s kind (changed s (of_kind act kind) kind)
changes_changed s act Crashed = Kept refl
changes_changed s act (Answered told) = Kept refl
changes_changed s act kind = changes_doing s (of_kind act kind) (s.clients act.client).doing

-- which entries are requests of a cleaning

data SweptTo (s : State) (client : ℕ) (kind : ActKind) (swept : ℕ) : Type 0 where
  Unswept : swept ≡ s.swept → SweptTo s client kind swept
  Swept : (d : Doing) → (s.clients client).doing ≡ Some d → kind ≡ Quiet → IsTrue (is_cleaning d.does) → swept ≡ next_entry s → SweptTo s client kind swept

abbrev SweptAfter : State → Act → ActKind → State → Type 0
SweptAfter s act kind t = SweptTo s act.client kind t.swept

quiet_if : (s : State) (act : Act) (t : State) (d : Doing) → (s.clients act.client).doing ≡ Some d → (cleaning : Bool) → is_cleaning d.does ≡ cleaning
    → t.swept ≡ (if cleaning then next_entry s else s.swept) → SweptAfter s act Quiet t
quiet_if s act t d busy true e h = Swept d busy refl e h
quiet_if s act t d busy false e h = Unswept h

swept_step : (s : State) (act : Act) (d : Doing) → (s.clients act.client).doing ≡ Some d → (kind : ActKind) → SweptAfter s act kind (after_step s act d kind)
swept_step s act d busy Quiet = quiet_if s act (after_step s act d Quiet) d busy (is_cleaning d.does) refl refl
swept_step s act d busy kind = Unswept refl

swept_other : (s : State) (act : Act) (kind : ActKind) → SweptAfter s act kind (after_other s kind)
swept_other s act (Settled commit) = Unswept refl
swept_other s act kind = Unswept refl

swept_doing : (s : State) (act : Act) (kind : ActKind) (o : Option Doing) → (s.clients act.client).doing ≡ o → SweptAfter s act kind (of_doing s (of_kind act kind) o)
swept_doing s act kind None busy = swept_other s act kind
swept_doing s act kind (Some d) busy = swept_step s (of_kind act kind) d busy kind

swept_changed : (s : State) (act : Act) (kind : ActKind) → SweptAfter s act kind (changed s (of_kind act kind) kind)
swept_changed s act Crashed = Unswept refl
swept_changed s act (Answered told) = Unswept refl
swept_changed s act kind = swept_doing s act kind (s.clients act.client).doing refl

-- the nodes that a tree has

either_some : {X : Type 0} (b : Bool) (x : X) (o : Option X) → IsTrue (is_some o) → IsTrue (is_some (cond b (Some x) o))
either_some true x o h = refl
either_some false x o h = h

all_among : {K X : Type 0} (order : KeyOrder K) (all es : List (K × X)) → ((k : K) → IsTrue (is_some (find order.cmp k es)) → IsTrue (is_some (find order.cmp k all)))
    → AllByRecursion (λ (e : K × X). IsTrue (is_some (find order.cmp e.0 all))) es
all_among order all [] within = tt
all_among order all (e ∷ es) within =
    (within e.0 (ap is_some (found_here order e es)), all_among order all es (λ k h. within k (either_some (is_eq (order.cmp k e.0)) e.1 (find order.cmp k es) h)))

abbrev HasNode : Tree → ℕ → Type 0
HasNode t inode = IsTrue (is_some (node_at t inode))

nodes_there : (t : Tree) → AllByRecursion (λ (e : ℕ × Node). HasNode t e.0) t.nodes.list
unfolding get
nodes_there t = all_among number_key t.nodes.list t.nodes.list (λ k h. h)

module _ (before after : Tree) (P : FileChange → Type 0) (entry : ℕ) (more : List FileChange) (rest : AllByRecursion P more)
    (ends : (inode : ℕ) → HasNode before inode → node_at after inode ≡ None → P (changed_at entry Ended inode)) where
  abbrev ended : List (ℕ × Node) → List FileChange
  ended nodes = map (changed_at entry Ended) (map (λ (node : ℕ × Node). node.0) nodes) ++ more

  ended_first : (node : ℕ × Node) (nodes : List (ℕ × Node)) (o : Option Node) → node_at after node.0 ≡ o → HasNode before node.0 → AllByRecursion P (ended nodes)
      → AllByRecursion P (ended (if not (is_some o) then node ∷ nodes else nodes))
  ended_first node nodes None e there h = (ends node.0 there e, h)
  ended_first node nodes (Some n) e there h = h

  ended_all : (nodes : List (ℕ × Node)) → AllByRecursion (λ (e : ℕ × Node). HasNode before e.0) nodes
      → AllByRecursion P (ended (filter (λ (node : ℕ × Node). not (is_some (node_at after node.0))) nodes))
  ended_all [] there = rest
  ended_all (node ∷ nodes) there =
      ended_first node (filter (λ (x : ℕ × Node). not (is_some (node_at after x.0))) nodes) (node_at after node.0) refl there.0 (ended_all nodes there.1)

-- what the changes are

pub record IsLetGo (run : Setup) (pre : List Act) (entry inode : ℕ) : Type 0 where
  pub before : ℕ
  pub at : entry ≡ suc before
  pub within : entry ≤ length pre
  pub lets_go : LetsGo run pre before inode

abbrev pub IsChange : Setup → List Act → ℕ → ℕ → FileChangeKind → Type 0
IsChange run pre entry inode Written = Unit {0}
IsChange run pre entry inode Replaced = IsLetGo run pre entry inode
IsChange run pre entry inode Ended = IsLetGo run pre entry inode

abbrev pub AreChanges : Setup → List Act → List FileChange → Type 0
AreChanges run pre changes = AllByRecursion (λ (change : FileChange). IsChange run pre change.entry change.inode change.kind) changes

pub record IsSweptBy (run : Setup) (pre : List Act) (entry before : ℕ) : Type 0 where
  pub at : entry ≡ suc before
  pub within : entry ≤ length pre
  pub request : IsCleaningRequest run pre before

pub data IsSwept (run : Setup) (pre : List Act) (entry : ℕ) : Type 0 where
  Never : entry ≡ 0 → IsSwept run pre entry
  By : (before : ℕ) → IsSweptBy run pre entry before → IsSwept run pre entry

pub record Recorded (run : Setup) (pre : List Act) (s : State) : Type 0 where
  pub count : s.count ≡ length pre
  pub tree : s.tree ≡ (reached run pre).state.tree
  pub changes : AreChanges run pre s.changes
  pub swept : IsSwept run pre s.swept
  pub does : AllDoTheirOwn run.limits s.clients

-- one more entry

module _ (run : Setup) (pre : List Act) (e : Act) where
  abbrev longer : List Act
  longer = pre ++ e ∷ []

  go_later : (before inode : ℕ) → suc before ≤ length pre → LetsGo run pre before inode → LetsGo run longer before inode
  go_later before inode low (ReplacesSlices h) = ReplacesSlices (subst (λ o. IsSomeAnd o (λ act. IsTrue (replaces_slices inode act.kind))) (sym (entry_before pre e (suc before) low)) h)
  go_later before inode low (EndsFile there gone) =
      EndsFile (subst (λ (s : State). HasNode s.tree inode) (sym (states_same run pre e before (omega (arith, low)))) there)
      (subst (λ (s : State). node_at s.tree inode ≡ None) (sym (states_same run pre e (suc before) low)) gone)

  let_go_later : (entry inode : ℕ) → IsLetGo run pre entry inode → IsLetGo run longer entry inode
  let_go_later entry inode h =
      let at = h.at in let within = h.within in let l = length-append pre (e ∷ []) in
      record { before = h.before; at = at; within = omega (arith, within, l); lets_go = go_later h.before inode (omega (arith, at, within)) h.lets_go }

  change_later : (entry inode : ℕ) (kind : FileChangeKind) → IsChange run pre entry inode kind → IsChange run longer entry inode kind
  change_later entry inode Written h = tt
  change_later entry inode Replaced h = let_go_later entry inode h
  change_later entry inode Ended h = let_go_later entry inode h

  changes_later : (changes : List FileChange) → AreChanges run pre changes → AreChanges run longer changes
  changes_later [] h = tt
  changes_later (change ∷ changes) h = (change_later change.entry change.inode change.kind h.0, changes_later changes h.1)

  request_later : (before : ℕ) → suc before ≤ length pre → IsCleaningRequest run pre before → IsCleaningRequest run longer before
  request_later before low h = record {
    act = h.act;
    there = entry_before pre e (suc before) low ∙ h.there;
    quiet = h.quiet;
    doing = h.doing;
    in_progress = subst (λ acts. ((begun_to h.act.line (reached run acts)).state.clients h.act.client).doing ≡ Some h.doing) (sym (take-append-le before pre (e ∷ []) (omega (arith, low)))) h.in_progress;
    cleans = h.cleans;
  }

  swept_later : (entry : ℕ) → IsSwept run pre entry → IsSwept run longer entry
  swept_later entry (Never none) = Never none
  swept_later entry (By before h) =
      let at = h.at in let within = h.within in let l = length-append pre (e ∷ []) in
      By before (record { at = at; within = omega (arith, within, l); request = request_later before (omega (arith, at, within)) h.request })

  -- the entry itself

  module _ (s : State) (here : (begun_to e.line (reached run pre)).state ≡ s) (recorded : Recorded run pre s) where
    at_last : next_entry s ≡ suc (length pre)
    at_last = let count = recorded.count in omega (arith, count)

    within_last : next_entry s ≤ length longer
    within_last = let count = recorded.count in let l = length-append pre (e ∷ []) in omega (arith, count, l)

    entry_now : entry_at longer (suc (length pre)) ≡ Some e
    entry_now = let last : suc (length pre) ≡ length pre + 1 = omega arith in ap (entry_at longer) last ∙ entry_last pre e

    whole : take (length pre) longer ≡ pre
    whole = take-append-le (length pre) pre (e ∷ []) (omega arith) ∙ take_all (length pre) pre (omega arith)

    tree_before : (state_after run longer (length pre)).tree ≡ s.tree
    tree_before = ap (λ acts. (reached run acts).state.tree) whole ∙ sym recorded.tree

    tree_now : (reached run longer).state.tree ≡ (effect s e).tree
    tree_now = ap (λ (t : State). t.tree) (state-more run pre e ∙ ap (λ t. effect t e) here)

    tree_then : (state_after run longer (suc (length pre))).tree ≡ (effect s e).tree
    tree_then =
        let last : suc (length pre) ≡ length pre + 1 = omega arith in
        ap (λ n. (state_after run longer n).tree) last ∙ ap (λ (t : State). t.tree) (state_last run pre e) ∙ tree_now

    replaces_now : (inode : ℕ) → IsTrue (replaces_slices inode e.kind) → IsLetGo run longer (next_entry s) inode
    replaces_now inode h = record {
      before = length pre;
      at = at_last;
      within = within_last;
      lets_go = ReplacesSlices (subst (λ o. IsSomeAnd o (λ act. IsTrue (replaces_slices inode act.kind))) (sym entry_now) h);
    }

    ends_now : (inode : ℕ) → HasNode s.tree inode → node_at (effect s e).tree inode ≡ None → IsLetGo run longer (next_entry s) inode
    ends_now inode there gone = record {
      before = length pre;
      at = at_last;
      within = within_last;
      lets_go = EndsFile (subst (λ t. HasNode t inode) (sym tree_before) there) (subst (λ t. node_at t inode ≡ None) (sym tree_then) gone);
    }

    changes_now : ChangesAfter s e.kind (effect s e) → AreChanges run longer (effect s e).changes
    changes_now (Kept same) = subst (AreChanges run longer) (sym same) (changes_later s.changes recorded.changes)
    changes_now (Writes inode same) = subst (AreChanges run longer) (sym same) (tt, changes_later s.changes recorded.changes)
    changes_now (Replaces inode h same) = subst (AreChanges run longer) (sym same) (replaces_now inode h, changes_later s.changes recorded.changes)
    changes_now (Ends same) = subst (AreChanges run longer) (sym same)
        (ended_all s.tree (effect s e).tree (λ (change : FileChange). IsChange run longer change.entry change.inode change.kind) (next_entry s) s.changes (changes_later s.changes recorded.changes)
        ends_now s.tree.nodes.list (nodes_there s.tree))

    cleaning_op : (d : Doing) → (s.clients e.client).doing ≡ Some d → IsTrue (is_cleaning d.does) → d.op ≡ op.Clean
    cleaning_op d busy cleaning =
        let own : d.does ≡ by_limits run.limits (profile d.op).does = subst (DoesItsOwn run.limits) busy (recorded.does e.client) in
        clean_op run.limits d.op (subst (λ does. IsTrue (is_cleaning does)) own cleaning)

    swept_now : SweptAfter s e e.kind (effect s e) → IsSwept run longer (effect s e).swept
    swept_now (Unswept same) = subst (IsSwept run longer) (sym same) (swept_later s.swept recorded.swept)
    swept_now (Swept d busy quiet does same) = subst (IsSwept run longer) (sym same) (By (length pre) (record {
      at = at_last;
      within = within_last;
      request = record {
        act = e;
        there = entry_now;
        quiet = quiet;
        doing = d;
        in_progress = subst (λ acts. ((begun_to e.line (reached run acts)).state.clients e.client).doing ≡ Some d) (sym whole) (subst (λ (t : State). (t.clients e.client).doing ≡ Some d) (sym here) busy);
        cleans = cleaning_op d busy does;
      };
    }))

recorded_enters : (run : Setup) (pre : List Act) (act : Act) → Allowed (begun_to act.line (reached run pre)) act → Recorded run pre (begun_to act.line (reached run pre)).state
    → Recorded run (pre ++ act ∷ []) (effect (begun_to act.line (reached run pre)).state act)
recorded_enters run pre act may h =
    let s = (begun_to act.line (reached run pre)).state in
    record {
      count = ap (λ n. n + 1) h.count ∙ sym (length-append pre (act ∷ []));
      tree = sym (tree_now run pre act s refl h);
      changes = changes_now run pre act s refl h (changes_changed s act act.kind);
      swept = swept_now run pre act s refl h (swept_changed s act act.kind);
      does = own_after run.limits s act h.does;
    }

recorded_submits : (run : Setup) (pre : List Act) (s : State) (client : ℕ) (o : Op) → submission (s.clients client) o ≡ None → Recorded run pre s
    → Recorded run pre (set_client s client (submitted run.limits o (s.clients client)))
recorded_submits run pre s client o none h = record { count = h.count; tree = h.tree; changes = h.changes; swept = h.swept; does = own_submitted run.limits s client o h.does }

pub all_recorded : (run : Setup) (journal : List Act) → AllAllowed (at_start run) journal → (line : ℕ) → Recorded run journal (begun_to line (reached run journal)).state
all_recorded run journal may line =
    holds_on run (Recorded run) (recorded_submits run) (recorded_enters run) (record { count = refl; tree = refl; changes = tt; swept = Never refl; does = λ client. tt }) journal may line
