-- Sessions that come, and that go with the files that they keep, keep a tree whole.
use Rattle.std.proofs.Common.{◌≡◌, ◌≢◌, ℕ, ◌+◌, ◌≤◌, ◌<◌, Bool, true, false, cond, not, ◌==◌, if◌then◌else◌, ◌⊎◌, inl, inr, Option, None, Some, is_some, refl, sym, ap, subst, ◌∙◌, arith}
use Rattle.std.specs.Prelude.{IsTrue, nat_lt}
use Rattle.std.proofs.lemmas.Bool.{cond-true, cond-false, false≢true, eq-eqb, ne_eqb, eqb-true, eqb-false, cases_eq, false_from_ne_true, not_from_true, not_from_false}
use Rattle.jv_model.specs.declared.limits.TheConstants.{FULL_COUNT, ROOT, TRASH_ROOT}
use Rattle.jv_model.specs.promise.FiniteMap.{Map, number_key, get, remove, retain_keys}
use Rattle.jv_model.specs.promise.tree.Tree.{Tree, Node, EntryKey, SustainedFile, SessionEntry, pair_key, node_at, is_sustained}
use Rattle.jv_model.specs.promise.tree.Changes.{drop_node}
use Rattle.jv_model.specs.promise.tree.Caller.{Caller}
use Rattle.jv_model.specs.promise.tree.Sessions.{with_session, kept_alive, without_session, released}
use Rattle.jv_model.proofs.FiniteMapLaws.{get-retain_keys}
use Rattle.jv_volume.specs.promise.Shape.{Absent, Dir, Shape, form_of, is_there, is_dir, shape_of, named, keeps, names, is_top, is_hour, Reaches, Names, Entered, Keeps, IsKept, WholeShape}
use Rattle.jv_volume.proofs.shapes.ShapeMapLaws.{get-inserted, get-insert_apart, get-removed, get-remove_apart, uncounted, form-drop_node, parent_of_dir, reaches_lift, names_kept, pair_of}
use Rattle.jv_volume.proofs.shapes.SameShapeLaws.{whole_as, shape-kept_alive}

-- a session that comes

module _ (s : Shape) (present : ℕ → Bool) (w : WholeShape s) (first : 1 ≤ s.next_session) (room : s.next_session < FULL_COUNT)
    (stays : (sid : ℕ) → IsTrue (s.in_session sid) → IsTrue (present sid))
    (comes : (sid : ℕ) → IsTrue (present sid) → (sid ≡ s.next_session) ⊎ IsTrue (s.in_session sid)) where
  sessions_after : (sid : ℕ) → IsTrue (present sid) → (1 ≤ sid) × (sid < s.next_session + 1)
  sessions_after sid is = elim (comes sid is) [
    | inl e ↦ (omega (arith, e, first), omega (arith, e))
    | inr was ↦ let old = w.sessions sid was in (old.0, let less = old.1 in omega (arith, less))
  ]

  entry_kept : (at : EntryKey) (inode : ℕ) → named s at ≡ Some inode → Names (record s { in_session = present; next_session = s.next_session + 1 }) at inode
  entry_kept at inode is =
      let n = w.entry at inode is in
      names_kept s (record s { in_session = present; next_session = s.next_session + 1 }) at inode refl n.within (λ hour one. one) n

  -- with the next session
  pub whole-next_session : WholeShape (record s { in_session = present; next_session = s.next_session + 1 })
  whole-next_session = record {
    root_there = w.root_there;
    trash_there = w.trash_there;
    entry = entry_kept;
    entered = λ dir parent is top. let old = w.entered dir parent is top in record { name = old.name; is = old.is; only = old.only };
    rooted = w.rooted;
    held = λ inode there leaf none. let kept = w.held inode there leaf none in record { sid = kept.sid; is = kept.is };
    sustains = λ sid inode is.
        let old = w.sustains sid inode is in
        record { session = stays sid old.session; file = old.file; unnamed = old.unnamed; one = old.one };
    hours = w.hours;
    below = w.below;
    sessions = sessions_after;
    inodes_end = w.inodes_end;
    sessions_end = omega (arith, room);
  }

-- The model's `mount`. The next session is 1 or more: the shape doesn't say so where no session is there.
pub whole-with_session : (t : Tree) (who : Caller) → WholeShape (shape_of t) → 1 ≤ t.next_session → t.next_session < FULL_COUNT
    → WholeShape (shape_of (with_session t who))
whole-with_session t who w first room =
    let added = (with_session t who).sessions in
    whole-next_session (shape_of t) (λ sid. is_some (get added sid)) w first room
    (λ sid is. elim (cases_eq sid t.next_session) [
      | inl e ↦ ap is_some (ap (get added) e ∙ get-inserted number_key t.sessions t.next_session _)
      | inr apart ↦ ap is_some (get-insert_apart number_key t.sessions t.next_session _ sid apart) ∙ is
    ])
    (λ sid is. elim (cases_eq sid t.next_session) [
      | inl e ↦ inl e
      | inr apart ↦ inr (sym (ap is_some (get-insert_apart number_key t.sessions t.next_session _ sid apart)) ∙ is)
    ])

-- the model's `beat`
pub whole-kept_alive : (t : Tree) (who : Caller) (session : SessionEntry) → get t.sessions who.sid ≡ Some session → WholeShape (shape_of t)
    → WholeShape (shape_of (kept_alive t who session))
whole-kept_alive t who session there = whole_as _ _ (shape-kept_alive t who session there)

-- files that a session kept go

-- without some inodes, and with other sessions and pairs
abbrev pub without_files : Shape → (ℕ → Bool) → (ℕ → Bool) → Map pair_key (Unit {0}) → Shape
without_files s gone present pairs = record s { form = λ inode. if gone inode then Absent else s.form inode; in_session = present; sustained = pairs }

-- those that go are kept by this session, and of all others the pairs stay
pub record MayGo (s after : Shape) (sid : ℕ) (gone : ℕ → Bool) : Type 0 where
  pub kept : (inode : ℕ) → gone inode ≡ true → IsTrue (keeps s sid inode)
  pub left : (other inode : ℕ) → IsTrue (keeps after other inode) → IsTrue (keeps s other inode) × (gone inode ≡ false) × IsTrue (after.in_session other)
  pub stays : (other inode : ℕ) → IsTrue (keeps s other inode) → gone inode ≡ false → IsTrue (keeps after other inode)
  pub fewer : (other : ℕ) → IsTrue (after.in_session other) → IsTrue (s.in_session other)

module _ (s : Shape) (sid : ℕ) (gone present : ℕ → Bool) (pairs : Map pair_key (Unit {0})) (w : WholeShape s)
    (h : MayGo s (without_files s gone present pairs) sid gone) where
  abbrev after : Shape
  after = without_files s gone present pairs

  form_after : (inode : ℕ) → gone inode ≡ false → after.form inode ≡ s.form inode
  form_after inode e = cond-false _ _ _ e

  there_stays : (inode : ℕ) → IsTrue (is_there (after.form inode)) → gone inode ≡ false
  there_stays inode there = false_from_ne_true _ (λ e. false≢true (sym (ap is_there (cond-true _ _ _ e)) ∙ there))

  dir_stays : (inode parent : ℕ) → s.form inode ≡ Dir parent → gone inode ≡ false
  dir_stays inode parent is = false_from_ne_true _ (λ e. let file = (w.sustains sid inode (h.kept inode e)).file in absurd (cc))

  named_stays : (at : EntryKey) (inode : ℕ) → named s at ≡ Some inode → gone inode ≡ false
  named_stays at inode is = false_from_ne_true _ (λ e. uncounted s.entries at inode ((w.sustains sid inode (h.kept inode e)).unnamed) is)

  dir_after : (dir parent : ℕ) → s.form dir ≡ Dir parent → after.form dir ≡ Dir parent
  dir_after dir parent is = form_after dir (dir_stays dir parent is) ∙ is

  dir_before : (dir parent : ℕ) → after.form dir ≡ Dir parent → s.form dir ≡ Dir parent
  dir_before dir parent is = sym (form_after dir (there_stays dir (ap is_there is))) ∙ is

  entry_after : (at : EntryKey) (inode : ℕ) → named s at ≡ Some inode → Names after at inode
  entry_after at inode is =
      let n = w.entry at inode is in
      let dir = parent_of_dir (s.form at.dir) n.within in
      names_kept s after at inode (form_after inode (named_stays at inode is)) (ap is_dir (dir_after at.dir dir.0 dir.1)) (λ hour one. one) n

  entered_after : (dir parent : ℕ) → after.form dir ≡ Dir parent → is_top dir ≡ false → Entered after dir parent
  entered_after dir parent is top = let old = w.entered dir parent (dir_before dir parent is) top in record { name = old.name; is = old.is; only = old.only }

  rooted_after : (dir parent : ℕ) → after.form dir ≡ Dir parent → (steps : ℕ) × Reaches after.form steps dir
  rooted_after dir parent is = let old = w.rooted dir parent (dir_before dir parent is) in (old.0, reaches_lift s.form after.form dir_after old.0 dir old.1)

  held_after : (inode : ℕ) → IsTrue (is_there (after.form inode)) → is_dir (after.form inode) ≡ false → names s inode ≡ 0 → IsKept after inode
  held_after inode there leaf none =
      let here = there_stays inode there in
      let same = form_after inode here in
      let old = w.held inode (ap is_there (sym same) ∙ there) (ap is_dir (sym same) ∙ leaf) none in
      record { sid = old.sid; is = h.stays old.sid inode old.is here }

  sustains_after : (other inode : ℕ) → IsTrue (keeps after other inode) → Keeps after other inode
  sustains_after other inode is =
      let left = h.left other inode is in
      let old = w.sustains other inode left.0 in
      record {
        session = left.2;
        file = form_after inode left.1 ∙ old.file;
        unnamed = old.unnamed;
        one = λ another also. old.one another (h.left another inode also).0;
      }

  hours_after : (inode : ℕ) → IsTrue (is_there (after.form inode)) → IsTrue (nat_lt TRASH_ROOT inode)
      → IsTrue (is_hour inode) × (after.form inode ≡ Dir TRASH_ROOT)
  hours_after inode there above =
      let same = form_after inode (there_stays inode there) in
      let both = w.hours inode (ap is_there (sym same) ∙ there) above in
      (both.0, same ∙ both.1)

  below_after : (inode : ℕ) → IsTrue (is_there (after.form inode)) → IsTrue (nat_lt inode TRASH_ROOT) → inode < s.next_inode
  below_after inode there low = w.below inode (ap is_there (sym (form_after inode (there_stays inode there))) ∙ there) low

  -- without files that a session kept
  pub whole-without_files : WholeShape (without_files s gone present pairs)
  whole-without_files = record {
    root_there = dir_after ROOT ROOT w.root_there;
    trash_there = dir_after TRASH_ROOT ROOT w.trash_there;
    entry = entry_after;
    entered = entered_after;
    rooted = rooted_after;
    held = held_after;
    sustains = sustains_after;
    hours = hours_after;
    below = below_after;
    sessions = λ other is. w.sessions other (h.fewer other is);
    inodes_end = w.inodes_end;
    sessions_end = w.sessions_end;
  }

-- a session that goes

-- a choice by a test that is something
pub if_some : {A : Type 0} (b : Bool) (o : Option A) → IsTrue (is_some (cond b o None)) → (b ≡ true) × IsTrue (is_some o)
if_some true o h = (refl, h)
if_some false o h = absurd (false≢true h)

form_retained : (b : Bool) (o : Option Node) → form_of (cond (not b) o None) ≡ (if b then Absent else form_of o)
form_retained true o = refl
form_retained false o = refl

module _ (t : Tree) (sid : ℕ) where
  gone_files : (inode : ℕ) → form_of (node_at (without_session t sid) inode) ≡ (if keeps (shape_of t) sid inode then Absent else (shape_of t).form inode)
  gone_files inode = ap form_of (get-retain_keys t.nodes (λ i. not (is_sustained t sid i)) inode) ∙ form_retained (is_sustained t sid inode) (node_at t inode)

  shape-without_session : shape_of (without_session t sid)
      ≡ without_files (shape_of t) (keeps (shape_of t) sid) (λ other. is_some (get (remove t.sessions sid) other))
      (retain_keys (λ pair. not (pair.sid == sid)) t.sustained)
  shape-without_session = λ i. record (shape_of (without_session t sid)) { form = λ inode. gone_files inode i }

  kept_pair : (other inode : ℕ) → IsTrue (is_some (get (retain_keys (λ pair. not (pair.sid == sid)) t.sustained) (pair_of other inode)))
      → (other ≢ sid) × IsTrue (keeps (shape_of t) other inode)
  kept_pair other inode is =
      let both = if_some _ _ (ap is_some (sym (get-retain_keys t.sustained (λ pair. not (pair.sid == sid)) (pair_of other inode))) ∙ is) in
      ((λ e. false≢true (sym (not_from_true _ (eq-eqb other sid e)) ∙ both.0)), both.1)

  session_stays : (other : ℕ) → other ≢ sid → is_some (get (remove t.sessions sid) other) ≡ (shape_of t).in_session other
  session_stays other apart = ap is_some (get-remove_apart number_key t.sessions sid other apart)

  session_before : (other : ℕ) → IsTrue (is_some (get (remove t.sessions sid) other)) → IsTrue ((shape_of t).in_session other)
  session_before other is = elim (cases_eq other sid) [
    | inl e ↦ absurd (false≢true (sym (ap is_some (ap (get (remove t.sessions sid)) e ∙ get-removed number_key t.sessions sid)) ∙ is))
    | inr apart ↦ sym (session_stays other apart) ∙ is
  ]

  -- the model's `umount`, and what a cleaning does to a session that expired
  pub whole-without_session : WholeShape (shape_of t) → WholeShape (shape_of (without_session t sid))
  whole-without_session w = subst WholeShape (sym shape-without_session) (whole-without_files (shape_of t) sid (keeps (shape_of t) sid) _ _ w (record {
    kept = λ inode e. e;
    left = λ other inode is.
        let both = kept_pair other inode is in
        let old = w.sustains other inode both.1 in
        (both.1, false_from_ne_true _ (λ e. both.0 (sym (old.one sid e))), session_stays other both.0 ∙ old.session);
    stays = λ other inode is stays. ap is_some (get-retain_keys t.sustained (λ pair. not (pair.sid == sid)) (pair_of other inode)
        ∙ cond-true _ _ _ (not_from_false _ (ne_eqb other sid (λ e. false≢true (sym stays ∙ ap (λ k. keeps (shape_of t) k inode) (sym e) ∙ is))))) ∙ is;
    fewer = session_before;
  }))

-- a file that goes

module _ (t : Tree) (sid inode : ℕ) where
  abbrev without_pair : Map pair_key (Unit {0})
  without_pair = remove t.sustained (pair_of sid inode)

  shape-without_file : shape_of (record (drop_node t inode) { sustained = without_pair })
      ≡ without_files (shape_of t) (λ other. other == inode) (shape_of t).in_session without_pair
  shape-without_file = λ i. record (shape_of t) { form = λ other. form-drop_node t inode other i; sustained = without_pair }

  pair_before : (other file : ℕ) → IsTrue (is_some (get without_pair (pair_of other file)))
      → (pair_of other file ≢ pair_of sid inode) × IsTrue (keeps (shape_of t) other file)
  pair_before other file is =
      let apart : pair_of other file ≢ pair_of sid inode =
      λ e. false≢true (sym (ap is_some (ap (get without_pair) e ∙ get-removed pair_key t.sustained (pair_of sid inode))) ∙ is) in
      (apart, ap is_some (sym (get-remove_apart pair_key t.sustained (pair_of sid inode) (pair_of other file) apart)) ∙ is)

  whole-without_file : WholeShape (shape_of t) → IsTrue (is_sustained t sid inode)
      → WholeShape (shape_of (record (drop_node t inode) { sustained = without_pair }))
  whole-without_file w is = subst WholeShape (sym shape-without_file) (whole-without_files (shape_of t) sid (λ other. other == inode) _ _ w (record {
    kept = λ file e. ap (keeps (shape_of t) sid) (eqb-true file inode e) ∙ is;
    left = λ other file also.
        let both = pair_before other file also in
        let old = w.sustains other file both.1 in
        let apart : file ≢ inode = λ e. both.0 (ap (pair_of other) e ∙ ap (λ k. pair_of k inode) (sym (old.one sid (ap (keeps (shape_of t) sid) e ∙ is)))) in
        (both.1, ne_eqb file inode apart, old.session);
    stays = λ other file also stays. ap is_some (get-remove_apart pair_key t.sustained (pair_of sid inode) (pair_of other file)
        (λ e. eqb-false file inode stays (ap (λ (p : SustainedFile). p.inode) e))) ∙ also;
    fewer = λ other also. also;
  }))

-- the model's `release`
pub whole-released : (t : Tree) (sid inode : ℕ) → WholeShape (shape_of t) → WholeShape (shape_of (released t sid inode))
whole-released t sid inode w = elim (is_sustained t sid inode) as (λ b. is_sustained t sid inode ≡ b → WholeShape (shape_of (elim b as (λ _. Tree) [
  | true ↦ record (drop_node t inode) { sustained = without_pair t sid inode }
  | false ↦ t
]))) [
  | true ↦ λ e. whole-without_file t sid inode w e
  | false ↦ λ e. w
] refl
