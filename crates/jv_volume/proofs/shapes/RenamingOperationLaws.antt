-- The operations that remove or rename an entry leave a whole tree whole, whatever they answer.
use Rattle.std.proofs.Common.{◌≡◌, ◌≢◌, ℕ, ◌≤◌, Bool, true, false, not, ◌&&◌, ◌||◌, ◌==◌, List, Option, None, Some, is_some, Result, Ok, refl}
use Rattle.std.specs.Prelude.{IsTrue}
use Rattle.std.proofs.lemmas.Bool.{and_parts, not-true, eqb-false}
use Rattle.jv_model.specs.declared.limits.TheConstants.{LAST_MOMENT}
use Rattle.jv_model.specs.declared.basics.How.{How}
use Rattle.jv_model.specs.declared.basics.How.TheVariants.{Plain, NoReplace, Exchange}
use Rattle.jv_model.specs.declared.fault.Fault.{Fault}
use Rattle.jv_model.specs.declared.fault.Fault.TheVariants.{NotFound, AlreadyExists, NotADirectory, IsADirectory, DirectoryNotEmpty, Invalid, NoSpace, NotPermitted, Stale}
use Rattle.jv_model.specs.declared.fault.Gone.TheVariants.{Session}
use Rattle.jv_model.specs.declared.op.Reply.TheVariants.{Done}
use Rattle.jv_model.specs.promise.FiniteMap.{get}
use Rattle.jv_model.specs.promise.tree.Attempt.{◌>>=◌, require, some_or}
use Rattle.jv_model.specs.promise.tree.Tree.{Tree, EntryKey, is_directory, has_entries, links_fit}
use Rattle.jv_model.specs.promise.tree.Caller.{Caller, Outcome, outcome, done, in_session}
use Rattle.jv_model.specs.promise.tree.Walk.{entry_of}
use Rattle.jv_model.specs.promise.tree.Making.{may_be_new}
use Rattle.jv_model.specs.promise.tree.Removing.{may_go, remove_entry, remove_directory, unlink, rmdir}
use Rattle.jv_model.specs.promise.tree.Renaming.{may_leave, is_inside, moved, exchanged, without_target, within_links, renamed, replacing, exchanging, unless_same, renamed_over, renamed_by, rename}
use Rattle.jv_model.proofs.TestLaws.{none_if}
use Rattle.jv_volume.specs.promise.Shape.{WholeShape, shape_of}
use Rattle.jv_volume.proofs.shapes.WalkShapeLaws.{went_on, required, was_some, entry_within}
use Rattle.jv_volume.proofs.shapes.OperationShapeLaws.{whole_outcome, whole_answer}
use Rattle.jv_volume.proofs.shapes.RemovalLaws.{HoldsFiles, whole-remove_entry, whole-remove_directory}
use Rattle.jv_volume.proofs.shapes.MoveLaws.{whole-moved_free, whole-replaced, whole-exchanged}

-- a test that has to fail
refuted : (b : Bool) (fault : Fault) (u : Unit {0}) → require (not b) fault ≡ Ok u → b ≡ false
refuted b fault u h = not-true b (required (not b) fault u h)

module _ (t : Tree) (who : Caller) (w : WholeShape (shape_of t)) (held : HoldsFiles (shape_of t) who.held) (clock : who.now ≤ LAST_MOMENT) where
  -- a caller's session is there
  in_its_session : (u : Unit {0}) → in_session t who ≡ Ok u → IsTrue (is_some (get t.sessions who.sid))
  in_its_session u h = required _ (Stale (Session who.sid)) u h

  -- an unlink leaves a whole tree whole
  pub whole-unlink : (path : List ℕ) → WholeShape (shape_of (outcome t (unlink t who path)).tree)
  unfolding unlink
  whole-unlink path = whole_outcome t (unlink t who path) w (λ d h.
      let leaf = λ (place : EntryKey) (inode : ℕ). require (not (is_directory t inode)) NotPermitted >>= (λ _. done (remove_entry t who place inode)) in
      let there = λ (place : EntryKey). some_or (get t.entries place) NotFound >>= leaf place in
      let going = λ (place : EntryKey). require (may_go place) NotPermitted >>= (λ _. there place) in
      let inside = went_on (in_session t who) (λ _. entry_of t path >>= going) d h in
      let place = went_on (entry_of t path) going d inside.2 in
      let may = went_on (require (may_go place.0) NotPermitted) (λ _. there place.0) d place.2 in
      let inode = went_on (some_or (get t.entries place.0) NotFound) (leaf place.0) d may.2 in
      let plain = went_on (require (not (is_directory t inode.0)) NotPermitted) (λ _. done (remove_entry t who place.0 inode.0)) d inode.2 in
      whole_answer (record { tree = remove_entry t who place.0 inode.0; reply = Done }) d plain.2 (whole-remove_entry t who place.0 inode.0 w (record {
        is = was_some _ NotFound inode.0 inode.1;
        leaf = refuted (is_directory t inode.0) NotPermitted plain.0 plain.1;
        session = in_its_session inside.0 inside.1;
        held = held;
        clock = clock;
      })))

  -- so does the removal of a directory
  pub whole-rmdir : (path : List ℕ) → WholeShape (shape_of (outcome t (rmdir t who path)).tree)
  unfolding rmdir
  whole-rmdir path = whole_outcome t (rmdir t who path) w (λ d h.
      let gone = λ (place : EntryKey) (inode : ℕ). done (remove_directory t who.now place inode) in
      let vacant = λ (place : EntryKey) (inode : ℕ). require (not (has_entries t inode)) DirectoryNotEmpty >>= (λ _. gone place inode) in
      let dir = λ (place : EntryKey) (inode : ℕ). require (is_directory t inode) NotADirectory >>= (λ _. vacant place inode) in
      let there = λ (place : EntryKey). some_or (get t.entries place) NotFound >>= dir place in
      let going = λ (place : EntryKey). require (may_go place) NotPermitted >>= (λ _. there place) in
      let inside = went_on (in_session t who) (λ _. entry_of t path >>= going) d h in
      let place = went_on (entry_of t path) going d inside.2 in
      let may = went_on (require (may_go place.0) NotPermitted) (λ _. there place.0) d place.2 in
      let inode = went_on (some_or (get t.entries place.0) NotFound) (dir place.0) d may.2 in
      let is_dir = went_on (require (is_directory t inode.0) NotADirectory) (λ _. vacant place.0 inode.0) d inode.2 in
      let free = went_on (require (not (has_entries t inode.0)) DirectoryNotEmpty) (λ _. done (remove_directory t who.now place.0 inode.0)) d is_dir.2 in
      whole_answer (record { tree = remove_directory t who.now place.0 inode.0; reply = Done }) d free.2
      (whole-remove_directory t who.now place.0 inode.0 w (was_some _ NotFound inode.0 inode.1)
      (required (is_directory t inode.0) NotADirectory is_dir.0 is_dir.1) (refuted (has_entries t inode.0) DirectoryNotEmpty free.0 free.1)))

  -- renames

  whole_within_links : (from to : EntryKey) (after : Tree) (d : Outcome) → within_links from to after ≡ Ok d → WholeShape (shape_of after)
      → WholeShape (shape_of d.tree)
  whole_within_links from to after d h whole =
      let fit = went_on (require (links_fit after from.dir && links_fit after to.dir) NoSpace) (λ _. done after) d h in
      whole_answer (record { tree = after; reply = Done }) d fit.2 whole

  whole_renamed : (from : EntryKey) (source : ℕ) (to : EntryKey) (d : Outcome) → get t.entries from ≡ Some source → may_go from ≡ true → may_be_new to ≡ true
      → is_directory t to.dir ≡ true → get t.entries to ≡ None → renamed t who from source to ≡ Ok d → WholeShape (shape_of d.tree)
  whole_renamed from source to d is leaves enters within free h =
      let outside = went_on (require (not (is_inside t to.dir source)) Invalid) (λ _. within_links from to (moved t who.now from source to)) d h in
      whole_within_links from to (moved t who.now from source to) d outside.2 (whole-moved_free t who.now from source to w
      (record { is = is; leaves = leaves; enters = enters; within = within; outside = refuted _ Invalid outside.0 outside.1 }) free)

  whole_replacing : (from : EntryKey) (source : ℕ) (to : EntryKey) (other : ℕ) (d : Outcome) → IsTrue (is_some (get t.sessions who.sid))
      → get t.entries from ≡ Some source
      → may_go from ≡ true → may_be_new to ≡ true → is_directory t to.dir ≡ true → get t.entries to ≡ Some other → source ≢ other
      → replacing t who from source to other ≡ Ok d → WholeShape (shape_of d.tree)
  whole_replacing from source to other d session is leaves enters within there apart h =
      let last = within_links from to (moved (without_target t who to other) who.now from source to) in
      let vacant = require (not (is_directory t other && has_entries t other)) DirectoryNotEmpty >>= (λ _. last) in
      let file = require (not (not (is_directory t source) && is_directory t other)) IsADirectory >>= (λ _. vacant) in
      let dir = require (not (is_directory t source && not (is_directory t other))) NotADirectory >>= (λ _. file) in
      let outside = went_on (require (not (is_inside t to.dir source)) Invalid) (λ _. dir) d h in
      let first = went_on (require (not (is_directory t source && not (is_directory t other))) NotADirectory) (λ _. file) d outside.2 in
      let second = went_on (require (not (not (is_directory t source) && is_directory t other)) IsADirectory) (λ _. vacant) d first.2 in
      let third = went_on (require (not (is_directory t other && has_entries t other)) DirectoryNotEmpty) (λ _. last) d second.2 in
      whole_within_links from to (moved (without_target t who to other) who.now from source to) d third.2 (whole-replaced t who to other w
      (record { is = there; vacant = refuted _ DirectoryNotEmpty third.0 third.1; session = session; held = held; clock = clock }) from source
      (record { is = is; leaves = leaves; enters = enters; within = within; outside = refuted _ Invalid outside.0 outside.1 }) apart)

  whole_exchanging : (from : EntryKey) (source : ℕ) (to : EntryKey) (other : ℕ) (d : Outcome) → get t.entries from ≡ Some source → may_be_new from ≡ true
      → may_be_new to ≡ true
      → get t.entries to ≡ Some other → source ≢ other → exchanging t who from source to other ≡ Ok d → WholeShape (shape_of d.tree)
  whole_exchanging from source to other d is leaves enters there apart h =
      let outside = went_on (require (not (is_inside t to.dir source || is_inside t from.dir other)) Invalid)
      (λ _. within_links from to (exchanged t who.now from source to other)) d h in
      whole_within_links from to (exchanged t who.now from source to other) d outside.2
      (whole-exchanged t who.now from source to other w is there apart leaves enters (refuted _ Invalid outside.0 outside.1))

  whole_unless_at : (b : Bool) (source other : ℕ) (otherwise : Unit {0} → Result Outcome Fault) (d : Outcome) → (source == other) ≡ b
      → (source ≢ other → otherwise tt ≡ Ok d → WholeShape (shape_of d.tree))
      → (elim b as (λ _. Result Outcome Fault) [ true ↦ done t | false ↦ otherwise tt ]) ≡ Ok d
      → WholeShape (shape_of d.tree)
  whole_unless_at true source other otherwise d e rest h = whole_answer (record { tree = t; reply = Done }) d h w
  whole_unless_at false source other otherwise d e rest h = rest (eqb-false source other e) h

  whole_unless_same : (source other : ℕ) (otherwise : Unit {0} → Result Outcome Fault) (d : Outcome)
      → (source ≢ other → otherwise tt ≡ Ok d → WholeShape (shape_of d.tree))
      → unless_same t source other otherwise ≡ Ok d → WholeShape (shape_of d.tree)
  whole_unless_same source other otherwise d rest h = whole_unless_at (source == other) source other otherwise d refl rest h

  module _ (from : EntryKey) (source : ℕ) (to : EntryKey) (d : Outcome) (session : IsTrue (is_some (get t.sessions who.sid)))
      (is : get t.entries from ≡ Some source)
      (enters : may_be_new to ≡ true) (within : is_directory t to.dir ≡ true) where
    whole_renamed_over : (o : Option ℕ) → get t.entries to ≡ o → may_go from ≡ true → renamed_over t who from source to o ≡ Ok d
        → WholeShape (shape_of d.tree)
    whole_renamed_over None free leaves h = whole_renamed from source to d is leaves enters within free h
    whole_renamed_over (Some other) there leaves h = whole_unless_same source other (λ _. replacing t who from source to other) d
        (λ apart g. whole_replacing from source to other d session is leaves enters within there apart g) h

    whole_renamed_by : (how : How) → may_leave how from ≡ true → renamed_by how t who from source to ≡ Ok d → WholeShape (shape_of d.tree)
    whole_renamed_by Plain leaves h = whole_renamed_over (get t.entries to) refl leaves h
    whole_renamed_by NoReplace leaves h =
        let free = went_on (require (not (is_some (get t.entries to))) AlreadyExists) (λ _. renamed t who from source to) d h in
        whole_renamed from source to d is leaves enters within (none_if (get t.entries to) (refuted _ AlreadyExists free.0 free.1)) free.2
    whole_renamed_by Exchange leaves h =
        let other = went_on (some_or (get t.entries to) NotFound) (λ other. unless_same t source other (λ _. exchanging t who from source to other)) d h in
        let there : get t.entries to ≡ Some other.0 = was_some _ NotFound other.0 other.1 in
        whole_unless_same source other.0 (λ _. exchanging t who from source to other.0) d
        (λ apart g. whole_exchanging from source to other.0 d is (and_parts _ _ leaves).1 enters there apart g) other.2

  -- and so does a rename of each kind
  pub whole-rename : (path to : List ℕ) (how : How) → WholeShape (shape_of (outcome t (rename t who path to how)).tree)
  unfolding rename
  whole-rename path to how = whole_outcome t (rename t who path to how) w (λ d h.
      let last = λ (from target : EntryKey) (source : ℕ). renamed_by how t who from source target in
      let there = λ (from target : EntryKey). some_or (get t.entries from) NotFound >>= last from target in
      let may = λ (from target : EntryKey). require (may_leave how from && may_be_new target) NotPermitted >>= (λ _. there from target) in
      let next = λ (from : EntryKey). entry_of t to >>= may from in
      let inside = went_on (in_session t who) (λ _. entry_of t path >>= next) d h in
      let from = went_on (entry_of t path) next d inside.2 in
      let target = went_on (entry_of t to) (may from.0) d from.2 in
      let tests = went_on (require (may_leave how from.0 && may_be_new target.0) NotPermitted) (λ _. there from.0 target.0) d target.2 in
      let source = went_on (some_or (get t.entries from.0) NotFound) (last from.0 target.0) d tests.2 in
      let both = and_parts (may_leave how from.0) (may_be_new target.0)
      (required (may_leave how from.0 && may_be_new target.0) NotPermitted tests.0 tests.1) in
      whole_renamed_by from.0 source.0 target.0 d (in_its_session inside.0 inside.1) (was_some _ NotFound source.0 source.1) both.1
      (entry_within t to target.0 target.1) how both.0 source.2)
