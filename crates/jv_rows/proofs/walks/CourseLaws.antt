-- A walk from symlink to symlink: what is left of it after each part, and that it is the model's.
use Rattle.std.proofs.Common.{◌≡◌, ℕ, zero, suc, ◌+◌, ◌-◌, ◌<◌, Bool, true, false, List, [], ◌∷◌, ◌++◌, length, drop, get_or, drop-cons, add-one, Option, None, Some, Result, Ok, Err, refl, sym, ap, ◌∙◌, ◌≢◌, true≢false, eq-eqb, eqb-true, arith}
use Rattle.std.proofs.Math.Seq.{drop-length}
use Rattle.std.proofs.lemmas.List.{length-drop}
use Rattle.std.specs.Prelude.{if◌then◌else◌, ◌&&◌, ◌||◌, ◌==◌, not}
use Rattle.jv_model.specs.declared.limits.TheConstants.{ROOT}
use Rattle.jv_model.specs.declared.fault.Fault.{Fault}
use Rattle.jv_model.specs.declared.fault.Fault.TheVariants.{SymlinkLoop}
use Rattle.jv_model.specs.declared.fault.TxFault.{TxFault}
use Rattle.jv_model.specs.declared.fault.TxFault.TheVariants.{Refused}
use Rattle.jv_model.specs.promise.tree.Attempt.{◌>>=◌}
use Rattle.jv_model.specs.promise.tree.Tree.{Tree}
use Rattle.jv_model.specs.promise.tree.Walk.{names_of, is_absolute, stepped, way_on, walk_names, walk}
use Rattle.jv_model.specs.promise.Lists.{is_nil}
use Rattle.jv_outside.specs.promise.Store.{Store}
use Rattle.jv_volume.specs.promise.TypedRows.{typed}
use Rattle.jv_volume.specs.promise.TreeOf.{tree_of}
use Rattle.jv_rows.specs.Walks.{Comes, Course, Ended, Onward, onward, course, Goes}
use Rattle.jv_rows.specs.declared.walking.Place.{Place}
use Rattle.jv_rows.specs.declared.walking.Leg.{Leg}
use Rattle.jv_rows.specs.declared.walking.Leg.TheVariants.{Ends, Follows}
use Rattle.jv_rows.proofs.transactions.TransactionLaws.{Past, past-start}
use Rattle.jv_rows.proofs.transactions.ReadingPartLaws.{in_other_words, answered, refused, last_part, found_part, failed_part}
use Rattle.jv_rows.proofs.walks.WalkLaws.{failed_to_come}
use Rattle.jv_rows.proofs.walks.NameStepLaws.{node_is}

-- ---- the target of a symlink

pub last_goes : {before now after : Store} {asked left : Tree → Result Course Fault} {result : Result Leg TxFault} → Past before now asked left → Goes now after result left → Goes before after result asked
last_goes l r = record { looks = last_part l r.looks; stands = r.stands; allowed = r.allowed }

-- a walk that goes on from the root
pub goes_from_root : {before after : Store} (dir : ℕ) (target : List ℕ) (behind all : List (List ℕ)) (from : Place) → is_absolute target ≡ true → all ≡ names_of target ++ behind
    → Comes before after (Ok from) (λ t. Ok ROOT) → Goes before after (Ok (Follows from all)) (λ t. Ok (onward dir target behind))
goes_from_root {before = before} dir target behind all from absolute is comes = record {
  looks = answered (Onward from.inode all) (found_part (λ inode t. Ok (Onward inode all)) from.inode
      (in_other_words (past-start before (λ t. Ok (onward dir target behind))) (λ known rows_are whole bytes.
      (λ i. Ok (Onward (if absolute i then ROOT else dir) (sym is i))))) comes.looks);
  stands = comes.stands;
  allowed = comes.allowed;
}

pub root_fails : {before after : Store} (dir : ℕ) (target : List ℕ) (behind : List (List ℕ)) (fault : TxFault) → Comes before after (Err fault) (λ t. Ok ROOT)
    → Goes before after (Err fault) (λ t. Ok (onward dir target behind))
root_fails {before = before} dir target behind fault comes = record {
  looks = failed_part (λ inode t. Ok (onward dir target behind)) fault (past-start before (λ t. Ok (onward dir target behind))) comes.looks;
  stands = tt;
  allowed = tt;
}

-- ---- after one name

-- what is left behind a name that leads to an inode, by the target that is followed there
abbrev behind_name : Bool → ℕ → ℕ → List (List ℕ) → Tree → Option (List ℕ) → Result Course Fault
behind_name follow dir next behind t target = elim target [ None ↦ course t follow next behind | Some target ↦ Ok (onward dir target behind) ]

-- the target that is followed, by the tests of that
abbrev followed : Bool → Bool → List ℕ → Option (List ℕ)
followed here link target = (if here then (if link then Some target else None) else None)

followed_none : (here link : Bool) (target : List ℕ) → (here && link) ≡ false → followed here link target ≡ None
followed_none true true target e = absurd cc
followed_none true false target e = refl
followed_none false link target e = refl

followed_some : (here link : Bool) (target : List ℕ) → (here && link) ≡ true → followed here link target ≡ Some target
followed_some true true target e = refl
followed_some true false target e = absurd cc
followed_some false link target e = absurd cc

-- a name that doesn't lead on
pub name_fails : {start now after : Store} {asked : Tree → Result Course Fault} (follow : Bool) (place : Place) (name : List ℕ) (names behind : List (List ℕ)) (fault : TxFault) → names ≡ name ∷ behind
    → Past start now asked (λ t. course t follow place.inode names) → Comes now after (Err fault) (λ t. stepped t place.inode name) → Goes start after (Err fault) asked
name_fails follow place name names behind fault is left comes = record {
  looks = failed_part (λ inode t. behind_name follow place.inode inode behind t (way_on t follow behind inode)) fault
      (in_other_words left (λ known rows_are whole bytes. ap (course (tree_of bytes (typed known)) follow place.inode) is)) comes.looks;
  stands = tt;
  allowed = tt;
}

module _ {start now after : Store} {asked : Tree → Result Course Fault} (follow : Bool) (place next : Place) (name : List ℕ) (names behind : List (List ℕ)) (is : names ≡ name ∷ behind)
    (left : Past start now asked (λ t. course t follow place.inode names)) (comes : Comes now after (Ok next) (λ t. stepped t place.inode name)) where
  after_name : Past start after asked (λ t. behind_name follow place.inode next.inode behind t (way_on t follow behind next.inode))
  after_name =
      found_part (λ inode t. behind_name follow place.inode inode behind t (way_on t follow behind inode)) next.inode
      (in_other_words left (λ known rows_are whole bytes. ap (course (tree_of bytes (typed known)) follow place.inode) is)) comes.looks

  after_target : Past start after asked (λ t. behind_name follow place.inode next.inode behind t (followed (follow || not (is_nil behind)) (next.node.kind == 3) next.node.target))
  after_target =
      in_other_words after_name (λ known rows_are whole bytes.
      ap (λ target. behind_name follow place.inode next.inode behind (tree_of bytes (typed known)) (if follow || not (is_nil behind) then target else None))
      (node_is after comes.stands known (after_name.rows_are ∙ rows_are) whole bytes).target)

  -- it leads to a symlink, which is followed
  pub to_symlink : ((follow || not (is_nil behind)) && (next.node.kind == 3)) ≡ true → Past start after asked (λ t. Ok (onward place.inode next.node.target behind))
  to_symlink here =
      in_other_words after_target (λ known rows_are whole bytes. ap (behind_name follow place.inode next.inode behind (tree_of bytes (typed known)))
      (followed_some (follow || not (is_nil behind)) (next.node.kind == 3) next.node.target here))

  -- it leads elsewhere
  pub to_node : ((follow || not (is_nil behind)) && (next.node.kind == 3)) ≡ false → Past start after asked (λ t. course t follow next.inode behind)
  to_node elsewhere =
      in_other_words after_target (λ known rows_are whole bytes. ap (behind_name follow place.inode next.inode behind (tree_of bytes (typed known)))
      (followed_none (follow || not (is_nil behind)) (next.node.kind == 3) next.node.target elsewhere))

-- the name at an index, and those behind it
pub next_name : (names : List (List ℕ)) (index : ℕ) (name : List ℕ) → index < length names → name ≡ get_or names index name → drop index names ≡ name ∷ drop (index + 1) names
next_name names index name within is = drop-cons names index name within ∙ ap (λ first. first ∷ drop (suc index) names) (sym is) ∙ ap (λ n. name ∷ drop n names) (sym (add-one index))

not_empty : {A : Type 0} (xs : List A) → 0 < length xs → is_nil xs ≡ false
not_empty [] h = absurd (omega arith)
not_empty (x ∷ xs) h = refl

last_by : (names : List (List ℕ)) (index : ℕ) (last : Bool) → index < length names → (index + 1 == length names) ≡ last → is_nil (drop (index + 1) names) ≡ last
last_by names index true within e = ap (λ n. is_nil (drop n names)) (eqb-true (index + 1) (length names) e) ∙ ap is_nil (drop-length names)
last_by names index false within e =
    let apart : index + 1 ≢ length names = λ same. true≢false (sym (eq-eqb (index + 1) (length names) same) ∙ e) in
    not_empty (drop (index + 1) names) (omega (arith, length-drop (index + 1) names, apart))

-- whether a name is the last of names
pub is_last : (names : List (List ℕ)) (index : ℕ) → index < length names → is_nil (drop (index + 1) names) ≡ (index + 1 == length names)
is_last names index within = last_by names index (index + 1 == length names) within refl

-- ---- from symlink to symlink

abbrev finished : (ℕ → List (List ℕ) → Result ℕ Fault) → Course → Result ℕ Fault
finished again (Ended inode) = Ok inode
finished again (Onward inode names) = again inode names

-- what follows on a symlink, of which `left` may be followed
abbrev pub again : ℕ → Tree → Bool → ℕ → List (List ℕ) → Result ℕ Fault
again zero t follow inode names = Err SymlinkLoop
again (suc left) t follow inode names = walk left t follow inode names

module _ (more : ℕ → List (List ℕ) → Result ℕ Fault) (t : Tree) (follow : Bool) where
  by_course : (names : List (List ℕ)) (inode : ℕ) → walk_names more t follow inode names ≡ (course t follow inode names >>= finished more)
  unfolding walk_names
  by_course [] inode = refl
  by_course (name ∷ names) inode = by_step (by_course names) (stepped t inode name)
    where
      by_target : (next : ℕ) (target : Option (List ℕ)) → ((i : ℕ) → walk_names more t follow i names ≡ (course t follow i names >>= finished more))
          → (elim target [ None ↦ walk_names more t follow next names | Some target ↦ more (if is_absolute target then ROOT else inode) (names_of target ++ names) ])
          ≡ (behind_name follow inode next names t target >>= finished more)
      by_target next None rest = rest next
      by_target next (Some target) rest = refl

      by_step : ((i : ℕ) → walk_names more t follow i names ≡ (course t follow i names >>= finished more)) → (found : Result ℕ Fault)
          → (found >>= λ next. elim (way_on t follow names next) [ None ↦ walk_names more t follow next names | Some target ↦ more (if is_absolute target then ROOT else inode) (names_of target ++ names) ])
          ≡ ((found >>= λ next. behind_name follow inode next names t (way_on t follow names next)) >>= finished more)
      by_step rest (Ok next) = by_target next (way_on t follow names next) rest
      by_step rest (Err fault) = refl

-- a walk goes to the first symlink that it follows, and then on
pub walk_by_course : (left : ℕ) (t : Tree) (follow : Bool) (inode : ℕ) (names : List (List ℕ)) → walk left t follow inode names ≡ (course t follow inode names >>= finished (again left t follow))
unfolding walk
walk_by_course zero t follow inode names = by_course (again zero t follow) t follow names inode
walk_by_course (suc left) t follow inode names = by_course (again (suc left) t follow) t follow names inode

module _ {start now : Store} {asked : Tree → Result ℕ Fault} (left : ℕ) (follow : Bool) (place : Place) (names : List (List ℕ))
    (leaves : Past start now asked (λ t. walk left t follow place.inode names)) where
  by_courses : Past start now asked (λ t. course t follow place.inode names >>= λ c. finished (again left t follow) c)
  by_courses = in_other_words leaves (λ known rows_are whole bytes. walk_by_course left (tree_of bytes (typed known)) follow place.inode names)

  -- the walk fails on its way
  pub walk_fails : {after : Store} (fault : TxFault) → Goes now after (Err fault) (λ t. course t follow place.inode names) → Comes start after (Err fault) asked
  walk_fails fault goes = failed_to_come (failed_part (λ c t. finished (again left t follow) c) fault by_courses goes.looks)

  -- it ends
  pub walk_ends : {after : Store} (end : Place) → Goes now after (Ok (Ends end)) (λ t. course t follow place.inode names) → Comes start after (Ok end) asked
  walk_ends end goes = record {
    looks = answered end.inode (found_part (λ c t. finished (again left t follow) c) (Ended end.inode) by_courses goes.looks);
    stands = goes.stands;
    allowed = goes.allowed;
  }

  goes_again : {after : Store} (from : Place) (rest : List (List ℕ)) → Goes now after (Ok (Follows from rest)) (λ t. course t follow place.inode names)
      → Past start after asked (λ t. again left t follow from.inode rest)
  goes_again from rest goes = found_part (λ c t. finished (again left t follow) c) (Onward from.inode rest) by_courses goes.looks

  -- it followed as many symlinks as it may
  pub too_many : {after : Store} (from : Place) (rest : List (List ℕ)) → left ≡ 0 → Goes now after (Ok (Follows from rest)) (λ t. course t follow place.inode names) → Comes start after (Err (Refused SymlinkLoop)) asked
  too_many from rest none goes =
      failed_to_come (refused SymlinkLoop (in_other_words (goes_again from rest goes) (λ known rows_are whole bytes. ap (λ n. again n (tree_of bytes (typed known)) follow from.inode rest) none)))

  -- it follows one more
  pub one_more : {after : Store} (from : Place) (rest : List (List ℕ)) → 0 < left → Goes now after (Ok (Follows from rest)) (λ t. course t follow place.inode names)
      → Past start after asked (λ t. walk (left - 1) t follow from.inode rest)
  one_more from rest some goes =
      let is : left ≡ suc (left - 1) = omega arith in
      in_other_words (goes_again from rest goes) (λ known rows_are whole bytes. ap (λ n. again n (tree_of bytes (typed known)) follow from.inode rest) is)

pub walk_begins_nowhere : {before after : Store} (left : ℕ) (follow : Bool) (names : List (List ℕ)) (fault : TxFault) → Comes before after (Err fault) (λ t. Ok ROOT)
    → Comes before after (Err fault) (λ t. walk left t follow ROOT names)
walk_begins_nowhere {before = before} left follow names fault comes =
    failed_to_come (failed_part (λ inode t. walk left t follow inode names) fault (past-start before (λ t. walk left t follow ROOT names)) comes.looks)
