-- How an entry moves to a free place: it is taken, put, and its node has its new parent.
use Rattle.std.proofs.Common.{◌≡◌, ◌≢◌, ℕ, zero, suc, ◌+◌, ◌≤◌, Bool, true, false, cond, ◌&&◌, List, None, Some, is_some, Result, Ok, Err, refl, sym, ap, subst, ◌∙◌, arith}
use Rattle.std.specs.Prelude.{IsTrue, nat_le, ◌==◌}
use Rattle.std.proofs.lemmas.Bool.{le-leb, leb-true}
use Rattle.jv_model.specs.declared.limits.TheConstants.{MAX_LINKS}
use Rattle.jv_model.specs.declared.fault.Fault.{Fault}
use Rattle.jv_model.specs.declared.fault.Fault.TheVariants.{NoSpace}
use Rattle.jv_model.specs.declared.fault.TxFault.{TxFault}
use Rattle.jv_model.specs.promise.FiniteMap.{get}
use Rattle.jv_model.specs.promise.tree.Attempt.{◌>>=◌, require}
use Rattle.jv_model.specs.promise.tree.Changes.{change_node, take_entry, put_entry}
use Rattle.jv_model.specs.promise.tree.Renaming.{moved, moved_node}
use Rattle.jv_model.specs.promise.tree.Tree.{Tree, EntryKey, entry_key, node_at, is_directory, link_count, links_fit}
use Rattle.jv_model.proofs.TestLaws.{and_true, same_Ok}
use Rattle.jv_outside.specs.declared.batch.Change.{Change}
use Rattle.jv_outside.specs.promise.Store.{Store}
use Rattle.jv_rows_drafts.specs.Drafting.{Drafting}
use Rattle.jv_rows_drafts.specs.Ready.{StandsAt, MayStandAt, IsThere, entry_put}
use Rattle.jv_volume.specs.promise.Shape.{Shape, WholeShape, shape_of, is_dir, is_there, named}
use Rattle.jv_volume.proofs.shapes.ClimbLaws.{Avoids, avoids_outside, above_avoids}
use Rattle.jv_volume.proofs.sums.LinkLaws.{standing, standing_apart, standing_here, is_directory-take_entry, link_count-move_in, link_count-put_entry-leaf, link_count-take_entry-leaf, link_count-put_entry-dir, link_count-take_entry-dir}
use Rattle.jv_volume.proofs.shapes.ShapeMapLaws.{get-remove_apart, parent_of_dir, is_directory-form, is_there-form, shape-take_entry, shape-put_entry}
use Rattle.jv_volume.proofs.shapes.WalkShapeLaws.{went_on}
use Rattle.jv_links.specs.Moves.{MayMove, moved_within}
use Rattle.jv_rows_drafts.proofs.StepLaws.{drafting-as, drafting-ready, then-stops, then-on}

-- what avoids an inode is another one
pub apart_first : (s : Shape) (inode n dir : ℕ) → Avoids s.form inode n dir → dir ≢ inode
apart_first s inode zero dir h = h.0
apart_first s inode (suc n) dir h = h.0

-- no entry of a whole tree names the directory that it stands in
pub entry_apart : (s : Shape) (at : EntryKey) (inode : ℕ) → WholeShape s → named s at ≡ Some inode → at.dir ≢ inode
entry_apart s at inode whole is same =
    let n = whole.entry at inode is in
    let own = parent_of_dir (s.form inode) (subst (λ d. IsTrue (is_dir (s.form d))) same n.within) in
    let up = whole.rooted inode own.0 own.1 in
    let avoids = above_avoids s.form inode own.0 up.0 n.free own.1 up.1 in
    let here : at.dir ≡ own.0 = ap (λ (k : EntryKey). k.dir) ((whole.entered inode own.0 own.1 n.free).only at is) in
    apart_first s inode avoids.0 own.0 avoids.1 (sym here ∙ same)

standing_most : (dir : ℕ) (at : EntryKey) → standing dir at ≤ 1
standing_most dir at = by_test (at.dir == dir)
  where
    by_test : (b : Bool) → (let n : ℕ = cond b 1 0 in n) ≤ 1
    by_test true = omega arith
    by_test false = omega arith

module _ (t : Tree) (now : ℕ) (from : EntryKey) (source : ℕ) (to : EntryKey) (m : MayMove t from source to) where
  abbrev less : Tree
  less = take_entry t now from

  abbrev put : Tree
  put = put_entry less now to source

  to_apart : to ≢ from
  to_apart same = (let here : get t.entries to ≡ Some source = ap (get t.entries) same ∙ m.is in
      let free : get t.entries to ≡ None = m.free in absurd (cc))

  still_free : get less.entries to ≡ None
  still_free = get-remove_apart entry_key t.entries from to to_apart ∙ m.free

  out : to.dir ≢ source
  out = (let up = avoids_outside t to.dir source m.whole (sym (is_directory-form t to.dir) ∙ m.within) m.outside in
      apart_first (shape_of t) source up.0 to.dir up.1)

  from_within : is_directory t from.dir ≡ true
  from_within = is_directory-form t from.dir ∙ (m.whole.entry from source m.is).within

  from_apart : from.dir ≢ source
  from_apart = entry_apart (shape_of t) from source m.whole m.is

  source_there : is_some (node_at t source) ≡ true
  source_there = sym (is_there-form (node_at t source)) ∙ (m.whole.entry from source m.is).there

  pub move-may_take : StandsAt t from source
  move-may_take = record { named = m.is; within = from_within; there = source_there; apart = from_apart }

  pub move-may_put : MayStandAt less to source
  move-may_put = record {
    free = still_free;
    name = m.name;
    within = is_directory-take_entry t now from to.dir ∙ m.within;
    there = sym (is_there-form (node_at less source))
        ∙ ap (λ (s : Shape). is_there (s.form source)) (shape-take_entry t now from) ∙ is_there-form (node_at t source)
        ∙ source_there;
    apart = out;
  }

  -- the link counts of the directory that the entry leaves, and of its node, don't grow
  leaf_count : is_directory t source ≡ false → (j : ℕ) → link_count put j ≡ link_count t j
  leaf_count leaf j =
      link_count-put_entry-leaf less now to source j still_free (is_directory-take_entry t now from source ∙ leaf)
      ∙ link_count-take_entry-leaf t now from source j m.is leaf

  dir_count : is_directory t source ≡ true → (j : ℕ)
      → link_count put j + standing j from ≡ link_count t j + standing j to
  dir_count is j =
      let added = link_count-put_entry-dir less now to source j still_free
      (is_directory-take_entry t now from source ∙ is) (is_directory-take_entry t now from to.dir ∙ m.within) in
      let taken = link_count-take_entry-dir t now from source j m.is is from_within in
      omega (arith, added, taken)

  fits_least : (j : ℕ) → link_count put j ≤ link_count t j → links_fit t j ≡ true → links_fit put j ≡ true
  fits_least j least fit = (let known = leb-true (link_count t j) MAX_LINKS fit in
      le-leb (link_count put j) MAX_LINKS (omega (arith, least, known)))

  fits_from : (b : Bool) → is_directory t source ≡ b → links_fit put from.dir ≡ true
  fits_from false leaf = fits_least from.dir (let same = leaf_count leaf from.dir in omega (arith, same)) m.links_from
  fits_from true is = fits_least from.dir (let same = dir_count is from.dir in
      let one = standing_here from.dir from refl in let most = standing_most from.dir to in
      omega (arith, same, one, most)) m.links_from

  fits_source : (b : Bool) → is_directory t source ≡ b → links_fit put source ≡ true
  fits_source false leaf = fits_least source (let same = leaf_count leaf source in omega (arith, same)) m.links_source
  fits_source true is = fits_least source (let same = dir_count is source in let none = standing_apart source to out in
      omega (arith, same, none)) m.links_source

  moved_fit : (j : ℕ) → links_fit (moved t now from source to) j ≡ links_fit put j
  moved_fit j = ap (λ n. nat_le n MAX_LINKS) (link_count-move_in less now to source j)

  tests : (links_fit put to.dir && links_fit put source) ≡
      (links_fit (moved t now from source to) from.dir && links_fit (moved t now from source to) to.dir)
  tests =
      ap (λ b. links_fit put to.dir && b) (fits_source (is_directory t source) refl) ∙ and_true (links_fit put to.dir)
      ∙ ap (λ b. b && links_fit put to.dir) (sym (fits_from (is_directory t source) refl))
      ∙ sym (λ i. moved_fit from.dir i && moved_fit to.dir i)

-- the three changes are the move
abbrev last_change : ℕ → ℕ → EntryKey → Tree → Result Tree Fault
last_change now source to u = Ok (change_node u source (moved_node now to.dir))

-- a change that is refused because there is no room is, whatever comes after it
pub required_then : (b : Bool) (u : Tree) (change : Tree → Result Tree Fault)
    → ((require b NoSpace >>= (λ _. Ok u)) >>= change) ≡ (require b NoSpace >>= (λ _. change u))
required_then true u change = refl
required_then false u change = refl

abbrev two_changes : ℕ → ℕ → EntryKey → Tree → Result Tree Fault
two_changes now source to u = entry_put now to source u >>= last_change now source to

all-is : (t : Tree) (now : ℕ) (from : EntryKey) (source : ℕ) (to : EntryKey) → MayMove t from source to
    → two_changes now source to (take_entry t now from) ≡ moved_within now from source to t
all-is t now from source to m =
    let put = put_entry (take_entry t now from) now to source in
    required_then (links_fit put to.dir && links_fit put source) put (last_change now source to)
    ∙ ap (λ b. require b NoSpace >>= (λ _. Ok (moved t now from source to))) (tests t now from source to m)

-- each exit of the move
module _ (now : ℕ) (from : EntryKey) (source : ℕ) (to : EntryKey) (was taken : List Change) (before middle : Store)
  where
    abbrev ready : Tree → Type 0
    ready t = MayMove t from source to

    abbrev take : Tree → Result Tree Fault
    take t = Ok (take_entry t now from)

    abbrev rest : Tree → Result Tree Fault
    rest = two_changes now source to

    abbrev whole_move : Tree → Result Tree Fault
    whole_move = moved_within now from source to

    pub move-not_taken : {A : Type 0} (fault : TxFault)
        → Drafting {A = A} (λ t. StandsAt t from source) was taken before middle (Err fault) take
        → Drafting {A = A} ready was taken before middle (Err fault) whole_move
    move-not_taken {A} fault d = drafting-as ready was taken before middle (Err fault) (λ t. take t >>= rest) whole_move
        (λ t m. all-is t now from source to m)
        (then-stops ready was before take rest taken middle fault
        (drafting-ready (λ t. StandsAt t from source) ready was taken before middle (Err fault) take
        (λ t m. move-may_take t now from source to m) d))

    module _ {A : Type 0} (x : A) (d : Drafting (λ t. StandsAt t from source) was taken before middle (Ok x) take) where
      then_rest : {B : Type 0} (changes : List Change) (after : Store) (result : Result B TxFault)
          → Drafting (λ u. MayStandAt u to source) taken changes middle after result rest
          → Drafting ready was changes before after result whole_move
      then_rest changes after result e = drafting-as ready was changes before after result
          (λ t. take t >>= rest) whole_move (λ t m. all-is t now from source to m)
          (then-on ready was before take rest x taken middle (λ u. MayStandAt u to source)
          (drafting-ready (λ t. StandsAt t from source) ready was taken before middle (Ok x) take
          (λ t m. move-may_take t now from source to m) d)
          (λ t left m is. subst (λ u. MayStandAt u to source) (same_Ok (take_entry t now from) left is)
          (move-may_put t now from source to m))
          changes after result e)

      pub move-not_put : {B : Type 0} (changes : List Change) (after : Store) (fault : TxFault)
          → Drafting {A = B} (λ u. MayStandAt u to source) taken changes middle after (Err fault)
          (entry_put now to source)
          → Drafting {A = B} ready was changes before after (Err fault) whole_move
      move-not_put changes after fault e = then_rest changes after (Err fault)
          (then-stops (λ u. MayStandAt u to source) taken middle (entry_put now to source) (last_change now source to)
          changes after fault e)

      put_is : (u left : Tree) → entry_put now to source u ≡ Ok left → put_entry u now to source ≡ left
      put_is u left h = (let on = went_on
          (require (links_fit (put_entry u now to source) to.dir && links_fit (put_entry u now to source) source) NoSpace)
          (λ _. Ok (put_entry u now to source)) left h in
          same_Ok (put_entry u now to source) left on.2)

      still_there : (u : Tree) → MayStandAt u to source → IsThere source (put_entry u now to source)
      still_there u m = sym (is_there-form (node_at (put_entry u now to source) source))
          ∙ ap (λ (s : Shape). is_there (s.form source)) (shape-put_entry u now to source)
          ∙ is_there-form (node_at u source) ∙ m.there

      pub move-made : {B C : Type 0} (y : B) (put : List Change) (next : Store)
          → Drafting (λ u. MayStandAt u to source) taken put middle next (Ok y) (entry_put now to source)
          → (changes : List Change) (after : Store) (result : Result C TxFault)
          → Drafting (IsThere source) put changes next after result (last_change now source to)
          → Drafting ready was changes before after result whole_move
      move-made y put next e changes after result f = then_rest changes after result
          (then-on (λ u. MayStandAt u to source) taken middle (entry_put now to source) (last_change now source to) y put
          next (IsThere source) e
          (λ u left m is. subst (IsThere source) (put_is u left is) (still_there u m)) changes after result f)
