-- How two entries change places in a draft: both are taken, and then each comes in where the other one stood.
use Rattle.std.proofs.Common.{◌≡◌, ◌≢◌, ℕ, ◌+◌, ◌≤◌, Bool, true, false, ◌&&◌, inl, inr, List}
use Rattle.std.proofs.Common.{None, Some, is_some, Result, Ok, Err, refl, sym, ap, subst, ◌∙◌, arith}
use Rattle.std.proofs.lemmas.Bool.{cases_eq, false≢true, le-leb, leb-true}
use Rattle.std.proofs.lemmas.Option.{same_Some}
use Rattle.std.specs.Prelude.{nat_le}
use Rattle.jv_model.specs.declared.limits.TheConstants.{MAX_LINKS}
use Rattle.jv_model.specs.declared.fault.Fault.{Fault}
use Rattle.jv_model.specs.declared.fault.Fault.TheVariants.{NoSpace}
use Rattle.jv_model.specs.declared.fault.TxFault.{TxFault}
use Rattle.jv_model.specs.promise.FiniteMap.{get, remove}
use Rattle.jv_model.specs.promise.tree.Attempt.{◌>>=◌, require}
use Rattle.jv_model.specs.promise.tree.Changes.{touched, change_node, take_entry, put_entry}
use Rattle.jv_model.specs.promise.tree.Renaming.{moved_node, move_in, exchanged}
use Rattle.jv_model.specs.promise.tree.Tree.{Tree, EntryKey, entry_key, node_at, is_directory, link_count, links_fit}
use Rattle.jv_outside.specs.declared.batch.Change.{Change}
use Rattle.jv_outside.specs.promise.Store.{Store}
use Rattle.jv_rows_drafts.specs.Drafting.{Drafting}
use Rattle.jv_rows_drafts.specs.Ready.{StandsAt, MayStandAt, IsThere, entry_put}
use Rattle.jv_volume.specs.promise.Shape.{shape_of}
use Rattle.jv_volume.proofs.operations.ChangeLaws.{move_in-entries}
use Rattle.jv_volume.proofs.shapes.ClimbLaws.{avoids_outside}
use Rattle.jv_volume.proofs.sums.LinkLaws.{dirs_of, dirs-shape, link_share, share-leaf, share-dir, standing_apart}
use Rattle.jv_volume.proofs.sums.LinkLaws.{is_directory-take_entry, is_directory-move_in, link_count-move_in, link_count-put_entry, link_count-take_entry}
use Rattle.jv_volume.proofs.shapes.ShapeMapLaws.{naming_same, naming_apart, get-insert_apart, get-removed, get-remove_apart, is_directory-form, is_there-form}
use Rattle.jv_volume.proofs.shapes.WalkShapeLaws.{went_on}
use Rattle.jv_links.specs.Exchanges.{MayExchange, entry_moved, exchanged_within}
use Rattle.jv_links.proofs.moves.ExchangeTreeLaws.{there-change_node, exchanged-taken}
use Rattle.jv_links.proofs.moves.MoveEntryLaws.{apart_first, entry_apart, required_then}
use Rattle.jv_rows_drafts.proofs.StepLaws.{drafting-as, drafting-ready, then-stops, then-on}
use Rattle.jv_model.proofs.TestLaws.{same_Ok}

-- ---- what an entry adds to a link count

module _ (dirs : ℕ → Bool) (at : EntryKey) (inode j : ℕ) where
  -- nothing to what it neither names nor stands in
  share_none : dirs at.dir ≡ true → inode ≢ j → at.dir ≢ j → link_share dirs at inode j ≡ 0
  share_none within other away = by_dir (dirs inode) refl
    where
      by_dir : (b : Bool) → dirs inode ≡ b → link_share dirs at inode j ≡ 0
      by_dir true is = share-dir dirs at inode j is within ∙ standing_apart j at away
      by_dir false leaf = share-leaf dirs at inode j leaf ∙ naming_apart j at inode other

-- and an entry adds no more to what it names than any other entry that names it
share_least : (dirs : ℕ → Bool) (at place : EntryKey) (inode : ℕ) → dirs at.dir ≡ true → at.dir ≢ inode
    → link_share dirs at inode inode
    ≤ link_share dirs place inode inode
share_least dirs at place inode within away = by_dir (dirs inode) refl
  where
    by_dir : (b : Bool) → dirs inode ≡ b → link_share dirs at inode inode ≤ link_share dirs place inode inode
    by_dir true is = (let none = share-dir dirs at inode inode is within ∙ standing_apart inode at away in
        omega (arith, none))
    by_dir false leaf =
        let here = share-leaf dirs at inode inode leaf ∙ naming_same inode at in
        let there = share-leaf dirs place inode inode leaf ∙ naming_same inode place in
        omega (arith, here, there)

fits_least : (t after : Tree) (j : ℕ) → link_count after j ≤ link_count t j → links_fit t j ≡ true
    → links_fit after j ≡ true
fits_least t after j least fit = (let known = leb-true (link_count t j) MAX_LINKS fit in
    le-leb (link_count after j) MAX_LINKS (omega (arith, least, known)))

-- ---- the tests of both entries are those of both directories

plain : (a b : Bool) → ((a && true) && (b && true)) ≡ (a && b)
plain true true = refl
plain true false = refl
plain false b = refl

tests_agree : (a b c own others : Bool) → own ≡ true → others ≡ true → (a && b) ≡ (b && c)
    → ((a && own) && (b && others)) ≡ (b && c)
tests_agree a b c own others is also same = ap (λ o. (a && o) && (b && others)) is
    ∙ ap (λ o. (a && true) && (b && o)) also ∙ plain a b ∙ same

both_apart : (a b c : Bool) → a ≡ c → (a && b) ≡ (b && c)
both_apart true true c e = e
both_apart true false c e = refl
both_apart false true c e = e
both_apart false false c e = refl

both_same : (a b c : Bool) → b ≡ c → (b ≡ true → a ≡ true) → (a && b) ≡ (b && c)
both_same true true c e h = e
both_same true false c e h = refl
both_same false true c e h = absurd (false≢true (h refl))
both_same false false c e h = refl

module _ (t : Tree) (now : ℕ) (from : EntryKey) (source : ℕ) (to : EntryKey) (other : ℕ)
    (m : MayExchange t from source to other) where
  abbrev one : Tree
  one = take_entry t now from

  abbrev less : Tree
  less = take_entry one now to

  abbrev half : Tree
  half = move_in less now to source

  abbrev first : Tree
  first = put_entry less now to source

  abbrev second : Tree
  second = put_entry half now from other

  abbrev done : Tree
  done = exchanged less now from source to other

  from_to : from ≢ to
  from_to e = m.apart (same_Some source other (sym m.is ∙ ap (get t.entries) e ∙ m.also))

  to_from : to ≢ from
  to_from e = from_to (sym e)

  from_within : is_directory t from.dir ≡ true
  from_within = is_directory-form t from.dir ∙ (m.whole.entry from source m.is).within

  to_within : is_directory t to.dir ≡ true
  to_within = is_directory-form t to.dir ∙ (m.whole.entry to other m.also).within

  from_source : from.dir ≢ source
  from_source = entry_apart (shape_of t) from source m.whole m.is

  to_other : to.dir ≢ other
  to_other = entry_apart (shape_of t) to other m.whole m.also

  to_source : to.dir ≢ source
  to_source =
      let up = avoids_outside t to.dir source m.whole (sym (is_directory-form t to.dir) ∙ to_within) m.outside in
      apart_first (shape_of t) source up.0 to.dir up.1

  from_other : from.dir ≢ other
  from_other =
      let up = avoids_outside t from.dir other m.whole (sym (is_directory-form t from.dir) ∙ from_within) m.beside in
      apart_first (shape_of t) other up.0 from.dir up.1

  source_there : is_some (node_at t source) ≡ true
  source_there = sym (is_there-form (node_at t source)) ∙ (m.whole.entry from source m.is).there

  other_there : is_some (node_at t other) ≡ true
  other_there = sym (is_there-form (node_at t other)) ∙ (m.whole.entry to other m.also).there

  there_less : (q : ℕ) → is_some (node_at less q) ≡ is_some (node_at t q)
  there_less q = there-change_node one to.dir (touched now) q ∙ there-change_node t from.dir (touched now) q

  there_half : (q : ℕ) → is_some (node_at half q) ≡ is_some (node_at t q)
  there_half q = there-change_node first source (moved_node now to.dir) q
      ∙ there-change_node less to.dir (touched now) q ∙ there_less q

  within_less : (q : ℕ) → is_directory less q ≡ is_directory t q
  within_less q = is_directory-take_entry one now to q ∙ is_directory-take_entry t now from q

  within_half : (q : ℕ) → is_directory half q ≡ is_directory t q
  within_half q = is_directory-move_in less now to source q ∙ within_less q

  half_free : get half.entries from ≡ None
  half_free =
      ap (λ e. get e from) (move_in-entries less now to source)
      ∙ get-insert_apart entry_key less.entries to source from from_to
      ∙ get-remove_apart entry_key (remove t.entries from) to from from_to ∙ get-removed entry_key t.entries from

  less_free : get less.entries to ≡ None
  less_free = get-removed entry_key (remove t.entries from) to

  one_named : get one.entries to ≡ Some other
  one_named = get-remove_apart entry_key t.entries from to to_from ∙ m.also

  pub may_take_from : StandsAt t from source
  may_take_from = record { named = m.is; within = from_within; there = source_there; apart = from_source }

  pub may_take_to : StandsAt one to other
  may_take_to = record {
    named = one_named;
    within = is_directory-take_entry t now from to.dir ∙ to_within;
    there = there-change_node t from.dir (touched now) other ∙ other_there;
    apart = to_other;
  }

  pub may_put_to : MayStandAt less to source
  may_put_to = record {
    free = less_free;
    name = m.to_name;
    within = within_less to.dir ∙ to_within;
    there = there_less source ∙ source_there;
    apart = to_source;
  }

  pub may_put_from : MayStandAt half from other
  may_put_from = record {
    free = half_free;
    name = m.from_name;
    within = within_half from.dir ∙ from_within;
    there = there_half other ∙ other_there;
    apart = from_other;
  }

  -- ---- the link counts

  abbrev dirs : ℕ → Bool
  dirs = dirs_of (shape_of t)

  dirs_at : (u : Tree) → ((q : ℕ) → is_directory u q ≡ is_directory t q) → dirs_of (shape_of u) ≡ dirs
  dirs_at u same = λ i q. (sym (dirs-shape u q) ∙ same q ∙ dirs-shape t q) i

  from_is : dirs from.dir ≡ true
  from_is = sym (dirs-shape t from.dir) ∙ from_within

  to_is : dirs to.dir ≡ true
  to_is = sym (dirs-shape t to.dir) ∙ to_within

  count_one : (j : ℕ) → link_count one j + link_share dirs from source j ≡ link_count t j
  count_one j = link_count-take_entry t now from source j m.is

  count_less : (j : ℕ) → link_count less j + link_share dirs to other j ≡ link_count one j
  count_less j = subst (λ d. link_count less j + link_share d to other j ≡ link_count one j)
      (dirs_at one (is_directory-take_entry t now from))
      (link_count-take_entry one now to other j one_named)

  count_first : (j : ℕ) → link_count first j ≡ link_count less j + link_share dirs to source j
  count_first j = subst (λ d. link_count first j ≡ link_count less j + link_share d to source j)
      (dirs_at less within_less)
      (link_count-put_entry less now to source j less_free)

  count_second : (j : ℕ) → link_count second j ≡ link_count first j + link_share dirs from other j
  count_second j =
      subst (λ d. link_count second j ≡ link_count half j + link_share d from other j) (dirs_at half within_half)
      (link_count-put_entry half now from other j half_free)
      ∙ ap (λ n. n + link_share dirs from other j) (link_count-move_in less now to source j)

  fits_source : links_fit first source ≡ true
  fits_source = fits_least t first source
      (let a = count_one source in let b = count_less source in let c = count_first source in
      let least = share_least dirs to from source to_is to_source in
      omega (arith, a, b, c, least)) m.links_source

  fits_other : links_fit second other ≡ true
  fits_other = fits_least t second other
      (let a = count_one other in let b = count_less other in let c = count_first other in let d = count_second other in
      let least = share_least dirs from to other from_is from_other in
      let none = share_none dirs to source other to_is m.apart to_other in
      omega (arith, a, b, c, d, least, none)) m.links_other

  directories : (links_fit first to.dir && links_fit second from.dir) ≡
      (links_fit second from.dir && links_fit second to.dir)
  directories = elim (cases_eq from.dir to.dir) [
    | inl same ↦ both_same (links_fit first to.dir) (links_fit second from.dir) (links_fit second to.dir)
        (ap (links_fit second) same)
        (λ fit. fits_least second first to.dir (let d = count_second to.dir in omega (arith, d))
        (sym (ap (links_fit second) same) ∙ fit))
    | inr away ↦ both_apart (links_fit first to.dir) (links_fit second from.dir) (links_fit second to.dir)
        (let none = share_none dirs from other to.dir from_is (λ e. to_other (sym e)) away in
        let d = count_second to.dir in
        let same : link_count first to.dir ≡ link_count second to.dir = omega (arith, none, d) in
        ap (λ n. nat_le n MAX_LINKS) same)
  ]

  done_fit : (j : ℕ) → links_fit second j ≡ links_fit done j
  done_fit j = ap (λ n. nat_le n MAX_LINKS) (sym (link_count-move_in half now from other j))

  pub tests : ((links_fit first to.dir && links_fit first source) &&
      (links_fit second from.dir && links_fit second other))
      ≡ (links_fit done from.dir && links_fit done to.dir)
  tests =
      tests_agree (links_fit first to.dir) (links_fit second from.dir) (links_fit second to.dir)
      (links_fit first source) (links_fit second other)
      fits_source fits_other directories
      ∙ (λ i. done_fit from.dir i && done_fit to.dir i)

-- ---- the four steps

both : (b c : Bool) (middle last : Tree) (next : Tree → Result Tree Fault)
    → next middle ≡ (require c NoSpace >>= (λ _. Ok last))
    → ((require b NoSpace >>= (λ _. Ok middle)) >>= next) ≡ (require (b && c) NoSpace >>= (λ _. Ok last))
both true c middle last next h = h
both false c middle last next h = refl

module _ (now : ℕ) (from : EntryKey) (source : ℕ) (to : EntryKey) (other : ℕ) where
  abbrev ready : Tree → Type 0
  ready t = MayExchange t from source to other

  abbrev take_from : Tree → Result Tree Fault
  take_from t = Ok (take_entry t now from)

  abbrev take_to : Tree → Result Tree Fault
  take_to t = Ok (take_entry t now to)

  abbrev take_both : Tree → Result Tree Fault
  take_both t = take_from t >>= take_to

  abbrev put_one : Tree → Result Tree Fault
  put_one t = take_both t >>= entry_moved now to source

  abbrev put_both : Tree → Result Tree Fault
  put_both t = put_one t >>= entry_moved now from other

  all-is : (t : Tree) → ready t → put_both t ≡ exchanged_within now from source to other t
  all-is t m =
      let less = take_entry (take_entry t now from) now to in
      let half = move_in less now to source in
      let first = put_entry less now to source in
      let second = put_entry half now from other in
      let done = exchanged less now from source to other in
      both (links_fit first to.dir && links_fit first source) (links_fit second from.dir && links_fit second other) half
      done (entry_moved now from other) refl
      ∙ ap (λ b. require b NoSpace >>= (λ _. Ok done)) (tests t now from source to other m)
      ∙ ap (λ (e : Tree). require (links_fit e from.dir && links_fit e to.dir) NoSpace >>= (λ _. Ok e))
      (exchanged-taken now from source to other t)

  half-is : (t left : Tree) → put_one t ≡ Ok left
      → move_in (take_entry (take_entry t now from) now to) now to source ≡ left
  half-is t left h =
      let less = take_entry (take_entry t now from) now to in
      let first = put_entry less now to source in
      let on = went_on (require (links_fit first to.dir && links_fit first source) NoSpace)
      (λ _. Ok (move_in less now to source)) left h in
      same_Ok (move_in less now to source) left on.2

  module _ (was : List Change) (before : Store) where
    abbrev Exchanges : (A : Type 0) → List Change → Store → Result A TxFault → Type 0
    Exchanges A changes after result = Drafting {A = A} ready was changes before after result
        (exchanged_within now from source to other)

    ends_as : (A : Type 0) (changes : List Change) (after : Store) (result : Result A TxFault)
        → Drafting {A = A} ready was changes before after result put_both → Exchanges A changes after result
    ends_as A changes after result d = drafting-as ready was changes before after result put_both
        (exchanged_within now from source to other) all-is d

    -- the first entry wasn't taken
    pub exchange-not_from : {A : Type 0} (changes : List Change) (after : Store) (fault : TxFault)
        → Drafting {A = A} (λ t. StandsAt t from source) was changes before after (Err fault) take_from
        → Exchanges A changes after (Err fault)
    exchange-not_from {A} changes after fault d = ends_as A changes after (Err fault)
        (then-stops {A = A} {B = A} ready was before put_one (entry_moved now from other) changes after fault
        (then-stops {A = A} {B = A} ready was before take_both (entry_moved now to source) changes after fault
        (then-stops {A = A} {B = A} ready was before take_from take_to changes after fault
        (drafting-ready (λ t. StandsAt t from source) ready was changes before after (Err fault) take_from
        (λ t m. may_take_from t now from source to other m) d))))

    module _ (one : List Change) (first : Store)
        (d : Drafting {A = Unit {0}} (λ t. StandsAt t from source) was one before first (Ok tt) take_from) where
      on_take : {A : Type 0} (changes : List Change) (after : Store) (result : Result A TxFault)
          → Drafting {A = A} (λ t. StandsAt t to other) one changes first after result take_to
          → Drafting {A = A} ready was changes before after result take_both
      on_take changes after result e = then-on ready was before take_from take_to tt one first
          (λ t. StandsAt t to other)
          (drafting-ready (λ t. StandsAt t from source) ready was one before first (Ok tt) take_from
          (λ t m. may_take_from t now from source to other m) d)
          (λ t left m is. subst (λ u. StandsAt u to other) (same_Ok (take_entry t now from) left is)
          (may_take_to t now from source to other m))
          changes after result e

      -- the second one wasn't
      pub exchange-not_to : {A : Type 0} (changes : List Change) (after : Store) (fault : TxFault)
          → Drafting {A = A} (λ t. StandsAt t to other) one changes first after (Err fault) take_to
          → Exchanges A changes after (Err fault)
      exchange-not_to {A} changes after fault e = ends_as A changes after (Err fault)
          (then-stops {A = A} {B = A} ready was before put_one (entry_moved now from other) changes after fault
          (then-stops {A = A} {B = A} ready was before take_both (entry_moved now to source) changes after fault
          (on_take changes after (Err fault) e)))

      module _ (two : List Change) (second : Store)
          (e : Drafting {A = Unit {0}} (λ t. StandsAt t to other) one two first second (Ok tt) take_to) where
        on_put : {A : Type 0} (changes : List Change) (after : Store) (result : Result A TxFault)
            → Drafting {A = A} (λ t. MayStandAt t to source) two changes second after result (entry_moved now to source)
            → Drafting {A = A} ready was changes before after result put_one
        on_put changes after result f = then-on ready was before take_both (entry_moved now to source) tt two second
            (λ t. MayStandAt t to source)
            (on_take two second (Ok tt) e)
            (λ t left m is. subst (λ u. MayStandAt u to source)
            (same_Ok (take_entry (take_entry t now from) now to) left is)
            (may_put_to t now from source to other m))
            changes after result f

        -- the first inode didn't come in
        pub exchange-not_source : {A : Type 0} (changes : List Change) (after : Store) (fault : TxFault)
            → Drafting {A = A} (λ t. MayStandAt t to source) two changes second after (Err fault)
            (entry_moved now to source)
            → Exchanges A changes after (Err fault)
        exchange-not_source {A} changes after fault f = ends_as A changes after (Err fault)
            (then-stops {A = A} {B = A} ready was before put_one (entry_moved now from other) changes after fault
            (on_put changes after (Err fault) f))

        -- it did, and then the second one comes in or doesn't
        pub exchange-on : {A : Type 0} (three : List Change) (third : Store)
            → Drafting {A = Unit {0}} (λ t. MayStandAt t to source) two three second third (Ok tt)
            (entry_moved now to source)
            → (changes : List Change) (after : Store) (result : Result A TxFault)
            → Drafting {A = A} (λ t. MayStandAt t from other) three changes third after result
            (entry_moved now from other) → Exchanges A changes after result
        exchange-on {A} three third f changes after result g = ends_as A changes after result
            (then-on ready was before put_one (entry_moved now from other) tt three third (λ t. MayStandAt t from other)
            (on_put three third (Ok tt) f)
            (λ t left m is. subst (λ u. MayStandAt u from other) (half-is t left is)
            (may_put_from t now from source to other m))
            changes after result g)

-- ---- an entry of an inode from elsewhere

module _ (now : ℕ) (place : EntryKey) (inode : ℕ) (was put : List Change) (before middle : Store) where
  abbrev may_come : Tree → Type 0
  may_come t = MayStandAt t place inode

  abbrev last_change : Tree → Result Tree Fault
  last_change u = Ok (change_node u inode (moved_node now place.dir))

  moved-is : (t : Tree) → (entry_put now place inode t >>= last_change) ≡ entry_moved now place inode t
  moved-is t = (let u = put_entry t now place inode in
      required_then (links_fit u place.dir && links_fit u inode) u last_change)

  pub enter-not_put : {A : Type 0} (fault : TxFault)
      → Drafting {A = A} may_come was put before middle (Err fault) (entry_put now place inode)
      → Drafting {A = A} may_come was put before middle (Err fault) (entry_moved now place inode)
  enter-not_put {A} fault d = drafting-as may_come was put before middle (Err fault)
      (λ t. entry_put now place inode t >>= last_change)
      (entry_moved now place inode) (λ t m. moved-is t)
      (then-stops {A = A} {B = A} may_come was before (entry_put now place inode) last_change put middle fault d)

  put-there : (t left : Tree) → may_come t → entry_put now place inode t ≡ Ok left → IsThere inode left
  put-there t left m is =
      let u = put_entry t now place inode in
      let on = went_on (require (links_fit u place.dir && links_fit u inode) NoSpace) (λ _. Ok u) left is in
      subst (IsThere inode) (same_Ok u left on.2) (there-change_node t place.dir (touched now) inode ∙ m.there)

  pub enter-on : {A : Type 0} → Drafting {A = Unit {0}} may_come was put before middle (Ok tt)
      (entry_put now place inode)
      → (changes : List Change) (after : Store) (result : Result A TxFault)
      → Drafting {A = A} (IsThere inode) put changes middle after result last_change
      → Drafting {A = A} may_come was changes before after result (entry_moved now place inode)
  enter-on d changes after result e = drafting-as may_come was changes before after result
      (λ t. entry_put now place inode t >>= last_change)
      (entry_moved now place inode) (λ t m. moved-is t)
      (then-on may_come was before (entry_put now place inode) last_change tt put middle (IsThere inode) d put-there
      changes after result e)
