-- Laws of the set of listed blocks.
use Rattle.std.proofs.Common.{◌≡◌, ℕ, ◌<◌, Bool, true, false, cond, List, [], ◌∷◌, ◌++◌, refl, sym, ap, ◌∙◌, arith, ⊎_elim, subst, not}
use Rattle.std.specs.Prelude.{◌||◌, ◌&&◌, ◌==◌}
use Rattle.std.specs.Bool.{OnFalse}
use Rattle.std.specs.List.{list_any}
use Rattle.std.specs.declared.cmp.Ordering.{Ordering}
use Rattle.std.specs.Ordering.{nat_cmp, ordering_then, is_eq}
use Rattle.std.specs.BTreeMap.{is_at}
use Rattle.std.proofs.lemmas.Bool.{cases_order, lt-ltb, le-ltb, eq-eqb, ne_eqb, not-true, not-false}
use Rattle.std.specs.Cmp.{nat_eq_equiv}
use Rattle.std.proofs.lemmas.List.Folds.{list_any-append}
use Rattle.jv_model.specs.declared.slice.BlockId.{BlockId}
use Rattle.jv_model.specs.blocks.Slices.{is_same_block, with_block}
use Rattle.jv_slices.specs.declared.blocks.OrderedBlock.{OrderedBlock}
use Rattle.jv_slices.specs.Listing.{ordered_of, ordered_cmp, Lists}

-- two numbers compare as equal if and only if they are
pub then_eq : (a b : ℕ) (o : Ordering) → is_eq (ordering_then (nat_cmp a b) o) ≡ ((a == b) && is_eq o)
then_eq a b o =
    ⊎_elim (λ (e : a ≡ b). rw (le-ltb a b (omega arith), eq-eqb a b e) refl)
    (⊎_elim (λ (low : a < b). rw (lt-ltb a b low, ne_eqb a b (λ e. omega (arith, e))) refl)
    (λ (high : b < a). rw (le-ltb a b (omega arith), ne_eqb a b (λ e. omega (arith, e))) refl)) (cases_order a b)

pub is_eq_nat : (a b : ℕ) → is_eq (nat_cmp a b) ≡ (a == b)
is_eq_nat a b =
    ⊎_elim (λ (e : a ≡ b). rw (le-ltb a b (omega arith), eq-eqb a b e) refl)
    (⊎_elim (λ (low : a < b). rw (lt-ltb a b low, ne_eqb a b (λ e. omega (arith, e))) refl)
    (λ (high : b < a). rw (le-ltb a b (omega arith), ne_eqb a b (λ e. omega (arith, e))) refl)) (cases_order a b)

pub and_assoc : (x y z : Bool) → (x && (y && z)) ≡ (x && y && z)
and_assoc true y z = refl
and_assoc false y z = refl

-- the set's order takes blocks as equal if and only if they are the same
pub same_at : (a b : BlockId) → is_at (ordered_cmp (ordered_of a)) (ordered_of b) ≡ is_same_block a b
same_at a b =
    then_eq a.id b.id (ordering_then (nat_cmp a.index b.index) (nat_cmp a.size b.size))
    ∙ ap (λ x. (a.id == b.id) && x) (then_eq a.index b.index (nat_cmp a.size b.size) ∙ ap (λ x. (a.index == b.index) && x) (is_eq_nat a.size b.size))
    ∙ and_assoc (a.id == b.id) (a.index == b.index) (a.size == b.size)

pub same_flips : (a b : BlockId) → is_same_block a b ≡ is_same_block b a
same_flips a b = ap (λ x. x && (a.index == b.index) && (a.size == b.size)) (nat_eq_equiv.symm a.id b.id)
    ∙ ap (λ x. (b.id == a.id) && x && (a.size == b.size)) (nat_eq_equiv.symm a.index b.index)
    ∙ ap (λ x. (b.id == a.id) && (b.index == a.index) && x) (nat_eq_equiv.symm a.size b.size)

pub lists_push : (keys : List BlockId) (block : BlockId) (old new : List OrderedBlock) → Lists keys old → ((q : OrderedBlock) → list_any (is_at (ordered_cmp q)) new ≡ cond (is_at (ordered_cmp (ordered_of block)) q) true (list_any (is_at (ordered_cmp q)) old)) → Lists (keys ++ block ∷ []) new
lists_push keys block old new same update b =
    update (ordered_of b) ∙ ap (λ x. cond x true (list_any (is_at (ordered_cmp (ordered_of b))) old)) (same_at block b ∙ same_flips block b)
    ∙ ap (λ x. cond (is_same_block b block) true x) (same b) ∙ either (is_same_block b block) (list_any (is_same_block b) keys) ∙ sym (list_any-append (is_same_block b) keys (block ∷ []))
  where
    either : (x y : Bool) → cond x true y ≡ (y || (x || false))
    either true true = refl
    either true false = refl
    either false true = refl
    either false false = refl

pub with_new : (keys : List BlockId) (block : BlockId) → list_any (is_same_block block) keys ≡ false → with_block keys block ≡ keys ++ block ∷ []
with_new keys block e = rw e refl

pub with_listed : (keys : List BlockId) (block : BlockId) → list_any (is_same_block block) keys ≡ true → with_block keys block ≡ keys
with_listed keys block e = rw e refl

-- the set after a block was put into it, which says whether it was new
pub lists_with : (keys : List BlockId) (block : BlockId) (old new : List OrderedBlock) (added : Bool) → Lists keys old → ((q : OrderedBlock) → list_any (is_at (ordered_cmp q)) new ≡ cond (is_at (ordered_cmp (ordered_of block)) q) true (list_any (is_at (ordered_cmp q)) old)) → added ≡ not (list_any (is_at (ordered_cmp (ordered_of block))) old) → OnFalse added (new ≡ old) → Lists (with_block keys block) new
lists_with keys block old new true same update e unchanged =
    let fresh : list_any (is_same_block block) keys ≡ false = not-true (list_any (is_same_block block) keys) (ap not (sym (same block)) ∙ sym e) in
    subst (λ (bs : List BlockId). Lists bs new) (sym (with_new keys block fresh)) (lists_push keys block old new same update)
lists_with keys block old new false same update e unchanged =
    let known : list_any (is_same_block block) keys ≡ true = not-false (list_any (is_same_block block) keys) (ap not (sym (same block)) ∙ sym e) in
    subst (λ (bs : List BlockId). Lists bs new) (sym (with_listed keys block known)) (subst (λ (ls : List OrderedBlock). Lists keys ls) (sym unchanged) same)
