-- Things in a list over a map, when one goes into the map, and when all of one key are removed.
use Rattle.std.proofs.Common.{◌≡◌, Bool, true, false, cond, not, List, [], ◌∷◌, ◌++◌, filter, None, Some, refl, sym, ap, subst, ◌∙◌}
use Rattle.std.specs.Ordering.{eq_by_cmp}
use Rattle.std.proofs.lemmas.Bool.{not-true, not-false}
use Rattle.jv_model.specs.promise.FiniteMap.{KeyOrder, Map, empty_map, get, insert, remove, map_of}
use Rattle.jv_model.proofs.FiniteMapLaws.{get-insert, get-remove, get-empty_map, same_maps}
use Rattle.jv_model.proofs.TestLaws.{tie_is}
use Rattle.jv_outside.specs.declared.block_store.BlockStore.{BlockStore}
use Rattle.jv_outside.specs.declared.object_store.ObjectStore.{ObjectStore}
use Rattle.jv_outside.specs.Blocks.{key_of, bytes_of}
use Rattle.jv_outside.specs.LazyTrees.{entries_in}
use Rattle.jv_outside.specs.Objects.{name_of, value_of}
use Rattle.jv_outside.specs.Overlaid.{overlaid}
use Rattle.jv_outside.specs.StoredBlocks.{blocks_in}
use Rattle.jv_outside.specs.StoredObjects.{objects_in}

-- choices by two tests in either order, where not both hold
either_order : {A : Type 0} (b c : Bool) (x y z : A) → (b ≡ true → c ≡ true → ⊥) → cond b x (cond c y z) ≡ cond c y (cond b x z)
either_order true true x y z h = absurd (h refl refl)
either_order true false x y z h = refl
either_order false true x y z h = refl
either_order false false x y z h = refl

-- a choice by a test that was made
twice : {A : Type 0} (b : Bool) (x y z : A) → cond b x (cond b y z) ≡ cond b x z
twice true x y z = refl
twice false x y z = refl

alike : {A : Type 0} (b : Bool) (x : A) → cond b x x ≡ x
alike true x = refl
alike false x = refl

-- a key that ties with two keys, which then tie
apart_from_one : {K : Type 0} (order : KeyOrder K) (k q x : K) → eq_by_cmp order.cmp q k ≡ false → eq_by_cmp order.cmp x q ≡ true → eq_by_cmp order.cmp x k ≡ true → ⊥
apart_from_one order k q x apart first second =
    let to_q : x ≡ q = order.same x q (tie_is _ first) in
    let tied : eq_by_cmp order.cmp q k ≡ true = subst (λ y. eq_by_cmp order.cmp y k ≡ true) to_q second in
    cc

module _ {K X : Type 0} {order : KeyOrder K} where
  remove-inserted : (m : Map order X) (q : K) (v : X) → remove (insert m q v) q ≡ remove m q
  remove-inserted m q v =
      same_maps _ _ (λ x. get-remove (insert m q v) q x ∙ ap (cond (eq_by_cmp order.cmp x q) None) (get-insert m q v x)
      ∙ twice (eq_by_cmp order.cmp x q) None (Some v) (get m x) ∙ sym (get-remove m q x))

  remove-insert_apart : (m : Map order X) (k q : K) (v : X) → eq_by_cmp order.cmp q k ≡ false → remove (insert m k v) q ≡ insert (remove m q) k v
  remove-insert_apart m k q v apart =
      same_maps _ _ (λ x. get-remove (insert m k v) q x ∙ ap (cond (eq_by_cmp order.cmp x q) None) (get-insert m k v x)
      ∙ either_order (eq_by_cmp order.cmp x q) (eq_by_cmp order.cmp x k) None (Some v) (get m x) (apart_from_one order k q x apart)
      ∙ ap (cond (eq_by_cmp order.cmp x k) (Some v)) (sym (get-remove m q x)) ∙ sym (get-insert (remove m q) k v x))

  remove-insert_tied : (m : Map order X) (k q : K) (v : X) → eq_by_cmp order.cmp q k ≡ true → remove (insert m k v) q ≡ remove m q
  remove-insert_tied m k q v tied =
      subst (λ y. remove (insert m y v) q ≡ remove m q) (order.same q k (tie_is _ tied)) (remove-inserted m q v)

module _ {K : Type 0} (X : Type 0) (order : KeyOrder K) where
  remove-empty : (q : K) → remove (empty_map {X = X} {order = order}) q ≡ empty_map
  remove-empty q =
      same_maps _ _ (λ x. get-remove empty_map q x ∙ ap (cond (eq_by_cmp order.cmp x q) None) (get-empty_map order x)
      ∙ alike (eq_by_cmp order.cmp x q) None ∙ sym (get-empty_map order x))

module _ {E K X : Type 0} (order : KeyOrder K) (key : E → K) (value : E → X) where
  -- a thing that is brought from the end of the list into the map
  pub overlaid-moved : (es : List E) (e : E) (m n : Map order X) → n ≡ insert m (key e) (value e) → overlaid key value es n ≡ overlaid key value (es ++ e ∷ []) m
  overlaid-moved [] e m n h = h
  overlaid-moved (x ∷ es) e m n h = ap (λ o. insert o (key x) (value x)) (overlaid-moved es e m n h)

  without_by : (q : K) (e : E) (es : List E) (m n : Map order X) (b : Bool) → not (eq_by_cmp order.cmp q (key e)) ≡ b
      → overlaid key value es n ≡ remove m q → overlaid key value (cond b (e ∷ es) es) n ≡ remove (insert m (key e) (value e)) q
  without_by q e es m n true apart rest =
      ap (λ o. insert o (key e) (value e)) rest ∙ sym (remove-insert_apart m (key e) q (value e) (not-true _ apart))
  without_by q e es m n false tied rest = rest ∙ sym (remove-insert_tied m (key e) q (value e) (not-false _ tied))

  -- without the things of one key, over the map without that key
  pub overlaid-without : (q : K) (es : List E) (m n : Map order X) → n ≡ remove m q
      → overlaid key value (filter (λ e. not (eq_by_cmp order.cmp q (key e))) es) n ≡ remove (overlaid key value es m) q
  overlaid-without q [] m n h = h
  overlaid-without q (e ∷ es) m n h =
      without_by q e (filter (λ x. not (eq_by_cmp order.cmp q (key x))) es) (overlaid key value es m) n _ refl (overlaid-without q es m n h)

module _ {K X : Type 0} (order : KeyOrder K) where
  map_of-overlaid : (es : List (K × X)) → map_of {order = order} es ≡ overlaid (λ e. e.0) (λ e. e.1) es empty_map
  map_of-overlaid [] = refl
  map_of-overlaid (e ∷ es) = ap (λ m. insert m e.0 e.1) (map_of-overlaid es)

  -- entries without those of one key
  pub map_of-without : (q : K) (es : List (K × X)) → map_of {order = order} (filter (λ e. not (eq_by_cmp order.cmp q e.0)) es) ≡ remove (map_of es) q
  map_of-without q es =
      map_of-overlaid _ ∙ overlaid-without order (λ e. e.0) (λ e. e.1) q es empty_map empty_map (sym (remove-empty X order q)) ∙ ap (λ m. remove m q) (sym (map_of-overlaid es))

-- objects that are all in the tree
pub objects-settled : (store : ObjectStore) → store.listed.items ≡ [] → objects_in store ≡ map_of (entries_in store.tree)
objects-settled store h = ap (λ objects. overlaid name_of value_of objects (map_of (entries_in store.tree))) h

-- blocks that are all in order
pub blocks-settled : (store : BlockStore) → store.listed.items ≡ [] → blocks_in store ≡ map_of store.sorted.entries
blocks-settled store h = ap (λ blocks. overlaid key_of bytes_of blocks (map_of store.sorted.entries)) h
