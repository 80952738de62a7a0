-- A tree of rows as a finite map, and what it is after a change.
use Rattle.std.proofs.Common.{◌≡◌, ℕ, cond, List, [], ◌∷◌, ◌++◌, Option, Some, refl, sym, ap, ◌∙◌}
use Rattle.std.specs.Ordering.{eq_by_cmp, nat_cmp}
use Rattle.std.specs.Cmp.{eq_by_cmp_equiv}
use Rattle.std.specs.Map.{lookup}
use Rattle.std.specs.BTreeMap.{is_at}
use Rattle.std.specs.FinMap.Entries.{find}
use Rattle.jv_model.specs.promise.FiniteMap.{KeyOrder, get, insert, map_of, text_key}
use Rattle.jv_model.specs.FiniteMap.{alter}
use Rattle.jv_outside.specs.declared.store.RowStore.{RowStore}
use Rattle.jv_outside.specs.LazyTrees.{entries_in, IsLike}
use Rattle.jv_outside.specs.promise.Rows.{applied}
use Rattle.jv_outside.specs.declared.lazy_tree.LazyTree.{LazyTree}
use Rattle.jv_outside.specs.declared.object_store.ObjectStore.{ObjectStore}
use Rattle.jv_model.specs.declared.row.RowKey.{RowKey}
use Rattle.jv_model.specs.promise.rows.RowKeys.{row_cmp, row_key}
use Rattle.std.specs.Cmp.Lexicographic.{slice_cmp}
use Rattle.jv_outside.specs.Objects.{name_of, value_of}
use Rattle.jv_outside.specs.Overlaid.{overlaid}
use Rattle.jv_outside.specs.Stored.{stored, IsSettled}
use Rattle.jv_outside.specs.StoredObjects.{objects_in}
use Rattle.jv_model.proofs.FiniteMapLaws.{get-map_of, get-alter, same_maps}

-- rows that are all in the tree
pub stored-settled : (store : RowStore) → IsSettled store → stored store ≡ map_of (entries_in store.tree)
stored-settled store h =
    ap (λ changes. applied changes (map_of (store.listed.items ++ entries_in store.tree))) h.waiting
    ∙ ap (λ rows. map_of (rows ++ entries_in store.tree)) h.listed

module _ {K X : Type 0} (order : KeyOrder K) where
  lookup-find : (q : K) (es : List (K × X)) → lookup (is_at (order.cmp q)) es ≡ find order.cmp q es
  lookup-find q [] = refl
  lookup-find q (e ∷ es) = ap (cond (eq_by_cmp order.cmp q e.0) (Some e.1)) (lookup-find q es)

  -- what a tree finds is what its entries have as a map
  pub get-lookup : (q : K) (es : List (K × X)) → get (map_of {order = order} es) q ≡ lookup (is_at (order.cmp q)) es
  get-lookup q es = get-map_of order es q ∙ sym (lookup-find q es)

  -- a tree that has the same value at each key
  pub map_of-alike : (es fs : List (K × X)) → IsLike order.cmp es fs → map_of {order = order} fs ≡ map_of es
  map_of-alike es fs h = same_maps _ _ (λ q. get-lookup q fs ∙ h q ∙ sym (get-lookup q es))

  -- a tree that has another value at a key, or none there
  pub map_of-updated : (es fs : List (K × X)) (k : K) (w : Option X)
      → ((q : K) → lookup (is_at (order.cmp q)) fs ≡ cond (is_at (order.cmp k) q) w (lookup (is_at (order.cmp q)) es))
      → map_of {order = order} fs ≡ alter (map_of es) k w
  map_of-updated es fs k w h =
      same_maps _ _ (λ q. get-lookup q fs ∙ h q
      ∙ (λ i. cond ((eq_by_cmp_equiv order.total).symm k q i) w (sym (get-lookup q es) i))
      ∙ sym (get-alter (map_of es) k w q))

  -- a row that is brought from the end of a list into the tree behind it
  pub map_of-moved : (ws es fs : List (K × X)) (k : K) (v : X)
      → map_of {order = order} fs ≡ insert (map_of es) k v
      → map_of {order = order} (ws ++ fs) ≡ map_of ((ws ++ (k, v) ∷ []) ++ es)
  map_of-moved [] es fs k v h = h
  map_of-moved (w ∷ ws) es fs k v h = ap (λ m. insert m w.0 w.1) (map_of-moved ws es fs k v h)

-- rows that are brought into order are the same
pub stored-sorted : (store : RowStore) (tree : LazyTree RowKey (List ℕ)) → IsSettled store → IsLike row_cmp (entries_in store.tree) (entries_in tree)
    → stored (record store { tree = tree }) ≡ stored store
stored-sorted store tree h like =
    stored-settled (record store { tree = tree }) (record { listed = h.listed; waiting = h.waiting })
    ∙ map_of-alike row_key _ _ like ∙ sym (stored-settled store h)

-- objects that are brought into order are the same
pub objects-sorted : (store : ObjectStore) (tree : LazyTree (List ℕ) (List ℕ × ℕ)) → IsLike (slice_cmp nat_cmp) (entries_in store.tree) (entries_in tree)
    → objects_in (record store { tree = tree }) ≡ objects_in store
objects-sorted store tree like = ap (overlaid name_of value_of store.listed.items) (map_of-alike text_key _ _ like)
