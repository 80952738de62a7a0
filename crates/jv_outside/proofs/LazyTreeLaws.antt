-- Values that are found by their keys' hashes, before values in the order of their keys.
use Rattle.std.proofs.Common.{◌≡◌, Bool, true, false, cond, List, [], ◌∷◌, ◌++◌, Option, None, Some, refl, sym, ap, ◌∙◌}
use Rattle.std.specs.declared.cmp.Ordering.{Ordering}
use Rattle.std.specs.BTreeMap.{is_at}
use Rattle.std.specs.Cmp.{IsTotalOrder, eq_by_cmp_equiv}
use Rattle.std.specs.Map.{lookup}
use Rattle.jv_outside.specs.LazyTrees.{Alters, IsLike}

module _ {V : Type 0} where
  -- the first of two values that is there
  abbrev or_else : Option V → Option V → Option V
  or_else None other = other
  or_else (Some value) other = Some value

  or_else_cond : (b : Bool) (value : V) (x y z : Option V) → z ≡ or_else x y → cond b (Some value) z ≡ or_else (cond b (Some value) x) y
  or_else_cond true value x y z h = refl
  or_else_cond false value x y z h = h

  -- a value that stands first, or none in either place
  put_first : (b : Bool) (value : V) (x y : Option V) → or_else (cond b (Some value) x) y ≡ cond b (Some value) (or_else x y)
  put_first true value x y = refl
  put_first false value x y = refl

  none_in_either : (b : Bool) (x y : Option V) → or_else (cond b None x) (cond b None y) ≡ cond b None (or_else x y)
  none_in_either true x y = refl
  none_in_either false x y = refl

  -- a value that moves from the end of the first to the second
  moved_on : (b : Bool) (value : V) (x y : Option V) → or_else x (cond b (Some value) y) ≡ or_else (or_else x (cond b (Some value) None)) y
  moved_on true value None y = refl
  moved_on false value None y = refl
  moved_on b value (Some first) y = refl

  -- a value that was taken from the end and is put back
  put_back : (b : Bool) (value : V) (x y : Option V) → x ≡ cond b None y → cond b (Some value) x ≡ or_else x (cond b (Some value) None)
  put_back true value x y gone = ap (λ o. or_else o (Some value)) (sym gone)
  put_back false value None y gone = refl
  put_back false value (Some other) y gone = refl

module _ {K V : Type 0} where
  lookup-both : (test : K → Bool) (es fs : List (K × V)) → lookup test (es ++ fs) ≡ or_else (lookup test es) (lookup test fs)
  lookup-both test [] fs = refl
  lookup-both test (e ∷ es) fs = or_else_cond (test e.0) e.1 _ _ _ (lookup-both test es fs)

  lookup-alike : (test other : K → Bool) → ((key : K) → test key ≡ other key) → (es : List (K × V)) → lookup test es ≡ lookup other es
  lookup-alike test other same [] = refl
  lookup-alike test other same (e ∷ es) = λ i. cond (same e.0 i) (Some e.1) (lookup-alike test other same es i)

turned : {K : Type 0} (cmp : K → K → Ordering) → IsTotalOrder cmp → (key other : K) → is_at (cmp key) other ≡ is_at (cmp other) key
turned cmp total key other = (eq_by_cmp_equiv total).symm key other

module _ {K V : Type 0} (cmp : K → K → Ordering) (eq : K → K → Bool) (agrees : (x y : K) → eq x y ≡ is_at (cmp x) y) where
  by_order : (key : K) (es : List (K × V)) → lookup (eq key) es ≡ lookup (is_at (cmp key)) es
  by_order key es = lookup-alike (eq key) (is_at (cmp key)) (agrees key) es

  -- what is found by its hash stands first
  pub found-recent : (key : K) (value : V) (es fs : List (K × V)) → lookup (eq key) es ≡ Some value → lookup (is_at (cmp key)) (es ++ fs) ≡ Some value
  found-recent key value es fs found = lookup-both _ es fs ∙ ap (λ o. or_else o (lookup (is_at (cmp key)) fs)) (sym (by_order key es) ∙ found)

  pub found-sorted : (key : K) (es fs : List (K × V)) → lookup (eq key) es ≡ None → lookup (is_at (cmp key)) (es ++ fs) ≡ lookup (is_at (cmp key)) fs
  found-sorted key es fs absent = lookup-both _ es fs ∙ ap (λ o. or_else o (lookup (is_at (cmp key)) fs)) (sym (by_order key es) ∙ absent)

  altered : (key other : K) (w : Option V) (es fs : List (K × V)) → lookup (eq other) fs ≡ cond (eq key other) w (lookup (eq other) es)
      → lookup (is_at (cmp other)) fs ≡ cond (is_at (cmp key) other) w (lookup (is_at (cmp other)) es)
  altered key other w es fs update = sym (by_order other fs) ∙ update ∙ (λ i. cond (agrees key other i) w (by_order other es i))

  -- a value that is put where keys are found by their hashes
  pub alters-recent : (key : K) (value : V) (es fs gs : List (K × V)) → ((other : K) → lookup (eq other) fs ≡ cond (eq key other) (Some value) (lookup (eq other) es))
      → Alters cmp key (Some value) (es ++ gs) (fs ++ gs)
  alters-recent key value es fs gs updates other =
      lookup-both _ fs gs ∙ ap (λ o. or_else o (lookup (is_at (cmp other)) gs)) (altered key other (Some value) es fs (updates other))
      ∙ put_first (is_at (cmp key) other) value _ _ ∙ ap (cond (is_at (cmp key) other) (Some value)) (sym (lookup-both _ es gs))

  -- a key that is removed from both
  pub alters-both : (key : K) (es fs gs hs : List (K × V)) → ((other : K) → lookup (eq other) fs ≡ cond (eq key other) None (lookup (eq other) es))
      → Alters cmp key None gs hs → Alters cmp key None (es ++ gs) (fs ++ hs)
  alters-both key es fs gs hs updates gone other =
      lookup-both _ fs hs ∙ (λ i. or_else (altered key other None es fs (updates other) i) (gone other i))
      ∙ none_in_either (is_at (cmp key) other) _ _ ∙ ap (cond (is_at (cmp key) other) None) (sym (lookup-both _ es gs))

module _ {K V : Type 0} (cmp : K → K → Ordering) (total : IsTotalOrder cmp) where
  -- a value that is brought into order
  pub like-sorted : (key : K) (value : V) (all es fs gs : List (K × V)) → all ≡ es ++ (key, value) ∷ [] → Alters cmp key (Some value) fs gs
      → IsLike cmp (all ++ fs) (es ++ gs)
  like-sorted key value all es fs gs popped put other =
      let last = ap (λ o. or_else (lookup (is_at (cmp other)) es) o) (λ i. cond (turned cmp total key other i) (Some value) None) in
      lookup-both _ es gs ∙ ap (or_else (lookup (is_at (cmp other)) es)) (put other) ∙ moved_on (is_at (cmp key) other) value _ _
      ∙ ap (λ o. or_else o (lookup (is_at (cmp other)) fs)) (last ∙ sym (lookup-both _ es _) ∙ ap (lookup (is_at (cmp other))) (sym popped)) ∙ sym (lookup-both _ all fs)

  -- a value that there was no memory to bring into order
  pub like-put_back : (eq : K → K → Bool) (agrees : (x y : K) → eq x y ≡ is_at (cmp x) y) (key : K) (value : V) (all es fs gs : List (K × V))
      → all ≡ es ++ (key, value) ∷ [] → ((other : K) → lookup (eq other) es ≡ cond (eq key other) None (lookup (eq other) all))
      → ((other : K) → lookup (eq other) fs ≡ cond (eq key other) (Some value) (lookup (eq other) es)) → IsLike cmp (all ++ gs) (fs ++ gs)
  like-put_back eq agrees key value all es fs gs popped gone put other =
      let last = ap (λ o. or_else (lookup (is_at (cmp other)) es) o) (λ i. cond (turned cmp total key other i) (Some value) None) in
      lookup-both _ fs gs
      ∙ ap (λ o. or_else o (lookup (is_at (cmp other)) gs)) (altered cmp eq agrees key other (Some value) es fs (put other)
      ∙ put_back (is_at (cmp key) other) value _ _ (altered cmp eq agrees key other None all es (gone other))
      ∙ last ∙ sym (lookup-both _ es _) ∙ ap (lookup (is_at (cmp other))) (sym popped))
      ∙ sym (lookup-both _ all gs)
