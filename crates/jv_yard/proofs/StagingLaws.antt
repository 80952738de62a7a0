-- The blocks that clients have staged, as finite maps.
use Rattle.std.proofs.Common.{◌≡◌, ◌↔◌, ℕ, List, length, Option, None, Some, is_some, unwrap_or, IsTrue, slice_get, refl, sym, ap, ◌∙◌}
use Rattle.std.specs.List.Sorted.{IsStrictlySortedBy}
use Rattle.std.specs.Map.{keys_of, lookup}
use Rattle.std.specs.BTreeMap.{is_at}
use Rattle.jv_model.specs.declared.setting.Setting.{Setting}
use Rattle.jv_model.specs.declared.slice.BlockId.{BlockId}
use Rattle.jv_model.specs.promise.blocks.BlockNames.{IsBlockName}
use Rattle.jv_model.specs.promise.FiniteMap.{text_key, empty_map, get, key_count, map_of}
use Rattle.jv_model.proofs.FiniteMapLaws.{get-empty_map}
use Rattle.jv_outside.proofs.StoredLaws.{get-lookup}
use Rattle.jv_outside.proofs.ScanLaws.{list-map_of}
use Rattle.jv_yard.specs.promise.Staging.{ClientStaging, staged_since}
use Rattle.jv_yard.specs.Staging.{by_client}
use Rattle.jv_yard.specs.promise.YardValue.{NamesBlock}

-- a tree has as many entries as the map
pub count-entries : (es : List (List ℕ × ℕ)) → IsStrictlySortedBy text_key.cmp (keys_of es) → length es ≡ key_count (map_of {order = text_key} es)
unfolding key_count
count-entries es h = ap length (sym (list-map_of text_key es h))

-- what a tree finds at a name
pub has-entries : (name : List ℕ) (es : List (List ℕ × ℕ)) → is_some (lookup (is_at (text_key.cmp name)) es) ≡ is_some (get (map_of {order = text_key} es) name)
has-entries name es = ap is_some (sym (get-lookup text_key name es))

pub count-empty : key_count {K = List ℕ} {X = ℕ} {order = text_key} empty_map ≡ 0
unfolding key_count
count-empty = refl

-- a client that isn't there has nothing staged
pub staged-no_client : (clients : List ClientStaging) (client : ℕ) (name : List ℕ) → slice_get clients client ≡ None → staged_since client name (by_client clients) ≡ None
staged-no_client clients client name h = ap (λ found. get (unwrap_or found (empty_map {order = text_key})) name) h ∙ get-empty_map text_key name

-- a reader of names finds a block if and only if the name is one's
pub named_exactly : (setting : Setting) (name : List ℕ) (found : Option BlockId) → ((block : BlockId) → (found ≡ Some block) ↔ IsBlockName setting block name) → IsTrue (is_some found) ↔ NamesBlock setting name
named_exactly setting name None h =
    ((λ some. absurd (cc)), (λ named. let found : None ≡ Some named.block = (h named.block).1 named.is in absurd (cc)))
named_exactly setting name (Some block) h = ((λ some. record { block = block; is = (h block).0 refl }), (λ named. refl))
