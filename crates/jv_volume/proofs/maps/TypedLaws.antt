-- Rows by their types, key by key: what stands at a key, and what a put or a delete does.
use Rattle.std.proofs.Common.{◌≡◌, ℕ, Bool, true, false, cond, List, Option, Some, Ok, ok_or, option_map, refl, sym, ap, ◌∙◌}
use Rattle.std.specs.Ordering.{eq_by_cmp}
use Rattle.jv_model.specs.declared.row.RowKey.{RowKey}
use Rattle.jv_model.specs.declared.row.Row.{Row}
use Rattle.jv_model.specs.promise.FiniteMap.{get, insert}
use Rattle.jv_model.specs.FiniteMap.{alter}
use Rattle.jv_model.specs.promise.rows.RowGrammar.{row_of}
use Rattle.jv_model.specs.promise.rows.RowKeys.{row_key, row_cmp, RowMap}
use Rattle.jv_model.proofs.FiniteMapLaws.{get-alter, get-map_of, same_maps}
use Rattle.jv_volume.specs.promise.TypedRows.{cell_of, typed_entries, typed}
use Rattle.jv_volume.proofs.maps.MapLaws.{find-map}
use Rattle.jv_volume.proofs.shapes.ShapeMapLaws.{tied_same}

-- what stands at a key is what its bytes spell there
pub get-typed : (rows : RowMap) (key : RowKey) → get (typed rows) key ≡ option_map (cell_of key) (get rows key)
unfolding typed get
get-typed rows key = get-map_of row_key (typed_entries rows.list) key ∙ find-map row_key cell_of key rows.list

typed-alter_at : (key : RowKey) (bytes : Option (List ℕ)) (q : RowKey) (o : Option (List ℕ)) → (b : Bool) → eq_by_cmp row_cmp q key ≡ b
    → option_map (cell_of q) (cond b bytes o) ≡ cond b (option_map (cell_of key) bytes) (option_map (cell_of q) o)
typed-alter_at key bytes q o true e = ap (λ k. option_map (cell_of k) bytes) (tied_same row_key key q e)
typed-alter_at key bytes q o false e = refl

-- a put or a delete of bytes is one of what they spell
pub typed-alter : (rows : RowMap) (key : RowKey) (bytes : Option (List ℕ))
    → typed (alter rows key bytes) ≡ alter (typed rows) key (option_map (cell_of key) bytes)
typed-alter rows key bytes =
    same_maps (typed (alter rows key bytes)) (alter (typed rows) key (option_map (cell_of key) bytes)) (λ q.
    get-typed (alter rows key bytes) q ∙ ap (option_map (cell_of q)) (get-alter rows key bytes q)
    ∙ typed-alter_at key bytes q (get rows q) (eq_by_cmp row_cmp q key) refl
    ∙ ap (cond (eq_by_cmp row_cmp q key) (option_map (cell_of key) bytes)) (sym (get-typed rows q))
    ∙ sym (get-alter (typed rows) key (option_map (cell_of key) bytes) q))

pub typed-insert : (rows : RowMap) (key : RowKey) (bytes : List ℕ) → typed (insert rows key bytes) ≡ insert (typed rows) key (cell_of key bytes)
typed-insert rows key bytes = typed-alter rows key (Some bytes)

-- the bytes of a row put at its key
pub typed-insert-row : (rows : RowMap) (key : RowKey) (bytes : List ℕ) (row : Row) → row_of key.tab bytes ≡ Some row
    → typed (insert rows key bytes) ≡ insert (typed rows) key (Ok row)
typed-insert-row rows key bytes row is = typed-insert rows key bytes ∙ ap (λ o. insert (typed rows) key (ok_or o bytes)) is
