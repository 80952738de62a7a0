-- What stands at a key, as a reader sees it: the views of rows by it, and that a stored row is never malformed.
use Rattle.std.proofs.Common.{◌≡◌, ℕ, ◌<◌, ◌^◌, Bool, true, false, List, inl, inr, Option, None, Some, Ok, Err, refl, sym, ap, subst, ◌∙◌}
use Rattle.std.specs.Prelude.{if◌then◌else◌}
use Rattle.std.specs.Option.{option_map}
use Rattle.jv_model.specs.declared.row.RowKey.{RowKey}
use Rattle.jv_model.specs.declared.row.Counters.{Counters}
use Rattle.jv_model.specs.declared.row.Node.{Node as NodeRow}
use Rattle.jv_model.specs.declared.row.Edge.{Edge}
use Rattle.jv_model.specs.declared.row.Session.{Session}
use Rattle.jv_model.specs.declared.row.Row.TheVariants.{OfSustained}
use Rattle.jv_model.specs.promise.FiniteMap.{get}
use Rattle.jv_model.specs.FiniteMap.{alter}
use Rattle.jv_model.specs.promise.rows.RowKeys.{row_key}
use Rattle.jv_model.specs.promise.rows.RowPlaces.{setting_key, counters_key, node_key, edge_key, session_key, sustained_key}
use Rattle.jv_model.specs.promise.tree.Tree.{Tree, EntryKey}
use Rattle.jv_volume.specs.promise.TypedRows.{Cell, Rows}
use Rattle.jv_volume.specs.promise.Views.{row_in, counters_in, counters_at, node_in, node_row_at, session_in}
use Rattle.jv_volume.specs.Views.{edge_at, session_at, sustained_at}
use Rattle.jv_volume.specs.promise.Stored.{Stored}
use Rattle.jv_volume.specs.promise.Whole.{IsRowAt}
use Rattle.jv_volume.proofs.shapes.ShapeMapLaws.{same_or_apart}
use Rattle.jv_volume.proofs.maps.MapLaws.{get-alter-here, get-alter-apart}
use Rattle.jv_volume.proofs.stored.StoredLaws.{of_node, of_edge, of_session, node_stands, edge_stands, session_stands, sustained_stands, of_counters}
use Rattle.std.proofs.lemmas.Option.{same_Some}

-- ---- views by what stands at a key

pub node-seen : (rows : Rows) (inode : ℕ) (found : Option NodeRow) → get rows (node_key inode) ≡ option_map of_node found → node_row_at rows inode ≡ found
node-seen rows inode found e = ap (λ c. node_in (row_in c)) e ∙ back found
  where
    back : (o : Option NodeRow) → node_in (row_in (option_map of_node o)) ≡ o
    back None = refl
    back (Some row) = refl

pub session-seen : (rows : Rows) (sid : ℕ) (found : Option Session) → get rows (session_key sid) ≡ option_map of_session found → session_at rows sid ≡ found
session-seen rows sid found e = ap (λ c. session_in (row_in c)) e ∙ back found
  where
    back : (o : Option Session) → session_in (row_in (option_map of_session o)) ≡ o
    back None = refl
    back (Some session) = refl

pub counters-seen : (rows : Rows) (found : Option Counters) → get rows counters_key ≡ option_map of_counters found → counters_at rows ≡ found
counters-seen rows found e = ap (λ c. counters_in (row_in c)) e ∙ back found
  where
    back : (o : Option Counters) → counters_in (row_in (option_map of_counters o)) ≡ o
    back None = refl
    back (Some counters) = refl

-- ---- a stored row is never malformed

module _ (rows : Rows) (t : Tree) (s : Stored rows t) (bytes : List ℕ) where
  pub node-well : (inode : ℕ) → get rows (node_key inode) ≡ Some (Err bytes) → ⊥
  node-well inode e = by_row (node_row_at rows inode) (sym e ∙ node_stands rows t s inode)
    where
      by_row : (o : Option NodeRow) → Some (Err bytes) ≡ option_map of_node o → ⊥
      by_row None h = absurd (cc)
      by_row (Some row) h = absurd (cc)

  pub edge-well : (at : EntryKey) → get rows (edge_key at.dir at.name) ≡ Some (Err bytes) → ⊥
  edge-well at e = by_row (edge_at rows at.dir at.name) (sym e ∙ edge_stands rows t s at)
    where
      by_row : (o : Option Edge) → Some (Err bytes) ≡ option_map of_edge o → ⊥
      by_row None h = absurd (cc)
      by_row (Some edge) h = absurd (cc)

  pub session-well : (sid : ℕ) → get rows (session_key sid) ≡ Some (Err bytes) → ⊥
  session-well sid e = by_row (session_at rows sid) (sym e ∙ session_stands rows t s sid)
    where
      by_row : (o : Option Session) → Some (Err bytes) ≡ option_map of_session o → ⊥
      by_row None h = absurd (cc)
      by_row (Some session) h = absurd (cc)

  pub sustained-well : (sid inode : ℕ) → inode < 2 ^ 64 → get rows (sustained_key sid inode) ≡ Some (Err bytes) → ⊥
  sustained-well sid inode small e = by_row (sustained_at rows sid inode) (sym e ∙ sustained_stands rows t s sid inode small)
    where
      by_row : (b : Bool) → Some (Err bytes) ≡ (let o : Option Cell = (if b then Some (Ok OfSustained) else None) in o) → ⊥
      by_row true h = absurd (cc)
      by_row false h = absurd (cc)

  pub counters-well : get rows counters_key ≡ Some (Err bytes) → ⊥
  counters-well e = (let both = sym e ∙ s.counters in absurd (cc))

  pub setting-well : get rows setting_key ≡ Some (Err bytes) → ⊥
  setting-well e = (let both = sym e ∙ s.setting in absurd (cc))

-- ---- every cell a row of its table

abbrev pub AreRows : Rows → Type 0
AreRows rows = (key : RowKey) (cell : Cell) → get rows key ≡ Some cell → IsRowAt key cell

-- a row that is put
pub row-put : (q : RowKey) (row x : Cell) → IsRowAt q row → Some row ≡ Some x → IsRowAt q x
row-put q row x is e = subst (IsRowAt q) (same_Some row x e) is

-- one more row, or one less
pub rows-alter : (rows : Rows) (q : RowKey) (cell : Option Cell) → AreRows rows → ((x : Cell) → cell ≡ Some x → IsRowAt q x) → AreRows (alter rows q cell)
rows-alter rows q cell all new key x e = elim (same_or_apart row_key key q) [
  | inl same ↦ subst (λ k. IsRowAt k x) (sym same) (new x (sym (get-alter-here row_key rows q cell) ∙ ap (get (alter rows q cell)) (sym same) ∙ e))
  | inr apart ↦ all key x (sym (get-alter-apart row_key rows q cell key apart) ∙ e)
]
