-- Rows stay those of their tree when a session or a sustained file comes or goes, and when a row changes that the tree doesn't
-- have.
use Rattle.std.proofs.Common.{◌≡◌, ℕ, ◌<◌, ◌^◌, true, false, inl, inr, Option, None, Some, Ok, refl, sym, ap, subst, ◌∙◌}
use Rattle.std.specs.Prelude.{IsTrue}
use Rattle.std.proofs.lemmas.Bool.{cases_eq}
use Rattle.jv_model.specs.declared.row.RowKey.{RowKey}
use Rattle.jv_model.specs.declared.row.Session.{Session}
use Rattle.jv_model.specs.declared.row.Row.TheVariants.{OfSession, OfSustained}
use Rattle.jv_model.specs.promise.FiniteMap.{get, insert, remove}
use Rattle.jv_model.specs.FiniteMap.{alter}
use Rattle.jv_model.specs.promise.rows.RowKeys.{row_key}
use Rattle.jv_model.specs.promise.rows.RowPlaces.{setting_key, counters_key, node_key, edge_key, session_key, sustained_key}
use Rattle.jv_model.specs.promise.tree.Tree.{Tree}
use Rattle.jv_volume.specs.promise.TypedRows.{Cell, Rows}
use Rattle.jv_volume.specs.promise.TreeOf.{tree_of}
use Rattle.jv_volume.specs.promise.Stored.{Stored}
use Rattle.jv_volume.proofs.shapes.ShapeMapLaws.{same_or_apart, tied_apart}
use Rattle.jv_volume.proofs.maps.MapLaws.{get-alter-here}
use Rattle.jv_volume.proofs.stored.StoredStepLaws.{NodeKept, EdgeKept, CellGoes, CellKept, CellPut, CellGone, IsSustainedCell, stored-goes, alter_kept}
use Rattle.jv_volume.proofs.stored.StoringLaws.{IsSessionCell}
use Rattle.jv_volume.proofs.stored.TreeOfLaws.{session_in_cell, pair_in_cell, is_unseen, unseen, tree_of-unseen, tree_of-alter-session, tree_of-alter-sustained}

-- a cell that is put, or none, where rows of this kind may stand
cell_goes : (rows : Rows) (q : RowKey) (cell : Option Cell) (Is : Cell → Type 0) → ((x : Cell) → cell ≡ Some x → Is x) → CellGoes rows (alter rows q cell) q Is
cell_goes rows q None Is h = CellGone (get-alter-here row_key rows q None)
cell_goes rows q (Some x) Is h = CellPut x (get-alter-here row_key rows q (Some x)) (h x refl)

-- ---- a session

session_goes : (rows : Rows) (sid : ℕ) (cell : Option Cell) → ((x : Cell) → cell ≡ Some x → IsSessionCell x) → (k : ℕ)
    → CellGoes rows (alter rows (session_key sid) cell) (session_key k) IsSessionCell
session_goes rows sid cell h k = elim (cases_eq k sid) [
  | inl same ↦ subst (λ i. CellGoes rows (alter rows (session_key sid) cell) (session_key i) IsSessionCell) (sym same)
      (cell_goes rows (session_key sid) cell IsSessionCell h)
  | inr apart ↦ CellKept (alter_kept rows (session_key sid) cell (session_key k)
      (tied_apart row_key (session_key sid) (session_key k) (λ same. apart (ap (λ (q : RowKey). q.a) same))))
]

pub stored-alter_session : (bytes : ℕ → ℕ → ℕ) (rows : Rows) (sid : ℕ) (cell : Option Cell) → Stored rows (tree_of bytes rows)
    → ((x : Cell) → cell ≡ Some x → IsSessionCell x)
    → Stored (alter rows (session_key sid) cell) (tree_of bytes (alter rows (session_key sid) cell))
stored-alter_session bytes rows sid cell s h =
    let t = tree_of bytes rows in
    let u : Tree = record t { sessions = alter t.sessions sid (session_in_cell cell) } in
    let q = session_key sid in
    stored-goes bytes rows (alter rows q cell) u s.slice s (record {
      tree = tree_of-alter-session bytes rows sid cell;
      setting = alter_kept rows q cell setting_key refl;
      same_setting = refl;
      counters = alter_kept rows q cell counters_key refl ∙ s.counters;
      node = λ k. NodeKept (alter_kept rows q cell (node_key k) refl) refl;
      edge = λ at. EdgeKept (alter_kept rows q cell (edge_key at.dir at.name) refl) (λ i e. refl);
      session = session_goes rows sid cell h;
      sustained = λ k i less. CellKept (alter_kept rows q cell (sustained_key k i) refl);
    })

pub stored-put_session : (bytes : ℕ → ℕ → ℕ) (rows : Rows) (sid : ℕ) (session : Session) → Stored rows (tree_of bytes rows)
    → Stored (insert rows (session_key sid) (Ok (OfSession session))) (tree_of bytes (insert rows (session_key sid) (Ok (OfSession session))))
stored-put_session bytes rows sid session s = stored-alter_session bytes rows sid (Some (Ok (OfSession session))) s
    (λ x e. record { session = session; is = cc })

pub stored-drop_session : (bytes : ℕ → ℕ → ℕ) (rows : Rows) (sid : ℕ) → Stored rows (tree_of bytes rows)
    → Stored (remove rows (session_key sid)) (tree_of bytes (remove rows (session_key sid)))
stored-drop_session bytes rows sid s = stored-alter_session bytes rows sid None s (λ x e. absurd (cc))

-- ---- a sustained file

sustained_goes : (rows : Rows) (sid inode : ℕ) (cell : Option Cell) → inode < 2 ^ 64 → ((x : Cell) → cell ≡ Some x → IsSustainedCell x)
    → (k i : ℕ) → i < 2 ^ 64 → CellGoes rows (alter rows (sustained_key sid inode) cell) (sustained_key k i) IsSustainedCell
sustained_goes rows sid inode cell small h k i less = elim (same_or_apart row_key (sustained_key k i) (sustained_key sid inode)) [
  | inl same ↦ subst (λ q. CellGoes rows (alter rows (sustained_key sid inode) cell) q IsSustainedCell) (sym same)
      (cell_goes rows (sustained_key sid inode) cell IsSustainedCell h)
  | inr apart ↦ CellKept (alter_kept rows (sustained_key sid inode) cell (sustained_key k i)
      (tied_apart row_key (sustained_key sid inode) (sustained_key k i) apart))
]

pub stored-alter_sustained : (bytes : ℕ → ℕ → ℕ) (rows : Rows) (sid inode : ℕ) (cell : Option Cell) → inode < 2 ^ 64 → Stored rows (tree_of bytes rows)
    → ((x : Cell) → cell ≡ Some x → IsSustainedCell x)
    → Stored (alter rows (sustained_key sid inode) cell) (tree_of bytes (alter rows (sustained_key sid inode) cell))
stored-alter_sustained bytes rows sid inode cell small s h =
    let t = tree_of bytes rows in
    let u : Tree = record t { sustained = alter t.sustained (record { sid = sid; inode = inode }) (pair_in_cell cell) } in
    let q = sustained_key sid inode in
    stored-goes bytes rows (alter rows q cell) u s.slice s (record {
      tree = tree_of-alter-sustained bytes rows sid inode cell small;
      setting = alter_kept rows q cell setting_key refl;
      same_setting = refl;
      counters = alter_kept rows q cell counters_key refl ∙ s.counters;
      node = λ k. NodeKept (alter_kept rows q cell (node_key k) refl) refl;
      edge = λ at. EdgeKept (alter_kept rows q cell (edge_key at.dir at.name) refl) (λ i e. refl);
      session = λ k. CellKept (alter_kept rows q cell (session_key k) refl);
      sustained = sustained_goes rows sid inode cell small h;
    })

pub stored-put_sustained : (bytes : ℕ → ℕ → ℕ) (rows : Rows) (sid inode : ℕ) → inode < 2 ^ 64 → Stored rows (tree_of bytes rows)
    → Stored (insert rows (sustained_key sid inode) (Ok OfSustained)) (tree_of bytes (insert rows (sustained_key sid inode) (Ok OfSustained)))
stored-put_sustained bytes rows sid inode small s = stored-alter_sustained bytes rows sid inode (Some (Ok OfSustained)) small s (λ x e. cc)

pub stored-drop_sustained : (bytes : ℕ → ℕ → ℕ) (rows : Rows) (sid inode : ℕ) → inode < 2 ^ 64 → Stored rows (tree_of bytes rows)
    → Stored (remove rows (sustained_key sid inode)) (tree_of bytes (remove rows (sustained_key sid inode)))
stored-drop_sustained bytes rows sid inode small s = stored-alter_sustained bytes rows sid inode None small s (λ x e. absurd (cc))

-- ---- a row that the tree doesn't have

pub stored-unseen : (bytes : ℕ → ℕ → ℕ) (rows : Rows) (q : RowKey) (cell : Option Cell) → IsTrue (is_unseen q.tab) → Stored rows (tree_of bytes rows)
    → Stored (alter rows q cell) (tree_of bytes (alter rows q cell))
stored-unseen bytes rows q cell is s =
    let t = tree_of bytes rows in
    let other : (k : RowKey) → is_unseen k.tab ≡ false → get (alter rows q cell) k
    ≡ get rows k = (λ k seen. alter_kept rows q cell k (tied_apart row_key q k (λ same. apart_by k same seen))) in
    stored-goes bytes rows (alter rows q cell) t s.slice s (record {
      tree = tree_of-unseen rows q cell bytes (unseen q is);
      setting = other setting_key refl;
      same_setting = refl;
      counters = other counters_key refl ∙ s.counters;
      node = λ k. NodeKept (other (node_key k) refl) refl;
      edge = λ at. EdgeKept (other (edge_key at.dir at.name) refl) (λ i e. refl);
      session = λ k. CellKept (other (session_key k) refl);
      sustained = λ k i less. CellKept (other (sustained_key k i) refl);
    })
  where
    apart_by : (k : RowKey) → k ≡ q → is_unseen k.tab ≡ false → ⊥
    apart_by k same seen = (let both : is_unseen k.tab ≡ true = ap (λ (x : RowKey). is_unseen x.tab) same ∙ is in absurd (cc))
