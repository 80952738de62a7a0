-- What is read of any table is spelled so.
use Rattle.std.proofs.Common.{◌≡◌, ℕ, Bool, true, false, cond, List, Option, Some, None, Result, Ok, Err, refl, sym, ap, subst, ◌∙◌}
use Rattle.std.specs.Prelude.{IfOk, IsTrue}
use Rattle.std.specs.Option.{option_map}
use Rattle.jv_model.specs.declared.row.Row.{Row}
use Rattle.jv_model.specs.declared.row.Row.TheVariants.{OfSetting, OfCounters, OfNode, OfEdge, OfList, OfSlice, OfSession, OfSustained, OfDropped, OfDead}
use Rattle.jv_model.specs.promise.rows.RowGrammar.{row_of, row_bytes}
use Rattle.jv_model.specs.rows.RowGrammar.{is_row}
use Rattle.jv_rows.specs.declared.misread.Misread.{Misread}
use Rattle.jv_rows.specs.Reads.{ReadsAs, IsSpelled}
use Rattle.jv_model.specs.Lists.{AreBytes}
use Rattle.jv_rows.specs.RoundTrips.{IsExact}
use Rattle.jv_rows.proofs.grammars.ExactRowLaws.{setting_exact, counters_exact, node_exact, edge_exact, slice_exact, session_exact, sustained_exact, dropped_exact, dead_exact}
use Rattle.jv_rows.proofs.grammars.ExactListLaws.{list_exact}

-- where a row was read, it is allowed and the bytes are its spelling
abbrev Spells : List ℕ → Option Row → Type 0
Spells bytes read = (row : Row) → read ≡ Some row → IsTrue (is_row row) × (bytes ≡ row_bytes row)

either : (bytes : List ℕ) (b : Bool) (x y : Option Row) → Spells bytes x → Spells bytes y → Spells bytes (cond b x y)
either bytes true x y p q = p
either bytes false x y p q = q

no_table : (bytes : List ℕ) → Spells bytes None
no_table bytes row e = absurd cc

abbrev made : Row → Option Row
made x = Some x

some_row : (x y : Row) → made x ≡ made y → x ≡ y
some_row x y e = cc

of_table_at : {A : Type 0} (make : A → Row) (bytes : List ℕ) (read : Option A) → ((x : A) → read ≡ Some x → IsTrue (is_row (make x)) × (bytes ≡ row_bytes (make x))) → Spells bytes (option_map make read)
of_table_at make bytes None h row e = absurd cc
of_table_at make bytes (Some x) h row e = subst (λ (r : Row). IsTrue (is_row r) × (bytes ≡ row_bytes r)) (some_row (make x) row e) (h x refl)

-- what one table's grammar reads
of_table : {A : Type 0} {HasWidths : A → Type 0} {is_allowed : A → Bool} {spelled : A → List ℕ} {read : List ℕ → Option A} (make : A → Row) → IsExact HasWidths is_allowed spelled read
    → ((x : A) → is_allowed x ≡ is_row (make x)) → ((x : A) → spelled x ≡ row_bytes (make x)) → (bytes : List ℕ) → AreBytes bytes → Spells bytes (option_map make (read bytes))
of_table {read = read} make exact allowed spelling bytes h =
    of_table_at make bytes (read bytes) (λ x e. (subst IsTrue (allowed x) (exact.allowed bytes x h e), exact.same bytes x h e ∙ spelling x))

row_spells : (tab : ℕ) (bytes : List ℕ) → AreBytes bytes → Spells bytes (row_of tab bytes)
unfolding row_of
row_spells tab bytes h =
    either bytes _ _ _ (of_table OfSetting setting_exact (λ x. refl) (λ x. refl) bytes h)
    (either bytes _ _ _ (of_table OfCounters counters_exact (λ x. refl) (λ x. refl) bytes h)
    (either bytes _ _ _ (of_table OfNode node_exact (λ x. refl) (λ x. refl) bytes h)
    (either bytes _ _ _ (of_table OfEdge edge_exact (λ x. refl) (λ x. refl) bytes h)
    (either bytes _ _ _ (of_table OfList list_exact (λ x. refl) (λ x. refl) bytes h)
    (either bytes _ _ _ (of_table OfSlice slice_exact (λ x. refl) (λ x. refl) bytes h)
    (either bytes _ _ _ (of_table OfSession session_exact (λ x. refl) (λ x. refl) bytes h)
    (either bytes _ _ _ (of_table (λ _. OfSustained) sustained_exact (λ x. refl) (λ x. refl) bytes h)
    (either bytes _ _ _ (of_table OfDropped dropped_exact (λ x. refl) (λ x. refl) bytes h)
    (either bytes _ _ _ (of_table OfDead dead_exact (λ x. refl) (λ x. refl) bytes h)
    (no_table bytes))))))))))

pub row_sound : (tab : ℕ) (bytes : List ℕ) (r : Result Row Misread) → AreBytes bytes → ReadsAs r (row_of tab bytes) → IfOk r (IsSpelled (row_of tab) row_bytes is_row bytes)
row_sound tab bytes (Ok row) h g =
    let s = row_spells tab bytes h row g in
    record { allowed = s.0; same = s.1; again = ap (row_of tab) (sym s.1) ∙ g }
row_sound tab bytes (Err e) h g = tt
