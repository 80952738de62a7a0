-- A table of views is one of records after each change.
use Rattle.std.proofs.Common.{◌≡◌, ℕ, List, Result, Ok, Err, sym, subst}
use Rattle.std.specs.Prelude.{OnOk, OnErr}
use Rattle.std.specs.BTreeMap.{insert_entry, is_at}
use Rattle.std.specs.Map.{remove_entry}
use Rattle.std.specs.Ordering.{nat_cmp}
use Rattle.std.proofs.lemmas.Map.Views.{All-map-remove_entry, All-values-insert_entry}
use Rattle.jv_client_handles.specs.declared.views.View.{View}
use Rattle.jv_client_handles.specs.Views.{AreRecords, HasRecords}

pub records-kept : {X E : Type 0} (result : Result X E) (window : ℕ) (view : View) (old new : List (ℕ × View))
    → OnOk result (new ≡ insert_entry nat_cmp old window view) → OnErr result (new ≡ old) → AreRecords old
    → HasRecords view → AreRecords new
records-kept (Ok x) window view old new is same records has =
    let all : AreRecords (insert_entry nat_cmp old window view) = All-values-insert_entry nat_cmp window view
    HasRecords old records has in
    subst AreRecords (sym is) all
records-kept (Err e) window view old new is same records has = subst AreRecords (sym same) records

pub records-left : (window : ℕ) (old new : List (ℕ × View)) → new ≡ remove_entry (is_at (nat_cmp window)) old
    → AreRecords old
    → AreRecords new
records-left window old new is records =
    let all : AreRecords (remove_entry (is_at (nat_cmp window)) old) =
    All-map-remove_entry (is_at (nat_cmp window)) (λ (entry : ℕ × View). entry.1) HasRecords old records in
    subst AreRecords (sym is) all
