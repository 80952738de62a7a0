-- A handle whose views are dropped, or that is given one, stays open on its file.
use Rattle.std.proofs.Common.{◌≡◌, ℕ, ◌+◌, Bool, true, false, List, [], ◌∷◌, map, Option, None, Some, inl, inr, refl}
use Rattle.std.proofs.Common.{sym, ap, ◌∙◌}
use Rattle.std.specs.Prelude.{◌==◌, if◌then◌else◌, is_some}
use Rattle.std.proofs.lemmas.Bool.Decides.{eqb_tells}
use Rattle.jv_model.specs.promise.client.ModelClient.{file_of, open_count, with_file}
use Rattle.jv_client_handles.specs.declared.handle.Handle.{Handle}
use Rattle.jv_client_handles.specs.declared.views.View.{View}
use Rattle.jv_client_handles.specs.Views.{SeenViews, no_views, view_at, with_view}
use Rattle.jv_client_handles.specs.Handles.{held_here, inode_here, inode_of_handle, seen_by, unseen, unseen_by}
use Rattle.jv_client_handles.proofs.TableLaws.{file_of-changed, file_of-with_file, with_file-back}
use Rattle.jv_client_handles.proofs.SeenLaws.{without_view-with_view}

-- ---- one handle

pub unseen-own : (inode : ℕ) (handle : Handle) → inode ≡ handle.inode
    → unseen inode (Some handle) ≡ Some (record handle { views = no_views })
unseen-own inode handle own = elim (eqb_tells handle.inode inode) [
  | inl same ↦ ap (λ b. if b then Some (record handle { views = no_views }) else Some handle) same.0
  | inr other ↦ absurd (other.1 (sym own))
]

-- it stays open, on the same inode, since the same entry
pub unseen-open : (inode : ℕ) (handle : Handle)
    → (later : Handle) × (unseen inode (Some handle) ≡ Some later) × (later.inode ≡ handle.inode)
    × (later.opened ≡ handle.opened)
unseen-open inode handle = by_test (handle.inode == inode)
  where
    by_test : (b : Bool) → (later : Handle) × ((if b then Some (record handle { views = no_views }) else Some handle)
        ≡ Some later)
        × (later.inode ≡ handle.inode) × (later.opened ≡ handle.opened)
    by_test true = (record handle { views = no_views }, refl, refl, refl)
    by_test false = (handle, refl, refl, refl)

unseen-inode : (inode : ℕ) (o : Option Handle) → inode_of_handle (unseen inode o) ≡ inode_of_handle o
unseen-inode inode None = refl
unseen-inode inode (Some handle) = by_test (handle.inode == inode)
  where
    by_test : (b : Bool) → inode_of_handle (if b then Some (record handle { views = no_views }) else Some handle)
        ≡ handle.inode
    by_test true = refl
    by_test false = refl

unseen-some : (inode : ℕ) (o : Option Handle) → is_some (unseen inode o) ≡ is_some o
unseen-some inode None = refl
unseen-some inode (Some handle) = by_test (handle.inode == inode)
  where
    by_test : (b : Bool) → is_some (if b then Some (record handle { views = no_views }) else Some handle) ≡ true
    by_test true = refl
    by_test false = refl

-- ---- all handles

module _ (inode : ℕ) where
  pub file_of-unseen : (handles : List (Option Handle)) (number : ℕ)
      → file_of (map (unseen inode) handles) number ≡ unseen inode (file_of handles number)
  file_of-unseen handles number = file_of-changed (unseen inode) refl handles number

  pub inode_here-unseen : (handles : List (Option Handle)) (number : ℕ)
      → inode_here (map (unseen inode) handles) number ≡ inode_here handles number
  inode_here-unseen handles number =
      ap inode_of_handle (file_of-unseen handles number) ∙ unseen-inode inode (file_of handles number)

  pub some-unseen : (handles : List (Option Handle)) (number : ℕ)
      → is_some (file_of (map (unseen inode) handles) number) ≡ is_some (file_of handles number)
  some-unseen handles number = ap is_some (file_of-unseen handles number) ∙ unseen-some inode (file_of handles number)

  pub held-unseen : (handles : List (Option Handle)) → held_here (map (unseen inode) handles) ≡ held_here handles
  held-unseen [] = refl
  held-unseen (None ∷ handles) = held-unseen handles
  held-unseen (Some handle ∷ handles) = by_test (handle.inode == inode) (held-unseen handles)
    where
      by_test : (b : Bool) → held_here (map (unseen inode) handles) ≡ held_here handles
          → held_here ((if b then Some (record handle { views = no_views }) else Some handle) ∷ map (unseen inode)
          handles)
          ≡ handle.inode ∷ held_here handles
      by_test true later = ap (λ inodes. handle.inode ∷ inodes) later
      by_test false later = ap (λ inodes. handle.inode ∷ inodes) later

  pub count-unseen : (handles : List (Option Handle)) → open_count (map (unseen inode) handles) ≡ open_count handles
  count-unseen [] = refl
  count-unseen (None ∷ handles) = count-unseen handles
  count-unseen (Some handle ∷ handles) = by_test (handle.inode == inode) (count-unseen handles)
    where
      by_test : (b : Bool) → open_count (map (unseen inode) handles) ≡ open_count handles
          → open_count ((if b then Some (record handle { views = no_views }) else Some handle) ∷ map (unseen inode)
          handles)
          ≡ 1 + open_count handles
      by_test true later = ap (λ n. 1 + n) later
      by_test false later = ap (λ n. 1 + n) later

-- ---- a view that is dropped again

-- A look at a window that its handle had no view of, when it is undone, leaves the table as it was.
pub unseen_by-seen_by : (window : ℕ) (view : View) (handles : List (Option Handle)) (number : ℕ) (handle : Handle)
    → file_of handles number ≡ Some handle → view_at handle.views window ≡ None → (looked : List (Option Handle))
    → looked ≡ with_file number (seen_by window view (file_of handles number)) handles
    → with_file number (unseen_by window (file_of looked number)) looked ≡ handles
unseen_by-seen_by window view handles number handle there none looked is =
    let later : Handle = record handle { views = with_view window view handle.views } in
    let given : looked ≡ with_file number (Some later) handles =
    is ∙ ap (λ (o : Option Handle). with_file number (seen_by window view o) handles) there in
    let stands : file_of looked number ≡ Some later =
    ap (λ (files : List (Option Handle)). file_of files number) given
    ∙ file_of-with_file handles number handle (Some later) there in
    let dropped : unseen_by window (Some later) ≡ Some handle =
    ap (λ (views : SeenViews). Some (record handle { views = views }))
    (without_view-with_view window view handle.views none) in
    ap (λ (o : Option Handle). with_file number (unseen_by window o) looked) stands
    ∙ ap (λ (o : Option Handle). with_file number o looked) dropped
    ∙ ap (λ (files : List (Option Handle)). with_file number (Some handle) files) given
    ∙ with_file-back handles number handle later there
