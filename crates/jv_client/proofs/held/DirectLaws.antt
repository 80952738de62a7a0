-- What holds of a client while its blocks go to the depot at once stays while others go on, as handles are opened and closed,
-- as they look at windows, and as files change.
use Rattle.std.proofs.Common.{◌≡◌, ℕ, zero, suc, ◌-◌, Bool, true, false, inl, inr, List, [], ◌∷◌, ◌++◌, length, map}
use Rattle.std.proofs.Common.{slice_get, slice_set, Option, None, Some, refl, sym, subst}
use Rattle.std.specs.Prelude.{◌==◌, nat_le, if◌then◌else◌, IfSome}
use Rattle.std.specs.List.{AllByRecursion}
use Rattle.std.proofs.lemmas.Bool.{cases_eq}
use Rattle.jv_model.specs.declared.setting.Setting.{Setting}
use Rattle.jv_model.specs.promise.client.ModelClient.{file_in, file_of, with_file}
use Rattle.jv_volume_bytes.specs.promise.Blocks.{Blocks, Grows}
use Rattle.jv_volume_bytes.specs.Flights.{Flight}
use Rattle.jv_client_shared.specs.Direct.{HasNamed, HasPut}
use Rattle.jv_client_shared.specs.promise.Shared.{Shared, depot_in}
use Rattle.jv_client_shared.proofs.DirectLaws.{has_named-grows, has_put-stays}
use Rattle.jv_client_handles.specs.declared.handle.Handle.{Handle}
use Rattle.jv_client_handles.specs.declared.views.View.{View}
use Rattle.jv_client_handles.specs.Handles.{new_handle, seen_by, unseen}
use Rattle.jv_client_handles.specs.Views.{no_views, view_at, with_view}
use Rattle.jv_client_handles.proofs.SeenLaws.{view_at-other, view_at-own}
use Rattle.jv_client_handles.proofs.TableLaws.{open_at}
use Rattle.jv_client.specs.Direct.{GoesDirect, HasSeen}

-- ---- what views of handles name

module _ (block : ℕ) (depot : Blocks) where
  abbrev HasPlace : Option Handle → Type 0
  HasPlace place = IfSome place (HasSeen block depot)

  abbrev HasAll : List (Option Handle) → Type 0
  HasAll handles = AllByRecursion HasPlace handles

  has-place : (handles : List (Option Handle)) (k : ℕ) (handle : Handle) → file_in (slice_get handles k) ≡ Some handle
      → HasAll handles → HasSeen block depot handle
  has-place [] k handle e has = absurd (cc e)
  has-place (place ∷ handles) zero handle e has = subst HasPlace e has.0
  has-place (place ∷ handles) (suc k) handle e has = has-place handles k handle e has.1

  -- that of a handle that is open
  pub has-open : (handles : List (Option Handle)) (number : ℕ) (handle : Handle) → file_of handles number ≡ Some handle
      → AllByRecursion (λ place. IfSome place (HasSeen block depot)) handles → HasSeen block depot handle
  has-open handles number handle e has = let at = open_at handles number handle e in has-place handles at.place handle at.is has

  -- a view that a handle keeps
  pub has-view : (handle : Handle) (window : ℕ) (view : View) → view_at handle.views window ≡ Some view
      → HasSeen block depot handle → HasNamed block depot view.list
  has-view handle window view is has = subst (λ o. IfSome o (λ (view : View). HasNamed block depot view.list)) is (has window)

  -- ---- one place changes

  module _ (new : Option Handle) (own : IfSome new (HasSeen block depot)) where
    has-set : (handles : List (Option Handle)) (k : ℕ) → HasAll handles → HasAll (slice_set handles k new)
    has-set [] k has = tt
    has-set (place ∷ handles) zero has = (own, has.1)
    has-set (place ∷ handles) (suc k) has = (has.0, has-set handles k has.1)

    has-longer : (handles : List (Option Handle)) → HasAll handles → HasAll (handles ++ new ∷ [])
    has-longer [] has = (own, tt)
    has-longer (place ∷ handles) has = (has.0, has-longer handles has.1)

    has-by : (inside : Bool) (k : ℕ) (handles : List (Option Handle)) → HasAll handles
        → HasAll (if inside then slice_set handles k new else handles ++ new ∷ [])
    has-by true k handles has = has-set handles k has
    has-by false k handles has = has-longer handles has

    pub has-with_file : (number : ℕ) (handles : List (Option Handle))
        → AllByRecursion (λ place. IfSome place (HasSeen block depot)) handles
        → AllByRecursion (λ place. IfSome place (HasSeen block depot)) (with_file number new handles)
    has-with_file number handles has = has-by (nat_le number (length handles)) (number - 1) handles has

  -- a handle that has seen nothing yet
  pub has-new : (inode entry : ℕ) → HasSeen block depot (new_handle inode entry)
  has-new inode entry window = tt

  -- a handle that looked at a window
  has-with_view : (window : ℕ) (view : View) (handle : Handle) → HasNamed block depot view.list → HasSeen block depot handle
      → HasSeen block depot (record handle { views = with_view window view handle.views })
  has-with_view window view handle own has other = elim (cases_eq window other) [
    | inl same ↦
        subst (λ o. IfSome o (λ (view : View). HasNamed block depot view.list))
        (sym (subst (λ n. view_at (with_view window view handle.views) n ≡ Some view) same (view_at-own window view handle.views)))
        own
    | inr apart ↦
        subst (λ o. IfSome o (λ (view : View). HasNamed block depot view.list))
        (sym (view_at-other window view handle.views other apart)) (has other)
  ]

  pub has-looked : (number window : ℕ) (view : View) (handles : List (Option Handle)) → HasNamed block depot view.list
      → AllByRecursion (λ place. IfSome place (HasSeen block depot)) handles
      → AllByRecursion (λ place. IfSome place (HasSeen block depot))
      (with_file number (seen_by window view (file_of handles number)) handles)
  has-looked number window view handles own has = by_handle (file_of handles number) refl
    where
      by_handle : (o : Option Handle) → file_of handles number ≡ o → HasAll (with_file number (seen_by window view o) handles)
      by_handle None e = has-with_file None tt number handles has
      by_handle (Some handle) e =
          has-with_file (seen_by window view (Some handle))
          (has-with_view window view handle own (has-open handles number handle e has)) number handles has

  -- a file changed
  pub has-unseen : (inode : ℕ) (handles : List (Option Handle)) → AllByRecursion (λ place. IfSome place (HasSeen block depot)) handles
      → AllByRecursion (λ place. IfSome place (HasSeen block depot)) (map (unseen inode) handles)
  has-unseen inode [] has = tt
  has-unseen inode (None ∷ handles) has = (tt, has-unseen inode handles has.1)
  has-unseen inode (Some handle ∷ handles) has = (by_test (handle.inode == inode), has-unseen inode handles has.1)
    where
      by_test : (test : Bool) → HasPlace (if test then Some (record handle { views = no_views }) else Some handle)
      by_test true = λ window. tt
      by_test false = has.0

-- ---- while others go on

module _ (block : ℕ) (depot depot' : Blocks) (grows : Grows depot depot') where
  place-grows : (place : Option Handle) → IfSome place (HasSeen block depot) → IfSome place (HasSeen block depot')
  place-grows None has = tt
  place-grows (Some handle) has = λ window. by_view (view_at handle.views window) (has window)
    where
      by_view : (o : Option View) → IfSome o (λ (view : View). HasNamed block depot view.list)
          → IfSome o (λ (view : View). HasNamed block depot' view.list)
      by_view None has = tt
      by_view (Some view) has = has_named-grows block depot depot' grows view.list has

  has-grows : (handles : List (Option Handle)) → AllByRecursion (λ place. IfSome place (HasSeen block depot)) handles
      → AllByRecursion (λ place. IfSome place (HasSeen block depot')) handles
  has-grows [] has = tt
  has-grows (place ∷ handles) has = (place-grows place has.0, has-grows handles has.1)

module _ (v v' : Shared) (setting : v'.yard.setting ≡ v.yard.setting) (grows : Grows (depot_in v) (depot_in v')) where
  pub direct-goes : (writeback : Bool) (handles : List (Option Handle))
      → GoesDirect v.yard.setting.block (depot_in v) writeback handles
      → GoesDirect v'.yard.setting.block (depot_in v') writeback handles
  direct-goes writeback handles direct =
      subst (λ (x : Setting). GoesDirect x.block (depot_in v') writeback handles) (sym setting)
      (record {
        mode = direct.mode;
        seen = has-grows v.yard.setting.block (depot_in v) (depot_in v') grows handles direct.seen;
      })

  -- a slice in flight
  pub put-goes : (o : Option Flight) → IfSome o (HasPut v.yard.setting.block (depot_in v))
      → IfSome o (HasPut v'.yard.setting.block (depot_in v'))
  put-goes None has = tt
  put-goes (Some f) has = has_put-stays v v' setting grows f has

-- ---- as the client goes on

module _ (block : ℕ) (depot : Blocks) (writeback : Bool) (handles : List (Option Handle))
    (direct : GoesDirect block depot writeback handles) where
  pub direct-with_file : (number : ℕ) (new : Option Handle) → IfSome new (HasSeen block depot)
      → GoesDirect block depot writeback (with_file number new handles)
  direct-with_file number new own =
      record { mode = direct.mode; seen = has-with_file block depot new own number handles direct.seen }

  pub direct-looked : (number window : ℕ) (view : View) → HasNamed block depot view.list
      → GoesDirect block depot writeback (with_file number (seen_by window view (file_of handles number)) handles)
  direct-looked number window view own =
      record { mode = direct.mode; seen = has-looked block depot number window view handles own direct.seen }

  pub direct-unseen : (inode : ℕ) → GoesDirect block depot writeback (map (unseen inode) handles)
  direct-unseen inode = record { mode = direct.mode; seen = has-unseen block depot inode handles direct.seen }
