-- The views of a handle, window by window; and which of a model's views are fresh for an open file.
use Rattle.std.proofs.Common.{◌≡◌, ℕ, ◌≤◌, ◌<◌, Bool, true, false, ◌&&◌, not, cond, List, [], ◌∷◌, Option, None, Some}
use Rattle.std.proofs.Common.{inl, inr, refl, sym, ap, ◌∙◌, arith, eq-eqb, ne_eqb, lt-ltb}
use Rattle.std.specs.Prelude.{◌==◌, if◌then◌else◌, nat_lt, find}
use Rattle.std.specs.List.{AllByRecursion}
use Rattle.std.specs.BTreeMap.{insert_entry, is_at}
use Rattle.std.specs.Map.{lookup, remove_entry}
use Rattle.std.specs.Ordering.{MatchOrdering, match_ordering, nat_cmp}
use Rattle.std.specs.declared.cmp.Ordering.{Ordering}
use Rattle.std.specs.declared.cmp.Ordering.TheVariants.{Less, Equal, Greater}
use Rattle.std.proofs.lemmas.Bool.{le-ltb}
use Rattle.std.proofs.lemmas.Bool.Decides.{eqb_tells, nat_tests}
use Rattle.std.proofs.lemmas.Cmp.{ranked}
use Rattle.jv_model.specs.promise.client.ModelClient.{OpenFile, View as ModelView, views_without}
use Rattle.jv_model.specs.promise.journal.Reading.{fresh_view, is_fresh}
use Rattle.jv_client_handles.specs.declared.views.View.{View}
use Rattle.jv_client_handles.specs.Views.{SeenViews, view_at, with_view, without_view}

-- ---- the views that a handle keeps

is_here : (window other : ℕ) → is_at (nat_cmp other) window ≡ (window == other)
is_here window other = grind (arith, nat_tests)

module _ (window : ℕ) (view : View) (other : ℕ) where
  abbrev at_other : List (ℕ × View) → Option View
  at_other entries = lookup (is_at (nat_cmp other)) entries

  twice : (b : Bool) (own : View) (rest : Option View)
      → cond b (Some view) rest ≡ cond b (Some view) (cond b (Some own) rest)
  twice true own rest = refl
  twice false own rest = refl

  -- a key that isn't the window's own
  apart : (key own : Bool) (old : View) (new rest : Option View) → (key ≡ true → own ≡ false)
      → new ≡ cond own (Some view) rest
      → cond key (Some old) new ≡ cond own (Some view) (cond key (Some old) rest)
  apart true own old new rest not_own is = ap (λ b. cond b (Some view) (Some old)) (sym (not_own refl))
  apart false own old new rest not_own is = is

  in_entries : (entries : List (ℕ × View))
      → at_other (insert_entry nat_cmp entries window view) ≡ (if window == other then Some view else at_other entries)
  in_entries [] = ap (λ b. cond b (Some view) None) (is_here window other)
  in_entries (entry ∷ entries) =
      by_order (nat_cmp window entry.0) (ranked window entry.0 (nat_cmp window entry.0) refl) (in_entries entries)
    where
      by_order : (o : Ordering) → MatchOrdering o (window < entry.0) (window ≡ entry.0) (entry.0 < window)
          → at_other (insert_entry nat_cmp entries window view)
          ≡ (if window == other then Some view else at_other entries)
          → at_other (match_ordering o ((window, view) ∷ entry ∷ entries) ((entry.0, view) ∷ entries)
          (entry ∷ insert_entry nat_cmp entries window view))
          ≡ (if window == other then Some view else at_other (entry ∷ entries))
      by_order Less less later = ap (λ b. cond b (Some view) (at_other (entry ∷ entries))) (is_here window other)
      by_order Equal same later =
          twice (is_at (nat_cmp other) entry.0) entry.1 (at_other entries)
          ∙ ap (λ b. cond b (Some view) (at_other (entry ∷ entries)))
          (is_here entry.0 other ∙ ap (λ n. n == other) (sym same))
      by_order Greater more later =
          apart (is_at (nat_cmp other) entry.0) (window == other) entry.1
          (at_other (insert_entry nat_cmp entries window view)) (at_other entries)
          (λ key. ne_eqb window other (λ own. omega (arith, more, own, key_is key))) later
        where
          key_is : is_at (nat_cmp other) entry.0 ≡ true → entry.0 ≡ other
          key_is key = grind (arith, nat_tests)

-- a handle that is given a view has it, and those of all other windows
pub view_at-with_view : (window : ℕ) (view : View) (views : SeenViews) (other : ℕ)
    → view_at (with_view window view views) other ≡ (if window == other then Some view else view_at views other)
view_at-with_view window view views other = in_entries window view other views.entries

pub view_at-own : (window : ℕ) (view : View) (views : SeenViews)
    → view_at (with_view window view views) window ≡ Some view
view_at-own window view views =
    view_at-with_view window view views window
    ∙ ap (λ b. if b then Some view else view_at views window) (eq-eqb window window refl)

pub view_at-other : (window : ℕ) (view : View) (views : SeenViews) (other : ℕ) → (window ≡ other → ⊥)
    → view_at (with_view window view views) other ≡ view_at views other
view_at-other window view views other apart =
    view_at-with_view window view views other
    ∙ ap (λ b. if b then Some view else view_at views other) (ne_eqb window other apart)

-- ---- a view that is dropped

module _ (window : ℕ) where
  abbrev at_window : ℕ → Bool
  at_window key = is_at (nat_cmp window) key

  own_key : at_window window ≡ true
  own_key = is_here window window ∙ eq-eqb window window refl

  none_first : (key : Bool) (view : View) (rest : Option View) → cond key (Some view) rest ≡ None
      → (key ≡ false) × (rest ≡ None)
  none_first true view rest none = absurd (cc)
  none_first false view rest none = (refl, none)

  taken_out : (view : View) (entries : List (ℕ × View)) → lookup at_window entries ≡ None
      → remove_entry at_window (insert_entry nat_cmp entries window view) ≡ entries
  taken_out view [] none = ap (λ b. cond b [] ((window, view) ∷ [])) own_key
  taken_out view (entry ∷ entries) none =
      let both = none_first (at_window entry.0) entry.1 (lookup at_window entries) none in
      by_order (nat_cmp window entry.0) (ranked window entry.0 (nat_cmp window entry.0) refl) both.0
      (taken_out view entries both.1)
    where
      by_order : (o : Ordering) → MatchOrdering o (window < entry.0) (window ≡ entry.0) (entry.0 < window)
          → at_window entry.0 ≡ false → remove_entry at_window (insert_entry nat_cmp entries window view) ≡ entries
          → remove_entry at_window (match_ordering o ((window, view) ∷ entry ∷ entries) ((entry.0, view) ∷ entries)
          (entry ∷ insert_entry nat_cmp entries window view)) ≡ entry ∷ entries
      by_order Less less other later =
          ap (λ b. cond b (entry ∷ entries) ((window, view) ∷ remove_entry at_window (entry ∷ entries))) own_key
      by_order Equal same other later = absurd (cc (sym other ∙ ap at_window (sym same) ∙ own_key))
      by_order Greater more other later =
          ap (λ b. cond b (insert_entry nat_cmp entries window view)
          (entry ∷ remove_entry at_window (insert_entry nat_cmp entries window view))) other
          ∙ ap (λ rest. entry ∷ rest) later

  left_at : (other : ℕ) → (window ≡ other → ⊥) → (entries : List (ℕ × View))
      → lookup (is_at (nat_cmp other)) (remove_entry at_window entries) ≡ lookup (is_at (nat_cmp other)) entries
  left_at other apart [] = refl
  left_at other apart (entry ∷ entries) = by_key (at_window entry.0) refl (left_at other apart entries)
    where
      by_key : (key : Bool) → at_window entry.0 ≡ key
          → lookup (is_at (nat_cmp other)) (remove_entry at_window entries) ≡ lookup (is_at (nat_cmp other)) entries
          → lookup (is_at (nat_cmp other)) (cond key entries (entry ∷ remove_entry at_window entries))
          ≡ lookup (is_at (nat_cmp other)) (entry ∷ entries)
      by_key true e later =
          ap (λ b. cond b (Some entry.1) (lookup (is_at (nat_cmp other)) entries)) (sym (not_other e))
        where
          not_other : at_window entry.0 ≡ true → is_at (nat_cmp other) entry.0 ≡ false
          not_other e = grind (arith, nat_tests)
      by_key false e later = ap (λ rest. cond (is_at (nat_cmp other) entry.0) (Some entry.1) rest) later

  -- A view that is dropped again, of a window that had none, leaves all as it was.
  pub without_view-with_view : (view : View) (views : SeenViews) → view_at views window ≡ None
      → without_view window (with_view window view views) ≡ views
  without_view-with_view view views none =
      (λ i. record { entries = taken_out view views.entries none i })

  -- Other windows keep their views.
  pub view_at-without_view : (views : SeenViews) (other : ℕ) → (window ≡ other → ⊥)
      → view_at (without_view window views) other ≡ view_at views other
  view_at-without_view views other apart = left_at other apart views.entries

-- ---- which of a model's views is fresh

no_handle : (a b c d : Bool) → a ≡ false → (a && b && c && d) ≡ false
no_handle a b c d e = ap (λ a. a && b && c && d) e

no_inode : (a b c d : Bool) → b ≡ false → (a && b && c && d) ≡ false
no_inode true b c d e = ap (λ b. true && b && c && d) e
no_inode false b c d e = refl

no_window : (a b c d : Bool) → c ≡ false → (a && b && c && d) ≡ false
no_window true true c d e = ap (λ c. true && true && c && d) e
no_window true false c d e = refl
no_window false b c d e = refl

too_old : (a b c d : Bool) → d ≡ false → (a && b && c && d) ≡ false
too_old true true true d e = ap (λ d. true && true && true && d) e
too_old true true false d e = refl
too_old true false c d e = refl
too_old false b c d e = refl

module _ (number : ℕ) (file : OpenFile) (window : ℕ) where
  abbrev fresh_in : List ModelView → Option ModelView
  fresh_in views = fresh_view views number file window

  passed_over : (view : ModelView) (views : List ModelView) → is_fresh number file window view ≡ false
      → fresh_in (view ∷ views) ≡ fresh_in views
  passed_over view views stale = ap (λ b. if b then Some view else fresh_in views) stale

  -- none that was taken before the file was opened
  pub fresh-none : (views : List ModelView) → AllByRecursion (λ (view : ModelView). view.entry ≤ file.opened) views
      → fresh_in views ≡ None
  fresh-none [] old = refl
  fresh-none (view ∷ views) old =
      passed_over view views
      (too_old (view.handle == number) (view.inode == file.inode) (view.window == window)
      (nat_lt file.opened view.entry)
      (le-ltb file.opened view.entry old.0))
      ∙ fresh-none views old.1

  -- the one that was just taken
  pub fresh-taken : (taken : ModelView) (views : List ModelView) → taken.handle ≡ number → taken.inode ≡ file.inode
      → taken.window ≡ window
      → file.opened < taken.entry → fresh_in (taken ∷ views) ≡ Some taken
  fresh-taken taken views handle inode own later =
      let all : is_fresh number file window taken ≡ true =
      (λ i. eq-eqb taken.handle number handle i && eq-eqb taken.inode file.inode inode i && eq-eqb taken.window window
      own i && lt-ltb file.opened taken.entry later i) in
      ap (λ b. if b then Some taken else fresh_in views) all

  -- it is no other handle's, and none of another window
  pub fresh-elsewhere : (taken : ModelView) (views : List ModelView) → (taken.handle ≡ number → ⊥)
      → fresh_in (taken ∷ views) ≡ fresh_in views
  fresh-elsewhere taken views apart =
      passed_over taken views
      (no_handle (taken.handle == number) (taken.inode == file.inode) (taken.window == window)
      (nat_lt file.opened taken.entry)
      (ne_eqb taken.handle number apart))

  pub fresh-beside : (taken : ModelView) (views : List ModelView) → (taken.window ≡ window → ⊥)
      → fresh_in (taken ∷ views) ≡ fresh_in views
  fresh-beside taken views apart =
      passed_over taken views
      (no_window (taken.handle == number) (taken.inode == file.inode) (taken.window == window)
      (nat_lt file.opened taken.entry)
      (ne_eqb taken.window window apart))

-- ---- without the views of a file that changed

module _ (inode number : ℕ) (file : OpenFile) (window : ℕ) where
  abbrev left : Bool → ModelView → List ModelView → Option ModelView
  left own view views =
      find (is_fresh number file window) (cond (not own) (view ∷ views_without inode views)
      (views_without inode views))

  another : (view : ModelView) → (view.inode == file.inode) ≡ false → is_fresh number file window view ≡ false
  another view e =
      no_inode (view.handle == number) (view.inode == file.inode) (view.window == window)
      (nat_lt file.opened view.entry) e

  -- that file has none
  pub fresh-dropped : (views : List ModelView) → file.inode ≡ inode
      → fresh_view (views_without inode views) number file window ≡ None
  fresh-dropped [] own = refl
  fresh-dropped (view ∷ views) own = elim (eqb_tells view.inode inode) [
    | inl same ↦ ap (λ b. left b view views) same.0 ∙ fresh-dropped views own
    | inr other ↦ ap (λ b. left b view views) other.0
        ∙ passed_over number file window view (views_without inode views)
        (another view (ap (λ n. view.inode == n) own ∙ other.0))
        ∙ fresh-dropped views own
  ]

  -- all others have the same
  pub fresh-kept : (views : List ModelView) → (file.inode ≡ inode → ⊥)
      → fresh_view (views_without inode views) number file window ≡ fresh_view views number file window
  fresh-kept [] apart = refl
  fresh-kept (view ∷ views) apart = elim (eqb_tells view.inode inode) [
    | inl same ↦ ap (λ b. left b view views) same.0 ∙ fresh-kept views apart
        ∙ sym (passed_over number file window view views
        (another view (ne_eqb view.inode file.inode (λ e. apart (sym e ∙ same.1)))))
    | inr other ↦ ap (λ b. left b view views) other.0
        ∙ ap (λ rest. if is_fresh number file window view then Some view else rest) (fresh-kept views apart)
  ]

-- ---- when they were taken

pub views-later : (count later : ℕ) (views : List ModelView) → count ≤ later
    → AllByRecursion (λ (view : ModelView). view.entry ≤ count) views
    → AllByRecursion (λ (view : ModelView). view.entry ≤ later) views
views-later count later [] le old = tt
views-later count later (view ∷ views) le old =
    ((let low = old.0 in omega (arith, low, le)), views-later count later views le old.1)

pub views-left : (inode count : ℕ) (views : List ModelView)
    → AllByRecursion (λ (view : ModelView). view.entry ≤ count) views
    → AllByRecursion (λ (view : ModelView). view.entry ≤ count) (views_without inode views)
views-left inode count [] old = tt
views-left inode count (view ∷ views) old = by_test (not (view.inode == inode)) (views-left inode count views old.1)
  where
    by_test : (b : Bool) → AllByRecursion (λ (view : ModelView). view.entry ≤ count) (views_without inode views)
        → AllByRecursion (λ (view : ModelView). view.entry ≤ count)
        (cond b (view ∷ views_without inode views) (views_without inode views))
    by_test true later = (old.0, later)
    by_test false later = later
