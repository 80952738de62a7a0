-- When open files of a client stand for those of the model.
use Rattle.std.specs.Prelude.{◌≡◌, ℕ, ◌+◌, ◌≤◌, List, [], ◌∷◌, Option, None, Some}
use Rattle.jv_model.specs.promise.client.ModelClient.{OpenFile, View as ModelView}
use Rattle.jv_model.specs.promise.journal.Reading.{fresh_view}
use Rattle.jv_client_shared.specs.promise.Shared.{Known, Shared}
use Rattle.jv_client_shared.specs.Seen.{IsView}
use Rattle.jv_client_handles.specs.declared.handle.Handle.{Handle}
use Rattle.jv_client_handles.specs.declared.views.View.{View}
use Rattle.jv_client_handles.specs.Views.{view_at}

abbrev pub SamePlace : {X Y : Type 0} → (X → Y → Type 0) → Option X → Option Y → Type 0
SamePlace P None None = Unit {0}
SamePlace P None (Some y) = ⊥
SamePlace P (Some x) None = ⊥
SamePlace P (Some x) (Some y) = P x y

-- two tables, whose places are numbered from a number on, have the same places in use, and what
-- stands there is related
abbrev pub SameTable : {X Y : Type 0} → (ℕ → X → Y → Type 0) → ℕ → List (Option X) → List (Option Y)
    → Type 0
SameTable P number [] [] = Unit {0}
SameTable P number [] (y ∷ ys) = ⊥
SameTable P number (x ∷ xs) [] = ⊥
SameTable P number (x ∷ xs) (y ∷ ys) = SamePlace (P number) x y × SameTable P (number + 1) xs ys

-- a view of the model is the one that a handle keeps of a window, over what clients share
pub record IsSeen (g : Known) (v : Shared) (window : ℕ) (m : ModelView) (view : View) : Type 0 where
  pub entry : m.entry ≡ view.entry
  pub shows : IsView g v window view.length view.list m.content

-- an open file of the model is the one of a handle, opened by now, with the fresh views of its
-- windows
pub record IsHandle (g : Known) (v : Shared) (views : List ModelView) (count : ℕ) (number : ℕ)
    (file : OpenFile)
    (handle : Handle) : Type 0 where
  pub inode : file.inode ≡ handle.inode
  pub opened : file.opened ≡ handle.opened
  pub before : file.opened ≤ count
  pub seen : (window : ℕ) → SamePlace (IsSeen g v window) (fresh_view views number file window)
      (view_at handle.views window)

-- all of a client's open files
abbrev pub AreHandles : Known → Shared → List ModelView → ℕ → List (Option OpenFile)
    → List (Option Handle) → Type 0
AreHandles g v views count files handles = SameTable (IsHandle g v views count) 1 files handles
