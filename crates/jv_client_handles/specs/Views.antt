-- What a handle saw of the windows of its file.
use Rattle.std.specs.Prelude.{ℕ, List, [], Option}
use Rattle.std.specs.List.{All, AllByRecursion}
use Rattle.std.specs.BTreeMap.{insert_entry, is_at}
use Rattle.std.specs.Map.{lookup, remove_entry, values_of}
use Rattle.std.specs.Ordering.{nat_cmp}
use Rattle.jv_model.specs.promise.blocks.Slices.{IsRecord}
use Rattle.jv_client_handles.specs.declared.views.View.{View}

-- each window that was seen, with its view, in the order of the windows
pub record SeenViews : Type 0 where
  pub entries : List (ℕ × View)

-- the view of a window, where it was seen
abbrev pub view_at : SeenViews → ℕ → Option View
view_at views window = lookup (is_at (nat_cmp window)) views.entries

-- what a view has are records
abbrev pub HasRecords : View → Type 0
HasRecords view = AllByRecursion IsRecord view.list

abbrev pub AreRecords : List (ℕ × View) → Type 0
AreRecords entries = All HasRecords (values_of entries)

abbrev pub no_views : SeenViews
no_views = record { entries = [] }

-- with a view of a window, in place of the one before
abbrev pub with_view : ℕ → View → SeenViews → SeenViews
with_view window view views = record { entries = insert_entry nat_cmp views.entries window view }

abbrev pub without_view : ℕ → SeenViews → SeenViews
without_view window views = record { entries = remove_entry (is_at (nat_cmp window)) views.entries }
