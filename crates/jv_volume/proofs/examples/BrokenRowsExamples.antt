-- Rows that aren't whole, each with one thing that is broken.
use Rattle.std.proofs.Common.{◌≡◌, ℕ, List, [], ◌∷◌, Option, None, Some, Ok, Err, refl, sym, ap, arith}
use Rattle.std.proofs.lemmas.Bool.{false≢true}
use Rattle.std.proofs.lemmas.Option.{none-some}
use Rattle.jv_model.specs.declared.limits.TheConstants.{FULL_MODE, READ_ONLY_MODE, ROOT, TRASH_ROOT}
use Rattle.jv_model.specs.declared.row.Counters.{Counters}
use Rattle.jv_model.specs.declared.row.Node.{Node as NodeRow}
use Rattle.jv_model.specs.declared.row.Edge.{Edge}
use Rattle.jv_model.specs.declared.row.RowKey.{RowKey}
use Rattle.jv_model.specs.declared.row.Row.TheVariants.{OfNode, OfEdge, OfList, OfSlice}
use Rattle.jv_model.specs.declared.slice.Spot.{Spot}
use Rattle.jv_model.specs.declared.slice.Spot.TheVariants.{Zero, Slice}
use Rattle.jv_model.specs.promise.FiniteMap.{insert}
use Rattle.jv_model.specs.promise.rows.RowPlaces.{node_key, edge_key, list_key, slice_key}
use Rattle.jv_model.specs.promise.tree.HourNames.{hour_name}
use Rattle.jv_model.specs.promise.tree.Trash.{hour_inode}
use Rattle.jv_model.proofs.TreeComputeLaws.{names_compute}
use Rattle.jv_volume.specs.promise.TypedRows.{Cell, Rows}
use Rattle.jv_volume.specs.promise.Views.{row_in, node_in, edge_in, counters_in}
use Rattle.jv_volume.specs.promise.Slices.{HasLists, OfFile, OfDropped}
use Rattle.jv_volume.specs.promise.Whole.{Whole}
use Rattle.jv_volume.specs.promise.Fresh.{fresh_counters, fresh_directory, new_directory}
use Rattle.jv_volume.proofs.examples.WholeRowsExamples.{rows_compute, volume, top, one_file, file, name, ten, with_file}

-- a stored link count is off
abbrev links_off : Rows
links_off = volume fresh_counters (record top { nlink = 3 }) []

links_in : Option NodeRow → ℕ
links_in None = 0
links_in (Some node) = node.nlink

links_off_broken : Whole links_off → ⊥
unfolding rows_compute links_in
links_off_broken w = let e : ◌≡◌ {A = ℕ} 3 2 = ap (λ o. links_in (node_in (row_in o))) (w.stored.node ROOT) in omega (arith, e)

-- the stored used space is off
abbrev space_off : Rows
space_off = volume (record fresh_counters { used_space = 4096 }) top []

space_in : Option Counters → ℕ
space_in None = 0
space_in (Some counters) = counters.used_space

space_off_broken : Whole space_off → ⊥
unfolding rows_compute space_in
space_off_broken w = let e : ◌≡◌ {A = ℕ} 4096 0 = ap (λ o. space_in (counters_in (row_in o))) w.stored.counters in omega (arith, e)

-- an entry says that a file is a directory
abbrev kind_off : Rows
kind_off = volume one_file top (
    (node_key 2, Ok (OfNode (file 0)))
    ∷ (edge_key ROOT name, Ok (OfEdge (record { kind = 2; inode = 2 })))
    ∷ []
    )

kind_in : Option Edge → ℕ
kind_in None = 0
kind_in (Some edge) = edge.kind

kind_off_broken : Whole kind_off → ⊥
unfolding rows_compute kind_in
kind_off_broken w = let e : ◌≡◌ {A = ℕ} 2 1 = ap (λ o. kind_in (edge_in (row_in o))) (w.stored.edge (record { dir = ROOT; name = name })) in omega (arith, e)

-- the stored count of a slice is off
abbrev count_off : Rows
count_off = volume one_file top (with_file 10 2)

count_off_broken : Whole count_off → ⊥
unfolding rows_compute
count_off_broken w = let e : ◌≡◌ {A = ℕ} 2 1 = w.slices.exact 1 (omega arith) in omega (arith, e)

-- a file shows bytes past its length
abbrev past_length : Rows
past_length = volume one_file top (with_file 5 1)

spot_slice : Spot → ℕ
spot_slice Zero = 0
spot_slice (Slice id size at) = id

past_length_broken : Whole past_length → ⊥
unfolding rows_compute spot_slice
past_length_broken w = let e : ◌≡◌ {A = ℕ} 1 0 = ap spot_slice (w.files.past 2 (file 5) refl refl 7 (omega arith)) in omega (arith, e)

-- a list belongs to no file
abbrev lost_list : Rows
lost_list = volume (record fresh_counters { slice = 2 }) top (
    (list_key 2 0, Ok (OfList (ten ∷ [])))
    ∷ (slice_key 1, Ok (OfSlice (record { size = 10; count = 1 })))
    ∷ []
    )

no_owner : HasLists lost_list 2 → ⊥
unfolding rows_compute
no_owner (OfFile node is kind) = none-some node is
no_owner (OfDropped is) = is refl

lost_list_broken : Whole lost_list → ⊥
unfolding rows_compute
lost_list_broken w = no_owner (w.files.owned (list_key 2 0) refl (λ e. none-some _ (sym e)))

-- bytes that spell no row
abbrev no_row : Rows
no_row = volume fresh_counters top ((slice_key 1, Err (7 ∷ [])) ∷ [])

no_row_broken : Whole no_row → ⊥
unfolding rows_compute
no_row_broken w = false≢true ((w.cells (slice_key 1) (Err (7 ∷ [])) refl).cell_is)

-- a volume with a directory of an hour that has this row
abbrev with_hour : NodeRow → Rows
with_hour hour =
    let more : List (RowKey × Cell) = (node_key (hour_inode 1), Ok (OfNode hour))
    ∷ (edge_key TRASH_ROOT (hour_name 1), Ok (OfEdge (record { kind = 2; inode = hour_inode 1 })))
    ∷ [] in
    insert (volume fresh_counters top more) (node_key TRASH_ROOT) (Ok (OfNode (record (fresh_directory READ_ONLY_MODE 0) { nlink = 3 })))

-- all may write in the directory of an hour
abbrev writable : NodeRow
writable = new_directory TRASH_ROOT FULL_MODE 0

writable_broken : Whole (with_hour writable) → ⊥
unfolding rows_compute names_compute
writable_broken w = false≢true ((w.cells (node_key (hour_inode 1)) (Ok (OfNode writable)) refl).hour)

-- the directory of an hour is another user's
abbrev owned : NodeRow
owned = record (new_directory TRASH_ROOT READ_ONLY_MODE 0) { uid = 7 }

owned_broken : Whole (with_hour owned) → ⊥
unfolding rows_compute names_compute
owned_broken w = false≢true ((w.cells (node_key (hour_inode 1)) (Ok (OfNode owned)) refl).hour)
