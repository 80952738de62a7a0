-- What is left of a node that goes: the counters without it, and a file's length beside its lists.
use Rattle.std.specs.Prelude.{ℕ, ◌-◌, ◌==◌, if◌then◌else◌, Ok}
use Rattle.jv_model.specs.declared.limits.TheConstants.{SPACE_UNIT}
use Rattle.jv_model.specs.declared.row.Counters.{Counters}
use Rattle.jv_model.specs.declared.row.Node.{Node}
use Rattle.jv_model.specs.declared.row.Row.TheVariants.{OfCounters, OfDropped}
use Rattle.jv_model.specs.promise.FiniteMap.{insert}
use Rattle.jv_model.specs.promise.rows.RowPlaces.{counters_key, dropped_key}
use Rattle.jv_model.specs.promise.tree.Tree.{paged}
use Rattle.jv_volume.specs.promise.TypedRows.{Rows}

-- the space that a node's row takes: a file's length in whole units, and one unit for anything else
abbrev pub space_taken : Node → ℕ
space_taken node = (if node.kind == 1 then paged node.length else SPACE_UNIT)

-- counters without a node
abbrev pub lowered : Node → Counters → Counters
lowered node c =
    record c { used_space = c.used_space - space_taken node; used_inodes = c.used_inodes - 1 }

abbrev pub with_lowered : Node → Counters → Rows → Rows
with_lowered node c rows = insert rows counters_key (Ok (OfCounters (lowered node c)))

-- a file leaves its length
abbrev pub with_dropped : ℕ → Node → Rows → Rows
with_dropped inode node rows =
    (if node.kind == 1
    then insert rows (dropped_key inode) (Ok (OfDropped (record { length = node.length })))
    else rows)
