-- A file of another length: what its row and the counters are then.
use Rattle.std.specs.Prelude.{◌≡◌, ℕ, ◌+◌, ◌-◌, ◌<◌, List, false, true, Option, None, Some, Result, Ok, OnOk}
use Rattle.jv_model.specs.declared.fault.Fault.TheVariants.{NoSpace}
use Rattle.jv_model.specs.declared.fault.TxFault.{TxFault}
use Rattle.jv_model.specs.declared.row.Counters.{Counters}
use Rattle.jv_model.specs.declared.row.Node.{Node}
use Rattle.jv_model.specs.declared.row.Row.TheVariants.{OfNode, OfCounters}
use Rattle.jv_model.specs.declared.setting.Setting.{Setting}
use Rattle.jv_model.specs.promise.FiniteMap.{insert}
use Rattle.jv_model.specs.promise.rows.RowKeys.{RowMap}
use Rattle.jv_model.specs.promise.rows.RowPlaces.{counters_key, node_key}
use Rattle.jv_model.specs.promise.tree.Attempt.{require}
use Rattle.jv_model.specs.promise.tree.Tree.{Tree, Content, paged, space_limit, sum_fits, fits}
use Rattle.jv_model.specs.promise.tree.Changes.{with_content}
use Rattle.jv_outside.specs.declared.batch.Change.{Change}
use Rattle.jv_outside.specs.promise.Store.{Store}
use Rattle.jv_rows.specs.Drafts.{drafted}
use Rattle.jv_rows.specs.Transactions.{Looks}
use Rattle.jv_volume.specs.promise.TypedRows.{Rows, typed}
use Rattle.jv_volume.specs.promise.Slices.{next_slice}
use Rattle.jv_volume.specs.promise.Views.{counters_at}
use Rattle.jv_volume.specs.promise.Whole.{Whole}
use Rattle.jv_data.specs.Truncating.{LeaveSlices}

-- used space once a file of one length has another
abbrev pub used_after : Counters → ℕ → ℕ → ℕ
used_after c before after = (c.used_space + paged after) - paged before

-- the counters once a file of one length has another, where the volume has room for that
abbrev pub Resizes : Setting → Counters → ℕ → ℕ → Option Counters → Type 0
Resizes setting c before after None =
    sum_fits (space_limit setting) c.used_space (used_after c before after) ≡ false
Resizes setting c before after (Some left) =
    (sum_fits (space_limit setting) c.used_space (used_after c before after) ≡ true)
    × (left ≡ record c { used_space = used_after c before after })

-- the row of a file with another length and both times at a moment
abbrev pub row_sized : Node → ℕ → ℕ → Node
row_sized was length now = record was { length = length; mtime = now; ctime = now }

-- rows with a file's row and the counters that its other length makes
abbrev pub rows_sized : Rows → ℕ → Node → Counters → ℕ → ℕ → Rows
rows_sized rows inode was c length now =
    insert (insert rows (node_key inode) (Ok (OfNode (row_sized was length now))))
    counters_key (Ok (OfCounters (record c { used_space = used_after c was.length length })))

pub record AreSized (rows after : Rows) (inode : ℕ) (was : Node) (length now : ℕ) : Type 0 where
  pub counters : Counters
  pub there : counters_at rows ≡ Some counters
  pub is : after ≡ rows_sized rows inode was counters length now
  pub given : 0 < next_slice rows

-- A file gets another length, and both times: over whole rows, whatever bytes it then has, it is
-- refused where the model's volume has no room for them. The changes leave lists and slices alone,
-- and over whole rows they are of the file's row and of the counters.
pub record ResizesFile (inode : ℕ) (was : Node) (length now : ℕ) (before after : Store)
    (changes : List Change) (result : Result (Unit {0}) TxFault) : Type 0 where
  pub looks : (content : Tree → Content) → ((t : Tree) → (content t).length ≡ length)
      → Looks before after result (λ t.
      require (fits t (with_content t now inode (content t))) NoSpace)
  pub leaves : OnOk result (LeaveSlices before.rows changes)
  pub sized : OnOk result ((known : RowMap) → before.rows ≡ Some known → Whole (typed known)
      → AreSized (typed known) (drafted changes known) inode was length now)
