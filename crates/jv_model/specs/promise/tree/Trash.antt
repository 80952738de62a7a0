-- The trash (JuiceFS, "Trash"): a removed file goes to a directory of its hour under `.trash`, and
-- stays for the volume's days. The names there, and the inodes of hours, are this project's own.
use Rattle.std.specs.Prelude.{ℕ, ◌+◌, ◌-◌, ◌*◌, Bool, ◌&&◌, ◌==◌, nat_le, if◌then◌else◌, List, ◌∷◌, ◌++◌, take, Option, None, Some, decimal}
use Rattle.std.specs.Option.{option_map}
use Rattle.jv_model.specs.declared.limits.TheConstants.{MAX_NAME, READ_ONLY_MODE, TRASH_ROOT}
use Rattle.jv_model.specs.declared.lifetimes.TheConstants.{HOUR, DAY, FIRST_HOUR}
use Rattle.jv_model.specs.declared.setting.Setting.{Setting}
use Rattle.jv_model.specs.promise.FiniteMap.{remove, first_where}
use Rattle.jv_model.specs.promise.tree.Tree.{Tree, Directory, EntryKey, new_node, node_at, trash_entry}
use Rattle.jv_model.specs.promise.tree.Changes.{status_changed, change_node, drop_node, put_entry, with_node}
use Rattle.jv_model.specs.promise.tree.HourNames.{hour_at, hour_name}

-- The inode of an hour's directory is the trash's and the hour. Hour 0 would have the trash's own,
-- and has another.
abbrev pub hour_inode : ℕ → ℕ
hour_inode hour = (if hour == 0 then FIRST_HOUR else TRASH_ROOT + hour)

-- the hour of such a directory
abbrev pub hour_of : ℕ → ℕ
hour_of inode = (if inode == FIRST_HOUR then 0 else inode - TRASH_ROOT)

-- what an hour took is due once the volume's days have passed since the hour's end
abbrev pub is_due : Setting → ℕ → ℕ → Bool
is_due setting now hour = nat_le ((hour + 1) * HOUR + setting.trash_days * DAY) now

abbrev pub hour_place : ℕ → EntryKey
hour_place hour = record { dir = TRASH_ROOT; name = hour_name hour }

-- the tree with the directory of an hour
unfoldable pub with_hour : Tree → ℕ → ℕ → Tree
with_hour t now hour = elim (node_at t (hour_inode hour)) [
  | None ↦ with_node t now (hour_place hour) (hour_inode hour)
      (new_node (Directory TRASH_ROOT) READ_ONLY_MODE now)
  | Some node ↦ t
]

-- the name in the trash of an inode's last entry: `PARENT-INODE-NAME`, cut to the length of a name
unfoldable pub trash_name : EntryKey → ℕ → List ℕ
trash_name place inode = take MAX_NAME (decimal place.dir ++ 45 ∷ decimal inode ++ 45 ∷ place.name)

abbrev pub trash_place : ℕ → EntryKey → ℕ → EntryKey
trash_place hour place inode = record { dir = hour_inode hour; name = trash_name place inode }

-- the tree with an inode in the trash that lost its last entry, which stood at a place
abbrev pub trashed : Tree → ℕ → EntryKey → ℕ → Tree
trashed t now place inode =
    let entered =
    put_entry (with_hour t now (hour_at now)) now
    (trash_place (hour_at now) place inode) inode in
    change_node entered inode (status_changed now)

-- the directory of the least hour that is due
abbrev pub due_hour : Tree → ℕ → Option ℕ
due_hour t now = option_map (λ e. e.1)
    (first_where (λ key inode. (key.dir == TRASH_ROOT)
    && is_due t.setting now (hour_of inode)) t.entries)

-- the first entry of a directory
abbrev pub first_in : Tree → ℕ → Option (EntryKey × ℕ)
first_in t dir = first_where (λ key inode. key.dir == dir) t.entries

abbrev purge_in : Tree → ℕ → ℕ
purge_in t hour = elim (first_in t hour) [ None ↦ hour | Some e ↦ e.1 ]

-- What a cleaning purges next: the inode of the first entry of that directory, or the directory
-- itself, where it is empty.
abbrev pub due_purge : Tree → ℕ → Option ℕ
due_purge t now = option_map (purge_in t) (due_hour t now)

-- The tree without a node of the trash and its entry, or without an empty hour. No times are set.
abbrev pub purged : Tree → ℕ → Tree
purged t inode = elim (trash_entry t inode) [
  | None ↦ t
  | Some e ↦ record (drop_node t inode) { entries = remove t.entries e.0 }
]
