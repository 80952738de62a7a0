-- What a proof on trees that are written out has to open, so that operations compute on them.
use Rattle.std.specs.Prelude.{⊤}
use Rattle.std.specs.Fmt.{digits}
use Rattle.jv_model.specs.promise.FiniteMap.{get, insert, remove, retain_keys, first_where, entries_where, key_count, sum_over}
use Rattle.jv_model.specs.promise.tree.Walk.{walk_names, walk}
use Rattle.jv_model.specs.promise.tree.HourNames.{hour_name}
use Rattle.jv_model.specs.promise.tree.Trash.{with_hour, trash_name}
use Rattle.jv_model.specs.promise.tree.Reading.{lookup, stat, lstat, fstat, open_file, compact, readdir, readlink, statfs, chmod, chown, utimes}
use Rattle.jv_model.specs.promise.tree.Making.{mkdir, create, symlink, link}
use Rattle.jv_model.specs.promise.tree.Removing.{remove_entry, unlink, rmdir}
use Rattle.jv_model.specs.promise.tree.Renaming.{is_within, rename}
use Rattle.jv_model.specs.promise.tree.Sessions.{mount, beat, umount, release}
use Rattle.jv_model.specs.promise.tree.FileBytes.{truncate, copy}

-- on an `unfolding` line: computes on finite maps that are written out
unfoldable pub maps_compute : ⊤
unfolding get insert remove retain_keys first_where entries_where key_count sum_over
maps_compute = tt

-- computes the names of the trash
unfoldable pub names_compute : ⊤
unfolding hour_name trash_name digits
names_compute = tt

-- computes walks
unfoldable pub walks_compute : ⊤
unfolding maps_compute walk_names walk
walks_compute = tt

-- computes operations that leave the tree
unfoldable pub readings_compute : ⊤
unfolding walks_compute lookup stat lstat fstat open_file compact readdir readlink statfs
readings_compute = tt

-- computes operations on a tree that is written out
unfoldable pub tree_computes : ⊤
unfolding names_compute readings_compute with_hour remove_entry is_within chmod chown utimes mkdir create symlink link
    unlink rmdir rename mount beat umount release truncate copy
tree_computes = tt
