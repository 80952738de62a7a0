-- Rows that are written out: a value of each table whose fields are all different, and its bytes.
use Rattle.std.proofs.Common.{◌≡◌, ℕ, List, [], ◌∷◌, ◌++◌, Option, Some, None, refl, codes}
use Rattle.std.specs.Prelude.{⊤}
use Rattle.std.specs.Str.{is_utf8, chars}
use Rattle.jv_model.specs.declared.row.Counters.{Counters}
use Rattle.jv_model.specs.declared.row.Dead.{Dead}
use Rattle.jv_model.specs.declared.row.Dropped.{Dropped}
use Rattle.jv_model.specs.declared.row.Edge.{Edge}
use Rattle.jv_model.specs.declared.row.Node.{Node}
use Rattle.jv_model.specs.declared.row.RowKey.{RowKey}
use Rattle.jv_model.specs.declared.row.Session.{Session}
use Rattle.jv_model.specs.declared.row.SliceRow.{SliceRow}
use Rattle.jv_model.specs.declared.setting.Setting.{Setting}
use Rattle.jv_model.specs.declared.slice.Rec.{Rec}
use Rattle.jv_model.specs.promise.rows.RowGrammar.{setting_bytes, setting_of, counters_bytes, counters_of, node_bytes, node_of, edge_bytes, edge_of, record_bytes, list_bytes, record_at, records_at, list_of, slice_bytes, slice_of, session_bytes, session_of_bytes, sustained_of, dropped_bytes, dropped_of, dead_bytes, dead_of, row_of}
use Rattle.jv_model.specs.promise.rows.RowPlaces.{setting_key, counters_key, node_key, edge_key, list_key, slice_key, session_key, sustained_key, dropped_key, dead_key}

-- on an `unfolding` line: computes the bytes of rows and the rows of bytes
unfoldable pub rows_on_literals : ⊤
unfolding setting_bytes setting_of counters_bytes counters_of node_bytes node_of edge_bytes edge_of record_bytes list_bytes record_at records_at list_of slice_bytes slice_of session_bytes session_of_bytes sustained_of dropped_bytes dropped_of dead_bytes dead_of row_of is_utf8 chars lib.Utf8.encode
rows_on_literals = tt

-- a value is spelled as these bytes, and is read from them
abbrev pub IsRow : {A : Type 0} → (A → List ℕ) → (List ℕ → Option A) → A → List ℕ → Type 0
IsRow spelled read x bytes = (spelled x ≡ bytes) × (read bytes ≡ Some x)

-- table 0: version, block, trash days, capacity, inodes, hash, and name and bucket behind their lengths
abbrev pub setting : Setting
setting = record { version = 16909060; block = 131072; trash_days = 32769; capacity = 168496141; inodes = 1013046106685379605; hash = 1; name = codes "test"; bucket = codes "/b" }

pub setting_is : IsRow setting_bytes setting_of setting ((1 ∷ 2 ∷ 3 ∷ 4 ∷ [])
    ++ (0 ∷ 2 ∷ 0 ∷ 0 ∷ [])
    ++ (0 ∷ 0 ∷ 128 ∷ 1 ∷ [])
    ++ (0 ∷ 0 ∷ 0 ∷ 0 ∷ 10 ∷ 11 ∷ 12 ∷ 13 ∷ [])
    ++ (14 ∷ 15 ∷ 16 ∷ 17 ∷ 18 ∷ 19 ∷ 20 ∷ 21 ∷ [])
    ++ (1 ∷ [])
    ++ (4 ∷ 116 ∷ 101 ∷ 115 ∷ 116 ∷ [])
    ++ (0 ∷ 2 ∷ 47 ∷ 98 ∷ []))
unfolding rows_on_literals
setting_is = (refl, refl)

-- table 1: next inode, next slice, next session, used space, used inodes
abbrev pub counters : Counters
counters = record { inode = 258; slice = 772; session = 1286; used_space = 1800; used_inodes = 2314 }

pub counters_is : IsRow counters_bytes counters_of counters ((0 ∷ 0 ∷ 0 ∷ 0 ∷ 0 ∷ 0 ∷ 1 ∷ 2 ∷ [])
    ++ (0 ∷ 0 ∷ 0 ∷ 0 ∷ 0 ∷ 0 ∷ 3 ∷ 4 ∷ [])
    ++ (0 ∷ 0 ∷ 0 ∷ 0 ∷ 0 ∷ 0 ∷ 5 ∷ 6 ∷ [])
    ++ (0 ∷ 0 ∷ 0 ∷ 0 ∷ 0 ∷ 0 ∷ 7 ∷ 8 ∷ [])
    ++ (0 ∷ 0 ∷ 0 ∷ 0 ∷ 0 ∷ 0 ∷ 9 ∷ 10 ∷ []))
unfolding rows_on_literals
counters_is = (refl, refl)

-- table 2: kind, mode, uid, gid, nlink, mtime, ctime, length, parent
abbrev pub directory : Node
directory = record { kind = 2; mode = 493; uid = 772; gid = 1286; nlink = 1800; mtime = 2314; ctime = 2828; length = 4096; parent = 3342; target = [] }

pub directory_is : IsRow node_bytes node_of directory ((2 ∷ [])
    ++ (1 ∷ 237 ∷ [])
    ++ (0 ∷ 0 ∷ 3 ∷ 4 ∷ [])
    ++ (0 ∷ 0 ∷ 5 ∷ 6 ∷ [])
    ++ (0 ∷ 0 ∷ 7 ∷ 8 ∷ [])
    ++ (0 ∷ 0 ∷ 0 ∷ 0 ∷ 0 ∷ 0 ∷ 9 ∷ 10 ∷ [])
    ++ (0 ∷ 0 ∷ 0 ∷ 0 ∷ 0 ∷ 0 ∷ 11 ∷ 12 ∷ [])
    ++ (0 ∷ 0 ∷ 0 ∷ 0 ∷ 0 ∷ 0 ∷ 16 ∷ 0 ∷ [])
    ++ (0 ∷ 0 ∷ 0 ∷ 0 ∷ 0 ∷ 0 ∷ 13 ∷ 14 ∷ []))
unfolding rows_on_literals
directory_is = (refl, refl)

-- and a symlink, whose target is behind these
abbrev pub symlink : Node
symlink = record { kind = 3; mode = 511; uid = 772; gid = 1286; nlink = 1800; mtime = 2314; ctime = 2828; length = 2; parent = 0; target = codes "/t" }

pub symlink_is : IsRow node_bytes node_of symlink ((3 ∷ [])
    ++ (1 ∷ 255 ∷ [])
    ++ (0 ∷ 0 ∷ 3 ∷ 4 ∷ [])
    ++ (0 ∷ 0 ∷ 5 ∷ 6 ∷ [])
    ++ (0 ∷ 0 ∷ 7 ∷ 8 ∷ [])
    ++ (0 ∷ 0 ∷ 0 ∷ 0 ∷ 0 ∷ 0 ∷ 9 ∷ 10 ∷ [])
    ++ (0 ∷ 0 ∷ 0 ∷ 0 ∷ 0 ∷ 0 ∷ 11 ∷ 12 ∷ [])
    ++ (0 ∷ 0 ∷ 0 ∷ 0 ∷ 0 ∷ 0 ∷ 0 ∷ 2 ∷ [])
    ++ (0 ∷ 0 ∷ 0 ∷ 0 ∷ 0 ∷ 0 ∷ 0 ∷ 0 ∷ [])
    ++ (47 ∷ 116 ∷ []))
unfolding rows_on_literals
symlink_is = (refl, refl)

-- table 3: kind, inode
abbrev pub edge : Edge
edge = record { kind = 3; inode = 72623859790382856 }

pub edge_is : IsRow edge_bytes edge_of edge ((3 ∷ [])
    ++ (1 ∷ 2 ∷ 3 ∷ 4 ∷ 5 ∷ 6 ∷ 7 ∷ 8 ∷ []))
unfolding rows_on_literals
edge_is = (refl, refl)

-- table 4: records, each of position, slice, its size, offset and length
abbrev pub list : List Rec
list = record { pos = 258; id = 772; size = 1286; off = 7; len = 8 } ∷ record { pos = 3; id = 2; size = 2; off = 0; len = 2 } ∷ []

pub list_is : IsRow list_bytes list_of list ((0 ∷ 0 ∷ 1 ∷ 2 ∷ 0 ∷ 0 ∷ 0 ∷ 0 ∷ 0 ∷ 0 ∷ 3 ∷ 4 ∷ 0 ∷ 0 ∷ 5 ∷ 6 ∷ 0 ∷ 0 ∷ 0 ∷ 7 ∷ 0 ∷ 0 ∷ 0 ∷ 8 ∷ [])
    ++ (0 ∷ 0 ∷ 0 ∷ 3 ∷ 0 ∷ 0 ∷ 0 ∷ 0 ∷ 0 ∷ 0 ∷ 0 ∷ 2 ∷ 0 ∷ 0 ∷ 0 ∷ 2 ∷ 0 ∷ 0 ∷ 0 ∷ 0 ∷ 0 ∷ 0 ∷ 0 ∷ 2 ∷ []))
unfolding rows_on_literals
list_is = (refl, refl)

-- table 5: size, count
abbrev pub slice : SliceRow
slice = record { size = 258; count = 772 }

pub slice_is : IsRow slice_bytes slice_of slice ((0 ∷ 0 ∷ 1 ∷ 2 ∷ [])
    ++ (0 ∷ 0 ∷ 0 ∷ 0 ∷ 0 ∷ 0 ∷ 3 ∷ 4 ∷ []))
unfolding rows_on_literals
slice_is = (refl, refl)

-- table 6: client, expiry
abbrev pub session : Session
session = record { client = 5; expiry = 258 }

pub session_is : IsRow session_bytes session_of_bytes session ((5 ∷ [])
    ++ (0 ∷ 0 ∷ 0 ∷ 0 ∷ 0 ∷ 0 ∷ 1 ∷ 2 ∷ []))
unfolding rows_on_literals
session_is = (refl, refl)

-- table 7: nothing
pub sustained_is : IsRow (λ _. []) sustained_of tt []
unfolding rows_on_literals
sustained_is = (refl, refl)

-- table 8: length
abbrev pub dropped : Dropped
dropped = record { length = 72623859790382856 }

pub dropped_is : IsRow dropped_bytes dropped_of dropped ((1 ∷ 2 ∷ 3 ∷ 4 ∷ 5 ∷ 6 ∷ 7 ∷ 8 ∷ []))
unfolding rows_on_literals
dropped_is = (refl, refl)

-- table 9: size, the moment when it is due
abbrev pub dead : Dead
dead = record { size = 258; due = 772 }

pub dead_is : IsRow dead_bytes dead_of dead ((0 ∷ 0 ∷ 1 ∷ 2 ∷ [])
    ++ (0 ∷ 0 ∷ 0 ∷ 0 ∷ 0 ∷ 0 ∷ 3 ∷ 4 ∷ []))
unfolding rows_on_literals
dead_is = (refl, refl)

-- a row's place: its table, a number, and bytes
abbrev key : ℕ → ℕ → List ℕ → RowKey
key tab a b = record { tab = tab; a = a; b = b }

pub keys : (setting_key ≡ key 0 0 []) × (counters_key ≡ key 1 0 []) × (node_key 5 ≡ key 2 5 []) × (edge_key 5 (codes "n") ≡ key 3 5 (110 ∷ []))
    × (list_key 5 258 ≡ key 4 5 (0 ∷ 0 ∷ 1 ∷ 2 ∷ [])) × (slice_key 5 ≡ key 5 5 []) × (session_key 5 ≡ key 6 5 [])
    × (sustained_key 5 258 ≡ key 7 5 (0 ∷ 0 ∷ 0 ∷ 0 ∷ 0 ∷ 0 ∷ 1 ∷ 2 ∷ [])) × (dropped_key 5 ≡ key 8 5 []) × (dead_key 5 ≡ key 9 5 [])
keys = (refl, refl, refl, refl, refl, refl, refl, refl, refl, refl)

-- no bytes are no list, nor is half a record; a session has no byte too many; there is no kind 4, and no table 10
pub malformed : (list_of [] ≡ None) × (list_of (0 ∷ 0 ∷ 0 ∷ 3 ∷ []) ≡ None) × (session_of_bytes (5 ∷ 0 ∷ 0 ∷ 0 ∷ 0 ∷ 0 ∷ 0 ∷ 1 ∷ 2 ∷ 0 ∷ []) ≡ None)
    × (edge_of (4 ∷ 1 ∷ 2 ∷ 3 ∷ 4 ∷ 5 ∷ 6 ∷ 7 ∷ 8 ∷ []) ≡ None) × (row_of 10 [] ≡ None)
unfolding rows_on_literals
malformed = (refl, refl, refl, refl, refl)
