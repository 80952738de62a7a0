-- The grammar of rows, version 1: what a value of each table may be, its one spelling, and the
-- value that bytes spell, if they do.
use Rattle.std.specs.Prelude.{ℕ, ◌-◌, ◌*◌, ◌/◌, zero, suc, Bool, true, ◌&&◌, ◌||◌, not, ◌==◌, nat_le, if◌then◌else◌, List, [], ◌∷◌, ◌++◌, length, slice_index, Option, None, Some}
use Rattle.std.specs.List.{flat_map, list_all}
use Rattle.std.specs.Option.{option_map}
use Rattle.std.specs.Str.{is_utf8}
use Rattle.jv_model.specs.declared.tables.TheConstants.{TABLE_OF_SETTING, TABLE_OF_COUNTERS, TABLE_OF_NODES, TABLE_OF_EDGES, TABLE_OF_LISTS, TABLE_OF_SLICES, TABLE_OF_SESSIONS, TABLE_OF_SUSTAINED, TABLE_OF_DROPPED, TABLE_OF_DEAD, RECORD_LENGTH}
use Rattle.jv_model.specs.declared.limits.TheConstants.{MIN_BLOCK, MAX_BLOCK, MIN_VOLUME_NAME, MAX_VOLUME_NAME, MAX_BUCKET, MAX_TRASH_DAYS, MAX_CAPACITY, FULL_COUNT, DIRECTORY_LENGTH, MAX_PATH, MAX_MODE, LAST_CLIENT}
use Rattle.jv_model.specs.declared.setting.Setting.{Setting}
use Rattle.jv_model.specs.declared.slice.Rec.{Rec}
use Rattle.jv_model.specs.declared.row.Counters.{Counters}
use Rattle.jv_model.specs.declared.row.Node.{Node}
use Rattle.jv_model.specs.declared.row.Edge.{Edge}
use Rattle.jv_model.specs.declared.row.SliceRow.{SliceRow}
use Rattle.jv_model.specs.declared.row.Session.{Session}
use Rattle.jv_model.specs.declared.row.Dropped.{Dropped}
use Rattle.jv_model.specs.declared.row.Dead.{Dead}
use Rattle.jv_model.specs.declared.row.Row.{Row}
use Rattle.jv_model.specs.declared.row.Row.TheVariants.{OfSetting, OfCounters, OfNode, OfEdge, OfList, OfSlice, OfSession, OfSustained, OfDropped, OfDead}
use Rattle.jv_model.specs.promise.blocks.Slices.{is_record}
use Rattle.jv_model.specs.promise.Optional.{◌>>=◌}
use Rattle.jv_model.specs.promise.rows.RowFields.{byte, half, word, long, byte_at, front_at, half_at, word_at, long_at, whole}
use Rattle.jv_model.specs.promise.Lists.{is_nil, is_among, has_no_zero}

-- ---- table 0: what the volume was formatted with

-- the powers of two from 64 KiB to 16 MiB
abbrev pub block_sizes : List ℕ
block_sizes = MIN_BLOCK ∷ 2 * MIN_BLOCK ∷ 4 * MIN_BLOCK ∷ 8 * MIN_BLOCK ∷ 16 * MIN_BLOCK
    ∷ 32 * MIN_BLOCK ∷ 64 * MIN_BLOCK ∷ 128 * MIN_BLOCK ∷ MAX_BLOCK ∷ []

abbrev pub is_block_length : ℕ → Bool
is_block_length size = is_among size block_sizes

-- a lower-case letter, a digit or `-`
abbrev pub is_name_byte : ℕ → Bool
is_name_byte c = (nat_le 97 c && nat_le c 122) || (nat_le 48 c && nat_le c 57) || c == 45

-- a volume's name has MIN_VOLUME_NAME to MAX_VOLUME_NAME of these, and `-` neither first nor last
abbrev pub is_volume_name : List ℕ → Bool
is_volume_name name = nat_le MIN_VOLUME_NAME (length name) && nat_le (length name) MAX_VOLUME_NAME
    && list_all is_name_byte name && not (slice_index name 0 == 45)
    && not (slice_index name (length name - 1) == 45)

abbrev pub is_bucket : List ℕ → Bool
is_bucket bucket = nat_le 1 (length bucket) && nat_le (length bucket) MAX_BUCKET && is_utf8 bucket

-- of any version from 1 on
abbrev pub is_setting : Setting → Bool
is_setting s = nat_le 1 s.version && is_block_length s.block && nat_le s.trash_days MAX_TRASH_DAYS
    && nat_le s.capacity MAX_CAPACITY && nat_le s.inodes FULL_COUNT && nat_le s.hash 1
    && is_volume_name s.name && is_bucket s.bucket

unfoldable pub setting_bytes : Setting → List ℕ
setting_bytes s = word s.version ++ word s.block ++ word s.trash_days ++ long s.capacity
    ++ long s.inodes ++ byte s.hash ++ byte (length s.name) ++ s.name ++ half (length s.bucket)
    ++ s.bucket

unfoldable pub setting_of : List ℕ → Option Setting
setting_of bytes = do
  version ← word_at bytes
  block ← word_at version.1
  trash_days ← word_at block.1
  capacity ← long_at trash_days.1
  inodes ← long_at capacity.1
  hash ← byte_at inodes.1
  name_length ← byte_at hash.1
  name ← front_at name_length.0 name_length.1
  bucket_length ← half_at name.1
  bucket ← front_at bucket_length.0 bucket_length.1
  whole is_setting (record {
    version = version.0;
    block = block.0;
    trash_days = trash_days.0;
    capacity = capacity.0;
    inodes = inodes.0;
    hash = hash.0;
    name = name.0;
    bucket = bucket.0;
  }) bucket.1

-- ---- table 1: the next numbers, and the running totals
abbrev pub is_counters : Counters → Bool
is_counters c = nat_le 1 c.inode && nat_le 1 c.slice && nat_le 1 c.session

unfoldable pub counters_bytes : Counters → List ℕ
counters_bytes c =
    long c.inode ++ long c.slice ++ long c.session ++ long c.used_space ++ long c.used_inodes

unfoldable pub counters_of : List ℕ → Option Counters
counters_of bytes = do
  inode ← long_at bytes
  slice ← long_at inode.1
  session ← long_at slice.1
  used_space ← long_at session.1
  used_inodes ← long_at used_space.1
  whole is_counters (record {
    inode = inode.0;
    slice = slice.0;
    session = session.0;
    used_space = used_space.0;
    used_inodes = used_inodes.0;
  }) used_inodes.1

-- ---- table 2: an inode
-- a file has no parent of its own, since it may have several links
abbrev pub is_file : Node → Bool
is_file n = n.parent == 0 && is_nil n.target

abbrev pub is_directory_row : Node → Bool
is_directory_row n = n.length == DIRECTORY_LENGTH && is_nil n.target

-- 1 to MAX_PATH bytes without the byte 0
abbrev pub is_target : List ℕ → Bool
is_target target = nat_le 1 (length target) && nat_le (length target) MAX_PATH && has_no_zero target

abbrev pub is_symlink : Node → Bool
is_symlink n = n.parent == 0 && n.length == length n.target && is_target n.target

abbrev pub is_of_kind : Node → Bool
is_of_kind n = if n.kind == 1 then is_file n else if n.kind == 2 then is_directory_row n
    else n.kind == 3 && is_symlink n

abbrev pub is_node : Node → Bool
is_node n = nat_le n.mode MAX_MODE && is_of_kind n

unfoldable pub node_bytes : Node → List ℕ
node_bytes n = byte n.kind ++ half n.mode ++ word n.uid ++ word n.gid ++ word n.nlink
    ++ long n.mtime ++ long n.ctime ++ long n.length ++ long n.parent ++ n.target

-- the target is all that is left
unfoldable pub node_of : List ℕ → Option Node
node_of bytes = do
  kind ← byte_at bytes
  mode ← half_at kind.1
  uid ← word_at mode.1
  gid ← word_at uid.1
  nlink ← word_at gid.1
  mtime ← long_at nlink.1
  ctime ← long_at mtime.1
  length ← long_at ctime.1
  parent ← long_at length.1
  whole is_node (record {
    kind = kind.0;
    mode = mode.0;
    uid = uid.0;
    gid = gid.0;
    nlink = nlink.0;
    mtime = mtime.0;
    ctime = ctime.0;
    length = length.0;
    parent = parent.0;
    target = parent.1;
  }) []

-- ---- table 3: an entry of a directory
abbrev pub is_edge : Edge → Bool
is_edge e = nat_le 1 e.kind && nat_le e.kind 3

unfoldable pub edge_bytes : Edge → List ℕ
edge_bytes e = byte e.kind ++ long e.inode

unfoldable pub edge_of : List ℕ → Option Edge
edge_of bytes = do
  kind ← byte_at bytes
  inode ← long_at kind.1
  whole is_edge (record { kind = kind.0; inode = inode.0 }) inode.1

-- ---- table 4: the records of a window
-- one or more
abbrev pub is_list : List Rec → Bool
is_list rs = not (is_nil rs) && list_all is_record rs

unfoldable pub record_bytes : Rec → List ℕ
record_bytes r = word r.pos ++ long r.id ++ word r.size ++ word r.off ++ word r.len

unfoldable pub list_bytes : List Rec → List ℕ
list_bytes rs = flat_map record_bytes rs

unfoldable pub record_at : List ℕ → Option (Rec × List ℕ)
record_at bytes = do
  pos ← word_at bytes
  id ← long_at pos.1
  size ← word_at id.1
  off ← word_at size.1
  len ← word_at off.1
  Some (record { pos = pos.0; id = id.0; size = size.0; off = off.0; len = len.0 }, len.1)

-- a number of records
unfoldable pub records_at : ℕ → List ℕ → Option (List Rec × List ℕ)
records_at zero bytes = Some ([], bytes)
records_at (suc n) bytes = do
  first ← record_at bytes
  others ← records_at n first.1
  Some (first.0 ∷ others.0, others.1)

-- records, each of RECORD_LENGTH bytes
unfoldable pub list_of : List ℕ → Option (List Rec)
list_of bytes = do
  records ← records_at (length bytes / RECORD_LENGTH) bytes
  whole is_list records.0 records.1

-- ---- table 5: a slice
abbrev pub is_slice : SliceRow → Bool
is_slice s = nat_le 1 s.count

unfoldable pub slice_bytes : SliceRow → List ℕ
slice_bytes s = word s.size ++ long s.count

unfoldable pub slice_of : List ℕ → Option SliceRow
slice_of bytes = do
  size ← word_at bytes
  count ← long_at size.1
  whole is_slice (record { size = size.0; count = count.0 }) count.1

-- ---- table 6: a mounted client
abbrev pub is_session : Session → Bool
is_session s = nat_le s.client LAST_CLIENT

unfoldable pub session_bytes : Session → List ℕ
session_bytes s = byte s.client ++ long s.expiry

unfoldable pub session_of_bytes : List ℕ → Option Session
session_of_bytes bytes = do
  client ← byte_at bytes
  expiry ← long_at client.1
  whole is_session (record { client = client.0; expiry = expiry.0 }) expiry.1

-- ---- table 7: a session keeps an unlinked file, and the key says it all
unfoldable pub sustained_of : List ℕ → Option (Unit {0})
sustained_of bytes = whole (λ _. true) tt bytes

-- ---- table 8: a file that is gone
unfoldable pub dropped_bytes : Dropped → List ℕ
dropped_bytes d = long d.length

unfoldable pub dropped_of : List ℕ → Option Dropped
dropped_of bytes = do
  length ← long_at bytes
  whole (λ _. true) (record { length = length.0 }) length.1

-- ---- table 9: a slice that is gone
unfoldable pub dead_bytes : Dead → List ℕ
dead_bytes d = word d.size ++ long d.due

unfoldable pub dead_of : List ℕ → Option Dead
dead_of bytes = do
  size ← word_at bytes
  due ← long_at size.1
  whole (λ _. true) (record { size = size.0; due = due.0 }) due.1

-- ---- any table
-- the row that the bytes spell in the table of that number
unfoldable pub row_of : ℕ → List ℕ → Option Row
row_of tab bytes =
    if tab == TABLE_OF_SETTING then option_map OfSetting (setting_of bytes) else
    if tab == TABLE_OF_COUNTERS then option_map OfCounters (counters_of bytes) else
    if tab == TABLE_OF_NODES then option_map OfNode (node_of bytes) else
    if tab == TABLE_OF_EDGES then option_map OfEdge (edge_of bytes) else
    if tab == TABLE_OF_LISTS then option_map OfList (list_of bytes) else
    if tab == TABLE_OF_SLICES then option_map OfSlice (slice_of bytes) else
    if tab == TABLE_OF_SESSIONS then option_map OfSession (session_of_bytes bytes) else
    if tab == TABLE_OF_SUSTAINED then option_map (λ _. OfSustained) (sustained_of bytes) else
    if tab == TABLE_OF_DROPPED then option_map OfDropped (dropped_of bytes) else
    if tab == TABLE_OF_DEAD then option_map OfDead (dead_of bytes) else
    None

-- its bytes
abbrev pub row_bytes : Row → List ℕ
row_bytes (OfSetting s) = setting_bytes s
row_bytes (OfCounters c) = counters_bytes c
row_bytes (OfNode n) = node_bytes n
row_bytes (OfEdge e) = edge_bytes e
row_bytes (OfList rs) = list_bytes rs
row_bytes (OfSlice s) = slice_bytes s
row_bytes (OfSession s) = session_bytes s
row_bytes OfSustained = []
row_bytes (OfDropped d) = dropped_bytes d
row_bytes (OfDead d) = dead_bytes d
