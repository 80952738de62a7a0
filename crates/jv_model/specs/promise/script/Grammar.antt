-- The whole grammar of a script: which line a text is, if it is one. A text is the bytes of a line
-- without its line feed.
use Rattle.std.specs.Prelude.{ℕ, ◌%◌, Bool, true, false, ◌&&◌, not, ◌==◌, nat_lt, nat_le, if◌then◌else◌, List, [], ◌∷◌, ◌++◌, length, replicate, Option, None, Some, option_map, codes, bytes_eq, sum_by}
use Rattle.std.specs.List.{list_all, flat_map}
use Rattle.jv_model.specs.declared.limits.TheConstants.{MAX_TICK, MAX_DATA, LAST_MOMENT}
use Rattle.jv_model.specs.declared.options.TheConstants.{MAX_SHORT_NUMBER}
use Rattle.jv_model.specs.declared.basics.How.{How}
use Rattle.jv_model.specs.declared.basics.How.TheVariants as how
use Rattle.jv_model.specs.declared.op.Op.{Op}
use Rattle.jv_model.specs.declared.op.Op.TheVariants.{Mount, Umount, Beat, Lookup, Stat, Lstat, Fstat, Mkdir, Create, Open, Close, Flush, Read, Write, Truncate, Copy, Readdir, Chmod, Chown, Utimes, Statfs, Symlink, Readlink, Unlink, Rmdir, Link, Rename, Compact, Clean, Gc, Upload, Stats}
use Rattle.jv_model.specs.declared.op.Line.{Line}
use Rattle.jv_model.specs.declared.op.Line.TheVariants.{Empty, Do, Begin, Step, Run, Crash, Drain, Tick}
use Rattle.jv_model.specs.promise.Optional.{◌>>=◌}
use Rattle.jv_model.specs.promise.script.Spelling.{words, at_most, number_of, length_of, mode_of, is_hex_digit, bytes_of_digits, client_of, is_silent, byte_of}
use Rattle.jv_model.specs.promise.script.Printed.{DataPart, Plain, Repeated}
use Rattle.jv_model.specs.promise.tree.Walk.{is_absolute}
use Rattle.jv_model.specs.promise.Optional.{provided}
use Rattle.jv_model.specs.promise.Lists.{parted}

-- a number up to a limit of less than 64 bits
unfoldable pub number_up_to : ℕ → List ℕ → Option ℕ
number_up_to limit text = do
  n ← number_of text
  at_most limit n

-- the seconds of a tick: 1 to MAX_TICK
unfoldable pub seconds_of : List ℕ → Option ℕ
seconds_of text = do
  n ← number_up_to MAX_TICK text
  provided (nat_lt 0 n) n

-- a byte that is written as itself: 0x21 to 0x7E, but for `%`
abbrev pub is_plain : ℕ → Bool
is_plain c = nat_le 33 c && nat_le c 126 && not (c == 37)

-- what may stand between a `%` and the next: the two digits of a byte other than 0, and bytes that
-- are written as themselves
abbrev pub is_escape : List ℕ → Bool
is_escape (high ∷ low ∷ plain) =
    is_hex_digit high && is_hex_digit low && nat_lt 0 (byte_of high low) && list_all is_plain plain
is_escape _ = false

-- what it spells
abbrev pub escape_bytes : List ℕ → List ℕ
escape_bytes (high ∷ low ∷ plain) = byte_of high low ∷ plain
escape_bytes _ = []

-- the bytes that a text spells, given its parts between the `%`
abbrev pub bytes_of_escapes : List (List ℕ) → Option (List ℕ)
bytes_of_escapes [] = None
bytes_of_escapes (plain ∷ escapes) =
    provided (list_all is_plain plain && list_all is_escape escapes)
    (plain ++ flat_map escape_bytes escapes)

-- the bytes that a text with escapes spells
unfoldable pub unescaped : List ℕ → Option (List ℕ)
unescaped text = bytes_of_escapes (parted 37 text)

-- a path is its bytes, of which the first is a slash: `%2Fa` is the path `/a`
unfoldable pub path_of : List ℕ → Option (List ℕ)
path_of text = do
  path ← unescaped text
  provided (is_absolute path) path

-- the target of a symlink: at least one byte
unfoldable pub target_of : List ℕ → Option (List ℕ)
target_of text = do
  target ← unescaped text
  provided (nat_lt 0 (length target)) target

-- one byte or more as pairs of hexadecimal digits
abbrev pub is_pairs : List ℕ → Bool
is_pairs text = nat_lt 0 (length text) && (length text % 2 == 0) && list_all is_hex_digit text

-- `HHxN`: the byte of two digits, N times, N at least 1
unfoldable pub repeated_of : List ℕ → Option DataPart
repeated_of (high ∷ low ∷ x ∷ digits) = do
  count ← number_of digits
  provided (is_hex_digit high && is_hex_digit low && (x == 120) && nat_lt 0 count)
      (Repeated (record { byte = byte_of high low; count = count }))
repeated_of _ = None

-- a part of the bytes of a write
unfoldable pub part_of : List ℕ → Option DataPart
part_of text = (if is_pairs text then Some (Plain (bytes_of_digits text)) else repeated_of text)

-- how many bytes a part has, and which
abbrev pub part_length : DataPart → ℕ
part_length (Plain bytes) = length bytes
part_length (Repeated run) = run.count

abbrev pub part_bytes : DataPart → List ℕ
part_bytes (Plain bytes) = bytes
part_bytes (Repeated run) = replicate run.count run.byte

-- the parts of texts, if each of them is one
abbrev pub all_parts_of : List (List ℕ) → Option (List DataPart)
all_parts_of [] = Some []
all_parts_of (text ∷ texts) = do
  part ← part_of text
  parts ← all_parts_of texts
  Some (part ∷ parts)

-- the bytes of parts, at most MAX_DATA
unfoldable pub bytes_of_parts : List (List ℕ) → Option (List ℕ)
bytes_of_parts texts = do
  parts ← all_parts_of texts
  _ ← at_most MAX_DATA (sum_by part_length parts)
  Some (flat_map part_bytes parts)

-- the bytes of a write: `-` for none, or parts joined by `+`
unfoldable pub data_of : List ℕ → Option (List ℕ)
data_of text = (if bytes_eq text (codes "-") then Some [] else bytes_of_parts (parted 43 text))

-- operations that take nothing
unfoldable pub operation_of_none : List ℕ → Option Op
operation_of_none name = (if bytes_eq name (codes "mount") then Some (Mount false)
    else if bytes_eq name (codes "umount") then Some Umount
    else if bytes_eq name (codes "beat") then Some Beat
    else if bytes_eq name (codes "statfs") then Some Statfs
    else if bytes_eq name (codes "clean") then Some Clean
    else if bytes_eq name (codes "gc") then Some (Gc false)
    else if bytes_eq name (codes "upload") then Some Upload
    else if bytes_eq name (codes "stats") then Some Stats
    else None)

-- operations on a path alone
unfoldable pub operation_of_path : List ℕ → List ℕ → Option Op
operation_of_path name word =
    (if bytes_eq name (codes "lookup") then option_map Lookup (path_of word)
    else if bytes_eq name (codes "stat") then option_map Stat (path_of word)
    else if bytes_eq name (codes "lstat") then option_map Lstat (path_of word)
    else if bytes_eq name (codes "open") then option_map Open (path_of word)
    else if bytes_eq name (codes "readdir") then option_map Readdir (path_of word)
    else if bytes_eq name (codes "readlink") then option_map Readlink (path_of word)
    else if bytes_eq name (codes "unlink") then option_map Unlink (path_of word)
    else if bytes_eq name (codes "rmdir") then option_map Rmdir (path_of word)
    else None)

-- operations of one word
unfoldable pub operation_of_one : List ℕ → List ℕ → Option Op
operation_of_one name word =
    (if bytes_eq name (codes "mount") then provided (bytes_eq word (codes "writeback")) (Mount true)
    else if bytes_eq name (codes "gc") then provided (bytes_eq word (codes "delete")) (Gc true)
    else if bytes_eq name (codes "fstat") then option_map Fstat (number_of word)
    else if bytes_eq name (codes "close") then option_map Close (number_of word)
    else if bytes_eq name (codes "flush") then option_map Flush (number_of word)
    else operation_of_path name word)

unfoldable pub symlink_of : List ℕ → List ℕ → Option Op
symlink_of first second = do
  target ← target_of first
  path ← path_of second
  Some (Symlink target path)

-- two paths
unfoldable pub two_paths_of : List ℕ → List ℕ → Option (List ℕ × List ℕ)
two_paths_of first second = do
  path ← path_of first
  to ← path_of second
  Some (path, to)

-- a path and a mode
unfoldable pub path_and_mode_of : List ℕ → List ℕ → Option (List ℕ × ℕ)
path_and_mode_of first second = do
  path ← path_of first
  mode ← mode_of second
  Some (path, mode)

unfoldable pub truncate_of : List ℕ → List ℕ → Option Op
truncate_of first second = do
  handle ← number_of first
  len ← number_of second
  Some (Truncate handle len)

-- the time is at most the last moment
unfoldable pub utimes_of : List ℕ → List ℕ → Option Op
utimes_of first second = do
  path ← path_of first
  mtime ← number_up_to LAST_MOMENT second
  Some (Utimes path mtime)

unfoldable pub compact_of : List ℕ → List ℕ → Option Op
compact_of first second = do
  path ← path_of first
  window ← number_up_to MAX_SHORT_NUMBER second
  Some (Compact path window)

-- operations of two words: those of two paths, or of a target and a path, behind the others
unfoldable pub operation_of_two_names : List ℕ → List ℕ → List ℕ → Option Op
operation_of_two_names name first second =
    (if bytes_eq name (codes "symlink") then symlink_of first second
    else if bytes_eq name (codes "link")
    then option_map (λ both. Link both.0 both.1) (two_paths_of first second)
    else if bytes_eq name (codes "rename")
    then option_map (λ both. Rename both.0 both.1 how.Plain) (two_paths_of first second)
    else None)

unfoldable pub operation_of_two : List ℕ → List ℕ → List ℕ → Option Op
operation_of_two name first second =
    (if bytes_eq name (codes "mkdir") then option_map (λ both.
    Mkdir both.0 both.1) (path_and_mode_of first second)
    else if bytes_eq name (codes "create")
    then option_map (λ both. Create both.0 both.1) (path_and_mode_of first second)
    else if bytes_eq name (codes "chmod")
    then option_map (λ both. Chmod both.0 both.1) (path_and_mode_of first second)
    else if bytes_eq name (codes "truncate") then truncate_of first second
    else if bytes_eq name (codes "utimes") then utimes_of first second
    else if bytes_eq name (codes "compact") then compact_of first second
    else operation_of_two_names name first second)

unfoldable pub read_of : List ℕ → List ℕ → List ℕ → Option Op
read_of first second third = do
  handle ← number_of first
  offset ← number_of second
  len ← length_of third
  Some (Read handle offset len)

unfoldable pub write_of : List ℕ → List ℕ → List ℕ → Option Op
write_of first second third = do
  handle ← number_of first
  offset ← number_of second
  bytes ← data_of third
  Some (Write handle offset bytes)

unfoldable pub chown_of : List ℕ → List ℕ → List ℕ → Option Op
chown_of first second third = do
  path ← path_of first
  uid ← number_up_to MAX_SHORT_NUMBER second
  gid ← number_up_to MAX_SHORT_NUMBER third
  Some (Chown path uid gid)

-- how a rename treats a target that is there
unfoldable pub how_of : List ℕ → Option How
how_of word = (if bytes_eq word (codes "noreplace") then Some how.NoReplace
    else if bytes_eq word (codes "exchange") then Some how.Exchange
    else None)

unfoldable pub rename_of : List ℕ → List ℕ → List ℕ → Option Op
rename_of first second third = do
  form ← how_of third
  both ← two_paths_of first second
  Some (Rename both.0 both.1 form)

-- operations of three words
unfoldable pub operation_of_three : List ℕ → List ℕ → List ℕ → List ℕ → Option Op
operation_of_three name first second third =
    (if bytes_eq name (codes "read") then read_of first second third
    else if bytes_eq name (codes "write") then write_of first second third
    else if bytes_eq name (codes "chown") then chown_of first second third
    else if bytes_eq name (codes "rename") then rename_of first second third
    else None)

-- a handle and an offset to copy from, a handle and an offset to copy to, and a length
unfoldable pub copy_of : List ℕ → List ℕ → List ℕ → List ℕ → List ℕ → Option Op
copy_of first second third fourth fifth = do
  source ← number_of first
  offset ← number_of second
  target ← number_of third
  to ← number_of fourth
  len ← number_of fifth
  Some (Copy source offset target to len)

-- the operation of a name and the words that it takes
unfoldable pub operation_of : List ℕ → List (List ℕ) → Option Op
operation_of name [] = operation_of_none name
operation_of name (a ∷ []) = operation_of_one name a
operation_of name (a ∷ b ∷ []) = operation_of_two name a b
operation_of name (a ∷ b ∷ c ∷ []) = operation_of_three name a b c
operation_of name (_ ∷ _ ∷ _ ∷ _ ∷ []) = None
operation_of name (a ∷ b ∷ c ∷ d ∷ e ∷ []) =
    (if bytes_eq name (codes "copy") then copy_of a b c d e else None)
operation_of name (_ ∷ _ ∷ _ ∷ _ ∷ _ ∷ _ ∷ _) = None

-- an operation that is submitted alone
unfoldable pub begin_of : ℕ → List (List ℕ) → Option Line
begin_of client [] = None
begin_of client (name ∷ arguments) = option_map (Begin client) (operation_of name arguments)

-- the line, where no word is left
abbrev pub where_last : List (List ℕ) → Option Line → Option Line
where_last [] line = line
where_last (_ ∷ _) line = None

-- what follows a client's letter
unfoldable pub client_line_of : ℕ → List ℕ → List (List ℕ) → Option Line
client_line_of client name arguments =
    (if bytes_eq name (codes "begin") then begin_of client arguments
    else if bytes_eq name (codes "step") then where_last arguments (Some (Step client))
    else if bytes_eq name (codes "run") then where_last arguments (Some (Run client))
    else if bytes_eq name (codes "crash") then where_last arguments (Some (Crash client))
    else option_map (Do client) (operation_of name arguments))

-- the line of its words
unfoldable pub command_of : List (List ℕ) → Option Line
command_of [] = None
command_of (_ ∷ []) = None
command_of (first ∷ second ∷ rest) =
    (if bytes_eq first (codes "drain") then where_last rest (option_map Drain (client_of second))
    else if bytes_eq first (codes "tick") then where_last rest (option_map Tick (seconds_of second))
    else client_of first >>= (λ client. client_line_of client second rest))

-- the line that a text is
unfoldable pub line_of : List ℕ → Option Line
line_of text = (if is_silent text then Some Empty else command_of (words text))
