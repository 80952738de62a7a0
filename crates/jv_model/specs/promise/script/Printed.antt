-- The parts of printed answers: bytes, faults and numbers.
use Rattle.std.specs.Prelude.{ℕ, ◌+◌, ◌/◌, ◌%◌, ◌==◌, nat_le, if◌then◌else◌, List, [], ◌∷◌, ◌++◌, map, replicate, slice_index, codes, decimal}
use Rattle.std.specs.List.{flat_map, join_with_byte}
use Rattle.jv_model.specs.declared.fault.Device.{Device}
use Rattle.jv_model.specs.declared.fault.Device.TheVariants.{Keeper, Depot, Shelf, Carrier}
use Rattle.jv_model.specs.declared.fault.Gone.{Gone}
use Rattle.jv_model.specs.declared.fault.Gone.TheVariants.{Session, Node}
use Rattle.jv_model.specs.declared.fault.Busy.{Busy}
use Rattle.jv_model.specs.declared.fault.Busy.TheVariants.{Misses, Lists}
use Rattle.jv_model.specs.declared.fault.Fault.{Fault}
use Rattle.jv_model.specs.declared.fault.Fault.TheVariants as fault

-- the lower-case hexadecimal digit of a number below 16
abbrev pub hex_digit : ℕ → ℕ
hex_digit n = slice_index (codes "0123456789abcdef") n

-- the two digits of a byte, the high one first
abbrev pub hex_pair : ℕ → List ℕ
hex_pair byte = hex_digit (byte / 16) ∷ hex_digit (byte % 16) ∷ []

-- equal bytes in a row, as many as there are
pub record ByteRepeat : Type 0 where
  pub byte : ℕ
  pub count : ℕ

-- the repeats after one more byte in front
abbrev pub with_byte : ℕ → List ByteRepeat → List ByteRepeat
with_byte byte [] = record { byte = byte; count = 1 } ∷ []
with_byte byte (repeat ∷ repeats) = (if byte == repeat.byte
    then record { byte = byte; count = repeat.count + 1 } ∷ repeats
    else record { byte = byte; count = 1 } ∷ repeat ∷ repeats)

-- bytes as their repeats
abbrev pub repeats_of : List ℕ → List ByteRepeat
repeats_of [] = []
repeats_of (byte ∷ bytes) = with_byte byte (repeats_of bytes)

-- a part of printed bytes: plain digits, or a byte and how often it stands
pub data DataPart : Type 0 where
  Plain : List ℕ → DataPart
  Repeated : ByteRepeat → DataPart

-- the parts after one more short repeat in front, which goes into a plain part that is first
abbrev pub with_short : List ℕ → List DataPart → List DataPart
with_short bytes [] = Plain bytes ∷ []
with_short bytes (Plain more ∷ parts) = Plain (bytes ++ more) ∷ parts
with_short bytes (Repeated repeat ∷ parts) = Plain bytes ∷ Repeated repeat ∷ parts

-- a repeat of four or more is a part of its own, and shorter ones that stand side by side are one part
abbrev pub parts_of : List ByteRepeat → List DataPart
parts_of [] = []
parts_of (repeat ∷ repeats) = (if nat_le 4 repeat.count
    then Repeated repeat ∷ parts_of repeats
    else with_short (replicate repeat.count repeat.byte) (parts_of repeats))

-- digits, or `HHxN`
abbrev pub part_text : DataPart → List ℕ
part_text (Plain bytes) = flat_map hex_pair bytes
part_text (Repeated repeat) = hex_pair repeat.byte ++ 120 ∷ decimal repeat.count

-- bytes as DATA: `-` for none, else the parts joined by `+`
unfoldable pub data_text : List ℕ → List ℕ
data_text [] = codes "-"
data_text (byte ∷ bytes) = join_with_byte 43 (map part_text (parts_of (repeats_of (byte ∷ bytes))))

abbrev pub device_name : Device → List ℕ
device_name Keeper = codes "keeper"
device_name Depot = codes "depot"
device_name Shelf = codes "shelf"
device_name Carrier = codes "carrier"

-- the error's name in POSIX
unfoldable pub fault_name : Fault → List ℕ
fault_name fault.NotFound = codes "ENOENT"
fault_name fault.AlreadyExists = codes "EEXIST"
fault_name fault.NotADirectory = codes "ENOTDIR"
fault_name fault.IsADirectory = codes "EISDIR"
fault_name fault.DirectoryNotEmpty = codes "ENOTEMPTY"
fault_name fault.Invalid = codes "EINVAL"
fault_name fault.NameTooLong = codes "ENAMETOOLONG"
fault_name fault.BadHandle = codes "EBADF"
fault_name fault.NoSpace = codes "ENOSPC"
fault_name fault.FileTooLarge = codes "EFBIG"
fault_name fault.SymlinkLoop = codes "ELOOP"
fault_name fault.NotPermitted = codes "EPERM"
fault_name fault.TooManyHandles = codes "EMFILE"
fault_name (fault.TryAgain _) = codes "EAGAIN"
fault_name (fault.Stale _) = codes "ESTALE"
fault_name (fault.TimedOut _ _) = codes "ETIMEDOUT"
fault_name (fault.Contended _) = codes "EBUSY"
fault_name (fault.DeviceFailed _) = codes "EIO"
fault_name fault.NotConnected = codes "ENOTCONN"
fault_name fault.InProgress = codes "EALREADY"
fault_name fault.NoMemory = codes "ENOMEM"

-- a space and a number
abbrev pub number_word : ℕ → List ℕ
number_word n = 32 ∷ decimal n

abbrev pub gone_words : Gone → List ℕ
gone_words (Session sid) = codes " session" ++ number_word sid
gone_words (Node inode) = codes " inode" ++ number_word inode

abbrev pub busy_words : Busy → List ℕ
busy_words (Misses times) = codes " misses" ++ number_word times
busy_words (Lists looked found) = codes " list" ++ number_word looked ++ number_word found

-- what follows the name: the Commit, what is gone, the two moments, why it is busy, the device
unfoldable pub fault_words : Fault → List ℕ
fault_words (fault.TryAgain commit) = number_word commit
fault_words (fault.Stale gone) = gone_words gone
fault_words (fault.TimedOut started now) = number_word started ++ number_word now
fault_words (fault.Contended busy) = busy_words busy
fault_words (fault.DeviceFailed device) = 32 ∷ device_name device
fault_words _ = []

abbrev pub fault_text : Fault → List ℕ
fault_text f = fault_name f ++ fault_words f

-- a success and the numbers that it has
abbrev pub ok_text : List ℕ → List ℕ
ok_text numbers = codes "ok" ++ flat_map number_word numbers
