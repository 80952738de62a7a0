-- What each end of a command is to the caller.
use Rattle.std.specs.Prelude.{ℕ, List, [], ◌∷◌, ◌++◌, codes, decimal}
use Rattle.std.specs.List.{flat_map}
use Rattle.jv_model.specs.declared.row.RowKey.{RowKey}
use Rattle.jv_model.specs.promise.script.Printed.{hex_pair}
use Rattle.jv_cmd.specs.declared.ended.TheConstants.{OUT_OF_MEMORY}
use Rattle.jv_cmd.specs.declared.ended.Ended.{Ended}
use Rattle.jv_cmd.specs.declared.ended.Ended.TheVariants.{Succeeded, LineNotRun, NoVolume, VolumeExists, NewerVersion, MalformedSetting, BadRow, SourceFailed, OutFailed, ClockFailed, KeeperFailed, DepotFailed, CarrierFailed, ShelfFailed, OutOfMemory}

-- bytes as pairs of hexadecimal digits, or a dash where there are none
abbrev pub digits_or_dash : List ℕ → List ℕ
digits_or_dash [] = codes "-"
digits_or_dash (byte ∷ bytes) = flat_map hex_pair (byte ∷ bytes)

-- the table of a row and the two parts of its key
abbrev pub key_text : RowKey → List ℕ
key_text key = decimal key.tab ++ codes " " ++ decimal key.a ++ codes " " ++ digits_or_dash key.b

abbrev pub status_of : Ended → ℕ
status_of Succeeded = 0
status_of (LineNotRun number) = 3
status_of NoVolume = 4
status_of VolumeExists = 4
status_of (NewerVersion version) = 4
status_of MalformedSetting = 4
status_of (BadRow key bytes) = 4
status_of SourceFailed = 5
status_of OutFailed = 5
status_of ClockFailed = 5
status_of KeeperFailed = 5
status_of DepotFailed = 5
status_of CarrierFailed = 5
status_of ShelfFailed = 5
status_of OutOfMemory = OUT_OF_MEMORY

-- the text on standard error, where the words are a command
abbrev pub message_of : Ended → List ℕ
message_of Succeeded = []
message_of (LineNotRun number) =
    codes "juicevol: line " ++ decimal number ++ codes ": not a script line\n"
message_of NoVolume = codes "juicevol: no volume\n"
message_of VolumeExists = codes "juicevol: volume exists\n"
message_of (NewerVersion version) = codes "juicevol: version " ++ decimal version ++ codes "\n"
message_of MalformedSetting = codes "juicevol: row 0 0 -: not a row\n"
message_of (BadRow key bytes) = codes "juicevol: row " ++ key_text key ++ codes ": not a row\n"
message_of SourceFailed = codes "juicevol: source failed\n"
message_of OutFailed = codes "juicevol: out failed\n"
message_of ClockFailed = codes "juicevol: clock failed\n"
message_of KeeperFailed = codes "juicevol: keeper failed\n"
message_of DepotFailed = codes "juicevol: depot failed\n"
message_of CarrierFailed = codes "juicevol: carrier failed\n"
message_of ShelfFailed = codes "juicevol: shelf failed\n"
message_of OutOfMemory = codes "juicevol: out of memory\n"
