-- What only inner contracts cite: of `promise/Words`.
use Rattle.std.specs.Prelude.{◌≡◌, ◌≢◌, List, [], Option, None, Some, string_bytes, Result, Ok, Err, IsTrue}
use Rattle.clap.specs.Words.{Text, fault_of, subcommand_of, subcommand_rows_of}
use Rattle.clap.specs.declared.parser.matches.ArgMatches.{ArgMatches}
use Rattle.jv_model.specs.promise.rows.RowGrammar.{is_setting}
use Rattle.jv_cmd.specs.declared.words.request.Command.{Command}
use Rattle.jv_cmd.specs.declared.words.request.Command.TheVariants.{Format, Session}
use Rattle.jv_cmd.specs.declared.words.request.WordsFault.{WordsFault}
use Rattle.jv_cmd.specs.declared.words.request.WordsFault.TheVariants.{Refused, Memory}
use Rattle.jv_cmd.specs.declared.words.read.BadValue.{BadValue}
use Rattle.jv_cmd.specs.declared.words.read.BadValue.TheVariants as bad
use Rattle.jv_cmd.specs.Bounds.{AreAllowed}
use Rattle.jv_cmd.specs.promise.Program.{program_app}
use Rattle.jv_cmd.specs.promise.Saying.{EndsInFeed}
use Rattle.jv_cmd.specs.promise.Words.{refused_text, IsRefusalText}

-- the command that is asked for, or a refusal where there is none
abbrev pub Answers : Option Command → Result Command WordsFault → Type 0
Answers command (Ok answer) = command ≡ Some answer
Answers command (Err (Refused text)) = command ≡ None
Answers command (Err Memory) = Unit {0}

-- the value, or `OutOfRange` where there is none
abbrev pub Reads : {T : Type 0} → Result T BadValue → Option T → Type 0
Reads (Ok value) meant = meant ≡ Some value
Reads (Err bad.OutOfRange) meant = meant ≡ None
Reads (Err bad.Memory) meant = Unit {0}

-- the words of a parse: where `clap` finds no fault, the command is the one that it stopped at
abbrev pub Parses : List Text → Result ArgMatches WordsFault → Type 0
Parses words (Ok matches) = (fault_of program_app words ≡ [])
    × (subcommand_rows_of matches ≡ subcommand_of program_app words)
Parses words (Err (Refused text)) =
    (fault_of program_app words ≢ []) × EndsInFeed (string_bytes text)
Parses words (Err Memory) = Unit {0}

abbrev pub Refuses : List Text → WordsFault → Type 0
Refuses words (Refused text) = IsRefusalText words (string_bytes text)
Refuses words Memory = Unit {0}

-- the text of a refusal, if it has one, ends with a line feed
abbrev pub HasFeed : WordsFault → Type 0
HasFeed (Refused text) = EndsInFeed (string_bytes text)
HasFeed Memory = Unit {0}

-- a refusal that says nothing of the words
abbrev pub SaysRefused : WordsFault → Type 0
SaysRefused (Refused text) = string_bytes text ≡ refused_text
SaysRefused Memory = Unit {0}

-- a setting that is to be written is one that rows may have, and the sizes of a session are in
-- their ranges
abbrev pub IsAllowedCommand : Command → Type 0
IsAllowedCommand (Format place setting) = IsTrue (is_setting setting)
IsAllowedCommand (Session place options) = AreAllowed options
