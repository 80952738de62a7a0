-- What a run of a session is.
use Rattle.std.specs.Prelude.{◌≡◌, ℕ, ◌+◌, ◌≤◌, ◌<◌, nat_le, true, false, List, [], ◌∷◌, ◌++◌, map, filter, length, take, All, Option, None, Some, IfSome, IsSome}
use Rattle.jv_model.specs.declared.act.Act.{Act}
use Rattle.jv_model.specs.declared.basics.Limits.{Limits}
use Rattle.jv_model.specs.declared.fault.Device.{Device}
use Rattle.jv_model.specs.declared.op.Line.{Line}
use Rattle.jv_model.specs.declared.setting.Setting.{Setting}
use Rattle.jv_model.specs.promise.script.Grammar.{line_of}
use Rattle.jv_model.specs.promise.journal.Legal.{Legal}
use Rattle.jv_model.specs.promise.journal.Past.{Setup, at_end, text_of}
use Rattle.jv_model.specs.promise.journal.Steps.{Start}
use Rattle.jv_model.specs.declared.row.RowKey.{RowKey}
use Rattle.jv_model.specs.promise.rows.RowKeys.{RowMap}
use Rattle.jv_model.specs.promise.tree.Tree.{Tree}
use Rattle.jv_outside.specs.promise.Objects.{ObjectMap}
use Rattle.jv_outside.specs.promise.Stream.{Gains}
use Rattle.jv_outside.specs.promise.Ticks.{Ticks}
use Rattle.jv_rows.specs.promise.Transactions.{IsBad}
use Rattle.jv_volume.specs.promise.Slices.{next_slice}
use Rattle.jv_volume.specs.promise.TypedRows.{typed}
use Rattle.jv_volume_bytes.specs.promise.Blocks.{HasBlocks, known_by}
use Rattle.jv_volume_bytes.specs.promise.Bytes.{tree_with}
use Rattle.jv_volume_bytes.specs.promise.Counts.{record_count}
use Rattle.jv_yard.specs.promise.Contents.{blocks_in}
use Rattle.jv_client_shared.specs.promise.Shared.{HasStore, Known, Shared}
use Rattle.jv_client_shared.specs.promise.WholeVolume.{WholeVolume}
use Rattle.jv_client.specs.promise.Built.{is_built_line}
use Rattle.jv_session.specs.promise.Direct.{BlocksStay}
use Rattle.jv_session.specs.promise.Lines.{AreFailures}
use Rattle.jv_cmd.specs.declared.ended.Ended.{Ended}
use Rattle.jv_cmd.specs.declared.ended.Ended.TheVariants as ended
use Rattle.jv_cmd.specs.declared.ended.Ended.TheVariants.{LineNotRun, BadRow, SourceFailed, OutFailed, ClockFailed, OutOfMemory}
use Rattle.jv_cmd.specs.promise.Ends.{status_of}
use Rattle.jv_model.specs.declared.limits.TheConstants.{MAX_LINE, MAX_LINES}
use Rattle.jv_cmd.specs.promise.Stages.{StageValue}
use Rattle.jv_cmd.specs.promise.Texts.{texts_of}

-- what a session begins with: its limits, the setting and the rows of the volume, and the objects
-- of its depot
pub record Beginning : Type 0 where
  pub limits : Limits
  pub setting : Setting
  pub rows : RowMap
  pub objects : ObjectMap

-- The tree of the rows, whose files have the bytes of the depot's blocks. No byte is on a shelf
-- alone.
abbrev pub start_of : Beginning → Start
start_of start = record {
  tree = tree_with (known_by start.setting.block (blocks_in start.setting start.objects))
      (typed start.rows);
  shelved = λ inode position. [];
  next_slice = next_slice (typed start.rows);
  records = record_count (typed start.rows);
}

-- A session may begin on a whole volume, of which these are the rows and the objects. By `direct` the
-- depot has each block.
pub record StartsWhole (before : StageValue) (start : Beginning) : Type 0 where
  pub limits : start.limits ≡ before.limits
  pub setting : start.setting ≡ before.devices.yard.setting
  pub known : before.devices.keeper.rows ≡ Some start.rows
  pub objects : before.devices.yard.depot.content ≡ Some start.objects
  pub volume : WholeVolume before.devices
  pub direct : HasBlocks start.setting.block (typed start.rows)
      (blocks_in start.setting start.objects)

-- what is left is a whole volume, and stands for this tree
pub record Leaves (devices : Shared) (t : Tree) : Type 0 where
  pub volume : WholeVolume devices
  pub known : Known
  pub store : HasStore t known devices

-- The run of lines over such a volume, with the clock's answers where they are known. No thread
-- uploads.
abbrev pub session_run : Beginning → Option (ℕ → ℕ) → List Line → ℕ → Setup
session_run start known lines status = record {
  start = start_of start;
  script = lines;
  limits = start.limits;
  uploads = 0;
  clock = known;
  by_worker = λ entry. false;
  status = status;
}

-- The clock's answers by which a run may be judged: none, or those that were known at the start,
-- where the answers are known at the end too.
abbrev pub IsKnownClock : Option (ℕ → ℕ) → Ticks → Ticks → Type 0
IsKnownClock None before after = Unit {0}
IsKnownClock (Some answers) before after = (before.answers ≡ Some answers) × IsSome after.answers

-- where the source's bytes are known, the texts of their lines are these and some more
pub record BeginWith (bytes : Option (List ℕ)) (texts : List (List ℕ)) : Type 0 where
  pub known : IfSome bytes (λ all. (more : List (List ℕ)) × (texts_of all ≡ texts ++ more))

-- the texts are the first ones of the source, they are lines of the grammar, at most `MAX_LINES` of
-- them, and none is longer than `MAX_LINE` bytes
pub record AreLines (bytes : Option (List ℕ)) (texts : List (List ℕ))
    (lines : List Line) : Type 0 where
  pub first : BeginWith bytes texts
  pub each : map line_of texts ≡ map Some lines
  pub few : length lines ≤ MAX_LINES
  pub short : All (λ text. length text ≤ MAX_LINE) texts

-- the entries of the lines up to this number
abbrev pub up_to : ℕ → List Act → List Act
up_to number = filter (λ act. nat_le act.line number)

-- the line is one of those that are built
abbrev pub IsBuilt : Limits → Line → Type 0
IsBuilt limits line = is_built_line limits line ≡ true

-- a text that is no line, or a line that isn't built
pub data IsTextNotRun (text : List ℕ) (limits : Limits) : Type 0 where
  NoLine : line_of text ≡ None → IsTextNotRun text limits
  LineUnbuilt : (line : Line) → line_of text ≡ Some line → is_built_line limits line ≡ false
      → IsTextNotRun text limits

-- why the line of that number isn't run: it is one too many, it is too long, it is malformed, or it
-- isn't built
pub data IsNotRun (limits : Limits) (number : ℕ) (text : List ℕ) : Type 0 where
  OneTooMany : MAX_LINES < number → IsNotRun limits number text
  TooLong : MAX_LINE < length text → IsNotRun limits number text
  Off : IsTextNotRun text limits → IsNotRun limits number text

-- the line after those that were run isn't run
pub record StopsAt (before : StageValue) (texts : List (List ℕ)) (lines : List Line)
    (number : ℕ) : Type 0 where
  pub after_lines : number ≡ length lines + 1
  pub text : List ℕ
  pub next : BeginWith before.source.content (texts ++ text ∷ [])
  pub off : IsNotRun before.limits number text

-- a row is Bad, and the volume wasn't whole at the start
pub record StopsAtRow (before after : StageValue) (key : RowKey) (bytes : List ℕ) : Type 0 where
  pub bad : IfSome after.devices.keeper.rows (λ known. IsBad (typed known) key bytes)
  pub torn : (start : Beginning) → StartsWhole before start → ⊥

-- the cause of each end, where these lines were run
abbrev pub EndsBy : Ended → StageValue → StageValue → List (List ℕ) → List Line → Type 0
EndsBy ended.Succeeded before after texts lines =
    IfSome before.source.content (λ all. texts_of all ≡ texts)
EndsBy (LineNotRun number) before after texts lines = StopsAt before texts lines number
EndsBy (BadRow key bytes) before after texts lines = StopsAtRow before after key bytes
EndsBy SourceFailed before after texts lines = Unit {0}
EndsBy OutFailed before after texts lines = Unit {0}
EndsBy ClockFailed before after texts lines = Unit {0}
EndsBy OutOfMemory before after texts lines = Unit {0}
EndsBy _ before after texts lines = ⊥

-- what lines print, by their entries of the journal
abbrev pub printed_by : Beginning → Option (ℕ → ℕ) → List Line → Ended → List Act → List ℕ
printed_by start known lines ended journal =
    text_of (session_run start known lines (status_of ended)) journal

-- The last line's text was cut: out has gained the text of the lines before it, and a proper prefix
-- of its own.
pub record PrintsPart (start : Beginning) (known : Option (ℕ → ℕ)) (before after : StageValue)
    (lines : List Line) : Type 0 where
  pub earlier : List Line
  pub last : Line
  pub said : List ℕ
  pub count : ℕ
  pub are_lines : lines ≡ earlier ++ last ∷ []
  pub text : printed_by start known lines OutFailed after.journal
      ≡ printed_by start known earlier OutFailed (up_to (length earlier) after.journal) ++ said
  pub proper : count < length said
  pub gains : Gains before.out.content after.out.content
      (printed_by start known earlier OutFailed (up_to (length earlier) after.journal)
      ++ take count said)

-- what the lines before the last one print
abbrev pub printed_before_last : Beginning → Option (ℕ → ℕ) → List Line → Ended → List Act → List ℕ
printed_before_last start known lines ended journal =
    (at_end (session_run start known lines (status_of ended)) journal).printed

-- Memory ran out before a line was run, or on the last line, which was cut off and prints nothing.
pub data PrintsUntil (start : Beginning) (known : Option (ℕ → ℕ)) (before after : StageValue)
    (lines : List Line) : Type 0 where
  AllLines : Gains before.out.content after.out.content
      (printed_by start known lines OutOfMemory after.journal)
      → PrintsUntil start known before after lines
  AllButLast : Gains before.out.content after.out.content
      (printed_before_last start known lines OutOfMemory after.journal)
      → PrintsUntil start known before after lines

-- Out has gained the text of the lines. Where out failed, it has gained a part of it; where the
-- clock failed, or memory ran out, on a line, that of the lines before it.
abbrev pub Prints : Ended → Beginning → Option (ℕ → ℕ) → StageValue → StageValue → List Line
    → Type 0
Prints OutFailed start known before after lines = PrintsPart start known before after lines
Prints ClockFailed start known before after lines =
    Gains before.out.content after.out.content
    (printed_before_last start known lines ClockFailed after.journal)
Prints OutOfMemory start known before after lines = PrintsUntil start known before after lines
Prints ended start known before after lines =
    Gains before.out.content after.out.content (printed_by start known lines ended after.journal)

-- The outcome of a run over a whole volume: the journal is legal for one POSIX tree, the lines'
-- text was printed, and the volume left is whole and has the tree reached. By `direct` each block
-- that the depot had is there, with its bytes.
pub record RunsWhole (start : Beginning) (known : Option (ℕ → ℕ)) (before after : StageValue)
    (ended : Ended) (lines : List Line) : Type 0
  where
    pub legal : Legal (session_run start known lines (status_of ended)) after.journal
    pub printed : Prints ended start known before after lines
    pub direct : BlocksStay before.devices after.devices
    pub leaves : Leaves after.devices
        (at_end (session_run start known lines (status_of ended)) after.journal).state.tree

-- The lines that were run: those before the end and, where out or the clock failed, a row was Bad,
-- or memory ran out on a line, that line as the last one, which may be cut off then. Each is built.
-- Whatever the rows are, `answers` is how many entries answer that a device failed.
pub record RunsLines (answers : Device → ℕ) (before after : StageValue)
    (ended : Ended) : Type 0 where
  pub texts : List (List ℕ)
  pub lines : List Line
  pub read : AreLines before.source.content texts lines
  pub built : All (IsBuilt before.limits) lines
  pub cause : EndsBy ended before after texts lines
  pub counted : AreFailures after.journal answers
  pub whole : (start : Beginning) (known : Option (ℕ → ℕ)) → StartsWhole before start
      → IsKnownClock known before.clock after.clock
      → RunsWhole start known before after ended lines
