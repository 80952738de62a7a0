-- What the words of a command line ask for.
use Rattle.std.specs.Prelude.{◌≡◌, ℕ, ◌&&◌, Bool, false, if◌then◌else◌, List, [], ◌∷◌, Option, None, Some, option_and_then, option_map, codes, bytes_eq}
use Rattle.std.specs.Option.{option_map_or}
use Rattle.clap.specs.Words.{Row, Text, fault_of, first_of, subcommand_of}
use Rattle.clap.specs.Kinds.{Kinds}
use Rattle.jv_model.specs.declared.tables.TheConstants.{ROWS_VERSION}
use Rattle.jv_model.specs.declared.options.TheConstants.{MAX_CACHE, MIN_BUFFER, MAX_BUFFER, MAX_UPLOADS}
use Rattle.jv_model.specs.declared.limits.TheConstants.{FULL_COUNT, MAX_CAPACITY, MAX_TRASH_DAYS}
use Rattle.jv_model.specs.promise.Optional.{◌>>=◌}
use Rattle.jv_model.specs.declared.setting.Setting.{Setting}
use Rattle.jv_model.specs.promise.rows.RowGrammar.{is_setting}
use Rattle.jv_cmd.specs.declared.words.request.Command.{Command}
use Rattle.jv_cmd.specs.declared.words.request.Command.TheVariants.{Format, Session}
use Rattle.jv_cmd.specs.declared.words.request.SessionOptions.{SessionOptions}
use Rattle.jv_cmd.specs.promise.Values.{block_size_of, number_of_digits, number_within, place_of}
use Rattle.jv_cmd.specs.promise.Program.{program_app}
use Rattle.jv_cmd.specs.promise.Saying.{EndsInFeed}

-- the value of this name, read from its text
abbrev pub value_in : {A : Type 0} → (Text → Option A) → Text → List Row → Option A
value_in read id rows = option_and_then read (first_of id rows)

-- the value of this name is this text
abbrev pub has_text : Text → Text → List Row → Bool
has_text id word rows = option_map_or (λ text. bytes_eq text word) (first_of id rows) false

-- the flag of this name was given
abbrev pub is_given : Text → List Row → Bool
is_given id rows = has_text id (codes "true") rows

-- objects lie in files, and blocks aren't compressed
abbrev pub is_built_store : List Row → Bool
is_built_store rows = has_text (codes "storage") (codes "file") rows
    && has_text (codes "compress") (codes "none") rows

-- the setting, where rows may have it
abbrev pub where_allowed : Setting → Option Setting
where_allowed setting = (if is_setting setting then Some setting else None)

unfoldable pub setting_fields_in : List Row → Option Setting
setting_fields_in rows = do
  block ← value_in block_size_of (codes "block-size") rows
  capacity ← value_in (number_within 0 MAX_CAPACITY) (codes "capacity") rows
  inodes ← value_in (number_within 0 FULL_COUNT) (codes "inodes") rows
  days ← value_in (number_within 0 MAX_TRASH_DAYS) (codes "trash-days") rows
  name ← first_of (codes "name") rows
  bucket ← first_of (codes "bucket") rows
  Some (record {
    version = ROWS_VERSION;
    block = block;
    trash_days = days;
    capacity = capacity;
    inodes = inodes;
    hash = if is_given (codes "hash-prefix") rows then 1 else 0;
    name = name;
    bucket = bucket;
  })

unfoldable pub stored_setting_in : List Row → Option Setting
stored_setting_in rows = setting_fields_in rows >>= where_allowed

-- the setting that `format` is to write
abbrev pub setting_asked : List Row → Option Setting
setting_asked rows = (if is_built_store rows then stored_setting_in rows else None)

-- the seed of a script that is drawn, where one is asked for
abbrev pub seed_of : Option Text → Option (Option ℕ)
seed_of None = Some None
seed_of (Some text) = option_map Some (number_of_digits text)

unfoldable pub options_in : List Row → Option SessionOptions
options_in rows = do
  cache ← value_in (number_within 0 MAX_CACHE) (codes "cache-size") rows
  buffer ← value_in (number_within MIN_BUFFER MAX_BUFFER) (codes "buffer-size") rows
  uploads ← value_in (number_within 0 MAX_UPLOADS) (codes "max-uploads") rows
  folder ← first_of (codes "cache-dir") rows
  generate ← seed_of (first_of (codes "generate") rows)
  Some (record {
    cache = cache;
    buffer = buffer;
    uploads = uploads;
    writeback = is_given (codes "writeback") rows;
    cache_dir = folder;
    generate = generate;
  })

unfoldable pub format_in : List Row → Option Command
format_in rows = do
  place ← value_in place_of (codes "url") rows
  option_map (Format place) (setting_asked rows)

unfoldable pub session_asked : List Row → Option Command
session_asked rows = do
  place ← value_in place_of (codes "url") rows
  option_map (Session place) (options_in rows)

-- the command of this name, with the values in the rows
abbrev pub command_in : Text → List Row → Option Command
command_in name rows =
    if bytes_eq name (codes "format") then format_in rows
    else (if bytes_eq name (codes "session") then session_asked rows else None)

abbrev pub command_at : Option (Text × List Row) → Option Command
command_at stop = option_and_then (λ p. command_in p.0 p.1) stop

-- the command that `clap` stopped at, where it finds no fault
abbrev pub read_by : Kinds → Option (Text × List Row) → Option Command
read_by [] stop = command_at stop
read_by (k ∷ ks) stop = None

-- The command that the words ask for. They are refused where there is none: by `clap`, or for a
-- value out of its range.
unfoldable pub asked : List Text → Option Command
asked words = read_by (fault_of program_app words) (subcommand_of program_app words)

abbrev pub refused_text : Text
refused_text = codes "juicevol: words refused\n"

-- a text for words that are refused: the program's own where `clap` finds no fault in them
pub record IsRefusalText (words : List Text) (text : Text) : Type 0 where
  pub own : fault_of program_app words ≡ [] → text ≡ refused_text
  pub ends : EndsInFeed text
