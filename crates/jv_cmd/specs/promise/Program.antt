-- The program's commands and their options, as `clap` reads them.
use Rattle.std.specs.Prelude.{true, [], ◌∷◌, Some, codes}
use Rattle.clap.specs.Words.{App, Rule, Text, new_app, new_rule, with_rule, with_subcommand}
use Rattle.clap.specs.Simple.{on_top}
use Rattle.clap.specs.declared.builder.action.ArgAction.TheVariants.{Set, SetTrue}

-- a value by its place, that has to be given
abbrev pub positional : Text → Rule
positional id = record (new_rule id) { action = Some Set; value_names = 1; required = true }

-- `--id V`, that has to be given
abbrev pub required_option : Text → Rule
required_option id =
    record (new_rule id) { long = Some id; action = Some Set; value_names = 1; required = true }

-- `--id V`, with a default
abbrev pub option : Text → Text → Rule
option id default = record (new_rule id) {
  long = Some id;
  action = Some Set;
  value_names = 1;
  defaults = default ∷ [];
}

-- `--id V`, which may be left out
abbrev pub free_option : Text → Rule
free_option id = record (new_rule id) { long = Some id; action = Some Set; value_names = 1 }

-- `--id`
abbrev pub flag : Text → Rule
flag id = record (new_rule id) { long = Some id; action = Some SetTrue }

-- the options of `format` on how objects are stored
abbrev pub with_objects : App → App
with_objects app =
    with_rule (with_rule (with_rule (with_rule app (required_option (codes "bucket")))
    (option (codes "storage") (codes "file")))
    (option (codes "compress") (codes "none")))
    (flag (codes "hash-prefix"))

-- those on what the volume holds
abbrev pub with_limits : App → App
with_limits app =
    with_rule (with_rule (with_rule (with_rule app (option (codes "block-size") (codes "4M")))
    (option (codes "capacity") (codes "0")))
    (option (codes "inodes") (codes "0")))
    (option (codes "trash-days") (codes "1"))

abbrev pub format_app : App
format_app =
    with_limits (with_objects
    (with_rule (with_rule (new_app (codes "format")) (positional (codes "url")))
    (positional (codes "name"))))

-- the options of `session` on what its clients hold, and how many uploads run
abbrev pub with_sizes : App → App
with_sizes app =
    with_rule (with_rule (with_rule app (option (codes "cache-size") (codes "64")))
    (option (codes "buffer-size") (codes "32")))
    (option (codes "max-uploads") (codes "20"))

-- those on local files
abbrev pub with_staging : App → App
with_staging app =
    with_rule (with_rule app (flag (codes "writeback")))
    (option (codes "cache-dir") (codes "juicevol-cache"))

abbrev pub session_app : App
session_app =
    with_rule (with_staging (with_sizes
    (with_rule (new_app (codes "session")) (positional (codes "url")))))
    (free_option (codes "generate"))

-- the words begin with the command, and without any the answer is the help
abbrev pub bare_app : App
bare_app = on_top (λ s. record s {
  no_binary_name = true;
  subcommand_required = true;
  arg_required_else_help = true;
}) (new_app (codes "juicevol"))

unfoldable pub program_app : App
program_app = with_subcommand (with_subcommand bare_app format_app.top) session_app.top
