-- What only inner contracts cite: of `promise/Program`.
use Rattle.std.specs.Prelude.{◌≡◌, false}
use Rattle.clap.specs.Words.{App, Rule, app_of, rule_of}
use Rattle.clap.specs.declared.builder.arg.Arg.{Arg}
use Rattle.clap.specs.declared.builder.command.Command.{Command}
use Rattle.clap.specs.declared.builder.command.Command.TheViews.{out-Command}

-- what `clap` reads of the argument is this rule, and the argument is no subcommand's
pub record IsRule (rule : Rule) (arg : Arg) : Type 0 where
  pub reads : rule_of arg ≡ rule
  pub local : arg.global ≡ false

-- what `clap` reads of the command is this
pub record IsApp (app : App) (command : Command) : Type 0 where
  pub reads : app_of command ≡ app
  pub local : (out-Command command).has_globals ≡ false
