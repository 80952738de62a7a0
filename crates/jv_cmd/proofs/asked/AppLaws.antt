-- What `clap` reads of a command that is put together argument by argument.
use Rattle.std.proofs.Common.{◌≡◌, ◌∙◌, ap₂, IfOk, Result}
use Rattle.std.proofs.lemmas.Result.{IfOk-weaker}
use Rattle.clap.specs.Words.{App, Rule, app_of, with_rule}
use Rattle.clap.specs.declared.builder.command.Command.{Command}
use Rattle.jv_cmd.specs.Program.{IsApp}

-- one argument more
pub adds : (app before : App) (read rule : Rule) (c : Command) → IsApp (with_rule app read) c → app ≡ before → read ≡ rule → app_of c ≡ with_rule before rule
adds app before read rule c h e f = h.reads ∙ ap₂ with_rule e f

-- and the last of them
pub adds_last : {E : Type 0} (app before : App) (read rule : Rule) (r : Result Command E) → IfOk r (IsApp (with_rule app read)) → app ≡ before → read ≡ rule → IfOk r (IsApp (with_rule before rule))
adds_last app before read rule r h e f = IfOk-weaker r _ _ (λ c is. record { reads = adds app before read rule c is e f; local = is.local }) h
