-- The program is a command of which `clap` says what it makes of any words.
use Rattle.std.proofs.Common.{◌≡◌, true, [], List, Err, inl, inr, refl, ap, subst, sym, ◌∙◌}
use Rattle.std.proofs.lemmas.Bool.{and_parts}
use Rattle.clap.specs.Words.{App, Text, fault_of, is_simple, is_simple_and_free, kind_of, subcommand_of, subcommand_rows_of, HasKind, HasMatchesOf, IsAmong}
use Rattle.clap.specs.declared.error.Error.{Error}
use Rattle.clap.specs.declared.error.kind.ErrorKind.TheVariants.{OutOfMemory}
use Rattle.clap.specs.declared.parser.matches.ArgMatches.{ArgMatches}
use Rattle.clap.proofs.OnLiterals.{clap_on_literals}
use Rattle.jv_cmd.specs.declared.words.request.WordsFault.{WordsFault}
use Rattle.jv_cmd.specs.declared.words.request.WordsFault.TheVariants.{Refused, Memory}
use Rattle.jv_cmd.specs.promise.Program.{program_app}
use Rattle.jv_cmd.specs.Words.{Parses, HasFeed}

pub program_is_free : is_simple_and_free program_app ≡ true
unfolding clap_on_literals program_app
program_is_free = refl

pub program_is_simple : is_simple program_app ≡ true
program_is_simple = (and_parts (is_simple program_app) _ program_is_free).0

-- words that were parsed
pub parsed : (app : App) (words : List Text) (m : ArgMatches) → app ≡ program_app → (is_simple_and_free app ≡ true → fault_of app words ≡ []) → HasMatchesOf app words m → (fault_of program_app words ≡ []) × (subcommand_rows_of m ≡ subcommand_of program_app words)
parsed app words m e kinds matches = (
  ap (λ a. fault_of a words) (sym e) ∙ kinds (ap is_simple_and_free e ∙ program_is_free),
  (matches (ap is_simple e ∙ program_is_simple)).1 ∙ ap (λ a. subcommand_of a words) e,
)

-- words that were refused for another cause than memory
pub refused : (app : App) (words : List Text) (error : Error) (fault : WordsFault) → app ≡ program_app → (is_simple_and_free app ≡ true → HasKind (fault_of app words) error) → (kind_of error ≡ OutOfMemory → fault ≡ Memory) → HasFeed fault → Parses words (Err fault)
refused app words error Memory e kinds told feed = tt
refused app words error (Refused text) e kinds told feed = (
  λ none. elim (kinds (ap is_simple_and_free e ∙ program_is_free)) [
    | inl memory ↦ let bad = told memory in cc
    | inr among ↦ subst (IsAmong (kind_of error)) (ap (λ a. fault_of a words) e ∙ none) among
  ],
  feed,
)
