use Rattle.std.proofs.Common.{◌∙◌}
use Rattle.std.proofs.lemmas.Result.{err_from_is_err_and}
use Rattle.jv_cmd.proofs.asked.AskedLaws.{asked_of, off_words, refused_words, Refuses-own, Refuses-parsed}
use Rattle.jv_cmd.proofs.words.read.read_words.Goals as goal

pub returns-in_err-matches-clause-asked : goal.returns-in_err-matches-clause-asked
returns-in_err-matches-clause-asked c =
    let told = err_from_is_err_and c.from_residual.result c.from_residual.ensures.1 in
    rw (told.1, told.2) (refused_words _ c.in_err-matches.field-0.0 c.in_err-matches.ensures)

pub returns-in-Ok-clause-asked : goal.returns-in-Ok-clause-asked
returns-in-Ok-clause-asked c = asked_of _ c.in_ok-matches.matches c.in_ok-matches.ensures ∙ c.in-Ok.ensures

pub returns-in-Err-OutOfRange-clause-asked : goal.returns-in-Err-OutOfRange-clause-asked
returns-in-Err-OutOfRange-clause-asked c =
    let nothing = rw c.in-Err-OutOfRange.field-0-is at c.in-Err-OutOfRange.ensures in
    off_words _ c.refused.result (asked_of _ c.in_ok-matches.matches c.in_ok-matches.ensures ∙ nothing)

pub returns-in_err-matches-clause-refusal : goal.returns-in_err-matches-clause-refusal
returns-in_err-matches-clause-refusal c =
    let told = err_from_is_err_and c.from_residual.result c.from_residual.ensures.1 in
    rw (told.1, told.2) (Refuses-parsed _ c.in_err-matches.field-0.0 c.in_err-matches.ensures)

pub returns-in-Err-OutOfRange-clause-refusal : goal.returns-in-Err-OutOfRange-clause-refusal
returns-in-Err-OutOfRange-clause-refusal c = Refuses-own _ c.refused.result c.refused.ensures
