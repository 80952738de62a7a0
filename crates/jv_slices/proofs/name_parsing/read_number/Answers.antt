use Rattle.std.proofs.Common.{◌≡◌, ◌∷◌, [], ◌++◌, ◌∙◌}
use Rattle.jv_slices.proofs.NameEndLaws.{digits_begin, number_parts}
use Rattle.jv_slices.proofs.name_parsing.read_number.Goals as goal

pub returns-in_err-number-clause-each : goal.returns-in_err-number-clause-each
returns-in_err-number-clause-each c = λ front mark n other small e.
    let start = digits_begin c.args.text.now front mark n c.digits_start.result other small e c.digits_start.ensures.within c.digits_start.ensures.digits c.digits_start.ensures.first in
    let parts = number_parts c.args.text.now (front ++ mark ∷ []) n c.digits_start.result e start in
    let none = c.in_err-number.ensures.each n small (c.split_at.ensures.back ∙ parts.1) in
    let no : ⊥ = cc in
    absurd no

pub returns-clause-each : goal.returns-clause-each
returns-clause-each c = λ front mark n other small e.
    let start = digits_begin c.args.text.now front mark n c.digits_start.result other small e c.digits_start.ensures.within c.digits_start.ensures.digits c.digits_start.ensures.first in
    let parts = number_parts c.args.text.now (front ++ mark ∷ []) n c.digits_start.result e start in
    let some = c.in_ok-number.ensures.each n small (c.split_at.ensures.back ∙ parts.1) in
    let same : c.in_ok-number.number ≡ n = cc in
    (c.split_at.ensures.front ∙ parts.0, same)
