use Rattle.std.proofs.Common.{◌≡◌, Some, None, sym, ap, ◌∙◌, subst}
use Rattle.std.specs.Fmt.{decimal}
use Rattle.std.specs.Result.{result_ok}
use Rattle.std.specs.Str.{IsAscii, IsUtf8}
use Rattle.std.proofs.lemmas.Bool.{false≢true}
use Rattle.std.proofs.lemmas.Slice.Eq.{bytes_eq-Decides}
use Rattle.std.proofs.lemmas.Str.{IsUtf8-from_ascii}
use Rattle.std.proofs.lemmas.Fmt.{IsAscii-decimal, parse-decimal}
use Rattle.jv_slices.proofs.NameEndLaws.{not_ok, ok_is}
use Rattle.jv_slices.proofs.name_parsing.parse_number.Goals as goal

pub returns-in_err-text-clause-each : goal.returns-in_err-text-clause-each
returns-in_err-text-clause-each c = λ n small e.
    let utf8 : IsUtf8 c.args.digits.now = IsUtf8-from_ascii c.args.digits.now (subst IsAscii (sym e) (IsAscii-decimal n small)) in
    let err = not_ok c.from_utf8.result _ _ c.from_utf8.ensures.cases c.in_err-text.ensures.value in
    absurd (err.1.0 utf8)

pub returns-in_err-number-clause-each : goal.returns-in_err-number-clause-each
returns-in_err-number-clause-each c = λ n small e.
    let text = ok_is c.from_utf8.result _ _ c.in_ok-text.text c.from_utf8.ensures.cases c.in_ok-text.ensures.value in
    let read = parse-decimal 64 n c.in_ok-text.text.now c.parse.result small small (text.0 ∙ e) c.parse.ensures.value.0 in
    let none : None ≡ Some n = c.in_err-number.ensures.value ∙ ap (λ r. result_ok r) read in
    cc

pub returns-then-eq-clause-each : goal.returns-then-eq-clause-each
returns-then-eq-clause-each c = λ n small e.
    let text = ok_is c.from_utf8.result _ _ c.in_ok-text.text c.from_utf8.ensures.cases c.in_ok-text.ensures.value in
    let read = parse-decimal 64 n c.in_ok-text.text.now c.parse.result small small (text.0 ∙ e) c.parse.ensures.value.0 in
    c.in_ok-number.ensures.value ∙ ap (λ r. result_ok r) read

pub returns-else-eq-clause-each : goal.returns-else-eq-clause-each
returns-else-eq-clause-each c = λ n small e.
    let text = ok_is c.from_utf8.result _ _ c.in_ok-text.text c.from_utf8.ensures.cases c.in_ok-text.ensures.value in
    let read = parse-decimal 64 n c.in_ok-text.text.now c.parse.result small small (text.0 ∙ e) c.parse.ensures.value.0 in
    let same : Some c.in_ok-number.number ≡ Some n = c.in_ok-number.ensures.value ∙ ap (λ r. result_ok r) read in
    let number : c.in_ok-number.number ≡ n = cc in
    let bytes : c.as_bytes.result.now ≡ c.args.digits.now = c.as_bytes.ensures.value ∙ c.format.ensures.text ∙ ap decimal number ∙ sym e in
    absurd (false≢true (sym c.if-eq.false ∙ c.eq.ensures ∙ (bytes_eq-Decides c.as_bytes.result.now c.args.digits.now).1 bytes))
