use Rattle.std.proofs.Common.{◌+◌, ◌*◌, ◌<◌, length, arith, below_more, refl, ◌≢◌}
use Rattle.std.proofs.lemmas.List.{get_or-set_other, get_or-set_same}
use Rattle.std.proofs.lemmas.List.Sums.{AllPass-from_list_all}
use Rattle.jv_model.specs.promise.script.Spelling.{is_hex_digit}
use Rattle.jv_script.proofs.DigitLaws.{bytes_from_places}
use Rattle.jv_script.proofs.hex_digits.decode_into.Goals as goal

pub loop-i-preserved : goal.loop-i-preserved
loop-i-preserved c =
    let digits = c.args.digits.now in
    let valid = AllPass-from_list_all is_hex_digit digits c.requires.digits in
    let high = c.hex_value.ensures.value (valid (2 * c.loop-i.i) 0 (omega arith)) in
    let low = c.hex_value-in-loop-i.ensures.value (valid (2 * c.loop-i.i + 1) 0 (omega arith)) in
    below_more _ _
    (λ k before. let other : k ≢ c.loop-i.i = omega arith in rw get_or-set_other (c.loop-i.invariant k before))
    (let here : c.loop-i.i < length c.loop-i.bytes = omega arith in rw (get_or-set_same, high, low) refl)

pub returns : goal.returns
returns c = bytes_from_places c.args.digits.now c.loop-i.bytes (omega arith) (λ k below. c.loop-i.invariant k (omega arith))
