-- One plain part, whose digits are pairs.
use Rattle.std.proofs.Common.{arith, rules, length}
use Rattle.std.proofs.lemmas.Bool.{le-leb, lt-leb}
use Rattle.jv_model.specs.declared.limits.TheConstants.{MAX_DATA}
use Rattle.jv_model.specs.promise.script.Spelling.{bytes_of_digits}
use Rattle.jv_script.proofs.PartLaws.{length-bytes_of_digits, plain_whole}
use Rattle.jv_script.proofs.data.plain.Goals as goal

pub returns-then-count-gt-MAX_DATA : goal.returns-then-count-gt-MAX_DATA
returns-then-count-gt-MAX_DATA c =
    let digits = c.args.digits.now in
    rw (plain_whole digits c.requires, lt-leb (length (bytes_of_digits digits)) MAX_DATA (omega (arith, length-bytes_of_digits digits))) (search rules)

pub returns-in-Ok : goal.returns-in-Ok
returns-in-Ok c =
    let digits = c.args.digits.now in
    rw (plain_whole digits c.requires, le-leb (length (bytes_of_digits digits)) MAX_DATA (omega (arith, length-bytes_of_digits digits))) (search rules)
