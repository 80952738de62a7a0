use Rattle.std.proofs.Common.{rules, arith, ◌<◌, length, get_or}
use Rattle.jv_script.proofs.PartLaws.{no_pair_given, pairs_off, pairs_end}
use Rattle.jv_script.proofs.data.push_few_pairs.Goals as goal

pub returns-in_default-byte_of_pair : goal.returns-in_default-byte_of_pair
returns-in_default-byte_of_pair c =
    let rest = c.loop-rest.rest.now in
    rw (pairs_off c.args.digits.now rest c.loop-rest.invariant.paired (omega arith) (no_pair_given (get_or rest 0 0) (get_or rest 1 0) c.in_default-byte_of_pair.ensures)) tt

pub returns : goal.returns
returns c =
    let some : 0 < length c.args.digits.now = search rules in
    let ends = pairs_end c.args.bytes.now.items c.loop-rest.bytes.items c.args.digits.now c.loop-rest.rest.now some (omega arith) c.loop-rest.invariant.whole c.loop-rest.invariant.paired in
    rw c.is_empty-2.ensures ends
