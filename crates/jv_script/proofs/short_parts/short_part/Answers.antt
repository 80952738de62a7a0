use Rattle.std.proofs.Common.{rules, ◌≡◌, ◌≤◌, length, get_or}
use Rattle.jv_script.proofs.ShortPartLaws.{pair_first, counted_first}
use Rattle.jv_script.proofs.short_parts.short_part.Goals as goal

pub returns-in_ok-byte_of_pair-in-43-clause-part : goal.returns-in_ok-byte_of_pair-in-43-clause-part
returns-in_ok-byte_of_pair-in-43-clause-part c =
    let text = c.args.text.now in
    let long : 3 ≤ length text = search rules in
    let plus : get_or text 2 0 ≡ 43 = search rules in
    pair_first text c.in_ok-byte_of_pair-in-43.field-0 long c.in_ok-byte_of_pair-in-43.ensures plus

pub returns-in_ok-byte_of_pair-in-120-clause-part : goal.returns-in_ok-byte_of_pair-in-120-clause-part
returns-in_ok-byte_of_pair-in-120-clause-part c =
    let text = c.args.text.now in
    let x : get_or text 2 0 ≡ 120 = search rules in
    let one : 49 ≤ get_or text 3 0 = search rules in
    let nine : get_or text 3 0 ≤ 57 = search rules in
    let plus : get_or text 4 0 ≡ 43 = search rules in
    counted_first text c.in_ok-byte_of_pair-in-120.field-0 c.in-120.len_at_least c.in_ok-byte_of_pair-in-120.ensures x one nine plus
