use Rattle.std.proofs.Common.{◌+◌, ◌∙◌, length, ap, sym, subst, arith}
use Rattle.jv_model.specs.promise.client.Pending.{written}
use Rattle.jv_pending.specs.Runs.{pending_bytes, IsFirst}
use Rattle.jv_pending.proofs.ByteLaws.{written_length}
use Rattle.jv_pending.proofs.PartLaws.{Rise-order}
use Rattle.jv_pending.proofs.TouchedLaws.{touched}
use Rattle.jv_pending.proofs.WrittenLaws.{starts, all_order, all_written}
use Rattle.jv_pending.proofs.write.write_runs.Goals as goal

pub overflow_add-result : goal.overflow_add-result
overflow_add-result c =
    let held = c.requires.held in
    let small = c.requires.small in
    let e = c.in_ok-write_into.ensures in
    let more = e.more in
    let now = ap length e.ok in
    omega (arith, written_length c.in-Some.only.inode c.args.at.from c.args.bytes.now (pending_bytes c.args.runs.now.entries))

pub count_written-count-requires-clause-touched : goal.count_written-count-requires-clause-touched
count_written-count-requires-clause-touched c =
    let first = c.first_touched-first in
    let some = c.requires.some in
    let rs = c.args.runs.now.entries in
    touched first.result.inode c.args.at.from (c.args.at.from + length c.args.bytes.now) rs first.result c.end_touched-end.result c.requires.order (omega arith) c.requires.file
    (subst (λ i. IsFirst i c.args.at.from rs first.result) (sym first.ensures.inode_is) first.ensures)
    (c.end_touched-end.ensures.inode ∙ sym first.ensures.inode_is) c.end_touched-end.ensures.from

pub write_from-requires-clause-rise : goal.write_from-requires-clause-rise
write_from-requires-clause-rise c = Rise-order 0 c.args.runs.now.entries c.requires.order

pub write_from-requires-clause-starts : goal.write_from-requires-clause-starts
write_from-requires-clause-starts c =
    let some = c.requires.some in
    let fits = c.requires.file in
    starts c.args.at.inode c.args.at.from c.args.bytes.now c.first_touched-first.result c.args.runs.now.entries c.requires.order c.first_touched-first.ensures (omega arith)

pub returns-clause-order : goal.returns-clause-order
returns-clause-order c =
    let some = c.requires.some in
    let fits = c.requires.file in
    let e = c.in_ok-write_from.ensures in
    all_order c.args.at.inode c.args.at.from c.args.bytes.now c.first_touched-first.result c.args.runs.now.entries c.requires.order c.first_touched-first.ensures (omega arith) fits c.write_from.new.runs.entries e.rise e.ok

pub returns-clause-ok : goal.returns-clause-ok
returns-clause-ok c =
    let some = c.requires.some in
    let fits = c.requires.file in
    let e = c.in_ok-write_from.ensures in
    all_written c.args.at.inode c.args.at.from c.args.bytes.now c.first_touched-first.result c.args.runs.now.entries c.requires.order c.first_touched-first.ensures (omega arith) fits c.write_from.new.runs.entries e.rise e.ok

pub returns-clause-count : goal.returns-clause-count
returns-clause-count c =
    let some = c.requires.some in
    let fits = c.requires.file in
    let e = c.in_ok-write_from.ensures in
    let rs = c.args.runs.now.entries in
    c.count_written-count.ensures
    ∙ ap (λ i. length (written i c.args.at.from c.args.bytes.now (pending_bytes rs))) c.first_touched-first.ensures.inode_is
    ∙ sym (ap length (all_written c.args.at.inode c.args.at.from c.args.bytes.now c.first_touched-first.result rs c.requires.order c.first_touched-first.ensures (omega arith) fits c.write_from.new.runs.entries e.rise e.ok))
