use Rattle.std.proofs.Common.{◌≡◌, ◌+◌, arith}
use Rattle.jv_pending.specs.Runs.{place, place_of, gap}
use Rattle.jv_pending.proofs.PartLaws.{Rise-order}
use Rattle.jv_pending.proofs.JoinLaws.{gap_le}
use Rattle.jv_pending.proofs.TouchedLaws.{last_is_run}
use Rattle.jv_pending.proofs.OneRunLaws.{only_it}
use Rattle.jv_pending.proofs.write.only_touched.Goals as goal

pub last_before-requires-clause-rise : goal.last_before-requires-clause-rise
last_before-requires-clause-rise c = Rise-order 0 c.args.runs.now.entries c.requires.order

pub end-requires : goal.end-requires
end-requires c =
    let r = last_is_run (place_of c.end_touched-end.result) c.args.runs.now.entries (c.in_ok-start.start, c.in_ok-start.bytes.now) c.requires.order c.in_ok-start.ensures in
    let f = r.in_file in
    omega arith

pub overflow_add-end : goal.overflow_add-end
overflow_add-end c =
    let r = last_is_run (place_of c.end_touched-end.result) c.args.runs.now.entries (c.in_ok-start.start, c.in_ok-start.bytes.now) c.requires.order c.in_ok-start.ensures in
    let f = r.in_file in
    let e = c.end.ensures in
    let g = c.free_before.ensures in
    omega (arith, (gap_le c.args.from).0)

pub returns-then-from-end-clause-only : goal.returns-then-from-end-clause-only
returns-then-from-end-clause-only c =
    let start = c.in_ok-start.start in
    let end = c.end_touched-end in
    let same = c.if-start-inode.true in
    let i = end.ensures.inode in
    let f = end.ensures.from in
    let e = c.end.ensures in
    let g = c.free_before.ensures in
    let t = c.if-from-end.true in
    let high : place_of end.result ≡ place start.inode (c.args.from + c.args.count + gap (c.args.from + c.args.count)) = omega arith in
    only_it (place_of end.result) c.args.runs.now.entries (start, c.in_ok-start.bytes.now) c.requires.order c.in_ok-start.ensures
    c.args.from c.args.count high c.requires.some c.requires.file c.if-start-from.true (omega arith) c.if-from-count-gt-WINDOW.false
