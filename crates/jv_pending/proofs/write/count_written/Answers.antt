use Rattle.std.proofs.Common.{◌∙◌, ap, arith}
use Rattle.jv_pending.specs.Runs.{place_of, pending_bytes, runs_within, tail_of}
use Rattle.jv_pending.proofs.ByteLaws.{written_length}
use Rattle.jv_pending.proofs.PartLaws.{Rise-order}
use Rattle.jv_pending.proofs.WindowLaws.{mid_count, counted}
use Rattle.jv_pending.proofs.write.count_written.Goals as goal

pub count_bytes-requires-clause-rise : goal.count_bytes-requires-clause-rise
count_bytes-requires-clause-rise c = Rise-order 0 c.args.runs.now.entries c.requires.order

pub tail-requires-clause-rise : goal.tail-requires-clause-rise
tail-requires-clause-rise c = Rise-order 0 c.args.runs.now.entries c.requires.order

pub overflow_sub-others : goal.overflow_sub-others
overflow_sub-others c =
    let w = c.args.write.now in
    let h = c.requires.held in
    let n = c.count_bytes.ensures in
    omega (arith, mid_count w.first.inode w.from w.bytes.now w.first w.end c.args.runs.now.entries c.requires.order c.requires.some c.requires.file c.requires.touched)

pub returns : goal.returns
returns c =
    let w = c.args.write.now in
    let rs = c.args.runs.now.entries in
    counted w.first.inode w.from w.bytes.now w.first w.end rs c.requires.order c.requires.some c.requires.file c.requires.touched
    c.args.held c.count_bytes.result c.head.result.now c.tail.result.now c.requires.held c.count_bytes.ensures c.head.ensures
    (c.tail.ensures ∙ ap (λ n. tail_of n (runs_within (place_of w.first) (place_of w.end) rs)) c.to.ensures)

pub overflow_add-result-3 : goal.overflow_add-result-3
overflow_add-result-3 c =
    let w = c.args.write.now in
    let rs = c.args.runs.now.entries in
    let h = c.requires.held in
    let s = c.requires.small in
    omega (
      arith,
      written_length w.first.inode w.from w.bytes.now (pending_bytes rs),
      counted w.first.inode w.from w.bytes.now w.first w.end rs c.requires.order c.requires.some c.requires.file c.requires.touched
          c.args.held c.count_bytes.result c.head.result.now c.tail.result.now c.requires.held c.count_bytes.ensures c.head.ensures
          (c.tail.ensures ∙ ap (λ n. tail_of n (runs_within (place_of w.first) (place_of w.end) rs)) c.to.ensures),
    )
