use Rattle.std.proofs.Common.{◌∙◌, sym, arith}
use Rattle.jv_pending.proofs.PartLaws.{Rise-order}
use Rattle.jv_pending.proofs.TouchedLaws.{last_is_run}
use Rattle.jv_pending.proofs.SegmentRunLaws.{end_is, end_none, end_other}
use Rattle.jv_pending.proofs.run.find_end.Goals as goal

pub last_before-requires-clause-rise : goal.last_before-requires-clause-rise
last_before-requires-clause-rise c = Rise-order 0 c.args.runs.now.entries c.requires

pub end-requires : goal.end-requires
end-requires c =
    let r = last_is_run _ c.args.runs.now.entries (c.in-Some.start, c.in-Some.bytes.now) c.requires c.in-Some.ensures in
    let f = r.in_file in
    omega arith

pub returns-then-start-inode-clause-same : goal.returns-then-start-inode-clause-same
returns-then-start-inode-clause-same c = c.end.ensures ∙ sym (end_is c.args.inode c.args.runs.now.entries (c.in-Some.start, c.in-Some.bytes.now) c.requires c.in-Some.ensures c.if-start-inode.true)

pub returns-then-start-inode-clause-file : goal.returns-then-start-inode-clause-file
returns-then-start-inode-clause-file c =
    let r = last_is_run _ c.args.runs.now.entries (c.in-Some.start, c.in-Some.bytes.now) c.requires c.in-Some.ensures in
    let f = r.in_file in
    let e = c.end.ensures in
    omega arith

pub returns-else-start-inode-clause-same : goal.returns-else-start-inode-clause-same
returns-else-start-inode-clause-same c = sym (end_other c.args.inode c.args.runs.now.entries (c.in-Some.start, c.in-Some.bytes.now) c.requires c.in-Some.ensures c.if-start-inode.false)

pub returns-in_default-clause-same : goal.returns-in_default-clause-same
returns-in_default-clause-same c = sym (end_none c.args.inode c.args.runs.now.entries c.requires c.in_default.ensures)
