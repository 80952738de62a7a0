use Rattle.std.proofs.Common.{◌≡◌, Some, None, subst, arith}
use Rattle.jv_pending.specs.Runs.{Run, place_of, runs_before}
use Rattle.jv_pending.proofs.PartLaws.{Rise-order}
use Rattle.jv_pending.proofs.JoinLaws.{gap_le}
use Rattle.jv_pending.proofs.TouchedLaws.{last_is_run, first_reaches, first_none, first_apart}
use Rattle.jv_pending.proofs.write.first_touched.Goals as goal
use Rattle.jv_pending.proofs.write.first_touched.Goals.{else-start-inode-via-then-start-inode+else-from-end, else-start-inode-via-else-start-inode}
use Rattle.jv_model.specs.promise.Lists.{last_item}

pub last_before-requires-clause-rise : goal.last_before-requires-clause-rise
last_before-requires-clause-rise c = Rise-order 0 c.args.runs.now.entries c.requires.order

pub end-requires : goal.end-requires
end-requires c =
    let r = last_is_run (place_of c.next.result) c.args.runs.now.entries (c.in-Some.start, c.in-Some.bytes.now) c.requires.order c.in-Some.ensures in
    let f = r.in_file in
    omega arith

pub overflow_add-end : goal.overflow_add-end
overflow_add-end c =
    let r = last_is_run (place_of c.next.result) c.args.runs.now.entries (c.in-Some.start, c.in-Some.bytes.now) c.requires.order c.in-Some.ensures in
    let f = r.in_file in
    let e = c.end.ensures in
    let g = c.free_before.ensures in
    omega (arith, (gap_le c.args.from).0)

pub returns-then-from-end : goal.returns-then-from-end
returns-then-from-end c =
    let rs = c.args.runs.now.entries in
    let r : Run = (c.in-Some.start, c.in-Some.bytes.now) in
    let last = subst (λ n. Some r ≡ last_item (runs_before n rs)) c.next.ensures.place c.in-Some.ensures in
    let e = c.end.ensures in
    let g = c.free_before.ensures in
    let t = c.if-from-end.true in
    first_reaches c.args.inode c.args.from rs r c.requires.order last c.requires.file c.if-start-inode.true (omega arith)

pub returns-else-start-inode : goal.returns-else-start-inode
returns-else-start-inode c =
    let rs = c.args.runs.now.entries in
    let r : Run = (c.in-Some.start, c.in-Some.bytes.now) in
    let last = subst (λ n. Some r ≡ last_item (runs_before n rs)) c.next.ensures.place c.in-Some.ensures in
    elim c.else-start-inode.branch [
      | else-start-inode-via-then-start-inode+else-from-end w ↦
          let e = w.end.ensures in
          let g = w.free_before.ensures in
          let t = w.if-from-end.false in
          first_apart c.args.inode c.args.from rs r c.requires.order last c.requires.file (λ same. omega arith)
      | else-start-inode-via-else-start-inode w ↦ first_apart c.args.inode c.args.from rs r c.requires.order last c.requires.file (λ same. absurd (w.if-start-inode.false same))
    ]

pub returns-in_default : goal.returns-in_default
returns-in_default c =
    let rs = c.args.runs.now.entries in
    first_none c.args.inode c.args.from rs c.requires.order (subst (λ n. None ≡ last_item (runs_before n rs)) c.next.ensures.place c.in_default.ensures)
