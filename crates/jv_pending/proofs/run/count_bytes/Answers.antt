use Rattle.std.proofs.Common.{◌≡◌, ◌+◌, ◌≤◌, ◌∙◌, List, ◌∷◌, length, ap, arith}
use Rattle.std.proofs.lemmas.List.{length-append}
use Rattle.jv_pending.specs.Runs.{Run, place_of, placed, pending_bytes}
use Rattle.jv_pending.proofs.OrderLaws.{length-placed}
use Rattle.jv_pending.proofs.WindowLaws.{count_parts}
use Rattle.jv_pending.proofs.EntryLaws.{between_within}
use Rattle.jv_pending.proofs.run.count_bytes.Goals as goal

one_more : (r : Run) (rs : List Run) → length (pending_bytes (r ∷ rs)) ≡ length r.1 + length (pending_bytes rs)
one_more r rs = length-append (placed r.0.inode r.0.from r.1) (pending_bytes rs) ∙ ap (λ n. n + length (pending_bytes rs)) (length-placed r.0.inode r.0.from r.1)

pub loop-bytes-init : goal.loop-bytes-init
loop-bytes-init c =
    let e = ap (λ (t : List Run). length (pending_bytes t)) (c.into_iter-bytes-iterator.ensures.into_iter_gives ∙ c.range-bytes-items.ensures.between tt ∙ between_within c.args.first c.args.end 0 c.args.runs.now.entries c.requires.first c.requires.end c.requires.rise) in
    omega arith

pub overflow_add-count : goal.overflow_add-count
overflow_add-count c =
    let i = c.loop-bytes.invariant in
    let e = ap (λ (t : List Run). length (pending_bytes t)) c.in-Some.ensures.steps in
    let l = c.len.ensures.length in
    let f = c.requires.forward in
    let s = c.requires.small in
    let w : place_of c.args.first ≤ place_of c.args.end = omega arith in
    omega (arith, one_more (c.in-Some.field-0-0.now, c.in-Some.bytes.now) c.next.new.self, count_parts (place_of c.args.first) (place_of c.args.end) c.args.runs.now.entries c.requires.rise w)

pub loop-bytes-preserved : goal.loop-bytes-preserved
loop-bytes-preserved c =
    let i = c.loop-bytes.invariant in
    let e = ap (λ (t : List Run). length (pending_bytes t)) c.in-Some.ensures.steps in
    let l = c.len.ensures.length in
    omega (arith, one_more (c.in-Some.field-0-0.now, c.in-Some.bytes.now) c.next.new.self)
