use Rattle.std.proofs.Common.{◌∙◌, sym}
use Rattle.jv_client_reads.proofs.GoingLaws.{fills_more, fills_none, misses}
use Rattle.jv_client_reads.proofs.begun.fill_cached.Goals as goal

pub returns-then-not-fill_next : goal.returns-then-not-fill_next
returns-then-not-fill_next c =
    let no = c.if-not-fill_next.true in
    misses c.args.cache.now c.loop-block.cache c.fill_next.new.cache c.args.part.now c.loop-block.part c.in-Some.block
    c.loop-block.invariant
    c.fill_next.ensures.cache (sym c.next.ensures.next
    ∙ c.in-Some.is) c.fill_next.new.part (c.fill_next.ensures.miss no) (c.fill_next.ensures.missing no)

pub loop-block-preserved : goal.loop-block-preserved
loop-block-preserved c =
    fills_more c.args.cache.now c.loop-block.cache c.fill_next.new.cache c.args.part.now c.loop-block.part
    c.in-Some.block c.loop-block.invariant
    c.fill_next.ensures.cache (sym c.next.ensures.next
    ∙ c.in-Some.is) c.fill_next.new.part c.in-Some.ensures.named (c.fill_next.ensures.hit c.if-not-fill_next.false)

pub loop-block-init : goal.loop-block-init
loop-block-init c = fills_none c.args.cache.now c.args.part.now
