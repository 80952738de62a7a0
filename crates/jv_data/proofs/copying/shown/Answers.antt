use Rattle.std.proofs.Common.{◌+◌, ◌++◌, List, ap, ◌∙◌, arith}
use Rattle.std.proofs.lemmas.Result.{err_from_is_err_and}
use Rattle.jv_model.specs.declared.slice.Piece.{Piece}
use Rattle.jv_volume_bytes.specs.Fills.{records_of_plan}
use Rattle.jv_data.specs.Copying.{pieces_len}
use Rattle.jv_data.proofs.lists.ShownLaws.{plan-len, cut-next, showing-none, showing-unread, showing-more, showing-all}
use Rattle.jv_data.proofs.copying.shown.Goals as goal

pub returns-in_err-list : goal.returns-in_err-list
returns-in_err-list g c =
    let p = err_from_is_err_and c.from_residual.result c.from_residual.ensures.1 in
    rw (p.1, p.2)
    (showing-unread c.args.inode c.args.from c.args.pos c.args.len (g.K.Keeper.seen c.args.k.now) (g.K.Keeper.seen c.loop-done.k) c.loop-done.done c.loop-done.shown
    c.loop-done.invariant.so_far _ (g.K.Keeper.seen c.named_records.new.k) c.in_err-list.field-0.0 c.in_err-list.ensures.read)

pub push_pieces-requires : goal.push_pieces-requires
push_pieces-requires g c =
    let long = plan-len c.in_ok-list.list _ c.in_ok-pieces.pieces _ c.in_ok-pieces.ensures.plan in
    let same = ap pieces_len c.as_slice.ensures in
    omega (arith, long, same)

pub loop-done-init : goal.loop-done-init
loop-done-init g c = record {
  within = omega arith;
  cut = λ some less. absurd (omega (arith, some));
  so_far = showing-none c.args.inode c.args.from c.args.pos (g.K.Keeper.seen c.args.k.now) c.new-shown.result c.new-shown.ensures;
}

pub loop-done-preserved : goal.loop-done-preserved
loop-done-preserved g c = record {
  within = omega arith;
  cut = λ some less. cut-next c.args.from c.args.len c.loop-done.done c.min-part.result c.loop-done.invariant.cut (omega arith) (omega arith) less;
  so_far =
      showing-more c.args.inode c.args.from c.args.pos c.args.len (g.K.Keeper.seen c.args.k.now) (g.K.Keeper.seen c.loop-done.k) c.loop-done.done c.loop-done.shown
      c.loop-done.invariant.so_far c.from.result c.from.ensures (g.K.Keeper.seen c.named_records.new.k) c.in_ok-list.list c.in_ok-list.ensures.read c.in_ok-list.ensures.named
      c.min-part.result (omega arith) c.in_ok-pieces.pieces c.in_ok-pieces.ensures.plan c.in_ok-pieces.ensures.says c.in_ok-pieces.ensures.parts (omega arith) (omega arith)
      (λ some. c.loop-done.invariant.cut some (omega arith))
      c.push_pieces.new.shown
      (c.in_ok-push_pieces.ensures ∙ ap (λ (ps : List Piece). c.loop-done.shown ++ records_of_plan (c.args.pos + c.loop-done.done) ps) c.as_slice.ensures);
}

pub returns : goal.returns
returns g c =
    showing-all c.args.inode c.args.from c.args.pos c.args.len (g.K.Keeper.seen c.args.k.now) (g.K.Keeper.seen c.loop-done.k) c.loop-done.done c.loop-done.shown
    c.loop-done.invariant.so_far (let low = c.loop-done.invariant.within in let high = c.loop-done-test.false in omega (arith, low, high))
