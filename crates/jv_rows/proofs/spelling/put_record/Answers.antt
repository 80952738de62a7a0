use Rattle.jv_model.specs.promise.rows.RowFields.{word, long}
use Rattle.jv_model.specs.promise.rows.RowGrammar.{record_bytes}
use Rattle.jv_rows.proofs.grammars.RecordLaws.{five_pieces}
use Rattle.jv_rows.proofs.spelling.put_record.Goals as goal

pub returns : goal.returns
unfolding record_bytes
returns c =
    let r = c.args.r.now in
    rw (c.in_ok-extend_from_slice-5.ensures.items, c.to_be_bytes-5.ensures, c.in_ok-extend_from_slice-4.ensures.items, c.to_be_bytes-4.ensures, c.in_ok-extend_from_slice-3.ensures.items, c.to_be_bytes-3.ensures, c.in_ok-extend_from_slice-2.ensures.items, c.to_be_bytes-2.ensures, c.in_ok-extend_from_slice.ensures.items, c.to_be_bytes.ensures)
    (five_pieces c.args.out.now.items (word r.pos) (long r.id) (word r.size) (word r.off) (word r.len))
