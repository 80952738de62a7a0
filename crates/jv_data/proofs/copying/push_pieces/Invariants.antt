use Rattle.std.proofs.Common.{◌≡◌, ◌+◌, ◌++◌, take}
use Rattle.jv_volume_bytes.specs.Fills.{records_of_plan}
use Rattle.jv_data.specs.Copying.{pieces_len}
use Rattle.jv_data.proofs.copying.push_pieces.Given as goal

abbrev pub invariant-loop-piece : goal.invariant-loop-piece
invariant-loop-piece l = record {
  reached : l.at ≡ l.pos + pieces_len (take l.piece-index l.pieces);
  pushed : l.shown ≡ l.fn.shown ++ records_of_plan l.pos (take l.piece-index l.pieces);
}
