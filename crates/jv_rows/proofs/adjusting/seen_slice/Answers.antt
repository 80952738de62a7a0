use Rattle.std.proofs.Common.{[], refl}
use Rattle.jv_model.specs.declared.row.Row.TheVariants.{OfSlice}
use Rattle.jv_model.specs.promise.rows.RowGrammar.{is_slice, slice_bytes, slice_of}
use Rattle.jv_model.specs.promise.rows.RowPlaces.{slice_key}
use Rattle.jv_rows.specs.Tables.{slice_row}
use Rattle.jv_rows.proofs.counts.AdjustLaws.{sees-stored}
use Rattle.jv_rows.proofs.transactions.DraftLaws.{sees_stored}
use Rattle.jv_rows.proofs.adjusting.seen_slice.Goals as goal

pub returns-then-is_stored : goal.returns-then-is_stored
returns-then-is_stored g c =
    sees-stored OfSlice is_slice (slice_key c.args.id) c.args.draft.now (g.K.Keeper.seen c.args.k.now) (g.K.Keeper.seen c.read_slice.new.k) (c.requires c.if-is_stored.true) c.read_slice.result
    (sees_stored OfSlice slice_of 5 slice_row (slice_key c.args.id) refl slice_bytes is_slice [] (g.K.Keeper.seen c.args.k.now) (g.K.Keeper.seen c.read_slice.new.k) c.read_slice.result refl c.read_slice.ensures)
