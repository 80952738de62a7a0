-- What is kept of a part while it is read.
use Rattle.std.specs.Prelude.{◌≡◌, ◌+◌, ◌-◌, length, drop, All}
use Rattle.jv_model.specs.promise.blocks.Slices.{stored_place}
use Rattle.jv_slices_reading.specs.declared.window.WindowRead.TheInside.{Inside}
use Rattle.jv_slices_reading.specs.Overlaps.{HasOverlaps, overlaps_at}
use Rattle.jv_slices_reading.specs.Parts.{Part, IsNamed}

abbrev pub part_of : Inside → Part
part_of w = record {
  list = w.list.value;
  from = w.from;
  to = w.to;
  block = w.block;
  left = drop w.filled w.needed.items;
  bytes = w.bytes.items;
}

-- the table has all overlaps of the part, and its blocks are of slices that the list names
pub record IsSound (w : Inside) : Type 0 where
  pub long : length w.bytes.items ≡ w.to - w.from
  pub named : All (IsNamed w.list.value w.block) w.needed.items
  pub has : HasOverlaps w.block (λ n. stored_place w.list.value (w.from + n)) (w.to - w.from)
      (w.to - w.from) (overlaps_at w.table)
