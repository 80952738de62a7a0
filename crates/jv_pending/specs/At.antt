-- Segments as the code names them.
use Rattle.std.specs.Prelude.{◌+◌, ◌*◌}
use Rattle.jv_model.specs.declared.limits.TheConstants.{WINDOW}
use Rattle.jv_model.specs.promise.client.Pending.{Segment}
use Rattle.jv_pending.specs.declared.segment.SegmentAt.{SegmentAt}

-- the segment with this window and this position in it
abbrev pub segment_at : SegmentAt → Segment
segment_at at = record { inode = at.inode; from = at.window * WINDOW + at.pos; len = at.len }
