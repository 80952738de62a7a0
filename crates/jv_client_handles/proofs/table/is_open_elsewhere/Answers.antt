-- The place that is looked at is another one on the inode, or none is.
use Rattle.std.proofs.Common.{sym, ◌∙◌}
use Rattle.jv_client_handles.proofs.OpenLaws.{found_other, none_here, none_other}
use Rattle.jv_client_handles.proofs.table.is_open_elsewhere.Goals as goal

pub returns-then-is_on_other : goal.returns-then-is_on_other
returns-then-is_on_other c =
    found_other c.args.handle c.args.inode c.saturating_sub-place.result c.loop-index.index c.args.handles.now
    c.index-handles-index.result
    c.index-handles-index.is c.loop-index-test.true c.saturating_sub-place.ensures
    (sym c.is_on_other.ensures ∙ c.if-is_on_other.true) c.loop-index.invariant

pub loop-index-preserved : goal.loop-index-preserved
loop-index-preserved c =
    none_here c.args.handle c.args.inode c.saturating_sub-place.result c.loop-index.index c.args.handles.now
    c.index-handles-index.result
    c.index-handles-index.is c.loop-index-test.true (sym c.is_on_other.ensures ∙ c.if-is_on_other.false)
    c.loop-index.invariant

pub returns : goal.returns
returns c =
    none_other c.args.handle c.args.inode c.saturating_sub-place.result c.loop-index.index c.args.handles.now
    c.saturating_sub-place.ensures
    c.loop-index-test.false c.loop-index.invariant
