use Rattle.std.proofs.Common.{refl}
use Rattle.jv_cmd.specs.promise.Attaching.{NoDepot, NoCarrier, NoShelf}
use Rattle.jv_cmd.proofs.blocks.attach_all.Goals as goal

pub returns-in-Err : goal.returns-in-Err
returns-in-Err g c = NoDepot c.in-Err.down c.ended_at.ensures c.in-Err.ensures refl refl

pub returns-in-Err-attach_carrier : goal.returns-in-Err-attach_carrier
returns-in-Err-attach_carrier g c =
    NoCarrier c.in-Err-attach_carrier.down c.ended_at-in-Err-attach_carrier.ensures c.in_default.ensures
    c.in-Err-attach_carrier.ensures refl

pub returns-in-Err-attach : goal.returns-in-Err-attach
returns-in-Err-attach g c =
    NoShelf c.in-Err-attach.down c.ended_at-in-Err-attach.ensures c.in_default.ensures
    c.in_default-attach_carrier.ensures c.in-Err-attach.ensures
