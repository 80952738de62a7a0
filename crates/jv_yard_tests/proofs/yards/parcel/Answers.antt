-- A block's name, and bytes of its length.
use Rattle.std.proofs.Common.{refl, ap, length, lit<, lit≤}
use Rattle.jv_outside.specs.declared.parcel.Load.TheVariants.{Held}
use Rattle.jv_yard.proofs.CallLaws.{block_parcel}
use Rattle.jv_yard_tests.proofs.yards.parcel.Goals as goal

pub returns : goal.returns
returns c =
    block_parcel c.args.setting.now (record { id = 7; index = c.args.index; size = 3 })
    (record { name = c.in_ok-block_name.field-0; at = 20; load = Held c.in_ok-copied.field-0 })
    c.in_ok-copied.field-0 20
    (record { id = lit≤ tt; id_in_range = lit< tt; index = c.requires.index; some = lit≤ tt; size = c.requires.block })
    (record { named = c.in_ok-block_name.ensures; dated = refl; carries = refl })
    (ap length c.in_ok-copied.ensures)
