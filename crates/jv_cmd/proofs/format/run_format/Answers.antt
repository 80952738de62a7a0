use Rattle.std.proofs.Common.{refl}
use Rattle.jv_outside.specs.promise.Holding.{AsBefore}
use Rattle.jv_cmd.proofs.format.run_format.Goals as goal

pub returns-in_default-clause-formats : goal.returns-in_default-clause-formats
returns-in_default-clause-formats g c = record {
  found = g.K.Keeper.seen c.args.world.now.keeper;
  attached = AsBefore refl;
  formats = record { ends = (tt, refl, refl); opened = refl; source = refl; blocks = refl; journal = refl };
}
