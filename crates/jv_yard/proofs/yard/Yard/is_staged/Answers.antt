-- A client that isn't there has nothing staged.
use Rattle.std.proofs.Common.{sym, ap, is_some}
use Rattle.jv_yard.proofs.StagingLaws.{staged-no_client}
use Rattle.jv_yard.proofs.yard.Yard.is_staged.Goals as goal

pub returns-in-None : goal.returns-in-None
returns-in-None g c = sym (ap is_some (staged-no_client c.args.self.now.staged c.args.c c.args.name.now (sym c.in-None.ensures)))
