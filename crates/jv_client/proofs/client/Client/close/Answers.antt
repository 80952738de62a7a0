-- A close without a transaction is answered at once.
use Rattle.jv_client.specs.promise.Shared.{shared}
use Rattle.jv_client.proofs.client.Client.close.Goals as goal

pub returns-else-is_last : goal.returns-else-is_last
returns-else-is_last g c yard carrier =
    c.end_at_once.ensures.made c.args.now c.args.entry (shared (g.K.Keeper.seen c.args.k.now) yard carrier)
