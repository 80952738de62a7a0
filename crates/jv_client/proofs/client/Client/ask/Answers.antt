-- A reading asks for what it needs: a look, or a block.
use Rattle.jv_client.proofs.client.Client.ask.Goals as goal

pub returns-in-Look : goal.returns-in-Look
returns-in-Look g c = λ now carrier h ahead ready. c.look.ensures now _ carrier h ahead ready

pub returns-in-Block : goal.returns-in-Block
returns-in-Block g c = λ now carrier h ahead ready.
    c.get.ensures now c.args.entry (g.K.Keeper.seen c.args.k.now) carrier h ahead ready
