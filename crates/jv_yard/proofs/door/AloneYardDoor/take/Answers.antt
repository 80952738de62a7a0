-- The yard is the one that was given.
use Rattle.std.proofs.Common.{sym, ◌∙◌}
use Rattle.jv_yard.proofs.LaterLaws.{Later-refl}
use Rattle.jv_yard.proofs.door.AloneYardDoor.take.Goals as goal

pub returns-clause-later : goal.returns-clause-later
returns-clause-later g c =
    let is = sym c.take.ensures.value ∙ c.unwrap.ensures in
    rw is (Later-refl _)
