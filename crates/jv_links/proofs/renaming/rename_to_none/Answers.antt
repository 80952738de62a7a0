use Rattle.jv_model.specs.declared.basics.How.TheVariants.{Plain, NoReplace}
use Rattle.jv_links.proofs.renaming.rename_to_none.Goals as goal

pub returns-in-Plain : goal.returns-in-Plain
returns-in-Plain g c caller asks = rw c.in-Plain.is (c.move_to_free.ensures caller Plain asks)

pub returns-in-NoReplace : goal.returns-in-NoReplace
returns-in-NoReplace g c caller asks = rw c.in-NoReplace.is (c.move_to_free-in-NoReplace.ensures caller NoReplace asks)
