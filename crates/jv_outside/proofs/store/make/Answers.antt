-- What the tree has at a key then is what the map has.
use Rattle.std.proofs.Common.{None}
use Rattle.jv_model.specs.promise.rows.RowKeys.{row_key}
use Rattle.jv_outside.proofs.StoredLaws.{map_of-updated}
use Rattle.jv_outside.proofs.store.make.Goals as goal

pub returns-in-Ok-clause-ok : goal.returns-in-Ok-clause-ok
returns-in-Ok-clause-ok c = rw c.in-Put.is (map_of-updated row_key _ _ _ _ c.in-Ok.ensures.ok)

pub returns-in-Del-clause-ok : goal.returns-in-Del-clause-ok
returns-in-Del-clause-ok c = rw c.in-Del.is (map_of-updated row_key _ _ _ None c.remove.ensures)
