-- A client that isn't there has nothing staged.
use Rattle.std.proofs.Common.{sym, ap, ◌∙◌, unwrap_or}
use Rattle.jv_model.specs.promise.FiniteMap.{empty_map, key_count}
use Rattle.jv_yard.proofs.StagingLaws.{count-empty}
use Rattle.jv_yard.proofs.yard.Yard.staged_count.Goals as goal

pub returns-in-None : goal.returns-in-None
returns-in-None g c = sym count-empty ∙ ap (λ found. key_count (unwrap_or found empty_map)) c.in-None.ensures
