use Rattle.std.proofs.Common.{◌++◌, List, drop}
use Rattle.std.specs.Prelude.{All}
use Rattle.jv_model.specs.declared.slice.Piece.{Piece}
use Rattle.jv_model.specs.blocks.Slices.{IsPart, IsPlan, IsAsStored}
use Rattle.jv_model.specs.promise.blocks.Slices.{visible}
use Rattle.jv_slices.specs.Stretches.{Shows, Differ}
use Rattle.jv_slices.specs.Shown.{IsOfRecord, EndsBy}
use Rattle.jv_slices.proofs.plans.plan.Given as goal

abbrev pub invariant-loop-stretch : goal.invariant-loop-stretch
invariant-loop-stretch l = record {
  left : Shows (visible l.list) l.at l.to (drop l.stretch-index l.stretch-items);
  differ : Differ (drop l.stretch-index l.stretch-items);
  plan : (rest : List Piece) → IsPlan l.list l.at l.to rest → IsPlan l.list l.from l.to (l.pieces.items ++ rest);
  says : All (IsAsStored l.list) l.pieces.items;
  parts : All IsPart l.pieces.items;
  ends : All (EndsBy l.to) l.pieces.items;
  named : All (IsOfRecord l.list) l.pieces.items;
}
