use Rattle.std.proofs.Common.{◌≤◌, length}
use Rattle.indexmap.specs.IndexMap.{spare}
use Rattle.jv_outside.specs.LazyTrees.{entries_in, IsLike}
use Rattle.jv_outside.proofs.lazy_tree.LazyTree.sort.Given as goal

abbrev pub invariant-loop-key : goal.invariant-loop-key
invariant-loop-key g l = record {
  same : IsLike g.K.Ord.cmp (entries_in l.initial.self) (entries_in l.self);
  room : 1 ≤ spare l.self.recent;
}

abbrev pub decreases-loop-key : goal.decreases-loop-key
decreases-loop-key g l = length l.self.recent.entries
