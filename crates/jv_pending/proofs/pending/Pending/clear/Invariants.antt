use Rattle.std.proofs.Common.{◌≡◌, length}
use Rattle.jv_model.specs.promise.client.Pending.{pending_of_others}
use Rattle.jv_pending.proofs.pending.Pending.clear.Given as goal

abbrev pub invariant-loop-at : goal.invariant-loop-at
invariant-loop-at l = record {
  others : pending_of_others l.inode l.self.bytes ≡ pending_of_others l.inode l.initial.self.bytes;
  limit : l.self.limit ≡ l.initial.self.limit;
}

abbrev pub decreases-loop-at : goal.decreases-loop-at
decreases-loop-at l = length l.self.bytes
