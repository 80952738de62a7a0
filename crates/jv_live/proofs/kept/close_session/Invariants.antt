use Rattle.jv_live.proofs.ClosingLaws.{Dropping, room_after}
use Rattle.jv_live.proofs.kept.close_session.Given as goal

abbrev pub invariant-loop-draft : goal.invariant-loop-draft
invariant-loop-draft g l = Dropping l.who.sid (g.K.Keeper.seen l.fn.k) (g.K.Keeper.seen l.k) l.draft l.after

abbrev pub decreases-loop-draft : goal.decreases-loop-draft
decreases-loop-draft g l = room_after l.after
