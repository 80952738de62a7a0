use Rattle.std.proofs.Common.{◌≡◌, ◌+◌, ◌-◌, ◌≤◌, false, length, take}
use Rattle.std.specs.Io.KnownBytes.{prepend_known, Keeps}
use Rattle.jv_cmd.specs.declared.reader.TheConstants.{ROOM}
use Rattle.jv_cmd.specs.Texts.{has_feed}
use Rattle.jv_cmd.proofs.reader.LineReader.next.Given as goal

-- what is held and left is what was, and the bytes that were looked at have no line feed
abbrev pub invariant-pieces : goal.invariant-pieces
invariant-pieces g l = record {
  within : l.seen ≤ length l.self;
  none_seen : has_feed (take l.seen l.self) ≡ false;
  kept : Keeps (prepend_known l.initial.self (g.S.Source.seen l.initial.source).content) (prepend_known l.self (g.S.Source.seen l.source).content);
  calm : (g.S.Source.seen l.source).faults ≡ (g.S.Source.seen l.initial.source).faults;
}

abbrev pub decreases-pieces : goal.decreases-pieces
decreases-pieces g l = ROOM + 1 - length l.self
