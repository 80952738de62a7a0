use Rattle.std.proofs.Common.{◌≡◌, ◌<◌, length, Some, None, sym, ap, ◌∙◌, drop, arith}
use Rattle.std.specs.List.{position}
use Rattle.std.proofs.lemmas.List.{length-drop}
use Rattle.jv_cmd.specs.promise.Texts.{is_feed}
use Rattle.jv_cmd.proofs.asked.TextLaws.{position_after-none, position_after-some, position_within}
use Rattle.jv_cmd.proofs.reader.LineReader.feed_after.Goals as goal

found : (c : goal.In_ok-feed_in) → position is_feed (drop c.args.seen c.args.self.now) ≡ Some c.in_ok-feed_in.field-0
found c = ap (position is_feed) (sym c.rest.ensures.rest) ∙ sym c.feed_in.ensures ∙ c.in_ok-feed_in.was

pub returns-in_err-feed_in : goal.returns-in_err-feed_in
returns-in_err-feed_in c =
    let none : position is_feed (drop c.args.seen c.args.self.now) ≡ None = ap (position is_feed) (sym c.rest.ensures.rest) ∙ sym c.feed_in.ensures ∙ c.in_err-feed_in.was in
    c.from_residual.ensures ∙ sym (position_after-none c.args.self.now c.args.seen c.requires.within c.requires.none_seen none)

pub overflow_add-result : goal.overflow_add-result
overflow_add-result c =
    let near : c.in_ok-feed_in.field-0 < length (drop c.args.seen c.args.self.now) = position_within (drop c.args.seen c.args.self.now) c.in_ok-feed_in.field-0 (found c) in
    omega (arith, near, length-drop c.args.seen c.args.self.now)

pub returns : goal.returns
returns c = sym (position_after-some c.args.self.now c.args.seen c.in_ok-feed_in.field-0 c.requires.within c.requires.none_seen (found c))
