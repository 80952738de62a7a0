use Rattle.std.proofs.Common.{◌≡◌, ◌≤◌, ◌+◌, ◌-◌, ◌++◌, take, drop, length, ap, ◌∙◌, arith}
use Rattle.std.proofs.lemmas.List.{length-take, length-drop}
use Rattle.jv_model.specs.declared.limits.TheConstants.{MAX_LINE}
use Rattle.jv_cmd.proofs.streams.BufferLaws.{held_more}
use Rattle.jv_cmd.proofs.reader.LineReader.fill.Goals as goal

pub returns-clause-filled : goal.returns-clause-filled
returns-clause-filled g c =
    let i = c.self.inside in
    let m = c.make_room-start in
    let n = c.in_ok-count.count in
    let v = c.read_behind.new.buffer in
    let held : take (m.result.1 - m.result.0) (drop m.result.0 m.new.buffer.items) ≡ c.args.self.now = m.ensures.same ∙ c.self.view_is in
    let fits : m.result.1 + n ≤ length v.items = omega (arith, c.in_ok-count.ensures.reads.within, length-drop m.result.1 v.items, c.in_ok-count.ensures.size, m.ensures.within, v.ok.0) in
    let order = m.ensures.order in
    let view : take (i.end - i.start) (drop i.start i.buffer.items) ≡ c.args.self.now = c.self.view_is in
    let small : i.end - i.start ≤ MAX_LINE = omega (arith, c.requires, ap length view, length-take (i.end - i.start) (drop i.start i.buffer.items), length-drop i.start i.buffer.items, i.buffer.ok.0) in
    let room = m.ensures.room small in
    record {
      bytes = take n (drop m.result.1 v.items);
      size = omega (arith, length-take n (drop m.result.1 v.items), length-drop m.result.1 v.items, fits);
      held = held_more m.new.buffer.items v.items m.result.0 m.result.1 n order (omega (arith, fits)) c.in_ok-count.ensures.front ∙ ap (λ bs. bs ++ take n (drop m.result.1 v.items)) held;
      taken = c.in_ok-count.ensures.reads.bytes;
      at_end = λ e. c.in_ok-count.ensures.reads.at_end e (omega (arith, length-drop m.result.1 v.items, fits, room, v.ok.0, c.read_behind.ensures.size, m.ensures.size));
    }
