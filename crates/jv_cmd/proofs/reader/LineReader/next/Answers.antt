use Rattle.std.proofs.Common.{◌≡◌, ℕ, ◌+◌, Ok, take, length, refl, sym, ap, subst, ◌∙◌, arith}
use Rattle.std.specs.Io.KnownBytes.{prepend_known}
use Rattle.std.proofs.lemmas.List.{take_at, length-append}
use Rattle.jv_cmd.specs.Texts.{has_feed}
use Rattle.jv_cmd.specs.Cutting.{Finds, Fills}
use Rattle.jv_cmd.proofs.asked.TextLaws.{no_feed}
use Rattle.jv_cmd.proofs.streams.CuttingLaws.{Keeps-same, Keeps-filled, Finds-feed, Finds-last, IsOverlong-held}
use Rattle.jv_cmd.proofs.reader.LineReader.next.Goals as goal

pub pieces-init : goal.pieces-init
pieces-init g c = record {
  within = omega arith;
  none_seen = refl;
  kept = Keeps-same (prepend_known c.args.self.now (g.S.Source.seen c.args.source.now).content);
  calm = refl;
}

pub returns-in-Some-clause-finds : goal.returns-in-Some-clause-finds
returns-in-Some-clause-finds g c =
    subst (λ next. Finds (prepend_known c.args.self.now (g.S.Source.seen c.args.source.now).content) (g.S.Source.seen c.pieces.source).content c.pieces.self (Ok next)) (sym c.by_length.ensures)
    (Finds-feed _ (g.S.Source.seen c.pieces.source).content c.pieces.self c.in-Some.count c.pieces.invariant.kept (sym c.in-Some.ensures))

pub returns-then-seen-gt-MAX_LINE-clause-finds : goal.returns-then-seen-gt-MAX_LINE-clause-finds
returns-then-seen-gt-MAX_LINE-clause-finds g c =
    IsOverlong-held _ (g.S.Source.seen c.pieces.source).content c.pieces.self c.pieces.invariant.kept (no_feed c.pieces.self (sym c.in_default.ensures)) (omega (arith, c.len-seen.ensures.length))

pub returns-then-branch-eq0-clause-finds : goal.returns-then-branch-eq0-clause-finds
returns-then-branch-eq0-clause-finds g c =
    let filled = subst (λ (n : ℕ). Fills (g.S.Source.seen c.pieces.source).content (g.S.Source.seen c.fill.new.source).content c.pieces.self c.fill.new.self n) c.if-branch-eq0.true c.in_ok-fill.ensures.filled in
    subst (λ next. Finds (prepend_known c.args.self.now (g.S.Source.seen c.args.source.now).content) (g.S.Source.seen c.fill.new.source).content c.fill.new.self (Ok next)) (sym c.last_line.ensures)
    (Finds-last _ (g.S.Source.seen c.pieces.source).content (g.S.Source.seen c.fill.new.source).content c.pieces.self c.fill.new.self c.len-seen.result c.pieces.invariant.kept filled (no_feed c.pieces.self (sym c.in_default.ensures)) c.len-seen.ensures.length (omega arith))

pub pieces-preserved : goal.pieces-preserved
pieces-preserved g c =
    let filled = c.in_ok-fill.ensures.filled in
    let longer : length c.fill.new.self ≡ length c.pieces.self + c.in_ok-fill.field-0 = ap length filled.held ∙ length-append c.pieces.self filled.bytes ∙ ap (λ n. length c.pieces.self + n) filled.size in
    let front : take c.len-seen.result c.fill.new.self ≡ c.pieces.self = ap (take c.len-seen.result) filled.held ∙ take_at c.pieces.self filled.bytes c.len-seen.result (sym c.len-seen.ensures.length) in
    record {
      within = omega (arith, longer, c.len-seen.ensures.length);
      none_seen = ap has_feed front ∙ no_feed c.pieces.self (sym c.in_default.ensures);
      kept = Keeps-filled _ (g.S.Source.seen c.pieces.source).content (g.S.Source.seen c.fill.new.source).content c.pieces.self c.fill.new.self c.in_ok-fill.field-0 c.pieces.invariant.kept filled;
      calm = c.in_ok-fill.ensures.counts ∙ c.pieces.invariant.calm;
    }
