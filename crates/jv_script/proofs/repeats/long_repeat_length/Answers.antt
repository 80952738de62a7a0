use Rattle.std.proofs.Common.{arith, List, ℕ, get_or, ap, ◌∙◌}
use Rattle.std.proofs.lemmas.List.{get_or-take, get_or-drop}
use Rattle.jv_script.proofs.RepeatLaws.{long_count}
use Rattle.jv_script.proofs.repeats.long_repeat_length.Goals as goal

pub returns-then-more-lt-FEW_MORE : goal.returns-then-more-lt-FEW_MORE
returns-then-more-lt-FEW_MORE c =
    let bytes = c.args.bytes.now in
    let few = c.split_at-then-next-ge-FEW_MORE.result.0.now in
    let is_few = c.split_at-then-next-ge-FEW_MORE.ensures in
    let next = c.split_at.ensures in
    long_count bytes few c.front_count-more.result c.requires c.front_count-more.ensures (omega (arith, is_few.front_len, c.if-more-lt-FEW_MORE.true, c.if-next-ge-FEW_MORE.true))
    (λ k below. (omega (arith, is_few.front_len, next.back_len, c.if-next-ge-FEW_MORE.true), ap (λ (list : List ℕ). get_or list k 0) is_few.front ∙ get_or-take 6 c.split_at.result.1.now k 0 (omega (arith, is_few.front_len, c.if-next-ge-FEW_MORE.true)) ∙ ap (λ (list : List ℕ). get_or list k 0) next.back ∙ get_or-drop 4 bytes k 0))
