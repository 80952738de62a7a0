use Rattle.std.proofs.Common.{arith, ap, sym, ◌∙◌, length}
use Rattle.std.specs.Option.{option_copied}
use Rattle.std.proofs.lemmas.Bool.{le-leb, lt-leb}
use Rattle.jv_model.specs.declared.limits.TheConstants.{MAX_DATA}
use Rattle.jv_model.specs.promise.Lists.{parted}
use Rattle.jv_script.specs.Reading.{parts_after, bytes_after}
use Rattle.jv_script.proofs.PartLaws.{bytes_of_parts-after, bytes_after-none, bytes_after-more, bytes_after-off}
use Rattle.jv_script.proofs.data.joined.Goals as goal

pub loop-rest-init : goal.loop-rest-init
loop-rest-init c = bytes_of_parts-after (parted 43 c.args.text.now) ∙ ap (λ front. bytes_after front (parted 43 c.args.text.now)) (sym c.in_ok-bytes.ensures.items)

pub returns-then-not-branch : goal.returns-then-not-branch
returns-then-not-branch c =
    let front = c.push_short_parts.new.bytes.items in
    let part = c.cut.result.0.now in
    let texts = parts_after 43 (option_copied c.cut.result.1) in
    let here = c.loop-rest.invariant ∙ ap (λ rest. bytes_after c.loop-rest.bytes.items (parts_after 43 (option_copied rest))) c.in-Some.is ∙ c.in_ok-parts.ensures.whole ∙ ap (bytes_after front) c.cut.ensures in
    sym (here ∙ bytes_after-off front c.push_part.new.bytes.items part texts (rw c.if-not-branch.true at c.in_ok-push_part.ensures))

pub loop-rest-smaller : goal.loop-rest-smaller
loop-rest-smaller c =
    let rest = ap (λ rest. length (parts_after 43 (option_copied rest))) c.in-Some.is in
    omega (arith, rest, c.in_ok-parts.ensures.no_more, ap length c.cut.ensures)

pub loop-rest-preserved : goal.loop-rest-preserved
loop-rest-preserved c =
    let front = c.push_short_parts.new.bytes.items in
    let part = c.cut.result.0.now in
    let texts = parts_after 43 (option_copied c.cut.result.1) in
    let here = c.loop-rest.invariant ∙ ap (λ rest. bytes_after c.loop-rest.bytes.items (parts_after 43 (option_copied rest))) c.in-Some.is ∙ c.in_ok-parts.ensures.whole ∙ ap (bytes_after front) c.cut.ensures in
    here ∙ bytes_after-more front c.push_part.new.bytes.items part texts (rw c.if-not-branch.false at c.in_ok-push_part.ensures)

pub returns-then-len-gt-MAX_DATA : goal.returns-then-len-gt-MAX_DATA
returns-then-len-gt-MAX_DATA c =
    let bytes = c.loop-rest.bytes.items in
    let whole = c.loop-rest.invariant ∙ ap (λ rest. bytes_after c.loop-rest.bytes.items (parts_after 43 (option_copied rest))) c.in_default.is ∙ bytes_after-none bytes in
    rw (whole, lt-leb (length bytes) MAX_DATA (omega arith))

pub returns : goal.returns
returns c =
    let bytes = c.loop-rest.bytes.items in
    let whole = c.loop-rest.invariant ∙ ap (λ rest. bytes_after c.loop-rest.bytes.items (parts_after 43 (option_copied rest))) c.in_default.is ∙ bytes_after-none bytes in
    rw (whole, le-leb (length bytes) MAX_DATA (omega arith), c.from_vec.ensures)
