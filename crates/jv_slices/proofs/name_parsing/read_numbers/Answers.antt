use Rattle.std.proofs.Common.{◌∷◌, [], ◌++◌, codes}
use Rattle.std.specs.Fmt.{decimal}
use Rattle.jv_slices.proofs.NameEndLaws.{numbers_end, numbers_mid, same_block}
use Rattle.jv_slices.proofs.name_parsing.read_numbers.Goals as goal

pub returns-in_err-indexed-clause-each : goal.returns-in_err-indexed-clause-each
returns-in_err-indexed-clause-each c = λ front mark block other id index size e.
    let whole = front ++ mark ∷ [] in
    absurd (c.in_err-indexed.ensures.each (whole ++ (decimal block.id ++ codes "_" ++ decimal block.index)) block.size size (numbers_end c.args.text.now whole block e))

pub returns-in_err-sliced-clause-each : goal.returns-in_err-sliced-clause-each
returns-in_err-sliced-clause-each c = λ front mark block other id index size e.
    let whole = front ++ mark ∷ [] in
    let one = c.in_ok-indexed.ensures.each (whole ++ (decimal block.id ++ codes "_" ++ decimal block.index)) block.size size (numbers_end c.args.text.now whole block e) in
    absurd (c.in_err-sliced.ensures.each (whole ++ decimal block.id) block.index index (numbers_mid c.in_ok-indexed.indexed.now whole block one.0))

pub returns-in_err-front-clause-each : goal.returns-in_err-front-clause-each
returns-in_err-front-clause-each c = λ front mark block other id index size e.
    let whole = front ++ mark ∷ [] in
    let one = c.in_ok-indexed.ensures.each (whole ++ (decimal block.id ++ codes "_" ++ decimal block.index)) block.size size (numbers_end c.args.text.now whole block e) in
    let two = c.in_ok-sliced.ensures.each (whole ++ decimal block.id) block.index index (numbers_mid c.in_ok-indexed.indexed.now whole block one.0) in
    absurd (c.in_err-front.ensures.each front mark block.id other id two.0)

pub returns-clause-each : goal.returns-clause-each
returns-clause-each c = λ front mark block other id index size e.
    let whole = front ++ mark ∷ [] in
    let one = c.in_ok-indexed.ensures.each (whole ++ (decimal block.id ++ codes "_" ++ decimal block.index)) block.size size (numbers_end c.args.text.now whole block e) in
    let two = c.in_ok-sliced.ensures.each (whole ++ decimal block.id) block.index index (numbers_mid c.in_ok-indexed.indexed.now whole block one.0) in
    let three = c.in_ok-front.ensures.each front mark block.id other id two.0 in
    (three.0, same_block c.in_ok-front.id c.in_ok-sliced.index c.in_ok-indexed.size block three.1 two.1 one.1)
