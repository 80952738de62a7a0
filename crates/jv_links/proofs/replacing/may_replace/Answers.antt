use Rattle.std.proofs.Common.{eq-eqb, ne_eqb}
use Rattle.std.proofs.lemmas.Result.{err_from_is_err_and}
use Rattle.jv_links.proofs.entries.ReplaceableLaws.{replaceable-no_directory, replaceable-leaf, replaceable-directory, replaceable-unread, replaceable-not_empty, replaceable-empty}
use Rattle.jv_links.proofs.replacing.may_replace.Goals as goal

pub returns-then-ends-eq2 : goal.returns-then-ends-eq2
returns-then-ends-eq2 g c =
    let climbed = rw c.if-branch.false at c.in_ok-is_inside.ensures in
    replaceable-no_directory c.args.ends.now c.args.other.now (g.K.Keeper.seen c.args.k.now) c.requires.ends
    c.requires.other (g.K.Keeper.seen c.is_inside.new.k) climbed
    (eq-eqb c.args.ends.now.source.node.kind 2 c.if-ends-eq2.true)
    (ne_eqb c.args.other.now.node.kind 2 c.if-other-ne2.true)

pub returns-then-other-ne2 : goal.returns-then-other-ne2
returns-then-other-ne2 g c =
    let climbed = rw c.if-branch.false at c.in_ok-is_inside.ensures in
    replaceable-leaf c.args.ends.now c.args.other.now (g.K.Keeper.seen c.args.k.now) c.requires.ends c.requires.other
    (g.K.Keeper.seen c.is_inside.new.k) climbed
    (ne_eqb c.args.ends.now.source.node.kind 2 c.if-ends-eq2.false)
    (ne_eqb c.args.other.now.node.kind 2 c.if-other-ne2.true)

pub returns-then-ends-ne2 : goal.returns-then-ends-ne2
returns-then-ends-ne2 g c =
    let climbed = rw c.if-branch.false at c.in_ok-is_inside.ensures in
    replaceable-directory c.args.ends.now c.args.other.now (g.K.Keeper.seen c.args.k.now) c.requires.ends
    c.requires.other (g.K.Keeper.seen c.is_inside.new.k) climbed
    (ne_eqb c.args.ends.now.source.node.kind 2 c.if-ends-ne2.true)
    (eq-eqb c.args.other.now.node.kind 2 c.if-other-ne2.false)

pub returns-in_err-has_entries : goal.returns-in_err-has_entries
returns-in_err-has_entries g c =
    let p = err_from_is_err_and c.from_residual-in_err-has_entries.result c.from_residual-in_err-has_entries.ensures.1
    in
    let climbed = rw c.if-branch.false at c.in_ok-is_inside.ensures in
    rw (p.1, p.2)
    (replaceable-unread c.args.ends.now c.args.other.now (g.K.Keeper.seen c.args.k.now) c.requires.ends c.requires.other
    (g.K.Keeper.seen c.is_inside.new.k) climbed
    (eq-eqb c.args.ends.now.source.node.kind 2 c.if-ends-ne2.false)
    (eq-eqb c.args.other.now.node.kind 2 c.if-other-ne2.false)
    (g.K.Keeper.seen c.has_entries.new.k) c.in_err-has_entries.field-0.0 c.in_err-has_entries.ensures)

pub returns-then-branch-2 : goal.returns-then-branch-2
returns-then-branch-2 g c =
    let climbed = rw c.if-branch.false at c.in_ok-is_inside.ensures in
    let full = rw c.if-branch-2.true at c.in_ok-has_entries.ensures in
    replaceable-not_empty c.args.ends.now c.args.other.now (g.K.Keeper.seen c.args.k.now) c.requires.ends
    c.requires.other (g.K.Keeper.seen c.is_inside.new.k) climbed
    (eq-eqb c.args.ends.now.source.node.kind 2 c.if-ends-ne2.false)
    (eq-eqb c.args.other.now.node.kind 2 c.if-other-ne2.false)
    (g.K.Keeper.seen c.has_entries.new.k) full

pub returns : goal.returns
returns g c =
    let climbed = rw c.if-branch.false at c.in_ok-is_inside.ensures in
    let empty = rw c.if-branch-2.false at c.in_ok-has_entries.ensures in
    replaceable-empty c.args.ends.now c.args.other.now (g.K.Keeper.seen c.args.k.now) c.requires.ends c.requires.other
    (g.K.Keeper.seen c.is_inside.new.k) climbed
    (eq-eqb c.args.ends.now.source.node.kind 2 c.if-ends-ne2.false)
    (eq-eqb c.args.other.now.node.kind 2 c.if-other-ne2.false)
    (g.K.Keeper.seen c.has_entries.new.k) empty
