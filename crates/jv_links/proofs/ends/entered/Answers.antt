use Rattle.std.proofs.Common.{sym, ◌∙◌}
use Rattle.jv_tree.specs.Entering.{place_of}
use Rattle.jv_links.proofs.entries.EndsLaws.{names-top}
use Rattle.jv_links.proofs.ends.entered.Goals as goal

pub returns-then-is_top-clause-comes : goal.returns-then-is_top-clause-comes
returns-then-is_top-clause-comes g c =
    names-top (g.K.Keeper.seen c.args.k.now) (g.K.Keeper.seen c.child.new.k) (place_of c.args.entry.now)
    c.in_ok-place.place c.in_ok-place.ensures
    (sym c.is_top.ensures ∙ c.if-is_top.true)
