use Rattle.std.proofs.lemmas.Result.{err_from_is_err_and}
use Rattle.jv_rows.proofs.transactions.ReadingPartLaws.{seen_edge}
use Rattle.jv_rows.proofs.walks.WalkLaws.{has_edge_row}
use Rattle.jv_rows.proofs.walks.NameStepLaws.{entry_not_read, entry_is, no_entry_is}
use Rattle.jv_rows.proofs.walking.child.Goals as goal

pub returns-in_err-edge : goal.returns-in_err-edge
returns-in_err-edge g c =
    let p = err_from_is_err_and c.from_residual.result c.from_residual.ensures.1 in
    rw (p.1, p.2) (entry_not_read c.args.dir c.args.name.now c.in_err-edge.field-0.0 (seen_edge c.in_err-edge.ensures))

pub named-requires : goal.named-requires
named-requires g c =
    let r = rw c.in-Some.is at c.in_ok-edge.ensures in
    has_edge_row (seen_edge r)

pub returns-in-Some : goal.returns-in-Some
returns-in-Some g c =
    let r = rw c.in-Some.is at c.in_ok-edge.ensures in
    entry_is c.args.dir c.args.name.now c.in-Some.edge (seen_edge r) c.named.ensures

pub returns-in-None : goal.returns-in-None
returns-in-None g c =
    let r = rw c.in-None.is at c.in_ok-edge.ensures in
    no_entry_is c.args.dir c.args.name.now (seen_edge r)
