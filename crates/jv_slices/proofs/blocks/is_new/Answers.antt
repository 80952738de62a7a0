use Rattle.std.proofs.Common.{Option, subst}
use Rattle.std.specs.BTreeSet.{BTreeSet}
use Rattle.jv_slices.specs.declared.blocks.OrderedBlock.{OrderedBlock}
use Rattle.jv_slices.specs.Listing.{ListsIn}
use Rattle.jv_slices.proofs.ListingLaws.{lists_with}
use Rattle.jv_slices.proofs.blocks.is_new.Goals as goal

pub returns-clause-listed : goal.returns-clause-listed
returns-clause-listed c =
    let keys = c.args.keys.now in
    let known = subst (λ (o : Option (BTreeSet OrderedBlock)). ListsIn keys o) c.in-Some.is c.requires.listed in
    lists_with keys c.args.block c.in-Some.set.keys c.insert.new.self.keys c.in_ok-insert.field-0 known
    c.in_ok-insert.ensures.updates.0 c.in_ok-insert.ensures.added c.in_ok-insert.ensures.unchanged
