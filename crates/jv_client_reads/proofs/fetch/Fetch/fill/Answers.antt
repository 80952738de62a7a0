use Rattle.std.proofs.Common.{◌∙◌, Some, ap, sym}
use Rattle.jv_client_reads.proofs.GoingLaws.{fill_ahead, fill_can, fill_reads}
use Rattle.jv_client_reads.proofs.fetch.Fetch.fill.Goals as goal

pub returns-clause-can : goal.returns-clause-can
returns-clause-can c = fill_can c.as_slice.result.now c.args.self.now c.fill_in.new.self c.fill_in.ensures

pub returns-clause-ahead : goal.returns-clause-ahead
returns-clause-ahead c = fill_ahead c.as_slice.result.now c.args.self.now c.fill_in.new.self c.fill_in.ensures c.args.block c.requires.needed

pub returns-clause-reads : goal.returns-clause-reads
returns-clause-reads c = λ blocks views all own is.
    fill_reads c.as_slice.result.now c.args.self.now c.fill_in.new.self c.fill_in.ensures c.args.block c.requires.needed
    blocks views all
    (own ∙ ap Some (sym c.as_slice.ensures)) is
