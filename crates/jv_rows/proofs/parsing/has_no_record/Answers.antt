use Rattle.jv_rows.proofs.grammars.RecordLaws.{no_record}
use Rattle.jv_rows.proofs.parsing.has_no_record.Goals as goal

pub returns : goal.returns
returns c = no_record c.args.bytes.now c.requires
