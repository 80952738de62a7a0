use Rattle.jv_model.specs.declared.row.Row.TheVariants.{OfSlice}
use Rattle.jv_rows.specs.Tables.{slice_row}
use Rattle.jv_rows.proofs.grammars.ExactRowLaws.{slice_exact}
use Rattle.jv_rows.proofs.grammars.SpelledLaws.{spelled_row}
use Rattle.jv_rows.proofs.grammar.SliceRowSpelled.spell.Goals as goal

pub returns : goal.returns
returns c = spelled_row slice_exact OfSlice 5 slice_row c.args.self.now c.has_slice_widths.ensures c.requires c.spell_slice.result c.spell_slice.ensures
