-- A keeper's error where a row was to be read.
use Rattle.jv_model.specs.declared.fault.Down.{Down}
use Rattle.jv_model.specs.declared.fault.Down.TheVariants as down
use Rattle.jv_model.specs.declared.fault.RowFault.{RowFault}
use Rattle.jv_model.specs.declared.fault.RowFault.TheVariants.{Failed, Memory}

abbrev pub row_fault : Down → RowFault
row_fault down.Failed = Failed
row_fault down.Memory = Memory
