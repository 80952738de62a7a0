-- What only inner contracts cite: of `promise/rows/RowGrammar`.
use Rattle.std.specs.Prelude.{Bool, true}
use Rattle.jv_model.specs.declared.row.Row.{Row}
use Rattle.jv_model.specs.declared.row.Row.TheVariants.{OfSetting, OfCounters, OfNode, OfEdge, OfList, OfSlice, OfSession, OfSustained, OfDropped, OfDead}
use Rattle.jv_model.specs.promise.rows.RowGrammar.{is_setting, is_counters, is_node, is_edge, is_list, is_slice, is_session}

abbrev pub is_row : Row → Bool
is_row (OfSetting s) = is_setting s
is_row (OfCounters c) = is_counters c
is_row (OfNode n) = is_node n
is_row (OfEdge e) = is_edge e
is_row (OfList rs) = is_list rs
is_row (OfSlice s) = is_slice s
is_row (OfSession s) = is_session s
is_row OfSustained = true
is_row (OfDropped d) = true
is_row (OfDead d) = true
