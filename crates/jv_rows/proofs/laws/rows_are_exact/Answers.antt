use Rattle.jv_rows.proofs.grammars.ExactRowLaws.{setting_exact, counters_exact, node_exact, edge_exact, slice_exact, session_exact, sustained_exact, dropped_exact, dead_exact}
use Rattle.jv_rows.proofs.grammars.ExactListLaws.{list_exact}
use Rattle.jv_rows.proofs.laws.rows_are_exact.Goals as goal

pub returns : goal.returns
returns c = record {
  setting = setting_exact;
  counters = counters_exact;
  node = node_exact;
  edge = edge_exact;
  list = list_exact;
  slice = slice_exact;
  session = session_exact;
  sustained = sustained_exact;
  dropped = dropped_exact;
  dead = dead_exact;
}
