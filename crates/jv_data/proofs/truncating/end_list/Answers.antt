use Rattle.std.proofs.Common.{◌%◌, ◌<◌, arith, List, sym, subst}
use Rattle.std.specs.Prelude.{IsTrue}
use Rattle.jv_model.specs.declared.limits.TheConstants.{WINDOW}
use Rattle.jv_model.specs.declared.slice.Rec.{Rec}
use Rattle.jv_model.specs.promise.rows.RowGrammar.{is_list}
use Rattle.jv_rows.proofs.counts.AppendingLaws.{is_list-push}
use Rattle.jv_volume_bytes.specs.Places.{zero_record}
use Rattle.jv_volume_bytes.proofs.CutLaws.{zero-is}
use Rattle.jv_data.proofs.copies.CopyingLaws.{all_allowed}
use Rattle.jv_data.proofs.truncating.end_list.Goals as goal

pub put_list-requires : goal.put_list-requires
put_list-requires g c =
    subst (λ (l : List Rec). IsTrue (is_list l)) (sym c.in_ok-push.ensures.ok)
    (is_list-push c.in_ok-list.list (zero_record (c.args.len % WINDOW)) (all_allowed c.in_ok-list.list c.in_ok-list.ensures.records) (zero-is (c.args.len % WINDOW) (let inside : c.args.len % WINDOW < WINDOW = grind arith in inside)))
