-- A transaction on the bytes of files that is refused reads alone.
use Rattle.std.proofs.Common.{inl, Result, Err}
use Rattle.jv_model.specs.declared.fault.RowFault.TheVariants.{Bad, Failed, Memory}
use Rattle.jv_model.specs.declared.fault.Fault.{Fault}
use Rattle.jv_model.specs.declared.fault.TxFault.{TxFault}
use Rattle.jv_model.specs.declared.fault.TxFault.TheVariants.{Refused, Moved, Rows as OfRows}
use Rattle.jv_model.specs.declared.op.Reply.{Reply}
use Rattle.jv_model.specs.promise.rows.RowKeys.{RowMap}
use Rattle.jv_model.specs.promise.tree.Caller.{Outcome}
use Rattle.jv_model.specs.promise.tree.Tree.{Tree}
use Rattle.jv_outside.specs.promise.Store.{Store}
use Rattle.jv_rows.specs.Transactions.{Agrees, Looks}
use Rattle.jv_volume.specs.promise.TypedRows.{Rows, typed}
use Rattle.jv_volume_bytes.specs.promise.Bytes.{KnownBytes, bytes_of, tree_with}
use Rattle.jv_data.specs.Changing.{Makes, AnyBytes, LandsChanged, Changes}

module _ {A : Type 0} (makes : Makes) (crowded : Rows → Type 0) (reply : A → Reply) (before after : Store) (act : Tree → Result Outcome Fault) where
  lands_refused : (fault : TxFault) (known : RowMap) (known_bytes : KnownBytes) → Agrees {A = Outcome} (Err fault) (act (tree_with known_bytes (typed known)))
      → LandsChanged {A = A} makes crowded known after.rows known_bytes reply act (Err fault)
  lands_refused (Refused fault) known known_bytes h = inl h
  lands_refused (Moved list) known known_bytes h = h
  lands_refused (OfRows (Bad at bytes)) known known_bytes h = h
  lands_refused (OfRows Failed) known known_bytes h = tt
  lands_refused (OfRows Memory) known known_bytes h = tt

  pub changes-refused : (fault : TxFault) → Looks {A = Outcome} before after (Err fault) act
      → Changes {A = A} makes AnyBytes crowded before after (Err fault) reply act
  changes-refused fault l = record {
    opened_at = l.opened_at;
    counts = l.counts;
    undone = l.rows_are;
    lands = λ known is whole known_bytes ready. lands_refused fault known known_bytes (l.agrees known is whole (bytes_of known_bytes (typed known)));
    bad = l.bad;
  }
