-- How a reading of a file goes: its session, and then the row of its inode.
use Rattle.std.proofs.Common.{◌≡◌, ℕ, false, [], Option, None, Some, Result, Ok, Err, sym, ap, ◌∙◌}
use Rattle.std.specs.Prelude.{◌==◌, if◌then◌else◌}
use Rattle.jv_model.specs.declared.fault.Fault.{Fault}
use Rattle.jv_model.specs.declared.fault.Fault.TheVariants.{Stale}
use Rattle.jv_model.specs.declared.fault.Gone.TheVariants.{Node as GoneNode}
use Rattle.jv_model.specs.declared.fault.RowFault.{RowFault}
use Rattle.jv_model.specs.declared.fault.TxFault.{TxFault}
use Rattle.jv_model.specs.declared.fault.TxFault.TheVariants.{Refused, Rows as OfRows}
use Rattle.jv_model.specs.declared.row.Node.{Node as NodeRow}
use Rattle.jv_model.specs.declared.row.Row.TheVariants.{OfNode}
use Rattle.jv_model.specs.promise.FiniteMap.{get}
use Rattle.jv_model.specs.promise.rows.RowGrammar.{is_node}
use Rattle.jv_model.specs.promise.rows.RowPlaces.{node_key}
use Rattle.jv_model.specs.promise.rows.RowKeys.{RowMap}
use Rattle.jv_model.specs.promise.tree.Attempt.{◌>>=◌, some_or}
use Rattle.jv_model.specs.promise.tree.Tree.{Tree, content_at, content_in}
use Rattle.jv_model.specs.tree.FileBytes.{length_seen}
use Rattle.jv_model.specs.promise.tree.Changes.{content_of}
use Rattle.jv_outside.specs.promise.Store.{Store}
use Rattle.jv_volume.specs.promise.TypedRows.{typed}
use Rattle.jv_volume.specs.promise.Views.{row_in, node_in, node_row_at}
use Rattle.jv_volume.proofs.stored.StoredLaws.{found_node, no_node, whole-stored}
use Rattle.jv_rows.specs.Drafts.{Sees, cell}
use Rattle.jv_rows.specs.Transactions.{Looks}
use Rattle.jv_rows.proofs.transactions.NeedingLaws.{session_is}
use Rattle.jv_rows.proofs.transactions.TransactionLaws.{Past, past-start, past-as, past-calm, past-looks, past-fails, past-gives, past-refuses, fails-sees, stands-sees, as_stored, node-seen}
use Rattle.jv_data.specs.Committing.{HasFile}
use Rattle.jv_model.proofs.TestLaws.{if_some-by}

-- what a look does once its session is there
abbrev pub length_at : ℕ → Tree → Result ℕ Fault
length_at inode t = some_or (content_at t inode) (Stale (GoneNode inode)) >>= (λ content. Ok content.length)

module _ (before middle : Store) (sid inode : ℕ) where
  abbrev act : Tree → Result ℕ Fault
  act = length_seen sid inode

  pub no-file : (after : Store) (fault : TxFault) → Looks before after (Err fault) act → HasFile sid inode before after (Err fault)
  no-file after fault l = record { looks = l; stands = tt; file = tt; allowed = tt }

  module _ (after : Store) (session : Looks before middle (Ok tt) (session_is sid)) where
    asked : Past before middle act (length_at inode)
    asked = past-looks before before middle act (session_is sid) (λ t unit. length_at inode t) (past-start before act) tt session

    pub file-unread : (fault : RowFault) → Sees OfNode is_node (node_key inode) [] middle after (Err fault)
        → HasFile sid inode before after (Err (OfRows fault))
    file-unread fault s =
        no-file after (OfRows fault) (past-fails before middle after act (length_at inode) asked (OfRows fault)
        (fails-sees OfNode is_node (node_key inode) [] middle after (as_stored (node_key inode) middle) fault s))

    module _ (found : Option NodeRow) (s : Sees OfNode is_node (node_key inode) [] middle after (Ok found)) where
      seen : Past before after act (length_at inode)
      seen = past-calm before middle after act (length_at inode) asked s.rows_are s.opened_at s.counts

      stands : (known : RowMap) → before.rows ≡ Some known → node_row_at (typed known) inode ≡ node_in (row_in (cell OfNode found))
      stands known is = node-seen inode middle after found s known (asked.rows_are ∙ is)

    pub file-gone : Sees OfNode is_node (node_key inode) [] middle after (Ok None) → HasFile sid inode before after (Err (Refused (Stale (GoneNode inode))))
    file-gone s =
        no-file after (Refused (Stale (GoneNode inode))) (past-refuses before after act (Stale (GoneNode inode))
        (past-as before after after act (length_at inode) (seen None s) (λ t. Err (Stale (GoneNode inode))) (λ known here whole bytes.
        ap (λ o. some_or (content_in o) (Stale (GoneNode inode)) >>= (λ content. Ok content.length))
        (no_node bytes (typed known) inode (stands None s known here)))))

    module _ (node : NodeRow) (s : Sees OfNode is_node (node_key inode) [] middle after (Ok (Some node))) where
      pub file-other : (node.kind == 1) ≡ false → HasFile sid inode before after (Err (Refused (Stale (GoneNode inode))))
      file-other other =
          no-file after (Refused (Stale (GoneNode inode))) (past-refuses before after act (Stale (GoneNode inode))
          (past-as before after after act (length_at inode) (seen (Some node) s) (λ t. Err (Stale (GoneNode inode))) (λ known here whole bytes.
          let has = found_node bytes (typed known) (whole-stored bytes (typed known) whole) inode node (stands (Some node) s known here) in
          ap (λ o. some_or o (Stale (GoneNode inode)) >>= (λ content. Ok content.length))
          (has.content ∙ ap (λ b. if b then Some (content_of node.length (bytes inode)) else None) other))))

      pub file-there : node.kind ≡ 1 → HasFile sid inode before after (Ok node)
      file-there file = record {
        looks = past-gives before after act node.length
            (past-as before after after act (length_at inode) (seen (Some node) s) (λ t. Ok node.length) (λ known here whole bytes.
            let has = found_node bytes (typed known) (whole-stored bytes (typed known) whole) inode node (stands (Some node) s known here) in
            ap (λ o. some_or o (Stale (GoneNode inode)) >>= (λ content. Ok content.length))
            (has.content ∙ ap (λ k. if k == 1 then Some (content_of node.length (bytes inode)) else None) file)));
        stands = if_some-by (λ known. get (typed known) (node_key inode) ≡ Some (Ok (OfNode node))) after.rows (λ known is.
            stands-sees OfNode is_node (node_key inode) [] middle after (as_stored (node_key inode) middle) (Some node) s known (sym s.rows_are ∙ is));
        file = file;
        allowed = s.allowed;
      }
