-- How a transaction begins: the caller's session, and then a walk to a node.
use Rattle.std.proofs.Common.{◌≡◌, ℕ, Bool, List, Some, Result, Ok, Err, ap, ◌∙◌}
use Rattle.std.specs.Prelude.{IsErrAnd}
use Rattle.jv_model.specs.declared.basics.Who.{Who}
use Rattle.jv_model.specs.declared.fault.Fault.{Fault}
use Rattle.jv_model.specs.declared.fault.TxFault.{TxFault}
use Rattle.jv_model.specs.declared.op.Reply.{Reply}
use Rattle.jv_model.specs.declared.row.Node.{Node as NodeRow}
use Rattle.jv_model.specs.declared.row.Row.TheVariants.{OfNode}
use Rattle.jv_model.specs.promise.FiniteMap.{get}
use Rattle.jv_model.specs.promise.rows.RowKeys.{RowMap}
use Rattle.jv_model.specs.promise.rows.RowPlaces.{node_key}
use Rattle.jv_model.specs.promise.tree.Attempt.{◌>>=◌}
use Rattle.jv_model.specs.promise.tree.Caller.{Caller, Outcome, in_session, session_there}
use Rattle.jv_model.specs.promise.tree.Tree.{Tree}
use Rattle.jv_model.specs.promise.tree.Walk.{inode_by}
use Rattle.jv_outside.specs.promise.Store.{Store}
use Rattle.jv_volume.specs.promise.TypedRows.{typed}
use Rattle.jv_volume.specs.promise.TreeOf.{tree_of}
use Rattle.jv_volume.specs.promise.Views.{row_in, node_in}
use Rattle.jv_volume.specs.promise.Whole.{Whole}
use Rattle.jv_volume.proofs.stored.StoredLaws.{HasNode, found_node, whole-stored}
use Rattle.jv_rows.specs.Transactions.{IsFor, Looks, Transacts}
use Rattle.jv_rows.specs.Walks.{HasNodeRow, Comes}
use Rattle.jv_rows.specs.declared.walking.Place.{Place}
use Rattle.jv_rows.proofs.transactions.NeedingLaws.{session_is}
use Rattle.jv_rows.proofs.transactions.TransactionLaws.{Past, past-start, past-as, past-looks, past-stops, transacts-exit}
use Rattle.jv_model.proofs.TestLaws.{of_known}

-- the caller's session is the one that is asked for
pub in_session-is : (who : Who) (caller : Caller) → IsFor who caller → (t : Tree) → in_session t caller ≡ session_is who.sid t
in_session-is who caller is t = ap (λ sid. session_there t sid) is.sid

-- ---- the session

module _ {B : Type 0} (before after : Store) (who : Who) (caller : Caller) (is_for : IsFor who caller) (act next : Tree → Result B Fault)
    (begins : (t : Tree) → act t ≡ (in_session t caller >>= (λ unit. next t))) where
  asks : Past before before act (λ t. session_is who.sid t >>= (λ unit. next t))
  asks = past-as before before before act act (past-start before act) (λ t. session_is who.sid t >>= (λ unit. next t))
      (λ known is whole bytes. begins (tree_of bytes (typed known)) ∙ ap (λ r. r >>= (λ unit. next (tree_of bytes (typed known)))) (in_session-is who caller is_for (tree_of bytes (typed known))))

  pub past-session : Looks before after (Ok tt) (session_is who.sid) → Past before after act next
  past-session looks = past-looks before before after act (session_is who.sid) (λ t unit. next t) asks tt looks

  pub stops-session : (fault : TxFault) → Looks {A = Unit {0}} before after (Err fault) (session_is who.sid) → Looks {A = B} before after (Err fault) act
  stops-session fault looks = past-stops before before after act (session_is who.sid) (λ t unit. next t) asks fault looks

-- ---- a walk

module _ {B : Type 0} (before middle after : Store) (act : Tree → Result B Fault) (finds : Tree → Result ℕ Fault) (next : Tree → ℕ → Result B Fault)
    (p : Past before middle act (λ t. finds t >>= next t)) where
  pub past-place : (place : Place) → Comes middle after (Ok place) finds → Past before after act (λ t. next t place.inode)
  past-place place c = past-looks before middle after act finds next p place.inode c.looks

  pub stops-place : (fault : TxFault) → Comes middle after (Err fault) finds → Looks {A = B} before after (Err fault) act
  stops-place fault c = past-stops before middle after act finds next p fault c.looks

-- the node of a row that a walk reached
pub has-node : (before after : Store) (inode : ℕ) (node : NodeRow) → after.rows ≡ before.rows → HasNodeRow after inode node
    → (known : RowMap) → before.rows ≡ Some known → Whole (typed known) → (bytes : ℕ → ℕ → ℕ) → HasNode (tree_of bytes (typed known)) inode node (bytes inode)
has-node before after inode node same stands known is whole bytes =
    found_node bytes (typed known) (whole-stored bytes (typed known) whole) inode node
    (ap (λ c. node_in (row_in c)) (of_known (λ known. get (typed known) (node_key inode) ≡ Some (Ok (OfNode node))) after.rows known (same ∙ is) stands))

-- ---- a session and a walk: how most transactions begin

module _ {B : Type 0} (before middle after : Store) (who : Who) (caller : Caller) (is_for : IsFor who caller) (follow : Bool) (path : List ℕ)
    (act : Tree → Result B Fault) (next : Tree → ℕ → Result B Fault) (begins : (t : Tree) → act t ≡ (in_session t caller >>= (λ unit. inode_by follow t path >>= next t))) where
  pub arrives : (place : Place) → Looks before middle (Ok tt) (session_is who.sid) → Comes middle after (Ok place) (λ t. inode_by follow t path) → Past before after act (λ t. next t place.inode)
  arrives place looks c =
      past-place before middle after act (λ t. inode_by follow t path) next (past-session before middle who caller is_for act (λ t. inode_by follow t path >>= next t) begins looks) place c

  pub arrives-not : (fault : TxFault) → Looks before middle (Ok tt) (session_is who.sid) → Comes middle after (Err fault) (λ t. inode_by follow t path) → Looks {A = B} before after (Err fault) act
  arrives-not fault looks c =
      stops-place before middle after act (λ t. inode_by follow t path) next (past-session before middle who caller is_for act (λ t. inode_by follow t path >>= next t) begins looks) fault c

-- ---- a transaction's exits before it has reached its node

module _ {A : Type 0} (ready : Tree → Type 0) (before middle after : Store) (who : Who) (caller : Caller) (is_for : IsFor who caller) (follow : Bool) (path : List ℕ) (reply : A → Reply)
    (act : Tree → Result Outcome Fault) (next : Tree → ℕ → Result Outcome Fault) (begins : (t : Tree) → act t ≡ (in_session t caller >>= (λ unit. inode_by follow t path >>= next t))) where
  pub exit-session : (result : Result A TxFault) (fault : TxFault) → IsErrAnd result (λ e. e ≡ fault) → Looks {A = Unit {0}} before middle (Err fault) (session_is who.sid)
      → Transacts ready before middle result reply act
  exit-session result fault is looks =
      transacts-exit ready before middle reply act result fault is (stops-session before middle who caller is_for act (λ t. inode_by follow t path >>= next t) begins fault looks)

  pub exit-walk : (result : Result A TxFault) (fault : TxFault) → IsErrAnd result (λ e. e ≡ fault) → Looks before middle (Ok tt) (session_is who.sid)
      → Comes middle after (Err fault) (λ t. inode_by follow t path) → Transacts ready before after result reply act
  exit-walk result fault is looks c =
      transacts-exit ready before after reply act result fault is (arrives-not before middle after who caller is_for follow path act next begins fault looks c)
