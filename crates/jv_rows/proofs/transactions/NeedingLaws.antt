-- What transactions need first: the caller's session, and rows that each volume has.
use Rattle.std.proofs.Common.{◌≡◌, ℕ, List, [], Option, None, Some, Result, Ok, Err, refl, sym, ap, subst, ◌∙◌}
use Rattle.std.specs.Prelude.{Bool, is_some, IsTrue}
use Rattle.std.specs.Option.{option_map}
use Rattle.jv_model.specs.declared.limits.TheConstants.{ROOT, TRASH_ROOT}
use Rattle.jv_model.specs.declared.fault.Fault.{Fault}
use Rattle.jv_model.specs.declared.fault.Fault.TheVariants.{Stale}
use Rattle.jv_model.specs.declared.fault.Gone.TheVariants.{Session as GoneSession}
use Rattle.jv_model.specs.declared.fault.RowFault.{RowFault}
use Rattle.jv_model.specs.declared.fault.RowFault.TheVariants.{Bad, Failed, Memory}
use Rattle.jv_model.specs.declared.fault.TxFault.{TxFault}
use Rattle.jv_model.specs.declared.fault.TxFault.TheVariants.{Refused, Moved, Rows as OfRows}
use Rattle.jv_model.specs.declared.row.Row.{Row}
use Rattle.jv_model.specs.declared.row.Row.TheVariants.{OfNode, OfSession}
use Rattle.jv_model.specs.declared.row.RowKey.{RowKey}
use Rattle.jv_model.specs.declared.row.Session.{Session}
use Rattle.jv_model.specs.promise.FiniteMap.{get}
use Rattle.jv_model.specs.promise.rows.RowGrammar.{is_session, session_bytes, session_of_bytes}
use Rattle.jv_model.specs.promise.rows.RowKeys.{RowMap}
use Rattle.jv_model.specs.promise.rows.RowPlaces.{setting_key, counters_key, node_key, session_key}
use Rattle.jv_model.specs.promise.tree.Attempt.{require}
use Rattle.jv_model.specs.promise.tree.Tree.{Tree, Node, node_at, link_count}
use Rattle.jv_model.specs.promise.tree.Caller.{session_there}
use Rattle.jv_outside.specs.declared.batch.Change.{Change}
use Rattle.jv_outside.specs.promise.Store.{Store}
use Rattle.jv_volume.specs.promise.TypedRows.{Cell, Rows, typed}
use Rattle.jv_volume.specs.promise.Shape.{Dir, form_of}
use Rattle.jv_volume.specs.promise.Stored.{Stored, node_row}
use Rattle.jv_volume.specs.promise.Whole.{Whole, no_bytes}
use Rattle.jv_volume.specs.promise.Views.{row_in, session_in}
use Rattle.jv_volume.specs.promise.TreeOf.{tree_of}
use Rattle.jv_volume.proofs.stored.StoredLaws.{found_session, no_session, whole-typed}
use Rattle.jv_rows.specs.Drafts.{Sees, Needs, IsNoRow, RefusesNeeded, drafted}
use Rattle.jv_rows.specs.Readings.{ReadsRow}
use Rattle.jv_rows.specs.Tables.{session_row}
use Rattle.jv_rows.specs.promise.Transactions.{is_needed, IsBad, Malformed, Lacks}
use Rattle.jv_rows.specs.Transactions.{BadFault, Looks}
use Rattle.jv_rows.proofs.transactions.TransactionLaws.{FailsBy, Fails, fails-looks, fails-sees, stands-sees, as_stored}
use Rattle.jv_rows.proofs.transactions.DraftLaws.{sees_stored}
use Rattle.jv_model.proofs.TestLaws.{if_some-by, of_known}

-- whether the session is there
abbrev pub session_is : ℕ → Tree → Result (Unit {0}) Fault
session_is sid t = session_there t sid

module _ (sid : ℕ) (before after : Store) where
  -- a reading of the session's row, as one over no changes
  pub session-seen : (result seen : Result (Option Session) RowFault) → result ≡ seen → ReadsRow session_of_bytes session_bytes is_session (session_key sid) before after result
      → Sees OfSession is_session (session_key sid) [] before after seen
  session-seen result seen is r =
      sees_stored OfSession session_of_bytes 6 session_row (session_key sid) refl session_bytes is_session [] before after seen refl
      (subst (ReadsRow session_of_bytes session_bytes is_session (session_key sid) before after) is r)

  pub session-unread : {A : Type 0} (act : Tree → Result A Fault) (fault : RowFault) → Sees OfSession is_session (session_key sid) [] before after (Err fault) → Looks before after (Err (OfRows fault)) act
  session-unread act fault s =
      fails-looks before after act (OfRows fault) (fails-sees OfSession is_session (session_key sid) [] before after (as_stored (session_key sid) before) fault s)

  pub session-there : (session : Session) → Sees OfSession is_session (session_key sid) [] before after (Ok (Some session)) → Looks before after (Ok tt) (session_is sid)
  session-there session s = record {
    rows_are = s.rows_are;
    opened_at = s.opened_at;
    counts = s.counts;
    agrees = λ known is whole bytes.
        let row = stands-sees OfSession is_session (session_key sid) [] before after (as_stored (session_key sid) before) (Some session) s known is in
        ap (λ o. require (is_some o) (Stale (GoneSession sid))) (found_session bytes (typed known) sid session (ap (λ c. session_in (row_in c)) row));
    bad = tt;
  }

  pub session-gone : Sees OfSession is_session (session_key sid) [] before after (Ok None) → Looks {A = Unit {0}} before after (Err (Refused (Stale (GoneSession sid)))) (session_is sid)
  session-gone s = record {
    rows_are = s.rows_are;
    opened_at = s.opened_at;
    counts = s.counts;
    agrees = λ known is whole bytes.
        let row = stands-sees OfSession is_session (session_key sid) [] before after (as_stored (session_key sid) before) None s known is in
        ap (λ o. require (is_some o) (Stale (GoneSession sid))) (no_session bytes (typed known) sid (ap (λ c. session_in (row_in c)) row));
    bad = if_some-by (λ known. BadFault (typed known) (Refused (Stale (GoneSession sid)))) before.rows (λ known is. tt);
  }

-- ---- rows that each volume has

-- the keys that each volume has rows at
pub data IsNeeded (key : RowKey) : Type 0 where
  SettingNeeded : key ≡ setting_key → IsNeeded key
  CountersNeeded : key ≡ counters_key → IsNeeded key
  RootNeeded : key ≡ node_key ROOT → IsNeeded key
  TrashNeeded : key ≡ node_key TRASH_ROOT → IsNeeded key

needs_row : (key : RowKey) → IsNeeded key → IsTrue (is_needed key)
needs_row key (SettingNeeded is) = subst (λ k. IsTrue (is_needed k)) (sym is) refl
needs_row key (CountersNeeded is) = subst (λ k. IsTrue (is_needed k)) (sym is) refl
needs_row key (RootNeeded is) = subst (λ k. IsTrue (is_needed k)) (sym is) refl
needs_row key (TrashNeeded is) = subst (λ k. IsTrue (is_needed k)) (sym is) refl

some_not_none : {A : Type 0} {x : A} (o : Option A) → o ≡ Some x → o ≡ None → ⊥
some_not_none o e f = (let both = sym e ∙ f in absurd (cc))

node_is_there : (rows : Rows) (inode parent : ℕ) → Stored rows (tree_of no_bytes rows) → form_of (node_at (tree_of no_bytes rows) inode) ≡ Dir parent → get rows (node_key inode) ≡ None → ⊥
node_is_there rows inode parent stored form none = by_node (node_at (tree_of no_bytes rows) inode) refl
  where
    by_node : (o : Option Node) → node_at (tree_of no_bytes rows) inode ≡ o → ⊥
    by_node None e = (let both = sym (ap form_of e) ∙ form in absurd (cc))
    by_node (Some node) e = some_not_none (get rows (node_key inode)) (stored.node inode ∙ ap (option_map (λ node. Ok (OfNode (node_row (link_count (tree_of no_bytes rows) inode) node)))) e) none

-- whole rows have them
pub needed-there : (rows : Rows) (key : RowKey) → IsNeeded key → Whole rows → get rows key ≡ None → ⊥
needed-there rows key (SettingNeeded is) whole none = some_not_none (get rows setting_key) whole.stored.setting (ap (get rows) (sym is) ∙ none)
needed-there rows key (CountersNeeded is) whole none = some_not_none (get rows counters_key) whole.stored.counters (ap (get rows) (sym is) ∙ none)
needed-there rows key (RootNeeded is) whole none = node_is_there rows ROOT ROOT whole.stored whole.tree.root_there (ap (get rows) (sym is) ∙ none)
needed-there rows key (TrashNeeded is) whole none = node_is_there rows TRASH_ROOT ROOT whole.stored whole.tree.trash_there (ap (get rows) (sym is) ∙ none)

-- A reading of a row that has to be there, which stands as it did before the changes.
module _ {A : Type 0} (row : A → Row) (is_allowed : A → Bool) (key : RowKey) (changes : List Change) (before after : Store)
    (kept : (known : RowMap) → before.rows ≡ Some known → get (drafted changes known) key ≡ get (typed known) key) where
  pub stands-needs : (x : A) → Needs row is_allowed key changes before after (Ok x) → (known : RowMap) → before.rows ≡ Some known → get (typed known) key ≡ Some (Ok (row x))
  stands-needs x n known is = sym (kept known is) ∙ of_known (λ known. get (drafted changes known) key ≡ Some (Ok (row x))) before.rows known is n.found

  -- why a row is Bad that is absent
  abbrev pub LacksBad : Type 0
  LacksBad = (known : RowMap) → before.rows ≡ Some known → get (typed known) key ≡ None → IsBad (typed known) key [] × (Whole (typed known) → ⊥)

  no_row : LacksBad → (known : RowMap) → before.rows ≡ Some known → (bytes : List ℕ) (stands : Option Cell) → get (typed known) key ≡ stands → IsNoRow stands bytes
      → IsBad (typed known) key bytes × (Whole (typed known) → ⊥)
  no_row lacks known is bytes None there h = subst (λ b. IsBad (typed known) key b × (Whole (typed known) → ⊥)) (sym h) (lacks known is there)
  no_row lacks known is bytes (Some (Ok stored)) there h = absurd h
  no_row lacks known is bytes (Some (Err stored)) there h =
      let bad : get (typed known) key ≡ Some (Err bytes) = there ∙ ap (λ b. Some (Err b)) h in
      (Malformed bad, λ whole. whole-typed (typed known) key bytes whole bad)

  why_lacking : LacksBad → (fault : TxFault) → RefusesNeeded key changes before.rows fault → FailsBy before.rows fault
  why_lacking lacks (Refused fault) h = absurd h
  why_lacking lacks (Moved list) h = absurd h
  why_lacking lacks (OfRows (Bad at bytes)) h = λ known is.
      let stands : IsNoRow (get (drafted changes known) key) bytes = of_known (λ known. IsNoRow (get (drafted changes known) key) bytes) before.rows known is h.1 in
      let here : IsNoRow (get (typed known) key) bytes = subst (λ c. IsNoRow c bytes) (kept known is) stands in
      subst (λ k. IsBad (typed known) k bytes × (Whole (typed known) → ⊥)) (sym h.0) (no_row lacks known is bytes (get (typed known) key) refl here)
  why_lacking lacks (OfRows Failed) h = tt
  why_lacking lacks (OfRows Memory) h = tt

  -- it is Bad where a row that is there names it, or where each volume has it
  pub fails-needs : LacksBad → (fault : TxFault) → Needs row is_allowed key changes before after (Err fault) → Fails before after fault
  fails-needs lacks fault n = record { rows_are = n.rows_are; opened_at = n.opened_at; cause = n.counts; why = why_lacking lacks fault n.refused }

  pub fails-needed : IsNeeded key → (fault : TxFault) → Needs row is_allowed key changes before after (Err fault) → Fails before after fault
  fails-needed needed fault n = fails-needs (λ known is none. (Lacks (needs_row key needed) none refl, λ whole. needed-there (typed known) key needed whole none)) fault n

-- a reading over a new draft is one over no changes
pub needs-fresh : {A : Type 0} (row : A → Row) (is_allowed : A → Bool) (key : RowKey) (changes : List Change) (before after : Store) (result : Result A TxFault)
    → changes ≡ [] → Needs row is_allowed key changes before after result → Needs row is_allowed key [] before after result
needs-fresh row is_allowed key changes before after result none n = subst (λ (c : List Change). Needs row is_allowed key c before after result) none n
