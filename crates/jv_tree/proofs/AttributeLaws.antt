-- Changes of attributes: how they begin, and what the row of a node that is put does to whole rows.
use Rattle.std.proofs.Common.{◌≡◌, ℕ, Bool, true, false, List, [], Option, Some, None, Result, Ok, Err, refl, sym, ap, subst, ◌∙◌, true≢false}
use Rattle.std.specs.Prelude.{not, is_some, is_ok, IsErrAnd}
use Rattle.std.specs.Option.{option_map}
use Rattle.std.proofs.lemmas.Bool.{leb-false}
use Rattle.jv_model.specs.declared.basics.Who.{Who}
use Rattle.jv_model.specs.declared.fault.Down.{Down}
use Rattle.jv_model.specs.declared.fault.Fault.{Fault}
use Rattle.jv_model.specs.declared.fault.Fault.TheVariants.{NotFound, NotPermitted}
use Rattle.jv_model.specs.declared.fault.RowFault.TheVariants.{Bad, Failed, Memory}
use Rattle.jv_model.specs.declared.fault.TxFault.{TxFault}
use Rattle.jv_model.specs.declared.fault.TxFault.TheVariants.{Refused, Moved, Rows as OfRows}
use Rattle.jv_model.specs.declared.limits.TheConstants.{TRASH_ROOT}
use Rattle.jv_model.specs.declared.op.Reply.TheVariants.{Done}
use Rattle.jv_model.specs.declared.row.Node.{Node as NodeRow}
use Rattle.jv_model.specs.declared.row.Row.TheVariants.{OfNode}
use Rattle.jv_model.specs.promise.FiniteMap.{get, insert}
use Rattle.jv_model.specs.promise.rows.RowKeys.{RowMap}
use Rattle.jv_model.specs.promise.rows.RowPlaces.{node_key}
use Rattle.jv_model.specs.promise.tree.Attempt.{◌>>=◌, require, some_or}
use Rattle.jv_model.specs.promise.tree.Caller.{Caller, Outcome, done, session_there}
use Rattle.jv_model.specs.promise.tree.Changes.{status_changed, put_node}
use Rattle.jv_model.specs.promise.tree.Reading.{with_attributes, chmod, chown, utimes}
use Rattle.jv_model.specs.promise.tree.Tree.{Tree, Node, in_trash, node_at, parent_of, kind_space}
use Rattle.jv_model.specs.promise.tree.Walk.{inode_by, inode_of}
use Rattle.jv_model.proofs.TestLaws.{of_known}
use Rattle.jv_outside.specs.declared.batch.Change.{Change}
use Rattle.jv_outside.specs.promise.Rows.{applied}
use Rattle.jv_outside.specs.promise.Store.{Store}
use Rattle.jv_outside.specs.Store.{Commits}
use Rattle.jv_volume.specs.promise.TypedRows.{Rows, typed}
use Rattle.jv_volume.specs.promise.TreeOf.{node_of_row, tree_of}
use Rattle.jv_volume.specs.promise.Shape.{WholeShape, shape_of, form_of, is_there, is_hour}
use Rattle.jv_volume.specs.promise.Views.{row_in, node_in, node_row_at}
use Rattle.jv_volume.specs.promise.Whole.{Whole, no_bytes}
use Rattle.jv_volume.specs.Whole.{Quiet}
use Rattle.jv_volume.proofs.shapes.EnteredShapeLaws.{not_hour_below}
use Rattle.jv_volume.proofs.stored.FileStepLaws.{files-same_length}
use Rattle.jv_volume.proofs.stored.NodeRowLaws.{IsNodeRow}
use Rattle.jv_volume.proofs.stored.QuietLaws.{quiet-none, quiet-put_node, quiet-slices}
use Rattle.jv_volume.proofs.shapes.SameShapeLaws.{whole-attributes}
use Rattle.jv_volume.proofs.maps.SeenLaws.{row-put, rows-alter}
use Rattle.jv_volume.proofs.stored.StoredLaws.{HasNode, found_node, whole-stored, whole-shape}
use Rattle.jv_volume.proofs.stored.StoredStepLaws.{stored-change_node}
use Rattle.jv_volume.proofs.stored.TreeOfLaws.{tree_of-put_node}
use Rattle.jv_volume.proofs.shapes.WalkShapeLaws.{IsReached, Directory, Entry, path_reached}
use Rattle.jv_volume.proofs.whole.WholeLaws.{no_hour-row}
use Rattle.jv_rows.specs.Drafts.{Drafts, drafted}
use Rattle.jv_rows.specs.Transactions.{IsFor, Transacts, Always, Landed}
use Rattle.jv_rows.specs.Walks.{Comes}
use Rattle.jv_rows.specs.declared.walking.Place.{Place}
use Rattle.jv_rows.proofs.transactions.TransactionLaws.{Past, FailsBy, past-start, past-as, past-fails, transacts-refused, transacts-exit}
use Rattle.jv_rows.proofs.walks.ArrivalLaws.{past-place, stops-place}
use Rattle.jv_tree.specs.Attributes.{changeable_inode, HasPut, PutsNode, IsNotBad}

-- ---- a row that was put

put_of : (changes : List Change) (inode : ℕ) (row : NodeRow) (known : RowMap) (after : Option RowMap) → after ≡ Some (applied changes known)
    → drafted changes known ≡ insert (drafted [] known) (node_key inode) (Ok (OfNode row)) → HasPut inode row known after
unfolding drafted
put_of changes inode row known after is put = record { left = applied changes known; is = is; put = put }

pub puts-node : {E : Type 0} (inode : ℕ) (row : NodeRow) (before after : Store) (none changes : List Change) (result : Result (Unit {0}) Down) (unit : Unit {0})
    → none ≡ []
    → Drafts {E = E} (node_key inode) (Some (Ok (OfNode row))) none changes (Ok unit) → true ≡ is_ok result → Commits before after result changes
    → PutsNode inode row before after (Ok tt)
puts-node inode row before after none changes (Ok u) unit is_none d ok c = record {
  opened_at = c.opened_at;
  counts = c.calm;
  done = λ known is. put_of changes inode row known after.rows (c.content_is ∙ ap (option_map (applied changes)) is)
      (d.done known ∙ ap (λ (l : List Change). insert (drafted l known) (node_key inode) (Ok (OfNode row))) is_none);
  undone = tt;
  cause = tt;
}
puts-node inode row before after none changes (Err down) unit is_none d ok c = absurd (true≢false ok)

-- ---- how changes of attributes begin

there_by : (o : Option Node) → (is_some (parent_of o) ≡ true → (node : Node) × (o ≡ Some node))
there_by None e = absurd (true≢false (sym e))
there_by (Some node) e = (node, refl)

formed : (o : Option Node) → is_there (form_of o) ≡ true → (node : Node) × (o ≡ Some node)
formed None e = absurd (true≢false (sym e))
formed (Some node) e = (node, refl)

-- a walk reaches a node
node_walked : (t : Tree) → WholeShape (shape_of t) → (follow : Bool) (path : List ℕ) (inode : ℕ) → inode_by follow t path ≡ Ok inode
    → (node : Node) × (node_at t inode ≡ Some node)
node_walked t w follow path inode e = by_reach (path_reached t w follow path inode e)
  where
    by_reach : IsReached t inode → (node : Node) × (node_at t inode ≡ Some node)
    by_reach (Directory is) = there_by (node_at t inode) is
    by_reach (Entry named) = formed (node_at t inode) (w.entry named.at inode named.is).there

-- what is left once the inode is known
abbrev pub attributes_changed : Caller → (Node → Node) → Tree → ℕ → Result Outcome Fault
attributes_changed caller change t inode = some_or (node_at t inode) NotFound >>= (λ node. done (put_node t inode (status_changed caller.now (change node))))

module _ (caller : Caller) (change : Node → Node) (path : List ℕ) (t : Tree) (w : WholeShape (shape_of t)) where
  abbrev may_change : ℕ → Node → Result Outcome Fault
  may_change inode node = require (not (in_trash inode)) NotPermitted >>= (λ unit. done (put_node t inode (status_changed caller.now (change node))))

  abbrev may_be : ℕ → Result ℕ Fault
  may_be inode = require (not (in_trash inode)) NotPermitted >>= (λ unit. Ok inode)

  by_test : (inode : ℕ) (node : Node) → node_at t inode ≡ Some node → (b : Bool)
      → (require b NotPermitted >>= (λ unit. done (put_node t inode (status_changed caller.now (change node))))) ≡
      ((require b NotPermitted >>= (λ unit. Ok inode)) >>= attributes_changed caller change t)
  by_test inode node is true = sym (ap (λ o. some_or o NotFound >>= (λ node. done (put_node t inode (status_changed caller.now (change node))))) is)
  by_test inode node is false = refl

  by_parts : (session : Result (Unit {0}) Fault) (walked : Result ℕ Fault) → inode_of t path ≡ walked
      → (session >>= (λ unit. walked >>= (λ inode. some_or (node_at t inode) NotFound >>= may_change inode))) ≡
      ((session >>= (λ unit. walked >>= may_be)) >>= attributes_changed caller change t)
  by_parts (Err fault) walked e = refl
  by_parts (Ok unit) (Err fault) e = refl
  by_parts (Ok unit) (Ok inode) e =
      let there = node_walked t w true path inode e in
      ap (λ o. some_or o NotFound >>= may_change inode) there.1 ∙ by_test inode there.0 there.1 (not (in_trash inode))

  pub begins-attributes : with_attributes t caller path change ≡ (changeable_inode t caller.sid path >>= attributes_changed caller change t)
  begins-attributes = by_parts (session_there t caller.sid) (inode_of t path) refl

-- the inode is of no hour, since what is in the trash keeps its attributes
changeable-no_hour : (t : Tree) (sid : ℕ) (path : List ℕ) (inode : ℕ) → changeable_inode t sid path ≡ Ok inode → is_hour inode ≡ false
changeable-no_hour t sid path inode is = by_parts (session_there t sid) (inode_of t path) is
  where
    by_test : (found : ℕ) (b : Bool) → in_trash found ≡ b → (require (not b) NotPermitted >>= (λ unit. Ok found)) ≡ Ok inode → is_hour inode ≡ false
    by_test found true e same = absurd (cc)
    by_test found false e same =
        let here : found ≡ inode = cc in
        subst (λ i. is_hour i ≡ false) here (not_hour_below found (leb-false TRASH_ROOT found e))

    by_parts : (session : Result (Unit {0}) Fault) (walked : Result ℕ Fault)
        → (session >>= (λ unit. walked >>= (λ found. require (not (in_trash found)) NotPermitted >>= (λ unit. Ok found)))) ≡ Ok inode
        → is_hour inode ≡ false
    by_parts (Err fault) walked same = absurd (cc)
    by_parts (Ok unit) (Err fault) same = absurd (cc)
    by_parts (Ok unit) (Ok found) same = by_test found (in_trash found) refl same

-- ---- a row with other attributes

-- The row of a node with other attributes, which keeps its kind, its length and its links.
pub record IsChanged (now : ℕ) (change : Node → Node) (row new : NodeRow) : Type 0 where
  pub kind : new.kind ≡ row.kind
  pub length : new.length ≡ row.length
  pub row_is : (links : ℕ) (byte : ℕ → ℕ) → IsNodeRow links byte row → IsNodeRow links byte new
  pub node : (byte : ℕ → ℕ) → node_of_row byte new ≡ status_changed now (change (node_of_row byte row))
  pub kind_is : (byte : ℕ → ℕ) → (node_of_row byte new).kind ≡ (node_of_row byte row).kind

module _ (rows : Rows) (whole : Whole rows) (inode : ℕ) (row new : NodeRow) (there : node_row_at rows inode ≡ Some row) (now : ℕ) (change : Node → Node)
    (is : IsChanged now change row new) (none : is_hour inode ≡ false) where
  abbrev changed_rows : Rows
  changed_rows = insert rows (node_key inode) (Ok (OfNode new))

  pub changed-quiet : Quiet rows changed_rows
  changed-quiet = quiet-put_node rows rows (quiet-none rows) inode row new there

  has : HasNode (tree_of no_bytes rows) inode row (no_bytes inode)
  has = found_node no_bytes rows whole.stored inode row there

  pub changed-whole : Whole changed_rows
  changed-whole = record {
    cells = rows-alter rows (node_key inode) (Some (Ok (OfNode new))) whole.cells
        (λ x. row-put (node_key inode) (Ok (OfNode new)) x (no_hour-row inode new none));
    stored = stored-change_node no_bytes rows inode row new whole.stored there
        (is.row_is row.nlink (no_bytes inode) (subst (λ l. IsNodeRow l (no_bytes inode) row) (sym has.links) has.row_is)) is.kind
        (ap kind_space (is.kind_is (no_bytes inode)));
    tree = subst (λ (t : Tree). WholeShape (shape_of t)) (sym (tree_of-put_node no_bytes rows inode new))
        (whole-attributes (tree_of no_bytes rows) inode (node_of_row (no_bytes inode) row) (node_of_row (no_bytes inode) new) has.there
        (is.kind_is (no_bytes inode)) whole.tree);
    slices = quiet-slices rows changed_rows changed-quiet whole.slices;
    files = files-same_length rows inode row new whole.files there is.kind is.length;
  }

-- ---- the operation

module _ (before middle after : Store) (who : Who) (caller : Caller) (is_for : IsFor who caller) (path : List ℕ) (change : Node → Node)
    (act : Tree → Result Outcome Fault)
    (is_act : (t : Tree) → act t ≡ with_attributes t caller path change) where
  abbrev finds : Tree → Result ℕ Fault
  finds t = changeable_inode t who.sid path

  asked : Past before before act (λ t. finds t >>= attributes_changed caller change t)
  asked = past-as before before before act act (past-start before act) (λ t. finds t >>= attributes_changed caller change t) (λ known is whole bytes.
      let t = tree_of bytes (typed known) in
      is_act t ∙ begins-attributes caller change path t (whole-shape bytes (typed known) whole)
      ∙ ap (λ sid. changeable_inode t sid path >>= attributes_changed caller change t) is_for.sid)

  pub attributes-exit : (result : Result (Unit {0}) TxFault) (fault : TxFault) → IsErrAnd result (λ e. e ≡ fault) → Comes before middle (Err fault) finds
      → Transacts {A = Unit {0}} Always before middle result (λ unit. Done) act
  attributes-exit result fault is c =
      transacts-exit Always before middle (λ unit. Done) act result fault is
      (stops-place before before middle act finds (attributes_changed caller change) asked fault c)

  module _ (place : Place) (new : NodeRow) (c : Comes before middle (Ok place) finds) (is : IsChanged caller.now change place.node new) where
    came : Past before middle act (λ t. attributes_changed caller change t place.inode)
    came = past-place before before middle act finds (attributes_changed caller change) asked place c

    why_not : (fault : TxFault) → IsNotBad fault → FailsBy middle.rows fault
    why_not (Refused fault) h = h
    why_not (Moved list) h = h
    why_not (OfRows (Bad at bytes)) h = absurd h
    why_not (OfRows Failed) h = tt
    why_not (OfRows Memory) h = tt

    landed : (known : RowMap) → before.rows ≡ Some known → Whole (typed known) → (bytes : ℕ → ℕ → ℕ) → HasPut place.inode new known after.rows
        → Landed known after.rows bytes Done act
    landed known here whole bytes put =
        let rows = typed known in
        let stands = ap (λ x. node_in (row_in x))
        (of_known (λ known. get (typed known) (node_key place.inode) ≡ Some (Ok (OfNode place.node))) middle.rows known (came.rows_are ∙ here) c.stands) in
        let node = found_node bytes rows (whole-stored bytes rows whole) place.inode place.node stands in
        let none = changeable-no_hour (tree_of bytes rows) who.sid path place.inode (c.looks.agrees known here whole bytes) in
        record {
          left = put.left;
          is = put.is;
          whole = subst Whole (sym put.put) (changed-whole rows whole place.inode place.node new stands caller.now change is none);
          quiet = subst (Quiet rows) (sym put.put) (changed-quiet rows whole place.inode place.node new stands caller.now change is none);
          model = came.goes_on known here whole bytes
              ∙ ap (λ o. some_or o NotFound >>= (λ node. done (put_node (tree_of bytes rows) place.inode (status_changed caller.now (change node))))) node.there
              ∙ ap (λ n. done (put_node (tree_of bytes rows) place.inode n)) (sym (is.node (bytes place.inode)))
              ∙ ap done (sym (tree_of-put_node bytes rows place.inode new))
              ∙ ap (λ r. done (tree_of bytes r)) (sym put.put);
        }

    pub attributes-done : (result : Result (Unit {0}) TxFault) → PutsNode place.inode new middle after result
        → Transacts {A = Unit {0}} Always before after result (λ unit. Done) act
    attributes-done (Ok unit) p = record {
      opened_at = p.opened_at ∙ came.opened_at;
      counts = p.counts ∙ came.calm;
      undone = tt;
      lands = λ known here whole bytes ready. landed known here whole bytes (p.done known (came.rows_are ∙ here));
      bad = tt;
    }
    attributes-done (Err fault) p =
        transacts-refused Always before after (λ unit. Done) act fault
        (past-fails before middle after act (λ t. attributes_changed caller change t place.inode) came fault
        (record { rows_are = p.undone; opened_at = p.opened_at; cause = p.counts; why = why_not fault p.cause }))

-- ---- the three changes

pub changed-mode : (now mode : ℕ) (row : NodeRow) → IsChanged now (λ (node : Node). record node { mode = mode }) row (record row { mode = mode; ctime = now })
changed-mode now mode row = record {
  kind = refl;
  length = refl;
  row_is = λ links byte is. ap (λ (r : NodeRow). record r { mode = mode; ctime = now }) is;
  node = λ byte. refl;
  kind_is = λ byte. refl;
}

pub changed-owner : (now uid gid : ℕ) (row : NodeRow)
    → IsChanged now (λ (node : Node). record node { uid = uid; gid = gid }) row (record row { uid = uid; gid = gid; ctime = now })
changed-owner now uid gid row = record {
  kind = refl;
  length = refl;
  row_is = λ links byte is. ap (λ (r : NodeRow). record r { uid = uid; gid = gid; ctime = now }) is;
  node = λ byte. refl;
  kind_is = λ byte. refl;
}

pub changed-mtime : (now mtime : ℕ) (row : NodeRow)
    → IsChanged now (λ (node : Node). record node { mtime = mtime }) row (record row { mtime = mtime; ctime = now })
changed-mtime now mtime row = record {
  kind = refl;
  length = refl;
  row_is = λ links byte is. ap (λ (r : NodeRow). record r { mtime = mtime; ctime = now }) is;
  node = λ byte. refl;
  kind_is = λ byte. refl;
}

-- each as the model has it

pub chmod-is : (caller : Caller) (path : List ℕ) (mode : ℕ) (t : Tree)
    → chmod t caller path mode ≡ with_attributes t caller path (λ (node : Node). record node { mode = mode })
unfolding chmod
chmod-is caller path mode t = refl

pub chown-is : (caller : Caller) (path : List ℕ) (uid gid : ℕ) (t : Tree)
    → chown t caller path uid gid ≡ with_attributes t caller path (λ (node : Node). record node { uid = uid; gid = gid })
unfolding chown
chown-is caller path uid gid t = refl

pub utimes-is : (caller : Caller) (path : List ℕ) (mtime : ℕ) (t : Tree)
    → utimes t caller path mtime ≡ with_attributes t caller path (λ (node : Node). record node { mtime = mtime })
unfolding utimes
utimes-is caller path mtime t = refl
