-- The attributes that a node's row has, and changes of them.
use Rattle.std.specs.Prelude.{◌≡◌, ℕ, ◌==◌, not, if◌then◌else◌, List, Option, Some, Result, Ok, OnOk, OnErr, IfErr}
use Rattle.jv_model.specs.declared.fault.Fault.{Fault}
use Rattle.jv_model.specs.declared.fault.Fault.TheVariants.{NotPermitted}
use Rattle.jv_model.specs.declared.fault.RowFault.TheVariants.{Bad, Failed, Memory}
use Rattle.jv_model.specs.declared.fault.TxFault.{TxFault}
use Rattle.jv_model.specs.declared.fault.TxFault.TheVariants.{Refused, Moved, Rows as OfRows}
use Rattle.jv_model.specs.declared.row.Node.{Node}
use Rattle.jv_model.specs.declared.row.Row.TheVariants.{OfNode}
use Rattle.jv_model.specs.declared.setting.Attr.{Attr}
use Rattle.jv_model.specs.declared.setting.FileKind.{FileKind}
use Rattle.jv_model.specs.declared.setting.FileKind.TheVariants as kind
use Rattle.jv_model.specs.promise.FiniteMap.{insert}
use Rattle.jv_model.specs.promise.rows.RowKeys.{RowMap}
use Rattle.jv_model.specs.promise.rows.RowPlaces.{node_key}
use Rattle.jv_model.specs.promise.tree.Attempt.{◌>>=◌, require}
use Rattle.jv_model.specs.promise.tree.Tree.{Tree, in_trash}
use Rattle.jv_model.specs.promise.tree.Walk.{inode_of}
use Rattle.jv_model.specs.promise.tree.Caller.{session_there}
use Rattle.jv_outside.specs.promise.Store.{Store}
use Rattle.jv_rows.specs.Transactions.{TransactionCounts}
use Rattle.jv_volume.specs.promise.TypedRows.{typed}

-- the kind of a number that rows have
abbrev pub kind_in : ℕ → FileKind
kind_in number =
    (if number == 1 then kind.File else if number == 2 then kind.Directory else kind.Symlink)

abbrev pub attr_in : ℕ → Node → Attr
attr_in inode row = record {
  inode = inode;
  kind = kind_in row.kind;
  mode = row.mode;
  nlink = row.nlink;
  uid = row.uid;
  gid = row.gid;
  size = row.length;
  mtime = row.mtime;
  ctime = row.ctime;
}

-- The inode of a path whose attributes may change: the trash and its hours keep theirs.
abbrev pub changeable_inode : Tree → ℕ → List ℕ → Result ℕ Fault
changeable_inode t sid path = do
  _ ← session_there t sid
  inode ← inode_of t path
  _ ← require (not (in_trash inode)) NotPermitted
  Ok inode

-- no row is the cause
abbrev pub IsNotBad : TxFault → Type 0
IsNotBad (Refused fault) = ⊥
IsNotBad (Moved list) = ⊥
IsNotBad (OfRows (Bad at bytes)) = ⊥
IsNotBad (OfRows Failed) = Unit {0}
IsNotBad (OfRows Memory) = Unit {0}

-- rows with the row of a node, and no other change
pub record HasPut (inode : ℕ) (row : Node) (known : RowMap) (after : Option RowMap) : Type 0 where
  pub left : RowMap
  pub is : after ≡ Some left
  pub put : typed left ≡ insert (typed known) (node_key inode) (Ok (OfNode row))

-- The row of a node put. After an error the rows are as before, and no row is Bad.
pub record PutsNode (inode : ℕ) (row : Node) (before after : Store)
    (result : Result (Unit {0}) TxFault) : Type 0 where
  pub opened_at : after.opened ≡ before.opened
  pub counts : TransactionCounts before.faults after.faults result
  pub done : OnOk result ((known : RowMap) → before.rows ≡ Some known
      → HasPut inode row known after.rows)
  pub undone : OnErr result (after.rows ≡ before.rows)
  pub cause : IfErr result IsNotBad
