-- What a rename finds before it changes anything, and what a tree has to be for a move.
use Rattle.std.specs.Prelude.{◌≡◌, ℕ, true, false, ◌&&◌, ◌==◌, not, is_some, if◌then◌else◌, List, Option, None, Some, Result, Ok, Err, IfOk, IsTrue}
use Rattle.jv_model.specs.declared.basics.How.{How}
use Rattle.jv_model.specs.declared.basics.How.TheVariants.{Plain, NoReplace, Exchange}
use Rattle.jv_model.specs.declared.fault.Fault.{Fault}
use Rattle.jv_model.specs.declared.fault.Fault.TheVariants.{AlreadyExists, NotFound, NotPermitted, NoSpace}
use Rattle.jv_model.specs.declared.fault.TxFault.{TxFault}
use Rattle.jv_model.specs.declared.op.Reply.TheVariants.{Done}
use Rattle.jv_model.specs.promise.FiniteMap.{get}
use Rattle.jv_model.specs.promise.tree.Attempt.{◌>>=◌, require, some_or}
use Rattle.jv_model.specs.promise.tree.Tree.{Tree, EntryKey, is_directory, links_fit}
use Rattle.jv_model.specs.promise.tree.Walk.{entry_of}
use Rattle.jv_model.specs.promise.tree.Making.{may_be_new}
use Rattle.jv_model.specs.promise.tree.Renaming.{may_leave, moved, is_inside, renamed, renamed_over, unless_same, exchanging}
use Rattle.jv_model.specs.promise.tree.Caller.{Caller, Outcome, session_there}
use Rattle.jv_outside.specs.promise.Store.{Store}
use Rattle.jv_rows.specs.declared.walking.Place.{Place}
use Rattle.jv_model.specs.promise.rows.RowGrammar.{is_node}
use Rattle.jv_rows.specs.Transactions.{Looks, Transacts}
use Rattle.jv_rows.specs.Walks.{HasNodeRow}
pub use Rattle.jv_tree.specs.Entering.{place_of}
use Rattle.jv_volume.specs.promise.Shape.{WholeShape, is_top, shape_of}
use Rattle.jv_volume.specs.promise.TypedRows.{is_entry_name}
use Rattle.jv_links.specs.declared.ends.Ends.{Ends}
use Rattle.jv_links.specs.declared.fates.Removed.{Removed}
use Rattle.jv_links.specs.Removals.{HoldsFiles, SaysRemoved, SaysSustained, renamed_in}
use Rattle.jv_links.specs.Replacements.{cleared}
use Rattle.jv_model.specs.Optional.{mapped}

-- an inode that is to be moved from one entry to another
pub record Move : Type 0 where
  pub from : EntryKey
  pub source : ℕ
  pub to : EntryKey

abbrev pub move_of : Ends → Move
move_of ends =
    record { from = place_of ends.from; source = ends.source.inode; to = place_of ends.to }

-- what a rename asks before it looks at its target
abbrev pub move_asked : Tree → ℕ → List ℕ → List ℕ → How → Result Move Fault
move_asked t sid path to how = do
  _ ← session_there t sid
  from ← entry_of t path
  target ← entry_of t to
  _ ← require (may_leave how from && may_be_new target) NotPermitted
  source ← some_or (get t.entries from) NotFound
  Ok (record { from = from; source = source; to = target })

-- The row of a node that an entry names was read, and stands at its inode. Its links can be stored.
-- It is neither the root nor the trash, which no entry of a whole volume names.
pub record Stands (store : Store) (place : Place) : Type 0 where
  pub row : HasNodeRow store place.inode place.node
  pub allowed : IsTrue (is_node place.node)
  pub low : is_top place.inode ≡ false

-- a directory's row that was read
pub record StandsDirectory (store : Store) (place : Place) : Type 0 where
  pub row : HasNodeRow store place.inode place.node
  pub allowed : IsTrue (is_node place.node)
  pub directory : place.node.kind ≡ 2

pub record EndsStand (store : Store) (ends : Ends) : Type 0 where
  pub from : StandsDirectory store ends.from.dir
  pub to : StandsDirectory store ends.to.dir
  pub source : Stands store ends.source

-- the ends of a rename: over whole rows they are the model's, and the rows of their nodes stand
-- there
pub record FindsEnds (before after : Store) (result : Result Ends TxFault)
    (finds : Tree → Result Move Fault) : Type 0
  where
    pub looks : Looks before after (mapped move_of result) finds
    pub stand : IfOk result (EndsStand after)

-- what a tree was found to be for a rename of a kind
pub record IsMove (t : Tree) (sid : ℕ) (how : How) (m : Move) : Type 0 where
  pub session : IsTrue (is_some (get t.sessions sid))
  pub is : get t.entries m.from ≡ Some m.source
  pub leaves : may_leave how m.from ≡ true
  pub enters : may_be_new m.to ≡ true
  pub within : is_directory t m.to.dir ≡ true
  pub name : IsTrue (is_entry_name m.to.name)

-- and that no entry is in its target's place
pub record IsFreeMove (t : Tree) (sid : ℕ) (how : How) (from : EntryKey) (source : ℕ)
    (to : EntryKey) : Type 0 where
  pub move : IsMove t sid how (record { from = from; source = source; to = to })
  pub free : get t.entries to ≡ None

-- and that its target names an inode; what the caller has open are files
pub record IsOverMove (t : Tree) (who : Caller) (how : How) (from : EntryKey) (source : ℕ)
    (to : EntryKey)
    (other : ℕ) : Type 0 where
  pub move : IsMove t who.sid how (record { from = from; source = source; to = to })
  pub there : get t.entries to ≡ Some other
  pub held : HoldsFiles who.held t

-- the model's rename of a kind, by what its target names
abbrev pub renamed_with : How → Tree → Caller → EntryKey → ℕ → EntryKey → Option ℕ
    → Result Outcome Fault
renamed_with Plain t who from source to target = renamed_over t who from source to target
renamed_with NoReplace t who from source to target = do
  _ ← require (not (is_some target)) AlreadyExists
  renamed t who from source to
renamed_with Exchange t who from source to target = do
  other ← some_or target NotFound
  unless_same t source other (λ _. exchanging t who from source to other)

-- What a rename of a kind takes an entry from: a file or a symlink that it replaces.
abbrev pub replaced_by : How → Tree → Caller → ℕ → EntryKey → Option ℕ → Option Removed
replaced_by Plain t who source to None = None
replaced_by Plain t who source to (Some other) =
    (if source == other then None else cleared t who to other)
replaced_by NoReplace t who source to target = None
replaced_by Exchange t who source to target = None

abbrev pub replaced : Tree → Caller → List ℕ → List ℕ → How → Result (Option Removed) Fault
replaced t who path to how = do
  move ← move_asked t who.sid path to how
  Ok (replaced_by how t who move.source move.to (get t.entries move.to))

-- a transaction that renames, and answers what became of what it replaced
pub record Renames (sid : ℕ) (ready : Tree → Type 0) (before after : Store)
    (result : Result (Option Removed) TxFault)
    (act : Tree → Result Outcome Fault) (goes : Tree → Result (Option Removed) Fault) : Type 0
  where
    pub does : Transacts ready before after result (λ removed. Done) act
    pub says : SaysSustained sid ready before (renamed_in result) act
    pub answers : SaysRemoved ready before (renamed_in result) goes

abbrev pub inode_found : Result (Option Place) TxFault → Result (Option ℕ) TxFault
inode_found (Ok None) = Ok None
inode_found (Ok (Some place)) = Ok (Some place.inode)
inode_found (Err fault) = Err fault

abbrev pub StandsIf : Store → Option Place → Type 0
StandsIf store None = Unit {0}
StandsIf store (Some place) = Stands store place

-- what an entry names, if it is there: over whole rows it is the tree's, and the row of its node
-- stands there
pub record FindsEntry (before after : Store) (result : Result (Option Place) TxFault)
    (place : EntryKey) : Type 0 where
  pub looks : Looks before after (inode_found result) (λ t. Ok (get t.entries place))
  pub stand : IfOk result (StandsIf after)

-- An entry of a whole tree that may move to a free place. The links of all that it is about can be
-- stored.
pub record MayMove (t : Tree) (from : EntryKey) (source : ℕ) (to : EntryKey) : Type 0 where
  pub whole : WholeShape (shape_of t)
  pub is : get t.entries from ≡ Some source
  pub free : get t.entries to ≡ None
  pub name : IsTrue (is_entry_name to.name)
  pub within : is_directory t to.dir ≡ true
  pub outside : is_inside t to.dir source ≡ false
  pub links_from : links_fit t from.dir ≡ true
  pub links_source : links_fit t source ≡ true

-- an inode moved from one entry to another, where the links of both directories can be stored
abbrev pub moved_within : ℕ → EntryKey → ℕ → EntryKey → Tree → Result Tree Fault
moved_within now from source to t = do
  _ ← require (links_fit (moved t now from source to) from.dir
      && links_fit (moved t now from source to) to.dir) NoSpace
  Ok (moved t now from source to)
