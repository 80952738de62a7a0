-- What becomes of inodes that lose an entry.
use Rattle.std.specs.Prelude.{◌≡◌, ℕ, ◌≤◌, Bool, false, ◌&&◌, not, ◌==◌, List, is_some, Option, None, Some, Result, Ok, Err, IfSome, IfOk, IsTrue}
use Rattle.jv_model.specs.promise.Lists.{is_among}
use Rattle.jv_model.specs.declared.fault.Fault.{Fault}
use Rattle.jv_model.specs.declared.fault.TxFault.{TxFault}
use Rattle.jv_model.specs.declared.limits.TheConstants.{LAST_MOMENT}
use Rattle.jv_model.specs.promise.FiniteMap.{get}
use Rattle.jv_model.specs.promise.rows.RowKeys.{RowMap}
use Rattle.jv_model.specs.promise.tree.Tree.{Tree, EntryKey, is_directory, is_sustained}
use Rattle.jv_model.specs.promise.tree.Caller.{Caller, Outcome, outcome}
use Rattle.jv_model.specs.promise.tree.Removing as model
use Rattle.jv_outside.specs.declared.batch.Change.{Change}
use Rattle.jv_outside.specs.promise.Store.{Store}
use Rattle.jv_rows_drafts.specs.Drafting.{Minds}
use Rattle.jv_volume.specs.promise.TypedRows.{typed}
use Rattle.jv_volume.specs.promise.TreeOf.{tree_of}
use Rattle.jv_volume.specs.promise.Shape.{Regular, WholeShape, shape_of, is_there}
use Rattle.jv_volume.specs.promise.Whole.{Whole}
use Rattle.jv_links.specs.declared.fates.Fate.{Fate}
use Rattle.jv_links.specs.declared.fates.Fate.TheVariants.{Linked, Trashed, Dropped, Sustained}
use Rattle.jv_links.specs.declared.fates.Removed.{Removed}
pub use Rattle.jv_model.specs.promise.Lists.{has_no_zero}

-- what a caller has open of a tree's inodes are files
abbrev pub HoldsFiles : List ℕ → Tree → Type 0
HoldsFiles held t = (inode : ℕ) → IsTrue (is_among inode held)
    → IsTrue (is_there ((shape_of t).form inode))
    → (shape_of t).form inode ≡ Regular

-- an entry of a file or a symlink of a whole tree, which a caller whose session is there removes at
-- a moment of the clock
pub record MayLose (t : Tree) (who : Caller) (place : EntryKey) (inode : ℕ) : Type 0 where
  pub whole : WholeShape (shape_of t)
  pub is : get t.entries place ≡ Some inode
  pub leaf : is_directory t inode ≡ false
  pub session : IsTrue (is_some (get t.sessions who.sid))
  pub held : HoldsFiles who.held t
  pub clock : who.now ≤ LAST_MOMENT

abbrev pub fate_in : model.Fate → Fate
fate_in model.Linked = Linked
fate_in model.Trashed = Trashed
fate_in model.Sustained = Sustained
fate_in model.Dropped = Dropped

-- a file or a symlink that loses an entry, with what becomes of it
abbrev pub lost_at : Tree → Caller → EntryKey → ℕ → Removed
lost_at t who place inode =
    record { inode = inode; fate = fate_in (model.fate_of t who place inode) }

-- the fate that a removal answers is the model's, for each tree that the drafted rows are those of
abbrev pub SaysFate : Caller → EntryKey → ℕ → List Change → Store → Result Fate TxFault → Type 0
SaysFate who place inode was before result =
    IfOk result (λ fate. (known : RowMap) → before.rows ≡ Some known
    → (bytes : ℕ → ℕ → ℕ) (t : Tree)
    → Minds known was bytes t → MayLose t who place inode
    → fate ≡ fate_in (model.fate_of t who place inode))

-- the file that a session keeps once something was removed
abbrev pub kept_by : Fate → ℕ → Option ℕ
kept_by Linked inode = None
kept_by Trashed inode = None
kept_by Dropped inode = None
kept_by Sustained inode = Some inode

abbrev pub kept_of : Option Removed → Option ℕ
kept_of None = None
kept_of (Some removed) = kept_by removed.fate removed.inode

abbrev pub is_inode : Option ℕ → ℕ → Bool
is_inode None inode = false
is_inode (Some kept) inode = kept == inode

-- what an unlink removed, and what a rename replaced, where they were made
abbrev pub removed_in : Result Removed TxFault → Option (Option Removed)
removed_in (Ok removed) = Some (Some removed)
removed_in (Err fault) = None

abbrev pub renamed_in : Result (Option Removed) TxFault → Option (Option Removed)
renamed_in (Ok removed) = Some removed
renamed_in (Err fault) = None

-- Over whole rows, whose tree is ready, what a transaction says that it removed is what goes.
abbrev pub SaysRemoved : (Tree → Type 0) → Store → Option (Option Removed)
    → (Tree → Result (Option Removed) Fault)
    → Type 0
SaysRemoved ready before result goes =
    IfSome result (λ removed. (known : RowMap) → before.rows ≡ Some known
    → Whole (typed known) → (bytes : ℕ → ℕ → ℕ)
    → ready (tree_of bytes (typed known))
    → goes (tree_of bytes (typed known)) ≡ Ok removed)

-- the only file that a session keeps since then and didn't keep before is this one, if it is one
abbrev pub KeepsAnew : ℕ → Tree → Tree → Option ℕ → Type 0
KeepsAnew sid before after kept = (inode : ℕ)
    → (is_sustained after sid inode && not (is_sustained before sid inode)) ≡ is_inode kept inode

-- Over whole rows, whose tree is ready, what was removed says which file the session keeps from
-- then on.
abbrev pub SaysSustained : ℕ → (Tree → Type 0) → Store → Option (Option Removed)
    → (Tree → Result Outcome Fault)
    → Type 0
SaysSustained sid ready before result act =
    IfSome result (λ removed. (known : RowMap) → before.rows ≡ Some known
    → Whole (typed known) → (bytes : ℕ → ℕ → ℕ)
    → ready (tree_of bytes (typed known))
    → KeepsAnew sid (tree_of bytes (typed known))
    (outcome (tree_of bytes (typed known)) (act (tree_of bytes (typed known)))).tree
    (kept_of removed))
