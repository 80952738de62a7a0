-- What a rename answers of what it replaced, and how a rename goes on after readings.
use Rattle.std.proofs.Common.{◌≡◌, ℕ, ◌≤◌, true, not, ◌&&◌, Option, None, Some, Result, Ok, Err, refl, ap, subst, ◌∙◌}
use Rattle.std.specs.Prelude.{IfErr, IfSome, is_some}
use Rattle.std.proofs.Math.Bool.{and-not_self}
use Rattle.std.proofs.lemmas.Bool.{le-leb}
use Rattle.jv_model.specs.declared.limits.TheConstants.{MAX_LINKS}
use Rattle.jv_model.specs.declared.fault.Fault.{Fault}
use Rattle.jv_model.specs.declared.fault.TxFault.{TxFault}
use Rattle.jv_model.specs.declared.op.Reply.{Reply}
use Rattle.jv_model.specs.declared.op.Reply.TheVariants.{Done}
use Rattle.jv_model.specs.declared.row.Row.TheVariants.{OfNode}
use Rattle.jv_model.specs.promise.FiniteMap.{get}
use Rattle.jv_model.specs.promise.rows.RowKeys.{RowMap}
use Rattle.jv_model.specs.promise.rows.RowPlaces.{node_key}
use Rattle.jv_model.specs.promise.tree.Caller.{Outcome, outcome}
use Rattle.jv_model.specs.promise.tree.Tree.{Tree, links_fit, link_count, is_sustained}
use Rattle.jv_outside.specs.promise.Store.{Store}
use Rattle.jv_rows.specs.declared.walking.Place.{Place}
use Rattle.jv_rows.specs.Transactions.{BadFault, TransactionCounts}
use Rattle.jv_rows.specs.Walks.{HasNodeRow}
use Rattle.jv_rows.proofs.transactions.TransactionLaws.{Past}
use Rattle.jv_tree.proofs.MakeLaws.{lands_past, undone_past}
use Rattle.jv_volume.specs.promise.TypedRows.{typed}
use Rattle.jv_volume.specs.promise.TreeOf.{tree_of}
use Rattle.jv_volume.specs.promise.Views.{row_in, node_in}
use Rattle.jv_volume.specs.promise.Whole.{Whole}
use Rattle.jv_volume.proofs.stored.StoredLaws.{HasNode, found_node, whole-stored}
use Rattle.jv_links.specs.declared.fates.Removed.{Removed}
use Rattle.jv_links.specs.Removals.{SaysRemoved, SaysSustained, is_inode, kept_of, renamed_in}
use Rattle.jv_links.specs.Moves.{Renames}
use Rattle.jv_model.proofs.TestLaws.{of_known}

-- ---- a row that was read

-- the tree of whole rows has the node of a row that stands there
pub has_node : (store : Store) (inode : ℕ) (place : Place) (known : RowMap) → HasNodeRow store inode place.node
    → store.rows ≡ Some known → Whole (typed known) → (bytes : ℕ → ℕ → ℕ)
    → HasNode (tree_of bytes (typed known)) inode place.node (bytes inode)
has_node store inode place known row is whole bytes =
    found_node bytes (typed known) (whole-stored bytes (typed known) whole) inode place.node
    (ap (λ o. node_in (row_in o)) (of_known
    (λ known. get (typed known) (node_key inode) ≡ Some (Ok (OfNode place.node))) store.rows known is row))

-- and links that were stored can be stored
pub links_low : (t : Tree) (inode : ℕ) (place : Place) (byte : ℕ → ℕ) → HasNode t inode place.node byte
    → place.node.nlink ≤ MAX_LINKS → links_fit t inode ≡ true
links_low t inode place byte n low = le-leb (link_count t inode) MAX_LINKS (subst (λ m. m ≤ MAX_LINKS) n.links low)

-- ---- what is answered

-- nothing is kept anew where what is kept stays
pub says_none : (t : Tree) (sid : ℕ) (r : Result Outcome Fault)
    → ((d : Outcome) → r ≡ Ok d → d.tree.sustained ≡ t.sustained) → (inode : ℕ)
    → (is_sustained (outcome t r).tree sid inode && not (is_sustained t sid inode)) ≡ is_inode (kept_of None) inode
says_none t sid (Ok d) same inode =
    ap (λ m. is_some (get m (record { sid = sid; inode = inode })) && not (is_sustained t sid inode)) (same d refl)
    ∙ and-not_self (is_sustained t sid inode)
says_none t sid (Err fault) same inode = and-not_self (is_sustained t sid inode)

-- ---- after readings

module _ (sid : ℕ) (ready more : Tree → Type 0) (before middle after : Store) (act rest : Tree → Result Outcome Fault)
    (p : Past before middle act rest)
    (is_ready : (known : RowMap) → before.rows ≡ Some known → Whole (typed known) → (bytes : ℕ → ℕ → ℕ)
    → more (tree_of bytes (typed known)) → ready (tree_of bytes (typed known)))
    (goes all_goes : Tree → Result (Option Removed) Fault)
    (same_goes : (known : RowMap) → before.rows ≡ Some known → Whole (typed known) → (bytes : ℕ → ℕ → ℕ)
    → more (tree_of bytes (typed known)) → all_goes (tree_of bytes (typed known)) ≡ goes (tree_of bytes (typed known))) where
  abbrev reply : Option Removed → Reply
  reply removed = Done

  told_past : (told : Option (Option Removed)) → SaysSustained sid ready middle told rest
      → SaysSustained sid more before told act
  told_past None h = tt
  told_past (Some removed) h = λ known is whole bytes m inode. (let t = tree_of bytes (typed known) in
      ap (λ r. is_sustained (outcome t r).tree sid inode && not (is_sustained t sid inode))
      (p.goes_on known is whole bytes)
      ∙ h known (p.rows_are ∙ is) whole bytes (is_ready known is whole bytes m) inode)

  answers_past : (told : Option (Option Removed)) → SaysRemoved ready middle told goes → SaysRemoved more before told all_goes
  answers_past None h = tt
  answers_past (Some removed) h = λ known is whole bytes m. same_goes known is whole bytes m
      ∙ h known (p.rows_are ∙ is) whole bytes (is_ready known is whole bytes m)

  pub renames-past : (result : Result (Option Removed) TxFault) → Renames sid ready middle after result rest goes
      → Renames sid more before after result act all_goes
  renames-past result r = record {
    does = record {
      opened_at = r.does.opened_at ∙ p.opened_at;
      counts = subst (λ n. TransactionCounts n after.faults result) p.calm r.does.counts;
      undone = undone_past ready before middle after reply act rest p result r.does.undone;
      lands = λ known is whole bytes m. lands_past ready before middle after reply act rest p result known bytes (p.goes_on known is whole bytes)
          (r.does.lands known (p.rows_are ∙ is) whole bytes (is_ready known is whole bytes m));
      bad = subst (λ o. IfErr result (λ fault. IfSome o (λ known. BadFault (typed known) fault))) p.rows_are r.does.bad;
    };
    says = told_past (renamed_in result) r.says;
    answers = answers_past (renamed_in result) r.answers;
  }
