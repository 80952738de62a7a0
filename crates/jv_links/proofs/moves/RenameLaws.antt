-- How a rename is made of its parts: the ends, what its target names, and then the change.
use Rattle.std.proofs.Common.{◌≡◌, ℕ, true, false, ◌==◌, List, Option, None, Some, Result, Ok, Err, refl, sym, ap, ◌∙◌}
use Rattle.std.specs.Prelude.{IsTrue}
use Rattle.jv_model.specs.declared.basics.How.{How}
use Rattle.jv_model.specs.declared.basics.How.TheVariants.{Plain, NoReplace, Exchange}
use Rattle.jv_model.specs.declared.fault.Fault.{Fault}
use Rattle.jv_model.specs.declared.fault.TxFault.{TxFault}
use Rattle.jv_model.specs.declared.op.Reply.{Reply}
use Rattle.jv_model.specs.declared.op.Reply.TheVariants.{Done}
use Rattle.jv_model.specs.promise.FiniteMap.{get}
use Rattle.jv_model.specs.promise.rows.RowKeys.{RowMap}
use Rattle.jv_model.specs.promise.tree.Attempt.{◌>>=◌}
use Rattle.jv_model.specs.promise.tree.Caller.{Caller, Outcome, done}
use Rattle.jv_model.specs.promise.tree.Renaming.{rename, renamed_by, unless_same}
use Rattle.jv_model.specs.promise.tree.Tree.{Tree, EntryKey}
use Rattle.jv_outside.specs.promise.Store.{Store}
use Rattle.jv_rows.specs.declared.walking.Place.{Place}
use Rattle.jv_rows.specs.Transactions.{Looks, Transacts}
use Rattle.jv_rows.proofs.transactions.TransactionLaws.{Past, past-start, past-as, past-looks, past-stops, transacts-refused, transacts-answers}
use Rattle.jv_volume.specs.promise.TypedRows.{typed}
use Rattle.jv_volume.specs.promise.TreeOf.{tree_of}
use Rattle.jv_volume.specs.promise.Whole.{Whole}
use Rattle.jv_volume.proofs.stored.StoredLaws.{whole-shape}
use Rattle.jv_links.specs.declared.ends.Ends.{Ends}
use Rattle.jv_links.specs.declared.fates.Removed.{Removed}
use Rattle.jv_links.specs.Removals.{HoldsFiles}
use Rattle.jv_model.specs.promise.Lists.{has_no_zero}
use Rattle.jv_links.specs.Moves.{Move, FindsEnds, FindsEntry, IsMove, IsFreeMove, IsOverMove, Renames, move_asked, move_of, renamed_with, replaced, replaced_by}
use Rattle.jv_tree.specs.Entering.{place_of}
use Rattle.jv_links.proofs.entries.EndsLaws.{rename-is, is_move}
use Rattle.jv_links.proofs.moves.RenameAnswerLaws.{renames-past, says_none}
use Rattle.jv_model.proofs.TestLaws.{same_Ok}

-- ---- entries that name one inode

module _ (sid : ℕ) (ready : Tree → Type 0) (store : Store) (source other : ℕ) (otherwise : Tree → Unit {0}
    → Result Outcome Fault) (same : (source == other) ≡ true) where
  abbrev unless : Tree → Result Outcome Fault
  unless t = unless_same t source other (otherwise t)

  unless-done : (t : Tree) → unless t ≡ done t
  unless-done t = ap (λ b. elim b as (λ _. Result Outcome Fault) [ true ↦ done t | false ↦ otherwise t tt ]) same

  kept : (t : Tree) (d : Outcome) → unless t ≡ Ok d → d.tree.sustained ≡ t.sustained
  kept t d h = ap (λ (o : Outcome). o.tree.sustained)
      (sym (same_Ok (record { tree = t; reply = Done }) d (sym (unless-done t) ∙ h)))

  -- nothing changes
  pub renames-same : (goes : Tree → Result (Option Removed) Fault) → ((t : Tree) → goes t ≡ Ok None)
      → Renames sid ready store store (Ok None) unless goes
  renames-same goes none = record {
    does = transacts-answers ready store store (λ removed. Done) unless None
        (past-as store store store unless unless (past-start store unless) done
        (λ known is whole bytes. unless-done (tree_of bytes (typed known))));
    says = λ known is whole bytes r inode. says_none (tree_of bytes (typed known)) sid
        (unless (tree_of bytes (typed known))) (kept (tree_of bytes (typed known))) inode;
    answers = λ known is whole bytes r. none (tree_of bytes (typed known));
  }

-- without the test, where they name two
pub unless-apart : (t : Tree) (source other : ℕ) (otherwise : Unit {0} → Result Outcome Fault)
    → (source == other) ≡ false → unless_same t source other otherwise ≡ otherwise tt
unless-apart t source other otherwise apart =
    ap (λ b. elim b as (λ _. Result Outcome Fault) [ true ↦ done t | false ↦ otherwise tt ]) apart

module _ (sid : ℕ) (ready : Tree → Type 0) (before after : Store) (source other : ℕ) (otherwise : Tree → Unit {0}
    → Result Outcome Fault) (apart : (source == other) ≡ false) where
  abbrev unless_apart : Tree → Result Outcome Fault
  unless_apart t = unless_same t source other (otherwise t)

  pub renames-apart : (goes all_goes : Tree → Result (Option Removed) Fault) → ((t : Tree) → all_goes t ≡ goes t)
      → (result : Result (Option Removed) TxFault)
      → Renames sid ready before after result (λ t. otherwise t tt) goes
      → Renames sid ready before after result unless_apart all_goes
  renames-apart goes all_goes same_goes result r = renames-past sid ready ready before before after unless_apart (λ t. otherwise t tt)
      (past-as before before before unless_apart unless_apart (past-start before unless_apart) (λ t. otherwise t tt)
      (λ known is whole bytes. unless-apart (tree_of bytes (typed known)) source other
      (otherwise (tree_of bytes (typed known))) apart))
      (λ known is whole bytes h. h) goes all_goes
      (λ known is whole bytes h. same_goes (tree_of bytes (typed known))) result r

-- ---- the parts

by_target : (how : How) (t : Tree) (who : Caller) (from : EntryKey) (source : ℕ) (to : EntryKey)
    → renamed_by how t who from source to ≡ renamed_with how t who from source to (get t.entries to)
by_target Plain t who from source to = refl
by_target NoReplace t who from source to = refl
by_target Exchange t who from source to = refl

module _ (who : Caller) (path to : List ℕ) (how : How) (plain : IsTrue (has_no_zero to)) (sid : ℕ)
    (same_sid : who.sid ≡ sid) (before middle : Store) where
  abbrev act : Tree → Result Outcome Fault
  act t = rename t who path to how

  abbrev asks : Tree → Result Move Fault
  asks t = move_asked t sid path to how

  abbrev by_move : Tree → Move → Result Outcome Fault
  by_move t m = renamed_by how t who m.from m.source m.to

  abbrev reply : Option Removed → Reply
  reply removed = Done

  started : Past before before act (λ t. asks t >>= by_move t)
  started = past-as before before before act act (past-start before act) (λ t. asks t >>= by_move t)
      (λ known is whole bytes. (let t = tree_of bytes (typed known) in
      rename-is t who path to how ∙ ap (λ s. move_asked t s path to how >>= by_move t) same_sid))

  -- the ends weren't found
  pub rename-no_ends : (fault : TxFault) → FindsEnds before middle (Err fault) asks
      → Transacts {A = Option Removed} (HoldsFiles who.held) before middle (Err fault) reply act
  rename-no_ends fault f = transacts-refused (HoldsFiles who.held) before middle reply act fault
      (past-stops before before middle act asks by_move started fault f.looks)

  module _ (ends : Ends) (f : FindsEnds before middle (Ok ends) asks) where
    abbrev from : EntryKey
    from = place_of ends.from

    abbrev source : ℕ
    source = ends.source.inode

    abbrev target : EntryKey
    target = place_of ends.to

    abbrev with_target : Tree → Option ℕ → Result Outcome Fault
    with_target t o = renamed_with how t who from source target o

    abbrev looks_up : Tree → Result (Option ℕ) Fault
    looks_up t = Ok (get t.entries target)

    found : Past before middle act (λ t. looks_up t >>= with_target t)
    found = past-as before middle middle act (λ t. by_move t (move_of ends))
        (past-looks before before middle act asks by_move started (move_of ends) f.looks)
        (λ t. looks_up t >>= with_target t)
        (λ known is whole bytes. by_target how (tree_of bytes (typed known)) who from source target)

    is_found : (known : RowMap) → before.rows ≡ Some known → Whole (typed known) → (bytes : ℕ → ℕ → ℕ)
        → IsMove (tree_of bytes (typed known)) who.sid how (move_of ends)
    is_found known is whole bytes = is_move (tree_of bytes (typed known)) who.sid path to how (move_of ends)
        (whole-shape bytes (typed known) whole) plain
        (ap (λ s. move_asked (tree_of bytes (typed known)) s path to how) same_sid ∙ f.looks.agrees known is whole
        bytes)

    -- what goes, by what the target names
    goes_by : (after : Store) (o : Option ℕ) → Looks middle after (Ok o) looks_up → (known : RowMap)
        → before.rows ≡ Some known → Whole (typed known) → (bytes : ℕ → ℕ → ℕ)
        → HoldsFiles who.held (tree_of bytes (typed known))
        → replaced (tree_of bytes (typed known)) who path to how
        ≡ Ok (replaced_by how (tree_of bytes (typed known)) who source target o)
    goes_by after o l known is whole bytes held =
        let t = tree_of bytes (typed known) in
        let rest : Result Move Fault → Result (Option Removed) Fault = (λ r.
        r >>= (λ m. Ok (replaced_by how t who m.source m.to (get t.entries m.to)))) in
        ap (λ sid. rest (move_asked t sid path to how)) same_sid ∙ ap rest (f.looks.agrees known is whole bytes)
        ∙ ap (λ x. Ok (replaced_by how t who source target x))
        (same_Ok (get t.entries target) o (l.agrees known (f.looks.rows_are ∙ is) whole bytes))

    -- the target wasn't looked up
    pub rename-no_target : (after : Store) (fault : TxFault) → FindsEntry middle after (Err fault) target
        → Transacts {A = Option Removed} (HoldsFiles who.held) before after (Err fault) reply act
    rename-no_target after fault e = transacts-refused (HoldsFiles who.held) before after reply act fault
        (past-stops before middle after act looks_up with_target found fault e.looks)

    -- its place is free
    pub rename-free : (after last : Store) (result : Result (Option Removed) TxFault)
        → FindsEntry middle after (Ok None) target
        → Renames who.sid (λ t. IsFreeMove t who.sid how from source target) after last result (λ t. with_target t None)
        (λ t. Ok (replaced_by how t who source target None))
        → Renames who.sid (HoldsFiles who.held) before last result act (λ t. replaced t who path to how)
    rename-free after last result e r = renames-past who.sid (λ t. IsFreeMove t who.sid how from source target)
        (HoldsFiles who.held) before after last act (λ t. with_target t None)
        (past-looks before middle after act looks_up with_target found None e.looks)
        (λ known is whole bytes held. record {
          move = is_found known is whole bytes;
          free = same_Ok (get (tree_of bytes (typed known)).entries target) None
              (e.looks.agrees known (f.looks.rows_are ∙ is) whole bytes);
        })
        (λ t. Ok (replaced_by how t who source target None)) (λ t. replaced t who path to how)
        (goes_by after None e.looks) result r

    -- an entry is there
    pub rename-there : (after last : Store) (other : Place) (result : Result (Option Removed) TxFault)
        → FindsEntry middle after (Ok (Some other)) target
        → Renames who.sid (λ t. IsOverMove t who how from source target other.inode) after last result
        (λ t. with_target t (Some other.inode)) (λ t. Ok (replaced_by how t who source target (Some other.inode)))
        → Renames who.sid (HoldsFiles who.held) before last result act (λ t. replaced t who path to how)
    rename-there after last other result e r =
        renames-past who.sid (λ t. IsOverMove t who how from source target other.inode) (HoldsFiles who.held) before
        after last act
        (λ t. with_target t (Some other.inode))
        (past-looks before middle after act looks_up with_target found (Some other.inode) e.looks)
        (λ known is whole bytes held. record {
          move = is_found known is whole bytes;
          there = same_Ok (get (tree_of bytes (typed known)).entries target) (Some other.inode)
              (e.looks.agrees known (f.looks.rows_are ∙ is) whole bytes);
          held = held;
        })
        (λ t. Ok (replaced_by how t who source target (Some other.inode))) (λ t. replaced t who path to how)
        (goes_by after (Some other.inode) e.looks) result r
