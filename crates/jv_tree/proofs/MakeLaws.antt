-- How a file, a directory and a symlink are made: the session, the place of the entry, and the new node.
use Rattle.std.proofs.Common.{◌≡◌, ℕ, Bool, true, false, List, Some, Result, Ok, Err, refl, ap, subst, ◌∙◌}
use Rattle.std.specs.Prelude.{IsTrue, IfErr, IfSome, OnErr, nat_le, length}
use Rattle.jv_model.specs.declared.limits.TheConstants.{MAX_PATH, FULL_MODE}
use Rattle.jv_model.specs.declared.fault.Fault.{Fault}
use Rattle.jv_model.specs.declared.fault.Fault.TheVariants.{NameTooLong}
use Rattle.jv_model.specs.declared.fault.RowFault.TheVariants.{Bad, Failed, Memory}
use Rattle.jv_model.specs.declared.fault.TxFault.{TxFault}
use Rattle.jv_model.specs.declared.fault.TxFault.TheVariants.{Refused, Moved, Rows as OfRows}
use Rattle.jv_model.specs.declared.op.Reply.{Reply}
use Rattle.jv_model.specs.declared.op.Reply.TheVariants.{Found, FileOpened}
use Rattle.jv_model.specs.promise.rows.RowKeys.{RowMap}
use Rattle.jv_model.specs.promise.tree.Attempt.{◌>>=◌, require}
use Rattle.jv_model.specs.promise.tree.Caller.{Caller, Outcome, in_session}
use Rattle.jv_model.specs.promise.tree.Changes.{empty_content}
use Rattle.jv_model.specs.promise.tree.Making.{new_place, mkdir, create, symlink}
use Rattle.jv_model.specs.promise.tree.Tree.{Tree, Kind, File, Directory, Symlink, EntryKey}
use Rattle.jv_outside.specs.promise.Store.{Store}
use Rattle.jv_rows.specs.declared.walking.EntryPlace.{EntryPlace}
use Rattle.jv_rows.specs.Transactions.{BadFault, Looks, Lands, TransactionCounts, Transacts, Always}
use Rattle.jv_rows.specs.Walks.{pair_in, ComesToEntry}
use Rattle.jv_rows.proofs.transactions.TransactionLaws.{Past, Fails, past-start, past-as, past-looks, past-stops, past-fails, past-refuses, transacts-refused}
use Rattle.jv_volume.specs.promise.TypedRows.{typed}
use Rattle.jv_volume.specs.promise.TreeOf.{tree_of}
use Rattle.jv_volume.specs.promise.Whole.{Whole}
use Rattle.jv_volume.proofs.names.EntryNameLaws.{new_place-name}
use Rattle.jv_volume.proofs.shapes.WalkShapeLaws.{is_new_place}
use Rattle.jv_model.specs.promise.Lists.{has_no_zero}
use Rattle.jv_tree.specs.Entering.{new_pair, place_of, IsFreePlace, enter}
use Rattle.jv_rows.proofs.transactions.NeedingLaws.{session_is}

-- ---- a transaction after readings

module _ {A : Type 0} (ready : Tree → Type 0) (before middle after : Store) (reply : A → Reply) (act rest : Tree → Result Outcome Fault) (p : Past before middle act rest) where
  -- what landed in the rest of a transaction landed in the whole of it, and what came undone there
  pub lands_past : (result : Result A TxFault) (known : RowMap) (bytes : ℕ → ℕ → ℕ) → act (tree_of bytes (typed known)) ≡ rest (tree_of bytes (typed known))
      → Lands known after.rows bytes reply rest result → Lands known after.rows bytes reply act result
  lands_past (Ok x) known bytes same l = record { left = l.left; is = l.is; whole = l.whole; quiet = l.quiet; model = same ∙ l.model }
  lands_past (Err (Refused fault)) known bytes same l = same ∙ l
  lands_past (Err (Moved list)) known bytes same l = l
  lands_past (Err (OfRows (Bad at bad))) known bytes same l = l
  lands_past (Err (OfRows Failed)) known bytes same l = tt
  lands_past (Err (OfRows Memory)) known bytes same l = tt

  pub undone_past : (result : Result A TxFault) → OnErr result (after.rows ≡ middle.rows) → OnErr result (after.rows ≡ before.rows)
  undone_past (Ok x) h = tt
  undone_past (Err fault) h = h ∙ p.rows_are

  -- what is left of a transaction, where the tree that was read is ready for it
  pub past-transacts : (result : Result A TxFault) → Transacts ready middle after result reply rest
      → ((known : RowMap) → before.rows ≡ Some known → Whole (typed known) → (bytes : ℕ → ℕ → ℕ) → ready (tree_of bytes (typed known)))
      → Transacts Always before after result reply act
  past-transacts result l is_ready = record {
    opened_at = l.opened_at ∙ p.opened_at;
    counts = subst (λ n. TransactionCounts n after.faults result) p.calm l.counts;
    undone = undone_past result l.undone;
    lands = λ known is whole bytes always. lands_past result known bytes (p.goes_on known is whole bytes)
        (l.lands known (p.rows_are ∙ is) whole bytes (is_ready known is whole bytes));
    bad = subst (λ o. IfErr result (λ fault. IfSome o (λ known. BadFault (typed known) fault))) p.rows_are l.bad;
  }

-- ---- the place

-- what goes on with a place goes on with its pair
pub by_pair : {B : Type 0} (r : Result EntryKey Fault) (next : EntryKey → Result B Fault)
    → (r >>= next) ≡ ((r >>= (λ at. Ok (pair_in at))) >>= (λ pair. next (record { dir = pair.0; name = pair.1 })))
by_pair (Ok place) next = refl
by_pair (Err fault) next = refl

-- a place by its pair
pub from_pair : (r : Result EntryKey Fault) (dir : ℕ) (name : List ℕ) → (r >>= (λ at. Ok (pair_in at))) ≡ Ok (dir, name) → r ≡ Ok (record { dir = dir; name = name })
from_pair (Ok place) dir name h = (let same : pair_in place ≡ (dir, name) = same_value (pair_in place) (dir, name) h in λ i. Ok (record { dir = (same i).0; name = (same i).1 }))
  where
    same_value : (x y : ℕ × List ℕ) → ◌≡◌ {A = Result (ℕ × List ℕ) Fault} (Ok x) (Ok y) → x ≡ y
    same_value x y e = cc
from_pair (Err fault) dir name h = absurd (cc)

-- a place that was found is free
pub free_place : (t : Tree) (path : List ℕ) (dir : ℕ) (name : List ℕ) → has_no_zero path ≡ true → new_pair t path ≡ Ok (dir, name) → IsFreePlace t (record { dir = dir; name = name })
free_place t path dir name plain h =
    let at = from_pair (new_place t path) dir name h in
    let is = is_new_place t path (record { dir = dir; name = name }) at in
    record { free = is.free; within = is.within; may = is.may; name = new_place-name t path plain (record { dir = dir; name = name }) at }

module _ (path : List ℕ) (plain : IsTrue (has_no_zero path)) (kind_of : ℕ → Kind) (mode now : ℕ) (reply : ℕ → Reply) (before middle : Store) (act : Tree → Result Outcome Fault) where
  abbrev entering : Tree → EntryKey → Result Outcome Fault
  entering t place = enter (kind_of place.dir) mode now place reply t

  abbrev placing : Tree → Result Outcome Fault
  placing t = new_place t path >>= entering t

  abbrev at_pair : Tree → ℕ × List ℕ → Result Outcome Fault
  at_pair t pair = entering t (record { dir = pair.0; name = pair.1 })

  module _ (p : Past before middle act placing) where
    paired : Past before middle act (λ t. new_pair t path >>= at_pair t)
    paired = past-as before middle middle act placing p (λ t. new_pair t path >>= at_pair t) (λ known is whole bytes.
        let t = tree_of bytes (typed known) in by_pair (new_place t path) (entering t))

    -- no place was found
    pub make-no_place : (after : Store) (fault : TxFault) → ComesToEntry middle after (Err fault) (λ t. new_pair t path) → Transacts {A = ℕ} Always before after (Err fault) reply act
    make-no_place after fault w = transacts-refused Always before after reply act fault
        (past-stops before middle after act (λ t. new_pair t path) at_pair paired fault w.looks)

    module _ (after : Store) (place : EntryPlace) (w : ComesToEntry middle after (Ok place) (λ t. new_pair t path)) where
      placed : Past before after act (λ t. at_pair t (place.dir.inode, place.name))
      placed = past-looks before middle after act (λ t. new_pair t path) at_pair paired (place.dir.inode, place.name) w.looks

      -- a failure before the node was made
      pub make-fails : (last : Store) (fault : TxFault) → Fails after last fault → Transacts {A = ℕ} Always before last (Err fault) reply act
      make-fails last fault f = transacts-refused Always before last reply act fault (past-fails before after last act (λ t. at_pair t (place.dir.inode, place.name)) placed fault f)

      -- the node is made, or isn't
      pub make-enters : (last : Store) (result : Result ℕ TxFault) (m n : ℕ) → m ≡ mode → n ≡ now
          → Transacts (λ t. IsFreePlace t (place_of place)) after last result reply (enter (kind_of place.dir.inode) m n (place_of place) reply)
          → Transacts Always before last result reply act
      make-enters last result m n same_mode same_now l = past-transacts (λ t. IsFreePlace t (place_of place)) before after last reply act (λ t. at_pair t (place.dir.inode, place.name)) placed result
          (subst (λ x. Transacts (λ t. IsFreePlace t (place_of place)) after last result reply (enter (kind_of place.dir.inode) x now (place_of place) reply)) same_mode
          (subst (λ x. Transacts (λ t. IsFreePlace t (place_of place)) after last result reply (enter (kind_of place.dir.inode) m x (place_of place) reply)) same_now l))
          (λ known is whole bytes. free_place (tree_of bytes (typed known)) path place.dir.inode place.name plain (w.looks.agrees known (p.rows_are ∙ is) whole bytes))

-- ---- a test of the arguments

module _ (passes : Bool) (fault : Fault) (reply : ℕ → Reply) (before middle : Store) (act rest : Tree → Result Outcome Fault)
    (p : Past before middle act (λ t. require passes fault >>= (λ _. rest t))) where
  pub make-passes : passes ≡ true → Past before middle act rest
  make-passes is = past-as before middle middle act (λ t. require passes fault >>= (λ _. rest t)) p rest (λ known known_is whole bytes.
      let t = tree_of bytes (typed known) in ap (λ b. require b fault >>= (λ _. rest t)) is)

  pub make-refused : passes ≡ false → Transacts {A = ℕ} Always before middle (Err (Refused fault)) reply act
  make-refused is = transacts-refused Always before middle reply act (Refused fault)
      (past-refuses before middle act fault (past-as before middle middle act (λ t. require passes fault >>= (λ _. rest t)) p (λ t. Err fault) (λ known known_is whole bytes.
      let t = tree_of bytes (typed known) in ap (λ b. require b fault >>= (λ _. rest t)) is)))

-- ---- the session

module _ (who : Caller) (sid : ℕ) (same : who.sid ≡ sid) (reply : ℕ → Reply) (before middle : Store) (rest : Tree → Result Outcome Fault) (act : Tree → Result Outcome Fault)
    (is : (t : Tree) → act t ≡ (in_session t who >>= (λ _. rest t))) where
  session_first : Past before before act (λ t. session_is sid t >>= (λ _. rest t))
  session_first = past-as before before before act act (past-start before act) (λ t. session_is sid t >>= (λ _. rest t)) (λ known known_is whole bytes.
      let t = tree_of bytes (typed known) in is t ∙ ap (λ s. session_is s t >>= (λ _. rest t)) same)

  -- the session is gone, or wasn't read
  pub make-no_session : (fault : TxFault) → Looks before middle (Err fault) (session_is sid) → Transacts {A = ℕ} Always before middle (Err fault) reply act
  make-no_session fault l = transacts-refused Always before middle reply act fault (past-stops before before middle act (session_is sid) (λ t _. rest t) session_first fault l)

  -- the session is there
  pub make-session : Looks before middle (Ok tt) (session_is sid) → Past before middle act rest
  make-session l = past-looks before before middle act (session_is sid) (λ t _. rest t) session_first tt l

-- ---- the operations by their parts

pub mkdir-is : (t : Tree) (who : Caller) (path : List ℕ) (mode : ℕ)
    → mkdir t who path mode ≡ (in_session t who >>= (λ _. new_place t path >>= (λ place. enter (Directory place.dir) mode who.now place (λ inode. Found inode) t)))
unfolding mkdir
mkdir-is t who path mode = refl

pub create-is : (t : Tree) (who : Caller) (path : List ℕ) (mode : ℕ)
    → create t who path mode ≡ (in_session t who >>= (λ _. new_place t path >>= (λ place. enter (File empty_content) mode who.now place (λ inode. FileOpened who.free_handle inode) t)))
unfolding create
create-is t who path mode = refl

pub symlink-is : (t : Tree) (who : Caller) (target path : List ℕ)
    → symlink t who target path ≡ (in_session t who >>= (λ _. require (nat_le (length target) MAX_PATH) NameTooLong >>= (λ _. new_place t path >>= (λ place. enter (Symlink target) FULL_MODE who.now place (λ inode. Found inode) t))))
unfolding symlink
symlink-is t who target path = refl
