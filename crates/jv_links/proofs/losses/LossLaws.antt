-- How a file or a symlink loses an entry, by its fate: each exit.
use Rattle.std.proofs.Common.{◌≡◌, ℕ, ◌≤◌, Bool, true, false, not, ◌&&◌, List, Some, is_some, Result, Ok, Err, refl, sym, ap, subst, ◌∙◌}
use Rattle.std.specs.Prelude.{IsTrue, IsErrAnd, nat_lt, if◌then◌else◌}
use Rattle.jv_model.specs.promise.Lists.{is_among}
use Rattle.std.specs.Option.{option_map}
use Rattle.std.proofs.lemmas.Bool.{and_parts, not-true}
use Rattle.jv_model.specs.declared.basics.Who.{Who}
use Rattle.jv_model.specs.declared.fault.Fault.{Fault}
use Rattle.jv_model.specs.declared.fault.TxFault.{TxFault}
use Rattle.jv_model.specs.declared.row.Row.TheVariants.{OfEdge}
use Rattle.jv_model.specs.declared.limits.TheConstants.{LAST_MOMENT}
use Rattle.jv_model.specs.promise.FiniteMap.{get}
use Rattle.jv_model.specs.promise.rows.RowPlaces.{edge_key}
use Rattle.jv_model.specs.promise.tree.Caller.{Caller}
use Rattle.jv_model.specs.promise.tree.Changes.{touched, status_changed, change_node, drop_node, take_entry}
use Rattle.jv_model.specs.promise.tree.Removing as model
use Rattle.jv_model.specs.promise.tree.Trash.{trashed}
use Rattle.jv_model.specs.promise.tree.Tree.{Tree, EntryKey, in_trash, entry_count}
use Rattle.jv_outside.specs.declared.batch.Change.{Change}
use Rattle.jv_outside.specs.promise.Store.{Store}
use Rattle.jv_rows.specs.Drafts.{drafted}
use Rattle.jv_rows.specs.Transactions.{IsFor}
use Rattle.jv_volume.specs.promise.Stored.{edge_row}
use Rattle.jv_volume.specs.promise.TreeOf.{tree_of}
use Rattle.jv_volume.specs.promise.TypedRows.{is_entry_name}
use Rattle.jv_volume.proofs.shapes.RemovalLaws.{one_entry}
use Rattle.jv_volume.proofs.operations.ChangeLaws.{change_node-apart}
use Rattle.jv_rows_drafts.specs.Drafting.{Drafting}
use Rattle.jv_rows_drafts.specs.Ready.{StandsAt, IsThere, MayGo}
use Rattle.jv_links.specs.declared.fates.Fate.{Fate}
use Rattle.jv_links.specs.declared.fates.Fate.TheVariants.{Linked, Trashed, Dropped, Sustained}
use Rattle.jv_links.specs.Losses.{IsToTrash}
use Rattle.jv_links.specs.Removals.{MayLose, SaysFate, fate_in}
use Rattle.jv_rows_drafts.proofs.DraftStepLaws.{OfMinds, steps-then, steps-ended, step-fails, step-value, drafting-err, drafting-exit}
use Rattle.jv_links.proofs.losses.RemovalStepLaws.{node_there, stands_at, leaf_apart_dir, leaf_goes}

-- ---- what a fate says of the tree

fate_from : (f g : model.Fate) → fate_in f ≡ fate_in g → f ≡ g
fate_from model.Linked model.Linked e = refl
fate_from model.Linked model.Trashed e = absurd (cc)
fate_from model.Linked model.Sustained e = absurd (cc)
fate_from model.Linked model.Dropped e = absurd (cc)
fate_from model.Trashed model.Linked e = absurd (cc)
fate_from model.Trashed model.Trashed e = refl
fate_from model.Trashed model.Sustained e = absurd (cc)
fate_from model.Trashed model.Dropped e = absurd (cc)
fate_from model.Sustained model.Linked e = absurd (cc)
fate_from model.Sustained model.Trashed e = absurd (cc)
fate_from model.Sustained model.Sustained e = refl
fate_from model.Sustained model.Dropped e = absurd (cc)
fate_from model.Dropped model.Linked e = absurd (cc)
fate_from model.Dropped model.Trashed e = absurd (cc)
fate_from model.Dropped model.Sustained e = absurd (cc)
fate_from model.Dropped model.Dropped e = refl

abbrev pub fate_by : Bool → Bool → Bool → model.Fate
fate_by several days used = (if several then model.Linked else if days then model.Trashed else if used
    then model.Sustained else model.Dropped)

few_trashed : (several days used : Bool) → fate_by several days used ≡ model.Trashed → (several ≡ false) × (days ≡ true)
few_trashed true days used e = absurd (cc)
few_trashed false true used e = (refl, refl)
few_trashed false false true e = absurd (cc)
few_trashed false false false e = absurd (cc)

few_dropped : (several days used : Bool) → fate_by several days used ≡ model.Dropped → several ≡ false
few_dropped true days used e = absurd (cc)
few_dropped false days used e = refl

module _ (who : Who) (caller : Caller) (is_for : IsFor who caller) (place : EntryKey) (inode : ℕ) (start : List Change)
    (before told : Store) where
  abbrev ready : Tree → Type 0
  ready t = MayLose t caller place inode

  abbrev takes : Tree → Result Tree Fault
  takes t = Ok (take_entry t who.now place)

  abbrev less : Tree → Tree
  less t = take_entry t who.now place

  abbrev loses : Tree → Result Tree Fault
  loses t = Ok (model.remove_entry t caller place inode)

  -- the fate wasn't found
  pub loss-no_fate : (result : Result Fate TxFault) (fault : TxFault) → IsErrAnd result (λ e. e ≡ fault)
      → Drafting {A = Fate} (λ t. MayLose t caller place inode) start start before told (Err fault) (λ t. Ok t)
      → Drafting ready start start before told result loses
  loss-no_fate result fault is d = drafting-exit ready start start before told loses result fault is
      (step-fails ready ready start start before told fault (λ t. Ok t) loses (λ t. t) (λ t r. r) (λ t r. refl) d)

  module _ (fate : Fate) (d : Drafting ready start start before told (Ok fate) (λ t. Ok t))
      (says : SaysFate caller place inode start before (Ok fate)) (one : List Change) (taken : Store) where
    stands : OfMinds ready start before (λ t. StandsAt t place inode)
    stands known is bytes t m r = stands_at t place inode r.whole r.is
        (leaf_apart_dir t place inode r.whole r.is r.leaf)

    -- the entry wasn't taken
    pub loss-not_taken : (result : Result Fate TxFault) (fault : TxFault) → IsErrAnd result (λ e. e ≡ fault)
        → Drafting {A = Unit {0}} (λ t. StandsAt t place inode) start one told taken (Err fault)
        (λ t. Ok (take_entry t who.now place))
        → Drafting ready start one before taken result loses
    loss-not_taken result fault is e = drafting-exit ready start one before taken loses result fault is
        (steps-ended ready start start one before told taken fate (λ t. Ok t) (λ t. t) d (λ known at bytes t m r. refl)
        (λ t. StandsAt t place inode) takes loses less fault e
        stands (λ known at bytes t m r. refl))

    module _ (e : Drafting {A = Unit {0}} (λ t. StandsAt t place inode) start one told taken (Ok tt)
        (λ t. Ok (take_entry t who.now place))) (all : List Change) (last : Store) where
      took : Drafting {A = Unit {0}} ready start one before taken (Ok tt) takes
      took = steps-then ready start start one before told taken fate (λ t. Ok t) (λ t. t) d
          (λ known at bytes t m r. refl) (λ t. StandsAt t place inode) takes takes (Ok tt) e
          stands (λ known at bytes t m r. refl)

      fate_is : (f : model.Fate) → fate ≡ fate_in f
          → OfMinds ready start before (λ t. model.fate_of t caller place inode ≡ f)
      fate_is f same known is bytes t m r = fate_from (model.fate_of t caller place inode) f
          (sym (says known is bytes t m r) ∙ same)

      there : OfMinds ready start before (λ t. IsThere inode (less t))
      there known is bytes t m r =
          ap is_some (change_node-apart t place.dir (touched who.now) inode
          (λ same. leaf_apart_dir t place inode r.whole r.is r.leaf (sym same)))
          ∙ node_there t place inode r.whole r.is

      -- one more step, which is the fate's
      by_fate : (B : Type 0) (f : model.Fate) → fate ≡ fate_in f
          → (then_ready : Tree → Type 0) (second : Tree → Result Tree Fault) (result : Result B TxFault)
          → Drafting then_ready one all taken last result second → OfMinds ready start before (λ t. then_ready (less t))
          → ((t : Tree) → second (less t) ≡ Ok (model.with_fate f (take_entry t caller.now place) caller place inode))
          → Drafting ready start all before last result loses
      unfolding model.remove_entry
      by_fate B f same then_ready second result s may is =
          steps-then ready start one all before taken last tt takes less took (λ known at bytes t m r. refl) then_ready
          second loses result s may
          (λ known at bytes t m r. is t ∙ ap
          (λ (g : model.Fate). (let left : Result Tree Fault =
          Ok (model.with_fate g (take_entry t caller.now place) caller place inode) in left))
          (sym (fate_is f same known at bytes t m r)))

      now_is : who.now ≡ caller.now
      now_is = sym is_for.now

      pub loss-linked : (B : Type 0) (result : Result B TxFault) → fate ≡ Linked
          → Drafting (IsThere inode) one all taken last result (λ t. Ok (change_node t inode (status_changed who.now)))
          → Drafting ready start all before last result loses
      loss-linked B result same s = by_fate B model.Linked same (IsThere inode)
          (λ t. Ok (change_node t inode (status_changed who.now))) result s there
          (λ t. ap (λ (n : ℕ). (let left : Result Tree Fault =
          Ok (change_node (take_entry t n place) inode (status_changed n)) in left)) now_is)

      pub loss-sustained : (B : Type 0) (result : Result B TxFault) → fate ≡ Sustained
          → Drafting (IsThere inode) one all taken last result (λ t. Ok (model.sustained_by t caller inode))
          → Drafting ready start all before last result loses
      loss-sustained B result same s = by_fate B model.Sustained same (IsThere inode)
          (λ t. Ok (model.sustained_by t caller inode)) result s there
          (λ t. ap (λ (n : ℕ). (let left : Result Tree Fault =
          Ok (model.sustained_by (take_entry t n place) caller inode) in left)) now_is)

      pub loss-dropped : (B : Type 0) (result : Result B TxFault) → fate ≡ Dropped
          → Drafting (λ t. MayGo t inode) one all taken last result (λ t. Ok (drop_node t inode))
          → Drafting ready start all before last result loses
      loss-dropped B result same s = by_fate B model.Dropped same (λ t. MayGo t inode) (λ t. Ok (drop_node t inode))
          result s
          (λ known is bytes t m r. leaf_goes t place inode r.whole r.is who.now r.leaf (one_entry t place inode r.is
          (few_dropped (nat_lt 1 (entry_count t inode)) (nat_lt 0 t.setting.trash_days && not (in_trash place.dir))
          (is_among inode caller.held) (fate_is model.Dropped same known is bytes t m r))))
          (λ t. ap (λ (n : ℕ). (let left : Result Tree Fault = Ok (drop_node (take_entry t n place) inode) in left))
          now_is)

      entry_name : OfMinds ready start before (λ t. IsTrue (is_entry_name place.name))
      entry_name known is bytes t m r =
          let u = tree_of bytes (drafted start known) in
          let named : get u.entries place ≡ Some inode = ap (λ (x : Tree). get x.entries place) m.tree ∙ r.is in
          let cell = m.stored.edge place ∙ ap (option_map (λ i. Ok (OfEdge (edge_row u i)))) named in
          (m.cells (edge_key place.dir place.name) (Ok (OfEdge (edge_row u inode))) cell).key_is

      pub loss-trashed : (B : Type 0) (result : Result B TxFault) → fate ≡ Trashed
          → Drafting (λ t. IsToTrash t who.now place inode) one all taken last result
          (λ t. Ok (trashed t who.now place inode)) → Drafting ready start all before last result loses
      loss-trashed B result same s = by_fate B model.Trashed same (λ t. IsToTrash t who.now place inode)
          (λ t. Ok (trashed t who.now place inode)) result s
          (λ known is bytes t m r.
          let parts = few_trashed (nat_lt 1 (entry_count t inode))
          (nat_lt 0 t.setting.trash_days && not (in_trash place.dir)) (is_among inode caller.held)
          (fate_is model.Trashed same known is bytes t m r) in
          record {
            before = t;
            is = refl;
            whole = r.whole;
            named = r.is;
            leaf = r.leaf;
            one = one_entry t place inode r.is parts.0;
            outside = not-true (in_trash place.dir)
                (and_parts (nat_lt 0 t.setting.trash_days) (not (in_trash place.dir)) parts.1).1;
            clock = subst (λ (n : ℕ). n ≤ LAST_MOMENT) is_for.now r.clock;
            name = entry_name known is bytes t m r;
          })
          (λ t. ap (λ (n : ℕ). (let left : Result Tree Fault = Ok (trashed (take_entry t n place) n place inode) in
          left)) now_is)

      -- the fate's step fails, or ends it

      pub loss-linked-exit : fate ≡ Linked → (result : Result Fate TxFault) (fault : TxFault)
          → IsErrAnd result (λ x. x ≡ fault)
          → Drafting {A = Unit {0}} (IsThere inode) one all taken last (Err fault)
          (λ t. Ok (change_node t inode (status_changed who.now)))
          → Drafting ready start all before last result loses
      loss-linked-exit same result fault is s = drafting-exit ready start all before last loses result fault is
          (drafting-err ready start all before last loses fault (loss-linked (Unit {0}) (Err fault) same s))

      pub loss-linked-made : fate ≡ Linked
          → Drafting {A = Unit {0}} (IsThere inode) one all taken last (Ok tt)
          (λ t. Ok (change_node t inode (status_changed who.now)))
          → Drafting ready start all before last (Ok fate) loses
      loss-linked-made same s = step-value ready start all before last tt fate loses
          (loss-linked (Unit {0}) (Ok tt) same s)

      pub loss-sustained-exit : fate ≡ Sustained → (result : Result Fate TxFault) (fault : TxFault)
          → IsErrAnd result (λ x. x ≡ fault)
          → Drafting {A = Unit {0}} (IsThere inode) one all taken last (Err fault)
          (λ t. Ok (model.sustained_by t caller inode)) → Drafting ready start all before last result loses
      loss-sustained-exit same result fault is s = drafting-exit ready start all before last loses result fault is
          (drafting-err ready start all before last loses fault (loss-sustained (Unit {0}) (Err fault) same s))

      pub loss-sustained-made : fate ≡ Sustained
          → Drafting {A = Unit {0}} (IsThere inode) one all taken last (Ok tt)
          (λ t. Ok (model.sustained_by t caller inode)) → Drafting ready start all before last (Ok fate) loses
      loss-sustained-made same s = step-value ready start all before last tt fate loses
          (loss-sustained (Unit {0}) (Ok tt) same s)

      pub loss-dropped-exit : fate ≡ Dropped → (result : Result Fate TxFault) (fault : TxFault)
          → IsErrAnd result (λ x. x ≡ fault)
          → Drafting {A = Unit {0}} (λ t. MayGo t inode) one all taken last (Err fault) (λ t. Ok (drop_node t inode))
          → Drafting ready start all before last result loses
      loss-dropped-exit same result fault is s = drafting-exit ready start all before last loses result fault is
          (drafting-err ready start all before last loses fault (loss-dropped (Unit {0}) (Err fault) same s))

      pub loss-dropped-made : fate ≡ Dropped
          → Drafting {A = Unit {0}} (λ t. MayGo t inode) one all taken last (Ok tt) (λ t. Ok (drop_node t inode))
          → Drafting ready start all before last (Ok fate) loses
      loss-dropped-made same s = step-value ready start all before last tt fate loses
          (loss-dropped (Unit {0}) (Ok tt) same s)

      pub loss-trashed-exit : fate ≡ Trashed → (result : Result Fate TxFault) (fault : TxFault)
          → IsErrAnd result (λ x. x ≡ fault)
          → Drafting {A = Unit {0}} (λ t. IsToTrash t who.now place inode) one all taken last (Err fault)
          (λ t. Ok (trashed t who.now place inode)) → Drafting ready start all before last result loses
      loss-trashed-exit same result fault is s = drafting-exit ready start all before last loses result fault is
          (drafting-err ready start all before last loses fault (loss-trashed (Unit {0}) (Err fault) same s))

      pub loss-trashed-made : fate ≡ Trashed
          → Drafting {A = Unit {0}} (λ t. IsToTrash t who.now place inode) one all taken last (Ok tt)
          (λ t. Ok (trashed t who.now place inode)) → Drafting ready start all before last (Ok fate) loses
      loss-trashed-made same s = step-value ready start all before last tt fate loses
          (loss-trashed (Unit {0}) (Ok tt) same s)
