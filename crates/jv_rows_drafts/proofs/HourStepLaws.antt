-- How the directory of an hour comes: it is there, or its node is put and then its entry, as another small change.
use Rattle.std.proofs.Common.{◌≡◌, ℕ, ◌≤◌, true, false, List, Option, None, Some, Result, Ok, Err, refl, sym, ap, subst, ◌∙◌, true≢false, arith}
use Rattle.std.proofs.lemmas.Bool.{false≢true}
use Rattle.std.specs.Prelude.{is_some, IfSome}
use Rattle.std.specs.Option.{option_map}
use Rattle.jv_model.specs.declared.fault.Fault.{Fault}
use Rattle.jv_model.specs.declared.fault.RowFault.TheVariants.{Bad, Failed, Memory}
use Rattle.jv_model.specs.declared.fault.TxFault.{TxFault}
use Rattle.jv_model.specs.declared.fault.TxFault.TheVariants.{Refused, Moved, Rows as OfRows}
use Rattle.jv_model.specs.declared.limits.TheConstants.{LAST_MOMENT, TRASH_ROOT}
use Rattle.jv_model.specs.declared.row.Node.{Node as NodeRow}
use Rattle.jv_model.specs.declared.row.Row.TheVariants.{OfNode}
use Rattle.jv_model.specs.promise.FiniteMap.{get, insert}
use Rattle.jv_model.specs.promise.rows.RowGrammar.{is_node}
use Rattle.jv_model.specs.promise.rows.RowKeys.{RowMap}
use Rattle.jv_model.specs.promise.rows.RowPlaces.{node_key}
use Rattle.jv_model.specs.promise.tree.Changes.{put_node}
use Rattle.jv_model.specs.promise.tree.HourNames.{hour_at, hour_name}
use Rattle.jv_model.specs.promise.tree.Trash.{hour_inode, hour_place, with_hour}
use Rattle.jv_model.specs.promise.tree.Tree.{Tree, Node, node_at, parent_of}
use Rattle.jv_outside.specs.declared.batch.Change.{Change}
use Rattle.jv_outside.specs.promise.Store.{Store}
use Rattle.jv_rows.specs.Drafts.{drafted, cell, Sees, Needs}
use Rattle.jv_rows.specs.Transactions.{FaultCause, BadFault}
use Rattle.jv_volume.specs.promise.TypedRows.{Cell, typed}
use Rattle.jv_volume.specs.promise.Views.{node_row_at}
use Rattle.jv_volume.specs.promise.TreeOf.{node_of_row}
use Rattle.jv_volume.proofs.names.HourNameLaws.{last_hour}
use Rattle.jv_volume.proofs.maps.SeenLaws.{node-seen}
use Rattle.jv_volume.proofs.stored.StoredLaws.{of_node}
use Rattle.jv_volume.proofs.stored.TreeOfLaws.{node_at-tree_of}
use Rattle.jv_rows_drafts.specs.Drafting.{Minds, AreRows, Led, LeadsTo, Drafting}
use Rattle.jv_rows_drafts.specs.Ready.{MayHaveHour, MayStandAt, hour_row, entry_put}
use Rattle.jv_rows_drafts.proofs.DraftedLaws.{Drafted, are_rows-put, Stays, stays-needs, stays-sees, stays-then, seen-stands, drafting-lacking, drafting-made}
use Rattle.jv_rows_drafts.proofs.GoingLaws.{OfTree, minds-rows, minds-of_rows}
use Rattle.jv_rows_drafts.proofs.HourLaws.{hour_dir, with_hour-there, hour_may_stand, hour_entered, rows-hour}

-- ---- a small change after others

-- a drafted tree from which another step goes on as the model's does
pub record GoesOn (known : RowMap) (changes : List Change) (bytes : ℕ → ℕ → ℕ) (ready : Tree → Type 0)
    (step : Tree → Result Tree Fault) (model : Result Tree Fault) : Type 0 where
  pub then : Tree
  pub minds : Minds known changes bytes then
  pub is_ready : ready then
  pub same : step then ≡ model

as_fault : (A B : Type 0) (fault : TxFault) (known : RowMap) (changes : List Change) (bytes : ℕ → ℕ → ℕ)
    (model : Result Tree Fault)
    → LeadsTo {A = B} known changes bytes (Err fault) model → LeadsTo {A = A} known changes bytes (Err fault) model
as_fault A B (Refused fault) known changes bytes model h = h
as_fault A B (Moved list) known changes bytes model h = h
as_fault A B (OfRows (Bad at bad)) known changes bytes model h = h
as_fault A B (OfRows Failed) known changes bytes model h = tt
as_fault A B (OfRows Memory) known changes bytes model h = tt

module _ {A B : Type 0} (ready next_ready : Tree → Type 0) (was one now : List Change) (before middle after : Store)
    (p : Stays before middle)
    (step next : Tree → Result Tree Fault) (formed : AreRows was → AreRows one)
    (on : (known : RowMap) → before.rows ≡ Some known → (bytes : ℕ → ℕ → ℕ) (t : Tree) → Minds known was bytes t
    → ready t
    → GoesOn known one bytes next_ready next (step t)) where
  -- it fails, and all fails
  pub drafting-then_fails : (fault : TxFault) → Drafting {A = B} next_ready one now middle after (Err fault) next
      → Drafting {A = A} ready was now before after (Err fault) step
  drafting-then_fails fault d = record {
    rows_are = d.rows_are ∙ p.rows_are;
    opened_at = d.opened_at ∙ p.opened_at;
    counts = subst (λ n. FaultCause n after.faults fault) p.calm d.counts;
    formed = λ are. tt;
    leads = λ known is bytes t m is_ready. (let g = on known is bytes t m is_ready in
        subst (LeadsTo {A = A} known now bytes (Err fault)) g.same
        (as_fault A B fault known now bytes (next g.then)
        (d.leads known (p.rows_are ∙ is) bytes g.then g.minds g.is_ready)));
    bad = λ are. subst (λ o. IfSome o (λ known. BadFault (typed known) fault)) p.rows_are (d.bad (formed are));
  }

  -- it is made, and so is all
  pub drafting-then_made : (y : B) (x : A) → Drafting {A = B} next_ready one now middle after (Ok y) next
      → Drafting {A = A} ready was now before after (Ok x) step
  drafting-then_made y x d = record {
    rows_are = d.rows_are ∙ p.rows_are;
    opened_at = d.opened_at ∙ p.opened_at;
    counts = d.counts ∙ p.calm;
    formed = λ are. d.formed (formed are);
    leads = λ known is bytes t m is_ready. (let g = on known is bytes t m is_ready in
        subst (Led known now bytes) g.same (d.leads known (p.rows_are ∙ is) bytes g.then g.minds g.is_ready));
    bad = λ are. tt;
  }

-- ---- the directory of an hour

-- the hour's step, and that of its entry
abbrev pub HasHour : ℕ → ℕ → List Change → List Change → Store → Store → Result ℕ TxFault → Type 0
HasHour now hour was last before after result =
    Drafting {A = ℕ} (λ t. MayHaveHour t hour) was last before after result (λ t. Ok (with_hour t now hour))

abbrev pub HasEntry : ℕ → List ℕ → ℕ → List Change → List Change → Store → Store → Result (Unit {0}) TxFault → Type 0
HasEntry now name inode one last middle after result =
    Drafting {A = Unit {0}} (λ u. MayStandAt u (record { dir = TRASH_ROOT; name = name }) inode) one last middle after
    result
    (entry_put now (record { dir = TRASH_ROOT; name = name }) inode)

-- the hour of a moment
pub hour_low : (now seconds : ℕ) → seconds ≡ now → seconds ≤ LAST_MOMENT → hour_at now ≤ last_hour
hour_low now seconds same limit = omega arith

module _ (before middle : Store) (was : List Change) (now hour : ℕ) (low : hour ≤ last_hour) (found : Option NodeRow)
    (node : Sees OfNode is_node (node_key (hour_inode hour)) was before middle (Ok found)) where
  abbrev inode : ℕ
  inode = hour_inode hour

  abbrev ready : Tree → Type 0
  ready t = MayHaveHour t hour

  abbrev may_stand : Tree → Type 0
  may_stand u = MayStandAt u (hour_place hour) (hour_inode hour)

  abbrev step : Tree → Result Tree Fault
  step t = Ok (with_hour t now hour)

  abbrev put_step : Tree → Result Tree Fault
  put_step = entry_put now (hour_place hour) (hour_inode hour)

  stays : Stays before middle
  stays = stays-sees OfNode is_node (node_key inode) was before middle found node

  row_is : (known : RowMap) → before.rows ≡ Some known → node_row_at (drafted was known) (hour_inode hour) ≡ found
  row_is known is = node-seen (drafted was known) inode found
      (as_cell found (seen-stands OfNode is_node (node_key inode) was before middle found node known is))
    where
      as_cell : (o : Option NodeRow) → get (drafted was known) (node_key (hour_inode hour)) ≡ cell OfNode o
          → get (drafted was known) (node_key (hour_inode hour)) ≡ option_map of_node o
      as_cell o e = e

  -- the node of the row that was read
  node_is : (o : Option NodeRow) → found ≡ o → (known : RowMap) → before.rows ≡ Some known
      → (bytes : ℕ → ℕ → ℕ) (t : Tree) → Minds known was bytes t
      → node_at t (hour_inode hour) ≡ option_map (node_of_row (bytes (hour_inode hour))) o
  node_is o same known is bytes t m =
      ap (λ (u : Tree). node_at u inode) (sym m.tree) ∙ node_at-tree_of bytes (drafted was known) inode
      ∙ ap (option_map (node_of_row (bytes inode))) (row_is known is ∙ same)

  -- it is there
  pub hour-there : is_some found ≡ true → HasHour now hour was was before middle (Ok (hour_inode hour))
  hour-there there = drafting-made {A = ℕ} ready was was before middle stays step inode (λ are. are)
      (λ known is bytes t m may. record
      { left = t; is = ap (λ (u : Tree). Ok u) (same found refl there known is bytes t m); minds = m })
    where
      same : (o : Option NodeRow) → found ≡ o → is_some o ≡ true → (known : RowMap) → before.rows ≡ Some known
          → (bytes : ℕ → ℕ → ℕ) (t : Tree)
          → Minds known was bytes t → with_hour t now hour ≡ t
      same None is_none some known is bytes t m = absurd (false≢true some)
      same (Some row) is_row some known is bytes t m =
          with_hour-there t now hour (node_of_row (bytes inode) row) (node_is (Some row) is_row known is bytes t m)

  -- the trash is there where an hour may come
  trash-there : (known : RowMap) (bytes : ℕ → ℕ → ℕ) (t : Tree) → Minds known was bytes t → MayHaveHour t hour
      → is_some (get (drafted was known) (node_key TRASH_ROOT)) ≡ true
  trash-there known bytes t m may = there (get (drafted was known) (node_key TRASH_ROOT)) refl
    where
      there : (o : Option Cell) → get (drafted was known) (node_key TRASH_ROOT) ≡ o → is_some o ≡ true
      there (Some row) is = refl
      there None is =
          let none : node_at t TRASH_ROOT ≡ None =
          ap (λ (u : Tree). node_at u TRASH_ROOT) (sym m.tree) ∙ node_at-tree_of bytes (drafted was known) TRASH_ROOT
          ∙ ap (option_map (node_of_row (bytes TRASH_ROOT))) (node-seen (drafted was known) TRASH_ROOT None is) in
          absurd (true≢false (sym may.trash ∙ ap (λ (o : Option Node). is_some (parent_of o)) none))

  -- it wasn't read
  pub hour-lacking : (after : Store) (fault : TxFault)
      → Needs OfNode is_node (node_key TRASH_ROOT) was middle after (Err fault)
      → HasHour now hour was was before after (Err fault)
  hour-lacking after fault trash = drafting-lacking {A = ℕ} ready was was before middle stays step OfNode is_node
      (node_key TRASH_ROOT) after fault refl trash-there trash

  module _ (none : is_some found ≡ false) (seen : Store) (trash_row : NodeRow)
      (trash : Needs OfNode is_node (node_key TRASH_ROOT) was middle seen (Ok trash_row)) (one : List Change)
      (put : Drafted (node_key (hour_inode hour)) (Some (of_node (hour_row now))) was one) where
    stays_on : Stays before seen
    stays_on = stays-then before middle seen stays
        (stays-needs OfNode is_node (node_key TRASH_ROOT) was middle seen trash_row trash)

    formed : AreRows was → AreRows one
    formed are = are_rows-put (node_key inode) was one (OfNode (hour_row now)) put are

    absent : (o : Option NodeRow) → is_some o ≡ false → o ≡ None
    absent None e = refl
    absent (Some row) e = absurd (true≢false e)

    on : (known : RowMap) → before.rows ≡ Some known → (bytes : ℕ → ℕ → ℕ) (t : Tree) → Minds known was bytes t
        → ready t
        → GoesOn known one bytes may_stand put_step (step t)
    on known is bytes t m may =
        let rows = drafted was known in
        let rows_then = insert rows (node_key inode) (of_node (hour_row now)) in
        let own = minds-rows known was bytes t m in
        let gone = absent found none in
        let no_node = node_is None gone known is bytes t m in
        let left = rows-hour (typed known) rows bytes now hour
        (record { tree = refl; stored = own.stored; sound = own.sound })
        (subst (λ (u : Tree). MayHaveHour u hour) (sym m.tree) may) low (row_is known is ∙ gone) in
        record {
          then = put_node t inode (hour_dir now);
          minds = minds-of_rows known one bytes (put_node t inode (hour_dir now)) rows_then (put known)
              (subst (λ (u : Tree). OfTree (typed known) rows_then bytes (put_node u inode (hour_dir now))) m.tree
              left);
          is_ready = hour_may_stand t now hour may low no_node;
          same = hour_entered t now hour may low no_node;
        }

    -- its entry isn't put
    pub hour-fails : (after : Store) (last : List Change) (fault : TxFault)
        → HasEntry now (hour_name hour) (hour_inode hour) one last seen after (Err fault)
        → HasHour now hour was last before after (Err fault)
    hour-fails after last fault d =
        drafting-then_fails {A = ℕ} {B = Unit {0}} ready may_stand was one last before seen after stays_on step put_step
        formed on fault d

    -- it comes
    pub hour-comes : (after : Store) (last : List Change)
        → HasEntry now (hour_name hour) (hour_inode hour) one last seen after (Ok tt)
        → HasHour now hour was last before after (Ok (hour_inode hour))
    hour-comes after last d =
        drafting-then_made {A = ℕ} {B = Unit {0}} ready may_stand was one last before seen after stays_on step put_step
        formed on tt inode d

-- ---- the same, of what was read and put by other names

module _ (before middle : Store) (was : List Change) (now hour : ℕ) (low : hour ≤ last_hour) (found : Option NodeRow)
    (given : ℕ)
    (given_is : given ≡ hour_inode hour) (read : Sees OfNode is_node (node_key given) was before middle (Ok found))
  where
    read_hour : Sees OfNode is_node (node_key (hour_inode hour)) was before middle (Ok found)
    read_hour = subst (λ i. Sees OfNode is_node (node_key i) was before middle (Ok found)) given_is read

    pub enter_hour-there : is_some found ≡ true → HasHour now hour was was before middle (Ok given)
    enter_hour-there there =
        subst (λ i. HasHour now hour was was before middle (Ok i)) (sym given_is)
        (hour-there before middle was now hour low found read_hour there)

    pub enter_hour-lacking : (after : Store) (fault : TxFault)
        → Needs OfNode is_node (node_key TRASH_ROOT) was middle after (Err fault)
        → HasHour now hour was was before after (Err fault)
    enter_hour-lacking after fault trash = hour-lacking before middle was now hour low found read_hour after fault trash

    module _ (none : is_some found ≡ false) (seen : Store) (trash_row : NodeRow)
        (trash : Needs OfNode is_node (node_key TRASH_ROOT) was middle seen (Ok trash_row))
        (one : List Change) (row : NodeRow) (row_of : row ≡ hour_row now)
        (put : Drafted (node_key given) (Some (of_node row)) was one) (name : List ℕ) (name_is : name ≡ hour_name hour)
        (after : Store) (last : List Change) where
      put_hour : Drafted (node_key (hour_inode hour)) (Some (of_node (hour_row now))) was one
      put_hour = subst (λ i. Drafted (node_key i) (Some (of_node (hour_row now))) was one) given_is
          (subst (λ (r : NodeRow). Drafted (node_key given) (Some (of_node r)) was one) row_of put)

      as_hour : (result : Result (Unit {0}) TxFault) → HasEntry now name given one last seen after result
          → HasEntry now (hour_name hour) (hour_inode hour) one last seen after result
      as_hour result d = subst (λ i. HasEntry now (hour_name hour) i one last seen after result) given_is
          (subst (λ text. HasEntry now text given one last seen after result) name_is d)

      pub enter_hour-fails : (fault : TxFault) → HasEntry now name given one last seen after (Err fault)
          → HasHour now hour was last before after (Err fault)
      enter_hour-fails fault d = hour-fails before middle was now hour low found read_hour none seen trash_row trash one
          put_hour after last fault (as_hour (Err fault) d)

      pub enter_hour-comes : HasEntry now name given one last seen after (Ok tt)
          → HasHour now hour was last before after (Ok given)
      enter_hour-comes d = subst (λ i. HasHour now hour was last before after (Ok i)) (sym given_is)
          (hour-comes before middle was now hour low found read_hour none seen trash_row trash one put_hour after last
          (as_hour (Ok tt) d))
