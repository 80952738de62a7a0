-- Drafted rows are those of the model's tree again once a node has gone, or a session keeps a file.
use Rattle.std.proofs.Common.{◌≡◌, ℕ, ◌-◌, ◌<◌, ◌^◌, Bool, true, false, List, Option, None, Some, Ok, Err, refl, sym, ap, subst, ◌∙◌, arith, true≢false}
use Rattle.std.specs.Prelude.{◌==◌, if◌then◌else◌, is_some}
use Rattle.std.proofs.lemmas.Bool.{eq-eqb}
use Rattle.jv_model.specs.declared.limits.TheConstants.{SPACE_UNIT}
use Rattle.jv_model.specs.declared.row.Counters.{Counters}
use Rattle.jv_model.specs.declared.row.Node.{Node as NodeRow}
use Rattle.jv_model.specs.declared.row.Row.TheVariants.{OfCounters, OfSustained, OfDropped}
use Rattle.jv_model.specs.declared.row.RowKey.{RowKey}
use Rattle.jv_model.specs.promise.FiniteMap.{get, insert, remove}
use Rattle.jv_model.specs.declared.fault.TxFault.{TxFault}
use Rattle.jv_model.specs.promise.rows.RowGrammar.{is_counters}
use Rattle.jv_model.specs.promise.rows.RowKeys.{row_key, RowMap}
use Rattle.jv_model.specs.promise.rows.RowPlaces.{counters_key, node_key, sustained_key, dropped_key}
use Rattle.jv_model.specs.promise.tree.Changes.{drop_node, content_of}
use Rattle.jv_model.specs.promise.tree.Tree.{Tree, File, Directory, Symlink, paged, kind_space, node_space, node_count, is_counted}
use Rattle.jv_outside.specs.declared.batch.Change.{Change}
use Rattle.jv_outside.specs.promise.Store.{Store}
use Rattle.jv_rows.specs.Drafts.{drafted, Needs}
use Rattle.jv_rows.specs.Transactions.{Always}
use Rattle.jv_rows.proofs.walks.WalkLaws.{of_top}
use Rattle.jv_volume.specs.promise.TypedRows.{Cell, Rows, typed}
use Rattle.jv_volume.specs.promise.Views.{row_in, counters_in, counters_at, node_row_at}
use Rattle.jv_volume.specs.promise.TreeOf.{counters_of_rows, node_of_row, kind_of, tree_of}
use Rattle.jv_volume.specs.promise.Shape.{is_top}
use Rattle.jv_volume.specs.promise.Stored.{Stored}
use Rattle.jv_volume.specs.promise.Whole.{IsRowAt}
use Rattle.jv_volume.specs.Whole.{file_length}
use Rattle.jv_volume.proofs.stored.FileStepLaws.{files-other, files-drop_other, files-put_counters, files-drop_file}
use Rattle.jv_volume.proofs.maps.MapLaws.{alter-swap}
use Rattle.jv_volume.proofs.stored.QuietLaws.{quiet-alter, quiet-drop_file, quiet-drop_other, quiet-put_counters}
use Rattle.jv_volume.proofs.maps.SeenLaws.{AreRows, node-seen, counters-seen, row-put, rows-alter}
use Rattle.jv_volume.proofs.stored.StoredLaws.{of_node, of_counters}
use Rattle.jv_volume.proofs.stored.StoredStepLaws.{rows_without_node, tree_of-old_node, stored-old_node, alter_kept}
use Rattle.jv_volume.proofs.stored.TableStepLaws.{stored-put_sustained, stored-unseen}
use Rattle.jv_volume.proofs.stored.TreeOfLaws.{next_inode-tree_of, tree_of-insert-unseen, tree_of-put_sustained}
use Rattle.jv_rows_drafts.specs.Drafting.{KeepsLengths, Minds, AreRows as AreRowsInMind, Led, Drafting}
use Rattle.jv_rows_drafts.specs.Lowered.{space_taken, lowered, with_dropped, with_lowered}
use Rattle.jv_rows_drafts.specs.Present.{Presents}
use Rattle.jv_rows_drafts.specs.Ready.{MayGo, sustaining}
use Rattle.jv_rows_drafts.proofs.DraftedLaws.{Drafted, are_rows-put, are_rows-drop, spare-node, Stays, stays-none, stays-then, stays-needs, needed-stands, drafting-lacking, drafting-made}
use Rattle.jv_rows_drafts.proofs.LengthLaws.{lengths-alter, lengths-drop_node}
use Rattle.jv_rows_drafts.proofs.PresentLaws.{stays-present, drafting-absent, Sound, sound-minds, minds-sound}
use Rattle.jv_model.proofs.TestLaws.{of_known}

-- ---- rows of a tree that is about to change

-- rows that are a tree's, and leave lists and slices of those at the start alone
pub record OfTree (start rows : Rows) (bytes : ℕ → ℕ → ℕ) (t : Tree) : Type 0 where
  pub tree : tree_of bytes rows ≡ t
  pub stored : Stored rows (tree_of bytes rows)
  pub sound : Sound start rows

pub minds-rows : (known : RowMap) (changes : List Change) (bytes : ℕ → ℕ → ℕ) (t : Tree) → Minds known changes bytes t
    → OfTree (typed known) (drafted changes known) bytes t
minds-rows known changes bytes t m =
    record { tree = m.tree; stored = m.stored; sound = sound-minds known changes bytes t m }

pub minds-of_rows : (known : RowMap) (changes : List Change) (bytes : ℕ → ℕ → ℕ) (t : Tree) (rows : Rows)
    → drafted changes known ≡ rows
    → OfTree (typed known) rows bytes t → Minds known changes bytes t
minds-of_rows known changes bytes t rows is o = minds-sound known changes bytes t rows o.sound is o.tree o.stored

-- ---- a session keeps a file

pub rows-sustained : (start rows : Rows) (bytes : ℕ → ℕ → ℕ) (t : Tree) (sid inode : ℕ) → inode < 2 ^ 64
    → OfTree start rows bytes t
    → OfTree start (insert rows (sustained_key sid inode) (Ok OfSustained)) bytes (sustaining sid inode t)
rows-sustained start rows bytes t sid inode low m =
    let q = sustained_key sid inode in
    let cell : Option Cell = Some (Ok OfSustained) in
    record {
      tree = tree_of-put_sustained bytes rows sid inode low ∙ ap (sustaining sid inode) m.tree;
      stored = stored-put_sustained bytes rows sid inode low m.stored;
      sound = record {
        cells = rows-alter rows q cell m.sound.cells
            (λ x. row-put q (Ok OfSustained) x (record { key_is = refl; cell_is = refl; hour = refl }));
        files = files-other rows q cell m.sound.files refl refl refl refl;
        quiet = quiet-alter start rows m.sound.quiet q cell refl refl refl refl;
        lengths = lengths-alter start rows m.sound.lengths q cell refl;
      };
    }

-- ---- a node goes

space_is : (byte : ℕ → ℕ) (row : NodeRow) → kind_space (kind_of byte row) ≡ space_taken row
space_is byte row = by_kind (row.kind == 1) (row.kind == 2)
  where
    by_kind : (b c : Bool) → kind_space (if b then File (content_of row.length byte) else if c then Directory row.parent
        else Symlink row.target)
        ≡ (if b then paged row.length else SPACE_UNIT)
    by_kind true c = refl
    by_kind false true = refl
    by_kind false false = refl

lowered_is : (byte : ℕ → ℕ) (inode : ℕ) (row : NodeRow) (c : Counters) → is_counted inode ≡ true
    → record c {
      used_space = c.used_space - node_space inode (node_of_row byte row);
      used_inodes =
          c.used_inodes - node_count inode (node_of_row byte row);
    }
    ≡ lowered row c
lowered_is byte inode row c counted =
    (λ i. record c {
      used_space = c.used_space - (if counted i then kind_space (kind_of byte row) else 0);
      used_inodes = c.used_inodes - (if counted i then 1 else 0);
    })
    ∙ ap (λ n. record c { used_space = c.used_space - n; used_inodes = c.used_inodes - 1 }) (space_is byte row)

module _ (start rows : Rows) (bytes : ℕ → ℕ → ℕ) (inode : ℕ) (row : NodeRow) (c : Counters)
    (m : OfTree start rows bytes (tree_of bytes rows))
    (there : get rows (node_key inode) ≡ Some (of_node row)) (counters : get rows counters_key ≡ Some (of_counters c))
    (may : MayGo (tree_of bytes rows) inode) where
  abbrev without_row : Rows
  without_row = remove rows (node_key inode)

  abbrev left : Counters
  left = lowered row c

  abbrev length_cell : Cell
  length_cell = Ok (OfDropped (record { length = row.length }))

  node_is : node_row_at rows inode ≡ Some row
  node_is = node-seen rows inode (Some row) there

  counters_are : counters_at rows ≡ Some c
  counters_are = counters-seen rows (Some c) counters

  given : inode < (counters_of_rows rows).inode
  given = subst (λ n. inode < n) (next_inode-tree_of bytes rows) may.given

  -- the counters put after the node went
  abbrev lowered_rows : Rows
  lowered_rows = insert without_row counters_key (of_counters left)

  same_rows : rows_without_node bytes rows inode row c m.stored counters_are node_is may.unnamed ≡ lowered_rows
  same_rows = ap (λ (x : Counters). insert without_row counters_key (of_counters x))
      (lowered_is (bytes inode) inode row c may.counted)

  lowered_tree : tree_of bytes lowered_rows ≡ drop_node (tree_of bytes rows) inode
  lowered_tree = ap (tree_of bytes) (sym same_rows)
      ∙ tree_of-old_node bytes rows inode row c m.stored counters_are node_is may.unnamed

  lowered_stored : Stored lowered_rows (tree_of bytes lowered_rows)
  lowered_stored = subst (λ (r : Rows). Stored r (tree_of bytes r)) same_rows
      (stored-old_node bytes rows inode row c m.stored counters_are node_is may.unnamed)

  counters_stay : counters_at without_row ≡ Some c
  counters_stay = ap (λ o. counters_in (row_in o)) (alter_kept rows (node_key inode) None counters_key refl)
      ∙ counters_are

  cells_without : AreRows without_row
  cells_without = rows-alter rows (node_key inode) None m.sound.cells (λ x e. absurd (cc))

  counters_typed : (x : Cell) → ◌≡◌ {A = Option Cell} (Some (of_counters left)) (Some x) → IsRowAt counters_key x
  counters_typed x = row-put counters_key (of_counters left) x (record { key_is = refl; cell_is = refl; hour = refl })

  length_typed : (x : Cell) → ◌≡◌ {A = Option Cell} (Some length_cell) (Some x) → IsRowAt (dropped_key inode) x
  length_typed x = row-put (dropped_key inode) length_cell x (record { key_is = refl; cell_is = refl; hour = refl })

  same_length : file_length (Some row) ≡ file_length (node_row_at start inode)
  same_length = m.sound.lengths inode row node_is

  lengths_without : KeepsLengths start without_row
  lengths_without = lengths-drop_node start rows m.sound.lengths inode

  -- a directory or a symlink
  other_gone : (row.kind == 1) ≡ false → OfTree start lowered_rows bytes (drop_node (tree_of bytes rows) inode)
  other_gone other = record {
    tree = lowered_tree;
    stored = lowered_stored;
    sound = record {
      cells = rows-alter without_row counters_key (Some (of_counters left)) cells_without counters_typed;
      files = files-put_counters without_row c left
          (files-drop_other rows inode row m.sound.files node_is
          (λ file. true≢false (sym (eq-eqb row.kind 1 file) ∙ other)))
          counters_stay refl (omega arith);
      quiet = quiet-put_counters start without_row
          (quiet-drop_other start rows m.sound.quiet inode row node_is same_length other) c left counters_stay refl;
      lengths = lengths-alter start without_row lengths_without counters_key (Some (of_counters left)) refl;
    };
  }

  -- a file
  abbrev length_left : Rows
  length_left = insert without_row (dropped_key inode) length_cell

  abbrev file_rows : Rows
  file_rows = insert length_left counters_key (of_counters left)

  swapped : insert lowered_rows (dropped_key inode) length_cell ≡ file_rows
  swapped = alter-swap row_key without_row counters_key (dropped_key inode) (Some (of_counters left)) (Some length_cell)
      (λ same. absurd (other_tab same))
    where
      other_tab : dropped_key inode ≡ counters_key → ⊥
      other_tab same = (let tabs : 8 ≡ 1 = ap (λ (q : RowKey). q.tab) same in omega (arith, tabs))

  counters_stay_left : counters_at length_left ≡ Some c
  counters_stay_left = ap (λ o. counters_in (row_in o))
      (alter_kept without_row (dropped_key inode) (Some length_cell) counters_key refl) ∙ counters_stay

  file_gone : (row.kind == 1) ≡ true → OfTree start file_rows bytes (drop_node (tree_of bytes rows) inode)
  file_gone file = record {
    tree = ap (tree_of bytes) (sym swapped)
        ∙ tree_of-insert-unseen bytes lowered_rows (dropped_key inode) length_cell refl ∙ lowered_tree;
    stored = subst (λ (r : Rows). Stored r (tree_of bytes r)) swapped
        (stored-unseen bytes lowered_rows (dropped_key inode) (Some length_cell) refl lowered_stored);
    sound = record {
      cells = rows-alter length_left counters_key (Some (of_counters left))
          (rows-alter without_row (dropped_key inode) (Some length_cell) cells_without length_typed) counters_typed;
      files = files-put_counters length_left c left
          (files-drop_file rows inode row (record { length = row.length }) m.sound.files node_is given)
          counters_stay_left refl
          (omega arith);
      quiet = quiet-put_counters start length_left
          (quiet-drop_file start rows m.sound.quiet inode row node_is same_length file) c left counters_stay_left refl;
      lengths = lengths-alter start length_left
          (lengths-alter start without_row lengths_without (dropped_key inode) (Some length_cell) refl) counters_key
          (Some (of_counters left)) refl;
    };
  }

  by_kind : (file : Bool) → (row.kind == 1) ≡ file
      → OfTree start (insert (if file then length_left else without_row) counters_key (of_counters left)) bytes
      (drop_node (tree_of bytes rows) inode)
  by_kind true is = file_gone is
  by_kind false is = other_gone is

  -- the rows that a node leaves
  pub rows-gone : OfTree start (with_lowered row c (with_dropped inode row without_row)) bytes
      (drop_node (tree_of bytes rows) inode)
  rows-gone = by_kind (row.kind == 1) refl

-- ---- the steps

-- the root and the trash are not counted
uncounted : (inode : ℕ) → is_top inode ≡ true → is_counted inode ≡ false
uncounted inode top = of_top inode top (λ i. is_counted i ≡ false) refl refl

-- a session keeps a file
pub sustain-made : (store : Store) (was now : List Change) (sid inode : ℕ) → inode < 2 ^ 64
    → Drafted (sustained_key sid inode) (Some (Ok OfSustained)) was now
    → Drafting {A = Unit {0}} Always was now store store (Ok tt) (λ t. Ok (sustaining sid inode t))
sustain-made store was now sid inode low put =
    drafting-made {A = Unit {0}} Always was now store store (stays-none store) (λ t. Ok (sustaining sid inode t)) tt
    (are_rows-put (sustained_key sid inode) was now OfSustained put)
    (λ known is bytes t m ready. record {
      left = sustaining sid inode t;
      is = refl;
      minds = minds-of_rows known now bytes (sustaining sid inode t)
          (insert (drafted was known) (sustained_key sid inode) (Ok OfSustained)) (put known)
          (rows-sustained (typed known) (drafted was known) bytes t sid inode low (minds-rows known was bytes t m));
    })

are_rows-same : (was now : List Change) → ((known : RowMap) → drafted now known ≡ drafted was known) → AreRowsInMind was
    → AreRowsInMind now
are_rows-same was now same are = record {
  spelled = λ known key bytes is. are.spelled known key bytes
      (ap (λ (rows : Rows). get rows key) (sym (same known)) ∙ is);
  needed = λ known key need is. are.needed known key need (ap (λ (rows : Rows). get rows key) (sym (same known)) ∙ is);
}

are_rows-dropped : (was now : List Change) (inode length : ℕ) (file : Bool)
    → ((known : RowMap) → drafted now known
    ≡ (if file then insert (drafted was known) (dropped_key inode) (Ok (OfDropped (record { length = length })))
    else drafted was known))
    → AreRowsInMind was → AreRowsInMind now
are_rows-dropped was now inode length true put are = are_rows-put (dropped_key inode) was now
    (OfDropped (record { length = length })) put are
are_rows-dropped was now inode length false same are = are_rows-same was now same are

-- the node wasn't read
pub drop-absent : (before after : Store) (was : List Change) (inode : ℕ) (fault : TxFault)
    → Presents inode was before after (Err fault)
    → Drafting {A = Unit {0}} (λ t. MayGo t inode) was was before after (Err fault) (λ t. Ok (drop_node t inode))
drop-absent before after was inode fault absent =
    drafting-absent inode was before after {A = Unit {0}} (λ t. MayGo t inode) was before (stays-none before)
    (λ t. Ok (drop_node t inode))
    (λ t may. may.there) fault absent

module _ (before middle : Store) (was : List Change) (inode : ℕ) (row : NodeRow)
    (node : Presents inode was before middle (Ok row)) where
  stays : Stays before middle
  stays = stays-present inode was before middle row node

  -- the counters weren't read
  pub drop-unread : (after : Store) (fault : TxFault)
      → Needs OfCounters is_counters counters_key was middle after (Err fault)
      → Drafting {A = Unit {0}} (λ t. MayGo t inode) was was before after (Err fault) (λ t. Ok (drop_node t inode))
  drop-unread after fault counters =
      drafting-lacking (λ t. MayGo t inode) was was before middle stays (λ t. Ok (drop_node t inode)) OfCounters
      is_counters counters_key after fault refl
      (λ known bytes t m may. ap is_some m.stored.counters) counters

  module _ (low : is_top inode ≡ false) (after : Store) (one two now : List Change) (c : Counters)
      (read : Needs OfCounters is_counters counters_key was middle after (Ok c))
      (gone : Drafted (node_key inode) None was one) (dropped : (known : RowMap)
      → drafted two known ≡ with_dropped inode row (drafted one known))
      (counted : Drafted counters_key (Some (of_counters (lowered row c))) two now) where
    led : (known : RowMap) → before.rows ≡ Some known → (bytes : ℕ → ℕ → ℕ) (t : Tree) → Minds known was bytes t
        → MayGo t inode
        → Led known now bytes (Ok (drop_node t inode))
    led known is bytes t m may =
        let rows = drafted was known in
        let gone_rows = with_lowered row c (with_dropped inode row (remove rows (node_key inode))) in
        let own = minds-rows known was bytes t m in
        let same = m.tree in
        let there = of_known (λ k. get (drafted was k) (node_key inode) ≡ Some (of_node row)) before.rows known is
        node.found in
        let seen = needed-stands OfCounters is_counters counters_key was middle after c read known
        (node.rows_are ∙ is) in
        let left = rows-gone (typed known) rows bytes inode row c
        (record { tree = refl; stored = own.stored; sound = own.sound }) there seen
        (subst (λ (u : Tree). MayGo u inode) (sym same) may) in
        record {
          left = drop_node t inode;
          is = refl;
          minds = minds-of_rows known now bytes (drop_node t inode) gone_rows
              (counted known ∙ ap (with_lowered row c) (dropped known ∙ ap (with_dropped inode row) (gone known)))
              (subst (λ (u : Tree). OfTree (typed known) gone_rows bytes (drop_node u inode)) same left);
        }

    -- a node went
    pub drop-made : Drafting {A = Unit {0}} (λ t. MayGo t inode) was now before after (Ok tt)
        (λ t. Ok (drop_node t inode))
    drop-made = drafting-made {A = Unit {0}} (λ t. MayGo t inode) was now before after
        (stays-then before middle after stays (stays-needs OfCounters is_counters counters_key was middle after c read))
        (λ t. Ok (drop_node t inode)) tt
        (λ are. are_rows-put counters_key two now (OfCounters (lowered row c)) counted
        (are_rows-dropped one two inode row.length (row.kind == 1) dropped
        (are_rows-drop (node_key inode) was one (spare-node inode low) gone are)))
        led
