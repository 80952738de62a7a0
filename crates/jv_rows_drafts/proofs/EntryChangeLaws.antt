-- An entry that comes or goes among drafted rows, by the rows of its directory and its inode.
use Rattle.std.proofs.Common.{◌≡◌, ◌≢◌, ℕ, ◌+◌, ◌-◌, ◌<◌, ◌≤◌, true, false, List, Option, None, Some, Result, Ok, Err, refl, sym, ap, subst, ◌∙◌, eqb-true}
use Rattle.std.proofs.lemmas.Bool.{le-leb, lt-leb}
use Rattle.std.proofs.Math.Bool.{and-false}
use Rattle.std.specs.Prelude.{◌&&◌, nat_le, is_some, IsTrue}
use Rattle.jv_model.specs.declared.limits.TheConstants.{MAX_LINKS}
use Rattle.jv_model.specs.declared.fault.Fault.{Fault}
use Rattle.jv_model.specs.declared.fault.Fault.TheVariants.{NoSpace}
use Rattle.jv_model.specs.declared.fault.TxFault.{TxFault}
use Rattle.jv_model.specs.declared.fault.TxFault.TheVariants.{Refused}
use Rattle.jv_model.specs.declared.row.Node.{Node as NodeRow}
use Rattle.jv_model.specs.declared.row.Edge.{Edge}
use Rattle.jv_model.specs.declared.row.Row.TheVariants.{OfNode, OfEdge}
use Rattle.jv_model.specs.promise.FiniteMap.{get, insert}
use Rattle.jv_model.specs.FiniteMap.{alter}
use Rattle.jv_model.specs.promise.rows.RowKeys.{RowMap}
use Rattle.jv_model.specs.promise.rows.RowPlaces.{node_key, edge_key}
use Rattle.jv_model.specs.promise.tree.Attempt.{◌>>=◌, require}
use Rattle.jv_model.specs.promise.tree.Tree.{Tree, Node, EntryKey, parent_of, is_directory, link_count, links_fit, node_at}
use Rattle.jv_model.specs.promise.tree.Changes.{put_entry, take_entry}
use Rattle.jv_outside.specs.declared.batch.Change.{Change}
use Rattle.jv_outside.specs.promise.Store.{Store}
use Rattle.jv_rows.specs.Drafts.{drafted}
use Rattle.jv_volume.specs.promise.TypedRows.{Cell, Rows, is_entry_name, typed}
use Rattle.jv_volume.specs.promise.Views.{row_in, node_in, node_row_at}
use Rattle.jv_volume.specs.promise.TreeOf.{tree_of}
use Rattle.jv_volume.specs.promise.Stored.{Stored}
use Rattle.jv_volume.specs.Stored.{links_by, directory_touched}
use Rattle.jv_volume.specs.promise.Whole.{IsRowAt}
use Rattle.jv_volume.proofs.maps.SeenLaws.{row-put}
use Rattle.jv_volume.proofs.stored.StoredLaws.{HasNode, found_node}
use Rattle.jv_volume.proofs.stored.StoredStepLaws.{alter_kept, node_apart, node_here}
use Rattle.jv_volume.proofs.stored.EntryStepLaws.{rows_with_entry, tree_of-entry_in, stored-entry_in, rows_without_entry, tree_of-entry_out, stored-entry_out}
use Rattle.jv_rows_drafts.specs.Drafting.{Minds, Drafting}
use Rattle.jv_rows_drafts.specs.Present.{Presents, links_to_node, linked_row}
use Rattle.jv_rows_drafts.specs.Ready.{StandsAt, MayStandAt, entry_put, IsThere}
use Rattle.jv_rows_drafts.proofs.DraftedLaws.{Drafted, are_rows-put, are_rows-drop, Stays, stays-then, drafting-made, drafting-refused}
use Rattle.jv_rows_drafts.proofs.PresentLaws.{stays-present, present-stands, drafting-absent, Sound, sound-minds, minds-sound, sound-node, sound-edge}

-- ---- three changes of rows: an entry's, its directory's, and its inode's

module _ (rows : Rows) (at : EntryKey) (inode : ℕ) (row dir : NodeRow) (here : node_row_at rows inode ≡ Some row)
    (there : node_row_at rows at.dir ≡ Some dir)
    (apart : at.dir ≢ inode) (cell : Option Cell) where
  abbrev pub three : NodeRow → NodeRow → Rows
  three dir_after after =
      insert (insert (alter rows (edge_key at.dir at.name) cell) (node_key at.dir) (Ok (OfNode dir_after)))
      (node_key inode) (Ok (OfNode after))

  -- the directory's row is still there after the entry's change, and the inode's after both
  dir_stands : node_row_at (alter rows (edge_key at.dir at.name) cell) at.dir ≡ Some dir
  dir_stands = ap (λ c. node_in (row_in c)) (alter_kept rows (edge_key at.dir at.name) cell (node_key at.dir) refl)
      ∙ there

  node_stands : (dir_after : NodeRow)
      → node_row_at (insert (alter rows (edge_key at.dir at.name) cell) (node_key at.dir) (Ok (OfNode dir_after)))
      inode ≡ Some row
  node_stands dir_after = ap (λ c. node_in (row_in c))
      (node_apart (alter rows (edge_key at.dir at.name) cell) at.dir (Ok (OfNode dir_after)) inode
      (λ same. apart (sym same))
      ∙ alter_kept rows (edge_key at.dir at.name) cell (node_key inode) refl) ∙ here

  pub sound-three : (start : Rows) → Sound start rows
      → ((x : Cell) → cell ≡ Some x → IsRowAt (edge_key at.dir at.name) x) → (now links more : ℕ)
      → Sound start (three (directory_touched now links dir) (linked_row more row))
  sound-three start sound new now links more =
      let e1 = alter rows (edge_key at.dir at.name) cell in
      let e2 = insert e1 (node_key at.dir) (Ok (OfNode (directory_touched now links dir))) in
      sound-node start e2
      (sound-node start e1 (sound-edge start rows sound at.dir at.name cell new) at.dir dir
      (directory_touched now links dir) dir_stands refl refl refl)
      inode row (linked_row more row) (node_stands (directory_touched now links dir)) refl refl refl

-- the same three, drafted
pub three-drafted : (at : EntryKey) (inode : ℕ) (cell : Option Cell) (dir_after after : NodeRow)
    (was one two now : List Change)
    → Drafted (edge_key at.dir at.name) cell was one → Drafted (node_key at.dir) (Some (Ok (OfNode dir_after))) one two
    → Drafted (node_key inode) (Some (Ok (OfNode after))) two now → (known : RowMap) → drafted now known
    ≡ insert (insert (alter (drafted was known) (edge_key at.dir at.name) cell) (node_key at.dir)
    (Ok (OfNode dir_after))) (node_key inode) (Ok (OfNode after))
three-drafted at inode cell dir_after after was one two now first second third known =
    third known ∙ ap (λ (r : Rows). insert r (node_key inode) (Ok (OfNode after)))
    (second known ∙ ap (λ (r : Rows). insert r (node_key at.dir) (Ok (OfNode dir_after))) (first known))

-- ---- over drafted rows

module _ (known : RowMap) (was : List Change) (bytes : ℕ → ℕ → ℕ) (t : Tree) (m : Minds known was bytes t)
    (now : ℕ) (at : EntryKey) (inode : ℕ) (row dir : NodeRow)
    (here : node_row_at (drafted was known) inode ≡ Some row)
    (there : node_row_at (drafted was known) at.dir ≡ Some dir)
    (within_t : is_directory t at.dir ≡ true) (apart : at.dir ≢ inode) where
  abbrev rows : Rows
  rows = drafted was known

  within : dir.kind ≡ 2
  within =
      let has : HasNode (tree_of bytes rows) at.dir dir (bytes at.dir) =
      found_node bytes rows m.stored at.dir dir there in
      eqb-true dir.kind 2 (sym has.directory ∙ subst (λ (u : Tree). is_directory u at.dir ≡ true) (sym m.tree) within_t)

  -- an entry that goes
  module _ (named : get t.entries at ≡ Some inode) (changes : List Change)
      (is : drafted changes known ≡ three rows at inode row dir here there apart None
      (directory_touched now (dir.nlink - links_by row.kind) dir) (linked_row (row.nlink - links_to_node row.kind) row))
    where
      named_there : get (tree_of bytes rows).entries at ≡ Some inode
      named_there = subst (λ (u : Tree). get u.entries at ≡ Some inode) (sym m.tree) named

      pub minds-entry_out : Minds known changes bytes (take_entry t now at)
      minds-entry_out = minds-sound known changes bytes (take_entry t now at)
          (rows_without_entry bytes rows now at inode row dir m.stored here there within apart)
          (sound-three rows at inode row dir here there apart None (typed known) (sound-minds known was bytes t m)
          (λ x e. absurd (cc)) now
          (dir.nlink - links_by row.kind) (row.nlink - links_to_node row.kind))
          is
          (tree_of-entry_out bytes rows now at inode row dir m.stored here there within apart ∙ ap
          (λ (u : Tree). take_entry u now at) m.tree)
          (stored-entry_out bytes rows now at inode row dir m.stored here there within apart named_there)

  -- an entry that comes
  module _ (free : get t.entries at ≡ None) where
    free_there : get (tree_of bytes rows).entries at ≡ None
    free_there = subst (λ (u : Tree). get u.entries at ≡ None) (sym m.tree) free

    abbrev rows_in : Rows
    rows_in = rows_with_entry bytes rows now at inode row dir m.stored here there within apart

    tree_in : tree_of bytes rows_in ≡ put_entry t now at inode
    tree_in = tree_of-entry_in bytes rows now at inode row dir m.stored here there within apart
        ∙ ap (λ (u : Tree). put_entry u now at inode) m.tree

    stored_in : Stored rows_in (tree_of bytes rows_in)
    stored_in = stored-entry_in bytes rows now at inode row dir m.stored here there within apart free_there

    -- the links that the tree with the entry has

    abbrev edge_cell : Cell
    edge_cell = Ok (OfEdge (record { kind = row.kind; inode = inode }))

    abbrev e1 : Rows
    e1 = insert rows (edge_key at.dir at.name) edge_cell

    abbrev dir_cell : Cell
    dir_cell = Ok (OfNode (directory_touched now (dir.nlink + links_by row.kind) dir))

    abbrev e2 : Rows
    e2 = insert e1 (node_key at.dir) dir_cell

    abbrev node_cell : Cell
    node_cell = Ok (OfNode (linked_row (row.nlink + links_to_node row.kind) row))

    pub dir_links : link_count (put_entry t now at inode) at.dir ≡ dir.nlink + links_by row.kind
    dir_links =
        let has : HasNode (tree_of bytes rows_in) at.dir (directory_touched now (dir.nlink + links_by row.kind) dir)
        (bytes at.dir) =
        found_node bytes rows_in stored_in at.dir (directory_touched now (dir.nlink + links_by row.kind) dir)
        (ap (λ c. node_in (row_in c)) (node_apart e2 inode node_cell at.dir apart ∙ node_here e1 at.dir dir_cell at.dir
        refl)) in
        ap (λ (u : Tree). link_count u at.dir) (sym tree_in) ∙ sym has.links

    pub node_links : link_count (put_entry t now at inode) inode ≡ row.nlink + links_to_node row.kind
    node_links =
        let has : HasNode (tree_of bytes rows_in) inode (linked_row (row.nlink + links_to_node row.kind) row) (bytes inode) =
        found_node bytes rows_in stored_in inode (linked_row (row.nlink + links_to_node row.kind) row)
        (ap (λ c. node_in (row_in c)) (node_here e2 inode node_cell inode refl)) in
        ap (λ (u : Tree). link_count u inode) (sym tree_in) ∙ sym has.links

    pub minds-entry_in : IsTrue (is_entry_name at.name) → (changes : List Change)
        → drafted changes known ≡ three rows at inode row dir here there apart (Some edge_cell)
        (directory_touched now (dir.nlink + links_by row.kind) dir) (linked_row (row.nlink + links_to_node row.kind) row)
        → Minds known changes bytes (put_entry t now at inode)
    minds-entry_in name changes is = minds-sound known changes bytes (put_entry t now at inode) rows_in
        (sound-three rows at inode row dir here there apart (Some edge_cell) (typed known)
        (sound-minds known was bytes t m)
        (λ x. row-put (edge_key at.dir at.name) edge_cell x (record { key_is = name; cell_is = refl; hour = refl })) now
        (dir.nlink + links_by row.kind) (row.nlink + links_to_node row.kind))
        is tree_in stored_in

-- ---- whether links can be stored

fits-yes : (t : Tree) (j n : ℕ) → link_count t j ≡ n → n ≤ MAX_LINKS → links_fit t j ≡ true
fits-yes t j n links low = subst (λ k. nat_le k MAX_LINKS ≡ true) (sym links) (le-leb n MAX_LINKS low)

fits-no : (t : Tree) (j n : ℕ) → link_count t j ≡ n → MAX_LINKS < n → links_fit t j ≡ false
fits-no t j n links high = subst (λ k. nat_le k MAX_LINKS ≡ false) (sym links) (lt-leb n MAX_LINKS high)

entry_put-made : (now : ℕ) (at : EntryKey) (inode : ℕ) (t : Tree) → links_fit (put_entry t now at inode) at.dir ≡ true
    → links_fit (put_entry t now at inode) inode ≡ true
    → entry_put now at inode t ≡ Ok (put_entry t now at inode)
entry_put-made now at inode t dir node =
    let u = put_entry t now at inode in
    ap (λ b. require (b && links_fit u inode) NoSpace >>= (λ unit. Ok u)) dir
    ∙ ap (λ b. require b NoSpace >>= (λ unit. Ok u)) node

entry_put-full_dir : (now : ℕ) (at : EntryKey) (inode : ℕ) (t : Tree)
    → links_fit (put_entry t now at inode) at.dir ≡ false
    → entry_put now at inode t ≡ Err NoSpace
entry_put-full_dir now at inode t dir =
    let u = put_entry t now at inode in
    ap (λ b. require (b && links_fit u inode) NoSpace >>= (λ unit. Ok u)) dir

entry_put-full_node : (now : ℕ) (at : EntryKey) (inode : ℕ) (t : Tree)
    → links_fit (put_entry t now at inode) inode ≡ false
    → entry_put now at inode t ≡ Err NoSpace
entry_put-full_node now at inode t node =
    let u = put_entry t now at inode in
    ap (λ b. require (links_fit u at.dir && b) NoSpace >>= (λ unit. Ok u)) node
    ∙ ap (λ b. require b NoSpace >>= (λ unit. Ok u)) (and-false (links_fit u at.dir))

-- a directory is there
directory_there : (t : Tree) (inode : ℕ) → is_directory t inode ≡ true → IsThere inode t
directory_there t inode is = by_node (node_at t inode) is
  where
    by_node : (node : Option Node) → is_some (parent_of node) ≡ true → is_some node ≡ true
    by_node None e = e
    by_node (Some node) e = refl

-- ---- the small changes

module _ {A : Type 0} (was : List Change) (before middle after : Store) (at : EntryKey) (inode : ℕ) (row : NodeRow)
    (read : Presents inode was before middle (Ok row)) (fault : TxFault)
    (unread : Presents at.dir was middle after (Err fault)) where
  -- the directory's row wasn't read
  pub take-no_dir : (step : Tree → Result Tree Fault)
      → Drafting {A = A} (λ t. StandsAt t at inode) was was before after (Err fault) step
  take-no_dir step = drafting-absent at.dir was middle after (λ t. StandsAt t at inode) was before
      (stays-present inode was before middle row read) step
      (λ t ready. directory_there t at.dir ready.within) fault unread

  pub put-no_dir : (step : Tree → Result Tree Fault)
      → Drafting {A = A} (λ t. MayStandAt t at inode) was was before after (Err fault) step
  put-no_dir step = drafting-absent at.dir was middle after (λ t. MayStandAt t at inode) was before
      (stays-present inode was before middle row read) step
      (λ t ready. directory_there t at.dir ready.within) fault unread

module _ (was : List Change) (before middle after : Store) (now : ℕ) (at : EntryKey) (inode : ℕ) (row dir : NodeRow)
    (node_read : Presents inode was before middle (Ok row)) (dir_read : Presents at.dir was middle after (Ok dir)) where
  stays : Stays before after
  stays = stays-then before middle after (stays-present inode was before middle row node_read)
      (stays-present at.dir was middle after dir dir_read)

  node_at_row : (known : RowMap) → before.rows ≡ Some known → node_row_at (drafted was known) inode ≡ Some row
  node_at_row known is = present-stands inode was before middle row node_read known is

  dir_at_row : (known : RowMap) → before.rows ≡ Some known → node_row_at (drafted was known) at.dir ≡ Some dir
  dir_at_row known is = present-stands at.dir was middle after dir dir_read known (node_read.rows_are ∙ is)

  -- an entry that goes
  pub take-made : (one two changes : List Change)
      → Drafted (edge_key at.dir at.name) None was one
      → Drafted (node_key at.dir) (Some (Ok (OfNode (directory_touched now (dir.nlink - links_by row.kind) dir))))
      one two
      → Drafted (node_key inode) (Some (Ok (OfNode (linked_row (row.nlink - links_to_node row.kind) row)))) two changes
      → Drafting (λ t. StandsAt t at inode) was changes before after (Ok (tt {0})) (λ t. Ok (take_entry t now at))
  take-made one two changes first second third =
      let dir_after = directory_touched now (dir.nlink - links_by row.kind) dir in
      let node_after = linked_row (row.nlink - links_to_node row.kind) row in
      drafting-made (λ t. StandsAt t at inode) was changes before after stays (λ t. Ok (take_entry t now at)) (tt {0})
      (λ are. are_rows-put (node_key inode) two changes (OfNode node_after) third
      (are_rows-put (node_key at.dir) one two (OfNode dir_after) second
      (are_rows-drop (edge_key at.dir at.name) was one refl first are)))
      (λ known is bytes t m ready. record {
        left = take_entry t now at;
        is = refl;
        minds = minds-entry_out known was bytes t m now at inode row dir (node_at_row known is) (dir_at_row known is)
            ready.within ready.apart ready.named changes
            (three-drafted at inode None dir_after node_after was one two changes first second third known);
      })

  abbrev place_ready : Tree → Type 0
  place_ready t = MayStandAt t at inode

  abbrev step : Tree → Result Tree Fault
  step = entry_put now at inode

  -- the directory's link count is full
  pub put-full_dir : (changes : List Change) → MAX_LINKS < dir.nlink + links_by row.kind
      → Drafting {A = Unit {0}} place_ready was changes before after (Err (Refused NoSpace)) step
  put-full_dir changes full = drafting-refused place_ready was changes before after stays step NoSpace
      (λ known is bytes t m ready.
      entry_put-full_dir now at inode t (fits-no (put_entry t now at inode) at.dir (dir.nlink + links_by row.kind)
      (dir_links known was bytes t m now at inode row dir (node_at_row known is) (dir_at_row known is) ready.within
      ready.apart ready.free) full))

  -- the inode's link count is full
  pub put-full_node : (changes : List Change) → MAX_LINKS < row.nlink + links_to_node row.kind
      → Drafting {A = Unit {0}} place_ready was changes before after (Err (Refused NoSpace)) step
  put-full_node changes full = drafting-refused place_ready was changes before after stays step NoSpace
      (λ known is bytes t m ready.
      entry_put-full_node now at inode t (fits-no (put_entry t now at inode) inode (row.nlink + links_to_node row.kind)
      (node_links known was bytes t m now at inode row dir (node_at_row known is) (dir_at_row known is) ready.within
      ready.apart ready.free) full))

  -- an entry that comes
  pub put-made : (one two changes : List Change) → dir.nlink + links_by row.kind ≤ MAX_LINKS
      → row.nlink + links_to_node row.kind ≤ MAX_LINKS
      → Drafted (edge_key at.dir at.name) (Some (Ok (OfEdge (record { kind = row.kind; inode = inode })))) was one
      → Drafted (node_key at.dir) (Some (Ok (OfNode (directory_touched now (dir.nlink + links_by row.kind) dir))))
      one two
      → Drafted (node_key inode) (Some (Ok (OfNode (linked_row (row.nlink + links_to_node row.kind) row)))) two changes
      → Drafting place_ready was changes before after (Ok (tt {0})) step
  put-made one two changes dir_low node_low first second third =
      let edge : Edge = record { kind = row.kind; inode = inode } in
      let dir_after = directory_touched now (dir.nlink + links_by row.kind) dir in
      let node_after = linked_row (row.nlink + links_to_node row.kind) row in
      drafting-made place_ready was changes before after stays step (tt {0})
      (λ are. are_rows-put (node_key inode) two changes (OfNode node_after) third
      (are_rows-put (node_key at.dir) one two (OfNode dir_after) second
      (are_rows-put (edge_key at.dir at.name) was one (OfEdge edge) first are)))
      (λ known is bytes t m ready. record {
        left = put_entry t now at inode;
        is = entry_put-made now at inode t
            (fits-yes (put_entry t now at inode) at.dir (dir.nlink + links_by row.kind)
            (dir_links known was bytes t m now at inode row dir (node_at_row known is)
            (dir_at_row known is) ready.within ready.apart ready.free) dir_low)
            (fits-yes (put_entry t now at inode) inode (row.nlink + links_to_node row.kind)
            (node_links known was bytes t m now at inode row dir (node_at_row known is)
            (dir_at_row known is) ready.within ready.apart ready.free) node_low);
        minds = minds-entry_in known was bytes t m now at inode row dir (node_at_row known is) (dir_at_row known is)
            ready.within ready.apart ready.free ready.name changes
            (three-drafted at inode (Some (Ok (OfEdge edge))) dir_after node_after was one two changes first second
            third known);
      })
