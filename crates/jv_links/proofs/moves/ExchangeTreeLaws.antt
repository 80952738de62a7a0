-- Two entries that change places leave the same tree where both were taken first.
use Rattle.std.proofs.Common.{◌≡◌, ℕ, Bool, true, false, cond, Option, None, Some, is_some, refl, sym, ap, ◌∙◌}
use Rattle.std.specs.Option.{option_map}
use Rattle.std.specs.Ordering.{eq_by_cmp}
use Rattle.jv_model.specs.promise.FiniteMap.{Map, number_key, get, insert, remove}
use Rattle.jv_model.specs.promise.tree.Changes.{touched, set_node, change_node, put_entry, take_entry}
use Rattle.jv_model.specs.promise.tree.Renaming.{moved_node, move_in, exchanged}
use Rattle.jv_model.specs.promise.tree.Tree.{Tree, Node, EntryKey, entry_key, node_at}
use Rattle.jv_model.proofs.FiniteMapLaws.{get-insert, get-remove, same_maps}
use Rattle.jv_volume.proofs.shapes.ShapeMapLaws.{tied_same}

-- ---- a node changed, where there is one

abbrev Nodes : Type 0
Nodes = Map number_key Node

abbrev nodes_with : Nodes → ℕ → Option Node → Nodes
nodes_with m k None = m
nodes_with m k (Some node) = insert m k node

abbrev nodes_changed : Nodes → ℕ → (Node → Node) → Nodes
nodes_changed m k change = nodes_with m k (option_map change (get m k))

set_node-is : (t : Tree) (k : ℕ) (o : Option Node) → set_node t k o ≡ record t { nodes = nodes_with t.nodes k o }
set_node-is t k None = refl
set_node-is t k (Some node) = refl

change_node-is : (t : Tree) (k : ℕ) (change : Node → Node)
    → change_node t k change ≡ record t { nodes = nodes_changed t.nodes k change }
change_node-is t k change = set_node-is t k (option_map change (node_at t k))

-- a node changed by a test
abbrev changed_if : Bool → (Node → Node) → Node → Node
changed_if b change node = cond b (change node) node

unchanged : (change : Node → Node) (o : Option Node) → option_map (changed_if false change) o ≡ o
unchanged change None = refl
unchanged change (Some node) = refl

abbrev is_at : ℕ → ℕ → Bool
is_at q k = eq_by_cmp number_key.cmp q k

get-nodes_changed : (m : Nodes) (k : ℕ) (change : Node → Node) (q : ℕ) → get (nodes_changed m k change) q
    ≡ option_map (changed_if (is_at q k) change) (get m q)
get-nodes_changed m k change q = by_test (is_at q k) refl (get m k) refl
  where
    same : is_at q k ≡ true → get m q ≡ get m k
    same e = ap (get m) (tied_same number_key k q e)

    put : (node : Node) (b : Bool) → is_at q k ≡ b
        → get (insert m k (change node)) q ≡ cond b (Some (change node)) (get m q)
    put node b e = get-insert m k (change node) q ∙ ap (λ b. cond b (Some (change node)) (get m q)) e

    by_test : (b : Bool) → is_at q k ≡ b → (o : Option Node) → get m k ≡ o
        → get (nodes_with m k (option_map change o)) q
        ≡ option_map (changed_if b change) (get m q)
    by_test true e None h = same e ∙ h ∙ sym (ap (option_map (changed_if true change)) (same e ∙ h))
    by_test true e (Some node) h = put node true e ∙ sym (ap (option_map (changed_if true change)) (same e ∙ h))
    by_test false e None h = sym (unchanged change (get m q))
    by_test false e (Some node) h = put node false e ∙ sym (unchanged change (get m q))

still_some : (change : Node → Node) (o : Option Node) → is_some (option_map change o) ≡ is_some o
still_some change None = refl
still_some change (Some node) = refl

-- a change of a node leaves the same nodes there
pub there-change_node : (t : Tree) (k : ℕ) (change : Node → Node) (q : ℕ)
    → is_some (node_at (change_node t k change) q) ≡ is_some (node_at t q)
there-change_node t k change q =
    ap (λ (u : Tree). is_some (node_at u q)) (change_node-is t k change)
    ∙ ap is_some (get-nodes_changed t.nodes k change q) ∙ still_some (changed_if (is_at q k) change) (get t.nodes q)

-- ---- the changes of an exchange

module _ (now : ℕ) where
  take_entry-is : (t : Tree) (place : EntryKey) → take_entry t now place
      ≡ record t { nodes = nodes_changed t.nodes place.dir (touched now); entries = remove t.entries place }
  take_entry-is t place = ap (λ (u : Tree). record u { entries = remove t.entries place })
      (change_node-is t place.dir (touched now))

  put_entry-is : (t : Tree) (place : EntryKey) (inode : ℕ)
      → put_entry t now place inode ≡ record t {
        nodes = nodes_changed t.nodes place.dir (touched now);
        entries =
            insert t.entries place inode;
      }
  put_entry-is t place inode = ap (λ (u : Tree). record u { entries = insert t.entries place inode })
      (change_node-is t place.dir (touched now))

  abbrev moved_nodes : Nodes → ℕ → ℕ → Nodes
  moved_nodes m dir inode = nodes_changed (nodes_changed m dir (touched now)) inode (moved_node now dir)

  move_in-is : (t : Tree) (place : EntryKey) (inode : ℕ)
      → move_in t now place inode ≡ record t {
        nodes = moved_nodes t.nodes place.dir inode;
        entries =
            insert t.entries place inode;
      }
  move_in-is t place inode =
      ap (λ (u : Tree). change_node u inode (moved_node now place.dir)) (put_entry-is t place inode)
      ∙ change_node-is (record t {
        nodes = nodes_changed t.nodes place.dir (touched now);
        entries =
            insert t.entries place inode;
      }) inode
      (moved_node now place.dir)

  get-moved_nodes : (m : Nodes) (dir inode q : ℕ)
      → get (moved_nodes m dir inode) q ≡ option_map (changed_if (is_at q inode) (moved_node now dir))
      (option_map (changed_if (is_at q dir) (touched now)) (get m q))
  get-moved_nodes m dir inode q =
      get-nodes_changed (nodes_changed m dir (touched now)) inode (moved_node now dir) q
      ∙ ap (option_map (changed_if (is_at q inode) (moved_node now dir))) (get-nodes_changed m dir (touched now) q)

  -- what is touched before as well is touched as much
  touched_before : (to_dir : ℕ) (from_is source_is to_is : Bool) (node : Node)
      → changed_if from_is (touched now) (changed_if source_is (moved_node now to_dir)
      (changed_if to_is (touched now) (changed_if to_is (touched now) (changed_if from_is (touched now) node))))
      ≡ changed_if from_is (touched now)
      (changed_if source_is (moved_node now to_dir) (changed_if to_is (touched now) node))
  touched_before to_dir true true true node = refl
  touched_before to_dir true true false node = refl
  touched_before to_dir true false true node = refl
  touched_before to_dir true false false node = refl
  touched_before to_dir false true true node = refl
  touched_before to_dir false true false node = refl
  touched_before to_dir false false true node = refl
  touched_before to_dir false false false node = refl

  abbrev at_last : ℕ → Bool → Bool → Bool → Option Node → Option Node
  at_last to_dir from_is source_is to_is o =
      option_map (changed_if from_is (touched now))
      (option_map (changed_if source_is (moved_node now to_dir)) (option_map (changed_if to_is (touched now)) o))

  all_touched : (to_dir : ℕ) (from_is source_is to_is : Bool) (o : Option Node)
      → at_last to_dir from_is source_is to_is
      (option_map (changed_if to_is (touched now)) (option_map (changed_if from_is (touched now)) o))
      ≡ at_last to_dir from_is source_is to_is o
  all_touched to_dir from_is source_is to_is None = refl
  all_touched to_dir from_is source_is to_is (Some node) =
      ap (λ n. Some n) (touched_before to_dir from_is source_is to_is node)

  module _ (from : EntryKey) (source : ℕ) (to : EntryKey) (other : ℕ) where
    abbrev both_moved : Nodes → Nodes
    both_moved m = moved_nodes (moved_nodes m to.dir source) from.dir other

    abbrev both_touched : Nodes → Nodes
    both_touched m = nodes_changed (nodes_changed m from.dir (touched now)) to.dir (touched now)

    get-both_moved : (m : Nodes) (q : ℕ)
        → get (both_moved m) q ≡ option_map (changed_if (is_at q other) (moved_node now from.dir))
        (at_last to.dir (is_at q from.dir) (is_at q source) (is_at q to.dir) (get m q))
    get-both_moved m q =
        get-moved_nodes (moved_nodes m to.dir source) from.dir other q
        ∙ ap (λ o. option_map (changed_if (is_at q other) (moved_node now from.dir))
        (option_map (changed_if (is_at q from.dir) (touched now)) o))
        (get-moved_nodes m to.dir source q)

    same_nodes : (m : Nodes) → both_moved (both_touched m) ≡ both_moved m
    same_nodes m = same_maps (both_moved (both_touched m)) (both_moved m) (λ q.
        let last : Option Node → Option Node = λ o. option_map (changed_if (is_at q other) (moved_node now from.dir))
        (at_last to.dir (is_at q from.dir) (is_at q source) (is_at q to.dir) o) in
        get-both_moved (both_touched m) q
        ∙ ap last (get-nodes_changed (nodes_changed m from.dir (touched now)) to.dir (touched now) q
        ∙ ap (option_map (changed_if (is_at q to.dir) (touched now))) (get-nodes_changed m from.dir (touched now) q))
        ∙ ap (option_map (changed_if (is_at q other) (moved_node now from.dir)))
        (all_touched to.dir (is_at q from.dir) (is_at q source) (is_at q to.dir) (get m q))
        ∙ sym (get-both_moved m q))

    abbrev both_put : Map entry_key ℕ → Map entry_key ℕ
    both_put m = insert (insert m to source) from other

    get-both_put : (m : Map entry_key ℕ) (q : EntryKey)
        → get (both_put m) q ≡ cond (eq_by_cmp entry_key.cmp q from) (Some other)
        (cond (eq_by_cmp entry_key.cmp q to) (Some source) (get m q))
    get-both_put m q = get-insert (insert m to source) from other q
        ∙ ap (cond (eq_by_cmp entry_key.cmp q from) (Some other)) (get-insert m to source q)

    put_over : (from_is to_is : Bool) (o : Option ℕ)
        → cond from_is (Some other) (cond to_is (Some source) (cond to_is None (cond from_is None o))) ≡ cond from_is
        (Some other) (cond to_is (Some source) o)
    put_over true to_is o = refl
    put_over false true o = refl
    put_over false false o = refl

    same_entries : (m : Map entry_key ℕ) → both_put (remove (remove m from) to) ≡ both_put m
    same_entries m = same_maps (both_put (remove (remove m from) to)) (both_put m) (λ q.
        let from_is = eq_by_cmp entry_key.cmp q from in
        let to_is = eq_by_cmp entry_key.cmp q to in
        get-both_put (remove (remove m from) to) q
        ∙ ap (λ o. cond from_is (Some other) (cond to_is (Some source) o))
        (get-remove (remove m from) to q ∙ ap (cond to_is None) (get-remove m from q))
        ∙ put_over from_is to_is (get m q) ∙ sym (get-both_put m q))

    exchanged-is : (t : Tree) → exchanged t now from source to other ≡ record t {
      nodes = both_moved t.nodes;
      entries =
          both_put t.entries;
    }
    exchanged-is t =
        ap (λ (u : Tree). move_in u now from other) (move_in-is t to source)
        ∙ move_in-is (record t { nodes = moved_nodes t.nodes to.dir source; entries = insert t.entries to source }) from
        other

    abbrev both_taken : Tree → Tree
    both_taken t = take_entry (take_entry t now from) now to

    both_taken-is : (t : Tree) → both_taken t ≡ record t {
      nodes = both_touched t.nodes;
      entries =
          remove (remove t.entries from) to;
    }
    both_taken-is t =
        ap (λ (u : Tree). take_entry u now to) (take_entry-is t from)
        ∙ take_entry-is (record t {
          nodes = nodes_changed t.nodes from.dir (touched now);
          entries =
              remove t.entries from;
        }) to

    -- without both entries, the exchange leaves the same tree
    pub exchanged-taken : (t : Tree)
        → exchanged (take_entry (take_entry t now from) now to) now from source to other ≡ exchanged t now from source
        to other
    exchanged-taken t =
        ap (λ (u : Tree). exchanged u now from source to other) (both_taken-is t)
        ∙ exchanged-is (record t { nodes = both_touched t.nodes; entries = remove (remove t.entries from) to })
        ∙ (λ i. record t { nodes = same_nodes t.nodes i; entries = same_entries t.entries i })
        ∙ sym (exchanged-is t)
