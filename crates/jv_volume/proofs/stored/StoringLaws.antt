-- When rows are those of their tree, said row by row: what has to be shown of rows after a change, and what is known before.
use Rattle.std.proofs.Common.{◌≡◌, ℕ, ◌<◌, ◌^◌, Bool, true, false, Option, None, Some, Ok, refl, sym, ap, subst, ◌∙◌}
use Rattle.std.specs.Prelude.{if◌then◌else◌}
use Rattle.std.specs.Option.{option_map}
use Rattle.jv_model.specs.declared.row.Node.{Node as NodeRow}
use Rattle.jv_model.specs.declared.row.Edge.{Edge}
use Rattle.jv_model.specs.declared.row.Session.{Session}
use Rattle.jv_model.specs.declared.row.Row.TheVariants.{OfSetting, OfCounters, OfNode, OfEdge, OfSession, OfSustained}
use Rattle.jv_model.specs.promise.FiniteMap.{get}
use Rattle.jv_model.specs.promise.rows.RowPlaces.{setting_key, counters_key, node_key, edge_key, session_key, sustained_key}
use Rattle.jv_model.specs.promise.tree.Tree.{Tree, EntryKey, node_at, link_count}
use Rattle.jv_volume.specs.promise.TypedRows.{Cell, Rows}
use Rattle.jv_volume.specs.promise.Views.{row_in, node_in, node_row_at, edge_in, session_in}
use Rattle.jv_volume.specs.Views.{edge_at, session_at, sustained_at}
use Rattle.jv_volume.specs.promise.TreeOf.{node_of_row, session_of_row, tree_of}
use Rattle.jv_volume.specs.promise.Stored.{Stored, node_row, number_of_node, edge_row, session_row, counters_row}
use Rattle.jv_volume.proofs.stored.NodeRowLaws.{IsNodeRow}
use Rattle.jv_volume.proofs.stored.StoredLaws.{of_node, of_edge, of_session, found_node, found_entry, node_stands, edge_stands, session_stands, sustained_stands}
use Rattle.jv_volume.proofs.stored.TreeOfLaws.{pair_in_cell, node_at-tree_of, get-entries, get-sessions, get-sustained}

-- a node's row with this link count
pub record IsNodeCell (links : ℕ) (byte : ℕ → ℕ) (cell : Cell) : Type 0 where
  pub row : NodeRow
  pub is : cell ≡ Ok (OfNode row)
  pub row_is : IsNodeRow links byte row

-- an edge with the kind of the node that it names
pub record IsEdgeCell (t : Tree) (cell : Cell) : Type 0 where
  pub edge : Edge
  pub is : cell ≡ Ok (OfEdge edge)
  pub kind : edge.kind ≡ number_of_node (node_at t edge.inode)

pub record IsSessionCell (cell : Cell) : Type 0 where
  pub session : Session
  pub is : cell ≡ Ok (OfSession session)

-- what stands at each key is a row of its tree
pub record AreStored (bytes : ℕ → ℕ → ℕ) (rows : Rows) : Type 0 where
  pub slice : ℕ
  pub setting : get rows setting_key ≡ Some (Ok (OfSetting (tree_of bytes rows).setting))
  pub counters : get rows counters_key ≡ Some (Ok (OfCounters (counters_row (tree_of bytes rows) slice)))
  pub node : (inode : ℕ) (cell : Cell) → get rows (node_key inode) ≡ Some cell → IsNodeCell (link_count (tree_of bytes rows) inode) (bytes inode) cell
  pub edge : (at : EntryKey) (cell : Cell) → get rows (edge_key at.dir at.name) ≡ Some cell → IsEdgeCell (tree_of bytes rows) cell
  pub session : (sid : ℕ) (cell : Cell) → get rows (session_key sid) ≡ Some cell → IsSessionCell cell
  pub sustained : (sid inode : ℕ) → inode < 2 ^ 64 → (cell : Cell) → get rows (sustained_key sid inode) ≡ Some cell → cell ≡ Ok OfSustained

module _ (bytes : ℕ → ℕ → ℕ) (rows : Rows) where
  abbrev of_rows : Tree
  of_rows = tree_of bytes rows

  node_here : (inode : ℕ) (o : Option Cell) → get rows (node_key inode) ≡ o
      → ((cell : Cell) → o ≡ Some cell → IsNodeCell (link_count of_rows inode) (bytes inode) cell)
      → o ≡ option_map (λ node. Ok (OfNode (node_row (link_count of_rows inode) node))) (option_map (node_of_row (bytes inode)) (node_in (row_in o)))
  node_here inode None e h = refl
  node_here inode (Some cell) e h =
      let c = h cell refl in
      let goes : Some (Ok (OfNode c.row)) ≡ option_map (λ node. Ok (OfNode (node_row (link_count of_rows inode) node)))
      (option_map (node_of_row (bytes inode)) (node_in (row_in (Some (Ok (OfNode c.row)))))) =
      ap (λ row. Some (Ok (OfNode row))) c.row_is in
      subst (λ x. Some x ≡ option_map (λ node. Ok (OfNode (node_row (link_count of_rows inode) node)))
      (option_map (node_of_row (bytes inode)) (node_in (row_in (Some x))))) (sym c.is) goes

  edge_here : (o : Option Cell) → ((cell : Cell) → o ≡ Some cell → IsEdgeCell of_rows cell)
      → o ≡ option_map (λ inode. Ok (OfEdge (edge_row of_rows inode))) (option_map (λ edge. edge.inode) (edge_in (row_in o)))
  edge_here None h = refl
  edge_here (Some cell) h =
      let c = h cell refl in
      let goes : Some (Ok (OfEdge c.edge)) ≡ option_map (λ inode. Ok (OfEdge (edge_row of_rows inode)))
      (option_map (λ edge. edge.inode) (edge_in (row_in (Some (Ok (OfEdge c.edge)))))) =
      ap (λ kind. Some (Ok (OfEdge (record { kind = kind; inode = c.edge.inode })))) c.kind in
      subst (λ x. Some x ≡ option_map (λ inode. Ok (OfEdge (edge_row of_rows inode))) (option_map (λ edge. edge.inode) (edge_in (row_in (Some x)))))
      (sym c.is) goes

  session_here : (o : Option Cell) → ((cell : Cell) → o ≡ Some cell → IsSessionCell cell)
      → o ≡ option_map (λ entry. Ok (OfSession (session_row entry))) (option_map session_of_row (session_in (row_in o)))
  session_here None h = refl
  session_here (Some cell) h =
      let c = h cell refl in
      subst (λ x. Some x ≡ option_map (λ entry. Ok (OfSession (session_row entry))) (option_map session_of_row (session_in (row_in (Some x))))) (sym c.is) refl

  sustained_here : (o : Option Cell) → ((cell : Cell) → o ≡ Some cell → cell ≡ Ok OfSustained) → o ≡ option_map (λ unit. Ok OfSustained) (pair_in_cell o)
  sustained_here None h = refl
  sustained_here (Some cell) h =
      subst (λ x. Some x ≡ option_map (λ unit. Ok OfSustained) (pair_in_cell (Some x))) (sym (h cell refl)) refl

  -- rows each of which is a row of the tree are those of the tree
  pub stored-by : AreStored bytes rows → Stored rows (tree_of bytes rows)
  stored-by s = record {
    slice = s.slice;
    setting = s.setting;
    counters = s.counters;
    node = λ inode. node_here inode (get rows (node_key inode)) refl (s.node inode)
        ∙ ap (option_map (λ node. Ok (OfNode (node_row (link_count of_rows inode) node)))) (sym (node_at-tree_of bytes rows inode));
    edge = λ at. edge_here (get rows (edge_key at.dir at.name)) (s.edge at)
        ∙ ap (option_map (λ inode. Ok (OfEdge (edge_row of_rows inode)))) (sym (get-entries bytes rows at));
    session = λ sid. session_here (get rows (session_key sid)) (s.session sid)
        ∙ ap (option_map (λ entry. Ok (OfSession (session_row entry)))) (sym (get-sessions bytes rows sid));
    sustained = λ sid inode less. sustained_here (get rows (sustained_key sid inode)) (s.sustained sid inode less)
        ∙ ap (option_map (λ unit. Ok OfSustained)) (sym (get-sustained bytes rows sid inode less));
  }

  -- and rows of the tree are such rows
  pub are_stored : Stored rows (tree_of bytes rows) → AreStored bytes rows
  are_stored s = record {
    slice = s.slice;
    setting = s.setting;
    counters = s.counters;
    node = λ inode cell e. node_cell inode cell (node_row_at rows inode) refl (sym e ∙ node_stands rows of_rows s inode);
    edge = λ at cell e. edge_cell at cell (edge_at rows at.dir at.name) refl (sym e ∙ edge_stands rows of_rows s at);
    session = λ sid cell e. session_cell cell (session_at rows sid) (sym e ∙ session_stands rows of_rows s sid);
    sustained = λ sid inode less cell e. sustained_cell cell (sustained_at rows sid inode) (sym e ∙ sustained_stands rows of_rows s sid inode less);
  }
    where
      node_cell : (inode : ℕ) (cell : Cell) (o : Option NodeRow) → node_row_at rows inode ≡ o → Some cell ≡ option_map of_node o
          → IsNodeCell (link_count of_rows inode) (bytes inode) cell
      node_cell inode cell None e h = absurd (cc)
      node_cell inode cell (Some row) e h = record { row = row; is = cc; row_is = (found_node bytes rows s inode row e).row_is }

      edge_cell : (at : EntryKey) (cell : Cell) (o : Option Edge) → edge_at rows at.dir at.name ≡ o → Some cell ≡ option_map of_edge o → IsEdgeCell of_rows cell
      edge_cell at cell None e h = absurd (cc)
      edge_cell at cell (Some edge) e h = record { edge = edge; is = cc; kind = (found_entry bytes rows s at edge e).kind }

      session_cell : (cell : Cell) (o : Option Session) → Some cell ≡ option_map of_session o → IsSessionCell cell
      session_cell cell None h = absurd (cc)
      session_cell cell (Some session) h = record { session = session; is = cc }

      sustained_cell : (cell : Cell) (b : Bool) → Some cell ≡ (let o : Option Cell = (if b then Some (Ok OfSustained) else None) in o) → cell ≡ Ok OfSustained
      sustained_cell cell true h = cc
      sustained_cell cell false h = absurd (cc)
