-- What the small changes of a tree leave to clients that have files open: an inode that was given to a file is that
-- file or gone, bytes stay, and a session keeps only some files.
use Rattle.std.proofs.Common.{◌≡◌, ℕ, ◌≤◌, Bool, ◌⊎◌, inl, inr, Option, None, Some, is_some, refl, sym, ap, subst, ◌∙◌}
use Rattle.std.proofs.Common.{arith}
use Rattle.std.specs.Prelude.{IsTrue}
use Rattle.std.specs.Option.{option_map}
use Rattle.std.proofs.lemmas.Bool.{cases_eq}
use Rattle.jv_model.specs.promise.FiniteMap.{Map, number_key, get}
use Rattle.jv_model.specs.promise.tree.Tree.{Tree, Node, Content, EntryKey, pair_key, node_at, content_in, content_at}
use Rattle.jv_model.specs.promise.tree.Tree.{is_sustained}
use Rattle.jv_model.specs.promise.tree.Changes.{empty_content, touched, status_changed, put_node, drop_node, change_node, touch}
use Rattle.jv_model.specs.promise.tree.Changes.{put_entry, take_entry, with_node}
use Rattle.jv_model.proofs.TestLaws.{none_if}
use Rattle.jv_volume.proofs.shapes.ShapeMapLaws.{get-inserted, get-insert_apart, get-removed, get-remove_apart}
use Rattle.jv_volume.proofs.operations.ChangeLaws.{change_node-setting, change_node-next_inode, change_node-sustained}
use Rattle.jv_volume.proofs.operations.ChangeLaws.{change_node-apart, change_node-here}

-- What is at an inode after a change: nothing, the same bytes, or a new node, which has none.
pub data NodeKept (t after : Tree) (inode : ℕ) : Type 0 where
  Gone : node_at after inode ≡ None → NodeKept t after inode
  Same : is_some (node_at after inode) ≡ is_some (node_at t inode) → content_at after inode ≡ content_at t inode
      → NodeKept t after inode
  New : t.next_inode ≤ inode → ((content : Content) → content_at after inode ≡ Some content → content ≡ empty_content)
      → NodeKept t after inode

-- A change by which sessions keep no other files than those that pass a test. What it says of nodes is said of
-- trees that are low: there the inodes of hours lie past those that are given to new nodes.
pub record KeepsFiles (low : Type 0) (more : ℕ → Bool) (t after : Tree) : Type 0 where
  pub setting : after.setting ≡ t.setting
  pub next : t.next_inode ≤ after.next_inode
  pub node : low → (inode : ℕ) → NodeKept t after inode
  pub sustained : (sid inode : ℕ) → IsTrue (is_sustained after sid inode)
      → IsTrue (is_sustained t sid inode) ⊎ IsTrue (more inode)

-- one change after another

node_then : (t middle after : Tree) (inode : ℕ) → t.next_inode ≤ middle.next_inode → NodeKept t middle inode
    → NodeKept middle after inode → NodeKept t after inode
node_then t middle after inode next first (Gone none) = Gone none
node_then t middle after inode next (Gone none) (Same there content) =
    Gone (none_if (node_at after inode) (there ∙ ap is_some none))
node_then t middle after inode next (Same was before) (Same there content) = Same (there ∙ was) (content ∙ before)
node_then t middle after inode next (New high empty) (Same there content) =
    New high (λ bytes is. empty bytes (sym content ∙ is))
node_then t middle after inode next first (New high empty) = New (omega (arith, next, high)) empty

-- a node that stays
node_same : (t after : Tree) (other : ℕ) → node_at after other ≡ node_at t other → NodeKept t after other
node_same t after other e = Same (ap is_some e) (ap content_in e)

module _ {low : Type 0} {more : ℕ → Bool} where
  pub keeps-none : (t : Tree) → KeepsFiles low more t t
  keeps-none t = record {
    setting = refl;
    next = omega arith;
    node = λ _ inode. Same refl refl;
    sustained = λ sid inode is. inl is;
  }

  pub keeps-then : (t middle after : Tree) → KeepsFiles low more t middle → KeepsFiles low more middle after
      → KeepsFiles low more t after
  keeps-then t middle after p q = record {
    setting = q.setting ∙ p.setting;
    next = (let a = p.next in let b = q.next in omega (arith, a, b));
    node = λ is_low inode. node_then t middle after inode p.next (p.node is_low inode) (q.node is_low inode);
    sustained = λ sid inode is. elim (q.sustained sid inode is) [
      | inl was ↦ p.sustained sid inode was
      | inr may ↦ inr may
    ];
  }

  -- a change that leaves nodes, and the files that sessions keep
  pub keeps-others : (t after : Tree) → after.setting ≡ t.setting → t.next_inode ≤ after.next_inode
      → after.nodes ≡ t.nodes
      → after.sustained ≡ t.sustained → KeepsFiles low more t after
  keeps-others t after setting next nodes sustained = record {
    setting = setting;
    next = next;
    node = λ _ inode. Same (ap (λ (m : Map number_key Node). is_some (get m inode)) nodes)
        (ap (λ (m : Map number_key Node). content_in (get m inode)) nodes);
    sustained = λ sid inode is. inl
        (ap (λ (m : Map pair_key (Unit {0})). is_some (get m (record { sid = sid; inode = inode }))) (sym sustained)
        ∙ is);
  }

  -- nodes that change

  -- a change of a node that keeps the bytes of files
  pub keeps-change_node : (t : Tree) (inode : ℕ) (change : Node → Node)
      → ((node : Node) → content_in (Some (change node)) ≡ content_in (Some node))
      → KeepsFiles low more t (change_node t inode change)
  keeps-change_node t inode change same = record {
    setting = change_node-setting t inode change;
    next = (let e = change_node-next_inode t inode change in omega (arith, e));
    node = λ _ other. elim (cases_eq other inode) [
      | inl e ↦ changed other (ap (node_at (change_node t inode change)) e ∙ change_node-here t inode change
          ∙ ap (λ i. option_map change (node_at t i)) (sym e))
      | inr apart ↦ node_same t (change_node t inode change) other (change_node-apart t inode change other apart)
    ];
    sustained = λ sid file is.
        inl (ap (λ (m : Map pair_key (Unit {0})). is_some (get m (record { sid = sid; inode = file })))
        (sym (change_node-sustained t inode change)) ∙ is);
  }
    where
      there : (o : Option Node) → is_some (option_map change o) ≡ is_some o
      there None = refl
      there (Some node) = refl

      content : (o : Option Node) → content_in (option_map change o) ≡ content_in o
      content None = refl
      content (Some node) = same node

      changed : (other : ℕ) → node_at (change_node t inode change) other ≡ option_map change (node_at t other)
          → NodeKept t (change_node t inode change) other
      changed other e = Same (ap is_some e ∙ there (node_at t other)) (ap content_in e ∙ content (node_at t other))

  -- a node put where a client knows none, or in place of one with the same bytes
  keeps-put_node : (t : Tree) (inode : ℕ) (node : Node)
      → (low → (after : Tree) → node_at after inode ≡ Some node → NodeKept t after inode)
      → KeepsFiles low more t (put_node t inode node)
  keeps-put_node t inode node here = record {
    setting = refl;
    next = omega arith;
    node = λ is_low other. elim (cases_eq other inode) [
      | inl e ↦ subst (NodeKept t (put_node t inode node)) (sym e)
          (here is_low (put_node t inode node) (get-inserted number_key t.nodes inode node))
      | inr apart ↦ node_same t (put_node t inode node) other
          (get-insert_apart number_key t.nodes inode node other apart)
    ];
    sustained = λ sid file is. inl is;
  }

  -- a new node, which has no bytes
  pub keeps-put_new : (t : Tree) (inode : ℕ) (node : Node) → (low → t.next_inode ≤ inode)
      → ((content : Content) → content_in (Some node) ≡ Some content → content ≡ empty_content)
      → KeepsFiles low more t (put_node t inode node)
  keeps-put_new t inode node high empty =
      keeps-put_node t inode node
      (λ is_low after e. New (high is_low) (λ content is. empty content (sym (ap content_in e) ∙ is)))

  -- a node in place of one with the same bytes
  pub keeps-put_same : (t : Tree) (inode : ℕ) (node after : Node) → node_at t inode ≡ Some node
      → content_in (Some after) ≡ content_in (Some node)
      → KeepsFiles low more t (put_node t inode after)
  keeps-put_same t inode node after there same =
      keeps-put_node t inode after
      (λ _ u e. Same (ap is_some e ∙ sym (ap is_some there)) (ap content_in e ∙ same ∙ sym (ap content_in there)))

  -- a node gone
  pub keeps-drop_node : (t : Tree) (inode : ℕ) → KeepsFiles low more t (drop_node t inode)
  keeps-drop_node t inode = record {
    setting = refl;
    next = omega arith;
    node = λ _ other. elim (cases_eq other inode) [
      | inl e ↦ Gone (ap (node_at (drop_node t inode)) e ∙ get-removed number_key t.nodes inode)
      | inr apart ↦ node_same t (drop_node t inode) other (get-remove_apart number_key t.nodes inode other apart)
    ];
    sustained = λ sid file is. inl is;
  }

  -- a change of times
  pub keeps-touch : (t : Tree) (now dir : ℕ) → KeepsFiles low more t (touch t now dir)
  keeps-touch t now dir = keeps-change_node t dir (touched now) (λ node. refl)

  pub keeps-status_changed : (t : Tree) (now inode : ℕ)
      → KeepsFiles low more t (change_node t inode (status_changed now))
  keeps-status_changed t now inode = keeps-change_node t inode (status_changed now) (λ node. refl)

  -- entries

  pub keeps-put_entry : (t : Tree) (now : ℕ) (place : EntryKey) (inode : ℕ)
      → KeepsFiles low more t (put_entry t now place inode)
  keeps-put_entry t now place inode =
      keeps-then t (touch t now place.dir) (put_entry t now place inode) (keeps-touch t now place.dir)
      (keeps-others (touch t now place.dir) (put_entry t now place inode) refl (omega arith) refl refl)

  pub keeps-take_entry : (t : Tree) (now : ℕ) (place : EntryKey) → KeepsFiles low more t (take_entry t now place)
  keeps-take_entry t now place =
      keeps-then t (touch t now place.dir) (take_entry t now place) (keeps-touch t now place.dir)
      (keeps-others (touch t now place.dir) (take_entry t now place) refl (omega arith) refl refl)

  -- a new node under a new entry
  pub keeps-with_node : (t : Tree) (now : ℕ) (place : EntryKey) (inode : ℕ) (node : Node) → (low → t.next_inode ≤ inode)
      → ((content : Content) → content_in (Some node) ≡ Some content → content ≡ empty_content)
      → KeepsFiles low more t (with_node t now place inode node)
  keeps-with_node t now place inode node high empty =
      keeps-then t (put_node t inode node) (with_node t now place inode node)
      (keeps-put_new t inode node high empty) (keeps-put_entry (put_node t inode node) now place inode)

  -- sessions, and the files that they keep

  pub keeps-sustained : (t : Tree) (pairs : Map pair_key (Unit {0}))
      → ((sid inode : ℕ) → IsTrue (is_some (get pairs (record { sid = sid; inode = inode })))
      → IsTrue (is_sustained t sid inode) ⊎ IsTrue (more inode))
      → KeepsFiles low more t (record t { sustained = pairs })
  keeps-sustained t pairs was =
      record { setting = refl; next = omega arith; node = λ _ inode. Same refl refl; sustained = was }
