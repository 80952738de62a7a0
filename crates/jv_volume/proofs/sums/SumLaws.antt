-- The used space and the used inodes of a tree after each of its small changes.
use Rattle.std.proofs.Common.{◌≡◌, ℕ, ◌+◌, ◌<◌, true, not, ◌&&◌, Option, None, Some, refl, ap, ◌∙◌, arith, lt-ltb, ne_eqb}
use Rattle.std.specs.Prelude.{nat_lt, if◌then◌else◌}
use Rattle.std.specs.Option.{option_map}
use Rattle.jv_model.specs.declared.limits.TheConstants.{ROOT, TRASH_ROOT}
use Rattle.jv_model.specs.promise.FiniteMap.{number_key, sum_over}
use Rattle.jv_model.specs.promise.tree.Tree.{Tree, Node, Kind, File, Directory, Symlink, Content, EntryKey, is_counted, kind_space, node_space, node_count, used_space, used_inodes, node_at}
use Rattle.jv_model.specs.promise.tree.Changes.{touched, put_node, drop_node, set_node, change_node, touch, put_entry, take_entry, with_node, with_content}
use Rattle.jv_model.specs.promise.tree.Making.{with_next}
use Rattle.jv_model.specs.promise.tree.Removing.{remove_directory}
use Rattle.jv_model.specs.promise.tree.Renaming.{kind_under, moved_node, move_in, moved, exchanged}
use Rattle.jv_volume.proofs.maps.MapLaws.{sum-new, sum-over, sum-gone}
use Rattle.jv_volume.proofs.operations.ChangeLaws.{change_node-apart}

-- ---- what holds of the sum of any function that sees of a node the space of its kind alone

-- nodes of kinds that take the same space have the same share
abbrev pub BySpace : (ℕ → Node → ℕ) → Type 0
BySpace f = (inode : ℕ) (node after : Node) → kind_space after.kind ≡ kind_space node.kind → f inode after ≡ f inode node

pub space_by_kind : BySpace node_space
space_by_kind inode node after same = ap (λ n. if is_counted inode then n else 0) same

pub count_by_kind : BySpace node_count
count_by_kind inode node after same = refl

same_space_under : (dir : ℕ) (kind : Kind) → kind_space (kind_under dir kind) ≡ kind_space kind
same_space_under dir (File content) = refl
same_space_under dir (Directory parent) = refl
same_space_under dir (Symlink target) = refl

module _ (f : ℕ → Node → ℕ) (by_space : BySpace f) where
  abbrev sum_of : Tree → ℕ
  sum_of t = sum_over f t.nodes

  change_at : (t : Tree) (inode : ℕ) (change : Node → Node) (o : Option Node) → node_at t inode ≡ o
      → ((node : Node) → kind_space (change node).kind ≡ kind_space node.kind)
      → sum_of (set_node t inode (option_map change o)) ≡ sum_of t
  change_at t inode change None e same = refl
  change_at t inode change (Some node) e same =
      let all = sum-over number_key f t.nodes inode node (change node) e in
      let one = by_space inode node (change node) (same node) in
      omega (arith, all, one)

  pub sum-change_node : (t : Tree) (inode : ℕ) (change : Node → Node) → ((node : Node) → kind_space (change node).kind ≡ kind_space node.kind)
      → sum_of (change_node t inode change) ≡ sum_of t
  sum-change_node t inode change same = change_at t inode change (node_at t inode) refl same

  pub sum-touch : (t : Tree) (now dir : ℕ) → sum_of (touch t now dir) ≡ sum_of t
  sum-touch t now dir = sum-change_node t dir (touched now) (λ node. refl)

  pub sum-put_entry : (t : Tree) (now : ℕ) (place : EntryKey) (inode : ℕ) → sum_of (put_entry t now place inode) ≡ sum_of t
  sum-put_entry t now place inode = sum-touch t now place.dir

  pub sum-take_entry : (t : Tree) (now : ℕ) (place : EntryKey) → sum_of (take_entry t now place) ≡ sum_of t
  sum-take_entry t now place = sum-touch t now place.dir

  pub sum-with_node : (t : Tree) (now : ℕ) (place : EntryKey) (inode : ℕ) (node : Node) → node_at t inode ≡ None
      → sum_of (with_node t now place inode node) ≡ sum_of t + f inode node
  sum-with_node t now place inode node free = sum-touch (put_node t inode node) now place.dir ∙ sum-new number_key f t.nodes inode node free

  pub sum-with_next : (t : Tree) (now : ℕ) (place : EntryKey) (node : Node) → node_at t t.next_inode ≡ None
      → sum_of (with_next t now place node) ≡ sum_of t + f t.next_inode node
  sum-with_next t now place node free = sum-with_node t now place t.next_inode node free

  pub sum-drop_node : (t : Tree) (inode : ℕ) (node : Node) → node_at t inode ≡ Some node → sum_of (drop_node t inode) + f inode node ≡ sum_of t
  sum-drop_node t inode node there = sum-gone number_key f t.nodes inode node there

  pub sum-move_in : (t : Tree) (now : ℕ) (place : EntryKey) (inode : ℕ) → sum_of (move_in t now place inode) ≡ sum_of t
  sum-move_in t now place inode = sum-change_node (put_entry t now place inode) inode (moved_node now place.dir)
      (λ node. same_space_under place.dir node.kind) ∙ sum-put_entry t now place inode

  pub sum-moved : (t : Tree) (now : ℕ) (from : EntryKey) (inode : ℕ) (to : EntryKey) → sum_of (moved t now from inode to) ≡ sum_of t
  sum-moved t now from inode to = sum-move_in (take_entry t now from) now to inode ∙ sum-take_entry t now from

  pub sum-exchanged : (t : Tree) (now : ℕ) (from : EntryKey) (source : ℕ) (to : EntryKey) (other : ℕ) → sum_of (exchanged t now from source to other) ≡ sum_of t
  sum-exchanged t now from source to other = sum-move_in (move_in t now to source) now from other ∙ sum-move_in t now to source

-- the node after its directory's entries changed, which is another directory
pub node_at-touch : (t : Tree) (now dir inode : ℕ) (node : Node) → node_at t inode ≡ Some node → (inode ≡ dir → ⊥) → node_at (touch t now dir) inode ≡ Some node
node_at-touch t now dir inode node there apart = change_node-apart t dir (touched now) inode apart ∙ there

-- ---- used space

pub used_space-put_new : (t : Tree) (inode : ℕ) (node : Node) → node_at t inode ≡ None
    → used_space (put_node t inode node) ≡ used_space t + node_space inode node
used_space-put_new t inode node free = sum-new number_key node_space t.nodes inode node free

pub used_space-put_over : (t : Tree) (inode : ℕ) (old node : Node) → node_at t inode ≡ Some old
    → used_space (put_node t inode node) + node_space inode old ≡ used_space t + node_space inode node
used_space-put_over t inode old node there = sum-over number_key node_space t.nodes inode old node there

pub used_space-put_entry : (t : Tree) (now : ℕ) (place : EntryKey) (inode : ℕ) → used_space (put_entry t now place inode) ≡ used_space t
used_space-put_entry = sum-put_entry node_space space_by_kind

pub used_space-take_entry : (t : Tree) (now : ℕ) (place : EntryKey) → used_space (take_entry t now place) ≡ used_space t
used_space-take_entry = sum-take_entry node_space space_by_kind

pub used_space-with_next : (t : Tree) (now : ℕ) (place : EntryKey) (node : Node) → node_at t t.next_inode ≡ None
    → used_space (with_next t now place node) ≡ used_space t + node_space t.next_inode node
used_space-with_next = sum-with_next node_space space_by_kind

pub used_space-drop_node : (t : Tree) (inode : ℕ) (node : Node) → node_at t inode ≡ Some node
    → used_space (drop_node t inode) + node_space inode node ≡ used_space t
used_space-drop_node = sum-drop_node node_space space_by_kind

-- a file with other bytes
pub used_space-with_content : (t : Tree) (now inode : ℕ) (node : Node) (content : Content) → node_at t inode ≡ Some node
    → used_space (with_content t now inode content) + node_space inode node
    ≡ used_space t + node_space inode (record (touched now node) { kind = File content })
used_space-with_content t now inode node content there =
    ap (λ o. used_space (set_node t inode (option_map (λ (n : Node). record (touched now n) { kind = File content }) o)) + node_space inode node) there
    ∙ used_space-put_over t inode node (record (touched now node) { kind = File content }) there

-- a removed directory or file: its entry goes, and its node
pub used_space-removed : (t : Tree) (now : ℕ) (place : EntryKey) (inode : ℕ) (node : Node) → node_at t inode ≡ Some node → (inode ≡ place.dir → ⊥)
    → used_space (remove_directory t now place inode) + node_space inode node ≡ used_space t
used_space-removed t now place inode node there apart =
    used_space-drop_node (take_entry t now place) inode node (node_at-touch t now place.dir inode node there apart) ∙ used_space-take_entry t now place

-- ---- used inodes

pub used_inodes-put_new : (t : Tree) (inode : ℕ) (node : Node) → node_at t inode ≡ None
    → used_inodes (put_node t inode node) ≡ used_inodes t + node_count inode node
used_inodes-put_new t inode node free = sum-new number_key node_count t.nodes inode node free

pub used_inodes-put_over : (t : Tree) (inode : ℕ) (old node : Node) → node_at t inode ≡ Some old → used_inodes (put_node t inode node) ≡ used_inodes t
used_inodes-put_over t inode old node there =
    let all = sum-over number_key node_count t.nodes inode old node there in
    omega (arith, all)

pub used_inodes-change_node : (t : Tree) (inode : ℕ) (change : Node → Node) → used_inodes (change_node t inode change) ≡ used_inodes t
used_inodes-change_node t inode change = change_at (node_at t inode) refl
  where
    change_at : (o : Option Node) → node_at t inode ≡ o → used_inodes (set_node t inode (option_map change o)) ≡ used_inodes t
    change_at None e = refl
    change_at (Some node) e = used_inodes-put_over t inode node (change node) e

pub used_inodes-put_entry : (t : Tree) (now : ℕ) (place : EntryKey) (inode : ℕ) → used_inodes (put_entry t now place inode) ≡ used_inodes t
used_inodes-put_entry = sum-put_entry node_count count_by_kind

pub used_inodes-take_entry : (t : Tree) (now : ℕ) (place : EntryKey) → used_inodes (take_entry t now place) ≡ used_inodes t
used_inodes-take_entry = sum-take_entry node_count count_by_kind

pub used_inodes-with_next : (t : Tree) (now : ℕ) (place : EntryKey) (node : Node) → node_at t t.next_inode ≡ None
    → used_inodes (with_next t now place node) ≡ used_inodes t + node_count t.next_inode node
used_inodes-with_next = sum-with_next node_count count_by_kind

pub used_inodes-drop_node : (t : Tree) (inode : ℕ) (node : Node) → node_at t inode ≡ Some node
    → used_inodes (drop_node t inode) + node_count inode node ≡ used_inodes t
used_inodes-drop_node = sum-drop_node node_count count_by_kind

pub used_inodes-with_content : (t : Tree) (now inode : ℕ) (content : Content) → used_inodes (with_content t now inode content) ≡ used_inodes t
used_inodes-with_content t now inode content = used_inodes-change_node t inode (λ (node : Node). record (touched now node) { kind = File content })

pub used_inodes-removed : (t : Tree) (now : ℕ) (place : EntryKey) (inode : ℕ) (node : Node) → node_at t inode ≡ Some node → (inode ≡ place.dir → ⊥)
    → used_inodes (remove_directory t now place inode) + node_count inode node ≡ used_inodes t
used_inodes-removed t now place inode node there apart =
    used_inodes-drop_node (take_entry t now place) inode node (node_at-touch t now place.dir inode node there apart) ∙ used_inodes-take_entry t now place

-- ---- which inodes count

-- an inode between the root and the trash counts
pub counted : (inode : ℕ) → ROOT < inode → inode < TRASH_ROOT → is_counted inode ≡ true
counted inode low high =
    ap (λ b. not b && nat_lt inode TRASH_ROOT) (ne_eqb inode ROOT (λ e. absurd (omega (arith, e, low)))) ∙ lt-ltb inode TRASH_ROOT high

pub node_space-counted : (inode : ℕ) (node : Node) → is_counted inode ≡ true → node_space inode node ≡ kind_space node.kind
node_space-counted inode node is = ap (λ b. if b then kind_space node.kind else 0) is

pub node_count-counted : (inode : ℕ) (node : Node) → is_counted inode ≡ true → node_count inode node ≡ 1
node_count-counted inode node is = ap (λ b. if b then 1 else 0) is
