-- Trees that aren't whole, each with one thing that is broken.
use Rattle.std.specs.Prelude.{codes}
use Rattle.std.proofs.Common.{◌≡◌, ℕ, zero, suc, List, [], ◌∷◌, get_or, refl, sym, ap, subst, ◌∙◌, arith}
use Rattle.std.proofs.lemmas.Bool.{false≢true}
use Rattle.jv_model.specs.declared.limits.TheConstants.{FULL_MODE, ROOT, TRASH_ROOT}
use Rattle.jv_model.specs.declared.setting.Setting.{Setting}
use Rattle.jv_model.specs.promise.FiniteMap.{map_of, empty_map, insert}
use Rattle.jv_model.specs.promise.tree.Tree.{Tree, Node, File, Directory, EntryKey, new_node}
use Rattle.jv_model.specs.tree.Tree.{fresh_tree}
use Rattle.jv_model.specs.promise.tree.Changes.{empty_content}
use Rattle.jv_model.specs.promise.tree.HourNames.{hour_name}
use Rattle.jv_model.specs.promise.tree.Trash.{hour_inode, trash_name}
use Rattle.jv_model.proofs.TreeComputeLaws.{maps_compute, names_compute}
use Rattle.jv_volume.specs.promise.Shape.{Dir, Reaches, WholeShape, shape_of}

-- a setting, of no meaning here
abbrev pub plain : Setting
plain = record { version = 1; block = 4194304; trash_days = 1; capacity = 0; inodes = 0; hash = 0; name = codes "broken"; bucket = codes ":memory:" }

abbrev place : ℕ → List ℕ → EntryKey
place dir name = record { dir = dir; name = name }

abbrev a : List ℕ
a = codes "a"

abbrev b : List ℕ
b = codes "b"

abbrev file : Node
file = new_node (File empty_content) FULL_MODE 0

abbrev directory : ℕ → Node
directory parent = new_node (Directory parent) FULL_MODE 0

-- a tree with a root, a trash, and these nodes and entries
abbrev tree : List (ℕ × Node) → List (EntryKey × ℕ) → Tree
tree nodes entries = record (fresh_tree plain 0) {
  nodes = map_of ((ROOT, directory ROOT) ∷ (TRASH_ROOT, directory ROOT) ∷ nodes);
  entries = map_of entries;
  next_inode = 4;
}

-- an entry names an inode that isn't there
abbrev without_node : Tree
without_node = tree [] ((place ROOT a, 2) ∷ [])

without_node_broken : WholeShape (shape_of without_node) → ⊥
unfolding maps_compute
without_node_broken w = false≢true ((w.entry (place ROOT a) 2 refl).there)

-- a directory has two entries
abbrev entered_twice : Tree
entered_twice = tree ((2, directory ROOT) ∷ []) ((place ROOT a, 2) ∷ (place ROOT b, 2) ∷ [])

entered_twice_broken : WholeShape (shape_of entered_twice) → ⊥
unfolding maps_compute
entered_twice_broken w =
    let entered = w.entered 2 ROOT refl refl in
    let same : place ROOT a ≡ place ROOT b = entered.only (place ROOT a) refl ∙ sym (entered.only (place ROOT b) refl) in
    let letters : get_or a 0 0 ≡ get_or b 0 0 = ap (λ (x : EntryKey). get_or x.name 0 0) same in
    omega (arith, letters)

-- two directories are each other's parents, and the root leads to neither
abbrev circle : Tree
circle = tree ((2, directory 3) ∷ (3, directory 2) ∷ []) ((place 3 a, 2) ∷ (place 2 a, 3) ∷ [])

-- the way up from one leads to the other
other_above : (steps parent : ℕ) → Dir 3 ≡ Dir parent → Reaches (shape_of circle).form steps parent → Reaches (shape_of circle).form steps 3
other_above steps parent e h = let same : parent ≡ 3 = cc in subst (Reaches (shape_of circle).form steps) same h

circle_again : (steps parent : ℕ) → Dir 2 ≡ Dir parent → Reaches (shape_of circle).form steps parent → Reaches (shape_of circle).form steps 2
circle_again steps parent e h = let same : parent ≡ 2 = cc in subst (Reaches (shape_of circle).form steps) same h

never : (steps : ℕ) → (Reaches (shape_of circle).form steps 2 → ⊥) × (Reaches (shape_of circle).form steps 3 → ⊥)
unfolding maps_compute
never zero = (λ h. false≢true h, λ h. false≢true h)
never (suc steps) = (λ h. (never steps).1 (other_above steps h.0 h.1 h.2), λ h. (never steps).0 (circle_again steps h.0 h.1 h.2))

circle_broken : WholeShape (shape_of circle) → ⊥
unfolding maps_compute
circle_broken w = let way = w.rooted 2 3 refl in (never way.0).0 way.1

-- a file has no entry, and no session keeps it
abbrev orphan : Tree
orphan = tree ((2, file) ∷ []) []

orphan_broken : WholeShape (shape_of orphan) → ⊥
unfolding maps_compute
orphan_broken w = let kept = w.held 2 refl refl refl in false≢true kept.is

-- a session keeps a file, and isn't there
abbrev without_session : Tree
without_session = record (tree ((2, file) ∷ []) []) { sustained = insert empty_map (record { sid = 1; inode = 2 }) tt }

without_session_broken : WholeShape (shape_of without_session) → ⊥
unfolding maps_compute
without_session_broken w = false≢true ((w.sustains 1 2 refl).session)

-- a node stands at the next inode
abbrev not_below : Tree
not_below = tree ((4, file) ∷ []) ((place ROOT a, 4) ∷ [])

not_below_broken : WholeShape (shape_of not_below) → ⊥
unfolding maps_compute
not_below_broken w = let less = w.below 4 refl refl in omega (arith, less)

-- an entry of the trash is no hour
abbrev no_hour : Tree
no_hour = tree ((2, directory TRASH_ROOT) ∷ []) ((place TRASH_ROOT a, 2) ∷ [])

no_hour_broken : WholeShape (shape_of no_hour) → ⊥
unfolding maps_compute
no_hour_broken w = false≢true (((w.entry (place TRASH_ROOT a) 2 refl).hour refl).hour)

-- an hour stands under the name of another
abbrev another_hour : Tree
another_hour = tree ((hour_inode 1, directory TRASH_ROOT) ∷ []) ((place TRASH_ROOT (hour_name 2), hour_inode 1) ∷ [])

another_hour_broken : WholeShape (shape_of another_hour) → ⊥
unfolding maps_compute names_compute
another_hour_broken w =
    let name : hour_name 2 ≡ hour_name 1 = ((w.entry (place TRASH_ROOT (hour_name 2)) (hour_inode 1) refl).hour refl).name in
    let digits : get_or (hour_name 2) 12 0 ≡ get_or (hour_name 1) 12 0 = ap (λ xs. get_or xs 12 0) name in
    omega (arith, digits)

-- a file in an hour has a second entry
abbrev named_twice : Tree
named_twice = tree ((2, file) ∷ (hour_inode 1, directory TRASH_ROOT) ∷ []) (
    (place ROOT a, 2)
    ∷ (place TRASH_ROOT (hour_name 1), hour_inode 1)
    ∷ (place (hour_inode 1) (trash_name (place ROOT a) 2), 2)
    ∷ []
    )

named_twice_broken : WholeShape (shape_of named_twice) → ⊥
unfolding maps_compute names_compute
named_twice_broken w =
    let only = ((w.entry (place (hour_inode 1) (trash_name (place ROOT a) 2)) 2 refl).trashed refl).only in
    omega (arith, only)
