-- Which blocks are listed.
use Rattle.std.specs.Prelude.{◌≡◌, ℕ, ◌≤◌, All, List, length, Option, None, Some}
use Rattle.std.specs.List.{list_any}
use Rattle.std.specs.declared.cmp.Ordering.{Ordering}
use Rattle.std.specs.Ordering.{nat_cmp, ordering_then}
use Rattle.std.specs.BTreeMap.{is_at}
use Rattle.std.specs.BTreeSet.{BTreeSet}
use Rattle.jv_model.specs.declared.slice.BlockId.{BlockId}
use Rattle.jv_model.specs.blocks.Slices.{is_same_block}
use Rattle.jv_model.specs.declared.slice.Piece.{Piece}
use Rattle.jv_slices.specs.declared.blocks.OrderedBlock.{OrderedBlock}
use Rattle.jv_slices.specs.declared.blocks.TheConstants.{FEW}

-- at most `FEW` pieces, none longer than a block
abbrev pub AreFew : ℕ → List Piece → Type 0
AreFew block pieces = (length pieces ≤ FEW) × All (λ piece. piece.len ≤ block) pieces

abbrev pub ordered_of : BlockId → OrderedBlock
ordered_of b = record { id = b.id; index = b.index; size = b.size }

-- the order of sets and maps of blocks: by id, index and size
abbrev pub ordered_cmp : OrderedBlock → OrderedBlock → Ordering
ordered_cmp a b =
    ordering_then (nat_cmp a.id b.id) (ordering_then (nat_cmp a.index b.index)
    (nat_cmp a.size b.size))

-- the set has exactly the blocks of the list
abbrev pub Lists : List BlockId → List OrderedBlock → Type 0
Lists blocks listed = (b : BlockId)
    → list_any (is_at (ordered_cmp (ordered_of b))) listed ≡ list_any (is_same_block b) blocks

-- where there is no set, the list itself is looked through
abbrev pub ListsIn : List BlockId → Option (BTreeSet OrderedBlock) → Type 0
ListsIn blocks None = Unit {0}
ListsIn blocks (Some set) = Lists blocks set.keys
