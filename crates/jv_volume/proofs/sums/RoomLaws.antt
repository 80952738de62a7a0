-- When the limits of a volume let one more node in, by its counters.
use Rattle.std.proofs.Common.{◌≡◌, ℕ, suc, ◌+◌, ◌<◌, Bool, true, false, ◌&&◌, Ok, ap, ◌∙◌, arith}
use Rattle.std.specs.Prelude.{nat_le, nat_lt}
use Rattle.std.proofs.lemmas.Bool.{or_left, or_from, le-leb, leb-false, lt-leb, ltb-true}
use Rattle.jv_model.specs.declared.limits.TheConstants.{FULL_COUNT, SPACE_UNIT}
use Rattle.jv_model.specs.declared.fault.Fault.TheVariants.{NoSpace}
use Rattle.jv_model.specs.declared.row.Counters.{Counters}
use Rattle.jv_model.specs.promise.tree.Attempt.{◌>>=◌, require}
use Rattle.jv_model.specs.promise.tree.Tree.{Tree, Node, EntryKey, kind_space, space_limit, inode_limit, sum_fits, used_space, used_inodes}
use Rattle.jv_model.specs.promise.tree.Making.{with_next, entered}
use Rattle.jv_volume.specs.promise.Shape.{WholeShape, shape_of}
use Rattle.jv_volume.proofs.sums.LinkLaws.{next_absent, next_low}
use Rattle.jv_volume.proofs.stored.StoredLaws.{HasCounters}
use Rattle.jv_volume.proofs.sums.SumLaws.{counted, node_space-counted, node_count-counted, used_space-with_next, used_inodes-with_next}

-- a sum that grew fits where it is within its limit
sum_fits-grown : (limit before after : ℕ) → before < after → (b : Bool) → nat_le after limit ≡ b → sum_fits limit before after ≡ b
sum_fits-grown limit before after grew true e = or_left _ _ e
sum_fits-grown limit before after grew false e = or_from _ _ e (lt-leb after before grew)

lt_is_le : (n limit : ℕ) (b : Bool) → nat_lt n limit ≡ b → nat_le (n + 1) limit ≡ b
lt_is_le n limit true e = (let less = ltb-true n limit e in le-leb (n + 1) limit (omega (arith, less)))
lt_is_le n limit false e = (let more = leb-false (suc n) limit e in lt-leb (n + 1) limit (omega (arith, more)))

module _ (t : Tree) (now : ℕ) (place : EntryKey) (node : Node) (c : Counters) (shape : WholeShape (shape_of t)) (has : HasCounters t c)
    (unit : kind_space node.kind ≡ SPACE_UNIT) where
  abbrev after : Tree
  after = with_next t now place node

  space_after : used_space after ≡ c.used_space + SPACE_UNIT
  space_after =
      let low = next_low t shape in
      used_space-with_next t now place node (next_absent t shape) ∙ (λ i. has.space i + (node_space-counted t.next_inode node (counted t.next_inode low.0 low.1) ∙ unit) i)

  inodes_after : used_inodes after ≡ c.used_inodes + 1
  inodes_after =
      let low = next_low t shape in
      used_inodes-with_next t now place node (next_absent t shape) ∙ (λ i. has.inodes i + node_count-counted t.next_inode node (counted t.next_inode low.0 low.1) i)

  space_fits : (b : Bool) → nat_le (c.used_space + SPACE_UNIT) (space_limit t.setting) ≡ b → sum_fits (space_limit t.setting) (used_space t) (used_space after) ≡ b
  space_fits b e =
      let was = has.space in
      let is = space_after in
      sum_fits-grown (space_limit t.setting) (used_space t) (used_space after) (omega (arith, was, is)) b (ap (λ n. nat_le n (space_limit t.setting)) is ∙ e)

  inodes_fit : (b : Bool) → nat_lt c.used_inodes (inode_limit t.setting) ≡ b → sum_fits (inode_limit t.setting) (used_inodes t) (used_inodes after) ≡ b
  inodes_fit b e =
      let was = has.inodes in
      let is = inodes_after in
      sum_fits-grown (inode_limit t.setting) (used_inodes t) (used_inodes after) (omega (arith, was, is)) b
      (ap (λ n. nat_le n (inode_limit t.setting)) is ∙ lt_is_le c.used_inodes (inode_limit t.setting) b e)

  numbers_left : nat_lt t.next_inode FULL_COUNT ≡ nat_lt c.inode FULL_COUNT
  numbers_left = ap (λ n. nat_lt n FULL_COUNT) has.next_inode

  by_tests : (a b d : Bool) → nat_lt t.next_inode FULL_COUNT ≡ a → sum_fits (space_limit t.setting) (used_space t) (used_space after) ≡ b
      → sum_fits (inode_limit t.setting) (used_inodes t) (used_inodes after) ≡ d
      → entered t now place node ≡ (require a NoSpace >>= (λ _. require (b && d) NoSpace >>= (λ _. Ok after)))
  by_tests a b d p q r = λ i. require (p i) NoSpace >>= (λ _. require (q i && r i) NoSpace >>= (λ _. Ok after))

  -- one more node of one unit of space is let in by numbers, space and inodes that are left
  pub entered-by : (a b d : Bool) → nat_lt c.inode FULL_COUNT ≡ a → nat_le (c.used_space + SPACE_UNIT) (space_limit t.setting) ≡ b
      → nat_lt c.used_inodes (inode_limit t.setting) ≡ d
      → entered t now place node ≡ (require a NoSpace >>= (λ _. require (b && d) NoSpace >>= (λ _. Ok after)))
  entered-by a b d p q r = by_tests a b d (numbers_left ∙ p) (space_fits b q) (inodes_fit d r)
