use Rattle.std.proofs.Common.{◌≡◌, ℕ, ◌-◌, ◌∙◌, ◌+◌, List, length, drop, slice_get, ap, sym, subst}
use Rattle.std.specs.Prelude.{All, IfSome, IsSomeAnd}
use Rattle.std.proofs.lemmas.List.{with_items_is}
use Rattle.jv_model.specs.declared.slice.BlockId.{BlockId}
use Rattle.jv_model.specs.promise.blocks.Slices.{stored_place}
use Rattle.jv_slices_reading.specs.declared.copying.Overlap.{Overlap}
use Rattle.jv_slices_reading.specs.Copies.{Fits, HasBytes, IsCopied}
use Rattle.jv_slices_reading.specs.Overlaps.{overlaps_at}
use Rattle.jv_slices_reading.specs.Parts.{IsKnownOf, Part, ReadsAs}
use Rattle.jv_slices_reading.proofs.PartLaws.{fill_reads, next_below, next_has, overlaps_fit}
use Rattle.jv_slices_reading.proofs.window.WindowRead.fill.Goals as goal

pub copy_shown-requires : goal.copy_shown-requires
copy_shown-requires c =
    let w = c.self.inside in
    let b = c.index-block.result.now in
    let len : ℕ = w.to - w.from in
    let places = λ (n : ℕ). stored_place w.list.value (w.from + n) in
    let asks : Part → Type 0 = λ p. IsSomeAnd (slice_get p.left 0) (λ (q : BlockId). length c.args.bytes.now ≡ q.size) in
    let long : length c.args.bytes.now ≡ b.size =
    next_has w.needed.items w.filled b (λ (q : BlockId). length c.args.bytes.now ≡ q.size) c.index-block.ensures (subst asks (sym c.self.view_is) c.requires) in
    let whole : len ≡ length c.deref_mut.result.now = sym c.self.invariant.long ∙ ap (length {A = ℕ}) (sym c.deref_mut.ensures.value) in
    subst (λ (n : ℕ). All (Fits (length c.args.bytes.now) n) (overlaps_at w.table b)) whole
    (overlaps_fit w.block places b len (length c.args.bytes.now) (overlaps_at w.table b) long (c.self.invariant.has.each b))

pub returns-clause-reads : goal.returns-clause-reads
returns-clause-reads c = λ known_bytes is_known reads.
    let w = c.self.inside in
    let b = c.index-block.result.now in
    let after = c.copy_shown.new.part in
    let asks : Part → Type 0 = λ p. IsSomeAnd (slice_get p.left 0) (λ (q : BlockId). length c.args.bytes.now ≡ q.size) in
    let below = next_below w.needed.items w.filled (λ (q : BlockId). length c.args.bytes.now ≡ q.size) (subst asks (sym c.self.view_is) c.requires) in
    let is_known' = subst (λ (p : Part). IfSome (slice_get p.left 0) (IsKnownOf known_bytes p.block c.args.bytes.now)) (sym c.self.view_is) is_known in
    let reads' = subst (λ (p : Part). ReadsAs known_bytes p) (sym c.self.view_is) reads in
    let copied : (byte : ℕ → ℕ) → All (HasBytes byte c.args.bytes.now) (overlaps_at w.table b) → IsCopied byte (overlaps_at w.table b) w.bytes.items after =
    let C : List Overlap → List ℕ → Type 0 = λ os xs. (byte : ℕ → ℕ) → All (HasBytes byte c.args.bytes.now) os → IsCopied byte os xs after in
    subst (λ (xs : List ℕ). C (overlaps_at w.table b) xs) c.deref_mut.ensures.value c.copy_shown.ensures in
    let kept : length after ≡ w.bytes.len = c.copy_shown.auto.part ∙ c.deref_mut.ensures.len in
    let with_bytes : List ℕ → Part = λ xs. record { list = w.list.value; from = w.from; to = w.to; block = w.block; left = drop (w.filled + 1) w.needed.items; bytes = xs } in
    subst (λ (xs : List ℕ). ReadsAs known_bytes (with_bytes xs)) (sym (with_items_is w.bytes after kept))
    (fill_reads known_bytes w.list.value w.from w.to w.block w.needed.items w.filled b c.args.bytes.now w.bytes.items after (overlaps_at w.table)
    c.index-block.ensures below c.self.invariant.has copied c.self.invariant.long is_known' reads')
