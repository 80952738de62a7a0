use Rattle.std.proofs.Common.{◌≡◌, ◌≢◌, ℕ, ◌+◌, ◌-◌, ◌<◌, List, length, get_or, arith, subst, sym, ap, ◌∙◌, refl}
use Rattle.jv_slices.specs.declared.layout.Stretch.{Stretch}
use Rattle.jv_slices.specs.Stretches.{IsLayout}
use Rattle.jv_slices.proofs.StretchLaws.{layout_push, layout_grow}
use Rattle.jv_slices.proofs.layout.show.Goals as goal

pub returns-then-sees_last : goal.returns-then-sees_last
returns-then-sees_last c = λ all start h rises same.
    let items = c.args.stretches.now.items in
    let last = c.index_mut.result.now in
    let n = c.len-last.result in
    let whole : n ≡ length items = omega (arith, c.args.stretches.now.ok.0) in
    let some : 0 < length items = subst (λ (xs : List Stretch). 0 < length xs) c.deref.ensures.value (c.if-sees_last.ensures.some refl) in
    let at : last.seen ≡ c.args.seen = ap (λ (r : Stretch). r.seen) c.index_mut.ensures.value ∙ subst (λ (xs : List Stretch). (get_or xs (n - 1) last).seen ≡ c.args.seen) c.deref.ensures.value (subst (λ (k : ℕ). (get_or c.deref.result.now (k - 1) last).seen ≡ c.args.seen) (ap (length {A = Stretch}) c.deref.ensures.value ∙ sym whole) (c.if-sees_last.ensures.same refl last)) in
    layout_grow all start c.args.from c.args.to n c.args.seen items last whole some h rises same at c.index_mut.ensures.value

pub returns-in_ok-push : goal.returns-in_ok-push
returns-in_ok-push c = λ all start h rises same.
    let items = c.args.stretches.now.items in
    let other = subst (λ (xs : List Stretch). (k : ℕ) (d : Stretch) → length xs ≡ k + 1 → (get_or xs k d).seen ≢ c.args.seen) c.deref.ensures.value (c.if-sees_last.ensures.other refl) in
    subst (λ (xs : List Stretch). IsLayout all start c.args.to xs) (sym c.in_ok-push.ensures.items)
    (layout_push all start c.args.from c.args.to c.args.seen items h (omega arith) same other)
