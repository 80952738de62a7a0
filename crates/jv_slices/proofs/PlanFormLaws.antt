-- A list has one plan of a range.
use Rattle.std.proofs.Common.{◌≡◌, ℕ, ◌+◌, ◌<◌, ◌≤◌, List, [], ◌∷◌, refl, sym, ap, ◌∙◌, subst, arith, ⊎_elim}
use Rattle.std.proofs.lemmas.Bool.{cases_lt}
use Rattle.jv_model.specs.declared.slice.Rec.{Rec}
use Rattle.jv_model.specs.declared.slice.Piece.{Piece}
use Rattle.jv_model.specs.declared.slice.Spot.{Spot}
use Rattle.jv_model.specs.promise.blocks.Slices.{visible, stored_place}
use Rattle.jv_model.specs.blocks.Slices.{IsPiece, IsPlan}
use Rattle.jv_slices.specs.Laws.{PlansAreDetermined}

-- of two pieces that begin at one place the one isn't shorter than the other
pub not_shorter : (list : List Rec) (to : ℕ) (p q : Piece) → IsPiece list to p → IsPiece list to q → p.from ≡ q.from → q.len ≤ p.len
not_shorter list to p q one other e =
    ⊎_elim (λ (short : p.len < q.len).
    let place : p.from + p.len ≡ q.from + p.len = omega (arith, e) in
    let before : p.from + p.len < to = omega (arith, e, other.within) in
    absurd (one.maximal before (ap (visible list) place ∙ other.alike p.len short ∙ ap (visible list) (sym e))))
    (λ long. long) (cases_lt p.len q.len)

pub same_piece : (p q : Piece) → p.from ≡ q.from → p.len ≡ q.len → p.spot ≡ q.spot → p ≡ q
same_piece p q a b c =
    let first : Piece = record { from = q.from; len = p.len; spot = p.spot } in
    let second : Piece = record { from = q.from; len = q.len; spot = p.spot } in
    let one : p ≡ first = ap (λ (n : ℕ). let r : Piece = record { from = n; len = p.len; spot = p.spot } in r) a in
    let two : first ≡ second = ap (λ (n : ℕ). let r : Piece = record { from = q.from; len = n; spot = p.spot } in r) b in
    let three : second ≡ q = ap (λ (s : Spot). let r : Piece = record { from = q.from; len = q.len; spot = s } in r) c in
    one ∙ two ∙ three

pub plans_are_determined : PlansAreDetermined
plans_are_determined list from to [] [] h k = refl
plans_are_determined list from to [] (q ∷ qs) h (begins, is, rest) = absurd (omega (arith, h, begins, is.some, is.within))
plans_are_determined list from to (p ∷ ps) [] (begins, is, rest) k = absurd (omega (arith, k, begins, is.some, is.within))
plans_are_determined list from to (p ∷ ps) (q ∷ qs) (begins, is, rest) (begins', is', rest') =
    let e : p.from ≡ q.from = begins ∙ sym begins' in
    let len : p.len ≡ q.len = omega (arith, not_shorter list to p q is is' e, not_shorter list to q p is' is (sym e)) in
    let spot : p.spot ≡ q.spot = is.spot ∙ ap (stored_place list) e ∙ sym is'.spot in
    let same : p ≡ q = same_piece p q e len spot in
    let N : ℕ → Type 0 = λ n. IsPlan list (from + n) to qs in
    let more : ps ≡ qs = plans_are_determined list (from + p.len) to ps qs rest (subst N (sym len) rest') in
    ap (λ (x : Piece). x ∷ ps) same ∙ ap (λ (xs : List Piece). q ∷ xs) more
