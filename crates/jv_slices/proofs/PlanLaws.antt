-- Laws of what a list of records shows, and of plans.
use Rattle.std.proofs.Common.{◌≡◌, ◌≢◌, ℕ, ◌+◌, ◌-◌, ◌<◌, ◌≤◌, Bool, true, false, cond, List, [], ◌∷◌, ◌++◌, length, get_or, drop, Option, Some, None, refl, sym, ap, ◌∙◌, subst, arith, ⊎_elim}
use Rattle.std.specs.Prelude.{find, reverse, All, Contains, IfSome, nat_le, nat_lt, ◌==◌, ◌&&◌}
use Rattle.std.proofs.lemmas.Bool.{cases_Bool, cases_lt, false≢true, and_parts, leb-true, ltb-true, eqb-false}
use Rattle.std.proofs.lemmas.List.{reverse-append, append_assoc, drop_more}
use Rattle.std.proofs.lemmas.List.Elements.{All-head, All-tail, All-push, All-contains_itself}
use Rattle.jv_model.specs.declared.limits.TheConstants.{WINDOW}
use Rattle.jv_model.specs.declared.slice.Rec.{Rec}
use Rattle.jv_model.specs.declared.slice.Piece.{Piece}
use Rattle.jv_model.specs.declared.slice.Spot.TheVariants.{Zero, Slice}
use Rattle.jv_model.specs.promise.blocks.Slices.{IsRecord, is_part, covers, visible, place_by, stored_place}
use Rattle.jv_model.specs.blocks.Slices.{place_after, IsPiece, IsPlan, IsAsStored, IsPart, LiesIn}
use Rattle.jv_slices.specs.declared.layout.Stretch.{Stretch}
use Rattle.jv_slices.specs.Stretches.{Shows, Turns, Differ, piece_of}
use Rattle.jv_slices.specs.Shown.{NamesRecord, IsOfRecord, EndsBy}

-- what is found passes
pub found_passes : {X : Type 0} (p : X → Bool) (xs : List X) (x : X) → find p xs ≡ Some x → p x ≡ true
found_passes {X} p [] x e = let never : ⊥ = cc in absurd never
found_passes {X} p (y ∷ ys) x e = go (p y) refl e (λ h. found_passes p ys x h)
  where
    go : (b : Bool) → p y ≡ b → cond b (Some y) (find p ys) ≡ Some x → (find p ys ≡ Some x → p x ≡ true) → p x ≡ true
    go true f h later = let same : y ≡ x = cc in subst (λ (z : X). p z ≡ true) same f
    go false f h later = later h

-- and has what all have
pub found_All : {X : Type 0} (P : X → Type 0) (p : X → Bool) (xs : List X) (x : X) → All P xs → find p xs ≡ Some x → P x
found_All {X} P p [] x all e = let never : ⊥ = cc in absurd never
found_All {X} P p (y ∷ ys) x all e = go (p y) e (λ h. found_All P p ys x (All-tail P y ys all) h)
  where
    go : (b : Bool) → cond b (Some y) (find p ys) ≡ Some x → (find p ys ≡ Some x → P x) → P x
    go true h later = let same : y ≡ x = cc in subst P same (All-head P y ys all)
    go false h later = later h

pub All-reverse : {X : Type 0} (P : X → Type 0) (xs : List X) → All P xs → All P (reverse xs)
All-reverse {X} P [] all = all
All-reverse {X} P (x ∷ xs) all =
    let e : reverse (x ∷ xs) ≡ reverse xs ++ x ∷ [] = reverse-append (x ∷ []) xs in
    subst (λ (ys : List X). All P ys) (sym e) (All-push P (reverse xs) x (All-reverse P xs (All-tail P x xs all)) (All-head P x xs all))

-- a record that is seen covers the position
pub visible_covers : (list : List Rec) (position : ℕ) (r : Rec) → visible list position ≡ Some r → (r.pos ≤ position) × (position < r.pos + r.len)
visible_covers list position r e =
    let both = and_parts (nat_le r.pos position) (nat_lt position (r.pos + r.len)) (found_passes (covers position) (reverse list) r e) in
    (leb-true r.pos position both.0, ltb-true position (r.pos + r.len) both.1)

pub visible_is_record : (list : List Rec) (position : ℕ) (r : Rec) → All IsRecord list → visible list position ≡ Some r → IsRecord r
visible_is_record list position r all e = found_All IsRecord (covers position) (reverse list) r (All-reverse IsRecord list all) e

pub shows_rises : (seen : ℕ → Option Rec) (from to : ℕ) (stretches : List Stretch) → Shows seen from to stretches → from ≤ to
shows_rises seen from to [] e = omega (arith, e)
shows_rises seen from to (stretch ∷ stretches) (up, same, rest) = omega (arith, up, shows_rises seen stretch.end to stretches rest)

-- the next stretch sees something else where the first one ends
pub shows_turn : (seen : ℕ → Option Rec) (r : Option Rec) (from to : ℕ) (stretches : List Stretch) → Shows seen from to stretches → Turns r stretches → from < to → seen from ≢ r
shows_turn seen r from to [] e turns up = λ same. let never : ⊥ = omega (arith, e) in never
shows_turn seen r from to (stretch ∷ stretches) (rises, same, rest) turns up = λ e. turns (sym e ∙ same from (omega arith) rises)

-- the first stretch is a piece
pub piece_from_stretch : (list : List Rec) (from to : ℕ) (stretch : Stretch) (stretches : List Stretch) → Shows (visible list) from to (stretch ∷ stretches) → Differ (stretch ∷ stretches) → IsPiece list to (piece_of from stretch)
unfolding stored_place
piece_from_stretch list from to stretch stretches (up, same, rest) (turns, more) =
    let seen : visible list from ≡ stretch.seen = same from (omega arith) up in
    let end : from + (stretch.end - from) ≡ stretch.end = omega (arith, up) in
    record {
      some = omega (arith, up);
      within = omega (arith, up, shows_rises (visible list) stretch.end to stretches rest);
      alike = λ n below. same (from + n) (omega arith) (omega (arith, up)) ∙ sym seen;
      maximal = λ before e. shows_turn (visible list) stretch.seen stretch.end to stretches rest turns (omega (arith, end)) (sym (ap (visible list) end) ∙ e ∙ seen);
      spot = ap (λ (r : Option Rec). place_by r from) (sym seen);
    }

-- the places that a piece has are the stored ones
pub as_stored_from_stretch : (list : List Rec) (from to : ℕ) (stretch : Stretch) (stretches : List Stretch) → Shows (visible list) from to (stretch ∷ stretches) → IsAsStored list (piece_of from stretch)
unfolding stored_place
as_stored_from_stretch list from to stretch stretches (up, same, rest) n below =
    let at : visible list (from + n) ≡ stretch.seen = same (from + n) (omega arith) (omega (arith, up)) in
    let first : visible list from ≡ stretch.seen = same from (omega arith) up in
    moved stretch.seen first ∙ ap (λ (r : Option Rec). place_by r (from + n)) (sym at)
  where
    moved : (r : Option Rec) → visible list from ≡ r → place_after (place_by r from) n ≡ place_by r (from + n)
    moved None e = refl
    moved (Some r) e = let covered = visible_covers list from r e in slice_moved (r.id == 0) r.id r.size (r.off + (from - r.pos)) (r.off + (from + n - r.pos)) n (omega (arith, covered.0))
      where
        slice_moved : (zero : Bool) (id size at at' n : ℕ) → at + n ≡ at' → place_after (cond zero Zero (Slice id size at)) n ≡ cond zero Zero (Slice id size at')
        slice_moved true id size at at' n e = refl
        slice_moved false id size at at' n e = ap (Slice id size) e

-- a record of a slice lies in it
in_slice : (r : Rec) → IsRecord r → (r.id == 0) ≡ false → r.off + r.len ≤ r.size
in_slice r is named =
    let part = (and_parts (nat_le 1 r.len && nat_le (r.pos + r.len) WINDOW) (is_part r) is).1 in
    leb-true (r.off + r.len) r.size (ap (λ b. cond b (r.size == 0 && r.off == 0) (nat_le (r.off + r.len) r.size)) (sym named) ∙ part)

-- and lie in the slice
pub part_from_stretch : (list : List Rec) (from to : ℕ) (stretch : Stretch) (stretches : List Stretch) → All IsRecord list → Shows (visible list) from to (stretch ∷ stretches) → IsPart (piece_of from stretch)
part_from_stretch list from to stretch stretches all (up, same, rest) =
    record { some = omega (arith, up); inside = within stretch.seen (same from (omega arith) up) (same (stretch.end - 1) (omega (arith, up)) (omega (arith, up))) }
  where
    within : (r : Option Rec) → visible list from ≡ r → visible list (stretch.end - 1) ≡ r → LiesIn (stretch.end - from) (place_by r from)
    within None e f = tt
    within (Some r) e f =
        let fits = visible_is_record list from r all e in
        let first = visible_covers list from r e in
        let last = visible_covers list (stretch.end - 1) r f in
        ⊎_elim (λ (z : (r.id == 0) ≡ true). lies (r.id == 0) r.id r.size (r.off + (from - r.pos)) (stretch.end - from) (λ n. absurd (false≢true (sym n ∙ z))))
        (λ (nz : (r.id == 0) ≡ false). lies (r.id == 0) r.id r.size (r.off + (from - r.pos)) (stretch.end - from) (λ n. omega (arith, up, first.0, last.1, in_slice r fits nz))) (cases_Bool (r.id == 0))
      where
        lies : (zero : Bool) (id size at len : ℕ) → (zero ≡ false → at + len ≤ size) → LiesIn len (cond zero Zero (Slice id size at))
        lies true id size at len h = tt
        lies false id size at len h = h refl

-- and end by the end of the range
pub ends_from_stretch : (list : List Rec) (from to : ℕ) (stretch : Stretch) (stretches : List Stretch) → Shows (visible list) from to (stretch ∷ stretches) → EndsBy to (piece_of from stretch)
ends_from_stretch list from to stretch stretches (up, same, rest) = omega (arith, up, shows_rises (visible list) stretch.end to stretches rest)

-- and are of a slice that a record names
pub named_from_stretch : (list : List Rec) (from to : ℕ) (stretch : Stretch) (stretches : List Stretch) → Shows (visible list) from to (stretch ∷ stretches) → IsOfRecord list (piece_of from stretch)
named_from_stretch list from to stretch stretches (up, same, rest) = named stretch.seen (same from (omega arith) up)
  where
    named : (r : Option Rec) → visible list from ≡ r → NamesRecord list (place_by r from)
    named None e = tt
    named (Some r) e = by_id (r.id == 0) refl
      where
        by_id : (zero : Bool) → (r.id == 0) ≡ zero → NamesRecord list (cond zero Zero (Slice r.id r.size (r.off + (from - r.pos))))
        by_id true z = tt
        by_id false z =
            let some : 0 < r.id = ⊎_elim (λ (none : r.id < 1). absurd (eqb-false r.id 0 z (omega arith))) (λ (some : 1 ≤ r.id). omega arith) (cases_lt r.id 1) in
            (some, (r, found_All (Contains list) (covers from) (reverse list) r (All-reverse (Contains list) list (All-contains_itself list)) e, refl, refl))

-- what is seen, if anything, is a record that covers the position
pub seen_fits : (list : List Rec) (position : ℕ) (r : Option Rec) → All IsRecord list → visible list position ≡ r → IfSome r (λ r. IsRecord r × (covers position r ≡ true))
seen_fits list position None all e = tt
seen_fits list position (Some r) all e = (visible_is_record list position r all e, found_passes (covers position) (reverse list) r e)

pub stretch_seen_fits : (list : List Rec) (from to : ℕ) (stretch : Stretch) (stretches : List Stretch) → All IsRecord list → Shows (visible list) from to (stretch ∷ stretches) → IfSome stretch.seen (λ r. IsRecord r × (covers from r ≡ true))
stretch_seen_fits list from to stretch stretches all (up, same, rest) = seen_fits list from stretch.seen all (same from (omega arith) up)

-- one more piece of a plan that is to go on
pub plan_push : (list : List Rec) (from at end to : ℕ) (pieces : List Piece) (piece : Piece) → ((rest : List Piece) → IsPlan list at to rest → IsPlan list from to (pieces ++ rest)) → IsPiece list to piece → piece.from ≡ at → at + piece.len ≡ end → (rest : List Piece) → IsPlan list end to rest → IsPlan list from to (pieces ++ piece ∷ [] ++ rest)
plan_push list from at end to pieces piece before is begins ends rest goes_on =
    let P : List Piece → Type 0 = λ xs. IsPlan list from to xs in
    let N : ℕ → Type 0 = λ n. IsPlan list n to rest in
    subst P (sym (append_assoc pieces (piece ∷ []) rest)) (before (piece ∷ rest) (begins, is, subst N (sym ends) goes_on))

pub differ_drop : (stretches : List Stretch) (k : ℕ) (d : Stretch) → k < length stretches → Differ (drop k stretches) → Differ (get_or stretches k d ∷ drop (k + 1) stretches)
differ_drop stretches k d below h = let P : List Stretch → Type 0 = λ rs. Differ rs in subst P (drop_more stretches k d below) h
