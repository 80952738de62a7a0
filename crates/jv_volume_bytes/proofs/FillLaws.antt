-- Laws of ranges that are put over others, and of records that fill a range: a list with them shows their places over it. The pieces of
-- a plan make such records.
use Rattle.std.proofs.Common.{◌≡◌, ◌≢◌, ℕ, ◌+◌, ◌-◌, ◌*◌, ◌<◌, ◌≤◌, Bool, true, false, cond, List, [], ◌∷◌, ◌++◌, length, Option, Some, None, inl, inr, refl, sym, ap, subst, ◌∙◌, append_assoc, arith}
use Rattle.std.specs.Prelude.{nat_le, nat_lt, ◌==◌, ◌&&◌, All}
use Rattle.std.proofs.lemmas.Bool.{and_parts, and_from, and_left, and_right, leb-true, ltb-true, cases_lt, cond-true, cond-false, lt-ltb, le-ltb, le-leb, lt-leb, eqb-false, ne_eqb}
use Rattle.std.proofs.lemmas.List.{append-nil}
use Rattle.std.proofs.lemmas.List.Elements.{All-head, All-tail}
use Rattle.std.specs.List.{AllByRecursion}
use Rattle.jv_model.specs.declared.limits.TheConstants.{WINDOW}
use Rattle.jv_model.specs.declared.slice.Rec.{Rec}
use Rattle.jv_model.specs.declared.slice.Spot.{Spot}
use Rattle.jv_model.specs.declared.slice.Spot.TheVariants.{Zero, Slice}
use Rattle.jv_model.specs.declared.slice.Piece.{Piece}
use Rattle.jv_model.specs.promise.blocks.Slices.{IsRecord, visible, place_by, stored_place, shown}
use Rattle.jv_model.specs.blocks.Slices.{place_after, LiesIn, IsPart, IsPlan, IsAsStored}
use Rattle.jv_volume.specs.promise.Slices.{place_in}
use Rattle.jv_volume_bytes.specs.Places.{Lists, with_list, put_over}
use Rattle.jv_volume_bytes.specs.Fills.{Fills, record_at_spot, records_of_plan}
use Rattle.jv_volume_bytes.proofs.PlaceLaws.{record_ends, record_some, stored_place-push, place_in-over}
use Rattle.jv_volume_bytes.proofs.ByteLaws.{shown-slice}

-- ---- ranges put over others

module _ (places : ℕ → Spot) (from len : ℕ) (new : ℕ → Spot) (p : ℕ) where
  pub over-here : from ≤ p → p < from + len → put_over places from len new p ≡ new (p - from)
  over-here low high = cond-true _ _ _ (and_from _ _ (le-leb from p low) (lt-ltb p (from + len) high))

  pub over-before : p < from → put_over places from len new p ≡ places p
  over-before before = cond-false _ _ _ (and_left _ _ (lt-leb from p before))

  pub over-past : from + len ≤ p → put_over places from len new p ≡ places p
  over-past past = cond-false _ _ _ (and_right _ _ (le-ltb p (from + len) past))

-- no position
pub over-none : (places : ℕ → Spot) (from : ℕ) (new : ℕ → Spot) (p : ℕ) → put_over places from 0 new p ≡ places p
over-none places from new p = elim (cases_lt p from) [
  | inl before ↦ over-before places from 0 new p before
  | inr high ↦ over-past places from 0 new p (omega (arith, high))
]

-- the same places put over the same
pub over-same : (places others : ℕ → Spot) (from len : ℕ) (new also : ℕ → Spot) (p : ℕ) → places p ≡ others p
    → ((k : ℕ) → k < len → new k ≡ also k) → put_over places from len new p ≡ put_over others from len also p
over-same places others from len new also p same alike = go (nat_le from p && nat_lt p (from + len)) refl
  where
    go : (b : Bool) → (nat_le from p && nat_lt p (from + len)) ≡ b → cond b (new (p - from)) (places p) ≡ cond b (also (p - from)) (others p)
    go true e =
        let both = and_parts (nat_le from p) (nat_lt p (from + len)) e in
        alike (p - from) (omega (arith, leb-true from p both.0, ltb-true p (from + len) both.1))
    go false e = same

-- a range, and one that follows it
pub over-join : (places : ℕ → Spot) (from n m : ℕ) (new later : ℕ → Spot) → ((k : ℕ) → later k ≡ new (n + k))
    → (p : ℕ) → put_over (put_over places from n new) (from + n) m later p ≡ put_over places from (n + m) new p
over-join places from n m new later follows p = elim (cases_lt p (from + n)) [
  | inl early ↦ over-before (put_over places from n new) (from + n) m later p early ∙ elim (cases_lt p from) [
    | inl before ↦ over-before places from n new p before ∙ sym (over-before places from (n + m) new p before)
    | inr high ↦ over-here places from n new p high early ∙ sym (over-here places from (n + m) new p high (omega (arith, early)))
  ]
  | inr low ↦ elim (cases_lt p (from + n + m)) [
    | inl here ↦ over-here (put_over places from n new) (from + n) m later p low here ∙ follows (p - (from + n)) ∙ ap new (omega (arith, low))
        ∙ sym (over-here places from (n + m) new p (omega (arith, low)) (omega (arith, here)))
    | inr past ↦ over-past (put_over places from n new) (from + n) m later p past ∙ over-past places from n new p low
        ∙ sym (over-past places from (n + m) new p (omega (arith, past)))
  ]
]

-- ---- records that fill a range

pub fills-rises : (places : ℕ → Spot) (from to : ℕ) (rs : List Rec) → Fills places from to rs → from ≤ to
fills-rises places from to [] e = omega (arith, e)
fills-rises places from to (r ∷ rs) (at, is, shows, rest) = omega (arith, fills-rises places (from + r.len) to rs rest)

-- they end in their window
pub fills-ends : (places : ℕ → Spot) (from to : ℕ) (rs : List Rec) → from ≤ WINDOW → Fills places from to rs → to ≤ WINDOW
fills-ends places from to [] small e = omega (arith, small, e)
fills-ends places from to (r ∷ rs) small (at, is, shows, rest) =
    fills-ends places (from + r.len) to rs (omega (arith, record_ends r is, at)) rest

-- those of a range, and of one that follows it
pub fills-append : (places : ℕ → Spot) (from middle to : ℕ) (rs more : List Rec) → Fills places from middle rs → Fills places middle to more
    → Fills places from to (rs ++ more)
fills-append places from middle to [] more e later = subst (λ n. Fills places n to more) (sym e) later
fills-append places from middle to (r ∷ rs) more (at, is, shows, rest) later =
    (at, is, shows, fills-append places (from + r.len) middle to rs more rest later)

-- a list with them shows their places
pub fills-shows : (places : ℕ → Spot) (l rs : List Rec) (from to : ℕ) → Fills places from to rs
    → (q : ℕ) → stored_place (l ++ rs) q ≡ put_over (stored_place l) from (to - from) (λ k. places (from + k)) q
fills-shows places l [] from to e q =
    ap (λ list. stored_place list q) (append-nil l) ∙ sym (over-none (stored_place l) from (λ k. places (from + k)) q)
    ∙ ap (λ n. put_over (stored_place l) from n (λ k. places (from + k)) q) (omega (arith, e))
fills-shows places l (r ∷ rs) from to (at, is, shows, rest) q =
    ap (λ list. stored_place list q) (sym (append_assoc l (r ∷ []) rs))
    ∙ fills-shows places (l ++ r ∷ []) rs (from + r.len) to rest q
    ∙ over-same (stored_place (l ++ r ∷ [])) (put_over (stored_place l) from r.len (λ k. places (from + k))) (from + r.len) (to - (from + r.len))
    (λ k. places (from + r.len + k)) (λ k. places (from + r.len + k)) q first (λ k low. refl)
    ∙ over-join (stored_place l) from r.len (to - (from + r.len)) (λ k. places (from + k)) (λ k. places (from + r.len + k)) (λ k. ap places (omega arith)) q
    ∙ ap (λ n. put_over (stored_place l) from n (λ k. places (from + k)) q)
    (omega (arith, fills-rises places (from + r.len) to rs rest))
  where
    first : stored_place (l ++ r ∷ []) q ≡ put_over (stored_place l) from r.len (λ k. places (from + k)) q
    first = stored_place-push l r q ∙ ap (λ n. put_over (stored_place l) n r.len (shown r) q) at
        ∙ over-same (stored_place l) (stored_place l) from r.len (shown r) (λ k. places (from + k)) q refl shows

-- and so does a file with them in a window
pub place_in-fill : (places : ℕ → Spot) (lists : Lists) (w : ℕ) (l rs : List Rec) (from to : ℕ) → l ≡ lists w → from ≤ WINDOW
    → Fills places from to rs
    → (p : ℕ) → place_in (with_list w (l ++ rs) lists) p ≡ put_over (place_in lists) (w * WINDOW + from) (to - from) (λ k. places (from + k)) p
place_in-fill places lists w l rs from to same small fills =
    place_in-over lists w l (l ++ rs) from (to - from) (λ k. places (from + k)) same
    (omega (arith, fills-ends places from to rs small fills, fills-rises places from to rs fills, small)) (fills-shows places l rs from to fills)

-- ---- the records of a plan

-- where a list shows a slice, that has a number
pub shows_named : (l : List Rec) (q id size at : ℕ) → stored_place l q ≡ Slice id size at → id ≢ 0
unfolding stored_place
shows_named l q id size at e = by_record (visible l q) e
  where
    by_id : (r : Rec) (zero : Bool) → (r.id == 0) ≡ zero → cond zero Zero (Slice r.id r.size (r.off + (q - r.pos))) ≡ Slice id size at → id ≢ 0
    by_id r true z f = absurd (cc)
    by_id r false z f = λ none. let same : r.id ≡ id = cc in eqb-false r.id 0 z (same ∙ none)

    by_record : (o : Option Rec) → place_by o q ≡ Slice id size at → id ≢ 0
    by_record None f = absurd (cc)
    by_record (Some r) f = by_id r (r.id == 0) refl f

-- the record of a part, which shows what the part does
pub spot_record-is : (spot : Spot) (pos len : ℕ) → ((id size at : ℕ) → spot ≡ Slice id size at → id ≢ 0) → 1 ≤ len → LiesIn len spot → pos + len ≤ WINDOW
    → IsRecord (record_at_spot pos len spot)
spot_record-is Zero pos len named some inside small = and_from _ _ (and_from _ _ (le-leb 1 len some) (le-leb (pos + len) WINDOW small)) refl
spot_record-is (Slice id size at) pos len named some inside small =
    and_from _ _ (and_from _ _ (le-leb 1 len some) (le-leb (pos + len) WINDOW small))
    (cond-false _ _ _ (ne_eqb id 0 (named id size at refl)) ∙ le-leb (at + len) size inside)

pub spot_record-shows : (spot : Spot) (pos len : ℕ) → ((id size at : ℕ) → spot ≡ Slice id size at → id ≢ 0)
    → (k : ℕ) → shown (record_at_spot pos len spot) k ≡ place_after spot k
spot_record-shows Zero pos len named k = refl
spot_record-shows (Slice id size at) pos len named k = cond-false _ _ _ (ne_eqb id 0 (named id size at refl))

spot_record-pos : (spot : Spot) (pos len : ℕ) → (record_at_spot pos len spot).pos ≡ pos
spot_record-pos Zero pos len = refl
spot_record-pos (Slice id size at) pos len = refl

spot_record-len : (spot : Spot) (pos len : ℕ) → (record_at_spot pos len spot).len ≡ len
spot_record-len Zero pos len = refl
spot_record-len (Slice id size at) pos len = refl

-- The records of a plan of a range, put from a position on, show there what the list shows over the range.
pub plan-fills : (list : List Rec) (to : ℕ) (places : ℕ → Spot) (pieces : List Piece) (from at : ℕ)
    → IsPlan list from to pieces → All IsPart pieces → All (IsAsStored list) pieces
    → ((k : ℕ) → from + k < to → places (at + k) ≡ stored_place list (from + k)) → at + (to - from) ≤ WINDOW
    → Fills places at (at + (to - from)) (records_of_plan at pieces)
plan-fills list to places [] from at e parts stored shows small = omega (arith, e)
plan-fills list to places (piece ∷ pieces) from at (begins, is, rest) parts stored shows small =
    let later : Fills places (at + piece.len) (at + piece.len + (to - (from + piece.len))) (records_of_plan (at + piece.len) pieces) =
    plan-fills list to places pieces (from + piece.len) (at + piece.len) rest (All-tail IsPart piece pieces parts)
    (All-tail (IsAsStored list) piece pieces stored)
    (λ k low. ap places (omega arith) ∙ shows (piece.len + k) (omega (arith, low)) ∙ ap (stored_place list) (omega arith))
    (omega (arith, small, is.within, begins)) in (
      spot_record-pos piece.spot at piece.len,
      spot_record-is piece.spot at piece.len named part.some part.inside (omega (arith, small, is.within, begins)),
      (λ k low. spot_record-shows piece.spot at piece.len named k ∙ here k (subst (λ n. k < n) long low)),
      subst (λ n. Fills places (at + n) (at + (to - from)) (records_of_plan (at + piece.len) pieces)) (sym long)
          (subst (λ n. Fills places (at + piece.len) n (records_of_plan (at + piece.len) pieces)) end later),
    )
  where
    part : IsPart piece
    part = All-head IsPart piece pieces parts

    long : (record_at_spot at piece.len piece.spot).len ≡ piece.len
    long = spot_record-len piece.spot at piece.len

    named : (id size off : ℕ) → piece.spot ≡ Slice id size off → id ≢ 0
    named id size off e = shows_named list piece.from id size off (sym is.spot ∙ e)

    here : (k : ℕ) → k < piece.len → place_after piece.spot k ≡ places (at + k)
    here k low = All-head (IsAsStored list) piece pieces stored k low ∙ ap (λ n. stored_place list (n + k)) begins
        ∙ sym (shows k (omega (arith, low, is.within, begins)))

    end : at + piece.len + (to - (from + piece.len)) ≡ at + (to - from)
    end = omega (arith, is.within, begins)

-- ---- what holds of records that fill a range

-- they are records
pub fills-are : (places : ℕ → Spot) (from to : ℕ) (rs : List Rec) → Fills places from to rs → AllByRecursion IsRecord rs
fills-are places from to [] e = tt
fills-are places from to (r ∷ rs) (at, is, shows, rest) = (is, fills-are places (from + r.len) to rs rest)

-- and name slices that the places have
pub fills-name : (P : ℕ → ℕ → Type 0) (places : ℕ → Spot) (from to : ℕ) (rs : List Rec) → Fills places from to rs
    → ((k id size at : ℕ) → from ≤ k → k < to → places k ≡ Slice id size at → P id size)
    → AllByRecursion (λ r. r.id ≢ 0 → P r.id r.size) rs
fills-name P places from to [] e has = tt
fills-name P places from to (r ∷ rs) (at, is, shows, rest) has = (
  (λ named. has from r.id r.size (r.off + 0) (omega arith) (omega (arith, some, rises)) (ap places (omega arith) ∙ sym (shows 0 some) ∙ shown-slice r 0 named)),
  fills-name P places (from + r.len) to rs rest (λ k id size off low high e. has k id size off (omega (arith, low)) high e),
)
  where
    some : 0 < r.len
    some = record_some r is

    rises : from + r.len ≤ to
    rises = fills-rises places (from + r.len) to rs rest

-- each record is of a position at least
pub fills-few : (places : ℕ → Spot) (from to : ℕ) (rs : List Rec) → Fills places from to rs → from + length rs ≤ to
fills-few places from to [] e = omega (arith, e)
fills-few places from to (r ∷ rs) (at, is, shows, rest) =
    (let some = record_some r is in let more = fills-few places (from + r.len) to rs rest in omega (arith, some, more))

-- there are some where there is a position
pub fills-some : (places : ℕ → Spot) (from to : ℕ) (rs : List Rec) → Fills places from to rs → from < to → 0 < length rs
fills-some places from to [] e less = absurd (omega (arith, e, less))
fills-some places from to (r ∷ rs) f less = omega arith
