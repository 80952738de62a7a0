-- Laws of stretches.
use Rattle.std.proofs.Common.{◌≡◌, ◌≢◌, ℕ, suc, zero, ◌+◌, ◌-◌, ◌<◌, ◌≤◌, Bool, true, false, cond, List, [], ◌∷◌, ◌++◌, length, get_or, set, drop, Option, Some, None, refl, sym, ap, ◌∙◌, subst, arith, ⊎_elim}
use Rattle.std.specs.Option.{option_or}
use Rattle.std.proofs.lemmas.Bool.{cases_lt, false≢true, lt-leb, le-leb, lt-ltb, le-ltb}
use Rattle.std.proofs.lemmas.List.{append_assoc, append-nil, drop_more, drop_all, reverse-append}
use Rattle.std.proofs.lemmas.List.Elements.{All-cons, All-tail}
use Rattle.std.proofs.lemmas.List.Folds.{find-append}
use Rattle.std.specs.Prelude.{filter, find, reverse, All}
use Rattle.jv_model.specs.declared.slice.Rec.{Rec}
use Rattle.jv_model.specs.promise.blocks.Slices.{covers, visible}
use Rattle.jv_slices.specs.declared.layout.Stretch.{Stretch}
use Rattle.jv_slices.specs.Stretches.{IsSeen, Shows, Turns, Differ, IsLayout, touches}
use Rattle.jv_slices.proofs.PlanLaws.{shows_rises}

-- the same over two ranges that touch
pub seen_join : (all : ℕ → Option Rec) (from at to : ℕ) (r : Option Rec) → IsSeen all from at r → IsSeen all at to r → IsSeen all from to r
seen_join all from at to r front back = λ q low high. ⊎_elim (λ below. front q low below) (λ above. back q above high) (cases_lt q at)

pub shows_push : (all : ℕ → Option Rec) (from at to : ℕ) (r : Option Rec) (stretches : List Stretch) → Shows all from at stretches → at < to → IsSeen all at to r → Shows all from to (stretches ++ record { end = to; seen = r } ∷ [])
shows_push all from at to r [] e rises same =
    let P : ℕ → Type 0 = λ n. (n < to) × IsSeen all n to r × (to ≡ to) in subst P (sym e) (rises, same, refl)
shows_push all from at to r (stretch ∷ stretches) (up, seen, rest) rises same = (up, seen, shows_push all stretch.end at to r stretches rest rises same)

pub differ_push : (to : ℕ) (r : Option Rec) (stretches : List Stretch) (d : Stretch) → Differ stretches → ((k : ℕ) → length stretches ≡ k + 1 → (get_or stretches k d).seen ≢ r) → Differ (stretches ++ record { end = to; seen = r } ∷ [])
differ_push to r [] d h last = (tt, tt)
differ_push to r (stretch ∷ []) d h last = (last 0 (omega arith), (tt, tt))
differ_push to r (stretch ∷ next ∷ stretches) d (turns, more) last =
    (turns, differ_push to r (next ∷ stretches) d more (λ k e. last (suc k) (omega arith)))

pub shows_grow : (all : ℕ → Option Rec) (from at to : ℕ) (stretches : List Stretch) (k : ℕ) (v d : Stretch) → length stretches ≡ k + 1 → Shows all from at stretches → at ≤ to → IsSeen all at to v.seen → (get_or stretches k d).seen ≡ v.seen → v.end ≡ to → Shows all from to (set stretches k v)
shows_grow all from at to [] k v d l h rises same e f = absurd (omega arith)
shows_grow all from at to (stretch ∷ []) zero v d l (up, seen, end) rises same e f =
    let P : ℕ → Type 0 = λ n. (from < n) × IsSeen all from n v.seen × (n ≡ to) in
    let front : IsSeen all from at v.seen = λ q low high. seen q low (omega arith) ∙ e in
    subst P (sym f) (omega arith, seen_join all from at to v.seen front same, refl)
shows_grow all from at to (stretch ∷ []) (suc k) v d l h rises same e f = absurd (omega arith)
shows_grow all from at to (stretch ∷ next ∷ stretches) zero v d l h rises same e f = absurd (omega arith)
shows_grow all from at to (stretch ∷ next ∷ stretches) (suc k) v d l (up, seen, rest) rises same e f =
    (up, seen, shows_grow all stretch.end at to (next ∷ stretches) k v d (omega arith) rest rises same e f)

pub differ_grow : (stretches : List Stretch) (k : ℕ) (v d : Stretch) → length stretches ≡ k + 1 → Differ stretches → (get_or stretches k d).seen ≡ v.seen → Differ (set stretches k v)
differ_grow [] k v d l h e = tt
differ_grow (stretch ∷ []) zero v d l h e = (tt, tt)
differ_grow (stretch ∷ []) (suc k) v d l h e = absurd (omega arith)
differ_grow (stretch ∷ next ∷ stretches) zero v d l h e = absurd (omega arith)
differ_grow (stretch ∷ next ∷ []) (suc zero) v d l (turns, more) e = (λ p. turns (p ∙ sym e), (tt, tt))
differ_grow (stretch ∷ next ∷ after ∷ stretches) (suc zero) v d l h e = absurd (omega arith)
differ_grow (stretch ∷ next ∷ stretches) (suc (suc k)) v d l (turns, more) e =
    (turns_on stretch.seen next stretches (suc k) v turns, differ_grow (next ∷ stretches) (suc k) v d (omega arith) more e)
  where
    turns_on : (r : Option Rec) (next : Stretch) (stretches : List Stretch) (k : ℕ) (v : Stretch) → Turns r (next ∷ stretches) → Turns r (set (next ∷ stretches) (suc k) v)
    turns_on r next stretches k v h = h

pub shows_drop : (all : ℕ → Option Rec) (from to : ℕ) (stretches : List Stretch) (k : ℕ) (d : Stretch) → k < length stretches → Shows all from to (drop k stretches) → Shows all from to (get_or stretches k d ∷ drop (k + 1) stretches)
shows_drop all from to stretches k d below h = let P : List Stretch → Type 0 = λ rs. Shows all from to rs in subst P (drop_more stretches k d below) h

-- two layers: the upper one decides where it shows something
pub seen_over : (below above : ℕ → Option Rec) (from end low high : ℕ) (a b : Option Rec) → IsSeen below from low a → IsSeen above from high b → end ≤ low → end ≤ high → IsSeen (λ position. option_or (above position) (below position)) from end (option_or b a)
seen_over below above from end low high a b under over l h = λ q at up. ap (λ x. option_or x (below q)) (over q at (omega arith)) ∙ ap (option_or b) (under q at (omega arith))

pub shows_same : (f g : ℕ → Option Rec) → ((q : ℕ) → f q ≡ g q) → (from to : ℕ) (stretches : List Stretch) → Shows f from to stretches → Shows g from to stretches
shows_same f g same from to [] h = h
shows_same f g same from to (stretch ∷ stretches) (up, seen, rest) = (up, λ q low high. sym (same q) ∙ seen q low high, shows_same f g same stretch.end to stretches rest)

pub layout_same : (f g : ℕ → Option Rec) → ((q : ℕ) → f q ≡ g q) → (from to : ℕ) (stretches : List Stretch) → IsLayout f from to stretches → IsLayout g from to stretches
layout_same f g same from to stretches h = record { shows = shows_same f g same from to stretches h.shows; differ = h.differ }

-- later records lie over earlier ones
pub visible-append : (xs ys : List Rec) (position : ℕ) → visible (xs ++ ys) position ≡ option_or (visible ys position) (visible xs position)
visible-append xs ys position = ap (find (covers position)) (reverse-append xs ys) ∙ find-append (covers position) (reverse ys) (reverse xs)

-- what holds of all records holds of those before the last one
pub all_before : (P : Rec → Type 0) (before : List Rec) (last : Rec) → All P (before ++ last ∷ []) → All P before
all_before P [] last h = λ k d low. absurd (omega (arith, low))
all_before P (r ∷ before) last h = All-cons P r before (h 0 r (omega arith)) (all_before P before last (All-tail P r (before ++ last ∷ []) h))

-- the same of a range alone
shows_in : (f g : ℕ → Option Rec) (low high from : ℕ) (stretches : List Stretch) → ((q : ℕ) → low ≤ q → q < high → f q ≡ g q) → low ≤ from → Shows f from high stretches → Shows g from high stretches
shows_in f g low high from [] same above h = h
shows_in f g low high from (stretch ∷ stretches) same above (up, seen, rest) =
    let ends = shows_rises f stretch.end high stretches rest in
    (up, λ q l h. sym (same q (omega arith) (omega arith)) ∙ seen q l h, shows_in f g low high stretch.end stretches same (omega arith) rest)

pub layout_in : (f g : ℕ → Option Rec) (from to : ℕ) (stretches : List Stretch) → ((q : ℕ) → from ≤ q → q < to → f q ≡ g q) → IsLayout f from to stretches → IsLayout g from to stretches
layout_in f g from to stretches same h = record { shows = shows_in f g from to from stretches same (omega arith) h.shows; differ = h.differ }

-- the last stretch grows
pub layout_grow : (all : ℕ → Option Rec) (from at to n : ℕ) (r : Option Rec) (stretches : List Stretch) (last : Stretch) → n ≡ length stretches → 0 < length stretches → IsLayout all from at stretches → at ≤ to → IsSeen all at to r → last.seen ≡ r → last ≡ get_or stretches (n - 1) last → IsLayout all from to (set stretches (n - 1) (record { end = to; seen = last.seen }))
layout_grow all from at to n r stretches last e some h rises same f is =
    let long : length stretches ≡ n - 1 + 1 = omega arith in
    let same' : IsSeen all at to last.seen = λ q low high. same q low high ∙ sym f in
    let v : Stretch = record { end = to; seen = last.seen } in
    record {
      shows = shows_grow all from at to stretches (n - 1) v last long h.shows rises same' (sym (ap (λ (x : Stretch). x.seen) is)) refl;
      differ = differ_grow stretches (n - 1) v last long h.differ (sym (ap (λ (x : Stretch). x.seen) is));
    }

-- and one more stretch
pub layout_push : (all : ℕ → Option Rec) (from at to : ℕ) (r : Option Rec) (stretches : List Stretch) → IsLayout all from at stretches → at < to → IsSeen all at to r → ((k : ℕ) (d : Stretch) → length stretches ≡ k + 1 → (get_or stretches k d).seen ≢ r) → IsLayout all from to (stretches ++ record { end = to; seen = r } ∷ [])
layout_push all from at to r stretches h rises same other = record {
  shows = shows_push all from at to r stretches h.shows rises same;
  differ = differ_push to r stretches (record { end = to; seen = r }) h.differ (λ k. other k (record { end = to; seen = r }));
}

pub layout_none : (all : ℕ → Option Rec) (n : ℕ) (stretches : List Stretch) → stretches ≡ [] → IsLayout all n n stretches
layout_none all n stretches e = let P : List Stretch → Type 0 = λ rs. IsLayout all n n rs in subst P (sym e) (record { shows = refl; differ = tt })

-- what one record shows, before it, in it and behind it
pub only_before : (only : Rec) (q : ℕ) → q < only.pos → visible (only ∷ []) q ≡ None
only_before only q low = rw (lt-leb only.pos q low) refl

pub only_in : (only : Rec) (q : ℕ) → only.pos ≤ q → q < only.pos + only.len → visible (only ∷ []) q ≡ Some only
only_in only q low high = rw (le-leb only.pos q low, lt-ltb q (only.pos + only.len) high) refl

pub only_behind : (only : Rec) (q : ℕ) → only.pos + only.len ≤ q → visible (only ∷ []) q ≡ None
only_behind only q high = rw (le-leb only.pos q (omega arith), le-ltb q (only.pos + only.len) high) refl

pub shows_end : (all : ℕ → Option Rec) (from to : ℕ) (stretches : List Stretch) (k : ℕ) → length stretches ≤ k → Shows all from to (drop k stretches) → from ≡ to
shows_end all from to stretches k past h = let P : List Stretch → Type 0 = λ rs. Shows all from to rs in subst P (drop_all k stretches past) h

or_none : (o : Option Rec) → option_or o None ≡ o
or_none None = refl
or_none (Some r) = refl

far_behind : (from to q : ℕ) (r : Rec) → from ≤ q → q < to → r.pos ≤ q → touches from to r ≡ false → r.pos + r.len ≤ q
far_behind from to q r low high begun off = ⊎_elim
    (λ inside. absurd (false≢true (sym off ∙ rw (lt-ltb r.pos to (omega (arith, begun, high)), lt-ltb from (r.pos + r.len) inside) refl)))
    (λ past. omega (arith, past, low)) (cases_lt from (r.pos + r.len))

-- a record that doesn't touch a range shows nothing there
far_off : (from to q : ℕ) (r : Rec) → from ≤ q → q < to → touches from to r ≡ false → visible (r ∷ []) q ≡ None
far_off from to q r low high off = ⊎_elim
    (λ before. only_before r q before)
    (λ begun. only_behind r q (far_behind from to q r low high begun off)) (cases_lt q r.pos)

-- what a range shows, the records show that touch it
pub visible-touching : (from to q : ℕ) (records : List Rec) → from ≤ q → q < to → visible (filter (touches from to) records) q ≡ visible records q
visible-touching from to q [] low high = refl
visible-touching from to q (r ∷ records) low high = by_test (touches from to r) refl (visible-touching from to q records low high)
  where
    by_test : (v : Bool) → touches from to r ≡ v → visible (filter (touches from to) records) q ≡ visible records q → visible (cond v (r ∷ filter (touches from to) records) (filter (touches from to) records)) q ≡ visible (r ∷ records) q
    by_test true e rest =
        visible-append (r ∷ []) (filter (touches from to) records) q ∙ ap (λ (o : Option Rec). option_or o (visible (r ∷ []) q)) rest
        ∙ sym (visible-append (r ∷ []) records q)
    by_test false e rest =
        rest ∙ sym (or_none (visible records q)) ∙ ap (λ (o : Option Rec). option_or (visible records q) o) (sym (far_off from to q r low high e))
        ∙ sym (visible-append (r ∷ []) records q)

-- one record more was looked at, and is kept where it passes
pub kept-more : (p : Rec → Bool) (all near near' : List Rec) (k : ℕ) (d : Rec) → k < length all → filter p all ≡ near ++ filter p (drop k all)
    → near' ≡ cond (p (get_or all k d)) (near ++ get_or all k d ∷ []) near → filter p all ≡ near' ++ filter p (drop (k + 1) all)
kept-more p all near near' k d below e is =
    let x = get_or all k d in
    let rest = filter p (drop (k + 1) all) in
    e ∙ ap (λ (xs : List Rec). near ++ filter p xs) (drop_more all k d below) ∙ by_test (p x) x rest is
  where
    by_test : (v : Bool) (x : Rec) (rest : List Rec) → near' ≡ cond v (near ++ x ∷ []) near → near ++ cond v (x ∷ rest) rest ≡ near' ++ rest
    by_test true x rest same = sym (append_assoc near (x ∷ []) rest) ∙ ap (λ (xs : List Rec). xs ++ rest) (sym same)
    by_test false x rest same = ap (λ (xs : List Rec). xs ++ rest) (sym same)

pub kept-all : (p : Rec → Bool) (all near : List Rec) (k : ℕ) → length all ≤ k → filter p all ≡ near ++ filter p (drop k all) → near ≡ filter p all
kept-all p all near k past e = sym (append-nil near) ∙ ap (λ (xs : List Rec). near ++ filter p xs) (sym (drop_all k all past)) ∙ sym e
