-- Pending bytes in rising order, and what a write leaves of them.
use Rattle.std.proofs.Common.{◌≡◌, ℕ, ◌+◌, ◌<◌, ◌≤◌, true, false, cond, ltb, List, [], ◌∷◌, ◌++◌, length, ⊎_elim, refl, sym, ap, ◌∙◌, arith, nat_lt, if◌then◌else◌}
use Rattle.std.proofs.lemmas.Bool.{cases_order, cases_lt, cond-true, cond-false, lt-ltb, le-ltb}
use Rattle.jv_model.specs.declared.limits.TheConstants.{FILE_END}
use Rattle.jv_model.specs.promise.client.Pending.{PendingByte, stands_at, comes_before, byte_set, written}
use Rattle.jv_pending.specs.Runs.{place, placed}
use Rattle.jv_pending.proofs.PlaceLaws.{byte_place, stands_here, stands_apart, after_true, after_false}

-- the bytes rise strictly from a place on
abbrev pub Rises : ℕ → List PendingByte → Type 0
Rises low [] = Unit {0}
Rises low (b ∷ bs) = (b.position < FILE_END) × (low ≤ byte_place b) × Rises (byte_place b + 1) bs

-- the bytes at the front that lie below a place, and what follows them
abbrev pub front : ℕ → List PendingByte → List PendingByte
front n [] = []
front n (b ∷ bs) = if nat_lt (byte_place b) n then b ∷ front n bs else []

abbrev pub back : ℕ → List PendingByte → List PendingByte
back n [] = []
back n (b ∷ bs) = if nat_lt (byte_place b) n then back n bs else b ∷ bs

pub front_below : (n : ℕ) (b : PendingByte) (bs : List PendingByte) → byte_place b < n → front n (b ∷ bs) ≡ b ∷ front n bs
front_below n b bs h = cond-true (ltb (byte_place b) n) (b ∷ front n bs) [] (lt-ltb (byte_place b) n h)

pub front_from : (n : ℕ) (bs : List PendingByte) → Rises n bs → front n bs ≡ []
front_from n [] r = refl
front_from n (b ∷ bs) r = cond-false (ltb (byte_place b) n) (b ∷ front n bs) [] (le-ltb (byte_place b) n r.1)

pub back_below : (n : ℕ) (b : PendingByte) (bs : List PendingByte) → byte_place b < n → back n (b ∷ bs) ≡ back n bs
back_below n b bs h = cond-true (ltb (byte_place b) n) (back n bs) (b ∷ bs) (lt-ltb (byte_place b) n h)

pub back_here : (n : ℕ) (b : PendingByte) (bs : List PendingByte) → n ≤ byte_place b → back n (b ∷ bs) ≡ b ∷ bs
back_here n b bs h = cond-false (ltb (byte_place b) n) (back n bs) (b ∷ bs) (le-ltb (byte_place b) n h)

pub back_from : (n : ℕ) (bs : List PendingByte) → Rises n bs → back n bs ≡ bs
back_from n [] r = refl
back_from n (b ∷ bs) r = cond-false (ltb (byte_place b) n) (back n bs) (b ∷ bs) (le-ltb (byte_place b) n r.1)

pub Rises-weaker : (m n : ℕ) (bs : List PendingByte) → n ≤ m → Rises m bs → Rises n bs
Rises-weaker m n [] h r = tt
Rises-weaker m n (b ∷ bs) h r = (r.0, omega arith, r.2)

pub Rises-back : (m n : ℕ) (bs : List PendingByte) → Rises m bs → Rises n (back n bs)
Rises-back m n [] r = tt
Rises-back m n (b ∷ bs) r =
    ⊎_elim
    (λ l. rw (back_below n b bs l) (Rises-back (byte_place b + 1) n bs r.2))
    (λ g. let q : Rises n (b ∷ bs) = (r.0, g, r.2) in rw (back_from n (b ∷ bs) q) q)
    (cases_lt (byte_place b) n)

-- a write over bytes of which all come later
byte_set_front : (i f b : ℕ) (t : List PendingByte) → Rises (place i f + 1) t → byte_set i f b t ≡ record { inode = i; position = f; byte = b } ∷ t
byte_set_front i f b [] r = refl
byte_set_front i f b (x ∷ t) r =
    let s : stands_at i f x ≡ false = stands_apart i f x (λ e. omega arith) in
    let a : comes_before i f x ≡ true = after_true i f x r.0 (omega arith) in
    cond-false (stands_at i f x) _ _ s ∙ cond-true (comes_before i f x) _ _ a

byte_set_past : (i f b : ℕ) (x : PendingByte) (t : List PendingByte) → f < FILE_END → byte_place x < place i f → byte_set i f b (x ∷ t) ≡ x ∷ byte_set i f b t
byte_set_past i f b x t l h =
    let s : stands_at i f x ≡ false = stands_apart i f x (λ e. omega arith) in
    let a : comes_before i f x ≡ false = after_false i f x l h in
    cond-false (stands_at i f x) _ _ s ∙ cond-false (comes_before i f x) _ _ a

byte_set_here : (i f b : ℕ) (x : PendingByte) (t : List PendingByte) → f < FILE_END → x.position < FILE_END → byte_place x ≡ place i f → byte_set i f b (x ∷ t) ≡ record { inode = i; position = f; byte = b } ∷ t
byte_set_here i f b x t l h e = cond-true (stands_at i f x) _ _ (stands_here i f x h l e)

written_past : (i f : ℕ) (bs : List ℕ) (x : PendingByte) (t : List PendingByte) → f + length bs ≤ FILE_END → byte_place x < place i f → written i f bs (x ∷ t) ≡ x ∷ written i f bs t
written_past i f [] x t l h = refl
written_past i f (b ∷ bs) x t l h =
    ap (byte_set i f b) (written_past i (f + 1) bs x t (omega arith) (omega arith)) ∙ byte_set_past i f b x (written i (f + 1) bs t) (omega arith) h

pub Rises-placed : (i f low to : ℕ) (bs : List ℕ) (t : List PendingByte) → to ≡ f + length bs → to ≤ FILE_END → low ≤ place i f → Rises (place i to) t → Rises low (placed i f bs ++ t)
Rises-placed i f low to [] t e l h r = Rises-weaker (place i to) low t (omega arith) r
Rises-placed i f low to (b ∷ bs) t e l h r =
    (omega arith, h, Rises-placed i (f + 1) (place i f + 1) to bs t (omega arith) l (omega arith) r)

written_from : (i f to : ℕ) (bs : List ℕ) (q : List PendingByte) → to ≡ f + length bs → to ≤ FILE_END → Rises (place i f) q → written i f bs q ≡ placed i f bs ++ back (place i to) q
written_from i f to [] q e l r = let h : Rises (place i to) q = Rises-weaker (place i f) (place i to) q (omega arith) r in sym (back_from (place i to) q h)
written_from i f to (b ∷ bs) [] e l r =
    ap (byte_set i f b) (written_from i (f + 1) to bs [] (omega arith) l tt)
    ∙ byte_set_front i f b (placed i (f + 1) bs ++ []) (Rises-placed i (f + 1) (place i f + 1) to bs [] (omega arith) l (omega arith) tt)
written_from i f to (b ∷ bs) (x ∷ q) e l r =
    ⊎_elim
    (λ here.
    ap (byte_set i f b) (written_past i (f + 1) bs x q (omega arith) (omega arith) ∙ ap (λ (t : List PendingByte). x ∷ t) (written_from i (f + 1) to bs q (omega arith) l (Rises-weaker (byte_place x + 1) (place i (f + 1)) q (omega arith) r.2)))
    ∙ byte_set_here i f b x (placed i (f + 1) bs ++ back (place i to) q) (omega arith) r.0 here
    ∙ ap (λ (t : List PendingByte). record { inode = i; position = f; byte = b } ∷ (placed i (f + 1) bs ++ t)) (sym (back_below (place i to) x q (omega arith))))
    (λ o.
    let above : Rises (place i (f + 1)) (x ∷ q) = (r.0, ⊎_elim (λ g. omega arith) (λ g. omega arith) o, r.2) in
    ap (byte_set i f b) (written_from i (f + 1) to bs (x ∷ q) (omega arith) l above)
    ∙ byte_set_front i f b (placed i (f + 1) bs ++ back (place i to) (x ∷ q)) (Rises-placed i (f + 1) (place i f + 1) to bs (back (place i to) (x ∷ q)) (omega arith) l (omega arith) (Rises-back (place i f) (place i to) (x ∷ q) r)))
    (cases_order (byte_place x) (place i f))

-- a write leaves what lies before it, its own bytes, and what lies after it
pub written_is : (i f to low : ℕ) (bs : List ℕ) (p : List PendingByte) → to ≡ f + length bs → to ≤ FILE_END → Rises low p → written i f bs p ≡ front (place i f) p ++ (placed i f bs ++ back (place i to) p)
written_is i f to low bs [] e l r = written_from i f to bs [] e l tt
written_is i f to low bs (x ∷ p) e l r =
    ⊎_elim
    (λ below.
    written_past i f bs x p (omega arith) below
    ∙ ap (λ (t : List PendingByte). x ∷ t) (written_is i f to (byte_place x + 1) bs p e l r.2)
    ∙ sym (ap (λ (t : List PendingByte). t ++ (placed i f bs ++ back (place i to) (x ∷ p))) (front_below (place i f) x p below)
    ∙ ap (λ (t : List PendingByte). x ∷ (front (place i f) p ++ (placed i f bs ++ t))) (back_below (place i to) x p (omega arith))))
    (λ from.
    let q : Rises (place i f) (x ∷ p) = (r.0, from, r.2) in
    written_from i f to bs (x ∷ p) e l q
    ∙ sym (ap (λ (t : List PendingByte). t ++ (placed i f bs ++ back (place i to) (x ∷ p))) (front_from (place i f) (x ∷ p) q)))
    (cases_lt (byte_place x) (place i f))

byte_set_length : (i f b : ℕ) (p : List PendingByte) → length (byte_set i f b p) ≤ length p + 1
byte_set_length i f b [] = omega arith
byte_set_length i f b (x ∷ p) =
    elim (stands_at i f x) as (λ s. length (cond s (record { inode = i; position = f; byte = b } ∷ p) (cond (comes_before i f x) (record { inode = i; position = f; byte = b } ∷ x ∷ p) (x ∷ byte_set i f b p))) ≤ length (x ∷ p) + 1) [
      | true ↦ omega arith
      | false ↦ elim (comes_before i f x) as (λ s. length (cond s (record { inode = i; position = f; byte = b } ∷ x ∷ p) (x ∷ byte_set i f b p)) ≤ length (x ∷ p) + 1) [
        | true ↦ omega arith
        | false ↦ omega (arith, byte_set_length i f b p)
      ]
    ]

pub written_length : (i f : ℕ) (bs : List ℕ) (p : List PendingByte) → length (written i f bs p) ≤ length p + length bs
written_length i f [] p = omega arith
written_length i f (b ∷ bs) p = omega (arith, byte_set_length i f b (written i (f + 1) bs p), written_length i (f + 1) bs p)

-- a write in two parts
pub written-append : (i f : ℕ) (xs ys : List ℕ) (p : List PendingByte) → written i f (xs ++ ys) p ≡ written i f xs (written i (f + length xs) ys p)
written-append i f [] ys p = ap (λ n. written i n ys p) (omega arith)
written-append i f (x ∷ xs) ys p = ap (byte_set i f x) (written-append i (f + 1) xs ys p ∙ ap (λ n. written i (f + 1) xs (written i n ys p)) (omega arith))
