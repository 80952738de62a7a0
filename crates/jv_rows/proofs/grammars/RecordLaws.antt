-- Reading records one after the other, as a loop does.
use Rattle.std.proofs.Common.{◌≡◌, ℕ, suc, ◌-◌, ◌+◌, ◌≤◌, ◌<◌, List, [], ◌∷◌, ◌++◌, length, Option, Some, None, refl, sym, ap, subst, ◌∙◌, append_assoc, arith}
use Rattle.std.specs.Int.{Width, w32, w64, byte_len}
use Rattle.std.proofs.lemmas.List.{append-nil, length-drop}
use Rattle.jv_model.specs.declared.slice.Rec.{Rec}
use Rattle.jv_model.specs.declared.tables.TheConstants.{RECORD_LENGTH}
use Rattle.jv_model.specs.promise.Optional.{◌>>=◌}
use Rattle.jv_model.specs.promise.rows.RowFields.{number_at}
use Rattle.jv_model.specs.promise.rows.RowGrammar.{record_at, records_at}
use Rattle.jv_rows.specs.declared.misread.Misread.{Misread}
use Rattle.jv_rows.specs.declared.misread.Misread.TheVariants.{Malformed, Memory}
use Rattle.jv_rows.specs.Reads.{Misses}
use Rattle.jv_rows.proofs.grammars.FieldLaws.{number_is}

-- what was read before, and what is still read
abbrev pub with_front : List Rec → Option (List Rec × List ℕ) → Option (List Rec × List ℕ)
with_front front read = read >>= λ x. Some (front ++ x.0, x.1)

regroup : (front : List Rec) (r : Rec) (read : Option (List Rec × List ℕ)) → with_front front (read >>= λ x. Some (r ∷ x.0, x.1)) ≡ with_front (front ++ r ∷ []) read
regroup front r (Some x) = ap (λ (rs : List Rec). Some (rs, x.1)) (simp append_assoc)
regroup front r None = refl

pub goes_on : (front : List Rec) (count i : ℕ) (bytes : List ℕ) (r : Rec) (after : List ℕ) (total : Option (List Rec × List ℕ)) → i < count → record_at bytes ≡ Some (r, after)
    → with_front front (records_at (count - i) bytes) ≡ total → with_front (front ++ r ∷ []) (records_at (count - (i + 1)) after) ≡ total
unfolding records_at
goes_on front count i bytes r after total lt h so_far =
    let k : count - i ≡ suc (count - (i + 1)) = omega arith in
    let one : with_front front (records_at (count - i) bytes) ≡ with_front (front ++ r ∷ []) (records_at (count - (i + 1)) after) = rw (k, h) (regroup front r (records_at (count - (i + 1)) after)) in
    sym one ∙ so_far

pub ends : (e : Misread) (front : List Rec) (count i : ℕ) (bytes : List ℕ) (total : Option (List Rec × List ℕ)) → i < count → Misses e (record_at bytes)
    → with_front front (records_at (count - i) bytes) ≡ total → Misses e total
unfolding records_at
ends Memory front count i bytes total lt h so_far = tt
ends Malformed front count i bytes total lt h so_far =
    let k : count - i ≡ suc (count - (i + 1)) = omega arith in
    let one : with_front front (records_at (count - i) bytes) ≡ None = rw (k, h) refl in
    sym so_far ∙ one

pub is_done : (front : List Rec) (count i : ℕ) (bytes : List ℕ) (total : Option (List Rec × List ℕ)) → count ≤ i → with_front front (records_at (count - i) bytes) ≡ total → total ≡ Some (front, bytes)
unfolding records_at
is_done front count i bytes total le so_far =
    let k : count - i ≡ 0 = omega arith in
    let one : with_front front (records_at (count - i) bytes) ≡ Some (front, bytes) = rw k (ap (λ (rs : List Rec). Some (rs, bytes)) (append-nil front)) in
    sym so_far ∙ one

-- pieces added one after another are one piece added
pub five_pieces : (out a b c d e : List ℕ) → ((((out ++ a) ++ b) ++ c) ++ d) ++ e ≡ out ++ ((((a ++ b) ++ c) ++ d) ++ e)
five_pieces out a b c d e = simp append_assoc

-- ---- too few bytes

-- nothing is read where nothing can be read of the bytes that a number in front leaves
short_number : {B : Type 0} (w : Width) (bytes : List ℕ) (next : ℕ × List ℕ → Option B)
    → ((x : ℕ × List ℕ) → length x.1 + byte_len w ≡ length bytes → next x ≡ None) → (number_at w bytes >>= next) ≡ None
short_number {B} w bytes next none = by_reading (number_at w bytes) refl
  where
    by_reading : (o : Option (ℕ × List ℕ)) → number_at w bytes ≡ o → (o >>= next) ≡ None
    by_reading None e = refl
    by_reading (Some x) e =
        let g = number_is w bytes x e in
        none x (subst (λ (p : ℕ × List ℕ). length p.1 + byte_len w ≡ length bytes) g.1 (omega (arith, length-drop (byte_len w) bytes, g.0)))

pub no_record : (bytes : List ℕ) → length bytes < RECORD_LENGTH → record_at bytes ≡ None
unfolding record_at
no_record bytes short =
    short_number w32 bytes _ λ pos p.
    short_number w64 pos.1 _ λ id q.
    short_number w32 id.1 _ λ size r.
    short_number w32 size.1 _ λ off s.
    short_number w32 off.1 _ λ len t.
    absurd (too_many (length pos.1) (length id.1) (length size.1) (length off.1) (length len.1) p q r s t)
  where
    too_many : (a b c d e : ℕ) → a + 4 ≡ length bytes → b + 8 ≡ a → c + 4 ≡ b → d + 4 ≡ c → e + 4 ≡ d → ⊥
    too_many a b c d e p q r s t = (let least : length bytes < 24 = short in omega (arith, least, p, q, r, s, t))
