-- What several writes in a row do to the bytes of a sink.
use Rattle.std.proofs.Common.{ℕ, ◌+◌, ◌-◌, List, [], ◌++◌, length, take, drop, Option, Some, None, sym, ap, ◌∙◌, append_assoc, append-nil}
use Rattle.std.proofs.Math.Seq.{take-add}
use Rattle.std.proofs.lemmas.List.{take_rest}
use Rattle.jv_outside.specs.promise.Stream.{Gains}

-- nothing is gained
pub Gains-nil : (a : Option (List ℕ)) → Gains a a []
Gains-nil None = record { known = tt }
Gains-nil (Some xs) = record { known = sym (append-nil xs) }

-- one gain after another
pub Gains-trans : (a b c : Option (List ℕ)) (first second : List ℕ) → Gains a b first → Gains b c second → Gains a c (first ++ second)
Gains-trans a b None first second p q = record { known = tt }
Gains-trans a None (Some zs) first second p q = absurd q.known
Gains-trans None (Some ys) (Some zs) first second p q = absurd p.known
Gains-trans (Some xs) (Some ys) (Some zs) first second p q =
    record { known = q.known ∙ ap (λ l. l ++ second) p.known ∙ append_assoc xs first second }

-- the bytes up to a place were gained, and then more from there on
pub Gains-more : (a b c : Option (List ℕ)) (bytes : List ℕ) (at count : ℕ) → Gains a b (take at bytes)
    → Gains b c (take count (take (length bytes - at) (drop at bytes))) → Gains a c (take (at + count) bytes)
Gains-more a b c bytes at count p q =
    let rest : Gains b c (take count (drop at bytes)) = rw take_rest at q in
    rw take-add (Gains-trans a b c _ _ p rest)
